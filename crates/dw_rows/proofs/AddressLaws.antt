-- Laws of the rest of a program as cells: its bytes are those that are left, and what an operation reads at its front.
use Rattle.std.proofs.Common.{Bool, true, false, ◌≡◌, ◌≢◌, ℕ, ◌+◌, ◌-◌, ◌<◌, ◌≤◌, ◌^◌, ◌==◌, nat_le, nat_lt, if◌then◌else◌, List, length, take, drop, Option, Some, None, refl, sym, ap, ◌∙◌, arith}
use Rattle.std.specs.Prelude.{option_and_then, option_map, slice_index}
use Rattle.std.proofs.lemmas.Bool.Decides.{nat_tests}
use Rattle.std.proofs.lemmas.List.{drop-drop, drop-take, take-take, length-take-le, length-drop}
use Rattle.dw_base.proofs.OperationLaws.{address-body}
use Rattle.dw_base.proofs.RelocationFieldLaws.{bytes_of-drop, bytes_of-take}
use Rattle.dw_base.proofs.ViewCellLaws.{address_at-by, bytes_of-view_cells, length-view_cells}
use Rattle.dw_base.specs.Cells.{Cell, address_by, bytes_of}
use Rattle.dw_base.specs.FileViews.{View, address_at, section_bytes, view_cells}
use Rattle.dw_base.specs.Lebs.{uleb_at}
use Rattle.dw_base.specs.LineOperations.{extended, extended_in, extended_operation, operation_in, operation_of, special_operation, standard_operation}
use Rattle.dw_base.specs.Numbers.{spelled}
use Rattle.dw_base.specs.RelocationFields.{relocation_at}
use Rattle.dw_base.specs.UnitHeaders.{is_address_size}
use Rattle.dw_base.specs.ValueMeanings.{address_of}
use Rattle.dw_base.specs.declared.shared.Order.{Order}
use Rattle.dw_base.specs.declared.line_rows.LineParams.{LineParams}
use Rattle.dw_base.specs.declared.line_rows.Operation.{Operation}
use Rattle.dw_base.specs.declared.line_rows.Operation.TheVariants.{EndSequence, SetAddress, SetDiscriminator, Skip}
use Rattle.dw_base.specs.declared.view_fields.Field.{Field}
use Rattle.dw_rows.specs.ProgramPlaces.{StandsIn, cells_left, set_address}

-- the bytes of what is left
pub bytes-left : (v : View) (section place : ℕ) (left : List ℕ) → StandsIn v section place left → bytes_of (cells_left v section place left) ≡ left
bytes-left v section place left s =
    bytes_of-take (length left) (drop place (view_cells v section)) ∙ ap (take (length left)) (bytes_of-drop place (view_cells v section))
    ∙ ap (λ (bs : List ℕ). take (length left) (drop place bs)) (bytes_of-view_cells v section) ∙ sym s.is

pub small-left : (v : View) (section place : ℕ) (left : List ℕ) → StandsIn v section place left → length left ≤ 2 ^ 31
small-left v section place left s = (let small = s.small in omega (arith, small))

-- the first bytes of what is left, and those behind them
pub stands-front : (v : View) (section place n : ℕ) (left front : List ℕ) → StandsIn v section place left → n ≤ length left → front ≡ take n left → StandsIn v section place front
stands-front v section place n left front s le f =
    let size : length front ≡ n = ap length f ∙ length-take-le n left le in
    let within = s.within in
    let small = s.small in
    record {
      there = s.there;
      within = omega (arith, size, le, within);
      small = omega (arith, size, le, small);
      is = f ∙ ap (take n) s.is ∙ take-take n (length left) (drop place (section_bytes v section)) le
          ∙ ap (λ (k : ℕ). take k (drop place (section_bytes v section))) (sym size);
    }

pub cells-front : (v : View) (section place n : ℕ) (left front : List ℕ) → n ≤ length left → front ≡ take n left
    → cells_left v section place front ≡ take n (cells_left v section place left)
cells-front v section place n left front le f =
    let size : length front ≡ n = ap length f ∙ length-take-le n left le in
    ap (λ (k : ℕ). take k (drop place (view_cells v section))) size ∙ sym (take-take n (length left) (drop place (view_cells v section)) le)

rest-behind : {X : Type 0} (xs : List X) (place n m k : ℕ) → n ≤ m → k ≡ m - n → take k (drop (place + n) xs) ≡ drop n (take m (drop place xs))
rest-behind xs place n m k le e =
    let sum : n + (m - n) ≡ m = omega (arith, le) in
    ap (λ (i : ℕ). take i (drop (place + n) xs)) e ∙ ap (take (m - n)) (sym (drop-drop n place xs)) ∙ sym (drop-take n (m - n) (drop place xs))
    ∙ ap (λ (i : ℕ). drop n (take i (drop place xs))) sum

pub stands-behind : (v : View) (section place n next : ℕ) (left behind : List ℕ) → StandsIn v section place left → n ≤ length left → next ≡ place + n → behind ≡ drop n left
    → StandsIn v section next behind
stands-behind v section place n next left behind s le p b =
    let size : length behind ≡ length left - n = ap length b ∙ length-drop n left in
    let within = s.within in
    let small = s.small in
    record {
      there = s.there;
      within = omega (arith, size, le, p, within);
      small = omega (arith, size, le, p, small);
      is = b ∙ ap (drop n) s.is ∙ sym (rest-behind (section_bytes v section) place n (length left) (length behind) le size)
          ∙ ap (λ (k : ℕ). take (length behind) (drop k (section_bytes v section))) (sym p);
    }

pub cells-behind : (v : View) (section place n next : ℕ) (left behind : List ℕ) → n ≤ length left → next ≡ place + n → behind ≡ drop n left
    → cells_left v section next behind ≡ drop n (cells_left v section place left)
cells-behind v section place n next left behind le p b =
    let size : length behind ≡ length left - n = ap length b ∙ length-drop n left in
    ap (λ (k : ℕ). take (length behind) (drop k (view_cells v section))) p
    ∙ rest-behind (view_cells v section) place n (length left) (length behind) le size

-- an address
address-left : (v : View) (section start place n : ℕ) (body : List ℕ) → StandsIn v section start body → 0 < n → place + n ≡ length body
    → address_of v.order (drop place (cells_left v section start body)) ≡ address_at v section (start + place) n
address-left v section start place n body s some e =
    let within = s.within in
    let size : length (view_cells v section) ≡ length (section_bytes v section) = length-view_cells v section in
    let rest : start + length body - (start + place) ≡ n = omega (arith, e) in
    ap (address_of v.order)
    (sym (ap (drop place) (drop-take start (length body) (view_cells v section)))
    ∙ drop-drop place start (take (start + length body) (view_cells v section)))
    ∙ address-body v.order (view_cells v section) (start + length body) (start + place) (omega (arith, e, some)) (omega (arith, size, within))
    ∙ ap (λ (k : ℕ). address_by (relocation_at (view_cells v section) (start + place)) (spelled v.order (bytes_of (view_cells v section)) (start + place) k)) rest
    ∙ ap (λ (bs : List ℕ). address_by (relocation_at (view_cells v section) (start + place)) (spelled v.order bs (start + place) n)) (bytes_of-view_cells v section)
    ∙ sym (address_at-by v section (start + place) n)

set-of : (order : Order) (cells : List Cell) (place n : ℕ) → length (bytes_of cells) - place ≡ n
    → set_address order cells place ≡ (if is_address_size n then Some (SetAddress (address_of order (drop place cells))) else None)
set-of order cells place n e = ap (λ (k : ℕ). if is_address_size k then Some (SetAddress (address_of order (drop place cells))) else None) e

pub set-some : (v : View) (section start place size : ℕ) (body : List ℕ) (f : Field) → StandsIn v section start body → place ≤ length body → size ≡ length body - place → 0 < size
    → is_address_size size ≡ true → f ≡ address_at v section (start + place) size → Some (SetAddress f) ≡ set_address v.order (cells_left v section start body) place
set-some v section start place size body f s inside e some is a =
    let len = ap length (bytes-left v section start body s) in
    sym (set-of v.order (cells_left v section start body) place size (omega (arith, len, e))
    ∙ ap (λ (b : Bool). if b then Some (SetAddress (address_of v.order (drop place (cells_left v section start body)))) else None) is
    ∙ ap (λ (x : Field). Some (SetAddress x)) (address-left v section start place size body s some (omega (arith, inside, e)) ∙ sym a))

pub set-none : (v : View) (section start place : ℕ) (body : List ℕ) → StandsIn v section start body → is_address_size (length body - place) ≡ false
    → None ≡ set_address v.order (cells_left v section start body) place
set-none v section start place body s is =
    let len = ap length (bytes-left v section start body s) in
    sym (set-of v.order (cells_left v section start body) place (length body - place) (omega (arith, len))
    ∙ ap (λ (b : Bool). if b then Some (SetAddress (address_of v.order (drop place (cells_left v section start body)))) else None) is)

pub address-there : (v : View) (section start : ℕ) (body : List ℕ) → StandsIn v section start body → section < length v.sections
address-there v section start body s = s.there

pub address-inside : (v : View) (section start place size : ℕ) (body : List ℕ) → StandsIn v section start body → place ≤ length body → size ≡ length body - place
    → start + place + size ≤ length (section_bytes v section)
address-inside v section start place size body s inside e = (let within = s.within in omega (arith, inside, e, within))

pub address-small : (v : View) (section start place : ℕ) (body : List ℕ) → StandsIn v section start body → place ≤ length body → start + place < 2 ^ 64
address-small v section start place body s inside = (let small = s.small in omega (arith, inside, small))

pub ruleset address_laws = (set-some, set-none, address-there, address-inside, address-small)

-- what an extended opcode does, by its code
pub code-last : (order : Order) (cells : List Cell) (code place : ℕ) → code ≡ 1 → Some EndSequence ≡ extended order cells code place
unfolding extended
code-last order cells code place e = rw e refl

pub code-address : (order : Order) (cells : List Cell) (code place : ℕ) (x : Option Operation) → code ≡ 2 → x ≡ set_address order cells place → x ≡ extended order cells code place
unfolding extended
code-address order cells code place x e is = rw e is

pub code-number : (v : View) (section start : ℕ) (body : List ℕ) (code place : ℕ) (x : Option Operation) → StandsIn v section start body → code ≡ 4
    → x ≡ option_map (λ n. SetDiscriminator n.0) (uleb_at body place) → x ≡ extended v.order (cells_left v section start body) code place
unfolding extended
code-number v section start body code place x s e is =
    rw e (is ∙ ap (λ (bs : List ℕ). option_map (λ n. SetDiscriminator n.0) (uleb_at bs place)) (sym (bytes-left v section start body s)))

other-number : (m n : ℕ) → m ≢ n → (m == n) ≡ false
other-number m n e = grind (arith, nat_tests)

pub code-other : (order : Order) (cells : List Cell) (code place : ℕ) → code ≢ 1 → code ≢ 2 → code ≢ 4 → Some Skip ≡ extended order cells code place
unfolding extended
code-other order cells code place a b c = rw (other-number code 1 a, other-number code 2 b, other-number code 4 c) refl

pub ruleset code_laws = (code-last, code-address, code-number, code-other)

-- an extended opcode of a size
le-true : (m n : ℕ) → m ≤ n → nat_le m n ≡ true
le-true m n le = grind (arith, nat_tests)

lt-false : (m n : ℕ) → n < m → nat_le m n ≡ false
lt-false m n lt = grind (arith, nat_tests)

pub size-none : (order : Order) (cells : List Cell) (first size : ℕ) → size ≡ 0 → None ≡ extended_in order cells first size
unfolding extended_in
size-none order cells first size e = rw e refl

none-by : {Y : Type 0} (a b : Bool) (x : Option Y) → b ≡ false → None ≡ (if a then None else (if b then x else None))
none-by true b x e = refl
none-by false b x e = ap (λ (t : Bool). if t then x else None) (sym e)

pub size-far : (v : View) (section start : ℕ) (left : List ℕ) (first size : ℕ) → StandsIn v section start left → first ≤ length left → length left - first < size
    → None ≡ extended_in v.order (cells_left v section start left) first size
unfolding extended_in
size-far v section start left first size s inside far =
    let len = ap length (bytes-left v section start left s) in
    none-by (size == 0) (nat_le (first + size) (length (bytes_of (cells_left v section start left)))) _
    (lt-false (first + size) (length (bytes_of (cells_left v section start left))) (omega (arith, len, far, inside)))

size-is : (v : View) (section start : ℕ) (left body : List ℕ) (first size next code : ℕ) → StandsIn v section start left → first + size ≤ length left → size ≢ 0
    → next ≡ first + size → code ≡ slice_index left first → body ≡ take next left
    → extended_in v.order (cells_left v section start left) first size
    ≡ option_map (λ o. (o, next)) (extended v.order (cells_left v section start body) code (first + 1))
unfolding extended_in
size-is v section start left body first size next code s inside some n c b =
    let len = ap length (bytes-left v section start left s) in
    ap (λ (t : Bool). if t then None else (if nat_le (first + size) (length (bytes_of (cells_left v section start left)))
    then option_map (λ o. (o, first + size)) (extended v.order (take (first + size) (cells_left v section start left)) (slice_index (bytes_of (cells_left v section start left)) first) (first + 1))
    else None)) (other-number size 0 some)
    ∙ ap (λ (t : Bool). if t
    then option_map (λ o. (o, first + size)) (extended v.order (take (first + size) (cells_left v section start left)) (slice_index (bytes_of (cells_left v section start left)) first) (first + 1))
    else None) (le-true (first + size) (length (bytes_of (cells_left v section start left))) (omega (arith, len, inside)))
    ∙ ap (λ (bs : List ℕ). option_map (λ o. (o, first + size)) (extended v.order (take (first + size) (cells_left v section start left)) (slice_index bs first) (first + 1)))
    (bytes-left v section start left s)
    ∙ ap (λ (k : ℕ). option_map (λ o. (o, first + size)) (extended v.order (take (first + size) (cells_left v section start left)) k (first + 1))) (sym c)
    ∙ ap (λ (k : ℕ). option_map (λ o. (o, k)) (extended v.order (take k (cells_left v section start left)) code (first + 1))) (sym n)
    ∙ ap (λ (cs : List Cell). option_map (λ o. (o, next)) (extended v.order cs code (first + 1))) (sym (cells-front v section start next left body (omega (arith, n, inside)) b))

pub size-some : (v : View) (section start : ℕ) (left body : List ℕ) (first size next code : ℕ) (o : Operation) → StandsIn v section start left → first ≤ length left
    → size ≤ length left - first → size ≢ 0 → next ≡ first + size → code ≡ slice_index left first → body ≡ take next left
    → Some o ≡ extended v.order (cells_left v section start body) code (first + 1) → Some (o, next) ≡ extended_in v.order (cells_left v section start left) first size
size-some v section start left body first size next code o s inside le some n c b e =
    ap (option_map (λ o. (o, next))) e ∙ sym (size-is v section start left body first size next code s (omega (arith, inside, le)) some n c b)

pub size-other : (v : View) (section start : ℕ) (left body : List ℕ) (first size next code : ℕ) → StandsIn v section start left → first ≤ length left
    → size ≤ length left - first → size ≢ 0 → next ≡ first + size → code ≡ slice_index left first → body ≡ take next left
    → None ≡ extended v.order (cells_left v section start body) code (first + 1) → None ≡ extended_in v.order (cells_left v section start left) first size
size-other v section start left body first size next code s inside le some n c b e =
    ap (option_map (λ o. (o, next))) e ∙ sym (size-is v section start left body first size next code s (omega (arith, inside, le)) some n c b)

pub ruleset size_laws = (size-none, size-far, size-some, size-other, stands-front)

-- an extended opcode at the front
pub front-some : (v : View) (section start : ℕ) (left : List ℕ) (size front : ℕ) (x : Option (Operation × ℕ)) → StandsIn v section start left → Some (size, front) ≡ uleb_at left 1
    → x ≡ extended_in v.order (cells_left v section start left) (1 + front) size → x ≡ extended_operation v.order (cells_left v section start left)
unfolding extended_operation
front-some v section start left size front x s e is =
    is ∙ ap (option_and_then (λ size. extended_in v.order (cells_left v section start left) (1 + size.1) size.0))
    (e ∙ ap (λ (bs : List ℕ). uleb_at bs 1) (sym (bytes-left v section start left s)))

pub front-none : (v : View) (section start : ℕ) (left : List ℕ) → StandsIn v section start left → None ≡ uleb_at left 1
    → None ≡ extended_operation v.order (cells_left v section start left)
unfolding extended_operation
front-none v section start left s e =
    ap (option_and_then (λ size. extended_in v.order (cells_left v section start left) (1 + size.1) size.0))
    (e ∙ ap (λ (bs : List ℕ). uleb_at bs 1) (sym (bytes-left v section start left s)))

pub ruleset front_laws = (front-some, front-none)

-- an operation at the front
lt-true : (m n : ℕ) → m < n → nat_lt m n ≡ true
lt-true m n lt = grind (arith, nat_tests)

le-false : (m n : ℕ) → n ≤ m → nat_lt m n ≡ false
le-false m n le = grind (arith, nat_tests)

operation-is : (v : View) (section start : ℕ) (left : List ℕ) (p : LineParams) (counts : List ℕ) (opcode : ℕ) → StandsIn v section start left → 0 < length left
    → opcode ≡ slice_index left 0 → operation_in p counts (cells_left v section start left) ≡ operation_of p counts (cells_left v section start left) opcode
unfolding operation_in
operation-is v section start left p counts opcode s some o =
    let len = ap length (bytes-left v section start left s) in
    ap (λ (t : Bool). if t then operation_of p counts (cells_left v section start left) (slice_index (bytes_of (cells_left v section start left)) 0) else None)
    (lt-true 0 (length (bytes_of (cells_left v section start left))) (omega (arith, len, some)))
    ∙ ap (λ (bs : List ℕ). operation_of p counts (cells_left v section start left) (slice_index bs 0)) (bytes-left v section start left s)
    ∙ ap (operation_of p counts (cells_left v section start left)) (sym o)

pub operation-none : (v : View) (section start : ℕ) (left : List ℕ) (p : LineParams) (counts : List ℕ) → StandsIn v section start left → length left ≡ 0
    → None ≡ operation_in p counts (cells_left v section start left)
unfolding operation_in
operation-none v section start left p counts s none =
    let len = ap length (bytes-left v section start left s) in
    ap (λ (t : Bool). if t then operation_of p counts (cells_left v section start left) (slice_index (bytes_of (cells_left v section start left)) 0) else None)
    (sym (le-false 0 (length (bytes_of (cells_left v section start left))) (omega (arith, len, none))))

pub operation-special : (v : View) (section start : ℕ) (left : List ℕ) (p : LineParams) (counts : List ℕ) (opcode : ℕ) (x : Option (Operation × ℕ)) → StandsIn v section start left
    → 0 < length left → opcode ≡ slice_index left 0 → p.opcode_base ≤ opcode → x ≡ special_operation p opcode → x ≡ operation_in p counts (cells_left v section start left)
unfolding operation_of
operation-special v section start left p counts opcode x s some o le is =
    sym (operation-is v section start left p counts opcode s some o ∙ rw (le-true p.opcode_base opcode le) (sym is))

pub operation-extended : (v : View) (section start : ℕ) (left : List ℕ) (p : LineParams) (counts : List ℕ) (opcode : ℕ) (x : Option (Operation × ℕ)) → StandsIn v section start left
    → 0 < length left → opcode ≡ slice_index left 0 → opcode < p.opcode_base → opcode ≡ 0 → p.order ≡ v.order
    → x ≡ extended_operation v.order (cells_left v section start left) → x ≡ operation_in p counts (cells_left v section start left)
unfolding operation_of
operation-extended v section start left p counts opcode x s some o lt zero order is =
    sym (operation-is v section start left p counts opcode s some o ∙ rw (lt-false p.opcode_base opcode lt, zero, order) (sym is))

pub operation-standard : (v : View) (section start : ℕ) (left : List ℕ) (p : LineParams) (counts : List ℕ) (opcode : ℕ) (x : Option (Operation × ℕ)) → StandsIn v section start left
    → 0 < length left → opcode ≡ slice_index left 0 → opcode < p.opcode_base → opcode ≢ 0
    → x ≡ standard_operation p counts left opcode → x ≡ operation_in p counts (cells_left v section start left)
unfolding operation_of
operation-standard v section start left p counts opcode x s some o lt other is =
    sym (operation-is v section start left p counts opcode s some o
    ∙ rw (lt-false p.opcode_base opcode lt, other-number opcode 0 other) (ap (λ (bs : List ℕ). standard_operation p counts bs opcode) (bytes-left v section start left s) ∙ sym is))

pub ruleset operation_laws = (operation-none, operation-special, operation-extended, operation-standard, small-left)
