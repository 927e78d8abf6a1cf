-- Fields of line tables by their cells, with relocations or without: what was read of a field, and that cells which hold an offset name its text
-- where they stand.
use Rattle.std.proofs.Common.{Bool, true, false, ◌≡◌, ℕ, ℤ, zero, suc, ◌+◌, ◌-◌, ◌^◌, ◌<◌, ◌≤◌, ◌==◌, if◌then◌else◌, List, [], ◌∷◌, length, drop, Option, Some, None, refl, sym, ap, ◌∙◌, subst, arith, inl, inr}
use Rattle.std.specs.Prelude.{Result, Ok, Err, ⊤, pos, unwrap_or, ◌+ℤ◌}
use Rattle.std.proofs.lemmas.Bool.{cases_lt, eqb-true}
use Rattle.dw_base.specs.Cells.{Cell, Located, Relocation, addend_of, bytes_of, cells_at, field_by, field_of, first_relocation, is_placed, offset_into, offset_of, relocated, symbol_field, targeted, with_bytes, wrapped}
use Rattle.dw_base.specs.LineSources.{LineSource}
use Rattle.dw_base.specs.LineTexts.{named_text, text_by, text_if, text_of}
use Rattle.dw_base.specs.NewOffsets.{by_addend, moved_relocation, with_offset, with_offset_by, with_relocation}
use Rattle.dw_base.specs.Numbers.{number_bytes, spelled}
use Rattle.dw_base.specs.RelocationFields.{partly_at, reach_of, relocation_at}
use Rattle.dw_base.specs.Refusals.{at}
use Rattle.dw_base.specs.Texts.{ends_in}
use Rattle.dw_base.specs.declared.fault.Kind.TheVariants.{StringOffset}
use Rattle.dw_base.specs.declared.fault.Refusal.{Refusal}
use Rattle.dw_base.specs.declared.line_tables.TextPlace.{TextPlace}
use Rattle.dw_base.specs.declared.shared.Order.{Order}
use Rattle.dw_base.specs.declared.view_fields.Field.{Field}
use Rattle.dw_base.specs.declared.view_fields.Field.TheVariants.{Into, Num, Sym}
use Rattle.dw_base.proofs.LineFieldLaws.{line_field-refused, line_field-whole, named_text-by, named_text-refused}
use Rattle.dw_base.proofs.OffsetPutLaws.{AddendFits, PutsBy, offset-put-any}
use Rattle.dw_base.proofs.RelocationFieldLaws.{field_of-cells_at, first-take, length-cells_at, partly-lies, partly-none}
use Rattle.dw_base.proofs.TextLaws.{ends_in-inside}
use Rattle.dw_meaning.proofs.ClearLaws.{NoneOver, relocation-behind, relocation-taken}
use Rattle.dw_meaning.specs.NewAddends.{Makes}
use Rattle.dw_meaning.proofs.FieldPutLaws.{makes-addend}

ok-text : (t u : TextPlace) → ◌≡◌ {A = Result TextPlace Refusal} (Ok t) (Ok u) → t ≡ u
ok-text t u e = cc

err-text : (r : Refusal) (t : TextPlace) → ◌≡◌ {A = Result TextPlace Refusal} (Err r) (Ok t) → ⊥
err-text r t e = cc

-- what a field that names a text reads as
offset-named : (z : Located) (section p n : ℕ) (f : Field) → text_by z section p f ≡ Ok (text_of z n p) → offset_into z f ≡ n
offset-named z section p n (Num k) e = by_ends (ends_in z.bytes k) e
  where
    by_ends : (b : Bool) → (if b then Ok (text_of z k p) else Err (at StringOffset section p)) ≡ Ok (text_of z n p)
        → k ≡ n
    by_ends true e = ap (λ (t : TextPlace). t.at) (ok-text (text_of z k p) (text_of z n p) e)
    by_ends false e = absurd (err-text _ (text_of z n p) e)
offset-named z section p n (Into s k) e = by_ends (offset_into z (Into s k)) (ends_in z.bytes (offset_into z (Into s k))) e
  where
    by_ends : (o : ℕ) (b : Bool) → (if b then Ok (text_of z o p) else Err (at StringOffset section p)) ≡ Ok (text_of z n p)
        → o ≡ n
    by_ends o true e = ap (λ (t : TextPlace). t.at) (ok-text (text_of z o p) (text_of z n p) e)
    by_ends o false e = absurd (err-text _ (text_of z n p) e)
offset-named z section p n (Sym s k a) e = absurd (err-text _ (text_of z n p) e)

-- a place in a section is no symbol
placed-into : (z : Located) (f : Field) → offset_into z f < length z.bytes → is_placed f ≡ true
placed-into z (Num n) lt = refl
placed-into z (Into s n) lt = refl
placed-into z (Sym s k a) lt = absurd (omega (arith, lt))

-- and stays it where the section has other bytes
into-grown : (z w : Located) (f : Field) (n : ℕ) → offset_into z f ≡ n → n < length z.bytes → w.number ≡ z.number → offset_into w f ≡ n
into-grown z w (Num k) n e lt same = e
into-grown z w (Sym s k a) n e lt same = absurd (omega (arith, e, lt))
into-grown z w (Into s k) n e lt same =
    ap (λ (i : ℕ). if s == i then k else length w.bytes) same ∙ by_section (s == z.number) e
  where
    by_section : (b : Bool) → (if b then k else length z.bytes) ≡ n → (if b then k else length w.bytes) ≡ n
    by_section true e = e
    by_section false e = absurd (omega (arith, e, lt))

-- a text that a place in its section names
named-by : (z : Located) (section p n : ℕ) (f : Field) → offset_into z f ≡ n → ends_in z.bytes n ≡ true → text_by z section p f ≡ Ok (text_of z n p)
named-by z section p n f e ends = by_field f e (placed-into z f (subst (λ (i : ℕ). i < length z.bytes) (sym e) (ends_in-inside z.bytes n ends)))
  where
    there : text_if z section p n ≡ Ok (text_of z n p)
    there = rw ends refl

    by_field : (f : Field) → offset_into z f ≡ n → is_placed f ≡ true → text_by z section p f ≡ Ok (text_of z n p)
    by_field (Num k) e placed = ap (text_if z section p) e ∙ there
    by_field (Into s k) e placed = ap (text_if z section p) e ∙ there
    by_field (Sym s k a) e placed = absurd cc

-- a relocation that makes a field a place is of the field's size
placed-size : (r : Relocation) (size n : ℕ) → is_placed (field_by (Some r) size n) ≡ true → r.size ≡ Some size
placed-size r size n e = by_size r.size refl e
  where
    by_same : (k : ℕ) (b : Bool) → (k == size) ≡ b → is_placed (if b then targeted r.target r size n else symbol_field r n) ≡ true → k ≡ size
    by_same k true same e = eqb-true k size same
    by_same k false same e = absurd cc

    by_size : (o : Option ℕ) → r.size ≡ o → is_placed (relocated o r size n) ≡ true → r.size ≡ Some size
    by_size None own e = absurd cc
    by_size (Some k) own e = own ∙ ap (λ (i : ℕ). Some i) (by_same k (k == size) refl e)

-- a field that was read, and named a text: no relocation lies on it in part, and its cells hold the offset
pub record FieldNames (g : LineSource) (z : Located) (p size n : ℕ) : Type 0 where
  pub whole : partly_at g.cells p size ≡ None
  pub offset : offset_of g.order z (cells_at g.cells p size) ≡ n

pub field-names : (g : LineSource) (z : Located) (p size n : ℕ) → g.is_read ≡ true → bytes_of g.cells ≡ g.bytes → 0 < size → p + size ≤ length g.cells
    → named_text g z p size ≡ Ok (text_of z n p) → FieldNames g z p size n
unfolding offset_of
field-names g z p size n read own some inside named = by_partly (partly_at g.cells p size) refl
  where
    by_partly : (o : Option ℕ) → partly_at g.cells p size ≡ o → FieldNames g z p size n
    by_partly (Some x) met =
        let refused = named_text-refused g z p size _ (line_field-refused g p size x read met) in
        absurd (err-text _ (text_of z n p) (sym refused ∙ named))
    by_partly None whole =
        let f : field_of g.order (cells_at g.cells p size) ≡ field_by (relocation_at g.cells p) size (spelled g.order g.bytes p size) =
        field_of-cells_at g.order g.cells p size some inside ∙ ap (λ (bs : List ℕ). field_by (relocation_at g.cells p) size (spelled g.order bs p size)) own in
        record {
          whole = whole;
          offset = ap (offset_into z) f
              ∙ offset-named z g.number p n (field_by (relocation_at g.cells p) size (spelled g.order g.bytes p size))
              (sym (named_text-by g z p size _ (line_field-whole g p size whole)) ∙ named);
        }

-- behind the start of such a field no relocation begins in it
pub tail-none : (cells : List Cell) (p size i : ℕ) → partly_at cells p size ≡ None → 0 < i → i < size → relocation_at cells (p + i) ≡ None
tail-none cells p size i whole some lt = by_there (relocation_at cells (p + i)) refl
  where
    by_there : (o : Option Relocation) → relocation_at cells (p + i) ≡ o → o ≡ None
    by_there None e = refl
    by_there (Some r) e =
        absurd (partly-none cells p size (p + i) whole
        (record { relocation = r; begins = e; before = omega (arith, lt); behind = omega (arith, some); other = λ same. omega (arith, same, some) }))

-- and none does in a field with another offset
bytes-tail : (p : List Cell) (bs : List ℕ) (i : ℕ) → relocation_at (with_bytes p bs) i ≡ relocation_at p i
bytes-tail [] bs i = refl
bytes-tail (c ∷ cs) [] i = refl
bytes-tail (c ∷ cs) (b ∷ bs) zero = refl
bytes-tail (c ∷ cs) (b ∷ bs) (suc i) = bytes-tail cs bs i

moved-tail : (p : List Cell) (r : Relocation) (i : ℕ) → relocation_at (with_relocation p r) (suc i) ≡ relocation_at p (suc i)
moved-tail [] r i = refl
moved-tail (c ∷ cs) r i = refl

pub put-tail : (order : Order) (p : List Cell) (n i : ℕ) → relocation_at (with_offset order p n) (suc i) ≡ relocation_at p (suc i)
unfolding with_offset
put-tail order p n i = by_first (first_relocation p)
  where
    by_same : (r : Relocation) (b : Bool) → relocation_at (if b then p else with_relocation p (moved_relocation r n)) (suc i) ≡ relocation_at p (suc i)
    by_same r true = refl
    by_same r false = moved-tail p (moved_relocation r n) i

    by_record : (r : Relocation) (a : Option ℤ) → relocation_at (by_addend a order r p n) (suc i) ≡ relocation_at p (suc i)
    by_record r None = bytes-tail p _ (suc i)
    by_record r (Some a) = by_same r _

    by_first : (o : Option Relocation) → relocation_at (with_offset_by o order p n) (suc i) ≡ relocation_at p (suc i)
    by_first None = bytes-tail p (number_bytes order (length p) n) (suc i)
    by_first (Some r) = by_record r r.addend

-- cells that hold an offset name its text where they stand
whole-there : (cells : List Cell) (q size : ℕ) → NoneOver cells q → ((i : ℕ) → 0 < i → i < size → relocation_at cells (q + i) ≡ None) → partly_at cells q size ≡ None
whole-there cells q size over tail = by_partly (partly_at cells q size) refl
  where
    by_partly : (o : Option ℕ) → partly_at cells q size ≡ o → o ≡ None
    by_partly None e = refl
    by_partly (Some x) e =
        let h = partly-lies cells q size x e in
        let before = h.before in
        let behind = h.behind in
        elim (cases_lt x q) [
          | inl below ↦ (let ends = over.ends x h.relocation h.begins below in absurd (omega (arith, ends, behind)))
          | inr above ↦ elim (cases_lt q x) [
            | inl past ↦ absurd (clash (tail (x - q) (omega (arith, past)) (omega (arith, past, before))) (ap (relocation_at cells) (omega (arith, past)) ∙ h.begins))
            | inr same ↦ absurd (h.other (omega (arith, above, same)))
          ]
        ]
      where
        clash : {r : Relocation} {o : Option Relocation} → o ≡ None → o ≡ Some r → ⊥
        clash a b = cc

pub field-there : (k : LineSource) (z : Located) (x : List Cell) (q size n : ℕ) → bytes_of k.cells ≡ k.bytes → 0 < size → q + size ≤ length k.cells → cells_at k.cells q size ≡ x
    → ((i : ℕ) → 0 < i → i < size → relocation_at x i ≡ None) → NoneOver k.cells q → offset_of k.order z x ≡ n → ends_in z.bytes n ≡ true
    → named_text k z q size ≡ Ok (text_of z n q)
unfolding offset_of
field-there k z x q size n own some inside same tail over offset ends =
    let f : field_of k.order x ≡ field_by (relocation_at k.cells q) size (spelled k.order k.bytes q size) =
    ap (field_of k.order) (sym same) ∙ field_of-cells_at k.order k.cells q size some inside
    ∙ ap (λ (bs : List ℕ). field_by (relocation_at k.cells q) size (spelled k.order bs q size)) own in
    named_text-by k z q size (field_by (relocation_at k.cells q) size (spelled k.order k.bytes q size))
    (line_field-whole k q size (whole-there k.cells q size over (λ i a b. at_tail i a b)))
    ∙ named-by z k.number q n (field_by (relocation_at k.cells q) size (spelled k.order k.bytes q size)) (ap (offset_into z) (sym f) ∙ offset) ends
  where
    at_tail : (i : ℕ) → 0 < i → i < size → relocation_at k.cells (q + i) ≡ None
    at_tail i a b =
        sym (relocation-behind k.cells q i) ∙ sym (relocation-taken (drop q k.cells) size i b) ∙ ap (λ (cs : List Cell). relocation_at cs i) same ∙ tail i a b

-- and no relocation in them reaches over their end
pub cells-own : (order : Order) (z : Located) (x : List Cell) (n : ℕ) → offset_of order z x ≡ n → n < length z.bytes
    → ((i : ℕ) → 0 < i → i < length x → relocation_at x i ≡ None) → (i : ℕ) (r : Relocation) → i < length x → relocation_at x i ≡ Some r → i + reach_of r ≤ length x
unfolding offset_of field_of
cells-own order z x n e lies tail zero r lt begins =
    let placed : is_placed (field_by (first_relocation x) (length x) (spelled order (bytes_of x) 0 (length x))) ≡ true =
    placed-into z (field_by (first_relocation x) (length x) (spelled order (bytes_of x) 0 (length x))) (omega (arith, e, lies)) in
    let sized : r.size ≡ Some (length x) =
    placed-size r (length x) (spelled order (bytes_of x) 0 (length x))
    (subst (λ (o : Option Relocation). is_placed (field_by o (length x) (spelled order (bytes_of x) 0 (length x))) ≡ true) begins placed) in
    let reach : reach_of r ≡ length x = ap (λ (o : Option ℕ). unwrap_or o 1) sized in
    omega (arith, reach)
cells-own order z x n e lies tail (suc i) r lt begins =
    let none = tail (suc i) (omega arith) lt in
    absurd cc

-- behind the start of a field that was read none begins in its cells
pub read-tail : (cells : List Cell) (p size i : ℕ) → partly_at cells p size ≡ None → 0 < i → i < size → relocation_at (cells_at cells p size) i ≡ None
read-tail cells p size i whole some lt =
    relocation-taken (drop p cells) size i lt ∙ relocation-behind cells p i ∙ tail-none cells p size i whole some lt

-- so none reaches over the end of such a field
pub field-own : (g : LineSource) (z : Located) (p size n : ℕ) → FieldNames g z p size n → ends_in z.bytes n ≡ true → p + size ≤ length g.cells
    → (x : ℕ) (r : Relocation) → relocation_at g.cells x ≡ Some r → p ≤ x → x < p + size → x + reach_of r ≤ p + size
field-own g z p size n h ends inside x r e le lt =
    let long : length (cells_at g.cells p size) ≡ size = length-cells_at g.cells p size inside in
    let place : p + (x - p) ≡ x = omega (arith, le) in
    let lies : x - p < size = omega (arith, le, lt) in
    let begins : relocation_at (cells_at g.cells p size) (x - p) ≡ Some r =
    relocation-taken (drop p g.cells) size (x - p) lies ∙ relocation-behind g.cells p (x - p) ∙ ap (relocation_at g.cells) place ∙ e in
    let reach = cells-own g.order z (cells_at g.cells p size) n h.offset (ends_in-inside z.bytes n ends)
    (λ i a b. read-tail g.cells p size i h.whole a (omega (arith, b, long))) (x - p) r (omega (arith, lies, long)) begins in
    omega (arith, reach, long, place)

-- the addend of the record of a relocation, if it has one, can make an offset that fits its field
abbrev pub TakesBy : Option (ℕ × ℕ) → Relocation → ℕ → ℕ → Type 0
TakesBy None r size n = ⊤
TakesBy (Some t) r size n = n < 256 ^ size → AddendFits r.addend r t.1 size n

abbrev pub TakesAt : Option Relocation → ℕ → ℕ → Type 0
TakesAt None size n = ⊤
TakesAt (Some r) size n = TakesBy r.target r size n

pub makes-takes : (o : Option Relocation) (size n : ℕ) → Makes o size n → TakesAt o size n
makes-takes None size n h = tt
makes-takes (Some r) size n h = by_target r.target refl
  where
    by_target : (t : Option (ℕ × ℕ)) → r.target ≡ t → TakesBy t r size n
    by_target None e = tt
    by_target (Some (section, v)) e = λ fits. makes-addend r r.addend section v size n e h

-- where cells were read as an offset, they hold it for other bytes of its section
pub field-kept : (g : LineSource) (z w : Located) (p size n : ℕ) → FieldNames g z p size n → ends_in z.bytes n ≡ true → w.number ≡ z.number
    → offset_of g.order w (cells_at g.cells p size) ≡ n
unfolding offset_of
field-kept g z w p size n h ends same = into-grown z w (field_of g.order (cells_at g.cells p size)) n h.offset (ends_in-inside z.bytes n ends) same

-- the symbol of a relocation that makes a field a place in a section lies in it
record TargetIn (r : Relocation) (section : ℕ) : Type 0 where
  value : ℕ
  target : r.target ≡ Some (section, value)

target-in : (z : Located) (r : Relocation) (size n : ℕ) → is_placed (field_by (Some r) size n) ≡ true → offset_into z (field_by (Some r) size n) < length z.bytes → TargetIn r z.number
target-in z r size n placed below = by_size r.size placed below
  where
    by_section : (section value k : ℕ) (b : Bool) → r.target ≡ Some (section, value) → (section == z.number) ≡ b → (if b then k else length z.bytes) < length z.bytes
        → TargetIn r z.number
    by_section section value k false target same below = absurd (omega (arith, below))
    by_section section value k true target same below =
        record { value = value; target = target ∙ ap (λ (i : ℕ). Some (i, value)) (eqb-true section z.number same) }

    by_target : (t : Option (ℕ × ℕ)) → r.target ≡ t → is_placed (targeted t r size n) ≡ true → offset_into z (targeted t r size n) < length z.bytes → TargetIn r z.number
    by_target None target placed below = absurd cc
    by_target (Some (section, value)) target placed below =
        by_section section value (wrapped (pos value +ℤ addend_of r.addend n) size) (section == z.number) target refl below

    by_own : (b : Bool) → is_placed (if b then targeted r.target r size n else symbol_field r n) ≡ true
        → offset_into z (if b then targeted r.target r size n else symbol_field r n) < length z.bytes → TargetIn r z.number
    by_own false placed below = absurd cc
    by_own true placed below = by_target r.target refl placed below

    by_size : (o : Option ℕ) → is_placed (relocated o r size n) ≡ true → offset_into z (relocated o r size n) < length z.bytes → TargetIn r z.number
    by_size None placed below = absurd cc
    by_size (Some k) placed below = by_own (k == size) placed below

-- and with another offset in them they hold that one, where their relocation can make it
field-is : (g : LineSource) (z : Located) (p size n : ℕ) → FieldNames g z p size n → ends_in z.bytes n ≡ true → 0 < size → p + size ≤ length g.cells
    → offset_into z (field_by (relocation_at g.cells p) size (spelled g.order (bytes_of g.cells) p size)) < length z.bytes
unfolding offset_of
field-is g z p size n h ends some inside =
    let lies : n < length z.bytes = ends_in-inside z.bytes n ends in
    let is : offset_into z (field_by (relocation_at g.cells p) size (spelled g.order (bytes_of g.cells) p size)) ≡ n =
    ap (offset_into z) (sym (field_of-cells_at g.order g.cells p size some inside)) ∙ h.offset in
    omega (arith, is, lies)

pub field-put : (g : LineSource) (z w : Located) (p size n to : ℕ) → FieldNames g z p size n → ends_in z.bytes n ≡ true → w.number ≡ z.number → TakesAt (relocation_at g.cells p) size to
    → 0 < size → p + size ≤ length g.cells → to < 256 ^ size → offset_of g.order w (with_offset g.order (cells_at g.cells p size) to) ≡ to
field-put g z w p size n to h ends same takes some inside fits =
    let long : length (cells_at g.cells p size) ≡ size = length-cells_at g.cells p size inside in
    let place : first_relocation (cells_at g.cells p size) ≡ relocation_at g.cells p = first-take size (drop p g.cells) some in
    offset-put-any g.order w (cells_at g.cells p size) to
    (record {
      some = omega (arith, long, some);
      fits = subst (λ (k : ℕ). to < 256 ^ k) (sym long) fits;
      by_relocation = subst (λ (k : ℕ). PutsBy (first_relocation (cells_at g.cells p size)) w k to) (sym long)
          (subst (λ (o : Option Relocation). PutsBy o w size to) (sym place) (puts (relocation_at g.cells p) (field-is g z p size n h ends some inside) takes));
    })
  where
    number : ℕ
    number = spelled g.order (bytes_of g.cells) p size

    puts : (o : Option Relocation) → offset_into z (field_by o size (spelled g.order (bytes_of g.cells) p size)) < length z.bytes → TakesAt o size to → PutsBy o w size to
    puts None below t = tt
    puts (Some r) below t =
        let placed = placed-into z (field_by (Some r) size (spelled g.order (bytes_of g.cells) p size)) below in
        let in_ = target-in z r size (spelled g.order (bytes_of g.cells) p size) placed below in
        let takes_it : TakesBy (Some (z.number, in_.value)) r size to = subst (λ (x : Option (ℕ × ℕ)). TakesBy x r size to) in_.target t in
        record {
          value = in_.value;
          own = placed-size r size (spelled g.order (bytes_of g.cells) p size) placed;
          target = in_.target ∙ ap (λ (i : ℕ). Some (i, in_.value)) (sym same);
          addend = takes_it fits;
        }
