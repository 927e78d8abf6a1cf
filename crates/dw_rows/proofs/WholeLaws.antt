-- The program of a table that was read is whole: each opcode that ends in the table is an operation that can be had.
use Rattle.std.proofs.Common.{Bool, true, false, ◌≡◌, ℕ, zero, suc, ◌+◌, ◌-◌, ◌/◌, ◌==◌, ◌<◌, ◌≤◌, nat_le, nat_lt, if◌then◌else◌, List, [], length, take, drop, get_or, min, Option, Some, None, refl, sym, ap, ◌∙◌, subst, arith}
use Rattle.std.specs.Prelude.{option_and_then, option_map, slice_index, ℤ, ◌||◌}
use Rattle.std.proofs.lemmas.Bool.Decides.{nat_tests}
use Rattle.std.proofs.lemmas.List.{drop-drop, drop_all, drop-take, get_or-drop, get_or-take, length-drop}
use Rattle.dw_base.proofs.RelocationFieldLaws.{bytes_of-drop, bytes_of-take}
use Rattle.dw_base.proofs.TextLaws.{same_text-true}
use Rattle.dw_base.proofs.UnitEditLaws.{length-bytes_of}
use Rattle.dw_base.specs.Cells.{Cell, bytes_of}
use Rattle.dw_base.specs.Lebs.{uleb_at, uleb, uleb_within, sleb_at, sleb, sleb_within}
use Rattle.dw_base.specs.Numbers.{number_at, spelled}
use Rattle.dw_base.specs.UnitHeaders.{is_address_size}
use Rattle.dw_base.specs.ValueMeanings.{address_of}
use Rattle.dw_base.specs.declared.view_fields.Field.{Field}
use Rattle.dw_base.specs.declared.shared.Order.{Order}
use Rattle.dw_base.specs.LineHeaders.{standard_operands, standard_count, has_standard_operands}
use Rattle.dw_base.specs.LineTexts.{skip_lebs}
use Rattle.dw_base.specs.LinePrograms.{if_ranged, behind_bytes, standard_end, extended_operands, extended_by, extended_in as opcode_in, extended_at, plain_opcode, opcode_at, next_opcode, with_file}
use Rattle.dw_base.specs.declared.line_tables.FilePlace.{FilePlace}
use Rattle.dw_base.specs.Walks.{Step, goes, ends, Walks, no_step, one_more as one_step, ComesTo}
use Rattle.dw_base.specs.LineOperations.{special, special_operation, const_operation, is_numbered, numbered, unnumbered, standard_operation, extended, extended_in, extended_operation, operation_of, operation_in, operations, Spells, none_left, one_more}
use Rattle.dw_base.specs.declared.line_rows.LineParams.{LineParams}
use Rattle.dw_base.specs.declared.line_rows.Operation.{Operation}
use Rattle.dw_base.specs.declared.line_rows.Operation.TheVariants.{AddLine, AddAddress, EndSequence, SetAddress, SetDiscriminator, Skip, Advance}
use Rattle.dw_rows.proofs.HeaderLaws.{then-some, if-some, some-same}
use Rattle.dw_rows.proofs.RowLaws.{operations-more}

-- an operation was found that ends at a place behind its own
abbrev Found : Option (Operation × ℕ) → ℕ → ℕ → Type 0
Found x place next = (o : Operation × ℕ) × (x ≡ Some o) × (next ≡ place + o.1) × (0 < o.1)

none-some : {X : Type 0} (x : X) → None ≡ Some x → ⊥
none-some x e = cc

-- what an option that was mapped held
map-some : {X Y : Type 0} (f : X → Y) (x : Option X) (y : Y) → option_map f x ≡ Some y → (a : X) × (x ≡ Some a) × (f a ≡ y)
map-some f None y e = absurd (none-some y e)
map-some f (Some a) y e = (a, refl, some-same (f a) y e)

-- numbers at a place of the rest
uleb-drop : (table : List ℕ) (place n : ℕ) → uleb_at (drop place table) n ≡ uleb_at table (place + n)
unfolding uleb_at
uleb-drop table place n = ap (λ (bs : List ℕ). uleb_within (uleb bs)) (drop-drop n place table)

sleb-drop : (table : List ℕ) (place n : ℕ) → sleb_at (drop place table) n ≡ sleb_at table (place + n)
unfolding sleb_at
sleb-drop table place n = ap (λ (bs : List ℕ). sleb_within (sleb bs)) (drop-drop n place table)

skip-back : (n : ℕ) (table : List ℕ) (place k next : ℕ) → skip_lebs n table (place + k) ≡ Some next → (m : ℕ) × (skip_lebs n (drop place table) k ≡ Some m) × (next ≡ place + m) × (k ≤ m)
skip-back zero table place k next e = (k, refl, sym (some-same (place + k) next e), omega arith)
skip-back (suc n) table place k next e =
    by_number (then-some (λ value. skip_lebs n table (place + k + value.1)) (uleb_at table (place + k)) next e)
    (λ (size : ℕ) f. skip-back n table place (k + size) next f)
  where
    by_number : ((v : ℕ × ℕ) × (uleb_at table (place + k) ≡ Some v) × (skip_lebs n table (place + k + v.1) ≡ Some next))
        → ((size : ℕ) → skip_lebs n table (place + (k + size)) ≡ Some next → (m : ℕ) × (skip_lebs n (drop place table) (k + size) ≡ Some m) × (next ≡ place + m) × (k + size ≤ m))
        → (m : ℕ) × (skip_lebs (suc n) (drop place table) k ≡ Some m) × (next ≡ place + m) × (k ≤ m)
    by_number v rest =
        let sum : place + k + v.0.1 ≡ place + (k + v.0.1) = omega arith in
        let found = rest v.0.1 (subst (λ (x : ℕ). skip_lebs n table x ≡ Some next) sum v.2) in
        (found.0, ap (option_and_then (λ value. skip_lebs n (drop place table) (k + value.1))) (uleb-drop table place k ∙ v.1) ∙ found.1, found.2, (let le = found.3 in omega (arith, le)))

-- an opcode without a place of its own
ranged-back : (zero_range : Bool) (o : Operation) (place next : ℕ) → (if zero_range then None else Some (place + 1)) ≡ Some next
    → Found (if zero_range then None else Some (o, 1)) place next
ranged-back true o place next e = absurd (none-some next e)
ranged-back false o place next e = ((o, 1), refl, sym (some-same (place + 1) next e), omega arith)

line-back : (table : List ℕ) (place next : ℕ) → option_map (λ n. place + 1 + n.1) (sleb_at table (place + 1)) ≡ Some next
    → Found (option_map (λ n. (AddLine n.0, 1 + n.1)) (sleb_at (drop place table) 1)) place next
line-back table place next e =
    let v = map-some (λ (n : ℤ × ℕ). place + 1 + n.1) (sleb_at table (place + 1)) next e in
    let same = v.2 in
    ((AddLine v.0.0, 1 + v.0.1), ap (option_map (λ n. (AddLine n.0, 1 + n.1))) (sleb-drop table place 1 ∙ v.1), omega (arith, same), omega arith)

number-back : (table : List ℕ) (opcode place next : ℕ) → skip_lebs 1 table (place + 1) ≡ Some next
    → Found (option_map (λ n. (numbered opcode n.0, 1 + n.1)) (uleb_at (drop place table) 1)) place next
number-back table opcode place next e =
    let v = then-some (λ value. skip_lebs 0 table (place + 1 + value.1)) (uleb_at table (place + 1)) next e in
    let same = some-same (place + 1 + v.0.1) next v.2 in
    ((numbered opcode v.0.0, 1 + v.0.1), ap (option_map (λ n. (numbered opcode n.0, 1 + n.1))) (uleb-drop table place 1 ∙ v.1), omega (arith, same), omega arith)

others-back : (n : ℕ) (table : List ℕ) (opcode place next : ℕ) → skip_lebs n table (place + 1) ≡ Some next
    → Found (option_map (λ m. (unnumbered opcode, m)) (skip_lebs n (drop place table) 1)) place next
others-back n table opcode place next e =
    let m = skip-back n table place 1 next e in
    ((unnumbered opcode, m.0), ap (option_map (λ k. (unnumbered opcode, k))) m.1, m.2, (let le = m.3 in omega (arith, le)))

le-true : (m n : ℕ) → m ≤ n → nat_le m n ≡ true
le-true m n le = grind (arith, nat_tests)

true-le : (m n : ℕ) → nat_le m n ≡ true → m ≤ n
true-le m n e = grind (arith, nat_tests)

fixed-back : (order : Order) (table : List ℕ) (place next : ℕ) → behind_bytes table (place + 1) 2 ≡ Some next
    → Found (option_map (λ n. (AddAddress n, 3)) (number_at order (drop place table) 1 2)) place next
unfolding number_at
fixed-back order table place next e =
    let room = if-some (nat_le (place + 1 + 2) (length table)) (Some (place + 1 + 2)) next e in
    let far : place + 1 + 2 ≤ length table = true-le (place + 1 + 2) (length table) room.0 in
    let size = length-drop place table in
    let fits : 1 + 2 ≤ length (drop place table) = omega (arith, far, size) in
    let same = some-same (place + 1 + 2) next room.1 in (
      (AddAddress (spelled order (drop place table) 1 2), 3),
      ap (λ (b : Bool). option_map (λ n. (AddAddress n, 3)) (if b then Some (spelled order (drop place table) 1 2) else None)) (le-true (1 + 2) (length (drop place table)) fits),
      omega (arith, same),
      omega arith,
    )

-- the operand counts of the standard opcodes that a table has are the standard's
count-standard : (table : List ℕ) (h : _) (i : ℕ) → has_standard_operands table h ≡ true → i < standard_count h
    → get_or table (h.operands + i) 0 ≡ get_or standard_operands i 0
unfolding has_standard_operands
count-standard table h i e lt =
    sym (get_or-drop h.operands table i 0) ∙ sym (get_or-take (standard_count h) (drop h.operands table) i 0 lt)
    ∙ ap (λ (xs : List ℕ). get_or xs i 0) (same_text-true (take (standard_count h) (drop h.operands table)) (take (standard_count h) standard_operands) e)
    ∙ get_or-take (standard_count h) standard_operands i 0 lt

same_number : (m n : ℕ) → m == n ≡ true → m ≡ n
same_number m n e = grind (arith, nat_tests)

or-cases : (a b : Bool) (P : Type 0) → (a || b) ≡ true → (a ≡ true → P) → (b ≡ true → P) → P
or-cases true b P e f g = f refl
or-cases false b P e f g = g e

-- an opcode of those with one number has one
numbered-count : (table : List ℕ) (h : _) (opcode : ℕ) → has_standard_operands table h ≡ true → 0 < opcode → opcode < h.opcode_base → is_numbered opcode ≡ true
    → get_or table (h.operands + (opcode - 1)) 0 ≡ 1
unfolding is_numbered
numbered-count table h opcode standard some below e =
    or-cases (opcode == 2 || opcode == 4 || opcode == 5) (opcode == 12) One e
    (λ f. or-cases (opcode == 2 || opcode == 4) (opcode == 5) One f (λ g. or-cases (opcode == 2) (opcode == 4) One g (by_number 2 refl (omega arith)) (by_number 4 refl (omega arith)))
    (by_number 5 refl (omega arith)))
    (by_number 12 refl (omega arith))
  where
    One : Type 0
    One = get_or table (h.operands + (opcode - 1)) 0 ≡ 1

    by_number : (n : ℕ) → get_or standard_operands (n - 1) 0 ≡ 1 → n ≤ 12 → opcode == n ≡ true → get_or table (h.operands + (opcode - 1)) 0 ≡ 1
    by_number n one small test =
        let same : opcode ≡ n = same_number opcode n test in
        let lt : opcode - 1 < min (h.opcode_base - 1) 12 = omega (arith, same, small, some, below) in
        count-standard table h (opcode - 1) standard lt ∙ ap (λ (k : ℕ). get_or standard_operands (k - 1) 0) same ∙ one

-- an operand count in the list of them
count-in : (table counts : List ℕ) (operands base i : ℕ) → counts ≡ take (base - 1) (drop operands table) → i < base - 1
    → slice_index counts i ≡ get_or table (operands + i) 0
count-in table counts operands base i c lt =
    ap (λ (xs : List ℕ). get_or xs i 0) c ∙ get_or-take (base - 1) (drop operands table) i 0 lt ∙ get_or-drop operands table i 0

four-ways : (a b c d : Bool) (A B C D : Option ℕ) (A' B' C' D' E' : Option (Operation × ℕ)) (place next : ℕ)
    → (A ≡ Some next → Found A' place next) → (B ≡ Some next → Found B' place next) → (C ≡ Some next → Found C' place next)
    → (d ≡ true → D ≡ Some next → Found D' place next) → (d ≡ false → D ≡ Some next → Found E' place next)
    → (if a then A else (if b then B else (if c then C else D))) ≡ Some next
    → Found (if a then A' else (if b then B' else (if c then C' else (if d then D' else E')))) place next
four-ways true b c d A B C D A' B' C' D' E' place next f g h i j e = f e
four-ways false true c d A B C D A' B' C' D' E' place next f g h i j e = g e
four-ways false false true d A B C D A' B' C' D' E' place next f g h i j e = h e
four-ways false false false true A B C D A' B' C' D' E' place next f g h i j e = i refl e
four-ways false false false false A B C D A' B' C' D' E' place next f g h i j e = j refl e

standard-back : (p : LineParams) (h : _) (table counts : List ℕ) (opcode place next : ℕ) → has_standard_operands table h ≡ true → h.line_range ≡ p.line_range
    → counts ≡ take (h.opcode_base - 1) (drop h.operands table) → 0 < opcode → opcode < h.opcode_base
    → standard_end h table opcode (place + 1) ≡ Some next → Found (standard_operation p counts (drop place table) opcode) place next
unfolding standard_end standard_operation if_ranged const_operation
standard-back p h table counts opcode place next standard range c some below e =
    four-ways (opcode == 3) (opcode == 8) (opcode == 9) (is_numbered opcode) (option_map (λ n. place + 1 + n.1) (sleb_at table (place + 1)))
    (if h.line_range == 0 then None else Some (place + 1)) (behind_bytes table (place + 1) 2)
    (skip_lebs (slice_index table (h.operands + (opcode - 1))) table (place + 1))
    (option_map (λ n. (AddLine n.0, 1 + n.1)) (sleb_at (drop place table) 1)) (const_operation p)
    (option_map (λ n. (AddAddress n, 3)) (number_at p.order (drop place table) 1 2))
    (option_map (λ n. (numbered opcode n.0, 1 + n.1)) (uleb_at (drop place table) 1))
    (option_map (λ next. (unnumbered opcode, next)) (skip_lebs (slice_index counts (opcode - 1)) (drop place table) 1)) place next
    (line-back table place next)
    (λ f. ranged-back (p.line_range == 0) (Advance ((255 - p.opcode_base) / p.line_range)) place next
    (subst (λ (n : ℕ). (if n == 0 then None else Some (place + 1)) ≡ Some next) range f))
    (fixed-back p.order table place next)
    (λ test f. number-back table opcode place next
    (subst (λ (n : ℕ). skip_lebs n table (place + 1) ≡ Some next) (numbered-count table h opcode standard some below test) f))
    (λ test f. subst (λ (n : ℕ). Found (option_map (λ next. (unnumbered opcode, next)) (skip_lebs n (drop place table) 1)) place next)
    (sym (count-in table counts h.operands h.opcode_base (opcode - 1) c (omega (arith, some, below))))
    (others-back (slice_index table (h.operands + (opcode - 1))) table opcode place next f)) e

-- an extended opcode, from its code on
size-same : (body : List ℕ) (place q at : ℕ) → at ≡ place + q → length (drop place body) - q ≡ length body - at
size-same body place q at e = (let size = length-drop place body in omega (arith, size, e))

abbrev Had : Option Operation → Type 0
Had x = (o : Operation) × (x ≡ Some o)

discriminator-had : (body : List ℕ) (place q at : ℕ) (Y : Type 0) (f : ℕ × ℕ → Y) (y : Y) → at ≡ place + q → option_map f (uleb_at body at) ≡ Some y
    → Had (option_map (λ n. SetDiscriminator n.0) (uleb_at (drop place body) q))
discriminator-had body place q at Y f y a e =
    let v = map-some f (uleb_at body at) y e in
    (SetDiscriminator v.0.0, ap (option_map (λ n. SetDiscriminator n.0)) (uleb-drop body place q ∙ ap (uleb_at body) (sym a) ∙ v.1))

address-had : {Y : Type 0} (f : Field) (m n : ℕ) (y z : Y) → m ≡ n → (if is_address_size n then Some y else None) ≡ Some z
    → Had (if is_address_size m then Some (SetAddress f) else None)
address-had f m n y z same e = (
  SetAddress f,
  ap (λ (b : Bool). if b then Some (SetAddress f) else None) (ap is_address_size same ∙ (if-some (is_address_size n) (Some y) z e).0),
)

both_codes : (code : ℕ) → code == 3 ≡ true → code == 4 ≡ true → ⊥
both_codes code a b = (let c = same_number code 3 a in let d = same_number code 4 b in absurd (omega (arith, c, d)))

code-ways : {Y : Type 0} (z : Y) (last address define discriminator : Bool) (A B C D : Option Y) (A' C' : Option Operation)
    → (A ≡ Some z → Had A') → (C ≡ Some z → Had C') → (define ≡ true → discriminator ≡ true → ⊥)
    → (if address then A else (if define then B else (if discriminator then C else D))) ≡ Some z
    → Had (if last then Some EndSequence else (if address then A' else (if discriminator then C' else Some Skip)))
code-ways z true address define discriminator A B C D A' C' f g never e = (EndSequence, refl)
code-ways z false true define discriminator A B C D A' C' f g never e = f e
code-ways z false false true true A B C D A' C' f g never e = absurd (never refl refl)
code-ways z false false true false A B C D A' C' f g never e = (Skip, refl)
code-ways z false false false true A B C D A' C' f g never e = g e
code-ways z false false false false A B C D A' C' f g never e = (Skip, refl)

extended-had : (order : Order) (section : ℕ) (body : List ℕ) (cells : List Cell) (code place q at : ℕ) (file : _) → bytes_of cells ≡ body → at ≡ place + q
    → extended_operands section body code at ≡ Some file → Had (extended order (drop place cells) code q)
unfolding extended_operands extended
extended-had order section body cells code place q at file b a e =
    let own : bytes_of (drop place cells) ≡ drop place body = bytes_of-drop place cells ∙ ap (drop place) b in
    let size : length (bytes_of (drop place cells)) - q ≡ length body - at = ap (λ (bs : List ℕ). length bs - q) own ∙ size-same body place q at a in
    code-ways file (code == 1) (code == 2) (code == 3) (code == 4) _ _ _ _
    (if is_address_size (length (bytes_of (drop place cells)) - q) then Some (SetAddress (address_of order (drop q (drop place cells)))) else None)
    (option_map (λ n. SetDiscriminator n.0) (uleb_at (bytes_of (drop place cells)) q))
    (address-had (address_of order (drop q (drop place cells))) (length (bytes_of (drop place cells)) - q) (length body - at) _ file size)
    (λ f. subst (λ (bs : List ℕ). Had (option_map (λ n. SetDiscriminator n.0) (uleb_at bs q))) (sym own) (discriminator-had body place q at _ _ file a f)) (both_codes code) e

found-as : (x y : Option (Operation × ℕ)) (place next : ℕ) → x ≡ y → Found y place next → Found x place next
found-as x y place next e f = subst (λ (z : Option (Operation × ℕ)). Found z place next) (sym e) f

two-ways : {Y : Type 0} (zero_size a b : Bool) (A : Option Y) (A' : Option (Operation × ℕ)) (y : Y) (place next : ℕ) → (a ≡ true → b ≡ true)
    → (A ≡ Some y → Found A' place next) → (if zero_size then None else (if a then A else None)) ≡ Some y
    → Found (if zero_size then None else (if b then A' else None)) place next
two-ways true a b A A' y place next t f e = absurd (none-some y e)
two-ways false false b A A' y place next t f e = absurd (none-some y e)
two-ways false true b A A' y place next t f e =
    found-as (if b then A' else None) A' place next (ap (λ (x : Bool). if x then A' else None) (t refl)) (f e)

by-some : (next : ℕ) (x : Option (Option FilePlace)) (o : _) → extended_by next x ≡ Some o → (f : Option FilePlace) × (x ≡ Some f) × (o.next ≡ next)
by-some next None o e = absurd (none-some o e)
by-some next (Some f) o e = (f, refl, sym (ap (λ x. x.next) (some-same _ o e)))

in-back : (order : Order) (section : ℕ) (table : List ℕ) (cells : List Cell) (place k size : ℕ) (o : _) → bytes_of cells ≡ table → 0 < k
    → opcode_in section table (place + k) size ≡ Some o → Found (extended_in order (drop place cells) k size) place o.next
unfolding opcode_in extended_in
in-back order section table cells place k size o b some e =
    two-ways (size == 0) (nat_le (place + k + size) (length table)) (nat_le (k + size) (length (bytes_of (drop place cells))))
    (extended_by (place + k + size) (extended_operands section (take (place + k + size) table) (slice_index table (place + k)) (place + k + 1)))
    (option_map (λ x. (x, k + size)) (extended order (take (k + size) (drop place cells)) (slice_index (bytes_of (drop place cells)) k) (k + 1)))
    o place o.next
    (λ test. (let far : place + k + size ≤ length table = true-le (place + k + size) (length table) test in
    let len = ap length (bytes_of-drop place cells ∙ ap (drop place) b) ∙ length-drop place table in
    le-true (k + size) (length (bytes_of (drop place cells))) (omega (arith, far, len))))
    (λ f. had f) e
  where
    had : extended_by (place + k + size) (extended_operands section (take (place + k + size) table) (slice_index table (place + k)) (place + k + 1)) ≡ Some o
        → Found (option_map (λ x. (x, k + size)) (extended order (take (k + size) (drop place cells)) (slice_index (bytes_of (drop place cells)) k) (k + 1))) place o.next
    had f =
        let read = by-some (place + k + size) (extended_operands section (take (place + k + size) table) (slice_index table (place + k)) (place + k + 1)) o f in
        let x = extended-had order section (take (place + k + size) table) (take (place + k + size) cells) (slice_index table (place + k)) place (k + 1) (place + k + 1) read.0
        (bytes_of-take (place + k + size) cells ∙ ap (take (place + k + size)) b) (omega arith) read.1 in
        let sum : place + k + size ≡ place + (k + size) = omega arith in
        let body : take (k + size) (drop place cells) ≡ drop place (take (place + k + size) cells) =
        sym (ap (λ (n : ℕ). drop place (take n cells)) sum ∙ drop-take place (k + size) cells) in
        let own : bytes_of (drop place cells) ≡ drop place table = bytes_of-drop place cells ∙ ap (drop place) b in
        let next = read.2 in (
          (x.0, k + size),
          ap (λ (cs : List Cell). option_map (λ y. (y, k + size)) (extended order cs (slice_index (bytes_of (drop place cells)) k) (k + 1))) body
              ∙ ap (λ (bs : List ℕ). option_map (λ y. (y, k + size)) (extended order (drop place (take (place + k + size) cells)) (slice_index bs k) (k + 1))) own
              ∙ ap (λ (code : ℕ). option_map (λ y. (y, k + size)) (extended order (drop place (take (place + k + size) cells)) code (k + 1))) (get_or-drop place table k 0)
              ∙ ap (option_map (λ y. (y, k + size))) x.1,
          omega (arith, next),
          omega (arith, some),
        )

extended-back : (order : Order) (section : ℕ) (table : List ℕ) (cells : List Cell) (place : ℕ) (o : _) → bytes_of cells ≡ table → extended_at section table (place + 1) ≡ Some o
    → Found (extended_operation order (drop place cells)) place o.next
unfolding extended_at extended_operation
extended-back order section table cells place o b e =
    let v = then-some (λ size. opcode_in section table (place + 1 + size.1) size.0) (uleb_at table (place + 1)) o e in
    let sum : place + 1 + v.0.1 ≡ place + (1 + v.0.1) = omega arith in
    let own : bytes_of (drop place cells) ≡ drop place table = bytes_of-drop place cells ∙ ap (drop place) b in
    found-as (option_and_then (λ size. extended_in order (drop place cells) (1 + size.1) size.0) (uleb_at (bytes_of (drop place cells)) 1))
    (extended_in order (drop place cells) (1 + v.0.1) v.0.0) place o.next
    (ap (option_and_then (λ size. extended_in order (drop place cells) (1 + size.1) size.0)) (ap (λ (bs : List ℕ). uleb_at bs 1) own ∙ uleb-drop table place 1 ∙ v.1))
    (in-back order section table cells place (1 + v.0.1) v.0.0 o b (omega arith) (subst (λ (n : ℕ). opcode_in section table n v.0.0 ≡ Some o) sum v.2))

plain-some : (x : Option ℕ) (o : _) → plain_opcode x ≡ Some o → x ≡ Some o.next
plain-some None o e = absurd (none-some o e)
plain-some (Some n) o e = ap (λ x. Some x.next) (some-same _ o e)

positive : (n : ℕ) → n == 0 ≡ false → 0 < n
positive n e = grind (arith, nat_tests)

false-lt : (m n : ℕ) → nat_le m n ≡ false → n < m
false-lt m n e = grind (arith, nat_tests)

-- the opcode at a place is the operation of the cells from there on
opcode-back : (p : LineParams) (section : ℕ) (h : _) (table : List ℕ) (cells : List Cell) (counts : List ℕ) (place opcode : ℕ) (o : _) → bytes_of cells ≡ table
    → has_standard_operands table h ≡ true → h.line_range ≡ p.line_range → h.opcode_base ≡ p.opcode_base → counts ≡ take (h.opcode_base - 1) (drop h.operands table)
    → (if nat_le h.opcode_base opcode then plain_opcode (if_ranged h (place + 1))
    else (if opcode == 0 then extended_at section table (place + 1) else plain_opcode (standard_end h table opcode (place + 1)))) ≡ Some o
    → Found (operation_of p counts (drop place cells) opcode) place o.next
unfolding operation_of if_ranged special_operation
opcode-back p section h table cells counts place opcode o b standard range base c e =
    subst (λ (n : ℕ). Found (if nat_le n opcode then special_operation p opcode
    else (if opcode == 0 then extended_operation p.order (drop place cells) else standard_operation p counts (bytes_of (drop place cells)) opcode)) place o.next) base
    (by_tests (nat_le h.opcode_base opcode) (opcode == 0) refl refl e)
  where
    by_tests : (a z : Bool) → nat_le h.opcode_base opcode ≡ a → opcode == 0 ≡ z
        → (if a then plain_opcode (if_ranged h (place + 1))
        else (if z then extended_at section table (place + 1) else plain_opcode (standard_end h table opcode (place + 1)))) ≡ Some o
        → Found (if a then special_operation p opcode
        else (if z then extended_operation p.order (drop place cells) else standard_operation p counts (bytes_of (drop place cells)) opcode)) place o.next
    by_tests true z t u f =
        ranged-back (p.line_range == 0) (special p (opcode - p.opcode_base)) place o.next
        (subst (λ (n : ℕ). (if n == 0 then None else Some (place + 1)) ≡ Some o.next) range (plain-some (if h.line_range == 0 then None else Some (place + 1)) o f))
    by_tests false true t u f = extended-back p.order section table cells place o b f
    by_tests false false t u f =
        subst (λ (bs : List ℕ). Found (standard_operation p counts bs opcode) place o.next) (sym (bytes_of-drop place cells ∙ ap (drop place) b))
        (standard-back p h table counts opcode place o.next standard range c (positive opcode u) (false-lt h.opcode_base opcode t)
        (plain-some (standard_end h table opcode (place + 1)) o f))

lt-true : (m n : ℕ) → m < n → nat_lt m n ≡ true
lt-true m n lt = grind (arith, nat_tests)

true-lt : (m n : ℕ) → nat_lt m n ≡ true → m < n
true-lt m n e = grind (arith, nat_tests)

false-le : (m n : ℕ) → nat_lt m n ≡ false → n ≤ m
false-le m n e = grind (arith, nat_tests)

operation-back : (p : LineParams) (section : ℕ) (h : _) (table : List ℕ) (cells : List Cell) (counts : List ℕ) (place : ℕ) (o : _) → bytes_of cells ≡ table
    → has_standard_operands table h ≡ true → h.line_range ≡ p.line_range → h.opcode_base ≡ p.opcode_base → counts ≡ take (h.opcode_base - 1) (drop h.operands table)
    → place < length table → opcode_at section h table place ≡ Some o → Found (operation_in p counts (drop place cells)) place o.next
unfolding opcode_at operation_in
operation-back p section h table cells counts place o b standard range base c lt e =
    let len = ap length (bytes_of-drop place cells ∙ ap (drop place) b) ∙ length-drop place table in
    let here : place + 0 ≡ place = omega arith in
    found-as (operation_in p counts (drop place cells)) (operation_of p counts (drop place cells) (slice_index table place)) place o.next
    (ap (λ (b : Bool). if b then operation_of p counts (drop place cells) (slice_index (bytes_of (drop place cells)) 0) else None)
    (lt-true 0 (length (bytes_of (drop place cells))) (omega (arith, len, lt)))
    ∙ ap (λ (bs : List ℕ). operation_of p counts (drop place cells) (slice_index bs 0)) (bytes_of-drop place cells ∙ ap (drop place) b)
    ∙ ap (operation_of p counts (drop place cells)) (get_or-drop place table 0 0 ∙ ap (λ (n : ℕ). get_or table n 0) here))
    (opcode-back p section h table cells counts place (slice_index table place) o b standard range base c e)

-- what is left from a place on is whole
abbrev Rest : LineParams → List ℕ → List Cell → ℕ → Type 0
Rest p counts cells place = Spells p counts (drop place cells) (operations p counts (drop place cells))

rest-more : (p : LineParams) (counts : List ℕ) (cells : List Cell) (place next : ℕ) → Found (operation_in p counts (drop place cells)) place next → Rest p counts cells next
    → Rest p counts cells place
rest-more p counts cells place next f r =
    let behind : drop f.0.1 (drop place cells) ≡ drop next cells = drop-drop f.0.1 place cells ∙ ap (λ (n : ℕ). drop n cells) (sym f.2) in
    subst (λ (os : List Operation). Spells p counts (drop place cells) os) (sym (operations-more p counts (drop place cells) f.0.0 f.0.1 f.1 f.3))
    (one_more (drop place cells) f.0.0 f.0.1 (operations p counts (drop f.0.1 (drop place cells))) f.1
    (subst (λ (cs : List Cell). Spells p counts cs (operations p counts cs)) (sym behind) r))

walk-back : {S X : Type 0} (step : S → Option (Step S X)) (P : S → Type 0) → ((s t : S) → step s ≡ Some (goes t) → P t → P s) → (start t : S) → Walks step start t → P t → P start
walk-back step P back start t no_step x = x
walk-back step P back start t (one_step a b w e) x = walk-back step P back start a w (back a b e x)

goes-place : (t : List FilePlace × ℕ) (x : List FilePlace) (n : ℕ) → ◌≡◌ {A = Step (List FilePlace × ℕ) (List FilePlace)} (goes (x, n)) (goes t) → t.1 ≡ n
goes-place t x n e = ap (λ (s : List FilePlace × ℕ). s.1) (sym (inner e))
  where
    inner : ◌≡◌ {A = Step (List FilePlace × ℕ) (List FilePlace)} (goes (x, n)) (goes t) → ◌≡◌ {A = List FilePlace × ℕ} (x, n) t
    inner f = cc

ends-goes : (x : List FilePlace) (t : List FilePlace × ℕ) → ◌≡◌ {A = Option (Step (List FilePlace × ℕ) (List FilePlace))} (Some (ends x)) (Some (goes t)) → ⊥
ends-goes x t e = cc

goes-ends : (x : List FilePlace) (t : List FilePlace × ℕ) → ◌≡◌ {A = Step (List FilePlace × ℕ) (List FilePlace)} (goes t) (ends x) → ⊥
goes-ends x t e = cc

step-back : (p : LineParams) (section : ℕ) (h : _) (table : List ℕ) (cells : List Cell) (counts : List ℕ) → bytes_of cells ≡ table → has_standard_operands table h ≡ true → h.line_range ≡ p.line_range
    → h.opcode_base ≡ p.opcode_base → counts ≡ take (h.opcode_base - 1) (drop h.operands table)
    → (s t : List FilePlace × ℕ) → next_opcode section h table s ≡ Some (goes t) → Rest p counts cells t.1 → Rest p counts cells s.1
unfolding next_opcode
step-back p section h table cells counts b standard range base c s t e r = by_test (nat_lt s.1 (length table)) refl e
  where
    by_test : (b : Bool) → nat_lt s.1 (length table) ≡ b
        → (if b then option_map (λ o. goes (with_file s.0 o.file, o.next)) (opcode_at section h table s.1) else Some (ends s.0)) ≡ Some (goes t) → Rest p counts cells s.1
    by_test true test f =
        let o = map-some (λ o. goes (with_file s.0 o.file, o.next)) (opcode_at section h table s.1) (goes t) f in
        let next = goes-place t (with_file s.0 o.0.file) o.0.next o.2 in
        rest-more p counts cells s.1 o.0.next
        (operation-back p section h table cells counts s.1 o.0 b standard range base c (true-lt s.1 (length table) test) o.1)
        (subst (λ (n : ℕ). Rest p counts cells n) next r)
    by_test false test f = absurd (ends-goes s.0 t f)

over-rest : (p : LineParams) (section : ℕ) (h : _) (table : List ℕ) (cells : List Cell) (counts : List ℕ) (s : List FilePlace × ℕ) (x : List FilePlace) → bytes_of cells ≡ table → next_opcode section h table s ≡ Some (ends x)
    → Rest p counts cells s.1
unfolding next_opcode
over-rest p section h table cells counts s x b e = by_test (nat_lt s.1 (length table)) refl e
  where
    by_test : (b : Bool) → nat_lt s.1 (length table) ≡ b
        → (if b then option_map {U = Step (List FilePlace × ℕ) (List FilePlace)} (λ o. goes (with_file s.0 o.file, o.next)) (opcode_at section h table s.1) else Some (ends s.0)) ≡ Some (ends x) → Rest p counts cells s.1
    by_test true test f =
        let o = map-some (λ o. goes (with_file s.0 o.file, o.next)) (opcode_at section h table s.1) (ends x) f in
        absurd (goes-ends x (with_file s.0 o.0.file, o.0.next) o.2)
    by_test false test f =
        let all = sym (length-bytes_of cells) ∙ ap length b in
        let far = false-le s.1 (length table) test in
        subst (λ (cs : List Cell). Spells p counts cs (operations p counts cs)) (sym (drop_all s.1 cells (omega (arith, all, far)))) none_left

pub program-whole : (p : LineParams) (section : ℕ) (h : _) (table : List ℕ) (cells : List Cell) (counts : List ℕ) (defined : List FilePlace) → bytes_of cells ≡ table → has_standard_operands table h ≡ true → h.line_range ≡ p.line_range
    → h.opcode_base ≡ p.opcode_base → counts ≡ take (h.opcode_base - 1) (drop h.operands table)
    → ComesTo (next_opcode section h table) ([], h.program) defined → Rest p counts cells h.program
program-whole p section h table cells counts defined b standard range base c w =
    walk-back (next_opcode section h table) (λ s. Rest p counts cells s.1) (step-back p section h table cells counts b standard range base c) ([], h.program) w.last w.walks
    (over-rest p section h table cells counts w.last defined b w.over)
