-- The offsets that fields hold, as the code finds them.
use Rattle.std.proofs.Common.{Bool, true, false, ◌≡◌, ◌≢◌, ℕ, ◌+◌, ◌-◌, ◌<◌, ◌≤◌, ◌==◌, ◌||◌, nat_le, ℤ, if◌then◌else◌, List, length, Option, Some, None, refl, sym, ap, ◌∙◌, arith}
use Rattle.std.specs.Prelude.{Ok, Err, is_some}
use Rattle.std.proofs.lemmas.Bool.{and_parts, eq-eqb, leb-true, ne_eqb}
use Rattle.dw_base.specs.Cells.{Cell, Located, bytes_of, field_by}
use Rattle.dw_base.specs.FileViews.{View, field_read, kind_at, section_bytes, view_cells}
use Rattle.dw_base.specs.Numbers.{spelled}
use Rattle.dw_base.specs.RelocationFields.{field_in, field_unless, partly_at, relocation_at}
use Rattle.dw_base.specs.UnitHeaders.{UnitSection}
use Rattle.dw_base.specs.declared.fault.Refusal.{Refusal}
use Rattle.dw_base.specs.declared.shared.Order.{Order}
use Rattle.dw_base.specs.declared.values.Value.{Value}
use Rattle.dw_base.specs.declared.view_fields.Field.{Field}
use Rattle.dw_base.specs.declared.view_fields.Field.TheVariants.{Num, Into, Sym}
use Rattle.dw_base.proofs.ViewCellLaws.{bytes_of-view_cells, field_at-by, field_at-cells, field_read-by}
use Rattle.dw_entries.specs.Fronts.{IsOfView}
use Rattle.dw_sources.specs.FieldOffsets.{field_offset, lies_in, offset_with, sized_offset, spelled_offset, value_offset}

-- by the field
pub with-num : (t : Located) (number n : ℕ) (f : Field) → f ≡ Num n → number ≡ offset_with t number f
with-num t number n f is = sym (ap (offset_with t number) is)

into-by : (t : Located) (number s n : ℕ) (b : Bool) → (s == t.number) ≡ b → offset_with t number (Into s n) ≡ (if b then n else length t.bytes)
into-by t number s n b e = ap (λ (x : Bool). if x then n else length t.bytes) e

pub with-other : (t : Located) (number s n k : ℕ) (bytes : List ℕ) (f : Field) → f ≡ Into s n → k ≡ t.number → s ≢ k → bytes ≡ t.bytes
    → length bytes ≡ offset_with t number f
with-other t number s n k bytes f is same other b =
    ap (λ (bs : List ℕ). length bs) b ∙ sym (ap (offset_with t number) is ∙ into-by t number s n false (ne_eqb s t.number (λ e. other (e ∙ sym same))))

pub with-own : (t : Located) (number s n k : ℕ) (f : Field) → f ≡ Into s n → k ≡ t.number → s ≡ k → n ≡ offset_with t number f
with-own t number s n k f is same here =
    sym (ap (offset_with t number) is ∙ into-by t number s n true (eq-eqb s t.number (here ∙ same)))

pub with-symbol : (t : Located) (number s k : ℕ) (a : ℤ) (bytes : List ℕ) (f : Field) → f ≡ Sym s k a → bytes ≡ t.bytes → length bytes ≡ offset_with t number f
with-symbol t number s k a bytes f is b = ap (λ (bs : List ℕ). length bs) b ∙ sym (ap (offset_with t number) is)

pub ruleset with_rules = (with-num, with-other, with-own, with-symbol)

-- what the field at a place of a section that is read is read as, by its cells
pub read-in : (v : View) (i place n : ℕ) → is_some (kind_at v i) ≡ true → 0 < n → place + n ≤ length (section_bytes v i)
    → field_read v i place n ≡ field_in v.order i (view_cells v i) place n
unfolding field_in
read-in v i place n kind some inside =
    field_read-by v i place n
    ∙ ap (λ (b : Bool). field_unless (if b then partly_at (view_cells v i) place n else None) i
    (field_by (relocation_at (view_cells v i) place) n (spelled v.order (section_bytes v i) place n))) kind
    ∙ ap (field_unless (partly_at (view_cells v i) place n) i) (sym (field_at-by v i place n) ∙ sym (field_at-cells v i place n some inside))

pub offset-read : (v : View) (t : Located) (i place n number k : ℕ) (f : Field) → is_some (kind_at v i) ≡ true → 0 < n → place + n ≤ length (section_bytes v i)
    → Ok f ≡ field_read v i place n → k ≡ offset_with t number f → Some k ≡ field_offset t number (field_in v.order i (view_cells v i) place n)
offset-read v t i place n number k f kind some inside e is =
    ap Some is ∙ ap (field_offset t number) (e ∙ read-in v i place n kind some inside)

pub offset-unread : (v : View) (t : Located) (i place n number : ℕ) (r : Refusal) → is_some (kind_at v i) ≡ true → 0 < n → place + n ≤ length (section_bytes v i)
    → Err r ≡ field_read v i place n → None ≡ field_offset t number (field_in v.order i (view_cells v i) place n)
offset-unread v t i place n number r kind some inside e = ap (field_offset t number) (e ∙ read-in v i place n kind some inside)

pub ruleset field_rules = (offset-read, offset-unread)

-- a value of a unit
value-by : (order : Order) (z : UnitSection) (t : Located) (bytes : List ℕ) (x : Value) (b : Bool) → b ≡ lies_in bytes x
    → (if b then sized_offset order z t x x.len else Some x.number) ≡ value_offset order z t bytes x
value-by order z t bytes x b e = ap (λ (c : Bool). if c then sized_offset order z t x x.len else Some x.number) e

pub value-outside : (order : Order) (z : UnitSection) (t : Located) (bytes : List ℕ) (x : Value) (b : Bool) → b ≡ lies_in bytes x → b ≡ false
    → Some x.number ≡ value_offset order z t bytes x
value-outside order z t bytes x b e out =
    ap (λ (c : Bool). if c then sized_offset order z t x x.len else Some x.number) (sym out) ∙ value-by order z t bytes x b e

sized : (order : Order) (z : UnitSection) (t : Located) (bytes : List ℕ) (x : Value) (b : Bool) (n : ℕ) → b ≡ lies_in bytes x → b ≡ true → x.len ≡ n
    → sized_offset order z t x n ≡ value_offset order z t bytes x
sized order z t bytes x b n e in_it size =
    ap (sized_offset order z t x) (sym size)
    ∙ ap (λ (c : Bool). if c then sized_offset order z t x x.len else Some x.number) (sym in_it) ∙ value-by order z t bytes x b e

own-field : (v : View) (i : ℕ) (z : UnitSection) (at n : ℕ) → IsOfView v i z → field_in v.order i (view_cells v i) at n ≡ field_in v.order z.number z.contents at n
own-field v i z at n is =
    ap (λ (k : ℕ). field_in v.order k (view_cells v i) at n) (sym is.number) ∙ ap (λ (cs : List Cell). field_in v.order z.number cs at n) (sym is.contents)

pub of-view-read : (v : View) (i : ℕ) (z : UnitSection) → IsOfView v i z → is_some (kind_at v i) ≡ true
of-view-read v i z is = is.read

pub of-view-there : (v : View) (i : ℕ) (z : UnitSection) → IsOfView v i z → i < length v.sections
of-view-there v i z is = is.there

-- a value in a field
spelled-by : (order : Order) (z : UnitSection) (t : Located) (x : Value) (n : ℕ) (b : Bool) → (spelled order (bytes_of z.contents) x.at n == x.number) ≡ b
    → spelled_offset order z t x n ≡ (if b then field_offset t x.number (field_in order z.number z.contents x.at n) else Some x.number)
spelled-by order z t x n b e = ap (λ (c : Bool). if c then field_offset t x.number (field_in order z.number z.contents x.at n) else Some x.number) e

bytes-there : (v : View) (i : ℕ) (z : UnitSection) → IsOfView v i z → bytes_of z.contents ≡ section_bytes v i
bytes-there v i z is = ap bytes_of is.contents ∙ bytes_of-view_cells v i

number-there : (v : View) (i : ℕ) (z : UnitSection) (at n number : ℕ) (bs : List ℕ) → IsOfView v i z → bs ≡ section_bytes v i → number ≡ spelled v.order bs at n
    → spelled v.order (bytes_of z.contents) at n ≡ number
number-there v i z at n number bs is same e =
    sym (e ∙ ap (λ (l : List ℕ). spelled v.order l at n) (same ∙ sym (bytes-there v i z is)))

pub spelled-other : (v : View) (i : ℕ) (z : UnitSection) (t : Located) (x : Value) (n number : ℕ) (bs : List ℕ) → IsOfView v i z → bs ≡ section_bytes v i
    → number ≡ spelled v.order bs x.at n → number ≢ x.number → Some x.number ≡ spelled_offset v.order z t x n
spelled-other v i z t x n number bs is same e other =
    let there = number-there v i z x.at n number bs is same e in
    sym (spelled-by v.order z t x n false (ne_eqb (spelled v.order (bytes_of z.contents) x.at n) x.number (λ f. other (sym there ∙ f))))

pub spelled-field : (v : View) (i : ℕ) (z : UnitSection) (t : Located) (x : Value) (n number : ℕ) (bs : List ℕ) (o : Option ℕ) → IsOfView v i z → bs ≡ section_bytes v i
    → number ≡ spelled v.order bs x.at n → number ≡ x.number → o ≡ field_offset t x.number (field_in v.order i (view_cells v i) x.at n)
    → o ≡ spelled_offset v.order z t x n
spelled-field v i z t x n number bs o is same e here own =
    let there = number-there v i z x.at n number bs is same e in
    own ∙ ap (field_offset t x.number) (own-field v i z x.at n is)
    ∙ sym (spelled-by v.order z t x n true (eq-eqb (spelled v.order (bytes_of z.contents) x.at n) x.number (there ∙ here)))

pub ruleset spelled_rules = (spelled-other, spelled-field, of-view-read, of-view-there)

pub value-four : (v : View) (i : ℕ) (z : UnitSection) (t : Located) (bytes : List ℕ) (x : Value) (b : Bool) (o : Option ℕ) → IsOfView v i z
    → b ≡ lies_in bytes x → b ≡ true → x.len ≡ 4 → o ≡ spelled_offset v.order z t x 4 → o ≡ value_offset v.order z t bytes x
value-four v i z t bytes x b o is e in_it size same = same ∙ sized v.order z t bytes x b 4 e in_it size

pub value-eight : (v : View) (i : ℕ) (z : UnitSection) (t : Located) (bytes : List ℕ) (x : Value) (b : Bool) (o : Option ℕ) → IsOfView v i z
    → b ≡ lies_in bytes x → b ≡ true → x.len ≡ 8 → o ≡ spelled_offset v.order z t x 8 → o ≡ value_offset v.order z t bytes x
value-eight v i z t bytes x b o is e in_it size same = same ∙ sized v.order z t bytes x b 8 e in_it size

neither : (order : Order) (z : UnitSection) (t : Located) (x : Value) (n : ℕ) (a b : Bool) → (n == 4) ≡ a → (n == 8) ≡ b → a ≡ false → b ≡ false
    → sized_offset order z t x n ≡ Some x.number
neither order z t x n a b four eight no_four no_eight =
    ap (λ (c : Bool). if c || n == 8 then spelled_offset order z t x n else Some x.number) (four ∙ no_four)
    ∙ ap (λ (c : Bool). if c then spelled_offset order z t x n else Some x.number) (eight ∙ no_eight)

pub value-other : (order : Order) (z : UnitSection) (t : Located) (bytes : List ℕ) (x : Value) (b : Bool) → b ≡ lies_in bytes x → b ≡ true → x.len ≢ 4 → x.len ≢ 8
    → Some x.number ≡ value_offset order z t bytes x
value-other order z t bytes x b e in_it other further =
    sym (neither order z t x x.len (x.len == 4) (x.len == 8) refl refl (ne_eqb x.len 4 other) (ne_eqb x.len 8 further))
    ∙ sized order z t bytes x b x.len e in_it refl

pub value-inside : (bytes whole : List ℕ) (x : Value) (b : Bool) (n : ℕ) → b ≡ lies_in bytes x → b ≡ true → x.len ≡ n → length bytes ≤ length whole
    → x.at + n ≤ length whole
value-inside bytes whole x b n e in_it size within =
    let both = and_parts (nat_le x.len (length bytes)) (nat_le x.at (length bytes - x.len)) (sym e ∙ in_it) in
    let long = leb-true x.len (length bytes) both.0 in
    let far = leb-true x.at (length bytes - x.len) both.1 in
    omega (arith, long, far, size, within)

pub ruleset value_rules = (value-outside, value-four, value-eight, value-other, value-inside, of-view-read, of-view-there)
