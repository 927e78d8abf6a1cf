-- Laws of fields that are read by the relocations that begin at them.
use Rattle.std.proofs.Common.{◌≡◌, ◌≢◌, ◌⊎◌, ℕ, ℤ, suc, pos, negsuc, ◌+◌, ◌-◌, ◌%◌, ◌^◌, ◌<◌, Bool, true, false, if◌then◌else◌, ◌==◌, nat_lt, length, Option, Some, None, refl, sym, ap, ◌∙◌, arith, inl, inr}
use Rattle.std.specs.Prelude.{◌+ℤ◌, IfSome}
use Rattle.std.specs.Int.{w64}
use Rattle.std.specs.Int.RustNames.{FitsSigned}
use Rattle.std.proofs.lemmas.Bool.{eq-eqb, eqb-true, ltb-true, ltb-false}
use Rattle.dw_base.specs.AbsoluteTypes.{absolute_size, absolute_types, eight_by, size_in}
use Rattle.dw_base.specs.Cells.{Relocation as CellRelocation, addend_of, field_by, relocated, shown_addend, symbol_field, targeted, wrapped}
use Rattle.dw_base.specs.Relocs.{reloc_at}
use Rattle.dw_base.specs.SectionRelocations.{RelocationSource, records_in, relocation_of, target_of}
use Rattle.dw_base.specs.Symbols.{symbol_at}
use Rattle.dw_base.specs.declared.relocations.AbsoluteTypes.{AbsoluteTypes}
use Rattle.dw_base.specs.declared.relocations.Reloc.{Reloc}
use Rattle.dw_base.specs.declared.view_fields.Field.{Field}
use Rattle.dw_base.specs.declared.view_fields.Field.TheVariants.{Into, Sym}
use Rattle.dw_base.proofs.RelocationTieLaws.{record-there}
use Rattle.dw_view.specs.Places.{added, record_of}
use Rattle.dw_view.specs.Relocations.{relocation_value}
use Rattle.dw_view.specs.declared.fields.Relocation.{Relocation}
use Rattle.dw_view.proofs.PlaceLaws.{record-is}

-- the relocation of a record, by the record that was read
pub record-read : (g : RelocationSource) (index : ℕ) (r : Reloc) (x : Relocation) → Some r ≡ reloc_at g.class g.order g.rela g.table index
    → index < length (records_in g) → relocation_value x ≡ relocation_of g r → relocation_value x ≡ relocation_of g (record_of g index)
record-read g index r x e lt is = is ∙ ap (relocation_of g) (sym (record-is g index r (sym e) lt))

pub record-absent : (g : RelocationSource) (index : ℕ) (x : CellRelocation) → None ≡ reloc_at g.class g.order g.rela g.table index → index < length (records_in g)
    → x ≡ relocation_of g (record_of g index)
record-absent g index x e lt = let some = record-there g index (record { offset = 0; symbol = 0; kind = 0; addend = None }) lt in absurd cc

pub sizes-none : (o : Option ℕ) → o ≡ None → IfSome o (λ (n : ℕ). (n ≡ 4) ⊎ (n ≡ 8))
sizes-none None is = tt
sizes-none (Some n) is = absurd cc

pub ruleset record_rules = (record-read, record-absent, sizes-none)

-- where its symbol is defined
pub target-read : (g : RelocationSource) (index : ℕ) (r : Reloc) (t : Option (ℕ × ℕ)) → Some r ≡ reloc_at g.class g.order g.rela g.table index
    → index < length (records_in g) → t ≡ target_of (symbol_at g.class g.order g.symbols g.extended r.symbol) → t ≡ (relocation_of g (record_of g index)).target
unfolding relocation_of
target-read g index r t e lt is =
    is ∙ ap (λ (x : Reloc). target_of (symbol_at g.class g.order g.symbols g.extended x.symbol)) (sym (record-is g index r (sym e) lt))

pub target-absent : (g : RelocationSource) (index : ℕ) (t : Option (ℕ × ℕ)) → None ≡ reloc_at g.class g.order g.rela g.table index → index < length (records_in g)
    → t ≡ (relocation_of g (record_of g index)).target
target-absent g index t e lt = let some = record-there g index (record { offset = 0; symbol = 0; kind = 0; addend = None }) lt in absurd cc

pub ruleset symbol_rules = (target-read, target-absent)

-- a relocation of another type or size gives the symbol
by-other : (o : Option ℕ) (r : CellRelocation) (n x : ℕ) → o ≢ Some n → relocated o r n x ≡ symbol_field r x
by-other None r n x other = refl
by-other (Some k) r n x other = own (k == n) refl
  where
    own : (b : Bool) → (k == n) ≡ b → (if b then targeted r.target r n x else symbol_field r x) ≡ symbol_field r x
    own true e = absurd (other (ap Some (eqb-true k n e)))
    own false e = refl

by-own : (o : Option ℕ) (r : CellRelocation) (n x : ℕ) → o ≡ Some n → relocated o r n x ≡ targeted r.target r n x
by-own o r n x is = ap (λ (k : Option ℕ). relocated k r n x) is ∙ own (n == n) (eq-eqb n n refl)
  where
    own : (b : Bool) → b ≡ true → (if b then targeted r.target r n x else symbol_field r x) ≡ targeted r.target r n x
    own true e = refl
    own false e = absurd cc

pub field-other : (r : Relocation) (n x : ℕ) (f : Field) → r.size ≢ Some n → f ≡ Sym r.symbol r.kind (shown_addend r.addend x)
    → f ≡ field_by (Some (relocation_value r)) n x
field-other r n x f other is = is ∙ sym (by-other r.size (relocation_value r) n x other)

pub field-own : (r : Relocation) (n x : ℕ) (f : Field) → r.size ≡ Some n → f ≡ targeted r.target (relocation_value r) n x
    → f ≡ field_by (Some (relocation_value r)) n x
field-own r n x f own is = is ∙ sym (by-own r.size (relocation_value r) n x own)

pub size-own : (o : Option ℕ) (n : ℕ) → IfSome o (λ (m : ℕ). (m ≡ 4) ⊎ (m ≡ 8)) → o ≡ Some n → (n ≡ 4) ⊎ (n ≡ 8)
size-own None n either e = absurd cc
size-own (Some m) n (inl four) e = inl (let same : m ≡ n = cc in sym same ∙ four)
size-own (Some m) n (inr eight) e = inr (let same : m ≡ n = cc in sym same ∙ eight)

pub ruleset field_rules = (field-other, field-own, size-own)

-- one of the field's size, by where its symbol is defined
pub target-into : (t : Option (ℕ × ℕ)) (r : CellRelocation) (section value n x y : ℕ) → t ≡ Some (section, value)
    → y ≡ wrapped (pos value +ℤ addend_of r.addend x) n → Into section y ≡ targeted t r n x
target-into t r section value n x y t_is is = ap (Into section) is ∙ ap (λ (u : Option (ℕ × ℕ)). targeted u r n x) (sym t_is)

pub target-none : (t : Option (ℕ × ℕ)) (r : CellRelocation) (n x : ℕ) (f : Field) → t ≡ None → f ≡ Sym r.symbol r.kind (shown_addend r.addend x)
    → f ≡ targeted t r n x
target-none t r n x f t_is is = is ∙ ap (λ (u : Option (ℕ × ℕ)). targeted u r n x) (sym t_is)

pub ruleset target_rules = (target-into, target-none)

-- absolute types are of 4 or 8 bytes
eight-is : (o : Option ℕ) (kind n : ℕ) → eight_by o kind ≡ Some n → n ≡ 8
eight-is None kind n e = absurd cc
eight-is (Some k) kind n e = own (kind == k) e
  where
    own : (b : Bool) → (if b then Some 8 else None) ≡ Some n → n ≡ 8
    own true e = cc
    own false e = absurd cc

size-is : (o : Option AbsoluteTypes) (kind n : ℕ) → size_in o kind ≡ Some n → (n ≡ 4) ⊎ (n ≡ 8)
size-is None kind n e = absurd cc
size-is (Some types) kind n e = own (kind == types.four) e
  where
    own : (b : Bool) → (if b then Some 4 else eight_by types.eight kind) ≡ Some n → (n ≡ 4) ⊎ (n ≡ 8)
    own true e = inl cc
    own false e = inr (eight-is types.eight kind n e)

pub absolute-is : (machine kind n : ℕ) → absolute_size machine kind ≡ Some n → (n ≡ 4) ⊎ (n ≡ 8)
unfolding absolute_size
absolute-is machine kind n e = size-is (absolute_types machine) kind n e

pub sizes-are : (machine kind : ℕ) (o : Option ℕ) → o ≡ absolute_size machine kind → IfSome o (λ (n : ℕ). (n ≡ 4) ⊎ (n ≡ 8))
sizes-are machine kind None is = tt
sizes-are machine kind (Some n) is = absolute-is machine kind n (sym is)

pub ruleset size_rules = (sizes-are)

-- a sum in 4 or 8 bytes
pub sum-is : (x y size : ℕ) → (size ≡ 4) ⊎ (size ≡ 8) → size ≡ 4 → x ≡ y % 2 ^ 64 → x % 4294967296 ≡ y % 256 ^ size
sum-is x y size either four is = rw (four, is) (omega arith)

pub sum-whole : (x y size : ℕ) → (size ≡ 4) ⊎ (size ≡ 8) → size ≢ 4 → x ≡ y % 2 ^ 64 → x ≡ y % 256 ^ size
sum-whole x y size (inl four) other is = absurd (other four)
sum-whole x y size (inr eight) other is = rw (eight, is) refl

pub ruleset sum_rules = (sum-is, sum-whole)

-- what is added modulo 2^64 is added modulo less
neg-four : (v k : ℕ) → k < 2 ^ 63 → (v + (2 ^ 64 - suc k)) % 256 ^ 4 ≡ wrapped (pos v +ℤ negsuc k) 4
neg-four v k small = own (nat_lt v (suc k)) refl
  where
    own : (t : Bool) → nat_lt v (suc k) ≡ t → (v + (2 ^ 64 - suc k)) % 256 ^ 4 ≡ wrapped (if t then negsuc (suc k - suc v) else pos (v - suc k)) 4
    own true e = let lt = ltb-true v (suc k) e in omega (arith, lt, small)
    own false e = let le = ltb-false v (suc k) e in omega (arith, le, small)

neg-eight : (v k : ℕ) → k < 2 ^ 63 → (v + (2 ^ 64 - suc k)) % 256 ^ 8 ≡ wrapped (pos v +ℤ negsuc k) 8
neg-eight v k small = own (nat_lt v (suc k)) refl
  where
    own : (t : Bool) → nat_lt v (suc k) ≡ t → (v + (2 ^ 64 - suc k)) % 256 ^ 8 ≡ wrapped (if t then negsuc (suc k - suc v) else pos (v - suc k)) 8
    own true e = let lt = ltb-true v (suc k) e in omega (arith, lt, small)
    own false e = let le = ltb-false v (suc k) e in omega (arith, le, small)

added-is : (v n size : ℕ) (o : Option ℤ) → (size ≡ 4) ⊎ (size ≡ 8) → IfSome o (FitsSigned w64) → (v + added o n) % 256 ^ size ≡ wrapped (pos v +ℤ addend_of o n) size
added-is v n size None either fits = refl
added-is v n size (Some (pos a)) either fits = refl
added-is v n size (Some (negsuc k)) (inl four) fits = let low = fits.sfits in rw four (neg-four v k (omega (arith, low)))
added-is v n size (Some (negsuc k)) (inr eight) fits = let low = fits.sfits in rw eight (neg-eight v k (omega (arith, low)))

pub offset-is : (v n size x y : ℕ) (o : Option ℤ) → (size ≡ 4) ⊎ (size ≡ 8) → IfSome o (FitsSigned w64) → y ≡ added o n → x ≡ (v + y) % 256 ^ size
    → x ≡ wrapped (pos v +ℤ addend_of o n) size
offset-is v n size x y o either fits y_is x_is = x_is ∙ ap (λ (k : ℕ). (v + k) % 256 ^ size) y_is ∙ added-is v n size o either fits

pub ruleset offset_rules = (offset-is)
