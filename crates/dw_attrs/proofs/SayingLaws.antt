-- What is said of a value by what its field reads as.
use Rattle.std.proofs.Common.{◌≡◌, ℕ, ◌+◌, ◌≤◌, ◌^◌, List, [], length, take, Option, Some, None, sym, ap, ◌∙◌, subst, arith}
use Rattle.std.proofs.lemmas.List.{length-take}
use Rattle.dw_base.specs.Values.{value_at}
use Rattle.dw_base.specs.declared.shared.Params.{Params}
use Rattle.dw_base.specs.declared.values.Spec.{Spec}
use Rattle.dw_base.specs.declared.values.Value.{Value}
use Rattle.dw_forms.proofs.InsideLaws.{value_at-inside}
use Rattle.dw_attrs.specs.UnitValues.{UnitSource, SaidUnit, entry_meant, indexed_meant, named_in, place_meant, lines_meant}
use Rattle.dw_attrs.specs.UnitReads.{BytesFit, UnitFits, SourceFits}
use Rattle.dw_attrs.specs.Sayings.{Saying, said_bytes, said_lines, said_stray, said_text}
use Rattle.dw_attrs.proofs.SourceLaws.{past-none}

-- a line table, or the offset that names none
pub table-some : (o : Option ℕ) (k start : ℕ) → Some k ≡ o → said_lines k ≡ lines_meant o start
table-some o k start is = ap (λ (x : Option ℕ). lines_meant x start) is

pub table-none : (o : Option ℕ) (start : ℕ) → None ≡ o → said_stray start ≡ lines_meant o start
table-none o start is = ap (λ (x : Option ℕ). lines_meant x start) is

pub ruleset table_laws = (table-some, table-none)

-- what a field of a value reads as, in the unit's bytes
pub unit-fits : (u w : SaidUnit) (g : UnitSource) → w ≡ u → g ≡ u.source → UnitFits u → BytesFit g.view w.header.section w.bytes
unit-fits u w g same source fits =
    subst (λ (x : UnitSource). BytesFit x.view w.header.section w.bytes) (sym source)
    (subst (λ (x : SaidUnit). BytesFit u.source.view x.header.section x.bytes) (sym same) fits.bytes)

pub ruleset field_laws = (unit-fits)

-- a text by index
pub indexed-some : (o : Option (List ℕ)) (t own : List ℕ) → Some t ≡ o → said_text t ≡ indexed_meant o own
indexed-some o t own is = ap (λ (x : Option (List ℕ)). indexed_meant x own) is

pub indexed-none : (o : Option (List ℕ)) (own bytes : List ℕ) → None ≡ o → bytes ≡ own → said_bytes bytes ≡ indexed_meant o own
indexed-none o own bytes is same = ap said_bytes same ∙ ap (λ (x : Option (List ℕ)). indexed_meant x own) is

pub ruleset index_laws = (indexed-some, indexed-none)

-- a reference
pub reference-named : (g : UnitSource) (section place offset : ℕ) (e : Option (ℕ × ℕ)) (s : Saying) → e ≡ named_in g.view g.tables 0 g.units section place
    → s ≡ place_meant e offset → s ≡ entry_meant g section place offset
unfolding entry_meant
reference-named g section place offset e s is n = n ∙ ap (λ (x : Option (ℕ × ℕ)). place_meant x offset) is

pub reference-past : (g : UnitSource) (section place offset : ℕ) → SourceFits g → 2 ^ 64 ≤ place → said_stray offset ≡ entry_meant g section place offset
unfolding entry_meant
reference-past g section place offset fits le =
    ap (λ (x : Option (ℕ × ℕ)). place_meant x offset) (sym (past-none g.view g.tables 0 section place g.units fits.units (omega (arith, le))))

pub ruleset reference_laws = (reference-named, reference-past)

-- a value lies in the bytes
pub value-there : (params : Params) (x : Spec) (bytes : List ℕ) (place end : ℕ) (v : Value) → value_at params x (take end bytes) place ≡ Some v → place + v.size ≤ length bytes
value-there params x bytes place end v is =
    let inside = value_at-inside params x (take end bytes) place v is in
    omega (arith, inside, length-take end bytes)

pub ruleset read_laws = (value-there)
