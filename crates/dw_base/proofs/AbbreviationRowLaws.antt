-- A refused abbreviation table is none: where a row holds, no table stands there.
use Rattle.std.proofs.Common.{Bool, true, false, ◌≡◌, ◌≢◌, ℕ, ◌+◌, ◌≤◌, ◌⊎◌, inl, inr, nat_lt, List, [], length, drop, Some, refl, sym, ap, ◌∙◌, subst, arith, if◌then◌else◌}
use Rattle.std.specs.Prelude.{is_some}
use Rattle.std.proofs.lemmas.Bool.{ne_eqb, cases_eq, le-ltb}
use Rattle.std.proofs.lemmas.List.{drop_all}
use Rattle.dw_base.specs.AbbreviationBytes.{TablePlace, code_next, tag_next, flag_next, name_next, form_next, number_next, ended, broken, TableState, at_place, bare, after_code, after_pair, after_all}
use Rattle.dw_base.specs.AbbreviationFails.{SpecFails, name_passes, form_passes, no_name, no_form, number_passes, DeclarationFails, code_passes, tag_passes, flag_passes, other_flag, spec, twice, AbbreviationFails, declaration}
use Rattle.dw_base.specs.AbbreviationTables.{Abbreviation, abbreviation_of, SpellsSpecs, IsTable}
use Rattle.dw_base.specs.Lebs.{uleb_at}
use Rattle.dw_base.specs.UnitHeaders.{UnitBase}
use Rattle.dw_base.specs.UnitTables.{IsUnitTable, UnitTableFails, other_section, table_fails}
use Rattle.dw_base.specs.declared.fault.Refusal.{Refusal}
use Rattle.dw_base.specs.declared.units.UnitHeader.{UnitHeader}
use Rattle.dw_base.specs.declared.values.Spec.{Spec}
use Rattle.dw_base.specs.declared.dwarf_numbers.TheConstants.{DW_FORM_implicit_const}
use Rattle.dw_base.proofs.AbbreviationLaws.{from, pair-read, specs-read, and_specs, head-read, declares-read, table-read, code-some}
use Rattle.dw_base.proofs.NumberBytes.{unsigned-read, number-breaks, signed-breaks, broken-stays}

-- a table doesn't end from a state on
abbrev Breaks : TableState → List ℕ → Type 0
Breaks s bs = (after_all s bs).place ≢ ended

broken-breaks : (list : List Abbreviation) (bs : List ℕ) → Breaks (at_place broken list) bs
broken-breaks list bs e =
    let stays : (after_all (at_place broken list) bs).place ≡ broken = broken-stays list bs in
    cc

-- a state that leads to another breaks where that does
carried : (s t : TableState) → s ≡ t → t.place ≢ ended → s.place ≢ ended
carried s t e f = subst (λ (u : TableState). u.place ≢ ended) (sym e) f

zero-name : (a : Abbreviation) (list : List Abbreviation) (form : ℕ) → form ≢ 0 → after_pair a 0 form list ≡ at_place broken list
zero-name a list form f = rw (ne_eqb form 0 f) refl

zero-form : (a : Abbreviation) (list : List Abbreviation) (name : ℕ) → name ≢ 0 → after_pair a name 0 list ≡ at_place broken list
zero-form a list name n = rw (ne_eqb name 0 n) refl

implicit-some : (a : Abbreviation) (list : List Abbreviation) (name : ℕ) → name ≢ 0
    → after_pair a name DW_FORM_implicit_const list ≡ at_place (number_next a name) list
implicit-some a list name n = rw (ne_eqb name 0 n) refl

-- no attribute stands there
spec-breaks : (a : Abbreviation) (list : List Abbreviation) (bytes : List ℕ) (at : ℕ) → SpecFails bytes at → Breaks (at_place (name_next a) list) (drop at bytes)
spec-breaks a list bytes at (name_passes e) = number-breaks (name_next a) list bytes at refl e
spec-breaks a list bytes at (form_passes name size e f) =
    carried _ _ (unsigned-read (name_next a) list bytes at name size refl e) (number-breaks (form_next a name) list bytes (at + size) refl f)
spec-breaks a list bytes at (no_name form next s f) =
    carried _ _ (pair-read a list bytes at 0 form next s ∙ ap (λ (t : TableState). after_all t (drop next bytes)) (zero-name a list form f))
    (broken-breaks list (drop next bytes))
spec-breaks a list bytes at (no_form name next s n) =
    carried _ _ (pair-read a list bytes at name 0 next s ∙ ap (λ (t : TableState). after_all t (drop next bytes)) (zero-form a list name n))
    (broken-breaks list (drop next bytes))
spec-breaks a list bytes at (number_passes name next s e) = by_name (cases_eq name 0)
  where
    by_name : (name ≡ 0) ⊎ (name ≡ 0 → ⊥) → Breaks (at_place (name_next a) list) (drop at bytes)
    by_name (inl z) =
        carried _ _ (pair-read a list bytes at name DW_FORM_implicit_const next s
        ∙ ap (λ (n : ℕ). after_all (after_pair a n DW_FORM_implicit_const list) (drop next bytes)) z)
        (broken-breaks list (drop next bytes))
    by_name (inr n) =
        carried _ _ (pair-read a list bytes at name DW_FORM_implicit_const next s
        ∙ ap (λ (t : TableState). after_all t (drop next bytes)) (implicit-some a list name n))
        (signed-breaks a name list bytes next e)

code-twice : (code : ℕ) (list : List Abbreviation) → code ≢ 0 → is_some (abbreviation_of list code) ≡ true → after_code code list ≡ broken
code-twice code list some old = rw (ne_eqb code 0 some, old) refl

-- where a code has an abbreviation already, the table breaks there
twice-breaks : (list : List Abbreviation) (bytes : List ℕ) (at code size : ℕ) → uleb_at bytes at ≡ Some (code, size) → code ≢ 0
    → is_some (abbreviation_of list code) ≡ true → Breaks (at_place code_next list) (drop at bytes)
twice-breaks list bytes at code size e some old =
    carried _ _ (unsigned-read code_next list bytes at code size refl e ∙ ap (λ (p : TablePlace). from p list bytes (at + size)) (code-twice code list some old))
    (broken-breaks list (drop (at + size) bytes))

-- and else it goes on to the tag
new-goes : (list : List Abbreviation) (bytes : List ℕ) (at code size : ℕ) → uleb_at bytes at ≡ Some (code, size) → code ≢ 0
    → is_some (abbreviation_of list code) ≡ false → from code_next list bytes at ≡ from (tag_next code) list bytes (at + size)
new-goes list bytes at code size e some new =
    unsigned-read code_next list bytes at code size refl e ∙ ap (λ (p : TablePlace). from p list bytes (at + size)) (code-some code list some new)

-- by whether the code is new
by_new : (list : List Abbreviation) (bytes : List ℕ) (at code size : ℕ) → uleb_at bytes at ≡ Some (code, size) → code ≢ 0
    → (is_some (abbreviation_of list code) ≡ false → Breaks (at_place code_next list) (drop at bytes)) → Breaks (at_place code_next list) (drop at bytes)
by_new list bytes at code size e some f = by_found (is_some (abbreviation_of list code)) refl
  where
    by_found : (b : Bool) → is_some (abbreviation_of list code) ≡ b → Breaks (at_place code_next list) (drop at bytes)
    by_found true is = twice-breaks list bytes at code size e some is
    by_found false is = f is

no-flag : (code tag : ℕ) (list : List Abbreviation) (bytes : List ℕ) (at : ℕ) → length bytes ≤ at → Breaks (at_place (flag_next code tag) list) (drop at bytes)
no-flag code tag list bytes at past = rw (drop_all at bytes past) (λ e. cc)

flag-breaks : (list : List Abbreviation) (bytes : List ℕ) (code tag flag next : ℕ) → nat_lt flag 2 ≡ false
    → Breaks (at_place (if nat_lt flag 2 then name_next (bare code tag flag) else broken) list) (drop next bytes)
flag-breaks list bytes code tag flag next high = rw high (broken-breaks list (drop next bytes))

-- the attributes of an abbreviation
specs-break : (list : List Abbreviation) (bytes : List ℕ) (code tag flag first next : ℕ) (xs : List Spec) → SpellsSpecs bytes first xs next
    → SpecFails bytes next → Breaks (at_place (if nat_lt flag 2 then name_next (bare code tag flag) else broken) list) (drop first bytes)
specs-break list bytes code tag flag first next xs s f = by_flag (nat_lt flag 2)
  where
    by_flag : (b : Bool) → Breaks (at_place (if b then name_next (bare code tag flag) else broken) list) (drop first bytes)
    by_flag true =
        carried _ _ (specs-read (bare code tag flag) list bytes first xs next s) (spec-breaks (and_specs (bare code tag flag) xs) list bytes next f)
    by_flag false = broken-breaks list (drop first bytes)

-- no abbreviation stands there
declaration-breaks : (list : List Abbreviation) (bytes : List ℕ) (at : ℕ) → DeclarationFails bytes list at → Breaks (at_place code_next list) (drop at bytes)
declaration-breaks list bytes at (code_passes e) = number-breaks code_next list bytes at refl e
declaration-breaks list bytes at (tag_passes code size e some f) =
    by_new list bytes at code size e some (λ new. carried _ _ (new-goes list bytes at code size e some new) (number-breaks (tag_next code) list bytes (at + size) refl f))
declaration-breaks list bytes at (flag_passes code code_size tag tag_size e some f past) =
    by_new list bytes at code code_size e some
    (λ new. carried _ _ (new-goes list bytes at code code_size e some new ∙ unsigned-read (tag_next code) list bytes (at + code_size) tag tag_size refl f)
    (no-flag code tag list bytes (at + code_size + tag_size) past))
declaration-breaks list bytes at (other_flag code tag flag next h high) =
    by_new list bytes at code h.code_size h.code_spells h.declares
    (λ new. carried _ _ (head-read list bytes at code tag flag next h new) (flag-breaks list bytes code tag flag next (le-ltb flag 2 (omega (arith, high)))))
declaration-breaks list bytes at (spec code tag flag first next xs h s f) =
    by_new list bytes at code h.code_size h.code_spells h.declares
    (λ new. carried _ _ (head-read list bytes at code tag flag first h new) (specs-break list bytes code tag flag first next xs s f))
declaration-breaks list bytes at (twice code size e some old) = twice-breaks list bytes at code size e some old

-- where a row holds, no table stands
pub table-excludes : (bytes : List ℕ) (section start : ℕ) (list : List Abbreviation) (r : Refusal) → IsTable bytes start list
    → AbbreviationFails bytes section start r → ⊥
table-excludes bytes section start list r t (declaration before at d f) =
    let breaks : Breaks (at_place code_next []) (drop start bytes) =
    carried _ _ (declares-read bytes start before at d) (declaration-breaks before bytes at f) in
    breaks (ap (λ (s : TableState). s.place) (table-read bytes start list t))

-- nor a unit's
pub unit_table-excludes : (base : UnitBase) (h : UnitHeader) (list : List Abbreviation) (r : Refusal) → IsUnitTable base h list
    → UnitTableFails base h r → ⊥
unit_table-excludes base h list r t (other_section e) = let here = t.here in absurd cc
unit_table-excludes base h list r t (table_fails f) = table-excludes base.abbrevs.bytes base.abbrevs.number h.abbrevs list r t.is f
