-- A table of abbreviations can be read, or a condition holds (DWARF 5, 7.5.3).
use Rattle.std.proofs.Common.{true, false, ◌≡◌, ◌≢◌, ◌⊎◌, inl, inr, ℕ, zero, suc, ℤ, pos, ◌+◌, ◌<◌, ◌≤◌, ◌==◌, List, [], ◌∷◌, ◌++◌, length, slice_index, Option, Some, None, is_some, refl, subst, arith}
use Rattle.std.proofs.lemmas.Bool.{cases_Bool, cases_eq, cases_lt}
use Rattle.dw_base.specs.AbbreviationFails.{AbbreviationFails, DeclarationFails, SpecFails, code_passes, declaration, flag_passes, form_passes, name_passes, no_form, no_name, number_passes, other_flag, spec, tag_passes, twice}
use Rattle.dw_base.specs.AbbreviationTables.{Abbreviation, Declares, HeadsAbbreviation, SpellsAbbreviation, SpellsPair, SpellsSpec, SpellsSpecs, abbreviation_of, by_form, more_abbreviations, more_specs, no_abbreviations, no_specs, with_number}
use Rattle.dw_base.specs.Lebs.{sleb_at, uleb_at}
use Rattle.dw_base.specs.Refusals.{at}
use Rattle.dw_base.specs.UnitHeaders.{UnitBase}
use Rattle.dw_base.specs.UnitTables.{UnitTableFails, other_section, table_fails}
use Rattle.dw_base.specs.declared.dwarf_numbers.TheConstants.{DW_FORM_implicit_const}
use Rattle.dw_base.specs.declared.fault.Kind.TheVariants.{Abbreviation as AbbreviationKind}
use Rattle.dw_base.specs.declared.units.UnitHeader.{UnitHeader}
use Rattle.dw_base.specs.declared.values.Spec.{Spec}
use Rattle.dw_base.proofs.LebLaws.{uleb-inside, uleb-some}
use Rattle.refusal_laws.specs.Decided.{Decided, refused, taken}
use Rattle.refusal_laws.specs.Readable.{HasTableAt, HasUnitTable}
use Rattle.refusal_laws.proofs.Decisions.{decided-among, decided-by}

-- ### An attribute

-- what stands at a place: the end of the attributes, an attribute, or neither
data SpecIs (bytes : List ℕ) (place : ℕ) : Type 0 where
  pair_end : (next : ℕ) → SpellsPair bytes place 0 0 next → place < next → SpecIs bytes place
  one_spec : (x : Spec) (next : ℕ) → SpellsSpec bytes place x next → place < next → place < length bytes → SpecIs bytes place
  spec_fails : SpecFails bytes place → SpecIs bytes place

number-known : (bytes : List ℕ) (place name next : ℕ) → SpellsPair bytes place name DW_FORM_implicit_const next → place < next → place < length bytes → name ≢ 0
    → SpecIs bytes place
number-known bytes place name next p behind there named = by (sleb_at bytes next) refl
  where
    by : (o : Option (ℤ × ℕ)) → sleb_at bytes next ≡ o → SpecIs bytes place
    by None e = spec_fails (number_passes name next p e)
    by (Some (value, size)) e =
        one_spec (record { name = name; form = DW_FORM_implicit_const; implicit = value }) (next + size) (with_number name next size value p named e)
        (omega (arith, behind)) there

pair-known : (bytes : List ℕ) (place name form next : ℕ) → SpellsPair bytes place name form next → place < next → place < length bytes → SpecIs bytes place
pair-known bytes place name form next p behind there = by (cases_eq name 0) (cases_eq form 0) (cases_eq form DW_FORM_implicit_const)
  where
    by : (name ≡ 0) ⊎ (name ≢ 0) → (form ≡ 0) ⊎ (form ≢ 0) → (form ≡ DW_FORM_implicit_const) ⊎ (form ≢ DW_FORM_implicit_const) → SpecIs bytes place
    by (inl none) (inl end) i =
        pair_end next (subst (λ (m : ℕ). SpellsPair bytes place 0 m next) end (subst (λ (m : ℕ). SpellsPair bytes place m form next) none p)) behind
    by (inl none) (inr some) i = spec_fails (no_name form next (subst (λ (m : ℕ). SpellsPair bytes place m form next) none p) some)
    by (inr named) (inl end) i = spec_fails (no_form name next (subst (λ (m : ℕ). SpellsPair bytes place name m next) end p) named)
    by (inr named) (inr some) (inl is) =
        number-known bytes place name next (subst (λ (m : ℕ). SpellsPair bytes place name m next) is p) behind there named
    by (inr named) (inr some) (inr plain) =
        one_spec (record { name = name; form = form; implicit = pos 0 }) next (by_form name form next p named some plain) behind there

form-known : (bytes : List ℕ) (place name n : ℕ) → uleb_at bytes place ≡ Some (name, n) → SpecIs bytes place
form-known bytes place name n e = by (uleb_at bytes (place + n)) refl
  where
    by : (o : Option (ℕ × ℕ)) → uleb_at bytes (place + n) ≡ o → SpecIs bytes place
    by None f = spec_fails (form_passes name n e f)
    by (Some (form, m)) f =
        let some : 0 < n = uleb-some bytes place name n e in
        let inside : place + n ≤ length bytes = uleb-inside bytes place name n e in
        pair-known bytes place name form (place + n + m) (record { name_size = n; form_size = m; name_spells = e; form_spells = f; behind = refl })
        (omega (arith, some)) (omega (arith, some, inside))

spec-known : (bytes : List ℕ) (place : ℕ) → SpecIs bytes place
spec-known bytes place = by (uleb_at bytes place) refl
  where
    by : (o : Option (ℕ × ℕ)) → uleb_at bytes place ≡ o → SpecIs bytes place
    by None e = spec_fails (name_passes e)
    by (Some (name, n)) e = form-known bytes place name n e

-- ### All attributes of an abbreviation

data SpecsAre (bytes : List ℕ) (first : ℕ) : Type 0 where
  specs_end : (specs : List Spec) (last next : ℕ) → SpellsSpecs bytes first specs last → SpellsPair bytes last 0 0 next → first < next → SpecsAre bytes first
  specs_fail : (specs : List Spec) (last : ℕ) → SpellsSpecs bytes first specs last → SpecFails bytes last → SpecsAre bytes first

-- from a place on, with as many steps as there are bytes
specs-from : (bytes : List ℕ) (first steps : ℕ) (specs : List Spec) (place : ℕ) → length bytes ≤ place + steps → first ≤ place → SpellsSpecs bytes first specs place
    → SpecsAre bytes first
specs-from bytes first zero specs place enough forward s = by (spec-known bytes place)
  where
    by : SpecIs bytes place → SpecsAre bytes first
    by (pair_end next p behind) = specs_end specs place next s p (omega (arith, forward, behind))
    by (one_spec x next is behind there) = absurd (omega (arith, enough, there))
    by (spec_fails f) = specs_fail specs place s f
specs-from bytes first (suc steps) specs place enough forward s =
    by (spec-known bytes place)
    (λ (x : Spec) (next : ℕ) (is : SpellsSpec bytes place x next) (behind : place < next).
    specs-from bytes first steps (specs ++ x ∷ []) next (omega (arith, enough, behind)) (omega (arith, forward, behind)) (more_specs specs x place next s is))
  where
    by : SpecIs bytes place → ((x : Spec) (next : ℕ) → SpellsSpec bytes place x next → place < next → SpecsAre bytes first) → SpecsAre bytes first
    by (pair_end next p behind) go = specs_end specs place next s p (omega (arith, forward, behind))
    by (one_spec x next is behind there) go = go x next is behind
    by (spec_fails f) go = specs_fail specs place s f

-- ### An abbreviation

-- what stands at a place behind abbreviations: the end of the table, one more, or neither
data DeclarationIs (bytes : List ℕ) (list : List Abbreviation) (place : ℕ) : Type 0 where
  table_end : (size : ℕ) → uleb_at bytes place ≡ Some (0, size) → DeclarationIs bytes list place
  declared : (a : Abbreviation) (next : ℕ) → SpellsAbbreviation bytes place a next → is_some (abbreviation_of list a.code) ≡ false → place < next → place < length bytes
      → DeclarationIs bytes list place
  declaration_fails : DeclarationFails bytes list place → DeclarationIs bytes list place

head-known : (bytes : List ℕ) (list : List Abbreviation) (place code tag flag first : ℕ) → HeadsAbbreviation bytes place code tag flag first
    → is_some (abbreviation_of list code) ≡ false → place < first → place < length bytes → DeclarationIs bytes list place
head-known bytes list place code tag flag first head new behind there = by (cases_lt 1 flag) (specs-from bytes first (length bytes) [] first (omega arith) (omega arith) no_specs)
  where
    by : (1 < flag) ⊎ (flag ≤ 1) → SpecsAre bytes first → DeclarationIs bytes list place
    by (inl high) s = declaration_fails (other_flag code tag flag first head high)
    by (inr low) (specs_fail specs last s f) = declaration_fails (spec code tag flag first last specs head s f)
    by (inr low) (specs_end specs last next s p further) =
        declared (record { code = code; tag = tag; children = flag == 1; specs = specs }) next
        (record { flag = flag; first = first; last = last; head = head; is_flag = omega (arith, low); children = refl; specs = s; end = p }) new
        (omega (arith, behind, further)) there

tag-known : (bytes : List ℕ) (list : List Abbreviation) (place code n tag m : ℕ) → uleb_at bytes place ≡ Some (code, n) → code ≢ 0
    → is_some (abbreviation_of list code) ≡ false → uleb_at bytes (place + n) ≡ Some (tag, m) → DeclarationIs bytes list place
tag-known bytes list place code n tag m e some new f = by (cases_lt (place + n + m) (length bytes))
  where
    by : (place + n + m < length bytes) ⊎ (length bytes ≤ place + n + m) → DeclarationIs bytes list place
    by (inr past) = declaration_fails (flag_passes code n tag m e some f past)
    by (inl there) =
        head-known bytes list place code tag (slice_index bytes (place + n + m)) (place + n + m + 1)
        (record { code_size = n; tag_size = m; code_spells = e; declares = some; tag_spells = f; flag_there = there; flag_is = refl; behind = refl }) new
        (omega arith) (omega (arith, there))

code-known : (bytes : List ℕ) (list : List Abbreviation) (place code n : ℕ) → uleb_at bytes place ≡ Some (code, n) → DeclarationIs bytes list place
code-known bytes list place code n e = by (cases_eq code 0) (cases_Bool (is_some (abbreviation_of list code))) (uleb_at bytes (place + n)) refl
  where
    by : (code ≡ 0) ⊎ (code ≢ 0) → (is_some (abbreviation_of list code) ≡ true) ⊎ (is_some (abbreviation_of list code) ≡ false)
        → (o : Option (ℕ × ℕ)) → uleb_at bytes (place + n) ≡ o → DeclarationIs bytes list place
    by (inl none) old o f = table_end n (subst (λ (m : ℕ). uleb_at bytes place ≡ Some (m, n)) none e)
    by (inr some) (inl old) o f = declaration_fails (twice code n e some old)
    by (inr some) (inr new) None f = declaration_fails (tag_passes code n e some f)
    by (inr some) (inr new) (Some (tag, m)) f = tag-known bytes list place code n tag m e some new f

declaration-known : (bytes : List ℕ) (list : List Abbreviation) (place : ℕ) → DeclarationIs bytes list place
declaration-known bytes list place = by (uleb_at bytes place) refl
  where
    by : (o : Option (ℕ × ℕ)) → uleb_at bytes place ≡ o → DeclarationIs bytes list place
    by None e = declaration_fails (code_passes e)
    by (Some (code, n)) e = code-known bytes list place code n e

-- ### A table

-- from a place on, with as many steps as there are bytes
table-from : (bytes : List ℕ) (section start steps : ℕ) (list : List Abbreviation) (place : ℕ) → length bytes ≤ place + steps → Declares bytes start list place
    → Decided (HasTableAt bytes start) (AbbreviationFails bytes section start)
table-from bytes section start zero list place enough d = by (declaration-known bytes list place)
  where
    by : DeclarationIs bytes list place → Decided (HasTableAt bytes start) (AbbreviationFails bytes section start)
    by (table_end size e) = taken (record { list = list; is = record { last = place; size = size; declares = d; ends = e } })
    by (declared a next is new behind there) = absurd (omega (arith, enough, there))
    by (declaration_fails f) = refused (at AbbreviationKind section start) (declaration list place d f)
table-from bytes section start (suc steps) list place enough d =
    by (declaration-known bytes list place)
    (λ (a : Abbreviation) (next : ℕ) (is : SpellsAbbreviation bytes place a next) (new : is_some (abbreviation_of list a.code) ≡ false) (behind : place < next).
    table-from bytes section start steps (list ++ a ∷ []) next (omega (arith, enough, behind)) (more_abbreviations list a place next d is new))
  where
    by : DeclarationIs bytes list place
        → ((a : Abbreviation) (next : ℕ) → SpellsAbbreviation bytes place a next → is_some (abbreviation_of list a.code) ≡ false → place < next
        → Decided (HasTableAt bytes start) (AbbreviationFails bytes section start))
        → Decided (HasTableAt bytes start) (AbbreviationFails bytes section start)
    by (table_end size e) go = taken (record { list = list; is = record { last = place; size = size; declares = d; ends = e } })
    by (declared a next is new behind there) go = go a next is new behind
    by (declaration_fails f) go = refused (at AbbreviationKind section start) (declaration list place d f)

pub table-decided : (bytes : List ℕ) (section start : ℕ) → Decided (HasTableAt bytes start) (AbbreviationFails bytes section start)
table-decided bytes section start = table-from bytes section start (length bytes) [] start (omega arith) no_abbreviations

-- and a unit's
pub unit_table-decided : (base : UnitBase) (h : UnitHeader) → Decided (HasUnitTable base h) (UnitTableFails base h)
unit_table-decided base h = by (cases_Bool h.elsewhere)
  where
    by : (h.elsewhere ≡ true) ⊎ (h.elsewhere ≡ false) → Decided (HasUnitTable base h) (UnitTableFails base h)
    by (inl other) = refused (at AbbreviationKind base.abbrevs.number h.abbrevs) (other_section other)
    by (inr here) =
        decided-by (λ t. record { list = t.list; is = record { here = here; is = t.is } })
        (decided-among (λ r f. table_fails f) (table-decided base.abbrevs.bytes base.abbrevs.number h.abbrevs))
