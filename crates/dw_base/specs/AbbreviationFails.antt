-- What is wrong with an abbreviation table (DWARF 5, 7.5.3). Each row names the table: its section, and where it starts.
-- A number that doesn't fit 64 bits counts as one that passes the end. What stands before the place that a row speaks of
-- can be read.
use Rattle.std.specs.Prelude.{true, ◌≡◌, ◌≢◌, ℕ, ◌+◌, ◌<◌, ◌≤◌, List, length, Some, None, is_some}
use Rattle.dw_base.specs.AbbreviationTables.{Abbreviation, abbreviation_of, HeadsAbbreviation, SpellsPair, SpellsSpecs, Declares}
use Rattle.dw_base.specs.Lebs.{uleb_at, sleb_at}
use Rattle.dw_base.specs.Refusals.{at}
use Rattle.dw_base.specs.declared.fault.Kind.TheVariants.{Abbreviation as AbbreviationKind}
use Rattle.dw_base.specs.declared.fault.Refusal.{Refusal}
use Rattle.dw_base.specs.declared.values.Spec.{Spec}
use Rattle.dw_base.specs.declared.dwarf_numbers.TheConstants.{DW_FORM_implicit_const}

-- no attribute stands at a place, and not the end of the attributes: a number passes the end, or one of the two is zero
pub data SpecFails (bytes : List ℕ) (place : ℕ) : Type 0 where
  name_passes : uleb_at bytes place ≡ None → SpecFails bytes place
  form_passes : (name size : ℕ) → uleb_at bytes place ≡ Some (name, size) → uleb_at bytes (place + size) ≡ None → SpecFails bytes place
  no_name : (form next : ℕ) → SpellsPair bytes place 0 form next → form ≢ 0 → SpecFails bytes place
  no_form : (name next : ℕ) → SpellsPair bytes place name 0 next → name ≢ 0 → SpecFails bytes place
  number_passes : (name next : ℕ) → SpellsPair bytes place name DW_FORM_implicit_const next → sleb_at bytes next ≡ None
      → SpecFails bytes place

-- no abbreviation stands at a place behind these, and not the end of the table
pub data DeclarationFails (bytes : List ℕ) (list : List Abbreviation) (place : ℕ) : Type 0 where
  code_passes : uleb_at bytes place ≡ None → DeclarationFails bytes list place
  tag_passes : (code size : ℕ) → uleb_at bytes place ≡ Some (code, size) → code ≢ 0 → uleb_at bytes (place + size) ≡ None
      → DeclarationFails bytes list place
  flag_passes : (code code_size tag tag_size : ℕ) → uleb_at bytes place ≡ Some (code, code_size) → code ≢ 0
      → uleb_at bytes (place + code_size) ≡ Some (tag, tag_size) → length bytes ≤ place + code_size + tag_size
      → DeclarationFails bytes list place
  other_flag : (code tag flag next : ℕ) → HeadsAbbreviation bytes place code tag flag next → 1 < flag → DeclarationFails bytes list place
  spec : (code tag flag first next : ℕ) (specs : List Spec) → HeadsAbbreviation bytes place code tag flag first
      → SpellsSpecs bytes first specs next → SpecFails bytes next → DeclarationFails bytes list place
  twice : (code size : ℕ) → uleb_at bytes place ≡ Some (code, size) → code ≢ 0 → is_some (abbreviation_of list code) ≡ true
      → DeclarationFails bytes list place

-- the table at a place of a section
pub data AbbreviationFails (bytes : List ℕ) (section start : ℕ) : Refusal → Type 0 where
  declaration : (list : List Abbreviation) (place : ℕ) → Declares bytes start list place → DeclarationFails bytes list place
      → AbbreviationFails bytes section start (at AbbreviationKind section start)
