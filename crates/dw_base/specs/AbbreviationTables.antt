-- Abbreviation tables (DWARF 5, 7.5.3): what an entry of a code has.
use Rattle.std.specs.Prelude.{Bool, false, ◌≡◌, ◌≢◌, ℕ, ℤ, pos, ◌+◌, ◌<◌, ◌==◌, if◌then◌else◌, List, [], ◌∷◌, ◌++◌, length, slice_index, Option, Some, None, is_some}
use Rattle.dw_base.specs.Lebs.{uleb_at, sleb_at}
use Rattle.dw_base.specs.declared.values.Spec.{Spec}
use Rattle.dw_base.specs.declared.dwarf_numbers.TheConstants.{DW_FORM_implicit_const}

-- an abbreviation: its code and tag, whether children follow its entries, and their attributes in order
pub record Abbreviation : Type 0 where
  pub code : ℕ
  pub tag : ℕ
  pub children : Bool
  pub specs : List Spec

-- the first abbreviation of a code
abbrev pub abbreviation_of : List Abbreviation → ℕ → Option Abbreviation
abbreviation_of [] code = None
abbreviation_of (a ∷ rest) code = if a.code == code then Some a else abbreviation_of rest code

-- the code, the tag and the flag for children, which is one byte, stand at a place, and the attributes behind them
pub record HeadsAbbreviation (bytes : List ℕ) (at code tag flag next : ℕ) : Type 0 where
  pub code_size : ℕ
  pub tag_size : ℕ
  pub code_spells : uleb_at bytes at ≡ Some (code, code_size)
  pub declares : code ≢ 0
  pub tag_spells : uleb_at bytes (at + code_size) ≡ Some (tag, tag_size)
  pub flag_there : at + code_size + tag_size < length bytes
  pub flag_is : slice_index bytes (at + code_size + tag_size) ≡ flag
  pub behind : next ≡ at + code_size + tag_size + 1

-- the name and the form of an attribute stand at a place; two zeros end the attributes
pub record SpellsPair (bytes : List ℕ) (at name form next : ℕ) : Type 0 where
  pub name_size : ℕ
  pub form_size : ℕ
  pub name_spells : uleb_at bytes at ≡ Some (name, name_size)
  pub form_spells : uleb_at bytes (at + name_size) ≡ Some (form, form_size)
  pub behind : next ≡ at + name_size + form_size

-- an attribute stands at a place: a pair of which neither is zero, and behind the form implicit_const the value
pub data SpellsSpec (bytes : List ℕ) (at : ℕ) : Spec → ℕ → Type 0 where
  by_form : (name form next : ℕ) → SpellsPair bytes at name form next → name ≢ 0 → form ≢ 0 → form ≢ DW_FORM_implicit_const
      → SpellsSpec bytes at (record { name = name; form = form; implicit = pos 0 }) next
  with_number : (name between size : ℕ) (value : ℤ) → SpellsPair bytes at name DW_FORM_implicit_const between → name ≢ 0
      → sleb_at bytes between ≡ Some (value, size)
      → SpellsSpec bytes at (record { name = name; form = DW_FORM_implicit_const; implicit = value }) (between + size)

-- attributes stand one after another from a place up to another
pub data SpellsSpecs (bytes : List ℕ) (start : ℕ) : List Spec → ℕ → Type 0 where
  no_specs : SpellsSpecs bytes start [] start
  more_specs : (specs : List Spec) (spec : Spec) (at next : ℕ) → SpellsSpecs bytes start specs at → SpellsSpec bytes at spec next
      → SpellsSpecs bytes start (specs ++ spec ∷ []) next

-- an abbreviation stands at a place: its head with a flag of 0 or 1, its attributes, and the pair that ends them
pub record SpellsAbbreviation (bytes : List ℕ) (at : ℕ) (a : Abbreviation) (next : ℕ) : Type 0 where
  pub flag : ℕ
  pub first : ℕ
  pub last : ℕ
  pub head : HeadsAbbreviation bytes at a.code a.tag flag first
  pub is_flag : flag < 2
  pub children : a.children ≡ (flag == 1)
  pub specs : SpellsSpecs bytes first a.specs last
  pub end : SpellsPair bytes last 0 0 next

-- abbreviations of different codes stand one after another from a place up to another
pub data Declares (bytes : List ℕ) (start : ℕ) : List Abbreviation → ℕ → Type 0 where
  no_abbreviations : Declares bytes start [] start
  more_abbreviations : (list : List Abbreviation) (a : Abbreviation) (at next : ℕ) → Declares bytes start list at
      → SpellsAbbreviation bytes at a next → is_some (abbreviation_of list a.code) ≡ false
      → Declares bytes start (list ++ a ∷ []) next

-- the table at a place: abbreviations, and the code 0 that ends it
pub record IsTable (bytes : List ℕ) (start : ℕ) (list : List Abbreviation) : Type 0 where
  pub last : ℕ
  pub size : ℕ
  pub declares : Declares bytes start list last
  pub ends : uleb_at bytes last ≡ Some (0, size)
