-- What the first entry of a unit says of its sources (DWARF 5, 3.1.1): its name, the folder in which it was compiled, where its
-- line table starts, and what texts by index go by (7.5.5 and 7.26). Of an attribute that stands twice the first value counts.
use Rattle.std.specs.Prelude.{Bool, true, false, ℕ, suc, zero, ◌+◌, ◌==◌, ◌&&◌, List, [], ◌∷◌, length, Option, Some, None}
use Rattle.dw_base.specs.AbbreviationTables.{Abbreviation, abbreviation_of}
use Rattle.dw_base.specs.Lebs.{uleb_at}
use Rattle.dw_base.specs.RelocationRows.{can_be_offset}
use Rattle.dw_base.specs.Roles.{is_unit_tag}
use Rattle.dw_base.specs.Values.{value_at}
use Rattle.dw_base.specs.declared.dwarf_numbers.TheConstants.{DW_AT_name, DW_AT_comp_dir, DW_AT_stmt_list, DW_AT_str_offsets_base}
use Rattle.dw_base.specs.declared.shared.Params.{Params}
use Rattle.dw_base.specs.declared.values.Spec.{Spec}
use Rattle.dw_base.specs.declared.values.Value.{Value}
use Rattle.dw_base.specs.declared.values.ValueClass.{ValueClass}
use Rattle.dw_sources.specs.declared.roots.Code.{Code}
use Rattle.dw_sources.specs.declared.roots.Root.{Root}
use Rattle.dw_base.specs.declared.values.ValueClass.TheVariants.{Number, SecOffset, InlineText, StrOffset, LineStrOffset, StrIndex}

-- what was found in the values so far: nothing
abbrev pub no_root : Root
no_root = record { name = None; comp_dir = None; lines = None; base = None }

-- a value that holds a text
abbrev pub is_text : ValueClass → Bool
is_text InlineText = true
is_text StrOffset = true
is_text LineStrOffset = true
is_text StrIndex = true
is_text class = false

-- a value that holds the base of texts by index
abbrev pub is_base_class : ValueClass → Bool
is_base_class Number = true
is_base_class SecOffset = true
is_base_class class = false

-- what was found before, or else this, where it is wanted
abbrev pub or_this : {X : Type 0} → Option X → Bool → X → Option X
or_this (Some y) wanted x = Some y
or_this None true x = Some x
or_this None false x = None

-- with one value more, of an attribute of a name in an entry of a tag
abbrev pub with_value : ℕ → Root → ℕ → Value → Root
with_value tag r name v = record {
  name = or_this r.name (is_unit_tag tag && name == DW_AT_name && is_text v.class) v;
  comp_dir = or_this r.comp_dir (is_unit_tag tag && name == DW_AT_comp_dir && is_text v.class) v;
  lines = or_this r.lines (name == DW_AT_stmt_list && can_be_offset v.class v.len) v;
  base = or_this r.base (name == DW_AT_str_offsets_base && is_base_class v.class) v;
}

-- with the values of attributes that stand one after another from a place on, up to one that can't be read
abbrev pub with_next : (Root → ℕ → Root) → ℕ → Root → ℕ → ℕ → Option Value → Root
with_next rest tag r name place None = r
with_next rest tag r name place (Some v) = rest (with_value tag r name v) (place + v.size)

abbrev pub with_values : Params → List ℕ → ℕ → List Spec → Root → ℕ → Root
with_values params bytes tag [] r place = r
with_values params bytes tag (x ∷ xs) r place =
    with_next (λ s p. with_values params bytes tag xs s p) tag r x.name place (value_at params x bytes place)

-- the entry of an abbreviation, whose values begin at a place
abbrev pub root_behind : Params → List ℕ → ℕ → Option Abbreviation → Root
root_behind params bytes place None = no_root
root_behind params bytes place (Some a) = with_values params bytes a.tag a.specs no_root place

-- the first code from a place on that isn't 0; `fuel` is more than there are codes of 0
abbrev pub code_by : (ℕ → Option Code) → ℕ → ℕ → ℕ → Option Code
code_by next place zero size = next (place + size)
code_by next place (suc code) size = Some (record { code = suc code; behind = place + size })

abbrev pub code_read : (ℕ → Option Code) → ℕ → Option (ℕ × ℕ) → Option Code
code_read next place None = None
code_read next place (Some (code, size)) = code_by next place code size

abbrev pub code_from : ℕ → List ℕ → ℕ → Option Code
code_from zero bytes place = None
code_from (suc fuel) bytes place = code_read (λ p. code_from fuel bytes p) place (uleb_at bytes place)

unfoldable pub first_code : List ℕ → ℕ → Option Code
first_code bytes place = code_from (suc (length bytes)) bytes place

-- what the first entry says of those that stand from a place on: codes of 0 in front of it are padding
abbrev pub root_of : Params → List Abbreviation → List ℕ → Option Code → Root
root_of params table bytes None = no_root
root_of params table bytes (Some c) = root_behind params bytes c.behind (abbreviation_of table c.code)

unfoldable pub root_at : Params → List Abbreviation → List ℕ → ℕ → Root
root_at params table bytes place = root_of params table bytes (first_code bytes place)
