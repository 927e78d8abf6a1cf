-- The units of a generated file, and their abbreviations (DWARF 4, 7.5). This project's profile.
use Rattle.std.specs.Prelude.{ℕ, ◌+◌, List, [], ◌∷◌, ◌++◌, length, slice_index}
use Rattle.dw_base.specs.Numbers.{number_bytes}
use Rattle.dw_base.specs.StringTables.{place_in}
use Rattle.dw_base.specs.declared.dwarf_numbers.TheConstants.{DW_AT_comp_dir, DW_AT_name, DW_AT_stmt_list, DW_FORM_sec_offset, DW_FORM_strp, DW_TAG_compile_unit, DW_TAG_variable}
use Rattle.dw_base.specs.declared.shared.Order.TheVariants.{Little}
use Rattle.dbg_gen.specs.GeneratedLines.{lines_of}
use Rattle.dbg_gen.specs.GeneratedTexts.{chained, directory, unit_name, variable_name}

-- code 1 is a compilation unit with children, its name, its directory and its line table; code 2 a variable without, and its name
abbrev pub abbreviations : List ℕ
abbreviations =
    1 ∷ DW_TAG_compile_unit ∷ 1 ∷ DW_AT_name ∷ DW_FORM_strp ∷ DW_AT_comp_dir ∷ DW_FORM_strp ∷ DW_AT_stmt_list ∷ DW_FORM_sec_offset ∷ 0 ∷ 0
    ∷ 2 ∷ DW_TAG_variable ∷ 0 ∷ DW_AT_name ∷ DW_FORM_strp ∷ 0 ∷ 0 ∷ 0 ∷ []

-- an offset of a text in the table
abbrev pub text_offset : List (List ℕ) → List ℕ → List ℕ
text_offset texts t = number_bytes Little 4 (place_in texts t)

-- the entry of a unit whose line table stands at a place
abbrev pub unit_entry : List (List ℕ) → ℕ → ℕ → List ℕ
unit_entry texts unit lines = (1 ∷ []) ++ (text_offset texts (unit_name unit) ++ (text_offset texts directory ++ number_bytes Little 4 lines))

-- the entry of a variable
abbrev pub variable_entry : List (List ℕ) → ℕ → List ℕ
variable_entry texts variable = (2 ∷ []) ++ text_offset texts (variable_name variable)

-- the entries of a unit: its own, its variables, and the end of these
unfoldable pub unit_entries : List (List ℕ) → ℕ → ℕ → ℕ → List ℕ
unit_entries texts unit count lines =
    unit_entry texts unit lines ++ (chained (variable_entry texts) count ++ (0 ∷ []))

-- a unit of version 4 and 32 bits with these entries: its length, its version, the place of its abbreviations, the size of an
-- address, and the entries
unfoldable pub unit_with : List ℕ → List ℕ
unit_with entries = number_bytes Little 4 (7 + length entries) ++ ((4 ∷ 0 ∷ 0 ∷ 0 ∷ 0 ∷ 0 ∷ 8 ∷ []) ++ entries)

-- a unit with so many variables, whose line table stands at a place
abbrev pub unit_bytes : List (List ℕ) → ℕ → ℕ → ℕ → List ℕ
unit_bytes texts unit count lines = unit_with (unit_entries texts unit count lines)

-- the first units, which have so many variables each, one after another, for these texts: the line table of each stands behind
-- those of the units before it
unfoldable pub units_of : List (List ℕ) → List ℕ → ℕ → List ℕ
units_of texts counts units = chained (λ unit. unit_bytes texts unit (slice_index counts unit) (length (lines_of counts unit))) units
