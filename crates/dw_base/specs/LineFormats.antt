-- The formats of directories and files in version 5 (DWARF 5, 6.2.4 and 6.2.4.1): pairs of what a column is and its form.
use Rattle.std.specs.Prelude.{Bool, ℕ, pos, ◌+◌, ◌==◌, ◌||◌, nat_lt, if◌then◌else◌, List, [], ◌∷◌, ◌++◌, length, slice_index, Option, Some, None, option_and_then, option_map}
use Rattle.dw_base.specs.Lebs.{uleb_at}
use Rattle.dw_base.specs.declared.dwarf_numbers.TheConstants.{DW_FORM_string, DW_FORM_strp, DW_FORM_line_strp, DW_FORM_udata, DW_FORM_data1, DW_FORM_data2, DW_FORM_data4, DW_FORM_data8, DW_FORM_data16, DW_FORM_block}
use Rattle.dw_base.specs.declared.values.Spec.{Spec}
use Rattle.dw_base.specs.Walks.{steps}
use Rattle.dw_base.specs.declared.line_numbers.TheConstants.{DW_LNCT_path, DW_LNCT_directory_index}

-- a form by which a path may stand
abbrev pub is_text_form : ℕ → Bool
is_text_form form = form == DW_FORM_string || form == DW_FORM_strp || form == DW_FORM_line_strp

-- a form by which the number of a directory may stand
abbrev pub is_index_form : ℕ → Bool
is_index_form form =
    form == DW_FORM_udata || form == DW_FORM_data1 || form == DW_FORM_data2 || form == DW_FORM_data4 || form == DW_FORM_data8

-- a form by which any column may stand
abbrev pub is_column_form : ℕ → Bool
is_column_form form = is_text_form form || is_index_form form || form == DW_FORM_data16 || form == DW_FORM_block

-- a column may stand by its form
unfoldable pub is_column : Spec → Bool
is_column spec =
    if spec.name == DW_LNCT_path then is_text_form spec.form
    else (if spec.name == DW_LNCT_directory_index then is_index_form spec.form else is_column_form spec.form)

-- the column at a place, and the place behind it
unfoldable pub spec_at : List ℕ → ℕ → Option (Spec × ℕ)
spec_at table place =
    option_and_then (λ name. option_map (λ form. (record { name = name.0; form = form.0; implicit = pos 0 }, place + name.1 + form.1))
    (uleb_at table (place + name.1))) (uleb_at table place)

-- one column more
abbrev pub with_spec : List Spec → Spec × ℕ → Option (List Spec × ℕ)
with_spec specs s = if is_column s.0 then Some (specs ++ s.0 ∷ [], s.1) else None

abbrev pub next_spec : List ℕ → List Spec × ℕ → Option (List Spec × ℕ)
next_spec table s = option_and_then (with_spec s.0) (spec_at table s.1)

-- the format at a place, behind its count of one byte, and the place behind it
unfoldable pub format_at : List ℕ → ℕ → Option (List Spec × ℕ)
format_at table place =
    if nat_lt place (length table) then steps (next_spec table) (slice_index table place) ([], place + 1) else None
