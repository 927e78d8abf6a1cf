-- What an attribute is to an edit, and what an edit may do to a piece of a unit.
use Rattle.std.specs.Prelude.{Bool, true, false, ℕ, ◌==◌, ◌&&◌, ◌||◌, if◌then◌else◌, ◌∷◌}
use Rattle.dw_base.specs.Forms.{ValueKind, number_of, inline_text, text_offset, kind_in}
use Rattle.dw_base.specs.Pieces.{Piece}
use Rattle.dw_base.specs.UnitStates.{Mode, at_values, at_chosen, UnitState}
use Rattle.dw_base.specs.declared.shared.Params.{Params}
use Rattle.dw_base.specs.declared.values.AttributeUse.{AttributeUse}
use Rattle.dw_base.specs.declared.values.AttributeUse.TheVariants.{NamesPath, NamesLineTable, NamesMacroUnit, NamesOther}
use Rattle.dw_base.specs.declared.values.ValueClass.{ValueClass}
use Rattle.dw_base.specs.declared.values.ValueClass.TheVariants.{Number, SecOffset}
use Rattle.dw_base.specs.declared.dwarf_numbers.TheConstants.{DW_TAG_compile_unit, DW_TAG_partial_unit, DW_TAG_type_unit, DW_AT_name, DW_AT_comp_dir, DW_AT_stmt_list, DW_AT_macros, DW_AT_GNU_macros}
use Rattle.dw_base.specs.declared.texts.TextSection.{TextSection}

-- a unit's own tag (DWARF 5, 3.1.1 and 3.1.4)
abbrev pub is_unit_tag : ℕ → Bool
is_unit_tag tag = tag == DW_TAG_compile_unit || tag == DW_TAG_partial_unit || tag == DW_TAG_type_unit

-- an attribute that says a source path where its value is a text: name or comp_dir of the first entry of a unit whose tag is
-- a unit's (DWARF 5, 3.1.1)
abbrev pub is_path : ℕ → ℕ → ℕ → Bool
is_path number tag name = number == 0 && is_unit_tag tag && (name == DW_AT_name || name == DW_AT_comp_dir)

-- an attribute of a name that says where a macro unit starts, and one that says where that or a line table does (DWARF 5, 3.1.1)
abbrev pub is_macros : ℕ → Bool
is_macros name = name == DW_AT_macros || name == DW_AT_GNU_macros

abbrev pub is_start_name : ℕ → Bool
is_start_name name = name == DW_AT_stmt_list || is_macros name

-- what an attribute of entry `number` of a unit, of a tag, says, as far as an edit goes by it: a source path, the place of a line table, that
-- of a macro unit, or something else
abbrev pub use_of : ℕ → ℕ → ℕ → AttributeUse
use_of number tag name =
    if is_path number tag name then NamesPath else
    (if name == DW_AT_stmt_list then NamesLineTable else
    (if is_macros name then NamesMacroUnit else NamesOther))

abbrev pub is_path_use : AttributeUse → Bool
is_path_use NamesPath = true
is_path_use u = false

-- a number of a class, in so many bytes, that says where a line table starts (DWARF 5, 3.1.1; before version 4 it is a number of 4 or 8
-- bytes)
abbrev pub is_line_start : AttributeUse → ValueClass → ℕ → Bool
is_line_start NamesLineTable SecOffset n = true
is_line_start NamesLineTable Number n = n == 4 || n == 8
is_line_start u class n = false

-- a number of a class, in so many bytes, that says where a macro unit starts (DWARF 5, 3.1.1)
abbrev pub is_macro_start : AttributeUse → ValueClass → ℕ → Bool
is_macro_start NamesMacroUnit SecOffset n = true
is_macro_start NamesMacroUnit Number n = n == 4 || n == 8
is_macro_start u class n = false

-- what an edit may do to a piece: nothing; give its offset into a table of texts, of a path or not, another value; where a path
-- stands in it, map that; or give it the new start of a line table
pub data Role : Type 0 where
  fixed : Role
  offset : TextSection → Bool → Role
  inline_path : Role
  line_start : Role

abbrev pub role_of_kind : ValueKind → AttributeUse → Role
role_of_kind (text_offset table n) u = offset table (is_path_use u)
role_of_kind (number_of class n) u = if is_line_start u class n then line_start else fixed
role_of_kind inline_text u = if is_path_use u then inline_path else fixed
role_of_kind k u = fixed

abbrev pub role_of_mode : Mode → Params → Role
role_of_mode (at_values number tag (x ∷ xs)) params = role_of_kind (kind_in params x.form) (use_of number tag x.name)
role_of_mode (at_chosen number tag start x xs) params = role_of_kind (kind_in params x.form) (use_of number tag x.name)
role_of_mode m params = fixed

-- the role of a piece
unfoldable pub role_of : Piece UnitState → Role
role_of x = role_of_mode x.state.mode x.state.header.params
