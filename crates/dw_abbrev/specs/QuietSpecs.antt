-- Which attributes say nothing of texts, line tables and macros, whatever their value is, in every entry but a unit's first: so a pass
-- over entries needn't look at their values where none that may say something follows.
use Rattle.std.specs.Prelude.{Bool, true, ◌≡◌, ℕ, ◌==◌, ◌&&◌, ◌||◌, not, List, [], ◌∷◌, ◌++◌, ⊤}
use Rattle.dw_base.specs.Roles.{is_start_name}
use Rattle.dw_base.specs.declared.dwarf_numbers.TheConstants.{DW_FORM_indirect, DW_FORM_line_strp, DW_FORM_strp, DW_FORM_strx, DW_FORM_strx1, DW_FORM_strx2, DW_FORM_strx3, DW_FORM_strx4}
use Rattle.dw_base.specs.declared.values.Spec.{Spec}

-- a form whose values name texts, or stand behind their own form
abbrev pub is_text_form : ℕ → Bool
is_text_form form =
    form == DW_FORM_strp || form == DW_FORM_line_strp || form == DW_FORM_indirect || form == DW_FORM_strx || form == DW_FORM_strx1
    || form == DW_FORM_strx2 || form == DW_FORM_strx3 || form == DW_FORM_strx4

-- an attribute says nothing
abbrev pub is_quiet : Spec → Bool
is_quiet x = not (is_text_form x.form) && not (is_start_name x.name)

-- all of these do
abbrev pub AllQuiet : List Spec → Type 0
AllQuiet [] = ⊤
AllQuiet (x ∷ xs) = (is_quiet x ≡ true) × AllQuiet xs

-- behind these of an abbreviation's attributes all are quiet
pub record HasFront (specs front : List Spec) : Type 0 where
  pub rest : List Spec
  pub specs_are : specs ≡ front ++ rest
  pub quiet : AllQuiet rest
