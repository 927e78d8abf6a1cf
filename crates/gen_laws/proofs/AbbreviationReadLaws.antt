-- The abbreviations of a generated file are a table.
use Rattle.std.proofs.Common.{true, false, ◌≡◌, List, [], ◌∷◌, refl}
use Rattle.std.specs.Prelude.{pos}
use Rattle.std.proofs.lemmas.Bool.{eqb-false, ltb-true}
use Rattle.dw_base.specs.AbbreviationBytes.{abbreviations_at}
use Rattle.dw_base.specs.AbbreviationTables.{Abbreviation, IsTable, no_abbreviations, more_abbreviations, no_specs}
use Rattle.dw_base.specs.Lebs.{uleb_at}
use Rattle.dw_base.specs.declared.dwarf_numbers.TheConstants.{DW_AT_comp_dir, DW_AT_name, DW_AT_stmt_list, DW_FORM_sec_offset, DW_FORM_strp, DW_TAG_compile_unit, DW_TAG_variable}
use Rattle.dw_base.specs.declared.values.Spec.{Spec}
use Rattle.dw_meaning.proofs.PlainUnits.{short_abbreviation, short_pair, short_spec}
use Rattle.dbg_gen.specs.GeneratedUnits.{abbreviations}

abbrev pub name_spec : Spec
name_spec = record { name = DW_AT_name; form = DW_FORM_strp; implicit = pos 0 }

abbrev pub directory_spec : Spec
directory_spec = record { name = DW_AT_comp_dir; form = DW_FORM_strp; implicit = pos 0 }

abbrev pub lines_spec : Spec
lines_spec = record { name = DW_AT_stmt_list; form = DW_FORM_sec_offset; implicit = pos 0 }

abbrev pub unit_abbreviation : Abbreviation
unit_abbreviation = record { code = 1; tag = DW_TAG_compile_unit; children = true; specs = name_spec ∷ directory_spec ∷ lines_spec ∷ [] }

abbrev pub variable_abbreviation : Abbreviation
variable_abbreviation = record { code = 2; tag = DW_TAG_variable; children = false; specs = name_spec ∷ [] }

abbrev pub table : List Abbreviation
table = unit_abbreviation ∷ variable_abbreviation ∷ []

pub table-found : abbreviations_at abbreviations 0 ≡ table
unfolding abbreviations_at
table-found = refl

pub table-reads : IsTable abbreviations 0 (abbreviations_at abbreviations 0)
unfolding abbreviations_at uleb_at
table-reads = record {
  last = 18;
  size = 1;
  declares = more_abbreviations (unit_abbreviation ∷ []) variable_abbreviation 11 18
      (more_abbreviations [] unit_abbreviation 0 11 no_abbreviations
      (short_abbreviation abbreviations 0 1 17 1 9 _ refl (eqb-false _ _ refl) refl (ltb-true _ _ refl) refl (ltb-true _ _ refl)
      (short_spec abbreviations 3 7 16 23 _
      (short_spec abbreviations 3 5 27 14 _
      (short_spec abbreviations 3 3 3 14 _ no_specs refl refl (eqb-false _ _ refl) (eqb-false _ _ refl) (eqb-false _ _ refl))
      refl refl (eqb-false _ _ refl) (eqb-false _ _ refl) (eqb-false _ _ refl))
      refl refl (eqb-false _ _ refl) (eqb-false _ _ refl) (eqb-false _ _ refl))
      (short_pair abbreviations 9 0 0 refl refl))
      refl)
      (short_abbreviation abbreviations 11 2 52 0 16 _ refl (eqb-false _ _ refl) refl (ltb-true _ _ refl) refl (ltb-true _ _ refl)
      (short_spec abbreviations 14 14 3 14 _ no_specs refl refl (eqb-false _ _ refl) (eqb-false _ _ refl) (eqb-false _ _ refl))
      (short_pair abbreviations 16 0 0 refl refl))
      refl;
  ends = refl;
}
