-- The debug data of a generated file: its units, its abbreviations, its texts and its line tables, and nothing else.
use Rattle.std.proofs.Common.{◌≡◌, ℕ, true, false, List, [], ◌∷◌, Option, refl, ap, ◌∙◌, ◌==◌}
use Rattle.dw_base.specs.Cells.{Cell, CellSection, Located, plain_cells}
use Rattle.dw_base.specs.DebugData.{DebugData}
use Rattle.dw_base.specs.DebugSections.{debug_section}
use Rattle.dw_base.specs.Elf.{e_type, order_of}
use Rattle.dw_base.specs.FileViews.{View, section_after, section_bytes, section_named, view_relocations}
use Rattle.dw_base.specs.Layout.{is_loaded_kind}
use Rattle.dw_base.specs.Notes.{BuildId, build_id_of}
use Rattle.dw_base.specs.SectionRelocations.{cells_from}
use Rattle.dw_base.specs.UnitHeaders.{in_info}
use Rattle.dw_base.specs.ViewData.{debug_data, located, macro_sections, unit_sections}
use Rattle.dw_base.specs.declared.elf_numbers.TheConstants.{ET_REL}
use Rattle.dw_base.specs.declared.shared.Order.TheVariants.{Little}
use Rattle.dw_base.proofs.SectionRelocationLaws.{cells_from-none}
use Rattle.dw_meaning.specs.FileMeanings.{file_data}
use Rattle.dw_meaning.proofs.DataParts.{found_with}
use Rattle.gen_laws.proofs.FileReadLaws.{HasSections}
use Rattle.gen_laws.proofs.FileViewLaws.{file-view, generated_sections}
use Rattle.gen_laws.proofs.UnitPieceLaws.{generated_base}

-- no section
abbrev pub no_bytes : Located
no_bytes = record { number = 0; bytes = [] }

abbrev pub no_cells : CellSection
no_cells = record { number = 0; contents = [] }

-- what is found of the sections of a file of units and line tables with these contents, and these texts
abbrev data_of : List Cell → List ℕ → List Cell → DebugData
data_of units texts lines = record {
  base = generated_base;
  found = found_with (record { number = 1; kind = in_info; contents = units } ∷ []) (record { number = 3; bytes = texts }) no_bytes no_cells
      (record { number = 4; contents = lines }) [] no_cells;
}

abbrev pub generated_data : List ℕ → List ℕ → List ℕ → DebugData
generated_data units texts lines = data_of (plain_cells units) texts (plain_cells lines)

-- the view
abbrev generated_view : List ℕ → List ℕ → List ℕ → Option BuildId → View
generated_view units texts lines id = record { order = Little; sections = generated_sections units texts lines; id = id }

view-data : (units texts lines : List ℕ) (id : Option BuildId) → debug_data (generated_view units texts lines id) ≡ data_of (cells_from [] 0 units) texts (cells_from [] 0 lines)
unfolding debug_data located section_named section_after section_bytes view_relocations unit_sections macro_sections debug_section
view-data units texts lines id = refl

pub data-is : (units texts lines b : List ℕ) → HasSections units texts lines b → order_of b ≡ Little → is_loaded_kind b ≡ true → (e_type b == ET_REL) ≡ false
    → file_data b ≡ generated_data units texts lines
data-is units texts lines b g order loaded other =
    ap debug_data (file-view units texts lines b g order loaded other)
    ∙ view-data units texts lines (build_id_of b)
    ∙ ap (λ (p : List Cell). data_of p texts (cells_from [] 0 lines)) (cells_from-none 0 units)
    ∙ ap (data_of (plain_cells units) texts) (cells_from-none 0 lines)
