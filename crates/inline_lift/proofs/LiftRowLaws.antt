-- A file is lifted or refused, and never both: no row of the lift holds of a file that can be lifted.
use Rattle.std.proofs.Common.{true, ◌≡◌, ℕ, ◌<◌, List, sym, subst}
use Rattle.dw_base.specs.Cells.{Located}
use Rattle.dw_base.specs.DebugData.{DataReadings}
use Rattle.dw_base.specs.Elf.{section_count}
use Rattle.dw_base.specs.FileViews.{view_of}
use Rattle.dw_base.specs.LayoutFails.{LayoutFails}
use Rattle.dw_base.specs.OffsetPieces.{ReadsOffsets}
use Rattle.dw_base.specs.Paths.{PathMap}
use Rattle.dw_base.specs.RelocationRows.{moving_sections}
use Rattle.dw_base.specs.StringOffsetFails.{ContributionsFail}
use Rattle.dw_base.specs.ViewData.{debug_data}
use Rattle.dw_base.specs.declared.debug_sections.DebugSection.TheVariants.{StrOffsets}
use Rattle.dw_base.specs.declared.fault.Refusal.{Refusal}
use Rattle.dw_base.proofs.DebugSectionFailsLaws.{debug_sections_exclude}
use Rattle.dw_base.proofs.ElfLaws.{elf_excludes}
use Rattle.dw_base.proofs.ViewCellLaws.{offsets-located}
use Rattle.dw_meaning.proofs.DataOneLaws.{data-one}
use Rattle.dw_meaning.proofs.DataRowLaws.{data-excludes}
use Rattle.dw_meaning.proofs.LayoutRowLaws.{layout_excludes}
use Rattle.dw_meaning.proofs.LineRowLaws.{lines-exclude}
use Rattle.dw_meaning.proofs.MacroRowLaws.{macros-exclude}
use Rattle.dw_meaning.proofs.OffsetRowLaws.{offsets-exclude}
use Rattle.dw_meaning.proofs.RelocationLaws.{relocations_exclude}
use Rattle.dw_meaning.proofs.SlotRowLaws.{name_tables-exclude, slot_texts-exclude, string_tables-exclude}
use Rattle.dw_meaning.proofs.StartRowLaws.{starts-exclude}
use Rattle.dw_meaning.proofs.ValueRowLaws.{texts-exclude}
use Rattle.dw_meaning.specs.DataOutput.{DataReads}
use Rattle.dw_meaning.specs.FileFails.{FileFails, ReadIsLoaded, elf as elf_row, sections as sections_row, loaded as loaded_row, units as units_row, texts as texts_row, string_tables as string_tables_row, slots as slots_row, lines as lines_row, macros as macros_row, starts as starts_row, name_tables as name_tables_row, relocations as relocations_row, loaded_relocations as loaded_relocations_row}
use Rattle.dw_meaning.specs.FileMeanings.{FileReads, file_data}
use Rattle.dw_meaning.specs.RelocationFails.{RelocationsAreLoaded}
use Rattle.inline_lift.specs.GrowingPaths.{some_path_grows}
use Rattle.inline_lift.specs.LiftFails.{LiftFails, LiftRows, file, hindered, output, paths}
use Rattle.inline_lift.specs.LiftedFiles.{lifted_body}
use Rattle.inline_lift.proofs.LaterCodeLaws.{paths-exclude}
use Rattle.inline_lift.proofs.LiftedOutputLaws.{Liftable}
use Rattle.inline_lift.proofs.MetGrowingLaws.{growing-some}

-- no row of the file holds of one that can be read, and of which nothing that is read is loaded
offsets-read : (b : List ℕ) (q : DataReadings) → DataReads (file_data b) q → ReadsOffsets (view_of b).order ((file_data b).found StrOffsets).contents q.offsets
unfolding debug_data
offsets-read b q h = h.offsets

pub reads-exclude : (b : List ℕ) (rs : DataReadings) (r : Refusal) → FileReads b rs → ((i : ℕ) → i < section_count b → ReadIsLoaded b i → ⊥)
    → ((i : ℕ) → i < section_count b → RelocationsAreLoaded b i → ⊥) → FileFails b r → ⊥
reads-exclude b rs r reads unloaded apart (elf_row f) = elf_excludes b r reads.elf f
reads-exclude b rs r reads unloaded apart (sections_row e f) = debug_sections_exclude b r reads.names f
reads-exclude b rs r reads unloaded apart (loaded_row i e lt l) = unloaded i lt l
reads-exclude b rs r reads unloaded apart (units_row e f) = data-excludes (file_data b) rs r reads.data_reads f
reads-exclude b rs r reads unloaded apart (texts_row e f) = texts-exclude (file_data b) rs r reads.data_reads f
reads-exclude b rs r reads unloaded apart (string_tables_row e f) =
    string_tables-exclude (view_of b).order ((file_data b).found StrOffsets) rs.offsets r (offsets-read b rs reads.data_reads)
    (subst (λ (z : Located). ContributionsFail (view_of b).order z r) (sym (offsets-located (view_of b))) f)
reads-exclude b rs r reads unloaded apart (slots_row e f) = slot_texts-exclude (file_data b) rs r reads.data_reads f
reads-exclude b rs r reads unloaded apart (lines_row e f) = lines-exclude (file_data b) rs.lines r reads.data_reads.lines f
reads-exclude b rs r reads unloaded apart (macros_row z before behind e split f) = macros-exclude (view_of b) rs before behind z r reads.data_reads split f
reads-exclude b rs r reads unloaded apart (starts_row e f) = starts-exclude (file_data b) rs r reads.data_reads f
reads-exclude b rs r reads unloaded apart (name_tables_row e f) = name_tables-exclude (view_of b) rs r reads.data_reads f
reads-exclude b rs r reads unloaded apart (relocations_row e f) =
    relocations_exclude b r reads.relocations (λ f. offsets-exclude (view_of b) rs (moving_sections (view_of b)) r reads.data_reads reads.relocations.on_data.left f) f
reads-exclude b rs r reads unloaded apart (loaded_relocations_row i e lt l) = apart i lt l

-- where a row of paths holds one of them grows
fails-grow : (m : PathMap) (b : List ℕ) (r : DataReadings) (q : Refusal) → DataReads (file_data b) r → LiftFails m b q → some_path_grows m r.units ≡ true
fails-grow m b r q reads (hindered z h list a x v g why) = growing-some m (file_data b) r z h list a x v reads g

pub lift-excludes : (m : PathMap) (b : List ℕ) (r : DataReadings) (q : Refusal) → Liftable m b r → LiftRows m b q → ⊥
lift-excludes m b r q w (file f) = reads-exclude b r q w.reads w.unloaded w.relocations_unloaded f
lift-excludes m b r q w (paths f) = paths-exclude m b r q (w.lifts (fails-grow m b r q w.reads.data_reads f)) f
lift-excludes m b r q w (output readings reads grown f) =
    let same : readings ≡ r = data-one (file_data b) readings r reads.data_reads w.reads.data_reads in
    layout_excludes b (lifted_body m b r) q (w.fits (subst (λ (rs : DataReadings). some_path_grows m rs.units ≡ true) same grown))
    (subst (λ (rs : DataReadings). LayoutFails b (lifted_body m b rs) q) same f)
