-- The records of relocations of sections of units, of string offsets, of macro units and of name tables, as the code makes them, are those of the
-- sections' new contents.
use Rattle.std.proofs.Common.{◌≡◌, ℕ, List, [], Some, refl, sym, ap, ◌∙◌, subst}
use Rattle.dw_base.specs.Cells.{Cell, CellSection}
use Rattle.dw_base.specs.DebugData.{Around, DataReadings, around_of, path_slots}
use Rattle.dw_base.specs.FileViews.{View, view_cells}
use Rattle.dw_base.specs.MacroPieces.{ReadsMacros, at_unit, macros_at}
use Rattle.dw_base.specs.MacroReadings.{MacroReading}
use Rattle.dw_base.specs.NamePieces.{ReadsNames}
use Rattle.dw_base.specs.OffsetPieces.{ReadsOffsets}
use Rattle.dw_base.specs.Paths.{PathMap}
use Rattle.dw_base.specs.Pieces.{joined}
use Rattle.dw_base.specs.Readings.{Reading}
use Rattle.dw_base.specs.RelocationBodies.{relocation_body}
use Rattle.dw_base.specs.SectionRelocations.{RelocationSource, cells_from, relocations_in}
use Rattle.dw_base.specs.SectionTexts.{edited_with, macro_role, name_role, slot_role}
use Rattle.dw_base.specs.TextChanges.{edited_all}
use Rattle.dw_base.specs.UnitHeaders.{UnitSection}
use Rattle.dw_base.specs.UnitPieces.{ReadsUnits}
use Rattle.dw_base.specs.UnitStates.{before_unit}
use Rattle.dw_base.specs.ViewData.{cells_located, debug_data}
use Rattle.dw_offsets.specs.declared.fields.OffsetField.{OffsetField}
use Rattle.dw_base.specs.declared.texts.TextSection.TheVariants.{InStr, InLineStr}
use Rattle.dw_meaning.specs.DataOutput.{changes_of, table_change}
use Rattle.dw_meaning.proofs.MacroPieceLaws.{CellsOf}
use Rattle.dw_meaning.proofs.RecordMoveLaws.{RecordsApart}
use Rattle.dw_patch.specs.RecordMoves.{moved_table}
use Rattle.elf_layout.specs.declared.patch.Patch.{Patch}
use Rattle.dw_patch.proofs.SaidCellLaws.{SaidAll}
use Rattle.dw_read.specs.MacroFields.{macro_starts, macro_texts, macros_with}
use Rattle.dw_read.specs.NameSections.{names_texts}
use Rattle.dw_read.proofs.MacroHaveLaws.{line-texts}
use Rattle.dw_read.proofs.NameHaveLaws.{line-names, names-in}
use Rattle.dw_read.specs.SlotPaths.{offset_fields, read_fields, slots_with}
use Rattle.dw_unit_fields.specs.SectionFields.{SectionFields, piece_fields, paths_in, start_fields}
use Rattle.dw_unit_fields.specs.ViewFields.{HasOffsets, HasPlaces}
use Rattle.dw_read.proofs.OffsetPlaceLaws.{offsets-in}
use Rattle.dw_unit_fields.proofs.PlacedLaws.{placed-cells}
use Rattle.dw_read.proofs.SlotPlaceLaws.{line-fields}
use Rattle.dw_rewrite.specs.NewOffsets.{offsets_after, offsets_in}
use Rattle.dw_rewrite.proofs.MovedRecordLaws.{asked_in, moved-records, section-after}
use Rattle.dw_rewrite.proofs.NewBodyLaws.{starts_after}
use Rattle.dw_rewrite.proofs.OffsetAddLaws.{section-sized}
use Rattle.dw_rewrite.proofs.PieceSayLaws.{said-macros, said-names, said-slots, said-units}
use Rattle.dw_rewrite.proofs.SaidLaws.{Sized}

-- the offsets that a section says
abbrev pub told_in : PathMap → View → DataReadings → SectionFields → List Patch
told_in m v all u =
    offsets_in v (asked_in m v InStr (table_change m InStr (around_of (debug_data v) all) all))
    (asked_in m v InLineStr (table_change m InLineStr (around_of (debug_data v) all) all)) (starts_after m v all) u

-- relocations of a section of a view are read from a source
pub record IsReadFrom (v : View) (i : ℕ) (g : RelocationSource) (bytes : List ℕ) : Type 0 where
  pub apart : RecordsApart g bytes
  pub cells : view_cells v i ≡ cells_from (relocations_in g) 0 bytes

moved : (v : View) (i : ℕ) (g : RelocationSource) (bytes : List ℕ) (offs told : List Patch) (old new : List Cell) → IsReadFrom v i g bytes → told ≡ offs → old ≡ view_cells v i
    → SaidAll offs 0 old new → moved_table g [] told ≡ relocation_body g (view_cells v i) new
moved v i g bytes offs told old new from same own said =
    moved-records g bytes new offs told from.apart same (subst (λ (cs : List Cell). SaidAll offs 0 cs new) (own ∙ from.cells) said)
    ∙ ap (λ (cs : List Cell). relocation_body g cs new) (sym from.cells)

-- of units
pub units-moved : (m : PathMap) (v : View) (all : DataReadings) (z : UnitSection) (first : ℕ) (r : Reading) (g : RelocationSource) (bytes : List ℕ)
    → ReadsUnits (debug_data v).base z first r.pieces → z.contents ≡ view_cells v r.number → HasOffsets v (paths_in r) → HasPlaces v (paths_in r) → IsReadFrom v r.number g bytes
    → moved_table g [] (told_in m v all (paths_in r))
    ≡ relocation_body g (view_cells v r.number) (joined (edited_all (changes_of m (around_of (debug_data v) all) all) (around_of (debug_data v) all) r.pieces))
unfolding table_change
units-moved m v all z first r g bytes reads same offsets places from =
    let sized = section-sized v (paths_in r) offsets places in
    let offs : List Patch = offsets_after (changes_of m (around_of (debug_data v) all) all) (around_of (debug_data v) all) (view_cells v r.number)
    (piece_fields InStr r.pieces) (piece_fields InLineStr r.pieces) (start_fields r.pieces) in
    moved v r.number g bytes offs (told_in m v all (paths_in r)) (joined r.pieces)
    (joined (edited_all (changes_of m (around_of (debug_data v) all) all) (around_of (debug_data v) all) r.pieces)) from (section-after m v all (paths_in r)) (reads.cells ∙ same)
    (said-units (changes_of m (around_of (debug_data v) all) all) (around_of (debug_data v) all) (view_cells v r.number) offs 0 r.pieces
    (placed-cells (debug_data v).base (view_cells v r.number) (before_unit z.number z.kind _ 0 first) 0 r.pieces refl reads.chain (reads.cells ∙ same))
    sized.0 sized.1 sized.2 (record { each = λ q le. refl }))

-- of string offsets
pub slots-moved : (m : PathMap) (v : View) (all : DataReadings) (i : ℕ) (g : RelocationSource) (bytes : List ℕ)
    → ReadsOffsets v.order (cells_located v (Some i)).contents all.offsets → HasOffsets v (slots_with i (read_fields (debug_data v) all))
    → HasPlaces v (slots_with i (read_fields (debug_data v) all)) → IsReadFrom v i g bytes
    → moved_table g [] (told_in m v all (slots_with i (read_fields (debug_data v) all)))
    ≡ relocation_body g (view_cells v i) (joined (edited_with (slot_role (path_slots (around_of (debug_data v) all))) (changes_of m (around_of (debug_data v) all) all)
    (around_of (debug_data v) all) all.offsets))
unfolding table_change
slots-moved m v all i g bytes reads offsets places from =
    let paths : List ℕ = path_slots (around_of (debug_data v) all) in
    let a : Around = around_of (debug_data v) all in
    let sized = section-sized v (slots_with i (read_fields (debug_data v) all)) offsets places in
    let none : offset_fields InLineStr (path_slots (around_of (debug_data v) all)) all.offsets ≡ [] = line-fields (path_slots (around_of (debug_data v) all)) all.offsets in
    let offs : List Patch = offsets_after (changes_of m (around_of (debug_data v) all) all) (around_of (debug_data v) all) (view_cells v i)
    (offset_fields InStr (path_slots (around_of (debug_data v) all)) all.offsets) (offset_fields InLineStr (path_slots (around_of (debug_data v) all)) all.offsets) [] in
    moved v i g bytes offs (told_in m v all (slots_with i (read_fields (debug_data v) all))) (joined all.offsets)
    (joined (edited_with (slot_role (path_slots (around_of (debug_data v) all))) (changes_of m (around_of (debug_data v) all) all) (around_of (debug_data v) all) all.offsets)) from
    (section-after m v all (slots_with i (read_fields (debug_data v) all))
    ∙ ap (λ (gs : List OffsetField). offsets_after (changes_of m (around_of (debug_data v) all) all) (around_of (debug_data v) all) (view_cells v i)
    (offset_fields InStr (path_slots (around_of (debug_data v) all)) all.offsets) gs []) (sym none)) reads.cells
    (said-slots (changes_of m (around_of (debug_data v) all) all) (around_of (debug_data v) all) (view_cells v i) offs 0 (path_slots (around_of (debug_data v) all)) all.offsets
    (offsets-in v (Some i) all.offsets reads) sized.0 (subst Sized (sym none) tt) (record { each = λ q le. refl }))

-- of macro units
pub macros-moved : (m : PathMap) (v : View) (all : DataReadings) (z : CellSection) (r : MacroReading) (g : RelocationSource) (bytes : List ℕ) → CellsOf v z.number z.contents
    → r.number ≡ z.number → ReadsMacros (debug_data v).base.order z.contents r.pieces → HasOffsets v (macros_with r.number (macro_starts r.pieces) (macro_texts InStr r.pieces))
    → HasPlaces v (macros_with r.number (macro_starts r.pieces) (macro_texts InStr r.pieces)) → IsReadFrom v r.number g bytes
    → moved_table g [] (told_in m v all (macros_with r.number (macro_starts r.pieces) (macro_texts InStr r.pieces)))
    ≡ relocation_body g (view_cells v r.number) (joined (edited_with macro_role (changes_of m (around_of (debug_data v) all) all) (around_of (debug_data v) all) r.pieces))
unfolding table_change
macros-moved m v all z r g bytes of number reads offsets places from =
    let cells : joined r.pieces ≡ view_cells v r.number = reads.cells ∙ of.same ∙ ap (view_cells v) (sym number) in
    let sized = section-sized v (macros_with r.number (macro_starts r.pieces) (macro_texts InStr r.pieces)) offsets places in
    let offs : List Patch = offsets_after (changes_of m (around_of (debug_data v) all) all) (around_of (debug_data v) all) (view_cells v r.number) (macro_texts InStr r.pieces)
    (macro_texts InLineStr r.pieces) (macro_starts r.pieces) in
    moved v r.number g bytes offs (told_in m v all (macros_with r.number (macro_starts r.pieces) (macro_texts InStr r.pieces))) (joined r.pieces)
    (joined (edited_with macro_role (changes_of m (around_of (debug_data v) all) all) (around_of (debug_data v) all) r.pieces)) from
    (section-after m v all (macros_with r.number (macro_starts r.pieces) (macro_texts InStr r.pieces))
    ∙ ap (λ (gs : List OffsetField). offsets_after (changes_of m (around_of (debug_data v) all) all) (around_of (debug_data v) all) (view_cells v r.number) (macro_texts InStr r.pieces) gs
    (macro_starts r.pieces)) (sym (line-texts r.pieces))) cells
    (said-macros (changes_of m (around_of (debug_data v) all) all) (around_of (debug_data v) all) (debug_data v).base.order (view_cells v r.number) offs (macros_at 0 at_unit) 0 r.pieces
    refl reads.chain cells sized.0 (subst Sized (sym (line-texts r.pieces)) tt) sized.2 (record { each = λ q le. refl }))

-- of name tables
pub names-moved : (m : PathMap) (v : View) (all : DataReadings) (i : ℕ) (g : RelocationSource) (bytes : List ℕ) → ReadsNames v.order (cells_located v (Some i)).contents all.names
    → HasOffsets v (slots_with i (names_texts InStr all.names)) → HasPlaces v (slots_with i (names_texts InStr all.names)) → IsReadFrom v i g bytes
    → moved_table g [] (told_in m v all (slots_with i (names_texts InStr all.names)))
    ≡ relocation_body g (view_cells v i) (joined (edited_with name_role (changes_of m (around_of (debug_data v) all) all) (around_of (debug_data v) all) all.names))
unfolding table_change
names-moved m v all i g bytes reads offsets places from =
    let sized = section-sized v (slots_with i (names_texts InStr all.names)) offsets places in
    let none : names_texts InLineStr all.names ≡ [] = line-names all.names in
    let offs : List Patch = offsets_after (changes_of m (around_of (debug_data v) all) all) (around_of (debug_data v) all) (view_cells v i) (names_texts InStr all.names)
    (names_texts InLineStr all.names) [] in
    moved v i g bytes offs (told_in m v all (slots_with i (names_texts InStr all.names))) (joined all.names)
    (joined (edited_with name_role (changes_of m (around_of (debug_data v) all) all) (around_of (debug_data v) all) all.names)) from
    (section-after m v all (slots_with i (names_texts InStr all.names))
    ∙ ap (λ (gs : List OffsetField). offsets_after (changes_of m (around_of (debug_data v) all) all) (around_of (debug_data v) all) (view_cells v i) (names_texts InStr all.names) gs [])
    (sym none)) reads.cells
    (said-names (changes_of m (around_of (debug_data v) all) all) (around_of (debug_data v) all) (view_cells v i) offs 0 all.names (names-in v (Some i) all.names reads) sized.0
    (subst Sized (sym none) tt) (record { each = λ q le. refl }))
