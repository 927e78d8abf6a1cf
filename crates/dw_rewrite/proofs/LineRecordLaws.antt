-- The section that holds the relocations of line tables: what is asked of its records, and that it is appended.
use Rattle.std.proofs.Common.{Bool, ◌≡◌, ◌&&◌, ℕ, zero, suc, ◌<◌, ◌≤◌, List, [], ◌∷◌, ◌++◌, length, drop, Option, Some, None, is_some, refl, sym, ap, ◌∙◌, subst, arith, append-nil}
use Rattle.std.specs.Prelude.{IsTrue, option_map}
use Rattle.std.proofs.lemmas.Bool.{lt-ltb}
use Rattle.std.proofs.lemmas.List.{length-append}
use Rattle.dw_base.specs.Cells.{Cell, bytes_of}
use Rattle.dw_base.specs.DebugData.{line_source}
use Rattle.dw_base.specs.DebugSections.{debug_section, name_of}
use Rattle.dw_base.specs.Elf.{contents_of, section_count, section_name}
use Rattle.dw_base.specs.FileViews.{View, section_after, section_named, view_cells, view_of}
use Rattle.dw_base.specs.Layout.{output_limit}
use Rattle.dw_base.specs.LineReadings.{AreTables, LineReading, all_lines, table_read}
use Rattle.dw_base.specs.LineSources.{LineSource}
use Rattle.dw_base.specs.LineTables.{LineTable}
use Rattle.dw_base.specs.Paths.{PathMap}
use Rattle.dw_base.specs.Refusals.{Blames}
use Rattle.dw_base.specs.RelocationFields.{relocation_at}
use Rattle.dw_base.specs.RelocationRows.{moving_sections}
use Rattle.dw_base.specs.RelocationSectionFails.{RelocationSectionsRead, TableReads, is_read_section}
use Rattle.dw_base.specs.SectionRelocations.{RelocationSource, cells_from, relocation_section, relocation_source, relocations_by, relocations_in, relocations_of, section_cells}
use Rattle.dw_base.specs.ViewData.{cells_located, debug_data}
use Rattle.dw_base.specs.TextLineChanges.{table_by_texts}
use Rattle.dw_base.specs.declared.debug_sections.DebugSection.{DebugSection}
use Rattle.dw_base.specs.declared.debug_sections.DebugSection.TheVariants.{Line}
use Rattle.dw_base.specs.declared.fault.Fault.{Fault}
use Rattle.dw_base.proofs.DebugSectionLaws.{debug_section-name}
use Rattle.dw_base.proofs.FileViewLaws.{length-view_of}
use Rattle.dw_base.proofs.UnitEditLaws.{length-bytes_of}
use Rattle.dw_base.proofs.ViewCellLaws.{view_cells-view_of}
use Rattle.dw_meaning.specs.DataOutput.{Body}
use Rattle.dw_meaning.specs.FileMeanings.{file_data}
use Rattle.dw_meaning.specs.LineStretches.{Stretch, stretches_end}
use Rattle.dw_meaning.specs.TextLineCells.{all_cells_by_texts, table_cells_by_texts}
use Rattle.dw_meaning.specs.RelocationFails.{LeftRelocationsRead}
use Rattle.dw_meaning.proofs.FileBackLaws.{SectionBack}
use Rattle.dw_meaning.proofs.LineShiftLaws.{left-clear}
use Rattle.dw_meaning.proofs.TextCellLaws.{text_table-bytes}
use Rattle.dw_meaning.proofs.TextStretchLaws.{text_section-are}
use Rattle.dw_meaning.proofs.TableKeptLaws.{FoundAt, drop-at, found-named, sections-self}
use Rattle.dw_meaning.proofs.TableMoveLaws.{reads-apart, section-source}
use Rattle.dw_patch.specs.RecordMoves.{PlacesFit, moved_table}
use Rattle.elf_layout.specs.declared.patch.Patch.{Patch}
use Rattle.dw_view.specs.Firsts.{held_source}
use Rattle.dw_lines.specs.NewTexts.{text_known}
use Rattle.dw_lines.specs.TableMoves.{offsets_from, runs_from}
use Rattle.dw_lines.specs.ViewSources.{view_source}
use Rattle.dw_lines.specs.ViewTables.{TablesFound, tables_read}
use Rattle.dw_lines.proofs.MoveLaws.{stretches-rise}
use Rattle.dw_lines.proofs.ReadingLaws.{source-is}
use Rattle.dw_lines.specs.declared.moves.NewFieldOffset.{NewFieldOffset}
use Rattle.elf_relocs.specs.Runs.{RunsRise}
use Rattle.elf_relocs.specs.declared.runs.Run.{Run}
use Rattle.dw_rewrite.specs.LineOffsets.{LinesFit, OffsetMisses, OffsetsInside, OffsetsMake, OffsetsRise, OffsetsSized, StartsKnown, held_lines, line_offsets, line_record, line_runs, said_fields, stretches_known}
use Rattle.dw_rewrite.specs.NewLines.{lines_known}
use Rattle.dw_rewrite.proofs.LineMoveLaws.{file-apart, view-move}
use Rattle.dw_rewrite.proofs.LineOffsetLaws.{none-make, offsets-inside}
use Rattle.dw_rewrite.proofs.LineRunLaws.{offsets-rise, offsets-sized, section-carried, stretches-read}
use Rattle.dw_rewrite.proofs.RecordPushLaws.{held-by, none-by}
use Rattle.dw_rewrite.proofs.RecordSayLaws.{Carried, carried-fit}

-- runs and offsets as the code has them
pub runs-rise : (m : PathMap) (g : LineSource) (ks kl : Bool → ℕ → Option ℕ) (ts : List LineTable) (items slice : List Run) → items ≡ line_runs m g ks kl ts → slice ≡ items → RunsRise slice
runs-rise m g ks kl ts items slice e s = subst RunsRise (sym (s ∙ e)) (stretches-rise 0 0 (stretches_known m g ks kl ts))

pub runs-fit : (m : PathMap) (g : LineSource) (ks kl : Bool → ℕ → Option ℕ) (ts : List LineTable) (z : RelocationSource) (items slice : List Run) → items ≡ line_runs m g ks kl ts → slice ≡ items
    → PlacesFit z (line_runs m g ks kl ts) → PlacesFit z slice
runs-fit m g ks kl ts z items slice e s h = subst (PlacesFit z) (sym (s ∙ e)) h

pub offsets-are-sized : (m : PathMap) (g : LineSource) (ks kl : Bool → ℕ → Option ℕ) (ts : List LineTable) (items slice : List NewFieldOffset) → items ≡ line_offsets m g ks kl ts → slice ≡ items
    → OffsetsSized slice
offsets-are-sized m g ks kl ts items slice e s = subst OffsetsSized (sym (s ∙ e)) (offsets-sized m g ks kl ts)

pub offsets-do-rise : (m : PathMap) (g : LineSource) (ks kl : Bool → ℕ → Option ℕ) (ts : List LineTable) (items slice : List NewFieldOffset) → items ≡ line_offsets m g ks kl ts → slice ≡ items
    → OffsetsRise 0 slice
offsets-do-rise m g ks kl ts items slice e s = subst (OffsetsRise 0) (sym (s ∙ e)) (offsets-rise 0 (stretches_known m g ks kl ts))

pub offsets-lie-inside : (m : PathMap) (g : LineSource) (ks kl : Bool → ℕ → Option ℕ) (ts : List LineTable) (items slice : List NewFieldOffset) (old cells : List Cell)
    → items ≡ line_offsets m g ks kl ts → slice ≡ items → cells ≡ old → OffsetsInside (length old) (line_offsets m g ks kl ts) → OffsetsInside (length cells) slice
offsets-lie-inside m g ks kl ts items slice old cells e s c h =
    subst (λ (cs : List Cell). OffsetsInside (length cs) slice) (sym c) (subst (OffsetsInside (length old)) (sym (s ∙ e)) h)

pub offsets-make : (m : PathMap) (g : LineSource) (ks kl : Bool → ℕ → Option ℕ) (ts : List LineTable) (items slice : List NewFieldOffset) (old cells : List Cell)
    → items ≡ line_offsets m g ks kl ts → slice ≡ items → cells ≡ old → OffsetsMake cells slice → OffsetsMake old (line_offsets m g ks kl ts)
offsets-make m g ks kl ts items slice old cells e s c h =
    subst (OffsetsMake old) (s ∙ e) (subst (λ (cs : List Cell). OffsetsMake cs slice) c h)

pub offsets-miss : (m : PathMap) (g : LineSource) (ks kl : Bool → ℕ → Option ℕ) (ts : List LineTable) (n : ℕ) (items slice : List NewFieldOffset) (old cells : List Cell) (f : Fault)
    → items ≡ line_offsets m g ks kl ts → slice ≡ items → cells ≡ old → Blames (OffsetMisses n cells slice) f → Blames (OffsetMisses n old (line_offsets m g ks kl ts)) f
offsets-miss m g ks kl ts n items slice old cells f e s c h =
    subst (λ (fs : List NewFieldOffset). Blames (OffsetMisses n old fs) f) (s ∙ e) (subst (λ (cs : List Cell). Blames (OffsetMisses n cs slice) f) c h)

pub moved-is : (m : PathMap) (g : LineSource) (ks kl : Bool → ℕ → Option ℕ) (ts : List LineTable) (z : RelocationSource) (runs run_slice : List Run) (items slice : List NewFieldOffset)
    (said : List Patch) (bytes : List ℕ) → runs ≡ line_runs m g ks kl ts → run_slice ≡ runs → items ≡ line_offsets m g ks kl ts → slice ≡ items → said ≡ said_fields slice
    → bytes ≡ moved_table z run_slice said → bytes ≡ moved_table z (line_runs m g ks kl ts) (said_fields (line_offsets m g ks kl ts))
moved-is m g ks kl ts z runs run_slice items slice said bytes r rs e s told is =
    is ∙ ap (λ (xs : List Run). moved_table z xs said) (rs ∙ r) ∙ ap (moved_table z (line_runs m g ks kl ts)) (told ∙ ap said_fields (s ∙ e))

pub ruleset body_rules = (runs-rise, runs-fit, offsets-are-sized, offsets-do-rise, offsets-lie-inside, offsets-make, offsets-miss, moved-is)

-- a section is one of the file's
pub section-there : (b : List ℕ) (v : View) (n : ℕ) → v ≡ view_of b → n < length v.sections → n < section_count b
section-there b v n file lt = omega (arith, lt, ap (λ (w : View). length w.sections) file, length-view_of b)

-- the section that holds its relocations, where one does
pub held-fit : (b : List ℕ) (m : PathMap) (g : LineSource) (ks kl : Bool → ℕ → Option ℕ) (ts : List LineTable) (n k : ℕ) (z : RelocationSource) (o : Option (ℕ × RelocationSource))
    → LinesFit b m g ks kl ts n → o ≡ option_map (held_source b) (relocation_section b n) → ◌≡◌ {A = Option (ℕ × RelocationSource)} o (Some (k, z)) → PlacesFit z (line_runs m g ks kl ts)
held-fit b m g ks kl ts n k z o fit held some =
    let own = held-by b (relocation_section b n) k z (sym some ∙ held) in
    subst (λ (s : RelocationSource). PlacesFit s (line_runs m g ks kl ts)) (sym own.1) (fit.each k own.0)

pub held-pushed : (b : List ℕ) (m : PathMap) (g : LineSource) (ks kl : Bool → ℕ → Option ℕ) (ts : List LineTable) (n k : ℕ) (z : RelocationSource) (o : Option (ℕ × RelocationSource))
    (old new : List Body) (body : Body) → o ≡ option_map (held_source b) (relocation_section b n) → ◌≡◌ {A = Option (ℕ × RelocationSource)} o (Some (k, z))
    → body ≡ record { number = k; bytes = moved_table z (line_runs m g ks kl ts) (said_fields (line_offsets m g ks kl ts)) } → new ≡ old ++ body ∷ []
    → new ≡ old ++ held_lines b m g ks kl ts (relocation_section b n)
held-pushed b m g ks kl ts n k z o old new body held some made e =
    let own = held-by b (relocation_section b n) k z (sym some ∙ held) in
    e ∙ ap (λ (x : Body). old ++ x ∷ [])
    (made ∙ ap (λ (s : RelocationSource). record { number = k; bytes = moved_table s (line_runs m g ks kl ts) (said_fields (line_offsets m g ks kl ts)) }) own.1)
    ∙ ap (λ (x : Option ℕ). old ++ held_lines b m g ks kl ts x) (sym own.0)

pub none-pushed : (b : List ℕ) (m : PathMap) (g : LineSource) (ks kl : Bool → ℕ → Option ℕ) (ts : List LineTable) (n : ℕ) (o : Option (ℕ × RelocationSource)) (old : List Body)
    → o ≡ option_map (held_source b) (relocation_section b n) → o ≡ None → old ≡ old ++ held_lines b m g ks kl ts (relocation_section b n)
none-pushed b m g ks kl ts n o old held none =
    sym (append-nil old) ∙ ap (λ (x : Option ℕ). old ++ held_lines b m g ks kl ts x) (sym (none-by b (relocation_section b n) (sym none ∙ held)))

-- and where none does, no relocation begins in it
cell-none : (bytes : List ℕ) (k p : ℕ) → relocation_at (cells_from [] k bytes) p ≡ None
cell-none [] k zero = refl
cell-none [] k (suc p) = refl
cell-none (x ∷ xs) k zero = refl
cell-none (x ∷ xs) k (suc p) = cell-none xs (suc k) p

plain-there : (b : List ℕ) (i p : ℕ) → relocation_section b i ≡ None → relocation_at (section_cells (contents_of b) b i) p ≡ None
unfolding section_cells relocations_of
plain-there b i p none =
    ap (λ (o : Option ℕ). relocation_at (cells_from (relocations_by (contents_of b) b o) 0 (contents_of b i)) p) none ∙ cell-none (contents_of b i) 0 p

pub none-makes : (b : List ℕ) (v : View) (m : PathMap) (g : LineSource) (ks kl : Bool → ℕ → Option ℕ) (ts : List LineTable) (n : ℕ) (o : Option (ℕ × RelocationSource)) → v ≡ view_of b
    → n < length v.sections → o ≡ option_map (held_source b) (relocation_section b n) → o ≡ None → OffsetsMake (view_cells v n) (line_offsets m g ks kl ts)
none-makes b v m g ks kl ts n o file lt held none =
    none-make (view_cells v n) (line_offsets m g ks kl ts) (λ p.
    ap (λ (w : View). relocation_at (view_cells w n) p) file ∙ ap (λ (cs : List Cell). relocation_at cs p) (view_cells-view_of b n (section-there b v n file lt))
    ∙ plain-there b n p (none-by b (relocation_section b n) (sym none ∙ held)))

pub ruleset held_rules = (section-there, held-fit, held-pushed, none-pushed, none-makes)

-- a section of a file that is found by its name, and that of line tables
pub name-found : (b name : List ℕ) (i : ℕ) → section_named (view_of b) name ≡ Some i → FoundAt b name 1 i
unfolding section_named section_after
name-found b name i e =
    found-named b (contents_of b) name 1 i (drop 1 (view_of b).sections) (drop 1 (view_of b).sections)
    (drop-at (SectionBack b (contents_of b)) (view_of b).sections (view_of b).sections (sections-self b)) e

pub line-found : (b : List ℕ) (i : ℕ) → section_named (view_of b) (name_of Line) ≡ Some i → FoundAt b (name_of Line) 1 i
line-found b i e = name-found b (name_of Line) i e

line-read : (b : List ℕ) (i : ℕ) → FoundAt b (name_of Line) 1 i → IsTrue (is_read_section b i)
line-read b i f =
    ap (λ (t : Bool). t && is_some (debug_section (section_name b i))) (lt-ltb i (section_count b) f.within)
    ∙ ap (λ (n : List ℕ). is_some (debug_section n)) f.named ∙ ap (λ (o : Option DebugSection). is_some o) (debug_section-name Line)

pub line-tables : (b : List ℕ) (i k : ℕ) → section_named (view_of b) (name_of Line) ≡ Some i → RelocationSectionsRead (contents_of b) b → relocation_section b i ≡ Some k
    → TableReads (contents_of b) b i k
line-tables b i k e reads is = (reads.all i (line-read b i (line-found b i e))).tables k is

-- its relocations are read from the section that holds them
pub line-cells : (b : List ℕ) (i k : ℕ) → section_named (view_of b) (name_of Line) ≡ Some i → relocation_section b i ≡ Some k
    → view_cells (view_of b) i ≡ cells_from (relocations_in (relocation_source (contents_of b) b k)) 0 (contents_of b i)
line-cells b i k e is = view_cells-view_of b i (line-found b i e).within ∙ section-source (contents_of b) b i k is

-- as many bytes as the new tables have
pub known-length : (m : PathMap) (g : LineSource) (ks kl : Bool → ℕ → Option ℕ) (rs : List LineReading) → bytes_of g.cells ≡ g.bytes
    → length (all_cells_by_texts g m (text_known g ks kl) rs) ≡ length (all_lines (lines_known m g ks kl (tables_read g rs)))
known-length m g ks kl [] own = refl
known-length m g ks kl (r ∷ rs) own =
    let here : length (table_cells_by_texts g m (text_known g ks kl) (table_read g r)) ≡ length (table_by_texts g m (text_known g ks kl) (table_read g r)) =
    sym (length-bytes_of (table_cells_by_texts g m (text_known g ks kl) (table_read g r))) ∙ ap (λ (x : List ℕ). length x) (text_table-bytes g m (text_known g ks kl) (table_read g r) own) in
    let rest = known-length m g ks kl rs own in
    let old = length-append (table_cells_by_texts g m (text_known g ks kl) (table_read g r)) (all_cells_by_texts g m (text_known g ks kl) rs) in
    let new = length-append (table_by_texts g m (text_known g ks kl) (table_read g r)) (all_lines (lines_known m g ks kl (tables_read g rs))) in
    omega (arith, here, rest, old, new)

-- what the file and its tables are
pub record LinesOf (m : PathMap) (b : List ℕ) (ks kl : Bool → ℕ → Option ℕ) (ts : List LineTable) (ns : List ℕ) : Type 0 where
  pub relocations : RelocationSectionsRead (contents_of b) b
  pub left : LeftRelocationsRead (file_data b) (moving_sections (view_of b))
  pub found : TablesFound (view_of b) ts
  pub starts : StartsKnown m (line_source (file_data b)) ks kl ts ns

pub file-carried : (m : PathMap) (b : List ℕ) (ks kl : Bool → ℕ → Option ℕ) (rs : List LineReading) → LeftRelocationsRead (file_data b) (moving_sections (view_of b))
    → AreTables (line_source (file_data b)) rs
    → Carried (line_runs m (line_source (file_data b)) ks kl (tables_read (line_source (file_data b)) rs))
    (said_fields (line_offsets m (line_source (file_data b)) ks kl (tables_read (line_source (file_data b)) rs))) 0 0 (line_source (file_data b)).cells
    (all_cells_by_texts (line_source (file_data b)) m (text_known (line_source (file_data b)) ks kl) rs)
file-carried m b ks kl rs left reads =
    let g : LineSource = line_source (file_data b) in
    subst (λ (xs : List Stretch). Carried (runs_from 0 0 xs) (said_fields (offsets_from 0 xs)) 0 0 g.cells (all_cells_by_texts g m (text_known g ks kl) rs)) (sym (stretches-read m g ks kl rs))
    (section-carried g m (text_known g ks kl) rs refl (file-apart b rs reads) (left-clear (file_data b) (moving_sections (view_of b)) rs left reads) reads)

file-fit : (m : PathMap) (b : List ℕ) (i : ℕ) (ks kl : Bool → ℕ → Option ℕ) (ts : List LineTable) (ns : List ℕ) → LinesOf m b ks kl ts ns → section_named (view_of b) (name_of Line) ≡ Some i
    → LinesFit b m (line_source (file_data b)) ks kl ts i
file-fit m b i ks kl ts ns h e = record {
  each = λ k is.
      let g : LineSource = line_source (file_data b) in
      let z : RelocationSource = relocation_source (contents_of b) b k in
      let reads = h.found.reads in
      let rs : List LineReading = h.found.readings in
      let small : length (all_lines (lines_known m (line_source (file_data b)) ks kl (tables_read (line_source (file_data b)) h.found.readings))) ≤ output_limit =
      subst (λ (us : List LineTable). length (all_lines (lines_known m (line_source (file_data b)) ks kl us)) ≤ output_limit) h.found.is h.starts.small in
      let size = known-length m (line_source (file_data b)) ks kl h.found.readings refl in
      let own : (line_source (file_data b)).cells ≡ cells_from (relocations_in (relocation_source (contents_of b) b k)) 0 (contents_of b i) =
      ap (λ (s : LineSource). s.cells) (source-is (view_of b) i (sym e)) ∙ line-cells b i k e is in
      subst (λ (us : List LineTable). PlacesFit (relocation_source (contents_of b) b k) (line_runs m (line_source (file_data b)) ks kl us)) (sym h.found.is)
      (carried-fit z (contents_of b i) (all_cells_by_texts g m (text_known g ks kl) rs) (line_runs m g ks kl (tables_read g rs)) (said_fields (line_offsets m g ks kl (tables_read g rs)))
      (reads-apart (contents_of b) b i k (line-tables b i k e h.relocations is))
      (subst (λ (old : List Cell). Carried (line_runs m g ks kl (tables_read g rs)) (said_fields (line_offsets m g ks kl (tables_read g rs))) 0 0 old (all_cells_by_texts g m (text_known g ks kl) rs)) own
      (file-carried m b ks kl h.found.readings h.left h.found.reads)) (omega (arith, size, small)));
}

file-inside : (m : PathMap) (b : List ℕ) (ks kl : Bool → ℕ → Option ℕ) (ts : List LineTable) → LeftRelocationsRead (file_data b) (moving_sections (view_of b)) → TablesFound (view_of b) ts
    → OffsetsInside (length (line_source (file_data b)).cells) (line_offsets m (line_source (file_data b)) ks kl ts)
file-inside m b ks kl ts left found =
    let g : LineSource = line_source (file_data b) in
    let rs : List LineReading = found.readings in
    let are = text_section-are g m (text_known g ks kl) found.readings refl (file-apart b found.readings found.reads)
    (left-clear (file_data b) (moving_sections (view_of b)) found.readings left found.reads) found.reads in
    let ends : stretches_end 0 (stretches_known m g ks kl ts) ≡ length g.cells =
    ap (λ (us : List LineTable). stretches_end 0 (stretches_known m g ks kl us)) found.is ∙ ap (λ (xs : List Stretch). stretches_end 0 xs) (stretches-read m g ks kl rs) ∙ are.ends in
    subst (λ (n : ℕ). OffsetsInside n (line_offsets m g ks kl ts)) ends (offsets-inside 0 (stretches_known m g ks kl ts))

-- the same of a view
pub lines-of : (m : PathMap) (b : List ℕ) (v : View) (ks kl : Bool → ℕ → Option ℕ) (ts : List LineTable) (ns : List ℕ) → v ≡ view_of b → RelocationSectionsRead (contents_of b) b
    → LeftRelocationsRead (debug_data v) (moving_sections v) → TablesFound v ts → StartsKnown m (line_source (debug_data v)) ks kl ts ns → LinesOf m b ks kl ts ns
lines-of m b v ks kl ts ns file relocations left found starts = record {
  relocations = relocations;
  left = subst (λ (w : View). LeftRelocationsRead (debug_data w) (moving_sections w)) file left;
  found = subst (λ (w : View). TablesFound w ts) file found;
  starts = subst (λ (w : View). StartsKnown m (line_source (debug_data w)) ks kl ts ns) file starts;
}

pub view-fit : (m : PathMap) (b : List ℕ) (v : View) (i : ℕ) (ks kl : Bool → ℕ → Option ℕ) (ts : List LineTable) (ns : List ℕ) → v ≡ view_of b → RelocationSectionsRead (contents_of b) b
    → LeftRelocationsRead (debug_data v) (moving_sections v) → TablesFound v ts → StartsKnown m (line_source (debug_data v)) ks kl ts ns → Some i ≡ section_named v (name_of Line)
    → LinesFit b m (view_source v i) ks kl ts i
view-fit m b v i ks kl ts ns file relocations left found starts e =
    subst (λ (g : LineSource). LinesFit b m g ks kl ts i) (source-is v i e)
    (subst (λ (w : View). LinesFit b m (line_source (debug_data w)) ks kl ts i) (sym file)
    (file-fit m b i ks kl ts ns (lines-of m b v ks kl ts ns file relocations left found starts)
    (sym (e ∙ ap (λ (w : View). section_named w (name_of Line)) file))))

pub view-inside : (m : PathMap) (b : List ℕ) (v : View) (i : ℕ) (ks kl : Bool → ℕ → Option ℕ) (ts : List LineTable) → v ≡ view_of b → LeftRelocationsRead (debug_data v) (moving_sections v)
    → TablesFound v ts → Some i ≡ section_named v (name_of Line) → OffsetsInside (length (view_cells v i)) (line_offsets m (view_source v i) ks kl ts)
view-inside m b v i ks kl ts file left found e =
    subst (λ (g : LineSource). OffsetsInside (length g.cells) (line_offsets m g ks kl ts)) (source-is v i e)
    (subst (λ (w : View). LeftRelocationsRead (debug_data w) (moving_sections w) → TablesFound w ts
    → OffsetsInside (length (line_source (debug_data w)).cells) (line_offsets m (line_source (debug_data w)) ks kl ts)) (sym file) (file-inside m b ks kl ts) left found)

pub view-record : (m : PathMap) (b : List ℕ) (v : View) (i : ℕ) (ks kl : Bool → ℕ → Option ℕ) (ts : List LineTable) (old new : List Body) → Some i ≡ section_named v (name_of Line)
    → new ≡ old ++ held_lines b m (view_source v i) ks kl ts (relocation_section b i) → new ≡ old ++ line_record b m (line_source (debug_data v)) ks kl ts (section_named v (name_of Line))
view-record m b v i ks kl ts old new e is =
    is ∙ ap (λ (g : LineSource). old ++ held_lines b m g ks kl ts (relocation_section b i)) (sym (source-is v i e))
    ∙ ap (λ (o : Option ℕ). old ++ line_record b m (line_source (debug_data v)) ks kl ts o) e

pub view-makes : (m : PathMap) (v : View) (i : ℕ) (ks kl : Bool → ℕ → Option ℕ) (ts : List LineTable) → Some i ≡ section_named v (name_of Line)
    → OffsetsMake (view_cells v i) (line_offsets m (view_source v i) ks kl ts) → OffsetsMake (line_source (debug_data v)).cells (line_offsets m (line_source (debug_data v)) ks kl ts)
view-makes m v i ks kl ts e h = subst (λ (g : LineSource). OffsetsMake g.cells (line_offsets m g ks kl ts)) (sym (source-is v i e)) h

pub view-misses : (m : PathMap) (v : View) (i : ℕ) (ks kl : Bool → ℕ → Option ℕ) (ts : List LineTable) (f : Fault) → Some i ≡ section_named v (name_of Line)
    → Blames (OffsetMisses i (view_cells v i) (line_offsets m (view_source v i) ks kl ts)) f
    → Blames (OffsetMisses (line_source (debug_data v)).number (line_source (debug_data v)).cells (line_offsets m (line_source (debug_data v)) ks kl ts)) f
view-misses m v i ks kl ts f e h = subst (λ (g : LineSource). Blames (OffsetMisses g.number g.cells (line_offsets m g ks kl ts)) f) (sym (source-is v i e)) h

-- and of one that has none
pub none-record : (m : PathMap) (b : List ℕ) (v : View) (ks kl : Bool → ℕ → Option ℕ) (ts : List LineTable) (old : List Body) → None ≡ section_named v (name_of Line)
    → old ≡ old ++ line_record b m (line_source (debug_data v)) ks kl ts (section_named v (name_of Line))
none-record m b v ks kl ts old e = sym (append-nil old) ∙ ap (λ (o : Option ℕ). old ++ line_record b m (line_source (debug_data v)) ks kl ts o) e

lines-empty : (v : View) → None ≡ section_named v (name_of Line) → [] ≡ (line_source (debug_data v)).cells
unfolding debug_data
lines-empty v e = ap (λ (o : Option ℕ). (cells_located v o).contents) e

empty-none : (p : ℕ) → relocation_at [] p ≡ None
empty-none zero = refl
empty-none (suc p) = refl

pub none-offsets : (m : PathMap) (v : View) (ks kl : Bool → ℕ → Option ℕ) (ts : List LineTable) → None ≡ section_named v (name_of Line)
    → OffsetsMake (line_source (debug_data v)).cells (line_offsets m (line_source (debug_data v)) ks kl ts)
none-offsets m v ks kl ts e =
    none-make (line_source (debug_data v)).cells (line_offsets m (line_source (debug_data v)) ks kl ts) (λ p. ap (λ (cs : List Cell). relocation_at cs p) (sym (lines-empty v e)) ∙ empty-none p)

pub ruleset record_rules = (view-move, view-fit, view-inside, view-record, view-makes, view-misses, none-record, none-offsets)
