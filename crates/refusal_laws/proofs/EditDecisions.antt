-- A file can be edited with a map, or a condition holds that refuses it.
use Rattle.std.proofs.Common.{Bool, true, ◌≡◌, inl, inr, ℕ, List, [], ◌∷◌, length, refl, subst}
use Rattle.dw_base.specs.Cells.{Cell, field_of, is_placed}
use Rattle.dw_base.specs.DebugData.{Around, DataReadings, around_of, indexing_of, line_source, path_slots}
use Rattle.dw_base.specs.ElfFails.{ElfReads}
use Rattle.dw_base.specs.FileViews.{view_of}
use Rattle.dw_base.specs.IndexFails.{SlotFits}
use Rattle.dw_base.specs.LayoutFails.{LayoutFits}
use Rattle.dw_base.specs.LineReadings.{LineReading, TablesTo, table_read}
use Rattle.dw_base.specs.MacroPieces.{MacroMode, at_line, at_offset, at_operation, at_unit, no_macros, of_text, of_unit}
use Rattle.dw_base.specs.NameOffsets.{NamesRefuse}
use Rattle.dw_base.specs.NameOffsets.TablesRefuse.{offsets as name_offsets, tables as name_fails}
use Rattle.dw_base.specs.Paths.{PathMap}
use Rattle.dw_base.specs.Pieces.{EachPiece, Piece}
use Rattle.dw_base.specs.Readings.{EachReading, Readings}
use Rattle.dw_base.specs.RelocationRows.{moving_sections}
use Rattle.dw_base.specs.Roles.{Role, fixed, inline_path, line_start, offset, role_of}
use Rattle.dw_base.specs.SectionTexts.{NameTexts, macro_role, macro_role_by, slot_role}
use Rattle.dw_base.specs.TextChanges.{InlineFits, NamesText, NamesTextBy, TableChanges}
use Rattle.dw_base.specs.TextIndexes.{EachUse, NamesSlot, index_uses}
use Rattle.dw_base.specs.TextLineChanges.{text_place}
use Rattle.dw_base.specs.TextWriteFails.{CanWriteTexts}
use Rattle.dw_base.specs.UnitStates.{UnitState}
use Rattle.dw_base.specs.ViewData.{debug_data}
use Rattle.dw_base.specs.declared.debug_sections.DebugSection.TheVariants.{LineStr, Str, StrOffsets}
use Rattle.dw_base.specs.declared.fault.Refusal.{Refusal}
use Rattle.dw_base.specs.declared.texts.TextSection.{TextSection}
use Rattle.dw_meaning.specs.DataOutput.{DataReads, EachWritable, PathsFit, changes_of}
use Rattle.dw_meaning.specs.EditRows.{EditFails, IsAccepted}
use Rattle.dw_meaning.specs.EditRows.EditFails.{addends, file, inline, line_table, output, shared}
use Rattle.dw_meaning.specs.FileFails.{FileFails}
use Rattle.dw_meaning.specs.FileFails.FileFails.{name_tables, relocations, slots, starts, texts}
use Rattle.dw_meaning.specs.FileMeanings.{FileReads, file_body, file_data}
use Rattle.dw_meaning.specs.NewAddends.{AddendsFit}
use Rattle.dw_meaning.specs.RelocationFails.{LeftRelocationsRead}
use Rattle.dw_meaning.specs.RelocationFails.OffsetsFailIn.{names}
use Rattle.dw_meaning.specs.RelocationFails.RelocationsFail.{left, offsets as lost_offsets}
use Rattle.dw_meaning.proofs.LeftRowLaws.{headers-left, values-left}
use Rattle.dw_meaning.proofs.LineRowLaws.{TableAmong, table-among}
use Rattle.dw_read.proofs.FoundPathLaws.{all-names}
use Rattle.refusal_laws.specs.Decided.{Both, Decided, TakenOrRefused, refused, taken}
use Rattle.refusal_laws.specs.Readable.{HasNameTables, HasParts}
use Rattle.refusal_laws.proofs.Decisions.{decided-among, decided-both, decided-by}
use Rattle.refusal_laws.proofs.FileDecisions.{parts-decided}
use Rattle.refusal_laws.proofs.LayoutDecisions.{layout-decided}
use Rattle.refusal_laws.proofs.LeftDecisions.{left-decided}
use Rattle.refusal_laws.proofs.ListDecisions.{Among, Each, decided-list, macros-map, readings-map}
use Rattle.refusal_laws.proofs.NameDecisions.{names-decided}
use Rattle.refusal_laws.proofs.PartPieces.{MacroText, MacroTextBy, PartsRead, parts-read}
use Rattle.refusal_laws.proofs.PiecePlaces.{PlacedPiece, all-placed, macros-placed, slots-placed}
use Rattle.refusal_laws.proofs.SlotDecisions.{indexes-decided, indexes-read, shared-decided, slots-decided}
use Rattle.refusal_laws.proofs.StartDecisions.{MacroLine, MacroLineBy, NamesLine, StartsHold, starts-decided}
use Rattle.refusal_laws.proofs.TextDecisions.{TextThere, inline-decided, texts-decided}
use Rattle.refusal_laws.proofs.WriteDecisions.{addends-decided, write-decided}

-- ### What a piece names

-- a piece whose offset is placed names its text, and the line table that it says
role-names : (r : Role) (around : Around) (p : List Cell) → ((t : TextSection) (path : Bool) → r ≡ offset t path → is_placed (field_of around.lasting.base.order p) ≡ true)
    → TextThere around r p → (r ≡ line_start → NamesTextBy line_start around p) → NamesTextBy r around p
role-names fixed around p placed text line = tt
role-names inline_path around p placed text line = tt
role-names (offset t path) around p placed text line = text (placed t path refl)
role-names line_start around p placed text line = line refl

-- what holds of a piece apart from lines
record PlacedText (around : Around) (x : Piece UnitState) : Type 0 where
  placed : PlacedPiece around.lasting.base.order x
  text : TextThere around (role_of x) x.cells

units-name : (around : Around) (rs : Readings) → EachReading (PlacedPiece around.lasting.base.order) rs → EachReading (λ x. TextThere around (role_of x) x.cells) rs
    → EachReading (NamesLine around) rs → EachReading (NamesText around) rs
units-name around rs placed text lines =
    readings-map (PlacedText around) (NamesLine around) (NamesText around) rs
    (λ x h line. role-names (role_of x) around x.cells h.placed.text h.text line)
    (readings-map (PlacedPiece around.lasting.base.order) (λ x. TextThere around (role_of x) x.cells) (PlacedText around) rs (λ x h k. record { placed = h; text = k }) placed text) lines

-- a piece of macro units names its text, or its line table
macro-names : (m : MacroMode) (b : List ℕ) (r : DataReadings) (p : List Cell) → MacroTextBy m (view_of b) p → MacroLineBy m (around_of (file_data b) r) p
    → NamesTextBy (macro_role_by m) (around_of (file_data b) r) p
unfolding debug_data
macro-names at_unit b r p text line = tt
macro-names (at_line width) b r p text line = line
macro-names (at_operation width) b r p text line = tt
macro-names (at_offset width (of_text defines n)) b r p text line = text
macro-names (at_offset width of_unit) b r p text line = tt
macro-names no_macros b r p text line = tt

-- ### A file that can be read

-- debug data that are pieces can be read
record Reads (b : List ℕ) : Type 0 where
  readings : DataReadings
  reads : FileReads b readings

-- name tables, by the rows of a file
names-fail : (b : List ℕ) (r : Refusal) → ElfReads b → NamesRefuse (view_of b) r → FileFails b r
names-fail b r elf (name_fails f) = name_tables elf f
names-fail b r elf (name_offsets list start t u before is f) = relocations elf (lost_offsets (names list start t u before is f))

read-decided : (b : List ℕ) (p : HasParts b) (q : PartsRead (view_of b)) → Decided (FileReads b q.readings) (FileFails b)
read-decided b p q =
    decided-by
    (λ (h : Both (LeftRelocationsRead (file_data b) (moving_sections (view_of b)))
    (Both (EachReading (λ x. TextThere (around_of (file_data b) q.readings) (role_of x) x.cells) q.readings.units)
    (Both (NameTexts (slot_role (path_slots (around_of (file_data b) q.readings))) (around_of (file_data b) q.readings) q.readings.offsets)
    (Both (EachUse (NamesSlot (indexing_of (file_data b) q.readings)) (index_uses (file_data b).base.order q.readings.units)) (StartsHold (file_data b) q.readings))))).
    let reads : DataReads (file_data b) q.readings =
    record {
      units = q.are.units;
      offsets = q.are.offsets;
      lines = q.are.lines;
      macros = q.are.macros;
      names = q.are.names;
      texts = units-name (around_of (file_data b) q.readings) q.readings.units (all-placed (file_data b) (moving_sections (view_of b)) q.readings q.are h.first) h.second.first
          h.second.second.second.second.lines;
      slot_texts = h.second.second.first;
      macro_texts = macros-map (MacroText (view_of b)) (MacroLine (around_of (file_data b) q.readings))
          (λ x. NamesTextBy (macro_role x.state) (around_of (file_data b) q.readings) x.cells) q.readings.macros
          (λ x text line. macro-names x.state.mode b q.readings x.cells text line) q.macros h.second.second.second.second.macro_lines;
      name_texts = all-names (view_of b) q.readings q.readings.names q.names;
      indexes = h.second.second.second.first;
      forms = h.second.second.second.second.forms;
      macro_values = h.second.second.second.second.values;
      imports = h.second.second.second.second.imports;
    } in
    record {
      elf = p.elf;
      names = p.names;
      relocations = record {
        sections = p.relocations;
        on_data = record {
          headers = headers-left (file_data b) q.readings (moving_sections (view_of b)) reads h.first;
          values = values-left (file_data b) q.readings (moving_sections (view_of b)) reads h.first;
          left = h.first;
        };
      };
      data_reads = reads;
    })
    (decided-both
    (decided-among (λ r f. relocations p.elf (left f)) (left-decided (file_data b) (moving_sections (view_of b)) q.readings q.are)) (λ l.
    decided-both (decided-among (λ r f. texts p.elf f) (texts-decided (file_data b) q.readings q.are)) (λ t.
    decided-both
    (decided-among (λ r f. slots p.elf f) (slots-decided (file_data b) q.readings q.are (slots-placed (file_data b) (moving_sections (view_of b)) q.readings q.are l))) (λ s.
    decided-both
    (decided-among (λ r f. slots p.elf f) (indexes-decided (file_data b) q.readings q.are (all-placed (file_data b) (moving_sections (view_of b)) q.readings q.are l))) (λ i.
    decided-among (λ r f. starts p.elf f)
    (starts-decided (file_data b) q.readings q.are (all-placed (file_data b) (moving_sections (view_of b)) q.readings q.are l)
    (macros-placed (file_data b) (moving_sections (view_of b)) q.readings q.are l)))))))

-- ### A file that can be mapped

abbrev changes_in : PathMap → (b : List ℕ) → DataReadings → TableChanges
changes_in m b r = changes_of m (around_of (file_data b) r) r

abbrev Writable : PathMap → (b : List ℕ) → DataReadings → LineReading → Type 0
Writable m b r t =
    CanWriteTexts (line_source (file_data b)) m (text_place m ((changes_in m b r).new Str) ((changes_in m b r).new LineStr) (line_source (file_data b)))
    (table_read (line_source (file_data b)) t)

each-writable : (m : PathMap) (b : List ℕ) (r : DataReadings) (ts : List LineReading) → Each (Writable m b r) ts
    → EachWritable m (changes_in m b r) (around_of (file_data b) r) ts
each-writable m b r [] h = tt
each-writable m b r (t ∷ ts) h = (h.0, each-writable m b r ts h.1)

lines-decided : (m : PathMap) (b : List ℕ) (r : DataReadings) → FileReads b r → Decided (EachWritable m (changes_in m b r) (around_of (file_data b) r) r.lines) (EditFails m b)
lines-decided m b r reads =
    decided-by (each-writable m b r r.lines)
    (decided-list {P = Writable m b r} {F = EditFails m b} r.lines
    (λ (t : LineReading) (a : Among r.lines t).
    let among : TableAmong (line_source (file_data b)) t =
    table-among (line_source (file_data b)) 0 (length (line_source (file_data b)).bytes) a.before a.behind t
    (subst (λ (ts : List LineReading). TablesTo (line_source (file_data b)) 0 ts (length (line_source (file_data b)).bytes)) a.is reads.data_reads.lines) in
    decided-among (λ s f. line_table r a.before a.behind t reads a.is f)
    (write-decided (line_source (file_data b)) m (text_place m ((changes_in m b r).new Str) ((changes_in m b r).new LineStr) (line_source (file_data b))) among.start t among.reads)))

accepted-from : (m : PathMap) (b : List ℕ) (p : HasParts b) (q : PartsRead (view_of b)) → FileReads b q.readings → Decided (IsAccepted m b) (EditFails m b)
accepted-from m b p q reads =
    decided-by
    (λ (h : Both (PathsFit m (file_data b) q.readings) (Both (EachWritable m (changes_in m b q.readings) (around_of (file_data b) q.readings) q.readings.lines)
    (Both (AddendsFit (changes_in m b q.readings) (file_data b) (around_of (file_data b) q.readings) q.readings) (LayoutFits b (file_body m b q.readings))))).
    record {
      readings = q.readings;
      reads = reads;
      fits = record { inline = h.first.inline; slots = h.first.slots; lines = h.second.first; addends = h.second.second.first };
      unloaded = p.unloaded;
      relocations_unloaded = p.relocations_unloaded;
      written = h.second.second.second;
    })
    (decided-both paths (λ f.
    decided-both (lines-decided m b q.readings reads) (λ l.
    decided-both
    (decided-among (λ s x. addends q.readings reads f x)
    (addends-decided (changes_in m b q.readings) (file_data b) (around_of (file_data b) q.readings) q.readings)) (λ a.
    decided-among (λ s x. output q.readings reads f x) (layout-decided b (file_body m b q.readings))))))
  where
    paths : Decided (PathsFit m (file_data b) q.readings) (EditFails m b)
    paths =
        decided-by
        (λ (h : Both (EachReading (InlineFits m) q.readings.units) (EachPiece (SlotFits m (around_of (file_data b) q.readings)) q.readings.offsets)).
        record { inline = h.first; slots = h.second })
        (decided-both (decided-among (λ s x. inline p.elf x) (inline-decided m (file_data b) q.readings q.are)) (λ i.
        decided-among (λ s x. shared q.readings p.elf (indexes-read (file_data b) q.readings q.are) x)
        (shared-decided m ((file_data b).found StrOffsets).number (around_of (file_data b) q.readings) q.readings.offsets)))

-- ### Any file

with-parts : (m : PathMap) (b : List ℕ) (p : HasParts b) → Decided (IsAccepted m b) (EditFails m b)
with-parts m b p = by (names-decided (view_of b))
  where
    by_reads : (q : PartsRead (view_of b)) → Decided (FileReads b q.readings) (FileFails b) → Decided (IsAccepted m b) (EditFails m b)
    by_reads q (refused r f) = refused r (file f)
    by_reads q (taken reads) = accepted-from m b p q reads

    by_parts : PartsRead (view_of b) → Decided (IsAccepted m b) (EditFails m b)
    by_parts q = by_reads q (read-decided b p q)

    by : Decided (HasNameTables (view_of b)) (NamesRefuse (view_of b)) → Decided (IsAccepted m b) (EditFails m b)
    by (refused r f) = refused r (file (names-fail b r p.elf f))
    by (taken n) = by_parts (parts-read (view_of b) p.units p.offsets p.lines p.macros n)

decided-edit : (m : PathMap) (b : List ℕ) → Decided (IsAccepted m b) (EditFails m b)
decided-edit m b = by (parts-decided b)
  where
    by : Decided (HasParts b) (FileFails b) → Decided (IsAccepted m b) (EditFails m b)
    by (refused r f) = refused r (file f)
    by (taken p) = with-parts m b p

-- a file is taken, or a condition that refuses it holds, for every map and all bytes
pub edit-decided : (m : PathMap) (b : List ℕ) → TakenOrRefused m b
edit-decided m b = by (decided-edit m b)
  where
    by : Decided (IsAccepted m b) (EditFails m b) → TakenOrRefused m b
    by (taken a) = inl a
    by (refused r f) = inr (r, f)
