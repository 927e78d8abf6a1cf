-- What reads of the relocations on debug data does so after an edit: of units, string offsets, name tables and macro units.
use Rattle.std.proofs.Common.{◌≡◌, ℕ, ◌+◌, List, [], ◌∷◌, ◌++◌, refl, sym, ap, ◌∙◌, subst, length, ◌≤◌, arith}
use Rattle.dw_base.specs.Cells.{Cell, CellSection, bytes_of}
use Rattle.dw_base.specs.DebugData.{Around, DataReadings, DebugData, ReadsAll, around_of, line_source, path_slots, units_in}
use Rattle.dw_base.specs.LineFields.{line_fields, table_fields}
use Rattle.dw_base.specs.LineReadings.{AreTables, LineReading, ReadsTable, TablesTo}
use Rattle.dw_base.specs.LineSources.{LineSource}
use Rattle.dw_base.specs.MacroPieces.{MacroState, ReadsMacros}
use Rattle.dw_base.specs.MacroReadings.{MacroReading, ReadsAllMacros}
use Rattle.dw_base.specs.NamePieces.{NameState, ReadsNames}
use Rattle.dw_base.specs.OffsetPieces.{OffsetState, ReadsOffsets}
use Rattle.dw_base.specs.Paths.{PathMap}
use Rattle.dw_base.specs.Pieces.{Piece, joined}
use Rattle.dw_base.specs.Readings.{Readings}
use Rattle.dw_base.specs.RelocationRows.{FieldPlace, FieldsRead, HeaderReads, macro_field, macro_fields, name_field, name_fields, slot_field, slot_fields, unit_field, unit_fields}
use Rattle.dw_base.specs.Roles.{Role, role_of, role_of_mode}
use Rattle.dw_base.specs.SectionTexts.{edited_macros, edited_with, macro_role, name_role, slot_role}
use Rattle.dw_base.specs.TextChanges.{TableChanges, edited_all, edited_by}
use Rattle.dw_base.specs.UnitHeaders.{UnitBase, UnitSection}
use Rattle.dw_base.specs.UnitPieces.{ReadsUnits}
use Rattle.dw_base.specs.UnitStates.{Mode, UnitState, at_chosen, at_code, at_header, at_values, stuck}
use Rattle.dw_base.specs.declared.shared.Order.{Order}
use Rattle.dw_base.specs.declared.shared.Params.{Params}
use Rattle.dw_base.proofs.UnitEditLaws.{Shift, length-bytes_of}
use Rattle.dw_base.specs.declared.debug_sections.DebugSection.TheVariants.{Info, StrOffsets, Line, Macro, Names}
use Rattle.dw_meaning.specs.DataOutput.{changes_of, names_after, offsets_after}
use Rattle.dw_meaning.specs.RelocationFails.{LeftRelocationsRead}
use Rattle.dw_meaning.proofs.AlikeCellLaws.{fields-alike, roles-alike, units-alike}
use Rattle.dw_meaning.proofs.DataKeptLaws.{AllReadingsChanged, DataMoves, data-reads, lines-data, new-line-bytes, data_shift, edited_data, edited_readings, edited_sections, macros-changed-all, reads-changed, units-changed-all}
use Rattle.dw_meaning.proofs.DataOneLaws.{names-one, offsets-one}
use Rattle.dw_meaning.proofs.MacroEditLaws.{AllMacrosChanged, edited_macro_sections, macros-read}
use Rattle.dw_meaning.proofs.LineOwnLaws.{any-headers, any-lines, lines-keep}
use Rattle.dw_meaning.proofs.MacroReadLaws.{macros-one}
use Rattle.dw_meaning.proofs.UnitNumberLaws.{same-fields}

-- the fields of edited pieces are where they were
unit-field : (m : Mode) (params : Params) (order : Order) (c : TableChanges) (around : Around) (s : UnitState) (p : List Cell)
    → unit_field m order s (edited_by (role_of_mode m params) c around p) ≡ unit_field m order s p
unit-field at_header params order c around s p = refl
unit-field at_code params order c around s p = refl
unit-field (at_values number tag []) params order c around s p = refl
unit-field (at_values number tag (x ∷ xs)) params order c around s p = refl
unit-field (at_chosen number tag start x xs) params order c around s p = refl
unit-field stuck params order c around s p = refl

units-fields : (order : Order) (c : TableChanges) (around : Around) (xs : List (Piece UnitState)) → unit_fields order (edited_all c around xs) ≡ unit_fields order xs
unfolding role_of
units-fields order c around [] = refl
units-fields order c around (x ∷ xs) =
    ap (λ (fs : List FieldPlace). fs ++ unit_fields order (edited_all c around xs)) (unit-field x.state.mode x.state.header.params order c around x.state x.cells)
    ∙ ap (λ (fs : List FieldPlace). unit_field x.state.mode order x.state x.cells ++ fs) (units-fields order c around xs)

slots-fields : (role : OffsetState → Role) (c : TableChanges) (around : Around) (xs : List (Piece OffsetState)) → slot_fields (edited_with role c around xs) ≡ slot_fields xs
slots-fields role c around [] = refl
slots-fields role c around (x ∷ xs) = ap (λ (fs : List FieldPlace). slot_field x.state.mode x.state.place ++ fs) (slots-fields role c around xs)

names-fields : (role : NameState → Role) (c : TableChanges) (around : Around) (xs : List (Piece NameState)) → name_fields (edited_with role c around xs) ≡ name_fields xs
names-fields role c around [] = refl
names-fields role c around (x ∷ xs) = ap (λ (fs : List FieldPlace). name_field x.state.mode x.state.place ++ fs) (names-fields role c around xs)

macros-fields : (role : MacroState → Role) (c : TableChanges) (around : Around) (xs : List (Piece MacroState)) → macro_fields (edited_with role c around xs) ≡ macro_fields xs
macros-fields role c around [] = refl
macros-fields role c around (x ∷ xs) = ap (λ (fs : List FieldPlace). macro_field x.state.mode x.state.place ++ fs) (macros-fields role c around xs)

-- a section of units after the edit is one before it
record OldUnits (c : TableChanges) (around : Around) (base : UnitBase) (zs : List UnitSection) (z : UnitSection) : Type 0 where
  before : List UnitSection
  behind : List UnitSection
  old : UnitSection
  split : zs ≡ before ++ old ∷ behind
  first : ℕ
  pieces : List (Piece UnitState)
  reads : ReadsUnits base old first pieces
  contents : z.contents ≡ joined (edited_all c around pieces)
  number : z.number ≡ old.number
  new : ReadsUnits base z first (edited_all c around pieces)

old-units : (shift : Shift) (c : TableChanges) (around : Around) (base : UnitBase) (n : ℕ) (zs : List UnitSection) (rs : Readings) (before behind : List UnitSection) (z : UnitSection)
    → ReadsAll base n zs rs → AllReadingsChanged shift rs (edited_readings c around rs) → edited_sections zs (edited_readings c around rs) ≡ before ++ z ∷ behind
    → OldUnits c around base zs z
old-units shift c around base n [] rs [] behind z reads h e = absurd cc
old-units shift c around base n [] rs (b ∷ bs) behind z reads h e = absurd cc
old-units shift c around base n (y ∷ ys) [] before behind z reads h e = absurd reads
old-units shift c around base n (y ∷ ys) (r ∷ rs) [] behind z reads h e =
    let same : record y { contents = joined (edited_all c around r.pieces) } ≡ z = cc in
    record {
      before = [];
      behind = ys;
      old = y;
      split = refl;
      first = n;
      pieces = r.pieces;
      reads = reads.1;
      contents = ap (λ (x : UnitSection). x.contents) (sym same);
      number = ap (λ (x : UnitSection). x.number) (sym same);
      new = subst (λ (x : UnitSection). ReadsUnits base x n (edited_all c around r.pieces)) same (reads-changed base shift y n r.pieces (edited_all c around r.pieces) h.1 reads.1);
    }
old-units shift c around base n (y ∷ ys) (r ∷ rs) (b ∷ bs) behind z reads h e =
    let tail : edited_sections ys (edited_readings c around rs) ≡ bs ++ z ∷ behind = cc in
    let o : OldUnits c around base ys z = old-units shift c around base (n + units_in r.pieces) ys rs bs behind z reads.2 h.2 tail in
    record {
      before = y ∷ o.before;
      behind = o.behind;
      old = o.old;
      split = ap (λ (l : List UnitSection). y ∷ l) o.split;
      first = o.first;
      pieces = o.pieces;
      reads = o.reads;
      contents = o.contents;
      number = o.number;
      new = o.new;
    }

-- and so is one of macro units
record OldMacros (c : TableChanges) (around : Around) (order : Order) (zs : List CellSection) (z : CellSection) : Type 0 where
  before : List CellSection
  behind : List CellSection
  old : CellSection
  split : zs ≡ before ++ old ∷ behind
  pieces : List (Piece MacroState)
  reads : ReadsMacros order old.contents pieces
  contents : z.contents ≡ joined (edited_with macro_role c around pieces)
  number : z.number ≡ old.number
  new : ReadsMacros order z.contents (edited_with macro_role c around pieces)

old-macros : (shift : Shift) (c : TableChanges) (around : Around) (order : Order) (zs : List CellSection) (rs : List MacroReading) (before behind : List CellSection) (z : CellSection)
    → ReadsAllMacros order zs rs → AllMacrosChanged shift rs (edited_macros c around rs) → edited_macro_sections zs (edited_macros c around rs) ≡ before ++ z ∷ behind
    → OldMacros c around order zs z
old-macros shift c around order [] rs [] behind z reads h e = absurd cc
old-macros shift c around order [] rs (b ∷ bs) behind z reads h e = absurd cc
old-macros shift c around order (y ∷ ys) [] before behind z reads h e = absurd reads
old-macros shift c around order (y ∷ ys) (r ∷ rs) [] behind z reads h e =
    let same : record { number = y.number; contents = joined (edited_with macro_role c around r.pieces) } ≡ z = cc in
    let own : z.contents ≡ joined (edited_with macro_role c around r.pieces) = ap (λ (x : CellSection). x.contents) (sym same) in
    record {
      before = [];
      behind = ys;
      old = y;
      split = refl;
      pieces = r.pieces;
      reads = reads.1;
      contents = own;
      number = ap (λ (x : CellSection). x.number) (sym same);
      new = subst (λ (p : List Cell). ReadsMacros order p (edited_with macro_role c around r.pieces)) (sym own)
          (macros-read shift order y.contents r.pieces (edited_with macro_role c around r.pieces) h.1 reads.1);
    }
old-macros shift c around order (y ∷ ys) (r ∷ rs) (b ∷ bs) behind z reads h e =
    let tail : edited_macro_sections ys (edited_macros c around rs) ≡ bs ++ z ∷ behind = cc in
    let o : OldMacros c around order ys z = old-macros shift c around order ys rs bs behind z reads.2 h.2 tail in
    record {
      before = y ∷ o.before;
      behind = o.behind;
      old = o.old;
      split = ap (λ (l : List CellSection). y ∷ l) o.split;
      pieces = o.pieces;
      reads = o.reads;
      contents = o.contents;
      number = o.number;
      new = o.new;
    }

-- each kind of section
pub units-left : (m : PathMap) (d : DebugData) (r : DataReadings) (w : DataMoves m d r) (moving : List ℕ) → LeftRelocationsRead d moving
    → (before behind : List UnitSection) (z : UnitSection) (first : ℕ) (ys : List (Piece UnitState)) → (edited_data (changes_of m (around_of d r) r) d r).found Info ≡ before ++ z ∷ behind
    → ReadsUnits d.base z first ys → FieldsRead d.base.order z.contents moving (unit_fields d.base.order ys)
units-left m d r w moving left before behind z first ys split reads =
    let c : TableChanges = changes_of m (around_of d r) r in
    let o : OldUnits (changes_of m (around_of d r) r) (around_of d r) d.base (d.found Info) z =
    old-units (data_shift m d r) (changes_of m (around_of d r) r) (around_of d r) d.base 0 (d.found Info) r.units before behind z w.reads.units (units-changed-all m d r w) split in
    let fields : unit_fields d.base.order ys ≡ unit_fields d.base.order o.pieces =
    same-fields d.base.order d.base z first o.first ys (edited_all (changes_of m (around_of d r) r) (around_of d r) o.pieces) reads o.new
    ∙ units-fields d.base.order (changes_of m (around_of d r) r) (around_of d r) o.pieces in
    let old : FieldsRead d.base.order (joined o.pieces) moving (unit_fields d.base.order o.pieces) =
    subst (λ (p : List Cell). FieldsRead d.base.order p moving (unit_fields d.base.order o.pieces)) (sym o.reads.cells)
    (left.units o.before o.behind o.old o.first o.pieces o.split o.reads) in
    subst (λ (fs : List FieldPlace). FieldsRead d.base.order z.contents moving fs) (sym fields)
    (subst (λ (p : List Cell). FieldsRead d.base.order p moving (unit_fields d.base.order o.pieces)) (sym o.contents)
    (fields-alike d.base.order (joined o.pieces) (joined (edited_all (changes_of m (around_of d r) r) (around_of d r) o.pieces)) moving (unit_fields d.base.order o.pieces)
    (units-alike (changes_of m (around_of d r) r) (around_of d r) o.pieces) old))

pub macros-left : (m : PathMap) (d : DebugData) (r : DataReadings) (w : DataMoves m d r) (moving : List ℕ) → LeftRelocationsRead d moving
    → (before behind : List CellSection) (z : CellSection) (ys : List (Piece MacroState)) → (edited_data (changes_of m (around_of d r) r) d r).found Macro ≡ before ++ z ∷ behind
    → ReadsMacros d.base.order z.contents ys → FieldsRead d.base.order z.contents moving (macro_fields ys)
macros-left m d r w moving left before behind z ys split reads =
    let o : OldMacros (changes_of m (around_of d r) r) (around_of d r) d.base.order (d.found Macro) z =
    old-macros (data_shift m d r) (changes_of m (around_of d r) r) (around_of d r) d.base.order (d.found Macro) r.macros before behind z w.reads.macros (macros-changed-all m d r w) split in
    let fields : macro_fields ys ≡ macro_fields o.pieces =
    ap macro_fields (macros-one d.base.order z.contents ys (edited_with macro_role (changes_of m (around_of d r) r) (around_of d r) o.pieces) reads o.new)
    ∙ macros-fields macro_role (changes_of m (around_of d r) r) (around_of d r) o.pieces in
    let old : FieldsRead d.base.order (joined o.pieces) moving (macro_fields o.pieces) =
    subst (λ (p : List Cell). FieldsRead d.base.order p moving (macro_fields o.pieces)) (sym o.reads.cells) (left.macros o.before o.behind o.old o.pieces o.split o.reads) in
    subst (λ (fs : List FieldPlace). FieldsRead d.base.order z.contents moving fs) (sym fields)
    (subst (λ (p : List Cell). FieldsRead d.base.order p moving (macro_fields o.pieces)) (sym o.contents)
    (fields-alike d.base.order (joined o.pieces) (joined (edited_with macro_role (changes_of m (around_of d r) r) (around_of d r) o.pieces)) moving (macro_fields o.pieces)
    (roles-alike macro_role (changes_of m (around_of d r) r) (around_of d r) o.pieces) old))

pub slots-left : (m : PathMap) (d : DebugData) (r : DataReadings) (w : DataMoves m d r) (moving : List ℕ) → LeftRelocationsRead d moving → (ys : List (Piece OffsetState))
    → ReadsOffsets d.base.order ((edited_data (changes_of m (around_of d r) r) d r).found StrOffsets).contents ys
    → FieldsRead d.base.order ((edited_data (changes_of m (around_of d r) r) d r).found StrOffsets).contents moving (slot_fields ys)
slots-left m d r w moving left ys reads =
    let now : List (Piece OffsetState) = offsets_after (changes_of m (around_of d r) r) (around_of d r) r in
    let fields : slot_fields ys ≡ slot_fields r.offsets =
    ap slot_fields (offsets-one d.base.order (joined (offsets_after (changes_of m (around_of d r) r) (around_of d r) r)) ys (offsets_after (changes_of m (around_of d r) r) (around_of d r) r) reads
    (data-reads m d r w).offsets)
    ∙ slots-fields (slot_role (path_slots (around_of d r))) (changes_of m (around_of d r) r) (around_of d r) r.offsets in
    let old : FieldsRead d.base.order (joined r.offsets) moving (slot_fields r.offsets) =
    subst (λ (p : List Cell). FieldsRead d.base.order p moving (slot_fields r.offsets)) (sym w.reads.offsets.cells) (left.slots r.offsets w.reads.offsets) in
    subst (λ (fs : List FieldPlace). FieldsRead d.base.order (joined (offsets_after (changes_of m (around_of d r) r) (around_of d r) r)) moving fs) (sym fields)
    (fields-alike d.base.order (joined r.offsets) (joined (offsets_after (changes_of m (around_of d r) r) (around_of d r) r)) moving (slot_fields r.offsets)
    (roles-alike (slot_role (path_slots (around_of d r))) (changes_of m (around_of d r) r) (around_of d r) r.offsets) old)

pub names-left : (m : PathMap) (d : DebugData) (r : DataReadings) (w : DataMoves m d r) (moving : List ℕ) → LeftRelocationsRead d moving → (ys : List (Piece NameState))
    → ReadsNames d.base.order ((edited_data (changes_of m (around_of d r) r) d r).found Names).contents ys
    → FieldsRead d.base.order ((edited_data (changes_of m (around_of d r) r) d r).found Names).contents moving (name_fields ys)
names-left m d r w moving left ys reads =
    let fields : name_fields ys ≡ name_fields r.names =
    ap name_fields (names-one d.base.order (joined (names_after (changes_of m (around_of d r) r) (around_of d r) r)) ys (names_after (changes_of m (around_of d r) r) (around_of d r) r) reads
    (data-reads m d r w).names)
    ∙ names-fields name_role (changes_of m (around_of d r) r) (around_of d r) r.names in
    let old : FieldsRead d.base.order (joined r.names) moving (name_fields r.names) =
    subst (λ (p : List Cell). FieldsRead d.base.order p moving (name_fields r.names)) (sym w.reads.names.cells) (left.names r.names w.reads.names) in
    subst (λ (fs : List FieldPlace). FieldsRead d.base.order (joined (names_after (changes_of m (around_of d r) r) (around_of d r) r)) moving fs) (sym fields)
    (fields-alike d.base.order (joined r.names) (joined (names_after (changes_of m (around_of d r) r) (around_of d r) r)) moving (name_fields r.names)
    (roles-alike name_role (changes_of m (around_of d r) r) (around_of d r) r.names) old)

-- of line tables
abbrev after_lines : PathMap → DebugData → DataReadings → LineSource
after_lines m d r = line_source (edited_data (changes_of m (around_of d r) r) d r)

lines-whole : (m : PathMap) (d : DebugData) (r : DataReadings) (w : DataMoves m d r)
    → TablesTo (after_lines m d r) 0 (lines-data m d r w).readings (length (after_lines m d r).bytes)
lines-whole m d r w =
    subst (TablesTo (after_lines m d r) 0 (lines-data m d r w).readings) (ap length (sym (new-line-bytes m d r))) (lines-data m d r w).are

pub line-headers-left : (m : PathMap) (d : DebugData) (r : DataReadings) (w : DataMoves m d r) (before : List LineReading) (start : ℕ) (t : LineReading)
    → TablesTo (after_lines m d r) 0 before start → ReadsTable (after_lines m d r) start t
    → HeaderReads t.header.start t.behind ((edited_data (changes_of m (around_of d r) r) d r).found Line).contents (table_fields (after_lines m d r) t)
line-headers-left m d r w before start t up reads =
    any-headers (after_lines m d r) (lines-data m d r w).readings before start t refl refl (lines-whole m d r w) (lines-data m d r w).clear up reads

pub lines-left : (m : PathMap) (d : DebugData) (r : DataReadings) (w : DataMoves m d r) (moving : List ℕ) → LeftRelocationsRead d moving → (ts : List LineReading)
    → AreTables (after_lines m d r) ts → FieldsRead d.base.order ((edited_data (changes_of m (around_of d r) r) d r).found Line).contents moving (line_fields (after_lines m d r) ts)
lines-left m d r w moving left ts are =
    any-lines (after_lines m d r) (lines-data m d r w).readings ts moving refl refl (lines-whole m d r w) (lines-data m d r w).clear
    (lines-keep (line_source d) (after_lines m d r) (length (line_source d).bytes) (length (after_lines m d r).bytes) r.lines (lines-data m d r w).readings moving w.reads.lines
    (lines-data m d r w).tails refl refl (lines-whole m d r w) (cells-within (after_lines m d r).cells) (lines-data m d r w).clear (left.lines r.lines w.reads.lines).kept) are
  where
    cells-within : (cells : List Cell) → length cells ≤ length (bytes_of cells)
    cells-within cells =
        let same = length-bytes_of cells in
        omega (arith, same)

-- all of it
pub left-after : (m : PathMap) (d : DebugData) (r : DataReadings) (w : DataMoves m d r) (moving : List ℕ) → LeftRelocationsRead d moving
    → LeftRelocationsRead (edited_data (changes_of m (around_of d r) r) d r) moving
left-after m d r w moving left = record {
  units = units-left m d r w moving left;
  slots = slots-left m d r w moving left;
  names = names-left m d r w moving left;
  macros = macros-left m d r w moving left;
  lines = lines-left m d r w moving left;
  line_headers = line-headers-left m d r w;
}
