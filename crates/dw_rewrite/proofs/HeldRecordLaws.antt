-- The sections that hold relocations of sections of units, of string offsets, of macro units and of name tables, as the code makes them, are those of
-- the new contents of these sections.
use Rattle.std.proofs.Common.{Bool, true, false, ◌≡◌, ◌≢◌, ℕ, suc, ◌+◌, ◌<◌, ◌≤◌, List, [], ◌∷◌, ◌++◌, drop, if◌then◌else◌, Option, Some, None, refl, sym, ap, ◌∙◌, subst, arith, append_assoc}
use Rattle.std.specs.Bool.{⊤}
use Rattle.std.specs.Prelude.{◌&&◌}
use Rattle.std.proofs.lemmas.Bool.{and_parts}
use Rattle.dw_base.specs.Cells.{Cell, CellSection}
use Rattle.dw_base.specs.DebugData.{Around, DataReadings, ReadsAll, path_slots, units_in}
use Rattle.dw_base.specs.DebugSections.{debug_section, name_of}
use Rattle.dw_base.specs.Elf.{contents_of, section_count, section_name}
use Rattle.dw_base.specs.FileViews.{View, ViewSection, section_named, view_cells, view_of}
use Rattle.dw_base.specs.MacroReadings.{MacroReading, ReadsAllMacros}
use Rattle.dw_base.specs.NamePieces.{ReadsNames}
use Rattle.dw_base.specs.OffsetPieces.{ReadsOffsets}
use Rattle.dw_base.specs.Paths.{PathMap}
use Rattle.dw_base.specs.Pieces.{joined}
use Rattle.dw_base.specs.Readings.{Reading, Readings}
use Rattle.dw_base.specs.RelocationBodies.{relocation_body}
use Rattle.dw_base.specs.RelocationSectionFails.{RelocationSectionsRead}
use Rattle.dw_base.specs.SectionRelocations.{RelocationSource, relocation_section, relocation_source}
use Rattle.dw_base.specs.SectionTexts.{edited_macros, edited_with, macro_role, name_role, slot_role}
use Rattle.dw_base.specs.StringTables.{TextTable}
use Rattle.dw_base.specs.TextChanges.{TableChanges, edited_all}
use Rattle.dw_base.specs.UnitHeaders.{SectionKind, UnitBase, UnitSection}
use Rattle.dw_base.specs.UnitPieces.{ReadsUnits}
use Rattle.dw_base.specs.ViewData.{cells_located, debug_data, is_macro, located, macro_section, macro_sections, macro_sections_from, unit_kind, unit_section, unit_sections, unit_sections_from}
use Rattle.dw_base.specs.declared.debug_sections.DebugSection.{DebugSection}
use Rattle.dw_base.specs.declared.debug_sections.DebugSection.TheVariants.{Info, Types, Abbrev, Str, LineStr, StrOffsets, Line, Macro, Names}
use Rattle.dw_base.specs.declared.shared.Order.{Order}
use Rattle.dw_base.proofs.DebugSectionLaws.{debug_section-name}
use Rattle.dw_base.proofs.ViewCellLaws.{view_cells-view_of}
use Rattle.dw_base.specs.declared.texts.TextSection.TheVariants.{InStr, InLineStr}
use Rattle.dw_meaning.specs.DataOutput.{Body, DataReads}
use Rattle.dw_meaning.specs.FileMeanings.{file_data}
use Rattle.dw_meaning.specs.RelocatedBodies.{CellBody, cell_body, cells_of_number, macro_cells, new_cells, new_contents, old_contents, relocated_body, unit_cells}
use Rattle.dw_meaning.proofs.CellBackLaws.{all-self, new-open, now_in}
use Rattle.dw_meaning.proofs.CellKeptLaws.{SectionCells, cells-behind, cells-further, cells-here, cells-names, cells-offsets, macros-pass}
use Rattle.dw_meaning.proofs.FileBackLaws.{AllAt}
use Rattle.dw_meaning.proofs.FileKeptLaws.{IsApart, around_file, changes_file, differ, lines-number, macro-apart, name-apart, named-apart, offsets-number, offsets-place, read-section, tables-place}
use Rattle.dw_meaning.proofs.TableKeptLaws.{FoundAt, drop-at}
use Rattle.dw_patch.specs.RecordMoves.{moved_table}
use Rattle.elf_layout.specs.declared.patch.Patch.{Patch}
use Rattle.dw_read.specs.MacroFields.{macro_starts, macro_texts, macros_read, macros_with}
use Rattle.dw_read.specs.NameSections.{names_read, names_texts}
use Rattle.dw_read.specs.SlotPaths.{read_fields, slots_by, slots_read, slots_with}
use Rattle.dw_unit_fields.specs.SectionFields.{SectionFields, paths_in, paths_of}
use Rattle.dw_unit_fields.specs.ViewFields.{AllHaveOffsets, AllHavePlaces, HasOffsets, HasPlaces}
use Rattle.dw_starts.proofs.MacroNumberLaws.{AllCells}
use Rattle.dw_starts.proofs.MacroStartLaws.{all-cells}
use Rattle.dw_read.proofs.NameHaveLaws.{names-of}
use Rattle.dw_read.proofs.OffsetPlaceLaws.{offsets-of}
use Rattle.dw_unit_fields.proofs.PlaceValueLaws.{EachOf}
use Rattle.dw_unit_fields.proofs.SectionFactLaws.{own-section}
use Rattle.dw_rewrite.specs.Bodies.{held_bodies, held_body, numbers_in}
use Rattle.dw_rewrite.specs.NewOffsets.{offsets_in, record_body, records_known}
use Rattle.dw_rewrite.specs.NewTables.{Growing, IsSectionNoted}
use Rattle.dw_rewrite.proofs.BodyLaws.{AllFull, IsFull, file-macros, file-units, macro_numbers, named-full, unit_numbers}
use Rattle.dw_rewrite.proofs.HeldBodyLaws.{first-holds}
use Rattle.dw_rewrite.proofs.LineRecordLaws.{name-found}
use Rattle.dw_rewrite.proofs.MovedRecordLaws.{asked_in, section-asked}
use Rattle.dw_rewrite.proofs.NewBodyLaws.{starts_after}
use Rattle.dw_rewrite.proofs.RecordFitLaws.{read-from}
use Rattle.dw_rewrite.proofs.SectionMakeLaws.{line_str_after, str_after}
use Rattle.dw_rewrite.proofs.SectionRecordLaws.{IsReadFrom, macros-moved, names-moved, slots-moved, told_in, units-moved}

-- Where units stand among new contents: in sections of units, of which each has a number of its own.
record IsUnits (b : List ℕ) (i : ℕ) : Type 0 where
  kind : SectionKind
  is : unit_kind (debug_section (section_name b i)) ≡ Some kind

abbrev UnitsFrom : List ℕ → ℕ → Readings → Type 0
UnitsFrom b k [] = ⊤
UnitsFrom b k (r ∷ rs) = (k ≤ r.number) × IsUnits b r.number × UnitsFrom b (suc r.number) rs

units-lower : (b : List ℕ) (k : ℕ) (rs : Readings) → UnitsFrom b (suc k) rs → UnitsFrom b k rs
units-lower b k [] h = tt
units-lower b k (r ∷ rs) h = (omega (arith, h.0), h.1, h.2)

units-from : (b : List ℕ) (base : UnitBase) (first k : ℕ) (ss : List ViewSection) (rs : Readings) → AllAt (SectionCells b (old_contents b)) k ss ss
    → ReadsAll base first (unit_sections_from k ss) rs → UnitsFrom b k rs
units-from b base first k [] [] all reads = tt
units-from b base first k [] (r ∷ rs) all reads = absurd reads
units-from b base first k (s ∷ ss) rs all reads =
    by_section s.has_bytes (unit_kind (debug_section s.name)) refl rs reads (λ n qs f. units-from b base n (suc k) ss qs all.1 f)
  where
    by_section : (full : Bool) (o : Option SectionKind) → unit_kind (debug_section s.name) ≡ o → (qs : Readings)
        → ReadsAll base first ((if full then unit_section k s o else []) ++ unit_sections_from (suc k) ss) qs
        → ((n : ℕ) (ps : Readings) → ReadsAll base n (unit_sections_from (suc k) ss) ps → UnitsFrom b (suc k) ps) → UnitsFrom b k qs
    by_section false o is qs f rest = units-lower b k qs (rest first qs f)
    by_section true None is qs f rest = units-lower b k qs (rest first qs f)
    by_section true (Some kind) is [] f rest = absurd f
    by_section true (Some kind) is (q ∷ qs) f rest =
        let own : IsUnits b k = record { kind = kind; is = ap (λ (n : List ℕ). unit_kind (debug_section n)) (sym all.0.named) ∙ is } in
        let le : k ≤ q.number = omega (arith, f.0) in
        (le, subst (IsUnits b) (sym f.0) own, subst (λ (n : ℕ). UnitsFrom b (suc n) qs) (sym f.0) (rest (first + units_in q.pieces) qs f.2))

-- so each has its own among them
abbrev UnitsNow : TableChanges → Around → List CellBody → Readings → Type 0
UnitsNow c a xs [] = ⊤
UnitsNow c a xs (r ∷ rs) = ((old : List Cell) → cells_of_number xs old r.number ≡ joined (edited_all c a r.pieces)) × UnitsNow c a xs rs

units-behind : (b : List ℕ) (c : TableChanges) (a : Around) (x : CellBody) (xs : List CellBody) (k : ℕ) (rs : Readings) → x.number < k → UnitsFrom b k rs → UnitsNow c a xs rs
    → UnitsNow c a (x ∷ xs) rs
units-behind b c a x xs k [] lt from now = tt
units-behind b c a x xs k (r ∷ rs) lt from now =
    let next : x.number < suc r.number = omega (arith, lt, from.0) in
    ((λ old. cells-further x xs old r.number (λ same. omega (arith, lt, from.0, same)) ∙ now.0 old), units-behind b c a x xs (suc r.number) rs next from.2 now.1)

units-now : (b : List ℕ) (c : TableChanges) (a : Around) (k : ℕ) (rs : Readings) → UnitsFrom b k rs → UnitsNow c a (unit_cells c a rs) rs
units-now b c a k [] from = tt
units-now b c a k (r ∷ rs) from =
    let x : CellBody = cell_body r.number (joined (edited_all c a r.pieces)) in (
      (λ old. cells-here (cell_body r.number (joined (edited_all c a r.pieces))) (unit_cells c a rs) old r.number refl),
      units-behind b c a x (unit_cells c a rs) (suc r.number) rs (omega arith) from.2 (units-now b c a (suc r.number) rs from.2),
    )

-- The same of macro units.
abbrev MacrosFrom : List ℕ → ℕ → List MacroReading → Type 0
MacrosFrom b k [] = ⊤
MacrosFrom b k (r ∷ rs) = (k ≤ r.number) × (is_macro (debug_section (section_name b r.number)) ≡ true) × MacrosFrom b (suc r.number) rs

macros-lower : (b : List ℕ) (k : ℕ) (rs : List MacroReading) → MacrosFrom b (suc k) rs → MacrosFrom b k rs
macros-lower b k [] h = tt
macros-lower b k (r ∷ rs) h = (omega (arith, h.0), h.1, h.2)

macros-from : (b : List ℕ) (order : Order) (k : ℕ) (ss : List ViewSection) (rs : List MacroReading) → AllAt (SectionCells b (old_contents b)) k ss ss
    → ReadsAllMacros order (macro_sections_from k ss) rs → MacrosFrom b k rs
macros-from b order k [] [] all reads = tt
macros-from b order k [] (r ∷ rs) all reads = absurd reads
macros-from b order k (s ∷ ss) rs all reads =
    by_section (s.has_bytes && is_macro (debug_section s.name)) refl rs reads (λ qs f. macros-from b order (suc k) ss qs all.1 f)
  where
    by_section : (full : Bool) → (s.has_bytes && is_macro (debug_section s.name)) ≡ full → (qs : List MacroReading)
        → ReadsAllMacros order (macro_section k s full ++ macro_sections_from (suc k) ss) qs
        → ((ps : List MacroReading) → ReadsAllMacros order (macro_sections_from (suc k) ss) ps → MacrosFrom b (suc k) ps) → MacrosFrom b k qs
    by_section false is qs f rest = macros-lower b k qs (rest qs f)
    by_section true is [] f rest = absurd f
    by_section true is (q ∷ qs) f rest =
        let named : is_macro (debug_section s.name) ≡ true = (and_parts s.has_bytes (is_macro (debug_section s.name)) is).1 in
        let own : is_macro (debug_section (section_name b k)) ≡ true = ap (λ (n : List ℕ). is_macro (debug_section n)) (sym all.0.named) ∙ named in
        let le : k ≤ q.number = omega (arith, f.0) in (
          le,
          subst (λ (n : ℕ). is_macro (debug_section (section_name b n)) ≡ true) (sym f.0) own,
          subst (λ (n : ℕ). MacrosFrom b (suc n) qs) (sym f.0) (rest qs f.2),
        )

abbrev MacrosNow : TableChanges → Around → List CellBody → List MacroReading → Type 0
MacrosNow c a xs [] = ⊤
MacrosNow c a xs (r ∷ rs) = ((old : List Cell) → cells_of_number xs old r.number ≡ joined (edited_with macro_role c a r.pieces)) × MacrosNow c a xs rs

macros-behind : (b : List ℕ) (c : TableChanges) (a : Around) (x : CellBody) (xs : List CellBody) (k : ℕ) (rs : List MacroReading) → x.number < k → MacrosFrom b k rs
    → MacrosNow c a xs rs → MacrosNow c a (x ∷ xs) rs
macros-behind b c a x xs k [] lt from now = tt
macros-behind b c a x xs k (r ∷ rs) lt from now =
    let next : x.number < suc r.number = omega (arith, lt, from.0) in
    ((λ old. cells-further x xs old r.number (λ same. omega (arith, lt, from.0, same)) ∙ now.0 old), macros-behind b c a x xs (suc r.number) rs next from.2 now.1)

macros-now : (b : List ℕ) (c : TableChanges) (a : Around) (ys : List CellBody) (k : ℕ) (rs : List MacroReading) → MacrosFrom b k rs
    → MacrosNow c a (macro_cells (edited_macros c a rs) ++ ys) rs
macros-now b c a ys k [] from = tt
macros-now b c a ys k (r ∷ rs) from =
    let x : CellBody = cell_body r.number (joined (edited_with macro_role c a r.pieces)) in (
      (λ old. cells-here (cell_body r.number (joined (edited_with macro_role c a r.pieces))) (macro_cells (edited_macros c a rs) ++ ys) old r.number refl),
      macros-behind b c a x (macro_cells (edited_macros c a rs) ++ ys) (suc r.number) rs (omega arith) from.2 (macros-now b c a ys (suc r.number) rs from.2),
    )

-- A section of units is none of the others.
clash-kind : (kind : SectionKind) → Some kind ≡ None → ⊥
clash-kind kind e = cc

units-other : (b : List ℕ) (i : ℕ) (kind : SectionKind) (s : DebugSection) → unit_kind (Some s) ≡ None → unit_kind (debug_section (section_name b i)) ≡ Some kind
    → section_name b i ≢ name_of s
units-other b i kind s none some same =
    clash-kind kind (sym some ∙ ap (λ (n : List ℕ). unit_kind (debug_section n)) same ∙ ap unit_kind (debug_section-name s) ∙ none)

units-apart : (b : List ℕ) (i : ℕ) → 0 < i → IsUnits b i → IsApart b i
units-apart b i some u =
    named-apart b i some (units-other b i u.kind Str refl u.is) (units-other b i u.kind LineStr refl u.is) (units-other b i u.kind StrOffsets refl u.is)
    (units-other b i u.kind Line refl u.is) (units-other b i u.kind Names refl u.is)

no-macros : (kind : SectionKind) (o : Option DebugSection) → unit_kind o ≡ Some kind → is_macro o ≡ false
no-macros kind None e = absurd cc
no-macros kind (Some Info) e = refl
no-macros kind (Some Types) e = refl
no-macros kind (Some Abbrev) e = refl
no-macros kind (Some Str) e = refl
no-macros kind (Some LineStr) e = refl
no-macros kind (Some StrOffsets) e = refl
no-macros kind (Some Line) e = refl
no-macros kind (Some Macro) e = absurd cc
no-macros kind (Some Names) e = refl

macros-apart : (b : List ℕ) (i : ℕ) → 0 < i → is_macro (debug_section (section_name b i)) ≡ true → IsApart b i
macros-apart b i some is =
    named-apart b i some (macro-apart b i Str refl is) (macro-apart b i LineStr refl is) (macro-apart b i StrOffsets refl is) (macro-apart b i Line refl is)
    (macro-apart b i Names refl is)

behind-self : (b : List ℕ) → AllAt (SectionCells b (old_contents b)) 1 (drop 1 (view_of b).sections) (drop 1 (view_of b).sections)
behind-self b = drop-at (SectionCells b (old_contents b)) (view_of b).sections (view_of b).sections (all-self b)

-- The new contents of each.
abbrev UnitsNew : PathMap → List ℕ → DataReadings → Readings → Type 0
UnitsNew m b all [] = ⊤
UnitsNew m b all (r ∷ rs) =
    (new_contents b (new_cells m (file_data b) all) r.number ≡ joined (edited_all (changes_file m b all) (around_file b all) r.pieces)) × UnitsNew m b all rs

unit-new : (m : PathMap) (b : List ℕ) (all : DataReadings) (i : ℕ) → DataReads (file_data b) all → 0 < i → IsUnits b i
    → now_in m b all i ≡ cells_of_number (unit_cells (changes_file m b all) (around_file b all) all.units) (old_contents b i) i
unfolding debug_data macro_sections
unit-new m b all i reads some u =
    let apart = units-apart b i some u in
    cells-behind (changes_file m b all) (file_data b) (around_file b all) all (old_contents b i) i apart.offsets apart.lines apart.names
    ∙ macros-pass b (old_contents b) (file_data b).base.order (changes_file m b all) (around_file b all) (unit_cells (changes_file m b all) (around_file b all) all.units) (old_contents b i) i
    (no-macros u.kind (debug_section (section_name b i)) u.is) 1 (drop 1 (view_of b).sections) (drop 1 (view_of b).sections) all.macros (behind-self b) reads.macros

units-new-by : (m : PathMap) (b : List ℕ) (all : DataReadings) (k : ℕ) (rs : Readings) → DataReads (file_data b) all → 0 < k → UnitsFrom b k rs
    → UnitsNow (changes_file m b all) (around_file b all) (unit_cells (changes_file m b all) (around_file b all) all.units) rs → UnitsNew m b all rs
units-new-by m b all k [] reads some from now = tt
units-new-by m b all k (r ∷ rs) reads some from now = (
  new-open m b all r.number ∙ unit-new m b all r.number reads (omega (arith, some, from.0)) from.1 ∙ now.0 (old_contents b r.number),
  units-new-by m b all (suc r.number) rs reads (omega arith) from.2 now.1,
)

units-new : (m : PathMap) (b : List ℕ) (all : DataReadings) → DataReads (file_data b) all → UnitsNew m b all all.units
unfolding debug_data unit_sections
units-new m b all reads =
    let from : UnitsFrom b 1 all.units = units-from b (file_data b).base 0 1 (drop 1 (view_of b).sections) all.units (behind-self b) reads.units in
    units-new-by m b all 1 all.units reads (omega arith) from (units-now b (changes_file m b all) (around_file b all) 1 all.units from)

abbrev MacrosNew : PathMap → List ℕ → DataReadings → List MacroReading → Type 0
MacrosNew m b all [] = ⊤
MacrosNew m b all (r ∷ rs) =
    (new_contents b (new_cells m (file_data b) all) r.number ≡ joined (edited_with macro_role (changes_file m b all) (around_file b all) r.pieces)) × MacrosNew m b all rs

macro-new : (m : PathMap) (b : List ℕ) (all : DataReadings) (i : ℕ) → 0 < i → is_macro (debug_section (section_name b i)) ≡ true
    → now_in m b all i ≡ cells_of_number (macro_cells (edited_macros (changes_file m b all) (around_file b all) all.macros)
    ++ unit_cells (changes_file m b all) (around_file b all) all.units) (old_contents b i) i
macro-new m b all i some is =
    let apart = macros-apart b i some is in
    cells-behind (changes_file m b all) (file_data b) (around_file b all) all (old_contents b i) i apart.offsets apart.lines apart.names

macros-new-by : (m : PathMap) (b : List ℕ) (all : DataReadings) (k : ℕ) (rs : List MacroReading) → 0 < k → MacrosFrom b k rs
    → MacrosNow (changes_file m b all) (around_file b all)
    (macro_cells (edited_macros (changes_file m b all) (around_file b all) all.macros) ++ unit_cells (changes_file m b all) (around_file b all) all.units) rs → MacrosNew m b all rs
macros-new-by m b all k [] some from now = tt
macros-new-by m b all k (r ∷ rs) some from now = (
  new-open m b all r.number ∙ macro-new m b all r.number (omega (arith, some, from.0)) from.1 ∙ now.0 (old_contents b r.number),
  macros-new-by m b all (suc r.number) rs (omega arith) from.2 now.1,
)

macros-new : (m : PathMap) (b : List ℕ) (all : DataReadings) → DataReads (file_data b) all → MacrosNew m b all all.macros
unfolding debug_data macro_sections
macros-new m b all reads =
    let from : MacrosFrom b 1 all.macros = macros-from b (file_data b).base.order 1 (drop 1 (view_of b).sections) all.macros (behind-self b) reads.macros in
    macros-new-by m b all 1 all.macros (omega arith) from
    (macros-now b (changes_file m b all) (around_file b all) (unit_cells (changes_file m b all) (around_file b all) all.units) 1 all.macros from)

slots-new : (m : PathMap) (b : List ℕ) (all : DataReadings) (i : ℕ) → section_named (view_of b) (name_of StrOffsets) ≡ Some i
    → new_contents b (new_cells m (file_data b) all) i
    ≡ joined (edited_with (slot_role (path_slots (around_file b all))) (changes_file m b all) (around_file b all) all.offsets)
unfolding debug_data
slots-new m b all i e =
    new-open m b all i
    ∙ cells-offsets (changes_file m b all) (file_data b) (around_file b all) all (old_contents b i) i (ap (λ (o : Option ℕ). (cells_located (view_of b) o).number) e)

-- the section of name tables is none of string offsets or line tables
names-others : (b : List ℕ) (i : ℕ) → section_named (view_of b) (name_of Names) ≡ Some i → (i ≢ ((file_data b).found StrOffsets).number) × (i ≢ ((file_data b).found Line).number)
names-others b i e = (
  subst (λ (n : ℕ). i ≢ n) (sym (offsets-number b))
      (name-apart b (name_of StrOffsets) (located (view_of b) StrOffsets) i (offsets-place b) above (λ same. no_offsets (differ Names StrOffsets (sym f.named ∙ same)))),
  subst (λ (n : ℕ). i ≢ n) (sym (lines-number b))
      (name-apart b (name_of Line) (located (view_of b) Line) i (tables-place b) above (λ same. no_lines (differ Names Line (sym f.named ∙ same)))),
)
  where
    f : FoundAt b (name_of Names) 1 i
    f = name-found b (name_of Names) i e

    above : 0 < i
    above = let from = f.from in omega arith

    no_offsets : Some Names ≡ Some StrOffsets → ⊥
    no_offsets same = cc

    no_lines : Some Names ≡ Some Line → ⊥
    no_lines same = cc

names-new : (m : PathMap) (b : List ℕ) (all : DataReadings) (i : ℕ) → section_named (view_of b) (name_of Names) ≡ Some i
    → new_contents b (new_cells m (file_data b) all) i ≡ joined (edited_with name_role (changes_file m b all) (around_file b all) all.names)
unfolding debug_data
names-new m b all i e =
    let others = names-others b i e in
    new-open m b all i
    ∙ cells-names (changes_file m b all) (file_data b) (around_file b all) all (old_contents b i) i (ap (λ (o : Option ℕ). (cells_located (view_of b) o).number) e) others.0 others.1

-- A section of relocations of which the records are those of new contents.
abbrev source_at : List ℕ → ℕ → RelocationSource
source_at b k = relocation_source (contents_of b) b k

one-held : (b : List ℕ) (cells : List CellBody) (told : List Patch) (i k : ℕ) (new : List Cell) → i < section_count b → relocation_section b i ≡ Some k → new_contents b cells i ≡ new
    → moved_table (source_at b k) [] told ≡ relocation_body (source_at b k) (view_cells (view_of b) i) new → moved_table (source_at b k) [] told ≡ relocated_body b cells k
unfolding relocated_body
one-held b cells told i k new lt is new_is moved =
    moved ∙ ap (λ (p : List Cell). relocation_body (source_at b k) p new) (view_cells-view_of b i lt)
    ∙ ap (relocation_body (source_at b k) (old_contents b i)) (sym new_is)
    ∙ ap (λ (j : ℕ). relocation_body (source_at b k) (old_contents b j) (new_contents b cells j)) (sym (first-holds b i k is).info)

record-held : (b : List ℕ) (cells : List CellBody) (told : List Patch) (i : ℕ) (new : List Cell) → RelocationSectionsRead (contents_of b) b → IsFull b i → new_contents b cells i ≡ new
    → ((k : ℕ) → IsReadFrom (view_of b) i (source_at b k) (contents_of b i)
    → moved_table (source_at b k) [] told ≡ relocation_body (source_at b k) (view_cells (view_of b) i) new)
    → record_body b told (relocation_section b i) ≡ held_body b cells (relocation_section b i)
record-held b cells told i new sections full new_is moved = by_option (relocation_section b i) refl
  where
    by_option : (o : Option ℕ) → relocation_section b i ≡ o → record_body b told o ≡ held_body b cells o
    by_option None e = refl
    by_option (Some k) e =
        let reads = (sections.all i (read-section b i full.within full.read)).tables k e in
        ap (λ (bs : List ℕ). record { number = k; bytes = bs } ∷ [])
        (one-held b cells told i k new full.within e new_is (moved k (read-from b i k full.within e reads)))

-- Units.
abbrev records_after : PathMap → List ℕ → DataReadings → List SectionFields → List Body
records_after m b all us = records_known b (view_of b) (str_after m (view_of b) all) (line_str_after m (view_of b) all) (starts_after m (view_of b) all) us

reading-held : (m : PathMap) (b : List ℕ) (all : DataReadings) (before behind : List UnitSection) (z : UnitSection) (first : ℕ) (r : Reading) → RelocationSectionsRead (contents_of b) b
    → (file_data b).found Info ≡ before ++ z ∷ behind → r.number ≡ z.number → ReadsUnits (file_data b).base z first r.pieces → HasOffsets (view_of b) (paths_in r)
    → HasPlaces (view_of b) (paths_in r) → IsFull b r.number
    → new_contents b (new_cells m (file_data b) all) r.number ≡ joined (edited_all (changes_file m b all) (around_file b all) r.pieces)
    → record_body b (told_in m (view_of b) all (paths_in r)) (relocation_section b r.number) ≡ held_body b (new_cells m (file_data b) all) (relocation_section b r.number)
reading-held m b all before behind z first r sections split number reads offsets places full new =
    let same : z.contents ≡ view_cells (view_of b) r.number = (own-section (view_of b) before behind z split).contents ∙ ap (view_cells (view_of b)) (sym number) in
    record-held b (new_cells m (file_data b) all) (told_in m (view_of b) all (paths_in r)) r.number (joined (edited_all (changes_file m b all) (around_file b all) r.pieces)) sections full new
    (λ k from. units-moved m (view_of b) all z first r (source_at b k) (contents_of b r.number) reads same offsets places from)

readings-held : (m : PathMap) (b : List ℕ) (all : DataReadings) (before zs : List UnitSection) (first : ℕ) (rs : Readings) → RelocationSectionsRead (contents_of b) b
    → (file_data b).found Info ≡ before ++ zs → ReadsAll (file_data b).base first zs rs → AllHaveOffsets (view_of b) (paths_of rs) → AllHavePlaces (view_of b) (paths_of rs)
    → AllFull b (unit_numbers rs) → UnitsNew m b all rs
    → records_after m b all (paths_of rs) ≡ held_bodies b (new_cells m (file_data b) all) (numbers_in (paths_of rs))
readings-held m b all before zs first [] sections split reads offsets places full new = refl
readings-held m b all before [] first (r ∷ rs) sections split reads offsets places full new = absurd reads
readings-held m b all before (z ∷ zs) first (r ∷ rs) sections split reads offsets places full new =
    ap (λ (bs : List Body). bs ++ records_after m b all (paths_of rs))
    (reading-held m b all before zs z first r sections split reads.0 reads.1 offsets.0 places.0 full.0 new.0)
    ∙ ap (λ (bs : List Body). held_body b (new_cells m (file_data b) all) (relocation_section b r.number) ++ bs)
    (readings-held m b all (before ++ z ∷ []) zs (first + units_in r.pieces) rs sections (split ∙ sym (append_assoc before (z ∷ []) zs)) reads.2 offsets.1 places.1 full.1 new.1)

-- String offsets.
slots-held : (m : PathMap) (b : List ℕ) (all : DataReadings) (o : Option ℕ) → RelocationSectionsRead (contents_of b) b → section_named (view_of b) (name_of StrOffsets) ≡ o
    → ReadsOffsets (view_of b).order (cells_located (view_of b) o).contents all.offsets → AllHaveOffsets (view_of b) (slots_by o (read_fields (file_data b) all))
    → AllHavePlaces (view_of b) (slots_by o (read_fields (file_data b) all))
    → records_after m b all (slots_by o (read_fields (file_data b) all)) ≡ held_bodies b (new_cells m (file_data b) all) (numbers_in (slots_by o (read_fields (file_data b) all)))
slots-held m b all None sections e reads offsets places = refl
slots-held m b all (Some i) sections e reads offsets places =
    ap (λ (bs : List Body). bs ++ [])
    (record-held b (new_cells m (file_data b) all) (told_in m (view_of b) all (slots_with i (read_fields (file_data b) all))) i
    (joined (edited_with (slot_role (path_slots (around_file b all))) (changes_file m b all) (around_file b all) all.offsets)) sections (named-full b StrOffsets i e) (slots-new m b all i e)
    (λ k from. slots-moved m (view_of b) all i (source_at b k) (contents_of b i) reads offsets.0 places.0 from))

-- Macro units.
macro-held : (m : PathMap) (b : List ℕ) (all : DataReadings) (zs : List CellSection) (rs : List MacroReading) → RelocationSectionsRead (contents_of b) b → AllCells (view_of b) zs
    → ReadsAllMacros (file_data b).base.order zs rs → AllHaveOffsets (view_of b) (macros_read rs) → AllHavePlaces (view_of b) (macros_read rs) → AllFull b (macro_numbers rs)
    → MacrosNew m b all rs → records_after m b all (macros_read rs) ≡ held_bodies b (new_cells m (file_data b) all) (numbers_in (macros_read rs))
macro-held m b all zs [] sections cells reads offsets places full new = refl
macro-held m b all [] (r ∷ rs) sections cells reads offsets places full new = absurd reads
macro-held m b all (z ∷ zs) (r ∷ rs) sections cells reads offsets places full new =
    ap (λ (bs : List Body). bs ++ records_after m b all (macros_read rs))
    (record-held b (new_cells m (file_data b) all) (told_in m (view_of b) all (macros_with r.number (macro_starts r.pieces) (macro_texts InStr r.pieces))) r.number
    (joined (edited_with macro_role (changes_file m b all) (around_file b all) r.pieces)) sections full.0 new.0
    (λ k from. macros-moved m (view_of b) all z r (source_at b k) (contents_of b r.number) cells.0 reads.0 reads.1 offsets.0 places.0 from))
    ∙ ap (λ (bs : List Body). held_body b (new_cells m (file_data b) all) (relocation_section b r.number) ++ bs)
    (macro-held m b all zs rs sections cells.1 reads.2 offsets.1 places.1 full.1 new.1)

-- Name tables.
names-held : (m : PathMap) (b : List ℕ) (all : DataReadings) (o : Option ℕ) → RelocationSectionsRead (contents_of b) b → section_named (view_of b) (name_of Names) ≡ o
    → ReadsNames (view_of b).order (cells_located (view_of b) o).contents all.names → AllHaveOffsets (view_of b) (slots_by o (names_texts InStr all.names))
    → AllHavePlaces (view_of b) (slots_by o (names_texts InStr all.names))
    → records_after m b all (slots_by o (names_texts InStr all.names)) ≡ held_bodies b (new_cells m (file_data b) all) (numbers_in (slots_by o (names_texts InStr all.names)))
names-held m b all None sections e reads offsets places = refl
names-held m b all (Some i) sections e reads offsets places =
    ap (λ (bs : List Body). bs ++ [])
    (record-held b (new_cells m (file_data b) all) (told_in m (view_of b) all (slots_with i (names_texts InStr all.names))) i
    (joined (edited_with name_role (changes_file m b all) (around_file b all) all.names)) sections (named-full b Names i e) (names-new m b all i e)
    (λ k from. names-moved m (view_of b) all i (source_at b k) (contents_of b i) reads offsets.0 places.0 from))

-- All of them, one after another.
pub records-append : (b : List ℕ) (v : View) (ks kl kt : Bool → ℕ → Option ℕ) (us ws : List SectionFields) → records_known b v ks kl kt (us ++ ws) ≡ records_known b v ks kl kt us ++ records_known b v ks kl kt ws
records-append b v ks kl kt [] ws = refl
records-append b v ks kl kt (u ∷ us) ws =
    ap (λ (bs : List Body). record_body b (offsets_in v ks kl kt u) (relocation_section b u.number) ++ bs) (records-append b v ks kl kt us ws)
    ∙ sym (append_assoc (record_body b (offsets_in v ks kl kt u) (relocation_section b u.number)) (records_known b v ks kl kt us) (records_known b v ks kl kt ws))

held-append : (b : List ℕ) (cells : List CellBody) (us ws : List SectionFields)
    → held_bodies b cells (numbers_in (us ++ ws)) ≡ held_bodies b cells (numbers_in us) ++ held_bodies b cells (numbers_in ws)
held-append b cells [] ws = refl
held-append b cells (u ∷ us) ws =
    ap (λ (bs : List Body). held_body b cells (relocation_section b u.number) ++ bs) (held-append b cells us ws)
    ∙ sym (append_assoc (held_body b cells (relocation_section b u.number)) (held_bodies b cells (numbers_in us)) (held_bodies b cells (numbers_in ws)))

-- those of which the code says them are those of which the edit does
pub records-asked : (m : PathMap) (b : List ℕ) (v : View) (ps pl : TextTable) (ks kl kt : Bool → ℕ → Option ℕ) (us : List SectionFields) → Growing m v InStr ps ks → Growing m v InLineStr pl kl
    → EachOf (λ u. IsSectionNoted v InStr u ks) us → EachOf (λ u. IsSectionNoted v InLineStr u kl) us
    → records_known b v ks kl kt us ≡ records_known b v (asked_in m v InStr ps.texts) (asked_in m v InLineStr pl.texts) kt us
records-asked m b v ps pl ks kl kt [] gs gl ns nl = refl
records-asked m b v ps pl ks kl kt (u ∷ us) gs gl ns nl =
    ap (λ (told : List Patch). record_body b told (relocation_section b u.number) ++ records_known b v ks kl kt us) (section-asked m v ps pl ks kl kt u gs gl ns.0 nl.0)
    ∙ ap (λ (bs : List Body). record_body b (offsets_in v (asked_in m v InStr ps.texts) (asked_in m v InLineStr pl.texts) kt u) (relocation_section b u.number) ++ bs)
    (records-asked m b v ps pl ks kl kt us gs gl ns.1 nl.1)

-- the parts of the sections that were found
pub record FoundParts (v : View) (all : DataReadings) : Type 0 where
  pub unit_offsets : AllHaveOffsets v (paths_of all.units)
  pub unit_places : AllHavePlaces v (paths_of all.units)
  pub slot_offsets : AllHaveOffsets v (slots_read v all)
  pub slot_places : AllHavePlaces v (slots_read v all)
  pub macro_offsets : AllHaveOffsets v (macros_read all.macros)
  pub macro_places : AllHavePlaces v (macros_read all.macros)
  pub name_offsets : AllHaveOffsets v (names_read v all)
  pub name_places : AllHavePlaces v (names_read v all)

front-after : (m : PathMap) (b : List ℕ) (all : DataReadings) → RelocationSectionsRead (contents_of b) b → DataReads (file_data b) all → FoundParts (view_of b) all
    → records_after m b all ((paths_of all.units ++ slots_read (view_of b) all) ++ macros_read all.macros)
    ≡ held_bodies b (new_cells m (file_data b) all) (numbers_in ((paths_of all.units ++ slots_read (view_of b) all) ++ macros_read all.macros))
front-after m b all sections reads parts =
    let v : View = view_of b in
    let cells : List CellBody = new_cells m (file_data b) all in
    let ks : Bool → ℕ → Option ℕ = str_after m (view_of b) all in
    let kl : Bool → ℕ → Option ℕ = line_str_after m (view_of b) all in
    let kt : Bool → ℕ → Option ℕ = starts_after m (view_of b) all in
    let units : records_after m b all (paths_of all.units) ≡ held_bodies b (new_cells m (file_data b) all) (numbers_in (paths_of all.units)) =
    readings-held m b all [] ((file_data b).found Info) 0 all.units sections refl reads.units parts.unit_offsets parts.unit_places (file-units b all reads) (units-new m b all reads) in
    let slots : records_after m b all (slots_read (view_of b) all) ≡ held_bodies b (new_cells m (file_data b) all) (numbers_in (slots_read (view_of b) all)) =
    slots-held m b all (section_named (view_of b) (name_of StrOffsets)) sections refl (offsets-of (view_of b) all.offsets reads.offsets) parts.slot_offsets parts.slot_places in
    let macros : records_after m b all (macros_read all.macros) ≡ held_bodies b (new_cells m (file_data b) all) (numbers_in (macros_read all.macros)) =
    macro-held m b all ((file_data b).found Macro) all.macros sections (all-cells (view_of b)) reads.macros parts.macro_offsets parts.macro_places (file-macros b all reads)
    (macros-new m b all reads) in
    records-append b v ks kl kt (paths_of all.units ++ slots_read (view_of b) all) (macros_read all.macros)
    ∙ ap (λ (bs : List Body). bs ++ records_after m b all (macros_read all.macros))
    (records-append b v ks kl kt (paths_of all.units) (slots_read (view_of b) all)
    ∙ ap (λ (bs : List Body). bs ++ records_after m b all (slots_read (view_of b) all)) units
    ∙ ap (λ (bs : List Body). held_bodies b (new_cells m (file_data b) all) (numbers_in (paths_of all.units)) ++ bs) slots
    ∙ sym (held-append b cells (paths_of all.units) (slots_read (view_of b) all)))
    ∙ ap (λ (bs : List Body). held_bodies b (new_cells m (file_data b) all) (numbers_in (paths_of all.units ++ slots_read (view_of b) all)) ++ bs) macros
    ∙ sym (held-append b cells (paths_of all.units ++ slots_read (view_of b) all) (macros_read all.macros))

pub records-after : (m : PathMap) (b : List ℕ) (all : DataReadings) → RelocationSectionsRead (contents_of b) b → DataReads (file_data b) all → FoundParts (view_of b) all
    → records_after m b all (((paths_of all.units ++ slots_read (view_of b) all) ++ macros_read all.macros) ++ names_read (view_of b) all)
    ≡ held_bodies b (new_cells m (file_data b) all) (numbers_in (((paths_of all.units ++ slots_read (view_of b) all) ++ macros_read all.macros) ++ names_read (view_of b) all))
records-after m b all sections reads parts =
    let names : records_after m b all (names_read (view_of b) all) ≡ held_bodies b (new_cells m (file_data b) all) (numbers_in (names_read (view_of b) all)) =
    names-held m b all (section_named (view_of b) (name_of Names)) sections refl (names-of (view_of b) all.names reads.names) parts.name_offsets parts.name_places in
    records-append b (view_of b) (str_after m (view_of b) all) (line_str_after m (view_of b) all) (starts_after m (view_of b) all) ((paths_of all.units ++ slots_read (view_of b) all) ++ macros_read all.macros)
    (names_read (view_of b) all)
    ∙ ap (λ (bs : List Body). bs ++ records_after m b all (names_read (view_of b) all)) (front-after m b all sections reads parts)
    ∙ ap (λ (bs : List Body). held_bodies b (new_cells m (file_data b) all) (numbers_in ((paths_of all.units ++ slots_read (view_of b) all) ++ macros_read all.macros)) ++ bs) names
    ∙ sym (held-append b (new_cells m (file_data b) all) ((paths_of all.units ++ slots_read (view_of b) all) ++ macros_read all.macros) (names_read (view_of b) all))
