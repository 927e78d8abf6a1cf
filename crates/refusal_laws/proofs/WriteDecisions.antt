-- Line tables can be written with their texts moved, and addends make the new offsets, or a condition holds (DWARF 5, 6.2.4; gABI ch. 4
-- "Relocation").
use Rattle.std.specs.Prelude.{ℤ, pos, ◌+ℤ◌, ◌==◌, option_map}
use Rattle.std.proofs.Common.{Bool, true, false, ◌≡◌, ◌≢◌, ◌⊎◌, inl, inr, ℕ, ◌<◌, ◌≤◌, ◌^◌, nat_lt, List, [], ◌∷◌, length, take, Contains, Option, Some, None, refl, sym, ap, ◌∙◌, subst, arith, if◌then◌else◌}
use Rattle.std.proofs.lemmas.Bool.{cases_Bool, cases_eq, cases_lt}
use Rattle.std.proofs.lemmas.Bool.Decides.{nat_tests}
use Rattle.dw_base.specs.Cells.{Relocation, first_relocation, wrapped}
use Rattle.dw_base.specs.DebugData.{Around, DataReadings, DebugData, line_source, path_slots}
use Rattle.dw_base.specs.Forms.{width_size}
use Rattle.dw_base.specs.LineHeaders.{line_header}
use Rattle.dw_base.specs.LinePrograms.{next_opcode, opcode_at, with_file}
use Rattle.dw_base.specs.LineReadings.{LineReading, ReadsTable, table_read}
use Rattle.dw_base.specs.LineSources.{LineSource}
use Rattle.dw_base.specs.LineTables.{table_bytes}
use Rattle.dw_base.specs.LineWriteFails.{DefinedStay, ProgramFails, changes_file, defined, length_field, length_limit}
use Rattle.dw_base.specs.MacroPieces.{MacroState}
use Rattle.dw_base.specs.MacroReadings.{EachMacro, MacroReading}
use Rattle.dw_base.specs.NamePieces.{NameState}
use Rattle.dw_base.specs.NewOffsets.{moved_addend, symbol_value}
use Rattle.dw_base.specs.OffsetPieces.{OffsetState}
use Rattle.dw_base.specs.Paths.{PathMap}
use Rattle.dw_base.specs.Pieces.{EachPiece, Piece}
use Rattle.dw_base.specs.Readings.{EachReading, Reading}
use Rattle.dw_base.specs.Refusals.{at}
use Rattle.dw_base.specs.RelocationFields.{relocation_at}
use Rattle.dw_base.specs.Roles.{Role, role_of}
use Rattle.dw_base.specs.SectionTexts.{macro_role, name_role, slot_role}
use Rattle.dw_base.specs.TextChanges.{TableChanges}
use Rattle.dw_base.specs.TextLineChanges.{header_by_texts, rest_by_texts}
use Rattle.dw_base.specs.TextWriteFails.{CanWriteTexts, TextWriteFails, text_header, text_offset, text_program, text_table, wide_text}
use Rattle.dw_base.specs.UnitStates.{UnitState}
use Rattle.dw_base.specs.Walks.{Step, Walks, ends, goes, no_step, one_more}
use Rattle.dw_base.specs.WrittenLines.{header_length_place}
use Rattle.dw_base.specs.declared.debug_sections.DebugSection.TheVariants.{Line, Names, StrOffsets}
use Rattle.dw_base.specs.declared.fault.Kind.TheVariants.{DefinedPath, TooWide}
use Rattle.dw_base.specs.declared.line_tables.FilePlace.{FilePlace}
use Rattle.dw_base.specs.declared.line_tables.LineHeader.{LineHeader}
use Rattle.dw_base.specs.declared.line_tables.LineText.{LineText}
use Rattle.dw_base.specs.declared.line_tables.Opcode.{Opcode}
use Rattle.dw_base.specs.declared.shared.Width.{Width}
use Rattle.dw_lines.proofs.DefinedLaws.{over-files}
use Rattle.dw_meaning.specs.NewAddends.{AddendMakes, AddendsFail, AddendsFit, EachTextMakes, EachTextsMake, Makes, MakesNew, MakesPath, MakesRole, Misses, PieceMisses, TextMisses, new_offset, place_of, places_by}
use Rattle.dw_meaning.specs.NewAddends.AddendsFail.{in_lines, in_macros, in_names, in_slots, in_unit}
use Rattle.dw_meaning.proofs.LineHeaderLaws.{header-is}
use Rattle.dw_meaning.proofs.LineReadLaws.{some-same}
use Rattle.dw_meaning.proofs.LineTableLaws.{header-places}
use Rattle.refusal_laws.specs.Decided.{Both, Decided, refused, taken}
use Rattle.refusal_laws.proofs.Decisions.{decided-among, decided-below, decided-both, decided-by, decided-or}
use Rattle.refusal_laws.proofs.ListDecisions.{Among, Each, contains-among, decided-list, decided-macros, decided-pieces, decided-readings, each-contained}

-- ### The program of a line table

below-test : (m n : ℕ) → nat_lt m n ≡ true → m < n
below-test m n e = grind (arith, nat_tests)

stay-more : (m : PathMap) (table : List ℕ) (files : List FilePlace) (file : Option FilePlace) → DefinedStay m table files → changes_file m table file ≡ false
    → DefinedStay m table (with_file files file)
stay-more m table files None s c = s
stay-more m table [] (Some f) s c = (c, tt)
stay-more m table (x ∷ xs) (Some f) s c = (s.0, stay-more m table xs (Some f) s.1 c)

abbrev stepped : List FilePlace → Option Opcode → Option (Step (List FilePlace × ℕ) (List FilePlace))
stepped files x = option_map (λ o. goes (with_file files o.file, o.next)) x

step-known : (m : PathMap) (section : ℕ) (h : LineHeader) (table : List ℕ) (s t : List FilePlace × ℕ) → Walks (next_opcode section h table) ([], h.program) s
    → next_opcode section h table s ≡ Some (goes t) → DefinedStay m table s.0 → Decided (DefinedStay m table t.0) (ProgramFails m section h table)
unfolding next_opcode
step-known m section h table s t w e stay = by_test (nat_lt s.1 (length table)) refl e
  where
    gone : List FilePlace × ℕ → Option (Step (List FilePlace × ℕ) (List FilePlace)) → List FilePlace × ℕ
    gone d None = d
    gone d (Some (goes u)) = u
    gone d (Some (ends x)) = d

    by_file : (o : Opcode) → s.1 < length table → opcode_at section h table s.1 ≡ Some o → stepped s.0 (Some o) ≡ Some (goes t)
        → (changes_file m table o.file ≡ true) ⊎ (changes_file m table o.file ≡ false) → Decided (DefinedStay m table t.0) (ProgramFails m section h table)
    by_file o lt is e (inl changes) = refused (at DefinedPath section s.1) (defined s.0 s.1 o w lt is changes)
    by_file o lt is e (inr plain) =
        let same : (with_file s.0 o.file, o.next) ≡ t = ap (gone (with_file s.0 o.file, o.next)) e in
        taken (subst (λ (u : List FilePlace × ℕ). DefinedStay m table u.0) same (stay-more m table s.0 o.file stay plain))

    by_opcode : (x : Option Opcode) → s.1 < length table → opcode_at section h table s.1 ≡ x → stepped s.0 x ≡ Some (goes t)
        → Decided (DefinedStay m table t.0) (ProgramFails m section h table)
    by_opcode None lt is e = absurd cc
    by_opcode (Some o) lt is e = by_file o lt is e (cases_Bool (changes_file m table o.file))

    by_test : (b : Bool) → nat_lt s.1 (length table) ≡ b → (if b then stepped s.0 (opcode_at section h table s.1) else Some (ends s.0)) ≡ Some (goes t)
        → Decided (DefinedStay m table t.0) (ProgramFails m section h table)
    by_test true test e = by_opcode (opcode_at section h table s.1) (below-test s.1 (length table) test) refl e
    by_test false test e = absurd cc

walk-known : (m : PathMap) (section : ℕ) (h : LineHeader) (table : List ℕ) (s : List FilePlace × ℕ) → Walks (next_opcode section h table) ([], h.program) s
    → Decided (DefinedStay m table s.0) (ProgramFails m section h table)
walk-known m section h table s no_step = taken tt
walk-known m section h table s (one_more a b w e) = by (walk-known m section h table a w)
  where
    by : Decided (DefinedStay m table a.0) (ProgramFails m section h table) → Decided (DefinedStay m table b.0) (ProgramFails m section h table)
    by (refused r f) = refused r f
    by (taken stay) = step-known m section h table a b w e stay

-- ### A line table

-- the new offset of a text fits its field
abbrev TextFits : LineSource → (LineText → Option ℕ) → Width → LineText → Type 0
TextFits g places width x = (place : ℕ) → x.place.section ≢ g.number → places x ≡ Some place → place < 256 ^ width_size width

text-known : (g : LineSource) (m : PathMap) (places : LineText → Option ℕ) (t : LineReading) (x : LineText) → Among (table_read g t).texts x
    → Decided (TextFits g places (table_read g t).width x) (TextWriteFails g m places (table_read g t))
text-known g m places t x a = by (cases_eq x.place.section g.number) (places x) refl
  where
    by_place : (p : ℕ) → x.place.section ≢ g.number → places x ≡ Some p → (p < 256 ^ width_size (table_read g t).width) ⊎ (256 ^ width_size (table_read g t).width ≤ p)
        → Decided (TextFits g places (table_read g t).width x) (TextWriteFails g m places (table_read g t))
    by_place p other e (inl lt) = taken (λ place apart is. subst (λ (q : ℕ). q < 256 ^ width_size (table_read g t).width) (some-same p place (sym e ∙ is)) lt)
    by_place p other e (inr far) =
        refused (at TooWide g.number x.place.field)
        (text_offset (wide_text x p (subst (λ (xs : List LineText). Contains xs x) (sym a.is) (contains-among a.before a.behind x)) other e far))

    by : (x.place.section ≡ g.number) ⊎ (x.place.section ≢ g.number) → (o : Option ℕ) → places x ≡ o
        → Decided (TextFits g places (table_read g t).width x) (TextWriteFails g m places (table_read g t))
    by (inl own) o e = taken (λ place apart is. absurd (apart own))
    by (inr other) None e = taken (λ place apart is. absurd (never place is e))
      where
        never : (place : ℕ) → places x ≡ Some place → places x ≡ None → ⊥
        never place f n = cc
    by (inr other) (Some p) e = by_place p other e (cases_lt p (256 ^ width_size (table_read g t).width))

program-decided : (g : LineSource) (m : PathMap) (places : LineText → Option ℕ) (start : ℕ) (t : LineReading) → ReadsTable g start t
    → Decided (DefinedStay m (take t.header.end g.bytes) t.defined) (TextWriteFails g m places (table_read g t))
program-decided g m places start t reads =
    let begins : t.header.start ≡ start = (header-places g start t.header (header-is g.order g.bytes start t.header reads.header)).0 in
    let header : line_header g.order g.bytes t.header.start ≡ Some t.header = ap (line_header g.order g.bytes) begins ∙ reads.header in
    let last : reads.program.last.0 ≡ t.defined = over-files g.number t.header (table_bytes g t.header) reads.program.last t.defined reads.program.over in
    decided-by (λ (stay : DefinedStay m (table_bytes g t.header) reads.program.last.0). subst (DefinedStay m (table_bytes g t.header)) last stay)
    (decided-among (λ r f. text_program t.header header f) (walk-known m g.number t.header (table_bytes g t.header) reads.program.last reads.program.walks))

pub write-decided : (g : LineSource) (m : PathMap) (places : LineText → Option ℕ) (start : ℕ) (t : LineReading) → ReadsTable g start t
    → Decided (CanWriteTexts g m places (table_read g t)) (TextWriteFails g m places (table_read g t))
write-decided g m places start t reads =
    decided-by
    (λ (b : Both (length (rest_by_texts g m places (table_read g t)) < length_limit (table_read g t).width)
    (Both (length (header_by_texts g m places (table_read g t)) < 256 ^ width_size (table_read g t).width)
    (Both (Each (TextFits g places (table_read g t).width) (table_read g t).texts) (DefinedStay m (take t.header.end g.bytes) t.defined)))).
    record {
      table = b.first;
      header = b.second.first;
      offsets = λ x place here apart is. each-contained (TextFits g places (table_read g t).width) (table_read g t).texts x here b.second.second.first place apart is;
      defined = b.second.second.second;
    })
    (decided-both
    (decided-below (length (rest_by_texts g m places (table_read g t))) (length_limit (table_read g t).width)
    (at TooWide g.number (length_field (table_read g t).start (table_read g t).width)) text_table) (λ first.
    decided-both
    (decided-below (length (header_by_texts g m places (table_read g t))) (256 ^ width_size (table_read g t).width)
    (at TooWide g.number (header_length_place (table_read g t).start (table_read g t).width (table_read g t).version)) text_header) (λ second.
    decided-both
    (decided-list {P = TextFits g places (table_read g t).width} {F = TextWriteFails g m places (table_read g t)} (table_read g t).texts (text-known g m places t)) (λ third.
    program-decided g m places start t reads))))

-- ### Addends

makes-known : (o : Option Relocation) (size n : ℕ) → Makes o size n ⊎ Misses o size n
makes-known None size n = inl tt
makes-known (Some r) size n = by r.addend refl
  where
    by : (a : Option ℤ) → r.addend ≡ a → AddendMakes a r size n ⊎ Misses (Some r) size n
    by None e = inl tt
    by (Some a) e = elim (cases_eq (wrapped (pos (symbol_value r.target) +ℤ moved_addend r n) size) n) [
      | inl same ↦ inl same
      | inr other ↦ inr (record { relocation = r; addend = a; begins = refl; own = e; other = other })
    ]

piece-known : {S : Type 0} (role : Piece S → Role) (changes : TableChanges) (around : Around) (xs : List (Piece S)) (x : Piece S) → Among xs x
    → MakesRole (role x) changes around x.cells ⊎ PieceMisses role changes around xs x
piece-known {S} role changes around xs x a = by (new_offset (role x) changes around x.cells) refl
  where
    by_makes : (n : ℕ) → new_offset (role x) changes around x.cells ≡ Some n → Makes (first_relocation x.cells) (length x.cells) n ⊎ Misses (first_relocation x.cells) (length x.cells) n
        → MakesNew (Some n) x.cells ⊎ PieceMisses role changes around xs x
    by_makes n e (inl makes) = inl makes
    by_makes n e (inr misses) = inr (record { before = a.before; behind = a.behind; among = a.is; place = n; put = e; misses = misses })

    by : (o : Option ℕ) → new_offset (role x) changes around x.cells ≡ o → MakesNew o x.cells ⊎ PieceMisses role changes around xs x
    by None e = inl tt
    by (Some n) e = by_makes n e (makes-known (first_relocation x.cells) (length x.cells) n)

-- the texts of line tables
text-makes : (g : LineSource) (places : LineText → Option ℕ) (t : LineReading) (x : LineText) → Among (table_read g t).texts x
    → MakesPath g (table_read g t).width x.place (place_of places x) (x.place.section == g.number) ⊎ TextMisses g places t x
text-makes g places t x a = by (place_of places x) refl (x.place.section == g.number) refl
  where
    by_makes : (n : ℕ) → place_of places x ≡ Some n → (x.place.section == g.number) ≡ false
        → Makes (relocation_at g.cells x.place.field) (width_size (table_read g t).width) n ⊎ Misses (relocation_at g.cells x.place.field) (width_size (table_read g t).width) n
        → MakesPath g (table_read g t).width x.place (Some n) false ⊎ TextMisses g places t x
    by_makes n e f (inl makes) = inl makes
    by_makes n e f (inr misses) = inr (record { before = a.before; behind = a.behind; among = a.is; named = f; place = n; put = e; misses = misses })

    by : (o : Option ℕ) → place_of places x ≡ o → (b : Bool) → (x.place.section == g.number) ≡ b
        → MakesPath g (table_read g t).width x.place o b ⊎ TextMisses g places t x
    by None e b f = inl tt
    by (Some n) e true f = inl tt
    by (Some n) e false f = by_makes n e f (makes-known (relocation_at g.cells x.place.field) (width_size (table_read g t).width) n)

-- what holds of each text holds of the texts of a table, and of each table of all
abbrev OneTextMakes : LineSource → (LineText → Option ℕ) → Width → LineText → Type 0
OneTextMakes g places width x = MakesPath g width x.place (place_of places x) (x.place.section == g.number)

texts-make : (g : LineSource) (places : LineText → Option ℕ) (width : Width) (xs : List LineText) → Each (OneTextMakes g places width) xs → EachTextMakes g places width xs
texts-make g places width [] h = tt
texts-make g places width (x ∷ xs) h = (h.0, texts-make g places width xs h.1)

abbrev OneTableMakes : LineSource → (LineText → Option ℕ) → LineReading → Type 0
OneTableMakes g places t = EachTextMakes g places (table_read g t).width (table_read g t).texts

tables-make : (g : LineSource) (places : LineText → Option ℕ) (ts : List LineReading) → Each (OneTableMakes g places) ts → EachTextsMake g places ts
tables-make g places [] h = tt
tables-make g places (t ∷ ts) h = (h.0, tables-make g places ts h.1)

lines-make : (changes : TableChanges) (d : DebugData) (around : Around) (r : DataReadings)
    → Decided (EachTextsMake (line_source d) (places_by changes d) r.lines) (AddendsFail changes d around r)
lines-make changes d around r =
    decided-by (tables-make (line_source d) (places_by changes d) r.lines)
    (decided-list {P = OneTableMakes (line_source d) (places_by changes d)} {F = AddendsFail changes d around r} r.lines
    (λ (t : LineReading) (a : Among r.lines t).
    decided-by (texts-make (line_source d) (places_by changes d) (table_read (line_source d) t).width (table_read (line_source d) t).texts)
    (decided-list {P = OneTextMakes (line_source d) (places_by changes d) (table_read (line_source d) t).width} {F = AddendsFail changes d around r} (table_read (line_source d) t).texts
    (λ (x : LineText) (b : Among (table_read (line_source d) t).texts x).
    decided-or (text-makes (line_source d) (places_by changes d) t x b) (at TooWide (d.found Line).number x.place.field)
    (λ misses. in_lines a.before a.behind t x a.is misses)))))

abbrev UnitMakes : TableChanges → Around → Piece UnitState → Type 0
UnitMakes changes around x = MakesRole (role_of x) changes around x.cells

abbrev SlotMakes : TableChanges → Around → Piece OffsetState → Type 0
SlotMakes changes around x = MakesRole (slot_role (path_slots around) x.state) changes around x.cells

abbrev MacroMakes : TableChanges → Around → Piece MacroState → Type 0
MacroMakes changes around x = MakesRole (macro_role x.state) changes around x.cells

abbrev NameMakes : TableChanges → Around → Piece NameState → Type 0
NameMakes changes around x = MakesRole (name_role x.state) changes around x.cells

pub addends-decided : (changes : TableChanges) (d : DebugData) (around : Around) (r : DataReadings) → Decided (AddendsFit changes d around r) (AddendsFail changes d around r)
addends-decided changes d around r =
    decided-by
    (λ (b : Both (EachReading (UnitMakes changes around) r.units) (Both (EachPiece (SlotMakes changes around) r.offsets) (Both (EachMacro (MacroMakes changes around) r.macros)
    (Both (EachPiece (NameMakes changes around) r.names) (EachTextsMake (line_source d) (places_by changes d) r.lines))))).
    record { units = b.first; slots = b.second.first; macros = b.second.second.first; names = b.second.second.second.first; lines = b.second.second.second.second })
    (decided-both
    (decided-readings {P = UnitMakes changes around} {F = AddendsFail changes d around r} r.units
    (λ (q : Reading) (a : Among r.units q) (x : Piece UnitState) (b : Among q.pieces x).
    decided-or (piece-known role_of changes around q.pieces x b) (at TooWide q.number x.state.place) (λ misses. in_unit a.before a.behind q x a.is misses))) (λ u.
    decided-both
    (decided-pieces {P = SlotMakes changes around} {F = AddendsFail changes d around r} r.offsets
    (λ (x : Piece OffsetState) (b : Among r.offsets x).
    decided-or (piece-known (λ (y : Piece OffsetState). slot_role (path_slots around) y.state) changes around r.offsets x b) (at TooWide (d.found StrOffsets).number x.state.place)
    (λ misses. in_slots x misses))) (λ s.
    decided-both
    (decided-macros {P = MacroMakes changes around} {F = AddendsFail changes d around r} r.macros
    (λ (q : MacroReading) (a : Among r.macros q) (x : Piece MacroState) (b : Among q.pieces x).
    decided-or (piece-known (λ (y : Piece MacroState). macro_role y.state) changes around q.pieces x b) (at TooWide q.number x.state.place)
    (λ misses. in_macros a.before a.behind q x a.is misses))) (λ m.
    decided-both
    (decided-pieces {P = NameMakes changes around} {F = AddendsFail changes d around r} r.names
    (λ (x : Piece NameState) (b : Among r.names x).
    decided-or (piece-known (λ (y : Piece NameState). name_role y.state) changes around r.names x b) (at TooWide (d.found Names).number x.state.place) (λ misses. in_names x misses))) (λ n.
    lines-make changes d around r)))))
