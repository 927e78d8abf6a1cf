-- The addends of the sections of units, of string offsets, of macro units and of name tables make all new offsets where the code found that they do;
-- and the row of a field whose addend doesn't is a row of the edit.
use Rattle.std.proofs.Common.{Bool, ◌≡◌, ◌⊎◌, inl, inr, ℕ, zero, suc, ◌+◌, ◌<◌, List, [], ◌∷◌, ◌++◌, length, get_or, Option, Some, None, refl, sym, ap, ◌∙◌, subst, arith, append_assoc}
use Rattle.std.specs.Bool.{⊤}
use Rattle.dw_base.specs.Cells.{CellSection}
use Rattle.dw_base.specs.DebugData.{DataReadings, ReadsAll, around_of, path_slots, units_in}
use Rattle.dw_base.specs.DebugSections.{name_of}
use Rattle.dw_base.specs.FileViews.{View, section_named, view_cells}
use Rattle.dw_base.specs.MacroPieces.{ReadsMacros, at_unit, macros_at}
use Rattle.dw_base.specs.MacroReadings.{EachMacro, MacroReading, ReadsAllMacros}
use Rattle.dw_base.specs.NamePieces.{ReadsNames}
use Rattle.dw_base.specs.OffsetPieces.{ReadsOffsets}
use Rattle.dw_base.specs.Paths.{PathMap}
use Rattle.dw_base.specs.Pieces.{EachPiece, joined}
use Rattle.dw_base.specs.Readings.{EachReading, Reading, Readings}
use Rattle.dw_base.specs.Refusals.{at}
use Rattle.dw_base.specs.Roles.{role_of}
use Rattle.dw_base.specs.SectionTexts.{macro_role, name_role, slot_role}
use Rattle.dw_base.specs.StringTables.{TextTable}
use Rattle.dw_base.specs.TextChanges.{TableChanges}
use Rattle.dw_base.specs.UnitHeaders.{UnitSection}
use Rattle.dw_base.specs.UnitPieces.{ReadsUnits}
use Rattle.dw_base.specs.UnitStates.{before_unit}
use Rattle.dw_base.specs.ViewData.{cells_located, debug_data}
use Rattle.dw_base.specs.declared.debug_sections.DebugSection.TheVariants.{Info, Str, LineStr, StrOffsets, Line, Macro, Names}
use Rattle.dw_base.specs.declared.fault.Kind.TheVariants.{TooWide}
use Rattle.dw_base.specs.declared.fault.Refusal.{Refusal}
use Rattle.dw_offsets.specs.declared.fields.OffsetField.{OffsetField}
use Rattle.dw_base.specs.declared.texts.TextSection.TheVariants.{InStr, InLineStr}
use Rattle.dw_meaning.specs.DataOutput.{changes_of, table_change}
use Rattle.dw_meaning.specs.NewAddends.{AddendsFail, MakesRole}
use Rattle.dw_meaning.specs.NewAddends.AddendsFail.{in_unit, in_slots, in_macros, in_names}
use Rattle.dw_meaning.proofs.MacroPieceLaws.{CellsOf}
use Rattle.dw_read.specs.MacroFields.{macro_starts, macro_texts, macros_read, macros_with}
use Rattle.dw_read.specs.SlotPaths.{offset_fields, read_fields, slots_by, slots_read, slots_with}
use Rattle.dw_unit_fields.specs.SectionFields.{SectionFields, paths_in, paths_of, fields_into}
use Rattle.dw_unit_fields.specs.ViewFields.{AllHaveOffsets, AllHavePlaces, HasOffsets, HasPlaces}
use Rattle.dw_read.specs.NameSections.{names_read, names_texts}
use Rattle.dw_starts.proofs.MacroNumberLaws.{AllCells}
use Rattle.dw_read.proofs.MacroHaveLaws.{line-texts}
use Rattle.dw_read.proofs.NameHaveLaws.{line-names, names-in, names-of}
use Rattle.dw_starts.proofs.MacroStartLaws.{all-cells}
use Rattle.dw_read.proofs.OffsetPlaceLaws.{offsets-in, offsets-of}
use Rattle.dw_unit_fields.proofs.PlaceValueLaws.{EachOf}
use Rattle.dw_unit_fields.proofs.PlacedLaws.{PlacedCells, placed-cells}
use Rattle.dw_unit_fields.proofs.SectionFactLaws.{own-section}
use Rattle.dw_read.proofs.SlotPlaceLaws.{line-fields}
use Rattle.dw_rewrite.specs.Changes.{AreNoted, FieldSource, Knows, offset_at}
use Rattle.dw_rewrite.specs.NewOffsets.{asked}
use Rattle.dw_rewrite.specs.NewTables.{Growing, IsSectionNoted, source_in, starts_in}
use Rattle.dw_rewrite.specs.OffsetAddends.{AllMake, AllMiss, FieldMakes, FieldMisses, FieldsMake, SectionMakes, SectionMisses}
use Rattle.dw_rewrite.specs.OffsetAddends.AllMiss.{one_section}
use Rattle.dw_rewrite.specs.OffsetAddends.SectionMisses.{in_str_field, in_line_str_field, in_start_field}
use Rattle.dw_rewrite.specs.UnitsAfter.{text_source}
use Rattle.dw_rewrite.proofs.LineKnownLaws.{known-asked}
use Rattle.dw_rewrite.proofs.MovedRecordLaws.{asked_in}
use Rattle.dw_rewrite.proofs.NewBodyLaws.{starts_after}
use Rattle.dw_rewrite.proofs.OffsetAddLaws.{section-sized}
use Rattle.dw_rewrite.proofs.PieceMakeLaws.{AnyMisses, PieceFails, any-of, line_str_asked, macro_piece_role, macro_place, make-macros, make-names, make-slots, make-units, miss-macros-start, miss-macros-str, miss-names, miss-slots, miss-units-line_str, miss-units-start, miss-units-str, name_piece_role, name_place, slot_piece_role, slot_place, unit_place}
use Rattle.dw_rewrite.proofs.NameWrittenLaws.{no-names}
use Rattle.dw_rewrite.proofs.SlotWrittenLaws.{no-offsets}

-- what is known is the same at each of these fields
abbrev pub SameKnown : FieldSource → (Bool → ℕ → Option ℕ) → (Bool → ℕ → Option ℕ) → List OffsetField → Type 0
SameKnown s k j [] = ⊤
SameKnown s k j (f ∷ fs) = (k f.path (offset_at s f) ≡ j f.path (offset_at s f)) × SameKnown s k j fs

same-asked : (m : PathMap) (s : FieldSource) (ts : List (List ℕ)) (fields : List OffsetField) (known : Bool → ℕ → Option ℕ) → Knows m s.table.bytes ts known
    → AreNoted s fields (length fields) known → SameKnown s known (asked ts m s.table.bytes) fields
same-asked m s ts [] known knows noted = tt
same-asked m s ts (f ∷ fs) known knows noted =
    let rest : AreNoted s fs (length fs) known =
    record { each = λ (k : ℕ) (d : OffsetField) (lt : k < length fs) (within : k < length fs). noted.each (suc k) d (omega arith) (omega arith) } in
    (known-asked m s.table.bytes ts known f.path (offset_at s f) knows (noted.each 0 f (omega arith) (omega arith)), same-asked m s ts fs known knows rest)

makes-same : (s : FieldSource) (k j : Bool → ℕ → Option ℕ) (fs : List OffsetField) → SameKnown s k j fs → FieldsMake s k fs → FieldsMake s j fs
makes-same s k j [] same h = tt
makes-same s k j (f ∷ fs) same h = (subst (FieldMakes s f) same.0 h.0, makes-same s k j fs same.1 h.1)

any-same : (s : FieldSource) (k j : Bool → ℕ → Option ℕ) (number : ℕ) (fs : List OffsetField) (r : Refusal) → SameKnown s k j fs → AnyMisses s k number fs r → AnyMisses s j number fs r
any-same s k j number [] r same h = absurd h
any-same s k j number (f ∷ fs) r same (inl h) = inl (subst (λ (o : Option ℕ). FieldMisses s number f o r) same.0 h)
any-same s k j number (f ∷ fs) r same (inr h) = inr (any-same s k j number fs r same.1 h)

-- the row of a section, by its lists of fields
abbrev pub AnyField : View → (Bool → ℕ → Option ℕ) → (Bool → ℕ → Option ℕ) → (Bool → ℕ → Option ℕ) → SectionFields → Refusal → Type 0
AnyField v ks kl kt u r =
    AnyMisses (source_in v u.number InStr) ks u.number (fields_into u Str) r ⊎ (AnyMisses (source_in v u.number InLineStr) kl u.number (fields_into u LineStr) r ⊎ AnyMisses (starts_in v u.number) kt u.number (fields_into u Line) r)

field-of : (v : View) (ks kl kt : Bool → ℕ → Option ℕ) (u : SectionFields) (r : Refusal) → SectionMisses v ks kl kt u r → AnyField v ks kl kt u r
field-of v ks kl kt u r (in_str_field h) = inl (any-of (source_in v u.number InStr) ks u.number (fields_into u Str) r h)
field-of v ks kl kt u r (in_line_str_field h) = inr (inl (any-of (source_in v u.number InLineStr) kl u.number (fields_into u LineStr) r h))
field-of v ks kl kt u r (in_start_field h) = inr (inr (any-of (starts_in v u.number) kt u.number (fields_into u Line) r h))

-- and of sections, by the list
abbrev pub AnySection : View → (Bool → ℕ → Option ℕ) → (Bool → ℕ → Option ℕ) → (Bool → ℕ → Option ℕ) → List SectionFields → Refusal → Type 0
AnySection v ks kl kt [] r = ⊥
AnySection v ks kl kt (u ∷ us) r = AnyField v ks kl kt u r ⊎ AnySection v ks kl kt us r

section-at : (v : View) (ks kl kt : Bool → ℕ → Option ℕ) (us : List SectionFields) (i : ℕ) (u : SectionFields) (r : Refusal) → i < length us → u ≡ get_or us i u → AnyField v ks kl kt u r
    → AnySection v ks kl kt us r
section-at v ks kl kt [] i u r lt is h = absurd (omega (arith, lt))
section-at v ks kl kt (w ∷ ws) zero u r lt is h = inl (subst (λ (x : SectionFields). AnyField v ks kl kt x r) is h)
section-at v ks kl kt (w ∷ ws) (suc i) u r lt is h = inr (section-at v ks kl kt ws i u r (omega (arith, lt)) is h)

pub section-of : (v : View) (ks kl kt : Bool → ℕ → Option ℕ) (us : List SectionFields) (r : Refusal) → AllMiss v ks kl kt us r → AnySection v ks kl kt us r
section-of v ks kl kt us r (one_section i u lt is h) = section-at v ks kl kt us i u _ lt is (field-of v ks kl kt u _ h)

-- parts of sections
pub all-parts : (v : View) (ks kl kt : Bool → ℕ → Option ℕ) (us ws : List SectionFields) → AllMake v ks kl kt (us ++ ws) → AllMake v ks kl kt us × AllMake v ks kl kt ws
all-parts v ks kl kt [] ws h = (tt, h)
all-parts v ks kl kt (u ∷ us) ws h = let rest = all-parts v ks kl kt us ws h.1 in ((h.0, rest.0), rest.1)

pub any-sections : (v : View) (ks kl kt : Bool → ℕ → Option ℕ) (us ws : List SectionFields) (r : Refusal) → AnySection v ks kl kt (us ++ ws) r
    → AnySection v ks kl kt us r ⊎ AnySection v ks kl kt ws r
any-sections v ks kl kt [] ws r h = inr h
any-sections v ks kl kt (u ∷ us) ws r (inl h) = inl (inl h)
any-sections v ks kl kt (u ∷ us) ws r (inr h) = by (any-sections v ks kl kt us ws r h)
  where
    by : AnySection v ks kl kt us r ⊎ AnySection v ks kl kt ws r → AnySection v ks kl kt (u ∷ us) r ⊎ AnySection v ks kl kt ws r
    by (inl x) = inl (inr x)
    by (inr x) = inr x

pub offsets-parts : (v : View) (us ws : List SectionFields) → AllHaveOffsets v (us ++ ws) → AllHaveOffsets v us × AllHaveOffsets v ws
offsets-parts v [] ws h = (tt, h)
offsets-parts v (u ∷ us) ws h = let rest = offsets-parts v us ws h.1 in ((h.0, rest.0), rest.1)

pub places-parts : (v : View) (us ws : List SectionFields) → AllHavePlaces v (us ++ ws) → AllHavePlaces v us × AllHavePlaces v ws
places-parts v [] ws h = (tt, h)
places-parts v (u ∷ us) ws h = let rest = places-parts v us ws h.1 in ((h.0, rest.0), rest.1)

-- what is known of new places is what paths ask for
section-known : (m : PathMap) (v : View) (ps pl : TextTable) (ks kl kt : Bool → ℕ → Option ℕ) (u : SectionFields) → Growing m v InStr ps ks → Growing m v InLineStr pl kl
    → IsSectionNoted v InStr u ks → IsSectionNoted v InLineStr u kl → SectionMakes v ks kl kt u
    → SectionMakes v (asked_in m v InStr ps.texts) (asked_in m v InLineStr pl.texts) kt u
section-known m v ps pl ks kl kt u gs gl ns nl h = record {
  str = makes-same (source_in v u.number InStr) ks (asked_in m v InStr ps.texts) (fields_into u Str)
      (same-asked m (source_in v u.number InStr) ps.texts (fields_into u Str) ks gs.knows ns) h.str;
  line_str = makes-same (source_in v u.number InLineStr) kl (asked_in m v InLineStr pl.texts) (fields_into u LineStr)
      (same-asked m (source_in v u.number InLineStr) pl.texts (fields_into u LineStr) kl gl.knows nl) h.line_str;
  starts = h.starts;
}

field-known : (m : PathMap) (v : View) (ps pl : TextTable) (ks kl kt : Bool → ℕ → Option ℕ) (u : SectionFields) (r : Refusal) → Growing m v InStr ps ks → Growing m v InLineStr pl kl
    → IsSectionNoted v InStr u ks → IsSectionNoted v InLineStr u kl → AnyField v ks kl kt u r
    → AnyField v (asked_in m v InStr ps.texts) (asked_in m v InLineStr pl.texts) kt u r
field-known m v ps pl ks kl kt u r gs gl ns nl (inl h) =
    inl (any-same (source_in v u.number InStr) ks (asked_in m v InStr ps.texts) u.number (fields_into u Str) r
    (same-asked m (source_in v u.number InStr) ps.texts (fields_into u Str) ks gs.knows ns) h)
field-known m v ps pl ks kl kt u r gs gl ns nl (inr (inl h)) =
    inr (inl (any-same (source_in v u.number InLineStr) kl (asked_in m v InLineStr pl.texts) u.number (fields_into u LineStr) r
    (same-asked m (source_in v u.number InLineStr) pl.texts (fields_into u LineStr) kl gl.knows nl) h))
field-known m v ps pl ks kl kt u r gs gl ns nl (inr (inr h)) = inr (inr h)

pub all-known : (m : PathMap) (v : View) (ps pl : TextTable) (ks kl kt : Bool → ℕ → Option ℕ) (us : List SectionFields) → Growing m v InStr ps ks → Growing m v InLineStr pl kl
    → EachOf (λ u. IsSectionNoted v InStr u ks) us → EachOf (λ u. IsSectionNoted v InLineStr u kl) us → AllMake v ks kl kt us
    → AllMake v (asked_in m v InStr ps.texts) (asked_in m v InLineStr pl.texts) kt us
all-known m v ps pl ks kl kt [] gs gl ns nl h = tt
all-known m v ps pl ks kl kt (u ∷ us) gs gl ns nl h =
    (section-known m v ps pl ks kl kt u gs gl ns.0 nl.0 h.0, all-known m v ps pl ks kl kt us gs gl ns.1 nl.1 h.1)

pub any-known : (m : PathMap) (v : View) (ps pl : TextTable) (ks kl kt : Bool → ℕ → Option ℕ) (us : List SectionFields) (r : Refusal) → Growing m v InStr ps ks → Growing m v InLineStr pl kl
    → EachOf (λ u. IsSectionNoted v InStr u ks) us → EachOf (λ u. IsSectionNoted v InLineStr u kl) us → AnySection v ks kl kt us r
    → AnySection v (asked_in m v InStr ps.texts) (asked_in m v InLineStr pl.texts) kt us r
any-known m v ps pl ks kl kt [] r gs gl ns nl h = absurd h
any-known m v ps pl ks kl kt (u ∷ us) r gs gl ns nl (inl h) = inl (field-known m v ps pl ks kl kt u r gs gl ns.0 nl.0 h)
any-known m v ps pl ks kl kt (u ∷ us) r gs gl ns nl (inr h) = inr (any-known m v ps pl ks kl kt us r gs gl ns.1 nl.1 h)

-- what paths ask for in an edit
abbrev pub str_after : PathMap → View → DataReadings → Bool → ℕ → Option ℕ
str_after m v all = asked_in m v InStr (table_change m InStr (around_of (debug_data v) all) all)

abbrev pub line_str_after : PathMap → View → DataReadings → Bool → ℕ → Option ℕ
line_str_after m v all = asked_in m v InLineStr (table_change m InLineStr (around_of (debug_data v) all) all)

abbrev pub edit_of : PathMap → View → DataReadings → TableChanges
edit_of m v all = changes_of m (around_of (debug_data v) all) all

-- the cells of a section of units that was read, and its pieces in it
reading-placed : (v : View) (before behind : List UnitSection) (z : UnitSection) (first : ℕ) (r : Reading) → (debug_data v).found Info ≡ before ++ z ∷ behind → r.number ≡ z.number
    → ReadsUnits (debug_data v).base z first r.pieces → PlacedCells (view_cells v r.number) 0 r.pieces
reading-placed v before behind z first r split number reads =
    let same : z.contents ≡ view_cells v r.number = (own-section v before behind z split).contents ∙ ap (view_cells v) (sym number) in
    placed-cells (debug_data v).base (view_cells v r.number) (before_unit z.number z.kind (length z.contents) 0 first) 0 r.pieces refl reads.chain (reads.cells ∙ same)

-- units
reading-makes : (m : PathMap) (v : View) (all : DataReadings) (r : Reading) → PlacedCells (view_cells v r.number) 0 r.pieces
    → SectionMakes v (str_after m v all) (line_str_after m v all) (starts_after m v all) (paths_in r)
    → EachPiece (λ x. MakesRole (role_of x) (edit_of m v all) (around_of (debug_data v) all) x.cells) r.pieces
unfolding table_change debug_data
reading-makes m v all r placed h =
    make-units (edit_of m v all) (around_of (debug_data v) all) (view_cells v r.number) r.pieces placed h.str h.line_str h.starts

pub readings-make : (m : PathMap) (v : View) (all : DataReadings) (before zs : List UnitSection) (first : ℕ) (rs : Readings) → (debug_data v).found Info ≡ before ++ zs
    → ReadsAll (debug_data v).base first zs rs → AllMake v (str_after m v all) (line_str_after m v all) (starts_after m v all) (paths_of rs)
    → EachReading (λ x. MakesRole (role_of x) (edit_of m v all) (around_of (debug_data v) all) x.cells) rs
readings-make m v all before [] first [] split reads h = tt
readings-make m v all before [] first (r ∷ rs) split reads h = absurd reads
readings-make m v all before (z ∷ zs) first [] split reads h = absurd reads
readings-make m v all before (z ∷ zs) first (r ∷ rs) split reads h = (
  reading-makes m v all r (reading-placed v before zs z first r split reads.0 reads.1) h.0,
  readings-make m v all (before ++ z ∷ []) zs (first + units_in r.pieces) rs (split ∙ sym (append_assoc before (z ∷ []) zs)) reads.2 h.1,
)

reading-misses : (m : PathMap) (v : View) (all : DataReadings) (r : Reading) (x : Refusal) → PlacedCells (view_cells v r.number) 0 r.pieces → HasOffsets v (paths_in r)
    → HasPlaces v (paths_in r) → AnyField v (str_after m v all) (line_str_after m v all) (starts_after m v all) (paths_in r) x
    → PieceFails role_of unit_place (edit_of m v all) (around_of (debug_data v) all) r.number r.pieces x
unfolding table_change debug_data
reading-misses m v all r x placed offsets places (inl h) =
    miss-units-str (edit_of m v all) (around_of (debug_data v) all) (view_cells v r.number) r.number r.pieces x placed (section-sized v (paths_in r) offsets places).0 h
reading-misses m v all r x placed offsets places (inr (inl h)) =
    miss-units-line_str (edit_of m v all) (around_of (debug_data v) all) (view_cells v r.number) r.number r.pieces x placed (section-sized v (paths_in r) offsets places).1 h
reading-misses m v all r x placed offsets places (inr (inr h)) =
    miss-units-start (edit_of m v all) (around_of (debug_data v) all) (view_cells v r.number) r.number r.pieces x placed (section-sized v (paths_in r) offsets places).2 h

unit-row : (m : PathMap) (v : View) (all : DataReadings) (front behind : Readings) (r : Reading) (x : Refusal) → all.units ≡ front ++ r ∷ behind
    → PieceFails role_of unit_place (edit_of m v all) (around_of (debug_data v) all) r.number r.pieces x
    → AddendsFail (edit_of m v all) (debug_data v) (around_of (debug_data v) all) all x
unit-row m v all front behind r x split h =
    subst (AddendsFail (edit_of m v all) (debug_data v) (around_of (debug_data v) all) all) (sym h.is) (in_unit front behind r h.piece split h.misses)

pub readings-miss : (m : PathMap) (v : View) (all : DataReadings) (before zs : List UnitSection) (first : ℕ) (front rs : Readings) (x : Refusal) → (debug_data v).found Info ≡ before ++ zs
    → ReadsAll (debug_data v).base first zs rs → all.units ≡ front ++ rs → AllHaveOffsets v (paths_of rs) → AllHavePlaces v (paths_of rs)
    → AnySection v (str_after m v all) (line_str_after m v all) (starts_after m v all) (paths_of rs) x
    → AddendsFail (edit_of m v all) (debug_data v) (around_of (debug_data v) all) all x
readings-miss m v all before zs first front [] x split reads are offsets places h = absurd h
readings-miss m v all before [] first front (r ∷ rs) x split reads are offsets places h = absurd reads
readings-miss m v all before (z ∷ zs) first front (r ∷ rs) x split reads are offsets places (inl h) =
    unit-row m v all front rs r x are (reading-misses m v all r x (reading-placed v before zs z first r split reads.0 reads.1) offsets.0 places.0 h)
readings-miss m v all before (z ∷ zs) first front (r ∷ rs) x split reads are offsets places (inr h) =
    readings-miss m v all (before ++ z ∷ []) zs (first + units_in r.pieces) (front ++ r ∷ []) rs x (split ∙ sym (append_assoc before (z ∷ []) zs)) reads.2
    (are ∙ sym (append_assoc front (r ∷ []) rs)) offsets.1 places.1 h

-- string offsets
slots-make-by : (m : PathMap) (v : View) (all : DataReadings) (o : Option ℕ) → ReadsOffsets v.order (cells_located v o).contents all.offsets
    → AllMake v (str_after m v all) (line_str_after m v all) (starts_after m v all) (slots_by o (read_fields (debug_data v) all))
    → EachPiece (λ x. MakesRole (slot_role (path_slots (around_of (debug_data v) all)) x.state) (edit_of m v all) (around_of (debug_data v) all) x.cells) all.offsets
unfolding table_change debug_data
slots-make-by m v all None reads h =
    subst (EachPiece (λ x. MakesRole (slot_role (path_slots (around_of (debug_data v) all)) x.state) (edit_of m v all) (around_of (debug_data v) all) x.cells))
    (sym (no-offsets v.order all.offsets reads)) tt
slots-make-by m v all (Some i) reads h =
    let none : offset_fields InLineStr (path_slots (around_of (debug_data v) all)) all.offsets ≡ [] = line-fields (path_slots (around_of (debug_data v) all)) all.offsets in
    make-slots (edit_of m v all) (around_of (debug_data v) all) (view_cells v i) (path_slots (around_of (debug_data v) all)) all.offsets (offsets-in v (Some i) all.offsets reads)
    h.0.str (subst (FieldsMake (text_source (around_of (debug_data v) all) (view_cells v i) InLineStr) (line_str_asked (edit_of m v all) (around_of (debug_data v) all))) (sym none) tt)

pub slots-make : (m : PathMap) (v : View) (all : DataReadings) → ReadsOffsets (debug_data v).base.order ((debug_data v).found StrOffsets).contents all.offsets
    → AllMake v (str_after m v all) (line_str_after m v all) (starts_after m v all) (slots_read v all)
    → EachPiece (λ x. MakesRole (slot_role (path_slots (around_of (debug_data v) all)) x.state) (edit_of m v all) (around_of (debug_data v) all) x.cells) all.offsets
slots-make m v all reads h = slots-make-by m v all (section_named v (name_of StrOffsets)) (offsets-of v all.offsets reads) h

slots-miss-by : (m : PathMap) (v : View) (all : DataReadings) (o : Option ℕ) (x : Refusal) → ((debug_data v).found StrOffsets).number ≡ (cells_located v o).number
    → ReadsOffsets v.order (cells_located v o).contents all.offsets → AllHaveOffsets v (slots_by o (read_fields (debug_data v) all))
    → AllHavePlaces v (slots_by o (read_fields (debug_data v) all))
    → AnySection v (str_after m v all) (line_str_after m v all) (starts_after m v all) (slots_by o (read_fields (debug_data v) all)) x
    → AddendsFail (edit_of m v all) (debug_data v) (around_of (debug_data v) all) all x
unfolding table_change debug_data
slots-miss-by m v all None x number reads offsets places h = absurd h
slots-miss-by m v all (Some i) x number reads offsets places (inr h) = absurd h
slots-miss-by m v all (Some i) x number reads offsets places (inl (inr (inl h))) = absurd h
slots-miss-by m v all (Some i) x number reads offsets places (inl (inr (inr h))) = absurd h
slots-miss-by m v all (Some i) x number reads offsets places (inl (inl h)) =
    let fails : PieceFails (slot_piece_role (path_slots (around_of (debug_data v) all))) slot_place (edit_of m v all) (around_of (debug_data v) all) i all.offsets x =
    miss-slots (edit_of m v all) (around_of (debug_data v) all) (view_cells v i) (path_slots (around_of (debug_data v) all)) i all.offsets x (offsets-in v (Some i) all.offsets reads)
    (section-sized v (slots_with i (read_fields (debug_data v) all)) offsets.0 places.0).0 h in
    subst (AddendsFail (edit_of m v all) (debug_data v) (around_of (debug_data v) all) all)
    (sym (fails.is ∙ ap (λ (n : ℕ). at TooWide n fails.piece.state.place) (sym number))) (in_slots fails.piece fails.misses)

pub slots-miss : (m : PathMap) (v : View) (all : DataReadings) (x : Refusal) → ReadsOffsets (debug_data v).base.order ((debug_data v).found StrOffsets).contents all.offsets
    → AllHaveOffsets v (slots_read v all) → AllHavePlaces v (slots_read v all) → AnySection v (str_after m v all) (line_str_after m v all) (starts_after m v all) (slots_read v all) x
    → AddendsFail (edit_of m v all) (debug_data v) (around_of (debug_data v) all) all x
unfolding debug_data
slots-miss m v all x reads offsets places h =
    slots-miss-by m v all (section_named v (name_of StrOffsets)) x refl (offsets-of v all.offsets reads) offsets places h

-- macro units
macro-makes : (m : PathMap) (v : View) (all : DataReadings) (z : CellSection) (r : MacroReading) → CellsOf v z.number z.contents → r.number ≡ z.number
    → ReadsMacros (debug_data v).base.order z.contents r.pieces
    → SectionMakes v (str_after m v all) (line_str_after m v all) (starts_after m v all) (macros_with r.number (macro_starts r.pieces) (macro_texts InStr r.pieces))
    → EachPiece (λ x. MakesRole (macro_role x.state) (edit_of m v all) (around_of (debug_data v) all) x.cells) r.pieces
unfolding table_change debug_data
macro-makes m v all z r of number reads h =
    let cells : joined r.pieces ≡ view_cells v r.number = reads.cells ∙ of.same ∙ ap (view_cells v) (sym number) in
    make-macros (edit_of m v all) (around_of (debug_data v) all) (debug_data v).base.order (view_cells v r.number) (macros_at 0 at_unit) r.pieces refl reads.chain cells h.str
    (subst (FieldsMake (text_source (around_of (debug_data v) all) (view_cells v r.number) InLineStr) (line_str_asked (edit_of m v all) (around_of (debug_data v) all)))
    (sym (line-texts r.pieces)) tt) h.starts

macros-make-by : (m : PathMap) (v : View) (all : DataReadings) (zs : List CellSection) (rs : List MacroReading) → AllCells v zs → ReadsAllMacros (debug_data v).base.order zs rs
    → AllMake v (str_after m v all) (line_str_after m v all) (starts_after m v all) (macros_read rs)
    → EachMacro (λ x. MakesRole (macro_role x.state) (edit_of m v all) (around_of (debug_data v) all) x.cells) rs
macros-make-by m v all [] [] cells reads h = tt
macros-make-by m v all [] (r ∷ rs) cells reads h = absurd reads
macros-make-by m v all (z ∷ zs) [] cells reads h = absurd reads
macros-make-by m v all (z ∷ zs) (r ∷ rs) cells reads h =
    (macro-makes m v all z r cells.0 reads.0 reads.1 h.0, macros-make-by m v all zs rs cells.1 reads.2 h.1)

pub macros-make : (m : PathMap) (v : View) (all : DataReadings) → ReadsAllMacros (debug_data v).base.order ((debug_data v).found Macro) all.macros
    → AllMake v (str_after m v all) (line_str_after m v all) (starts_after m v all) (macros_read all.macros)
    → EachMacro (λ x. MakesRole (macro_role x.state) (edit_of m v all) (around_of (debug_data v) all) x.cells) all.macros
macros-make m v all reads h = macros-make-by m v all ((debug_data v).found Macro) all.macros (all-cells v) reads h

macro-misses : (m : PathMap) (v : View) (all : DataReadings) (z : CellSection) (r : MacroReading) (x : Refusal) → CellsOf v z.number z.contents → r.number ≡ z.number
    → ReadsMacros (debug_data v).base.order z.contents r.pieces → HasOffsets v (macros_with r.number (macro_starts r.pieces) (macro_texts InStr r.pieces))
    → HasPlaces v (macros_with r.number (macro_starts r.pieces) (macro_texts InStr r.pieces))
    → AnyField v (str_after m v all) (line_str_after m v all) (starts_after m v all) (macros_with r.number (macro_starts r.pieces) (macro_texts InStr r.pieces)) x
    → PieceFails macro_piece_role macro_place (edit_of m v all) (around_of (debug_data v) all) r.number r.pieces x
unfolding table_change debug_data
macro-misses m v all z r x of number reads offsets places (inl h) =
    let cells : joined r.pieces ≡ view_cells v r.number = reads.cells ∙ of.same ∙ ap (view_cells v) (sym number) in
    miss-macros-str (edit_of m v all) (around_of (debug_data v) all) (debug_data v).base.order (view_cells v r.number) (macros_at 0 at_unit) r.number r.pieces x refl reads.chain cells
    (section-sized v (macros_with r.number (macro_starts r.pieces) (macro_texts InStr r.pieces)) offsets places).0 h
macro-misses m v all z r x of number reads offsets places (inr (inl h)) = absurd h
macro-misses m v all z r x of number reads offsets places (inr (inr h)) =
    let cells : joined r.pieces ≡ view_cells v r.number = reads.cells ∙ of.same ∙ ap (view_cells v) (sym number) in
    miss-macros-start (edit_of m v all) (around_of (debug_data v) all) (debug_data v).base.order (view_cells v r.number) (macros_at 0 at_unit) r.number r.pieces x refl reads.chain cells
    (section-sized v (macros_with r.number (macro_starts r.pieces) (macro_texts InStr r.pieces)) offsets places).2 h

macro-row : (m : PathMap) (v : View) (all : DataReadings) (front behind : List MacroReading) (r : MacroReading) (x : Refusal) → all.macros ≡ front ++ r ∷ behind
    → PieceFails macro_piece_role macro_place (edit_of m v all) (around_of (debug_data v) all) r.number r.pieces x
    → AddendsFail (edit_of m v all) (debug_data v) (around_of (debug_data v) all) all x
macro-row m v all front behind r x split h =
    subst (AddendsFail (edit_of m v all) (debug_data v) (around_of (debug_data v) all) all) (sym h.is) (in_macros front behind r h.piece split h.misses)

macros-miss-by : (m : PathMap) (v : View) (all : DataReadings) (zs : List CellSection) (front rs : List MacroReading) (x : Refusal) → AllCells v zs
    → ReadsAllMacros (debug_data v).base.order zs rs → all.macros ≡ front ++ rs → AllHaveOffsets v (macros_read rs) → AllHavePlaces v (macros_read rs)
    → AnySection v (str_after m v all) (line_str_after m v all) (starts_after m v all) (macros_read rs) x
    → AddendsFail (edit_of m v all) (debug_data v) (around_of (debug_data v) all) all x
macros-miss-by m v all zs front [] x cells reads are offsets places h = absurd h
macros-miss-by m v all [] front (r ∷ rs) x cells reads are offsets places h = absurd reads
macros-miss-by m v all (z ∷ zs) front (r ∷ rs) x cells reads are offsets places (inl h) =
    macro-row m v all front rs r x are (macro-misses m v all z r x cells.0 reads.0 reads.1 offsets.0 places.0 h)
macros-miss-by m v all (z ∷ zs) front (r ∷ rs) x cells reads are offsets places (inr h) =
    macros-miss-by m v all zs (front ++ r ∷ []) rs x cells.1 reads.2 (are ∙ sym (append_assoc front (r ∷ []) rs)) offsets.1 places.1 h

pub macros-miss : (m : PathMap) (v : View) (all : DataReadings) (x : Refusal) → ReadsAllMacros (debug_data v).base.order ((debug_data v).found Macro) all.macros
    → AllHaveOffsets v (macros_read all.macros) → AllHavePlaces v (macros_read all.macros)
    → AnySection v (str_after m v all) (line_str_after m v all) (starts_after m v all) (macros_read all.macros) x
    → AddendsFail (edit_of m v all) (debug_data v) (around_of (debug_data v) all) all x
macros-miss m v all x reads offsets places h = macros-miss-by m v all ((debug_data v).found Macro) [] all.macros x (all-cells v) reads refl offsets places h

-- name tables
names-make-by : (m : PathMap) (v : View) (all : DataReadings) (o : Option ℕ) → ReadsNames v.order (cells_located v o).contents all.names
    → AllMake v (str_after m v all) (line_str_after m v all) (starts_after m v all) (slots_by o (names_texts InStr all.names))
    → EachPiece (λ x. MakesRole (name_role x.state) (edit_of m v all) (around_of (debug_data v) all) x.cells) all.names
unfolding table_change debug_data
names-make-by m v all None reads h =
    subst (EachPiece (λ x. MakesRole (name_role x.state) (edit_of m v all) (around_of (debug_data v) all) x.cells)) (sym (no-names v.order all.names reads)) tt
names-make-by m v all (Some i) reads h =
    make-names (edit_of m v all) (around_of (debug_data v) all) (view_cells v i) all.names (names-in v (Some i) all.names reads) h.0.str
    (subst (FieldsMake (text_source (around_of (debug_data v) all) (view_cells v i) InLineStr) (line_str_asked (edit_of m v all) (around_of (debug_data v) all))) (sym (line-names all.names)) tt)

pub names-make : (m : PathMap) (v : View) (all : DataReadings) → ReadsNames (debug_data v).base.order ((debug_data v).found Names).contents all.names
    → AllMake v (str_after m v all) (line_str_after m v all) (starts_after m v all) (names_read v all)
    → EachPiece (λ x. MakesRole (name_role x.state) (edit_of m v all) (around_of (debug_data v) all) x.cells) all.names
names-make m v all reads h = names-make-by m v all (section_named v (name_of Names)) (names-of v all.names reads) h

names-miss-by : (m : PathMap) (v : View) (all : DataReadings) (o : Option ℕ) (x : Refusal) → ((debug_data v).found Names).number ≡ (cells_located v o).number
    → ReadsNames v.order (cells_located v o).contents all.names → AllHaveOffsets v (slots_by o (names_texts InStr all.names)) → AllHavePlaces v (slots_by o (names_texts InStr all.names))
    → AnySection v (str_after m v all) (line_str_after m v all) (starts_after m v all) (slots_by o (names_texts InStr all.names)) x
    → AddendsFail (edit_of m v all) (debug_data v) (around_of (debug_data v) all) all x
unfolding table_change debug_data
names-miss-by m v all None x number reads offsets places h = absurd h
names-miss-by m v all (Some i) x number reads offsets places (inr h) = absurd h
names-miss-by m v all (Some i) x number reads offsets places (inl (inr (inl h))) = absurd h
names-miss-by m v all (Some i) x number reads offsets places (inl (inr (inr h))) = absurd h
names-miss-by m v all (Some i) x number reads offsets places (inl (inl h)) =
    let fails : PieceFails name_piece_role name_place (edit_of m v all) (around_of (debug_data v) all) i all.names x =
    miss-names (edit_of m v all) (around_of (debug_data v) all) (view_cells v i) i all.names x (names-in v (Some i) all.names reads)
    (section-sized v (slots_with i (names_texts InStr all.names)) offsets.0 places.0).0 h in
    subst (AddendsFail (edit_of m v all) (debug_data v) (around_of (debug_data v) all) all)
    (sym (fails.is ∙ ap (λ (n : ℕ). at TooWide n fails.piece.state.place) (sym number))) (in_names fails.piece fails.misses)

pub names-miss : (m : PathMap) (v : View) (all : DataReadings) (x : Refusal) → ReadsNames (debug_data v).base.order ((debug_data v).found Names).contents all.names
    → AllHaveOffsets v (names_read v all) → AllHavePlaces v (names_read v all) → AnySection v (str_after m v all) (line_str_after m v all) (starts_after m v all) (names_read v all) x
    → AddendsFail (edit_of m v all) (debug_data v) (around_of (debug_data v) all) all x
unfolding debug_data
names-miss m v all x reads offsets places h =
    names-miss-by m v all (section_named v (name_of Names)) x refl (names-of v all.names reads) offsets places h
