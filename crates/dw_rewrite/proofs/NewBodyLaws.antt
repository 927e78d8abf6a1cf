-- The new bodies are those of the readings of debug data.
use Rattle.std.proofs.Common.{Bool, ◌≡◌, ℕ, suc, ◌+◌, ◌<◌, List, [], ◌∷◌, ◌++◌, length, get_or, Option, Some, None, refl, sym, ap, ◌∙◌, arith, append_assoc}
use Rattle.dw_base.specs.Cells.{Cell, bytes_of}
use Rattle.dw_base.specs.DebugSections.{name_of}
use Rattle.dw_base.specs.OffsetPieces.{OffsetState, ReadsOffsets}
use Rattle.dw_base.specs.SectionTexts.{edited_with, mentions_with, slot_role}
use Rattle.dw_base.specs.declared.debug_sections.DebugSection.TheVariants.{Info, Str, LineStr, StrOffsets, Line}
use Rattle.dw_base.proofs.TableLaws.{texts_after-append}
use Rattle.dw_base.proofs.ViewCellLaws.{bytes_of-view_cells}
use Rattle.dw_meaning.specs.DataOutput.{Body, cells_body, table_change, changes_of, offsets_after, unit_body, unit_bodies}
use Rattle.dw_base.specs.DebugData.{DebugData, DataReadings, Around, around_of, path_slots, units_in, ReadsAll}
use Rattle.dw_base.specs.Readings.{Reading, Readings, EachReading}
use Rattle.dw_base.specs.FileViews.{View, section_bytes, section_named, view_cells}
use Rattle.dw_base.specs.Paths.{PathMap}
use Rattle.dw_base.specs.Pieces.{Piece, joined, EachPiece}
use Rattle.dw_base.specs.StringTables.{TextTable, texts_after}
use Rattle.dw_base.specs.TextChanges.{mentions_of, all_mentions, edited_all, InlineFits}
use Rattle.dw_base.specs.UnitHeaders.{UnitSection}
use Rattle.dw_base.specs.UnitPieces.{ReadsUnits}
use Rattle.dw_base.specs.UnitStates.{UnitState, before_unit}
use Rattle.dw_base.specs.ViewData.{cells_located, debug_data}
use Rattle.dw_offsets.specs.declared.fields.OffsetField.{OffsetField}
use Rattle.dw_base.specs.declared.texts.TextSection.{TextSection}
use Rattle.dw_base.specs.declared.texts.TextSection.TheVariants.{InStr, InLineStr}
use Rattle.dw_rewrite.specs.PushedBodies.{one_body}
use Rattle.dw_read.specs.SlotPaths.{offset_fields, read_fields, slots_by, slots_read, slots_with}
use Rattle.dw_read.proofs.SlotPlaceLaws.{line-fields}
use Rattle.dw_rewrite.proofs.SlotWrittenLaws.{no-offsets, slots_written, texts_by_slots}
use Rattle.dw_rewrite.specs.Changes.{FieldSource, patched, texts_at, with_all_known}
use Rattle.dw_unit_fields.specs.ViewFields.{fields_of, info_of}
use Rattle.dw_rewrite.specs.NewTables.{section_texts_at, all_texts_at, IsSectionNoted, Growing, TableMade, section_after, body_after, bodies_after, section_known, bodies_known, source_in, starts_in}
use Rattle.dw_unit_fields.specs.SectionFields.{SectionFields, piece_fields, inline_paths, paths_in, paths_of, start_fields, fields_into}
use Rattle.dw_rewrite.specs.UnitsAfter.{inlined, text_source}
use Rattle.dw_rewrite.proofs.ChangedLaws.{put_is_patched}
use Rattle.dw_rewrite.proofs.EditedLaws.{texts_by_fields}
use Rattle.dw_unit_fields.proofs.PlaceValueLaws.{EachOf}
use Rattle.dw_unit_fields.proofs.PlacedLaws.{PlacedCells, placed-cells}
use Rattle.dw_unit_fields.proofs.SectionFactLaws.{own-section}
use Rattle.dw_rewrite.proofs.UnitWrittenLaws.{pieces_written, starts_by}
use Rattle.dw_read.proofs.OffsetPlaceLaws.{offsets-in, offsets-of}

-- the cells of a section that was read
reading-cells : (v : View) (before behind : List UnitSection) (z : UnitSection) (r : Reading) → (debug_data v).found Info ≡ before ++ z ∷ behind → r.number ≡ z.number
    → z.contents ≡ view_cells v r.number
reading-cells v before behind z r split number = (own-section v before behind z split).contents ∙ ap (view_cells v) (sym number)

-- its pieces stand in it
reading-placed : (d : DebugData) (z : UnitSection) (first : ℕ) (xs : List (Piece UnitState)) (cells : List Cell) → ReadsUnits d.base z first xs → z.contents ≡ cells
    → PlacedCells cells 0 xs
reading-placed d z first xs cells r same =
    placed-cells d.base cells (before_unit z.number z.kind (length z.contents) 0 first) 0 xs refl r.chain (r.cells ∙ same)

-- the tables around readings
pub same-source : (v : View) (rs : DataReadings) (section : ℕ) (table : TextSection) → text_source (around_of (debug_data v) rs) (view_cells v section) table ≡ source_in v section table
unfolding debug_data
same-source v rs section InStr = refl
same-source v rs section InLineStr = refl

same-fields : (table : TextSection) (r : Reading) → piece_fields table r.pieces ≡ fields_of table (paths_in r)
same-fields InStr r = refl
same-fields InLineStr r = refl

-- the new texts of a section are those of its fields
reading-texts : (m : PathMap) (v : View) (all : DataReadings) (table : TextSection) (ts : List (List ℕ)) (before behind : List UnitSection) (z : UnitSection) (first : ℕ) (r : Reading)
    → (debug_data v).found Info ≡ before ++ z ∷ behind → r.number ≡ z.number → ReadsUnits (debug_data v).base z first r.pieces
    → texts_after m ts (mentions_of table (around_of (debug_data v) all) r.pieces) ≡ section_texts_at m v table ts (paths_in r)
reading-texts m v all table ts before behind z first r split number reads =
    texts_by_fields table m (around_of (debug_data v) all) (view_cells v r.number) ts 0 r.pieces
    (reading-placed (debug_data v) z first r.pieces (view_cells v r.number) reads (reading-cells v before behind z r split number))
    ∙ ap (λ (s : FieldSource). texts_at m s ts (piece_fields table r.pieces)) (same-source v all r.number table)
    ∙ ap (texts_at m (source_in v r.number table) ts) (same-fields table r)

pub readings-texts : (m : PathMap) (v : View) (all : DataReadings) (table : TextSection) (ts : List (List ℕ)) (before zs : List UnitSection) (first : ℕ) (rs : Readings)
    → (debug_data v).found Info ≡ before ++ zs → ReadsAll (debug_data v).base first zs rs
    → texts_after m ts (all_mentions table (around_of (debug_data v) all) rs) ≡ all_texts_at m v table ts (paths_of rs)
readings-texts m v all table ts before [] first [] split reads = refl
readings-texts m v all table ts before [] first (r ∷ rs) split reads = absurd reads
readings-texts m v all table ts before (z ∷ zs) first [] split reads = absurd reads
readings-texts m v all table ts before (z ∷ zs) first (r ∷ rs) split reads =
    texts_after-append m ts (mentions_of table (around_of (debug_data v) all) r.pieces) (all_mentions table (around_of (debug_data v) all) rs)
    ∙ ap (λ (us : List (List ℕ)). texts_after m us (all_mentions table (around_of (debug_data v) all) rs))
    (reading-texts m v all table ts before zs z first r split reads.0 reads.1)
    ∙ readings-texts m v all table (section_texts_at m v table ts (paths_in r)) (before ++ z ∷ []) zs (first + units_in r.pieces) rs
    (split ∙ sym (append_assoc before (z ∷ []) zs)) reads.2

-- the same of string offsets
same-slots : (table : TextSection) (i : ℕ) (d : DebugData) (rs : DataReadings) → offset_fields table (path_slots (around_of d rs)) rs.offsets ≡ fields_of table (slots_with i (read_fields d rs))
same-slots InStr i d rs = refl
same-slots InLineStr i d rs = line-fields (path_slots (around_of d rs)) rs.offsets

slots-texts-by : (m : PathMap) (v : View) (rs : DataReadings) (table : TextSection) (ts : List (List ℕ)) (o : Option ℕ) → ReadsOffsets v.order (cells_located v o).contents rs.offsets
    → texts_after m ts (mentions_with (slot_role (path_slots (around_of (debug_data v) rs))) table (around_of (debug_data v) rs) rs.offsets)
    ≡ all_texts_at m v table ts (slots_by o (read_fields (debug_data v) rs))
slots-texts-by m v rs table ts None r =
    ap (λ (xs : List (Piece OffsetState)). texts_after m ts (mentions_with (slot_role (path_slots (around_of (debug_data v) rs))) table (around_of (debug_data v) rs) xs))
    (no-offsets v.order rs.offsets r)
slots-texts-by m v rs table ts (Some i) r =
    texts_by_slots table m (around_of (debug_data v) rs) (view_cells v i) ts 0 (path_slots (around_of (debug_data v) rs)) rs.offsets
    (offsets-in v (Some i) rs.offsets r)
    ∙ ap (λ (s : FieldSource). texts_at m s ts (offset_fields table (path_slots (around_of (debug_data v) rs)) rs.offsets)) (same-source v rs i table)
    ∙ ap (texts_at m (source_in v i table) ts) (same-slots table i (debug_data v) rs)

pub slots-texts : (m : PathMap) (v : View) (rs : DataReadings) (table : TextSection) (ts : List (List ℕ)) → ReadsOffsets (debug_data v).base.order ((debug_data v).found StrOffsets).contents rs.offsets
    → texts_after m ts (mentions_with (slot_role (path_slots (around_of (debug_data v) rs))) table (around_of (debug_data v) rs) rs.offsets)
    ≡ all_texts_at m v table ts (slots_read v rs)
slots-texts m v rs table ts r = slots-texts-by m v rs table ts (section_named v (name_of StrOffsets)) (offsets-of v rs.offsets r)

pub all_texts-append : (m : PathMap) (v : View) (table : TextSection) (ts : List (List ℕ)) (us ws : List SectionFields)
    → all_texts_at m v table ts (us ++ ws) ≡ all_texts_at m v table (all_texts_at m v table ts us) ws
all_texts-append m v table ts [] ws = refl
all_texts-append m v table ts (u ∷ us) ws = all_texts-append m v table (section_texts_at m v table ts u) us ws

-- where the line table that started at a place starts anew
abbrev pub starts_after : PathMap → View → DataReadings → Bool → ℕ → Option ℕ
starts_after m v all = starts_by (changes_of m (around_of (debug_data v) all) all) (around_of (debug_data v) all)

-- the new bytes of a section are those of its edited pieces
reading-body : (m : PathMap) (v : View) (all : DataReadings) (before behind : List UnitSection) (z : UnitSection) (first : ℕ) (r : Reading)
    → (debug_data v).found Info ≡ before ++ z ∷ behind → r.number ≡ z.number → ReadsUnits (debug_data v).base z first r.pieces → EachPiece (InlineFits m) r.pieces
    → section_after m v (table_change m InStr (around_of (debug_data v) all) all) (table_change m InLineStr (around_of (debug_data v) all) all) (starts_after m v all) (paths_in r)
    ≡ bytes_of (joined (edited_all (changes_of m (around_of (debug_data v) all) all) (around_of (debug_data v) all) r.pieces))
unfolding section_after table_change debug_data
reading-body m v all before behind z first r split number reads fits =
    let a : Around = around_of (debug_data v) all in
    let cells : List Cell = view_cells v r.number in
    let same : z.contents ≡ view_cells v r.number = reading-cells v before behind z r split number in
    let own : bytes_of (view_cells v r.number) ≡ section_bytes v r.number = bytes_of-view_cells v r.number in
    let start : bytes_of (joined r.pieces) ≡ section_bytes v r.number = ap bytes_of (reads.cells ∙ same) ∙ own in
    ap (λ (bs : List ℕ). inlined m bs (with_all_known (starts_in v r.number) (starts_after m v all)
    (patched (table_change m InLineStr (around_of (debug_data v) all) all) m (source_in v r.number InLineStr)
    (patched (table_change m InStr (around_of (debug_data v) all) all) m (source_in v r.number InStr) (section_bytes v r.number) (piece_fields InStr r.pieces))
    (piece_fields InLineStr r.pieces)) (start_fields r.pieces)) (inline_paths r.pieces)) (sym own)
    ∙ ap (λ (out : List ℕ). inlined m (bytes_of (view_cells v r.number)) (with_all_known (starts_in v r.number) (starts_after m v all)
    (patched (table_change m InLineStr (around_of (debug_data v) all) all) m (source_in v r.number InLineStr)
    (patched (table_change m InStr (around_of (debug_data v) all) all) m (source_in v r.number InStr) out (piece_fields InStr r.pieces))
    (piece_fields InLineStr r.pieces)) (start_fields r.pieces)) (inline_paths r.pieces)) (sym start)
    ∙ pieces_written (changes_of m (around_of (debug_data v) all) all) (around_of (debug_data v) all) (view_cells v r.number) [] 0 r.pieces refl
    (reading-placed (debug_data v) z first r.pieces (view_cells v r.number) reads same) fits

pub readings-bodies : (m : PathMap) (v : View) (all : DataReadings) (before zs : List UnitSection) (first : ℕ) (rs : Readings) → (debug_data v).found Info ≡ before ++ zs
    → ReadsAll (debug_data v).base first zs rs → EachReading (InlineFits m) rs
    → bodies_after m v (table_change m InStr (around_of (debug_data v) all) all) (table_change m InLineStr (around_of (debug_data v) all) all) (starts_after m v all) (paths_of rs)
    ≡ unit_bodies (changes_of m (around_of (debug_data v) all) all) (around_of (debug_data v) all) rs
readings-bodies m v all before [] first [] split reads fits = refl
readings-bodies m v all before [] first (r ∷ rs) split reads fits = absurd reads
readings-bodies m v all before (z ∷ zs) first [] split reads fits = absurd reads
readings-bodies m v all before (z ∷ zs) first (r ∷ rs) split reads fits =
    let ts : List (List ℕ) = (table_change m InStr (around_of (debug_data v) all) all) in
    let ls : List (List ℕ) = (table_change m InLineStr (around_of (debug_data v) all) all) in
    ap (λ (bs : List ℕ). record { number = r.number; bytes = bs } ∷ bodies_after m v ts ls (starts_after m v all) (paths_of rs)) (reading-body m v all before zs z first r split reads.0 reads.1 fits.0)
    ∙ ap (λ (bodies : List Body). unit_body (changes_of m (around_of (debug_data v) all) all) (around_of (debug_data v) all) r ∷ bodies)
    (readings-bodies m v all (before ++ z ∷ []) zs (first + units_in r.pieces) rs (split ∙ sym (append_assoc before (z ∷ []) zs)) reads.2 fits.1)

-- the known places make the new bytes of a section
known-section : (m : PathMap) (v : View) (ps pl : TextTable) (ks kl kt : Bool → ℕ → Option ℕ) (u : SectionFields) → Growing m v InStr ps ks → Growing m v InLineStr pl kl
    → IsSectionNoted v InStr u ks → IsSectionNoted v InLineStr u kl → section_known m v ks kl kt u ≡ section_after m v ps.texts pl.texts kt u
unfolding section_known section_after
known-section m v ps pl ks kl kt u gs gl ns nl =
    let first = put_is_patched m (source_in v u.number InStr) ps.texts (info_of v u) (fields_into u Str) ks gs.knows ns in
    ap (λ (out : List ℕ). inlined m (info_of v u) (with_all_known (starts_in v u.number) kt (with_all_known (source_in v u.number InLineStr) kl out (fields_into u LineStr)) (fields_into u Line))
    u.inline) first
    ∙ ap (λ (out : List ℕ). inlined m (info_of v u) (with_all_known (starts_in v u.number) kt out (fields_into u Line)) u.inline)
    (put_is_patched m (source_in v u.number InLineStr) pl.texts
    (patched ps.texts m (source_in v u.number InStr) (info_of v u) (fields_into u Str)) (fields_into u LineStr) kl gl.knows nl)

pub known-bodies : (m : PathMap) (v : View) (ps pl : TextTable) (ks kl kt : Bool → ℕ → Option ℕ) (us : List SectionFields) → Growing m v InStr ps ks → Growing m v InLineStr pl kl
    → EachOf (λ u. IsSectionNoted v InStr u ks) us → EachOf (λ u. IsSectionNoted v InLineStr u kl) us
    → bodies_known m v ks kl kt us ≡ bodies_after m v ps.texts pl.texts kt us
known-bodies m v ps pl ks kl kt [] gs gl ns nl = refl
known-bodies m v ps pl ks kl kt (u ∷ us) gs gl ns nl =
    ap (λ (bs : List ℕ). record { number = u.number; bytes = bs } ∷ bodies_known m v ks kl kt us) (known-section m v ps pl ks kl kt u gs gl ns.0 nl.0)
    ∙ ap (λ (bodies : List Body). body_after m v ps.texts pl.texts kt u ∷ bodies) (known-bodies m v ps pl ks kl kt us gs gl ns.1 nl.1)

pub noted-each : (v : View) (table : TextSection) (known : Bool → ℕ → Option ℕ) (us : List SectionFields)
    → ((k : ℕ) (d : SectionFields) → k < length us → IsSectionNoted v table (get_or us k d) known) → EachOf (λ u. IsSectionNoted v table u known) us
noted-each v table known [] each = tt
noted-each v table known (u ∷ us) each =
    (each 0 u (omega arith), noted-each v table known us (λ (k : ℕ) (d : SectionFields) (lt : k < length us). each (suc k) d (omega arith)))

pub made-noted : (m : PathMap) (v : View) (table : TextSection) (us : List SectionFields) (pool : TextTable) (known : Bool → ℕ → Option ℕ) → TableMade m v table us pool known
    → EachOf (λ u. IsSectionNoted v table u known) us
made-noted m v table us pool known t = noted-each v table known us (λ (k : ℕ) (d : SectionFields) (lt : k < length us). t.noted.each k d lt lt)

-- the new bytes of string offsets are those of their edited pieces
slots-body-by : (m : PathMap) (v : View) (rs : DataReadings) (kt : Bool → ℕ → Option ℕ) (o : Option ℕ) → ReadsOffsets v.order (cells_located v o).contents rs.offsets
    → one_body (bodies_after m v (table_change m InStr (around_of (debug_data v) rs) rs) (table_change m InLineStr (around_of (debug_data v) rs) rs) kt (slots_by o (read_fields (debug_data v) rs)))
    ≡ cells_body (cells_located v o).number (joined (offsets_after (changes_of m (around_of (debug_data v) rs) rs) (around_of (debug_data v) rs) rs)) ∷ []
unfolding section_after table_change debug_data
slots-body-by m v rs kt None r =
    ap (λ (xs : List (Piece OffsetState)). record {
      number = 0;
      bytes = bytes_of (joined (edited_with (slot_role (path_slots (around_of (debug_data v) rs)))
          (changes_of m (around_of (debug_data v) rs) rs) (around_of (debug_data v) rs) xs));
    } ∷ []) (sym (no-offsets v.order rs.offsets r))
slots-body-by m v rs kt (Some i) r =
    let paths : List ℕ = path_slots (around_of (debug_data v) rs) in
    let own : bytes_of (view_cells v i) ≡ section_bytes v i = bytes_of-view_cells v i in
    let start : bytes_of (joined rs.offsets) ≡ section_bytes v i = ap bytes_of r.cells ∙ own in
    ap (λ (bs : List ℕ). record { number = i; bytes = bs } ∷ [])
    (ap (λ (gs : List OffsetField). patched (table_change m InLineStr (around_of (debug_data v) rs) rs) m (source_in v i InLineStr)
    (patched (table_change m InStr (around_of (debug_data v) rs) rs) m (source_in v i InStr) (section_bytes v i)
    (offset_fields InStr (path_slots (around_of (debug_data v) rs)) rs.offsets)) gs) (sym (line-fields paths rs.offsets))
    ∙ ap (λ (out : List ℕ). patched (table_change m InLineStr (around_of (debug_data v) rs) rs) m (source_in v i InLineStr)
    (patched (table_change m InStr (around_of (debug_data v) rs) rs) m (source_in v i InStr) out
    (offset_fields InStr (path_slots (around_of (debug_data v) rs)) rs.offsets)) (offset_fields InLineStr (path_slots (around_of (debug_data v) rs)) rs.offsets)) (sym start)
    ∙ slots_written (changes_of m (around_of (debug_data v) rs) rs) (around_of (debug_data v) rs) (view_cells v i) [] 0 (path_slots (around_of (debug_data v) rs)) rs.offsets refl
    (offsets-in v (Some i) rs.offsets r))

pub slots-body : (m : PathMap) (v : View) (rs : DataReadings) (kt : Bool → ℕ → Option ℕ) → ReadsOffsets (debug_data v).base.order ((debug_data v).found StrOffsets).contents rs.offsets
    → one_body (bodies_after m v (table_change m InStr (around_of (debug_data v) rs) rs) (table_change m InLineStr (around_of (debug_data v) rs) rs) kt (slots_read v rs))
    ≡ cells_body ((debug_data v).found StrOffsets).number (joined (offsets_after (changes_of m (around_of (debug_data v) rs) rs) (around_of (debug_data v) rs) rs)) ∷ []
unfolding debug_data
slots-body m v rs kt r = slots-body-by m v rs kt (section_named v (name_of StrOffsets)) (offsets-of v rs.offsets r)
