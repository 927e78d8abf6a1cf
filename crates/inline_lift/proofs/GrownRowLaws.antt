-- A file whose paths that would grow become offsets is taken or refused, and never both: each row of the edit of its lifted file is a row of it.
use Rattle.std.proofs.Common.{Bool, true, false, ◌≡◌, ◌⊎◌, inl, inr, ℕ, ◌^◌, ◌<◌, not, List, [], ◌∷◌, refl, sym, ap, ◌∙◌, subst, slice_index, if◌then◌else◌, length}
use Rattle.std.specs.Prelude.{◌||◌}
use Rattle.dw_base.specs.Cells.{Cell}
use Rattle.dw_base.specs.DebugData.{Around, DataReadings, DebugData, around_of, path_slots}
use Rattle.dw_base.specs.Elf.{section_count}
use Rattle.dw_base.specs.IndexFails.{SharedFails}
use Rattle.dw_base.specs.Layout.{with_bodies}
use Rattle.dw_base.specs.LayoutReads.{ReadsBack}
use Rattle.dw_base.specs.Paths.{PathMap}
use Rattle.dw_base.specs.Pieces.{EachPiece, Piece}
use Rattle.dw_base.specs.Readings.{EachReading, Readings}
use Rattle.dw_base.specs.Roles.{Role, fixed, inline_path, line_start, offset, role_of}
use Rattle.dw_base.specs.TextChanges.{InlineFits, InlineFitsBy}
use Rattle.dw_base.specs.UnitStates.{UnitState}
use Rattle.dw_base.specs.declared.debug_sections.DebugSection.TheVariants.{StrOffsets}
use Rattle.dw_base.specs.declared.fault.Refusal.{Refusal}
use Rattle.dw_base.proofs.RelocationSectionLaws.{relocates_read-loaded}
use Rattle.dw_meaning.proofs.DataOneLaws.{data-one}
use Rattle.dw_meaning.proofs.EditRowLaws.{edit-excludes}
use Rattle.dw_meaning.proofs.FileBackLaws.{loaded-back}
use Rattle.dw_meaning.proofs.SlotRowLaws.{shared-excludes}
use Rattle.dw_meaning.specs.EditRows.{EditFails, IsAccepted, file as file_row, inline as inline_row, shared as shared_row, line_table as line_table_row, addends as addends_row, output as output_row}
use Rattle.dw_meaning.specs.FileFails.{ReadIsLoaded}
use Rattle.dw_meaning.specs.FileMeanings.{FileReads, MeaningKept, file_data}
use Rattle.dw_meaning.specs.Loaded.{LoadedKept}
use Rattle.dw_meaning.specs.RelocationFails.{RelocationsAreLoaded}
use Rattle.inline_lift.specs.Filled.{MeaningGrown}
use Rattle.inline_lift.specs.GrowingPaths.{any_grows, grows_by, some_path_grows}
use Rattle.inline_lift.specs.GrownRows.{GrownFails, IsGrown, OutputFails, addends, lift, line_table, output, shared, written}
use Rattle.inline_lift.specs.Lifted.{lifted_readings}
use Rattle.inline_lift.specs.LiftedFiles.{lifted_body, lifted_of}
use Rattle.inline_lift.proofs.FittingLaws.{units-inline, unloaded-lifted}
use Rattle.inline_lift.proofs.GrownSlotLaws.{shared-at, shared-new, shared-old}
use Rattle.inline_lift.proofs.LiftMeaningLaws.{grown-loaded, grown-meaning}
use Rattle.inline_lift.proofs.LiftRowLaws.{reads-exclude}
use Rattle.inline_lift.proofs.LiftedBodyLaws.{file_lift}
use Rattle.inline_lift.proofs.LiftedDataLaws.{around-lifted, standing_for}
use Rattle.inline_lift.proofs.LiftedFileLaws.{FileLifts, data-back, data-lifts, file-lifted-reads}
use Rattle.inline_lift.proofs.LiftedOutputLaws.{Liftable, liftable, lifted-loaded, lifted-meaning, lifted-reads_back}
use Rattle.inline_lift.proofs.MetGrowingLaws.{inline-growing}

-- where all paths fit none grows
fits-none : (r : Role) (m : PathMap) (p : List Cell) → InlineFitsBy r m p → grows_by r m p ≡ false
fits-none fixed m p h = refl
fits-none (offset table path) m p h = refl
fits-none inline_path m p h = ap not h
fits-none line_start m p h = refl

pieces-none : (m : PathMap) (xs : List (Piece UnitState)) → EachPiece (InlineFits m) xs → any_grows m xs ≡ false
pieces-none m [] h = refl
pieces-none m (x ∷ xs) h = ap (λ (b : Bool). b || any_grows m xs) (fits-none (role_of x) m x.cells h.0) ∙ pieces-none m xs h.1

readings-none : (m : PathMap) (rs : Readings) → EachReading (InlineFits m) rs → some_path_grows m rs ≡ false
readings-none m [] h = refl
readings-none m (r ∷ rs) h = ap (λ (b : Bool). b || some_path_grows m rs) (pieces-none m r.pieces h.0) ∙ readings-none m rs h.1

-- the lifted file: it can be read, none of its paths grows, nothing that is read is loaded, and its shared slots are those of the file
record LiftedFile (m : PathMap) (b : List ℕ) (r : DataReadings) (out : List ℕ) : Type 0 where
  new : DataReadings
  reads : FileReads out new
  none : some_path_grows m new.units ≡ false
  unloaded : (i : ℕ) → i < section_count out → ReadIsLoaded out i → ⊥
  relocations_unloaded : (i : ℕ) → i < section_count out → RelocationsAreLoaded out i → ⊥
  shared_old : (q : Refusal) → SharedFails m ((file_data out).found StrOffsets).number (around_of (file_data out) new) new.offsets q
      → SharedFails m ((file_data b).found StrOffsets).number (around_of (file_data b) r) r.offsets q
  shared_new : (q : Refusal) → SharedFails m ((file_data b).found StrOffsets).number (around_of (file_data b) r) r.offsets q
      → SharedFails m ((file_data out).found StrOffsets).number (around_of (file_data out) new) new.offsets q

quiet-file : (m : PathMap) (b : List ℕ) (r : DataReadings) → Liftable m b r → some_path_grows m r.units ≡ false → LiftedFile m b r b
quiet-file m b r w e = record {
  new = r;
  reads = w.reads;
  none = e;
  unloaded = w.unloaded;
  relocations_unloaded = w.relocations_unloaded;
  shared_old = λ q f. f;
  shared_new = λ q f. f;
}

grown-file : (m : PathMap) (b : List ℕ) (r : DataReadings) → Liftable m b r → some_path_grows m r.units ≡ true → LiftedFile m b r (with_bodies b (lifted_body m b r))
grown-file m b r w e = make (w.lifts e)
  where
    out : List ℕ
    out = with_bodies b (lifted_body m b r)

    make : FileLifts m b r → LiftedFile m b r (with_bodies b (lifted_body m b r))
    make lifts =
        let fits = w.fits e in
        let back : ReadsBack b (lifted_body m b r) (with_bodies b (lifted_body m b r)) = lifted-reads_back m b r lifts.grows fits w.bytes in
        let loaded = loaded-back b (lifted_body m b r) (with_bodies b (lifted_body m b r)) back lifts.loaded in
        let same = data-back m b r (with_bodies b (lifted_body m b r)) lifts back in
        let around = around-lifted m (file_data b) r w.reads.data_reads in
        let slots = w.reads.data_reads.slot_texts in
        record {
          new = lifted_readings (file_lift m b r) r;
          reads = file-lifted-reads m b r (with_bodies b (lifted_body m b r)) lifts back fits.small;
          none = readings-none m (lifted_readings (file_lift m b r) r).units
              (units-inline m (file_data b) r (data-lifts m b r (with_bodies b (lifted_body m b r)) lifts back fits.small));
          unloaded = λ i lt h.
              w.unloaded i (subst (λ (n : ℕ). i < n) back.count lt)
              (unloaded-lifted m b r (with_bodies b (lifted_body m b r)) lifts back i (subst (λ (n : ℕ). i < n) back.count lt) h);
          relocations_unloaded = λ i lt h.
              let none = relocates_read-loaded (with_bodies b (lifted_body m b r)) i loaded in
              let no : true ≡ false = sym h.relocates ∙ none in
              absurd cc;
          shared_old = λ q f.
              shared-old m ((file_data b).found StrOffsets).number (path_slots (around_of (file_data b) r)) (file_lift m b r) (standing_for (file_data b) r) r.offsets q slots
              (subst (λ (x : Around). SharedFails m ((file_data b).found StrOffsets).number x r.offsets q) around
              (subst (λ (d : DebugData). SharedFails m (d.found StrOffsets).number (around_of d (lifted_readings (file_lift m b r) r)) r.offsets q) same f));
          shared_new = λ q f.
              subst (λ (d : DebugData). SharedFails m (d.found StrOffsets).number (around_of d (lifted_readings (file_lift m b r) r)) r.offsets q) (sym same)
              (subst (λ (x : Around). SharedFails m ((file_data b).found StrOffsets).number x r.offsets q) (sym around)
              (shared-new m ((file_data b).found StrOffsets).number (path_slots (around_of (file_data b) r)) (file_lift m b r) (standing_for (file_data b) r) r.offsets q slots f));
        }

lifted-file : (m : PathMap) (b : List ℕ) (r : DataReadings) → Liftable m b r → LiftedFile m b r (lifted_of m b r)
unfolding lifted_of
lifted-file m b r w = by_grows (some_path_grows m r.units) refl
  where
    by_grows : (t : Bool) → some_path_grows m r.units ≡ t → LiftedFile m b r (if t then with_bodies b (lifted_body m b r) else b)
    by_grows true e = grown-file m b r w e
    by_grows false e = quiet-file m b r w e

-- what refuses the lifted file refuses the file, at the same place
pub grown-rows : (m : PathMap) (b : List ℕ) (r : DataReadings) (q : Refusal) → Liftable m b r → EditFails m (lifted_of m b r) q → GrownFails m b q
grown-rows m b r q w f = by_row (lifted-file m b r w) f
  where
    by_row : LiftedFile m b r (lifted_of m b r) → EditFails m (lifted_of m b r) q → GrownFails m b q
    by_row t (file_row g) = absurd (reads-exclude (lifted_of m b r) t.new q t.reads t.unloaded t.relocations_unloaded g)
    by_row t (inline_row e g) =
        let some : some_path_grows m t.new.units ≡ true = inline-growing m (file_data (lifted_of m b r)) t.new q t.reads.data_reads g in
        let no : true ≡ false = sym some ∙ t.none in
        absurd cc
    by_row t (shared_row readings e i g) = shared r w.reads (t.shared_old q (shared-at m (file_data (lifted_of m b r)) readings t.new q i t.reads.data_reads g))
    by_row t (line_table_row readings before behind table reads split g) = written r readings w.reads reads (line_table before behind table split g)
    by_row t (addends_row readings reads fits g) = written r readings w.reads reads (addends fits g)
    by_row t (output_row readings reads fits g) = written r readings w.reads reads (output fits g)

-- so where no row holds none refuses the lifted file
pub lift-fits : (m : PathMap) (b : List ℕ) (r : DataReadings) → Liftable m b r → ((q : Refusal) → GrownFails m b q → ⊥) → (q : Refusal) → EditFails m (lifted_of m b r) q → ⊥
lift-fits m b r w none q f = none q (grown-rows m b r q w f)

-- and a file is taken where the lifted file is taken or refused
pub grown-accepted : (m : PathMap) (b : List ℕ) (r : DataReadings) → FileReads b r → ((k : ℕ) → slice_index b k < 256) → length b < 2 ^ 32
    → IsAccepted m (lifted_of m b r) ⊎ ((q : Refusal) × EditFails m (lifted_of m b r) q) → ((q : Refusal) → GrownFails m b q → ⊥) → IsGrown m b
grown-accepted m b r reads bytes small (inl accepted) none = record { readings = r; reads = reads; lifts = λ q f. none q (lift f); accepted = accepted }
grown-accepted m b r reads bytes small (inr f) none =
    absurd (lift-fits m b r (liftable m b r reads bytes small (λ q g. none q (lift g))) none f.0 f.1)

-- no row holds of a file that is taken
output-row : (m : PathMap) (b : List ℕ) (r : DataReadings) (q : Refusal) → FileReads b r → OutputFails m b r q → EditFails m b q
output-row m b r q reads (line_table before behind t split f) = line_table_row r before behind t reads split f
output-row m b r q reads (addends fits f) = addends_row r reads fits f
output-row m b r q reads (output fits f) = output_row r reads fits f

pub grown-excludes : (m : PathMap) (b : List ℕ) (q : Refusal) → ((k : ℕ) → slice_index b k < 256) → length b < 2 ^ 32 → IsGrown m b → GrownFails m b q → ⊥
grown-excludes m b q bytes small w (lift f) = w.lifts q f
grown-excludes m b q bytes small w (shared readings reads f) = by_file (lifted-file m b w.readings (liftable m b w.readings w.reads bytes small w.lifts))
  where
    by_file : LiftedFile m b w.readings (lifted_of m b w.readings) → ⊥
    by_file t =
        let same : readings ≡ w.readings = data-one (file_data b) readings w.readings reads.data_reads w.reads.data_reads in
        let new : t.new ≡ w.accepted.readings = data-one (file_data (lifted_of m b w.readings)) t.new w.accepted.readings t.reads.data_reads w.accepted.reads.data_reads in
        let here = t.shared_new q (subst (λ (rs : DataReadings). SharedFails m ((file_data b).found StrOffsets).number (around_of (file_data b) rs) rs.offsets q) same f) in
        shared-excludes m ((file_data (lifted_of m b w.readings)).found StrOffsets).number (around_of (file_data (lifted_of m b w.readings)) w.accepted.readings) w.accepted.readings.offsets q
        w.accepted.fits.slots
        (subst (λ (rs : DataReadings). SharedFails m ((file_data (lifted_of m b w.readings)).found StrOffsets).number (around_of (file_data (lifted_of m b w.readings)) rs) rs.offsets q) new here)
grown-excludes m b q bytes small w (written readings new reads reads_new f) =
    by_readings readings (data-one (file_data b) readings w.readings reads.data_reads w.reads.data_reads) reads_new f
  where
    by_readings : (rs : DataReadings) → rs ≡ w.readings → FileReads (lifted_of m b rs) new → OutputFails m (lifted_of m b rs) new q → ⊥
    by_readings rs same reads_here g =
        edit-excludes m (lifted_of m b w.readings) q w.accepted
        (subst (λ (ps : DataReadings). EditFails m (lifted_of m b ps) q) same (output-row m (lifted_of m b rs) new q reads_here g))

-- the lifted file of a file that is taken, edited, means the filled meaning with the map applied, and what is loaded of it stays
pub grown-edited : (m : PathMap) (b end : List ℕ) → ((k : ℕ) → slice_index b k < 256) → length b < 2 ^ 32 → (w : IsGrown m b) → MeaningKept m (lifted_of m b w.readings) end → MeaningGrown m b end
grown-edited m b end bytes small w kept =
    grown-meaning m b (lifted_of m b w.readings) end (lifted-meaning m b w.readings (liftable m b w.readings w.reads bytes small w.lifts)) kept

pub grown-stays : (m : PathMap) (b end : List ℕ) → ((k : ℕ) → slice_index b k < 256) → length b < 2 ^ 32 → (w : IsGrown m b) → LoadedKept (lifted_of m b w.readings) end → LoadedKept b end
grown-stays m b end bytes small w kept =
    grown-loaded b (lifted_of m b w.readings) end (lifted-loaded m b w.readings (liftable m b w.readings w.reads bytes small w.lifts)) kept
