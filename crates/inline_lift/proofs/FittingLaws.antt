-- A lifted file is accepted where its own output can be written: no path that stands in its value would grow, slots are fit to be mapped where they were
-- before, nothing that is read is loaded where it wasn't, and no addend has to make an offset.
use Rattle.std.proofs.Common.{Bool, true, false, ◌≡◌, ℕ, zero, suc, ◌<◌, ◌≤◌, ◌==◌, not, List, [], ◌∷◌, length, IsTrue, refl, sym, ◌∙◌, subst}
use Rattle.std.specs.Prelude.{◌||◌, bit_and, ⊤}
use Rattle.dw_base.specs.Cells.{Cell, bytes_of}
use Rattle.dw_base.specs.DebugData.{Around, DataReadings, DebugData, around_of, path_slots}
use Rattle.dw_base.specs.DebugSections.{debug_section}
use Rattle.dw_base.specs.Elf.{section_count, section_name}
use Rattle.dw_base.specs.Forms.{ValueKind, kind_in}
use Rattle.dw_base.specs.IndexFails.{SlotFits, SlotFitsBy}
use Rattle.dw_base.specs.InlinePaths.{inline_fits}
use Rattle.dw_base.specs.Layout.{output_limit}
use Rattle.dw_base.specs.LayoutFails.{LayoutFits}
use Rattle.dw_base.specs.LayoutReads.{ReadsBack}
use Rattle.dw_base.specs.OffsetPieces.{OffsetMode, OffsetState, at_slot}
use Rattle.dw_base.specs.Paths.{PathMap, mapped_path}
use Rattle.dw_base.specs.Pieces.{EachPiece, Piece}
use Rattle.dw_base.specs.Readings.{EachReading}
use Rattle.dw_base.specs.Roles.{Role, fixed, inline_path, line_start, offset, role_of, role_of_kind, use_of}
use Rattle.dw_base.specs.SectionTexts.{NameTexts, offset_role, slot_role}
use Rattle.dw_base.specs.TextChanges.{InlineFits, InlineFitsBy, NamesTextBy}
use Rattle.dw_base.specs.Texts.{laid_texts, text}
use Rattle.dw_base.specs.UnitStates.{UnitState}
use Rattle.dw_base.specs.ViewData.{is_read}
use Rattle.dw_base.specs.declared.debug_sections.DebugSection.TheVariants.{Info}
use Rattle.dw_base.specs.declared.elf_numbers.TheConstants.{SHF_ALLOC, SHT_NOBITS, SHT_NULL}
use Rattle.dw_base.proofs.RelocationSectionLaws.{relocates_read-loaded}
use Rattle.dw_meaning.proofs.FileBackLaws.{loaded-back, section_name-back}
use Rattle.dw_meaning.proofs.PlainFileLaws.{file-addends}
use Rattle.dw_meaning.specs.DataOutput.{EachWritable, PathsFit, changes_of}
use Rattle.dw_meaning.specs.EditRows.{IsAccepted}
use Rattle.dw_meaning.specs.FileFails.{ReadIsLoaded}
use Rattle.dw_meaning.specs.FileMeanings.{file_body, file_data}
use Rattle.inline_lift.specs.GrowingPaths.{grown, grows_by, room_left}
use Rattle.inline_lift.specs.Lifted.{Lift, lift_of, lifted_data, lifted_readings, lifted_state, lifted_units, lifted_value}
use Rattle.inline_lift.specs.LiftedFiles.{lifted_body}
use Rattle.inline_lift.specs.LiftedTables.{filler_form, filler_name}
use Rattle.inline_lift.proofs.KeptFormLaws.{readings-turned}
use Rattle.inline_lift.proofs.LiftedBodyLaws.{file_lift}
use Rattle.inline_lift.proofs.LiftedDataLaws.{DataLifts, around-lifted, standing_for}
use Rattle.inline_lift.proofs.LiftedFileLaws.{FileLifts, back-lifted, data-back, data-lifts, file-lifted-reads}
use Rattle.inline_lift.proofs.LiftedUnitLaws.{units-lifting}
use Rattle.inline_lift.proofs.PieceLiftLaws.{filler-kind, strp-kind, value_state}
use Rattle.inline_lift.proofs.SurroundingLaws.{Holds, Standing, new_around, old_around, text-longer, texts-held}
use Rattle.inline_lift.proofs.TurnedLaws.{Turned, chosen, code, header, itself, path, value}

-- a path that doesn't grow fits
unnot : (b : Bool) → not b ≡ false → IsTrue b
unnot true e = refl
unnot false e = absurd cc

fits-role : (r : Role) (m : PathMap) (p : List Cell) → grows_by r m p ≡ false → InlineFitsBy r m p
fits-role fixed m p e = tt
fits-role (offset table is) m p e = tt
fits-role inline_path m p e = unnot (inline_fits m (text (bytes_of p))) e
fits-role line_start m p e = tt

inline-turned : (l : Lift) (x : Piece UnitState) (ys : List (Piece UnitState)) → Turned l ⊤ x ys → Holds l x → EachPiece (InlineFits l.map) ys
unfolding role_of
inline-turned l x ys (itself y quiet) h = (fits-role (role_of x) l.map x.cells (quiet tt), tt)
inline-turned l x ys (header table s p is_header lifts) h = (tt, tt)
inline-turned l x ys (code table gs s p lifts) h = (tt, tt)
inline-turned l x ys (value table gs s number tag y rest p quiet) h =
    (fits-role (role_of_kind (kind_in s.header.params y.form) (use_of number tag y.name)) l.map p quiet, tt)
inline-turned l x ys (chosen table gs s number tag start y rest p quiet) h =
    (fits-role (role_of_kind (kind_in s.header.params y.form) (use_of number tag y.name)) l.map p (quiet tt), tt)
inline-turned l x ys (path table gs s number tag y rest p grew kind is fits lifts) h = by_left (room_left s p)
  where
    first : (q : List Cell) → InlineFitsBy (role_of_kind (kind_in s.header.params 0x0e) (use_of number tag y.name)) l.map q
    first q = subst (λ (k : ValueKind). InlineFitsBy (role_of_kind k (use_of number tag y.name)) l.map q) (sym (strp-kind s.header.params)) tt

    second : (n : ℕ) (q : List Cell) → InlineFitsBy (role_of_kind (kind_in s.header.params (filler_form n)) (use_of number tag filler_name)) l.map q
    second n q = subst (λ (k : ValueKind). InlineFitsBy (role_of_kind k (use_of number tag filler_name)) l.map q) (sym (filler-kind s.header.params n)) tt

    by_left : (r : ℕ) → EachPiece (InlineFits l.map) (lifted_value (grown r) l (lifted_state l table (grown r ∷ gs) (value_state s number tag y rest)) p)
    by_left zero = (first _, tt)
    by_left (suc n) = (first _, (second n _, tt))

pub units-inline : (m : PathMap) (d : DebugData) (r : DataReadings) → DataLifts m d r → EachReading (InlineFits m) (lifted_units (lift_of m d r) r.units)
units-inline m d r w =
    readings-turned (lift_of m d r) ⊤ (Holds (lift_of m d r)) (InlineFits m) (inline-turned (lift_of m d r)) 0 (d.found Info) r.units w.reads.units
    (λ sure. units-lifting m d r w.reads.units w.can w.short w.abbrevs) (texts-held m d r)

-- slots
slot-fits : (k : OffsetMode) (m : PathMap) (paths : List ℕ) (l : Lift) (g : Standing) (n : ℕ) (p : List Cell) → NamesTextBy (offset_role paths k n) (old_around l g) p
    → SlotFitsBy k m (old_around l g) n p → SlotFitsBy k m (new_around l g) n p
slot-fits (at_slot width end) m paths l g n p h fits =
    λ a b. subst (λ (t : List ℕ). mapped_path m t ≡ t) (sym (text-longer l.base.order g.number l.str (laid_texts l.texts) p h)) (fits a b)
slot-fits k m paths l g n p h fits = fits

slots-fit : (m : PathMap) (paths : List ℕ) (l : Lift) (g : Standing) (xs : List (Piece OffsetState)) → NameTexts (slot_role paths) (old_around l g) xs
    → EachPiece (SlotFits m (old_around l g)) xs → EachPiece (SlotFits m (new_around l g)) xs
slots-fit m paths l g [] h fits = tt
slots-fit m paths l g (x ∷ xs) h fits = (slot-fits x.state.mode m paths l g x.state.slot x.cells h.0 fits.0, slots-fit m paths l g xs h.1 fits.1)

-- the paths of lifted debug data can be mapped
pub paths-fit : (m : PathMap) (d : DebugData) (r : DataReadings) → DataLifts m d r → EachPiece (SlotFits m (around_of d r)) r.offsets
    → PathsFit m (lifted_data (lift_of m d r) d r) (lifted_readings (lift_of m d r) r)
paths-fit m d r w slots = record {
  inline = units-inline m d r w;
  slots = subst (λ (a : Around). EachPiece (SlotFits m a) r.offsets) (sym (around-lifted m d r w.reads))
      (slots-fit m (path_slots (around_of d r)) (lift_of m d r) (standing_for d r) r.offsets w.reads.slot_texts slots);
}

-- what is read of a lifted file is loaded only where it was
pub unloaded-lifted : (m : PathMap) (b : List ℕ) (r : DataReadings) (out : List ℕ) → FileLifts m b r → ReadsBack b (lifted_body m b r) out → (i : ℕ) → i < section_count b
    → ReadIsLoaded out i → ReadIsLoaded b i
unloaded-lifted m b r out w back i lt h =
    let name : section_name out i ≡ section_name b i = section_name-back b (lifted_body m b r) out i (back-lifted m b r out w back) lt in
    record {
      read = subst (λ (n : List ℕ). IsTrue (is_read (debug_section n))) name h.read;
      bytes = subst (λ (k : ℕ). (k == SHT_NULL || k == SHT_NOBITS) ≡ false) (back.heads i lt).kind h.bytes;
      alloc = subst (λ (f : ℕ). not (bit_and f SHF_ALLOC == 0) ≡ true) (back.heads i lt).flags h.alloc;
    }

-- a file with lifted bodies is accepted, where its line tables can be written with its paths mapped, and its output be written
pub lifted-accepted : (m : PathMap) (b : List ℕ) (r : DataReadings) (out : List ℕ) → FileLifts m b r → ReadsBack b (lifted_body m b r) out → length out ≤ output_limit
    → EachPiece (SlotFits m (around_of (file_data b) r)) r.offsets → ((i : ℕ) → i < section_count b → ReadIsLoaded b i → ⊥)
    → EachWritable m (changes_of m (around_of (file_data out) (lifted_readings (file_lift m b r) r)) (lifted_readings (file_lift m b r) r))
    (around_of (file_data out) (lifted_readings (file_lift m b r) r)) r.lines
    → LayoutFits out (file_body m out (lifted_readings (file_lift m b r) r)) → IsAccepted m out
lifted-accepted m b r out w back small slots unloaded lines written =
    let reads = file-lifted-reads m b r out w back small in
    let fit = paths-fit m (file_data b) r (data-lifts m b r out w back small) slots in
    let paths : PathsFit m (file_data out) (lifted_readings (file_lift m b r) r) =
    subst (λ (d : DebugData). PathsFit m d (lifted_readings (file_lift m b r) r)) (sym (data-back m b r out w back)) fit in
    let loaded = loaded-back b (lifted_body m b r) out back w.loaded in
    record {
      readings = lifted_readings (file_lift m b r) r;
      reads = reads;
      fits = record {
        inline = paths.inline;
        slots = paths.slots;
        lines = lines;
        addends = file-addends (changes_of m (around_of (file_data out) (lifted_readings (file_lift m b r) r)) (lifted_readings (file_lift m b r) r)) out
            (around_of (file_data out) (lifted_readings (file_lift m b r) r)) (lifted_readings (file_lift m b r) r) loaded reads.data_reads;
      };
      unloaded = λ i lt h. unloaded i (subst (λ (n : ℕ). i < n) back.count lt) (unloaded-lifted m b r out w back i (subst (λ (n : ℕ). i < n) back.count lt) h);
      relocations_unloaded = λ i lt h. let none = relocates_read-loaded out i loaded in let no : true ≡ false = sym h.relocates ∙ none in absurd cc;
      written = written;
    }
