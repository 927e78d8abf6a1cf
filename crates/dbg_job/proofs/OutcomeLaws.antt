-- What becomes of a file: what is given is its outcome and keeps what it means, what is refused has a row, and no row holds where something
-- is given.
use Rattle.std.proofs.Common.{Bool, true, false, ◌≡◌, ℕ, ◌==◌, nat_le, List, length, Option, sym, ◌∙◌, refl, subst, arith}
use Rattle.std.proofs.lemmas.Bool.{le-leb}
use Rattle.dw_base.specs.Elf.{class_of}
use Rattle.dw_base.specs.ElfFails.{ElfReads}
use Rattle.dw_base.specs.Layout.{is_loaded_kind}
use Rattle.dw_base.specs.LayoutReads.{is_known_kind}
use Rattle.dw_base.specs.Numbers.{spelled}
use Rattle.dw_base.specs.Paths.{PathMap}
use Rattle.dw_base.specs.Refusals.{Blames}
use Rattle.dw_base.specs.DebugData.{DebugData}
use Rattle.dw_base.specs.FileViews.{view_of}
use Rattle.dw_base.specs.RelocationRows.{moving_sections}
use Rattle.dw_base.specs.Texts.{has_nul}
use Rattle.dw_base.specs.ViewData.{debug_data, mapped}
use Rattle.dw_base.specs.ViewFails.{ViewReads}
use Rattle.dw_base.specs.declared.elf_numbers.TheConstants.{ELFMAG}
use Rattle.dw_base.specs.declared.fault.Fault.{Fault}
use Rattle.dw_base.specs.declared.fault.Fault.TheVariants.{NoMemory, Refused}
use Rattle.dw_base.specs.declared.fault.Refusal.{Refusal}
use Rattle.dw_base.specs.declared.shared.Order.TheVariants.{Little}
use Rattle.dw_base.proofs.ElfLaws.{ehdr_size-least, elf_excludes}
use Rattle.dw_meaning.specs.FileMeanings.{MeaningKept, file_body, file_data}
use Rattle.dw_meaning.specs.Leavings.{NoLeavings}
use Rattle.dw_meaning.specs.Loaded.{LoadedKept}
use Rattle.dw_meaning.specs.RelocationFails.{RelocationsReadIn}
use Rattle.dw_view.specs.PairViews.{pair_view}
use Rattle.dw_view.specs.Pairs.{IsPaired}
use Rattle.dbg_split.specs.PairMeanings.{MeansAsOne, ReadApart}
use Rattle.dbg_split.specs.SplitFails.{SplitFails}
use Rattle.dbg_split.specs.SplitFails.SplitFails.{elf as elf_fails, long_debug as debug_fails, long_stripped as stripped_fails, shape as shape_fails}
use Rattle.job_types.specs.Settings.{Settings}
use Rattle.job_types.specs.declared.outcome.LeftWhy.{LeftWhy}
use Rattle.job_types.specs.declared.outcome.Outcome.{Outcome}
use Rattle.job_types.specs.declared.outcome.Outcome.TheVariants as outcome
use Rattle.dbg_job.specs.EditedFiles.{IsEditable, IsEdited}
use Rattle.dbg_job.specs.Leaving.{IsLeft, IsTaken, begins_as_elf, has_link, has_work}
use Rattle.dbg_job.specs.Leaving.IsLeft.{no_elf, other_type, linked, nothing}
use Rattle.dbg_job.specs.NewIds.{IdFits}
use Rattle.dbg_job.specs.Outcomes.{OutcomeFails, OutcomeKeeps, PairFails, PairKeeps, PairTooLong}
use Rattle.dbg_job.specs.Outcomes.OutcomeFails.{elf as elf_row, edit as edit_row, pair as pair_row}
use Rattle.dbg_job.specs.Outcomes.OutcomeKeeps.{split as keeps_split}
use Rattle.dbg_job.specs.Outcomes.PairFails.{id as id_row, long as long_row, shape as shape_row}
use Rattle.dbg_job.specs.Outcomes.PairTooLong.{debug as long_debug, stripped as long_stripped}
use Rattle.dbg_job.specs.SameSections.{SameSections}
use Rattle.dbg_job.proofs.EditedLaws.{editable-excludes}
use Rattle.dbg_job.proofs.SplitRowLaws.{rows-back, rows-on}

differ : (t : Bool) → t ≡ true → t ≡ false → ⊥
differ true e f = cc
differ false e f = cc

-- ### No row holds

-- a file whose records can be read begins as an ELF file does
pub reads-begins : (b : List ℕ) → ElfReads b → begins_as_elf b ≡ true
unfolding begins_as_elf
reads-begins b reads =
    let long : nat_le 4 (length b) ≡ true = le-leb 4 (length b) (omega (arith, reads.debug.header.whole, ehdr_size-least (class_of b))) in
    let magic : (spelled Little b 0 4 == ELFMAG) ≡ true = rw reads.debug.header.magic refl in
    rw (long, magic) refl

pub left-excludes : (s : Settings) (b name : List ℕ) (why : LeftWhy) → IsLeft b why → (r : Refusal) → OutcomeFails s b name r → ⊥
left-excludes s b name _ (no_elf none) r (elf_row begins fails) = differ (begins_as_elf b) begins none
left-excludes s b name _ (no_elf none) r (edit_row taken fails) = differ (begins_as_elf b) (reads-begins b taken.reads) none
left-excludes s b name _ (no_elf none) r (pair_row taken loaded fails) = differ (begins_as_elf b) (reads-begins b taken.reads) none
left-excludes s b name _ (other_type reads other) r (elf_row begins fails) = elf_excludes b r reads fails
left-excludes s b name _ (other_type reads other) r (edit_row taken fails) = differ (is_known_kind b) taken.kind other
left-excludes s b name _ (other_type reads other) r (pair_row taken loaded fails) = differ (is_known_kind b) taken.kind other
left-excludes s b name _ (linked reads known link) r (elf_row begins fails) = elf_excludes b r reads fails
left-excludes s b name _ (linked reads known link) r (edit_row taken fails) = differ (has_link b) link taken.unlinked
left-excludes s b name _ (linked reads known link) r (pair_row taken loaded fails) = differ (has_link b) link taken.unlinked
left-excludes s b name _ (nothing reads known link none) r (elf_row begins fails) = elf_excludes b r reads fails
left-excludes s b name _ (nothing reads known link none) r (edit_row taken fails) = differ (has_work b) taken.work none
left-excludes s b name _ (nothing reads known link none) r (pair_row taken loaded fails) = differ (has_work b) taken.work none

pub edited-excludes : (s : Settings) (b name : List ℕ) → IsTaken b → is_loaded_kind b ≡ false → IsEditable s b → (r : Refusal) → OutcomeFails s b name r → ⊥
edited-excludes s b name taken free w r (elf_row begins fails) = elf_excludes b r taken.reads fails
edited-excludes s b name taken free w r (edit_row is fails) = editable-excludes s b r w fails
edited-excludes s b name taken free w r (pair_row is loaded fails) = differ (is_loaded_kind b) loaded free

pub split-excludes : (s : Settings) (b name file : List ℕ) → IsTaken b → IsEditable s b → IdFits b → MeaningKept s.maps b file → SameSections b file
    → ((o : List ℕ) → IsEdited s b o → o ≡ file) → ((r : Refusal) → SplitFails file name r → ⊥) → (r : Refusal) → OutcomeFails s b name r → ⊥
split-excludes s b name file taken w fits kept sections only none r (elf_row begins fails) = elf_excludes b r taken.reads fails
split-excludes s b name file taken w fits kept sections only none r (edit_row is fails) = editable-excludes s b r w fails
split-excludes s b name file taken w fits kept sections only none r (pair_row is loaded (id_row fails)) = fits.none r fails
split-excludes s b name file taken w fits kept sections only none r (pair_row is loaded (shape_row fails)) =
    none r (shape_fails kept.new.reads.elf (rows-on b file (file_body s.maps b w.accepted.readings) r sections loaded taken.reads w.accepted.written fails))
split-excludes s b name file taken w fits kept sections only none r (pair_row is loaded (long_row other edited fails)) =
    by_length r (subst (λ (x : List ℕ). PairTooLong x name r) (only other edited) fails)
  where
    by_length : (r : Refusal) → PairTooLong file name r → ⊥
    by_length r (long_debug h) = none r (debug_fails kept.new.reads.elf h)
    by_length r (long_stripped h) = none r (stripped_fails kept.new.reads.elf h)

-- ### What is refused

split-row : (s : Settings) (b name file : List ℕ) (r : Refusal) → IsTaken b → is_loaded_kind b ≡ true → IsEdited s b file → ElfReads file → SameSections b file
    → SplitFails file name r → PairFails s b name r
split-row s b name file r taken loaded is reads sections (elf_fails h) = absurd (elf_excludes file r reads h)
split-row s b name file r taken loaded is reads sections (shape_fails other h) = shape_row (rows-back b file r sections loaded taken.reads reads h)
split-row s b name file r taken loaded is reads sections (debug_fails other h) = long_row file is (long_debug h)
split-row s b name file r taken loaded is reads sections (stripped_fails other h) = long_row file is (long_stripped h)

pub refused-split : (s : Settings) (b name file : List ℕ) (f : Fault) → IsTaken b → is_loaded_kind b ≡ true → IsEdited s b file → MeaningKept s.maps b file
    → SameSections b file → Blames (SplitFails file name) f → Blames (OutcomeFails s b name) f
refused-split s b name file NoMemory taken loaded is kept sections h = tt
refused-split s b name file (Refused r) taken loaded is kept sections h =
    pair_row taken loaded (split-row s b name file r taken loaded is kept.new.reads.elf sections h)

-- ### What is kept

-- no relocation stands on the debug data of the two that doesn't stand on those of the file
pair-relocations : (file debug stripped : List ℕ) → MeansAsOne file debug stripped → RelocationsReadIn (file_data file) (moving_sections (view_of file))
    → RelocationsReadIn (debug_data (pair_view debug stripped)) (moving_sections (pair_view debug stripped))
pair-relocations file debug stripped one reads =
    subst (λ (d : DebugData). RelocationsReadIn d (moving_sections (pair_view debug stripped))) (sym one.same_data)
    (subst (λ (ns : List ℕ). RelocationsReadIn (file_data file) ns) (sym one.same_moving) reads)

pair-keeps : (m : PathMap) (b file debug stripped : List ℕ) → MeaningKept m b file → NoLeavings (file_data file) → MeansAsOne file debug stripped
    → PairKeeps m b debug stripped
pair-keeps m b file debug stripped kept none one = record {
  meaning = kept.meaning;
  old = kept.old;
  new = one.means (mapped m kept.meaning) kept.new;
  relocations = pair-relocations file debug stripped one kept.new.reads.relocations.on_data;
  old_one = kept.old_one;
  new_one = λ x is. one.one (mapped m kept.meaning) x kept.new is;
  leavings = subst NoLeavings (sym one.same_data) none;
}

-- what was edited can be read for its sections
view-reads : (m : PathMap) (b file : List ℕ) → MeaningKept m b file → ViewReads file
view-reads m b file kept = record { sections = kept.new.reads.names; relocations = kept.new.reads.relocations.sections }

-- the two files of a pair
pub split-keeps : (m : PathMap) (b name file stripped debug : List ℕ) (id : Option (List ℕ)) (names : List (List ℕ)) (o : Outcome) → MeaningKept m b file → LoadedKept b file
    → NoLeavings (file_data file) → MeansAsOne file debug stripped → ReadApart file debug stripped → (has_nul name ≡ false → IsPaired stripped debug name) → LoadedKept file stripped
    → o ≡ outcome.Split stripped debug id names → OutcomeKeeps m b name o
split-keeps m b name file stripped debug id names o kept loaded none one read paired here made =
    subst (OutcomeKeeps m b name) (sym made)
    (keeps_split (pair-keeps m b file debug stripped kept none one) (read.debug_reads (view-reads m b file kept)) (read.stripped_reads (view-reads m b file kept))
    (record { same = here.same ∙ loaded.same }) paired)
