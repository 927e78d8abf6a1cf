-- What becomes of a file with all that was asked of it: it is its one outcome, no row holds, it keeps what the file means and what is loaded
-- of it, and its build-id is one.
use Rattle.std.proofs.Common.{◌≡◌, inl, inr, ℕ, ◌+◌, ◌<◌, List, take, drop, Option, Some, None, refl, sym, ap, ◌∙◌, subst, arith}
use Rattle.std.specs.Prelude.{slice_index}
use Rattle.std.proofs.lemmas.Bool.{cases_lt}
use Rattle.std.proofs.lemmas.List.{get_or-drop, get_or-take, get_or_past, length-drop, length-take, length-take-le}
use Rattle.dw_base.specs.ElfFails.{ElfReads}
use Rattle.dw_base.specs.Notes.{Descriptor}
use Rattle.dw_base.specs.Paths.{PathMap}
use Rattle.dw_base.specs.declared.fault.Refusal.{Refusal}
use Rattle.build_ident.specs.IdFails.{IsId, id_place, id_section}
use Rattle.dbg_split.specs.DebugFile.{debug_file}
use Rattle.dbg_split.specs.StrippedFile.{stripped_file}
use Rattle.dbg_split.proofs.KeptLaws.{front-kept_by}
use Rattle.dbg_split.proofs.PairLaws.{loaded-back, means-back, paired-back, reads-back}
use Rattle.job_types.specs.Settings.{Settings}
use Rattle.job_types.specs.declared.outcome.Outcome.{Outcome}
use Rattle.job_types.specs.declared.outcome.Outcome.TheVariants as outcome
use Rattle.dbg_job.specs.NewIds.{IdFits, id_bytes, id_bytes_in}
use Rattle.dbg_job.specs.Outcomes.{IsIdBytes, IsMade, IsOutcome, IsSplitOf, OutcomeFails, OutcomeKeeps}
use Rattle.dbg_job.specs.Outcomes.IsMade.{left as made_left, edited as made_edited, split as made_split}
use Rattle.dbg_job.specs.Outcomes.IsOutcome.{left as is_left, edited as is_edited, split as is_split}
use Rattle.dbg_job.specs.Outcomes.OutcomeKeeps.{left as keeps_left, edited as keeps_edited}
use Rattle.dbg_job.proofs.EditKeptLaws.{IsKept, edit-kept}
use Rattle.dbg_job.proofs.IdKeptLaws.{IdLies, id-lies}
use Rattle.dbg_job.proofs.IdPlaceLaws.{id-is, no-id}
use Rattle.dbg_job.proofs.NewIdLaws.{HasId, has-id, id-within}
use Rattle.dbg_job.proofs.NewIdLaws.HasId.{without, with}
use Rattle.dbg_job.proofs.OutcomeLaws.{edited-excludes, left-excludes, split-excludes, split-keeps}
use Rattle.dbg_job.proofs.OutcomeOneLaws.{edited-one}

-- it is its outcome
pub made-is : (s : Settings) (b name : List ℕ) (o : Outcome) → IsMade s b name o → IsOutcome s b name o
made-is s b name _ (made_left why) = is_left why
made-is s b name _ (made_edited taken free is sources) = is_edited taken free is.edited sources
made-is s b name _ (made_split taken loaded fits is parts sources) = is_split taken loaded is.edited sources

-- no row holds
pub made-excludes : (s : Settings) (b name : List ℕ) (o : Outcome) (r : Refusal) → IsMade s b name o → OutcomeFails s b name r → ⊥
made-excludes s b name _ r (made_left {why = why} is) fails = left-excludes s b name why is r fails
made-excludes s b name _ r (made_edited taken free is sources) fails = edited-excludes s b name taken free is.editable r fails
made-excludes s b name _ r (made_split {file = file} taken loaded fits is parts sources) fails =
    let kept = edit-kept s b file is in
    split-excludes s b name file taken is.editable fits kept.meaning kept.sections (λ o other. edited-one s b o file other is.edited) parts.unrefused r fails

-- it keeps what the file means, and what is loaded
pub split-kept : (m : PathMap) (b name file : List ℕ) (names : List (List ℕ)) → IsKept m b file → IsSplitOf file name
    → OutcomeKeeps m b name (outcome.Split (stripped_file file name) (debug_file file) (id_bytes file) names)
split-kept m b name file names kept parts =
    let reads : ElfReads file = kept.meaning.new.reads.elf in
    let front = front-kept_by file name (stripped_file file name) reads refl in
    split-keeps m b name file (stripped_file file name) (debug_file file) (id_bytes file) names
    (outcome.Split (stripped_file file name) (debug_file file) (id_bytes file) names) kept.meaning kept.loaded kept.leavings
    (means-back file name (debug_file file) (stripped_file file name) kept.small reads parts.bytes parts.unrefused refl refl)
    (reads-back file name (debug_file file) (stripped_file file name) kept.small reads parts.bytes parts.unrefused front refl refl)
    (paired-back file name (debug_file file) (stripped_file file name) kept.small reads parts.bytes parts.unrefused refl refl)
    (loaded-back file name (stripped_file file name) kept.small reads parts.bytes parts.unrefused front refl) refl

pub made-keeps : (s : Settings) (b name : List ℕ) (o : Outcome) → IsMade s b name o → OutcomeKeeps s.maps b name o
made-keeps s b name _ (made_left why) = keeps_left
made-keeps s b name _ (made_edited {file = file} taken free is sources) = let kept = edit-kept s b file is in keeps_edited kept.meaning kept.loaded kept.leavings
made-keeps s b name _ (made_split {file = file} {names = names} taken loaded fits is parts sources) =
    split-kept s.maps b name file names (edit-kept s b file is) parts

-- ### Its build-id

-- a part of bytes has bytes
part-bytes : (b : List ℕ) (at n : ℕ) → ((k : ℕ) → slice_index b k < 256) → (k : ℕ) → slice_index (take n (drop at b)) k < 256
part-bytes b at n bytes k = elim (cases_lt k n) [
  | inl below ↦ rw (get_or-take n (drop at b) k 0 below, get_or-drop at b k 0) (bytes (at + k))
  | inr behind ↦
      let short : slice_index (take n (drop at b)) k ≡ 0 = get_or_past (take n (drop at b)) k 0 (omega (arith, length-take n (drop at b), behind)) in
      omega (arith, short)
]

bytes-fit : (b : List ℕ) (i : ℕ) (d : Descriptor) → ElfReads b → IsId b i d → ((k : ℕ) → slice_index b k < 256) → IsIdBytes (take d.size (drop (id_place b i d) b))
bytes-fit b i d reads is bytes =
    let lies : IdLies b i d = id-lies b i d is in
    let within = id-within b i d reads lies in
    let long = length-take-le d.size (drop (id_place b i d) b) (omega (arith, length-drop (id_place b i d) b, within)) in
    record {
      some = omega (arith, long, lies.some);
      wide = omega (arith, long, lies.wide);
      bytes = part-bytes b (id_place b i d) d.size bytes;
    }

id-bytes-is : (b : List ℕ) (i : ℕ) (d : Descriptor) → IsId b i d → id_bytes b ≡ Some (take d.size (drop (id_place b i d) b))
unfolding id_bytes
id-bytes-is b i d is = ap (id_bytes_in b) (id-is b i d is)

id-bytes-none : (b : List ℕ) → id_section b ≡ None → id_bytes b ≡ None
unfolding id_bytes
id-bytes-none b none = ap (id_bytes_in b) (no-id b none)

id-fits : (b id : List ℕ) → ElfReads b → IdFits b → ((k : ℕ) → slice_index b k < 256) → id_bytes b ≡ Some id → IsIdBytes id
id-fits b id reads fits bytes is = by_id (has-id b fits)
  where
    by_id : HasId b → IsIdBytes id
    by_id (without none) = let no : None ≡ Some id = sym (id-bytes-none b none) ∙ is in absurd cc
    by_id (with i d there) =
        let same : take d.size (drop (id_place b i d) b) ≡ id = let e : Some (take d.size (drop (id_place b i d) b)) ≡ Some id = sym (id-bytes-is b i d there) ∙ is in cc in
        subst IsIdBytes same (bytes-fit b i d reads there bytes)

-- the build-id of an outcome
outcome_id : Outcome → Option (List ℕ)
outcome_id (outcome.Split stripped debug id names) = id
outcome_id (outcome.Edited file names) = None
outcome_id (outcome.Left why) = None

id-of-made : (s : Settings) (b name id : List ℕ) (o : Outcome) → IsMade s b name o → outcome_id o ≡ Some id → IsIdBytes id
unfolding outcome_id
id-of-made s b name id _ (made_left why) is = cc
id-of-made s b name id _ (made_edited taken free edit sources) is = cc
id-of-made s b name id _ (made_split {file = file} taken loaded fits edit parts sources) is =
    let kept = edit-kept s b file edit in
    id-fits file id kept.meaning.new.reads.elf (kept.fits fits) parts.bytes is

pub made-ids : (s : Settings) (b name stripped debug id : List ℕ) (names : List (List ℕ)) → IsMade s b name (outcome.Split stripped debug (Some id) names) → IsIdBytes id
unfolding outcome_id
made-ids s b name stripped debug id names made = id-of-made s b name id (outcome.Split stripped debug (Some id) names) made refl
