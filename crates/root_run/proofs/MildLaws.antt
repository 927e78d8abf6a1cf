-- Over a tree that a stop left partway, the texts of the work folder are neither bad nor of another run.
use Rattle.std.proofs.Common.{◌≡◌, ℕ, ◌≤◌, Bool, true, false, if◌then◌else◌, List, length, refl, sym, ap, subst, ◌∙◌, le-leb, Result, Ok, Err}
use Rattle.std.specs.Prelude.{Option, Some, None, is_some, IsTrue}
use Rattle.std.specs.FinMap as fin
use Rattle.dw_base.specs.declared.fault.Refusal.{Refusal}
use Rattle.file_tree.specs.declared.node.Found.{Found}
use Rattle.file_tree.specs.declared.node.Found.TheVariants as found
use Rattle.file_tree.specs.declared.node.Node.{Node}
use Rattle.file_tree.specs.declared.node.Node.TheVariants as node
use Rattle.file_tree.specs.Seen.{Seen, map_now}
use Rattle.file_tree.specs.Trees.{TreeMap, is_below, stands_at}
use Rattle.job_types.specs.Settings.{Settings}
use Rattle.journal_core.specs.Names.{plan, final}
use Rattle.work_texts.specs.declared.journal_err.JournalErr.{JournalErr}
use Rattle.work_texts.specs.declared.journal_err.JournalErr.TheVariants as run
use Rattle.work_texts.specs.declared.journal_err.WorkFile.TheVariants as file
use Rattle.work_texts.specs.declared.key.RunKey.{RunKey}
use Rattle.work_texts.specs.declared.plan.PlanData.{PlanData}
use Rattle.work_texts.specs.BadFields.{IsBadAt, PlanBlames, FinishedBlames}
use Rattle.work_texts.specs.Fields.{text_of, plan_fields, plan_text_fields, finished_fields}
use Rattle.work_texts.specs.Keys.{KeyBlames, key_part}
use Rattle.work_texts.specs.Rules.{IsPlan, IsVersionedPlan, IsFinished, text_limit}
use Rattle.work_texts.proofs.OnePlace.{no_text}
use Rattle.work_journal.specs.declared.opening.Opened.{Opened}
use Rattle.work_journal.specs.Blames.{is_mild_run}
use Rattle.work_journal.specs.Ending.{text_file}
use Rattle.work_journal.specs.Opening.{PlanKept, FinishedKept, TextBlames, TextStands, Opens, bad_place}
use Rattle.work_journal.specs.Opening.{PlanKept as plan_kept, FinishedKept as finished_kept, TextBlames as blames, Opens as opens}
use Rattle.work_journal.specs.Wanted.{Wanted, IsPartway}
use Rattle.work_journal.specs.Work.{work_path}
use Rattle.root_plan.specs.Plans.{key_of}
use Rattle.root_plan.specs.Roots.{work_folder}
use Rattle.root_plan.specs.Verdicts.{JudgeView}
use Rattle.root_run.specs.Partways.{IsPartwayBy}
use Rattle.root_run.specs.RootRuns.{IsRootWanted, IsPartwayRun}
use Rattle.root_run.specs.Wholes.{IsClean, IsRootPlan, end_of, finished_text, older_text, old_plan_text, old_finished_text, is_one}
use Rattle.root_run.proofs.StartLaws.{HasNames, plan-other, finished-other}
use Rattle.root_run.proofs.OldLaws.{HasTexts, old-plan-shorter, old-end-shorter, root-texts}
use Rattle.root_run.proofs.TextLaws.{IsOwn, IsOwnPlan, IsOwnEnd, told-plan, told-end, own-plan-fits, own-end-fits, own-plan-within, own-end-within, at-most, plan-bytes, finished-bytes, plan-read, finished-read}
use Rattle.root_run.proofs.TextLaws.{IsOwn as holds}
use Rattle.root_run.proofs.WaysLaws.{FoundBy, found_plan}

-- ### Answers

abbrev err_of : JournalErr → Result Opened JournalErr
err_of e = Err e

no-ok : (o : Opened) (e : JournalErr) → Ok o ≡ err_of e → ⊥
no-ok o e h = cc

same-err : (d e : JournalErr) → err_of d ≡ err_of e → d ≡ e
same-err d e h = cc

mild-as : (d e : JournalErr) → err_of d ≡ err_of e → IsTrue (is_mild_run d) → IsTrue (is_mild_run e)
mild-as d e h mild = subst (λ (x : JournalErr). IsTrue (is_mild_run x)) (same-err d e h) mild

plan-blames-mild : (bytes : List ℕ) (e : JournalErr) → ((at : ℕ) → IsBadAt plan_text_fields IsVersionedPlan bytes at → ⊥) → PlanBlames bytes e → IsTrue (is_mild_run e)
plan-blames-mild bytes (run.PlanText file.Plan at) never b = absurd (never at b)
plan-blames-mild bytes (run.PlanText file.Finished at) never b = absurd b
plan-blames-mild bytes run.NoMemory never b = refl
plan-blames-mild bytes (run.OtherRun field kept given) never b = absurd b
plan-blames-mild bytes (run.Changed path planned digest) never b = absurd b
plan-blames-mild bytes (run.Refused path refusal) never b = absurd b
plan-blames-mild bytes run.Tree never b = absurd b

finished-blames-mild : (bytes : List ℕ) (e : JournalErr) → ((at : ℕ) → IsBadAt finished_fields IsFinished bytes at → ⊥) → FinishedBlames bytes e → IsTrue (is_mild_run e)
finished-blames-mild bytes (run.PlanText file.Plan at) never b = absurd b
finished-blames-mild bytes (run.PlanText file.Finished at) never b = absurd (never at b)
finished-blames-mild bytes run.NoMemory never b = refl
finished-blames-mild bytes (run.OtherRun field kept given) never b = absurd b
finished-blames-mild bytes (run.Changed path planned digest) never b = absurd b
finished-blames-mild bytes (run.Refused path refusal) never b = absurd b
finished-blames-mild bytes run.Tree never b = absurd b

own-key : (kept given : RunKey) (e : JournalErr) → kept ≡ given → KeyBlames kept given e → ⊥
own-key kept given e same (n, differs, other) = differs.here (ap (λ (k : RunKey). key_part k n) same)

-- ### A text that is there is read

none-some : (at : ℕ) → None ≡ Some at → ⊥
none-some at e = cc

none-there : (o : Option Node) → is_some o ≡ true → o ≡ None → ⊥
none-there None e f = cc
none-there (Some n) e f = cc

pub file-read : (t : TreeMap) (path bytes : List ℕ) (mode limit : ℕ) → fin.get t path ≡ Some (node.File bytes mode) → length bytes ≤ limit → stands_at t path limit ≡ found.File bytes mode
unfolding stands_at
file-read t path bytes mode limit there few = rw (there, le-leb (length bytes) limit few) refl

-- one of the allowed length, whoever wrote it
pub record IsShort (x : Found) : Type 0 where
  pub bytes : List ℕ
  pub mode : ℕ
  pub is : x ≡ found.File bytes mode

short-file : (t : TreeMap) (path bytes : List ℕ) → fin.get t path ≡ Some (text_file bytes) → length bytes ≤ text_limit → IsShort (stands_at t path text_limit)
short-file t path bytes there few = record { bytes = bytes; mode = 420; is = file-read t path bytes 420 text_limit there few }

older-short : (t : TreeMap) (path text : List ℕ) (b : Bool) → is_some (fin.get t path) ≡ true → fin.get t path ≡ (if b then Some (text_file text) else None) → length text ≤ text_limit
    → IsShort (stands_at t path text_limit)
older-short t path text true has there few = short-file t path text there few
older-short t path text false has there few = absurd (none-there (fin.get t path) has there)

own-short : (p : PlanData) (t : TreeMap) (path text old : List ℕ) → is_some (fin.get t path) ≡ true → length text ≤ text_limit → length old ≤ text_limit
    → IsOwn (text_file text) (older_text p old) (fin.get t path) → IsShort (stands_at t path text_limit)
own-short p t path text old has short less (holds.not_there none) = absurd (none-there (fin.get t path) has none)
own-short p t path text old has short less (holds.by_this there) = short-file t path text there short
own-short p t path text old has short less (holds.by_earlier is) = older-short t path old (is_one p) has is.same less

text-mild : (seen : Seen) (path : List ℕ) (e : JournalErr) → seen.tells ≡ true → IsShort (stands_at (map_now seen.past) path text_limit) → TextBlames seen path file.Plan e
    → IsTrue (is_mild_run e)
text-mild seen path e tells stands (blames.no_text at none) = absurd (none-some at (ap bad_place (sym stands.is) ∙ none.is tells))
text-mild seen path e tells stands blames.text_fault = refl
text-mild seen path e tells stands blames.text_memory = refl

end-mild : (seen : Seen) (path : List ℕ) (e : JournalErr) → seen.tells ≡ true → IsShort (stands_at (map_now seen.past) path text_limit) → TextBlames seen path file.Finished e
    → IsTrue (is_mild_run e)
end-mild seen path e tells stands (blames.no_text at none) = absurd (none-some at (ap bad_place (sym stands.is) ∙ none.is tells))
end-mild seen path e tells stands blames.text_fault = refl
end-mild seen path e tells stands blames.text_memory = refl

-- ### The texts of a run

module _ (w : Wanted) (p : PlanData) (texts : HasTexts w p) (seen : Seen) (tells : seen.tells ≡ true) (partway : IsPartway w (map_now seen.past)) (fits : IsPlan p) (key : RunKey)
    (same : p.key ≡ key) where
  module _ (has : is_some (fin.get (map_now seen.past) (work_path w.work plan)) ≡ true) (short : length (text_of (plan_fields p)) ≤ text_limit) where
    plan-stands : IsShort (stands_at (map_now seen.past) (work_path w.work plan) text_limit)
    plan-stands =
        own-short p (map_now seen.past) (work_path w.work plan) (text_of (plan_fields p)) (old_plan_text p) has short
        (at-most (length (old_plan_text p)) (length (text_of (plan_fields p))) text_limit (old-plan-shorter p) short) (told-plan w p texts (map_now seen.past) partway)

    plan-never-bad : (bytes : List ℕ) → TextStands seen (work_path w.work plan) bytes → (at : ℕ) → IsBadAt plan_text_fields IsVersionedPlan bytes at → ⊥
    plan-never-bad bytes stands at bad =
        let is : IsOwnPlan p bytes = plan-bytes w p texts (map_now seen.past) partway bytes stands.mode (stands.is tells) in
        no_text plan_text_fields IsVersionedPlan bytes at (record { old = is.old; plan = p }) bad (own-plan-fits p bytes fits is) is.text (own-plan-within p bytes is short)

    pub plan-mild : (r : Result Opened JournalErr) (e : JournalErr) → PlanKept seen (work_path w.work plan) key r → r ≡ err_of e → IsTrue (is_mild_run e)
    plan-mild r e (plan_kept.plan_read bytes x stands text is) h = absurd (no-ok _ e h)
    plan-mild r e (plan_kept.plan_not_there {e = d} b) h = mild-as d e h (text-mild seen (work_path w.work plan) d tells plan-stands b)
    plan-mild r e (plan_kept.plan_bad {e = d} bytes stands b) h = mild-as d e h (plan-blames-mild bytes d (plan-never-bad bytes stands) b)
    plan-mild r e (plan_kept.plan_other {e = d} bytes x stands text b) h =
        let own : x ≡ p = plan-read w p texts (map_now seen.past) partway bytes stands.mode x fits (stands.is tells) text in
        absurd (own-key x.key key d (ap (λ (y : PlanData). y.key) own ∙ same) b)

  module _ (has : is_some (fin.get (map_now seen.past) (work_path w.work (final 3))) ≡ true) (short : length (finished_text p) ≤ text_limit) where
    finished-stands : IsShort (stands_at (map_now seen.past) (work_path w.work (final 3)) text_limit)
    finished-stands =
        own-short p (map_now seen.past) (work_path w.work (final 3)) (finished_text p) (old_finished_text p) has short
        (at-most (length (old_finished_text p)) (length (finished_text p)) text_limit (old-end-shorter p) short) (told-end w p texts (map_now seen.past) partway)

    finished-never-bad : (bytes : List ℕ) → TextStands seen (work_path w.work (final 3)) bytes → (at : ℕ) → IsBadAt finished_fields IsFinished bytes at → ⊥
    finished-never-bad bytes stands at bad =
        let is : IsOwnEnd p bytes = finished-bytes w p texts (map_now seen.past) partway bytes stands.mode (stands.is tells) in
        no_text finished_fields IsFinished bytes at (end_of is.old p) bad (own-end-fits p bytes fits is) is.text (own-end-within p bytes is short)

    pub finished-mild : (r : Result Opened JournalErr) (e : JournalErr) → FinishedKept seen (work_path w.work (final 3)) key r → r ≡ err_of e → IsTrue (is_mild_run e)
    finished-mild r e (finished_kept.finished_read bytes x stands text is) h = absurd (no-ok _ e h)
    finished-mild r e (finished_kept.finished_not_there {e = d} b) h = mild-as d e h (end-mild seen (work_path w.work (final 3)) d tells finished-stands b)
    finished-mild r e (finished_kept.finished_bad {e = d} bytes stands b) h = mild-as d e h (finished-blames-mild bytes d (finished-never-bad bytes stands) b)
    finished-mild r e (finished_kept.finished_other {e = d} bytes x stands text b) h =
        let own = finished-read w p texts (map_now seen.past) partway bytes stands.mode x fits (stands.is tells) text in
        absurd (own-key x.key key d (own.1 ∙ same) b)

-- ### Opening a work folder

-- what is wanted has the texts of a plan that the work folder may have, of this key
pub record IsTold (work : List ℕ) (key : RunKey) (w : Wanted) : Type 0 where
  pub plan_of : PlanData
  pub texts : HasTexts w plan_of
  pub work_is : w.work ≡ work
  pub fits : IsPlan plan_of
  pub key_is : plan_of.key ≡ key
  pub within : length (text_of (plan_fields plan_of)) ≤ text_limit

module _ (start : TreeMap) (work : List ℕ) (key : RunKey) (may : Wanted → Type 0) (clean : (q : List ℕ) → IsTrue (is_below work q) → fin.get start q ≡ None)
    (are_told : (w : Wanted) → may w → IsTold work key w) (shorter : (p : PlanData) → length (finished_text p) ≤ length (text_of (plan_fields p)))
    (seen : Seen) (paths : List (List ℕ)) (tells : seen.tells ≡ true) (partway : IsPartwayBy start work may (map_now seen.past)) (names : HasNames work (map_now seen.past) paths) where
  plan-by : (r : Result Opened JournalErr) (e : JournalErr) → is_some (fin.get (map_now seen.past) (work_path work plan)) ≡ true → FoundBy may (map_now seen.past)
      → PlanKept seen (work_path work plan) key r → r ≡ err_of e → IsTrue (is_mild_run e)
  plan-by r e has f kept h =
      let x = are_told f.w f.is in
      plan-mild f.w x.plan_of x.texts seen tells f.partway x.fits key x.key_is
      (subst (λ (k : List ℕ). is_some (fin.get (map_now seen.past) (work_path k plan)) ≡ true) (sym x.work_is) has) x.within r e
      (subst (λ (k : List ℕ). PlanKept seen (work_path k plan) key r) (sym x.work_is) kept) h

  finished-by : (r : Result Opened JournalErr) (e : JournalErr) → is_some (fin.get (map_now seen.past) (work_path work (final 3))) ≡ true → FoundBy may (map_now seen.past)
      → FinishedKept seen (work_path work (final 3)) key r → r ≡ err_of e → IsTrue (is_mild_run e)
  finished-by r e has f kept h =
      let x = are_told f.w f.is in
      finished-mild f.w x.plan_of x.texts seen tells f.partway x.fits key x.key_is
      (subst (λ (k : List ℕ). is_some (fin.get (map_now seen.past) (work_path k (final 3))) ≡ true) (sym x.work_is) has)
      (at-most (length (finished_text x.plan_of)) (length (text_of (plan_fields x.plan_of))) text_limit (shorter x.plan_of) x.within) r e
      (subst (λ (k : List ℕ). FinishedKept seen (work_path k (final 3)) key r) (sym x.work_is) kept) h

  opens-by : (r : Result Opened JournalErr) (e : JournalErr) → Opens work paths key seen r → r ≡ err_of e → IsTrue (is_mild_run e)
  opens-by r e opens.opens_memory h = mild-as run.NoMemory e h refl
  opens-by r e (opens.opens_empty none other) h = absurd (no-ok _ e h)
  opens-by r e (opens.opens_plan none has kept) h =
      let there : is_some (fin.get (map_now seen.past) (work_path work plan)) ≡ true = sym (names.named plan) ∙ has in
      plan-by r e there (found_plan start work may (map_now seen.past) plan clean (plan-other work) there partway) kept h
  opens-by r e (opens.opens_finished has kept) h =
      let there : is_some (fin.get (map_now seen.past) (work_path work (final 3))) ≡ true = sym (names.named (final 3)) ∙ has in
      finished-by r e there (found_plan start work may (map_now seen.past) (final 3) clean (finished-other work) there partway) kept h

  -- no text is bad, and none is of another run
  pub told-mild : (e : JournalErr) → Opens work paths key seen (Err e) → IsTrue (is_mild_run e)
  told-mild e o = opens-by (err_of e) e o refl

module _ (start : TreeMap) (root : List ℕ) (s : Settings) (v : JudgeView) (fails : List ℕ → List ℕ → Refusal → Type 0) (clean : IsClean start root (work_folder root))
    (fit : (p : PlanData) (made : List (List Node)) → IsRootPlan start root s v fails p made → IsPlan p)
    (shorter : (p : PlanData) → length (finished_text p) ≤ length (text_of (plan_fields p)))
    (seen : Seen) (paths : List (List ℕ)) (tells : seen.tells ≡ true) (partway : IsPartwayRun start root (work_folder root) s v fails (map_now seen.past))
    (names : HasNames (work_folder root) (map_now seen.past) paths) where
  root-key : (p : PlanData) (made : List (List Node)) → IsRootPlan start root s v fails p made → p.key ≡ key_of s
  root-key p made is = ap (λ (x : PlanData). x.key) is.plan_is.is

  root-told : (w : Wanted) → IsRootWanted start root (work_folder root) s v fails w → IsTold (work_folder root) (key_of s) w
  root-told w is = record {
    plan_of = is.plan;
    texts = subst (λ (x : Wanted). HasTexts x is.plan) (sym is.is) (root-texts start root (work_folder root) is.plan is.made);
    work_is = ap (λ (x : Wanted). x.work) is.is;
    fits = fit is.plan is.made is.planned;
    key_is = root-key is.plan is.made is.planned;
    within = is.planned.plan_is.within;
  }

  -- so it is of a run over a root
  pub opens-mild : (e : JournalErr) → Opens (work_folder root) paths (key_of s) seen (Err e) → IsTrue (is_mild_run e)
  opens-mild e o =
      told-mild start (work_folder root) (key_of s) (IsRootWanted start root (work_folder root) s v fails) clean.none_below root-told shorter seen paths tells partway names e o
