-- What the status of a run's end says: of a fault of the tree, of the tree that is left, and of refused and changed files.
use Rattle.std.proofs.Common.{◌≡◌, ◌≢◌, ℕ, ◌==◌, Bool, true, false, ◌||◌, if◌then◌else◌, List, refl, sym, ap, ◌∙◌, inl, inr, ◌⊎◌, Result, Ok, Err}
use Rattle.std.specs.Prelude.{Some, None, IsTrue}
use Rattle.dw_base.specs.declared.fault.Refusal.{Refusal}
use Rattle.file_tree.specs.declared.node.Found.{Found}
use Rattle.file_tree.specs.declared.node.Found.TheVariants as found
use Rattle.file_tree.specs.Causes.{Rose}
use Rattle.file_tree.specs.Seen.{Seen, now_of, map_now}
use Rattle.file_tree.specs.Trees.{TreeMap}
use Rattle.job_types.specs.Settings.{Settings}
use Rattle.work_texts.specs.declared.journal_err.JournalErr.{JournalErr}
use Rattle.work_texts.specs.declared.journal_err.JournalErr.TheVariants as journal
use Rattle.work_texts.specs.declared.journal_err.WorkFile.{WorkFile}
use Rattle.work_texts.specs.declared.key.RunKey.{RunKey}
use Rattle.work_texts.specs.BadFields.{PlanBlames, FinishedBlames}
use Rattle.work_texts.specs.Keys.{KeyBlames}
use Rattle.work_journal.specs.declared.opening.Opened.{Opened}
use Rattle.work_journal.specs.declared.opening.Opened.TheVariants as opened
use Rattle.work_journal.specs.Opening.{TextBlames, PlanKept, FinishedKept, Opens}
use Rattle.work_journal.specs.Opening.{TextBlames as blames, PlanKept as plan_kept, FinishedKept as finished_kept, Opens as opens}
use Rattle.work_journal.specs.Blames.{is_mild_run, RunBlames}
use Rattle.work_journal.specs.Views.{MakerView}
use Rattle.root_plan.specs.declared.plan_err.PlanErr.{PlanErr}
use Rattle.root_plan.specs.declared.plan_err.PlanErr.TheVariants as err
use Rattle.root_plan.specs.Plans.{NewEnds, PlanEnds, key_of}
use Rattle.root_plan.specs.Plans.{NewEnds as news, PlanEnds as ends}
use Rattle.root_plan.specs.Roots.{below_root}
use Rattle.root_plan.specs.Tallies.{IsTooLong, CandidateEnds, LargeEnds, FoundEnds, PathEnds}
use Rattle.root_plan.specs.Tallies.{IsTooLong as too_long, FileEnds as file_ends, CandidateEnds as candidate, LargeEnds as large, PathEnds as path_ends}
use Rattle.root_plan.specs.Verdicts.{JudgeView}
use Rattle.root_plan.specs.Walks.{WalkEnds}
use Rattle.root_plan.specs.Walks.{WalkEnds as walk}
use Rattle.root_run.specs.declared.run_err.RunErr.{RunErr}
use Rattle.root_run.specs.Dues.{IsResumed}
use Rattle.root_run.specs.RunEnds.{IsSame, RunEnds, leaves_tree, plan_status, journal_status, run_status}
use Rattle.root_run.specs.RunEnds.{RunEnds as run_ends}
use Rattle.root_run.proofs.DueLaws.{resumed-is}

skips-not : (b : Bool) → b ≡ true → b ≡ false → ⊥
skips-not true e f = cc
skips-not false e f = cc

-- statuses of files that are refused or changed
abbrev of_jobs : ℕ → Bool
of_jobs n = n == 3 || n == 10

-- ### A fault of the tree

long-fault : (path : List ℕ) (e : PlanErr) → IsTooLong path e → plan_status e ≡ 6 → ⊥
long-fault path e (too_long.long l) is = cc
long-fault path e too_long.no_memory is = cc

walk-fault : (root : List ℕ) (old new : Seen) (e : PlanErr) → WalkEnds old new root e → plan_status e ≡ 6 → Rose old.faults new.faults
walk-fault root old new e (walk.absent h) is = cc
walk-fault root old new e (walk.many h) is = cc
walk-fault root old new e (walk.failed rose) is = rose
walk-fault root old new e walk.memory is = cc

module _ (root : List ℕ) (s : Settings) (v : JudgeView) (fails : List ℕ → List ℕ → Refusal → Type 0) where
  candidate-fault : (path below bytes : List ℕ) (e : PlanErr) → CandidateEnds s v fails path below bytes e → plan_status e ≡ 6 → ⊥
  candidate-fault path below bytes e (candidate.too_long x) is = long-fault path e x is
  candidate-fault path below bytes e (candidate.file_ends l (file_ends.refused u x k)) is = cc
  candidate-fault path below bytes e (candidate.file_ends l file_ends.no_memory) is = cc
  candidate-fault path below bytes e candidate.no_memory is = cc

  large-fault : (path : List ℕ) (size : ℕ) (e : PlanErr) → LargeEnds path size e → plan_status e ≡ 6 → ⊥
  large-fault path size e (large.too_long x) is = long-fault path e x is
  large-fault path size e (large.large l) is = cc
  large-fault path size e large.no_memory is = cc

  found-fault : (path below : List ℕ) (what : Found) (e : PlanErr) → FoundEnds s v fails path below what e → plan_status e ≡ 6 → ⊥
  found-fault path below found.Absent e x is = x
  found-fault path below found.Folder e x is = x
  found-fault path below (found.File bytes mode) e x is = candidate-fault path below bytes e x is
  found-fault path below (found.Link target) e x is = x
  found-fault path below (found.TooLarge size) e x is = large-fault path size e x is

  path-fault : (old new : Seen) (path : List ℕ) (e : PlanErr) → PathEnds old new root s v fails path e → plan_status e ≡ 6 → Rose old.faults new.faults
  path-fault old new path e (path_ends.at_found {what} may stood x) is = absurd (found-fault path (below_root root path) what e x is)
  path-fault old new path e (path_ends.failed rose) is = rose
  path-fault old new path e path_ends.no_memory is = cc

  news-fault : (present paths : List (List ℕ)) (e : PlanErr) → NewEnds present paths e → plan_status e ≡ 6 → ⊥
  news-fault present paths e (news.too_long {path} c x) is = long-fault path e x is
  news-fault present paths e (news.taken short x) is = cc
  news-fault present paths e news.no_memory is = cc

  pub plan-fault : (old new : Seen) (present : List (List ℕ)) (e : PlanErr) → PlanEnds old new root present s v fails e → plan_status e ≡ 6 → Rose old.faults new.faults
  plan-fault old new present e (ends.many l) is = cc
  plan-fault old new present e (ends.at_path n few l ts x) is = path-fault old new _ e x is
  plan-fault old new present e (ends.at_new tallied x) is = absurd (news-fault present _ e x is)
  plan-fault old new present e (ends.at_text tallied can l) is = cc
  plan-fault old new present e (ends.at_look made planned rose) is = rose
  plan-fault old new present e ends.no_memory is = cc

  -- ### A refused file: where files that are refused are passed over, none ends a plan

  long-refused : (path : List ℕ) (e : PlanErr) → IsTooLong path e → IsTrue (of_jobs (plan_status e)) → ⊥
  long-refused path e (too_long.long l) is = cc
  long-refused path e too_long.no_memory is = cc

  candidate-refused : (path below bytes : List ℕ) (e : PlanErr) → CandidateEnds s v fails path below bytes e → IsTrue (of_jobs (plan_status e)) → s.skip ≡ false
  candidate-refused path below bytes e (candidate.too_long x) is = absurd (long-refused path e x is)
  candidate-refused path below bytes e (candidate.file_ends l (file_ends.refused u x keeps)) is = keeps
  candidate-refused path below bytes e (candidate.file_ends l file_ends.no_memory) is = cc
  candidate-refused path below bytes e candidate.no_memory is = cc

  large-refused : (path : List ℕ) (size : ℕ) (e : PlanErr) → LargeEnds path size e → IsTrue (of_jobs (plan_status e)) → ⊥
  large-refused path size e (large.too_long x) is = long-refused path e x is
  large-refused path size e (large.large l) is = cc
  large-refused path size e large.no_memory is = cc

  found-refused : (path below : List ℕ) (what : Found) (e : PlanErr) → FoundEnds s v fails path below what e → IsTrue (of_jobs (plan_status e)) → s.skip ≡ false
  found-refused path below found.Absent e x is = absurd x
  found-refused path below found.Folder e x is = absurd x
  found-refused path below (found.File bytes mode) e x is = candidate-refused path below bytes e x is
  found-refused path below (found.Link target) e x is = absurd x
  found-refused path below (found.TooLarge size) e x is = absurd (large-refused path size e x is)

  path-refused : (old new : Seen) (path : List ℕ) (e : PlanErr) → PathEnds old new root s v fails path e → IsTrue (of_jobs (plan_status e)) → s.skip ≡ false
  path-refused old new path e (path_ends.at_found {what} may stood x) is = found-refused path (below_root root path) what e x is
  path-refused old new path e (path_ends.failed rose) is = cc
  path-refused old new path e path_ends.no_memory is = cc

  news-refused : (present paths : List (List ℕ)) (e : PlanErr) → NewEnds present paths e → IsTrue (of_jobs (plan_status e)) → ⊥
  news-refused present paths e (news.too_long {path} c x) is = long-refused path e x is
  news-refused present paths e (news.taken short x) is = cc
  news-refused present paths e news.no_memory is = cc

  plan-refused : (old new : Seen) (present : List (List ℕ)) (e : PlanErr) → PlanEnds old new root present s v fails e → IsTrue (of_jobs (plan_status e)) → s.skip ≡ false
  plan-refused old new present e (ends.many l) is = cc
  plan-refused old new present e (ends.at_path n few l ts x) is = path-refused old new _ e x is
  plan-refused old new present e (ends.at_new tallied x) is = absurd (news-refused present _ e x is)
  plan-refused old new present e (ends.at_text tallied can l) is = cc
  plan-refused old new present e (ends.at_look made planned rose) is = cc
  plan-refused old new present e ends.no_memory is = cc

walk-refused : (root : List ℕ) (old new : Seen) (e : PlanErr) → WalkEnds old new root e → IsTrue (of_jobs (plan_status e)) → ⊥
walk-refused root old new e (walk.absent h) is = cc
walk-refused root old new e (walk.many h) is = cc
walk-refused root old new e (walk.failed rose) is = cc
walk-refused root old new e walk.memory is = cc

-- ### A text of the work folder

-- an end that names a text
abbrev pub is_of_text : JournalErr → Bool
is_of_text (journal.Changed path planned digest) = false
is_of_text (journal.Refused path r) = false
is_of_text journal.Tree = false
is_of_text journal.NoMemory = false
is_of_text (journal.PlanText file at) = true
is_of_text (journal.OtherRun field kept given) = true

abbrev pub err_of : JournalErr → Result Opened JournalErr
err_of e = Err e

no-ok : (o : Opened) (e : JournalErr) → Ok o ≡ err_of e → ⊥
no-ok o e h = cc

same-err : (d e : JournalErr) → err_of d ≡ err_of e → d ≡ e
same-err d e h = cc

mild-not : (d e : JournalErr) → err_of d ≡ err_of e → is_mild_run e ≡ false → IsTrue (is_mild_run d) → ⊥
mild-not d e h hard mild = skips-not (is_mild_run d) mild (ap is_mild_run (same-err d e h) ∙ hard)

there-text : (seen : Seen) (path : List ℕ) (f : WorkFile) (d e : JournalErr) → err_of d ≡ err_of e → is_mild_run e ≡ false → TextBlames seen path f d → is_of_text d ≡ true
there-text seen path f d e h hard (blames.no_text at none) = refl
there-text seen path f d e h hard blames.text_fault = absurd (mild-not journal.Tree e h hard refl)
there-text seen path f d e h hard blames.text_memory = absurd (mild-not journal.NoMemory e h hard refl)

plan-text : (bytes : List ℕ) (d e : JournalErr) → err_of d ≡ err_of e → is_mild_run e ≡ false → PlanBlames bytes d → is_of_text d ≡ true
plan-text bytes (journal.PlanText file at) e h hard b = refl
plan-text bytes (journal.OtherRun field kept given) e h hard b = refl
plan-text bytes journal.NoMemory e h hard b = absurd (mild-not journal.NoMemory e h hard refl)
plan-text bytes (journal.Changed path planned digest) e h hard b = absurd b
plan-text bytes (journal.Refused path r) e h hard b = absurd b
plan-text bytes journal.Tree e h hard b = absurd b

finished-text : (bytes : List ℕ) (d e : JournalErr) → err_of d ≡ err_of e → is_mild_run e ≡ false → FinishedBlames bytes d → is_of_text d ≡ true
finished-text bytes (journal.PlanText file at) e h hard b = refl
finished-text bytes (journal.OtherRun field kept given) e h hard b = refl
finished-text bytes journal.NoMemory e h hard b = absurd (mild-not journal.NoMemory e h hard refl)
finished-text bytes (journal.Changed path planned digest) e h hard b = absurd b
finished-text bytes (journal.Refused path r) e h hard b = absurd b
finished-text bytes journal.Tree e h hard b = absurd b

key-text : (kept given : RunKey) (d e : JournalErr) → err_of d ≡ err_of e → is_mild_run e ≡ false → KeyBlames kept given d → is_of_text d ≡ true
key-text kept given (journal.OtherRun field a b) e h hard k = refl
key-text kept given (journal.PlanText file at) e h hard k = refl
key-text kept given journal.NoMemory e h hard k = absurd (mild-not journal.NoMemory e h hard refl)
key-text kept given (journal.Changed path planned digest) e h hard k = absurd k.2
key-text kept given (journal.Refused path r) e h hard k = absurd k.2
key-text kept given journal.Tree e h hard k = absurd k.2

as-err : (d e : JournalErr) → err_of d ≡ err_of e → is_of_text d ≡ true → is_of_text e ≡ true
as-err d e h is = ap is_of_text (sym (same-err d e h)) ∙ is

kept-text : (seen : Seen) (path : List ℕ) (key : RunKey) (r : Result Opened JournalErr) (e : JournalErr) → PlanKept seen path key r → r ≡ err_of e → is_mild_run e ≡ false → is_of_text e ≡ true
kept-text seen path key r e (plan_kept.plan_read bytes p stands is same) h hard = absurd (no-ok (opened.Resumed p) e h)
kept-text seen path key r e (plan_kept.plan_not_there {e = d} b) h hard = as-err d e h (there-text seen path _ d e h hard b)
kept-text seen path key r e (plan_kept.plan_bad {e = d} bytes stands b) h hard = as-err d e h (plan-text bytes d e h hard b)
kept-text seen path key r e (plan_kept.plan_other {e = d} bytes p stands is b) h hard = as-err d e h (key-text p.key key d e h hard b)

ended-text : (seen : Seen) (path : List ℕ) (key : RunKey) (r : Result Opened JournalErr) (e : JournalErr) → FinishedKept seen path key r → r ≡ err_of e → is_mild_run e ≡ false → is_of_text e ≡ true
ended-text seen path key r e (finished_kept.finished_read bytes d stands is same) h hard = absurd (no-ok (opened.Finished d.report d.old) e h)
ended-text seen path key r e (finished_kept.finished_not_there {e = d} b) h hard = as-err d e h (there-text seen path _ d e h hard b)
ended-text seen path key r e (finished_kept.finished_bad {e = d} bytes stands b) h hard = as-err d e h (finished-text bytes d e h hard b)
ended-text seen path key r e (finished_kept.finished_other {e = d} bytes x stands is b) h hard = as-err d e h (key-text x.key key d e h hard b)

pub opens-text : (work : List ℕ) (paths : List (List ℕ)) (key : RunKey) (seen : Seen) (r : Result Opened JournalErr) (e : JournalErr) → Opens work paths key seen r → r ≡ err_of e → is_mild_run e ≡ false
    → is_of_text e ≡ true
opens-text work paths key seen r e opens.opens_memory h hard = absurd (mild-not journal.NoMemory e h hard refl)
opens-text work paths key seen r e (opens.opens_empty a b) h hard = absurd (no-ok opened.Empty e h)
opens-text work paths key seen r e (opens.opens_plan a b kept) h hard = kept-text seen _ key r e kept h hard
opens-text work paths key seen r e (opens.opens_finished a kept) h hard = ended-text seen _ key r e kept h hard

of-text-not : (e : JournalErr) → is_of_text e ≡ true → IsTrue (of_jobs (journal_status e)) → ⊥
of-text-not (journal.Changed path planned digest) is n = cc
of-text-not (journal.Refused path r) is n = cc
of-text-not journal.Tree is n = cc
of-text-not journal.NoMemory is n = cc
of-text-not (journal.PlanText file at) is n = cc
of-text-not (journal.OtherRun field kept given) is n = cc

plan-unchanged : (e : PlanErr) → plan_status e ≡ 10 → ⊥
plan-unchanged err.Absent is = cc
plan-unchanged err.Entries is = cc
plan-unchanged (err.PathTooLong path) is = cc
plan-unchanged (err.FileTooLarge path size) is = cc
plan-unchanged err.PlanTooLarge is = cc
plan-unchanged (err.Refused path r) is = cc
plan-unchanged (err.Taken path) is = cc
plan-unchanged err.Tree is = cc
plan-unchanged err.NoMemory is = cc

-- ### A run

hard-fault : (e : JournalErr) → is_mild_run e ≡ false → journal_status e ≡ 6 → ⊥
hard-fault (journal.Changed path planned digest) hard is = cc
hard-fault (journal.Refused path r) hard is = cc
hard-fault journal.Tree hard is = cc
hard-fault journal.NoMemory hard is = cc
hard-fault (journal.PlanText file at) hard is = cc
hard-fault (journal.OtherRun field kept given) hard is = cc

-- why jobs end leaves no word of the tree
jobs-leave : (w : MakerView) (refuses : ℕ → List ℕ → Refusal → Type 0) (at : Seen) (e : JournalErr) → is_mild_run e ≡ false → RunBlames w refuses at e → IsTrue (leaves_tree (journal_status e)) → ⊥
jobs-leave w refuses at (journal.Changed path planned digest) hard b is = cc
jobs-leave w refuses at (journal.Refused path r) hard b is = cc
jobs-leave w refuses at journal.Tree hard b is = cc
jobs-leave w refuses at journal.NoMemory hard b is = cc
jobs-leave w refuses at (journal.PlanText file place) hard b is = b
jobs-leave w refuses at (journal.OtherRun field kept given) hard b is = b

module _ (root work : List ℕ) (s : Settings) (v : JudgeView) (fails : List ℕ → List ℕ → Refusal → Type 0) (edit_fails : List ℕ → Refusal → Type 0)
    (split_fails : List ℕ → List ℕ → Refusal → Type 0) (old new : Seen) where
  -- status 6 comes only where the tree's count of faults rose
  pub status-fault : (e : RunErr) → RunEnds root work s v fails edit_fails split_fails old new e → run_status e ≡ 6 → Rose old.faults new.faults
  status-fault e (run_ends.failed rose) is = rose
  status-fault e run_ends.no_memory is = cc
  status-fault e (run_ends.walking {e = d} ended same) is = walk-fault root old new d ended is
  status-fault e (run_ends.opening {e = d} walked hard o same) is = absurd (hard-fault d hard is)
  status-fault e (run_ends.planning {paths} {e = d} walked o ended same) is = plan-fault root s v fails old new paths d ended is
  status-fault e (run_ends.resumed {e = d} p walked o hard told blame stays) is = absurd (hard-fault d hard is)
  status-fault e (run_ends.planned {e = d} p walked o is_plan silent hard blame) is = absurd (hard-fault d hard is)

  -- ends of other statuses leave the tree as it was
  pub status-same : (e : RunErr) → RunEnds root work s v fails edit_fails split_fails old new e → IsTrue (leaves_tree (run_status e)) → IsSame old new
  status-same e (run_ends.failed rose) is = cc
  status-same e run_ends.no_memory is = cc
  status-same e (run_ends.walking ended same) is = same
  status-same e (run_ends.opening walked hard o same) is = same
  status-same e (run_ends.planning walked o ended same) is = same
  status-same e (run_ends.resumed {e = d} p walked o hard told blame stays) is = absurd (jobs-leave _ _ new d hard blame is)
  status-same e (run_ends.planned {e = d} p walked o is_plan silent hard blame) is = absurd (jobs-leave _ _ new d hard blame is)

  module _ (t : TreeMap) (here : now_of old ≡ Some t) where
    told-by : (b : Bool) → old.tells ≡ b → (b ≡ false → ⊥) → old.tells ≡ true
    told-by true e never = e
    told-by false e never = absurd (never refl)

    no-tree : (b : Bool) → b ≡ false → (if b then Some (map_now old.past) else None) ≡ Some t → ⊥
    no-tree true e h = cc
    no-tree false e h = cc

    tells : old.tells ≡ true
    tells = told-by old.tells refl (λ e. no-tree old.tells (e-is e) here)
      where
        e-is : old.tells ≡ false → old.tells ≡ false
        e-is e = e

    -- refused files and changed files end the jobs of a run; a refused one may end its plan
    jobs-by : (e : RunErr) → RunEnds root work s v fails edit_fails split_fails old new e → IsTrue (of_jobs (run_status e))
        → IsResumed root work s t ⊎ ((s.skip ≡ false) × (run_status e ≢ 10))
    jobs-by e (run_ends.failed rose) is = cc
    jobs-by e run_ends.no_memory is = cc
    jobs-by e (run_ends.walking {e = d} ended same) is = absurd (walk-refused root old new d ended is)
    jobs-by e (run_ends.opening {paths} {e = d} walked hard o same) is = absurd (of-text-not d (opens-text work paths (key_of s) old (err_of d) d o refl hard) is)
    jobs-by e (run_ends.planning {paths} {e = d} walked o ended same) is = inr (plan-refused root s v fails old new paths d ended is, plan-unchanged d)
    jobs-by e (run_ends.resumed {paths} p walked o hard told blame stays) is = inl (resumed-is root work s v fails t old here paths walked tells p o)
    jobs-by e (run_ends.planned p walked o is_plan silent hard blame) is = absurd (skips-not old.tells tells silent)

    -- where files that are refused are passed over, one ends a run only where its plan was there when it began
    pub status-refused : (e : RunErr) → RunEnds root work s v fails edit_fails split_fails old new e → run_status e ≡ 3 → s.skip ≡ true → IsResumed root work s t
    status-refused e ended is skips = by-row (jobs-by e ended (ap of_jobs is))
      where
        by-row : IsResumed root work s t ⊎ ((s.skip ≡ false) × (run_status e ≢ 10)) → IsResumed root work s t
        by-row (inl there) = there
        by-row (inr planning) = absurd (skips-not s.skip skips planning.0)

    -- and so does a changed file
    pub status-changed : (e : RunErr) → RunEnds root work s v fails edit_fails split_fails old new e → run_status e ≡ 10 → IsResumed root work s t
    status-changed e ended is = by-row (jobs-by e ended (ap of_jobs is))
      where
        by-row : IsResumed root work s t ⊎ ((s.skip ≡ false) × (run_status e ≢ 10)) → IsResumed root work s t
        by-row (inl there) = there
        by-row (inr planning) = absurd (planning.1 is)
