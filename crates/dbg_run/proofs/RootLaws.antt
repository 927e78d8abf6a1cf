-- Laws on the command `run`: what a status says of the end, and what a start does and leaves.
use Rattle.std.proofs.Common.{◌≡◌, ◌≢◌, ◌≤◌, ℕ, Bool, true, false, ◌==◌, ◌||◌, List, [], length, refl, sym, ap, subst, ◌∙◌, ◌⊎◌, inl, inr}
use Rattle.std.specs.Prelude.{Some, Result, Ok, Err, IsTrue}
use Rattle.std.proofs.lemmas.Bool.{true≢false}
use Rattle.dw_base.specs.declared.fault.Refusal.{Refusal}
use Rattle.dbg_job.specs.Outcomes.{OutcomeFails}
use Rattle.file_tree.specs.Causes.{Rose}
use Rattle.file_tree.specs.Heard.{Heard, Said, grown}
use Rattle.file_tree.specs.Seen.{Past, Seen, map_now, now_of}
use Rattle.file_tree.specs.Trees.{TreeMap, keys_below}
use Rattle.job_types.specs.Settings.{Settings}
use Rattle.journal_core.specs.declared.event.Phase.TheVariants.{Closed}
use Rattle.journal_core.specs.Names.{final}
use Rattle.journal_core.specs.Names.{plan as plan_name}
use Rattle.journal_core.specs.Table.{CoreState}
use Rattle.work_texts.specs.declared.key.RunKey.{RunKey}
use Rattle.work_texts.specs.declared.journal_err.JournalErr.{JournalErr}
use Rattle.work_texts.specs.declared.journal_err.JournalErr.TheVariants as journal
use Rattle.work_journal.specs.Blames.{RunBlames, is_mild_run}
use Rattle.work_journal.specs.declared.opening.Opened.{Opened}
use Rattle.work_journal.specs.declared.opening.Opened.TheVariants as opened
use Rattle.work_journal.specs.Opening.{Opens}
use Rattle.work_journal.specs.Opening.{Opens as opens, PlanKept as plan_kept, FinishedKept as end_kept}
use Rattle.work_journal.specs.Views.{MakerView}
use Rattle.work_journal.specs.Work.{has_path, work_path}
use Rattle.root_plan.specs.declared.plan_err.PlanErr.{PlanErr}
use Rattle.root_plan.specs.declared.plan_err.PlanErr.TheVariants as plan
use Rattle.root_plan.specs.Plans.{key_of}
use Rattle.root_plan.specs.Roots.{most_paths, work_folder}
use Rattle.root_plan.specs.Walks.{WalkEnds as walk}
use Rattle.file_judge.specs.FileJudges.{file_view}
use Rattle.root_run.specs.declared.run_err.RunErr.{RunErr}
use Rattle.root_run.specs.declared.run_err.RunErr.TheVariants as run
use Rattle.root_run.specs.Cores.{LeadsTo}
use Rattle.root_run.specs.Dues.{IsFresh, RunCut}
use Rattle.root_run.specs.Dues.{RunCut as cuts}
use Rattle.root_run.specs.RunEnds.{run_status}
use Rattle.root_run.specs.RunEnds.{RunEnds as ways}
use Rattle.root_run.specs.Underway.{is_mild_end}
use Rattle.dbg_ends.specs.Due.{IsUnplanned}
use Rattle.dbg_ends.specs.Due.{IsUnplanned as unplanned}
use Rattle.dbg_ends.specs.declared.end.End.{End}
use Rattle.dbg_ends.specs.declared.end.End.TheVariants as end
use Rattle.dbg_ends.specs.Ends.{status_of}
use Rattle.dbg_ends.proofs.StatusLaws.{apart}
use Rattle.dbg_run.specs.Roots.{IsReported, NoReport, OnlyBelow, PassesOver, ReportEnds, RootCut, RootDone, RootDue, RootEnds, RootMild, RootRan, RootStarts, RootSteps, run_end}
use Rattle.dbg_run.specs.Roots.{IsReported as reported, ReportEnds as reports, RootEnds as ends}

-- ### The status of an end without a report

-- the end has the error's status
pub end_status : (root : List ℕ) (e : RunErr) → status_of (run_end root e) ≡ run_status e
end_status root (run.Plan plan.Absent) = refl
end_status root (run.Plan plan.Entries) = refl
end_status root (run.Plan (plan.PathTooLong path)) = refl
end_status root (run.Plan (plan.FileTooLarge path size)) = refl
end_status root (run.Plan plan.PlanTooLarge) = refl
end_status root (run.Plan (plan.Refused path refusal)) = refl
end_status root (run.Plan (plan.Taken path)) = refl
end_status root (run.Plan plan.Tree) = refl
end_status root (run.Plan plan.NoMemory) = refl
end_status root (run.Journal (journal.Changed path planned digest)) = refl
end_status root (run.Journal (journal.Refused path refusal)) = refl
end_status root (run.Journal journal.Tree) = refl
end_status root (run.Journal journal.NoMemory) = refl
end_status root (run.Journal (journal.PlanText file at)) = refl
end_status root (run.Journal (journal.OtherRun field kept given)) = refl

-- what holds of the statuses of plans holds of a plan's
plan_each : (P : ℕ → Type 0) → P 3 → P 4 → P 5 → P 6 → P 8 → P 13 → (e : PlanErr) → P (run_status (run.Plan e))
plan_each P three four five six eight want plan.Absent = four
plan_each P three four five six eight want plan.Entries = eight
plan_each P three four five six eight want (plan.PathTooLong path) = eight
plan_each P three four five six eight want (plan.FileTooLarge path size) = eight
plan_each P three four five six eight want plan.PlanTooLarge = eight
plan_each P three four five six eight want (plan.Refused path refusal) = three
plan_each P three four five six eight want (plan.Taken path) = five
plan_each P three four five six eight want plan.Tree = six
plan_each P three four five six eight want plan.NoMemory = want

journal_each : (P : ℕ → Type 0) → P 3 → P 6 → P 9 → P 10 → P 11 → P 13 → (e : JournalErr) → P (run_status (run.Journal e))
journal_each P three six nine ten eleven want (journal.Changed path planned digest) = ten
journal_each P three six nine ten eleven want (journal.Refused path refusal) = three
journal_each P three six nine ten eleven want journal.Tree = six
journal_each P three six nine ten eleven want journal.NoMemory = want
journal_each P three six nine ten eleven want (journal.PlanText file at) = eleven
journal_each P three six nine ten eleven want (journal.OtherRun field kept given) = nine

-- the statuses of a run that gives no report
abbrev pub is_unreported : ℕ → Bool
is_unreported n = n == 3 || n == 4 || n == 5 || n == 6 || n == 8 || n == 9 || n == 10 || n == 11 || n == 13

err_unreported : (e : RunErr) → is_unreported (run_status e) ≡ true
err_unreported (run.Plan e) = plan_each (λ n. is_unreported n ≡ true) refl refl refl refl refl refl e
err_unreported (run.Journal e) = journal_each (λ n. is_unreported n ≡ true) refl refl refl refl refl refl e

end_unreported : (root : List ℕ) (e : RunErr) → is_unreported (status_of (run_end root e)) ≡ true
end_unreported root e = ap is_unreported (end_status root e) ∙ err_unreported e

-- so it is none of the others
pub none_of : (n k : ℕ) → is_unreported n ≡ true → is_unreported k ≡ false → n ≡ k → ⊥
none_of n k is other e = true≢false (sym is ∙ ap is_unreported e ∙ other)

pub not_reported : (n : ℕ) → is_unreported n ≡ true → IsReported n → ⊥
not_reported n is (reported.done e) = none_of n 0 is refl e
not_reported n is (reported.failed e) = none_of n 7 is refl e

-- ### What a status says of an end

reported_by : (n : ℕ) → (n == 0) ≡ false → (n == 7) ≡ false → IsReported n → ⊥
reported_by n zero seven (reported.done e) = apart n 0 zero refl e
reported_by n zero seven (reported.failed e) = apart n 7 seven refl e

pub root_ended : (root : List ℕ) (o : Settings) (old new : Seen) (heard said : Heard) (e : End) → RootEnds root o old new heard said e → 0 ≡ status_of e
    → RootDone root o old new heard said
root_ended root o old new heard said e (ends.unreported failure row same) is = absurd (none_of (status_of e) 0 (end_unreported root failure) refl (sym is))
root_ended root o old new heard said e (ends.cut ended told rose) is = absurd (apart 7 0 refl refl (sym is))
root_ended root o old new heard said e (ends.done d) is = d

pub root_known : (root : List ℕ) (o : Settings) (old new : Seen) (heard said : Heard) (e : End) → RootEnds root o old new heard said e → 2 ≢ status_of e
root_known root o old new heard said e (ends.unreported failure row same) = λ is. none_of (status_of e) 2 (end_unreported root failure) refl (sym is)
root_known root o old new heard said e (ends.cut ended told rose) = λ is. apart 7 2 refl refl (sym is)
root_known root o old new heard said e (ends.done d) = λ is. apart 0 2 refl refl (sym is)

pub root_output : (root : List ℕ) (o : Settings) (old new : Seen) (heard said : Heard) (e : End) → RootEnds root o old new heard said e → status_of e ≡ 7
    → Rose heard.faults said.faults
root_output root o old new heard said e (ends.unreported failure row same) is = absurd (none_of (status_of e) 7 (end_unreported root failure) refl is)
root_output root o old new heard said e (ends.cut ended told rose) is = rose
root_output root o old new heard said e (ends.done d) is = absurd (apart 0 7 refl refl is)

pub root_silent : (root : List ℕ) (o : Settings) (old new : Seen) (heard said : Heard) (e : End) → RootEnds root o old new heard said e
    → (IsReported (status_of e) → ⊥) → said ≡ heard
root_silent root o old new heard said e (ends.unreported failure row same) un = same
root_silent root o old new heard said e (ends.cut ended told rose) un = absurd (un (reported.failed refl))
root_silent root o old new heard said e (ends.done d) un = absurd (un (reported.done refl))

-- where no text has begun to go out it may as well want memory
pub root_memory : (root : List ℕ) (o : Settings) (old new : Seen) (heard said : Heard) (e : End) → RootEnds root o old new heard said e → e ≢ end.Done → e ≢ end.OutputFault
    → RootEnds root o old new heard said end.NoMemory
root_memory root o old new heard said e (ends.unreported failure row same) undone well = ends.unreported (run.Journal journal.NoMemory) ways.no_memory same
root_memory root o old new heard said e (ends.cut ended told rose) undone well = absurd (well refl)
root_memory root o old new heard said e (ends.done d) undone well = absurd (undone refl)

-- two ends alone have a status of a run that has come to its end
pub reported_told : (e : End) → e ≢ end.Done → e ≢ end.OutputFault → IsReported (status_of e) → ⊥
reported_told end.Done undone well is = undone refl
reported_told end.Usage undone well is = reported_by 2 refl refl is
reported_told (end.Refused path refusal) undone well is = reported_by 3 refl refl is
reported_told (end.Absent path) undone well is = reported_by 4 refl refl is
reported_told (end.Folder path) undone well is = reported_by 4 refl refl is
reported_told (end.Link path) undone well is = reported_by 4 refl refl is
reported_told (end.Taken path) undone well is = reported_by 5 refl refl is
reported_told (end.Limit path size) undone well is = reported_by 8 refl refl is
reported_told end.Entries undone well is = reported_by 8 refl refl is
reported_told (end.LongPath path) undone well is = reported_by 8 refl refl is
reported_told end.LongPlan undone well is = reported_by 8 refl refl is
reported_told (end.OtherRun field) undone well is = reported_by 9 refl refl is
reported_told (end.Changed path) undone well is = reported_by 10 refl refl is
reported_told (end.PlanText file at) undone well is = reported_by 11 refl refl is
reported_told end.TreeFault undone well is = reported_by 6 refl refl is
reported_told end.OutputFault undone well is = well refl
reported_told (end.NotAPair mismatch) undone well is = reported_by 12 refl refl is
reported_told (end.Unmatched place) undone well is = reported_by 15 refl refl is
reported_told end.NoMemory undone well is = reported_by 13 refl refl is

-- ### Statuses that leave the tree as it was

abbrev is_unplanned : ℕ → Bool
is_unplanned n = n == 2 || n == 4 || n == 5 || n == 8 || n == 9 || n == 11

are_unplanned : (n : ℕ) → IsUnplanned n → is_unplanned n ≡ true
are_unplanned n (unplanned.usage e) = rw e refl
are_unplanned n (unplanned.no_file e) = rw e refl
are_unplanned n (unplanned.taken e) = rw e refl
are_unplanned n (unplanned.limit e) = rw e refl
are_unplanned n (unplanned.other_run e) = rw e refl
are_unplanned n (unplanned.plan_text e) = rw e refl

pub not_unplanned : (n k : ℕ) → is_unplanned k ≡ false → n ≡ k → IsUnplanned n → ⊥
not_unplanned n k other e is = true≢false (sym (are_unplanned n is) ∙ ap is_unplanned e ∙ other)

true_not : (b : Bool) (X : Type 0) → b ≡ true → b ≡ false → X
true_not b X is other = absurd (true≢false (sym is ∙ other))

-- an end that names a job's file isn't one of them
pub blamed_kept : (v : MakerView) (refuses : ℕ → List ℕ → Refusal → Type 0) (seen : Seen) (e : JournalErr) (X : Type 0) → is_mild_run e ≡ false → RunBlames v refuses seen e
    → IsUnplanned (run_status (run.Journal e)) → X
blamed_kept v refuses seen (journal.Changed path planned digest) X hard blames is = absurd (not_unplanned 10 10 refl refl is)
blamed_kept v refuses seen (journal.Refused path refusal) X hard blames is = absurd (not_unplanned 3 3 refl refl is)
blamed_kept v refuses seen journal.Tree X hard blames is = true_not true X refl hard
blamed_kept v refuses seen journal.NoMemory X hard blames is = true_not true X refl hard
blamed_kept v refuses seen (journal.PlanText file at) X hard blames is = absurd blames
blamed_kept v refuses seen (journal.OtherRun field kept given) X hard blames is = absurd blames

unreported_kept : (root : List ℕ) (o : Settings) (old new : Seen) (e : RunErr) → NoReport root o old new e → IsUnplanned (run_status e) → now_of new ≡ now_of old
unreported_kept root o old new e (ways.failed rose) is = absurd (not_unplanned 6 6 refl refl is)
unreported_kept root o old new e ways.no_memory is = absurd (not_unplanned 13 13 refl refl is)
unreported_kept root o old new e (ways.walking row same) is = same.now
unreported_kept root o old new e (ways.opening walked hard found same) is = same.now
unreported_kept root o old new e (ways.planning walked found row same) is = same.now
unreported_kept root o old new e (ways.resumed {e = x} p walked found hard same blames stays) is = blamed_kept _ _ new x (now_of new ≡ now_of old) hard blames is
unreported_kept root o old new e (ways.planned {e = x} p walked found made untold hard blames) is = blamed_kept _ _ new x (now_of new ≡ now_of old) hard blames is

pub root_kept : (root : List ℕ) (o : Settings) (old new : Seen) (heard said : Heard) (e : End) → RootEnds root o old new heard said e → IsUnplanned (status_of e)
    → now_of new ≡ now_of old
root_kept root o old new heard said e (ends.unreported failure row same) is =
    unreported_kept root o old new failure row (subst (λ (n : ℕ). IsUnplanned n) (end_status root failure) is)
root_kept root o old new heard said e (ends.cut ended told rose) is = absurd (not_unplanned 7 7 refl refl is)
root_kept root o old new heard said e (ends.done d) is = absurd (not_unplanned 0 0 refl refl is)

-- ### Where a run is underway

abbrev is_mild_status : ℕ → Bool
is_mild_status n = n == 3 || n == 4 || n == 5 || n == 6 || n == 8 || n == 13

mild_status : (e : RunErr) → IsTrue (is_mild_end e) → is_mild_status (run_status e) ≡ true
mild_status (run.Plan e) mild = plan_each (λ n. is_mild_status n ≡ true) refl refl refl refl refl refl e
mild_status (run.Journal (journal.Changed path planned digest)) mild = absurd (true≢false (sym mild))
mild_status (run.Journal (journal.Refused path refusal)) mild = absurd (true≢false (sym mild))
mild_status (run.Journal journal.Tree) mild = refl
mild_status (run.Journal journal.NoMemory) mild = refl
mild_status (run.Journal (journal.PlanText file at)) mild = absurd (true≢false (sym mild))
mild_status (run.Journal (journal.OtherRun field kept given)) mild = absurd (true≢false (sym mild))

not_mild : (n k : ℕ) → is_mild_status n ≡ true → is_mild_status k ≡ false → n ≡ k → ⊥
not_mild n k is other e = true≢false (sym is ∙ ap is_mild_status e ∙ other)

hard_mild : (b : Bool) (X : Type 0) → b ≡ false → IsTrue b → X
hard_mild true X hard mild = true_not true X refl hard
hard_mild false X hard mild = absurd (true≢false (sym mild))

-- what an open work folder holds, where that is nothing
nothing_there : (work : List ℕ) (paths : List (List ℕ)) (key : RunKey) (seen : Seen) (r : Result Opened JournalErr) → Opens work paths key seen r → r ≡ Ok opened.Empty
    → (has_path paths (work_path work (final 3)) ≡ false) × (has_path paths (work_path work plan_name) ≡ false)
nothing_there work paths key seen r opens.opens_memory e = cc
nothing_there work paths key seen r (opens.opens_empty a b) e = (a, b)
nothing_there work paths key seen r (opens.opens_plan a b (plan_kept.plan_read bytes p stands text same)) e = cc
nothing_there work paths key seen r (opens.opens_plan a b (plan_kept.plan_not_there blames)) e = cc
nothing_there work paths key seen r (opens.opens_plan a b (plan_kept.plan_bad bytes stands blames)) e = cc
nothing_there work paths key seen r (opens.opens_plan a b (plan_kept.plan_other bytes p stands text blames)) e = cc
nothing_there work paths key seen r (opens.opens_finished a (end_kept.finished_read bytes d stands text same)) e = cc
nothing_there work paths key seen r (opens.opens_finished a (end_kept.finished_not_there blames)) e = cc
nothing_there work paths key seen r (opens.opens_finished a (end_kept.finished_bad bytes stands blames)) e = cc
nothing_there work paths key seen r (opens.opens_finished a (end_kept.finished_other bytes d stands text blames)) e = cc

fresh_at : (root work : List ℕ) (t : TreeMap) (paths : List (List ℕ)) → paths ≡ keys_below t root → length paths ≤ most_paths → paths ≢ []
    → (has_path paths (work_path work (final 3)) ≡ false) × (has_path paths (work_path work plan_name) ≡ false) → IsFresh root work t
fresh_at root work t paths is few some none =
    let P : List (List ℕ) → Type 0 = λ ps. (has_path ps (work_path work (final 3)) ≡ false) × (has_path ps (work_path work plan_name) ≡ false) in
    let here : P (keys_below t root) = subst P is none in
    record {
      paths = record { few = subst (λ (ps : List (List ℕ)). length ps ≤ most_paths) is few; some = subst (λ (ps : List (List ℕ)). ps ≢ []) is some };
      finished = here.0;
      begun = here.1;
    }

now_told : (seen : Seen) → seen.tells ≡ true → now_of seen ≡ Some (map_now seen.past)
now_told seen tells = rw tells refl

-- a file is refused then only where there is no plan yet
refused_fresh : (root : List ℕ) (o : Settings) (old new : Seen) (e : RunErr) → old.tells ≡ true → IsTrue (is_mild_end e) → NoReport root o old new e → run_status e ≡ 3
    → IsFresh root (work_folder root) (map_now old.past)
refused_fresh root o old new e tells mild (ways.failed rose) is = absurd (apart 6 3 refl refl is)
refused_fresh root o old new e tells mild ways.no_memory is = absurd (apart 13 3 refl refl is)
refused_fresh root o old new e tells mild (ways.walking (walk.absent none) same) is = absurd (apart 4 3 refl refl is)
refused_fresh root o old new e tells mild (ways.walking (walk.many many) same) is = absurd (apart 8 3 refl refl is)
refused_fresh root o old new e tells mild (ways.walking (walk.failed rose) same) is = absurd (apart 6 3 refl refl is)
refused_fresh root o old new e tells mild (ways.walking walk.memory same) is = absurd (apart 13 3 refl refl is)
refused_fresh root o old new e tells mild (ways.opening {e = x} walked hard found same) is = hard_mild (is_mild_run x) _ hard mild
refused_fresh root o old new e tells mild (ways.planning {paths = paths} walked found row same) is =
    fresh_at root (work_folder root) (map_now old.past) paths (walked.all.are (map_now old.past) (now_told old tells)) walked.few walked.some
    (nothing_there (work_folder root) paths (key_of o) old (Ok opened.Empty) found refl)
refused_fresh root o old new e tells mild (ways.resumed {e = x} p walked found hard same blames stays) is = hard_mild (is_mild_run x) _ hard mild
refused_fresh root o old new e tells mild (ways.planned {e = x} p walked found made untold hard blames) is = hard_mild (is_mild_run x) _ hard mild

err_mild : (root : List ℕ) (o : Settings) (old new : Seen) (e : RunErr) → old.tells ≡ true → IsTrue (is_mild_end e) → NoReport root o old new e
    → RootMild root (map_now old.past) (run_status e)
err_mild root o old new e tells mild row = record {
  own = not_mild (run_status e) 9 (mild_status e mild) refl;
  unchanged = not_mild (run_status e) 10 (mild_status e mild) refl;
  whole = not_mild (run_status e) 11 (mild_status e mild) refl;
  unplanned = refused_fresh root o old new e tells mild row;
}

reported_mild : (root : List ℕ) (t : TreeMap) (n : ℕ) → IsReported n → RootMild root t n
reported_mild root t n (reported.done e) = record {
  own = λ is. apart 0 9 refl refl (sym e ∙ is);
  unchanged = λ is. apart 0 10 refl refl (sym e ∙ is);
  whole = λ is. apart 0 11 refl refl (sym e ∙ is);
  unplanned = λ is. absurd (apart 0 3 refl refl (sym e ∙ is));
}
reported_mild root t n (reported.failed e) = record {
  own = λ is. apart 7 9 refl refl (sym e ∙ is);
  unchanged = λ is. apart 7 10 refl refl (sym e ∙ is);
  whole = λ is. apart 7 11 refl refl (sym e ∙ is);
  unplanned = λ is. absurd (apart 7 3 refl refl (sym e ∙ is));
}

not_refused : (n : ℕ) → IsReported n → n ≡ 3 → ⊥
not_refused n (reported.done e) is = apart 0 3 refl refl (sym e ∙ is)
not_refused n (reported.failed e) is = apart 7 3 refl refl (sym e ∙ is)

pub wanting_passed : (root : List ℕ) (o : Settings) (old : Seen) → PassesOver root o old 13
wanting_passed root o old = λ three. absurd (apart 13 3 refl refl three)

pub wanting_mild : (root : List ℕ) (t : TreeMap) → RootMild root t 13
wanting_mild root t = record {
  own = apart 13 9 refl refl;
  unchanged = apart 13 10 refl refl;
  whole = apart 13 11 refl refl;
  unplanned = λ is. absurd (apart 13 3 refl refl is);
}

-- ### A start

cut_more : {A X Y : Type 0} → A ⊎ X → A ⊎ (X ⊎ Y)
cut_more (inl a) = inl a
cut_more (inr x) = inr (inl x)

pub led : {A E : Type 0} (work : List ℕ) (c : CoreState) (old new : Past) (result : Result A E) (n : ℕ) → (l : LeadsTo work c old new result)
    → (IsReported n → l.last.phase ≡ Closed) → RootSteps work c old new n
led work c old new result n l closed = record {
  rest = l.rest;
  last = l.last;
  first = l.first;
  log = l.log;
  runs = l.runs;
  only = l.only;
  closed = closed;
}

-- steps at any status are those of a start for whose line memory is wanting
pub steps_wanting : (work : List ℕ) (c : CoreState) (old new : Past) (n : ℕ) → RootSteps work c old new n → RootSteps work c old new 13
steps_wanting work c old new n l = record {
  rest = l.rest;
  last = l.last;
  first = l.first;
  log = l.log;
  runs = l.runs;
  only = l.only;
  closed = λ is. absurd (not_reported 13 refl is);
}

module _ (root : List ℕ) (o : Settings) (jobs : ℕ) (old new : Seen) (heard said : Heard) where
  err_starts : (e : RunErr) → said ≡ heard → RootRan root o jobs old new (Err e) → RootStarts root o jobs old new heard said (run_status e)
  err_starts e same ran = record {
    images = ran.images;
    ended = λ start under is. absurd (not_reported (run_status e) (err_unreported e) is);
    steps = λ start under c shows.
        led (work_folder root) c old.past new.past (Err e) (run_status e) (ran.steps start under c shows) (λ is. absurd (not_reported (run_status e) (err_unreported e) is));
    settles = ran.settles;
    mild = λ start under. err_mild root o old new e under.tells (ran.mild start under) ran.ends;
    passed = ran.passed;
    due = λ t tells. cut_more (ran.due t tells);
    comes = λ t k tells due. cut_more (ran.comes t k tells due);
    completes = λ is calm well. inr (ran.completes is calm);
  }

  pub unreported_starts : (e : RunErr) (x : End) (result : Result (List ℕ) RunErr) → result ≡ Err e → x ≡ run_end root e → said ≡ heard → RootRan root o jobs old new result
      → RootStarts root o jobs old new heard said (status_of x)
  unreported_starts e x result is at same ran =
      subst (λ (n : ℕ). RootStarts root o jobs old new heard said n) (sym (ap status_of at ∙ end_status root e))
      (err_starts e same (subst (λ (r : Result (List ℕ) RunErr). RootRan root o jobs old new r) is ran))

  pub unreported_ends : (e : RunErr) (x : End) (result : Result (List ℕ) RunErr) → result ≡ Err e → x ≡ run_end root e → said ≡ heard → RootRan root o jobs old new result
      → RootEnds root o old new heard said x
  unreported_ends e x result is at same ran =
      let here : RootRan root o jobs old new (Err e) = subst (λ (r : Result (List ℕ) RunErr). RootRan root o jobs old new r) is ran in
      subst (λ (y : End). RootEnds root o old new heard said y) (sym at) (ends.unreported e here.ends same)

  ok_starts : (report : List ℕ) (n : ℕ) → IsReported n → Said report heard said → (n ≡ 0 → said.bytes ≡ grown heard.bytes report)
      → (n ≡ 7 → Rose heard.faults said.faults) → RootRan root o jobs old new (Ok report) → RootStarts root o jobs old new heard said n
  ok_starts report n is told whole failed ran = record {
    images = ran.images;
    ended = λ start under _. record { report = report; ended = ran.ended.is start under; told = told; whole = whole };
    steps = λ start under c shows.
        let l : LeadsTo (work_folder root) c old.past new.past (Ok report) = ran.steps start under c shows in
        led (work_folder root) c old.past new.past (Ok report) n l (λ _. l.closed);
    settles = ran.settles;
    mild = λ start under. reported_mild root (map_now old.past) n is;
    passed = λ three. absurd (not_refused n is three);
    due = λ t tells. due_at n is t (ran.due t tells);
    comes = λ t k tells due. comes_at n is t k (ran.comes t k tells due);
    completes = λ un calm well. completes_at n is failed well;
  }
    where
      due_at : (n : ℕ) → IsReported n → (t : TreeMap) → RootDue root o t 0 ⊎ RunCut root (work_folder root) o (file_view o) (OutcomeFails o) t 0
          → RootDue root o t n ⊎ RootCut root o t n
      due_at n (reported.done e) t due = subst (λ (k : ℕ). RootDue root o t k ⊎ RootCut root o t k) (sym e) (cut_more due)
      due_at n (reported.failed e) t due = inr (inr e)

      comes_at : (n : ℕ) → IsReported n → (t : TreeMap) (k : ℕ) → (0 ≡ k) ⊎ RunCut root (work_folder root) o (file_view o) (OutcomeFails o) t 0
          → (n ≡ k) ⊎ RootCut root o t n
      comes_at n (reported.done e) t k due = subst (λ (m : ℕ). (m ≡ k) ⊎ RootCut root o t m) (sym e) (cut_more due)
      comes_at n (reported.failed e) t k due = inr (inr e)

      completes_at : (n : ℕ) → IsReported n → (n ≡ 7 → Rose heard.faults said.faults) → (Rose heard.faults said.faults → ⊥) → (n ≡ 0) ⊎ (n ≡ 13)
      completes_at n (reported.done e) failed well = inl e
      completes_at n (reported.failed e) failed well = absurd (well (failed e))

  pub reported_starts : (report : List ℕ) (x : End) (result : Result (List ℕ) RunErr) → result ≡ Ok report → ReportEnds report heard said x → RootRan root o jobs old new result
      → RootStarts root o jobs old new heard said (status_of x)
  reported_starts report x result is (reports.whole bytes told) ran =
      ok_starts report 0 (reported.done refl) told (λ _. bytes) (λ is. absurd (apart 0 7 refl refl is))
      (subst (λ (r : Result (List ℕ) RunErr). RootRan root o jobs old new r) is ran)
  reported_starts report x result is (reports.failed told rose) ran =
      ok_starts report 7 (reported.failed refl) told (λ is. absurd (apart 7 0 refl refl is)) (λ _. rose)
      (subst (λ (r : Result (List ℕ) RunErr). RootRan root o jobs old new r) is ran)

  pub reported_ends : (report : List ℕ) (x : End) (result : Result (List ℕ) RunErr) → result ≡ Ok report → ReportEnds report heard said x → RootRan root o jobs old new result
      → RootEnds root o old new heard said x
  reported_ends report x result is (reports.whole bytes told) ran =
      let here : RootRan root o jobs old new (Ok report) = subst (λ (r : Result (List ℕ) RunErr). RootRan root o jobs old new r) is ran in
      ends.done (record { report = report; ended = here.ended; told = bytes })
  reported_ends report x result is (reports.failed told rose) ran =
      let here : RootRan root o jobs old new (Ok report) = subst (λ (r : Result (List ℕ) RunErr). RootRan root o jobs old new r) is ran in
      ends.cut here.ended told rose

  -- what holds of a start at any status holds of it where memory is wanting for its line
  pub starts_wanting : (n : ℕ) → RootStarts root o jobs old new heard said n → RootStarts root o jobs old new heard said 13
  starts_wanting n s = record {
    images = s.images;
    ended = λ start under is. absurd (not_reported 13 refl is);
    steps = λ start under c shows. steps_wanting (work_folder root) c old.past new.past n (s.steps start under c shows);
    settles = s.settles;
    mild = λ start under. wanting_mild root (map_now old.past);
    passed = wanting_passed root o old;
    due = λ t tells. inr (inl (cuts.no_memory refl));
    comes = λ t k tells due. inr (inl (cuts.no_memory refl));
    completes = λ un calm well. inr refl;
  }

pub reported_fault : (report : List ℕ) (heard said : Heard) (x : End) (X : Type 0) → ReportEnds report heard said x → status_of x ≡ 6 → X
reported_fault report heard said x X (reports.whole bytes told) is = absurd (apart 0 6 refl refl is)
reported_fault report heard said x X (reports.failed told rose) is = absurd (apart 7 6 refl refl is)

pub answer_below : (root : List ℕ) (o : Settings) (jobs : ℕ) (old new : Seen) (result : Result (List ℕ) RunErr) → RootRan root o jobs old new result
    → OnlyBelow root (now_of old) (now_of new)
answer_below root o jobs old new result ran = ran.below

pub answer_tells : (root : List ℕ) (o : Settings) (jobs : ℕ) (old new : Seen) (result : Result (List ℕ) RunErr) → RootRan root o jobs old new result
    → new.tells ≡ old.tells
answer_tells root o jobs old new result ran = ran.tells

pub ran_at : (root read : List ℕ) (o : Settings) (jobs : ℕ) (old new : Seen) (result : Result (List ℕ) RunErr) → read ≡ root → RootRan read o jobs old new result
    → RootRan root o jobs old new result
ran_at root read o jobs old new result same ran = subst (λ (x : List ℕ). RootRan x o jobs old new result) same ran

pub unreported_fault : (root : List ℕ) (o : Settings) (jobs : ℕ) (old new : Seen) (e : RunErr) (x : End) (result : Result (List ℕ) RunErr) → result ≡ Err e → x ≡ run_end root e
    → RootRan root o jobs old new result → status_of x ≡ 6 → Rose old.faults new.faults
unreported_fault root o jobs old new e x result is at ran six =
    let here : RootRan root o jobs old new (Err e) = subst (λ (r : Result (List ℕ) RunErr). RootRan root o jobs old new r) is ran in
    here.fault (sym (ap status_of at ∙ end_status root e) ∙ six)

pub ruleset report_rows = (reports.whole, reports.failed)
