-- How a gather ends, by its status; what a start does by whether it gave a report.
use Rattle.std.proofs.Common.{◌≡◌, ◌≢◌, ◌⊎◌, ◌==◌, ◌||◌, ℕ, Bool, true, false, List, Result, Ok, Err, inl, inr, refl, sym, ap, subst, ◌∙◌}
use Rattle.std.specs.Prelude.{IfErr, IfOk, IsTrue}
use Rattle.std.proofs.lemmas.Bool.{true≢false}
use Rattle.file_tree.specs.Causes.{Rose}
use Rattle.file_tree.specs.Heard.{Heard, Said, grown}
use Rattle.file_tree.specs.Seen.{Seen, now_of}
use Rattle.file_tree.specs.Trees.{TreeMap}
use Rattle.work_texts.specs.declared.journal_err.JournalErr.{JournalErr}
use Rattle.work_texts.specs.declared.journal_err.JournalErr.TheVariants as journal
use Rattle.work_journal.specs.Blames.{is_mild_run}
use Rattle.root_run.specs.Cores.{LeadsTo}
use Rattle.root_run.specs.declared.run_err.RunErr.TheVariants as run
use Rattle.src_gather.specs.declared.gather_err.GatherErr.{GatherErr}
use Rattle.src_gather.specs.declared.gather_err.GatherErr.TheVariants as err
use Rattle.src_gather.specs.Asked.{IsAsked}
use Rattle.src_gather.specs.Dues.{AnswersDue, HasReport, IsDue}
use Rattle.src_gather.specs.Dues.{AnswersDue as answers, IsCut as cut}
use Rattle.src_gather.specs.Errors.{AreSameEnds, AreSameTexts, is_mild}
use Rattle.src_gather.specs.Errors.{AreSameEnds as same, AreSameTexts as alike, IsStopped as stop}
use Rattle.src_gather.specs.GatherEnds.{GatherEnds}
use Rattle.src_gather.specs.GatherEnds.{GatherEnds as ways}
use Rattle.src_gather.specs.Makers.{gather_folder}
use Rattle.src_gather.specs.Partways.{IsDone, IsUnderway}
use Rattle.src_gather.proofs.EndsLaws.{of_journal, plan-plain}
use Rattle.src_gather.proofs.ExactLaws.{due-no-report, dues-one}
use Rattle.dbg_ends.specs.Due.{IsUnplanned}
use Rattle.dbg_ends.specs.declared.end.End.{End}
use Rattle.dbg_ends.specs.declared.end.End.TheVariants as end
use Rattle.dbg_ends.specs.Ends.{status_of}
use Rattle.dbg_ends.proofs.StatusLaws.{apart}
use Rattle.dbg_run.specs.Gathers.{GatherCut, GatherDone, GatherDue, GatherMild, GatherRan, GatherStarts, GatherWays, HasGathered, gather_end, gather_status}
use Rattle.dbg_run.specs.Gathers.{GatherCut as cuts, GatherDue as due, GatherWays as ends}
use Rattle.dbg_run.specs.Roots.{IsReported, ReportEnds, journal_end}
use Rattle.dbg_run.specs.Roots.{IsReported as reported, ReportEnds as reports}
use Rattle.dbg_run.proofs.RootLaws.{blamed_kept, end_status, is_unreported, led, none_of, not_reported, not_unplanned, steps_wanting}

abbrev answer : List ℕ → Result (List ℕ) GatherErr
answer report = Ok report

abbrev answer_err : GatherErr → Result (List ℕ) GatherErr
answer_err e = Err e

-- ### Statuses

-- what holds of the statuses of ends without a report holds of one's
each : (P : ℕ → Type 0) → P 4 → P 5 → P 8 → P 6 → P 13 → ((e : JournalErr) → P (status_of (journal_end e))) → (e : GatherErr) → P (gather_status e)
each P four five eight six want of (err.Absent p) = four
each P four five eight six want of err.Entries = eight
each P four five eight six want of (err.PathTooLong p) = eight
each P four five eight six want of (err.FileTooLarge p size) = eight
each P four five eight six want of err.PlanTooLarge = eight
each P four five eight six want of (err.Taken p) = five
each P four five eight six want of (err.Journal e) = of e
each P four five eight six want of err.Tree = six
each P four five eight six want of err.NoMemory = want

journal_unreported : (e : JournalErr) → is_unreported (status_of (journal_end e)) ≡ true
journal_unreported (journal.Changed path planned digest) = refl
journal_unreported (journal.Refused path refusal) = refl
journal_unreported journal.Tree = refl
journal_unreported journal.NoMemory = refl
journal_unreported (journal.PlanText file at) = refl
journal_unreported (journal.OtherRun field kept given) = refl

gather_unreported : (e : GatherErr) → is_unreported (gather_status e) ≡ true
gather_unreported e = each (λ n. is_unreported n ≡ true) refl refl refl refl refl journal_unreported e

-- two ends that are the same have one status
text_status : (a b : JournalErr) → AreSameTexts a b → status_of (journal_end a) ≡ status_of (journal_end b)
text_status a b alike.same_bad = refl
text_status a b alike.same_other = refl

same_status : (e f : GatherErr) → AreSameEnds e f → gather_status e ≡ gather_status f
same_status e f same.same_absent = refl
same_status e f same.same_entries = refl
same_status e f same.same_paths = refl
same_status e f same.same_file = refl
same_status e f same.same_text = refl
same_status e f same.same_taken = refl
same_status e f (same.same_journal {e = a} {f = b} x) = text_status a b x

-- ### What a status says of an end

module _ (root from dest : List ℕ) (old new : Seen) (heard said : Heard) where
  abbrev Ways : End → Type 0
  Ways e = GatherWays root from dest old new heard said e

  pub gather_ended : (e : End) → Ways e → 0 ≡ status_of e → GatherDone root from dest old new heard said
  gather_ended e (ends.unreported failure row silent) is = absurd (none_of (gather_status failure) 0 (gather_unreported failure) refl (sym is))
  gather_ended e (ends.cut ended told rose) is = absurd (apart 7 0 refl refl (sym is))
  gather_ended e (ends.done d) is = d

  pub gather_known : (e : End) → Ways e → 2 ≢ status_of e
  gather_known e (ends.unreported failure row silent) = λ is. none_of (gather_status failure) 2 (gather_unreported failure) refl (sym is)
  gather_known e (ends.cut ended told rose) = λ is. apart 7 2 refl refl (sym is)
  gather_known e (ends.done d) = λ is. apart 0 2 refl refl (sym is)

  pub gather_output : (e : End) → Ways e → status_of e ≡ 7 → Rose heard.faults said.faults
  gather_output e (ends.unreported failure row silent) is = absurd (none_of (gather_status failure) 7 (gather_unreported failure) refl is)
  gather_output e (ends.cut ended told rose) is = rose
  gather_output e (ends.done d) is = absurd (apart 0 7 refl refl is)

  pub gather_silent : (e : End) → Ways e → (IsReported (status_of e) → ⊥) → said ≡ heard
  gather_silent e (ends.unreported failure row silent) un = silent
  gather_silent e (ends.cut ended told rose) un = absurd (un (reported.failed refl))
  gather_silent e (ends.done d) un = absurd (un (reported.done refl))

  -- where no text has begun to go out it may as well want memory
  pub gather_memory : (e : End) → Ways e → e ≢ end.Done → e ≢ end.OutputFault → Ways end.NoMemory
  gather_memory e (ends.unreported failure row silent) undone well = ends.unreported err.NoMemory ways.no_memory silent
  gather_memory e (ends.cut ended told rose) undone well = absurd (well refl)
  gather_memory e (ends.done d) undone well = absurd (undone refl)

  -- statuses that leave the tree as it was
  unreported_kept : (e : GatherErr) → GatherEnds root from dest old new e → IsUnplanned (gather_status e) → now_of new ≡ now_of old
  unreported_kept e (ways.failed rose) is = absurd (not_unplanned 6 6 refl refl is)
  unreported_kept e ways.no_memory is = absurd (not_unplanned 13 13 refl refl is)
  unreported_kept e (ways.entries m kept) is = kept.now
  unreported_kept e (ways.absent a kept) is = kept.now
  unreported_kept e (ways.opening walked hard o kept) is = kept.now
  unreported_kept e (ways.planning walked o ended kept) is = kept.now
  unreported_kept e (ways.resumed {e = x} p walked o hard now before) is =
      blamed_kept _ _ new x (now_of new ≡ now_of old) hard now (subst (λ (n : ℕ). IsUnplanned n) (end_status root (run.Journal x)) is)
  unreported_kept e (ways.planned {e = x} p walked o made silent hard now) is =
      blamed_kept _ _ new x (now_of new ≡ now_of old) hard now (subst (λ (n : ℕ). IsUnplanned n) (end_status root (run.Journal x)) is)

  pub gather_kept : (e : End) → Ways e → IsUnplanned (status_of e) → now_of new ≡ now_of old
  gather_kept e (ends.unreported failure row silent) is = unreported_kept failure row is
  gather_kept e (ends.cut ended told rose) is = absurd (not_unplanned 7 7 refl refl is)
  gather_kept e (ends.done d) is = absurd (not_unplanned 0 0 refl refl is)

-- ### A fault

plain_six : (e : GatherErr) → of_journal e ≡ false → gather_status e ≡ 6 → ⊥
plain_six (err.Absent p) f is = apart 4 6 refl refl is
plain_six err.Entries f is = apart 8 6 refl refl is
plain_six (err.PathTooLong p) f is = apart 8 6 refl refl is
plain_six (err.FileTooLarge p size) f is = apart 8 6 refl refl is
plain_six err.PlanTooLarge f is = apart 8 6 refl refl is
plain_six (err.Taken p) f is = apart 5 6 refl refl is
plain_six (err.Journal e) f is = absurd (true≢false f)
plain_six err.Tree f is = absurd (true≢false f)
plain_six err.NoMemory f is = absurd (true≢false f)

hard_six : (e : JournalErr) → is_mild_run e ≡ false → status_of (journal_end e) ≡ 6 → ⊥
hard_six (journal.Changed path planned digest) hard is = apart 10 6 refl refl is
hard_six (journal.Refused path refusal) hard is = apart 3 6 refl refl is
hard_six journal.Tree hard is = true≢false hard
hard_six journal.NoMemory hard is = apart 13 6 refl refl is
hard_six (journal.PlanText file at) hard is = apart 11 6 refl refl is
hard_six (journal.OtherRun field kept given) hard is = apart 9 6 refl refl is

module _ (root from dest : List ℕ) (old new : Seen) where
  err_fault : (e : GatherErr) → GatherEnds root from dest old new e → gather_status e ≡ 6 → Rose old.faults new.faults
  err_fault e (ways.failed rose) is = rose
  err_fault e ways.no_memory is = absurd (apart 13 6 refl refl is)
  err_fault e (ways.entries m kept) is = absurd (apart 8 6 refl refl is)
  err_fault e (ways.absent a kept) is = absurd (apart 4 6 refl refl is)
  err_fault e (ways.opening {e = x} walked hard o kept) is = absurd (hard_six x hard is)
  err_fault e (ways.planning {paths = paths} walked o ended kept) is = absurd (plain_six e (plan-plain (now_of old) root from dest paths e ended) is)
  err_fault e (ways.resumed {e = x} p walked o hard now before) is = absurd (hard_six x hard is)
  err_fault e (ways.planned {e = x} p walked o made silent hard now) is = absurd (hard_six x hard is)

  pub result_fault : (result : Result (List ℕ) GatherErr) → IfErr result (GatherEnds root from dest old new) → IfErr result (λ e. gather_status e ≡ 6 → Rose old.faults new.faults)
  result_fault (Ok report) row = tt
  result_fault (Err e) row = err_fault e row

  pub result_ended : (result : Result (List ℕ) GatherErr) → ((start : TreeMap) → IsUnderway start root from dest old → IfOk result (λ report. IsDone start root from dest report new))
      → IfOk result (HasGathered root from dest old new)
  result_ended (Ok report) done = record { is = done }
  result_ended (Err e) done = tt

  pub unreported_fault : (jobs : ℕ) (e : GatherErr) (x : End) (result : Result (List ℕ) GatherErr) → result ≡ Err e → x ≡ gather_end e → GatherRan root from dest jobs old new result
      → status_of x ≡ 6 → Rose old.faults new.faults
  unreported_fault jobs e x result is at ran six =
      let here : GatherRan root from dest jobs old new (answer_err e) = subst (λ (r : Result (List ℕ) GatherErr). GatherRan root from dest jobs old new r) is ran in
      here.fault (sym (ap status_of at) ∙ six)

pub result_completes : (result : Result (List ℕ) GatherErr) → IfErr result (λ e. e ≡ err.NoMemory) → IfErr result (λ e. gather_status e ≡ 13)
result_completes (Ok report) is = tt
result_completes (Err e) is = ap gather_status is

-- ### Under other names of the same texts

pub asked_at : (root from dest read source below : List ℕ) → read ≡ root → source ≡ from → below ≡ dest → IsAsked root from dest → IsAsked read source below
asked_at root from dest read source below of_root of_from of_dest asked =
    subst (λ (x : List ℕ). IsAsked x source below) (sym of_root)
    (subst (λ (x : List ℕ). IsAsked root x below) (sym of_from) (subst (λ (x : List ℕ). IsAsked root from x) (sym of_dest) asked))

pub gathered_at : (root from dest read source below : List ℕ) (jobs : ℕ) (old new : Seen) (result : Result (List ℕ) GatherErr) → read ≡ root → source ≡ from → below ≡ dest
    → GatherRan read source below jobs old new result → GatherRan root from dest jobs old new result
gathered_at root from dest read source below jobs old new result of_root of_from of_dest ran =
    subst (λ (x : List ℕ). GatherRan x from dest jobs old new result) of_root
    (subst (λ (x : List ℕ). GatherRan read x dest jobs old new result) of_from (subst (λ (x : List ℕ). GatherRan read source x jobs old new result) of_dest ran))

-- ### Where a gather is underway

abbrev is_quiet : ℕ → Bool
is_quiet n = n == 4 || n == 5 || n == 6 || n == 8 || n == 13

mild_quiet : (e : GatherErr) → IsTrue (is_mild e) → is_quiet (gather_status e) ≡ true
mild_quiet (err.Absent p) mild = refl
mild_quiet err.Entries mild = refl
mild_quiet (err.PathTooLong p) mild = refl
mild_quiet (err.FileTooLarge p size) mild = refl
mild_quiet err.PlanTooLarge mild = refl
mild_quiet (err.Taken p) mild = refl
mild_quiet (err.Journal e) mild = absurd (true≢false (sym mild))
mild_quiet err.Tree mild = refl
mild_quiet err.NoMemory mild = refl

not_quiet : (n k : ℕ) → is_quiet n ≡ true → is_quiet k ≡ false → n ≡ k → ⊥
not_quiet n k is other e = true≢false (sym is ∙ ap is_quiet e ∙ other)

pub quiet_mild : (n : ℕ) → is_quiet n ≡ true → GatherMild n
quiet_mild n is = record { own = not_quiet n 9 is refl; unchanged = not_quiet n 10 is refl; whole = not_quiet n 11 is refl; not_refused = not_quiet n 3 is refl }

reported_mild : (n : ℕ) → IsReported n → GatherMild n
reported_mild n (reported.done e) = record {
  own = λ is. apart 0 9 refl refl (sym e ∙ is);
  unchanged = λ is. apart 0 10 refl refl (sym e ∙ is);
  whole = λ is. apart 0 11 refl refl (sym e ∙ is);
  not_refused = λ is. apart 0 3 refl refl (sym e ∙ is);
}
reported_mild n (reported.failed e) = record {
  own = λ is. apart 7 9 refl refl (sym e ∙ is);
  unchanged = λ is. apart 7 10 refl refl (sym e ∙ is);
  whole = λ is. apart 7 11 refl refl (sym e ∙ is);
  not_refused = λ is. apart 7 3 refl refl (sym e ∙ is);
}

-- want of memory may come in place of every status
pub memory_cut : (root from dest : List ℕ) (t : TreeMap) → GatherCut root from dest t 13
memory_cut root from dest t = cuts.in_place err.NoMemory (cut.stopped stop.no_memory) refl

-- ### A start

same-err : (a b : GatherErr) → answer_err a ≡ answer_err b → a ≡ b
same-err a b e = cc

no-ok : (report : List ℕ) (e : GatherErr) → answer report ≡ answer_err e → ⊥
no-ok report e h = cc

no-err : (e : GatherErr) (report : List ℕ) → answer_err e ≡ answer report → ⊥
no-err e report h = cc

module _ (root from dest : List ℕ) (t : TreeMap) where
  abbrev Due : ℕ → Type 0
  Due n = GatherDue root from dest t n

  abbrev Cut : ℕ → Type 0
  Cut n = GatherCut root from dest t n

  err_due : (e : GatherErr) (r : Result (List ℕ) GatherErr) → r ≡ answer_err e → AnswersDue root from dest t r → Due (gather_status e) ⊎ Cut (gather_status e)
  err_due e r is (answers.reports {report} has) = absurd (no-ok report e is)
  err_due e r is (answers.ends {e = d} ended) = inl (due.none d ended (ap gather_status (sym (same-err d e is))))
  err_due e r is (answers.cut {e = d} c) = inr (cuts.in_place d c (ap gather_status (sym (same-err d e is))))

  ok_due : (report : List ℕ) (r : Result (List ℕ) GatherErr) → r ≡ answer report → AnswersDue root from dest t r → HasReport root from dest t
  ok_due report r is (answers.reports has) = has
  ok_due report r is (answers.ends {e = d} ended) = absurd (no-err d report is)
  ok_due report r is (answers.cut {e = d} c) = absurd (no-err d report is)

  -- a status that is due is the one that is due of an end, or that of a report
  end_comes : (e : GatherErr) (k : ℕ) → IsDue root from dest t e → Due k → gather_status e ≡ k
  end_comes e k is (due.report has f) = absurd (due-no-report root from dest t e is has)
  end_comes e k is (due.none d ended f) = same_status e d (dues-one root from dest t e d is ended) ∙ sym f

  err_comes : (e : GatherErr) (k : ℕ) (r : Result (List ℕ) GatherErr) → r ≡ answer_err e → AnswersDue root from dest t r → Due k → (gather_status e ≡ k) ⊎ Cut (gather_status e)
  err_comes e k r is (answers.reports {report} has) asked = absurd (no-ok report e is)
  err_comes e k r is (answers.ends {e = d} ended) asked = inl (ap gather_status (sym (same-err d e is)) ∙ end_comes d k ended asked)
  err_comes e k r is (answers.cut {e = d} c) asked = inr (cuts.in_place d c (ap gather_status (sym (same-err d e is))))

  ok_comes : (k : ℕ) → HasReport root from dest t → Due k → 0 ≡ k
  ok_comes k has (due.report also f) = sym f
  ok_comes k has (due.none d ended f) = absurd (due-no-report root from dest t d ended has)

  due_at : (n : ℕ) → IsReported n → HasReport root from dest t → Due n ⊎ Cut n
  due_at n (reported.done e) has = inl (due.report has e)
  due_at n (reported.failed e) has = inr (cuts.output e)

  comes_at : (n k : ℕ) → IsReported n → HasReport root from dest t → Due k → (n ≡ k) ⊎ Cut n
  comes_at n k (reported.done e) has asked = inl (e ∙ ok_comes k has asked)
  comes_at n k (reported.failed e) has asked = inr (cuts.output e)

module _ (root from dest : List ℕ) (jobs : ℕ) (old new : Seen) (heard said : Heard) where
  err_starts : (e : GatherErr) → GatherRan root from dest jobs old new (answer_err e) → GatherStarts root from dest jobs old new heard said (gather_status e)
  err_starts e ran = record {
    images = ran.images;
    ended = λ start under is. absurd (not_reported (gather_status e) (gather_unreported e) is);
    steps = λ start under c shows.
        led (gather_folder root) c old.past new.past (answer_err e) (gather_status e) (ran.steps start under c shows) (λ is. absurd (not_reported (gather_status e) (gather_unreported e) is));
    settles = ran.settles;
    mild = λ start under. quiet_mild (gather_status e) (mild_quiet e (ran.mild start under));
    due = λ t tells. err_due root from dest t e (answer_err e) refl (ran.due t tells);
    comes = λ t k tells asked. err_comes root from dest t e k (answer_err e) refl (ran.due t tells) asked;
    completes = λ is calm well. inr (ran.completes is calm);
  }

  pub unreported_starts : (e : GatherErr) (x : End) (result : Result (List ℕ) GatherErr) → result ≡ Err e → x ≡ gather_end e → GatherRan root from dest jobs old new result
      → GatherStarts root from dest jobs old new heard said (status_of x)
  unreported_starts e x result is at ran =
      subst (λ (n : ℕ). GatherStarts root from dest jobs old new heard said n) (sym (ap status_of at)) (err_starts e (subst (λ (r : Result (List ℕ) GatherErr). GatherRan root from dest jobs old new r) is ran))

  pub unreported_ends : (e : GatherErr) (x : End) (result : Result (List ℕ) GatherErr) → result ≡ Err e → x ≡ gather_end e → said ≡ heard → GatherRan root from dest jobs old new result
      → GatherWays root from dest old new heard said x
  unreported_ends e x result is at silent ran =
      let here : GatherRan root from dest jobs old new (answer_err e) = subst (λ (r : Result (List ℕ) GatherErr). GatherRan root from dest jobs old new r) is ran in
      subst (λ (y : End). GatherWays root from dest old new heard said y) (sym at) (ends.unreported e here.ends silent)

  ok_starts : (report : List ℕ) (n : ℕ) → IsReported n → Said report heard said → (n ≡ 0 → said.bytes ≡ grown heard.bytes report) → (n ≡ 7 → Rose heard.faults said.faults)
      → GatherRan root from dest jobs old new (answer report) → GatherStarts root from dest jobs old new heard said n
  ok_starts report n is told whole failed ran = record {
    images = ran.images;
    ended = λ start under _. record { report = report; ended = ran.ended.is start under; told = told; whole = whole };
    steps = λ start under c shows.
        let l : LeadsTo (gather_folder root) c old.past new.past (answer report) = ran.steps start under c shows in
        led (gather_folder root) c old.past new.past (answer report) n l (λ _. l.closed);
    settles = ran.settles;
    mild = λ start under. reported_mild n is;
    due = λ t tells. due_at root from dest t n is (ok_due root from dest t report (answer report) refl (ran.due t tells));
    comes = λ t k tells asked. comes_at root from dest t n k is (ok_due root from dest t report (answer report) refl (ran.due t tells)) asked;
    completes = λ un calm well. completes_at n is failed well;
  }
    where
      completes_at : (n : ℕ) → IsReported n → (n ≡ 7 → Rose heard.faults said.faults) → (Rose heard.faults said.faults → ⊥) → (n ≡ 0) ⊎ (n ≡ 13)
      completes_at n (reported.done e) failed well = inl e
      completes_at n (reported.failed e) failed well = absurd (well (failed e))

  pub reported_starts : (report : List ℕ) (x : End) (result : Result (List ℕ) GatherErr) → result ≡ Ok report → ReportEnds report heard said x → GatherRan root from dest jobs old new result
      → GatherStarts root from dest jobs old new heard said (status_of x)
  reported_starts report x result is (reports.whole bytes told) ran =
      ok_starts report 0 (reported.done refl) told (λ _. bytes) (λ seven. absurd (apart 0 7 refl refl seven))
      (subst (λ (r : Result (List ℕ) GatherErr). GatherRan root from dest jobs old new r) is ran)
  reported_starts report x result is (reports.failed told rose) ran =
      ok_starts report 7 (reported.failed refl) told (λ zero. absurd (apart 7 0 refl refl zero)) (λ _. rose)
      (subst (λ (r : Result (List ℕ) GatherErr). GatherRan root from dest jobs old new r) is ran)

  pub reported_ends : (report : List ℕ) (x : End) (result : Result (List ℕ) GatherErr) → result ≡ Ok report → ReportEnds report heard said x → GatherRan root from dest jobs old new result
      → GatherWays root from dest old new heard said x
  reported_ends report x result is (reports.whole bytes told) ran =
      let here : GatherRan root from dest jobs old new (answer report) = subst (λ (r : Result (List ℕ) GatherErr). GatherRan root from dest jobs old new r) is ran in
      ends.done (record { report = report; ended = here.ended; told = bytes })
  reported_ends report x result is (reports.failed told rose) ran =
      let here : GatherRan root from dest jobs old new (answer report) = subst (λ (r : Result (List ℕ) GatherErr). GatherRan root from dest jobs old new r) is ran in
      ends.cut here.ended told rose

  -- what holds of a start at any status holds of it where memory is wanting for its line
  pub gather_wanting : (n : ℕ) → GatherStarts root from dest jobs old new heard said n → GatherStarts root from dest jobs old new heard said 13
  gather_wanting n s = record {
    images = s.images;
    ended = λ start under is. absurd (not_reported 13 refl is);
    steps = λ start under c shows. steps_wanting (gather_folder root) c old.past new.past n (s.steps start under c shows);
    settles = s.settles;
    mild = λ start under. quiet_mild 13 refl;
    due = λ t tells. inr (memory_cut root from dest t);
    comes = λ t k tells asked. inr (memory_cut root from dest t);
    completes = λ un calm well. inr refl;
  }
