-- Why a start of a gather ends without a report, from what each of its steps ensures.
use Rattle.std.proofs.Common.{◌≡◌, ℕ, ◌<◌, ◌≤◌, Bool, true, false, List, [], length, get_or, refl, sym, ap, subst, ◌∙◌, arith, Result, Ok, Err}
use Rattle.std.specs.Prelude.{Option, Some, IfErr, IsTrue, ⊤}
use Rattle.sha1.specs.Sha1.{sha1}
use Rattle.dw_base.specs.declared.fault.Refusal.{Refusal}
use Rattle.file_tree.specs.declared.node.Found.{Found}
use Rattle.file_tree.specs.declared.node.Found.TheVariants as found
use Rattle.file_tree.specs.Causes.{Rose}
use Rattle.file_tree.specs.Seen.{Seen, map_now, now_of}
use Rattle.file_tree.specs.Trees.{TreeMap, stands_at}
use Rattle.journal_core.specs.Table.{CoreState, closed_core, old_core}
use Rattle.work_texts.specs.declared.journal_err.JournalErr.{JournalErr}
use Rattle.work_texts.specs.declared.journal_err.JournalErr.TheVariants as journal
use Rattle.work_texts.specs.declared.plan.PlanData.{PlanData}
use Rattle.work_texts.specs.Rules.{text_limit}
use Rattle.work_journal.specs.declared.opening.Opened.{Opened}
use Rattle.work_journal.specs.declared.opening.Opened.TheVariants as opened
use Rattle.work_journal.specs.Blames.{IsChanged, is_file, is_mild_run}
use Rattle.work_journal.specs.Blames.{IsChanged as changes}
use Rattle.work_journal.specs.Wanted.{Wanted}
use Rattle.root_paths.specs.Looks.{Looked}
use Rattle.root_paths.specs.Roots.{in_root}
use Rattle.root_paths.specs.Walks.{AreWalked}
use Rattle.root_plan.specs.Makers.{job_at}
use Rattle.root_run.specs.RunEnds.{IsSame}
use Rattle.root_run.specs.Starts.{ClearRan, IsEarly, IsEndRun}
use Rattle.root_run.proofs.EndsLaws.{holds, opens-move, rose-since, run-blames-move, told}
use Rattle.root_run.proofs.MildLaws.{file-read}
use Rattle.root_run.proofs.StatusLaws.{err_of, is_of_text, opens-text}
use Rattle.src_gather.specs.declared.gather_err.GatherErr.{GatherErr}
use Rattle.src_gather.specs.declared.gather_err.GatherErr.TheVariants as err
use Rattle.src_gather.specs.Asked.{IsAsked}
use Rattle.src_gather.specs.Errors.{journal_ends}
use Rattle.src_gather.specs.Gathering.{IsGatherPlan, gather_key}
use Rattle.src_gather.specs.GatherEnds.{CopyBlames, GatherEnds, GatherOpens, IsNeverRefused, ListEnds, NameEnds, NamingEnds, NoneRefused, OrStopped, PlanEnds, RootEnds, is_due, is_text}
use Rattle.src_gather.specs.GatherEnds.{GatherEnds as ends, ListEnds as list_end, NameEnds as name_end, NamesEnd as names_end, NamingEnds as naming_end, OrStopped as or_stopped, PlanEnds as plan_end, RootEnds as root_end}
use Rattle.src_gather.specs.Listed.{copy_folder}
use Rattle.src_gather.specs.Makers.{copy_view, gather_folder}
use Rattle.src_gather.specs.Starts.{ClearEnded, CopyRan, CopyWent, EarlyEnds, HasOpened, OpenedWent, StartRan, report_of}
use Rattle.src_gather.specs.Starts.{ClearEnded as over, CopyWent as went, EarlyEnds as early_end, OpenedWent as way, StartRan as start}
use Rattle.src_gather.proofs.CopyLaws.{job_there}
use Rattle.src_gather.proofs.FolderLaws.{sources-apart}
use Rattle.src_gather.proofs.WantedLaws.{HaveSources, plan-have}

-- ### Answers

at-err : (r : Result (List ℕ) GatherErr) (e : GatherErr) (P : GatherErr → Type 0) → r ≡ Err e → P e → IfErr r P
at-err r e P is h = rw is h

looked-same : (old mid new : Seen) → IsSame old mid → Looked mid new → IsSame old new
looked-same old mid new same l = record { now = l.now ∙ same.now; later = omega (arith, same.later, l.later); tells = l.tells ∙ same.tells }

early-same : (old new : Seen) → IsEarly old new → IsSame old new
early-same old new is = record { now = is.now; later = is.later; tells = is.tells }

not-mild : (e : JournalErr) → is_mild_run e ≡ false → IsTrue (is_mild_run e) → ⊥
not-mild e f g = apart (sym g ∙ f)
  where
    apart : true ≡ false → ⊥
    apart h = cc

abbrev unit_err : JournalErr → Result (Unit {0}) JournalErr
unit_err e = Err e

fault-of : (e : JournalErr) → e ≡ journal.Tree → unit_err e ≡ unit_err journal.Tree
fault-of e f = ap unit_err f

-- an end that isn't mild is the journal's
hard-end : (e : JournalErr) (P : GatherErr → Type 0) → is_mild_run e ≡ false → P (err.Journal e) → P (journal_ends e)
hard-end (journal.Changed path was digest) P hard h = h
hard-end (journal.Refused path r) P hard h = h
hard-end journal.Tree P hard h = absurd (apart hard)
  where
    apart : true ≡ false → ⊥
    apart h = cc
hard-end journal.NoMemory P hard h = absurd (apart hard)
  where
    apart : true ≡ false → ⊥
    apart h = cc
hard-end (journal.PlanText file at) P hard h = h
hard-end (journal.OtherRun field kept given) P hard h = h

-- ### A plan that was just made

no-file : (bytes : List ℕ) (mode : ℕ) (x : Found) → x ≡ found.File bytes mode → is_file x ≡ false → ⊥
no-file bytes mode x e f = apart (ap is_file (sym e) ∙ f)
  where
    apart : true ≡ false → ⊥
    apart g = cc

same-file : (b c : List ℕ) (m n : ℕ) → found.File b m ≡ found.File c n → b ≡ c
same-file b c m n e = cc

module _ (root from dest : List ℕ) (paths : List (List ℕ)) (p : PlanData) (t : TreeMap) (old : Seen) (here : now_of old ≡ Some t) (is : IsGatherPlan (now_of old) root from dest paths p) where
  have : HaveSources t from p.jobs
  have = plan-have t root from dest paths p (subst (λ (o : Option TreeMap). IsGatherPlan o root from dest paths p) here is)

  jobs-in : (j : ℕ) → j < length (copy_view (copy_folder root dest) from p.jobs).steps → j < length p.jobs
  jobs-in j l = job_there p.jobs j l

  stands : (j : ℕ) (l : j < length p.jobs) → old.tells ≡ true
      → stands_at (map_now old.past) (in_root from (job_at p.jobs j).path) text_limit ≡ found.File (get_or have.sources j []) (have.each j l).mode
  stands j l tells =
      subst (λ (m : TreeMap). stands_at m (in_root from (job_at p.jobs j).path) text_limit ≡ found.File (get_or have.sources j []) (have.each j l).mode) (sym (holds old t tells here))
      (file-read t (in_root from (job_at p.jobs j).path) (get_or have.sources j []) (have.each j l).mode text_limit (have.each j l).there (have.each j l).few)

  never-changed : (j : ℕ) (was : List ℕ) (digest : Option (List ℕ)) → old.tells ≡ true → j < length (copy_view (copy_folder root dest) from p.jobs).steps
      → IsChanged (copy_view (copy_folder root dest) from p.jobs) old j was digest → ⊥
  never-changed j was digest tells l (changes.no_file at none) =
      no-file (get_or have.sources j []) (have.each j (jobs-in j l)).mode _ (stands j (jobs-in j l) tells) (none.is tells)
  never-changed j was digest tells l (changes.other_file bytes mode there other) =
      other.differs (ap sha1 (same-file bytes (get_or have.sources j []) mode (have.each j (jobs-in j l)).mode (sym (there.is tells) ∙ stands j (jobs-in j l) tells)) ∙ have.digests j (jobs-in j l))

  -- over a tree that tells none of its sources is changed
  pub fresh-mild : (e : JournalErr) → old.tells ≡ true → CopyBlames (copy_folder root dest) from p old e → IsTrue (is_mild_run e)
  fresh-mild (journal.Changed path was digest) tells h = absurd (never-changed h.0 was digest tells h.1 h.3)
  fresh-mild (journal.Refused path r) tells h = absurd h.3.refused
  fresh-mild journal.Tree tells h = refl
  fresh-mild journal.NoMemory tells h = refl
  fresh-mild (journal.PlanText file at) tells h = absurd h
  fresh-mild (journal.OtherRun field kept given) tells h = absurd h

-- ### What a start found

module _ (root from dest : List ℕ) (old mid : Seen) (paths : List (List ℕ)) (o : Opened) (has : HasOpened root from dest paths o old mid) where
  pub same-mid : IsSame old mid
  same-mid = looked-same old has.first.mid mid (record { now = has.first.now; later = has.first.later; tells = has.first.tells }) has.first.looked

  pub opens-old : GatherOpens root from dest paths old (Ok o)
  opens-old = opens-move has.at old has.at_tells has.at_now (gather_folder root) paths (gather_key from dest) (Ok o) has.opens

-- ### A start

module _ (root from dest : List ℕ) (asked : IsAsked root from dest) (in_flight : ℕ) where
  abbrev Ends : Seen → Seen → GatherErr → Type 0
  Ends old new e = GatherEnds root from dest old new e

  -- a mild end of a journal
  mild-ends : (old mid new : Seen) (e : JournalErr) → old.faults ≤ mid.faults → (e ≡ journal.Tree → Rose mid.faults new.faults) → IsTrue (is_mild_run e) → Ends old new (journal_ends e)
  mild-ends old mid new (journal.Changed path was digest) later failed mild = cc
  mild-ends old mid new (journal.Refused path r) later failed mild = cc
  mild-ends old mid new journal.Tree later failed mild = ends.failed (rose-since old mid new later (failed refl))
  mild-ends old mid new journal.NoMemory later failed mild = ends.no_memory
  mild-ends old mid new (journal.PlanText file at) later failed mild = cc
  mild-ends old mid new (journal.OtherRun field kept given) later failed mild = cc

  -- where it isn't mild, by a row of its own
  by-mild : (old mid new : Seen) (e : JournalErr) (b : Bool) → is_mild_run e ≡ b → old.faults ≤ mid.faults → (e ≡ journal.Tree → Rose mid.faults new.faults)
      → (is_mild_run e ≡ false → Ends old new (err.Journal e)) → Ends old new (journal_ends e)
  by-mild old mid new e true is later failed row = mild-ends old mid new e later failed is
  by-mild old mid new e false is later failed row = hard-end e (Ends old new) is (row is)

  -- the walk
  walking-ends : (at old new : Seen) (e : GatherErr) → now_of at ≡ now_of old → old.faults ≤ at.faults → RootEnds at new root e → IsSame old new → Ends old new e
  walking-ends at old new e now later (root_end.absent none) same = ends.absent (record { are = λ t here. none.are t (now ∙ here) }) same
  walking-ends at old new e now later (root_end.many m) same = ends.entries (record { many = λ t here. m.many t (now ∙ here) }) same
  walking-ends at old new e now later (root_end.failed rose) same = ends.failed (rose-since old at new later rose)
  walking-ends at old new e now later root_end.no_memory same = ends.no_memory

  -- the texts of the work folder
  opening-ends : (at old new : Seen) (paths : List (List ℕ)) (e : JournalErr) → at.tells ≡ old.tells → now_of at ≡ now_of old → AreWalked (now_of old) root paths
      → GatherOpens root from dest paths at (Err e) → (e ≡ journal.Tree → Rose old.faults new.faults) → IsSame old new → Ends old new (journal_ends e)
  opening-ends at old new paths e tells now walked o failed same =
      by-mild old old new e (is_mild_run e) refl (omega arith) failed
      (λ hard. ends.opening walked hard (opens-move at old tells now (gather_folder root) paths (gather_key from dest) (Err e) o) same)

  -- the plan
  planning-ends : (mid old new : Seen) (paths : List (List ℕ)) (e : GatherErr) → now_of mid ≡ now_of old → old.faults ≤ mid.faults → AreWalked (now_of old) root paths
      → GatherOpens root from dest paths old (Ok opened.Empty) → OrStopped (PlanEnds (now_of mid) root from dest paths) mid new e → IsSame old new → Ends old new e
  planning-ends mid old new paths e now later walked o (or_stopped.told ended) same =
      ends.planning walked o (subst (λ (x : Option TreeMap). PlanEnds x root from dest paths e) now ended) same
  planning-ends mid old new paths e now later walked o (or_stopped.failed rose) same = ends.failed (rose-since old mid new later rose)
  planning-ends mid old new paths e now later walked o or_stopped.no_memory same = ends.no_memory

  -- the blame of a moment at which the tree held the same
  blame-old : (old mid : Seen) (p : PlanData) (e : JournalErr) → IsSame old mid → CopyBlames (copy_folder root dest) from p mid e → CopyBlames (copy_folder root dest) from p old e
  blame-old old mid p e same b = run-blames-move mid old same.tells same.now (copy_view (copy_folder root dest) from p.jobs) NoneRefused e b

  -- the jobs of a plan that is there
  resumed-ends : (old mid new : Seen) (paths : List (List ℕ)) (p : PlanData) (e : JournalErr) → IsSame old mid → AreWalked (now_of old) root paths
      → GatherOpens root from dest paths old (Ok (opened.Resumed p)) → (e ≡ journal.Tree → Rose mid.faults new.faults) → CopyBlames (copy_folder root dest) from p new e
      → CopyBlames (copy_folder root dest) from p mid e → Ends old new (journal_ends e)
  resumed-ends old mid new paths p e same walked o failed blame stays =
      by-mild old mid new e (is_mild_run e) refl same.later failed (λ hard. ends.resumed p walked o hard blame (blame-old old mid p e same stays))

  -- and of one that was just made
  planned-by : (old mid new : Seen) (paths : List (List ℕ)) (p : PlanData) (e : JournalErr) (b : Bool) → old.tells ≡ b → IsSame old mid → AreWalked (now_of old) root paths
      → GatherOpens root from dest paths old (Ok opened.Empty) → IsGatherPlan (now_of old) root from dest paths p → CopyBlames (copy_folder root dest) from p new e
      → CopyBlames (copy_folder root dest) from p mid e → is_mild_run e ≡ false → Ends old new (err.Journal e)
  planned-by old mid new paths p e true tells same walked o is blame stays hard =
      absurd (not-mild e hard (fresh-mild root from dest paths p (map_now old.past) old (told old tells) is e tells (blame-old old mid p e same stays)))
  planned-by old mid new paths p e false tells same walked o is blame stays hard = ends.planned p walked o is tells hard blame

  planned-ends : (old mid new : Seen) (paths : List (List ℕ)) (p : PlanData) (e : JournalErr) → IsSame old mid → AreWalked (now_of old) root paths
      → GatherOpens root from dest paths old (Ok opened.Empty) → IsGatherPlan (now_of old) root from dest paths p → (e ≡ journal.Tree → Rose mid.faults new.faults)
      → CopyBlames (copy_folder root dest) from p new e → CopyBlames (copy_folder root dest) from p mid e → Ends old new (journal_ends e)
  planned-ends old mid new paths p e same walked o is failed blame stays =
      by-mild old mid new e (is_mild_run e) refl same.later failed (planned-by old mid new paths p e old.tells refl same walked o is blame stays)

  -- ### Before the tree is changed

  early-ended : (old new : Seen) (e : GatherErr) → IsEarly old new → EarlyEnds root from dest old new e → Ends old new e
  early-ended old new e is (early_end.failed rose) = ends.failed rose
  early-ended old new e is early_end.no_memory = ends.no_memory
  early-ended old new e is (early_end.walking {e = d} at now later ended) = walking-ends at old new d now later ended (early-same old new is)
  early-ended old new e is (early_end.opening {e = d} at paths tells now walked o failed) = opening-ends at old new paths d tells now walked o failed (early-same old new is)

  -- ### By what the work folder holds

  module _ (old mid new : Seen) (paths : List (List ℕ)) (same : IsSame old mid) (walked : AreWalked (now_of old) root paths) where
    cleared-ended : (report : List ℕ) (result : Result (List ℕ) GatherErr) (may : Wanted → Type 0) (n : ℕ) (c : CoreState) (r : Result (Unit {0}) JournalErr)
        → ClearRan (gather_folder root) may n c mid new r → result ≡ report_of r report → IfErr result (Ends old new)
    cleared-ended report result may n c (Ok u) ran is = rw is tt
    cleared-ended report result may n c (Err e) ran is =
        at-err result (journal_ends e) (Ends old new) is (mild-ends old mid new e same.later (λ f. ran.ran.came.failed (fault-of e f)) ran.mild)

    over-ended : (report : List ℕ) (earlier : Bool) (result : Result (List ℕ) GatherErr) → ClearEnded (gather_folder root) (gather_key from dest) report mid new result earlier
        → IfErr result (Ends old new)
    over-ended report earlier result (over.no_text none is) = at-err result err.NoMemory (Ends old new) is ends.no_memory
    over-ended report earlier result (over.renewed r ran is) = cleared-ended report result (IsEndRun (gather_key from dest) report) 2 old_core r ran is
    over-ended report earlier result (over.cleared r ran is) = cleared-ended report result (λ w. ⊤) 1 closed_core r ran is

    resumed-ended : (p : PlanData) (c : CoreState) (result : Result (List ℕ) GatherErr) → GatherOpens root from dest paths old (Ok (opened.Resumed p))
        → CopyWent (copy_folder root dest) from (gather_folder root) p in_flight c mid new result → IfErr result (Ends old new)
    resumed-ended p c result o (went.no_start none is) = at-err result err.NoMemory (Ends old new) is ends.no_memory
    resumed-ended p c result o (went.started r ran is) = by-end r ran is
      where
        by-end : (r : Result (Unit {0}) JournalErr) → CopyRan (copy_folder root dest) from (gather_folder root) p in_flight c mid new r → result ≡ report_of r p.report → IfErr result (Ends old new)
        by-end (Ok u) ran is = rw is tt
        by-end (Err e) ran is =
            at-err result (journal_ends e) (Ends old new) is
            (resumed-ends old mid new paths p e same walked o (λ f. ran.ran.came.failed (fault-of e f)) ran.blame (ran.stays (sources-apart root from dest asked p.jobs)))

    planned-ended : (p : PlanData) (c : CoreState) (result : Result (List ℕ) GatherErr) → GatherOpens root from dest paths old (Ok opened.Empty)
        → IsGatherPlan (now_of old) root from dest paths p → CopyWent (copy_folder root dest) from (gather_folder root) p in_flight c mid new result → IfErr result (Ends old new)
    planned-ended p c result o made (went.no_start none is) = at-err result err.NoMemory (Ends old new) is ends.no_memory
    planned-ended p c result o made (went.started r ran is) = by-end r ran is
      where
        by-end : (r : Result (Unit {0}) JournalErr) → CopyRan (copy_folder root dest) from (gather_folder root) p in_flight c mid new r → result ≡ report_of r p.report → IfErr result (Ends old new)
        by-end (Ok u) ran is = rw is tt
        by-end (Err e) ran is =
            at-err result (journal_ends e) (Ends old new) is
            (planned-ends old mid new paths p e same walked o made (λ f. ran.ran.came.failed (fault-of e f)) ran.blame (ran.stays (sources-apart root from dest asked p.jobs)))

  opened-ended : (old mid new : Seen) (paths : List (List ℕ)) (o : Opened) (result : Result (List ℕ) GatherErr) → HasOpened root from dest paths o old mid
      → OpenedWent root from dest (gather_folder root) in_flight paths mid new result o → IfErr result (Ends old new)
  opened-ended old mid new paths o result has (way.finished {report} {earlier} ended) = over-ended old mid new paths (same-mid root from dest old mid paths o has) has.walked report earlier result ended
  opened-ended old mid new paths o result has (way.resumed {p} ran) = resumed-ended old mid new paths (same-mid root from dest old mid paths o has) has.walked p _ result (opens-old root from dest old mid paths o has) ran
  opened-ended old mid new paths o result has (way.unplanned e looked ended is) =
      at-err result e (Ends old new) is
      (planning-ends mid old new paths e (same-mid root from dest old mid paths o has).now (same-mid root from dest old mid paths o has).later has.walked (opens-old root from dest old mid paths o has) ended
      (looked-same old mid new (same-mid root from dest old mid paths o has) looked))
  opened-ended old mid new paths o result has (way.planned p far looked is ran) =
      planned-ended old far new paths (looked-same old mid far (same-mid root from dest old mid paths o has) looked) has.walked p _ result (opens-old root from dest old mid paths o has)
      (subst (λ (x : Option TreeMap). IsGatherPlan x root from dest paths p) (same-mid root from dest old mid paths o has).now is) ran

  -- why a start ends without a report
  pub start-ends : (old new : Seen) (result : Result (List ℕ) GatherErr) → StartRan root from dest in_flight old new result → IfErr result (Ends old new)
  start-ends old new result (start.early e is ended answer) = at-err result e (Ends old new) answer (early-ended old new e is ended)
  start-ends old new result (start.entered paths o mid has ran) = opened-ended old mid new paths o result has ran

-- ### What an end says

same-journal : (a b : JournalErr) → err.Journal a ≡ err.Journal b → a ≡ b
same-journal a b e = cc

-- a text of the work folder that stops a start is bad, or of another run
of-text : (d : JournalErr) → is_of_text d ≡ true → is_text d ≡ true
of-text (journal.Changed path was digest) e = cc
of-text (journal.Refused path r) e = cc
of-text journal.Tree e = cc
of-text journal.NoMemory e = cc
of-text (journal.PlanText file at) e = refl
of-text (journal.OtherRun field kept given) e = refl

pub opened-text : (root from dest : List ℕ) (paths : List (List ℕ)) (seen : Seen) (d : JournalErr) → GatherOpens root from dest paths seen (Err d) → is_mild_run d ≡ false → is_text d ≡ true
opened-text root from dest paths seen d o hard = of-text d (opens-text (gather_folder root) paths (gather_key from dest) seen (err_of d) d o refl hard)

both-never : (b : Bool) → b ≡ true → b ≡ false → ⊥
both-never true e f = cc
both-never false e f = cc

text-refused : (d : JournalErr) (path : List ℕ) (r : Refusal) → is_text d ≡ true → d ≡ journal.Refused path r → ⊥
text-refused d path r is e = both-never (is_text d) is (ap is_text e)

blames-refused : (folder from : List ℕ) (p : PlanData) (seen : Seen) (d : JournalErr) (path : List ℕ) (r : Refusal) → CopyBlames folder from p seen d → d ≡ journal.Refused path r → ⊥
blames-refused folder from p seen (journal.Changed q was digest) path r h e = cc
blames-refused folder from p seen (journal.Refused q s) path r h e = h.3.refused
blames-refused folder from p seen journal.Tree path r h e = cc
blames-refused folder from p seen journal.NoMemory path r h e = cc
blames-refused folder from p seen (journal.PlanText file at) path r h e = cc
blames-refused folder from p seen (journal.OtherRun field kept given) path r h e = cc

-- what a root has no plan for is no journal's
abbrev pub of_journal : GatherErr → Bool
of_journal (err.Absent p) = false
of_journal err.Entries = false
of_journal (err.PathTooLong p) = false
of_journal (err.FileTooLarge p size) = false
of_journal err.PlanTooLarge = false
of_journal (err.Taken p) = false
of_journal (err.Journal e) = true
of_journal err.Tree = true
of_journal err.NoMemory = true

name-plain : (old : Option TreeMap) (root from dest name : List ℕ) (e : GatherErr) → NameEnds old root from dest name e → of_journal e ≡ false
name-plain old root from dest name e (name_end.long_source fit l) = refl
name-plain old root from dest name e (name_end.long_copy fit l) = refl
name-plain old root from dest name e (name_end.too_large fit short large) = refl

list-plain : (old : Option TreeMap) (root : List ℕ) (e : GatherErr) → ListEnds old root e → of_journal e ≡ false
list-plain old root e (list_end.no_end none) = refl
list-plain old root e (list_end.no_list there none) = refl
list-plain old root e (list_end.large_list there large) = refl

naming-plain : (old : Option TreeMap) (root from dest : List ℕ) (e : GatherErr) → NamingEnds old root from dest e → of_journal e ≡ false
naming-plain old root from dest e (naming_end.listing ended) = list-plain old root e ended
naming-plain old root from dest e (naming_end.naming is (names_end.at_name n l gs ended)) = name-plain old root from dest _ e ended

pub plan-plain : (old : Option TreeMap) (root from dest : List ℕ) (paths : List (List ℕ)) (e : GatherErr) → PlanEnds old root from dest paths e → of_journal e ≡ false
plan-plain old root from dest paths e (plan_end.naming ended) = naming-plain old root from dest e ended
plan-plain old root from dest paths e (plan_end.taken gathers t) = refl
plan-plain old root from dest paths e (plan_end.at_text gathers can l) = refl

module _ (root from dest : List ℕ) (old new : Seen) where
  -- no file is refused
  pub ends-never : (e : GatherErr) → GatherEnds root from dest old new e → IsNeverRefused e
  ends-never e (ends.failed rose) path r is = cc
  ends-never e ends.no_memory path r is = cc
  ends-never e (ends.entries m same) path r is = cc
  ends-never e (ends.absent none same) path r is = cc
  ends-never e (ends.opening {paths} {e = d} walked hard o same) path r is =
      text-refused d path r (opened-text root from dest paths old d o hard) (same-journal d (journal.Refused path r) is)
  ends-never e (ends.planning {paths} walked o ended same) path r is = both-never (of_journal e) (ap of_journal is) (plan-plain (now_of old) root from dest paths e ended)
  ends-never e (ends.resumed {e = d} p walked o hard now before) path r is = blames-refused _ _ p new d path r now (same-journal d (journal.Refused path r) is)
  ends-never e (ends.planned {e = d} p walked o made tells hard now) path r is = blames-refused _ _ p new d path r now (same-journal d (journal.Refused path r) is)

  -- a fault of the tree comes only where its count rose
  pub ends-fault : (e : GatherErr) → GatherEnds root from dest old new e → e ≡ err.Tree → Rose old.faults new.faults
  ends-fault e (ends.failed rose) is = rose
  ends-fault e ends.no_memory is = cc
  ends-fault e (ends.entries m same) is = cc
  ends-fault e (ends.absent none same) is = cc
  ends-fault e (ends.opening walked hard o same) is = cc
  ends-fault e (ends.planning {paths} walked o ended same) is = absurd (both-never (of_journal e) (ap of_journal is) (plan-plain (now_of old) root from dest paths e ended))
  ends-fault e (ends.resumed p walked o hard now before) is = cc
  ends-fault e (ends.planned p walked o made tells hard now) is = cc

  pub not-text : (folder : List ℕ) (p : PlanData) (d : JournalErr) → CopyBlames folder from p new d → is_text d ≡ true → ⊥
  not-text folder p (journal.Changed q was digest) h e = cc
  not-text folder p (journal.Refused q s) h e = cc
  not-text folder p journal.Tree h e = cc
  not-text folder p journal.NoMemory h e = cc
  not-text folder p (journal.PlanText file at) h e = h
  not-text folder p (journal.OtherRun field kept given) h e = h

  -- and an end that says why there can't be a report leaves the tree as it was
  pub ends-kept : (e : GatherErr) → GatherEnds root from dest old new e → is_due e ≡ true → IsSame old new
  ends-kept e (ends.failed rose) due = cc
  ends-kept e ends.no_memory due = cc
  ends-kept e (ends.entries m same) due = same
  ends-kept e (ends.absent none same) due = same
  ends-kept e (ends.opening walked hard o same) due = same
  ends-kept e (ends.planning walked o ended same) due = same
  ends-kept e (ends.resumed {e = d} p walked o hard now before) due = absurd (not-text _ p d now due)
  ends-kept e (ends.planned {e = d} p walked o made tells hard now) due = absurd (not-text _ p d now due)
