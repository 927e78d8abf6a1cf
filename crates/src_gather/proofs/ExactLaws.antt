-- The answer of a gather over a tree that tells is the one that is due, or one that may come in its place; and where the cause of an end
-- holds, that end comes, or a fault of the tree or a cut.
use Rattle.std.proofs.Common.{◌≡◌, ℕ, ◌<◌, true, false, List, length, sym, subst, ◌∙◌, arith, Result, Ok, Err}
use Rattle.std.specs.Prelude.{Option, Some}
use Rattle.file_tree.specs.Seen.{Seen, now_of}
use Rattle.file_tree.specs.Trees.{TreeMap, keys_below}
use Rattle.work_texts.specs.declared.journal_err.JournalErr.{JournalErr}
use Rattle.work_texts.specs.declared.journal_err.JournalErr.TheVariants as journal
use Rattle.work_texts.specs.declared.journal_err.WorkFile.{WorkFile}
use Rattle.work_texts.specs.declared.plan.PlanData.{PlanData}
use Rattle.work_journal.specs.declared.opening.Opened.{Opened}
use Rattle.work_journal.specs.declared.opening.Opened.TheVariants as opened
use Rattle.work_journal.specs.Blames.{is_mild_run}
use Rattle.root_paths.specs.Roots.{most_paths}
use Rattle.root_paths.specs.Walks.{AreWalked}
use Rattle.root_run.specs.Dues.{HasOwnPlan, HasPaths, IsFresh}
use Rattle.root_run.specs.RunEnds.{journal_status}
use Rattle.root_run.proofs.KeysLaws.{keys-order}
use Rattle.root_run.proofs.ShownLaws.{are-keys, both-never, empty-shown, finished-shown, has-own-plan, known-tells, no-paths, opening-shown, resumed-shown, shown-fresh, shown-one, shown-paths}
use Rattle.src_gather.specs.declared.gather_err.GatherErr.{GatherErr}
use Rattle.src_gather.specs.declared.gather_err.GatherErr.TheVariants as err
use Rattle.src_gather.specs.Asked.{IsAsked}
use Rattle.src_gather.specs.Errors.{AreSameEnds, AreSameTexts}
use Rattle.src_gather.specs.Errors.{AreSameEnds as same, AreSameTexts as alike, IsStopped as stop}
use Rattle.src_gather.specs.Gathering.{IsGatherPlan, gather_key}
use Rattle.src_gather.specs.Dues.{AnswersDue, GatherShown, HasReport, IsCut, IsDue}
use Rattle.src_gather.specs.Dues.{AnswersDue as answers, HasReport as reports, IsCut as cuts, IsDue as due}
use Rattle.src_gather.specs.GatherEnds.{CopyBlames, EndsSo, GatherEnds, GatherOpens, IsExact, PlanEnds, is_due, is_text}
use Rattle.src_gather.specs.Listed.{copy_folder}
use Rattle.src_gather.specs.GatherEnds.{EndsSo as ends_so, GatherEnds as ends}
use Rattle.src_gather.specs.Makers.{gather_folder}
use Rattle.src_gather.specs.Starts.{HasOpened, OpenedWent, StartRan}
use Rattle.src_gather.specs.Starts.{OpenedWent as way, StartRan as start}
use Rattle.src_gather.proofs.EndsLaws.{not-text, opened-text, opens-old, same-mid, start-ends}
use Rattle.src_gather.proofs.OneLaws.{plan-ends-one, plan-not}

-- ### Answers

abbrev answer : List ℕ → Result (List ℕ) GatherErr
answer report = Ok report

abbrev answer_err : GatherErr → Result (List ℕ) GatherErr
answer_err f = Err f

-- ### Texts

eleven-nine : ◌≡◌ {A = ℕ} 11 9 → ⊥
eleven-nine h = omega (arith, h)

eleven-zero : ◌≡◌ {A = ℕ} 11 0 → ⊥
eleven-zero h = omega (arith, h)

nine-zero : ◌≡◌ {A = ℕ} 9 0 → ⊥
nine-zero h = omega (arith, h)

bad-same : (f : WorkFile) (m : ℕ) (e : JournalErr) → is_text e ≡ true → 11 ≡ journal_status e → AreSameTexts (journal.PlanText f m) e
bad-same f m (journal.Changed path was digest) b h = cc
bad-same f m (journal.Refused path r) b h = cc
bad-same f m journal.Tree b h = cc
bad-same f m journal.NoMemory b h = cc
bad-same f m (journal.PlanText g n) b h = alike.same_bad
bad-same f m (journal.OtherRun field kept given) b h = absurd (eleven-nine h)

other-same : (m : ℕ) (x y : List ℕ) (e : JournalErr) → is_text e ≡ true → 9 ≡ journal_status e → AreSameTexts (journal.OtherRun m x y) e
other-same m x y (journal.Changed path was digest) b h = cc
other-same m x y (journal.Refused path r) b h = cc
other-same m x y journal.Tree b h = cc
other-same m x y journal.NoMemory b h = cc
other-same m x y (journal.PlanText g n) b h = absurd (eleven-nine (sym h))
other-same m x y (journal.OtherRun n z w) b h = alike.same_other

-- two texts that end a start with one status
texts-same : (d e : JournalErr) → is_text d ≡ true → is_text e ≡ true → journal_status d ≡ journal_status e → AreSameTexts d e
texts-same (journal.Changed path was digest) e a b h = cc
texts-same (journal.Refused path r) e a b h = cc
texts-same journal.Tree e a b h = cc
texts-same journal.NoMemory e a b h = cc
texts-same (journal.PlanText f m) e a b h = bad-same f m e b h
texts-same (journal.OtherRun m x y) e a b h = other-same m x y e b h

-- no text that ends a start is one of the gather
text-not-own : (e : JournalErr) → is_text e ≡ true → journal_status e ≡ 0 → ⊥
text-not-own (journal.Changed path was digest) a h = cc
text-not-own (journal.Refused path r) a h = cc
text-not-own journal.Tree a h = cc
text-not-own journal.NoMemory a h = cc
text-not-own (journal.PlanText f m) a h = eleven-zero h
text-not-own (journal.OtherRun field kept given) a h = nine-zero h

module _ (root from dest : List ℕ) (t : TreeMap) where
  abbrev Due : GatherErr → Type 0
  Due e = IsDue root from dest t e

  abbrev Shown : ℕ → Type 0
  Shown n = GatherShown root from dest t n

  abbrev Fresh : Type 0
  Fresh = IsFresh root (gather_folder root) t

  few-many : HasPaths root t → most_paths < length (keys_below t root) → ⊥
  few-many has l = omega (arith, l, has.few)

  -- one end is due
  pub dues-one : (e f : GatherErr) → Due e → Due f → AreSameEnds e f
  dues-one e f (due.many l) (due.many k) = same.same_entries
  dues-one e f (due.many l) (due.none is) = absurd (no-paths (keys_below t root) is l)
  dues-one e f (due.many l) (due.opening {e = d} text is) = absurd (few-many (shown-paths root (gather_folder root) (gather_key from dest) t (journal_status d) is) l)
  dues-one e f (due.many l) (due.planning is ended) = absurd (few-many is.paths l)
  dues-one e f (due.none is) (due.many l) = absurd (no-paths (keys_below t root) is l)
  dues-one e f (due.none is) (due.none also) = same.same_absent
  dues-one e f (due.none e0) (due.opening {e = d} text is) = absurd ((shown-paths root (gather_folder root) (gather_key from dest) t (journal_status d) is).some e0)
  dues-one e f (due.none e0) (due.planning is ended) = absurd (is.paths.some e0)
  dues-one e f (due.opening {e = d} text is) (due.many l) = absurd (few-many (shown-paths root (gather_folder root) (gather_key from dest) t (journal_status d) is) l)
  dues-one e f (due.opening {e = d} text is) (due.none e0) = absurd ((shown-paths root (gather_folder root) (gather_key from dest) t (journal_status d) is).some e0)
  dues-one e f (due.opening {e = c} text is) (due.opening {e = d} also shows) =
      same.same_journal (texts-same c d text also (shown-one root (gather_folder root) (gather_key from dest) t (journal_status c) (journal_status d) is shows))
  dues-one e f (due.opening {e = d} text is) (due.planning fresh ended) = absurd (shown-fresh root (gather_folder root) (gather_key from dest) t (journal_status d) is fresh)
  dues-one e f (due.planning is ended) (due.many l) = absurd (few-many is.paths l)
  dues-one e f (due.planning is ended) (due.none e0) = absurd (is.paths.some e0)
  dues-one e f (due.planning fresh ended) (due.opening {e = d} text is) = absurd (shown-fresh root (gather_folder root) (gather_key from dest) t (journal_status d) is fresh)
  dues-one e f (due.planning is ended) (due.planning also ended2) = plan-ends-one t root from dest (keys_below t root) (keys-order t root) e f ended ended2

  -- none is due beside a text of the gather
  due-not-own : (e : GatherErr) → Due e → Shown 0 → ⊥
  due-not-own e (due.many l) own = few-many (shown-paths root (gather_folder root) (gather_key from dest) t 0 own) l
  due-not-own e (due.none is) own = (shown-paths root (gather_folder root) (gather_key from dest) t 0 own).some is
  due-not-own e (due.opening {e = d} text is) own = text-not-own d text (shown-one root (gather_folder root) (gather_key from dest) t (journal_status d) 0 is own)
  due-not-own e (due.planning is ended) own = shown-fresh root (gather_folder root) (gather_key from dest) t 0 own is

  -- nor where there is a plan to make
  due-not-planned : (e : GatherErr) (p : PlanData) → Due e → Fresh → IsGatherPlan (Some t) root from dest (keys_below t root) p → ⊥
  due-not-planned e p (due.many l) is made = few-many is.paths l
  due-not-planned e p (due.none e0) is made = is.paths.some e0
  due-not-planned e p (due.opening {e = d} text shows) is made = shown-fresh root (gather_folder root) (gather_key from dest) t (journal_status d) shows is
  due-not-planned e p (due.planning also ended) is made = plan-not t root from dest (keys_below t root) (keys-order t root) p e made ended

  pub due-no-report : (e : GatherErr) → Due e → HasReport root from dest t → ⊥
  due-no-report e is (reports.own shows) = due-not-own e is shows
  due-no-report e is (reports.planned p fresh made) = due-not-planned e p is fresh made

  -- ### An end that came

  module _ (old new : Seen) (here : now_of old ≡ Some t) where
    tells : old.tells ≡ true
    tells = known-tells old t here

    planning-is : (paths : List (List ℕ)) (e : GatherErr) → AreWalked (now_of old) root paths → Fresh → PlanEnds (now_of old) root from dest paths e → Due e
    planning-is paths e walked is ended =
        due.planning is
        (subst (λ (ps : List (List ℕ)). PlanEnds (Some t) root from dest ps e) (are-keys root (gather_folder root) (gather_key from dest) t old here paths walked)
        (subst (λ (o : Option TreeMap). PlanEnds o root from dest paths e) here ended))

    opening-is : (paths : List (List ℕ)) (d : JournalErr) → AreWalked (now_of old) root paths → is_mild_run d ≡ false → GatherOpens root from dest paths old (Err d) → Due (err.Journal d)
    opening-is paths d walked hard o =
        due.opening (opened-text root from dest paths old d o hard)
        (opening-shown root (gather_folder root) (gather_key from dest) t old here paths walked tells d o hard)

    planning-at : (paths : List (List ℕ)) (e : GatherErr) → AreWalked (now_of old) root paths → GatherOpens root from dest paths old (Ok opened.Empty)
        → PlanEnds (now_of old) root from dest paths e → Due e
    planning-at paths e walked o ended = planning-is paths e walked (empty-shown root (gather_folder root) (gather_key from dest) t old here paths walked tells o) ended

    -- the cause of an end that is due
    due-of : (e : GatherErr) → is_due e ≡ true → GatherEnds root from dest old new e → Due e
    due-of e is (ends.failed rose) = cc
    due-of e is ends.no_memory = cc
    due-of e is (ends.entries m kept) = due.many (m.many t here)
    due-of e is (ends.absent a kept) = due.none (sym (a.are t here))
    due-of e is (ends.opening {paths} {e = d} walked hard o kept) = opening-is paths d walked hard o
    due-of e is (ends.planning {paths} walked o ended kept) = planning-at paths e walked o ended
    due-of e is (ends.resumed {e = d} p walked o hard now before) = absurd (not-text root from dest old new _ p d now is)
    due-of e is (ends.planned {e = d} p walked o made silent hard now) = absurd (both-never old.tells tells silent)

    changed-cut : (folder : List ℕ) (p : PlanData) (d : JournalErr) → CopyBlames folder from p new d → is_mild_run d ≡ false
        → HasOwnPlan root (gather_folder root) (gather_key from dest) t → IsCut root from dest t (err.Journal d)
    changed-cut folder p (journal.Changed path was digest) blame hard own = cuts.changed own
    changed-cut folder p (journal.Refused path r) blame hard own = absurd blame.3.refused
    changed-cut folder p journal.Tree blame hard own = cc
    changed-cut folder p journal.NoMemory blame hard own = cc
    changed-cut folder p (journal.PlanText f at) blame hard own = absurd blame
    changed-cut folder p (journal.OtherRun field kept given) blame hard own = absurd blame

    -- an end is due, or may come in the place of what is
    end-answers : (e : GatherErr) → GatherEnds root from dest old new e → AnswersDue root from dest t (answer_err e)
    end-answers e (ends.failed rose) = answers.cut (cuts.stopped stop.failed)
    end-answers e ends.no_memory = answers.cut (cuts.stopped stop.no_memory)
    end-answers e (ends.entries m kept) = answers.ends (due.many (m.many t here))
    end-answers e (ends.absent a kept) = answers.ends (due.none (sym (a.are t here)))
    end-answers e (ends.opening {paths} {e = d} walked hard o kept) = answers.ends (opening-is paths d walked hard o)
    end-answers e (ends.planning {paths} walked o ended kept) = answers.ends (planning-at paths e walked o ended)
    end-answers e (ends.resumed {paths} {e = d} p walked o hard now before) =
        answers.cut (changed-cut (copy_folder root dest) p d now hard (has-own-plan root (gather_folder root) (gather_key from dest) t old here paths walked tells p o))
    end-answers e (ends.planned p walked o made silent hard now) = absurd (both-never old.tells tells silent)

    -- beside an end that is due
    end-so : (e f : GatherErr) → Due e → GatherEnds root from dest old new f → EndsSo e (answer_err f)
    end-so e f is (ends.failed rose) = ends_so.stopped stop.failed
    end-so e f is ends.no_memory = ends_so.stopped stop.no_memory
    end-so e f is (ends.entries m kept) = ends_so.so (dues-one e err.Entries is (due.many (m.many t here)))
    end-so e f is (ends.absent a kept) = ends_so.so (dues-one e (err.Absent root) is (due.none (sym (a.are t here))))
    end-so e f is (ends.opening {paths} {e = d} walked hard o kept) = ends_so.so (dues-one e (err.Journal d) is (opening-is paths d walked hard o))
    end-so e f is (ends.planning {paths} walked o ended kept) = ends_so.so (dues-one e f is (planning-at paths f walked o ended))
    end-so e f is (ends.resumed {paths} p walked o hard now before) =
        absurd (due-not-own e is (resumed-shown root (gather_folder root) (gather_key from dest) t old here paths walked tells p o))
    end-so e f is (ends.planned p walked o made silent hard now) = absurd (both-never old.tells tells silent)

    -- ### A report that came

    never-ok : (report : List ℕ) (e : GatherErr) → answer report ≡ answer_err e → ⊥
    never-ok report e h = cc

    module _ (in_flight : ℕ) (report : List ℕ) where
      opened-report : (paths : List (List ℕ)) (o : Opened) (mid : Seen) → HasOpened root from dest paths o old mid
          → OpenedWent root from dest (gather_folder root) in_flight paths mid new (answer report) o → HasReport root from dest t
      opened-report paths o mid has (way.finished {report = kept} {earlier} ended) =
          reports.own (finished-shown root (gather_folder root) (gather_key from dest) t old here paths has.walked tells kept earlier (opens-old root from dest old mid paths o has))
      opened-report paths o mid has (way.resumed {p} ran) =
          reports.own (resumed-shown root (gather_folder root) (gather_key from dest) t old here paths has.walked tells p (opens-old root from dest old mid paths o has))
      opened-report paths o mid has (way.unplanned f looked ended h) = absurd (never-ok report f h)
      opened-report paths o mid has (way.planned p far looked made ran) =
          reports.planned p (empty-shown root (gather_folder root) (gather_key from dest) t old here paths has.walked tells (opens-old root from dest old mid paths o has))
          (subst (λ (ps : List (List ℕ)). IsGatherPlan (Some t) root from dest ps p) (are-keys root (gather_folder root) (gather_key from dest) t old here paths has.walked)
          (subst (λ (x : Option TreeMap). IsGatherPlan x root from dest paths p) ((same-mid root from dest old mid paths o has).now ∙ here) made))

      has-report : StartRan root from dest in_flight old new (answer report) → HasReport root from dest t
      has-report (start.early f early ended h) = absurd (never-ok report f h)
      has-report (start.entered paths o mid has went) = opened-report paths o mid has went

-- ### A start

module _ (root from dest : List ℕ) (asked : IsAsked root from dest) (in_flight : ℕ) (old new : Seen) where
  exact-by : (result : Result (List ℕ) GatherErr) (t : TreeMap) (e : GatherErr) → now_of old ≡ Some t → IsDue root from dest t e → StartRan root from dest in_flight old new result → EndsSo e result
  exact-by (Ok report) t e here is ran = absurd (due-no-report root from dest t e is (has-report root from dest t old new here in_flight report ran))
  exact-by (Err f) t e here is ran = end-so root from dest t old new here e f is (start-ends root from dest asked in_flight old new (answer_err f) ran)

  pub start-exact : (result : Result (List ℕ) GatherErr) → StartRan root from dest in_flight old new result → IsExact root from dest old result
  start-exact result ran = record { exact = λ t at to e here there is ended. exact-by result t e here (due-of root from dest t at to there e is ended) ran }

  -- the answer is the one that is due, or one that may come in its place
  pub start-due : (result : Result (List ℕ) GatherErr) → StartRan root from dest in_flight old new result → (t : TreeMap) → now_of old ≡ Some t → AnswersDue root from dest t result
  start-due (Ok report) ran t here = answers.reports (has-report root from dest t old new here in_flight report ran)
  start-due (Err e) ran t here = end-answers root from dest t old new here e (start-ends root from dest asked in_flight old new (answer_err e) ran)
