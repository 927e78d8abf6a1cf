-- The status with which a run ends is the one that is due, or one that may come in its place; and one alone is due.
use Rattle.std.proofs.Common.{◌≡◌, ℕ, ◌<◌, Bool, true, false, List, refl, sym, subst, ◌∙◌, inl, inr, ◌⊎◌, arith, Ok, Err}
use Rattle.std.specs.Prelude.{Option, Some, IsTrue}
use Rattle.dw_base.specs.declared.fault.Refusal.{Refusal}
use Rattle.file_tree.specs.declared.node.Found.{Found}
use Rattle.file_tree.specs.declared.node.Found.TheVariants as found
use Rattle.file_tree.specs.Seen.{Seen, now_of}
use Rattle.file_tree.specs.Trees.{TreeMap, keys_below, stands_at}
use Rattle.job_types.specs.Settings.{Settings}
use Rattle.journal_core.specs.Names.{plan, final}
use Rattle.work_texts.specs.declared.journal_err.JournalErr.{JournalErr}
use Rattle.work_texts.specs.declared.journal_err.JournalErr.TheVariants as journal
use Rattle.work_texts.specs.declared.plan.FinishedData.{FinishedData}
use Rattle.work_texts.specs.declared.plan.PlanData.{PlanData}
use Rattle.work_texts.specs.Rules.{IsPlanText, IsFinishedText, text_limit}
use Rattle.work_journal.specs.declared.opening.Opened.TheVariants as opened
use Rattle.work_journal.specs.Blames.{is_mild_run, RunBlames}
use Rattle.work_journal.specs.Opening.{Opens}
use Rattle.work_journal.specs.Views.{MakerView}
use Rattle.work_journal.specs.Work.{work_path}
use Rattle.root_plan.specs.declared.plan_err.PlanErr.{PlanErr}
use Rattle.root_plan.specs.declared.plan_err.PlanErr.TheVariants as err
use Rattle.root_plan.specs.Errors.{AreSameEnds, IsOneEnd, IsStopped}
use Rattle.root_plan.specs.Errors.{AreSameEnds as are, IsOneEnd as one, IsStopped as stop}
use Rattle.root_plan.specs.Plans.{IsTallied, IsPlanOf, IsCut, NewEnds, PlanEnds, plan_of, plan_length, key_of}
use Rattle.root_plan.specs.Plans.{IsCut as cuts, NewEnds as news, PlanEnds as ends}
use Rattle.root_plan.specs.Roots.{below_root}
use Rattle.root_plan.specs.Tallies.{Tally, IsTooLong, CandidateEnds, LargeEnds, FoundEnds, PathEnds}
use Rattle.root_plan.specs.Tallies.{IsTooLong as too_long, FileEnds as file_ends, CandidateEnds as candidate, LargeEnds as large, PathEnds as path_ends}
use Rattle.root_plan.specs.Verdicts.{JudgeView, IsJudge}
use Rattle.root_plan.specs.Walks.{AreWalked, WalkEnds}
use Rattle.root_plan.specs.Walks.{WalkEnds as walk}
use Rattle.root_plan.proofs.EndLaws.{plan_ends_one}
use Rattle.root_plan.proofs.OneLaws.{tallies-alike, plans-alike, only_cut}
use Rattle.root_run.specs.declared.run_err.RunErr.{RunErr}
use Rattle.root_run.specs.Dues.{TextShown, FreshDue, IsLong, IsFresh, IsResumed, RunDue, RunCut, is_told}
use Rattle.root_run.specs.Dues.{TextShown as shown, FreshDue as fresh, RunDue as due, RunCut as cut}
use Rattle.root_run.specs.RunEnds.{RunEnds, plan_status, journal_status, run_status}
use Rattle.root_run.specs.RunEnds.{RunEnds as run_ends}
use Rattle.root_run.proofs.KeysLaws.{keys-order}
use Rattle.root_run.proofs.ShownLaws.{are-keys, both-never, empty-shown, finished-one, finished-shown, has-own-plan, known-tells, no-paths, opening-shown, plan-one, text-one}

-- ### Neither text is there

told-not : (e : PlanErr) → IsTrue (is_told e) → IsStopped e → ⊥
told-not e told stop.failed = cc
told-not e told stop.no_memory = cc

-- an end of a plan says why; or is a fault or a cut; or its text is too long
pub data IsClass (P : Type 0) (e : PlanErr) : Type 0 where
  says_why : IsTrue (is_told e) → IsClass P e
  has_stopped : IsStopped e → IsClass P e
  too_large : e ≡ err.PlanTooLarge → P → IsClass P e

long-class : (P : Type 0) (path : List ℕ) (e : PlanErr) → IsTooLong path e → IsClass P e
long-class P path e (too_long.long l) = says_why refl
long-class P path e too_long.no_memory = has_stopped stop.no_memory

module _ (root : List ℕ) (s : Settings) (v : JudgeView) (fails : List ℕ → List ℕ → Refusal → Type 0) where
  candidate-class : (P : Type 0) (path below bytes : List ℕ) (e : PlanErr) → CandidateEnds s v fails path below bytes e → IsClass P e
  candidate-class P path below bytes e (candidate.too_long x) = long-class P path e x
  candidate-class P path below bytes e (candidate.file_ends l (file_ends.refused u x k)) = says_why refl
  candidate-class P path below bytes e (candidate.file_ends l file_ends.no_memory) = has_stopped stop.no_memory
  candidate-class P path below bytes e candidate.no_memory = has_stopped stop.no_memory

  large-class : (P : Type 0) (path : List ℕ) (size : ℕ) (e : PlanErr) → LargeEnds path size e → IsClass P e
  large-class P path size e (large.too_long x) = long-class P path e x
  large-class P path size e (large.large l) = says_why refl
  large-class P path size e large.no_memory = has_stopped stop.no_memory

  found-class : (P : Type 0) (path below : List ℕ) (what : Found) (e : PlanErr) → FoundEnds s v fails path below what e → IsClass P e
  found-class P path below found.Absent e x = absurd x
  found-class P path below found.Folder e x = absurd x
  found-class P path below (found.File bytes mode) e x = candidate-class P path below bytes e x
  found-class P path below (found.Link target) e x = absurd x
  found-class P path below (found.TooLarge size) e x = large-class P path size e x

  path-class : (P : Type 0) (old new : Seen) (path : List ℕ) (e : PlanErr) → PathEnds old new root s v fails path e → IsClass P e
  path-class P old new path e (path_ends.at_found {what} may stood x) = found-class P path (below_root root path) what e x
  path-class P old new path e (path_ends.failed rose) = has_stopped stop.failed
  path-class P old new path e path_ends.no_memory = has_stopped stop.no_memory

  news-class : (P : Type 0) (present paths : List (List ℕ)) (e : PlanErr) → NewEnds present paths e → IsClass P e
  news-class P present paths e (news.too_long {path} c x) = long-class P path e x
  news-class P present paths e (news.taken short x) = says_why refl
  news-class P present paths e news.no_memory = has_stopped stop.no_memory

  -- the text of some plan is too long
  pub record IsLongTally (t : TreeMap) : Type 0 where
    pub tally : Tally
    pub is : IsLong root s v fails t tally

  module _ (t : TreeMap) where
    pub ends-class : (old new : Seen) (e : PlanErr) → now_of old ≡ Some t → PlanEnds old new root (keys_below t root) s v fails e → IsClass (IsLongTally t) e
    ends-class old new e here (ends.many l) = says_why refl
    ends-class old new e here (ends.at_path n few l ts x) = path-class (IsLongTally t) old new _ e x
    ends-class old new e here (ends.at_new tallied x) = news-class (IsLongTally t) (keys_below t root) _ e x
    ends-class old new e here (ends.at_text {t = u} tallied can l) = too_large refl (record {
      tally = u;
      is = record { tallied = subst (λ (o : Option TreeMap). IsTallied o root (keys_below t root) s v fails u) here tallied; can = can; long = l };
    })
    ends-class old new e here (ends.at_look made is rose) = has_stopped stop.failed
    ends-class old new e here ends.no_memory = has_stopped stop.no_memory

    module _ (judge : IsJudge v) where
      -- whichever refusals of skipped files a report names, where none is skipped
      long-always : (tally u : Tally) → s.skip ≡ false → IsLong root s v fails t tally → IsTallied (Some t) root (keys_below t root) s v fails u → text_limit < plan_length (plan_of s u)
      long-always tally u keeps is tallied =
          subst (λ (p : PlanData). text_limit < plan_length p)
          (plans-alike s tally u (tallies-alike s v judge fails t (Some t) refl root (keys_below t root) tally u is.tallied.tallies tallied.tallies) keeps) is.long

      -- ### One status is due of such a root

      has-none : (old new : Seen) (e : PlanErr) → now_of old ≡ Some t → PlanEnds old new root (keys_below t root) s v fails e → IsTrue (is_told e)
          → (p : PlanData) → IsPlanOf (Some t) root (keys_below t root) s v fails p → ⊥
      has-none old new e here ended told p is =
          by-cut e told ((only_cut root (keys_below t root) s v judge fails old new e ended).cut t p here (keys-order t root)
          (subst (λ (o : Option TreeMap). IsPlanOf o root (keys_below t root) s v fails p) (sym here) is))
        where
          by-cut : (x : PlanErr) → IsTrue (is_told x) → IsCut s x → ⊥
          by-cut x why (cuts.stopped y) = told-not x why y
          by-cut x why (cuts.too_large skips) = cc

      same-status : (e f : PlanErr) → AreSameEnds e f → plan_status e ≡ plan_status f
      same-status e f are.same_entries = refl
      same-status e f are.same_paths = refl
      same-status e f are.same_file = refl
      same-status e f are.same_text = refl
      same-status e f are.same_refused = refl
      same-status e f are.same_taken = refl

      one-status : (e f : PlanErr) → IsTrue (is_told e) → IsTrue (is_told f) → IsOneEnd e f → plan_status e ≡ plan_status f
      one-status e f x y (one.same z) = same-status e f z
      one-status e f x y (one.first_stopped z) = absurd (told-not e x z)
      one-status e f x y (one.other_stopped z) = absurd (told-not f y z)

      not-long : (e f : PlanErr) → f ≡ err.PlanTooLarge → IsTrue (is_told e) → IsOneEnd e f → ⊥
      not-long e f is x (one.same are.same_entries) = cc
      not-long e f is x (one.same are.same_paths) = cc
      not-long e f is x (one.same are.same_file) = cc
      not-long e f is x (one.same are.same_text) = cc
      not-long e f is x (one.same are.same_refused) = cc
      not-long e f is x (one.same are.same_taken) = cc
      not-long e f is x (one.first_stopped z) = told-not e x z
      not-long e f is x (one.other_stopped stop.failed) = cc
      not-long e f is x (one.other_stopped stop.no_memory) = cc

      long-plan : (p : PlanData) (is : IsPlanOf (Some t) root (keys_below t root) s v fails p) → ((u : Tally) → IsTallied (Some t) root (keys_below t root) s v fails u → text_limit < plan_length (plan_of s u)) → ⊥
      long-plan p is always = omega (arith, is.within, subst (λ (q : PlanData). text_limit < plan_length q) (sym is.is) (always is.tally is.tallied))

      long-end : (old new : Seen) (e : PlanErr) (tally : Tally) → now_of old ≡ Some t → PlanEnds old new root (keys_below t root) s v fails e → IsTrue (is_told e) → IsLong root s v fails t tally → ⊥
      long-end old new e tally here ended told is =
          not-long e err.PlanTooLarge refl told
          (plan_ends_one s v judge fails root (keys_below t root) (keys-order t root) t old new old new here here e err.PlanTooLarge ended
          (ends.at_text {t = tally} (subst (λ (o : Option TreeMap). IsTallied o root (keys_below t root) s v fails tally) (sym here) is.tallied) is.can is.long))

      fresh-one : (n m : ℕ) → FreshDue root s v fails t n → FreshDue root s v fails t m → n ≡ m
      fresh-one n m (fresh.has_plan p is f) (fresh.has_plan q also h) = f ∙ sym h
      fresh-one n m (fresh.has_plan p is f) (fresh.has_none old new e here ended told h) = absurd (has-none old new e here ended told p is)
      fresh-one n m (fresh.has_plan p is f) (fresh.is_long tally long always h) = absurd (long-plan p is always)
      fresh-one n m (fresh.has_none old new e here ended told f) (fresh.has_plan q also h) = absurd (has-none old new e here ended told q also)
      fresh-one n m (fresh.has_none old new e here ended told f) (fresh.has_none old2 new2 d here2 ended2 told2 h) =
          f ∙ one-status e d told told2 (plan_ends_one s v judge fails root (keys_below t root) (keys-order t root) t old new old2 new2 here here2 e d ended ended2) ∙ sym h
      fresh-one n m (fresh.has_none old new e here ended told f) (fresh.is_long tally long always h) = absurd (long-end old new e tally here ended told long)
      fresh-one n m (fresh.is_long tally long always f) (fresh.has_plan q also h) = absurd (long-plan q also always)
      fresh-one n m (fresh.is_long tally long always f) (fresh.has_none old new e here ended told h) = absurd (long-end old new e tally here ended told long)
      fresh-one n m (fresh.is_long tally long always f) (fresh.is_long other longer ever h) = f ∙ sym h

-- ### A run

module _ (root work : List ℕ) (s : Settings) (v : JudgeView) (fails : List ℕ → List ℕ → Refusal → Type 0) (t : TreeMap) where
  module _ (judge : IsJudge v) where
    -- one status is due of a run
    pub dues-one : (n m : ℕ) → RunDue root work s v fails t n → RunDue root work s v fails t m → n ≡ m
    dues-one n m (due.too_many l f) (due.too_many k h) = f ∙ sym h
    dues-one n m (due.too_many l f) (due.none e h) = absurd (no-paths (keys_below t root) e l)
    dues-one n m (due.too_many l f) (due.finished is h) = absurd (omega (arith, l, is.paths.few))
    dues-one n m (due.too_many l f) (due.begun is h) = absurd (omega (arith, l, is.paths.few))
    dues-one n m (due.too_many l f) (due.fresh is h) = absurd (omega (arith, l, is.paths.few))
    dues-one n m (due.none e f) (due.too_many l h) = absurd (no-paths (keys_below t root) e l)
    dues-one n m (due.none e f) (due.none g h) = f ∙ sym h
    dues-one n m (due.none e f) (due.finished is h) = absurd (is.paths.some e)
    dues-one n m (due.none e f) (due.begun is h) = absurd (is.paths.some e)
    dues-one n m (due.none e f) (due.fresh is h) = absurd (is.paths.some e)
    dues-one n m (due.finished is f) (due.too_many l h) = absurd (omega (arith, l, is.paths.few))
    dues-one n m (due.finished is f) (due.none e h) = absurd (is.paths.some e)
    dues-one n m (due.finished is f) (due.finished also h) = text-one IsFinishedText (λ (d : FinishedData). d.key) (key_of s) (stands_at t (work_path work (final 3)) text_limit) finished-one n m f h
    dues-one n m (due.finished is f) (due.begun also h) = absurd (both-never _ is.finished also.finished)
    dues-one n m (due.finished is f) (due.fresh also h) = absurd (both-never _ is.finished also.finished)
    dues-one n m (due.begun is f) (due.too_many l h) = absurd (omega (arith, l, is.paths.few))
    dues-one n m (due.begun is f) (due.none e h) = absurd (is.paths.some e)
    dues-one n m (due.begun is f) (due.finished also h) = absurd (both-never _ also.finished is.finished)
    dues-one n m (due.begun is f) (due.begun also h) = text-one IsPlanText (λ (p : PlanData). p.key) (key_of s) (stands_at t (work_path work plan) text_limit) plan-one n m f h
    dues-one n m (due.begun is f) (due.fresh also h) = absurd (both-never _ is.begun also.begun)
    dues-one n m (due.fresh is f) (due.too_many l h) = absurd (omega (arith, l, is.paths.few))
    dues-one n m (due.fresh is f) (due.none e h) = absurd (is.paths.some e)
    dues-one n m (due.fresh is f) (due.finished also h) = absurd (both-never _ also.finished is.finished)
    dues-one n m (due.fresh is f) (due.begun also h) = absurd (both-never _ also.begun is.begun)
    dues-one n m (due.fresh is f) (due.fresh also h) = fresh-one root s v fails t judge n m f h

  -- what is shown is due
  text-due : (n : ℕ) → TextShown root work (key_of s) t n → RunDue root work s v fails t n
  text-due n (shown.end_shown is f) = due.finished is f
  text-due n (shown.plan_shown is f) = due.begun is f

  module _ (old : Seen) (here : now_of old ≡ Some t) (paths : List (List ℕ)) (walked : AreWalked (now_of old) root paths) where
    module _ (tells : old.tells ≡ true) where
      opening-due : (e : JournalErr) → Opens work paths (key_of s) old (Err e) → is_mild_run e ≡ false → RunDue root work s v fails t (journal_status e)
      opening-due e o hard = text-due (journal_status e) (opening-shown root work (key_of s) t old here paths walked tells e o hard)

      pub resumed-is : (p : PlanData) → Opens work paths (key_of s) old (Ok (opened.Resumed p)) → IsResumed root work s t
      resumed-is p o = let is = has-own-plan root work (key_of s) t old here paths walked tells p o in record { begun = is.begun; own = is.own }

      pub empty-is : Opens work paths (key_of s) old (Ok opened.Empty) → IsFresh root work t
      empty-is o = empty-shown root work (key_of s) t old here paths walked tells o

      -- where a run gives a report, that was due
      pub resumed-due : (p : PlanData) → Opens work paths (key_of s) old (Ok (opened.Resumed p)) → RunDue root work s v fails t 0
      resumed-due p o = let is = resumed-is p o in due.begun is.begun is.own

      pub finished-due : (report : List ℕ) (earlier : Bool) → Opens work paths (key_of s) old (Ok (opened.Finished report earlier)) → RunDue root work s v fails t 0
      finished-due report earlier o = text-due 0 (finished-shown root work (key_of s) t old here paths walked tells report earlier o)

      pub planned-due : (p : PlanData) → Opens work paths (key_of s) old (Ok opened.Empty) → IsPlanOf (now_of old) root paths s v fails p → RunDue root work s v fails t 0
      planned-due p o is =
          due.fresh (empty-is o)
          (fresh.has_plan p (subst (λ (ps : List (List ℕ)). IsPlanOf (Some t) root ps s v fails p) (are-keys root work (key_of s) t old here paths walked) (subst (λ (x : Option TreeMap). IsPlanOf x root paths s v fails p) here is)) refl)

  module _ (edit_fails : List ℕ → Refusal → Type 0) (split_fails : List ℕ → List ℕ → Refusal → Type 0) (judge : IsJudge v) (old new : Seen) (here : now_of old ≡ Some t) where
    abbrev DueOrCut : ℕ → Type 0
    DueOrCut n = RunDue root work s v fails t n ⊎ RunCut root work s v fails t n

    tells : old.tells ≡ true
    tells = known-tells old t here

    walk-due : (e : PlanErr) → WalkEnds old new root e → DueOrCut (plan_status e)
    walk-due e (walk.absent h) = inl (due.none (sym (h.are t here)) refl)
    walk-due e (walk.many h) = inl (due.too_many (h.many t here) refl)
    walk-due e (walk.failed rose) = inr (cut.tree_fault refl)
    walk-due e walk.memory = inr (cut.no_memory refl)

    stopped-cut : (e : PlanErr) → IsStopped e → RunCut root work s v fails t (plan_status e)
    stopped-cut e stop.failed = cut.tree_fault refl
    stopped-cut e stop.no_memory = cut.no_memory refl

    long-due : (b : Bool) → s.skip ≡ b → IsFresh root work t → IsLongTally root s v fails t → DueOrCut 8
    long-due true skips is long = inr (cut.long_text is skips long.tally long.is refl)
    long-due false keeps is long = inl (due.fresh is (fresh.is_long long.tally long.is (λ u tallied. long-always root s v fails t judge long.tally u keeps long.is tallied) refl))

    plan-ends-due : (e : PlanErr) → IsFresh root work t → PlanEnds old new root (keys_below t root) s v fails e → DueOrCut (plan_status e)
    plan-ends-due e is ended = by-class (ends-class root s v fails t old new e here ended)
      where
        by-class : IsClass (IsLongTally root s v fails t) e → DueOrCut (plan_status e)
        by-class (says_why told) = inl (due.fresh is (fresh.has_none old new e here ended told refl))
        by-class (has_stopped x) = inr (stopped-cut e x)
        by-class (too_large same long) = subst (λ (x : PlanErr). DueOrCut (plan_status x)) (sym same) (long-due s.skip refl is long)

    jobs-cut : (e : JournalErr) (p : PlanData) (w : MakerView) (refuses : ℕ → List ℕ → Refusal → Type 0) (at : Seen) → IsResumed root work s t → is_mild_run e ≡ false → RunBlames w refuses at e
        → RunCut root work s v fails t (journal_status e)
    jobs-cut (journal.Changed path planned digest) p w refuses at is hard b = cut.changed is refl
    jobs-cut (journal.Refused path r) p w refuses at is hard b = cut.refused is refl
    jobs-cut journal.Tree p w refuses at is hard b = cc
    jobs-cut journal.NoMemory p w refuses at is hard b = cc
    jobs-cut (journal.PlanText f place) p w refuses at is hard b = absurd b
    jobs-cut (journal.OtherRun field kept given) p w refuses at is hard b = absurd b

    -- an end is due, or may come in the place of what is
    pub ends-due : (e : RunErr) → RunEnds root work s v fails edit_fails split_fails old new e → DueOrCut (run_status e)
    ends-due e (run_ends.failed rose) = inr (cut.tree_fault refl)
    ends-due e run_ends.no_memory = inr (cut.no_memory refl)
    ends-due e (run_ends.walking {e = d} ended same) = walk-due d ended
    ends-due e (run_ends.opening {paths} {e = d} walked hard o same) = inl (opening-due old here paths walked tells d o hard)
    ends-due e (run_ends.planning {paths} {e = d} walked o ended same) =
        plan-ends-due d (empty-is old here paths walked tells o)
        (subst (λ (ps : List (List ℕ)). PlanEnds old new root ps s v fails d) (are-keys root work (key_of s) t old here paths walked) ended)
    ends-due e (run_ends.resumed {paths} {e = d} p walked o hard told blame stays) =
        inr (jobs-cut d p _ _ new (resumed-is old here paths walked tells p o) hard blame)
    ends-due e (run_ends.planned p walked o is silent hard blame) = absurd (both-never old.tells tells silent)

    -- so it is the one that is due, or one that may come in its place
    pub due-exact : (n status : ℕ) → DueOrCut status → RunDue root work s v fails t n → (status ≡ n) ⊎ RunCut root work s v fails t status
    due-exact n status (inl is) asked = inl (dues-one judge status n is asked)
    due-exact n status (inr is) asked = inr is
