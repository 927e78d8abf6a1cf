-- A journal by the maker of a plan carries out that plan.
use Rattle.std.proofs.Common.{◌≡◌, ℕ, ◌+◌, Bool, true, List, length, ap, sym, subst, ◌∙◌, Result}
use Rattle.std.specs.Prelude.{OnOk, IfErr, IsTrue, ⊤}
use Rattle.dw_base.specs.declared.fault.Refusal.{Refusal}
use Rattle.file_tree.specs.declared.node.Node.{Node}
use Rattle.file_tree.specs.Images.{state_of}
use Rattle.file_tree.specs.Seen.{Seen}
use Rattle.journal_core.specs.Table.{CoreState}
use Rattle.work_texts.specs.declared.journal_err.JournalErr.{JournalErr}
use Rattle.work_texts.specs.declared.plan.PlanData.{PlanData}
use Rattle.work_journal.specs.Blames.{RunBlames, is_mild_run}
use Rattle.work_journal.specs.Clearing.{IsCleared}
use Rattle.work_journal.specs.Ending.{end_nodes, text_file}
use Rattle.work_journal.specs.Finishing.{FinishRan, IsRun, plan_node}
use Rattle.work_journal.specs.Keeps.{Keeps}
use Rattle.work_journal.specs.Planned.{AreSourcesApart}
use Rattle.work_journal.specs.Rounds.{rounds_of}
use Rattle.work_journal.specs.Runs.{IsGiven}
use Rattle.work_journal.specs.Spares.{IsHit}
use Rattle.work_journal.specs.Wanted.{Wanted}
use Rattle.root_plan.specs.Makers.{plan_view, plan_makes}
use Rattle.root_plan.specs.Verdicts.{JudgeView}
use Rattle.root_run.specs.RunEnds.{JobRefuses}
use Rattle.root_run.specs.declared.run_err.RunErr.{RunErr}
use Rattle.root_run.specs.Starts.{PlanRan, PlanWent, AreRunTexts, core_from}
use Rattle.root_run.specs.Wholes.{lists_of, finished_text, steps_of}

-- the texts of a plan are those of the same plan
pub texts-made : (q p : PlanData) (plan finished report : List ℕ) → q ≡ p → AreRunTexts p plan finished report → AreRunTexts q plan finished report
texts-made q p plan finished report same texts = subst (λ (y : PlanData). AreRunTexts y plan finished report) (sym same) texts

module _ {J : Type 0} (view : J → JudgeView) (edit_fails : J → List ℕ → Refusal → Type 0) (split_fails : J → List ℕ → List ℕ → Refusal → Type 0)
    (work : List ℕ) (in_flight : ℕ) (old new : Seen) (r : Result (Unit {0}) JournalErr) where
  -- what a journal did by the maker of a plan
  pub record Carried (judge : J) (root : List ℕ) (p : PlanData) (c : CoreState) (put : Node) (texts : List Node) : Type 0 where
    pub ran : FinishRan (IsHit work (plan_view root p.jobs) (λ j. ⊤)) (rounds_of (length (plan_view root p.jobs).steps) in_flight + 3) work
        (λ w. IsRun w (plan_view root p.jobs) (plan_makes p.jobs (view judge)) put texts) c old new r
    pub cleared : OnOk r (IsCleared work new)
    pub blame : IfErr r (RunBlames (plan_view root p.jobs) (JobRefuses (view judge) (edit_fails judge) (split_fails judge) p) new)
    pub stays : AreSourcesApart work (plan_view root p.jobs)
        → IfErr r (RunBlames (plan_view root p.jobs) (JobRefuses (view judge) (edit_fails judge) (split_fails judge) p) old)
    pub mild : (w : Wanted) → IsGiven w work → IsRun w (plan_view root p.jobs) (plan_makes p.jobs (view judge)) put texts → old.tells ≡ true → Keeps w c (state_of old.past)
        → IfErr r (λ e. IsTrue (is_mild_run e))

  plan-carried : (judge : J) (root : List ℕ) (p : PlanData) (c : CoreState) → Carried judge root p c (plan_node p) (end_nodes (lists_of p) (finished_text p))
      → PlanRan root work (view judge) (edit_fails judge) (split_fails judge) p in_flight c old new r
  plan-carried judge root p c x = record { ran = x.ran; cleared = x.cleared; blame = x.blame; stays = x.stays; mild = x.mild }

  -- the texts and lists are those of the maker's plan
  pub carried : (judge : J) (root : List ℕ) (p : PlanData) (c : CoreState) (plan finished lent report : List ℕ) (lists : List (List ℕ))
      → AreRunTexts p plan finished report → lent ≡ finished → lists ≡ lists_of p → Carried judge root p c (text_file plan) (end_nodes lists lent)
      → PlanRan root work (view judge) (edit_fails judge) (split_fails judge) p in_flight c old new r
  carried judge root p c plan finished lent report lists texts lent_is are x =
      let put : text_file plan ≡ plan_node p = ap text_file texts.plan_is in
      let ends : end_nodes lists lent ≡ end_nodes (lists_of p) (finished_text p) =
      ap (λ (ls : List (List ℕ)). end_nodes ls lent) are ∙ ap (end_nodes (lists_of p)) (lent_is ∙ texts.finished_is) in
      plan-carried judge root p c
      (subst (λ (n : Node). Carried judge root p c n (end_nodes (lists_of p) (finished_text p))) put
      (subst (λ (ns : List Node). Carried judge root p c (text_file plan) ns) ends x))

module _ {J : Type 0} (view : J → JudgeView) (edit_fails : J → List ℕ → Refusal → Type 0) (split_fails : J → List ℕ → List ℕ → Refusal → Type 0)
    (work : List ℕ) (in_flight : ℕ) (old new : Seen) (result : Result (List ℕ) RunErr) where
  abbrev Went : J → List ℕ → PlanData → CoreState → Type 0
  Went judge root p c = PlanWent root work (view judge) (edit_fails judge) (split_fails judge) p in_flight c old new result

  -- the maker's own parts are those that it was made of
  pub went-made : (a b : J) (mine root : List ℕ) (q p : PlanData) (d : CoreState) (fresh : Bool) (paths : List (List ℕ))
      → a ≡ b → mine ≡ root → q ≡ p → d ≡ core_from fresh work paths (steps_of q)
      → PlanWent mine work (view a) (edit_fails a) (split_fails a) q in_flight d old new result
      → PlanWent root work (view b) (edit_fails b) (split_fails b) p in_flight (core_from fresh work paths (steps_of p)) old new result
  went-made a b mine root q p d fresh paths same_judge same_root same_plan core_is w =
      let same_core : d ≡ core_from fresh work paths (steps_of p) = core_is ∙ ap (λ (y : PlanData). core_from fresh work paths (steps_of y)) same_plan in
      subst (λ (j : J). Went j root p (core_from fresh work paths (steps_of p))) same_judge
      (subst (λ (m : List ℕ). Went a m p (core_from fresh work paths (steps_of p))) same_root
      (subst (λ (y : PlanData). Went a mine y (core_from fresh work paths (steps_of p))) same_plan
      (subst (λ (k : CoreState). Went a mine q k) same_core w)))
