-- A run from a start to its end: the cores that it may begin with, and what is wanted of it.
use Rattle.std.specs.Prelude.{◌≡◌, ◌∷◌, [], ℕ, List, true, Result, OnOk}
use Rattle.file_tree.specs.declared.node.Node.{Node}
use Rattle.journal_core.specs.declared.event.Phase.TheVariants.{Closed}
use Rattle.journal_core.specs.Names.{plan_new, final}
use Rattle.journal_core.specs.Table.{CoreState, new_core, old_core}
use Rattle.work_journal.specs.Views.{MakerView, Makes}
use Rattle.work_journal.specs.Work.{work_path}
use Rattle.work_journal.specs.Wanted.{Wanted}
use Rattle.work_journal.specs.Ending.{AreTexts, text_file}
use Rattle.work_journal.specs.Files.{IsWanted}
use Rattle.file_tree.specs.Images.{state_of}
use Rattle.file_tree.specs.Seen.{Seen, map_now}
use Rattle.work_texts.specs.Fields.{text_of, plan_fields}
use Rattle.work_texts.specs.declared.plan.PlanData.{PlanData}
use Rattle.work_texts.specs.declared.journal_err.JournalErr.{JournalErr}
use Rattle.work_texts.specs.declared.journal_err.JournalErr.TheVariants as run
use Rattle.work_journal.specs.Keeps.{Keeps}
use Rattle.work_journal.specs.Laws.{IsEnded}
use Rattle.work_journal.specs.Runs.{Came, IsGiven}
use Rattle.work_journal.specs.Rounds.{IsBegun}

-- the core of a start: before there is a plan, under a plan, at the end, or at one that an earlier program wrote
pub data IsStart (v : MakerView) (c : CoreState) : Type 0 where
  is_new : c ≡ new_core v.steps → IsStart v c
  is_begun : IsBegun v c → IsStart v c
  is_over : c.phase ≡ Closed → IsStart v c
  is_renewing : c ≡ old_core → IsStart v c

-- and of one whose plan is there
pub data IsPlanned (v : MakerView) (c : CoreState) : Type 0 where
  has_begun : IsBegun v c → IsPlanned v c
  has_ended : c.phase ≡ Closed → IsPlanned v c

-- the maker's files are wanted, and the texts of the end
pub record AreJobs (w : Wanted) (v : MakerView) (makes : Makes) (texts : List Node) : Type 0 where
  pub files : IsWanted w v makes
  pub ends : AreTexts w texts

-- the text of a plan as a file
abbrev pub plan_node : PlanData → Node
plan_node plan = text_file (text_of (plan_fields plan))

-- the plan, and the texts of the end
pub record AreTold (w : Wanted) (plan : Node) (texts : List Node) : Type 0 where
  pub puts : w.node plan_new ≡ plan
  pub ends : AreTexts w texts

-- and the plan
pub record IsRun (w : Wanted) (v : MakerView) (makes : Makes) (plan : Node) (texts : List Node) : Type 0 where
  pub puts : w.node plan_new ≡ plan
  pub jobs : AreJobs w v makes texts

-- the paths of the three lists and of the finished text
abbrev pub end_paths : List ℕ → List (List ℕ)
end_paths work = work_path work (final 0) ∷ work_path work (final 1) ∷ work_path work (final 2) ∷ work_path work (final 3) ∷ []

-- the calls of a whole run: they lead the core to its end where all went well, and then the tree has ended
pub record FinishRan {A : Type 0} (hits : List ℕ → Type 0) (settles : ℕ) (work : List ℕ) (may : Wanted → Type 0) (c : CoreState) (old new : Seen) (result : Result A JournalErr) : Type 0 where
  pub last : CoreState
  pub closed : OnOk result (last.phase ≡ Closed)
  pub came : Came run.Tree hits settles work may c old last new result
  pub ended : old.tells ≡ true → (w : Wanted) → IsGiven w work → may w → Keeps w c (state_of old.past) → OnOk result (IsEnded w (map_now new.past))
