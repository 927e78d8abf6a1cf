-- A journal by the maker of a gather's plan carries out that plan.
use Rattle.std.proofs.Common.{◌≡◌, ℕ, ◌+◌, Bool, true, false, List, length, ap, sym, subst, ◌∙◌, Result}
use Rattle.std.specs.Prelude.{OnOk, IfErr, IsTrue, ⊤}
use Rattle.file_tree.specs.declared.node.Node.{Node}
use Rattle.file_tree.specs.Images.{state_of}
use Rattle.file_tree.specs.Seen.{Seen}
use Rattle.journal_core.specs.Table.{CoreState, closed_core}
use Rattle.work_texts.specs.declared.journal_err.JournalErr.{JournalErr}
use Rattle.work_texts.specs.declared.key.RunKey.{RunKey}
use Rattle.work_texts.specs.declared.plan.PlanData.{PlanData}
use Rattle.work_journal.specs.declared.opening.Opened.{Opened}
use Rattle.work_journal.specs.declared.opening.Opened.TheVariants as opened
use Rattle.work_journal.specs.Blames.{is_mild_run}
use Rattle.work_journal.specs.Clearing.{IsCleared}
use Rattle.work_journal.specs.Ending.{end_nodes, text_file}
use Rattle.work_journal.specs.Finishing.{FinishRan, IsRun, plan_node}
use Rattle.work_journal.specs.Keeps.{Keeps}
use Rattle.work_journal.specs.Planned.{AreSourcesApart}
use Rattle.work_journal.specs.Rounds.{rounds_of}
use Rattle.work_journal.specs.Runs.{IsGiven}
use Rattle.work_journal.specs.Spares.{IsHit}
use Rattle.work_journal.specs.Wanted.{Wanted}
use Rattle.root_run.specs.Starts.{AreRunTexts, ClearRan, core_from}
use Rattle.root_run.specs.Wholes.{finished_text}
use Rattle.src_gather.specs.declared.gather_err.GatherErr.{GatherErr}
use Rattle.src_gather.specs.Gathering.{gather_key}
use Rattle.src_gather.specs.GatherEnds.{CopyBlames}
use Rattle.src_gather.specs.Listed.{copy_folder}
use Rattle.src_gather.specs.Makers.{copy_view, copy_makes, gather_folder, lists_of}
use Rattle.src_gather.specs.Starts.{ClearEnded, CopyRan, CopyWent, HasOpened, OpenedWent, StartRan, copy_steps, report_of}
use Rattle.src_gather.specs.Starts.{ClearEnded as over, OpenedWent as way, StartRan as start}

module _ (work : List ℕ) (in_flight : ℕ) (old new : Seen) (r : Result (Unit {0}) JournalErr) where
  -- what a journal did by the maker of a plan
  pub record Carried (folder from : List ℕ) (p : PlanData) (c : CoreState) (put : Node) (texts : List Node) : Type 0 where
    pub ran : FinishRan (IsHit work (copy_view folder from p.jobs) (λ j. ⊤)) (rounds_of (length (copy_view folder from p.jobs).steps) in_flight + 3) work
        (λ w. IsRun w (copy_view folder from p.jobs) (copy_makes p.jobs) put texts) c old new r
    pub cleared : OnOk r (IsCleared work new)
    pub blame : IfErr r (CopyBlames folder from p new)
    pub stays : AreSourcesApart work (copy_view folder from p.jobs) → IfErr r (CopyBlames folder from p old)
    pub mild : (w : Wanted) → IsGiven w work → IsRun w (copy_view folder from p.jobs) (copy_makes p.jobs) put texts → old.tells ≡ true → Keeps w c (state_of old.past)
        → IfErr r (λ e. IsTrue (is_mild_run e))

  copy-carried : (folder from : List ℕ) (p : PlanData) (c : CoreState) → Carried folder from p c (plan_node p) (end_nodes (lists_of p) (finished_text p))
      → CopyRan folder from work p in_flight c old new r
  copy-carried folder from p c x = record { ran = x.ran; cleared = x.cleared; blame = x.blame; stays = x.stays; mild = x.mild }

  -- the texts and lists are those of the maker's plan
  pub carried : (folder from : List ℕ) (p : PlanData) (c : CoreState) (plan finished lent report : List ℕ) (lists : List (List ℕ))
      → AreRunTexts p plan finished report → lent ≡ finished → lists ≡ lists_of p → Carried folder from p c (text_file plan) (end_nodes lists lent)
      → CopyRan folder from work p in_flight c old new r
  carried folder from p c plan finished lent report lists texts lent_is are x =
      let put : text_file plan ≡ plan_node p = ap text_file texts.plan_is in
      let ends : end_nodes lists lent ≡ end_nodes (lists_of p) (finished_text p) =
      ap (λ (ls : List (List ℕ)). end_nodes ls lent) are ∙ ap (end_nodes (lists_of p)) (lent_is ∙ texts.finished_is) in
      copy-carried folder from p c
      (subst (λ (n : Node). Carried folder from p c n (end_nodes (lists_of p) (finished_text p))) put
      (subst (λ (ns : List Node). Carried folder from p c (text_file plan) ns) ends x))

module _ (work : List ℕ) (in_flight : ℕ) (old new : Seen) (result : Result (List ℕ) GatherErr) where
  abbrev Went : List ℕ → List ℕ → PlanData → CoreState → Type 0
  Went folder from p c = CopyWent folder from work p in_flight c old new result

  -- the maker's own parts are those that it was made of
  pub went-made : (mine folder lent from : List ℕ) (q p : PlanData) (d : CoreState) (fresh : Bool) (paths : List (List ℕ))
      → mine ≡ folder → lent ≡ from → q ≡ p → d ≡ core_from fresh work paths (copy_steps q)
      → CopyWent mine lent work q in_flight d old new result
      → CopyWent folder from work p in_flight (core_from fresh work paths (copy_steps p)) old new result
  went-made mine folder lent from q p d fresh paths same_folder same_from same_plan core_is w =
      let same_core : d ≡ core_from fresh work paths (copy_steps p) = core_is ∙ ap (λ (y : PlanData). core_from fresh work paths (copy_steps y)) same_plan in
      subst (λ (f : List ℕ). Went f from p (core_from fresh work paths (copy_steps p))) same_folder
      (subst (λ (f : List ℕ). Went mine f p (core_from fresh work paths (copy_steps p))) same_from
      (subst (λ (y : PlanData). Went mine lent y (core_from fresh work paths (copy_steps p))) same_plan
      (subst (λ (k : CoreState). Went mine lent q k) same_core w)))

-- where this program ended it, its work folder is cleared
pub cleared-over : (work : List ℕ) (key : RunKey) (report : List ℕ) (old new : Seen) (result : Result (List ℕ) GatherErr) (is_old : Bool) (r : Result (Unit {0}) JournalErr) → is_old ≡ false
    → ClearRan work (λ w. ⊤) 1 closed_core old new r → result ≡ report_of r report → ClearEnded work key report old new result is_old
cleared-over work key report old new result is_old r own ran answer = subst (ClearEnded work key report old new result) (sym own) (over.cleared r ran answer)

-- the work folder by the code's own word for it
pub entered-by : (root from dest given : List ℕ) (in_flight : ℕ) (old mid new : Seen) (paths : List (List ℕ)) (o : Opened) (result : Result (List ℕ) GatherErr)
    → given ≡ gather_folder root → HasOpened root from dest paths o old mid → OpenedWent root from dest given in_flight paths mid new result o → StartRan root from dest in_flight old new result
entered-by root from dest given in_flight old mid new paths o result is h w =
    start.entered paths o mid h (subst (λ (x : List ℕ). OpenedWent root from dest x in_flight paths mid new result o) is w)

-- the way on by what was opened, with the code's own words for the work folder, its paths and its key
module _ (root from dest given work : List ℕ) (in_flight : ℕ) (seen paths : List (List ℕ)) (old new : Seen) (result : Result (List ℕ) GatherErr) (o : Opened)
    (work_is : given ≡ work) (paths_are : seen ≡ paths) where
  abbrev Goes : List ℕ → List (List ℕ) → Opened → Type 0
  Goes w ps x = OpenedWent root from dest w in_flight ps old new result x

  as-said : (x : Opened) → o ≡ x → Goes given seen x → Goes work paths o
  as-said x is w = subst (Goes work paths) (sym is) (subst (λ (d : List ℕ). Goes d paths x) work_is (subst (λ (ps : List (List ℕ)). Goes given ps x) paths_are w))

  pub go-finished : (key : RunKey) (report : List ℕ) (earlier : Bool) → key ≡ gather_key from dest → o ≡ opened.Finished report earlier → ClearEnded given key report old new result earlier
      → Goes work paths o
  go-finished key report earlier key_is is c =
      as-said (opened.Finished report earlier) is (way.finished (subst (λ (k : RunKey). ClearEnded given k report old new result earlier) key_is c))

  pub go-resumed : (p : PlanData) → o ≡ opened.Resumed p → CopyWent (copy_folder root dest) from given p in_flight (core_from false given seen (copy_steps p)) old new result → Goes work paths o
  go-resumed p is w = as-said (opened.Resumed p) is (way.resumed w)

  pub go-empty : o ≡ opened.Empty → Goes given seen opened.Empty → Goes work paths o
  go-empty is w = as-said opened.Empty is w
