-- The ways into a run, whatever it makes: over a tree that isn't planned, one that has a plan, and one that is finished. The core that a start
-- begins with agrees with the tree, at every moment of the run a stop leaves it partway, and in the end it is done.
use Rattle.std.proofs.Common.{◌≡◌, ◌≢◌, ℕ, Bool, true, false, if◌then◌else◌, List, [], ◌∷◌, refl, sym, ap, subst, ◌∙◌, Result, Ok}
use Rattle.std.specs.Prelude.{Option, Some, None, is_some, IsTrue, OnOk}
use Rattle.std.specs.FinMap as fin
use Rattle.file_tree.specs.declared.node.Node.{Node}
use Rattle.file_tree.specs.Trees.{TreeMap, is_below}
use Rattle.file_tree.specs.Seen.{Seen, Past, Happened, map_now}
use Rattle.file_tree.specs.Images.{State, Images, Always, LeavesOnly, state_of, state_after, settled_state}
use Rattle.journal_core.specs.Names.{Name, IsName, IsStep, plan_new, plan, temp, commit, fresh, final, target}
use Rattle.journal_core.specs.Table.{CoreState, closed_core, new_core, old_core, resumed_core}
use Rattle.journal_core.specs.Starts.{shown_core, shown_states}
use Rattle.journal_core.specs.Marks.{Marking, mark, absent, first, is_loose, is_earlier}
use Rattle.journal_core.specs.Shapes.{HasShape}
use Rattle.journal_core.specs.Shapes.{HasShape as shape}
use Rattle.work_texts.specs.declared.journal_err.JournalErr.{JournalErr}
use Rattle.work_journal.specs.Work.{work_path, has_path, presence, there_mark}
use Rattle.work_journal.specs.Wanted.{Wanted, IsPartway, MarkHas, path_of}
use Rattle.work_journal.specs.Keeps.{Keeps}
use Rattle.work_journal.specs.Laws.{ArePresent, IsEnded}
use Rattle.work_journal.specs.Runs.{IsGiven}
use Rattle.work_journal.specs.Clearing.{IsCleared}
use Rattle.work_journal.specs.Finishing.{FinishRan}
use Rattle.work_journal.proofs.PresentLaws.{present_keeps}
use Rattle.work_journal.proofs.SpareLaws.{is_work_path}
use Rattle.root_run.specs.Partways.{IsUnstarted, IsPartwayBy, HasEnded}
use Rattle.root_run.specs.Partways.{IsPartwayBy as way}

-- ### What holds of more holds of less

images_map : {P Q : TreeMap → Type 0} (s : State) → ((u : TreeMap) → P u → Q u) → Images P s → Images Q s
images_map s f i = record { each = λ u im. f u (i.each u im) }

always_map : {P Q : TreeMap → Type 0} (hs : List Happened) (s : State) → ((u : TreeMap) → P u → Q u) → Always P s hs → Always Q s hs
always_map [] s f a = images_map s f a
always_map (h ∷ hs) s f a = (images_map s f a.0, always_map hs (state_after s h.effect) f a.1)

pub leaves_map : {P Q : TreeMap → Type 0} (old new : Past) → ((u : TreeMap) → P u → Q u) → LeavesOnly P old new → LeavesOnly Q old new
leaves_map old new f l = record { rest = l.rest; first = l.first; log = l.log; each = always_map l.rest (state_of old) f l.each }

-- ### The core that is shown

-- the core of a run that is over, by whether an earlier program wrote the finished text
abbrev pub over_core : Bool → CoreState
over_core old = if old then old_core else closed_core

pub shown_over : (old : Bool) (steps work : List ℕ) (paths : List (List ℕ)) → has_path paths (work_path work (final 3)) ≡ true → shown_core steps (presence old work paths) ≡ over_core old
unfolding presence
shown_over true steps work paths there = rw there refl
shown_over false steps work paths there = rw there refl

pub shown_new : (old : Bool) (steps work : List ℕ) (paths : List (List ℕ)) → has_path paths (work_path work (final 3)) ≡ false → has_path paths (work_path work plan) ≡ false
    → shown_core steps (presence old work paths) ≡ new_core steps
unfolding presence
shown_new old steps work paths none other = rw (none, other) refl

pub shown_resumed : (old : Bool) (steps work : List ℕ) (paths : List (List ℕ)) → has_path paths (work_path work (final 3)) ≡ false → has_path paths (work_path work plan) ≡ true
    → shown_core steps (presence old work paths) ≡ resumed_core steps (shown_states steps (presence false work paths))
unfolding presence
shown_resumed old steps work paths none there = rw (none, there) refl

-- ### A tree that isn't planned yet

-- what is there has a mark that says so
there-has : (b : Bool) (was : Option Node) (n : Node) (older o : Option Node) → is_some o ≡ b → MarkHas (there_mark b) was n older o
there-has true was n older None e = cc
there-has true was n older (Some m) e = λ x. cc
there-has false was n older None e = refl
there-has false was n older (Some m) e = cc

loose-there : (b : Bool) → IsTrue (is_loose (there_mark b))
loose-there true = refl
loose-there false = refl

abbrev is-new : Name → Bool
is-new plan_new = true
is-new plan = false
is-new (temp j k) = false
is-new (commit j) = false
is-new (fresh i) = false
is-new (final i) = false
is-new (target j k) = false

-- nothing but a proposed plan
abbrev new_marking : Bool → Marking
new_marking b = record {
  plan_new = there_mark b;
  plan = absent;
  temp = λ j k. absent;
  commit = λ j. absent;
  fresh = λ i. absent;
  final = λ i. absent;
  target = λ j k. first;
}

new-shape : (steps : List ℕ) (b : Bool) → HasShape steps (new_marking b)
new-shape steps b = shape.unplanned (record {
  plan_new = loose-there b;
  rest = record { plan = refl; temp = λ j k is. refl; commit = λ j l. refl; fresh = λ i l. refl; final = λ i l. refl; target = λ j k is. refl };
})

module _ (w : Wanted) (given : IsGiven w w.work) where
  -- another name of the run isn't the proposed plan's
  apart-new : (n : Name) → IsName w.steps n → is-new n ≡ false → path_of w n ≢ work_path w.work plan_new
  apart-new n is other e = new-not (given.apart.apart n plan_new is tt e)
    where
      new-not : n ≡ plan_new → ⊥
      new-not f = absurd (subst (λ (b : Bool). b ≡ false → ⊥) (sym (ap is-new f)) (λ x. cc) other)

  module _ (t : TreeMap) (u : IsUnstarted w.start w.work t) where
    gone : (n : Name) → IsName w.steps n → is-new n ≡ false → IsTrue (is_below w.work (path_of w n)) → fin.get t (path_of w n) ≡ None
    gone n is other below = u.others (path_of w n) (apart-new n is other) ∙ given.is_work.clean (path_of w n) below

    named-new : (n : Name) → IsName w.steps n
        → MarkHas (mark (new_marking (is_some (fin.get t (work_path w.work plan_new)))) n) (fin.get w.start (path_of w n)) (w.node n) (w.older n) (fin.get t (path_of w n))
    named-new plan_new is = there-has (is_some (fin.get t (work_path w.work plan_new))) _ _ _ (fin.get t (work_path w.work plan_new)) refl
    named-new plan is = gone plan is refl (is_work_path w.work plan)
    named-new (temp j k) is = gone (temp j k) is refl (is_work_path w.work (temp j k))
    named-new (commit j) is = gone (commit j) is refl (is_work_path w.work (commit j))
    named-new (fresh i) is = gone (fresh i) is refl (is_work_path w.work (fresh i))
    named-new (final i) is = gone (final i) is refl (is_work_path w.work (final i))
    named-new (target j k) is = u.others (path_of w (target j k)) (apart-new (target j k) is refl)

    -- it is partway by each plan
    abbrev new-partway : IsPartway w t
    new-partway = record {
      marking = new_marking (is_some (fin.get t (work_path w.work plan_new)));
      shape = new-shape w.steps (is_some (fin.get t (work_path w.work plan_new)));
      has = record { named = named-new; others = λ q apart. u.others q (apart plan_new tt) };
    }

  -- ### The core of a start agrees with the tree

  pub shown-keeps : (seen : Seen) (paths : List (List ℕ)) (partway : IsPartway w (map_now seen.past)) (old : Bool) → is_earlier (partway.marking.final 3) ≡ old
      → state_of seen.past ≡ settled_state (map_now seen.past) → ArePresent w (map_now seen.past) paths → Keeps w (shown_core w.steps (presence old w.work paths)) (state_of seen.past)
  shown-keeps seen paths partway old same settled present =
      subst (Keeps w (shown_core w.steps (presence old w.work paths))) (sym settled) (present_keeps w given.apart (map_now seen.past) partway paths present old same)

  pub new-keeps : (seen : Seen) (paths : List (List ℕ)) → IsUnstarted w.start w.work (map_now seen.past) → state_of seen.past ≡ settled_state (map_now seen.past)
      → ArePresent w (map_now seen.past) paths → has_path paths (work_path w.work (final 3)) ≡ false → has_path paths (work_path w.work plan) ≡ false
      → Keeps w (new_core w.steps) (state_of seen.past)
  new-keeps seen paths u settled present none other =
      subst (λ (c : CoreState). Keeps w c (state_of seen.past)) (shown_new false w.steps w.work paths none other)
      (shown-keeps seen paths (new-partway (map_now seen.past) u) false refl settled present)

  pub resumed-keeps : (seen : Seen) (paths : List (List ℕ)) → IsPartway w (map_now seen.past) → state_of seen.past ≡ settled_state (map_now seen.past)
      → ArePresent w (map_now seen.past) paths → has_path paths (work_path w.work (final 3)) ≡ false → has_path paths (work_path w.work plan) ≡ true
      → Keeps w (resumed_core w.steps (shown_states w.steps (presence false w.work paths))) (state_of seen.past)
  resumed-keeps seen paths partway settled present none there =
      let old : Bool = is_earlier (partway.marking.final 3) in
      subst (λ (c : CoreState). Keeps w c (state_of seen.past)) (shown_resumed old w.steps w.work paths none there)
      (shown-keeps seen paths partway old refl settled present)

  pub over-keeps : (seen : Seen) (paths : List (List ℕ)) (partway : IsPartway w (map_now seen.past)) (old : Bool) → is_earlier (partway.marking.final 3) ≡ old
      → state_of seen.past ≡ settled_state (map_now seen.past) → ArePresent w (map_now seen.past) paths → has_path paths (work_path w.work (final 3)) ≡ true
      → Keeps w (over_core old) (state_of seen.past)
  over-keeps seen paths partway old same settled present there =
      subst (λ (c : CoreState). Keeps w c (state_of seen.past)) (shown_over old w.steps w.work paths there)
      (shown-keeps seen paths partway old same settled present)

-- ### What is there by a plan

-- a text of the work folder that isn't the proposed plan's
text-none : (start : TreeMap) (work : List ℕ) (t : TreeMap) (n : Name) → IsUnstarted start work t → ((q : List ℕ) → IsTrue (is_below work q) → fin.get start q ≡ None)
    → work_path work n ≢ work_path work plan_new → is_some (fin.get t (work_path work n)) ≡ true → ⊥
text-none start work t n u clean other there = none-there (fin.get t (work_path work n)) there (u.others (work_path work n) other ∙ clean (work_path work n) (is_work_path work n))
  where
    none-there : (o : Option Node) → is_some o ≡ true → o ≡ None → ⊥
    none-there None e f = cc
    none-there (Some m) e f = cc

-- a tree partway that has such a text is partway by a plan
pub record FoundBy (may : Wanted → Type 0) (t : TreeMap) : Type 0 where
  pub w : Wanted
  pub is : may w
  pub partway : IsPartway w t

pub found_plan : (start : TreeMap) (work : List ℕ) (may : Wanted → Type 0) (t : TreeMap) (n : Name) → ((q : List ℕ) → IsTrue (is_below work q) → fin.get start q ≡ None)
    → work_path work n ≢ work_path work plan_new → is_some (fin.get t (work_path work n)) ≡ true → IsPartwayBy start work may t → FoundBy may t
found_plan start work may t n clean other there (way.unplanned u) = absurd (text-none start work t n u clean other there)
found_plan start work may t n clean other there (way.planned w is partway) = record { w = w; is = is; partway = partway }

-- ### What a run leaves

-- whatever is answered, at every moment a stop leaves the run partway
pub run-leaves : {A : Type 0} (start : TreeMap) (work : List ℕ) (may runs : Wanted → Type 0) (w : Wanted) (n : ℕ) (hits : List ℕ → Type 0) (c : CoreState) (old new : Seen)
    (r : Result A JournalErr) → may w → runs w → IsGiven w work → old.tells ≡ true → Keeps w c (state_of old.past) → FinishRan hits n work runs c old new r
    → LeavesOnly (IsPartwayBy start work may) old.past new.past
run-leaves start work may runs w n hits c old new r is run given tells keeps ran =
    leaves_map old.past new.past (λ u partway. way.planned w is partway) ((ran.came.goes tells).moments w given run keeps)

-- a run whose names have ended and whose work folder is cleared is done
names_apart : (w : Wanted) (q : List ℕ) → (IsTrue (is_below w.work q) → ⊥) → ((j k : ℕ) → IsStep w.steps j k → q ≢ w.output j k)
    → (n : Name) → IsName w.steps n → q ≢ path_of w n
names_apart w q out apart plan_new is e = out (subst (λ (x : List ℕ). IsTrue (is_below w.work x)) (sym e) (is_work_path w.work plan_new))
names_apart w q out apart plan is e = out (subst (λ (x : List ℕ). IsTrue (is_below w.work x)) (sym e) (is_work_path w.work plan))
names_apart w q out apart (temp j k) is e = out (subst (λ (x : List ℕ). IsTrue (is_below w.work x)) (sym e) (is_work_path w.work (temp j k)))
names_apart w q out apart (commit j) is e = out (subst (λ (x : List ℕ). IsTrue (is_below w.work x)) (sym e) (is_work_path w.work (commit j)))
names_apart w q out apart (fresh i) is e = out (subst (λ (x : List ℕ). IsTrue (is_below w.work x)) (sym e) (is_work_path w.work (fresh i)))
names_apart w q out apart (final i) is e = out (subst (λ (x : List ℕ). IsTrue (is_below w.work x)) (sym e) (is_work_path w.work (final i)))
names_apart w q out apart (target j k) is e = apart j k is e

pub ended_whole : (w : Wanted) (new : Seen) → new.tells ≡ true → IsEnded w (map_now new.past) → IsCleared w.work new → HasEnded w (map_now new.past)
ended_whole w new tells ended cleared = record {
  outputs = ended.outputs;
  texts = ended.texts;
  cleared = λ q other. cleared.gone tells q other;
  others = λ q out apart. ended.others q (names_apart w q out apart);
}

-- at `Ok` the run is done
pub run-ended : {A : Type 0} (w : Wanted) (runs : Wanted → Type 0) (n : ℕ) (hits : List ℕ → Type 0) (c : CoreState) (old new : Seen) (r : Result A JournalErr) (a : A)
    → r ≡ Ok a → runs w → IsGiven w w.work → old.tells ≡ true → Keeps w c (state_of old.past) → FinishRan hits n w.work runs c old new r → IsCleared w.work new
    → HasEnded w (map_now new.past)
run-ended {A} w runs n hits c old new r a ok run given tells keeps ran cleared =
    ended_whole w new (ran.came.tells ∙ tells)
    (subst (λ (x : Result A JournalErr). OnOk x (IsEnded w (map_now new.past))) ok (ran.ended tells w given run keeps)) cleared
