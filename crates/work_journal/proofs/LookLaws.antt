-- Looks at a tree: a stop leaves what it left before them, and they lead a core to itself.
use Rattle.std.proofs.Common.{◌≡◌, ℕ, Bool, true, false, List, [], ◌∷◌, map, refl, sym, subst, IsTrue}
use Rattle.std.specs.Prelude.{◌&&◌, Result, Ok, Err, OnOk}
use Rattle.std.specs.List.{list_all}
use Rattle.file_tree.specs.declared.call.Call.{Call}
use Rattle.file_tree.specs.declared.call.Call.TheVariants as call
use Rattle.file_tree.specs.declared.call.Effect.{Effect}
use Rattle.file_tree.specs.declared.call.Effect.TheVariants as effect
use Rattle.file_tree.specs.Trees.{TreeMap}
use Rattle.file_tree.specs.Seen.{Past, Happened}
use Rattle.file_tree.specs.Images.{State, Images, Always, LeavesOnly, state_of, state_after}
use Rattle.file_tree.specs.Moments.{is_look, LooksOnly}
use Rattle.journal_core.specs.Table.{CoreState}
use Rattle.work_journal.specs.Wanted.{IsPartway}
use Rattle.work_journal.specs.Runs.{RunsOne, Runs, Ran}
use Rattle.work_journal.specs.Runs.{RunsOne as one, Runs as runs}
use Rattle.work_journal.specs.Laws.{EveryLookLeaves, EveryLookRuns, looked}

both : (a b : Bool) → IsTrue (a && b) → IsTrue a × IsTrue b
both true b h = (refl, h)
both false b h = cc

-- ### What a stop leaves

look_same : (s : State) (c : Call) (e : Effect) → IsTrue (is_look (record { call = c; effect = e })) → state_after s e ≡ s
look_same s (call.List folder) effect.Same h = refl
look_same s (call.List folder) (effect.Changed c) h = cc
look_same s (call.List folder) effect.Settled h = cc
look_same s (call.Read path) effect.Same h = refl
look_same s (call.Read path) (effect.Changed c) h = cc
look_same s (call.Read path) effect.Settled h = cc
look_same s (call.Put path) e h = cc
look_same s (call.Rename from to) e h = cc
look_same s (call.Remove path) e h = cc
look_same s call.Settle e h = cc

always_looks : (P : TreeMap → Type 0) (s : State) (hs : List Happened) → IsTrue (list_all is_look hs) → Images P s → Always P s hs
always_looks P s [] h i = i
always_looks P s (g ∷ hs) h i =
    let parts = both (is_look g) (list_all is_look hs) h in
    (i, subst (λ (x : State). Always P x hs) (sym (look_same s g.call g.effect parts.0)) (always_looks P s hs parts.1 i))

-- whatever holds of all that a stop leaves before looks holds of all that it leaves at each of them
pub looks_leave : (P : TreeMap → Type 0) (old new : Past) → LooksOnly old new → Images P (state_of old) → LeavesOnly P old new
looks_leave P old new l i = record { rest = l.rest; first = l.first; log = l.log; each = always_looks P (state_of old) l.rest l.each i }

pub look_leaves : EveryLookLeaves
look_leaves w old new l i = looks_leave (IsPartway w) old new l i

-- ### What becomes of a core

look_runs_one : (work : List ℕ) (c : CoreState) (k : Call) (e : Effect) → IsTrue (is_look (record { call = k; effect = e })) → RunsOne work c k c
look_runs_one work c (call.List folder) e h = one.lists
look_runs_one work c (call.Read path) e h = one.reads
look_runs_one work c (call.Put path) e h = cc
look_runs_one work c (call.Rename from to) e h = cc
look_runs_one work c (call.Remove path) e h = cc
look_runs_one work c call.Settle e h = cc

looks_runs : (work : List ℕ) (c : CoreState) (hs : List Happened) → IsTrue (list_all is_look hs) → Runs work c (map (λ (h : Happened). h.call) hs) c
looks_runs work c [] h = runs.none
looks_runs work c (g ∷ hs) h =
    let parts = both (is_look g) (list_all is_look hs) h in
    runs.more (look_runs_one work c g.call g.effect parts.0) (looks_runs work c hs parts.1)

same_core : {A E : Type 0} (c : CoreState) (r : Result A E) → OnOk r (c ≡ c)
same_core c (Ok a) = refl
same_core c (Err e) = tt

-- they lead each core to itself
pub looks_ran : {A E : Type 0} (work : List ℕ) (c : CoreState) (old new : Past) (r : Result A E) → LooksOnly old new → Ran work c old c new r
looks_ran work c old new r l = record { rest = l.rest; last = c; first = l.first; log = l.log; runs = looks_runs work c l.rest l.each; ends = same_core c r }

pub look_runs : EveryLookRuns
look_runs work c old new l = looks_ran work c old new looked l
