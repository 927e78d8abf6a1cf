-- What the calls of a tree leave between two moments, beside what a stop may leave: the laws that layers above step.
use Rattle.std.specs.Prelude.{◌≡◌, ◌⊎◌, ℕ, Bool, true, false, List, [], ◌∷◌, ◌++◌, is_some, IsTrue}
use Rattle.std.specs.List.{list_all}
use Rattle.std.specs.FinMap as fin
use Rattle.file_tree.specs.declared.call.Call.{Call}
use Rattle.file_tree.specs.declared.call.Call.TheVariants as call
use Rattle.file_tree.specs.declared.call.Change.{Change}
use Rattle.file_tree.specs.declared.call.Effect.{Effect}
use Rattle.file_tree.specs.declared.call.Effect.TheVariants as effect
use Rattle.file_tree.specs.Trees.{TreeMap}
use Rattle.file_tree.specs.Seen.{Past, Happened, adds, map_now}
use Rattle.file_tree.specs.Images.{State, state_after, states_after, state_of, Full, Image, Images, LeavesOnly}

-- these calls more
abbrev pub adds_all : Past → List Happened → Past
adds_all p hs = record { first = p.first; log = p.log ++ hs }

-- a call that only looks, and does nothing
abbrev pub is_look : Happened → Bool
is_look h = looks h.call h.effect
  where
    looks : Call → Effect → Bool
    looks (call.List folder) effect.Same = true
    looks (call.List folder) (effect.Changed c) = false
    looks (call.List folder) effect.Settled = false
    looks (call.Read path) effect.Same = true
    looks (call.Read path) (effect.Changed c) = false
    looks (call.Read path) effect.Settled = false
    looks (call.Put path) e = false
    looks (call.Rename from to) e = false
    looks (call.Remove path) e = false
    looks call.Settle e = false

-- the new past has the old one's calls, and then only lists and reads
pub record LooksOnly (old new : Past) : Type 0 where
  pub rest : List Happened
  pub first : new.first ≡ old.first
  pub log : new.log ≡ old.log ++ rest
  pub each : IsTrue (list_all is_look rest)

-- the same paths are there
abbrev pub SamePaths : TreeMap → TreeMap → Type 0
SamePaths t u = (q : List ℕ) → is_some (fin.get u q) ≡ is_some (fin.get t q)

-- where a test holds of a map
abbrev pub Holds : (TreeMap → Bool) → TreeMap → Type 0
Holds test t = IsTrue (test t)

-- ### Laws

-- the moment after one more call, and after more
abbrev pub EveryCallSteps : Type 0
EveryCallSteps = (p : Past) (c : Call) (e : Effect) → state_of (adds p c e) ≡ state_after (state_of p) e

abbrev pub EveryLogSteps : Type 0
EveryLogSteps = (p : Past) (hs : List Happened) → state_of (adds_all p hs) ≡ states_after (state_of p) hs

-- what a stop may leave after one more change: what it might before, or all changes, each as a stop may leave it
abbrev pub EveryChangeLeaves : Type 0
EveryChangeLeaves = (s : State) (c : Change) (u : TreeMap)
    → Image (state_after s (effect.Changed c)) u → Image s u ⊎ Full s.settled (s.changes ++ c ∷ []) u

-- a stop that keeps all changes leaves the paths that are there now
abbrev pub EveryPathLeft : Type 0
EveryPathLeft = (p : Past) (u : TreeMap) → Full (state_of p).settled (state_of p).changes u → SamePaths (map_now p) u

-- lists and reads change nothing of the moment
abbrev pub EveryLookCalm : Type 0
EveryLookCalm = (old new : Past) → LooksOnly old new → state_of new ≡ state_of old

-- what holds of all that a stop leaves over two spans of calls holds over both
abbrev pub EverySpanJoins : Type 0
EverySpanJoins = (test : TreeMap → Bool) (old mid new : Past)
    → LeavesOnly (Holds test) old mid → LeavesOnly (Holds test) mid new → LeavesOnly (Holds test) old new

-- and at its end
abbrev pub EverySpanEnds : Type 0
EverySpanEnds = (test : TreeMap → Bool) (old new : Past) → LeavesOnly (Holds test) old new → Images (Holds test) (state_of new)
