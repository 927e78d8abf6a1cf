-- What a stop may leave of a tree: the last settled map with a first part of the changes made since,
-- in which a file that was put since then holds any bytes and any mode, also after it was renamed.
use Rattle.std.specs.Prelude.{◌≡◌, ℕ, ◌≤◌, List, [], ◌∷◌, ◌++◌, length, take, map}
use Rattle.file_tree.specs.declared.node.Node.TheVariants as node
use Rattle.file_tree.specs.declared.call.Change.{Change}
use Rattle.file_tree.specs.declared.call.Change.TheVariants as change
use Rattle.file_tree.specs.declared.call.Effect.{Effect}
use Rattle.file_tree.specs.declared.call.Effect.TheVariants as effect
use Rattle.file_tree.specs.Trees.{TreeMap, after_change, after_changes, with_node}
use Rattle.file_tree.specs.Seen.{Past, Happened}

-- a tree at one moment: the map that was stored last, the changes made since, and the map now
pub record State : Type 0 where
  pub settled : TreeMap
  pub changes : List Change
  pub now : TreeMap

abbrev pub state_after : State → Effect → State
state_after s effect.Same = s
state_after s (effect.Changed c) = record { settled = s.settled; changes = s.changes ++ c ∷ []; now = after_change s.now c }
state_after s effect.Settled = record { settled = s.now; changes = []; now = s.now }

abbrev pub states_after : State → List Happened → State
states_after s [] = s
states_after s (h ∷ hs) = states_after (state_after s h.effect) hs

-- all is stored
abbrev pub settled_state : TreeMap → State
settled_state t = record { settled = t; changes = []; now = t }

-- the moment that a past leads to
unfoldable pub state_of : Past → State
state_of p = states_after (settled_state p.first) p.log

-- a change as a stop may leave it: whole, or a put file with any bytes and any mode
pub data Leaves : Change → TreeMap → TreeMap → Type 0 where
  whole : {c : Change} {t : TreeMap} → Leaves c t (after_change t c)
  torn : {path bytes : List ℕ} {mode : ℕ} {t : TreeMap} (left : List ℕ) (bits : ℕ)
      → Leaves (change.Put path (node.File bytes mode)) t (with_node path (node.File left bits) t)

-- all of the changes in order, each as a stop may leave it
pub data Full : TreeMap → List Change → TreeMap → Type 0 where
  none : {t : TreeMap} → Full t [] t
  more : {c : Change} {cs : List Change} {t u v : TreeMap} → Leaves c t u → Full u cs v → Full t (c ∷ cs) v

-- a map that a stop at this moment may leave
pub record Image (s : State) (u : TreeMap) : Type 0 where
  pub kept : ℕ
  pub within : kept ≤ length s.changes
  pub full : Full s.settled (take kept s.changes) u

-- this holds of each map that a stop at this moment may leave
pub record Images (P : TreeMap → Type 0) (s : State) : Type 0 where
  pub each : (u : TreeMap) → Image s u → P u

-- at this moment and at each moment after one of these calls
abbrev pub Always : (TreeMap → Type 0) → State → List Happened → Type 0
Always P s [] = Images P s
Always P s (h ∷ hs) = Images P s × Always P (state_after s h.effect) hs

-- the new past has the old one's calls and more, and at every moment since then a stop leaves only maps of which this holds
pub record LeavesOnly (P : TreeMap → Type 0) (old new : Past) : Type 0 where
  pub rest : List Happened
  pub first : new.first ≡ old.first
  pub log : new.log ≡ old.log ++ rest
  pub each : Always P (state_of old) rest

-- the change with a put file's bytes torn
abbrev pub torn_change : List ℕ → Change → Change
torn_change left (change.Put path (node.File bytes mode)) = change.Put path (node.File left mode)
torn_change left (change.Put path (node.Link target)) = change.Put path (node.Link target)
torn_change left (change.Move from to) = change.Move from to
torn_change left (change.Take path) = change.Take path

-- the map that a stop leaves where it keeps this many of the changes, and of each file that was put these bytes
unfoldable pub image_at : State → ℕ → List ℕ → TreeMap
image_at s kept left = after_changes s.settled (map (torn_change left) (take kept s.changes))
