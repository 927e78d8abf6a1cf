-- What a tree tells of itself: whether it tells at all, its past, and its count of faults.
use Rattle.std.specs.Prelude.{ℕ, Bool, true, false, if◌then◌else◌, List, [], ◌∷◌, ◌++◌, map, count_by}
use Rattle.std.specs.Prelude.{Option, Some, None}
use Rattle.file_tree.specs.declared.call.Call.{Call}
use Rattle.file_tree.specs.declared.call.Call.TheVariants as call
use Rattle.file_tree.specs.declared.call.Effect.{Effect}
use Rattle.file_tree.specs.declared.call.Effect.TheVariants as effect
use Rattle.std.specs.FinMap as fin
use Rattle.file_tree.specs.Trees.{TreeMap, after_change}

-- a call, and what it did: one entry a call, also where the call failed
pub record Happened : Type 0 where
  pub call : Call
  pub effect : Effect

-- the map with which a tree began, and all calls since
pub record Past : Type 0 where
  pub first : TreeMap
  pub log : List Happened

pub record Seen : Type 0 where
  pub tells : Bool
  pub past : Past
  pub faults : ℕ

-- one call more
abbrev pub adds : Past → Call → Effect → Past
adds p c e = record { first = p.first; log = p.log ++ (record { call = c; effect = e }) ∷ [] }

-- the map after an effect
abbrev pub after_effect : TreeMap → Effect → TreeMap
after_effect t effect.Same = t
after_effect t (effect.Changed c) = after_change t c
after_effect t effect.Settled = t

abbrev pub after_all : TreeMap → List Happened → TreeMap
after_all t [] = t
after_all t (h ∷ hs) = after_all (after_effect t h.effect) hs

-- the map that a past leads to
unfoldable pub map_now : Past → TreeMap
map_now p = after_all p.first p.log

-- the map now, where the tree tells
abbrev pub now_of : Seen → Option TreeMap
now_of s = if s.tells then Some (map_now s.past) else None

-- the calls so far, in order, failed ones too
abbrev pub calls_of : Past → List Call
calls_of p = map (λ h. h.call) p.log

abbrev pub is_settle : Call → Bool
is_settle call.Settle = true
is_settle (call.List folder) = false
is_settle (call.Read path) = false
is_settle (call.Put path) = false
is_settle (call.Rename from to) = false
is_settle (call.Remove path) = false

-- how often the tree was asked to settle
abbrev pub settles_of : Past → ℕ
settles_of p = count_by is_settle (calls_of p)

-- the past of a tree that doesn't tell
abbrev pub no_past : Past
no_past = record { first = fin.empty; log = [] }
