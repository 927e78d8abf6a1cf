-- The walk: what a list of the root says.
use Rattle.std.proofs.Common.{◌≡◌, ◌≢◌, ℕ, ◌<◌, List, [], length, Some, refl, sym, ap, ◌∙◌, arith}
use Rattle.root_paths.specs.declared.path_err.PathErr.{PathErr}
use Rattle.root_paths.specs.declared.path_err.PathErr.TheVariants as err
use Rattle.std.proofs.Common.{subst, ◌∷◌}
use Rattle.std.specs.Prelude.{Option, if◌then◌else◌, Bool, true, false, nat_le}
use Rattle.std.proofs.lemmas.Bool.{leb-false}
use Rattle.file_tree.specs.declared.node.Listed.{Listed}
use Rattle.file_tree.specs.declared.node.Listed.TheVariants as listed
use Rattle.file_tree.specs.Trees.{TreeMap, keys_below, listed_at}
use Rattle.file_tree.specs.Seen.{Seen, now_of}
use Rattle.file_tree.specs.Causes.{Lay, AreListed}
use Rattle.root_paths.specs.Errors.{IsStopped}
use Rattle.root_paths.specs.Errors.{IsStopped as stop}
use Rattle.root_paths.specs.Roots.{most_paths}
use Rattle.root_paths.specs.Walks.{AreBelow, AreWalked, AreMany, WalkEnds, OnlyStopped}
use Rattle.root_paths.specs.Walks.WalkEnds.{absent, many, failed, memory}

-- the paths of a list
abbrev paths_in : Listed → List (List ℕ)
paths_in (listed.Paths paths) = paths
paths_in listed.TooMany = []

paths_by : (b : Bool) (all : List (List ℕ)) (paths : List (List ℕ)) → (if b then listed.Paths all else listed.TooMany) ≡ listed.Paths paths → paths ≡ all
paths_by true all paths e = sym (ap paths_in e)
paths_by false all paths e = cc

many_by : (b : Bool) (n : ℕ) (all : List (List ℕ)) → nat_le (length all) n ≡ b → (if b then listed.Paths all else listed.TooMany) ≡ listed.TooMany → n < length all
many_by true n all t e = cc
many_by false n all t e = omega (arith, leb-false _ _ t)

pub are_below : (old : Option TreeMap) (root : List ℕ) (limit : ℕ) (paths : List (List ℕ)) → Lay old root limit (listed.Paths paths) → AreBelow old root paths
unfolding listed_at
are_below old root limit paths lay = record { are = λ t e. paths_by (nat_le (length (keys_below t root)) limit) (keys_below t root) paths (lay.is t e) }

pub are_many : (old : Option TreeMap) (root : List ℕ) → Lay old root most_paths listed.TooMany → AreMany old root
unfolding listed_at
are_many old root lay = record { many = λ t e. many_by (nat_le (length (keys_below t root)) most_paths) most_paths (keys_below t root) refl (lay.is t e) }

pub are_walked : (old : Option TreeMap) (root : List ℕ) (paths : List (List ℕ)) → Lay old root most_paths (listed.Paths paths) → AreListed most_paths paths
    → length paths ≢ 0 → AreWalked old root paths
are_walked old root paths lay listed some = record {
  all = are_below old root most_paths paths lay;
  in_order = listed.in_order;
  some = λ e. some (ap length e);
  few = listed.few;
}

empty_by : (paths : List (List ℕ)) → length paths ≡ 0 → paths ≡ []
empty_by [] e = refl
empty_by (p ∷ ps) e = cc

pub ends_absent : (old new : Seen) (root : List ℕ) (paths : List (List ℕ)) → Lay (now_of old) root most_paths (listed.Paths paths) → length paths ≡ 0
    → WalkEnds old new root err.Absent
ends_absent old new root paths lay none = absent (subst (AreBelow (now_of old) root) (empty_by paths none) (are_below (now_of old) root most_paths paths lay))

pub ruleset walk_rules = (are_walked, are_many, ends_absent, many, failed, memory)

-- ### Beside paths, nothing ends it

walk-stopped : (tree : TreeMap) (old new : Seen) (root : List ℕ) (paths : List (List ℕ)) (e : PathErr) → now_of old ≡ Some tree → AreWalked (now_of old) root paths
    → WalkEnds old new root e → IsStopped e
walk-stopped tree old new root paths e here are (absent none) = absurd (are.some (are.all.are tree here ∙ sym (none.are tree here)))
walk-stopped tree old new root paths e here are (many m) =
    absurd (omega (arith, are.few, subst (λ (ps : List (List ℕ)). most_paths < length ps) (sym (are.all.are tree here)) (m.many tree here)))
walk-stopped tree old new root paths e here are (failed rose) = stop.failed
walk-stopped tree old new root paths e here are memory = stop.no_memory

pub only_stopped : (old new : Seen) (root : List ℕ) (e : PathErr) → WalkEnds old new root e → OnlyStopped old root e
only_stopped old new root e ended = record { stopped = λ tree paths here are. walk-stopped tree old new root paths e here are ended }

pub ruleset stop_rules = (only_stopped)
