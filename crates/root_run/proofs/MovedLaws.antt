-- The tally of a root with the leavings of an earlier start in its work folder is that of the root before the run.
use Rattle.std.proofs.Common.{◌≡◌, ℕ, Bool, true, false, if◌then◌else◌, List, [], ◌∷◌, ◌++◌, refl, sym, ap, subst}
use Rattle.std.specs.Prelude.{Option, Some, None}
use Rattle.std.specs.List.{filter, list_any}
use Rattle.std.proofs.lemmas.List.{append-nil}
use Rattle.std.proofs.lemmas.List.Elements.{filter-append}
use Rattle.std.specs.FinMap as fin
use Rattle.dw_base.specs.declared.fault.Refusal.{Refusal}
use Rattle.file_tree.specs.declared.node.Node.{Node}
use Rattle.file_tree.specs.declared.node.Node.TheVariants as node
use Rattle.file_tree.specs.declared.node.Found.{Found}
use Rattle.file_tree.specs.Trees.{TreeMap, stands_at, found_of, is_below}
use Rattle.job_types.specs.Settings.{Settings}
use Rattle.root_plan.specs.Roots.{may_be_candidate, below_root}
use Rattle.root_plan.specs.Verdicts.{JudgeView}
use Rattle.root_plan.specs.Tallies.{Tally, FoundNoted, Noted, Tallies}
use Rattle.root_plan.specs.Tallies.{Noted as notes, Tallies as tally}

never : (b : Bool) → b ≡ true → b ≡ false → ⊥
never true e f = cc
never false e f = cc

some-is : {A : Type 0} (a b : A) → Some a ≡ Some b → a ≡ b
some-is a b e = cc

module _ (s : Settings) (v : JudgeView) (fails : List ℕ → List ℕ → Refusal → Type 0) (root : List ℕ) where
  -- ### What is found at a path hangs on its node, but for a path without one, which does nothing

  by-node : (path below : List ℕ) (o : Option Node) (a b : Bool) (limit : ℕ) (t u : Tally)
      → FoundNoted s v fails path below (found_of o a limit) t u → FoundNoted s v fails path below (found_of o b limit) t u
  by-node path below (Some (node.File bytes mode)) a b limit t u h = h
  by-node path below (Some (node.Link target)) a b limit t u h = h
  by-node path below None true true limit t u h = h
  by-node path below None true false limit t u h = h
  by-node path below None false true limit t u h = h
  by-node path below None false false limit t u h = h

  same-found : (m n : TreeMap) (path below : List ℕ) (limit : ℕ) (t u : Tally) → fin.get n path ≡ fin.get m path
      → FoundNoted s v fails path below (stands_at m path limit) t u → FoundNoted s v fails path below (stands_at n path limit) t u
  unfolding stands_at
  same-found m n path below limit t u e h =
      subst (λ (o : Option Node). FoundNoted s v fails path below (found_of o (list_any (is_below path) (fin.keys n)) limit) t u) (sym e)
      (by-node path below (fin.get m path) (list_any (is_below path) (fin.keys m)) (list_any (is_below path) (fin.keys n)) limit t u h)

  pub noted-moves : (m n : TreeMap) (path : List ℕ) (t u : Tally) → (may_be_candidate root path ≡ true → fin.get n path ≡ fin.get m path)
      → Noted (Some m) root s v fails path t u → Noted (Some n) root s v fails path t u
  noted-moves m n path t u same (notes.apart other) = notes.apart other
  noted-moves m n path t u same (notes.there {what = w} may stood h) =
      notes.there {what = stands_at n path s.max_file} may
      (record { is = λ x e. ap (λ (y : TreeMap). stands_at y path s.max_file) (some-is x n (sym e)) })
      (same-found m n path (below_root root path) s.max_file t u (same may)
      (subst (λ (x : Found). FoundNoted s v fails path (below_root root path) x t u) (sym (stood.is m refl)) h))

  -- ### Paths that are no candidates play no part

  kept-by : (m n : TreeMap) (keep : List ℕ → Bool) (b : Bool) (paths : List (List ℕ)) (path : List ℕ) (t u : Tally)
      → keep path ≡ b → (keep path ≡ false → may_be_candidate root path ≡ false) → (may_be_candidate root path ≡ true → fin.get n path ≡ fin.get m path)
      → Noted (Some m) root s v fails path t u → Tallies (Some n) root s v fails paths t → Tallies (Some n) root s v fails (paths ++ (if b then path ∷ [] else [])) u
  kept-by m n keep true paths path t u is apart same noted ts = tally.more ts (noted-moves m n path t u same noted)
  kept-by m n keep false paths path t u is apart same (notes.apart other) ts =
      subst (λ (ps : List (List ℕ)). Tallies (Some n) root s v fails ps t) (sym (append-nil paths)) ts
  kept-by m n keep false paths path t u is apart same (notes.there {what = w} may stood h) ts = absurd (never (may_be_candidate root path) may (apart is))

  one-kept : (keep : List ℕ → Bool) (q : List ℕ) (b : Bool) → keep q ≡ b → (if b then q ∷ [] else []) ≡ filter keep (q ∷ [])
  one-kept keep q true e = rw e refl
  one-kept keep q false e = rw e refl

  last-kept : (m n : TreeMap) (keep : List ℕ → Bool) (paths : List (List ℕ)) (q : List ℕ) (t u : Tally) (b : Bool) → keep q ≡ b
      → (keep q ≡ false → may_be_candidate root q ≡ false) → (may_be_candidate root q ≡ true → fin.get n q ≡ fin.get m q)
      → Noted (Some m) root s v fails q t u → Tallies (Some n) root s v fails (filter keep paths) t
      → Tallies (Some n) root s v fails (filter keep (paths ++ q ∷ [])) u
  last-kept m n keep paths q t u b e apart same noted ts =
      subst (λ (xs : List (List ℕ)). Tallies (Some n) root s v fails xs u) (sym (filter-append keep paths (q ∷ [])))
      (subst (λ (xs : List (List ℕ)). Tallies (Some n) root s v fails (filter keep paths ++ xs) u) (one-kept keep q b e)
      (kept-by m n keep b (filter keep paths) q t u e apart same noted ts))

  -- so the tally of a root is that of another tree with the same candidates, over the paths that are kept
  pub tallies-move : (m n : TreeMap) (keep : List ℕ → Bool) → ((q : List ℕ) → keep q ≡ false → may_be_candidate root q ≡ false)
      → ((q : List ℕ) → may_be_candidate root q ≡ true → fin.get n q ≡ fin.get m q)
      → (paths : List (List ℕ)) (t : Tally) → Tallies (Some m) root s v fails paths t → Tallies (Some n) root s v fails (filter keep paths) t
  tallies-move m n keep apart same paths t tally.none = tally.none
  tallies-move m n keep apart same paths t (tally.more {paths = ps} {path = q} {t = t0} ts noted) =
      last-kept m n keep ps q t0 t (keep q) refl (apart q) (same q) noted (tallies-move m n keep apart same ps t0 ts)
