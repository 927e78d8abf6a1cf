-- A small maker for tests: each job has a file in one folder, and makes two files of it by one more byte each.
use Rattle.std.proofs.Common.{◌≡◌, ◌<◌, ℕ, Bool, true, false, cond, List, [], ◌∷◌, ◌++◌, length, get_or, refl, sym, ◌∙◌, ap, subst, eqb-true, lit<, lit≤}
use Rattle.std.specs.Prelude.{codes, replicate, ◌==◌, ◌≤◌, if◌then◌else◌, Option, Some, None}
use Rattle.std.proofs.lemmas.List.{length-replicate, get_or-replicate}
use Rattle.std.specs.Fmt.{decimal}
use Rattle.file_tree.specs.declared.node.Node.{Node}
use Rattle.file_tree.specs.declared.node.Node.TheVariants as node
use Rattle.work_journal.specs.Views.{MakerView, Makes, IsMaker}

abbrev pub toy_source : ℕ → List ℕ
toy_source j = codes "r/" ++ decimal j

abbrev pub toy_debug : ℕ → List ℕ
toy_debug j = codes "r/d/" ++ decimal j

-- twenty times the first byte
abbrev pub toy_digest : List ℕ → List ℕ
toy_digest bytes = replicate 20 (get_or bytes 0 0)

abbrev pub toy_nodes : ℕ → List ℕ → ℕ → Option (List Node)
toy_nodes first bytes mode =
    if get_or bytes 0 0 == first
    then Some (node.File (bytes ++ 100 ∷ []) mode ∷ node.File (bytes ++ 115 ∷ []) mode ∷ [])
    else None

-- so many jobs, whose files begin with this byte
abbrev pub toy_view : ℕ → ℕ → MakerView
toy_view jobs first = record {
  steps = replicate jobs 2;
  source = toy_source;
  target = λ j k. if k == 0 then toy_debug j else toy_source j;
  planned = λ j. replicate 20 first;
  digest = toy_digest;
}

abbrev pub toy_makes : ℕ → Makes
toy_makes first j bytes mode ns = toy_nodes first bytes mode ≡ Some ns

-- ### It is fit

abbrev two : ℕ
two = 2

steps_at : (n j : ℕ) → j < length (replicate n two) → get_or (replicate n two) j 0 ≡ two
steps_at n j l = get_or-replicate n j two 0 (subst (λ (k : ℕ). j < k) (length-replicate n two) l)

abbrev IsNone : Option (List Node) → Type 0
IsNone None = Unit {0}
IsNone (Some ns) = ⊥

abbrev nodes_in : Option (List Node) → List Node
nodes_in None = []
nodes_in (Some ns) = ns

first_is : (x first : ℕ) (b : Bool) (made ns : List Node) → (x == first) ≡ b → cond b (Some made) None ≡ Some ns → x ≡ first
first_is x first true made ns t e = eqb-true x first t
first_is x first false made ns t e = absurd (subst IsNone e tt)

same_length : (b : Bool) (made ns : List Node) → cond b (Some made) None ≡ Some ns → length ns ≡ length made
same_length true made ns e = sym (ap (λ (o : Option (List Node)). length (nodes_in o)) e)
same_length false made ns e = absurd (subst IsNone e tt)

same_nodes : (o : Option (List Node)) (ns ms : List Node) → o ≡ Some ns → o ≡ Some ms → ns ≡ ms
same_nodes o ns ms e f = ap nodes_in (sym e ∙ f)

pub toy_fits : (n first : ℕ) → IsMaker (toy_view n first) (toy_makes first)
toy_fits n first = record {
  some = λ j l. subst (λ (k : ℕ). 0 < k) (sym (steps_at n j l)) (lit< tt);
  most = λ j l. subst (λ (k : ℕ). k ≤ 4) (sym (steps_at n j l)) (lit≤ tt);
  of_planned = λ j bytes mode ns e. ap (λ (x : ℕ). replicate 20 x) (first_is (get_or bytes 0 0) first (get_or bytes 0 0 == first) _ ns refl e);
  one_each = λ j bytes mode ns l e. same_length (get_or bytes 0 0 == first) _ ns e ∙ sym (steps_at n j l);
  one = λ j bytes mode ns ms e f. same_nodes (toy_nodes first bytes mode) ns ms e f;
}
