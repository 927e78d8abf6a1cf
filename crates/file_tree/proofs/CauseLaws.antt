-- Calls that fail and do nothing, and a put that is made: what their clauses ask.
use Rattle.std.proofs.Common.{◌≡◌, ◌≢◌, ℕ, ◌≤◌, true, false, cond, List, refl, sym, ap, ◌∙◌}
use Rattle.std.specs.Prelude.{Some, Err, unwrap_or}
use Rattle.std.specs.declared.cmp.Ordering.{Ordering}
use Rattle.std.specs.declared.cmp.Ordering.TheVariants.{Less, Equal, Greater}
use Rattle.std.specs.Ordering.{nat_cmp, eq_by_cmp, is_eq}
use Rattle.std.specs.Cmp.Lexicographic.{slice_cmp, nat_list_cmp_total}
use Rattle.std.specs.FinMap as fin
use Rattle.std.specs.FinMap.{slice_cmp-IsAntisymmetric, nat_cmp-IsAntisymmetric}
use Rattle.file_tree.specs.declared.node.Node.{Node}
use Rattle.file_tree.specs.declared.node.TreeErr.TheVariants.{Failed}
use Rattle.file_tree.specs.declared.call.Call.TheVariants as call
use Rattle.file_tree.specs.declared.call.Effect.TheVariants as effect
use Rattle.file_tree.specs.Trees.{TreeMap, with_node}
use Rattle.file_tree.specs.Seen.{Seen, Past, adds}
use Rattle.file_tree.specs.Causes.{Rose, HasCause, OnlyAt, MadeOrNot, Fails, PutFails, MoveFails, TakeFails}
use Rattle.file_tree.specs.Causes.MadeOrNot.{made, not_made}
use Rattle.file_tree.specs.Causes.PutFails.{put_nothing}
use Rattle.file_tree.specs.Causes.MoveFails.{move_nothing}
use Rattle.file_tree.specs.Causes.TakeFails.{take_nothing}

pub cause_failed : {T : Type 0} (old new : Seen) → old.faults ≤ new.faults → Rose old.faults new.faults → HasCause {T = T} old new (Err Failed)
cause_failed old new later rose = record { later = later; failed = λ _. rose; no_memory = λ e. cc }

pub put_fails : (old new : Past) (path : List ℕ) → new ≡ adds old (call.Put path) effect.Same → Fails old new (call.Put path) (PutFails path)
put_fails old new path is = record { effect = effect.Same; can = put_nothing; past = is }

pub move_fails : (old new : Past) (from to : List ℕ) → new ≡ adds old (call.Rename from to) effect.Same → Fails old new (call.Rename from to) (MoveFails from to)
move_fails old new from to is = record { effect = effect.Same; can = move_nothing; past = is }

pub take_fails : (old new : Past) (path : List ℕ) → new ≡ adds old (call.Remove path) effect.Same → Fails old new (call.Remove path) (TakeFails path)
take_fails old new path is = record { effect = effect.Same; can = take_nothing; past = is }

same_of_some : (t u : TreeMap) → Some t ≡ Some u → t ≡ u
same_of_some t u e = ap (λ o. unwrap_or o t) e

equal_by : (o : Ordering) → is_eq o ≡ true → o ≡ Equal
equal_by Less e = cc
equal_by Equal e = refl
equal_by Greater e = cc

pub get_other : (t : TreeMap) (path q : List ℕ) (n : Node) → q ≢ path → fin.get (with_node path n t) q ≡ fin.get t q
get_other t path q n other =
    fin.get-insert nat_list_cmp_total t path n q
    ∙ elim (eq_by_cmp (slice_cmp nat_cmp) q path) as (λ b. eq_by_cmp (slice_cmp nat_cmp) q path ≡ b → cond b (Some n) (fin.get t q) ≡ fin.get t q) [
      | true ↦ λ e. absurd (other (slice_cmp-IsAntisymmetric nat_cmp-IsAntisymmetric q path (equal_by _ e)))
      | false ↦ λ e. refl
    ] refl

-- where nothing changed, nothing but the path changed
pub only_same : (path : List ℕ) (t u : TreeMap) → u ≡ t → OnlyAt path (Some t) (Some u)
only_same path t u is = record {
  tells = refl;
  others = λ v w q old new other. ap (λ m. fin.get m q) (sym (same_of_some _ _ new) ∙ is ∙ same_of_some _ _ old);
}

-- a put changes nothing but its path
pub only_put : (path : List ℕ) (n : Node) (t u : TreeMap) → u ≡ with_node path n t → OnlyAt path (Some t) (Some u)
only_put path n t u is = record {
  tells = refl;
  others = λ v w q old new other.
      ap (λ m. fin.get m q) (sym (same_of_some _ _ new) ∙ is)
      ∙ get_other t path q n other
      ∙ ap (λ m. fin.get m q) (same_of_some _ _ old);
}

pub not_made_same : (change : TreeMap → TreeMap) (t u : TreeMap) → u ≡ t → MadeOrNot change (Some t) (Some u)
not_made_same change t u is = not_made (ap Some is)

pub made_so : (change : TreeMap → TreeMap) (t u : TreeMap) → u ≡ change t → MadeOrNot change (Some t) (Some u)
made_so change t u is = made (ap Some is)

pub ruleset cause_laws = (cause_failed, put_fails, move_fails, take_fails, only_same, only_put, not_made_same, made_so)
