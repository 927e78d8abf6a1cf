-- A start that hasn't changed the tree leaves what its stops left before; once it is settled, nothing but the map now.
use Rattle.std.proofs.Common.{◌≡◌, [], ◌∷◌, sym, ap, subst, ◌∙◌}
use Rattle.std.proofs.lemmas.List.{append-nil}
use Rattle.file_tree.specs.declared.call.Call.TheVariants as call
use Rattle.file_tree.specs.declared.call.Effect.TheVariants as effect
use Rattle.file_tree.specs.Trees.{TreeMap}
use Rattle.file_tree.specs.Seen.{Past, adds, map_now}
use Rattle.file_tree.specs.Images.{State, Image, Images, LeavesOnly, state_of, settled_state}
use Rattle.file_tree.specs.Moments.{LooksOnly}
use Rattle.file_tree.proofs.ImageLaws.{image_now, image_settled, state_of-adds, state_now}
use Rattle.file_tree.proofs.MomentLaws.{spans_join, look_calms}
use Rattle.work_journal.proofs.LookLaws.{looks_leave}
use Rattle.root_run.specs.Begun.{Begun}
use Rattle.root_run.specs.Begun.{Begun as begun}

-- after a settle there is the map now alone
settled_images : (P : TreeMap → Type 0) (old mid : Past) → mid ≡ adds old call.Settle effect.Settled → Images P (state_of old) → Images P (state_of mid)
settled_images P old mid e i = record {
  each = λ u im. subst P (sym (image_settled old call.Settle u (subst (λ (p : Past). Image (state_of p) u) e im))) (i.each (map_now old) (image_now old));
}

settle_leaves : (P : TreeMap → Type 0) (old mid : Past) → mid ≡ adds old call.Settle effect.Settled → Images P (state_of old) → LeavesOnly P old mid
settle_leaves P old mid e i = record {
  rest = (record { call = call.Settle; effect = effect.Settled }) ∷ [];
  first = ap (λ (p : Past). p.first) e;
  log = ap (λ (p : Past). p.log) e;
  each = (i, subst (Images P) (ap state_of e ∙ state_of-adds old call.Settle effect.Settled) (settled_images P old mid e i));
}

-- all that a stop left before, a stop leaves now
pub begun_leaves : (P : TreeMap → Type 0) (old new : Past) → Images P (state_of old) → Begun old new → LeavesOnly P old new
begun_leaves P old new i (begun.not_yet e) = record {
  rest = [];
  first = ap (λ (p : Past). p.first) e;
  log = ap (λ (p : Past). p.log) e ∙ sym (append-nil old.log);
  each = i;
}
begun_leaves P old new i (begun.settling_failed e) = record {
  rest = (record { call = call.Settle; effect = effect.Same }) ∷ [];
  first = ap (λ (p : Past). p.first) e;
  log = ap (λ (p : Past). p.log) e;
  each = (i, i);
}
begun_leaves P old new i (begun.settled_first {mid = m} e l) =
    spans_join P old m new (settle_leaves P old m e i) (looks_leave P m new l (settled_images P old m e i))

-- once it is settled, the moment is that of the map now
pub settled_moment : (old mid new : Past) → mid ≡ adds old call.Settle effect.Settled → LooksOnly mid new → state_of new ≡ settled_state (map_now old)
settled_moment old mid new e l =
    look_calms mid new l ∙ ap state_of e ∙ state_of-adds old call.Settle effect.Settled ∙ ap settled_state (state_now old)

pub settled_stored : (old mid new : Past) → mid ≡ adds old call.Settle effect.Settled → LooksOnly mid new → (map_now new ≡ map_now old) × (state_of new ≡ settled_state (map_now new))
settled_stored old mid new e l =
    let stored : state_of new ≡ settled_state (map_now old) = settled_moment old mid new e l in
    let same : map_now new ≡ map_now old = sym (state_now new) ∙ ap (λ (s : State). s.now) stored in
    (same, stored ∙ ap settled_state (sym same))
