-- Each call keeps the relation of core and tree, and a call that failed leaves the run partway.
use Rattle.std.proofs.Common.{ℕ, ◌≡◌, List, [], ◌∷◌, ◌++◌, refl, sym, ap, ◌∙◌, subst, IsTrue}
use Rattle.file_tree.specs.declared.call.Call.{Call}
use Rattle.file_tree.specs.declared.call.Change.TheVariants as change
use Rattle.file_tree.specs.declared.call.Effect.{Effect}
use Rattle.file_tree.specs.declared.call.Effect.TheVariants as effect
use Rattle.file_tree.specs.Seen.{Past, Happened, adds}
use Rattle.file_tree.specs.Causes.PutFails.{put_nothing, put_anything, put_taken}
use Rattle.file_tree.specs.Causes.MoveFails.{move_nothing, move_made}
use Rattle.file_tree.specs.Causes.TakeFails.{take_nothing, take_made}
use Rattle.file_tree.specs.Causes.{PutFails, MoveFails, TakeFails}
use Rattle.file_tree.specs.Images.{State, state_after, state_of, Images, LeavesOnly}
use Rattle.file_tree.proofs.ImageLaws.{state_of-adds}
use Rattle.file_tree.proofs.MomentLaws.{full-last, images_more}
use Rattle.journal_core.specs.declared.event.Event.{Event}
use Rattle.journal_core.specs.Table.{CoreState, allows, after}
use Rattle.journal_core.specs.Names.{Name}
use Rattle.journal_core.specs.Marks.{whole, any, is_any, is_whole}
use Rattle.journal_core.specs.Relation.{IsNear}
use Rattle.journal_core.specs.Calls.{Puts, Moves, before_put}
use Rattle.work_journal.specs.Wanted.{Wanted, path_of, IsPartway, IsApart, IsWork}
use Rattle.work_journal.specs.Keeps.{MaySweep, puts_broke, moves_broke, sweeps_broke, looks_broke, nothing_came, Keeps}
use Rattle.work_journal.specs.Keeps.Does.{lists, reads, settles, puts, moves, sweeps}
use Rattle.work_journal.specs.Laws.{EveryCallKept, EveryStepKept, EveryFailurePartway}
use Rattle.work_journal.proofs.Agreeing.{partway, changed_keeps, settled_keeps, put_agrees, put_left, moved_agrees, move_left, undone_left}
use Rattle.work_journal.proofs.Swept.{agrees_swept, swept_left}

pub call_kept : EveryCallKept
call_kept w a is c d s x lists k = k
call_kept w a is c d s x reads k = k
call_kept w a is c d s x settles k = settled_keeps w c s k
call_kept w a is c d s x (puts e n pu al near) k =
    changed_keeps w c (after c e) s (change.Put (path_of w n) (w.node n)) k (put_agrees w a c e n s.now pu al near k.exact) (λ t u sn l. put_left w a c e n (w.node n) t u pu al near sn l)
call_kept w a is c d s x (moves e f t mv al) k =
    changed_keeps w c (after c e) s (change.Move (path_of w f) (path_of w t)) k (moved_agrees is_whole whole refl refl w a c e f t s.now mv al k.exact) (λ v u sn l. move_left is_any any refl refl w a c e f t v u mv al sn l)
call_kept w a is c d s x (sweeps q may) k =
    changed_keeps w c c s (change.Take q) k (agrees_swept is_whole w is c q may s.now k.exact) (λ t u sn l. swept_left w is c q may t u sn l)

-- a span of one call, by what a stop leaves before it and after it
pub one_call : (w : Wanted) (p new : Past) (k : Call) (x : Effect) → new ≡ adds p k x
    → Images (IsPartway w) (state_of p) → Images (IsPartway w) (state_after (state_of p) x) → LeavesOnly (IsPartway w) p new
one_call w p new k x is before after_it = record {
  rest = (record { call = k; effect = x }) ∷ [];
  first = ap (λ (o : Past). o.first) is;
  log = ap (λ (o : Past). o.log) is;
  each = (before, after_it);
}

-- no call at all
pub no_call : (w : Wanted) (p new : Past) → new ≡ p → Images (IsPartway w) (state_of p) → LeavesOnly (IsPartway w) p new
no_call w p new is before = record {
  rest = [];
  first = ap (λ (o : Past). o.first) is;
  log = ap (λ (o : Past). o.log) is ∙ sym (append_nil p.log);
  each = before;
}
  where
    append_nil : (hs : List Happened) → hs ++ [] ≡ hs
    append_nil [] = refl
    append_nil (h ∷ hs) = ap (λ (l : List Happened). h ∷ l) (append_nil hs)

pub step_kept : EveryStepKept
step_kept w a is c d p x does k =
    let keeps = call_kept w a is c d (state_of p) x does k in
    record {
      moments = one_call w p (adds p x.call x.effect) x.call x.effect refl k.images keeps.images;
      keeps = subst (λ (s : State). Keeps w d s) (sym (state_of-adds p x.call x.effect)) keeps;
    }

-- ### Calls that failed

put_failed : (w : Wanted) → IsApart w → (c : CoreState) (s : State) → Keeps w c s → (e : Event) (n : Name) → Puts e n → IsTrue (allows c e) → IsNear c e
    → (x : Effect) → PutFails (path_of w n) x → Images (IsPartway w) (state_after s x)
put_failed w a c s k e n pu al near x put_nothing = k.images
put_failed w a c s k e n pu al near x (put_anything h) = images_more (IsPartway w) s (change.Put (path_of w n) h) k.images
    (λ u f. let r = full-last _ _ _ u f in partway w (after c e) u (put_left w a c e n h r.mid u pu al near (k.torn r.mid r.before) r.last))
put_failed w a c s k e n pu al near x put_taken = images_more (IsPartway w) s (change.Take (path_of w n)) k.images
    (λ u f. let r = full-last _ _ _ u f in partway w (before_put c e) u (undone_left w a c e n r.mid u pu al (k.torn r.mid r.before) r.last))

move_failed : (w : Wanted) → IsApart w → (c : CoreState) (s : State) → Keeps w c s → (e : Event) (f t : Name) → Moves e f t → IsTrue (allows c e)
    → (x : Effect) → MoveFails (path_of w f) (path_of w t) x → Images (IsPartway w) (state_after s x)
move_failed w a c s k e f t mv al x move_nothing = k.images
move_failed w a c s k e f t mv al x move_made = images_more (IsPartway w) s (change.Move (path_of w f) (path_of w t)) k.images
    (λ u l. let r = full-last _ _ _ u l in partway w (after c e) u (move_left is_any any refl refl w a c e f t r.mid u mv al (k.torn r.mid r.before) r.last))

sweep_failed : (w : Wanted) → IsWork w → (c : CoreState) (s : State) → Keeps w c s → (q : List ℕ) → MaySweep w.work c q
    → (x : Effect) → TakeFails q x → Images (IsPartway w) (state_after s x)
sweep_failed w is c s k q may x take_nothing = k.images
sweep_failed w is c s k q may x take_made = images_more (IsPartway w) s (change.Take q) k.images
    (λ u l. let r = full-last _ _ _ u l in partway w c u (swept_left w is c q may r.mid u (k.torn r.mid r.before) r.last))

pub failure_partway : EveryFailurePartway
failure_partway w a is c old new k (nothing_came e) = no_call w old new e k.images
failure_partway w a is c old new k (looks_broke call e) = one_call w old new call effect.Same e k.images k.images
failure_partway w a is c old new k (puts_broke e n pu al near f) = one_call w old new _ f.effect f.past k.images (put_failed w a c (state_of old) k e n pu al near f.effect f.can)
failure_partway w a is c old new k (moves_broke e s t mv al f) = one_call w old new _ f.effect f.past k.images (move_failed w a c (state_of old) k e s t mv al f.effect f.can)
failure_partway w a is c old new k (sweeps_broke q may f) = one_call w old new _ f.effect f.past k.images (sweep_failed w is c (state_of old) k q may f.effect f.can)
