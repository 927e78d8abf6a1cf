-- A tree that agrees with a core goes on agreeing after an event, as it is now and as a stop may leave it.
use Rattle.std.proofs.Common.{◌≡◌, ◌≢◌, List, [], ◌∷◌, ◌++◌, refl, sym, arith, subst, Bool, IsTrue, take_all}
use Rattle.std.specs.FinMap as fin
use Rattle.file_tree.specs.declared.node.Node.{Node}
use Rattle.file_tree.specs.declared.call.Change.{Change}
use Rattle.file_tree.specs.declared.call.Change.TheVariants as change
use Rattle.file_tree.specs.declared.call.Effect.TheVariants as effect
use Rattle.file_tree.specs.Trees.{TreeMap, after_change, moved}
use Rattle.file_tree.specs.Images.{State, state_after, Leaves, Full}
use Rattle.file_tree.specs.Images.Leaves.{whole as leaf_whole}
use Rattle.file_tree.specs.Images.Full.{none as full_none}
use Rattle.file_tree.proofs.MomentLaws.{full-last, images_more}
use Rattle.journal_core.specs.declared.event.Event.{Event}
use Rattle.journal_core.specs.declared.event.Event.TheVariants.{Settle}
use Rattle.journal_core.specs.Table.{CoreState, allows, after}
use Rattle.journal_core.specs.Names.{Name, plan}
use Rattle.journal_core.specs.Marks.{Mark, Marking, mark, marked, absent, first, whole, any, is_any, is_whole, earlier}
use Rattle.journal_core.specs.Relation.{IsNear, Shows}
use Rattle.journal_core.specs.Calls.{Puts, Moves, before_put, puts_plan, puts_step, puts_mark, puts_text, puts_again, moves_plan, moves_step, moves_text, moves_again}
use Rattle.journal_core.proofs.Settled.{shows_wider, settle_shows}
use Rattle.journal_core.proofs.Events.{event_plain}
use Rattle.journal_core.proofs.Ends.{shows_shape}
use Rattle.journal_core.proofs.Calls.{put_name, move_names, source_whole, put_undone}
use Rattle.work_journal.specs.Wanted.{Wanted, path_of, IsPartway, IsApart}
use Rattle.work_journal.specs.Keeps.{Agrees, Keeps}
use Rattle.work_journal.proofs.Changes.{has_torn, has_put, has_moved, has_taken}

pub partway : (w : Wanted) (c : CoreState) (u : TreeMap) → Agrees w is_any c u → IsPartway w u
partway w c u s = record { marking = s.marking; shape = shows_shape w.steps c s.marking s.shows; has = s.has }

whole_any : (x : Mark) → IsTrue (is_whole x) → IsTrue (is_any x)
whole_any absent h = cc
whole_any first h = cc
whole_any whole h = refl
whole_any any h = cc
whole_any earlier h = cc

pub wider : (w : Wanted) (c : CoreState) (t : TreeMap) → Agrees w is_whole c t → Agrees w is_any c t
wider w c t s = record { marking = s.marking; shows = shows_wider is_whole is_any whole_any w.steps c s.marking s.shows; has = s.has }

pub put_event : (p : Mark → Bool) (x : Mark) → IsTrue (p x) → IsTrue (is_any x) → (w : Wanted) → IsApart w → (c : CoreState) (m : Marking) (e : Event) (n : Name) → Puts e n → IsTrue (allows c e) → IsNear c e → Shows p w.steps c m → Shows p w.steps (after c e) (marked m n x)
put_event p x px ax w a c m e n puts_plan al near s = event_plain p x px ax w.steps a.some c m e plan s al near tt refl
put_event p x px ax w a c m e n (puts_step {job = j} {step = k}) al near s = event_plain p x px ax w.steps a.some c m e plan s al near tt refl
put_event p x px ax w a c m e n (puts_mark {job = j}) al near s = event_plain p x px ax w.steps a.some c m e plan s al near tt refl
put_event p x px ax w a c m e n (puts_text {part = i}) al near s = event_plain p x px ax w.steps a.some c m e plan s al near tt refl
put_event p x px ax w a c m e n puts_again al near s = event_plain p x px ax w.steps a.some c m e plan s al near tt refl

pub move_event : (p : Mark → Bool) (x : Mark) → IsTrue (p x) → IsTrue (is_any x) → (w : Wanted) → IsApart w → (c : CoreState) (m : Marking) (e : Event) (a b : Name) → Moves e a b → IsTrue (allows c e) → Shows p w.steps c m → Shows p w.steps (after c e) (marked (marked m b (mark m a)) a absent)
move_event p x px ax w a c m e s t moves_plan al sh = event_plain p x px ax w.steps a.some c m e plan sh al tt tt refl
move_event p x px ax w a c m e s t (moves_step {job = j} {step = k}) al sh = event_plain p x px ax w.steps a.some c m e plan sh al tt tt refl
move_event p x px ax w a c m e s t (moves_text {part = i}) al sh = event_plain p x px ax w.steps a.some c m e plan sh al tt tt refl
move_event p x px ax w a c m e s t moves_again al sh = event_plain p x px ax w.steps a.some c m e plan sh al tt tt refl

names_apart : (e : Event) (s t : Name) → Moves e s t → s ≢ t
names_apart e s t moves_plan h = cc
names_apart e s t moves_step h = cc
names_apart e s t moves_text h = cc
names_apart e s t moves_again h = cc

one_node : (w : Wanted) → IsApart w → (e : Event) (s t : Name) → Moves e s t → w.node s ≡ w.node t
one_node w a e s t moves_plan = a.plans
one_node w a e s t (moves_step {job = j} {step = k}) = a.temps j k
one_node w a e s t (moves_text {part = i}) = a.texts i
one_node w a e s t moves_again = a.texts 3

pub moved_agrees : (p : Mark → Bool) (x : Mark) → IsTrue (p x) → IsTrue (is_any x) → (w : Wanted) → IsApart w → (c : CoreState) (e : Event) (a b : Name) (t : TreeMap) → Moves e a b → IsTrue (allows c e) → Agrees w p c t → Agrees w p (after c e) (moved (path_of w a) (path_of w b) t)
moved_agrees p x px ax w apart c e a b t mv al s =
    let src = source_whole p w.steps c s.marking e a b s.shows mv al in
    let ns = move_names p w.steps c s.marking e a b s.shows mv al in
    record {
      marking = marked (marked s.marking b (mark s.marking a)) a absent;
      shows = move_event p x px ax w apart c s.marking e a b mv al s.shows;
      has = has_moved w apart s.marking t a b (names_apart e a b mv) ns.from_name ns.to_name (one_node w apart e a b mv) src s.has;
    }

pub move_left : (p : Mark → Bool) (x : Mark) → IsTrue (p x) → IsTrue (is_any x) → (w : Wanted) → IsApart w → (c : CoreState) (e : Event) (a b : Name) (t u : TreeMap) → Moves e a b → IsTrue (allows c e) → Agrees w p c t → Leaves (change.Move (path_of w a) (path_of w b)) t u → Agrees w p (after c e) u
move_left p x px ax w apart c e a b t u mv al s leaf_whole = moved_agrees p x px ax w apart c e a b t mv al s

pub put_agrees : (w : Wanted) → IsApart w → (c : CoreState) (e : Event) (n : Name) (t : TreeMap) → Puts e n → IsTrue (allows c e) → IsNear c e → Agrees w is_whole c t → Agrees w is_whole (after c e) (fin.insert t (path_of w n) (w.node n))
put_agrees w a c e n t pu al near s = record {
  marking = marked s.marking n whole;
  shows = put_event is_whole whole refl refl w a c s.marking e n pu al near s.shows;
  has = has_put w a s.marking t n (put_name is_whole w.steps c s.marking e n s.shows pu al) s.has;
}

pub put_left : (w : Wanted) → IsApart w → (c : CoreState) (e : Event) (n : Name) (h : Node) (t u : TreeMap) → Puts e n → IsTrue (allows c e) → IsNear c e → Agrees w is_any c t → Leaves (change.Put (path_of w n) h) t u → Agrees w is_any (after c e) u
put_left w a c e n h t u pu al near s l = record {
  marking = marked s.marking n any;
  shows = put_event is_any any refl refl w a c s.marking e n pu al near s.shows;
  has = has_torn w a s.marking t n h u (put_name is_any w.steps c s.marking e n s.shows pu al) s.has l;
}

-- one change, which goes on from what agreed to what agrees
pub changed_keeps : (w : Wanted) (c d : CoreState) (s : State) (x : Change) → Keeps w c s → Agrees w is_whole d (after_change s.now x) → ((t u : TreeMap) → Agrees w is_any c t → Leaves x t u → Agrees w is_any d u) → Keeps w d (state_after s (effect.Changed x))
changed_keeps w c d s x k now left =
    let torn : (u : TreeMap) → Full s.settled (s.changes ++ x ∷ []) u → Agrees w is_any d u = (λ (u : TreeMap) (f : Full s.settled (s.changes ++ x ∷ []) u). let r = full-last s.settled s.changes x u f in left r.mid u (k.torn r.mid r.before) r.last) in
    record {
      exact = now;
      torn = torn;
      images = images_more (IsPartway w) s x k.images (λ u f. partway w d u (torn u f));
    }

full-none : (t u : TreeMap) → Full t [] u → u ≡ t
full-none t u full_none = refl

pub settled_keeps : (w : Wanted) (c : CoreState) (s : State) → Keeps w c s → Keeps w (after c Settle) (state_after s effect.Settled)
settled_keeps w c s k =
    let now : Agrees w is_whole (after c Settle) s.now = record { marking = k.exact.marking; shows = settle_shows w.steps c k.exact.marking k.exact.shows; has = k.exact.has } in
    let torn : (u : TreeMap) → Full s.now [] u → Agrees w is_any (after c Settle) u = (λ (u : TreeMap) (f : Full s.now [] u). subst (λ (y : TreeMap). Agrees w is_any (after c Settle) y) (sym (full-none s.now u f)) (wider w (after c Settle) s.now now)) in
    record {
      exact = now;
      torn = torn;
      images = record { each = λ u im. partway w (after c Settle) u (torn u (subst (λ (l : List Change). Full s.now l u) (take_all im.kept [] (omega arith)) im.full)) };
    }

-- a put that left nothing
pub undone_left : (w : Wanted) → IsApart w → (c : CoreState) (e : Event) (n : Name) (t u : TreeMap) → Puts e n → IsTrue (allows c e) → Agrees w is_any c t → Leaves (change.Take (path_of w n)) t u → Agrees w is_any (before_put c e) u
undone_left w a c e n t u pu al s leaf_whole = record {
  marking = marked s.marking n absent;
  shows = put_undone is_any w.steps c s.marking e n s.shows pu al;
  has = has_taken w a s.marking t n (put_name is_any w.steps c s.marking e n s.shows pu al) s.has;
}
