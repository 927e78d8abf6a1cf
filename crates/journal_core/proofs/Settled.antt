-- A settle keeps the relation in its exact reading; and the exact reading implies every wider one.
use Rattle.std.proofs.Common.{◌≡◌, ℕ, ◌<◌, Bool, true, cond, eqb, List, map, get_or, refl, sym, ◌∙◌, ap, subst, inl, inr, arith, IsTrue, eq-eqb, ne_eqb, false}
use Rattle.std.proofs.lemmas.Bool.{cases_eq}
use Rattle.std.proofs.lemmas.List.{length-map}
use Rattle.journal_core.specs.declared.event.Event.TheVariants.{Settle}
use Rattle.journal_core.specs.declared.event.JobState.{JobState}
use Rattle.journal_core.specs.declared.event.JobState.TheVariants.{Fresh, Staged, Ready, Going, Done}
use Rattle.journal_core.specs.Table.{CoreState, after, settled_job, is_done}
use Rattle.journal_core.specs.Marks.{Mark, Marking, absent, first, whole, any, is_whole, earlier}
use Rattle.journal_core.specs.Shapes.{IsLeft}
use Rattle.journal_core.specs.Relation.{ahead, EachDone, Slot, free, staged, safe, moved, SlotShows, IsPut, JobShows, IsEarly, IsLive, IsFinishing, Shows, empty, proposed, settled, running, finishing, closing, closed, renewing}
use Rattle.journal_core.proofs.Rows.{settled_at, settled_done, ahead-less}

-- ### Wider readings

slot_wider : (p q : Mark → Bool) → ((x : Mark) → IsTrue (p x) → IsTrue (q x))
    → (s : Slot) (t g : Mark) → SlotShows p s t g → SlotShows q s t g
slot_wider p q wide free t g h = h
slot_wider p q wide staged t g h = record { temp_put = wide t h.temp_put; target_first = h.target_first }
slot_wider p q wide safe t g h = h
slot_wider p q wide moved t g h = h

live_wider : (p q : Mark → Bool) → ((x : Mark) → IsTrue (p x) → IsTrue (q x))
    → (steps : List ℕ) (ss : List JobState) (m : Marking) → IsLive p steps ss m → IsLive q steps ss m
live_wider p q wide steps ss m h = record {
  same_length = h.same_length;
  plan_new = h.plan_new;
  plan = h.plan;
  finished = h.finished;
  jobs = λ j l. record {
    fit = (h.jobs j l).fit;
    commit_shows = (h.jobs j l).commit_shows;
    slots = λ k b. slot_wider p q wide _ _ _ ((h.jobs j l).slots k b);
  };
  window = h.window;
  fresh = h.fresh;
  lists = h.lists;
  end_last = h.end_last;
}

pub shows_wider : (p q : Mark → Bool) → ((x : Mark) → IsTrue (p x) → IsTrue (q x))
    → (steps : List ℕ) (c : CoreState) (m : Marking) → Shows p steps c m → Shows q steps c m
shows_wider p q wide steps c m (empty early loose) = empty early loose
shows_wider p q wide steps c m (proposed early is_put) = proposed early (wide _ is_put)
shows_wider p q wide steps c m (settled early is_whole) = settled early is_whole
shows_wider p q wide steps c m (running live) = running (live_wider p q wide _ _ _ live)
shows_wider p q wide steps c m (finishing h) = finishing (record {
  live = live_wider p q wide _ _ _ h.live;
  all_done = h.all_done;
  some_put = h.some_put;
  at_most = h.at_most;
  are_put = λ i l. wide _ (h.are_put i l);
  all_put = h.all_put;
  are_settled = h.are_settled;
})
shows_wider p q wide steps c m (closing h) = closing (record {
  live = live_wider p q wide _ _ _ h.live;
  all_done = h.all_done;
  some_moved = h.some_moved;
  at_most = h.at_most;
  gone = h.gone;
  there = h.there;
  left = h.left;
})
shows_wider p q wide steps c m (closed done shape) = closed done shape
shows_wider p q wide steps c m (renewing done shape text kept) = renewing done shape (λ t. wide _ (text t)) kept

-- ### A settle

pub whole_is : (x : Mark) → IsTrue (is_whole x) → x ≡ whole
whole_is absent h = cc
whole_is first h = cc
whole_is whole h = refl
whole_is any h = cc
whole_is earlier h = cc

-- what is put and whole is safe
put_safe : (t g : Mark) → IsPut is_whole t g → IsLeft t g
put_safe t g h = record { temp_whole = whole_is t h.temp_put; target_first = h.target_first }

row_settled : (n : ℕ) (s : JobState) (c : Mark) (t g : ℕ → Mark) → JobShows is_whole n s c t g → JobShows is_whole n (settled_job s) c t g
row_settled n (Fresh k) c t g h = h
row_settled n Staged c t g h = record { fit = refl; commit_shows = h.commit_shows; slots = λ k l. put_safe (t k) (g k) (h.slots k l) }
row_settled n Ready c t g h = h
row_settled n (Going k) c t g h = h
row_settled n Done c t g h = h

each_settled : (ss : List JobState) → EachDone ss → EachDone (map settled_job ss)
each_settled ss done j = settled_at ss j ∙ ap settled_job (done j)

live_settled : (steps : List ℕ) (ss : List JobState) (m : Marking) → IsLive is_whole steps ss m → IsLive is_whole steps (map settled_job ss) m
live_settled steps ss m h = record {
  same_length = length-map ss settled_job ∙ h.same_length;
  plan_new = h.plan_new;
  plan = h.plan;
  finished = h.finished;
  jobs = λ j l. subst (λ (x : JobState). JobShows is_whole (get_or steps j 0) x (m.commit j) (m.temp j) (m.target j))
      (sym (settled_at ss j)) (row_settled _ _ _ _ _ (h.jobs j l));
  window = λ j k st there.
      let was : ahead ss j < 64 = h.window j k st there in
      let fewer = ahead-less ss (map settled_job ss) (λ i d. subst (λ (x : JobState). IsTrue (is_done x)) (sym (settled_at ss i)) (settled_done _ d)) j in
      omega arith;
  fresh = h.fresh;
  lists = h.lists;
  end_last = elim h.end_last [ inl done ↦ inl (each_settled ss done) | inr none ↦ inr none ];
}

early_settled : (steps : List ℕ) (ss : List JobState) (m : Marking) → IsEarly steps ss m → IsEarly steps (map settled_job ss) m
early_settled steps ss m h = record {
  same_length = length-map ss settled_job ∙ h.same_length;
  none_begun = λ j l. settled_at ss j ∙ ap settled_job (h.none_begun j l);
  rest = h.rest;
}

-- the four texts are settled once all four are put
finishing_settled : (steps : List ℕ) (ss : List JobState) (m : Marking) (put_parts : ℕ) (is_settled : Bool)
    → IsFinishing is_whole steps ss m put_parts is_settled
    → IsFinishing is_whole steps (map settled_job ss) m put_parts (cond (eqb put_parts 4) true is_settled)
finishing_settled steps ss m put_parts is_settled h = elim (cases_eq put_parts 4) [
  | inl e ↦ subst (λ (b : Bool). IsFinishing is_whole steps (map settled_job ss) m put_parts (cond b true is_settled)) (sym (eq-eqb put_parts 4 e))
      (record {
        live = live_settled steps ss m h.live;
        all_done = each_settled ss h.all_done;
        some_put = h.some_put;
        at_most = h.at_most;
        are_put = h.are_put;
        all_put = λ _. e;
        are_settled = λ _ i l. whole_is _ (h.are_put i (let l' : i < put_parts = omega arith in l'));
      })
  | inr o ↦ subst (λ (b : Bool). IsFinishing is_whole steps (map settled_job ss) m put_parts (cond b true is_settled)) (sym (ne_eqb put_parts 4 o))
      (record {
        live = live_settled steps ss m h.live;
        all_done = each_settled ss h.all_done;
        some_put = h.some_put;
        at_most = h.at_most;
        are_put = h.are_put;
        all_put = h.all_put;
        are_settled = h.are_settled;
      })
]

-- in the exact reading a settle makes staged jobs ready, and changes no mark
pub settle_shows : (steps : List ℕ) (c : CoreState) (m : Marking) → Shows is_whole steps c m → Shows is_whole steps (after c Settle) m
settle_shows steps c m (empty early loose) = empty (early_settled _ _ _ early) loose
settle_shows steps c m (proposed early is_put) = settled (early_settled _ _ _ early) (whole_is _ is_put)
settle_shows steps c m (settled early is_whole) = settled (early_settled _ _ _ early) is_whole
settle_shows steps c m (running live) = running (live_settled _ _ _ live)
settle_shows steps c m (finishing h) = finishing (finishing_settled _ _ _ _ _ h)
settle_shows steps c m (closing h) = closing (record {
  live = live_settled _ _ _ h.live;
  all_done = each_settled _ h.all_done;
  some_moved = h.some_moved;
  at_most = h.at_most;
  gone = h.gone;
  there = h.there;
  left = h.left;
})
settle_shows steps c m (closed done shape) = closed (each_settled _ done) shape
settle_shows steps c m (renewing {put_text = true} {settled_text = w} done shape text kept) = renewing (each_settled _ done) shape text (λ t f. whole_is _ (text t))
settle_shows steps c m (renewing {put_text = false} {settled_text = w} done shape text kept) = renewing (each_settled _ done) shape text kept
