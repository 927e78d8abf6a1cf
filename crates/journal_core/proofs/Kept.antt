-- Each event but a settle keeps the relation, in either reading: a rename's source is whole, so it is there.
use Rattle.std.proofs.Common.{◌≡◌, ℕ, Bool, false, List, refl, sym, subst}
use Rattle.journal_core.specs.declared.event.Event.TheVariants.{Propose, Adopt, Stage, Settle, Commit, Move, Finish, Close, Clear, Renew, Replace}
use Rattle.journal_core.specs.Names.{Name, plan_new, plan, temp, target, fresh, final}
use Rattle.journal_core.specs.Table.{CoreState}
use Rattle.journal_core.specs.Marks.{Mark, Marking, rename, absent, first, whole, any, is_absent, mark, marked, changed, earlier}
use Rattle.journal_core.specs.Relation.{Shows}
use Rattle.journal_core.specs.Law.{EveryEventKept}
use Rattle.journal_core.specs.Calls.{moves_plan, moves_step, moves_text, moves_again}
use Rattle.journal_core.proofs.Events.{event_plain}
use Rattle.journal_core.proofs.Calls.{source_whole}

whole_there : (x : Mark) → x ≡ whole → is_absent x ≡ false
whole_there absent h = cc
whole_there first h = cc
whole_there whole h = refl
whole_there any h = cc
whole_there earlier h = cc

-- what is there is renamed
pub renamed : (x : Mark) (m : Marking) (a b : Name) → mark m a ≡ whole → changed x m (rename a b) ≡ marked (marked m b (mark m a)) a absent
renamed x m a b e = rw (whole_there (mark m a) e) refl

renamed_shows : (p : Mark → Bool) (x : Mark) (steps : List ℕ) (c : CoreState) (m : Marking) (a b : Name) → mark m a ≡ whole
    → Shows p steps c (marked (marked m b (mark m a)) a absent) → Shows p steps c (changed x m (rename a b))
renamed_shows p x steps c m a b e h = subst (λ (n : Marking). Shows p steps c n) (sym (renamed x m a b e)) h

pub event_shows : EveryEventKept
event_shows p x px ax steps some c m Propose n s al near named ns = event_plain p x px ax steps some c m Propose n s al near named ns
event_shows p x px ax steps some c m Adopt n s al near named ns =
    renamed_shows p x steps _ m plan_new plan (source_whole p steps c m Adopt plan_new plan s moves_plan al) (event_plain p x px ax steps some c m Adopt n s al near named ns)
event_shows p x px ax steps some c m (Stage job step) n s al near named ns = event_plain p x px ax steps some c m (Stage job step) n s al near named ns
event_shows p x px ax steps some c m Settle n s al near named ns = event_plain p x px ax steps some c m Settle n s al near named ns
event_shows p x px ax steps some c m (Commit job) n s al near named ns = event_plain p x px ax steps some c m (Commit job) n s al near named ns
event_shows p x px ax steps some c m (Move job step) n s al near named ns =
    renamed_shows p x steps _ m (temp job step) (target job step) (source_whole p steps c m (Move job step) (temp job step) (target job step) s moves_step al)
    (event_plain p x px ax steps some c m (Move job step) n s al near named ns)
event_shows p x px ax steps some c m (Finish part) n s al near named ns = event_plain p x px ax steps some c m (Finish part) n s al near named ns
event_shows p x px ax steps some c m (Close part) n s al near named ns =
    renamed_shows p x steps _ m (fresh part) (final part) (source_whole p steps c m (Close part) (fresh part) (final part) s moves_text al)
    (event_plain p x px ax steps some c m (Close part) n s al near named ns)
event_shows p x px ax steps some c m Clear n s al near named ns = event_plain p x px ax steps some c m Clear n s al near named ns
event_shows p x px ax steps some c m Renew n s al near named ns = event_plain p x px ax steps some c m Renew n s al near named ns
event_shows p x px ax steps some c m Replace n s al near named ns =
    renamed_shows p x steps _ m (fresh 3) (final 3) (source_whole p steps c m Replace (fresh 3) (final 3) s moves_again al)
    (event_plain p x px ax steps some c m Replace n s al near named ns)
