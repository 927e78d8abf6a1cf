-- What each name of a run holds, as the core sees it, and how calls and a stop change it.
use Rattle.std.specs.Prelude.{◌≡◌, ◌≢◌, ℕ, Bool, true, false, ◌==◌, if◌then◌else◌, List, [], ◌∷◌}
use Rattle.journal_core.specs.Names.{Name, plan_new, plan, temp, commit, fresh, final, target}
use Rattle.journal_core.specs.declared.event.Event.{Event}
use Rattle.journal_core.specs.declared.event.Event.TheVariants.{Propose, Adopt, Stage, Settle, Commit, Move, Finish, Close, Clear, Renew, Replace}

-- nothing; as it was before the run; the run's own content, whole; any content; or the run's own content, whole, as an earlier
-- program wrote it, which only the plan and the finished text can be
pub data Mark : Type 0 where
  absent : Mark
  first : Mark
  whole : Mark
  any : Mark
  earlier : Mark

-- ### Tests of one mark

abbrev pub is_absent : Mark → Bool
is_absent absent = true
is_absent first = false
is_absent whole = false
is_absent any = false
is_absent earlier = false

abbrev pub is_whole : Mark → Bool
is_whole absent = false
is_whole first = false
is_whole whole = true
is_whole any = false
is_whole earlier = false

-- it is there, and may hold anything
abbrev pub is_any : Mark → Bool
is_any absent = false
is_any first = false
is_any whole = true
is_any any = true
is_any earlier = true

-- it may be there, and then may hold anything
abbrev pub is_loose : Mark → Bool
is_loose absent = true
is_loose first = false
is_loose whole = true
is_loose any = true
is_loose earlier = true

-- it may be there, and then is whole
abbrev pub is_kept : Mark → Bool
is_kept absent = true
is_kept first = false
is_kept whole = true
is_kept any = false
is_kept earlier = true

-- it is the run's own content, whole, by this program or by an earlier one
abbrev pub is_own : Mark → Bool
is_own absent = false
is_own first = false
is_own whole = true
is_own any = false
is_own earlier = true

-- by an earlier one
abbrev pub is_earlier : Mark → Bool
is_earlier absent = false
is_earlier first = false
is_earlier whole = false
is_earlier any = false
is_earlier earlier = true

-- ### Markings

-- the mark of each name
pub record Marking : Type 0 where
  pub plan_new : Mark
  pub plan : Mark
  pub temp : ℕ → ℕ → Mark
  pub commit : ℕ → Mark
  pub fresh : ℕ → Mark
  pub final : ℕ → Mark
  pub target : ℕ → ℕ → Mark

abbrev pub mark : Marking → Name → Mark
mark m plan_new = m.plan_new
mark m plan = m.plan
mark m (temp job step) = m.temp job step
mark m (commit job) = m.commit job
mark m (fresh part) = m.fresh part
mark m (final part) = m.final part
mark m (target job step) = m.target job step

-- the same marks but for one
abbrev pub with_one : (ℕ → Mark) → ℕ → Mark → ℕ → Mark
with_one f j x = λ i. if i == j then x else f i

abbrev pub with_step : (ℕ → ℕ → Mark) → ℕ → ℕ → Mark → ℕ → ℕ → Mark
with_step f j k x = λ i. if i == j then with_one (f i) k x else f i

abbrev pub marked : Marking → Name → Mark → Marking
marked m plan_new x = record m { plan_new = x }
marked m plan x = record m { plan = x }
marked m (temp job step) x = record m { temp = with_step m.temp job step x }
marked m (commit job) x = record m { commit = with_one m.commit job x }
marked m (fresh part) x = record m { fresh = with_one m.fresh part x }
marked m (final part) x = record m { final = with_one m.final part x }
marked m (target job step) x = record m { target = with_step m.target job step x }

-- what one call changes
pub data MarkChange : Type 0 where
  put : Name → MarkChange
  rename : Name → Name → MarkChange
  remove : Name → MarkChange

-- the marking after a change, where what is put is marked so; what isn't there can't be renamed, and
-- then nothing changes
abbrev pub changed : Mark → Marking → MarkChange → Marking
changed x m (put n) = marked m n x
changed x m (rename a b) = if is_absent (mark m a) then m else marked (marked m b (mark m a)) a absent
changed x m (remove n) = marked m n absent

abbrev pub all_changed : Mark → Marking → List MarkChange → Marking
all_changed x m [] = m
all_changed x m (d ∷ ds) = all_changed x (changed x m d) ds

-- what an event changes; a clearing is given the name that it removes
abbrev pub changes_of : Event → Name → List MarkChange
changes_of Propose n = put plan_new ∷ []
changes_of Adopt n = rename plan_new plan ∷ []
changes_of (Stage job step) n = put (temp job step) ∷ []
changes_of Settle n = []
changes_of (Commit job) n = put (commit job) ∷ []
changes_of (Move job step) n = rename (temp job step) (target job step) ∷ []
changes_of (Finish part) n = put (fresh part) ∷ []
changes_of (Close part) n = rename (fresh part) (final part) ∷ []
changes_of Clear n = remove n ∷ []
changes_of Renew n = put (fresh 3) ∷ []
changes_of Replace n = rename (fresh 3) (final 3) ∷ []

-- ### By name

-- the name that is marked, and the others
abbrev pub EveryMarkHere : Type 0
EveryMarkHere = (m : Marking) (n : Name) (x : Mark) → mark (marked m n x) n ≡ x

abbrev pub EveryMarkOther : Type 0
EveryMarkOther = (m : Marking) (n o : Name) (x : Mark) → o ≢ n → mark (marked m n x) o ≡ mark m o
