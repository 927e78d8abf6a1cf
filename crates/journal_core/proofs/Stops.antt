-- The law of every stop, by one induction over the events: what is there now shows the core exactly,
-- all changes since the last settle show it torn, and each stop so far leaves a shape, in which what
-- the core counts as settled is whole.
use Rattle.std.proofs.Common.{◌≡◌, ℕ, ◌≤◌, Bool, false, cond, List, [], ◌∷◌, ◌++◌, length, take, refl, sym, subst, inl, inr, arith, IsTrue, take_all, length-append}
use Rattle.std.proofs.lemmas.Bool.{cases_Bool, cases_lt}
use Rattle.std.proofs.lemmas.List.{take-append-le}
use Rattle.journal_core.specs.declared.event.Event.{Event}
use Rattle.journal_core.specs.declared.event.Event.TheVariants.{Propose, Adopt, Stage, Settle, Commit, Move, Finish, Close, Clear, Renew, Replace}
use Rattle.journal_core.specs.Names.{Name, EachHasStep}
use Rattle.journal_core.specs.Table.{CoreState, allows, after}
use Rattle.journal_core.specs.Marks.{Mark, Marking, MarkChange, absent, first, whole, any, is_any, is_whole, changes_of, changed, all_changed, earlier}
use Rattle.journal_core.specs.Shapes.{HasShape}
use Rattle.journal_core.specs.Relation.{Shows}
use Rattle.journal_core.specs.Starts.{Shown}
use Rattle.journal_core.specs.Law.{NamedEvent, World, begun, with_changes, with_settle, is_settle, stepped, run, MayCome, MayRun, stopped, EveryStop, SettledWhole, EverySettledWhole, EveryRunShows}
use Rattle.journal_core.proofs.Settled.{shows_wider, settle_shows}
use Rattle.journal_core.proofs.Kept.{event_shows}
use Rattle.journal_core.proofs.Safe.{shows_settled, settled_kept}
use Rattle.journal_core.proofs.Ends.{shows_shape, shown_shows}

all_changed-append : (x : Mark) (m : Marking) (ds es : List MarkChange) → all_changed x m (ds ++ es) ≡ all_changed x (all_changed x m ds) es
all_changed-append x m [] es = refl
all_changed-append x m (d ∷ ds) es = all_changed-append x (changed x m d) ds es

whole_any : (x : Mark) → IsTrue (is_whole x) → IsTrue (is_any x)
whole_any absent h = cc
whole_any first h = cc
whole_any whole h = refl
whole_any any h = cc
whole_any earlier h = cc

-- an event that isn't a settle makes one change
one_change : (e : Event) (n : Name) → is_settle e ≡ false → (d : MarkChange) × (changes_of e n ≡ d ∷ [])
one_change Propose n h = (_, refl)
one_change Adopt n h = (_, refl)
one_change (Stage job step) n h = (_, refl)
one_change Settle n h = absurd (cc)
one_change (Commit job) n h = (_, refl)
one_change (Move job step) n h = (_, refl)
one_change (Finish part) n h = (_, refl)
one_change (Close part) n h = (_, refl)
one_change Clear n h = (_, refl)
one_change Renew n h = (_, refl)
one_change Replace n h = (_, refl)

-- what a stop leaves: a shape, and whole what the core counts as settled
record IsLeft (steps : List ℕ) (c : CoreState) (m : Marking) : Type 0 where
  shape : HasShape steps m
  settled_whole : SettledWhole steps c m

torn_left : (steps : List ℕ) (c : CoreState) (m : Marking) → Shows is_any steps c m → IsLeft steps c m
torn_left steps c m shows = record { shape = shows_shape steps c m shows; settled_whole = shows_settled is_any steps c m shows }

left_kept : (steps : List ℕ) (c : CoreState) (m : Marking) (e : Event) → IsTrue (allows c e) → is_settle e ≡ false → IsLeft steps c m → IsLeft steps (after c e) m
left_kept steps c m e al ns h = record { shape = h.shape; settled_whole = settled_kept steps c m e al ns h.settled_whole }

-- what holds of a world: both readings, and what each stop leaves
record Holds (steps : List ℕ) (v : World) : Type 0 where
  exact : Shows is_whole steps v.core v.now
  torn : Shows is_any steps v.core (all_changed any v.settled v.changes)
  stops : (kept : ℕ) → kept ≤ length v.changes → IsLeft steps v.core (stopped v kept)

-- the stops of a list of changes and one more are those of the list, and the one that keeps all
stops_more : (steps : List ℕ) (c : CoreState) (m : Marking) (ds : List MarkChange) (d : MarkChange)
    → ((kept : ℕ) → kept ≤ length ds → IsLeft steps c (all_changed any m (take kept ds)))
    → IsLeft steps c (all_changed any m (ds ++ d ∷ []))
    → (kept : ℕ) → kept ≤ length (ds ++ d ∷ []) → IsLeft steps c (all_changed any m (take kept (ds ++ d ∷ [])))
stops_more steps c m ds d before last kept l = elim (cases_lt (length ds) kept) [
  | inl more ↦ let all : length (ds ++ d ∷ []) ≤ kept = omega (arith, length-append ds (d ∷ [])) in
      subst (λ (xs : List MarkChange). IsLeft steps c (all_changed any m xs)) (sym (take_all kept (ds ++ d ∷ []) all)) last
  | inr few ↦ subst (λ (xs : List MarkChange). IsLeft steps c (all_changed any m xs)) (sym (take-append-le kept ds (d ∷ []) few)) (before kept few)
]

holds_changes : (steps : List ℕ) (v : World) (e : NamedEvent) → EachHasStep steps → Holds steps v → MayCome v.core e → is_settle e.event ≡ false
    → Holds steps (with_changes v e)
holds_changes steps v e some h may ns =
    let next = after v.core e.event in
    let torn_now : Shows is_any steps next (all_changed any v.settled (v.changes ++ changes_of e.event e.name)) =
    subst (λ (m : Marking). Shows is_any steps next m)
    (sym (all_changed-append any v.settled v.changes (changes_of e.event e.name)))
    (event_shows is_any any refl refl steps some v.core (all_changed any v.settled v.changes) e.event e.name h.torn may.allowed may.near may.named ns) in
    let one = one_change e.event e.name ns in
    let last : IsLeft steps next (all_changed any v.settled (v.changes ++ one.0 ∷ [])) =
    subst (λ (xs : List MarkChange). IsLeft steps next (all_changed any v.settled (v.changes ++ xs))) one.1 (torn_left steps _ _ torn_now) in
    let before : (kept : ℕ) → kept ≤ length v.changes → IsLeft steps next (all_changed any v.settled (take kept v.changes)) =
    λ kept l. left_kept steps v.core _ e.event may.allowed ns (h.stops kept l) in
    record {
      exact = event_shows is_whole whole refl refl steps some v.core v.now e.event e.name h.exact may.allowed may.near may.named ns;
      torn = torn_now;
      stops = subst (λ (xs : List MarkChange). (kept : ℕ) → kept ≤ length (v.changes ++ xs) → IsLeft steps next (all_changed any v.settled (take kept (v.changes ++ xs))))
          (sym one.1) (stops_more steps next v.settled v.changes one.0 before last);
    }

-- with no change since the last settle the only stop keeps what is there
stops_none : (steps : List ℕ) (c : CoreState) (m : Marking) → IsLeft steps c m
    → (kept : ℕ) → kept ≤ 0 → IsLeft steps c (all_changed any m (take kept []))
stops_none steps c m h kept l = subst (λ (xs : List MarkChange). IsLeft steps c (all_changed any m xs)) (sym (take_all kept [] (omega arith))) h

holds_settle : (steps : List ℕ) (v : World) → Holds steps v → Holds steps (with_settle v)
holds_settle steps v h =
    let exact_now : Shows is_whole steps (after v.core Settle) v.now = settle_shows steps v.core v.now h.exact in
    let torn_now : Shows is_any steps (after v.core Settle) v.now = shows_wider is_whole is_any whole_any steps _ _ exact_now in
    record { exact = exact_now; torn = torn_now; stops = stops_none steps _ v.now (torn_left steps _ _ torn_now) }

holds_stepped : (steps : List ℕ) (v : World) (e : NamedEvent) → EachHasStep steps → Holds steps v → MayCome v.core e → Holds steps (stepped v e)
holds_stepped steps v e some h may = elim (cases_Bool (is_settle e.event)) [
  | inl s ↦ subst (λ (b : Bool). Holds steps (cond b (with_settle v) (with_changes v e))) (sym s) (holds_settle steps v h)
  | inr ns ↦ subst (λ (b : Bool). Holds steps (cond b (with_settle v) (with_changes v e))) (sym ns) (holds_changes steps v e some h may ns)
]

holds_run : (steps : List ℕ) → EachHasStep steps → (v : World) (es : List NamedEvent) → Holds steps v → MayRun v es → Holds steps (run v es)
holds_run steps some v [] h may = h
holds_run steps some v (e ∷ es) h may = holds_run steps some (stepped v e) es (holds_stepped steps v e some h may.0) may.1

holds_begun : (steps : List ℕ) → EachHasStep steps → (m : Marking) (c : CoreState) → Shown steps m c → Holds steps (begun c m)
holds_begun steps some m c shown = record {
  exact = shown_shows is_whole steps m c some shown;
  torn = shown_shows is_any steps m c some shown;
  stops = stops_none steps c m (torn_left steps c m (shown_shows is_any steps m c some shown));
}

-- ### The laws

holds_all : (steps : List ℕ) → EachHasStep steps → (m : Marking) (c : CoreState) → Shown steps m c
    → (es : List NamedEvent) → MayRun (begun c m) es → Holds steps (run (begun c m) es)
holds_all steps some m c shown es may = holds_run steps some (begun c m) es (holds_begun steps some m c shown) may

pub every_stop_law : EveryStop
every_stop_law steps some m c shown es may kept l = ((holds_all steps some m c shown es may).stops kept l).shape

pub every_settled_whole : EverySettledWhole
every_settled_whole steps some m c shown es may kept l = ((holds_all steps some m c shown es may).stops kept l).settled_whole

pub every_run_shows : EveryRunShows
every_run_shows steps some m c shown es may =
    let h = holds_all steps some m c shown es may in record { now_shown = h.exact; torn_shown = h.torn }
