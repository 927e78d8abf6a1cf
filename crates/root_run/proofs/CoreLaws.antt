-- The calls of a run lead the core that the tree shows: the first settle and looks leave it as it is, and then come its own steps.
use Rattle.std.proofs.Common.{◌≡◌, ℕ, zero, suc, ◌≤◌, ◌^◌, Bool, true, false, if◌then◌else◌, List, [], ◌∷◌, ◌++◌, length, map, get_or, replicate, refl, sym, ap, subst, ◌∙◌, append_assoc, Result}
use Rattle.std.specs.Prelude.{OnOk}
use Rattle.std.specs.List.{range_with_len}
use Rattle.std.proofs.lemmas.List.{append-nil, map-append}
use Rattle.file_tree.specs.declared.call.Call.{Call}
use Rattle.file_tree.specs.declared.call.Call.TheVariants as call
use Rattle.file_tree.specs.declared.call.Effect.TheVariants as effect
use Rattle.dw_base.specs.declared.fault.Refusal.{Refusal}
use Rattle.file_tree.specs.Seen.{Past, Happened}
use Rattle.file_tree.specs.Trees.{TreeMap, keys_below}
use Rattle.job_types.specs.Settings.{Settings}
use Rattle.journal_core.specs.declared.event.Event.TheVariants.{Settle}
use Rattle.journal_core.specs.declared.event.Phase.TheVariants.{Closed}
use Rattle.journal_core.specs.declared.event.Phase.TheVariants.{Empty}
use Rattle.journal_core.specs.declared.event.JobState.{JobState}
use Rattle.journal_core.specs.declared.event.JobState.TheVariants.{Fresh, Going, Done}
use Rattle.journal_core.specs.Marks.{Marking, is_any, is_earlier}
use Rattle.journal_core.specs.Shapes.{none_there}
use Rattle.journal_core.specs.Starts.{shown_core, shown_states, shown_state, least_there}
use Rattle.journal_core.specs.Table.{CoreState, after, settled_job, new_core, resumed_core, closed_core, old_core}
use Rattle.root_plan.specs.Verdicts.{JudgeView}
use Rattle.work_journal.specs.Laws.{looked}
use Rattle.work_journal.specs.Work.{presence}
use Rattle.work_journal.specs.Runs.{Runs, Ran}
use Rattle.work_journal.specs.Runs.{Runs as runs, RunsOne as one}
use Rattle.work_journal.proofs.LookLaws.{looks_ran}
use Rattle.work_journal.proofs.RunLaws.{run_one}
use Rattle.root_run.specs.Begun.{Begun}
use Rattle.root_run.specs.Begun.{Begun as begun}
use Rattle.root_run.specs.Cores.{LeadsTo, ShowsCore, is_old_end}
use Rattle.root_run.specs.Cores.{ShowsCore as shows}
use Rattle.root_run.specs.Wholes.{steps_of}

abbrev calls : List Happened → List Call
calls hs = map (λ (h : Happened). h.call) hs

runs-join : (work : List ℕ) (c d e : CoreState) (ks js : List Call) → Runs work c ks d → Runs work d js e → Runs work c (ks ++ js) e
runs-join work c d e ks js runs.none r = r
runs-join work c d e ks js (runs.more {d = m} {k = k} {ks = rest} first then_rest) r = runs.more first (runs-join work m d e rest js then_rest r)

-- what leaves a core as it is
pub record Stays (work : List ℕ) (c : CoreState) (old new : Past) : Type 0 where
  pub rest : List Happened
  pub first : new.first ≡ old.first
  pub log : new.log ≡ old.log ++ rest
  pub runs : Runs work c (calls rest) c

pub begun-stays : (work : List ℕ) (c : CoreState) (old new : Past) → after c Settle ≡ c → Begun old new → Stays work c old new
begun-stays work c old new calm (begun.not_yet e) = record {
  rest = [];
  first = ap (λ (p : Past). p.first) e;
  log = ap (λ (p : Past). p.log) e ∙ sym (append-nil old.log);
  runs = runs.none;
}
begun-stays work c old new calm (begun.settling_failed e) = record {
  rest = (record { call = call.Settle; effect = effect.Same }) ∷ [];
  first = ap (λ (p : Past). p.first) e;
  log = ap (λ (p : Past). p.log) e;
  runs = runs.more one.settles (subst (λ (x : CoreState). Runs work x [] c) (sym calm) runs.none);
}
begun-stays work c old new calm (begun.settled_first {mid = m} e l) =
    let ran : Ran work c m c new looked = looks_ran work c m new looked l in record {
      rest = (record { call = call.Settle; effect = effect.Settled }) ∷ ran.rest;
      first = ran.first ∙ ap (λ (p : Past). p.first) e;
      log = ran.log ∙ ap (λ (hs : List Happened). hs ++ ran.rest) (ap (λ (p : Past). p.log) e)
          ∙ append_assoc old.log ((record { call = call.Settle; effect = effect.Settled }) ∷ []) ran.rest;
      runs = runs.more one.settles (subst (λ (x : CoreState). Runs work x (calls ran.rest) c) (sym calm)
          (subst (λ (x : CoreState). Runs work c (calls ran.rest) x) ran.ends ran.runs));
    }

-- ### A settle changes nothing of the core that a tree shows

state-calm : (a b : Bool) (least : ℕ) → settled_job (if a then (if b then Done else Going least) else Fresh 0) ≡ (if a then (if b then Done else Going least) else Fresh 0)
state-calm true true least = refl
state-calm true false least = refl
state-calm false b least = refl

states-calm : (f : ℕ → JobState) → ((j : ℕ) → settled_job (f j) ≡ f j) → (ns : List ℕ) → map settled_job (map f ns) ≡ map f ns
states-calm f each [] = refl
states-calm f each (n ∷ ns) = ap (λ (x : JobState). x ∷ map settled_job (map f ns)) (each n) ∙ ap (λ (xs : List JobState). f n ∷ xs) (states-calm f each ns)

new-calm : (n : ℕ) → map settled_job (replicate n (Fresh 0)) ≡ replicate n (Fresh 0)
new-calm zero = refl
new-calm (suc n) = ap (λ (xs : List JobState). Fresh 0 ∷ xs) (new-calm n)

abbrev core_if : Bool → Bool → Bool → List ℕ → List JobState → CoreState
core_if a e b steps states = if a then (if e then old_core else closed_core) else (if b then resumed_core steps states else new_core steps)

core-by : (a e b : Bool) (steps : List ℕ) (states : List JobState) → map settled_job states ≡ states → after (core_if a e b steps states) Settle ≡ core_if a e b steps states
core-by true true b steps states same = refl
core-by true false b steps states same = refl
core-by false e true steps states same = ap (resumed_core steps) same
core-by false e false steps states same = ap (λ (xs : List JobState). record { phase = Empty; steps = steps; states = xs }) (new-calm (length steps))

pub core-calm : (steps : List ℕ) (m : Marking) → after (shown_core steps m) Settle ≡ shown_core steps m
core-calm steps m = core-by (is_any (m.final 3)) (is_earlier (m.final 3)) (is_any m.plan) steps (shown_states steps m)
    (states-calm (λ j. shown_state (get_or steps j 0) (m.commit j) (m.temp j))
    (λ j. state-calm (is_any (m.commit j)) (none_there (m.temp j) (get_or steps j 0)) (least_there (m.temp j) (get_or steps j 0)))
    (range_with_len 0 (length steps)))

pub shows-calm : (start : TreeMap) (root work : List ℕ) (s : Settings) (v : JudgeView) (fails : List ℕ → List ℕ → Refusal → Type 0) (t : TreeMap) (c : CoreState)
    → ShowsCore start root work s v fails t c → after c Settle ≡ c
shows-calm start root work s v fails t c (shows.by_plan {p} planned partway) = core-calm (steps_of p) (presence (is_old_end t work) work (keys_below t root))
shows-calm start root work s v fails t c (shows.by_none u none) = refl

-- and then its own steps
pub leads : {A E : Type 0} (work : List ℕ) (c d : CoreState) (old mid new : Past) (r : Result A E) → length c.states ≤ 2 ^ 32
    → Stays work c old mid → (ran : Ran work c mid d new r) → OnOk r (ran.last.phase ≡ Closed) → LeadsTo work c old new r
leads work c d old mid new r few s ran closed =
    let together : Runs work c (calls (s.rest ++ ran.rest)) ran.last =
    subst (λ (ks : List Call). Runs work c ks ran.last) (sym (map-append (λ (h : Happened). h.call) s.rest ran.rest)) (runs-join work c c ran.last (calls s.rest) (calls ran.rest) s.runs ran.runs) in
    record {
      rest = s.rest ++ ran.rest;
      last = ran.last;
      first = ran.first ∙ s.first;
      log = ran.log ∙ ap (λ (hs : List Happened). hs ++ ran.rest) s.log ∙ append_assoc old.log s.rest ran.rest;
      runs = together;
      only = λ e other. run_one work c e ran.last (calls (s.rest ++ ran.rest)) (calls (s.rest ++ ran.rest)) refl few other together;
      closed = closed;
    }
