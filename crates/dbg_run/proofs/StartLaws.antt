-- Laws on starts of the commands `run` and `gather`: what one does is what the clauses of a run of the program say; no other command is one.
use Rattle.std.proofs.Common.{◌≡◌, ℕ, Bool, true, false, List, [], refl, sym, ap, subst, ◌∙◌, inl, inr, arith}
use Rattle.std.specs.Prelude.{Option, Some, None, if◌then◌else◌, is_some, unwrap_or}
use Rattle.std.specs.FinMap as fin
use Rattle.std.proofs.lemmas.List.{append-nil}
use Rattle.dbg_words.specs.declared.command.Command.{Command}
use Rattle.dbg_words.specs.declared.command.Command.TheVariants.{Edit, Split, Run, Show, Unstrip, Gather, Exercise}
use Rattle.file_tree.specs.declared.call.Call.{Call}
use Rattle.file_tree.specs.Heard.{Heard}
use Rattle.file_tree.specs.Seen.{Past, Seen, map_now, now_of}
use Rattle.file_tree.specs.Trees.{TreeMap, is_below}
use Rattle.job_types.specs.Settings.{Settings}
use Rattle.journal_core.specs.Table.{CoreState}
use Rattle.work_journal.specs.Runs.{Runs}
use Rattle.work_journal.specs.Runs.{Runs as runs}
use Rattle.root_plan.specs.Roots.{work_folder}
use Rattle.root_run.specs.Dues.{RunCut as cuts}
use Rattle.src_gather.specs.Makers.{gather_folder}
use Rattle.dbg_run.specs.Gathers.{GatherStarts}
use Rattle.dbg_run.specs.Roots.{OnlyBelow, RootStarts, RootSteps}
use Rattle.dbg_run.specs.Runs.{EndsFinal, EndsMild, LeavesPartway, RefusesPlanned, SettlesSeldom, Starts, StepsOfCore}
use Rattle.dbg_run.proofs.GatherLaws.{memory_cut, quiet_mild}
use Rattle.dbg_run.proofs.RootLaws.{not_reported, wanting_mild, wanting_passed}

-- ### Clauses of a run of the program

pub starts_leave : (c : Option Command) (old new : Seen) (heard said : Heard) (n : ℕ) → Starts c old new heard said n → (start : TreeMap) → LeavesPartway c start old new
starts_leave (Some (Run root o jobs)) old new heard said n s = s.images
starts_leave (Some (Gather root from dest jobs)) old new heard said n s = s.images
starts_leave c old new heard said n s = λ start. tt

pub starts_end : (c : Option Command) (old new : Seen) (heard said : Heard) (n : ℕ) → Starts c old new heard said n → (start : TreeMap) → EndsFinal c n start old new heard said
starts_end (Some (Run root o jobs)) old new heard said n s = s.ended
starts_end (Some (Gather root from dest jobs)) old new heard said n s = s.ended
starts_end c old new heard said n s = λ start. tt

pub starts_step : (c : Option Command) (old new : Seen) (heard said : Heard) (n : ℕ) → Starts c old new heard said n → (start : TreeMap) → StepsOfCore c n start old new
starts_step (Some (Run root o jobs)) old new heard said n s = s.steps
starts_step (Some (Gather root from dest jobs)) old new heard said n s = s.steps
starts_step c old new heard said n s = λ start. tt

pub starts_settle : (c : Option Command) (old new : Seen) (heard said : Heard) (n : ℕ) → Starts c old new heard said n → (start : TreeMap) → SettlesSeldom c start old new
starts_settle (Some (Run root o jobs)) old new heard said n s = s.settles
starts_settle (Some (Gather root from dest jobs)) old new heard said n s = s.settles
starts_settle c old new heard said n s = λ start. tt

pub starts_mild : (c : Option Command) (old new : Seen) (heard said : Heard) (n : ℕ) → Starts c old new heard said n → (start : TreeMap) → EndsMild c n start old
starts_mild (Some (Run root o jobs)) old new heard said n s = s.mild
starts_mild (Some (Gather root from dest jobs)) old new heard said n s = s.mild
starts_mild c old new heard said n s = λ start. tt

pub starts_pass : (c : Option Command) (old new : Seen) (heard said : Heard) (n : ℕ) → Starts c old new heard said n → RefusesPlanned c n old
starts_pass (Some (Run root o jobs)) old new heard said n s = s.passed
starts_pass c old new heard said n s = tt

-- ### Commands

pub run_starts : (c : Option Command) (old new : Seen) (heard said : Heard) (n : ℕ) (root : List ℕ) (o : Settings) (jobs : ℕ) → c ≡ Some (Run root o jobs)
    → RootStarts root o jobs old new heard said n → Starts c old new heard said n
run_starts c old new heard said n root o jobs is s = subst (λ (k : Option Command). Starts k old new heard said n) (sym is) s

pub gather_starts : (c : Option Command) (old new : Seen) (heard said : Heard) (n : ℕ) (root from dest : List ℕ) (jobs : ℕ) → c ≡ Some (Gather root from dest jobs)
    → GatherStarts root from dest jobs old new heard said n → Starts c old new heard said n
gather_starts c old new heard said n root from dest jobs is s = subst (λ (k : Option Command). Starts k old new heard said n) (sym is) s

pub none_starts : (c : Option Command) (old new : Seen) (heard said : Heard) (n : ℕ) → c ≡ None → Starts c old new heard said n
none_starts c old new heard said n is = subst (λ (k : Option Command). Starts k old new heard said n) (sym is) tt

pub edit_starts : (c : Option Command) (old new : Seen) (heard said : Heard) (n : ℕ) (input output : List ℕ) (o : Settings) (list : Option (List ℕ))
    → c ≡ Some (Edit input output o list) → Starts c old new heard said n
edit_starts c old new heard said n input output o list is = subst (λ (k : Option Command). Starts k old new heard said n) (sym is) tt

pub split_starts : (c : Option Command) (old new : Seen) (heard said : Heard) (n : ℕ) (input stripped debug : List ℕ) → c ≡ Some (Split input stripped debug)
    → Starts c old new heard said n
split_starts c old new heard said n input stripped debug is = subst (λ (k : Option Command). Starts k old new heard said n) (sym is) tt

pub show_starts : (c : Option Command) (old new : Seen) (heard said : Heard) (n : ℕ) (file : List ℕ) (debug : Option (List ℕ)) → c ≡ Some (Show file debug)
    → Starts c old new heard said n
show_starts c old new heard said n file debug is = subst (λ (k : Option Command). Starts k old new heard said n) (sym is) tt

pub unstrip_starts : (c : Option Command) (old new : Seen) (heard said : Heard) (n : ℕ) (stripped debug output : List ℕ) → c ≡ Some (Unstrip stripped debug output)
    → Starts c old new heard said n
unstrip_starts c old new heard said n stripped debug output is = subst (λ (k : Option Command). Starts k old new heard said n) (sym is) tt

pub exercise_starts : (c : Option Command) (old new : Seen) (heard said : Heard) (n seed units : ℕ) → c ≡ Some (Exercise seed units) → Starts c old new heard said n
exercise_starts c old new heard said n seed units is = subst (λ (k : Option Command). Starts k old new heard said n) (sym is) tt

-- ### Where there was no memory for the words

none_leads : (work : List ℕ) (c d : CoreState) (ks : List Call) → Runs work c ks d → ks ≡ [] → d ≡ c
none_leads work c d ks runs.none e = refl
none_leads work c d ks (runs.more one rest) e = cc

no_steps : (work : List ℕ) (c : CoreState) (past : Past) → RootSteps work c past past 13
no_steps work c past = record {
  rest = [];
  last = c;
  first = refl;
  log = sym (append-nil past.log);
  runs = runs.none;
  only = λ d leads. none_leads work c d [] leads refl;
  closed = λ is. absurd (not_reported 13 refl is);
}

wanting_starts : (root : List ℕ) (o : Settings) (jobs : ℕ) (seen : Seen) (heard : Heard) → RootStarts root o jobs seen seen heard heard 13
wanting_starts root o jobs seen heard = record {
  images = λ start under. record { rest = []; first = refl; log = sym (append-nil seen.past.log); each = under.partway };
  ended = λ start under is. absurd (not_reported 13 refl is);
  steps = λ start under c shows. no_steps (work_folder root) c seen.past;
  settles = λ start under. record { few = λ p made planned. omega arith; none = λ un. omega arith };
  mild = λ start under. wanting_mild root (map_now seen.past);
  passed = wanting_passed root o seen;
  due = λ t tells. inr (inl (cuts.no_memory refl));
  comes = λ t k tells due. inr (inl (cuts.no_memory refl));
  completes = λ un calm well. inr refl;
}

wanting_gather : (root from dest : List ℕ) (jobs : ℕ) (seen : Seen) (heard : Heard) → GatherStarts root from dest jobs seen seen heard heard 13
wanting_gather root from dest jobs seen heard = record {
  images = λ start under. record { rest = []; first = refl; log = sym (append-nil seen.past.log); each = under.partway };
  ended = λ start under is. absurd (not_reported 13 refl is);
  steps = λ start under c shows. no_steps (gather_folder root) c seen.past;
  settles = λ start under. record { few = λ p sources planned. omega arith; none = λ un. omega arith };
  mild = λ start under. quiet_mild 13 refl;
  due = λ t tells. inr (memory_cut root from dest t);
  comes = λ t k tells due. inr (memory_cut root from dest t);
  completes = λ un calm well. inr refl;
}

pub memory_starts : (c : Option Command) (seen : Seen) (heard : Heard) → Starts c seen seen heard heard 13
memory_starts (Some (Run root o jobs)) seen heard = wanting_starts root o jobs seen heard
memory_starts (Some (Gather root from dest jobs)) seen heard = wanting_gather root from dest jobs seen heard
memory_starts c seen heard = tt

-- ### Paths outside the root

told_same : (old new : Seen) → new.tells ≡ old.tells → is_some (now_of new) ≡ is_some (now_of old)
told_same old new same = rw same (by_tells old.tells)
  where
    by_tells : (b : Bool) → is_some (if b then Some (map_now new.past) else None) ≡ is_some (if b then Some (map_now old.past) else None)
    by_tells true = refl
    by_tells false = refl

map_told : (seen : Seen) (t : TreeMap) → now_of seen ≡ Some t → t ≡ map_now seen.past
map_told seen t is = by_tells seen.tells refl is
  where
    by_tells : (b : Bool) → seen.tells ≡ b → (if b then Some (map_now seen.past) else None) ≡ Some t → t ≡ map_now seen.past
    by_tells true e is = ap (λ (x : Option TreeMap). unwrap_or x t) (sym is)
    by_tells false e is = cc

tells_told : (seen : Seen) (t : TreeMap) → now_of seen ≡ Some t → seen.tells ≡ true
tells_told seen t is = by_tells seen.tells is
  where
    by_tells : (b : Bool) → (if b then Some (map_now seen.past) else None) ≡ Some t → b ≡ true
    by_tells true is = refl
    by_tells false is = cc

pub only_below : (root : List ℕ) (old new : Seen) → new.tells ≡ old.tells
    → (old.tells ≡ true → (q : List ℕ) → is_below root q ≡ false → fin.get (map_now new.past) q ≡ fin.get (map_now old.past) q) → OnlyBelow root (now_of old) (now_of new)
only_below root old new same others = record {
  tells = told_same old new same;
  others = λ t u q of_old of_new out.
      ap (λ (m : TreeMap). fin.get m q) (map_told new u of_new) ∙ others (tells_told old t of_old) q out ∙ ap (λ (m : TreeMap). fin.get m q) (sym (map_told old t of_old));
}
