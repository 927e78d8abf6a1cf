-- Laws on runs: one status is due, and an end may give way to want of memory.
use Rattle.std.proofs.Common.{◌≡◌, ◌≢◌, ◌≤◌, ℕ, true, List, length, refl, sym, subst, ◌∙◌, ◌⊎◌, inl, inr}
use Rattle.std.specs.Prelude.{Option, Some, None, ⊤}
use Rattle.std.specs.Option.{ForSome}
use Rattle.dw_base.specs.Layout.{is_loaded_kind, output_limit}
use Rattle.dw_view.specs.Pairs.{IsPaired}
use Rattle.dbg_unstrip.specs.Joined.{joined}
use Rattle.dbg_job.specs.EditedFiles.{IsEditable}
use Rattle.file_tree.specs.declared.node.Found.{Found}
use Rattle.file_tree.specs.declared.node.Found.TheVariants as found
use Rattle.file_tree.specs.Trees.{TreeMap, stands_at}
use Rattle.file_tree.specs.Seen.{Seen, now_of}
use Rattle.file_tree.specs.Causes.{Rose}
use Rattle.file_tree.specs.Heard.{Heard}
use Rattle.dbg_ends.specs.declared.end.End.{End}
use Rattle.dbg_ends.specs.declared.end.End.TheVariants as end
use Rattle.dbg_ends.specs.Due.{Where, InputDue, OutputDue, IsCut, IsRefusal, IsUnplanned, Exactly}
use Rattle.dbg_ends.specs.Due.{IsRefusal as refusal, IsUnplanned as unplanned}
use Rattle.dbg_ends.specs.Due.{IsCut as cut}
use Rattle.root_run.specs.Dues.{RunCut as run_cut}
use Rattle.dbg_ends.specs.Due.Where.{here, elsewhere}
use Rattle.dbg_ends.specs.Steps.{OutputEnds as output_, OutputsEnd as both_}
use Rattle.dbg_ends.specs.Ends.{status_of}
use Rattle.dbg_ends.specs.Told.{Told, Ended}
use Rattle.dbg_ends.specs.Told.{Told as told}
use Rattle.dbg_words.specs.declared.command.Command.{Command}
use Rattle.dbg_words.specs.declared.command.Command.TheVariants.{Edit, Split, Run, Show, Unstrip, Check, Gather, Exercise}
use Rattle.job_types.specs.Settings.{Settings, most_file}
use Rattle.dbg_run.specs.Built.{built}
use Rattle.dbg_run.specs.Edits.{EditEnds, EditDue, ListedEnds, ListedDue}
use Rattle.dbg_run.proofs.EditLaws.{calm-at, calm_both, edit_completes, listed_completes, same-at, same_both}
use Rattle.dbg_run.proofs.ExerciseLaws.{exercise_due, exercise_memory}
use Rattle.dbg_run.proofs.GatherLaws.{gather_memory, gather_wanting, memory_cut}
use Rattle.dbg_run.proofs.RootLaws.{reported_told, root_memory, starts_wanting}
use Rattle.dbg_run.proofs.ShowLaws.{show_completes, show_memory}
use Rattle.dbg_run.proofs.SplitLaws.{split_completes, split_memory}
use Rattle.dbg_run.proofs.UnstripLaws.{parts_unopposed, unstrip_completes, unstrip_memory}
use Rattle.dbg_run.specs.Shows.{AreElf, AreLinked, HasBegun, IsShowable, ShowDue, ShowEnds, Subject, SubjectDue, base_name, of_file, of_pair}
use Rattle.dbg_run.specs.Shows.{HasBegun as begun_}
use Rattle.dbg_run.specs.Splits.{IsSplittable, SplitDue, SplitEnds}
use Rattle.dbg_run.specs.Unstrips.{AreRecords, DoMatch, JoinDue, UnstripDue, UnstripEnds}
use Rattle.dbg_run.specs.Exercises.{ExerciseCut, ExerciseEnds}
use Rattle.dbg_run.specs.Exercises.{ExerciseCut as exercise_cut}
use Rattle.dbg_run.specs.Gathers.{GatherCut, GatherDue, GatherStarts, GatherWays}
use Rattle.dbg_run.specs.Roots.{IsReported, RootCut, RootDue, RootEnds, RootStarts}
use Rattle.dbg_run.specs.Edits.{EditEnds as edit, ListedEnds as listed}
use Rattle.dbg_run.specs.Runs.{Cuts, EditWays, Ends, Due, JoinsParts, KeptBy, MayWrite, OutputFails, Starts, Unopposed}
use Rattle.dbg_run.specs.Runs.{Ends as ends}

-- want of memory may come in place of every status
pub cuts_memory : (c : Option Command) (t : TreeMap) (n : ℕ) → n ≡ 13 → Cuts c t n
cuts_memory None t n is = cut.no_memory is
cuts_memory (Some (Edit input output o list)) t n is = cut.no_memory is
cuts_memory (Some (Split input stripped debug)) t n is = cut.no_memory is
cuts_memory (Some (Run root o jobs)) t n is = inl (run_cut.no_memory is)
cuts_memory (Some (Show file debug)) t n is = inl (cut.no_memory is)
cuts_memory (Some (Unstrip stripped debug output)) t n is = cut.no_memory is
cuts_memory (Some (Check input stripped debug maps)) t n is = cut.no_memory is
cuts_memory (Some (Gather root from dest jobs)) t n is = subst (λ (k : ℕ). GatherCut root from dest t k) (sym is) (memory_cut root from dest t)
cuts_memory (Some (Exercise seed units)) t n is = exercise_cut.wanting is

-- of two numbers, one where P holds and one elsewhere, only one can be
where_two : (P : Type 0) {A B X Y : Type 0} (n m : ℕ) → (A → X → n ≡ m) → (B → Y → n ≡ m) → Where P A B → Where P X Y → n ≡ m
where_two P n m both neither (here p is) (here q also) = both is also
where_two P n m both neither (here p is) (elsewhere un also) = absurd (un p)
where_two P n m both neither (elsewhere un is) (here q also) = absurd (un q)
where_two P n m both neither (elsewhere un is) (elsewhere vn also) = neither is also

where-one : (P : Type 0) (a b n m : ℕ) → Where P (n ≡ a) (n ≡ b) → Where P (m ≡ a) (m ≡ b) → n ≡ m
where-one P a b n m = where_two P n m (λ is also. is ∙ sym also) (λ is also. is ∙ sym also)

-- of an input as of what its bytes are due
input-one : (what : Found) (n k : ℕ) (P Q : List ℕ → Type 0) → ((b : List ℕ) → P b → Q b → n ≡ k) → InputDue what n P → InputDue what k Q → n ≡ k
input-one found.Absent n k P Q of_bytes is also = is ∙ sym also
input-one found.Folder n k P Q of_bytes is also = is ∙ sym also
input-one (found.Link target) n k P Q of_bytes is also = is ∙ sym also
input-one (found.TooLarge size) n k P Q of_bytes is also = is ∙ sym also
input-one (found.File b mode) n k P Q of_bytes is also = of_bytes b is also

-- of an output as of what comes after
output-one : (there : Found) (n k : ℕ) (P Q : Type 0) → (P → Q → n ≡ k) → OutputDue there n P → OutputDue there k Q → n ≡ k
output-one found.Absent n k P Q after is also = after is also
output-one found.Folder n k P Q after is also = is ∙ sym also
output-one (found.Link target) n k P Q after is also = is ∙ sym also
output-one (found.TooLarge size) n k P Q after is also = after is also
output-one (found.File b mode) n k P Q after is also = after is also

edit-one : (s : Settings) (what there : Found) (n k : ℕ) → EditDue s what there n → EditDue s what there k → n ≡ k
edit-one s what there n k = input-one what n k _ _ (λ b. output-one there n k _ _ (where-one (IsEditable s b) 0 3 n k))

listed-one : (s : Settings) (what there beside : Found) (n k : ℕ) → ListedDue s what there beside n → ListedDue s what there beside k → n ≡ k
listed-one s what there beside n k =
    input-one what n k _ _ (λ b. output-one there n k _ _ (output-one beside n k _ _ (where-one (IsEditable s b) 0 3 n k)))

split-one : (name : List ℕ) (what there beside : Found) (n k : ℕ) → SplitDue name what there beside n → SplitDue name what there beside k → n ≡ k
split-one name what there beside n k =
    input-one what n k _ _ (λ b. output-one there n k _ _ (output-one beside n k _ _ (where-one (IsSplittable b name) 0 3 n k)))

subject-one : (q : Subject) (n k : ℕ) → SubjectDue q n → SubjectDue q k → n ≡ k
subject-one q n k =
    where_two (AreElf q) n k
    (where_two (AreLinked q) n k (where-one (IsShowable q) 0 3 n k) (λ is also. is ∙ sym also)) (λ is also. is ∙ sym also)

show-one : (file : List ℕ) (debug : Option (List ℕ)) (t : TreeMap) (n k : ℕ) → ShowDue file debug t n → ShowDue file debug t k → n ≡ k
show-one file None t n k = input-one (stands_at t file most_file) n k _ _ (λ b. subject-one (of_file file b) n k)
show-one file (Some debug) t n k =
    input-one (stands_at t file most_file) n k _ _ (λ s. input-one (stands_at t debug most_file) n k _ _ (λ d. subject-one (of_pair file s debug d) n k))

join-one : (s d name : List ℕ) (n k : ℕ) → JoinDue s d name n → JoinDue s d name k → n ≡ k
join-one s d name n k =
    where_two (AreRecords s d) n k
    (where_two (IsPaired s d name) n k
    (where_two (is_loaded_kind s ≡ true) n k
    (where_two (DoMatch s d) n k (where-one (length (joined s d) ≤ output_limit) 0 3 n k) (λ is also. is ∙ sym also)) (λ is also. is ∙ sym also))
    (λ is also. is ∙ sym also)) (λ is also. is ∙ sym also)

unstrip-one : (name : List ℕ) (what beside there : Found) (n k : ℕ) → UnstripDue name what beside there n → UnstripDue name what beside there k → n ≡ k
unstrip-one name what beside there n k =
    input-one what n k _ _ (λ s. input-one beside n k _ _ (λ d. output-one there n k _ _ (join-one s d name n k)))

abbrev IsRun : Option Command → Type 0
IsRun (Some (Run root o jobs)) = ⊤
IsRun (Some (Gather root from dest jobs)) = ⊤
IsRun c = ⊥

-- of another command than a run and a gather one status is due
due-one : (c : Option Command) (t : TreeMap) (n k : ℕ) → (IsRun c → ⊥) → Due c t n → Due c t k → n ≡ k
due-one (Some (Edit input output o None)) t n k other is also = edit-one o (stands_at t input o.max_file) (stands_at t output 0) n k is also
due-one (Some (Edit input output o (Some list))) t n k other is also =
    listed-one o (stands_at t input o.max_file) (stands_at t output 0) (stands_at t list 0) n k is also
due-one (Some (Split input stripped debug)) t n k other is also =
    split-one (base_name debug) (stands_at t input most_file) (stands_at t stripped 0) (stands_at t debug 0) n k is also
due-one (Some (Show file debug)) t n k other is also = show-one file debug t n k is also
due-one (Some (Unstrip stripped debug output)) t n k other is also =
    unstrip-one (base_name debug) (stands_at t stripped most_file) (stands_at t debug most_file) (stands_at t output 0) n k is also
due-one (Some (Run root o jobs)) t n k other is also = absurd (other tt)
due-one (Some (Gather root from dest jobs)) t n k other is also = absurd (other tt)
due-one (Some (Exercise seed units)) t n k other is also = is ∙ sym also
due-one c t n k other is also = is ∙ sym also

-- where nothing is against a command, it is done, or cut
way_completes : (input output : List ℕ) (o : Settings) (list : Option (List ℕ)) (old new : Seen) (e : End) (t : TreeMap) → now_of old ≡ Some t
    → Unopposed (Some (Edit input output o list)) old t → EditWays input output list o o.max_file old new e → (status_of e ≡ 0) ⊎ IsCut (status_of e)
way_completes input output o None old new e t tells is row = edit_completes input output o o.max_file old new e t tells is row
way_completes input output o (Some list) old new e t tells is row = listed_completes input output list o o.max_file old new e t tells is row

cut_by : (answer before now : ℕ) (Fails : Type 0) → (answer ≡ 0) ⊎ (IsCut answer ⊎ (answer ≡ 7)) → (answer ≡ 6 → Rose before now) → (answer ≡ 7 → Fails)
    → (Rose before now → ⊥) → (Fails → ⊥) → (answer ≡ 0) ⊎ (answer ≡ 13)
cut_by answer before now Fails (inl done) fault output calm well = inl done
cut_by answer before now Fails (inr (inl (cut.tree_fault six))) fault output calm well = absurd (calm (fault six))
cut_by answer before now Fails (inr (inl (cut.no_memory want))) fault output calm well = inr want
cut_by answer before now Fails (inr (inr seven)) fault output calm well = absurd (well (output seven))

-- one that doesn't write to the output sink isn't cut by that
unwritten : (n : ℕ) → (n ≡ 0) ⊎ IsCut n → (n ≡ 0) ⊎ (IsCut n ⊎ (n ≡ 7))
unwritten n (inl done) = inl done
unwritten n (inr cut) = inr (inl cut)

wanting : (n : ℕ) → (n ≡ 0) ⊎ (n ≡ 13) → (n ≡ 0) ⊎ (IsCut n ⊎ (n ≡ 7))
wanting n (inl done) = inl done
wanting n (inr want) = inr (inl (cut.no_memory want))

written : (n : ℕ) → (n ≡ 0) ⊎ ExerciseCut n → (n ≡ 0) ⊎ (IsCut n ⊎ (n ≡ 7))
written n (inl done) = inl done
written n (inr (exercise_cut.wanting want)) = inr (inl (cut.no_memory want))
written n (inr (exercise_cut.output seven)) = inr (inr seven)

module _ (words : List (List ℕ)) (old new : Seen) (heard said : Heard) (t : TreeMap) (tells : now_of old ≡ Some t) (is : Unopposed (built words) old t)
    (calm : Rose old.faults new.faults → ⊥) (well : OutputFails (built words) heard said → ⊥) where
  run-completes : (root : List ℕ) (o : Settings) (jobs n : ℕ) → built words ≡ Some (Run root o jobs) → Starts (built words) old new heard said n → (n ≡ 0) ⊎ (n ≡ 13)
  run-completes root o jobs n command starts =
      let s : RootStarts root o jobs old new heard said n = subst (λ (c : Option Command). Starts c old new heard said n) command starts in
      s.completes (subst (λ (c : Option Command). Unopposed c old t) command is) calm
      (λ rose. well (subst (λ (c : Option Command). OutputFails c heard said) (sym command) rose))

  gather-completes : (root from dest : List ℕ) (jobs n : ℕ) → built words ≡ Some (Gather root from dest jobs) → Starts (built words) old new heard said n → (n ≡ 0) ⊎ (n ≡ 13)
  gather-completes root from dest jobs n command starts =
      let s : GatherStarts root from dest jobs old new heard said n = subst (λ (c : Option Command). Starts c old new heard said n) command starts in
      s.completes (subst (λ (c : Option Command). Unopposed c old t) command is) calm
      (λ rose. well (subst (λ (c : Option Command). OutputFails c heard said) (sym command) rose))

  all-complete : (e : End) → Ends words old new heard said e → Starts (built words) old new heard said (status_of e)
      → (status_of e ≡ 0) ⊎ (IsCut (status_of e) ⊎ (status_of e ≡ 7))
  all-complete e (ends.usage none same silent) starts = absurd (subst (λ (c : Option Command). Unopposed c old t) none is)
  all-complete e (ends.memory same silent) starts = inr (inl (cut.no_memory refl))
  all-complete e (ends.edit {input = input} {output = output} {o = o} {list = list} command row silent) starts =
      unwritten (status_of e) (way_completes input output o list old new e t tells (subst (λ (c : Option Command). Unopposed c old t) command is) row)
  all-complete e (ends.split {input = input} {stripped = stripped} {debug = debug} command row silent) starts =
      unwritten (status_of e) (split_completes input stripped debug old new e t tells (subst (λ (c : Option Command). Unopposed c old t) command is) row)
  all-complete e (ends.show {file = file} {debug = debug} command row) starts =
      show_completes file debug old new heard said e t tells (subst (λ (c : Option Command). Unopposed c old t) command is) row
  all-complete e (ends.unstrip {stripped = stripped} {debug = debug} {output = output} command row silent) starts =
      unwritten (status_of e) (unstrip_completes stripped debug output old new e t tells (subst (λ (c : Option Command). Unopposed c old t) command is) row)
  all-complete e (ends.run {root = root} {o = o} {jobs = jobs} command row) starts = wanting (status_of e) (run-completes root o jobs (status_of e) command starts)
  all-complete e (ends.gather {root = root} {from = from} {dest = dest} {jobs = jobs} command row) starts =
      wanting (status_of e) (gather-completes root from dest jobs (status_of e) command starts)
  all-complete e (ends.exercise {seed = seed} {units = units} command same row) starts = written (status_of e) (exercise_due seed units heard said e row)

  -- where nothing is against a command, and no fault came, it is done, want of memory aside
  pub completed : (before after : Heard) (answer : ℕ) → Ended (Ends words old new heard said) before after answer → Starts (built words) old new heard said answer
      → (answer ≡ 6 → Rose old.faults new.faults) → (answer ≡ 7 → OutputFails (built words) heard said) → (answer ≡ 0) ⊎ (answer ≡ 13)
  completed before after answer ended starts fault output =
      cut_by answer old.faults new.faults (OutputFails (built words) heard said)
      (subst (λ (n : ℕ). (n ≡ 0) ⊎ (IsCut n ⊎ (n ≡ 7))) (sym ended.status)
      (all-complete ended.end ended.way (subst (λ (n : ℕ). Starts (built words) old new heard said n) ended.status starts)))
      fault output calm well

-- nothing is against the joining of the two files of a file that was split
pub joins_unopposed : (c : Option Command) (seen : Seen) (t : TreeMap) → JoinsParts c t → Unopposed c seen t
joins_unopposed (Some (Unstrip stripped debug output)) seen t were = parts_unopposed stripped debug output t were
joins_unopposed c seen t were = absurd were

-- a status comes exactly where it is due: of a run what its start says, and of another command since one status is due
exact-by : (c : Option Command) (t : TreeMap) (answer n : ℕ) → (IsRun c → ⊥) → Due c t answer ⊎ Cuts c t answer → Exactly (Cuts c t) answer n (Due c t n)
exact-by c t answer n other (inl due) = record { only = λ is. inl (subst (λ k. Due c t k) is due); comes = λ also. inl (due-one c t answer n other due also) }
exact-by c t answer n other (inr cut) = record { only = λ is. inr (subst (λ k. Cuts c t k) is cut); comes = λ also. inr cut }

run-exact : (root : List ℕ) (o : Settings) (t : TreeMap) (answer n : ℕ) → RootDue root o t answer ⊎ RootCut root o t answer
    → (RootDue root o t n → (answer ≡ n) ⊎ RootCut root o t answer) → Exactly (RootCut root o t) answer n (RootDue root o t n)
run-exact root o t answer n (inl due) comes = record { only = λ is. inl (subst (λ k. RootDue root o t k) is due); comes = comes }
run-exact root o t answer n (inr cut) comes = record { only = λ is. inr (subst (λ k. RootCut root o t k) is cut); comes = comes }

gather-exact : (root from dest : List ℕ) (t : TreeMap) (answer n : ℕ) → GatherDue root from dest t answer ⊎ GatherCut root from dest t answer
    → (GatherDue root from dest t n → (answer ≡ n) ⊎ GatherCut root from dest t answer) → Exactly (GatherCut root from dest t) answer n (GatherDue root from dest t n)
gather-exact root from dest t answer n (inl due) comes = record { only = λ is. inl (subst (λ k. GatherDue root from dest t k) is due); comes = comes }
gather-exact root from dest t answer n (inr cut) comes = record { only = λ is. inr (subst (λ k. GatherCut root from dest t k) is cut); comes = comes }

pub due_exact : (c : Option Command) (old new : Seen) (heard said : Heard) (t : TreeMap) (answer n : ℕ) → now_of old ≡ Some t → Due c t answer ⊎ Cuts c t answer
    → Starts c old new heard said answer → Exactly (Cuts c t) answer n (Due c t n)
due_exact (Some (Run root o jobs)) old new heard said t answer n tells due starts = run-exact root o t answer n due (starts.comes t n tells)
due_exact (Some (Gather root from dest jobs)) old new heard said t answer n tells due starts = gather-exact root from dest t answer n due (starts.comes t n tells)
due_exact c old new heard said t answer n tells due starts = exact-by c t answer n (λ is. is) due

edit-memory : (input output : List ℕ) (s : Settings) (limit : ℕ) (old new : Seen) (e : End) → EditEnds input output s limit old new e → e ≢ end.Done → EditEnds input output s limit old new end.NoMemory
edit-memory input output s limit old new e (edit.reading ends calm) undone = edit.memory (same-at output _ _ calm.now)
edit-memory input output s limit old new e (edit.taking stood calm ends still) undone = edit.memory (same-at output _ _ (still.now ∙ calm.now))
edit-memory input output s limit old new e (edit.rewriting stood free ends calm) undone = edit.memory (same-at output _ _ calm.now)
edit-memory input output s limit old new e (edit.writing {mid = mid} stood free ok calm (output_.failed rose at)) undone = edit.memory (calm-at output old mid _ calm at)
edit-memory input output s limit old new e (edit.writing {mid = mid} stood free ok calm (output_.memory at)) undone = edit.memory (calm-at output old mid _ calm at)
edit-memory input output s limit old new e (edit.memory at) undone = edit.memory at
edit-memory input output s limit old new e (edit.done is) undone = absurd (undone refl)

listed-memory : (input output list : List ℕ) (s : Settings) (limit : ℕ) (old new : Seen) (e : End) → ListedEnds input output list s limit old new e → e ≢ end.Done
    → ListedEnds input output list s limit old new end.NoMemory
listed-memory input output list s limit old new e (listed.reading row calm) undone = listed.memory (same_both output list _ _ calm.now)
listed-memory input output list s limit old new e (listed.taking stood calm row still) undone = listed.memory (same_both output list _ _ (still.now ∙ calm.now))
listed-memory input output list s limit old new e (listed.list_taking stood free calm row still) undone = listed.memory (same_both output list _ _ (still.now ∙ calm.now))
listed-memory input output list s limit old new e (listed.rewriting stood free list_free row calm) undone = listed.memory (same_both output list _ _ calm.now)
listed-memory input output list s limit old new e (listed.writing {mid = mid} stood free list_free ok calm (both_.failed rose at)) undone = listed.memory (calm_both output list old mid _ calm at)
listed-memory input output list s limit old new e (listed.writing {mid = mid} stood free list_free ok calm (both_.memory at)) undone = listed.memory (calm_both output list old mid _ calm at)
listed-memory input output list s limit old new e (listed.memory at) undone = listed.memory at
listed-memory input output list s limit old new e (listed.done d) undone = absurd (undone refl)

way-memory : (input output : List ℕ) (list : Option (List ℕ)) (s : Settings) (limit : ℕ) (old new : Seen) (e : End) → EditWays input output list s limit old new e → e ≢ end.Done
    → EditWays input output list s limit old new end.NoMemory
way-memory input output None s limit old new e row undone = edit-memory input output s limit old new e row undone
way-memory input output (Some list) s limit old new e row undone = listed-memory input output list s limit old new e row undone

-- an edit of these words ends as the edit of their paths
pub edit_ends : (words : List (List ℕ)) (old new : Seen) (heard : Heard) (e : End) (input output read written : List ℕ) (o : Settings) (list : Option (List ℕ))
    → built words ≡ Some (Edit input output o list) → read ≡ input → written ≡ output → EditWays read written list o o.max_file old new e
    → Ends words old new heard heard e
edit_ends words old new heard e input output read written o list is of_input of_output row =
    let P : List ℕ → Type 0 = λ x. EditWays x output list o o.max_file old new e in
    let Q : List ℕ → Type 0 = λ x. EditWays read x list o o.max_file old new e in
    ends.edit is (subst P of_input (subst Q of_output row)) refl

-- a split of these words ends as the split of their paths
pub split_ends : (words : List (List ℕ)) (old new : Seen) (heard : Heard) (e : End) (input stripped debug read first second : List ℕ)
    → built words ≡ Some (Split input stripped debug) → read ≡ input → first ≡ stripped → second ≡ debug → SplitEnds read first second old new e
    → Ends words old new heard heard e
split_ends words old new heard e input stripped debug read first second is of_input of_stripped of_debug row =
    ends.split is
    (subst (λ (x : List ℕ). SplitEnds x stripped debug old new e) of_input
    (subst (λ (x : List ℕ). SplitEnds read x debug old new e) of_stripped (subst (λ (x : List ℕ). SplitEnds read first x old new e) of_debug row))) refl

-- a showing of these words ends as the showing of their path
pub show_ends : (words : List (List ℕ)) (old new : Seen) (heard said : Heard) (e : End) (file read : List ℕ) (debug : Option (List ℕ))
    → built words ≡ Some (Show file debug) → read ≡ file → ShowEnds read debug old new heard said e → Ends words old new heard said e
show_ends words old new heard said e file read debug is of_path row = ends.show is (subst (λ (x : List ℕ). ShowEnds x debug old new heard said e) of_path row)

-- a joining of these words ends as that of their paths
pub unstrip_ends : (words : List (List ℕ)) (old new : Seen) (heard : Heard) (e : End) (stripped debug output first second third : List ℕ)
    → built words ≡ Some (Unstrip stripped debug output) → first ≡ stripped → second ≡ debug → third ≡ output → UnstripEnds first second third old new e
    → Ends words old new heard heard e
unstrip_ends words old new heard e stripped debug output first second third is of_stripped of_debug of_output row =
    ends.unstrip is
    (subst (λ (x : List ℕ). UnstripEnds x debug output old new e) of_stripped
    (subst (λ (x : List ℕ). UnstripEnds first x output old new e) of_debug (subst (λ (x : List ℕ). UnstripEnds first second x old new e) of_output row))) refl

-- a run of these words ends as the run over their root
pub run_ends : (words : List (List ℕ)) (old new : Seen) (heard said : Heard) (e : End) (root : List ℕ) (o : Settings) (jobs : ℕ)
    → built words ≡ Some (Run root o jobs) → RootEnds root o old new heard said e → Ends words old new heard said e
run_ends words old new heard said e root o jobs is row = ends.run is row

pub run_due : (c : Option Command) (old : Seen) (n : ℕ) (root : List ℕ) (o : Settings) (jobs : ℕ) → c ≡ Some (Run root o jobs)
    → ForSome (now_of old) (λ t. RootDue root o t n ⊎ RootCut root o t n) → ForSome (now_of old) (λ t. Due c t n ⊎ Cuts c t n)
run_due c old n root o jobs is due = λ t tells. subst (λ (k : Option Command). Due k t n ⊎ Cuts k t n) (sym is) (due t tells)

pub gather_ends : (words : List (List ℕ)) (old new : Seen) (heard said : Heard) (e : End) (root from dest : List ℕ) (jobs : ℕ) → built words ≡ Some (Gather root from dest jobs)
    → GatherWays root from dest old new heard said e → Ends words old new heard said e
gather_ends words old new heard said e root from dest jobs is row = ends.gather is row

pub gather_due : (c : Option Command) (old : Seen) (n : ℕ) (root from dest : List ℕ) (jobs : ℕ) → c ≡ Some (Gather root from dest jobs)
    → ForSome (now_of old) (λ t. GatherDue root from dest t n ⊎ GatherCut root from dest t n) → ForSome (now_of old) (λ t. Due c t n ⊎ Cuts c t n)
gather_due c old n root from dest jobs is due = λ t tells. subst (λ (k : Option Command). Due k t n ⊎ Cuts k t n) (sym is) (due t tells)

-- an exercise asks nothing of the tree
pub exercise_ends : (words : List (List ℕ)) (seen : Seen) (heard said : Heard) (e : End) (seed units : ℕ) → built words ≡ Some (Exercise seed units)
    → ExerciseEnds seed units heard said e → Ends words seen seen heard said e
exercise_ends words seen heard said e seed units is row = ends.exercise is refl row

pub exercise_told_due : (c : Option Command) (old : Seen) (n seed units : ℕ) → c ≡ Some (Exercise seed units) → (n ≡ 0) ⊎ ExerciseCut n
    → ForSome (now_of old) (λ t. Due c t n ⊎ Cuts c t n)
exercise_told_due c old n seed units is due = λ t tells. subst (λ (k : Option Command). Due k t n ⊎ Cuts k t n) (sym is) due

-- where a command isn't done, and no text of it has begun to go out, it may as well want memory
ends-memory : (words : List (List ℕ)) (old new : Seen) (heard said : Heard) (e : End) → Ends words old new heard said e → e ≢ end.Done → e ≢ end.OutputFault
    → Ends words old new heard said end.NoMemory
ends-memory words old new heard said e (ends.usage none same silent) undone well = ends.memory same silent
ends-memory words old new heard said e (ends.memory same silent) undone well = ends.memory same silent
ends-memory words old new heard said e (ends.edit is row silent) undone well = ends.edit is (way-memory _ _ _ _ _ old new e row undone) silent
ends-memory words old new heard said e (ends.split is row silent) undone well = ends.split is (split_memory _ _ _ old new e row undone) silent
ends-memory words old new heard said e (ends.show is row) undone well = ends.show is (show_memory _ _ old new heard said e row undone)
ends-memory words old new heard said e (ends.unstrip is row silent) undone well = ends.unstrip is (unstrip_memory _ _ _ old new e row) silent
ends-memory words old new heard said e (ends.run {root = root} {o = o} is row) undone well = ends.run is (root_memory root o old new heard said e row undone well)
ends-memory words old new heard said e (ends.gather {root = root} {from = from} {dest = dest} is row) undone well =
    ends.gather is (gather_memory root from dest old new heard said e row undone well)
ends-memory words old new heard said e (ends.exercise {seed = seed} {units = units} is same row) undone well =
    ends.exercise is same (exercise_memory seed units heard said e row undone well)

-- what went to the output sink is said by the status that is told
pub silent_told : (c : Option Command) (e : End) (before after : Heard) (answer : ℕ) → Told e before after answer → (MayWrite c answer → ⊥) → MayWrite c (status_of e) → ⊥
silent_told (Some (Show file debug)) e before after answer (told.as_it_is same goes) un begun = un (subst HasBegun (sym same) begun)
silent_told (Some (Show file debug)) e before after answer (told.out_of_memory undone well want goes) un begun = un (begun_.wanting want)
silent_told (Some (Run root o jobs)) e before after answer (told.as_it_is same goes) un begun = un (subst IsReported (sym same) begun)
silent_told (Some (Run root o jobs)) e before after answer (told.out_of_memory undone well want goes) un begun = reported_told e undone well begun
silent_told (Some (Gather root from dest jobs)) e before after answer (told.as_it_is same goes) un begun = un (subst IsReported (sym same) begun)
silent_told (Some (Gather root from dest jobs)) e before after answer (told.out_of_memory undone well want goes) un begun = reported_told e undone well begun
silent_told (Some (Exercise seed units)) e before after answer (told.as_it_is same goes) un begun = un (subst IsReported (sym same) begun)
silent_told (Some (Exercise seed units)) e before after answer (told.out_of_memory undone well want goes) un begun = reported_told e undone well begun
silent_told c e before after answer told un begun = begun

-- so is what a start does
pub starts_told : (c : Option Command) (old new : Seen) (heard said : Heard) (e : End) (before after : Heard) (answer : ℕ) → Told e before after answer
    → Starts c old new heard said (status_of e) → Starts c old new heard said answer
starts_told (Some (Run root o jobs)) old new heard said e before after answer (told.as_it_is same goes) starts =
    subst (λ (n : ℕ). RootStarts root o jobs old new heard said n) (sym same) starts
starts_told (Some (Run root o jobs)) old new heard said e before after answer (told.out_of_memory undone well want goes) starts =
    subst (λ (n : ℕ). RootStarts root o jobs old new heard said n) (sym want) (starts_wanting root o jobs old new heard said (status_of e) starts)
starts_told (Some (Gather root from dest jobs)) old new heard said e before after answer (told.as_it_is same goes) starts =
    subst (λ (n : ℕ). GatherStarts root from dest jobs old new heard said n) (sym same) starts
starts_told (Some (Gather root from dest jobs)) old new heard said e before after answer (told.out_of_memory undone well want goes) starts =
    subst (λ (n : ℕ). GatherStarts root from dest jobs old new heard said n) (sym want) (gather_wanting root from dest jobs old new heard said (status_of e) starts)
starts_told c old new heard said e before after answer told starts = starts

-- a refusal that is told came
refusal_memory : IsRefusal 13 → ⊥
refusal_memory (refusal.usage e) = cc
refusal_memory (refusal.refused e) = cc
refusal_memory (refusal.no_file e) = cc
refusal_memory (refusal.taken e) = cc
refusal_memory (refusal.limit e) = cc
refusal_memory (refusal.no_pair e) = cc
refusal_memory (refusal.unmatched e) = cc

unplanned_memory : IsUnplanned 13 → ⊥
unplanned_memory (unplanned.usage e) = cc
unplanned_memory (unplanned.no_file e) = cc
unplanned_memory (unplanned.taken e) = cc
unplanned_memory (unplanned.limit e) = cc
unplanned_memory (unplanned.other_run e) = cc
unplanned_memory (unplanned.plan_text e) = cc

kept_memory : (c : Option Command) → KeptBy c 13 → ⊥
kept_memory None kept = refusal_memory kept
kept_memory (Some (Edit input output o list)) kept = refusal_memory kept
kept_memory (Some (Split input stripped debug)) kept = refusal_memory kept
kept_memory (Some (Run root o jobs)) kept = unplanned_memory kept
kept_memory (Some (Show file debug)) kept = refusal_memory kept
kept_memory (Some (Unstrip stripped debug output)) kept = refusal_memory kept
kept_memory (Some (Check input stripped debug maps)) kept = refusal_memory kept
kept_memory (Some (Gather root from dest jobs)) kept = unplanned_memory kept
kept_memory (Some (Exercise seed units)) kept = refusal_memory kept

pub kept_told : (c : Option Command) (answer status : ℕ) → (answer ≡ status) ⊎ (answer ≡ 13) → KeptBy c answer → KeptBy c status
kept_told c answer status (inl same) kept = subst (KeptBy c) same kept
kept_told c answer status (inr want) kept = absurd (kept_memory c (subst (KeptBy c) want kept))

-- an end that is told is how the run ended, or want of memory is
pub told_run : (words : List (List ℕ)) (old new : Seen) (heard said : Heard) (e : End) (before after : Heard) (answer : ℕ)
    → Ends words old new heard said e → Told e before after answer → Ended (Ends words old new heard said) before after answer
told_run words old new heard said e before after answer row (told.as_it_is status goes) = record { end = e; way = row; status = status; line = goes }
told_run words old new heard said e before after answer row (told.out_of_memory undone well status goes) =
    record { end = end.NoMemory; way = ends-memory words old new heard said e row undone well; status = status; line = goes }
