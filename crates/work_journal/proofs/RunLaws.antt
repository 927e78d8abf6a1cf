-- Calls of a tree lead a core to one core alone: what a call puts or renames says which event it is.
use Rattle.std.proofs.Common.{◌≡◌, ℕ, zero, suc, ◌<◌, ◌≤◌, ◌^◌, Bool, true, false, ◌&&◌, eqb, ltb, eqb-true, List, [], ◌∷◌, length, get_or, drop, length-set, refl, sym, ◌∙◌, ap, subst, arith}
use Rattle.std.specs.Fmt.{decimal}
use Rattle.std.proofs.lemmas.Bool.{and_parts}
use Rattle.std.proofs.lemmas.Fmt.{decimal_injective}
use Rattle.std.proofs.lemmas.List.{length-map}
use Rattle.file_tree.specs.declared.call.Call.{Call}
use Rattle.file_tree.specs.declared.call.Call.TheVariants as call
use Rattle.journal_core.specs.declared.event.Event.{Event}
use Rattle.journal_core.specs.declared.event.Event.TheVariants.{Propose, Adopt, Stage, Settle, Commit, Move, Finish, Close, Clear, Renew, Replace}
use Rattle.journal_core.specs.declared.event.JobState.{JobState}
use Rattle.journal_core.specs.declared.event.JobState.TheVariants.{Fresh, Staged, Ready, Going, Done}
use Rattle.journal_core.specs.declared.event.Phase.{Phase}
use Rattle.journal_core.specs.declared.event.Phase.TheVariants.{Empty, Proposed, Running, Finishing, Closing, Closed, Renewing}
use Rattle.journal_core.specs.Names.{Name, temp, commit}
use Rattle.journal_core.specs.Calls.{Puts, Moves, puts_plan, puts_step, puts_mark, puts_text, puts_again, moves_plan, moves_step, moves_text, moves_again}
use Rattle.journal_core.specs.Table.{CoreState, state_of, is_fresh, is_ready, is_going, is_running, all_done, may_finish, may_close, may_renew, may_replace, settled_job, allows, after}
use Rattle.work_journal.specs.Work.{name_text}
use Rattle.work_journal.specs.Runs.{RunsOne, Runs}
use Rattle.work_journal.specs.Runs.RunsOne.{lists, reads, settles, puts, renames, removes}
use Rattle.work_journal.specs.Runs.Runs.{none, more}
use Rattle.work_journal.proofs.ApartLaws.{decimal_no_dot, split_at_dot, family, fresh_family, wide, differ, same_text}

-- ### Which event is allowed of a job, and of a part of the end

there : (ss : List JobState) (j : ℕ) (p : JobState → Bool) → p Done ≡ false → p (get_or ss j Done) ≡ true → j < length ss
there [] j p out is = let d : true ≡ false = sym is ∙ out in absurd (cc)
there (s ∷ ss) zero p out is = omega arith
there (s ∷ ss) (suc j) p out is = let l = there ss j p out is in omega (arith, l)

fresh_at : (s : JobState) (k l : ℕ) → is_fresh s k ≡ true → is_fresh s l ≡ true → k ≡ l
fresh_at (Fresh n) k l a b = sym (eqb-true n k a) ∙ eqb-true n l b
fresh_at Staged k l a b = let d : false ≡ true = a in absurd (cc)
fresh_at Ready k l a b = let d : false ≡ true = a in absurd (cc)
fresh_at (Going n) k l a b = let d : false ≡ true = a in absurd (cc)
fresh_at Done k l a b = let d : false ≡ true = a in absurd (cc)

going_at : (s : JobState) (k l : ℕ) → is_going s k ≡ true → is_going s l ≡ true → k ≡ l
going_at (Fresh n) k l a b = let d : false ≡ true = a in absurd (cc)
going_at Staged k l a b = let d : false ≡ true = a in absurd (cc)
going_at Ready k l a b = let d : false ≡ true = a in absurd (cc)
going_at (Going n) k l a b = sym (eqb-true n k a) ∙ eqb-true n l b
going_at Done k l a b = let d : false ≡ true = a in absurd (cc)

finish_at : (x : Phase) (done : Bool) (i k : ℕ) → may_finish x done i ≡ true → may_finish x done k ≡ true → i ≡ k
finish_at Empty done i k a b = let d : false ≡ true = a in absurd (cc)
finish_at (Proposed s) done i k a b = let d : false ≡ true = a in absurd (cc)
finish_at Running done i k a b = eqb-true i 0 (and_parts (eqb i 0) done a).0 ∙ sym (eqb-true k 0 (and_parts (eqb k 0) done b).0)
finish_at (Finishing put s) done i k a b = sym (eqb-true put i (and_parts (ltb 0 i && ltb i 4) (eqb put i) a).1) ∙ eqb-true put k (and_parts (ltb 0 k && ltb k 4) (eqb put k) b).1
finish_at (Closing moved) done i k a b = let d : false ≡ true = a in absurd (cc)
finish_at Closed done i k a b = let d : false ≡ true = a in absurd (cc)
finish_at (Renewing put s) done i k a b = let d : false ≡ true = a in absurd (cc)

close_at : (x : Phase) (i k : ℕ) → may_close x i ≡ true → may_close x k ≡ true → i ≡ k
close_at Empty i k a b = let d : false ≡ true = a in absurd (cc)
close_at (Proposed s) i k a b = let d : false ≡ true = a in absurd (cc)
close_at Running i k a b = let d : false ≡ true = a in absurd (cc)
close_at (Finishing put s) i k a b = eqb-true i 0 (and_parts (eqb i 0) s a).0 ∙ sym (eqb-true k 0 (and_parts (eqb k 0) s b).0)
close_at (Closing moved) i k a b = sym (eqb-true moved i (and_parts (ltb 0 i && ltb i 4) (eqb moved i) a).1) ∙ eqb-true moved k (and_parts (ltb 0 k && ltb k 4) (eqb moved k) b).1
close_at Closed i k a b = let d : false ≡ true = a in absurd (cc)
close_at (Renewing put s) i k a b = let d : false ≡ true = a in absurd (cc)

-- no phase has both a part of the end and a text that is put anew
finish_alone : (x : Phase) (done : Bool) (i : ℕ) → may_finish x done i ≡ true → may_renew x ≡ true → ⊥
finish_alone Empty done i a b = let d : false ≡ true = a in cc
finish_alone (Proposed s) done i a b = let d : false ≡ true = a in cc
finish_alone Running done i a b = let d : false ≡ true = b in cc
finish_alone (Finishing put s) done i a b = let d : false ≡ true = b in cc
finish_alone (Closing moved) done i a b = let d : false ≡ true = a in cc
finish_alone Closed done i a b = let d : false ≡ true = a in cc
finish_alone (Renewing put s) done i a b = let d : false ≡ true = a in cc

close_alone : (x : Phase) (i : ℕ) → may_close x i ≡ true → may_replace x ≡ true → ⊥
close_alone Empty i a b = let d : false ≡ true = a in cc
close_alone (Proposed s) i a b = let d : false ≡ true = a in cc
close_alone Running i a b = let d : false ≡ true = a in cc
close_alone (Finishing put s) i a b = let d : false ≡ true = b in cc
close_alone (Closing moved) i a b = let d : false ≡ true = b in cc
close_alone Closed i a b = let d : false ≡ true = a in cc
close_alone (Renewing put s) i a b = let d : false ≡ true = a in cc

-- the job that a name speaks of
temp_job : (i j k l : ℕ) → i < 2 ^ 64 → j < 2 ^ 64 → name_text (temp i k) ≡ name_text (temp j l) → i ≡ j
temp_job i j k l a b h = decimal_injective i j a b (split_at_dot (decimal i) (decimal j) (decimal k) (decimal l) (decimal_no_dot i a) (decimal_no_dot j b) (ap (λ (t : List ℕ). drop 2 t) h)).0

commit_job : (i j : ℕ) → i < 2 ^ 64 → j < 2 ^ 64 → name_text (commit i) ≡ name_text (commit j) → i ≡ j
commit_job i j a b h = decimal_injective i j a b (ap (λ (t : List ℕ). drop 2 t) h)

-- ### Two events that are allowed, by what they put

staged_there : (c : CoreState) (j k : ℕ) → length c.states ≤ 2 ^ 32 → allows c (Stage j k) ≡ true → j < 2 ^ 64
staged_there c j k few al = wide few (there c.states j (λ (s : JobState). is_fresh s k) refl (and_parts (is_running c.phase) (is_fresh (state_of c j) k) al).1)

same_stage : (c : CoreState) (i j k l : ℕ) → length c.states ≤ 2 ^ 32 → allows c (Stage i k) ≡ true → allows c (Stage j l) ≡ true → name_text (temp i k) ≡ name_text (temp j l) → Stage i k ≡ Stage j l
same_stage c i j k l few a b h =
    let job : i ≡ j = temp_job i j k l (staged_there c i k few a) (staged_there c j l few b) h in
    let here : is_fresh (state_of c i) k ≡ true = (and_parts (is_running c.phase) (is_fresh (state_of c i) k) a).1 in
    let other : is_fresh (state_of c i) l ≡ true = subst (λ (x : ℕ). is_fresh (state_of c x) l ≡ true) (sym job) (and_parts (is_running c.phase) (is_fresh (state_of c j) l) b).1 in
    ap (λ (x : ℕ). Stage x k) job ∙ ap (λ (x : ℕ). Stage j x) (fresh_at (state_of c i) k l here other)

same_commit : (c : CoreState) (i j : ℕ) → length c.states ≤ 2 ^ 32 → allows c (Commit i) ≡ true → allows c (Commit j) ≡ true → name_text (commit i) ≡ name_text (commit j) → Commit i ≡ Commit j
same_commit c i j few a b h = ap (λ (x : ℕ). Commit x) (commit_job i j (wide few (there c.states i is_ready refl a)) (wide few (there c.states j is_ready refl b)) h)

put_once : (c : CoreState) (e f : Event) (a b : Name) → length c.states ≤ 2 ^ 32 → Puts e a → Puts f b → allows c e ≡ true → allows c f ≡ true → name_text a ≡ name_text b → e ≡ f
put_once c e f a b few puts_plan puts_plan x y h = refl
put_once c e f a b few puts_plan (puts_step {job = j} {step = l}) x y h = absurd (differ 0 1 (ap family h) refl)
put_once c e f a b few puts_plan (puts_mark {job = j}) x y h = absurd (differ 0 2 (ap family h) refl)
put_once c e f a b few puts_plan (puts_text {part = j}) x y h = absurd (differ 0 3 (ap family h ∙ fresh_family j) refl)
put_once c e f a b few puts_plan puts_again x y h = absurd (differ 0 3 (ap family h ∙ fresh_family 3) refl)
put_once c e f a b few (puts_step {job = i} {step = k}) puts_plan x y h = absurd (differ 1 0 (ap family h) refl)
put_once c e f a b few (puts_step {job = i} {step = k}) (puts_step {job = j} {step = l}) x y h = same_stage c i j k l few x y h
put_once c e f a b few (puts_step {job = i} {step = k}) (puts_mark {job = j}) x y h = absurd (differ 1 2 (ap family h) refl)
put_once c e f a b few (puts_step {job = i} {step = k}) (puts_text {part = j}) x y h = absurd (differ 1 3 (ap family h ∙ fresh_family j) refl)
put_once c e f a b few (puts_step {job = i} {step = k}) puts_again x y h = absurd (differ 1 3 (ap family h ∙ fresh_family 3) refl)
put_once c e f a b few (puts_mark {job = i}) puts_plan x y h = absurd (differ 2 0 (ap family h) refl)
put_once c e f a b few (puts_mark {job = i}) (puts_step {job = j} {step = l}) x y h = absurd (differ 2 1 (ap family h) refl)
put_once c e f a b few (puts_mark {job = i}) (puts_mark {job = j}) x y h = same_commit c i j few x y h
put_once c e f a b few (puts_mark {job = i}) (puts_text {part = j}) x y h = absurd (differ 2 3 (ap family h ∙ fresh_family j) refl)
put_once c e f a b few (puts_mark {job = i}) puts_again x y h = absurd (differ 2 3 (ap family h ∙ fresh_family 3) refl)
put_once c e f a b few (puts_text {part = i}) puts_plan x y h = absurd (differ 3 0 (sym (fresh_family i) ∙ ap family h) refl)
put_once c e f a b few (puts_text {part = i}) (puts_step {job = j} {step = l}) x y h = absurd (differ 3 1 (sym (fresh_family i) ∙ ap family h) refl)
put_once c e f a b few (puts_text {part = i}) (puts_mark {job = j}) x y h = absurd (differ 3 2 (sym (fresh_family i) ∙ ap family h) refl)
put_once c e f a b few (puts_text {part = i}) (puts_text {part = j}) x y h = ap (λ (z : ℕ). Finish z) (finish_at c.phase (all_done c.states) i j x y)
put_once c e f a b few (puts_text {part = i}) puts_again x y h = absurd (finish_alone c.phase (all_done c.states) i x y)
put_once c e f a b few puts_again puts_plan x y h = absurd (differ 3 0 (sym (fresh_family 3) ∙ ap family h) refl)
put_once c e f a b few puts_again (puts_step {job = j} {step = l}) x y h = absurd (differ 3 1 (sym (fresh_family 3) ∙ ap family h) refl)
put_once c e f a b few puts_again (puts_mark {job = j}) x y h = absurd (differ 3 2 (sym (fresh_family 3) ∙ ap family h) refl)
put_once c e f a b few puts_again (puts_text {part = j}) x y h = absurd (finish_alone c.phase (all_done c.states) j y x)
put_once c e f a b few puts_again puts_again x y h = refl

-- ### And by what they rename

going_there : (c : CoreState) (j k : ℕ) → length c.states ≤ 2 ^ 32 → allows c (Move j k) ≡ true → j < 2 ^ 64
going_there c j k few al = wide few (there c.states j (λ (s : JobState). is_going s k) refl al)

same_move : (c : CoreState) (i j k l : ℕ) → length c.states ≤ 2 ^ 32 → allows c (Move i k) ≡ true → allows c (Move j l) ≡ true → name_text (temp i k) ≡ name_text (temp j l) → Move i k ≡ Move j l
same_move c i j k l few a b h =
    let job : i ≡ j = temp_job i j k l (going_there c i k few a) (going_there c j l few b) h in
    let other : is_going (state_of c i) l ≡ true = subst (λ (x : ℕ). is_going (state_of c x) l ≡ true) (sym job) b in
    ap (λ (x : ℕ). Move x k) job ∙ ap (λ (x : ℕ). Move j x) (going_at (state_of c i) k l a other)

move_once : (c : CoreState) (e f : Event) (a b p q : Name) → length c.states ≤ 2 ^ 32 → Moves e a p → Moves f b q → allows c e ≡ true → allows c f ≡ true → name_text a ≡ name_text b → e ≡ f
move_once c e f a b p q few moves_plan moves_plan x y h = refl
move_once c e f a b p q few moves_plan (moves_step {job = j} {step = l}) x y h = absurd (differ 0 1 (ap family h) refl)
move_once c e f a b p q few moves_plan (moves_text {part = j}) x y h = absurd (differ 0 3 (ap family h ∙ fresh_family j) refl)
move_once c e f a b p q few moves_plan moves_again x y h = absurd (differ 0 3 (ap family h ∙ fresh_family 3) refl)
move_once c e f a b p q few (moves_step {job = i} {step = k}) moves_plan x y h = absurd (differ 1 0 (ap family h) refl)
move_once c e f a b p q few (moves_step {job = i} {step = k}) (moves_step {job = j} {step = l}) x y h = same_move c i j k l few x y h
move_once c e f a b p q few (moves_step {job = i} {step = k}) (moves_text {part = j}) x y h = absurd (differ 1 3 (ap family h ∙ fresh_family j) refl)
move_once c e f a b p q few (moves_step {job = i} {step = k}) moves_again x y h = absurd (differ 1 3 (ap family h ∙ fresh_family 3) refl)
move_once c e f a b p q few (moves_text {part = i}) moves_plan x y h = absurd (differ 3 0 (sym (fresh_family i) ∙ ap family h) refl)
move_once c e f a b p q few (moves_text {part = i}) (moves_step {job = j} {step = l}) x y h = absurd (differ 3 1 (sym (fresh_family i) ∙ ap family h) refl)
move_once c e f a b p q few (moves_text {part = i}) (moves_text {part = j}) x y h = ap (λ (z : ℕ). Close z) (close_at c.phase i j x y)
move_once c e f a b p q few (moves_text {part = i}) moves_again x y h = absurd (close_alone c.phase i x y)
move_once c e f a b p q few moves_again moves_plan x y h = absurd (differ 3 0 (sym (fresh_family 3) ∙ ap family h) refl)
move_once c e f a b p q few moves_again (moves_step {job = j} {step = l}) x y h = absurd (differ 3 1 (sym (fresh_family 3) ∙ ap family h) refl)
move_once c e f a b p q few moves_again (moves_text {part = j}) x y h = absurd (close_alone c.phase j y x)
move_once c e f a b p q few moves_again moves_again x y h = refl

-- ### One call

abbrev kind_of : Call → ℕ
kind_of (call.List folder) = 0
kind_of (call.Read path) = 1
kind_of (call.Put path) = 2
kind_of (call.Rename from to) = 3
kind_of (call.Remove path) = 4
kind_of call.Settle = 5

abbrev path_in : Call → List ℕ
path_in (call.List folder) = folder
path_in (call.Read path) = path
path_in (call.Put path) = path
path_in (call.Rename from to) = from
path_in (call.Remove path) = path
path_in call.Settle = []

one_core : (work : List ℕ) (c d e : CoreState) (k m : Call) → k ≡ m → length c.states ≤ 2 ^ 32 → RunsOne work c k d → RunsOne work c m e → d ≡ e
one_core work c d e k m same few (lists {folder = u1}) (lists {folder = u2}) = refl
one_core work c d e k m same few (lists {folder = u1}) (reads {path = u2}) = absurd (differ 0 1 (ap kind_of same) refl)
one_core work c d e k m same few (lists {folder = u1}) settles = absurd (differ 0 5 (ap kind_of same) refl)
one_core work c d e k m same few (lists {folder = u1}) (puts u2 v2 w2 x2) = absurd (differ 0 2 (ap kind_of same) refl)
one_core work c d e k m same few (lists {folder = u1}) (renames u2 v2 w2 x2 y2 z2) = absurd (differ 0 3 (ap kind_of same) refl)
one_core work c d e k m same few (lists {folder = u1}) (removes u2 v2) = absurd (differ 0 4 (ap kind_of same) refl)
one_core work c d e k m same few (reads {path = u1}) (lists {folder = u2}) = absurd (differ 1 0 (ap kind_of same) refl)
one_core work c d e k m same few (reads {path = u1}) (reads {path = u2}) = refl
one_core work c d e k m same few (reads {path = u1}) settles = absurd (differ 1 5 (ap kind_of same) refl)
one_core work c d e k m same few (reads {path = u1}) (puts u2 v2 w2 x2) = absurd (differ 1 2 (ap kind_of same) refl)
one_core work c d e k m same few (reads {path = u1}) (renames u2 v2 w2 x2 y2 z2) = absurd (differ 1 3 (ap kind_of same) refl)
one_core work c d e k m same few (reads {path = u1}) (removes u2 v2) = absurd (differ 1 4 (ap kind_of same) refl)
one_core work c d e k m same few settles (lists {folder = u2}) = absurd (differ 5 0 (ap kind_of same) refl)
one_core work c d e k m same few settles (reads {path = u2}) = absurd (differ 5 1 (ap kind_of same) refl)
one_core work c d e k m same few settles settles = refl
one_core work c d e k m same few settles (puts u2 v2 w2 x2) = absurd (differ 5 2 (ap kind_of same) refl)
one_core work c d e k m same few settles (renames u2 v2 w2 x2 y2 z2) = absurd (differ 5 3 (ap kind_of same) refl)
one_core work c d e k m same few settles (removes u2 v2) = absurd (differ 5 4 (ap kind_of same) refl)
one_core work c d e k m same few (puts u1 v1 w1 x1) (lists {folder = u2}) = absurd (differ 2 0 (ap kind_of same) refl)
one_core work c d e k m same few (puts u1 v1 w1 x1) (reads {path = u2}) = absurd (differ 2 1 (ap kind_of same) refl)
one_core work c d e k m same few (puts u1 v1 w1 x1) settles = absurd (differ 2 5 (ap kind_of same) refl)
one_core work c d e k m same few (puts u1 v1 w1 x1) (puts u2 v2 w2 x2) = ap (λ (x : Event). after c x) (put_once c u1 u2 v1 v2 few w1 w2 x1 x2 (same_text work v1 v2 (ap path_in same)))
one_core work c d e k m same few (puts u1 v1 w1 x1) (renames u2 v2 w2 x2 y2 z2) = absurd (differ 2 3 (ap kind_of same) refl)
one_core work c d e k m same few (puts u1 v1 w1 x1) (removes u2 v2) = absurd (differ 2 4 (ap kind_of same) refl)
one_core work c d e k m same few (renames u1 v1 w1 x1 y1 z1) (lists {folder = u2}) = absurd (differ 3 0 (ap kind_of same) refl)
one_core work c d e k m same few (renames u1 v1 w1 x1 y1 z1) (reads {path = u2}) = absurd (differ 3 1 (ap kind_of same) refl)
one_core work c d e k m same few (renames u1 v1 w1 x1 y1 z1) settles = absurd (differ 3 5 (ap kind_of same) refl)
one_core work c d e k m same few (renames u1 v1 w1 x1 y1 z1) (puts u2 v2 w2 x2) = absurd (differ 3 2 (ap kind_of same) refl)
one_core work c d e k m same few (renames u1 v1 w1 x1 y1 z1) (renames u2 v2 w2 x2 y2 z2) = ap (λ (x : Event). after c x) (move_once c u1 u2 v1 v2 w1 w2 few y1 y2 z1 z2 (same_text work v1 v2 (ap path_in same)))
one_core work c d e k m same few (renames u1 v1 w1 x1 y1 z1) (removes u2 v2) = absurd (differ 3 4 (ap kind_of same) refl)
one_core work c d e k m same few (removes u1 v1) (lists {folder = u2}) = absurd (differ 4 0 (ap kind_of same) refl)
one_core work c d e k m same few (removes u1 v1) (reads {path = u2}) = absurd (differ 4 1 (ap kind_of same) refl)
one_core work c d e k m same few (removes u1 v1) settles = absurd (differ 4 5 (ap kind_of same) refl)
one_core work c d e k m same few (removes u1 v1) (puts u2 v2 w2 x2) = absurd (differ 4 2 (ap kind_of same) refl)
one_core work c d e k m same few (removes u1 v1) (renames u2 v2 w2 x2 y2 z2) = absurd (differ 4 3 (ap kind_of same) refl)
one_core work c d e k m same few (removes u1 v1) (removes u2 v2) = refl

-- ### Calls one after the other

kept_length : (c : CoreState) (e : Event) → length (after c e).states ≡ length c.states
kept_length c Propose = refl
kept_length c Adopt = refl
kept_length c (Stage j k) = length-set c.states j _
kept_length c Settle = length-map c.states settled_job
kept_length c (Commit j) = length-set c.states j _
kept_length c (Move j k) = length-set c.states j _
kept_length c (Finish i) = refl
kept_length c (Close i) = refl
kept_length c Clear = refl
kept_length c Renew = refl
kept_length c Replace = refl

one_length : (work : List ℕ) (c d : CoreState) (k : Call) → RunsOne work c k d → length d.states ≡ length c.states
one_length work c d k (lists {folder = f}) = refl
one_length work c d k (reads {path = p}) = refl
one_length work c d k settles = kept_length c Settle
one_length work c d k (puts e n is al) = kept_length c e
one_length work c d k (renames e a b to is al) = kept_length c e
one_length work c d k (removes q may) = refl

abbrev first_call : List Call → Call
first_call [] = call.Settle
first_call (k ∷ ks) = k

abbrev other_calls : List Call → List Call
other_calls [] = []
other_calls (k ∷ ks) = ks

pub run_one : (work : List ℕ) (c d e : CoreState) (ks ms : List Call) → ks ≡ ms → length c.states ≤ 2 ^ 32 → Runs work c ks d → Runs work c ms e → d ≡ e
run_one work c d e ks ms same few none none = refl
run_one work c d e ks ms same few none (more {d = b} {k = m} {ks = rest} one run) = let h : 0 ≡ suc (length rest) = ap (λ (l : List Call). length l) same in absurd (omega (arith, h))
run_one work c d e ks ms same few (more {d = a} {k = k} {ks = rest} one run) none = let h : suc (length rest) ≡ 0 = ap (λ (l : List Call). length l) same in absurd (omega (arith, h))
run_one work c d e ks ms same few (more {d = a} {k = k} {ks = firsts} one run) (more {d = b} {k = m} {ks = seconds} other go) =
    let cores : a ≡ b = one_core work c a b k m (ap first_call same) few one other in
    let long = one_length work c a k one in
    run_one work a d e firsts seconds (ap other_calls same) (omega (arith, long, few)) run (subst (λ (x : CoreState). Runs work x seconds e) (sym cores) go)
