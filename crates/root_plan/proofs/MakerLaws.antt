-- What jobs make: steps, targets and nodes.
use Rattle.std.proofs.Common.{◌≡◌, ◌≢◌, ℕ, zero, suc, ◌<◌, Bool, true, false, ◌&&◌, not, if◌then◌else◌, List, [], ◌∷◌, ◌++◌, length, map, get_or, refl, sym, ap, ◌∙◌, subst, arith, Result, Ok, Err}
use Rattle.std.specs.Prelude.{◌==◌, IsOkUnless, IfErr}
use Rattle.std.proofs.lemmas.List.{append_assoc, append-nil, length-map, get_or-map}
use Rattle.sha1.specs.Sha1.{sha1}
use Rattle.dw_base.specs.declared.fault.Refusal.{Refusal}
use Rattle.dw_base.specs.declared.fault.Fault.{Fault}
use Rattle.dw_base.specs.declared.fault.Fault.TheVariants as fault
use Rattle.dw_base.specs.Texts.{same_text}
use Rattle.dw_base.proofs.TextLaws.{same_text-true, same_text-from}
use Rattle.file_tree.specs.declared.node.Node.{Node}
use Rattle.file_tree.specs.declared.node.Node.TheVariants as node
use Rattle.work_texts.specs.declared.plan.JobLine.{JobLine}
use Rattle.work_journal.specs.declared.maker.MakeErr.{MakeErr}
use Rattle.work_journal.specs.declared.maker.MakeErr.TheVariants as make
use Rattle.root_plan.specs.Targets.{debug_path, file_link, debug_link, link_target, debug_name, has_links, links_of, targets_of}
use Rattle.root_plan.specs.Verdicts.{JudgeView, IsJudge, Pair}
use Rattle.root_plan.specs.Makers.{link_nodes, pair_nodes, EditedNodes, NodesOf, JobFails, IsJobRefused, EditEnds, SplitEnds, EditedEnds, MakeEnds, job_at, no_job}
use Rattle.root_plan.specs.Makers.{EditedNodes as edited_nodes, JobFails as job_fails, EditEnds as edit, SplitEnds as splits, EditedEnds as edits, MakeEnds as ends}

-- ### Steps and targets

split-both : (s : Bool) (n : Bool) → (s && n) ≡ true → s ≡ true
split-both true n e = refl
split-both false n e = cc

linked_split : (job : JobLine) → has_links job ≡ true → job.split ≡ true
linked_split job e = split-both job.split (not (length job.id == 0)) e

targets-edited : (job : JobLine) → job.split ≡ false → targets_of job ≡ job.path ∷ []
targets-edited job e = rw e refl

targets-linked : (job : JobLine) → has_links job ≡ true → targets_of job ≡ debug_path job.path ∷ file_link job ∷ debug_link job ∷ job.path ∷ []
targets-linked job e =
    ap (λ (s : Bool). (if s then debug_path job.path ∷ links_of job else []) ++ job.path ∷ []) (linked_split job e)
    ∙ ap (λ (l : Bool). (debug_path job.path ∷ (if l then file_link job ∷ debug_link job ∷ [] else [])) ++ job.path ∷ []) e

targets-split : (job : JobLine) → job.split ≡ true → has_links job ≡ false → targets_of job ≡ debug_path job.path ∷ job.path ∷ []
targets-split job e f =
    ap (λ (s : Bool). (if s then debug_path job.path ∷ links_of job else []) ++ job.path ∷ []) e
    ∙ ap (λ (l : Bool). (debug_path job.path ∷ (if l then file_link job ∷ debug_link job ∷ [] else [])) ++ job.path ∷ []) f

pub count-edited : (job : JobLine) → job.split ≡ false → 1 ≡ length (targets_of job)
count-edited job e = sym (ap length (targets-edited job e))

pub count-linked : (job : JobLine) → has_links job ≡ true → 4 ≡ length (targets_of job)
count-linked job e = sym (ap length (targets-linked job e))

pub count-split : (job : JobLine) → job.split ≡ true → has_links job ≡ false → 2 ≡ length (targets_of job)
count-split job e f = sym (ap length (targets-split job e f))

pub ruleset step_rules = (count-edited, count-linked, count-split)

-- the target of a step, by what is known of the job and of the step
pub at_edited : (job : JobLine) (k : ℕ) (s : List ℕ) → job.split ≡ false → k < length (targets_of job) → s ≡ job.path → s ≡ get_or (targets_of job) k []
at_edited job zero s e l is = is ∙ sym (ap (λ (ts : List (List ℕ)). get_or ts 0 []) (targets-edited job e))
at_edited job (suc k) s e l is = absurd (omega (arith, l, ap length (targets-edited job e)))

pub at_debug : (job : JobLine) (k : ℕ) (s : List ℕ) → job.split ≡ true → k ≡ 0 → s ≡ debug_path job.path → s ≡ get_or (targets_of job) k []
at_debug job k s e z is = rw (z, e) is

pub at_split : (job : JobLine) (k : ℕ) (s : List ℕ) → job.split ≡ true → has_links job ≡ false → k ≢ 0 → k < length (targets_of job) → s ≡ job.path → s ≡ get_or (targets_of job) k []
at_split job zero s e f z l is = absurd (z refl)
at_split job (suc zero) s e f z l is = is ∙ sym (ap (λ (ts : List (List ℕ)). get_or ts 1 []) (targets-split job e f))
at_split job (suc (suc k)) s e f z l is = absurd (omega (arith, l, ap length (targets-split job e f)))

pub at_file_link : (job : JobLine) (k : ℕ) (s : List ℕ) → has_links job ≡ true → k ≡ 1 → s ≡ file_link job → s ≡ get_or (targets_of job) k []
at_file_link job k s e z is = rw z (is ∙ sym (ap (λ (ts : List (List ℕ)). get_or ts 1 []) (targets-linked job e)))

pub at_debug_link : (job : JobLine) (k : ℕ) (s : List ℕ) → has_links job ≡ true → k ≡ 2 → s ≡ debug_link job → s ≡ get_or (targets_of job) k []
at_debug_link job k s e z is = rw z (is ∙ sym (ap (λ (ts : List (List ℕ)). get_or ts 2 []) (targets-linked job e)))

pub at_last : (job : JobLine) (k : ℕ) (s : List ℕ) → has_links job ≡ true → k ≢ 0 → k ≢ 1 → k ≢ 2 → k < length (targets_of job) → s ≡ job.path → s ≡ get_or (targets_of job) k []
at_last job k s e a b c l is =
    let three : k ≡ 3 = omega (arith, a, b, c, l, ap length (targets-linked job e)) in
    rw three (is ∙ sym (ap (λ (ts : List (List ℕ)). get_or ts 3 []) (targets-linked job e)))

-- a job with links has a build-id
pub links_some : (job : JobLine) → has_links job ≡ true → 0 < length job.id
links_some job e = by_test (length job.id) (length job.id == 0) refl (split-right job.split (not (length job.id == 0)) e)
  where
    split-right : (s n : Bool) → (s && n) ≡ true → n ≡ true
    split-right true n e = e
    split-right false n e = cc

    by_test : (n : ℕ) (b : Bool) → (n == 0) ≡ b → not b ≡ true → 0 < n
    by_test n true z e = cc
    by_test zero false z e = cc
    by_test (suc n) false z e = omega arith

pub ruleset target_rules = (at_edited, at_debug, at_split, at_file_link, at_debug_link, at_last, links_some)

-- ### Nodes

pub no_link_nodes : (nodes : List Node) (job : JobLine) → has_links job ≡ false → nodes ≡ nodes ++ link_nodes job
no_link_nodes nodes job e = rw e (sym (append-nil nodes))

pub two_link_nodes : (nodes new : List Node) (job : JobLine) (path : List ℕ) → has_links job ≡ true → path ≡ debug_path job.path
    → new ≡ (nodes ++ node.Link (link_target job.path) ∷ []) ++ node.Link (link_target path) ∷ [] → new ≡ nodes ++ link_nodes job
two_link_nodes nodes new job path e is made =
    rw e (made ∙ append_assoc nodes (node.Link (link_target job.path) ∷ []) (node.Link (link_target path) ∷ []) ∙ ap (λ (p : List ℕ). nodes ++ node.Link (link_target job.path) ∷ node.Link (link_target p) ∷ []) is)

pub ruleset node_rules = (no_link_nodes, two_link_nodes)

-- ### Ends

-- where a call refuses, nothing is made
none-made : {X Y : Type 0} (result : Result X Fault) (made : Y → Type 0) (r : Refusal) → result ≡ Err (fault.Refused r)
    → ((y : Y) → made y → IsOkUnless result fault.NoMemory) → (y : Y) → made y → ⊥
none-made {X} result made r is whole y m = apart (subst (λ (q : Result X Fault). IsOkUnless q fault.NoMemory) is (whole y m))
  where
    apart : fault.Refused r ≡ fault.NoMemory → ⊥
    apart e = cc

pub edit_refused : {X : Type 0} (result : Result X Fault) (v : JudgeView) (edit_fails : List ℕ → Refusal → Type 0) (bytes : List ℕ) (r : Refusal) → result ≡ Err (fault.Refused r)
    → ((file : List ℕ) → v.edits bytes file → IsOkUnless result fault.NoMemory) → edit_fails bytes r → EditEnds v edit_fails bytes (make.Refused r)
edit_refused result v edit_fails bytes r is whole f = edit.refused (none-made result (v.edits bytes) r is whole) f

pub split_refused : {X : Type 0} (result : Result X Fault) (v : JudgeView) (fails : List ℕ → List ℕ → Refusal → Type 0) (file name : List ℕ) (r : Refusal) → result ≡ Err (fault.Refused r)
    → ((pair : Pair) → v.pairs file name pair → IsOkUnless result fault.NoMemory) → fails file name r → SplitEnds v fails file name (make.Refused r)
split_refused result v fails file name r is whole f = splits.refused (none-made result (v.pairs file name) r is whole) f

pub pair_made : (v : JudgeView) (job : JobLine) (mode : ℕ) (file name : List ℕ) (pair : Pair) (ns : List Node) → job.split ≡ true → name ≡ debug_name job.path → v.pairs file name pair
    → ns ≡ pair_nodes job mode pair → EditedNodes v job file mode ns
pair_made v job mode file name pair ns s named e is =
    subst (EditedNodes v job file mode) (sym is) (edited_nodes.two_files s (subst (λ (n : List ℕ). v.pairs file n pair) named e))

pub split_ends : (v : JudgeView) (fails : List ℕ → List ℕ → Refusal → Type 0) (job : JobLine) (file name : List ℕ) (e : MakeErr) → name ≡ debug_name job.path
    → SplitEnds v fails file name e → SplitEnds v fails file (debug_name job.path) e
split_ends v fails job file name e named ended = subst (λ (n : List ℕ). SplitEnds v fails file n e) named ended

pub edited_only : (v : JudgeView) (job : JobLine) (mode : ℕ) (file : List ℕ) (ns : List Node) → job.split ≡ false → ns ≡ node.File file mode ∷ []
    → EditedNodes v job file mode ns
edited_only v job mode file ns e is = subst (EditedNodes v job file mode) (sym is) (edited_nodes.one_file e)

pub ruleset end_rules = (edit.no_memory, splits.no_memory, pair_made, split_ends, edited_only, edits.refused, edits.no_memory)

pub nodes_made : (v : JudgeView) (job : JobLine) (bytes file : List ℕ) (mode : ℕ) (ns : List Node) → same_text (sha1 bytes) job.digest ≡ true → v.edits bytes file
    → EditedNodes v job file mode ns → NodesOf v job bytes mode ns
nodes_made v job bytes file mode ns same e made = record { planned = same_text-true (sha1 bytes) job.digest same; file = file; edits = e; makes = made }

pub ends_changed : (v : JudgeView) (edit_fails : List ℕ → Refusal → Type 0) (split_fails : List ℕ → List ℕ → Refusal → Type 0) (job : JobLine) (bytes : List ℕ) (mode : ℕ)
    → same_text (sha1 bytes) job.digest ≡ false → MakeEnds v edit_fails split_fails job bytes mode (make.Changed job.digest (sha1 bytes))
ends_changed v edit_fails split_fails job bytes mode e = ends.changed (λ same. apart (sym (same_text-from (sha1 bytes) job.digest same) ∙ e))
  where
    apart : true ≡ false → ⊥
    apart e = cc

pub ends_edit : (v : JudgeView) (edit_fails : List ℕ → Refusal → Type 0) (split_fails : List ℕ → List ℕ → Refusal → Type 0) (job : JobLine) (bytes : List ℕ) (mode : ℕ) (e : MakeErr)
    → same_text (sha1 bytes) job.digest ≡ true → EditEnds v edit_fails bytes e → MakeEnds v edit_fails split_fails job bytes mode e
ends_edit v edit_fails split_fails job bytes mode e same (edit.refused none f) =
    ends.refused (same_text-true (sha1 bytes) job.digest same) (λ ns made. none made.file made.edits) (job_fails.not_edited f)
ends_edit v edit_fails split_fails job bytes mode e same edit.no_memory = ends.no_memory

no-nodes : (v : JudgeView) (job : JobLine) (file : List ℕ) (mode : ℕ) (ns : List Node) → job.split ≡ true → ((pair : Pair) → v.pairs file (debug_name job.path) pair → ⊥)
    → EditedNodes v job file mode ns → ⊥
no-nodes v job file mode ns s none (edited_nodes.one_file t) = not-both job.split s t
  where
    not-both : (b : Bool) → b ≡ true → b ≡ false → ⊥
    not-both true e f = cc
    not-both false e f = cc
no-nodes v job file mode ns s none (edited_nodes.two_files {pair} t e) = none pair e

module _ (v : JudgeView) (judge : IsJudge v) (edit_fails : List ℕ → Refusal → Type 0) (split_fails : List ℕ → List ℕ → Refusal → Type 0) (job : JobLine) (bytes file : List ℕ) (mode : ℕ) where
  ends-split : (e : MakeErr) → same_text (sha1 bytes) job.digest ≡ true → v.edits bytes file → job.split ≡ true → SplitEnds v split_fails file (debug_name job.path) e
      → MakeEnds v edit_fails split_fails job bytes mode e
  ends-split e same is s (splits.refused none f) =
      ends.refused (same_text-true (sha1 bytes) job.digest same)
      (λ ns made. no-nodes v job file mode ns s none (subst (λ (x : List ℕ). EditedNodes v job x mode ns) (judge.one_file bytes made.file file made.edits is) made.makes))
      (job_fails.not_split s is f)
  ends-split e same is s splits.no_memory = ends.no_memory

  pub ends_edited : (e : MakeErr) → same_text (sha1 bytes) job.digest ≡ true → v.edits bytes file → EditedEnds v split_fails job file e → MakeEnds v edit_fails split_fails job bytes mode e
  ends_edited e same is (edits.refused s f) = ends-split e same is s f
  ends_edited e same is edits.no_memory = ends.no_memory

pub ruleset make_rules = (nodes_made, ends_changed, ends_edit)

-- ### The view of a plan

count-at : (jobs : List JobLine) (j : ℕ) → j < length (map (λ (job : JobLine). length (targets_of job)) jobs)
    → get_or (map (λ (job : JobLine). length (targets_of job)) jobs) j 0 ≡ length (targets_of (job_at jobs j))
count-at jobs j l = get_or-map (λ (job : JobLine). length (targets_of job)) jobs j no_job 0 (subst (λ (n : ℕ). j < n) (length-map jobs (λ (job : JobLine). length (targets_of job))) l)

pub job_there : (jobs : List JobLine) (j : ℕ) → j < length (map (λ (job : JobLine). length (targets_of job)) jobs) → j < length jobs
job_there jobs j l = subst (λ (n : ℕ). j < n) (length-map jobs (λ (job : JobLine). length (targets_of job))) l

pub job_count : (jobs : List JobLine) → length jobs ≡ length (map (λ (job : JobLine). length (targets_of job)) jobs)
job_count jobs = sym (length-map jobs (λ (job : JobLine). length (targets_of job)))

pub step_there : (jobs : List JobLine) (j : ℕ) (k : ℕ) (job : JobLine) → j < length (map (λ (job : JobLine). length (targets_of job)) jobs)
    → k < get_or (map (λ (job : JobLine). length (targets_of job)) jobs) j 0 → job ≡ job_at jobs j → k < length (targets_of job)
step_there jobs j k job l s is = subst (λ (x : JobLine). k < length (targets_of x)) (sym is) (subst (λ (n : ℕ). k < n) (count-at jobs j l) s)

pub steps_at : (jobs : List JobLine) (j : ℕ) (n : ℕ) (job : JobLine) → j < length (map (λ (job : JobLine). length (targets_of job)) jobs) → job ≡ job_at jobs j
    → n ≡ length (targets_of job) → n ≡ get_or (map (λ (job : JobLine). length (targets_of job)) jobs) j 0
steps_at jobs j n job l is e = e ∙ ap (λ (x : JobLine). length (targets_of x)) is ∙ sym (count-at jobs j l)

pub ruleset view_rules = (job_there, job_count, step_there, steps_at)

-- two nodes that were pushed are the job's links
pub two_pushed : (nodes mid new : List Node) (job : JobLine) (path p q : List ℕ) (a b : Node) → has_links job ≡ true → path ≡ debug_path job.path
    → p ≡ job.path → a ≡ node.Link (link_target p) → mid ≡ nodes ++ a ∷ [] → q ≡ path → b ≡ node.Link (link_target q) → new ≡ mid ++ b ∷ [] → new ≡ nodes ++ link_nodes job
two_pushed nodes mid new job path p q a b e is pi ai mi qi bi ni =
    let first : mid ≡ nodes ++ node.Link (link_target job.path) ∷ [] = mi ∙ ap (λ (n : Node). nodes ++ n ∷ []) (ai ∙ ap (λ (t : List ℕ). node.Link (link_target t)) pi) in
    let second : new ≡ mid ++ node.Link (link_target path) ∷ [] = ni ∙ ap (λ (n : Node). mid ++ n ∷ []) (bi ∙ ap (λ (t : List ℕ). node.Link (link_target t)) qi) in
    two_link_nodes nodes new job path e is (second ∙ ap (λ (ns : List Node). ns ++ node.Link (link_target path) ∷ []) first)

-- ### What a maker owes

abbrev err_in : {X : Type 0} → MakeErr → Result X MakeErr → MakeErr
err_in d (Ok x) = d
err_in d (Err e) = e

abbrev refusal_in : Refusal → MakeErr → Refusal
refusal_in d (make.Changed p f) = d
refusal_in d (make.Refused r) = r
refusal_in d make.NoMemory = d

-- a file of which nodes are made has some under any mode
record NodesUnder (v : JudgeView) (job : JobLine) (bytes : List ℕ) (mode : ℕ) : Type 0 where
  nodes : List Node
  made : NodesOf v job bytes mode nodes

edited-under : (v : JudgeView) (job : JobLine) (bytes file : List ℕ) (m n : ℕ) (ns : List Node) → sha1 bytes ≡ job.digest → v.edits bytes file → EditedNodes v job file m ns → NodesUnder v job bytes n
edited-under v job bytes file m n ns same edits (edited_nodes.one_file s) =
    record { nodes = node.File file n ∷ []; made = record { planned = same; file = file; edits = edits; makes = edited_nodes.one_file s } }
edited-under v job bytes file m n ns same edits (edited_nodes.two_files {pair} s e) =
    record { nodes = pair_nodes job n pair; made = record { planned = same; file = file; edits = edits; makes = edited_nodes.two_files s e } }

made-under : (v : JudgeView) (job : JobLine) (bytes : List ℕ) (m n : ℕ) (ns : List Node) → NodesOf v job bytes m ns → NodesUnder v job bytes n
made-under v job bytes m n ns made = edited-under v job bytes made.file m n ns made.planned made.edits made.makes

refused_by : (v : JudgeView) (edit_fails : List ℕ → Refusal → Type 0) (split_fails : List ℕ → List ℕ → Refusal → Type 0) (job : JobLine) (bytes : List ℕ) (mode : ℕ) (e : MakeErr) (r : Refusal)
    → MakeEnds v edit_fails split_fails job bytes mode e → e ≡ make.Refused r → IsJobRefused v edit_fails split_fails job bytes r
refused_by v edit_fails split_fails job bytes mode e r (ends.changed other) is = cc
refused_by v edit_fails split_fails job bytes mode e r (ends.refused same none f) is = record {
  fails = subst (λ (q : Refusal). JobFails v edit_fails split_fails job bytes q) (ap (refusal_in r) is) f;
  unmade = λ m ns made. let u = made-under v job bytes m mode ns made in none u.nodes u.made;
}
refused_by v edit_fails split_fails job bytes mode e r ends.no_memory is = cc

pub make_refused : {X : Type 0} (result : Result X MakeErr) (v : JudgeView) (edit_fails : List ℕ → Refusal → Type 0) (split_fails : List ℕ → List ℕ → Refusal → Type 0) (job at : JobLine)
    (bytes : List ℕ) (mode : ℕ) → job ≡ at → IfErr result (MakeEnds v edit_fails split_fails job bytes mode) → (r : Refusal) → result ≡ Err (make.Refused r)
    → IsJobRefused v edit_fails split_fails at bytes r
make_refused {X} (Ok x) v edit_fails split_fails job at bytes mode is ended r e = cc
make_refused {X} (Err q) v edit_fails split_fails job at bytes mode is ended r e =
    subst (λ (j : JobLine). IsJobRefused v edit_fails split_fails j bytes r) is (refused_by v edit_fails split_fails job bytes mode q r ended (ap (err_in {X = X} q) e))

whole_by : (v : JudgeView) (edit_fails : List ℕ → Refusal → Type 0) (split_fails : List ℕ → List ℕ → Refusal → Type 0) (job : JobLine) (bytes : List ℕ) (mode : ℕ) (e : MakeErr) (ns : List Node)
    → MakeEnds v edit_fails split_fails job bytes mode e → NodesOf v job bytes mode ns → e ≡ make.NoMemory
whole_by v edit_fails split_fails job bytes mode e ns (ends.changed other) made = absurd (other made.planned)
whole_by v edit_fails split_fails job bytes mode e ns (ends.refused same none f) made = absurd (none ns made)
whole_by v edit_fails split_fails job bytes mode e ns ends.no_memory made = refl

pub make_whole : {X : Type 0} (result : Result X MakeErr) (v : JudgeView) (edit_fails : List ℕ → Refusal → Type 0) (split_fails : List ℕ → List ℕ → Refusal → Type 0) (job at : JobLine)
    (bytes : List ℕ) (mode : ℕ) → job ≡ at → IfErr result (MakeEnds v edit_fails split_fails job bytes mode) → (ns : List Node) → NodesOf v at bytes mode ns
    → IsOkUnless result make.NoMemory
make_whole {X} (Ok x) v edit_fails split_fails job at bytes mode is ended ns made = tt
make_whole {X} (Err q) v edit_fails split_fails job at bytes mode is ended ns made =
    whole_by v edit_fails split_fails job bytes mode q ns ended (subst (λ (j : JobLine). NodesOf v j bytes mode ns) (sym is) made)
