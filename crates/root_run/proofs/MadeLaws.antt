-- The jobs of a plan that was made of a tree before its run have their files there, and make nodes of them.
use Rattle.std.proofs.Common.{◌≡◌, ℕ, zero, suc, ◌<◌, ◌≤◌, Bool, true, false, if◌then◌else◌, List, [], ◌∷◌, length, nat_le, refl, sym, ap, subst, ◌∙◌, leb-true, arith}
use Rattle.std.specs.Prelude.{Option, Some, None}
use Rattle.std.specs.List.{All, list_any}
use Rattle.std.specs.FinMap as fin
use Rattle.std.proofs.lemmas.List.Elements.{All-head, All-tail}
use Rattle.dw_base.specs.Layout.{file_limit}
use Rattle.file_tree.specs.declared.node.Node.{Node}
use Rattle.file_tree.specs.declared.node.Node.TheVariants as node
use Rattle.file_tree.specs.declared.node.Found.TheVariants as found
use Rattle.file_tree.specs.Trees.{TreeMap, stands_at, found_of, is_below}
use Rattle.job_types.specs.Settings.{Settings}
use Rattle.job_types.specs.declared.outcome.Verdict.{Verdict}
use Rattle.job_types.specs.declared.outcome.Verdict.TheVariants.{Left, Edited, Split}
use Rattle.work_texts.specs.declared.plan.JobLine.{JobLine}
use Rattle.root_plan.specs.Jobs.{ComesOf, HasFile}
use Rattle.root_plan.specs.Jobs.{ComesOf as comes}
use Rattle.root_plan.specs.Makers.{NodesOf, job_at, pair_nodes}
use Rattle.root_plan.specs.Makers.{EditedNodes as nodes}
use Rattle.root_plan.specs.Roots.{in_root, may_be_candidate}
use Rattle.root_plan.specs.Targets.{debug_name}
use Rattle.root_plan.specs.Verdicts.{JudgeView, IsJudge, Made}
use Rattle.root_plan.specs.Verdicts.{Made as made}
use Rattle.root_run.specs.Wholes.{IsJobMade, AreMade, nodes_at}

-- ### A file that a read gives stands in the map

pub record Stands (o : Option Node) (limit : ℕ) (bytes : List ℕ) (mode : ℕ) : Type 0 where
  pub there : o ≡ Some (node.File bytes mode)
  pub within : length bytes ≤ limit

same-bytes : (b c : List ℕ) (m n : ℕ) → found.File b m ≡ found.File c n → b ≡ c
same-bytes b c m n e = cc

same-mode : (b c : List ℕ) (m n : ℕ) → found.File b m ≡ found.File c n → m ≡ n
same-mode b c m n e = cc

no-large : (k : ℕ) (c : List ℕ) (n : ℕ) → found.TooLarge k ≡ found.File c n → ⊥
no-large k c n e = cc

no-link : (x c : List ℕ) (n : ℕ) → found.Link x ≡ found.File c n → ⊥
no-link x c n e = cc

no-folder : (c : List ℕ) (n : ℕ) → found.Folder ≡ found.File c n → ⊥
no-folder c n e = cc

no-file : (c : List ℕ) (n : ℕ) → found.Absent ≡ found.File c n → ⊥
no-file c n e = cc

same-node : (b c : List ℕ) (m n : ℕ) → b ≡ c → m ≡ n → node.File b m ≡ node.File c n
same-node b c m n e f = ap (λ (x : List ℕ). node.File x m) e ∙ ap (λ (k : ℕ). node.File c k) f

file-by : (b c : List ℕ) (m n limit : ℕ) (test : Bool) → nat_le (length b) limit ≡ test
    → (if test then found.File b m else found.TooLarge (length b)) ≡ found.File c n → Stands (Some (node.File b m)) limit c n
file-by b c m n limit true within e = record {
  there = ap (λ (x : Node). Some x) (same-node b c m n (same-bytes b c m n e) (same-mode b c m n e));
  within = subst (λ (x : List ℕ). length x ≤ limit) (same-bytes b c m n e) (leb-true (length b) limit within);
}
file-by b c m n limit false within e = absurd (no-large (length b) c n e)

found-stands : (o : Option Node) (below : Bool) (limit : ℕ) (c : List ℕ) (n : ℕ) → found_of o below limit ≡ found.File c n → Stands o limit c n
found-stands (Some (node.File b m)) below limit c n e = file-by b c m n limit (nat_le (length b) limit) refl e
found-stands (Some (node.Link x)) below limit c n e = absurd (no-link x c n e)
found-stands None true limit c n e = absurd (no-folder c n e)
found-stands None false limit c n e = absurd (no-file c n e)

pub read-stands : (t : TreeMap) (path : List ℕ) (limit : ℕ) (c : List ℕ) (n : ℕ) → stands_at t path limit ≡ found.File c n → Stands (fin.get t path) limit c n
unfolding stands_at
read-stands t path limit c n e = found-stands (fin.get t path) (list_any (is_below path) (fin.keys t)) limit c n e

-- ### The nodes of a job

pub record NodesMade (v : JudgeView) (job : JobLine) (bytes : List ℕ) (mode : ℕ) : Type 0 where
  pub nodes : List Node
  pub made : NodesOf v job bytes mode nodes

abbrev is_left : Verdict → Bool
is_left (Left why) = true
is_left (Edited names) = false
is_left (Split id names) = false

comes-not-left : (job : JobLine) (verdict : Verdict) → ComesOf job verdict → is_left verdict ≡ false
comes-not-left job (Left why) c = elim c [ ]
comes-not-left job (Edited names) (comes.of_edited s i) = refl
comes-not-left job (Split id names) (comes.of_split s i) = refl

never-left : true ≡ false → ⊥
never-left e = cc

edited-split : (job : JobLine) (names : List (List ℕ)) → ComesOf job (Edited names) → job.split ≡ false
edited-split job names (comes.of_edited s i) = s

split-split : (job : JobLine) (id : Option (List ℕ)) (names : List (List ℕ)) → ComesOf job (Split id names) → job.split ≡ true
split-split job id names (comes.of_split s i) = s

verdict-made : (old : Option TreeMap) (root : List ℕ) (s : Settings) (v : JudgeView) (job : JobLine) (h : HasFile old root s v job) (verdict : Verdict)
    → Made v h.bytes (debug_name job.path) verdict → ComesOf job verdict → NodesMade v job h.bytes h.mode
verdict-made old root s v job h (Left why) made.not_made c = absurd (never-left (comes-not-left job (Left why) c))
verdict-made old root s v job h (Edited names) (made.made_one {file = f} e sources) c =
    record { nodes = node.File f h.mode ∷ []; made = record { planned = sym h.digest; file = f; edits = e; makes = nodes.one_file (edited-split job names c) } }
verdict-made old root s v job h (Split id names) (made.made_two {file = f} {pair = p} e q may whole sources) c =
    record { nodes = pair_nodes job h.mode p; made = record { planned = sym h.digest; file = f; edits = e; makes = nodes.two_files (split-split job id names c) q } }

pub record JobMade (start : TreeMap) (root : List ℕ) (v : JudgeView) (job : JobLine) : Type 0 where
  pub nodes : List Node
  pub is : IsJobMade start root v job nodes

module _ (start t : TreeMap) (root : List ℕ) (s : Settings) (v : JudgeView) (same : (q : List ℕ) → may_be_candidate root q ≡ true → fin.get t q ≡ fin.get start q)
    (limit : s.max_file ≤ file_limit) (judge : IsJudge v) where
  job-made : (job : JobLine) → HasFile (Some t) root s v job → JobMade start root v job
  job-made job h =
      let stands = read-stands t (in_root root job.path) s.max_file h.bytes h.mode (h.stood.is t refl) in
      let m = verdict-made (Some t) root s v job h h.verdict (judge.makes h.bytes (debug_name job.path) h.verdict h.said) h.comes in
      record {
        nodes = m.nodes;
        is = record {
          bytes = h.bytes;
          mode = h.mode;
          there = sym (same (in_root root job.path) h.candidate) ∙ stands.there;
          few = omega (arith, stands.within, limit);
          made = m.made;
        };
      }

  -- ### All jobs

  pub record AllMade (jobs : List JobLine) : Type 0 where
    pub made : List (List Node)
    pub are : AreMade start root v jobs made

  each-made : (job : JobLine) (jobs : List JobLine) (ns : List Node) (made : List (List Node)) → IsJobMade start root v job ns
      → ((j : ℕ) → j < length jobs → IsJobMade start root v (job_at jobs j) (nodes_at made j))
      → (j : ℕ) → j < suc (length jobs) → IsJobMade start root v (job_at (job ∷ jobs) j) (nodes_at (ns ∷ made) j)
  each-made job jobs ns made first rest zero l = first
  each-made job jobs ns made first rest (suc j) l = rest j (omega (arith, l))

  pub all-made : (jobs : List JobLine) → All (HasFile (Some t) root s v) jobs → AllMade jobs
  all-made [] files = record { made = []; are = record { same_length = refl; each = λ j l. absurd (omega (arith, l)) } }
  all-made (job ∷ jobs) files =
      let m = job-made job (All-head (HasFile (Some t) root s v) job jobs files) in
      let a = all-made jobs (All-tail (HasFile (Some t) root s v) job jobs files) in
      record {
        made = m.nodes ∷ a.made;
        are = record { same_length = ap (λ (n : ℕ). suc n) a.are.same_length; each = each-made job jobs m.nodes a.made m.is a.are.each };
      }
