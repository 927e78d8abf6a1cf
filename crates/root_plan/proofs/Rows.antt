-- The rows of what paths come to, for the functions that end by them.
use Rattle.std.proofs.Common.{◌≡◌, ℕ, ◌≤◌, true, List, length, subst, arith, Option, Result, Err}
use Rattle.std.specs.Prelude.{IsOkUnless}
use Rattle.dw_base.specs.declared.fault.Refusal.{Refusal}
use Rattle.dw_base.specs.declared.fault.Fault.{Fault}
use Rattle.dw_base.specs.declared.fault.Fault.TheVariants as fault
use Rattle.file_tree.specs.declared.node.Found.{Found}
use Rattle.file_tree.specs.Trees.{TreeMap}
use Rattle.file_tree.specs.Seen.{Seen, now_of}
use Rattle.file_tree.specs.declared.node.Found.TheVariants as found
use Rattle.dw_base.specs.Layout.{file_limit}
use Rattle.file_tree.specs.Causes.{Stood, IsWithin}
use Rattle.job_types.specs.Settings.{Settings, most_file}
use Rattle.job_types.specs.declared.outcome.Verdict.{Verdict}
use Rattle.root_plan.specs.declared.plan_err.PlanErr.{PlanErr}
use Rattle.root_paths.specs.Roots.{may_be_candidate, below_root, longest_path}
use Rattle.root_plan.specs.Targets.{debug_name}
use Rattle.root_plan.specs.Verdicts.{JudgeView, IsUnsaid}
use Rattle.root_plan.specs.Tallies.{Tally, FileNoted, CandidateNoted, FoundNoted, Noted, FileEnds, CandidateEnds, FoundEnds, PathEnds}
use Rattle.root_plan.specs.Tallies.{FileNoted as note, Noted as notes, FileEnds as file, CandidateEnds as candidate, LargeEnds as large, PathEnds as ends}
use Rattle.root_paths.proofs.LookLaws.{looked_none, looked_then}

-- nothing is said of a file that is refused
pub unsaid : {X : Type 0} (result : Result X Fault) (v : JudgeView) (bytes name : List ℕ) (r : Refusal) → result ≡ Err (fault.Refused r)
    → ((x : Verdict) → v.says bytes name x → IsOkUnless result fault.NoMemory) → IsUnsaid v bytes name
unsaid {X} result v bytes name r is whole = record { none = λ x said. apart (subst (λ (q : Result X Fault). IsOkUnless q fault.NoMemory) is (whole x said)) }
  where
    apart : fault.Refused r ≡ fault.NoMemory → ⊥
    apart e = cc

pub candidate_noted : (s : Settings) (v : JudgeView) (fails : List ℕ → List ℕ → Refusal → Type 0) (path below bytes name : List ℕ) (t u : Tally) → length path ≤ longest_path
    → name ≡ debug_name below → FileNoted s v fails below bytes name t u → CandidateNoted s v fails path below bytes t u
candidate_noted s v fails path below bytes name t u short named noted = record { short = short; noted = subst (λ (n : List ℕ). FileNoted s v fails below bytes n t u) named noted }

pub candidate_ends : (s : Settings) (v : JudgeView) (fails : List ℕ → List ℕ → Refusal → Type 0) (path below bytes name : List ℕ) (e : PlanErr) → length path ≤ longest_path
    → name ≡ debug_name below → FileEnds s v fails path bytes name e → CandidateEnds s v fails path below bytes e
candidate_ends s v fails path below bytes name e short named ended = candidate.file_ends short (subst (λ (n : List ℕ). FileEnds s v fails path bytes n e) named ended)

pub noted_found : (old : Option TreeMap) (root : List ℕ) (s : Settings) (v : JudgeView) (fails : List ℕ → List ℕ → Refusal → Type 0) (path below : List ℕ) (what : Found) (t u : Tally)
    → (may_be_candidate root path ≡ true) × (below ≡ below_root root path) → Stood old path s.max_file what → FoundNoted s v fails path below what t u → Noted old root s v fails path t u
noted_found old root s v fails path below what t u is stood noted = notes.there is.0 stood (subst (λ (b : List ℕ). FoundNoted s v fails path b what t u) is.1 noted)

pub ends_found : (old new : Seen) (root : List ℕ) (s : Settings) (v : JudgeView) (fails : List ℕ → List ℕ → Refusal → Type 0) (path below : List ℕ) (what : Found) (e : PlanErr)
    → (may_be_candidate root path ≡ true) × (below ≡ below_root root path) → Stood (now_of old) path s.max_file what → FoundEnds s v fails path below what e → PathEnds old new root s v fails path e
ends_found old new root s v fails path below what e is stood ended = ends.at_found is.0 stood (subst (λ (b : List ℕ). FoundEnds s v fails path b what e) is.1 ended)

pub ruleset file_rows = (note.judged, note.skipped, file.refused, file.no_memory, unsaid)

pub ruleset candidate_rows = (candidate_noted, candidate_ends, candidate.too_long, candidate.no_memory, large.too_long, large.large, large.no_memory)

pub ruleset path_rows = (notes.apart, noted_found, ends_found, ends.failed, ends.no_memory, looked_none, looked_then)

-- what stood there under a limit of the same number
pub stood_by : (old : Option TreeMap) (path : List ℕ) (n : ℕ) (s : Settings) (what : Found) → n ≡ s.max_file → Stood old path n what → Stood old path s.max_file what
stood_by old path n s what e stood = subst (λ (m : ℕ). Stood old path m what) e stood

-- a file that was read is within the longest that may be asked for
pub within_small : (most : ℕ) (what : Found) (bytes : List ℕ) (mode : ℕ) → what ≡ found.File bytes mode → most ≤ most_file → IsWithin most what → length bytes ≤ file_limit
within_small most what bytes mode is low within =
    let small : length bytes ≤ most = subst (λ (x : Found). IsWithin most x) is within in
    omega (arith, small, low)
