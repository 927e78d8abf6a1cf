-- The nodes that a job makes of a file keep it: an edited file keeps what the file means and what is loaded of it, and so does the pair that it
-- is split into.
use Rattle.std.proofs.Common.{◌≡◌, ℕ, false, List, [], sym, subst}
use Rattle.std.specs.Prelude.{⊤}
use Rattle.dw_base.specs.Paths.{PathMap}
use Rattle.dw_base.specs.Texts.{has_nul}
use Rattle.dbg_job.specs.EditedFiles.{IsEditOf}
use Rattle.dbg_job.specs.NewIds.{id_bytes}
use Rattle.dbg_job.specs.Outcomes.{IsSplitOf, OutcomeKeeps}
use Rattle.dbg_job.specs.Outcomes.OutcomeKeeps.{left as keeps_left, edited as keeps_edited, split as keeps_split}
use Rattle.dbg_job.proofs.EditKeptLaws.{edit-kept}
use Rattle.dbg_job.proofs.MadeLaws.{split-kept}
use Rattle.dbg_split.specs.DebugFile.{debug_file}
use Rattle.dbg_split.specs.StrippedFile.{stripped_file}
use Rattle.file_tree.specs.declared.node.Node.{Node}
use Rattle.job_types.specs.Settings.{Settings}
use Rattle.job_types.specs.declared.outcome.Outcome.{Outcome}
use Rattle.job_types.specs.declared.outcome.Outcome.TheVariants as outcome
use Rattle.work_texts.specs.declared.plan.JobLine.{JobLine}
use Rattle.root_plan.specs.Makers.{EditedNodes, NodesOf, one_file, two_files}
use Rattle.root_plan.specs.Targets.{debug_name}
use Rattle.file_judge.specs.FileJudges.{file_view}
use Rattle.file_judge.specs.KeptNodes.{IsKeptPair, NodesKeep, keeps_one, keeps_two}
use Rattle.file_judge.proofs.DebugNameLaws.{debug_name-bare}

-- what is kept of the two files of an outcome
abbrev KeepsPair : PathMap → List ℕ → List ℕ → Outcome → Type 0
KeepsPair m b name (outcome.Split stripped debug id names) = IsKeptPair m b name (record { stripped = stripped; debug = debug })
KeepsPair m b name (outcome.Edited file names) = ⊤
KeepsPair m b name (outcome.Left why) = ⊤

keeps-pair : (m : PathMap) (b name : List ℕ) (o : Outcome) → has_nul name ≡ false → OutcomeKeeps m b name o → KeepsPair m b name o
keeps-pair m b name _ bare keeps_left = tt
keeps-pair m b name _ bare (keeps_edited meaning loaded none) = tt
keeps-pair m b name _ bare (keeps_split meaning debug_reads stripped_reads loaded paired) = record {
  meaning = meaning;
  loaded = loaded;
  debug_reads = debug_reads;
  stripped_reads = stripped_reads;
  paired = paired bare;
}

pair-kept : (s : Settings) (b name file : List ℕ) → has_nul name ≡ false → IsEditOf s b file → IsSplitOf file name
    → IsKeptPair s.maps b name (record { stripped = stripped_file file name; debug = debug_file file })
pair-kept s b name file bare is splits =
    keeps-pair s.maps b name (outcome.Split (stripped_file file name) (debug_file file) (id_bytes file) []) bare
    (split-kept s.maps b name file [] (edit-kept s b file is) splits)

pub nodes-keep : (s : Settings) (job : JobLine) (b : List ℕ) (mode : ℕ) (nodes : List Node) → has_nul job.path ≡ false → NodesOf (file_view s) job b mode nodes
    → NodesKeep s.maps job b mode nodes
nodes-keep s job b mode nodes bare of = by_nodes nodes of.makes
  where
    by_nodes : (ns : List Node) → EditedNodes (file_view s) job of.file mode ns → NodesKeep s.maps job b mode ns
    by_nodes _ (one_file plain) = let kept = edit-kept s b of.file of.edits in keeps_one plain kept.meaning kept.loaded kept.leavings
    by_nodes _ (two_files {pair = pair} split is) =
        keeps_two {pair = pair} split
        (subst (IsKeptPair s.maps b (debug_name job.path)) (sym is.is) (pair-kept s b (debug_name job.path) of.file (debug_name-bare job.path bare) of.edits is.splits))
