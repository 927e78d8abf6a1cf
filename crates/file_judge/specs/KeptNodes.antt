-- What the nodes of a job keep of the file that they are made of: what it means, with each source path mapped (DWARF 5, 2 to 7), and what is
-- loaded of it (gABI ch. 5 "Program Loading"); and that no text is left in them that no field names. This project's profile.
use Rattle.std.specs.Prelude.{◌≡◌, ℕ, true, false, List, [], ◌∷◌}
use Rattle.dw_base.specs.Paths.{PathMap}
use Rattle.dw_base.specs.ViewFails.{ViewReads}
use Rattle.dw_meaning.specs.FileMeanings.{MeaningKept, file_data}
use Rattle.dw_meaning.specs.Leavings.{NoLeavings}
use Rattle.dw_meaning.specs.Loaded.{LoadedKept}
use Rattle.dw_view.specs.Pairs.{IsPaired}
use Rattle.dbg_job.specs.Outcomes.{PairKeeps}
use Rattle.file_tree.specs.declared.node.Node.{Node}
use Rattle.file_tree.specs.declared.node.Node.TheVariants as node
use Rattle.work_texts.specs.declared.plan.JobLine.{JobLine}
use Rattle.root_plan.specs.Makers.{pair_nodes}
use Rattle.root_plan.specs.Targets.{debug_name}
use Rattle.root_plan.specs.Verdicts.{Pair}

-- a stripped file and its debug file, which has this name, mean together what the file `b` means, with the map applied, and what is loaded
-- is as it was; each can be read for its sections, and they are a pair by that name
pub record IsKeptPair (m : PathMap) (b name : List ℕ) (pair : Pair) : Type 0 where
  pub meaning : PairKeeps m b pair.debug pair.stripped
  pub loaded : LoadedKept b pair.stripped
  pub debug_reads : ViewReads pair.debug
  pub stripped_reads : ViewReads pair.stripped
  pub paired : IsPaired pair.stripped pair.debug name

-- the nodes that a job makes of a file keep it: those of an edited file, or of the pair of one
pub data NodesKeep (m : PathMap) (job : JobLine) (b : List ℕ) (mode : ℕ) : List Node → Type 0 where
  keeps_one : {file : List ℕ} → job.split ≡ false → MeaningKept m b file → LoadedKept b file → NoLeavings (file_data file)
      → NodesKeep m job b mode (node.File file mode ∷ [])
  keeps_two : {pair : Pair} → job.split ≡ true → IsKeptPair m b (debug_name job.path) pair → NodesKeep m job b mode (pair_nodes job mode pair)
