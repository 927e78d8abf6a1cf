-- The paths so far are tallied, and the tree was only looked at.
use Rattle.std.proofs.Common.{map, take}
use Rattle.std.specs.String.{string_bytes}
use Rattle.file_tree.specs.Seen.{now_of}
use Rattle.root_paths.specs.Looks.{Looked}
use Rattle.root_plan.specs.Tallies.{Tallies}
use Rattle.root_plan.proofs.surveying.survey_paths.Given as goal

abbrev pub invariant-loop-i : goal.invariant-loop-i
invariant-loop-i g l = record {
  looked : Looked (g.T.Tree.seen l.initial.tree) (g.T.Tree.seen l.tree);
  tallies : Tallies (now_of (g.T.Tree.seen l.initial.tree)) l.root l.options (g.J.Judge.view l.judge) (g.J.Judge.fails l.judge) (take l.i (map string_bytes l.present)) l.survey;
}
