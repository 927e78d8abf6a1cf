-- So many of the paths were looked at.
use Rattle.root_paths.proofs.EachLookLaws.{LookedTo}
use Rattle.root_paths.proofs.looking.look_at_each.Given as goal

abbrev pub invariant-loop-path : goal.invariant-loop-path
invariant-loop-path g l = LookedTo (g.T.Tree.seen l.initial.tree) (g.T.Tree.seen l.tree) l.paths l.path-index
