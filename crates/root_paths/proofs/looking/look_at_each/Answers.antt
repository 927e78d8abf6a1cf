-- One path more was looked at.
use Rattle.std.proofs.Common.{arith}
use Rattle.root_paths.proofs.EachLookLaws.{to_all, to_more, to_none}
use Rattle.root_paths.proofs.LookLaws.{looked_then}
use Rattle.root_paths.proofs.looking.look_at_each.Goals as goal

pub loop-path-init : goal.loop-path-init
loop-path-init g c = to_none _ _

pub loop-path-preserved : goal.loop-path-preserved
loop-path-preserved g c =
    to_more _ _ _ c.args.paths.now c.loop-path.path-index c.path-item.result _ (omega arith) c.path-item.is c.as_str.ensures.value c.loop-path.invariant c.read.ensures.looked
    c.in_ok-read.ensures.each

pub returns-in_err-read-clause-looked : goal.returns-in_err-read-clause-looked
returns-in_err-read-clause-looked g c = looked_then _ _ _ c.loop-path.invariant.looked c.read.ensures.looked

pub returns-clause-looked : goal.returns-clause-looked
returns-clause-looked g c = c.loop-path.invariant.looked

pub returns-clause-each : goal.returns-clause-each
returns-clause-each g c = to_all _ _ c.args.paths.now c.loop-path.path-index (omega arith) c.loop-path.invariant
