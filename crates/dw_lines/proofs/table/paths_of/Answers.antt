-- The directories, then the path of each file.
use Rattle.std.proofs.Common.{arith}
use Rattle.dw_lines.proofs.ChangeLaws.{paths-more, paths-over, paths-start}
use Rattle.dw_lines.proofs.table.paths_of.Goals as goal

pub loop-file-init : goal.loop-file-init
loop-file-init c = paths-start c.args.dirs.now _ c.args.files.now c.in_ok-paths.ensures.items

pub loop-file-preserved : goal.loop-file-preserved
loop-file-preserved c =
    paths-more c.args.dirs.now c.args.files.now c.loop-file.file-index _ c.loop-file.paths.items _ c.loop-file.invariant c.loop-file-test.true
    c.in_ok-push.ensures.items

pub returns : goal.returns
returns c = record {
  paths = paths-over c.args.dirs.now c.args.files.now c.loop-file.file-index c.loop-file.paths.items c.loop-file.invariant (omega arith);
}
