-- The first component, and the others behind it.
use Rattle.std.proofs.Common.{sym}
use Rattle.dw_paths.proofs.CleanLaws.{joined-first}
use Rattle.dw_paths.proofs.clean.append_joined.Goals as goal

pub returns : goal.returns
returns c = record {
  value = joined-first c.args.path.now.items _ _ c.args.parts.now _ (sym c.if-is_empty.ensures) c.in_ok-extend_from_slice.ensures.items c.in_ok-append_slashed.ensures.value;
}
