-- What is kept are the view's line tables.
use Rattle.std.proofs.Common.{nat_eq}
use Rattle.std.specs.HashMap.{get}
use Rattle.dw_sources.proofs.TableLaws.{are-kept}
use Rattle.dw_sources.proofs.tables.tables_by_start.Goals as goal

pub returns : goal.returns
returns c = record {
  tables = are-kept c.args.view.now c.args.tables.items (λ at. get nat_eq c.in_ok-kept.kept at) c.requires.tables c.in_ok-kept.ensures.kept;
}
