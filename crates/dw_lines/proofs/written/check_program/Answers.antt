-- A program that defines no file.
use Rattle.std.proofs.Common.{rules}
use Rattle.dw_base.specs.LineTables.{table_bytes}
use Rattle.dw_lines.specs.ViewSources.{view_source}
use Rattle.dw_lines.proofs.DefinedLaws.{none-defined}
use Rattle.dw_lines.proofs.written.check_program.Goals as goal

pub returns-then-is_empty-clause-none : goal.returns-then-is_empty-clause-none
returns-then-is_empty-clause-none c = λ r f.
    none-defined c.args.maps.now c.args.section c.args.header.now (table_bytes (view_source c.args.view.now c.args.section) c.args.header.now) c.args.defined.now r c.requires.defined
    (search rules) f
