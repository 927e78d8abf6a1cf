-- The values behind the code.
use Rattle.dw_base.specs.FileViews.{view_cells}
use Rattle.dw_relocs.specs.FieldWalks.{ground_of}
use Rattle.dw_relocs.proofs.EntryPassLaws.{code-goes, code-stand, code-values}
use Rattle.dw_relocs.proofs.entries.pass_entry.Goals as goal

pub pass_values-requires-clause-stands : goal.pass_values-requires-clause-stands
pass_values-requires-clause-stands c =
    code-stand (view_cells c.args.view.now c.args.section) c.args.table.now c.args.bytes.now c.args.entry.now.entry c.args.entry.now.index c.args.entry.now.from c.args.pass
    c.requires.code c.requires.stands

pub pass_values-requires-clause-values : goal.pass_values-requires-clause-values
pass_values-requires-clause-values c =
    code-values c.args.params.now c.args.table.now c.args.bytes.now c.args.entry.now.entry c.args.entry.now.index c.args.entry.now.from c.abbrev-abbrev.result.now
    c.specs_of-specs.result.now c.requires.given c.requires.code c.abbrev-abbrev.ensures.value c.specs_of-specs.ensures.value

pub returns : goal.returns
returns c = record {
  goes = code-goes (ground_of c.args.view.now c.args.section) c.args.params.now c.args.table.now c.args.bytes.now c.args.number c.args.entry.now.entry c.args.entry.now.index
      c.args.entry.now.from c.tag_of-tag.result c.abbrev-abbrev.result.now c.specs_of-specs.result.now c.args.pass c.pass_values.result c.requires.code
      c.abbrev-abbrev.ensures.value c.tag_of-tag.ensures.value c.specs_of-specs.ensures.value c.pass_values.ensures.goes;
}
