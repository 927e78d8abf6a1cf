-- What the values of an entry say is said from where the pass found that they begin.
use Rattle.std.proofs.Common.{◌∙◌, ap}
use Rattle.std.proofs.lemmas.Result.{IfErr-weaker, on_ok_weaker}
use Rattle.dw_unit_fields.specs.EntryTexts.{with_places}
use Rattle.dw_unit_fields.proofs.UnitTextLaws.{places-given, refused-given, taken-given, values-inside}
use Rattle.dw_unit_fields.proofs.units.read_coded.Goals as goal

pub read_entry-requires-clause-inside : goal.read_entry-requires-clause-inside
read_entry-requires-clause-inside c =
    values-inside c.args.table.now c.args.bytes.now c.args.entry.now.entry c.args.entry.now.index c.args.entry.now.from c.requires.given

pub returns-clause-found : goal.returns-clause-found
returns-clause-found c =
    on_ok_weaker c.read_entry.result
    (λ e. e ∙ ap (with_places c.args.found.now) (places-given c.args.unit.now.params c.args.table.now c.args.bytes.now c.args.number c.args.entry.now.entry c.args.entry.now.index
    c.args.entry.now.from c.look-tag.result.0 c.look-tag.result.1.now c.requires.given c.look-tag.ensures.looked)) c.read_entry.ensures.found

pub returns-clause-taken : goal.returns-clause-taken
returns-clause-taken c =
    on_ok_weaker c.read_entry.result
    (taken-given c.args.texts.now c.args.unit.now.params c.args.table.now c.args.bytes.now c.args.number c.args.entry.now.entry c.args.entry.now.index c.args.entry.now.from
    c.look-tag.result.0 c.look-tag.result.1.now c.requires.given c.look-tag.ensures.looked) c.read_entry.ensures.taken

pub returns-clause-refused : goal.returns-clause-refused
returns-clause-refused c =
    IfErr-weaker c.read_entry.result _ _
    (λ f b. refused-given c.args.texts.now c.args.unit.now.params c.args.table.now c.args.bytes.now c.args.unit.now.section c.args.number c.args.entry.now.entry
    c.args.entry.now.index c.args.entry.now.from c.look-tag.result.0 c.look-tag.result.1.now f c.requires.given c.look-tag.ensures.looked b) c.read_entry.ensures.refused
