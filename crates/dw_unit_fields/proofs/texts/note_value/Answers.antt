-- A value of another class says nothing.
use Rattle.dw_base.specs.TableStarts.{is_start_form, own_form}
use Rattle.dw_unit_fields.proofs.EntryTextLaws.{class-names, class-silent}
use Rattle.dw_unit_fields.proofs.texts.note_value.Goals as goal

pub returns-in_default : goal.returns-in_default
returns-in_default c = record {
  found = class-silent c.args.found.now c.args.value.now.class c.args.path c.args.base (is_start_form (own_form c.args.spec.now c.args.bytes.now c.args.place)) c.args.place c.args.value.now
      c.in_default.not-Number c.in_default.not-InlineText c.in_default.not-StrOffset c.in_default.not-LineStrOffset c.in_default.not-StrIndex c.in_default.not-SecOffset;
  names = class-names c.args.texts.now c.args.value.now.class c.args.value.now c.in_default.not-StrOffset c.in_default.not-LineStrOffset;
  refused = tt;
}
