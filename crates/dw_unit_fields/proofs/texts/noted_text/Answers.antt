-- The value, with what it says behind what was found.
use Rattle.std.proofs.Common.{refl}
use Rattle.dw_unit_fields.proofs.EntryTextLaws.{value-found}
use Rattle.dw_unit_fields.proofs.texts.noted_text.Goals as goal

pub returns-clause-taken : goal.returns-clause-taken
returns-clause-taken c = record {
  value = c.in_ok-value.value;
  is = c.in_ok-value.ensures.value;
  size_is = refl;
  taken = record { names = c.in_ok-note_value.ensures.names };
  found = value-found c.args.number c.args.tag c.args.spec.now c.args.bytes.now c.args.place c.in_ok-value.value c.args.found.now c.note_start.new.found c.note_value.new.found
      c.note_said.new.found c.is_path-path.result c.is_base-base.result c.says_start.result c.in_ok-note_said.ensures.found c.in_ok-note_value.ensures.found
      c.in_ok-note_start.ensures.found c.is_path-path.ensures c.is_base-base.ensures c.says_start.ensures;
}
