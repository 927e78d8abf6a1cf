-- The pass over the values of an entry, at its start, behind one more, and where one is refused.
use Rattle.std.proofs.Common.{arith}
use Rattle.std.proofs.lemmas.List.{get_or_default}
use Rattle.std.proofs.lemmas.Result.{err_from_is_err_and}
use Rattle.dw_unit_fields.proofs.EntryTextLaws.{passed-none, passed-more, passed-refused}
use Rattle.dw_unit_fields.proofs.texts.read_entry.Goals as goal

pub loop-spec-init : goal.loop-spec-init
loop-spec-init c = record {
  within = c.requires.inside;
  passed = passed-none c.args.texts.now c.args.unit.now.params c.args.bytes.now c.args.number c.args.tag c.args.specs.now c.args.from c.args.found.now;
}

pub returns-in_err-place-clause-refused : goal.returns-in_err-place-clause-refused
returns-in_err-place-clause-refused c =
    let p = err_from_is_err_and c.from_residual.result c.from_residual.ensures.1 in
    rw (p.1, p.2) (passed-refused c.args.texts.now c.args.unit.now.params c.args.bytes.now c.args.unit.now.section c.args.number c.args.tag c.args.specs.now c.args.from
    c.loop-spec.spec-index c.loop-spec.place _ c.args.found.now c.loop-spec.found c.in_err-place.field-0.0 (omega arith)
    (get_or_default c.args.specs.now c.loop-spec.spec-index _ _ (omega arith)) c.loop-spec.invariant.passed c.in_err-place.ensures.refused)

pub loop-spec-preserved : goal.loop-spec-preserved
loop-spec-preserved c = record {
  within = c.in_ok-place.ensures.within;
  passed = passed-more c.args.texts.now c.args.unit.now.params c.args.bytes.now c.args.number c.args.tag c.args.specs.now c.args.from
      c.loop-spec.spec-index c.loop-spec.place c.in_ok-place.field-0 _ c.args.found.now c.loop-spec.found c.read_value.new.found (omega arith)
      (get_or_default c.args.specs.now c.loop-spec.spec-index _ _ (omega arith)) c.loop-spec.invariant.passed c.in_ok-place.ensures.taken;
}
