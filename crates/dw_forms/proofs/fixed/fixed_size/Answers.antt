-- The size is that of the form's kind.
use Rattle.dw_forms.proofs.FixedLaws.{form-fixed}
use Rattle.dw_forms.proofs.fixed.fixed_size.Goals as goal

pub returns-in-Some-clause-fixed : goal.returns-in-Some-clause-fixed
returns-in-Some-clause-fixed c =
    form-fixed c.args.params.now c.args.spec.now c.form_kind.result c.in-Some.size c.bytes_in.result (c.form_kind.ensures.kind c.args.params.now) c.in-Some.ensures.parts
    c.bytes_in.ensures.bytes
