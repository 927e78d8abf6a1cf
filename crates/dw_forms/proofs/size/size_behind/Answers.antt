-- The size of the value takes in its form.
use Rattle.std.proofs.Common.{ap, sym}
use Rattle.dw_forms.specs.Kinds.{as_kind}
use Rattle.dw_forms.proofs.KindLaws.{front-again, front-implicit, front-size}
use Rattle.dw_forms.proofs.size.size_behind.Goals as goal

pub returns-in_ok-behind-in_default-kind-clause-size : goal.returns-in_ok-behind-in_default-kind-clause-size
returns-in_ok-behind-in_default-kind-clause-size c =
    front-size c.args.params.now c.args.spec.now c.args.bytes.now c.args.at c.in-Some.form c.in-Some.size c.form_kind-kind.result c.in_ok-behind-in_default-kind.behind
    c.requires.front (sym c.in-Some.ensures.value) (c.form_kind-kind.ensures.kind c.args.params.now) c.in_default-kind.not-InAbbreviation c.in_ok-behind-in_default-kind.ensures.size

pub returns-in-FormInFront-clause-refused : goal.returns-in-FormInFront-clause-refused
returns-in-FormInFront-clause-refused c =
    rw c.at-in-FormInFront.ensures
    (front-again c.args.params.now c.args.spec.now c.args.bytes.now c.args.section c.args.at c.in-Some.form c.in-Some.size (as_kind c.args.params.now c.form_kind-kind.result)
    (record { indirect = c.requires.front; spells = sym c.in-Some.ensures.value }) (c.form_kind-kind.ensures.kind c.args.params.now) (ap (as_kind c.args.params.now) c.in-FormInFront.is))

pub returns-in-InAbbreviation-clause-refused : goal.returns-in-InAbbreviation-clause-refused
returns-in-InAbbreviation-clause-refused c =
    rw c.at-in-InAbbreviation.ensures
    (front-implicit c.args.params.now c.args.spec.now c.args.bytes.now c.args.section c.args.at c.in-Some.form c.in-Some.size (as_kind c.args.params.now c.form_kind-kind.result)
    (record { indirect = c.requires.front; spells = sym c.in-Some.ensures.value }) (c.form_kind-kind.ensures.kind c.args.params.now) (ap (as_kind c.args.params.now) c.in-InAbbreviation.is))
