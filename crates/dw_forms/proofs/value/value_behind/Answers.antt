-- The value behind its form takes the form's bytes too.
use Rattle.std.proofs.Common.{ap, sym}
use Rattle.dw_forms.specs.Kinds.{as_kind}
use Rattle.dw_forms.proofs.KindLaws.{front-again, front-implicit, front-found}
use Rattle.dw_forms.proofs.value.value_behind.Goals as goal

pub returns-in_ok-value-in_default-kind-clause-value : goal.returns-in_ok-value-in_default-kind-clause-value
returns-in_ok-value-in_default-kind-clause-value c =
    front-found c.args.params.now c.args.spec.now c.args.bytes.now c.args.at c.in-Some.form c.in-Some.size c.form_kind-kind.result c.in_ok-value-in_default-kind.value
    c.requires.front (sym c.in-Some.ensures.value) (c.form_kind-kind.ensures.kind c.args.params.now) c.in_default-kind.not-InAbbreviation c.in_ok-value-in_default-kind.ensures.value

pub returns-in-FormInFront-clause-refused : goal.returns-in-FormInFront-clause-refused
returns-in-FormInFront-clause-refused c =
    rw c.at-in-FormInFront.ensures
    (front-again c.args.params.now c.args.spec.now c.args.bytes.now c.args.section c.args.at c.in-Some.form c.in-Some.size (as_kind c.args.params.now c.form_kind-kind.result)
    (record { indirect = c.requires.front; spells = sym c.in-Some.ensures.value }) (c.form_kind-kind.ensures.kind c.args.params.now) (ap (as_kind c.args.params.now) c.in-FormInFront.is))

pub returns-in-InAbbreviation-clause-refused : goal.returns-in-InAbbreviation-clause-refused
returns-in-InAbbreviation-clause-refused c =
    rw c.at-in-InAbbreviation.ensures
    (front-implicit c.args.params.now c.args.spec.now c.args.bytes.now c.args.section c.args.at c.in-Some.form c.in-Some.size (as_kind c.args.params.now c.form_kind-kind.result)
    (record { indirect = c.requires.front; spells = sym c.in-Some.ensures.value }) (c.form_kind-kind.ensures.kind c.args.params.now) (ap (as_kind c.args.params.now) c.in-InAbbreviation.is))
