-- Behind the attributes so far stands none.
use Rattle.dw_abbrev.proofs.Rows.{specs_fail}
use Rattle.dw_abbrev.proofs.spelled.specs_at.Goals as goal

pub returns-in_default-spec_of-clause-stopped : goal.returns-in_default-spec_of-clause-stopped
returns-in_default-spec_of-clause-stopped c =
    specs_fail c.args.bytes.now c.args.at c.specs.place c.specs.specs.items c.specs.invariant.spelled c.in_default-spec_of.ensures.none
