-- The form passes the end.
use Rattle.std.proofs.Common.{sym}
use Rattle.dw_base.specs.AbbreviationFails.SpecFails.{form_passes}
use Rattle.dw_abbrev.proofs.spelled.pair_at.Goals as goal

pub returns-in_default-uleb_at-clause-none : goal.returns-in_default-uleb_at-clause-none
returns-in_default-uleb_at-clause-none c =
    form_passes c.in-Some.name c.in-Some.name_size (sym c.in-Some.ensures.value) (sym c.in_default-uleb_at.ensures.value)
