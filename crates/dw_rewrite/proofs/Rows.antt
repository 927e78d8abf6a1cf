-- The rows of refusals that the code's proofs apply.
use Rattle.dw_base.specs.LayoutFails.TooLong.{long}

pub ruleset long_rows = (long)
