-- What the getters of the parser's matches read, by the rows.
use Rattle.clap.proofs.WalkLemmas.{first_value-rows, raw_values-rows}

pub ruleset clap_rules = (first_value-rows, raw_values-rows)
