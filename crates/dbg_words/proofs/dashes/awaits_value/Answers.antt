-- A word with two dashes in front.
use Rattle.dbg_words.proofs.DashLaws.{two_dashes_await}
use Rattle.dbg_words.proofs.dashes.awaits_value.Goals as goal

pub returns-in-Some-behind_dash : goal.returns-in-Some-behind_dash
returns-in-Some-behind_dash c =
    record { value = two_dashes_await c.args.word.now c.in-Some.rest.now c.in-Some-behind_dash.name.now c.is_valued.result c.in-Some.ensures.value c.in-Some-behind_dash.ensures.value c.is_valued.ensures.value }
