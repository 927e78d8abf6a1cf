-- Sets of laws on runs that functions name.
use Rattle.dbg_run.proofs.KeptLaws.{keeps_loaded, keeps_meaning, leaves_nothing}
use Rattle.dbg_run.proofs.RunLaws.{cuts_memory, joins_unopposed}

pub ruleset told_rows = (cuts_memory)

pub ruleset exact_rows = (joins_unopposed, keeps_meaning, keeps_loaded, leaves_nothing)
