use Rattle.journal_core.proofs.Kept.{event_shows}
use Rattle.journal_core.proofs.Settled.{settle_shows, shows_wider}
use Rattle.journal_core.proofs.Ends.{shows_shape, shown_shows}
use Rattle.journal_core.proofs.Starts.{shape_shown, shown_settled, underway_fit}
use Rattle.journal_core.proofs.Alike.{same_shown, work_own}
use Rattle.journal_core.proofs.law.every_step.Goals as goal

pub returns-clause-event : goal.returns-clause-event
returns-clause-event c = event_shows

pub returns-clause-settle : goal.returns-clause-settle
returns-clause-settle c = settle_shows

pub returns-clause-wider : goal.returns-clause-wider
returns-clause-wider c = shows_wider

pub returns-clause-start : goal.returns-clause-start
returns-clause-start c = shown_shows

pub returns-clause-shape : goal.returns-clause-shape
returns-clause-shape c = shows_shape

pub returns-clause-shown : goal.returns-clause-shown
returns-clause-shown c = shape_shown

pub returns-clause-calm : goal.returns-clause-calm
returns-clause-calm c = shown_settled

pub returns-clause-fit : goal.returns-clause-fit
returns-clause-fit c = underway_fit

pub returns-clause-same : goal.returns-clause-same
returns-clause-same c = same_shown

pub returns-clause-own : goal.returns-clause-own
returns-clause-own c = work_own
