-- A unit starts in its section.
use Rattle.dw_starts.proofs.UnitPlaceLaws.{start-below}
use Rattle.dw_starts.proofs.unit_places.start_key.Goals as goal

pub place_key-requires : goal.place_key-requires
place_key-requires c = record { small = start-below c.args.view.now c.args.unit.now c.bytes.result.now c.requires.unit c.bytes.ensures.bytes c.bytes.ensures.small }

pub returns-clause-below : goal.returns-clause-below
returns-clause-below c = start-below c.args.view.now c.args.unit.now c.bytes.result.now c.requires.unit c.bytes.ensures.bytes c.bytes.ensures.small
