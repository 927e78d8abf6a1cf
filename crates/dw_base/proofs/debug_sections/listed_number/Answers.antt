-- The tables are opened in the goals, so the laws are named with what they stand on.
use Rattle.std.proofs.Common.{◌+◌}
use Rattle.dw_base.proofs.DebugSectionLaws.{listed_number-read, listed_number-carried, listed_number-listed}
use Rattle.dw_base.proofs.debug_sections.listed_number.Goals as goal

pub returns-then-read-lt9-clause-number : goal.returns-then-read-lt9-clause-number
returns-then-read-lt9-clause-number c =
    listed_number-read c.args.name.now c.number_in-read.result c.number_in-read.ensures c.if-read-lt9.true

pub returns-clause-number : goal.returns-clause-number
returns-clause-number c =
    listed_number-carried c.args.name.now c.number_in-read.result c.index_in.result c.number_in-read.ensures c.if-read-lt9.false
    c.index_in.ensures.place

pub returns-then-read-lt9-clause-listed : goal.returns-then-read-lt9-clause-listed
returns-then-read-lt9-clause-listed c =
    listed_number-listed c.args.name.now c.number_in-read.result
    (listed_number-read c.args.name.now c.number_in-read.result c.number_in-read.ensures c.if-read-lt9.true)

pub returns-clause-listed : goal.returns-clause-listed
returns-clause-listed c =
    listed_number-listed c.args.name.now (9 + c.index_in.result)
    (listed_number-carried c.args.name.now c.number_in-read.result c.index_in.result c.number_in-read.ensures c.if-read-lt9.false
    c.index_in.ensures.place)
