-- The parts that the counts ask for, against the room that the table has.
use Rattle.dw_offsets.proofs.NameHeaderLaws.{at-no_room, strings-inside}
use Rattle.dw_offsets.proofs.name_headers.table_at.Goals as goal

pub returns-then-extent-before-clause-refused : goal.returns-then-extent-before-clause-refused
returns-then-extent-before-clause-refused c =
    rw c.at-then-extent-before.ensures
    (at-no_room c.args.order c.args.bytes.now c.args.section c.args.start c.in-Some.extent c.in-Some.size c.before_strings-before.result c.from_strings.result c.in-Some.width
    c.counts_at-counts.result c.in-Some.ensures.value c.in-Some.ensures.inside c.if-extent-bytes.false c.if-extent-lt-COUNTS_SIZE.false
    c.counts_at-counts.ensures.counts c.before_strings-before.ensures.size c.from_strings.ensures.size c.if-extent-before.true)

pub returns-clause-strings : goal.returns-clause-strings
returns-clause-strings c =
    strings-inside c.args.start c.in-Some.extent c.in-Some.size c.before_strings-before.result c.from_strings.result c.in-Some.width c.counts_at-counts.result
    c.from_strings.ensures.size c.if-extent-before.false
