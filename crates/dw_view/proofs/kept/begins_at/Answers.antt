-- The record of the number is there.
use Rattle.std.proofs.Common.{false}
use Rattle.dw_view.specs.Places.{counts_at, record_of}
use Rattle.dw_view.proofs.KeptLaws.{begins-absent, begins-counted, begins-none}
use Rattle.dw_view.proofs.kept.begins_at.Goals as goal

pub returns-then-not-is_none_type : goal.returns-then-not-is_none_type
returns-then-not-is_none_type c =
    begins-counted c.args.source.now c.args.index c.args.place c.in-Some.reloc c.is_none_type.result c.in-Some.ensures.value c.requires.there c.is_none_type.ensures.value
    c.if-not-is_none_type.true

pub returns-else-not-is_none_type : goal.returns-else-not-is_none_type
returns-else-not-is_none_type c =
    begins-none c.args.source.now c.args.index c.args.place c.in-Some.reloc c.is_none_type.result c.in-Some.ensures.value c.requires.there c.is_none_type.ensures.value
    c.if-not-is_none_type.false

pub returns-in-None : goal.returns-in-None
returns-in-None c =
    begins-absent c.args.source.now c.args.index false (counts_at c.args.source.now c.args.place (record_of c.args.source.now c.args.index)) c.in-None.ensures.value
    c.requires.there
