-- What the bytes of the id also belong to.
use Rattle.build_ident.proofs.OwnLaws.{fails-header, fails-section, fails-segments}
use Rattle.build_ident.proofs.own.own_bytes.Goals as goal

pub returns-then-place-header_size-clause-refused : goal.returns-then-place-header_size-clause-refused
returns-then-place-header_size-clause-refused c =
    fails-header c.args.elf.now.bytes.now c.args.section c.args.place _ _ c.requires.is c.requires.place
    (rw (c.header_size.ensures.value, c.args.elf.now.is_elf.class_is) at c.if-place-header_size.true) c.at.ensures

pub returns-then-shares_segments-clause-refused : goal.returns-then-shares_segments-clause-refused
returns-then-shares_segments-clause-refused c =
    fails-segments c.args.elf.now.bytes.now c.args.section c.args.place _ _ c.requires.is c.requires.place
    c.if-shares_segments.ensures.some c.if-shares_segments.ensures.shares c.at-then-shares_segments.ensures

pub returns-in-Some-clause-refused : goal.returns-in-Some-clause-refused
returns-in-Some-clause-refused c =
    fails-section c.args.elf.now.bytes.now c.args.section _ c.in-Some.field-0 _ c.requires.is c.in-Some.ensures.found c.at-in-Some.ensures
