-- There are fewer places than section numbers, and both lists have ended.
use Rattle.std.proofs.Common.{arith}
use Rattle.dbg_unstrip.proofs.MatchLaws.{all-free, place-last}
use Rattle.dbg_unstrip.proofs.matching.lists_match.Goals as goal

pub partner_at-requires : goal.partner_at-requires
partner_at-requires c =
    let elf = c.args.debug.now.is_elf in
    record { few = place-last c.args.debug.now.bytes.now c.loop-section.place c.loop-section.section elf.reads elf.small c.loop-section.invariant.place (omega arith) }

pub returns-in-None-clause-none : goal.returns-in-None-clause-none
returns-in-None-clause-none c =
    all-free c.args.stripped.now.bytes.now c.args.debug.now.bytes.now c.loop-section.place c.loop-section.section c.loop-section.invariant.place (omega arith)
    c.in-None.ensures.partner c.loop-section.invariant.free
