-- The first of its name is taken, and the next is left.
use Rattle.std.proofs.Common.{get_or, refl}
use Rattle.dw_view.specs.Standing.{heads_of}
use Rattle.dw_view.proofs.StandLaws.{head-within, stand-some, taken-set}
use Rattle.dw_view.proofs.standing.take_head.Goals as goal

pub bounds-next-first : goal.bounds-next-first
bounds-next-first c =
    head-within c.args.debug.now.bytes.now c.args.stripped.now.bytes.now c.args.names.now c.args.others.now (get_or c.args.others.now c.args.section 0) c.args.section c.in-Some.first (heads_of c.args.heads.now.heads)
    c.args.next.now c.head.result c.requires.next c.requires.taken c.head.ensures.head c.in-Some.is

pub returns-in_ok-set-in-Some-clause-stand : goal.returns-in_ok-set-in-Some-clause-stand
returns-in_ok-set-in-Some-clause-stand c =
    stand-some c.args.debug.now.bytes.now c.args.stripped.now.bytes.now c.args.names.now c.args.others.now (get_or c.args.others.now c.args.section 0) c.args.section c.in-Some.first c.head.result
    (heads_of c.args.heads.now.heads) c.requires.elsewhere refl c.head.ensures.head c.in-Some.is c.requires.taken

pub returns-in_ok-set-in-Some-clause-taken : goal.returns-in_ok-set-in-Some-clause-taken
returns-in_ok-set-in-Some-clause-taken c =
    taken-set c.args.debug.now.bytes.now c.args.stripped.now.bytes.now c.args.names.now c.args.others.now (get_or c.args.others.now c.args.section 0) c.args.section c.in-Some.first _ c.head.result _
    (heads_of c.args.heads.now.heads) (heads_of c.set.new.self.heads) c.args.next.now c.requires.next c.requires.elsewhere refl
    c.head.ensures.head c.in-Some.is refl
    (head-within c.args.debug.now.bytes.now c.args.stripped.now.bytes.now c.args.names.now c.args.others.now (get_or c.args.others.now c.args.section 0) c.args.section c.in-Some.first
    (heads_of c.args.heads.now.heads) c.args.next.now c.head.result c.requires.next c.requires.taken c.head.ensures.head c.in-Some.is)
    c.in_ok-set-in-Some.ensures.set c.requires.taken
