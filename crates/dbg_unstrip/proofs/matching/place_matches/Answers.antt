-- There are fewer places than section numbers, and sections that match don't differ at their place.
use Rattle.dbg_unstrip.proofs.MatchLaws.{place-by, place-few}
use Rattle.dbg_unstrip.proofs.matching.place_matches.Goals as goal

pub partner_at-requires : goal.partner_at-requires
partner_at-requires c =
    let elf = c.args.debug.now.is_elf in
    record { few = place-few c.args.debug.now.bytes.now c.args.place c.args.section elf.reads elf.small c.requires.place c.requires.section }

pub returns-in-Some-clause-none : goal.returns-in-Some-clause-none
returns-in-Some-clause-none c =
    let there = c.in-Some.ensures.partner in
    place-by c.args.stripped.now.bytes.now c.args.debug.now.bytes.now c.args.place c.args.section c.in-Some.partner c.sections_match.result c.requires.section c.requires.kept
    c.requires.place there.0 there.1 c.sections_match.ensures.none
