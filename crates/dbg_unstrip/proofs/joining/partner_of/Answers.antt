-- There are fewer places than section numbers.
use Rattle.dbg_unstrip.proofs.MatchLaws.{place-few}
use Rattle.dbg_unstrip.proofs.joining.partner_of.Goals as goal

pub partner_at-requires : goal.partner_at-requires
partner_at-requires c =
    let elf = c.args.debug.now.is_elf in
    record { few = place-few c.args.debug.now.bytes.now c.args.place c.args.section elf.reads elf.small c.requires.place c.requires.there }
