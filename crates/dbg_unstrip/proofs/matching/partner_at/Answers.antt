-- The place is behind the last, or that of a section.
use Rattle.std.proofs.Common.{arith, refl, ◌+◌}
use Rattle.dbg_unstrip.proofs.MatchLaws.{more-inside, more-is, no-more, one-more}
use Rattle.dbg_unstrip.proofs.matching.partner_at.Goals as goal

pub returns-then-partner-link_number : goal.returns-then-partner-link_number
returns-then-partner-link_number c = record {
  partner = no-more c.args.stripped.now.bytes.now c.args.place (c.args.place + 1) c.link_number.result refl c.link_number.ensures (omega (arith, c.if-partner-link_number.true));
}

pub returns : goal.returns
returns c =
    let s = c.args.stripped.now.bytes.now in
    record {
      partner = (
        one-more s c.args.place (c.args.place + 1) c.link_number.result refl c.link_number.ensures (omega (arith, c.if-partner-link_number.false)),
        more-is s c.args.place (c.args.place + 1) c.link_number.result refl c.link_number.ensures (omega (arith, c.if-partner-link_number.false)),
        more-inside s c.args.place (c.args.place + 1) c.link_number.result refl c.link_number.ensures (omega (arith, c.if-partner-link_number.false)),
      );
    }
