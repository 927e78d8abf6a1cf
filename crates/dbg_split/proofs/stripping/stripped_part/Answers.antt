-- A section that stays, one without bytes, and one that moves.
use Rattle.std.proofs.Common.{◌≡◌, ap, false, sym, true, ◌∙◌}
use Rattle.dw_base.specs.Elf.{is_empty_kind}
use Rattle.dbg_split.specs.StrippedFile.{stripped_head}
use Rattle.dbg_split.proofs.StrippedLaws.{part-empty, part-moves, part-stays}
use Rattle.dbg_split.proofs.stripping.stripped_part.Goals as goal

pub returns : goal.returns
returns c =
    let full : is_empty_kind c.section-own.result ≡ false = sym c.takes_no_room.ensures ∙ c.if-takes_no_room.false in
    record {
      part = c.with_body.ensures
          ∙ part-moves c.args.elf.now.bytes.now c.args.section c.stripped_head-head.result c.section-own.result c.is_fixed_by-kept.result c.in_ok-body.body.items
          c.stripped_head-head.ensures c.section-own.ensures c.is_fixed_by-kept.ensures.fixed c.if-kept.false full c.in_ok-body.ensures.body;
    }

pub returns-then-kept : goal.returns-then-kept
returns-then-kept c = record {
  part = c.without_body.ensures
      ∙ part-stays c.args.elf.now.bytes.now c.args.section c.stripped_head-head.result c.is_fixed_by-kept.result
      (c.stripped_head-head.ensures ∙ ap (stripped_head c.args.elf.now.bytes.now) c.section-own.ensures) c.is_fixed_by-kept.ensures.fixed c.if-kept.true;
}

pub returns-then-takes_no_room : goal.returns-then-takes_no_room
returns-then-takes_no_room c =
    let empty : is_empty_kind c.section-own.result ≡ true = sym c.takes_no_room.ensures ∙ c.if-takes_no_room.true in
    record {
      part = c.without_body-then-takes_no_room.ensures
          ∙ part-empty c.args.elf.now.bytes.now c.args.section c.stripped_head-head.result c.section-own.result c.is_fixed_by-kept.result c.stripped_head-head.ensures
          c.section-own.ensures c.is_fixed_by-kept.ensures.fixed empty;
    }
