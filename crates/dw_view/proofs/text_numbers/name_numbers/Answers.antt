-- What the names of the stripped file have stays while those of the debug file are numbered.
use Rattle.dw_view.proofs.TextNumberLaws.{pair-numbered}
use Rattle.dw_view.proofs.text_numbers.name_numbers.Goals as goal

pub returns : goal.returns
returns c = record {
  names =
      pair-numbered _ _ _ c.args.stripped.now.bytes.now c.args.debug.now.bytes.now c.in_ok-own.own.items c.in_ok-others.others.items
      c.in_ok-others.ensures.numbered c.in_ok-others.ensures.keeps c.in_ok-own.ensures.names c.in_ok-others.ensures.names;
}
