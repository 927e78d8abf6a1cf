-- The first section that holds them is there.
use Rattle.std.proofs.Common.{refl}
use Rattle.dw_view.proofs.SourceLaws.{number-inside, number-is}
use Rattle.dw_view.proofs.source.section_numbers.Goals as goal

pub contents-requires : goal.contents-requires
contents-requires c = record {
  there = number-inside c.args.elf.now.bytes.now c.args.extended.now c.args.section c.in-Some.numbers _ _ c.is_symbol_table.result c.requires.extended
      c.is_symbol_table.ensures c.if-not-is_symbol_table.false refl c.in-Some.is;
}

pub returns-in-Some : goal.returns-in-Some
returns-in-Some c =
    number-is c.args.elf.now.bytes.now c.contents.result.now c.args.extended.now c.args.section c.in-Some.numbers _ _ c.is_symbol_table.result c.requires.extended
    c.is_symbol_table.ensures c.if-not-is_symbol_table.false refl c.in-Some.is c.contents.ensures.contents
