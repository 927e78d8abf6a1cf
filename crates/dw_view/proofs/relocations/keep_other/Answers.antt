-- The section that holds its relocations is there.
use Rattle.std.proofs.Common.{length, refl}
use Rattle.dw_base.specs.Elf.{contents_of}
use Rattle.dw_view.proofs.RelocationLaws.{holder-there, other-keeps}
use Rattle.dw_view.proofs.relocations.keep_other.Goals as goal

pub source_of-requires-clause-there : goal.source_of-requires-clause-there
source_of-requires-clause-there c =
    holder-there c.args.elf.now.bytes.now c.args.holders.now c.args.section c.in-Some.holder _ _ c.requires.holders c.requires.there refl c.in-Some.is

pub returns-in-Some : goal.returns-in-Some
returns-in-Some c = record {
  keeps =
      other-keeps c.args.elf.now.bytes.now c.args.holders.now c.args.section c.in-Some.holder (length (contents_of c.args.elf.now.bytes.now c.args.section)) _ _
      c.source_of.result c.unread.result c.requires.holders c.requires.there refl c.in-Some.is c.source_of.ensures c.unread.ensures.value;
}
