use Rattle.build_ident.specs.Searches.{NoneShared}
use Rattle.build_ident.proofs.own.sharing_section.Given as goal

-- none so far
abbrev pub invariant-loop-index : goal.invariant-loop-index
invariant-loop-index l = NoneShared l.elf.bytes.now l.section (record { place = l.field.place; size = l.field.size }) l.index
