use Rattle.build_ident.specs.Searches.{NoneBelow}
use Rattle.build_ident.proofs.place.id_section.Given as goal

-- none so far
abbrev pub invariant-loop-index : goal.invariant-loop-index
invariant-loop-index l = NoneBelow l.elf.bytes.now l.index
