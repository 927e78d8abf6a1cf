use Rattle.dw_rewrite.proofs.LoadedSectionLaws.{UnloadedBelow}
use Rattle.dw_rewrite.proofs.loaded_sections.check_unloaded.Given as goal

abbrev pub invariant-loop-index : goal.invariant-loop-index
invariant-loop-index l = UnloadedBelow l.elf.bytes.now l.index
