use Rattle.dw_relocs.specs.FieldWalks.{ground_of}
use Rattle.dw_relocs.specs.UnitPasses.{EntriesSo}
use Rattle.dw_relocs.proofs.entries.pass_entries.Given as goal

abbrev pub invariant-loop-entry : goal.invariant-loop-entry
invariant-loop-entry l = EntriesSo (ground_of l.view l.section) l.unit l.table l.bytes l.entry-iterator l.number l.fn.pass l.now
