-- The rows of the steps' relations, for the functions that end by them.
use Rattle.dbg_ends.specs.Steps.{FaultEnds as fault, FoundEnds as found, WayEnds as way, OutputEnds as output, OutputsEnd as outputs}
use Rattle.dbg_ends.specs.Told.{Told as told, LineGoes as goes}
use Rattle.dbg_ends.proofs.StepLaws.{first_alone, one_then_other}
use Rattle.dbg_ends.specs.Due.IsCut.{tree_fault, no_memory}

pub ruleset fault_rows = (fault.refused, fault.memory)

pub ruleset found_rows = (found.absent, found.folder, found.link, found.large, found.memory)

pub ruleset way_rows = (way.folder, way.link, way.memory)

pub ruleset output_rows = (output.failed, output.memory, tree_fault, no_memory)

pub ruleset outputs_rows = (outputs.failed, outputs.memory, tree_fault, no_memory, first_alone, one_then_other)

pub ruleset told_rows = (told.as_it_is, told.out_of_memory, goes.silent, goes.line)
