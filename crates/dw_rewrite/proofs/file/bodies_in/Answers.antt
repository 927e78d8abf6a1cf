-- What refuses the new bytes has a row of the file whose debug data can be read.
use Rattle.dw_rewrite.proofs.ExitLaws.{refused_bodies}
use Rattle.dw_rewrite.proofs.file.bodies_in.Goals as goal

pub returns-in-Err-clause-refused : goal.returns-in-Err-clause-refused
returns-in-Err-clause-refused c =
    refused_bodies c.args.maps.now c.args.elf.now.bytes.now c.args.view.now c.args.paths.now c.args.tables.now c.in-Err.fault c.long_fault.result
    c.requires.small c.requires.checked c.requires.found c.requires.view c.in-Err.ensures.refused c.long_fault.ensures
