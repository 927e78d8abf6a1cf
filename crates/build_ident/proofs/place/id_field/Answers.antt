-- The descriptor lies in the file, as its section does.
use Rattle.std.proofs.Common.{arith}
use Rattle.build_ident.proofs.IdLaws.{id-lies}
use Rattle.build_ident.proofs.place.id_field.Goals as goal

pub returns-clause-inside : goal.returns-clause-inside
returns-clause-inside c =
    id-lies c.args.elf.now.bytes.now c.args.section _ c.contents.result.now c.args.elf.now.is_elf.reads c.requires.there c.contents.ensures.contents
    (omega (arith, c.in_ok-field.ensures.some)) c.in_ok-field.ensures.inside
