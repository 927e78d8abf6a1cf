-- One file has all of its sections.
use Rattle.std.proofs.Common.{sym}
use Rattle.dw_view.proofs.PartLaws.{place-alone}
use Rattle.dw_view.proofs.sections.Sections.place.Goals as goal

pub returns-in-None-clause-place : goal.returns-in-None-clause-place
returns-in-None-clause-place c =
    place-alone c.args.self.now c.self.inside.elf.now.bytes.now _ c.self.inside.stripped c.args.section (sym c.self.view_is) c.in-None.is c.requires.there
