-- What is kept of the section says where its bytes are.
use Rattle.std.proofs.Common.{refl}
use Rattle.dw_view.proofs.PartLaws.{kept-place, kept-stand-place, kept-stand-there}
use Rattle.dw_view.proofs.sections.place_in.Goals as goal

pub returns-in-Some-clause-there : goal.returns-in-Some-clause-there
returns-in-Some-clause-there c =
    kept-stand-there c.args.debug.now.bytes.now c.args.stripped.now.bytes.now c.args.stands.now c.args.section c.in-Some.stand _ _ c.requires.stands c.requires.there refl
    c.in-Some.is

pub returns-in-Some-clause-place : goal.returns-in-Some-clause-place
returns-in-Some-clause-place c =
    kept-stand-place c.args.debug.now.bytes.now c.args.stripped.now.bytes.now c.args.stands.now c.args.section c.in-Some.stand _ _ c.requires.stands c.requires.there refl
    c.in-Some.is

pub returns-in-None-clause-place : goal.returns-in-None-clause-place
returns-in-None-clause-place c =
    kept-place c.args.debug.now.bytes.now c.args.stripped.now.bytes.now c.args.stands.now c.args.section _ _ c.requires.stands c.requires.there refl c.in-None.is
