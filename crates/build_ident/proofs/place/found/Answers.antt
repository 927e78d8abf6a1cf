-- The id that was found, and that nothing is refused where one was.
use Rattle.std.proofs.Common.{◌+◌, ap}
use Rattle.dw_base.specs.declared.records.Section.{Section}
use Rattle.build_ident.proofs.IdLaws.{found-place, is-id, own-excludes}
use Rattle.build_ident.proofs.place.found.Goals as goal

pub returns-clause-value : goal.returns-clause-value
returns-clause-value c =
    found-place c.args.elf.now.bytes.now c.args.section _ (record { place = c.in-Some.field.place; size = c.in-Some.field.size })
    (is-id c.args.elf.now.bytes.now c.args.section _ c.requires.is c.in-Some.ensures.value) c.in_ok-own_bytes.ensures.own
    (ap (λ (s : Section). s.offset + c.in-Some.field.place) c.section.ensures)

pub returns-clause-none : goal.returns-clause-none
returns-clause-none c =
    own-excludes c.args.elf.now.bytes.now c.args.section (record { place = c.in-Some.field.place; size = c.in-Some.field.size })
    (is-id c.args.elf.now.bytes.now c.args.section _ c.requires.is c.in-Some.ensures.value) c.in_ok-own_bytes.ensures.own
