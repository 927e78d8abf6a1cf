-- The offset of abbreviations, in the unit's header.
use Rattle.std.proofs.Common.{arith, ap, ◌+◌, ℕ, length}
use Rattle.dw_base.specs.FileViews.{section_bytes}
use Rattle.dw_base.specs.ViewData.{debug_data}
use Rattle.dw_entries.specs.ViewUnits.{unit_section_at}
use Rattle.dw_relocs.specs.FieldWalks.{ground_of}
use Rattle.dw_relocs.proofs.FrontFieldLaws.{front-goes, front-inside}
use Rattle.dw_relocs.proofs.UnitPassLaws.{unit-first, unit-is, unit-read, unit-room, unit-there}
use Rattle.dw_relocs.proofs.units.pass_front.Goals as goal

pub overflow_add-place : goal.overflow_add-place
overflow_add-place c = let room = unit-room c.args.view.now c.args.unit.now c.requires.unit c.requires.small in let few = c.offset_place.ensures.few in omega (arith, room, few)

pub pass_offset-requires-clause-there : goal.pass_offset-requires-clause-there
pass_offset-requires-clause-there c = unit-there c.args.view.now c.args.unit.now c.requires.unit

pub pass_offset-requires-clause-read : goal.pass_offset-requires-clause-read
pass_offset-requires-clause-read c = unit-read c.args.view.now c.args.unit.now c.requires.unit

pub pass_offset-requires-clause-inside : goal.pass_offset-requires-clause-inside
pass_offset-requires-clause-inside c =
    front-inside (debug_data c.args.view.now).base (unit_section_at c.args.view.now c.args.unit.now.section) c.args.unit.now.start (c.args.unit.now.start + c.offset_place.result)
    c.offset_size-size.result (length (section_bytes c.args.view.now c.args.unit.now.section)) c.args.unit.now (unit-is c.args.view.now c.args.unit.now c.requires.unit)
    (ap (λ (n : ℕ). c.args.unit.now.start + n) c.offset_place.ensures.place) c.offset_size-size.ensures.size (unit-first c.args.view.now c.args.unit.now c.requires.unit)

pub pass_offset-requires-clause-few : goal.pass_offset-requires-clause-few
pass_offset-requires-clause-few c =
    let room = unit-room c.args.view.now c.args.unit.now c.requires.unit c.requires.small in
    let few = c.offset_place.ensures.few in
    let size = c.offset_size-size.ensures.wide in
    omega (arith, room, few, size)

pub returns : goal.returns
returns c = record {
  goes = front-goes (ground_of c.args.view.now c.args.unit.now.section) (debug_data c.args.view.now).base (unit_section_at c.args.view.now c.args.unit.now.section)
      c.args.unit.now.start (c.args.unit.now.start + c.offset_place.result) c.offset_size-size.result c.args.unit.now c.args.pass c.pass_offset.result
      (unit-is c.args.view.now c.args.unit.now c.requires.unit) (ap (λ (n : ℕ). c.args.unit.now.start + n) c.offset_place.ensures.place) c.offset_size-size.ensures.size
      c.pass_offset.ensures.goes;
}
