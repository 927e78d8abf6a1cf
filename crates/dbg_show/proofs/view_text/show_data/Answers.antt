-- The units, the line tables and the macro units that were read are what is printed from.
use Rattle.dbg_show.proofs.ReadLaws.{data-sources, data-units, macros-listed}
use Rattle.dbg_show.proofs.SourceReadLaws.{units-read}
use Rattle.dbg_show.proofs.view_text.show_data.Goals as goal

pub read-requires : goal.read-requires
read-requires g c = record { units = units-read c.args.view.now _ _ c.args.units.now.units c.args.units.now.tables c.requires.read.read c.requires.units }

pub macro_list-requires : goal.macro_list-requires
macro_list-requires g c = record { macros = data-units c.args.view.now c.args.read.now c.as_slice.result.now c.requires.read c.as_slice.ensures.value }

pub write_shown-requires : goal.write_shown-requires
write_shown-requires g c = record {
  sources = data-sources c.args.view.now c.args.read.now c.args.units.now.units c.args.units.now.tables c.in_ok-index.index c.as_slice-lines.result.now c.as_slice-2.result.now
      c.as_slice-keys.result.now c.as_slice-tables.result.now c.requires.read c.requires.units c.in_ok-index.ensures.index c.as_slice-lines.ensures.value c.as_slice-tables.ensures.value
      (macros-listed c.args.view.now c.as_slice.result.now c.args.read.now.macros.items c.as_slice-2.result.now c.in_ok-found.found.units.items c.as_slice-keys.result.now
      c.in_ok-found.found.keys.items c.as_slice.ensures.value c.as_slice-2.ensures.value c.as_slice-keys.ensures.value c.in_ok-found.ensures.list);
}
