-- What macro units name is among the starts too.
use Rattle.std.proofs.Common.{subst, sym}
use Rattle.std.proofs.lemmas.Result.{err_from_is_err_and}
use Rattle.dw_base.specs.ViewData.{debug_data}
use Rattle.dw_unit_fields.specs.IndexedTexts.{TextsIndexed}
use Rattle.dw_read.proofs.FoundPathLaws.{macros-row}
use Rattle.dw_starts.proofs.StartSearchLaws.{starts-rise}
use Rattle.dw_read.proofs.paths.named_paths.Goals as goal

pub macros_name-requires-clause-starts : goal.macros_name-requires-clause-starts
macros_name-requires-clause-starts c = starts-rise (debug_data c.args.view.now) c.args.starts.now c.requires.starts

pub returns-in_err-macros_name-clause-refused : goal.returns-in_err-macros_name-clause-refused
returns-in_err-macros_name-clause-refused c =
    let p = err_from_is_err_and c.from_residual-in_err-macros_name.result c.from_residual-in_err-macros_name.ensures.1 in
    rw (p.1, p.2) (macros-row c.args.view.now c.args.starts.now c.in_ok-places.places c.args.macros.now _ c.in_err-macros_name.field-0.0 c.requires.starts
    c.requires.macros c.in_ok-places.ensures.start c.in_ok-paths.ensures.found c.in_err-macros_name.ensures.refused)

pub returns-clause-named : goal.returns-clause-named
returns-clause-named c = record {
  places = c.in_ok-places.places;
  start = c.in_ok-places.ensures.start;
  found = c.in_ok-paths.ensures.found;
  indexed = subst (λ slots. TextsIndexed (debug_data c.args.view.now) c.args.list.now slots.marks) (sym c.slots-2.view_is)
      (subst (λ slots. TextsIndexed (debug_data c.args.view.now) slots.list c.unit_paths.new.slots.marks) c.new-slots.ensures c.in_ok-paths.ensures.indexed);
  named = c.in_ok-macros_name.ensures.named;
}
