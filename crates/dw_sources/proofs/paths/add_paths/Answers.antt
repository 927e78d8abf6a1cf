-- The joined pairs stay so when the unit's own path is added.
use Rattle.std.specs.Prelude.{option_map}
use Rattle.dw_base.specs.ViewData.{debug_data}
use Rattle.dw_sources.specs.UnitPaths.{unit_path}
use Rattle.dw_sources.proofs.JoinLaws.{joined-stays}
use Rattle.dw_sources.proofs.paths.add_paths.Goals as goal

pub add_lines-requires : goal.add_lines-requires
add_lines-requires c = record {
  joined = joined-stays (debug_data c.args.view.now) _ c.args.fronts.now _ _ (unit_path c.args.folder.now (option_map (λ t. t.now) c.args.name)) _
      c.requires.joined c.in_ok-add_unit_path.ensures.value;
}
