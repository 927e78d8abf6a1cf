-- Where a unit ends, or why its operations can't be read.
use Rattle.std.specs.Prelude.{◌≡◌, ℕ, Ok}
use Rattle.dw_base.specs.FileViews.{View}
use Rattle.dw_base.specs.declared.fault.Refusal.{Refusal}
use Rattle.dw_base.specs.declared.shared.Width.{Width}
use Rattle.dw_base.specs.MacroUnits.{unit_operation}
use Rattle.dw_base.specs.MacroOffsets.{OperationFails, ReadUpTo}
use Rattle.dw_base.specs.declared.macro_units.MacroOperation.TheVariants.{End}

-- operations whose offsets can be read lead from the first of a unit to the one that ends it, and that ends at a place
pub record EndsAt (v : View) (section start : ℕ) (width : Width) (first end : ℕ) : Type 0 where
  pub last : ℕ
  pub operations : ReadUpTo v section start width first last
  pub ends : unit_operation v section start width last ≡ Ok (End, end)

-- they lead from the first of a unit to one that is refused so
pub record UnitBreaks (v : View) (section start : ℕ) (width : Width) (first : ℕ) (r : Refusal) : Type 0 where
  pub place : ℕ
  pub operations : ReadUpTo v section start width first place
  pub refused : OperationFails v section start width place r
