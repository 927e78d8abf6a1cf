-- The units of debug data whose inline paths that would grow can be offsets: lifted, they are read with the lifted abbreviations.
use Rattle.std.proofs.Common.{◌^◌, ◌<◌, List, [], ◌∷◌, length, refl}
use Rattle.dw_base.specs.DebugData.{DebugData, DataReadings, ReadsAll}
use Rattle.dw_base.specs.Paths.{PathMap}
use Rattle.dw_base.specs.Pieces.{EachPiece, Piece}
use Rattle.dw_base.specs.Readings.{EachReading, Readings}
use Rattle.dw_base.specs.UnitStates.{UnitState}
use Rattle.dw_base.specs.declared.debug_sections.DebugSection.TheVariants.{Info}
use Rattle.inline_lift.specs.LiftFails.{UnitsLift, ValueLifts}
use Rattle.inline_lift.specs.Lifted.{Lift, lift_of, lifted_abbrevs, lifted_data, lifted_readings}
use Rattle.inline_lift.proofs.AllLiftLaws.{CanLift}
use Rattle.inline_lift.proofs.SectionLiftLaws.{sections-read}
use Rattle.inline_lift.proofs.StageLaws.{EachStaged, each-staged}
use Rattle.inline_lift.proofs.LiftingLaws.{EachLifting, each-lift, each-lifting}

-- each piece is shorter than 4 bytes can say
abbrev pub IsShort : Piece UnitState → Type 0
IsShort x = length x.cells < 2 ^ 32

pieces-can : (l : Lift) (xs : List (Piece UnitState)) → EachPiece (ValueLifts l.map) xs → EachPiece IsShort xs → EachPiece (CanLift l) xs
pieces-can l [] values short = tt
pieces-can l (x ∷ xs) values short = (record { value = values.0; short = short.0 }, pieces-can l xs values.1 short.1)

readings-can : (l : Lift) (rs : Readings) → EachReading (ValueLifts l.map) rs → EachReading IsShort rs → EachReading (CanLift l) rs
readings-can l [] values short = tt
readings-can l (r ∷ rs) values short = (pieces-can l r.pieces values.0 short.0, readings-can l rs values.1 short.1)

-- where their pieces stand
pub units-staged : (m : PathMap) (d : DebugData) (r : DataReadings) → ReadsAll d.base 0 (d.found Info) r.units → UnitsLift m r → EachStaged (lift_of m d r) r.units
units-staged m d r reads can = each-staged (lift_of m d r) 0 (d.found Info) r.units [] reads can.codes refl tt

-- what is known of them, where the new abbreviations are shorter than 4 bytes can say
pub units-lifting : (m : PathMap) (d : DebugData) (r : DataReadings) → ReadsAll d.base 0 (d.found Info) r.units → UnitsLift m r → EachReading IsShort r.units
    → length (lifted_abbrevs (lift_of m d r)) < 2 ^ 32 → EachLifting (lift_of m d r) r.units
units-lifting m d r reads can short small =
    each-lifting (lift_of m d r) 0 (d.found Info) r.units reads (readings-can (lift_of m d r) r.units can.values short) small (units-staged m d r reads can)

-- so lifted units are units
pub units-lifted-read : (m : PathMap) (d : DebugData) (r : DataReadings) → ReadsAll d.base 0 (d.found Info) r.units → UnitsLift m r → EachReading IsShort r.units
    → length (lifted_abbrevs (lift_of m d r)) < 2 ^ 32
    → ReadsAll (lifted_data (lift_of m d r) d r).base 0 ((lifted_data (lift_of m d r) d r).found Info) (lifted_readings (lift_of m d r) r).units
units-lifted-read m d r reads can short small =
    sections-read (lift_of m d r) 0 (d.found Info) r.units reads (each-lift (lift_of m d r) r.units (units-lifting m d r reads can short small))
