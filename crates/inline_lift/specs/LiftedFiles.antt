-- The file whose inline paths that would grow are offsets of their texts (this project's profile): its unit sections, .debug_abbrev and
-- .debug_str are those of the lifted debug data, and all else is as it was. Where no path would grow it is the file itself.
use Rattle.std.specs.Prelude.{ℕ, if◌then◌else◌, List, [], ◌∷◌}
use Rattle.dw_base.specs.Cells.{bytes_of}
use Rattle.dw_base.specs.DebugData.{DebugData, DataReadings}
use Rattle.dw_base.specs.Elf.{contents_of}
use Rattle.dw_base.specs.Layout.{with_bodies}
use Rattle.dw_base.specs.Paths.{PathMap}
use Rattle.dw_base.specs.Pieces.{joined}
use Rattle.dw_base.specs.Readings.{Readings}
use Rattle.dw_base.specs.declared.debug_sections.DebugSection.TheVariants.{Str}
use Rattle.dw_meaning.specs.DataOutput.{Body, body_in}
use Rattle.dw_meaning.specs.FileMeanings.{file_data}
use Rattle.inline_lift.specs.GrowingPaths.{some_path_grows}
use Rattle.inline_lift.specs.Lifted.{Lift, lift_of, lifted_abbrevs, lifted_pieces, lifted_str}

-- the sections with new bytes: those of units, .debug_abbrev and .debug_str
abbrev pub unit_bodies : Lift → Readings → List Body
unit_bodies l [] = []
unit_bodies l (r ∷ rs) = record { number = r.number; bytes = bytes_of (joined (lifted_pieces l r.pieces)) } ∷ unit_bodies l rs

abbrev pub lifted_bodies : Lift → DebugData → DataReadings → List Body
lifted_bodies l d r =
    record { number = d.base.abbrevs.number; bytes = lifted_abbrevs l }
    ∷ record { number = (d.found Str).number; bytes = lifted_str l }
    ∷ unit_bodies l r.units

-- the body of the section of a number
unfoldable pub lifted_body : PathMap → List ℕ → DataReadings → ℕ → List ℕ
lifted_body m b r i = body_in (lifted_bodies (lift_of m (file_data b) r) (file_data b) r) (contents_of b) i

-- the lifted file, for these readings
unfoldable pub lifted_of : PathMap → List ℕ → DataReadings → List ℕ
lifted_of m b r = if some_path_grows m r.units then with_bodies b (lifted_body m b r) else b
