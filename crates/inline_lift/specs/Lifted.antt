-- Debug data whose inline paths that would grow are offsets of their texts (this project's profile): each such unit has a table of its own
-- (DWARF 5, 7.5.1 and 7.5.3), an offset into .debug_str stands in place of each such text, with zeros in the rest of its room, and the texts
-- stand behind .debug_str. Entries keep their places.
use Rattle.std.specs.Prelude.{ℕ, zero, suc, ◌+◌, List, [], ◌∷◌, ◌++◌, length, Option, Some, None}
use Rattle.dw_base.specs.AbbreviationBytes.{abbreviations_at}
use Rattle.dw_base.specs.Cells.{Cell, bytes_of, plain_cells}
use Rattle.dw_base.specs.DebugData.{DebugData, DataReadings, Found}
use Rattle.dw_base.specs.Forms.{width_size}
use Rattle.dw_base.specs.Numbers.{number_bytes, with_number}
use Rattle.dw_base.specs.Paths.{PathMap}
use Rattle.dw_base.specs.Pieces.{Piece, joined}
use Rattle.dw_base.specs.Readings.{Reading, Readings}
use Rattle.dw_base.specs.StringTables.{place_in}
use Rattle.dw_base.specs.Texts.{laid_texts, text}
use Rattle.dw_base.specs.UnitHeaders.{UnitBase, UnitSection, header_places}
use Rattle.dw_base.specs.UnitStates.{Mode, at_header, at_values, at_chosen, UnitState, in_unit, piece_header}
use Rattle.dw_base.specs.WrittenLines.{length_size}
use Rattle.dw_base.specs.declared.debug_sections.DebugSection.{DebugSection}
use Rattle.dw_base.specs.declared.debug_sections.DebugSection.TheVariants.{Info, Types, Abbrev, Str, LineStr, StrOffsets, Line, Macro, Names}
use Rattle.dw_base.specs.declared.shared.Order.{Order}
use Rattle.dw_base.specs.declared.units.UnitHeader.{UnitHeader}
use Rattle.dw_meaning.specs.RebuiltTables.{first_texts}
use Rattle.inline_lift.specs.GrowingPaths.{Fate, stays, grown, all_growing_texts, fate_of, fates}
use Rattle.inline_lift.specs.LiftedTables.{Copy, all_copies, copy_bytes, copy_place, filler_bytes, later_fates, lifted_specs}

-- what debug data are lifted by: the map; what their units are read by, and the copies of tables that go behind .debug_abbrev; the bytes of
-- .debug_str, and the texts that go behind them
pub record Lift : Type 0 where
  pub map : PathMap
  pub base : UnitBase
  pub copies : List Copy
  pub str : List ℕ
  pub texts : List (List ℕ)

abbrev pub lift_of : PathMap → DebugData → DataReadings → Lift
lift_of m d r = record {
  map = m;
  base = d.base;
  copies = all_copies m d.base.abbrevs.bytes r.units;
  str = (d.found Str).bytes;
  texts = first_texts [] (all_growing_texts m r.units);
}

-- the new abbreviations, and the new texts
abbrev pub lifted_abbrevs : Lift → List ℕ
lifted_abbrevs l = l.base.abbrevs.bytes ++ copy_bytes l.copies

abbrev pub lifted_base : Lift → UnitBase
lifted_base l = record { order = l.base.order; abbrevs = record { number = l.base.abbrevs.number; bytes = lifted_abbrevs l } }

abbrev pub lifted_str : Lift → List ℕ
lifted_str l = l.str ++ laid_texts l.texts

-- where the table of a unit stands that has one of its own, and where a text does
abbrev pub own_table : Lift → ℕ → Option ℕ
own_table l unit = copy_place (length l.base.abbrevs.bytes) l.copies unit

abbrev pub lifted_place : Lift → List ℕ → ℕ
lifted_place l t = length l.str + place_in l.texts t

-- the header of a unit whose table stands at a place
abbrev pub abbrevs_place : UnitHeader → ℕ
abbrevs_place h = (header_places h.params.width h.params.version (length_size h.params.width)).abbrevs

abbrev pub header_cells : Order → ℕ → List Cell → Option UnitHeader → List Cell
header_cells order table p None = p
header_cells order table p (Some h) = plain_cells (with_number order (bytes_of p) (abbrevs_place h) (width_size h.params.width) table)

-- a state in that unit, in front of attributes of these fates
abbrev pub lifted_mode : List Fate → Mode → Mode
lifted_mode fs (at_values number tag xs) = at_values number tag (lifted_specs fs xs)
lifted_mode fs (at_chosen number tag start x xs) = at_chosen number tag start x (lifted_specs (later_fates fs) xs)
lifted_mode fs m = m

abbrev pub lifted_state : Lift → ℕ → List Fate → UnitState → UnitState
lifted_state l table fs s = record s {
  header = record s.header { abbrevs = table };
  table = abbreviations_at (lifted_abbrevs l) table;
  mode = lifted_mode fs s.mode;
}

-- the attributes behind the next one
abbrev pub behind_next : Mode → Mode
behind_next (at_values number tag (x ∷ xs)) = at_values number tag xs
behind_next m = m

-- what is left of the room of a text, so many bytes
abbrev pub filler_pieces : Order → UnitState → ℕ → List (Piece UnitState)
filler_pieces order s zero = []
filler_pieces order s (suc n) =
    record {
      state = in_unit s (s.place + width_size s.header.params.width) s.entry s.depth (behind_next s.mode);
      cells = plain_cells (filler_bytes order (suc n));
    } ∷ []

abbrev pub offset_cells : Lift → UnitState → List Cell → List Cell
offset_cells l s p = plain_cells (number_bytes l.base.order (width_size s.header.params.width) (lifted_place l (text (bytes_of p))))

-- what becomes of a value of a fate, in the new state
abbrev pub lifted_value : Fate → Lift → UnitState → List Cell → List (Piece UnitState)
lifted_value stays l s p = record { state = s; cells = p } ∷ []
lifted_value (grown r) l s p = record { state = s; cells = offset_cells l s p } ∷ filler_pieces l.base.order s r

-- and of any piece of that unit
abbrev pub pieces_by : Mode → Lift → ℕ → List Fate → Fate → UnitState → List Cell → List (Piece UnitState)
pieces_by at_header l table fs f s p =
    record { state = s; cells = header_cells l.base.order table p (piece_header l.base s p) } ∷ []
pieces_by (at_values number tag xs) l table fs f s p = lifted_value f l (lifted_state l table fs s) p
pieces_by m l table fs f s p = record { state = lifted_state l table fs s; cells = p } ∷ []

-- a piece stays in a unit that has no table of its own
abbrev pub pieces_if : Option ℕ → Lift → List Fate → Piece UnitState → List (Piece UnitState)
pieces_if None l fs x = x ∷ []
pieces_if (Some table) l fs x = pieces_by x.state.mode l table fs (fate_of l.map x) x.state x.cells

abbrev pub lifted_pieces : Lift → List (Piece UnitState) → List (Piece UnitState)
lifted_pieces l [] = []
lifted_pieces l (x ∷ xs) = pieces_if (own_table l x.state.unit) l (fates l.map (x ∷ xs)) x ++ lifted_pieces l xs

abbrev pub lifted_reading : Lift → Reading → Reading
lifted_reading l r = record { number = r.number; pieces = lifted_pieces l r.pieces }

abbrev pub lifted_units : Lift → Readings → Readings
lifted_units l [] = []
lifted_units l (r ∷ rs) = lifted_reading l r ∷ lifted_units l rs

-- the readings of the lifted debug data
abbrev pub lifted_readings : Lift → DataReadings → DataReadings
lifted_readings l r = record r { units = lifted_units l r.units }

-- the lifted unit sections, which have their numbers and kinds
abbrev pub lifted_sections : Lift → List UnitSection → Readings → List UnitSection
lifted_sections l [] rs = []
lifted_sections l (z ∷ zs) [] = z ∷ zs
lifted_sections l (z ∷ zs) (r ∷ rs) = record z { contents = joined (lifted_pieces l r.pieces) } ∷ lifted_sections l zs rs

-- what is found of the sections of each kind in lifted debug data
abbrev pub lifted_found : Lift → DebugData → Readings → (s : DebugSection) → Found s
lifted_found l d rs Info = lifted_sections l (d.found Info) rs
lifted_found l d rs Types = tt
lifted_found l d rs Abbrev = tt
lifted_found l d rs Str = record { number = (d.found Str).number; bytes = lifted_str l }
lifted_found l d rs LineStr = d.found LineStr
lifted_found l d rs StrOffsets = d.found StrOffsets
lifted_found l d rs Line = d.found Line
lifted_found l d rs Macro = d.found Macro
lifted_found l d rs Names = d.found Names

abbrev pub lifted_data : Lift → DebugData → DataReadings → DebugData
lifted_data l d r = record { base = lifted_base l; found = lifted_found l d r.units }
