-- What the pieces of unit sections say, one after another, as it is printed.
use Rattle.std.specs.Prelude.{ℕ, List, [], ◌∷◌, ◌++◌}
use Rattle.dw_base.specs.DebugData.{Around}
use Rattle.dw_base.specs.Forests.{Mark, begins, opens, attribute, null, no_mark}
use Rattle.dw_base.specs.Pieces.{Piece}
use Rattle.dw_base.specs.Readings.{Readings}
use Rattle.dw_base.specs.UnitHeaders.{UnitSection}
use Rattle.dw_base.specs.UnitMeanings.{mark_of}
use Rattle.dw_base.specs.UnitStates.{UnitState}
use Rattle.dbg_show.specs.UnitTexts.{attribute_line, entry_line, head_line, section_name, value_said}

-- what a mark of a piece in the section of a number says
abbrev pub mark_said : List UnitSection → ℕ → UnitState → Mark → List ℕ
mark_said zs section s (begins head) = head_line s.unit (section_name zs section) head
mark_said zs section s (opens tag children) = entry_line s.entry s.depth tag
mark_said zs section s (attribute a) = attribute_line a.name (value_said a.value)
mark_said zs section s null = []
mark_said zs section s no_mark = []

abbrev pub pieces_said : List UnitSection → ℕ → Around → List (Piece UnitState) → List ℕ
pieces_said zs section around [] = []
pieces_said zs section around (x ∷ xs) = mark_said zs section x.state (mark_of around x) ++ pieces_said zs section around xs

-- what the pieces of all sections say
abbrev pub all_said : List UnitSection → Around → Readings → List ℕ
all_said zs around [] = []
all_said zs around (r ∷ rs) = pieces_said zs r.number around r.pieces ++ all_said zs around rs
