-- Which paths stand in their values and would grow (DWARF 5, 7.5.5, class string), and so what becomes of the attributes of an entry.
-- This project's profile.
use Rattle.std.specs.Prelude.{Bool, true, false, ℕ, ◌-◌, ◌||◌, not, if◌then◌else◌, List, [], ◌∷◌, ◌++◌, length}
use Rattle.dw_base.specs.Cells.{Cell, bytes_of}
use Rattle.dw_base.specs.Forms.{ValueKind, form_in_front, kind_in, width_size}
use Rattle.dw_base.specs.InlinePaths.{inline_fits}
use Rattle.dw_base.specs.Paths.{PathMap}
use Rattle.dw_base.specs.Pieces.{Piece}
use Rattle.dw_base.specs.Readings.{Readings}
use Rattle.dw_base.specs.Roles.{Role, inline_path, role_of}
use Rattle.dw_base.specs.Texts.{text}
use Rattle.dw_base.specs.UnitStates.{Mode, at_values, at_chosen, UnitState}
use Rattle.dw_base.specs.declared.shared.Params.{Params}

-- a path stands in the cells, and its mapped path is longer than they have room for
abbrev pub grows_by : Role → PathMap → List Cell → Bool
grows_by inline_path m p = not (inline_fits m (text (bytes_of p)))
grows_by r m p = false

abbrev pub grows : PathMap → Piece UnitState → Bool
grows m x = grows_by (role_of x) m x.cells

-- one does in pieces, and in all that were read
abbrev pub any_grows : PathMap → List (Piece UnitState) → Bool
any_grows m [] = false
any_grows m (x ∷ xs) = grows m x || any_grows m xs

abbrev pub some_path_grows : PathMap → Readings → Bool
some_path_grows m [] = false
some_path_grows m (r ∷ rs) = any_grows m r.pieces || some_path_grows m rs

-- what becomes of an attribute of an entry: it stays, or its text becomes an offset, which leaves so many bytes of the text's room
pub data Fate : Type 0 where
  stays : Fate
  grown : ℕ → Fate

-- how many bytes of its room an offset in place of a value leaves
abbrev pub room_left : UnitState → List Cell → ℕ
room_left s p = length p - width_size s.header.params.width

abbrev pub fate_if : Bool → ℕ → Fate
fate_if b r = if b then grown r else stays

abbrev pub fate_of : PathMap → Piece UnitState → Fate
fate_of m x = fate_if (grows m x) (room_left x.state x.cells)

-- a form that stands in front of a value has no fate of its own
abbrev pub with_kind : ValueKind → Fate → List Fate → List Fate
with_kind form_in_front f fs = fs
with_kind k f fs = f ∷ fs

-- the fates of the attributes whose values begin here: that of this piece, and those behind it up to the next entry. An attribute whose form
-- stands in front of its value stays.
abbrev pub with_fate : Mode → Params → Fate → List Fate → List Fate
with_fate (at_values number tag (x ∷ xs)) params f fs = with_kind (kind_in params x.form) f fs
with_fate (at_chosen number tag start x xs) params f fs = stays ∷ fs
with_fate m params f fs = []

abbrev pub fates : PathMap → List (Piece UnitState) → List Fate
fates m [] = []
fates m (x ∷ xs) = with_fate x.state.mode x.state.header.params (fate_of m x) (fates m xs)

-- the text of one of them becomes an offset
abbrev pub is_grown : Fate → Bool
is_grown stays = false
is_grown (grown r) = true

abbrev pub any_grown : List Fate → Bool
any_grown [] = false
any_grown (f ∷ fs) = is_grown f || any_grown fs

-- the texts that would grow, in the order of their values
abbrev pub texts_if : Bool → List Cell → List (List ℕ)
texts_if b p = if b then text (bytes_of p) ∷ [] else []

abbrev pub growing_texts : PathMap → List (Piece UnitState) → List (List ℕ)
growing_texts m [] = []
growing_texts m (x ∷ xs) = texts_if (grows m x) x.cells ++ growing_texts m xs

abbrev pub all_growing_texts : PathMap → Readings → List (List ℕ)
all_growing_texts m [] = []
all_growing_texts m (r ∷ rs) = growing_texts m r.pieces ++ all_growing_texts m rs
