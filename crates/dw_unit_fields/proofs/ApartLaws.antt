-- No two fields of texts of a section have a byte in common: each is a piece of the section, and pieces stand one after another.
use Rattle.std.proofs.Common.{Bool, false, ◌≡◌, inl, inr, ℕ, ◌+◌, ◌≤◌, List, [], ◌∷◌, ◌++◌, length, sym, ap, ◌∙◌, refl, subst, arith, append_assoc}
use Rattle.dw_base.specs.Cells.{bytes_of}
use Rattle.dw_base.specs.DebugData.{DebugData}
use Rattle.dw_base.specs.Pieces.{Piece}
use Rattle.dw_base.specs.Roles.{Role, offset, line_start, role_of}
use Rattle.dw_base.specs.UnitHeaders.{UnitSection}
use Rattle.dw_base.specs.UnitStates.{UnitState, before_unit}
use Rattle.dw_base.specs.declared.debug_sections.DebugSection.TheVariants.{Str, LineStr, Line}
use Rattle.dw_offsets.specs.declared.fields.OffsetField.{OffsetField}
use Rattle.dw_base.specs.declared.texts.TextSection.TheVariants.{InStr, InLineStr}
use Rattle.dw_unit_fields.specs.Fields.{AreApart, IsApartFrom, AllApart}
use Rattle.dw_unit_fields.specs.TextPlaces.{SectionSays, paths_by}
use Rattle.dw_unit_fields.specs.SectionFields.{SectionFields, field_by, piece_fields, paths_in, start_by, start_fields, fields_into}
use Rattle.dw_unit_fields.proofs.PieceFieldLaws.{FieldsFrom, from-place, from-starts}
use Rattle.dw_unit_fields.proofs.FoundLaws.{paths-are}
use Rattle.dw_unit_fields.proofs.PlacedLaws.{Placed, placed}
use Rattle.dw_unit_fields.proofs.SectionRunLaws.{PlacedPieces, section-placed}

-- a field has no byte in common with those behind it
apart-from : (f : OffsetField) (n : ℕ) (fs : List OffsetField) → f.at + f.size ≤ n → FieldsFrom n fs → IsApartFrom f fs
apart-from f n [] le h = tt
apart-from f n (g ∷ gs) le h = (inr (omega (arith, le, h.0)), apart-from f n gs le h.1)

pub apart-here : (place size : ℕ) (path : Bool) (fs : List OffsetField) → FieldsFrom (place + size) fs → IsApartFrom (record { at = place; size = size; path = path }) fs
apart-here place size path fs h = apart-from (record { at = place; size = size; path = path }) (place + size) fs (omega arith) h

apart-append : (f : OffsetField) (fs gs : List OffsetField) → IsApartFrom f fs → IsApartFrom f gs → IsApartFrom f (fs ++ gs)
apart-append f [] gs h k = k
apart-append f (x ∷ xs) gs h k = (h.0, apart-append f xs gs h.1 k)

turned : (f g : OffsetField) → AreApart f g → AreApart g f
turned f g (inl before) = inr before
turned f g (inr behind) = inl behind

-- one field more among others
apart-insert : (x f : OffsetField) (xs gs : List OffsetField) → AreApart x f → IsApartFrom x (xs ++ gs) → IsApartFrom x (xs ++ f ∷ gs)
apart-insert x f [] gs a h = (a, h)
apart-insert x f (y ∷ ys) gs a h = (h.0, apart-insert x f ys gs a h.1)

apart-middle : (f : OffsetField) (fs gs : List OffsetField) → IsApartFrom f fs → IsApartFrom f gs → AllApart (fs ++ gs) → AllApart (fs ++ f ∷ gs)
apart-middle f [] gs h k all = (k, all)
apart-middle f (x ∷ xs) gs h k all = (apart-insert x f xs gs (turned f x h.0) all.0, apart-middle f xs gs h.1 k all.1)

-- one piece more in front
pub apart-piece : (r : Role) (place size : ℕ) (fs gs hs : List OffsetField) → FieldsFrom (place + size) fs → FieldsFrom (place + size) gs → FieldsFrom (place + size) hs
    → AllApart (fs ++ (gs ++ hs)) → AllApart ((field_by InStr r place size ++ fs) ++ ((field_by InLineStr r place size ++ gs) ++ (start_by r place size ++ hs)))
apart-piece (offset InStr path) place size fs gs hs f g h all =
    let x : OffsetField = record { at = place; size = size; path = path } in (
      apart-append (record { at = place; size = size; path = path }) fs (gs ++ hs) (apart-here place size path fs f)
          (apart-append (record { at = place; size = size; path = path }) gs hs (apart-here place size path gs g) (apart-here place size path hs h)),
      all,
    )
apart-piece (offset InLineStr path) place size fs gs hs f g h all =
    apart-middle (record { at = place; size = size; path = path }) fs (gs ++ hs) (apart-here place size path fs f)
    (apart-append (record { at = place; size = size; path = path }) gs hs (apart-here place size path gs g) (apart-here place size path hs h)) all
apart-piece line_start place size fs gs hs f g h all =
    subst AllApart (append_assoc fs gs (record { at = place; size = size; path = false } ∷ hs))
    (apart-middle (record { at = place; size = size; path = false }) (fs ++ gs) hs
    (apart-append (record { at = place; size = size; path = false }) fs gs (apart-here place size false fs f) (apart-here place size false gs g)) (apart-here place size false hs h)
    (subst AllApart (sym (append_assoc fs gs hs)) all))
apart-piece r place size fs gs hs f g h all = all

-- so no two of units have one in common
units-apart : (info : List ℕ) (place : ℕ) (xs : List (Piece UnitState)) → Placed info place xs
    → AllApart (piece_fields InStr xs ++ (piece_fields InLineStr xs ++ start_fields xs))
units-apart info place [] l = tt
units-apart info place (x ∷ xs) l =
    subst (λ (i : ℕ). AllApart ((field_by InStr (role_of x) i (length x.cells) ++ piece_fields InStr xs)
    ++ ((field_by InLineStr (role_of x) i (length x.cells) ++ piece_fields InLineStr xs) ++ (start_by (role_of x) i (length x.cells) ++ start_fields xs))))
    (sym l.0)
    (apart-piece (role_of x) place (length x.cells) (piece_fields InStr xs) (piece_fields InLineStr xs) (start_fields xs) (from-place InStr info (place + length x.cells) xs l.2)
    (from-place InLineStr info (place + length x.cells) xs l.2) (from-starts info (place + length x.cells) xs l.2) (units-apart info (place + length x.cells) xs l.2))

pub says-apart : (d : DebugData) (z : UnitSection) (u : SectionFields) → SectionSays d z u → AllApart (fields_into u Str ++ (fields_into u LineStr ++ fields_into u Line))
says-apart d z u s =
    let p : PlacedPieces d.base z 0 s.places s.section.units = section-placed d.base z 0 s.section.list s.places s.section.units s.section.placed in
    let l : Placed (bytes_of z.contents) 0 p.pieces =
    placed d.base (bytes_of z.contents) (before_unit z.number z.kind (length z.contents) 0 0) 0 p.pieces refl p.reads.chain (ap bytes_of p.reads.cells) in
    let is : paths_in (record { number = z.number; pieces = p.pieces }) ≡ u =
    sym (paths-are d.base z 0 p.pieces p.reads) ∙ ap (paths_by z.number) p.places_are ∙ sym s.says in
    subst (λ (w : SectionFields). AllApart (fields_into w Str ++ (fields_into w LineStr ++ fields_into w Line))) is (units-apart (bytes_of z.contents) 0 p.pieces l)
