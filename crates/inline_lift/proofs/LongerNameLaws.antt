-- String offsets, name tables and macro units with more texts behind those of .debug_str: they name what they did, and mean the same.
use Rattle.std.proofs.Common.{◌≡◌, ℕ, List, [], ◌∷◌, ◌++◌, refl, ap, ◌∙◌}
use Rattle.dw_base.specs.Cells.{Cell}
use Rattle.dw_base.specs.MacroMeanings.{MacroMark, MacroMeaning, MacrosBehind, has_event, macro_mark_by, macro_meanings, macros_behind, text_event, with_macro_mark}
use Rattle.dw_base.specs.MacroPieces.{MacroMode, MacroState, at_offset, of_text, of_unit}
use Rattle.dw_base.specs.MacroReadings.{EachMacro, MacroReading}
use Rattle.dw_base.specs.NamePieces.{NameMode, NameState, at_string}
use Rattle.dw_base.specs.OffsetPieces.{OffsetMode, OffsetState, at_slot}
use Rattle.dw_base.specs.Pieces.{EachPiece, Piece}
use Rattle.dw_base.specs.Roles.{Role}
use Rattle.dw_base.specs.SectionTexts.{NameTexts, macro_role, macro_role_by, name_role, name_role_by, offset_role, slot_role}
use Rattle.dw_base.specs.SlotTexts.{NamePart, name_part, name_parts, slot_text, slot_texts, text_part}
use Rattle.dw_base.specs.TableStarts.{NamesImport, is_import}
use Rattle.dw_base.specs.TextChanges.{NamesTextBy}
use Rattle.dw_base.specs.Texts.{laid_texts}
use Rattle.inline_lift.specs.Lifted.{Lift, lifted_str}
use Rattle.inline_lift.proofs.SurroundingLaws.{Standing, named-kept, new_around, old_around, text-longer, unit-kept}

-- pieces of roles
pub roles-kept : {S : Type 0} (role : S → Role) (l : Lift) (g : Standing) (xs : List (Piece S)) → NameTexts role (old_around l g) xs → NameTexts role (new_around l g) xs
roles-kept role l g [] h = tt
roles-kept role l g (x ∷ xs) h = (named-kept (role x.state) l g x.cells h.0, roles-kept role l g xs h.1)

-- slots
slot-longer : (m : OffsetMode) (paths : List ℕ) (n : ℕ) (l : Lift) (g : Standing) (p : List Cell) → NamesTextBy (offset_role paths m n) (old_around l g) p
    → slot_text m l.base.order (record { number = g.number; bytes = lifted_str l }) p ≡ slot_text m l.base.order (record { number = g.number; bytes = l.str }) p
slot-longer (at_slot width end) paths n l g p h = ap (λ (t : List ℕ). t ∷ []) (text-longer l.base.order g.number l.str (laid_texts l.texts) p h)
slot-longer m paths n l g p h = refl

pub slots-longer : (paths : List ℕ) (l : Lift) (g : Standing) (xs : List (Piece OffsetState)) → NameTexts (slot_role paths) (old_around l g) xs
    → slot_texts l.base.order (record { number = g.number; bytes = lifted_str l }) xs ≡ slot_texts l.base.order (record { number = g.number; bytes = l.str }) xs
slots-longer paths l g [] h = refl
slots-longer paths l g (x ∷ xs) h =
    ap (λ (ts : List (List ℕ)). ts ++ slot_texts l.base.order (record { number = g.number; bytes = lifted_str l }) xs) (slot-longer x.state.mode paths x.state.slot l g x.cells h.0)
    ∙ ap (λ (ts : List (List ℕ)). slot_text x.state.mode l.base.order (record { number = g.number; bytes = l.str }) x.cells ++ ts) (slots-longer paths l g xs h.1)

-- name tables
name-longer : (m : NameMode) (l : Lift) (g : Standing) (p : List Cell) → NamesTextBy (name_role_by m) (old_around l g) p
    → name_part m l.base.order (record { number = g.number; bytes = lifted_str l }) p ≡ name_part m l.base.order (record { number = g.number; bytes = l.str }) p
name-longer (at_string width left end) l g p h = ap text_part (text-longer l.base.order g.number l.str (laid_texts l.texts) p h)
name-longer m l g p h = refl

pub names-longer : (l : Lift) (g : Standing) (xs : List (Piece NameState)) → NameTexts name_role (old_around l g) xs
    → name_parts l.base.order (record { number = g.number; bytes = lifted_str l }) xs ≡ name_parts l.base.order (record { number = g.number; bytes = l.str }) xs
names-longer l g [] h = refl
names-longer l g (x ∷ xs) h =
    ap (λ (n : NamePart). n ∷ name_parts l.base.order (record { number = g.number; bytes = lifted_str l }) xs) (name-longer x.state.mode l g x.cells h.0)
    ∙ ap (λ (ns : List NamePart). name_part x.state.mode l.base.order (record { number = g.number; bytes = l.str }) x.cells ∷ ns) (names-longer l g xs h.1)

-- macro units
macro-longer : (m : MacroMode) (l : Lift) (g : Standing) (p : List Cell) → NamesTextBy (macro_role_by m) (old_around l g) p → macro_mark_by m (new_around l g) p ≡ macro_mark_by m (old_around l g) p
macro-longer (at_offset width (of_text defines line)) l g p h =
    ap (λ (t : List ℕ). has_event (text_event defines line t)) (text-longer l.base.order g.number l.str (laid_texts l.texts) p h)
macro-longer (at_offset width of_unit) l g p h = refl
macro-longer m l g p h = refl

behind-longer : (l : Lift) (g : Standing) (xs : List (Piece MacroState)) → EachPiece (λ x. NamesTextBy (macro_role x.state) (old_around l g) x.cells) xs
    → macros_behind (new_around l g) xs ≡ macros_behind (old_around l g) xs
behind-longer l g [] h = refl
behind-longer l g (x ∷ xs) h =
    ap (λ (k : MacroMark). with_macro_mark k (macros_behind (new_around l g) xs)) (macro-longer x.state.mode l g x.cells h.0)
    ∙ ap (with_macro_mark (macro_mark_by x.state.mode (old_around l g) x.cells)) (behind-longer l g xs h.1)

pub macros-longer : (l : Lift) (g : Standing) (rs : List MacroReading) → EachMacro (λ x. NamesTextBy (macro_role x.state) (old_around l g) x.cells) rs
    → macro_meanings (new_around l g) rs ≡ macro_meanings (old_around l g) rs
macros-longer l g [] h = refl
macros-longer l g (r ∷ rs) h =
    ap (λ (x : MacrosBehind). x.units ++ macro_meanings (new_around l g) rs) (behind-longer l g r.pieces h.0)
    ∙ ap (λ (us : List MacroMeaning). (macros_behind (old_around l g) r.pieces).units ++ us) (macros-longer l g rs h.1)

macro-named : (l : Lift) (g : Standing) (xs : List (Piece MacroState)) → EachPiece (λ x. NamesTextBy (macro_role x.state) (old_around l g) x.cells) xs
    → EachPiece (λ x. NamesTextBy (macro_role x.state) (new_around l g) x.cells) xs
macro-named l g [] h = tt
macro-named l g (x ∷ xs) h = (named-kept (macro_role x.state) l g x.cells h.0, macro-named l g xs h.1)

pub macros-named : (l : Lift) (g : Standing) (rs : List MacroReading) → EachMacro (λ x. NamesTextBy (macro_role x.state) (old_around l g) x.cells) rs
    → EachMacro (λ x. NamesTextBy (macro_role x.state) (new_around l g) x.cells) rs
macros-named l g [] h = tt
macros-named l g (r ∷ rs) h = (macro-named l g r.pieces h.0, macros-named l g rs h.1)

import-kept : (l : Lift) (g : Standing) (xs : List (Piece MacroState)) → EachPiece (NamesImport (old_around l g).lasting) xs → EachPiece (NamesImport (new_around l g).lasting) xs
import-kept l g [] h = tt
import-kept l g (x ∷ xs) h = (unit-kept (is_import x.state.mode) l g x.cells h.0, import-kept l g xs h.1)

pub imports-kept : (l : Lift) (g : Standing) (rs : List MacroReading) → EachMacro (NamesImport (old_around l g).lasting) rs → EachMacro (NamesImport (new_around l g).lasting) rs
imports-kept l g [] h = tt
imports-kept l g (r ∷ rs) h = (import-kept l g r.pieces h.0, imports-kept l g rs h.1)
