-- What pieces name after an edit is what they named, mapped: so the table that was built from what they name once mapped is the one that is
-- built from what they name then.
use Rattle.std.proofs.Common.{Bool, ◌≡◌, ℕ, List, [], ◌∷◌, ◌++◌, refl, sym, ap, ◌∙◌}
use Rattle.dw_base.specs.Cells.{Cell}
use Rattle.dw_base.specs.Paths.{PathMap}
use Rattle.dw_base.specs.Pieces.{Piece}
use Rattle.dw_base.specs.Roles.{Role, fixed, offset, inline_path, line_start, role_of, role_of_mode}
use Rattle.dw_base.specs.SectionTexts.{mentions_with}
use Rattle.dw_base.specs.StringTables.{Mention}
use Rattle.dw_base.specs.TextChanges.{mention_at, mentions_by, mentions_of}
use Rattle.dw_base.specs.UnitStates.{UnitState}
use Rattle.dw_base.specs.declared.texts.TextSection.{TextSection}
use Rattle.dw_base.specs.declared.texts.TextSection.TheVariants.{InStr, InLineStr}
use Rattle.dw_base.proofs.PieceFrameLaws.{AllChanged}
use Rattle.dw_base.proofs.UnitEditLaws.{Shift, Renamed, Becomes, UnitsChanged}
use Rattle.dw_meaning.specs.RebuiltTables.{after_map, all_after}

pub after-append : (m : PathMap) (xs ys : List Mention) → all_after m (xs ++ ys) ≡ all_after m xs ++ all_after m ys
after-append m [] ys = refl
after-append m (x ∷ xs) ys = ap (λ (zs : List Mention). after_map m x ∷ zs) (after-append m xs ys)

mention-after : (c : Shift) (table : TextSection) (path : Bool) (p q : List Cell) → Renamed c table path p q
    → mention_at c.new table path q ≡ after_map c.map (mention_at c.old table path p)
mention-after c table path p q r = ap (λ (t : List ℕ). record { path = path; text = t }) r.says

-- the mentions of a piece
pub role-after : (r : Role) (table : TextSection) (c : Shift) (p q : List Cell) → Becomes r c p q
    → mentions_by r table c.new q ≡ all_after c.map (mentions_by r table c.old p)
role-after fixed table c p q h = refl
role-after inline_path table c p q h = refl
role-after line_start table c p q h = refl
role-after (offset InStr path) InStr c p q h = ap (λ (x : Mention). x ∷ []) (mention-after c InStr path p q h)
role-after (offset InStr path) InLineStr c p q h = refl
role-after (offset InLineStr path) InStr c p q h = refl
role-after (offset InLineStr path) InLineStr c p q h = ap (λ (x : Mention). x ∷ []) (mention-after c InLineStr path p q h)

-- of pieces of roles: slots, macro units, name tables
pub with-after : {S : Type 0} (role : S → Role) (table : TextSection) (c : Shift) (xs ys : List (Piece S)) → AllChanged S (λ s p q. Becomes (role s) c p q) xs ys
    → mentions_with role table c.new ys ≡ all_after c.map (mentions_with role table c.old xs)
with-after role table c [] [] h = refl
with-after role table c [] (y ∷ ys) h = absurd h
with-after role table c (x ∷ xs) [] h = absurd h
with-after {S} role table c (x ∷ xs) (y ∷ ys) h =
    ap (λ (s : S). mentions_by (role s) table c.new y.cells ++ mentions_with role table c.new ys) h.0.state
    ∙ ap (λ (ms : List Mention). ms ++ mentions_with role table c.new ys) (role-after (role x.state) table c x.cells y.cells h.0.cells)
    ∙ ap (λ (ms : List Mention). all_after c.map (mentions_by (role x.state) table c.old x.cells) ++ ms) (with-after role table c xs ys h.1)
    ∙ sym (after-append c.map (mentions_by (role x.state) table c.old x.cells) (mentions_with role table c.old xs))

-- of the pieces of a unit section
pub units-after : (table : TextSection) (c : Shift) (xs ys : List (Piece UnitState)) → UnitsChanged c xs ys
    → mentions_of table c.new ys ≡ all_after c.map (mentions_of table c.old xs)
unfolding role_of
units-after table c [] [] h = refl
units-after table c [] (y ∷ ys) h = absurd h
units-after table c (x ∷ xs) [] h = absurd h
units-after table c (x ∷ xs) (y ∷ ys) h =
    ap (λ (s : UnitState). mentions_by (role_of_mode s.mode s.header.params) table c.new y.cells ++ mentions_of table c.new ys) h.0.state
    ∙ ap (λ (ms : List Mention). ms ++ mentions_of table c.new ys) (role-after (role_of_mode x.state.mode x.state.header.params) table c x.cells y.cells h.0.cells.0)
    ∙ ap (λ (ms : List Mention). all_after c.map (mentions_by (role_of_mode x.state.mode x.state.header.params) table c.old x.cells) ++ ms) (units-after table c xs ys h.1)
    ∙ sym (after-append c.map (mentions_by (role_of_mode x.state.mode x.state.header.params) table c.old x.cells) (mentions_of table c.old xs))
