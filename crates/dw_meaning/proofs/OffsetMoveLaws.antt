-- String offsets and name tables with moved fields: they can be read, and each field names a text.
use Rattle.std.proofs.Common.{◌≡◌, ℕ, List, [], ◌∷◌, length, refl, sym, ap, ◌∙◌, subst, arith}
use Rattle.std.proofs.lemmas.List.{length-append}
use Rattle.dw_base.specs.Cells.{Cell}
use Rattle.dw_base.specs.DebugData.{Around}
use Rattle.dw_base.specs.NamePieces.{NameMode, at_table, at_string, at_rest, no_names, NameState, names_at, FitsNames, name_grammar, ReadsNames}
use Rattle.dw_base.specs.OffsetPieces.{OffsetMode, at_contribution, at_slot, no_offsets, OffsetState, offsets_at, FitsOffsets, offset_grammar, ReadsOffsets}
use Rattle.dw_base.specs.Pieces.{Piece, joined, Chain, EachPiece}
use Rattle.dw_base.specs.Roles.{Role, fixed, offset, inline_path, line_start}
use Rattle.dw_base.specs.SectionTexts.{offset_role, slot_role, name_role_by, name_role}
use Rattle.dw_base.specs.TextChanges.{NamesTextBy, TableChanges}
use Rattle.dw_base.specs.declared.shared.Order.{Order}
use Rattle.dw_base.proofs.OffsetChangeLaws.{OffsetChange, offsets_preserve, NameChange, names_preserve}
use Rattle.dw_base.proofs.PieceFrameLaws.{AllChanged, chain-changed}
use Rattle.dw_base.proofs.PlainCellLaws.{IsPlain, plain-parts}
use Rattle.dw_base.proofs.UnitEditLaws.{Shift, Becomes, length-becomes}
use Rattle.dw_meaning.specs.NewAddends.{MakesRole}
use Rattle.dw_meaning.proofs.TextEditLaws.{CanMove}

-- pieces of plain cells
abbrev pub EachCells : {S : Type 0} → List (Piece S) → Type 0
EachCells xs = EachPiece (λ x. IsPlain x.cells) xs

pub cells-plain : {S : Type 0} (xs : List (Piece S)) → IsPlain (joined xs) → EachCells xs
cells-plain [] h = tt
cells-plain (x ∷ xs) h =
    let both = plain-parts x.cells (joined xs) h in
    (both.0, cells-plain xs both.1)

-- each field can be moved: it has the size of an offset
offset-can : (m : OffsetMode) (paths : List ℕ) (n : ℕ) (c : TableChanges) (around : Around) (order : Order) (s : OffsetState) (p : List Cell) → FitsOffsets m order s p
    → MakesRole (offset_role paths m n) c around p → CanMove (offset_role paths m n) c around p
offset-can at_contribution paths n c around order s p f makes = tt
offset-can (at_slot width end) paths n c around order s p f makes = record { moves = makes; width = width; size = f.size }
offset-can no_offsets paths n c around order s p f makes = tt

pub offsets-can : (paths : List ℕ) (c : TableChanges) (around : Around) (order : Order) (s : OffsetState) (xs : List (Piece OffsetState)) → Chain (offset_grammar order) s xs
    → EachPiece (λ x. MakesRole (slot_role paths x.state) c around x.cells) xs → EachPiece (λ x. CanMove (slot_role paths x.state) c around x.cells) xs
offsets-can paths c around order s [] chain makes = tt
offsets-can paths c around order s (x ∷ xs) chain makes = (
  offset-can x.state.mode paths x.state.slot c around order x.state x.cells chain.1 makes.0,
  offsets-can paths c around order ((offset_grammar order).next x.state x.cells) xs chain.2 makes.1,
)

name-can : (m : NameMode) (c : TableChanges) (around : Around) (order : Order) (s : NameState) (p : List Cell) → FitsNames m order s p → MakesRole (name_role_by m) c around p
    → CanMove (name_role_by m) c around p
name-can at_table c around order s p f makes = tt
name-can (at_string width left end) c around order s p f makes = record { moves = makes; width = width; size = f.size }
name-can (at_rest end) c around order s p f makes = tt
name-can no_names c around order s p f makes = tt

pub names-can : (c : TableChanges) (around : Around) (order : Order) (s : NameState) (xs : List (Piece NameState)) → Chain (name_grammar order) s xs
    → EachPiece (λ x. MakesRole (name_role x.state) c around x.cells) xs → EachPiece (λ x. CanMove (name_role x.state) c around x.cells) xs
names-can c around order s [] chain makes = tt
names-can c around order s (x ∷ xs) chain makes = (
  name-can x.state.mode c around order x.state x.cells chain.1 makes.0,
  names-can c around order ((name_grammar order).next x.state x.cells) xs chain.2 makes.1,
)

-- pieces of roles after a change
abbrev pub RolesChanged : {S : Type 0} → (S → Role) → Shift → List (Piece S) → List (Piece S) → Type 0
RolesChanged {S} role c xs ys = AllChanged S (λ s p q. Becomes (role s) c p q) xs ys

-- they are as long
pub roles-length : {S : Type 0} (role : S → Role) (c : Shift) (xs ys : List (Piece S)) → RolesChanged role c xs ys → length (joined ys) ≡ length (joined xs)
roles-length role c [] [] h = refl
roles-length role c [] (y ∷ ys) h = absurd h
roles-length role c (x ∷ xs) [] h = absurd h
roles-length role c (x ∷ xs) (y ∷ ys) h =
    let here : length y.cells ≡ length x.cells = length-becomes (role x.state) c x.cells y.cells h.0.cells in
    let rest : length (joined ys) ≡ length (joined xs) = roles-length role c xs ys h.1 in
    omega (arith, length-append x.cells (joined xs), length-append y.cells (joined ys), here, rest)

-- and each offset names a text
pub names-becomes : (r : Role) (c : Shift) (p q : List Cell) → Becomes r c p q → NamesTextBy r c.new q
names-becomes fixed c p q h = tt
names-becomes inline_path c p q h = tt
names-becomes (offset table path) c p q h = h.ends
names-becomes line_start c p q h = h.names

pub roles-named : {S : Type 0} (role : S → Role) (c : Shift) (xs ys : List (Piece S)) → RolesChanged role c xs ys
    → EachPiece (λ x. NamesTextBy (role x.state) c.new x.cells) ys
roles-named role c [] [] h = tt
roles-named role c [] (y ∷ ys) h = absurd h
roles-named role c (x ∷ xs) [] h = absurd h
roles-named {S} role c (x ∷ xs) (y ∷ ys) h = (
  subst (λ (s : S). NamesTextBy (role s) c.new y.cells) (sym h.0.state) (names-becomes (role x.state) c x.cells y.cells h.0.cells),
  roles-named role c xs ys h.1,
)

-- string offsets with moved fields are string offsets
pub offsets-reads : (c : Shift) (paths : List ℕ) (order : Order) (contents : List Cell) (xs ys : List (Piece OffsetState)) → RolesChanged (slot_role paths) c xs ys
    → ReadsOffsets order contents xs → ReadsOffsets order (joined ys) ys
offsets-reads c paths order contents xs ys h r =
    let size : length contents ≡ length (joined ys) = ap length (sym r.cells) ∙ sym (roles-length (slot_role paths) c xs ys h) in
    let chain : Chain (offset_grammar order) (offsets_at (length contents) 0 0 at_contribution) ys =
    chain-changed (offset_grammar order) (OffsetChange c paths) (offsets_preserve c paths order) (offsets_at (length contents) 0 0 at_contribution) xs ys h r.chain in
    record { chain = subst (λ (n : ℕ). Chain (offset_grammar order) (offsets_at n 0 0 at_contribution) ys) size chain; cells = refl }

-- and so are name tables
pub names-reads : (c : Shift) (order : Order) (contents : List Cell) (xs ys : List (Piece NameState)) → RolesChanged name_role c xs ys
    → ReadsNames order contents xs → ReadsNames order (joined ys) ys
names-reads c order contents xs ys h r =
    let size : length contents ≡ length (joined ys) = ap length (sym r.cells) ∙ sym (roles-length name_role c xs ys h) in
    let chain : Chain (name_grammar order) (names_at (length contents) 0 at_table) ys =
    chain-changed (name_grammar order) (NameChange c) (names_preserve c order) (names_at (length contents) 0 at_table) xs ys h r.chain in
    record { chain = subst (λ (n : ℕ). Chain (name_grammar order) (names_at n 0 at_table) ys) size chain; cells = refl }
