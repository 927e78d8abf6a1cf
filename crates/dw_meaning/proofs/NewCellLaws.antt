-- What becomes of the contents of the section of a number: the bytes of the new contents are its new body, and relocations stay at their bytes or
-- move in order, so that their records can be written.
use Rattle.std.specs.Bool.{⊤}
use Rattle.std.proofs.Common.{Bool, true, false, ◌≡◌, ◌≢◌, ◌⊎◌, inl, inr, ℕ, zero, suc, ◌+◌, ◌<◌, ◌==◌, ◌&&◌, if◌then◌else◌, List, [], ◌∷◌, ◌++◌, drop, get_or, slice_index, take, Option, None, Some, sym, ap, ◌∙◌, refl, subst, arith}
use Rattle.std.proofs.lemmas.Bool.{cases_eq, eqb-true}
use Rattle.std.proofs.lemmas.List.{get_or-drop}
use Rattle.dw_base.specs.Cells.{Cell, bytes_of}
use Rattle.dw_base.specs.DebugData.{Around, DataReadings, DebugData, ReadsAll, line_source, path_slots, units_in}
use Rattle.dw_base.specs.DebugSections.{debug_section}
use Rattle.dw_base.specs.Elf.{contents_at, contents_of, is_empty_kind, nth_section}
use Rattle.dw_base.specs.FileViews.{ViewSection}
use Rattle.dw_base.specs.TextLineChanges.{tables_by_texts}
use Rattle.dw_base.specs.LineReadings.{all_lines}
use Rattle.dw_base.specs.MacroPieces.{MacroState}
use Rattle.dw_base.specs.MacroReadings.{MacroReading, ReadsAllMacros}
use Rattle.dw_base.specs.Pieces.{Piece, joined}
use Rattle.dw_base.specs.Readings.{Reading, Readings}
use Rattle.dw_base.specs.Roles.{Role, role_of}
use Rattle.dw_base.specs.SectionRelocations.{RelocationSource, relocations_of, section_cells}
use Rattle.dw_base.specs.SectionTexts.{edited_macros, edited_with, macro_role, name_role, slot_role}
use Rattle.dw_base.specs.TextChanges.{TableChanges, edited_all, edited_by}
use Rattle.dw_base.specs.UnitHeaders.{SectionKind, UnitBase}
use Rattle.dw_base.specs.UnitStates.{UnitState}
use Rattle.dw_base.specs.ViewData.{is_macro, macro_section, macro_sections_from, unit_kind, unit_section, unit_sections_from}
use Rattle.dw_base.specs.declared.shared.Order.{Order}
use Rattle.dw_base.proofs.PlainCellLaws.{IsPlain, plain-append, plain_cells-plain}
use Rattle.dw_base.proofs.SectionRelocationLaws.{bytes_of-cells_from}
use Rattle.dw_base.specs.declared.debug_sections.DebugSection.TheVariants.{Str, LineStr, StrOffsets, Line, Names}
use Rattle.dw_meaning.specs.DataOutput.{Body, body_in, cells_body, macro_bodies, names_after, offsets_after, unit_bodies, unit_body}
use Rattle.dw_meaning.specs.RelocatedBodies.{CellBody, cell_body, cells_by, cells_of_number, macro_cells, old_contents, unit_cells}
use Rattle.dw_meaning.proofs.CellKeptLaws.{SectionCells, behind_named, cells-further, cells-here, new_tables}
use Rattle.dw_meaning.proofs.EditStayLaws.{AllFit, AllStay, all-self, roles-stay, units-stay}
use Rattle.dw_meaning.proofs.FileBackLaws.{AllAt}
use Rattle.dw_meaning.proofs.FileKeptLaws.{here-body, next-body}
use Rattle.dw_meaning.proofs.TextCellLaws.{text_tables-plain}
use Rattle.dw_meaning.proofs.MacroKeptLaws.{edited-cells}
use Rattle.dw_meaning.proofs.OffsetMoveLaws.{EachCells, cells-plain}
use Rattle.dw_meaning.proofs.SectionKeptLaws.{edited-plain}

-- New bodies and new contents, one by one: of one number, with the bytes of the contents.
same-step : (x : Body) (y : CellBody) (xs : List Body) (ys : List CellBody) (old : ℕ → List ℕ) (cells : List Cell) (i : ℕ) → y.number ≡ x.number → x.bytes ≡ bytes_of y.cells
    → body_in xs old i ≡ bytes_of (cells_of_number ys cells i) → body_in (x ∷ xs) old i ≡ bytes_of (cells_of_number (y ∷ ys) cells i)
same-step x y xs ys old cells i number bytes rest = by_number (cases_eq i x.number)
  where
    by_number : (i ≡ x.number) ⊎ (i ≡ x.number → ⊥) → body_in (x ∷ xs) old i ≡ bytes_of (cells_of_number (y ∷ ys) cells i)
    by_number (inl same) = here-body x xs old i same ∙ bytes ∙ sym (ap bytes_of (cells-here y ys cells i (number ∙ sym same)))
    by_number (inr other) = next-body x xs old i other ∙ rest ∙ sym (ap bytes_of (cells-further y ys cells i (λ e. other (e ∙ number))))

units-bytes : (c : TableChanges) (around : Around) (rs : Readings) (old : ℕ → List ℕ) (cells : List Cell) (i : ℕ) → bytes_of cells ≡ old i
    → body_in (unit_bodies c around rs) old i ≡ bytes_of (cells_of_number (unit_cells c around rs) cells i)
units-bytes c around [] old cells i own = sym own
units-bytes c around (r ∷ rs) old cells i own =
    same-step (unit_body c around r) (cell_body r.number (joined (edited_all c around r.pieces))) (unit_bodies c around rs) (unit_cells c around rs) old cells i refl refl
    (units-bytes c around rs old cells i own)

macros-bytes : (rs : List MacroReading) (xs : List Body) (ys : List CellBody) (old : ℕ → List ℕ) (cells : List Cell) (i : ℕ)
    → body_in xs old i ≡ bytes_of (cells_of_number ys cells i) → body_in (macro_bodies rs ++ xs) old i ≡ bytes_of (cells_of_number (macro_cells rs ++ ys) cells i)
macros-bytes [] xs ys old cells i rest = rest
macros-bytes (r ∷ rs) xs ys old cells i rest =
    same-step (cells_body r.number (joined r.pieces)) (cell_body r.number (joined r.pieces)) (macro_bodies rs ++ xs) (macro_cells rs ++ ys) old cells i refl refl
    (macros-bytes rs xs ys old cells i rest)

pub pieces-bytes : (offsets lines names : ℕ) (p q s : List Cell) (bs : List ℕ) (ms : List MacroReading) (c : TableChanges) (around : Around) (rs : Readings) (old : ℕ → List ℕ)
    (cells : List Cell) (i : ℕ) → bytes_of cells ≡ old i → bs ≡ bytes_of q
    → body_in (cells_body offsets p ∷ record { number = lines; bytes = bs } ∷ cells_body names s ∷ (macro_bodies ms ++ unit_bodies c around rs)) old i
    ≡ bytes_of (cells_of_number (cell_body offsets p ∷ cell_body lines q ∷ cell_body names s ∷ (macro_cells ms ++ unit_cells c around rs)) cells i)
pieces-bytes offsets lines names p q s bs ms c around rs old cells i own bytes =
    same-step (cells_body offsets p) (cell_body offsets p) (record { number = lines; bytes = bs } ∷ cells_body names s ∷ (macro_bodies ms ++ unit_bodies c around rs))
    (cell_body lines q ∷ cell_body names s ∷ (macro_cells ms ++ unit_cells c around rs)) old cells i refl refl
    (same-step (record { number = lines; bytes = bs }) (cell_body lines q) (cells_body names s ∷ (macro_bodies ms ++ unit_bodies c around rs))
    (cell_body names s ∷ (macro_cells ms ++ unit_cells c around rs)) old cells i refl bytes
    (same-step (cells_body names s) (cell_body names s) (macro_bodies ms ++ unit_bodies c around rs) (macro_cells ms ++ unit_cells c around rs) old cells i refl refl
    (macros-bytes ms (unit_bodies c around rs) (unit_cells c around rs) old cells i (units-bytes c around rs old cells i own))))

-- the bytes of the contents of a section
pub old-bytes : (b : List ℕ) (i : ℕ) → bytes_of (old_contents b i) ≡ contents_of b i
unfolding section_cells
old-bytes b i = bytes_of-cells_from (relocations_of (contents_of b) b i) 0 (contents_of b i)

-- Whatever holds of each new contents of a number, and of the old ones, holds of those of the number.
pub pick-step : (P : List Cell → Type 0) (y : CellBody) (ys : List CellBody) (old : List Cell) (i : ℕ) → (y.number ≡ i → P y.cells) → P (cells_of_number ys old i)
    → P (cells_of_number (y ∷ ys) old i)
pick-step P y ys old i here rest = by_test (y.number == i) refl
  where
    by_test : (t : Bool) → (y.number == i) ≡ t → P (if t then y.cells else cells_of_number ys old i)
    by_test true e = here (eqb-true y.number i e)
    by_test false e = rest

abbrev pub AllReadings : (Reading → Type 0) → Readings → Type 0
AllReadings H [] = ⊤
AllReadings H (r ∷ rs) = H r × AllReadings H rs

abbrev pub AllMacroReadings : (MacroReading → Type 0) → List MacroReading → Type 0
AllMacroReadings H [] = ⊤
AllMacroReadings H (r ∷ rs) = H r × AllMacroReadings H rs

-- what was read of a section is what the file has there
abbrev pub IsOwn : List ℕ → Reading → Type 0
IsOwn b r = joined r.pieces ≡ old_contents b r.number

abbrev pub IsOwnMacro : List ℕ → MacroReading → Type 0
IsOwnMacro b r = joined r.pieces ≡ old_contents b r.number

pub units-own : (b : List ℕ) (base : UnitBase) (first k : ℕ) (ss : List ViewSection) (rs : Readings) → AllAt (SectionCells b (old_contents b)) k ss ss
    → ReadsAll base first (unit_sections_from k ss) rs → AllReadings (IsOwn b) rs
units-own b base first k [] [] all reads = tt
units-own b base first k [] (r ∷ rs) all reads = absurd reads
units-own b base first k (s ∷ ss) rs all reads =
    by_section s.has_bytes (unit_kind (debug_section s.name)) rs reads (λ n qs f. units-own b base n (suc k) ss qs all.1 f)
  where
    by_section : (full : Bool) (o : Option SectionKind) (qs : Readings)
        → ReadsAll base first ((if full then unit_section k s o else []) ++ unit_sections_from (suc k) ss) qs
        → ((n : ℕ) (ps : Readings) → ReadsAll base n (unit_sections_from (suc k) ss) ps → AllReadings (IsOwn b) ps) → AllReadings (IsOwn b) qs
    by_section false o qs f rest = rest first qs f
    by_section true None qs f rest = rest first qs f
    by_section true (Some kind) [] f rest = tt
    by_section true (Some kind) (q ∷ qs) f rest =
        (f.1.cells ∙ all.0.new ∙ ap (old_contents b) (sym f.0), rest (first + units_in q.pieces) qs f.2)

pub macros-own : (b : List ℕ) (order : Order) (k : ℕ) (ss : List ViewSection) (rs : List MacroReading) → AllAt (SectionCells b (old_contents b)) k ss ss
    → ReadsAllMacros order (macro_sections_from k ss) rs → AllMacroReadings (IsOwnMacro b) rs
macros-own b order k [] [] all reads = tt
macros-own b order k [] (r ∷ rs) all reads = absurd reads
macros-own b order k (s ∷ ss) rs all reads =
    by_section (s.has_bytes && is_macro (debug_section s.name)) rs reads (λ qs f. macros-own b order (suc k) ss qs all.1 f)
  where
    by_section : (full : Bool) (qs : List MacroReading) → ReadsAllMacros order (macro_section k s full ++ macro_sections_from (suc k) ss) qs
        → ((ps : List MacroReading) → ReadsAllMacros order (macro_sections_from (suc k) ss) ps → AllMacroReadings (IsOwnMacro b) ps) → AllMacroReadings (IsOwnMacro b) qs
    by_section false qs f rest = rest qs f
    by_section true [] f rest = tt
    by_section true (q ∷ qs) f rest = (f.1.cells ∙ all.0.new ∙ ap (old_contents b) (sym f.0), rest qs f.2)

-- the same of the section of a number, whichever it is
pub record FileOwns (b : List ℕ) (d : DebugData) (r : DataReadings) (i : ℕ) : Type 0 where
  pub offsets : (d.found StrOffsets).number ≡ i → joined r.offsets ≡ old_contents b i
  pub lines : (d.found Line).number ≡ i → (d.found Line).contents ≡ old_contents b i
  pub names : (d.found Names).number ≡ i → joined r.names ≡ old_contents b i
  pub macros : AllMacroReadings (IsOwnMacro b) r.macros
  pub units : AllReadings (IsOwn b) r.units

-- Relocations stay at their bytes, but in line tables.
own-roles : {S : Type 0} (role : S → Role) (g : RelocationSource) (c : TableChanges) (around : Around) (xs : List (Piece S)) (old : List Cell) → joined xs ≡ old → AllFit g old
    → AllStay g old (joined (edited_with role c around xs))
own-roles role g c around xs old own fit =
    subst (λ (p : List Cell). AllStay g p (joined (edited_with role c around xs))) own (roles-stay role g c around xs (subst (AllFit g) (sym own) fit))

units-pick : (P : List Cell → Type 0) (b : List ℕ) (c : TableChanges) (around : Around) (rs : Readings) (old : List Cell) (i : ℕ) → AllReadings (IsOwn b) rs
    → ((xs : List (Piece UnitState)) → joined xs ≡ old_contents b i → P (joined (edited_all c around xs))) → P old → P (cells_of_number (unit_cells c around rs) old i)
units-pick P b c around [] old i own each last = last
units-pick P b c around (r ∷ rs) old i own each last =
    pick-step P (cell_body r.number (joined (edited_all c around r.pieces))) (unit_cells c around rs) old i
    (λ e. each r.pieces (own.0 ∙ ap (old_contents b) e)) (units-pick P b c around rs old i own.1 each last)

macros-pick : (P : List Cell → Type 0) (b : List ℕ) (c : TableChanges) (around : Around) (rs : List MacroReading) (ys : List CellBody) (old : List Cell) (i : ℕ)
    → AllMacroReadings (IsOwnMacro b) rs → ((xs : List (Piece MacroState)) → joined xs ≡ old_contents b i → P (joined (edited_with macro_role c around xs)))
    → P (cells_of_number ys old i) → P (cells_of_number (macro_cells (edited_macros c around rs) ++ ys) old i)
macros-pick P b c around [] ys old i own each last = last
macros-pick P b c around (r ∷ rs) ys old i own each last =
    pick-step P (cell_body r.number (joined (edited_with macro_role c around r.pieces))) (macro_cells (edited_macros c around rs) ++ ys) old i
    (λ e. each r.pieces (own.0 ∙ ap (old_contents b) e)) (macros-pick P b c around rs ys old i own.1 each last)

-- whatever becomes of each section that is edited
pub contents-pick : (P : List Cell → Type 0) (b : List ℕ) (c : TableChanges) (d : DebugData) (around : Around) (r : DataReadings) (i : ℕ) → FileOwns b d r i
    → (joined r.offsets ≡ old_contents b i → P (joined (offsets_after c around r))) → ((d.found Line).number ≡ i → (d.found Line).contents ≡ old_contents b i → P (new_tables c d around r))
    → (joined r.names ≡ old_contents b i → P (joined (names_after c around r)))
    → ((xs : List (Piece MacroState)) → joined xs ≡ old_contents b i → P (joined (edited_with macro_role c around xs)))
    → ((xs : List (Piece UnitState)) → joined xs ≡ old_contents b i → P (joined (edited_all c around xs))) → P (old_contents b i)
    → P (cells_of_number (cells_by c d around r) (old_contents b i) i)
contents-pick P b c d around r i own offsets lines names macros units last =
    pick-step P (cell_body (d.found StrOffsets).number (joined (offsets_after c around r)))
    (cell_body (d.found Line).number (new_tables c d around r) ∷ cell_body (d.found Names).number (joined (names_after c around r)) ∷ behind_named c around r) (old_contents b i) i
    (λ e. offsets (own.offsets e))
    (pick-step P (cell_body (d.found Line).number (new_tables c d around r)) (cell_body (d.found Names).number (joined (names_after c around r)) ∷ behind_named c around r) (old_contents b i) i
    (λ e. lines e (own.lines e))
    (pick-step P (cell_body (d.found Names).number (joined (names_after c around r))) (behind_named c around r) (old_contents b i) i (λ e. names (own.names e))
    (macros-pick P b c around r.macros (unit_cells c around r.units) (old_contents b i) i own.macros macros
    (units-pick P b c around r.units (old_contents b i) i own.units units last))))

pub contents-stay : (g : RelocationSource) (b : List ℕ) (c : TableChanges) (d : DebugData) (around : Around) (r : DataReadings) (i : ℕ) → FileOwns b d r i
    → AllFit g (old_contents b i) → i ≢ (d.found Line).number → AllStay g (old_contents b i) (cells_of_number (cells_by c d around r) (old_contents b i) i)
contents-stay g b c d around r i own fit other =
    contents-pick (AllStay g (old_contents b i)) b c d around r i own
    (λ o. own-roles (slot_role (path_slots around)) g c around r.offsets (old_contents b i) o fit) (λ e o. absurd (other (sym e)))
    (λ o. own-roles name_role g c around r.names (old_contents b i) o fit) (λ xs o. own-roles macro_role g c around xs (old_contents b i) o fit)
    (λ xs o. subst (λ (p : List Cell). AllStay g p (joined (edited_all c around xs))) o (units-stay g c around xs (subst (AllFit g) (sym o) fit)))
    (all-self g (old_contents b i) fit)

-- and where none begins, none does afterwards
units-edited-plain : (c : TableChanges) (around : Around) (xs : List (Piece UnitState)) → EachCells xs → IsPlain (joined (edited_all c around xs))
units-edited-plain c around [] h = record { plain = refl }
units-edited-plain c around (x ∷ xs) h =
    plain-append (edited_by (role_of x) c around x.cells) (joined (edited_all c around xs)) (edited-plain (role_of x) c around x.cells h.0) (units-edited-plain c around xs h.1)

own-plain : {S : Type 0} (role : S → Role) (c : TableChanges) (around : Around) (xs : List (Piece S)) (old : List Cell) → joined xs ≡ old → IsPlain old
    → IsPlain (joined (edited_with role c around xs))
own-plain role c around xs old own plain = edited-cells role c around xs (cells-plain xs (subst IsPlain (sym own) plain))

pub contents-plain : (b : List ℕ) (c : TableChanges) (d : DebugData) (around : Around) (r : DataReadings) (i : ℕ) → FileOwns b d r i → IsPlain (old_contents b i)
    → IsPlain (cells_of_number (cells_by c d around r) (old_contents b i) i)
contents-plain b c d around r i own plain =
    contents-pick IsPlain b c d around r i own
    (λ o. own-plain (slot_role (path_slots around)) c around r.offsets (old_contents b i) o plain)
    (λ e o. subst IsPlain (sym (text_tables-plain c (line_source d) r.lines refl (subst IsPlain (sym o) plain))) (plain_cells-plain (all_lines (tables_by_texts c.map (c.new Str) (c.new LineStr) (line_source d) r.lines))))
    (λ o. own-plain name_role c around r.names (old_contents b i) o plain) (λ xs o. own-plain macro_role c around xs (old_contents b i) o plain)
    (λ xs o. units-edited-plain c around xs (cells-plain xs (subst IsPlain (sym o) plain))) plain

-- The bytes of a section are bytes where those of the file are.
small-take : (k : ℕ) (xs : List ℕ) → ((n : ℕ) → slice_index xs n < 256) → (n : ℕ) → slice_index (take k xs) n < 256
small-take zero xs h n = small-none n
  where
    small-none : (n : ℕ) → get_or {A = ℕ} [] n 0 < 256
    small-none zero = omega arith
    small-none (suc n) = omega arith
small-take (suc k) [] h n = h n
small-take (suc k) (x ∷ xs) h zero = h 0
small-take (suc k) (x ∷ xs) h (suc n) = small-take k xs (λ i. h (suc i)) n

small-drop : (k : ℕ) (xs : List ℕ) → ((n : ℕ) → slice_index xs n < 256) → (n : ℕ) → slice_index (drop k xs) n < 256
small-drop k xs h n = subst (λ (x : ℕ). x < 256) (sym (get_or-drop k xs n 0)) (h (k + n))

pub contents-small : (b : List ℕ) (i : ℕ) → ((n : ℕ) → slice_index b n < 256) → (n : ℕ) → slice_index (contents_of b i) n < 256
unfolding contents_of contents_at
contents-small b i h n = by_kind (is_empty_kind (nth_section b i))
  where
    by_kind : (t : Bool) → slice_index (if t then [] else take (nth_section b i).size (drop (nth_section b i).offset b)) n < 256
    by_kind true = small-take 0 [] (λ k. small-take 0 b h k) n
    by_kind false = small-take (nth_section b i).size (drop (nth_section b i).offset b) (small-drop (nth_section b i).offset b h) n
