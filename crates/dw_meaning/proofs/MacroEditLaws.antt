-- Macro units under a change of the tables: they stay macro units, start where they did, and mean what they meant.
use Rattle.std.proofs.Common.{true, ◌≡◌, ℕ, ◌+◌, List, [], ◌∷◌, ◌++◌, length, refl, sym, ap, ◌∙◌, subst, append_assoc}
use Rattle.std.specs.Bool.{⊤}
use Rattle.std.specs.Prelude.{◌==◌, ◌||◌}
use Rattle.dw_base.specs.Cells.{Cell, CellSection, bytes_of}
use Rattle.dw_base.specs.DebugData.{Lasting, Around, macro_unit}
use Rattle.dw_base.specs.Forms.{width_size}
use Rattle.dw_base.specs.MacroMeanings.{brought, MacroMark, begins_unit, has_line, has_event, text_event, front_mark, macro_mark_by, MacrosBehind, with_macro_mark, macros_behind, MacroMeaning, macro_meanings}
use Rattle.dw_base.specs.MacroPieces.{of_text, of_unit, MacroMode, at_unit, at_line, at_operation, at_offset, no_macros, MacroState, macros_at, IsUnitFront, IsOperationFront, FitsMacros, mode_behind, macro_grammar, ReadsMacros}
use Rattle.dw_base.specs.MacroReadings.{MacroReading, ReadsAllMacros, EachMacro, MacroStart, started_by, starts_in, macro_starts, first_macros}
use Rattle.dw_base.specs.Numbers.{spelled}
use Rattle.dw_base.specs.Pieces.{Piece, joined, Chain, EachPiece}
use Rattle.dw_base.specs.SectionTexts.{macro_role_by, macro_role, macro_mentions, mentions_with, edited_macros}
use Rattle.dw_base.specs.StringTables.{Mention, texts_after}
use Rattle.dw_base.specs.TableStarts.{NamesUnitIf, is_import, NamesImport}
use Rattle.dw_base.specs.TextChanges.{TableChanges, NamesTextBy}
use Rattle.dw_base.specs.declared.shared.Order.{Order}
use Rattle.dw_base.specs.declared.shared.Width.{Width}
use Rattle.dw_base.specs.declared.shared.Width.TheVariants.{W32, W64}
use Rattle.dw_base.proofs.PieceFrameLaws.{Preserves, chain-changed}
use Rattle.dw_base.proofs.PlainCellLaws.{IsPlain}
use Rattle.dw_base.proofs.UnitEditLaws.{Shift, Becomes, length-becomes}
use Rattle.dw_base.specs.declared.texts.TextSection.TheVariants.{InStr, InLineStr}
use Rattle.dw_meaning.specs.NewAddends.{MakesRole}
use Rattle.dw_meaning.proofs.OffsetMoveLaws.{RolesChanged, roles-named}
use Rattle.dw_meaning.proofs.TextEditLaws.{CanMove, TablesMove, TextsAre, behind_piece, roles-changed, shift_of}

-- what a piece of macro units may become
abbrev pub MacroChange : Shift → MacroState → List Cell → List Cell → Type 0
MacroChange c s p q = Becomes (macro_role_by s.mode) c p q

fits-macros : (m : MacroMode) (c : Shift) (order : Order) (p q : List Cell) → Becomes (macro_role_by m) c p q → FitsMacros m order p → FitsMacros m order q
fits-macros at_unit c order p q h f = subst (λ (z : List Cell). IsUnitFront order z) (sym h) f
fits-macros (at_line width) c order p q h f = h.size ∙ f
fits-macros (at_operation width) c order p q h f = subst IsOperationFront (sym h) f
fits-macros (at_offset width (of_text defines line)) c order p q h f = h.size ∙ f
fits-macros (at_offset width of_unit) c order p q h f = ap length h ∙ f
fits-macros no_macros c order p q h f = absurd f

mode-macros : (m : MacroMode) (c : Shift) (p q : List Cell) → Becomes (macro_role_by m) c p q → mode_behind m (bytes_of q) ≡ mode_behind m (bytes_of p)
mode-macros at_unit c p q h = ap (λ (z : List Cell). mode_behind at_unit (bytes_of z)) h
mode-macros (at_line width) c p q h = refl
mode-macros (at_operation width) c p q h = ap (λ (z : List Cell). mode_behind (at_operation width) (bytes_of z)) h
mode-macros (at_offset width names) c p q h = refl
mode-macros no_macros c p q h = refl

-- macro units stay macro units
pub macros_preserve : (c : Shift) (order : Order) → Preserves (macro_grammar order) (MacroChange c)
macros_preserve c order = record {
  fits = λ s p q h f. fits-macros s.mode c order p q h f;
  next = λ s p q h f. ap (λ (m : MacroMode). macros_at (s.place + length q) m) (mode-macros s.mode c p q h)
      ∙ ap (λ (n : ℕ). macros_at (s.place + n) (mode_behind s.mode (bytes_of p))) (length-becomes (macro_role_by s.mode) c p q h);
}

pub macros-read : (c : Shift) (order : Order) (contents : List Cell) (xs ys : List (Piece MacroState)) → RolesChanged macro_role c xs ys
    → ReadsMacros order contents xs → ReadsMacros order (joined ys) ys
macros-read c order contents xs ys h r = record {
  chain = chain-changed (macro_grammar order) (MacroChange c) (macros_preserve c order) (macros_at 0 at_unit) xs ys h r.chain;
  cells = refl;
}

-- units start where they did
starts-kept : (section : ℕ) (c : Shift) (xs ys : List (Piece MacroState)) → RolesChanged macro_role c xs ys → starts_in section ys ≡ starts_in section xs
starts-kept section c [] [] h = refl
starts-kept section c [] (y ∷ ys) h = absurd h
starts-kept section c (x ∷ xs) [] h = absurd h
starts-kept section c (x ∷ xs) (y ∷ ys) h =
    ap (λ (s : MacroState). started_by s.mode section s.place ++ starts_in section ys) h.0.state
    ∙ ap (λ (rest : List MacroStart). started_by x.state.mode section x.state.place ++ rest) (starts-kept section c xs ys h.1)

-- each piece is what it was
mark-kept : (m : MacroMode) (c : Shift) (p q : List Cell) → Becomes (macro_role_by m) c p q → macro_mark_by m c.new q ≡ macro_mark_by m c.old p
mark-kept at_unit c p q h =
    ap (λ (g : Lasting). begins_unit (spelled g.base.order (bytes_of q) 0 2)) c.lasting
    ∙ ap (λ (z : List Cell). begins_unit (spelled c.old.lasting.base.order (bytes_of z) 0 2)) h
mark-kept (at_line width) c p q h = ap has_line h.says
mark-kept (at_operation width) c p q h = ap (λ (z : List Cell). front_mark (bytes_of z)) h
mark-kept (at_offset width (of_text defines line)) c p q h = ap (λ (t : List ℕ). has_event (text_event defines line t)) h.says
mark-kept (at_offset width of_unit) c p q h =
    ap (λ (g : Lasting). has_event (brought (macro_unit g q))) c.lasting ∙ ap (λ (z : List Cell). has_event (brought (macro_unit c.old.lasting z))) h
mark-kept no_macros c p q h = refl

behind-kept : (c : Shift) (xs ys : List (Piece MacroState)) → RolesChanged macro_role c xs ys → macros_behind c.new ys ≡ macros_behind c.old xs
behind-kept c [] [] h = refl
behind-kept c [] (y ∷ ys) h = absurd h
behind-kept c (x ∷ xs) [] h = absurd h
behind-kept c (x ∷ xs) (y ∷ ys) h =
    ap (λ (s : MacroState). with_macro_mark (macro_mark_by s.mode c.new y.cells) (macros_behind c.new ys)) h.0.state
    ∙ ap (λ (k : MacroMark). with_macro_mark k (macros_behind c.new ys)) (mark-kept x.state.mode c x.cells y.cells h.0.cells)
    ∙ ap (with_macro_mark (macro_mark_by x.state.mode c.old x.cells)) (behind-kept c xs ys h.1)

-- the offsets of imports stay
import-kept : (m : MacroMode) (c : Shift) (g : Lasting) (p q : List Cell) → Becomes (macro_role_by m) c p q → NamesUnitIf (is_import m) g p → NamesUnitIf (is_import m) g q
import-kept at_unit c g p q h names = names
import-kept (at_line width) c g p q h names = names
import-kept (at_operation width) c g p q h names = names
import-kept (at_offset width (of_text defines line)) c g p q h names = names
import-kept (at_offset width of_unit) c g p q h names = subst (NamesUnitIf true g) (sym h) names
import-kept no_macros c g p q h names = names

imports-kept : (c : Shift) (g : Lasting) (xs ys : List (Piece MacroState)) → RolesChanged macro_role c xs ys → EachPiece (NamesImport g) xs → EachPiece (NamesImport g) ys
imports-kept c g [] [] h names = tt
imports-kept c g [] (y ∷ ys) h names = absurd h
imports-kept c g (x ∷ xs) [] h names = absurd h
imports-kept c g (x ∷ xs) (y ∷ ys) h names = (
  subst (λ (s : MacroState). NamesUnitIf (is_import s.mode) g y.cells) (sym h.0.state) (import-kept x.state.mode c g x.cells y.cells h.0.cells names.0),
  imports-kept c g xs ys h.1 names.1,
)

-- all sections

-- the pieces of each section, changed
abbrev pub AllMacrosChanged : Shift → List MacroReading → List MacroReading → Type 0
AllMacrosChanged c [] [] = ⊤
AllMacrosChanged c [] (y ∷ ys) = ⊥
AllMacrosChanged c (x ∷ xs) [] = ⊥
AllMacrosChanged c (x ∷ xs) (y ∷ ys) = (y.number ≡ x.number) × RolesChanged macro_role c x.pieces y.pieces × AllMacrosChanged c xs ys

-- the sections with the cells of such readings
abbrev pub edited_macro_sections : List CellSection → List MacroReading → List CellSection
edited_macro_sections [] rs = []
edited_macro_sections (z ∷ zs) [] = z ∷ zs
edited_macro_sections (z ∷ zs) (r ∷ rs) = record { number = z.number; contents = joined r.pieces } ∷ edited_macro_sections zs rs

pub all-macros-read : (order : Order) (c : Shift) (zs : List CellSection) (rs qs : List MacroReading) → AllMacrosChanged c rs qs → ReadsAllMacros order zs rs
    → ReadsAllMacros order (edited_macro_sections zs qs) qs
all-macros-read order c [] [] [] h reads = tt
all-macros-read order c [] [] (q ∷ qs) h reads = absurd h
all-macros-read order c [] (r ∷ rs) qs h reads = absurd reads
all-macros-read order c (z ∷ zs) [] qs h reads = absurd reads
all-macros-read order c (z ∷ zs) (r ∷ rs) [] h reads = absurd h
all-macros-read order c (z ∷ zs) (r ∷ rs) (q ∷ qs) h reads = (
  h.0 ∙ reads.0,
  macros-read c order z.contents r.pieces q.pieces h.1 reads.1,
  all-macros-read order c zs rs qs h.2 reads.2,
)

pub all-starts : (c : Shift) (rs qs : List MacroReading) → AllMacrosChanged c rs qs → macro_starts qs ≡ macro_starts rs
all-starts c [] [] h = refl
all-starts c [] (q ∷ qs) h = absurd h
all-starts c (r ∷ rs) [] h = absurd h
all-starts c (r ∷ rs) (q ∷ qs) h =
    ap (λ (n : ℕ). starts_in n q.pieces ++ macro_starts qs) h.0
    ∙ ap (λ (here : List MacroStart). here ++ macro_starts qs) (starts-kept r.number c r.pieces q.pieces h.1)
    ∙ ap (λ (rest : List MacroStart). starts_in r.number r.pieces ++ rest) (all-starts c rs qs h.2)

pub same-first : (zs : List CellSection) (qs : List MacroReading) → first_macros (edited_macro_sections zs qs) ≡ first_macros zs
same-first [] qs = refl
same-first (z ∷ zs) [] = refl
same-first (z ∷ zs) (q ∷ qs) = refl

-- they mean what they meant
pub all-macros-kept : (c : Shift) (rs qs : List MacroReading) → AllMacrosChanged c rs qs → macro_meanings c.new qs ≡ macro_meanings c.old rs
all-macros-kept c [] [] h = refl
all-macros-kept c [] (q ∷ qs) h = absurd h
all-macros-kept c (r ∷ rs) [] h = absurd h
all-macros-kept c (r ∷ rs) (q ∷ qs) h =
    ap (λ (b : MacrosBehind). b.units ++ macro_meanings c.new qs) (behind-kept c r.pieces q.pieces h.1)
    ∙ ap (λ (rest : List MacroMeaning). (macros_behind c.old r.pieces).units ++ rest) (all-macros-kept c rs qs h.2)

-- each offset of a text or of a line table names one, and each import a unit
pub all-macros-named : (c : Shift) (rs qs : List MacroReading) → AllMacrosChanged c rs qs → EachMacro (λ x. NamesTextBy (macro_role x.state) c.new x.cells) qs
all-macros-named c [] [] h = tt
all-macros-named c [] (q ∷ qs) h = absurd h
all-macros-named c (r ∷ rs) [] h = absurd h
all-macros-named c (r ∷ rs) (q ∷ qs) h = (roles-named macro_role c r.pieces q.pieces h.1, all-macros-named c rs qs h.2)

pub all-imports : (c : Shift) (g : Lasting) (rs qs : List MacroReading) → AllMacrosChanged c rs qs → EachMacro (NamesImport g) rs → EachMacro (NamesImport g) qs
all-imports c g [] [] h names = tt
all-imports c g [] (q ∷ qs) h names = absurd h
all-imports c g (r ∷ rs) [] h names = absurd h
all-imports c g (r ∷ rs) (q ∷ qs) h names = (imports-kept c g r.pieces q.pieces h.1 names.0, all-imports c g rs qs h.2 names.1)

-- each field can be moved: it has the size of an offset
sized : (width : Width) → (width_size width == 4 || width_size width == 8) ≡ true
sized W32 = refl
sized W64 = refl

macro-can : (m : MacroMode) (c : TableChanges) (around : Around) (order : Order) (p : List Cell) → FitsMacros m order p → MakesRole (macro_role_by m) c around p
    → CanMove (macro_role_by m) c around p
macro-can at_unit c around order p f makes = tt
macro-can (at_line width) c around order p f makes = record { moves = makes; sized = ap (λ (n : ℕ). n == 4 || n == 8) f ∙ sized width }
macro-can (at_operation width) c around order p f makes = tt
macro-can (at_offset width (of_text defines line)) c around order p f makes = record { moves = makes; width = width; size = f }
macro-can (at_offset width of_unit) c around order p f makes = tt
macro-can no_macros c around order p f makes = tt

macros-can : (c : TableChanges) (around : Around) (order : Order) (s : MacroState) (xs : List (Piece MacroState)) → Chain (macro_grammar order) s xs
    → EachPiece (λ x. MakesRole (macro_role x.state) c around x.cells) xs → EachPiece (λ x. CanMove (macro_role x.state) c around x.cells) xs
macros-can c around order s [] chain makes = tt
macros-can c around order s (x ∷ xs) chain makes = (
  macro-can x.state.mode c around order x.cells chain.1 makes.0,
  macros-can c around order ((macro_grammar order).next x.state x.cells) xs chain.2 makes.1,
)

-- the contents of each section are plain cells
abbrev pub AllPlain : List CellSection → Type 0
AllPlain [] = ⊤
AllPlain (z ∷ zs) = IsPlain z.contents × AllPlain zs

-- where addends make the new offsets, each field can be moved
pub all-macros-can : (c : TableChanges) (around : Around) (order : Order) (zs : List CellSection) (rs : List MacroReading) → ReadsAllMacros order zs rs
    → EachMacro (λ x. MakesRole (macro_role x.state) c around x.cells) rs → EachMacro (λ x. CanMove (macro_role x.state) c around x.cells) rs
all-macros-can c around order zs [] reads makes = tt
all-macros-can c around order [] (r ∷ rs) reads makes = absurd reads
all-macros-can c around order (z ∷ zs) (r ∷ rs) reads makes = (
  macros-can c around order (macros_at 0 at_unit) r.pieces reads.1.chain makes.0,
  all-macros-can c around order zs rs reads.2 makes.1,
)

-- the text law, for all sections
pub macros-edited : (lc : List Cell) (order : Order) (c : TableChanges) (around : Around) (ts us : List (List ℕ)) (zs : List CellSection) (rs : List MacroReading) (ms ns : List Mention)
    → TablesMove c around → TextsAre c ts us (macro_mentions InStr around rs ++ ms) (macro_mentions InLineStr around rs ++ ns) → ReadsAllMacros order zs rs
    → EachMacro (λ x. CanMove (macro_role x.state) c around x.cells) rs → EachMacro (λ x. NamesTextBy (macro_role x.state) around x.cells) rs
    → AllMacrosChanged (shift_of c around lc) rs (edited_macros c around rs)
macros-edited lc order c around ts us zs [] ms ns t all reads moves names = tt
macros-edited lc order c around ts us [] (r ∷ rs) ms ns t all reads moves names = absurd reads
macros-edited lc order c around ts us (z ∷ zs) (r ∷ rs) ms ns t all reads moves names =
    let heres : List Mention = mentions_with macro_role InStr around r.pieces in
    let lines : List Mention = mentions_with macro_role InLineStr around r.pieces in
    let rest : TextsAre c ts us (heres ++ (macro_mentions InStr around rs ++ ms)) (lines ++ (macro_mentions InLineStr around rs ++ ns)) =
    record {
      str = all.str ∙ ap (texts_after c.map ts) (append_assoc heres (macro_mentions InStr around rs) ms);
      line_str = all.line_str ∙ ap (texts_after c.map us) (append_assoc lines (macro_mentions InLineStr around rs) ns);
    } in (
      refl,
      roles-changed lc macro_role c around ts us r.pieces (macro_mentions InStr around rs ++ ms) (macro_mentions InLineStr around rs ++ ns) t rest
          moves.0 names.0,
      macros-edited lc order c around (texts_after c.map ts heres) (texts_after c.map us lines) zs rs ms ns t
          (behind_piece c ts us heres lines (macro_mentions InStr around rs ++ ms) (macro_mentions InLineStr around rs ++ ns) rest)
          reads.2 moves.1 names.1,
    )
