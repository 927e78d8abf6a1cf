-- The sections of macro units of a file that isn't relocatable are plain cells, and so they are edited; and where the new bodies of others stand.
use Rattle.std.proofs.Common.{Bool, true, false, ◌≡◌, ◌≢◌, ℕ, suc, List, [], ◌∷◌, ◌++◌, true≢false, sym, ap, ◌∙◌, refl}
use Rattle.std.specs.Prelude.{◌&&◌}
use Rattle.std.proofs.lemmas.Bool.{and_parts}
use Rattle.dw_base.specs.DebugData.{Around}
use Rattle.dw_base.specs.DebugSections.{debug_section}
use Rattle.dw_base.specs.Elf.{section_name, contents_of}
use Rattle.dw_base.specs.FileViews.{ViewSection, bytes_in}
use Rattle.dw_base.specs.Layout.{is_loaded_kind}
use Rattle.dw_base.specs.MacroReadings.{MacroReading, ReadsAllMacros}
use Rattle.dw_base.specs.Pieces.{Piece, joined}
use Rattle.dw_base.specs.Roles.{Role}
use Rattle.dw_base.specs.SectionTexts.{macro_role, edited_with, edited_macros}
use Rattle.dw_base.specs.TextChanges.{TableChanges, edited_by}
use Rattle.dw_base.specs.ViewData.{is_macro, macro_section, macro_sections_from}
use Rattle.dw_base.specs.declared.shared.Order.{Order}
use Rattle.dw_base.proofs.PlainCellLaws.{IsPlain, plain-append, plain_cells-plain}
use Rattle.dw_meaning.specs.DataOutput.{Body, body_in, cells_body, macro_bodies}
use Rattle.dw_meaning.proofs.FileBackLaws.{AllAt, SectionBack, bare-cells}
use Rattle.dw_meaning.proofs.MacroEditLaws.{AllPlain}
use Rattle.dw_meaning.proofs.OffsetMoveLaws.{EachCells}
use Rattle.dw_meaning.proofs.SectionKeptLaws.{edited-plain, skip-other}
use Rattle.std.proofs.Common.{subst}

-- edited pieces of plain cells are plain
pub edited-cells : {S : Type 0} (role : S → Role) (c : TableChanges) (around : Around) (xs : List (Piece S)) → EachCells xs → IsPlain (joined (edited_with role c around xs))
edited-cells role c around [] plain = record { plain = refl }
edited-cells role c around (x ∷ xs) plain =
    plain-append (edited_by (role x.state) c around x.cells) (joined (edited_with role c around xs))
    (edited-plain (role x.state) c around x.cells plain.0) (edited-cells role c around xs plain.1)

-- the sections of macro units of a file that isn't relocatable are plain cells
pub macros-plain : (b : List ℕ) (bodies : ℕ → List ℕ) (k : ℕ) (ss : List ViewSection) → is_loaded_kind b ≡ true → AllAt (SectionBack b bodies) k ss ss
    → AllPlain (macro_sections_from k ss)
macros-plain b bodies k [] loaded all = tt
macros-plain b bodies k (s ∷ ss) loaded all =
    by_section (s.has_bytes && is_macro (debug_section s.name)) (macros-plain b bodies (suc k) ss loaded all.1)
  where
    by_section : (full : Bool) → AllPlain (macro_sections_from (suc k) ss) → AllPlain (macro_section k s full ++ macro_sections_from (suc k) ss)
    by_section false rest = rest
    by_section true rest = (subst IsPlain (sym (bare-cells s (all.0.bare loaded))) (plain_cells-plain (bytes_in s.contents)), rest)

-- the body of a number that isn't one of macro units stands behind those of macro units
pub macros-skip : (b : List ℕ) (bodies : ℕ → List ℕ) (order : Order) (c : TableChanges) (around : Around) (xs : List Body) (i : ℕ) → is_macro (debug_section (section_name b i)) ≡ false
    → (k : ℕ) (ss ts : List ViewSection) (rs : List MacroReading) → AllAt (SectionBack b bodies) k ss ts → ReadsAllMacros order (macro_sections_from k ss) rs
    → body_in (macro_bodies (edited_macros c around rs) ++ xs) (contents_of b) i ≡ body_in xs (contents_of b) i
macros-skip b bodies order c around xs i none k [] ts [] all reads = refl
macros-skip b bodies order c around xs i none k [] ts (r ∷ rs) all reads = absurd reads
macros-skip b bodies order c around xs i none k (s ∷ ss) [] rs all reads = absurd all
macros-skip b bodies order c around xs i none k (s ∷ ss) (t ∷ ts) rs all reads =
    by_section (s.has_bytes && is_macro (debug_section s.name)) refl rs reads (λ qs f. macros-skip b bodies order c around xs i none (suc k) ss ts qs all.1 f)
  where
    by_section : (full : Bool) → (s.has_bytes && is_macro (debug_section s.name)) ≡ full → (qs : List MacroReading)
        → ReadsAllMacros order (macro_section k s full ++ macro_sections_from (suc k) ss) qs
        → ((ps : List MacroReading) → ReadsAllMacros order (macro_sections_from (suc k) ss) ps
        → body_in (macro_bodies (edited_macros c around ps) ++ xs) (contents_of b) i ≡ body_in xs (contents_of b) i)
        → body_in (macro_bodies (edited_macros c around qs) ++ xs) (contents_of b) i ≡ body_in xs (contents_of b) i
    by_section false is qs f rest = rest qs f
    by_section true is [] f rest = absurd f
    by_section true is (q ∷ qs) f rest =
        let named : is_macro (debug_section s.name) ≡ true = (and_parts s.has_bytes (is_macro (debug_section s.name)) is).1 in
        let some : is_macro (debug_section (section_name b k)) ≡ true = ap (λ (n : List ℕ). is_macro (debug_section n)) (sym all.0.named) ∙ named in
        let other : i ≢ q.number = λ (e : i ≡ q.number).
        true≢false (sym (ap (λ (j : ℕ). is_macro (debug_section (section_name b j))) (e ∙ f.0) ∙ some) ∙ none) in
        skip-other (cells_body q.number (joined (edited_with macro_role c around q.pieces))) (macro_bodies (edited_macros c around qs) ++ xs) (contents_of b) i other ∙ rest qs f.2
