-- How the sections of macro units are numbered: their numbers rise, and are those of sections of the view.
use Rattle.std.proofs.Common.{Bool, true, false, ℕ, suc, ◌+◌, ◌<◌, ◌≤◌, ◌&&◌, arith, List, [], ◌∷◌, ◌++◌, length, drop}
use Rattle.std.specs.Bool.{⊤}
use Rattle.dw_base.specs.Cells.{CellSection}
use Rattle.dw_base.specs.DebugSections.{debug_section}
use Rattle.dw_base.specs.FileViews.{View, ViewSection}
use Rattle.dw_base.specs.ViewData.{debug_data, is_macro, macro_section, macro_sections, macro_sections_from}
use Rattle.dw_base.specs.declared.debug_sections.DebugSection.TheVariants.{Macro}
use Rattle.dw_meaning.proofs.MacroPieceLaws.{CellsOf}
use Rattle.dw_starts.proofs.MacroPlaceLaws.{AllAbove, NumbersRise}

-- sections are numbered in their order
pub above-from : (k n : ℕ) (ss : List ViewSection) → n < k → AllAbove n (macro_sections_from k ss)
above-from k n [] lt = tt
above-from k n (s ∷ ss) lt = by_test (s.has_bytes && is_macro (debug_section s.name)) (above-from (suc k) n ss (omega (arith, lt)))
  where
    by_test : (b : Bool) → AllAbove n (macro_sections_from (suc k) ss) → AllAbove n (macro_section k s b ++ macro_sections_from (suc k) ss)
    by_test true rest = (lt, rest)
    by_test false rest = rest

rise-from : (k : ℕ) (ss : List ViewSection) → NumbersRise (macro_sections_from k ss)
rise-from k [] = tt
rise-from k (s ∷ ss) = by_test (s.has_bytes && is_macro (debug_section s.name)) (rise-from (suc k) ss)
  where
    by_test : (b : Bool) → NumbersRise (macro_sections_from (suc k) ss) → NumbersRise (macro_section k s b ++ macro_sections_from (suc k) ss)
    by_test true rest = (above-from (suc k) k ss (omega arith), rest)
    by_test false rest = rest

pub numbers-rise : (v : View) → NumbersRise ((debug_data v).found Macro)
unfolding debug_data macro_sections
numbers-rise v = rise-from 1 (drop 1 v.sections)

-- and are sections of the view
abbrev pub AllBelow : ℕ → List CellSection → Type 0
AllBelow n [] = ⊤
AllBelow n (z ∷ zs) = z.number < n × AllBelow n zs

below-from : (k n : ℕ) (ss : List ViewSection) → k + length ss ≤ n → AllBelow n (macro_sections_from k ss)
below-from k n [] le = tt
below-from k n (s ∷ ss) le = by_test (s.has_bytes && is_macro (debug_section s.name)) (below-from (suc k) n ss (omega (arith, le)))
  where
    by_test : (b : Bool) → AllBelow n (macro_sections_from (suc k) ss) → AllBelow n (macro_section k s b ++ macro_sections_from (suc k) ss)
    by_test true rest = (omega (arith, le), rest)
    by_test false rest = rest

below-drop : (ss : List ViewSection) → AllBelow (length ss) (macro_sections_from 1 (drop 1 ss))
below-drop [] = tt
below-drop (s ∷ ss) = below-from 1 (length (s ∷ ss)) ss (omega arith)

pub numbers-below : (v : View) → AllBelow (length v.sections) ((debug_data v).found Macro)
unfolding debug_data macro_sections
numbers-below v = below-drop v.sections

-- all of them
abbrev pub AllCells : View → List CellSection → Type 0
AllCells v [] = ⊤
AllCells v (z ∷ zs) = CellsOf v z.number z.contents × AllCells v zs
