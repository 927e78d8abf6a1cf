-- Where the units of a section of macro units start: these places rise; and the numbers of sections rise, too.
use Rattle.std.proofs.Common.{◌≡◌, ℕ, zero, suc, ◌+◌, ◌<◌, ◌≤◌, arith, List, [], ◌∷◌, ◌++◌, length, get_or, Some, refl, ap, ◌∙◌, subst}
use Rattle.std.specs.Bool.{⊤}
use Rattle.dw_base.specs.Cells.{Cell, CellSection, bytes_of}
use Rattle.dw_base.specs.Forms.{width_size}
use Rattle.dw_base.specs.MacroPieces.{OperationFront, FitsMacros, front_of, MacroMode, at_unit, at_line, at_operation, at_offset, no_macros, MacroState, macros_at, macro_grammar}
use Rattle.dw_base.specs.MacroReadings.{MacroStart, started_by, starts_in}
use Rattle.dw_base.specs.Pieces.{Piece, Chain}
use Rattle.dw_base.specs.declared.shared.Order.{Order}
use Rattle.dw_base.specs.declared.shared.Width.{Width}
use Rattle.dw_base.specs.declared.shared.Width.TheVariants.{W32, W64}
use Rattle.dw_base.proofs.UnitEditLaws.{length-bytes_of}
use Rattle.dw_base.specs.declared.macro_units.MacroUnit.{MacroUnit}
use Rattle.dw_meaning.proofs.MacroPieceLaws.{unit_starts}
use Rattle.dw_starts.specs.LineStarts.{Rises}
use Rattle.dw_starts.specs.MacroSections.{SectionUnits, places_of}

-- the units of each section
abbrev pub units_of : List SectionUnits → List (List MacroUnit)
units_of [] = []
units_of (s ∷ ss) = s.units ∷ units_of ss

-- the numbers of sections are above another
abbrev pub AllAbove : ℕ → List CellSection → Type 0
AllAbove k [] = ⊤
AllAbove k (z ∷ zs) = k < z.number × AllAbove k zs

-- the numbers rise
abbrev pub NumbersRise : List CellSection → Type 0
NumbersRise [] = ⊤
NumbersRise (z ∷ zs) = AllAbove z.number zs × NumbersRise zs

-- places that rise, from a number on
abbrev RisesFrom : ℕ → List ℕ → Type 0
RisesFrom n [] = ⊤
RisesFrom n (p ∷ ps) = n ≤ p × RisesFrom (suc p) ps

from-less : (n k : ℕ) (ps : List ℕ) → n ≤ k → RisesFrom k ps → RisesFrom n ps
from-less n k [] le r = tt
from-less n k (p ∷ ps) le r = (omega (arith, le, r.0), r.1)

from-behind : (n : ℕ) (ps : List ℕ) (j : ℕ) → RisesFrom n ps → j < length ps → n ≤ get_or ps j 0
from-behind n [] j r lt = absurd (omega (arith, lt))
from-behind n (p ∷ ps) zero r lt = r.0
from-behind n (p ∷ ps) (suc j) r lt =
    let rest = from-behind (suc p) ps j r.1 (omega (arith, lt)) in
    omega (arith, r.0, rest)

from-between : (n : ℕ) (ps : List ℕ) (i j : ℕ) → RisesFrom n ps → i < j → j < length ps → get_or ps i 0 < get_or ps j 0
from-between n [] i j r less lt = absurd (omega (arith, lt))
from-between n (p ∷ ps) zero zero r less lt = absurd (omega (arith, less))
from-between n (p ∷ ps) (suc i) zero r less lt = absurd (omega (arith, less))
from-between n (p ∷ ps) zero (suc j) r less lt = from-behind (suc p) ps j r.1 (omega (arith, lt))
from-between n (p ∷ ps) (suc i) (suc j) r less lt = from-between (suc p) ps i j r.1 (omega (arith, less)) (omega (arith, lt))

from-rises : (n : ℕ) (ps : List ℕ) → RisesFrom n ps → Rises ps
from-rises n ps r = record { rise = λ (i j : ℕ) (less : i < j) (lt : j < length ps). from-between n ps i j r less lt }

-- the places of units
abbrev start_places : List MacroStart → List ℕ
start_places [] = []
start_places (s ∷ ss) = s.place ∷ start_places ss

places-are : (section : ℕ) (us : List MacroUnit) → start_places (unit_starts section us) ≡ places_of us
places-are section [] = refl
places-are section (u ∷ us) = ap (λ (ps : List ℕ). u.start ∷ ps) (places-are section us)

-- a piece has cells
width-some : (w : Width) → 0 < width_size w
width-some W32 = omega arith
width-some W64 = omega arith

front-some : (bytes : List ℕ) (f : OperationFront) → front_of bytes ≡ Some f → 0 < length bytes
unfolding front_of
front-some [] f e = absurd cc
front-some (b ∷ bs) f e = omega arith

piece-some : (m : MacroMode) (order : Order) (p : List Cell) → FitsMacros m order p → 0 < length p
piece-some at_unit order p f = omega (arith, f.size)
piece-some (at_line width) order p f = omega (arith, f, width-some width)
piece-some (at_operation width) order p f = omega (arith, front-some (bytes_of p) f.front f.is, length-bytes_of p)
piece-some (at_offset width names) order p f = omega (arith, f, width-some width)
piece-some no_macros order p f = absurd f

one-rises : (m : MacroMode) (section place len : ℕ) (ss : List MacroStart) → 0 < len → RisesFrom (place + len) (start_places ss)
    → RisesFrom place (start_places (started_by m section place ++ ss))
one-rises at_unit section place len ss some r = (omega arith, from-less (suc place) (place + len) (start_places ss) (omega (arith, some)) r)
one-rises (at_line width) section place len ss some r = from-less place (place + len) (start_places ss) (omega arith) r
one-rises (at_operation width) section place len ss some r = from-less place (place + len) (start_places ss) (omega arith) r
one-rises (at_offset width names) section place len ss some r = from-less place (place + len) (start_places ss) (omega arith) r
one-rises no_macros section place len ss some r = from-less place (place + len) (start_places ss) (omega arith) r

pieces-rise : (order : Order) (section : ℕ) (s : MacroState) (xs : List (Piece MacroState)) → Chain (macro_grammar order) s xs
    → RisesFrom s.place (start_places (starts_in section xs))
pieces-rise order section s [] c = tt
pieces-rise order section s (x ∷ xs) c =
    subst (λ (t : MacroState). RisesFrom t.place (start_places (started_by x.state.mode section x.state.place ++ starts_in section xs))) c.0
    (one-rises x.state.mode section x.state.place (length x.cells) (starts_in section xs) (piece-some x.state.mode order x.cells c.1)
    (pieces-rise order section ((macro_grammar order).next x.state x.cells) xs c.2))

pub units-rise : (order : Order) (section : ℕ) (us : List MacroUnit) (xs : List (Piece MacroState)) → Chain (macro_grammar order) (macros_at 0 at_unit) xs
    → starts_in section xs ≡ unit_starts section us → Rises (places_of us)
units-rise order section us xs c e =
    subst Rises (ap start_places e ∙ places-are section us) (from-rises 0 (start_places (starts_in section xs)) (pieces-rise order section (macros_at 0 at_unit) xs c))
