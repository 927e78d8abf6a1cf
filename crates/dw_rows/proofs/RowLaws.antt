-- Laws of rows, operation by operation.
use Rattle.std.proofs.Common.{true, false, ◌≡◌, ℕ, zero, suc, ◌+◌, ◌-◌, ◌<◌, ◌≤◌, ◌^◌, Bool, if◌then◌else◌, List, [], ◌∷◌, drop, length, Some, None, refl, sym, ap, ◌∙◌, arith}
use Rattle.dw_base.specs.Cells.{Cell}
use Rattle.dw_base.specs.LineOperations.{operation_in, operations, operations_behind, with_those}
use Rattle.dw_base.specs.LineRegisters.{moved, gives_row, behind_row, rows_of}
use Rattle.dw_base.specs.FileViews.{View}
use Rattle.dw_rows.specs.ProgramPlaces.{StandsIn, cells_left}
use Rattle.dw_rows.specs.TableRows.{rows_from}
use Rattle.dw_rows.proofs.AddressLaws.{cells-behind, stands-behind}
use Rattle.dw_base.specs.declared.line_rows.LineParams.{LineParams}
use Rattle.dw_base.specs.declared.line_rows.Operation.{Operation}
use Rattle.dw_base.specs.declared.line_rows.Row.{Row}

-- operations behind so many bytes are those of the cells behind them
operations-drop : (p : LineParams) (counts : List ℕ) (n : ℕ) (cells : List Cell) → operations_behind p counts n cells ≡ operations p counts (drop n cells)
operations-drop p counts zero cells = refl
operations-drop p counts (suc n) [] = refl
operations-drop p counts (suc n) (c ∷ cs) = operations-drop p counts n cs

none-some : {X : Type 0} (x : X) → None ≡ Some x → ⊥
none-some x e = cc

nothing-in : (p : LineParams) (counts : List ℕ) → operation_in p counts [] ≡ None
unfolding operation_in
nothing-in p counts = refl

pub operations-more : (p : LineParams) (counts : List ℕ) (left : List Cell) (o : Operation) (size : ℕ) → operation_in p counts left ≡ Some (o, size) → 0 < size
    → operations p counts left ≡ o ∷ operations p counts (drop size left)
operations-more p counts [] o size e some = absurd (none-some (o, size) (sym (nothing-in p counts) ∙ e))
operations-more p counts (c ∷ cs) o zero e some = absurd (omega (arith, some))
operations-more p counts (c ∷ cs) o (suc n) e some =
    let one_less : suc n - 1 ≡ n = omega arith in
    ap (λ x. with_those x (λ k. operations_behind p counts k cs)) e ∙ ap (λ (k : ℕ). o ∷ operations_behind p counts k cs) one_less
    ∙ ap (λ (os : List Operation). o ∷ os) (operations-drop p counts n cs)

pub operations-none : (p : LineParams) (counts : List ℕ) (left : List Cell) → operation_in p counts left ≡ None → operations p counts left ≡ []
operations-none p counts [] e = refl
operations-none p counts (c ∷ cs) e = ap (λ x. with_those x (λ k. operations_behind p counts k cs)) e

-- the rows of an operation and those behind it
rows-by : (p : LineParams) (r : Row) (o : Operation) (os : List Operation) (b : Bool) → gives_row o ≡ b
    → rows_of p r (o ∷ os) ≡ (if b then moved p o r ∷ rows_of p (behind_row p (moved p o r)) os else rows_of p (moved p o r) os)
rows-by p r o os b e = ap (λ (x : Bool). if x then moved p o r ∷ rows_of p (behind_row p (moved p o r)) os else rows_of p (moved p o r) os) e

-- a row, and what stands behind an operation that gives none
pub row-given : (v : View) (section place next : ℕ) (left behind : List ℕ) (whole : List Row) (p : LineParams) (counts : List ℕ) (r row after : Row) (o : Operation) (size : ℕ)
    → whole ≡ rows_from p counts (cells_left v section place left) r → Some (o, size) ≡ operation_in p counts (cells_left v section place left) → 0 < size
    → size ≤ length left → row ≡ moved p o r → next ≡ place + size → behind ≡ drop size left → true ≡ gives_row o → after ≡ behind_row p row
    → whole ≡ row ∷ rows_from p counts (cells_left v section next behind) after
row-given v section place next left behind whole p counts r row after o size w e some le m n d g a =
    w ∙ ap (rows_of p r) (operations-more p counts (cells_left v section place left) o size (sym e) some)
    ∙ rows-by p r o (operations p counts (drop size (cells_left v section place left))) true (sym g)
    ∙ rw (a, m, cells-behind v section place size next left behind le n d) refl

pub row-more : (v : View) (section place next : ℕ) (left behind : List ℕ) (whole : List Row) (p : LineParams) (counts : List ℕ) (r row : Row) (o : Operation) (size : ℕ)
    → whole ≡ rows_from p counts (cells_left v section place left) r → Some (o, size) ≡ operation_in p counts (cells_left v section place left) → 0 < size
    → size ≤ length left → row ≡ moved p o r → next ≡ place + size → behind ≡ drop size left → false ≡ gives_row o
    → whole ≡ rows_from p counts (cells_left v section next behind) row
row-more v section place next left behind whole p counts r row o size w e some le m n d g =
    w ∙ ap (rows_of p r) (operations-more p counts (cells_left v section place left) o size (sym e) some)
    ∙ rows-by p r o (operations p counts (drop size (cells_left v section place left))) false (sym g)
    ∙ rw (m, cells-behind v section place size next left behind le n d) refl

pub row-none : (whole : List Row) (p : LineParams) (counts : List ℕ) (left : List Cell) (r : Row) → whole ≡ rows_from p counts left r
    → None ≡ operation_in p counts left → whole ≡ []
row-none whole p counts left r w e = w ∙ ap (rows_of p r) (operations-none p counts left (sym e))

-- a place stays small
pub place-small : (v : View) (section place size : ℕ) (left : List ℕ) → StandsIn v section place left → size ≤ length left → place + size < 2 ^ 64
place-small v section place size left s le = (let small = s.small in omega (arith, small, le))

pub ruleset row_laws = (row-given, row-more, row-none, stands-behind, place-small)
