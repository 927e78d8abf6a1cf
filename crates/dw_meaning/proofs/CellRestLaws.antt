-- Cells with changes in them, from a place on: what is copied has the relocations that it had, and none reaches over the places that a walk
-- comes to.
use Rattle.std.proofs.Common.{◌≡◌, ℕ, suc, ◌+◌, ◌-◌, ◌<◌, ◌≤◌, List, [], ◌∷◌, ◌++◌, length, take, drop, Some, refl, sym, ap, ◌∙◌, subst, arith, append_assoc}
use Rattle.std.proofs.lemmas.List.{drop-drop, length-append, length-drop, length-take-le}
use Rattle.dw_base.specs.Cells.{Cell, Relocation, cells_at, plain_cells}
use Rattle.dw_base.specs.RelocationFields.{reach_of, relocation_at}
use Rattle.dw_base.specs.WrittenLines.{Change, cells_part}
use Rattle.dw_base.proofs.PlainCellLaws.{plain_cells-plain}
use Rattle.dw_base.proofs.RelocationFieldLaws.{relocation_at-plain}
use Rattle.dw_meaning.specs.LineCells.{CellChange, changed_cells}
use Rattle.dw_meaning.proofs.ClearLaws.{Clear, NoneOver, over-further, relocation-behind, relocation-front, relocation-taken}
use Rattle.dw_meaning.proofs.LineCellLaws.{SameChanges, cells-split}
use Rattle.dw_meaning.proofs.LineChangeLaws.{From}

-- the new cells from a place on are the old ones from another on, changed up to an end, with more behind them; and no relocation reaches over it
pub record CellRest (old new : List Cell) (end : ℕ) (cs : List CellChange) (more : List Cell) (p q : ℕ) : Type 0 where
  pub within : end ≤ length old
  pub there : q ≤ length new
  pub is : drop q new ≡ changed_cells old p end cs ++ more
  pub over : NoneOver new q

-- where no change of bytes begins, none of cells does
abbrev pub FirstFrom : ℕ → ℕ → List CellChange → Type 0
FirstFrom end p [] = p ≤ end
FirstFrom end p (c ∷ cs) = p ≤ c.at

pub same-from : (end p : ℕ) (cs : List CellChange) (bs : List Change) → SameChanges cs bs → From end p bs → FirstFrom end p cs
same-from end p [] [] same f = f
same-from end p [] (b ∷ bs) same f = absurd same
same-from end p (c ∷ cs) [] same f = absurd same
same-from end p (c ∷ cs) (b ∷ bs) same f =
    let at = same.0.at in
    let here = f.0 in
    omega (arith, at, here)

changed-part : (cells : List Cell) (end a b : ℕ) (cs : List CellChange) → a ≤ b → FirstFrom end b cs
    → changed_cells cells a end cs ≡ cells_part cells a b ++ changed_cells cells b end cs
changed-part cells end a b [] ab f = cells-split cells a b end ab f
changed-part cells end a b (c ∷ cs) ab f =
    ap (λ (xs : List Cell). xs ++ (c.new ++ changed_cells cells (c.at + c.old) end cs)) (cells-split cells a b c.at ab f)
    ∙ append_assoc (cells_part cells a b) (cells_part cells b c.at) (c.new ++ changed_cells cells (c.at + c.old) end cs)

pub drop-front : (xs ys : List Cell) → drop (length xs) (xs ++ ys) ≡ ys
drop-front [] ys = refl
drop-front (x ∷ xs) ys = drop-front xs ys

pub take-front : (xs ys : List Cell) → take (length xs) (xs ++ ys) ≡ xs
take-front [] ys = refl
take-front (x ∷ xs) ys = ap (λ (l : List Cell). x ∷ l) (take-front xs ys)

pub part-size : (cells : List Cell) (a b : ℕ) → a ≤ b → b ≤ length cells → length (cells_part cells a b) ≡ b - a
part-size cells a b ab inside = length-take-le (b - a) (drop a cells) (omega (arith, ab, inside, length-drop a cells))

-- none reaches over the end of cells that stand at a place, where none does in them
pub over-there : (new xs rest : List Cell) (q : ℕ) → drop q new ≡ xs ++ rest → NoneOver new q
    → ((i : ℕ) (r : Relocation) → i < length xs → relocation_at xs i ≡ Some r → i + reach_of r ≤ length xs) → NoneOver new (q + length xs)
over-there new xs rest q is over own = over-further new q (q + length xs) over (omega arith) (λ x r e le lt. here x r e le lt)
  where
    here : (x : ℕ) (r : Relocation) → relocation_at new x ≡ Some r → q ≤ x → x < q + length xs → x + reach_of r ≤ q + length xs
    here x r e le lt =
        let place : q + (x - q) ≡ x = omega (arith, le) in
        let lies : x - q < length xs = omega (arith, le, lt) in
        let begins : relocation_at xs (x - q) ≡ Some r =
        sym (relocation-front xs rest (x - q) lies) ∙ ap (λ (cs : List Cell). relocation_at cs (x - q)) (sym is) ∙ relocation-behind new q (x - q) ∙ ap (relocation_at new) place ∙ e in
        let ends = own (x - q) r lies begins in
        omega (arith, ends, place)

-- up to a place before the first change all is copied, where none reaches over it
pub record CellsCopied (old new : List Cell) (end : ℕ) (cs : List CellChange) (more : List Cell) (p q b : ℕ) : Type 0 where
  pub same : cells_at new q (b - p) ≡ cells_part old p b
  pub rest : CellRest old new end cs more b (q + (b - p))

pub cells-copied : (old new : List Cell) (end : ℕ) (cs : List CellChange) (more : List Cell) (p q b : ℕ) → CellRest old new end cs more p q → p ≤ b → b ≤ end
    → FirstFrom end b cs → ((x : ℕ) (r : Relocation) → relocation_at old x ≡ Some r → p ≤ x → x < b → x + reach_of r ≤ b) → CellsCopied old new end cs more p q b
cells-copied old new end cs more p q b h pb b_end f own =
    let within = h.within in
    let there = h.there in
    let size : length (cells_part old p b) ≡ b - p = part-size old p b pb (omega (arith, within, b_end)) in
    let is : drop q new ≡ cells_part old p b ++ (changed_cells old b end cs ++ more) =
    h.is ∙ ap (λ (xs : List Cell). xs ++ more) (changed-part old end p b cs pb f) ∙ append_assoc (cells_part old p b) (changed_cells old b end cs) more in
    let long : length (drop q new) ≡ length (cells_part old p b ++ (changed_cells old b end cs ++ more)) = ap length is in
    let over : NoneOver new (q + length (cells_part old p b)) =
    over-there new (cells_part old p b) (changed_cells old b end cs ++ more) q is h.over (λ i r lt e. inside i r lt e size) in
    record {
      same = ap (λ (n : ℕ). take n (drop q new)) (sym size) ∙ ap (take (length (cells_part old p b))) is ∙ take-front (cells_part old p b) (changed_cells old b end cs ++ more);
      rest = record {
        within = within;
        there = omega (arith, long, there, size, length-drop q new, length-append (cells_part old p b) (changed_cells old b end cs ++ more));
        is = sym (drop-drop (b - p) q new) ∙ ap (drop (b - p)) is ∙ ap (λ (n : ℕ). drop n (cells_part old p b ++ (changed_cells old b end cs ++ more))) (sym size)
            ∙ drop-front (cells_part old p b) (changed_cells old b end cs ++ more);
        over = subst (λ (n : ℕ). NoneOver new (q + n)) size over;
      };
    }
  where
    inside : (i : ℕ) (r : Relocation) → i < length (cells_part old p b) → relocation_at (cells_part old p b) i ≡ Some r → length (cells_part old p b) ≡ b - p
        → i + reach_of r ≤ length (cells_part old p b)
    inside i r lt e size =
        let lies : i < b - p = omega (arith, lt, size) in
        let begins : relocation_at old (p + i) ≡ Some r = sym (relocation-behind old p i) ∙ sym (relocation-taken (drop p old) (b - p) i lies) ∙ e in
        let ends = own (p + i) r begins (omega arith) (omega (arith, lies, pb)) in
        omega (arith, ends, size, pb)

-- a change stands where the old cells did
pub record CellsChanged (old new : List Cell) (end : ℕ) (c : CellChange) (cs : List CellChange) (more : List Cell) (q : ℕ) : Type 0 where
  pub same : cells_at new q (length c.new) ≡ c.new
  pub behind : drop q new ≡ c.new ++ (changed_cells old (c.at + c.old) end cs ++ more)
  pub rest : CellRest old new end cs more (c.at + c.old) (q + length c.new)

pub cells-changed : (old new : List Cell) (end : ℕ) (c : CellChange) (cs : List CellChange) (more : List Cell) (p q : ℕ) → CellRest old new end (c ∷ cs) more p q → p ≡ c.at
    → ((i : ℕ) (r : Relocation) → i < length c.new → relocation_at c.new i ≡ Some r → i + reach_of r ≤ length c.new) → CellsChanged old new end c cs more q
cells-changed old new end c cs more p q h at own =
    let there = h.there in
    let none : c.at - p ≡ 0 = omega (arith, at) in
    let front : cells_part old p c.at ≡ [] = ap (λ (n : ℕ). take n (drop p old)) none in
    let is : drop q new ≡ c.new ++ (changed_cells old (c.at + c.old) end cs ++ more) =
    h.is ∙ ap (λ (xs : List Cell). (xs ++ (c.new ++ changed_cells old (c.at + c.old) end cs)) ++ more) front
    ∙ append_assoc c.new (changed_cells old (c.at + c.old) end cs) more in
    let long : length (drop q new) ≡ length (c.new ++ (changed_cells old (c.at + c.old) end cs ++ more)) = ap length is in
    record {
      same = ap (take (length c.new)) is ∙ take-front c.new (changed_cells old (c.at + c.old) end cs ++ more);
      behind = is;
      rest = record {
        within = h.within;
        there = omega (arith, long, there, length-drop q new, length-append c.new (changed_cells old (c.at + c.old) end cs ++ more));
        is = sym (drop-drop (length c.new) q new) ∙ ap (drop (length c.new)) is ∙ drop-front c.new (changed_cells old (c.at + c.old) end cs ++ more);
        over = over-there new c.new (changed_cells old (c.at + c.old) end cs ++ more) q is h.over own;
      };
    }

-- where no relocation begins, none reaches over
pub clear-none : (cells : List Cell) (a b : ℕ) → Clear cells a b → (x : ℕ) (r : Relocation) → relocation_at cells x ≡ Some r → a ≤ x → x < b → x + reach_of r ≤ b
clear-none cells a b h x r e le lt =
    let none = h.none x le lt in
    absurd cc

pub plain-none : (bs : List ℕ) (i : ℕ) (r : Relocation) → i < length (plain_cells bs) → relocation_at (plain_cells bs) i ≡ Some r → i + reach_of r ≤ length (plain_cells bs)
plain-none bs i r lt e =
    let none = relocation_at-plain (plain_cells bs) i (plain_cells-plain bs) in
    absurd cc

pub plain-size : (bs : List ℕ) → length (plain_cells bs) ≡ length bs
plain-size [] = refl
plain-size (b ∷ bs) = ap suc (plain-size bs)
