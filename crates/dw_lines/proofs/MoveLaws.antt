-- Laws of the runs and the offsets of stretches: one behind another, in their order, and where the new bytes end.
use Rattle.std.proofs.Common.{◌≡◌, ℕ, zero, suc, ◌+◌, ◌≤◌, List, [], ◌∷◌, ◌++◌, length, refl, sym, ap, ◌∙◌, arith, append_assoc}
use Rattle.std.proofs.lemmas.List.{length-append}
use Rattle.dw_base.specs.Cells.{Cell, cells_at, plain_cells}
use Rattle.dw_base.specs.declared.shared.Order.{Order}
use Rattle.dw_base.proofs.RelocationFieldLaws.{length-cells_at}
use Rattle.dw_meaning.specs.LineStretches.{Stretch, kept_stretch, offset_stretch, other_stretch, stretch_after, stretch_size, stretches_after, stretches_end}
use Rattle.dw_meaning.proofs.FieldPutLaws.{length-put}
use Rattle.elf_relocs.specs.Runs.{RunsRise}
use Rattle.elf_relocs.specs.declared.runs.Run.{Run}
use Rattle.elf_relocs.proofs.RunPlaceLaws.{RiseFrom, rise-further, runs-rise}
use Rattle.dw_lines.specs.TableMoves.{kept_run, new_end, offsets_from, runs_from, stretch_new, stretch_offset, stretch_run}
use Rattle.dw_lines.specs.declared.moves.NewFieldOffset.{NewFieldOffset}

pub runs-append : (old new : ℕ) (xs ys : List Stretch) → runs_from old new (xs ++ ys) ≡ runs_from old new xs ++ runs_from (stretches_end old xs) (new_end new xs) ys
runs-append old new [] ys = refl
runs-append old new (x ∷ xs) ys =
    ap (λ (rs : List Run). stretch_run old new x ++ rs) (runs-append (old + stretch_size x) (new + stretch_new x) xs ys)
    ∙ sym (append_assoc (stretch_run old new x) (runs_from (old + stretch_size x) (new + stretch_new x) xs)
    (runs_from (stretches_end (old + stretch_size x) xs) (new_end (new + stretch_new x) xs) ys))

pub new-append : (new : ℕ) (xs ys : List Stretch) → new_end new (xs ++ ys) ≡ new_end (new_end new xs) ys
new-append new [] ys = refl
new-append new (x ∷ xs) ys = new-append (new + stretch_new x) xs ys

pub offsets-append : (at : ℕ) (xs ys : List Stretch) → offsets_from at (xs ++ ys) ≡ offsets_from at xs ++ offsets_from (stretches_end at xs) ys
offsets-append at [] ys = refl
offsets-append at (x ∷ xs) ys =
    ap (λ (fs : List NewFieldOffset). stretch_offset at x ++ fs) (offsets-append (at + stretch_size x) xs ys)
    ∙ sym (append_assoc (stretch_offset at x) (offsets_from (at + stretch_size x) xs) (offsets_from (stretches_end (at + stretch_size x) xs) ys))

stretches-behind : (p : ℕ) (xs : List Stretch) → p ≤ stretches_end p xs
stretches-behind p [] = omega arith
stretches-behind p (x ∷ xs) =
    let more = stretches-behind (p + stretch_size x) xs in
    omega (arith, more)

-- and end where the new cells do
length-plain : (bytes : List ℕ) → length (plain_cells bytes) ≡ length bytes
length-plain [] = refl
length-plain (b ∷ bs) = ap suc (length-plain bs)

pub stretch-length : (order : Order) (cells : List Cell) (p : ℕ) (x : Stretch) → p + stretch_size x ≤ length cells → length (stretch_after order cells p x) ≡ stretch_new x
stretch-length order cells p (kept_stretch n) inside = length-cells_at cells p n inside
stretch-length order cells p (other_stretch n bytes) inside = length-plain bytes
stretch-length order cells p (offset_stretch n to) inside = length-put order (cells_at cells p n) to ∙ length-cells_at cells p n inside

pub new-length : (order : Order) (cells : List Cell) (p new : ℕ) (xs : List Stretch) → stretches_end p xs ≤ length cells
    → new_end new xs ≡ new + length (stretches_after order cells p xs)
new-length order cells p new [] inside = omega arith
new-length order cells p new (x ∷ xs) inside =
    let more = stretches-behind (p + stretch_size x) xs in
    let size = stretch-length order cells p x (omega (arith, more, inside)) in
    let both = length-append (stretch_after order cells p x) (stretches_after order cells (p + stretch_size x) xs) in
    let rest = new-length order cells (p + stretch_size x) (new + stretch_new x) xs inside in
    omega (arith, size, both, rest)

-- runs in the order of their places
kept-rise : (old new n q : ℕ) (rs : List Run) → old + n ≤ q → RiseFrom q rs → RiseFrom old (kept_run old new n ++ rs)
kept-rise old new zero q rs le h = rise-further old q rs (omega (arith, le)) h
kept-rise old new (suc n) q rs le h = (omega arith, rise-further (suc old) q rs (omega (arith, le)) h)

pub runs-order : (old new : ℕ) (xs : List Stretch) → RiseFrom old (runs_from old new xs)
runs-order old new [] = tt
runs-order old new (kept_stretch n ∷ xs) =
    kept-rise old new n (old + n) (runs_from (old + n) (new + n) xs) (omega arith) (runs-order (old + n) (new + n) xs)
runs-order old new (other_stretch n bytes ∷ xs) =
    rise-further old (old + n) (runs_from (old + n) (new + length bytes) xs) (omega arith) (runs-order (old + n) (new + length bytes) xs)
runs-order old new (offset_stretch n to ∷ xs) =
    kept-rise old new n (old + n) (runs_from (old + n) (new + n) xs) (omega arith) (runs-order (old + n) (new + n) xs)

pub stretches-rise : (old new : ℕ) (xs : List Stretch) → RunsRise (runs_from old new xs)
stretches-rise old new xs = runs-rise old (runs_from old new xs) (runs-order old new xs)
