-- Laws of the operations of line programs over cells: addresses by the relocations that begin at them, in what is left of a program and in its
-- section; and without relocations.
use Rattle.std.proofs.Common.{◌≡◌, ℕ, zero, suc, ◌+◌, ◌-◌, ◌<◌, ◌≤◌, List, [], ◌∷◌, length, take, drop, Option, refl, sym, ap, ◌∙◌, arith}
use Rattle.std.proofs.lemmas.List.{length-drop, length-take-le}
use Rattle.dw_base.specs.Cells.{Cell, Relocation, address_by, bytes_of}
use Rattle.dw_base.specs.Numbers.{spelled}
use Rattle.dw_base.specs.RelocationFields.{relocation_at}
use Rattle.dw_base.specs.ValueMeanings.{address_of}
use Rattle.dw_base.specs.declared.shared.Order.{Order}
use Rattle.dw_base.proofs.NumberLaws.{spelled-drop, spelled-take}
use Rattle.dw_base.proofs.RelocationFieldLaws.{bytes_of-drop, bytes_of-take}
use Rattle.dw_base.proofs.UnitEditLaws.{length-bytes_of}

pub relocation_at-take : (cells : List Cell) (n place : ℕ) → place < n → relocation_at (take n cells) place ≡ relocation_at cells place
relocation_at-take cells zero place lt = absurd (omega (arith, lt))
relocation_at-take [] (suc n) place lt = refl
relocation_at-take (c ∷ cs) (suc n) zero lt = refl
relocation_at-take (c ∷ cs) (suc n) (suc place) lt = relocation_at-take cs n place (omega (arith, lt))

-- the address from a place on
pub address-drop : (order : Order) (cells : List Cell) (place : ℕ)
    → address_of order (drop place cells) ≡ address_by (relocation_at cells place) (spelled order (bytes_of cells) place (length (bytes_of cells) - place))
unfolding address_of
address-drop order cells place =
    let none : place + 0 ≡ place = omega arith in
    let size : length (drop place cells) ≡ length (bytes_of cells) - place =
    length-drop place cells ∙ ap (λ (n : ℕ). n - place) (sym (length-bytes_of cells)) in
    ap (λ (n : ℕ). address_by (relocation_at cells place) (spelled order (bytes_of (drop place cells)) 0 n)) size
    ∙ ap (λ (bs : List ℕ). address_by (relocation_at cells place) (spelled order bs 0 (length (bytes_of cells) - place))) (bytes_of-drop place cells)
    ∙ ap (address_by (relocation_at cells place))
    (spelled-drop order (bytes_of cells) place 0 (length (bytes_of cells) - place)
    ∙ ap (λ (k : ℕ). spelled order (bytes_of cells) k (length (bytes_of cells) - place)) none)

-- and of an operation that ends behind so many cells
pub address-body : (order : Order) (cells : List Cell) (end place : ℕ) → place < end → end ≤ length cells
    → address_of order (drop place (take end cells)) ≡ address_by (relocation_at cells place) (spelled order (bytes_of cells) place (end - place))
address-body order cells end place lt inside =
    let size : length (bytes_of (take end cells)) ≡ end = length-bytes_of (take end cells) ∙ length-take-le end cells inside in
    let within : place + (end - place) ≤ end = omega (arith, lt) in
    address-drop order (take end cells) place
    ∙ ap (λ (o : Option Relocation). address_by o (spelled order (bytes_of (take end cells)) place (length (bytes_of (take end cells)) - place)))
    (relocation_at-take cells end place lt)
    ∙ ap (λ (n : ℕ). address_by (relocation_at cells place) (spelled order (bytes_of (take end cells)) place (n - place))) size
    ∙ ap (λ (bs : List ℕ). address_by (relocation_at cells place) (spelled order bs place (end - place))) (bytes_of-take end cells)
    ∙ ap (address_by (relocation_at cells place)) (spelled-take order (bytes_of cells) end place (end - place) within)
