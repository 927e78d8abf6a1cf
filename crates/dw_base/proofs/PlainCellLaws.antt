-- Cells without relocations: those of a file that isn't relocatable.
use Rattle.std.proofs.Common.{◌≡◌, ℕ, ◌≤◌, List, [], ◌∷◌, ◌++◌, length, drop, Option, None, sym, ap, ◌∙◌, refl, arith}
use Rattle.std.proofs.lemmas.List.{append-nil, drop_all}
use Rattle.dw_base.specs.Cells.{Cell, Relocation, bytes_of, plain_cells, with_bytes, first_relocation}
use Rattle.dw_base.specs.Numbers.{number_bytes}
use Rattle.dw_base.specs.NewOffsets.{with_offset_by, with_offset}
use Rattle.dw_base.specs.declared.shared.Order.{Order}
use Rattle.dw_base.proofs.NumberLaws.{length-number_bytes}
use Rattle.dw_base.proofs.UnitEditLaws.{length-bytes_of}
use Rattle.dw_base.proofs.UnitHeaderLaws.{bytes_of-append}

-- no relocation begins in the cells
pub record IsPlain (p : List Cell) : Type 0 where
  pub plain : p ≡ plain_cells (bytes_of p)

pub bytes_of-plain : (bs : List ℕ) → bytes_of (plain_cells bs) ≡ bs
bytes_of-plain [] = refl
bytes_of-plain (b ∷ bs) = ap (λ (cs : List ℕ). b ∷ cs) (bytes_of-plain bs)

pub plain_cells-plain : (bs : List ℕ) → IsPlain (plain_cells bs)
plain_cells-plain bs = record { plain = ap plain_cells (sym (bytes_of-plain bs)) }

pub plain_cells-append : (xs ys : List ℕ) → plain_cells (xs ++ ys) ≡ plain_cells xs ++ plain_cells ys
plain_cells-append [] ys = refl
plain_cells-append (x ∷ xs) ys = ap (λ (cs : List Cell). record { byte = x; relocation = None } ∷ cs) (plain_cells-append xs ys)

-- parts of plain cells are plain
pub plain-parts : (p q : List Cell) → IsPlain (p ++ q) → IsPlain p × IsPlain q
plain-parts [] q h = (record { plain = refl }, h)
plain-parts (c ∷ cs) q h =
    let tail : cs ++ q ≡ plain_cells (bytes_of (cs ++ q)) = ap rest h.plain in
    let head : c ≡ record { byte = c.byte; relocation = None } = ap (first c) h.plain in
    let both = plain-parts cs q (record { plain = tail }) in
    (record { plain = ap (λ (d : Cell). d ∷ cs) head ∙ ap (λ (ds : List Cell). record { byte = c.byte; relocation = None } ∷ ds) both.0.plain }, both.1)
  where
    rest : List Cell → List Cell
    rest [] = []
    rest (d ∷ ds) = ds

    first : Cell → List Cell → Cell
    first d [] = d
    first d (e ∷ es) = e

pub plain-append : (p q : List Cell) → IsPlain p → IsPlain q → IsPlain (p ++ q)
plain-append p q h g = record {
  plain =
      ap (λ (x : List Cell). x ++ q) h.plain ∙ ap (λ (y : List Cell). plain_cells (bytes_of p) ++ y) g.plain
      ∙ sym (plain_cells-append (bytes_of p) (bytes_of q)) ∙ ap plain_cells (sym (bytes_of-append p q));
}

pub first-plain : (p : List Cell) → IsPlain p → first_relocation p ≡ None
first-plain [] h = refl
first-plain (c ∷ cs) h = ap first_relocation h.plain

-- cells with other bytes at their front
with_bytes-plain : (cs bs : List ℕ) → length bs ≤ length cs → with_bytes (plain_cells cs) bs ≡ plain_cells (bs ++ drop (length bs) cs)
with_bytes-plain [] [] h = refl
with_bytes-plain [] (b ∷ bs) h = absurd (omega arith)
with_bytes-plain (c ∷ cs) [] h = refl
with_bytes-plain (c ∷ cs) (b ∷ bs) h = ap (λ (ds : List Cell). record { byte = b; relocation = None } ∷ ds) (with_bytes-plain cs bs (omega arith))

pub with_bytes-is : (p : List Cell) (bs : List ℕ) → IsPlain p → length bs ≤ length p → with_bytes p bs ≡ plain_cells (bs ++ drop (length bs) (bytes_of p))
with_bytes-is p bs h fits =
    ap (λ (q : List Cell). with_bytes q bs) h.plain ∙ with_bytes-plain (bytes_of p) bs (omega (arith, fits, length-bytes_of p))

pub with_offset-is : (order : Order) (p : List Cell) (n : ℕ) → IsPlain p → with_offset order p n ≡ plain_cells (number_bytes order (length p) n)
unfolding with_offset
with_offset-is order p n h =
    let size : length (number_bytes order (length p) n) ≡ length p = length-number_bytes order (length p) n in
    let whole : length (bytes_of p) ≡ length p = length-bytes_of p in
    ap (λ (o : Option Relocation). with_offset_by o order p n) (first-plain p h)
    ∙ with_bytes-is p (number_bytes order (length p) n) h (omega (arith, size))
    ∙ ap (λ (bs : List ℕ). plain_cells (number_bytes order (length p) n ++ bs))
    (drop_all (length (number_bytes order (length p) n)) (bytes_of p) (omega (arith, size, whole)))
    ∙ ap plain_cells (append-nil (number_bytes order (length p) n))
