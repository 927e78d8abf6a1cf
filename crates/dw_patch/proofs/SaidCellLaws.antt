-- Contents in which fields say other offsets: each relocation is at its byte, with the addend that makes the offset of its field. It is shown cell
-- by cell, from the pieces of which the contents are made.
use Rattle.std.proofs.Common.{◌≡◌, ℕ, suc, ◌+◌, ◌<◌, List, [], ◌∷◌, ◌++◌, length, Option, Some, None, refl, sym, ap, ◌∙◌, subst, arith}
use Rattle.std.specs.Bool.{⊤}
use Rattle.dw_base.specs.Cells.{Cell, Relocation, first_relocation}
use Rattle.dw_base.specs.NewOffsets.{with_offset}
use Rattle.dw_base.specs.declared.shared.Order.{Order}
use Rattle.elf_relocs.specs.FieldOffsets.{offset_addend}
use Rattle.elf_relocs.proofs.OffsetLaws.{SameBehind, SameRelocations, behind-put, first-put, none-put}
use Rattle.dw_patch.specs.RecordMoves.{patch_for}
use Rattle.elf_layout.specs.declared.patch.Patch.{Patch}

-- the relocation that begins at a place, when the fields say their offsets
abbrev pub by_field : Relocation → Option Patch → Relocation
by_field r None = r
by_field r (Some f) = record r { addend = offset_addend r f.size f.value }

abbrev pub said : List Patch → ℕ → Option Relocation → Option Relocation
said fields place None = None
said fields place (Some r) = Some (by_field r (patch_for fields place))

-- cells from a place on, one by one
abbrev pub SaidAll : List Patch → ℕ → List Cell → List Cell → Type 0
SaidAll fields place [] [] = ⊤
SaidAll fields place [] (d ∷ ds) = ⊥
SaidAll fields place (c ∷ cs) [] = ⊥
SaidAll fields place (c ∷ cs) (d ∷ ds) = (d.relocation ≡ said fields place c.relocation) × SaidAll fields (suc place) cs ds

-- one part behind another
pub said-append : (fields : List Patch) (place : ℕ) (xs ys us vs : List Cell) → SaidAll fields place xs ys → SaidAll fields (place + length xs) us vs
    → SaidAll fields place (xs ++ us) (ys ++ vs)
said-append fields place [] [] us vs h k = let same : place + 0 ≡ place = omega arith in subst (λ (p : ℕ). SaidAll fields p us vs) same k
said-append fields place [] (y ∷ ys) us vs h k = absurd h
said-append fields place (x ∷ xs) [] us vs h k = absurd h
said-append fields place (x ∷ xs) (y ∷ ys) us vs h k =
    let same : place + suc (length xs) ≡ suc place + length xs = omega arith in
    (h.0, said-append fields (suc place) xs ys us vs h.1 (subst (λ (p : ℕ). SaidAll fields p us vs) same k))

-- cells in which no field begins, and whose relocations stay
abbrev pub NoneBegin : List Patch → ℕ → ℕ → Type 0
NoneBegin fields place size = (k : ℕ) → k < size → patch_for fields (place + k) ≡ None

kept-one : (fields : List Patch) (place : ℕ) (o q : Option Relocation) → patch_for fields place ≡ None → q ≡ o → q ≡ said fields place o
kept-one fields place None q none same = same
kept-one fields place (Some r) q none same = same ∙ ap Some (sym (ap (by_field r) none))

pub said-kept : (fields : List Patch) (place : ℕ) (xs ys : List Cell) → NoneBegin fields place (length xs) → SameRelocations xs ys → SaidAll fields place xs ys
said-kept fields place [] [] none same = tt
said-kept fields place [] (y ∷ ys) none same = absurd same
said-kept fields place (x ∷ xs) [] none same = absurd same
said-kept fields place (x ∷ xs) (y ∷ ys) none same =
    let here : place + 0 ≡ place = omega arith in (
      kept-one fields place x.relocation y.relocation (ap (patch_for fields) (sym here) ∙ none 0 (omega arith)) same.0,
      said-kept fields (suc place) xs ys (λ k lt. let next : suc place + k ≡ place + suc k = omega arith in ap (patch_for fields) next ∙ none (suc k) (omega (arith, lt))) same.1,
    )

-- a field that says its offset
said-first : (fields : List Patch) (place : ℕ) (order : Order) (p : List Cell) (f : Patch) → patch_for fields place ≡ Some f → f.size ≡ length p
    → first_relocation (with_offset order p f.value) ≡ said fields place (first_relocation p)
said-first fields place order p f begins size = by_first (first_relocation p) refl
  where
    by_first : (o : Option Relocation) → first_relocation p ≡ o → first_relocation (with_offset order p f.value) ≡ said fields place o
    by_first None e = none-put order p f.value e
    by_first (Some r) e =
        first-put order p r f.value e
        ∙ ap (λ (n : ℕ). Some (record r { addend = offset_addend r n f.value })) (sym size)
        ∙ ap (λ (o : Option Patch). Some (by_field r o)) (sym begins)

pub said-put : (fields : List Patch) (place : ℕ) (order : Order) (c : Cell) (cs : List Cell) (f : Patch) → patch_for fields place ≡ Some f → f.size ≡ suc (length cs)
    → NoneBegin fields (suc place) (length cs) → SaidAll fields place (c ∷ cs) (with_offset order (c ∷ cs) f.value)
said-put fields place order c cs f begins size none =
    let h : SameBehind c cs (with_offset order (c ∷ cs) f.value) = behind-put order c cs f.value in
    let first : h.first.relocation ≡ said fields place c.relocation = ap first_relocation (sym h.is) ∙ said-first fields place order (c ∷ cs) f begins size in
    subst (SaidAll fields place (c ∷ cs)) (sym h.is) (first, said-kept fields (suc place) cs h.rest none h.same)
