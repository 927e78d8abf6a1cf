-- Laws of the number with which a field of a view says another offset.
use Rattle.std.proofs.Common.{◌≡◌, ℕ, zero, suc, ◌+◌, ◌<◌, ◌≤◌, ◌⊎◌, List, [], ◌∷◌, length, get_or, slice_index, take, drop, Option, Some, None, refl, sym, ap, ◌∙◌, arith, subst, inl, inr}
use Rattle.dw_base.specs.Cells.{Cell, Relocation, bytes_of, cells_at, first_relocation}
use Rattle.dw_base.specs.FileViews.{View, section_bytes, view_cells}
use Rattle.dw_base.specs.NewOffsets.{with_offset, with_offset_by}
use Rattle.dw_base.specs.Numbers.{number_bytes, spelled}
use Rattle.dw_base.specs.Relocs.{reloc_at}
use Rattle.dw_base.specs.SectionRelocations.{RelocationSource, records_in, relocation_in, relocation_of, relocations_in}
use Rattle.dw_base.specs.declared.relocations.Reloc.{Reloc}
use Rattle.dw_base.specs.declared.shared.Order.{Order}
use Rattle.dw_base.proofs.NumberLaws.{length-number_bytes}
use Rattle.dw_base.proofs.OffsetPutLaws.{bytes_of-with_bytes}
use Rattle.dw_base.proofs.RelocationFieldLaws.{bytes_of-drop, bytes_of-take, first-take, length-cells_at, number-cells_at}
use Rattle.dw_base.proofs.RelocationTieLaws.{record-there}
use Rattle.dw_base.proofs.ViewCellLaws.{bytes_of-view_cells, length-view_cells}
use Rattle.elf_relocs.specs.FieldOffsets.{field_number}
use Rattle.elf_relocs.proofs.OffsetLaws.{bytes_of-put}
use Rattle.dw_view.specs.Moved.{number_put}
use Rattle.dw_view.specs.Places.{record_of}
use Rattle.dw_view.specs.Relocations.{KeptRelocations, ViewKeeps, relocation_kept}
use Rattle.dw_view.proofs.PlaceLaws.{record-is}
use Rattle.dw_view.proofs.ViewRelocationLaws.{place-reads}

-- by a record
pub number-record : (g : RelocationSource) (index size x n y : ℕ) (r : Reloc) → Some r ≡ reloc_at g.class g.order g.rela g.table index
    → index < length (records_in g) → y ≡ field_number (relocation_of g r) size x n → y ≡ field_number (relocation_of g (record_of g index)) size x n
number-record g index size x n y r e lt is =
    is ∙ ap (λ (q : Reloc). field_number (relocation_of g q) size x n) (sym (record-is g index r (sym e) lt))

pub number-absent : (g : RelocationSource) (index x y : ℕ) → None ≡ reloc_at g.class g.order g.rela g.table index → index < length (records_in g) → x ≡ y
number-absent g index x y e lt = let some = record-there g index (record { offset = 0; symbol = 0; kind = 0; addend = None }) lt in absurd cc

pub ruleset record_rules = (number-record)

-- by the relocation at a place
pub number-some : (g : RelocationSource) (place index size x n y : ℕ) → Some (relocation_of g (record_of g index)) ≡ relocation_in (relocations_in g) place
    → y ≡ field_number (relocation_of g (record_of g index)) size x n → y ≡ number_put (relocation_in (relocations_in g) place) size x n
number-some g place index size x n y found is = is ∙ ap (λ (o : Option Relocation). number_put o size x n) found

pub number-none : (o : Option Relocation) (size x n : ℕ) → None ≡ o → n ≡ number_put o size x n
number-none o size x n is = ap (λ (q : Option Relocation). number_put q size x n) is

pub ruleset number_rules = (number-some, number-none)

pub kept-some : (o : Option KeptRelocations) (k : KeptRelocations) (place size x n y : ℕ) → Some k ≡ o
    → y ≡ number_put (relocation_in (relocations_in k.source) place) size x n → y ≡ number_put (relocation_kept o place) size x n
kept-some o k place size x n y o_is is = is ∙ ap (λ (q : Option KeptRelocations). number_put (relocation_kept q place) size x n) o_is

pub kept-none : (o : Option KeptRelocations) (place size x n : ℕ) → None ≡ o → n ≡ number_put (relocation_kept o place) size x n
kept-none o place size x n o_is = ap (λ (q : Option KeptRelocations). number_put (relocation_kept q place) size x n) o_is

pub ruleset by_rules = (kept-some, kept-none)

-- the bytes of the field with it
put-bytes : (o : Order) (p : List Cell) (size x n : ℕ) → ((k : ℕ) → slice_index (bytes_of p) k < 256) → length p ≡ size → x ≡ spelled o (bytes_of p) 0 (length p)
    → number_bytes o size (number_put (first_relocation p) size x n) ≡ bytes_of (with_offset o p n)
unfolding with_offset
put-bytes o p size x n small size_is x_is = by_first (first_relocation p) refl
  where
    by_first : (q : Option Relocation) → first_relocation p ≡ q → number_bytes o size (number_put q size x n) ≡ bytes_of (with_offset_by (first_relocation p) o p n)
    by_first None first =
        ap (λ (k : ℕ). number_bytes o k n) (sym size_is)
        ∙ sym (ap (λ (f : Option Relocation). bytes_of (with_offset_by f o p n)) first
        ∙ bytes_of-with_bytes p (number_bytes o (length p) n) (length-number_bytes o (length p) n))
    by_first (Some r) first =
        ap (λ (k : ℕ). number_bytes o k (field_number r k x n)) (sym size_is)
        ∙ ap (λ (y : ℕ). number_bytes o (length p) (field_number r (length p) y n)) x_is
        ∙ sym (bytes_of-put o p r n first small)

-- parts of bytes are bytes
small-take : (xs : List ℕ) (n k : ℕ) → ((j : ℕ) → slice_index xs j < 256) → slice_index (take n xs) k < 256
small-take xs zero k h = omega arith
small-take [] (suc n) k h = omega arith
small-take (x ∷ xs) (suc n) zero h = h 0
small-take (x ∷ xs) (suc n) (suc k) h = small-take xs n k (λ j. h (suc j))

small-drop : (xs : List ℕ) (n k : ℕ) → ((j : ℕ) → slice_index xs j < 256) → slice_index (drop n xs) k < 256
small-drop xs zero k h = h k
small-drop [] (suc n) k h = omega arith
small-drop (x ∷ xs) (suc n) k h = small-drop xs n k (λ j. h (suc j))

small-part : (cells : List Cell) (place n k : ℕ) → ((j : ℕ) → slice_index (bytes_of cells) j < 256) → slice_index (bytes_of (cells_at cells place n)) k < 256
small-part cells place n k h =
    subst (λ (xs : List ℕ). slice_index xs k < 256) (sym (bytes_of-take n (drop place cells) ∙ ap (take n) (bytes_of-drop place cells)))
    (small-take (drop place (bytes_of cells)) n k (λ j. small-drop (bytes_of cells) place j h))

pub some-size : (n : ℕ) → (n ≡ 4) ⊎ (n ≡ 8) → 0 < n
some-size n (inl four) = omega (arith, four)
some-size n (inr eight) = omega (arith, eight)

pub wide-size : (n : ℕ) → (n ≡ 4) ⊎ (n ≡ 8) → n ≤ 8
wide-size n (inl four) = omega (arith, four)
wide-size n (inr eight) = omega (arith, eight)

pub moved-bytes : (v : View) (kept : List (Option KeptRelocations)) (i place n x y offset : ℕ) → i < length v.sections → (n ≡ 4) ⊎ (n ≡ 8)
    → place + n ≤ length (section_bytes v i) → ViewKeeps v kept → ((k : ℕ) → slice_index (section_bytes v i) k < 256)
    → x ≡ spelled v.order (section_bytes v i) place n → y ≡ number_put (relocation_kept (get_or kept i None) place) n x offset
    → number_bytes v.order n y ≡ bytes_of (with_offset v.order (cells_at (view_cells v i) place n) offset)
moved-bytes v kept i place n x y offset lt sizes inside h small x_is y_is =
    let some = some-size n sizes in
    let size : length (view_cells v i) ≡ length (section_bytes v i) = length-view_cells v i in
    let own : length (cells_at (view_cells v i) place n) ≡ n = length-cells_at (view_cells v i) place n (omega (arith, inside, size)) in
    let first : first_relocation (cells_at (view_cells v i) place n) ≡ relocation_kept (get_or kept i None) place =
    first-take n (drop place (view_cells v i)) some ∙ sym (place-reads v kept i place (relocation_kept (get_or kept i None) place) lt (omega (arith, some, inside)) h refl) in
    let number : spelled v.order (bytes_of (cells_at (view_cells v i) place n)) 0 (length (cells_at (view_cells v i) place n)) ≡ x =
    number-cells_at v.order (view_cells v i) place n (omega (arith, inside, size))
    ∙ ap (λ (bs : List ℕ). spelled v.order bs place n) (bytes_of-view_cells v i) ∙ sym x_is in
    ap (number_bytes v.order n) (y_is ∙ ap (λ (o : Option Relocation). number_put o n x offset) (sym first))
    ∙ put-bytes v.order (cells_at (view_cells v i) place n) n x offset
    (λ k. small-part (view_cells v i) place n k (λ j. subst (λ (bs : List ℕ). slice_index bs j < 256) (sym (bytes_of-view_cells v i)) (small j)))
    own (sym number)

pub bytes-small : (xs ys : List ℕ) → xs ≡ ys → ((k : ℕ) → slice_index xs k < 256) → (k : ℕ) → slice_index ys k < 256
bytes-small xs ys same h k = subst (λ (bs : List ℕ). slice_index bs k < 256) same (h k)

pub ruleset byte_rules = (bytes-small)

pub ruleset moved_rules = (moved-bytes, some-size, wide-size)
