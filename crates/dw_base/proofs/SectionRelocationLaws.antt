-- Laws of contents as cells: their bytes are the section's, a relocation begins where its record says, and a file that isn't relocatable
-- has none.
use Rattle.std.proofs.Common.{◌≡◌, ℕ, zero, suc, ◌+◌, ◌<◌, Bool, true, false, ◌==◌, ◌&&◌, ◌||◌, List, [], ◌∷◌, length, Option, None, refl, ap, ◌∙◌, arith}
use Rattle.std.proofs.lemmas.Bool.{ne_eqb}
use Rattle.dw_base.specs.Cells.{Cell, bytes_of, plain_cells}
use Rattle.dw_base.specs.Elf.{e_type, nth_section, section_count}
use Rattle.dw_base.specs.Layout.{is_loaded_kind}
use Rattle.dw_base.specs.Notes.{first_below, or_this}
use Rattle.dw_base.specs.RelocationFields.{relocation_at}
use Rattle.dw_base.specs.SectionRelocations.{PlacedRelocation, cells_from, is_relocation_kind, relocates, relocation_in, relocation_section, relocations_by, relocations_of}
use Rattle.dw_base.specs.declared.elf_numbers.TheConstants.{ET_REL, ET_EXEC, ET_DYN}

-- the bytes of the cells
pub bytes_of-cells_from : (rs : List PlacedRelocation) (place : ℕ) (bytes : List ℕ) → bytes_of (cells_from rs place bytes) ≡ bytes
bytes_of-cells_from rs place [] = refl
bytes_of-cells_from rs place (b ∷ bs) = ap (λ (l : List ℕ). b ∷ l) (bytes_of-cells_from rs (suc place) bs)

pub length-cells_from : (rs : List PlacedRelocation) (place : ℕ) (bytes : List ℕ) → length (cells_from rs place bytes) ≡ length bytes
length-cells_from rs place [] = refl
length-cells_from rs place (b ∷ bs) = ap suc (length-cells_from rs (suc place) bs)

-- the relocation that begins in a cell is the first of the list at its place
pub relocation_at-from : (rs : List PlacedRelocation) (place p : ℕ) (bytes : List ℕ) → p < length bytes → relocation_at (cells_from rs place bytes) p ≡ relocation_in rs (place + p)
relocation_at-from rs place p [] lt = absurd (omega arith)
relocation_at-from rs place zero (b ∷ bs) lt = let same : place ≡ place + 0 = omega arith in ap (relocation_in rs) same
relocation_at-from rs place (suc p) (b ∷ bs) lt =
    let same : suc place + p ≡ place + suc p = omega arith in
    relocation_at-from rs (suc place) p bs (omega arith) ∙ ap (relocation_in rs) same

-- no relocations, no relocation in a cell
pub cells_from-none : (place : ℕ) (bytes : List ℕ) → cells_from [] place bytes ≡ plain_cells bytes
cells_from-none place [] = refl
cells_from-none place (b ∷ bs) = ap (λ (l : List Cell). record { byte = b; relocation = None } ∷ l) (cells_from-none (suc place) bs)

pub first_below-none : (f : ℕ → Bool) (n : ℕ) → ((i : ℕ) → i < n → f i ≡ false) → first_below f n ≡ None
first_below-none f zero other = refl
first_below-none f (suc n) other =
    ap (λ (o : Option ℕ). or_this o n (f n)) (first_below-none f n (λ i lt. other i (omega arith))) ∙ ap (or_this None n) (other n (omega arith))

-- a file that is loaded as it stands isn't relocatable
not_rel : (n : ℕ) → (n == ET_EXEC || n == ET_DYN) ≡ true → (n == ET_REL) ≡ false
not_rel zero h = absurd cc
not_rel (suc zero) h = absurd cc
not_rel (suc (suc n)) h = ne_eqb (suc (suc n)) ET_REL (λ e. omega (arith, e))

and-false : (s t u : Bool) → s ≡ false → (s && t && u) ≡ false
and-false true t u e = absurd cc
and-false false t u e = refl

pub relocates-loaded : (b : List ℕ) (target i : ℕ) → is_loaded_kind b ≡ true → relocates b target i ≡ false
unfolding relocates
relocates-loaded b target i loaded =
    and-false (e_type b == ET_REL) (is_relocation_kind (nth_section b i)) ((nth_section b i).info == target) (not_rel (e_type b) loaded)

pub relocation_section-loaded : (b : List ℕ) (target : ℕ) → is_loaded_kind b ≡ true → relocation_section b target ≡ None
unfolding relocation_section
relocation_section-loaded b target loaded = first_below-none (relocates b target) (section_count b) (λ i lt. relocates-loaded b target i loaded)

pub relocations_of-loaded : (contents : ℕ → List ℕ) (b : List ℕ) (target : ℕ) → is_loaded_kind b ≡ true → relocations_of contents b target ≡ []
unfolding relocations_of
relocations_of-loaded contents b target loaded = ap (relocations_by contents b) (relocation_section-loaded b target loaded)
