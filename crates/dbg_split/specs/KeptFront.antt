-- What the stripped file keeps at its place: all that is loaded, and the headers in front of it, but for three fields of the
-- file header (gABI ch. 4 "ELF Header": `e_shoff`, `e_shnum`, `e_shstrndx`).
use Rattle.std.specs.Prelude.{◌≡◌, ℕ, ◌+◌, ◌<◌, ◌≤◌, ◌⊎◌, List, slice_index}
use Rattle.dw_base.specs.Elf.{class_of, ehdr_size, shnum_place, shoff_place, word_size}
use Rattle.dw_base.specs.Layout.{fixed_end}

-- a place outside of the three fields
pub record IsOutside (b : List ℕ) (k : ℕ) : Type 0 where
  pub shoff : (k < shoff_place (class_of b)) ⊎ (shoff_place (class_of b) + word_size (class_of b) ≤ k)
  pub numbers : (k < shnum_place (class_of b)) ⊎ (ehdr_size (class_of b) ≤ k)

-- each byte before the fixed end is as it was, but in the three fields
pub record KeepsFront (b out : List ℕ) : Type 0 where
  pub bytes : (k : ℕ) → k < fixed_end b → IsOutside b k → slice_index out k ≡ slice_index b k
