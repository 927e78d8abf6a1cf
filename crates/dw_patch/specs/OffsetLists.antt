-- Fields of a section with the offsets that they are to say, in any order.
use Rattle.std.specs.Prelude.{ℕ, ◌+◌, ◌≤◌, ◌==◌, if◌then◌else◌, List, [], ◌∷◌}
use Rattle.dw_patch.specs.RecordMoves.{AllSized}
use Rattle.elf_layout.specs.declared.patch.Patch.{Patch}

-- how many of them begin at a place
abbrev pub count_at : List Patch → ℕ → ℕ
count_at [] place = 0
count_at (f ∷ fs) place = (if f.at == place then 1 else 0) + count_at fs place

-- each has 4 or 8 bytes, and no two begin at one place
pub record OffsetsFit (list : List Patch) : Type 0 where
  pub sized : AllSized list
  pub once : (place : ℕ) → count_at list place ≤ 1
