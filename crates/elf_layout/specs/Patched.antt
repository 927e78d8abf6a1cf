-- New numbers in fields of a section: what the section's bytes are after they were put (gABI ch. 4 "Data Representation").
use Rattle.std.specs.Prelude.{◌≡◌, ◌⊎◌, ℕ, ◌+◌, ◌-◌, ◌^◌, ◌<◌, ◌≤◌, List, [], ◌∷◌, ◌++◌, drop, take, length, slice_index, slice_index_or, ⊤}
use Rattle.dw_base.specs.Numbers.{number_bytes, spelled, with_number}
use Rattle.dw_base.specs.declared.shared.Order.{Order}
use Rattle.elf_layout.specs.declared.patch.Patch.{Patch}

-- the field of a number
abbrev pub patch_at : List Patch → ℕ → Patch
patch_at list i = slice_index_or list i (record { at = 0; size = 0; value = 0 })

-- the bytes of one field and so many bytes at a place have none in common
abbrev pub IsApart : Patch → ℕ → ℕ → Type 0
IsApart p place size = (place + size ≤ p.at) ⊎ (p.at + p.size ≤ place)

-- a field is one of a section of so many bytes, and its new number fits it
pub record PatchFits (size : ℕ) (p : Patch) : Type 0 where
  pub some : 0 < p.size
  pub wide : p.size ≤ 8
  pub inside : p.at + p.size ≤ size
  pub fits : p.value < 256 ^ p.size

-- all fit, and no two overlap
pub record PatchesFit (size : ℕ) (list : List Patch) : Type 0 where
  pub each : (i : ℕ) → i < length list → PatchFits size (patch_at list i)
  pub apart : (i j : ℕ) → i < j → j < length list → IsApart (patch_at list i) (patch_at list j).at (patch_at list j).size

-- each of the first fields reads as its new number, and each byte outside of them is as before
pub record PatchedUpTo (order : Order) (list : List Patch) (count : ℕ) (old new : List ℕ) : Type 0 where
  pub size : length new ≡ length old
  pub reads : (i : ℕ) → i < count → spelled order new (patch_at list i).at (patch_at list i).size ≡ (patch_at list i).value
  pub kept : (k : ℕ) → ((i : ℕ) → i < count → IsApart (patch_at list i) k 1) → slice_index new k ≡ slice_index old k

-- the bytes of a section with the new numbers of these fields, put one after another
abbrev pub with_patches : Order → List ℕ → List Patch → List ℕ
with_patches order bytes [] = bytes
with_patches order bytes (p ∷ ps) = with_patches order (with_number order bytes p.at p.size p.value) ps

-- where a field begins
abbrev pub field_start : Patch → ℕ
field_start p = p.at

-- fields of a section of so many bytes stand in order behind a place: each fits, and begins where the one before it ends, or behind
abbrev pub AreInOrder : ℕ → ℕ → List Patch → Type 0
AreInOrder size place [] = ⊤
AreInOrder size place (p ∷ ps) = PatchFits size p × (place ≤ p.at) × AreInOrder size (p.at + p.size) ps

-- the bytes of a section from a place on, with the new numbers of the fields that stand in order behind it
abbrev pub patched_from : Order → List ℕ → ℕ → List Patch → List ℕ
patched_from order old place [] = drop place old
patched_from order old place (p ∷ ps) =
    (take (p.at - place) (drop place old) ++ number_bytes order p.size p.value) ++ patched_from order old (p.at + p.size) ps

-- bytes with others put at a place
abbrev pub put_at : ℕ → List ℕ → List ℕ → List ℕ
put_at place more bytes = take place bytes ++ more ++ drop (place + length more) bytes
