-- Numbers of texts (gABI ch. 4 "String Table"): the empty text has 0, and a text has the number that is kept by its first byte and the number
-- of the rest. So two texts have one number exactly where they are the same.
use Rattle.std.specs.Prelude.{◌≡◌, ℕ, ◌+◌, ◌*◌, ◌<◌, ◌≤◌, List, [], ◌∷◌, length, drop, get_or, Option, Some}
use Rattle.std.specs.Prelude.{◌==◌}
use Rattle.dw_base.specs.Elf.{section_count, section_name}
use Rattle.dw_base.specs.Texts.{same_text, text}

-- by what the number of a text is kept that has a byte in front of one of a number
abbrev pub front_key : ℕ → ℕ → ℕ
front_key rest byte = rest * 256 + byte

-- a text has a number
pub data HasNumber (kept : ℕ → Option ℕ) : List ℕ → ℕ → Type 0 where
  no_byte : HasNumber kept [] 0
  byte_before : (b rest n : ℕ) (bs : List ℕ) → b < 256 → HasNumber kept bs rest → kept (front_key rest b) ≡ Some n → HasNumber kept (b ∷ bs) n

-- no number is kept twice, and those from one on are free
pub record AreNumbered (kept : ℕ → Option ℕ) (free : ℕ) : Type 0 where
  pub some : (k n : ℕ) → kept k ≡ Some n → 0 < n
  pub below : (k n : ℕ) → kept k ≡ Some n → n < free
  pub once : (k l n : ℕ) → kept k ≡ Some n → kept l ≡ Some n → k ≡ l
  pub first : 0 < free

-- what was kept still is
pub record KeepsNumbers (old new : ℕ → Option ℕ) : Type 0 where
  pub each : (k n : ℕ) → old k ≡ Some n → new k ≡ Some n

-- of each place of a table from one on, the number of the text there; behind the last place there is the empty one
pub record PlacesNumbered (kept : ℕ → Option ℕ) (table : List ℕ) (from : ℕ) (numbers : List ℕ) : Type 0 where
  pub size : length numbers ≡ length table + 1
  pub each : (p : ℕ) → from ≤ p → HasNumber kept (text (drop p table)) (get_or numbers p 0)

-- of each section of a file below a number, the number of its name
pub record NamesNumbered (kept : ℕ → Option ℕ) (b : List ℕ) (count : ℕ) (numbers : List ℕ) : Type 0 where
  pub size : length numbers ≡ count
  pub each : (i : ℕ) → i < count → HasNumber kept (section_name b i) (get_or numbers i 0)

-- names of sections of two files have one number exactly where they are the same
pub record TellNames (b c numbers others : List ℕ) : Type 0 where
  pub tell : (i j : ℕ) → i < section_count b → j < section_count c → (get_or numbers i 0 == get_or others j 0) ≡ same_text (section_name b i) (section_name c j)

-- so of a stripped file and its debug file
pub record AreNamesNumbered (stripped debug numbers others : List ℕ) : Type 0 where
  pub size : length numbers ≡ section_count stripped
  pub others_size : length others ≡ section_count debug
  pub own : TellNames debug debug others others
  pub between : TellNames stripped debug numbers others
