-- What an edit leaves of the sections of a file, beside what they mean (gABI ch. 4 "ELF Header", "Sections"): their headers but for place
-- and size, and all of those that stay.
use Rattle.std.specs.Prelude.{true, false, ◌≡◌, ℕ, ◌<◌, ◌≤◌, List}
use Rattle.dw_base.specs.Elf.{class_of, e_type, is_empty_kind, name_index, nth_section, section_count, section_name}
use Rattle.dw_base.specs.Layout.{fixed_end, is_fixed}
use Rattle.dw_base.specs.LayoutReads.{SameButPlace}

-- two files have the same sections but for place, size and contents
pub record SameShape (b c : List ℕ) : Type 0 where
  pub class : class_of c ≡ class_of b
  pub kind : e_type c ≡ e_type b
  pub count : section_count c ≡ section_count b
  pub index : name_index c ≡ name_index b
  pub heads : (i : ℕ) → i < section_count b → SameButPlace (nth_section b i) (nth_section c i)
  pub names : (i : ℕ) → i < section_count b → section_name c i ≡ section_name b i

-- the part of the one that stays ends where that of the other does: a section that stays is the same, and one that moves stands behind
pub record SameFixed (b c : List ℕ) : Type 0 where
  pub end : fixed_end c ≡ fixed_end b
  pub stays : (i : ℕ) → i < section_count b → is_fixed b (nth_section b i) ≡ true → nth_section c i ≡ nth_section b i
  pub behind : (i : ℕ) → i < section_count b → is_empty_kind (nth_section b i) ≡ false → is_fixed b (nth_section b i) ≡ false → fixed_end b ≤ (nth_section c i).offset

-- both
pub record SameSections (b c : List ℕ) : Type 0 where
  pub shape : SameShape b c
  pub fixed : SameFixed b c
