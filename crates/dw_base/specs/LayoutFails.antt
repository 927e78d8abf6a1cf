-- What refuses a file that would be written with new section bodies: the kinds Fixed and TooLarge. Each constructor is a
-- row, named by what is wrong, and its conclusion has the place that the refusal names. This project's profile.
use Rattle.std.specs.Prelude.{true, false, ◌≡◌, ◌≢◌, ℕ, ◌+◌, ◌<◌, ◌≤◌, List, length}
use Rattle.dw_base.specs.Elf.{class_of, ehdr_size, nth_section, section_count, is_empty_kind, contents_of}
use Rattle.dw_base.specs.Layout.{output_limit, is_loaded_kind, is_alloc, fixed_end, is_fixed, with_bodies}
use Rattle.dw_base.specs.Refusals.{at}
use Rattle.dw_base.specs.declared.fault.Kind.TheVariants.{Fixed, TooLarge}
use Rattle.dw_base.specs.declared.fault.Refusal.{Refusal}
use Rattle.dw_base.specs.declared.records.Section.{Section}

-- a file of so many bytes is too long to be written
pub data TooLong (n : ℕ) : Refusal → Type 0 where
  long : output_limit < n → TooLong n (at TooLarge 0 0)

-- the section isn't loaded, and begins before the fixed end and ends behind it
pub record LiesAcross (b : List ℕ) (s : Section) : Type 0 where
  pub bytes : is_empty_kind s ≡ false
  pub alloc : is_alloc s ≡ false
  pub begins : s.offset < fixed_end b
  pub ends : fixed_end b < s.offset + s.size

-- the section of a file that is loaded has bytes, and begins in the file header
pub record BeginsInHeader (b : List ℕ) (s : Section) : Type 0 where
  pub loaded : is_loaded_kind b ≡ true
  pub bytes : is_empty_kind s ≡ false
  pub some : s.size ≢ 0
  pub begins : s.offset < ehdr_size (class_of b)

-- the section stays at its place, and is given other bytes than it has
pub record Changes (b : List ℕ) (bodies : ℕ → List ℕ) (i : ℕ) : Type 0 where
  pub stays : is_fixed b (nth_section b i) ≡ true
  pub body : bodies i ≢ contents_of b i

-- why a section, of a number, can't be written
pub data SectionStays (b : List ℕ) (bodies : ℕ → List ℕ) (i : ℕ) : Refusal → Type 0 where
  changed : Changes b bodies i → SectionStays b bodies i (at Fixed i 0)
  across : LiesAcross b (nth_section b i) → SectionStays b bodies i (at Fixed i 0)
  in_header : BeginsInHeader b (nth_section b i) → SectionStays b bodies i (at Fixed i 0)

-- every row, for a file and the body of each of its sections
pub data LayoutFails (b : List ℕ) (bodies : ℕ → List ℕ) : Refusal → Type 0 where
  section : (i : ℕ) {r : Refusal} → i < section_count b → SectionStays b bodies i r → LayoutFails b bodies r
  large : {r : Refusal} → TooLong (length (with_bodies b bodies)) r → LayoutFails b bodies r

-- where no row holds: what stays keeps its bytes, no section lies across or begins in the file header, and the file isn't
-- too long
pub record LayoutFits (b : List ℕ) (bodies : ℕ → List ℕ) : Type 0 where
  pub stays : (i : ℕ) → i < section_count b → is_fixed b (nth_section b i) ≡ true → bodies i ≡ contents_of b i
  pub across : (i : ℕ) → i < section_count b → LiesAcross b (nth_section b i) → ⊥
  pub in_header : (i : ℕ) → i < section_count b → BeginsInHeader b (nth_section b i) → ⊥
  pub small : length (with_bodies b bodies) ≤ output_limit
