-- Which sections of a debug file a stripped file has kept, which of the stripped file stand with these, and where the two files don't
-- match: this project's profile, over the records of gABI ch. 4 "ELF Header" and "Sections"; GNU debugging information in separate
-- files.
use Rattle.std.specs.Prelude.{Bool, false, ◌≡◌, ◌≢◌, ℕ, zero, suc, ◌-◌, ◌<◌, ◌≤◌, ◌==◌, ◌&&◌, ◌||◌, not, if◌then◌else◌, List, [], ◌∷◌, ◌++◌, length, slice_index}
use Rattle.dw_base.specs.Elf.{class_of, order_of, ehdr_size, e_type, e_machine, is_empty_kind, name_index, nth_section, section_count, section_name}
use Rattle.dw_base.specs.Layout.{is_alloc}
use Rattle.dw_base.specs.SectionNames.{debug_link, is_debug_only_name}
use Rattle.dw_base.specs.declared.records.Section.{Section}

-- the numbers below a bound that pass a test, in order
abbrev pub numbers_below : (ℕ → Bool) → ℕ → List ℕ
numbers_below test zero = []
numbers_below test (suc n) = if test n then numbers_below test n ++ n ∷ [] else numbers_below test n

-- a section of a debug file was kept in the stripped file: it isn't section 0, and is in the image of the running program, or is the
-- section name table, or takes no room and has no name of debug data
unfoldable pub is_kept : List ℕ → ℕ → Bool
is_kept d i =
    not (i == 0)
    && (is_alloc (nth_section d i) || i == name_index d
    || (is_empty_kind (nth_section d i) && not (is_debug_only_name (section_name d i))))

-- the numbers of those that were kept, in order
unfoldable pub kept_sections : List ℕ → List ℕ
kept_sections d = numbers_below (is_kept d) (section_count d)

-- the number of the link to the debug file: the stripped file's last section
unfoldable pub link_number : List ℕ → ℕ
link_number s = section_count s - 1

-- a section of a stripped file stands with a kept one: it is neither section 0 nor the link
unfoldable pub is_partner : List ℕ → ℕ → Bool
is_partner s j = not (j == 0) && not (j == link_number s)

-- the numbers of these, in order: the k-th stands with the k-th kept section of the debug file
unfoldable pub partner_sections : List ℕ → List ℕ
partner_sections s = numbers_below (is_partner s) (section_count s)

-- the two files aren't of one class, byte order, type and machine
pub data OtherKind (s d : List ℕ) : Type 0 where
  class : class_of s ≢ class_of d → OtherKind s d
  order : order_of s ≢ order_of d → OtherKind s d
  type : e_type s ≢ e_type d → OtherKind s d
  machine : e_machine s ≢ e_machine d → OtherKind s d

-- a section has bytes in the file, and begins in the file header
pub record InHeader (b : List ℕ) (s : Section) : Type 0 where
  pub bytes : is_empty_kind s ≡ false
  pub some : s.size ≢ 0
  pub begins : s.offset < ehdr_size (class_of b)

-- the section of number `j` of the stripped file differs from that of number `i` of the debug file. The section name table may have
-- another size, since that of the stripped file has the link's name, too.
pub data SectionsDiffer (s d : List ℕ) (j i : ℕ) : Type 0 where
  name : section_name s j ≢ section_name d i → SectionsDiffer s d j i
  flags : (nth_section s j).flags ≢ (nth_section d i).flags → SectionsDiffer s d j i
  addr : (nth_section s j).addr ≢ (nth_section d i).addr → SectionsDiffer s d j i
  size : i ≢ name_index d → (nth_section s j).size ≢ (nth_section d i).size → SectionsDiffer s d j i

-- the two lists differ at a place, counted from 0: one of them has ended there, or the sections differ
pub data Differ (s d : List ℕ) (k : ℕ) : Type 0 where
  no_partner : k < length (kept_sections d) → length (partner_sections s) ≤ k → Differ s d k
  no_kept : k < length (partner_sections s) → length (kept_sections d) ≤ k → Differ s d k
  other : k < length (kept_sections d) → k < length (partner_sections s)
      → SectionsDiffer s d (slice_index (partner_sections s) k) (slice_index (kept_sections d) k) → Differ s d k

-- this is the first place at which they differ
pub record DifferFirst (s d : List ℕ) (k : ℕ) : Type 0 where
  pub differ : Differ s d k
  pub first : (n : ℕ) → n < k → Differ s d n → ⊥

-- a section of the file begins in its file header
pub data HidesHeader (b : List ℕ) : Type 0 where
  one : (j : ℕ) → j < section_count b → InHeader b (nth_section b j) → HidesHeader b

-- the two files don't match as a whole
pub data FilesDiffer (s d : List ℕ) : Type 0 where
  kind : OtherKind s d → FilesDiffer s d
  no_sections : section_count d ≡ 0 → FilesDiffer s d
  no_link : section_name s (link_number s) ≢ debug_link → FilesDiffer s d
  in_header : HidesHeader s → FilesDiffer s d

-- the two files don't match, at a place: 0 where they don't as a whole, else the first at which their lists differ
pub data DontMatch (s d : List ℕ) : ℕ → Type 0 where
  files : FilesDiffer s d → DontMatch s d 0
  sections : (k : ℕ) → (FilesDiffer s d → ⊥) → DifferFirst s d k → DontMatch s d k
