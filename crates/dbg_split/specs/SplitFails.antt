-- What refuses a file that is to be split. Each constructor is a row, named by what is wrong, and its conclusion has the place
-- that the refusal names. Beside the rows of every ELF file stand those that hold only where a file is split: this project's
-- profile.
use Rattle.std.specs.Prelude.{Bool, false, ◌≡◌, ◌≢◌, ℕ, zero, suc, ◌<◌, ◌&&◌, ◌||◌, not, List, length, IsTrue}
use Rattle.dw_base.specs.Elf.{class_of, shstrndx_place, nth_section, section_count, section_name, name_index, is_empty_kind}
use Rattle.dw_base.specs.ElfFails.{ElfFails, ElfReads}
use Rattle.dw_base.specs.Layout.{is_alloc, is_fixed, is_loaded_kind}
use Rattle.dw_base.specs.LayoutFails.{BeginsInHeader, LiesAcross, TooLong}
use Rattle.dw_base.specs.Refusals.{at}
use Rattle.dw_base.specs.SectionNames.{debug_link}
use Rattle.dw_base.specs.Texts.{same_text}
use Rattle.dw_base.specs.declared.fault.Kind.TheVariants.{Header, Fixed, Twice, FileType}
use Rattle.dw_base.specs.declared.fault.Refusal.{Refusal}
use Rattle.dbg_split.specs.DebugFile.{debug_file}
use Rattle.dbg_split.specs.Droppable.{is_droppable}
use Rattle.dbg_split.specs.ReadNames.{is_read_name}
use Rattle.dbg_split.specs.StrippedFile.{stripped_file}

-- one of the first n sections is droppable
abbrev pub drops_before : List ℕ → ℕ → Bool
drops_before b zero = false
drops_before b (suc n) = drops_before b n || is_droppable b n

-- the section is read for debug data, has bytes, and is in the image of the running program
abbrev pub is_loaded_data : List ℕ → ℕ → Bool
is_loaded_data b i = is_alloc (nth_section b i) && not (is_empty_kind (nth_section b i)) && is_read_name (section_name b i)

-- the section is in the image of the running program, and stands behind a droppable one
abbrev pub is_loaded_behind : List ℕ → ℕ → Bool
is_loaded_behind b i = is_alloc (nth_section b i) && drops_before b i

-- the section is a link to a debug file
unfoldable pub is_link : List ℕ → ℕ → Bool
is_link b i = same_text (section_name b i) debug_link

-- a section, of a number, keeps the file from being split
pub data SectionBars (b : List ℕ) (i : ℕ) : Refusal → Type 0 where
  across : LiesAcross b (nth_section b i) → SectionBars b i (at Fixed i 0)
  in_header : BeginsInHeader b (nth_section b i) → SectionBars b i (at Fixed i 0)
  loaded : IsTrue (is_loaded_data b i) → SectionBars b i (at Fixed i 0)
  behind : IsTrue (is_loaded_behind b i) → SectionBars b i (at Fixed i 0)
  linked : IsTrue (is_link b i) → SectionBars b i (at Twice i 0)

-- every row that doesn't speak of the files that would be written
pub data Unsplittable (b : List ℕ) : Refusal → Type 0 where
  file_type : is_loaded_kind b ≡ false → Unsplittable b (at FileType 0 16)
  unnamed : name_index b ≡ 0 → Unsplittable b (at Header 0 (shstrndx_place (class_of b)))
  names_stay : name_index b ≢ 0 → IsTrue (is_fixed b (nth_section b (name_index b))) → Unsplittable b (at Fixed (name_index b) 0)
  section : (i : ℕ) {r : Refusal} → i < section_count b → SectionBars b i r → Unsplittable b r

-- every row
pub data SplitFails (b name : List ℕ) : Refusal → Type 0 where
  elf : {r : Refusal} → ElfFails b r → SplitFails b name r
  shape : {r : Refusal} → ElfReads b → Unsplittable b r → SplitFails b name r
  long_debug : {r : Refusal} → ElfReads b → TooLong (length (debug_file b)) r → SplitFails b name r
  long_stripped : {r : Refusal} → ElfReads b → TooLong (length (stripped_file b name)) r → SplitFails b name r
