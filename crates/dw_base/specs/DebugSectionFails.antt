-- What is wrong with the sections of a file, by their names and flags, and with its type: the refusals of kinds Compressed,
-- Supplementary, SplitDwarf, UnknownDebug, Twice and FileType. Each constructor is a row, named by what is wrong, and its
-- conclusion has the place that the refusal names; beside each group stands the record of what holds where no row of it does.
-- A header of type NULL is inactive (gABI ch. 4 "Sections", `sh_type`), so no row speaks of one. Which names are listed is
-- the table's; that others are refused, and a second section of one name, is this project's profile. Rows that hold only
-- where a file is split are among those of splitting.
use Rattle.std.specs.Prelude.{Bool, true, false, ◌≡◌, ◌≢◌, ℕ, ◌<◌, ◌==◌, ◌&&◌, ◌||◌, not, nat_eq, bit_and, codes, List, IsTrue, Option, Some, None}
use Rattle.std.specs.List.{starts_with, ends_with}
use Rattle.dw_base.specs.DebugSections.{row_of, debug_section, is_listed}
use Rattle.dw_base.specs.Elf.{e_type, nth_section, section_count, section_name, name_index}
use Rattle.dw_base.specs.Layout.{is_loaded_kind}
use Rattle.dw_base.specs.Refusals.{at}
use Rattle.dw_base.specs.SectionNames.{debug_prefix, zdebug_prefix, debug_altlink}
use Rattle.dw_base.specs.Texts.{same_text}
use Rattle.dw_base.specs.declared.debug_sections.DebugSection.{DebugSection}
use Rattle.dw_base.specs.declared.elf_numbers.TheConstants.{ET_REL, SHF_COMPRESSED, SHT_NULL}
use Rattle.dw_base.specs.declared.fault.Kind.TheVariants.{Compressed, Supplementary, SplitDwarf, UnknownDebug, Twice, FileType}
use Rattle.dw_base.specs.declared.fault.Refusal.{Refusal}
use Rattle.dw_base.specs.declared.records.Section.{Section}

-- the header isn't inactive
abbrev pub is_active : Section → Bool
is_active s = not (s.kind == SHT_NULL)

-- the name of a section of debug data
abbrev pub is_debug_name : List ℕ → Bool
is_debug_name name = starts_with nat_eq name debug_prefix

-- the name of a section of compressed debug data of the older kind, before gABI had the flag COMPRESSED
abbrev pub is_zdebug_name : List ℕ → Bool
is_zdebug_name name = starts_with nat_eq name zdebug_prefix

-- the name of a section that names a supplementary file (DWARF 5, 7.3.6), or of the older link to one
abbrev pub is_supplementary_name : List ℕ → Bool
is_supplementary_name name = same_text name debug_altlink || same_text name (codes ".debug_sup")

-- the name of a section of split debug data, or of the index of a package of them (DWARF 5, 7.3.2 and 7.3.5)
abbrev pub is_split_name : List ℕ → Bool
is_split_name name =
    is_debug_name name
    && (ends_with nat_eq name (codes ".dwo") || same_text name (codes ".debug_cu_index") || same_text name (codes ".debug_tu_index"))

-- a section, of a name and a number, is one that isn't handled
pub data NameFails (name : List ℕ) (s : Section) (i : ℕ) : Refusal → Type 0 where
  compressed : IsTrue (is_debug_name name) → bit_and s.flags SHF_COMPRESSED ≢ 0 → NameFails name s i (at Compressed i 0)
  zdebug : IsTrue (is_zdebug_name name) → NameFails name s i (at Compressed i 0)
  supplementary : IsTrue (is_supplementary_name name) → NameFails name s i (at Supplementary i 0)
  split : IsTrue (is_split_name name) → NameFails name s i (at SplitDwarf i 0)
  unlisted : IsTrue (is_debug_name name) → is_listed name ≡ false → is_split_name name ≡ false → NameFails name s i (at UnknownDebug i 0)

pub record NameReads (name : List ℕ) (s : Section) : Type 0 where
  pub plain : IsTrue (is_debug_name name) → bit_and s.flags SHF_COMPRESSED ≡ 0
  pub not_zdebug : is_zdebug_name name ≡ false
  pub not_supplementary : is_supplementary_name name ≡ false
  pub not_split : is_split_name name ≡ false
  pub listed : IsTrue (is_debug_name name) → is_listed name ≡ true

abbrev pub repeats_by : Option DebugSection → Bool
repeats_by None = false
repeats_by (Some s) = (row_of s).repeats

-- a file may have several sections of this name: it is relocatable, and the table says so
abbrev pub may_repeat : List ℕ → List ℕ → Bool
may_repeat b name = e_type b == ET_REL && repeats_by (debug_section name)

-- a section, of a number, has the listed name of one before it
pub record IsSecond (b : List ℕ) (i j : ℕ) : Type 0 where
  pub before : i < j
  pub first_active : IsTrue (is_active (nth_section b i))
  pub active : IsTrue (is_active (nth_section b j))
  pub same : section_name b i ≡ section_name b j
  pub listed : IsTrue (is_listed (section_name b j))
  pub single : may_repeat b (section_name b j) ≡ false

-- the sections of a file, and its type, are none that are handled
pub data DebugSectionsFail (b : List ℕ) : Refusal → Type 0 where
  file_type : e_type b ≢ ET_REL → is_loaded_kind b ≡ false → DebugSectionsFail b (at FileType 0 16)
  named : (i : ℕ) {r : Refusal} → i < section_count b → IsTrue (is_active (nth_section b i))
      → NameFails (section_name b i) (nth_section b i) i r → DebugSectionsFail b r
  twice : (i j : ℕ) → j < section_count b → IsSecond b i j → DebugSectionsFail b (at Twice j 0)
  name_table : name_index b ≢ 0 → IsTrue (is_listed (section_name b (name_index b))) → DebugSectionsFail b (at Twice (name_index b) 0)

pub record DebugSectionsRead (b : List ℕ) : Type 0 where
  pub file_type : IsTrue (e_type b == ET_REL || is_loaded_kind b)
  pub named : (i : ℕ) → i < section_count b → IsTrue (is_active (nth_section b i)) → NameReads (section_name b i) (nth_section b i)
  pub once : (i j : ℕ) → j < section_count b → IsSecond b i j → ⊥
  pub apart : name_index b ≢ 0 → is_listed (section_name b (name_index b)) ≡ false
