-- What is wrong with the relocations of the sections that are read: the refusal of kind Relocation (gABI ch. 4 "Relocation", and
-- "Sections" for `sh_link` and `sh_info`). Which of them are refused, and the places, are this project's profile. No row speaks of a file
-- that isn't relocatable. Rows on fields stand with the readers of the fields. What the sections hold is said beside the file, so that the
-- rows serve a debug file that has some of its sections in a stripped one.
use Rattle.std.specs.Prelude.{Bool, true, false, ◌≡◌, ℕ, ◌<◌, ◌≤◌, ◌==◌, ◌&&◌, ◌||◌, nat_lt, List, ◌∷◌, ◌++◌, length, IsTrue, Option, Some, None, is_some}
use Rattle.dw_base.specs.DebugSections.{debug_section, row_of}
use Rattle.dw_base.specs.Elf.{e_type, nth_section, section_count, section_name}
use Rattle.dw_base.specs.Refusals.{at}
use Rattle.dw_base.specs.SectionRelocations.{PlacedRelocation, is_relocation_kind, is_symbol_table, relocates, relocation_section, relocation_source, relocations_in}
use Rattle.dw_base.specs.declared.debug_sections.DebugSection.{DebugSection}
use Rattle.dw_base.specs.declared.debug_sections.DebugSection.TheVariants.{Abbrev, Str, LineStr}
use Rattle.dw_base.specs.declared.elf_numbers.TheConstants.{ET_REL, SHT_SYMTAB, SHT_SYMTAB_SHNDX}
use Rattle.dw_base.specs.declared.fault.Kind.TheVariants.{Relocation as RelocationKind}
use Rattle.dw_base.specs.declared.fault.Refusal.{Refusal}
use Rattle.dw_base.specs.declared.records.Section.{Section}

-- the section of a number is there, and has the name of one that is read
abbrev pub is_read_section : List ℕ → ℕ → Bool
is_read_section b i = nat_lt i (section_count b) && is_some (debug_section (section_name b i))

-- the section of a number holds relocations of one that is read
unfoldable pub relocates_read : List ℕ → ℕ → Bool
relocates_read b i = relocates b (nth_section b i).info i && is_read_section b (nth_section b i).info

-- a section of a type that says something of relocations or symbols
abbrev pub is_own_kind : Section → Bool
is_own_kind s = is_relocation_kind s || s.kind == SHT_SYMTAB || s.kind == SHT_SYMTAB_SHNDX

-- a section that holds texts, in which nothing is relocated
abbrev pub holds_texts : Option DebugSection → Bool
holds_texts (Some Str) = true
holds_texts (Some LineStr) = true
holds_texts s = false

-- the sections whose places change: the tables of texts, and the line tables
abbrev pub moves : Option DebugSection → Bool
moves None = false
moves (Some s) = (row_of s).moves

-- a symbol lies in one of these
abbrev pub lies_in_moving : List ℕ → Option (ℕ × ℕ) → Bool
lies_in_moving b None = false
lies_in_moving b (Some t) = nat_lt t.0 (section_count b) && moves (debug_section (section_name b t.0))

-- two of a list begin at one place
pub record BeginTogether (list : List PlacedRelocation) (first second : PlacedRelocation) : Type 0 where
  pub before : List PlacedRelocation
  pub between : List PlacedRelocation
  pub behind : List PlacedRelocation
  pub both : list ≡ before ++ first ∷ between ++ second ∷ behind
  pub place : first.place ≡ second.place

-- a relocation of a list
pub record IsAmong (list : List PlacedRelocation) (r : PlacedRelocation) : Type 0 where
  pub before : List PlacedRelocation
  pub behind : List PlacedRelocation
  pub is : list ≡ before ++ r ∷ behind

-- what is wrong with the relocations in the section of a number k, of the section of a number i: its link names no symbol table; a
-- relocation begins behind the section's bytes, where another does, or in a table of texts; or, in the abbreviations, which hold no offset,
-- the symbol of one lies in a section whose places change
pub data TableFails (contents : ℕ → List ℕ) (b : List ℕ) (i k : ℕ) : Refusal → Type 0 where
  no_symbols : is_symbol_table b (nth_section b k).link ≡ false → TableFails contents b i k (at RelocationKind i 0)
  past : (r : PlacedRelocation) → IsAmong (relocations_in (relocation_source contents b k)) r → length (contents i) ≤ r.place
      → TableFails contents b i k (at RelocationKind i r.place)
  together : (first second : PlacedRelocation) → BeginTogether (relocations_in (relocation_source contents b k)) first second
      → TableFails contents b i k (at RelocationKind i second.place)
  in_texts : (r : PlacedRelocation) → IsAmong (relocations_in (relocation_source contents b k)) r → IsTrue (holds_texts (debug_section (section_name b i)))
      → TableFails contents b i k (at RelocationKind i r.place)
  in_abbrevs : (r : PlacedRelocation) → IsAmong (relocations_in (relocation_source contents b k)) r → debug_section (section_name b i) ≡ Some Abbrev
      → lies_in_moving b r.relocation.target ≡ true → TableFails contents b i k (at RelocationKind i r.place)

-- what is wrong with a section that is read, of a number: its type says something else of it; two sections hold relocations of it; or the
-- first of them holds some that aren't handled
pub data SectionFails (contents : ℕ → List ℕ) (b : List ℕ) (i : ℕ) : Refusal → Type 0 where
  own_kind : e_type b ≡ ET_REL → IsTrue (is_own_kind (nth_section b i)) → SectionFails contents b i (at RelocationKind i 0)
  second : (j k : ℕ) → j < k → k < section_count b → relocates b i j ≡ true → relocates b i k ≡ true
      → SectionFails contents b i (at RelocationKind i 0)
  table : (k : ℕ) {r : Refusal} → relocation_section b i ≡ Some k → TableFails contents b i k r → SectionFails contents b i r

-- some section that is read has relocations that aren't handled
pub data RelocationSectionsFail (contents : ℕ → List ℕ) (b : List ℕ) : Refusal → Type 0 where
  one : (i : ℕ) {r : Refusal} → IsTrue (is_read_section b i) → SectionFails contents b i r → RelocationSectionsFail contents b r

-- what holds where none does
pub record TableReads (contents : ℕ → List ℕ) (b : List ℕ) (i k : ℕ) : Type 0 where
  pub symbols : is_symbol_table b (nth_section b k).link ≡ true
  pub within : (r : PlacedRelocation) → IsAmong (relocations_in (relocation_source contents b k)) r → r.place < length (contents i)
  pub apart : (first second : PlacedRelocation) → BeginTogether (relocations_in (relocation_source contents b k)) first second → ⊥
  pub no_texts : (r : PlacedRelocation) → IsAmong (relocations_in (relocation_source contents b k)) r → holds_texts (debug_section (section_name b i)) ≡ false
  pub abbrevs : (r : PlacedRelocation) → IsAmong (relocations_in (relocation_source contents b k)) r → debug_section (section_name b i) ≡ Some Abbrev
      → lies_in_moving b r.relocation.target ≡ false

pub record SectionReads (contents : ℕ → List ℕ) (b : List ℕ) (i : ℕ) : Type 0 where
  pub plain_kind : e_type b ≡ ET_REL → is_own_kind (nth_section b i) ≡ false
  pub single : (j k : ℕ) → j < k → k < section_count b → relocates b i j ≡ true → relocates b i k ≡ true → ⊥
  pub tables : (k : ℕ) → relocation_section b i ≡ Some k → TableReads contents b i k

pub record RelocationSectionsRead (contents : ℕ → List ℕ) (b : List ℕ) : Type 0 where
  pub all : (i : ℕ) → IsTrue (is_read_section b i) → SectionReads contents b i
