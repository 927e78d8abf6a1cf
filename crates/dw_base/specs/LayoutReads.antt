-- What reads back from a file that was written with new section bodies: this project's profile, in the words of the
-- gABI's records (ch. 4 "ELF Header", "Sections", "String Table"; ch. 5 "Program Header").
use Rattle.std.specs.Prelude.{Bool, true, false, ◌≡◌, ◌≢◌, ℕ, ◌<◌, ◌≤◌, ◌==◌, ◌||◌, List, take}
use Rattle.dw_base.specs.Elf.{class_of, order_of, word_size, shoff_place, e_type, e_machine, e_shoff, nth_section, section_count, name_index, segments_of, contents_of, is_empty_kind}
use Rattle.dw_base.specs.ElfFails.{ElfReads}
use Rattle.dw_base.specs.Layout.{fixed_end, is_fixed, is_loaded_kind}
use Rattle.dw_base.specs.Numbers.{with_number}
use Rattle.dw_base.specs.Texts.{ends_in}
use Rattle.dw_base.specs.declared.records.Section.{Section}
use Rattle.dw_base.specs.declared.elf_numbers.TheConstants.{ET_REL}

-- two section headers are the same but for their place and size
pub record SameButPlace (old new : Section) : Type 0 where
  pub name : new.name ≡ old.name
  pub kind : new.kind ≡ old.kind
  pub flags : new.flags ≡ old.flags
  pub addr : new.addr ≡ old.addr
  pub link : new.link ≡ old.link
  pub info : new.info ≡ old.info
  pub align : new.align ≡ old.align
  pub entry_size : new.entry_size ≡ old.entry_size

-- the file is relocatable, or one that is loaded as it stands
abbrev pub is_known_kind : List ℕ → Bool
is_known_kind b = e_type b == ET_REL || is_loaded_kind b

-- the name of each section ends in the new body of the section name table
pub record NamesEnd (b : List ℕ) (bodies : ℕ → List ℕ) : Type 0 where
  pub ends : (i : ℕ) → i < section_count b → name_index b ≢ 0 → ends_in (bodies (name_index b)) (nth_section b i).name ≡ true

-- the file `out` has the sections of the file `b`, with these bodies. Its sections have their numbers, and their
-- headers but for place and size: of one that stays the header is as it was, and one that is laid out anew stands behind
-- the fixed end. What stands before the fixed end is as it was, but for the place of the section headers; and it reads as
-- a file where the names end.
pub record ReadsBack (b : List ℕ) (bodies : ℕ → List ℕ) (out : List ℕ) : Type 0 where
  pub class : class_of out ≡ class_of b
  pub order : order_of out ≡ order_of b
  pub kind : e_type out ≡ e_type b
  pub machine : e_machine out ≡ e_machine b
  pub count : section_count out ≡ section_count b
  pub names : name_index out ≡ name_index b
  pub heads : (i : ℕ) → i < section_count b → SameButPlace (nth_section b i) (nth_section out i)
  pub stays : (i : ℕ) → i < section_count b → is_fixed b (nth_section b i) ≡ true → nth_section out i ≡ nth_section b i
  pub behind : (i : ℕ) → i < section_count b → is_empty_kind (nth_section b i) ≡ false → is_fixed b (nth_section b i) ≡ false
      → fixed_end b ≤ (nth_section out i).offset
  pub contents : (i : ℕ) → i < section_count b → contents_of out i ≡ bodies i
  pub front : take (fixed_end b) out
      ≡ with_number (order_of b) (take (fixed_end b) b) (shoff_place (class_of b)) (word_size (class_of b)) (e_shoff out)
  pub segments : is_known_kind b ≡ true → segments_of out ≡ segments_of b
  pub reads : is_known_kind b ≡ true → NamesEnd b bodies → ElfReads out
