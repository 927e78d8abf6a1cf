-- What reads back from a stripped file: its sections are the kept ones, in order, and the link behind them (gABI ch. 4
-- "Sections", "String Table"; GNU debugging information in separate files).
use Rattle.std.specs.Prelude.{true, false, ◌≡◌, ◌≢◌, ℕ, ◌+◌, ◌<◌, ◌≤◌, List, [], ◌∷◌, ◌++◌}
use Rattle.dw_base.specs.Elf.{class_of, order_of, nth_section, section_count, section_name, name_index, contents_of, is_empty_kind}
use Rattle.dw_base.specs.ElfFails.{ElfReads}
use Rattle.dw_base.specs.Layout.{fixed_end, is_fixed}
use Rattle.dw_base.specs.SectionNames.{debug_link}
use Rattle.dw_base.specs.declared.records.Section.{Section}
use Rattle.debug_link.specs.Links.{link_of}
use Rattle.debug_link.specs.Sums.{crc32}
use Rattle.dbg_split.specs.DebugFile.{debug_file}
use Rattle.dbg_split.specs.Droppable.{is_droppable}
use Rattle.dbg_split.specs.StrippedFile.{kept_before, stripped_head}

-- the section of a number is kept
pub record IsKept (b : List ℕ) (i : ℕ) : Type 0 where
  pub there : i < section_count b
  pub kept : is_droppable b i ≡ false

-- the header of a kept section, of a number: it is as it was, but for place, size, and the numbers of sections in it. Of one
-- that stays, place and size are as they were, too, and one that moves stands behind the fixed end. Section 0 may have the
-- number of sections and that of the name table in its size and its link.
pub record IsKeptHead (b : List ℕ) (i : ℕ) (new : Section) : Type 0 where
  pub kind : new.kind ≡ (nth_section b i).kind
  pub flags : new.flags ≡ (nth_section b i).flags
  pub addr : new.addr ≡ (nth_section b i).addr
  pub link : 0 < i → new.link ≡ (stripped_head b (nth_section b i)).link
  pub info : new.info ≡ (stripped_head b (nth_section b i)).info
  pub align : new.align ≡ (nth_section b i).align
  pub entry_size : new.entry_size ≡ (nth_section b i).entry_size
  pub offset : is_fixed b (nth_section b i) ≡ true → new.offset ≡ (nth_section b i).offset
  pub size : 0 < i → is_fixed b (nth_section b i) ≡ true → new.size ≡ (nth_section b i).size
  pub behind : is_fixed b (nth_section b i) ≡ false → is_empty_kind (nth_section b i) ≡ false → fixed_end b ≤ new.offset

-- the file `out` reads as an ELF file, and has the kept sections of the file `b`, each with its name and its contents, but
-- for the section name table, which has one name more, and the link to a debug file of this base name
pub record ReadsStripped (b name out : List ℕ) : Type 0 where
  pub reads : ElfReads out
  pub class_is : class_of out ≡ class_of b
  pub order_is : order_of out ≡ order_of b
  pub count : section_count out ≡ kept_before b (section_count b) + 1
  pub named : name_index out ≡ kept_before b (name_index b)
  pub heads : (i : ℕ) → IsKept b i → IsKeptHead b i (nth_section out (kept_before b i))
  pub names : (i : ℕ) → IsKept b i → section_name out (kept_before b i) ≡ section_name b i
  pub contents : (i : ℕ) → IsKept b i → i ≢ name_index b → contents_of out (kept_before b i) ≡ contents_of b i
  pub name_table : contents_of out (kept_before b (name_index b)) ≡ contents_of b (name_index b) ++ (debug_link ++ 0 ∷ [])
  pub link_name : section_name out (kept_before b (section_count b)) ≡ debug_link
  pub link : contents_of out (kept_before b (section_count b)) ≡ link_of (order_of b) name (crc32 (debug_file b))
