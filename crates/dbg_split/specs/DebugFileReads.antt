-- What reads back from a debug file: it has the sections of the file that was split under their numbers, with their names;
-- those that have bytes in it have their own (gABI ch. 4 "Sections", "String Table"; GNU debugging information in separate
-- files).
use Rattle.std.specs.Prelude.{true, false, ◌≡◌, ℕ, ◌<◌, List}
use Rattle.dw_base.specs.Elf.{class_of, order_of, nth_section, section_count, section_name, name_index, contents_of, is_empty_kind}
use Rattle.dw_base.specs.ElfFails.{DebugReads}
use Rattle.dw_base.specs.LayoutReads.{SameButPlace}
use Rattle.dbg_split.specs.DebugFile.{becomes_nobits, debug_head}

-- the file `out` reads as an ELF file of debug data, and has the sections of the file `b`: each header is the one that is
-- defined for it, but for place and size of one that has bytes
pub record ReadsDebug (b out : List ℕ) : Type 0 where
  pub reads : DebugReads out
  pub class_is : class_of out ≡ class_of b
  pub order_is : order_of out ≡ order_of b
  pub count : section_count out ≡ section_count b
  pub named : name_index out ≡ name_index b
  pub heads : (i : ℕ) → i < section_count b → SameButPlace (debug_head b i) (nth_section out i)
  pub stays : (i : ℕ) → i < section_count b → is_empty_kind (debug_head b i) ≡ true → nth_section out i ≡ debug_head b i
  pub names : (i : ℕ) → i < section_count b → section_name out i ≡ section_name b i
  pub contents : (i : ℕ) → i < section_count b → becomes_nobits b i ≡ false → contents_of out i ≡ contents_of b i
