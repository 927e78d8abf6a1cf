-- A file that was split comes back where the two files are joined: its sections, what it means, and what is loaded (gABI ch. 4
-- "Sections"; GNU debugging information in separate files). Where a section stands isn't promised.
use Rattle.std.specs.Prelude.{false, ◌≡◌, ℕ, ◌<◌, ◌≤◌, List, length, slice_index}
use Rattle.dw_base.specs.Elf.{class_of, order_of, contents_of, e_machine, e_type, name_index, nth_section, section_count, section_name}
use Rattle.dw_base.specs.ElfFails.{ElfReads}
use Rattle.dw_base.specs.FileViews.{view_of}
use Rattle.dw_base.specs.Layout.{output_limit}
use Rattle.dw_base.specs.Texts.{has_nul}
use Rattle.dw_base.specs.ViewData.{Meaning}
use Rattle.dw_base.specs.declared.fault.Refusal.{Refusal}
use Rattle.dw_base.specs.declared.records.Section.{Section}
use Rattle.dw_meaning.specs.FileMeanings.{Means}
use Rattle.dw_meaning.specs.Loaded.{LoadedKept}
use Rattle.dbg_split.specs.DebugFile.{debug_file}
use Rattle.dbg_split.specs.SplitFails.{SplitFails}
use Rattle.dbg_split.specs.StrippedFile.{stripped_file}

-- the two files are those into which the bytes `b` are split under a base name without NUL, and nothing refuses that
pub record WasSplit (b name s d : List ℕ) : Type 0 where
  pub small : length b ≤ output_limit
  pub bytes : (k : ℕ) → slice_index b k < 256
  pub splits : (r : Refusal) → SplitFails b name r → ⊥
  pub plain : has_nul name ≡ false
  pub stripped : s ≡ stripped_file b name
  pub debug : d ≡ debug_file b

-- two section headers are the same but for the place of the section
pub record SameButOffset (old new : Section) : Type 0 where
  pub name : new.name ≡ old.name
  pub kind : new.kind ≡ old.kind
  pub flags : new.flags ≡ old.flags
  pub addr : new.addr ≡ old.addr
  pub size : new.size ≡ old.size
  pub link : new.link ≡ old.link
  pub info : new.info ≡ old.info
  pub align : new.align ≡ old.align
  pub entry_size : new.entry_size ≡ old.entry_size

-- the file `out` has the sections of the file `b` under their numbers, reads as an ELF file, means what that means and nothing else,
-- wherever it means something, and has what is loaded of it
pub record IsRejoined (b out : List ℕ) : Type 0 where
  pub reads : ElfReads out
  pub class_is : class_of out ≡ class_of b
  pub order_is : order_of out ≡ order_of b
  pub type_is : e_type out ≡ e_type b
  pub machine_is : e_machine out ≡ e_machine b
  pub count : section_count out ≡ section_count b
  pub named : name_index out ≡ name_index b
  pub heads : (i : ℕ) → i < section_count b → SameButOffset (nth_section b i) (nth_section out i)
  pub names : (i : ℕ) → i < section_count b → section_name out i ≡ section_name b i
  pub contents : (i : ℕ) → i < section_count b → contents_of out i ≡ contents_of b i
  pub view : view_of out ≡ view_of b
  pub means : (x : Meaning) → Means b x → Means out x
  pub one : (x y : Meaning) → Means b x → Means out y → y ≡ x
  pub loaded : LoadedKept b out
