-- What holds of a file that can be split, where no condition refuses it: this project's profile.
use Rattle.std.specs.Prelude.{true, false, ◌≡◌, ◌≢◌, ℕ, ◌<◌, ◌≤◌, List, length}
use Rattle.dw_base.specs.Elf.{name_index, nth_section, section_count}
use Rattle.dw_base.specs.ElfFails.{ElfReads}
use Rattle.dw_base.specs.Layout.{is_fixed, is_loaded_kind, output_limit}
use Rattle.dw_base.specs.LayoutFails.{BeginsInHeader, LiesAcross}
use Rattle.dbg_split.specs.DebugFile.{debug_file}
use Rattle.dbg_split.specs.SplitFails.{is_link, is_loaded_behind, is_loaded_data}
use Rattle.dbg_split.specs.StrippedFile.{stripped_file}

-- a section, of a number, doesn't keep the file from being split
pub record LetsSplit (b : List ℕ) (i : ℕ) : Type 0 where
  pub across : LiesAcross b (nth_section b i) → ⊥
  pub in_header : BeginsInHeader b (nth_section b i) → ⊥
  pub unloaded : is_loaded_data b i ≡ false
  pub not_behind : is_loaded_behind b i ≡ false
  pub unlinked : is_link b i ≡ false

-- the file is one that is loaded, and has a section name table that may change; no section keeps it from being split
pub record CanDivide (b : List ℕ) : Type 0 where
  pub loaded : is_loaded_kind b ≡ true
  pub named : name_index b ≢ 0
  pub names_move : is_fixed b (nth_section b (name_index b)) ≡ false
  pub sections : (i : ℕ) → i < section_count b → LetsSplit b i

-- the file can be split into two, of which the debug file has this name: its records can be read, and neither of the two is too long
pub record CanSplit (b name : List ℕ) : Type 0 where
  pub reads : ElfReads b
  pub divides : CanDivide b
  pub debug_fits : length (debug_file b) ≤ output_limit
  pub stripped_fits : length (stripped_file b name) ≤ output_limit
