-- What a file that was read is: its bytes read, and each record is what the bytes spell.
use Rattle.std.specs.Prelude.{◌≡◌, ℕ, ◌≤◌, List, length}
use Rattle.dw_base.specs.Elf.{class_of, order_of, file_kind, e_machine, e_phnum, name_index, section_count, sections_of, segments_of}
use Rattle.dw_base.specs.ElfFails.{DebugReads}
use Rattle.dw_base.specs.Layout.{output_limit}
use Rattle.dw_base.specs.declared.shared.Order.{Order}
use Rattle.dw_base.specs.declared.shared.Class.{Class}
use Rattle.dw_base.specs.declared.records.FileKind.{FileKind}
use Rattle.dw_base.specs.declared.records.Section.{Section}
use Rattle.dw_base.specs.declared.records.Segment.{Segment}

-- the bytes are no more than a file may have, no condition of the kinds Header and Range holds but for segments past the end,
-- and the rest are the records that they spell
pub record IsElf (b : List ℕ) (class : Class) (order : Order) (kind : FileKind) (machine names : ℕ)
    (sections : List Section) (segments : List Segment) : Type 0 where
  pub small : length b ≤ output_limit
  pub reads : DebugReads b
  pub class_is : class ≡ class_of b
  pub order_is : order ≡ order_of b
  pub kind_is : kind ≡ file_kind b
  pub machine_is : machine ≡ e_machine b
  pub names_are : names ≡ name_index b
  pub sections_are : sections ≡ sections_of b
  pub segments_are : segments ≡ segments_of b
  pub section_count_is : length sections ≡ section_count b
  pub segment_count_is : length segments ≡ e_phnum b
