-- Opcodes of a line program that are passed in a run, since they define no file: special and standard ones, and those that set a discriminator.
use Rattle.std.specs.Prelude.{Bool, ◌≡◌, ◌||◌, ◌==◌, ℕ, ℤ, ◌+◌, List, Some, None}
use Rattle.dw_base.specs.Lebs.{sleb_at, uleb_at}
use Rattle.dw_base.specs.LinePrograms.{next_opcode, opcode_at}
use Rattle.dw_base.specs.Walks.{Walks}
use Rattle.dw_base.specs.declared.line_numbers.TheConstants.{DW_LNS_advance_line, DW_LNS_advance_pc, DW_LNS_copy, DW_LNS_negate_stmt, DW_LNS_set_basic_block, DW_LNS_set_column, DW_LNS_set_epilogue_begin, DW_LNS_set_file, DW_LNS_set_isa, DW_LNS_set_prologue_end}
use Rattle.dw_base.specs.declared.line_tables.FilePlace.{FilePlace}
use Rattle.dw_base.specs.declared.line_tables.LineHeader.{LineHeader}

-- an opcode that defines no file stands at a place, and ends at another
pub record IsPlain (h : LineHeader) (table : List ℕ) (place next : ℕ) : Type 0 where
  pub each : (section : ℕ) → opcode_at section h table place ≡ Some (record { next = next; file = None })

-- such opcodes lead from a place to another, whatever files were defined
pub record PassesPlain (h : LineHeader) (table : List ℕ) (from place : ℕ) : Type 0 where
  pub each : (section : ℕ) (files : List FilePlace) → Walks (next_opcode section h table) (files, from) (files, place)

-- standard opcodes without operands that don't divide by the line range
abbrev pub is_bare : ℕ → Bool
is_bare opcode =
    opcode == DW_LNS_copy || opcode == DW_LNS_negate_stmt || opcode == DW_LNS_set_basic_block || opcode == DW_LNS_set_prologue_end || opcode == DW_LNS_set_epilogue_begin

-- standard opcodes with one number of LEB128
abbrev pub has_leb : ℕ → Bool
has_leb opcode =
    opcode == DW_LNS_advance_pc || opcode == DW_LNS_advance_line || opcode == DW_LNS_set_file || opcode == DW_LNS_set_column || opcode == DW_LNS_set_isa

-- a number of LEB128 from a place up to another, unsigned or signed
pub record IsShort (table : List ℕ) (place next : ℕ) : Type 0 where
  pub size : ℕ
  pub next_is : next ≡ place + size
  pub unsigned_value : ℕ
  pub unsigned : uleb_at table place ≡ Some (unsigned_value, size)
  pub signed_value : ℤ
  pub signed : sleb_at table place ≡ Some (signed_value, size)
