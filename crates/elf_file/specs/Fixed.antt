-- Sections that count towards the end of the part of a file that stays.
use Rattle.std.specs.Prelude.{Bool, ◌==◌, ◌&&◌, not}
use Rattle.dw_base.specs.Elf.{is_empty_kind}
use Rattle.dw_base.specs.Layout.{is_alloc}
use Rattle.dw_base.specs.declared.records.Section.{Section}

-- the section is ALLOC, and has bytes in the file
abbrev pub is_loaded_section : Section → Bool
is_loaded_section s = is_alloc s && not (is_empty_kind s) && not (s.size == 0)
