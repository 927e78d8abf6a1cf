use Rattle.std.proofs.Common.{◌≡◌, ◌++◌, take, drop}
use Rattle.dw_base.specs.Texts.{text}
use Rattle.elf_file.proofs.names.text_len.Given as goal

-- no NUL stands before here
abbrev pub invariant-loop-i : goal.invariant-loop-i
invariant-loop-i l = text l.bytes ≡ take l.i l.bytes ++ text (drop l.i l.bytes)
