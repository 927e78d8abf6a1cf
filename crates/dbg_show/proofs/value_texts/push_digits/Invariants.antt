use Rattle.std.proofs.Common.{◌≡◌, ◌++◌, take}
use Rattle.std.specs.String.{string_bytes}
use Rattle.dbg_show.specs.UnitTexts.{bytes_digits}
use Rattle.dbg_show.proofs.value_texts.push_digits.Given as goal

-- the bytes so far were appended
abbrev pub invariant-loop-byte : goal.invariant-loop-byte
invariant-loop-byte l = string_bytes l.text ≡ string_bytes l.fn.text ++ bytes_digits (take l.byte-index l.bytes)
