use Rattle.std.proofs.Common.{◌≡◌, ◌++◌, take}
use Rattle.std.specs.String.{string_bytes}
use Rattle.dbg_show.specs.Quoting.{bytes_text}
use Rattle.dbg_show.proofs.quoting.push_bytes.Given as goal

-- the bytes so far were appended
abbrev pub invariant-loop-byte : goal.invariant-loop-byte
invariant-loop-byte l = string_bytes l.text ≡ string_bytes l.fn.text ++ bytes_text (take l.byte-index l.bytes)
