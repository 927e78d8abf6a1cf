-- The modes of files that a split makes. This project's profile.
use Rattle.std.specs.Prelude.{ℕ, bit_and}

-- a mode with the bits of 0o111 cleared: no one may execute the file
abbrev pub not_executable : ℕ → ℕ
not_executable mode = bit_and mode 4294967222
