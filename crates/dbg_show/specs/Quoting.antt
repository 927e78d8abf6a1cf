-- How texts and numbers are printed (this project's profile): a text stands in double quotes, and each byte that isn't printable ASCII, or is
-- a double quote or a backslash, as `\x` and two lower-case hexadecimal digits.
use Rattle.std.specs.Prelude.{Bool, false, ℕ, ◌==◌, ◌&&◌, not, nat_lt, nat_le, if◌then◌else◌, List, [], ◌∷◌, ◌++◌, codes}
use Rattle.std.specs.Fmt.{digits}

-- a byte that stands for itself
unfoldable pub is_plain : ℕ → Bool
is_plain b = nat_le 0x20 b && nat_le b 0x7e && not (b == 0x22) && not (b == 0x5c)

-- a byte by two digits
unfoldable pub escaped : ℕ → List ℕ
escaped b = if nat_lt b 0x10 then codes "\\x0" ++ digits 16 false b else codes "\\x" ++ digits 16 false b

unfoldable pub byte_text : ℕ → List ℕ
byte_text b = if is_plain b then b ∷ [] else escaped b

-- the bytes of a text as they are printed
abbrev pub bytes_text : List ℕ → List ℕ
bytes_text [] = []
bytes_text (b ∷ bs) = byte_text b ++ bytes_text bs

-- a text, in its quotes
abbrev pub quoted : List ℕ → List ℕ
quoted text = codes "\"" ++ (bytes_text text ++ codes "\"")
