-- Words to spell files by their parts, and the map of the worked files.
use Rattle.std.proofs.Common.{ℕ, ◌+◌, List, [], ◌∷◌, ◌++◌, length, take, drop, replicate, codes}
use Rattle.byteorder.specs.Endian.{little_bytes}
use Rattle.dw_base.specs.Numbers.{number_bytes}
use Rattle.dw_base.specs.Paths.{PathMap}
use Rattle.dw_base.specs.declared.shared.Order.{Order}

-- the map of the worked files
abbrev pub worked_map : PathMap
worked_map = record { pairs = record { base = codes "/build/p"; dest = codes "/usr/src/debug/p" } ∷ [] }

-- numbers of one size, one after another
abbrev pub numbers : Order → ℕ → List ℕ → List ℕ
numbers order size [] = []
numbers order size (n ∷ ns) = number_bytes order size n ++ numbers order size ns

-- numbers of 2, 4 and 8 bytes, the lowest byte first
abbrev pub half : ℕ → List ℕ
half n = little_bytes 2 n

abbrev pub word : ℕ → List ℕ
word n = little_bytes 4 n

abbrev pub wide : ℕ → List ℕ
wide n = little_bytes 8 n

-- a 64-bit file header for machine 62 without program headers: type, place and number of section headers, name index
abbrev pub file_header : ℕ → ℕ → ℕ → ℕ → List ℕ
file_header kind shoff shnum names =
    (127 ∷ codes "ELF" ++ 2 ∷ 1 ∷ 1 ∷ replicate 9 0) ++ half kind ++ half 62 ++ word 1 ++ wide 0 ++ wide 0 ++ wide shoff
    ++ word 0 ++ half 64 ++ half 0 ++ half 0 ++ half 64 ++ half shnum ++ half names

-- a 64-bit section header: name, type, flags, offset, size, alignment
abbrev pub section_header : ℕ → ℕ → ℕ → ℕ → ℕ → ℕ → List ℕ
section_header name kind flags offset size align =
    word name ++ word kind ++ wide flags ++ wide 0 ++ wide offset ++ wide size ++ word 0 ++ word 0 ++ wide align ++ wide 0

-- words one after another
abbrev pub words : List ℕ → List ℕ
words [] = []
words (n ∷ ns) = word n ++ words ns

-- a unit of version 4 with one entry: length, place of its abbreviations, code, offsets
abbrev pub unit : ℕ → ℕ → List ℕ → List ℕ → List ℕ
unit length table code offsets = word length ++ half 4 ++ word table ++ (8 ∷ code) ++ words offsets

-- the bytes of pieces, one after another
abbrev pub all_bytes : List (List ℕ) → List ℕ
all_bytes [] = []
all_bytes (p ∷ ps) = p ++ all_bytes ps

-- a file with other bytes at a place
abbrev pub changed : ℕ → List ℕ → List ℕ → List ℕ
changed at xs b = take at b ++ xs ++ drop (at + length xs) b
