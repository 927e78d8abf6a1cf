-- The line of a row of a line table.
use Rattle.std.specs.Prelude.{Bool, false, ℕ, if◌then◌else◌, List, [], ◌∷◌, ◌++◌, ◌||◌, codes, Option, Some, None}
use Rattle.std.specs.Fmt.{decimal, digits}
use Rattle.dw_base.specs.LineMeanings.{ShownFile, named, unnamed, ShownRow}
use Rattle.dw_base.specs.declared.line_rows.Row.{Row}
use Rattle.dbg_show.specs.Quoting.{quoted}

-- symbol and type of the relocation that gave an address, where one did
unfoldable pub symbol_text : Option (ℕ × ℕ) → List ℕ
symbol_text None = []
symbol_text (Some s) = codes " symbol " ++ (decimal s.0 ++ (codes " type " ++ decimal s.1))

-- a letter where a flag is set
abbrev pub letter : Bool → List ℕ → List ℕ
letter flag text = if flag then text else []

-- some flag of a row is set
unfoldable pub is_flagged : Row → Bool
is_flagged r = r.stmt || r.block || r.prologue_end || r.epilogue_begin || r.end

-- the letters of the flags of a row, or a dash
unfoldable pub letters : Row → List ℕ
letters r =
    letter r.stmt (codes "s") ++ (letter r.block (codes "b") ++ (letter r.prologue_end (codes "p")
    ++ (letter r.epilogue_begin (codes "e") ++ letter r.end (codes "x"))))

unfoldable pub flags_text : Row → List ℕ
flags_text r = if is_flagged r then letters r else codes "-"

-- the file of a row: the texts of its directory and of itself, or its number
unfoldable pub shown_text : ShownFile → List ℕ
shown_text (named dir path) = quoted dir ++ (codes " " ++ quoted path)
shown_text (unnamed i) = codes "#" ++ decimal i

-- the address of a row
unfoldable pub address_text : ℕ → List ℕ
address_text address = codes "row 0x" ++ digits 16 false address

-- its operation, in front of the file
unfoldable pub operation_text : ℕ → List ℕ
operation_text index = codes " op " ++ (decimal index ++ codes " file ")

-- what stands in front of the file
unfoldable pub row_front : Row → List ℕ
row_front r = address_text r.address ++ (symbol_text r.symbol ++ operation_text r.op_index)

-- line and column, in front of the flags
unfoldable pub place_text : ℕ → ℕ → List ℕ
place_text line column = codes " line " ++ (decimal line ++ (codes " column " ++ (decimal column ++ codes " flags ")))

-- instruction set and discriminator, up to the end of the line
unfoldable pub set_text : ℕ → ℕ → List ℕ
set_text isa discriminator = codes " isa " ++ (decimal isa ++ (codes " disc " ++ (decimal discriminator ++ codes "\n")))

-- what stands behind the file
unfoldable pub row_back : Row → List ℕ
row_back r = place_text r.line r.column ++ (flags_text r ++ set_text r.isa r.discriminator)

-- a row
unfoldable pub row_text : ShownRow → List ℕ
row_text s = row_front s.registers ++ (shown_text s.file ++ row_back s.registers)

abbrev pub rows_text : List ShownRow → List ℕ
rows_text [] = []
rows_text (s ∷ ss) = row_text s ++ rows_text ss
