-- The string offsets of name tables are the fields of the pieces of name tables.
use Rattle.std.proofs.Common.{◌≡◌, ℕ, zero, suc, ◌+◌, ◌-◌, ◌*◌, ◌≤◌, List, [], ◌∷◌, ◌++◌, length, take, drop, refl, sym, ap, ◌∙◌, subst, arith, append_assoc, append-nil}
use Rattle.std.specs.Bool.{⊤}
use Rattle.dw_base.specs.Cells.{Cell, bytes_of}
use Rattle.dw_base.specs.FileViews.{View}
use Rattle.dw_base.specs.Forms.{width_size}
use Rattle.dw_base.specs.NameHeaders.{from_strings}
use Rattle.dw_base.specs.NamePieces.{NameState, ReadsNames, at_rest, at_string, at_table, before_strings_of, name_grammar, names_at}
use Rattle.dw_base.specs.NameTables.{IsNameTable, TablesUpTo, more_tables, no_tables}
use Rattle.dw_base.specs.Pieces.{Piece}
use Rattle.dw_base.specs.RelocationRows.{FieldPlace, field_place, name_field, name_fields, offset_field}
use Rattle.dw_base.specs.declared.name_tables.NameCounts.{NameCounts}
use Rattle.dw_base.specs.declared.name_tables.NameTable.{NameTable}
use Rattle.dw_base.specs.declared.shared.Order.{Order}
use Rattle.dw_base.specs.declared.shared.Width.{Width}
use Rattle.dw_base.specs.declared.shared.Width.TheVariants.{W32, W64}
use Rattle.dw_base.proofs.RunLaws.{part-length}
use Rattle.dw_base.proofs.UnitEditLaws.{length-bytes_of}
use Rattle.dw_offsets.proofs.NamePieceLaws.{Parts, counts_of, front-next, front-piece, front_size, parts-of}
use Rattle.dw_relocs.specs.FieldRows.{TablesFrom, row_field, row_fields, tables_fields}
use Rattle.dw_meaning.specs.PieceRuns.{all_of}
use Rattle.dw_meaning.proofs.RunLaws.{PieceRun, run-more, run-none, run-one, run-whole}

-- nothing is asked of a piece
abbrev any_name : Piece NameState → Type 0
any_name x = ⊤

-- the fields of a piece
abbrev pub name_piece : Piece NameState → List FieldPlace
name_piece x = name_field x.state.mode x.state.place

pub name_fields-are : (xs : List (Piece NameState)) → name_fields xs ≡ all_of name_piece xs
name_fields-are [] = refl
name_fields-are (x ∷ xs) = ap (λ (l : List FieldPlace). name_field x.state.mode x.state.place ++ l) (name_fields-are xs)

-- so many string offsets, from a place on
abbrev strings_from : Width → ℕ → ℕ → List FieldPlace
strings_from w zero place = []
strings_from w (suc n) place = field_place place (width_size w) offset_field ∷ strings_from w n (place + width_size w)

more-size : (w : Width) (n place : ℕ) → place + width_size w + n * width_size w ≡ place + suc n * width_size w
more-size W32 n place = omega arith
more-size W64 n place = omega arith

strings-more : (w : Width) (n place : ℕ) → strings_from w (suc n) place ≡ strings_from w n place ++ row_field place w n ∷ []
strings-more w zero place =
    let here : place ≡ place + 0 * width_size w = omega arith in
    ap (λ (k : ℕ). field_place k (width_size w) offset_field ∷ []) here
strings-more w (suc n) place =
    ap (λ (l : List FieldPlace). field_place place (width_size w) offset_field ∷ l) (strings-more w n (place + width_size w))
    ∙ ap (λ (k : ℕ). field_place place (width_size w) offset_field ∷ (strings_from w n (place + width_size w) ++ field_place k (width_size w) offset_field ∷ []))
    (more-size w n place)

row-strings : (w : Width) (n place : ℕ) → strings_from w n place ≡ row_fields place w n
row-strings w zero place = refl
row-strings w (suc n) place = strings-more w n place ∙ ap (λ (l : List FieldPlace). l ++ row_field place w n ∷ []) (row-strings w n place)

-- so many string offsets, and what is left of their table
one-size : (w : Width) (k : ℕ) → suc k * width_size w ≡ width_size w + k * width_size w
one-size W32 k = omega arith
one-size W64 k = omega arith

strings-run : (order : Order) (cells : List Cell) (w : Width) (k place end : ℕ) → place + k * width_size w ≤ end → end ≤ length cells
    → PieceRun (name_grammar order) any_name name_piece cells (before_strings_of (length cells) place w k end) (names_at (length cells) end at_table) place end (strings_from w k place)
strings-run order cells w zero place end fits inside =
    let room : place ≤ end = omega (arith, fits) in
    let size : length (take (end - place) (drop place cells)) ≡ end - place = part-length (end - place) place cells (omega (arith, room, inside)) in
    let here : place + length (take (end - place) (drop place cells)) ≡ end = omega (arith, size, room) in
    let one = run-one (name_grammar order) any_name name_piece cells (names_at (length cells) place (at_rest end)) (names_at (length cells) end at_table) place (end - place) [] here refl refl tt in
    subst (λ (b : ℕ). PieceRun (name_grammar order) any_name name_piece cells (names_at (length cells) place (at_rest end)) (names_at (length cells) end at_table) place b [])
    (omega (arith, room)) one
strings-run order cells w (suc k) place end fits inside =
    let more : suc k * width_size w ≡ width_size w + k * width_size w = one-size w k in
    let room : place + width_size w ≤ end = omega (arith, fits, more) in
    let whole : place + width_size w ≤ length cells = omega (arith, room, inside) in
    let size : length (take (width_size w) (drop place cells)) ≡ width_size w = part-length (width_size w) place cells whole in
    let next : before_strings_of (length cells) (place + length (take (width_size w) (drop place cells))) w k end ≡ before_strings_of (length cells) (place + width_size w) w k end =
    ap (λ (b : ℕ). before_strings_of (length cells) (place + b) w k end) size in
    let one = run-one (name_grammar order) any_name name_piece cells (names_at (length cells) place (at_string w k end)) (before_strings_of (length cells) (place + width_size w) w k end) place
    (width_size w) (field_place place (width_size w) offset_field ∷ []) (record { size = size; before = omega (arith, size, room) }) next refl tt in
    run-more (name_grammar order) any_name name_piece cells (names_at (length cells) place (at_string w k end)) (before_strings_of (length cells) (place + width_size w) w k end)
    (names_at (length cells) end at_table) place (place + width_size w) end (field_place place (width_size w) offset_field ∷ []) (strings_from w k (place + width_size w)) one
    (strings-run order cells w k (place + width_size w) end (omega (arith, fits, more)) inside)

-- the string offsets lie in the table
strings-inside : (w : Width) (counts : NameCounts) → counts.names * width_size w ≤ from_strings w counts
unfolding from_strings
strings-inside w counts =
    let twice : 2 * counts.names * width_size w ≡ counts.names * width_size w + counts.names * width_size w = omega arith in
    omega (arith, twice)

-- where they lie
pub record TableLies (size start : ℕ) (t : NameTable) : Type 0 where
  pub before : start ≤ t.strings
  pub room : t.strings + t.names * width_size t.width ≤ t.end
  pub within : t.end ≤ size

pub table-lies : (order : Order) (cells : List Cell) (start : ℕ) (t : NameTable) → IsNameTable order (bytes_of cells) start t → TableLies (length cells) start t
table-lies order cells start t is =
    let parts : Parts cells start t is.lengths (counts_of order cells start is.lengths) (front_size order cells start is.lengths) = parts-of order cells start t is in
    let sizes : t.names * width_size t.width ≡ (counts_of order cells start is.lengths).names * width_size is.lengths.0 =
    ap (λ (k : ℕ). k * width_size t.width) parts.names ∙ ap (λ (w : Width). (counts_of order cells start is.lengths).names * width_size w) parts.width in
    record {
      before = omega (arith, parts.strings);
      room = omega (arith, sizes, strings-inside is.lengths.0 (counts_of order cells start is.lengths), parts.strings, parts.fits, parts.end);
      within = omega (arith, is.within, length-bytes_of cells);
    }

-- a table is its pieces
table-run : (order : Order) (cells : List Cell) (start : ℕ) (t : NameTable) → IsNameTable order (bytes_of cells) start t
    → PieceRun (name_grammar order) any_name name_piece cells (names_at (length cells) start at_table) (names_at (length cells) t.end at_table) start t.end
    (row_fields t.strings t.width t.names)
table-run order cells start t is =
    let parts : Parts cells start t is.lengths (counts_of order cells start is.lengths) (front_size order cells start is.lengths) = parts-of order cells start t is in
    let lies : TableLies (length cells) start t = table-lies order cells start t is in
    let head = run-one (name_grammar order) any_name name_piece cells (names_at (length cells) start at_table) (before_strings_of (length cells) t.strings t.width t.names t.end) start
    (front_size order cells start is.lengths) []
    (front-piece order cells start t is.lengths (front_size order cells start is.lengths) parts is.length_is is.version)
    (front-next order cells start t is.lengths (front_size order cells start is.lengths) parts is.length_is) refl tt in
    let first = subst (λ (b : ℕ). PieceRun (name_grammar order) any_name name_piece cells (names_at (length cells) start at_table)
    (before_strings_of (length cells) t.strings t.width t.names t.end) start b []) (sym parts.strings) head in
    let rest = subst (λ (fs : List FieldPlace). PieceRun (name_grammar order) any_name name_piece cells (before_strings_of (length cells) t.strings t.width t.names t.end)
    (names_at (length cells) t.end at_table) t.strings t.end fs) (row-strings t.width t.names t.strings)
    (strings-run order cells t.width t.names t.strings t.end lies.room lies.within) in
    run-more (name_grammar order) any_name name_piece cells (names_at (length cells) start at_table) (before_strings_of (length cells) t.strings t.width t.names t.end)
    (names_at (length cells) t.end at_table) start t.strings t.end [] (row_fields t.strings t.width t.names) first rest

tables_fields-more : (list : List NameTable) (t : NameTable) → tables_fields (list ++ t ∷ []) ≡ tables_fields list ++ row_fields t.strings t.width t.names
tables_fields-more [] t = append-nil (row_fields t.strings t.width t.names)
tables_fields-more (x ∷ xs) t =
    ap (λ (l : List FieldPlace). row_fields x.strings x.width x.names ++ l) (tables_fields-more xs t)
    ∙ sym (append_assoc (row_fields x.strings x.width x.names) (tables_fields xs) (row_fields t.strings t.width t.names))

-- so are all of a section
tables-run : (v : View) (section : ℕ) (cells : List Cell) (list : List NameTable) (place : ℕ) → TablesUpTo v section (bytes_of cells) list place
    → PieceRun (name_grammar v.order) any_name name_piece cells (names_at (length cells) 0 at_table) (names_at (length cells) place at_table) 0 place (tables_fields list)
tables-run v section cells list place no_tables =
    run-none (name_grammar v.order) any_name name_piece cells (names_at (length cells) 0 at_table) (names_at (length cells) 0 at_table) 0 refl
tables-run v section cells all end (more_tables list t start u is) =
    subst (λ (fs : List FieldPlace). PieceRun (name_grammar v.order) any_name name_piece cells (names_at (length cells) 0 at_table) (names_at (length cells) t.end at_table) 0 t.end fs)
    (sym (tables_fields-more list t))
    (run-more (name_grammar v.order) any_name name_piece cells (names_at (length cells) 0 at_table) (names_at (length cells) start at_table) (names_at (length cells) t.end at_table)
    0 start t.end (tables_fields list) (row_fields t.strings t.width t.names) (tables-run v section cells list start u)
    (table-run v.order cells start t is.table))

-- and they stand one after another
from-more : (size : ℕ) (xs : List NameTable) (t : NameTable) (a b : ℕ) → TablesFrom size xs a b → TableLies size b t → TablesFrom size (xs ++ t ∷ []) a t.end
from-more size [] t a b h lies = (subst (λ (n : ℕ). n ≤ t.strings) (sym h) lies.before, lies.room, lies.within, refl)
from-more size (x ∷ xs) t a b h lies = (h.0, h.1, h.2, from-more size xs t x.end b h.3 lies)

pub tables-from : (v : View) (section : ℕ) (cells : List Cell) (list : List NameTable) (place : ℕ) → TablesUpTo v section (bytes_of cells) list place
    → TablesFrom (length cells) list 0 place
tables-from v section cells list place no_tables = refl
tables-from v section cells all end (more_tables list t start u is) =
    from-more (length cells) list t 0 start (tables-from v section cells list start u) (table-lies v.order cells start t is.table)

-- where tables fill a section, it is their pieces, whose fields are their string offsets
pub record NamesAre (order : Order) (cells : List Cell) (fs : List FieldPlace) : Type 0 where
  pub pieces : List (Piece NameState)
  pub reads : ReadsNames order cells pieces
  pub fields : name_fields pieces ≡ fs

pub tables-are : (v : View) (section : ℕ) (cells : List Cell) (list : List NameTable) → TablesUpTo v section (bytes_of cells) list (length (bytes_of cells))
    → NamesAre v.order cells (tables_fields list)
tables-are v section cells list u =
    let size : length (bytes_of cells) ≡ length cells = length-bytes_of cells in
    let whole = run-whole (name_grammar v.order) any_name name_piece cells (names_at (length cells) 0 at_table) (names_at (length cells) (length (bytes_of cells)) at_table)
    (length (bytes_of cells)) (tables_fields list) size (record { mode = refl; place = size })
    (tables-run v section cells list (length (bytes_of cells)) u) in
    record {
      pieces = whole.pieces;
      reads = record { chain = whole.chain; cells = whole.cells_are };
      fields = name_fields-are whole.pieces ∙ whole.fields;
    }
