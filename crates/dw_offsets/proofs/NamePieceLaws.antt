-- From name tables that were read one after another to the pieces of the section.
use Rattle.std.proofs.Common.{true, false, ◌≡◌, ◌<◌, ◌∷◌, Option, None, ℕ, zero, suc, ◌+◌, ◌-◌, ◌*◌, ◌≤◌, List, [], ◌++◌, length, take, drop, Some, refl, sym, ap, ◌∙◌, subst, arith, append_assoc}
use Rattle.std.specs.Bool.{⊤}
use Rattle.std.specs.Prelude.{is_some}
use Rattle.std.proofs.lemmas.List.{append-nil, drop_all, drop-drop, take-append-drop}
use Rattle.dw_base.specs.Cells.{Cell, bytes_of, cells_at, offset_of, offset_into}
use Rattle.dw_base.specs.DebugSections.{name_of}
use Rattle.dw_base.specs.FileViews.{View, field_at, kind_at, section_bytes, section_named, view_cells}
use Rattle.dw_base.specs.Forms.{width_size}
use Rattle.dw_base.specs.Lebs.{initial_length_at}
use Rattle.dw_base.specs.Numbers.{spelled}
use Rattle.dw_base.specs.Pieces.{Grammar, Leads, Piece, EachPiece, joined}
use Rattle.dw_base.specs.RelocationRows.{FieldPlace, IsField, OffsetReads, field_place, name_field, name_fields, offset_field}
use Rattle.dw_base.specs.declared.shared.Order.{Order}
use Rattle.dw_base.specs.declared.shared.Width.{Width}
use Rattle.dw_base.specs.declared.shared.Width.TheVariants.{W32, W64}
use Rattle.dw_base.proofs.NumberLaws.{spelled-take, spelled-drop}
use Rattle.dw_base.proofs.UnitEditLaws.{length-bytes_of}
use Rattle.dw_base.specs.NamePieces.{NameMode, at_table, at_string, at_rest, no_names, NameState, names_at, before_strings_of, IsTableFront, after_front, past_names, name_grammar, ReadsNames}
use Rattle.dw_base.specs.NameTables.{IsNameTable, IsNamedTable, string_place, texts_in}
use Rattle.dw_base.specs.NameHeaders.{name_counts, before_strings, from_strings}
use Rattle.dw_base.specs.declared.name_tables.NameCounts.{NameCounts}
use Rattle.dw_base.specs.declared.name_tables.NameTable.{NameTable}
use Rattle.dw_base.specs.Texts.{ends_in}
use Rattle.dw_base.specs.ViewData.{cells_located, located, located_at}
use Rattle.dw_base.specs.declared.debug_sections.DebugSection.TheVariants.{Names}
use Rattle.dw_base.proofs.NameBackLaws.{StringNamesBy}
use Rattle.dw_base.proofs.ViewCellLaws.{bytes_of-view_cells, length-view_cells, offset_at-cells}
use Rattle.dw_offsets.proofs.OffsetPieceLaws.{header-length}
use Rattle.dw_base.proofs.ViewOffsetLaws.{offset-reads, some-named}
use Rattle.dw_base.specs.NameOffsets.{AreRead, OffsetsRead, ReadUpTo, none_read, more_read}
use Rattle.dw_base.proofs.RunLaws.{leads-chain, part-bytes, part-length}
use Rattle.dw_offsets.specs.NameFields.{fields_of_names, piece_strings, string_field, string_fields}
use Rattle.dw_offsets.specs.declared.fields.OffsetField.{OffsetField}
use Rattle.dw_offsets.proofs.NameStringLaws.{names-more}

-- the counts of a table are in its front
pub field-part : (o : Order) (bs : List ℕ) (a n at k : ℕ) → at + k + 4 ≤ n → spelled o (take n (drop a bs)) (at + k) 4 ≡ spelled o bs (a + at + k) 4
field-part o bs a n at k inside =
    let place : a + (at + k) ≡ a + at + k = omega arith in
    spelled-take o (drop a bs) n (at + k) 4 inside ∙ spelled-drop o bs a (at + k) 4 ∙ ap (λ (p : ℕ). spelled o bs p 4) place

pub counts-part : (o : Order) (bs : List ℕ) (a n at : ℕ) → at + 32 ≤ n → name_counts o (take n (drop a bs)) at ≡ name_counts o bs (a + at)
unfolding name_counts
counts-part o bs a n at inside =
    rw (
      field-part o bs a n at 4 (omega (arith, inside)),
      field-part o bs a n at 8 (omega (arith, inside)),
      field-part o bs a n at 12 (omega (arith, inside)),
      field-part o bs a n at 16 (omega (arith, inside)),
      field-part o bs a n at 20 (omega (arith, inside)),
      field-part o bs a n at 24 (omega (arith, inside)),
      field-part o bs a n at 28 (omega (arith, inside)),
    )
    refl

-- where the parts of a table lie: its counts, and the size of its front
pub record Parts (cells : List Cell) (start : ℕ) (t : NameTable) (l : Width × ℕ × ℕ) (counts : NameCounts) (n : ℕ) : Type 0 where
  pub size : n ≡ l.2 + 32 + before_strings l.0 counts
  pub end : t.end ≡ start + l.2 + l.1
  pub width : t.width ≡ l.0
  pub names : t.names ≡ counts.names
  pub strings : t.strings ≡ start + n
  pub within : start + l.2 + l.1 ≤ length cells
  pub fits : n + from_strings l.0 counts ≤ l.2 + l.1

abbrev pub counts_of : Order → List Cell → ℕ → Width × ℕ × ℕ → NameCounts
counts_of order cells start l = name_counts order (bytes_of cells) (start + l.2)

abbrev pub front_size : Order → List Cell → ℕ → Width × ℕ × ℕ → ℕ
front_size order cells start l = l.2 + 32 + before_strings l.0 (counts_of order cells start l)

pub parts-of : (order : Order) (cells : List Cell) (start : ℕ) (t : NameTable) (is : IsNameTable order (bytes_of cells) start t)
    → Parts cells start t is.lengths (counts_of order cells start is.lengths) (front_size order cells start is.lengths)
parts-of order cells start t is =
    let end : t.end ≡ start + is.lengths.2 + is.lengths.1 = ap (λ (x : NameTable). x.end) is.is in
    let strings : t.strings ≡ start + is.lengths.2 + 32 + before_strings is.lengths.0 (counts_of order cells start is.lengths) = ap (λ (x : NameTable). x.strings) is.is in
    record {
      size = refl;
      end = end;
      width = ap (λ (x : NameTable). x.width) is.is;
      names = ap (λ (x : NameTable). x.names) is.is;
      strings = omega (arith, strings);
      within = omega (arith, end, is.within, length-bytes_of cells);
      fits = omega (arith, end, strings, is.parts);
    }

-- the front of a table is a piece
pub front-piece : (order : Order) (cells : List Cell) (start : ℕ) (t : NameTable) (l : Width × ℕ × ℕ) (n : ℕ) → Parts cells start t l (counts_of order cells start l) n
    → initial_length_at order (bytes_of cells) start ≡ Some l → spelled order (bytes_of cells) (start + l.2) 2 ≡ 5
    → IsTableFront order (names_at (length cells) start at_table) (take n (drop start cells))
front-piece order cells start t l n parts e version =
    let header : l.2 + 32 ≤ n = omega (arith, parts.size) in
    let whole : start + n ≤ length cells = omega (arith, parts.within, parts.fits) in
    let size : length (take n (drop start cells)) ≡ n = part-length n start cells whole in
    let bytes : bytes_of (take n (drop start cells)) ≡ take n (drop start (bytes_of cells)) = part-bytes n start cells in
    let counts : name_counts order (bytes_of (take n (drop start cells))) l.2 ≡ counts_of order cells start l =
    ap (λ (bs : List ℕ). name_counts order bs l.2) bytes ∙ counts-part order (bytes_of cells) start n l.2 header in
    record {
      lengths = l;
      length_is = header-length order cells start n l e (omega (arith, header)) whole;
      header = omega (arith, size, header);
      size = size ∙ parts.size ∙ ap (λ (c : NameCounts). l.2 + 32 + before_strings l.0 c) (sym counts);
      within = parts.within;
      version =
          ap (λ (bs : List ℕ). spelled order bs l.2 2) bytes ∙ spelled-take order (drop start (bytes_of cells)) n l.2 2 (omega (arith, header))
          ∙ spelled-drop order (bytes_of cells) start l.2 2 ∙ version;
      parts =
          let same : from_strings l.0 (name_counts order (bytes_of (take n (drop start cells))) l.2) ≡ from_strings l.0 (counts_of order cells start l) = ap (from_strings l.0) counts in
          omega (arith, size, same, parts.fits);
    }

-- what follows it
pub front-next : (order : Order) (cells : List Cell) (start : ℕ) (t : NameTable) (l : Width × ℕ × ℕ) (n : ℕ) → Parts cells start t l (counts_of order cells start l) n
    → initial_length_at order (bytes_of cells) start ≡ Some l
    → past_names at_table order (names_at (length cells) start at_table) (take n (drop start cells)) ≡ before_strings_of (length cells) t.strings t.width t.names t.end
front-next order cells start t l n parts e =
    let header : l.2 + 32 ≤ n = omega (arith, parts.size) in
    let whole : start + n ≤ length cells = omega (arith, parts.within, parts.fits) in
    let place : start + length (take n (drop start cells)) ≡ t.strings = omega (arith, part-length n start cells whole, parts.strings) in
    let counts : name_counts order (bytes_of (take n (drop start cells))) l.2 ≡ counts_of order cells start l =
    ap (λ (bs : List ℕ). name_counts order bs l.2) (part-bytes n start cells) ∙ counts-part order (bytes_of cells) start n l.2 header in
    let names : (name_counts order (bytes_of (take n (drop start cells))) l.2).names ≡ t.names = ap (λ (c : NameCounts). c.names) counts ∙ sym parts.names in
    ap (after_front order (names_at (length cells) start at_table) (take n (drop start cells))) (header-length order cells start n l e (omega (arith, header)) whole)
    ∙ ap (λ (b : ℕ). before_strings_of (length cells) b l.0 (name_counts order (bytes_of (take n (drop start cells))) l.2).names (start + l.2 + l.1)) place
    ∙ ap (λ (k : ℕ). before_strings_of (length cells) t.strings l.0 k (start + l.2 + l.1)) names
    ∙ ap (λ (w : Width). before_strings_of (length cells) t.strings w t.names (start + l.2 + l.1)) (sym parts.width)
    ∙ ap (before_strings_of (length cells) t.strings t.width t.names) (sym parts.end)

more-size : (w : Width) (k : ℕ) → suc k * width_size w ≡ width_size w + k * width_size w
more-size W32 k = omega arith
more-size W64 k = omega arith

-- the field of a string offset has no relocation that refuses it
abbrev StringReadsBy : NameMode → Order → List Cell → ℕ → Type 0
StringReadsBy (at_string w left end) order cells place = OffsetReads order cells (field_place place (width_size w) offset_field)
StringReadsBy m order cells place = ⊤

abbrev PieceReads : View → List Cell → Piece NameState → Type 0
PieceReads v cells x = StringNamesBy x.state.mode v x.cells × StringReadsBy x.state.mode v.order cells x.state.place

-- pieces that lead from one state to another, whose cells stand from one place of some cells to another; each string offset among
-- them can be read and names a text, and these are their fields
record TextRun (v : View) (cells : List Cell) (s t : NameState) (a b : ℕ) (fs : List OffsetField) : Type 0 where
  pieces : List (Piece NameState)
  leads : Leads (name_grammar v.order) s pieces t
  covers : joined pieces ++ drop b cells ≡ drop a cells
  each : EachPiece (PieceReads v cells) pieces
  fields : piece_strings pieces ≡ fs

each-more : (P : Piece NameState → Type 0) (xs ys : List (Piece NameState)) → EachPiece P xs → EachPiece P ys → EachPiece P (xs ++ ys)
each-more P [] ys h k = k
each-more P (x ∷ xs) ys h k = (h.0, each-more P xs ys h.1 k)

leads-more : (g : Grammar) (s t u : g.State) (xs ys : List (Piece g.State)) → Leads g s xs t → Leads g t ys u → Leads g s (xs ++ ys) u
leads-more g s t u [] ys l m = subst (λ (z : g.State). Leads g z ys u) (sym l) m
leads-more g s t u (x ∷ xs) ys l m = (l.0, l.1, leads-more g (g.next x.state x.cells) t u xs ys l.2 m)

joined-append : {S : Type 0} (xs ys : List (Piece S)) → joined (xs ++ ys) ≡ joined xs ++ joined ys
joined-append [] ys = refl
joined-append (x ∷ xs) ys = ap (λ (r : List Cell). x.cells ++ r) (joined-append xs ys) ∙ sym (append_assoc x.cells (joined xs) (joined ys))

strings-append : (xs ys : List (Piece NameState)) → piece_strings (xs ++ ys) ≡ piece_strings xs ++ piece_strings ys
strings-append [] ys = refl
strings-append (x ∷ xs) ys =
    ap (λ (fs : List OffsetField). string_field x.state.mode x.state.place (length x.cells) ++ fs) (strings-append xs ys)
    ∙ sym (append_assoc (string_field x.state.mode x.state.place (length x.cells)) (piece_strings xs) (piece_strings ys))

text-more : (v : View) (cells : List Cell) (s t u : NameState) (a b c : ℕ) (fs gs : List OffsetField) → TextRun v cells s t a b fs → TextRun v cells t u b c gs
    → TextRun v cells s u a c (fs ++ gs)
text-more v cells s t u a b c fs gs m n = record {
  pieces = m.pieces ++ n.pieces;
  leads = leads-more (name_grammar v.order) s t u m.pieces n.pieces m.leads n.leads;
  covers =
      ap (λ (x : List Cell). x ++ drop c cells) (joined-append m.pieces n.pieces) ∙ append_assoc (joined m.pieces) (joined n.pieces) (drop c cells)
      ∙ ap (λ (x : List Cell). joined m.pieces ++ x) n.covers ∙ m.covers;
  each = each-more (PieceReads v cells) m.pieces n.pieces m.each n.each;
  fields =
      strings-append m.pieces n.pieces ∙ ap (λ (x : List OffsetField). x ++ piece_strings n.pieces) m.fields ∙ ap (λ (x : List OffsetField). fs ++ x) n.fields;
}

-- a piece of so many cells
text-one : (v : View) (cells : List Cell) (s t : NameState) (a n : ℕ) (fs : List OffsetField) → (name_grammar v.order).Fits s (take n (drop a cells))
    → (name_grammar v.order).next s (take n (drop a cells)) ≡ t → StringNamesBy s.mode v (take n (drop a cells)) → StringReadsBy s.mode v.order cells s.place
    → string_field s.mode s.place (length (take n (drop a cells))) ≡ fs → TextRun v cells s t a (a + n) fs
text-one v cells s t a n fs fits next names reads fields = record {
  pieces = record { state = s; cells = take n (drop a cells) } ∷ [];
  leads = (refl, fits, next);
  covers =
      append_assoc (take n (drop a cells)) [] (drop (a + n) cells)
      ∙ ap (λ (x : List Cell). take n (drop a cells) ++ x) (sym (drop-drop n a cells)) ∙ take-append-drop n (drop a cells);
  each = ((names, reads), tt);
  fields = append-nil (string_field s.mode s.place (length (take n (drop a cells)))) ∙ fields;
}

-- the contents of a section of a view
record IsSection (v : View) (section : ℕ) (cells : List Cell) : Type 0 where
  same : cells ≡ view_cells v section
  kind : is_some (kind_at v section) ≡ true

-- the offset in a part is that of the field at its place
part-offset : (v : View) (section : ℕ) (cells : List Cell) (n a : ℕ) → IsSection v section cells → 0 < n → a + n ≤ length cells
    → offset_of v.order (texts_in v) (take n (drop a cells)) ≡ offset_into (texts_in v) (field_at v section a n)
part-offset v section cells n a is some inside =
    let whole : length cells ≡ length (section_bytes v section) = ap length is.same ∙ length-view_cells v section in
    ap (λ (cs : List Cell). offset_of v.order (texts_in v) (cells_at cs a n)) is.same
    ∙ offset_at-cells v (texts_in v) section a n some (omega (arith, inside, whole))

width-some : (w : Width) → 0 < width_size w
width-some W32 = omega arith
width-some W64 = omega arith

-- string offsets from a place on name texts
abbrev NameFrom : View → ℕ → Width → ℕ → ℕ → Type 0
NameFrom v section w k place =
    (i : ℕ) → i < k → ends_in (texts_in v).bytes (offset_into (texts_in v) (field_at v section (place + i * width_size w) (width_size w))) ≡ true

place-next : (w : Width) (i place : ℕ) → place + suc i * width_size w ≡ place + width_size w + i * width_size w
place-next W32 i place = omega arith
place-next W64 i place = omega arith

name-rest : (v : View) (section : ℕ) (w : Width) (k place : ℕ) → NameFrom v section w (suc k) place → NameFrom v section w k (place + width_size w)
name-rest v section w k place h = λ i lt.
    ap (λ (p : ℕ). ends_in (texts_in v).bytes (offset_into (texts_in v) (field_at v section p (width_size w)))) (sym (place-next w i place))
    ∙ h (suc i) (omega (arith, lt))

-- and no relocation refuses them
abbrev ReadFrom : Order → List Cell → Width → ℕ → ℕ → Type 0
ReadFrom order cells w k place = (i : ℕ) → i < k → OffsetReads order cells (field_place (place + i * width_size w) (width_size w) offset_field)

read-rest : (order : Order) (cells : List Cell) (w : Width) (k place : ℕ) → ReadFrom order cells w (suc k) place → ReadFrom order cells w k (place + width_size w)
read-rest order cells w k place h = λ i lt.
    subst (λ (p : ℕ). OffsetReads order cells (field_place p (width_size w) offset_field)) (place-next w i place) (h (suc i) (omega (arith, lt)))

-- so many string offsets, and what is left of their table
strings-run : (v : View) (section : ℕ) (cells : List Cell) (w : Width) (k place end : ℕ) → IsSection v section cells → NameFrom v section w k place
    → ReadFrom v.order cells w k place → place + k * width_size w ≤ end → end ≤ length cells
    → TextRun v cells (before_strings_of (length cells) place w k end) (names_at (length cells) end at_table) place end (string_fields w k place)
strings-run v section cells w zero place end is names reads fits inside =
    let room : place ≤ end = omega (arith, fits) in
    let size : length (take (end - place) (drop place cells)) ≡ end - place = part-length (end - place) place cells (omega (arith, room, inside)) in
    let here : place + length (take (end - place) (drop place cells)) ≡ end = omega (arith, size, room) in
    let one = text-one v cells (names_at (length cells) place (at_rest end)) (names_at (length cells) end at_table) place (end - place) [] here refl tt tt refl in
    subst (λ (b : ℕ). TextRun v cells (names_at (length cells) place (at_rest end)) (names_at (length cells) end at_table) place b []) (omega (arith, room)) one
strings-run v section cells w (suc k) place end is names reads fits inside =
    let more : suc k * width_size w ≡ width_size w + k * width_size w = more-size w k in
    let room : place + width_size w ≤ end = omega (arith, fits, more) in
    let whole : place + width_size w ≤ length cells = omega (arith, room, inside) in
    let size : length (take (width_size w) (drop place cells)) ≡ width_size w = part-length (width_size w) place cells whole in
    let next : before_strings_of (length cells) (place + length (take (width_size w) (drop place cells))) w k end ≡ before_strings_of (length cells) (place + width_size w) w k end =
    ap (λ (b : ℕ). before_strings_of (length cells) (place + b) w k end) size in
    let first : place + 0 * width_size w ≡ place = omega arith in
    let ends : ends_in (texts_in v).bytes (offset_of v.order (texts_in v) (take (width_size w) (drop place cells))) ≡ true =
    ap (ends_in (texts_in v).bytes) (part-offset v section cells (width_size w) place is (width-some w) whole)
    ∙ ap (λ (p : ℕ). ends_in (texts_in v).bytes (offset_into (texts_in v) (field_at v section p (width_size w)))) (sym first) ∙ names 0 (omega arith) in
    let one = text-one v cells (names_at (length cells) place (at_string w k end)) (before_strings_of (length cells) (place + width_size w) w k end) place (width_size w)
    (record { at = place; size = width_size w; path = false } ∷ [])
    (record { size = size; before = omega (arith, size, room) }) next ends
    (subst (λ (p : ℕ). OffsetReads v.order cells (field_place p (width_size w) offset_field)) first (reads 0 (omega arith)))
    (ap (λ (n : ℕ). record { at = place; size = n; path = false } ∷ []) size) in
    text-more v cells (names_at (length cells) place (at_string w k end)) (before_strings_of (length cells) (place + width_size w) w k end)
    (names_at (length cells) end at_table) place (place + width_size w) end (record { at = place; size = width_size w; path = false } ∷ [])
    (string_fields w k (place + width_size w)) one
    (strings-run v section cells w k (place + width_size w) end is (name-rest v section w k place names) (read-rest v.order cells w k place reads) (omega (arith, fits, more)) inside)

-- the string offsets lie in the table
strings-inside : (w : Width) (counts : NameCounts) → counts.names * width_size w ≤ from_strings w counts
unfolding from_strings
strings-inside w counts =
    let twice : 2 * counts.names * width_size w ≡ counts.names * width_size w + counts.names * width_size w = omega arith in
    omega (arith, twice)

string-inside : (w : Width) (strings i names : ℕ) → i < names → strings + i * width_size w + width_size w ≤ strings + names * width_size w
string-inside W32 strings i names lt = omega (arith, lt)
string-inside W64 strings i names lt = omega (arith, lt)

-- no relocation refuses them, since they were read
strings-read : (v : View) (section : ℕ) (cells : List Cell) (t : NameTable) → IsSection v section cells → OffsetsRead v section t t.names
    → t.strings + t.names * width_size t.width ≤ length cells → ReadFrom v.order cells t.width t.names t.strings
strings-read v section cells t is reads inside = λ i lt.
    let whole : length cells ≡ length (section_bytes v section) = ap length is.same ∙ length-view_cells v section in
    let fits = string-inside t.width t.strings i t.names lt in
    subst (λ (cs : List Cell). OffsetReads v.order cs (field_place (string_place t i) (width_size t.width) offset_field)) (sym is.same)
    (offset-reads v section (string_place t i) (width_size t.width) (field_at v section (string_place t i) (width_size t.width)) is.kind
    (width-some t.width) (omega (arith, whole, fits, inside)) (reads.all i lt))

-- a table is its pieces
table-run : (v : View) (section : ℕ) (cells : List Cell) (start : ℕ) (t : NameTable) → IsSection v section cells → IsNamedTable v section (bytes_of cells) start t
    → OffsetsRead v section t t.names
    → TextRun v cells (names_at (length cells) start at_table) (names_at (length cells) t.end at_table) start t.end (string_fields t.width t.names t.strings)
table-run v section cells start t whole named reads =
    let order : Order = v.order in
    let is : IsNameTable v.order (bytes_of cells) start t = named.table in
    let parts : Parts cells start t named.table.lengths (counts_of v.order cells start named.table.lengths) (front_size v.order cells start named.table.lengths) =
    parts-of v.order cells start t named.table in
    let head = text-one v cells (names_at (length cells) start at_table) (before_strings_of (length cells) t.strings t.width t.names t.end) start
    (front_size v.order cells start named.table.lengths) []
    (front-piece v.order cells start t named.table.lengths (front_size v.order cells start named.table.lengths) parts named.table.length_is named.table.version)
    (front-next v.order cells start t named.table.lengths (front_size v.order cells start named.table.lengths) parts named.table.length_is) tt tt refl in
    let sizes : t.names * width_size t.width ≡ (counts_of v.order cells start named.table.lengths).names * width_size named.table.lengths.0 =
    ap (λ (k : ℕ). k * width_size t.width) parts.names ∙ ap (λ (w : Width). (counts_of v.order cells start named.table.lengths).names * width_size w) parts.width in
    let room : t.strings + t.names * width_size t.width ≤ t.end =
    omega (arith, sizes, strings-inside named.table.lengths.0 (counts_of v.order cells start named.table.lengths), parts.strings, parts.fits, parts.end) in
    let inside : t.end ≤ length cells = omega (arith, named.table.within, length-bytes_of cells) in
    let rest = strings-run v section cells t.width t.names t.strings t.end whole named.texts.all
    (strings-read v section cells t whole reads (omega (arith, room, inside))) room inside in
    let first = subst (λ (b : ℕ). TextRun v cells (names_at (length cells) start at_table) (before_strings_of (length cells) t.strings t.width t.names t.end) start b [])
    (sym parts.strings) head in
    text-more v cells (names_at (length cells) start at_table) (before_strings_of (length cells) t.strings t.width t.names t.end)
    (names_at (length cells) t.end at_table) start t.strings t.end [] (string_fields t.width t.names t.strings) first rest

-- so are all of a section
tables-run : (v : View) (section : ℕ) (cells : List Cell) (list : List NameTable) (place : ℕ) → IsSection v section cells → ReadUpTo v section (bytes_of cells) list place
    → TextRun v cells (names_at (length cells) 0 at_table) (names_at (length cells) place at_table) 0 place (fields_of_names list)
tables-run v section cells list place whole none_read = record {
  pieces = [];
  leads = refl;
  covers = refl;
  each = tt;
  fields = refl;
}
tables-run v section cells list place whole (more_read before t start u is reads) =
    subst (λ (fs : List OffsetField). TextRun v cells (names_at (length cells) 0 at_table) (names_at (length cells) t.end at_table) 0 t.end fs) (sym (names-more before t))
    (text-more v cells (names_at (length cells) 0 at_table) (names_at (length cells) start at_table) (names_at (length cells) t.end at_table) 0 start t.end
    (fields_of_names before) (string_fields t.width t.names t.strings) (tables-run v section cells before start whole u) (table-run v section cells start t whole is reads))

-- where tables fill a section, it is their pieces; each string offset among them names a text, no relocation refuses it, and they have the tables' fields
pub record NamesRead (v : View) (cells : List Cell) (list : List NameTable) : Type 0 where
  pub pieces : List (Piece NameState)
  pub reads : ReadsNames v.order cells pieces
  pub texts : EachPiece (λ x. StringNamesBy x.state.mode v x.cells) pieces
  pub offsets : (f : FieldPlace) → IsField (name_fields pieces) f → OffsetReads v.order cells f
  pub fields : piece_strings pieces ≡ fields_of_names list

texts-of : (v : View) (cells : List Cell) (xs : List (Piece NameState)) → EachPiece (PieceReads v cells) xs → EachPiece (λ x. StringNamesBy x.state.mode v x.cells) xs
texts-of v cells [] h = tt
texts-of v cells (x ∷ xs) h = (h.0.0, texts-of v cells xs h.1)

-- a field of pieces is that of one of them
first-field : (f g : FieldPlace) (fs gs : List FieldPlace) → f ∷ fs ≡ g ∷ gs → f ≡ g
first-field f g fs gs e = cc

rest-fields : (f g : FieldPlace) (fs gs : List FieldPlace) → f ∷ fs ≡ g ∷ gs → fs ≡ gs
rest-fields f g fs gs e = cc

no-field : (before behind : List FieldPlace) (f : FieldPlace) → [] ≡ before ++ f ∷ behind → ⊥
no-field [] behind f e = cc
no-field (b ∷ bs) behind f e = cc

field-step : (order : Order) (cells : List Cell) (m : NameMode) (place : ℕ) (fs before behind : List FieldPlace) (f : FieldPlace) → StringReadsBy m order cells place
    → ((front : List FieldPlace) → fs ≡ front ++ f ∷ behind → OffsetReads order cells f) → name_field m place ++ fs ≡ before ++ f ∷ behind → OffsetReads order cells f
field-step order cells (at_string w left end) place fs [] behind f reads rest e =
    subst (OffsetReads order cells) (first-field (field_place place (width_size w) offset_field) f fs behind e) reads
field-step order cells (at_string w left end) place fs (b ∷ bs) behind f reads rest e =
    rest bs (rest-fields (field_place place (width_size w) offset_field) b fs (bs ++ f ∷ behind) e)
field-step order cells at_table place fs before behind f reads rest e = rest before e
field-step order cells (at_rest end) place fs before behind f reads rest e = rest before e
field-step order cells no_names place fs before behind f reads rest e = rest before e

field-of : (v : View) (cells : List Cell) (xs : List (Piece NameState)) (before behind : List FieldPlace) (f : FieldPlace) → EachPiece (PieceReads v cells) xs
    → name_fields xs ≡ before ++ f ∷ behind → OffsetReads v.order cells f
field-of v cells [] before behind f h e = absurd (no-field before behind f e)
field-of v cells (x ∷ xs) before behind f h e =
    field-step v.order cells x.state.mode x.state.place (name_fields xs) before behind f h.0.1 (λ front g. field-of v cells xs front behind f h.1 g) e

tables-read : (v : View) (section : ℕ) (cells : List Cell) (list : List NameTable) → IsSection v section cells
    → ReadUpTo v section (bytes_of cells) list (length (bytes_of cells)) → NamesRead v cells list
tables-read v section cells list whole u =
    let all = tables-run v section cells list (length (bytes_of cells)) whole u in
    let same : length (bytes_of cells) ≡ length cells = length-bytes_of cells in
    let rest : drop (length (bytes_of cells)) cells ≡ [] = drop_all (length (bytes_of cells)) cells (omega (arith, same)) in
    record {
      pieces = all.pieces;
      reads = record {
        chain = leads-chain (name_grammar v.order) (names_at (length cells) 0 at_table) (names_at (length cells) (length (bytes_of cells)) at_table) all.pieces all.leads
            (record { mode = refl; place = same });
        cells = sym (append-nil (joined all.pieces)) ∙ ap (λ (x : List Cell). joined all.pieces ++ x) (sym rest) ∙ all.covers;
      };
      texts = texts-of v cells all.pieces all.each;
      offsets = λ f is. field-of v cells all.pieces is.before is.behind f all.each is.is;
      fields = all.fields;
    }

-- a section without bytes has no table
no-fields : (v : View) (section : ℕ) (bytes : List ℕ) (list : List NameTable) (place : ℕ) → length bytes ≡ 0 → ReadUpTo v section bytes list place → fields_of_names list ≡ []
no-fields v section bytes list place none none_read = refl
no-fields v section bytes list place none (more_read before t start u is reads) = absurd (omega (arith, none, is.table.within, is.table.header))

-- the name tables of a view are pieces
names-by : (v : View) (o : Option ℕ) (list : List NameTable) → section_named v (name_of Names) ≡ o
    → ReadUpTo v (located_at v o).number (located_at v o).bytes list (length (located_at v o).bytes) → NamesRead v (cells_located v o).contents list
names-by v None list here u = record {
  pieces = [];
  reads = record { chain = record { mode = refl; place = refl }; cells = refl };
  texts = tt;
  offsets = λ f is. absurd (no-field is.before is.behind f is.is);
  fields = sym (no-fields v 0 [] list 0 refl u);
}
names-by v (Some i) list here u =
    let bytes : bytes_of (view_cells v i) ≡ section_bytes v i = bytes_of-view_cells v i in
    tables-read v i (view_cells v i) list (record { same = refl; kind = some-named v Names i (sym here) })
    (subst (λ (bs : List ℕ). ReadUpTo v i bs list (length bs)) (sym bytes) u)

pub names-read : (v : View) (list : List NameTable) → AreRead v list → NamesRead v (cells_located v (section_named v (name_of Names))).contents list
unfolding located
names-read v list u = names-by v (section_named v (name_of Names)) list refl u
