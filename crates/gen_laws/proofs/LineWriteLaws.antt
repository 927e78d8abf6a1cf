-- The line tables of a generated file can be written with their paths mapped, and each is short.
use Rattle.std.proofs.Common.{◌≡◌, ◌≢◌, ℕ, zero, suc, ◌+◌, ◌-◌, ◌*◌, ◌^◌, ◌<◌, ◌≤◌, List, [], ◌∷◌, ◌++◌, length, drop, slice_index, Option, Contains, slice_index_or, refl, sym, ap, ◌∙◌, arith}
use Rattle.std.proofs.lemmas.Bool.{eq-eqb}
use Rattle.std.proofs.lemmas.List.{append_assoc, length-append, length-take}
use Rattle.dw_base.specs.DebugData.{Around, source_around}
use Rattle.dw_base.specs.LineHeaders.{length_place}
use Rattle.dw_base.specs.LineReadings.{LineReading, all_lines, table_read}
use Rattle.dw_base.specs.LineSources.{LineSource}
use Rattle.dw_base.specs.LineTables.{LineTable}
use Rattle.dw_base.specs.Numbers.{number_bytes}
use Rattle.dw_base.specs.Paths.{IsPathMap, PathMap}
use Rattle.dw_base.specs.TableTexts.{as_path}
use Rattle.dw_base.specs.TextChanges.{TableChanges}
use Rattle.dw_base.specs.TextLineChanges.{header_by_texts, rest_by_texts, table_by_texts, tables_by_texts, text_place, texts_changes}
use Rattle.dw_base.specs.TextWriteFails.{CanWriteTexts}
use Rattle.dw_base.specs.WrittenLines.{Change, bytes_at, changed, inline_change, part, with_header_length}
use Rattle.dw_base.specs.declared.debug_sections.DebugSection.TheVariants.{LineStr, Str}
use Rattle.dw_base.specs.declared.line_tables.LineText.{LineText}
use Rattle.dw_base.specs.declared.line_tables.TextPlace.{TextPlace}
use Rattle.dw_base.specs.declared.shared.Width.TheVariants.{W32}
use Rattle.dw_base.proofs.NumberLaws.{length-number_bytes}
use Rattle.dw_base.proofs.PathLaws.{length-mapped_path}
use Rattle.dw_meaning.specs.DataOutput.{EachWritable}
use Rattle.dbg_gen.specs.Asked.{AreFew}
use Rattle.dbg_gen.specs.GeneratedLines.{line_header as generated_header, lines_of}
use Rattle.dbg_gen.proofs.SizeLaws.{length-line_header, length-line_program}
use Rattle.gen_laws.proofs.LineListReadLaws.{file_name, place_of}
use Rattle.gen_laws.proofs.LineSectionReadLaws.{lists-behind, lists_place, reading_at, readings_of}

length-part : (bytes : List ℕ) (from end : ℕ) → length (part bytes from end) ≤ end - from
length-part bytes from end = omega (arith, length-take (end - from) (drop from bytes))

length-bytes_at : (bytes : List ℕ) (at n : ℕ) → length (bytes_at bytes at n) ≤ n
length-bytes_at bytes at n = omega (arith, length-take n (drop at bytes))

-- a path of so many bytes that stands in the table, mapped
length-new : (m : PathMap) (bytes : List ℕ) (x : TextPlace) → IsPathMap m → length (inline_change m bytes x).new ≤ 4096 + x.len
length-new m bytes x fit =
    let mapped = length-mapped_path m (bytes_at bytes x.at x.len) fit in
    let old = length-bytes_at bytes x.at x.len in
    omega (arith, mapped, old)

-- bytes with two paths mapped in them, however much stands between
length-two : (m : PathMap) (bytes : List ℕ) (from end : ℕ) (x y : TextPlace) → IsPathMap m
    → length (changed bytes from end (inline_change m bytes x ∷ inline_change m bytes y ∷ [])) ≤ (x.at - from) + (4096 + x.len) + (y.at - x.at) + (4096 + y.len) + (end - y.at)
length-two m bytes from end x y fit =
    let first = length-new m bytes x fit in
    let second = length-new m bytes y fit in
    let one = length-part bytes from x.at in
    let two = length-part bytes (x.at + length (bytes_at bytes x.at x.len)) y.at in
    let three = length-part bytes (y.at + length (bytes_at bytes y.at y.len)) end in
    let last = length-append (inline_change m bytes y).new (part bytes (y.at + length (bytes_at bytes y.at y.len)) end) in
    let behind = length-append (part bytes (x.at + length (bytes_at bytes x.at x.len)) y.at) (changed bytes y.at end (inline_change m bytes y ∷ [])) in
    let rest = changed bytes (x.at + length (bytes_at bytes x.at x.len)) end (inline_change m bytes y ∷ []) in
    let middle = length-append (inline_change m bytes x).new rest in
    let all = length-append (part bytes from x.at) ((inline_change m bytes x).new ++ rest) in
    let rest_is = length-append (part bytes (x.at + length (bytes_at bytes x.at x.len)) y.at) ((inline_change m bytes y).new ++ part bytes (y.at + length (bytes_at bytes y.at y.len)) end) in
    omega (arith, first, second, one, two, three, last, middle, all, rest_is)

-- the changes of two paths that stand in the table
changes-are : (g : LineSource) (m : PathMap) (places : LineText → Option ℕ) (x y : TextPlace) → x.section ≡ g.number → y.section ≡ g.number
    → texts_changes g m places W32 (as_path x ∷ as_path y ∷ []) ≡ inline_change m g.bytes x ∷ inline_change m g.bytes y ∷ []
changes-are g m places x y first second = rw (eq-eqb x.section g.number first, eq-eqb y.section g.number second) refl

-- the table of a unit that starts at a place
abbrev pub table_at : LineSource → ℕ → ℕ → ℕ → LineTable
table_at g start unit count = table_read g (reading_at g.number start unit count)

-- its new header and its new bytes are short
abbrev pub table_room : ℕ
table_room = 8400

length-header : (g : LineSource) (m : PathMap) (places : LineText → Option ℕ) (start unit count : ℕ) → IsPathMap m → unit < 2 ^ 32
    → length (header_by_texts g m places (table_at g start unit count)) ≤ 8300
unfolding header_by_texts length_place
length-header g m places start unit count fit small =
    let dir : TextPlace = place_of g.number (lists_place start) 12 in
    let file : TextPlace = place_of g.number (lists_place start + 12 + 1 + 1) (length (file_name unit)) in
    let long = length-line_header unit small in
    let lists = lists-behind unit in
    let same = ap (λ (cs : List Change). length (changed g.bytes (start + 4 + 2 + 4) (start + 4 + 2 + 4 + length (generated_header unit)) cs)) (changes-are g m places dir file refl refl) in
    let two = length-two m g.bytes (start + 4 + 2 + 4) (start + 4 + 2 + 4 + length (generated_header unit)) dir file fit in
    omega (arith, same, two, long, lists)

length-front : (g : LineSource) (t : LineTable) (header : List ℕ) → t.width ≡ W32 → t.version ≡ 4 → length (with_header_length g t header) ≤ 6 + length header
unfolding length_place
length-front g t header width version =
    rw (width, version)
    (let size = length-number_bytes g.order 4 (length header) in
    let one = length-part g.bytes (t.start + 4) (t.start + 4 + 2) in
    let behind = length-append (number_bytes g.order 4 (length header)) header in
    omega (arith, size, one, behind, length-append (part g.bytes (t.start + 4) (t.start + 4 + 2)) (number_bytes g.order 4 (length header) ++ header)))

length-rest : (g : LineSource) (m : PathMap) (places : LineText → Option ℕ) (start unit count : ℕ) → IsPathMap m → unit < 2 ^ 32 → count ≤ 16
    → length (rest_by_texts g m places (table_at g start unit count)) ≤ 8390
length-rest g m places start unit count fit small few =
    let t : LineTable = table_at g start unit count in
    let header = length-header g m places start unit count fit small in
    let front = length-front g t (header_by_texts g m places t) refl refl in
    let rows = length-line_program unit count in
    let program = length-part g.bytes t.program t.end in
    omega (arith, header, front, rows, program, length-append (with_header_length g t (header_by_texts g m places t)) (part g.bytes t.program t.end))

pub length-table : (g : LineSource) (m : PathMap) (places : LineText → Option ℕ) (start unit count : ℕ) → IsPathMap m → unit < 2 ^ 32 → count ≤ 16
    → length (table_by_texts g m places (table_at g start unit count)) ≤ table_room
unfolding table_by_texts
length-table g m places start unit count fit small few =
    let t : LineTable = table_at g start unit count in
    let rest = length-rest g m places start unit count fit small few in
    let size = length-number_bytes g.order 4 (length (rest_by_texts g m places t)) in
    omega (arith, rest, size, length-append (number_bytes g.order 4 (length (rest_by_texts g m places t))) (rest_by_texts g m places t))

-- no text of it is named by an offset
own-cases : (number : ℕ) (d f x : LineText) (k : ℕ) → k < length (d ∷ f ∷ []) → slice_index_or (d ∷ f ∷ []) k x ≡ x → d.place.section ≡ number → f.place.section ≡ number
    → x.place.section ≡ number
own-cases number d f x zero lt e dir file = ap (λ (y : LineText). y.place.section) (sym e) ∙ dir
own-cases number d f x (suc zero) lt e dir file = ap (λ (y : LineText). y.place.section) (sym e) ∙ file
own-cases number d f x (suc (suc k)) lt e dir file = absurd (omega arith)

none-elsewhere : (number : ℕ) (d f x : LineText) → d.place.section ≡ number → f.place.section ≡ number → Contains (d ∷ f ∷ []) x → x.place.section ≢ number → ⊥
none-elsewhere number d f x dir file among other = other (own-cases number d f x among.0 among.1 among.2 dir file)

pub can-write : (g : LineSource) (m : PathMap) (places : LineText → Option ℕ) (start unit count : ℕ) → IsPathMap m → unit < 2 ^ 32 → count ≤ 16
    → CanWriteTexts g m places (table_at g start unit count)
can-write g m places start unit count fit small few =
    let header = length-header g m places start unit count fit small in
    let rest = length-rest g m places start unit count fit small few in
    record {
      table = omega (arith, rest);
      header = omega (arith, header);
      offsets = λ x place among other put.
          absurd (none-elsewhere g.number (as_path (place_of g.number (lists_place start) 12)) (as_path (place_of g.number (lists_place start + 12 + 1 + 1) (length (file_name unit)))) x
          refl refl among other);
      defined = tt;
    }

-- all of them
writable-append : (m : PathMap) (c : TableChanges) (around : Around) (rs qs : List LineReading) → EachWritable m c around rs → EachWritable m c around qs → EachWritable m c around (rs ++ qs)
writable-append m c around [] qs front rest = rest
writable-append m c around (r ∷ rs) qs front rest = (front.0, writable-append m c around rs qs front.1 rest)

pub tables-writable : (m : PathMap) (c : TableChanges) (around : Around) (counts : List ℕ) (units : ℕ) → IsPathMap m → units < 2 ^ 32 → AreFew counts
    → EachWritable m c around (readings_of (source_around around).number counts units)
tables-writable m c around counts zero fit small few = tt
tables-writable m c around counts (suc unit) fit small few =
    let g : LineSource = source_around around in
    let start = length (lines_of counts unit) in
    writable-append m c around (readings_of g.number counts unit) (reading_at g.number start unit (slice_index counts unit) ∷ [])
    (tables-writable m c around counts unit fit (omega arith) few)
    (can-write g m (text_place m (c.new Str) (c.new LineStr) g) start unit (slice_index counts unit) fit (omega arith) (few.each unit), tt)

after-append : (m : PathMap) (str line_str : List (List ℕ)) (g : LineSource) (rs qs : List LineReading)
    → all_lines (tables_by_texts m str line_str g (rs ++ qs)) ≡ all_lines (tables_by_texts m str line_str g rs) ++ all_lines (tables_by_texts m str line_str g qs)
after-append m str line_str g [] qs = refl
after-append m str line_str g (r ∷ rs) qs =
    let table : List ℕ = table_by_texts g m (text_place m str line_str g) (table_read g r) in
    ap (λ (bs : List ℕ). table ++ bs) (after-append m str line_str g rs qs) ∙ sym (append_assoc table (all_lines (tables_by_texts m str line_str g rs)) (all_lines (tables_by_texts m str line_str g qs)))

pub length-tables : (m : PathMap) (str line_str : List (List ℕ)) (g : LineSource) (counts : List ℕ) (units : ℕ) → IsPathMap m → units < 2 ^ 32 → AreFew counts
    → length (all_lines (tables_by_texts m str line_str g (readings_of g.number counts units))) ≤ units * table_room
length-tables m str line_str g counts zero fit small few = omega arith
length-tables m str line_str g counts (suc unit) fit small few =
    let start = length (lines_of counts unit) in
    let count = slice_index counts unit in
    let last : LineReading = reading_at g.number start unit count in
    let table : List ℕ = table_by_texts g m (text_place m str line_str g) (table_at g start unit count) in
    let front = length-tables m str line_str g counts unit fit (omega arith) few in
    let one = length-table g m (text_place m str line_str g) start unit count fit (omega arith) (few.each unit) in
    let both = ap length (after-append m str line_str g (readings_of g.number counts unit) (last ∷ [])) in
    let split = length-append (all_lines (tables_by_texts m str line_str g (readings_of g.number counts unit))) (table ++ []) in
    omega (arith, front, one, both, split, length-append table [])
