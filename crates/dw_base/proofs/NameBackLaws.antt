-- From the pieces of name tables to the tables that a reader meets, each of whose string offsets names a text.
use Rattle.std.specs.Bool.{⊤}
use Rattle.std.proofs.Common.{inl, inr, true, ◌≡◌, ℕ, zero, suc, ◌+◌, ◌*◌, ◌<◌, ◌≤◌, List, [], ◌∷◌, ◌++◌, length, drop, IsTrue, Option, refl, sym, ap, ◌∙◌, subst, arith}
use Rattle.std.proofs.lemmas.Bool.{cases_lt}
use Rattle.dw_base.specs.Cells.{Cell, bytes_of, cells_at, offset_into, offset_of}
use Rattle.dw_base.specs.FileViews.{View, field_at, section_bytes, view_cells}
use Rattle.dw_base.specs.Forms.{width_size}
use Rattle.dw_base.specs.NameHeaders.{name_counts, before_strings, from_strings}
use Rattle.dw_base.specs.NamePieces.{NameMode, at_table, at_string, at_rest, no_names, NameState, names_at, before_strings_of, IsTableFront, FitsNames, after_front, past_names, name_grammar, ReadsNames}
use Rattle.dw_base.specs.NameTables.{table_from, IsNameTable, string_place, texts_in, names_text, NamesTexts, TablesUpTo, no_tables, more_tables}
use Rattle.dw_base.specs.Numbers.{spelled}
use Rattle.dw_base.specs.Pieces.{Piece, joined, Chain, EachPiece}
use Rattle.dw_base.specs.Texts.{ends_in}
use Rattle.dw_base.specs.declared.name_tables.NameCounts.{NameCounts}
use Rattle.dw_base.specs.declared.name_tables.NameTable.{NameTable}
use Rattle.dw_base.specs.declared.shared.Order.{Order}
use Rattle.dw_base.specs.declared.shared.Width.{Width}
use Rattle.dw_base.specs.declared.shared.Width.TheVariants.{W32, W64}
use Rattle.dw_base.proofs.ContributionBackLaws.{StandsAt, spelled-there, initial-there, piece-stands, behind-piece, piece-inside}
use Rattle.dw_base.proofs.UnitEditLaws.{length-bytes_of}
use Rattle.dw_base.proofs.ViewCellLaws.{length-view_cells, offset_at-piece, piece-cells}

-- the counts at the front of a table stand in the section
field-there : (o : Order) (bs q : List ℕ) (a at k : ℕ) → StandsAt bs q a → at + k + 4 ≤ length q → spelled o bs (a + at + k) 4 ≡ spelled o q (at + k) 4
field-there o bs q a at k h inside =
    let place : a + at + k ≡ a + (at + k) = omega arith in
    ap (λ (p : ℕ). spelled o bs p 4) place ∙ spelled-there o bs q a (at + k) 4 h (omega (arith, inside))

counts-there : (o : Order) (bs q : List ℕ) (a at : ℕ) → StandsAt bs q a → at + 32 ≤ length q → name_counts o bs (a + at) ≡ name_counts o q at
unfolding name_counts
counts-there o bs q a at h inside =
    rw (
      field-there o bs q a at 4 h (omega (arith, inside)),
      field-there o bs q a at 8 h (omega (arith, inside)),
      field-there o bs q a at 12 h (omega (arith, inside)),
      field-there o bs q a at 16 h (omega (arith, inside)),
      field-there o bs q a at 20 h (omega (arith, inside)),
      field-there o bs q a at 24 h (omega (arith, inside)),
      field-there o bs q a at 28 h (omega (arith, inside)),
    )
    refl

-- a table whose first string offsets name texts
record TableAt (v : View) (section : ℕ) (cells : List Cell) (list : List NameTable) (count : ℕ) (width : Width) (end : ℕ) (strings names : ℕ) : Type 0 where
  start : ℕ
  table : NameTable
  before : TablesUpTo v section (bytes_of cells) list start
  is : IsNameTable v.order (bytes_of cells) start table
  ends : table.end ≡ end
  wide : table.width ≡ width
  first : table.strings ≡ strings
  many : table.names ≡ names
  texts : NamesTexts v section table count

-- what is known in front of a piece
record StringsAt (v : View) (section : ℕ) (cells : List Cell) (list : List NameTable) (width : Width) (left end place : ℕ) : Type 0 where
  count : ℕ
  strings : ℕ
  table : TableAt v section cells list count width end strings (count + left)
  place_is : place ≡ strings + count * width_size width

record RestAt (v : View) (section : ℕ) (cells : List Cell) (list : List NameTable) (end : ℕ) : Type 0 where
  width : Width
  strings : ℕ
  count : ℕ
  table : TableAt v section cells list count width end strings count

abbrev KnownBy : NameMode → View → ℕ → List Cell → ℕ → List NameTable → Type 0
KnownBy at_table v section cells place list = TablesUpTo v section (bytes_of cells) list place
KnownBy (at_string width left end) v section cells place list = StringsAt v section cells list width (suc left) end place
KnownBy (at_rest end) v section cells place list = RestAt v section cells list end
KnownBy no_names v section cells place list = ⊥

record BackAt (v : View) (section : ℕ) (cells : List Cell) (s : NameState) (list : List NameTable) (rest : List Cell) : Type 0 where
  whole : s.whole ≡ length cells
  inside : s.place ≤ length cells
  is : drop s.place cells ≡ rest
  known : KnownBy s.mode v section cells s.place list

back-strings : (v : View) (section : ℕ) (cells : List Cell) (whole place : ℕ) (width : Width) (left end : ℕ) (list : List NameTable) (rest : List Cell) → whole ≡ length cells
    → place ≤ length cells → drop place cells ≡ rest → StringsAt v section cells list width left end place
    → BackAt v section cells (before_strings_of whole place width left end) list rest
back-strings v section cells whole place width zero end list rest size inside is k = record {
  whole = size;
  inside = inside;
  is = is;
  known = record {
    width = width;
    strings = k.strings;
    count = k.count;
    table = subst (λ (n : ℕ). TableAt v section cells list k.count width end k.strings n) (omega arith) k.table;
  };
}
back-strings v section cells whole place width (suc left) end list rest size inside is k = record { whole = size; inside = inside; is = is; known = k }

-- the front of a table
front-is : (v : View) (section : ℕ) (cells : List Cell) (s : NameState) (p rest : List Cell) (list : List NameTable) → s.whole ≡ length cells → s.place ≤ length cells
    → drop s.place cells ≡ p ++ rest → TablesUpTo v section (bytes_of cells) list s.place → (f : IsTableFront v.order s p)
    → StringsAt v section cells list f.lengths.0 (name_counts v.order (bytes_of p) f.lengths.2).names (s.place + f.lengths.2 + f.lengths.1) (s.place + length p)
front-is v section cells s p rest list whole inside is before f =
    let stands : StandsAt (bytes_of cells) (bytes_of p) s.place = piece-stands cells p rest s.place inside is in
    let size = length-bytes_of p in
    let all = length-bytes_of cells in
    let counts : name_counts v.order (bytes_of cells) (s.place + f.lengths.2) ≡ name_counts v.order (bytes_of p) f.lengths.2 =
    counts-there v.order (bytes_of cells) (bytes_of p) s.place f.lengths.2 stands (omega (arith, f.header, size)) in
    let fore : before_strings f.lengths.0 (name_counts v.order (bytes_of cells) (s.place + f.lengths.2)) ≡ before_strings f.lengths.0 (name_counts v.order (bytes_of p) f.lengths.2) =
    ap (before_strings f.lengths.0) counts in
    let hind : from_strings f.lengths.0 (name_counts v.order (bytes_of cells) (s.place + f.lengths.2)) ≡ from_strings f.lengths.0 (name_counts v.order (bytes_of p) f.lengths.2) =
    ap (from_strings f.lengths.0) counts in
    record {
      count = 0;
      strings = s.place + length p;
      table = record {
        start = s.place;
        table = table_from v.order (bytes_of cells) s.place f.lengths;
        before = before;
        is = record {
          lengths = f.lengths;
          length_is = initial-there v.order (bytes_of cells) (bytes_of p) s.place f.lengths stands f.length_is (omega (arith, f.header, size));
          is = refl;
          within = omega (arith, f.within, whole, all);
          header = omega (arith, f.header, f.parts);
          version = spelled-there v.order (bytes_of cells) (bytes_of p) s.place f.lengths.2 2 stands (omega (arith, f.header, size)) ∙ f.version;
          parts = omega (arith, f.size, f.parts, fore, hind);
        };
        ends = refl;
        wide = refl;
        first = omega (arith, f.size, fore);
        many = ap (λ (c : NameCounts). c.names) counts ∙ omega arith;
        texts = record { all = λ i lt. absurd (omega (arith, lt)) };
      };
      place_is = omega arith;
    }

-- a string offset of a table names a text
width-some : (w : Width) → 0 < width_size w
width-some W32 = omega arith
width-some W64 = omega arith

string-names : (v : View) (section : ℕ) (cells p rest : List Cell) (place : ℕ) (t : NameTable) (i : ℕ) → cells ≡ view_cells v section → place ≤ length cells
    → drop place cells ≡ p ++ rest → length p ≡ width_size t.width → place ≡ string_place t i → IsTrue (ends_in (texts_in v).bytes (offset_of v.order (texts_in v) p))
    → names_text v section t i ≡ true
string-names v section cells p rest place t i own inside is size here ends =
    let part : cells_at (view_cells v section) place (length p) ≡ p =
    ap (λ (cs : List Cell). cells_at cs place (length p)) (sym own) ∙ piece-cells cells p rest place is in
    let some : 0 < length p = omega (arith, size, width-some t.width) in
    let whole : length cells ≡ length (section_bytes v section) = ap length own ∙ length-view_cells v section in
    let room : place + length p ≤ length (section_bytes v section) = omega (arith, whole, piece-inside cells p rest place inside is) in
    let value : offset_of v.order (texts_in v) p ≡ offset_into (texts_in v) (field_at v section (string_place t i) (width_size t.width)) =
    offset_at-piece v (texts_in v) section place p part some room
    ∙ ap (λ (k : ℕ). offset_into (texts_in v) (field_at v section place k)) size
    ∙ ap (λ (k : ℕ). offset_into (texts_in v) (field_at v section k (width_size t.width))) here in
    ap (ends_in (texts_in v).bytes) (sym value) ∙ ends

-- what holds of each piece: where it is a string offset it names a text
abbrev pub StringNamesBy : NameMode → View → List Cell → Type 0
StringNamesBy (at_string width left end) v p = IsTrue (ends_in (texts_in v).bytes (offset_of v.order (texts_in v) p))
StringNamesBy m v p = ⊤

abbrev pub StringNames : View → Piece NameState → Type 0
StringNames v x = StringNamesBy x.state.mode v x.cells

back-step : (m : NameMode) (v : View) (section : ℕ) (cells : List Cell) (s : NameState) (p rest : List Cell) (list : List NameTable) → cells ≡ view_cells v section
    → s.mode ≡ m → FitsNames m v.order s p → StringNamesBy m v p → BackAt v section cells s list (p ++ rest)
    → record { more : List NameTable; back : BackAt v section cells (past_names m v.order s p) more rest }
back-step at_table v section cells s p rest list own mode f names b =
    let known : TablesUpTo v section (bytes_of cells) list s.place = subst (λ (m : NameMode). KnownBy m v section cells s.place list) mode b.known in
    record {
      more = list;
      back =
          subst (λ (o : Option (Width × ℕ × ℕ)). BackAt v section cells (after_front v.order s p o) list rest) (sym f.length_is)
          (back-strings v section cells s.whole (s.place + length p) f.lengths.0 (name_counts v.order (bytes_of p) f.lengths.2).names (s.place + f.lengths.2 + f.lengths.1) list rest
          b.whole (piece-inside cells p rest s.place b.inside b.is) (behind-piece cells p rest s.place b.is)
          (front-is v section cells s p rest list b.whole b.inside b.is known f));
    }
back-step (at_string width left end) v section cells s p rest list own mode f names b =
    let k : StringsAt v section cells list width (suc left) end s.place = subst (λ (m : NameMode). KnownBy m v section cells s.place list) mode b.known in
    let t : NameTable = k.table.table in
    let wide : width_size k.table.table.width ≡ width_size width = ap width_size k.table.wide in
    let here : s.place ≡ string_place k.table.table k.count =
    k.place_is ∙ ap (λ (n : ℕ). n + k.count * width_size width) (sym k.table.first) ∙ ap (λ (n : ℕ). k.table.table.strings + k.count * n) (sym wide) in
    let one : names_text v section k.table.table k.count ≡ true =
    string-names v section cells p rest s.place k.table.table k.count own b.inside b.is (f.size ∙ sym wide) here names in
    let texts : NamesTexts v section k.table.table (k.count + 1) = record {
      all = λ i lt. elim (cases_lt i k.count) [
        | inl front ↦ k.table.texts.all i front
        | inr last ↦
            let same : i ≡ k.count = omega (arith, lt, last) in
            ap (names_text v section k.table.table) same ∙ one
      ];
    } in
    record {
      more = list;
      back = back-strings v section cells s.whole (s.place + length p) width left end list rest b.whole (piece-inside cells p rest s.place b.inside b.is)
          (behind-piece cells p rest s.place b.is)
          (record {
            count = k.count + 1;
            strings = k.strings;
            table = record {
              start = k.table.start;
              table = k.table.table;
              before = k.table.before;
              is = k.table.is;
              ends = k.table.ends;
              wide = k.table.wide;
              first = k.table.first;
              many = k.table.many ∙ omega arith;
              texts = texts;
            };
            place_is = next-place width s.place (length p) k.strings k.count f.size k.place_is;
          });
    }
  where
    next-place : (w : Width) (place size strings count : ℕ) → size ≡ width_size w → place ≡ strings + count * width_size w → place + size ≡ strings + (count + 1) * width_size w
    next-place W32 place size strings count e h = omega (arith, e, h)
    next-place W64 place size strings count e h = omega (arith, e, h)
back-step (at_rest end) v section cells s p rest list own mode f names b =
    let k : RestAt v section cells list end = subst (λ (m : NameMode). KnownBy m v section cells s.place list) mode b.known in
    record {
      more = list ++ k.table.table ∷ [];
      back = record {
        whole = b.whole;
        inside = subst (λ (n : ℕ). n ≤ length cells) f (piece-inside cells p rest s.place b.inside b.is);
        is = subst (λ (n : ℕ). drop n cells ≡ rest) f (behind-piece cells p rest s.place b.is);
        known = subst (λ (n : ℕ). TablesUpTo v section (bytes_of cells) (list ++ k.table.table ∷ []) n) k.table.ends
            (more_tables list k.table.table k.table.start k.table.before
            (record { table = k.table.is; texts = subst (NamesTexts v section k.table.table) (sym k.table.many) k.table.texts }));
      };
    }
back-step no_names v section cells s p rest list own mode f names b = absurd f

pub record TablesBack (v : View) (section : ℕ) (cells : List Cell) : Type 0 where
  pub all : List NameTable
  pub up : TablesUpTo v section (bytes_of cells) all (length (bytes_of cells))

back-from : (v : View) (section : ℕ) (cells : List Cell) (s : NameState) (xs : List (Piece NameState)) (list : List NameTable) → cells ≡ view_cells v section
    → Chain (name_grammar v.order) s xs → EachPiece (StringNames v) xs → BackAt v section cells s list (joined xs) → TablesBack v section cells
back-from v section cells s [] list same chain each b =
    let known : TablesUpTo v section (bytes_of cells) list s.place = subst (λ (m : NameMode). KnownBy m v section cells s.place list) chain.mode b.known in
    record { all = list; up = subst (λ (k : ℕ). TablesUpTo v section (bytes_of cells) list k) (chain.place ∙ b.whole ∙ sym (length-bytes_of cells)) known }
back-from v section cells s (x ∷ xs) list same chain each b =
    let own : BackAt v section cells x.state list (x.cells ++ joined xs) = subst (λ (z : NameState). BackAt v section cells z list (x.cells ++ joined xs)) (sym chain.0) b in
    let step = back-step x.state.mode v section cells x.state x.cells (joined xs) list same refl chain.1 each.0 own in
    back-from v section cells (past_names x.state.mode v.order x.state x.cells) xs step.more same chain.2 each.1 step.back

-- name tables that are pieces, whose string offsets name texts, are tables that fill the section
pub tables-back : (v : View) (section : ℕ) (cells : List Cell) (xs : List (Piece NameState)) → cells ≡ view_cells v section → ReadsNames v.order cells xs
    → EachPiece (StringNames v) xs → TablesBack v section cells
tables-back v section cells xs same r each =
    back-from v section cells (names_at (length cells) 0 at_table) xs [] same r.chain each
    (record { whole = refl; inside = omega arith; is = sym r.cells; known = no_tables })
