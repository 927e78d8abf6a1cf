-- Name tables whose string offsets read as fields of their section: none that a reader meets is refused, wherever it stops.
use Rattle.std.proofs.Common.{◌≡◌, ℕ, zero, suc, ◌+◌, ◌*◌, ◌<◌, ◌≤◌, List, [], ◌∷◌, ◌++◌, length, drop, Option, Some, refl, sym, ap, ◌∙◌, subst, arith, append_assoc}
use Rattle.std.specs.Prelude.{Result, Ok, Err}
use Rattle.dw_base.specs.Cells.{Cell, bytes_of}
use Rattle.dw_base.specs.FileViews.{View, field_at, section_bytes, view_cells}
use Rattle.dw_base.specs.Forms.{width_size}
use Rattle.dw_base.specs.Lebs.{initial_length_at}
use Rattle.dw_base.specs.NameHeaders.{before_strings, name_counts}
use Rattle.dw_base.specs.NameOffsets.{OffsetRefuses, ReadUpTo, more_read, no_offset, none_read}
use Rattle.dw_base.specs.NamePieces.{IsTableFront, NameMode, NameState, ReadsNames, after_front, at_rest, at_string, at_table, before_strings_of, name_grammar, names_at, no_names, past_names, FitsNames}
use Rattle.dw_base.specs.NameTables.{IsNameTable, string_place, table_from}
use Rattle.dw_base.specs.Numbers.{spelled}
use Rattle.dw_base.specs.Pieces.{Chain, Piece, joined}
use Rattle.dw_base.specs.RelocationRows.{FieldPlace, FieldsRead, IsField, OffsetReads, field_place, name_field, name_fields, offset_field}
use Rattle.dw_base.specs.ViewOffsets.{offset_read}
use Rattle.dw_base.specs.declared.fault.Refusal.{Refusal}
use Rattle.dw_base.specs.declared.name_tables.NameCounts.{NameCounts}
use Rattle.dw_base.specs.declared.name_tables.NameTable.{NameTable}
use Rattle.dw_base.specs.declared.shared.Order.{Order}
use Rattle.dw_base.specs.declared.shared.Width.{Width}
use Rattle.dw_base.specs.declared.shared.Width.TheVariants.{W32, W64}
use Rattle.dw_base.specs.declared.view_fields.Field.{Field}
use Rattle.dw_base.proofs.ContributionBackLaws.{StandsAt, behind-piece, initial-there, piece-inside, piece-stands, spelled-there}
use Rattle.dw_base.proofs.UnitEditLaws.{length-bytes_of}
use Rattle.dw_base.proofs.ViewCellLaws.{length-view_cells}
use Rattle.dw_base.proofs.ViewOffsetLaws.{reads-offset}
use Rattle.dw_meaning.proofs.FieldPutLaws.{width-some}

-- a field of a list, in front of others or behind some
pub first-field : (f : FieldPlace) (fs : List FieldPlace) → IsField (f ∷ fs) f
first-field f fs = record { before = []; behind = fs; is = refl }

pub field-behind : (fs gs : List FieldPlace) (f : FieldPlace) → IsField gs f → IsField (fs ++ gs) f
field-behind [] gs f h = h
field-behind (x ∷ xs) gs f h =
    let rest = field-behind xs gs f h in
    record { before = x ∷ rest.before; behind = rest.behind; is = ap (λ (l : List FieldPlace). x ∷ l) rest.is }

pub front-field : (fs gs : List FieldPlace) (f : FieldPlace) → IsField fs f → IsField (fs ++ gs) f
front-field fs gs f h = record {
  before = h.before;
  behind = h.behind ++ gs;
  is = ap (λ (l : List FieldPlace). l ++ gs) h.is ∙ append_assoc h.before (f ∷ h.behind) gs;
}

-- a field that reads, and lies in the section
pub record FieldHere (order : Order) (cells : List Cell) (place size : ℕ) : Type 0 where
  pub reads : OffsetReads order cells (field_place place size offset_field)
  pub inside : place + size ≤ length cells

-- pieces from a place on, in front of a table, whose fields read
record TableAt (order : Order) (cells : List Cell) (place : ℕ) : Type 0 where
  rest : List (Piece NameState)
  chain : Chain (name_grammar order) (names_at (length cells) place at_table) rest
  inside : place ≤ length cells
  is : drop place cells ≡ joined rest
  fields : (f : FieldPlace) → IsField (name_fields rest) f → OffsetReads order cells f

-- so many string offsets from a place on
record StringsHere (order : Order) (cells : List Cell) (width : Width) (left end place : ℕ) : Type 0 where
  each : (i : ℕ) → i < left → FieldHere order cells (place + i * width_size width) (width_size width)
  behind : TableAt order cells end

strings-here : (order : Order) (cells : List Cell) (width : Width) (left end place : ℕ) (xs : List (Piece NameState))
    → Chain (name_grammar order) (before_strings_of (length cells) place width left end) xs → place ≤ length cells → drop place cells ≡ joined xs
    → ((f : FieldPlace) → IsField (name_fields xs) f → OffsetReads order cells f) → StringsHere order cells width left end place
strings-here order cells width zero end place [] chain inside is fields = let no = chain.mode in absurd cc
strings-here order cells width zero end place (x ∷ xs) chain inside is fields =
    let fits : FitsNames (at_rest end) order (names_at (length cells) place (at_rest end)) x.cells =
    subst (λ (s : NameState). FitsNames s.mode order s x.cells) chain.0 chain.1 in
    let next : Chain (name_grammar order) (names_at (length cells) end at_table) xs =
    subst (λ (s : NameState). Chain (name_grammar order) (past_names s.mode order s x.cells) xs) chain.0 chain.2 in
    record {
      each = λ i lt. absurd (omega (arith, lt));
      behind = record {
        rest = xs;
        chain = next;
        inside = subst (λ (n : ℕ). n ≤ length cells) fits (piece-inside cells x.cells (joined xs) place inside is);
        is = subst (λ (n : ℕ). drop n cells ≡ joined xs) fits (behind-piece cells x.cells (joined xs) place is);
        fields = λ f h. fields f (field-behind (name_field x.state.mode x.state.place) (name_fields xs) f h);
      };
    }
strings-here order cells width (suc left) end place [] chain inside is fields = let no = chain.mode in absurd cc
strings-here order cells width (suc left) end place (x ∷ xs) chain inside is fields =
    let fits : FitsNames (at_string width left end) order (names_at (length cells) place (at_string width left end)) x.cells =
    subst (λ (s : NameState). FitsNames s.mode order s x.cells) chain.0 chain.1 in
    let next : Chain (name_grammar order) (before_strings_of (length cells) (place + length x.cells) width left end) xs =
    subst (λ (s : NameState). Chain (name_grammar order) (past_names s.mode order s x.cells) xs) chain.0 chain.2 in
    let room : place + length x.cells ≤ length cells = piece-inside cells x.cells (joined xs) place inside is in
    let list : name_fields (x ∷ xs) ≡ field_place place (width_size width) offset_field ∷ name_fields xs =
    ap (λ (s : NameState). name_field s.mode s.place ++ name_fields xs) chain.0 in
    let here : FieldHere order cells place (width_size width) = record {
      reads = fields (field_place place (width_size width) offset_field)
          (subst (λ (fs : List FieldPlace). IsField fs (field_place place (width_size width) offset_field)) (sym list) (first-field _ (name_fields xs)));
      inside = subst (λ (n : ℕ). place + n ≤ length cells) fits.size room;
    } in
    let rest : StringsHere order cells width left end (place + length x.cells) =
    strings-here order cells width left end (place + length x.cells) xs next room (behind-piece cells x.cells (joined xs) place is)
    (λ f h. fields f (field-behind (name_field x.state.mode x.state.place) (name_fields xs) f h)) in
    record { each = λ i lt. by_number i lt here rest.each fits.size; behind = rest.behind }
  where
    nothing : (w : Width) (p : ℕ) → p ≡ p + 0 * width_size w
    nothing W32 p = omega arith
    nothing W64 p = omega arith

    further : (w : Width) (p size i : ℕ) → size ≡ width_size w → p + size + i * width_size w ≡ p + suc i * width_size w
    further W32 p size i e = omega (arith, e)
    further W64 p size i e = omega (arith, e)

    by_number : (i : ℕ) → i < suc left → FieldHere order cells place (width_size width)
        → ((k : ℕ) → k < left → FieldHere order cells (place + length x.cells + k * width_size width) (width_size width)) → length x.cells ≡ width_size width
        → FieldHere order cells (place + i * width_size width) (width_size width)
    by_number zero lt here rest size =
        subst (λ (n : ℕ). FieldHere order cells n (width_size width)) (nothing width place) here
    by_number (suc i) lt here rest size =
        subst (λ (n : ℕ). FieldHere order cells n (width_size width)) (further width place (length x.cells) i size) (rest i (omega (arith, lt)))

-- the counts at the front of a table stand in the section
field-there : (o : Order) (bs q : List ℕ) (a at k : ℕ) → StandsAt bs q a → at + k + 4 ≤ length q → spelled o bs (a + at + k) 4 ≡ spelled o q (at + k) 4
field-there o bs q a at k h inside =
    let place : a + at + k ≡ a + (at + k) = omega arith in
    ap (λ (p : ℕ). spelled o bs p 4) place ∙ spelled-there o bs q a (at + k) 4 h (omega (arith, inside))

counts-there : (o : Order) (bs q : List ℕ) (a at : ℕ) → StandsAt bs q a → at + 32 ≤ length q → name_counts o bs (a + at) ≡ name_counts o q at
unfolding name_counts
counts-there o bs q a at h inside =
    rw (
      field-there o bs q a at 4 h (omega (arith, inside)),
      field-there o bs q a at 8 h (omega (arith, inside)),
      field-there o bs q a at 12 h (omega (arith, inside)),
      field-there o bs q a at 16 h (omega (arith, inside)),
      field-there o bs q a at 20 h (omega (arith, inside)),
      field-there o bs q a at 24 h (omega (arith, inside)),
      field-there o bs q a at 28 h (omega (arith, inside)),
    )
    refl

some-once : (l m : Width × ℕ × ℕ) (o : Option (Width × ℕ × ℕ)) → o ≡ Some l → o ≡ Some m → l ≡ m
some-once l m o e f = by_kind (sym e ∙ f)
  where
    by_kind : Some l ≡ Some m → l ≡ m
    by_kind g = cc

-- a table that a reader meets
record TableHere (order : Order) (cells : List Cell) (t : NameTable) : Type 0 where
  each : (i : ℕ) → i < t.names → FieldHere order cells (string_place t i) (width_size t.width)
  behind : TableAt order cells t.end

table-here : (order : Order) (cells : List Cell) (place : ℕ) (t : NameTable) → IsNameTable order (bytes_of cells) place t → TableAt order cells place → TableHere order cells t
table-here order cells place t is a = by_rest a.rest a.chain a.is a.fields
  where
    by_rest : (xs : List (Piece NameState)) → Chain (name_grammar order) (names_at (length cells) place at_table) xs → drop place cells ≡ joined xs
        → ((f : FieldPlace) → IsField (name_fields xs) f → OffsetReads order cells f) → TableHere order cells t
    by_rest [] chain at fields =
        let last = chain.place in
        let size = length-bytes_of cells in
        let header = is.header in
        let within = is.within in
        absurd (omega (arith, last, size, header, within))
    by_rest (x ∷ xs) chain at fields =
        let f : IsTableFront order (names_at (length cells) place at_table) x.cells =
        subst (λ (s : NameState). FitsNames s.mode order s x.cells) chain.0 chain.1 in
        let next : Chain (name_grammar order) (after_front order (names_at (length cells) place at_table) x.cells (initial_length_at order (bytes_of x.cells) 0)) xs =
        subst (λ (s : NameState). Chain (name_grammar order) (past_names s.mode order s x.cells) xs) chain.0 chain.2 in
        let stands : StandsAt (bytes_of cells) (bytes_of x.cells) place = piece-stands cells x.cells (joined xs) place a.inside at in
        let own = length-bytes_of x.cells in
        let header = f.header in
        let whole : initial_length_at order (bytes_of cells) place ≡ Some f.lengths =
        initial-there order (bytes_of cells) (bytes_of x.cells) place f.lengths stands f.length_is (omega (arith, header, own)) in
        let same : is.lengths ≡ f.lengths = some-once is.lengths f.lengths (initial_length_at order (bytes_of cells) place) is.length_is whole in
        let counts : name_counts order (bytes_of cells) (place + f.lengths.2) ≡ name_counts order (bytes_of x.cells) f.lengths.2 =
        counts-there order (bytes_of cells) (bytes_of x.cells) place f.lengths.2 stands (omega (arith, header, own)) in
        let table : t ≡ table_from order (bytes_of cells) place f.lengths = is.is ∙ ap (table_from order (bytes_of cells) place) same in
        let fore = ap (before_strings f.lengths.0) counts in
        let size = f.size in
        let first : place + length x.cells ≡ place + f.lengths.2 + 32 + before_strings f.lengths.0 (name_counts order (bytes_of cells) (place + f.lengths.2)) =
        omega (arith, size, fore) in
        let s : StringsHere order cells f.lengths.0 (name_counts order (bytes_of x.cells) f.lengths.2).names (place + f.lengths.2 + f.lengths.1) (place + length x.cells) =
        strings-here order cells f.lengths.0 (name_counts order (bytes_of x.cells) f.lengths.2).names (place + f.lengths.2 + f.lengths.1) (place + length x.cells) xs
        (subst (λ (o : Option (Width × ℕ × ℕ)). Chain (name_grammar order) (after_front order (names_at (length cells) place at_table) x.cells o) xs) f.length_is next)
        (piece-inside cells x.cells (joined xs) place a.inside at) (behind-piece cells x.cells (joined xs) place at)
        (λ g h. fields g (field-behind (name_field x.state.mode x.state.place) (name_fields xs) g h)) in
        subst (TableHere order cells) (sym table) (record {
          each = λ i lt.
              subst (λ (n : ℕ). FieldHere order cells (n + i * width_size f.lengths.0) (width_size f.lengths.0)) first
              (s.each i (subst (λ (n : NameCounts). i < n.names) counts lt));
          behind = s.behind;
        })

-- behind tables that a reader meets
tables-here : (v : View) (section : ℕ) (cells : List Cell) (list : List NameTable) (place : ℕ) → TableAt v.order cells 0 → ReadUpTo v section (bytes_of cells) list place
    → TableAt v.order cells place
tables-here v section cells list place first none_read = first
tables-here v section cells list place first (more_read before t start u is reads) =
    (table-here v.order cells start t is.table (tables-here v section cells before start first u)).behind

-- so no string offset of one is refused
ok-err : (f : Field) (r : Refusal) (x : Result Field Refusal) → x ≡ Ok f → x ≡ Err r → ⊥
ok-err f r x e g = by_kind (sym e ∙ g)
  where
    by_kind : ◌≡◌ {A = Result Field Refusal} (Ok f) (Err r) → ⊥
    by_kind h = cc

pub here-read : (v : View) (section place : ℕ) (w : Width) (cells : List Cell) (r : Refusal) → cells ≡ view_cells v section → FieldHere v.order cells place (width_size w)
    → offset_read v section place (width_size w) ≡ Err r → ⊥
here-read v section place w cells r own h e =
    let size : length cells ≡ length (section_bytes v section) = ap length own ∙ length-view_cells v section in
    let inside = h.inside in
    ok-err (field_at v section place (width_size w)) r (offset_read v section place (width_size w))
    (reads-offset v section place (width_size w) (width-some w) (omega (arith, size, inside))
    (subst (λ (p : List Cell). OffsetReads v.order p (field_place place (width_size w) offset_field)) own h.reads)) e

table-refused : (v : View) (section : ℕ) (cells : List Cell) (t : NameTable) (r : Refusal) → cells ≡ view_cells v section → TableHere v.order cells t → OffsetRefuses v section t r → ⊥
table-refused v section cells t r own h (no_offset i lt texts before e) = here-read v section (string_place t i) t.width cells r own (h.each i lt) e

pub names-refused : (v : View) (section : ℕ) (cells : List Cell) (moving : List ℕ) (xs : List (Piece NameState)) (list : List NameTable) (start : ℕ) (t : NameTable) (r : Refusal)
    → cells ≡ view_cells v section → ReadsNames v.order cells xs → FieldsRead v.order cells moving (name_fields xs) → ReadUpTo v section (bytes_of cells) list start
    → IsNameTable v.order (bytes_of cells) start t → OffsetRefuses v section t r → ⊥
names-refused v section cells moving xs list start t r own reads fields u is f =
    let first : TableAt v.order cells 0 = record {
      rest = xs;
      chain = reads.chain;
      inside = omega arith;
      is = sym reads.cells;
      fields = λ g h. fields.offsets g h (name-offset xs g h);
    } in
    table-refused v section cells t r own (table-here v.order cells start t is (tables-here v section cells list start first u)) f
  where
    name-use : (m : NameMode) (place : ℕ) (g : FieldPlace) (rest : List FieldPlace) → IsField (name_field m place ++ rest) g → (IsField rest g → g.use_is ≡ offset_field)
        → g.use_is ≡ offset_field
    name-use (at_string w left end) place g rest h more = by_list h.before h.is
      where
        by_list : (before : List FieldPlace) → field_place place (width_size w) offset_field ∷ rest ≡ before ++ g ∷ h.behind → g.use_is ≡ offset_field
        by_list [] e = let same : field_place place (width_size w) offset_field ≡ g = cc in ap (λ (x : FieldPlace). x.use_is) (sym same)
        by_list (x ∷ xs) e = let tail : rest ≡ xs ++ g ∷ h.behind = cc in more (record { before = xs; behind = h.behind; is = tail })
    name-use at_table place g rest h more = more h
    name-use (at_rest end) place g rest h more = more h
    name-use no_names place g rest h more = more h

    name-offset : (xs : List (Piece NameState)) (g : FieldPlace) → IsField (name_fields xs) g → g.use_is ≡ offset_field
    name-offset [] g h = absurd (empty h.before h.is)
      where
        empty : (before : List FieldPlace) → [] ≡ before ++ g ∷ h.behind → ⊥
        empty [] e = cc
        empty (x ∷ xs) e = cc
    name-offset (x ∷ xs) g h = name-use x.state.mode x.state.place g (name_fields xs) h (λ k. name-offset xs g k)
