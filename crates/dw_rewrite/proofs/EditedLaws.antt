-- The new texts and the new bytes of a unit section, by its pieces and by what they say of paths.
use Rattle.std.proofs.Common.{Bool, true, false, ◌≡◌, ℕ, ◌+◌, ◌-◌, ◌≤◌, List, [], ◌∷◌, ◌++◌, length, take, drop, get_or, Option, Some, None, sym, ap, ◌∙◌, refl, arith, append_assoc}
use Rattle.std.proofs.Math.Seq.{drop-append_seam, take-append_seam, take-append-add, drop-append-add}
use Rattle.std.proofs.lemmas.List.{take-append-le, drop-append-le}
use Rattle.dw_base.specs.Cells.{Cell, bytes_of, cells_at, offset_of, with_bytes}
use Rattle.dw_base.specs.DebugData.{Around, start_number, table_of}
use Rattle.dw_base.specs.LineReadings.{starts_from}
use Rattle.dw_base.specs.InlinePaths.{inline_fits, mapped_inline}
use Rattle.dw_base.specs.Paths.{PathMap}
use Rattle.dw_base.specs.Pieces.{Piece, joined}
use Rattle.dw_base.specs.Roles.{Role, fixed, offset, inline_path, line_start, role_of}
use Rattle.dw_base.specs.StringTables.{Mention, with_mention, texts_after, new_place}
use Rattle.dw_base.specs.NewOffsets.{with_offset}
use Rattle.dw_base.specs.TextChanges.{TableChanges, mention_at, mentions_by, mentions_of, moved_field, moved_start, change_of, edited_by}
use Rattle.dw_base.specs.Texts.{text, text_in}
use Rattle.dw_base.specs.UnitStates.{UnitState}
use Rattle.dw_base.proofs.InlineLaws.{length-mapped_inline}
use Rattle.dw_base.proofs.RelocationFieldLaws.{bytes_of-drop}
use Rattle.dw_base.proofs.UnitEditLaws.{length-bytes_of}
use Rattle.dw_base.proofs.UnitHeaderLaws.{bytes_of-append}
use Rattle.dw_base.proofs.ViewCellLaws.{piece-cells}
use Rattle.dw_base.specs.declared.debug_sections.DebugSection.TheVariants.{Line}
use Rattle.dw_offsets.specs.declared.fields.OffsetField.{OffsetField}
use Rattle.dw_base.specs.declared.texts.TextSection.{TextSection}
use Rattle.dw_base.specs.declared.texts.TextSection.TheVariants.{InStr, InLineStr}
use Rattle.dw_rewrite.specs.Changes.{FieldSource, new_start, offset_at, offset_bytes, patched, patched_at, field_mention, put_at, start_known, texts_at, with_all_known, with_known}
use Rattle.dw_unit_fields.specs.SectionFields.{field_by, piece_fields, inline_text}
use Rattle.dw_rewrite.specs.UnitsAfter.{inlined_at, start_source, text_source}
use Rattle.dw_unit_fields.proofs.PlacedLaws.{PlacedCells}
use Rattle.dw_unit_fields.proofs.PieceFieldLaws.{FieldsFrom}

-- a field of a piece at a place, of a path or not
abbrev field_at : Bool → ℕ → List Cell → OffsetField
field_at path place p = record { at = place; size = length p; path = path }

-- a piece stands in cells at a place
pub piece-there : (p more cells : List Cell) (place : ℕ) → p ++ more ≡ drop place cells → cells_at cells place (length p) ≡ p
piece-there p more cells place e = piece-cells cells p more place (sym e)

pub bytes-there : (p more cells : List Cell) (place : ℕ) → p ++ more ≡ drop place cells → bytes_of p ++ bytes_of more ≡ drop place (bytes_of cells)
bytes-there p more cells place e = sym (bytes_of-append p more) ∙ ap bytes_of e ∙ bytes_of-drop place cells

-- the mention of a piece is that of its field
mention_is : (around : Around) (table : TextSection) (path : Bool) (p more cells : List Cell) (place : ℕ) → p ++ more ≡ drop place cells
    → mention_at around table path p ≡ field_mention (text_source around cells table) (field_at path place p)
mention_is around table path p more cells place e =
    ap (λ (q : List Cell). record { path = path; text = text_in (table_of around table).bytes (offset_of around.lasting.base.order (table_of around table) q) })
    (sym (piece-there p more cells place e))

-- what a piece adds to the texts
pub piece_texts : (r : Role) (table : TextSection) (m : PathMap) (around : Around) (cells : List Cell) (ts : List (List ℕ)) (p behind : List Cell) (place : ℕ) (more : List Mention)
    (fs : List OffsetField) → p ++ behind ≡ drop place cells
    → ((us : List (List ℕ)) → texts_after m us more ≡ texts_at m (text_source around cells table) us fs)
    → texts_after m ts (mentions_by r table around p ++ more) ≡ texts_at m (text_source around cells table) ts (field_by table r place (length p) ++ fs)
piece_texts fixed InStr m around cells ts p behind place more fs e h = h ts
piece_texts fixed InLineStr m around cells ts p behind place more fs e h = h ts
piece_texts inline_path InStr m around cells ts p behind place more fs e h = h ts
piece_texts inline_path InLineStr m around cells ts p behind place more fs e h = h ts
piece_texts line_start InStr m around cells ts p behind place more fs e h = h ts
piece_texts line_start InLineStr m around cells ts p behind place more fs e h = h ts
piece_texts (offset InStr path) InStr m around cells ts p behind place more fs e h =
    ap (λ (x : Mention). texts_after m (with_mention m ts x) more) (mention_is around InStr path p behind cells place e)
    ∙ h (with_mention m ts (field_mention (text_source around cells InStr) (field_at path place p)))
piece_texts (offset InStr path) InLineStr m around cells ts p behind place more fs e h = h ts
piece_texts (offset InLineStr path) InStr m around cells ts p behind place more fs e h = h ts
piece_texts (offset InLineStr path) InLineStr m around cells ts p behind place more fs e h =
    ap (λ (x : Mention). texts_after m (with_mention m ts x) more) (mention_is around InLineStr path p behind cells place e)
    ∙ h (with_mention m ts (field_mention (text_source around cells InLineStr) (field_at path place p)))

-- the texts of pieces are those of their fields
pub texts_by_fields : (table : TextSection) (m : PathMap) (around : Around) (cells : List Cell) (ts : List (List ℕ)) (place : ℕ) (xs : List (Piece UnitState))
    → PlacedCells cells place xs
    → texts_after m ts (mentions_of table around xs) ≡ texts_at m (text_source around cells table) ts (piece_fields table xs)
texts_by_fields table m around cells ts place [] l = refl
texts_by_fields table m around cells ts place (x ∷ xs) l =
    piece_texts (role_of x) table m around cells ts x.cells (joined xs) place (mentions_of table around xs) (piece_fields table xs) l.1
    (λ (us : List (List ℕ)). texts_by_fields table m around cells us (place + length x.cells) xs l.2)
    ∙ ap (λ (i : ℕ). texts_at m (text_source around cells table) ts (field_by table (role_of x) i (length x.cells) ++ piece_fields table xs)) (sym l.0)

-- these bytes, behind a front, go from one to another, whatever follows them
abbrev pub Turns : (List ℕ → List ℕ) → List ℕ → List ℕ → List ℕ → Type 0
Turns F front p q = (rest : List ℕ) → F (front ++ (p ++ rest)) ≡ front ++ (q ++ rest)

-- bytes put behind others, in place of so many
put_behind : (front p q rest : List ℕ) (place n : ℕ) → length front ≡ place → length p ≡ n → put_at (front ++ (p ++ rest)) place n q ≡ front ++ (q ++ rest)
put_behind front p q rest place n at size =
    let before : take place (front ++ (p ++ rest)) ≡ front = ap (λ (i : ℕ). take i (front ++ (p ++ rest))) (sym at) ∙ take-append_seam front (p ++ rest) in
    let skip : drop n (p ++ rest) ≡ rest = ap (λ (i : ℕ). drop i (p ++ rest)) (sym size) ∙ drop-append_seam p rest in
    let behind : drop (place + n) (front ++ (p ++ rest)) ≡ rest =
    ap (λ (i : ℕ). drop (i + n) (front ++ (p ++ rest))) (sym at) ∙ drop-append-add front (p ++ rest) n ∙ skip in
    ap (λ (b : List ℕ). b ++ q ++ drop (place + n) (front ++ (p ++ rest))) before
    ∙ ap (λ (b : List ℕ). front ++ q ++ b) behind ∙ append_assoc front q rest

-- what a field with a new place becomes
field_turns : (path : Bool) (s : FieldSource) (front : List ℕ) (p : List Cell) (rest : List ℕ) (place x : ℕ) → length front ≡ place → cells_at s.cells place (length p) ≡ p
    → put_at (front ++ (bytes_of p ++ rest)) place (length p) (offset_bytes s (field_at path place p) x) ≡ front ++ (bytes_of (with_offset s.order p x) ++ rest)
field_turns path s front p rest place x at there =
    put_behind front (bytes_of p) (offset_bytes s (field_at path place p) x) rest place (length p) at (length-bytes_of p)
    ∙ ap (λ (q : List Cell). front ++ (bytes_of (with_offset s.order q x) ++ rest)) there

pub patched_turns : (table : TextSection) (path : Bool) (changes : TableChanges) (around : Around) (cells : List Cell) (front : List ℕ) (p behind : List Cell) (place : ℕ)
    → length front ≡ place → p ++ behind ≡ drop place cells
    → Turns (λ out. patched_at (change_of changes table) changes.map (text_source around cells table) out (field_at path place p)) front (bytes_of p)
    (bytes_of (edited_by (offset table path) changes around p))
patched_turns table path changes around cells front p behind place at e rest =
    let x : Mention = field_mention (text_source around cells table) (field_at path place p) in
    let same : mention_at around table path p ≡ field_mention (text_source around cells table) (field_at path place p) = mention_is around table path p behind cells place e in
    field_turns path (text_source around cells table) front p rest place
    (new_place changes.map (change_of changes table) x) at (piece-there p behind cells place e)
    ∙ ap (λ (y : Mention). front ++ (bytes_of (moved_field (change_of changes table) changes.map around.lasting.base.order y p) ++ rest)) (sym same)

-- a field that says where a line table starts
start_put : (s : FieldSource) (news : List ℕ) (number : Option ℕ) (front : List ℕ) (p : List Cell) (rest : List ℕ) (place : ℕ) → length front ≡ place → cells_at s.cells place (length p) ≡ p
    → with_known s (front ++ (bytes_of p ++ rest)) (field_at false place p) (new_start news number) ≡ front ++ (bytes_of (moved_start news s.order number p) ++ rest)
start_put s news None front p rest place at there = refl
start_put s news (Some k) front p rest place at there = field_turns false s front p rest place (get_or news k 0) at there

pub start_turns : (changes : TableChanges) (around : Around) (cells : List Cell) (front : List ℕ) (p behind : List Cell) (place : ℕ)
    → length front ≡ place → p ++ behind ≡ drop place cells
    → Turns (λ out. with_known (start_source around cells) out (field_at false place p)
    (start_known (around.stands Line).starts (starts_from 0 (changes.new Line)) false (offset_at (start_source around cells) (field_at false place p)))) front (bytes_of p)
    (bytes_of (edited_by line_start changes around p))
start_turns changes around cells front p behind place at e rest =
    let there : cells_at cells place (length p) ≡ p = piece-there p behind cells place e in
    start_put (start_source around cells) (starts_from 0 (changes.new Line)) (start_number 0 (around.stands Line).starts (offset_at (start_source around cells) (field_at false place p))) front p rest place at there
    ∙ ap (λ (q : List Cell). front ++ (bytes_of (moved_start (starts_from 0 (changes.new Line)) around.lasting.base.order
    (start_number 0 (around.stands Line).starts (offset_of around.lasting.base.order (around.stands Line).located q)) p) ++ rest)) there

-- bytes put over the first of a piece
pub bytes-put : (p : List Cell) (q : List ℕ) → length q ≤ length p → bytes_of (with_bytes p q) ≡ q ++ drop (length q) (bytes_of p)
bytes-put [] [] short = refl
bytes-put [] (b ∷ bs) short = absurd (omega (arith, short))
bytes-put (c ∷ cs) [] short = refl
bytes-put (c ∷ cs) (b ∷ bs) short = ap (λ (l : List ℕ). b ∷ l) (bytes-put cs bs (omega (arith, short)))

-- a path in its room
pub inlined_turns : (changes : TableChanges) (around : Around) (cells : List Cell) (front : List ℕ) (p behind : List Cell) (place : ℕ)
    → length front ≡ place → p ++ behind ≡ drop place cells → inline_fits changes.map (text (bytes_of p)) ≡ true
    → length (text (bytes_of p)) ≤ length (bytes_of p) → text (bytes_of p) ≡ take (length (text (bytes_of p))) (bytes_of p)
    → Turns (λ out. inlined_at changes.map (bytes_of cells) out (record { at = place; len = length (text (bytes_of p)) })) front (bytes_of p)
    (bytes_of (edited_by inline_path changes around p))
inlined_turns changes around cells front p behind place at e fits short is rest =
    let t : List ℕ = text (bytes_of p) in
    let q : List ℕ = mapped_inline changes.map t in
    let size : length (mapped_inline changes.map (text (bytes_of p))) ≡ length (text (bytes_of p)) = length-mapped_inline changes.map (text (bytes_of p)) fits in
    let same : inline_text (bytes_of cells) (record { at = place; len = length t }) ≡ t =
    ap (take (length t)) (sym (bytes-there p behind cells place e)) ∙ take-append-le (length t) (bytes_of p) (bytes_of behind) short ∙ sym is in
    let before : take place (front ++ (bytes_of p ++ rest)) ≡ front = ap (λ (i : ℕ). take i (front ++ (bytes_of p ++ rest))) (sym at) ∙ take-append_seam front (bytes_of p ++ rest) in
    let after : drop (place + length t) (front ++ (bytes_of p ++ rest)) ≡ drop (length t) (bytes_of p) ++ rest =
    ap (λ (i : ℕ). drop (i + length t) (front ++ (bytes_of p ++ rest))) (sym at) ∙ drop-append-add front (bytes_of p ++ rest) (length t)
    ∙ drop-append-le (length t) (bytes_of p) rest short in
    let written : bytes_of (with_bytes p q) ≡ q ++ drop (length t) (bytes_of p) =
    bytes-put p q (omega (arith, size, short, length-bytes_of p))
    ∙ ap (λ (n : ℕ). q ++ drop n (bytes_of p)) size in
    ap (λ (b : List ℕ). b ++ mapped_inline changes.map (inline_text (bytes_of cells) (record { at = place; len = length t })) ++ drop (place + length t) (front ++ (bytes_of p ++ rest))) before
    ∙ ap (λ (b : List ℕ). front ++ mapped_inline changes.map b ++ drop (place + length t) (front ++ (bytes_of p ++ rest))) same
    ∙ ap (λ (b : List ℕ). front ++ q ++ b) after
    ∙ append_assoc front q (drop (length t) (bytes_of p) ++ rest)
    ∙ ap (λ (b : List ℕ). front ++ b) (sym (append_assoc q (drop (length t) (bytes_of p)) rest))
    ∙ ap (λ (b : List ℕ). front ++ (b ++ rest)) (sym written)

-- bytes at the front, so many, stay as they are, and what becomes of those behind them doesn't depend on them
pub record Behind (F : List ℕ → List ℕ) (n : ℕ) (rest : List ℕ) : Type 0 where
  pub after : List ℕ
  pub is : (front : List ℕ) → length front ≡ n → F (front ++ rest) ≡ front ++ after

behind-same : (n : ℕ) (rest : List ℕ) → Behind (λ out. out) n rest
behind-same n rest = record { after = rest; is = λ (front : List ℕ) e. refl }

-- bytes that are put behind the front
put-behind : (n at size : ℕ) (bytes rest : List ℕ) → n ≤ at → Behind (λ out. put_at out at size bytes) n rest
put-behind n at size bytes rest le = record {
  after = take (at - n) rest ++ bytes ++ drop (at - n + size) rest;
  is = λ (front : List ℕ) (e : length front ≡ n).
      let split : at ≡ length front + (at - n) = omega (arith, le, e) in
      let more : at + size ≡ length front + (at - n + size) = omega (arith, le, e) in
      let before : take at (front ++ rest) ≡ front ++ take (at - n) rest = ap (λ (i : ℕ). take i (front ++ rest)) split ∙ take-append-add front rest (at - n) in
      let behind : drop (at + size) (front ++ rest) ≡ drop (at - n + size) rest = ap (λ (i : ℕ). drop i (front ++ rest)) more ∙ drop-append-add front rest (at - n + size) in
      ap (λ (b : List ℕ). b ++ bytes ++ drop (at + size) (front ++ rest)) before
      ∙ ap (λ (b : List ℕ). (front ++ take (at - n) rest) ++ bytes ++ b) behind
      ∙ ap (λ (b : List ℕ). b ++ drop (at - n + size) rest) (append_assoc front (take (at - n) rest) bytes)
      ∙ append_assoc front (take (at - n) rest ++ bytes) (drop (at - n + size) rest);
}

pub patched-behind : (ts : List (List ℕ)) (m : PathMap) (s : FieldSource) (n : ℕ) (fs : List OffsetField) (rest : List ℕ) → FieldsFrom n fs
    → Behind (λ out. patched ts m s out fs) n rest
patched-behind ts m s n [] rest h = behind-same n rest
patched-behind ts m s n (f ∷ fs) rest h =
    let here : Behind (λ out. patched_at ts m s out f) n rest =
    put-behind n f.at f.size (offset_bytes s f (new_place m ts (field_mention s f))) rest h.0 in
    let more : Behind (λ out. patched ts m s out fs) n here.after = patched-behind ts m s n fs here.after h.1 in
    record {
      after = more.after;
      is = λ (front : List ℕ) (e : length front ≡ n). ap (λ (out : List ℕ). patched ts m s out fs) (here.is front e) ∙ more.is front e;
    }

known-put : (s : FieldSource) (n : ℕ) (f : OffsetField) (new : Option ℕ) (rest : List ℕ) → n ≤ f.at → Behind (λ out. with_known s out f new) n rest
known-put s n f None rest le = behind-same n rest
known-put s n f (Some x) rest le = put-behind n f.at f.size (offset_bytes s f x) rest le

pub known-behind : (s : FieldSource) (known : Bool → ℕ → Option ℕ) (n : ℕ) (fs : List OffsetField) (rest : List ℕ) → FieldsFrom n fs
    → Behind (λ out. with_all_known s known out fs) n rest
known-behind s known n [] rest h = behind-same n rest
known-behind s known n (f ∷ fs) rest h =
    let here : Behind (λ out. with_known s out f (known f.path (offset_at s f))) n rest = known-put s n f (known f.path (offset_at s f)) rest h.0 in
    let more : Behind (λ out. with_all_known s known out fs) n here.after = known-behind s known n fs here.after h.1 in
    record {
      after = more.after;
      is = λ (front : List ℕ) (e : length front ≡ n). ap (λ (out : List ℕ). with_all_known s known out fs) (here.is front e) ∙ more.is front e;
    }

-- what turns bytes of the front goes past what is done behind them
pub swap : (H F : List ℕ → List ℕ) (front p q rest : List ℕ) (n : ℕ) → Turns H front p q → Behind F n rest → length (front ++ p) ≡ n → length (front ++ q) ≡ n
    → H (F (front ++ (p ++ rest))) ≡ F (front ++ (q ++ rest))
swap H F front p q rest n turns b old new =
    ap (λ (x : List ℕ). H (F x)) (sym (append_assoc front p rest)) ∙ ap H (b.is (front ++ p) old) ∙ ap H (append_assoc front p b.after)
    ∙ turns b.after ∙ sym (append_assoc front q b.after) ∙ sym (b.is (front ++ q) new) ∙ ap F (append_assoc front q rest)
