-- The text law: where the tables of texts change, each field of an offset names the new text of its mention, and each path that
-- stands in its value is mapped there.
use Rattle.std.proofs.Common.{Bool, true, false, ◌≡◌, ℕ, ◌+◌, ◌^◌, ◌<◌, ◌≤◌, List, [], ◌∷◌, ◌++◌, length, drop, get_or, ◌==◌, ◌||◌, Option, IsTrue, sym, ap, ◌∙◌, refl, subst, arith, if◌then◌else◌, None, Some, append_assoc}
use Rattle.std.specs.Bool.{⊤}
use Rattle.std.proofs.lemmas.List.{length-append, drop_all}
use Rattle.dw_base.specs.Cells.{Cell, Located, Relocation, bytes_of, first_relocation, with_bytes, offset_of}
use Rattle.dw_base.specs.DebugData.{Around, line_table, path_slots, start_number}
use Rattle.dw_base.specs.Forms.{ValueKind, number_of, leb_number, signed_leb, block_of, counted, counted_leb, inline_text, text_offset, present, in_abbreviation, form_in_front, supplementary, unlisted, kind_in, width_size}
use Rattle.dw_base.specs.InlinePaths.{mapped_inline}
use Rattle.dw_base.specs.MappedSlots.{mapped_slots}
use Rattle.dw_base.specs.SectionTexts.{mentions_with, edited_with}
use Rattle.dw_base.specs.Paths.{PathMap, IsPathMap}
use Rattle.dw_base.specs.Pieces.{Piece, Chain, EachPiece}
use Rattle.dw_base.specs.Roles.{Role, fixed, offset, inline_path, line_start, is_line_start, role_of_kind, role_of_mode, role_of, is_path_use, use_of}
use Rattle.dw_base.specs.StringTables.{Mention, new_text, texts_after, place_in, new_place}
use Rattle.dw_base.specs.NewOffsets.{with_offset}
use Rattle.dw_base.specs.TextChanges.{mention_at, mentions_by, mentions_of, TableChanges, change_of, moved_field, moved_start, edited_by, edited_all, NamesTextBy, NamesText, InlineFitsBy, InlineFits}
use Rattle.dw_base.specs.Texts.{text, has_nul, text_in, ends_in, is_in, laid_texts}
use Rattle.dw_base.specs.UnitHeaders.{UnitBase}
use Rattle.dw_base.specs.UnitPieces.{IsValue, FitsKind, FitsMode, unit_grammar}
use Rattle.dw_base.specs.UnitStates.{Mode, at_header, at_code, at_values, at_chosen, stuck, UnitState}
use Rattle.dw_base.specs.declared.shared.Order.{Order}
use Rattle.dw_base.specs.declared.shared.Width.{Width}
use Rattle.dw_base.specs.declared.shared.Width.TheVariants.{W32, W64}
use Rattle.dw_base.specs.Values.{value_of, text_value, offset_class}
use Rattle.dw_base.specs.declared.values.Spec.{Spec}
use Rattle.dw_base.specs.declared.values.Value.{Value}
use Rattle.dw_base.specs.declared.values.ValueClass.TheVariants.{InlineText, Number, SecOffset}
use Rattle.dw_base.specs.LineMeanings.{is_there}
use Rattle.dw_base.specs.LineReadings.{starts_from, all_lines}
use Rattle.std.proofs.lemmas.Bool.{eqb-true}
use Rattle.dw_base.specs.declared.values.ValueClass.{ValueClass}
use Rattle.dw_meaning.specs.NewAddends.{Makes, MakesNew, MakesRole, new_offset, start_place}
use Rattle.dw_meaning.proofs.FieldPutLaws.{IsPlace, front-bytes, length-put, place-inside, place-put, sized-some, width-some}
use Rattle.dw_meaning.proofs.LineStartLaws.{EachSome, start-end, start-found, number-below}
use Rattle.dw_base.proofs.FormSizeLaws.{is_sized, offset_sized, offset-size, is_offset_sized, section_offset-sized}
use Rattle.dw_base.proofs.InlineLaws.{has_nul-mapped_inline, length-mapped_inline}
use Rattle.dw_base.proofs.PathLaws.{has_nul-mapped_path}
use Rattle.dw_base.proofs.PieceFrameLaws.{AllChanged}
use Rattle.dw_base.proofs.PlainCellLaws.{IsPlain, first-plain}
use Rattle.dw_base.proofs.TableLaws.{is_in-mentioned, texts_after-append}
use Rattle.dw_base.proofs.TextLaws.{has_nul-append, text-append_nul, has_nul-text, drop-text, has_nul-text_in, ends_in-inside, text_in-laid, ends_in-laid, place_in-lt}
use Rattle.dw_base.proofs.UnitEditLaws.{Shift, Restarted, Rewritten, Becomes, PieceSlot, UnitsChanged, length-bytes_of, number-there}
use Rattle.dw_base.specs.declared.debug_sections.DebugSection.TheVariants.{Str, LineStr, StrOffsets, Line}
use Rattle.dw_base.specs.declared.texts.TextSection.{TextSection}
use Rattle.dw_base.specs.declared.texts.TextSection.TheVariants.{InStr, InLineStr}
use Rattle.dw_base.specs.declared.values.AttributeUse.{AttributeUse}
use Rattle.dw_base.specs.declared.values.AttributeUse.TheVariants.{NamesLineTable}
use Rattle.dw_meaning.proofs.DataParts.{stands_with}

-- the new text of a mention has no NUL
pub has_nul-new_text : (m : PathMap) (path : Bool) (t : List ℕ) → IsPathMap m → has_nul t ≡ false → has_nul (new_text m (record { path = path; text = t })) ≡ false
has_nul-new_text m true t is none = has_nul-mapped_path m t is none
has_nul-new_text m false t is none = none

-- a place in a table of at most 2^32 bytes fits an offset
pub offset-fits : (w : Width) (size n most : ℕ) → size ≡ width_size w → n < most → most ≤ 2 ^ 32 → n < 256 ^ size
offset-fits W32 size n most is lt fits = subst (λ (k : ℕ). n < 256 ^ k) (sym is) (omega arith)
offset-fits W64 size n most is lt fits = subst (λ (k : ℕ). n < 256 ^ k) (sym is) (omega arith)

-- a table after its change
abbrev pub moved_table : Located → List (List ℕ) → Located
moved_table z ts = record { number = z.number; bytes = laid_texts ts }

-- each of a list is below a number
abbrev pub EachBelow : ℕ → List ℕ → Type 0
EachBelow n [] = ⊤
EachBelow n (s ∷ ss) = (s < n) × EachBelow n ss

-- what holds of the new line tables: there are as many, each has a byte at least, and all have at most 2^32 bytes; the old ones start in their
-- section
pub record LinesMove (c : TableChanges) (around : Around) : Type 0 where
  pub count : length (c.new Line) ≡ length (around.stands Line).starts
  pub some : EachSome (c.new Line)
  pub small : length (all_lines (c.new Line)) ≤ 2 ^ 32
  pub below : EachBelow (length (around.stands Line).located.bytes) (around.stands Line).starts

-- and of the changes of all tables: each new table of texts has at most 2^32 bytes
pub record TablesMove (c : TableChanges) (around : Around) : Type 0 where
  pub map : IsPathMap c.map
  pub lines : LinesMove c around
  pub str : length (laid_texts (c.new Str)) ≤ 2 ^ 32
  pub line_str : length (laid_texts (c.new LineStr)) ≤ 2 ^ 32

-- the mention of a field of an offset into a table
abbrev mention_in : Order → Located → Bool → List Cell → Mention
mention_in order z path p = record { path = path; text = text_in z.bytes (offset_of order z p) }

-- a field of an offset into a table, of the size that its unit gives it: its new text is among those of the new table, which has at most 2^32 bytes
record FieldMoves (m : PathMap) (order : Order) (ts : List (List ℕ)) (z : Located) (path : Bool) (p : List Cell) : Type 0 where
  map : IsPathMap m
  small : length (laid_texts ts) ≤ 2 ^ 32
  width : Width
  size : length p ≡ width_size width
  names : IsTrue (ends_in z.bytes (offset_of order z p))
  there : is_in ts (new_text m (mention_in order z path p)) ≡ true
  makes : Makes (first_relocation p) (length p) (new_place m ts (mention_in order z path p))

-- it is another field of the same size, which names the new text in the new table
record FieldRenamed (m : PathMap) (order : Order) (ts : List (List ℕ)) (z : Located) (path : Bool) (p q : List Cell) : Type 0 where
  size : length q ≡ length p
  says : text_in (laid_texts ts) (offset_of order (moved_table z ts) q) ≡ new_text m (mention_in order z path p)
  ends : IsTrue (ends_in (laid_texts ts) (offset_of order (moved_table z ts) q))

-- where the text ends in its table, the field is a place there
field-place : (m : PathMap) (order : Order) (ts : List (List ℕ)) (z : Located) (path : Bool) (p : List Cell) → FieldMoves m order ts z path p → IsPlace z.number p
field-place m order ts z path p f = place-inside order z p (ends_in-inside z.bytes (offset_of order z p) f.names)

field-moves : (m : PathMap) (order : Order) (ts : List (List ℕ)) (z : Located) (path : Bool) (p : List Cell) → FieldMoves m order ts z path p
    → FieldRenamed m order ts z path p (moved_field ts m order (mention_in order z path p) p)
field-moves m order ts z path p f =
    let t : List ℕ = new_text m (mention_in order z path p) in
    let bare : has_nul t ≡ false = has_nul-new_text m path (text_in z.bytes (offset_of order z p)) f.map (has_nul-text_in z.bytes (offset_of order z p)) in
    let n : ℕ = place_in ts t in
    let within = place_in-lt ts t f.there in
    let below : n < length (laid_texts ts) = omega (arith, within) in
    let back : offset_of order (moved_table z ts) (with_offset order p n) ≡ n =
    place-put order (moved_table z ts) p n (field-place m order ts z path p f) (omega (arith, f.size, width-some f.width))
    (offset-fits f.width (length p) n (length (laid_texts ts)) f.size below f.small) f.makes in
    record {
      size = length-put order p n;
      says = ap (text_in (laid_texts ts)) back ∙ text_in-laid ts t f.there bare;
      ends = ap (ends_in (laid_texts ts)) back ∙ ends_in-laid ts t f.there;
    }

-- the change of the tables, as a change of what stands around the units: slots of paths are mapped, and the section of line tables has new cells
abbrev pub shift_of : TableChanges → Around → List Cell → Shift
shift_of c around lc = record {
  map = c.map;
  old = around;
  new = record {
    lasting = around.lasting;
    stands = stands_with (moved_table (around.stands Str) (c.new Str)) (moved_table (around.stands LineStr) (c.new LineStr))
        (mapped_slots c.map (path_slots around) 0 (around.stands StrOffsets)) (record { number = (around.stands Line).located.number; bytes = all_lines (c.new Line) })
        lc (starts_from 0 (c.new Line));
  };
  lasting = refl;
}

-- the new texts have the text that cells of a role ask for
abbrev Provided : Role → TableChanges → Around → List Cell → Type 0
Provided (offset table path) c around p = is_in (change_of c table) (new_text c.map (mention_at around table path p)) ≡ true
Provided r c around p = ⊤

-- a field of an offset
offset-moves : {lc : List Cell} (table : TextSection) (path : Bool) (c : TableChanges) (around : Around) (p : List Cell) (w : Width) → TablesMove c around
    → MakesRole (offset table path) c around p → length p ≡ width_size w → NamesTextBy (offset table path) around p → Provided (offset table path) c around p
    → Becomes (offset table path) (shift_of c around lc) p (edited_by (offset table path) c around p)
offset-moves InStr path c around p w t place size names there =
    let f = field-moves c.map around.lasting.base.order (c.new Str) (around.stands Str) path p
    (record { map = t.map; small = t.str; width = w; size = size; names = names; there = there; makes = place }) in
    record { size = f.size; says = f.says; ends = f.ends }
offset-moves InLineStr path c around p w t place size names there =
    let f = field-moves c.map around.lasting.base.order (c.new LineStr) (around.stands LineStr) path p
    (record { map = t.map; small = t.line_str; width = w; size = size; names = names; there = there; makes = place }) in
    record { size = f.size; says = f.says; ends = f.ends }

-- a text that stands in its value
text-there : (bs : List ℕ) (v : Value) → text_value bs 0 ≡ Some v → (ends_in bs 0 ≡ true) × (v.size ≡ length (text_in bs 0) + 1)
text-there bs v e = by_end (ends_in bs 0) refl e
  where
    text_size : ℕ → Value
    text_size n = record { class = InlineText; number = 0; at = 0; len = n; size = n + 1 }

    by_end : (b : Bool) → ends_in bs 0 ≡ b → (if b then Some (text_size (length (text_in bs 0))) else None) ≡ Some v → (ends_in bs 0 ≡ true) × (v.size ≡ length (text_in bs 0) + 1)
    by_end true is e = (is, cc)
    by_end false is e = absurd cc

-- the bytes of one are the text and its NUL
text-bytes : (bs : List ℕ) → has_nul bs ≡ true → length (text bs) + 1 ≡ length bs → drop (length (text bs)) bs ≡ 0 ∷ []
text-bytes bs nul size =
    drop-text bs nul ∙ ap (λ (rest : List ℕ). 0 ∷ rest) (drop_all (length (text bs) + 1) bs (omega (arith, size)))

text-in-front : (bs : List ℕ) → (ends_in bs 0 ≡ has_nul bs) × (text_in bs 0 ≡ text bs)
unfolding ends_in text_in
text-in-front bs = (refl, refl)

nul-behind : (u : List ℕ) → has_nul u ≡ false → has_nul (u ++ 0 ∷ []) ≡ true
nul-behind u bare = has_nul-append u (0 ∷ []) ∙ rw bare refl

-- a path that stands in its value, mapped in its room
inline-moves : {lc : List Cell} (c : TableChanges) (around : Around) (s : UnitState) (x : Spec) (p : List Cell) → IsPathMap c.map → IsValue s x inline_text p
    → InlineFitsBy inline_path c.map p → Rewritten (shift_of c around lc) p (edited_by inline_path c around p)
unfolding value_of
inline-moves c around s x p is_map f fits =
    let bs : List ℕ = bytes_of p in
    let t : List ℕ = text (bytes_of p) in
    let u : List ℕ = mapped_inline c.map (text (bytes_of p)) in
    let there = text-there (bytes_of p) f.value f.is in
    let front = text-in-front (bytes_of p) in
    let nul : has_nul (bytes_of p) ≡ true = sym front.0 ∙ there.0 in
    let size : length (text (bytes_of p)) + 1 ≡ length p = ap (λ (y : List ℕ). length y + 1) (sym front.1) ∙ sym there.1 ∙ f.size in
    let whole : length (text (bytes_of p)) + 1 ≡ length (bytes_of p) = size ∙ sym (length-bytes_of p) in
    let room : length (mapped_inline c.map (text (bytes_of p))) ≡ length (text (bytes_of p)) = length-mapped_inline c.map (text (bytes_of p)) fits in
    let bare : has_nul (mapped_inline c.map (text (bytes_of p))) ≡ false = has_nul-mapped_inline c.map (text (bytes_of p)) is_map (has_nul-text (bytes_of p)) in
    let bytes : bytes_of (with_bytes p (mapped_inline c.map (text (bytes_of p)))) ≡ mapped_inline c.map (text (bytes_of p)) ++ 0 ∷ [] =
    front-bytes p (mapped_inline c.map (text (bytes_of p))) (omega (arith, room, size))
    ∙ ap (λ (n : ℕ). mapped_inline c.map (text (bytes_of p)) ++ drop n (bytes_of p)) room
    ∙ ap (λ (rest : List ℕ). mapped_inline c.map (text (bytes_of p)) ++ rest) (text-bytes (bytes_of p) nul whole) in
    let says : text (bytes_of (with_bytes p (mapped_inline c.map (text (bytes_of p))))) ≡ mapped_inline c.map (text (bytes_of p)) =
    ap text bytes ∙ text-append_nul (mapped_inline c.map (text (bytes_of p))) [] bare in
    let length_new : length (with_bytes p (mapped_inline c.map (text (bytes_of p)))) ≡ length (mapped_inline c.map (text (bytes_of p))) + 1 =
    sym (length-bytes_of (with_bytes p (mapped_inline c.map (text (bytes_of p))))) ∙ ap length bytes
    ∙ length-append (mapped_inline c.map (text (bytes_of p))) (0 ∷ []) in
    let front_new = text-in-front (bytes_of (with_bytes p (mapped_inline c.map (text (bytes_of p))))) in
    record {
      size = omega (arith, length_new, room, size);
      ends = front_new.0 ∙ ap has_nul bytes ∙ nul-behind (mapped_inline c.map (text (bytes_of p))) bare;
      whole = ap (λ (y : List ℕ). length y + 1) (front_new.1 ∙ says) ∙ sym length_new;
      says = says;
    }

-- the start of a line table
start-fits : (n v : ℕ) → (n == 4 || n == 8) ≡ true → v < 2 ^ 32 → v < 256 ^ n
start-fits n v size lt = by_size (n == 4) (n == 8) refl refl size
  where
    by_size : (a b : Bool) → (n == 4) ≡ a → (n == 8) ≡ b → (a || b) ≡ true → v < 256 ^ n
    by_size true b x y e = subst (λ (k : ℕ). v < 256 ^ k) (sym (eqb-true n 4 x)) (omega (arith, lt))
    by_size false true x y e = subst (λ (k : ℕ). v < 256 ^ k) (sym (eqb-true n 8 y)) (omega (arith, lt))
    by_size false false x y e = absurd cc

-- it lies in the section
start-inside : (o n k most : ℕ) (starts : List ℕ) → EachBelow most starts → start_number n starts o ≡ Some k → o < most
start-inside o n k most [] h e = absurd cc
start-inside o n k most (s ∷ ss) h e = by_test (s == o) refl e (start-inside o (n + 1) k most ss h.1)
  where
    by_test : (b : Bool) → (s == o) ≡ b → (if b then Some n else start_number (n + 1) ss o) ≡ Some k → (start_number (n + 1) ss o ≡ Some k → o < most) → o < most
    by_test true same e rest = subst (λ (i : ℕ). i < most) (eqb-true s o same) h.0
    by_test false same e rest = rest e

start-moves : {lc : List Cell} (c : TableChanges) (around : Around) (p : List Cell) → TablesMove c around → MakesRole line_start c around p → (length p == 4 || length p == 8) ≡ true → NamesTextBy line_start around p
    → Restarted (shift_of c around lc) p (edited_by line_start c around p)
start-moves {lc} c around p t makes_it size names = by_table (line_table around p) refl names makes_it
  where
    by_table : (o : Option ℕ) → line_table around p ≡ o → IsTrue (is_there o) → MakesNew (start_place (starts_from 0 (c.new Line)) o) p
        → Restarted (shift_of c around lc) p (moved_start (starts_from 0 (c.new Line)) around.lasting.base.order o p)
    by_table None e some makes = absurd cc
    by_table (Some k) e some makes =
        let count = t.lines.count in
        let small = t.lines.small in
        let below : k < 0 + length (around.stands Line).starts = number-below 0 (around.stands Line).starts (offset_of around.lasting.base.order (around.stands Line).located p) k e in
        let here : k < length (c.new Line) = omega (arith, below, count) in
        let place : IsPlace (around.stands Line).located.number p = place-inside around.lasting.base.order (around.stands Line).located p
        (start-inside (offset_of around.lasting.base.order (around.stands Line).located p) 0 k (length (around.stands Line).located.bytes) (around.stands Line).starts t.lines.below e) in
        let v : ℕ = get_or (starts_from 0 (c.new Line)) k 0 in
        let last = start-end 0 k (c.new Line) t.lines.some here in
        let reads : offset_of around.lasting.base.order (record { number = (around.stands Line).located.number; bytes = all_lines (c.new Line) })
        (with_offset around.lasting.base.order p (get_or (starts_from 0 (c.new Line)) k 0)) ≡ get_or (starts_from 0 (c.new Line)) k 0 =
        place-put around.lasting.base.order (record { number = (around.stands Line).located.number; bytes = all_lines (c.new Line) }) p (get_or (starts_from 0 (c.new Line)) k 0) place
        (sized-some (length p) size) (start-fits (length p) (get_or (starts_from 0 (c.new Line)) k 0) size (omega (arith, last, small))) makes in
        let zero_ : 0 + k ≡ k = omega arith in
        let found : start_number 0 (starts_from 0 (c.new Line)) (offset_of around.lasting.base.order (record { number = (around.stands Line).located.number; bytes = all_lines (c.new Line) })
        (with_offset around.lasting.base.order p (get_or (starts_from 0 (c.new Line)) k 0))) ≡ Some k =
        ap (start_number 0 (starts_from 0 (c.new Line))) reads ∙ start-found 0 0 k (c.new Line) t.lines.some here ∙ ap (λ (i : ℕ). Some i) zero_ in
        record {
          size = length-put around.lasting.base.order p (get_or (starts_from 0 (c.new Line)) k 0);
          says = found ∙ sym e;
          names = ap is_there found;
        }

-- a number that says where a line table starts has 4 or 8 bytes
start-size : (u : AttributeUse) (class : ValueClass) (n : ℕ) → is_line_start u class n ≡ true → is_offset_sized (number_of class n) ≡ true → (n == 4 || n == 8) ≡ true
start-size NamesLineTable SecOffset n e sized = sized
start-size NamesLineTable Number n e sized = e
start-size u class n e sized = absurd cc

number-moves : (lc : List Cell) (b : Bool) (u : AttributeUse) (class : ValueClass) (n : ℕ) (c : TableChanges) (around : Around) (s : UnitState) (x : Spec) (p : List Cell) → is_line_start u class n ≡ b
    → TablesMove c around → MakesRole (if b then line_start else fixed) c around p → is_offset_sized (number_of class n) ≡ true → IsValue s x (number_of class n) p → NamesTextBy (if b then line_start else fixed) around p
    → Becomes (if b then line_start else fixed) (shift_of c around lc) p (edited_by (if b then line_start else fixed) c around p)
unfolding value_of
number-moves lc false u class n c around s x p e t place sized f names = refl
number-moves lc true u class n c around s x p e t place sized f names =
    let size : length p ≡ n = sym f.size ∙ (number-there s.header.params.order (bytes_of p) class n f.value f.is).1 in
    start-moves c around p t place (ap (λ (k : ℕ). k == 4 || k == 8) size ∙ start-size u class n e sized) names

-- an offset's size in its unit
offset-length : (s : UnitState) (x : Spec) (table : TextSection) (n : ℕ) (p : List Cell) → IsValue s x (text_offset table n) p → length p ≡ n
unfolding value_of
offset-length s x table n p f =
    sym f.size ∙ (number-there s.header.params.order (bytes_of p) (offset_class table) n f.value f.is).1

inline-role : (lc : List Cell) (b : Bool) (c : TableChanges) (around : Around) (s : UnitState) (x : Spec) (p : List Cell) → IsPathMap c.map → IsValue s x inline_text p
    → InlineFitsBy (if b then inline_path else fixed) c.map p
    → Becomes (if b then inline_path else fixed) (shift_of c around lc) p (edited_by (if b then inline_path else fixed) c around p)
inline-role lc true c around s x p is_map f fits = inline-moves c around s x p is_map f fits
inline-role lc false c around s x p is_map f fits = refl

-- cells of a value
value-moves : (lc : List Cell) (k : ValueKind) (u : AttributeUse) (c : TableChanges) (around : Around) (s : UnitState) (x : Spec) (p : List Cell) → TablesMove c around → MakesRole (role_of_kind k u) c around p
    → is_sized s.header.params.width k ≡ true → is_offset_sized k ≡ true → FitsKind k s x p → NamesTextBy (role_of_kind k u) around p → InlineFitsBy (role_of_kind k u) c.map p
    → Provided (role_of_kind k u) c around p → Becomes (role_of_kind k u) (shift_of c around lc) p (edited_by (role_of_kind k u) c around p)
value-moves lc (number_of class n) u c around s x p t place sized offsets f names fits there =
    number-moves lc (is_line_start u class n) u class n c around s x p refl t place offsets f names
value-moves lc (text_offset table n) u c around s x p t place sized offsets f names fits there =
    offset-moves table (is_path_use u) c around p s.header.params.width t place
    (offset-length s x table n p f ∙ offset-size s.header.params (text_offset table n) table n sized refl) names there
value-moves lc inline_text u c around s x p t place sized offsets f names fits there = inline-role lc (is_path_use u) c around s x p t.map f fits
value-moves lc k u c around s x p t place sized offsets f names fits there = refl

-- a value whose form was read fits as a value of its kind
pub chosen-fits : (k : ValueKind) (s : UnitState) (x : Spec) (p : List Cell) → IsValue s x k p → FitsKind k s x p
unfolding value_of
chosen-fits form_in_front s x p f = absurd (none-some f.value f.is)
  where
    none-some : (v : Value) → None ≡ Some v → ⊥
    none-some v e = cc
chosen-fits (number_of class n) s x p f = f
chosen-fits (leb_number class) s x p f = f
chosen-fits signed_leb s x p f = f
chosen-fits (block_of n) s x p f = f
chosen-fits (counted n) s x p f = f
chosen-fits counted_leb s x p f = f
chosen-fits inline_text s x p f = f
chosen-fits (text_offset table n) s x p f = f
chosen-fits present s x p f = f
chosen-fits in_abbreviation s x p f = f
chosen-fits supplementary s x p f = f
chosen-fits unlisted s x p f = f

-- cells of a mode
mode-moves : (lc : List Cell) (m : Mode) (base : UnitBase) (s : UnitState) (c : TableChanges) (around : Around) (p : List Cell) → TablesMove c around → MakesRole (role_of_mode m s.header.params) c around p
    → FitsMode m base s p → NamesTextBy (role_of_mode m s.header.params) around p → InlineFitsBy (role_of_mode m s.header.params) c.map p
    → Provided (role_of_mode m s.header.params) c around p
    → Becomes (role_of_mode m s.header.params) (shift_of c around lc) p (edited_by (role_of_mode m s.header.params) c around p)
mode-moves lc at_header base s c around p t place f names fits there = refl
mode-moves lc at_code base s c around p t place f names fits there = refl
mode-moves lc (at_values n tag []) base s c around p t place f names fits there = refl
mode-moves lc (at_values n tag (x ∷ xs)) base s c around p t place f names fits there =
    value-moves lc (kind_in s.header.params x.form) (use_of n tag x.name) c around s x p t place (offset_sized s.header.params x.form) (section_offset-sized s.header.params x.form) f names fits there
mode-moves lc (at_chosen n tag start x xs) base s c around p t place f names fits there =
    value-moves lc (kind_in s.header.params x.form) (use_of n tag x.name) c around s x p t place (offset_sized s.header.params x.form) (section_offset-sized s.header.params x.form)
    (chosen-fits (kind_in s.header.params x.form) s x p f) names fits there
mode-moves lc stuck base s c around p t place f names fits there = refl

-- the new texts of the tables are those after these mentions, from these texts on
pub record TextsAre (c : TableChanges) (ts us : List (List ℕ)) (ms ns : List Mention) : Type 0 where
  pub str : c.new Str ≡ texts_after c.map ts ms
  pub line_str : c.new LineStr ≡ texts_after c.map us ns

-- the new text of each mention is among those after all mentions
provided : (r : Role) (c : TableChanges) (around : Around) (ts us : List (List ℕ)) (p : List Cell) (ms ns : List Mention)
    → TextsAre c ts us (mentions_by r InStr around p ++ ms) (mentions_by r InLineStr around p ++ ns) → Provided r c around p
provided fixed c around ts us p ms ns all = tt
provided inline_path c around ts us p ms ns all = tt
provided line_start c around ts us p ms ns all = tt
provided (offset InStr path) c around ts us p ms ns all =
    let x : Mention = mention_at around InStr path p in
    subst (λ (vs : List (List ℕ)). is_in vs (new_text c.map x) ≡ true) (sym all.str) (is_in-mentioned c.map ts x ms)
provided (offset InLineStr path) c around ts us p ms ns all =
    let x : Mention = mention_at around InLineStr path p in
    subst (λ (vs : List (List ℕ)). is_in vs (new_text c.map x) ≡ true) (sym all.line_str) (is_in-mentioned c.map us x ns)

-- the texts, behind the mentions of a piece
pub behind_piece : (c : TableChanges) (ts us : List (List ℕ)) (heres lines ms ns : List Mention) → TextsAre c ts us (heres ++ ms) (lines ++ ns)
    → TextsAre c (texts_after c.map ts heres) (texts_after c.map us lines) ms ns
behind_piece c ts us heres lines ms ns all = record {
  str = all.str ∙ texts_after-append c.map ts heres ms;
  line_str = all.line_str ∙ texts_after-append c.map us lines ns;
}

-- a piece that an edit may move can have the offset that it gets
abbrev pub Moves : TableChanges → Around → Piece UnitState → Type 0
Moves c around x = MakesRole (role_of x) c around x.cells

-- no relocation begins in a piece: then it can
pub record PlainPiece (x : Piece UnitState) : Type 0 where
  pub plain : IsPlain x.cells

pub plain-makes : (o : Option ℕ) (p : List Cell) → IsPlain p → MakesNew o p
plain-makes None p h = tt
plain-makes (Some n) p h = subst (λ (f : Option Relocation). Makes f (length p) n) (sym (first-plain p h)) tt

plain-moves : (r : Role) (c : TableChanges) (around : Around) (p : List Cell) → IsPlain p → MakesRole r c around p
plain-moves r c around p h = plain-makes (new_offset r c around p) p h

pub pieces-move : (c : TableChanges) (around : Around) (xs : List (Piece UnitState)) → EachPiece PlainPiece xs → EachPiece (Moves c around) xs
pieces-move c around [] h = tt
pieces-move c around (x ∷ xs) h = (plain-moves (role_of x) c around x.cells h.0.plain, pieces-move c around xs h.1)

-- where the piece is a value by index, its slot has the new text
abbrev pub SlotMoves : Shift → Piece UnitState → Type 0
SlotMoves c x = PieceSlot x.state.mode c x.state x.cells

-- the text law, for the pieces of a section
pub edited-changed : (lc : List Cell) (base : UnitBase) (c : TableChanges) (around : Around) (ts us : List (List ℕ)) (s : UnitState) (xs : List (Piece UnitState))
    (ms ns : List Mention) → TablesMove c around → TextsAre c ts us (mentions_of InStr around xs ++ ms) (mentions_of InLineStr around xs ++ ns)
    → Chain (unit_grammar base) s xs → EachPiece (Moves c around) xs → EachPiece (NamesText around) xs → EachPiece (InlineFits c.map) xs
    → EachPiece (SlotMoves (shift_of c around lc)) xs → UnitsChanged (shift_of c around lc) xs (edited_all c around xs)
unfolding role_of
edited-changed lc base c around ts us s [] ms ns t all chain moves names fits slots = tt
edited-changed lc base c around ts us s (x ∷ xs) ms ns t all chain moves names fits slots =
    let heres : List Mention = mentions_by (role_of x) InStr around x.cells in
    let lines : List Mention = mentions_by (role_of x) InLineStr around x.cells in
    let rest : TextsAre c ts us (heres ++ (mentions_of InStr around xs ++ ms)) (lines ++ (mentions_of InLineStr around xs ++ ns)) =
    record {
      str = all.str ∙ ap (texts_after c.map ts) (append_assoc heres (mentions_of InStr around xs) ms);
      line_str = all.line_str ∙ ap (texts_after c.map us) (append_assoc lines (mentions_of InLineStr around xs) ns);
    } in
    let there = provided (role_of x) c around ts us x.cells (mentions_of InStr around xs ++ ms) (mentions_of InLineStr around xs ++ ns) rest in (
      record { state = refl; cells = (mode-moves lc x.state.mode base x.state c around x.cells t moves.0 chain.1 names.0 fits.0 there, slots.0) },
      edited-changed lc base c around (texts_after c.map ts heres) (texts_after c.map us lines)
          ((unit_grammar base).next x.state x.cells) xs ms ns t
          (behind_piece c ts us heres lines (mentions_of InStr around xs ++ ms) (mentions_of InLineStr around xs ++ ns) rest)
          chain.2 moves.1 names.1 fits.1 slots.1,
    )

-- cells of a role that an edit may move, outside of units: a field of an offset that names a text, of the size of an offset
pub record OffsetField (table : TextSection) (path : Bool) (c : TableChanges) (around : Around) (p : List Cell) : Type 0 where
  pub moves : MakesRole (offset table path) c around p
  pub width : Width
  pub size : length p ≡ width_size width

-- or a field of the start of a line table
pub record StartField (c : TableChanges) (around : Around) (p : List Cell) : Type 0 where
  pub moves : MakesRole line_start c around p
  pub sized : (length p == 4 || length p == 8) ≡ true

abbrev pub CanMove : Role → TableChanges → Around → List Cell → Type 0
CanMove fixed c around p = ⊤
CanMove (offset table path) c around p = OffsetField table path c around p
CanMove inline_path c around p = ⊥
CanMove line_start c around p = StartField c around p

role-moves : (lc : List Cell) (r : Role) (c : TableChanges) (around : Around) (p : List Cell) → TablesMove c around → CanMove r c around p → NamesTextBy r around p
    → Provided r c around p → Becomes r (shift_of c around lc) p (edited_by r c around p)
role-moves lc fixed c around p t can names there = refl
role-moves lc (offset table path) c around p t can names there = offset-moves table path c around p can.width t can.moves can.size names there
role-moves lc inline_path c around p t can names there = absurd can
role-moves lc line_start c around p t can names there = start-moves c around p t can.moves can.sized names

-- the text law, for pieces of roles
pub roles-changed : {S : Type 0} (lc : List Cell) (role : S → Role) (c : TableChanges) (around : Around) (ts us : List (List ℕ)) (xs : List (Piece S)) (ms ns : List Mention)
    → TablesMove c around → TextsAre c ts us (mentions_with role InStr around xs ++ ms) (mentions_with role InLineStr around xs ++ ns)
    → EachPiece (λ x. CanMove (role x.state) c around x.cells) xs → EachPiece (λ x. NamesTextBy (role x.state) around x.cells) xs
    → AllChanged S (λ s p q. Becomes (role s) (shift_of c around lc) p q) xs (edited_with role c around xs)
roles-changed lc role c around ts us [] ms ns t all can names = tt
roles-changed lc role c around ts us (x ∷ xs) ms ns t all can names =
    let heres : List Mention = mentions_by (role x.state) InStr around x.cells in
    let lines : List Mention = mentions_by (role x.state) InLineStr around x.cells in
    let rest : TextsAre c ts us (heres ++ (mentions_with role InStr around xs ++ ms)) (lines ++ (mentions_with role InLineStr around xs ++ ns)) =
    record {
      str = all.str ∙ ap (texts_after c.map ts) (append_assoc heres (mentions_with role InStr around xs) ms);
      line_str = all.line_str ∙ ap (texts_after c.map us) (append_assoc lines (mentions_with role InLineStr around xs) ns);
    } in
    let there = provided (role x.state) c around ts us x.cells (mentions_with role InStr around xs ++ ms) (mentions_with role InLineStr around xs ++ ns) rest in (
      record { state = refl; cells = role-moves lc (role x.state) c around x.cells t can.0 names.0 there },
      roles-changed lc role c around (texts_after c.map ts heres) (texts_after c.map us lines) xs ms ns t
          (behind_piece c ts us heres lines (mentions_with role InStr around xs ++ ms) (mentions_with role InLineStr around xs ++ ns) rest)
          can.1 names.1,
    )
