-- Texts of values and of line tables.
use Rattle.std.proofs.Common.{Bool, true, false, ◌≡◌, if◌then◌else◌, ℕ, zero, suc, ◌+◌, ◌<◌, ◌==◌, List, [], length, take, drop, Option, Some, None, refl, sym, ap, ◌∙◌, arith}
use Rattle.std.specs.Prelude.{Result, is_some, nat_le}
use Rattle.std.proofs.lemmas.Bool.{eq-eqb, leb-true, ne_eqb}
use Rattle.std.proofs.lemmas.List.{drop_all, take_all}
use Rattle.dw_base.specs.Cells.{Located, located_cells}
use Rattle.dw_base.specs.DebugData.{line_source}
use Rattle.dw_base.specs.DebugSections.{name_of}
use Rattle.dw_base.specs.FileViews.{View, kind_at, section_bytes, section_named, view_cells}
use Rattle.dw_base.specs.Forms.{width_size}
use Rattle.dw_base.specs.LineMeanings.{section_in}
use Rattle.dw_base.specs.Numbers.{number_at, spelled}
use Rattle.dw_base.specs.RelocationFields.{field_in}
use Rattle.dw_base.specs.StringOffsets.{slot_place}
use Rattle.dw_base.specs.UnitHeaders.{UnitSection}
use Rattle.dw_base.specs.ViewData.{cells_located, debug_data, located, located_at}
use Rattle.dw_base.specs.declared.debug_sections.DebugSection.TheVariants.{Str, LineStr, StrOffsets, Line}
use Rattle.dw_base.specs.declared.fault.Refusal.{Refusal}
use Rattle.dw_base.specs.declared.shared.Order.{Order}
use Rattle.dw_base.specs.declared.shared.Width.{Width}
use Rattle.dw_base.specs.declared.shared.Width.TheVariants.{W32, W64}
use Rattle.dw_base.specs.declared.values.Value.{Value}
use Rattle.dw_base.specs.declared.view_fields.Field.{Field}
use Rattle.dw_base.specs.declared.string_offsets.Contribution.{Contribution}
use Rattle.dw_base.proofs.ViewCellLaws.{lines-located, offsets-located}
use Rattle.dw_base.proofs.ViewOffsetLaws.{some-named}
use Rattle.dw_sources.specs.FieldOffsets.{field_offset, value_offset}
use Rattle.dw_sources.specs.UnitPaths.{base_width, named_text, number_text, slot_offset, slot_text, slot_text_at}

-- the parts of the debug data of a view
pub data-order : (v : View) → (debug_data v).base.order ≡ v.order
unfolding debug_data
data-order v = refl

pub data-str : (v : View) → (debug_data v).found Str ≡ located v Str
unfolding debug_data
data-str v = refl

pub data-line_str : (v : View) → (debug_data v).found LineStr ≡ located v LineStr
unfolding debug_data
data-line_str v = refl

pub data-offsets : (v : View) → (located_cells ((debug_data v).found StrOffsets)).bytes ≡ (located v StrOffsets).bytes
data-offsets v = ap (λ (z : Located). z.bytes) (offsets-located v)

pub data-lines : (v : View) → (line_source (debug_data v)).bytes ≡ (located v Line).bytes
data-lines v = ap (λ (z : Located). z.bytes) (lines-located v)

pub data-line_number : (v : View) → (line_source (debug_data v)).number ≡ (located v Line).number
data-line_number v = ap (λ (z : Located). z.number) (lines-located v)

-- the offset in a slot, by its field
abbrev offset_by : Located → Result Field Refusal → Option ℕ → Option ℕ
offset_by t f None = None
offset_by t f (Some k) = field_offset t k f

-- a slot
pub slot-no_width : (v : View) (list : List Contribution) (base index : ℕ) → None ≡ base_width list base → None ≡ slot_text (debug_data v) list base index
unfolding slot_text
slot-no_width v list base index is = ap (λ (o : Option Width). slot_text_at (debug_data v) o (slot_place list base index)) is

pub slot-no_place : (v : View) (list : List Contribution) (base index : ℕ) (w : Width) → Some w ≡ base_width list base → None ≡ slot_place list base index
    → None ≡ slot_text (debug_data v) list base index
unfolding slot_text
slot-no_place v list base index w is none =
    ap (slot_text_at (debug_data v) (Some w)) none ∙ ap (λ (o : Option Width). slot_text_at (debug_data v) o (slot_place list base index)) is

-- the number in it
slot-number : (v : View) (i place n : ℕ) → Some i ≡ section_named v (name_of StrOffsets)
    → number_at (debug_data v).base.order (located_cells ((debug_data v).found StrOffsets)).bytes place n ≡ number_at v.order (section_bytes v i) place n
unfolding located
slot-number v i place n e =
    ap (λ (o : Order). number_at o (located_cells ((debug_data v).found StrOffsets)).bytes place n) (data-order v)
    ∙ ap (λ (bs : List ℕ). number_at v.order bs place n) (data-offsets v ∙ ap (λ (o : Option ℕ). (located_at v o).bytes) (sym e))

slot-found : (v : View) (i place n : ℕ) (x : Option ℕ) → Some i ≡ section_named v (name_of StrOffsets)
    → slot_offset (debug_data v) place n x ≡ offset_by (located v Str) (field_in v.order i (view_cells v i) place n) x
unfolding debug_data
slot-found v i place n None e = refl
slot-found v i place n (Some k) e =
    ap (λ (o : Option ℕ). field_offset (located v Str) k (field_in v.order (cells_located v o).number (cells_located v o).contents place n)) (sym e)

-- and its offset
pub offset-none : (v : View) (i place n : ℕ) → Some i ≡ section_named v (name_of StrOffsets) → None ≡ number_at v.order (section_bytes v i) place n
    → None ≡ slot_offset (debug_data v) place n (number_at v.order (section_bytes v i) place n)
offset-none v i place n e none = ap (slot_offset (debug_data v) place n) none

pub offset-some : (v : View) (i place n k : ℕ) (x : Option ℕ) → Some i ≡ section_named v (name_of StrOffsets) → Some k ≡ number_at v.order (section_bytes v i) place n
    → x ≡ field_offset (located v Str) k (field_in v.order i (view_cells v i) place n)
    → x ≡ slot_offset (debug_data v) place n (number_at v.order (section_bytes v i) place n)
offset-some v i place n k x e some is = is ∙ sym (slot-found v i place n (Some k) e) ∙ ap (slot_offset (debug_data v) place n) some

pub offset-kind : (v : View) (i : ℕ) → Some i ≡ section_named v (name_of StrOffsets) → is_some (kind_at v i) ≡ true
offset-kind v i e = some-named v StrOffsets i e

pub ruleset offset_rules = (offset-none, offset-some, offset-kind)

slot-is : (v : View) (list : List Contribution) (base index place size i : ℕ) (w : Width) (o : Option ℕ) → Some w ≡ base_width list base
    → Some place ≡ slot_place list base index → Some i ≡ section_named v (name_of StrOffsets) → size ≡ width_size w
    → o ≡ slot_offset (debug_data v) place size (number_at v.order (section_bytes v i) place size)
    → number_text (located v Str).bytes o ≡ slot_text (debug_data v) list base index
unfolding slot_text
slot-is v list base index place size i w o is there found sized e =
    ap (number_text (located v Str).bytes)
    (e ∙ ap (slot_offset (debug_data v) place size) (sym (slot-number v i place size found))
    ∙ ap (λ (n : ℕ). slot_offset (debug_data v) place n (number_at (debug_data v).base.order (located_cells ((debug_data v).found StrOffsets)).bytes place n)) sized)
    ∙ ap (λ (z : Located). number_text z.bytes (slot_offset (debug_data v) place (width_size w)
    (number_at (debug_data v).base.order (located_cells ((debug_data v).found StrOffsets)).bytes place (width_size w)))) (sym (data-str v))
    ∙ ap (slot_text_at (debug_data v) (Some w)) there ∙ ap (λ (x : Option Width). slot_text_at (debug_data v) x (slot_place list base index)) is

pub slot-none : (v : View) (list : List Contribution) (base index place size i : ℕ) (w : Width) → Some w ≡ base_width list base
    → Some place ≡ slot_place list base index → Some i ≡ section_named v (name_of StrOffsets) → size ≡ width_size w
    → None ≡ slot_offset (debug_data v) place size (number_at v.order (section_bytes v i) place size) → None ≡ slot_text (debug_data v) list base index
slot-none v list base index place size i w is there found sized e = slot-is v list base index place size i w None is there found sized e

pub slot-some : (v : View) (list : List Contribution) (base index place size i n : ℕ) (w : Width) (str : List ℕ) (t : Option (List ℕ)) → Some w ≡ base_width list base
    → Some place ≡ slot_place list base index → Some i ≡ section_named v (name_of StrOffsets) → size ≡ width_size w
    → Some n ≡ slot_offset (debug_data v) place size (number_at v.order (section_bytes v i) place size) → str ≡ (located v Str).bytes
    → t ≡ named_text str n → t ≡ slot_text (debug_data v) list base index
slot-some v list base index place size i n w str t is there found sized e s is_text =
    is_text ∙ ap (λ (bs : List ℕ). named_text bs n) s ∙ slot-is v list base index place size i w (Some n) is there found sized e

-- without a section of string offsets
no-number : (order : Order) (place n : ℕ) → 0 < n → number_at order [] place n ≡ None
unfolding number_at
no-number order place n some = by_test (nat_le (place + n) 0) refl
  where
    by_test : (b : Bool) → nat_le (place + n) 0 ≡ b → (if b then Some (spelled order [] place n) else None) ≡ None
    by_test true e = absurd (omega (arith, leb-true (place + n) 0 e, some))
    by_test false e = refl

size-some : (w : Width) → 0 < width_size w
size-some W32 = omega arith
size-some W64 = omega arith

no-offsets : (v : View) → None ≡ section_named v (name_of StrOffsets) → (located_cells ((debug_data v).found StrOffsets)).bytes ≡ []
unfolding located
no-offsets v e = data-offsets v ∙ ap (λ (o : Option ℕ). (located_at v o).bytes) (sym e)

pub slot-nowhere : (v : View) (list : List Contribution) (base index place : ℕ) (w : Width) → Some w ≡ base_width list base
    → Some place ≡ slot_place list base index → None ≡ section_named v (name_of StrOffsets) → None ≡ slot_text (debug_data v) list base index
unfolding slot_text
slot-nowhere v list base index place w is there none =
    ap (λ (o : Option ℕ). number_text ((debug_data v).found Str).bytes (slot_offset (debug_data v) place (width_size w) o))
    (sym (ap (λ (bs : List ℕ). number_at (debug_data v).base.order bs place (width_size w)) (no-offsets v none)
    ∙ no-number (debug_data v).base.order place (width_size w) (size-some w)))
    ∙ ap (slot_text_at (debug_data v) (Some w)) there ∙ ap (λ (x : Option Width). slot_text_at (debug_data v) x (slot_place list base index)) is

pub ruleset slot_rules = (slot-no_width, slot-no_place, slot-nowhere, slot-none, slot-some)

-- the text that an offset names
pub named-none : (t : Located) (o : Option ℕ) → None ≡ o → None ≡ number_text t.bytes o
named-none t o e = ap (number_text t.bytes) e

pub named-some : (t : Located) (o : Option ℕ) (n : ℕ) (bytes : List ℕ) (x : Option (List ℕ)) → Some n ≡ o → bytes ≡ t.bytes → x ≡ named_text bytes n
    → x ≡ number_text t.bytes o
named-some t o n bytes x e b is = is ∙ ap (λ (bs : List ℕ). named_text bs n) b ∙ ap (number_text t.bytes) e

pub ruleset named_rules = (named-none, named-some)

-- the text in one of the two tables
pub text-str : (v : View) (z : UnitSection) (bytes : List ℕ) (x : Value) (t : Option (List ℕ))
    → t ≡ number_text (located v Str).bytes (value_offset v.order z (located v Str) bytes x)
    → t ≡ number_text ((debug_data v).found Str).bytes (value_offset (debug_data v).base.order z ((debug_data v).found Str) bytes x)
unfolding debug_data
text-str v z bytes x t is = is

pub text-line_str : (v : View) (z : UnitSection) (bytes : List ℕ) (x : Value) (t : Option (List ℕ))
    → t ≡ number_text (located v LineStr).bytes (value_offset v.order z (located v LineStr) bytes x)
    → t ≡ number_text ((debug_data v).found LineStr).bytes (value_offset (debug_data v).base.order z ((debug_data v).found LineStr) bytes x)
unfolding debug_data
text-line_str v z bytes x t is = is

pub ruleset class_rules = (text-str, text-line_str)

-- a part
pub part-past : (bytes : List ℕ) (at len : ℕ) → length bytes < at → [] ≡ take len (drop at bytes)
part-past bytes at len lt = none-taken len ∙ ap (take len) (sym (drop_all at bytes (omega (arith, lt))))
  where
    none-taken : (n : ℕ) → [] ≡ take {A = ℕ} n []
    none-taken zero = refl
    none-taken (suc n) = refl

pub part-rest : (bytes rest : List ℕ) (at len : ℕ) → rest ≡ drop at bytes → length rest < len → rest ≡ take len (drop at bytes)
part-rest bytes rest at len is lt = sym (take_all len rest (omega (arith, lt))) ∙ ap (take len) is

pub ruleset part_rules = (part-past, part-rest)

-- the section of a number
section-by : (v : View) (n : ℕ) (a b : Bool) → (n == (line_source (debug_data v)).number) ≡ a → (n == (line_source (debug_data v)).str.number) ≡ b
    → section_in (line_source (debug_data v)) n
    ≡ (if a then (line_source (debug_data v)).bytes else (if b then (line_source (debug_data v)).str.bytes else (line_source (debug_data v)).line_str.bytes))
section-by v n a b e f = rw (e, f) refl

pub section-line : (v : View) (n k : ℕ) (bytes : List ℕ) → k ≡ (located v Line).number → n ≡ k → bytes ≡ (located v Line).bytes
    → bytes ≡ section_in (line_source (debug_data v)) n
section-line v n k bytes is same b =
    let e : (n == (line_source (debug_data v)).number) ≡ true = eq-eqb n (line_source (debug_data v)).number (same ∙ is ∙ sym (data-line_number v)) in
    b ∙ sym (data-lines v) ∙ sym (section-by v n true (n == (line_source (debug_data v)).str.number) e refl)

pub section-str : (v : View) (n k m : ℕ) (bytes : List ℕ) → k ≡ (located v Line).number → (n ≡ k → ⊥) → m ≡ (located v Str).number → n ≡ m → bytes ≡ (located v Str).bytes
    → bytes ≡ section_in (line_source (debug_data v)) n
section-str v n k m bytes is other mis same b =
    let e : (n == (line_source (debug_data v)).number) ≡ false = ne_eqb n (line_source (debug_data v)).number (λ s. other (s ∙ data-line_number v ∙ sym is)) in
    let f : (n == (line_source (debug_data v)).str.number) ≡ true = eq-eqb n (line_source (debug_data v)).str.number (same ∙ mis ∙ sym (ap (λ z. z.number) (data-str v))) in
    b ∙ sym (ap (λ z. z.bytes) (data-str v)) ∙ sym (section-by v n false true e f)

pub section-line_str : (v : View) (n k m : ℕ) (bytes : List ℕ) → k ≡ (located v Line).number → (n ≡ k → ⊥) → m ≡ (located v Str).number → (n ≡ m → ⊥)
    → bytes ≡ (located v LineStr).bytes → bytes ≡ section_in (line_source (debug_data v)) n
section-line_str v n k m bytes is other mis other_str b =
    let e : (n == (line_source (debug_data v)).number) ≡ false = ne_eqb n (line_source (debug_data v)).number (λ s. other (s ∙ data-line_number v ∙ sym is)) in
    let f : (n == (line_source (debug_data v)).str.number) ≡ false = ne_eqb n (line_source (debug_data v)).str.number (λ s. other_str (s ∙ ap (λ z. z.number) (data-str v) ∙ sym mis)) in
    b ∙ sym (ap (λ z. z.bytes) (data-line_str v)) ∙ sym (section-by v n false false e f)

pub ruleset section_rules = (section-line, section-str, section-line_str)
