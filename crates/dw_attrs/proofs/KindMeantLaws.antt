-- What a value of a kind says at its place is what its cells mean.
use Rattle.std.proofs.Common.{Bool, true, false, ◌≡◌, ◌≢◌, ◌⊎◌, inl, inr, ℕ, ◌+◌, ◌==◌, List, [], ◌∷◌, length, take, drop, cond, nat_le, Some, None, refl, sym, ap, ◌∙◌, subst, if◌then◌else◌}
use Rattle.std.specs.Prelude.{◌&&◌, ◌||◌, IsTrue, nat_lt, not}
use Rattle.std.proofs.lemmas.Bool.{and_parts, eqb-true, ne_eqb}
use Rattle.dw_base.specs.Cells.{Cell, offset_into}
use Rattle.dw_base.specs.DebugData.{Around}
use Rattle.dw_base.specs.FileViews.{address_at, field_at}
use Rattle.dw_base.specs.Forests.{attribute}
use Rattle.dw_base.specs.Forms.{ValueKind, number_of, leb_number, signed_leb, block_of, counted, counted_leb, inline_text, text_offset, present, in_abbreviation, form_in_front, supplementary, unlisted, FormRow, form_rows, kind_by, kind_in}
use Rattle.dw_base.specs.Roles.{is_line_start, is_macro_start, use_of, is_macros}
use Rattle.dw_base.specs.TableStarts.{can_start, is_start_form, own_form}
use Rattle.dw_base.specs.Texts.{text_in}
use Rattle.dw_base.specs.ViewData.{located}
use Rattle.dw_base.specs.declared.debug_sections.DebugSection.{DebugSection}
use Rattle.dw_base.specs.declared.debug_sections.DebugSection.TheVariants.{Str, LineStr, Line}
use Rattle.dw_base.specs.UnitHeaders.{is_address_size}
use Rattle.dw_base.specs.UnitMeanings.{value_mark}
use Rattle.dw_base.specs.UnitStates.{Mode, UnitState, in_unit}
use Rattle.dw_base.specs.ValueMeanings.{line_meaning, macro_meaning, meaning_of_value, number_meaning, plain_meaning}
use Rattle.dw_base.specs.Values.{value_of, bare_value, offset_class}
use Rattle.dw_base.specs.declared.dwarf_numbers.TheConstants.{DW_AT_stmt_list, DW_FORM_implicit_const}
use Rattle.dw_base.specs.declared.shared.Params.{Params}
use Rattle.dw_base.specs.declared.values.Spec.{Spec}
use Rattle.dw_base.specs.declared.values.Value.{Value}
use Rattle.dw_base.specs.declared.values.ValueClass.{ValueClass}
use Rattle.dw_base.specs.declared.values.ValueClass.TheVariants.{Address, Number, Signed, Bytes, Flag, InlineText, StrOffset, LineStrOffset, StrIndex, AddrIndex, ListIndex, LocalRef, GlobalRef, Signature, SecOffset}
use Rattle.dw_base.specs.declared.view_fields.Field.{Field}
use Rattle.dw_base.specs.declared.view_fields.Field.TheVariants.{Num}
use Rattle.dw_meaning.proofs.ScanPieceLaws.{unit_bytes}
use Rattle.dw_meaning.proofs.ValueCutLaws.{value_of-own}
use Rattle.dw_base.proofs.StartFormLaws.{form-starts, line-macros, line-use, macro-use, macro-value, plain-use, is_plain_use}
use Rattle.dw_attrs.specs.UnitValues.{SaidUnit, class_meant, entry_meant, has_field, index_meant, is_leb_form, macro_meant, reference_meant, signed_of, table_meant, value_address, value_bytes, value_field, value_offset, other_meant, plain_meant, says_start, says_unit, value_meant}
use Rattle.dw_attrs.specs.Sayings.{said_bytes, said_field, said_signed, said_text, said_of}
use Rattle.dw_attrs.proofs.FieldPlaceLaws.{field-none}
use Rattle.dw_attrs.proofs.FormFactLaws.{FormFacts}
use Rattle.dw_attrs.proofs.ValueMeantLaws.{IsAround, IsIn, number-read, leb-read, signed-read, block-read, text-read, sized-said, start-said, macro-said, leb-said, sleb-said, block-said, inline-said, offset-said, counted-said, counted-leb-said}
use Rattle.dw_base.specs.declared.values.AttributeUse.{AttributeUse}
use Rattle.dw_base.specs.declared.values.AttributeUse.TheVariants.{NamesPath, NamesLineTable, NamesMacroUnit, NamesOther}

abbrev all_rows : (FormRow → Bool) → List FormRow → Bool
all_rows P [] = true
all_rows P (r ∷ rs) = P r && all_rows P rs

-- a kind that isn't a number of the abbreviation, or this holds
abbrev plain_or_const : ValueKind → Bool → Bool
plain_or_const in_abbreviation b = b
plain_or_const k b = true

-- a flag without bytes
bare-said : (u : SaidUnit) (bytes : List ℕ) (place form : ℕ) (v : Value) → bare_value bytes place Flag 1 ≡ Some v → said_field Flag (Num 1) ≡ class_meant u v.class form v
unfolding class_meant
bare-said u bytes place form v e = by_room (nat_le place (length bytes)) e
  where
    or-true : (b : Bool) → (b || true) ≡ true
    or-true true = refl
    or-true false = refl

    by_room : (b : Bool) → cond b (Some (record { class = Flag; number = 1; at = place; len = 0; size = 0 })) None ≡ Some v → said_field Flag (Num 1) ≡ class_meant u v.class form v
    by_room true e =
        let class_is : Flag ≡ v.class = cc in
        let number_is : 1 ≡ v.number = cc in
        let len_is : v.len ≡ 0 = cc in
        ap (λ (k : ℕ). said_field Flag (Num k)) number_is
        ∙ sym (ap (said_field Flag) (ap (λ (b : Bool). if is_leb_form form || not b then Num v.number else field_at u.source.view u.header.section v.at v.len) (sym (field-none u.bytes v len_is))
        ∙ ap (λ (b : Bool). if b then Num v.number else field_at u.source.view u.header.section v.at v.len) (or-true (is_leb_form form))))
        ∙ ap (λ (c : ValueClass). class_meant u c form v) class_is
    by_room false e = absurd cc

-- a value that doesn't stand in its abbreviation
abbrev plain_kind : ValueKind → Bool
plain_kind in_abbreviation = false
plain_kind form_in_front = false
plain_kind k = true

-- a value of a kind says no start of a line table or a macro unit, for an attribute of this use
abbrev starts_none : ValueKind → AttributeUse → Bool
starts_none (number_of class n) says = not (is_line_start says class n) && not (is_macro_start says class n)
starts_none k says = true

not-true : (b : Bool) → not b ≡ true → b ≡ false
not-true true e = absurd cc
not-true false e = refl

kind-said : (around : Around) (u : SaidUnit) (cells : List Cell) (s : UnitState) (says : AttributeUse) (x : Spec) (k : ValueKind) (place form : ℕ) (v : Value) → IsAround around u → IsIn cells s u
    → FormFacts k form → plain_kind k ≡ true → starts_none k says ≡ true → value_of k s.header.params.order (unit_bytes s cells) place x.implicit ≡ Some v
    → said_of (meaning_of_value around s says x k (take v.size (drop place cells))) ≡ class_meant u v.class form v
unfolding value_of class_meant
kind-said around u cells s says x (number_of class n) place form v a i own plain none is =
    let parts = and_parts (not (is_line_start says class n)) (not (is_macro_start says class n)) none in
    ap (λ (b : Bool). said_of (if b then line_meaning around (take v.size (drop place cells)) else plain_meaning around s says class n (take v.size (drop place cells))))
    (not-true (is_line_start says class n) parts.0)
    ∙ ap (λ (b : Bool). said_of (if b then macro_meaning around.lasting (take v.size (drop place cells)) else number_meaning around s says class (take v.size (drop place cells))))
    (not-true (is_macro_start says class n) parts.1)
    ∙ sized-said around u cells s says class place n form v a i own (number-read class s.header.params.order (unit_bytes s cells) place n v is)
kind-said around u cells s says x (leb_number class) place form v a i own plain none is =
    leb-said around u cells s says class place form v a i own
    (value_of-own (leb_number class) s.header.params.order (unit_bytes s cells) place x.implicit v is).inside (leb-read class (unit_bytes s cells) place v is)
kind-said around u cells s says x signed_leb place form v a i own plain none is =
    sleb-said u cells s place form v i (value_of-own signed_leb s.header.params.order (unit_bytes s cells) place x.implicit v is).inside (signed-read (unit_bytes s cells) place v is)
kind-said around u cells s says x (block_of n) place form v a i own plain none is =
    block-said u cells s place 0 n form v i (block-read (unit_bytes s cells) place 0 n v is)
kind-said around u cells s says x (counted n) place form v a i own plain none is = counted-said u cells s place n form v i is
kind-said around u cells s says x counted_leb place form v a i own plain none is = counted-leb-said u cells s place form v i is
kind-said around u cells s says x inline_text place form v a i own plain none is =
    inline-said u cells s place form v i (value_of-own inline_text s.header.params.order (unit_bytes s cells) place x.implicit v is).inside (text-read (unit_bytes s cells) place v is)
kind-said around u cells s says x (text_offset table n) place form v a i own plain none is =
    offset-said around u cells s table place n form v a i own (number-read (offset_class table) s.header.params.order (unit_bytes s cells) place n v is)
kind-said around u cells s says x present place form v a i own plain none is = bare-said u (unit_bytes s cells) place form v is
kind-said around u cells s says x in_abbreviation place form v a i own plain none is = absurd cc
kind-said around u cells s says x form_in_front place form v a i own plain none is = absurd cc
kind-said around u cells s says x supplementary place form v a i own plain none is = absurd cc
kind-said around u cells s says x unlisted place form v a i own plain none is = absurd cc

-- where a value says a start
line-said : (around : Around) (u : SaidUnit) (cells : List Cell) (s : UnitState) (x : Spec) (k : ValueKind) (place form : ℕ) (v : Value) → IsAround around u → IsIn cells s u → FormFacts k form
    → can_start k ≡ true → value_of k s.header.params.order (unit_bytes s cells) place x.implicit ≡ Some v
    → said_of (meaning_of_value around s NamesLineTable x k (take v.size (drop place cells))) ≡ table_meant u.source (value_offset u Line form v)
unfolding value_of
line-said around u cells s x (number_of class n) place form v a i f can is =
    ap (λ (b : Bool). said_of (if b then line_meaning around (take v.size (drop place cells)) else plain_meaning around s NamesLineTable class n (take v.size (drop place cells)))) can
    ∙ start-said around u cells s class place n form v a i f (number-read class s.header.params.order (unit_bytes s cells) place n v is)
line-said around u cells s x (leb_number class) place form v a i f can is = absurd cc
line-said around u cells s x signed_leb place form v a i f can is = absurd cc
line-said around u cells s x (block_of n) place form v a i f can is = absurd cc
line-said around u cells s x (counted n) place form v a i f can is = absurd cc
line-said around u cells s x counted_leb place form v a i f can is = absurd cc
line-said around u cells s x inline_text place form v a i f can is = absurd cc
line-said around u cells s x (text_offset table n) place form v a i f can is = absurd cc
line-said around u cells s x present place form v a i f can is = absurd cc
line-said around u cells s x in_abbreviation place form v a i f can is = absurd cc
line-said around u cells s x form_in_front place form v a i f can is = absurd cc
line-said around u cells s x supplementary place form v a i f can is = absurd cc
line-said around u cells s x unlisted place form v a i f can is = absurd cc

unit-line : (around : Around) (u : SaidUnit) (cells : List Cell) (s : UnitState) (x : Spec) (k : ValueKind) (place form : ℕ) (v : Value) → IsAround around u → IsIn cells s u → FormFacts k form
    → can_start k ≡ true → value_of k s.header.params.order (unit_bytes s cells) place x.implicit ≡ Some v
    → said_of (meaning_of_value around s NamesMacroUnit x k (take v.size (drop place cells))) ≡ macro_meant u.source (value_field u form v)
unfolding value_of
unit-line around u cells s x (number_of class n) place form v a i f can is =
    ap (λ (b : Bool). said_of (if b then macro_meaning around.lasting (take v.size (drop place cells)) else number_meaning around s NamesMacroUnit class (take v.size (drop place cells))))
    (macro-value (number_of class n) ∙ can)
    ∙ macro-said around u cells s class place n form v a i f (number-read class s.header.params.order (unit_bytes s cells) place n v is)
unit-line around u cells s x (leb_number class) place form v a i f can is = absurd cc
unit-line around u cells s x signed_leb place form v a i f can is = absurd cc
unit-line around u cells s x (block_of n) place form v a i f can is = absurd cc
unit-line around u cells s x (counted n) place form v a i f can is = absurd cc
unit-line around u cells s x counted_leb place form v a i f can is = absurd cc
unit-line around u cells s x inline_text place form v a i f can is = absurd cc
unit-line around u cells s x (text_offset table n) place form v a i f can is = absurd cc
unit-line around u cells s x present place form v a i f can is = absurd cc
unit-line around u cells s x in_abbreviation place form v a i f can is = absurd cc
unit-line around u cells s x form_in_front place form v a i f can is = absurd cc
unit-line around u cells s x supplementary place form v a i f can is = absurd cc
unit-line around u cells s x unlisted place form v a i f can is = absurd cc

-- whether it does
other-none : (k : ValueKind) (says : AttributeUse) → is_plain_use says ≡ true → starts_none k says ≡ true
other-none (number_of class n) NamesPath e = by_class class
  where
    by_class : (c : ValueClass) → (not (is_line_start NamesPath c n) && not (is_macro_start NamesPath c n)) ≡ true
    by_class c = refl
other-none (number_of class n) NamesOther e = refl
other-none (number_of class n) NamesMacroUnit e = absurd cc
other-none (number_of class n) NamesLineTable e = absurd cc
other-none k says e = refl

line-none : (k : ValueKind) → can_start k ≡ false → starts_none k NamesLineTable ≡ true
line-none (number_of class n) e = ap (λ (b : Bool). not b && not (is_macro_start NamesLineTable class n)) e
line-none k e = refl

macro-none : (k : ValueKind) → can_start k ≡ false → starts_none k NamesMacroUnit ≡ true
macro-none (number_of class n) e = ap not (macro-value (number_of class n) ∙ e)
macro-none k e = refl

-- the form of a number that stands in its abbreviation
abbrev row_in : FormRow → Bool
row_in r = plain_or_const r.kind (r.form == DW_FORM_implicit_const)

rows-const : (rows : List FormRow) (form : ℕ) → all_rows row_in rows ≡ true → kind_by rows form ≡ in_abbreviation → (form == DW_FORM_implicit_const) ≡ true
rows-const [] form all e = absurd cc
rows-const (r ∷ rs) form all e =
    let parts = and_parts (row_in r) (all_rows row_in rs) all in
    by_form (r.form == form) refl parts.0 (λ f. rows-const rs form parts.1 f) e
  where
    const-is : (k : ValueKind) (b : Bool) → plain_or_const k b ≡ true → k ≡ in_abbreviation → b ≡ true
    const-is in_abbreviation b h e = h
    const-is k b h e = absurd cc

    by_form : (b : Bool) → (r.form == form) ≡ b → row_in r ≡ true → (kind_by rs form ≡ in_abbreviation → (form == DW_FORM_implicit_const) ≡ true)
        → cond b r.kind (kind_by rs form) ≡ in_abbreviation → (form == DW_FORM_implicit_const) ≡ true
    by_form true is one rest h =
        subst (λ (f : ℕ). (f == DW_FORM_implicit_const) ≡ true) (eqb-true r.form form is) (const-is r.kind (r.form == DW_FORM_implicit_const) one h)
    by_form false is one rest h = rest h

rows_in : (params : Params) → all_rows row_in (form_rows params) ≡ true
unfolding form_rows
rows_in params = refl

const-form : (params : Params) (form : ℕ) → kind_in params form ≡ in_abbreviation → (form == DW_FORM_implicit_const) ≡ true
unfolding kind_in
const-form params form e = rows-const (form_rows params) form (rows_in params) e

form-const : (params : Params) → kind_in params DW_FORM_implicit_const ≡ in_abbreviation
unfolding kind_in form_rows
form-const params = refl

pub other-const : (params : Params) (form : ℕ) → kind_in params form ≢ in_abbreviation → (form == DW_FORM_implicit_const) ≡ false
other-const params form other = ne_eqb form DW_FORM_implicit_const (λ e. other (ap (kind_in params) e ∙ form-const params))

-- values of one class with the same number and bytes say the same
own-same : (u : SaidUnit) (v w : Value) → w.at ≡ v.at → w.len ≡ v.len → value_bytes u w ≡ value_bytes u v
own-same u v w at len = ap (λ (n : ℕ). take n (drop w.at u.bytes)) len ∙ ap (λ (n : ℕ). take v.len (drop n u.bytes)) at

has-same : (u : SaidUnit) (v w : Value) → w.at ≡ v.at → w.len ≡ v.len → has_field u.bytes w ≡ has_field u.bytes v
has-same u v w at len =
    ap (λ (n : ℕ). nat_lt 0 n && nat_le n 8 && nat_le (w.at + n) (length u.bytes)) len ∙ ap (λ (n : ℕ). nat_lt 0 v.len && nat_le v.len 8 && nat_le (n + v.len) (length u.bytes)) at

place-same : (u : SaidUnit) (v w : Value) → w.at ≡ v.at → w.len ≡ v.len → field_at u.source.view u.header.section w.at w.len ≡ field_at u.source.view u.header.section v.at v.len
place-same u v w at len = ap (λ (n : ℕ). field_at u.source.view u.header.section n w.len) at ∙ ap (field_at u.source.view u.header.section v.at) len

pub field-same : (u : SaidUnit) (form : ℕ) (v w : Value) → w.at ≡ v.at → w.len ≡ v.len → w.number ≡ v.number → value_field u form w ≡ value_field u form v
field-same u form v w at len n =
    ap (λ (b : Bool). if is_leb_form form || not b then Num w.number else field_at u.source.view u.header.section w.at w.len) (has-same u v w at len)
    ∙ ap (λ (k : ℕ). if is_leb_form form || not (has_field u.bytes v) then Num k else field_at u.source.view u.header.section w.at w.len) n
    ∙ ap (λ (f : Field). if is_leb_form form || not (has_field u.bytes v) then Num v.number else f) (place-same u v w at len)

address-same : (u : SaidUnit) (v w : Value) → w.at ≡ v.at → w.len ≡ v.len → w.number ≡ v.number → value_address u w ≡ value_address u v
address-same u v w at len n =
    ap (λ (b : Bool). if b then address_at u.source.view u.header.section w.at w.len else Num w.number) (has-same u v w at len)
    ∙ ap (λ (k : ℕ). if has_field u.bytes v then address_at u.source.view u.header.section w.at w.len else Num k) n
    ∙ ap (λ (f : Field). if has_field u.bytes v then f else Num v.number)
    (ap (λ (m : ℕ). address_at u.source.view u.header.section m w.len) at ∙ ap (address_at u.source.view u.header.section v.at) len)

offset-same : (u : SaidUnit) (name : DebugSection) (form : ℕ) (v w : Value) → w.at ≡ v.at → w.len ≡ v.len → w.number ≡ v.number
    → value_offset u name form w ≡ value_offset u name form v
offset-same u name form v w at len n = ap (offset_into (located u.source.view name)) (field-same u form v w at len n)

class-same : (u : SaidUnit) (c : ValueClass) (form : ℕ) (v w : Value) → w.at ≡ v.at → w.len ≡ v.len → w.number ≡ v.number → class_meant u c form w ≡ class_meant u c form v
unfolding class_meant
class-same u Address form v w at len n = ap (said_field Address) (address-same u v w at len n)
class-same u Signed form v w at len n = ap (λ (k : ℕ). said_signed (signed_of k)) n
class-same u Bytes form v w at len n = ap said_bytes (own-same u v w at len)
class-same u InlineText form v w at len n = ap said_text (own-same u v w at len)
class-same u StrOffset form v w at len n = ap (λ (k : ℕ). said_text (text_in (located u.source.view Str).bytes k)) (offset-same u Str form v w at len n)
class-same u LineStrOffset form v w at len n = ap (λ (k : ℕ). said_text (text_in (located u.source.view LineStr).bytes k)) (offset-same u LineStr form v w at len n)
class-same u StrIndex form v w at len n =
    ap (λ (k : ℕ). index_meant u.source.view u.source.contributions u.base k (value_bytes u w)) n
    ∙ ap (index_meant u.source.view u.source.contributions u.base v.number) (own-same u v w at len)
class-same u LocalRef form v w at len n = ap (λ (k : ℕ). entry_meant u.source u.header.section (u.header.start + k) k) n
class-same u GlobalRef form v w at len n = ap (reference_meant u.source) (field-same u form v w at len n)
class-same u Number form v w at len n = ap (said_field Number) (field-same u form v w at len n)
class-same u Flag form v w at len n = ap (said_field Flag) (field-same u form v w at len n)
class-same u AddrIndex form v w at len n = ap (said_field AddrIndex) (field-same u form v w at len n)
class-same u ListIndex form v w at len n = ap (said_field ListIndex) (field-same u form v w at len n)
class-same u Signature form v w at len n = ap (said_field Signature) (field-same u form v w at len n)
class-same u SecOffset form v w at len n = ap (said_field SecOffset) (field-same u form v w at len n)

-- what a value of a kind says at its place is what its cells mean
pub own-shown : (around : Around) (u : SaidUnit) (cells : List Cell) (s : UnitState) (number tag : ℕ) (x y : Spec) (k : ValueKind) (place own form : ℕ) (v w : Value) → IsAround around u
    → IsIn cells s u → FormFacts k form → plain_kind k ≡ true → own_form x u.bytes place ≡ form → y.name ≡ x.name
    → (x.form == DW_FORM_implicit_const) ≡ false → w.class ≡ v.class → w.at ≡ v.at → w.len ≡ v.len → w.number ≡ v.number
    → value_of k s.header.params.order (unit_bytes s cells) own y.implicit ≡ Some w
    → said_of (meaning_of_value around s (use_of number tag x.name) y k (take w.size (drop own cells))) ≡ value_meant u x place v
unfolding value_meant class_meant
own-shown around u cells s number tag x y k place own form v w a i owned plain form_is name const class_is at_is len_is number_is is = by_line (x.name == DW_AT_stmt_list) refl
  where
    classed : class_meant u w.class form w ≡ class_meant u v.class (own_form x u.bytes place) v
    classed =
        ap (λ (c : ValueClass). class_meant u c form w) class_is ∙ class-same u v.class form v w at_is len_is number_is
        ∙ ap (λ (f : ℕ). class_meant u v.class f v) (sym form_is)

    shown-plain : says_start x u.bytes place ≡ false → says_unit x u.bytes place ≡ false → value_meant u x place v ≡ class_meant u v.class (own_form x u.bytes place) v
    shown-plain starts_ units_ =
        ap (λ (b : Bool). if b then table_meant u.source (value_offset u Line (own_form x u.bytes place) v) else other_meant u x place v) starts_
        ∙ ap (λ (b : Bool). if b then macro_meant u.source (value_field u (own_form x u.bytes place) v) else plain_meant u x (own_form x u.bytes place) v) units_
        ∙ ap (λ (b : Bool). if b then said_signed x.implicit else class_meant u v.class (own_form x u.bytes place) v) const

    plainly : starts_none k (use_of number tag x.name) ≡ true → says_start x u.bytes place ≡ false → says_unit x u.bytes place ≡ false
        → said_of (meaning_of_value around s (use_of number tag x.name) y k (take w.size (drop own cells))) ≡ value_meant u x place v
    plainly none starts_ units_ =
        kind-said around u cells s (use_of number tag x.name) y k own form w a i owned plain none is ∙ classed ∙ sym (shown-plain starts_ units_)

    -- a name of either kind says a start where the form can
    starts-form : (named : Bool) (b : Bool) → named ≡ true → can_start k ≡ b → (named && is_start_form (own_form x u.bytes place)) ≡ b
    starts-form named b line can = ap (λ (c : Bool). c && is_start_form (own_form x u.bytes place)) line ∙ ap is_start_form form_is ∙ sym owned.starts ∙ can

    starts-other : (named : Bool) → named ≡ false → (named && is_start_form (own_form x u.bytes place)) ≡ false
    starts-other named other = ap (λ (c : Bool). c && is_start_form (own_form x u.bytes place)) other

    by_start : (x.name == DW_AT_stmt_list) ≡ true → (b : Bool) → can_start k ≡ b
        → said_of (meaning_of_value around s (use_of number tag x.name) y k (take w.size (drop own cells))) ≡ value_meant u x place v
    by_start line true can =
        ap (λ (t : AttributeUse). said_of (meaning_of_value around s t y k (take w.size (drop own cells)))) (line-use number tag x.name line)
        ∙ line-said around u cells s y k own form w a i owned can is
        ∙ ap (table_meant u.source) (offset-same u Line form v w at_is len_is number_is ∙ ap (λ (f : ℕ). value_offset u Line f v) (sym form_is))
        ∙ sym (ap (λ (b : Bool). if b then table_meant u.source (value_offset u Line (own_form x u.bytes place) v) else other_meant u x place v)
        (starts-form (x.name == DW_AT_stmt_list) true line can))
    by_start line false can =
        plainly (ap (starts_none k) (line-use number tag x.name line) ∙ line-none k can) (starts-form (x.name == DW_AT_stmt_list) false line can)
        (starts-other (is_macros x.name) (line-macros x.name line))

    by_unit : (x.name == DW_AT_stmt_list) ≡ false → is_macros x.name ≡ true → (b : Bool) → can_start k ≡ b
        → said_of (meaning_of_value around s (use_of number tag x.name) y k (take w.size (drop own cells))) ≡ value_meant u x place v
    by_unit line macros true can =
        ap (λ (t : AttributeUse). said_of (meaning_of_value around s t y k (take w.size (drop own cells)))) (macro-use number tag x.name line macros)
        ∙ unit-line around u cells s y k own form w a i owned can is
        ∙ ap (macro_meant u.source) (field-same u form v w at_is len_is number_is ∙ ap (λ (f : ℕ). value_field u f v) (sym form_is))
        ∙ sym (ap (λ (b : Bool). if b then table_meant u.source (value_offset u Line (own_form x u.bytes place) v) else other_meant u x place v)
        (starts-other (x.name == DW_AT_stmt_list) line)
        ∙ ap (λ (b : Bool). if b then macro_meant u.source (value_field u (own_form x u.bytes place) v) else plain_meant u x (own_form x u.bytes place) v) (starts-form (is_macros x.name) true macros can))
    by_unit line macros false can =
        plainly (ap (starts_none k) (macro-use number tag x.name line macros) ∙ macro-none k can) (starts-other (x.name == DW_AT_stmt_list) line)
        (starts-form (is_macros x.name) false macros can)

    by_macros : (x.name == DW_AT_stmt_list) ≡ false → (b : Bool) → is_macros x.name ≡ b
        → said_of (meaning_of_value around s (use_of number tag x.name) y k (take w.size (drop own cells))) ≡ value_meant u x place v
    by_macros line true macros = by_unit line macros (can_start k) refl
    by_macros line false macros =
        plainly (other-none k (use_of number tag x.name) (plain-use number tag x.name line macros)) (starts-other (x.name == DW_AT_stmt_list) line)
        (starts-other (is_macros x.name) macros)

    by_line : (b : Bool) → (x.name == DW_AT_stmt_list) ≡ b
        → said_of (meaning_of_value around s (use_of number tag x.name) y k (take w.size (drop own cells))) ≡ value_meant u x place v
    by_line true line = by_start line (can_start k) refl
    by_line false line = by_macros line (is_macros x.name) refl

-- an attribute's line
pub own-mark : (k : ValueKind) (around : Around) (s : UnitState) (number tag : ℕ) (x : Spec) (p : List Cell) → k ≢ form_in_front
    → value_mark k around s number tag x p ≡ attribute (record { name = x.name; value = meaning_of_value around s (use_of number tag x.name) x k p })
own-mark form_in_front around s number tag x p other = absurd (other refl)
own-mark k around s number tag x p other = refl

pub not-front : (k : ValueKind) → k ≢ form_in_front → k ≢ in_abbreviation → plain_kind k ≡ true
not-front form_in_front other own = absurd (other refl)
not-front in_abbreviation other own = absurd (own refl)
not-front k other own = refl

pub is_const : (k : ValueKind) → (k ≡ in_abbreviation) ⊎ (k ≡ in_abbreviation → ⊥)
is_const in_abbreviation = inl refl
is_const form_in_front = inr (λ e. cc)
is_const (number_of class n) = inr (λ e. cc)
is_const (leb_number class) = inr (λ e. cc)
is_const signed_leb = inr (λ e. cc)
is_const (block_of n) = inr (λ e. cc)
is_const (counted n) = inr (λ e. cc)
is_const counted_leb = inr (λ e. cc)
is_const inline_text = inr (λ e. cc)
is_const (text_offset table n) = inr (λ e. cc)
is_const present = inr (λ e. cc)
is_const supplementary = inr (λ e. cc)
is_const unlisted = inr (λ e. cc)

-- a state of the same unit is in it
pub in-unit : (cells : List Cell) (s : UnitState) (u : SaidUnit) (place e d : ℕ) (m : Mode) → IsIn cells s u → IsIn cells (in_unit s place e d m) u
in-unit cells s u place e d m i = record {
  section_is = i.section_is;
  unit_is = i.unit_is;
  header_is = i.header_is;
  bytes_are = i.bytes_are;
  cells_are = i.cells_are;
  order_is = i.order_is;
  address = i.address;
}

pub unit-small : (cells : List Cell) (s : UnitState) (u : SaidUnit) → IsIn cells s u → IsTrue (is_address_size s.header.params.address)
unit-small cells s u i = ap (λ h. is_address_size h.params.address) i.header_is ∙ i.address

-- a number that stands in its abbreviation
pub const-shown : (around : Around) (u : SaidUnit) (s : UnitState) (number tag : ℕ) (x : Spec) (place : ℕ) (v : Value) (p : List Cell) (params : Params) → own_form x u.bytes place ≡ x.form
    → kind_in params x.form ≡ in_abbreviation → said_of (meaning_of_value around s (use_of number tag x.name) x (kind_in params x.form) p) ≡ value_meant u x place v
unfolding value_meant
const-shown around u s number tag x place v p params form_is const =
    let starts : is_start_form x.form ≡ false = sym (form-starts params x.form) ∙ ap can_start const in
    ap (λ (k : ValueKind). said_of (meaning_of_value around s (use_of number tag x.name) x k p)) const
    ∙ sym (ap (λ (b : Bool). if b then table_meant u.source (value_offset u Line (own_form x u.bytes place) v) else other_meant u x place v) (says-none (x.name == DW_AT_stmt_list) starts)
    ∙ ap (λ (b : Bool). if b then macro_meant u.source (value_field u (own_form x u.bytes place) v) else plain_meant u x (own_form x u.bytes place) v) (says-none (is_macros x.name) starts)
    ∙ ap (λ (b : Bool). if b then said_signed x.implicit else class_meant u v.class (own_form x u.bytes place) v) (const-form params x.form const))
  where
    and-false : (b : Bool) → (b && false) ≡ false
    and-false true = refl
    and-false false = refl

    says-none : (named : Bool) → is_start_form x.form ≡ false → (named && is_start_form (own_form x u.bytes place)) ≡ false
    says-none named starts = ap (λ (f : ℕ). named && is_start_form f) form_is ∙ ap (λ (b : Bool). named && b) starts ∙ and-false named
