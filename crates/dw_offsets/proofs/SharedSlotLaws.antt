-- Laws of the test that no slot is shared.
use Rattle.std.proofs.Common.{Bool, true, false, ◌≡◌, ◌≢◌, ℕ, ◌+◌, ◌<◌, ◌≤◌, List, [], ◌∷◌, length, get_or, drop, refl, sym, ap, ◌∙◌, subst, arith}
use Rattle.std.proofs.lemmas.List.{drop_all, drop_more}
use Rattle.dw_base.specs.Cells.{offset_into}
use Rattle.dw_base.specs.FileViews.{View, field_at, section_bytes}
use Rattle.dw_base.specs.Paths.{PathMap, mapped_path}
use Rattle.dw_base.specs.Refusals.{at, Blames}
use Rattle.dw_base.specs.Texts.{ends_in, text_in}
use Rattle.dw_base.specs.ViewData.{located}
use Rattle.dw_base.specs.declared.debug_sections.DebugSection.TheVariants.{Str}
use Rattle.dw_base.specs.declared.fault.Fault.{Fault}
use Rattle.dw_base.specs.declared.fault.Fault.TheVariants.{NoMemory, Refused}
use Rattle.dw_base.specs.declared.fault.Kind.TheVariants.{SharedIndex}
use Rattle.dw_base.specs.declared.fault.Refusal.{Refusal}
use Rattle.dw_base.specs.declared.view_fields.Field.{Field}
use Rattle.dw_base.proofs.ViewCellLaws.{offset_at-cells}
use Rattle.dw_offsets.specs.PathSlots.{AreSlotFields, FieldShared, FieldStays, FieldsShared, FieldsStay, IsSlotField, SlotTable, field, named_text, shared, slot_in, slot_offset, slots_in, table_in}
use Rattle.dw_offsets.specs.SlotMarks.{marked}
use Rattle.dw_offsets.specs.declared.fields.OffsetField.{OffsetField}
use Rattle.dw_offsets.proofs.PathSlotLaws.{slot-there}

-- what the field of a slot reads as is the offset of the slot's cells
pub value-some : (t : SlotTable) (f : OffsetField) → IsSlotField t f → 0 < f.size
value-some t f is = is.some

pub value-wide : (t : SlotTable) (f : OffsetField) → IsSlotField t f → f.size ≤ 8
value-wide t f is = is.wide

pub value-there : (v : View) (i : ℕ) (t : SlotTable) (f : OffsetField) → t ≡ table_in v i → IsSlotField t f → f.at + f.size ≤ length (section_bytes v i)
value-there v i t f is own = slot-there v i f.at f.size t is own.inside

pub value-offset : (v : View) (i : ℕ) (t : SlotTable) (f : OffsetField) (x : Field) → t ≡ table_in v i → IsSlotField t f → x ≡ field_at v i f.at f.size
    → offset_into t.str x ≡ slot_offset t (slot_in f)
value-offset v i t f x is own e =
    ap (λ (y : SlotTable). offset_into y.str x) is ∙ ap (offset_into (located v Str)) e
    ∙ sym (offset_at-cells v (located v Str) i f.at f.size own.some (value-there v i t f is own)) ∙ ap (λ (y : SlotTable). slot_offset y (slot_in f)) (sym is)

pub ruleset value_laws = (value-some, value-wide, value-there, value-offset)

-- a field whose slot isn't shared
pub stays-other : (m : PathMap) (t : SlotTable) (marks : List ℕ) (f : OffsetField) → f.path ≡ false → FieldStays m t marks f
stays-other m t marks f none = record { stays = λ path other. absurd (never f.path none path) }
  where
    never : (b : Bool) → b ≡ false → b ≡ true → ⊥
    never b e h = absurd cc

pub stays-alone : (m : PathMap) (t : SlotTable) (marks : List ℕ) (f : OffsetField) (o : Bool) → o ≡ marked false marks f.at → o ≡ false → FieldStays m t marks f
stays-alone m t marks f o mark none = record { stays = λ path other. absurd (never o none (mark ∙ other)) }
  where
    never : (b : Bool) → b ≡ false → b ≡ true → ⊥
    never b e h = absurd cc

pub text-ends : (t : SlotTable) (f : OffsetField) (n : ℕ) → IsSlotField t f → n ≡ slot_offset t (slot_in f) → ends_in t.str.bytes n ≡ true
text-ends t f n own e = ap (ends_in t.str.bytes) e ∙ own.ends

pub stays-same : (m : PathMap) (t : SlotTable) (marks : List ℕ) (f : OffsetField) (n : ℕ) → n ≡ slot_offset t (slot_in f)
    → mapped_path m (text_in t.str.bytes n) ≡ text_in t.str.bytes n → FieldStays m t marks f
stays-same m t marks f n is same = record { stays = λ path other. subst (λ (k : ℕ). mapped_path m (text_in t.str.bytes k) ≡ text_in t.str.bytes k) is same }

pub shared-slot : (m : PathMap) (t : SlotTable) (marks : List ℕ) (f : OffsetField) (n : ℕ) (o : Bool) → f.path ≡ true → o ≡ marked false marks f.at → o ≡ true
    → n ≡ slot_offset t (slot_in f) → mapped_path m (text_in t.str.bytes n) ≢ text_in t.str.bytes n → FieldShared m t marks f (at SharedIndex t.number f.at)
shared-slot m t marks f n o path mark other is changes =
    shared path (sym mark ∙ other) (λ same. changes (subst (λ (k : ℕ). mapped_path m (text_in t.str.bytes k) ≡ text_in t.str.bytes k) (sym is) same))

pub ruleset field_laws = (stays-other, stays-alone, text-ends, stays-same, shared-slot)

-- if the fields that are left stay, all do
pub record StayPassed (m : PathMap) (t : SlotTable) (marks : List ℕ) (fields : List OffsetField) (i : ℕ) : Type 0 where
  pub stay : FieldsStay m t marks (drop i fields) → FieldsStay m t marks fields

pub stay-none : (m : PathMap) (t : SlotTable) (marks : List ℕ) (fields : List OffsetField) → StayPassed m t marks fields 0
stay-none m t marks fields = record { stay = λ h. h }

pub stay-more : (m : PathMap) (t : SlotTable) (marks : List ℕ) (fields : List OffsetField) (i : ℕ) (f : OffsetField) → i < length fields → f ≡ get_or fields i f
    → FieldStays m t marks f → StayPassed m t marks fields i → StayPassed m t marks fields (i + 1)
stay-more m t marks fields i f lt is own passed =
    let front : drop i fields ≡ f ∷ drop (i + 1) fields = drop_more fields i f lt ∙ ap (λ (g : OffsetField). g ∷ drop (i + 1) fields) (sym is) in
    record { stay = λ rest. passed.stay (subst (FieldsStay m t marks) (sym front) (own, rest)) }

pub stay-all : (m : PathMap) (t : SlotTable) (marks : List ℕ) (fields : List OffsetField) (i : ℕ) → length fields ≤ i → StayPassed m t marks fields i → FieldsStay m t marks fields
stay-all m t marks fields i end passed = passed.stay (subst (FieldsStay m t marks) (sym (drop_all i fields end)) tt)

-- a field among others
pub field-there : (t : SlotTable) (fields : List OffsetField) (i : ℕ) (f : OffsetField) → AreSlotFields t fields → i < length fields → f ≡ get_or fields i f → IsSlotField t f
field-there t fields i f all lt is = all.each i f lt is

pub ruleset fields_laws = (stay-none, stay-all)

pub field-refused : (m : PathMap) (t : SlotTable) (marks : List ℕ) (fields : List OffsetField) (i : ℕ) (f : OffsetField) (x : Fault) → i < length fields → f ≡ get_or fields i f
    → Blames (FieldShared m t marks f) x → Blames (FieldsShared m t marks fields) x
field-refused m t marks fields i f NoMemory lt is own = tt
field-refused m t marks fields i f (Refused r) lt is own = field i f lt is own

-- the table is the view's
pub fields-of-view : (v : View) (t : SlotTable) (fields : List OffsetField) → t ≡ slots_in v → AreSlotFields (slots_in v) fields → AreSlotFields t fields
fields-of-view v t fields is own = subst (λ (y : SlotTable). AreSlotFields y fields) (sym is) own

pub ruleset shared_laws = (fields-of-view)
