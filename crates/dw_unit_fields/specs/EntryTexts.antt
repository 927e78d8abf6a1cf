-- What a pass over the values of an entry finds: the texts that they name, and the paths among them; and what it refuses (DWARF 5, 7.5.5, class
-- string; gABI ch. 4 "Relocation").
use Rattle.std.specs.Prelude.{true, false, ◌≡◌, ◌⊎◌, ℕ, ◌+◌, ◌≤◌, List, [], ◌∷◌, ◌++◌, IsTrue, ⊤, Option, Some, None}
use Rattle.dw_base.specs.Cells.{Cell, Located, cells_at, offset_of, field_of, is_placed}
use Rattle.dw_base.specs.EntryScans.{SpellsValues, ValuesFail}
use Rattle.dw_base.specs.FormFails.{FormFails}
use Rattle.dw_base.specs.Forms.{width_size}
use Rattle.dw_base.specs.Numbers.{number_at}
use Rattle.dw_base.specs.Refusals.{at}
use Rattle.dw_base.specs.RelocationRows.{FieldPlace, OffsetFails, field_place, offset_field}
use Rattle.dw_base.specs.TableStarts.{is_start_form}
use Rattle.dw_base.specs.Texts.{ends_in}
use Rattle.dw_base.specs.Values.{number_value, value_at}
use Rattle.dw_base.specs.declared.debug_sections.DebugSection.{DebugSection}
use Rattle.dw_base.specs.declared.fault.Kind.TheVariants.{StringOffset}
use Rattle.dw_base.specs.declared.fault.Refusal.{Refusal}
use Rattle.dw_base.specs.declared.shared.Order.{Order}
use Rattle.dw_base.specs.declared.shared.Params.{Params}
use Rattle.dw_offsets.specs.declared.fields.OffsetField.{OffsetField}
use Rattle.dw_base.specs.declared.values.Spec.{Spec}
use Rattle.dw_base.specs.declared.values.Value.{Value}
use Rattle.dw_base.specs.declared.values.ValueClass.{ValueClass}
use Rattle.dw_base.specs.declared.values.ValueClass.TheVariants.{StrOffset, LineStrOffset}
use Rattle.dw_unit_fields.specs.TextPlaces.{TextPlace, base_in, indexes_in, inline_in, places_into, stray_in, value_places}
use Rattle.dw_unit_fields.specs.SectionFields.{SectionFields, each_behind, lists_by, with_field, with_inline, with_stray_at}
use Rattle.dw_unit_fields.specs.declared.fields.TextBase.{TextBase}
use Rattle.dw_unit_fields.specs.declared.fields.InlinePath.{InlinePath}
use Rattle.dw_unit_fields.specs.declared.fields.TextIndex.{TextIndex}

-- the tables of texts
pub record TextTables : Type 0 where
  pub str : Located
  pub line_str : Located

-- a section whose values name texts, its number and its contents, with the byte order and the tables of texts
pub record Tables : Type 0 where
  pub order : Order
  pub number : ℕ
  pub cells : List Cell
  pub str : Located
  pub line_str : Located

-- the field of a value, and the offset that it holds into a table
abbrev pub value_field : Value → FieldPlace
value_field v = field_place v.at v.len offset_field

abbrev pub offset_in : Tables → Located → Value → ℕ
offset_in t z v = offset_of t.order z (cells_at t.cells v.at v.len)

-- what a pass over a unit section found: what it says of paths, and of the unit where the pass is its base and its values by index
pub record FoundTexts : Type 0 where
  pub paths : SectionFields
  pub base : Option TextBase
  pub indexes : List TextIndex

-- nothing was found in a section
abbrev pub no_paths : ℕ → SectionFields
no_paths number = record { number = number; fields = lists_by (λ s. []); inline = []; stray = None }

-- what was found before a unit: the paths of those before it
abbrev pub none_found : SectionFields → FoundTexts
none_found u = record { paths = u; base = None; indexes = [] }

-- the first value that can't say where a line table or a macro unit starts, or else one of these places
abbrev pub with_stray : Option ℕ → List TextPlace → Option ℕ
with_stray None ts = stray_in ts
with_stray (Some n) ts = Some n

-- paths, with more places behind
unfoldable pub with_paths : SectionFields → List TextPlace → SectionFields
with_paths u ts = record {
  number = u.number;
  fields = each_behind u.fields (lists_by (places_into ts));
  inline = u.inline ++ inline_in ts;
  stray = with_stray u.stray ts;
}

-- what was found, with one more field that holds an offset into a section, path that stands in its value, or value by index; and with the first place of a
-- value that can't say a start
abbrev pub noted : FoundTexts → DebugSection → OffsetField → FoundTexts
noted f into field = record { paths = with_field f.paths into field; base = f.base; indexes = f.indexes }

abbrev pub inline_noted : FoundTexts → InlinePath → FoundTexts
inline_noted f p = record { paths = with_inline f.paths p; base = f.base; indexes = f.indexes }

abbrev pub index_noted : FoundTexts → TextIndex → FoundTexts
index_noted f i = record { paths = f.paths; base = f.base; indexes = f.indexes ++ i ∷ [] }

abbrev pub stray_noted : FoundTexts → ℕ → FoundTexts
stray_noted f place = record { paths = with_stray_at f.paths place; base = f.base; indexes = f.indexes }

-- with the base, where there is none yet
abbrev pub base_kept : Option TextBase → TextBase → Option TextBase
base_kept None b = Some b
base_kept (Some x) b = Some x

abbrev pub base_noted : FoundTexts → TextBase → FoundTexts
base_noted f b = record { paths = f.paths; base = base_kept f.base b; indexes = f.indexes }

-- a base, or else one that these places say
abbrev pub with_base : Option TextBase → List TextPlace → Option TextBase
with_base None ts = base_in ts
with_base (Some b) ts = Some b

-- what was found, with more places behind
unfoldable pub with_places : FoundTexts → List TextPlace → FoundTexts
with_places f ts = record {
  paths = with_paths f.paths ts;
  base = with_base f.base ts;
  indexes = f.indexes ++ indexes_in ts;
}

-- an offset of a class names a text that ends in its table
abbrev pub OffsetNames : Tables → ValueClass → Value → Type 0
OffsetNames t StrOffset v = IsTrue (ends_in t.str.bytes (offset_in t t.str v))
OffsetNames t LineStrOffset v = IsTrue (ends_in t.line_str.bytes (offset_in t t.line_str v))
OffsetNames t class v = ⊤

-- the field of an offset of a class lies in so many bytes
abbrev pub OffsetLies : ℕ → ValueClass → Value → Type 0
OffsetLies n StrOffset v = v.at + v.len ≤ n
OffsetLies n LineStrOffset v = v.at + v.len ≤ n
OffsetLies n class v = ⊤

-- an offset of a class has four bytes or eight
abbrev pub OffsetSized : ValueClass → ℕ → Type 0
OffsetSized StrOffset n = (n ≡ 4) ⊎ (n ≡ 8)
OffsetSized LineStrOffset n = (n ≡ 4) ⊎ (n ≡ 8)
OffsetSized class n = ⊤

-- a value of a form that can say where a line table or a macro unit starts has four bytes or eight
pub record StartSized (form n : ℕ) : Type 0 where
  pub sized : is_start_form form ≡ true → (n ≡ 4) ⊎ (n ≡ 8)

-- the offset of a text in `.debug_str` that stands at a place
pub record IsStrValue (params : Params) (bytes : List ℕ) (place : ℕ) (v : Value) : Type 0 where
  pub is : number_value StrOffset place (width_size params.width) (number_at params.order bytes place (width_size params.width)) ≡ Some v

-- a value can be taken: its offset names a text
pub record IsTaken (t : Tables) (v : Value) : Type 0 where
  pub names : OffsetNames t v.class v

-- so can the values of attributes that stand one after another from a place on
abbrev pub TakenBehind : (ℕ → Type 0) → Tables → ℕ → Option Value → Type 0
TakenBehind rest t place None = ⊤
TakenBehind rest t place (Some v) = IsTaken t v × rest (place + v.size)

abbrev pub AreTaken : Tables → Params → List ℕ → List Spec → ℕ → Type 0
AreTaken t params bytes [] place = ⊤
AreTaken t params bytes (x ∷ xs) place = TakenBehind (λ p. AreTaken t params bytes xs p) t place (value_at params x bytes place)

-- the table of texts that offsets of a class are of
abbrev pub table_by : Tables → ValueClass → Option Located
table_by t StrOffset = Some t.str
table_by t LineStrOffset = Some t.line_str
table_by t class = None

-- why an offset names no text of a table: a relocation lies on it only in part, or gives no place; or no text that ends begins there, at the
-- field
pub data OffsetRefuses (t : Tables) (z : Located) (v : Value) : Refusal → Type 0 where
  relocation : {r : Refusal} → OffsetFails t.order t.number t.cells (value_field v) r → OffsetRefuses t z v r
  no_text : is_placed (field_of t.order (cells_at t.cells v.at v.len)) ≡ true → ends_in z.bytes (offset_in t z v) ≡ false
      → OffsetRefuses t z v (at StringOffset t.number v.at)

-- so can't a value be taken that is such an offset
pub data ValueRefuses (t : Tables) (v : Value) : Refusal → Type 0 where
  offset : (z : Located) {r : Refusal} → table_by t v.class ≡ Some z → OffsetRefuses t z v r → ValueRefuses t v r

-- why no value that can be taken stands at a place
pub data OneRefuses (t : Tables) (params : Params) (bytes : List ℕ) (section place : ℕ) (x : Spec) : Refusal → Type 0 where
  none : {r : Refusal} → FormFails params x bytes section place r → OneRefuses t params bytes section place x r
  some : (v : Value) {r : Refusal} → value_at params x bytes place ≡ Some v → ValueRefuses t v r → OneRefuses t params bytes section place x r

-- why the values of an entry can't be: one of them can't be read, or not be taken, and those before it stand from a place on
pub data ValuesRefuse (t : Tables) (params : Params) (bytes : List ℕ) (section start : ℕ) (specs : List Spec) : Refusal → Type 0 where
  fails : {r : Refusal} → ValuesFail params bytes section start specs r → ValuesRefuse t params bytes section start specs r
  value : (before behind : List Spec) (x : Spec) (place : ℕ) (v : Value) {r : Refusal} → specs ≡ before ++ x ∷ behind
      → SpellsValues params bytes start before place → value_at params x bytes place ≡ Some v → ValueRefuses t v r
      → ValuesRefuse t params bytes section start specs r

-- a value of an attribute of entry `number` was read at a place, and what it says of paths stands behind what was found
pub record ValueTaken (t : Tables) (params : Params) (bytes : List ℕ) (number tag : ℕ) (x : Spec) (place size : ℕ) (old new : FoundTexts) : Type 0 where
  pub value : Value
  pub is : value_at params x bytes place ≡ Some value
  pub size_is : size ≡ value.size
  pub taken : IsTaken t value
  pub found : new ≡ with_places old (value_places number tag x bytes place value)
