-- Each place of a text in a section has a value behind it: so the fields of paths are fields, paths that stand in their values
-- have rooms, and one that would grow is a row of the debug data.
use Rattle.std.proofs.Common.{Bool, true, false, ◌≡◌, ◌≢◌, ◌⊎◌, ℕ, zero, suc, ◌+◌, ◌-◌, ◌==◌, ◌||◌, ◌≤◌, ◌<◌, List, [], ◌∷◌, ◌++◌, length, take, drop, get_or, Option, Some, None, refl, sym, ap, ◌∙◌, subst, arith, append_assoc}
use Rattle.std.specs.Bool.{⊤}
use Rattle.dw_base.specs.AbbreviationTables.{Abbreviation, abbreviation_of}
use Rattle.dw_base.specs.Cells.{Cell, Located, bytes_of, cells_at}
use Rattle.dw_meaning.specs.DataFails.{InlineFails, grows as grows_row}
use Rattle.dw_meaning.specs.RelocationFails.{ValueRelocationFails}
use Rattle.dw_meaning.specs.RelocationFails.ValueRelocationFails.{value as relocation_row}
use Rattle.dw_base.specs.DebugData.{DebugData}
use Rattle.dw_base.specs.EntryScans.{SpellsValues, no_values, more_values, scanned, Scans, starts, null, entry, AreEntries}
use Rattle.dw_base.specs.EntryValues.{HasTable, HasValue, bytes_up_to}
use Rattle.dw_base.specs.InlinePaths.{inline_fits}
use Rattle.dw_base.specs.Lebs.{uleb_at}
use Rattle.dw_base.specs.Paths.{PathMap}
use Rattle.dw_base.specs.Refusals.{at as refusal_at}
use Rattle.dw_base.specs.RelocationRows.{OffsetFails, field_place, is_section_offset as field_start, names_start, offset_field}
use Rattle.dw_base.specs.Roles.{Role, fixed, offset, inline_path, line_start, is_path, use_of, is_macros, is_start_name}
use Rattle.dw_base.specs.declared.dwarf_numbers.TheConstants.{DW_AT_stmt_list}
use Rattle.dw_base.specs.TextIndexes.{is_base}
use Rattle.dw_base.specs.Texts.{text_in}
use Rattle.dw_base.specs.UnitHeaders.{UnitBase, UnitSection, UnitsUpTo, no_units, more_units}
use Rattle.dw_base.specs.Values.{value_at}
use Rattle.dw_base.specs.declared.fault.Kind.TheVariants.{InlineGrows}
use Rattle.dw_base.specs.declared.fault.Refusal.{Refusal}
use Rattle.dw_base.specs.declared.shared.Order.{Order}
use Rattle.dw_base.specs.declared.units.Scanned.{Scanned}
use Rattle.dw_base.specs.declared.units.UnitHeader.{UnitHeader}
use Rattle.dw_base.specs.declared.values.Spec.{Spec}
use Rattle.dw_base.specs.declared.values.Value.{Value}
use Rattle.dw_base.specs.declared.values.ValueClass.{ValueClass}
use Rattle.dw_base.specs.declared.values.ValueClass.TheVariants.{InlineText, Number, StrOffset, LineStrOffset, StrIndex, SecOffset}
use Rattle.dw_meaning.proofs.ScanPieceLaws.{part-bytes, before-end, bytes_of-take, bytes_of-drop}
use Rattle.std.proofs.lemmas.List.{length-take}
use Rattle.dw_base.proofs.UnitEditLaws.{length-bytes_of}
use Rattle.dw_base.specs.TableStarts.{is_start_form, own_form}
use Rattle.dw_base.specs.declared.debug_sections.DebugSection.TheVariants.{Info}
use Rattle.dw_offsets.specs.declared.fields.OffsetField.{OffsetField}
use Rattle.dw_base.specs.declared.texts.TextSection.{TextSection}
use Rattle.dw_base.specs.declared.texts.TextSection.TheVariants.{InStr, InLineStr}
use Rattle.dw_unit_fields.specs.Fields.{AreOffsetFields, IsOffsetField, IsStartField, AreStartFields}
use Rattle.dw_unit_fields.specs.EntryTexts.{value_field}
use Rattle.dw_unit_fields.specs.InlineRooms.{AreRooms, grows, Grows, one}
use Rattle.dw_starts.specs.StringTables.{texts_in}
use Rattle.dw_unit_fields.specs.TextPlaces.{TextPlace, no_index, no_start, unit_base, base_offset, said_base, base_or, base_in, text_index, UnitSays, indexed_at, Indexed, line_at, line_places, macros_in, said_places, said_value, start_at, starts_in, unit_start, unit_start_at, class_places, value_places, values_places, entry_places, entries_places, UnitsPlaced, none_placed, more_placed, PlaceNames, PlacesName, fields_in, inline_at, inline_in, of_value}
use Rattle.dw_unit_fields.specs.SectionFields.{field_by, inline_text}
use Rattle.dw_unit_fields.specs.declared.fields.InlinePath.{InlinePath}
use Rattle.dw_unit_fields.specs.declared.fields.TextBase.{TextBase}
use Rattle.dw_unit_fields.specs.declared.fields.TextBase.TheVariants.{Field as BaseField, Number as BaseNumber}
use Rattle.dw_unit_fields.proofs.UnitTextLaws.{places-listed}
use Rattle.dw_unit_fields.proofs.InlineTextLaws.{text-front}
use Rattle.dw_unit_fields.proofs.ValueFactLaws.{OffsetRead, OffsetFacts, start-read, value-facts}
use Rattle.dw_base.proofs.StartFormLaws.{line-use, macro-use, macros-line}
use Rattle.dw_unit_fields.proofs.PlacedRunLaws.{entries_places-more}
use Rattle.dw_unit_fields.proofs.TextFieldLaws.{start-field}
use Rattle.dw_unit_fields.proofs.ValueTextLaws.{TextRead, value-text}
use Rattle.dw_meaning.specs.PieceRuns.{value_out}

-- this holds of each of a list
abbrev pub EachOf : {X : Type 0} → (X → Type 0) → List X → Type 0
EachOf P [] = ⊤
EachOf P (x ∷ xs) = P x × EachOf P xs

pub each-append : {X : Type 0} (P : X → Type 0) (xs ys : List X) → EachOf P xs → EachOf P ys → EachOf P (xs ++ ys)
each-append P [] ys a b = b
each-append P (x ∷ xs) ys a b = (a.0, each-append P xs ys a.1 b)

pub each-get : {X : Type 0} (P : X → Type 0) (xs : List X) (k : ℕ) (d : X) → k < length xs → EachOf P xs → P (get_or xs k d)
each-get P [] k d lt all = absurd (omega arith)
each-get P (x ∷ xs) zero d lt all = all.0
each-get P (x ∷ xs) (suc k) d lt all = each-get P xs k d (omega arith) all.1

pub each-of : {X : Type 0} (P Q : X → Type 0) (xs : List X) → ((x : X) → P x → Q x) → EachOf P xs → EachOf Q xs
each-of P Q [] f all = tt
each-of P Q (x ∷ xs) f all = (f x all.0, each-of P Q xs f all.1)

-- a value says a place: by its class, as the start of a line table or a macro unit, or as one that can't say a start
pub data SaysPlace (number tag : ℕ) (x : Spec) (bytes : List ℕ) (place : ℕ) (v : Value) (t : TextPlace) : Type 0 where
  by_class : class_places v.class (is_path number tag x.name) (is_base number x.name) (is_start_form (own_form x bytes place)) place v ≡ t ∷ [] → SaysPlace number tag x bytes place v t
  by_start : (x.name == DW_AT_stmt_list) ≡ true → is_start_form (own_form x bytes place) ≡ true → line_at true v ≡ t ∷ [] → SaysPlace number tag x bytes place v t
  by_unit : is_macros x.name ≡ true → is_start_form (own_form x bytes place) ≡ true → said_value true true 0 v ≡ t ∷ [] → SaysPlace number tag x bytes place v t
  by_stray : indexed_at place no_start ≡ t ∷ [] → SaysPlace number tag x bytes place v t

-- the value in a unit that says a place
pub record ValueBehind (h : UnitHeader) (table : List Abbreviation) (bytes : List ℕ) (t : TextPlace) : Type 0 where
  pub number : ℕ
  pub abbreviation : Abbreviation
  pub spec : Spec
  pub place : ℕ
  pub value : Value
  pub stands : HasValue h table bytes number abbreviation spec place value
  pub is : SaysPlace number abbreviation.tag spec bytes place value t

base-each : (P : TextPlace → Type 0) (field : Bool) (place at len n : ℕ) → ((t : TextPlace) → said_base field place at len n ≡ t ∷ [] → P t)
    → EachOf P (said_base field place at len n)
base-each P true place at len n f = (f _ refl, tt)
base-each P false place at len n f = (f _ refl, tt)

class-each : (P : TextPlace → Type 0) (c : ValueClass) (b base field : Bool) (place : ℕ) (v : Value)
    → ((t : TextPlace) → class_places c b base field place v ≡ t ∷ [] → P t) → EachOf P (class_places c b base field place v)
class-each P StrOffset b base field place v f = (f _ refl, tt)
class-each P LineStrOffset b base field place v f = (f _ refl, tt)
class-each P InlineText true base field place v f = (f _ refl, tt)
class-each P InlineText false base field place v f = tt
class-each P StrIndex b base field place v f = (f _ refl, tt)
class-each P Number b true field place v f = base-each P field place v.at v.len v.number f
class-each P Number b false field place v f = tt
class-each P SecOffset b true field place v f = base-each P field place v.at v.len v.number f
class-each P SecOffset b false field place v f = tt
class-each P c b base field place v f = tt

line-each : (P : TextPlace → Type 0) (line : Bool) (form : ℕ) (v : Value)
    → ((t : TextPlace) → line ≡ true → is_start_form form ≡ true → line_at true v ≡ t ∷ [] → P t) → EachOf P (line_places line form v)
line-each P false form v f = tt
line-each P true form v f = by_form (is_start_form form) refl
  where
    by_form : (b : Bool) → is_start_form form ≡ b → EachOf P (line_at b v)
    by_form true is = (f _ refl is refl, tt)
    by_form false is = tt

said-each : (P : TextPlace → Type 0) (start macro : Bool) (form at : ℕ) (v : Value)
    → ((t : TextPlace) → macro ≡ true → is_start_form form ≡ true → said_value true true 0 v ≡ t ∷ [] → P t) → ((t : TextPlace) → indexed_at at no_start ≡ t ∷ [] → P t)
    → EachOf P (said_places start macro form at v)
said-each P false macro form at v u f = tt
said-each P true macro form at v u f = by_form (is_start_form form) macro refl refl
  where
    by_form : (b m : Bool) → is_start_form form ≡ b → macro ≡ m → EachOf P (said_value b m at v)
    by_form true true is m = (u _ m is refl, tt)
    by_form true false is m = tt
    by_form false m is m_is = (f _ refl, tt)

value-each : (h : UnitHeader) (table : List Abbreviation) (bytes : List ℕ) (number : ℕ) (a : Abbreviation) (x : Spec) (place : ℕ) (v : Value)
    → HasValue h table bytes number a x place v → EachOf (ValueBehind h table bytes) (value_places number a.tag x bytes place v)
value-each h table bytes number a x place v has =
    let line : Bool = x.name == DW_AT_stmt_list in
    let texts : List TextPlace = class_places v.class (is_path number a.tag x.name) (is_base number x.name) (is_start_form (own_form x bytes place)) place v in
    each-append (ValueBehind h table bytes) (line_places (x.name == DW_AT_stmt_list) (own_form x bytes place) v)
    (texts ++ said_places (is_start_name x.name) (is_macros x.name) (own_form x bytes place) place v)
    (line-each (ValueBehind h table bytes) (x.name == DW_AT_stmt_list) (own_form x bytes place) v
    (λ (t : TextPlace) n f e. record { number = number; abbreviation = a; spec = x; place = place; value = v; stands = has; is = by_start n f e }))
    (each-append (ValueBehind h table bytes) texts (said_places (is_start_name x.name) (is_macros x.name) (own_form x bytes place) place v)
    (class-each (ValueBehind h table bytes) v.class (is_path number a.tag x.name) (is_base number x.name) (is_start_form (own_form x bytes place)) place v
    (λ (t : TextPlace) e. record { number = number; abbreviation = a; spec = x; place = place; value = v; stands = has; is = by_class e }))
    (said-each (ValueBehind h table bytes) (is_start_name x.name) (is_macros x.name) (own_form x bytes place) place v
    (λ (t : TextPlace) n f e. record { number = number; abbreviation = a; spec = x; place = place; value = v; stands = has; is = by_unit n f e })
    (λ (t : TextPlace) e. record { number = number; abbreviation = a; spec = x; place = place; value = v; stands = has; is = by_stray e })))

-- an entry whose values are met
record EntryStands (h : UnitHeader) (table : List Abbreviation) (bytes : List ℕ) (items : List Scanned) (start depth code size : ℕ) (a : Abbreviation) : Type 0 where
  scans : Scans h table bytes items start depth
  spells : uleb_at bytes start ≡ Some (code, size)
  some : code ≢ 0
  listed : abbreviation_of table code ≡ Some a

values-each : (h : UnitHeader) (table : List Abbreviation) (bytes : List ℕ) (items : List Scanned) (start depth code size : ℕ) (a : Abbreviation) (before xs : List Spec) (place : ℕ)
    → EntryStands h table bytes items start depth code size a → a.specs ≡ before ++ xs → SpellsValues h.params bytes (start + size) before place
    → EachOf (ValueBehind h table bytes) (values_places h.params bytes (length items) a.tag xs place)
values-each h table bytes items start depth code size a before [] place e cut spelled_ = tt
values-each h table bytes items start depth code size a before (x ∷ xs) place e cut spelled_ =
    by_value (value_at h.params x bytes place) refl
    (λ p s. values-each h table bytes items start depth code size a (before ++ x ∷ []) xs p e (cut ∙ sym (append_assoc before (x ∷ []) xs)) s)
  where
    by_value : (o : Option Value) → value_at h.params x bytes place ≡ o
        → ((p : ℕ) → SpellsValues h.params bytes (start + size) (before ++ x ∷ []) p → EachOf (ValueBehind h table bytes) (values_places h.params bytes (length items) a.tag xs p))
        → EachOf (ValueBehind h table bytes) (value_out (of_value bytes) (λ p. values_places h.params bytes (length items) a.tag xs p) (length items) a.tag x place o)
    by_value None is rest = tt
    by_value (Some v) is rest =
        each-append (ValueBehind h table bytes) (value_places (length items) a.tag x bytes place v) (values_places h.params bytes (length items) a.tag xs (place + v.size))
        (value-each h table bytes (length items) a x place v (record {
          items = items;
          start = start;
          depth = depth;
          scans = e.scans;
          nth = refl;
          code = code;
          size = size;
          spells = e.spells;
          some = e.some;
          listed = e.listed;
          before = before;
          behind = xs;
          attribute = cut;
          values = spelled_;
          is = is;
        }))
        (rest (place + v.size) (more_values before x place v spelled_ is))

-- so has each place of the entries of a unit
entries-each : (h : UnitHeader) (table : List Abbreviation) (bytes : List ℕ) (items : List Scanned) (place depth : ℕ) → Scans h table bytes items place depth
    → EachOf (ValueBehind h table bytes) (entries_places h.params table bytes 0 items)
entries-each h table bytes items place depth starts = tt
entries-each h table bytes items z d (null its place depth size s is) = entries-each h table bytes its place depth s
entries-each h table bytes all z d (entry items place depth after a s is root) =
    let here : EachOf (ValueBehind h table bytes) (values_places h.params bytes (length items) a.tag a.specs (place + is.size)) =
    values-each h table bytes items place depth is.code is.size a [] a.specs (place + is.size)
    (record { scans = s; spells = is.spells; some = is.some; listed = is.listed }) refl no_values in
    let first : 0 + length items ≡ length items = omega arith in
    let more : entries_places h.params table bytes 0 (items ++ scanned place depth a after ∷ [])
    ≡ entries_places h.params table bytes 0 items ++ entry_places h.params table bytes (length items) (scanned place depth a after) =
    entries_places-more h.params table bytes 0 items (scanned place depth a after)
    ∙ ap (λ (k : ℕ). entries_places h.params table bytes 0 items ++ entry_places h.params table bytes k (scanned place depth a after)) first in
    subst (EachOf (ValueBehind h table bytes)) (sym more)
    (each-append (ValueBehind h table bytes) (entries_places h.params table bytes 0 items) (entry_places h.params table bytes (length items) (scanned place depth a after))
    (entries-each h table bytes items place depth s)
    (subst (EachOf (ValueBehind h table bytes)) (places-listed h.params table bytes (length items) (scanned place depth a after) a is.code is.size is.spells is.listed) here))

-- the value in a section of debug data that says a place
pub record PlaceOf (d : DebugData) (z : UnitSection) (t : TextPlace) : Type 0 where
  pub header : UnitHeader
  pub table : List Abbreviation
  pub there : HasTable d z header table
  pub behind : ValueBehind header table (bytes_up_to z header) t

pub placed-units : (base : UnitBase) (z : UnitSection) (list : List UnitHeader) (place : ℕ) (ts : List TextPlace) (us : List UnitSays) → UnitsPlaced base z list place ts us
    → UnitsUpTo base z list place
placed-units base z list place ts us none_placed = no_units
placed-units base z all y xs ys (more_placed list h start places units table items p u t e) = more_units list h start (placed-units base z list start places units p) u

pub section-each : (d : DebugData) (z : UnitSection) (before behind : List UnitSection) (list : List UnitHeader) (place : ℕ) (ts : List TextPlace) (us : List UnitSays) → d.found Info ≡ before ++ z ∷ behind
    → UnitsPlaced d.base z list place ts us → EachOf (PlaceOf d z) ts
section-each d z before behind list place ts us split none_placed = tt
section-each d z before behind all y xs ys split (more_placed list h start places units table items p u t e) =
    let there : HasTable d z h table =
    record { unit = record { before = before; behind = behind; sections = split; list = list; start = start; units = placed-units d.base z list start places units p; is = u }; declares = t } in
    each-append (PlaceOf d z) places (entries_places h.params table (bytes_up_to z h) 0 items) (section-each d z before behind list start places units split p)
    (each-of (ValueBehind h table (bytes_up_to z h)) (PlaceOf d z) (entries_places h.params table (bytes_up_to z h) 0 items)
    (λ (x : TextPlace) b. record { header = h; table = table; there = there; behind = b })
    (entries-each h table (bytes_up_to z h) items h.end 0 e))

-- what is known of a place by its role: an offset is a field of four or eight bytes, and a path that stands in its value lies
-- in the section
pub record FieldPlace (info : List ℕ) (t : TextPlace) : Type 0 where
  pub sized : (t.len ≡ 4) ⊎ (t.len ≡ 8)
  pub inside : t.at + t.len ≤ length info

pub record InlineOf (d : DebugData) (z : UnitSection) (p : InlinePath) : Type 0 where
  pub header : UnitHeader
  pub table : List Abbreviation
  pub number : ℕ
  pub abbreviation : Abbreviation
  pub spec : Spec
  pub place : ℕ
  pub value : Value
  pub there : HasTable d z header table
  pub stands : HasValue header table (bytes_up_to z header) number abbreviation spec place value
  pub path : is_path number abbreviation.tag spec.name ≡ true
  pub class : value.class ≡ InlineText
  pub at_is : p.at ≡ value.at
  pub len_is : p.len ≡ value.len

-- and of one that says a start: a relocation that refuses its field is a row
pub record StartFacts (d : DebugData) (z : UnitSection) (t : TextPlace) : Type 0 where
  pub sized : (t.len ≡ 4) ⊎ (t.len ≡ 8)
  pub inside : t.at + t.len ≤ length (bytes_of z.contents)
  pub row : (r : Refusal) → OffsetFails d.base.order z.number z.contents (field_place t.at t.len offset_field) r → ValueRelocationFails d r

abbrev pub RoleFacts : Role → DebugData → UnitSection → TextPlace → Type 0
RoleFacts fixed d z t = ⊤
RoleFacts (offset table path) d z t = FieldPlace (bytes_of z.contents) t
RoleFacts inline_path d z t = InlineOf d z (record { at = t.at; len = t.len - 1 })
RoleFacts line_start d z t = StartFacts d z t

once : (s t : TextPlace) → s ∷ [] ≡ t ∷ [] → s ≡ t
once s t e = cc

field-place : (z : UnitSection) (h : UnitHeader) (v : Value) (t : TextPlace) → OffsetRead h.params (bytes_up_to z h) v → t.at ≡ v.at → t.len ≡ v.len
    → FieldPlace (bytes_of z.contents) t
field-place z h v t r at len = record {
  sized = subst (λ (n : ℕ). (n ≡ 4) ⊎ (n ≡ 8)) (sym len) r.sized;
  inside = omega (arith, at, len, r.inside, length-take h.end (bytes_of z.contents));
}

none-one : (t : TextPlace) → [] ≡ t ∷ [] → ⊥
none-one t e = omega (arith, ap length e)

-- a value that says a start, or a base
names-field : (names base : Bool) → names ≡ true → (names || base) ≡ true
names-field names base e = ap (λ (x : Bool). x || base) e

base-field : (names base : Bool) → base ≡ true → (names || base) ≡ true
base-field true base e = refl
base-field false base e = e

start-facts : (d : DebugData) (z : UnitSection) (h : UnitHeader) (table : List Abbreviation) (t : TextPlace) → HasTable d z h table → (b : ValueBehind h table (bytes_up_to z h) t)
    → field_start b.number b.abbreviation.tag b.spec.name ≡ true → is_start_form (own_form b.spec (bytes_up_to z h) b.place) ≡ true → (s : TextPlace) → s.at ≡ b.value.at
    → s.len ≡ b.value.len → StartFacts d z s
start-facts d z h table t there b start form s at len =
    let f : FieldPlace (bytes_of z.contents) s = field-place z h b.value s (start-read h.params b.spec (bytes_up_to z h) b.place b.value b.stands.is form) at len in
    record {
      sized = f.sized;
      inside = f.inside;
      row = λ (r : Refusal) (fails : OffsetFails d.base.order z.number z.contents (field_place s.at s.len offset_field) r).
          relocation_row z h table b.number b.abbreviation b.spec b.place b.value (value_field b.value) there b.stands
          (start-field h.params b.spec (bytes_up_to z h) b.place b.value (field_start b.number b.abbreviation.tag b.spec.name) b.stands.is form start) refl
          (subst (λ (n : ℕ). OffsetFails d.base.order z.number z.contents (field_place b.value.at n offset_field) r) len
          (subst (λ (n : ℕ). OffsetFails d.base.order z.number z.contents (field_place n s.len offset_field) r) at fails));
    }

class-facts : (c : ValueClass) (b base field : Bool) (d : DebugData) (z : UnitSection) (h : UnitHeader) (table : List Abbreviation) (number : ℕ) (a : Abbreviation) (x : Spec) (place : ℕ) (v : Value) (t : TextPlace)
    → HasTable d z h table → HasValue h table (bytes_up_to z h) number a x place v → v.class ≡ c → is_path number a.tag x.name ≡ b
    → OffsetFacts c h.params (bytes_up_to z h) v → class_places c b base field place v ≡ t ∷ [] → RoleFacts t.role d z t
class-facts StrOffset b base field d z h table number a x place v t there has class path facts e =
    let same : record { role = offset InStr b; at = v.at; len = v.len; says = no_index } ≡ t = once _ t e in
    subst (λ (s : TextPlace). RoleFacts s.role d z s) same (field-place z h v _ facts refl refl)
class-facts LineStrOffset b base field d z h table number a x place v t there has class path facts e =
    let same : record { role = offset InLineStr b; at = v.at; len = v.len; says = no_index } ≡ t = once _ t e in
    subst (λ (s : TextPlace). RoleFacts s.role d z s) same (field-place z h v _ facts refl refl)
class-facts InlineText true base field d z h table number a x place v t there has class path facts e =
    let same : record { role = inline_path; at = v.at; len = v.len + 1; says = no_index } ≡ t = once _ t e in
    subst (λ (s : TextPlace). RoleFacts s.role d z s) same (record {
      header = h;
      table = table;
      number = number;
      abbreviation = a;
      spec = x;
      place = place;
      value = v;
      there = there;
      stands = has;
      path = path;
      class = class;
      at_is = refl;
      len_is = omega arith;
    })
class-facts InlineText false base field d z h table number a x place v t there has class path facts e = absurd (none-one t e)
class-facts StrIndex b base field d z h table number a x place v t there has class path facts e =
    subst (λ (s : TextPlace). RoleFacts s.role d z s) (once (record { role = fixed; at = place; len = 0; says = text_index b v.number }) t e) tt
class-facts Number b true true d z h table number a x place v t there has class path facts e =
    subst (λ (s : TextPlace). RoleFacts s.role d z s) (once (record { role = fixed; at = v.at; len = v.len; says = base_offset }) t e) tt
class-facts Number b true false d z h table number a x place v t there has class path facts e =
    subst (λ (s : TextPlace). RoleFacts s.role d z s) (once (record { role = fixed; at = place; len = 0; says = unit_base v.number }) t e) tt
class-facts Number b false field d z h table number a x place v t there has class path facts e = absurd (none-one t e)
class-facts SecOffset b true true d z h table number a x place v t there has class path facts e =
    subst (λ (s : TextPlace). RoleFacts s.role d z s) (once (record { role = fixed; at = v.at; len = v.len; says = base_offset }) t e) tt
class-facts SecOffset b true false d z h table number a x place v t there has class path facts e =
    subst (λ (s : TextPlace). RoleFacts s.role d z s) (once (record { role = fixed; at = place; len = 0; says = unit_base v.number }) t e) tt
class-facts SecOffset b false field d z h table number a x place v t there has class path facts e = absurd (none-one t e)
class-facts c b base field d z h table number a x place v t there has class path facts e = absurd (none-one t e)

pub place-facts : (d : DebugData) (z : UnitSection) (t : TextPlace) → PlaceOf d z t → RoleFacts t.role d z t
place-facts d z t p =
    let b = p.behind in
    by_place b.is
  where
    by_place : SaysPlace p.behind.number p.behind.abbreviation.tag p.behind.spec (bytes_up_to z p.header) p.behind.place p.behind.value t → RoleFacts t.role d z t
    by_place (by_class e) =
        let b = p.behind in
        class-facts b.value.class (is_path b.number b.abbreviation.tag b.spec.name) (is_base b.number b.spec.name)
        (is_start_form (own_form b.spec (bytes_up_to z p.header) b.place)) d z p.header p.table b.number b.abbreviation b.spec b.place b.value t p.there b.stands refl refl
        (value-facts p.header.params b.spec (bytes_up_to z p.header) b.place b.value b.stands.is).offset e
    by_place (by_start n f e) =
        let b = p.behind in
        let same : record { role = line_start; at = b.value.at; len = b.value.len; says = no_index } ≡ t = once _ t e in
        subst (λ (s : TextPlace). RoleFacts s.role d z s) same
        (start-facts d z p.header p.table t p.there p.behind
        (names-field (names_start (use_of b.number b.abbreviation.tag b.spec.name)) (is_base b.number b.spec.name) (ap names_start (line-use b.number b.abbreviation.tag b.spec.name n))) f _ refl refl)
    by_place (by_unit n f e) =
        let b = p.behind in
        subst (λ (s : TextPlace). RoleFacts s.role d z s) (once (record { role = fixed; at = b.value.at; len = b.value.len; says = unit_start }) t e) tt
    by_place (by_stray e) =
        let b = p.behind in
        subst (λ (s : TextPlace). RoleFacts s.role d z s) (once (record { role = fixed; at = b.place; len = 0; says = no_start }) t e) tt

-- what is known of a place that says where a macro unit starts, or a unit's base as an offset
abbrev pub SaidFacts : Indexed → DebugData → UnitSection → TextPlace → Type 0
SaidFacts unit_start d z t = StartFacts d z t
SaidFacts base_offset d z t = StartFacts d z t
SaidFacts i d z t = ⊤

class-said : (c : ValueClass) (b base field : Bool) (place : ℕ) (v : Value) (d : DebugData) (z : UnitSection) (t : TextPlace) → class_places c b base field place v ≡ t ∷ []
    → (base ≡ true → field ≡ true → StartFacts d z (record { role = fixed; at = v.at; len = v.len; says = base_offset }))
    → SaidFacts t.says d z t
class-said StrOffset b base field place v d z t e start =
    subst (λ (s : TextPlace). SaidFacts s.says d z s) (once (record { role = offset InStr b; at = v.at; len = v.len; says = no_index }) t e) tt
class-said LineStrOffset b base field place v d z t e start =
    subst (λ (s : TextPlace). SaidFacts s.says d z s) (once (record { role = offset InLineStr b; at = v.at; len = v.len; says = no_index }) t e) tt
class-said InlineText true base field place v d z t e start =
    subst (λ (s : TextPlace). SaidFacts s.says d z s) (once (record { role = inline_path; at = v.at; len = v.len + 1; says = no_index }) t e) tt
class-said InlineText false base field place v d z t e start = absurd (none-one t e)
class-said StrIndex b base field place v d z t e start =
    subst (λ (s : TextPlace). SaidFacts s.says d z s) (once (record { role = fixed; at = place; len = 0; says = text_index b v.number }) t e) tt
class-said Number b true true place v d z t e start =
    subst (λ (s : TextPlace). SaidFacts s.says d z s) (once (record { role = fixed; at = v.at; len = v.len; says = base_offset }) t e) (start refl refl)
class-said Number b true false place v d z t e start =
    subst (λ (s : TextPlace). SaidFacts s.says d z s) (once (record { role = fixed; at = place; len = 0; says = unit_base v.number }) t e) tt
class-said Number b false field place v d z t e start = absurd (none-one t e)
class-said SecOffset b true true place v d z t e start =
    subst (λ (s : TextPlace). SaidFacts s.says d z s) (once (record { role = fixed; at = v.at; len = v.len; says = base_offset }) t e) (start refl refl)
class-said SecOffset b true false place v d z t e start =
    subst (λ (s : TextPlace). SaidFacts s.says d z s) (once (record { role = fixed; at = place; len = 0; says = unit_base v.number }) t e) tt
class-said SecOffset b false field place v d z t e start = absurd (none-one t e)
class-said c b base field place v d z t e start = absurd (none-one t e)

pub said-facts : (d : DebugData) (z : UnitSection) (t : TextPlace) → PlaceOf d z t → SaidFacts t.says d z t
said-facts d z t p = by_place p.behind.is
  where
    by_place : SaysPlace p.behind.number p.behind.abbreviation.tag p.behind.spec (bytes_up_to z p.header) p.behind.place p.behind.value t → SaidFacts t.says d z t
    by_place (by_class e) =
        let b = p.behind in
        class-said b.value.class (is_path b.number b.abbreviation.tag b.spec.name) (is_base b.number b.spec.name)
        (is_start_form (own_form b.spec (bytes_up_to z p.header) b.place)) b.place b.value d z t e
        (λ base form. start-facts d z p.header p.table t p.there p.behind
        (base-field (names_start (use_of b.number b.abbreviation.tag b.spec.name)) (is_base b.number b.spec.name) base) form _ refl refl)
    by_place (by_start n f e) =
        let b = p.behind in
        subst (λ (s : TextPlace). SaidFacts s.says d z s) (once (record { role = line_start; at = b.value.at; len = b.value.len; says = no_index }) t e) tt
    by_place (by_unit n f e) =
        let b = p.behind in
        subst (λ (s : TextPlace). SaidFacts s.says d z s) (once (record { role = fixed; at = b.value.at; len = b.value.len; says = unit_start }) t e)
        (start-facts d z p.header p.table t p.there p.behind
        (names-field (names_start (use_of b.number b.abbreviation.tag b.spec.name)) (is_base b.number b.spec.name)
        (ap names_start (macro-use b.number b.abbreviation.tag b.spec.name (macros-line b.spec.name n) n))) f _ refl refl)
    by_place (by_stray e) =
        let b = p.behind in
        subst (λ (s : TextPlace). SaidFacts s.says d z s) (once (record { role = fixed; at = b.place; len = 0; says = no_start }) t e) tt

cells-room : (z : UnitSection) (t : TextPlace) → FieldPlace (bytes_of z.contents) t → t.at + t.len ≤ length z.contents
cells-room z t f =
    let inside = f.inside in
    omega (arith, inside, length-bytes_of z.contents)

field-each : (table : TextSection) (r : Role) (d : DebugData) (z : UnitSection) (t : TextPlace) → RoleFacts r d z t → PlaceNames r d (cells_at z.contents t.at t.len)
    → EachOf (IsOffsetField d.base.order (texts_in d table) z.contents) (field_by table r t.at t.len)
field-each InStr (offset InStr path) d z t f names = (record { sized = f.sized; inside = cells-room z t f; ends = names }, tt)
field-each InLineStr (offset InLineStr path) d z t f names = (record { sized = f.sized; inside = cells-room z t f; ends = names }, tt)
field-each table r d z t f names = tt

fields-each : (table : TextSection) (d : DebugData) (z : UnitSection) (ts : List TextPlace) → EachOf (PlaceOf d z) ts → PlacesName d z.contents ts
    → EachOf (IsOffsetField d.base.order (texts_in d table) z.contents) (fields_in table ts)
fields-each table d z [] each names = tt
fields-each table d z (t ∷ ts) each names =
    each-append (IsOffsetField d.base.order (texts_in d table) z.contents) (field_by table t.role t.at t.len) (fields_in table ts)
    (field-each table t.role d z t (place-facts d z t each.0) names.0) (fields-each table d z ts each.1 names.1)

-- the fields of texts among places are fields
pub offset-fields : (order : Order) (table : Located) (cells : List Cell) (fs : List OffsetField) → EachOf (IsOffsetField order table cells) fs → AreOffsetFields order table cells fs
offset-fields order table cells fs each = record {
  each = λ (k : ℕ) (x : OffsetField) (lt : k < length fs). each-get (IsOffsetField order table cells) fs k x lt each;
}

pub path-fields : (table : TextSection) (d : DebugData) (z : UnitSection) (ts : List TextPlace) → EachOf (PlaceOf d z) ts → PlacesName d z.contents ts
    → AreOffsetFields d.base.order (texts_in d table) z.contents (fields_in table ts)
path-fields table d z ts each names = offset-fields d.base.order (texts_in d table) z.contents (fields_in table ts) (fields-each table d z ts each names)

-- the fields that say where line tables start are fields
start-each : (r : Role) (d : DebugData) (z : UnitSection) (t : TextPlace) → RoleFacts r d z t → EachOf (IsStartField (bytes_of z.contents)) (start_at r t.at t.len)
start-each fixed d z t f = tt
start-each (offset table path) d z t f = tt
start-each inline_path d z t f = tt
start-each line_start d z t f = (record { sized = f.sized; inside = f.inside }, tt)

starts-each : (d : DebugData) (z : UnitSection) (ts : List TextPlace) → EachOf (PlaceOf d z) ts → EachOf (IsStartField (bytes_of z.contents)) (starts_in ts)
starts-each d z [] each = tt
starts-each d z (t ∷ ts) each =
    each-append (IsStartField (bytes_of z.contents)) (start_at t.role t.at t.len) (starts_in ts) (start-each t.role d z t (place-facts d z t each.0)) (starts-each d z ts each.1)

pub start-fields : (d : DebugData) (z : UnitSection) (ts : List TextPlace) → EachOf (PlaceOf d z) ts → AreStartFields (bytes_of z.contents) (starts_in ts)
start-fields d z ts each = record {
  each = λ (k : ℕ) (x : OffsetField) (lt : k < length (starts_in ts)).
      each-get (IsStartField (bytes_of z.contents)) (starts_in ts) k x lt (starts-each d z ts each);
}

-- and so are those that say where macro units start
unit-each : (i : Indexed) (d : DebugData) (z : UnitSection) (t : TextPlace) → SaidFacts i d z t → EachOf (IsStartField (bytes_of z.contents)) (unit_start_at t.at t.len i)
unit-each unit_start d z t f = (record { sized = f.sized; inside = f.inside }, tt)
unit-each no_index d z t f = tt
unit-each (unit_base n) d z t f = tt
unit-each base_offset d z t f = tt
unit-each (text_index path n) d z t f = tt
unit-each no_start d z t f = tt

units-each : (d : DebugData) (z : UnitSection) (ts : List TextPlace) → EachOf (PlaceOf d z) ts → EachOf (IsStartField (bytes_of z.contents)) (macros_in ts)
units-each d z [] each = tt
units-each d z (t ∷ ts) each =
    each-append (IsStartField (bytes_of z.contents)) (unit_start_at t.at t.len t.says) (macros_in ts) (unit-each t.says d z t (said-facts d z t each.0)) (units-each d z ts each.1)

pub unit-fields : (d : DebugData) (z : UnitSection) (ts : List TextPlace) → EachOf (PlaceOf d z) ts → AreStartFields (bytes_of z.contents) (macros_in ts)
unit-fields d z ts each = record {
  each = λ (k : ℕ) (x : OffsetField) (lt : k < length (macros_in ts)).
      each-get (IsStartField (bytes_of z.contents)) (macros_in ts) k x lt (units-each d z ts each);
}

-- so is a relocation that refuses one of them
pub record RowField (d : DebugData) (z : UnitSection) (f : OffsetField) : Type 0 where
  pub row : (r : Refusal) → OffsetFails d.base.order z.number z.contents (field_place f.at f.size offset_field) r → ValueRelocationFails d r

row-start : (r : Role) (d : DebugData) (z : UnitSection) (t : TextPlace) → RoleFacts r d z t → EachOf (RowField d z) (start_at r t.at t.len)
row-start fixed d z t f = tt
row-start (offset table path) d z t f = tt
row-start inline_path d z t f = tt
row-start line_start d z t f = (record { row = f.row }, tt)

pub starts-rows : (d : DebugData) (z : UnitSection) (ts : List TextPlace) → EachOf (PlaceOf d z) ts → EachOf (RowField d z) (starts_in ts)
starts-rows d z [] each = tt
starts-rows d z (t ∷ ts) each =
    each-append (RowField d z) (start_at t.role t.at t.len) (starts_in ts) (row-start t.role d z t (place-facts d z t each.0)) (starts-rows d z ts each.1)

row-unit : (i : Indexed) (d : DebugData) (z : UnitSection) (t : TextPlace) → SaidFacts i d z t → EachOf (RowField d z) (unit_start_at t.at t.len i)
row-unit unit_start d z t f = (record { row = f.row }, tt)
row-unit no_index d z t f = tt
row-unit (unit_base n) d z t f = tt
row-unit base_offset d z t f = tt
row-unit (text_index path n) d z t f = tt
row-unit no_start d z t f = tt

pub units-rows : (d : DebugData) (z : UnitSection) (ts : List TextPlace) → EachOf (PlaceOf d z) ts → EachOf (RowField d z) (macros_in ts)
units-rows d z [] each = tt
units-rows d z (t ∷ ts) each =
    each-append (RowField d z) (unit_start_at t.at t.len t.says) (macros_in ts) (row-unit t.says d z t (said-facts d z t each.0)) (units-rows d z ts each.1)

-- and a base that is an offset
abbrev pub base_place : OffsetField → TextPlace
base_place f = record { role = fixed; at = f.at; len = f.size; says = base_offset }

base-facts : (f : OffsetField) (d : DebugData) (z : UnitSection) (ts : List TextPlace) → EachOf (PlaceOf d z) ts → base_in ts ≡ Some (BaseField f)
    → StartFacts d z (base_place f)
base-facts f d z [] each is = absurd (none-some (BaseField f) is)
  where
    none-some : (b : TextBase) → None ≡ Some b → ⊥
    none-some b e = cc
base-facts f d z (t ∷ ts) each is = by_says t.says (said-facts d z t each.0) (base-facts f d z ts each.1) is
  where
    same : (g : OffsetField) → Some (BaseField g) ≡ Some (BaseField f) → g ≡ f
    same g e = cc

    number : (n : ℕ) → Some (BaseNumber n) ≡ Some (BaseField f) → ⊥
    number n e = cc

    by_says : (i : Indexed) → SaidFacts i d z t
        → (base_in ts ≡ Some (BaseField f) → StartFacts d z (base_place f))
        → base_or t.at t.len i (base_in ts) ≡ Some (BaseField f) → StartFacts d z (base_place f)
    by_says no_index facts rest e = rest e
    by_says no_start facts rest e = rest e
    by_says unit_start facts rest e = rest e
    by_says (text_index path n) facts rest e = rest e
    by_says (unit_base n) facts rest e = absurd (number n e)
    by_says base_offset facts rest e =
        subst (λ (g : OffsetField). StartFacts d z (base_place g)) (same (record { at = t.at; size = t.len; path = false }) e)
        (record { sized = facts.sized; inside = facts.inside; row = facts.row })

-- of a unit
pub unit-base : (d : DebugData) (z : UnitSection) (h : UnitHeader) (table : List Abbreviation) (items : List Scanned) (f : OffsetField) → HasTable d z h table
    → AreEntries h table (bytes_up_to z h) items → base_in (entries_places h.params table (bytes_up_to z h) 0 items) ≡ Some (BaseField f)
    → StartFacts d z (base_place f)
unit-base d z h table items f there e is =
    base-facts f d z (entries_places h.params table (bytes_up_to z h) 0 items)
    (each-of (ValueBehind h table (bytes_up_to z h)) (PlaceOf d z) (entries_places h.params table (bytes_up_to z h) 0 items)
    (λ (x : TextPlace) b. record { header = h; table = table; there = there; behind = b })
    (entries-each h table (bytes_up_to z h) items h.end 0 e)) is

-- the paths that stand in their values
inline-each : (r : Role) (d : DebugData) (z : UnitSection) (t : TextPlace) → RoleFacts r d z t → EachOf (InlineOf d z) (inline_at r t.at t.len)
inline-each fixed d z t f = tt
inline-each (offset table path) d z t f = tt
inline-each line_start d z t f = tt
inline-each inline_path d z t f = (f, tt)

pub inlines-each : (d : DebugData) (z : UnitSection) (ts : List TextPlace) → EachOf (PlaceOf d z) ts → EachOf (InlineOf d z) (inline_in ts)
inlines-each d z [] each = tt
inlines-each d z (t ∷ ts) each =
    each-append (InlineOf d z) (inline_at t.role t.at t.len) (inline_in ts) (inline-each t.role d z t (place-facts d z t each.0)) (inlines-each d z ts each.1)

inline-read : (d : DebugData) (z : UnitSection) (p : InlinePath) → (i : InlineOf d z p) → TextRead (bytes_up_to z i.header) i.value
inline-read d z p i = value-text i.header.params i.spec (bytes_up_to z i.header) i.place i.value i.stands.is i.class

inline-room : (d : DebugData) (z : UnitSection) (p : InlinePath) → InlineOf d z p → p.at + p.len ≤ length (bytes_of z.contents)
inline-room d z p i =
    let r : TextRead (bytes_up_to z i.header) i.value = inline-read d z p i in
    omega (arith, i.at_is, i.len_is, r.inside, length-take i.header.end (bytes_of z.contents))

inline-words : (d : DebugData) (z : UnitSection) (p : InlinePath) → (i : InlineOf d z p) → inline_text (bytes_of z.contents) p ≡ text_in (bytes_up_to z i.header) i.value.at
unfolding text_in
inline-words d z p i =
    let r : TextRead (bytes_up_to z i.header) i.value = inline-read d z p i in
    let bs : List ℕ = bytes_up_to z i.header in
    let before : i.value.at + i.value.len ≤ i.header.end = before-end (i.value.at + i.value.len) i.header.end (bytes_of z.contents) r.inside in
    ap (λ (n : ℕ). take n (drop p.at (bytes_of z.contents))) i.len_is
    ∙ ap (λ (n : ℕ). take i.value.len (drop n (bytes_of z.contents))) i.at_is
    ∙ ap (take i.value.len) (sym (bytes_of-drop i.value.at z.contents))
    ∙ sym (bytes_of-take i.value.len (drop i.value.at z.contents))
    ∙ sym (part-bytes i.value.len i.value.at i.header.end z.contents before)
    ∙ ap (λ (n : ℕ). take n (drop i.value.at (bytes_up_to z i.header))) r.len_is
    ∙ sym (text-front (drop i.value.at (bytes_up_to z i.header)))

pub inline-rooms : (d : DebugData) (z : UnitSection) (ps : List InlinePath) → EachOf (InlineOf d z) ps → AreRooms (bytes_of z.contents) ps
inline-rooms d z ps each = record {
  each = λ (k : ℕ) (x : InlinePath) (lt : k < length ps). inline-room d z (get_or ps k x) (each-get (InlineOf d z) ps k x lt each);
}

-- one that would grow is a row
pub inline-row : (m : PathMap) (d : DebugData) (z : UnitSection) (ps : List InlinePath) (r : Refusal) → EachOf (InlineOf d z) ps → Grows m z.number (bytes_of z.contents) ps r
    → InlineFails m d r
inline-row m d z ps r each (one k p lt is (grows over)) =
    let i : InlineOf d z p = subst (InlineOf d z) (sym is) (each-get (InlineOf d z) ps k p lt each) in
    let long : inline_fits m (text_in (bytes_up_to z i.header) i.value.at) ≡ false = ap (inline_fits m) (sym (inline-words d z p i)) ∙ over in
    subst (λ (n : ℕ). InlineFails m d (refusal_at InlineGrows z.number n)) (sym i.at_is)
    (grows_row z i.header i.table i.number i.abbreviation i.spec i.place i.value i.there i.stands i.path i.class long)
