-- A pass over the values of an entry, value by value.
use Rattle.std.proofs.Common.{Bool, true, false, ◌&&◌, ◌==◌, ◌≡◌, ◌≢◌, ◌⊎◌, inl, inr, ℕ, suc, ◌+◌, ◌-◌, ◌≤◌, ◌<◌, nat_lt, List, [], ◌∷◌, ◌++◌, length, take, drop, get_or, slice_set, Option, Some, None, IsTrue, refl, sym, ap, ◌∙◌, subst, arith, append_assoc, append-nil}
use Rattle.std.proofs.Math.Seq.{take-length, take-suc, drop-cons}
use Rattle.std.proofs.lemmas.List.{drop_all, take-append-drop}
use Rattle.dw_base.specs.EntryScans.{SpellsValues, no_values, more_values, value as value_fails}
use Rattle.dw_base.specs.FormFails.{FormFails}
use Rattle.dw_base.specs.Cells.{Located, cells_at, field_of, is_placed}
use Rattle.dw_base.specs.DebugSections.{read_sections}
use Rattle.dw_base.specs.Refusals.{Blames, at}
use Rattle.dw_base.specs.Texts.{IsNulEnd, ends_in}
use Rattle.dw_base.specs.Roles.{inline_path, is_path, is_macros, is_start_name}
use Rattle.dw_base.specs.TableStarts.{is_start_form, own_form}
use Rattle.dw_base.specs.TextIndexes.{is_base}
use Rattle.dw_base.specs.declared.dwarf_numbers.TheConstants.{DW_AT_stmt_list}
use Rattle.dw_base.specs.Values.{value_at}
use Rattle.dw_base.specs.declared.debug_sections.DebugSection.{DebugSection}
use Rattle.dw_base.specs.declared.debug_sections.DebugSection.TheVariants.{Str, LineStr, Line, Macro}
use Rattle.dw_base.specs.declared.fault.Fault.{Fault}
use Rattle.dw_base.specs.declared.fault.Fault.TheVariants.{NoMemory, Refused}
use Rattle.dw_base.specs.declared.fault.Kind.TheVariants.{StringOffset}
use Rattle.dw_base.specs.declared.fault.Refusal.{Refusal}
use Rattle.dw_base.specs.declared.shared.Params.{Params}
use Rattle.dw_offsets.specs.declared.fields.OffsetField.{OffsetField}
use Rattle.dw_base.specs.declared.texts.TextSection.TheVariants.{InStr, InLineStr}
use Rattle.dw_base.specs.declared.values.Spec.{Spec}
use Rattle.dw_base.specs.declared.values.Value.{Value}
use Rattle.dw_base.specs.declared.values.ValueClass.{ValueClass}
use Rattle.dw_base.specs.declared.values.ValueClass.TheVariants.{InlineText, Number, SecOffset, StrIndex, StrOffset, LineStrOffset}
use Rattle.dw_unit_fields.specs.EntryTexts.{Tables, FoundTexts, OffsetLies, OffsetNames, OffsetRefuses, OffsetSized, no_text, offset, offset_in, base_kept, base_noted, index_noted, inline_noted, noted, relocation, StartSized, stray_noted, with_base, with_paths, with_places, with_stray, TakenBehind, AreTaken, ValueRefuses, OneRefuses, none, some, ValuesRefuse, fails, table_by, value, ValueTaken}
use Rattle.dw_unit_fields.specs.TextPlaces.{TextPlace, Indexed, no_index, no_start, unit_start, unit_base, base_offset, said_of, text_index, base_in, base_or, fields_in, index_at, indexes_in, indexed_at, inline_in, line_at, macros_in, places_into, said_base, said_places, said_value, start_at, starts_in, stray_in, stray_or, line_places, class_places, unit_start_at, value_places, values_places, of_value}
use Rattle.dw_unit_fields.specs.SectionFields.{SectionFields, each_behind, fields_into, lists_by, stray_first, table_place, with_field, with_inline, with_stray_at}
use Rattle.dw_unit_fields.specs.declared.fields.InlinePath.{InlinePath}
use Rattle.dw_unit_fields.specs.declared.fields.TextBase.{TextBase}
use Rattle.dw_unit_fields.specs.declared.fields.TextBase.TheVariants.{Field as BaseField, Number as BaseNumber}
use Rattle.dw_unit_fields.specs.declared.fields.TextIndex.{TextIndex}
use Rattle.dw_unit_fields.proofs.FieldListLaws.{behind-more, behind-none, each-section, lists-same, one-behind, only_at, paths-same}
use Rattle.dw_unit_fields.proofs.FoundLaws.{fields-append, inline-append}
use Rattle.dw_unit_fields.proofs.ValueFactLaws.{start-read, value-inside, value-lies, value-sized}
use Rattle.dw_meaning.specs.PieceRuns.{value_out}

-- a field's size is a small number
pub small-field : (n : ℕ) → (n ≡ 4) ⊎ (n ≡ 8) → n < 256
small-field n (inl four) = omega (arith, four)
small-field n (inr eight) = omega (arith, eight)

pub ruleset field_rules = (small-field)

-- why a value can't be taken that was read
pub refused-here : (t : Tables) (params : Params) (bytes : List ℕ) (section place : ℕ) (x : Spec) (v : Value) (f : Fault) → value_at params x bytes place ≡ Some v
    → Blames (ValueRefuses t v) f → Blames (OneRefuses t params bytes section place x) f
refused-here t params bytes section place x v NoMemory is b = tt
refused-here t params bytes section place x v (Refused r) is b = some v is b

-- all of the bytes
pub all-read : (params : Params) (x : Spec) (bytes : List ℕ) (place : ℕ) (v : Value) → value_at params x (take (length bytes) bytes) place ≡ Some v
    → value_at params x bytes place ≡ Some v
all-read params x bytes place v e = sym (ap (λ (bs : List ℕ). value_at params x bs place) (take-length bytes)) ∙ e

pub all-fails : (params : Params) (x : Spec) (bytes : List ℕ) (section place : ℕ) (r : Refusal) → FormFails params x (take (length bytes) bytes) section place r
    → FormFails params x bytes section place r
all-fails params x bytes section place r f = subst (λ (bs : List ℕ). FormFails params x bs section place r) (take-length bytes) f

pub all-inside : (params : Params) (x : Spec) (bytes : List ℕ) (place : ℕ) (v : Value) → value_at params x (take (length bytes) bytes) place ≡ Some v
    → place + v.size ≤ length bytes
all-inside params x bytes place v e = value-inside params x bytes place v (all-read params x bytes place v e)

pub all-sized : (params : Params) (x : Spec) (bytes : List ℕ) (place : ℕ) (v : Value) → value_at params x (take (length bytes) bytes) place ≡ Some v
    → OffsetSized v.class v.len
all-sized params x bytes place v e = value-sized params x bytes place v (all-read params x bytes place v e)

pub all-start : (params : Params) (x : Spec) (bytes : List ℕ) (place : ℕ) (v : Value) → value_at params x (take (length bytes) bytes) place ≡ Some v
    → StartSized (own_form x bytes place) v.len
all-start params x bytes place v e =
    record { sized = λ is. (start-read params x bytes place v (all-read params x bytes place v e) is).sized }

pub all-lies : (params : Params) (x : Spec) (bytes : List ℕ) (place : ℕ) (v : Value) → value_at params x (take (length bytes) bytes) place ≡ Some v
    → OffsetLies (length bytes) v.class v
all-lies params x bytes place v e = value-lies params x bytes place v (all-read params x bytes place v e)

pub ruleset read_rules = (all-read, all-fails, all-inside, all-sized, all-lies, all-start)

-- one attribute of a list
spec_front : (specs : List Spec) (x : Spec) (i : ℕ) → i < length specs → x ≡ get_or specs i x → drop i specs ≡ x ∷ drop (i + 1) specs
spec_front specs x i lt is =
    let next : suc i ≡ i + 1 = omega arith in
    drop-cons specs i x lt ∙ ap (λ (n : ℕ). get_or specs i x ∷ drop n specs) next ∙ ap (λ (y : Spec). y ∷ drop (i + 1) specs) (sym is)

spec_behind : (specs : List Spec) (x : Spec) (i : ℕ) → i < length specs → x ≡ get_or specs i x → take (i + 1) specs ≡ take i specs ++ x ∷ []
spec_behind specs x i lt is =
    let next : i + 1 ≡ suc i = omega arith in
    ap (λ (n : ℕ). take n specs) next ∙ take-suc specs i x lt ∙ ap (λ (y : Spec). take i specs ++ y ∷ []) (sym is)

-- a value that is refused alone is refused behind others
one-refused : (t : Tables) (params : Params) (bytes : List ℕ) (section from : ℕ) (specs before behind : List Spec) (x : Spec) (place : ℕ) (r : Refusal)
    → specs ≡ before ++ x ∷ behind → SpellsValues params bytes from before place → OneRefuses t params bytes section place x r
    → ValuesRefuse t params bytes section from specs r
one-refused t params bytes section from specs before behind x place r cut spells (none f) = fails (value_fails before behind x place cut spells f)
one-refused t params bytes section from specs before behind x place r cut spells (some v is f) = value before behind x place v cut spells is f

-- starts and what can't say one, with more behind
pub starts-append : (ts us : List TextPlace) → starts_in (ts ++ us) ≡ starts_in ts ++ starts_in us
starts-append [] us = refl
starts-append (t ∷ ts) us =
    ap (λ (fs : List OffsetField). start_at t.role t.at t.len ++ fs) (starts-append ts us) ∙ sym (append_assoc (start_at t.role t.at t.len) (starts_in ts) (starts_in us))

pub macros-append : (ts us : List TextPlace) → macros_in (ts ++ us) ≡ macros_in ts ++ macros_in us
macros-append [] us = refl
macros-append (t ∷ ts) us =
    ap (λ (fs : List OffsetField). unit_start_at t.at t.len t.says ++ fs) (macros-append ts us)
    ∙ sym (append_assoc (unit_start_at t.at t.len t.says) (macros_in ts) (macros_in us))

abbrev with_or : Option ℕ → Option ℕ → Option ℕ
with_or None o = o
with_or (Some n) o = Some n

stray_or-append : (i : Indexed) (at : ℕ) (a b : Option ℕ) → with_or (stray_or at i a) b ≡ stray_or at i (with_or a b)
stray_or-append no_index at a b = refl
stray_or-append (unit_base n) at a b = refl
stray_or-append base_offset at a b = refl
stray_or-append (text_index path n) at a b = refl
stray_or-append no_start at a b = refl
stray_or-append unit_start at a b = refl

stray-append : (ts us : List TextPlace) → stray_in (ts ++ us) ≡ with_or (stray_in ts) (stray_in us)
stray-append [] us = refl
stray-append (t ∷ ts) us = ap (stray_or t.at t.says) (stray-append ts us) ∙ sym (stray_or-append t.says t.at (stray_in ts) (stray_in us))

with_stray-or : (o : Option ℕ) (us : List TextPlace) → with_stray o us ≡ with_or o (stray_in us)
with_stray-or None us = refl
with_stray-or (Some n) us = refl

pub with_stray-more : (o : Option ℕ) (ts us : List TextPlace) → with_stray (with_stray o ts) us ≡ with_stray o (ts ++ us)
with_stray-more (Some n) ts us = refl
with_stray-more None ts us = with_stray-or (stray_in ts) us ∙ sym (stray-append ts us)

pub with_stray-none : (o : Option ℕ) → with_stray o [] ≡ o
with_stray-none None = refl
with_stray-none (Some n) = refl

-- the fields among places that hold offsets into a section, and among more places
into-append : (ts us : List TextPlace) (s : DebugSection) → places_into ts s ++ places_into us s ≡ places_into (ts ++ us) s
into-append ts us =
    each-section (λ s. places_into ts s ++ places_into us s) (places_into (ts ++ us)) refl refl refl (sym (fields-append InStr ts us)) (sym (fields-append InLineStr ts us)) refl
    (sym (starts-append ts us)) (sym (macros-append ts us)) refl

-- paths, with more behind, and with more again
pub with_paths-more : (u : SectionFields) (ts us : List TextPlace) → with_paths (with_paths u ts) us ≡ with_paths u (ts ++ us)
unfolding with_paths
with_paths-more u ts us =
    paths-same u.number (each_behind (each_behind u.fields (lists_by (places_into ts))) (lists_by (places_into us))) (each_behind u.fields (lists_by (places_into (ts ++ us))))
    ((u.inline ++ inline_in ts) ++ inline_in us) (u.inline ++ inline_in (ts ++ us)) (with_stray (with_stray u.stray ts) us) (with_stray u.stray (ts ++ us))
    (behind-more u.fields (places_into ts) (places_into us) read_sections
    ∙ ap (each_behind u.fields) (lists-same (λ s. places_into ts s ++ places_into us s) (places_into (ts ++ us)) read_sections (into-append ts us)))
    (append_assoc u.inline (inline_in ts) (inline_in us) ∙ ap (λ (ps : List InlinePath). u.inline ++ ps) (sym (inline-append ts us)))
    (with_stray-more u.stray ts us)

-- places that say nothing of paths
pub record SayNoPaths (ts : List TextPlace) : Type 0 where
  pub str : fields_in InStr ts ≡ []
  pub line_str : fields_in InLineStr ts ≡ []
  pub starts : starts_in ts ≡ []
  pub macros : macros_in ts ≡ []
  pub inline : inline_in ts ≡ []
  pub stray : stray_in ts ≡ None

with_stray-same : (o : Option ℕ) (ts : List TextPlace) → stray_in ts ≡ None → with_stray o ts ≡ o
with_stray-same None ts e = e
with_stray-same (Some n) ts e = refl

pub with_paths-same : (u : SectionFields) (ts : List TextPlace) → SayNoPaths ts → with_paths u ts ≡ u
unfolding with_paths
with_paths-same u ts h =
    paths-same u.number (each_behind u.fields (lists_by (places_into ts))) u.fields (u.inline ++ inline_in ts) u.inline (with_stray u.stray ts) u.stray
    (behind-none u.fields (places_into ts) read_sections (each-section (places_into ts) (λ s. []) refl refl refl h.str h.line_str refl h.starts h.macros refl))
    (ap (λ (ps : List InlinePath). u.inline ++ ps) h.inline ∙ append-nil u.inline) (with_stray-same u.stray ts h.stray)

pub with_paths-none : (u : SectionFields) → with_paths u [] ≡ u
with_paths-none u = with_paths-same u [] (record { str = refl; line_str = refl; starts = refl; macros = refl; inline = refl; stray = refl })

-- one more field that holds an offset into a section
with_field-places : (u : SectionFields) (into : DebugSection) (f : OffsetField) (ts : List TextPlace) → table_place into < length read_sections
    → only_at (table_place into) f read_sections ≡ lists_by (places_into ts) → inline_in ts ≡ [] → stray_in ts ≡ None → with_field u into f ≡ with_paths u ts
unfolding with_paths
with_field-places u into f ts lt same inline stray =
    paths-same u.number (slice_set u.fields (table_place into) (fields_into u into ++ f ∷ [])) (each_behind u.fields (lists_by (places_into ts))) u.inline (u.inline ++ inline_in ts) u.stray
    (with_stray u.stray ts) (one-behind u.fields (table_place into) f read_sections lt ∙ ap (each_behind u.fields) same)
    (sym (ap (λ (ps : List InlinePath). u.inline ++ ps) inline ∙ append-nil u.inline)) (sym (with_stray-same u.stray ts stray))

-- the base and the values by index
abbrev base_first : Option TextBase → Option TextBase → Option TextBase
base_first None o = o
base_first (Some b) o = Some b

base_or-append : (i : Indexed) (at len : ℕ) (a b : Option TextBase) → base_first (base_or at len i a) b ≡ base_or at len i (base_first a b)
base_or-append no_index at len a b = refl
base_or-append no_start at len a b = refl
base_or-append unit_start at len a b = refl
base_or-append (unit_base n) at len a b = refl
base_or-append base_offset at len a b = refl
base_or-append (text_index path n) at len a b = refl

base_in-append : (ts us : List TextPlace) → base_in (ts ++ us) ≡ base_first (base_in ts) (base_in us)
base_in-append [] us = refl
base_in-append (t ∷ ts) us = ap (base_or t.at t.len t.says) (base_in-append ts us) ∙ sym (base_or-append t.says t.at t.len (base_in ts) (base_in us))

pub with_base-more : (b : Option TextBase) (ts us : List TextPlace) → with_base (with_base b ts) us ≡ with_base b (ts ++ us)
with_base-more (Some n) ts us = refl
with_base-more None ts us = by_first (base_in ts) refl
  where
    by_first : (o : Option TextBase) → base_in ts ≡ o → with_base (base_in ts) us ≡ base_in (ts ++ us)
    by_first None e = ap (λ (x : Option TextBase). with_base x us) e ∙ sym (base_in-append ts us ∙ ap (λ (x : Option TextBase). base_first x (base_in us)) e)
    by_first (Some n) e = ap (λ (x : Option TextBase). with_base x us) e ∙ sym (base_in-append ts us ∙ ap (λ (x : Option TextBase). base_first x (base_in us)) e)

pub with_base-none : (b : Option TextBase) → with_base b [] ≡ b
with_base-none None = refl
with_base-none (Some n) = refl

pub indexes-append : (ts us : List TextPlace) → indexes_in (ts ++ us) ≡ indexes_in ts ++ indexes_in us
indexes-append [] us = refl
indexes-append (t ∷ ts) us =
    ap (λ (xs : List TextIndex). index_at t.at t.says ++ xs) (indexes-append ts us) ∙ sym (append_assoc (index_at t.at t.says) (indexes_in ts) (indexes_in us))

-- what was found, with more behind, and with more again
with_base-same : (b : Option TextBase) (ts : List TextPlace) → base_in ts ≡ None → with_base b ts ≡ b
with_base-same None ts e = e
with_base-same (Some x) ts e = refl

pub with_places-more : (f : FoundTexts) (ts us : List TextPlace) → with_places (with_places f ts) us ≡ with_places f (ts ++ us)
unfolding with_places
with_places-more f ts us =
    ap (λ (u : SectionFields). record { paths = u; base = with_base (with_base f.base ts) us; indexes = (f.indexes ++ indexes_in ts) ++ indexes_in us }) (with_paths-more f.paths ts us)
    ∙ ap (λ (b : Option TextBase). record { paths = with_paths f.paths (ts ++ us); base = b; indexes = (f.indexes ++ indexes_in ts) ++ indexes_in us }) (with_base-more f.base ts us)
    ∙ ap (λ (xs : List TextIndex). record { paths = with_paths f.paths (ts ++ us); base = with_base f.base (ts ++ us); indexes = xs })
    (append_assoc f.indexes (indexes_in ts) (indexes_in us) ∙ ap (λ (xs : List TextIndex). f.indexes ++ xs) (sym (indexes-append ts us)))

pub with_places-none : (f : FoundTexts) → with_places f [] ≡ f
unfolding with_places
with_places-none f =
    ap (λ (u : SectionFields). record { paths = u; base = with_base f.base []; indexes = f.indexes ++ [] }) (with_paths-none f.paths)
    ∙ ap (λ (b : Option TextBase). record { paths = f.paths; base = b; indexes = f.indexes ++ [] }) (with_base-none f.base)
    ∙ ap (λ (xs : List TextIndex). record { paths = f.paths; base = f.base; indexes = xs }) (append-nil f.indexes)

-- tests of a value that is to say where a line table starts
pub says-none : (line b : Bool) → line ≡ false → false ≡ (line && b)
says-none line b e = sym (ap (λ (x : Bool). x && b) e)

pub says-some : (line a b : Bool) → line ≡ true → a ≡ b → a ≡ (line && b)
says-some line a b e is = is ∙ sym (ap (λ (x : Bool). x && b) e)

pub ruleset says_rules = (says-none, says-some)

line-says : (line : Bool) (form : ℕ) (v : Value) → line_at (line && is_start_form form) v ≡ line_places line form v
line-says true form v = refl
line-says false form v = refl

-- what a value says: the start of a line table, a text or an index, and what it says of other starts
pub value-found : (number tag : ℕ) (x : Spec) (bytes : List ℕ) (place : ℕ) (v : Value) (f0 f1 f2 f3 : FoundTexts) (path base says : Bool)
    → f3 ≡ with_places f2 (said_places (is_start_name x.name) (is_macros x.name) (own_form x bytes place) place v)
    → f2 ≡ with_places f1 (class_places v.class path base (is_start_form (own_form x bytes place)) place v) → f1 ≡ with_places f0 (line_at says v)
    → path ≡ is_path number tag x.name → base ≡ is_base number x.name
    → says ≡ ((x.name == DW_AT_stmt_list) && is_start_form (own_form x bytes place)) → f3 ≡ with_places f0 (value_places number tag x bytes place v)
value-found number tag x bytes place v f0 f1 f2 f3 path base says third second first path_is base_is says_is =
    let ls : List TextPlace = line_places (x.name == DW_AT_stmt_list) (own_form x bytes place) v in
    let cs : List TextPlace = class_places v.class (is_path number tag x.name) (is_base number x.name) (is_start_form (own_form x bytes place)) place v in
    let ss : List TextPlace = said_places (is_start_name x.name) (is_macros x.name) (own_form x bytes place) place v in
    third
    ∙ ap (λ (f : FoundTexts). with_places f (said_places (is_start_name x.name) (is_macros x.name) (own_form x bytes place) place v))
    (second ∙ ap (λ (b : Bool). with_places f1 (class_places v.class b base (is_start_form (own_form x bytes place)) place v)) path_is
    ∙ ap (λ (b : Bool). with_places f1 (class_places v.class (is_path number tag x.name) b (is_start_form (own_form x bytes place)) place v)) base_is)
    ∙ with_places-more f1 cs ss
    ∙ ap (λ (f : FoundTexts). with_places f (cs ++ ss))
    (first ∙ ap (λ (ts : List TextPlace). with_places f0 ts) (ap (λ (b : Bool). line_at b v) says_is ∙ line-says (x.name == DW_AT_stmt_list) (own_form x bytes place) v))
    ∙ with_places-more f0 ls (cs ++ ss)

-- the base that it says
pub base-some : (field : Bool) (v : Value) (b : TextBase) (f : OffsetField) → field ≡ true → f ≡ record { at = v.at; size = v.len; path = false } → b ≡ BaseField f
    → b ≡ said_of field v
base-some field v b f e is same = same ∙ ap BaseField is ∙ sym (ap (λ (x : Bool). said_of x v) e)

pub base-none : (field : Bool) (v : Value) → field ≡ false → BaseNumber v.number ≡ said_of field v
base-none field v e = sym (ap (λ (x : Bool). said_of x v) e)

pub ruleset base_rules = (base-some, base-none)

-- where it says a start it is a field of four bytes or eight
pub start-sized : (x : Spec) (bytes : List ℕ) (place n : ℕ) (line says : Bool) → StartSized (own_form x bytes place) n → says ≡ (line && is_start_form (own_form x bytes place))
    → says ≡ true → (n ≡ 4) ⊎ (n ≡ 8)
start-sized x bytes place n line says sized is yes_ = sized.sized (and-right line (is_start_form (own_form x bytes place)) (sym is ∙ yes_))
  where
    and-right : (a b : Bool) → (a && b) ≡ true → b ≡ true
    and-right true b h = h
    and-right false b h = absurd cc

-- its field lies in the section
pub lies-inside : (n m : ℕ) (class : ValueClass) (v : Value) → n ≤ m → OffsetLies n class v → OffsetLies m class v
lies-inside n m StrOffset v le h = omega (arith, le, h)
lies-inside n m LineStrOffset v le h = omega (arith, le, h)
lies-inside n m class v le h = tt

pub ruleset value_rules = (none, refused-here, value-found, start-sized, lies-inside)

-- what is noted of starts
pub said-none : (start macro : Bool) (form place : ℕ) (v : Value) (f : FoundTexts) → start ≡ false → f ≡ with_places f (said_places start macro form place v)
said-none start macro form place v f e =
    sym (with_places-none f) ∙ sym (ap (λ (b : Bool). with_places f (said_places b macro form place v)) e)

pub said-stray : (start macro can : Bool) (form place : ℕ) (v : Value) (f g : FoundTexts) → start ≡ true → can ≡ is_start_form form → can ≡ false
    → g ≡ with_places f (indexed_at place no_start) → g ≡ with_places f (said_places start macro form place v)
said-stray start macro can form place v f g e is no_ h =
    h ∙ sym (ap (λ (b : Bool). with_places f (said_value b macro place v)) (sym is ∙ no_)) ∙ sym (ap (λ (b : Bool). with_places f (said_places b macro form place v)) e)

pub said-unit : (start macro can : Bool) (form place : ℕ) (v : Value) (f g : FoundTexts) → start ≡ true → macro ≡ true → can ≡ is_start_form form → can ≡ true
    → g ≡ with_places f (said_value true true 0 v) → g ≡ with_places f (said_places start macro form place v)
said-unit start macro can form place v f g e m is yes_ h =
    h ∙ sym (ap (λ (b : Bool). with_places f (said_value b true place v)) (sym is ∙ yes_)) ∙ sym (ap (λ (b : Bool). with_places f (said_value (is_start_form form) b place v)) m)
    ∙ sym (ap (λ (b : Bool). with_places f (said_places b macro form place v)) e)

pub said-line : (start macro can : Bool) (form place : ℕ) (v : Value) (f : FoundTexts) → start ≡ true → macro ≡ false → can ≡ is_start_form form → can ≡ true
    → f ≡ with_places f (said_places start macro form place v)
said-line start macro can form place v f e m is yes_ =
    sym (with_places-none f) ∙ sym (ap (λ (b : Bool). with_places f (said_value b false place v)) (sym is ∙ yes_))
    ∙ sym (ap (λ (b : Bool). with_places f (said_value (is_start_form form) b place v)) m) ∙ sym (ap (λ (b : Bool). with_places f (said_places b macro form place v)) e)

pub unit-sized : (form n : ℕ) (can : Bool) → StartSized form n → can ≡ is_start_form form → can ≡ true → (n ≡ 4) ⊎ (n ≡ 8)
unit-sized form n can s is yes_ = s.sized (sym is ∙ yes_)

pub ruleset said_rules = (said-none, said-stray, said-unit, said-line, unit-sized)

-- the text that an offset of a class names, and why it names none
pub names-str : (t : Tables) (z : Located) (class : ValueClass) (v : Value) → z ≡ t.str → class ≡ StrOffset → IsTrue (ends_in z.bytes (offset_in t z v)) → OffsetNames t class v
names-str t z class v own is h =
    subst (λ (c : ValueClass). OffsetNames t c v) (sym is) (subst (λ (y : Located). IsTrue (ends_in y.bytes (offset_in t y v))) own h)

pub names-line_str : (t : Tables) (z : Located) (class : ValueClass) (v : Value) → z ≡ t.line_str → class ≡ LineStrOffset → IsTrue (ends_in z.bytes (offset_in t z v))
    → OffsetNames t class v
names-line_str t z class v own is h =
    subst (λ (c : ValueClass). OffsetNames t c v) (sym is) (subst (λ (y : Located). IsTrue (ends_in y.bytes (offset_in t y v))) own h)

pub refused-str : (t : Tables) (z : Located) (v : Value) (r : Refusal) → z ≡ t.str → v.class ≡ StrOffset → OffsetRefuses t z v r → ValueRefuses t v r
refused-str t z v r own is h = offset z (ap (table_by t) is ∙ ap (λ (y : Located). Some y) (sym own)) h

pub refused-line_str : (t : Tables) (z : Located) (v : Value) (r : Refusal) → z ≡ t.line_str → v.class ≡ LineStrOffset → OffsetRefuses t z v r → ValueRefuses t v r
refused-line_str t z v r own is h = offset z (ap (table_by t) is ∙ ap (λ (y : Located). Some y) (sym own)) h

-- by the end of its last text
pub ends-here : (bs : List ℕ) (end n : ℕ) → IsNulEnd bs end → nat_lt n end ≡ ends_in bs n
ends-here bs end n is = sym (is.ends n)

pub ruleset end_rules = (ends-here)

pub offset-names : (t : Tables) (z : Located) (v : Value) (n : ℕ) → n ≡ offset_in t z v → ends_in z.bytes n ≡ true → IsTrue (ends_in z.bytes (offset_in t z v))
offset-names t z v n is ends = ap (ends_in z.bytes) (sym is) ∙ ends

pub offset-none : (t : Tables) (z : Located) (v : Value) (n : ℕ) (r : Refusal) → n ≡ offset_in t z v → is_placed (field_of t.order (cells_at t.cells v.at v.len)) ≡ true
    → ends_in z.bytes n ≡ false → r ≡ at StringOffset t.number v.at → OffsetRefuses t z v r
offset-none t z v n r is placed none_ends same = subst (OffsetRefuses t z v) (sym same) (no_text placed (ap (ends_in z.bytes) (sym is) ∙ none_ends))

pub ruleset offset_rules = (offset-names, offset-none, relocation)

-- what was found, with nothing more
found-same : (f : FoundTexts) (ts : List TextPlace) → SayNoPaths ts → base_in ts ≡ None → indexes_in ts ≡ [] → f ≡ with_places f ts
unfolding with_places
found-same f ts h base index =
    sym (ap (λ (u : SectionFields). record { paths = u; base = with_base f.base ts; indexes = f.indexes ++ indexes_in ts }) (with_paths-same f.paths ts h)
    ∙ ap (λ (b : Option TextBase). record { paths = f.paths; base = b; indexes = f.indexes ++ indexes_in ts }) (with_base-same f.base ts base)
    ∙ ap (λ (xs : List TextIndex). record { paths = f.paths; base = f.base; indexes = xs }) (ap (λ (xs : List TextIndex). f.indexes ++ xs) index ∙ append-nil f.indexes))

-- with other paths alone, with one more value by index, or with a base
paths-more : (f : FoundTexts) (u : SectionFields) (ts : List TextPlace) → u ≡ with_paths f.paths ts → base_in ts ≡ None → indexes_in ts ≡ []
    → record { paths = u; base = f.base; indexes = f.indexes } ≡ with_places f ts
unfolding with_places
paths-more f u ts same base index =
    ap (λ (x : SectionFields). record { paths = x; base = f.base; indexes = f.indexes }) same
    ∙ sym (ap (λ (b : Option TextBase). record { paths = with_paths f.paths ts; base = b; indexes = f.indexes ++ indexes_in ts }) (with_base-same f.base ts base)
    ∙ ap (λ (xs : List TextIndex). record { paths = with_paths f.paths ts; base = f.base; indexes = xs })
    (ap (λ (xs : List TextIndex). f.indexes ++ xs) index ∙ append-nil f.indexes))

index-more : (f : FoundTexts) (place : ℕ) (path : Bool) (n : ℕ) → index_noted f (record { place = place; path = path; index = n }) ≡ with_places f (indexed_at place (text_index path n))
unfolding with_places
index-more f place path n =
    let ts : List TextPlace = indexed_at place (text_index path n) in
    sym (ap (λ (u : SectionFields). record { paths = u; base = with_base f.base ts; indexes = f.indexes ++ indexes_in ts })
    (with_paths-same f.paths ts (record { str = refl; line_str = refl; starts = refl; macros = refl; inline = refl; stray = refl }))
    ∙ ap (λ (b : Option TextBase). record { paths = f.paths; base = b; indexes = f.indexes ++ indexes_in ts }) (with_base-same f.base ts refl))

base-more : (f : FoundTexts) (field : Bool) (begin at len n : ℕ) (b : TextBase) → SayNoPaths (said_base field begin at len n) → indexes_in (said_base field begin at len n) ≡ []
    → base_in (said_base field begin at len n) ≡ Some b → base_noted f b ≡ with_places f (said_base field begin at len n)
unfolding with_places
base-more f field begin at len n b h index is =
    let ts : List TextPlace = said_base field begin at len n in
    sym (ap (λ (u : SectionFields). record { paths = u; base = with_base f.base ts; indexes = f.indexes ++ indexes_in ts }) (with_paths-same f.paths ts h)
    ∙ ap (λ (o : Option TextBase). record { paths = f.paths; base = o; indexes = f.indexes ++ indexes_in ts }) (first f.base)
    ∙ ap (λ (xs : List TextIndex). record { paths = f.paths; base = base_kept f.base b; indexes = xs })
    (ap (λ (xs : List TextIndex). f.indexes ++ xs) index ∙ append-nil f.indexes))
  where
    first : (o : Option TextBase) → with_base o (said_base field begin at len n) ≡ base_kept o b
    first None = is
    first (Some x) = refl

-- one more field
noted-places : (f : FoundTexts) (into : DebugSection) (field : OffsetField) (ts : List TextPlace) → table_place into < length read_sections
    → only_at (table_place into) field read_sections ≡ lists_by (places_into ts) → inline_in ts ≡ [] → stray_in ts ≡ None → base_in ts ≡ None → indexes_in ts ≡ []
    → noted f into field ≡ with_places f ts
noted-places f into field ts lt same inline stray base index =
    paths-more f (with_field f.paths into field) ts (with_field-places f.paths into field ts lt same inline stray) base index

-- a path that stands in its value
with_inline-places : (u : SectionFields) (at len : ℕ) → with_inline u (record { at = at; len = len }) ≡ with_paths u (record { role = inline_path; at = at; len = len + 1; says = no_index } ∷ [])
unfolding with_paths
with_inline-places u at len =
    let ts : List TextPlace = record { role = inline_path; at = at; len = len + 1; says = no_index } ∷ [] in
    let same : len ≡ (len + 1) - 1 = omega arith in
    paths-same u.number u.fields (each_behind u.fields (lists_by (places_into ts))) (u.inline ++ record { at = at; len = len } ∷ []) (u.inline ++ inline_in ts) u.stray (with_stray u.stray ts)
    (sym (behind-none u.fields (places_into ts) read_sections (each-section (places_into ts) (λ s. []) refl refl refl refl refl refl refl refl refl)))
    (ap (λ (n : ℕ). u.inline ++ record { at = at; len = n } ∷ []) same) (sym (with_stray-same u.stray ts refl))

-- a value that can't say a start
with_stray-places : (u : SectionFields) (place : ℕ) → with_stray_at u place ≡ with_paths u (indexed_at place no_start)
unfolding with_paths
with_stray-places u place =
    let ts : List TextPlace = indexed_at place no_start in
    paths-same u.number u.fields (each_behind u.fields (lists_by (places_into ts))) u.inline (u.inline ++ inline_in ts) (stray_first u.stray place) (with_stray u.stray ts)
    (sym (behind-none u.fields (places_into ts) read_sections (each-section (places_into ts) (λ s. []) refl refl refl refl refl refl refl refl refl)))
    (sym (append-nil u.inline)) (by u.stray)
  where
    by : (o : Option ℕ) → stray_first o place ≡ with_stray o (indexed_at place no_start)
    by None = refl
    by (Some n) = refl

-- what a value says of the start of a line table or of a macro unit
pub line-noted : (f g : FoundTexts) (says : Bool) (v : Value) → says ≡ true → g ≡ noted f Line (record { at = v.at; size = v.len; path = false })
    → g ≡ with_places f (line_at says v)
line-noted f g says v e is =
    is ∙ noted-places f Line (record { at = v.at; size = v.len; path = false }) (line_at true v) (omega arith) refl refl refl refl refl ∙ sym (ap (λ (b : Bool). with_places f (line_at b v)) e)

pub line-silent : (f : FoundTexts) (says : Bool) (v : Value) → says ≡ false → f ≡ with_places f (line_at says v)
line-silent f says v e = sym (with_places-none f) ∙ sym (ap (λ (b : Bool). with_places f (line_at b v)) e)

pub unit-noted : (f g : FoundTexts) (v : Value) → g ≡ noted f Macro (record { at = v.at; size = v.len; path = false }) → g ≡ with_places f (said_value true true 0 v)
unit-noted f g v is = is ∙ noted-places f Macro (record { at = v.at; size = v.len; path = false }) (said_value true true 0 v) (omega arith) refl refl refl refl refl

pub stray-noted : (f g : FoundTexts) (place : ℕ) → g ≡ stray_noted f place → g ≡ with_places f (indexed_at place no_start)
stray-noted f g place is = is ∙ paths-more f (with_stray_at f.paths place) (indexed_at place no_start) (with_stray-places f.paths place) refl refl

pub ruleset start_rules = (line-noted, line-silent, unit-noted, stray-noted)

-- what a value says by its class
pub str-noted : (f g : FoundTexts) (class : ValueClass) (path base field : Bool) (place : ℕ) (v : Value) → class ≡ StrOffset
    → g ≡ noted f Str (record { at = v.at; size = v.len; path = path }) → g ≡ with_places f (class_places class path base field place v)
str-noted f g class path base field place v c is =
    is ∙ noted-places f Str (record { at = v.at; size = v.len; path = path }) (class_places StrOffset path base field place v) (omega arith) refl refl refl refl refl
    ∙ sym (ap (λ (x : ValueClass). with_places f (class_places x path base field place v)) c)

pub line_str-noted : (f g : FoundTexts) (class : ValueClass) (path base field : Bool) (place : ℕ) (v : Value) → class ≡ LineStrOffset
    → g ≡ noted f LineStr (record { at = v.at; size = v.len; path = path }) → g ≡ with_places f (class_places class path base field place v)
line_str-noted f g class path base field place v c is =
    is ∙ noted-places f LineStr (record { at = v.at; size = v.len; path = path }) (class_places LineStrOffset path base field place v) (omega arith) refl refl refl refl refl
    ∙ sym (ap (λ (x : ValueClass). with_places f (class_places x path base field place v)) c)

pub inline-noted : (f g : FoundTexts) (class : ValueClass) (path base field : Bool) (place : ℕ) (v : Value) → class ≡ InlineText → path ≡ true
    → g ≡ inline_noted f (record { at = v.at; len = v.len }) → g ≡ with_places f (class_places class path base field place v)
inline-noted f g class path base field place v c p is =
    is ∙ paths-more f (with_inline f.paths (record { at = v.at; len = v.len })) (class_places InlineText true base field place v) (with_inline-places f.paths v.at v.len) refl refl
    ∙ sym (ap (λ (x : ValueClass). with_places f (class_places x path base field place v)) c ∙ ap (λ (b : Bool). with_places f (class_places InlineText b base field place v)) p)

pub index-noted : (f g : FoundTexts) (class : ValueClass) (path base field : Bool) (place : ℕ) (v : Value) → class ≡ StrIndex
    → g ≡ index_noted f (record { place = place; path = path; index = v.number }) → g ≡ with_places f (class_places class path base field place v)
index-noted f g class path base field place v c is =
    is ∙ index-more f place path v.number ∙ sym (ap (λ (x : ValueClass). with_places f (class_places x path base field place v)) c)

base-said : (f : FoundTexts) (field : Bool) (place : ℕ) (v : Value) → base_noted f (said_of field v) ≡ with_places f (said_base field place v.at v.len v.number)
base-said f true place v =
    base-more f true place v.at v.len v.number (said_of true v) (record { str = refl; line_str = refl; starts = refl; macros = refl; inline = refl; stray = refl }) refl refl
base-said f false place v =
    base-more f false place v.at v.len v.number (said_of false v) (record { str = refl; line_str = refl; starts = refl; macros = refl; inline = refl; stray = refl }) refl refl

pub number-noted : (f g : FoundTexts) (class : ValueClass) (path base field : Bool) (place : ℕ) (v : Value) (b : TextBase) → class ≡ Number → base ≡ true → b ≡ said_of field v
    → g ≡ base_noted f b → g ≡ with_places f (class_places class path base field place v)
number-noted f g class path base field place v b c e is new =
    new ∙ ap (base_noted f) is ∙ base-said f field place v
    ∙ sym (ap (λ (x : ValueClass). with_places f (class_places x path base field place v)) c ∙ ap (λ (x : Bool). with_places f (class_places Number path x field place v)) e)

pub offset-noted : (f g : FoundTexts) (class : ValueClass) (path base field : Bool) (place : ℕ) (v : Value) (b : TextBase) → class ≡ SecOffset → base ≡ true → b ≡ said_of field v
    → g ≡ base_noted f b → g ≡ with_places f (class_places class path base field place v)
offset-noted f g class path base field place v b c e is new =
    new ∙ ap (base_noted f) is ∙ base-said f field place v
    ∙ sym (ap (λ (x : ValueClass). with_places f (class_places x path base field place v)) c ∙ ap (λ (x : Bool). with_places f (class_places SecOffset path x field place v)) e)

-- or that it says nothing
abbrev silent : List TextPlace → Type 0
silent ts = SayNoPaths ts × (base_in ts ≡ None) × (indexes_in ts ≡ [])

by-silent : (f : FoundTexts) (class : ValueClass) (path base field : Bool) (place : ℕ) (v : Value) (ts : List TextPlace) → class_places class path base field place v ≡ ts → silent ts
    → f ≡ with_places f (class_places class path base field place v)
by-silent f class path base field place v ts e h = found-same f ts h.0 h.1 h.2 ∙ sym (ap (with_places f) e)

pub inline-silent : (f : FoundTexts) (class : ValueClass) (path base field : Bool) (place : ℕ) (v : Value) → class ≡ InlineText → path ≡ false
    → f ≡ with_places f (class_places class path base field place v)
inline-silent f class path base field place v c p =
    by-silent f class path base field place v [] (ap (λ (x : ValueClass). class_places x path base field place v) c ∙ ap (λ (b : Bool). class_places InlineText b base field place v) p)
    (record { str = refl; line_str = refl; starts = refl; macros = refl; inline = refl; stray = refl }, refl, refl)

pub number-silent : (f : FoundTexts) (class : ValueClass) (path base field : Bool) (place : ℕ) (v : Value) → class ≡ Number → base ≡ false
    → f ≡ with_places f (class_places class path base field place v)
number-silent f class path base field place v c e =
    by-silent f class path base field place v [] (ap (λ (x : ValueClass). class_places x path base field place v) c ∙ ap (λ (b : Bool). class_places Number path b field place v) e)
    (record { str = refl; line_str = refl; starts = refl; macros = refl; inline = refl; stray = refl }, refl, refl)

pub offset-silent : (f : FoundTexts) (class : ValueClass) (path base field : Bool) (place : ℕ) (v : Value) → class ≡ SecOffset → base ≡ false
    → f ≡ with_places f (class_places class path base field place v)
offset-silent f class path base field place v c e =
    by-silent f class path base field place v [] (ap (λ (x : ValueClass). class_places x path base field place v) c ∙ ap (λ (b : Bool). class_places SecOffset path b field place v) e)
    (record { str = refl; line_str = refl; starts = refl; macros = refl; inline = refl; stray = refl }, refl, refl)

-- a value of another class says nothing, and names nothing
pub class-silent : (f : FoundTexts) (class : ValueClass) (path base field : Bool) (place : ℕ) (v : Value) → class ≢ Number → class ≢ InlineText → class ≢ StrOffset → class ≢ LineStrOffset
    → class ≢ StrIndex → class ≢ SecOffset → f ≡ with_places f (class_places class path base field place v)
class-silent f Number path base field place v n i s l x o = absurd (n refl)
class-silent f InlineText path base field place v n i s l x o = absurd (i refl)
class-silent f StrOffset path base field place v n i s l x o = absurd (s refl)
class-silent f LineStrOffset path base field place v n i s l x o = absurd (l refl)
class-silent f StrIndex path base field place v n i s l x o = absurd (x refl)
class-silent f SecOffset path base field place v n i s l x o = absurd (o refl)
class-silent f class path base field place v n i s l x o = sym (with_places-none f)

pub class-names : (t : Tables) (class : ValueClass) (v : Value) → class ≢ StrOffset → class ≢ LineStrOffset → OffsetNames t class v
class-names t StrOffset v s l = absurd (s refl)
class-names t LineStrOffset v s l = absurd (l refl)
class-names t class v s l = tt

pub ruleset note_rules = (names-str, names-line_str, refused-str, refused-line_str, str-noted, line_str-noted, inline-noted, index-noted, number-noted, offset-noted, inline-silent, number-silent, offset-silent)

-- where a pass over the values of an entry stands: behind so many attributes, at a place, with what was found. Those passed
-- stand before the place; what was found with the places of the others behind is what the whole entry gives; and if the
-- others can be taken, all can.
pub record ValuesPassed (t : Tables) (params : Params) (bytes : List ℕ) (number tag : ℕ) (specs : List Spec) (from i place : ℕ) (old now : FoundTexts) : Type 0 where
  pub spells : SpellsValues params bytes from (take i specs) place
  pub found : with_places now (values_places params bytes number tag (drop i specs) place) ≡ with_places old (values_places params bytes number tag specs from)
  pub taken : AreTaken t params bytes (drop i specs) place → AreTaken t params bytes specs from

pub passed-none : (t : Tables) (params : Params) (bytes : List ℕ) (number tag : ℕ) (specs : List Spec) (from : ℕ) (old : FoundTexts)
    → ValuesPassed t params bytes number tag specs from 0 from old old
passed-none t params bytes number tag specs from old = record { spells = no_values; found = refl; taken = λ h. h }

-- one value more
pub passed-more : (t : Tables) (params : Params) (bytes : List ℕ) (number tag : ℕ) (specs : List Spec) (from i place size : ℕ) (x : Spec) (old now new : FoundTexts)
    → i < length specs → x ≡ get_or specs i x → ValuesPassed t params bytes number tag specs from i place old now
    → ValueTaken t params bytes number tag x place size now new
    → ValuesPassed t params bytes number tag specs from (i + 1) (place + size) old new
passed-more t params bytes number tag specs from i place size x old now new lt here p v =
    let front : drop i specs ≡ x ∷ drop (i + 1) specs = spec_front specs x i lt here in
    let behind : take (i + 1) specs ≡ take i specs ++ x ∷ [] = spec_behind specs x i lt here in
    let said : values_places params bytes number tag (drop i specs) place ≡ value_places number tag x bytes place v.value ++ values_places params bytes number tag (drop (i + 1) specs) (place + v.value.size) =
    ap (λ (xs : List Spec). values_places params bytes number tag xs place) front
    ∙ ap (value_out (of_value bytes) (λ p. values_places params bytes number tag (drop (i + 1) specs) p) number tag x place) v.is in
    record {
      spells = subst (λ (xs : List Spec). SpellsValues params bytes from xs (place + size)) (sym behind)
          (subst (λ (n : ℕ). SpellsValues params bytes from (take i specs ++ x ∷ []) (place + n)) (sym v.size_is) (more_values (take i specs) x place v.value p.spells v.is));
      found =
          ap (λ (u : FoundTexts). with_places u (values_places params bytes number tag (drop (i + 1) specs) (place + size))) v.found
          ∙ with_places-more now (value_places number tag x bytes place v.value) (values_places params bytes number tag (drop (i + 1) specs) (place + size))
          ∙ ap (λ (n : ℕ). with_places now (value_places number tag x bytes place v.value ++ values_places params bytes number tag (drop (i + 1) specs) (place + n))) v.size_is
          ∙ ap (with_places now) (sym said) ∙ p.found;
      taken = λ h. p.taken (subst (λ (xs : List Spec). AreTaken t params bytes xs place) (sym front)
          (subst (λ (o : Option Value). TakenBehind (λ p. AreTaken t params bytes (drop (i + 1) specs) p) t place o) (sym v.is)
          (v.taken, subst (λ (n : ℕ). AreTaken t params bytes (drop (i + 1) specs) (place + n)) v.size_is h)));
    }

-- all of them
pub passed-found : (t : Tables) (params : Params) (bytes : List ℕ) (number tag : ℕ) (specs : List Spec) (from i place : ℕ) (old now : FoundTexts) → length specs ≤ i
    → ValuesPassed t params bytes number tag specs from i place old now → now ≡ with_places old (values_places params bytes number tag specs from)
passed-found t params bytes number tag specs from i place old now end p =
    sym (with_places-none now) ∙ ap (λ (xs : List Spec). with_places now (values_places params bytes number tag xs place)) (sym (drop_all i specs end)) ∙ p.found

pub passed-taken : (t : Tables) (params : Params) (bytes : List ℕ) (number tag : ℕ) (specs : List Spec) (from i place : ℕ) (old now : FoundTexts) → length specs ≤ i
    → ValuesPassed t params bytes number tag specs from i place old now → AreTaken t params bytes specs from
passed-taken t params bytes number tag specs from i place old now end p =
    p.taken (subst (λ (xs : List Spec). AreTaken t params bytes xs place) (sym (drop_all i specs end)) tt)

-- why one can't be taken is why the entry can't
pub passed-refused : (t : Tables) (params : Params) (bytes : List ℕ) (section number tag : ℕ) (specs : List Spec) (from i place : ℕ) (x : Spec) (old now : FoundTexts) (f : Fault)
    → i < length specs → x ≡ get_or specs i x → ValuesPassed t params bytes number tag specs from i place old now
    → Blames (OneRefuses t params bytes section place x) f → Blames (ValuesRefuse t params bytes section from specs) f
passed-refused t params bytes section number tag specs from i place x old now NoMemory lt here p b = tt
passed-refused t params bytes section number tag specs from i place x old now (Refused r) lt here p b =
    one-refused t params bytes section from specs (take i specs) (drop (i + 1) specs) x place r
    (sym (take-append-drop i specs) ∙ ap (λ (xs : List Spec). take i specs ++ xs) (spec_front specs x i lt here)) p.spells b

pub ruleset entry_rules = (passed-none, passed-more, passed-found, passed-taken)
