-- Values that aren't read, and what is noted of them.
use Rattle.std.proofs.Common.{Bool, false, ◌≡◌, ◌≢◌, ℕ, ◌+◌, ◌≤◌, ◌==◌, List, [], ◌∷◌, ◌++◌, length, IsTrue, Option, Some, None, refl, sym, ap, ◌∙◌, subst, ◌⊎◌, inl, inr}
use Rattle.std.specs.Option.{IfNone, IfSome}
use Rattle.std.proofs.lemmas.Bool.{le-leb}
use Rattle.dw_base.specs.Cells.{Located}
use Rattle.dw_base.specs.Forms.{width_size}
use Rattle.dw_base.specs.Numbers.{number_at, spelled}
use Rattle.dw_base.specs.Roles.{is_path, offset, is_macros, is_start_name}
use Rattle.dw_base.specs.TableStarts.{is_start_form, own_form}
use Rattle.dw_base.specs.TextIndexes.{is_base}
use Rattle.dw_base.specs.Texts.{ends_in}
use Rattle.dw_base.specs.Values.{value_at}
use Rattle.dw_base.specs.declared.debug_sections.DebugSection.TheVariants.{Str}
use Rattle.dw_base.specs.declared.dwarf_numbers.TheConstants.{DW_AT_stmt_list, DW_FORM_strp}
use Rattle.dw_base.specs.declared.fault.Refusal.{Refusal}
use Rattle.dw_base.specs.declared.shared.Params.{Params}
use Rattle.dw_base.specs.declared.shared.Width.{Width}
use Rattle.dw_base.specs.declared.shared.Width.TheVariants.{W32, W64}
use Rattle.dw_base.specs.declared.texts.TextSection.TheVariants.{InStr}
use Rattle.dw_base.specs.declared.values.Spec.{Spec}
use Rattle.dw_base.specs.declared.values.ValueClass.TheVariants.{StrOffset}
use Rattle.dw_entries.specs.Passes.{HasSize}
use Rattle.dw_unit_fields.specs.EntryTexts.{FoundTexts, OffsetRefuses, OneRefuses, Tables, ValueTaken, no_text, noted, offset as offset_refuses, offset_in, relocation, some, with_places}
use Rattle.dw_unit_fields.specs.LaterValues.{IsLater, IsNamed, str_field}
use Rattle.dw_abbrev.specs.QuietSpecs.{is_text_form}
use Rattle.dw_unit_fields.specs.TextPlaces.{class_places, line_places, no_index, said_places, value_places}
use Rattle.dw_unit_fields.proofs.EntryTextLaws.{str-noted, with_places-none}
use Rattle.dw_offsets.specs.declared.fields.OffsetField.{OffsetField}
use Rattle.dw_unit_fields.proofs.QuietLaws.{Quiet, class-names, or-parts, path-none, places-none, value-quiet}
use Rattle.dw_unit_fields.proofs.StrValueLaws.{str-read, str-value}

-- an attribute of a name that says no start
no-line : (name : ℕ) → is_start_name name ≡ false → (name == DW_AT_stmt_list) ≡ false
no-line name e = (or-parts (name == DW_AT_stmt_list) (is_macros name) e).0

-- the place of an offset into `.debug_str`, in an entry that isn't its unit's first: it is no path's
str-places : (number tag : ℕ) (x : Spec) (bytes : List ℕ) (place size n : ℕ) → number ≢ 0 → is_start_name x.name ≡ false
    → value_places number tag x bytes place (str_field place size n) ≡ class_places StrOffset false false false place (str_field place size n)
str-places number tag x bytes place size n other start =
    ap (λ (b : Bool). line_places b (own_form x bytes place) (str_field place size n)
    ++ (class_places StrOffset (is_path number tag x.name) (is_base number x.name) (is_start_form (own_form x bytes place)) place (str_field place size n)
    ++ said_places (is_start_name x.name) (is_macros x.name) (own_form x bytes place) place (str_field place size n))) (no-line x.name start)
    ∙ ap (λ (b : Bool). class_places StrOffset (is_path number tag x.name) (is_base number x.name) (is_start_form (own_form x bytes place)) place (str_field place size n)
    ++ said_places b (is_macros x.name) (own_form x bytes place) place (str_field place size n)) start
    ∙ ap (λ (b : Bool). record { role = offset InStr b; at = place; len = size; says = no_index } ∷ []) (path-none number tag x.name other)

-- it is noted
str-later : (number tag : ℕ) (x : Spec) (bytes : List ℕ) (place size n : ℕ) (old new : FoundTexts) → number ≢ 0 → is_start_name x.name ≡ false
    → new ≡ noted old Str (record { at = place; size = size; path = false }) → new ≡ with_places old (value_places number tag x bytes place (str_field place size n))
str-later number tag x bytes place size n old new other start is =
    str-noted old new StrOffset false false false place (str_field place size n) refl is ∙ ap (with_places old) (sym (str-places number tag x bytes place size n other start))

-- a number of so many bytes stands there
number-there : (params : Params) (bytes : List ℕ) (place size : ℕ) → place + size ≤ length bytes
    → Some (spelled params.order bytes place size) ≡ number_at params.order bytes place size
unfolding number_at
number-there params bytes place size le = rw (le-leb (place + size) (length bytes) le) refl

str-there : (params : Params) (x : Spec) (bytes : List ℕ) (place size : ℕ) → x.form ≡ DW_FORM_strp → size ≡ width_size params.width → place + size ≤ length bytes
    → value_at params x bytes place ≡ Some (str_field place size (spelled params.order bytes place size))
str-there params x bytes place size form is le =
    str-value params x bytes place (str_field place size (spelled params.order bytes place size)) form
    (str-read params bytes place size (spelled params.order bytes place size) is (number-there params bytes place size le))

-- it names what the field of any number names
named-later : (t : Tables) (params : Params) (x : Spec) (bytes : List ℕ) (place size : ℕ) (start : Bool) (old new : FoundTexts) → x.form ≡ DW_FORM_strp
    → start ≡ is_start_name x.name → start ≡ false → IsNamed t params bytes place size old new → IsLater t params bytes x place size old new
named-later t params x bytes place size start old new form is none n = record {
  value = str_field place size (spelled params.order bytes place size);
  is = str-there params x bytes place size form n.size_is n.inside;
  size_is = refl;
  taken = record { names = n.names };
  found = λ number tag other. str-later number tag x bytes place size (spelled params.order bytes place size) old new other (sym is ∙ none) n.found;
}

pub is-named : (t : Tables) (z : Located) (params : Params) (bytes : List ℕ) (place size : ℕ) (f : OffsetField) (old new : FoundTexts) → z ≡ t.str
    → size ≡ width_size params.width → f ≡ record { at = place; size = size; path = false } → new ≡ noted old Str f → place + size ≤ length bytes
    → IsTrue (ends_in z.bytes (offset_in t z (str_field place size 0))) → IsNamed t params bytes place size old new
is-named t z params bytes place size f old new own size_is field found le names = record {
  size_is = size_is;
  inside = le;
  names = subst (λ (y : Located). IsTrue (ends_in y.bytes (offset_in t y (str_field place size 0)))) own names;
  found = found ∙ ap (noted old Str) field;
}

-- what refuses the field of a number refuses that of another
same-refuses : (t : Tables) (z : Located) (place size m n : ℕ) (r : Refusal) → OffsetRefuses t z (str_field place size m) r → OffsetRefuses t z (str_field place size n) r
same-refuses t z place size m n r (relocation f) = relocation f
same-refuses t z place size m n r (no_text placed e) = no_text placed e

pub named-refused : (t : Tables) (z : Located) (params : Params) (x : Spec) (bytes : List ℕ) (section place size : ℕ) (r : Refusal) → z ≡ t.str
    → x.form ≡ DW_FORM_strp → size ≡ width_size params.width → place + size ≤ length bytes → OffsetRefuses t z (str_field place size 0) r
    → OneRefuses t params bytes section place x r
named-refused t z params x bytes section place size r own form size_is le f =
    some (str_field place size (spelled params.order bytes place size)) (str-there params x bytes place size form size_is le)
    (offset_refuses t.str refl (same-refuses t t.str place size 0 (spelled params.order bytes place size) r
    (subst (λ (y : Located). OffsetRefuses t y (str_field place size 0) r) own f)))

-- an offset has 4 bytes or 8
pub offset-sized : (w : Width) (n : ℕ) → n ≡ width_size w → (n ≡ 4) ⊎ (n ≡ 8)
offset-sized W32 n e = inl e
offset-sized W64 n e = inr e

pub ruleset named_rules = (is-named, named-refused, offset-sized)

-- a value that says nothing by its form and its name
plain-later : (t : Tables) (params : Params) (x : Spec) (bytes : List ℕ) (place size : ℕ) (start text : Bool) (f : FoundTexts) → start ≡ is_start_name x.name
    → start ≡ false → text ≡ is_text_form x.form → text ≡ false → HasSize params x bytes place size → IsLater t params bytes x place size f f
plain-later t params x bytes place size start text f start_is no_start text_is no_text_ h =
    let plain : is_text_form x.form ≡ false = sym text_is ∙ no_text_ in
    let other : is_start_name x.name ≡ false = sym start_is ∙ no_start in
    let quiet : Quiet x = record { form = plain; line = no-line x.name other; start = other } in
    record {
      value = h.value;
      is = h.is;
      size_is = sym h.size_is;
      taken = record { names = class-names t h.value.class h.value (value-quiet params x bytes place h.value plain h.is) };
      found = λ number tag numbered.
          sym (ap (with_places f) (places-none number tag x bytes place h.value numbered quiet (value-quiet params x bytes place h.value plain h.is)) ∙ with_places-none f);
    }

-- where one was found
pub named-found : (t : Tables) (params : Params) (x : Spec) (bytes : List ℕ) (place : ℕ) (o : Option ℕ) (start : Bool) (old new : FoundTexts) → x.form ≡ DW_FORM_strp
    → start ≡ is_start_name x.name → start ≡ false → IfSome o (λ n. IsNamed t params bytes place n old new) → IfSome o (λ n. IsLater t params bytes x place n old new)
named-found t params x bytes place None start old new form is none h = tt
named-found t params x bytes place (Some n) start old new form is none h = named-later t params x bytes place n start old new form is none h

pub plain-found : (t : Tables) (params : Params) (x : Spec) (bytes : List ℕ) (place : ℕ) (o : Option ℕ) (start text : Bool) (f : FoundTexts) → start ≡ is_start_name x.name
    → start ≡ false → text ≡ is_text_form x.form → text ≡ false → IfSome o (HasSize params x bytes place) → IfSome o (λ n. IsLater t params bytes x place n f f)
plain-found t params x bytes place None start text f start_is no_start text_is no_text_ h = tt
plain-found t params x bytes place (Some n) start text f start_is no_start text_is no_text_ h =
    plain-later t params x bytes place n start text f start_is no_start text_is no_text_ h

pub found-still : (f : FoundTexts) (o : Option ℕ) → IfNone o (f ≡ f)
found-still f None = refl
found-still f (Some n) = tt

pub ruleset later_rules = (named-found, plain-found, found-still)

-- such a value is taken
pub later-taken : (t : Tables) (params : Params) (bytes : List ℕ) (number tag : ℕ) (x : Spec) (place size : ℕ) (old new : FoundTexts) → number ≢ 0
    → IsLater t params bytes x place size old new → ValueTaken t params bytes number tag x place size old new
later-taken t params bytes number tag x place size old new other l =
    record { value = l.value; is = l.is; size_is = l.size_is; taken = l.taken; found = l.found number tag other }

-- and so is one that is read, where nothing was noted before
pub read-taken : (t : Tables) (params : Params) (bytes : List ℕ) (number tag : ℕ) (x : Spec) (place size : ℕ) (old mid new : FoundTexts) → mid ≡ old
    → ValueTaken t params bytes number tag x place size mid new → ValueTaken t params bytes number tag x place size old new
read-taken t params bytes number tag x place size old mid new same v =
    subst (λ (f : FoundTexts). ValueTaken t params bytes number tag x place size f new) same v

pub ruleset taken_rules = (later-taken, read-taken)
