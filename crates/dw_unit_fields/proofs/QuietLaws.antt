-- Attributes that say nothing: their values are of no text, and what stands behind the last of the others may be left out.
use Rattle.std.proofs.Common.{Bool, true, false, ◌≡◌, ◌≢◌, ℕ, ◌+◌, ◌<◌, ◌==◌, not, List, [], ◌∷◌, ◌++◌, length, get_or, Option, Some, None, refl, sym, ap, ◌∙◌, append_assoc, append-nil, if◌then◌else◌}
use Rattle.std.specs.Prelude.{◌&&◌, ◌||◌}
use Rattle.std.proofs.lemmas.Bool.{and_parts, eqb-true}
use Rattle.dw_abbrev.specs.Coded.{index_of_code}
use Rattle.dw_abbrev.specs.QuietSpecs.{AllQuiet, HasFront, is_quiet, is_text_form}
use Rattle.dw_abbrev.proofs.CodedLaws.{get-here, index-within}
use Rattle.dw_base.specs.AbbreviationTables.{Abbreviation}
use Rattle.dw_base.specs.Forms.{ValueKind, number_of, leb_number, signed_leb, block_of, counted, counted_leb, inline_text, text_offset, present, in_abbreviation, form_in_front, supplementary, unlisted, FormRow, form_rows, kind_by, kind_in}
use Rattle.dw_base.specs.Roles.{is_path, is_unit_tag, is_macros, is_start_name}
use Rattle.dw_base.specs.TextIndexes.{is_base}
use Rattle.dw_base.specs.Values.{value_at}
use Rattle.dw_base.specs.EntryScans.{ValuesFail, value as value_fails}
use Rattle.dw_base.specs.declared.dwarf_numbers.TheConstants.{DW_AT_comp_dir, DW_AT_name, DW_AT_stmt_list, DW_AT_str_offsets_base}
use Rattle.dw_base.specs.declared.fault.Refusal.{Refusal}
use Rattle.dw_base.specs.declared.shared.Params.{Params}
use Rattle.dw_base.specs.declared.values.Spec.{Spec}
use Rattle.dw_base.specs.declared.values.Value.{Value}
use Rattle.dw_base.specs.declared.values.ValueClass.{ValueClass}
use Rattle.dw_base.specs.declared.values.ValueClass.TheVariants.{Address, Number, Signed, Bytes, Flag, InlineText, StrOffset, LineStrOffset, StrIndex, AddrIndex, ListIndex, LocalRef, GlobalRef, Signature, SecOffset}
use Rattle.dw_base.proofs.ClassLaws.{class_of_kind, value-class}
use Rattle.dw_base.proofs.FormLaws.{value_by-own}
use Rattle.dw_base.specs.TableStarts.{own_form, is_start_form}
use Rattle.dw_unit_fields.specs.EntryTexts.{Tables, AreTaken, OffsetNames, TakenBehind, ValuesRefuse, fails, value}
use Rattle.dw_unit_fields.specs.QuietValues.{AreLooked, SaysNothing, none_left, quiet_left}
use Rattle.dw_unit_fields.specs.TextPlaces.{TextPlace, class_places, line_places, said_places, value_places, values_places, of_value}
use Rattle.dw_meaning.specs.PieceRuns.{value_out}

-- the class of a text, or of what names one
abbrev pub is_text_class : ValueClass → Bool
is_text_class StrOffset = true
is_text_class LineStrOffset = true
is_text_class StrIndex = true
is_text_class class = false

-- a kind of no such class, which doesn't stand behind its form
abbrev is_quiet_kind : ValueKind → Bool
is_quiet_kind (number_of class n) = not (is_text_class class)
is_quiet_kind (leb_number class) = not (is_text_class class)
is_quiet_kind (text_offset table n) = false
is_quiet_kind form_in_front = false
is_quiet_kind k = true

-- so is the kind of each form of the table that is none of a text
abbrev all_quiet : List FormRow → Bool
all_quiet [] = true
all_quiet (r ∷ rs) = (is_text_form r.form || is_quiet_kind r.kind) && all_quiet rs

rows_quiet : (params : Params) → all_quiet (form_rows params) ≡ true
unfolding form_rows
rows_quiet params = refl

or-second : (a b : Bool) → a ≡ false → (a || b) ≡ true → b ≡ true
or-second a b e h = sym (ap (λ (x : Bool). x || b) e) ∙ h

kind_quiet : (rows : List FormRow) (form : ℕ) → all_quiet rows ≡ true → is_text_form form ≡ false → is_quiet_kind (kind_by rows form) ≡ true
kind_quiet [] form all plain = refl
kind_quiet (r ∷ rs) form all plain =
    let parts = and_parts (is_text_form r.form || is_quiet_kind r.kind) (all_quiet rs) all in
    by_form (r.form == form) refl parts.0 (kind_quiet rs form parts.1 plain)
  where
    by_form : (b : Bool) → (r.form == form) ≡ b → (is_text_form r.form || is_quiet_kind r.kind) ≡ true → is_quiet_kind (kind_by rs form) ≡ true
        → is_quiet_kind (if b then r.kind else kind_by rs form) ≡ true
    by_form true same one rest = or-second (is_text_form r.form) (is_quiet_kind r.kind) (ap is_text_form (eqb-true r.form form same) ∙ plain) one
    by_form false same one rest = rest

form-quiet : (params : Params) (form : ℕ) → is_text_form form ≡ false → is_quiet_kind (kind_in params form) ≡ true
unfolding kind_in
form-quiet params form plain = kind_quiet (form_rows params) form (rows_quiet params) plain

not-true : (b : Bool) → not b ≡ true → b ≡ false
not-true true h = absurd cc
not-true false h = refl

-- a quiet kind has no class of a text
kind-class : (k : ValueKind) (c : ValueClass) → is_quiet_kind k ≡ true → class_of_kind k ≡ Some c → is_text_class c ≡ false
kind-class (number_of class n) c quiet e =
    let same : class ≡ c = cc in
    sym (ap is_text_class same) ∙ not-true (is_text_class class) quiet
kind-class (leb_number class) c quiet e =
    let same : class ≡ c = cc in
    sym (ap is_text_class same) ∙ not-true (is_text_class class) quiet
kind-class signed_leb c quiet e = let same : Signed ≡ c = cc in sym (ap is_text_class same)
kind-class (block_of n) c quiet e = let same : Bytes ≡ c = cc in sym (ap is_text_class same)
kind-class (counted n) c quiet e = let same : Bytes ≡ c = cc in sym (ap is_text_class same)
kind-class counted_leb c quiet e = let same : Bytes ≡ c = cc in sym (ap is_text_class same)
kind-class inline_text c quiet e = let same : InlineText ≡ c = cc in sym (ap is_text_class same)
kind-class (text_offset table n) c quiet e = absurd cc
kind-class present c quiet e = let same : Flag ≡ c = cc in sym (ap is_text_class same)
kind-class in_abbreviation c quiet e = let same : Signed ≡ c = cc in sym (ap is_text_class same)
kind-class form_in_front c quiet e = absurd cc
kind-class supplementary c quiet e = absurd cc
kind-class unlisted c quiet e = absurd cc

not-front : (k : ValueKind) → is_quiet_kind k ≡ true → k ≢ form_in_front
not-front k quiet front =
    let other : is_quiet_kind k ≡ false = ap is_quiet_kind front in
    cc

pub value-quiet : (params : Params) (x : Spec) (bytes : List ℕ) (place : ℕ) (v : Value) → is_text_form x.form ≡ false → value_at params x bytes place ≡ Some v
    → is_text_class v.class ≡ false
unfolding value_at
value-quiet params x bytes place v plain is =
    let quiet : is_quiet_kind (kind_in params x.form) ≡ true = form-quiet params x.form plain in
    kind-class (kind_in params x.form) v.class quiet
    (value-class (kind_in params x.form) params.order bytes place x.implicit v
    (sym (value_by-own (kind_in params x.form) params x bytes place (not-front (kind_in params x.form) quiet)) ∙ is))

-- a value of no such class, which is neither a path nor a base, says nothing, and its offset names what it may
class-none : (c : ValueClass) (field : Bool) (place : ℕ) (v : Value) → is_text_class c ≡ false → class_places c false false field place v ≡ []
class-none Address field place v e = refl
class-none Number field place v e = refl
class-none Signed field place v e = refl
class-none Bytes field place v e = refl
class-none Flag field place v e = refl
class-none InlineText field place v e = refl
class-none StrOffset field place v e = absurd cc
class-none LineStrOffset field place v e = absurd cc
class-none StrIndex field place v e = absurd cc
class-none AddrIndex field place v e = refl
class-none ListIndex field place v e = refl
class-none LocalRef field place v e = refl
class-none GlobalRef field place v e = refl
class-none Signature field place v e = refl
class-none SecOffset field place v e = refl

pub class-names : (t : Tables) (c : ValueClass) (v : Value) → is_text_class c ≡ false → OffsetNames t c v
class-names t Address v e = tt
class-names t Number v e = tt
class-names t Signed v e = tt
class-names t Bytes v e = tt
class-names t Flag v e = tt
class-names t InlineText v e = tt
class-names t StrOffset v e = absurd cc
class-names t LineStrOffset v e = absurd cc
class-names t StrIndex v e = absurd cc
class-names t AddrIndex v e = tt
class-names t ListIndex v e = tt
class-names t LocalRef v e = tt
class-names t GlobalRef v e = tt
class-names t Signature v e = tt
class-names t SecOffset v e = tt

-- what a quiet attribute isn't
pub record Quiet (x : Spec) : Type 0 where
  pub form : is_text_form x.form ≡ false
  pub line : (x.name == DW_AT_stmt_list) ≡ false
  pub start : is_start_name x.name ≡ false

pub or-parts : (a b : Bool) → (a || b) ≡ false → (a ≡ false) × (b ≡ false)
or-parts true b e = absurd cc
or-parts false b e = (refl, e)

quiet-parts : (x : Spec) → is_quiet x ≡ true → Quiet x
quiet-parts x e =
    let both = and_parts (not (is_text_form x.form)) (not (is_start_name x.name)) e in
    let places = or-parts (x.name == DW_AT_stmt_list) (is_macros x.name) (not-true (is_start_name x.name) both.1) in
    record { form = not-true (is_text_form x.form) both.0; line = places.0; start = not-true (is_start_name x.name) both.1 }

-- entry `number` isn't the first
number-other : (number : ℕ) → number ≢ 0 → (number == 0) ≡ false
number-other number other = by_test (number == 0) refl
  where
    by_test : (b : Bool) → (number == 0) ≡ b → (number == 0) ≡ false
    by_test true e = absurd (other (eqb-true number 0 e))
    by_test false e = e

pub path-none : (number tag name : ℕ) → number ≢ 0 → is_path number tag name ≡ false
path-none number tag name other =
    ap (λ (b : Bool). b && is_unit_tag tag && (name == DW_AT_name || name == DW_AT_comp_dir)) (number-other number other)

pub base-none : (number name : ℕ) → number ≢ 0 → is_base number name ≡ false
base-none number name other = ap (λ (b : Bool). b && name == DW_AT_str_offsets_base) (number-other number other)

pub places-none : (number tag : ℕ) (x : Spec) (bytes : List ℕ) (place : ℕ) (v : Value) → number ≢ 0 → Quiet x → is_text_class v.class ≡ false
    → value_places number tag x bytes place v ≡ []
places-none number tag x bytes place v other q class =
    ap (λ (b : Bool). line_places b (own_form x bytes place) v ++ (class_places v.class (is_path number tag x.name) (is_base number x.name) (is_start_form (own_form x bytes place)) place v
    ++ said_places (is_start_name x.name) (is_macros x.name) (own_form x bytes place) place v)) q.line
    ∙ ap (λ (b : Bool). class_places v.class (is_path number tag x.name) (is_base number x.name) (is_start_form (own_form x bytes place)) place v
    ++ said_places b (is_macros x.name) (own_form x bytes place) place v) q.start
    ∙ ap (λ (ts : List TextPlace). ts ++ [])
    (ap (λ (b : Bool). class_places v.class b (is_base number x.name) (is_start_form (own_form x bytes place)) place v) (path-none number tag x.name other)
    ∙ ap (λ (b : Bool). class_places v.class false b (is_start_form (own_form x bytes place)) place v) (base-none number x.name other) ∙ class-none v.class (is_start_form (own_form x bytes place)) place v class)

-- the values of quiet attributes say nothing, and can be taken
pub quiet-places : (params : Params) (bytes : List ℕ) (number tag : ℕ) (xs : List Spec) (place : ℕ) → number ≢ 0 → AllQuiet xs
    → values_places params bytes number tag xs place ≡ []
quiet-places params bytes number tag [] place other all = refl
quiet-places params bytes number tag (x ∷ xs) place other all =
    by_value (value_at params x bytes place) refl (λ (p : ℕ). quiet-places params bytes number tag xs p other all.1)
  where
    by_value : (o : Option Value) → value_at params x bytes place ≡ o → ((p : ℕ) → values_places params bytes number tag xs p ≡ [])
        → value_out (of_value bytes) (λ p. values_places params bytes number tag xs p) number tag x place o ≡ []
    by_value None is rest = refl
    by_value (Some v) is rest =
        ap (λ (ts : List TextPlace). ts ++ values_places params bytes number tag xs (place + v.size))
        (places-none number tag x bytes place v other (quiet-parts x all.0) (value-quiet params x bytes place v (quiet-parts x all.0).form is))
        ∙ rest (place + v.size)

pub quiet-taken : (t : Tables) (params : Params) (bytes : List ℕ) (xs : List Spec) (place : ℕ) → AllQuiet xs → AreTaken t params bytes xs place
quiet-taken t params bytes [] place all = tt
quiet-taken t params bytes (x ∷ xs) place all =
    by_value (value_at params x bytes place) refl (λ (p : ℕ). quiet-taken t params bytes xs p all.1)
  where
    by_value : (o : Option Value) → value_at params x bytes place ≡ o → ((p : ℕ) → AreTaken t params bytes xs p)
        → TakenBehind (λ p. AreTaken t params bytes xs p) t place o
    by_value None is rest = tt
    by_value (Some v) is rest = (
      record {
        names = class-names t v.class v (value-quiet params x bytes place v (quiet-parts x all.0).form is);
      },
      rest (place + v.size),
    )

-- so may those that are left
left-places : (params : Params) (bytes : List ℕ) (number tag : ℕ) (rest : List Spec) (place : ℕ) → SaysNothing number rest
    → values_places params bytes number tag rest place ≡ []
left-places params bytes number tag rest place none_left = refl
left-places params bytes number tag rest place (quiet_left other all) = quiet-places params bytes number tag rest place other all

left-taken : (t : Tables) (params : Params) (bytes : List ℕ) (number : ℕ) (rest : List Spec) (place : ℕ) → SaysNothing number rest
    → AreTaken t params bytes rest place
left-taken t params bytes number rest place none_left = tt
left-taken t params bytes number rest place (quiet_left other all) = quiet-taken t params bytes rest place all

-- behind others
pub places-left : (params : Params) (bytes : List ℕ) (number tag : ℕ) (xs rest : List Spec) (place : ℕ) → SaysNothing number rest
    → values_places params bytes number tag xs place ≡ values_places params bytes number tag (xs ++ rest) place
places-left params bytes number tag [] rest place left = sym (left-places params bytes number tag rest place left)
places-left params bytes number tag (x ∷ xs) rest place left =
    by_value (value_at params x bytes place) (λ (p : ℕ). places-left params bytes number tag xs rest p left)
  where
    by_value : (o : Option Value) → ((p : ℕ) → values_places params bytes number tag xs p ≡ values_places params bytes number tag (xs ++ rest) p)
        → value_out (of_value bytes) (λ p. values_places params bytes number tag xs p) number tag x place o
        ≡ value_out (of_value bytes) (λ p. values_places params bytes number tag (xs ++ rest) p) number tag x place o
    by_value None more = refl
    by_value (Some v) more = ap (λ (ts : List TextPlace). value_places number tag x bytes place v ++ ts) (more (place + v.size))

pub taken-left : (t : Tables) (params : Params) (bytes : List ℕ) (number : ℕ) (xs rest : List Spec) (place : ℕ) → SaysNothing number rest
    → AreTaken t params bytes xs place → AreTaken t params bytes (xs ++ rest) place
taken-left t params bytes number [] rest place left taken = left-taken t params bytes number rest place left
taken-left t params bytes number (x ∷ xs) rest place left taken =
    by_value (value_at params x bytes place) (λ (p : ℕ) h. taken-left t params bytes number xs rest p left h) taken
  where
    by_value : (o : Option Value) → ((p : ℕ) → AreTaken t params bytes xs p → AreTaken t params bytes (xs ++ rest) p)
        → TakenBehind (λ p. AreTaken t params bytes xs p) t place o → TakenBehind (λ p. AreTaken t params bytes (xs ++ rest) p) t place o
    by_value None more h = tt
    by_value (Some v) more h = (h.0, more (place + v.size) h.1)

-- and what refuses some refuses them with more behind
longer : (before behind : List Spec) (x : Spec) (xs rest : List Spec) → xs ≡ before ++ x ∷ behind → xs ++ rest ≡ before ++ x ∷ (behind ++ rest)
longer before behind x xs rest is = ap (λ (ys : List Spec). ys ++ rest) is ∙ append_assoc before (x ∷ behind) rest

fails-left : (params : Params) (bytes : List ℕ) (section start : ℕ) (xs rest : List Spec) (r : Refusal) → ValuesFail params bytes section start xs r
    → ValuesFail params bytes section start (xs ++ rest) r
fails-left params bytes section start xs rest r (value_fails before behind x place is spells f) =
    value_fails before (behind ++ rest) x place (longer before behind x xs rest is) spells f

pub refuses-left : (t : Tables) (params : Params) (bytes : List ℕ) (section start : ℕ) (xs rest : List Spec) (r : Refusal)
    → ValuesRefuse t params bytes section start xs r → ValuesRefuse t params bytes section start (xs ++ rest) r
refuses-left t params bytes section start xs rest r (fails f) = fails (fails-left params bytes section start xs rest r f)
refuses-left t params bytes section start xs rest r (value before behind x place v is spells at f) =
    value before (behind ++ rest) x place v (longer before behind x xs rest is) spells at f

-- the attributes of an entry that are looked at, of the abbreviation at the index of its code
pub look-all : (ls : List Abbreviation) (code number i tag : ℕ) (a : Abbreviation) → index_of_code ls code ≡ Some i → i < length ls → a ≡ get_or ls i a
    → tag ≡ a.tag → AreLooked ls code number tag a.specs
look-all ls code number i tag a at lt here tag_is = record {
  abbreviation = a;
  listed = sym (get-here ls code i a (sym at) lt here);
  tag_is = tag_is;
  rest = [];
  specs_are = sym (append-nil a.specs);
  left = none_left;
}

pub look-front : (ls : List Abbreviation) (code number i tag : ℕ) (a : Abbreviation) (specs : List Spec) → index_of_code ls code ≡ Some i
    → i < length ls → a ≡ get_or ls i a → tag ≡ a.tag → number ≢ 0 → HasFront a.specs specs → AreLooked ls code number tag specs
look-front ls code number i tag a specs at lt here tag_is other front = record {
  abbreviation = a;
  listed = sym (get-here ls code i a (sym at) lt here);
  tag_is = tag_is;
  rest = front.rest;
  specs_are = front.specs_are;
  left = quiet_left other front.quiet;
}

pub look-inside : (ls : List Abbreviation) (code i : ℕ) → index_of_code ls code ≡ Some i → i < length ls
look-inside ls code i at = index-within ls code i (sym at)

pub ruleset look_rules = (look-all, look-front, look-inside)
