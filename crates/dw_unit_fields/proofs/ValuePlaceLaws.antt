-- Where the text of a value stands, by the kind of its form and by its class.
use Rattle.std.proofs.Common.{Bool, true, false, ◌≡◌, ◌≢◌, ℕ, ◌+◌, ◌==◌, ◌&&◌, ◌||◌, List, [], ◌∷◌, ◌++◌, length, cond, Option, Some, None, refl, sym, ap, ◌∙◌, append_assoc, append-nil}
use Rattle.std.specs.Bool.{⊤}
use Rattle.std.specs.Prelude.{ℤ, nat_le}
use Rattle.dw_base.specs.Cells.{Cell, bytes_of}
use Rattle.dw_base.specs.Forms.{ValueKind, number_of, leb_number, signed_leb, block_of, counted, counted_leb, inline_text, text_offset, present, in_abbreviation, form_in_front, supplementary, unlisted, FormRow, form_rows, kind_by, kind_in}
use Rattle.dw_base.specs.Lebs.{uleb_at, sleb_at}
use Rattle.dw_base.specs.Numbers.{number_at, spelled}
use Rattle.dw_base.specs.Roles.{Role, fixed, offset, inline_path, line_start, role_of_kind, use_of, is_path_use, is_path, is_line_start, is_macros, is_start_name}
use Rattle.dw_base.specs.TableStarts.{can_start, macro_value_by, start_form_by, is_start_form}
use Rattle.dw_base.specs.Texts.{ends_in, text_in}
use Rattle.dw_base.specs.UnitStates.{code_value}
use Rattle.dw_base.specs.Values.{value_of, number_value, leb_value_at, signed_value_at, block_value, counted_value, counted_leb_value, text_value, bare_value, offset_class}
use Rattle.dw_base.specs.declared.dwarf_numbers.TheConstants.{DW_AT_stmt_list, DW_AT_macros, DW_AT_GNU_macros}
use Rattle.dw_base.specs.declared.shared.Order.{Order}
use Rattle.dw_base.specs.declared.shared.Params.{Params}
use Rattle.dw_base.specs.declared.texts.TextSection.{TextSection}
use Rattle.dw_base.specs.declared.texts.TextSection.TheVariants.{InStr, InLineStr}
use Rattle.dw_base.specs.declared.values.AttributeUse.{AttributeUse}
use Rattle.dw_base.specs.declared.values.AttributeUse.TheVariants.{NamesPath, NamesLineTable, NamesMacroUnit, NamesOther}
use Rattle.dw_base.specs.declared.values.Value.{Value}
use Rattle.dw_base.specs.declared.values.ValueClass.{ValueClass}
use Rattle.dw_base.specs.declared.values.ValueClass.TheVariants.{InlineText, Number, StrOffset, LineStrOffset, StrIndex, SecOffset, Signed, Bytes, Flag}
use Rattle.dw_unit_fields.specs.TextPlaces.{TextPlace, no_index, unit_start, place_of, indexed_at, indexed_kind, no_start, class_places, line_at, line_places, said_places, said_start, said_value, said_base}
use Rattle.dw_base.proofs.StartFormLaws.{is_other_use, line-macro, line-macros, line-path, line-starts, line-use, macro-path, macro-starts, macro-use, macro-value, plain-macro, plain-other, plain-starts, plain-use}

-- a class that isn't of texts
abbrev pub is_plain_class : ValueClass → Bool
is_plain_class InlineText = false
is_plain_class StrOffset = false
is_plain_class LineStrOffset = false
is_plain_class class = true

-- in LEB128 there is no offset into another section either
abbrev pub is_plain_leb : ValueClass → Bool
is_plain_leb SecOffset = false
is_plain_leb class = is_plain_class class

pub leb_plain : (class : ValueClass) → is_plain_leb class ≡ true → is_plain_class class ≡ true
leb_plain SecOffset plain = refl
leb_plain class plain = plain

-- a kind whose numbers aren't offsets of texts
abbrev pub is_plain_kind : ValueKind → Bool
is_plain_kind (number_of class n) = is_plain_class class
is_plain_kind (leb_number class) = is_plain_leb class
is_plain_kind k = true

-- so are the kinds of all forms
abbrev all_plain : List FormRow → Bool
all_plain [] = true
all_plain (r ∷ rs) = is_plain_kind r.kind && all_plain rs

rows_plain : (params : Params) → all_plain (form_rows params) ≡ true
unfolding form_rows
rows_plain params = refl

and_parts : (a b : Bool) → (a && b) ≡ true → (a ≡ true) × (b ≡ true)
and_parts true b h = (refl, h)
and_parts false b h = absurd cc

kind_by-plain : (rows : List FormRow) (form : ℕ) → all_plain rows ≡ true → is_plain_kind (kind_by rows form) ≡ true
kind_by-plain [] form all = refl
kind_by-plain (r ∷ rs) form all =
    let parts = and_parts (is_plain_kind r.kind) (all_plain rs) all in
    by_form (r.form == form) parts.0 (kind_by-plain rs form parts.1)
  where
    by_form : (b : Bool) → is_plain_kind r.kind ≡ true → is_plain_kind (kind_by rs form) ≡ true → is_plain_kind (cond b r.kind (kind_by rs form)) ≡ true
    by_form true one rest = one
    by_form false one rest = rest

pub kind_plain : (params : Params) (form : ℕ) → is_plain_kind (kind_in params form) ≡ true
unfolding kind_in
kind_plain params form = kind_by-plain (form_rows params) form (rows_plain params)

-- an attribute's use is a path where it holds one
path_use : (number tag name : ℕ) → is_path_use (use_of number tag name) ≡ is_path number tag name
path_use number tag name = by_path (is_path number tag name) (name == DW_AT_stmt_list) (name == DW_AT_macros || name == DW_AT_GNU_macros)
  where
    by_path : (path line macro : Bool) → is_path_use (cond path NamesPath (cond line NamesLineTable (cond macro NamesMacroUnit NamesOther))) ≡ path
    by_path true line macro = refl
    by_path false true macro = refl
    by_path false false true = refl
    by_path false false false = refl

-- the fields of a value that matter here
pub record Fields (v : Value) (class : ValueClass) (at len size : ℕ) : Type 0 where
  pub class_is : v.class ≡ class
  pub at_is : v.at ≡ at
  pub len_is : v.len ≡ len
  pub size_is : v.size ≡ size

pub number-fields : (class : ValueClass) (at n : ℕ) (o : Option ℕ) (v : Value) → number_value class at n o ≡ Some v → Fields v class at n n
number-fields class at n None v e = absurd cc
number-fields class at n (Some m) v e = record { class_is = cc; at_is = cc; len_is = cc; size_is = cc }

pub leb-class : (class : ValueClass) (at : ℕ) (o : Option (ℕ × ℕ)) (v : Value) → leb_value_at class at o ≡ Some v → v.class ≡ class
leb-class class at None v e = absurd cc
leb-class class at (Some m) v e = cc

pub signed-class : (at : ℕ) (o : Option (ℤ × ℕ)) (v : Value) → signed_value_at at o ≡ Some v → v.class ≡ Signed
signed-class at None v e = absurd cc
signed-class at (Some m) v e = cc

room-class : (b : Bool) (w v : Value) → cond {A = Option Value} b (Some w) None ≡ Some v → v.class ≡ w.class
room-class true w v e = cc
room-class false w v e = absurd cc

pub block-class : (bytes : List ℕ) (at front n : ℕ) (v : Value) → block_value bytes at front n ≡ Some v → v.class ≡ Bytes
block-class bytes at front n v e = room-class (nat_le (at + front + n) (length bytes)) (record { class = Bytes; number = 0; at = at + front; len = n; size = front + n }) v e

pub counted-class : (bytes : List ℕ) (at front : ℕ) (o : Option ℕ) (v : Value) → counted_value bytes at front o ≡ Some v → v.class ≡ Bytes
counted-class bytes at front None v e = absurd cc
counted-class bytes at front (Some n) v e = block-class bytes at front n v e

pub counted_leb-class : (bytes : List ℕ) (at : ℕ) (o : Option (ℕ × ℕ)) (v : Value) → counted_leb_value bytes at o ≡ Some v → v.class ≡ Bytes
counted_leb-class bytes at None v e = absurd cc
counted_leb-class bytes at (Some n) v e = block-class bytes at n.1 n.0 v e

pub bare-class : (bytes : List ℕ) (at : ℕ) (class : ValueClass) (n : ℕ) (v : Value) → bare_value bytes at class n ≡ Some v → v.class ≡ class
bare-class bytes at class n v e = room-class (nat_le at (length bytes)) (record { class = class; number = n; at = at; len = 0; size = 0 }) v e

pub text-fields : (bytes : List ℕ) (at : ℕ) (v : Value) → text_value bytes at ≡ Some v → Fields v InlineText at (length (text_in bytes at)) (length (text_in bytes at) + 1)
text-fields bytes at v e = by_end (ends_in bytes at) e
  where
    by_end : (b : Bool)
        → cond {A = Option Value} b (Some (record { class = InlineText; number = 0; at = at; len = length (text_in bytes at); size = length (text_in bytes at) + 1 })) None ≡ Some v
        → Fields v InlineText at (length (text_in bytes at)) (length (text_in bytes at) + 1)
    by_end true e = record { class_is = cc; at_is = cc; len_is = cc; size_is = cc }
    by_end false e = absurd cc

-- a class that isn't of texts, nor of numbers that say an index or a base, has no place
abbrev pub is_other_class : ValueClass → Bool
is_other_class InlineText = false
is_other_class StrOffset = false
is_other_class LineStrOffset = false
is_other_class StrIndex = false
is_other_class Number = false
is_other_class SecOffset = false
is_other_class class = true

no_places : (class : ValueClass) (path base field : Bool) (place : ℕ) (v : Value) → is_other_class class ≡ true → v.class ≡ class
    → [] ≡ class_places v.class path base field place v
no_places InlineText path base field place v other is = absurd cc
no_places StrOffset path base field place v other is = absurd cc
no_places LineStrOffset path base field place v other is = absurd cc
no_places StrIndex path base field place v other is = absurd cc
no_places Number path base field place v other is = absurd cc
no_places SecOffset path base field place v other is = absurd cc
no_places class path base field place v other is = rw is refl

-- a field of an offset
offset_places : (table : TextSection) (used path base field : Bool) (place : ℕ) (v : Value) (at n : ℕ) → used ≡ path → Fields v (offset_class table) at n n
    → place_of (offset table used) at v.size ++ [] ≡ class_places v.class path base field place v
offset_places InStr used path base field place v at n same f = rw (f.class_is, f.at_is, f.len_is, f.size_is, same) refl
offset_places InLineStr used path base field place v at n same f = rw (f.class_is, f.at_is, f.len_is, f.size_is, same) refl

-- a text
text_places : (used path base field : Bool) (place : ℕ) (v : Value) (at n : ℕ) → used ≡ path → Fields v InlineText at n (n + 1)
    → place_of (cond used inline_path fixed) at v.size ++ [] ≡ class_places v.class path base field place v
text_places true true base field place v at n same f = rw (f.class_is, f.at_is, f.len_is, f.size_is) refl
text_places true false base field place v at n same f = absurd cc
text_places false true base field place v at n same f = absurd cc
text_places false false base field place v at n same f = rw f.class_is refl

-- the cells of a value of a kind spell its number
abbrev pub SpellsNumber : ValueKind → Order → List Cell → ℕ → Type 0
SpellsNumber (number_of class n) order p x = spelled order (bytes_of p) 0 (length p) ≡ x
SpellsNumber (leb_number class) order p x = code_value p ≡ x
SpellsNumber k order p x = ⊤

-- a number
base_places : (b field : Bool) (begin at len n : ℕ) (v : Value) → b ≡ field → at ≡ v.at → len ≡ v.len → n ≡ v.number
    → said_base b begin at len n ≡ said_base field begin v.at v.len v.number
base_places b field begin at len n v same at_is len_is is = rw (same, at_is, len_is, is) refl

number_places : (class : ValueClass) (size : ℕ) (path base field : Bool) (order : Order) (place at : ℕ) (p : List Cell) (v : Value) → is_plain_class class ≡ true
    → Fields v class at size size → can_start (number_of class size) ≡ field → spelled order (bytes_of p) 0 (length p) ≡ v.number
    → indexed_kind (number_of class size) path base order place at v.size p ≡ class_places v.class path base field place v
number_places InlineText size path base field order place at p v plain f can same = absurd cc
number_places StrOffset size path base field order place at p v plain f can same = absurd cc
number_places LineStrOffset size path base field order place at p v plain f can same = absurd cc
number_places StrIndex size path base field order place at p v plain f can same = rw (f.class_is, same) refl
number_places Number size path true field order place at p v plain f can same =
    base_places (size == 4 || size == 8) field place at v.size (spelled order (bytes_of p) 0 (length p)) v can (sym f.at_is) (f.size_is ∙ sym f.len_is) same
    ∙ ap (λ (c : ValueClass). class_places c path true field place v) (sym f.class_is)
number_places Number size path false field order place at p v plain f can same = rw f.class_is refl
number_places SecOffset size path true field order place at p v plain f can same =
    base_places true field place at v.size (spelled order (bytes_of p) 0 (length p)) v can (sym f.at_is) (f.size_is ∙ sym f.len_is) same
    ∙ ap (λ (c : ValueClass). class_places c path true field place v) (sym f.class_is)
number_places SecOffset size path false field order place at p v plain f can same = rw f.class_is refl
number_places class size path base field order place at p v plain f can same = rw f.class_is refl

-- a number of LEB128
leb_places : (class : ValueClass) (path base field : Bool) (order : Order) (place at len : ℕ) (p : List Cell) (v : Value) → is_plain_leb class ≡ true → v.class ≡ class
    → false ≡ field → code_value p ≡ v.number → indexed_kind (leb_number class) path base order place at len p ≡ class_places v.class path base field place v
leb_places InlineText path base field order place at len p v plain is can same = absurd cc
leb_places StrOffset path base field order place at len p v plain is can same = absurd cc
leb_places LineStrOffset path base field order place at len p v plain is can same = absurd cc
leb_places SecOffset path base field order place at len p v plain is can same = absurd cc
leb_places StrIndex path base field order place at len p v plain is can same = rw (is, same) refl
leb_places Number path true true order place at len p v plain is can same = absurd cc
leb_places Number path true false order place at len p v plain is can same = rw (is, same) refl
leb_places Number path false field order place at len p v plain is can same = rw is refl
leb_places class path base field order place at len p v plain is can same = rw is refl

-- the role of a value that is a text, of a path or not
abbrev text_role : ValueKind → Bool → Role
text_role (text_offset table n) path = offset table path
text_role inline_text path = cond path inline_path fixed
text_role k path = fixed

-- a value of a kind has its text where its class says, and says by index what its class says
text-placed : (k : ValueKind) (order : Order) (bytes : List ℕ) (at : ℕ) (implicit : ℤ) (path base field : Bool) (place : ℕ) (p : List Cell) (v : Value)
    → is_plain_kind k ≡ true → can_start k ≡ field → value_of k order bytes at implicit ≡ Some v → SpellsNumber k order p v.number
    → place_of (text_role k path) at v.size ++ indexed_kind k path base order place at v.size p ≡ class_places v.class path base field place v
unfolding value_of
text-placed (number_of class n) order bytes at i path base field place p v plain can e same =
    number_places class n path base field order place at p v plain (number-fields class at n (number_at order bytes at n) v e) can same
text-placed (leb_number class) order bytes at i path base field place p v plain can e same =
    leb_places class path base field order place at v.size p v plain (leb-class class at (uleb_at bytes at) v e) can same
text-placed signed_leb order bytes at i path base field place p v plain can e same =
    no_places Signed path base field place v refl (signed-class at (sleb_at bytes at) v e)
text-placed (block_of n) order bytes at i path base field place p v plain can e same =
    no_places Bytes path base field place v refl (block-class bytes at 0 n v e)
text-placed (counted n) order bytes at i path base field place p v plain can e same =
    no_places Bytes path base field place v refl (counted-class bytes at n (number_at order bytes at n) v e)
text-placed counted_leb order bytes at i path base field place p v plain can e same =
    no_places Bytes path base field place v refl (counted_leb-class bytes at (uleb_at bytes at) v e)
text-placed inline_text order bytes at i path base field place p v plain can e same =
    text_places path path base field place v at (length (text_in bytes at)) refl (text-fields bytes at v e)
text-placed (text_offset table n) order bytes at i path base field place p v plain can e same =
    offset_places table path path base field place v at n refl
    (number-fields (offset_class table) at n (number_at order bytes at n) v e)
text-placed present order bytes at i path base field place p v plain can e same =
    no_places Flag path base field place v refl (bare-class bytes at Flag 1 v e)
text-placed in_abbreviation order bytes at i path base field place p v plain can e same =
    no_places Signed path base field place v refl (bare-class bytes at Signed _ v e)
text-placed form_in_front order bytes at i path base field place p v plain can e same = absurd cc
text-placed supplementary order bytes at i path base field place p v plain can e same = absurd cc
text-placed unlisted order bytes at i path base field place p v plain can e same = absurd cc

-- the role of a value that says no start
number-other : (u : AttributeUse) (class : ValueClass) (n : ℕ) → is_other_use u ≡ true → cond (is_line_start u class n) line_start fixed ≡ fixed
number-other NamesLineTable class n other = absurd cc
number-other NamesPath class n other = refl
number-other NamesMacroUnit class n other = refl
number-other NamesOther class n other = refl

role-other : (k : ValueKind) (u : AttributeUse) → is_other_use u ≡ true → role_of_kind k u ≡ text_role k (is_path_use u)
role-other (number_of class n) u other = number-other u class n other
role-other k u other = refl

role-stray : (k : ValueKind) → can_start k ≡ false → role_of_kind k NamesLineTable ≡ text_role k false
role-stray (number_of class n) no_ = rw no_ refl
role-stray k no_ = refl

-- a number that says where a line table starts
start-placed : (k : ValueKind) (order : Order) (bytes : List ℕ) (at : ℕ) (implicit : ℤ) (base field : Bool) (place : ℕ) (p : List Cell) (v : Value)
    → is_plain_kind k ≡ true → can_start k ≡ true → can_start k ≡ field → value_of k order bytes at implicit ≡ Some v → SpellsNumber k order p v.number
    → place_of (role_of_kind k NamesLineTable) at v.size ++ (indexed_kind k false base order place at v.size p ++ [])
    ≡ line_at true v ++ (class_places v.class false base field place v ++ [])
unfolding value_of
start-placed (number_of class n) order bytes at i base field place p v plain says can e same =
    let f : Fields v class at n n = number-fields class at n (number_at order bytes at n) v e in
    ap (λ (r : Role). place_of r at v.size ++ (indexed_kind (number_of class n) false base order place at v.size p ++ [])) (ap (λ (b : Bool). cond b line_start fixed) says)
    ∙ ap (λ (ts : List TextPlace). record { role = line_start; at = at; len = v.size; says = no_index } ∷ (ts ++ []))
    (number_places class n false base field order place at p v plain f can same)
    ∙ ap (λ (k : ℕ). record { role = line_start; at = k; len = v.size; says = no_index } ∷ (class_places v.class false base field place v ++ [])) (sym f.at_is)
    ∙ ap (λ (k : ℕ). record { role = line_start; at = v.at; len = k; says = no_index } ∷ (class_places v.class false base field place v ++ [])) (f.size_is ∙ sym f.len_is)
start-placed k order bytes at i base field place p v plain says can e same = absurd cc

-- a number that says where a macro unit starts
unit-placed : (k : ValueKind) (order : Order) (bytes : List ℕ) (at place : ℕ) (implicit : ℤ) (v : Value) → can_start k ≡ true → value_of k order bytes at implicit ≡ Some v
    → said_start true true place at v.size ≡ said_value true true place v
unfolding value_of
unit-placed (number_of class n) order bytes at place i v says e =
    let f : Fields v class at n n = number-fields class at n (number_at order bytes at n) v e in
    ap (λ (m : ℕ). record { role = fixed; at = m; len = v.size; says = unit_start } ∷ []) (sym f.at_is)
    ∙ ap (λ (m : ℕ). record { role = fixed; at = v.at; len = m; says = unit_start } ∷ []) (f.size_is ∙ sym f.len_is)
unit-placed k order bytes at place i v says e = absurd cc

-- a value of a kind has its text where its class says, says by index what its class says, and where it is to say where a line table or a
-- macro unit starts, says that or can't
pub value-placed : (k : ValueKind) (order : Order) (bytes : List ℕ) (at : ℕ) (implicit : ℤ) (number tag name form : ℕ) (base : Bool) (place : ℕ) (p : List Cell) (v : Value)
    → is_plain_kind k ≡ true → k ≢ form_in_front → can_start k ≡ is_start_form form → value_of k order bytes at implicit ≡ Some v → SpellsNumber k order p v.number
    → place_of (role_of_kind k (use_of number tag name)) at v.size
    ++ (indexed_kind k (is_path number tag name) base order place at v.size p
    ++ said_start (start_form_by k (use_of number tag name)) (macro_value_by k (use_of number tag name)) place at v.size)
    ≡ line_places (name == DW_AT_stmt_list) form v
    ++ (class_places v.class (is_path number tag name) base (is_start_form form) place v ++ said_places (is_start_name name) (is_macros name) form place v)
value-placed k order bytes at i number tag name form base place p v plain own starts e same = by_line (name == DW_AT_stmt_list) refl
  where
    by_start : (b : Bool) → can_start k ≡ b → is_start_form form ≡ b
        → place_of (role_of_kind k NamesLineTable) at v.size ++ (indexed_kind k false base order place at v.size p ++ said_start b false place at v.size)
        ≡ line_at (is_start_form form) v ++ (class_places v.class false base (is_start_form form) place v ++ said_value (is_start_form form) false place v)
    by_start true can is =
        start-placed k order bytes at i base (is_start_form form) place p v plain can starts e same
        ∙ ap (λ (x : Bool). line_at x v ++ (class_places v.class false base (is_start_form form) place v ++ said_value x false place v)) (sym is)
    by_start false can is =
        ap (λ (r : Role). place_of r at v.size ++ (indexed_kind k false base order place at v.size p ++ indexed_at place no_start)) (role-stray k can)
        ∙ sym (append_assoc (place_of (text_role k false) at v.size) (indexed_kind k false base order place at v.size p) (indexed_at place no_start))
        ∙ ap (λ (ts : List TextPlace). ts ++ indexed_at place no_start) (text-placed k order bytes at i false base (is_start_form form) place p v plain starts e same)
        ∙ ap (λ (x : Bool). line_at x v ++ (class_places v.class false base (is_start_form form) place v ++ said_value x false place v)) (sym is)

    by_unit : (b : Bool) → can_start k ≡ b → is_start_form form ≡ b
        → place_of (text_role k false) at v.size ++ (indexed_kind k false base order place at v.size p ++ said_start b b place at v.size)
        ≡ class_places v.class false base (is_start_form form) place v ++ said_value (is_start_form form) true place v
    by_unit true can is =
        sym (append_assoc (place_of (text_role k false) at v.size) (indexed_kind k false base order place at v.size p) (said_start true true place at v.size))
        ∙ ap (λ (ts : List TextPlace). ts ++ said_start true true place at v.size) (text-placed k order bytes at i false base (is_start_form form) place p v plain starts e same)
        ∙ ap (λ (ts : List TextPlace). class_places v.class false base (is_start_form form) place v ++ ts) (unit-placed k order bytes at place i v can e)
        ∙ ap (λ (x : Bool). class_places v.class false base (is_start_form form) place v ++ said_value x true place v) (sym is)
    by_unit false can is =
        sym (append_assoc (place_of (text_role k false) at v.size) (indexed_kind k false base order place at v.size p) (indexed_at place no_start))
        ∙ ap (λ (ts : List TextPlace). ts ++ indexed_at place no_start) (text-placed k order bytes at i false base (is_start_form form) place p v plain starts e same)
        ∙ ap (λ (x : Bool). class_places v.class false base (is_start_form form) place v ++ said_value x true place v) (sym is)

    by_macro : (b : Bool) → (name == DW_AT_stmt_list) ≡ false → is_macros name ≡ b
        → place_of (role_of_kind k (use_of number tag name)) at v.size
        ++ (indexed_kind k (is_path number tag name) base order place at v.size p
        ++ said_start (start_form_by k (use_of number tag name)) (macro_value_by k (use_of number tag name)) place at v.size)
        ≡ class_places v.class (is_path number tag name) base (is_start_form form) place v ++ said_places b b form place v
    by_macro true line macro =
        ap (λ (u : AttributeUse). place_of (role_of_kind k u) at v.size
        ++ (indexed_kind k (is_path number tag name) base order place at v.size p ++ said_start (start_form_by k u) (macro_value_by k u) place at v.size)) (macro-use number tag name line macro)
        ∙ ap (λ (r : Role). place_of r at v.size
        ++ (indexed_kind k (is_path number tag name) base order place at v.size p ++ said_start (start_form_by k NamesMacroUnit) (macro_value_by k NamesMacroUnit) place at v.size))
        (role-other k NamesMacroUnit refl)
        ∙ ap (λ (x : Bool). place_of (text_role k false) at v.size
        ++ (indexed_kind k x base order place at v.size p ++ said_start (start_form_by k NamesMacroUnit) (macro_value_by k NamesMacroUnit) place at v.size)) (macro-path number tag name macro)
        ∙ ap (λ (x : Bool). place_of (text_role k false) at v.size ++ (indexed_kind k false base order place at v.size p ++ said_start x (macro_value_by k NamesMacroUnit) place at v.size))
        (macro-starts k own)
        ∙ ap (λ (x : Bool). place_of (text_role k false) at v.size ++ (indexed_kind k false base order place at v.size p ++ said_start (can_start k) x place at v.size)) (macro-value k)
        ∙ by_unit (can_start k) refl (sym starts)
        ∙ ap (λ (x : Bool). class_places v.class x base (is_start_form form) place v ++ said_value (is_start_form form) true place v) (sym (macro-path number tag name macro))
    by_macro false line macro =
        let plain_use = plain-use number tag name line macro in
        ap (λ (x : Bool). place_of (role_of_kind k (use_of number tag name)) at v.size
        ++ (indexed_kind k (is_path number tag name) base order place at v.size p ++ said_start x (macro_value_by k (use_of number tag name)) place at v.size))
        (plain-starts k (use_of number tag name) plain_use)
        ∙ ap (λ (x : Bool). place_of (role_of_kind k (use_of number tag name)) at v.size ++ (indexed_kind k (is_path number tag name) base order place at v.size p ++ said_start true x place at v.size))
        (plain-macro k (use_of number tag name) plain_use)
        ∙ ap (λ (r : Role). place_of r at v.size ++ (indexed_kind k (is_path number tag name) base order place at v.size p ++ []))
        (role-other k (use_of number tag name) (plain-other (use_of number tag name) plain_use) ∙ ap (text_role k) (path_use number tag name))
        ∙ ap (λ (ts : List TextPlace). place_of (text_role k (is_path number tag name)) at v.size ++ ts) (append-nil (indexed_kind k (is_path number tag name) base order place at v.size p))
        ∙ text-placed k order bytes at i (is_path number tag name) base (is_start_form form) place p v plain starts e same
        ∙ sym (append-nil (class_places v.class (is_path number tag name) base (is_start_form form) place v))

    by_line : (b : Bool) → (name == DW_AT_stmt_list) ≡ b
        → place_of (role_of_kind k (use_of number tag name)) at v.size
        ++ (indexed_kind k (is_path number tag name) base order place at v.size p
        ++ said_start (start_form_by k (use_of number tag name)) (macro_value_by k (use_of number tag name)) place at v.size)
        ≡ line_places b form v ++ (class_places v.class (is_path number tag name) base (is_start_form form) place v ++ said_places (b || is_macros name) (is_macros name) form place v)
    by_line true line =
        ap (λ (u : AttributeUse). place_of (role_of_kind k u) at v.size
        ++ (indexed_kind k (is_path number tag name) base order place at v.size p ++ said_start (start_form_by k u) (macro_value_by k u) place at v.size)) (line-use number tag name line)
        ∙ ap (λ (x : Bool). place_of (role_of_kind k NamesLineTable) at v.size
        ++ (indexed_kind k x base order place at v.size p ++ said_start (start_form_by k NamesLineTable) (macro_value_by k NamesLineTable) place at v.size)) (line-path number tag name line)
        ∙ ap (λ (x : Bool). place_of (role_of_kind k NamesLineTable) at v.size ++ (indexed_kind k false base order place at v.size p ++ said_start x (macro_value_by k NamesLineTable) place at v.size))
        (line-starts k own)
        ∙ ap (λ (x : Bool). place_of (role_of_kind k NamesLineTable) at v.size ++ (indexed_kind k false base order place at v.size p ++ said_start (can_start k) x place at v.size)) (line-macro k)
        ∙ by_start (can_start k) refl (sym starts)
        ∙ ap (λ (x : Bool). line_at (is_start_form form) v ++ (class_places v.class x base (is_start_form form) place v ++ said_value (is_start_form form) false place v)) (sym (line-path number tag name line))
        ∙ ap (λ (x : Bool). line_at (is_start_form form) v ++ (class_places v.class (is_path number tag name) base (is_start_form form) place v ++ said_value (is_start_form form) x place v))
        (sym (line-macros name line))
    by_line false line = by_macro (is_macros name) line refl
