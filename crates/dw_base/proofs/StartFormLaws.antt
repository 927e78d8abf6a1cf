-- Forms of values that are to say where a line table or a macro unit starts (DWARF 5, 3.1.1 and table 7.6), and the form that stands in
-- front of a value.
use Rattle.std.proofs.Common.{Bool, true, false, ◌≡◌, ◌≢◌, ◌⊎◌, inl, inr, ℕ, ◌==◌, ◌&&◌, ◌||◌, not, List, [], ◌∷◌, cond, Some, refl, sym, ap, ◌∙◌, subst}
use Rattle.std.proofs.lemmas.Bool.{and_parts, eqb-true, ne_eqb}
use Rattle.dw_base.specs.Forms.{ValueKind, number_of, form_in_front, FormRow, form_rows, kind_by, kind_in, width_size}
use Rattle.dw_base.specs.Lebs.{uleb_at}
use Rattle.dw_base.specs.Roles.{is_line_start, is_macro_start, is_path, use_of, is_unit_tag, is_macros}
use Rattle.dw_base.specs.TableStarts.{can_start, macro_value_by, start_form_by, is_start_form, own_form}
use Rattle.dw_base.specs.UnitStates.{read_value}
use Rattle.dw_base.specs.declared.dwarf_numbers.TheConstants.{DW_AT_stmt_list, DW_AT_macros, DW_AT_GNU_macros, DW_FORM_data4, DW_FORM_data8, DW_FORM_indirect, DW_FORM_sec_offset}
use Rattle.dw_base.specs.declared.shared.Params.{Params}
use Rattle.dw_base.specs.declared.shared.Width.{Width}
use Rattle.dw_base.specs.declared.shared.Width.TheVariants.{W32, W64}
use Rattle.dw_base.specs.declared.values.AttributeUse.{AttributeUse}
use Rattle.dw_base.specs.declared.values.AttributeUse.TheVariants.{NamesPath, NamesLineTable, NamesMacroUnit, NamesOther}
use Rattle.dw_base.specs.declared.values.Spec.{Spec}
use Rattle.dw_base.specs.declared.values.ValueClass.{ValueClass}
use Rattle.dw_base.specs.declared.values.ValueClass.TheVariants.{Number, SecOffset}

-- in the table of forms the kinds that can say a start are those of these forms, and one form stands in front of values
abbrev is_front : ValueKind → Bool
is_front form_in_front = true
is_front k = false

abbrev row_starts : FormRow → Bool
row_starts r = not (can_start r.kind) || is_start_form r.form

abbrev row_fronts : FormRow → Bool
row_fronts r = not (is_front r.kind) || r.form == DW_FORM_indirect

abbrev all_rows : (FormRow → Bool) → List FormRow → Bool
all_rows P [] = true
all_rows P (r ∷ rs) = P r && all_rows P rs

rows_start : (params : Params) → all_rows row_starts (form_rows params) ≡ true
unfolding form_rows
rows_start params = refl

rows_front : (params : Params) → all_rows row_fronts (form_rows params) ≡ true
unfolding form_rows
rows_front params = refl

implied : (a b : Bool) → (not a || b) ≡ true → a ≡ true → b ≡ true
implied true b h e = h
implied false b h e = absurd cc

rows-start : (rows : List FormRow) (form : ℕ) → all_rows row_starts rows ≡ true → can_start (kind_by rows form) ≡ true → is_start_form form ≡ true
rows-start [] form all e = absurd cc
rows-start (r ∷ rs) form all e =
    let parts = and_parts (row_starts r) (all_rows row_starts rs) all in
    by_form (r.form == form) refl parts.0 (rows-start rs form parts.1) e
  where
    by_form : (b : Bool) → (r.form == form) ≡ b → row_starts r ≡ true → (can_start (kind_by rs form) ≡ true → is_start_form form ≡ true)
        → can_start (cond b r.kind (kind_by rs form)) ≡ true → is_start_form form ≡ true
    by_form true is one rest h = subst (λ (f : ℕ). is_start_form f ≡ true) (eqb-true r.form form is) (implied (can_start r.kind) (is_start_form r.form) one h)
    by_form false is one rest h = rest h

rows-front : (rows : List FormRow) (form : ℕ) → all_rows row_fronts rows ≡ true → is_front (kind_by rows form) ≡ true → (form == DW_FORM_indirect) ≡ true
rows-front [] form all e = absurd cc
rows-front (r ∷ rs) form all e =
    let parts = and_parts (row_fronts r) (all_rows row_fronts rs) all in
    by_form (r.form == form) refl parts.0 (rows-front rs form parts.1) e
  where
    by_form : (b : Bool) → (r.form == form) ≡ b → row_fronts r ≡ true → (is_front (kind_by rs form) ≡ true → (form == DW_FORM_indirect) ≡ true)
        → is_front (cond b r.kind (kind_by rs form)) ≡ true → (form == DW_FORM_indirect) ≡ true
    by_form true is one rest h = subst (λ (f : ℕ). (f == DW_FORM_indirect) ≡ true) (eqb-true r.form form is) (implied (is_front r.kind) (r.form == DW_FORM_indirect) one h)
    by_form false is one rest h = rest h

-- the kind of such a form
pub record StartKind (params : Params) (form : ℕ) : Type 0 where
  pub class : ValueClass
  pub size : ℕ
  pub kind_is : kind_in params form ≡ number_of class size
  pub sized : (size ≡ 4) ⊎ (size ≡ 8)
  pub says : is_line_start NamesLineTable class size ≡ true

width-sized : (w : Width) → (width_size w ≡ 4) ⊎ (width_size w ≡ 8)
width-sized W32 = inl refl
width-sized W64 = inr refl

or_parts : (a b : Bool) → (a || b) ≡ true → (a ≡ true) ⊎ (b ≡ true)
or_parts true b h = inl refl
or_parts false b h = inr h

sec-kind : (params : Params) → StartKind params DW_FORM_sec_offset
unfolding kind_in form_rows
sec-kind params = record { class = SecOffset; size = width_size params.width; kind_is = refl; sized = width-sized params.width; says = refl }

four-kind : (params : Params) → StartKind params DW_FORM_data4
unfolding kind_in form_rows
four-kind params = record { class = Number; size = 4; kind_is = refl; sized = inl refl; says = refl }

eight-kind : (params : Params) → StartKind params DW_FORM_data8
unfolding kind_in form_rows
eight-kind params = record { class = Number; size = 8; kind_is = refl; sized = inr refl; says = refl }

pub start-kind : (params : Params) (form : ℕ) → is_start_form form ≡ true → StartKind params form
start-kind params form e = by_first (or_parts (form == DW_FORM_sec_offset || form == DW_FORM_data4) (form == DW_FORM_data8) e)
  where
    by_second : ((form == DW_FORM_sec_offset) ≡ true) ⊎ ((form == DW_FORM_data4) ≡ true) → StartKind params form
    by_second (inl is) = subst (StartKind params) (sym (eqb-true form DW_FORM_sec_offset is)) (sec-kind params)
    by_second (inr is) = subst (StartKind params) (sym (eqb-true form DW_FORM_data4 is)) (four-kind params)

    by_first : ((form == DW_FORM_sec_offset || form == DW_FORM_data4) ≡ true) ⊎ ((form == DW_FORM_data8) ≡ true) → StartKind params form
    by_first (inl either) = by_second (or_parts (form == DW_FORM_sec_offset) (form == DW_FORM_data4) either)
    by_first (inr is) = subst (StartKind params) (sym (eqb-true form DW_FORM_data8 is)) (eight-kind params)

same_test : (a b : Bool) → (a ≡ true → b ≡ true) → (b ≡ true → a ≡ true) → a ≡ b
same_test true true f g = refl
same_test true false f g = sym (f refl)
same_test false true f g = g refl
same_test false false f g = refl

-- a form can say a start where its kind can
pub form-starts : (params : Params) (form : ℕ) → can_start (kind_in params form) ≡ is_start_form form
unfolding kind_in
form-starts params form =
    same_test (can_start (kind_in params form)) (is_start_form form) (rows-start (form_rows params) form (rows_start params)) there
  where
    there : is_start_form form ≡ true → can_start (kind_in params form) ≡ true
    there e =
        let k : StartKind params form = start-kind params form e in
        ap can_start k.kind_is ∙ k.says

-- the form that stands in front of values
front-form : (params : Params) (form : ℕ) → kind_in params form ≡ form_in_front → (form == DW_FORM_indirect) ≡ true
unfolding kind_in
front-form params form e = rows-front (form_rows params) form (rows_front params) (ap is_front e)

form-front : (params : Params) → kind_in params DW_FORM_indirect ≡ form_in_front
unfolding kind_in form_rows
form-front params = refl

other-form : (params : Params) (form : ℕ) → kind_in params form ≢ form_in_front → (form == DW_FORM_indirect) ≡ false
other-form params form other =
    ne_eqb form DW_FORM_indirect (λ e. other (ap (kind_in params) e ∙ form-front params))

-- so a value's own form is its attribute's, or the one in front of it
pub plain-form : (params : Params) (x : Spec) (bytes : List ℕ) (place : ℕ) → kind_in params x.form ≢ form_in_front → own_form x bytes place ≡ x.form
plain-form params x bytes place other = ap (λ (b : Bool). cond b (read_value (uleb_at bytes place)) x.form) (other-form params x.form other)

pub chosen-form : (params : Params) (x : Spec) (bytes : List ℕ) (place form size : ℕ) → kind_in params x.form ≡ form_in_front → uleb_at bytes place ≡ Some (form, size)
    → own_form x bytes place ≡ form
chosen-form params x bytes place form size front is =
    ap (λ (b : Bool). cond b (read_value (uleb_at bytes place)) x.form) (front-form params x.form front) ∙ ap read_value is

-- an attribute that says where a line table starts is no path
and-false : (b : Bool) → (b && false) ≡ false
and-false true = refl
and-false false = refl

list-path : (number tag : ℕ) → is_path number tag DW_AT_stmt_list ≡ false
list-path number tag = and-false (number == 0 && is_unit_tag tag)

pub line-path : (number tag name : ℕ) → (name == DW_AT_stmt_list) ≡ true → is_path number tag name ≡ false
line-path number tag name e = ap (is_path number tag) (eqb-true name DW_AT_stmt_list e) ∙ list-path number tag

pub line-use : (number tag name : ℕ) → (name == DW_AT_stmt_list) ≡ true → use_of number tag name ≡ NamesLineTable
line-use number tag name e =
    ap (λ (b : Bool). cond b NamesPath (cond (name == DW_AT_stmt_list) NamesLineTable (cond (name == DW_AT_macros || name == DW_AT_GNU_macros) NamesMacroUnit NamesOther)))
    (line-path number tag name e)
    ∙ ap (λ (b : Bool). cond b NamesLineTable (cond (name == DW_AT_macros || name == DW_AT_GNU_macros) NamesMacroUnit NamesOther)) e

-- a use that is no line table's, and one that is no macro unit's either
abbrev pub is_other_use : AttributeUse → Bool
is_other_use NamesLineTable = false
is_other_use u = true

abbrev pub is_plain_use : AttributeUse → Bool
is_plain_use NamesLineTable = false
is_plain_use NamesMacroUnit = false
is_plain_use u = true

pub plain-other : (u : AttributeUse) → is_plain_use u ≡ true → is_other_use u ≡ true
plain-other NamesLineTable e = absurd cc
plain-other NamesMacroUnit e = refl
plain-other NamesPath e = refl
plain-other NamesOther e = refl

pub plain-use : (number tag name : ℕ) → (name == DW_AT_stmt_list) ≡ false → is_macros name ≡ false → is_plain_use (use_of number tag name) ≡ true
plain-use number tag name e f =
    ap (λ (b : Bool). is_plain_use (cond (is_path number tag name) NamesPath (cond b NamesLineTable (cond (is_macros name) NamesMacroUnit NamesOther)))) e
    ∙ ap (λ (b : Bool). is_plain_use (cond (is_path number tag name) NamesPath (cond b NamesMacroUnit NamesOther))) f
    ∙ by_path (is_path number tag name)
  where
    by_path : (path : Bool) → is_plain_use (cond path NamesPath NamesOther) ≡ true
    by_path true = refl
    by_path false = refl

pub plain-starts : (k : ValueKind) (u : AttributeUse) → is_plain_use u ≡ true → start_form_by k u ≡ true
plain-starts k NamesLineTable plain = absurd cc
plain-starts k NamesMacroUnit plain = absurd cc
plain-starts k NamesPath plain = by_kind k
  where
    by_kind : (x : ValueKind) → start_form_by x NamesPath ≡ true
    by_kind form_in_front = refl
    by_kind x = refl
plain-starts k NamesOther plain = by_kind k
  where
    by_kind : (x : ValueKind) → start_form_by x NamesOther ≡ true
    by_kind form_in_front = refl
    by_kind x = refl

plain-number : (u : AttributeUse) (class : ValueClass) (n : ℕ) → is_plain_use u ≡ true → is_macro_start u class n ≡ false
plain-number NamesLineTable class n plain = absurd cc
plain-number NamesMacroUnit class n plain = absurd cc
plain-number NamesPath class n plain = refl
plain-number NamesOther class n plain = refl

pub plain-macro : (k : ValueKind) (u : AttributeUse) → is_plain_use u ≡ true → macro_value_by k u ≡ false
plain-macro (number_of class n) u plain = plain-number u class n plain
plain-macro k u plain = refl

pub line-starts : (k : ValueKind) → k ≢ form_in_front → start_form_by k NamesLineTable ≡ can_start k
line-starts form_in_front other = absurd (other refl)
line-starts k other = refl

pub line-macro : (k : ValueKind) → macro_value_by k NamesLineTable ≡ false
line-macro (number_of class n) = refl
line-macro k = refl

-- an attribute that says where a macro unit starts
same-class : (class : ValueClass) (n : ℕ) → is_macro_start NamesMacroUnit class n ≡ is_line_start NamesLineTable class n
same-class SecOffset n = refl
same-class Number n = refl
same-class class n = refl

pub macro-starts : (k : ValueKind) → k ≢ form_in_front → start_form_by k NamesMacroUnit ≡ can_start k
macro-starts form_in_front other = absurd (other refl)
macro-starts (number_of class n) other = same-class class n
macro-starts k other = refl

pub macro-value : (k : ValueKind) → macro_value_by k NamesMacroUnit ≡ can_start k
macro-value (number_of class n) = same-class class n
macro-value k = refl

both_or : (a b : Bool) → (a || b) ≡ true → (a ≡ true) ⊎ (b ≡ true)
both_or true b h = inl refl
both_or false b h = inr h

pub macro-path : (number tag name : ℕ) → is_macros name ≡ true → is_path number tag name ≡ false
macro-path number tag name e = by (both_or (name == DW_AT_macros) (name == DW_AT_GNU_macros) e)
  where
    by : ((name == DW_AT_macros) ≡ true) ⊎ ((name == DW_AT_GNU_macros) ≡ true) → is_path number tag name ≡ false
    by (inl is) = ap (is_path number tag) (eqb-true name DW_AT_macros is) ∙ and-false (number == 0 && is_unit_tag tag)
    by (inr is) = ap (is_path number tag) (eqb-true name DW_AT_GNU_macros is) ∙ and-false (number == 0 && is_unit_tag tag)

pub macro-use : (number tag name : ℕ) → (name == DW_AT_stmt_list) ≡ false → is_macros name ≡ true → use_of number tag name ≡ NamesMacroUnit
macro-use number tag name line e =
    ap (λ (b : Bool). cond b NamesPath (cond (name == DW_AT_stmt_list) NamesLineTable (cond (is_macros name) NamesMacroUnit NamesOther))) (macro-path number tag name e)
    ∙ ap (λ (b : Bool). cond b NamesLineTable (cond (is_macros name) NamesMacroUnit NamesOther)) line
    ∙ ap (λ (b : Bool). cond b NamesMacroUnit NamesOther) e

pub line-macros : (name : ℕ) → (name == DW_AT_stmt_list) ≡ true → is_macros name ≡ false
line-macros name e = ap is_macros (eqb-true name DW_AT_stmt_list e)

pub macros-line : (name : ℕ) → is_macros name ≡ true → (name == DW_AT_stmt_list) ≡ false
macros-line name e = by_name (name == DW_AT_stmt_list) refl
  where
    both : is_macros name ≡ false → ⊥
    both none = let clash : true ≡ false = sym e ∙ none in absurd cc

    by_name : (b : Bool) → (name == DW_AT_stmt_list) ≡ b → b ≡ false
    by_name true is = absurd (both (line-macros name is))
    by_name false is = refl

-- a value that says where a macro unit starts has a form that can
number-form : (u : AttributeUse) (class : ValueClass) (n : ℕ) → is_macro_start u class n ≡ true → start_form_by (number_of class n) u ≡ true
number-form NamesMacroUnit class n e = e
number-form NamesLineTable class n e = absurd cc
number-form NamesPath class n e = absurd cc
number-form NamesOther class n e = absurd cc

pub macro-form : (k : ValueKind) (u : AttributeUse) → macro_value_by k u ≡ true → start_form_by k u ≡ true
macro-form (number_of class n) u e = number-form u class n e
macro-form k u e = absurd cc
