-- Laws of a pass over values that hold no offset, where no relocation begins in them.
use Rattle.std.proofs.Common.{◌≡◌, inl, inr, ℕ, ◌+◌, ◌<◌, ◌≤◌, ◌==◌, Bool, true, false, if◌then◌else◌, Option, Some, None, List, [], ◌∷◌, length, take, Result, Ok, refl, sym, ap, ◌∙◌, subst, arith, append-nil}
use Rattle.std.specs.Bool.{⊤}
use Rattle.std.specs.Prelude.{IfSome, is_some, nat_le, option_and_then}
use Rattle.std.proofs.lemmas.Bool.{cases_lt, eqb-true}
use Rattle.dw_abbrev.specs.QuietSpecs.{is_text_form}
use Rattle.dw_base.specs.Forms.{form_rows, kind_in, width_size}
use Rattle.dw_base.specs.RelocationRows.{FieldPlace, field_place, offset_field, plain_field}
use Rattle.dw_base.specs.Values.{value_at, value_size}
use Rattle.dw_base.specs.declared.dwarf_numbers.TheConstants.{DW_FORM_strp}
use Rattle.dw_base.specs.declared.fault.Refusal.{Refusal}
use Rattle.dw_base.specs.declared.shared.Params.{Params}
use Rattle.dw_base.specs.declared.shared.Width.{Width}
use Rattle.dw_base.specs.declared.shared.Width.TheVariants.{W32, W64}
use Rattle.dw_base.specs.declared.values.Spec.{Spec}
use Rattle.dw_base.specs.declared.values.Value.{Value}
use Rattle.dw_entries.specs.Passes.{HasSize, plain_len}
use Rattle.dw_forms.proofs.InsideLaws.{value_at-inside}
use Rattle.dw_forms.specs.Fixed.{fixed_size, is_among, is_plain_form, plain_forms, plain_size}
use Rattle.dw_forms.specs.Reads.{room_size}
use Rattle.dw_relocs.specs.FieldForms.{IsStill, is_followed, is_number_form, number_forms}
use Rattle.dw_relocs.specs.FieldForms.IsStill.{no_field, number_field}
use Rattle.dw_relocs.specs.FieldWalks.{FieldPassed, Goes, Ground, Stands, StandsAt, Walked, place_before}
use Rattle.dw_relocs.specs.UnitFields.{fields_of_kind}
use Rattle.dw_relocs.specs.UnitPasses.{ValuePassed}
use Rattle.dw_relocs.specs.declared.marks.Marks.{Marks}
use Rattle.dw_relocs.proofs.MarkLaws.{marks-on, none-before, none-some}
use Rattle.dw_relocs.proofs.ValueFieldLaws.{none-whole, size-whole, value-room}
use Rattle.dw_relocs.proofs.WalkLaws.{begin-later, field-goes}

-- each form of a list
abbrev EachForm : (ℕ → Type 0) → List ℕ → Type 0
EachForm P [] = ⊤
EachForm P (x ∷ xs) = P x × EachForm P xs

among : (P : ℕ → Type 0) (xs : List ℕ) (form : ℕ) → EachForm P xs → is_among xs form ≡ true → P form
among P [] form h e = absurd cc
among P (x ∷ xs) form h e = by_test (x == form) refl (among P xs form h.1) e
  where
    by_test : (t : Bool) → (x == form) ≡ t → (is_among xs form ≡ true → P form) → (if t then true else is_among xs form) ≡ true → P form
    by_test true same rest e = subst P (eqb-true x form same) h.0
    by_test false same rest e = rest e

-- a value of such a form, but of a text's offset, holds no offset where its attribute doesn't say where something starts
abbrev HoldsNone : Params → List ℕ → ℕ → ℕ → ℕ → Type 0
HoldsNone params bytes place n form =
    fixed_size (kind_in params form) ≡ Some n → (form ≡ DW_FORM_strp → ⊥) → IsStill place n (fields_of_kind (kind_in params form) params bytes false place)

size-once : (m n : ℕ) → ◌≡◌ {A = Option ℕ} (Some m) (Some n) → m ≡ n
size-once m n e = cc

number-still : (place m n : ℕ) → ◌≡◌ {A = Option ℕ} (Some m) (Some n) → 0 < m → IsStill place n (field_place place m plain_field ∷ [])
number-still place m n e some = subst (λ (k : ℕ). IsStill place k (field_place place m plain_field ∷ [])) (size-once m n e) (number_field some)

width-some : (w : Width) → 0 < width_size w
width-some W32 = omega arith
width-some W64 = omega arith

plain-still : (params : Params) (bytes : List ℕ) (place n : ℕ) → EachForm (HoldsNone params bytes place n) plain_forms
unfolding kind_in form_rows plain_forms
plain-still params bytes place n = (
  (λ e other. no_field),
  (
    (λ e other. no_field),
    (
      (λ e other. number-still place 1 n e (omega arith)),
      (
        (λ e other. number-still place 1 n e (omega arith)),
        (
          (λ e other. number-still place 2 n e (omega arith)),
          (
            (λ e other. number-still place 4 n e (omega arith)),
            (
              (λ e other. number-still place 4 n e (omega arith)),
              (
                (λ e other. number-still place 8 n e (omega arith)),
                (
                  (λ e other. absurd (other refl)),
                  (
                    (λ e other. number-still place (width_size params.width) n e (width-some params.width)),
                    (
                      (λ e other. no_field),
                      tt,
                    ),
                  ),
                ),
              ),
            ),
          ),
        ),
      ),
    ),
  ),
)

still-by : (params : Params) (bytes : List ℕ) (place n form : ℕ) (t : Bool) → is_plain_form form ≡ t → (if t then fixed_size (kind_in params form) else None) ≡ Some n
    → (form ≡ DW_FORM_strp → ⊥) → IsStill place n (fields_of_kind (kind_in params form) params bytes false place)
unfolding is_plain_form
still-by params bytes place n form true is e other =
    among (HoldsNone params bytes place n) plain_forms form (plain-still params bytes place n) is e other
still-by params bytes place n form false is e other = absurd cc

-- a value of a number's form is a number
abbrev HoldsNumber : Params → List ℕ → ℕ → ℕ → ℕ → Type 0
HoldsNumber params bytes place n form =
    fixed_size (kind_in params form) ≡ Some n → (0 < n) × (fields_of_kind (kind_in params form) params bytes false place ≡ field_place place n plain_field ∷ [])

number-own : (place m n : ℕ) → ◌≡◌ {A = Option ℕ} (Some m) (Some n) → 0 < m → (0 < n) × (field_place place m plain_field ∷ [] ≡ field_place place n plain_field ∷ [])
number-own place m n e some =
    (subst (λ (k : ℕ). 0 < k) (size-once m n e) some, ap (λ (k : ℕ). field_place place k plain_field ∷ []) (size-once m n e))

number-each : (params : Params) (bytes : List ℕ) (place n : ℕ) → EachForm (HoldsNumber params bytes place n) number_forms
unfolding kind_in form_rows number_forms
number-each params bytes place n = (
  (λ e. number-own place 1 n e (omega arith)),
  (
    (λ e. number-own place 1 n e (omega arith)),
    (
      (λ e. number-own place 2 n e (omega arith)),
      (
        (λ e. number-own place 4 n e (omega arith)),
        (
          (λ e. number-own place 4 n e (omega arith)),
          (
            (λ e. number-own place 8 n e (omega arith)),
            (
              (λ e. number-own place (width_size params.width) n e (width-some params.width)),
              tt,
            ),
          ),
        ),
      ),
    ),
  ),
)

number-by : (params : Params) (bytes : List ℕ) (place n form : ℕ) → is_number_form form ≡ true → plain_size params form ≡ Some n
    → (0 < n) × (fields_of_kind (kind_in params form) params bytes false place ≡ field_place place n plain_field ∷ [])
unfolding is_number_form
number-by params bytes place n form is e =
    among (HoldsNumber params bytes place n) number_forms form (number-each params bytes place n) is (plain-fixed (is_plain_form form) e)
  where
    plain-fixed : (t : Bool) → (if t then fixed_size (kind_in params form) else None) ≡ Some n → fixed_size (kind_in params form) ≡ Some n
    plain-fixed true e = e
    plain-fixed false e = absurd cc

-- the size that was found
room-once : (k n : ℕ) (t : Bool) → (if t then Some k else None) ≡ Some n → k ≡ n
room-once k n true e = size-once k n e
room-once k n false e = absurd cc

len-plain : (params : Params) (x : Spec) (bytes : List ℕ) (place n : ℕ) → plain_len params x bytes place ≡ Some n → plain_size params x.form ≡ Some n
len-plain params x bytes place n e = by_size (plain_size params x.form) refl e
  where
    by_size : (o : Option ℕ) → plain_size params x.form ≡ o → option_and_then (room_size bytes place) o ≡ Some n → plain_size params x.form ≡ Some n
    by_size None is e = absurd cc
    by_size (Some k) is e = is ∙ ap Some (room-once k n (nat_le (place + k) (length bytes)) e)

true-false : {t : Bool} → t ≡ true → t ≡ false → ⊥
true-false a b = cc

not-start : (start : Bool) (form : ℕ) → is_followed start form ≡ false → start ≡ false
not-start true form e = absurd cc
not-start false form e = refl

not-text : (start : Bool) (form : ℕ) → is_followed start form ≡ false → form ≡ DW_FORM_strp → ⊥
not-text true form e is = cc
not-text false form e is =
    let text : is_text_form DW_FORM_strp ≡ true = refl in
    true-false (ap is_text_form is ∙ text) e

pub len-still : (params : Params) (x : Spec) (bytes : List ℕ) (place : ℕ) (start b : Bool) (o : Option ℕ) → b ≡ is_followed start x.form → b ≡ false
    → o ≡ plain_len params x bytes place → IfSome o (λ n. IsStill place n (fields_of_kind (kind_in params x.form) params bytes start place))
len-still params x bytes place start b None is fails e = tt
len-still params x bytes place start b (Some n) is fails e =
    let other : is_followed start x.form ≡ false = sym is ∙ fails in
    subst (λ (s : Bool). IsStill place n (fields_of_kind (kind_in params x.form) params bytes s place)) (sym (not-start start x.form other))
    (still-by params bytes place n x.form (is_plain_form x.form) refl (len-plain params x bytes place n (sym e)) (not-text start x.form other))

number-there : (params : Params) (x : Spec) (bytes : List ℕ) (place n : ℕ) (start b c : Bool) → b ≡ is_followed start x.form → b ≡ false → c ≡ is_number_form x.form
    → c ≡ true → Some n ≡ plain_len params x bytes place
    → (0 < n) × (fields_of_kind (kind_in params x.form) params bytes start place ≡ field_place place n plain_field ∷ [])
number-there params x bytes place n start b c is fails number_is yes_is e =
    let other : is_followed start x.form ≡ false = sym is ∙ fails in
    subst (λ (s : Bool). (0 < n) × (fields_of_kind (kind_in params x.form) params bytes s place ≡ field_place place n plain_field ∷ []))
    (sym (not-start start x.form other))
    (number-by params bytes place n x.form (sym number_is ∙ yes_is) (len-plain params x bytes place n (sym e)))

pub number-some : (params : Params) (x : Spec) (bytes : List ℕ) (place : ℕ) (start b c : Bool) (o : Option ℕ) → b ≡ is_followed start x.form → b ≡ false
    → c ≡ is_number_form x.form → c ≡ true → o ≡ plain_len params x bytes place → IfSome o (λ n. 0 < n)
number-some params x bytes place start b c None is fails number_is yes_is e = tt
number-some params x bytes place start b c (Some n) is fails number_is yes_is e = (number-there params x bytes place n start b c is fails number_is yes_is e).0

pub number-field : (params : Params) (x : Spec) (bytes : List ℕ) (place : ℕ) (start b c : Bool) (o : Option ℕ) → b ≡ is_followed start x.form → b ≡ false
    → c ≡ is_number_form x.form → c ≡ true → o ≡ plain_len params x bytes place
    → IfSome o (λ n. fields_of_kind (kind_in params x.form) params bytes start place ≡ field_place place n plain_field ∷ [])
number-field params x bytes place start b c None is fails number_is yes_is e = tt
number-field params x bytes place start b c (Some n) is fails number_is yes_is e = (number-there params x bytes place n start b c is fails number_is yes_is e).1

pub has-value : (params : Params) (x : Spec) (bytes : List ℕ) (place n : ℕ) → HasSize params x bytes place n → value_size (value_at params x bytes place) ≡ Some n
has-value params x bytes place n h = ap value_size h.is ∙ ap Some h.size_is

pub len-value : (params : Params) (x : Spec) (bytes : List ℕ) (place : ℕ) (o : Option ℕ) → IfSome o (HasSize params x bytes place)
    → IfSome o (λ n. value_size (value_at params x bytes place) ≡ Some n)
len-value params x bytes place None h = tt
len-value params x bytes place (Some n) h = has-value params x bytes place n h

-- a value that stands there
there-none : (o : Option Value) → is_some o ≡ true → o ≡ None → ⊥
there-none None some e = cc
there-none (Some v) some e = cc

pub none-there : (params : Params) (x : Spec) (bytes : List ℕ) (place end : ℕ) → is_some (value_at params x bytes place) ≡ true
    → value_at params x (take end bytes) place ≡ None → end ≡ length bytes → ⊥
none-there params x bytes place end some e is = there-none (value_at params x bytes place) some (none-whole params x bytes place end e is)

pub there-inside : (params : Params) (x : Spec) (bytes : List ℕ) (place : ℕ) → is_some (value_at params x bytes place) ≡ true → place ≤ length bytes
there-inside params x bytes place some = by_value (value_at params x bytes place) refl some
  where
    by_value : (o : Option Value) → value_at params x bytes place ≡ o → is_some o ≡ true → place ≤ length bytes
    by_value None is some = absurd cc
    by_value (Some v) is some = let room = value_at-inside params x bytes place v is in omega (arith, room)

pub ruleset len_rules = (has-value, size-whole, none-there)

-- no relocation begins in the value
not-some : (o : Option ℕ) → is_some o ≡ false → None ≡ o
not-some None e = refl
not-some (Some p) e = absurd cc

none-goes : (g : Ground) (place to : ℕ) (m : Marks) → place ≤ to → Stands g.cells place m → None ≡ place_before m.next to
    → Goes g place to [] (Ok m) (Ok (record { place = to; next = m.next }))
none-goes g place to m le h e =
    let before_ = h.before in
    let marks_ = marks-on g.cells m to h.marks (omega (arith, le, before_)) e in
    record {
      stands = record { marks = marks_; before = omega arith; small = h.small };
      all = λ before w.
          subst (λ (fs : List FieldPlace). Walked g fs to (Ok (record { place = to; next = m.next }))) (sym (append-nil before)) (record {
            marks = marks_;
            before = omega arith;
            reads = record {
              offsets = w.reads.offsets;
              numbers = w.reads.numbers;
              kept = λ q r lt begins moving. elim (cases_lt q m.place) [
                | inl under ↦ w.reads.kept q r under begins moving
                | inr over ↦ absurd (none-some g.cells q r (none-before g.cells m to h.marks e q over lt) begins)
              ];
              begin = begin-later before m.place to w.reads.begin (omega (arith, le, before_));
            };
          });
    }

other-use : plain_field ≡ offset_field → ⊥
other-use e = cc

number-goes : (g : Ground) (place n : ℕ) (m : Marks) → 0 < n → Stands g.cells place m → None ≡ place_before m.next (place + n)
    → Goes g place (place + n) (field_place place n plain_field ∷ []) (Ok m) (Ok (record { place = place + n; next = m.next }))
number-goes g place n m some h e = field-goes g place n plain_field m (Ok (record { place = place + n; next = m.next })) some h passed tt
  where
    passed : FieldPassed g m.place (field_place place n plain_field) (record { place = place + n; next = m.next })
    passed =
        let before_ = h.before in
        let none = none-before g.cells m (place + n) h.marks e in
        record {
          marks = marks-on g.cells m (place + n) h.marks (omega (arith, before_)) e;
          place = refl;
          small = h.small;
          kept = λ p r front lt begins moving. absurd (none-some g.cells p r (none p front lt) begins);
          reads = λ u. absurd (other-use u);
          number = λ p r u begins above below. none-some g.cells p r (none p (omega (arith, above, before_)) below) begins;
        }

still-goes : (g : Ground) (place n : ℕ) (fs : List FieldPlace) (m : Marks) → IsStill place n fs → Stands g.cells place m → None ≡ place_before m.next (place + n)
    → Goes g place (place + n) fs (Ok m) (Ok (record { place = place + n; next = m.next }))
still-goes g place n fs m no_field h e = none-goes g place (place + n) m (omega arith) h e
still-goes g place n fs m (number_field some) h e = number-goes g place n m some h e

-- a value that holds no offset
pub still-passed : (g : Ground) (params : Params) (x : Spec) (bytes : List ℕ) (start : Bool) (place n : ℕ) (p : Result Marks Refusal) (m : Marks) → p ≡ Ok m
    → StandsAt g.cells place p → value_size (value_at params x bytes place) ≡ Some n
    → IsStill place n (fields_of_kind (kind_in params x.form) params bytes start place) → is_some (place_before m.next (place + n)) ≡ false
    → ValuePassed g params x bytes start place (place + n) p (Ok (record { place = place + n; next = m.next }))
still-passed g params x bytes start place n p m e stands value still none = record {
  size = n;
  value = value;
  behind = refl;
  goes =
      subst (λ (w : Result Marks Refusal). Goes g place (place + n) (fields_of_kind (kind_in params x.form) params bytes start place) w
      (Ok (record { place = place + n; next = m.next }))) (sym e)
      (still-goes g place n (fields_of_kind (kind_in params x.form) params bytes start place) m still (subst (StandsAt g.cells place) e stands)
      (not-some (place_before m.next (place + n)) none));
}

pub ruleset marks_rules = (still-passed)

-- any value
pub read-passed : (g : Ground) (params : Params) (x : Spec) (bytes : List ℕ) (start : Bool) (place n : ℕ) (p q : Result Marks Refusal)
    → value_size (value_at params x bytes place) ≡ Some n → Goes g place (place + n) (fields_of_kind (kind_in params x.form) params bytes start place) p q
    → ValuePassed g params x bytes start place (place + n) p q
read-passed g params x bytes start place n p q value goes = record { size = n; value = value; behind = refl; goes = goes }

pub number-passed : (g : Ground) (params : Params) (x : Spec) (bytes : List ℕ) (start : Bool) (place n : ℕ) (p q : Result Marks Refusal)
    → value_size (value_at params x bytes place) ≡ Some n → fields_of_kind (kind_in params x.form) params bytes start place ≡ field_place place n plain_field ∷ []
    → Goes g place (place + n) (field_place place n plain_field ∷ []) p q → ValuePassed g params x bytes start place (place + n) p q
number-passed g params x bytes start place n p q value field goes =
    read-passed g params x bytes start place n p q value (subst (λ (fs : List FieldPlace). Goes g place (place + n) fs p q) (sym field) goes)

pub ruleset read_rules = (read-passed, number-passed, there-inside, value-room)

pub ruleset next_rules = (there-inside)

pub ruleset still_rules = (len-still, len-value)

pub ruleset number_rules = (number-some, number-field, len-value)
