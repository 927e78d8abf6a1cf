-- What forms say of the values that `show` prints: which numbers are fields, of 1 to 8 bytes each, and which classes they have (DWARF 5,
-- 7.5.6, table 7.6).
use Rattle.std.specs.Bool.{⊤}
use Rattle.std.specs.Prelude.{◌&&◌, ◌||◌, IsTrue, not}
use Rattle.std.proofs.Common.{Bool, true, false, ◌≡◌, ℕ, ◌==◌, ◌<◌, ◌≤◌, List, [], ◌∷◌, cond, if◌then◌else◌, refl, subst, arith}
use Rattle.std.proofs.lemmas.Bool.{and_parts, eqb-true}
use Rattle.dw_base.specs.Forms.{ValueKind, number_of, leb_number, text_offset, FormRow, form_rows, kind_by, kind_in, reference_size, width_size}
use Rattle.dw_base.specs.TableStarts.{can_start, is_start_form}
use Rattle.dw_base.specs.UnitHeaders.{is_address_size}
use Rattle.dw_base.specs.declared.shared.Params.{Params}
use Rattle.dw_base.specs.declared.shared.Width.{Width}
use Rattle.dw_base.specs.declared.shared.Width.TheVariants.{W32, W64}
use Rattle.dw_base.specs.declared.values.ValueClass.{ValueClass}
use Rattle.dw_base.specs.declared.values.ValueClass.TheVariants.{Address, Signed, Bytes, InlineText, StrOffset, LineStrOffset, GlobalRef, SecOffset}
use Rattle.dw_base.proofs.StartFormLaws.{form-starts}
use Rattle.dw_attrs.specs.UnitValues.{is_leb_form}
use Rattle.dw_base.specs.declared.texts.TextSection.{TextSection}

-- the classes of numbers, and of those in LEB128, that forms have
abbrev pub is_number_class : ValueClass → Bool
is_number_class Signed = false
is_number_class Bytes = false
is_number_class InlineText = false
is_number_class StrOffset = false
is_number_class LineStrOffset = false
is_number_class class = true

abbrev pub is_leb_class : ValueClass → Bool
is_leb_class Address = false
is_leb_class GlobalRef = false
is_leb_class SecOffset = false
is_leb_class class = is_number_class class

abbrev pub is_own_kind : ValueKind → Bool
is_own_kind (number_of class n) = is_number_class class
is_own_kind (leb_number class) = is_leb_class class
is_own_kind k = true

-- a form of a kind is one of numbers in LEB128, or not
abbrev pub leb_by : ValueKind → Bool → Bool
leb_by (number_of class n) leb = not leb
leb_by (text_offset table n) leb = not leb
leb_by (leb_number class) leb = leb
leb_by k leb = true

abbrev row_own : FormRow → Bool
row_own r = is_own_kind r.kind && leb_by r.kind (is_leb_form r.form)

abbrev all_rows : (FormRow → Bool) → List FormRow → Bool
all_rows P [] = true
all_rows P (r ∷ rs) = P r && all_rows P rs

rows_own : (params : Params) → all_rows row_own (form_rows params) ≡ true
unfolding form_rows
rows_own params = refl

rows-own : (rows : List FormRow) (form : ℕ) → all_rows row_own rows ≡ true → (is_own_kind (kind_by rows form) && leb_by (kind_by rows form) (is_leb_form form)) ≡ true
rows-own [] form all = refl
rows-own (r ∷ rs) form all =
    let parts = and_parts (row_own r) (all_rows row_own rs) all in
    by_form (r.form == form) refl parts.0 (rows-own rs form parts.1)
  where
    by_form : (b : Bool) → (r.form == form) ≡ b → row_own r ≡ true → (is_own_kind (kind_by rs form) && leb_by (kind_by rs form) (is_leb_form form)) ≡ true
        → (is_own_kind (cond b r.kind (kind_by rs form)) && leb_by (cond b r.kind (kind_by rs form)) (is_leb_form form)) ≡ true
    by_form true is one rest = subst (λ (f : ℕ). (is_own_kind r.kind && leb_by r.kind (is_leb_form f)) ≡ true) (eqb-true r.form form is) one
    by_form false is one rest = rest

-- numbers of a kind have 1 to 8 bytes
abbrev pub IsSmall : ℕ → Type 0
IsSmall n = (0 < n) × (n ≤ 8)

abbrev pub SmallKind : ValueKind → Type 0
SmallKind (number_of class n) = IsSmall n
SmallKind (text_offset table n) = IsSmall n
SmallKind k = ⊤

abbrev AllSmall : List FormRow → Type 0
AllSmall [] = ⊤
AllSmall (r ∷ rs) = SmallKind r.kind × AllSmall rs

address-small : (n : ℕ) → is_address_size n ≡ true → IsSmall n
address-small n e = by_two (n == 2) refl e
  where
    by_eight : (c : Bool) → (n == 8) ≡ c → c ≡ true → IsSmall n
    by_eight true is e = let same : n ≡ 8 = eqb-true n 8 is in (omega (arith, same), omega (arith, same))
    by_eight false is e = absurd cc

    by_four : (b : Bool) → (n == 4) ≡ b → (b || n == 8) ≡ true → IsSmall n
    by_four true is e = let same : n ≡ 4 = eqb-true n 4 is in (omega (arith, same), omega (arith, same))
    by_four false is e = by_eight (n == 8) refl e

    by_two : (a : Bool) → (n == 2) ≡ a → (a || n == 4 || n == 8) ≡ true → IsSmall n
    by_two true is e = let same : n ≡ 2 = eqb-true n 2 is in (omega (arith, same), omega (arith, same))
    by_two false is e = by_four (n == 4) refl e

width-small : (w : Width) → IsSmall (width_size w)
width-small W32 = (omega arith, omega arith)
width-small W64 = (omega arith, omega arith)

reference-small : (params : Params) → IsSmall params.address → IsSmall (reference_size params)
reference-small params a = by_version (params.version == 2)
  where
    by_version : (b : Bool) → IsSmall (if b then params.address else width_size params.width)
    by_version true = a
    by_version false = width-small params.width

one_small : IsSmall 1
one_small = (omega arith, omega arith)

two_small : IsSmall 2
two_small = (omega arith, omega arith)

three_small : IsSmall 3
three_small = (omega arith, omega arith)

four_small : IsSmall 4
four_small = (omega arith, omega arith)

eight_small : IsSmall 8
eight_small = (omega arith, omega arith)

rows_small : (params : Params) → IsSmall params.address → AllSmall (form_rows params)
unfolding form_rows
rows_small params a =
    let w = width-small params.width in
    let r = reference-small params a in (
      a,
      (
        tt,
        (
          tt,
          (
            two_small,
            (
              four_small,
              (
                eight_small,
                (
                  tt,
                  (
                    tt,
                    (
                      tt,
                      (
                        one_small,
                        (
                          one_small,
                          (
                            tt,
                            (
                              w,
                              (
                                tt,
                                (
                                  r,
                                  (
                                    one_small,
                                    (
                                      two_small,
                                      (
                                        four_small,
                                        (
                                          eight_small,
                                          (
                                            tt,
                                            (
                                              tt,
                                              (
                                                w,
                                                (
                                                  tt,
                                                  (
                                                    tt,
                                                    (
                                                      tt,
                                                      (
                                                        tt,
                                                        (
                                                          tt,
                                                          (
                                                            tt,
                                                            (
                                                              tt,
                                                              (
                                                                w,
                                                                (
                                                                  eight_small,
                                                                  (
                                                                    tt,
                                                                    (
                                                                      tt,
                                                                      (
                                                                        tt,
                                                                        (
                                                                          tt,
                                                                          (
                                                                            one_small,
                                                                            (
                                                                              two_small,
                                                                              (
                                                                                three_small,
                                                                                (
                                                                                  four_small,
                                                                                  (
                                                                                    one_small,
                                                                                    (
                                                                                      two_small,
                                                                                      (
                                                                                        three_small,
                                                                                        (
                                                                                          four_small,
                                                                                          (
                                                                                            tt,
                                                                                            (
                                                                                              tt,
                                                                                              tt,
                                                                                            ),
                                                                                          ),
                                                                                        ),
                                                                                      ),
                                                                                    ),
                                                                                  ),
                                                                                ),
                                                                              ),
                                                                            ),
                                                                          ),
                                                                        ),
                                                                      ),
                                                                    ),
                                                                  ),
                                                                ),
                                                              ),
                                                            ),
                                                          ),
                                                        ),
                                                      ),
                                                    ),
                                                  ),
                                                ),
                                              ),
                                            ),
                                          ),
                                        ),
                                      ),
                                    ),
                                  ),
                                ),
                              ),
                            ),
                          ),
                        ),
                      ),
                    ),
                  ),
                ),
              ),
            ),
          ),
        ),
      ),
    )

rows-small : (rows : List FormRow) (form : ℕ) → AllSmall rows → SmallKind (kind_by rows form)
rows-small [] form all = tt
rows-small (r ∷ rs) form all = by_form (r.form == form) all.0 (rows-small rs form all.1)
  where
    by_form : (b : Bool) → SmallKind r.kind → SmallKind (kind_by rs form) → SmallKind (cond b r.kind (kind_by rs form))
    by_form true one rest = one
    by_form false one rest = rest

-- what is known of a form and its kind
pub record FormFacts (k : ValueKind) (form : ℕ) : Type 0 where
  pub own : is_own_kind k ≡ true
  pub leb : leb_by k (is_leb_form form) ≡ true
  pub small : SmallKind k
  pub starts : can_start k ≡ is_start_form form

pub form-facts : (params : Params) (form : ℕ) → IsTrue (is_address_size params.address) → FormFacts (kind_in params form) form
unfolding kind_in
form-facts params form address =
    let parts = and_parts (is_own_kind (kind_in params form)) (leb_by (kind_in params form) (is_leb_form form)) (rows-own (form_rows params) form (rows_own params)) in
    record {
      own = parts.0;
      leb = parts.1;
      small = rows-small (form_rows params) form (rows_small params (address-small params.address address));
      starts = form-starts params form;
    }

-- of a number of so many bytes, and of one in LEB128
pub number-plain : (class : ValueClass) (n form : ℕ) → FormFacts (number_of class n) form → is_leb_form form ≡ false
number-plain class n form f = by_test (is_leb_form form) f.leb
  where
    by_test : (b : Bool) → not b ≡ true → b ≡ false
    by_test true e = absurd cc
    by_test false e = refl

pub text-plain : (table : TextSection) (n form : ℕ) → FormFacts (text_offset table n) form → is_leb_form form ≡ false
text-plain table n form f = by_test (is_leb_form form) f.leb
  where
    by_test : (b : Bool) → not b ≡ true → b ≡ false
    by_test true e = absurd cc
    by_test false e = refl
