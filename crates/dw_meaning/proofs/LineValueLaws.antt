-- A value of a column that isn't a text is read alike at two places at which the same bytes stand.
use Rattle.std.proofs.Common.{Bool, true, false, ◌≡◌, ◌⊎◌, inl, inr, ℕ, ◌+◌, ◌≤◌, ◌==◌, ◌||◌, List, length, Option, Some, None, refl, sym, ap, ◌∙◌, subst, arith, if◌then◌else◌}
use Rattle.std.specs.Prelude.{nat_le, ⊤}
use Rattle.std.proofs.lemmas.Bool.{eqb-true, le-leb}
use Rattle.dw_base.specs.Forms.{ValueKind, number_of, leb_number, block_of, counted_leb, form_rows, kind_in}
use Rattle.dw_base.specs.LineFormats.{is_text_form, is_index_form, is_column_form, is_column}
use Rattle.dw_base.specs.Lebs.{uleb_at}
use Rattle.dw_base.specs.Numbers.{spelled, number_at}
use Rattle.dw_base.specs.Values.{value_of, value_by, value_at, number_value, leb_value_at, block_value, counted_leb_value}
use Rattle.dw_base.specs.declared.dwarf_numbers.TheConstants.{DW_FORM_string, DW_FORM_strp, DW_FORM_line_strp, DW_FORM_udata, DW_FORM_data1, DW_FORM_data2, DW_FORM_data4, DW_FORM_data8, DW_FORM_data16, DW_FORM_block}
use Rattle.dw_base.specs.declared.line_numbers.TheConstants.{DW_LNCT_path, DW_LNCT_directory_index}
use Rattle.dw_base.specs.declared.shared.Order.{Order}
use Rattle.dw_base.specs.declared.shared.Params.{Params}
use Rattle.dw_base.specs.declared.values.Spec.{Spec}
use Rattle.dw_base.specs.declared.values.Value.{Value}
use Rattle.dw_base.specs.declared.values.ValueClass.{ValueClass}
use Rattle.dw_base.specs.declared.values.ValueClass.TheVariants.{Bytes}
use Rattle.dw_meaning.proofs.ValueCutLaws.{value_of-own}
use Rattle.dw_meaning.proofs.LineReadLaws.{Both, uleb-both, spelled-both, if-some, some-same}

-- the kinds of such values
abbrev pub PlainKind : ValueKind → Type 0
PlainKind (number_of class n) = ⊤
PlainKind (leb_number class) = ⊤
PlainKind (block_of n) = ⊤
PlainKind counted_leb = ⊤
PlainKind k = ⊥

plain-is : (params : Params) (form other : ℕ) → (form == other) ≡ true → PlainKind (kind_in params other) → PlainKind (kind_in params form)
plain-is params form other e plain = subst (λ (n : ℕ). PlainKind (kind_in params n)) (sym (eqb-true form other e)) plain

or-split : (a b : Bool) → (a || b) ≡ true → (a ≡ true) ⊎ (b ≡ true)
or-split true b e = inl refl
or-split false b e = inr e

index-plain : (params : Params) (form : ℕ) → is_index_form form ≡ true → PlainKind (kind_in params form)
unfolding kind_in form_rows
index-plain params form e = elim (or-split _ (form == DW_FORM_data8) e) [
  | inr f ↦ plain-is params form DW_FORM_data8 f tt
  | inl e1 ↦ elim (or-split _ (form == DW_FORM_data4) e1) [
    | inr f ↦ plain-is params form DW_FORM_data4 f tt
    | inl e2 ↦ elim (or-split _ (form == DW_FORM_data2) e2) [
      | inr f ↦ plain-is params form DW_FORM_data2 f tt
      | inl e3 ↦ elim (or-split (form == DW_FORM_udata) (form == DW_FORM_data1) e3) [
        | inr f ↦ plain-is params form DW_FORM_data1 f tt
        | inl f ↦ plain-is params form DW_FORM_udata f tt
      ]
    ]
  ]
]

no-text : (form : ℕ) → (form == DW_FORM_string) ≡ false → (form == DW_FORM_strp) ≡ false → (form == DW_FORM_line_strp) ≡ false → is_text_form form ≡ true → ⊥
no-text form a b c e = clash (sym (ap (λ (x : Bool). x || form == DW_FORM_strp || form == DW_FORM_line_strp) a ∙ ap (λ (x : Bool). false || x || form == DW_FORM_line_strp) b ∙ c) ∙ e)
  where
    clash : false ≡ true → ⊥
    clash f = cc

any-plain : (params : Params) (form : ℕ) → (form == DW_FORM_string) ≡ false → (form == DW_FORM_strp) ≡ false → (form == DW_FORM_line_strp) ≡ false → is_column_form form ≡ true
    → PlainKind (kind_in params form)
unfolding kind_in form_rows
any-plain params form a b c e = elim (or-split _ (form == DW_FORM_block) e) [
  | inr f ↦ plain-is params form DW_FORM_block f tt
  | inl e1 ↦ elim (or-split _ (form == DW_FORM_data16) e1) [
    | inr f ↦ plain-is params form DW_FORM_data16 f tt
    | inl e2 ↦ elim (or-split (is_text_form form) (is_index_form form) e2) [
      | inl f ↦ absurd (no-text form a b c f)
      | inr f ↦ index-plain params form f
    ]
  ]
]

pub column-plain : (params : Params) (spec : Spec) → (spec.form == DW_FORM_string) ≡ false → (spec.form == DW_FORM_strp) ≡ false → (spec.form == DW_FORM_line_strp) ≡ false
    → is_column spec ≡ true → PlainKind (kind_in params spec.form)
unfolding is_column
column-plain params spec a b c e = by_name (spec.name == DW_LNCT_path) (spec.name == DW_LNCT_directory_index) e
  where
    by_name : (x y : Bool) → (if x then is_text_form spec.form else (if y then is_index_form spec.form else is_column_form spec.form)) ≡ true → PlainKind (kind_in params spec.form)
    by_name true y e = absurd (no-text spec.form a b c e)
    by_name false true e = index-plain params spec.form e
    by_name false false e = any-plain params spec.form a b c e

-- a value that is read elsewhere
pub record ValueBoth (o : Option Value) (v : Value) : Type 0 where
  pub value : Value
  pub is : o ≡ Some value
  pub number : value.number ≡ v.number
  pub size : value.size ≡ v.size

number-both : (class : ValueClass) (n : ℕ) (o : Order) (old new xs : List ℕ) (p q : ℕ) (v : Value) → Both old new xs p q → number_value class p n (number_at o old p n) ≡ Some v
    → v.size ≤ length xs → ValueBoth (number_value class q n (number_at o new q n)) v
unfolding number_at
number-both class n o old new xs p q v b e le = by_room (nat_le (p + n) (length old)) e
  where
    by_room : (t : Bool) → number_value class p n (if t then Some (spelled o old p n) else None) ≡ Some v
        → ValueBoth (number_value class q n (if nat_le (q + n) (length new) then Some (spelled o new q n) else None)) v
    by_room false e = absurd cc
    by_room true e =
        let same : record { class = class; number = spelled o old p n; at = p; len = n; size = n } ≡ v = some-same _ v e in
        let size : n ≡ v.size = ap (λ (x : Value). x.size) same in
        let inside = b.is.inside in
        record {
          value = record { class = class; number = spelled o new q n; at = q; len = n; size = n };
          is = rw (le-leb (q + n) (length new) (omega (arith, inside, size, le))) refl;
          number = spelled-both o old new xs p q n b (omega (arith, size, le)) ∙ ap (λ (x : Value). x.number) same;
          size = size;
        }

leb-both : (class : ValueClass) (old new xs : List ℕ) (p q : ℕ) (v : Value) → Both old new xs p q → leb_value_at class p (uleb_at old p) ≡ Some v → v.size ≤ length xs
    → ValueBoth (leb_value_at class q (uleb_at new q)) v
leb-both class old new xs p q v b e le = by_read (uleb_at old p) refl e
  where
    by_read : (o : Option (ℕ × ℕ)) → uleb_at old p ≡ o → leb_value_at class p o ≡ Some v → ValueBoth (leb_value_at class q (uleb_at new q)) v
    by_read None is e = absurd cc
    by_read (Some (x, n)) is e =
        let same : record { class = class; number = x; at = p; len = n; size = n } ≡ v = some-same _ v e in
        let size : n ≡ v.size = ap (λ (y : Value). y.size) same in
        let there : uleb_at new q ≡ Some (x, n) = uleb-both old new xs p q x n b is (omega (arith, size, le)) in
        record {
          value = record { class = class; number = x; at = q; len = n; size = n };
          is = ap (leb_value_at class q) there;
          number = ap (λ (y : Value). y.number) same;
          size = size;
        }

block-both : (old new xs : List ℕ) (p q front n : ℕ) (v : Value) → Both old new xs p q → block_value old p front n ≡ Some v → v.size ≤ length xs
    → ValueBoth (block_value new q front n) v
block-both old new xs p q front n v b e le = by_room (nat_le (p + front + n) (length old)) e
  where
    by_room : (t : Bool) → (if t then Some (record { class = Bytes; number = 0; at = p + front; len = n; size = front + n }) else None) ≡ Some v → ValueBoth (block_value new q front n) v
    by_room false e = absurd cc
    by_room true e =
        let same : record { class = Bytes; number = 0; at = p + front; len = n; size = front + n } ≡ v = some-same _ v e in
        let size : front + n ≡ v.size = ap (λ (y : Value). y.size) same in
        let inside = b.is.inside in
        record {
          value = record { class = Bytes; number = 0; at = q + front; len = n; size = front + n };
          is = rw (le-leb (q + front + n) (length new) (omega (arith, inside, size, le))) refl;
          number = ap (λ (y : Value). y.number) same;
          size = size;
        }

counted-both : (old new xs : List ℕ) (p q : ℕ) (v : Value) → Both old new xs p q → counted_leb_value old p (uleb_at old p) ≡ Some v → v.size ≤ length xs
    → ValueBoth (counted_leb_value new q (uleb_at new q)) v
counted-both old new xs p q v b e le = by_read (uleb_at old p) refl e
  where
    size-of : (front n : ℕ) → block_value old p front n ≡ Some v → front ≤ v.size
    size-of front n e =
        let both = if-some (nat_le (p + front + n) (length old)) (Some (record { class = Bytes; number = 0; at = p + front; len = n; size = front + n })) v e in
        let size : front + n ≡ v.size = ap (λ (y : Value). y.size) (some-same _ v both.1) in
        omega (arith, size)

    by_read : (o : Option (ℕ × ℕ)) → uleb_at old p ≡ o → counted_leb_value old p o ≡ Some v → ValueBoth (counted_leb_value new q (uleb_at new q)) v
    by_read None is e = absurd cc
    by_read (Some (x, n)) is e =
        let there : uleb_at new q ≡ Some (x, n) = uleb-both old new xs p q x n b is (omega (arith, size-of n x e, le)) in
        subst (λ (o : Option (ℕ × ℕ)). ValueBoth (counted_leb_value new q o) v) (sym there) (block-both old new xs p q n x v b e le)

kind-both : (k : ValueKind) (params : Params) (spec : Spec) (old new xs : List ℕ) (p q : ℕ) (v : Value) → PlainKind k → Both old new xs p q
    → value_by k params spec old p ≡ Some v → v.size ≤ length xs → ValueBoth (value_by k params spec new q) v
unfolding value_of
kind-both (number_of class n) params spec old new xs p q v plain b e le = number-both class n params.order old new xs p q v b e le
kind-both (leb_number class) params spec old new xs p q v plain b e le = leb-both class old new xs p q v b e le
kind-both (block_of n) params spec old new xs p q v plain b e le = block-both old new xs p q 0 n v b e le
kind-both counted_leb params spec old new xs p q v plain b e le = counted-both old new xs p q v b e le
kind-both k params spec old new xs p q v plain b e le = absurd plain

pub value-both : (params : Params) (spec : Spec) (old new xs : List ℕ) (p q : ℕ) (v : Value) → PlainKind (kind_in params spec.form) → Both old new xs p q
    → value_at params spec old p ≡ Some v → v.size ≤ length xs → ValueBoth (value_at params spec new q) v
unfolding value_at
value-both params spec old new xs p q v plain b e le = kind-both (kind_in params spec.form) params spec old new xs p q v plain b e le

-- and lies in the bytes
kind-in : (k : ValueKind) (params : Params) (spec : Spec) (bs : List ℕ) (p : ℕ) (v : Value) → PlainKind k → value_by k params spec bs p ≡ Some v → p + v.size ≤ length bs
kind-in (number_of class n) params spec bs p v plain e = (value_of-own (number_of class n) params.order bs p spec.implicit v e).inside
kind-in (leb_number class) params spec bs p v plain e = (value_of-own (leb_number class) params.order bs p spec.implicit v e).inside
kind-in (block_of n) params spec bs p v plain e = (value_of-own (block_of n) params.order bs p spec.implicit v e).inside
kind-in counted_leb params spec bs p v plain e = (value_of-own counted_leb params.order bs p spec.implicit v e).inside
kind-in k params spec bs p v plain e = absurd plain

pub value-in : (params : Params) (spec : Spec) (bs : List ℕ) (p : ℕ) (v : Value) → PlainKind (kind_in params spec.form) → value_at params spec bs p ≡ Some v → p + v.size ≤ length bs
unfolding value_at
value-in params spec bs p v plain e = kind-in (kind_in params spec.form) params spec bs p v plain e
