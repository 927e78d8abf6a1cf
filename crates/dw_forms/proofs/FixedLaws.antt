-- Laws of forms whose values take as many bytes everywhere.
use Rattle.std.proofs.Common.{◌≡◌, ℕ, ℤ, zero, suc, ◌+◌, ◌*◌, ◌^◌, ◌<◌, ◌≤◌, ◌==◌, Bool, true, false, if◌then◌else◌, nat_le, List, [], ◌∷◌, ◌++◌, length, take, drop, get_or, Option, Some, None, IfSome, IsTrue, refl, sym, ap, ◌∙◌, arith, subst}
use Rattle.std.proofs.Math.Nat.{add-mul}
use Rattle.std.proofs.Math.Seq.{drop-cons}
use Rattle.std.proofs.lemmas.List.{take_more, take-append-drop}
use Rattle.dw_base.specs.Forms.{ValueKind, number_of, leb_number, signed_leb, block_of, counted, counted_leb, inline_text, text_offset, present, in_abbreviation, form_in_front, supplementary, unlisted, kind_in, reference_size, width_size}
use Rattle.dw_base.specs.Values.{block_value, offset_class, signed_bits, value_of, value_size}
use Rattle.dw_base.specs.declared.shared.Order.{Order}
use Rattle.dw_base.specs.declared.shared.Params.{Params}
use Rattle.dw_base.specs.declared.shared.Width.{Width}
use Rattle.dw_base.specs.declared.shared.Width.TheVariants.{W32, W64}
use Rattle.dw_base.specs.declared.values.Spec.{Spec}
use Rattle.dw_base.specs.declared.values.ValueClass.TheVariants.{Bytes, Flag, Signed}
use Rattle.dw_base.specs.UnitHeaders.{is_address_size}
use Rattle.dw_forms.specs.Fixed.{added, Adds, AddsNone, bytes_in, field_parts, fixed_parts, fixed_size, HasNoSize, IsFixedSize, IsSizeOf, values_size}
use Rattle.dw_forms.specs.Kinds.{as_kind, field_size}
use Rattle.dw_forms.specs.declared.fixed.FixedSize.{FixedSize}
use Rattle.dw_forms.specs.declared.kinds.FieldSize.{FieldSize}
use Rattle.dw_forms.specs.declared.kinds.FieldSize.TheVariants.{Bytes as ByteField, Address, Offset, Reference}
use Rattle.dw_forms.specs.declared.kinds.FormKind.{FormKind}
use Rattle.dw_forms.specs.declared.kinds.FormKind.TheVariants.{Number, LebNumber, SignedLeb, Block, Counted, CountedLeb, InlineText, StrOffset, LineStrOffset, Present, InAbbreviation, FormInFront, Supplementary, Unlisted}
use Rattle.dw_forms.specs.Reads.{room_size}
use Rattle.dw_forms.proofs.KindLaws.{own-value}
use Rattle.dw_forms.proofs.ReadLaws.{bare-size, number-size}

-- a block without a count
block-cases : (at n : ℕ) (test : Bool) → value_size (if test then Some (record { class = Bytes; number = 0; at = at + 0; len = n; size = 0 + n }) else None) ≡ (if test then Some n else None)
block-cases at n true = ap (λ (m : ℕ). Some m) (omega arith)
block-cases at n false = refl

block-size : (bytes : List ℕ) (at n : ℕ) → value_size (block_value bytes at 0 n) ≡ room_size bytes at n
block-size bytes at n =
    let place : at + 0 + n ≡ at + n = omega arith in
    block-cases at n (nat_le (at + 0 + n) (length bytes)) ∙ ap (λ (m : ℕ). if nat_le m (length bytes) then Some n else None) place

some-once : (m n : ℕ) → Some m ≡ Some n → m ≡ n
some-once m n e = cc

moved : (bytes : List ℕ) (at m n : ℕ) (o : Option ℕ) → o ≡ room_size bytes at m → Some m ≡ Some n → o ≡ room_size bytes at n
moved bytes at m n o e s = e ∙ ap (λ (k : ℕ). room_size bytes at k) (some-once m n s)

fixed-kind : (k : ValueKind) (order : Order) (bytes : List ℕ) (at : ℕ) (implicit : ℤ) (n : ℕ) → fixed_size k ≡ Some n → value_size (value_of k order bytes at implicit) ≡ room_size bytes at n
unfolding value_of
fixed-kind (number_of class m) order bytes at implicit n e = moved bytes at m n _ (number-size class order bytes at m) e
fixed-kind (block_of m) order bytes at implicit n e = moved bytes at m n _ (block-size bytes at m) e
fixed-kind (text_offset table m) order bytes at implicit n e = moved bytes at m n _ (number-size (offset_class table) order bytes at m) e
fixed-kind present order bytes at implicit n e = moved bytes at 0 n _ (bare-size bytes at Flag 1) e
fixed-kind in_abbreviation order bytes at implicit n e = moved bytes at 0 n _ (bare-size bytes at Signed (signed_bits implicit)) e
fixed-kind (leb_number class) order bytes at implicit n e = cc
fixed-kind signed_leb order bytes at implicit n e = cc
fixed-kind (counted m) order bytes at implicit n e = cc
fixed-kind counted_leb order bytes at implicit n e = cc
fixed-kind inline_text order bytes at implicit n e = cc
fixed-kind form_in_front order bytes at implicit n e = cc
fixed-kind supplementary order bytes at implicit n e = cc
fixed-kind unlisted order bytes at implicit n e = cc

-- a kind with a size is none of a form in front
not-front : (k : ValueKind) (n : ℕ) → fixed_size k ≡ Some n → k ≡ form_in_front → ⊥
not-front k n e f = let none : fixed_size form_in_front ≡ Some n = subst (λ (j : ValueKind). fixed_size j ≡ Some n) f e in cc

pub fixed-is : (params : Params) (spec : Spec) (n : ℕ) → fixed_size (kind_in params spec.form) ≡ Some n → IsFixedSize params spec n
fixed-is params spec n e = record {
  size = λ bytes at.
      ap value_size (own-value params spec bytes at (kind_in params spec.form) refl (not-front (kind_in params spec.form) n e))
      ∙ fixed-kind (kind_in params spec.form) params.order bytes at spec.implicit n e;
}

-- the size of a field, and of each value of a kind, by what it depends on
parts-field : (params : Params) (size : FieldSize) → bytes_in params (field_parts size) ≡ field_size params size
parts-field params (ByteField n) = omega arith
parts-field params Address = omega arith
parts-field params Offset = omega arith
parts-field params Reference = omega arith

abbrev size_in : Params → Option FixedSize → Option ℕ
size_in params None = None
size_in params (Some s) = Some (bytes_in params s)

parts-kind : (params : Params) (k : FormKind) → fixed_size (as_kind params k) ≡ size_in params (fixed_parts k)
parts-kind params (Number class size) = ap Some (sym (parts-field params size))
parts-kind params (Block n) = ap Some (sym (parts-field params (ByteField n)))
parts-kind params StrOffset = ap Some (sym (parts-field params Offset))
parts-kind params LineStrOffset = ap Some (sym (parts-field params Offset))
parts-kind params Present = ap Some (sym (parts-field params (ByteField 0)))
parts-kind params InAbbreviation = ap Some (sym (parts-field params (ByteField 0)))
parts-kind params (LebNumber class) = refl
parts-kind params SignedLeb = refl
parts-kind params (Counted n) = refl
parts-kind params CountedLeb = refl
parts-kind params InlineText = refl
parts-kind params FormInFront = refl
parts-kind params Supplementary = refl
parts-kind params Unlisted = refl

parts-form : (params : Params) (form : ℕ) (k : FormKind) (o : Option FixedSize) → as_kind params k ≡ kind_in params form → o ≡ fixed_parts k
    → fixed_size (kind_in params form) ≡ size_in params o
parts-form params form k o e f = ap fixed_size (sym e) ∙ parts-kind params k ∙ ap (size_in params) (sym f)

pub form-size : (params : Params) (form : ℕ) (k : FormKind) (s : FixedSize) (n : ℕ) → as_kind params k ≡ kind_in params form → Some s ≡ fixed_parts k → n ≡ bytes_in params s
    → Some n ≡ fixed_size (kind_in params form)
form-size params form k s n e f is = ap Some is ∙ sym (parts-form params form k (Some s) e f)

pub form-fixed : (params : Params) (spec : Spec) (k : FormKind) (s : FixedSize) (n : ℕ) → as_kind params k ≡ kind_in params spec.form → Some s ≡ fixed_parts k
    → n ≡ bytes_in params s → IsFixedSize params spec n
form-fixed params spec k s n e f is = fixed-is params spec n (sym (form-size params spec.form k s n e f is))

pub form-none : (params : Params) (form : ℕ) (k : FormKind) → as_kind params k ≡ kind_in params form → None ≡ fixed_parts k → None ≡ fixed_size (kind_in params form)
form-none params form k e f = sym (parts-form params form k None e f)

-- one value more
sum-bytes : (params : Params) (a b : FixedSize)
    → bytes_in params a + bytes_in params b
    ≡ bytes_in params (record { bytes = a.bytes + b.bytes; addresses = a.addresses + b.addresses; offsets = a.offsets + b.offsets; references = a.references + b.references })
sum-bytes params a b =
    let addresses = add-mul a.addresses b.addresses params.address in
    let offsets = add-mul a.offsets b.offsets (width_size params.width) in
    let references = add-mul a.references b.references (reference_size params) in
    omega (arith, addresses, offsets, references)

pub form-adds : (form : ℕ) (k : FormKind) (a b s : FixedSize) → ((params : Params) → as_kind params k ≡ kind_in params form) → Some b ≡ fixed_parts k
    → s ≡ record { bytes = a.bytes + b.bytes; addresses = a.addresses + b.addresses; offsets = a.offsets + b.offsets; references = a.references + b.references } → Adds a form s
form-adds form k a b s e f is = record {
  in_unit = λ params.
      ap (added (Some (bytes_in params a))) (parts-form params form k (Some b) (e params) f)
      ∙ ap Some (sum-bytes params a b ∙ ap (bytes_in params) (sym is));
}

none-added : (m : ℕ) (o : Option ℕ) → o ≡ None → IfSome (added (Some m) o) (λ n. 2 ^ 32 ≤ n)
none-added m None e = tt
none-added m (Some n) e = absurd cc

pub form-adds-none : (form : ℕ) (k : FormKind) (a : FixedSize) → ((params : Params) → as_kind params k ≡ kind_in params form) → None ≡ fixed_parts k → AddsNone a form
form-adds-none form k a e f = record { in_unit = λ params address. none-added (bytes_in params a) _ (parts-form params form k None (e params) f) }

-- a product with a size isn't less
size-some : (width : Width) → 1 ≤ width_size width
size-some W32 = omega arith
size-some W64 = omega arith

address-some : (n : ℕ) → IsTrue (is_address_size n) → 1 ≤ n
address-some zero e = absurd cc
address-some (suc n) e = omega arith

reference-some : (params : Params) → IsTrue (is_address_size params.address) → 1 ≤ reference_size params
reference-some params e = by_version (params.version == 2)
  where
    by_version : (b : Bool) → 1 ≤ (if b then params.address else width_size params.width)
    by_version true = address-some params.address e
    by_version false = size-some params.width

grows : (n k : ℕ) → 1 ≤ k → n ≤ n * k
grows n zero le = absurd (omega arith)
grows n (suc k) le = omega arith

large-added : (params : Params) (a b : FixedSize) (o : Option ℕ) → IsTrue (is_address_size params.address)
    → 2 ^ 32 ≤ a.bytes + b.bytes + (a.addresses + b.addresses) + (a.offsets + b.offsets) + (a.references + b.references)
    → o ≡ Some (bytes_in params b) → IfSome (added (Some (bytes_in params a)) o) (λ n. 2 ^ 32 ≤ n)
large-added params a b None address large e = absurd cc
large-added params a b (Some n) address large e =
    let some = address-some params.address address in
    let wide = size-some params.width in
    let far = reference-some params address in
    let is : n ≡ bytes_in params b = cc in
    omega (
      arith,
      large,
      is,
      grows a.addresses params.address some,
      grows b.addresses params.address some,
      grows a.offsets (width_size params.width) wide,
      grows b.offsets (width_size params.width) wide,
      grows a.references (reference_size params) far,
      grows b.references (reference_size params) far,
    )

pub form-large : (form : ℕ) (k : FormKind) (a b : FixedSize) → ((params : Params) → as_kind params k ≡ kind_in params form) → Some b ≡ fixed_parts k
    → 2 ^ 32 ≤ a.bytes + b.bytes + (a.addresses + b.addresses) + (a.offsets + b.offsets) + (a.references + b.references) → AddsNone a form
form-large form k a b e f large =
    record { in_unit = λ params address. large-added params a b _ address large (parts-form params form k (Some b) (e params) f) }

-- the size of attributes, one after another
added-assoc : (a b c : Option ℕ) → added a (added b c) ≡ added (added a b) c
added-assoc None b c = refl
added-assoc (Some l) None c = refl
added-assoc (Some l) (Some m) None = refl
added-assoc (Some l) (Some m) (Some n) = ap Some (omega arith)

added-zero : (a : Option ℕ) → added a (Some 0) ≡ added (Some 0) a
added-zero None = refl
added-zero (Some n) = ap Some (omega arith)

one-size : (a : Option ℕ) → added (Some 0) a ≡ a
one-size None = refl
one-size (Some n) = ap Some (omega arith)

values_size-append : (params : Params) (xs ys : List Spec) → values_size params (xs ++ ys) ≡ added (values_size params xs) (values_size params ys)
values_size-append params [] ys = sym (one-size (values_size params ys))
values_size-append params (x ∷ xs) ys =
    ap (added (fixed_size (kind_in params x.form))) (values_size-append params xs ys)
    ∙ added-assoc (fixed_size (kind_in params x.form)) (values_size params xs) (values_size params ys)

values_size-more : (params : Params) (xs : List Spec) (i : ℕ) (d : Spec) → i < length xs
    → values_size params (take (i + 1) xs) ≡ added (values_size params (take i xs)) (fixed_size (kind_in params (get_or xs i d).form))
values_size-more params xs i d lt =
    ap (values_size params) (take_more xs i d lt) ∙ values_size-append params (take i xs) (get_or xs i d ∷ [])
    ∙ ap (added (values_size params (take i xs))) (added-zero (fixed_size (kind_in params (get_or xs i d).form)) ∙ one-size _)

nothing-size : (params : Params) → 0 ≡ bytes_in params (record { bytes = 0; addresses = 0; offsets = 0; references = 0 })
nothing-size params = omega arith

pub size-starts : (s : FixedSize) → s ≡ record { bytes = 0; addresses = 0; offsets = 0; references = 0 } → IsSizeOf [] s
size-starts s e = record { in_unit = λ params. ap Some (nothing-size params ∙ sym (ap (bytes_in params) e)) }

pub size-more : (xs : List Spec) (i : ℕ) (d : Spec) (a b : FixedSize) → IsSizeOf (take i xs) a → Adds a (get_or xs i d).form b → i < length xs → IsSizeOf (take (i + 1) xs) b
size-more xs i d a b s m lt = record {
  in_unit = λ params.
      values_size-more params xs i d lt
      ∙ ap (λ (o : Option ℕ). added o (fixed_size (kind_in params (get_or xs i d).form))) (s.in_unit params) ∙ m.in_unit params;
}

rest-large : (a b : Option ℕ) → IfSome a (λ n. 2 ^ 32 ≤ n) → IfSome (added a b) (λ n. 2 ^ 32 ≤ n)
rest-large None b h = tt
rest-large (Some m) None h = tt
rest-large (Some m) (Some n) h = omega (arith, h)

pub size-none : (xs : List Spec) (i : ℕ) (d : Spec) (a : FixedSize) → IsSizeOf (take i xs) a → AddsNone a (get_or xs i d).form → i < length xs → HasNoSize xs
size-none xs i d a s m lt = record {
  in_unit = λ params address.
      (let front = subst (λ (o : Option ℕ). IfSome o (λ n. 2 ^ 32 ≤ n))
      (sym (values_size-more params xs i d lt
      ∙ ap (λ (o : Option ℕ). added o (fixed_size (kind_in params (get_or xs i d).form))) (s.in_unit params))) (m.in_unit params address) in
      subst (λ (o : Option ℕ). IfSome o (λ n. 2 ^ 32 ≤ n))
      (sym (values_size-append params (take (i + 1) xs) (drop (i + 1) xs)) ∙ ap (values_size params) (take-append-drop (i + 1) xs))
      (rest-large (values_size params (take (i + 1) xs)) (values_size params (drop (i + 1) xs)) front));
}

-- the size of attributes from one on, by that of those behind it
added-turned : (a b : Option ℕ) → added a b ≡ added b a
added-turned None None = refl
added-turned None (Some n) = refl
added-turned (Some m) None = refl
added-turned (Some m) (Some n) = ap Some (omega arith)

values_size-front : (params : Params) (xs : List Spec) (i : ℕ) (d : Spec) → i < length xs
    → values_size params (drop i xs) ≡ added (values_size params (drop (i + 1) xs)) (fixed_size (kind_in params (get_or xs i d).form))
values_size-front params xs i d lt =
    let next : suc i ≡ i + 1 = omega arith in
    ap (values_size params) (drop-cons xs i d lt ∙ ap (λ (m : ℕ). get_or xs i d ∷ drop m xs) next)
    ∙ added-turned (fixed_size (kind_in params (get_or xs i d).form)) (values_size params (drop (i + 1) xs))

pub size-front : (xs : List Spec) (i : ℕ) (x : Spec) (a b : FixedSize) → IsSizeOf (drop (i + 1) xs) a → x ≡ get_or xs i x → Adds a x.form b → i < length xs → IsSizeOf (drop i xs) b
size-front xs i x a b s is m lt = record {
  in_unit = λ params.
      values_size-front params xs i x lt
      ∙ ap (λ (o : Option ℕ). added o (fixed_size (kind_in params (get_or xs i x).form))) (s.in_unit params)
      ∙ ap (λ (y : Spec). added (Some (bytes_in params a)) (fixed_size (kind_in params y.form))) (sym is) ∙ m.in_unit params;
}

pub size-front-none : (xs : List Spec) (i : ℕ) (x : Spec) (a : FixedSize) → IsSizeOf (drop (i + 1) xs) a → x ≡ get_or xs i x → AddsNone a x.form → i < length xs → HasNoSize (drop i xs)
size-front-none xs i x a s is m lt = record {
  in_unit = λ params address.
      subst (λ (o : Option ℕ). IfSome o (λ n. 2 ^ 32 ≤ n))
      (sym (values_size-front params xs i x lt
      ∙ ap (λ (o : Option ℕ). added o (fixed_size (kind_in params (get_or xs i x).form))) (s.in_unit params)
      ∙ ap (λ (y : Spec). added (Some (bytes_in params a)) (fixed_size (kind_in params y.form))) (sym is))) (m.in_unit params address);
}

pub none-front : (xs : List Spec) (i : ℕ) → HasNoSize (drop (i + 1) xs) → i < length xs → HasNoSize (drop i xs)
none-front [] i h lt = absurd (omega (arith, lt))
none-front (x ∷ xs) i h lt = record {
  in_unit = λ params address.
      subst (λ (o : Option ℕ). IfSome o (λ n. 2 ^ 32 ≤ n)) (sym (values_size-front params (x ∷ xs) i x lt))
      (rest-large (values_size params (drop (i + 1) (x ∷ xs))) (fixed_size (kind_in params (get_or (x ∷ xs) i x).form)) (h.in_unit params address));
}

pub ruleset fixed_laws = (form-fixed, form-size, form-none)

pub ruleset form_laws = (form-adds, form-adds-none, form-large)

pub ruleset list_laws = (size-starts, size-more, size-none)

pub ruleset before_laws = (size-front, size-front-none, none-front)
