-- One field: it is read where a NUL follows, and its value where it is spelled so.
use Rattle.std.proofs.Common.{◌≡◌, ℕ, ◌+◌, Bool, true, false, ◌||◌, if◌then◌else◌, List, [], ◌∷◌, ◌++◌, length, drop, Option, Some, None, Ok, Err, refl, sym, ap, ◌∙◌, append_assoc}
use Rattle.std.proofs.lemmas.List.{length-append, drop_at}
use Rattle.dw_base.specs.Texts.{has_nul, text}
use Rattle.dw_base.proofs.TextLaws.{text-split, text-append_nul, has_nul-append, has_nul-text}
use Rattle.work_texts.specs.Fields.{Field, text_of}
use Rattle.work_texts.specs.Reading.{Reading, ◌>>=◌, field_at, valued, value_at}
use Rattle.work_texts.proofs.Formats.{bind_ok, bind_err, FailsIn, fails_first, fails_second, ok_is, BadField, IsReader}

-- ---- the field

or_true : (b : Bool) → (b || true) ≡ true
or_true true = refl
or_true false = refl

nul_there : (f behind : List ℕ) → has_nul (f ++ 0 ∷ behind) ≡ true
nul_there f behind = has_nul-append f (0 ∷ behind) ∙ or_true (has_nul f)

drop_past : (f behind : List ℕ) → drop (length f + 1) (f ++ 0 ∷ behind) ≡ behind
drop_past f behind =
    ap (drop (length f + 1)) (sym (append_assoc f (0 ∷ []) behind))
    ∙ drop_at (f ++ 0 ∷ []) behind (length f + 1) (length-append f (0 ∷ []))

-- a field where there is one
abbrev found : List ℕ → ℕ → Bool → Reading Field
found bytes left test = if test then Ok (text bytes, drop (length (text bytes) + 1) bytes) else Err left

field_cases : (bytes : List ℕ) (left : ℕ) (test : Bool) (f rest : List ℕ) → has_nul bytes ≡ test → found bytes left test ≡ Ok (f, rest)
    → (bytes ≡ f ++ 0 ∷ rest) × (has_nul f ≡ false)
field_cases bytes left false f rest h e = absurd cc
field_cases bytes left true f rest h e =
    let p = text-split bytes h in
    let q = ok_is (text bytes, drop (length (text bytes) + 1) bytes) (f, rest) e in
    let f-is : text bytes ≡ f = ap (λ (r : List ℕ × List ℕ). r.0) q in
    let rest-is : drop (length (text bytes) + 1) bytes ≡ rest = ap (λ (r : List ℕ × List ℕ). r.1) q in
    let behind : drop (length (text bytes) + 1) bytes ≡ p.0 = ap (drop (length (text bytes) + 1)) p.1 ∙ drop_past (text bytes) p.0 in
    let left_over : p.0 ≡ rest = sym behind ∙ rest-is in
    (p.1 ∙ ap (λ (t : List ℕ). t ++ 0 ∷ p.0) f-is ∙ ap (λ (r : List ℕ). f ++ 0 ∷ r) left_over, ap has_nul (sym f-is) ∙ has_nul-text bytes)

pub field_takes : (bytes f rest : List ℕ) → field_at bytes ≡ Ok (f, rest) → (bytes ≡ f ++ 0 ∷ rest) × (has_nul f ≡ false)
unfolding field_at
field_takes bytes f rest e = field_cases bytes (length bytes) (has_nul bytes) f rest refl e

pub field_again : (f rest : List ℕ) → has_nul f ≡ false → field_at (f ++ 0 ∷ rest) ≡ Ok (f, rest)
unfolding field_at
field_again f rest bare =
    let there : has_nul (f ++ 0 ∷ rest) ≡ true = nul_there f rest in
    let t : text (f ++ 0 ∷ rest) ≡ f = text-append_nul f rest bare in
    let d : drop (length f + 1) (f ++ 0 ∷ rest) ≡ rest = drop_past f rest in
    rw (there, t, d) refl

missing_cases : (bytes : List ℕ) (left : ℕ) (test : Bool) (d : ℕ) → found bytes left test ≡ Err d → (test ≡ false) × (d ≡ left)
missing_cases bytes left true d e = absurd cc
missing_cases bytes left false d e = (refl, cc)

pub field_missing : (bytes : List ℕ) (left : ℕ) → field_at bytes ≡ Err left → (has_nul bytes ≡ false) × (left ≡ length bytes)
unfolding field_at
field_missing bytes left e = missing_cases bytes (length bytes) (has_nul bytes) left e

-- ---- its value

pub record IsSpelling {X : Type 0} (parse : Field → Option X) (spell : X → Field) (Fits : X → Type 0) : Type 0 where
  pub takes : (f : Field) (x : X) → has_nul f ≡ false → parse f ≡ Some x → (f ≡ spell x) × Fits x
  pub again : (x : X) → Fits x → parse (spell x) ≡ Some x
  pub bare : (x : X) → Fits x → has_nul (spell x) ≡ false
  pub sample : X
  pub fits : Fits sample

valued_ok : {X : Type 0} (left : ℕ) (o : Option X) (behind : List ℕ) (x : X) (rest : List ℕ) → valued left o behind ≡ Ok (x, rest) → (o ≡ Some x) × (behind ≡ rest)
valued_ok left None behind x rest e = absurd cc
valued_ok {X} left (Some y) behind x rest e =
    let q = ok_is (y, behind) (x, rest) e in
    (ap (λ (r : X × List ℕ). Some r.0) q, ap (λ (r : X × List ℕ). r.1) q)

valued_err : {X : Type 0} (left : ℕ) (o : Option X) (behind : List ℕ) (d : ℕ) → valued left o behind ≡ Err d → (o ≡ None) × (d ≡ left)
valued_err left None behind d e = (refl, cc)
valued_err left (Some y) behind d e = absurd cc

value_takes : {X : Type 0} (parse : Field → Option X) (spell : X → Field) (Fits : X → Type 0) → IsSpelling parse spell Fits
    → (bytes : List ℕ) (x : X) (rest : List ℕ) → value_at parse bytes ≡ Ok (x, rest) → (bytes ≡ text_of (spell x ∷ []) ++ rest) × Fits x
unfolding value_at
value_takes parse spell Fits s bytes x rest e =
    let b = bind_ok (field_at bytes) (λ f. valued (length bytes) (parse f.0) f.1) (x, rest) e in
    let t = field_takes bytes b.0.0 b.0.1 b.1 in
    let v = valued_ok (length bytes) (parse b.0.0) b.0.1 x rest b.2 in
    let w = s.takes b.0.0 x t.1 v.0 in
    (t.0 ∙ ap (λ (u : List ℕ). b.0.0 ++ 0 ∷ u) v.1 ∙ ap (λ (f : List ℕ). f ++ 0 ∷ rest) w.0 ∙ sym (append_assoc (spell x) (0 ∷ []) rest), w.1)

value_again : {X : Type 0} (parse : Field → Option X) (spell : X → Field) (Fits : X → Type 0) → IsSpelling parse spell Fits
    → (x : X) (rest : List ℕ) → Fits x → value_at parse (spell x ++ 0 ∷ rest) ≡ Ok (x, rest)
unfolding value_at
value_again {X} parse spell Fits s x rest fit =
    let bytes : List ℕ = spell x ++ 0 ∷ rest in
    let one = field_again (spell x) rest (s.bare x fit) in
    ap (λ (m : Reading Field). m >>= λ f. valued (length bytes) (parse f.0) f.1) one
    ∙ ap (λ (o : Option X). valued (length bytes) o rest) (s.again x fit)

value_missing : {X : Type 0} (parse : Field → Option X) (spell : X → Field) (Fits : X → Type 0) → IsSpelling parse spell Fits
    → (bytes : List ℕ) (left : ℕ) → left ≡ length bytes
    → ((f later : List ℕ) (x : X) → bytes ≡ f ++ 0 ∷ later → Fits x → f ≡ spell x → ⊥) → BadField (λ x. spell x ∷ []) Fits bytes left
value_missing parse spell Fits s bytes left is never = record {
  good = [];
  bad = bytes;
  parts = refl;
  left_is = is;
  begins = (s.sample, spell s.sample ∷ [], s.fits, refl);
  no_field = λ f later h x more fit e. let same : f ≡ spell x = cc in never f later x h fit same;
}

value_bad : {X : Type 0} (parse : Field → Option X) (spell : X → Field) (Fits : X → Type 0) → IsSpelling parse spell Fits
    → (bytes : List ℕ) (left : ℕ) → FailsIn (field_at bytes) (λ f. valued (length bytes) (parse f.0) f.1) left → BadField (λ x. spell x ∷ []) Fits bytes left
value_bad parse spell Fits s bytes left (fails_first h) =
    let m = field_missing bytes left h in
    value_missing parse spell Fits s bytes left m.1 (λ f later x e fit same.
    let there : has_nul bytes ≡ true = ap has_nul e ∙ nul_there f later in
    let never : true ≡ false = sym there ∙ m.0 in
    absurd (cc never))
value_bad {X} parse spell Fits s bytes left (fails_second a h g) =
    let v = valued_err (length bytes) (parse a.0) a.1 left g in
    value_missing parse spell Fits s bytes left v.1 (λ f later x e fit same.
    let bare : has_nul f ≡ false = ap has_nul same ∙ s.bare x fit in
    let reads : field_at bytes ≡ Ok (f, later) = ap field_at e ∙ field_again f later bare in
    let q = ok_is a (f, later) (sym h ∙ reads) in
    let is : a.0 ≡ spell x = ap (λ (r : Field × List ℕ). r.0) q ∙ same in
    let some : parse a.0 ≡ Some x = ap parse is ∙ s.again x fit in
    let never : None ≡ Some x = sym v.0 ∙ some in
    absurd (cc never))

pub value_reader : {X : Type 0} (parse : Field → Option X) (spell : X → Field) (Fits : X → Type 0) → IsSpelling parse spell Fits → IsReader (λ x. spell x ∷ []) Fits (value_at parse)
unfolding value_at
value_reader parse spell Fits s = record {
  takes = λ bytes x rest e. value_takes parse spell Fits s bytes x rest e;
  again = λ x rest fit. ap (value_at parse) (append_assoc (spell x) (0 ∷ []) rest) ∙ value_again parse spell Fits s x rest fit;
  bad = λ bytes left e. value_bad parse spell Fits s bytes left (bind_err (field_at bytes) (λ f. valued (length bytes) (parse f.0) f.1) left e);
  bare = λ x fit. (s.bare x fit, tt);
  sample = s.sample;
  fits = s.fits;
}
