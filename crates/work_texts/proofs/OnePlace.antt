-- A text has one first bad field, and none where it is whole.
use Rattle.std.proofs.Common.{◌≡◌, ℕ, ◌<◌, ◌≤◌, inl, inr, List, [], ◌∷◌, ◌++◌, length, refl, sym, ap, subst, ◌∙◌, append_assoc, arith}
use Rattle.std.proofs.lemmas.List.{append-nil}
use Rattle.work_texts.specs.Fields.{Field, text_of}
use Rattle.work_texts.specs.Rules.{text_limit}
use Rattle.work_texts.specs.BadFields.{Begins, FirstBad, IsBadAt}
use Rattle.work_texts.specs.Reading.{Reading, field_at}
use Rattle.work_texts.proofs.Formats.{AllBare, IsReader, ok_is, text_of-append, append-cancel}
use Rattle.work_texts.proofs.OneField.{field_again}

-- of two lists of fields in front of the same bytes, one begins the other
data Begun (fs gs : List Field) : Type 0 where
  goes_on : (more : List Field) → gs ≡ fs ++ more → Begun fs gs
  comes_back : (more : List Field) → fs ≡ gs ++ more → Begun fs gs

begun_cons : (f g : Field) (fs gs : List Field) → f ≡ g → Begun fs gs → Begun (f ∷ fs) (g ∷ gs)
begun_cons f g fs gs e (goes_on more h) = goes_on more cc
begun_cons f g fs gs e (comes_back more h) = comes_back more cc

one_field : (f g : Field) (x y : List ℕ) → AllBare (f ∷ []) → AllBare (g ∷ []) → f ++ 0 ∷ x ≡ g ++ 0 ∷ y → (f ≡ g) × (x ≡ y)
one_field f g x y a b e =
    let one = field_again f x a.0 in
    let two = field_again g y b.0 in
    let same = ok_is (f, x) (g, y) (sym one ∙ ap field_at e ∙ two) in
    (ap (λ (p : Field × List ℕ). p.0) same, ap (λ (p : Field × List ℕ). p.1) same)

one_begins : (fs gs : List Field) (x y : List ℕ) → AllBare fs → AllBare gs → text_of fs ++ x ≡ text_of gs ++ y → Begun fs gs
one_begins [] gs x y a b e = goes_on gs refl
one_begins (f ∷ fs) [] x y a b e = comes_back (f ∷ fs) refl
one_begins (f ∷ fs) (g ∷ gs) x y a b e =
    let left : text_of (f ∷ fs) ++ x ≡ f ++ 0 ∷ (text_of fs ++ x) = append_assoc f (0 ∷ text_of fs) x in
    let right : text_of (g ∷ gs) ++ y ≡ g ++ 0 ∷ (text_of gs ++ y) = append_assoc g (0 ∷ text_of gs) y in
    let p = one_field f g (text_of fs ++ x) (text_of gs ++ y) (a.0, tt) (b.0, tt) (sym left ∙ e ∙ right) in
    begun_cons f g fs gs p.0 (one_begins fs gs x y a.1 b.1 p.1)

bare_front : (fs gs : List Field) → AllBare (fs ++ gs) → AllBare fs
bare_front [] gs a = tt
bare_front (f ∷ fs) gs a = (a.0, bare_front fs gs a.1)

good_bare : {X : Type 0} (fields : X → List Field) (Fits : X → Type 0) (read : List ℕ → Reading X) → IsReader fields Fits read → (good : List Field) → Begins fields Fits good → AllBare good
good_bare fields Fits read r good b = bare_front good b.1 (subst AllBare b.3 (r.bare b.0 b.2))

-- no good field stands behind the good fields
stays : {X : Type 0} (fields : X → List Field) (Fits : X → Type 0) (bytes : List ℕ) (at other : ℕ) → (a : FirstBad fields Fits bytes at) → (b : FirstBad fields Fits bytes other)
    → (more : List Field) → b.good ≡ a.good ++ more → at ≡ other
stays fields Fits bytes at other a b [] e = a.place ∙ ap (λ (fs : List Field). length (text_of fs)) (sym (e ∙ append-nil a.good)) ∙ sym b.place
stays fields Fits bytes at other a b (f ∷ more) e =
    let split : bytes ≡ text_of a.good ++ (text_of (f ∷ more) ++ b.bad) = b.parts ∙ ap (λ (fs : List Field). text_of fs ++ b.bad) e ∙ text_of-append a.good (f ∷ more) b.bad in
    let rest : a.bad ≡ text_of (f ∷ more) ++ b.bad = append-cancel (text_of a.good) a.bad (text_of (f ∷ more) ++ b.bad) (sym a.parts ∙ split) in
    let field : a.bad ≡ f ++ 0 ∷ (text_of more ++ b.bad) = rest ∙ append_assoc f (0 ∷ text_of more) b.bad in
    let g = b.begins in
    let begins : fields g.0 ≡ (a.good ++ f ∷ []) ++ (more ++ g.1) =
    g.3 ∙ ap (λ (fs : List Field). fs ++ g.1) e ∙ append_assoc a.good (f ∷ more) g.1 ∙ sym (append_assoc a.good (f ∷ []) (more ++ g.1)) in
    absurd (a.no_field f (text_of more ++ b.bad) field (g.0, more ++ g.1, g.2, begins))

same_place : {X : Type 0} (fields : X → List Field) (Fits : X → Type 0) (bytes : List ℕ) (at other : ℕ) → (a : FirstBad fields Fits bytes at) → (b : FirstBad fields Fits bytes other) → Begun a.good b.good → at ≡ other
same_place fields Fits bytes at other a b (goes_on more e) = stays fields Fits bytes at other a b more e
same_place fields Fits bytes at other a b (comes_back more e) = sym (stays fields Fits bytes other at b a more e)

pub one_place : {X : Type 0} (fields : X → List Field) (Fits : X → Type 0) (read : List ℕ → Reading X) → IsReader fields Fits read
    → (bytes : List ℕ) (at other : ℕ) → IsBadAt fields Fits bytes at → IsBadAt fields Fits bytes other → at ≡ other
one_place fields Fits read r bytes at other (inl a) (inl b) = a.1 ∙ sym b.1
one_place fields Fits read r bytes at other (inl a) (inr b) = let long : text_limit < length bytes = a.0 in let short : length bytes ≤ text_limit = b.0 in absurd (omega arith)
one_place fields Fits read r bytes at other (inr a) (inl b) = let long : text_limit < length bytes = b.0 in let short : length bytes ≤ text_limit = a.0 in absurd (omega arith)
one_place fields Fits read r bytes at other (inr a) (inr b) =
    same_place fields Fits bytes at other a.1 b.1
    (one_begins a.1.good b.1.good a.1.bad b.1.bad (good_bare fields Fits read r a.1.good a.1.begins) (good_bare fields Fits read r b.1.good b.1.begins) (sym a.1.parts ∙ b.1.parts))

pub no_text : {X : Type 0} (fields : X → List Field) (Fits : X → Type 0) (bytes : List ℕ) (at : ℕ) (x : X) → IsBadAt fields Fits bytes at → Fits x → bytes ≡ text_of (fields x) → length bytes ≤ text_limit → ⊥
no_text fields Fits bytes at x (inl a) fit e within = let long : text_limit < length bytes = a.0 in omega arith
no_text fields Fits bytes at x (inr a) fit e within = a.1.unwhole x fit e
