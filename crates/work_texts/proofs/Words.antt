-- Fields that are words, flags, texts and sides of a prefix map: each is read where it is spelled so.
use Rattle.std.proofs.Common.{◌≡◌, Bool, true, false, ◌&&◌, if◌then◌else◌, [], Some, refl, subst}
use Rattle.std.specs.Prelude.{codes, IsTrue}
use Rattle.std.proofs.lemmas.Bool.{and_parts}
use Rattle.dw_base.specs.Texts.{has_nul, same_text}
use Rattle.dw_base.specs.Paths.{is_prefix, without_end_slashes}
use Rattle.dw_base.proofs.TextLaws.{same_text-true, same_text-from, same_text-refl}
use Rattle.dw_base.proofs.PathLaws.{is_prefix-parts}
use Rattle.work_texts.specs.Fields.{Field}
use Rattle.work_texts.specs.Reading.{when, word_in, choice_in, text_in, side_in}
use Rattle.work_texts.proofs.OneField.{IsSpelling}

-- a value under a test
pub when_ok : {X : Type 0} (test : Bool) (y x : X) → when test y ≡ Some x → (test ≡ true) × (y ≡ x)
when_ok true y x e = (refl, cc)
when_ok false y x e = absurd cc

pub when_true : {X : Type 0} (test : Bool) (x : X) → test ≡ true → when test x ≡ Some x
when_true test x e = rw e refl

pub and_true : (a b : Bool) → a ≡ true → b ≡ true → (a && b) ≡ true
and_true a b e f = rw (e, f) refl

-- ---- a word

pub word_spelling : (word : Field) → has_nul word ≡ false → IsSpelling (word_in word) (λ _. word) (λ _. Unit {0})
word_spelling word bare = record {
  takes = λ f x h e. (same_text-true f word (when_ok (same_text f word) tt x e).0, tt);
  again = λ x fit. when_true (same_text word word) tt (same_text-refl word);
  bare = λ x fit. bare;
  sample = tt;
  fits = tt;
}

-- ---- one of two words

abbrev pub chosen : Field → Field → Bool → Field
chosen off on b = if b then on else off

choice_takes : (off on f : Field) (test : Bool) (x : Bool) → same_text f off ≡ test → (if test then Some false else when (same_text f on) true) ≡ Some x → f ≡ chosen off on x
choice_takes off on f true true h e = absurd cc
choice_takes off on f true false h e = same_text-true f off h
choice_takes off on f false true h e = same_text-true f on (when_ok (same_text f on) true true e).0
choice_takes off on f false false h e =
    let never : true ≡ false = (when_ok (same_text f on) true false e).1 in
    absurd (cc never)

choice_again : (off on : Field) (x : Bool) → same_text on off ≡ false → choice_in off on (chosen off on x) ≡ Some x
choice_again off on true other = rw (other, same_text-refl on) refl
choice_again off on false other = rw (same_text-refl off) refl

choice_bare : (off on : Field) (x : Bool) → has_nul off ≡ false → has_nul on ≡ false → has_nul (chosen off on x) ≡ false
choice_bare off on true a b = b
choice_bare off on false a b = a

pub choice_spelling : (off on : Field) → has_nul off ≡ false → has_nul on ≡ false → same_text on off ≡ false → IsSpelling (choice_in off on) (chosen off on) (λ _. Unit {0})
choice_spelling off on a b other = record {
  takes = λ f x h e. (choice_takes off on f (same_text f off) x refl e, tt);
  again = λ x fit. choice_again off on x other;
  bare = λ x fit. choice_bare off on x a b;
  sample = false;
  fits = tt;
}

-- ---- any text

some_is : {X : Type 0} (x y : X) → Some x ≡ Some y → x ≡ y
some_is x y e = cc

pub text_spelling : IsSpelling text_in (λ f. f) (λ f. has_nul f ≡ false)
text_spelling = record {
  takes = λ f x h e. let is : f ≡ x = some_is f x e in (is, subst (λ (g : Field). has_nul g ≡ false) is h);
  again = λ x fit. refl;
  bare = λ x fit. fit;
  sample = [];
  fits = refl;
}

-- ---- a base or a destination

pub record IsSide (f : Field) : Type 0 where
  pub is : IsTrue (is_prefix f)
  pub cut : without_end_slashes f ≡ f

side_takes : (f x : Field) → side_in f ≡ Some x → (f ≡ x) × IsSide x
side_takes f x e =
    let w = when_ok (is_prefix f && same_text (without_end_slashes f) f) f x e in
    let p = and_parts (is_prefix f) (same_text (without_end_slashes f) f) w.0 in
    let side : IsSide f = record { is = p.0; cut = same_text-true (without_end_slashes f) f p.1 } in
    (w.1, subst IsSide w.1 side)

slash_a : IsTrue (is_prefix (codes "/a"))
unfolding is_prefix
slash_a = refl

pub side_spelling : IsSpelling side_in (λ f. f) IsSide
side_spelling = record {
  takes = λ f x h e. side_takes f x e;
  again = λ x fit. when_true (is_prefix x && same_text (without_end_slashes x) x) x (and_true (is_prefix x) (same_text (without_end_slashes x) x) fit.is (same_text-from (without_end_slashes x) x fit.cut));
  bare = λ x fit. (is_prefix-parts x fit.is).no_nul;
  sample = codes "/a";
  fits = record { is = slash_a; cut = refl };
}
