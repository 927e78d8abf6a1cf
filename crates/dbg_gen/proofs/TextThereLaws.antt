-- Each text that a unit names is in the table of texts.
use Rattle.std.proofs.Common.{◌≡◌, ℕ, zero, suc, ◌<◌, inl, inr, Bool, true, false, if◌then◌else◌, List, [], ◌∷◌, ◌++◌, slice_index, refl, sym, ◌∙◌, arith, subst}
use Rattle.std.proofs.lemmas.Bool.{cases_lt}
use Rattle.dw_base.specs.Lists.{tabulate}
use Rattle.dw_base.specs.StringTables.{with_text}
use Rattle.dw_base.specs.Texts.{is_in, same_text}
use Rattle.dw_base.proofs.TextLaws.{is_in-append, is_in-with_text, is_in-with_text_kept, same_text-refl, same_text-true}
use Rattle.dbg_gen.specs.Asked.{HasUnit, HasUnits}
use Rattle.dbg_gen.specs.GeneratedTexts.{chained, directory, each_once, mentions_of, texts_of, unit_name, unit_texts, variable_name}

-- a text that is there stays, and one that is behind it is there too
once-kept : (ts xs : List (List ℕ)) (t : List ℕ) → is_in ts t ≡ true → is_in (each_once ts xs) t ≡ true
once-kept ts [] t e = e
once-kept ts (x ∷ xs) t e = once-kept (with_text ts x) xs t (is_in-with_text_kept ts x t e)

there-cases : (ts xs : List (List ℕ)) (x t : List ℕ) (test : Bool) → same_text x t ≡ test → (is_in xs t ≡ true → is_in (each_once (with_text ts x) xs) t ≡ true)
    → (if test then true else is_in xs t) ≡ true → is_in (each_once (with_text ts x) xs) t ≡ true
there-cases ts xs x t true same rest e =
    once-kept (with_text ts x) xs t (subst (λ (u : List ℕ). is_in (with_text ts x) u ≡ true) (same_text-true x t same) (is_in-with_text ts x))
there-cases ts xs x t false same rest e = rest e

once-there : (ts xs : List (List ℕ)) (t : List ℕ) → is_in xs t ≡ true → is_in (each_once ts xs) t ≡ true
once-there ts [] t e = cc
once-there ts (x ∷ xs) t e = there-cases ts xs x t (same_text x t) refl (once-there (with_text ts x) xs t) e

-- a text of one of two lists is in both together
in-front : (ts us : List (List ℕ)) (t : List ℕ) → is_in ts t ≡ true → is_in (ts ++ us) t ≡ true
in-front ts us t e = is_in-append ts us t ∙ rw e refl

behind-cases : (test : Bool) → (if test then true else true) ≡ true
behind-cases true = refl
behind-cases false = refl

in-behind : (ts us : List (List ℕ)) (t : List ℕ) → is_in us t ≡ true → is_in (ts ++ us) t ≡ true
in-behind ts us t e = is_in-append ts us t ∙ rw e (behind-cases (is_in ts t))

in-chained : (f : ℕ → List (List ℕ)) (n u : ℕ) (t : List ℕ) → u < n → is_in (f u) t ≡ true → is_in (chained f n) t ≡ true
in-chained f zero u t lt e = absurd (omega arith)
in-chained f (suc n) u t lt e =
    elim (cases_lt u n) [
      | inl before ↦ in-front (chained f n) (f n) t (in-chained f n u t before e)
      | inr last ↦
          let same : u ≡ n = omega arith in
          in-behind (chained f n) (f n) t (subst (λ (v : ℕ). is_in (f v) t ≡ true) same e)
    ]

in-tabulated : (f : ℕ → List ℕ) (n i : ℕ) → i < n → is_in (tabulate f n) (f i) ≡ true
in-tabulated f zero i lt = absurd (omega arith)
in-tabulated f (suc n) i lt =
    elim (cases_lt i n) [
      | inl before ↦ in-front (tabulate f n) (f n ∷ []) (f i) (in-tabulated f n i before)
      | inr last ↦
          let same : n ≡ i = omega arith in
          in-behind (tabulate f n) (f n ∷ []) (f i) (subst (λ (v : ℕ). is_in (f v ∷ []) (f i) ≡ true) (sym same) (rw (same_text-refl (f i)) refl))
    ]

later-cases : (test : Bool) (rest : Bool) → rest ≡ true → (if test then true else rest) ≡ true
later-cases true rest e = refl
later-cases false rest e = e

in-later : (x : List ℕ) (xs : List (List ℕ)) (t : List ℕ) → is_in xs t ≡ true → is_in (x ∷ xs) t ≡ true
in-later x xs t e = later-cases (same_text x t) (is_in xs t) e

in-first : (x : List ℕ) (xs : List (List ℕ)) → is_in (x ∷ xs) x ≡ true
in-first x xs = rw (same_text-refl x) refl

unit-has : (texts : List (List ℕ)) (unit count : ℕ) → ((t : List ℕ) → is_in (unit_texts unit count) t ≡ true → is_in texts t ≡ true) → HasUnit texts unit count
unit-has texts unit count all = record {
  name = all (unit_name unit) (in-first (unit_name unit) (directory ∷ tabulate variable_name count));
  directory_there = all directory (in-later (unit_name unit) (directory ∷ tabulate variable_name count) directory (in-first directory (tabulate variable_name count)));
  variables = λ i lt.
      all (variable_name i)
      (in-later (unit_name unit) (directory ∷ tabulate variable_name count) (variable_name i)
      (in-later directory (tabulate variable_name count) (variable_name i) (in-tabulated variable_name count i lt)));
}

pub texts-there : (counts : List ℕ) (units : ℕ) → HasUnits (texts_of counts units) counts units
unfolding texts_of mentions_of
texts-there counts units = record {
  each = λ u lt.
      unit-has (texts_of counts units) u (slice_index counts u)
      (λ t there. once-there [] (mentions_of counts units) t (in-chained (λ unit. unit_texts unit (slice_index counts unit)) units u t lt there));
}
