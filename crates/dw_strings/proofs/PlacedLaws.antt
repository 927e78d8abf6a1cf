-- Texts with their places, one entry behind another: what is looked up among entries, as one more goes behind them.
use Rattle.std.proofs.Common.{◌≡◌, ℕ, ◌+◌, Bool, true, false, Option, Some, None, if◌then◌else◌, List, [], ◌∷◌, ◌++◌, length, map, refl, sym, ap, ◌∙◌}
use Rattle.std.specs.Map.{lookup}
use Rattle.std.specs.Str.{bytes_eq}
use Rattle.std.proofs.lemmas.Bool.Decides.{same_from_decides}
use Rattle.std.proofs.lemmas.List.{map-append}
use Rattle.std.proofs.lemmas.Slice.Eq.{bytes_eq-Decides}
use Rattle.dw_base.specs.StringTables.{place_in}
use Rattle.dw_base.specs.Texts.{same_text, is_in, laid_texts}
use Rattle.dw_base.proofs.TextLaws.{same_text-true, same_text-from, place_in-new, place_in-append, is_in-append}
use Rattle.indexmap.specs.IndexMap.{insert_entry}

-- the place of a text behind n bytes
abbrev pub place_behind : ℕ → List (List ℕ) → List ℕ → Option ℕ
place_behind n ts t = if is_in ts t then Some (n + place_in ts t) else None

place_behind-found : (n : ℕ) (ts : List (List ℕ)) (u t : List ℕ) → is_in ts t ≡ true → place_behind n (ts ++ u ∷ []) t ≡ Some (n + place_in ts t)
place_behind-found n ts u t there =
    let stays : is_in (ts ++ u ∷ []) t ≡ true = is_in-append ts (u ∷ []) t ∙ rw there refl in
    rw (stays, place_in-append ts (u ∷ []) t there) refl

-- the test of two texts, turned round
test-turned : (t u : List ℕ) → bytes_eq t u ≡ same_text u t
test-turned t u = same_from_decides {P = t ≡ u} (bytes_eq t u) (same_text u t) (bytes_eq-Decides t u) (λ e. sym (same_text-true u t e), λ e. same_text-from u t (sym e))

last-cases : (n : ℕ) (ts : List (List ℕ)) (u t : List ℕ) (test : Bool) → same_text u t ≡ test → is_in ts t ≡ false
    → place_behind n (ts ++ u ∷ []) t ≡ (if test then Some (n + length (laid_texts ts)) else None)
last-cases n ts u t true e absent =
    let same : u ≡ t = same_text-true u t e in
    let inside : is_in (ts ++ u ∷ []) t ≡ true = is_in-append ts (u ∷ []) t ∙ rw (absent, e) refl in
    let at : place_in (ts ++ u ∷ []) t ≡ length (laid_texts ts) = ap (λ (x : List ℕ). place_in (ts ++ x ∷ []) t) same ∙ place_in-new ts [] t absent in
    rw (inside, at) refl
last-cases n ts u t false e absent =
    let outside : is_in (ts ++ u ∷ []) t ≡ false = is_in-append ts (u ∷ []) t ∙ rw (absent, e) refl in
    rw outside refl

-- a text that is found stays at its place
found-cases : (test : Bool) (v p : ℕ) (o more : Option ℕ) → (o ≡ Some p → more ≡ Some p) → (if test then Some v else o) ≡ Some p → (if test then Some v else more) ≡ Some p
found-cases true v p o more f e = e
found-cases false v p o more f e = f e

-- one that isn't is looked for in the entry behind
none-cases : (test : Bool) (v : ℕ) (o more last : Option ℕ) → (o ≡ None → more ≡ last) → (if test then Some v else o) ≡ None → (if test then Some v else more) ≡ last
none-cases true v o more last f e = cc
none-cases false v o more last f e = f e

-- keys that are texts, with their places
module _ {K : Type 0} (bytes : K → List ℕ) where
  abbrev texts_by : List (K × ℕ) → List (List ℕ)
  texts_by entries = map (λ e. bytes e.0) entries

  abbrev place_by : List (K × ℕ) → List ℕ → Option ℕ
  place_by entries t = lookup (λ k. bytes_eq t (bytes k)) entries

  abbrev same_by : K → K → Bool
  same_by k l = bytes_eq (bytes k) (bytes l)

  place_by-found : (es : List (K × ℕ)) (e : K × ℕ) (t : List ℕ) (p : ℕ) → place_by es t ≡ Some p → place_by (es ++ e ∷ []) t ≡ Some p
  place_by-found [] e t p found = cc
  place_by-found (x ∷ xs) e t p found =
      found-cases (bytes_eq t (bytes x.0)) x.1 p (place_by xs t) (place_by (xs ++ e ∷ []) t) (place_by-found xs e t p) found

  place_by-none : (es : List (K × ℕ)) (e : K × ℕ) (t : List ℕ) → place_by es t ≡ None → place_by (es ++ e ∷ []) t ≡ (if bytes_eq t (bytes e.0) then Some e.1 else None)
  place_by-none [] e t none = refl
  place_by-none (x ∷ xs) e t none =
      none-cases (bytes_eq t (bytes x.0)) x.1 (place_by xs t) (place_by (xs ++ e ∷ []) t) (if bytes_eq t (bytes e.0) then Some e.1 else None) (place_by-none xs e t) none

  pub texts_by-push : (es : List (K × ℕ)) (e : K × ℕ) → texts_by (es ++ e ∷ []) ≡ texts_by es ++ bytes e.0 ∷ []
  texts_by-push es e = map-append (λ (x : K × ℕ). bytes x.0) es (e ∷ [])

  -- what is found at its place is found there with one entry more
  placed-cases : (n : ℕ) (es : List (K × ℕ)) (e : K × ℕ) (t : List ℕ) (test : Bool) → is_in (texts_by es) t ≡ test
      → place_by es t ≡ (if test then Some (n + place_in (texts_by es) t) else None) → e.1 ≡ n + length (laid_texts (texts_by es))
      → place_by (es ++ e ∷ []) t ≡ place_behind n (texts_by es ++ bytes e.0 ∷ []) t
  placed-cases n es e t true there found at =
      place_by-found es e t (n + place_in (texts_by es) t) found ∙ sym (place_behind-found n (texts_by es) (bytes e.0) t there)
  placed-cases n es e t false absent none at =
      place_by-none es e t none
      ∙ ap (λ (b : Bool). if b then Some e.1 else None) (test-turned t (bytes e.0))
      ∙ ap (λ (v : ℕ). if same_text (bytes e.0) t then Some v else None) at
      ∙ sym (last-cases n (texts_by es) (bytes e.0) t (same_text (bytes e.0) t) refl absent)

  pub placed-push : (n : ℕ) (es : List (K × ℕ)) (e : K × ℕ) → ((t : List ℕ) → place_by es t ≡ place_behind n (texts_by es) t) → e.1 ≡ n + length (laid_texts (texts_by es))
      → (t : List ℕ) → place_by (es ++ e ∷ []) t ≡ place_behind n (texts_by (es ++ e ∷ [])) t
  placed-push n es e placed at t =
      placed-cases n es e t (is_in (texts_by es) t) refl (placed t) at ∙ ap (λ (ts : List (List ℕ)). place_behind n ts t) (sym (texts_by-push es e))

  -- a key that isn't there goes behind the others
  insert-cases : (test : Bool) (x : K × ℕ) (xs more : List (K × ℕ)) (k : K) (v : ℕ) (o : Option ℕ) → (o ≡ None → more ≡ xs ++ (k, v) ∷ []) → (if test then Some x.1 else o) ≡ None
      → (if test then (x.0, v) ∷ xs else x ∷ more) ≡ x ∷ (xs ++ (k, v) ∷ [])
  insert-cases true x xs more k v o f e = cc
  insert-cases false x xs more k v o f e = ap (λ (es : List (K × ℕ)). x ∷ es) (f e)

  pub insert_entry-absent : (es : List (K × ℕ)) (k : K) (v : ℕ) → place_by es (bytes k) ≡ None → insert_entry same_by es k v ≡ es ++ (k, v) ∷ []
  insert_entry-absent [] k v none = refl
  insert_entry-absent (x ∷ xs) k v none =
      insert-cases (bytes_eq (bytes k) (bytes x.0)) x xs (insert_entry same_by xs k v) k v (place_by xs (bytes k)) (insert_entry-absent xs k v) none

  -- one that is there stays, where its place does
  same-cases : (test : Bool) (x : K × ℕ) (xs more : List (K × ℕ)) (v : ℕ) (o : Option ℕ) → (o ≡ Some v → more ≡ xs) → (if test then Some x.1 else o) ≡ Some v
      → (if test then (x.0, v) ∷ xs else x ∷ more) ≡ x ∷ xs
  same-cases true x xs more v o f e =
      let same : v ≡ x.1 = cc in
      ap (λ (n : ℕ). (x.0, n) ∷ xs) same
  same-cases false x xs more v o f e = ap (λ (es : List (K × ℕ)). x ∷ es) (f e)

  pub insert_entry-present : (es : List (K × ℕ)) (k : K) (v : ℕ) → place_by es (bytes k) ≡ Some v → insert_entry same_by es k v ≡ es
  insert_entry-present [] k v found = cc
  insert_entry-present (x ∷ xs) k v found =
      same-cases (bytes_eq (bytes k) (bytes x.0)) x xs (insert_entry same_by xs k v) v (place_by xs (bytes k)) (insert_entry-present xs k v) found
