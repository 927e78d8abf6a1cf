-- A table that is built from the fields that name its texts has each of these once, and no other.
use Rattle.std.proofs.Common.{Bool, true, false, ◌≡◌, ℕ, ◌==◌, ◌||◌, List, [], ◌∷◌, ◌++◌, refl, sym, ap, ◌∙◌, subst, if◌then◌else◌}
use Rattle.dw_base.specs.Paths.{PathMap}
use Rattle.dw_base.specs.StringTables.{Mention, new_text, with_text, texts_after, new_texts, new_place}
use Rattle.dw_base.specs.Texts.{has_nul, is_in, same_text, laid_texts, text_in}
use Rattle.dw_base.proofs.TextLaws.{is_in-append, is_in-with_text, is_in-with_text_kept, same_text-true, same_text-refl, text_in-laid}
use Rattle.dw_meaning.specs.RebuiltTables.{first_texts, all_after, texts_said, AreOnce, AreBare, with_byte, cut_texts, IsRebuilt}

-- the new texts of a table are those of the mapped mentions, each once
pub texts-after : (m : PathMap) (ts : List (List ℕ)) (xs : List Mention) → texts_after m ts xs ≡ first_texts ts (texts_said (all_after m xs))
texts-after m ts [] = refl
texts-after m ts (x ∷ xs) = texts-after m (with_text ts (new_text m x)) xs

-- a text of a list with one more is one of the list, or that one
in-push : (ts : List (List ℕ)) (u t : List ℕ) → is_in (ts ++ u ∷ []) t ≡ true → is_in ts t ≡ false → same_text u t ≡ false → ⊥
in-push ts u t e none other = clash (is_in ts t) (same_text u t) none other (sym (is_in-append ts (u ∷ []) t) ∙ e)
  where
    clash : (a b : Bool) → a ≡ false → b ≡ false → (if a then true else (if b then true else false)) ≡ true → ⊥
    clash true b none is e = cc
    clash false true none is e = cc
    clash false false none is e = cc

out-push : (ts : List (List ℕ)) (u t : List ℕ) → is_in ts t ≡ false → same_text u t ≡ false → is_in (with_text ts u) t ≡ false
out-push ts u t none other = by_in (is_in ts u)
  where
    is_false : (b : Bool) → (b ≡ true → ⊥) → b ≡ false
    is_false true e = absurd (e refl)
    is_false false e = refl

    by_in : (a : Bool) → is_in (if a then ts else ts ++ u ∷ []) t ≡ false
    by_in true = none
    by_in false = is_false (is_in (ts ++ u ∷ []) t) (λ e. in-push ts u t e none other)

-- each text of the list is one that it began with, or one of the others
left_cases : (u t : List ℕ) (us : List (List ℕ)) (b : Bool) → same_text u t ≡ b → (b ≡ false → is_in us t ≡ true) → (if b then true else is_in us t) ≡ true
left_cases u t us true is rest = refl
left_cases u t us false is rest = rest refl

pub none-left : (ts us : List (List ℕ)) (t : List ℕ) → is_in (first_texts ts us) t ≡ true → is_in ts t ≡ false → is_in us t ≡ true
none-left ts [] t e none = absurd (clash (is_in ts t) none e)
  where
    clash : (b : Bool) → b ≡ false → b ≡ true → ⊥
    clash true a e = cc
    clash false a e = cc
none-left ts (u ∷ us) t e none =
    left_cases u t us (same_text u t) refl (λ other. none-left (with_text ts u) us t e (out-push ts u t none other))

-- a text that the list began with stays, and each of the others is there
pub stays : (ts us : List (List ℕ)) (t : List ℕ) → is_in ts t ≡ true → is_in (first_texts ts us) t ≡ true
stays ts [] t e = e
stays ts (u ∷ us) t e = stays (with_text ts u) us t (is_in-with_text_kept ts u t e)

there_cases : (ts us : List (List ℕ)) (u t : List ℕ) (b : Bool) → same_text u t ≡ b → (if b then true else is_in us t) ≡ true
    → (is_in us t ≡ true → is_in (first_texts (with_text ts u) us) t ≡ true) → is_in (first_texts (with_text ts u) us) t ≡ true
there_cases ts us u t true is e rest =
    stays (with_text ts u) us t (subst (λ (x : List ℕ). is_in (with_text ts u) x ≡ true) (same_text-true u t is) (is_in-with_text ts u))
there_cases ts us u t false is e rest = rest e

pub all-there : (ts us : List (List ℕ)) (t : List ℕ) → is_in us t ≡ true → is_in (first_texts ts us) t ≡ true
all-there ts [] t e = cc
all-there ts (u ∷ us) t e = there_cases ts us u t (same_text u t) refl e (λ more. all-there (with_text ts u) us t more)

-- no text stands there twice
once-push : (ts : List (List ℕ)) (u : List ℕ) → AreOnce ts → is_in ts u ≡ false → AreOnce (ts ++ u ∷ [])
once-push [] u once none = (refl, tt)
once-push (t ∷ ts) u once none =
    let parts = if-none (same_text t u) (is_in ts u) none in
    (is_false (is_in (ts ++ u ∷ []) t) (λ e. in-push ts u t e once.0 (turned parts.0)), once-push ts u once.1 parts.1)
  where
    if-none : (a b : Bool) → (if a then true else b) ≡ false → (a ≡ false) × (b ≡ false)
    if-none true b e = cc
    if-none false b e = (refl, e)

    is_false : (b : Bool) → (b ≡ true → ⊥) → b ≡ false
    is_false true e = absurd (e refl)
    is_false false e = refl

    turned : same_text t u ≡ false → same_text u t ≡ false
    turned other = is_false (same_text u t) (λ e. clash (same_text t u) other (subst (λ (x : List ℕ). same_text x u ≡ true) (same_text-true u t e) (same_text-refl u)))
      where
        clash : (b : Bool) → b ≡ false → b ≡ true → ⊥
        clash true a e = cc
        clash false a e = cc

once-with : (ts : List (List ℕ)) (u : List ℕ) → AreOnce ts → AreOnce (with_text ts u)
once-with ts u once = by_in (is_in ts u) refl
  where
    by_in : (b : Bool) → is_in ts u ≡ b → AreOnce (if b then ts else ts ++ u ∷ [])
    by_in true e = once
    by_in false e = once-push ts u once e

pub once-first : (ts us : List (List ℕ)) → AreOnce ts → AreOnce (first_texts ts us)
once-first ts [] once = once
once-first ts (u ∷ us) once = once-first (with_text ts u) us (once-with ts u once)

-- texts without a NUL stay so
bare-push : (ts : List (List ℕ)) (u : List ℕ) → AreBare ts → has_nul u ≡ false → AreBare (ts ++ u ∷ [])
bare-push [] u bare none = (none, tt)
bare-push (t ∷ ts) u bare none = (bare.0, bare-push ts u bare.1 none)

pub bare-first : (ts us : List (List ℕ)) → AreBare ts → AreBare us → AreBare (first_texts ts us)
bare-first ts [] bare all = bare
bare-first ts (u ∷ us) bare all = bare-first (with_text ts u) us (by_in (is_in ts u)) all.1
  where
    by_in : (b : Bool) → AreBare (if b then ts else ts ++ u ∷ [])
    by_in true = bare
    by_in false = bare-push ts u bare all.0

-- the bytes of texts are these texts
cut-text : (t rest : List ℕ) → has_nul t ≡ false → cut_texts (t ++ 0 ∷ rest) ≡ t ∷ cut_texts rest
cut-text [] rest none = refl
cut-text (b ∷ bs) rest none = by_byte (b == 0) none (cut-text bs rest)
  where
    by_byte : (c : Bool) → (c || has_nul bs) ≡ false → (has_nul bs ≡ false → cut_texts (bs ++ 0 ∷ rest) ≡ bs ∷ cut_texts rest)
        → (if c then [] ∷ cut_texts (bs ++ 0 ∷ rest) else with_byte b (cut_texts (bs ++ 0 ∷ rest))) ≡ (b ∷ bs) ∷ cut_texts rest
    by_byte true none more = cc
    by_byte false none more = ap (with_byte b) (more none)

pub cut-laid : (ts : List (List ℕ)) → AreBare ts → cut_texts (laid_texts ts) ≡ ts
cut-laid [] bare = refl
cut-laid (t ∷ ts) bare = cut-text t (laid_texts ts) bare.0 ∙ ap (λ (us : List (List ℕ)). t ∷ us) (cut-laid ts bare.1)

-- the table that is built from mentions holds exactly the texts that fields name once these are mapped
pub rebuilt-table : (m : PathMap) (xs : List Mention) → AreBare (texts_said (all_after m xs))
    → IsRebuilt (laid_texts (new_texts m xs)) (all_after m xs)
rebuilt-table m xs bare =
    let us : List (List ℕ) = texts_said (all_after m xs) in
    let is : laid_texts (new_texts m xs) ≡ laid_texts (first_texts [] us) = ap laid_texts (texts-after m [] xs) in
    let cut : cut_texts (laid_texts (new_texts m xs)) ≡ first_texts [] us =
    ap cut_texts is ∙ cut-laid (first_texts [] us) (bare-first [] us tt bare) in
    record {
      is = is;
      named = λ t e. none-left [] us t (subst (λ (ts : List (List ℕ)). is_in ts t ≡ true) cut e) refl;
      there = λ t e. subst (λ (ts : List (List ℕ)). is_in ts t ≡ true) (sym cut) (all-there [] us t e);
      once = subst AreOnce (sym cut) (once-first [] us tt);
    }

-- and each mention's new place names its new text there
pub place-named : (m : PathMap) (xs : List Mention) (x : Mention) → is_in (new_texts m xs) (new_text m x) ≡ true → has_nul (new_text m x) ≡ false
    → text_in (laid_texts (new_texts m xs)) (new_place m (new_texts m xs) x) ≡ new_text m x
place-named m xs x there bare = text_in-laid (new_texts m xs) (new_text m x) there bare
