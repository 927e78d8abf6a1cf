-- The places of new texts, one more at a time.
use Rattle.std.proofs.Common.{Bool, true, false, ◌≡◌, ◌≢◌, ◌⊎◌, inl, inr, ℕ, ◌+◌, ◌==◌, List, [], ◌∷◌, ◌++◌, length, Option, Some, None, is_some, if◌then◌else◌, sym, ap, ◌∙◌, refl, subst, arith}
use Rattle.std.proofs.lemmas.Bool.{eq-eqb, eqb-true, true≢false}
use Rattle.dw_base.specs.Paths.{PathMap, mapped_path}
use Rattle.dw_base.specs.StringTables.{TextTable, new_text, place_in, text_place, with_added, with_mention, with_text}
use Rattle.dw_base.specs.Texts.{is_in}
use Rattle.dw_base.proofs.TextLaws.{is_in-with_text, is_in-with_text_kept, place_in-with_text}
use Rattle.dw_lines.specs.NewTexts.{AddsPlace}
use Rattle.dw_rewrite.specs.Changes.{mention_as, KnownPlace, Knows, IsNoted, Remembers, place_after}

-- the place of a text that was added
pub place_added : (table : TextTable) (t : List ℕ) (place : ℕ) → text_place (with_added table t) t ≡ Some place → place ≡ place_after table t
place_added table t place e =
    let there : is_in (with_text table.texts t) t ≡ true = is_in-with_text table.texts t in
    let same : Some (place_after table t) ≡ Some place = sym (rw there refl) ∙ e in
    cc

pub ruleset put_rules = (place_added)

-- the new text of one that is named as a path, and of another
pub path_pool : (m : PathMap) (old new : TextTable) (text : List ℕ) (path : Bool) → path ≡ true → new ≡ with_added old (mapped_path m text)
    → new ≡ with_added old (new_text m (record { path = path; text = text }))
path_pool m old new text false is e = absurd cc
path_pool m old new text true is e = e

pub other_pool : (m : PathMap) (old new : TextTable) (text : List ℕ) (path : Bool) → path ≡ false → new ≡ with_added old text
    → new ≡ with_added old (new_text m (record { path = path; text = text }))
other_pool m old new text true is e = absurd cc
other_pool m old new text false is e = e

pub path_at : (m : PathMap) (old : TextTable) (text : List ℕ) (path : Bool) (at : ℕ) → path ≡ true → at ≡ place_after old (mapped_path m text)
    → at ≡ place_after old (new_text m (record { path = path; text = text }))
path_at m old text false at is e = absurd cc
path_at m old text true at is e = e

pub other_at : (m : PathMap) (old : TextTable) (text : List ℕ) (path : Bool) (at : ℕ) → path ≡ false → at ≡ place_after old text
    → at ≡ place_after old (new_text m (record { path = path; text = text }))
other_at m old text true at is e = absurd cc
other_at m old text false at is e = e

pub ruleset text_rules = (path_pool, other_pool, path_at, other_at)

-- what is there
some_is : {X : Type 0} (o : Option X) → is_some o ≡ true → (x : X) × (o ≡ Some x)
some_is None h = absurd cc
some_is (Some x) h = (x, refl)

-- a text whose place is known is there
pub met_before : (m : PathMap) (table : List ℕ) (ts : List (List ℕ)) (known : Bool → ℕ → Option ℕ) (path : Bool) (offset : ℕ) → Knows m table ts known
    → is_some (known path offset) ≡ true → with_mention m ts (mention_as path table offset) ≡ ts
met_before m table ts known path offset knows some =
    let v = some_is (known path offset) some in
    let place : KnownPlace m table ts path offset v.0 = knows.each path offset v.0 v.1 in
    ap (λ (b : Bool). if b then ts else ts ++ new_text m (mention_as path table offset) ∷ []) place.there

-- and is noted
pub noted_before : (known : Bool → ℕ → Option ℕ) (path : Bool) (offset : ℕ) → is_some (known path offset) ≡ true → IsNoted known path offset
noted_before known path offset some = record { noted = some }

-- nothing was forgotten
pub remembers_all : (known : Bool → ℕ → Option ℕ) → Remembers known known
remembers_all known = record { each = λ (path : Bool) (o : ℕ) h. h }

-- one text more
pub asked : (m : PathMap) (table : List ℕ) (ts : List (List ℕ)) (path : Bool) (offset : ℕ)
    → with_text ts (new_text m (mention_as path table offset)) ≡ with_mention m ts (mention_as path table offset)
asked m table ts path offset = refl

-- a flag is another or not
flag-cases : (p path : Bool) → (p ≡ path) ⊎ (p ≢ path)
flag-cases true true = inl refl
flag-cases false false = inl refl
flag-cases true false = inr (λ e. true≢false e)
flag-cases false true = inr (λ e. true≢false (sym e))

-- one place more
pub knows_more : (m : PathMap) (table : List ℕ) (ts : List (List ℕ)) (old new : Bool → ℕ → Option ℕ) (path : Bool) (offset : ℕ) → Knows m table ts old
    → AddsPlace old new path offset (place_after (record { kept = []; texts = ts }) (new_text m (mention_as path table offset)))
    → Knows m table (with_text ts (new_text m (mention_as path table offset))) new
knows_more m table ts old new path offset knows adds = record { each = λ (p : Bool) (o q : ℕ) is. by_flag p o q is (flag-cases p path) }
  where
    text : List ℕ
    text = new_text m (mention_as path table offset)

    place : ℕ
    place = place_after (record { kept = []; texts = ts }) (new_text m (mention_as path table offset))

    kept : (p : Bool) (o q : ℕ) → old p o ≡ Some q → KnownPlace m table (with_text ts (new_text m (mention_as path table offset))) p o q
    kept p o q before =
        let k : KnownPlace m table ts p o q = knows.each p o q before in
        record {
          there = is_in-with_text_kept ts text (new_text m (mention_as p table o)) k.there;
          place_is = k.place_is ∙ sym (place_in-with_text ts text (new_text m (mention_as p table o)) k.there);
        }

    by_offset : (o q : ℕ) → new path o ≡ Some q → (same : Bool) → (o == offset) ≡ same
        → KnownPlace m table (with_text ts (new_text m (mention_as path table offset))) path o q
    by_offset o q is true test =
        let both : Some place ≡ Some q = sym (adds.here.each o ∙ ap (λ (b : Bool). if b then Some place else old path o) test) ∙ is in
        let q_is : q ≡ place = cc in
        let plain : place ≡ place_in (with_text ts text) text = omega arith in
        subst (λ (z : ℕ). KnownPlace m table (with_text ts (new_text m (mention_as path table offset))) path z q) (sym (eqb-true o offset test))
        (record { there = is_in-with_text ts text; place_is = q_is ∙ plain })
    by_offset o q is false test = kept path o q (sym (adds.here.each o ∙ ap (λ (b : Bool). if b then Some place else old path o) test) ∙ is)

    by_flag : (p : Bool) (o q : ℕ) → new p o ≡ Some q → (p ≡ path) ⊎ (p ≢ path)
        → KnownPlace m table (with_text ts (new_text m (mention_as path table offset))) p o q
    by_flag p o q is (inl same) =
        subst (λ (b : Bool). KnownPlace m table (with_text ts (new_text m (mention_as path table offset))) b o q) (sym same)
        (by_offset o q (ap (λ (b : Bool). new b o) (sym same) ∙ is) (o == offset) refl)
    by_flag p o q is (inr other) = kept p o q (sym (adds.others p o other) ∙ is)

-- one place more, in a table that grew
pub knows_added : (m : PathMap) (table : List ℕ) (first grown : TextTable) (old new : Bool → ℕ → Option ℕ) (path : Bool) (offset : ℕ) → first.kept ≡ []
    → Knows m table first.texts old → grown ≡ with_added first (new_text m (mention_as path table offset))
    → AddsPlace old new path offset (place_after first (new_text m (mention_as path table offset))) → Knows m table grown.texts new
knows_added m table first grown old new path offset kept knows is adds =
    let t : List ℕ = new_text m (mention_as path table offset) in
    let here : place_after first t ≡ place_after (record { kept = []; texts = first.texts }) t =
    ap (λ (k : List ℕ). length k + place_in (with_text first.texts t) t) kept in
    let more : Knows m table (with_text first.texts t) new = knows_more m table first.texts old new path offset knows (subst (AddsPlace old new path offset) here adds) in
    subst (λ (g : TextTable). Knows m table g.texts new) (sym is) more

-- the same where the table and the offset have other names
pub knows_there : (m : PathMap) (table here : List ℕ) (first grown : TextTable) (old new : Bool → ℕ → Option ℕ) (path : Bool) (offset : ℕ) → here ≡ table → first.kept ≡ []
    → Knows m table first.texts old → grown ≡ with_added first (new_text m (mention_as path here offset))
    → AddsPlace old new path offset (place_after first (new_text m (mention_as path here offset))) → Knows m table grown.texts new
knows_there m table here first grown old new path offset same kept knows is adds =
    subst (λ (t : List ℕ). Knows m t grown.texts new) same
    (knows_added m here first grown old new path offset kept (subst (λ (t : List ℕ). Knows m t first.texts old) (sym same) knows) is adds)

-- which is noted
pub noted_more : (old new : Bool → ℕ → Option ℕ) (path : Bool) (offset place : ℕ) → AddsPlace old new path offset place → IsNoted new path offset
noted_more old new path offset place adds = record {
  noted = ap is_some (adds.here.each offset ∙ ap (λ (b : Bool). if b then Some place else old path offset) (eq-eqb offset offset refl));
}

-- and nothing is forgotten
pub remembers_more : (old new : Bool → ℕ → Option ℕ) (path : Bool) (offset place : ℕ) → AddsPlace old new path offset place → Remembers old new
remembers_more old new path offset place adds = record { each = λ (p : Bool) (o : ℕ) h. by_flag p o h (flag-cases p path) }
  where
    by_offset : (o : ℕ) → is_some (old path o) ≡ true → (same : Bool) → (o == offset) ≡ same → is_some (new path o) ≡ true
    by_offset o h true test = ap is_some (adds.here.each o ∙ ap (λ (b : Bool). if b then Some place else old path o) test)
    by_offset o h false test = ap is_some (adds.here.each o ∙ ap (λ (b : Bool). if b then Some place else old path o) test) ∙ h

    by_flag : (p : Bool) (o : ℕ) → is_some (old p o) ≡ true → (p ≡ path) ⊎ (p ≢ path) → is_some (new p o) ≡ true
    by_flag p o h (inl same) =
        ap (λ (b : Bool). is_some (new b o)) same ∙ by_offset o (ap (λ (b : Bool). is_some (old b o)) (sym same) ∙ h) (o == offset) refl
    by_flag p o h (inr other) = ap is_some (adds.others p o other) ∙ h

pub ruleset note_rules = (met_before, noted_before, remembers_all, asked, knows_added, noted_more, remembers_more)
