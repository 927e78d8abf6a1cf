-- Paths of jobs and names of sources as fields: each comes behind the one before it, and behind each
-- there is a further one.
use Rattle.std.proofs.Common.{◌≡◌, ℕ, ◌<◌, Bool, true, false, cond, ◌&&◌, not, ◌==◌, List, [], ◌∷◌, ◌++◌, length, Option, Some, None, refl, ap, subst, ◌∙◌, arith}
use Rattle.std.specs.Prelude.{codes, IsTrue, nat_eq}
use Rattle.std.specs.List.{slice_split, onto_first, starts_with, list_all}
use Rattle.std.specs.Str.{is_utf8, chars}
use Rattle.std.specs.Ordering.{nat_cmp, is_lt, ordering_then}
use Rattle.std.specs.declared.cmp.Ordering.{Ordering}
use Rattle.std.specs.declared.cmp.Ordering.TheVariants.{Less}
use Rattle.std.specs.Cmp.Lexicographic.{slice_cmp}
use Rattle.std.proofs.lemmas.Bool.{and_parts, ne_eqb}
use Rattle.std.proofs.lemmas.Cmp.{tied_itself, nat_cmp_total}
use Rattle.std.proofs.lemmas.List.Folds.{list_all-append}
use Rattle.std.proofs.lemmas.List.Splits.{slice_split-cons_yes, length-slice_split}
use Rattle.std.proofs.lemmas.Str.{IsUtf8-append, IsUtf8-from_is_utf8, is_utf8-from_IsUtf8}
use Rattle.dw_base.specs.Paths.{slash}
use Rattle.dw_base.specs.Texts.{has_nul}
use Rattle.dw_base.proofs.TextLaws.{has_nul-append_false}
use Rattle.dw_paths.specs.Components.{components, is_name}
use Rattle.dw_paths.specs.PlainPaths.{is_plain}
use Rattle.work_texts.specs.Rules.{is_job_path, comes_after}
use Rattle.work_texts.specs.Reading.{path_in, source_in}
use Rattle.work_texts.proofs.OneField.{IsSpelling}
use Rattle.work_texts.proofs.Words.{when_ok, when_true, and_true}

-- ---- a longer text comes behind

longer : (xs : List ℕ) (y : ℕ) (ys : List ℕ) → slice_cmp nat_cmp xs (xs ++ y ∷ ys) ≡ Less
longer [] y ys = refl
longer (x ∷ xs) y ys = ap (λ (o : Ordering). ordering_then o (slice_cmp nat_cmp xs (xs ++ y ∷ ys))) (tied_itself nat_cmp_total x) ∙ longer xs y ys

longer_after : (xs : List ℕ) (y : ℕ) (ys : List ℕ) → comes_after (Some xs) (xs ++ y ∷ ys) ≡ true
longer_after xs y ys = ap is_lt (longer xs y ys)

-- ---- a path below a plain one is plain

onto_append : (x : ℕ) (parts more : List (List ℕ)) → 0 < length parts → onto_first x (parts ++ more) ≡ onto_first x parts ++ more
onto_append x [] more some = absurd (omega arith)
onto_append x (part ∷ parts) more some = refl

split_cases : (x : ℕ) (test : Bool) (parts more : List (List ℕ)) → 0 < length parts
    → cond test ([] ∷ (parts ++ more)) (onto_first x (parts ++ more)) ≡ cond test ([] ∷ parts) (onto_first x parts) ++ more
split_cases x true parts more some = refl
split_cases x false parts more some = onto_append x parts more some

split_more : (p : ℕ → Bool) (xs : List ℕ) (s : ℕ) (ys : List ℕ) → p s ≡ true → slice_split p (xs ++ s ∷ ys) ≡ slice_split p xs ++ slice_split p ys
split_more p [] s ys e = slice_split-cons_yes p s ys e
split_more p (x ∷ xs) s ys e =
    ap (λ (parts : List (List ℕ)). cond (p x) ([] ∷ parts) (onto_first x parts)) (split_more p xs s ys e)
    ∙ split_cases x (p x) (slice_split p xs) (slice_split p ys) (omega (arith, length-slice_split p xs))

-- the four parts of the test
record IsPlain (path : List ℕ) : Type 0 where
  some : not (nat_eq (length path) 0) ≡ true
  bare : not (has_nul path) ≡ true
  relative : not (starts_with nat_eq path (slash ∷ [])) ≡ true
  names : list_all is_name (components path) ≡ true

plain_parts : (path : List ℕ) → is_plain path ≡ true → IsPlain path
unfolding is_plain
plain_parts path e =
    let a = and_parts (not (nat_eq (length path) 0) && not (has_nul path) && not (starts_with nat_eq path (slash ∷ []))) (list_all is_name (components path)) e in
    let b = and_parts (not (nat_eq (length path) 0) && not (has_nul path)) (not (starts_with nat_eq path (slash ∷ []))) a.0 in
    let c = and_parts (not (nat_eq (length path) 0)) (not (has_nul path)) b.0 in
    record { some = c.0; bare = c.1; relative = b.1; names = a.1 }

plain_from : (path : List ℕ) → IsPlain path → is_plain path ≡ true
unfolding is_plain
plain_from path p =
    and_true (not (nat_eq (length path) 0) && not (has_nul path) && not (starts_with nat_eq path (slash ∷ []))) (list_all is_name (components path))
    (and_true (not (nat_eq (length path) 0) && not (has_nul path)) (not (starts_with nat_eq path (slash ∷ [])))
    (and_true (not (nat_eq (length path) 0)) (not (has_nul path)) p.some p.bare) p.relative) p.names

not_true : (b : Bool) → not b ≡ true → b ≡ false
not_true true e = absurd cc
not_true false e = refl

abbrev below : List ℕ → List ℕ
below path = path ++ codes "/a"

names_below : (path : List ℕ) → list_all is_name (components path) ≡ true → list_all is_name (components (below path)) ≡ true
names_below path e =
    ap (list_all is_name) (split_more (λ b. b == slash) path slash (codes "a") refl)
    ∙ list_all-append is_name (components path) (components (codes "a"))
    ∙ ap (λ (b : Bool). b && list_all is_name (components (codes "a"))) e

plain_below : (path : List ℕ) → is_plain path ≡ true → is_plain (below path) ≡ true
plain_below [] e = let p = plain_parts [] e in absurd (cc p.some)
plain_below (x ∷ xs) e =
    let p = plain_parts (x ∷ xs) e in
    plain_from (below (x ∷ xs)) (record {
      some = ap not (ne_eqb (length (below (x ∷ xs))) 0 (λ h. omega arith));
      bare = ap not (has_nul-append_false (x ∷ xs) (codes "/a") (not_true (has_nul (x ∷ xs)) p.bare) refl);
      relative = p.relative;
      names = names_below (x ∷ xs) p.names;
    })

ascii_text : is_utf8 (codes "/a") ≡ true
unfolding is_utf8 chars lib.Utf8.encode
ascii_text = refl

utf8_below : (path : List ℕ) → is_utf8 path ≡ true → is_utf8 (below path) ≡ true
utf8_below path e = is_utf8-from_IsUtf8 (below path) (IsUtf8-append path (codes "/a") (IsUtf8-from_is_utf8 path e) (IsUtf8-from_is_utf8 (codes "/a") ascii_text))

path_below : (path : List ℕ) → is_job_path path ≡ true → is_job_path (below path) ≡ true
path_below path e =
    let p = and_parts (is_plain path) (is_utf8 path) e in
    and_true (is_plain (below path)) (is_utf8 (below path)) (plain_below path p.0) (utf8_below path p.1)

a_path : is_job_path (codes "a") ≡ true
unfolding is_plain is_utf8 chars lib.Utf8.encode
a_path = refl

pub path_bare : (path : List ℕ) → is_job_path path ≡ true → has_nul path ≡ false
path_bare path e =
    let p = plain_parts path ((and_parts (is_plain path) (is_utf8 path) e).0) in
    not_true (has_nul path) p.bare

-- ---- the fields

-- the last text, if there is one, is good
abbrev pub LastIs : (List ℕ → Type 0) → Option (List ℕ) → Type 0
LastIs Good None = Unit {0}
LastIs Good (Some t) = Good t

pub record IsPathAfter (last : Option (List ℕ)) (path : List ℕ) : Type 0 where
  pub good : IsTrue (is_job_path path)
  pub after : IsTrue (comes_after last path)

abbrev next_path : Option (List ℕ) → List ℕ
next_path None = codes "a"
next_path (Some path) = below path

next_path_fits : (last : Option (List ℕ)) → LastIs (λ p. IsTrue (is_job_path p)) last → IsPathAfter last (next_path last)
next_path_fits None h = record { good = a_path; after = refl }
next_path_fits (Some path) h = record { good = path_below path h; after = longer_after path 47 (codes "a") }

path_takes : (last : Option (List ℕ)) (f path : List ℕ) → path_in last f ≡ Some path → (f ≡ path) × IsPathAfter last path
path_takes last f path e =
    let w = when_ok (is_job_path f && comes_after last f) f path e in
    let p = and_parts (is_job_path f) (comes_after last f) w.0 in
    let fits : IsPathAfter last f = record { good = p.0; after = p.1 } in
    (w.1, subst (IsPathAfter last) w.1 fits)

pub path_spelling : (last : Option (List ℕ)) → LastIs (λ p. IsTrue (is_job_path p)) last → IsSpelling (path_in last) (λ f. f) (IsPathAfter last)
path_spelling last h = record {
  takes = λ f x bare e. path_takes last f x e;
  again = λ x fit. when_true (is_job_path x && comes_after last x) x (and_true (is_job_path x) (comes_after last x) fit.good fit.after);
  bare = λ x fit. path_bare x fit.good;
  sample = next_path last;
  fits = next_path_fits last h;
}

pub record IsSourceAfter (last : Option (List ℕ)) (name : List ℕ) : Type 0 where
  pub bare : has_nul name ≡ false
  pub after : IsTrue (comes_after last name)

abbrev next_source : Option (List ℕ) → List ℕ
next_source None = []
next_source (Some name) = name ++ codes "a"

next_source_fits : (last : Option (List ℕ)) → LastIs (λ t. has_nul t ≡ false) last → IsSourceAfter last (next_source last)
next_source_fits None h = record { bare = refl; after = refl }
next_source_fits (Some name) h = record { bare = has_nul-append_false name (codes "a") h refl; after = longer_after name 97 [] }

source_takes : (last : Option (List ℕ)) (f name : List ℕ) → has_nul f ≡ false → source_in last f ≡ Some name → (f ≡ name) × IsSourceAfter last name
source_takes last f name bare e =
    let w = when_ok (comes_after last f) f name e in
    let fits : IsSourceAfter last f = record { bare = bare; after = w.0 } in
    (w.1, subst (IsSourceAfter last) w.1 fits)

pub source_spelling : (last : Option (List ℕ)) → LastIs (λ t. has_nul t ≡ false) last → IsSpelling (source_in last) (λ f. f) (IsSourceAfter last)
source_spelling last h = record {
  takes = λ f x bare e. source_takes last f x bare e;
  again = λ x fit. when_true (comes_after last x) x fit.after;
  bare = λ x fit. fit.bare;
  sample = next_source last;
  fits = next_source_fits last h;
}
