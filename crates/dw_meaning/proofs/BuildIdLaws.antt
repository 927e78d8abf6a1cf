-- The build-id of a file is in a section of the file: the first one that passes as its section.
use Rattle.std.proofs.Common.{Bool, true, false, ◌≡◌, ℕ, zero, suc, ◌<◌, List, cond, sym, ap, ◌∙◌, refl, subst, arith}
use Rattle.std.specs.Prelude.{Option, Some, None}
use Rattle.dw_base.specs.Elf.{order_of, section_count, contents_of}
use Rattle.dw_base.specs.Notes.{Descriptor, id_in, is_id_section, or_this, first_below, BuildId, build_id_at, build_id_in, build_id_of}

-- what is found passes, and is below
or_this-cases : (f : ℕ → Bool) (o : Option ℕ) (n i : ℕ) → ((k : ℕ) → o ≡ Some k → (k < n) × (f k ≡ true)) → or_this o n (f n) ≡ Some i → (i < suc n) × (f i ≡ true)
or_this-cases f (Some k) n i before e =
    let here : k ≡ i = cc in
    let rest = before k refl in
    (omega (arith, rest.0), subst (λ (j : ℕ). f j ≡ true) here rest.1)
or_this-cases f None n i before e = by_test (f n) refl e
  where
    by_test : (t : Bool) → f n ≡ t → cond t (Some n) None ≡ Some i → (i < suc n) × (f i ≡ true)
    by_test true is same =
        let here : n ≡ i = cc in
        (omega arith, subst (λ (j : ℕ). f j ≡ true) here is)
    by_test false is same = cc

pub first_below-found : (f : ℕ → Bool) (n i : ℕ) → first_below f n ≡ Some i → (i < n) × (f i ≡ true)
first_below-found f zero i e = cc
first_below-found f (suc n) i e = or_this-cases f (first_below f n) n i (λ k is. first_below-found f n k is) e

-- it is in a section of the file
pub record IdStands (b : List ℕ) (id : BuildId) : Type 0 where
  pub within : id.section < section_count b
  pub found : id_in (order_of b) (contents_of b id.section) ≡ Some id.descriptor

id_at-found : (i : ℕ) (o : Option Descriptor) (id : BuildId) → build_id_at i o ≡ Some id → (id.section ≡ i) × (o ≡ Some id.descriptor)
id_at-found i None id e = cc
id_at-found i (Some d) id e =
    let same : record { section = i; descriptor = d } ≡ id = cc in
    (ap (λ (x : BuildId). x.section) (sym same), ap (λ (x : BuildId). Some x.descriptor) same)

pub build_id-stands : (b : List ℕ) (id : BuildId) → build_id_of b ≡ Some id → IdStands b id
unfolding build_id_of
build_id-stands b id e = by_found (first_below (is_id_section b) (section_count b)) refl e
  where
    by_found : (o : Option ℕ) → first_below (is_id_section b) (section_count b) ≡ o → build_id_in b o ≡ Some id → IdStands b id
    by_found None there is = cc
    by_found (Some i) there is =
        let found = first_below-found (is_id_section b) (section_count b) i there in
        let at = id_at-found i (id_in (order_of b) (contents_of b i)) id is in
        record {
          within = subst (λ (k : ℕ). k < section_count b) (sym at.0) found.0;
          found = ap (λ (k : ℕ). id_in (order_of b) (contents_of b k)) at.0 ∙ at.1;
        }
