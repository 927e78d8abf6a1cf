-- Names that stand already: adding them again changes nothing, and they stand whatever is added.
use Rattle.std.proofs.Common.{◌≡◌, ℕ, suc, List, [], ◌∷◌, length, Option, Some, None, refl, sym, ap, ◌∙◌, arith}
use Rattle.std.proofs.lemmas.Cmp.{alike_right, nat_list_cmp_total, tied_itself}
use Rattle.std.specs.Cmp.Lexicographic.{slice_cmp}
use Rattle.std.specs.Ordering.{nat_cmp, ordering_reverse}
use Rattle.std.specs.declared.cmp.Ordering.{Ordering}
use Rattle.std.specs.declared.cmp.Ordering.TheVariants.{Less, Equal, Greater}
use Rattle.dw_sources.specs.JoinedFiles.{EachStands}
use Rattle.dw_sources.specs.KeptNames.{kept_name, placed_by, with_kept, with_name, with_paths}

abbrev order : List ℕ → List ℕ → Ordering
order = slice_cmp nat_cmp

-- a name below another is above whatever is below it
above-of : (n m : List ℕ) → order m n ≡ Less → order n m ≡ Greater
above-of n m is = nat_list_cmp_total.antisymm n m ∙ ap ordering_reverse is

above-equal : (n m x : List ℕ) → order n x ≡ Equal → order m x ≡ Less → order n m ≡ Greater
above-equal n m x same below = above-of n m (alike_right nat_list_cmp_total n x m same ∙ below)

above-greater : (n m x : List ℕ) → order n x ≡ Greater → order m x ≡ Less → order n m ≡ Greater
above-greater n m x greater below =
    above-of n m (nat_list_cmp_total.trans m x n below (nat_list_cmp_total.antisymm x n ∙ ap ordering_reverse greater))

-- a name that comes first would be one more
one-more : (xs ys : List (List ℕ)) (y : List ℕ) → y ∷ xs ≡ ys → length ys ≡ length xs → ⊥
one-more xs ys y e same =
    let longer : suc (length xs) ≡ length ys = ap length e in
    omega (arith, longer, same)

behind-first : (x : List ℕ) (xs ys : List (List ℕ)) → x ∷ xs ≡ x ∷ ys → xs ≡ ys
behind-first x xs ys e = cc

-- a name that stands still stands when another is added
pub name-stays : (names : List (List ℕ)) (n m : List ℕ) → with_name names n ≡ names → with_name (with_name names m) n ≡ with_name names m
name-stays [] n m e = absurd (one-more [] [] n e refl)
name-stays (x ∷ xs) n m e = by_first (order n x) (order m x) refl refl e (name-stays xs n m)
  where
    by_first : (o p : Ordering) → order n x ≡ o → order m x ≡ p → placed_by o n x xs (with_name xs n) ≡ x ∷ xs
        → (with_name xs n ≡ xs → with_name (with_name xs m) n ≡ with_name xs m)
        → with_name (placed_by p m x xs (with_name xs m)) n ≡ placed_by p m x xs (with_name xs m)
    by_first Less p on by e rest = absurd (one-more (x ∷ xs) (x ∷ xs) n e refl)
    by_first Equal Less on by e rest =
        ap (λ (o : Ordering). placed_by o n m (x ∷ xs) (placed_by (order n x) n x xs (with_name xs n))) (above-equal n m x on by)
        ∙ ap (λ (o : Ordering). m ∷ placed_by o n x xs (with_name xs n)) on
    by_first Equal Equal on by e rest = ap (λ (o : Ordering). placed_by o n x xs (with_name xs n)) on
    by_first Equal Greater on by e rest = ap (λ (o : Ordering). placed_by o n x (with_name xs m) (with_name (with_name xs m) n)) on
    by_first Greater Less on by e rest =
        ap (λ (o : Ordering). placed_by o n m (x ∷ xs) (placed_by (order n x) n x xs (with_name xs n))) (above-greater n m x on by)
        ∙ ap (λ (o : Ordering). m ∷ placed_by o n x xs (with_name xs n)) on ∙ ap (λ (ys : List (List ℕ)). m ∷ ys) e
    by_first Greater Equal on by e rest = ap (λ (o : Ordering). placed_by o n x xs (with_name xs n)) on ∙ e
    by_first Greater Greater on by e rest =
        ap (λ (o : Ordering). placed_by o n x (with_name xs m) (with_name (with_name xs m) n)) on
        ∙ ap (λ (ys : List (List ℕ)). x ∷ ys) (rest (behind-first x (with_name xs n) xs e))

-- a name that was added stands
pub name-stands : (names : List (List ℕ)) (n : List ℕ) → with_name (with_name names n) n ≡ with_name names n
name-stands [] n = ap (λ (o : Ordering). placed_by o n n [] (n ∷ [])) (tied_itself nat_list_cmp_total n)
name-stands (x ∷ xs) n = by_first (order n x) refl (name-stands xs n)
  where
    by_first : (o : Ordering) → order n x ≡ o → with_name (with_name xs n) n ≡ with_name xs n
        → with_name (placed_by o n x xs (with_name xs n)) n ≡ placed_by o n x xs (with_name xs n)
    by_first Less on rest = ap (λ (o : Ordering). placed_by o n n (x ∷ xs) (with_name (x ∷ xs) n)) (tied_itself nat_list_cmp_total n)
    by_first Equal on rest = ap (λ (o : Ordering). placed_by o n x xs (with_name xs n)) on
    by_first Greater on rest =
        ap (λ (o : Ordering). placed_by o n x (with_name xs n) (with_name (with_name xs n) n)) on ∙ ap (λ (ys : List (List ℕ)). x ∷ ys) rest

-- the same of the name that is kept of a path
kept-stays : (names : List (List ℕ)) (o p : Option (List ℕ)) → with_kept names o ≡ names → with_kept (with_kept names p) o ≡ with_kept names p
kept-stays names None p e = refl
kept-stays names (Some n) None e = e
kept-stays names (Some n) (Some m) e = name-stays names n m e

kept-stands : (names : List (List ℕ)) (o : Option (List ℕ)) → with_kept (with_kept names o) o ≡ with_kept names o
kept-stands names None = refl
kept-stands names (Some n) = name-stands names n

path-stays : (fronts : List (List ℕ)) (names ps : List (List ℕ)) (o : Option (List ℕ)) → with_kept names o ≡ names
    → with_kept (with_paths fronts names ps) o ≡ with_paths fronts names ps
path-stays fronts names [] o e = e
path-stays fronts names (p ∷ ps) o e = path-stays fronts (with_kept names (kept_name fronts p)) ps o (kept-stays names o (kept_name fronts p) e)

-- and of paths
pub paths-stay : (fronts : List (List ℕ)) (names ps qs : List (List ℕ)) → EachStands fronts names ps → EachStands fronts (with_paths fronts names qs) ps
paths-stay fronts names [] qs each = tt
paths-stay fronts names (p ∷ ps) qs each = (path-stays fronts names qs (kept_name fronts p) each.0, paths-stay fronts names ps qs each.1)

pub paths-stand : (fronts : List (List ℕ)) (names ps : List (List ℕ)) → EachStands fronts (with_paths fronts names ps) ps
paths-stand fronts names [] = tt
paths-stand fronts names (p ∷ ps) = (
  path-stays fronts (with_kept names (kept_name fronts p)) ps (kept_name fronts p) (kept-stands names (kept_name fronts p)),
  paths-stand fronts (with_kept names (kept_name fronts p)) ps,
)

pub stand-same : (fronts : List (List ℕ)) (names ps : List (List ℕ)) → EachStands fronts names ps → names ≡ with_paths fronts names ps
stand-same fronts names [] each = refl
stand-same fronts names (p ∷ ps) each =
    stand-same fronts names ps each.1 ∙ ap (λ (ns : List (List ℕ)). with_paths fronts ns ps) (sym each.0)
