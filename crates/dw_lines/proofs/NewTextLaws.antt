-- The new place of a text that is named as a path, and of another: what is known, and one more.
use Rattle.std.proofs.Common.{Bool, true, false, ◌≡◌, ◌≢◌, ℕ, List, [], Option, None, refl, ap}
use Rattle.std.specs.Map.{lookup}
use Rattle.std.specs.Prelude.{nat_eq}
use Rattle.dw_lines.specs.NewTexts.{AddsPlace, KeepsPlace, KnownPlaces, known_by}

pub path-place : (p : KnownPlaces) (path : Bool) (old : ℕ) (o : Option ℕ) → path ≡ true → o ≡ lookup (nat_eq old) p.paths → o ≡ known_by p path old
path-place p false old o is e = absurd cc
path-place p true old o is e = e

pub text-place : (p : KnownPlaces) (path : Bool) (old : ℕ) (o : Option ℕ) → path ≡ false → o ≡ lookup (nat_eq old) p.texts → o ≡ known_by p path old
text-place p false old o is e = e
text-place p true old o is e = absurd cc

pub ruleset get_laws = (path-place, text-place)

-- none is known
pub none-known : (p : KnownPlaces) (path : Bool) (old : ℕ) → p.paths ≡ [] → p.texts ≡ [] → known_by p path old ≡ None
none-known p true old paths texts = ap (λ (xs : List (ℕ × ℕ)). lookup (nat_eq old) xs) paths
none-known p false old paths texts = ap (λ (xs : List (ℕ × ℕ)). lookup (nat_eq old) xs) texts

-- one more
pub path-added : (a b : KnownPlaces) (path : Bool) (at place : ℕ) → path ≡ true → KeepsPlace (λ o. lookup (nat_eq o) a.paths) (λ o. lookup (nat_eq o) b.paths) at place
    → b.texts ≡ a.texts → AddsPlace (known_by a) (known_by b) path at place
path-added a b false at place is k same = absurd cc
path-added a b true at place is k same = record { here = k; others = by_path }
  where
    by_path : (p : Bool) (o : ℕ) → p ≢ true → known_by b p o ≡ known_by a p o
    by_path true o other = absurd (other refl)
    by_path false o other = ap (λ (xs : List (ℕ × ℕ)). lookup (nat_eq o) xs) same

pub text-added : (a b : KnownPlaces) (path : Bool) (at place : ℕ) → path ≡ false → KeepsPlace (λ o. lookup (nat_eq o) a.texts) (λ o. lookup (nat_eq o) b.texts) at place
    → b.paths ≡ a.paths → AddsPlace (known_by a) (known_by b) path at place
text-added a b true at place is k same = absurd cc
text-added a b false at place is k same = record { here = k; others = by_path }
  where
    by_path : (p : Bool) (o : ℕ) → p ≢ false → known_by b p o ≡ known_by a p o
    by_path false o other = absurd (other refl)
    by_path true o other = ap (λ (xs : List (ℕ × ℕ)). lookup (nat_eq o) xs) same

pub ruleset add_laws = (path-added, text-added)
