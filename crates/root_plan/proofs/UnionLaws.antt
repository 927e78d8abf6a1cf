-- The sources of a run are the sorted union of those of its files: they rise, and a name is among them where it is among
-- those of a file.
use Rattle.std.proofs.Common.{◌≡◌, ℕ, Bool, true, false, ◌&&◌, ◌||◌, List, [], ◌∷◌, if◌then◌else◌, Option, Some, None, refl, sym, ap, ◌∙◌}
use Rattle.std.specs.Prelude.{IsTrue}
use Rattle.std.specs.declared.cmp.Ordering.{Ordering}
use Rattle.std.specs.declared.cmp.Ordering.TheVariants.{Less, Equal, Greater}
use Rattle.std.specs.Ordering.{is_lt, ordering_reverse}
use Rattle.std.proofs.lemmas.Cmp.{nat_list_cmp_total}
use Rattle.dw_base.specs.Texts.{same_text, is_in}
use Rattle.work_texts.specs.Rules.{comes_after, rise_after}
use Rattle.root_plan.specs.Tallies.{placed_by, with_source, with_sources}
use Rattle.root_paths.proofs.PlaceLaws.{compared, same_path}

-- ### They rise

both-true : (a b : Bool) → a ≡ true → b ≡ true → (a && b) ≡ true
both-true true b e f = f
both-true false b e f = e

first-true : (a b : Bool) → (a && b) ≡ true → a ≡ true
first-true true b e = refl
first-true false b e = e

second-true : (a b : Bool) → (a && b) ≡ true → b ≡ true
second-true true b e = e
second-true false b e = cc

placed-rises : (o : Ordering) (last : Option (List ℕ)) (name x : List ℕ) (xs rest : List (List ℕ)) → compared name x ≡ o → comes_after last name ≡ true
    → comes_after last x ≡ true → rise_after (Some x) xs ≡ true → (is_lt (compared x name) ≡ true → rise_after (Some x) rest ≡ true) → rise_after last (placed_by o name x xs rest) ≡ true
placed-rises Less last name x xs rest o after first up more = both-true (comes_after last name) _ after (both-true (is_lt (compared name x)) (rise_after (Some x) xs) (ap is_lt o) up)
placed-rises Equal last name x xs rest o after first up more = both-true (comes_after last x) (rise_after (Some x) xs) first up
placed-rises Greater last name x xs rest o after first up more =
    both-true (comes_after last x) (rise_after (Some x) rest) first (more (ap is_lt (nat_list_cmp_total.antisymm x name ∙ ap ordering_reverse o)))

source-rises : (xs : List (List ℕ)) (name : List ℕ) (last : Option (List ℕ)) → comes_after last name ≡ true → rise_after last xs ≡ true → rise_after last (with_source xs name) ≡ true
source-rises [] name last after up = both-true (comes_after last name) true after refl
source-rises (x ∷ xs) name last after up =
    let rest : rise_after (Some x) xs ≡ true = second-true (comes_after last x) (rise_after (Some x) xs) up in
    placed-rises (compared name x) last name x xs (with_source xs name) refl after (first-true (comes_after last x) (rise_after (Some x) xs) up) rest
    (λ t. source-rises xs name (Some x) t rest)

pub sources-rise : (names sources : List (List ℕ)) → IsTrue (rise_after None sources) → IsTrue (rise_after None (with_sources sources names))
sources-rise [] sources up = up
sources-rise (name ∷ names) sources up = sources-rise names (with_source sources name) (source-rises sources name None refl up)

-- ### They are all

or-first : (a b r : Bool) → a ≡ b → (if b then true else r) ≡ (a || (if b then true else r))
or-first true b r e = ap (λ (x : Bool). if x then true else r) (sym e)
or-first false b r e = refl

or-turn : (a b r : Bool) → (if b then true else (a || r)) ≡ (a || (if b then true else r))
or-turn true true r = refl
or-turn true false r = refl
or-turn false b r = refl

front-in : (a r : Bool) → (if a then true else r) ≡ (a || r)
front-in true r = refl
front-in false r = refl

placed-in : (o : Ordering) (name x q : List ℕ) (xs rest : List (List ℕ)) → compared name x ≡ o → is_in rest q ≡ (same_text name q || is_in xs q)
    → is_in (placed_by o name x xs rest) q ≡ (same_text name q || is_in (x ∷ xs) q)
placed-in Less name x q xs rest o more = front-in (same_text name q) (is_in (x ∷ xs) q)
placed-in Equal name x q xs rest o more = or-first (same_text name q) (same_text x q) (is_in xs q) (ap (λ (t : List ℕ). same_text t q) (same_path name x o))
placed-in Greater name x q xs rest o more = ap (λ (t : Bool). if same_text x q then true else t) more ∙ or-turn (same_text name q) (same_text x q) (is_in xs q)

source-in : (xs : List (List ℕ)) (name q : List ℕ) → is_in (with_source xs name) q ≡ (same_text name q || is_in xs q)
source-in [] name q = front-in (same_text name q) false
source-in (x ∷ xs) name q = placed-in (compared name x) name x q xs (with_source xs name) refl (source-in xs name q)

or-again : (a b c : Bool) → (b || (a || c)) ≡ ((if a then true else b) || c)
or-again true true c = refl
or-again true false c = refl
or-again false b c = refl

pub sources-in : (names sources : List (List ℕ)) (q : List ℕ) → is_in (with_sources sources names) q ≡ (is_in names q || is_in sources q)
sources-in [] sources q = refl
sources-in (name ∷ names) sources q =
    sources-in names (with_source sources name) q ∙ ap (λ (t : Bool). is_in names q || t) (source-in sources name q) ∙ or-again (same_text name q) (is_in names q) (is_in sources q)
