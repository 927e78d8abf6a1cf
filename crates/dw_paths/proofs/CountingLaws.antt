-- Laws of the pair that counts: it may be found pair by pair from the front, and its base is no longer than the path.
use Rattle.std.proofs.Common.{◌≡◌, ℕ, suc, ◌+◌, ◌<◌, ◌≤◌, Bool, true, false, if◌then◌else◌, nat_lt, Option, Some, None, List, ◌∷◌, length, drop, get_or, refl, sym, ap, ◌∙◌, arith}
use Rattle.std.proofs.lemmas.List.{drop_all}
use Rattle.std.proofs.Math.Seq.{drop-cons}
use Rattle.dw_base.specs.Paths.{MapPair, IsPathMap, lies_under, longer, matching}
use Rattle.dw_base.proofs.LessLaws.{less-back, less-on}
use Rattle.dw_base.proofs.PathLaws.{Counts, IsMapPair-dest, counting, length-lies_under, of-pair}
use Rattle.dw_paths.specs.CountingPairs.{counted_with, longest_of}

-- one of two pairs
abbrev pick : Bool → MapPair → MapPair → Option MapPair
pick b p q = if b then Some q else Some p

-- of three pairs the longest is found from either end
longer-three : (p q r : MapPair) (a b c : Bool) → nat_lt (length p.base) (length q.base) ≡ a → nat_lt (length q.base) (length r.base) ≡ b
    → nat_lt (length p.base) (length r.base) ≡ c → longest_of (pick a p q) (Some r) ≡ longest_of (Some p) (pick b q r)
longer-three p q r true true true d e f = rw (e, f) refl
longer-three p q r true true false d e f = let g : false ≡ true = sym f ∙ less-on (length p.base) (length q.base) (length r.base) d e in cc
longer-three p q r true false c d e f = rw (d, e) refl
longer-three p q r false true c d e f = refl
longer-three p q r false false true d e f = let g : false ≡ true = less-back (length p.base) (length q.base) (length r.base) d e f in cc
longer-three p q r false false false d e f = rw (d, f) refl

longest-three : (a b c : Option MapPair) → longest_of (longest_of a b) c ≡ longest_of a (longest_of b c)
longest-three None b c = refl
longest-three (Some p) None c = refl
longest-three (Some p) (Some q) None = by (nat_lt (length p.base) (length q.base))
  where
    by : (b : Bool) → longest_of (pick b p q) None ≡ pick b p q
    by true = refl
    by false = refl
longest-three (Some p) (Some q) (Some r) =
    longer-three p q r (nat_lt (length p.base) (length q.base)) (nat_lt (length q.base) (length r.base)) (nat_lt (length p.base) (length r.base)) refl refl refl

longest-none : (o : Option MapPair) → longest_of o None ≡ o
longest-none None = refl
longest-none (Some p) = refl

-- one pair more is the first of those that are left
counted-more : (found : Option MapPair) (p : MapPair) (ps : List MapPair) (t : List ℕ) → longest_of (counted_with found p t) (matching ps t) ≡ longest_of found (matching (p ∷ ps) t)
unfolding matching
counted-more found p ps t = by (lies_under p.base t)
  where
    by : (b : Bool) → longest_of (if b then longest_of found (Some p) else found) (matching ps t) ≡ longest_of found (if b then longer p (matching ps t) else matching ps t)
    by true = longest-three found (Some p) (matching ps t)
    by false = refl

front-of : (ps : List MapPair) (p : MapPair) (i : ℕ) → i < length ps → p ≡ get_or ps i p → drop i ps ≡ p ∷ drop (i + 1) ps
front-of ps p i lt is =
    let next : suc i ≡ i + 1 = omega arith in
    drop-cons ps i p lt ∙ ap (λ (n : ℕ). get_or ps i p ∷ drop n ps) next ∙ ap (λ (y : MapPair). y ∷ drop (i + 1) ps) (sym is)

-- the pair that counts so far, and those that are left
pub counting-next : (ps : List MapPair) (t : List ℕ) (i : ℕ) (p : MapPair) (found next : Option MapPair) → i < length ps → p ≡ get_or ps i p
    → longest_of found (matching (drop i ps) t) ≡ matching ps t → next ≡ counted_with found p t → longest_of next (matching (drop (i + 1) ps) t) ≡ matching ps t
counting-next ps t i p found next lt is same e =
    ap (λ (o : Option MapPair). longest_of o (matching (drop (i + 1) ps) t)) e ∙ counted-more found p (drop (i + 1) ps) t
    ∙ ap (λ (qs : List MapPair). longest_of found (matching qs t)) (sym (front-of ps p i lt is)) ∙ same

pub counting-end : (ps : List MapPair) (t : List ℕ) (i : ℕ) (found : Option MapPair) → length ps ≤ i → longest_of found (matching (drop i ps) t) ≡ matching ps t → found ≡ matching ps t
unfolding matching
counting-end ps t i found end same =
    sym (longest-none found) ∙ ap (λ (qs : List MapPair). longest_of found (matching qs t)) (sym (drop_all i ps end)) ∙ same

pub ruleset pair_rules = (counting-next, counting-end)

-- what holds of the pair that counts
counts : (ps slice : List MapPair) (t : List ℕ) (p : MapPair) → Some p ≡ matching slice t → slice ≡ ps → IsPathMap (record { pairs = ps }) → Counts t p
counts ps slice t p is same h =
    of-pair (Counts t) (matching ps t) p (is ∙ ap (λ (qs : List MapPair). matching qs t) same) (counting (record { pairs = ps }) t h)

pub counts-base : (ps slice : List MapPair) (t : List ℕ) (p : MapPair) → Some p ≡ matching slice t → slice ≡ ps → IsPathMap (record { pairs = ps })
    → length p.base ≤ length t
counts-base ps slice t p is same h = length-lies_under p.base t (counts ps slice t p is same h).under

pub counts-dest : (ps slice : List MapPair) (t : List ℕ) (p : MapPair) → Some p ≡ matching slice t → slice ≡ ps → IsPathMap (record { pairs = ps })
    → length p.dest ≤ 4096
counts-dest ps slice t p is same h = IsMapPair-dest p (counts ps slice t p is same h).fit

pub ruleset counts_rules = (counts-base, counts-dest)
