-- A map with one pair more, and with so many, read one after another in a loop.
use Rattle.std.proofs.Common.{◌≡◌, ℕ, suc, ◌-◌, ◌+◌, ◌≤◌, ◌<◌, Bool, false, ◌&&◌, not, List, [], ◌∷◌, ◌++◌, length, Ok, Err, refl, sym, ap, ◌∙◌, append_assoc, arith}
use Rattle.std.specs.Prelude.{IsTrue, nat_lt, ◌||◌}
use Rattle.std.specs.List.{list_any}
use Rattle.std.proofs.lemmas.Bool.{lt-ltb}
use Rattle.std.proofs.lemmas.List.{append-nil, length-append}
use Rattle.dw_base.specs.Paths.{MapPair, PathMap, has_base, is_prefix, may_add, most_pairs, without_end_slashes}
use Rattle.dw_base.specs.Texts.{same_text}
use Rattle.work_texts.specs.declared.stop.Stop.{Stop}
use Rattle.work_texts.specs.declared.stop.Stop.TheVariants as stop
use Rattle.work_texts.specs.Reading.{Reading, ◌>>=◌, Stops, each_at, pair_at, behind_pairs, added_at, pairs_at}
use Rattle.work_texts.proofs.Formats.{bind_ok, bind_err, FailsIn, fails_first, fails_second, ok_is}
use Rattle.work_texts.proofs.Words.{and_true}

-- a pair has the base where its own is the same text
pub any-is : (ps : List MapPair) (base : List ℕ) → list_any (λ p. same_text p.base base) ps ≡ has_base ps base
any-is [] base = refl
any-is (p ∷ ps) base = ap (λ (more : Bool). same_text p.base base || more) (any-is ps base)

-- a pair of two words whose base isn't there yet may be added where there is room
pub may-be : (m : PathMap) (base dest : List ℕ) → IsTrue (is_prefix base) → IsTrue (is_prefix dest) → has_base m.pairs (without_end_slashes base) ≡ false → length m.pairs < 64 → IsTrue (may_add m base dest)
unfolding may_add
may-be m base dest b d new room =
    and_true (is_prefix base && is_prefix dest && not (has_base m.pairs (without_end_slashes base))) (nat_lt (length m.pairs) most_pairs)
    (and_true (is_prefix base && is_prefix dest) (not (has_base m.pairs (without_end_slashes base))) (and_true (is_prefix base) (is_prefix dest) b d) (ap not new))
    (lt-ltb (length m.pairs) most_pairs room)

pub ruleset room_rules = (may-be)

abbrev pub map_of : List MapPair → PathMap
map_of ps = record { pairs = ps }

-- a map with a pair that was read
abbrev put : PathMap → MapPair × List ℕ → Reading PathMap
put m p = Ok (map_of (behind_pairs m.pairs p.0), p.1)

-- the map of what was read so far
abbrev with_front : List MapPair → Reading (List MapPair) → Reading PathMap
with_front front read = read >>= λ more. Ok (map_of (front ++ more.0), more.1)

regroup : (front : List MapPair) (p : MapPair) (read : Reading (List MapPair)) → with_front front (read >>= λ x. Ok (p ∷ x.0, x.1)) ≡ with_front (behind_pairs front p) read
regroup front p (Ok x) = ap (λ (ps : List MapPair). Ok (map_of ps, x.1)) (sym (append_assoc front (p ∷ []) x.0))
regroup front p (Err e) = refl

-- the first of so many, and the rest
goes : (m : PathMap) (p : MapPair) (n : ℕ) (bytes rest : List ℕ) → pair_at m.pairs bytes ≡ Ok (p, rest) → pairs_at (suc n) m bytes ≡ pairs_at n (map_of (behind_pairs m.pairs p)) rest
unfolding each_at pairs_at
goes m p n bytes rest h = rw h (regroup m.pairs p (each_at pair_at behind_pairs n (behind_pairs m.pairs p) rest))

-- one pair more of so many
pub pairs-go : (m more : PathMap) (count i : ℕ) (bytes after : List ℕ) (whole : Reading PathMap) → i < count → added_at m bytes ≡ Ok (more, after)
    → pairs_at (count - i) m bytes ≡ whole → pairs_at (count - (i + 1)) more after ≡ whole
unfolding added_at
pairs-go m more count i bytes after whole lt h so_far =
    let k : count - i ≡ suc (count - (i + 1)) = omega arith in
    let b = bind_ok (pair_at m.pairs bytes) (put m) (more, after) h in
    let q = ok_is (map_of (behind_pairs m.pairs b.0.0), b.0.1) (more, after) b.2 in
    let left : Reading PathMap = pairs_at (count - (i + 1)) (map_of (behind_pairs m.pairs b.0.0)) b.0.1 in
    let one : pairs_at (count - i) m bytes ≡ left = ap (λ (n : ℕ). pairs_at n m bytes) k ∙ goes m b.0.0 (count - (i + 1)) bytes b.0.1 b.1 in
    ap (λ (r : PathMap × List ℕ). pairs_at (count - (i + 1)) r.0 r.1) (sym q) ∙ sym one ∙ so_far

-- a pair that is bad
pair_fails : (m : PathMap) (bytes : List ℕ) (left : ℕ) → FailsIn (pair_at m.pairs bytes) (put m) left → pair_at m.pairs bytes ≡ Err left
pair_fails m bytes left (fails_first h) = h
pair_fails m bytes left (fails_second p h g) = absurd cc

pub pairs-end : (e : Stop) (m : PathMap) (count i : ℕ) (bytes : List ℕ) (whole : Reading PathMap) → i < count → Stops e (added_at m bytes)
    → pairs_at (count - i) m bytes ≡ whole → Stops e whole
unfolding each_at added_at pairs_at
pairs-end stop.NoMemory m count i bytes whole lt h so_far = tt
pairs-end (stop.Field left) m count i bytes whole lt h so_far =
    let k : count - i ≡ suc (count - (i + 1)) = omega arith in
    let f = pair_fails m bytes left (bind_err (pair_at m.pairs bytes) (put m) left h) in
    let one : pairs_at (count - i) m bytes ≡ Err left = rw (k, f) refl in
    sym so_far ∙ one

-- no pair is left
pub pairs-done : (m : PathMap) (count i : ℕ) (bytes : List ℕ) (whole : Reading PathMap) → count ≤ i → pairs_at (count - i) m bytes ≡ whole → whole ≡ Ok (m, bytes)
unfolding each_at pairs_at
pairs-done m count i bytes whole le so_far =
    let k : count - i ≡ 0 = omega arith in
    let one : pairs_at (count - i) m bytes ≡ Ok (m, bytes) = rw k (ap (λ (ps : List MapPair). Ok (map_of ps, bytes)) (append-nil m.pairs)) in
    sym so_far ∙ one

-- each pair makes a map longer by one
pub added-long : (m more : PathMap) (bytes after : List ℕ) → added_at m bytes ≡ Ok (more, after) → length more.pairs ≡ length m.pairs + 1
unfolding added_at
added-long m more bytes after h =
    let b = bind_ok (pair_at m.pairs bytes) (put m) (more, after) h in
    let q = ok_is (map_of (behind_pairs m.pairs b.0.0), b.0.1) (more, after) b.2 in
    ap (λ (r : PathMap × List ℕ). length r.0.pairs) (sym q) ∙ length-append m.pairs (b.0.0 ∷ [])
