-- The laws that the proofs of this crate name.
use Rattle.std.proofs.Common.{◌≡◌, ℕ, ◌+◌, ◌-◌, ◌<◌, ◌≤◌, ◌&&◌, not, nat_lt, false, IsTrue, List, [], ◌∷◌, ◌++◌, length, take, drop, get_or, Option, Some, refl, sym, ap, subst, ◌∙◌, arith}
use Rattle.std.proofs.lemmas.List.{take_more}
use Rattle.std.proofs.lemmas.Bool.{leb-true, ne_eqb}
use Rattle.dw_base.specs.InlinePaths.{inline_fits}
use Rattle.dw_base.specs.Paths.{slash, without_end_slashes, MapPair, PathMap, IsPathMap, first_of, has_base, is_prefix, mapped_by, mapped_path, matching, may_add, most_pairs, pair_of, path_map, with_pair}
use Rattle.dw_base.specs.Texts.{has_nul}
use Rattle.dw_base.proofs.PathLaws.{without_end_slashes-slash, without_end_slashes-other, IsPathMap-added, IsPathMap-made, has_nul-mapped_path, length-mapped_path}
use Rattle.dw_paths.proofs.InlineLaws.{inline-bare, inline-room}

-- one slash less
pub cut-slash : (xs : List ℕ) (n : ℕ) → 0 < n → n ≤ length xs → get_or xs (n - 1) 0 ≡ 47 → without_end_slashes (take n xs) ≡ without_end_slashes xs
    → without_end_slashes (take (n - 1) xs) ≡ without_end_slashes xs
cut-slash xs n some within slash_there same =
    let whole : n ≡ n - 1 + 1 = omega arith in
    let last : take n xs ≡ take (n - 1) xs ++ slash ∷ [] =
    ap (λ (k : ℕ). take k xs) whole ∙ take_more xs (n - 1) 0 (omega arith) ∙ ap (λ (b : ℕ). take (n - 1) xs ++ b ∷ []) slash_there in
    sym (without_end_slashes-slash (take (n - 1) xs)) ∙ ap without_end_slashes (sym last) ∙ same

-- where the last byte is no slash, none is cut off
pub cut-other : (xs : List ℕ) (n : ℕ) → 0 < n → n ≤ length xs → (get_or xs (n - 1) 0 ≡ 47 → ⊥) → without_end_slashes (take n xs) ≡ without_end_slashes xs
    → take n xs ≡ without_end_slashes xs
cut-other xs n some within other same =
    let whole : n ≡ n - 1 + 1 = omega arith in
    let b : ℕ = get_or xs (n - 1) 0 in
    let last : take n xs ≡ take (n - 1) xs ++ b ∷ [] = ap (λ (k : ℕ). take k xs) whole ∙ take_more xs (n - 1) 0 (omega arith) in
    last ∙ sym (without_end_slashes-other (take (n - 1) xs) b (ne_eqb b slash other)) ∙ ap without_end_slashes (sym last) ∙ same

pub ruleset slash_rules = (cut-slash, cut-other)

-- the pair of two words makes a map
pub map-made : (base dest : List ℕ) (p : MapPair) (ps : List MapPair) → ps ≡ p ∷ [] → p ≡ pair_of base dest → IsTrue (is_prefix base) → IsTrue (is_prefix dest)
    → IsPathMap (record { pairs = ps })
unfolding path_map
map-made base dest p ps one is base_fit dest_fit =
    let whole : ps ≡ pair_of base dest ∷ [] = one ∙ ap (λ (q : MapPair). q ∷ []) is in
    subst (λ (qs : List MapPair). IsPathMap (record { pairs = qs })) (sym whole) (IsPathMap-made base dest base_fit dest_fit)

pub ruleset map_rules = (map-made)

-- one that may be added makes a map of a map
pub map-added : (base dest : List ℕ) (ps qs : List MapPair) → qs ≡ ps ++ pair_of base dest ∷ [] → IsPathMap (record { pairs = ps })
    → IsTrue (is_prefix base && is_prefix dest && not (has_base ps (without_end_slashes base)) && nat_lt (length ps) most_pairs) → IsPathMap (record { pairs = qs })
unfolding may_add with_pair
map-added base dest ps qs more h may =
    subst (λ (rs : List MapPair). IsPathMap (record { pairs = rs })) (sym more) (IsPathMap-added (record { pairs = ps }) base dest h may)

-- there is a first pair
pub some-pairs : (ps slice : List MapPair) → slice ≡ ps → IsPathMap (record { pairs = ps }) → 0 < length slice
some-pairs ps slice same h = subst (λ (qs : List MapPair). 0 < length qs) (sym same) h.some

pub first-is : (ps : List MapPair) (d : MapPair) → 0 < length ps → get_or ps 0 d ≡ first_of ps
first-is [] d some = absurd (omega (arith, some))
first-is (p ∷ ps) d some = refl

-- a copy of the pairs makes the map
pub copy-map : (ps qs : List MapPair) → qs ≡ ps → IsPathMap (record { pairs = ps }) → IsPathMap (record { pairs = qs })
copy-map ps qs same h = subst (λ (rs : List MapPair). IsPathMap (record { pairs = rs })) (sym same) h

pub copy-slice : (ps slice qs : List MapPair) → qs ≡ slice → slice ≡ ps → IsPathMap (record { pairs = ps }) → IsPathMap (record { pairs = qs })
copy-slice ps slice qs same lent h = copy-map ps qs (same ∙ lent) h

pub ruleset add_rules = (map-added, copy-map)

pub ruleset first_rules = (some-pairs, first-is, copy-slice)

-- what holds of a mapped path
pub mapped-no_nul : (m : PathMap) (t path : List ℕ) → path ≡ mapped_path m t → IsPathMap m → has_nul t ≡ false → has_nul path ≡ false
mapped-no_nul m t path e p bare = rw e (has_nul-mapped_path m t p bare)

pub mapped-within : (m : PathMap) (t path : List ℕ) → path ≡ mapped_path m t → IsPathMap m → length path ≤ 4096 + length t
mapped-within m t path e p = rw e (length-mapped_path m t p)

pub ruleset path_rules = (mapped-no_nul, mapped-within)

pub ruleset inline_rules = (inline-bare, inline-room)

-- a mapped path that fits is that of the pair that counts
pub fits-pair : (m : PathMap) (t : List ℕ) (p : MapPair) → IsTrue (inline_fits m t) → Some p ≡ matching m.pairs t → length (p.dest ++ drop (length p.base) t) ≤ length t
unfolding mapped_path
fits-pair m t p fits is =
    let same : mapped_by (matching m.pairs t) t ≡ p.dest ++ drop (length p.base) t = ap (λ (o : Option MapPair). mapped_by o t) (sym is) in
    subst (λ (path : List ℕ). length path ≤ length t) same (leb-true _ _ fits)

pub ruleset fitted_rules = (fits-pair)
