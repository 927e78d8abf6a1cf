-- Laws of the inline map: the path that is made has the room's length, and no NUL that the path hasn't.
use Rattle.std.proofs.Common.{◌≡◌, ℕ, zero, suc, ◌-◌, ◌≤◌, false, IsTrue, List, ◌++◌, length, drop, refl, arith, Option, Some, None}
use Rattle.std.proofs.lemmas.Bool.{leb-true}
use Rattle.std.proofs.lemmas.List.{length-append, length-replicate}
use Rattle.dw_base.specs.Paths.{slash, MapPair, PathMap, IsPathMap, matching, mapped_by, mapped_path}
use Rattle.dw_base.specs.Texts.{has_nul}
use Rattle.dw_base.proofs.PathLaws.{is_prefix-parts, OfPair, Counts, counting}
use Rattle.dw_base.proofs.TextLaws.{has_nul-append_false, has_nul-drop}
use Rattle.dw_base.specs.InlinePaths.{slashes, inline_fits, fitted_by, mapped_inline}

has_nul-slashes : (n : ℕ) → has_nul (slashes n) ≡ false
has_nul-slashes zero = refl
has_nul-slashes (suc n) = has_nul-slashes n

inline-no_nul : (o : Option MapPair) (t : List ℕ) → OfPair (Counts t) o → has_nul t ≡ false → has_nul (fitted_by o t) ≡ false
inline-no_nul None t h e = e
inline-no_nul (Some p) t h e =
    let n : ℕ = length t - length (p.dest ++ drop (length p.base) t) in
    has_nul-append_false (p.dest ++ slashes n) (drop (length p.base) t)
    (has_nul-append_false p.dest (slashes n) (is_prefix-parts p.dest h.fit.dest).no_nul (has_nul-slashes n)) (has_nul-drop (length p.base) t e)

-- an inline path has no NUL that the path hasn't
pub has_nul-mapped_inline : (m : PathMap) (t : List ℕ) → IsPathMap m → has_nul t ≡ false → has_nul (mapped_inline m t) ≡ false
unfolding mapped_inline
has_nul-mapped_inline m t p bare = inline-no_nul (matching m.pairs t) t (counting m t p) bare

inline-length : (o : Option MapPair) (t : List ℕ) → length (mapped_by o t) ≤ length t → length (fitted_by o t) ≡ length t
inline-length None t fits = refl
inline-length (Some p) t fits =
    let rest : List ℕ = drop (length p.base) t in
    let n : ℕ = length t - length (p.dest ++ rest) in
    let whole : length (p.dest ++ slashes n ++ rest) ≡ length t =
    omega (arith, fits, length-append p.dest rest, length-append (p.dest ++ slashes n) rest, length-append p.dest (slashes n), length-replicate {A = ℕ} n slash) in
    whole

-- it is as long as the path
pub length-mapped_inline : (m : PathMap) (t : List ℕ) → IsTrue (inline_fits m t) → length (mapped_inline m t) ≡ length t
unfolding mapped_inline mapped_path
length-mapped_inline m t fits = inline-length (matching m.pairs t) t (leb-true _ _ fits)
