-- The map of paths that are held inline, as `DW_FORM_string` holds them: the mapped path takes the room of
-- the old one. This project's profile: slashes fill the room behind the destination of the pair that counts.
use Rattle.std.specs.Prelude.{Bool, ℕ, ◌-◌, nat_le, if◌then◌else◌, List, ◌++◌, length, drop, replicate, Option, Some, None}
use Rattle.dw_base.specs.Paths.{slash, MapPair, PathMap, matching, mapped_path}

-- so many slashes
abbrev pub slashes : ℕ → List ℕ
slashes n = replicate n slash

-- a mapped path that isn't longer fits the room of the old one
abbrev pub inline_fits : PathMap → List ℕ → Bool
inline_fits m t = nat_le (length (mapped_path m t)) (length t)

-- the mapped path in the room of the old one: the destination that counts, as many slashes as the mapped path is
-- shorter, and what follows its base; a path for which no pair counts stays
abbrev pub fitted_by : Option MapPair → List ℕ → List ℕ
fitted_by None t = t
fitted_by (Some p) t = p.dest ++ slashes (length t - length (p.dest ++ drop (length p.base) t)) ++ drop (length p.base) t

unfoldable pub mapped_inline : PathMap → List ℕ → List ℕ
mapped_inline m t = fitted_by (matching m.pairs t) t

-- the inline path that a path becomes: none where the mapped path is longer
abbrev pub inline_path : PathMap → List ℕ → Option (List ℕ)
inline_path m t = if inline_fits m t then Some (mapped_inline m t) else None
