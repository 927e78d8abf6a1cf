use Rattle.std.proofs.Common.{◌≡◌, drop, map, reverse}
use Rattle.dw_paths.specs.CleanPaths.{left_of}
use Rattle.dw_paths.proofs.CleanLaws.{left_behind}
use Rattle.dw_paths.proofs.clean.left_parts.Given as goal

-- what is left so far, and the components that come
abbrev pub invariant-parts : goal.invariant-parts
invariant-parts l = left_behind l.rooted (reverse (map (λ p. p.now) l.left.items)) (map (λ p. p.now) (drop l.part-index l.parts)) ≡ left_of l.rooted (reverse (map (λ p. p.now) l.parts))
