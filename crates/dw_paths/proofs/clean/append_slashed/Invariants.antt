use Rattle.std.proofs.Common.{◌≡◌, ◌++◌, drop, map}
use Rattle.dw_paths.specs.CleanPaths.{slashed}
use Rattle.dw_paths.proofs.clean.append_slashed.Given as goal

-- what is written so far, and the components that come
abbrev pub invariant-parts : goal.invariant-parts
invariant-parts l = l.path.items ++ slashed (map (λ p. p.now) (drop l.part-index l.parts)) ≡ l.initial.path.items ++ slashed (map (λ p. p.now) l.parts)
