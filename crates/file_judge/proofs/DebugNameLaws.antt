-- The name of the debug file of a path has no NUL where the path has none, and the path of a job has none.
use Rattle.std.proofs.Common.{Bool, true, false, not, ◌≡◌, ℕ, ◌==◌, ◌&&◌, ◌||◌, nat_eq, if◌then◌else◌, List, [], ◌∷◌, length, refl}
use Rattle.std.specs.Prelude.{IsTrue, codes}
use Rattle.std.specs.List.{list_all, starts_with}
use Rattle.std.specs.Str.{is_utf8}
use Rattle.dw_base.specs.Paths.{slash}
use Rattle.dw_base.specs.Texts.{has_nul}
use Rattle.dw_base.proofs.TextLaws.{has_nul-append_false}
use Rattle.dw_paths.specs.Components.{components, is_name}
use Rattle.dw_paths.specs.PlainPaths.{is_plain}
use Rattle.work_texts.specs.Rules.{is_job_path}
use Rattle.root_plan.specs.Roots.{base_name, has_slash}
use Rattle.root_plan.specs.Targets.{debug_name}

behind-none : (a b : Bool) → (a || b) ≡ false → b ≡ false
behind-none false b e = e
behind-none true b e = cc

base_name-bare : (path : List ℕ) → has_nul path ≡ false → has_nul (base_name path) ≡ false
base_name-bare [] bare = refl
base_name-bare (b ∷ bs) bare = by_slash (has_slash (b ∷ bs)) (base_name-bare bs (behind-none (b == 0) (has_nul bs) bare))
  where
    by_slash : (t : Bool) → has_nul (base_name bs) ≡ false → has_nul (if t then base_name bs else b ∷ bs) ≡ false
    by_slash true rest = rest
    by_slash false rest = bare

pub debug_name-bare : (path : List ℕ) → has_nul path ≡ false → has_nul (debug_name path) ≡ false
unfolding debug_name
debug_name-bare path bare = has_nul-append_false (base_name path) (codes ".debug") (base_name-bare path bare) refl

first : (a b : Bool) → (a && b) ≡ true → a ≡ true
first true b e = refl
first false b e = e

second : (a b : Bool) → (a && b) ≡ true → b ≡ true
second true b e = e
second false b e = cc

not-true : (a : Bool) → not a ≡ true → a ≡ false
not-true false e = refl
not-true true e = cc

plain-bare : (path : List ℕ) → is_plain path ≡ true → has_nul path ≡ false
unfolding is_plain
plain-bare path e =
    let some : Bool = not (nat_eq (length path) 0) in
    let bare : Bool = not (has_nul path) in
    let below : Bool = not (starts_with nat_eq path (slash ∷ [])) in
    not-true (has_nul path) (second some bare (first (some && bare) below (first (some && bare && below) (list_all is_name (components path)) e)))

pub job_path-bare : (path : List ℕ) → IsTrue (is_job_path path) → has_nul path ≡ false
job_path-bare path e = plain-bare path (first (is_plain path) (is_utf8 path) e)
