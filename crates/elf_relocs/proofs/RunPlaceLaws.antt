-- Runs one behind another: where a byte comes to stand is said by the last that begins at its place or before it.
use Rattle.std.proofs.Common.{Bool, false, ◌≡◌, ℕ, zero, suc, ◌+◌, ◌-◌, ◌<◌, ◌≤◌, nat_le, if◌then◌else◌, List, [], ◌∷◌, ◌++◌, length, refl, ap, ◌∙◌, arith}
use Rattle.std.specs.Bool.{⊤}
use Rattle.std.specs.Prelude.{slice_index_or}
use Rattle.std.proofs.lemmas.Bool.{le-leb}
use Rattle.std.proofs.lemmas.Bool.Decides.{nat_tests}
use Rattle.elf_relocs.specs.Runs.{RunsRise, no_run, place_by, place_from, run_start}
use Rattle.elf_relocs.specs.declared.runs.Run.{Run}

-- they begin at a place or behind it
abbrev pub BeginFrom : ℕ → List Run → Type 0
BeginFrom p [] = ⊤
BeginFrom p (r ∷ rs) = (p ≤ r.old) × BeginFrom p rs

pub begin-further : (p q : ℕ) (rs : List Run) → p ≤ q → BeginFrom q rs → BeginFrom p rs
begin-further p q [] le h = tt
begin-further p q (r ∷ rs) le h = let here = h.0 in (omega (arith, le, here), begin-further p q rs le h.1)

pub place-append : (now : ℕ) (xs ys : List Run) (p : ℕ) → place_from now (xs ++ ys) p ≡ place_from (place_from now xs p) ys p
place-append now [] ys p = refl
place-append now (x ∷ xs) ys p = place-append (if nat_le x.old p then x.new + (p - x.old) else now) xs ys p

pub place-behind : (now : ℕ) (ys : List Run) (p q : ℕ) → BeginFrom q ys → p < q → place_from now ys p ≡ now
place-behind now [] p q h lt = refl
place-behind now (y ∷ ys) p q h lt =
    let below = h.0 in
    let test : nat_le y.old p ≡ false = grind (arith, nat_tests, lt, below) in
    ap (λ (b : Bool). place_from (if b then y.new + (p - y.old) else now) ys p) test ∙ place-behind now ys p q h.1 lt

-- the run that begins last
pub place-here : (xs ys : List Run) (r : Run) (p q : ℕ) → r.old ≤ p → BeginFrom q ys → p < q → place_by (xs ++ r ∷ ys) p ≡ r.new + (p - r.old)
place-here xs ys r p q le h lt =
    place-append p xs (r ∷ ys) p
    ∙ ap (λ (b : Bool). place_from (if b then r.new + (p - r.old) else place_from p xs p) ys p) (le-leb r.old p le)
    ∙ place-behind (r.new + (p - r.old)) ys p q h lt

-- each begins behind the one before it
abbrev pub RiseFrom : ℕ → List Run → Type 0
RiseFrom p [] = ⊤
RiseFrom p (r ∷ rs) = (p ≤ r.old) × RiseFrom (suc r.old) rs

pub rise-begin : (p : ℕ) (rs : List Run) → RiseFrom p rs → BeginFrom p rs
rise-begin p [] h = tt
rise-begin p (r ∷ rs) h = let here = h.0 in (h.0, begin-further p (suc r.old) rs (omega (arith, here)) (rise-begin (suc r.old) rs h.1))

pub rise-further : (p q : ℕ) (rs : List Run) → p ≤ q → RiseFrom q rs → RiseFrom p rs
rise-further p q [] le h = tt
rise-further p q (r ∷ rs) le h = let here = h.0 in (omega (arith, le, here), h.1)

at-start : (p j : ℕ) (rs : List Run) → RiseFrom p rs → j < length rs → p ≤ run_start (slice_index_or rs j no_run)
at-start p j [] h lt = absurd (omega (arith, lt))
at-start p zero (r ∷ rs) h lt = h.0
at-start p (suc j) (r ∷ rs) h lt =
    let here = h.0 in
    let more = at-start (suc r.old) j rs h.1 (omega (arith, lt)) in
    omega (arith, here, more)

rise-pair : (p i j : ℕ) (rs : List Run) → RiseFrom p rs → i < j → j < length rs → run_start (slice_index_or rs i no_run) < run_start (slice_index_or rs j no_run)
rise-pair p i zero rs h lt inside = absurd (omega (arith, lt))
rise-pair p i (suc j) [] h lt inside = absurd (omega (arith, inside))
rise-pair p zero (suc j) (r ∷ rs) h lt inside =
    let more = at-start (suc r.old) j rs h.1 (omega (arith, inside)) in
    omega (arith, more)
rise-pair p (suc i) (suc j) (r ∷ rs) h lt inside = rise-pair (suc r.old) i j rs h.1 (omega (arith, lt)) (omega (arith, inside))

pub runs-rise : (p : ℕ) (rs : List Run) → RiseFrom p rs → RunsRise rs
runs-rise p rs h = record { rise = λ i j lt inside. rise-pair p i j rs h lt inside }
