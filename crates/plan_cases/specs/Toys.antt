-- A small judge of files, for tests: a file says by its first three bytes what becomes of it.
use Rattle.std.proofs.Common.{◌≡◌, ◌<◌, ℕ, zero, suc, Bool, true, false, ◌||◌, List, [], ◌∷◌, ◌++◌, get_or, refl, sym, ◌∙◌, ap, subst, lit<}
use Rattle.std.specs.Prelude.{◌==◌, if◌then◌else◌, Option, Some, None, IsTrue}
use Rattle.hex.specs.Hex.{IsBytes}
use Rattle.work_texts.specs.Rules.{may_have_id}
use Rattle.job_types.specs.declared.outcome.LeftWhy.TheVariants.{NoElf}
use Rattle.job_types.specs.declared.outcome.Verdict.{Verdict}
use Rattle.job_types.specs.declared.outcome.Verdict.TheVariants.{Left, Edited, Split}
use Rattle.root_plan.specs.Verdicts.{JudgeView, IsJudge, Made, AreSources, id_of}
use Rattle.root_plan.specs.Verdicts.{Made as made}

-- the name of its one source, by its second byte: 0 says that it has none
abbrev pub toy_names : ℕ → List (List ℕ)
toy_names c = if c == 0 then [] else (c ∷ []) ∷ []

-- its build-id, by its third byte: 0 says that it has none
abbrev pub toy_id : ℕ → Option (List ℕ)
toy_id c = if c == 0 then None else if c == 1 then Some (171 ∷ 1 ∷ []) else Some (171 ∷ 2 ∷ [])

-- what becomes of it, by its first byte: `E` is edited, `S` split and `R` refused
abbrev pub toy_said : ℕ → ℕ → ℕ → Option Verdict
toy_said kind name id =
    if kind == 69 then Some (Edited (toy_names name)) else if kind == 83 then Some (Split (toy_id id) (toy_names name))
    else if kind == 82 then None else Some (Left NoElf)

abbrev pub toy_verdict : List ℕ → Option Verdict
toy_verdict bytes = toy_said (get_or bytes 0 0) (get_or bytes 1 0) (get_or bytes 2 0)

-- an edited file has one byte more, and of the two files that it is split into each has another one
abbrev pub toy_view : JudgeView
toy_view = record {
  says = λ bytes name verdict. toy_verdict bytes ≡ Some verdict;
  edits = λ bytes file. file ≡ bytes ++ 101 ∷ [];
  pairs = λ bytes name pair. pair ≡ record { stripped = bytes ++ 115 ∷ []; debug = bytes ++ name };
}

-- ### It is a judge

abbrev verdict_in : Option Verdict → Verdict
verdict_in None = Left NoElf
verdict_in (Some v) = v

abbrev IsUnsaid : Option Verdict → Type 0
IsUnsaid None = Unit {0}
IsUnsaid (Some v) = ⊥

sources-by : (c : ℕ) (b : Bool) → (c == 0) ≡ b → AreSources (if b then [] else (c ∷ []) ∷ [])
sources-by c true e = record { rise = refl; plain = tt }
sources-by c false e = record { rise = refl; plain = (ap (λ (t : Bool). t || false) e, tt) }

two-bytes : (a b : ℕ) → a < 256 → b < 256 → IsBytes (a ∷ b ∷ [])
two-bytes a b l m zero = l
two-bytes a b l m (suc zero) = m
two-bytes a b l m (suc (suc i)) = lit< tt

no-bytes : IsBytes []
no-bytes i = lit< tt

id-by : (zero_id one_id : Bool) → IsTrue (may_have_id true (id_of (if zero_id then None else if one_id then Some (171 ∷ 1 ∷ []) else Some (171 ∷ 2 ∷ []))))
id-by true one_id = refl
id-by false true = refl
id-by false false = refl

bytes-by : (zero_id one_id : Bool) → IsBytes (id_of (if zero_id then None else if one_id then Some (171 ∷ 1 ∷ []) else Some (171 ∷ 2 ∷ [])))
bytes-by true one_id = no-bytes
bytes-by false true = two-bytes 171 1 (lit< tt) (lit< tt)
bytes-by false false = two-bytes 171 2 (lit< tt) (lit< tt)

said-by : (e s r : Bool) (bytes name : List ℕ) (c i : ℕ) (verdict : Verdict)
    → (if e then Some (Edited (toy_names c)) else if s then Some (Split (toy_id i) (toy_names c)) else if r then None else Some (Left NoElf)) ≡ Some verdict
    → Made toy_view bytes name verdict
said-by true s r bytes name c i verdict is =
    subst (Made toy_view bytes name) (ap verdict_in is) (made.made_one {names = toy_names c} {file = bytes ++ 101 ∷ []} refl (sources-by c (c == 0) refl))
said-by false true r bytes name c i verdict is =
    subst (Made toy_view bytes name) (ap verdict_in is)
    (made.made_two {id = toy_id i} {file = bytes ++ 101 ∷ []} {names = toy_names c}
    {pair = record { stripped = (bytes ++ 101 ∷ []) ++ 115 ∷ []; debug = (bytes ++ 101 ∷ []) ++ name }} refl refl (id-by (i == 0) (i == 1)) (bytes-by (i == 0) (i == 1)) (sources-by c (c == 0) refl))
said-by false false true bytes name c i verdict is = absurd (subst IsUnsaid is tt)
said-by false false false bytes name c i verdict is = subst (Made toy_view bytes name) (ap verdict_in is) made.not_made

pub toy_makes : IsJudge toy_view
toy_makes = record {
  makes = λ bytes name verdict is. said-by (get_or bytes 0 0 == 69) (get_or bytes 0 0 == 83) (get_or bytes 0 0 == 82) bytes name (get_or bytes 1 0) (get_or bytes 2 0) verdict is;
  one_verdict = λ bytes name x y a b. ap verdict_in (sym a ∙ b);
  one_file = λ bytes x y a b. a ∙ sym b;
  one_pair = λ bytes name x y a b. a ∙ sym b;
}
