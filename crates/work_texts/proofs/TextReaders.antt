-- The texts `plan` and `finished` of either version are read exactly.
use Rattle.std.proofs.Common.{◌≡◌, ℕ, ◌^◌, ◌<◌, ◌≤◌, Bool, false, List, [], ◌∷◌, ◌++◌, length, None, Ok, refl, sym, ap, ◌∙◌, arith}
use Rattle.std.specs.Prelude.{codes}
use Rattle.std.specs.Fmt.{decimal}
use Rattle.std.specs.List.{flat_map}
use Rattle.dw_base.specs.Texts.{has_nul}
use Rattle.work_texts.specs.declared.key.RunKey.{RunKey}
use Rattle.work_texts.specs.declared.plan.JobLine.{JobLine}
use Rattle.work_texts.specs.declared.plan.VersionedPlan.{VersionedPlan}
use Rattle.work_texts.specs.declared.plan.FinishedData.{FinishedData}
use Rattle.work_texts.specs.Fields.{Field, keyed_fields, job_fields, plan_rest, plan_word, finished_word, plan_text_fields, finished_fields}
use Rattle.work_texts.specs.Rules.{IsKeyIn, IsPlan, IsVersionedPlan, IsFinished, path_of}
use Rattle.work_texts.specs.Reading.{Reading, ◌>>=◌, value_at, word_in, choice_in, text_in, number_in, key_at, job_at, source_at, many_at, itself, plan_at, finished_at}
use Rattle.work_texts.proofs.Formats.{IsReader, then_reader, nothing_reader, same_reader}
use Rattle.work_texts.proofs.OneField.{IsSpelling}
use Rattle.work_texts.proofs.Words.{word_spelling, text_spelling, choice_spelling}
use Rattle.work_texts.proofs.Numerals.{IsWithin, number_spelling}
use Rattle.work_texts.proofs.ThenValue.{then_value}
use Rattle.work_texts.proofs.KeyReader.{key_reader}
use Rattle.work_texts.proofs.JobReader.{AreJobs, jobs_reader, AreSources, sources_reader}

abbrev most : ℕ
most = 4294967295

-- the first field says the version
plan_word_spelling : IsSpelling (choice_in (codes "dbgplan 2") (codes "dbgplan 1")) plan_word (λ _. Unit {0})
plan_word_spelling = choice_spelling (codes "dbgplan 2") (codes "dbgplan 1") refl refl refl

finished_word_spelling : IsSpelling (choice_in (codes "dbgfinished 2") (codes "dbgfinished 1")) finished_word (λ _. Unit {0})
finished_word_spelling = choice_spelling (codes "dbgfinished 2") (codes "dbgfinished 1") refl refl refl

-- ---- `plan`: the steps that are left, the plans that fit what was read, and their readers

abbrev k7 : Bool → RunKey → List ℕ → List JobLine → List (List ℕ) → Unit {0} → List ℕ → Reading VersionedPlan
k7 old key report jobs sources u bytes = Ok (record { old = old; plan = record { key = key; report = report; jobs = jobs; sources = sources } }, bytes)

abbrev k6 : Bool → RunKey → List ℕ → List JobLine → List (List ℕ) → List ℕ → Reading VersionedPlan
k6 old key report jobs sources bytes = value_at (word_in (codes "end")) bytes >>= λ a. k7 old key report jobs sources a.0 a.1

abbrev k5 : Bool → RunKey → List ℕ → List JobLine → ℕ → List ℕ → Reading VersionedPlan
k5 old key report jobs m bytes = many_at source_at itself m None bytes >>= λ a. k6 old key report jobs a.0 a.1

abbrev k4 : Bool → RunKey → List ℕ → List JobLine → List ℕ → Reading VersionedPlan
k4 old key report jobs bytes = value_at (number_in 0 most) bytes >>= λ a. k5 old key report jobs a.0 a.1

abbrev k3 : Bool → RunKey → List ℕ → ℕ → List ℕ → Reading VersionedPlan
k3 old key report n bytes = many_at job_at path_of n None bytes >>= λ a. k4 old key report a.0 a.1

abbrev k2 : Bool → RunKey → List ℕ → List ℕ → Reading VersionedPlan
k2 old key report bytes = value_at (number_in 0 most) bytes >>= λ a. k3 old key report a.0 a.1

abbrev k1 : Bool → RunKey → List ℕ → Reading VersionedPlan
k1 old key bytes = value_at text_in bytes >>= λ a. k2 old key a.0 a.1

abbrev k0 : Bool → List ℕ → Reading VersionedPlan
k0 old bytes = key_at old bytes >>= λ a. k1 old a.0 a.1

abbrev f0 : Bool → VersionedPlan → Type 0
f0 old v = IsVersionedPlan v × (v.old ≡ old)

abbrev f1 : Bool → RunKey → VersionedPlan → Type 0
f1 old key v = f0 old v × (v.plan.key ≡ key)

abbrev f2 : Bool → RunKey → List ℕ → VersionedPlan → Type 0
f2 old key report v = f1 old key v × (v.plan.report ≡ report)

abbrev f3 : Bool → RunKey → List ℕ → ℕ → VersionedPlan → Type 0
f3 old key report n v = f2 old key report v × (length v.plan.jobs ≡ n)

abbrev f4 : Bool → RunKey → List ℕ → ℕ → List JobLine → VersionedPlan → Type 0
f4 old key report n jobs v = f3 old key report n v × (v.plan.jobs ≡ jobs)

abbrev f5 : Bool → RunKey → List ℕ → ℕ → List JobLine → ℕ → VersionedPlan → Type 0
f5 old key report n jobs m v = f4 old key report n jobs v × (length v.plan.sources ≡ m)

abbrev f6 : Bool → RunKey → List ℕ → ℕ → List JobLine → ℕ → List (List ℕ) → VersionedPlan → Type 0
f6 old key report n jobs m sources v = f5 old key report n jobs m v × (v.plan.sources ≡ sources)

abbrev f7 : Bool → RunKey → List ℕ → ℕ → List JobLine → ℕ → List (List ℕ) → Unit {0} → VersionedPlan → Type 0
f7 old key report n jobs m sources u v = f6 old key report n jobs m sources v × (tt ≡ u)

same_plan : (old : Bool) (key : RunKey) (report : List ℕ) (n : ℕ) (jobs : List JobLine) (m : ℕ) (sources : List (List ℕ)) (u : Unit {0}) (v : VersionedPlan)
    → f7 old key report n jobs m sources u v → v ≡ record { old = old; plan = record { key = key; report = report; jobs = jobs; sources = sources } }
same_plan old key report n jobs m sources u v f =
    let z : v.old ≡ old = f.0.0.0.0.0.0.0.1 in
    let a : v.plan.key ≡ key = f.0.0.0.0.0.0.1 in
    let b : v.plan.report ≡ report = f.0.0.0.0.0.1 in
    let c : v.plan.jobs ≡ jobs = f.0.0.0.1 in
    let d : v.plan.sources ≡ sources = f.0.1 in
    let made : VersionedPlan = record { old = v.old; plan = record { key = v.plan.key; report = v.plan.report; jobs = v.plan.jobs; sources = v.plan.sources } } in
    let all : made ≡ record { old = old; plan = record { key = key; report = report; jobs = jobs; sources = sources } } = rw (z, a, b, c, d) refl in
    all

r7 : (old : Bool) (key : RunKey) (report : List ℕ) (n : ℕ) (jobs : List JobLine) (m : ℕ) (sources : List (List ℕ)) (u : Unit {0})
    → IsKeyIn old key → has_nul report ≡ false → IsWithin 0 most n → AreJobs n jobs → IsWithin 0 most m → AreSources m sources
    → IsReader (λ _. []) (f7 old key report n jobs m sources u) (k7 old key report jobs sources u)
r7 old key report n jobs m sources u kf rf nf jf mf sf =
    let made : VersionedPlan = record { old = old; plan = record { key = key; report = report; jobs = jobs; sources = sources } } in
    let few : length jobs ≡ n = jf.count in
    let few_names : length sources ≡ m = sf.count in
    let small : n ≤ most = nf.below in
    let small_names : m ≤ most = mf.below in
    let plan : IsPlan made.plan = record { key = kf.key; report = rf; job_count = omega arith; jobs = jf.each; job_order = jf.order; source_count = omega arith; sources = sf.each; source_order = sf.order } in
    let whole : IsVersionedPlan made = record { plan = plan; one = kf.one } in
    nothing_reader (f7 old key report n jobs m sources u) made ((((((((whole, refl), refl), refl), few), refl), few_names), refl), refl) (λ v f. same_plan old key report n jobs m sources u v f)

r6 : (old : Bool) (key : RunKey) (report : List ℕ) (n : ℕ) (jobs : List JobLine) (m : ℕ) (sources : List (List ℕ))
    → IsKeyIn old key → has_nul report ≡ false → IsWithin 0 most n → AreJobs n jobs → IsWithin 0 most m → AreSources m sources
    → IsReader (λ _. codes "end" ∷ []) (f6 old key report n jobs m sources) (k6 old key report jobs sources)
r6 old key report n jobs m sources kf rf nf jf mf sf =
    then_value (word_in (codes "end")) (λ _. codes "end") (λ _. Unit {0}) (word_spelling (codes "end") refl) (λ _. tt) (λ _. []) (f6 old key report n jobs m sources) (k7 old key report jobs sources)
    (λ v f. tt) (λ u t. r7 old key report n jobs m sources u kf rf nf jf mf sf)

r5 : (old : Bool) (key : RunKey) (report : List ℕ) (n : ℕ) (jobs : List JobLine) (m : ℕ)
    → IsKeyIn old key → has_nul report ≡ false → IsWithin 0 most n → AreJobs n jobs → IsWithin 0 most m
    → IsReader (λ v. v.plan.sources ++ codes "end" ∷ []) (f5 old key report n jobs m) (k5 old key report jobs m)
r5 old key report n jobs m kf rf nf jf mf =
    then_reader (λ names. names) (AreSources m) (λ v. v.plan.sources) (λ _. codes "end" ∷ []) (f5 old key report n jobs m) (many_at source_at itself m None) (k6 old key report jobs)
    (record {
      reader = sources_reader m;
      has = λ v f. let plan : IsPlan v.plan = f.0.0.0.0.0.0.plan in record { count = f.1; each = plan.sources; order = plan.source_order };
      next = λ sources sf. r6 old key report n jobs m sources kf rf nf jf mf sf;
    })

r4 : (old : Bool) (key : RunKey) (report : List ℕ) (n : ℕ) (jobs : List JobLine)
    → IsKeyIn old key → has_nul report ≡ false → IsWithin 0 most n → AreJobs n jobs
    → IsReader (λ v. decimal (length v.plan.sources) ∷ (v.plan.sources ++ codes "end" ∷ [])) (f4 old key report n jobs) (k4 old key report jobs)
r4 old key report n jobs kf rf nf jf =
    then_value (number_in 0 most) decimal (IsWithin 0 most) (number_spelling 0 most (omega arith) (omega arith)) (λ v. length v.plan.sources) (λ v. v.plan.sources ++ codes "end" ∷ []) (f4 old key report n jobs) (k5 old key report jobs)
    (λ v f. let plan : IsPlan v.plan = f.0.0.0.0.0.plan in let few : length v.plan.sources < 2 ^ 32 = plan.source_count in record { above = omega arith; below = omega arith })
    (λ m mf. r5 old key report n jobs m kf rf nf jf mf)

r3 : (old : Bool) (key : RunKey) (report : List ℕ) (n : ℕ) → IsKeyIn old key → has_nul report ≡ false → IsWithin 0 most n
    → IsReader (λ v. flat_map job_fields v.plan.jobs ++ (decimal (length v.plan.sources) ∷ (v.plan.sources ++ codes "end" ∷ []))) (f3 old key report n) (k3 old key report n)
r3 old key report n kf rf nf =
    then_reader (flat_map job_fields) (AreJobs n) (λ v. v.plan.jobs) (λ v. decimal (length v.plan.sources) ∷ (v.plan.sources ++ codes "end" ∷ [])) (f3 old key report n) (many_at job_at path_of n None) (k4 old key report)
    (record {
      reader = jobs_reader n;
      has = λ v f. let plan : IsPlan v.plan = f.0.0.0.0.plan in record { count = f.1; each = plan.jobs; order = plan.job_order };
      next = λ jobs jf. r4 old key report n jobs kf rf nf jf;
    })

r2 : (old : Bool) (key : RunKey) (report : List ℕ) → IsKeyIn old key → has_nul report ≡ false
    → IsReader (λ v. decimal (length v.plan.jobs) ∷ (flat_map job_fields v.plan.jobs ++ (decimal (length v.plan.sources) ∷ (v.plan.sources ++ codes "end" ∷ [])))) (f2 old key report) (k2 old key report)
r2 old key report kf rf =
    then_value (number_in 0 most) decimal (IsWithin 0 most) (number_spelling 0 most (omega arith) (omega arith)) (λ v. length v.plan.jobs) (λ v. flat_map job_fields v.plan.jobs ++ (decimal (length v.plan.sources) ∷ (v.plan.sources ++ codes "end" ∷ []))) (f2 old key report) (k3 old key report)
    (λ v f. let plan : IsPlan v.plan = f.0.0.0.plan in let few : length v.plan.jobs < 2 ^ 32 = plan.job_count in record { above = omega arith; below = omega arith })
    (λ n nf. r3 old key report n kf rf nf)

r1 : (old : Bool) (key : RunKey) → IsKeyIn old key → IsReader (λ v. plan_rest v.plan) (f1 old key) (k1 old key)
r1 old key kf =
    then_value text_in (λ f. f) (λ f. has_nul f ≡ false) text_spelling (λ v. v.plan.report) (λ v. decimal (length v.plan.jobs) ∷ (flat_map job_fields v.plan.jobs ++ (decimal (length v.plan.sources) ∷ (v.plan.sources ++ codes "end" ∷ [])))) (f1 old key) (k2 old key)
    (λ v f. let plan : IsPlan v.plan = f.0.0.plan in plan.report) (λ report rf. r2 old key report kf rf)

-- the fields behind the first, in this version
abbrev behind_word : Bool → VersionedPlan → List Field
behind_word old v = keyed_fields old v.plan.key ++ plan_rest v.plan

r0 : (old : Bool) → IsReader (behind_word old) (f0 old) (k0 old)
r0 old =
    then_reader (keyed_fields old) (IsKeyIn old) (λ v. v.plan.key) (λ v. plan_rest v.plan) (f0 old) (key_at old) (k1 old)
    (record { reader = key_reader old; has = λ v f. record { key = f.0.plan.key; one = λ e. f.0.one (f.1 ∙ e) }; next = λ key kf. r1 old key kf })

pub plan_reader : IsReader plan_text_fields IsVersionedPlan plan_at
unfolding plan_at
plan_reader =
    then_value (choice_in (codes "dbgplan 2") (codes "dbgplan 1")) plan_word (λ _. Unit {0}) plan_word_spelling (λ v. v.old) (λ v. behind_word v.old v) IsVersionedPlan k0
    (λ v f. tt) (λ old t. same_reader (behind_word old) (λ v. behind_word v.old v) (f0 old) (k0 old) (λ v f. ap (λ (o : Bool). behind_word o v) (sym f.1)) (r0 old))

-- ---- `finished`

abbrev d1 : Bool → RunKey → List ℕ → List ℕ → Reading FinishedData
d1 old key report bytes = Ok (record { old = old; key = key; report = report }, bytes)

abbrev d0 : Bool → RunKey → List ℕ → Reading FinishedData
d0 old key bytes = value_at text_in bytes >>= λ a. d1 old key a.0 a.1

abbrev d : Bool → List ℕ → Reading FinishedData
d old bytes = key_at old bytes >>= λ a. d0 old a.0 a.1

abbrev e0 : Bool → FinishedData → Type 0
e0 old x = IsFinished x × (x.old ≡ old)

abbrev e1 : Bool → RunKey → FinishedData → Type 0
e1 old key x = e0 old x × (x.key ≡ key)

abbrev e2 : Bool → RunKey → List ℕ → FinishedData → Type 0
e2 old key report x = e1 old key x × (x.report ≡ report)

same_finished : (old : Bool) (key : RunKey) (report : List ℕ) (x : FinishedData) → e2 old key report x → x ≡ record { old = old; key = key; report = report }
same_finished old key report x f =
    let z : x.old ≡ old = f.0.0.1 in
    let a : x.key ≡ key = f.0.1 in
    let b : x.report ≡ report = f.1 in
    let made : FinishedData = record { old = x.old; key = x.key; report = x.report } in
    let all : made ≡ record { old = old; key = key; report = report } = rw (z, a, b) refl in
    all

s2 : (old : Bool) (key : RunKey) (report : List ℕ) → IsKeyIn old key → has_nul report ≡ false → IsReader (λ _. []) (e2 old key report) (d1 old key report)
s2 old key report kf rf =
    let made : FinishedData = record { old = old; key = key; report = report } in
    let whole : IsFinished made = record { key = kf.key; one = kf.one; report = rf } in
    nothing_reader (e2 old key report) made (((whole, refl), refl), refl) (λ x f. same_finished old key report x f)

s1 : (old : Bool) (key : RunKey) → IsKeyIn old key → IsReader (λ x. x.report ∷ []) (e1 old key) (d0 old key)
s1 old key kf =
    then_value text_in (λ f. f) (λ f. has_nul f ≡ false) text_spelling (λ x. x.report) (λ _. []) (e1 old key) (d1 old key)
    (λ x f. let whole : IsFinished x = f.0.0 in whole.report) (λ report rf. s2 old key report kf rf)

abbrev behind_finished : Bool → FinishedData → List Field
behind_finished old x = keyed_fields old x.key ++ x.report ∷ []

s0 : (old : Bool) → IsReader (behind_finished old) (e0 old) (d old)
s0 old =
    then_reader (keyed_fields old) (IsKeyIn old) (λ x. x.key) (λ x. x.report ∷ []) (e0 old) (key_at old) (d0 old)
    (record { reader = key_reader old; has = λ x f. record { key = f.0.key; one = λ e. f.0.one (f.1 ∙ e) }; next = λ key kf. s1 old key kf })

pub finished_reader : IsReader finished_fields IsFinished finished_at
unfolding finished_at
finished_reader =
    then_value (choice_in (codes "dbgfinished 2") (codes "dbgfinished 1")) finished_word (λ _. Unit {0}) finished_word_spelling (λ x. x.old) (λ x. behind_finished x.old x) IsFinished d
    (λ x f. tt) (λ old t. same_reader (behind_finished old) (λ x. behind_finished x.old x) (e0 old) (d old) (λ x f. ap (λ (o : Bool). behind_finished o x) (sym f.1)) (s0 old))
