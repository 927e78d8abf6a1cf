-- The fields of jobs, and the names of sources, are read exactly.
use Rattle.std.proofs.Common.{◌≡◌, ℕ, ◌^◌, ◌<◌, ◌≤◌, Bool, true, false, ◌==◌, if◌then◌else◌, List, [], ◌∷◌, length, map, Option, Some, None, Ok, refl, ap, subst, arith}
use Rattle.std.specs.Prelude.{codes, IsTrue}
use Rattle.std.specs.Fmt.{decimal}
use Rattle.std.specs.List.{flat_map, AllByRecursion}
use Rattle.std.proofs.lemmas.Bool.{and_parts}
use Rattle.hex.specs.Hex.{encode_lower}
use Rattle.dw_base.specs.Texts.{has_nul}
use Rattle.work_texts.specs.declared.plan.JobLine.{JobLine}
use Rattle.work_texts.specs.Fields.{Field, job_fields, kind_field}
use Rattle.work_texts.specs.Rules.{IsJob, is_job_path, comes_after, rise_after, path_of, number_limit}
use Rattle.work_texts.specs.Reading.{Reading, ◌>>=◌, value_at, choice_in, path_in, source_in, digest_in, id_in, number_in, job_at, source_at, behind_text, many_at, itself}
use Rattle.work_texts.proofs.Formats.{IsReader, nothing_reader, same_reader, refit_reader}
use Rattle.work_texts.proofs.OneField.{IsSpelling, value_reader}
use Rattle.work_texts.proofs.Words.{choice_spelling, and_true}
use Rattle.work_texts.proofs.Numerals.{IsWithin, number_spelling}
use Rattle.work_texts.proofs.DigitLaws.{IsDigest, digest_spelling, IsId, id_spelling}
use Rattle.work_texts.proofs.RisingTexts.{LastIs, IsPathAfter, path_spelling, IsSourceAfter, source_spelling}
use Rattle.work_texts.proofs.ThenValue.{then_value}
use Rattle.work_texts.proofs.ManyReader.{AllAfter, AreMany, IsItem, each_reader}

abbrev kind_in : Field → Option Bool
kind_in f = choice_in (codes "E") (codes "S") f

kind_spelling : IsSpelling kind_in kind_field (λ _. Unit {0})
kind_spelling = choice_spelling (codes "E") (codes "S") refl refl refl

limit_cases : (test : Bool) → (if test then 0 else 4294967295) < 2 ^ 64
limit_cases true = omega arith
limit_cases false = omega arith

limit_fits : (id : List ℕ) → number_limit id < 2 ^ 64
limit_fits id = limit_cases (length id == 0)

-- a job behind one with this path
pub record IsJobAfter (last : Option (List ℕ)) (j : JobLine) : Type 0 where
  pub job : IsJob j
  pub after : IsTrue (comes_after last j.path)

abbrev k4 : Bool → List ℕ → List ℕ → List ℕ → ℕ → List ℕ → Reading JobLine
k4 split path digest id number bytes = Ok (record { split = split; path = path; digest = digest; id = id; number = number }, bytes)

abbrev k3 : Bool → List ℕ → List ℕ → List ℕ → List ℕ → Reading JobLine
k3 split path digest id bytes = value_at (number_in 0 (number_limit id)) bytes >>= λ a. k4 split path digest id a.0 a.1

abbrev k2 : Bool → List ℕ → List ℕ → List ℕ → Reading JobLine
k2 split path digest bytes = value_at (id_in split) bytes >>= λ a. k3 split path digest a.0 a.1

abbrev k1 : Bool → List ℕ → List ℕ → Reading JobLine
k1 split path bytes = value_at digest_in bytes >>= λ a. k2 split path a.0 a.1

abbrev k0 : Option (List ℕ) → Bool → List ℕ → Reading JobLine
k0 last split bytes = value_at (path_in last) bytes >>= λ a. k1 split a.0 a.1

abbrev f0 : Option (List ℕ) → Bool → JobLine → Type 0
f0 last split j = IsJobAfter last j × (j.split ≡ split)

abbrev f1 : Option (List ℕ) → Bool → List ℕ → JobLine → Type 0
f1 last split path j = f0 last split j × (j.path ≡ path)

abbrev f2 : Option (List ℕ) → Bool → List ℕ → List ℕ → JobLine → Type 0
f2 last split path digest j = f1 last split path j × (j.digest ≡ digest)

abbrev f3 : Option (List ℕ) → Bool → List ℕ → List ℕ → List ℕ → JobLine → Type 0
f3 last split path digest id j = f2 last split path digest j × (j.id ≡ id)

abbrev f4 : Option (List ℕ) → Bool → List ℕ → List ℕ → List ℕ → ℕ → JobLine → Type 0
f4 last split path digest id number j = f3 last split path digest id j × (j.number ≡ number)

same_job : (last : Option (List ℕ)) (j : JobLine) (split : Bool) (path digest id : List ℕ) (number : ℕ) → f4 last split path digest id number j
    → j ≡ record { split = split; path = path; digest = digest; id = id; number = number }
same_job last j split path digest id number f =
    let a : j.split ≡ split = f.0.0.0.0.1 in
    let b : j.path ≡ path = f.0.0.0.1 in
    let c : j.digest ≡ digest = f.0.0.1 in
    let d : j.id ≡ id = f.0.1 in
    let e : j.number ≡ number = f.1 in
    let made : JobLine = record { split = j.split; path = j.path; digest = j.digest; id = j.id; number = j.number } in
    let all : made ≡ record { split = split; path = path; digest = digest; id = id; number = number } = rw (a, b, c, d, e) refl in
    all

r4 : (last : Option (List ℕ)) (split : Bool) (path digest id : List ℕ) (number : ℕ) → IsPathAfter last path → IsDigest digest → IsId split id → IsWithin 0 (number_limit id) number
    → IsReader (λ _. []) (f4 last split path digest id number) (k4 split path digest id number)
r4 last split path digest id number p d i n =
    let made : JobLine = record { split = split; path = path; digest = digest; id = id; number = number } in
    let job : IsJob made = record { path = p.good; digest = d.len; digest_bytes = d.bytes; id = i.may; id_bytes = i.bytes; number = n.below } in
    let whole : IsJobAfter last made = record { job = job; after = p.after } in
    nothing_reader (f4 last split path digest id number) made (((((whole, refl), refl), refl), refl), refl) (λ j f. same_job last j split path digest id number f)

number_has : (id : List ℕ) (j : JobLine) → IsJob j → j.id ≡ id → IsWithin 0 (number_limit id) j.number
number_has id j job e =
    let below : j.number ≤ number_limit id = subst (λ (x : List ℕ). j.number ≤ number_limit x) e job.number in
    record { above = omega arith; below = below }

r3 : (last : Option (List ℕ)) (split : Bool) (path digest id : List ℕ) → IsPathAfter last path → IsDigest digest → IsId split id
    → IsReader (λ j. decimal j.number ∷ []) (f3 last split path digest id) (k3 split path digest id)
r3 last split path digest id p d i =
    then_value (number_in 0 (number_limit id)) decimal (IsWithin 0 (number_limit id)) (number_spelling 0 (number_limit id) (omega arith) (limit_fits id)) (λ j. j.number) (λ _. []) (f3 last split path digest id) (k4 split path digest id)
    (λ j f. number_has id j f.0.0.0.0.job f.1) (λ a n. r4 last split path digest id a p d i n)

id_has : (split : Bool) (j : JobLine) → IsJob j → j.split ≡ split → IsId split j.id
id_has split j job e = subst (λ (s : Bool). IsId s j.id) e (record { may = job.id; bytes = job.id_bytes })

r2 : (last : Option (List ℕ)) (split : Bool) (path digest : List ℕ) → IsPathAfter last path → IsDigest digest
    → IsReader (λ j. encode_lower j.id ∷ decimal j.number ∷ []) (f2 last split path digest) (k2 split path digest)
r2 last split path digest p d =
    then_value (id_in split) encode_lower (IsId split) (id_spelling split) (λ j. j.id) (λ j. decimal j.number ∷ []) (f2 last split path digest) (k3 split path digest)
    (λ j f. id_has split j f.0.0.0.job f.0.0.1) (λ a i. r3 last split path digest a p d i)

r1 : (last : Option (List ℕ)) (split : Bool) (path : List ℕ) → IsPathAfter last path
    → IsReader (λ j. encode_lower j.digest ∷ encode_lower j.id ∷ decimal j.number ∷ []) (f1 last split path) (k1 split path)
r1 last split path p =
    then_value digest_in encode_lower IsDigest digest_spelling (λ j. j.digest) (λ j. encode_lower j.id ∷ decimal j.number ∷ []) (f1 last split path) (k2 split path)
    (λ j f. let job : IsJob j = f.0.0.job in record { len = job.digest; bytes = job.digest_bytes }) (λ a d. r2 last split path a p d)

r0 : (last : Option (List ℕ)) → LastIs (λ p. IsTrue (is_job_path p)) last → (split : Bool)
    → IsReader (λ j. j.path ∷ encode_lower j.digest ∷ encode_lower j.id ∷ decimal j.number ∷ []) (f0 last split) (k0 last split)
r0 last h split =
    then_value (path_in last) (λ f. f) (IsPathAfter last) (path_spelling last h) (λ j. j.path) (λ j. encode_lower j.digest ∷ encode_lower j.id ∷ decimal j.number ∷ []) (f0 last split) (k1 split)
    (λ j f. record { good = f.0.job.path; after = f.0.after }) (λ a p. r1 last split a p)

job_reader : (last : Option (List ℕ)) → LastIs (λ p. IsTrue (is_job_path p)) last → IsReader job_fields (IsJobAfter last) (job_at last)
unfolding job_at
job_reader last h =
    then_value kind_in kind_field (λ _. Unit {0}) kind_spelling (λ j. j.split) (λ j. j.path ∷ encode_lower j.digest ∷ encode_lower j.id ∷ decimal j.number ∷ []) (IsJobAfter last) (k0 last)
    (λ j f. tt) (λ a u. r0 last h a)

job_item : IsItem job_fields IsJobAfter (behind_text path_of) (λ n. LastIs (λ p. IsTrue (is_job_path p))) job_at
job_item = record {
  reader = λ n last h. job_reader last h;
  good = λ n last j h f. f.job.path;
  some = record { split = false; path = []; digest = []; id = []; number = 0 };
}

-- jobs that rise by their paths
pub record AreJobs (n : ℕ) (jobs : List JobLine) : Type 0 where
  pub count : length jobs ≡ n
  pub each : AllByRecursion IsJob jobs
  pub order : IsTrue (rise_after None (map path_of jobs))

jobs_each : (last : Option (List ℕ)) (jobs : List JobLine) → AllAfter IsJobAfter (behind_text path_of) last jobs → AllByRecursion IsJob jobs × IsTrue (rise_after last (map path_of jobs))
jobs_each last [] all = (tt, refl)
jobs_each last (j ∷ js) all =
    let more = jobs_each (Some j.path) js all.1 in
    ((all.0.job, more.0), and_true (comes_after last j.path) (rise_after (Some j.path) (map path_of js)) all.0.after more.1)

jobs_all : (last : Option (List ℕ)) (jobs : List JobLine) → AllByRecursion IsJob jobs → IsTrue (rise_after last (map path_of jobs)) → AllAfter IsJobAfter (behind_text path_of) last jobs
jobs_all last [] each order = tt
jobs_all last (j ∷ js) each order =
    let p = and_parts (comes_after last j.path) (rise_after (Some j.path) (map path_of js)) order in
    (record { job = each.0; after = p.0 }, jobs_all (Some j.path) js each.1 p.1)

pub jobs_reader : (n : ℕ) → IsReader (flat_map job_fields) (AreJobs n) (many_at job_at path_of n None)
jobs_reader n =
    refit_reader (flat_map job_fields) (AreMany IsJobAfter (behind_text path_of) n None) (AreJobs n) (many_at job_at path_of n None)
    (λ jobs m. let e = jobs_each None jobs m.all in record { count = m.count; each = e.0; order = e.1 })
    (λ jobs a. record { count = a.count; all = jobs_all None jobs a.each a.order })
    (each_reader job_fields IsJobAfter (behind_text path_of) (λ n. LastIs (λ p. IsTrue (is_job_path p))) job_at job_item n None tt)

-- ---- sources

abbrev lone : Field → List Field
lone s = s ∷ []

source_item : IsItem lone IsSourceAfter (behind_text itself) (λ n. LastIs (λ t. has_nul t ≡ false)) source_at
source_item = record {
  reader = λ n last h. value_reader (source_in last) (λ f. f) (IsSourceAfter last) (source_spelling last h);
  good = λ n last s h f. f.bare;
  some = [];
}

pub record AreSources (n : ℕ) (names : List (List ℕ)) : Type 0 where
  pub count : length names ≡ n
  pub each : AllByRecursion (λ s. has_nul s ≡ false) names
  pub order : IsTrue (rise_after None names)

sources_each : (last : Option (List ℕ)) (names : List (List ℕ)) → AllAfter IsSourceAfter (behind_text itself) last names → AllByRecursion (λ s. has_nul s ≡ false) names × IsTrue (rise_after last names)
sources_each last [] all = (tt, refl)
sources_each last (s ∷ ss) all =
    let more = sources_each (Some s) ss all.1 in
    ((all.0.bare, more.0), and_true (comes_after last s) (rise_after (Some s) ss) all.0.after more.1)

sources_all : (last : Option (List ℕ)) (names : List (List ℕ)) → AllByRecursion (λ s. has_nul s ≡ false) names → IsTrue (rise_after last names) → AllAfter IsSourceAfter (behind_text itself) last names
sources_all last [] each order = tt
sources_all last (s ∷ ss) each order =
    let p = and_parts (comes_after last s) (rise_after (Some s) ss) order in
    (record { bare = each.0; after = p.0 }, sources_all (Some s) ss each.1 p.1)

flat_lone : (names : List (List ℕ)) → flat_map lone names ≡ names
flat_lone [] = refl
flat_lone (s ∷ ss) = ap (λ (fs : List Field). s ∷ fs) (flat_lone ss)

pub sources_reader : (n : ℕ) → IsReader (λ names. names) (AreSources n) (many_at source_at itself n None)
sources_reader n =
    refit_reader (λ names. names) (AreMany IsSourceAfter (behind_text itself) n None) (AreSources n) (many_at source_at itself n None)
    (λ names m. let e = sources_each None names m.all in record { count = m.count; each = e.0; order = e.1 })
    (λ names a. record { count = a.count; all = sources_all None names a.each a.order })
    (same_reader (flat_map lone) (λ names. names) (AreMany IsSourceAfter (behind_text itself) n None) (many_at source_at itself n None) (λ names m. flat_lone names)
    (each_reader lone IsSourceAfter (behind_text itself) (λ n. LastIs (λ t. has_nul t ≡ false)) source_at source_item n None tt))
