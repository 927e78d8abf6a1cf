-- What the jobs of a gather make: one copy each, of the planned file.
use Rattle.std.proofs.Common.{◌≡◌, ◌≢◌, ℕ, ◌<◌, true, false, List, [], ◌∷◌, length, map, get_or, refl, sym, ap, ◌∙◌, subst, Result, Ok, Err}
use Rattle.std.specs.Prelude.{IsOkUnless, IfErr}
use Rattle.std.proofs.lemmas.List.{length-map, get_or-map}
use Rattle.sha1.specs.Sha1.{sha1}
use Rattle.dw_base.specs.declared.fault.Refusal.{Refusal}
use Rattle.dw_base.specs.Texts.{same_text}
use Rattle.dw_base.proofs.TextLaws.{same_text-true, same_text-from}
use Rattle.file_tree.specs.declared.node.Node.{Node}
use Rattle.work_texts.specs.declared.plan.JobLine.{JobLine}
use Rattle.work_journal.specs.declared.maker.MakeErr.{MakeErr}
use Rattle.work_journal.specs.declared.maker.MakeErr.TheVariants as make
use Rattle.work_journal.specs.Views.{IsChange}
use Rattle.root_plan.specs.Makers.{no_job, job_at}
use Rattle.src_gather.specs.Makers.{IsCopied, CopyFails, copy_of, copy_view, one_step}
use Rattle.src_gather.specs.Makers.{CopyFails as fails}

-- ### One copy

pub copied : (job : JobLine) (bytes : List ℕ) (nodes : List Node) → same_text (sha1 bytes) job.digest ≡ true → nodes ≡ copy_of bytes ∷ [] → IsCopied job bytes nodes
copied job bytes nodes same is = record { planned = same_text-true (sha1 bytes) job.digest same; is = is }

pub not_copied : (job : JobLine) (bytes : List ℕ) → same_text (sha1 bytes) job.digest ≡ false → CopyFails job bytes (make.Changed job.digest (sha1 bytes))
not_copied job bytes e = fails.changed (λ same. apart (sym (same_text-from (sha1 bytes) job.digest same) ∙ e))
  where
    apart : true ≡ false → ⊥
    apart e = cc

pub ruleset copy_rules = (copied, not_copied, fails.no_memory)

-- ### The view of a plan

pub job_there : (jobs : List JobLine) (j : ℕ) → j < length (map one_step jobs) → j < length jobs
job_there jobs j l = subst (λ (n : ℕ). j < n) (length-map jobs one_step) l

pub job_count : (jobs : List JobLine) → length jobs ≡ length (map one_step jobs)
job_count jobs = sym (length-map jobs one_step)

pub step_one : (jobs : List JobLine) (j : ℕ) → j < length (map one_step jobs) → 1 ≡ get_or (map one_step jobs) j 0
step_one jobs j l = sym (get_or-map one_step jobs j no_job 0 (job_there jobs j l))

pub ruleset view_rules = (job_there, job_count, step_one)

-- ### What a maker owes

abbrev err_in : {X : Type 0} → MakeErr → Result X MakeErr → MakeErr
err_in d (Ok x) = d
err_in d (Err e) = e

abbrev planned_in : List ℕ → MakeErr → List ℕ
planned_in d (make.Changed p f) = p
planned_in d (make.Refused r) = d
planned_in d make.NoMemory = d

abbrev found_in : List ℕ → MakeErr → List ℕ
found_in d (make.Changed p f) = f
found_in d (make.Refused r) = d
found_in d make.NoMemory = d

changed-by : (job : JobLine) (bytes p f : List ℕ) (e : MakeErr) → CopyFails job bytes e → e ≡ make.Changed p f → (sha1 bytes ≢ job.digest) × (p ≡ job.digest) × (f ≡ sha1 bytes)
changed-by job bytes p f e (fails.changed other) is = (other, sym (ap (planned_in []) is), sym (ap (found_in []) is))
changed-by job bytes p f e fails.no_memory is = cc

pub copy_changed : {X : Type 0} (result : Result X MakeErr) (folder from : List ℕ) (jobs : List JobLine) (job : JobLine) (j : ℕ) (bytes : List ℕ) → job ≡ job_at jobs j
    → IfErr result (CopyFails job bytes) → (p f : List ℕ) → result ≡ Err (make.Changed p f) → IsChange (copy_view folder from jobs) j bytes p f
copy_changed {X} (Ok x) folder from jobs job j bytes at ended p f e = cc
copy_changed {X} (Err q) folder from jobs job j bytes at ended p f e =
    let c = changed-by job bytes p f q ended (ap (err_in {X = X} q) e) in
    record {
      differs = λ same. c.0 (same ∙ ap (λ (x : JobLine). x.digest) (sym at));
      planned = c.1 ∙ ap (λ (x : JobLine). x.digest) at;
      found = c.2;
    }

not-refused : (job : JobLine) (bytes : List ℕ) (e : MakeErr) (r : Refusal) → CopyFails job bytes e → e ≡ make.Refused r → ⊥
not-refused job bytes e r (fails.changed other) is = cc
not-refused job bytes e r fails.no_memory is = cc

pub never_refused : {X : Type 0} (result : Result X MakeErr) (job : JobLine) (bytes : List ℕ) → IfErr result (CopyFails job bytes) → (r : Refusal) → result ≡ Err (make.Refused r) → ⊥
never_refused {X} (Ok x) job bytes ended r e = cc
never_refused {X} (Err q) job bytes ended r e = not-refused job bytes q r ended (ap (err_in {X = X} q) e)

whole-by : (job : JobLine) (bytes : List ℕ) (e : MakeErr) (nodes : List Node) → CopyFails job bytes e → IsCopied job bytes nodes → e ≡ make.NoMemory
whole-by job bytes e nodes (fails.changed other) made = absurd (other made.planned)
whole-by job bytes e nodes fails.no_memory made = refl

pub copy_whole : {X : Type 0} (result : Result X MakeErr) (job at : JobLine) (bytes : List ℕ) → job ≡ at → IfErr result (CopyFails job bytes) → (nodes : List Node) → IsCopied at bytes nodes
    → IsOkUnless result make.NoMemory
copy_whole {X} (Ok x) job at bytes is ended nodes made = tt
copy_whole {X} (Err q) job at bytes is ended nodes made = whole-by job bytes q nodes ended (subst (λ (j : JobLine). IsCopied j bytes nodes) (sym is) made)
