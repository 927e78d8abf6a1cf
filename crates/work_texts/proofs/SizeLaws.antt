-- How long texts are: each field and the NUL behind it.
use Rattle.std.proofs.Common.{◌≡◌, ℕ, suc, ◌+◌, ◌≤◌, false, List, [], ◌∷◌, ◌++◌, length, refl, ap, ◌∙◌, arith}
use Rattle.std.specs.Prelude.{codes}
use Rattle.std.specs.List.{flat_map}
use Rattle.std.specs.Fmt.{decimal}
use Rattle.std.proofs.lemmas.List.{length-append}
use Rattle.dw_base.proofs.TextLaws.{laid_texts-append}
use Rattle.work_texts.specs.declared.plan.PlanData.{PlanData}
use Rattle.work_texts.specs.Fields.{Field, text_of, keyed_fields, job_fields, plan_fields, finished_fields}

size-cons : (f : Field) (fs : List Field) → length (text_of (f ∷ fs)) ≡ length f + suc (length (text_of fs))
size-cons f fs = length-append f (0 ∷ text_of fs)

size-append : (fs gs : List Field) → length (text_of (fs ++ gs)) ≡ length (text_of fs) + length (text_of gs)
size-append fs gs = ap (λ (t : List ℕ). length t) (laid_texts-append fs gs) ∙ length-append (text_of fs) (text_of gs)

-- two texts that begin with words of 9 and 13 bytes, go on alike, and of which the first has two more fields and the word of its end
shorter-by : (one other end report jobs sources : Field) (key all names : List Field) → length one ≡ 9 → length other ≡ 13 → length end ≡ 3
    → length (text_of (other ∷ (key ++ report ∷ []))) ≤ length (text_of (one ∷ (key ++ (report ∷ jobs ∷ (all ++ (sources ∷ (names ++ end ∷ [])))))))
shorter-by one other end report jobs sources key all names is was last =
    omega (
      arith,
      is,
      was,
      last,
      size-cons other (key ++ report ∷ []),
      size-append key (report ∷ []),
      size-cons report [],
      size-cons one (key ++ (report ∷ jobs ∷ (all ++ (sources ∷ (names ++ end ∷ []))))),
      size-append key (report ∷ jobs ∷ (all ++ (sources ∷ (names ++ end ∷ [])))),
      size-cons report (jobs ∷ (all ++ (sources ∷ (names ++ end ∷ [])))),
      size-cons jobs (all ++ (sources ∷ (names ++ end ∷ []))),
      size-append all (sources ∷ (names ++ end ∷ [])),
      size-cons sources (names ++ end ∷ []),
      size-append names (end ∷ []),
      size-cons end [],
    )

-- `finished` is no longer than the plan of its key and report
pub no_longer : (p : PlanData) → length (text_of (finished_fields (record { old = false; key = p.key; report = p.report }))) ≤ length (text_of (plan_fields p))
no_longer p = shorter-by (codes "dbgplan 2") (codes "dbgfinished 2") (codes "end") p.report (decimal (length p.jobs)) (decimal (length p.sources))
    (keyed_fields false p.key) (flat_map job_fields p.jobs) p.sources refl refl refl
