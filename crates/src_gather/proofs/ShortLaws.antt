-- The copies of what was gathered have paths within the limit, and there are no more of them than names.
use Rattle.std.proofs.Common.{◌≡◌, ◌⊎◌, ℕ, ◌+◌, ◌≤◌, List, [], ◌∷◌, ◌++◌, length, inl, inr, Option, subst, arith}
use Rattle.std.specs.Prelude.{Contains}
use Rattle.std.proofs.lemmas.List.{length_push, map-append}
use Rattle.std.proofs.lemmas.List.Elements.{Contains-push_cases}
use Rattle.file_tree.specs.Trees.{TreeMap}
use Rattle.work_texts.specs.declared.plan.JobLine.{JobLine}
use Rattle.root_paths.specs.Roots.{in_root, longest_path}
use Rattle.root_paths.specs.NewPaths.{AreShort}
use Rattle.root_plan.specs.Tallies.{edited_job}
use Rattle.src_gather.specs.Listed.{copy_folder}
use Rattle.src_gather.specs.Gathering.{Gathering, Noted, Gathers, copy_paths}
use Rattle.src_gather.specs.Gathering.{Noted as note, Gathers as gathers}

none-short : (root dest : List ℕ) → AreShort (copy_paths root dest [])
none-short root dest = record { short = λ path c. absurd (omega (arith, c.1)) }

more-short : (root dest name bytes : List ℕ) (jobs : List JobLine) → length (in_root (copy_folder root dest) name) ≤ longest_path → AreShort (copy_paths root dest jobs)
    → AreShort (copy_paths root dest (jobs ++ edited_job name bytes ∷ []))
more-short root dest name bytes jobs short so = record {
  short = λ path c. by path (Contains-push_cases (copy_paths root dest jobs) (in_root (copy_folder root dest) name) path
      (subst (λ (ps : List (List ℕ)). Contains ps path) (map-append (λ (job : JobLine). in_root (copy_folder root dest) job.path) jobs (edited_job name bytes ∷ [])) c));
}
  where
    by : (path : List ℕ) → Contains (copy_paths root dest jobs) path ⊎ (in_root (copy_folder root dest) name ≡ path) → length path ≤ longest_path
    by path (inl c) = so.short path c
    by path (inr e) = subst (λ (p : List ℕ). length p ≤ longest_path) e short

noted-short : (old : Option TreeMap) (root from dest name : List ℕ) (g h : Gathering) → Noted old root from dest name g h → AreShort (copy_paths root dest g.jobs) → AreShort (copy_paths root dest h.jobs)
noted-short old root from dest name g h (note.unfit unfit) so = so
noted-short old root from dest name g h (note.no_file fit short none) so = so
noted-short old root from dest name g h (note.gathered {bytes} fit short read) so = more-short root dest name bytes g.jobs short.copy so

pub copies-short : (old : Option TreeMap) (root from dest : List ℕ) (names : List (List ℕ)) (g : Gathering) → Gathers old root from dest names g → AreShort (copy_paths root dest g.jobs)
copies-short old root from dest names g gathers.none = none-short root dest
copies-short old root from dest names h (gathers.more {names = ns} {name} {g} gs noted) = noted-short old root from dest name g h noted (copies-short old root from dest ns g gs)

-- ### Counts

noted-count : (old : Option TreeMap) (root from dest name : List ℕ) (g h : Gathering) → Noted old root from dest name g h → length h.jobs + h.missing ≡ length g.jobs + g.missing + 1
noted-count old root from dest name g h (note.unfit unfit) = omega arith
noted-count old root from dest name g h (note.no_file fit short none) = omega arith
noted-count old root from dest name g h (note.gathered {bytes} fit short read) = omega (arith, length_push g.jobs (edited_job name bytes))

-- each name is gathered or missing
pub names-counted : (old : Option TreeMap) (root from dest : List ℕ) (names : List (List ℕ)) (g : Gathering) → Gathers old root from dest names g → length g.jobs + g.missing ≡ length names
names-counted old root from dest names g gathers.none = omega arith
names-counted old root from dest names h (gathers.more {names = ns} {name} {g} gs noted) =
    omega (arith, noted-count old root from dest name g h noted, names-counted old root from dest ns g gs, length_push ns name)
