-- The names of a run's work folder: the text of each, its path, and which of them are there.
use Rattle.std.specs.Prelude.{ℕ, zero, suc, Bool, true, false, ◌&&◌, ◌==◌, if◌then◌else◌, List, [], ◌∷◌, ◌++◌, codes, bytes_eq}
use Rattle.std.specs.Fmt.{decimal}
use Rattle.std.specs.List.{list_any}
use Rattle.journal_core.specs.Names.{Name, plan_new, plan, temp, commit, fresh, final, target}
use Rattle.journal_core.specs.Marks.{Mark, Marking, absent, first, any, earlier}

-- the three lists and the finished text
abbrev pub end_text : ℕ → List ℕ
end_text zero = codes "sources"
end_text (suc zero) = codes "debugfiles"
end_text (suc (suc zero)) = codes "links"
end_text (suc (suc (suc n))) = codes "finished"

-- the text of a name in the work folder
abbrev pub name_text : Name → List ℕ
name_text plan_new = codes "plan.new"
name_text plan = codes "plan"
name_text (temp job step) = codes "t." ++ (decimal job ++ (codes "." ++ decimal step))
name_text (commit job) = codes "c." ++ decimal job
name_text (fresh part) = end_text part ++ codes ".new"
name_text (final part) = end_text part
name_text (target job step) = []

-- its path, in this work folder
unfoldable pub work_path : List ℕ → Name → List ℕ
work_path work n = work ++ 47 ∷ name_text n

-- ### Which names are there

-- a name that is there may hold anything, or what an earlier program wrote
abbrev pub there_as : Bool → Bool → Mark
there_as old true = if old then earlier else any
there_as old false = absent

abbrev pub there_mark : Bool → Mark
there_mark b = there_as false b

-- whether the paths have this one
abbrev pub has_path : List (List ℕ) → List ℕ → Bool
has_path paths path = list_any (bytes_eq path) paths

-- of the names of the work folder, which are among these paths; the finished text may be an earlier program's
unfoldable pub presence : Bool → List ℕ → List (List ℕ) → Marking
presence old work paths = record {
  plan_new = there_mark (has_path paths (work_path work plan_new));
  plan = there_mark (has_path paths (work_path work plan));
  temp = λ j k. there_mark (has_path paths (work_path work (temp j k)));
  commit = λ j. there_mark (has_path paths (work_path work (commit j)));
  fresh = λ i. there_mark (has_path paths (work_path work (fresh i)));
  final = λ i. there_as (old && i == 3) (has_path paths (work_path work (final i)));
  target = λ j k. first;
}
