-- What becomes of a file before its outputs are made, what is made of that, and what is said of it.
use Rattle.std.proofs.Common.{Bool, true, false, ◌≡◌, ℕ, ◌≤◌, List, length, Option, refl, sym, ap, ◌∙◌, subst}
use Rattle.dw_base.specs.ElfFails.{ElfFails}
use Rattle.dw_base.specs.Layout.{is_loaded_kind, output_limit}
use Rattle.dw_base.specs.Refusals.{Blames}
use Rattle.dw_base.specs.declared.fault.Fault.{Fault}
use Rattle.dw_base.specs.declared.fault.Fault.TheVariants.{NoMemory, Refused}
use Rattle.dw_base.specs.declared.fault.Refusal.{Refusal}
use Rattle.dbg_split.specs.DebugFile.{debug_file}
use Rattle.dbg_split.specs.SplitFails.{SplitFails}
use Rattle.dbg_split.specs.StrippedFile.{stripped_file}
use Rattle.job_types.specs.Settings.{Settings}
use Rattle.job_types.specs.Verdicts.{verdict_of}
use Rattle.job_types.specs.declared.outcome.LeftWhy.{LeftWhy}
use Rattle.job_types.specs.declared.outcome.LeftWhy.TheVariants.{NoElf}
use Rattle.job_types.specs.declared.outcome.Outcome.{Outcome}
use Rattle.job_types.specs.declared.outcome.Outcome.TheVariants as outcome
use Rattle.job_types.specs.declared.outcome.Verdict.{Verdict}
use Rattle.job_types.specs.declared.outcome.Verdict.TheVariants as verdicts
use Rattle.dbg_job.specs.EditedFiles.{EditedFails, IsEditOf}
use Rattle.dbg_job.specs.Judged.{IsJudged, JudgedFails}
use Rattle.dbg_job.specs.Judged.IsJudged.{left as is_left, edited as is_edited, split as is_split}
use Rattle.dbg_job.specs.Judged.JudgedFails.{elf as elf_row, edit as edit_row, id as id_row}
use Rattle.dbg_job.specs.Leaving.{IsLeft, IsTaken, begins_as_elf}
use Rattle.dbg_job.specs.Leaving.IsLeft.{no_elf}
use Rattle.dbg_job.specs.NewIds.{IdFits, id_bytes}
use Rattle.dbg_job.specs.Outcomes.{AreSourcesOf, IsMade, IsOutcome, IsSaid, IsSplitOf, OutcomeFails}
use Rattle.dbg_job.specs.Outcomes.IsMade.{left as made_left, edited as made_edited, split as made_split}
use Rattle.dbg_job.specs.Outcomes.OutcomeFails.{elf as elf_fails, edit as edit_fails, pair as pair_fails}
use Rattle.dbg_job.specs.Outcomes.PairFails.{id as id_fails}
use Rattle.dbg_job.specs.declared.judging.Judged.TheVariants as judged
use Rattle.dbg_job.proofs.EditKeptLaws.{edit-kept}
use Rattle.dbg_job.proofs.MadeLaws.{made-excludes, made-is, made-keeps}
use Rattle.dbg_job.proofs.OutcomeLaws.{refused-split}
use Rattle.dbg_job.proofs.OutcomeOneLaws.{only-one, outcome-one}

-- ### Before the outputs are made

pub refused-edit : (s : Settings) (b : List ℕ) (f : Fault) → IsTaken b → Blames (EditedFails s b) f → Blames (JudgedFails s b) f
refused-edit s b NoMemory taken h = tt
refused-edit s b (Refused r) taken h = edit_row taken h

pub judged-edited : (s : Settings) (b file : List ℕ) (names : List (List ℕ)) → IsTaken b → is_loaded_kind b ≡ false → IsEditOf s b file → AreSourcesOf s b names
    → IsJudged s b (judged.Edited file names)
judged-edited s b file names taken free is sources = is_edited taken free is sources

pub ruleset edited_rules = (refused-edit, judged-edited)

pub judged-split : (s : Settings) (b file x : List ℕ) (id : Option (List ℕ)) (names : List (List ℕ)) → IsTaken b → is_loaded_kind b ≡ true → IdFits b → IsEditOf s b file
    → AreSourcesOf s b names → x ≡ file → id ≡ id_bytes file → IsJudged s b (judged.Split x id names)
judged-split s b file x id names taken loaded fits is sources same id_is =
    subst (λ (y : List ℕ). IsJudged s b (judged.Split y id names)) (sym same)
    (subst (λ (i : Option (List ℕ)). IsJudged s b (judged.Split file i names)) (sym id_is) (is_split taken loaded fits is sources))

pub ruleset split_rules = (refused-edit, id_row)

pub judged-left : (s : Settings) (b : List ℕ) (why : LeftWhy) → IsLeft b why → IsJudged s b (judged.Left why)
judged-left s b why is = is_left is

pub ruleset read_rules = (judged-left)

pub refused-elf : (s : Settings) (b : List ℕ) (f : Fault) (t : Bool) → t ≡ begins_as_elf b → t ≡ true → Blames (ElfFails b) f → Blames (JudgedFails s b) f
refused-elf s b NoMemory t is begins h = tt
refused-elf s b (Refused r) t is begins h = elf_row (sym is ∙ begins) h

pub no-elf : (b : List ℕ) (t : Bool) → t ≡ begins_as_elf b → t ≡ false → IsLeft b NoElf
no-elf b t is none = no_elf (sym is ∙ none)

pub ruleset whole_rules = (refused-elf, no-elf, judged-left)

-- ### What is refused

judged-row : (s : Settings) (b name : List ℕ) (r : Refusal) → JudgedFails s b r → OutcomeFails s b name r
judged-row s b name r (elf_row begins h) = elf_fails begins h
judged-row s b name r (edit_row taken h) = edit_fails taken h
judged-row s b name r (id_row taken loaded h) = pair_fails taken loaded (id_fails h)

pub refused-judged : (s : Settings) (b name : List ℕ) (f : Fault) → Blames (JudgedFails s b) f → Blames (OutcomeFails s b name) f
refused-judged s b name NoMemory h = tt
refused-judged s b name (Refused r) h = judged-row s b name r h

pub refused-pair : (s : Settings) (b name file : List ℕ) (id : Option (List ℕ)) (names : List (List ℕ)) (f : Fault) → IsJudged s b (judged.Split file id names)
    → Blames (SplitFails file name) f → Blames (OutcomeFails s b name) f
refused-pair s b name file _ _ f (is_split taken loaded fits is sources) h =
    let kept = edit-kept s b file is in
    refused-split s b name file f taken loaded is.edited kept.meaning kept.sections h

-- ### What is made

-- an edited file that is to be split isn't too long
pub judged-small : (s : Settings) (b file : List ℕ) (id : Option (List ℕ)) (names : List (List ℕ)) → IsJudged s b (judged.Split file id names) → length file ≤ output_limit
judged-small s b file _ _ (is_split taken loaded fits is sources) = (edit-kept s b file is).small

pub made-left : (s : Settings) (b name : List ℕ) (why : LeftWhy) → IsJudged s b (judged.Left why) → IsMade s b name (outcome.Left why)
made-left s b name _ (is_left is) = made_left is

pub made-edited : (s : Settings) (b name file : List ℕ) (names : List (List ℕ)) (o : Outcome) → IsJudged s b (judged.Edited file names) → o ≡ outcome.Edited file names
    → IsMade s b name o
made-edited s b name file names o (is_edited taken free is sources) same = subst (IsMade s b name) (sym same) (made_edited taken free is sources)

pub made-split : (s : Settings) (b name file : List ℕ) (id : Option (List ℕ)) (names : List (List ℕ)) (o : Outcome) → IsJudged s b (judged.Split file id names)
    → IsSplitOf file name → o ≡ outcome.Split (stripped_file file name) (debug_file file) id names → IsMade s b name o
made-split s b name file _ _ o (is_split taken loaded fits is sources) parts same = subst (IsMade s b name) (sym same) (made_split taken loaded fits is parts sources)

pub ruleset made_rules = (refused-judged, refused-pair, judged-small, made-left, made-edited, made-split)

pub made-excludes-all : (s : Settings) (b name : List ℕ) (o : Outcome) → IsMade s b name o → (r : Refusal) → OutcomeFails s b name r → ⊥
made-excludes-all s b name o made r fails = made-excludes s b name o r made fails

pub made-only : (s : Settings) (b name : List ℕ) (o : Outcome) → IsMade s b name o → (p : Outcome) → IsOutcome s b name p → p ≡ o
made-only s b name o made p is = only-one s b name o (made-is s b name o made) p is

pub ruleset outcome_rules = (made-is, made-keeps, made-excludes-all, made-only)

-- ### What is said

pub said-left : (s : Settings) (b name : List ℕ) (why : LeftWhy) → IsJudged s b (judged.Left why) → IsSaid s b name (verdicts.Left why)
said-left s b name why is = record { outcome = outcome.Left why; made = made-left s b name why is; says = refl }

pub said-edited : (s : Settings) (b name file : List ℕ) (names : List (List ℕ)) → IsJudged s b (judged.Edited file names) → IsSaid s b name (verdicts.Edited names)
said-edited s b name file names is =
    record { outcome = outcome.Edited file names; made = made-edited s b name file names (outcome.Edited file names) is refl; says = refl }

pub said-split : (s : Settings) (b name file : List ℕ) (id : Option (List ℕ)) (names : List (List ℕ)) → IsJudged s b (judged.Split file id names) → IsSplitOf file name
    → IsSaid s b name (verdicts.Split id names)
said-split s b name file id names is parts =
    let o : Outcome = outcome.Split (stripped_file file name) (debug_file file) id names in
    record { outcome = o; made = made-split s b name file id names o is parts refl; says = refl }

pub ruleset said_rules = (refused-judged, refused-pair, judged-small, said-left, said-edited, said-split)

pub said-excludes : (s : Settings) (b name : List ℕ) (v : Verdict) → IsSaid s b name v → (r : Refusal) → OutcomeFails s b name r → ⊥
said-excludes s b name v said r fails = made-excludes s b name said.outcome r said.made fails

pub said-one : (s : Settings) (b name : List ℕ) (v w : Verdict) → IsSaid s b name v → IsSaid s b name w → v ≡ w
said-one s b name v w one two =
    sym one.says ∙ ap verdict_of (outcome-one s b name one.outcome two.outcome (made-is s b name one.outcome one.made) (made-is s b name two.outcome two.made)) ∙ two.says

pub said-only : (s : Settings) (b name : List ℕ) (v : Verdict) → IsSaid s b name v → (w : Verdict) → IsSaid s b name w → w ≡ v
said-only s b name v said w other = said-one s b name w v other said

pub ruleset verdict_rules = (said-excludes)
