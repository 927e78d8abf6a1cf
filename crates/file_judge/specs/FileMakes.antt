-- The judge of files is one: what it says of a file can be made, and it says and makes one thing alone. This project's profile.
use Rattle.std.proofs.Common.{◌≡◌, ℕ, Bool, true, false, ◌&&◌, ◌||◌, ◌==◌, List, [], ◌∷◌, length, Option, Some, None, refl, sym, ◌∙◌, ap, subst, lit<}
use Rattle.std.specs.Prelude.{⊤, IsTrue, nat_le}
use Rattle.std.specs.Cmp.Lexicographic.{slice_cmp}
use Rattle.std.specs.List.{AllByRecursion}
use Rattle.std.specs.List.Sorted.{IsStrictlySortedBy}
use Rattle.std.specs.Ordering.{is_lt, nat_cmp}
use Rattle.std.specs.declared.cmp.Ordering.TheVariants.{Less}
use Rattle.std.proofs.lemmas.Bool.{le-leb}
use Rattle.hex.specs.Hex.{IsBytes}
use Rattle.dbg_job.specs.NewIds.{id_bytes}
use Rattle.dbg_job.specs.Outcomes.{IsIdBytes, IsMade, names_of}
use Rattle.dbg_job.specs.Outcomes.IsMade.{left as made_left, edited as made_edited, split as made_split}
use Rattle.dbg_job.proofs.JudgedLaws.{said-one}
use Rattle.dbg_job.proofs.MadeLaws.{made-ids}
use Rattle.dbg_job.proofs.OutcomeOneLaws.{edited-one}
use Rattle.dbg_job.proofs.RisingNameLaws.{made-names, made-texts}
use Rattle.dbg_split.specs.DebugFile.{debug_file}
use Rattle.dbg_split.specs.StrippedFile.{stripped_file}
use Rattle.file_tree.specs.Causes.{AreInOrder}
use Rattle.job_types.specs.Settings.{Settings}
use Rattle.job_types.specs.Verdicts.{verdict_of}
use Rattle.job_types.specs.declared.outcome.Outcome.{Outcome}
use Rattle.job_types.specs.declared.outcome.Outcome.TheVariants as outcome
use Rattle.work_texts.specs.Rules.{may_have_id, rise_after}
use Rattle.root_plan.specs.Verdicts.{AreSources, IsJudge, Made, id_of}
use Rattle.root_plan.specs.Verdicts.Made.{not_made, made_one, made_two}
use Rattle.file_judge.specs.FileJudges.{file_view}

-- ### The names of sources

-- names above a last one, where there is one
abbrev AreAbove : Option (List ℕ) → List (List ℕ) → Type 0
AreAbove None names = ⊤
AreAbove (Some last) names = AllByRecursion (λ name. slice_cmp nat_cmp last name ≡ Less) names

rises : (o : Option (List ℕ)) (names : List (List ℕ)) → AreAbove o names → AreInOrder names → rise_after o names ≡ true
unfolding IsStrictlySortedBy
rises o [] above order = refl
rises None (x ∷ xs) above order = rises (Some x) xs order.0 order.1
rises (Some last) (x ∷ xs) above order = ap (λ (b : Bool). b && rise_after (Some x) xs) (ap is_lt above.0) ∙ rises (Some x) xs order.0 order.1

names-are : (s : Settings) (b name : List ℕ) (o : Outcome) → IsMade s b name o → AreSources (names_of o)
names-are s b name o made = record { rise = rises None (names_of o) tt (made-names s b name o made); plain = made-texts s b name o made }

-- ### The build-id

record MayBeId (id : List ℕ) : Type 0 where
  may : IsTrue (may_have_id true id)
  bytes : IsBytes id

size-may : (zero least most : Bool) → least ≡ true → most ≡ true → (zero || (true && least && most)) ≡ true
size-may true least most l m = refl
size-may false least most l m = rw (l, m) refl

id-may : (id : List ℕ) → IsIdBytes id → MayBeId id
id-may id is = record {
  may = size-may (length id == 0) (nat_le 2 (length id)) (nat_le (length id) 20) (le-leb 2 (length id) is.some) (le-leb (length id) 20 is.wide);
  bytes = is.bytes;
}

no-bytes : IsBytes []
no-bytes i = lit< tt

made-id : (s : Settings) (b name stripped debug : List ℕ) (o : Option (List ℕ)) (names : List (List ℕ)) → IsMade s b name (outcome.Split stripped debug o names) → MayBeId (id_of o)
made-id s b name stripped debug None names made = record { may = refl; bytes = no-bytes }
made-id s b name stripped debug (Some id) names made = id-may id (made-ids s b name stripped debug id names made)

-- ### What is said can be made

outcome-made : (s : Settings) (b name : List ℕ) (o : Outcome) → IsMade s b name o → Made (file_view s) b name (verdict_of o)
outcome-made s b name _ (made_left is) = not_made
outcome-made s b name _ (made_edited {file = file} {names = names} taken free is sources) =
    made_one {file = file} is (names-are s b name (outcome.Edited file names) (made_edited taken free is sources))
outcome-made s b name _ (made_split {file = file} {names = names} taken loaded fits is parts sources) =
    let made : IsMade s b name (outcome.Split (stripped_file file name) (debug_file file) (id_bytes file) names) = made_split taken loaded fits is parts sources in
    let id : MayBeId (id_of (id_bytes file)) = made-id s b name (stripped_file file name) (debug_file file) (id_bytes file) names made in
    made_two {id = id_bytes file} {file = file} {pair = record { stripped = stripped_file file name; debug = debug_file file }} is (record { splits = parts; is = refl }) id.may id.bytes
    (names-are s b name (outcome.Split (stripped_file file name) (debug_file file) (id_bytes file) names) made)

pub file_makes : (s : Settings) → IsJudge (file_view s)
file_makes s = record {
  makes = λ b name verdict said. subst (Made (file_view s) b name) said.says (outcome-made s b name said.outcome said.made);
  one_verdict = said-one s;
  one_file = λ b x y one two. edited-one s b x y one.edited two.edited;
  one_pair = λ file name x y one two. one.is ∙ sym two.is;
}
