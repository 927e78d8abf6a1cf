-- What is said of a file of a build root, and what can be made of it: it is left, edited, or edited and split.
use Rattle.std.specs.Prelude.{◌≡◌, ℕ, true, false, List, [], Option, Some, None, IsTrue}
use Rattle.std.specs.List.{AllByRecursion}
use Rattle.hex.specs.Hex.{IsBytes}
use Rattle.dw_base.specs.Texts.{has_nul}
use Rattle.job_types.specs.declared.outcome.LeftWhy.{LeftWhy}
use Rattle.job_types.specs.declared.outcome.Verdict.{Verdict}
use Rattle.job_types.specs.declared.outcome.Verdict.TheVariants.{Left, Edited, Split}
use Rattle.work_texts.specs.Rules.{may_have_id, rise_after}

-- a build-id as a plan has it: empty where a file has none
abbrev pub id_of : Option (List ℕ) → List ℕ
id_of None = []
id_of (Some id) = id

-- a stripped file and its debug file
pub record Pair : Type 0 where
  pub stripped : List ℕ
  pub debug : List ℕ

-- what is said of a file by its bytes and the name of its debug file, where it isn't refused; the edited file of its
-- bytes; and the pair of a file that is split, by its bytes and that name. Of each there is at most one
pub record JudgeView : Type 1 where
  pub says : List ℕ → List ℕ → Verdict → Type 0
  pub edits : List ℕ → List ℕ → Type 0
  pub pairs : List ℕ → List ℕ → Pair → Type 0

-- nothing is said of the file: it is refused
pub record IsUnsaid (v : JudgeView) (bytes name : List ℕ) : Type 0 where
  pub none : (x : Verdict) → v.says bytes name x → ⊥

-- the names of a file's sources: in byte order, each once, none with a NUL
pub record AreSources (names : List (List ℕ)) : Type 0 where
  pub rise : IsTrue (rise_after None names)
  pub plain : AllByRecursion (λ name. has_nul name ≡ false) names

-- the outputs of a file of which this is said: it can be edited, and split
pub data Made (v : JudgeView) (bytes name : List ℕ) : Verdict → Type 0 where
  not_made : {why : LeftWhy} → Made v bytes name (Left why)
  made_one : {names : List (List ℕ)} {file : List ℕ} → v.edits bytes file → AreSources names → Made v bytes name (Edited names)
  made_two : {id : Option (List ℕ)} {file : List ℕ} {names : List (List ℕ)} {pair : Pair} → v.edits bytes file → v.pairs file name pair
      → IsTrue (may_have_id true (id_of id)) → IsBytes (id_of id) → AreSources names → Made v bytes name (Split id names)

-- whatever is said of a file can be made, and of each file one thing is said, and one thing is made
pub record IsJudge (v : JudgeView) : Type 0 where
  pub makes : (bytes name : List ℕ) (verdict : Verdict) → v.says bytes name verdict → Made v bytes name verdict
  pub one_verdict : (bytes name : List ℕ) (x y : Verdict) → v.says bytes name x → v.says bytes name y → x ≡ y
  pub one_file : (bytes x y : List ℕ) → v.edits bytes x → v.edits bytes y → x ≡ y
  pub one_pair : (bytes name : List ℕ) (x y : Pair) → v.pairs bytes name x → v.pairs bytes name y → x ≡ y
