-- What a maker holds: the numbers of steps of its jobs, paths, planned digests; and the nodes that it makes of a file.
use Rattle.std.specs.Prelude.{◌≡◌, ◌≢◌, ℕ, ◌<◌, ◌≤◌, List, length, get_or}
use Rattle.file_tree.specs.declared.node.Node.{Node}

pub record MakerView : Type 0 where
  pub steps : List ℕ
  pub source : ℕ → List ℕ
  pub target : ℕ → ℕ → List ℕ
  pub planned : ℕ → List ℕ
  pub digest : List ℕ → List ℕ

-- which nodes a job makes of a file, by its bytes and its mode
abbrev pub Makes : Type 1
Makes = ℕ → List ℕ → ℕ → List Node → Type 0

-- each job has 1 to 4 steps; nodes are made only of the planned file, one a step, and no others
pub record IsMaker (v : MakerView) (makes : Makes) : Type 0 where
  pub some : (j : ℕ) → j < length v.steps → 0 < get_or v.steps j 0
  pub most : (j : ℕ) → j < length v.steps → get_or v.steps j 0 ≤ 4
  pub of_planned : (j : ℕ) (bytes : List ℕ) (mode : ℕ) (ns : List Node) → makes j bytes mode ns → v.digest bytes ≡ v.planned j
  pub one_each : (j : ℕ) (bytes : List ℕ) (mode : ℕ) (ns : List Node) → j < length v.steps → makes j bytes mode ns → length ns ≡ get_or v.steps j 0
  pub one : (j : ℕ) (bytes : List ℕ) (mode : ℕ) (ns ms : List Node) → makes j bytes mode ns → makes j bytes mode ms → ns ≡ ms

-- these bytes aren't the job's planned file, by these digests
pub record IsChange (v : MakerView) (j : ℕ) (bytes p f : List ℕ) : Type 0 where
  pub differs : v.digest bytes ≢ v.planned j
  pub planned : p ≡ v.planned j
  pub found : f ≡ v.digest bytes
