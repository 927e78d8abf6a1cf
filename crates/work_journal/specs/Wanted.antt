-- What a run is to make of a tree, and the trees partway through it: a tree that shows a marking.
use Rattle.std.specs.Prelude.{◌≡◌, ◌≢◌, ℕ, List, Option, Some, None, IsTrue}
use Rattle.std.specs.FinMap as fin
use Rattle.file_tree.specs.declared.node.Node.{Node}
use Rattle.file_tree.specs.Trees.{TreeMap, is_below}
use Rattle.journal_core.specs.Names.{Name, IsStep, plan_new, plan, temp, commit, fresh, final, target, IsName, EachHasStep}
use Rattle.journal_core.specs.Marks.{Mark, Marking, mark, absent, first, whole, any, earlier}
use Rattle.journal_core.specs.Shapes.{HasShape}
use Rattle.work_journal.specs.Work.{work_path}

-- the work folder, the number of steps of each job, the path of each output, the whole node of each name, the node that an earlier
-- program gives it where it can say what is wanted, and the tree before the run
pub record Wanted : Type 0 where
  pub work : List ℕ
  pub steps : List ℕ
  pub output : ℕ → ℕ → List ℕ
  pub node : Name → Node
  pub older : Name → Option Node
  pub start : TreeMap

-- the path of a name of the run
abbrev pub path_of : Wanted → Name → List ℕ
path_of w plan_new = work_path w.work plan_new
path_of w plan = work_path w.work plan
path_of w (temp job step) = work_path w.work (temp job step)
path_of w (commit job) = work_path w.work (commit job)
path_of w (fresh part) = work_path w.work (fresh part)
path_of w (final part) = work_path w.work (final part)
path_of w (target job step) = w.output job step

-- there is something, and it is this
pub record IsThere (node is : Option Node) : Type 0 where
  pub same : is ≡ node
  pub some : is ≢ None

-- what stands at a name of this mark, where this node stood before the run, that one is wanted, and an earlier program gives it the
-- third
abbrev pub MarkHas : Mark → Option Node → Node → Option Node → Option Node → Type 0
MarkHas absent was node old is = is ≡ None
MarkHas first was node old is = is ≡ was
MarkHas whole was node old is = is ≡ Some node
MarkHas any was node old is = is ≢ None
MarkHas earlier was node old is = IsThere old is

-- the tree shows the marking, and all else is as before the run
pub record Has (w : Wanted) (m : Marking) (t : TreeMap) : Type 0 where
  pub named : (n : Name) → IsName w.steps n → MarkHas (mark m n) (fin.get w.start (path_of w n)) (w.node n) (w.older n) (fin.get t (path_of w n))
  pub others : (q : List ℕ) → ((n : Name) → IsName w.steps n → q ≢ path_of w n) → fin.get t q ≡ fin.get w.start q

-- a tree partway through the run
pub record IsPartway (w : Wanted) (t : TreeMap) : Type 0 where
  pub marking : Marking
  pub shape : HasShape w.steps marking
  pub has : Has w marking t

-- each job has a step, names are told apart by their paths, and a name holds what its new name held
pub record IsApart (w : Wanted) : Type 0 where
  pub some : EachHasStep w.steps
  pub apart : (a b : Name) → IsName w.steps a → IsName w.steps b → path_of w a ≡ path_of w b → a ≡ b
  pub plans : w.node plan_new ≡ w.node plan
  pub temps : (j k : ℕ) → w.node (temp j k) ≡ w.node (target j k)
  pub texts : (i : ℕ) → w.node (fresh i) ≡ w.node (final i)

-- nothing lay in the work folder before the run, and no output lies in it
pub record IsWork (w : Wanted) : Type 0 where
  pub clean : (q : List ℕ) → IsTrue (is_below w.work q) → fin.get w.start q ≡ None
  pub outside : (j k : ℕ) → IsStep w.steps j k → IsTrue (is_below w.work (w.output j k)) → ⊥
