-- The end of a run: its four texts put, settled, and renamed.
use Rattle.std.specs.Prelude.{◌≡◌, ℕ, suc, false, ◌<◌, List, [], ◌∷◌, ◌++◌, map, get_or, IsTrue}
use Rattle.file_tree.specs.declared.node.Node.{Node}
use Rattle.file_tree.specs.declared.node.Node.TheVariants as node
use Rattle.journal_core.specs.declared.event.Phase.TheVariants.{Running, Finishing}
use Rattle.journal_core.specs.Names.{fresh}
use Rattle.journal_core.specs.Table.{CoreState, all_done, closed_next, in_phase}
use Rattle.work_journal.specs.Wanted.{Wanted}

-- a text of the work folder as a file
abbrev pub text_file : List ℕ → Node
text_file text = node.File text 420

-- the three lists and the finished text as files
abbrev pub end_nodes : List (List ℕ) → List ℕ → List Node
end_nodes lists finished = map text_file lists ++ text_file finished ∷ []

-- these are the wanted texts of the end
abbrev pub AreTexts : Wanted → List Node → Type 0
AreTexts w texts = (i : ℕ) (d : Node) → i < 4 → w.node (fresh i) ≡ get_or texts i d

-- so many of the texts are put since the core was this one
pub data IsPutting (c d : CoreState) : ℕ → Type 0 where
  none_put : d ≡ c → IsPutting c d 0
  some_put : (n : ℕ) → n < 4 → d ≡ in_phase c (Finishing (suc n) false) → IsPutting c d (suc n)

-- and so many are renamed
pub data IsRenaming (c d : CoreState) : ℕ → Type 0 where
  none_renamed : d ≡ c → IsRenaming c d 0
  some_renamed : (n : ℕ) → n < 4 → d ≡ in_phase c (closed_next n) → IsRenaming c d (suc n)

-- all jobs are done, and nothing of the end is put
pub record IsEnding (c : CoreState) : Type 0 where
  pub running : c.phase ≡ Running
  pub done : IsTrue (all_done c.states)
