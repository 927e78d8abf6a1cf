-- What is kept while nodes are linked from the last to the first: for each depth the node that comes next in it, if one does.
use Rattle.std.specs.Prelude.{ℕ, zero, suc, List, [], ◌∷◌, get_or, Option, Some, None}

-- what is known of a depth
abbrev pub next_known : List (Option ℕ) → ℕ → Option ℕ
next_known next d = get_or next d None

-- in front of a node of a depth: it comes next there, and nothing in deeper ones
abbrev pub with_next : ℕ → ℕ → List (Option ℕ) → List (Option ℕ)
with_next k zero next = Some k ∷ []
with_next k (suc d) [] = None ∷ with_next k d []
with_next k (suc d) (n ∷ ns) = n ∷ with_next k d ns

-- in front of nodes of these depths, numbered from k on
abbrev pub all_next : ℕ → List ℕ → List (Option ℕ)
all_next k [] = []
all_next k (d ∷ ds) = with_next k d (all_next (suc k) ds)
