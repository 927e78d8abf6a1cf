-- The texts of a generated file, and its table of texts (DWARF 4, 7.5.4, class string): each text that a unit names once, in order of first
-- mention. This project's profile.
use Rattle.std.specs.Prelude.{ℕ, zero, suc, codes, List, [], ◌∷◌, ◌++◌, slice_index}
use Rattle.std.specs.Fmt.{decimal}
use Rattle.dw_base.specs.Lists.{tabulate}
use Rattle.dw_base.specs.StringTables.{with_text}

-- what a function gives at 0, 1, .. below n, one after another
abbrev pub chained : {X : Type 0} → (ℕ → List X) → ℕ → List X
chained f zero = []
chained f (suc n) = chained f n ++ f n

-- the directory in which all units were compiled
abbrev pub directory : List ℕ
directory = codes "/build/p"

-- the name of a unit
abbrev pub unit_name : ℕ → List ℕ
unit_name unit = codes "/build/p/u" ++ (decimal unit ++ codes ".c")

-- the name of a variable
abbrev pub variable_name : ℕ → List ℕ
variable_name variable = codes "v" ++ decimal variable

-- the texts that a unit with so many variables names, in order
abbrev pub unit_texts : ℕ → ℕ → List (List ℕ)
unit_texts unit count = unit_name unit ∷ directory ∷ tabulate variable_name count

-- texts, and further ones behind them that aren't among those in front of them
abbrev pub each_once : List (List ℕ) → List (List ℕ) → List (List ℕ)
each_once texts [] = texts
each_once texts (t ∷ ts) = each_once (with_text texts t) ts

-- the texts that the first units name, which have so many variables each, in order
unfoldable pub mentions_of : List ℕ → ℕ → List (List ℕ)
mentions_of counts units = chained (λ unit. unit_texts unit (slice_index counts unit)) units

-- these texts, each once, in order of first mention
unfoldable pub texts_of : List ℕ → ℕ → List (List ℕ)
texts_of counts units = each_once [] (mentions_of counts units)
