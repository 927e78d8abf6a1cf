-- The bodies behind the tables of texts: string offsets, line tables, name tables, macro units and units.
use Rattle.std.specs.Prelude.{Bool, ℕ, List, [], ◌∷◌, ◌++◌, Option}
use Rattle.dw_base.specs.FileViews.{View}
use Rattle.dw_base.specs.Paths.{PathMap}
use Rattle.dw_meaning.specs.DataOutput.{Body}
use Rattle.dw_rewrite.specs.NewTables.{bodies_known}
use Rattle.dw_read.specs.AllFields.{Fields}

-- one body, of number 0 where there is none
abbrev pub one_body : List Body → List Body
one_body [] = record { number = 0; bytes = [] } ∷ []
one_body (x ∷ xs) = x ∷ xs

-- the bodies behind the tables of texts, by what debug data say of texts: string offsets, line tables, name tables, macro units, and units
abbrev pub pushed_bodies : PathMap → View → (Bool → ℕ → Option ℕ) → (Bool → ℕ → Option ℕ) → (Bool → ℕ → Option ℕ) → Body → Fields → List Body
pushed_bodies m v ks kl kt lines us =
    one_body (bodies_known m v ks kl kt us.slots)
    ++ lines ∷ (one_body (bodies_known m v ks kl kt us.names) ++ (bodies_known m v ks kl kt us.macros ++ bodies_known m v ks kl kt us.units))
