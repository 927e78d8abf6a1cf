-- What the paths of a root's folders begin with.
use Rattle.std.specs.Prelude.{◌≡◌, ℕ, List, [], ◌∷◌, ◌++◌}
use Rattle.root_paths.specs.Roots.{work_folder, debug_folder}

-- these are the fronts of paths below the root, below its work folder and below its folder of debug files
pub record AreFronts (root front work debug : List ℕ) : Type 0 where
  pub front_is : front ≡ root ++ 47 ∷ []
  pub work_is : work ≡ work_folder root ++ 47 ∷ []
  pub debug_is : debug ≡ debug_folder root ++ 47 ∷ []
