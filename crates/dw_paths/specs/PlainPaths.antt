-- Plain paths: paths below a folder, written in one way only. This project's profile.
use Rattle.std.specs.Prelude.{Bool, ℕ, ◌&&◌, not, nat_eq, List, [], ◌∷◌, length}
use Rattle.std.specs.List.{starts_with, list_all}
use Rattle.dw_base.specs.Paths.{slash}
use Rattle.dw_base.specs.Texts.{has_nul}
use Rattle.dw_paths.specs.Components.{components, is_name}

-- the path isn't empty, has no NUL, doesn't begin with a slash, and each of its components is a name:
-- it isn't empty, and it is neither `.` nor `..`
unfoldable pub is_plain : List ℕ → Bool
is_plain path =
    not (nat_eq (length path) 0) && not (has_nul path) && not (starts_with nat_eq path (slash ∷ []))
    && list_all is_name (components path)
