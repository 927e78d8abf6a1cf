-- The build-id of a file that is written: the first bytes of the SHA-1 of a seed and the file (this project's profile). The bytes
-- of the id count as zeros there, so that the id doesn't depend on what stood in its place.
use Rattle.std.specs.Prelude.{ℕ, ◌+◌, List, ◌++◌, take, drop}
use Rattle.sha1.specs.Sha1.{sha1}
use Rattle.dw_base.specs.Notes.{zeroed}

-- the id of n bytes of a file in which it stands at a place
unfoldable pub id_of : List ℕ → List ℕ → ℕ → ℕ → List ℕ
id_of seed b at n = take n (sha1 (seed ++ zeroed (record { place = at; size = n }) b))

-- the file with its id
unfoldable pub with_id : List ℕ → List ℕ → ℕ → ℕ → List ℕ
with_id seed b at n = take at b ++ id_of seed b at n ++ drop (at + n) b
