-- The pair of a prefix map that counts for a path, found pair by pair from the front. This project's profile.
use Rattle.std.specs.Prelude.{List, ℕ, if◌then◌else◌, Option, Some, None}
use Rattle.dw_base.specs.Paths.{MapPair, lies_under, longer}

-- of a pair that may be there and another the one with the longer base, the first where they have one length
abbrev pub longest_of : Option MapPair → Option MapPair → Option MapPair
longest_of None o = o
longest_of (Some p) o = longer p o

-- the pair that counts, with one pair more behind those that were looked at
abbrev pub counted_with : Option MapPair → MapPair → List ℕ → Option MapPair
counted_with found p t = if lies_under p.base t then longest_of found (Some p) else found
