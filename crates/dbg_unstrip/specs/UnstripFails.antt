-- What keeps a stripped file and a debug file from being joined: they are no pair, the stripped file is refused, or the two don't match.
-- The conditions exclude each other, so a pair is answered in one way, want of memory aside. This project's profile.
use Rattle.std.specs.Prelude.{false, true, ◌≡◌, ◌≤◌, ℕ, ⊤, List, length}
use Rattle.dw_base.specs.Layout.{is_loaded_kind, output_limit}
use Rattle.dw_base.specs.LayoutFails.{TooLong}
use Rattle.dw_base.specs.Refusals.{at}
use Rattle.dw_base.specs.declared.fault.Fault.{Fault}
use Rattle.dw_base.specs.declared.fault.Fault.TheVariants.{NoMemory as no_memory, Refused as refused}
use Rattle.dw_base.specs.declared.fault.Kind.TheVariants.{FileType}
use Rattle.dw_base.specs.declared.fault.Refusal.{Refusal}
use Rattle.dw_view.specs.Pairs.{IsPaired, Mismatches}
use Rattle.dw_view.specs.declared.mismatch.Mismatch.TheVariants.{NoLink, Name, Sum}
use Rattle.dbg_unstrip.specs.Joined.{joined}
use Rattle.dbg_unstrip.specs.Matching.{DontMatch}
use Rattle.dbg_unstrip.specs.declared.unstrip_err.UnstripErr.{UnstripErr}
use Rattle.dbg_unstrip.specs.declared.unstrip_err.UnstripErr.TheVariants.{NotAPair, Unmatched, Refused, NoMemory}

-- the error for a fault of a file that is written
abbrev pub of_fault : Fault → UnstripErr
of_fault no_memory = NoMemory
of_fault (refused r) = Refused r

-- the answer that a link has another name, with both, or want of memory
abbrev pub NamesOther : List ℕ → List ℕ → UnstripErr → Type 0
NamesOther named found (NotAPair NoLink) = ⊥
NamesOther named found (NotAPair (Name x y)) = (x.items ≡ named) × (y.items ≡ found)
NamesOther named found (NotAPair (Sum x y)) = ⊥
NamesOther named found (Unmatched place) = ⊥
NamesOther named found (Refused r) = ⊥
NamesOther named found NoMemory = ⊤

-- why the two are no pair, or want of memory
abbrev pub PairBlames : List ℕ → List ℕ → List ℕ → UnstripErr → Type 0
PairBlames s d name (NotAPair m) = Mismatches s d name m
PairBlames s d name (Unmatched place) = ⊥
PairBlames s d name (Refused r) = ⊥
PairBlames s d name NoMemory = ⊤

-- the two are a pair by this name, and the stripped file is one that is loaded as it stands
pub record CanMatch (s d name : List ℕ) : Type 0 where
  pub paired : IsPaired s d name
  pub loaded : is_loaded_kind s ≡ true

-- and they match
pub record AreMatched (s d name : List ℕ) : Type 0 where
  pub can : CanMatch s d name
  pub matched : (place : ℕ) → DontMatch s d place → ⊥

-- nothing keeps them from being joined: the file isn't too long, either
pub record AreJoinable (s d name : List ℕ) : Type 0 where
  pub pair : AreMatched s d name
  pub short : length (joined s d) ≤ output_limit

-- they don't match, at a place
pub record MatchFails (s d name : List ℕ) (place : ℕ) : Type 0 where
  pub can : CanMatch s d name
  pub unmatched : DontMatch s d place

-- a refusal: of a stripped file of another type, or of a file that would be too long, where the two match
pub data UnstripRefuses (s d name : List ℕ) : Refusal → Type 0 where
  file_type : IsPaired s d name → is_loaded_kind s ≡ false → UnstripRefuses s d name (at FileType 0 16)
  large : {r : Refusal} → CanMatch s d name → ((place : ℕ) → DontMatch s d place → ⊥) → TooLong (length (joined s d)) r → UnstripRefuses s d name r

-- a condition for which they aren't joined
abbrev pub UnstripFails : List ℕ → List ℕ → List ℕ → UnstripErr → Type 0
UnstripFails s d name (NotAPair m) = Mismatches s d name m
UnstripFails s d name (Unmatched place) = MatchFails s d name place
UnstripFails s d name (Refused r) = UnstripRefuses s d name r
UnstripFails s d name NoMemory = ⊥

-- why they weren't: one of them, or want of memory
abbrev pub UnstripBlames : List ℕ → List ℕ → List ℕ → UnstripErr → Type 0
UnstripBlames s d name (NotAPair m) = Mismatches s d name m
UnstripBlames s d name (Unmatched place) = MatchFails s d name place
UnstripBlames s d name (Refused r) = UnstripRefuses s d name r
UnstripBlames s d name NoMemory = ⊤
