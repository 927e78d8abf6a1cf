-- What a sink over a writer tells of itself, and what of a piece the writer was given, where its bytes are known.
use Rattle.std.specs.Prelude.{◌≡◌, ℕ, List, ◌++◌, None, Option}
use Rattle.std.specs.Io.KnownBytes.{Appends}
use Rattle.file_tree.specs.Heard.{Heard}

-- nothing is told of the bytes
abbrev pub only_faults : ℕ → Heard
only_faults n = record { bytes = None; faults = n }

-- the writer was given what of the piece stands before this rest
pub record WroteTo (piece rest : List ℕ) (old new : Option (List ℕ)) : Type 0 where
  pub front : List ℕ
  pub split : piece ≡ front ++ rest
  pub grew : Appends old new front

-- the writer was given a first part of the piece
pub record WroteFront (piece : List ℕ) (old new : Option (List ℕ)) : Type 0 where
  pub rest : List ℕ
  pub wrote : WroteTo piece rest old new
