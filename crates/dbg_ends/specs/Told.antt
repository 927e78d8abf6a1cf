-- What becomes of an end: a status, and a line on the error sink.
use Rattle.std.specs.Prelude.{◌≡◌, ◌≢◌, ℕ}
use Rattle.file_tree.specs.Heard.{Heard, Said}
use Rattle.dbg_ends.specs.declared.end.End.{End}
use Rattle.dbg_ends.specs.declared.end.End.TheVariants as end
use Rattle.dbg_ends.specs.Ends.{status_of, line_of}

-- what goes to the error sink: nothing where the command is done, and that sink isn't called; else the end's line, or a
-- first part of it
pub data LineGoes (old new : Heard) : End → Type 0 where
  silent : new ≡ old → LineGoes old new end.Done
  line : {e : End} → e ≢ end.Done → Said (line_of e) old new → LineGoes old new e

-- the end is told; where no memory is left for its line, that is told in its place. The line of a fault of the output takes none: that end
-- comes when a text has begun to go out
pub data Told (e : End) (old new : Heard) (answer : ℕ) : Type 0 where
  as_it_is : answer ≡ status_of e → LineGoes old new e → Told e old new answer
  out_of_memory : e ≢ end.Done → e ≢ end.OutputFault → answer ≡ 13 → LineGoes old new end.NoMemory → Told e old new answer

-- the call ended in one of these ways: its status is that way's, and so is its line on the error sink
pub record Ended (ways : End → Type 0) (old new : Heard) (answer : ℕ) : Type 0 where
  pub end : End
  pub way : ways end
  pub status : answer ≡ status_of end
  pub line : LineGoes old new end
