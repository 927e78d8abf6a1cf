-- What goes out of a text that is printed through a buffer: the bytes that the sink heard, and those that the buffer still has.
use Rattle.std.specs.Prelude.{◌≡◌, ℕ, ◌≤◌, List, ◌++◌, length, take, drop}
use Rattle.dw_base.specs.declared.fault.Fault.TheVariants.{NoMemory}
use Rattle.file_tree.specs.Causes.{Rose}
use Rattle.file_tree.specs.Heard.{Heard, grown}
use Rattle.dbg_show.specs.declared.show_err.ShowErr.{ShowErr}
use Rattle.dbg_show.specs.declared.show_err.ShowErr.TheVariants as err

-- a first part of the text went out
pub record Begun (text : List ℕ) (old new : Heard) : Type 0 where
  pub count : ℕ
  pub inside : count ≤ length text
  pub bytes : new.bytes ≡ grown old.bytes (take count text)
  pub later : old.faults ≤ new.faults

-- behind the bytes that the buffer had, the text was printed: a first part of both went out, and the buffer has the rest
pub record Printed (text before : List ℕ) (old new : Heard) (behind : List ℕ) : Type 0 where
  pub begun : Begun (before ++ text) old new
  pub rest : behind ≡ drop begun.count (before ++ text)

-- printing ends before its end only for want of memory, or where a fault of the sink came
abbrev pub CutBy : Heard → Heard → ShowErr → Type 0
CutBy old new err.Sink = Rose old.faults new.faults
CutBy old new (err.Fault f) = f ≡ NoMemory

-- a first part of the text went out, and no more of it will
pub record Cut (text : List ℕ) (old new : Heard) (e : ShowErr) : Type 0 where
  pub begun : Begun text old new
  pub cause : CutBy old new e

-- of a text a front was printed, and the rest is left
pub record Goes (total rest before : List ℕ) (old new : Heard) (behind : List ℕ) : Type 0 where
  pub front : List ℕ
  pub joined : total ≡ front ++ rest
  pub printed : Printed front before old new behind
