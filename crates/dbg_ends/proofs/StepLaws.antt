-- Laws on the steps that commands share.
use Rattle.std.proofs.Common.{◌≡◌, ◌≤◌, ℕ, true, false, List, Some, None, arith, refl, sym, ap, ◌∙◌, subst}
use Rattle.std.specs.Prelude.{Option, is_some}
use Rattle.std.specs.FinMap as fin
use Rattle.dw_base.specs.Refusals.{Blames}
use Rattle.dw_base.specs.declared.fault.Fault.{Fault}
use Rattle.dw_base.specs.declared.fault.Refusal.{Refusal}
use Rattle.file_tree.specs.declared.node.Found.{Found}
use Rattle.file_tree.specs.Trees.{TreeMap}
use Rattle.file_tree.specs.Causes.{Stood, OnlyAt}
use Rattle.dbg_ends.specs.Due.{IsFree}
use Rattle.file_tree.specs.Seen.{Seen, now_of}
use Rattle.dbg_ends.specs.declared.end.End.{End}
use Rattle.dbg_ends.specs.Steps.{BlamesAt, FaultEnds, OutputFree, OutputEnds, OutputsEnd, OnlyAtBoth}
use Rattle.dbg_ends.specs.Steps.{BlamesAt as blames, FaultEnds as fault, OutputEnds as output, OutputsEnd as outputs}

-- what a fault is blamed for, its end is
pub blames_at : (fails : Refusal → Type 0) (path : List ℕ) (f : Fault) (e : End) → Blames fails f → FaultEnds path f e → BlamesAt fails path e
blames_at fails path f e row fault.refused = blames.refused row
blames_at fails path f e row fault.memory = blames.memory

-- where this stood at the path, and a file may be put in its place, the path is free
pub output_free : (old : Option TreeMap) (path : List ℕ) (what : Found) → Stood old path 0 what → IsFree what → OutputFree old path
output_free old path what stood free = record { is = λ t tells. subst IsFree (sym (stood.is t tells)) free }

-- where one path alone changed, so did the two at most
pub first_alone : (path beside : List ℕ) (old new : Option TreeMap) → OnlyAt path old new → OnlyAtBoth path beside old new
first_alone path beside old new at = record { tells = at.tells; others = λ t u q is_old is_new apart _. at.others t u q is_old is_new apart }

some_of : (x : Option TreeMap) (t : TreeMap) (old : Option TreeMap) → old ≡ Some t → is_some x ≡ is_some old → (P : Type 0) → ((m : TreeMap) → x ≡ Some m → P) → P
some_of None t old is same P then = let no : false ≡ true = same ∙ ap is_some is in absurd cc
some_of (Some m) t old is same P then = then m refl

-- the one path changed, and then the other
pub one_then_other : (path beside : List ℕ) (old mid new : Option TreeMap) → OnlyAt path old mid → OnlyAt beside mid new → OnlyAtBoth path beside old new
one_then_other path beside old mid new one other = record {
  tells = other.tells ∙ one.tells;
  others = λ t u q is_old is_new apart away. some_of mid t old is_old one.tells (fin.get u q ≡ fin.get t q)
      (λ m is. other.others m u q is is_new away ∙ one.others t m q is_old is apart);
}

-- the writing of an output behind one that was put
pub then_second : (path beside : List ℕ) (old mid new : Seen) (e : End) → OnlyAt path (now_of old) (now_of mid) → old.faults ≤ mid.faults → OutputEnds beside mid new e
    → OutputsEnd path beside old new e
then_second path beside old mid new e one later (output.failed rose other) =
    outputs.failed (omega (arith, later, rose)) (one_then_other path beside (now_of old) (now_of mid) (now_of new) one other)
then_second path beside old mid new e one later (output.memory other) = outputs.memory (one_then_other path beside (now_of old) (now_of mid) (now_of new) one other)
