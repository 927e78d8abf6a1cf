-- What the ends of steps leave of the tree, and what is due behind a file that was read.
use Rattle.std.proofs.Common.{◌≡◌, ◌⊎◌, inl, inr, ℕ, List, Some, None, refl, sym, ap, ◌∙◌, subst, arith}
use Rattle.std.specs.Prelude.{Option, is_some, option_map, unwrap_or}
use Rattle.std.specs.FinMap as fin
use Rattle.file_tree.specs.declared.node.Found.{Found}
use Rattle.file_tree.specs.declared.node.Found.TheVariants as found
use Rattle.file_tree.specs.declared.node.Node.{Node}
use Rattle.file_tree.specs.Causes.{Calm, OnlyAt, Rose, Stood}
use Rattle.file_tree.specs.Seen.{Seen, now_of}
use Rattle.file_tree.specs.Trees.{TreeMap, stands_at, with_node}
use Rattle.dbg_ends.specs.declared.end.End.{End}
use Rattle.dbg_ends.specs.Due.{InputDue}
use Rattle.dbg_ends.specs.Steps.{OnlyAtBoth, OutputEnds, OutputsEnd}
use Rattle.dbg_ends.specs.Steps.{OutputEnds as written, OutputsEnd as both_written}
use Rattle.dbg_ends.proofs.StepLaws.{one_then_other}
use Rattle.dbg_run.proofs.EditLaws.{calm-at, calm_both}
use Rattle.dbg_run.proofs.KeptLaws.{get_put_other}

pub either : (A B C : Type 0) → (A → B) → A ⊎ C → B ⊎ C
either A B C f (inl a) = inl (f a)
either A B C f (inr c) = inr c

-- behind a file that was read what is due of its bytes is due of the whole
pub behind_file : (path : List ℕ) (limit : ℕ) (b : List ℕ) (mode n : ℕ) (old : Seen) (t : TreeMap) (P : List ℕ → Type 0) → now_of old ≡ Some t
    → Stood (now_of old) path limit (found.File b mode) → P b → InputDue (stands_at t path limit) n P
behind_file path limit b mode n old t P tells read due = subst (λ (what : Found). InputDue what n P) (sym (read.is t tells)) due

pub rose_later : (old mid new : Seen) → Calm old mid → Rose mid.faults new.faults → Rose old.faults new.faults
rose_later old mid new calm rose = omega (arith, calm.later, rose)

-- a file that was put differs at its path alone
pub put_at : (path : List ℕ) (n : Node) (old new : Option TreeMap) → new ≡ option_map (with_node path n) old → OnlyAt path old new
put_at path n None new is = record { tells = ap is_some is; others = λ t u q of_old of_new other. cc }
put_at path n (Some m) new is = record {
  tells = ap is_some is;
  others = λ t u q of_old of_new other.
      let now : Some u ≡ Some (with_node path n m) = sym of_new ∙ is in
      let one : u ≡ with_node path n m = ap (λ (o : Option TreeMap). unwrap_or o u) now in
      let was : m ≡ t = ap (λ (o : Option TreeMap). unwrap_or o m) of_old in
      ap (λ (v : TreeMap). fin.get v q) one ∙ get_put_other m path q n other ∙ ap (λ (v : TreeMap). fin.get v q) was;
}

-- and two at theirs
pub put_both : (path beside : List ℕ) (n m : Node) (old new : Option TreeMap) → new ≡ option_map (with_node beside m) (option_map (with_node path n) old)
    → OnlyAtBoth path beside old new
put_both path beside n m old new is =
    one_then_other path beside old (option_map (with_node path n) old) new (put_at path n old (option_map (with_node path n) old) refl)
    (put_at beside m (option_map (with_node path n) old) new is)

pub written_at : (path : List ℕ) (old mid new : Seen) (e : End) → Calm old mid → OutputEnds path mid new e → OnlyAt path (now_of old) (now_of new)
written_at path old mid new e calm (written.failed rose at) = calm-at path old mid (now_of new) calm at
written_at path old mid new e calm (written.memory at) = calm-at path old mid (now_of new) calm at

pub both_at : (path beside : List ℕ) (old mid new : Seen) (e : End) → Calm old mid → OutputsEnd path beside mid new e → OnlyAtBoth path beside (now_of old) (now_of new)
both_at path beside old mid new e calm (both_written.failed rose at) = calm_both path beside old mid (now_of new) calm at
both_at path beside old mid new e calm (both_written.memory at) = calm_both path beside old mid (now_of new) calm at
