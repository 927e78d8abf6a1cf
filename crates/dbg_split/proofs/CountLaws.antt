-- Numbers that pass a test, counted from 0, before and after sections are dropped.
use Rattle.std.proofs.Common.{◌≡◌, ℕ, zero, suc, ◌+◌, ◌<◌, ◌≤◌, ◌==◌, ◌&&◌, Bool, true, false, List, if◌then◌else◌, refl, sym, ap, ◌∙◌, arith, inl, inr}
use Rattle.std.proofs.lemmas.Bool.{cases_Bool}
use Rattle.std.specs.Prelude.{Option}
use Rattle.dw_base.specs.Notes.{or_this}
use Rattle.dw_view.specs.PairViews.{count_below, nth_below}
use Rattle.dw_view.proofs.CountLaws.{count-same}
use Rattle.dbg_split.specs.Droppable.{is_droppable}
use Rattle.dbg_split.specs.StrippedFile.{kept_before}
use Rattle.dbg_split.proofs.SplitLoadedLaws.{next-number, or-none, or-same, renumbered, same-number}

-- two tests of old and new numbers that agree
pub record Agree (b : List ℕ) (old new : ℕ → Bool) (n : ℕ) : Type 0 where
  pub dropped : (i : ℕ) → i < n → is_droppable b i ≡ true → old i ≡ false
  pub kept : (i : ℕ) → i < n → is_droppable b i ≡ false → new (kept_before b i) ≡ old i

pub counts-agree : (b : List ℕ) (old new : ℕ → Bool) (n m : ℕ) → Agree b old new n → m ≤ n → count_below new (kept_before b m) ≡ count_below old m
counts-agree b old new n zero agree le = refl
counts-agree b old new n (suc m) agree le =
    let before = counts-agree b old new n m agree (omega arith) in
    elim (cases_Bool (is_droppable b m)) [
      | inl dropped ↦
          ap (λ (k : ℕ). count_below new k) (same-number b m dropped) ∙ before ∙ sym (count-same old m (agree.dropped m (omega arith) dropped))
      | inr kept ↦
          ap (λ (k : ℕ). count_below new k) (next-number b m kept)
          ∙ ap (λ (t : Bool). if t then count_below new (kept_before b m) + 1 else count_below new (kept_before b m)) (agree.kept m (omega arith) kept)
          ∙ ap (λ (k : ℕ). if old m then k + 1 else k) before
    ]

pub nths-agree : (b : List ℕ) (old new : ℕ → Bool) (k n m : ℕ) → Agree b old new n → m ≤ n
    → nth_below new k (kept_before b m) ≡ renumbered b (nth_below old k m)
nths-agree b old new k n zero agree le = refl
nths-agree b old new k n (suc m) agree le =
    let before = nths-agree b old new k n m agree (omega arith) in
    elim (cases_Bool (is_droppable b m)) [
      | inl dropped ↦
          ap (λ (j : ℕ). nth_below new k j) (same-number b m dropped)
          ∙ before
          ∙ ap (renumbered b)
          (sym (ap (λ (t : Bool). or_this (nth_below old k m) m (t && count_below old m == k)) (agree.dropped m (omega arith) dropped) ∙ or-none (nth_below old k m) m))
      | inr kept ↦
          ap (λ (j : ℕ). nth_below new k j) (next-number b m kept)
          ∙ ap (λ (o : Option ℕ). or_this o (kept_before b m) (new (kept_before b m) && count_below new (kept_before b m) == k)) before
          ∙ ap (λ (t : Bool). or_this (renumbered b (nth_below old k m)) (kept_before b m) (t && count_below new (kept_before b m) == k)) (agree.kept m (omega arith) kept)
          ∙ ap (λ (c : ℕ). or_this (renumbered b (nth_below old k m)) (kept_before b m) (old m && c == k)) (counts-agree b old new n m agree (omega arith))
          ∙ or-same b (nth_below old k m) m (old m && count_below old m == k)
    ]
