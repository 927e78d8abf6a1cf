-- The texts of a work folder that a stop left partway are the run's own: the plan that is read there is the run's plan, and the report that is
-- read there is the plan's.
use Rattle.std.proofs.Common.{◌≡◌, ℕ, ◌≤◌, Bool, true, false, List, [], ◌++◌, length, refl, sym, ap, subst, ◌∙◌, arith, Result, Ok, Err}
use Rattle.std.specs.Prelude.{Option, Some, None, IsTrue}
use Rattle.std.specs.FinMap as fin
use Rattle.file_tree.specs.declared.node.Node.{Node}
use Rattle.file_tree.specs.declared.node.Node.TheVariants as node
use Rattle.file_tree.specs.declared.node.Found.TheVariants as found
use Rattle.file_tree.specs.Trees.{TreeMap, stands_at}
use Rattle.file_tree.specs.Seen.{Seen, map_now}
use Rattle.journal_core.specs.Marks.{Mark, absent, first, whole, any, earlier, is_kept}
use Rattle.journal_core.specs.Names.{plan, final}
use Rattle.work_texts.specs.declared.journal_err.JournalErr.{JournalErr}
use Rattle.work_texts.specs.declared.key.RunKey.{RunKey}
use Rattle.work_texts.specs.declared.plan.FinishedData.{FinishedData}
use Rattle.work_texts.specs.declared.plan.PlanData.{PlanData}
use Rattle.work_texts.specs.Fields.{Field, text_of, plan_fields, plan_text_fields, finished_fields}
use Rattle.work_texts.specs.Reading.{Reading, plan_at, finished_at}
use Rattle.work_texts.specs.Rules.{IsPlan, IsVersionedPlan, IsFinished, IsPlanText, IsFinishedText, text_limit}
use Rattle.work_texts.proofs.Formats.{IsReader, ok_is}
use Rattle.work_texts.proofs.TextReaders.{plan_reader, finished_reader}
use Rattle.work_journal.specs.declared.opening.Opened.{Opened}
use Rattle.work_journal.specs.declared.opening.Opened.TheVariants as opened
use Rattle.work_journal.specs.Ending.{text_file}
use Rattle.work_journal.specs.Finishing.{plan_node}
use Rattle.work_journal.specs.Opening.{PlanKept, FinishedKept}
use Rattle.work_journal.specs.Opening.{PlanKept as plan_kept, FinishedKept as finished_kept}
use Rattle.work_journal.specs.Wanted.{Wanted, IsPartway, IsThere, MarkHas}
use Rattle.work_journal.specs.Work.{work_path}
use Rattle.root_run.specs.Cores.{is_old_end}
use Rattle.root_run.specs.Wholes.{end_of, finished_text, older_text, old_plan_text, old_finished_text}
use Rattle.root_run.proofs.MadeLaws.{Stands, read-stands}
use Rattle.root_run.proofs.OldLaws.{HasTexts, IsOlder, file-says, plan-mark, finished-mark, older-read, old-plan-shorter, old-end-shorter}

-- ### What the marks say

-- what is there where a mark says that it is the run's own: nothing, this program's node, or an earlier one's
pub data IsOwn (n : Node) (older o : Option Node) : Type 0 where
  not_there : o ≡ None → IsOwn n older o
  by_this : o ≡ Some n → IsOwn n older o
  by_earlier : IsThere older o → IsOwn n older o

kept-by : (x : Mark) (was : Option Node) (n : Node) (older o : Option Node) → IsTrue (is_kept x) → MarkHas x was n older o → IsOwn n older o
kept-by absent was n older o e has = not_there has
kept-by first was n older o e has = cc
kept-by whole was n older o e has = by_this has
kept-by any was n older o e has = cc
kept-by earlier was n older o e has = by_earlier has

-- a plan, and a finished text, are there whole or not at all
pub own-plan : (w : Wanted) (t : TreeMap) → IsPartway w t → IsOwn (w.node plan) (w.older plan) (fin.get t (work_path w.work plan))
own-plan w t p =
    kept-by p.marking.plan (fin.get w.start (work_path w.work plan)) (w.node plan) (w.older plan) (fin.get t (work_path w.work plan)) (plan-mark w.steps p.marking p.shape) (p.has.named plan tt)

pub own-finished : (w : Wanted) (t : TreeMap) → IsPartway w t → IsOwn (w.node (final 3)) (w.older (final 3)) (fin.get t (work_path w.work (final 3)))
own-finished w t p =
    kept-by (p.marking.final 3) (fin.get w.start (work_path w.work (final 3))) (w.node (final 3)) (w.older (final 3)) (fin.get t (work_path w.work (final 3)))
    (finished-mark w.steps p.marking p.shape) (p.has.named (final 3) (omega arith))

-- ### What is read there

-- a text has one value
one-value : {X : Type 0} (fields : X → List Field) (Fits : X → Type 0) (read : List ℕ → Reading X) → IsReader fields Fits read → (x y : X) → Fits x → Fits y
    → text_of (fields x) ≡ text_of (fields y) → x ≡ y
one-value {X} fields Fits read r x y a b e =
    ap (λ (q : X × List ℕ). q.0) (ok_is (x, []) (y, []) (sym (r.again x [] a) ∙ ap (λ (t : List ℕ). read (t ++ [])) e ∙ r.again y [] b))

none-file : (bytes : List ℕ) (mode : ℕ) → Some (node.File bytes mode) ≡ None → ⊥
none-file bytes mode e = cc

same-text : (a b : List ℕ) (m n : ℕ) → Some (node.File a m) ≡ Some (node.File b n) → a ≡ b
same-text a b m n e = cc

-- the bytes of a plan of this run, and of its end, in a text of either version
pub record IsOwnPlan (p : PlanData) (bytes : List ℕ) : Type 0 where
  pub old : Bool
  pub one : old ≡ true → length p.key.maps.pairs ≡ 1
  pub text : bytes ≡ text_of (plan_text_fields (record { old = old; plan = p }))

pub record IsOwnEnd (p : PlanData) (bytes : List ℕ) : Type 0 where
  pub old : Bool
  pub one : old ≡ true → length p.key.maps.pairs ≡ 1
  pub text : bytes ≡ text_of (finished_fields (end_of old p))

read-plan : (p : PlanData) (o : Option Node) (bytes : List ℕ) (mode limit : ℕ) → IsOwn (plan_node p) (older_text p (old_plan_text p)) o → Stands o limit bytes mode → IsOwnPlan p bytes
read-plan p o bytes mode limit (not_there e) s = absurd (none-file bytes mode (sym s.there ∙ e))
read-plan p o bytes mode limit (by_this e) s = record { old = false; one = λ never. absurd (cc never); text = same-text bytes (text_of (plan_fields p)) mode 420 (sym s.there ∙ e) }
read-plan p o bytes mode limit (by_earlier is) s =
    let x : IsOlder p (old_plan_text p) bytes = older-read p (old_plan_text p) bytes mode (sym is.same ∙ s.there) in
    record { old = true; one = λ e. x.one; text = x.text_is }

read-end : (p : PlanData) (o : Option Node) (bytes : List ℕ) (mode limit : ℕ) → IsOwn (text_file (finished_text p)) (older_text p (old_finished_text p)) o → Stands o limit bytes mode → IsOwnEnd p bytes
read-end p o bytes mode limit (not_there e) s = absurd (none-file bytes mode (sym s.there ∙ e))
read-end p o bytes mode limit (by_this e) s = record { old = false; one = λ never. absurd (cc never); text = same-text bytes (finished_text p) mode 420 (sym s.there ∙ e) }
read-end p o bytes mode limit (by_earlier is) s =
    let x : IsOlder p (old_finished_text p) bytes = older-read p (old_finished_text p) bytes mode (sym is.same ∙ s.there) in
    record { old = true; one = λ e. x.one; text = x.text_is }

-- such texts fit, and none is longer than the one that this program writes
pub own-plan-fits : (p : PlanData) (bytes : List ℕ) → IsPlan p → (is : IsOwnPlan p bytes) → IsVersionedPlan (record { old = is.old; plan = p })
own-plan-fits p bytes fits is = record { plan = fits; one = is.one }

pub own-end-fits : (p : PlanData) (bytes : List ℕ) → IsPlan p → (is : IsOwnEnd p bytes) → IsFinished (end_of is.old p)
own-end-fits p bytes fits is = record { key = fits.key; one = is.one; report = fits.report }

pub at-most : (a b c : ℕ) → a ≤ b → b ≤ c → a ≤ c
at-most a b c x y = omega (arith, x, y)

plan-within : (p : PlanData) (old : Bool) → length (text_of (plan_fields p)) ≤ text_limit → length (text_of (plan_text_fields (record { old = old; plan = p }))) ≤ text_limit
plan-within p true short = at-most (length (old_plan_text p)) (length (text_of (plan_fields p))) text_limit (old-plan-shorter p) short
plan-within p false short = short

end-within : (p : PlanData) (old : Bool) → length (finished_text p) ≤ text_limit → length (text_of (finished_fields (end_of old p))) ≤ text_limit
end-within p true short = at-most (length (old_finished_text p)) (length (finished_text p)) text_limit (old-end-shorter p) short
end-within p false short = short

pub own-plan-within : (p : PlanData) (bytes : List ℕ) → IsOwnPlan p bytes → length (text_of (plan_fields p)) ≤ text_limit → length bytes ≤ text_limit
own-plan-within p bytes is short = subst (λ (b : List ℕ). length b ≤ text_limit) (sym is.text) (plan-within p is.old short)

pub own-end-within : (p : PlanData) (bytes : List ℕ) → IsOwnEnd p bytes → length (finished_text p) ≤ text_limit → length bytes ≤ text_limit
own-end-within p bytes is short = subst (λ (b : List ℕ). length b ≤ text_limit) (sym is.text) (end-within p is.old short)

module _ (w : Wanted) (p : PlanData) (texts : HasTexts w p) (t : TreeMap) (partway : IsPartway w t) where
  pub told-plan : IsOwn (plan_node p) (older_text p (old_plan_text p)) (fin.get t (work_path w.work plan))
  told-plan =
      subst (λ (n : Node). IsOwn n (older_text p (old_plan_text p)) (fin.get t (work_path w.work plan))) texts.plan_is
      (subst (λ (o : Option Node). IsOwn (w.node plan) o (fin.get t (work_path w.work plan))) texts.plan_old (own-plan w t partway))

  pub told-end : IsOwn (text_file (finished_text p)) (older_text p (old_finished_text p)) (fin.get t (work_path w.work (final 3)))
  told-end =
      subst (λ (n : Node). IsOwn n (older_text p (old_finished_text p)) (fin.get t (work_path w.work (final 3)))) texts.end_is
      (subst (λ (o : Option Node). IsOwn (w.node (final 3)) o (fin.get t (work_path w.work (final 3)))) texts.end_old (own-finished w t partway))

  -- the bytes of a file at the plan's path are the plan's text, of either version
  pub plan-bytes : (bytes : List ℕ) (mode : ℕ) → stands_at t (work_path w.work plan) text_limit ≡ found.File bytes mode → IsOwnPlan p bytes
  plan-bytes bytes mode e =
      read-plan p (fin.get t (work_path w.work plan)) bytes mode text_limit told-plan
      (read-stands t (work_path w.work plan) text_limit bytes mode e)

  pub finished-bytes : (bytes : List ℕ) (mode : ℕ) → stands_at t (work_path w.work (final 3)) text_limit ≡ found.File bytes mode → IsOwnEnd p bytes
  finished-bytes bytes mode e =
      read-end p (fin.get t (work_path w.work (final 3))) bytes mode text_limit told-end
      (read-stands t (work_path w.work (final 3)) text_limit bytes mode e)

  -- so what is read there is the plan, and the end of its run
  pub plan-read : (bytes : List ℕ) (mode : ℕ) (q : PlanData) → IsPlan p → stands_at t (work_path w.work plan) text_limit ≡ found.File bytes mode → IsPlanText bytes q → q ≡ p
  plan-read bytes mode q fits e text =
      let is : IsOwnPlan p bytes = plan-bytes bytes mode e in
      ap (λ v. v.plan)
      (one-value plan_text_fields IsVersionedPlan plan_at plan_reader (record { old = text.old; plan = q }) (record { old = is.old; plan = p }) (record { plan = text.plan; one = text.one })
      (own-plan-fits p bytes fits is) (sym text.text ∙ is.text))

  pub finished-read : (bytes : List ℕ) (mode : ℕ) (d : FinishedData) → IsPlan p → stands_at t (work_path w.work (final 3)) text_limit ≡ found.File bytes mode
      → IsFinishedText bytes d → (d.report ≡ p.report) × (d.key ≡ p.key)
  finished-read bytes mode d fits e text =
      let is : IsOwnEnd p bytes = finished-bytes bytes mode e in
      let same : d ≡ end_of is.old p =
      one-value finished_fields IsFinished finished_at finished_reader d (end_of is.old p) text.finished (own-end-fits p bytes fits is) (sym text.text ∙ is.text) in
      (ap (λ (x : FinishedData). x.report) same, ap (λ (x : FinishedData). x.key) same)

  -- and it says whether an earlier program wrote it
  pub finished-old : (bytes : List ℕ) (mode : ℕ) (d : FinishedData) → stands_at t (work_path w.work (final 3)) text_limit ≡ found.File bytes mode → IsFinishedText bytes d → d.old ≡ is_old_end t w.work
  finished-old bytes mode d e text =
      sym (file-says (fin.get t (work_path w.work (final 3))) bytes mode d (read-stands t (work_path w.work (final 3)) text_limit bytes mode e).there text.text)

-- ### What a start opens

abbrev ok_of : Opened → Result Opened JournalErr
ok_of o = Ok o

no-err : (o : Opened) (e : JournalErr) → Err e ≡ ok_of o → ⊥
no-err o e h = cc

same-plan : (p q : PlanData) → ok_of (opened.Resumed p) ≡ ok_of (opened.Resumed q) → p ≡ q
same-plan p q e = cc

same-report : (r d : List ℕ) (a b : Bool) → ok_of (opened.Finished r a) ≡ ok_of (opened.Finished d b) → r ≡ d
same-report r d a b e = cc

same-old : (r d : List ℕ) (a b : Bool) → ok_of (opened.Finished r a) ≡ ok_of (opened.Finished d b) → a ≡ b
same-old r d a b e = cc

module _ (w : Wanted) (p : PlanData) (texts : HasTexts w p) (seen : Seen) (tells : seen.tells ≡ true) (fits : IsPlan p) (partway : IsPartway w (map_now seen.past)) where
  resumed-by : (key : RunKey) (r : Result Opened JournalErr) (q : PlanData) → r ≡ ok_of (opened.Resumed q) → PlanKept seen (work_path w.work plan) key r → (q ≡ p) × (p.key ≡ key)
  resumed-by key r q e (plan_kept.plan_read bytes x stands text same) =
      let own : x ≡ p = plan-read w p texts (map_now seen.past) partway bytes stands.mode x fits (stands.is tells) text in
      (sym (same-plan x q e) ∙ own, ap (λ (y : PlanData). y.key) (sym own) ∙ same)
  resumed-by key r q e (plan_kept.plan_not_there {e = x} h) = absurd (no-err (opened.Resumed q) x e)
  resumed-by key r q e (plan_kept.plan_bad {e = x} bytes stands h) = absurd (no-err (opened.Resumed q) x e)
  resumed-by key r q e (plan_kept.plan_other {e = x} bytes y stands text h) = absurd (no-err (opened.Resumed q) x e)

  -- a start that finds the plan takes it up by the plan of the run
  pub resumed-own : (key : RunKey) (q : PlanData) → PlanKept seen (work_path w.work plan) key (Ok (opened.Resumed q)) → (q ≡ p) × (p.key ≡ key)
  resumed-own key q kept = resumed-by key (ok_of (opened.Resumed q)) q refl kept

  -- the end of this run, as it was read
  pub record IsEndRead (key : RunKey) (report : List ℕ) (old : Bool) : Type 0 where
    pub report_is : report ≡ p.report
    pub key_is : p.key ≡ key
    pub old_is : old ≡ is_old_end (map_now seen.past) w.work

  finished-by : (key : RunKey) (r : Result Opened JournalErr) (report : List ℕ) (old : Bool) → r ≡ ok_of (opened.Finished report old) → FinishedKept seen (work_path w.work (final 3)) key r
      → IsEndRead key report old
  finished-by key r report old e (finished_kept.finished_read bytes x stands text same) =
      let is = finished-read w p texts (map_now seen.past) partway bytes stands.mode x fits (stands.is tells) text in
      record {
        report_is = sym (same-report x.report report x.old old e) ∙ is.0;
        key_is = sym is.1 ∙ same;
        old_is = sym (same-old x.report report x.old old e) ∙ finished-old w p texts (map_now seen.past) partway bytes stands.mode x (stands.is tells) text;
      }
  finished-by key r report old e (finished_kept.finished_not_there {e = x} h) = absurd (no-err (opened.Finished report old) x e)
  finished-by key r report old e (finished_kept.finished_bad {e = x} bytes stands h) = absurd (no-err (opened.Finished report old) x e)
  finished-by key r report old e (finished_kept.finished_other {e = x} bytes y stands text h) = absurd (no-err (opened.Finished report old) x e)

  -- and one that finds the finished text answers the report of the run
  pub finished-own : (key : RunKey) (report : List ℕ) (old : Bool) → FinishedKept seen (work_path w.work (final 3)) key (Ok (opened.Finished report old)) → IsEndRead key report old
  finished-own key report old kept = finished-by key (ok_of (opened.Finished report old)) report old refl kept
