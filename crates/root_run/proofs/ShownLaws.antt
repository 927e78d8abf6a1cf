-- What the work folder of a run shows in a tree that tells: a text of this run, one of another run or none, of its finished text or else of
-- its plan; or that neither is there. It shows one of these.
use Rattle.std.proofs.Common.{◌≡◌, ◌≢◌, ℕ, ◌<◌, ◌≤◌, Bool, true, false, if◌then◌else◌, List, [], length, refl, sym, ap, subst, ◌∙◌, arith, Result, Ok, Err}
use Rattle.std.specs.Prelude.{Some, None}
use Rattle.file_tree.specs.declared.node.Found.{Found}
use Rattle.file_tree.specs.declared.node.Found.TheVariants as found
use Rattle.file_tree.specs.Seen.{Seen, now_of, map_now}
use Rattle.file_tree.specs.Trees.{TreeMap, keys_below, stands_at}
use Rattle.journal_core.specs.Names.{plan, final}
use Rattle.work_texts.specs.declared.journal_err.JournalErr.{JournalErr}
use Rattle.work_texts.specs.declared.journal_err.JournalErr.TheVariants as journal
use Rattle.work_texts.specs.declared.journal_err.WorkFile.{WorkFile}
use Rattle.work_texts.specs.declared.journal_err.WorkFile.TheVariants as file
use Rattle.work_texts.specs.declared.key.RunKey.{RunKey}
use Rattle.work_texts.specs.declared.plan.FinishedData.{FinishedData}
use Rattle.work_texts.specs.declared.plan.PlanData.{PlanData}
use Rattle.work_texts.specs.BadFields.{PlanBlames, FinishedBlames}
use Rattle.work_texts.specs.Fields.{plan_text_fields, finished_fields}
use Rattle.work_texts.specs.Keys.{KeyBlames, key_part}
use Rattle.work_texts.specs.Reading.{plan_at, finished_at}
use Rattle.work_texts.specs.Rules.{IsPlanText, IsFinishedText, text_limit}
use Rattle.work_texts.specs.Rules as rule
use Rattle.work_texts.proofs.OnePlace.{no_text}
use Rattle.work_texts.proofs.TextReaders.{plan_reader, finished_reader}
use Rattle.work_texts.proofs.WholeLaws.{one_value, plan_whole}
use Rattle.work_journal.specs.declared.opening.Opened.{Opened}
use Rattle.work_journal.specs.declared.opening.Opened.TheVariants as opened
use Rattle.work_journal.specs.Blames.{is_mild_run}
use Rattle.work_journal.specs.Opening.{TextBlames, TextStands, PlanKept, FinishedKept, Opens, bad_place}
use Rattle.work_journal.specs.Opening.{TextBlames as blames, PlanKept as plan_kept, FinishedKept as finished_kept, Opens as opens}
use Rattle.work_journal.specs.Work.{work_path, has_path}
use Rattle.root_plan.specs.Roots.{most_paths}
use Rattle.root_plan.specs.Walks.{AreWalked}
use Rattle.root_run.specs.Dues.{TextDue, TextShown, HasOwnPlan, HasPaths, IsFinished, IsBegun, IsFresh}
use Rattle.root_run.specs.Dues.{TextDue as text, TextShown as shown}
use Rattle.root_run.specs.RunEnds.{journal_status}
use Rattle.root_run.proofs.EndsLaws.{holds}

-- ### Answers

abbrev pub err_of : JournalErr → Result Opened JournalErr
err_of e = Err e

abbrev pub ok_of : Opened → Result Opened JournalErr
ok_of o = Ok o

no-ok : (o : Opened) (e : JournalErr) → ok_of o ≡ err_of e → ⊥
no-ok o e h = cc

no-err : (o : Opened) (e : JournalErr) → err_of e ≡ ok_of o → ⊥
no-err o e h = cc

same-err : (d e : JournalErr) → err_of d ≡ err_of e → d ≡ e
same-err d e h = cc

same-resumed : (p q : PlanData) → ok_of (opened.Resumed p) ≡ ok_of (opened.Resumed q) → p ≡ q
same-resumed p q e = cc

resumed-finished : (p : PlanData) (r : List ℕ) (b : Bool) → ok_of (opened.Resumed p) ≡ ok_of (opened.Finished r b) → ⊥
resumed-finished p r b e = cc

empty-resumed : (p : PlanData) → ok_of opened.Empty ≡ ok_of (opened.Resumed p) → ⊥
empty-resumed p e = cc

empty-finished : (r : List ℕ) (b : Bool) → ok_of opened.Empty ≡ ok_of (opened.Finished r b) → ⊥
empty-finished r b e = cc

pub both-never : (b : Bool) → b ≡ true → b ≡ false → ⊥
both-never true e f = cc
both-never false e f = cc

pub no-tree : (b : Bool) (m t : TreeMap) → b ≡ false → (if b then Some m else None) ≡ Some t → ⊥
no-tree true m t e h = cc
no-tree false m t e h = cc

-- ### A text of the work folder

pub plan-one : (bytes : List ℕ) (x y : PlanData) → IsPlanText bytes x → IsPlanText bytes y → x ≡ y
plan-one bytes x y a b =
    ap (λ v. v.plan)
    (one_value plan_text_fields rule.IsVersionedPlan plan_at plan_reader bytes (record { old = a.old; plan = x }) (record { old = b.old; plan = y }) (plan_whole bytes x a) (plan_whole bytes y b))

pub finished-one : (bytes : List ℕ) (x y : FinishedData) → IsFinishedText bytes x → IsFinishedText bytes y → x ≡ y
finished-one bytes x y a b = one_value finished_fields rule.IsFinished finished_at finished_reader bytes x y (record { fits = a.finished; text = a.text }) (record { fits = b.finished; text = b.text })

key-differs : (kept given : RunKey) (e : JournalErr) → KeyBlames kept given e → kept ≢ given
key-differs kept given e (n, differs, other) same = differs.here (ap (λ (k : RunKey). key_part k n) same)

key-status : (kept given : RunKey) (e : JournalErr) → KeyBlames kept given e → is_mild_run e ≡ false → 9 ≡ journal_status e
key-status kept given (journal.OtherRun field a b) h hard = refl
key-status kept given journal.NoMemory h hard = cc
key-status kept given (journal.PlanText file at) h hard = absurd h.2
key-status kept given (journal.Changed path planned digest) h hard = absurd h.2
key-status kept given (journal.Refused path r) h hard = absurd h.2
key-status kept given journal.Tree h hard = absurd h.2

-- an end that names the place of a text's first bad field
record IsBadText {X : Type 0} (IsText : List ℕ → X → Type 0) (bytes : List ℕ) (e : JournalErr) : Type 0 where
  none : (x : X) → IsText bytes x → ⊥
  status : journal_status e ≡ 11

plan-bad : (bytes : List ℕ) (e : JournalErr) → PlanBlames bytes e → is_mild_run e ≡ false → IsBadText IsPlanText bytes e
plan-bad bytes (journal.PlanText file.Plan at) b hard = record {
  none = λ x t. no_text plan_text_fields rule.IsVersionedPlan bytes at (record { old = t.old; plan = x }) b (plan_whole bytes x t).fits t.text t.within;
  status = refl;
}
plan-bad bytes (journal.PlanText file.Finished at) b hard = absurd b
plan-bad bytes journal.NoMemory b hard = cc
plan-bad bytes (journal.OtherRun field kept given) b hard = absurd b
plan-bad bytes (journal.Changed path planned digest) b hard = absurd b
plan-bad bytes (journal.Refused path r) b hard = absurd b
plan-bad bytes journal.Tree b hard = absurd b

finished-bad : (bytes : List ℕ) (e : JournalErr) → FinishedBlames bytes e → is_mild_run e ≡ false → IsBadText IsFinishedText bytes e
finished-bad bytes (journal.PlanText file.Finished at) b hard = record { none = λ x t. no_text finished_fields rule.IsFinished bytes at x b t.finished t.text t.within; status = refl }
finished-bad bytes (journal.PlanText file.Plan at) b hard = absurd b
finished-bad bytes journal.NoMemory b hard = cc
finished-bad bytes (journal.OtherRun field kept given) b hard = absurd b
finished-bad bytes (journal.Changed path planned digest) b hard = absurd b
finished-bad bytes (journal.Refused path r) b hard = absurd b
finished-bad bytes journal.Tree b hard = absurd b

module _ (old : Seen) (t : TreeMap) (tells : old.tells ≡ true) (at-now : map_now old.past ≡ t) (key : RunKey) (path : List ℕ) where
  stands-in : (bytes : List ℕ) (h : TextStands old path bytes) → stands_at t path text_limit ≡ found.File bytes h.mode
  stands-in bytes h = subst (λ (m : TreeMap). stands_at m path text_limit ≡ found.File bytes h.mode) at-now (h.is tells)

  not-there : {X : Type 0} (IsText : List ℕ → X → Type 0) (key_in : X → RunKey) (f : WorkFile) (e : JournalErr) → TextBlames old path f e → is_mild_run e ≡ false
      → TextDue IsText key_in key (stands_at t path text_limit) (journal_status e)
  not-there IsText key_in f e (blames.no_text place none) hard =
      text.no_file place (subst (λ (m : TreeMap). bad_place (stands_at m path text_limit) ≡ Some place) at-now (none.is tells)) refl
  not-there IsText key_in f e blames.text_fault hard = cc
  not-there IsText key_in f e blames.text_memory hard = cc

  abbrev pub PlanDue : ℕ → Type 0
  PlanDue n = TextDue IsPlanText (λ (p : PlanData). p.key) key (stands_at t path text_limit) n

  abbrev pub EndDue : ℕ → Type 0
  EndDue n = TextDue IsFinishedText (λ (d : FinishedData). d.key) key (stands_at t path text_limit) n

  pub plan-due : (r : Result Opened JournalErr) (e : JournalErr) → PlanKept old path key r → r ≡ err_of e → is_mild_run e ≡ false → PlanDue (journal_status e)
  plan-due r e (plan_kept.plan_read bytes p stands is same) h hard = absurd (no-ok (opened.Resumed p) e h)
  plan-due r e (plan_kept.plan_not_there {e = d} b) h hard = not-there IsPlanText (λ (p : PlanData). p.key) file.Plan e (subst (λ (x : JournalErr). TextBlames old path file.Plan x) (same-err d e h) b) hard
  plan-due r e (plan_kept.plan_bad {e = d} bytes stands b) h hard =
      let bad = plan-bad bytes e (subst (λ (x : JournalErr). PlanBlames bytes x) (same-err d e h) b) hard in
      text.no_text bytes stands.mode (stands-in bytes stands) bad.none bad.status
  plan-due r e (plan_kept.plan_other {e = d} bytes p stands is b) h hard =
      let other : KeyBlames p.key key e = subst (λ (x : JournalErr). KeyBlames p.key key x) (same-err d e h) b in
      text.other bytes stands.mode p (stands-in bytes stands) is (key-differs p.key key e other) (sym (key-status p.key key e other hard))

  pub end-due : (r : Result Opened JournalErr) (e : JournalErr) → FinishedKept old path key r → r ≡ err_of e → is_mild_run e ≡ false → EndDue (journal_status e)
  end-due r e (finished_kept.finished_read bytes d stands is same) h hard = absurd (no-ok (opened.Finished d.report d.old) e h)
  end-due r e (finished_kept.finished_not_there {e = d} b) h hard = not-there IsFinishedText (λ (x : FinishedData). x.key) file.Finished e (subst (λ (x : JournalErr). TextBlames old path file.Finished x) (same-err d e h) b) hard
  end-due r e (finished_kept.finished_bad {e = d} bytes stands b) h hard =
      let bad = finished-bad bytes e (subst (λ (x : JournalErr). FinishedBlames bytes x) (same-err d e h) b) hard in
      text.no_text bytes stands.mode (stands-in bytes stands) bad.none bad.status
  end-due r e (finished_kept.finished_other {e = d} bytes x stands is b) h hard =
      let other : KeyBlames x.key key e = subst (λ (y : JournalErr). KeyBlames x.key key y) (same-err d e h) b in
      text.other bytes stands.mode x (stands-in bytes stands) is (key-differs x.key key e other) (sym (key-status x.key key e other hard))

  pub plan-own : (r : Result Opened JournalErr) (p : PlanData) → PlanKept old path key r → r ≡ ok_of (opened.Resumed p) → PlanDue 0
  plan-own r p (plan_kept.plan_read bytes x stands is same) h = text.own bytes stands.mode x (stands-in bytes stands) is same refl
  plan-own r p (plan_kept.plan_not_there {e = d} b) h = absurd (no-err (opened.Resumed p) d h)
  plan-own r p (plan_kept.plan_bad {e = d} bytes stands b) h = absurd (no-err (opened.Resumed p) d h)
  plan-own r p (plan_kept.plan_other {e = d} bytes x stands is b) h = absurd (no-err (opened.Resumed p) d h)

  pub end-own : (r : Result Opened JournalErr) (o : Opened) → FinishedKept old path key r → r ≡ ok_of o → EndDue 0
  end-own r o (finished_kept.finished_read bytes d stands is same) h = text.own bytes stands.mode d (stands-in bytes stands) is same refl
  end-own r o (finished_kept.finished_not_there {e = d} b) h = absurd (no-err o d h)
  end-own r o (finished_kept.finished_bad {e = d} bytes stands b) h = absurd (no-err o d h)
  end-own r o (finished_kept.finished_other {e = d} bytes x stands is b) h = absurd (no-err o d h)

-- what is due of a text is one status
same-bytes : (x : Found) (a b : List ℕ) (m n : ℕ) → x ≡ found.File a m → x ≡ found.File b n → a ≡ b
same-bytes x a b m n e f = file-bytes (sym e ∙ f)
  where
    file-bytes : found.File a m ≡ found.File b n → a ≡ b
    file-bytes g = cc

no-place : (x : Found) (a : List ℕ) (m place : ℕ) → x ≡ found.File a m → bad_place x ≡ Some place → ⊥
no-place x a m place e f = none-some (ap bad_place (sym e) ∙ f)
  where
    none-some : None ≡ Some place → ⊥
    none-some g = cc

module _ {X : Type 0} (IsText : List ℕ → X → Type 0) (key_in : X → RunKey) (key : RunKey) (what : Found) (value : (bytes : List ℕ) (x y : X) → IsText bytes x → IsText bytes y → x ≡ y) where
  one-key : (a b : List ℕ) (m n : ℕ) (x y : X) → what ≡ found.File a m → what ≡ found.File b n → IsText a x → IsText b y → key_in x ≡ key_in y
  one-key a b m n x y e f is other =
      ap key_in (value b x y (subst (λ (bytes : List ℕ). IsText bytes x) (same-bytes what a b m n e f) is) other)

  read-none : (a b : List ℕ) (m n : ℕ) (x : X) → what ≡ found.File a m → what ≡ found.File b n → IsText a x → ((y : X) → IsText b y → ⊥) → ⊥
  read-none a b m n x e f is none = none x (subst (λ (bytes : List ℕ). IsText bytes x) (same-bytes what a b m n e f) is)

  pub text-one : (n m : ℕ) → TextDue IsText key_in key what n → TextDue IsText key_in key what m → n ≡ m
  text-one n m (text.own a i x e is same f) (text.own b j y g other also h) = f ∙ sym h
  text-one n m (text.own a i x e is same f) (text.other b j y g other differs h) = absurd (differs (sym (one-key a b i j x y e g is other) ∙ same))
  text-one n m (text.own a i x e is same f) (text.no_text b j g none h) = absurd (read-none a b i j x e g is none)
  text-one n m (text.own a i x e is same f) (text.no_file place bad h) = absurd (no-place what a i place e bad)
  text-one n m (text.other a i x e is differs f) (text.own b j y g other same h) = absurd (differs (one-key a b i j x y e g is other ∙ same))
  text-one n m (text.other a i x e is differs f) (text.other b j y g other also h) = f ∙ sym h
  text-one n m (text.other a i x e is differs f) (text.no_text b j g none h) = absurd (read-none a b i j x e g is none)
  text-one n m (text.other a i x e is differs f) (text.no_file place bad h) = absurd (no-place what a i place e bad)
  text-one n m (text.no_text a i e none f) (text.own b j y g other same h) = absurd (read-none b a j i y g e other none)
  text-one n m (text.no_text a i e none f) (text.other b j y g other differs h) = absurd (read-none b a j i y g e other none)
  text-one n m (text.no_text a i e none f) (text.no_text b j g never h) = f ∙ sym h
  text-one n m (text.no_text a i e none f) (text.no_file place bad h) = absurd (no-place what a i place e bad)
  text-one n m (text.no_file place bad f) (text.own b j y g other same h) = absurd (no-place what b j place g bad)
  text-one n m (text.no_file place bad f) (text.other b j y g other differs h) = absurd (no-place what b j place g bad)
  text-one n m (text.no_file place bad f) (text.no_text b j g never h) = absurd (no-place what b j place g bad)
  text-one n m (text.no_file place bad f) (text.no_file other worse h) = f ∙ sym h

-- ### What is shown

-- a root has paths, or none, or too many
pub no-paths : (xs : List (List ℕ)) → xs ≡ [] → most_paths < length xs → ⊥
no-paths xs e l = omega (arith, l, ap length e)

module _ (root work : List ℕ) (key : RunKey) (t : TreeMap) where
  -- one status is shown
  pub shown-one : (n m : ℕ) → TextShown root work key t n → TextShown root work key t m → n ≡ m
  shown-one n m (shown.end_shown is f) (shown.end_shown also h) = text-one IsFinishedText (λ (d : FinishedData). d.key) key (stands_at t (work_path work (final 3)) text_limit) finished-one n m f h
  shown-one n m (shown.end_shown is f) (shown.plan_shown also h) = absurd (both-never _ is.finished also.finished)
  shown-one n m (shown.plan_shown is f) (shown.end_shown also h) = absurd (both-never _ also.finished is.finished)
  shown-one n m (shown.plan_shown is f) (shown.plan_shown also h) = text-one IsPlanText (λ (p : PlanData). p.key) key (stands_at t (work_path work plan) text_limit) plan-one n m f h

  pub shown-paths : (n : ℕ) → TextShown root work key t n → HasPaths root t
  shown-paths n (shown.end_shown is f) = is.paths
  shown-paths n (shown.plan_shown is f) = is.paths

  -- and none where neither text is there
  pub shown-fresh : (n : ℕ) → TextShown root work key t n → IsFresh root work t → ⊥
  shown-fresh n (shown.end_shown is f) also = both-never _ is.finished also.finished
  shown-fresh n (shown.plan_shown is f) also = both-never _ is.begun also.begun

  module _ (old : Seen) (here : now_of old ≡ Some t) (paths : List (List ℕ)) (walked : AreWalked (now_of old) root paths) where
    pub are-keys : paths ≡ keys_below t root
    are-keys = walked.all.are t here

    pub has-paths : HasPaths root t
    has-paths = record { few = subst (λ (ps : List (List ℕ)). length ps ≤ most_paths) are-keys walked.few; some = λ e. walked.some (are-keys ∙ e) }

    has-key : (q : List ℕ) (b : Bool) → has_path paths q ≡ b → has_path (keys_below t root) q ≡ b
    has-key q b e = subst (λ (ps : List (List ℕ)). has_path ps q ≡ b) are-keys e

    is-begun : has_path paths (work_path work (final 3)) ≡ false → has_path paths (work_path work plan) ≡ true → IsBegun root work t
    is-begun a b = record { paths = has-paths; finished = has-key (work_path work (final 3)) false a; begun = has-key (work_path work plan) true b }

    is-fresh : has_path paths (work_path work (final 3)) ≡ false → has_path paths (work_path work plan) ≡ false → IsFresh root work t
    is-fresh a b = record { paths = has-paths; finished = has-key (work_path work (final 3)) false a; begun = has-key (work_path work plan) false b }

    is-finished : has_path paths (work_path work (final 3)) ≡ true → IsFinished root work t
    is-finished a = record { paths = has-paths; finished = has-key (work_path work (final 3)) true a }

    module _ (tells : old.tells ≡ true) where
      opening-by : (r : Result Opened JournalErr) (e : JournalErr) → Opens work paths key old r → r ≡ err_of e → is_mild_run e ≡ false → TextShown root work key t (journal_status e)
      opening-by r e opens.opens_memory h hard = absurd (both-never _ (sym (ap is_mild_run (same-err journal.NoMemory e h))) hard)
      opening-by r e (opens.opens_empty a b) h hard = absurd (no-ok opened.Empty e h)
      opening-by r e (opens.opens_plan a b kept) h hard = shown.plan_shown (is-begun a b) (plan-due old t tells (holds old t tells here) key (work_path work plan) r e kept h hard)
      opening-by r e (opens.opens_finished a kept) h hard = shown.end_shown (is-finished a) (end-due old t tells (holds old t tells here) key (work_path work (final 3)) r e kept h hard)

      resumed-by : (r : Result Opened JournalErr) (p : PlanData) → Opens work paths key old r → r ≡ ok_of (opened.Resumed p) → HasOwnPlan root work key t
      resumed-by r p opens.opens_memory h = absurd (no-err (opened.Resumed p) journal.NoMemory h)
      resumed-by r p (opens.opens_empty a b) h = absurd (empty-resumed p h)
      resumed-by r p (opens.opens_plan a b kept) h = record { begun = is-begun a b; own = plan-own old t tells (holds old t tells here) key (work_path work plan) r p kept h }
      resumed-by r p (opens.opens_finished a kept) h = absurd (not-finished kept h)
        where
          not-finished : {q : List ℕ} {x : Result Opened JournalErr} → FinishedKept old q key x → x ≡ ok_of (opened.Resumed p) → ⊥
          not-finished (finished_kept.finished_read bytes d stands is same) f = resumed-finished p d.report d.old (sym f)
          not-finished (finished_kept.finished_not_there {e = d} b) f = no-err (opened.Resumed p) d f
          not-finished (finished_kept.finished_bad {e = d} bytes stands b) f = no-err (opened.Resumed p) d f
          not-finished (finished_kept.finished_other {e = d} bytes x stands is b) f = no-err (opened.Resumed p) d f

      finished-by : (r : Result Opened JournalErr) (report : List ℕ) (earlier : Bool) → Opens work paths key old r → r ≡ ok_of (opened.Finished report earlier) → TextShown root work key t 0
      finished-by r report earlier opens.opens_memory h = absurd (no-err (opened.Finished report earlier) journal.NoMemory h)
      finished-by r report earlier (opens.opens_empty a b) h = absurd (empty-finished report earlier h)
      finished-by r report earlier (opens.opens_plan a b kept) h = absurd (not-resumed kept h)
        where
          not-resumed : {q : List ℕ} {x : Result Opened JournalErr} → PlanKept old q key x → x ≡ ok_of (opened.Finished report earlier) → ⊥
          not-resumed (plan_kept.plan_read bytes p stands is same) f = resumed-finished p report earlier f
          not-resumed (plan_kept.plan_not_there {e = d} b) f = no-err (opened.Finished report earlier) d f
          not-resumed (plan_kept.plan_bad {e = d} bytes stands b) f = no-err (opened.Finished report earlier) d f
          not-resumed (plan_kept.plan_other {e = d} bytes p stands is b) f = no-err (opened.Finished report earlier) d f
      finished-by r report earlier (opens.opens_finished a kept) h =
          shown.end_shown (is-finished a) (end-own old t tells (holds old t tells here) key (work_path work (final 3)) r (opened.Finished report earlier) kept h)

      empty-by : (r : Result Opened JournalErr) → Opens work paths key old r → r ≡ ok_of opened.Empty → IsFresh root work t
      empty-by r opens.opens_memory h = absurd (no-err opened.Empty journal.NoMemory h)
      empty-by r (opens.opens_empty a b) h = is-fresh a b
      empty-by r (opens.opens_plan a b kept) h = absurd (not-resumed kept h)
        where
          not-resumed : {q : List ℕ} {x : Result Opened JournalErr} → PlanKept old q key x → x ≡ ok_of opened.Empty → ⊥
          not-resumed (plan_kept.plan_read bytes p stands is same) f = empty-resumed p (sym f)
          not-resumed (plan_kept.plan_not_there {e = d} b) f = no-err opened.Empty d f
          not-resumed (plan_kept.plan_bad {e = d} bytes stands b) f = no-err opened.Empty d f
          not-resumed (plan_kept.plan_other {e = d} bytes p stands is b) f = no-err opened.Empty d f
      empty-by r (opens.opens_finished a kept) h = absurd (not-finished kept h)
        where
          not-finished : {q : List ℕ} {x : Result Opened JournalErr} → FinishedKept old q key x → x ≡ ok_of opened.Empty → ⊥
          not-finished (finished_kept.finished_read bytes d stands is same) f = empty-finished d.report d.old (sym f)
          not-finished (finished_kept.finished_not_there {e = d} b) f = no-err opened.Empty d f
          not-finished (finished_kept.finished_bad {e = d} bytes stands b) f = no-err opened.Empty d f
          not-finished (finished_kept.finished_other {e = d} bytes x stands is b) f = no-err opened.Empty d f

      pub has-own-plan : (p : PlanData) → Opens work paths key old (Ok (opened.Resumed p)) → HasOwnPlan root work key t
      has-own-plan p o = resumed-by (ok_of (opened.Resumed p)) p o refl

      pub empty-shown : Opens work paths key old (Ok opened.Empty) → IsFresh root work t
      empty-shown o = empty-by (ok_of opened.Empty) o refl

      pub opening-shown : (e : JournalErr) → Opens work paths key old (Err e) → is_mild_run e ≡ false → TextShown root work key t (journal_status e)
      opening-shown e o hard = opening-by (err_of e) e o refl hard

      pub finished-shown : (report : List ℕ) (earlier : Bool) → Opens work paths key old (Ok (opened.Finished report earlier)) → TextShown root work key t 0
      finished-shown report earlier o = finished-by (ok_of (opened.Finished report earlier)) report earlier o refl

      pub resumed-shown : (p : PlanData) → Opens work paths key old (Ok (opened.Resumed p)) → TextShown root work key t 0
      resumed-shown p o = let is = has-own-plan p o in shown.plan_shown is.begun is.own

-- a tree of which it is known what it holds tells
pub known-tells : (old : Seen) (t : TreeMap) → now_of old ≡ Some t → old.tells ≡ true
known-tells old t here = by old.tells refl
  where
    by : (b : Bool) → old.tells ≡ b → old.tells ≡ true
    by true e = e
    by false e = absurd (no-tree old.tells (map_now old.past) t e here)
