-- The names that a list of the work folder gives show the core of a start, and this core agrees with the tree.
use Rattle.std.proofs.Common.{◌≡◌, ℕ, Bool, true, false, ◌&&◌, ◌==◌, List, refl, sym, ◌∙◌, ap, subst, arith, IsTrue}
use Rattle.std.specs.Prelude.{Option, Some, None, is_some, Ok, Err, Result}
use Rattle.std.specs.FinMap as fin
use Rattle.file_tree.specs.declared.node.Node.{Node}
use Rattle.file_tree.specs.Seen.{Seen}
use Rattle.file_tree.specs.Trees.{TreeMap}
use Rattle.file_tree.specs.Images.{settled_state}
use Rattle.journal_core.specs.Names.{Name, plan_new, plan, temp, commit, fresh, final, target, IsName, IsWorkName}
use Rattle.journal_core.specs.Marks.{Mark, mark, absent, first, whole, any, earlier, is_any, is_earlier, is_loose}
use Rattle.journal_core.specs.Starts.{AreAlike, both_gone, both_there, shown_core}
use Rattle.journal_core.specs.Table.{CoreState}
use Rattle.journal_core.proofs.Alike.{same_shown, work_own}
use Rattle.work_texts.specs.declared.key.RunKey.{RunKey}
use Rattle.work_texts.specs.declared.journal_err.JournalErr.{JournalErr}
use Rattle.work_texts.specs.declared.plan.PlanData.{PlanData}
use Rattle.work_journal.specs.declared.opening.Opened.{Opened}
use Rattle.work_journal.specs.declared.opening.Opened.TheVariants as opened
use Rattle.work_journal.specs.Work.{work_path, there_mark, there_as, has_path, presence}
use Rattle.work_journal.specs.Wanted.{Wanted, path_of, MarkHas, IsPartway}
use Rattle.work_journal.specs.Keeps.{Keeps}
use Rattle.work_journal.specs.Beginning.{core_by, is_old}
use Rattle.work_journal.specs.Opening.{PlanKept, plan_read, plan_not_there, plan_bad, plan_other, FinishedKept, finished_read, finished_not_there, finished_bad, finished_other, Opens, opens_memory, opens_empty, opens_plan, opens_finished}
use Rattle.work_journal.specs.Laws.{ArePresent, EveryPresentKeeps, EveryOpenedShown}
use Rattle.work_journal.proofs.RestartLaws.{start_keeps}

-- ### One name

gone_alike : (x : Mark) (was : Option Node) (n : Node) (old : Option Node) → IsTrue (is_loose x) → MarkHas x was n old None → AreAlike x absent
gone_alike absent was n old loose h = both_gone refl refl
gone_alike first was n old loose h = let d : false ≡ true = loose in absurd (cc)
gone_alike whole was n old loose h = absurd (let d : None ≡ Some n = h in cc)
gone_alike any was n old loose h = absurd (h refl)
gone_alike earlier was n old loose h = absurd (h.some refl)

there_any : (v : Bool) → IsTrue (is_any (there_as v true))
there_any true = refl
there_any false = refl

there_alike : (x : Mark) (was : Option Node) (n : Node) (old : Option Node) (m : Node) (v : Bool) → IsTrue (is_loose x) → MarkHas x was n old (Some m) → AreAlike x (there_as v true)
there_alike absent was n old m v loose h = absurd (let d : Some m ≡ None = h in cc)
there_alike first was n old m v loose h = let d : false ≡ true = loose in absurd (cc)
there_alike whole was n old m v loose h = both_there refl (there_any v)
there_alike any was n old m v loose h = both_there refl (there_any v)
there_alike earlier was n old m v loose h = both_there refl (there_any v)

alike_by : (x : Mark) (was : Option Node) (n : Node) (old is : Option Node) (v b : Bool) → IsTrue (is_loose x) → MarkHas x was n old is → b ≡ is_some is → AreAlike x (there_as v b)
alike_by x was n old None v b loose h e = subst (λ (y : Bool). AreAlike x (there_as v y)) (sym e) (gone_alike x was n old loose h)
alike_by x was n old (Some m) v b loose h e = subst (λ (y : Bool). AreAlike x (there_as v y)) (sym e) (there_alike x was n old m v loose h)

-- what an earlier program wrote is there
earlier_there : (x : Mark) (was : Option Node) (n : Node) (old is : Option Node) → is_earlier x ≡ true → MarkHas x was n old is → is_some is ≡ true
earlier_there absent was n old is e h = let d : false ≡ true = e in absurd (cc)
earlier_there first was n old is e h = let d : false ≡ true = e in absurd (cc)
earlier_there whole was n old is e h = let d : false ≡ true = e in absurd (cc)
earlier_there any was n old is e h = let d : false ≡ true = e in absurd (cc)
earlier_there earlier was n old None e h = absurd (h.some refl)
earlier_there earlier was n old (Some m) e h = refl

there_now : (b : Bool) → is_earlier (there_mark b) ≡ false
there_now true = refl
there_now false = refl

work_name : (steps : List ℕ) (x : Name) → IsWorkName steps x → IsName steps x
work_name steps plan_new is = is
work_name steps plan is = is
work_name steps (temp j k) is = is
work_name steps (commit j) is = is
work_name steps (fresh i) is = is
work_name steps (final i) is = is
work_name steps (target j k) is = absurd is

at_work : (w : Wanted) (x : Name) → IsWorkName w.steps x → path_of w x ≡ work_path w.work x
at_work w plan_new is = refl
at_work w plan is = refl
at_work w (temp j k) is = refl
at_work w (commit j) is = refl
at_work w (fresh i) is = refl
at_work w (final i) is = refl
at_work w (target j k) is = absurd is

-- it counts for the finished text alone
abbrev of_earlier : Bool → Name → Bool
of_earlier old plan_new = false
of_earlier old plan = false
of_earlier old (temp j k) = false
of_earlier old (commit j) = false
of_earlier old (fresh i) = false
of_earlier old (final i) = old && i == 3
of_earlier old (target j k) = false

present_mark : (old : Bool) (work : List ℕ) (paths : List (List ℕ)) (steps : List ℕ) (x : Name) → IsWorkName steps x → mark (presence old work paths) x ≡ there_as (of_earlier old x) (has_path paths (work_path work x))
unfolding presence
present_mark old work paths steps plan_new is = refl
present_mark old work paths steps plan is = refl
present_mark old work paths steps (temp j k) is = refl
present_mark old work paths steps (commit j) is = refl
present_mark old work paths steps (fresh i) is = refl
present_mark old work paths steps (final i) is = refl
present_mark old work paths steps (target j k) is = absurd is

name_alike : (w : Wanted) (t : TreeMap) (p : IsPartway w t) (paths : List (List ℕ)) (old : Bool) → ArePresent w t paths → (x : Name) → IsWorkName w.steps x → AreAlike (mark p.marking x) (mark (presence old w.work paths) x)
name_alike w t p paths old are x is =
    subst (λ (y : Mark). AreAlike (mark p.marking x) y) (sym (present_mark old w.work paths w.steps x is))
    (alike_by (mark p.marking x) (fin.get w.start (path_of w x)) (w.node x) (w.older x) (fin.get t (path_of w x)) (of_earlier old x) (has_path paths (work_path w.work x))
    (work_own w.steps p.marking x p.shape is) (p.has.named x (work_name w.steps x is))
    (are.named x is ∙ ap (λ (q : List ℕ). is_some (fin.get t q)) (sym (at_work w x is))))

-- ### The core of a start

ends_now : (old : Bool) (work : List ℕ) (paths : List (List ℕ)) → (old ≡ true → has_path paths (work_path work (final 3)) ≡ true) → is_earlier ((presence old work paths).final 3) ≡ old
unfolding presence
ends_now true work paths there = rw (there refl) refl
ends_now false work paths there = there_now (has_path paths (work_path work (final 3)))

pub present_keeps : EveryPresentKeeps
present_keeps w apart t p paths are old version =
    subst (λ (c : CoreState). Keeps w c (settled_state t)) (same_shown w.steps p.marking (presence old w.work paths) (name_alike w t p paths old are) (version ∙ sym (ends_now old w.work paths there)))
    (start_keeps w apart t p)
  where
    there : old ≡ true → has_path paths (work_path w.work (final 3)) ≡ true
    there e = are.named (final 3) (omega arith) ∙ earlier_there (p.marking.final 3) _ _ _ _ (version ∙ e) (p.has.named (final 3) (omega arith))

empty_shown : (steps work : List ℕ) (paths : List (List ℕ)) → has_path paths (work_path work (final 3)) ≡ false → has_path paths (work_path work plan) ≡ false → core_by opened.Empty work paths steps ≡ shown_core steps (presence false work paths)
unfolding presence
empty_shown steps work paths ef ep = rw (ef, ep) refl

plan_shown : (steps work : List ℕ) (paths : List (List ℕ)) (p : PlanData) → has_path paths (work_path work (final 3)) ≡ false → has_path paths (work_path work plan) ≡ true → core_by (opened.Resumed p) work paths steps ≡ shown_core steps (presence false work paths)
unfolding presence
plan_shown steps work paths p ef ep = rw (ef, ep) refl

finished_shown : (steps work : List ℕ) (paths : List (List ℕ)) (r : List ℕ) (old : Bool) → has_path paths (work_path work (final 3)) ≡ true
    → core_by (opened.Finished r old) work paths steps ≡ shown_core steps (presence old work paths)
unfolding presence
finished_shown steps work paths r true ef = rw ef refl
finished_shown steps work paths r false ef = rw ef refl

abbrev ok_of : Opened → Result Opened JournalErr
ok_of o = Ok o

same_ok : (a b : Opened) → ok_of a ≡ ok_of b → a ≡ b
same_ok a b e = cc

no_err : (o : Opened) (e : JournalErr) → Err e ≡ ok_of o → ⊥
no_err o e h = cc

plan_is : (seen : Seen) (path : List ℕ) (key : RunKey) (steps work : List ℕ) (paths : List (List ℕ)) (r : Result Opened JournalErr) (o : Opened) → PlanKept seen path key r → r ≡ ok_of o
    → has_path paths (work_path work (final 3)) ≡ false → has_path paths (work_path work plan) ≡ true → core_by o work paths steps ≡ shown_core steps (presence (is_old o) work paths)
plan_is seen path key steps work paths r o (plan_read bytes p stands is same) e ef ep = subst (λ (x : Opened). core_by x work paths steps ≡ shown_core steps (presence (is_old x) work paths)) (same_ok (opened.Resumed p) o e) (plan_shown steps work paths p ef ep)
plan_is seen path key steps work paths r o (plan_not_there h) e ef ep = absurd (no_err o _ e)
plan_is seen path key steps work paths r o (plan_bad bytes stands h) e ef ep = absurd (no_err o _ e)
plan_is seen path key steps work paths r o (plan_other bytes p stands is h) e ef ep = absurd (no_err o _ e)

finished_is : (seen : Seen) (path : List ℕ) (key : RunKey) (steps work : List ℕ) (paths : List (List ℕ)) (r : Result Opened JournalErr) (o : Opened) → FinishedKept seen path key r → r ≡ ok_of o
    → has_path paths (work_path work (final 3)) ≡ true → core_by o work paths steps ≡ shown_core steps (presence (is_old o) work paths)
finished_is seen path key steps work paths r o (finished_read bytes d stands is same) e ef = subst (λ (x : Opened). core_by x work paths steps ≡ shown_core steps (presence (is_old x) work paths)) (same_ok (opened.Finished d.report d.old) o e) (finished_shown steps work paths d.report d.old ef)
finished_is seen path key steps work paths r o (finished_not_there h) e ef = absurd (no_err o _ e)
finished_is seen path key steps work paths r o (finished_bad bytes stands h) e ef = absurd (no_err o _ e)
finished_is seen path key steps work paths r o (finished_other bytes d stands is h) e ef = absurd (no_err o _ e)

opens_shown : (steps work : List ℕ) (paths : List (List ℕ)) (key : RunKey) (seen : Seen) (r : Result Opened JournalErr) (o : Opened) → Opens work paths key seen r → r ≡ ok_of o → core_by o work paths steps ≡ shown_core steps (presence (is_old o) work paths)
opens_shown steps work paths key seen r o opens_memory e = absurd (no_err o _ e)
opens_shown steps work paths key seen r o (opens_empty ef ep) e = subst (λ (x : Opened). core_by x work paths steps ≡ shown_core steps (presence (is_old x) work paths)) (same_ok opened.Empty o e) (empty_shown steps work paths ef ep)
opens_shown steps work paths key seen r o (opens_plan ef ep kept) e = plan_is seen (work_path work plan) key steps work paths r o kept e ef ep
opens_shown steps work paths key seen r o (opens_finished ef kept) e = finished_is seen (work_path work (final 3)) key steps work paths r o kept e ef

pub opened_shown : EveryOpenedShown
opened_shown steps work paths key seen o h = opens_shown steps work paths key seen (Ok o) o h refl
