-- What an earlier program wrote of a run: by its text's first word a finished text is told to be one's, and none is longer than the text that
-- this program writes.
use Rattle.std.proofs.Common.{◌≡◌, ◌≢◌, ℕ, suc, ◌+◌, ◌≤◌, Bool, true, false, if◌then◌else◌, List, [], ◌∷◌, ◌++◌, length, get_or, refl, sym, ap, subst, ◌∙◌, eqb-true, arith, Result}
use Rattle.std.specs.Prelude.{◌==◌, codes, Option, Some, None, IsTrue, ⊤}
use Rattle.std.specs.FinMap as fin
use Rattle.std.proofs.lemmas.List.{length-append}
use Rattle.dw_base.proofs.TextLaws.{laid_texts-append}
use Rattle.file_tree.specs.declared.node.Node.{Node}
use Rattle.file_tree.specs.declared.node.Node.TheVariants as node
use Rattle.file_tree.specs.Seen.{Seen}
use Rattle.file_tree.specs.Trees.{TreeMap}
use Rattle.journal_core.specs.Marks.{Mark, Marking, absent, first, whole, any, earlier, is_earlier, is_kept, is_own}
use Rattle.journal_core.specs.Names.{plan, fresh, final}
use Rattle.journal_core.specs.Shapes.{HasShape}
use Rattle.journal_core.specs.Shapes.{HasShape as shape}
use Rattle.journal_core.specs.Table.{closed_core, old_core}
use Rattle.work_texts.specs.declared.journal_err.JournalErr.{JournalErr}
use Rattle.work_texts.specs.declared.key.RunKey.{RunKey}
use Rattle.work_texts.specs.declared.plan.FinishedData.{FinishedData}
use Rattle.work_texts.specs.declared.plan.PlanData.{PlanData}
use Rattle.work_texts.specs.Fields.{Field, text_of, key_fields, more_fields, more_pairs, keyed_fields, finished_word, finished_fields, plan_rest, plan_fields}
use Rattle.work_journal.specs.Ending.{text_file}
use Rattle.work_journal.specs.Finishing.{plan_node}
use Rattle.work_journal.specs.Wanted.{Wanted, IsPartway, MarkHas}
use Rattle.work_journal.specs.Work.{work_path}
use Rattle.root_run.specs.declared.run_err.RunErr.{RunErr}
use Rattle.root_run.specs.Cores.{says_old, is_old_end}
use Rattle.root_run.specs.Starts.{ClearEnded, ClearRan, IsEndRun, end_text, report_of}
use Rattle.root_run.specs.Starts.{ClearEnded as over}
use Rattle.root_run.specs.Wholes.{wanted_of, end_of, finished_text, is_one, old_plan_text, old_finished_text, older_text}

-- ### The version's digit

word-digit : (old : Bool) (rest : List Field) → (get_or (text_of (finished_word old ∷ rest)) 12 0 == 49) ≡ old
word-digit true rest = refl
word-digit false rest = refl

end-digit : (d : FinishedData) → (get_or (text_of (finished_fields d)) 12 0 == 49) ≡ d.old
end-digit d = word-digit d.old (keyed_fields d.old d.key ++ d.report ∷ [])

-- a file of a finished text says whose it is
pub file-says : (o : Option Node) (bytes : List ℕ) (mode : ℕ) (d : FinishedData) → o ≡ Some (node.File bytes mode) → bytes ≡ text_of (finished_fields d) → says_old o ≡ d.old
file-says o bytes mode d there is = ap (λ (x : Option Node). says_old x) there ∙ ap (λ (b : List ℕ). get_or b 12 0 == 49) is ∙ end-digit d

-- ### The marks of the plan and of the finished text

absent-kept : (x : Mark) → x ≡ absent → IsTrue (is_kept x)
absent-kept x e = rw e refl

whole-kept : (x : Mark) → x ≡ whole → IsTrue (is_kept x)
whole-kept x e = rw e refl

earlier-kept : (x : Mark) → x ≡ earlier → IsTrue (is_kept x)
earlier-kept x e = rw e refl

own-kept : (x : Mark) → IsTrue (is_own x) → IsTrue (is_kept x)
own-kept absent e = cc
own-kept first e = cc
own-kept whole e = refl
own-kept any e = cc
own-kept earlier e = refl

pub plan-mark : (steps : List ℕ) (m : Marking) → HasShape steps m → IsTrue (is_kept m.plan)
plan-mark steps m (shape.unplanned h) = absent-kept m.plan h.rest.plan
plan-mark steps m (shape.underway h) = own-kept m.plan h.plan
plan-mark steps m (shape.finished h) = h.plan
plan-mark steps m (shape.old h) = h.plan

pub finished-mark : (steps : List ℕ) (m : Marking) → HasShape steps m → IsTrue (is_kept (m.final 3))
finished-mark steps m (shape.unplanned h) = absent-kept (m.final 3) (h.rest.final 3 (omega arith))
finished-mark steps m (shape.underway h) = absent-kept (m.final 3) h.finished
finished-mark steps m (shape.finished h) = whole-kept (m.final 3) (h.final 3 (omega arith))
finished-mark steps m (shape.old h) = earlier-kept (m.final 3) h.finished

-- ### A tree partway has an earlier program's finished text where its mark says so

mark-says : (x : Mark) (was : Option Node) (n : Node) (older o : Option Node) → IsTrue (is_kept x) → says_old (Some n) ≡ false → (older ≢ None → says_old older ≡ true)
    → MarkHas x was n older o → is_earlier x ≡ says_old o
mark-says absent was n older o e own old has = sym (ap (λ (y : Option Node). says_old y) has)
mark-says first was n older o e own old has = cc
mark-says whole was n older o e own old has = sym (ap (λ (y : Option Node). says_old y) has ∙ own)
mark-says any was n older o e own old has = cc
mark-says earlier was n older o e own old has = sym (ap (λ (y : Option Node). says_old y) has.same ∙ old (λ none. has.some (has.same ∙ none)))

abbrev older_if : Bool → List ℕ → Option Node
older_if b text = if b then Some (text_file text) else None

older-says : (b : Bool) (text : List ℕ) → (get_or text 12 0 == 49) ≡ true → older_if b text ≢ None → says_old (older_if b text) ≡ true
older-says true text digit some = digit
older-says false text digit some = absurd (some refl)

-- what is wanted has the texts of a plan, as this program and an earlier one write them
pub record HasTexts (w : Wanted) (p : PlanData) : Type 0 where
  pub plan_is : w.node plan ≡ plan_node p
  pub plan_old : w.older plan ≡ older_text p (old_plan_text p)
  pub end_is : w.node (final 3) ≡ text_file (finished_text p)
  pub end_old : w.older (final 3) ≡ older_text p (old_finished_text p)

-- so has what is wanted of a root
pub root-texts : (start : TreeMap) (root work : List ℕ) (p : PlanData) (made : List (List Node)) → HasTexts (wanted_of start root work p made) p
root-texts start root work p made = record { plan_is = refl; plan_old = refl; end_is = refl; end_old = refl }

pub marked-old : (w : Wanted) (p : PlanData) → HasTexts w p → (t : TreeMap) (partway : IsPartway w t) → is_earlier (partway.marking.final 3) ≡ is_old_end t w.work
marked-old w p texts t partway =
    let has : MarkHas (partway.marking.final 3) (fin.get w.start (work_path w.work (final 3))) (w.node (final 3)) (older_text p (old_finished_text p)) (fin.get t (work_path w.work (final 3))) =
    subst (λ (o : Option Node). MarkHas (partway.marking.final 3) (fin.get w.start (work_path w.work (final 3))) (w.node (final 3)) o (fin.get t (work_path w.work (final 3)))) texts.end_old
    (partway.has.named (final 3) (omega arith)) in
    mark-says (partway.marking.final 3) (fin.get w.start (work_path w.work (final 3))) (text_file (finished_text p)) (older_text p (old_finished_text p)) (fin.get t (work_path w.work (final 3)))
    (finished-mark w.steps partway.marking partway.shape) (end-digit (end_of false p)) (older-says (is_one p) (old_finished_text p) (end-digit (end_of true p)))
    (subst (λ (n : Node). MarkHas (partway.marking.final 3) (fin.get w.start (work_path w.work (final 3))) n (older_text p (old_finished_text p)) (fin.get t (work_path w.work (final 3)))) texts.end_is has)

-- ### What is read of an older text

-- a file that is there as an earlier program gives it: the run has one pair of a map, and the file is that text
pub record IsOlder (p : PlanData) (text bytes : List ℕ) : Type 0 where
  pub one : length p.key.maps.pairs ≡ 1
  pub text_is : bytes ≡ text

older-file : (b : Bool) (text bytes : List ℕ) (mode : ℕ) → older_if b text ≡ Some (node.File bytes mode) → (b ≡ true) × (bytes ≡ text)
older-file true text bytes mode e = (refl, cc)
older-file false text bytes mode e = cc

pub older-read : (p : PlanData) (text bytes : List ℕ) (mode : ℕ) → older_text p text ≡ Some (node.File bytes mode) → IsOlder p text bytes
older-read p text bytes mode e =
    let both = older-file (is_one p) text bytes mode e in
    record { one = eqb-true (length p.key.maps.pairs) 1 both.0; text_is = both.1 }

-- ### None is longer

text-append : (fs gs : List Field) → length (text_of (fs ++ gs)) ≡ length (text_of fs) + length (text_of gs)
text-append fs gs = ap (λ (t : List ℕ). length t) (laid_texts-append fs gs) ∙ length-append (text_of fs) (text_of gs)

word-size : (word : Field) (fs : List Field) → length (text_of (word ∷ fs)) ≡ length word + suc (length (text_of fs))
word-size word fs = length-append word (0 ∷ text_of fs)

-- two texts with words of one length that go on alike, but that the second has some fields more
shorter-by : (word new : Field) (key more rest : List Field) → length word ≡ length new
    → length (text_of (word ∷ ((key ++ []) ++ rest))) ≤ length (text_of (new ∷ ((key ++ more) ++ rest)))
shorter-by word new key more rest same =
    omega (
      arith,
      same,
      word-size word ((key ++ []) ++ rest),
      text-append (key ++ []) rest,
      text-append key [],
      word-size new ((key ++ more) ++ rest),
      text-append (key ++ more) rest,
      text-append key more,
    )

pub old-plan-shorter : (p : PlanData) → length (old_plan_text p) ≤ length (text_of (plan_fields p))
old-plan-shorter p = shorter-by (codes "dbgplan 1") (codes "dbgplan 2") (key_fields p.key) (more_fields false (more_pairs p.key)) (plan_rest p) refl

pub old-end-shorter : (p : PlanData) → length (old_finished_text p) ≤ length (finished_text p)
old-end-shorter p = shorter-by (codes "dbgfinished 1") (codes "dbgfinished 2") (key_fields p.key) (more_fields false (more_pairs p.key)) (p.report ∷ []) refl

-- ### How a start ends a run that is over

-- the text that is put anew is the one that tells the end of the run
pub renewed-ran : (work : List ℕ) (key : RunKey) (report text lent : List ℕ) (old new : Seen) (r : Result (Unit {0}) JournalErr) → lent ≡ text → text ≡ end_text key report
    → ClearRan work (λ w. w.node (fresh 3) ≡ text_file lent) 2 old_core old new r → ClearRan work (IsEndRun key report) 2 old_core old new r
renewed-ran work key report text lent old new r lent_is is ran =
    subst (λ (t : List ℕ). ClearRan work (λ w. w.node (fresh 3) ≡ text_file t) 2 old_core old new r) (lent_is ∙ is) ran

-- where this program ended it, its work folder is cleared
pub cleared-over : (work : List ℕ) (key : RunKey) (report : List ℕ) (old new : Seen) (result : Result (List ℕ) RunErr) (is_old : Bool) (r : Result (Unit {0}) JournalErr) → is_old ≡ false
    → ClearRan work (λ w. ⊤) 1 closed_core old new r → result ≡ report_of r report → ClearEnded work key report old new result is_old
cleared-over work key report old new result is_old r own ran answer = subst (ClearEnded work key report old new result) (sym own) (over.cleared r ran answer)
