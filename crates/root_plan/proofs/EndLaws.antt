-- Two ends of a root in a tree that tells are one, or one of them is a fault of the tree or a cut.
use Rattle.std.proofs.Common.{◌≡◌, ℕ, ◌<◌, List, [], length, take, get_or, Option, Some, inl, inr, sym, ◌∙◌, subst, arith}
use Rattle.std.proofs.lemmas.Bool.{cases_lt}
use Rattle.std.proofs.lemmas.List.{get_or-take, length-take}
use Rattle.dw_base.specs.declared.fault.Refusal.{Refusal}
use Rattle.file_tree.specs.declared.node.Found.{Found}
use Rattle.file_tree.specs.declared.node.Found.TheVariants as found
use Rattle.file_tree.specs.Trees.{TreeMap}
use Rattle.file_tree.specs.Seen.{Seen, now_of}
use Rattle.file_tree.specs.Causes.{AreInOrder}
use Rattle.job_types.specs.Settings.{Settings}
use Rattle.work_texts.specs.declared.plan.JobLine.{JobLine}
use Rattle.root_plan.specs.declared.plan_err.PlanErr.{PlanErr}
use Rattle.root_paths.specs.Roots.{below_root}
use Rattle.root_plan.specs.Targets.{new_paths}
use Rattle.root_plan.specs.Verdicts.{JudgeView, IsJudge}
use Rattle.root_plan.specs.Tallies.{Tally, Tallies, IsTooLong, FileEnds, CandidateEnds, LargeEnds, FoundEnds, PathEnds}
use Rattle.root_plan.specs.Tallies.{IsTooLong as too_long, FileEnds as file, CandidateEnds as candidate, LargeEnds as large, PathEnds as path_ends}
use Rattle.root_plan.specs.Plans.{IsTallied, CanBeMade, NewEnds, PlanEnds}
use Rattle.root_plan.specs.Plans.{NewEnds as news, PlanEnds as ends}
use Rattle.root_plan.specs.Errors.{IsOneEnd, IsStopped}
use Rattle.root_plan.specs.Errors.{AreSameEnds as are, IsOneEnd as one, IsStopped as stop}
use Rattle.root_plan.proofs.OneLaws.{tallies-alike, long-stopped, at-stopped, new-stopped}

two-long : (p q : List ℕ) (e f : PlanErr) → IsTooLong p e → IsTooLong q f → IsOneEnd e f
two-long p q e f (too_long.long l) (too_long.long m) = one.same are.same_paths
two-long p q e f (too_long.long l) too_long.no_memory = one.other_stopped stop.no_memory
two-long p q e f too_long.no_memory y = one.first_stopped stop.no_memory

module _ (s : Settings) (v : JudgeView) (judge : IsJudge v) (fails : List ℕ → List ℕ → Refusal → Type 0) where
  -- ### One path

  two-refused : (path bytes name : List ℕ) (e f : PlanErr) → FileEnds s v fails path bytes name e → FileEnds s v fails path bytes name f → IsOneEnd e f
  two-refused path bytes name e f (file.refused u x k) (file.refused w y l) = one.same are.same_refused
  two-refused path bytes name e f (file.refused u x k) file.no_memory = one.other_stopped stop.no_memory
  two-refused path bytes name e f file.no_memory y = one.first_stopped stop.no_memory

  two-candidates : (path below bytes : List ℕ) (e f : PlanErr) → CandidateEnds s v fails path below bytes e → CandidateEnds s v fails path below bytes f → IsOneEnd e f
  two-candidates path below bytes e f (candidate.too_long x) (candidate.too_long y) = two-long path path e f x y
  two-candidates path below bytes e f (candidate.too_long x) (candidate.file_ends l y) = one.first_stopped (long-stopped s v judge fails path e l x)
  two-candidates path below bytes e f (candidate.too_long x) candidate.no_memory = one.other_stopped stop.no_memory
  two-candidates path below bytes e f (candidate.file_ends l x) (candidate.too_long y) = one.other_stopped (long-stopped s v judge fails path f l y)
  two-candidates path below bytes e f (candidate.file_ends l x) (candidate.file_ends m y) = two-refused path bytes _ e f x y
  two-candidates path below bytes e f (candidate.file_ends l x) candidate.no_memory = one.other_stopped stop.no_memory
  two-candidates path below bytes e f candidate.no_memory y = one.first_stopped stop.no_memory

  two-large : (path : List ℕ) (size : ℕ) (e f : PlanErr) → LargeEnds path size e → LargeEnds path size f → IsOneEnd e f
  two-large path size e f (large.too_long x) (large.too_long y) = two-long path path e f x y
  two-large path size e f (large.too_long x) (large.large l) = one.first_stopped (long-stopped s v judge fails path e l x)
  two-large path size e f (large.too_long x) large.no_memory = one.other_stopped stop.no_memory
  two-large path size e f (large.large l) (large.too_long y) = one.other_stopped (long-stopped s v judge fails path f l y)
  two-large path size e f (large.large l) (large.large m) = one.same are.same_file
  two-large path size e f (large.large l) large.no_memory = one.other_stopped stop.no_memory
  two-large path size e f large.no_memory y = one.first_stopped stop.no_memory

  two-found : (path below : List ℕ) (what : Found) (e f : PlanErr) → FoundEnds s v fails path below what e → FoundEnds s v fails path below what f → IsOneEnd e f
  two-found path below found.Absent e f x y = absurd x
  two-found path below found.Folder e f x y = absurd x
  two-found path below (found.File bytes mode) e f x y = two-candidates path below bytes e f x y
  two-found path below (found.Link target) e f x y = absurd x
  two-found path below (found.TooLarge size) e f x y = two-large path size e f x y

  module _ (tree : TreeMap) (old new old2 new2 : Seen) (here : now_of old ≡ Some tree) (here2 : now_of old2 ≡ Some tree) (root : List ℕ) where
    two-paths : (path : List ℕ) (e f : PlanErr) → PathEnds old new root s v fails path e → PathEnds old2 new2 root s v fails path f → IsOneEnd e f
    two-paths path e f (path_ends.at_found {what = w} may stood x) (path_ends.at_found {what = o} may2 stood2 y) =
        two-found path (below_root root path) w e f x
        (subst (λ (z : Found). FoundEnds s v fails path (below_root root path) z f) (sym (stood2.is tree here2) ∙ stood.is tree here) y)
    two-paths path e f (path_ends.at_found may stood x) (path_ends.failed rose) = one.other_stopped stop.failed
    two-paths path e f (path_ends.at_found may stood x) path_ends.no_memory = one.other_stopped stop.no_memory
    two-paths path e f (path_ends.failed rose) y = one.first_stopped stop.failed
    two-paths path e f path_ends.no_memory y = one.first_stopped stop.no_memory

  -- ### New paths

  two-news : (present paths : List (List ℕ)) (e f : PlanErr) → NewEnds present paths e → NewEnds present paths f → IsOneEnd e f
  two-news present paths e f (news.too_long {path = p} c x) (news.too_long {path = q} d y) = two-long p q e f x y
  two-news present paths e f (news.too_long {path = p} c x) (news.taken {path = q} short y) = one.first_stopped (long-stopped s v judge fails p e (short.short p c) x)
  two-news present paths e f (news.too_long {path = p} c x) news.no_memory = one.other_stopped stop.no_memory
  two-news present paths e f (news.taken {path = p} short x) (news.too_long {path = q} d y) = one.other_stopped (long-stopped s v judge fails q f (short.short q d) y)
  two-news present paths e f (news.taken short x) (news.taken short2 y) = one.same are.same_taken
  two-news present paths e f (news.taken short x) news.no_memory = one.other_stopped stop.no_memory
  two-news present paths e f news.no_memory y = one.first_stopped stop.no_memory

  -- ### The root

  module _ (root : List ℕ) (present : List (List ℕ)) (order : AreInOrder present) (tree : TreeMap) (old new old2 new2 : Seen) (here : now_of old ≡ Some tree) (here2 : now_of old2 ≡ Some tree) where
    same : now_of old2 ≡ now_of old
    same = here2 ∙ sym here

    -- a path that ends the tally of one call, where another call passes it
    passed : (ps : List (List ℕ)) (u : Tally) (n : ℕ) (e : PlanErr) → Tallies (now_of old2) root s v fails ps u → n < length ps → PathEnds old new root s v fails (get_or ps n []) e → IsStopped e
    passed ps u n e ts l x = at-stopped s v judge fails tree old new here root ps u n e (subst (λ (o : Option TreeMap). Tallies o root s v fails ps u) same ts) l x

    passed-before : (m n : ℕ) (u : Tally) (e : PlanErr) → Tallies (now_of old2) root s v fails (take m present) u → n < m → m < length present
        → PathEnds old new root s v fails (get_or present n []) e → IsStopped e
    passed-before m n u e ts l within x =
        passed (take m present) u n e ts (omega (arith, l, within, length-take m present))
        (subst (λ (q : List ℕ). PathEnds old new root s v fails q e) (sym (get_or-take m present n [] l)) x)

    same-jobs : (t u : Tally) → IsTallied (now_of old) root present s v fails t → IsTallied (now_of old2) root present s v fails u → u.jobs ≡ t.jobs
    same-jobs t u x y =
        sym (tallies-alike s v judge fails tree (now_of old) here root present t u x.tallies (subst (λ (o : Option TreeMap). Tallies o root s v fails present u) same y.tallies)).jobs

    -- new paths that can't be made for one call, where they can be made for another
    made-new : (t u : Tally) (e : PlanErr) → IsTallied (now_of old) root present s v fails t → IsTallied (now_of old2) root present s v fails u
        → CanBeMade present (new_paths root u.jobs) → NewEnds present (new_paths root t.jobs) e → IsStopped e
    made-new t u e x y can ended =
        new-stopped s v judge fails present (new_paths root t.jobs) e order (subst (λ (js : List JobLine). CanBeMade present (new_paths root js)) (same-jobs t u x y) can) ended

  module _ (root : List ℕ) (present : List (List ℕ)) (order : AreInOrder present) (tree : TreeMap) (old new old2 new2 : Seen) (here : now_of old ≡ Some tree) (here2 : now_of old2 ≡ Some tree) where
    at-paths : (m n : ℕ) (t u : Tally) (e f : PlanErr) → Tallies (now_of old) root s v fails (take n present) t → Tallies (now_of old2) root s v fails (take m present) u
        → n < length present → m < length present → PathEnds old new root s v fails (get_or present n []) e → PathEnds old2 new2 root s v fails (get_or present m []) f → IsOneEnd e f
    at-paths m n t u e f ts us l k x y =
        elim (cases_lt n m) [
          | inl below ↦ one.first_stopped (passed-before root present order tree old new old2 new2 here here2 m n u e us below k x)
          | inr above ↦ elim (cases_lt m n) [
            | inl under ↦ one.other_stopped (passed-before root present order tree old2 new2 old new here2 here n m t f ts under l y)
            | inr over ↦
                let at : m ≡ n = omega (arith, above, over) in
                two-paths tree old new old2 new2 here here2 root (get_or present n []) e f x
                (subst (λ (k : ℕ). PathEnds old2 new2 root s v fails (get_or present k []) f) at y)
          ]
        ]

    -- two ends of a root are one, or one of them is a fault of the tree or a cut
    pub plan_ends_one : (e f : PlanErr) → PlanEnds old new root present s v fails e → PlanEnds old2 new2 root present s v fails f → IsOneEnd e f
    plan_ends_one e f (ends.many l) (ends.many m) = one.same are.same_entries
    plan_ends_one e f (ends.many l) (ends.at_path n few k ts y) = absurd (omega (arith, l, few))
    plan_ends_one e f (ends.many l) (ends.at_new tallied y) = absurd (omega (arith, l, tallied.few))
    plan_ends_one e f (ends.many l) (ends.at_text tallied can long) = absurd (omega (arith, l, tallied.few))
    plan_ends_one e f (ends.many l) (ends.at_look plan is rose) = one.other_stopped stop.failed
    plan_ends_one e f (ends.many l) ends.no_memory = one.other_stopped stop.no_memory
    plan_ends_one e f (ends.at_path n few k ts x) (ends.many m) = absurd (omega (arith, m, few))
    plan_ends_one e f (ends.at_path {t = t} n few k ts x) (ends.at_path {t = u} m few2 l us y) = at-paths m n t u e f ts us k l x y
    plan_ends_one e f (ends.at_path n few k ts x) (ends.at_new {t = u} tallied y) = one.first_stopped (passed root present order tree old new old2 new2 here here2 present u n e tallied.tallies k x)
    plan_ends_one e f (ends.at_path n few k ts x) (ends.at_text {t = u} tallied can long) = one.first_stopped (passed root present order tree old new old2 new2 here here2 present u n e tallied.tallies k x)
    plan_ends_one e f (ends.at_path n few k ts x) (ends.at_look plan is rose) = one.other_stopped stop.failed
    plan_ends_one e f (ends.at_path n few k ts x) ends.no_memory = one.other_stopped stop.no_memory
    plan_ends_one e f (ends.at_new tallied x) (ends.many m) = absurd (omega (arith, m, tallied.few))
    plan_ends_one e f (ends.at_new {t = t} tallied x) (ends.at_path n few k us y) = one.other_stopped (passed root present order tree old2 new2 old new here2 here present t n f tallied.tallies k y)
    plan_ends_one e f (ends.at_new {t = t} tallied x) (ends.at_new {t = u} tallied2 y) =
        two-news present (new_paths root t.jobs) e f x
        (subst (λ (js : List JobLine). NewEnds present (new_paths root js) f) (same-jobs root present order tree old new old2 new2 here here2 t u tallied tallied2) y)
    plan_ends_one e f (ends.at_new {t = t} tallied x) (ends.at_text {t = u} tallied2 can long) = one.first_stopped (made-new root present order tree old new old2 new2 here here2 t u e tallied tallied2 can x)
    plan_ends_one e f (ends.at_new tallied x) (ends.at_look plan is rose) = one.other_stopped stop.failed
    plan_ends_one e f (ends.at_new tallied x) ends.no_memory = one.other_stopped stop.no_memory
    plan_ends_one e f (ends.at_text tallied can long) (ends.many m) = absurd (omega (arith, m, tallied.few))
    plan_ends_one e f (ends.at_text {t = t} tallied can long) (ends.at_path n few k us y) = one.other_stopped (passed root present order tree old2 new2 old new here2 here present t n f tallied.tallies k y)
    plan_ends_one e f (ends.at_text {t = t} tallied can long) (ends.at_new {t = u} tallied2 y) = one.other_stopped (made-new root present order tree old2 new2 old new here2 here u t f tallied2 tallied can y)
    plan_ends_one e f (ends.at_text tallied can long) (ends.at_text tallied2 can2 long2) = one.same are.same_text
    plan_ends_one e f (ends.at_text tallied can long) (ends.at_look plan is rose) = one.other_stopped stop.failed
    plan_ends_one e f (ends.at_text tallied can long) ends.no_memory = one.other_stopped stop.no_memory
    plan_ends_one e f (ends.at_look plan is rose) y = one.first_stopped stop.failed
    plan_ends_one e f ends.no_memory y = one.first_stopped stop.no_memory
