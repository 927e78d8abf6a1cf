-- A tree that tells has one plan of a root, but for what skipped files are refused as; and beside a plan nothing ends it.
use Rattle.std.proofs.Common.{◌≡◌, ℕ, suc, ◌≤◌, ◌<◌, Bool, true, false, List, [], ◌∷◌, ◌++◌, length, get_or, Option, Some, inl, inr, refl, sym, ap, ◌∙◌, subst, arith}
use Rattle.std.proofs.lemmas.Bool.{cases_lt}
use Rattle.std.proofs.lemmas.List.{same_from_push, length_push, get_or_append_left}
use Rattle.std.proofs.Math.Seq.{get_or-append_seam}
use Rattle.dw_base.specs.declared.fault.Refusal.{Refusal}
use Rattle.file_tree.specs.declared.node.Found.{Found}
use Rattle.file_tree.specs.declared.node.Found.TheVariants as found
use Rattle.file_tree.specs.Trees.{TreeMap}
use Rattle.file_tree.specs.Seen.{Seen, now_of}
use Rattle.file_tree.specs.Causes.{Stood, AreInOrder}
use Rattle.job_types.specs.Settings.{Settings}
use Rattle.job_types.specs.declared.outcome.Verdict.{Verdict}
use Rattle.job_types.specs.declared.outcome.Verdict.TheVariants.{Left, Edited, Split}
use Rattle.work_texts.specs.declared.plan.JobLine.{JobLine}
use Rattle.work_texts.specs.declared.plan.PlanData.{PlanData}
use Rattle.work_texts.specs.Rules.{text_limit}
use Rattle.root_plan.specs.declared.plan_err.PlanErr.{PlanErr}
use Rattle.root_plan.specs.declared.plan_err.PlanErr.TheVariants as err
use Rattle.root_plan.specs.declared.refused.Skipped.{Skipped}
use Rattle.root_paths.specs.Roots.{may_be_candidate, below_root, longest_path}
use Rattle.root_plan.specs.Targets.{new_paths, debug_name}
use Rattle.root_plan.specs.Verdicts.{JudgeView, IsJudge, id_of}
use Rattle.root_plan.specs.Tallies.{Tally, empty_tally, with_sources, with_verdict, split_job, edited_job, FileNoted, FoundNoted, Noted, Tallies, IsTooLong, FileEnds, CandidateEnds, FoundEnds, PathEnds}
use Rattle.root_plan.specs.Tallies.{FileNoted as note, Noted as notes, Tallies as tally, IsTooLong as too_long, FileEnds as file, CandidateEnds as candidate, PathEnds as path_ends}
use Rattle.root_plan.specs.Plans.{plan_of, plan_length, CanBeMade, NewEnds, IsPlanOf, PlanEnds, IsCut, OnlyCut}
use Rattle.root_plan.specs.Plans.{NewEnds as news, PlanEnds as ends, IsCut as cuts}
use Rattle.root_plan.specs.Errors.{IsStopped}
use Rattle.root_plan.specs.Errors.{IsStopped as stop}

-- ### One thing each

pub both-never : (b : Bool) → b ≡ true → b ≡ false → ⊥
both-never true p q = cc
both-never false p q = cc

found-one : (t : TreeMap) (old : Option TreeMap) (path : List ℕ) (limit : ℕ) (a b : Found) → old ≡ Some t → Stood old path limit a → Stood old path limit b → a ≡ b
found-one t old path limit a b here x y = sym (x.is t here) ∙ y.is t here

-- ### Tallies

-- tallies that differ at most in what skipped files are refused as
pub record Alike (s : Settings) (t u : Tally) : Type 0 where
  pub jobs : t.jobs ≡ u.jobs
  pub left : t.left ≡ u.left
  pub sources : t.sources ≡ u.sources
  pub skipped : s.skip ≡ false → t.skipped ≡ u.skipped

alike-self : (s : Settings) (t : Tally) → Alike s t t
alike-self s t = record { jobs = refl; left = refl; sources = refl; skipped = λ e. refl }

alike-verdict : (s : Settings) (path bytes : List ℕ) (a : Verdict) (t u : Tally) → Alike s t u → Alike s (with_verdict t path bytes a) (with_verdict u path bytes a)
alike-verdict s path bytes (Left why) t u h = record { jobs = h.jobs; left = ap (λ (n : ℕ). suc n) h.left; sources = h.sources; skipped = h.skipped }
alike-verdict s path bytes (Edited names) t u h = record {
  jobs = ap (λ (js : List JobLine). js ++ edited_job path bytes ∷ []) h.jobs;
  left = h.left;
  sources = ap (λ (xs : List (List ℕ)). with_sources xs names) h.sources;
  skipped = h.skipped;
}
alike-verdict s path bytes (Split id names) t u h = record {
  jobs = ap (λ (js : List JobLine). js ++ split_job js path bytes (id_of id) ∷ []) h.jobs;
  left = h.left;
  sources = ap (λ (xs : List (List ℕ)). with_sources xs names) h.sources;
  skipped = h.skipped;
}

module _ (s : Settings) (v : JudgeView) (judge : IsJudge v) (fails : List ℕ → List ℕ → Refusal → Type 0) where
  file-alike : (path bytes name : List ℕ) (t u p q : Tally) → FileNoted s v fails path bytes name t u → FileNoted s v fails path bytes name p q → Alike s t p → Alike s u q
  file-alike path bytes name t u p q (note.judged {verdict = a} x) (note.judged {verdict = b} y) h =
      subst (λ (c : Verdict). Alike s (with_verdict t path bytes a) (with_verdict p path bytes c)) (judge.one_verdict bytes name a b x y) (alike-verdict s path bytes a t p h)
  file-alike path bytes name t u p q (note.judged {verdict = a} x) (note.skipped unsaid f skip) h = absurd (unsaid.none a x)
  file-alike path bytes name t u p q (note.skipped unsaid f skip) (note.judged {verdict = b} y) h = absurd (unsaid.none b y)
  file-alike path bytes name t u p q (note.skipped unsaid f skip) (note.skipped unsaid2 f2 skip2) h =
      record { jobs = h.jobs; left = h.left; sources = h.sources; skipped = λ e. absurd (both-never s.skip skip e) }

  same-alike : (t u p q : Tally) → u ≡ t → q ≡ p → Alike s t p → Alike s u q
  same-alike t u p q e f h = subst (λ (x : Tally). Alike s x q) (sym e) (subst (λ (x : Tally). Alike s t x) (sym f) h)

  found-alike : (path below : List ℕ) (what : Found) (t u p q : Tally) → FoundNoted s v fails path below what t u → FoundNoted s v fails path below what p q → Alike s t p → Alike s u q
  found-alike path below found.Absent t u p q x y h = same-alike t u p q x y h
  found-alike path below found.Folder t u p q x y h = same-alike t u p q x y h
  found-alike path below (found.File bytes mode) t u p q x y h = file-alike below bytes _ t u p q x.noted y.noted h
  found-alike path below (found.Link target) t u p q x y h = same-alike t u p q x y h
  found-alike path below (found.TooLarge size) t u p q x y h = absurd x

  module _ (tree : TreeMap) (old : Option TreeMap) (here : old ≡ Some tree) (root : List ℕ) where
    path-alike : (path : List ℕ) (t u p q : Tally) → Noted old root s v fails path t u → Noted old root s v fails path p q → Alike s t p → Alike s u q
    path-alike path t u p q (notes.apart other) (notes.apart other2) h = h
    path-alike path t u p q (notes.apart other) (notes.there {what = w} may stood n) h = absurd (both-never (may_be_candidate root path) may other)
    path-alike path t u p q (notes.there {what = w} may stood n) (notes.apart other) h = absurd (both-never (may_be_candidate root path) may other)
    path-alike path t u p q (notes.there {what = w} may stood n) (notes.there {what = x} may2 stood2 m) h =
        found-alike path (below_root root path) w t u p q n
        (subst (λ (y : Found). FoundNoted s v fails path (below_root root path) y p q) (found-one tree old path s.max_file x w here stood2 stood) m) h

    never-more : (paths : List (List ℕ)) (path : List ℕ) → [] ≡ paths ++ path ∷ [] → ⊥
    never-more paths path e =
        let size : 0 ≡ length (paths ++ path ∷ []) = ap (λ (ps : List (List ℕ)). length ps) e in
        omega (arith, size, length_push paths path)

    tallies-by : (ps qs : List (List ℕ)) (t u : Tally) → Tallies old root s v fails ps t → Tallies old root s v fails qs u → ps ≡ qs → Alike s t u
    tallies-by ps qs t u tally.none tally.none e = alike-self s empty_tally
    tallies-by ps qs t u tally.none (tally.more {paths = ns} {path = b} ys y) e = absurd (never-more ns b e)
    tallies-by ps qs t u (tally.more {paths = ms} {path = a} xs x) tally.none e = absurd (never-more ms a (sym e))
    tallies-by ps qs t u (tally.more {paths = ms} {path = a} {t = t0} xs x) (tally.more {paths = ns} {path = b} {t = u0} ys y) e =
        let same : (ms ≡ ns) × (a ≡ b) = same_from_push ms ns a b e in
        path-alike a t0 t u0 u x (subst (λ (c : List ℕ). Noted old root s v fails c u0 u) (sym same.1) y) (tallies-by ms ns t0 u0 xs ys same.0)

    -- a root has one tally
    pub tallies-alike : (paths : List (List ℕ)) (t u : Tally) → Tallies old root s v fails paths t → Tallies old root s v fails paths u → Alike s t u
    tallies-alike paths t u x y = tallies-by paths paths t u x y refl

  -- ### Paths that end a tally, beside one that doesn't

  pub long-stopped : (path : List ℕ) (e : PlanErr) → length path ≤ longest_path → IsTooLong path e → IsStopped e
  long-stopped path e short (too_long.long l) = absurd (omega (arith, short, l))
  long-stopped path e short too_long.no_memory = stop.no_memory

  file-stopped : (path below bytes name : List ℕ) (t u : Tally) (e : PlanErr) → FileNoted s v fails below bytes name t u → FileEnds s v fails path bytes name e → IsStopped e
  file-stopped path below bytes name t u e (note.judged {verdict = a} x) (file.refused unsaid f skip) = absurd (unsaid.none a x)
  file-stopped path below bytes name t u e (note.skipped unsaid f skip) (file.refused unsaid2 f2 skip2) = absurd (both-never s.skip skip skip2)
  file-stopped path below bytes name t u e noted file.no_memory = stop.no_memory

  candidate-stopped : (path below bytes name : List ℕ) (t u : Tally) (e : PlanErr) → length path ≤ longest_path → FileNoted s v fails below bytes (debug_name below) t u
      → CandidateEnds s v fails path below bytes e → IsStopped e
  candidate-stopped path below bytes name t u e short noted (candidate.too_long l) = long-stopped path e short l
  candidate-stopped path below bytes name t u e short noted (candidate.file_ends l ended) = file-stopped path below bytes (debug_name below) t u e noted ended
  candidate-stopped path below bytes name t u e short noted candidate.no_memory = stop.no_memory

  found-stopped : (path below : List ℕ) (what : Found) (t u : Tally) (e : PlanErr) → FoundNoted s v fails path below what t u → FoundEnds s v fails path below what e → IsStopped e
  found-stopped path below found.Absent t u e n ended = absurd ended
  found-stopped path below found.Folder t u e n ended = absurd ended
  found-stopped path below (found.File bytes mode) t u e n ended = candidate-stopped path below bytes [] t u e n.short n.noted ended
  found-stopped path below (found.Link target) t u e n ended = absurd ended
  found-stopped path below (found.TooLarge size) t u e n ended = absurd n

  module _ (tree : TreeMap) (old new : Seen) (here : now_of old ≡ Some tree) (root : List ℕ) where
    path-stopped : (path : List ℕ) (t u : Tally) (e : PlanErr) → Noted (now_of old) root s v fails path t u → PathEnds old new root s v fails path e → IsStopped e
    path-stopped path t u e (notes.apart other) (path_ends.at_found {what = x} may stood ended) = absurd (both-never (may_be_candidate root path) may other)
    path-stopped path t u e (notes.there {what = w} may stood n) (path_ends.at_found {what = x} may2 stood2 ended) =
        found-stopped path (below_root root path) w t u e n
        (subst (λ (y : Found). FoundEnds s v fails path (below_root root path) y e) (found-one tree (now_of old) path s.max_file x w here stood2 stood) ended)
    path-stopped path t u e noted (path_ends.failed rose) = stop.failed
    path-stopped path t u e noted path_ends.no_memory = stop.no_memory

    pub at-stopped : (paths : List (List ℕ)) (t : Tally) (n : ℕ) (e : PlanErr) → Tallies (now_of old) root s v fails paths t → n < length paths
        → PathEnds old new root s v fails (get_or paths n []) e → IsStopped e
    at-stopped paths t n e tally.none l ended = absurd (omega (arith, l))
    at-stopped paths t n e (tally.more {paths = ps} {path = p} {t = t0} ts noted) l ended =
        elim (cases_lt n (length ps)) [
          | inl below ↦ at-stopped ps t0 n e ts below (subst (λ (q : List ℕ). PathEnds old new root s v fails q e) (get_or_append_left ps (p ∷ []) [] n below) ended)
          | inr above ↦ path-stopped p t0 t e noted (subst (λ (q : List ℕ). PathEnds old new root s v fails q e) (last-at n (omega (arith, above, l, length_push ps p))) ended)
        ]
      where
        last-at : (n : ℕ) → n ≡ length ps → get_or (ps ++ p ∷ []) n [] ≡ p
        last-at n is = ap (λ (k : ℕ). get_or (ps ++ p ∷ []) k []) is ∙ get_or-append_seam ps p [] []

  -- ### New paths and the text

  pub new-stopped : (present paths : List (List ℕ)) (e : PlanErr) → AreInOrder present → CanBeMade present paths → NewEnds present paths e → IsStopped e
  new-stopped present paths e order can (news.too_long {path = p} c l) = long-stopped p e (can.short.short p c) l
  new-stopped present paths e order can (news.taken {path = p} short taken) = absurd ((can.free order).free p taken)
  new-stopped present paths e order can news.no_memory = stop.no_memory

-- the plan of a tally is that of one like it, where no file is skipped
pub plans-alike : (s : Settings) (t u : Tally) → Alike s t u → s.skip ≡ false → plan_of s t ≡ plan_of s u
plans-alike s t u h e =
    ap (λ (js : List JobLine). plan_of s (record { jobs = js; left = t.left; skipped = t.skipped; sources = t.sources })) h.jobs
    ∙ ap (λ (n : ℕ). plan_of s (record { jobs = u.jobs; left = n; skipped = t.skipped; sources = t.sources })) h.left
    ∙ ap (λ (xs : List Skipped). plan_of s (record { jobs = u.jobs; left = u.left; skipped = xs; sources = t.sources })) (h.skipped e)
    ∙ ap (λ (xs : List (List ℕ)). plan_of s (record { jobs = u.jobs; left = u.left; skipped = u.skipped; sources = xs })) h.sources

text-cut : (s : Settings) (t u : Tally) (b : Bool) → s.skip ≡ b → Alike s t u → plan_length (plan_of s u) ≤ text_limit → text_limit < plan_length (plan_of s t) → IsCut s err.PlanTooLarge
text-cut s t u true skips h within l = cuts.too_large skips
text-cut s t u false skips h within l = absurd (omega (arith, within, subst (λ (p : PlanData). text_limit < plan_length p) (plans-alike s t u h skips) l))

module _ (root : List ℕ) (present : List (List ℕ)) (s : Settings) (v : JudgeView) (judge : IsJudge v) (fails : List ℕ → List ℕ → Refusal → Type 0) where
  -- a root has one plan, where no file is skipped
  pub plan-one : (tree : TreeMap) (old : Option TreeMap) (p q : PlanData) → old ≡ Some tree → s.skip ≡ false → IsPlanOf old root present s v fails p
      → IsPlanOf old root present s v fails q → p ≡ q
  plan-one tree old p q here skips x y =
      x.is ∙ plans-alike s x.tally y.tally (tallies-alike s v judge fails tree old here root present x.tally y.tally x.tallied.tallies y.tallied.tallies) skips ∙ sym y.is

  ends-cut : (tree : TreeMap) (old new : Seen) (plan : PlanData) (e : PlanErr) → now_of old ≡ Some tree → AreInOrder present → IsPlanOf (now_of old) root present s v fails plan
      → PlanEnds old new root present s v fails e → IsCut s e
  ends-cut tree old new plan e here order is (ends.many l) = absurd (omega (arith, is.tallied.few, l))
  ends-cut tree old new plan e here order is (ends.at_path {t = t} n few l ts ended) = cuts.stopped (at-stopped s v judge fails tree old new here root present is.tally n e is.tallied.tallies l ended)
  ends-cut tree old new plan e here order is (ends.at_new {t = t} tallied ended) =
      let alike = tallies-alike s v judge fails tree (now_of old) here root present t is.tally tallied.tallies is.tallied.tallies in
      cuts.stopped (new-stopped s v judge fails present (new_paths root is.tally.jobs) e order is.can (subst (λ (js : List JobLine). NewEnds present (new_paths root js) e) alike.jobs ended))
  ends-cut tree old new plan e here order is (ends.at_text {t = t} tallied can l) =
      text-cut s t is.tally s.skip refl (tallies-alike s v judge fails tree (now_of old) here root present t is.tally tallied.tallies is.tallied.tallies)
      (subst (λ (p : PlanData). plan_length p ≤ text_limit) is.is is.within) l
  ends-cut tree old new plan e here order is (ends.at_look made is_plan rose) = cuts.stopped stop.failed
  ends-cut tree old new plan e here order is ends.no_memory = cuts.stopped stop.no_memory

  pub only_cut : (old new : Seen) (e : PlanErr) → PlanEnds old new root present s v fails e → OnlyCut old root present s v fails e
  only_cut old new e ended = record { cut = λ tree plan here order is. ends-cut tree old new plan e here order is ended }
