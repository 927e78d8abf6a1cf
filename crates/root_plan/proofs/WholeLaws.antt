-- The plan of a root is one that the work folder may have: its key, jobs and sources are fit, and its report is a text.
use Rattle.std.proofs.Common.{◌≡◌, ℕ, zero, suc, ◌+◌, ◌*◌, ◌/◌, ◌%◌, ◌<◌, ◌≤◌, Bool, true, false, ◌==◌, if◌then◌else◌, List, [], ◌∷◌, ◌++◌, length, slice_index, Option, None, refl, sym, ap, subst, append_assoc, arith}
use Rattle.std.specs.Prelude.{IsTrue, codes, nat_lt}
use Rattle.std.specs.Int.{w32, to_be_bytes, byte_at, bytes_high_first}
use Rattle.std.specs.List.{All, AllByRecursion, flat_map}
use Rattle.std.specs.Fmt.{decimal, digits, digits_onto, digit_glyph}
use Rattle.std.specs.declared.cmp.Ordering.{Ordering}
use Rattle.std.specs.declared.cmp.Ordering.TheVariants.{Less, Equal, Greater}
use Rattle.std.proofs.lemmas.Bool.{ne_eqb}
use Rattle.std.proofs.lemmas.List.{length-append}
use Rattle.std.proofs.lemmas.List.Elements.{All-nil, All-push, recursion_from_All, Contains-append_left, Contains-push}
use Rattle.std.proofs.lemmas.List.Sums.{count_by-le-length}
use Rattle.hex.specs.Hex.{IsBytes}
use Rattle.sha1.specs.Sha1.{sha1, digest_bytes, hash_after, padded_message}
use Rattle.dw_base.specs.declared.fault.Kind.{Kind}
use Rattle.dw_base.specs.declared.fault.Kind.TheVariants as kinds
use Rattle.dw_base.specs.declared.fault.Refusal.{Refusal}
use Rattle.dw_base.specs.Texts.{has_nul, same_text, laid_texts}
use Rattle.dw_base.proofs.TextLaws.{has_nul-append_false}
use Rattle.file_tree.specs.declared.node.Found.{Found}
use Rattle.file_tree.specs.declared.node.Found.TheVariants as found
use Rattle.file_tree.specs.Trees.{TreeMap}
use Rattle.job_types.specs.Kinds.{kind_text}
use Rattle.job_types.specs.Settings.{Settings}
use Rattle.job_types.specs.declared.outcome.Verdict.{Verdict}
use Rattle.job_types.specs.declared.outcome.Verdict.TheVariants.{Left, Edited, Split}
use Rattle.work_texts.specs.declared.plan.JobLine.{JobLine}
use Rattle.work_texts.specs.declared.plan.PlanData.{PlanData}
use Rattle.work_texts.specs.Fields.{Field, plan_fields, job_fields, keyed_fields}
use Rattle.work_texts.specs.Rules.{IsJob, IsPlan, may_have_id, is_job_path, rise_after, text_limit}
use Rattle.work_texts.proofs.RisingTexts.{path_bare}
use Rattle.root_plan.specs.declared.refused.Skipped.{Skipped}
use Rattle.root_paths.specs.Roots.{below_root, may_be_candidate, most_outside}
use Rattle.root_plan.specs.Targets.{debug_name}
use Rattle.root_plan.specs.Reports.{report_of, report_text, skipped_line, count_line, job_counts, other_counts, split_count, edited_count, link_count}
use Rattle.root_plan.specs.Verdicts.{JudgeView, IsJudge, Made, AreSources, id_of}
use Rattle.root_plan.specs.Verdicts.{Made as made}
use Rattle.root_plan.specs.Tallies.{Tally, FileNoted, FoundNoted, Noted, Tallies, placed_by, with_source, with_sources, with_verdict, with_skipped, split_job, edited_job, count_of_id}
use Rattle.root_plan.specs.Tallies.{FileNoted as note, Noted as notes, Tallies as tally}
use Rattle.root_plan.specs.Plans.{IsPlanOf, plan_of, plan_length}
use Rattle.root_plan.specs.Jobs.{AreAsked, ArePlain, HasFile, Serves}
use Rattle.root_plan.proofs.UnionLaws.{sources-rise}
use Rattle.root_plan.proofs.JobLaws.{jobs-rise, jobs-have-files}
use Rattle.root_plan.proofs.SurveyLaws.{few_tallied}

-- ### Digests

byte-low : (k n : ℕ) → byte_at k n < 256
byte-low zero n = omega arith
byte-low (suc k) n = omega arith

bytes-more : (x : ℕ) (xs : List ℕ) → x < 256 → IsBytes xs → IsBytes (x ∷ xs)
bytes-more x xs low rest zero = low
bytes-more x xs low rest (suc i) = rest i

bytes-none : IsBytes []
bytes-none i = omega arith

bytes-append : (xs ys : List ℕ) → IsBytes xs → IsBytes ys → IsBytes (xs ++ ys)
bytes-append [] ys a b = b
bytes-append (x ∷ xs) ys a b = bytes-more x (xs ++ ys) (a 0) (bytes-append xs ys (λ i. a (suc i)) b)

number-bytes : (k n : ℕ) → IsBytes (bytes_high_first k n)
number-bytes zero n = bytes-none
number-bytes (suc k) n = bytes-more (byte_at k n) (bytes_high_first k n) (byte-low k n) (number-bytes k n)

length-number : (k n : ℕ) → length (bytes_high_first k n) ≡ k
length-number zero n = refl
length-number (suc k) n = ap suc (length-number k n)

digest-length : (h : List ℕ) (n : ℕ) → length (digest_bytes h n) ≡ 4 * n
unfolding digest_bytes
digest-length h zero = refl
digest-length h (suc n) =
    omega (arith, length-append (digest_bytes h n) (to_be_bytes w32 (slice_index h n)), length-number 4 (slice_index h n), digest-length h n)

digest-bytes : (h : List ℕ) (n : ℕ) → IsBytes (digest_bytes h n)
unfolding digest_bytes
digest-bytes h zero = bytes-none
digest-bytes h (suc n) = bytes-append (digest_bytes h n) (to_be_bytes w32 (slice_index h n)) (digest-bytes h n) (number-bytes 4 (slice_index h n))

sha1-length : (m : List ℕ) → length (sha1 m) ≡ 20
unfolding sha1
sha1-length m = digest-length (hash_after (padded_message m) (length (padded_message m) / 64)) 5

sha1-bytes : (m : List ℕ) → IsBytes (sha1 m)
unfolding sha1
sha1-bytes m = digest-bytes (hash_after (padded_message m) (length (padded_message m) / 64)) 5

-- ### The report is a text

glyph-by : (b : Bool) (d : ℕ) → ((if b then 48 + d else (if false then 55 + d else 87 + d)) == 0) ≡ false
glyph-by true d = ne_eqb (48 + d) 0 (λ h. omega arith)
glyph-by false d = ne_eqb (87 + d) 0 (λ h. omega arith)

bare-more : (c : ℕ) (cs : List ℕ) → (c == 0) ≡ false → has_nul cs ≡ false → has_nul (c ∷ cs) ≡ false
bare-more c cs e f = rw (e, f) refl

bare-by : (b : Bool) (one more : List ℕ) → has_nul one ≡ false → has_nul more ≡ false → has_nul (if b then one else more) ≡ false
bare-by true one more e f = e
bare-by false one more e f = f

digits-bare : (k n : ℕ) (acc : List ℕ) → has_nul acc ≡ false → has_nul (digits_onto k 10 false n acc) ≡ false
digits-bare zero n acc e = e
digits-bare (suc k) n acc e =
    let more = bare-more (digit_glyph false (n % 10)) acc (glyph-by (nat_lt (n % 10) 10) (n % 10)) e in
    bare-by (n / 10 == 0) (digit_glyph false (n % 10) ∷ acc) (digits_onto k 10 false (n / 10) (digit_glyph false (n % 10) ∷ acc)) more
    (digits-bare k (n / 10) (digit_glyph false (n % 10) ∷ acc) more)

decimal-bare : (n : ℕ) → has_nul (decimal n) ≡ false
unfolding digits
decimal-bare n = digits-bare 64 n [] refl

kind-bare : (k : Kind) → has_nul (kind_text k) ≡ false
unfolding kind_text
kind-bare kinds.Header = refl
kind-bare kinds.Range = refl
kind-bare kinds.Fixed = refl
kind-bare kinds.Compressed = refl
kind-bare kinds.Supplementary = refl
kind-bare kinds.SplitDwarf = refl
kind-bare kinds.UnknownDebug = refl
kind-bare kinds.Twice = refl
kind-bare kinds.Unit = refl
kind-bare kinds.Abbreviation = refl
kind-bare kinds.Form = refl
kind-bare kinds.Entry = refl
kind-bare kinds.StringOffset = refl
kind-bare kinds.StringTable = refl
kind-bare kinds.SharedIndex = refl
kind-bare kinds.Line = refl
kind-bare kinds.Stray = refl
kind-bare kinds.Macro = refl
kind-bare kinds.InlineGrows = refl
kind-bare kinds.Relocation = refl
kind-bare kinds.TooWide = refl
kind-bare kinds.BuildId = refl
kind-bare kinds.NameTable = refl
kind-bare kinds.TooLarge = refl
kind-bare kinds.DefinedPath = refl
kind-bare kinds.FileType = refl

-- a text, a number and what follows
pub part-bare : (t : List ℕ) (n : ℕ) (rest : List ℕ) → has_nul t ≡ false → has_nul rest ≡ false → has_nul (t ++ (decimal n ++ rest)) ≡ false
part-bare t n rest e f = has_nul-append_false t (decimal n ++ rest) e (has_nul-append_false (decimal n) rest (decimal-bare n) f)

jobs-bare : (two one : ℕ) → has_nul (job_counts two one) ≡ false
unfolding job_counts
jobs-bare two one = part-bare (codes "split ") two (codes ", edited " ++ decimal one) refl (has_nul-append_false (codes ", edited ") (decimal one) refl (decimal-bare one))

others-bare : (kept skipped links sources : ℕ) → has_nul (other_counts kept skipped links sources) ≡ false
unfolding other_counts
others-bare kept skipped links sources =
    part-bare (codes ", left ") kept (codes ", skipped " ++ (decimal skipped ++ (codes ", links " ++ (decimal links ++ (codes ", sources " ++ (decimal sources ++ codes "\n")))))) refl
    (part-bare (codes ", skipped ") skipped (codes ", links " ++ (decimal links ++ (codes ", sources " ++ (decimal sources ++ codes "\n")))) refl
    (part-bare (codes ", links ") links (codes ", sources " ++ (decimal sources ++ codes "\n")) refl (part-bare (codes ", sources ") sources (codes "\n") refl refl)))

line-bare : (s : Skipped) → has_nul s.path ≡ false → has_nul (skipped_line s) ≡ false
unfolding skipped_line
line-bare s e =
    let place = part-bare (codes " section ") s.refusal.section (codes " offset " ++ (decimal s.refusal.offset ++ codes "\n")) refl (part-bare (codes " offset ") s.refusal.offset (codes "\n") refl refl) in
    let why = has_nul-append_false (kind_text s.refusal.kind) (codes " section " ++ (decimal s.refusal.section ++ (codes " offset " ++ (decimal s.refusal.offset ++ codes "\n")))) (kind-bare s.refusal.kind) place in
    let rest = has_nul-append_false (codes ": ") (kind_text s.refusal.kind ++ (codes " section " ++ (decimal s.refusal.section ++ (codes " offset " ++ (decimal s.refusal.offset ++ codes "\n"))))) refl why in
    has_nul-append_false (codes "skipped ") (s.path ++ (codes ": " ++ (kind_text s.refusal.kind ++ (codes " section " ++ (decimal s.refusal.section ++ (codes " offset " ++ (decimal s.refusal.offset ++ codes "\n"))))))) refl
    (has_nul-append_false s.path (codes ": " ++ (kind_text s.refusal.kind ++ (codes " section " ++ (decimal s.refusal.section ++ (codes " offset " ++ (decimal s.refusal.offset ++ codes "\n")))))) e rest)

abbrev IsBare : Skipped → Type 0
IsBare s = has_nul s.path ≡ false

lines-bare : (ss : List Skipped) → AllByRecursion IsBare ss → has_nul (flat_map skipped_line ss) ≡ false
lines-bare [] e = refl
lines-bare (s ∷ ss) e = has_nul-append_false (skipped_line s) (flat_map skipped_line ss) (line-bare s e.0) (lines-bare ss e.1)

report-bare : (t : Tally) → AllByRecursion IsBare t.skipped → has_nul (report_of t) ≡ false
unfolding report_text
report-bare t e =
    has_nul-append_false (count_line t.jobs t.left (length t.skipped) (length t.sources)) (flat_map skipped_line t.skipped)
    (has_nul-append_false (job_counts (split_count t.jobs) (edited_count t.jobs)) (other_counts t.left (length t.skipped) (link_count t.jobs) (length t.sources))
    (jobs-bare (split_count t.jobs) (edited_count t.jobs)) (others-bare t.left (length t.skipped) (link_count t.jobs) (length t.sources)))
    (lines-bare t.skipped e)

-- ### A text is as long as its fields are many

laid-long : (fs : List Field) → length fs ≤ length (laid_texts fs)
laid-long [] = omega arith
laid-long (f ∷ fs) = omega (arith, laid-long fs, length-append f (0 ∷ laid_texts fs))

jobs-long : (js : List JobLine) → length js ≤ length (flat_map job_fields js)
jobs-long [] = omega arith
jobs-long (j ∷ js) = omega (arith, jobs-long js, length-append (job_fields j) (flat_map job_fields js))

first-long : (front a mid b end : List Field) → length a ≤ length (front ++ (a ++ (mid ++ (b ++ end))))
first-long front a mid b end = omega (arith, length-append front (a ++ (mid ++ (b ++ end))), length-append a (mid ++ (b ++ end)))

second-long : (front a mid b end : List Field) → length b ≤ length (front ++ (a ++ (mid ++ (b ++ end))))
second-long front a mid b end =
    omega (arith, length-append front (a ++ (mid ++ (b ++ end))), length-append a (mid ++ (b ++ end)), length-append mid (b ++ end), length-append b end)

abbrev front_of : PlanData → List Field
front_of p = codes "dbgplan 2" ∷ (keyed_fields false p.key ++ p.report ∷ decimal (length p.jobs) ∷ [])

abbrev mid_of : PlanData → List Field
mid_of p = decimal (length p.sources) ∷ []

abbrev end_of : List Field
end_of = codes "end" ∷ []

fields-parts : (p : PlanData) → front_of p ++ (flat_map job_fields p.jobs ++ (mid_of p ++ (p.sources ++ end_of))) ≡ plan_fields p
fields-parts p =
    ap (λ (fs : List Field). codes "dbgplan 2" ∷ fs) (append_assoc (keyed_fields false p.key) (p.report ∷ decimal (length p.jobs) ∷ []) (flat_map job_fields p.jobs ++ (mid_of p ++ (p.sources ++ end_of))))

pub fewer-jobs : (p : PlanData) → plan_length p ≤ text_limit → length p.jobs ≤ text_limit
fewer-jobs p within =
    let some : length (flat_map job_fields p.jobs) ≤ length (plan_fields p) =
    subst (λ (fs : List Field). length (flat_map job_fields p.jobs) ≤ length fs) (fields-parts p) (first-long (front_of p) (flat_map job_fields p.jobs) (mid_of p) p.sources end_of) in
    omega (arith, within, jobs-long p.jobs, some, laid-long (plan_fields p))

pub fewer-sources : (p : PlanData) → plan_length p ≤ text_limit → length p.sources ≤ text_limit
fewer-sources p within =
    let some : length p.sources ≤ length (plan_fields p) =
    subst (λ (fs : List Field). length p.sources ≤ length fs) (fields-parts p) (second-long (front_of p) (flat_map job_fields p.jobs) (mid_of p) p.sources end_of) in
    omega (arith, within, some, laid-long (plan_fields p))

-- ### Sources

abbrev IsName : List ℕ → Type 0
IsName name = has_nul name ≡ false

placed-plain : (o : Ordering) (name x : List ℕ) (xs rest : List (List ℕ)) → IsName name → AllByRecursion IsName (x ∷ xs) → AllByRecursion IsName rest
    → AllByRecursion IsName (placed_by o name x xs rest)
placed-plain Less name x xs rest new old more = (new, old)
placed-plain Equal name x xs rest new old more = old
placed-plain Greater name x xs rest new old more = (old.0, more)

source-plain : (xs : List (List ℕ)) (name : List ℕ) → IsName name → AllByRecursion IsName xs → AllByRecursion IsName (with_source xs name)
source-plain [] name new old = (new, tt)
source-plain (x ∷ xs) name new old = placed-plain _ name x xs (with_source xs name) new old (source-plain xs name new old.1)

sources-plain : (names xs : List (List ℕ)) → AllByRecursion IsName names → AllByRecursion IsName xs → AllByRecursion IsName (with_sources xs names)
sources-plain [] xs new old = old
sources-plain (name ∷ names) xs new old = sources-plain names (with_source xs name) new.1 (source-plain xs name new.0 old)

-- ### Jobs

made-names : (v : JudgeView) (bytes name : List ℕ) (names : List (List ℕ)) → Made v bytes name (Edited names) → AreSources names
made-names v bytes name names (made.made_one is so) = so

-- what is known of a file that is split
record SplitFacts (build_id : List ℕ) (names : List (List ℕ)) : Type 0 where
  id : IsTrue (may_have_id true build_id)
  id_bytes : IsBytes build_id
  sources : AreSources names

made-pair : (v : JudgeView) (bytes name : List ℕ) (id : Option (List ℕ)) (names : List (List ℕ)) → Made v bytes name (Split id names) → SplitFacts (id_of id) names
made-pair v bytes name id names (made.made_two is pair may all so) = record { id = may; id_bytes = all; sources = so }

number-by : (b : Bool) (n : ℕ) → n ≤ 4294967295 → (if b then 0 else n) ≤ (if b then 0 else 4294967295)
number-by true n low = omega arith
number-by false n low = low

split-fits : (jobs : List JobLine) (path bytes id : List ℕ) → IsTrue (is_job_path path) → IsTrue (may_have_id true id) → IsBytes id → length jobs ≤ 4294967295
    → IsJob (split_job jobs path bytes id)
split-fits jobs path bytes id plain may all few = record {
  path = plain;
  digest = sha1-length bytes;
  digest_bytes = sha1-bytes bytes;
  id = may;
  id_bytes = all;
  number =
      let low = count_by-le-length (λ (job : JobLine). same_text id job.id) jobs in
      number-by (length id == 0) (count_of_id jobs id) (omega (arith, low, few));
}

pub edited-fits : (path bytes : List ℕ) → IsTrue (is_job_path path) → IsJob (edited_job path bytes)
edited-fits path bytes plain =
    record { path = plain; digest = sha1-length bytes; digest_bytes = sha1-bytes bytes; id = refl; id_bytes = bytes-none; number = omega arith }

-- ### The tally

-- its sources rise and have no NUL, nor have skipped paths, and its jobs are fit as long as they aren't too many
record IsFit (t : Tally) : Type 0 where
  rise : IsTrue (rise_after None t.sources)
  plain : AllByRecursion IsName t.sources
  bare : All IsBare t.skipped
  jobs : length t.jobs ≤ 4294967295 → All IsJob t.jobs

abbrev AreFit : List JobLine → Type 0
AreFit jobs = length jobs ≤ 4294967295 → All IsJob jobs

fit-push : (jobs : List JobLine) (job : JobLine) → AreFit jobs → (length jobs ≤ 4294967295 → IsJob job) → AreFit (jobs ++ job ∷ [])
fit-push jobs job old new few =
    let fewer : length jobs ≤ 4294967295 = omega (arith, few, length-append jobs (job ∷ [])) in
    All-push IsJob jobs job (old fewer) (new fewer)

fit-verdict : (v : JudgeView) (path bytes : List ℕ) (t : Tally) (verdict : Verdict) → IsTrue (is_job_path path) → Made v bytes (debug_name path) verdict → IsFit t
    → IsFit (with_verdict t path bytes verdict)
fit-verdict v path bytes t (Left why) plain m fit = record { rise = fit.rise; plain = fit.plain; bare = fit.bare; jobs = fit.jobs }
fit-verdict v path bytes t (Edited names) plain m fit =
    let so = made-names v bytes (debug_name path) names m in record {
      rise = sources-rise names t.sources fit.rise;
      plain = sources-plain names t.sources so.plain fit.plain;
      bare = fit.bare;
      jobs = fit-push t.jobs (edited_job path bytes) fit.jobs (λ few. edited-fits path bytes plain);
    }
fit-verdict v path bytes t (Split id names) plain m fit =
    let so = made-pair v bytes (debug_name path) id names m in record {
      rise = sources-rise names t.sources fit.rise;
      plain = sources-plain names t.sources so.sources.plain fit.plain;
      bare = fit.bare;
      jobs = fit-push t.jobs (split_job t.jobs path bytes (id_of id)) fit.jobs (λ few. split-fits t.jobs path bytes (id_of id) plain so.id so.id_bytes few);
    }

fit-skipped : (path : List ℕ) (t : Tally) (r : Refusal) → IsTrue (is_job_path path) → IsFit t → IsFit (with_skipped t path r)
fit-skipped path t r plain fit = record {
  rise = fit.rise;
  plain = fit.plain;
  bare = All-push IsBare t.skipped (record { path = path; refusal = r }) fit.bare (path_bare path plain);
  jobs = fit.jobs;
}

module _ (old : Option TreeMap) (root : List ℕ) (s : Settings) (v : JudgeView) (fails : List ℕ → List ℕ → Refusal → Type 0) (judge : IsJudge v) where
  fit-file : (path bytes : List ℕ) (t u : Tally) → IsTrue (is_job_path path) → FileNoted s v fails path bytes (debug_name path) t u → IsFit t → IsFit u
  fit-file path bytes t u plain (note.judged {verdict} said) fit = fit-verdict v path bytes t verdict plain (judge.makes bytes (debug_name path) verdict said) fit
  fit-file path bytes t u plain (note.skipped {r} unsaid f skip) fit = fit-skipped path t r plain fit

  fit-found : (path below : List ℕ) (what : Found) (t u : Tally) → IsTrue (is_job_path below) → FoundNoted s v fails path below what t u → IsFit t → IsFit u
  fit-found path below found.Absent t u plain n fit = subst IsFit (sym n) fit
  fit-found path below found.Folder t u plain n fit = subst IsFit (sym n) fit
  fit-found path below (found.File bytes mode) t u plain n fit = fit-file below bytes t u plain n.noted fit
  fit-found path below (found.Link target) t u plain n fit = subst IsFit (sym n) fit
  fit-found path below (found.TooLarge size) t u plain n fit = absurd n

  fit-path : (path : List ℕ) (t u : Tally) → (may_be_candidate root path ≡ true → IsTrue (is_job_path (below_root root path))) → Noted old root s v fails path t u → IsFit t → IsFit u
  fit-path path t u plain (notes.apart other) fit = fit
  fit-path path t u plain (notes.there {what} may stood n) fit = fit-found path (below_root root path) what t u (plain may) n fit

  fit-tally : (paths : List (List ℕ)) (t : Tally) → Tallies old root s v fails paths t → ArePlain root paths → IsFit t
  fit-tally paths t tally.none plain = record { rise = refl; plain = tt; bare = All-nil IsBare; jobs = λ few. All-nil IsJob }
  fit-tally all u (tally.more {paths} {path} {t} ts n) plain =
      fit-path path t u (λ may. plain.plain path (Contains-push paths path) may) n
      (fit-tally paths t ts (record { plain = λ p at may. plain.plain p (Contains-append_left paths (path ∷ []) p at) may }))

-- ### The plan

module _ (old : Option TreeMap) (root : List ℕ) (s : Settings) (v : JudgeView) (fails : List ℕ → List ℕ → Refusal → Type 0) where
  whole : (present : List (List ℕ)) (t : Tally) → AreAsked root present s v → Tallies old root s v fails present t → plan_length (plan_of s t) ≤ text_limit → IsPlan (plan_of s t)
  whole present t asked ts within =
      let fit = fit-tally old root s v fails asked.judge present t ts asked.paths in
      let jobs : length t.jobs ≤ text_limit = fewer-jobs (plan_of s t) within in
      let sources : length t.sources ≤ text_limit = fewer-sources (plan_of s t) within in
      record {
        key = record { map = asked.map; seed = asked.key.seed; low = asked.limit.least; high = asked.limit.greatest };
        report = report-bare t (recursion_from_All IsBare t.skipped fit.bare);
        job_count = omega (arith, jobs);
        jobs = recursion_from_All IsJob t.jobs (fit.jobs (omega (arith, jobs)));
        job_order = (jobs-rise root old s v fails present t ts asked.order).rise;
        source_count = omega (arith, sources);
        sources = fit.plain;
        source_order = fit.rise;
      }

  -- the plan of a root is one that the work folder may have
  pub plan-fits : (present : List (List ℕ)) (plan : PlanData) → AreAsked root present s v → IsPlanOf old root present s v fails plan → IsPlan plan
  plan-fits present plan asked is =
      subst IsPlan (sym is.is) (whole present is.tally asked is.tallied.tallies (subst (λ (p : PlanData). plan_length p ≤ text_limit) is.is is.within))

  -- and each of its jobs has its file
  pub plan_serves : (present : List (List ℕ)) (plan : PlanData) → IsPlanOf old root present s v fails plan → Serves old root present s v plan
  plan_serves present plan is =
      let few : length is.tally.jobs ≤ most_outside = omega (arith, few_tallied old root s v fails present is.tally is.tallied.tallies, is.tallied.few) in
      record {
        few = subst (λ (p : PlanData). length p.jobs ≤ most_outside) (sym is.is) few;
        files = subst (λ (p : PlanData). All (HasFile old root s v) p.jobs) (sym is.is) (jobs-have-files old root s v fails present is.tally is.tallied.tallies);
        fits = λ asked. plan-fits present plan asked is;
      }

pub ruleset serve_rules = (plan_serves)
