-- What the fields of the texts of the work folder may say. This project's profile.
use Rattle.std.specs.Prelude.{ℕ, ◌≡◌, ◌≤◌, ◌<◌, ◌^◌, ◌==◌, ◌&&◌, ◌||◌, Bool, true, false, nat_le, if◌then◌else◌, List, [], ◌∷◌, length, map, IsTrue, Option, Some, None}
use Rattle.std.specs.List.{AllByRecursion}
use Rattle.std.specs.Str.{is_utf8}
use Rattle.std.specs.Ordering.{nat_cmp, is_lt}
use Rattle.std.specs.Cmp.Lexicographic.{slice_cmp}
use Rattle.hex.specs.Hex.{IsBytes}
use Rattle.dw_base.specs.Paths.{IsPathMap}
use Rattle.dw_base.specs.Texts.{has_nul}
use Rattle.dw_paths.specs.PlainPaths.{is_plain}
use Rattle.work_texts.specs.declared.key.RunKey.{RunKey}
use Rattle.work_texts.specs.declared.plan.JobLine.{JobLine}
use Rattle.work_texts.specs.declared.plan.PlanData.{PlanData}
use Rattle.work_texts.specs.declared.plan.VersionedPlan.{VersionedPlan}
use Rattle.work_texts.specs.declared.plan.FinishedData.{FinishedData}
use Rattle.work_texts.specs.Fields.{plan_text_fields, finished_fields, text_of}

-- the longest text, in bytes, and the longest file that a run may be told to read
abbrev pub text_limit : ℕ
text_limit = 2 ^ 30

-- a key: its prefix map is one, the seed is a text, and max-file is within its limit
pub record IsKey (k : RunKey) : Type 0 where
  pub map : IsPathMap k.maps
  pub seed : has_nul k.seed ≡ false
  pub low : 1 ≤ k.max_file
  pub high : k.max_file ≤ text_limit

-- a key that a text of this version can say: an old one says a map of one pair alone
pub record IsKeyIn (old : Bool) (k : RunKey) : Type 0 where
  pub key : IsKey k
  pub one : old ≡ true → length k.maps.pairs ≡ 1

-- an id is empty or has 2 to 20 bytes; only a file that is split has one that isn't empty
abbrev pub may_have_id : Bool → List ℕ → Bool
may_have_id split id = length id == 0 || (split && nat_le 2 (length id) && nat_le (length id) 20)

-- the highest number of a job with this id: only one with an id has a number above 0
abbrev pub number_limit : List ℕ → ℕ
number_limit id = if length id == 0 then 0 else 4294967295

-- a path of a job is plain and UTF-8
abbrev pub is_job_path : List ℕ → Bool
is_job_path path = is_plain path && is_utf8 path

pub record IsJob (j : JobLine) : Type 0 where
  pub path : IsTrue (is_job_path j.path)
  pub digest : length j.digest ≡ 20
  pub digest_bytes : IsBytes j.digest
  pub id : IsTrue (may_have_id j.split j.id)
  pub id_bytes : IsBytes j.id
  pub number : j.number ≤ number_limit j.id

-- a text may come behind the last one, if there is one: it is greater in byte order
abbrev pub comes_after : Option (List ℕ) → List ℕ → Bool
comes_after None t = true
comes_after (Some last) t = is_lt (slice_cmp nat_cmp last t)

-- the texts rise in byte order, and none stands twice; a last text may stand before them
abbrev pub rise_after : Option (List ℕ) → List (List ℕ) → Bool
rise_after last [] = true
rise_after last (t ∷ ts) = comes_after last t && rise_after (Some t) ts

abbrev pub path_of : JobLine → List ℕ
path_of j = j.path

pub record IsPlan (p : PlanData) : Type 0 where
  pub key : IsKey p.key
  pub report : has_nul p.report ≡ false
  pub job_count : length p.jobs < 2 ^ 32
  pub jobs : AllByRecursion IsJob p.jobs
  pub job_order : IsTrue (rise_after None (map path_of p.jobs))
  pub source_count : length p.sources < 2 ^ 32
  pub sources : AllByRecursion (λ s. has_nul s ≡ false) p.sources
  pub source_order : IsTrue (rise_after None p.sources)

-- a plan that a text of its version can say
pub record IsVersionedPlan (v : VersionedPlan) : Type 0 where
  pub plan : IsPlan v.plan
  pub one : v.old ≡ true → length v.plan.key.maps.pairs ≡ 1

pub record IsFinished (d : FinishedData) : Type 0 where
  pub key : IsKey d.key
  pub one : d.old ≡ true → length d.key.maps.pairs ≡ 1
  pub report : has_nul d.report ≡ false

-- the bytes are the text of this plan, of one of the two versions
pub record IsPlanText (bytes : List ℕ) (p : PlanData) : Type 0 where
  pub old : Bool
  pub plan : IsPlan p
  pub one : old ≡ true → length p.key.maps.pairs ≡ 1
  pub text : bytes ≡ text_of (plan_text_fields (record { old = old; plan = p }))
  pub within : length bytes ≤ text_limit

-- the bytes are the text of this end of a run
pub record IsFinishedText (bytes : List ℕ) (d : FinishedData) : Type 0 where
  pub finished : IsFinished d
  pub text : bytes ≡ text_of (finished_fields d)
  pub within : length bytes ≤ text_limit
