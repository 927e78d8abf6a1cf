-- A file has one edited file at most, and one outcome.
use Rattle.std.proofs.Common.{Bool, true, false, ◌≡◌, ℕ, List, sym, ap, ◌∙◌, refl}
use Rattle.dw_base.specs.DebugData.{DataReadings}
use Rattle.dw_base.specs.Layout.{is_loaded_kind}
use Rattle.dw_base.specs.LayoutReads.{is_known_kind}
use Rattle.dw_base.specs.Paths.{PathMap}
use Rattle.dw_meaning.specs.FileMeanings.{IsOutput, file_data, output_of}
use Rattle.dw_meaning.proofs.DataOneLaws.{data-one}
use Rattle.dw_sources.proofs.ExcludeLaws.{sources-one}
use Rattle.dbg_split.specs.DebugFile.{debug_file}
use Rattle.dbg_split.specs.StrippedFile.{stripped_file}
use Rattle.job_types.specs.Settings.{Settings}
use Rattle.job_types.specs.declared.outcome.LeftWhy.{LeftWhy}
use Rattle.job_types.specs.declared.outcome.Outcome.{Outcome}
use Rattle.job_types.specs.declared.outcome.Outcome.TheVariants as outcome
use Rattle.dbg_job.specs.EditedFiles.{IsEdited, finished}
use Rattle.dbg_job.specs.Leaving.{IsLeft, IsTaken, begins_as_elf, has_link, has_work}
use Rattle.dbg_job.specs.Leaving.IsLeft.{no_elf, other_type, linked, nothing}
use Rattle.dbg_job.specs.NewIds.{id_bytes}
use Rattle.dbg_job.specs.Outcomes.{IsOutcome}
use Rattle.dbg_job.specs.Outcomes.IsOutcome.{left as is_left, edited as is_edited, split as is_split}
use Rattle.dbg_job.proofs.OutcomeLaws.{reads-begins}

differ : (t : Bool) → t ≡ true → t ≡ false → ⊥
differ true e f = cc
differ false e f = cc

-- an edited file
output-one : (m : PathMap) (b o p : List ℕ) → IsOutput m b o → IsOutput m b p → o ≡ p
output-one m b o p one two =
    one.is ∙ ap (λ (r : DataReadings). output_of m b r) (data-one (file_data b) one.readings two.readings one.reads two.reads) ∙ sym two.is

pub edited-one : (s : Settings) (b o p : List ℕ) → IsEdited s b o → IsEdited s b p → o ≡ p
edited-one s b o p one two = one.is ∙ ap (finished s) (output-one s.maps b one.mapped two.mapped one.output two.output) ∙ sym two.is

-- a reason to be left
left-one : (b : List ℕ) (x y : LeftWhy) → IsLeft b x → IsLeft b y → x ≡ y
left-one b _ _ (no_elf none) (no_elf other) = refl
left-one b _ _ (no_elf none) (other_type reads kind) = absurd (differ (begins_as_elf b) (reads-begins b reads) none)
left-one b _ _ (no_elf none) (linked reads kind link) = absurd (differ (begins_as_elf b) (reads-begins b reads) none)
left-one b _ _ (no_elf none) (nothing reads kind link work) = absurd (differ (begins_as_elf b) (reads-begins b reads) none)
left-one b _ _ (other_type reads kind) (no_elf none) = absurd (differ (begins_as_elf b) (reads-begins b reads) none)
left-one b _ _ (other_type reads kind) (other_type other same) = refl
left-one b _ _ (other_type reads kind) (linked other known link) = absurd (differ (is_known_kind b) known kind)
left-one b _ _ (other_type reads kind) (nothing other known link work) = absurd (differ (is_known_kind b) known kind)
left-one b _ _ (linked reads kind link) (no_elf none) = absurd (differ (begins_as_elf b) (reads-begins b reads) none)
left-one b _ _ (linked reads kind link) (other_type other none) = absurd (differ (is_known_kind b) kind none)
left-one b _ _ (linked reads kind link) (linked other known same) = refl
left-one b _ _ (linked reads kind link) (nothing other known none work) = absurd (differ (has_link b) link none)
left-one b _ _ (nothing reads kind link work) (no_elf none) = absurd (differ (begins_as_elf b) (reads-begins b reads) none)
left-one b _ _ (nothing reads kind link work) (other_type other none) = absurd (differ (is_known_kind b) kind none)
left-one b _ _ (nothing reads kind link work) (linked other known same) = absurd (differ (has_link b) same link)
left-one b _ _ (nothing reads kind link work) (nothing other known none same) = refl

-- a file that is left isn't taken
left-taken : (b : List ℕ) (x : LeftWhy) → IsLeft b x → IsTaken b → ⊥
left-taken b _ (no_elf none) taken = differ (begins_as_elf b) (reads-begins b taken.reads) none
left-taken b _ (other_type reads kind) taken = differ (is_known_kind b) taken.kind kind
left-taken b _ (linked reads kind link) taken = differ (has_link b) link taken.unlinked
left-taken b _ (nothing reads kind link work) taken = differ (has_work b) taken.work work

-- an outcome
pub outcome-one : (s : Settings) (b name : List ℕ) (o p : Outcome) → IsOutcome s b name o → IsOutcome s b name p → o ≡ p
outcome-one s b name _ _ (is_left {why = x} one) (is_left {why = y} two) = ap (λ (w : LeftWhy). outcome.Left w) (left-one b x y one two)
outcome-one s b name _ _ (is_left {why = x} one) (is_edited taken free is sources) = absurd (left-taken b x one taken)
outcome-one s b name _ _ (is_left {why = x} one) (is_split taken loaded is sources) = absurd (left-taken b x one taken)
outcome-one s b name _ _ (is_edited taken free is sources) (is_left {why = y} two) = absurd (left-taken b y two taken)
outcome-one s b name _ _ (is_edited {file = f} {names = ns} taken free is sources) (is_edited {file = g} {names = ks} other same also rest) =
    ap (λ (x : List ℕ). outcome.Edited x ns) (edited-one s b f g is also) ∙ ap (λ (x : List (List ℕ)). outcome.Edited g x) (sources-one (file_data b) s.maps ns ks sources rest)
outcome-one s b name _ _ (is_edited taken free is sources) (is_split other loaded also rest) = absurd (differ (is_loaded_kind b) loaded free)
outcome-one s b name _ _ (is_split taken loaded is sources) (is_left {why = y} two) = absurd (left-taken b y two taken)
outcome-one s b name _ _ (is_split taken loaded is sources) (is_edited other free also rest) = absurd (differ (is_loaded_kind b) loaded free)
outcome-one s b name _ _ (is_split {file = f} {names = ns} taken loaded is sources) (is_split {file = g} {names = ks} other same also rest) =
    ap (λ (x : List ℕ). outcome.Split (stripped_file x name) (debug_file x) (id_bytes x) ns) (edited-one s b f g is also)
    ∙ ap (λ (x : List (List ℕ)). outcome.Split (stripped_file g name) (debug_file g) (id_bytes g) x) (sources-one (file_data b) s.maps ns ks sources rest)

-- so what is given is the only one
pub only-one : (s : Settings) (b name : List ℕ) (o : Outcome) → IsOutcome s b name o → (p : Outcome) → IsOutcome s b name p → p ≡ o
only-one s b name o is p other = outcome-one s b name p o other is
