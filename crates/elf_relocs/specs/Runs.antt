-- Where the bytes of a section come to stand: runs of bytes that stay together, each up to the next.
use Rattle.std.specs.Prelude.{ℕ, ◌+◌, ◌-◌, ◌<◌, nat_le, if◌then◌else◌, List, [], ◌∷◌, length, slice_index_or}
use Rattle.elf_relocs.specs.declared.runs.Run.{Run}

-- where a run begins
abbrev pub run_start : Run → ℕ
run_start r = r.old

abbrev pub no_run : Run
no_run = record { old = 0; new = 0 }

-- runs stand in the order in which they begin, no two at one place
pub record RunsRise (list : List Run) : Type 0 where
  pub rise : (i j : ℕ) → i < j → j < length list → run_start (slice_index_or list i no_run) < run_start (slice_index_or list j no_run)

-- where the byte at a place comes to stand: by the last run that begins there or before it; before all of them it stays
abbrev pub place_from : ℕ → List Run → ℕ → ℕ
place_from now [] place = now
place_from now (r ∷ rs) place = place_from (if nat_le r.old place then r.new + (place - r.old) else now) rs place

abbrev pub place_by : List Run → ℕ → ℕ
place_by runs place = place_from place runs place
