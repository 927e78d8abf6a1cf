-- What a sink in memory is set to do: its room, and from which call on it fails.
use Rattle.std.specs.Prelude.{ℕ, ◌+◌, Bool, true, List, length, nat_lt, nat_le, ◌&&◌}
use Rattle.std.specs.Prelude.{Option, Some, None}
use Rattle.file_tree.specs.declared.mem_sink.MemSink.{MemSink}
use Rattle.file_tree.specs.Heard.{Heard}

pub record Limits : Type 0 where
  pub room : ℕ
  pub fail_from : Option ℕ
  pub calls : ℕ

abbrev pub limits_of : MemSink → Limits
limits_of s = record { room = s.room; fail_from = s.fail_from; calls = s.calls }

abbrev pub heard_of : MemSink → Heard
heard_of s = record { bytes = Some s.bytes.items; faults = s.faults }

abbrev pub is_before : ℕ → Option ℕ → Bool
is_before n None = true
is_before n (Some first) = nat_lt n first

-- whether the next write takes the piece: its number is below the first that fails, and there is room
abbrev pub takes : MemSink → List ℕ → Bool
takes s piece = is_before s.calls s.fail_from && nat_le (length s.bytes.items + length piece) s.room
