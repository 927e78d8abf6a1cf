-- Where line tables start anew, by where they started (DWARF 5, 3.1.1).
use Rattle.std.specs.Prelude.{Bool, ◌≡◌, ℕ, ◌^◌, ◌<◌, List, length, get_or, Option}
use Rattle.dw_rewrite.specs.Changes.{start_known}
use Rattle.dw_starts.specs.LineStarts.{Rises}

-- where line tables started, and where they start anew, by their numbers
pub record StartChange : Type 0 where
  pub old : List ℕ
  pub new : List ℕ

-- where the table that started at a place starts anew
abbrev pub known_starts : StartChange → Bool → ℕ → Option ℕ
known_starts s path n = start_known s.old s.new path n

-- the old starts rise, there are as many new ones, and these fit a field of four bytes
pub record StartsFit (s : StartChange) : Type 0 where
  pub rises : Rises s.old
  pub same : length s.new ≡ length s.old
  pub fit : (i : ℕ) → i < length s.new → get_or s.new i 0 < 2 ^ 32
