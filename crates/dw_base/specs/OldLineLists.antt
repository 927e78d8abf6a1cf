-- The lists of directories and files before version 5 (DWARF 4, 6.2.4): each ends with an empty text. A state is what was
-- read so far, and the place behind it.
use Rattle.std.specs.Prelude.{ℕ, ◌+◌, ◌==◌, if◌then◌else◌, List, [], ◌∷◌, ◌++◌, Option, Some, option_and_then, option_map}
use Rattle.dw_base.specs.declared.line_tables.TextPlace.{TextPlace}
use Rattle.dw_base.specs.LineTexts.{inline_text, file_numbers}
use Rattle.dw_base.specs.Walks.{Step, goes, ends}
use Rattle.dw_base.specs.declared.line_tables.FilePlace.{FilePlace}

-- behind a text: the list is over where it is empty, else it is a directory
abbrev pub dir_step : List TextPlace × ℕ → TextPlace → Step (List TextPlace × ℕ) (List TextPlace × ℕ)
dir_step s text =
    if text.len == 0 then ends (s.0, s.1 + 1) else goes (s.0 ++ text ∷ [], s.1 + text.len + 1)

-- a step through the directories
unfoldable pub next_dir : ℕ → List ℕ → List TextPlace × ℕ → Option (Step (List TextPlace × ℕ) (List TextPlace × ℕ))
next_dir section table s = option_map (dir_step s) (inline_text section table s.1)

-- behind a text: the list is over where it is empty, else it is a file's name, and its numbers follow
abbrev pub file_step : List ℕ → List FilePlace × ℕ → TextPlace → Option (Step (List FilePlace × ℕ) (List FilePlace × ℕ))
file_step table s text =
    if text.len == 0 then Some (ends (s.0, s.1 + 1))
    else option_map (λ n. goes (s.0 ++ record { text = text; dir = n.0 } ∷ [], n.1)) (file_numbers table (s.1 + text.len + 1))

-- a step through the files
unfoldable pub next_file : ℕ → List ℕ → List FilePlace × ℕ → Option (Step (List FilePlace × ℕ) (List FilePlace × ℕ))
next_file section table s = option_and_then (file_step table s) (inline_text section table s.1)
