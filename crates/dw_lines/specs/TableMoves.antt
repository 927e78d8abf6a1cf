-- Where the bytes of a line table come to stand in the one that an edit makes of it, and which of its fields say other offsets: what the records of
-- its section's relocations are moved by (DWARF 5, 6.2.4; gABI ch. 4 "Relocation").
use Rattle.std.specs.Prelude.{ℕ, zero, suc, ◌+◌, ◌-◌, ◌≤◌, List, [], ◌∷◌, ◌++◌, length, Option}
use Rattle.dw_base.specs.LineSources.{LineSource}
use Rattle.dw_base.specs.LineTables.{LineTable}
use Rattle.dw_base.specs.Paths.{PathMap}
use Rattle.dw_base.specs.WrittenLines.{behind_lengths, header_length_place, length_size}
use Rattle.dw_base.specs.declared.line_tables.LineHeader.{LineHeader}
use Rattle.dw_base.specs.declared.line_tables.LineText.{LineText}
use Rattle.dw_lines.specs.declared.moves.NewFieldOffset.{NewFieldOffset}
use Rattle.dw_meaning.specs.LineStretches.{PlacedStretch, Stretch, kept_stretch, offset_stretch, other_stretch, stretch_size}
use Rattle.dw_meaning.specs.TextLineCells.{texts_stretches}
use Rattle.elf_relocs.specs.declared.runs.Run.{Run}

-- the run of so many bytes at a place, which come to stand at another
abbrev pub kept_run : ℕ → ℕ → ℕ → List Run
kept_run old new zero = []
kept_run old new (suc n) = record { old = old; new = new } ∷ []

-- that of a stretch; bytes in whose place others come have none
abbrev pub stretch_run : ℕ → ℕ → Stretch → List Run
stretch_run old new (kept_stretch n) = kept_run old new n
stretch_run old new (other_stretch n bytes) = []
stretch_run old new (offset_stretch n offset) = kept_run old new n

-- how many bytes it becomes
abbrev pub stretch_new : Stretch → ℕ
stretch_new (kept_stretch n) = n
stretch_new (other_stretch n bytes) = length bytes
stretch_new (offset_stretch n offset) = n

-- the runs of stretches one behind another, and where the new bytes end
abbrev pub runs_from : ℕ → ℕ → List Stretch → List Run
runs_from old new [] = []
runs_from old new (x ∷ xs) = stretch_run old new x ++ runs_from (old + stretch_size x) (new + stretch_new x) xs

abbrev pub new_end : ℕ → List Stretch → ℕ
new_end new [] = new
new_end new (x ∷ xs) = new_end (new + stretch_new x) xs

-- the fields that say other offsets
abbrev pub stretch_offset : ℕ → Stretch → List NewFieldOffset
stretch_offset at (kept_stretch n) = []
stretch_offset at (other_stretch n bytes) = []
stretch_offset at (offset_stretch zero offset) = []
stretch_offset at (offset_stretch (suc n) offset) = record { at = at; size = suc n; offset = offset } ∷ []

abbrev pub offsets_from : ℕ → List Stretch → List NewFieldOffset
offsets_from at [] = []
offsets_from at (x ∷ xs) = stretch_offset at x ++ offsets_from (at + stretch_size x) xs

-- stretches at places that stand in their order, from a place up to another
abbrev pub InOrder : ℕ → ℕ → List PlacedStretch → Type 0
InOrder from end [] = from ≤ end
InOrder from end (c ∷ cs) = (from ≤ c.at) × InOrder (c.at + stretch_size c.stretch) end cs

-- so do the texts of a table
abbrev pub TextsInOrder : LineSource → PathMap → (LineText → Option ℕ) → LineTable → Type 0
TextsInOrder g m places t = InOrder (behind_lengths t.start t.width t.version) t.program (texts_stretches g m places t.width t.texts)

-- behind a stretch at a place, what stands before it being kept: where the next bytes stand, and where they come to stand
abbrev pub behind_placed : Run → PlacedStretch → Run
behind_placed s c = record { old = c.at + stretch_size c.stretch; new = s.new + (c.at - s.old) + stretch_new c.stretch }

abbrev pub passed : Run → List PlacedStretch → Run
passed s [] = s
passed s (c ∷ cs) = passed (behind_placed s c) cs

-- the runs up to there
abbrev pub placed_runs : Run → PlacedStretch → List Run
placed_runs s c = kept_run s.old s.new (c.at - s.old) ++ stretch_run c.at (s.new + (c.at - s.old)) c.stretch

abbrev pub passed_runs : Run → List PlacedStretch → List Run
passed_runs s [] = []
passed_runs s (c ∷ cs) = placed_runs s c ++ passed_runs (behind_placed s c) cs

-- and the fields that say other offsets
abbrev pub placed_offsets : List PlacedStretch → List NewFieldOffset
placed_offsets [] = []
placed_offsets (c ∷ cs) = stretch_offset c.at c.stretch ++ placed_offsets cs

-- those of the table of a header, whose new bytes begin at a place: its first bytes behind the lengths
abbrev pub header_start : LineHeader → ℕ → Run
header_start h new = record {
  old = behind_lengths h.start h.width h.version;
  new = new + (behind_lengths h.start h.width h.version - h.start);
}

-- the runs from a place on up to the program, and its own
abbrev pub last_runs : LineHeader → Run → List Run
last_runs h s = kept_run s.old s.new (h.program - s.old) ++ kept_run h.program (s.new + (h.program - s.old)) (h.end - h.program)

-- and all: what stands between the lengths, the texts with what stands before each, and the rest
abbrev pub header_runs : LineHeader → ℕ → List PlacedStretch → List Run
header_runs h new cs =
    kept_run (h.start + length_size h.width) (new + length_size h.width) (header_length_place h.start h.width h.version - (h.start + length_size h.width))
    ++ (passed_runs (header_start h new) cs ++ last_runs h (passed (header_start h new) cs))
