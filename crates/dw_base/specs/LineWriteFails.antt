-- Why the program of a line table can't be written with mapped paths: as DefinedPath, at the opcode, where it defines a file whose path the map
-- changes (DWARF 4, 6.2.5.3): this project's profile, since programs are copied. And how long a table may be, and where its length stands
-- (DWARF 5, 7.4).
use Rattle.std.specs.Prelude.{Bool, true, false, not, ◌≡◌, ℕ, ◌+◌, ◌<◌, ◌^◌, List, [], ◌∷◌, length, Option, Some, None, ⊤}
use Rattle.dw_base.specs.Lebs.{first_reserved}
use Rattle.dw_base.specs.Paths.{PathMap, mapped_path}
use Rattle.dw_base.specs.Refusals.{at}
use Rattle.dw_base.specs.Texts.{same_text}
use Rattle.dw_base.specs.declared.fault.Kind.TheVariants.{DefinedPath}
use Rattle.dw_base.specs.declared.fault.Refusal.{Refusal}
use Rattle.dw_base.specs.declared.shared.Width.{Width}
use Rattle.dw_base.specs.declared.shared.Width.TheVariants.{W32, W64}
use Rattle.dw_base.specs.LinePrograms.{next_opcode, opcode_at}
use Rattle.dw_base.specs.Walks.{Walks}
use Rattle.dw_base.specs.WrittenLines.{bytes_at}
use Rattle.dw_base.specs.declared.line_tables.LineHeader.{LineHeader}
use Rattle.dw_base.specs.declared.line_tables.Opcode.{Opcode}
use Rattle.dw_base.specs.declared.line_tables.FilePlace.{FilePlace}

-- a map changes a path, and the path of a file, where there is one
abbrev pub changes_path : PathMap → List ℕ → Bool
changes_path m path = not (same_text (mapped_path m path) path)

abbrev pub changes_file : PathMap → List ℕ → Option FilePlace → Bool
changes_file m table None = false
changes_file m table (Some f) = changes_path m (bytes_at table f.text.at f.text.len)

-- a program defines a file whose path the map changes: the opcode that does stands at a place which single opcodes lead to
pub data ProgramFails (m : PathMap) (section : ℕ) (h : LineHeader) (table : List ℕ) : Refusal → Type 0 where
  defined : (files : List FilePlace) (place : ℕ) (o : Opcode) → Walks (next_opcode section h table) ([], h.program) (files, place)
      → place < length table → opcode_at section h table place ≡ Some o → changes_file m table o.file ≡ true
      → ProgramFails m section h table (at DefinedPath section place)

-- below which number the length of a table lies (DWARF 5, 7.4), and where it stands
abbrev pub length_limit : Width → ℕ
length_limit W32 = first_reserved
length_limit W64 = 256 ^ 8

abbrev pub length_field : ℕ → Width → ℕ
length_field start W32 = start
length_field start W64 = start + 4

-- each path of a defined file stays when it is mapped
abbrev pub DefinedStay : PathMap → List ℕ → List FilePlace → Type 0
DefinedStay m table [] = ⊤
DefinedStay m table (f ∷ fs) = (changes_path m (bytes_at table f.text.at f.text.len) ≡ false) × DefinedStay m table fs
