-- Parts that are given, in the words of the layout.
use Rattle.std.specs.Prelude.{◌≡◌, ℕ, ◌<◌, ◌≤◌, ◌&&◌, not, List, [], length, map, slice_index_or}
use Rattle.dw_base.specs.Elf.{ehdr_size, is_empty_kind}
use Rattle.dw_base.specs.Layout.{Part}
use Rattle.dw_base.specs.declared.elf_numbers.TheConstants.{SHT_NULL}
use Rattle.dw_base.specs.declared.shared.Class.{Class}
use Rattle.elf_layout.specs.Given.{own_or, part}
use Rattle.elf_layout.specs.declared.part.Part.{Part as GivenPart}

-- a part: it is laid out anew where it is neither kept nor of type NULL or NOBITS
abbrev pub part_given : GivenPart → Part
part_given p = part p.head (not p.kept && not (is_empty_kind p.head)) (own_or p.body [])

-- parts, in order
abbrev pub parts_given : List GivenPart → List Part
parts_given ps = map part_given ps

-- the front has a whole file header, and there is a part 0, which is of type NULL
pub record ArePartsFor (class : Class) (front : List ℕ) (parts : List GivenPart) : Type 0 where
  pub header : ehdr_size class ≤ length front
  pub some : 0 < length parts
  pub null : (d : GivenPart) → (slice_index_or parts 0 d).head.kind ≡ SHT_NULL
