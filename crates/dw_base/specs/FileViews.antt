-- The view of a file: the sections from which its debug data are read, by number, each with its name, its contents and the
-- relocations that begin in it (gABI ch. 4 "Sections", "Relocation"), and what a field of one reads as.
use Rattle.std.specs.Prelude.{Bool, ℕ, zero, suc, ◌==◌, ◌&&◌, not, if◌then◌else◌, List, [], ◌∷◌, drop, Option, Some, None, is_some, Result}
use Rattle.dw_base.specs.Cells.{Cell, address_by, field_by}
use Rattle.dw_base.specs.DebugSections.{debug_section}
use Rattle.dw_base.specs.Elf.{order_of, nth_section, section_count, section_name, name_index, contents_of, is_empty_kind}
use Rattle.dw_base.specs.Layout.{is_alloc}
use Rattle.dw_base.specs.Lists.{tabulate}
use Rattle.dw_base.specs.Notes.{BuildId, build_id_of}
use Rattle.dw_base.specs.Numbers.{spelled}
use Rattle.dw_base.specs.RelocationFields.{field_unless, partly_at, relocation_at}
use Rattle.dw_base.specs.RelocationSectionFails.{relocates_read}
use Rattle.dw_base.specs.SectionRelocations.{PlacedRelocation, cells_from, relocations_of}
use Rattle.dw_base.specs.Texts.{same_text}
use Rattle.dw_base.specs.declared.debug_sections.DebugSection.{DebugSection}
use Rattle.dw_base.specs.declared.fault.Refusal.{Refusal}
use Rattle.dw_base.specs.declared.shared.Order.{Order}
use Rattle.dw_base.specs.declared.view_fields.Field.{Field}

-- the contents of a section: bytes; the relocations that begin in it stand beside them
abbrev pub Contents : Type 0
Contents = List ℕ

-- bytes as contents
abbrev pub plain_contents : List ℕ → Contents
plain_contents bytes = bytes

-- the bytes of contents
abbrev pub bytes_in : Contents → List ℕ
bytes_in contents = contents

-- a section of a view: its name; whether it is in the image of the running program (flag ALLOC), is the section name
-- table, and has bytes in the file; its contents; the relocations that begin in it, in the order of their records; and whether it
-- holds relocations of a section that is read
pub record ViewSection : Type 0 where
  pub name : List ℕ
  pub alloc : Bool
  pub is_name_table : Bool
  pub has_bytes : Bool
  pub contents : Contents
  pub relocations : List PlacedRelocation
  pub relocates_read : Bool

-- the byte order, the sections in order of their numbers, and where in them the build-id is
pub record View : Type 0 where
  pub order : Order
  pub sections : List ViewSection
  pub id : Option BuildId

-- the section of a number is the section name table
abbrev pub is_name_section : List ℕ → ℕ → Bool
is_name_section b i = not (name_index b == 0) && i == name_index b

-- the section of a number of a file
unfoldable pub view_section : List ℕ → ℕ → ViewSection
view_section b i = record {
  name = section_name b i;
  alloc = is_alloc (nth_section b i);
  is_name_table = is_name_section b i;
  has_bytes = not (is_empty_kind (nth_section b i));
  contents = plain_contents (contents_of b i);
  relocations = relocations_of (contents_of b) b i;
  relocates_read = relocates_read b i;
}

-- the view of one file
unfoldable pub view_of : List ℕ → View
view_of b = record { order = order_of b; sections = tabulate (view_section b) (section_count b); id = build_id_of b }

-- the contents of the section of a number of a list: none where it has no such section
abbrev pub contents_in : List ViewSection → ℕ → Contents
contents_in [] i = plain_contents []
contents_in (s ∷ ss) zero = s.contents
contents_in (s ∷ ss) (suc i) = contents_in ss i

-- the bytes of the section of a number
unfoldable pub section_bytes : View → ℕ → List ℕ
section_bytes v i = bytes_in (contents_in v.sections i)

-- the relocations of the section of a number of a list: none where it has no such section
abbrev pub relocations_there : List ViewSection → ℕ → List PlacedRelocation
relocations_there [] i = []
relocations_there (s ∷ ss) zero = s.relocations
relocations_there (s ∷ ss) (suc i) = relocations_there ss i

-- the relocations of the section of a number
unfoldable pub view_relocations : View → ℕ → List PlacedRelocation
view_relocations v i = relocations_there v.sections i

-- the contents of a section, and of the section of a number, as cells
abbrev pub cells_of : ViewSection → List Cell
cells_of s = cells_from s.relocations 0 (bytes_in s.contents)

abbrev pub view_cells : View → ℕ → List Cell
view_cells v i = cells_from (view_relocations v i) 0 (section_bytes v i)

-- the section has this name, and bytes in the file
abbrev pub is_filled : List ℕ → ViewSection → Bool
is_filled name s = s.has_bytes && same_text s.name name

-- of sections numbered from i on, the number of the first that has a name and bytes
abbrev pub first_filled : List ℕ → ℕ → List ViewSection → Option ℕ
first_filled name i [] = None
first_filled name i (s ∷ ss) = if is_filled name s then Some i else first_filled name (suc i) ss

-- the first section above a number that has a name and bytes
unfoldable pub section_after : View → List ℕ → ℕ → Option ℕ
section_after v name after = first_filled name (suc after) (drop (suc after) v.sections)

-- the section of a name: the first that has it and bytes. Section 0 is inactive in every file.
unfoldable pub section_named : View → List ℕ → Option ℕ
section_named v name = section_after v name 0

-- the numbers of those that have a name and bytes
abbrev pub all_filled : List ℕ → ℕ → List ViewSection → List ℕ
all_filled name i [] = []
all_filled name i (s ∷ ss) = if is_filled name s then i ∷ all_filled name (suc i) ss else all_filled name (suc i) ss

-- the sections of a name, in the order of their numbers: all that have it and bytes
unfoldable pub sections_named : View → List ℕ → List ℕ
sections_named v name = all_filled name 1 (drop 1 v.sections)

-- the name of the section of a number of a list: no bytes where it has no such section
abbrev pub name_in : List ViewSection → ℕ → List ℕ
name_in [] i = []
name_in (s ∷ ss) zero = s.name
name_in (s ∷ ss) (suc i) = name_in ss i

-- which section that is read the one of a number is, by its name (DWARF 5, Appendix B): none where its name is that of no such section
unfoldable pub kind_at : View → ℕ → Option DebugSection
kind_at v i = debug_section (name_in v.sections i)

-- what a field reads as: n bytes from a place of a section
unfoldable pub field_at : View → ℕ → ℕ → ℕ → Field
field_at v section place n = field_by (relocation_at (view_cells v section) place) n (spelled v.order (section_bytes v section) place n)

-- the first relocation that lies only in part on the field of n bytes at a place, in a section that is read
unfoldable pub partly_in : View → ℕ → ℕ → ℕ → Option ℕ
partly_in v section place n = if is_some (kind_at v section) then partly_at (view_cells v section) place n else None

-- what a field reads as, refused at such a relocation
unfoldable pub field_read : View → ℕ → ℕ → ℕ → Result Field Refusal
field_read v section place n = field_unless (partly_in v section place n) section (field_at v section place n)

-- what an address reads as: the number, or where a relocation begins at it, whatever its type, its symbol, type and addend
unfoldable pub address_at : View → ℕ → ℕ → ℕ → Field
address_at v section place n =
    address_by (relocation_at (view_cells v section) place) (spelled v.order (section_bytes v section) place n)
