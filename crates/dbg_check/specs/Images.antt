-- The bytes that are loaded of two files, run by run: between the places where what is left out of one of them begins or ends.
use Rattle.std.specs.Prelude.{Bool, true, false, ◌≡◌, ℕ, ◌+◌, ◌==◌, ◌^◌, ◌<◌, ◌≤◌, ◌||◌, List, Option, Some, None, slice_index}
use Rattle.dw_base.specs.Elf.{class_of, nth_section, shnum_place, shoff_place, shstrndx_place, word_size}
use Rattle.dw_base.specs.Lists.{tabulate}
use Rattle.dw_base.specs.Notes.{BuildId, Descriptor, build_id_of}
use Rattle.dw_base.specs.declared.shared.Class.{Class}
use Rattle.dw_meaning.specs.Loaded.{lies_within, unless_left_out}
use Rattle.dbg_check.specs.declared.holes.Hole.{Hole}
use Rattle.dbg_check.specs.declared.holes.Holes.{Holes}

-- a place is in a hole, and in one of a file
abbrev pub is_in : Hole → ℕ → Bool
is_in h place = lies_within h.at h.len place

abbrev pub is_left_out : Holes → ℕ → Bool
is_left_out h place = is_in h.shoff place || (is_in h.shnum place || (is_in h.shstrndx place || is_in h.id place))

-- the byte at a place, none where it is left out
abbrev pub byte_at : List ℕ → Holes → ℕ → Option ℕ
byte_at b h place = unless_left_out (is_left_out h place) (slice_index b place)

-- from a place up to another two files have the same bytes, those that are left out of one are left out of the other
pub record SameIn (old new : List ℕ) (h k : Holes) (from end : ℕ) : Type 0 where
  pub same : (place : ℕ) → from ≤ place → place < end → byte_at old h place ≡ byte_at new k place

-- from a place up to another all is in a hole, or nothing; and so it is with what is left out of a file
pub record HoleStands (h : Hole) (from end : ℕ) : Type 0 where
  pub stands : (place : ℕ) → from ≤ place → place < end → is_in h place ≡ is_in h from

pub record HolesStand (h : Holes) (from end : ℕ) : Type 0 where
  pub stands : (place : ℕ) → from ≤ place → place < end → is_left_out h place ≡ is_left_out h from

-- holes end where a number of 64 bits can say
pub record AreSmall (h : Holes) : Type 0 where
  pub shoff : h.shoff.at + h.shoff.len < 2 ^ 64
  pub shnum : h.shnum.at + h.shnum.len < 2 ^ 64
  pub shstrndx : h.shstrndx.at + h.shstrndx.len < 2 ^ 64
  pub id : h.id.at + h.id.len < 2 ^ 64

-- so many bytes from a place, none where one is left out
abbrev pub image_of : List ℕ → Holes → ℕ → ℕ → List (Option ℕ)
image_of b h from n = tabulate (λ k. byte_at b h (from + k)) n

-- a hole of no bytes, and one of a descriptor where a test passes
abbrev pub no_hole : Hole
no_hole = record { at = 0; len = 0 }

abbrev pub hole_if : Bool → Descriptor → Hole
hole_if true d = record { at = d.place; len = d.size }
hole_if false d = no_hole

-- where the build-id lies in the file, and in the section of a number
abbrev pub id_hole : List ℕ → Option BuildId → Hole
id_hole b None = no_hole
id_hole b (Some id) = record { at = (nth_section b id.section).offset + id.descriptor.place; len = id.descriptor.size }

abbrev pub own_hole : ℕ → Option BuildId → Hole
own_hole i None = no_hole
own_hole i (Some id) = hole_if (i == id.section) id.descriptor

-- what is left out of a file of a class that is loaded as it stands, with this for its build-id
abbrev pub holes_by : Class → Hole → Holes
holes_by class id = record {
  shoff = record { at = shoff_place class; len = word_size class };
  shnum = record { at = shnum_place class; len = 2 };
  shstrndx = record { at = shstrndx_place class; len = 2 };
  id = id;
}

abbrev pub file_holes : List ℕ → Holes
file_holes b = holes_by (class_of b) (id_hole b (build_id_of b))

-- what is left out of a section: its build-id alone
abbrev pub lone_hole : Hole → Holes
lone_hole id = record { shoff = no_hole; shnum = no_hole; shstrndx = no_hole; id = id }
