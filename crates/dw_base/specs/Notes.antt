-- The build-id of a file (gABI ch. 5 "Note Section"; the GNU build-id note): the descriptor of the first note of that
-- kind in the section .note.gnu.build-id. Its bytes are a name for the file, which changes with the file.
use Rattle.std.specs.Prelude.{Bool, ℕ, zero, suc, codes, ◌+◌, ◌==◌, ◌&&◌, nat_le, replicate, if◌then◌else◌, List, ◌++◌, length, take, drop, Option, Some, None}
use Rattle.dw_base.specs.Elf.{order_of, nth_section, section_count, section_name, contents_of}
use Rattle.dw_base.specs.Layout.{padding}
use Rattle.dw_base.specs.Numbers.{spelled}
use Rattle.dw_base.specs.SectionNames.{note_build_id}
use Rattle.dw_base.specs.Texts.{same_text}
use Rattle.dw_base.specs.declared.elf_numbers.TheConstants.{NT_GNU_BUILD_ID, SHT_NOTE}
use Rattle.dw_base.specs.declared.shared.Order.{Order}

-- where the descriptor of a note begins in its section, and how many bytes it has
pub record Descriptor : Type 0 where
  pub place : ℕ
  pub size : ℕ

-- a size with the padding to the next multiple of 4
abbrev pub aligned : ℕ → ℕ
aligned n = n + padding n 4

-- the note at a place has the name of the GNU tools and the type of a build-id
unfoldable pub is_id_note : Order → List ℕ → ℕ → Bool
is_id_note order bytes at =
    spelled order bytes at 4 == 4 && spelled order bytes (at + 8) 4 == NT_GNU_BUILD_ID
    && same_text (take 4 (drop (at + 12) bytes)) (codes "GNU\0")

-- the descriptor of the note at a place: it stands behind three numbers of 4 bytes and the name
unfoldable pub descriptor_at : Order → List ℕ → ℕ → Descriptor
descriptor_at order bytes at = record { place = at + 12 + aligned (spelled order bytes at 4); size = spelled order bytes (at + 4) 4 }

-- where the note behind a descriptor begins
abbrev pub next_note : Descriptor → ℕ
next_note d = d.place + aligned d.size

-- a build-id has 2 to 20 bytes: this project's profile
abbrev pub is_id_size : ℕ → Bool
is_id_size n = nat_le 2 n && nat_le n 20

-- the descriptor, where it lies in the section and has the size of a build-id
abbrev pub if_id : List ℕ → Descriptor → Option Descriptor
if_id bytes d = if nat_le (d.place + d.size) (length bytes) && is_id_size d.size then Some d else None

-- the build-id among so many notes from a place on: the first note of its kind counts
abbrev pub id_among : ℕ → Order → List ℕ → ℕ → Option Descriptor
id_among zero order bytes at = None
id_among (suc n) order bytes at =
    if nat_le (at + 12) (length bytes)
    then (if is_id_note order bytes at
    then if_id bytes (descriptor_at order bytes at)
    else id_among n order bytes (next_note (descriptor_at order bytes at)))
    else None

-- the build-id in a section of notes; as a note has 12 bytes and more, there are fewer notes than bytes
unfoldable pub id_in : Order → List ℕ → Option Descriptor
id_in order bytes = id_among (length bytes) order bytes 0

-- the section of a number is one of notes, with the name of that for the build-id
unfoldable pub is_id_section : List ℕ → ℕ → Bool
is_id_section b i = same_text (section_name b i) note_build_id && (nth_section b i).kind == SHT_NOTE

-- a number, if there was one, else this one where the test passes
abbrev pub or_this : Option ℕ → ℕ → Bool → Option ℕ
or_this (Some i) n test = Some i
or_this None n test = if test then Some n else None

-- the first number below a bound that passes a test
abbrev pub first_below : (ℕ → Bool) → ℕ → Option ℕ
first_below test zero = None
first_below test (suc n) = or_this (first_below test n) n (test n)

-- the build-id of a file: the number of its section, and its descriptor
pub record BuildId : Type 0 where
  pub section : ℕ
  pub descriptor : Descriptor

abbrev pub build_id_at : ℕ → Option Descriptor → Option BuildId
build_id_at i None = None
build_id_at i (Some d) = Some (record { section = i; descriptor = d })

abbrev pub build_id_in : List ℕ → Option ℕ → Option BuildId
build_id_in b None = None
build_id_in b (Some i) = build_id_at i (id_in (order_of b) (contents_of b i))

-- the build-id of a file: that of the first section that may have it, none where it has none
unfoldable pub build_id_of : List ℕ → Option BuildId
build_id_of b = build_id_in b (first_below (is_id_section b) (section_count b))

-- bytes with those of a descriptor as zeros
abbrev pub zeroed : Descriptor → List ℕ → List ℕ
zeroed d bytes = take d.place bytes ++ replicate d.size 0 ++ drop (d.place + d.size) bytes
