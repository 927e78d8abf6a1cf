-- What is loaded of a file: of one that is loaded as it stands, its program headers and the bytes of its segments (gABI
-- ch. 5 "Program Header"); of a relocatable file, the bytes of its ALLOC sections. Left out are the bytes of the build-id,
-- and the three fields of the file header that say where the section headers are, how many, and which has their names.
use Rattle.std.specs.Prelude.{Bool, false, ◌≡◌, ℕ, ◌+◌, ◌==◌, ◌||◌, ◌&&◌, nat_le, nat_lt, if◌then◌else◌, List, [], length, map, filter, slice_index, Option, Some, None}
use Rattle.dw_base.specs.Elf.{class_of, word_size, shoff_place, shnum_place, shstrndx_place, nth_section, section_count, segments_of, contents_of}
use Rattle.dw_base.specs.Layout.{is_alloc, is_loaded_kind}
use Rattle.dw_base.specs.Lists.{tabulate}
use Rattle.dw_base.specs.Notes.{BuildId, build_id_of}
use Rattle.dw_base.specs.declared.records.Segment.{Segment}
use Rattle.dw_base.specs.declared.elf_numbers.TheConstants.{PT_LOAD}

-- the program headers, and the bytes of each segment or section that is loaded: none where a byte is left out
pub record Loaded : Type 0 where
  pub segments : List Segment
  pub images : List (List (Option ℕ))

-- the place is one of the n from `at`
abbrev pub lies_within : ℕ → ℕ → ℕ → Bool
lies_within at n place = nat_le at place && nat_lt place (at + n)

-- a byte, none where it is left out
abbrev pub unless_left_out : Bool → ℕ → Option ℕ
unless_left_out left_out byte = if left_out then None else Some byte

-- the place is in a field of the file header on section headers (gABI ch. 4 "ELF Header")
abbrev pub in_section_field : List ℕ → ℕ → Bool
in_section_field b place =
    lies_within (shoff_place (class_of b)) (word_size (class_of b)) place
    || lies_within (shnum_place (class_of b)) 2 place
    || lies_within (shstrndx_place (class_of b)) 2 place

-- the place in the file is in the build-id
abbrev pub in_id_at : List ℕ → Option BuildId → ℕ → Bool
in_id_at b None place = false
in_id_at b (Some id) place = lies_within ((nth_section b id.section).offset + id.descriptor.place) id.descriptor.size place

-- the byte at a place of a file that is loaded as it stands
unfoldable pub loaded_byte : List ℕ → ℕ → Option ℕ
loaded_byte b place = unless_left_out (in_section_field b place || in_id_at b (build_id_of b) place) (slice_index b place)

-- the bytes of a segment
unfoldable pub segment_image : List ℕ → Segment → List (Option ℕ)
segment_image b s = tabulate (λ k. loaded_byte b (s.offset + k)) s.filesz

-- the place in the section of a number is in the build-id
abbrev pub in_own_id : ℕ → Option BuildId → ℕ → Bool
in_own_id i None place = false
in_own_id i (Some id) place = i == id.section && lies_within id.descriptor.place id.descriptor.size place

-- the bytes of the section of a number
unfoldable pub section_image : List ℕ → ℕ → List (Option ℕ)
section_image b i =
    tabulate (λ k. unless_left_out (in_own_id i (build_id_of b) k) (slice_index (contents_of b i) k)) (length (contents_of b i))

-- a segment that is loaded
abbrev pub is_load : Segment → Bool
is_load s = s.kind == PT_LOAD

-- the number is that of an ALLOC section
abbrev pub is_alloc_number : List ℕ → ℕ → Bool
is_alloc_number b i = is_alloc (nth_section b i)

-- what is loaded of a file
unfoldable pub loaded_bytes : List ℕ → Loaded
loaded_bytes b =
    if is_loaded_kind b
    then record { segments = segments_of b; images = map (segment_image b) (filter is_load (segments_of b)) }
    else record { segments = []; images = map (section_image b) (filter (is_alloc_number b) (tabulate (λ i. i) (section_count b))) }

-- what is loaded of the file `out` is what is loaded of the file `b`
pub record LoadedKept (b out : List ℕ) : Type 0 where
  pub same : loaded_bytes out ≡ loaded_bytes b
