-- What is wrong with the build-id of a file (gABI ch. 5 "Note Section"; the GNU build-id note): the refusals of the kind BuildId. Each
-- constructor is a row, named by what is wrong; the place is the section of the note. Beside them stands what holds where no row does.
use Rattle.std.specs.Prelude.{Bool, true, false, ◌≡◌, ◌≢◌, ℕ, ◌+◌, ◌*◌, ◌<◌, ◌≤◌, ◌==◌, ◌&&◌, not, nat_lt, List, Option, Some, None}
use Rattle.dw_base.specs.Elf.{class_of, order_of, ehdr_size, phdr_size, e_phoff, e_phnum, nth_section, section_count, contents_of, is_empty_kind}
use Rattle.dw_base.specs.Notes.{Descriptor, id_in, first_below, is_id_section}
use Rattle.dw_base.specs.Refusals.{at}
use Rattle.dw_base.specs.declared.fault.Kind.TheVariants.{BuildId}
use Rattle.dw_base.specs.declared.fault.Refusal.{Refusal}
use Rattle.dw_base.specs.declared.records.Section.{Section}

-- the section of the build-id's note: the first of those that may have it
unfoldable pub id_section : List ℕ → Option ℕ
id_section b = first_below (is_id_section b) (section_count b)

-- the note of the section of a number is that of the build-id, and this is its descriptor
pub record IsId (b : List ℕ) (i : ℕ) (d : Descriptor) : Type 0 where
  pub section : id_section b ≡ Some i
  pub descriptor : id_in (order_of b) (contents_of b i) ≡ Some d

-- where the id begins in the file
abbrev pub id_place : List ℕ → ℕ → Descriptor → ℕ
id_place b i d = (nth_section b i).offset + d.place

-- so many bytes from a place and so many from another have some in common; of neither there are none
abbrev pub overlap : ℕ → ℕ → ℕ → ℕ → Bool
overlap place n other m = nat_lt place (other + m) && nat_lt other (place + n)

-- the section has bytes in the file
abbrev pub has_bytes : Section → Bool
has_bytes s = not (is_empty_kind s) && not (s.size == 0)

-- the id has bytes in common with the section of another number
abbrev pub shares : List ℕ → ℕ → Descriptor → ℕ → Bool
shares b i d j = has_bytes (nth_section b j) && overlap (id_place b i d) d.size (nth_section b j).offset (nth_section b j).size

-- a section that has bytes in common with the id
pub record IsShared (b : List ℕ) (i : ℕ) (d : Descriptor) (j : ℕ) : Type 0 where
  pub within : j < section_count b
  pub other : j ≢ i
  pub shares : shares b i d j ≡ true

pub data IdFails (b : List ℕ) : Refusal → Type 0 where
  unfit : (i : ℕ) → id_section b ≡ Some i → id_in (order_of b) (contents_of b i) ≡ None → IdFails b (at BuildId i 0)
  header : (i : ℕ) (d : Descriptor) → IsId b i d → id_place b i d < ehdr_size (class_of b) → IdFails b (at BuildId i 0)
  segments : (i : ℕ) (d : Descriptor) → IsId b i d → e_phnum b ≢ 0
      → overlap (id_place b i d) d.size (e_phoff b) (e_phnum b * phdr_size (class_of b)) ≡ true → IdFails b (at BuildId i 0)
  section : (i : ℕ) (d : Descriptor) (j : ℕ) → IsId b i d → IsShared b i d j → IdFails b (at BuildId i 0)

-- the bytes of the id belong to nothing else
pub record IsOwn (b : List ℕ) (i : ℕ) (d : Descriptor) : Type 0 where
  pub header : ehdr_size (class_of b) ≤ id_place b i d
  pub segments : e_phnum b ≢ 0 → overlap (id_place b i d) d.size (e_phoff b) (e_phnum b * phdr_size (class_of b)) ≡ false
  pub sections : (j : ℕ) → j < section_count b → j ≢ i → shares b i d j ≡ false

-- the build-id of a file lies at a place, and has so many bytes
pub data IsIdPlace (b : List ℕ) : ℕ → ℕ → Type 0 where
  id : (i : ℕ) (d : Descriptor) → IsId b i d → IsOwn b i d → IsIdPlace b (id_place b i d) d.size
