-- What is loaded of two files, segment by segment, or of relocatable files section by section (gABI ch. 5 "Program Header").
use Rattle.std.specs.Prelude.{Bool, true, ◌≡◌, ◌≢◌, ◌==◌, ◌&&◌, ℕ, ◌+◌, ◌<◌, ◌≤◌, List, [], length, map, filter, drop, get_or, Option, Some, None}
use Rattle.build_ident.specs.declared.place.SectionId.{SectionId}
use Rattle.dw_base.specs.Elf.{section_count}
use Rattle.dw_base.specs.Layout.{is_loaded_kind}
use Rattle.dw_base.specs.Lists.{tabulate}
use Rattle.dw_base.specs.Notes.{BuildId}
use Rattle.dw_base.specs.declared.records.Segment.{Segment}
use Rattle.dw_meaning.specs.Loaded.{Loaded, is_alloc_number, is_load, section_image, segment_image}

-- two program headers have the same numbers
abbrev pub same_segment : Segment → Segment → Bool
same_segment s t =
    s.kind == t.kind && s.flags == t.flags && s.offset == t.offset && s.vaddr == t.vaddr && s.paddr == t.paddr && s.filesz == t.filesz
    && s.memsz == t.memsz && s.align == t.align

-- the build-id as the code has it
abbrev pub as_id : Option SectionId → Option BuildId
as_id None = None
as_id (Some f) = Some (record { section = f.section; descriptor = record { place = f.place; size = f.size } })

-- each segment with bytes in the file ends in it
pub record SegmentsLie (b : List ℕ) (segments : List Segment) : Type 0 where
  pub all : (i : ℕ) (d : Segment) → i < length segments → (get_or segments i d).filesz ≢ 0
      → (get_or segments i d).offset + (get_or segments i d).filesz ≤ length b

-- a segment, where it is loaded, has the same bytes in two files
pub record LoadAgrees (b c : List ℕ) (s : Segment) : Type 0 where
  pub same : is_load s ≡ true → segment_image c s ≡ segment_image b s

-- and so have all that are loaded
abbrev pub LoadsAgree : List ℕ → List ℕ → List Segment → Type 0
LoadsAgree b c ss = map (segment_image c) (filter is_load ss) ≡ map (segment_image b) (filter is_load ss)

-- the bytes of the ALLOC sections of a file from a number on
abbrev pub allocs_from : List ℕ → ℕ → List (List (Option ℕ))
allocs_from b n = map (section_image b) (filter (is_alloc_number b) (drop n (tabulate (λ i. i) (section_count b))))

-- two files have the same in their ALLOC sections from two numbers on
abbrev pub AllocsAgree : List ℕ → List ℕ → ℕ → ℕ → Type 0
AllocsAgree b c i j = allocs_from c j ≡ allocs_from b i

-- they have it from these on exactly where they have it from others
pub record SameBehind (b c : List ℕ) (i j n k : ℕ) : Type 0 where
  pub to : AllocsAgree b c n k → AllocsAgree b c i j
  pub from : AllocsAgree b c i j → AllocsAgree b c n k

-- nothing is loaded
abbrev pub nothing : Loaded
nothing = record { segments = []; images = [] }

-- one of two files is loaded as it stands, the other isn't
pub record AreOfTwoKinds (b c : List ℕ) : Type 0 where
  pub other : is_loaded_kind b ≡ is_loaded_kind c → ⊥
