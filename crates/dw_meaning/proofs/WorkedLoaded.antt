-- What is loaded of small files: a 64-bit file of one segment that begins with the file header and ends with a build-id, a
-- 32-bit one of the other byte order with a segment of notes beside, and a relocatable file.
use Rattle.std.proofs.Common.{◌≡◌, ℕ, ◌+◌, ◌==◌, false, true, List, [], ◌∷◌, ◌++◌, map, take, drop, replicate, codes, refl, sym, ap, ◌∙◌}
use Rattle.std.proofs.lemmas.Bool.{eq-eqb}
use Rattle.std.specs.Prelude.{Option, Some, None}
use Rattle.dw_base.specs.declared.shared.Order.TheVariants.{Little, Big}
use Rattle.dw_meaning.proofs.WorkedNotes.{gnu, id_note, note}
use Rattle.dw_meaning.proofs.WorkedParts.{changed, file_header, half, numbers, section_header, wide, word}
use Rattle.dw_base.specs.Elf.{class_of, contents_at, contents_of, e_phnum, e_phoff, e_shentsize, e_shnum, e_shoff, e_shstrndx, e_type, name_index, name_table, nth_section, nth_segment, order_of, section_at, section_count, section_name, segment_at, segments_of}
use Rattle.dw_base.specs.Layout.{padding}
use Rattle.dw_meaning.specs.Loaded.{Loaded, LoadedKept, loaded_byte, loaded_bytes, section_image, segment_image}
use Rattle.dw_base.specs.Notes.{build_id_of, descriptor_at, id_in, is_id_note, is_id_section}
use Rattle.dw_base.specs.Numbers.{spelled}
use Rattle.dw_base.specs.Texts.{ends_in, text_in}

-- bytes that are there, and so many that are left out
abbrev pub there : List ℕ → List (Option ℕ)
there bytes = map (λ b. Some b) bytes

abbrev pub left_out : ℕ → List (Option ℕ)
left_out n = replicate n None

-- a segment from the start of the file to the end of a build-id of 8 bytes
abbrev pub with_segment : List ℕ
with_segment =
    (127 ∷ []) ++ codes "ELF" ++ (2 ∷ 1 ∷ 1 ∷ []) ++ replicate 9 0 ++ half 3 ++ half 62 ++ word 1 ++ wide 0 ++ wide 64 ++ wide 176
    ++ word 0 ++ half 64 ++ half 56 ++ half 1 ++ half 64 ++ half 3 ++ half 2
    ++ word 1 ++ word 4 ++ wide 0 ++ wide 4194304 ++ wide 4194304 ++ wide 144 ++ wide 144 ++ wide 4096
    ++ note Little 4 8 3 gnu (17 ∷ 34 ∷ 51 ∷ 68 ∷ 85 ∷ 102 ∷ 119 ∷ 136 ∷ [])
    ++ codes "\0.note.gnu.build-id\0.shstrtab\0" ++ replicate 2 0
    ++ section_header 0 0 0 0 0 0
    ++ word 1 ++ word 7 ++ wide 2 ++ wide 4194424 ++ wide 120 ++ wide 24 ++ word 0 ++ word 0 ++ wide 4 ++ wide 0
    ++ section_header 20 3 0 144 30 1

-- what is loaded of it: the place of the section headers, 8 bytes at 40, their number and the name index, 4 bytes at 60, and the
-- build-id are left out
abbrev pub with_segment_loaded : Loaded
with_segment_loaded = record {
  segments =
      record { kind = 1; flags = 4; offset = 0; vaddr = 4194304; paddr = 4194304; filesz = 144; memsz = 144; align = 4096 } ∷ [];
  images =
      (there ((127 ∷ []) ++ codes "ELF" ++ (2 ∷ 1 ∷ 1 ∷ []) ++ replicate 9 0 ++ half 3 ++ half 62 ++ word 1 ++ wide 0 ++ wide 64)
      ++ left_out 8 ++ there (word 0 ++ half 64 ++ half 56 ++ half 1 ++ half 64) ++ left_out 4
      ++ there (word 1 ++ word 4 ++ wide 0 ++ wide 4194304 ++ wide 4194304 ++ wide 144 ++ wide 144 ++ wide 4096)
      ++ there (word 4 ++ word 8 ++ word 3 ++ gnu) ++ left_out 8)
      ∷ [];
}

pub with_segment-loaded : loaded_bytes with_segment ≡ with_segment_loaded
unfolding spelled e_type e_phnum e_phoff e_shoff e_shentsize e_shnum e_shstrndx class_of order_of nth_section section_at
    section_count name_index name_table section_name contents_of contents_at text_in ends_in segments_of nth_segment segment_at
    build_id_of is_id_section id_in is_id_note descriptor_at padding loaded_byte segment_image section_image loaded_bytes
with_segment-loaded = refl

-- the same with another build-id, with its section headers 8 bytes later, and with one more of them
abbrev pub other_id : List ℕ
other_id = changed 136 (1 ∷ 2 ∷ 3 ∷ 4 ∷ 5 ∷ 6 ∷ 7 ∷ 8 ∷ []) with_segment

abbrev pub later_headers : List ℕ
later_headers = changed 40 (184 ∷ []) (take 176 with_segment ++ replicate 8 0 ++ drop 176 with_segment)

abbrev pub one_more : List ℕ
one_more = changed 60 (4 ∷ []) with_segment ++ section_header 0 8 0 0 0 1

pub with_segment-kept : LoadedKept with_segment other_id × LoadedKept with_segment later_headers × LoadedKept with_segment one_more
unfolding spelled e_type e_phnum e_phoff e_shoff e_shentsize e_shnum e_shstrndx class_of order_of nth_section section_at
    section_count name_index name_table section_name contents_of contents_at text_in ends_in segments_of nth_segment segment_at
    build_id_of is_id_section id_in is_id_note descriptor_at padding loaded_byte segment_image section_image loaded_bytes
with_segment-kept = (record { same = loaded_same refl }, record { same = loaded_same refl }, record { same = loaded_same refl })
  where
    loaded_same : {x : Loaded} → x ≡ with_segment_loaded → x ≡ loaded_bytes with_segment
    loaded_same e = e ∙ sym with_segment-loaded

-- the sum of the bytes that are there
abbrev byte_sum : List (Option ℕ) → ℕ
byte_sum [] = 0
byte_sum (None ∷ bs) = byte_sum bs
byte_sum (Some b ∷ bs) = b + byte_sum bs

abbrev loaded_sum : List (List (Option ℕ)) → ℕ
loaded_sum [] = 0
loaded_sum (x ∷ xs) = byte_sum x + loaded_sum xs

-- but not with another entry point, and not with another type in the note, which then is none of a build-id
not_loaded : (b out : List ℕ) → (loaded_sum (loaded_bytes out).images == loaded_sum (loaded_bytes b).images) ≡ false
    → LoadedKept b out → ⊥
not_loaded b out differs h =
    let same : (loaded_sum (loaded_bytes out).images == loaded_sum (loaded_bytes b).images) ≡ true =
    eq-eqb _ _ (ap (λ (x : Loaded). loaded_sum x.images) h.same) in
    let no : false ≡ true = sym differs ∙ same in
    cc

pub other_entry-not_kept : LoadedKept with_segment (changed 24 (1 ∷ []) with_segment) → ⊥
unfolding spelled e_type e_phnum e_phoff e_shoff e_shentsize e_shnum e_shstrndx class_of order_of nth_section section_at
    section_count name_index name_table section_name contents_of contents_at text_in ends_in segments_of nth_segment segment_at
    build_id_of is_id_section id_in is_id_note descriptor_at padding loaded_byte segment_image section_image loaded_bytes
other_entry-not_kept h = not_loaded _ _ refl h

pub no_id-not_kept : LoadedKept with_segment (changed 128 (1 ∷ []) with_segment) → ⊥
unfolding spelled e_type e_phnum e_phoff e_shoff e_shentsize e_shnum e_shstrndx class_of order_of nth_section section_at
    section_count name_index name_table section_name contents_of contents_at text_in ends_in segments_of nth_segment segment_at
    build_id_of is_id_section id_in is_id_note descriptor_at padding loaded_byte segment_image section_image loaded_bytes
no_id-not_kept h = not_loaded _ _ refl h

-- a segment of notes, and one that is loaded, from the start of the file to the end of a build-id of 2 bytes and its padding
abbrev pub with_segments : List ℕ
with_segments =
    (127 ∷ []) ++ codes "ELF" ++ (1 ∷ 2 ∷ 1 ∷ []) ++ replicate 9 0 ++ numbers Big 2 (2 ∷ 20 ∷ [])
    ++ numbers Big 4 (1 ∷ 65536 ∷ 52 ∷ 168 ∷ 0 ∷ []) ++ numbers Big 2 (52 ∷ 32 ∷ 2 ∷ 40 ∷ 3 ∷ 2 ∷ [])
    ++ numbers Big 4 (4 ∷ 116 ∷ 65652 ∷ 65652 ∷ 18 ∷ 18 ∷ 4 ∷ 4 ∷ [])
    ++ numbers Big 4 (1 ∷ 0 ∷ 65536 ∷ 65536 ∷ 136 ∷ 136 ∷ 5 ∷ 4096 ∷ [])
    ++ note Big 4 2 3 gnu (17 ∷ 34 ∷ 0 ∷ 0 ∷ []) ++ codes "\0.note.gnu.build-id\0.shstrtab\0" ++ replicate 2 0 ++ replicate 40 0
    ++ numbers Big 4 (1 ∷ 7 ∷ 2 ∷ 65652 ∷ 116 ∷ 18 ∷ 0 ∷ 0 ∷ 4 ∷ 0 ∷ []) ++ numbers Big 4 (20 ∷ 3 ∷ 0 ∷ 0 ∷ 136 ∷ 30 ∷ 0 ∷ 0 ∷ 1 ∷ 0 ∷ [])

-- the place of the section headers is 4 bytes at 32, the two others are 4 at 48; the bytes of the first segment aren't loaded
pub with_segments-loaded : loaded_bytes with_segments
    ≡ record {
      segments =
          record { kind = 4; flags = 4; offset = 116; vaddr = 65652; paddr = 65652; filesz = 18; memsz = 18; align = 4 }
          ∷ record { kind = 1; flags = 5; offset = 0; vaddr = 65536; paddr = 65536; filesz = 136; memsz = 136; align = 4096 } ∷ [];
      images =
          (there ((127 ∷ []) ++ codes "ELF" ++ (1 ∷ 2 ∷ 1 ∷ []) ++ replicate 9 0 ++ numbers Big 2 (2 ∷ 20 ∷ []))
          ++ there (numbers Big 4 (1 ∷ 65536 ∷ 52 ∷ [])) ++ left_out 4 ++ there (numbers Big 4 (0 ∷ []) ++ numbers Big 2 (52 ∷ 32 ∷ 2 ∷ 40 ∷ [])) ++ left_out 4
          ++ there (numbers Big 4 (4 ∷ 116 ∷ 65652 ∷ 65652 ∷ 18 ∷ 18 ∷ 4 ∷ 4 ∷ []))
          ++ there (numbers Big 4 (1 ∷ 0 ∷ 65536 ∷ 65536 ∷ 136 ∷ 136 ∷ 5 ∷ 4096 ∷ []))
          ++ there (numbers Big 4 (4 ∷ 2 ∷ 3 ∷ []) ++ gnu) ++ left_out 2 ++ there (0 ∷ 0 ∷ []))
          ∷ [];
    }
unfolding spelled e_type e_phnum e_phoff e_shoff e_shentsize e_shnum e_shstrndx class_of order_of nth_section section_at
    section_count name_index name_table section_name contents_of contents_at text_in ends_in segments_of nth_segment segment_at
    build_id_of is_id_section id_in is_id_note descriptor_at padding loaded_byte segment_image section_image loaded_bytes
with_segments-loaded = refl

-- code, a build-id, a comment that isn't loaded, and a section in memory alone
abbrev pub relocatable : List ℕ
relocatable =
    file_header 1 136 6 5 ++ (5 ∷ 6 ∷ 7 ∷ 8 ∷ []) ++ id_note Little ++ codes "cc\0"
    ++ codes "\0.text\0.note.gnu.build-id\0.comment\0.shstrtab\0" ++ section_header 0 0 0 0 0 0 ++ section_header 1 1 6 64 4 4
    ++ section_header 7 7 2 68 20 4 ++ section_header 26 1 0 88 3 1 ++ section_header 1 8 3 91 16 1 ++ section_header 35 3 0 91 45 1

-- the bytes of its ALLOC sections; nothing of the file header is loaded, and it has no segments
pub relocatable-loaded : loaded_bytes relocatable
    ≡ record {
      segments = [];
      images = there (5 ∷ 6 ∷ 7 ∷ 8 ∷ []) ∷ (there (word 4 ++ word 4 ++ word 3 ++ gnu) ++ left_out 4) ∷ [] ∷ [];
    }
unfolding spelled e_type e_phnum e_phoff e_shoff e_shentsize e_shnum e_shstrndx class_of order_of nth_section section_at
    section_count name_index name_table section_name contents_of contents_at text_in ends_in segments_of nth_segment segment_at
    build_id_of is_id_section id_in is_id_note descriptor_at padding loaded_byte segment_image section_image loaded_bytes
relocatable-loaded = refl

-- without a build-id, as the note is of another type, each byte of it is loaded
pub relocatable-whole : loaded_bytes (changed 76 (1 ∷ []) relocatable)
    ≡ record {
      segments = [];
      images = there (5 ∷ 6 ∷ 7 ∷ 8 ∷ []) ∷ there (word 4 ++ word 4 ++ word 1 ++ gnu ++ 17 ∷ 34 ∷ 51 ∷ 68 ∷ []) ∷ [] ∷ [];
    }
unfolding spelled e_type e_phnum e_phoff e_shoff e_shentsize e_shnum e_shstrndx class_of order_of nth_section section_at
    section_count name_index name_table section_name contents_of contents_at text_in ends_in segments_of nth_segment segment_at
    build_id_of is_id_section id_in is_id_note descriptor_at padding loaded_byte segment_image section_image loaded_bytes
relocatable-whole = refl
