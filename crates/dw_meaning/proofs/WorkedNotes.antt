-- Build-ids in notes alone, in both byte orders, and in files: a file that has one and its output, the same with other section
-- headers, and with two sections of notes.
use Rattle.std.proofs.Common.{◌≡◌, ℕ, List, [], ◌∷◌, ◌++◌, take, replicate, codes, refl}
use Rattle.std.specs.Prelude.{Option, Some, None}
use Rattle.dw_base.specs.declared.shared.Order.{Order}
use Rattle.dw_base.specs.declared.shared.Order.TheVariants.{Little, Big}
use Rattle.dw_meaning.proofs.WorkedParts.{changed, file_header, numbers, section_header, unit}
use Rattle.dw_base.specs.Elf.{class_of, contents_at, contents_of, e_phnum, e_phoff, e_shentsize, e_shnum, e_shoff, e_shstrndx, e_type, name_index, name_table, nth_section, order_of, section_at, section_count, section_name}
use Rattle.dw_base.specs.Layout.{padding}
use Rattle.dw_base.specs.Notes.{BuildId, Descriptor, build_id_of, descriptor_at, id_in, is_id_note, is_id_section}
use Rattle.dw_base.specs.Numbers.{spelled}
use Rattle.dw_base.specs.Texts.{ends_in, text_in}

-- a note: the sizes of its name and its descriptor, its type, its name, and what follows
abbrev pub note : Order → ℕ → ℕ → ℕ → List ℕ → List ℕ → List ℕ
note order namesz descsz kind name rest = numbers order 4 (namesz ∷ descsz ∷ kind ∷ []) ++ name ++ rest

-- the name of the GNU tools, and a note of theirs with a build-id of 4 bytes
abbrev pub gnu : List ℕ
gnu = codes "GNU\0"

abbrev pub id_note : Order → List ℕ
id_note order = note order 4 4 3 gnu (17 ∷ 34 ∷ 51 ∷ 68 ∷ [])

-- in notes of either byte order the build-id is this one
abbrev pub IdIn : (Order → List ℕ) → Option Descriptor → Type 0
IdIn notes d = (id_in Little (notes Little) ≡ d) × (id_in Big (notes Big) ≡ d)

-- so many bytes at a place
abbrev pub bytes_at : ℕ → ℕ → Option Descriptor
bytes_at place size = Some (record { place = place; size = size })

-- one note; two, of which the first counts; one of the same type and another name before it, with both padded; and one of
-- the same name and another type
pub first_id :
    IdIn (λ order. id_note order) (bytes_at 16 4)
    × IdIn (λ order. id_note order ++ note order 4 5 3 gnu (1 ∷ 2 ∷ 3 ∷ 4 ∷ 5 ∷ 0 ∷ 0 ∷ 0 ∷ [])) (bytes_at 16 4)
    × IdIn (λ order. note order 5 3 3 (codes "stap\0\0\0\0") (7 ∷ 7 ∷ 7 ∷ 0 ∷ []) ++ id_note order) (bytes_at 40 4)
    × IdIn (λ order. note order 4 4 1 gnu (7 ∷ 7 ∷ 7 ∷ 7 ∷ []) ++ id_note order) (bytes_at 36 4)
    × IdIn (λ order. note order 0 0 3 [] [] ++ id_note order) (bytes_at 28 4)
unfolding spelled id_in is_id_note descriptor_at padding
first_id = ((refl, refl), (refl, refl), (refl, refl), (refl, refl), (refl, refl))

-- a name of three bytes, one of eight, and one that is cut off
pub other_name :
    IdIn (λ order. note order 3 4 3 gnu (17 ∷ 34 ∷ 51 ∷ 68 ∷ [])) None
    × IdIn (λ order. note order 8 4 3 (codes "GNU\0\0\0\0\0") (17 ∷ 34 ∷ 51 ∷ 68 ∷ [])) None
    × IdIn (λ order. note order 4 4 3 (codes "GN") []) None
unfolding spelled id_in is_id_note descriptor_at padding
other_name = ((refl, refl), (refl, refl), (refl, refl))

-- a descriptor of 2 and of 20 bytes, and one of none, of 1 and of 21, where a good note follows that doesn't count
pub id_sizes :
    IdIn (λ order. note order 4 2 3 gnu (7 ∷ 7 ∷ [])) (bytes_at 16 2)
    × IdIn (λ order. note order 4 20 3 gnu (replicate 20 7)) (bytes_at 16 20)
    × IdIn (λ order. note order 4 0 3 gnu [] ++ id_note order) None
    × IdIn (λ order. note order 4 1 3 gnu (7 ∷ 0 ∷ 0 ∷ 0 ∷ []) ++ id_note order) None
    × IdIn (λ order. note order 4 21 3 gnu (replicate 21 7 ++ replicate 3 0) ++ id_note order) None
unfolding spelled id_in is_id_note descriptor_at padding
id_sizes = ((refl, refl), (refl, refl), (refl, refl), (refl, refl), (refl, refl))

-- a descriptor that passes the end by a byte, also where a good note lies in it; and a note of another type and one of
-- another name that do, before a good note
pub past_end :
    IdIn (λ order. note order 4 20 3 gnu (replicate 19 7)) None
    × IdIn (λ order. note order 4 20 3 gnu (note order 4 2 3 gnu (7 ∷ 7 ∷ []))) None
    × IdIn (λ order. note order 4 40 1 gnu (17 ∷ 34 ∷ 51 ∷ 68 ∷ []) ++ id_note order) None
    × IdIn (λ order. note order 0xffffffff 4 3 gnu (17 ∷ 34 ∷ 51 ∷ 68 ∷ []) ++ id_note order) None
unfolding spelled id_in is_id_note descriptor_at padding
past_end = ((refl, refl), (refl, refl), (refl, refl), (refl, refl))

-- no bytes, too few for a note, and notes of which none has a build-id
pub no_id :
    IdIn (λ order. []) None
    × IdIn (λ order. take 11 (id_note order)) None
    × IdIn (λ order. note order 0 0 1 [] []) None
    × IdIn
    (λ order. note order 4 4 1 gnu (7 ∷ 7 ∷ 7 ∷ 7 ∷ []) ++ note order 5 3 3 (codes "stap\0\0\0\0") (7 ∷ 7 ∷ 7 ∷ 0 ∷ []))
    None
unfolding spelled id_in is_id_note descriptor_at padding
no_id = ((refl, refl), (refl, refl), (refl, refl), (refl, refl))

-- a file with a build-id of 8 bytes in the second note of its section; a section that is loaded; two of one name; and the
-- link to a debug file
abbrev pub with_id : List ℕ
with_id =
    file_header 2 296 10 5 ++ (5 ∷ 6 ∷ 7 ∷ 0 ∷ []) ++ unit 16 0 (1 ∷ []) (0 ∷ 13 ∷ [])
    ++ (1 ∷ 17 ∷ 0 ∷ 3 ∷ 14 ∷ 27 ∷ 14 ∷ 0 ∷ 0 ∷ 0 ∷ []) ++ codes "/build/p/a.c\0/build/p\0"
    ++ codes "\0.debug_info\0.debug_abbrev\0.debug_str\0.shstrtab\0.note.gnu.build-id\0.comment\0.gnu_debuglink\0.rodata\0" ++ 0 ∷ []
    ++ note Little 4 1 1 gnu (7 ∷ 0 ∷ 0 ∷ 0 ∷ []) ++ note Little 4 8 3 gnu (17 ∷ 34 ∷ 51 ∷ 68 ∷ 85 ∷ 102 ∷ 119 ∷ 136 ∷ [])
    ++ codes "cc 1\0" ++ replicate 3 0 ++ codes "a.debug\0" ++ (1 ∷ 2 ∷ 3 ∷ 4 ∷ []) ++ codes "ld 2\0" ++ replicate 7 0
    ++ section_header 0 0 0 0 0 0 ++ section_header 91 1 2 64 4 4 ++ section_header 1 1 0 68 20 1 ++ section_header 13 1 0 88 10 1
    ++ section_header 27 1 0 98 22 1 ++ section_header 38 3 0 120 99 1 ++ section_header 48 7 0 220 44 4 ++ section_header 67 1 0 264 5 1
    ++ section_header 76 1 0 272 12 4 ++ section_header 67 1 0 284 5 1

-- its output
abbrev pub with_id_out : List ℕ
with_id_out =
    file_header 2 312 10 5 ++ (5 ∷ 6 ∷ 7 ∷ 0 ∷ []) ++ unit 16 0 (1 ∷ []) (0 ∷ 21 ∷ [])
    ++ (1 ∷ 17 ∷ 0 ∷ 3 ∷ 14 ∷ 27 ∷ 14 ∷ 0 ∷ 0 ∷ 0 ∷ []) ++ codes "/usr/src/debug/p/a.c\0/usr/src/debug/p\0"
    ++ codes "\0.debug_info\0.debug_abbrev\0.debug_str\0.shstrtab\0.note.gnu.build-id\0.comment\0.gnu_debuglink\0.rodata\0" ++ 0 ∷ []
    ++ note Little 4 1 1 gnu (7 ∷ 0 ∷ 0 ∷ 0 ∷ []) ++ note Little 4 8 3 gnu (17 ∷ 34 ∷ 51 ∷ 68 ∷ 85 ∷ 102 ∷ 119 ∷ 136 ∷ [])
    ++ codes "cc 1\0" ++ replicate 3 0 ++ codes "a.debug\0" ++ (1 ∷ 2 ∷ 3 ∷ 4 ∷ []) ++ codes "ld 2\0" ++ replicate 7 0
    ++ section_header 0 0 0 0 0 0 ++ section_header 91 1 2 64 4 4 ++ section_header 1 1 0 68 20 1 ++ section_header 13 1 0 88 10 1
    ++ section_header 27 1 0 98 38 1 ++ section_header 38 3 0 136 99 1 ++ section_header 48 7 0 236 44 4 ++ section_header 67 1 0 280 5 1
    ++ section_header 76 1 0 288 12 4 ++ section_header 67 1 0 300 5 1

-- a descriptor in the section of a number
abbrev pub id_at : ℕ → ℕ → ℕ → Option BuildId
id_at section place size = Some (record { section = section; descriptor = record { place = place; size = size } })

-- the build-id of both
pub with_id-id : (build_id_of with_id ≡ id_at 6 36 8) × (build_id_of with_id_out ≡ id_at 6 36 8)
unfolding spelled e_type e_phnum e_phoff e_shoff e_shentsize e_shnum e_shstrndx class_of order_of nth_section section_at
    section_count name_index name_table section_name contents_of contents_at text_in ends_in build_id_of is_id_section id_in
    is_id_note descriptor_at padding
with_id-id = (refl, refl)

-- of another type than notes the section has no build-id
abbrev pub untyped : List ℕ
untyped = changed 684 (1 ∷ []) with_id

pub untyped-no_id : build_id_of untyped ≡ None
unfolding spelled e_type e_phnum e_phoff e_shoff e_shentsize e_shnum e_shstrndx class_of order_of nth_section section_at
    section_count name_index name_table section_name contents_of contents_at text_in ends_in build_id_of is_id_section id_in
    is_id_note descriptor_at padding
untyped-no_id = refl

-- two sections of the name and type: the first counts, whose notes may be without a build-id
abbrev pub two_sections : ℕ → ℕ → List ℕ
two_sections first second =
    changed 904 (second ∷ [])
    (changed 896 (240 ∷ 0 ∷ []) (changed 872 (48 ∷ 0 ∷ 0 ∷ 0 ∷ 7 ∷ []) (changed 712 (first ∷ []) with_id)))

pub two_sections-first : (build_id_of (two_sections 44 24) ≡ id_at 6 36 8) × (build_id_of (two_sections 20 24) ≡ None)
unfolding spelled e_type e_phnum e_phoff e_shoff e_shentsize e_shnum e_shstrndx class_of order_of nth_section section_at
    section_count name_index name_table section_name contents_of contents_at text_in ends_in build_id_of is_id_section id_in
    is_id_note descriptor_at padding
two_sections-first = (refl, refl)

-- and where the first is of another type, the second does
pub two_sections-second : build_id_of (changed 684 (1 ∷ []) (two_sections 44 24)) ≡ id_at 9 16 8
unfolding spelled e_type e_phnum e_phoff e_shoff e_shentsize e_shnum e_shstrndx class_of order_of nth_section section_at
    section_count name_index name_table section_name contents_of contents_at text_in ends_in build_id_of is_id_section id_in
    is_id_note descriptor_at padding
two_sections-second = refl
