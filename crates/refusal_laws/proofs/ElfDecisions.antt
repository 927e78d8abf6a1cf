-- The records of a file can be read, or a condition holds (gABI ch. 4 and 5).
use Rattle.std.proofs.Common.{true, false, ◌≡◌, ◌≢◌, ℕ, ◌+◌, ◌*◌, ◌<◌, ◌≤◌, ◌==◌, ◌||◌, List, length, IsTrue, ap, arith}
use Rattle.std.proofs.lemmas.Bool.{eqb-false, or_parts}
use Rattle.std.specs.Int.{is_power_of_two}
use Rattle.dw_base.specs.Elf.{class_of, ehdr_size, phdr_size, shdr_size, phoff_place, shoff_place, phentsize_place, phnum_place, shentsize_place, shnum_place, shstrndx_place, e_type, e_phoff, e_shoff, e_phentsize, e_phnum, e_shentsize, nth_section, nth_segment, section_count, name_index, name_table, is_empty_kind}
use Rattle.dw_base.specs.ElfFails.{ident_byte, HeaderFails, short, magic, class, order, version, HeaderReads, ShapeFails, shentsize, phentsize, phoff, many, rel, ShapeReads, SegmentTableFails, SegmentTableReads, TableFails, first, TableReads, IndexFails, none, null, absent, strings, IndexReads, PlaceFails, align, PlaceReads, NameTableReads, SectionFails, place, unended, SectionsFail, one, SectionsRead, SegmentFails, SegmentReads, SegmentsRead, DebugFails, DebugReads, ElfFails, ElfReads}
use Rattle.dw_base.specs.ElfFails.SegmentTableFails.{past as past_segments}
use Rattle.dw_base.specs.ElfFails.TableFails.{past as past_sections}
use Rattle.dw_base.specs.ElfFails.PlaceFails.{past as past_section}
use Rattle.dw_base.specs.ElfFails.SegmentFails.{past as past_segment}
use Rattle.dw_base.specs.ElfFails.DebugFails.{header as no_header, shape as no_shape, segment_table as no_segment_table, table as no_table, index as no_index, section as no_section}
use Rattle.dw_base.specs.ElfFails.ElfFails.{debug as no_records, segment as no_segment}
use Rattle.dw_base.specs.Numbers.{spelled}
use Rattle.dw_base.specs.Refusals.{at}
use Rattle.dw_base.specs.Texts.{ends_in}
use Rattle.dw_base.specs.declared.elf_numbers.TheConstants.{EI_CLASS, EI_DATA, EI_VERSION, ELFMAG, ELFCLASS32, ELFCLASS64, ELFDATA2LSB, ELFDATA2MSB, EV_CURRENT, ET_REL, PN_XNUM, SHT_NOBITS, SHT_NULL, SHT_STRTAB}
use Rattle.dw_base.specs.declared.fault.Kind.TheVariants.{Header, Range}
use Rattle.dw_base.specs.declared.fault.Refusal.{Refusal}
use Rattle.dw_base.specs.declared.records.Section.{Section}
use Rattle.dw_base.specs.declared.shared.Class.{Class}
use Rattle.dw_base.specs.declared.shared.Class.TheVariants.{C32, C64}
use Rattle.dw_base.specs.declared.shared.Order.TheVariants.{Little}
use Rattle.refusal_laws.specs.Decided.{Decided, SomeFails, some_fails}
use Rattle.refusal_laws.proofs.Decisions.{decided-by, decided-among, decided-both, decided-each, decided-same, decided-other, decided-most, decided-below, decided-true, decided-some, decided-at, decided-not}

-- a file header is longer than its identification
long : (c : Class) → 7 ≤ ehdr_size c
long C32 = omega arith
long C64 = omega arith

-- a number is one of two
either : {F : Refusal → Type 0} → (n a b : ℕ) (r : Refusal) → (n ≢ a → n ≢ b → F r) → Decided (IsTrue (n == a || n == b)) F
either {F} n a b r fails = decided-true (n == a || n == b) r
    (λ (e : (n == a || n == b) ≡ false).
    let parts = or_parts (n == a) (n == b) e in
    fails (λ (same : n ≡ a). eqb-false n a parts.0 same) (λ (same : n ≡ b). eqb-false n b parts.1 same))

pub header-decided : (b : List ℕ) → Decided (HeaderReads b) (HeaderFails b)
header-decided b =
    decided-by (λ p. record { whole = p.first; magic = p.second.first; class = p.second.second.first; order = p.second.second.second.first; version = p.second.second.second.second })
    (decided-both (decided-most (ehdr_size (class_of b)) (length b) (at Header 0 0) short) (λ (whole : ehdr_size (class_of b) ≤ length b).
    let size : 7 ≤ length b = (let least = long (class_of b) in omega (arith, least, whole)) in
    decided-both (decided-same (spelled Little b 0 4) ELFMAG (at Header 0 0) magic) (λ same.
    decided-both (either (ident_byte b EI_CLASS) ELFCLASS32 ELFCLASS64 (at Header 0 EI_CLASS) (class (omega (arith, size)))) (λ kind.
    decided-both (either (ident_byte b EI_DATA) ELFDATA2LSB ELFDATA2MSB (at Header 0 EI_DATA) (order (omega (arith, size)))) (λ way.
    decided-same (ident_byte b EI_VERSION) EV_CURRENT (at Header 0 EI_VERSION) (version (omega (arith, size))))))))

pub shape-decided : (b : List ℕ) → Decided (ShapeReads b) (ShapeFails b)
shape-decided b =
    decided-by (λ p. record { shentsize = p.first; phentsize = p.second.first; phoff = p.second.second.first; many = p.second.second.second.first; rel = p.second.second.second.second })
    (decided-both (decided-some (e_shoff b) (λ some. decided-same (e_shentsize b) (shdr_size (class_of b)) (at Header 0 (shentsize_place (class_of b))) (shentsize some))) (λ p.
    decided-both (decided-some (e_phnum b) (λ some. decided-same (e_phentsize b) (phdr_size (class_of b)) (at Header 0 (phentsize_place (class_of b))) (phentsize some))) (λ q.
    decided-both (decided-some (e_shoff b) (λ some. decided-some (e_phnum b) (λ more.
    decided-most (ehdr_size (class_of b)) (e_phoff b) (at Header 0 (phoff_place (class_of b))) (phoff some more)))) (λ s.
    decided-both (decided-other (e_phnum b) PN_XNUM (at Header 0 (phnum_place (class_of b))) many) (λ t.
    decided-at (e_type b) ET_REL (λ is. decided-same (e_phnum b) 0 (at Header 0 (phnum_place (class_of b))) (rel is)))))))

pub segment_table-decided : (b : List ℕ) → Decided (SegmentTableReads b) (SegmentTableFails b)
segment_table-decided b =
    decided-by (λ p. record { lies = p })
    (decided-some (e_phnum b) (λ some. decided-most (e_phoff b + e_phnum b * phdr_size (class_of b)) (length b) (at Range 0 (e_phoff b)) (past_segments some)))

pub table-decided : (b : List ℕ) → Decided (TableReads b) (TableFails b)
table-decided b =
    decided-by (λ p. record { first = p.first; lies = p.second })
    (decided-both (decided-some (e_shoff b) (λ some. decided-most (e_shoff b + shdr_size (class_of b)) (length b) (at Range 0 (e_shoff b)) (first some))) (λ p.
    decided-some (e_shoff b) (λ some. decided-most (e_shoff b + section_count b * shdr_size (class_of b)) (length b) (at Range 0 (e_shoff b)) (past_sections some))))

pub index-decided : (b : List ℕ) → Decided (IndexReads b) (IndexFails b)
index-decided b =
    decided-by (λ p. record { some = p.first; null = p.second.first; there = p.second.second.first; strings = p.second.second.second })
    (decided-both (decided-some (e_shoff b) (λ some. decided-other (section_count b) 0 (at Header 0 (shnum_place (class_of b))) (none some))) (λ p.
    decided-both (decided-some (e_shoff b) (λ some. decided-same (nth_section b 0).kind SHT_NULL (at Header 0 (shoff_place (class_of b))) (null some))) (λ q.
    decided-both (decided-some (name_index b) (λ some. decided-below (name_index b) (section_count b) (at Header 0 (shstrndx_place (class_of b))) (absent some))) (λ s.
    decided-some (name_index b) (λ some. decided-same (nth_section b (name_index b)).kind SHT_STRTAB (at Header 0 (shstrndx_place (class_of b))) (strings some))))))

pub place-decided : (b : List ℕ) (s : Section) (i : ℕ) → Decided (PlaceReads b s) (PlaceFails b s i)
place-decided b s i =
    decided-by (λ p. record { lies = p.first; align = p.second })
    (decided-both (decided-not (is_empty_kind s) (λ bytes. decided-some s.size (λ some. decided-most (s.offset + s.size) (length b) (at Range i 0) (past_section bytes some)))) (λ p.
    decided-some s.align (λ some. decided-true (is_power_of_two s.align) (at Range i 0) (align some))))

-- a table of names that lies in the file
names-read : (b : List ℕ) → IndexReads b → ((i : ℕ) → i < section_count b → PlaceReads b (nth_section b i)) → NameTableReads b
names-read b x places = record {
  there = x.there;
  strings = x.strings;
  lies = λ some size.
      let bytes : is_empty_kind (nth_section b (name_index b)) ≡ false = ap (λ (k : ℕ). k == SHT_NULL || k == SHT_NOBITS) (x.strings some) in
      (places (name_index b) (x.there some)).lies bytes size;
}

sections-fail : (b : List ℕ) (r : Refusal) → SomeFails (section_count b) (λ i. SectionFails b (nth_section b i) i) r → SectionsFail b r
sections-fail b r (some_fails i lt h) = one i lt h

places-decided : (b : List ℕ) → Decided ((i : ℕ) → i < section_count b → PlaceReads b (nth_section b i)) (SectionsFail b)
places-decided b =
    decided-among (sections-fail b)
    (decided-each {P = λ (i : ℕ). PlaceReads b (nth_section b i)} {F = λ (i : ℕ). SectionFails b (nth_section b i) i} (section_count b)
    (λ i lt. decided-among (λ r h. place h) (place-decided b (nth_section b i) i)))

names-decided : (b : List ℕ) → NameTableReads b
    → Decided ((i : ℕ) → i < section_count b → name_index b ≢ 0 → ends_in (name_table b) (nth_section b i).name ≡ true) (SectionsFail b)
names-decided b names =
    decided-among (sections-fail b)
    (decided-each {P = λ (i : ℕ). name_index b ≢ 0 → ends_in (name_table b) (nth_section b i).name ≡ true} {F = λ (i : ℕ). SectionFails b (nth_section b i) i} (section_count b)
    (λ i lt. decided-some (name_index b) (λ some.
    decided-true (ends_in (name_table b) (nth_section b i).name) (at Range i (nth_section b i).name) (unended names some))))

pub sections-decided : (b : List ℕ) → IndexReads b → Decided (SectionsRead b) (SectionsFail b)
sections-decided b x =
    decided-by (λ p. record { all = λ i lt. record { place = p.first i lt; name = p.second i lt } })
    (decided-both (places-decided b) (λ places. names-decided b (names-read b x places)))

segments-fail : (b : List ℕ) (r : Refusal) → SomeFails (e_phnum b) (λ i. SegmentFails b) r → SegmentFails b r
segments-fail b r (some_fails i lt h) = h

pub segments-decided : (b : List ℕ) → Decided (SegmentsRead b) (SegmentFails b)
segments-decided b =
    decided-by (λ p. record { all = p })
    (decided-among (segments-fail b)
    (decided-each {P = λ (i : ℕ). SegmentReads b (nth_segment b i)} {F = λ (i : ℕ). SegmentFails b} (e_phnum b)
    (λ i lt. decided-by (λ lies. record { lies = lies })
    (decided-some (nth_segment b i).filesz (λ some.
    decided-most ((nth_segment b i).offset + (nth_segment b i).filesz) (length b) (at Range 0 (e_phoff b + i * phdr_size (class_of b))) (past_segment i lt some))))))

-- the records as a file of debug data has them, and as every other has
pub debug-decided : (b : List ℕ) → Decided (DebugReads b) (DebugFails b)
debug-decided b =
    decided-by (λ p. record {
      header = p.first;
      shape = p.second.first;
      segment_table = p.second.second.first;
      table = p.second.second.second.first;
      index = p.second.second.second.second.first;
      sections = p.second.second.second.second.second;
    })
    (decided-both (decided-among (λ r f. no_header f) (header-decided b)) (λ h.
    decided-both (decided-among (λ r f. no_shape h f) (shape-decided b)) (λ s.
    decided-both (decided-among (λ r f. no_segment_table h f) (segment_table-decided b)) (λ g.
    decided-both (decided-among (λ r f. no_table h f) (table-decided b)) (λ t.
    decided-both (decided-among (λ r f. no_index h t f) (index-decided b)) (λ x.
    decided-among (λ r f. no_section h t f) (sections-decided b x)))))))

pub elf-decided : (b : List ℕ) → Decided (ElfReads b) (ElfFails b)
elf-decided b =
    decided-by (λ p. record { debug = p.first; segments = p.second })
    (decided-both (decided-among (λ r f. no_records f) (debug-decided b)) (λ d.
    decided-among (λ r f. no_segment d.header d.segment_table f) (segments-decided b)))
