-- Where no row of the refusals of an ELF file holds, its records read: the other way round of what `ElfLaws` says.
use Rattle.std.proofs.Common.{◌≡◌, ◌≢◌, ℕ, ◌+◌, ◌*◌, ◌<◌, ◌≤◌, ◌==◌, ◌||◌, Bool, true, false, List, length, refl, arith, inl, inr}
use Rattle.std.specs.Int.{is_power_of_two}
use Rattle.std.proofs.lemmas.Bool.{cases_lt, cases_eq, or_left, or_right, eq-eqb}
use Rattle.dw_base.specs.Elf.{class_of, ehdr_size, phdr_size, shdr_size, e_phoff, e_shoff, e_phentsize, e_phnum, e_shentsize, nth_section, nth_segment, section_count, name_index, name_table, is_empty_kind}
use Rattle.dw_base.specs.ElfFails.{ident_byte, HeaderFails, HeaderReads, ShapeFails, ShapeReads, SegmentTableFails, SegmentTableReads, TableFails, TableReads, IndexFails, IndexReads, PlaceFails, PlaceReads, NameTableReads, SectionsFail, SectionsRead, SegmentFails, SegmentsRead, DebugFails, DebugReads, ElfFails, ElfReads}
use Rattle.dw_base.specs.ElfFails.HeaderFails.{short, magic, class, order, version}
use Rattle.dw_base.specs.ElfFails.ShapeFails.{shentsize, phentsize, phoff, many, rel}
use Rattle.dw_base.specs.ElfFails.SegmentTableFails.{past as segment_table_past}
use Rattle.dw_base.specs.ElfFails.TableFails.{first, past as table_past}
use Rattle.dw_base.specs.ElfFails.IndexFails.{none, null, absent, strings}
use Rattle.dw_base.specs.ElfFails.PlaceFails.{past as place_past, align}
use Rattle.dw_base.specs.ElfFails.SectionFails.{place, unended}
use Rattle.dw_base.specs.ElfFails.SectionsFail.{one}
use Rattle.dw_base.specs.ElfFails.SegmentFails.{past as segment_past}
use Rattle.dw_base.specs.ElfFails.DebugFails.{header, shape, segment_table, table, index, section}
use Rattle.dw_base.specs.ElfFails.ElfFails.{debug, segment}
use Rattle.dw_base.specs.Numbers.{spelled}
use Rattle.dw_base.specs.Texts.{ends_in}
use Rattle.dw_base.specs.declared.elf_numbers.TheConstants.{EI_CLASS, EI_DATA, EI_VERSION, ELFMAG, ELFCLASS32, ELFCLASS64, ELFDATA2LSB, ELFDATA2MSB, EV_CURRENT, SHT_NULL, SHT_STRTAB}
use Rattle.dw_base.specs.declared.fault.Refusal.{Refusal}
use Rattle.dw_base.specs.declared.records.Section.{Section}
use Rattle.dw_base.specs.declared.shared.Order.TheVariants.{Little}
use Rattle.dw_base.proofs.ElfLaws.{ehdr_size-least}

-- a number that isn't above a limit is within it
pub at_most : (limit n : ℕ) → (limit < n → ⊥) → n ≤ limit
at_most limit n h = elim (cases_lt limit n) [ inl lt ↦ absurd (h lt) | inr le ↦ le ]

-- one that doesn't reach a limit is below it
pub below : (limit n : ℕ) → (limit ≤ n → ⊥) → n < limit
below limit n h = elim (cases_lt n limit) [ inl lt ↦ lt | inr le ↦ absurd (h le) ]

-- one that isn't another is the same
pub same_number : (m n : ℕ) → (m ≢ n → ⊥) → m ≡ n
same_number m n h = elim (cases_eq m n) [ inl e ↦ e | inr differs ↦ absurd (h differs) ]

-- a test that isn't false is true
pub test_true : (t : Bool) → (t ≡ false → ⊥) → t ≡ true
test_true true h = refl
test_true false h = absurd (h refl)

-- one of two numbers
one_of : (x m n : ℕ) → (x ≢ m → x ≢ n → ⊥) → (x == m || x == n) ≡ true
one_of x m n h =
    elim (cases_eq x m) [
      | inl e ↦ or_left (x == m) (x == n) (eq-eqb x m e)
      | inr differs ↦ or_right (x == m) (x == n) (eq-eqb x n (same_number x n (h differs)))
    ]

header_reads : (b : List ℕ) → ((r : Refusal) → HeaderFails b r → ⊥) → HeaderReads b
header_reads b holds =
    let whole : ehdr_size (class_of b) ≤ length b = at_most (length b) (ehdr_size (class_of b)) (λ lt. holds _ (short lt)) in
    let least = ehdr_size-least (class_of b) in
    record {
      whole = whole;
      magic = same_number (spelled Little b 0 4) ELFMAG (λ differs. holds _ (magic differs));
      class = one_of (ident_byte b EI_CLASS) ELFCLASS32 ELFCLASS64 (λ x y. holds _ (class (omega arith) x y));
      order = one_of (ident_byte b EI_DATA) ELFDATA2LSB ELFDATA2MSB (λ x y. holds _ (order (omega arith) x y));
      version = same_number (ident_byte b EI_VERSION) EV_CURRENT (λ differs. holds _ (version (omega arith) differs));
    }

shape_reads : (b : List ℕ) → ((r : Refusal) → ShapeFails b r → ⊥) → ShapeReads b
shape_reads b holds = record {
  shentsize = λ some. same_number (e_shentsize b) (shdr_size (class_of b)) (λ differs. holds _ (shentsize some differs));
  phentsize = λ some. same_number (e_phentsize b) (phdr_size (class_of b)) (λ differs. holds _ (phentsize some differs));
  phoff = λ some more. at_most (e_phoff b) (ehdr_size (class_of b)) (λ lt. holds _ (phoff some more lt));
  many = λ e. holds _ (many e);
  rel = λ e. same_number (e_phnum b) 0 (λ differs. holds _ (rel e differs));
}

segment_table_reads : (b : List ℕ) → ((r : Refusal) → SegmentTableFails b r → ⊥) → SegmentTableReads b
segment_table_reads b holds = record {
  lies = λ some. at_most (length b) (e_phoff b + e_phnum b * phdr_size (class_of b)) (λ lt. holds _ (segment_table_past some lt));
}

table_reads : (b : List ℕ) → ((r : Refusal) → TableFails b r → ⊥) → TableReads b
table_reads b holds = record {
  first = λ some. at_most (length b) (e_shoff b + shdr_size (class_of b)) (λ lt. holds _ (first some lt));
  lies = λ some. at_most (length b) (e_shoff b + section_count b * shdr_size (class_of b)) (λ lt. holds _ (table_past some lt));
}

index_reads : (b : List ℕ) → ((r : Refusal) → IndexFails b r → ⊥) → IndexReads b
index_reads b holds = record {
  some = λ there e. holds _ (none there e);
  null = λ there. same_number (nth_section b 0).kind SHT_NULL (λ differs. holds _ (null there differs));
  there = λ some. below (section_count b) (name_index b) (λ le. holds _ (absent some le));
  strings = λ some. same_number (nth_section b (name_index b)).kind SHT_STRTAB (λ differs. holds _ (strings some differs));
}

place_reads : (b : List ℕ) (s : Section) (i : ℕ) → ((r : Refusal) → PlaceFails b s i r → ⊥) → PlaceReads b s
place_reads b s i holds = record {
  lies = λ full some. at_most (length b) (s.offset + s.size) (λ lt. holds _ (place_past full some lt));
  align = λ some. test_true (is_power_of_two s.align) (λ e. holds _ (align some e));
}

-- a string table takes room in the file
string_table-full : (s : Section) → s.kind ≡ SHT_STRTAB → is_empty_kind s ≡ false
string_table-full s e = rw e refl

name_table_reads : (b : List ℕ) → IndexReads b → ((i : ℕ) → i < section_count b → PlaceReads b (nth_section b i)) → NameTableReads b
name_table_reads b ok places = record {
  there = ok.there;
  strings = ok.strings;
  lies = λ some size. (places (name_index b) (ok.there some)).lies
      (string_table-full (nth_section b (name_index b)) (ok.strings some)) size;
}

sections_read : (b : List ℕ) → IndexReads b → ((r : Refusal) → SectionsFail b r → ⊥) → SectionsRead b
sections_read b ok holds = record { all = λ i lt. record { place = places i lt; name = names i lt } }
  where
    places : (i : ℕ) → i < section_count b → PlaceReads b (nth_section b i)
    places i lt = place_reads b (nth_section b i) i (λ r h. holds r (one i lt (place h)))

    names : (i : ℕ) → i < section_count b → name_index b ≢ 0 → ends_in (name_table b) (nth_section b i).name ≡ true
    names i lt some =
        test_true (ends_in (name_table b) (nth_section b i).name)
        (λ e. holds _ (one i lt (unended (name_table_reads b ok places) some e)))

segments_read : (b : List ℕ) → ((r : Refusal) → SegmentFails b r → ⊥) → SegmentsRead b
segments_read b holds = record {
  all = λ i lt. record {
    lies = λ some. at_most (length b) ((nth_segment b i).offset + (nth_segment b i).filesz) (λ past. holds _ (segment_past i lt some past));
  };
}

-- the same of a file of debug data
pub debug_reads : (b : List ℕ) → ((r : Refusal) → DebugFails b r → ⊥) → DebugReads b
debug_reads b holds =
    let head = header_reads b (λ r h. holds r (header h)) in
    let tab = table_reads b (λ r h. holds r (table head h)) in
    let names = index_reads b (λ r h. holds r (index head tab h)) in
    record {
      header = head;
      shape = shape_reads b (λ r h. holds r (shape head h));
      segment_table = segment_table_reads b (λ r h. holds r (segment_table head h));
      table = tab;
      index = names;
      sections = sections_read b names (λ r h. holds r (section head tab h));
    }

-- and of every file
pub elf_reads : (b : List ℕ) → ((r : Refusal) → ElfFails b r → ⊥) → ElfReads b
elf_reads b holds =
    let records = debug_reads b (λ r h. holds r (debug h)) in
    record {
      debug = records;
      segments = segments_read b (λ r h. holds r (segment records.header records.segment_table h));
    }
