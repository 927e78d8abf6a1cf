-- Laws of the records of a file that was read.
use Rattle.std.proofs.Common.{◌≡◌, ◌≢◌, ℕ, ◌+◌, ◌*◌, ◌^◌, ◌<◌, ◌≤◌, false, List, [], length, get_or, refl, ap, ◌∙◌, arith, inl, inr}
use Rattle.std.proofs.lemmas.Bool.{cases_lt}
use Rattle.std.proofs.Math.Seq.{drop-nil}
use Rattle.dw_base.specs.Elf.{class_of, e_phnum, e_shoff, shdr_size, is_empty_kind, name_index, nth_section, nth_segment, section_count, sections_of, segments_of}
use Rattle.dw_base.specs.ElfFails.{DebugReads}
use Rattle.dw_base.specs.Layout.{output_limit}
use Rattle.dw_base.specs.Texts.{text_in}
use Rattle.dw_base.specs.declared.records.Section.{Section}
use Rattle.dw_base.specs.declared.records.Segment.{Segment}
use Rattle.dw_base.specs.declared.shared.Class.{Class}
use Rattle.dw_base.specs.declared.shared.Class.TheVariants.{C32, C64}
use Rattle.dw_base.proofs.ElfLaws.{e_shoff-some}
use Rattle.dw_base.proofs.ListLaws.{length-tabulate, get_or-tabulate}

pub length-sections_of : (b : List ℕ) → length (sections_of b) ≡ section_count b
unfolding sections_of
length-sections_of b = length-tabulate _ (section_count b)

pub length-segments_of : (b : List ℕ) → length (segments_of b) ≡ e_phnum b
unfolding segments_of
length-segments_of b = length-tabulate _ (e_phnum b)

pub get_or-sections_of : (b : List ℕ) (i : ℕ) (s : Section) → i < section_count b → get_or (sections_of b) i s ≡ nth_section b i
unfolding sections_of
get_or-sections_of b i s lt = get_or-tabulate _ (section_count b) i s lt

pub get_or-segments_of : (b : List ℕ) (i : ℕ) (s : Segment) → i < e_phnum b → get_or (segments_of b) i s ≡ nth_segment b i
unfolding segments_of
get_or-segments_of b i s lt = get_or-tabulate _ (e_phnum b) i s lt

-- what stands at an index of the sections that were read is the section of that number
pub section-here : (b : List ℕ) (sections : List Section) (i : ℕ) (s : Section) → sections ≡ sections_of b → i < section_count b
    → s ≡ get_or sections i s → s ≡ nth_section b i
section-here b sections i s are lt e =
    e ∙ ap (λ (xs : List Section). get_or xs i s) are ∙ get_or-sections_of b i s lt

-- the bytes of a section are in the file
pub section-lies : (b : List ℕ) (i : ℕ) → DebugReads b → i < section_count b → is_empty_kind (nth_section b i) ≡ false
    → (nth_section b i).size ≢ 0 → (nth_section b i).offset + (nth_section b i).size ≤ length b
section-lies b i reads lt = (reads.sections.all i lt).place.lies

-- the name table is there
pub names-there : (b : List ℕ) → DebugReads b → name_index b ≢ 0 → name_index b < section_count b
names-there b reads = reads.index.there

-- no table, no text
pub text_in-nil : (place : ℕ) → text_in [] place ≡ []
unfolding text_in
text_in-nil place = rw (drop-nil place) refl

pub ruleset count_laws = (length-sections_of, length-segments_of)

pub ruleset file_laws = (get_or-sections_of, section-lies, names-there, text_in-nil)

-- section numbers have 32 bits in a file that was read
sections-few : (c : Class) (at count len : ℕ) → at + count * shdr_size c ≤ len → len ≤ output_limit → count < 2 ^ 32
sections-few C32 at count len lies small = omega arith
sections-few C64 at count len lies small = omega arith

pub section_count-few : (b : List ℕ) → DebugReads b → length b ≤ output_limit → section_count b < 2 ^ 32
section_count-few b reads small =
    elim (cases_lt 0 (section_count b)) [
      | inl some ↦ sections-few (class_of b) (e_shoff b) (section_count b) (length b) (reads.table.lies (e_shoff-some b 0 some)) small
      | inr none ↦ omega arith
    ]

pub ruleset number_laws = (section_count-few)
