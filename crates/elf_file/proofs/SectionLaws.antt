-- Laws of the sections' contents and of the name table.
use Rattle.std.proofs.Common.{◌≡◌, ◌≢◌, ℕ, ◌<◌, ◌≤◌, false, List, refl, arith}
use Rattle.dw_base.specs.Elf.{is_empty_kind, name_index, name_table, nth_section, section_count}
use Rattle.dw_base.specs.ElfFails.{IndexReads, PlaceReads, NameTableReads, SectionReads, SectionsFail}
use Rattle.dw_base.specs.ElfFails.SectionFails.{unended}
use Rattle.dw_base.specs.ElfFails.SectionsFail.{one}
use Rattle.dw_base.specs.Refusals.{at}
use Rattle.dw_base.specs.declared.fault.Kind.TheVariants.{Range}
use Rattle.dw_base.specs.declared.records.Section.{Section}
use Rattle.dw_base.specs.Texts.{IsNulEnd}
use Rattle.dw_base.proofs.NulLaws.{name-ends, name-unended}

-- a string table takes room
pub string_table-takes_room : (s : Section) → s.kind ≡ 3 → is_empty_kind s ≡ false
string_table-takes_room s e = rw e refl

-- the name table reads where its section lies in the file
pub name_table-reads : (b : List ℕ) → IndexReads b → (name_index b ≢ 0 → PlaceReads b (nth_section b (name_index b))) → NameTableReads b
name_table-reads b index place = record {
  there = index.there;
  strings = index.strings;
  lies = λ some size. (place some).lies (string_table-takes_room (nth_section b (name_index b)) (index.strings some)) size;
}

-- a section whose name doesn't begin before the last NUL of the name table
pub section-unended : (b : List ℕ) (i end place : ℕ) → NameTableReads b → i < section_count b → name_index b ≢ 0
    → IsNulEnd (name_table b) end → place ≡ (nth_section b i).name → end ≤ place → SectionsFail b (at Range i place)
section-unended b i end place reads lt some is e le =
    rw e (one i lt (unended reads some (name-unended (name_table b) end (nth_section b i).name is (omega arith))))

-- a section in its place whose name begins before it
pub section-reads : (b : List ℕ) (s : Section) (end : ℕ) → PlaceReads b s → IsNulEnd (name_table b) end → (name_index b ≢ 0 → s.name < end)
    → SectionReads b s
section-reads b s end place is lt = record {
  place = place;
  name = λ some. name-ends (name_table b) end s.name is (lt some);
}

pub ruleset end_laws = (section-unended, section-reads)

pub ruleset name_table_laws = (string_table-takes_room, name_table-reads)

pub ruleset contents_laws = (string_table-takes_room)
