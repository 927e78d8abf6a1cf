-- The sections of a debug file and the stripped file that links to it, as one view: this project's profile of GNU debugging
-- information in separate files. They have the numbers of the debug file. A section with bytes there counts from there; the
-- k-th of a name that has none there stands for the k-th of that name in the stripped file, and is empty where there is none.
use Rattle.std.specs.Prelude.{Bool, false, ℕ, zero, suc, ◌+◌, ◌==◌, ◌&&◌, not, if◌then◌else◌, List, [], Option, Some, None}
use Rattle.dw_base.specs.Elf.{order_of, nth_section, section_count, section_name, contents_of, is_empty_kind}
use Rattle.dw_base.specs.FileViews.{View, ViewSection, is_name_section, plain_contents, view_section}
use Rattle.dw_base.specs.Layout.{is_alloc}
use Rattle.dw_base.specs.Lists.{tabulate}
use Rattle.dw_base.specs.Notes.{BuildId, build_id_of, first_below, or_this}
use Rattle.dw_base.specs.RelocationSectionFails.{relocates_read}
use Rattle.dw_base.specs.SectionRelocations.{relocations_of}
use Rattle.dw_base.specs.Texts.{same_text}
use Rattle.dw_base.specs.declared.elf_numbers.TheConstants.{SHT_NULL, SHT_NOBITS}

-- how many of the numbers below a bound pass a test
abbrev pub count_below : (ℕ → Bool) → ℕ → ℕ
count_below test zero = 0
count_below test (suc n) = if test n then count_below test n + 1 else count_below test n

-- the number below a bound that passes a test behind k others that do
abbrev pub nth_below : (ℕ → Bool) → ℕ → ℕ → Option ℕ
nth_below test k zero = None
nth_below test k (suc n) = or_this (nth_below test k n) n (test n && count_below test n == k)

-- the section of a number of a debug file stands for one of the stripped file: it is of type NOBITS, not ALLOC, and not the
-- section name table
abbrev pub is_elsewhere : List ℕ → ℕ → Bool
is_elsewhere debug i = (nth_section debug i).kind == SHT_NOBITS && not (is_alloc (nth_section debug i)) && not (is_name_section debug i)

-- one may stand for the section of a number of a stripped file: it is not ALLOC, not of type NULL, and not the section name
-- table
abbrev pub is_counted : List ℕ → ℕ → Bool
is_counted stripped i = not (is_alloc (nth_section stripped i)) && not ((nth_section stripped i).kind == SHT_NULL) && not (is_name_section stripped i)

-- it has this name, too
unfoldable pub is_elsewhere_named : List ℕ → List ℕ → ℕ → Bool
is_elsewhere_named debug name i = is_elsewhere debug i && same_text (section_name debug i) name

unfoldable pub is_counted_named : List ℕ → List ℕ → ℕ → Bool
is_counted_named stripped name i = is_counted stripped i && same_text (section_name stripped i) name

-- the section of the stripped file for which the one of a number of the debug file stands
unfoldable pub stands_for : List ℕ → List ℕ → ℕ → Option ℕ
stands_for debug stripped i =
    nth_below (is_counted_named stripped (section_name debug i)) (count_below (is_elsewhere_named debug (section_name debug i)) i) (section_count stripped)

-- the bytes of a section of a file, none where there is no such section; and whether it has any in the file
abbrev pub found_contents : List ℕ → Option ℕ → List ℕ
found_contents b None = []
found_contents b (Some i) = contents_of b i

abbrev pub found_bytes : List ℕ → Option ℕ → Bool
found_bytes b None = false
found_bytes b (Some i) = not (is_empty_kind (nth_section b i))

-- the section of a number with the bytes of that for which it stands. Relocations are those of the debug file: a section that holds
-- some, and a symbol table, has its bytes there.
abbrev pub joined_section : List ℕ → List ℕ → ℕ → ViewSection
joined_section debug stripped i = record {
  name = section_name debug i;
  alloc = is_alloc (nth_section debug i);
  is_name_table = is_name_section debug i;
  has_bytes = found_bytes stripped (stands_for debug stripped i);
  contents = plain_contents (found_contents stripped (stands_for debug stripped i));
  relocations = relocations_of (contents_of debug) debug i;
  relocates_read = relocates_read debug i;
}

-- the section of a number of a pair
unfoldable pub pair_section : List ℕ → List ℕ → ℕ → ViewSection
pair_section debug stripped i = if is_elsewhere debug i then joined_section debug stripped i else view_section debug i

-- the section of a number of the debug file stands for the one of this number of the stripped file
abbrev pub is_number : Option ℕ → ℕ → Bool
is_number None j = false
is_number (Some k) j = k == j

unfoldable pub is_stand_in : List ℕ → List ℕ → ℕ → ℕ → Bool
is_stand_in debug stripped j i = is_elsewhere debug i && is_number (stands_for debug stripped i) j

-- the section of the debug file that stands for the one of this number of the stripped file
unfoldable pub stand_in : List ℕ → List ℕ → ℕ → Option ℕ
stand_in debug stripped j = first_below (is_stand_in debug stripped j) (section_count debug)

-- the build-id of a pair: that of the stripped file, in the section that stands for its own. Where none does, no section of the
-- pair has its bytes: those of an ALLOC note, or of one with bytes in the debug file, count from there.
abbrev pub id_at : BuildId → Option ℕ → Option BuildId
id_at id None = None
id_at id (Some i) = Some (record id { section = i })

abbrev pub moved_id : List ℕ → List ℕ → Option BuildId → Option BuildId
moved_id debug stripped None = None
moved_id debug stripped (Some id) = id_at id (stand_in debug stripped id.section)

-- the view of a pair: the byte order and the numbers of the debug file
unfoldable pub pair_view : List ℕ → List ℕ → View
pair_view debug stripped = record {
  order = order_of debug;
  sections = tabulate (pair_section debug stripped) (section_count debug);
  id = moved_id debug stripped (build_id_of stripped);
}
