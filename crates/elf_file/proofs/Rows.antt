-- The rows of refusals, each group as a set of rules for the functions that refuse by it.
use Rattle.std.proofs.Common.{◌≡◌, ◌≢◌, ℕ, List}
use Rattle.dw_base.specs.ElfFails.{HeaderReads}
use Rattle.dw_base.specs.Numbers.{spelled}
use Rattle.dw_base.specs.Refusals.{at}
use Rattle.dw_base.specs.declared.elf_numbers.TheConstants.{ELFMAG}
use Rattle.dw_base.specs.declared.fault.Fault.{Fault}
use Rattle.dw_base.specs.declared.fault.Fault.TheVariants.{Refused}
use Rattle.dw_base.specs.declared.fault.Kind.TheVariants.{Header}
use Rattle.dw_base.specs.declared.shared.Order.TheVariants.{Little}
use Rattle.dw_base.specs.ElfFails.HeaderFails.{short, magic, class, order, version}
use Rattle.dw_base.specs.ElfFails.ShapeFails.{shentsize, phentsize, phoff, many, rel}
use Rattle.dw_base.specs.ElfFails.SegmentTableFails.{past as segment_table_past}
use Rattle.dw_base.specs.ElfFails.TableFails.{first, past as table_past}
use Rattle.dw_base.specs.ElfFails.IndexFails.{none, null, absent, strings}
use Rattle.dw_base.specs.ElfFails.PlaceFails.{past as place_past, align}
use Rattle.dw_base.specs.ElfFails.SectionFails.{place, unended}
use Rattle.dw_base.specs.ElfFails.SectionsFail.{one}
use Rattle.dw_base.specs.ElfFails.SegmentFails.{past as segment_past}
use Rattle.dw_base.specs.ElfFails.DebugFails.{header, shape, segment_table, table, index, section}
use Rattle.dw_base.specs.ElfFails.ElfFails.{debug, segment}
use Rattle.dw_base.proofs.ElfLaws.{ehdr_size-least, section_place, segment_place, section_count-none, name_index-none, first_place}

-- a header that reads begins with the magic bytes, whatever is said of another
pub magic_reads : (b : List ℕ) (f : Fault) → HeaderReads b → spelled Little b 0 4 ≢ ELFMAG → f ≡ Refused (at Header 0 0)
magic_reads b f reads other = absurd (other reads.magic)

pub ruleset header_rows = (short, magic, class, order, version, ehdr_size-least)

pub ruleset shape_rows = (shentsize, phentsize, phoff, many, rel)

pub ruleset segment_table_rows = (segment_table_past)

pub ruleset table_rows = (first, table_past, section_count-none)

pub ruleset table_laws = (section_place, segment_place, first_place)

pub ruleset index_rows = (none, null, absent, strings, name_index-none, section_count-none)

pub ruleset place_rows = (place_past, align)

pub ruleset section_rows = (place, unended, one)

pub ruleset segment_rows = (segment_past)

pub ruleset debug_rows = (magic_reads, header, shape, segment_table, table, index, section)

pub ruleset elf_rows = (magic_reads, header, shape, segment_table, table, index, section, debug, segment)
