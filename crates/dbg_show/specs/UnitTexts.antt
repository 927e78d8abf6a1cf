-- The text of units: of each its number, the name of its section and its head, and its entries in the order of their places, each with its
-- attributes (DWARF 5, 2.2, 2.3 and 7.5).
use Rattle.std.specs.Prelude.{false, ℕ, ℤ, suc, ◌+◌, ◌==◌, nat_lt, if◌then◌else◌, List, [], ◌∷◌, ◌++◌, codes}
use Rattle.std.specs.Fmt.{decimal, digits, signed_decimal}
use Rattle.dw_base.specs.Cells.{bytes_of}
use Rattle.dw_base.specs.DebugSections.{name_of}
use Rattle.dw_base.specs.Forests.{AttributeMeaning, Forest, no_entries, entry, HeadMeaning}
use Rattle.dw_base.specs.UnitHeaders.{SectionKind, in_info, in_types, UnitSection}
use Rattle.dw_base.specs.UnitMeanings.{UnitMeaning}
use Rattle.dw_base.specs.ValueMeanings.{ValueMeaning, string, entry_of, stray, table_number, macro_number, raw, signed_number, of_class}
use Rattle.dw_base.specs.declared.debug_sections.DebugSection.TheVariants.{Info, Types}
use Rattle.dw_base.specs.declared.dwarf_numbers.TheConstants.{DW_UT_type}
use Rattle.dw_base.specs.declared.shared.Width.{Width}
use Rattle.dw_base.specs.declared.shared.Width.TheVariants.{W32, W64}
use Rattle.dw_base.specs.declared.values.ValueClass.{ValueClass}
use Rattle.dw_base.specs.declared.values.ValueClass.TheVariants.{Address, Number, Flag, AddrIndex, ListIndex, Signature, SecOffset}
use Rattle.dw_base.specs.declared.view_fields.Field.{Field}
use Rattle.dw_base.specs.declared.view_fields.Field.TheVariants.{Num, Into, Sym}
use Rattle.dbg_show.specs.Quoting.{quoted}
use Rattle.dw_attrs.specs.Sayings.{Saying, said_text, said_entry, said_stray, said_lines, said_macros, said_bytes, said_signed, said_field}

-- a byte by two lower-case hexadecimal digits, and bytes one after another
unfoldable pub byte_digits : ℕ → List ℕ
byte_digits b = if nat_lt b 0x10 then codes "0" ++ digits 16 false b else digits 16 false b

abbrev pub bytes_digits : List ℕ → List ℕ
bytes_digits [] = []
bytes_digits (b ∷ bs) = byte_digits b ++ bytes_digits bs

-- what a value says: a text, the entry of a number in the unit of a number, an offset at which no entry starts, the line table or the macro
-- unit of a number, a signed number, or bytes
abbrev pub text_said : List ℕ → List ℕ
text_said text = codes "text " ++ quoted text

unfoldable pub entry_said : ℕ → ℕ → List ℕ
entry_said unit number = codes "entry " ++ (decimal unit ++ (codes ":" ++ decimal number))

unfoldable pub stray_said : ℕ → List ℕ
stray_said offset = codes "stray " ++ decimal offset

unfoldable pub lines_said : ℕ → List ℕ
lines_said number = codes "lines " ++ decimal number

unfoldable pub macros_said : ℕ → List ℕ
macros_said number = codes "macros " ++ decimal number

unfoldable pub signed_said : ℤ → List ℕ
signed_said number = codes "signed " ++ signed_decimal number

abbrev pub bytes_said : List ℕ → List ℕ
bytes_said bytes = codes "bytes " ++ bytes_digits bytes

-- a flag: 0, or 1 for every other number
unfoldable pub flag_said : ℕ → List ℕ
flag_said n = if n == 0 then codes "flag 0" else codes "flag 1"

unfoldable pub number_said : ℕ → List ℕ
number_said n = codes "number " ++ decimal n

unfoldable pub address_said : ℕ → List ℕ
address_said n = codes "address 0x" ++ digits 16 false n

unfoldable pub index_said : ℕ → List ℕ
index_said n = codes "index " ++ decimal n

unfoldable pub signature_said : ℕ → List ℕ
signature_said n = codes "signature 0x" ++ digits 16 false n

unfoldable pub offset_said : ℕ → List ℕ
offset_said n = codes "offset " ++ decimal n

-- a number of a class; what values of the other classes mean is said in other words
abbrev pub class_said : ValueClass → ℕ → List ℕ
class_said Address n = address_said n
class_said Number n = number_said n
class_said Flag n = flag_said n
class_said AddrIndex n = index_said n
class_said ListIndex n = index_said n
class_said Signature n = signature_said n
class_said SecOffset n = offset_said n
class_said class n = []

-- symbol, type and addend of a relocation
unfoldable pub relocation_said : ℕ → ℕ → ℤ → List ℕ
relocation_said symbol kind addend = codes "symbol " ++ (decimal symbol ++ (codes " type " ++ (decimal kind ++ (codes " addend " ++ signed_decimal addend))))

-- what a field of a class says; of one into a section its offset there
abbrev pub field_said : ValueClass → Field → List ℕ
field_said class (Num n) = class_said class n
field_said class (Into section n) = class_said class n
field_said class (Sym symbol kind addend) = relocation_said symbol kind addend

-- what is said, as it is printed
abbrev pub saying_text : Saying → List ℕ
saying_text (said_text text) = text_said text
saying_text (said_entry unit number) = entry_said unit number
saying_text (said_stray offset) = stray_said offset
saying_text (said_lines number) = lines_said number
saying_text (said_macros number) = macros_said number
saying_text (said_bytes bytes) = bytes_said bytes
saying_text (said_signed number) = signed_said number
saying_text (said_field class field) = field_said class field

-- what a value means, as it is said
abbrev pub value_said : ValueMeaning → List ℕ
value_said (string path form text) = text_said text
value_said (entry_of unit number) = entry_said unit number
value_said (stray offset) = stray_said offset
value_said (table_number number) = lines_said number
value_said (macro_number number) = macros_said number
value_said (raw cells) = bytes_said (bytes_of cells)
value_said (signed_number number) = signed_said number
value_said (of_class class field) = field_said class field

-- an attribute: its name, and what its value says
unfoldable pub attribute_front : ℕ → List ℕ
attribute_front name = codes "attr 0x" ++ (digits 16 false name ++ codes " ")

abbrev pub attribute_line : ℕ → List ℕ → List ℕ
attribute_line name said = attribute_front name ++ (said ++ codes "\n")

abbrev pub attributes_text : List AttributeMeaning → List ℕ
attributes_text [] = []
attributes_text (a ∷ rest) = attribute_line a.name (value_said a.value) ++ attributes_text rest

-- an entry: its number in its unit, how many entries it stands in, and its tag
unfoldable pub entry_line : ℕ → ℕ → ℕ → List ℕ
entry_line number depth tag =
    codes "entry " ++ (decimal number ++ (codes " depth " ++ (decimal depth ++ (codes " tag 0x" ++ (digits 16 false tag ++ codes "\n")))))

-- how many entries a forest has
abbrev pub entry_count : Forest → ℕ
entry_count no_entries = 0
entry_count (entry tag attributes children siblings) = suc (entry_count children + entry_count siblings)

-- the entries of a forest, numbered on, each before its children
abbrev pub forest_text : ℕ → ℕ → Forest → List ℕ
forest_text number depth no_entries = []
forest_text number depth (entry tag attributes children siblings) =
    entry_line number depth tag ++ (attributes_text attributes
    ++ (forest_text (number + 1) (depth + 1) children ++ forest_text (number + 1 + entry_count children) depth siblings))

-- the name of the section of units that has a number (DWARF 5, 7.5.1; before version 5 .debug_types too)
abbrev pub kind_name : SectionKind → List ℕ
kind_name in_info = name_of Info
kind_name in_types = name_of Types

abbrev pub section_name : List UnitSection → ℕ → List ℕ
section_name [] section = []
section_name (z ∷ zs) section = if z.number == section then kind_name z.kind else section_name zs section

-- how many bits the offsets of a unit have (DWARF 5, 7.4)
abbrev pub width_bits : Width → ℕ
width_bits W32 = 32
width_bits W64 = 64

-- the signature of a unit of a type
unfoldable pub signature_text : ℕ → ℕ → List ℕ
signature_text kind signature = if kind == DW_UT_type then codes " signature 0x" ++ digits 16 false signature else []

unfoldable pub unit_front : ℕ → List ℕ
unit_front number = codes "unit " ++ (decimal number ++ codes " ")

unfoldable pub unit_params : ℕ → ℕ → ℕ → List ℕ
unit_params version bits address = codes " version " ++ (decimal version ++ (codes " bits " ++ (decimal bits ++ (codes " address " ++ decimal address))))

-- the first line of the unit of a number, in a section of a name
abbrev pub unit_line : ℕ → List ℕ → ℕ → Width → ℕ → ℕ → ℕ → List ℕ
unit_line number section version width address kind signature =
    unit_front number ++ (section ++ (unit_params version (width_bits width) address ++ (signature_text kind signature ++ codes "\n")))

abbrev pub head_line : ℕ → List ℕ → HeadMeaning → List ℕ
head_line number section h = unit_line number section h.version h.width h.address h.kind h.signature

-- the unit of a number, among the unit sections of its file
abbrev pub unit_text : List UnitSection → ℕ → UnitMeaning → List ℕ
unit_text sections number u = head_line number (section_name sections u.section) u.head ++ forest_text 0 0 u.entries

-- units, numbered on
abbrev pub units_text : List UnitSection → ℕ → List UnitMeaning → List ℕ
units_text sections number [] = []
units_text sections number (u ∷ us) = unit_text sections number u ++ units_text sections (number + 1) us
