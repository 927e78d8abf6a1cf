-- What a value says (DWARF 5, 7.5.5): what it means, but for how a text is held and whether it is a source path, and for relocations among bytes.
use Rattle.std.specs.Prelude.{ℕ, ℤ, List}
use Rattle.dw_base.specs.Cells.{bytes_of}
use Rattle.dw_base.specs.ValueMeanings.{ValueMeaning, string, entry_of, stray, table_number, macro_number, raw, signed_number, of_class}
use Rattle.dw_base.specs.declared.values.ValueClass.{ValueClass}
use Rattle.dw_base.specs.declared.view_fields.Field.{Field}
use Rattle.dw_attrs.specs.declared.sayings.Said.{Said}
use Rattle.dw_attrs.specs.declared.sayings.Said.TheVariants as said

-- a text, the entry of a number in the unit of a number, an offset at which no entry starts, the line table or the macro unit of a number, bytes, a
-- signed number, or a field of a class
pub data Saying : Type 0 where
  said_text : List ℕ → Saying
  said_entry : ℕ → ℕ → Saying
  said_stray : ℕ → Saying
  said_lines : ℕ → Saying
  said_macros : ℕ → Saying
  said_bytes : List ℕ → Saying
  said_signed : ℤ → Saying
  said_field : ValueClass → Field → Saying

-- what a meaning says
abbrev pub said_of : ValueMeaning → Saying
said_of (string path form text) = said_text text
said_of (entry_of unit number) = said_entry unit number
said_of (stray offset) = said_stray offset
said_of (table_number number) = said_lines number
said_of (macro_number number) = said_macros number
said_of (raw cells) = said_bytes (bytes_of cells)
said_of (signed_number number) = said_signed number
said_of (of_class class field) = said_field class field

-- the same as the code has it
abbrev pub saying : Said → Saying
saying (said.Text bytes) = said_text bytes.now
saying (said.Entry unit number) = said_entry unit number
saying (said.Stray offset) = said_stray offset
saying (said.Lines number) = said_lines number
saying (said.Macros number) = said_macros number
saying (said.Bytes bytes) = said_bytes bytes.now
saying (said.Signed number) = said_signed number
saying (said.Field class field) = said_field class field
