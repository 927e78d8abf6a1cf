-- Macro units (DWARF 5, 6.3): a header, and operations up to the one that ends the unit. Units fill a section, one after another.
use Rattle.std.specs.Prelude.{Bool, true, false, ◌≡◌, ℕ, if◌then◌else◌, List, [], ◌∷◌, ◌++◌, length, Option, Some, None, Result, Ok, Err}
use Rattle.dw_base.specs.Cells.{Located, is_placed, offset_into}
use Rattle.dw_base.specs.FileViews.{View, field_at, section_bytes}
use Rattle.dw_base.specs.Forms.{width_size}
use Rattle.dw_base.specs.Refusals.{at}
use Rattle.dw_base.specs.Texts.{ends_in}
use Rattle.dw_base.specs.ViewData.{located}
use Rattle.dw_base.specs.declared.debug_sections.DebugSection.TheVariants.{Str, Line}
use Rattle.dw_base.specs.declared.fault.Kind.{Kind}
use Rattle.dw_base.specs.declared.fault.Kind.TheVariants.{Macro, Relocation as RelocationKind, StringOffset, Supplementary}
use Rattle.dw_base.specs.declared.fault.Refusal.{Refusal}
use Rattle.dw_base.specs.declared.shared.Width.{Width}
use Rattle.dw_base.specs.declared.view_fields.Field.{Field}
use Rattle.dw_base.specs.MacroHeaders.{macro_header}
use Rattle.dw_base.specs.MacroOperations.{operation_at}
use Rattle.dw_base.specs.declared.macro_units.MacroHeader.{MacroHeader}
use Rattle.dw_base.specs.declared.macro_units.MacroOperation.{MacroOperation}
use Rattle.dw_base.specs.declared.macro_units.MacroOperation.TheVariants.{End, Named, Foreign}
use Rattle.dw_base.specs.declared.macro_units.MacroUnit.{MacroUnit}

-- the offset that a field of a macro section holds into another section
abbrev pub offset_at : View → Located → ℕ → ℕ → Width → ℕ
offset_at v z section field width = offset_into z (field_at v section field (width_size width))

-- a text begins where the offset of an operation says
abbrev pub names_text : View → ℕ → Width → ℕ → Bool
names_text v section width field = ends_in (located v Str).bytes (offset_at v (located v Str) section field width)

-- the kind of a refusal at a field that names no text: a symbol without a place is no offset
abbrev pub nameless : Field → Kind
nameless f = if is_placed f then StringOffset else RelocationKind

-- an operation that was read, with the place behind it: refused at itself where it refers to a supplementary file, and at its
-- offset where that names no text or is none
abbrev pub taken : View → ℕ → Width → ℕ → MacroOperation → ℕ → Result (MacroOperation × ℕ) Refusal
taken v section width place Foreign next = Err (at Supplementary section place)
taken v section width place (Named defines line field) next =
    if names_text v section width field then Ok (Named defines line field, next)
    else Err (at (nameless (field_at v section field (width_size width))) section field)
taken v section width place o next = Ok (o, next)

-- the same of what was read; where nothing was, the unit is refused
abbrev pub taken_if : View → ℕ → ℕ → Width → ℕ → Option (MacroOperation × ℕ) → Result (MacroOperation × ℕ) Refusal
taken_if v section start width place None = Err (at Macro section start)
taken_if v section start width place (Some o) = taken v section width place o.0 o.1

-- the operation at a place of a unit, and the place behind it, or why there is none
unfoldable pub unit_operation : View → ℕ → ℕ → Width → ℕ → Result (MacroOperation × ℕ) Refusal
unit_operation v section start width place = taken_if v section start width place (operation_at (section_bytes v section) width place)

-- it ends its unit
abbrev pub is_end : MacroOperation → Bool
is_end End = true
is_end o = false

-- operations stand one after another from the first of a unit up to a place, and none of them ends it
pub data OperationsUpTo (v : View) (section start : ℕ) (width : Width) (first : ℕ) : ℕ → Type 0 where
  no_operations : OperationsUpTo v section start width first first
  more_operations : (o : MacroOperation) (place next : ℕ) → OperationsUpTo v section start width first place
      → unit_operation v section start width place ≡ Ok (o, next) → is_end o ≡ false → OperationsUpTo v section start width first next

-- the offset of a line table of a header, where it has one
abbrev pub line_of : View → ℕ → MacroHeader → Option ℕ
line_of v section h = if h.has_line then Some (offset_at v (located v Line) section h.line_field h.width) else None

-- the unit of a header, that ends at a place
abbrev pub unit_with : View → ℕ → ℕ → MacroHeader → ℕ → MacroUnit
unit_with v section start h end = record {
  section = section;
  start = start;
  end = end;
  version = h.version;
  width = h.width;
  line = line_of v section h;
  line_field = h.line_field;
  first = h.first;
}

-- a unit that can be read starts at a place of a section: it ends behind the operation that ends it
pub record IsMacroUnit (v : View) (section start : ℕ) (u : MacroUnit) : Type 0 where
  pub header : MacroHeader
  pub last : ℕ
  pub end : ℕ
  pub header_is : macro_header v.order (section_bytes v section) start ≡ Some header
  pub operations : OperationsUpTo v section start header.width header.first last
  pub ends : unit_operation v section start header.width last ≡ Ok (End, end)
  pub is : u ≡ unit_with v section start header end

-- units stand one after another from the section's start up to a place
pub data MacroUnitsUpTo (v : View) (section : ℕ) : List MacroUnit → ℕ → Type 0 where
  no_units : MacroUnitsUpTo v section [] 0
  more_units : (list : List MacroUnit) (u : MacroUnit) (start : ℕ) → MacroUnitsUpTo v section list start
      → IsMacroUnit v section start u → MacroUnitsUpTo v section (list ++ u ∷ []) u.end

-- the units of a section: they fill it
abbrev pub AreMacroUnits : View → ℕ → List MacroUnit → Type 0
AreMacroUnits v section list = MacroUnitsUpTo v section list (length (section_bytes v section))
