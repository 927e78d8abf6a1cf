-- The events of a macro unit (DWARF 5, 6.3.2), one after another up to the operation that ends the unit.
use Rattle.std.specs.Prelude.{Bool, true, false, ◌≡◌, ℕ, zero, suc, ◌-◌, ◌<◌, if◌then◌else◌, List, [], ◌∷◌, length, drop, Option, Some, None, option_map}
use Rattle.dw_base.specs.Cells.{Located}
use Rattle.dw_base.specs.FileViews.{View, field_at, section_bytes}
use Rattle.dw_base.specs.Forms.{width_size}
use Rattle.dw_base.specs.Texts.{text_in, ends_in}
use Rattle.dw_base.specs.ViewData.{located}
use Rattle.dw_base.specs.declared.debug_sections.DebugSection.TheVariants.{Macro, Str}
use Rattle.dw_base.specs.declared.shared.Width.{Width}
use Rattle.dw_base.specs.declared.view_fields.Field.{Field}
use Rattle.dw_base.specs.declared.view_fields.Field.TheVariants.{Num, Into, Sym}
use Rattle.dw_base.specs.MacroUnits.{IsMacroUnit, offset_at}
use Rattle.dw_base.specs.MacroOperations.{operation_at}
use Rattle.dw_base.specs.declared.macro_units.MacroEvent.{MacroEvent}
use Rattle.dw_base.specs.declared.macro_units.MacroEvent.TheVariants.{Define, Undef, StartFile, EndFile, Import}
use Rattle.dw_base.specs.declared.macro_units.MacroOperation.{MacroOperation}
use Rattle.dw_base.specs.declared.macro_units.MacroOperation.TheVariants.{End, Inline, Named, Enter, Leave, Bring, Foreign}
use Rattle.dw_base.specs.declared.macro_units.MacroUnit.{MacroUnit}
use Rattle.dw_base.specs.declared.line_tables.TextPlace.{TextPlace}
use Rattle.dw_base.specs.MacroOffsets.{ReadsFrom}

-- a definition, or its end
abbrev pub text_event : Bool → ℕ → TextPlace → MacroEvent
text_event true line text = Define line text
text_event false line text = Undef line text

-- a text that stands inline
abbrev pub inline_place : ℕ → ℕ → ℕ → TextPlace
inline_place section at len = record { section = section; at = at; len = len; field = at }

-- the text at an offset of a table of texts, which a field names; none where no text that ends begins there
abbrev pub text_if : Located → ℕ → ℕ → Option TextPlace
text_if z field offset =
    if ends_in z.bytes offset then Some (record { section = z.number; at = offset; len = length (text_in z.bytes offset); field = field }) else None

-- the text that the offset at a place of a section names
unfoldable pub named_place : View → ℕ → Width → ℕ → Option TextPlace
named_place v section width field = text_if (located v Str) field (offset_at v (located v Str) section field width)

-- the unit that a field names: by a number one of the section of macro units, by a relocation one of the section that it leads
-- to. A symbol that isn't defined in a section names none; it counts as the end of the section of macro units.
abbrev pub import_of : Located → ℕ → Field → MacroEvent
import_of z field (Num n) = Import z.number n field
import_of z field (Into s n) = Import s n field
import_of z field (Sym s k a) = Import z.number (length z.bytes) field

unfoldable pub import_at : View → ℕ → Width → ℕ → MacroEvent
import_at v section width field = import_of (located v Macro) field (field_at v section field (width_size width))

-- what an operation is as an event, and the place behind it; none where it ends its unit
unfoldable pub event_by : View → ℕ → Width → MacroOperation → ℕ → Option (MacroEvent × ℕ)
event_by v section width End next = None
event_by v section width (Inline defines line at len) next = Some (text_event defines line (inline_place section at len), next)
event_by v section width (Named defines line field) next =
    option_map (λ text. (text_event defines line text, next)) (named_place v section width field)
event_by v section width (Enter line file) next = Some (StartFile line file, next)
event_by v section width Leave next = Some (EndFile, next)
event_by v section width (Bring field) next = Some (import_at v section width field, next)
event_by v section width Foreign next = None

abbrev pub event_if : View → ℕ → Width → Option (MacroOperation × ℕ) → Option (MacroEvent × ℕ)
event_if v section width None = None
event_if v section width (Some o) = event_by v section width o.0 o.1

-- the event at a place of a section, and the place behind it
unfoldable pub event_in : View → ℕ → Width → ℕ → Option (MacroEvent × ℕ)
event_in v section width place = event_if v section width (operation_at (section_bytes v section) width place)

-- an event and those behind it
abbrev pub with_those : Option (MacroEvent × ℕ) → (ℕ → List MacroEvent) → List MacroEvent
with_those None behind = []
with_those (Some e) behind = e.0 ∷ behind e.1

-- the events behind so many bytes of those that stand at a place
abbrev pub events_behind : (ℕ → Option (MacroEvent × ℕ)) → ℕ → ℕ → List ℕ → List MacroEvent
events_behind event n place [] = []
events_behind event (suc n) place (b ∷ bs) = events_behind event n (suc place) bs
events_behind event zero place (b ∷ bs) = with_those (event place) (λ next. events_behind event (next - suc place) (suc place) bs)

-- the events from a place of a section on, up to the end of their unit
abbrev pub events_from : View → ℕ → Width → ℕ → List MacroEvent
events_from v section width place = events_behind (event_in v section width) 0 place (drop place (section_bytes v section))

-- the events of a unit
abbrev pub unit_events : View → MacroUnit → List MacroEvent
unit_events v u = events_from v u.section u.width u.first

-- events stand one after another from a place on, and the operation behind the last ends their unit, at a place
pub data SpellsEvents (v : View) (section : ℕ) (width : Width) : ℕ → List MacroEvent → ℕ → Type 0 where
  over : (place end : ℕ) → operation_at (section_bytes v section) width place ≡ Some (End, end) → SpellsEvents v section width place [] end
  one_event : (place next end : ℕ) (e : MacroEvent) (es : List MacroEvent) → event_in v section width place ≡ Some (e, next)
      → SpellsEvents v section width next es end → SpellsEvents v section width place (e ∷ es) end

-- a unit that can be read in a section of the view, with the offsets of its operations
pub record IsUnitIn (v : View) (u : MacroUnit) : Type 0 where
  pub start : ℕ
  pub there : u.section < length v.sections
  pub is : IsMacroUnit v u.section start u
  pub reads : ReadsFrom v u.section u.width u.first

-- where a walk over the events of a unit stands
pub record EventsState : Type 0 where
  pub view : View
  pub section : ℕ
  pub width : Width
  pub place : ℕ

-- before the first event
abbrev pub events_start : View → MacroUnit → EventsState
events_start v u = record { view = v; section = u.section; width = u.width; place = u.first }

-- the events that are left
abbrev pub events_left : EventsState → List MacroEvent
events_left s = events_from s.view s.section s.width s.place

-- the section of a walk is one of the view, and the offsets of the operations that are left can be read
pub record EventsFit (s : EventsState) : Type 0 where
  pub there : s.section < length s.view.sections
  pub reads : ReadsFrom s.view s.section s.width s.place
