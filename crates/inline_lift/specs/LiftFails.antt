-- Why a file isn't lifted (this project's profile): at the text of a path that would grow, in a relocatable file, in one without .debug_str, where
-- the value is shorter than an offset or its form stands in front of it, or where another entry of the unit has the code of the first.
use Rattle.std.specs.Prelude.{Bool, true, false, ◌≡◌, ◌≢◌, ℕ, ◌+◌, ◌<◌, ◌≤◌, if◌then◌else◌, List, [], ◌∷◌, ◌++◌, length, Option, Some, None}
use Rattle.dw_base.specs.AbbreviationTables.{Abbreviation}
use Rattle.dw_base.specs.Cells.{Cell}
use Rattle.dw_base.specs.DebugData.{DebugData, DataReadings}
use Rattle.dw_base.specs.Elf.{e_type}
use Rattle.dw_base.specs.EntryScans.{Scans}
use Rattle.dw_base.specs.EntryValues.{HasTable, HasValue, bytes_up_to}
use Rattle.dw_base.specs.Forms.{form_in_front, kind_in, width_size}
use Rattle.dw_base.specs.InlinePaths.{inline_fits}
use Rattle.dw_base.specs.LayoutFails.{LayoutFails}
use Rattle.dw_base.specs.Paths.{PathMap}
use Rattle.dw_base.specs.Pieces.{Piece}
use Rattle.dw_base.specs.Readings.{EachReading, Readings}
use Rattle.dw_base.specs.Refusals.{at}
use Rattle.dw_base.specs.Roles.{is_path}
use Rattle.dw_base.specs.Texts.{text_in}
use Rattle.dw_base.specs.UnitHeaders.{UnitSection}
use Rattle.dw_base.specs.UnitStates.{Mode, at_header, at_code, at_chosen, UnitState, code_value}
use Rattle.dw_base.specs.declared.debug_sections.DebugSection.TheVariants.{Str}
use Rattle.dw_base.specs.declared.elf_numbers.TheConstants.{ET_REL}
use Rattle.dw_base.specs.declared.fault.Kind.TheVariants.{InlineGrows}
use Rattle.dw_base.specs.declared.fault.Refusal.{Refusal}
use Rattle.dw_base.specs.declared.units.Scanned.{Scanned}
use Rattle.dw_base.specs.declared.units.UnitHeader.{UnitHeader}
use Rattle.dw_base.specs.declared.values.Spec.{Spec}
use Rattle.dw_base.specs.declared.values.Value.{Value}
use Rattle.dw_base.specs.declared.values.ValueClass.TheVariants.{InlineText}
use Rattle.dw_meaning.specs.FileFails.{FileFails}
use Rattle.dw_meaning.specs.FileMeanings.{FileReads, file_data}
use Rattle.inline_lift.specs.GrowingPaths.{Fate, any_grown, fates, grows, some_path_grows}
use Rattle.inline_lift.specs.LiftedFiles.{lifted_body}
use Rattle.inline_lift.specs.LiftedTables.{is_first_code}

-- a path stands in its value and would grow: in the first entry of a unit, whose abbreviation is `a`
pub record HasGrowing (m : PathMap) (d : DebugData) (z : UnitSection) (h : UnitHeader) (list : List Abbreviation) (a : Abbreviation) (x : Spec) (v : Value) : Type 0 where
  pub place : ℕ
  pub table : HasTable d z h list
  pub value : HasValue h list (bytes_up_to z h) 0 a x place v
  pub path : is_path 0 a.tag x.name ≡ true
  pub class : v.class ≡ InlineText
  pub grows : inline_fits m (text_in (bytes_up_to z h) v.at) ≡ false

-- why it can't be an offset
pub data Hindered (b : List ℕ) (h : UnitHeader) (list : List Abbreviation) (bytes : List ℕ) (a : Abbreviation) (x : Spec) (v : Value) : Type 0 where
  relocatable : e_type b ≡ ET_REL → Hindered b h list bytes a x v
  no_texts : ((file_data b).found Str).number ≡ 0 → Hindered b h list bytes a x v
  short : v.len + 1 < width_size h.params.width → Hindered b h list bytes a x v
  form_before : kind_in h.params x.form ≡ form_in_front → Hindered b h list bytes a x v
  code_again : (items : List Scanned) (e : Scanned) (place depth : ℕ) → Scans h list bytes (items ++ e ∷ []) place depth → 0 < length items → e.code ≡ a.code
      → Hindered b h list bytes a x v

-- the row of paths that would grow, at the text
pub data LiftFails (m : PathMap) (b : List ℕ) : Refusal → Type 0 where
  hindered : (z : UnitSection) (h : UnitHeader) (list : List Abbreviation) (a : Abbreviation) (x : Spec) (v : Value)
      → HasGrowing m (file_data b) z h list a x v → Hindered b h list (bytes_up_to z h) a x v → LiftFails m b (at InlineGrows z.number v.at)

-- every row of the lift: those of the file that don't ask for the map; paths that can't be offsets; and the lifted file can be too long, or a section
-- of it stay and have to change
pub data LiftRows (m : PathMap) (b : List ℕ) : Refusal → Type 0 where
  file : {r : Refusal} → FileFails b r → LiftRows m b r
  paths : {r : Refusal} → LiftFails m b r → LiftRows m b r
  output : (readings : DataReadings) {r : Refusal} → FileReads b readings → some_path_grows m readings.units ≡ true
      → LayoutFails b (lifted_body m b readings) r → LiftRows m b r

-- the form of a path that grows doesn't stand in front of it, and its value is as long as an offset
abbrev pub is_chosen : Mode → Bool
is_chosen (at_chosen number tag start x xs) = true
is_chosen m = false

pub record ValueLifts (m : PathMap) (x : Piece UnitState) : Type 0 where
  pub own_form : grows m x ≡ true → is_chosen x.state.mode ≡ false
  pub room : grows m x ≡ true → width_size x.state.header.params.width ≤ length x.cells

-- the code of the first entry of a unit, where a path grows in it: behind a piece, in front of attributes of these fates
abbrev pub root_if : Bool → ℕ → Option ℕ
root_if b code = if b then Some code else None

abbrev pub root_behind : Mode → Option ℕ → UnitState → List Cell → List Fate → Option ℕ
root_behind at_header o s p fs = None
root_behind at_code o s p fs = if is_first_code at_code s p then root_if (any_grown fs) (code_value p) else o
root_behind m o s p fs = o

-- an entry behind it has another code
abbrev pub CodeLifts : Mode → Option ℕ → UnitState → List Cell → Type 0
CodeLifts at_code (Some root) s p = s.entry ≢ 0 → root ≢ code_value p
CodeLifts m o s p = Unit {0}

abbrev pub CodesLift : PathMap → Option ℕ → List (Piece UnitState) → Type 0
CodesLift m o [] = Unit {0}
CodesLift m o (x ∷ xs) = CodeLifts x.state.mode o x.state x.cells × CodesLift m (root_behind x.state.mode o x.state x.cells (fates m xs)) xs

abbrev pub AllCodesLift : PathMap → Readings → Type 0
AllCodesLift m [] = Unit {0}
AllCodesLift m (r ∷ rs) = CodesLift m None r.pieces × AllCodesLift m rs

-- all of debug data can be lifted
pub record UnitsLift (m : PathMap) (r : DataReadings) : Type 0 where
  pub values : EachReading (ValueLifts m) r.units
  pub codes : AllCodesLift m r.units
