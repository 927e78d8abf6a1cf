-- What says where line tables and macro units start names one, or a condition holds (DWARF 5, 3.1.1, 6.3.1 and 6.3.2).
use Rattle.std.specs.Bool.{⊤}
use Rattle.std.proofs.Common.{Bool, true, false, ◌≡◌, List, IsTrue, refl, sym, ◌∙◌}
use Rattle.dw_base.specs.Cells.{Cell}
use Rattle.dw_base.specs.DebugData.{Around, DataReadings, DebugData, around_of, line_table, macro_unit}
use Rattle.dw_base.specs.LineMeanings.{is_there}
use Rattle.dw_base.specs.MacroPieces.{MacroMode, MacroState, at_line, at_offset, at_operation, at_unit, no_macros, of_text, of_unit}
use Rattle.dw_base.specs.MacroReadings.{EachMacro, MacroReading}
use Rattle.dw_base.specs.Pieces.{Piece}
use Rattle.dw_base.specs.Readings.{EachReading, Reading, Readings}
use Rattle.dw_base.specs.Refusals.{at}
use Rattle.dw_base.specs.Roles.{Role, fixed, inline_path, line_start, offset, role_of}
use Rattle.dw_base.specs.TableStarts.{HasMacroPiece, HasStartForm, HasUnitPiece, NamesImport, NamesMacro, NamesUnitIf, has_start_form, is_import, is_macro_value, no_import, no_line, no_table, no_unit, other_form, value_begin}
use Rattle.dw_base.specs.UnitStates.{UnitState}
use Rattle.dw_base.specs.declared.fault.Kind.TheVariants.{Stray}
use Rattle.dw_meaning.specs.DataFails.{StartsFail, StartsRead, macro_stray, stray}
use Rattle.refusal_laws.specs.Decided.{Both, Decided, taken}
use Rattle.refusal_laws.specs.Readable.{ArePieces}
use Rattle.refusal_laws.proofs.Decisions.{decided-both, decided-by, decided-true}
use Rattle.refusal_laws.proofs.ListDecisions.{Among, decided-macros, decided-readings, macro-among, reading-among}
use Rattle.refusal_laws.proofs.PiecePlaces.{MacroPlaced, PlacedPiece}

starts-read : (d : DebugData) (r : DataReadings) → ArePieces d r → StartsRead d r
starts-read d r p = record { units = p.units; lines = p.lines; macros = p.macros }

unit-piece : (rs : Readings) (q : Reading) (x : Piece UnitState) → Among rs q → Among q.pieces x → HasUnitPiece rs x
unit-piece rs q x a b = record { before = a.before; behind = a.behind; section = q; sections = a.is; front = b.before; rest = b.behind; pieces = b.is }

macro-piece : (rs : List MacroReading) (q : MacroReading) (x : Piece MacroState) → Among rs q → Among q.pieces x → HasMacroPiece rs q x
macro-piece rs q x a b = record { before = a.before; behind = a.behind; sections = a.is; front = b.before; rest = b.behind; pieces = b.is }

-- ### Units

-- a value that says where a line table starts names one
abbrev pub NamesLine : Around → Piece UnitState → Type 0
NamesLine around x = role_of x ≡ line_start → IsTrue (is_there (line_table around x.cells))

form-known : (d : DebugData) (r : DataReadings) → ArePieces d r → (q : Reading) → Among r.units q → (x : Piece UnitState) → Among q.pieces x → Decided (HasStartForm x) (StartsFail d)
form-known d r p q a x b =
    decided-true (has_start_form x) (at Stray x.state.section (value_begin x.state)) (λ no. stray r (starts-read d r p) (other_form x (unit-piece r.units q x a b) no))

line-known : (d : DebugData) (r : DataReadings) → ArePieces d r → EachReading (PlacedPiece d.base.order) r.units → (q : Reading) → Among r.units q → (x : Piece UnitState)
    → Among q.pieces x → Decided (NamesLine (around_of d r) x) (StartsFail d)
line-known d r p placed q a x b = by (role_of x) refl
  where
    by : (u : Role) → role_of x ≡ u → Decided (NamesLine (around_of d r) x) (StartsFail d)
    by line_start e =
        let here : PlacedPiece d.base.order x = reading-among (PlacedPiece d.base.order) r.units q x a b placed in
        decided-by (λ (h : is_there (line_table (around_of d r) x.cells) ≡ true). λ (again : role_of x ≡ line_start). h)
        (decided-true (is_there (line_table (around_of d r) x.cells)) (at Stray x.state.section x.state.place)
        (λ no. stray r (starts-read d r p) (no_table x (unit-piece r.units q x a b) e (here.line e) no)))
    by fixed e = taken (λ (is : role_of x ≡ line_start). absurd (apart (sym e ∙ is)))
      where
        apart : fixed ≡ line_start → ⊥
        apart f = cc
    by (offset t path) e = taken (λ (is : role_of x ≡ line_start). absurd (apart (sym e ∙ is)))
      where
        apart : offset t path ≡ line_start → ⊥
        apart f = cc
    by inline_path e = taken (λ (is : role_of x ≡ line_start). absurd (apart (sym e ∙ is)))
      where
        apart : inline_path ≡ line_start → ⊥
        apart f = cc

macro-known : (d : DebugData) (r : DataReadings) → ArePieces d r → EachReading (PlacedPiece d.base.order) r.units → (q : Reading) → Among r.units q → (x : Piece UnitState)
    → Among q.pieces x → Decided (NamesMacro (around_of d r).lasting x) (StartsFail d)
macro-known d r p placed q a x b = by (is_macro_value x) refl
  where
    by : (t : Bool) → is_macro_value x ≡ t → Decided (NamesUnitIf t (around_of d r).lasting x.cells) (StartsFail d)
    by false e = taken tt
    by true e =
        let here : PlacedPiece d.base.order x = reading-among (PlacedPiece d.base.order) r.units q x a b placed in
        decided-true (is_there (macro_unit (around_of d r).lasting x.cells)) (at Stray x.state.section x.state.place)
        (λ no. stray r (starts-read d r p) (no_unit x (unit-piece r.units q x a b) e (here.macro e) no))

-- ### Macro units

-- the offset of a line table in a macro unit names one
abbrev pub MacroLineBy : MacroMode → Around → List Cell → Type 0
MacroLineBy (at_line width) around p = IsTrue (is_there (line_table around p))
MacroLineBy m around p = ⊤

abbrev pub MacroLine : Around → Piece MacroState → Type 0
MacroLine around x = MacroLineBy x.state.mode around x.cells

macro_line-known : (d : DebugData) (r : DataReadings) → ArePieces d r → EachMacro (MacroPlaced d.base.order) r.macros → (q : MacroReading) → Among r.macros q → (x : Piece MacroState)
    → Among q.pieces x → Decided (MacroLine (around_of d r) x) (StartsFail d)
macro_line-known d r p placed q a x b = by x.state.mode refl (macro-among (MacroPlaced d.base.order) r.macros q x a b placed)
  where
    by : (m : MacroMode) → x.state.mode ≡ m → MacroPlaced d.base.order x → Decided (MacroLineBy m (around_of d r) x.cells) (StartsFail d)
    by (at_line width) e here =
        decided-true (is_there (line_table (around_of d r) x.cells)) (at Stray q.number x.state.place)
        (λ no. macro_stray r (starts-read d r p) (no_line q x width (macro-piece r.macros q x a b) e (here (rw e refl)) no))
    by at_unit e here = taken tt
    by (at_operation width) e here = taken tt
    by (at_offset width names) e here = taken tt
    by no_macros e here = taken tt

import-known : (d : DebugData) (r : DataReadings) → ArePieces d r → EachMacro (MacroPlaced d.base.order) r.macros → (q : MacroReading) → Among r.macros q → (x : Piece MacroState)
    → Among q.pieces x → Decided (NamesImport (around_of d r).lasting x) (StartsFail d)
import-known d r p placed q a x b = by x.state.mode refl (macro-among (MacroPlaced d.base.order) r.macros q x a b placed)
  where
    by : (m : MacroMode) → x.state.mode ≡ m → MacroPlaced d.base.order x → Decided (NamesUnitIf (is_import m) (around_of d r).lasting x.cells) (StartsFail d)
    by (at_offset width of_unit) e here =
        decided-true (is_there (macro_unit (around_of d r).lasting x.cells)) (at Stray q.number x.state.place)
        (λ no. macro_stray r (starts-read d r p) (no_import q x width (macro-piece r.macros q x a b) e (here (rw e refl)) no))
    by (at_offset width (of_text defines line)) e here = taken tt
    by at_unit e here = taken tt
    by (at_line width) e here = taken tt
    by (at_operation width) e here = taken tt
    by no_macros e here = taken tt

-- ### All

pub record StartsHold (d : DebugData) (r : DataReadings) : Type 0 where
  pub forms : EachReading HasStartForm r.units
  pub lines : EachReading (NamesLine (around_of d r)) r.units
  pub values : EachReading (NamesMacro (around_of d r).lasting) r.units
  pub macro_lines : EachMacro (MacroLine (around_of d r)) r.macros
  pub imports : EachMacro (NamesImport (around_of d r).lasting) r.macros

pub starts-decided : (d : DebugData) (r : DataReadings) → ArePieces d r → EachReading (PlacedPiece d.base.order) r.units → EachMacro (MacroPlaced d.base.order) r.macros
    → Decided (StartsHold d r) (StartsFail d)
starts-decided d r p placed macros =
    decided-by
    (λ (b : Both (EachReading HasStartForm r.units) (Both (EachReading (NamesLine (around_of d r)) r.units) (Both (EachReading (NamesMacro (around_of d r).lasting) r.units)
    (Both (EachMacro (MacroLine (around_of d r)) r.macros) (EachMacro (NamesImport (around_of d r).lasting) r.macros))))).
    record {
      forms = b.first;
      lines = b.second.first;
      values = b.second.second.first;
      macro_lines = b.second.second.second.first;
      imports = b.second.second.second.second;
    })
    (decided-both (decided-readings {P = HasStartForm} {F = StartsFail d} r.units (form-known d r p)) (λ f.
    decided-both (decided-readings {P = NamesLine (around_of d r)} {F = StartsFail d} r.units (line-known d r p placed)) (λ l.
    decided-both (decided-readings {P = NamesMacro (around_of d r).lasting} {F = StartsFail d} r.units (macro-known d r p placed)) (λ v.
    decided-both (decided-macros {P = MacroLine (around_of d r)} {F = StartsFail d} r.macros (macro_line-known d r p macros)) (λ m.
    decided-macros {P = NamesImport (around_of d r).lasting} {F = StartsFail d} r.macros (import-known d r p macros))))))
