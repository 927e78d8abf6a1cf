-- Debug data that can be read excludes the refusals of what says where line tables and macro units start.
use Rattle.std.proofs.Common.{Bool, true, false, ◌≡◌, List, [], ◌∷◌, ◌++◌, length, IsTrue, sym, ap, ◌∙◌, subst}
use Rattle.dw_base.specs.DebugData.{DebugData, DataReadings, Lasting, around_of, line_source, line_table, macro_unit, macro_places, start_number}
use Rattle.dw_base.specs.Cells.{Cell, offset_of}
use Rattle.dw_base.specs.LineMeanings.{is_there}
use Rattle.dw_base.specs.LineReadings.{LineReading, table_starts}
use Rattle.dw_base.specs.MacroPieces.{MacroMode, MacroState}
use Rattle.dw_base.specs.MacroReadings.{MacroReading, EachMacro, MacroPlaces, macro_starts}
use Rattle.dw_base.specs.Pieces.{Piece, EachPiece}
use Rattle.dw_base.specs.Readings.{Reading, Readings, EachReading}
use Rattle.dw_base.specs.Roles.{Role, role_of}
use Rattle.dw_base.specs.SectionTexts.{macro_role_by, macro_role}
use Rattle.dw_base.specs.TableStarts.{HasStartForm, has_start_form, is_import, NamesUnitIf, NamesMacro, NamesImport, HasUnitPiece, HasMacroPiece, StrayFails, other_form, no_table, no_unit, MacroStrayFails, no_line, no_import}
use Rattle.dw_base.specs.TextChanges.{NamesTextBy, NamesText}
use Rattle.dw_base.specs.UnitStates.{UnitState}
use Rattle.dw_base.specs.declared.debug_sections.DebugSection.TheVariants.{Info, StrOffsets, Line, Macro}
use Rattle.dw_base.specs.declared.fault.Refusal.{Refusal}
use Rattle.dw_meaning.specs.DataFails.{StartsFail, stray, macro_stray}
use Rattle.dw_meaning.specs.DataOutput.{DataReads}
use Rattle.dw_meaning.proofs.DataOneLaws.{readings-one}
use Rattle.dw_meaning.proofs.LineOneLaws.{tables-one}
use Rattle.dw_meaning.proofs.MacroReadLaws.{all-macros-one}
use Rattle.dw_meaning.proofs.SlotRowLaws.{piece-among}
use Rattle.dw_meaning.proofs.DataParts.{kept_with}

-- one of all pieces of units
reading-among : (P : Piece UnitState → Type 0) (before behind : Readings) (x : Reading) → EachReading P (before ++ x ∷ behind) → EachPiece P x.pieces
reading-among P [] behind x h = h.0
reading-among P (y ∷ ys) behind x h = reading-among P ys behind x h.1

unit-piece : (P : Piece UnitState → Type 0) (rs : Readings) (x : Piece UnitState) → EachReading P rs → HasUnitPiece rs x → P x
unit-piece P rs x all here =
    piece-among P here.front here.rest x
    (subst (EachPiece P) here.pieces (reading-among P here.before here.behind here.section (subst (EachReading P) here.sections all)))

-- one of all pieces of macro units
macros-among : (P : Piece MacroState → Type 0) (before behind : List MacroReading) (x : MacroReading) → EachMacro P (before ++ x ∷ behind) → EachPiece P x.pieces
macros-among P [] behind x h = h.0
macros-among P (y ∷ ys) behind x h = macros-among P ys behind x h.1

macro-piece : (P : Piece MacroState → Type 0) (rs : List MacroReading) (r : MacroReading) (x : Piece MacroState) → EachMacro P rs → HasMacroPiece rs r x → P x
macro-piece P rs r x all here =
    piece-among P here.front here.rest x (subst (EachPiece P) here.pieces (macros-among P here.before here.behind r (subst (EachMacro P) here.sections all)))

clash : (b : Bool) → b ≡ true → b ≡ false → ⊥
clash b e f = true_false (sym e ∙ f)
  where
    true_false : true ≡ false → ⊥
    true_false g = cc

-- what units and macro units name is the same in all readings
abbrev lasting_with : DebugData → DataReadings → MacroPlaces → Lasting
lasting_with d r ms = record {
  base = (around_of d r).lasting.base;
  kept = kept_with ((around_of d r).lasting.kept Info).entries ((around_of d r).lasting.kept Info).infos ((around_of d r).lasting.kept StrOffsets) ms;
}

table-same : (d : DebugData) (r q : DataReadings) (p : List Cell) → r.lines ≡ q.lines → line_table (around_of d r) p ≡ line_table (around_of d q) p
table-same d r q p lines = ap (λ (ts : List LineReading). start_number 0 (table_starts ts) (offset_of d.base.order ((around_of d q).stands Line).located p)) lines

unit-same : (d : DebugData) (r q : DataReadings) (p : List Cell) → r.macros ≡ q.macros → macro_unit (around_of d r).lasting p ≡ macro_unit (around_of d q).lasting p
unit-same d r q p macros =
    ap (λ (ms : List MacroReading). macro_unit (lasting_with d q (record { first = (macro_places d q).first; starts = macro_starts ms })) p) macros

-- each value that is to say where a line table or a macro unit starts does
stray-excludes : (d : DebugData) (q readings : DataReadings) (r : Refusal) → DataReads d q → readings.units ≡ q.units → readings.lines ≡ q.lines → readings.macros ≡ q.macros
    → StrayFails (around_of d readings) readings.units r → ⊥
stray-excludes d q readings r a units tables macros (other_form x here none) =
    clash (has_start_form x) (unit-piece HasStartForm readings.units x (subst (EachReading HasStartForm) (sym units) a.forms) here) none
stray-excludes d q readings r a units tables macros (no_table x here role placed none) =
    let own : NamesTextBy (role_of x) (around_of d q) x.cells = unit-piece (NamesText (around_of d q)) readings.units x (subst (EachReading (NamesText (around_of d q))) (sym units) a.texts) here in
    let there : IsTrue (is_there (line_table (around_of d q) x.cells)) = subst (λ (k : Role). NamesTextBy k (around_of d q) x.cells) role own in
    clash (is_there (line_table (around_of d readings) x.cells)) (ap is_there (table-same d readings q x.cells tables) ∙ there) none
stray-excludes d q readings r a units tables macros (no_unit x here value placed none) =
    let own : NamesMacro (around_of d q).lasting x =
    unit-piece (NamesMacro (around_of d q).lasting) readings.units x (subst (EachReading (NamesMacro (around_of d q).lasting)) (sym units) a.macro_values) here in
    let there : NamesUnitIf true (around_of d q).lasting x.cells = subst (λ (b : Bool). NamesUnitIf b (around_of d q).lasting x.cells) value own in
    clash (is_there (macro_unit (around_of d readings).lasting x.cells)) (ap is_there (unit-same d readings q x.cells macros) ∙ there) none

-- and so do the offsets of macro units
macro-stray-excludes : (d : DebugData) (q readings : DataReadings) (r : Refusal) → DataReads d q → readings.lines ≡ q.lines → readings.macros ≡ q.macros
    → MacroStrayFails (around_of d readings) readings.macros r → ⊥
macro-stray-excludes d q readings r a tables macros (no_line section x width here mode placed none) =
    let own : NamesTextBy (macro_role x.state) (around_of d q) x.cells =
    macro-piece (λ (y : Piece MacroState). NamesTextBy (macro_role y.state) (around_of d q) y.cells) readings.macros section x
    (subst (EachMacro (λ (y : Piece MacroState). NamesTextBy (macro_role y.state) (around_of d q) y.cells)) (sym macros) a.macro_texts) here in
    let there : IsTrue (is_there (line_table (around_of d q) x.cells)) = subst (λ (m : MacroMode). NamesTextBy (macro_role_by m) (around_of d q) x.cells) mode own in
    clash (is_there (line_table (around_of d readings) x.cells)) (ap is_there (table-same d readings q x.cells tables) ∙ there) none
macro-stray-excludes d q readings r a tables macros (no_import section x width here mode placed none) =
    let own : NamesImport (around_of d q).lasting x =
    macro-piece (NamesImport (around_of d q).lasting) readings.macros section x (subst (EachMacro (NamesImport (around_of d q).lasting)) (sym macros) a.imports) here in
    let there : NamesUnitIf true (around_of d q).lasting x.cells = subst (λ (m : MacroMode). NamesUnitIf (is_import m) (around_of d q).lasting x.cells) mode own in
    clash (is_there (macro_unit (around_of d readings).lasting x.cells)) (ap is_there (unit-same d readings q x.cells macros) ∙ there) none

pub starts-exclude : (d : DebugData) (q : DataReadings) (r : Refusal) → DataReads d q → StartsFail d r → ⊥
starts-exclude d q r a (stray readings reads f) =
    stray-excludes d q readings r a (readings-one d.base 0 (d.found Info) readings.units q.units reads.units a.units)
    (tables-one (line_source d) 0 (length (line_source d).bytes) readings.lines q.lines reads.lines a.lines)
    (all-macros-one d.base.order (d.found Macro) readings.macros q.macros reads.macros a.macros) f
starts-exclude d q r a (macro_stray readings reads f) =
    macro-stray-excludes d q readings r a (tables-one (line_source d) 0 (length (line_source d).bytes) readings.lines q.lines reads.lines a.lines)
    (all-macros-one d.base.order (d.found Macro) readings.macros q.macros reads.macros a.macros) f
