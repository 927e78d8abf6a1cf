-- The text that a mention names ends before the first NUL, so it has none.
use Rattle.std.proofs.Common.{Bool, true, false, ◌==◌, List, [], ◌∷◌, ◌++◌, if◌then◌else◌}
use Rattle.dw_base.specs.Cells.{Cell}
use Rattle.dw_base.specs.DebugData.{Around, DataReadings, path_slots, source_around, table_of}
use Rattle.dw_base.specs.LineReadings.{LineReading, table_read}
use Rattle.dw_base.specs.LineSources.{LineSource}
use Rattle.dw_base.specs.MacroReadings.{MacroReading}
use Rattle.dw_base.specs.Pieces.{Piece}
use Rattle.dw_base.specs.Readings.{Readings}
use Rattle.dw_base.specs.Roles.{Role, fixed, offset, inline_path, line_start, role_of}
use Rattle.dw_base.specs.SectionTexts.{slot_role, name_role, macro_role, mentions_with, macro_mentions, file_mentions}
use Rattle.dw_base.specs.StringTables.{Mention}
use Rattle.dw_base.specs.TextChanges.{offset_in, mentions_by, mentions_of, all_mentions}
use Rattle.dw_base.specs.TextLineChanges.{all_texts_mentions, mention_of, text_mention, texts_mentions}
use Rattle.dw_base.specs.UnitStates.{UnitState}
use Rattle.dw_base.specs.declared.line_tables.LineText.{LineText}
use Rattle.dw_base.specs.declared.texts.TextSection.{TextSection}
use Rattle.dw_base.specs.declared.texts.TextSection.TheVariants.{InStr, InLineStr}
use Rattle.dw_base.proofs.TextLaws.{has_nul-text_in}
use Rattle.dw_meaning.specs.RebuiltTables.{texts_said, AreBare}

-- mentions one behind another
bare-both : (xs ys : List Mention) → AreBare (texts_said xs) → AreBare (texts_said ys) → AreBare (texts_said (xs ++ ys))
bare-both [] ys a b = b
bare-both (x ∷ xs) ys a b = (a.0, bare-both xs ys a.1 b)

-- of a piece
bare-by : (r : Role) (table : TextSection) (around : Around) (p : List Cell) → AreBare (texts_said (mentions_by r table around p))
bare-by fixed table around p = tt
bare-by inline_path table around p = tt
bare-by line_start table around p = tt
bare-by (offset InStr path) InStr around p = (has_nul-text_in (table_of around InStr).bytes (offset_in around InStr p), tt)
bare-by (offset InStr path) InLineStr around p = tt
bare-by (offset InLineStr path) InStr around p = tt
bare-by (offset InLineStr path) InLineStr around p = (has_nul-text_in (table_of around InLineStr).bytes (offset_in around InLineStr p), tt)

bare-of : (table : TextSection) (around : Around) (xs : List (Piece UnitState)) → AreBare (texts_said (mentions_of table around xs))
bare-of table around [] = tt
bare-of table around (x ∷ xs) =
    bare-both (mentions_by (role_of x) table around x.cells) (mentions_of table around xs) (bare-by (role_of x) table around x.cells) (bare-of table around xs)

bare-units : (table : TextSection) (around : Around) (rs : Readings) → AreBare (texts_said (all_mentions table around rs))
bare-units table around [] = tt
bare-units table around (r ∷ rs) = bare-both (mentions_of table around r.pieces) (all_mentions table around rs) (bare-of table around r.pieces) (bare-units table around rs)

-- of pieces of roles
bare-with : {S : Type 0} (role : S → Role) (table : TextSection) (around : Around) (xs : List (Piece S)) → AreBare (texts_said (mentions_with role table around xs))
bare-with role table around [] = tt
bare-with role table around (x ∷ xs) =
    bare-both (mentions_by (role x.state) table around x.cells) (mentions_with role table around xs) (bare-by (role x.state) table around x.cells) (bare-with role table around xs)

bare-macros : (table : TextSection) (around : Around) (rs : List MacroReading) → AreBare (texts_said (macro_mentions table around rs))
bare-macros table around [] = tt
bare-macros table around (r ∷ rs) =
    bare-both (mentions_with macro_role table around r.pieces) (macro_mentions table around rs) (bare-with macro_role table around r.pieces) (bare-macros table around rs)

-- of line tables
bare-text : (g : LineSource) (table : TextSection) (x : LineText) → AreBare (texts_said (mention_of g table x))
bare-text g InStr x = by_section (x.place.section == g.number) (x.place.section == g.str.number)
  where
    by_section : (b c : Bool) → AreBare (texts_said (if b then [] else (if c then text_mention g.str.bytes x ∷ [] else [])))
    by_section true c = tt
    by_section false true = (has_nul-text_in g.str.bytes x.place.at, tt)
    by_section false false = tt
bare-text g InLineStr x = by_section (x.place.section == g.number) (x.place.section == g.str.number)
  where
    by_section : (b c : Bool) → AreBare (texts_said (if b then [] else (if c then [] else text_mention g.line_str.bytes x ∷ [])))
    by_section true c = tt
    by_section false true = tt
    by_section false false = (has_nul-text_in g.line_str.bytes x.place.at, tt)

bare-texts : (g : LineSource) (table : TextSection) (xs : List LineText) → AreBare (texts_said (texts_mentions g table xs))
bare-texts g table [] = tt
bare-texts g table (x ∷ xs) = bare-both (mention_of g table x) (texts_mentions g table xs) (bare-text g table x) (bare-texts g table xs)

bare-lines : (g : LineSource) (table : TextSection) (rs : List LineReading) → AreBare (texts_said (all_texts_mentions g table rs))
bare-lines g table [] = tt
bare-lines g table (r ∷ rs) =
    bare-both (texts_mentions g table (table_read g r).texts) (all_texts_mentions g table rs) (bare-texts g table (table_read g r).texts) (bare-lines g table rs)

-- of a file
pub bare-file : (table : TextSection) (around : Around) (r : DataReadings) → AreBare (texts_said (file_mentions table around r))
bare-file table around r =
    let slots : List Mention = mentions_with (slot_role (path_slots around)) table around r.offsets in
    let lines : List Mention = all_texts_mentions (source_around around) table r.lines in
    let macros : List Mention = macro_mentions table around r.macros in
    let names : List Mention = mentions_with name_role table around r.names in
    bare-both (all_mentions table around r.units) (slots ++ (lines ++ (macros ++ names))) (bare-units table around r.units)
    (bare-both slots (lines ++ (macros ++ names)) (bare-with (slot_role (path_slots around)) table around r.offsets)
    (bare-both lines (macros ++ names) (bare-lines (source_around around) table r.lines)
    (bare-both macros names (bare-macros table around r.macros) (bare-with name_role table around r.names))))
