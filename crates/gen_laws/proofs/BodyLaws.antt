-- The sections of the output of a generated file, and how long they are at most.
use Rattle.std.proofs.Common.{◌≡◌, ℕ, ◌+◌, ◌*◌, ◌≤◌, List, [], ◌∷◌, ◌++◌, length, refl, ap, ◌∙◌, arith}
use Rattle.std.proofs.lemmas.List.{append-nil, length-append}
use Rattle.dw_base.specs.Cells.{bytes_of, plain_cells}
use Rattle.dw_base.specs.DebugData.{Around, DebugData, source_around}
use Rattle.dw_base.specs.Elf.{contents_of}
use Rattle.dw_base.specs.LineReadings.{all_lines}
use Rattle.dw_base.specs.Paths.{IsPathMap, PathMap}
use Rattle.dw_base.specs.Pieces.{Piece, joined}
use Rattle.dw_base.specs.Roles.{role_of}
use Rattle.dw_base.specs.SectionTexts.{file_mentions}
use Rattle.dw_base.specs.StringTables.{Mention, new_texts}
use Rattle.dw_base.specs.TextChanges.{TableChanges, edited_all, edited_by, mentions_of}
use Rattle.dw_base.specs.Texts.{laid_texts}
use Rattle.dw_base.specs.UnitStates.{UnitState}
use Rattle.dw_base.specs.declared.debug_sections.DebugSection.TheVariants.{Line}
use Rattle.dw_base.proofs.UnitEditLaws.{length-bytes_of}
use Rattle.dw_meaning.specs.DataOutput.{body_in, changes_of, new_bodies, table_change}
use Rattle.dw_meaning.specs.FileMeanings.{file_body, new_body}
use Rattle.dw_meaning.proofs.RelocatedBodyLaws.{file_body-loaded}
use Rattle.dw_meaning.proofs.SectionKeptLaws.{edited-size}
use Rattle.dbg_gen.specs.Asked.{AreFew}
use Rattle.dbg_gen.specs.GeneratedTexts.{texts_of}
use Rattle.dbg_gen.proofs.SizeLaws.{length-units_of}
use Rattle.dw_base.specs.declared.texts.TextSection.TheVariants.{InLineStr, InStr}
use Rattle.gen_laws.proofs.AroundLaws.{counted_around, counted_data, stands-around}
use Rattle.gen_laws.proofs.DataReadLaws.{counted_readings}
use Rattle.gen_laws.proofs.FileTakenLaws.{IsCounted, info_of}
use Rattle.gen_laws.proofs.LineWriteLaws.{length-tables, table_room}
use Rattle.gen_laws.proofs.MentionLaws.{length-new_texts, lines-unnamed, mentions_room, units-other, units-room}
use Rattle.gen_laws.proofs.UnitReadLaws.{section_pieces, units-cells}

-- what an edit changes
abbrev pub counted_changes : PathMap → List ℕ → ℕ → TableChanges
counted_changes m counts units = changes_of m (counted_around counts units) (counted_readings counts units)

-- the units stay as long as they are
edited-length : (c : TableChanges) (around : Around) (xs : List (Piece UnitState)) → length (joined (edited_all c around xs)) ≡ length (joined xs)
edited-length c around [] = refl
edited-length c around (x ∷ xs) =
    let rest = edited-length c around xs in
    let one = edited-size (role_of x) c around x.cells in
    let new = length-append (edited_by (role_of x) c around x.cells) (joined (edited_all c around xs)) in
    omega (arith, rest, one, new, length-append x.cells (joined xs))

pub length-plain : (bs : List ℕ) → length (plain_cells bs) ≡ length bs
length-plain [] = refl
length-plain (b ∷ bs) = omega (arith, length-plain bs)

abbrev pub new_units : PathMap → List ℕ → ℕ → List ℕ
new_units m counts units = bytes_of (joined (edited_all (counted_changes m counts units) (counted_around counts units) (section_pieces (texts_of counts units) counts units)))

length-new_units : (m : PathMap) (counts : List ℕ) (units : ℕ) → AreFew counts → length (new_units m counts units) ≤ units * 105
length-new_units m counts units few =
    let pieces = section_pieces (texts_of counts units) counts units in
    let bytes = length-bytes_of (joined (edited_all (counted_changes m counts units) (counted_around counts units) pieces)) in
    let same = edited-length (counted_changes m counts units) (counted_around counts units) pieces in
    let cells = ap length (units-cells (length (plain_cells (info_of counts units))) (texts_of counts units) counts units) in
    let plain = length-plain (info_of counts units) in
    let small = length-units_of (texts_of counts units) counts units few in
    omega (arith, bytes, same, cells, plain, small)

-- the table of texts
abbrev pub new_str : PathMap → List ℕ → ℕ → List ℕ
new_str m counts units = laid_texts (table_change m InStr (counted_around counts units) (counted_readings counts units))

str-mentions : (counts : List ℕ) (units : ℕ) → file_mentions InStr (counted_around counts units) (counted_readings counts units)
    ≡ mentions_of InStr (counted_around counts units) (section_pieces (texts_of counts units) counts units)
str-mentions counts units =
    let ms = mentions_of InStr (counted_around counts units) (section_pieces (texts_of counts units) counts units) in
    rw (lines-unnamed (source_around (counted_around counts units)) InStr counts units) (append-nil (ms ++ []) ∙ append-nil ms)

length-new_str : (m : PathMap) (counts : List ℕ) (units : ℕ) → IsPathMap m → units ≤ 10000 → AreFew counts → length (new_str m counts units) ≤ 4120 * (units * 38)
unfolding table_change
length-new_str m counts units fit small few =
    let around = counted_around counts units in
    let whole = length (plain_cells (info_of counts units)) in
    let table = length-new_texts m (file_mentions InStr around (counted_readings counts units)) fit in
    let room = units-room around (texts_of counts units) counts units whole (stands-around counts units small few) small few in
    let same = ap mentions_room (str-mentions counts units) in
    omega (arith, table, room, same)

-- the other table has nothing
abbrev pub new_line_str : PathMap → List ℕ → ℕ → List ℕ
new_line_str m counts units = laid_texts (table_change m InLineStr (counted_around counts units) (counted_readings counts units))

other-mentions : (counts : List ℕ) (units : ℕ) → file_mentions InLineStr (counted_around counts units) (counted_readings counts units) ≡ []
other-mentions counts units =
    rw (
      lines-unnamed (source_around (counted_around counts units)) InLineStr counts units,
      units-other (counted_around counts units) (length (plain_cells (info_of counts units))) (texts_of counts units) counts units,
    ) refl

none-new : (m : PathMap) (counts : List ℕ) (units : ℕ) → new_line_str m counts units ≡ []
unfolding table_change
none-new m counts units = ap (λ (ms : List Mention). laid_texts (new_texts m ms)) (other-mentions counts units)

-- the line tables
abbrev pub new_line : PathMap → List ℕ → ℕ → List ℕ
new_line m counts units = all_lines ((counted_changes m counts units).new Line)

length-new_line : (m : PathMap) (counts : List ℕ) (units : ℕ) → IsPathMap m → units ≤ 10000 → AreFew counts → length (new_line m counts units) ≤ units * table_room
length-new_line m counts units fit small few =
    length-tables m (table_change m InStr (counted_around counts units) (counted_readings counts units)) (table_change m InLineStr (counted_around counts units) (counted_readings counts units))
    (source_around (counted_around counts units)) counts units fit (omega arith) few

-- the bodies by number
abbrev six : PathMap → List ℕ → ℕ → (ℕ → List ℕ) → ℕ → List ℕ
six m counts units old i = body_in (new_bodies m (counted_data counts units) (counted_readings counts units)) old i

pub record BodiesAre (m : PathMap) (counts : List ℕ) (units : ℕ) (old bodies : ℕ → List ℕ) : Type 0 where
  pub null : bodies 0 ≡ []
  pub info : bodies 1 ≡ new_units m counts units
  pub abbrevs : bodies 2 ≡ old 2
  pub str : bodies 3 ≡ new_str m counts units
  pub line : bodies 4 ≡ new_line m counts units
  pub names : bodies 5 ≡ old 5

six-are : (m : PathMap) (counts : List ℕ) (units : ℕ) (old : ℕ → List ℕ) → BodiesAre m counts units old (six m counts units old)
unfolding new_bodies
six-are m counts units old = record { null = none-new m counts units; info = refl; abbrevs = refl; str = refl; line = refl; names = refl }

-- those of a file of counts
body-by : (m : PathMap) (counts : List ℕ) (units : ℕ) (b : List ℕ) (i : ℕ) → IsCounted counts units b
    → file_body m b (counted_readings counts units) i ≡ six m counts units (contents_of b) i
unfolding new_body
body-by m counts units b i w =
    file_body-loaded m b (counted_readings counts units) i w.loaded
    ∙ ap (λ (d : DebugData). body_in (new_bodies m d (counted_readings counts units)) (contents_of b) i) w.data_is

pub bodies-are : (m : PathMap) (counts : List ℕ) (units : ℕ) (b : List ℕ) → IsCounted counts units b
    → BodiesAre m counts units (contents_of b) (file_body m b (counted_readings counts units))
bodies-are m counts units b w =
    let six = six-are m counts units (contents_of b) in
    record {
      null = body-by m counts units b 0 w ∙ six.null;
      info = body-by m counts units b 1 w ∙ six.info;
      abbrevs = body-by m counts units b 2 w ∙ six.abbrevs;
      str = body-by m counts units b 3 w ∙ six.str;
      line = body-by m counts units b 4 w ∙ six.line;
      names = body-by m counts units b 5 w ∙ six.names;
    }

-- how long they are
pub record BodiesFit (bodies : ℕ → List ℕ) : Type 0 where
  pub null : length (bodies 0) ≡ 0
  pub info : length (bodies 1) ≤ 1050000
  pub abbrevs : length (bodies 2) ≡ 19
  pub str : length (bodies 3) ≤ 1567840000
  pub line : length (bodies 4) ≤ 84000000
  pub names : length (bodies 5) ≡ 60

pub bodies-fit : (m : PathMap) (counts : List ℕ) (units : ℕ) (b : List ℕ) → IsPathMap m → units ≤ 10000 → AreFew counts → IsCounted counts units b
    → BodiesFit (file_body m b (counted_readings counts units))
bodies-fit m counts units b fit small few w =
    let are = bodies-are m counts units b w in
    let info = length-new_units m counts units few in
    let str = length-new_str m counts units fit small few in
    let line = length-new_line m counts units fit small few in
    record {
      null = ap length are.null;
      info = omega (arith, ap length are.info, info);
      abbrevs = ap length are.abbrevs ∙ ap length w.sections.abbrev_.contents_are;
      str = omega (arith, ap length are.str, str);
      line = omega (arith, ap length are.line, line);
      names = ap length are.names ∙ ap length w.sections.names.contents_are;
    }
