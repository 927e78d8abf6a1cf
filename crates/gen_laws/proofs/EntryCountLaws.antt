-- How many units and entries a generated file means.
use Rattle.std.proofs.Common.{◌≡◌, ℕ, zero, suc, ◌+◌, ◌*◌, ◌≤◌, Bool, true, false, List, [], ◌∷◌, ◌++◌, length, slice_index, Option, Some, None, refl, ap, ◌∙◌, arith}
use Rattle.dw_base.specs.Cells.{plain_cells}
use Rattle.dw_base.specs.DebugData.{Around, Lasting}
use Rattle.dw_base.specs.Forests.{AttributeMeaning, Forest, HeadMeaning, Mark, all_entries, attribute, begins, entry, followed_by, innermost, no_entries, no_mark, null, opens, outer, with_entry}
use Rattle.dw_base.specs.Forms.{form_rows, kind_in}
use Rattle.dw_base.specs.Lebs.{uleb_at}
use Rattle.dw_base.specs.Numbers.{number_bytes}
use Rattle.dw_base.specs.Pieces.{Piece}
use Rattle.dw_base.specs.UnitHeaders.{UnitBase}
use Rattle.dw_base.specs.UnitMeanings.{Following, following, head_mark, mark_of, unit_meanings, with_mark}
use Rattle.dw_base.specs.UnitStates.{UnitState, at_code, at_values, piece_header}
use Rattle.dw_base.specs.declared.dwarf_numbers.TheConstants.{DW_TAG_compile_unit, DW_TAG_variable}
use Rattle.dw_base.specs.declared.shared.Order.TheVariants.{Little}
use Rattle.dw_base.specs.declared.units.UnitHeader.{UnitHeader}
use Rattle.dbg_gen.specs.Asked.{AreFew}
use Rattle.dbg_gen.specs.GeneratedLines.{lines_of}
use Rattle.dbg_gen.specs.GeneratedTexts.{chained, directory, unit_name, variable_name}
use Rattle.dbg_gen.specs.GeneratedUnits.{text_offset}
use Rattle.gen_laws.specs.Counts.{entries_in, entries_of}
use Rattle.gen_laws.proofs.AbbreviationReadLaws.{directory_spec, lines_spec, name_spec}
use Rattle.gen_laws.proofs.UnitChainLaws.{end_piece, front_pieces, piece, size_of, variable_pieces}
use Rattle.gen_laws.proofs.UnitPieceLaws.{before, generated_base, header-found, header_bytes, header_of, within}
use Rattle.gen_laws.proofs.UnitReadLaws.{all_pieces, pieces_of, unit_start}

-- the entries of forests
abbrev levels_count : List Forest → ℕ
levels_count [] = 0
levels_count (f ∷ fs) = entries_of f + levels_count fs

followed-count : (f g : Forest) → entries_of (followed_by f g) ≡ entries_of f + entries_of g
followed-count no_entries g = omega arith
followed-count (entry tag attributes children siblings) g = omega (arith, followed-count siblings g)

all-count : (fs : List Forest) → entries_of (all_entries fs) ≡ levels_count fs
all-count [] = refl
all-count (f ∷ fs) = omega (arith, followed-count f (all_entries fs), all-count fs)

first-count : (fs : List Forest) → entries_of (innermost fs) + levels_count (outer fs) ≡ levels_count fs
first-count [] = refl
first-count (f ∷ fs) = refl

entry-count : (tag : ℕ) (children : Bool) (attributes : List AttributeMeaning) (levels : List Forest) → levels_count (with_entry tag children attributes levels) ≡ 1 + levels_count levels
entry-count tag true attributes levels = omega (arith, first-count levels, first-count (outer levels))
entry-count tag false attributes levels = omega (arith, first-count levels)

-- how many entries and units begin at a mark
abbrev opened : Mark → ℕ
opened (opens tag children) = 1
opened m = 0

abbrev begun : Mark → ℕ
begun (begins head) = 1
begun m = 0

-- the entries of what follows a place
abbrev entries_behind : Following → ℕ
entries_behind r = levels_count r.levels + entries_in r.units

mark-entries : (section : ℕ) (m : Mark) (r : Following) → entries_behind (with_mark section m r) ≡ opened m + entries_behind r
mark-entries section (begins head) r = omega (arith, all-count r.levels)
mark-entries section (opens tag children) r = omega (arith, entry-count tag children r.attributes r.levels)
mark-entries section (attribute a) r = omega arith
mark-entries section null r = omega arith
mark-entries section no_mark r = omega arith

mark-units : (section : ℕ) (m : Mark) (r : Following) → length (with_mark section m r).units ≡ begun m + length r.units
mark-units section (begins head) r = omega arith
mark-units section (opens tag children) r = omega arith
mark-units section (attribute a) r = omega arith
mark-units section null r = omega arith
mark-units section no_mark r = omega arith

-- a weight of pieces
abbrev weigh : (Piece UnitState → ℕ) → List (Piece UnitState) → ℕ
weigh w [] = 0
weigh w (x ∷ xs) = w x + weigh w xs

weigh-append : (w : Piece UnitState → ℕ) (xs ys : List (Piece UnitState)) → weigh w (xs ++ ys) ≡ weigh w xs + weigh w ys
weigh-append w [] ys = omega arith
weigh-append w (x ∷ xs) ys = omega (arith, weigh-append w xs ys)

-- what pieces are that stand in front of something
abbrev in_front : ℕ → Around → List (Piece UnitState) → Following → Following
in_front section around [] r = r
in_front section around (x ∷ xs) r = with_mark section (mark_of around x) (in_front section around xs r)

front-append : (section : ℕ) (around : Around) (xs ys : List (Piece UnitState)) (r : Following)
    → in_front section around (xs ++ ys) r ≡ in_front section around xs (in_front section around ys r)
front-append section around [] ys r = refl
front-append section around (x ∷ xs) ys r = ap (with_mark section (mark_of around x)) (front-append section around xs ys r)

abbrev nothing : Following
nothing = record { attributes = []; levels = []; units = [] }

following-front : (section : ℕ) (around : Around) (xs : List (Piece UnitState)) → following section around xs ≡ in_front section around xs nothing
following-front section around [] = refl
following-front section around (x ∷ xs) = ap (with_mark section (mark_of around x)) (following-front section around xs)

abbrev opens_in : Around → Piece UnitState → ℕ
opens_in around x = opened (mark_of around x)

abbrev begins_in : Around → Piece UnitState → ℕ
begins_in around x = begun (mark_of around x)

front-entries : (section : ℕ) (around : Around) (xs : List (Piece UnitState)) → entries_behind (in_front section around xs nothing) ≡ weigh (opens_in around) xs
front-entries section around [] = refl
front-entries section around (x ∷ xs) =
    omega (arith, mark-entries section (mark_of around x) (in_front section around xs nothing), front-entries section around xs)

front-units : (section : ℕ) (around : Around) (xs : List (Piece UnitState)) → length (in_front section around xs nothing).units ≡ weigh (begins_in around) xs
front-units section around [] = refl
front-units section around (x ∷ xs) =
    omega (arith, mark-units section (mark_of around x) (in_front section around xs nothing), front-units section around xs)

-- what the pieces of a unit weigh: its header, its code and that of each variable, and nothing else
record Weighs (w : Piece UnitState → ℕ) (whole : ℕ) (texts : List (List ℕ)) (counts : List ℕ) (head own each : ℕ) : Type 0 where
  header : (unit start : ℕ) → w (piece (before whole unit start) (header_bytes (size_of (slice_index counts unit)))) ≡ head
  unit_code : (unit start n place : ℕ) → w (piece (within whole unit start n place 0 0 at_code) (1 ∷ [])) ≡ own
  variable_code : (unit start n place entry : ℕ) → w (piece (within whole unit start n place entry 1 at_code) (2 ∷ [])) ≡ each
  end_code : (unit start n place entry : ℕ) → w (piece (within whole unit start n place entry 1 at_code) (0 ∷ [])) ≡ 0
  name : (unit start n place : ℕ)
      → w (piece (within whole unit start n place 1 1 (at_values 0 DW_TAG_compile_unit (name_spec ∷ directory_spec ∷ lines_spec ∷ []))) (text_offset texts (unit_name unit))) ≡ 0
  directory_value : (unit start n place : ℕ)
      → w (piece (within whole unit start n place 1 1 (at_values 0 DW_TAG_compile_unit (directory_spec ∷ lines_spec ∷ []))) (text_offset texts directory)) ≡ 0
  lines : (unit start n place lines : ℕ) → w (piece (within whole unit start n place 1 1 (at_values 0 DW_TAG_compile_unit (lines_spec ∷ []))) (number_bytes Little 4 lines)) ≡ 0
  variable : (unit start n place i : ℕ)
      → w (piece (within whole unit start n place (1 + i + 1) 1 (at_values (1 + i) DW_TAG_variable (name_spec ∷ []))) (text_offset texts (variable_name i))) ≡ 0

weigh-variables : (w : Piece UnitState → ℕ) (whole : ℕ) (texts : List (List ℕ)) (counts : List ℕ) (head own each unit start n count : ℕ) → Weighs w whole texts counts head own each
    → weigh w (chained (variable_pieces whole unit start n texts) count) ≡ each * count
weigh-variables w whole texts counts head own each unit start n zero all = omega arith
weigh-variables w whole texts counts head own each unit start n (suc count) all =
    let rest = weigh-variables w whole texts counts head own each unit start n count all in
    let both = weigh-append w (chained (variable_pieces whole unit start n texts) count) (variable_pieces whole unit start n texts count) in
    let code = all.variable_code unit start n (start + 24 + 5 * count) (1 + count) in
    let value = all.variable unit start n (start + 24 + 5 * count + 1) count in
    grind (arith, rest, both, code, value)

weigh-unit : (w : Piece UnitState → ℕ) (whole : ℕ) (texts : List (List ℕ)) (counts : List ℕ) (head own each unit : ℕ) → Weighs w whole texts counts head own each
    → weigh w (pieces_of whole texts counts unit) ≡ head + own + each * slice_index counts unit
weigh-unit w whole texts counts head own each unit all =
    let start = unit_start texts counts unit in
    let count = slice_index counts unit in
    let n = size_of (slice_index counts unit) in
    let lines = length (lines_of counts unit) in
    let variables = weigh-variables w whole texts counts head own each unit start n count all in
    let behind = weigh-append w (chained (variable_pieces whole unit start n texts) count) (end_piece whole unit start n count ∷ []) in
    let both = weigh-append w (front_pieces whole unit start n texts lines) (chained (variable_pieces whole unit start n texts) count ++ end_piece whole unit start n count ∷ []) in
    let header = all.header unit start in
    let code = all.unit_code unit start n (start + 11) in
    let name = all.name unit start n (start + 11 + 1) in
    let dir = all.directory_value unit start n (start + 11 + 1 + 4) in
    let table = all.lines unit start n (start + 11 + 1 + 4 + 4) lines in
    let last = all.end_code unit start n (start + 24 + 5 * count) (1 + count) in
    omega (arith, variables, behind, both, header, code, name, dir, table, last)

-- the variables of the first units
abbrev pub all_variables : List ℕ → ℕ → ℕ
all_variables counts zero = 0
all_variables counts (suc unit) = all_variables counts unit + slice_index counts unit

weigh-units : (w : Piece UnitState → ℕ) (whole : ℕ) (texts : List (List ℕ)) (counts : List ℕ) (head own each units : ℕ) → Weighs w whole texts counts head own each
    → weigh w (all_pieces whole texts counts units) ≡ (head + own) * units + each * all_variables counts units
weigh-units w whole texts counts head own each zero all = omega arith
weigh-units w whole texts counts head own each (suc unit) all =
    let rest = weigh-units w whole texts counts head own each unit all in
    let both = weigh-append w (all_pieces whole texts counts unit) (pieces_of whole texts counts unit) in
    let last = weigh-unit w whole texts counts head own each unit all in
    grind (arith, rest, both, last)

-- which entries begin in a unit
opened-head : (g : Lasting) (o : Option UnitHeader) → opened (head_mark g o) ≡ 0
opened-head g None = refl
opened-head g (Some h) = refl

opens-weigh : (around : Around) (whole : ℕ) (texts : List (List ℕ)) (counts : List ℕ) → Weighs (opens_in around) whole texts counts 0 1 1
unfolding uleb_at kind_in form_rows
opens-weigh around whole texts counts = record {
  header = λ unit start. opened-head around.lasting _;
  unit_code = λ unit start n place. refl;
  variable_code = λ unit start n place entry. refl;
  end_code = λ unit start n place entry. refl;
  name = λ unit start n place. refl;
  directory_value = λ unit start n place. refl;
  lines = λ unit start n place lines. refl;
  variable = λ unit start n place i. refl;
}

-- and where it begins itself
header-mark : (around : Around) (whole unit start count : ℕ) → around.lasting.base ≡ generated_base → count ≤ 16
    → mark_of around (piece (before whole unit start) (header_bytes (size_of count))) ≡ head_mark around.lasting (Some (header_of start (size_of count)))
header-mark around whole unit start count base few =
    ap (λ (b : UnitBase). head_mark around.lasting (piece_header b (before whole unit start) (plain_cells (header_bytes (size_of count))))) base
    ∙ ap (head_mark around.lasting) (header-found whole unit start (size_of count) (omega arith) (omega arith))

begins-weigh : (around : Around) (whole : ℕ) (texts : List (List ℕ)) (counts : List ℕ) → around.lasting.base ≡ generated_base → AreFew counts
    → Weighs (begins_in around) whole texts counts 1 0 0
unfolding uleb_at kind_in form_rows
begins-weigh around whole texts counts base few = record {
  header = λ unit start. ap begun (header-mark around whole unit start (slice_index counts unit) base (few.each unit));
  unit_code = λ unit start n place. refl;
  variable_code = λ unit start n place entry. refl;
  end_code = λ unit start n place entry. refl;
  name = λ unit start n place. refl;
  directory_value = λ unit start n place. refl;
  lines = λ unit start n place lines. refl;
  variable = λ unit start n place i. refl;
}

-- no entry stands in front of the first unit
begun-levels : (section : ℕ) (m : Mark) (head : HeadMeaning) (r : Following) → m ≡ begins head → (with_mark section m r).levels ≡ []
begun-levels section m head r e = ap (λ (n : Mark). (with_mark section n r).levels) e

levels-none : (section : ℕ) (around : Around) (whole : ℕ) (texts : List (List ℕ)) (counts : List ℕ) (units : ℕ) (r : Following) → around.lasting.base ≡ generated_base → AreFew counts
    → r.levels ≡ [] → (in_front section around (all_pieces whole texts counts units) r).levels ≡ []
levels-none section around whole texts counts zero r base few none = none
levels-none section around whole texts counts (suc unit) r base few none =
    ap (λ (f : Following). f.levels) (front-append section around (all_pieces whole texts counts unit) (pieces_of whole texts counts unit) r)
    ∙ levels-none section around whole texts counts unit (in_front section around (pieces_of whole texts counts unit) r) base few
    (begun-levels section (mark_of around (piece (before whole unit (unit_start texts counts unit)) (header_bytes (size_of (slice_index counts unit))))) _ _
    (header-mark around whole unit (unit_start texts counts unit) (slice_index counts unit) base (few.each unit)))

-- so much is meant
pub record UnitsCounted (around : Around) (section whole : ℕ) (texts : List (List ℕ)) (counts : List ℕ) (units : ℕ) : Type 0 where
  pub units_are : length (unit_meanings section around (all_pieces whole texts counts units)) ≡ units
  pub entries_are : entries_in (unit_meanings section around (all_pieces whole texts counts units)) ≡ units + all_variables counts units

pub units-counted : (around : Around) (section whole : ℕ) (texts : List (List ℕ)) (counts : List ℕ) (units : ℕ) → around.lasting.base ≡ generated_base → AreFew counts
    → UnitsCounted around section whole texts counts units
units-counted around section whole texts counts units base few =
    let xs = all_pieces whole texts counts units in
    let same = following-front section around xs in
    let none = ap levels_count (levels-none section around whole texts counts units nothing base few refl) in
    let entries = front-entries section around xs in
    let opened_units = weigh-units (opens_in around) whole texts counts 0 1 1 units (opens-weigh around whole texts counts) in
    let begun_units = weigh-units (begins_in around) whole texts counts 1 0 0 units (begins-weigh around whole texts counts base few) in
    record {
      units_are = ap (λ (f : Following). length f.units) same ∙ front-units section around xs ∙ begun_units ∙ omega arith;
      entries_are = omega (arith, ap (λ (f : Following). entries_in f.units) same, none, entries, opened_units);
    }
