-- The slots that stand with a path in what units mean are those that paths of the units name.
use Rattle.std.proofs.Common.{Bool, true, false, ◌≡◌, ℕ, ◌+◌, ◌==◌, ◌&&◌, if◌then◌else◌, List, [], ◌∷◌, ◌++◌, length, Option, Some, None, refl, sym, ap, ◌∙◌, append_assoc}
use Rattle.dw_base.specs.AbbreviationTables.{Abbreviation, abbreviation_of}
use Rattle.dw_base.specs.Cells.{Cell, bytes_of, field_of, offset_of}
use Rattle.dw_base.specs.DebugData.{Lasting, Around, EntryPlace, line_table, macro_unit, units_in, ReadsAll}
use Rattle.dw_base.specs.Forests.{Mark, null}
use Rattle.dw_base.specs.Forms.{ValueKind, number_of, leb_number, inline_text, text_offset, form_in_front, kind_in}
use Rattle.dw_base.specs.MappedSlots.{path_slot, forest_slots, unit_slots}
use Rattle.dw_base.specs.Numbers.{spelled}
use Rattle.dw_base.specs.Pieces.{Piece}
use Rattle.dw_base.specs.Readings.{Readings}
use Rattle.dw_base.specs.Roles.{is_line_start, is_macro_start, is_path, is_path_use, use_of}
use Rattle.dw_base.specs.TextIndexes.{Indexing, IndexUse, index_value, use_by, uses_by, uses_in, index_uses, slot_of, listed_slot, slots_named, holds_number}
use Rattle.dw_base.specs.UnitHeaders.{UnitBase, UnitSection}
use Rattle.dw_base.specs.UnitMeanings.{UnitMeaning, head_mark, entry_mark, code_mark, value_mark, mark_by, mark_of, unit_meanings, units_read}
use Rattle.dw_base.specs.UnitStates.{Mode, at_header, at_code, at_values, at_chosen, stuck, UnitState, code_value, piece_header}
use Rattle.dw_base.specs.ValueMeanings.{inline, by_offset, string, entry_of, stray, found_entry, first_of, global_entry, local_entry, indexed, number_meaning, leb_meaning, meaning_of_value, line_meaning, table_named, unit_meant, macro_meaning, plain_meaning}
use Rattle.dw_base.specs.declared.shared.Order.{Order}
use Rattle.dw_base.specs.declared.units.UnitHeader.{UnitHeader}
use Rattle.dw_base.specs.declared.values.Spec.{Spec}
use Rattle.dw_base.specs.declared.values.ValueClass.{ValueClass}
use Rattle.dw_base.specs.declared.values.ValueClass.TheVariants.{Address, LocalRef, GlobalRef, Number, SecOffset, StrIndex}
use Rattle.dw_base.specs.declared.view_fields.Field.{Field}
use Rattle.dw_base.specs.declared.view_fields.Field.TheVariants.{Num, Into, Sym}
use Rattle.dw_base.proofs.IndexKeptLaws.{start-no-index}
use Rattle.dw_base.proofs.PathSlotLaws.{mark_slots, marks_slots, marks_slots-append, forest-slots}
use Rattle.dw_base.specs.declared.debug_sections.DebugSection.TheVariants.{Info, StrOffsets, Line}
use Rattle.dw_base.specs.declared.values.AttributeUse.{AttributeUse}
use Rattle.dw_base.specs.declared.values.AttributeUse.TheVariants.{NamesMacroUnit}
use Rattle.dw_meaning.specs.SpelledUnits.{marks_of, SpelledUnits, no_units, more_units}
use Rattle.dw_meaning.proofs.IndexTextLaws.{use-path}
use Rattle.dw_meaning.proofs.SpelledLaws.{section-spelled}

-- what isn't a text has no slot
found-none : (es : List EntryPlace) (section place n : ℕ) → path_slot (found_entry es section place n) ≡ []
found-none [] section place n = refl
found-none (e ∷ es) section place n = by_here (e.section == section && e.place == place) (found-none es section place n)
  where
    by_here : (b : Bool) → path_slot (found_entry es section place n) ≡ [] → path_slot (if b then entry_of e.unit e.number else found_entry es section place n) ≡ []
    by_here true h = refl
    by_here false h = h

global-none : (g : Lasting) (f : Field) → path_slot (global_entry g f) ≡ []
global-none g (Num n) = found-none (g.kept Info).entries (first_of (g.kept Info).infos) n n
global-none g (Sym s k d) = refl
global-none g (Into z n) = by_info (holds_number (g.kept Info).infos z)
  where
    by_info : (b : Bool) → path_slot (if b then found_entry (g.kept Info).entries z n n else stray n) ≡ []
    by_info true = found-none (g.kept Info).entries z n n
    by_info false = refl

local-none : (g : Lasting) (s : UnitState) (n : ℕ) → path_slot (local_entry g s n) ≡ []
local-none g s n = found-none (g.kept Info).entries s.section (s.header.start + n) n

-- a text that has no slot
text-none : (path : Bool) (t : List ℕ) → path_slot (string path by_offset t) ≡ []
text-none true t = refl
text-none false t = refl

inline-none : (path : Bool) (t : List ℕ) → path_slot (string path inline t) ≡ []
inline-none true t = refl
inline-none false t = refl

-- the slots that a value names where it is a path
abbrev pub path_listed : Bool → Option ℕ → List ℕ
path_listed path o = (if path then listed_slot o else []) ++ []

indexed-slot : (texts : List (List ℕ)) (o : Option ℕ) (path other : Bool) (p : List Cell) → other ≡ path → path_slot (indexed texts path o p) ≡ path_listed other o
indexed-slot texts None true true p e = refl
indexed-slot texts None false false p e = refl
indexed-slot texts (Some n) true true p e = refl
indexed-slot texts (Some n) false false p e = refl
indexed-slot texts o true false p e = absurd cc
indexed-slot texts o false true p e = absurd cc

abbrev named_by : Around → UnitState → ℕ → Bool → Option ℕ → List ℕ
named_by around s place path o = slots_named true (around.lasting.kept StrOffsets) (use_by s place path o)

number-slot : (class : ValueClass) (n : ℕ) (around : Around) (s : UnitState) (u : AttributeUse) (path : Bool) (place : ℕ) (p : List Cell) → path ≡ is_path_use u
    → path_slot (number_meaning around s u class p) ≡ named_by around s place path (index_value around.lasting.base.order (number_of class n) p)
number-slot StrIndex n around s u path place p e =
    indexed-slot (around.stands StrOffsets) (slot_of (around.lasting.kept StrOffsets) s.unit (spelled around.lasting.base.order (bytes_of p) 0 (length p))) (is_path_use u) path p e
number-slot Address n around s u path place p e = refl
number-slot LocalRef n around s u path place p e = local-none around.lasting s (spelled around.lasting.base.order (bytes_of p) 0 (length p))
number-slot GlobalRef n around s u path place p e = global-none around.lasting (field_of around.lasting.base.order p)
number-slot class n around s u path place p e = refl

leb-slot : (class : ValueClass) (around : Around) (s : UnitState) (u : AttributeUse) (path : Bool) (place : ℕ) (p : List Cell) → path ≡ is_path_use u
    → path_slot (leb_meaning around s u class p) ≡ named_by around s place path (index_value around.lasting.base.order (leb_number class) p)
leb-slot StrIndex around s u path place p e =
    indexed-slot (around.stands StrOffsets) (slot_of (around.lasting.kept StrOffsets) s.unit (code_value p)) (is_path_use u) path p e
leb-slot LocalRef around s u path place p e = local-none around.lasting s (code_value p)
leb-slot class around s u path place p e = refl

-- a line table has no slot
table-none : (o : Option ℕ) (n : ℕ) → path_slot (table_named o n) ≡ []
table-none None n = refl
table-none (Some k) n = refl

-- nor has a macro unit
unit-none : (o : Option ℕ) (f : Field) → path_slot (unit_meant o f) ≡ []
unit-none None f = refl
unit-none (Some k) f = refl

unit-no-index : (u : AttributeUse) (class : ValueClass) (n : ℕ) (order : Order) (p : List Cell) → is_macro_start u class n ≡ true → index_value order (number_of class n) p ≡ None
unit-no-index NamesMacroUnit SecOffset n order p e = refl
unit-no-index NamesMacroUnit Number n order p e = refl
unit-no-index u class n order p e = absurd cc

plain-slot : (class : ValueClass) (n : ℕ) (around : Around) (s : UnitState) (u : AttributeUse) (path : Bool) (place : ℕ) (p : List Cell) → path ≡ is_path_use u
    → path_slot (plain_meaning around s u class n p) ≡ named_by around s place path (index_value around.lasting.base.order (number_of class n) p)
plain-slot class n around s u path place p e = by_unit (is_macro_start u class n) refl
  where
    by_unit : (b : Bool) → is_macro_start u class n ≡ b
        → path_slot (if b then macro_meaning around.lasting p else number_meaning around s u class p) ≡ named_by around s place path (index_value around.lasting.base.order (number_of class n) p)
    by_unit true is =
        unit-none (macro_unit around.lasting p) (field_of around.lasting.base.order p)
        ∙ sym (ap (named_by around s place path) (unit-no-index u class n around.lasting.base.order p is))
    by_unit false is = number-slot class n around s u path place p e

-- what a value names: a further form is a clause here
value-slot : (k : ValueKind) (around : Around) (s : UnitState) (u : AttributeUse) (x : Spec) (path : Bool) (place : ℕ) (p : List Cell) → path ≡ is_path_use u
    → path_slot (meaning_of_value around s u x k p) ≡ named_by around s place path (index_value around.lasting.base.order k p)
value-slot (number_of class n) around s u x path place p e = by_start (is_line_start u class n) refl
  where
    by_start : (b : Bool) → is_line_start u class n ≡ b
        → path_slot (if b then line_meaning around p else plain_meaning around s u class n p) ≡ named_by around s place path (index_value around.lasting.base.order (number_of class n) p)
    by_start true is =
        table-none (line_table around p) (offset_of around.lasting.base.order (around.stands Line).located p)
        ∙ sym (ap (named_by around s place path) (start-no-index u class n around.lasting.base.order p is))
    by_start false is = plain-slot class n around s u path place p e
value-slot (leb_number class) around s u x path place p e = leb-slot class around s u path place p e
value-slot inline_text around s u x path place p e = inline-none (is_path_use u) _
value-slot (text_offset table n) around s u x path place p e = text-none (is_path_use u) _
value-slot k around s u x path place p e = refl

mark-slot : (k : ValueKind) (around : Around) (s : UnitState) (n tag : ℕ) (x : Spec) (place : ℕ) (p : List Cell)
    → mark_slots (value_mark k around s n tag x p) ≡ named_by around s place (is_path n tag x.name) (index_value around.lasting.base.order k p)
mark-slot form_in_front around s n tag x place p = refl
mark-slot k around s n tag x place p = value-slot k around s (use_of n tag x.name) x (is_path n tag x.name) place p (use-path n tag x.name)

head-none : (g : Lasting) (h : Option UnitHeader) → mark_slots (head_mark g h) ≡ []
head-none g None = refl
head-none g (Some h) = refl

entry-none : (a : Option Abbreviation) → mark_slots (entry_mark a) ≡ []
entry-none None = refl
entry-none (Some a) = refl

code-none : (table : List Abbreviation) (n : ℕ) → mark_slots (code_mark table n) ≡ []
code-none table n = by_null (n == 0)
  where
    by_null : (b : Bool) → mark_slots (if b then null else entry_mark (abbreviation_of table n)) ≡ []
    by_null true = refl
    by_null false = entry-none (abbreviation_of table n)

piece-slots : (m : Mode) (around : Around) (s : UnitState) (p : List Cell)
    → mark_slots (mark_by m around s p) ≡ slots_named true (around.lasting.kept StrOffsets) (uses_by m around.lasting.base.order s p)
piece-slots at_header around s p = head-none around.lasting (piece_header around.lasting.base s p)
piece-slots at_code around s p = code-none s.table (code_value p)
piece-slots (at_values n tag []) around s p = refl
piece-slots (at_values n tag (x ∷ xs)) around s p = mark-slot (kind_in s.header.params x.form) around s n tag x s.place p
piece-slots (at_chosen n tag start x xs) around s p = mark-slot (kind_in s.header.params x.form) around s n tag x start p
piece-slots stuck around s p = refl

named-append : (g : Indexing) (xs ys : List IndexUse) → slots_named true g (xs ++ ys) ≡ slots_named true g xs ++ slots_named true g ys
named-append g [] ys = refl
named-append g (u ∷ us) ys =
    ap (λ (ns : List ℕ). (if u.path then listed_slot (slot_of g u.unit u.index) else []) ++ ns) (named-append g us ys)
    ∙ sym (append_assoc (if u.path then listed_slot (slot_of g u.unit u.index) else []) (slots_named true g us) (slots_named true g ys))

pieces-slots : (around : Around) (xs : List (Piece UnitState))
    → marks_slots (marks_of around xs) ≡ slots_named true (around.lasting.kept StrOffsets) (uses_in around.lasting.base.order xs)
pieces-slots around [] = refl
pieces-slots around (x ∷ xs) =
    ap (λ (ns : List ℕ). ns ++ marks_slots (marks_of around xs)) (piece-slots x.state.mode around x.state x.cells)
    ∙ ap (λ (ns : List ℕ). slots_named true (around.lasting.kept StrOffsets) (uses_by x.state.mode around.lasting.base.order x.state x.cells) ++ ns) (pieces-slots around xs)
    ∙ sym (named-append (around.lasting.kept StrOffsets) (uses_by x.state.mode around.lasting.base.order x.state x.cells) (uses_in around.lasting.base.order xs))

marks-append : (around : Around) (xs ys : List (Piece UnitState)) → marks_of around (xs ++ ys) ≡ marks_of around xs ++ marks_of around ys
marks-append around [] ys = refl
marks-append around (x ∷ xs) ys = ap (λ (ms : List Mark). mark_of around x ∷ ms) (marks-append around xs ys)

-- units that pieces spell
spelled-slots : (around : Around) (section : ℕ) (xs : List (Piece UnitState)) (units : List UnitMeaning) → SpelledUnits around section xs units
    → unit_slots units ≡ marks_slots (marks_of around xs)
spelled-slots around section xs units no_units = refl
spelled-slots around section all units (more_units x xs rest head f us e spells more) =
    ap (λ (ns : List ℕ). ns ++ unit_slots us) (forest-slots (marks_of around xs) f spells)
    ∙ ap (λ (ns : List ℕ). marks_slots (marks_of around xs) ++ ns) (spelled-slots around section rest us more)
    ∙ sym (marks_slots-append (marks_of around xs) (marks_of around rest))
    ∙ ap marks_slots (sym (marks-append around xs rest))
    ∙ ap (λ (m : Mark). mark_slots m ++ marks_slots (marks_of around (xs ++ rest))) (sym e)

unit_slots-append : (xs ys : List UnitMeaning) → unit_slots (xs ++ ys) ≡ unit_slots xs ++ unit_slots ys
unit_slots-append [] ys = refl
unit_slots-append (u ∷ us) ys =
    ap (λ (ns : List ℕ). forest_slots u.entries ++ ns) (unit_slots-append us ys) ∙ sym (append_assoc (forest_slots u.entries) (unit_slots us) (unit_slots ys))

-- the units of all sections
pub units-slots : (base : UnitBase) (around : Around) (first : ℕ) (zs : List UnitSection) (rs : Readings) → around.lasting.base ≡ base → ReadsAll base first zs rs
    → unit_slots (units_read around rs) ≡ slots_named true (around.lasting.kept StrOffsets) (index_uses around.lasting.base.order rs)
units-slots base around first [] [] same reads = refl
units-slots base around first [] (r ∷ rs) same reads = absurd reads
units-slots base around first (z ∷ zs) [] same reads = absurd reads
units-slots base around first (z ∷ zs) (r ∷ rs) same reads =
    let here : unit_slots (unit_meanings r.number around r.pieces) ≡ slots_named true (around.lasting.kept StrOffsets) (uses_in around.lasting.base.order r.pieces) =
    ap (λ (n : ℕ). unit_slots (unit_meanings n around r.pieces)) reads.0
    ∙ spelled-slots around z.number r.pieces (unit_meanings z.number around r.pieces) (section-spelled base around z first r.pieces same reads.1)
    ∙ pieces-slots around r.pieces in
    unit_slots-append (unit_meanings r.number around r.pieces) (units_read around rs)
    ∙ ap (λ (ns : List ℕ). ns ++ unit_slots (units_read around rs)) here
    ∙ ap (λ (ns : List ℕ). slots_named true (around.lasting.kept StrOffsets) (uses_in around.lasting.base.order r.pieces) ++ ns) (units-slots base around (first + units_in r.pieces) zs rs same reads.2)
    ∙ sym (named-append (around.lasting.kept StrOffsets) (uses_in around.lasting.base.order r.pieces) (index_uses around.lasting.base.order rs))
