-- The places between the pieces of a unit section, and which piece leads from one to the next (DWARF 5, 7.5.1 to 7.5.6): a
-- header, then entries, each a code and its values.
use Rattle.std.specs.Prelude.{false, ℕ, ◌+◌, ◌-◌, ◌==◌, if◌then◌else◌, List, [], ◌∷◌, length, Option, Some, None}
use Rattle.dw_base.specs.AbbreviationBytes.{abbreviations_at}
use Rattle.dw_base.specs.AbbreviationTables.{Abbreviation, abbreviation_of}
use Rattle.dw_base.specs.Cells.{Cell, bytes_of}
use Rattle.dw_base.specs.EntryScans.{depth_behind}
use Rattle.dw_base.specs.Forms.{ValueKind, form_in_front, kind_in}
use Rattle.dw_base.specs.Lebs.{uleb_at}
use Rattle.dw_base.specs.UnitHeaders.{SectionKind, UnitBase, unit_header}
use Rattle.dw_base.specs.declared.shared.Order.TheVariants.{Little}
use Rattle.dw_base.specs.declared.shared.Width.TheVariants.{W32}
use Rattle.dw_base.specs.declared.units.UnitHeader.{UnitHeader}
use Rattle.dw_base.specs.declared.values.Spec.{Spec}

-- what comes next: a unit's header; an entry's code; a value of the entry of this number and tag, with the attributes that
-- are left; a value whose form stood in front of it, at a place; or nothing that could
pub data Mode : Type 0 where
  at_header : Mode
  at_code : Mode
  at_values : ℕ → ℕ → List Spec → Mode
  at_chosen : ℕ → ℕ → ℕ → Spec → List Spec → Mode
  stuck : Mode

-- a place between pieces. Of the section: its number, its kind, its length, and where the place is. Of the unit: its number,
-- header and abbreviations. Of its entries: the number of the next one, and how many lists of children are open.
pub record UnitState : Type 0 where
  pub section : ℕ
  pub kind : SectionKind
  pub whole : ℕ
  pub place : ℕ
  pub unit : ℕ
  pub header : UnitHeader
  pub table : List Abbreviation
  pub entry : ℕ
  pub depth : ℕ
  pub mode : Mode

-- the header outside units
abbrev pub no_header : UnitHeader
no_header = record {
  section = 0;
  start = 0;
  end = 0;
  params = record { order = Little; width = W32; version = 0; address = 0 };
  kind = 0;
  abbrevs = 0;
  elsewhere = false;
  signature = 0;
  type_offset = 0;
  first = 0;
}

-- before a unit of this number, at a place of a section of so many bytes
abbrev pub before_unit : ℕ → SectionKind → ℕ → ℕ → ℕ → UnitState
before_unit section kind whole place unit = record {
  section = section;
  kind = kind;
  whole = whole;
  place = place;
  unit = unit;
  header = no_header;
  table = [];
  entry = 0;
  depth = 0;
  mode = at_header;
}

-- in the unit of a state, at a place, before a piece of this mode
abbrev pub in_unit : UnitState → ℕ → ℕ → ℕ → Mode → UnitState
in_unit s place entry depth mode = record {
  section = s.section;
  kind = s.kind;
  whole = s.whole;
  place = place;
  unit = s.unit;
  header = s.header;
  table = s.table;
  entry = entry;
  depth = depth;
  mode = mode;
}

-- between entries: an entry's code, or at the unit's end the next unit, where no list of children is open
unfoldable pub between : UnitState → ℕ → ℕ → ℕ → UnitState
between s place entry depth =
    if place == s.header.end
    then (if depth == 0 then before_unit s.section s.kind s.whole place (s.unit + 1) else in_unit s place entry depth stuck)
    else in_unit s place entry depth at_code

-- inside an entry, with these attributes left
abbrev pub inside : UnitState → ℕ → ℕ → ℕ → ℕ → ℕ → List Spec → UnitState
inside s place entry depth number tag [] = between s place entry depth
inside s place entry depth number tag (x ∷ xs) = in_unit s place entry depth (at_values number tag (x ∷ xs))

-- in the unit of a header
abbrev pub headed : UnitBase → UnitState → UnitHeader → UnitState
headed base s h = record {
  section = s.section;
  kind = s.kind;
  whole = s.whole;
  place = s.place;
  unit = s.unit;
  header = h;
  table = abbreviations_at base.abbrevs.bytes h.abbrevs;
  entry = 0;
  depth = 0;
  mode = at_header;
}

abbrev pub after_header : UnitBase → UnitState → ℕ → Option UnitHeader → UnitState
after_header base s place None = in_unit s place 0 0 stuck
after_header base s place (Some h) = between (headed base s h) place 0 0

-- after an entry's code: the entry's values, and one more list of children where it has some
abbrev pub after_entry : UnitState → ℕ → Option Abbreviation → UnitState
after_entry s place None = in_unit s place s.entry s.depth stuck
after_entry s place (Some a) = inside s place (s.entry + 1) (depth_behind a s.depth) s.entry a.tag a.specs

-- after a code: 0 closes a list of children, or is padding where none is open
unfoldable pub after_code : UnitState → ℕ → ℕ → UnitState
after_code s place n =
    if n == 0 then between s place s.entry (s.depth - 1) else after_entry s place (abbreviation_of s.table n)

-- the value of what was read, 0 where nothing was
abbrev pub read_value : Option (ℕ × ℕ) → ℕ
read_value None = 0
read_value (Some n) = n.0

-- the number that a piece spells
abbrev pub code_value : List Cell → ℕ
code_value p = read_value (uleb_at (bytes_of p) 0)

-- an attribute with the form that stood in front of its value
abbrev pub of_chosen : Spec → ℕ → Spec
of_chosen x form = record { name = x.name; form = form; implicit = x.implicit }

-- after a value: where it was a form, comes the value of that form, which began here
abbrev pub after_value : ValueKind → UnitState → ℕ → ℕ → ℕ → ℕ → Spec → List Spec → UnitState
after_value form_in_front s place form number tag x xs = in_unit s place s.entry s.depth (at_chosen number tag s.place (of_chosen x form) xs)
after_value k s place form number tag x xs = inside s place s.entry s.depth number tag xs

-- the header at the front of a piece
abbrev pub piece_header : UnitBase → UnitState → List Cell → Option UnitHeader
piece_header base s p = unit_header base s.kind s.section s.place p

-- the state after a piece
abbrev pub past : Mode → UnitBase → UnitState → List Cell → UnitState
past at_header base s p = after_header base s (s.place + length p) (piece_header base s p)
past at_code base s p = after_code s (s.place + length p) (code_value p)
past (at_values number tag []) base s p = s
past (at_values number tag (x ∷ xs)) base s p =
    after_value (kind_in s.header.params x.form) s (s.place + length p) (code_value p) number tag x xs
past (at_chosen number tag start x xs) base s p = inside s (s.place + length p) s.entry s.depth number tag xs
past stuck base s p = s
