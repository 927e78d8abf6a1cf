-- Tables of abbreviations for units whose paths become offsets (DWARF 5, 7.5.3): a copy of the unit's table, in which the form of each such
-- attribute of the unit's first entry is another, and an attribute for what is left of the text's room follows it. This project's profile.
use Rattle.std.specs.Prelude.{Bool, true, false, ℕ, zero, suc, pos, ◌+◌, ◌-◌, ◌==◌, ◌&&◌, not, nat_lt, if◌then◌else◌, List, [], ◌∷◌, ◌++◌, length, drop, replicate, Option, Some, None}
use Rattle.dw_base.specs.AbbreviationBytes.{TablePlace, code_next, form_next, ended, TableState, at_place, after_byte}
use Rattle.dw_base.specs.AbbreviationTables.{Abbreviation}
use Rattle.dw_base.specs.Cells.{Cell}
use Rattle.dw_base.specs.Numbers.{number_bytes}
use Rattle.dw_base.specs.Paths.{PathMap}
use Rattle.dw_base.specs.Pieces.{Piece}
use Rattle.dw_base.specs.Readings.{Readings}
use Rattle.dw_base.specs.UnitStates.{Mode, at_code, UnitState, code_value}
use Rattle.dw_base.specs.declared.dwarf_numbers.TheConstants.{DW_FORM_block1, DW_FORM_block4, DW_FORM_strp}
use Rattle.dw_base.specs.declared.shared.Order.{Order}
use Rattle.dw_base.specs.declared.values.Spec.{Spec}
use Rattle.inline_lift.specs.GrowingPaths.{Fate, stays, grown, any_grown, fates}

-- the attribute that takes what is left: one of those for users (DWARF 5, 7.5.4, from DW_AT_lo_user on), and its LEB128 number
abbrev pub filler_name : ℕ
filler_name = 0x3ead

abbrev pub filler_name_bytes : List ℕ
filler_name_bytes = 0xad ∷ 0x7d ∷ []

-- what is left of n + 1 bytes is a count of one byte and n zeros, where that fits, else a count of 4 bytes and n - 3 zeros
abbrev pub is_short : ℕ → Bool
is_short n = nat_lt n 256

abbrev pub filler_form : ℕ → ℕ
filler_form n = if is_short n then DW_FORM_block1 else DW_FORM_block4

abbrev pub filler_bytes : Order → ℕ → List ℕ
filler_bytes order zero = []
filler_bytes order (suc n) =
    if is_short n then n ∷ replicate n 0 else number_bytes order 4 (n - 3) ++ replicate (n - 3) 0

abbrev pub plain_spec : ℕ → ℕ → Spec
plain_spec name form = record { name = name; form = form; implicit = pos 0 }

abbrev pub filler_specs : ℕ → List Spec
filler_specs zero = []
filler_specs (suc n) = plain_spec filler_name (filler_form n) ∷ []

-- what an attribute of a fate becomes
abbrev pub lifted_spec : Fate → Spec → List Spec
lifted_spec stays x = x ∷ []
lifted_spec (grown r) x = plain_spec x.name DW_FORM_strp ∷ filler_specs r

abbrev pub first_fate : List Fate → Fate
first_fate [] = stays
first_fate (f ∷ fs) = f

abbrev pub later_fates : List Fate → List Fate
later_fates [] = []
later_fates (f ∷ fs) = fs

-- and attributes of these fates, in order
abbrev pub lifted_specs : List Fate → List Spec → List Spec
lifted_specs fs [] = []
lifted_specs fs (x ∷ xs) = lifted_spec (first_fate fs) x ++ lifted_specs (later_fates fs) xs

-- an abbreviation whose attributes have these fates, where it has the code
abbrev pub lifted_abbreviation : ℕ → List Fate → Abbreviation → Abbreviation
lifted_abbreviation code fs a = if a.code == code then record a { specs = lifted_specs fs a.specs } else a

abbrev pub lifted_table : ℕ → List Fate → List Abbreviation → List Abbreviation
lifted_table code fs [] = []
lifted_table code fs (a ∷ rest) = lifted_abbreviation code fs a ∷ lifted_table code fs rest

-- the bytes in place of a form: DW_FORM_strp, and the pair of the attribute that follows
abbrev pub filler_pair : ℕ → List ℕ
filler_pair zero = []
filler_pair (suc n) = filler_name_bytes ++ filler_form n ∷ []

abbrev pub lifted_form : ℕ → List ℕ
lifted_form r = DW_FORM_strp ∷ filler_pair r

-- the fate of the attribute of a number, and so of the one whose form comes next
abbrev pub nth_fate : List Fate → ℕ → Fate
nth_fate [] n = stays
nth_fate (f ∷ fs) zero = f
nth_fate (f ∷ fs) (suc n) = nth_fate fs n

abbrev pub next_fate : ℕ → List Fate → TablePlace → Fate
next_fate code fs (form_next a name) = if a.code == code then nth_fate fs (length a.specs) else stays
next_fate code fs p = stays

-- what a byte becomes in a copy: all bytes of a form that is another are these, in place of the last
abbrev pub copied_byte : Fate → ℕ → List ℕ
copied_byte stays b = b ∷ []
copied_byte (grown r) b = if nat_lt b 128 then lifted_form r else []

abbrev pub is_ended : TablePlace → Bool
is_ended ended = true
is_ended p = false

-- the copy of the bytes of a table that is read up to here, up to the code 0 that ends it
abbrev pub copied : ℕ → List Fate → TableState → List ℕ → List ℕ
copied code fs s [] = []
copied code fs s (b ∷ bs) =
    if is_ended s.place then [] else copied_byte (next_fate code fs s.place) b ++ copied code fs (after_byte s.place s.number s.list b) bs

-- the copy of the table at a place of .debug_abbrev
unfoldable pub table_copy : List ℕ → ℕ → ℕ → List Fate → List ℕ
table_copy abbrevs start code fs = copied code fs (at_place code_next []) (drop start abbrevs)

-- a copy: the number of the unit for which it is made, the code of the unit's first entry, and its bytes
pub record Copy : Type 0 where
  pub unit : ℕ
  pub code : ℕ
  pub bytes : List ℕ

-- the code of a unit's first entry
abbrev pub is_first_code : Mode → UnitState → List Cell → Bool
is_first_code at_code s p = s.entry == 0 && not (code_value p == 0)
is_first_code m s p = false

abbrev pub copies_if : Bool → ℕ → ℕ → List ℕ → List Copy
copies_if b unit code bytes = if b then record { unit = unit; code = code; bytes = bytes } ∷ [] else []

-- the copy for the unit whose first entry begins with a piece, where a value of an attribute of these fates becomes an offset
abbrev pub copies_at : List ℕ → Piece UnitState → List Fate → List Copy
copies_at abbrevs x fs =
    copies_if (is_first_code x.state.mode x.state x.cells && any_grown fs) x.state.unit (code_value x.cells)
    (table_copy abbrevs x.state.header.abbrevs (code_value x.cells) fs)

-- the copies for the units of pieces, in order, and for all that were read
abbrev pub copies_in : PathMap → List ℕ → List (Piece UnitState) → List Copy
copies_in m abbrevs [] = []
copies_in m abbrevs (x ∷ xs) = copies_at abbrevs x (fates m xs) ++ copies_in m abbrevs xs

abbrev pub all_copies : PathMap → List ℕ → Readings → List Copy
all_copies m abbrevs [] = []
all_copies m abbrevs (r ∷ rs) = copies_in m abbrevs r.pieces ++ all_copies m abbrevs rs

-- copies one after another, and where behind a place the one of a unit begins
abbrev pub copy_bytes : List Copy → List ℕ
copy_bytes [] = []
copy_bytes (c ∷ cs) = c.bytes ++ copy_bytes cs

abbrev pub copy_place : ℕ → List Copy → ℕ → Option ℕ
copy_place start [] unit = None
copy_place start (c ∷ cs) unit = if c.unit == unit then Some start else copy_place (start + length c.bytes) cs unit
