-- The abbreviations that the bytes of a table declare, found byte by byte, so that they can be computed (DWARF 5, 7.5.3).
-- Where a table stands, as `AbbreviationTables` says it, these are its abbreviations.
use Rattle.std.specs.Prelude.{ℕ, ℤ, pos, ◌==◌, nat_lt, if◌then◌else◌, List, [], ◌∷◌, ◌++◌, drop, Option, Some, None, is_some}
use Rattle.dw_base.specs.AbbreviationTables.{Abbreviation, abbreviation_of}
use Rattle.dw_base.specs.Lebs.{uleb, uleb_within, sleb, sleb_within}
use Rattle.dw_base.specs.declared.dwarf_numbers.TheConstants.{DW_FORM_implicit_const}

-- what comes next in a table: a code; the tag or the flag of an abbreviation so far; the name, the form or the number of an
-- attribute; nothing, since the table has ended; or nothing that could
pub data TablePlace : Type 0 where
  code_next : TablePlace
  tag_next : ℕ → TablePlace
  flag_next : ℕ → ℕ → TablePlace
  name_next : Abbreviation → TablePlace
  form_next : Abbreviation → ℕ → TablePlace
  number_next : Abbreviation → ℕ → TablePlace
  ended : TablePlace
  broken : TablePlace

-- a table that is read: what comes next, the bytes so far of its number, and the abbreviations that are whole
pub record TableState : Type 0 where
  pub place : TablePlace
  pub number : List ℕ
  pub list : List Abbreviation

abbrev pub at_place : TablePlace → List Abbreviation → TableState
at_place p list = record { place = p; number = []; list = list }

-- an abbreviation without attributes, and one with one more
abbrev pub bare : ℕ → ℕ → ℕ → Abbreviation
bare code tag flag = record { code = code; tag = tag; children = flag == 1; specs = [] }

abbrev pub with_spec : Abbreviation → ℕ → ℕ → ℤ → Abbreviation
with_spec a name form implicit = record a { specs = a.specs ++ record { name = name; form = form; implicit = implicit } ∷ [] }

-- after a code: 0 ends the table, and a code that has an abbreviation is none
abbrev pub after_code : ℕ → List Abbreviation → TablePlace
after_code n list = if n == 0 then ended else (if is_some (abbreviation_of list n) then broken else tag_next n)

-- after a pair: two zeros end an abbreviation, and a pair with one zero is none
abbrev pub after_form : Abbreviation → ℕ → ℕ → TablePlace
after_form a name form = if form == DW_FORM_implicit_const then number_next a name else name_next (with_spec a name form (pos 0))

abbrev pub after_pair : Abbreviation → ℕ → ℕ → List Abbreviation → TableState
after_pair a name form list =
    if name == 0 then (if form == 0 then at_place code_next (list ++ a ∷ []) else at_place broken list)
    else (if form == 0 then at_place broken list else at_place (after_form a name form) list)

-- after an unsigned number
abbrev pub after_number : TablePlace → ℕ → List Abbreviation → TableState
after_number code_next n list = at_place (after_code n list) list
after_number (tag_next code) n list = at_place (flag_next code n) list
after_number (name_next a) n list = at_place (form_next a n) list
after_number (form_next a name) n list = after_pair a name n list
after_number p n list = at_place broken list

abbrev pub if_number : TablePlace → List Abbreviation → Option (ℕ × ℕ) → TableState
if_number p list None = at_place broken list
if_number p list (Some n) = after_number p n.0 list

-- after the number of an attribute of form implicit_const
abbrev pub if_signed : Abbreviation → ℕ → List Abbreviation → Option (ℤ × ℕ) → TableState
if_signed a name list None = at_place broken list
if_signed a name list (Some n) = at_place (name_next (with_spec a name DW_FORM_implicit_const n.0)) list

-- after the bytes of a whole number
abbrev pub after_bytes : TablePlace → List ℕ → List Abbreviation → TableState
after_bytes (number_next a name) t list = if_signed a name list (sleb_within (sleb t))
after_bytes p t list = if_number p list (uleb_within (uleb t))

-- after a byte: the flag for children is one byte, and a number ends with its first byte below 128
abbrev pub after_byte : TablePlace → List ℕ → List Abbreviation → ℕ → TableState
after_byte (flag_next code tag) t list b = at_place (if nat_lt b 2 then name_next (bare code tag b) else broken) list
after_byte ended t list b = at_place ended list
after_byte broken t list b = at_place broken list
after_byte p t list b =
    if nat_lt b 128 then after_bytes p (t ++ b ∷ []) list else record { place = p; number = t ++ b ∷ []; list = list }

-- after bytes
abbrev pub after_all : TableState → List ℕ → TableState
after_all s [] = s
after_all s (b ∷ bs) = after_all (after_byte s.place s.number s.list b) bs

-- the abbreviations of the table at a place
unfoldable pub abbreviations_at : List ℕ → ℕ → List Abbreviation
abbreviations_at bytes start = (after_all (at_place code_next []) (drop start bytes)).list
