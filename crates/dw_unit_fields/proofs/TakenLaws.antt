-- Entries whose values were taken: their offsets name texts; and why a unit that can't be taken is a row of the debug data.
use Rattle.std.proofs.Common.{Bool, true, false, ℕ, ◌+◌, ◌==◌, List, [], ◌∷◌, ◌++◌, Option, Some, None}
use Rattle.dw_base.specs.AbbreviationTables.{Abbreviation, abbreviation_of}
use Rattle.dw_base.specs.Cells.{Cell}
use Rattle.dw_base.specs.DebugData.{DebugData}
use Rattle.dw_base.specs.Lebs.{uleb_at}
use Rattle.dw_base.specs.Roles.{is_path, is_macros, is_start_name}
use Rattle.dw_base.specs.TableStarts.{is_start_form, own_form}
use Rattle.dw_base.specs.TextIndexes.{is_base}
use Rattle.dw_base.specs.UnitHeaders.{UnitSection}
use Rattle.dw_base.specs.Values.{value_at}
use Rattle.dw_base.specs.declared.shared.Params.{Params}
use Rattle.dw_base.specs.declared.units.Scanned.{Scanned}
use Rattle.dw_base.specs.declared.values.Spec.{Spec}
use Rattle.dw_base.specs.declared.values.Value.{Value}
use Rattle.dw_base.specs.declared.values.ValueClass.{ValueClass}
use Rattle.dw_base.specs.declared.values.ValueClass.TheVariants.{Number, StrOffset, LineStrOffset, InlineText, StrIndex, SecOffset}
use Rattle.dw_unit_fields.specs.EntryTexts.{OffsetNames, IsTaken, TakenBehind, AreTaken}
use Rattle.dw_base.specs.declared.dwarf_numbers.TheConstants.{DW_AT_stmt_list}
use Rattle.dw_unit_fields.specs.TextPlaces.{TextPlace, PlacesName, class_places, said_base, line_at, line_places, said_places, said_value, value_places, values_places, entry_places, entries_places, of_entry, of_value}
use Rattle.dw_unit_fields.specs.UnitTexts.{tables_of, TakenOf, TakenBy, EntryTaken, EntriesTaken}
use Rattle.dw_meaning.specs.PieceRuns.{value_out, listed_out, coded_out}

-- places that name texts, and more of them
pub names-append : (d : DebugData) (cells : List Cell) (ts us : List TextPlace) → PlacesName d cells ts → PlacesName d cells us → PlacesName d cells (ts ++ us)
names-append d cells [] us a b = b
names-append d cells (t ∷ ts) us a b = (a.0, names-append d cells ts us a.1 b)

-- an offset that was taken names a text
base-names : (field : Bool) (place at len n : ℕ) (d : DebugData) (cells : List Cell) → PlacesName d cells (said_base field place at len n)
base-names true place at len n d cells = (tt, tt)
base-names false place at len n d cells = (tt, tt)

class-names : (class : ValueClass) (path base field : Bool) (place : ℕ) (d : DebugData) (z : UnitSection) (v : Value) → OffsetNames (tables_of d z) class v
    → PlacesName d z.contents (class_places class path base field place v)
class-names StrOffset path base field place d z v h = (h, tt)
class-names LineStrOffset path base field place d z v h = (h, tt)
class-names InlineText true base field place d z v h = (tt, tt)
class-names InlineText false base field place d z v h = tt
class-names StrIndex path base field place d z v h = (tt, tt)
class-names Number path true field place d z v h = base-names field place v.at v.len v.number d z.contents
class-names Number path false field place d z v h = tt
class-names SecOffset path true field place d z v h = base-names field place v.at v.len v.number d z.contents
class-names SecOffset path false field place d z v h = tt
class-names class path base field place d z v h = tt

-- a start names no text
line-names : (line : Bool) (form : ℕ) (d : DebugData) (cells : List Cell) (v : Value) → PlacesName d cells (line_places line form v)
line-names false form d cells v = tt
line-names true form d cells v = by_form (is_start_form form)
  where
    by_form : (b : Bool) → PlacesName d cells (line_at b v)
    by_form true = (tt, tt)
    by_form false = tt

said-names : (start macro : Bool) (form place : ℕ) (v : Value) (d : DebugData) (cells : List Cell) → PlacesName d cells (said_places start macro form place v)
said-names false macro form place v d cells = tt
said-names true macro form place v d cells = by_form (is_start_form form) macro
  where
    by_form : (b m : Bool) → PlacesName d cells (said_value b m place v)
    by_form true true = (tt, tt)
    by_form true false = tt
    by_form false m = (tt, tt)

value-names : (d : DebugData) (z : UnitSection) (bytes : List ℕ) (n tag : ℕ) (x : Spec) (place : ℕ) (v : Value) → IsTaken (tables_of d z) v
    → PlacesName d z.contents (value_places n tag x bytes place v)
value-names d z bytes n tag x place v taken =
    let form : ℕ = own_form x bytes place in
    let texts : List TextPlace = class_places v.class (is_path n tag x.name) (is_base n x.name) (is_start_form (own_form x bytes place)) place v in
    names-append d z.contents (line_places (x.name == DW_AT_stmt_list) form v) (texts ++ said_places (is_start_name x.name) (is_macros x.name) form place v)
    (line-names (x.name == DW_AT_stmt_list) form d z.contents v)
    (names-append d z.contents texts (said_places (is_start_name x.name) (is_macros x.name) form place v)
    (class-names v.class (is_path n tag x.name) (is_base n x.name) (is_start_form (own_form x bytes place)) place d z v taken.names)
    (said-names (is_start_name x.name) (is_macros x.name) form place v d z.contents))

-- so do the values of an entry
values-names : (d : DebugData) (z : UnitSection) (params : Params) (bytes : List ℕ) (n tag : ℕ) (xs : List Spec) (place : ℕ) → AreTaken (tables_of d z) params bytes xs place
    → PlacesName d z.contents (values_places params bytes n tag xs place)
values-names d z params bytes n tag [] place taken = tt
values-names d z params bytes n tag (x ∷ xs) place taken =
    by_value (value_at params x bytes place) (λ p h. values-names d z params bytes n tag xs p h) taken
  where
    by_value : (o : Option Value) → ((p : ℕ) → AreTaken (tables_of d z) params bytes xs p → PlacesName d z.contents (values_places params bytes n tag xs p))
        → TakenBehind (λ p. AreTaken (tables_of d z) params bytes xs p) (tables_of d z) place o
        → PlacesName d z.contents (value_out (of_value bytes) (λ p. values_places params bytes n tag xs p) n tag x place o)
    by_value None rest h = tt
    by_value (Some v) rest h =
        names-append d z.contents (value_places n tag x bytes place v) (values_places params bytes n tag xs (place + v.size))
        (value-names d z bytes n tag x place v h.0) (rest (place + v.size) h.1)

-- and of all entries
entry-names : (d : DebugData) (z : UnitSection) (params : Params) (table : List Abbreviation) (bytes : List ℕ) (n : ℕ) (e : Scanned)
    → EntryTaken (tables_of d z) params table bytes e → PlacesName d z.contents (entry_places params table bytes n e)
unfolding EntryTaken entry_places
entry-names d z params table bytes n e taken = by_code (uleb_at bytes e.offset) taken
  where
    by_listed : (place : ℕ) (a : Option Abbreviation) → TakenOf (tables_of d z) params bytes place a
        → PlacesName d z.contents (listed_out of_entry (of_value bytes) params bytes n e place a)
    by_listed place None h = tt
    by_listed place (Some a) h = values-names d z params bytes n a.tag a.specs place h

    by_code : (o : Option (ℕ × ℕ)) → TakenBy (tables_of d z) params table bytes e.offset o
        → PlacesName d z.contents (coded_out of_entry (of_value bytes) params table bytes n e o)
    by_code None h = tt
    by_code (Some (code, size)) h = by_listed (e.offset + size) (abbreviation_of table code) h

pub entries-names : (d : DebugData) (z : UnitSection) (params : Params) (table : List Abbreviation) (bytes : List ℕ) (n : ℕ) (es : List Scanned)
    → EntriesTaken (tables_of d z) params table bytes es → PlacesName d z.contents (entries_places params table bytes n es)
unfolding entry_places
entries-names d z params table bytes n [] taken = tt
entries-names d z params table bytes n (e ∷ es) taken =
    names-append d z.contents (entry_places params table bytes n e) (entries_places params table bytes (n + 1) es)
    (entry-names d z params table bytes n e taken.0) (entries-names d z params table bytes (n + 1) es taken.1)
