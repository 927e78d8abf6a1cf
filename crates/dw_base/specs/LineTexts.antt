-- The texts that a line table mentions: inline, or by an offset into a table of texts (DWARF 5, 6.2.4 and 7.26).
use Rattle.std.specs.Prelude.{ℕ, ◌+◌, if◌then◌else◌, List, length, Option, Some, None, zero, suc, option_and_then, option_map, Result, Ok, Err}
use Rattle.dw_base.specs.Cells.{Located, offset_into}
use Rattle.dw_base.specs.LineSources.{LineSource, line_field}
use Rattle.dw_base.specs.Lebs.{uleb_at}
use Rattle.dw_base.specs.Refusals.{at}
use Rattle.dw_base.specs.Texts.{text_in, ends_in}
use Rattle.dw_base.specs.declared.fault.Kind.TheVariants.{Relocation as RelocationKind, StringOffset}
use Rattle.dw_base.specs.declared.fault.Refusal.{Refusal}
use Rattle.dw_base.specs.Walks.{or_refused}
use Rattle.dw_base.specs.declared.line_tables.TextPlace.{TextPlace}
use Rattle.dw_base.specs.declared.view_fields.Field.{Field}
use Rattle.dw_base.specs.declared.view_fields.Field.TheVariants.{Num, Into, Sym}

-- the text at a place of the bytes up to a table's end; none where no NUL follows in them
unfoldable pub inline_text : ℕ → List ℕ → ℕ → Option TextPlace
inline_text section table place =
    if ends_in table place
    then Some (record { section = section; at = place; len = length (text_in table place); field = place }) else None

-- the text at a place of a table of texts, which a field at a place mentions
abbrev pub text_of : Located → ℕ → ℕ → TextPlace
text_of z offset field = record { section = z.number; at = offset; len = length (text_in z.bytes offset); field = field }

abbrev pub text_if : Located → ℕ → ℕ → ℕ → Result TextPlace Refusal
text_if z section place offset = if ends_in z.bytes offset then Ok (text_of z offset place) else Err (at StringOffset section place)

-- the text that a field at a place names in a table of texts: refused at the field where a relocation gives no place, and where no text begins
-- there
abbrev pub text_by : Located → ℕ → ℕ → Field → Result TextPlace Refusal
text_by z section place (Num n) = text_if z section place n
text_by z section place (Into s n) = text_if z section place (offset_into z (Into s n))
text_by z section place (Sym s k a) = Err (at RelocationKind section place)

-- the text that an offset of so many bytes at a place of the section names in a table of texts
unfoldable pub named_text : LineSource → Located → ℕ → ℕ → Result TextPlace Refusal
named_text g z place size = or_refused (text_by z g.number place) (line_field g place size)

-- the place behind so many unsigned numbers of LEB128; none where one passes the end of the bytes
abbrev pub skip_lebs : ℕ → List ℕ → ℕ → Option ℕ
skip_lebs zero table place = Some place
skip_lebs (suc n) table place = option_and_then (λ value. skip_lebs n table (place + value.1)) (uleb_at table place)

-- behind the name of a file before version 5 stand its directory, its time and its length: the directory, and the place
-- behind the length
unfoldable pub file_numbers : List ℕ → ℕ → Option (ℕ × ℕ)
file_numbers table place =
    option_and_then (λ dir. option_map (λ next. (dir.0, next)) (skip_lebs 2 table (place + dir.1))) (uleb_at table place)
