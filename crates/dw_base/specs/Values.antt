-- The value that stands at a place, by its form (DWARF 5, 7.5.5 and 7.5.6). A value lies in the bytes that are given,
-- which are those of its section up to the end of its unit.
use Rattle.std.specs.Prelude.{ℕ, ℤ, pos, negsuc, ◌+◌, ◌-◌, ◌^◌, if◌then◌else◌, List, length, Option, Some, None, nat_le}
use Rattle.dw_base.specs.Forms.{ValueKind, number_of, leb_number, signed_leb, block_of, counted, counted_leb, inline_text, text_offset, present, in_abbreviation, form_in_front, supplementary, unlisted, kind_in}
use Rattle.dw_base.specs.Lebs.{uleb_at, sleb_at}
use Rattle.dw_base.specs.Numbers.{number_at}
use Rattle.dw_base.specs.Texts.{text_in, ends_in}
use Rattle.dw_base.specs.declared.shared.Order.{Order}
use Rattle.dw_base.specs.declared.shared.Params.{Params}
use Rattle.dw_base.specs.declared.texts.TextSection.{TextSection}
use Rattle.dw_base.specs.declared.texts.TextSection.TheVariants.{InStr, InLineStr}
use Rattle.dw_base.specs.declared.values.Spec.{Spec}
use Rattle.dw_base.specs.declared.values.Value.{Value}
use Rattle.dw_base.specs.declared.values.ValueClass.{ValueClass}
use Rattle.dw_base.specs.declared.values.ValueClass.TheVariants.{Signed, Bytes, Flag, InlineText, StrOffset, LineStrOffset}

-- the 64-bit two's complement of a signed number
abbrev pub signed_bits : ℤ → ℕ
signed_bits (pos n) = n
signed_bits (negsuc n) = 2 ^ 64 - 1 - n

-- a number that was read from so many bytes at a place
abbrev pub number_value : ValueClass → ℕ → ℕ → Option ℕ → Option Value
number_value class at size None = None
number_value class at size (Some n) = Some (record { class = class; number = n; at = at; len = size; size = size })

-- a number of LEB128 that was read at a place, with its length
abbrev pub leb_value_at : ValueClass → ℕ → Option (ℕ × ℕ) → Option Value
leb_value_at class at None = None
leb_value_at class at (Some n) = Some (record { class = class; number = n.0; at = at; len = n.1; size = n.1 })

abbrev pub signed_value_at : ℕ → Option (ℤ × ℕ) → Option Value
signed_value_at at None = None
signed_value_at at (Some n) = Some (record { class = Signed; number = signed_bits n.0; at = at; len = n.1; size = n.1 })

-- so many bytes at a place, behind a count of so many bytes; none where they pass the end
abbrev pub block_value : List ℕ → ℕ → ℕ → ℕ → Option Value
block_value bytes at front n =
    if nat_le (at + front + n) (length bytes)
    then Some (record { class = Bytes; number = 0; at = at + front; len = n; size = front + n }) else None

-- a block whose count was read, with the count's length
abbrev pub counted_value : List ℕ → ℕ → ℕ → Option ℕ → Option Value
counted_value bytes at front None = None
counted_value bytes at front (Some n) = block_value bytes at front n

abbrev pub counted_leb_value : List ℕ → ℕ → Option (ℕ × ℕ) → Option Value
counted_leb_value bytes at None = None
counted_leb_value bytes at (Some n) = block_value bytes at n.1 n.0

-- the text at a place; none where no NUL follows
abbrev pub text_value : List ℕ → ℕ → Option Value
text_value bytes at =
    if ends_in bytes at
    then Some (record { class = InlineText; number = 0; at = at; len = length (text_in bytes at); size = length (text_in bytes at) + 1 })
    else None

-- a value without bytes; none behind the end
abbrev pub bare_value : List ℕ → ℕ → ValueClass → ℕ → Option Value
bare_value bytes at class n =
    if nat_le at (length bytes) then Some (record { class = class; number = n; at = at; len = 0; size = 0 }) else None

-- an offset of a text in a table
abbrev pub offset_class : TextSection → ValueClass
offset_class InStr = StrOffset
offset_class InLineStr = LineStrOffset

-- the value of a kind that stands at a place of these bytes; none where no such value ends in them. The number that stands
-- in the abbreviation is the last argument.
unfoldable pub value_of : ValueKind → Order → List ℕ → ℕ → ℤ → Option Value
value_of (number_of class n) order bytes at implicit = number_value class at n (number_at order bytes at n)
value_of (leb_number class) order bytes at implicit = leb_value_at class at (uleb_at bytes at)
value_of signed_leb order bytes at implicit = signed_value_at at (sleb_at bytes at)
value_of (block_of n) order bytes at implicit = block_value bytes at 0 n
value_of (counted n) order bytes at implicit = counted_value bytes at n (number_at order bytes at n)
value_of counted_leb order bytes at implicit = counted_leb_value bytes at (uleb_at bytes at)
value_of inline_text order bytes at implicit = text_value bytes at
value_of (text_offset table n) order bytes at implicit = number_value (offset_class table) at n (number_at order bytes at n)
value_of present order bytes at implicit = bare_value bytes at Flag 1
value_of in_abbreviation order bytes at implicit = bare_value bytes at Signed (signed_bits implicit)
value_of form_in_front order bytes at implicit = None
value_of supplementary order bytes at implicit = None
value_of unlisted order bytes at implicit = None

-- the value whose form stood in front of it: not another such form, and none whose number stands in the abbreviation
abbrev pub chosen_value : ValueKind → Order → List ℕ → ℕ → ℤ → Option Value
chosen_value in_abbreviation order bytes at implicit = None
chosen_value k order bytes at implicit = value_of k order bytes at implicit

-- the size of a value with so many bytes in front of it
abbrev pub behind : ℕ → Option Value → Option Value
behind front None = None
behind front (Some v) = Some (record v { size = front + v.size })

-- a value whose form was read in front of it, with that form's length
abbrev pub indirect_value : Params → Spec → List ℕ → ℕ → Option (ℕ × ℕ) → Option Value
indirect_value params spec bytes at None = None
indirect_value params spec bytes at (Some form) =
    behind form.1 (chosen_value (kind_in params form.0) params.order bytes (at + form.1) spec.implicit)

abbrev pub value_by : ValueKind → Params → Spec → List ℕ → ℕ → Option Value
value_by form_in_front params spec bytes at = indirect_value params spec bytes at (uleb_at bytes at)
value_by k params spec bytes at = value_of k params.order bytes at spec.implicit

-- the value of an attribute at a place of the bytes up to its unit's end; none where there is none
unfoldable pub value_at : Params → Spec → List ℕ → ℕ → Option Value
value_at params spec bytes at = value_by (kind_in params spec.form) params spec bytes at

-- and how many bytes it takes
abbrev pub value_size : Option Value → Option ℕ
value_size None = None
value_size (Some v) = Some v.size
