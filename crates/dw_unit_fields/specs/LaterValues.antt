-- What is known of a value of an entry that isn't its unit's first, though it isn't read: its size, that it can be taken, and what is noted of
-- it.
use Rattle.std.specs.Prelude.{false, ◌≡◌, ◌≢◌, ℕ, ◌+◌, ◌≤◌, List, IsTrue, Some, length}
use Rattle.dw_base.specs.Forms.{width_size}
use Rattle.dw_base.specs.Texts.{ends_in}
use Rattle.dw_base.specs.Values.{value_at}
use Rattle.dw_base.specs.declared.debug_sections.DebugSection.TheVariants.{Str}
use Rattle.dw_base.specs.declared.shared.Params.{Params}
use Rattle.dw_base.specs.declared.values.Spec.{Spec}
use Rattle.dw_base.specs.declared.values.Value.{Value}
use Rattle.dw_base.specs.declared.values.ValueClass.TheVariants.{StrOffset}
use Rattle.dw_unit_fields.specs.EntryTexts.{FoundTexts, IsTaken, Tables, noted, offset_in, with_places}
use Rattle.dw_unit_fields.specs.TextPlaces.{value_places}

-- the value of an attribute at a place of some bytes takes so many bytes and can be taken; and what it says in an entry that isn't its unit's first
-- stands behind what was found
pub record IsLater (t : Tables) (params : Params) (bytes : List ℕ) (x : Spec) (place size : ℕ) (old new : FoundTexts) : Type 0 where
  pub value : Value
  pub is : value_at params x bytes place ≡ Some value
  pub size_is : size ≡ value.size
  pub taken : IsTaken t value
  pub found : (number tag : ℕ) → number ≢ 0 → new ≡ with_places old (value_places number tag x bytes place value)

-- an offset into `.debug_str` of this number
abbrev pub str_field : ℕ → ℕ → ℕ → Value
str_field place size n = record { class = StrOffset; number = n; at = place; len = size; size = size }

-- an offset into `.debug_str` stands at a place, in so many bytes, and names a text; its field, which is no path's, stands behind what was found
pub record IsNamed (t : Tables) (params : Params) (bytes : List ℕ) (place size : ℕ) (old new : FoundTexts) : Type 0 where
  pub size_is : size ≡ width_size params.width
  pub inside : place + size ≤ length bytes
  pub names : IsTrue (ends_in t.str.bytes (offset_in t t.str (str_field place size 0)))
  pub found : new ≡ noted old Str (record { at = place; size = size; path = false })
