-- What becomes of the bytes of a unit section and of a table of texts, by the fields that hold the offsets of texts into it.
use Rattle.std.specs.Prelude.{Bool, true, ◌≡◌, ◌⊎◌, ℕ, ◌+◌, ◌<◌, ◌≤◌, List, length, get_or, [], ◌∷◌, Option, Some, None, is_some, ◌++◌, ⊤, take, drop}
use Rattle.dw_base.specs.Cells.{Cell, Located, bytes_of, cells_at, offset_of}
use Rattle.dw_base.specs.DebugData.{start_number}
use Rattle.dw_base.specs.NewOffsets.{with_offset}
use Rattle.dw_base.specs.Numbers.{number_bytes}
use Rattle.dw_base.specs.Paths.{PathMap}
use Rattle.dw_base.specs.StringTables.{Mention, TextTable, with_mention, with_text, place_in, new_place, new_text}
use Rattle.dw_base.specs.Texts.{text_in, is_in}
use Rattle.dw_base.specs.declared.shared.Order.{Order}
use Rattle.dw_offsets.specs.declared.fields.OffsetField.{OffsetField}
use Rattle.dw_patch.specs.Patching.{IsFree, PatchList}
use Rattle.elf_layout.specs.declared.patch.Patch.{Patch}

-- where fields hold offsets into a table: the byte order, the cells of their section, and the table
pub record FieldSource : Type 0 where
  pub order : Order
  pub cells : List Cell
  pub table : Located

-- a field lies in the section, and has the size of an offset; each of these does
pub record IsFieldOf (s : FieldSource) (f : OffsetField) : Type 0 where
  pub sized : (f.size ≡ 4) ⊎ (f.size ≡ 8)
  pub inside : f.at + f.size ≤ length s.cells

pub record AreFieldsOf (s : FieldSource) (fields : List OffsetField) : Type 0 where
  pub each : (k : ℕ) (d : OffsetField) → k < length fields → IsFieldOf s (get_or fields k d)

-- the offset that a field holds; one into another section counts as past the table
abbrev pub offset_at : FieldSource → OffsetField → ℕ
offset_at s f = offset_of s.order s.table (cells_at s.cells f.at f.size)

-- the bytes of a field that says another offset, by the relocation that begins at it
abbrev pub offset_bytes : FieldSource → OffsetField → ℕ → List ℕ
offset_bytes s f place = bytes_of (with_offset s.order (cells_at s.cells f.at f.size) place)

-- bytes with others in place of so many at a place
abbrev pub put_at : List ℕ → ℕ → ℕ → List ℕ → List ℕ
put_at out at n bytes = take at out ++ bytes ++ drop (at + n) out

-- the mention of the text at an offset of a table, as a path or not
abbrev pub mention_as : Bool → List ℕ → ℕ → Mention
mention_as path table offset = record { path = path; text = text_in table offset }

-- the mention that a field makes
abbrev pub field_mention : FieldSource → OffsetField → Mention
field_mention s f = mention_as f.path s.table.bytes (offset_at s f)

-- the new texts after the mentions of these fields
abbrev pub texts_at : PathMap → FieldSource → List (List ℕ) → List OffsetField → List (List ℕ)
texts_at m s ts [] = ts
texts_at m s ts (f ∷ fs) = texts_at m s (with_mention m ts (field_mention s f)) fs

-- the bytes with the new offset of its mention in a field, where these are the new texts
abbrev pub patched_at : List (List ℕ) → PathMap → FieldSource → List ℕ → OffsetField → List ℕ
patched_at texts m s out f = put_at out f.at f.size (offset_bytes s f (new_place m texts (field_mention s f)))

-- the bytes with new offsets in these fields
abbrev pub patched : List (List ℕ) → PathMap → FieldSource → List ℕ → List OffsetField → List ℕ
patched texts m s out [] = out
patched texts m s out (f ∷ fs) = patched texts m s (patched_at texts m s out f) fs

-- the new text of the one at an offset, as a path or not, is among the new texts, and this is its place
pub record KnownPlace (m : PathMap) (table : List ℕ) (ts : List (List ℕ)) (path : Bool) (offset place : ℕ) : Type 0 where
  pub there : is_in ts (new_text m (mention_as path table offset)) ≡ true
  pub place_is : place ≡ new_place m ts (mention_as path table offset)

-- the places that are known, of paths and of other texts by their offsets, are those of the new texts
pub record Knows (m : PathMap) (table : List ℕ) (ts : List (List ℕ)) (known : Bool → ℕ → Option ℕ) : Type 0 where
  pub each : (path : Bool) (offset place : ℕ) → known path offset ≡ Some place → KnownPlace m table ts path offset place

-- the new place of the text at an offset is known, as a path or not
pub record IsNoted (known : Bool → ℕ → Option ℕ) (path : Bool) (offset : ℕ) : Type 0 where
  pub noted : is_some (known path offset) ≡ true

-- what was known is known
pub record Remembers (old new : Bool → ℕ → Option ℕ) : Type 0 where
  pub each : (path : Bool) (offset : ℕ) → is_some (old path offset) ≡ true → is_some (new path offset) ≡ true

-- the place of a text in a table that it was added to
abbrev pub place_after : TextTable → List ℕ → ℕ
place_after table t = length table.kept + place_in (with_text table.texts t) t

-- the bytes with a new offset in a field, where one is known
abbrev pub with_known : FieldSource → List ℕ → OffsetField → Option ℕ → List ℕ
with_known s out f None = out
with_known s out f (Some new) = put_at out f.at f.size (offset_bytes s f new)

-- the bytes with the new offsets that are known for the old ones in these fields
abbrev pub with_all_known : FieldSource → (Bool → ℕ → Option ℕ) → List ℕ → List OffsetField → List ℕ
with_all_known s known out [] = out
with_all_known s known out (f ∷ fs) = with_all_known s known (with_known s out f (known f.path (offset_at s f))) fs

-- the new start of a line table, by its number
abbrev pub new_start : List ℕ → Option ℕ → Option ℕ
new_start news None = None
new_start news (Some k) = Some (get_or news k 0)

-- the new start of the line table that started at a place, as a field of any kind says it
abbrev pub start_known : List ℕ → List ℕ → Bool → ℕ → Option ℕ
start_known olds news path n = new_start news (start_number 0 olds n)

-- the new places of the texts of these fields are noted
pub record AreNoted (s : FieldSource) (fields : List OffsetField) (count : ℕ) (known : Bool → ℕ → Option ℕ) : Type 0 where
  pub each : (k : ℕ) (d : OffsetField) → k < count → k < length fields → IsNoted known (get_or fields k d).path (offset_at s (get_or fields k d))

-- a patch puts into a field the number with which it says another offset
pub record Says (s : FieldSource) (f : OffsetField) (new : ℕ) (p : Patch) : Type 0 where
  pub at : p.at ≡ f.at
  pub size : p.size ≡ f.size
  pub bytes : number_bytes s.order p.size p.value ≡ offset_bytes s f new

-- the patch of a field, where a new offset is known
pub data SaysBy (s : FieldSource) (f : OffsetField) : Option ℕ → List Patch → Type 0 where
  says_none : SaysBy s f None []
  says_one : (new : ℕ) (p : Patch) → Says s f new p → SaysBy s f (Some new) (p ∷ [])

-- the patches of these fields to the new offsets that are known for the old ones
pub data AreSaid (s : FieldSource) (known : Bool → ℕ → Option ℕ) : List OffsetField → List Patch → Type 0 where
  none_said : AreSaid s known [] []
  more_said : (f : OffsetField) (fs : List OffsetField) (ps qs : List Patch) → SaysBy s f (known f.path (offset_at s f)) ps → AreSaid s known fs qs
      → AreSaid s known (f ∷ fs) (ps ++ qs)

-- these fields have no byte in common with any that is set
abbrev pub AreFree : List Patch → List OffsetField → Type 0
AreFree patches [] = ⊤
AreFree patches (f ∷ fs) = IsFree patches f.at f.size × AreFree patches fs

-- a field of a section was set, where a new offset is known
pub record IsSet (s : FieldSource) (f : OffsetField) (new : Option ℕ) (old now : PatchList) : Type 0 where
  pub order : now.order ≡ old.order
  pub size : now.size ≡ old.size
  pub more : List Patch
  pub said : SaysBy s f new more
  pub list : now.list ≡ old.list ++ more

-- more fields of a section were set
pub record AreSet (s : FieldSource) (known : Bool → ℕ → Option ℕ) (fields : List OffsetField) (old now : PatchList) : Type 0 where
  pub order : now.order ≡ old.order
  pub size : now.size ≡ old.size
  pub more : List Patch
  pub said : AreSaid s known fields more
  pub list : now.list ≡ old.list ++ more
