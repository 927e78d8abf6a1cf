-- Laws of the offsets that fields of a view hold: what was read is the offset of the field's cells, and where none was read that is a row.
use Rattle.std.proofs.Common.{true, ◌≡◌, ◌⊎◌, inl, inr, ℕ, ◌+◌, ◌<◌, ◌≤◌, List, length, sym, ap, ◌∙◌, arith}
use Rattle.std.specs.Prelude.{Ok, Err}
use Rattle.dw_base.specs.Cells.{Located, cells_at, field_of, offset_into, offset_of, Cell, is_placed}
use Rattle.dw_base.specs.FileViews.{View, field_at, section_bytes, view_cells}
use Rattle.dw_base.specs.RelocationRows.{OffsetFails, field_place, offset_field}
use Rattle.dw_base.specs.ViewData.{located}
use Rattle.dw_base.specs.declared.debug_sections.DebugSection.{DebugSection}
use Rattle.dw_base.specs.declared.fault.Refusal.{Refusal}
use Rattle.dw_base.specs.declared.view_fields.Field.{Field}
use Rattle.dw_base.proofs.ViewCellLaws.{field_at-cells, length-view_cells, offset_at-cells}
use Rattle.dw_base.proofs.ViewOffsetLaws.{offset-fails, offset-is}
use Rattle.dw_unit_fields.specs.Fields.{IsStartField}
use Rattle.dw_base.specs.ViewOffsets.{offset_read}
use Rattle.dw_offsets.specs.declared.fields.OffsetField.{OffsetField}

-- a field that is refused, and one that was read
pub field-refused : (v : View) (section place n : ℕ) (r : Refusal) → 0 < n → place + n ≤ length (section_bytes v section) → Err r ≡ offset_read v section place n
    → OffsetFails v.order section (view_cells v section) (field_place place n offset_field) r
field-refused v section place n r some inside is = offset-fails v section place n r some inside (sym is)

pub offset-at : (v : View) (section place n offset : ℕ) (f : Field) (z : Located) → Ok f ≡ offset_read v section place n → offset ≡ offset_into z f
    → offset ≡ offset_into z (field_at v section place n)
offset-at v section place n offset f z read is = is ∙ ap (offset_into z) (offset-is v section place n f (sym read)).same

pub offset-placed : (v : View) (section place n : ℕ) (f : Field) → Ok f ≡ offset_read v section place n → is_placed (field_at v section place n) ≡ true
offset-placed v section place n f read = (offset-is v section place n f (sym read)).placed

pub ruleset field_rules = (field-refused, offset-at, offset-placed)

-- the offset of a value's field
pub field-inside : (v : View) (section place n : ℕ) → place + n ≤ length (view_cells v section) → place + n ≤ length (section_bytes v section)
field-inside v section place n inside =
    let size : length (view_cells v section) ≡ length (section_bytes v section) = length-view_cells v section in
    omega (arith, inside, size)

pub offset-some : (n : ℕ) → (n ≡ 4) ⊎ (n ≡ 8) → 0 < n
offset-some n (inl four) = omega (arith, four)
offset-some n (inr eight) = omega (arith, eight)

pub offset-few : (n : ℕ) → (n ≡ 4) ⊎ (n ≡ 8) → n ≤ 8
offset-few n (inl four) = omega (arith, four)
offset-few n (inr eight) = omega (arith, eight)

pub offset-cells : (v : View) (section place n offset : ℕ) (z : Located) → (n ≡ 4) ⊎ (n ≡ 8) → place + n ≤ length (view_cells v section)
    → offset ≡ offset_into z (field_at v section place n) → offset ≡ offset_of v.order z (cells_at (view_cells v section) place n)
offset-cells v section place n offset z sized inside is =
    is ∙ sym (offset_at-cells v z section place n (offset-some n sized) (field-inside v section place n inside))

pub placed-cells : (v : View) (section place n : ℕ) → (n ≡ 4) ⊎ (n ≡ 8) → place + n ≤ length (view_cells v section) → is_placed (field_at v section place n) ≡ true
    → is_placed (field_of v.order (cells_at (view_cells v section) place n)) ≡ true
placed-cells v section place n sized inside placed =
    ap is_placed (field_at-cells v section place n (offset-some n sized) (field-inside v section place n inside)) ∙ placed

pub ruleset value_rules = (field-inside, offset-some, offset-few, offset-cells, placed-cells)

-- what a field reads as, by its cells
pub start-some : (info : List ℕ) (g : OffsetField) → IsStartField info g → 0 < g.size
start-some info g is = offset-some g.size is.sized

pub start-few : (info : List ℕ) (g : OffsetField) → IsStartField info g → g.size ≤ 8
start-few info g is = offset-few g.size is.sized

pub start-inside : (info : List ℕ) (g : OffsetField) → IsStartField info g → g.at + g.size ≤ length info
start-inside info g is = is.inside

pub field-cells : (v : View) (section : ℕ) (g : OffsetField) (f : Field) → IsStartField (section_bytes v section) g → Ok f ≡ offset_read v section g.at g.size
    → f ≡ field_of v.order (cells_at (view_cells v section) g.at g.size)
field-cells v section g f is read =
    (offset-is v section g.at g.size f (sym read)).same ∙ sym (field_at-cells v section g.at g.size (offset-some g.size is.sized) is.inside)

pub start-placed : (v : View) (section : ℕ) (g : OffsetField) (f : Field) → IsStartField (section_bytes v section) g → Ok f ≡ offset_read v section g.at g.size
    → is_placed (field_of v.order (cells_at (view_cells v section) g.at g.size)) ≡ true
start-placed v section g f is read =
    ap is_placed (field_at-cells v section g.at g.size (offset-some g.size is.sized) is.inside) ∙ offset-placed v section g.at g.size f read

pub ruleset read_rules = (start-some, start-few, start-inside, field-cells, field-refused, start-placed)

-- a field lies in its section
pub field-lies : (v : View) (i : ℕ) (f : OffsetField) → IsStartField (section_bytes v i) f → f.at + f.size ≤ length (view_cells v i)
field-lies v i f is =
    let inside = is.inside in
    omega (arith, inside, length-view_cells v i)

pub field-sized : (info : List ℕ) (f : OffsetField) → IsStartField info f → (f.size ≡ 4) ⊎ (f.size ≡ 8)
field-sized info f is = is.sized

-- the first section of a name
pub named-located : (v : View) (s : DebugSection) (n : ℕ) (z : Located) (p : List Cell) → z ≡ located v s → n ≡ offset_of v.order z p → n ≡ offset_of v.order (located v s) p
named-located v s n z p is e = e ∙ ap (λ (y : Located). offset_of v.order y p) is

pub ruleset section_rules = (field-lies, field-sized, named-located)
