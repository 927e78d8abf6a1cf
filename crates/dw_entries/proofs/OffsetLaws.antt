-- What the code reads of a header, in the words of its section.
use Rattle.std.proofs.Common.{Bool, ◌≡◌, ℕ, ◌+◌, ◌<◌, ◌≤◌, ◌==◌, if◌then◌else◌, List, length, drop, Option, refl, sym, ap, ◌∙◌, subst, arith}
use Rattle.std.specs.Prelude.{Ok, Err}
use Rattle.dw_base.specs.Cells.{Cell, bytes_of, cells_at, field_of, is_elsewhere, said_offset}
use Rattle.dw_base.specs.DebugSections.{name_of}
use Rattle.dw_base.specs.FileViews.{View, section_bytes, section_named, view_cells}
use Rattle.dw_base.specs.Forms.{width_size}
use Rattle.dw_base.specs.Numbers.{spelled}
use Rattle.dw_base.specs.RelocationRows.{OffsetFails, OffsetReads, field_place, offset_field}
use Rattle.dw_base.specs.UnitFails.{bytes_from}
use Rattle.dw_base.specs.UnitHeaders.{UnitBase, UnitSection, HeaderPlaces, further_size, header_with}
use Rattle.dw_base.specs.ViewData.{debug_data, located, located_at}
use Rattle.dw_base.specs.ViewOffsets.{offset_read}
use Rattle.dw_base.specs.declared.debug_sections.DebugSection.TheVariants.{Abbrev}
use Rattle.dw_base.specs.declared.dwarf_numbers.TheConstants.{DW_UT_type}
use Rattle.dw_base.specs.declared.fault.Refusal.{Refusal}
use Rattle.dw_base.specs.declared.shared.Order.{Order}
use Rattle.dw_base.specs.declared.shared.Width.{Width}
use Rattle.dw_base.specs.declared.view_fields.Field.{Field}
use Rattle.dw_base.proofs.RelocationFieldLaws.{bytes_of-drop}
use Rattle.dw_base.proofs.ViewCellLaws.{bytes_of-view_cells, field_at-behind, length-view_cells}
use Rattle.dw_base.proofs.ViewOffsetLaws.{offset-fails, offset-is, offset-reads}
use Rattle.dw_entries.specs.Fronts.{IsOfView}
use Rattle.dw_entries.specs.ViewUnits.{unit_base}
use Rattle.dw_entries.proofs.FrontLaws.{number-read}

-- the bytes of a unit section from a place on are the section's
pub bytes-from : (v : View) (i start : ℕ) (z : UnitSection) → IsOfView v i z → bytes_from z start ≡ drop start (section_bytes v i)
bytes-from v i start z is =
    ap (λ (cs : List Cell). bytes_of (drop start cs)) is.contents ∙ bytes_of-drop start (view_cells v i) ∙ ap (drop start) (bytes_of-view_cells v i)

pub length-contents : (v : View) (i : ℕ) (z : UnitSection) → IsOfView v i z → length z.contents ≡ length (section_bytes v i)
length-contents v i z is = ap length is.contents ∙ length-view_cells v i

-- the cells of a field are the one that the view read there
pub field-behind : (v : View) (i start place n : ℕ) (z : UnitSection) (f : Field) → Ok f ≡ offset_read v i (start + place) n → IsOfView v i z → 0 < n
    → start + place + n ≤ length (section_bytes v i) → f ≡ field_of (unit_base v).order (cells_at (drop start z.contents) place n)
unfolding debug_data
field-behind v i start place n z f e is some inside =
    (offset-is v i (start + place) n f (sym e)).same ∙ sym (field_at-behind v i start place n some inside)
    ∙ ap (λ (cs : List Cell). field_of v.order (cells_at (drop start cs) place n)) (sym is.contents)

-- so the offset that was read is the one that it says
pub offset-said : (v : View) (i start place n x : ℕ) (z : UnitSection) (f : Field) → Ok f ≡ offset_read v i (start + place) n → x ≡ said_offset f → IsOfView v i z
    → 0 < n → start + place + n ≤ length (section_bytes v i) → x ≡ said_offset (field_of (unit_base v).order (cells_at (drop start z.contents) place n))
offset-said v i start place n x z f e x_is is some inside = x_is ∙ ap said_offset (field-behind v i start place n z f e is some inside)

pub elsewhere-said : (v : View) (i start place n : ℕ) (x : Bool) (z : UnitSection) (f : Field) → Ok f ≡ offset_read v i (start + place) n
    → x ≡ is_elsewhere (unit_base v).abbrevs f → IsOfView v i z → 0 < n → start + place + n ≤ length (section_bytes v i)
    → x ≡ is_elsewhere (unit_base v).abbrevs (field_of (unit_base v).order (cells_at (drop start z.contents) place n))
elsewhere-said v i start place n x z f e x_is is some inside =
    x_is ∙ ap (is_elsewhere (unit_base v).abbrevs) (field-behind v i start place n z f e is some inside)

-- it can be read,
pub field-read : (v : View) (i start place n : ℕ) (z : UnitSection) (f : Field) → Ok f ≡ offset_read v i (start + place) n → IsOfView v i z → 0 < n
    → start + place + n ≤ length (section_bytes v i) → OffsetReads (unit_base v).order z.contents (field_place (start + place) n offset_field)
unfolding debug_data
field-read v i start place n z f e is some inside =
    subst (λ (cs : List Cell). OffsetReads v.order cs (field_place (start + place) n offset_field)) (sym is.contents)
    (offset-reads v i (start + place) n f is.read some inside (sym e))

-- or a row says why not
pub field-fails : (v : View) (i start place n : ℕ) (z : UnitSection) (r : Refusal) → Err r ≡ offset_read v i (start + place) n → IsOfView v i z → 0 < n
    → start + place + n ≤ length (section_bytes v i) → OffsetFails (unit_base v).order z.number z.contents (field_place (start + place) n offset_field) r
unfolding debug_data
field-fails v i start place n z r e is some inside =
    subst (λ (cs : List Cell). OffsetFails v.order z.number cs (field_place (start + place) n offset_field) r) (sym is.contents)
    (subst (λ (k : ℕ). OffsetFails v.order k (view_cells v i) (field_place (start + place) n offset_field) r) (sym is.number)
    (offset-fails v i (start + place) n r some inside (sym e)))

pub ruleset offset_rules = (offset-said, elsewhere-said, field-read, field-fails)

-- the section of abbreviations
pub abbrevs-here : (v : View) (o : Option ℕ) → o ≡ section_named v (name_of Abbrev) → (unit_base v).abbrevs ≡ located_at v o
unfolding debug_data located
abbrevs-here v o is = ap (located_at v) (sym is)

-- a header of the fields that were read
pub header-built : (base : UnitBase) (z : UnitSection) (start section extent end version kind address abbrevs signature type_offset first : ℕ) (width : Width) (order : Order) (places : HeaderPlaces) (elsewhere : Bool)
    → section ≡ z.number → end ≡ start + extent → order ≡ base.order → address ≡ spelled base.order (bytes_from z start) places.address 1
    → abbrevs ≡ said_offset (field_of base.order (cells_at (drop start z.contents) places.abbrevs (width_size width)))
    → elsewhere ≡ is_elsewhere base.abbrevs (field_of base.order (cells_at (drop start z.contents) places.abbrevs (width_size width)))
    → signature ≡ (if kind == DW_UT_type then spelled base.order (bytes_from z start) places.behind 8 else 0)
    → type_offset ≡ (if kind == DW_UT_type then spelled base.order (bytes_from z start) (places.behind + 8) (width_size width) else 0)
    → first ≡ start + places.behind + further_size width kind
    → record {
      section = section;
      start = start;
      end = end;
      params = record { order = order; width = width; version = version; address = address };
      kind = kind;
      abbrevs = abbrevs;
      elsewhere = elsewhere;
      signature = signature;
      type_offset = type_offset;
      first = first;
    }
    ≡ header_with base z.number start (drop start z.contents) width extent version kind places
header-built base z start section extent end version kind address abbrevs signature type_offset first width order places elsewhere e1 e2 e3 e4 e5 e6 e7 e8 e9 =
    rw (e1, e2, e3, e4, e5, e6, e7, e8, e9) refl

-- a field of a type that was read
pub type-field : (v : View) (z : UnitSection) (start kind k place n x : ℕ) (order : Order) (rest : List ℕ) → order ≡ v.order → rest ≡ bytes_from z start → k ≡ kind
    → x ≡ (if k == DW_UT_type then spelled order rest place n else 0)
    → x ≡ (if kind == DW_UT_type then spelled (unit_base v).order (bytes_from z start) place n else 0)
type-field v z start kind k place n x order rest e f same is =
    is ∙ ap (λ (m : ℕ). if m == DW_UT_type then spelled order rest place n else 0) same
    ∙ ap (λ (y : ℕ). if kind == DW_UT_type then y else 0) (number-read v z start place n (spelled order rest place n) order rest e f refl)

-- the bytes behind a place of a section
pub rest-is : (v : View) (i start : ℕ) (z : UnitSection) (bytes rest : List ℕ) → IsOfView v i z → bytes ≡ section_bytes v i → rest ≡ drop start bytes → rest ≡ bytes_from z start
rest-is v i start z bytes rest is b r = r ∙ ap (drop start) b ∙ sym (bytes-from v i start z is)

pub start-inside : (v : View) (i start : ℕ) (z : UnitSection) → IsOfView v i z → start ≤ length (section_bytes v i) → start ≤ length z.contents
start-inside v i start z is le = omega (arith, le, length-contents v i z is)

pub ruleset header_rules = (header-built)

pub ruleset unit_rules = (bytes-from, start-inside)
