-- What is known of a unit of a view that is listed with its table.
use Rattle.std.proofs.Common.{◌≡◌, ℕ, ◌+◌, ◌≤◌, ◌^◌, List, length, drop, nat_le, Some, sym, ap, ◌∙◌, subst, arith}
use Rattle.std.specs.Prelude.{◌&&◌, IsTrue}
use Rattle.std.proofs.lemmas.Bool.{and_parts}
use Rattle.std.proofs.lemmas.List.{length-take}
use Rattle.dw_base.specs.AbbreviationTables.{Abbreviation}
use Rattle.dw_base.specs.Cells.{bytes_of}
use Rattle.dw_base.specs.EntryScans.{AreEntries}
use Rattle.dw_base.specs.EntryValues.{HasUnit, bytes_up_to}
use Rattle.dw_base.specs.FileViews.{View, view_cells}
use Rattle.dw_base.specs.LineMeanings.{item_at}
use Rattle.dw_base.specs.UnitHeaders.{UnitBase, UnitSection, IsUnit, UnitsUpTo, header_at, is_address_size, is_unit_type, is_version}
use Rattle.dw_base.specs.UnitTables.{IsUnitTable}
use Rattle.dw_base.specs.ViewData.{debug_data}
use Rattle.dw_base.specs.declared.units.Scanned.{Scanned}
use Rattle.dw_base.specs.declared.units.UnitHeader.{UnitHeader}
use Rattle.dw_base.proofs.AbbreviationLaws.{table-found}
use Rattle.dw_entries.specs.ViewUnits.{unit_section_at}
use Rattle.dw_entries.proofs.HasUnitLaws.{section-at, numbered-section}
use Rattle.dw_entries.proofs.UnitSectionLaws.{of-view}
use Rattle.dw_base.proofs.HeaderOfLaws.{header-of}
use Rattle.dw_meaning.proofs.ScanSectionLaws.{header-placed}
use Rattle.dw_meaning.proofs.UnitOneLaws.{header-tests}
use Rattle.dw_attrs.specs.UnitValues.{unit_bytes, unit_entries}
use Rattle.dw_units.specs.UnitLists.{IsListed}
use Rattle.dw_attrs.specs.UnitReads.{EachReads}
use Rattle.dw_units.specs.declared.listed_unit.ListedUnit.{ListedUnit}
use Rattle.dw_attrs.proofs.AllRunLaws.{Among}
use Rattle.dw_attrs.proofs.EntryListLaws.{entries-are}
use Rattle.dw_base.specs.declared.debug_sections.DebugSection.TheVariants.{Info}

pub record UnitFacts (v : View) (tables : List (List Abbreviation)) (z : UnitSection) (h : UnitHeader) (u : ListedUnit) (table : List Abbreviation) (items : List Scanned) : Type 0 where
  pub section_is : h.section ≡ z.number
  pub at_is : unit_section_at v h.section ≡ z
  pub header_is : u.header ≡ h
  pub table_is : item_at tables u.table ≡ Some table
  pub bytes_are : bytes_up_to z h ≡ unit_bytes v h
  pub items_are : unit_entries h table (bytes_up_to z h) ≡ items
  pub starts : h.start ≤ h.first
  pub order_is : h.params.order ≡ (debug_data v).base.order
  pub cells_are : z.contents ≡ view_cells v h.section
  pub address : IsTrue (is_address_size h.params.address)

own-section : (v : View) (z : UnitSection) → Among ((debug_data v).found Info) z → unit_section_at v z.number ≡ z
unfolding debug_data
own-section v z a = section-at v a.front a.back z a.is

own-cells : (v : View) (z : UnitSection) → Among ((debug_data v).found Info) z → z.contents ≡ view_cells v z.number
unfolding debug_data
own-cells v z a = (of-view v z.number z (numbered-section v a.front a.back z a.is)).contents

-- the size of addresses that a header says is one that a unit may have
own-address : (base : UnitBase) (z : UnitSection) (start : ℕ) (h : UnitHeader) → header_at base z start ≡ Some h → IsTrue (is_address_size h.params.address)
own-address base z start h e =
    (and_parts (nat_le h.first (h.start + length (drop start z.contents)) && nat_le h.first h.end && is_version z.kind h.params.version && is_unit_type h.kind)
    (is_address_size h.params.address) (header-tests base z.kind z.number start (drop start z.contents) h e)).1

pub unit-facts : (v : View) (tables : List (List Abbreviation)) (z : UnitSection) (start : ℕ) (h : UnitHeader) (u : ListedUnit) (table : List Abbreviation) (items : List Scanned)
    → Among ((debug_data v).found Info) z → IsUnit (debug_data v).base z start h → IsUnitTable (debug_data v).base h table → AreEntries h table (bytes_up_to z h) items
    → IsListed (debug_data v) tables h u → UnitFacts v tables z h u table items
unit-facts v tables z start h u table items among is t entries listed =
    let header = header-of (debug_data v).base z start h is.header in
    let at : unit_section_at v z.number ≡ z = own-section v z among in
    let here : unit_section_at v h.section ≡ z = ap (unit_section_at v) header.section ∙ at in
    let same : listed.table.table ≡ table =
    sym (table-found (debug_data v).base.abbrevs.bytes h.abbrevs listed.table.table listed.table.declares)
    ∙ table-found (debug_data v).base.abbrevs.bytes h.abbrevs table t.is in
    let placed = header-placed (debug_data v).base z start h is.header in
    let start_is = placed.start_is in
    let behind = placed.behind in
    record {
      section_is = header.section;
      at_is = here;
      header_is = listed.header_is;
      table_is = listed.table.there ∙ ap (λ (x : List Abbreviation). Some x) same;
      bytes_are = ap (λ (y : UnitSection). bytes_up_to y h) (sym here);
      items_are = entries-are h table (bytes_up_to z h) items (omega (arith, length-take h.end (bytes_of z.contents))) entries;
      starts = omega (arith, start_is, behind);
      order_is = header.order;
      cells_are = own-cells v z among ∙ ap (view_cells v) (sym header.section);
      address = own-address (debug_data v).base z start h is.header;
    }

-- so it can be read
pub unit-reads : (v : View) (tables : List (List Abbreviation)) (z : UnitSection) (start : ℕ) (list : List UnitHeader) (h : UnitHeader) (u : ListedUnit) (table : List Abbreviation)
    (items : List Scanned) → Among ((debug_data v).found Info) z → UnitsUpTo (debug_data v).base z list start → IsUnit (debug_data v).base z start h
    → IsUnitTable (debug_data v).base h table → AreEntries h table (bytes_up_to z h) items → IsListed (debug_data v) tables h u → EachReads v tables u
unit-reads v tables z start list h u table items among units is t entries listed =
    let f : UnitFacts v tables z h u table items = unit-facts v tables z start h u table items among is t entries listed in
    let here : HasUnit (debug_data v) z h = record { before = among.front; behind = among.back; sections = among.is; list = list; start = start; units = units; is = is } in
    let own : HasUnit (debug_data v) (unit_section_at v h.section) h = subst (λ (y : UnitSection). HasUnit (debug_data v) y h) (sym f.at_is) here in
    subst-unit f.header_is own (subst (λ (bs : List ℕ). AreEntries h table bs items) f.bytes_are entries) listed.short f.table_is
  where
    once : (x y : List Abbreviation) → Some x ≡ Some y → x ≡ y
    once x y e = cc

    with-table : (w : ListedUnit) (t : List Abbreviation) → item_at tables w.table ≡ Some t → HasUnit (debug_data v) (unit_section_at v w.header.section) w.header
        → AreEntries w.header t (unit_bytes v w.header) items → w.header.end ≤ 2 ^ 31 → EachReads v tables w
    with-table w t there own es short = record {
      unit = own;
      short = short;
      reads = λ (x : List Abbreviation) e.
          record {
            unit = own;
            short = short;
            items = items;
            entries = subst (λ (y : List Abbreviation). AreEntries w.header y (unit_bytes v w.header) items) (once t x (sym there ∙ e)) es;
          };
    }

    subst-unit : u.header ≡ h → HasUnit (debug_data v) (unit_section_at v h.section) h → AreEntries h table (unit_bytes v h) items → h.end ≤ 2 ^ 31
        → item_at tables u.table ≡ Some table → EachReads v tables u
    subst-unit e own es short there =
        with-table u table there (subst (λ (x : UnitHeader). HasUnit (debug_data v) (unit_section_at v x.section) x) (sym e) own)
        (subst (λ (x : UnitHeader). AreEntries x table (unit_bytes v x) items) (sym e) es) (subst (λ (x : UnitHeader). x.end ≤ 2 ^ 31) (sym e) short)
