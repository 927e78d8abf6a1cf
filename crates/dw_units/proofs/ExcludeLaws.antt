-- Units that are listed exclude what keeps units from being listed.
use Rattle.std.proofs.Common.{◌≡◌, ◌⊎◌, inl, inr, ℕ, List, [], ◌∷◌, ◌++◌, length, Some, None, refl, sym, ap, ◌∙◌, subst, arith, append_assoc, append-nil}
use Rattle.std.specs.Prelude.{IfOk, OnOk, Result, Ok, Err}
use Rattle.std.proofs.lemmas.List.{drop_all}
use Rattle.dw_base.specs.AbbreviationTables.{Abbreviation}
use Rattle.dw_base.specs.DebugData.{DebugData}
use Rattle.dw_base.specs.FileViews.{View}
use Rattle.dw_base.specs.RelocationRows.{HeaderOffsetsRead}
use Rattle.dw_base.specs.UnitHeaders.{UnitBase, UnitSection, AreUnits, IsUnit, UnitsUpTo, more_units, header_at, unit_header}
use Rattle.dw_base.specs.UnitTables.{IsUnitTable}
use Rattle.dw_base.specs.ViewData.{debug_data}
use Rattle.dw_base.specs.declared.debug_sections.DebugSection.TheVariants.{Info}
use Rattle.dw_base.specs.declared.fault.Fault.{Fault}
use Rattle.dw_base.specs.declared.fault.Refusal.{Refusal}
use Rattle.dw_base.specs.declared.units.UnitHeader.{UnitHeader}
use Rattle.dw_base.proofs.AbbreviationRowLaws.{unit_table-excludes}
use Rattle.dw_base.proofs.RelocationRowLaws.{header_offsets_exclude}
use Rattle.dw_base.proofs.ReachLaws.{Reaches, here, on, Stops, reach-total}
use Rattle.dw_base.proofs.UnitRowLaws.{UnitsRead, read_to, NextUnit, next-determined, no_cells-header, units-exclude, units-reach}
use Rattle.dw_units.specs.UnitLists.{AreListed, ListsAll, UnitListFails, Units, more_listed, none_listed, relocation, table, unit}
use Rattle.dw_units.specs.declared.listed_unit.ListedUnit.{ListedUnit}

-- the units of one section among all
record OwnUnits (d : DebugData) (tables : List (List Abbreviation)) (z : UnitSection) : Type 0 where
  own : List ListedUnit
  headers : List UnitHeader
  units : AreUnits d.base z headers
  offsets : HeaderOffsetsRead d.base z
  listed : AreListed d tables headers own

-- a section is the last of all, or one in front of it
record InFront (before zs : List UnitSection) (z : UnitSection) : Type 0 where
  rest : List UnitSection
  is : zs ≡ before ++ z ∷ rest

last-or-front : (before behind zs : List UnitSection) (y z : UnitSection) → zs ++ y ∷ [] ≡ before ++ z ∷ behind → (y ≡ z) ⊎ InFront before zs z
last-or-front [] behind [] y z e =
    let same : y ≡ z = cc in
    inl same
last-or-front [] behind (x ∷ zs) y z e =
    let same : x ≡ z = cc in
    inr (record { rest = zs; is = ap (λ (w : UnitSection). w ∷ zs) same })
last-or-front (b ∷ []) behind [] y z e = absurd cc
last-or-front (b ∷ c ∷ before) behind [] y z e = absurd cc
last-or-front (b ∷ before) behind (x ∷ zs) y z e =
    let first : x ≡ b = cc in
    let others : zs ++ y ∷ [] ≡ before ++ z ∷ behind = cc in
    by_others first (last-or-front before behind zs y z others)
  where
    by_others : x ≡ b → (y ≡ z) ⊎ InFront before zs z → (y ≡ z) ⊎ InFront (b ∷ before) (x ∷ zs) z
    by_others first (inl same) = inl same
    by_others first (inr f) = inr (record { rest = f.rest; is = ap (λ (w : UnitSection). w ∷ zs) first ∙ ap (λ (ws : List UnitSection). b ∷ ws) f.is })

own-units : (d : DebugData) (tables : List (List Abbreviation)) (all : List UnitSection) (us : List ListedUnit) (before behind : List UnitSection) (z : UnitSection)
    → all ≡ before ++ z ∷ behind → ListsAll d tables all us → OwnUnits d tables z
own-units d tables all us [] behind z e none_listed = absurd cc
own-units d tables all us (b ∷ before) behind z e none_listed = absurd cc
own-units d tables all all_us before behind z e (more_listed zs us own y headers l units read listed) =
    by_place (λ rest f. own-units d tables zs us before rest z f l) (last-or-front before behind zs y z e)
  where
    by_place : ((rest : List UnitSection) → zs ≡ before ++ z ∷ rest → OwnUnits d tables z) → (y ≡ z) ⊎ InFront before zs z → OwnUnits d tables z
    by_place among (inl same) = subst (OwnUnits d tables) same (record { own = own; headers = headers; units = units; offsets = read; listed = listed })
    by_place among (inr f) = among f.rest f.is

-- units that are read further are those so far, and more
record FurtherUnits (s t : UnitsRead) : Type 0 where
  more : List UnitHeader
  is : t.list ≡ s.list ++ more

further : (base : UnitBase) (z : UnitSection) (s t : UnitsRead) → Reaches (NextUnit base z) s t → FurtherUnits s t
further base z s t (here r) = record { more = []; is = sym (append-nil r.list) }
further base z s t (on p q r n rest) =
    let g : FurtherUnits q r = further base z q r rest in
    record {
      more = n.header ∷ g.more;
      is = g.is ∙ ap (λ (u : UnitsRead). u.list ++ g.more) n.next ∙ append_assoc p.list (n.header ∷ []) g.more;
    }

-- no unit stands at the section's end
end-stops : (base : UnitBase) (z : UnitSection) (list : List UnitHeader) → Stops (NextUnit base z) (read_to list (length z.contents))
end-stops base z list t n =
    let none : header_at base z (length z.contents) ≡ None =
    ap (unit_header base z.kind z.number (length z.contents)) (drop_all (length z.contents) z.contents (omega arith))
    ∙ no_cells-header base z.kind z.number (length z.contents) in
    let some : header_at base z (length z.contents) ≡ Some n.header = n.is.header in
    cc

-- so a unit of a section is among those that fill it, and has its table
record ReadTable (d : DebugData) (h : UnitHeader) : Type 0 where
  list : List Abbreviation
  is : IsUnitTable d.base h list

table-among : (d : DebugData) (tables : List (List Abbreviation)) (list more : List UnitHeader) (h : UnitHeader) (us : List ListedUnit)
    → AreListed d tables ((list ++ h ∷ []) ++ more) us → ReadTable d h
table-among d tables [] more h [] all = absurd all
table-among d tables [] more h (u ∷ us) all = record { list = all.0.table.table; is = record { here = all.0.here; is = all.0.table.declares } }
table-among d tables (x ∷ xs) more h [] all = absurd all
table-among d tables (x ∷ xs) more h (u ∷ us) all = table-among d tables xs more h us all.1

unit-table : (d : DebugData) (tables : List (List Abbreviation)) (z : UnitSection) (list : List UnitHeader) (start : ℕ) (h : UnitHeader) → OwnUnits d tables z → UnitsUpTo d.base z list start
    → IsUnit d.base z start h → ReadTable d h
unit-table d tables z list start h o up is =
    by_reach
    (reach-total (NextUnit d.base z) (next-determined d.base z) (read_to [] 0) (read_to (list ++ h ∷ []) h.end) (read_to o.headers (length z.contents))
    (units-reach d.base z (list ++ h ∷ []) h.end (more_units list h start up is)) (units-reach d.base z o.headers (length z.contents) o.units))
  where
    last : (a b : UnitsRead) → a ≡ read_to o.headers (length z.contents) → Reaches (NextUnit d.base z) a b → a ≡ b
    last a b e (here r) = refl
    last a b e (on p q r n rest) = absurd (end-stops d.base z o.headers q (subst (λ (s : UnitsRead). NextUnit d.base z s q) e n))

    by_reach : Reaches (NextUnit d.base z) (read_to (list ++ h ∷ []) h.end) (read_to o.headers (length z.contents))
        ⊎ Reaches (NextUnit d.base z) (read_to o.headers (length z.contents)) (read_to (list ++ h ∷ []) h.end) → ReadTable d h
    by_reach (inl r) =
        let g : FurtherUnits (read_to (list ++ h ∷ []) h.end) (read_to o.headers (length z.contents)) =
        further d.base z (read_to (list ++ h ∷ []) h.end) (read_to o.headers (length z.contents)) r in
        table-among d tables list g.more h o.own (subst (λ (hs : List UnitHeader). AreListed d tables hs o.own) g.is o.listed)
    by_reach (inr r) =
        let same : read_to o.headers (length z.contents) ≡ read_to (list ++ h ∷ []) h.end = last (read_to o.headers (length z.contents)) (read_to (list ++ h ∷ []) h.end) refl r in
        table-among d tables list [] h o.own
        (subst (λ (hs : List UnitHeader). AreListed d tables hs o.own) (ap (λ (s : UnitsRead). s.list) same ∙ sym (append-nil (list ++ h ∷ []))) o.listed)

pub list-excludes : (d : DebugData) (tables : List (List Abbreviation)) (us : List ListedUnit) (r : Refusal) → ListsAll d tables (d.found Info) us → UnitListFails d r → ⊥
list-excludes d tables us r l (unit z before behind split f) =
    let o : OwnUnits d tables z = own-units d tables (d.found Info) us before behind z split l in
    units-exclude d.base z o.headers r o.units f
list-excludes d tables us r l (relocation z before behind split f) =
    let o : OwnUnits d tables z = own-units d tables (d.found Info) us before behind z split l in
    header_offsets_exclude d.base z r o.offsets f
list-excludes d tables us r l (table z h u f) =
    let o : OwnUnits d tables z = own-units d tables (d.found Info) us u.before u.behind z u.sections l in
    let t : ReadTable d h = unit-table d tables z u.list u.start h o u.units u.is in
    unit_table-excludes d.base h t.list r t.is f

pub none-fails : (x : Result Units Fault) (v : View) → IfOk x (λ us. ListsAll (debug_data v) us.tables ((debug_data v).found Info) us.units)
    → OnOk x ((r : Refusal) → UnitListFails (debug_data v) r → ⊥)
none-fails (Ok us) v l = λ r f. list-excludes (debug_data v) us.tables us.units r l f
none-fails (Err e) v l = tt
