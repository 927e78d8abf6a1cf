-- Debug data that can be read have sources, and one list of them.
use Rattle.std.proofs.Common.{◌≡◌, ◌⊎◌, inl, inr, ℕ, List, [], ◌∷◌, ◌++◌, length, Some, None, refl, sym, ap, ◌∙◌, subst, arith, append_assoc, append-nil}
use Rattle.std.proofs.lemmas.List.{drop_all}
use Rattle.dw_base.specs.AbbreviationBytes.{abbreviations_at}
use Rattle.dw_base.specs.Cells.{bytes_of, located_cells}
use Rattle.dw_base.specs.DebugData.{DebugData, DataReadings, line_source}
use Rattle.dw_base.specs.LineReadings.{LineReading}
use Rattle.dw_base.specs.Paths.{PathMap}
use Rattle.dw_base.specs.Refusals.{Blames}
use Rattle.dw_base.specs.SlotTexts.{contributions_in}
use Rattle.dw_base.specs.UnitHeaders.{UnitBase, UnitSection, IsUnit, UnitsUpTo, more_units, header_at, unit_header}
use Rattle.dw_base.specs.declared.fault.Fault.{Fault}
use Rattle.dw_base.specs.declared.fault.Fault.TheVariants.{NoMemory, Refused}
use Rattle.dw_base.specs.declared.fault.Refusal.{Refusal}
use Rattle.dw_base.specs.declared.string_offsets.Contribution.{Contribution}
use Rattle.dw_base.specs.declared.units.UnitHeader.{UnitHeader}
use Rattle.dw_base.proofs.AbbreviationRowLaws.{unit_table-excludes}
use Rattle.dw_base.proofs.RelocationRowLaws.{header_offsets_exclude}
use Rattle.dw_base.proofs.ContributionBackLaws.{contributions-back}
use Rattle.dw_base.proofs.ContributionRowLaws.{contributions-exclude, contributions-one}
use Rattle.dw_base.proofs.ReachLaws.{Reaches, here, on, Stops, reach-total}
use Rattle.dw_base.proofs.UnitRowLaws.{UnitsRead, read_to, NextUnit, next-determined, no_cells-header, units-exclude, units-one, units-reach}
use Rattle.dw_base.specs.declared.debug_sections.DebugSection.TheVariants.{Info, StrOffsets}
use Rattle.dw_meaning.specs.DataFails.{unit as unit_fails, table as table_fails}
use Rattle.dw_meaning.specs.DataOutput.{DataReads}
use Rattle.dw_meaning.proofs.DataRowLaws.{data-excludes}
use Rattle.dw_meaning.proofs.LineOneLaws.{tables-one}
use Rattle.dw_meaning.proofs.LineRowLaws.{lines-exclude}
use Rattle.dw_sources.specs.Sources.{AreSources, EachTable, EachUnits, HasAbbreviations, HasUnits, HeadersRead, IsWant, SourceReadings, SourcesFail, SourcesRead, lines, relocation, string_tables, table, unit, sources_of}

-- debug data that can be read exclude each refusal
pub sources-exclude : (d : DebugData) (q : DataReadings) (r : Refusal) → DataReads d q → HeadersRead d → SourcesFail d r → ⊥
sources-exclude d q r reads headers (unit z before behind split f) = data-excludes d q r reads (unit_fails z before behind split f)
sources-exclude d q r reads headers (relocation z before behind split f) = headers before behind z r split f
sources-exclude d q r reads headers (table z h u f) = data-excludes d q r reads (table_fails z h u f)
sources-exclude d q r reads headers (lines f) = lines-exclude d q.lines r reads.lines f
sources-exclude d q r reads headers (string_tables f) =
    contributions-exclude d.base.order (bytes_of (d.found StrOffsets).contents) (d.found StrOffsets).number (contributions_in d.base.order q.offsets) r
    (contributions-back d.base.order (d.found StrOffsets).contents q.offsets reads.offsets) f

pub want-only : (d : DebugData) (f : Fault) → Blames (SourcesFail d) f → IsWant d f
want-only d NoMemory b = record { whole = λ q reads headers. refl }
want-only d (Refused r) b = record { whole = λ q reads headers. absurd (sources-exclude d q r reads headers b) }

-- the units that were read of one section among all
record SectionUnits (d : DebugData) (z : UnitSection) : Type 0 where
  pub headers : List UnitHeader
  pub has : HasUnits d z headers

units-among : (d : DebugData) (before behind : List UnitSection) (z : UnitSection) (hss : List (List UnitHeader)) → EachUnits d (before ++ z ∷ behind) hss → SectionUnits d z
units-among d [] behind z [] all = absurd all
units-among d [] behind z (hs ∷ hss) all = record { headers = hs; has = all.0 }
units-among d (y ∷ ys) behind z [] all = absurd all
units-among d (y ∷ ys) behind z (hs ∷ hss) all = units-among d ys behind z hss all.1

section-units : (d : DebugData) (before behind : List UnitSection) (z : UnitSection) (hss : List (List UnitHeader)) → d.found Info ≡ before ++ z ∷ behind
    → EachUnits d (d.found Info) hss → SectionUnits d z
section-units d before behind z hss split all = units-among d before behind z hss (subst (λ (zs : List UnitSection). EachUnits d zs hss) split all)

-- units that are read further are those so far, and more
record Grows (s t : UnitsRead) : Type 0 where
  pub more : List UnitHeader
  pub is : t.list ≡ s.list ++ more

grows : (base : UnitBase) (z : UnitSection) (s t : UnitsRead) → Reaches (NextUnit base z) s t → Grows s t
grows base z s t (here r) = record { more = []; is = sym (append-nil r.list) }
grows base z s t (on p q r n rest) =
    let g : Grows q r = grows base z q r rest in
    record {
      more = n.header ∷ g.more;
      is = g.is ∙ ap (λ (u : UnitsRead). u.list ++ g.more) n.next ∙ append_assoc p.list (n.header ∷ []) g.more;
    }

-- no unit stands at the section's end
end-stops : (base : UnitBase) (z : UnitSection) (list : List UnitHeader) → Stops (NextUnit base z) (read_to list (length z.contents))
end-stops base z list t n =
    let none : header_at base z (length z.contents) ≡ None =
    ap (unit_header base z.kind z.number (length z.contents)) (drop_all (length z.contents) z.contents (omega arith))
    ∙ no_cells-header base z.kind z.number (length z.contents) in
    let some : header_at base z (length z.contents) ≡ Some n.header = n.is.header in
    cc

-- so a unit of a section is among those that fill it, and has its table
table-among : (d : DebugData) (list more : List UnitHeader) (h : UnitHeader) → EachTable d ((list ++ h ∷ []) ++ more) → HasAbbreviations d h
table-among d [] more h all = all.0
table-among d (x ∷ xs) more h all = table-among d xs more h all.1

unit-table : (d : DebugData) (z : UnitSection) (hs list : List UnitHeader) (start : ℕ) (h : UnitHeader) → HasUnits d z hs → UnitsUpTo d.base z list start
    → IsUnit d.base z start h → HasAbbreviations d h
unit-table d z hs list start h has up is =
    by_reach
    (reach-total (NextUnit d.base z) (next-determined d.base z) (read_to [] 0) (read_to (list ++ h ∷ []) h.end) (read_to hs (length z.contents))
    (units-reach d.base z (list ++ h ∷ []) h.end (more_units list h start up is)) (units-reach d.base z hs (length z.contents) has.units))
  where
    by_growth : Grows (read_to (list ++ h ∷ []) h.end) (read_to hs (length z.contents)) → HasAbbreviations d h
    by_growth g = table-among d list g.more h (subst (EachTable d) g.is has.tables)

    last : (a b : UnitsRead) → a ≡ read_to hs (length z.contents) → Reaches (NextUnit d.base z) a b → a ≡ b
    last a b e (here r) = refl
    last a b e (on p q r n rest) = absurd (end-stops d.base z hs q (subst (λ (s : UnitsRead). NextUnit d.base z s q) e n))

    by_reach : Reaches (NextUnit d.base z) (read_to (list ++ h ∷ []) h.end) (read_to hs (length z.contents))
        ⊎ Reaches (NextUnit d.base z) (read_to hs (length z.contents)) (read_to (list ++ h ∷ []) h.end) → HasAbbreviations d h
    by_reach (inl r) = by_growth (grows d.base z (read_to (list ++ h ∷ []) h.end) (read_to hs (length z.contents)) r)
    by_reach (inr r) =
        let same : read_to hs (length z.contents) ≡ read_to (list ++ h ∷ []) h.end = last (read_to hs (length z.contents)) (read_to (list ++ h ∷ []) h.end) refl r in
        table-among d list [] h
        (subst (EachTable d) (sym (append-nil (list ++ h ∷ []))) (subst (EachTable d) (ap (λ (s : UnitsRead). s.list) same) has.tables))

-- sources that were read exclude each refusal
pub read-excludes : (d : DebugData) (m : PathMap) (names : List (List ℕ)) (r : Refusal) → AreSources d m names → SourcesFail d r → ⊥
read-excludes d m names r are (unit z before behind split f) =
    let s : SectionUnits d z = section-units d before behind z are.readings.headers split are.reads.units in
    units-exclude d.base z s.headers r s.has.units f
read-excludes d m names r are (table z h u f) =
    let s : SectionUnits d z = section-units d u.before u.behind z are.readings.headers u.sections are.reads.units in
    unit_table-excludes d.base h (abbreviations_at d.base.abbrevs.bytes h.abbrevs) r
    (unit-table d z s.headers u.list u.start h s.has u.units u.is) f
read-excludes d m names r are (relocation z before behind split f) =
    let s : SectionUnits d z = section-units d before behind z are.readings.headers split are.reads.units in
    header_offsets_exclude d.base z r s.has.offsets f
read-excludes d m names r are (string_tables f) =
    contributions-exclude d.base.order (located_cells (d.found StrOffsets)).bytes (d.found StrOffsets).number are.readings.contributions r are.reads.offsets f
read-excludes d m names r are (lines f) = lines-exclude d are.readings.lines r are.reads.lines f

pub ruleset want_rules = (want-only, read-excludes)

-- what is read is read in one way, so there is one list
each-one : (d : DebugData) (zs : List UnitSection) (xss yss : List (List UnitHeader)) → EachUnits d zs xss → EachUnits d zs yss → xss ≡ yss
each-one d [] [] [] a b = refl
each-one d [] [] (ys ∷ yss) a b = absurd b
each-one d [] (xs ∷ xss) yss a b = absurd a
each-one d (z ∷ zs) [] yss a b = absurd a
each-one d (z ∷ zs) (xs ∷ xss) [] a b = absurd b
each-one d (z ∷ zs) (xs ∷ xss) (ys ∷ yss) a b =
    ap (λ (hs : List UnitHeader). hs ∷ xss) (units-one d.base z xs ys a.0.units b.0.units) ∙ ap (λ (hss : List (List UnitHeader)). ys ∷ hss) (each-one d zs xss yss a.1 b.1)

readings-one : (d : DebugData) (x y : SourceReadings) → SourcesRead d x → SourcesRead d y → x ≡ y
readings-one d x y a b =
    ap (λ (hss : List (List UnitHeader)). record { headers = hss; contributions = x.contributions; lines = x.lines }) (each-one d (d.found Info) x.headers y.headers a.units b.units)
    ∙ ap (λ (cs : List Contribution). record { headers = y.headers; contributions = cs; lines = x.lines })
    (contributions-one d.base.order (located_cells (d.found StrOffsets)).bytes x.contributions y.contributions a.offsets b.offsets)
    ∙ ap (λ (ls : List LineReading). record { headers = y.headers; contributions = y.contributions; lines = ls })
    (tables-one (line_source d) 0 _ x.lines y.lines a.lines b.lines)

pub sources-one : (d : DebugData) (m : PathMap) (xs ys : List (List ℕ)) → AreSources d m xs → AreSources d m ys → xs ≡ ys
sources-one d m xs ys a b =
    a.is ∙ ap (λ (r : SourceReadings). sources_of d r m) (readings-one d a.readings b.readings a.reads b.reads) ∙ sym b.is
