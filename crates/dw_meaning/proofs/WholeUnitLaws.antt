-- A unit that is read whole is pieces, for anything that a piece says.
use Rattle.std.proofs.Common.{◌≡◌, ℕ, ◌+◌, ◌-◌, List, ◌++◌, length, take, drop, Some, refl, sym, subst}
use Rattle.std.proofs.lemmas.Bool.{eq-eqb}
use Rattle.std.proofs.lemmas.List.{take-append-drop}
use Rattle.dw_base.specs.AbbreviationBytes.{abbreviations_at}
use Rattle.dw_base.specs.AbbreviationTables.{Abbreviation}
use Rattle.dw_base.specs.Cells.{Cell}
use Rattle.dw_base.specs.EntryScans.{AreEntries}
use Rattle.dw_base.specs.EntryValues.{bytes_up_to}
use Rattle.dw_base.specs.Pieces.{Piece}
use Rattle.dw_base.specs.UnitHeaders.{UnitBase, UnitSection, unit_header, IsUnit}
use Rattle.dw_base.specs.UnitPieces.{unit_grammar}
use Rattle.dw_base.specs.UnitStates.{UnitState, before_unit, between}
use Rattle.dw_base.specs.UnitTables.{IsUnitTable}
use Rattle.dw_base.specs.declared.units.Scanned.{Scanned}
use Rattle.dw_base.specs.declared.units.UnitHeader.{UnitHeader}
use Rattle.dw_base.specs.declared.values.Spec.{Spec}
use Rattle.dw_base.specs.declared.values.Value.{Value}
use Rattle.dw_base.proofs.AbbreviationLaws.{table-found}
use Rattle.dw_meaning.proofs.ScanSectionLaws.{HeaderPiece, before, header-piece, header-placed, in_headed}
use Rattle.dw_meaning.specs.PieceRuns.{entries_out}
use Rattle.dw_meaning.proofs.RunLaws.{PieceRun, run-more, run-one}
use Rattle.dw_meaning.proofs.UnitRunLaws.{UnitSays, scan-run}

-- the header is a piece
header-run : {T : Type 0} (P : Piece UnitState → Type 0) (F : Piece UnitState → List T) (base : UnitBase) (z : UnitSection) (start unit : ℕ) (h : UnitHeader) (table : List Abbreviation) (out : List T)
    → IsUnit base z start h → IsUnitTable base h table
    → ((p r : List Cell) → p ++ r ≡ drop start z.contents → unit_header base z.kind z.number start p ≡ Some h → F (record { state = before z start unit; cells = p }) ≡ out)
    → ((k : ℕ) → P (record { state = before z start unit; cells = take k (drop start z.contents) }))
    → PieceRun (unit_grammar base) P F z.contents (before z start unit) (between (in_headed base z start unit h) h.first 0 0) start h.first out
header-run P F base z start unit h table out u t says holds =
    let c : HeaderPiece base z start unit h = header-piece base z start unit h table u (header-placed base z start h u.header) t in
    subst (λ (m : ℕ). PieceRun (unit_grammar base) P F z.contents (before z start unit) (between (in_headed base z start unit h) h.first 0 0) start m out) c.end
    (run-one (unit_grammar base) P F z.contents (before z start unit) (between (in_headed base z start unit h) h.first 0 0) start (h.first - start) out c.fits c.next
    (says (take (h.first - start) (drop start z.contents)) (drop (h.first - start) (drop start z.contents)) (take-append-drop (h.first - start) (drop start z.contents)) c.found)
    (holds (h.first - start)))

-- behind the last entry comes the next unit
unit-ends : (s : UnitState) (e : ℕ) → between s s.header.end e 0 ≡ before_unit s.section s.kind s.whole s.header.end (s.unit + 1)
unfolding between
unit-ends s e = rw (eq-eqb s.header.end s.header.end refl) refl

-- a unit is pieces
pub unit-run : {T : Type 0} (P : Piece UnitState → Type 0) (F : Piece UnitState → List T) (E : ℕ → ℕ → ℕ → Abbreviation → List T) (V : ℕ → ℕ → Spec → ℕ → Value → List T) (base : UnitBase) (z : UnitSection) (start unit : ℕ)
    (h : UnitHeader) (table : List Abbreviation) (items : List Scanned) (out : List T) → IsUnit base z start h → IsUnitTable base h table
    → AreEntries h table (bytes_up_to z h) items
    → ((p r : List Cell) → p ++ r ≡ drop start z.contents → unit_header base z.kind z.number start p ≡ Some h → F (record { state = before z start unit; cells = p }) ≡ out)
    → ((k : ℕ) → P (record { state = before z start unit; cells = take k (drop start z.contents) }))
    → UnitSays P F z.contents (in_headed base z start unit h) E V
    → PieceRun (unit_grammar base) P F z.contents (before z start unit) (before z h.end (unit + 1)) start h.end (out ++ entries_out E V h.params table (bytes_up_to z h) 0 items)
unit-run {T} P F E V base z start unit h table items out u t entries head holds says =
    let same : abbreviations_at base.abbrevs.bytes h.abbrevs ≡ table = table-found base.abbrevs.bytes h.abbrevs table t.is in
    let own : AreEntries h (abbreviations_at base.abbrevs.bytes h.abbrevs) (bytes_up_to z h) items =
    subst (λ (list : List Abbreviation). AreEntries h list (bytes_up_to z h) items) (sym same) entries in
    let all : List T = entries_out E V h.params (abbreviations_at base.abbrevs.bytes h.abbrevs) (bytes_up_to z h) 0 items in
    let scan : PieceRun (unit_grammar base) P F z.contents (between (in_headed base z start unit h) h.first 0 0) (before z h.end (unit + 1)) h.first h.end
    (entries_out E V h.params (abbreviations_at base.abbrevs.bytes h.abbrevs) (bytes_up_to z h) 0 items) =
    subst (λ (x : UnitState). PieceRun (unit_grammar base) P F z.contents (between (in_headed base z start unit h) h.first 0 0) x h.first h.end
    (entries_out E V h.params (abbreviations_at base.abbrevs.bytes h.abbrevs) (bytes_up_to z h) 0 items))
    (unit-ends (in_headed base z start unit h) (length items)) (scan-run P F E V base z.contents (in_headed base z start unit h) items h.end 0 says own) in
    subst (λ (list : List Abbreviation). PieceRun (unit_grammar base) P F z.contents (before z start unit) (before z h.end (unit + 1)) start h.end (out ++ entries_out E V h.params list (bytes_up_to z h) 0 items)) same
    (run-more (unit_grammar base) P F z.contents (before z start unit) (between (in_headed base z start unit h) h.first 0 0) (before z h.end (unit + 1)) start h.first h.end out
    (entries_out E V h.params (abbreviations_at base.abbrevs.bytes h.abbrevs) (bytes_up_to z h) 0 items)
    (header-run P F base z start unit h table out u t head holds) scan)
