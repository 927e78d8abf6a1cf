-- A section whose units can be read one after another is pieces.
use Rattle.std.proofs.Common.{◌≡◌, ℕ, ◌+◌, ◌-◌, ◌≤◌, List, length, take, drop, Some, refl, sym, ap, ◌∙◌, subst, arith, Option, None, true, append-nil, ◌++◌, ◌∷◌, [], length-append, append-nil}
use Rattle.std.proofs.lemmas.Bool.{eq-eqb}
use Rattle.std.proofs.lemmas.List.{length-take-le, take-append-drop, drop_all}
use Rattle.dw_base.specs.AbbreviationBytes.{abbreviations_at}
use Rattle.dw_base.specs.AbbreviationTables.{Abbreviation}
use Rattle.dw_base.specs.Cells.{Cell, bytes_of}
use Rattle.dw_base.specs.EntryScans.{AreEntries}
use Rattle.dw_base.specs.EntryValues.{bytes_up_to}
use Rattle.dw_base.specs.UnitHeaders.{UnitBase, UnitSection, unit_header, IsUnit, header_at, SectionKind}
use Rattle.dw_base.specs.UnitPieces.{IsHeader, ReadsUnits, unit_grammar}
use Rattle.dw_meaning.specs.UnitScans.{UnitsScanned, none_scanned, more_scanned, AreScanned}
use Rattle.dw_base.specs.Pieces.{Piece, joined}
use Rattle.dw_base.specs.UnitStates.{UnitState, before_unit, between, headed, after_header}
use Rattle.dw_base.specs.UnitTables.{IsUnitTable}
use Rattle.dw_base.specs.declared.units.Scanned.{Scanned}
use Rattle.dw_base.specs.declared.units.UnitHeader.{UnitHeader}
use Rattle.dw_base.proofs.AbbreviationLaws.{table-found}
use Rattle.dw_meaning.proofs.PieceLaws.{leads-chain}
use Rattle.dw_meaning.proofs.ScanPieceLaws.{Run, run-more, run-one, run-none}
use Rattle.dw_meaning.proofs.ScanUnitLaws.{scan-run}
use Rattle.dw_meaning.proofs.UnitCutLaws.{header-cut}
use Rattle.dw_base.proofs.UnitHeaderLaws.{header-inside}
use Rattle.dw_meaning.proofs.UnitOneLaws.{header-tests}
use Rattle.dw_base.proofs.UnitRowLaws.{header_if-same}
use Rattle.dw_base.specs.Lebs.{initial_length_at}
use Rattle.dw_base.specs.Numbers.{spelled}
use Rattle.dw_base.specs.UnitHeaders.{is_header, header_if, header_of_version, header_of_length}
use Rattle.dw_base.specs.declared.shared.Width.{Width}

-- before a unit of a section
abbrev pub before : UnitSection → ℕ → ℕ → UnitState
before z place unit = before_unit z.number z.kind (length z.contents) place unit

-- in a unit that starts at a place
abbrev pub in_headed : UnitBase → UnitSection → ℕ → ℕ → UnitHeader → UnitState
in_headed base z start unit h = headed base (before z start unit) h

-- the places of a header that was read
pub record HeaderPlaced (z : UnitSection) (start : ℕ) (h : UnitHeader) : Type 0 where
  pub start_is : h.start ≡ start
  pub behind : start ≤ h.first
  pub inside : h.first ≤ start + length (drop start z.contents)

-- the header is a piece
pub record HeaderPiece (base : UnitBase) (z : UnitSection) (start unit : ℕ) (h : UnitHeader) : Type 0 where
  pub found : unit_header base z.kind z.number start (take (h.first - start) (drop start z.contents)) ≡ Some h
  pub fits : IsHeader base (before z start unit) (take (h.first - start) (drop start z.contents))
  pub next : after_header base (before z start unit) (start + length (take (h.first - start) (drop start z.contents)))
      (unit_header base z.kind z.number start (take (h.first - start) (drop start z.contents))) ≡ between (in_headed base z start unit h) h.first 0 0
  pub end : start + (h.first - start) ≡ h.first

pub header-piece : (base : UnitBase) (z : UnitSection) (start unit : ℕ) (h : UnitHeader) (table : List Abbreviation) → IsUnit base z start h
    → HeaderPlaced z start h → IsUnitTable base h table → HeaderPiece base z start unit h
header-piece base z start unit h table u placed t =
    let size : length (take (h.first - start) (drop start z.contents)) ≡ h.first - start =
    length-take-le (h.first - start) (drop start z.contents) (omega (arith, placed.inside, placed.behind)) in
    let whole : start + length (take (h.first - start) (drop start z.contents)) ≡ h.first = omega (arith, size, placed.behind) in
    let found : unit_header base z.kind z.number start (take (h.first - start) (drop start z.contents)) ≡ Some h =
    header-cut base z.kind z.number start (take (h.first - start) (drop start z.contents)) (drop (h.first - start) (drop start z.contents)) h
    (ap (unit_header base z.kind z.number start) (take-append-drop (h.first - start) (drop start z.contents)) ∙ u.header) (omega (arith, whole)) in
    record {
      found = found;
      fits = record {
        header = h;
        is = found;
        size = whole;
        own = u.whole;
        within = u.within;
        table = subst (λ (list : List Abbreviation). IsUnitTable base h list) (sym (table-found base.abbrevs.bytes h.abbrevs table t.is)) t;
      };
      next = ap (after_header base (before z start unit) (start + length (take (h.first - start) (drop start z.contents)))) found
          ∙ ap (λ (m : ℕ). between (in_headed base z start unit h) m 0 0) whole;
      end = omega (arith, placed.behind);
    }

pub header-run : (base : UnitBase) (z : UnitSection) (start unit : ℕ) (h : UnitHeader) (table : List Abbreviation) → IsUnit base z start h
    → HeaderPlaced z start h → IsUnitTable base h table
    → Run base z.contents (before z start unit) (between (in_headed base z start unit h) h.first 0 0) start h.first
header-run base z start unit h table u placed t =
    let p : HeaderPiece base z start unit h = header-piece base z start unit h table u placed t in
    subst (λ (m : ℕ). Run base z.contents (before z start unit) (between (in_headed base z start unit h) h.first 0 0) start m) p.end
    (run-one base z.contents (before z start unit) (between (in_headed base z start unit h) h.first 0 0) start (h.first - start) p.fits p.next)

-- behind the last entry comes the next unit
unit-ends : (s : UnitState) (e : ℕ) → between s s.header.end e 0 ≡ before_unit s.section s.kind s.whole s.header.end (s.unit + 1)
unfolding between
unit-ends s e = rw (eq-eqb s.header.end s.header.end refl) refl

-- a unit is pieces
unit-run : (base : UnitBase) (z : UnitSection) (start unit : ℕ) (h : UnitHeader) (table : List Abbreviation) (items : List Scanned) → IsUnit base z start h
    → HeaderPlaced z start h → IsUnitTable base h table → AreEntries h table (bytes_up_to z h) items
    → Run base z.contents (before z start unit) (before z h.end (unit + 1)) start h.end
unit-run base z start unit h table items u placed t entries =
    let s : UnitState = in_headed base z start unit h in
    let own : AreEntries h (abbreviations_at base.abbrevs.bytes h.abbrevs) (bytes_up_to z h) items =
    subst (λ (list : List Abbreviation). AreEntries h list (bytes_up_to z h) items) (sym (table-found base.abbrevs.bytes h.abbrevs table t.is)) entries in
    let scan : Run base z.contents (between (in_headed base z start unit h) h.first 0 0) (before z h.end (unit + 1)) h.first h.end =
    subst (λ (x : UnitState). Run base z.contents (between (in_headed base z start unit h) h.first 0 0) x h.first h.end)
    (unit-ends (in_headed base z start unit h) (length items)) (scan-run base z.contents (in_headed base z start unit h) items h.end 0 own) in
    run-more base z.contents (before z start unit) (between (in_headed base z start unit h) h.first 0 0) (before z h.end (unit + 1)) start h.first h.end
    (header-run base z start unit h table u placed t) scan

-- where a header stands
version-start : (base : UnitBase) (kind : SectionKind) (section start : ℕ) (p : List Cell) (width : Width) (n at v : ℕ) (h : UnitHeader)
    → header_if kind p (header_of_version base kind section start p width (at + n) at v) ≡ Some h → (h.start ≡ start) × (start ≤ h.first)
version-start base kind section start p width n at v h e =
    let same : h ≡ header_of_version base kind section start p width (at + n) at v =
    header_if-same kind p (header_of_version base kind section start p width (at + n) at v) h e in
    (ap (λ (x : UnitHeader). x.start) same, first_is (ap (λ (x : UnitHeader). x.first) same))
  where
    first_is : h.first ≡ (header_of_version base kind section start p width (at + n) at v).first → start ≤ h.first
    first_is f = omega (arith, f)

header-start : (base : UnitBase) (kind : SectionKind) (section start : ℕ) (p : List Cell) (h : UnitHeader) → unit_header base kind section start p ≡ Some h
    → (h.start ≡ start) × (start ≤ h.first)
unfolding unit_header
header-start base kind section start p h e = by_length (initial_length_at base.order (bytes_of p) 0) e
  where
    by_length : (o : Option (Width × ℕ × ℕ)) → header_of_length base kind section start p o ≡ Some h → (h.start ≡ start) × (start ≤ h.first)
    by_length None e = absurd cc
    by_length (Some (width, n, at)) e = version-start base kind section start p width n at (spelled base.order (bytes_of p) at 2) h e

pub header-placed : (base : UnitBase) (z : UnitSection) (start : ℕ) (h : UnitHeader) → header_at base z start ≡ Some h → HeaderPlaced z start h
header-placed base z start h e =
    let s = header-start base z.kind z.number start (drop start z.contents) h e in
    let test : is_header z.kind (drop start z.contents) h ≡ true = header-tests base z.kind z.number start (drop start z.contents) h e in
    let inside_ : h.first ≤ h.start + length (drop start z.contents) = header-inside z.kind (drop start z.contents) h test in
    record { start_is = s.0; behind = s.1; inside = omega (arith, inside_, s.0) }

-- units one after another
pub units-run : (base : UnitBase) (z : UnitSection) (first : ℕ) (list : List UnitHeader) (place : ℕ) → UnitsScanned base z list place
    → Run base z.contents (before z 0 first) (before z place (first + length list)) 0 place
units-run base z first list place none_scanned =
    run-none base z.contents (before z 0 first) (before z 0 (first + 0)) 0 (ap (λ (n : ℕ). before z 0 n) (omega arith))
units-run base z first all z_end (more_scanned list h start table items scanned u t entries) =
    let count : first + length list + 1 ≡ first + length (list ++ h ∷ []) = omega (arith, length-append list (h ∷ [])) in
    subst (λ (n : ℕ). Run base z.contents (before z 0 first) (before z h.end n) 0 h.end) count
    (run-more base z.contents (before z 0 first) (before z start (first + length list)) (before z h.end (first + length list + 1)) 0 start h.end
    (units-run base z first list start scanned) (unit-run base z start (first + length list) h table items u (header-placed base z start h u.header) t entries))

-- the pieces of a section
pub record SectionPieces (base : UnitBase) (z : UnitSection) (first : ℕ) : Type 0 where
  pub pieces : List (Piece UnitState)
  pub reads : ReadsUnits base z first pieces

-- a section whose units can be read is pieces
pub section-reads : (base : UnitBase) (z : UnitSection) (first : ℕ) (list : List UnitHeader) → AreScanned base z list → SectionPieces base z first
section-reads base z first list scanned =
    let run : Run base z.contents (before z 0 first) (before z (length z.contents) (first + length list)) 0 (length z.contents) =
    units-run base z first list (length z.contents) scanned in
    record {
      pieces = run.pieces;
      reads = record {
        chain = leads-chain (unit_grammar base) (before z 0 first) (before z (length z.contents) (first + length list)) run.pieces run.leads (record { mode = refl; place = refl });
        cells =
            sym (append-nil (joined run.pieces))
            ∙ ap (λ (x : List Cell). joined run.pieces ++ x) (sym (drop_all (length z.contents) z.contents (omega arith))) ∙ run.covers;
      };
    }
