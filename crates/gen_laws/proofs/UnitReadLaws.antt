-- The units of a generated file are pieces.
use Rattle.std.proofs.Common.{◌≡◌, ℕ, zero, suc, ◌+◌, ◌≤◌, List, [], ◌∷◌, ◌++◌, length, slice_index, refl, sym, ap, ◌∙◌, arith, subst}
use Rattle.std.proofs.lemmas.List.{length-append}
use Rattle.dw_base.specs.Cells.{Cell, plain_cells}
use Rattle.dw_base.specs.Pieces.{Piece, joined}
use Rattle.dw_base.specs.UnitHeaders.{UnitSection, in_info}
use Rattle.dw_base.specs.UnitPieces.{ReadsUnits, unit_grammar}
use Rattle.dw_base.specs.UnitStates.{UnitState}
use Rattle.dw_base.proofs.PlainCellLaws.{plain_cells-append}
use Rattle.dw_meaning.proofs.PieceLaws.{joined-append, leads-chain}
use Rattle.dbg_gen.specs.Asked.{AreFew}
use Rattle.dbg_gen.specs.GeneratedLines.{lines_of}
use Rattle.dbg_gen.specs.GeneratedTexts.{chained}
use Rattle.dbg_gen.specs.GeneratedUnits.{unit_bytes, units_of}
use Rattle.gen_laws.proofs.UnitChainLaws.{Lead, lead-more, length-unit_bytes, size_of, unit-cells, unit-leads, unit_pieces}
use Rattle.gen_laws.proofs.UnitPieceLaws.{before, generated_base}

-- where the unit of a number starts
abbrev pub unit_start : List (List ℕ) → List ℕ → ℕ → ℕ
unit_start texts counts unit = length (units_of texts counts unit)

-- the pieces of a unit of a number, in a section of so many bytes, and those of the first units
abbrev pub pieces_of : ℕ → List (List ℕ) → List ℕ → ℕ → List (Piece UnitState)
pieces_of whole texts counts unit = unit_pieces whole texts (unit_start texts counts unit) unit (slice_index counts unit) (length (lines_of counts unit))

abbrev pub all_pieces : ℕ → List (List ℕ) → List ℕ → ℕ → List (Piece UnitState)
all_pieces whole texts counts units = chained (pieces_of whole texts counts) units

pub start-more : (texts : List (List ℕ)) (counts : List ℕ) (unit : ℕ) → unit_start texts counts unit + (4 + size_of (slice_index counts unit)) ≡ unit_start texts counts (suc unit)
unfolding units_of
start-more texts counts unit =
    let bytes = length-unit_bytes texts unit (slice_index counts unit) (length (lines_of counts unit)) in
    let both = length-append (chained (λ u. unit_bytes texts u (slice_index counts u) (length (lines_of counts u))) unit) (unit_bytes texts unit (slice_index counts unit) (length (lines_of counts unit))) in
    omega (arith, both, bytes)

pub units-lead : (whole : ℕ) (texts : List (List ℕ)) (counts : List ℕ) (units : ℕ) → AreFew counts → unit_start texts counts units ≤ whole
    → Lead (before whole 0 0) (all_pieces whole texts counts units) (before whole units (unit_start texts counts units))
unfolding units_of
units-lead whole texts counts zero few inside = record { leads = refl }
units-lead whole texts counts (suc unit) few inside =
    let more = start-more texts counts unit in
    let number : unit + 1 ≡ suc unit = omega arith in
    lead-more (before whole 0 0) (before whole unit (unit_start texts counts unit)) (before whole (suc unit) (unit_start texts counts (suc unit)))
    (all_pieces whole texts counts unit) (pieces_of whole texts counts unit)
    (units-lead whole texts counts unit few (omega (arith, more, inside)))
    (subst (λ (p : ℕ). Lead (before whole unit (unit_start texts counts unit)) (pieces_of whole texts counts unit) (before whole (suc unit) p)) more
    (subst (λ (u : ℕ). Lead (before whole unit (unit_start texts counts unit)) (pieces_of whole texts counts unit) (before whole u (unit_start texts counts unit + (4 + size_of (slice_index counts unit))))) number
    (unit-leads whole (unit_start texts counts unit) unit (slice_index counts unit) (length (lines_of counts unit)) texts (few.each unit) (omega (arith, more, inside)))))

pub units-cells : (whole : ℕ) (texts : List (List ℕ)) (counts : List ℕ) (units : ℕ) → joined (all_pieces whole texts counts units) ≡ plain_cells (units_of texts counts units)
unfolding units_of
units-cells whole texts counts zero = refl
units-cells whole texts counts (suc unit) =
    let bytes : List ℕ = unit_bytes texts unit (slice_index counts unit) (length (lines_of counts unit)) in
    let front : List ℕ = chained (λ u. unit_bytes texts u (slice_index counts u) (length (lines_of counts u))) unit in
    joined-append (all_pieces whole texts counts unit) (pieces_of whole texts counts unit)
    ∙ ap (λ (xs : List Cell). xs ++ joined (pieces_of whole texts counts unit)) (units-cells whole texts counts unit)
    ∙ ap (λ (xs : List Cell). plain_cells front ++ xs)
    (unit-cells whole (unit_start texts counts unit) unit (slice_index counts unit) (length (lines_of counts unit)) texts)
    ∙ sym (plain_cells-append front bytes)

length-plain : (bs : List ℕ) → length (plain_cells bs) ≡ length bs
length-plain [] = refl
length-plain (b ∷ bs) = omega (arith, length-plain bs)

-- the section of the units
abbrev pub unit_section : List (List ℕ) → List ℕ → ℕ → UnitSection
unit_section texts counts units = record { number = 1; kind = in_info; contents = plain_cells (units_of texts counts units) }

-- its pieces
abbrev pub section_pieces : List (List ℕ) → List ℕ → ℕ → List (Piece UnitState)
section_pieces texts counts units = all_pieces (length (plain_cells (units_of texts counts units))) texts counts units

pub units-read : (texts : List (List ℕ)) (counts : List ℕ) (units : ℕ) → AreFew counts
    → ReadsUnits generated_base (unit_section texts counts units) 0 (section_pieces texts counts units)
units-read texts counts units few =
    let whole = length (plain_cells (units_of texts counts units)) in
    let same : unit_start texts counts units ≡ whole = sym (length-plain (units_of texts counts units)) in
    let lead : Lead (before whole 0 0) (section_pieces texts counts units) (before whole units whole) =
    subst (λ (p : ℕ). Lead (before whole 0 0) (section_pieces texts counts units) (before whole units p)) same (units-lead whole texts counts units few (omega (arith, same))) in
    record {
      chain = leads-chain (unit_grammar generated_base) (before whole 0 0) (before whole units whole) (section_pieces texts counts units) lead.leads (record { mode = refl; place = refl });
      cells = units-cells whole texts counts units;
    }
