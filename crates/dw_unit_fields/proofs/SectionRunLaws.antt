-- A section whose units can be read one after another is pieces, and texts stand in them where the units say.
use Rattle.std.proofs.Common.{◌≡◌, ℕ, ◌+◌, List, length, drop, refl, sym, ap, ◌∙◌, subst, arith, append_assoc, append-nil, ◌++◌, ◌∷◌, [], length-append}
use Rattle.std.proofs.lemmas.List.{drop_all}
use Rattle.dw_base.specs.Cells.{Cell, Located}
use Rattle.dw_base.specs.DebugData.{units_in}
use Rattle.dw_base.specs.EntryValues.{bytes_up_to}
use Rattle.dw_base.specs.Pieces.{Piece, Leads, joined}
use Rattle.dw_base.specs.TextIndexes.{SaidBase, IndexUse, bases_in, uses_in}
use Rattle.dw_base.specs.UnitHeaders.{UnitBase, UnitSection}
use Rattle.dw_base.specs.UnitPieces.{ReadsUnits, unit_grammar}
use Rattle.dw_base.specs.UnitStates.{UnitState}
use Rattle.dw_base.specs.declared.units.UnitHeader.{UnitHeader}
use Rattle.dw_meaning.specs.PieceRuns.{all_of}
use Rattle.dw_meaning.proofs.PieceLaws.{leads-chain, leads-more, joined-append}
use Rattle.dw_meaning.proofs.RunLaws.{all-append}
use Rattle.dw_meaning.proofs.ScanSectionLaws.{before}
use Rattle.dw_unit_fields.specs.TextPlaces.{TextPlace, BaseSource, UnitSays, places_in, entries_places, uses_among, bases_among, numbered_uses, numbered_bases, UnitsPlaced, none_placed, more_placed, ArePlaced}
use Rattle.dw_unit_fields.proofs.IndexRunLaws.{uses-append, bases-append, run-uses, run-bases, run-begins, numbered_uses-more, numbered_bases-more}
use Rattle.dw_unit_fields.proofs.PlacedRunLaws.{PlacedRun, piece_places, places-all, unit-placed}

-- what bases go by, with a section of string offsets
abbrev pub sourced : UnitBase → Located → BaseSource
sourced base y = record { order = base.order; offsets = y }

-- the pieces of units, with what their values say by index
pub record UnitsRun (base : UnitBase) (z : UnitSection) (first : ℕ) (list : List UnitHeader) (place : ℕ) (places : List TextPlace) (units : List UnitSays) : Type 0 where
  pub pieces : List (Piece UnitState)
  pub leads : Leads (unit_grammar base) (before z 0 first) pieces (before z place (first + length list))
  pub covers : joined pieces ++ drop place z.contents ≡ z.contents
  pub places_are : all_of piece_places pieces ≡ places
  pub count : length units ≡ length list
  pub uses : uses_in base.order pieces ≡ numbered_uses first units
  pub bases : (y : Located) → bases_in base.order y pieces ≡ numbered_bases (sourced base y) first units

-- one unit more
units-more : (base : UnitBase) (z : UnitSection) (first : ℕ) (list : List UnitHeader) (h : UnitHeader) (start : ℕ) (places here : List TextPlace) (units : List UnitSays)
    → UnitsRun base z first list start places units
    → PlacedRun base z.contents z.number (first + length list) (before z start (first + length list)) (before z h.end (first + length list + 1)) start h.end here
    → UnitsRun base z first (list ++ h ∷ []) h.end (places ++ here) (units ++ record { section = z.number; cells = z.contents; places = here } ∷ [])
units-more base z first list h start places here units m n =
    let u : ℕ = first + length list in
    let count : first + length list + 1 ≡ first + length (list ++ h ∷ []) = omega (arith, length-append list (h ∷ [])) in
    let number : first + length units ≡ first + length list = ap (λ (k : ℕ). first + k) m.count in
    record {
      pieces = m.pieces ++ n.pieces;
      leads = subst (λ (k : ℕ). Leads (unit_grammar base) (before z 0 first) (m.pieces ++ n.pieces) (before z h.end k)) count
          (leads-more (unit_grammar base) (before z 0 first) (before z start (first + length list)) (before z h.end (first + length list + 1)) m.pieces n.pieces m.leads n.leads);
      covers =
          ap (λ (x : List Cell). x ++ drop h.end z.contents) (joined-append m.pieces n.pieces) ∙ append_assoc (joined m.pieces) (joined n.pieces) (drop h.end z.contents)
          ∙ ap (λ (x : List Cell). joined m.pieces ++ x) n.covers ∙ m.covers;
      places_are =
          all-append piece_places m.pieces n.pieces ∙ ap (λ (x : List TextPlace). x ++ all_of piece_places n.pieces) m.places_are
          ∙ ap (λ (x : List TextPlace). places ++ x) n.fields;
      count = (let before_ = m.count in omega (arith, before_, length-append list (h ∷ []), length-append units (record { section = z.number; cells = z.contents; places = here } ∷ [])));
      uses =
          uses-append base.order m.pieces n.pieces ∙ ap (λ (x : List IndexUse). x ++ uses_in base.order n.pieces) m.uses
          ∙ ap (λ (x : List IndexUse). numbered_uses first units ++ x) (run-uses base.order z.contents z.number u n.pieces n.each ∙ ap (uses_among z.number u) (places-all n.pieces ∙ n.fields))
          ∙ ap (λ (k : ℕ). numbered_uses first units ++ uses_among z.number k here) (sym number)
          ∙ sym (numbered_uses-more first units (record { section = z.number; cells = z.contents; places = here }));
      bases = λ (y : Located). units-bases y;
    }
  where
    units-bases : (y : Located)
        → bases_in base.order y (m.pieces ++ n.pieces)
        ≡ numbered_bases (sourced base y) first (units ++ record { section = z.number; cells = z.contents; places = here } ∷ [])
    units-bases y =
        let number : first + length units ≡ first + length list = ap (λ (k : ℕ). first + k) m.count in
        bases-append base.order y m.pieces n.pieces ∙ ap (λ (x : List SaidBase). x ++ bases_in base.order y n.pieces) (m.bases y)
        ∙ ap (λ (x : List SaidBase). numbered_bases (sourced base y) first units ++ x)
        (run-bases (sourced base y) z.contents z.number (first + length list) n.pieces n.each
        ∙ ap (bases_among (sourced base y) z.contents (first + length list)) (places-all n.pieces ∙ n.fields))
        ∙ ap (λ (k : ℕ). numbered_bases (sourced base y) first units ++ bases_among (sourced base y) z.contents k here) (sym number)
        ∙ sym (numbered_bases-more (sourced base y) first units (record { section = z.number; cells = z.contents; places = here }))

-- units one after another
units-run : (base : UnitBase) (z : UnitSection) (first : ℕ) (list : List UnitHeader) (place : ℕ) (places : List TextPlace) (units : List UnitSays)
    → UnitsPlaced base z list place places units → UnitsRun base z first list place places units
units-run base z first list place places units none_placed = record {
  pieces = [];
  leads = ap (λ (n : ℕ). before z 0 n) (omega arith);
  covers = refl;
  places_are = refl;
  count = refl;
  uses = refl;
  bases = λ y. refl;
}
units-run base z first all z_end all_places all_units (more_placed list h start places units table items placed u t entries) =
    units-more base z first list h start places (entries_places h.params table (bytes_up_to z h) 0 items) units
    (units-run base z first list start places units placed)
    (unit-placed base z start (first + length list) h table items u t entries)

-- the pieces of a section, with the places of texts in them, and what its units say by index
pub record PlacedPieces (base : UnitBase) (z : UnitSection) (first : ℕ) (places : List TextPlace) (units : List UnitSays) : Type 0 where
  pub pieces : List (Piece UnitState)
  pub reads : ReadsUnits base z first pieces
  pub places_are : places_in pieces ≡ places
  pub count : units_in pieces ≡ length units
  pub uses : uses_in base.order pieces ≡ numbered_uses first units
  pub bases : (y : Located) → bases_in base.order y pieces ≡ numbered_bases (sourced base y) first units

-- a section whose units can be read is pieces
pub section-placed : (base : UnitBase) (z : UnitSection) (first : ℕ) (list : List UnitHeader) (places : List TextPlace) (units : List UnitSays)
    → ArePlaced base z list places units → PlacedPieces base z first places units
section-placed base z first list places units placed =
    let run : UnitsRun base z first list (length z.contents) places units = units-run base z first list (length z.contents) places units placed in
    let cells : joined run.pieces ≡ z.contents =
    sym (append-nil (joined run.pieces))
    ∙ ap (λ (x : List Cell). joined run.pieces ++ x) (sym (drop_all (length z.contents) z.contents (omega arith))) ∙ run.covers in
    let number : first + length list ≡ first + units_in run.pieces =
    run-begins base (before z 0 first) (before z (length z.contents) (first + length list)) run.pieces run.leads in
    let count = run.count in
    record {
      pieces = run.pieces;
      reads = record {
        chain = leads-chain (unit_grammar base) (before z 0 first) (before z (length z.contents) (first + length list)) run.pieces run.leads (record { mode = refl; place = refl });
        cells = cells;
      };
      places_are = places-all run.pieces ∙ run.places_are;
      count = omega (arith, number, count);
      uses = run.uses;
      bases = run.bases;
    }
