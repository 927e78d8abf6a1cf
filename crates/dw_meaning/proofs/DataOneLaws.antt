-- Debug data is read in one way, so a file means one thing.
use Rattle.std.proofs.Common.{◌≡◌, ℕ, ◌+◌, List, [], ◌∷◌, sym, ap, ◌∙◌, refl, subst, length}
use Rattle.dw_meaning.specs.DataOutput.{DataReads}
use Rattle.dw_base.specs.DebugData.{DebugData, DataReadings, line_source, units_in, ReadsAll}
use Rattle.dw_base.specs.LineReadings.{LineReading}
use Rattle.dw_base.specs.Readings.{Reading, Readings}
use Rattle.dw_meaning.specs.FileMeanings.{file_data, Means, ViewMeans}
use Rattle.dw_base.specs.FileViews.{View, view_of}
use Rattle.dw_base.specs.Cells.{Cell}
use Rattle.dw_base.specs.NamePieces.{NameState, at_table, names_at, name_grammar, ReadsNames}
use Rattle.dw_base.specs.OffsetPieces.{OffsetState, at_contribution, offsets_at, offset_grammar, ReadsOffsets}
use Rattle.dw_base.specs.declared.shared.Order.{Order}
use Rattle.dw_base.proofs.OneWayLaws.{offsets-same, offsets-end, names-same, names-end}
use Rattle.dw_base.specs.Pieces.{Piece}
use Rattle.dw_base.specs.UnitHeaders.{UnitBase, UnitSection}
use Rattle.dw_base.specs.UnitPieces.{ReadsUnits, unit_grammar}
use Rattle.dw_base.specs.UnitStates.{UnitState, before_unit}
use Rattle.dw_base.specs.ViewData.{Meaning, debug_data, meaning_of}
use Rattle.dw_base.specs.MacroReadings.{MacroReading}
use Rattle.dw_base.specs.declared.debug_sections.DebugSection.TheVariants.{Info, StrOffsets, Macro, Names}
use Rattle.dw_meaning.proofs.LineOneLaws.{tables-one}
use Rattle.dw_meaning.proofs.MacroReadLaws.{all-macros-one}
use Rattle.dw_meaning.proofs.PieceLaws.{ReadsOneWay, chain-unique}
use Rattle.dw_meaning.proofs.UnitOneLaws.{units_one_way}

-- a unit section is pieces in one way
pub reads-one : (base : UnitBase) (z : UnitSection) (first : ℕ) (xs ys : List (Piece UnitState)) → ReadsUnits base z first xs → ReadsUnits base z first ys → xs ≡ ys
reads-one base z first xs ys r t =
    chain-unique (unit_grammar base) (units_one_way base) (before_unit z.number z.kind (length z.contents) 0 first) xs ys r.chain t.chain (r.cells ∙ sym t.cells)

reading-same : (r t : Reading) → r.number ≡ t.number → r.pieces ≡ t.pieces → r ≡ t
reading-same r t number pieces =
    ap (λ (n : ℕ). record { number = n; pieces = r.pieces }) number ∙ ap (λ (xs : List (Piece UnitState)). record { number = t.number; pieces = xs }) pieces

-- and so are all of them
pub readings-one : (base : UnitBase) (first : ℕ) (zs : List UnitSection) (rs qs : Readings) → ReadsAll base first zs rs → ReadsAll base first zs qs → rs ≡ qs
readings-one base first [] [] [] a b = refl
readings-one base first [] [] (q ∷ qs) a b = absurd b
readings-one base first [] (r ∷ rs) qs a b = absurd a
readings-one base first (z ∷ zs) [] qs a b = absurd a
readings-one base first (z ∷ zs) (r ∷ rs) [] a b = absurd b
readings-one base first (z ∷ zs) (r ∷ rs) (q ∷ qs) a b =
    let pieces : r.pieces ≡ q.pieces = reads-one base z first r.pieces q.pieces a.1 b.1 in
    let same : r ≡ q = reading-same r q (a.0 ∙ sym b.0) pieces in
    let rest : ReadsAll base (first + units_in r.pieces) zs qs =
    subst (λ (xs : List (Piece UnitState)). ReadsAll base (first + units_in xs) zs qs) (sym pieces) b.2 in
    ap (λ (x : Reading). x ∷ rs) same ∙ ap (λ (xs : Readings). q ∷ xs) (readings-one base (first + units_in r.pieces) zs rs qs a.2 rest)

-- string offsets and name tables are pieces in one way
offsets_one_way : (order : Order) → ReadsOneWay (offset_grammar order)
offsets_one_way order = record {
  same = λ s p q r t f g e. offsets-same s.mode order s p q r t f g e;
  ends = λ s p e f. offsets-end order s p e f;
}

names_one_way : (order : Order) → ReadsOneWay (name_grammar order)
names_one_way order = record {
  same = λ s p q r t f g e. names-same s.mode order s p q r t f g e;
  ends = λ s p e f. names-end order s p e f;
}

pub offsets-one : (order : Order) (contents : List Cell) (xs ys : List (Piece OffsetState)) → ReadsOffsets order contents xs → ReadsOffsets order contents ys → xs ≡ ys
offsets-one order contents xs ys r t =
    chain-unique (offset_grammar order) (offsets_one_way order) (offsets_at (length contents) 0 0 at_contribution) xs ys r.chain t.chain (r.cells ∙ sym t.cells)

pub names-one : (order : Order) (contents : List Cell) (xs ys : List (Piece NameState)) → ReadsNames order contents xs → ReadsNames order contents ys → xs ≡ ys
names-one order contents xs ys r t =
    chain-unique (name_grammar order) (names_one_way order) (names_at (length contents) 0 at_table) xs ys r.chain t.chain (r.cells ∙ sym t.cells)

-- all readings by their parts
abbrev pub readings_with : Readings → List (Piece OffsetState) → List LineReading → List MacroReading → List (Piece NameState) → DataReadings
readings_with units offsets lines macros names = record { units = units; offsets = offsets; lines = lines; macros = macros; names = names }

-- and so are all sections of debug data
pub data-one : (d : DebugData) (r q : DataReadings) → DataReads d r → DataReads d q → r ≡ q
data-one d r q a b =
    ap (λ (x : Readings). readings_with x r.offsets r.lines r.macros r.names) (readings-one d.base 0 (d.found Info) r.units q.units a.units b.units)
    ∙ ap (λ (x : List (Piece OffsetState)). readings_with q.units x r.lines r.macros r.names)
    (offsets-one d.base.order (d.found StrOffsets).contents r.offsets q.offsets a.offsets b.offsets)
    ∙ ap (λ (x : List LineReading). readings_with q.units q.offsets x r.macros r.names)
    (tables-one (line_source d) 0 (length (line_source d).bytes) r.lines q.lines a.lines b.lines)
    ∙ ap (λ (x : List MacroReading). readings_with q.units q.offsets q.lines x r.names) (all-macros-one d.base.order (d.found Macro) r.macros q.macros a.macros b.macros)
    ∙ ap (readings_with q.units q.offsets q.lines q.macros) (names-one d.base.order (d.found Names).contents r.names q.names a.names b.names)

-- whatever is read in a view says the same, and so in a file
pub view-means-one : (v : View) (x y : Meaning) → ViewMeans v x → ViewMeans v y → x ≡ y
view-means-one v x y one other = sym one.says ∙ ap (meaning_of v) (data-one (debug_data v) one.readings other.readings one.reads other.reads) ∙ other.says

pub means-one : (b : List ℕ) (x y : Meaning) → Means b x → Means b y → x ≡ y
means-one b x y one other =
    sym one.says ∙ ap (meaning_of (view_of b)) (data-one (file_data b) one.readings other.readings one.reads.data_reads other.reads.data_reads) ∙ other.says
