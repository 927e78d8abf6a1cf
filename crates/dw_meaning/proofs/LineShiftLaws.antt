-- In the cells of a new line table relocations stand in the order in which they stood, each at its byte: bytes that come and go between them are
-- those of lengths and of paths that stand in the table.
use Rattle.std.proofs.Common.{◌≡◌, ℕ, zero, suc, ◌+◌, ◌-◌, ◌<◌, ◌≤◌, List, [], ◌∷◌, ◌++◌, length, take, drop, Option, None, refl, sym, ap, ◌∙◌, subst, arith}
use Rattle.std.proofs.lemmas.List.{append-nil, take-append-drop, take_all}
use Rattle.dw_base.specs.Cells.{Cell, bytes_of, cells_at, plain_cells}
use Rattle.dw_base.specs.DebugData.{DebugData, line_source}
use Rattle.dw_base.specs.LineReadings.{AreTables, LineReading}
use Rattle.dw_base.specs.LineSources.{LineSource}
use Rattle.dw_base.specs.NewOffsets.{with_offset}
use Rattle.dw_base.specs.Paths.{PathMap}
use Rattle.dw_base.specs.RelocationFields.{relocation_at}
use Rattle.dw_base.specs.SectionRelocations.{RelocationSource}
use Rattle.dw_base.specs.WrittenLines.{cells_part}
use Rattle.dw_base.specs.declared.debug_sections.DebugSection.TheVariants.{Line}
use Rattle.dw_base.specs.declared.line_tables.LineText.{LineText}
use Rattle.dw_base.specs.declared.shared.Order.{Order}
use Rattle.dw_meaning.specs.LineStretches.{Stretch, kept_stretch, offset_stretch, other_stretch, stretch_after, stretch_size, stretches_after, stretches_end}
use Rattle.dw_meaning.specs.RelocationFails.{LeftRelocationsRead}
use Rattle.dw_meaning.specs.TextLineCells.{all_cells_by_texts, all_stretches_by_texts}
use Rattle.dw_meaning.proofs.ClearLaws.{Clear, relocation-behind}
use Rattle.dw_meaning.proofs.EditStayLaws.{AllFit, all-self, fit-parts, put-stays}
use Rattle.dw_meaning.proofs.LineCellLaws.{cells-split}
use Rattle.dw_meaning.proofs.LineClearLaws.{EachClear, each-clear}
use Rattle.dw_meaning.proofs.LineSectionLaws.{TablesApart}
use Rattle.dw_meaning.proofs.LineStretchLaws.{StretchIs, StretchesAre}
use Rattle.dw_meaning.proofs.RecordShiftLaws.{MovesTo, moves-append, moves_new, moves_none, moves_old, stay-moves}
use Rattle.dw_meaning.proofs.TextStretchLaws.{text_section-are}

-- cells without relocations come, and others go
pub plain-comes : (z : RelocationSource) (bs : List ℕ) (ys us : List Cell) → MovesTo z ys us → MovesTo z ys (plain_cells bs ++ us)
plain-comes z [] ys us m = m
plain-comes z (b ∷ bs) ys us m = moves_new (record { byte = b; relocation = None }) ys (plain_cells bs ++ us) refl (plain-comes z bs ys us m)

-- of a part that begins at a place
goes-part : (z : RelocationSource) (cells : List Cell) (n : ℕ) → ((p : ℕ) → p < n → relocation_at cells p ≡ None) → MovesTo z (take n cells) []
goes-part z cells zero none = moves_none
goes-part z [] (suc n) none = moves_none
goes-part z (c ∷ cs) (suc n) none = moves_old c (take n cs) [] (none 0 (omega arith)) (goes-part z cs n (λ p lt. none (suc p) (omega (arith, lt))))

pub clear-goes : (z : RelocationSource) (cells : List Cell) (a n : ℕ) → Clear cells a (a + n) → MovesTo z (cells_at cells a n) []
clear-goes z cells a n h =
    goes-part z (drop a cells) n (λ p lt. relocation-behind cells a p ∙ h.none (a + p) (omega arith) (omega (arith, lt)))

-- a part that has other bytes, without relocations before and after
pub clear-moves : (z : RelocationSource) (cells : List Cell) (a n : ℕ) (bs : List ℕ) → Clear cells a (a + n) → MovesTo z (cells_at cells a n) (plain_cells bs)
clear-moves z cells a n bs h =
    subst (λ (ys : List Cell). MovesTo z (cells_at cells a n) ys) (append-nil (plain_cells bs)) (plain-comes z bs (cells_at cells a n) [] (clear-goes z cells a n h))

pub fit-part : (z : RelocationSource) (cells : List Cell) (a n : ℕ) → AllFit z cells → AllFit z (cells_at cells a n)
fit-part z cells a n h =
    let behind = fit-parts z (take a cells) (drop a cells) (subst (AllFit z) (sym (take-append-drop a cells)) h) in
    (fit-parts z (take n (drop a cells)) (drop n (drop a cells)) (subst (AllFit z) (sym (take-append-drop n (drop a cells))) behind.1)).0

-- stretches move relocations in order
stretch-moves : (z : RelocationSource) (order : Order) (cells : List Cell) (p : ℕ) (x : Stretch) → AllFit z cells → StretchIs cells p x
    → MovesTo z (cells_at cells p (stretch_size x)) (stretch_after order cells p x)
stretch-moves z order cells p (kept_stretch n) fit h = stay-moves z (cells_at cells p n) (cells_at cells p n) (all-self z (cells_at cells p n) (fit-part z cells p n fit))
stretch-moves z order cells p (other_stretch n bytes) fit h = clear-moves z cells p n bytes h
stretch-moves z order cells p (offset_stretch n to) fit h =
    stay-moves z (cells_at cells p n) (with_offset order (cells_at cells p n) to) (put-stays z order (cells_at cells p n) to (fit-part z cells p n fit))

stretches-behind : (p : ℕ) (xs : List Stretch) → p ≤ stretches_end p xs
stretches-behind p [] = omega arith
stretches-behind p (x ∷ xs) =
    let more = stretches-behind (p + stretch_size x) xs in
    omega (arith, more)

pub stretches-move : (z : RelocationSource) (order : Order) (cells : List Cell) (p : ℕ) (xs : List Stretch) → AllFit z cells → StretchesAre cells p xs
    → MovesTo z (cells_part cells p (stretches_end p xs)) (stretches_after order cells p xs)
stretches-move z order cells p [] fit h =
    let none : p - p ≡ 0 = omega arith in
    subst (λ (n : ℕ). MovesTo z (take n (drop p cells)) []) (sym none) moves_none
stretches-move z order cells p (x ∷ xs) fit h =
    let size : p + stretch_size x - p ≡ stretch_size x = omega arith in
    let split : cells_part cells p (stretches_end (p + stretch_size x) xs) ≡ cells_at cells p (stretch_size x) ++ cells_part cells (p + stretch_size x) (stretches_end (p + stretch_size x) xs) =
    cells-split cells p (p + stretch_size x) (stretches_end (p + stretch_size x) xs) (omega arith) (stretches-behind (p + stretch_size x) xs)
    ∙ ap (λ (n : ℕ). take n (drop p cells) ++ cells_part cells (p + stretch_size x) (stretches_end (p + stretch_size x) xs)) size in
    subst (λ (ys : List Cell). MovesTo z ys (stretches_after order cells p (x ∷ xs))) (sym split)
    (moves-append z (cells_at cells p (stretch_size x)) (stretch_after order cells p x) (cells_part cells (p + stretch_size x) (stretches_end (p + stretch_size x) xs))
    (stretches_after order cells (p + stretch_size x) xs) (stretch-moves z order cells p x fit h.0) (stretches-move z order cells (p + stretch_size x) xs fit h.1))

-- so do those of the whole section
pub section-moves : (z : RelocationSource) (g : LineSource) (m : PathMap) (places : LineText → Option ℕ) (rs : List LineReading) → bytes_of g.cells ≡ g.bytes → AllFit z g.cells
    → TablesApart g rs → EachClear g rs → AreTables g rs → MovesTo z g.cells (all_cells_by_texts g m places rs)
section-moves z g m places rs own fit apart clear tables =
    let s = text_section-are g m places rs own apart clear tables in
    let none : length g.cells - 0 ≡ length g.cells = omega arith in
    let whole : cells_part g.cells 0 (length g.cells) ≡ g.cells = ap (λ (n : ℕ). take n g.cells) none ∙ take_all (length g.cells) g.cells (omega arith) in
    subst (λ (old : List Cell). MovesTo z old (all_cells_by_texts g m places rs)) (ap (cells_part g.cells 0) s.ends ∙ whole)
    (subst (MovesTo z (cells_part g.cells 0 (stretches_end 0 (all_stretches_by_texts g m places rs)))) s.cells (stretches-move z g.order g.cells 0 (all_stretches_by_texts g m places rs) fit s.are))

-- the line tables of debug data whose relocations are ones that are handled: each header is clear, and relocations move in order
pub left-clear : (d : DebugData) (moving : List ℕ) (rs : List LineReading) → LeftRelocationsRead d moving → AreTables (line_source d) rs → EachClear (line_source d) rs
left-clear d moving rs left tables = each-clear (line_source d) (length (line_source d).bytes) rs left.line_headers tables

pub lines-move : (z : RelocationSource) (d : DebugData) (moving : List ℕ) (m : PathMap) (places : LineText → Option ℕ) (rs : List LineReading) → LeftRelocationsRead d moving
    → AllFit z (d.found Line).contents → TablesApart (line_source d) rs → AreTables (line_source d) rs → MovesTo z (d.found Line).contents (all_cells_by_texts (line_source d) m places rs)
lines-move z d moving m places rs left fit apart tables = section-moves z (line_source d) m places rs refl fit apart (left-clear d moving rs left tables) tables
