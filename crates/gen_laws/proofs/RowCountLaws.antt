-- How many rows a generated line table gives: one for each special opcode, and one at the end of the sequence.
use Rattle.std.proofs.Common.{◌≡◌, ℕ, zero, suc, ◌+◌, ◌-◌, ◌*◌, ◌≤◌, List, [], ◌∷◌, ◌++◌, length, take, drop, slice_index, replicate, Some, None, refl, sym, ap, ◌∙◌, arith}
use Rattle.std.proofs.lemmas.Bool.{le-leb, lt-ltb}
use Rattle.std.proofs.lemmas.List.{append_assoc, append-nil, drop_at, length-append, length-drop, length-take-le, take_at}
use Rattle.dw_base.specs.Cells.{Cell, bytes_of, plain_cells}
use Rattle.dw_base.specs.Lebs.{uleb_at}
use Rattle.dw_base.specs.LineMeanings.{FileText, dir_texts, file_texts, line_meaning, line_meanings, line_params, program_rows, shown_rows}
use Rattle.dw_base.specs.LineOperations.{extended, extended_in, extended_operation, operation_in, operation_of, operations, operations_behind, special, special_operation, with_those}
use Rattle.dw_base.specs.LineReadings.{LineReading}
use Rattle.dw_base.specs.LineRegisters.{behind_row, gives_row, moved, rows_of, start_registers}
use Rattle.dw_base.specs.LineSources.{LineSource}
use Rattle.dw_base.specs.Numbers.{number_bytes}
use Rattle.dw_base.specs.ValueMeanings.{address_of}
use Rattle.dw_base.specs.WrittenLines.{part}
use Rattle.dw_base.specs.declared.line_numbers.TheConstants.{DW_LNE_end_sequence, DW_LNE_set_address}
use Rattle.dw_base.specs.declared.line_rows.LineParams.{LineParams}
use Rattle.dw_base.specs.declared.line_rows.Operation.{Operation}
use Rattle.dw_base.specs.declared.line_rows.Operation.TheVariants.{EndSequence, SetAddress}
use Rattle.dw_base.specs.declared.line_rows.Row.{Row}
use Rattle.dw_base.specs.declared.line_tables.LineHeader.{LineHeader}
use Rattle.dw_base.specs.declared.shared.Order.TheVariants.{Little}
use Rattle.dw_base.proofs.ContributionBackLaws.{StandsAt}
use Rattle.dw_base.proofs.NumberLaws.{length-number_bytes}
use Rattle.dw_base.proofs.PlainCellLaws.{plain_cells-append}
use Rattle.dw_base.proofs.UnitEditLaws.{length-bytes_of}
use Rattle.dbg_gen.specs.GeneratedLines.{line_header as generated_header, line_program, line_table, lines_of}
use Rattle.dbg_gen.proofs.SizeLaws.{length-table_of}
use Rattle.gen_laws.specs.Counts.{rows_in}
use Rattle.gen_laws.proofs.BodyLaws.{length-plain}
use Rattle.gen_laws.proofs.EntryCountLaws.{all_variables}
use Rattle.gen_laws.proofs.LineHeadLaws.{head_at, table-parts, up_to}
use Rattle.gen_laws.proofs.LineSectionReadLaws.{reading_at, readings_of, split}

-- an operation, and those behind it
operations-drop : (p : LineParams) (counts : List ℕ) (n : ℕ) (cells : List Cell) → operations_behind p counts n cells ≡ operations p counts (drop n cells)
operations-drop p counts zero cells = refl
operations-drop p counts (suc n) [] = refl
operations-drop p counts (suc n) (c ∷ cs) = operations-drop p counts n cs

operations-more : (p : LineParams) (counts : List ℕ) (c : Cell) (cs : List Cell) (o : Operation) (size : ℕ) → operation_in p counts (c ∷ cs) ≡ Some (o, suc size)
    → operations p counts (c ∷ cs) ≡ o ∷ operations p counts (drop size cs)
operations-more p counts c cs o size e =
    let one_less : suc size - 1 ≡ size = omega arith in
    ap (λ x. with_those x (λ k. operations_behind p counts k cs)) e ∙ ap (λ (k : ℕ). o ∷ operations_behind p counts k cs) one_less
    ∙ ap (λ (os : List Operation). o ∷ os) (operations-drop p counts size cs)

-- a special opcode
special-in : (p : LineParams) (counts rest : List ℕ) → p.opcode_base ≡ 13 → p.line_range ≡ 14 → operation_in p counts (plain_cells (33 ∷ rest)) ≡ Some (special p 20, 1)
unfolding operation_in operation_of special_operation
special-in p counts rest base range = rw (lt-ltb 0 (length (bytes_of (plain_cells (33 ∷ rest)))) (omega arith), base, range) refl

-- the end of the sequence
end-in : (p : LineParams) (counts : List ℕ) → p.opcode_base ≡ 13 → operation_in p counts (plain_cells (0 ∷ 1 ∷ DW_LNE_end_sequence ∷ [])) ≡ Some (EndSequence, 3)
unfolding operation_in operation_of extended_operation extended_in extended uleb_at
end-in p counts base = rw base refl

-- an address
abbrev address_cells : List ℕ → List ℕ → List Cell
address_cells address rest = plain_cells (0 ∷ 9 ∷ DW_LNE_set_address ∷ (address ++ rest))

length-address : (address rest : List ℕ) → length address ≡ 8 → length (bytes_of (take 11 (address_cells address rest))) ≡ 11
length-address address rest eight =
    length-bytes_of (take 11 (address_cells address rest))
    ∙ length-take-le 11 (address_cells address rest)
    (let plain = length-plain (0 ∷ 9 ∷ DW_LNE_set_address ∷ (address ++ rest)) in omega (arith, plain, eight, length-append address rest))

address-in : (p : LineParams) (counts address rest : List ℕ) → p.opcode_base ≡ 13 → length address ≡ 8
    → operation_in p counts (address_cells address rest) ≡ Some (SetAddress (address_of p.order (drop 3 (take 11 (address_cells address rest)))), 11)
unfolding operation_in operation_of extended_operation extended_in extended uleb_at
address-in p counts address rest base eight =
    let all = length-bytes_of (address_cells address rest) in
    let plain = length-plain (0 ∷ 9 ∷ DW_LNE_set_address ∷ (address ++ rest)) in
    let inside : 11 ≤ length (bytes_of (address_cells address rest)) = omega (arith, all, plain, eight, length-append address rest) in
    let size : length (bytes_of (take 11 (address_cells address rest))) - 3 ≡ 8 = omega (arith, length-address address rest eight) in
    rw (lt-ltb 0 (length (bytes_of (address_cells address rest))) (omega (arith, inside)), base, le-leb 11 (length (bytes_of (address_cells address rest))) inside, size) refl

-- the rows
rows-end : (p : LineParams) (r : Row) → length (rows_of p r (EndSequence ∷ [])) ≡ 1
unfolding gives_row
rows-end p r = refl

rows-special : (p : LineParams) (r : Row) (n : ℕ) (os : List Operation) → length (rows_of p r (special p n ∷ os)) ≡ suc (length (rows_of p (behind_row p (moved p (special p n) r)) os))
unfolding gives_row
rows-special p r n os = refl

rows-behind : (p : LineParams) (counts : List ℕ) (count : ℕ) (r : Row) → p.opcode_base ≡ 13 → p.line_range ≡ 14
    → length (rows_of p r (operations p counts (plain_cells (replicate count 33 ++ (0 ∷ 1 ∷ DW_LNE_end_sequence ∷ []))))) ≡ count + 1
rows-behind p counts zero r base range =
    ap (λ (os : List Operation). length (rows_of p r os)) (operations-more p counts _ _ EndSequence 2 (end-in p counts base)) ∙ rows-end p r
rows-behind p counts (suc count) r base range =
    let rest : List ℕ = replicate count 33 ++ (0 ∷ 1 ∷ DW_LNE_end_sequence ∷ []) in
    let behind = rows-behind p counts count (behind_row p (moved p (special p 20) r)) base range in
    ap (λ (os : List Operation). length (rows_of p r os)) (operations-more p counts _ _ (special p 20) 0 (special-in p counts rest base range))
    ∙ rows-special p r 20 (operations p counts (plain_cells rest))
    ∙ omega (arith, behind)

rows-address : (p : LineParams) (r : Row) (f : _) (os : List Operation) → rows_of p r (SetAddress f ∷ os) ≡ rows_of p (moved p (SetAddress f) r) os
unfolding gives_row
rows-address p r f os = refl

rows-program : (p : LineParams) (counts : List ℕ) (r : Row) (unit count : ℕ) → p.opcode_base ≡ 13 → p.line_range ≡ 14
    → length (rows_of p r (operations p counts (plain_cells (line_program unit count)))) ≡ count + 1
unfolding line_program
rows-program p counts r unit count base range =
    let address : List ℕ = number_bytes Little 8 (4096 * (unit + 1)) in
    let rest : List ℕ = replicate count 33 ++ (0 ∷ 1 ∷ DW_LNE_end_sequence ∷ []) in
    let eight : length address ≡ 8 = length-number_bytes Little 8 (4096 * (unit + 1)) in
    let f = address_of p.order (drop 3 (take 11 (address_cells address rest))) in
    let behind : drop 8 (plain_cells (address ++ rest)) ≡ plain_cells rest =
    ap (drop 8) (plain_cells-append address rest) ∙ drop_at (plain_cells address) (plain_cells rest) 8 (sym (length-plain address ∙ eight)) in
    ap (λ (os : List Operation). length (rows_of p r os)) (operations-more p counts _ _ (SetAddress f) 10 (address-in p counts address rest base eight))
    ∙ ap length (rows-address p r f (operations p counts (drop 8 (plain_cells (address ++ rest)))))
    ∙ ap (λ (cs : List Cell). length (rows_of p (moved p (SetAddress f) r) (operations p counts cs))) behind
    ∙ rows-behind p counts count (moved p (SetAddress f) r) base range

-- the program of a table among its cells
plain-drop : (n : ℕ) (bs : List ℕ) → drop n (plain_cells bs) ≡ plain_cells (drop n bs)
plain-drop zero bs = refl
plain-drop (suc n) [] = refl
plain-drop (suc n) (b ∷ bs) = plain-drop n bs

plain-take : (n : ℕ) (bs : List ℕ) → take n (plain_cells bs) ≡ plain_cells (take n bs)
plain-take zero bs = refl
plain-take (suc n) [] = refl
plain-take (suc n) (b ∷ bs) = ap (λ (cs : List Cell). record { byte = b; relocation = None } ∷ cs) (plain-take n bs)

no-items : {X : Type 0} (xs : List X) → length xs ≡ 0 → xs ≡ []
no-items [] e = refl
no-items (x ∷ xs) e = absurd (omega (arith, e))

last-there : (table q : List ℕ) (p : ℕ) → StandsAt table q p → p + length q ≡ length table → drop p table ≡ q
last-there table q p h ends =
    let none : h.behind ≡ [] = no-items h.behind (omega (arith, ap length h.is, length-append q h.behind, length-drop p table, ends)) in
    h.is ∙ ap (λ (xs : List ℕ). q ++ xs) none ∙ append-nil q

program-cells : (front rest : List ℕ) (unit count end place : ℕ) → end ≡ length front + (10 + (length (generated_header unit) + length (line_program unit count)))
    → place ≡ length front + 4 + 2 + 4 + length (generated_header unit)
    → drop place (take end (plain_cells (front ++ (line_table unit count ++ rest)))) ≡ plain_cells (line_program unit count)
program-cells front rest unit count end place ends starts =
    let table : List ℕ = up_to front unit (line_program unit count) in
    let size = length-table_of (generated_header unit) (line_program unit count) in
    let all = length-append front (line_table unit count) in
    let parts = table-parts front unit (line_program unit count) in
    let cut : take end (front ++ (line_table unit count ++ rest)) ≡ table =
    ap (take end) (sym (append_assoc front (line_table unit count) rest)) ∙ take_at table rest end (omega (arith, ends, size, all)) in
    ap (drop place) (plain-take end (front ++ (line_table unit count ++ rest)) ∙ ap plain_cells cut)
    ∙ plain-drop place table
    ∙ ap plain_cells (ap (λ (n : ℕ). drop n table) starts ∙ last-there table (line_program unit count) (length front + 4 + 2 + 4 + length (generated_header unit)) parts.program_there (omega (arith, size, all)))

-- a table
length-shown : (version : ℕ) (dirs : List (List ℕ)) (files : List FileText) (rs : List Row) → length (shown_rows version dirs files rs) ≡ length rs
length-shown version dirs files [] = refl
length-shown version dirs files (r ∷ rs) = ap suc (length-shown version dirs files rs)

rows-table : (g : LineSource) (front rest : List ℕ) (unit count : ℕ) → g.cells ≡ plain_cells (front ++ (line_table unit count ++ rest))
    → length (line_meaning g (reading_at g.number (length front) unit count)).rows ≡ count + 1
rows-table g front rest unit count cells =
    let t : LineReading = reading_at g.number (length front) unit count in
    let h : LineHeader = head_at (length front) (length (generated_header unit)) (length (line_program unit count)) in
    let counts : List ℕ = part (take h.end g.bytes) h.operands h.lists in
    let program : drop h.program (take h.end g.cells) ≡ plain_cells (line_program unit count) =
    ap (λ (cs : List Cell). drop h.program (take h.end cs)) cells ∙ program-cells front rest unit count h.end h.program (omega arith) refl in
    length-shown 4 (dir_texts g t.dirs) (file_texts g t.files ++ file_texts g t.defined) (program_rows (line_params g.order h) counts (drop h.program (take h.end g.cells)))
    ∙ ap (λ (cs : List Cell). length (program_rows (line_params g.order h) counts cs)) program
    ∙ rows-program (line_params g.order h) counts (start_registers (line_params g.order h)) unit count refl refl

-- all tables
rows-append : (g : LineSource) (rs qs : List LineReading) → rows_in (line_meanings g (rs ++ qs)) ≡ rows_in (line_meanings g rs) + rows_in (line_meanings g qs)
rows-append g [] qs = omega arith
rows-append g (r ∷ rs) qs = omega (arith, rows-append g rs qs)

rows-to : (g : LineSource) (counts : List ℕ) (total units : ℕ) → g.cells ≡ plain_cells (lines_of counts total) → units ≤ total
    → rows_in (line_meanings g (readings_of g.number counts units)) ≡ units + all_variables counts units
unfolding lines_of
rows-to g counts total zero cells le = refl
rows-to g counts total (suc unit) cells le =
    let s = split (λ u. line_table u (slice_index counts u)) unit total (omega arith) in
    let front = rows-to g counts total unit cells (omega arith) in
    let last = rows-table g (lines_of counts unit) s.rest unit (slice_index counts unit) (cells ∙ ap plain_cells s.is) in
    let both = rows-append g (readings_of g.number counts unit) (reading_at g.number (length (lines_of counts unit)) unit (slice_index counts unit) ∷ []) in
    omega (arith, front, last, both)

pub rows-counted : (g : LineSource) (counts : List ℕ) (units : ℕ) → g.cells ≡ plain_cells (lines_of counts units)
    → rows_in (line_meanings g (readings_of g.number counts units)) ≡ units + all_variables counts units
rows-counted g counts units cells = rows-to g counts units units cells (omega arith)
