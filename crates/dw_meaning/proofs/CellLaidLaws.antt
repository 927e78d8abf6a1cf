-- Where the cells of a line table stand that was written with its paths mapped: from behind its lengths on they are the old ones with changes in
-- them, and behind its lists what is between them and the program, and the program.
use Rattle.std.proofs.Common.{◌≡◌, ℕ, ◌+◌, ◌-◌, ◌<◌, ◌≤◌, List, [], ◌++◌, length, take, drop, Option, Some, None, refl, sym, ap, ◌∙◌, subst, arith, append_assoc}
use Rattle.std.proofs.lemmas.List.{drop-drop, drop-take, length-append, length-drop, take-take}
use Rattle.dw_base.specs.Cells.{Cell, Relocation, plain_cells}
use Rattle.dw_base.specs.Forms.{width_size}
use Rattle.dw_base.specs.LineReadings.{LineReading, ReadsTable, table_read}
use Rattle.dw_base.specs.LineSources.{LineSource}
use Rattle.dw_base.specs.Numbers.{number_bytes}
use Rattle.dw_base.specs.Paths.{PathMap}
use Rattle.dw_base.specs.RelocationFields.{reach_of, relocation_at}
use Rattle.dw_base.specs.WrittenLines.{cells_part, header_length_place, length_bytes, length_size}
use Rattle.dw_base.specs.declared.line_tables.LineText.{LineText}
use Rattle.dw_base.proofs.NumberLaws.{length-number_bytes}
use Rattle.dw_base.proofs.PlainCellLaws.{plain_cells-plain}
use Rattle.dw_base.proofs.RelocationFieldLaws.{relocation_at-plain}
use Rattle.dw_meaning.specs.LineCells.{changed_cells, rest_cells}
use Rattle.dw_meaning.specs.TextLineCells.{cells_by_texts, table_cells_by_texts, texts_cells}
use Rattle.dw_meaning.proofs.CellRestLaws.{CellRest, drop-front, over-there, part-size, plain-none, plain-size, take-front}
use Rattle.dw_meaning.proofs.ClearLaws.{Clear, NoneOver, clear-join, clear-part, front-clear, relocation-behind, relocation-front, relocation-taken}
use Rattle.dw_meaning.proofs.LineCellLaws.{cells-split}
use Rattle.dw_meaning.proofs.LineClearLaws.{TableClear, header-lists}
use Rattle.dw_meaning.proofs.LineHeaderLaws.{first_place, length-place, sizes_size}
use Rattle.dw_meaning.proofs.LineLaidLaws.{length-bytes}

-- cells that stand one behind another
pub stand-behind : (new xs ys : List Cell) (q : ℕ) → drop q new ≡ xs ++ ys → drop (q + length xs) new ≡ ys
stand-behind new xs ys q is = sym (drop-drop (length xs) q new) ∙ ap (drop (length xs)) is ∙ drop-front xs ys

stand-inside : (new xs ys : List Cell) (q : ℕ) → q ≤ length new → drop q new ≡ xs ++ ys → q + length xs ≤ length new
stand-inside new xs ys q le is =
    let long : length (drop q new) ≡ length (xs ++ ys) = ap length is in
    omega (arith, le, long, length-drop q new, length-append xs ys)

-- a part in which none begins
part-none : (cells : List Cell) (a b : ℕ) → Clear cells a b → (i : ℕ) (r : Relocation) → i < length (cells_part cells a b) → relocation_at (cells_part cells a b) i ≡ Some r
    → length (cells_part cells a b) ≡ b - a → i + reach_of r ≤ length (cells_part cells a b)
part-none cells a b h i r lt e size =
    let none = h.none (a + i) (omega arith) (omega (arith, lt, size)) in
    let there : relocation_at (cells_part cells a b) i ≡ relocation_at cells (a + i) =
    relocation-taken (drop a cells) (b - a) i (omega (arith, lt, size)) ∙ relocation-behind cells a i in
    absurd (clash (sym there ∙ e) none)
  where
    clash : {o : Option Relocation} → o ≡ Some r → o ≡ None → ⊥
    clash u v = cc

-- from behind the lengths on
pub laid-cells : (g : LineSource) (m : PathMap) (places : LineText → Option ℕ) (p : ℕ) (r : LineReading) (cells more : List Cell) (start : ℕ) → ReadsTable g p r → TableClear g r
    → r.header.program ≤ r.header.end → r.header.end ≤ length g.cells → r.header.lists ≤ r.header.program → start ≤ length cells → NoneOver cells start
    → drop start cells ≡ table_cells_by_texts g m places (table_read g r) ++ more
    → CellRest g.cells cells r.header.program (texts_cells g m places r.header.width (table_read g r).texts) (cells_part g.cells r.header.program r.header.end ++ more)
    (first_place r.header.version (r.header.start + length_size r.header.width) r.header.width) (first_place r.header.version (start + length_size r.header.width) r.header.width)
unfolding table_cells_by_texts cells_by_texts
laid-cells g m places p r cells more start reads clear program end lists_in begin over is =
    go (plain_cells (length_bytes g.order r.header.width (length (rest_cells g (table_read g r) (cells_by_texts g m places (table_read g r))))))
    (cells_part g.cells (r.header.start + length_size r.header.width) (header_length_place r.header.start r.header.width r.header.version))
    (plain_cells (number_bytes g.order (width_size r.header.width) (length (cells_by_texts g m places (table_read g r)))))
    (changed_cells g.cells (first_place r.header.version (r.header.start + length_size r.header.width) r.header.width) r.header.program
    (texts_cells g m places r.header.width (table_read g r).texts)) refl
    (plain-size (length_bytes g.order r.header.width (length (rest_cells g (table_read g r) (cells_by_texts g m places (table_read g r)))))
    ∙ length-bytes g.order r.header.width (length (rest_cells g (table_read g r) (cells_by_texts g m places (table_read g r)))))
    (plain-none (length_bytes g.order r.header.width (length (rest_cells g (table_read g r) (cells_by_texts g m places (table_read g r))))))
    (plain-size (number_bytes g.order (width_size r.header.width) (length (cells_by_texts g m places (table_read g r))))
    ∙ length-number_bytes g.order (width_size r.header.width) (length (cells_by_texts g m places (table_read g r))))
    (plain-none (number_bytes g.order (width_size r.header.width) (length (cells_by_texts g m places (table_read g r)))))
    front_size (λ i q lt e. part-none g.cells (r.header.start + length_size r.header.width) (header_length_place r.header.start r.header.width r.header.version) front_clear i q lt e front_whole) is
  where
    at : header_length_place r.header.start r.header.width r.header.version ≡ r.header.start + length_size r.header.width + sizes_size r.header.version
    at = length-place r.header.version (r.header.start + length_size r.header.width)

    behind : header_length_place r.header.start r.header.width r.header.version + width_size r.header.width ≤ r.header.lists
    behind = header-lists g p r reads

    front_whole : length (cells_part g.cells (r.header.start + length_size r.header.width) (header_length_place r.header.start r.header.width r.header.version))
        ≡ header_length_place r.header.start r.header.width r.header.version - (r.header.start + length_size r.header.width)
    front_whole =
        part-size g.cells (r.header.start + length_size r.header.width) (header_length_place r.header.start r.header.width r.header.version) (omega (arith, at))
        (omega (arith, behind, lists_in, program, end))

    front_size : length (cells_part g.cells (r.header.start + length_size r.header.width) (header_length_place r.header.start r.header.width r.header.version))
        ≡ sizes_size r.header.version
    front_size = front_whole ∙ omega (arith, at)

    front_clear : Clear g.cells (r.header.start + length_size r.header.width) (header_length_place r.header.start r.header.width r.header.version)
    front_clear =
        clear-part g.cells r.header.start r.header.lists (r.header.start + length_size r.header.width) (header_length_place r.header.start r.header.width r.header.version) clear.front
        (omega arith) (omega (arith, behind))

    go : (first front number header : List Cell)
        → header ≡ changed_cells g.cells (first_place r.header.version (r.header.start + length_size r.header.width) r.header.width) r.header.program
        (texts_cells g m places r.header.width (table_read g r).texts)
        → length first ≡ length_size r.header.width
        → ((i : ℕ) (q : Relocation) → i < length first → relocation_at first i ≡ Some q → i + reach_of q ≤ length first)
        → length number ≡ width_size r.header.width
        → ((i : ℕ) (q : Relocation) → i < length number → relocation_at number i ≡ Some q → i + reach_of q ≤ length number)
        → length front ≡ sizes_size r.header.version
        → ((i : ℕ) (q : Relocation) → i < length front → relocation_at front i ≡ Some q → i + reach_of q ≤ length front)
        → drop start cells ≡ (first ++ ((front ++ (number ++ header)) ++ cells_part g.cells r.header.program r.header.end)) ++ more
        → CellRest g.cells cells r.header.program (texts_cells g m places r.header.width (table_read g r).texts) (cells_part g.cells r.header.program r.header.end ++ more)
        (first_place r.header.version (r.header.start + length_size r.header.width) r.header.width) (first_place r.header.version (start + length_size r.header.width) r.header.width)
    go first front number header header_is first_size first_none number_size number_none front_size front_none is =
        let lp = length-place r.header.version (start + length_size r.header.width) in
        let s1 : drop start cells ≡ first ++ (front ++ (number ++ (header ++ (cells_part g.cells r.header.program r.header.end ++ more)))) =
        is ∙ append_assoc first ((front ++ (number ++ header)) ++ cells_part g.cells r.header.program r.header.end) more
        ∙ ap (λ (xs : List Cell). first ++ xs)
        (append_assoc (front ++ (number ++ header)) (cells_part g.cells r.header.program r.header.end) more
        ∙ append_assoc front (number ++ header) (cells_part g.cells r.header.program r.header.end ++ more)
        ∙ ap (λ (xs : List Cell). front ++ xs) (append_assoc number header (cells_part g.cells r.header.program r.header.end ++ more))) in
        let s2 = stand-behind cells first (front ++ (number ++ (header ++ (cells_part g.cells r.header.program r.header.end ++ more)))) start s1 in
        let s3 = stand-behind cells front (number ++ (header ++ (cells_part g.cells r.header.program r.header.end ++ more))) (start + length first) s2 in
        let s4 = stand-behind cells number (header ++ (cells_part g.cells r.header.program r.header.end ++ more)) (start + length first + length front) s3 in
        let i2 = stand-inside cells first (front ++ (number ++ (header ++ (cells_part g.cells r.header.program r.header.end ++ more)))) start begin s1 in
        let i3 = stand-inside cells front (number ++ (header ++ (cells_part g.cells r.header.program r.header.end ++ more))) (start + length first) i2 s2 in
        let i4 = stand-inside cells number (header ++ (cells_part g.cells r.header.program r.header.end ++ more)) (start + length first + length front) i3 s3 in
        let o2 = over-there cells first (front ++ (number ++ (header ++ (cells_part g.cells r.header.program r.header.end ++ more)))) start s1 over first_none in
        let o3 = over-there cells front (number ++ (header ++ (cells_part g.cells r.header.program r.header.end ++ more))) (start + length first) s2 o2 front_none in
        let o4 = over-there cells number (header ++ (cells_part g.cells r.header.program r.header.end ++ more)) (start + length first + length front) s3 o3 number_none in
        let place : start + length first + length front + length number ≡ first_place r.header.version (start + length_size r.header.width) r.header.width =
        omega (arith, first_size, front_size, number_size, lp) in
        record {
          within = omega (arith, program, end);
          there = subst (λ (i : ℕ). i ≤ length cells) place i4;
          is = ap (λ (i : ℕ). drop i cells) (sym place) ∙ s4 ∙ ap (λ (xs : List Cell). xs ++ (cells_part g.cells r.header.program r.header.end ++ more)) header_is;
          over = subst (NoneOver cells) place o4;
        }

-- none begins in front of that
pub laid-clear : (g : LineSource) (m : PathMap) (places : LineText → Option ℕ) (p : ℕ) (r : LineReading) (cells more : List Cell) (start : ℕ) → ReadsTable g p r → TableClear g r
    → r.header.program ≤ r.header.end → r.header.end ≤ length g.cells → r.header.lists ≤ r.header.program
    → drop start cells ≡ table_cells_by_texts g m places (table_read g r) ++ more
    → Clear cells start (first_place r.header.version (start + length_size r.header.width) r.header.width)
unfolding table_cells_by_texts cells_by_texts
laid-clear g m places p r cells more start reads clear program end lists_in is =
    go (plain_cells (length_bytes g.order r.header.width (length (rest_cells g (table_read g r) (cells_by_texts g m places (table_read g r))))))
    (cells_part g.cells (r.header.start + length_size r.header.width) (header_length_place r.header.start r.header.width r.header.version))
    (plain_cells (number_bytes g.order (width_size r.header.width) (length (cells_by_texts g m places (table_read g r)))))
    (changed_cells g.cells (first_place r.header.version (r.header.start + length_size r.header.width) r.header.width) r.header.program
    (texts_cells g m places r.header.width (table_read g r).texts))
    (plain-size (length_bytes g.order r.header.width (length (rest_cells g (table_read g r) (cells_by_texts g m places (table_read g r)))))
    ∙ length-bytes g.order r.header.width (length (rest_cells g (table_read g r) (cells_by_texts g m places (table_read g r)))))
    (λ i lt. relocation_at-plain (plain_cells (length_bytes g.order r.header.width (length (rest_cells g (table_read g r) (cells_by_texts g m places (table_read g r)))))) i
    (plain_cells-plain (length_bytes g.order r.header.width (length (rest_cells g (table_read g r) (cells_by_texts g m places (table_read g r)))))))
    (plain-size (number_bytes g.order (width_size r.header.width) (length (cells_by_texts g m places (table_read g r))))
    ∙ length-number_bytes g.order (width_size r.header.width) (length (cells_by_texts g m places (table_read g r))))
    (λ i lt. relocation_at-plain (plain_cells (number_bytes g.order (width_size r.header.width) (length (cells_by_texts g m places (table_read g r))))) i
    (plain_cells-plain (number_bytes g.order (width_size r.header.width) (length (cells_by_texts g m places (table_read g r))))))
    front_size
    (λ i lt. relocation-taken (drop (r.header.start + length_size r.header.width) g.cells)
    (header_length_place r.header.start r.header.width r.header.version - (r.header.start + length_size r.header.width)) i (omega (arith, lt, front_whole))
    ∙ relocation-behind g.cells (r.header.start + length_size r.header.width) i
    ∙ front_clear.none (r.header.start + length_size r.header.width + i) (omega arith) (omega (arith, lt, front_whole))) is
  where
    at : header_length_place r.header.start r.header.width r.header.version ≡ r.header.start + length_size r.header.width + sizes_size r.header.version
    at = length-place r.header.version (r.header.start + length_size r.header.width)

    behind : header_length_place r.header.start r.header.width r.header.version + width_size r.header.width ≤ r.header.lists
    behind = header-lists g p r reads

    front_whole : length (cells_part g.cells (r.header.start + length_size r.header.width) (header_length_place r.header.start r.header.width r.header.version))
        ≡ header_length_place r.header.start r.header.width r.header.version - (r.header.start + length_size r.header.width)
    front_whole =
        part-size g.cells (r.header.start + length_size r.header.width) (header_length_place r.header.start r.header.width r.header.version) (omega (arith, at))
        (omega (arith, behind, lists_in, program, end))

    front_size : length (cells_part g.cells (r.header.start + length_size r.header.width) (header_length_place r.header.start r.header.width r.header.version))
        ≡ sizes_size r.header.version
    front_size = front_whole ∙ omega (arith, at)

    front_clear : Clear g.cells (r.header.start + length_size r.header.width) (header_length_place r.header.start r.header.width r.header.version)
    front_clear =
        clear-part g.cells r.header.start r.header.lists (r.header.start + length_size r.header.width) (header_length_place r.header.start r.header.width r.header.version) clear.front
        (omega arith) (omega (arith, behind))

    go : (first front number header : List Cell) → length first ≡ length_size r.header.width → ((i : ℕ) → i < length first → relocation_at first i ≡ None)
        → length number ≡ width_size r.header.width → ((i : ℕ) → i < length number → relocation_at number i ≡ None)
        → length front ≡ sizes_size r.header.version → ((i : ℕ) → i < length front → relocation_at front i ≡ None)
        → drop start cells ≡ (first ++ ((front ++ (number ++ header)) ++ cells_part g.cells r.header.program r.header.end)) ++ more
        → Clear cells start (first_place r.header.version (start + length_size r.header.width) r.header.width)
    go first front number header first_size first_none number_size number_none front_size front_none is =
        let lp = length-place r.header.version (start + length_size r.header.width) in
        let s1 : drop start cells ≡ first ++ (front ++ (number ++ (header ++ (cells_part g.cells r.header.program r.header.end ++ more)))) =
        is ∙ append_assoc first ((front ++ (number ++ header)) ++ cells_part g.cells r.header.program r.header.end) more
        ∙ ap (λ (xs : List Cell). first ++ xs)
        (append_assoc (front ++ (number ++ header)) (cells_part g.cells r.header.program r.header.end) more
        ∙ append_assoc front (number ++ header) (cells_part g.cells r.header.program r.header.end ++ more)
        ∙ ap (λ (xs : List Cell). front ++ xs) (append_assoc number header (cells_part g.cells r.header.program r.header.end ++ more))) in
        let s2 = stand-behind cells first (front ++ (number ++ (header ++ (cells_part g.cells r.header.program r.header.end ++ more)))) start s1 in
        let s3 = stand-behind cells front (number ++ (header ++ (cells_part g.cells r.header.program r.header.end ++ more))) (start + length first) s2 in
        let c1 = front-clear cells first (front ++ (number ++ (header ++ (cells_part g.cells r.header.program r.header.end ++ more)))) start s1 first_none in
        let c2 = front-clear cells front (number ++ (header ++ (cells_part g.cells r.header.program r.header.end ++ more))) (start + length first) s2 front_none in
        let c3 = front-clear cells number (header ++ (cells_part g.cells r.header.program r.header.end ++ more)) (start + length first + length front) s3 number_none in
        let place : start + length first + length front + length number ≡ first_place r.header.version (start + length_size r.header.width) r.header.width =
        omega (arith, first_size, front_size, number_size, lp) in
        subst (Clear cells start) place
        (clear-join cells start (start + length first) (start + length first + length front + length number) c1
        (clear-join cells (start + length first) (start + length first + length front) (start + length first + length front + length number) c2 c3))

-- behind the lists: the cells between them and the program, the program, and that none reaches over the end
pub record CellsEnd (g : LineSource) (cells : List Cell) (behind program end new_behind new_program new_end : ℕ) : Type 0 where
  pub gap : cells_part (take new_end cells) new_behind new_program ≡ cells_part (take end g.cells) behind program
  pub program_is : drop new_program (take new_end cells) ≡ drop program (take end g.cells)
  pub over : NoneOver g.cells end → NoneOver cells new_end
  pub same : (i : ℕ) → i < end - behind → relocation_at cells (new_behind + i) ≡ relocation_at g.cells (behind + i)

-- a part of cells that are cut behind it
cut-part : (cells : List Cell) (e a b : ℕ) → a ≤ b → b ≤ e → cells_part (take e cells) a b ≡ cells_part cells a b
cut-part cells e a b ab le =
    let split : a + (e - a) ≡ e = omega (arith, ab, le) in
    ap (λ (n : ℕ). take (b - a) (drop a (take n cells))) (sym split) ∙ ap (take (b - a)) (drop-take a (e - a) cells)
    ∙ take-take (b - a) (e - a) (drop a cells) (omega (arith, ab, le))

pub cells-end : (g : LineSource) (cells more : List Cell) (behind program end new_behind new_program new_end : ℕ)
    → CellRest g.cells cells program [] (cells_part g.cells program end ++ more) behind new_behind → behind ≤ program → program ≤ end → end ≤ length g.cells
    → new_program ≡ new_behind + (program - behind) → new_end ≡ new_program + (end - program) → CellsEnd g cells behind program end new_behind new_program new_end
cells-end g cells more behind program end new_behind new_program new_end h a b c program_at end_at =
    let gap_size : length (cells_part g.cells behind program) ≡ program - behind = part-size g.cells behind program a (omega (arith, b, c)) in
    let program_size : length (cells_part g.cells program end) ≡ end - program = part-size g.cells program end b c in
    let whole_size : length (cells_part g.cells behind end) ≡ end - behind = part-size g.cells behind end (omega (arith, a, b)) c in
    let width : new_program - new_behind ≡ length (cells_part g.cells behind program) = omega (arith, gap_size, program_at) in
    let at_program : drop new_program cells ≡ cells_part g.cells program end ++ more =
    ap (λ (i : ℕ). drop i cells) (omega (arith, gap_size, program_at)) ∙ stand-behind cells (cells_part g.cells behind program) (cells_part g.cells program end ++ more) new_behind h.is in
    let end_split : new_end ≡ new_program + length (cells_part g.cells program end) = omega (arith, program_size, end_at) in
    let own_split : program + (end - program) ≡ end = omega (arith, b) in
    let whole : drop new_behind cells ≡ cells_part g.cells behind end ++ more =
    h.is ∙ sym (append_assoc (cells_part g.cells behind program) (cells_part g.cells program end) more)
    ∙ ap (λ (xs : List Cell). xs ++ more) (sym (cells-split g.cells behind program end a b)) in
    let last : new_behind + length (cells_part g.cells behind end) ≡ new_end = omega (arith, whole_size, program_at, end_at, a, b) in
    record {
      gap = cut-part cells new_end new_behind new_program (omega (arith, program_at)) (omega (arith, end_at))
          ∙ ap (λ (n : ℕ). take n (drop new_behind cells)) width ∙ ap (take (length (cells_part g.cells behind program))) h.is
          ∙ take-front (cells_part g.cells behind program) (cells_part g.cells program end ++ more) ∙ sym (cut-part g.cells end behind program a b);
      program_is = ap (λ (n : ℕ). drop new_program (take n cells)) end_split ∙ drop-take new_program (length (cells_part g.cells program end)) cells
          ∙ ap (take (length (cells_part g.cells program end))) at_program ∙ take-front (cells_part g.cells program end) more
          ∙ sym (ap (λ (n : ℕ). drop program (take n g.cells)) (sym own_split) ∙ drop-take program (end - program) g.cells);
      over = λ k. subst (NoneOver cells) last (over-there cells (cells_part g.cells behind end) more new_behind whole h.over (λ i r lt e. inside k i r lt e whole_size));
      same = λ i lt.
          sym (relocation-behind cells new_behind i) ∙ ap (λ (xs : List Cell). relocation_at xs i) whole
          ∙ relocation-front (cells_part g.cells behind end) more i (omega (arith, lt, whole_size)) ∙ relocation-taken (drop behind g.cells) (end - behind) i lt
          ∙ relocation-behind g.cells behind i;
    }
  where
    inside : NoneOver g.cells end → (i : ℕ) (r : Relocation) → i < length (cells_part g.cells behind end) → relocation_at (cells_part g.cells behind end) i ≡ Some r
        → length (cells_part g.cells behind end) ≡ end - behind → i + reach_of r ≤ length (cells_part g.cells behind end)
    inside k i r lt e size =
        let lies : i < end - behind = omega (arith, lt, size) in
        let begins : relocation_at g.cells (behind + i) ≡ Some r = sym (relocation-behind g.cells behind i) ∙ sym (relocation-taken (drop behind g.cells) (end - behind) i lies) ∙ e in
        let ends = k.ends (behind + i) r begins (omega (arith, lies)) in
        omega (arith, ends, size, lies)
