-- How long the parts of a generated file are at most.
use Rattle.std.proofs.Common.{◌≡◌, ℕ, zero, suc, ◌+◌, ◌-◌, ◌*◌, ◌%◌, ◌^◌, ◌<◌, ◌≤◌, ◌==◌, inl, inr, Bool, true, false, if◌then◌else◌, List, [], ◌∷◌, ◌++◌, length, slice_index, replicate, ap, ◌∙◌, arith}
use Rattle.std.specs.Prelude.{codes}
use Rattle.std.specs.Fmt.{decimal}
use Rattle.std.proofs.lemmas.Bool.{cases_Bool}
use Rattle.std.proofs.lemmas.Fmt.{length-decimal-le}
use Rattle.std.proofs.lemmas.List.{length-append, length-replicate}
use Rattle.dw_base.specs.Layout.{Part, extended, laid, laid_out, new_heads, output_limit, padding}
use Rattle.dw_base.specs.Lists.{tabulate}
use Rattle.dw_base.specs.Numbers.{number_bytes}
use Rattle.dw_base.specs.StringTables.{place_in, with_text}
use Rattle.dw_base.specs.Texts.{is_in, laid_texts}
use Rattle.dw_base.specs.declared.line_numbers.TheConstants.{DW_LNE_end_sequence}
use Rattle.dw_base.specs.declared.shared.Class.TheVariants.{C64}
use Rattle.dw_base.specs.declared.shared.Order.TheVariants.{Little}
use Rattle.dw_base.proofs.LayoutLaws.{laid-longer, length-new_heads, length-with_table}
use Rattle.dw_base.proofs.NumberLaws.{length-number_bytes}
use Rattle.dw_base.proofs.TextLaws.{laid_texts-append, laid_texts-push}
use Rattle.dw_base.proofs.WrittenSections.{moved-length}
use Rattle.dbg_gen.specs.Asked.{AreFew}
use Rattle.dbg_gen.specs.GeneratedFiles.{file_header, file_of_counts, file_with, parts_with}
use Rattle.dbg_gen.specs.GeneratedLines.{line_header, line_lists, line_numbers, line_program, line_table, lines_of, table_of}
use Rattle.dbg_gen.specs.GeneratedTexts.{chained, directory, each_once, mentions_of, texts_of, unit_name, unit_texts, variable_name}
use Rattle.dbg_gen.specs.GeneratedUnits.{text_offset, unit_bytes, unit_entries, unit_entry, unit_with, units_of, variable_entry}

-- what is chained is as long as its items together
pub length-chained : (f : ℕ → List ℕ) (k n : ℕ) → ((u : ℕ) → u < n → length (f u) ≤ k) → length (chained f n) ≤ n * k
length-chained f k zero each = omega arith
length-chained f k (suc n) each =
    let front = length-chained f k n (λ u lt. each u (omega arith)) in
    let last = each n (omega arith) in
    let both = length-append (chained f n) (f n) in
    grind arith

-- the same of texts with their NULs
laid-chained : (f : ℕ → List (List ℕ)) (k n : ℕ) → ((u : ℕ) → u < n → length (laid_texts (f u)) ≤ k) → length (laid_texts (chained f n)) ≤ n * k
laid-chained f k zero each = omega arith
laid-chained f k (suc n) each =
    let front = laid-chained f k n (λ u lt. each u (omega arith)) in
    let last = each n (omega arith) in
    let both = ap length (laid_texts-append (chained f n) (f n)) ∙ length-append (laid_texts (chained f n)) (laid_texts (f n)) in
    grind arith

laid-tabulated : (f : ℕ → List ℕ) (k n : ℕ) → ((i : ℕ) → i < n → suc (length (f i)) ≤ k) → length (laid_texts (tabulate f n)) ≤ n * k
laid-tabulated f k zero each = omega arith
laid-tabulated f k (suc n) each =
    let front = laid-tabulated f k n (λ i lt. each i (omega arith)) in
    let last = each n (omega arith) in
    let both = ap length (laid_texts-push (tabulate f n) (f n)) ∙ length-append (laid_texts (tabulate f n)) (f n ++ 0 ∷ []) in
    let text = length-append (f n) (0 ∷ []) in
    grind arith

-- names
length-decimal : (n : ℕ) → n < 2 ^ 32 → length (decimal n) ≤ 10
length-decimal n small = length-decimal-le 10 n (omega arith) (omega arith) (omega arith)

pub length-unit_name : (unit : ℕ) → unit < 2 ^ 32 → length (unit_name unit) ≤ 22
length-unit_name unit small =
    let digits = length-decimal unit small in
    let behind = length-append (decimal unit) (codes ".c") in
    omega (arith, length-append (codes "/build/p/u") (decimal unit ++ codes ".c"))

pub length-variable_name : (variable : ℕ) → variable < 2 ^ 32 → length (variable_name variable) ≤ 11
length-variable_name variable small =
    let digits = length-decimal variable small in
    omega (arith, length-append (codes "v") (decimal variable))

-- texts, each once, are no longer than all
pub once-cases : (ts : List (List ℕ)) (t : List ℕ) (test : Bool) → length (laid_texts (if test then ts else ts ++ t ∷ [])) ≤ length (laid_texts ts) + suc (length t)
once-cases ts t true = omega arith
once-cases ts t false =
    let both = ap length (laid_texts-push ts t) ∙ length-append (laid_texts ts) (t ++ 0 ∷ []) in
    omega (arith, length-append t (0 ∷ []))

length-once : (ts xs : List (List ℕ)) → length (laid_texts (each_once ts xs)) ≤ length (laid_texts ts) + length (laid_texts xs)
length-once ts [] = omega arith
length-once ts (x ∷ xs) =
    let rest = length-once (with_text ts x) xs in
    let one = once-cases ts x (is_in ts x) in
    omega (arith, length-append x (0 ∷ laid_texts xs))

length-unit_texts : (unit count : ℕ) → unit < 2 ^ 32 → count ≤ 16 → length (laid_texts (unit_texts unit count)) ≤ 224
length-unit_texts unit count small few =
    let name = length-unit_name unit small in
    let variables = laid-tabulated variable_name 12 count (λ i lt. let one = length-variable_name i (omega arith) in omega arith) in
    let behind = length-append directory (0 ∷ laid_texts (tabulate variable_name count)) in
    let all = length-append (unit_name unit) (0 ∷ (directory ++ 0 ∷ laid_texts (tabulate variable_name count))) in
    omega arith

pub length-texts_of : (counts : List ℕ) (units : ℕ) → units ≤ 10000 → AreFew counts → length (laid_texts (texts_of counts units)) ≤ units * 224
unfolding texts_of mentions_of
length-texts_of counts units small few =
    let once = length-once [] (mentions_of counts units) in
    let all = laid-chained (λ unit. unit_texts unit (slice_index counts unit)) 224 units (λ u lt. length-unit_texts u (slice_index counts u) (omega arith) (few.each u)) in
    omega arith

-- units
length-offset : (texts : List (List ℕ)) (t : List ℕ) → length (text_offset texts t) ≡ 4
length-offset texts t = length-number_bytes Little 4 (place_in texts t)

length-variable : (texts : List (List ℕ)) (i : ℕ) → length (variable_entry texts i) ≡ 5
length-variable texts i = omega (arith, length-offset texts (variable_name i))

pub length-unit_entry : (texts : List (List ℕ)) (unit lines : ℕ) → length (unit_entry texts unit lines) ≡ 13
length-unit_entry texts unit lines =
    let name = length-offset texts (unit_name unit) in
    let dir = length-offset texts directory in
    let table = length-number_bytes Little 4 lines in
    let behind = length-append (text_offset texts directory) (number_bytes Little 4 lines) in
    omega (arith, length-append (text_offset texts (unit_name unit)) (text_offset texts directory ++ number_bytes Little 4 lines))

pub length-unit_entries : (texts : List (List ℕ)) (unit count lines : ℕ) → length (unit_entries texts unit count lines) ≤ 14 + count * 5
unfolding unit_entries
length-unit_entries texts unit count lines =
    let front = length-unit_entry texts unit lines in
    let variables = length-chained (variable_entry texts) 5 count (λ i lt. let one = length-variable texts i in omega arith) in
    let behind = length-append (chained (variable_entry texts) count) (0 ∷ []) in
    omega (arith, length-append (unit_entry texts unit lines) (chained (variable_entry texts) count ++ 0 ∷ []))

pub length-unit_with : (entries : List ℕ) → length (unit_with entries) ≡ 11 + length entries
unfolding unit_with
length-unit_with entries =
    let size = length-number_bytes Little 4 (7 + length entries) in
    omega (arith, length-append (number_bytes Little 4 (7 + length entries)) (4 ∷ 0 ∷ 0 ∷ 0 ∷ 0 ∷ 0 ∷ 8 ∷ entries))

pub length-units_of : (texts : List (List ℕ)) (counts : List ℕ) (units : ℕ) → AreFew counts → length (units_of texts counts units) ≤ units * 105
unfolding units_of
length-units_of texts counts units few =
    length-chained (λ unit. unit_bytes texts unit (slice_index counts unit) (length (lines_of counts unit))) 105 units
    (λ u lt.
    let one = length-unit_with (unit_entries texts u (slice_index counts u) (length (lines_of counts u))) in
    let entries = length-unit_entries texts u (slice_index counts u) (length (lines_of counts u)) in
    let count = few.each u in
    grind arith)

-- line tables
length-line_lists : (unit : ℕ) → unit < 2 ^ 32 → length (line_lists unit) ≤ 32
length-line_lists unit small =
    let digits = length-decimal unit small in
    let behind = length-append (decimal unit) (codes ".c" ++ (0 ∷ 0 ∷ 0 ∷ 0 ∷ 0 ∷ [])) in
    omega (arith, length-append (codes "/build/p/inc") (0 ∷ 0 ∷ codes "u" ++ (decimal unit ++ (codes ".c" ++ (0 ∷ 0 ∷ 0 ∷ 0 ∷ 0 ∷ [])))))

pub length-line_header : (unit : ℕ) → unit < 2 ^ 32 → length (line_header unit) ≤ 50
unfolding line_header
length-line_header unit small =
    let lists = length-line_lists unit small in
    omega (arith, length-append line_numbers (line_lists unit))

pub length-line_program : (unit count : ℕ) → length (line_program unit count) ≡ 14 + count
unfolding line_program
length-line_program unit count =
    let address = length-number_bytes Little 8 (4096 * (unit + 1)) in
    let rows = length-replicate {A = ℕ} count 0x21 in
    let behind = length-append (replicate count 0x21) (0 ∷ 1 ∷ DW_LNE_end_sequence ∷ []) in
    omega (arith, length-append (number_bytes Little 8 (4096 * (unit + 1))) (replicate count 0x21 ++ (0 ∷ 1 ∷ DW_LNE_end_sequence ∷ [])))

pub length-table_of : (header program : List ℕ) → length (table_of header program) ≡ 10 + (length header + length program)
unfolding table_of
length-table_of header program =
    let size = length-number_bytes Little 4 (6 + (length header + length program)) in
    let inner = length-number_bytes Little 4 (length header) in
    let parts = length-append header program in
    let behind = length-append (number_bytes Little 4 (length header)) (header ++ program) in
    omega (arith, length-append (number_bytes Little 4 (6 + (length header + length program))) (4 ∷ 0 ∷ (number_bytes Little 4 (length header) ++ (header ++ program))))

pub length-lines_of : (counts : List ℕ) (units : ℕ) → units ≤ 10000 → AreFew counts → length (lines_of counts units) ≤ units * 90
unfolding lines_of
length-lines_of counts units small few =
    length-chained (λ unit. line_table unit (slice_index counts unit)) 90 units
    (λ u lt.
    let one = length-table_of (line_header u) (line_program u (slice_index counts u)) in
    let header = length-line_header u (omega arith) in
    let program = length-line_program u (slice_index counts u) in
    let count = few.each u in
    omega arith)

-- the file
padding-cases : (a r : ℕ) (none even : Bool) → (if none then 0 else (if even then 0 else a - r)) ≤ a
padding-cases a r true even = omega arith
padding-cases a r false true = omega arith
padding-cases a r false false = omega arith

padding-le : (n a : ℕ) → padding n a ≤ a
unfolding padding
padding-le n a = padding-cases a (n % a) (a == 0) (n % a == 0)

length-extended : (out : List ℕ) (p : Part) → length (extended out p) ≤ length out + (p.head.align + length p.body)
length-extended out p =
    elim (cases_Bool p.moves) [
      | inl moves ↦
          let long = moved-length out p moves in
          let zeros = padding-le (length out) p.head.align in
          omega arith
      | inr stays ↦ rw stays (omega arith)
    ]

-- how much room parts take at most: each its padding and its body
abbrev pub room : List Part → ℕ
room [] = 0
room (p ∷ ps) = p.head.align + length p.body + room ps

length-laid : (out : List ℕ) (ps : List Part) → length (laid out ps) ≤ length out + room ps
length-laid out [] = omega arith
length-laid out (p ∷ ps) =
    let rest = length-laid (extended out p) ps in
    let one = length-extended out p in
    omega arith

-- a file of a front and parts
pub length-laid_out : (front : List ℕ) (ps : List Part) → 64 ≤ length front → length (laid_out C64 Little front ps) ≤ length front + room ps + 8 + length ps * 64
unfolding laid_out
length-laid_out front ps header =
    let longer = laid-longer front ps in
    let behind = length-laid front ps in
    let heads = length-new_heads front ps in
    let zeros = padding-le (length (laid front ps)) 8 in
    let all = length-with_table C64 Little (laid front ps) (new_heads front ps) (omega arith) in
    omega arith

length-file_with : (units texts lines : List ℕ) → length (file_with units texts lines) ≤ length units + length texts + length lines + 540
unfolding file_with
length-file_with units texts lines = let all = length-laid_out file_header (parts_with units texts lines) (omega arith) in omega arith

-- so it is far within the limit
pub file-small : (counts : List ℕ) → length counts ≤ 10000 → AreFew counts → length (file_of_counts counts) ≤ output_limit
unfolding file_of_counts
file-small counts small few =
    let units = length counts in
    let info = length-units_of (texts_of counts units) counts units few in
    let texts = length-texts_of counts units small few in
    let lines = length-lines_of counts units small few in
    let file = length-file_with (units_of (texts_of counts units) counts units) (laid_texts (texts_of counts units)) (lines_of counts units) in
    omega arith

-- the same of bytes that are a header or a program
pub is_header-small : (header : List ℕ) (unit : ℕ) → header ≡ line_header unit → unit < 2 ^ 32 → length header ≤ 50
is_header-small header unit e small = let long = length-line_header unit small in omega (arith, ap length e)

pub is_program-small : (program : List ℕ) (unit count : ℕ) → program ≡ line_program unit count → count ≤ 16 → length program ≤ 30
is_program-small program unit count e few = let long = length-line_program unit count in omega (arith, ap length e)

pub ruleset line_sizes = (is_header-small, is_program-small)
