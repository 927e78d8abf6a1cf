-- The header of a generated line table reads, wherever the table stands in its section.
use Rattle.std.proofs.Common.{◌≡◌, ℕ, ◌+◌, ◌^◌, ◌<◌, ◌≤◌, true, List, [], ◌∷◌, ◌++◌, length, take, slice_index, Some, refl, sym, ap, ◌∙◌, arith, subst}
use Rattle.std.specs.Int.{w8, cast_signed}
use Rattle.std.proofs.lemmas.Bool.{le-leb}
use Rattle.std.proofs.lemmas.List.{append_assoc, append-nil, length-append, take_at}
use Rattle.dw_base.specs.LineHeaders.{flags_place, header_with, has_standard_operands, is_header, length_place, standard_operands}
use Rattle.dw_base.specs.Numbers.{number_at, number_bytes, spelled}
use Rattle.dw_base.specs.declared.line_tables.LineHeader.{LineHeader}
use Rattle.dw_base.specs.declared.shared.Order.TheVariants.{Little}
use Rattle.dw_base.specs.declared.shared.Width.TheVariants.{W32}
use Rattle.dw_base.proofs.ContributionBackLaws.{StandsAt, spelled-there}
use Rattle.dw_base.proofs.NumberLaws.{length-number_bytes, spelled-number_bytes}
use Rattle.dw_meaning.proofs.LineHeaderLaws.{HeaderIs, written-length}
use Rattle.dw_meaning.proofs.LineReadLaws.{first-stand}
use Rattle.dbg_gen.specs.GeneratedLines.{line_header as generated_header, line_lists, line_numbers, table_of}
use Rattle.dbg_gen.proofs.SizeLaws.{length-table_of}
use Rattle.gen_laws.proofs.StandLaws.{byte-there, stands-at, stands-first, stands-in, stands-second}

-- the header of a table that starts at a place, whose header has so many bytes behind its length, and its program so many
abbrev pub head_at : ℕ → ℕ → ℕ → LineHeader
head_at start header program = record {
  start = start;
  end = start + 4 + (6 + (header + program));
  version = 4;
  width = W32;
  address = 0;
  program = start + 4 + 2 + 4 + header;
  min_length = 1;
  max_ops = 1;
  default_stmt = true;
  line_base = cast_signed w8 251;
  line_range = 14;
  opcode_base = 13;
  operands = start + 4 + 2 + 4 + 2 + 4;
  lists = start + 4 + 2 + 4 + 2 + 4 + 12;
}

-- a section with a table in it, and its bytes up to the table's end
pub record TableStands (bs front : List ℕ) (unit : ℕ) (program rest : List ℕ) : Type 0 where
  pub is : bs ≡ front ++ (table_of (generated_header unit) program ++ rest)

abbrev pub up_to : List ℕ → ℕ → List ℕ → List ℕ
up_to front unit program = front ++ table_of (generated_header unit) program

-- what stands in the table
pub record TableParts (table : List ℕ) (start unit : ℕ) (program : List ℕ) : Type 0 where
  pub version : StandsAt table (4 ∷ 0 ∷ []) (start + 4)
  pub length_there : StandsAt table (number_bytes Little 4 (length (generated_header unit))) (start + 4 + 2)
  pub header : StandsAt table (generated_header unit) (start + 4 + 2 + 4)
  pub program_there : StandsAt table program (start + 4 + 2 + 4 + length (generated_header unit))

pub table-parts : (front : List ℕ) (unit : ℕ) (program : List ℕ) → TableParts (up_to front unit program) (length front) unit program
unfolding table_of
table-parts front unit program =
    let header : List ℕ = generated_header unit in
    let size : List ℕ = number_bytes Little 4 (6 + (length header + length program)) in
    let inner : List ℕ = number_bytes Little 4 (length header) in
    let four : length size ≡ 4 = length-number_bytes Little 4 (6 + (length header + length program)) in
    let four_inner : length inner ≡ 4 = length-number_bytes Little 4 (length header) in
    let none = append-nil (table_of header program) in
    let whole : StandsAt (up_to front unit program) (size ++ ((4 ∷ 0 ∷ []) ++ (inner ++ (header ++ program)))) (length front) =
    subst (λ (xs : List ℕ). StandsAt (front ++ xs) (table_of header program) (length front)) none (stands-in front (table_of header program) []) in
    let behind = stands-at _ _ _ (length front + 4) (stands-second _ size ((4 ∷ 0 ∷ []) ++ (inner ++ (header ++ program))) (length front) whole) (omega (arith, four)) in
    let lengths = stands-second _ (4 ∷ 0 ∷ []) (inner ++ (header ++ program)) (length front + 4) behind in
    let rest = stands-at _ _ _ (length front + 4 + 2 + 4) (stands-second _ inner (header ++ program) (length front + 4 + 2) lengths) (omega (arith, four_inner)) in
    record {
      version = stands-first _ (4 ∷ 0 ∷ []) (inner ++ (header ++ program)) (length front + 4) behind;
      length_there = stands-first _ inner (header ++ program) (length front + 4 + 2) lengths;
      header = stands-first _ header program (length front + 4 + 2 + 4) rest;
      program_there = stands-second _ header program (length front + 4 + 2 + 4) rest;
    }

-- a number of the header
number-there : (table : List ℕ) (start unit k n : ℕ) → StandsAt table (generated_header unit) (start + 4 + 2 + 4) → k < length (generated_header unit) → slice_index (generated_header unit) k ≡ n
    → (place : ℕ) → place ≡ start + 4 + 2 + 4 + k → slice_index table place ≡ n
number-there table start unit k n h lt is place at =
    ap (slice_index table) at ∙ byte-there table (generated_header unit) (start + 4 + 2 + 4) k h lt ∙ is

long-header : (unit : ℕ) → 18 ≤ length (generated_header unit)
unfolding generated_header
long-header unit = omega (arith, length-append line_numbers (line_lists unit))

-- its operand counts are the standard's
operands-there : (table : List ℕ) (start unit program : ℕ) → StandsAt table (generated_header unit) (start + 4 + 2 + 4)
    → has_standard_operands table (head_at start (length (generated_header unit)) program) ≡ true
unfolding generated_header has_standard_operands
operands-there table start unit program h =
    let behind = stands-at _ _ _ (start + 4 + 2 + 4 + 2 + 4) (stands-second table (1 ∷ 1 ∷ 1 ∷ 251 ∷ 14 ∷ 13 ∷ []) (standard_operands ++ line_lists unit) (start + 4 + 2 + 4) h) (omega arith) in
    rw (first-stand table (standard_operands ++ line_lists unit) (start + 4 + 2 + 4 + 2 + 4) 12 behind (omega (arith, length-append standard_operands (line_lists unit)))) refl

first-number : (bs front rest header program : List ℕ) → bs ≡ front ++ (table_of header program ++ rest)
    → StandsAt bs (number_bytes Little 4 (6 + (length header + length program))) (length front)
unfolding table_of
first-number bs front rest header program is =
    stands-first bs (number_bytes Little 4 (6 + (length header + length program))) ((4 ∷ 0 ∷ []) ++ (number_bytes Little 4 (length header) ++ (header ++ program))) (length front)
    (subst (λ (xs : List ℕ). StandsAt xs (table_of header program) (length front)) (sym is) (stands-in front (table_of header program) rest))

header-length : (table : List ℕ) (start unit : ℕ) → StandsAt table (number_bytes Little 4 (length (generated_header unit))) (start + 4 + 2) → length (generated_header unit) < 2 ^ 32
    → spelled Little table (start + 4 + 2) 4 ≡ length (generated_header unit)
header-length table start unit h small =
    let n = length (generated_header unit) in
    let four = length-number_bytes Little 4 n in
    ap (λ (i : ℕ). spelled Little table i 4) (omega arith) ∙ spelled-there Little table (number_bytes Little 4 n) (start + 4 + 2) 0 4 h (omega (arith, four))
    ∙ ap (λ (ys : List ℕ). spelled Little ys 0 4) (sym (append-nil (number_bytes Little 4 n))) ∙ spelled-number_bytes Little 4 n [] (omega arith)

version-there : (table : List ℕ) (start : ℕ) → StandsAt table (4 ∷ 0 ∷ []) (start + 4) → spelled Little table (start + 4) 2 ≡ 4
unfolding spelled
version-there table start h =
    ap (λ (i : ℕ). spelled Little table i 2) (omega arith) ∙ spelled-there Little table (4 ∷ 0 ∷ []) (start + 4) 0 2 h (omega arith)

-- the numbers of the header
record HeaderNumbers (header : List ℕ) : Type 0 where
  pub min_length : slice_index header 0 ≡ 1
  pub max_ops : slice_index header 1 ≡ 1
  pub default_stmt : slice_index header 2 ≡ 1
  pub line_base : slice_index header 3 ≡ 251
  pub line_range : slice_index header 4 ≡ 14
  pub opcode_base : slice_index header 5 ≡ 13

header-numbers : (unit : ℕ) → HeaderNumbers (generated_header unit)
unfolding generated_header
header-numbers unit = record { min_length = refl; max_ops = refl; default_stmt = refl; line_base = refl; line_range = refl; opcode_base = refl }

pub header-is : (bs front rest program : List ℕ) (unit : ℕ) → bs ≡ front ++ (table_of (generated_header unit) program ++ rest) → length (generated_header unit) + length program < 2 ^ 31
    → HeaderIs Little bs (length front) (head_at (length front) (length (generated_header unit)) (length program))
unfolding number_at header_with is_header length_place flags_place
header-is bs front rest program unit is small =
    let start = length front in
    let header : List ℕ = generated_header unit in
    let table : List ℕ = up_to front unit program in
    let parts = table-parts front unit program in
    let size = length-table_of header program in
    let some = long-header unit in
    let numbers = header-numbers unit in
    let long = length-append front (table_of header program) in
    let whole = ap length is ∙ length-append front (table_of header program ++ rest) in
    let behind = length-append (table_of header program) rest in
    let cut : take (start + 4 + (6 + (length header + length program))) bs ≡ table =
    ap (take (start + 4 + (6 + (length header + length program)))) (is ∙ sym (append_assoc front (table_of header program) rest))
    ∙ take_at table rest (start + 4 + (6 + (length header + length program))) (omega (arith, long, size)) in
    let ends : length table ≡ start + 4 + (6 + (length header + length program)) = omega (arith, long, size) in
    let first : StandsAt bs (number_bytes Little 4 (6 + (length header + length program))) start = first-number bs front rest header program is in
    let header_length : spelled Little table (start + 4 + 2) 4 ≡ length header = header-length table start unit parts.length_there (omega arith) in
    record {
      count = 6 + (length header + length program);
      size = 4;
      length_is = written-length Little bs W32 (6 + (length header + length program)) start first (omega arith);
      within = omega (arith, whole, behind, size);
      end_is = refl;
      version_is = rw (cut, le-leb (start + 4 + 2) (length table) (omega (arith, long, size))) (ap Some (version-there table start parts.version));
      known = refl;
      flags = rw cut (omega (arith, long, size));
      program = rw (cut, header_length) (omega (arith, long, size));
      own = rw (cut, le-leb (start + 4 + 2 + 4 + 2 + 4 + 12) (start + 4 + (6 + (length header + length program))) (omega arith)) (operands-there table start unit (length program) parts.header);
      is = rw (
        cut,
        ends,
        header_length,
        number-there table start unit 0 1 parts.header (omega (arith, some)) numbers.min_length (start + 4 + 2 + 4) (omega arith),
        number-there table start unit 1 1 parts.header (omega (arith, some)) numbers.max_ops (start + 4 + 2 + 4 + 1) refl,
        number-there table start unit 2 1 parts.header (omega (arith, some)) numbers.default_stmt (start + 4 + 2 + 4 + 2) refl,
        number-there table start unit 3 251 parts.header (omega (arith, some)) numbers.line_base (start + 4 + 2 + 4 + 2 + 1) (omega arith),
        number-there table start unit 4 14 parts.header (omega (arith, some)) numbers.line_range (start + 4 + 2 + 4 + 2 + 2) (omega arith),
        number-there table start unit 5 13 parts.header (omega (arith, some)) numbers.opcode_base (start + 4 + 2 + 4 + 2 + 3) (omega arith),
      ) refl;
    }
