-- The program of a generated line table is whole opcodes, none of which defines a file: an address, special opcodes, and the end of the sequence.
use Rattle.std.proofs.Common.{◌≡◌, ℕ, zero, suc, ◌+◌, ◌-◌, ◌*◌, ◌^◌, ◌<◌, ◌≤◌, nat_lt, true, List, [], ◌∷◌, ◌++◌, length, take, slice_index, replicate, Some, None, refl, ap, ◌∙◌, arith}
use Rattle.std.proofs.lemmas.Bool.{le-leb, lt-ltb, le-ltb, ne_eqb}
use Rattle.std.proofs.lemmas.List.{length-append, length-replicate, length-take-le}
use Rattle.dw_base.specs.Lebs.{uleb_at}
use Rattle.dw_base.specs.LinePrograms.{extended_at, extended_in, extended_operands, if_ranged, opcode_at}
use Rattle.dw_base.specs.Numbers.{number_bytes}
use Rattle.dw_base.specs.declared.line_numbers.TheConstants.{DW_LNE_end_sequence, DW_LNE_set_address}
use Rattle.dw_base.specs.declared.line_tables.LineHeader.{LineHeader}
use Rattle.dw_base.specs.declared.shared.Order.TheVariants.{Little}
use Rattle.dw_base.proofs.ContributionBackLaws.{StandsAt}
use Rattle.dw_base.proofs.NumberLaws.{length-number_bytes}
use Rattle.dw_meaning.proofs.LineReadLaws.{uleb-both}
use Rattle.dw_meaning.proofs.LineWalkLaws.{Opcodes, one_opcode, program_over}
use Rattle.dbg_gen.specs.GeneratedLines.{line_program}
use Rattle.gen_laws.proofs.StandLaws.{byte-there, stands-at, stands-first, stands-second}

-- a special opcode
special-at : (number : ℕ) (h : LineHeader) (table : List ℕ) (p : ℕ) → h.opcode_base ≡ 13 → h.line_range ≡ 14 → slice_index table p ≡ 33
    → opcode_at number h table p ≡ Some (record { next = p + 1; file = None })
unfolding opcode_at if_ranged
special-at number h table p base range byte = rw (byte, base, range) refl

-- an extended opcode of so many bytes whose code has operands that define no file
extended-there : (number : ℕ) (h : LineHeader) (table : List ℕ) (p size code : ℕ) → h.opcode_base ≡ 13 → slice_index table p ≡ 0 → uleb_at table (p + 1) ≡ Some (suc size, 1)
    → p + 1 + 1 + suc size ≤ length table → slice_index table (p + 1 + 1) ≡ code
    → extended_operands number (take (p + 1 + 1 + suc size) table) code (p + 1 + 1 + 1) ≡ Some None
    → opcode_at number h table p ≡ Some (record { next = p + 1 + 1 + suc size; file = None })
unfolding opcode_at extended_at extended_in
extended-there number h table p size code base first long inside byte operands =
    rw (first, base, long, ne_eqb (suc size) 0 (λ e. omega (arith, e)), le-leb (p + 1 + 1 + suc size) (length table) inside, byte, operands) refl

address-operands : (number : ℕ) (body : List ℕ) (place : ℕ) → length body ≡ place + 8 → extended_operands number body 2 place ≡ Some None
unfolding extended_operands
address-operands number body place size =
    let eight : length body - place ≡ 8 = omega (arith, size) in
    rw eight refl

end-operands : (number : ℕ) (body : List ℕ) (place : ℕ) → extended_operands number body 1 place ≡ Some None
unfolding extended_operands
end-operands number body place = refl

short-number : (n : ℕ) → nat_lt n 128 ≡ true → uleb_at (n ∷ []) 0 ≡ Some (n, 1)
unfolding uleb_at
short-number n small = rw (small, lt-ltb n (2 ^ 64) (omega (arith, small-of n small))) refl
  where
    small-of : (n : ℕ) → nat_lt n 128 ≡ true → n < 128
    small-of n e = grind arith

byte-number : (table : List ℕ) (p n : ℕ) → StandsAt table (n ∷ []) p → nat_lt n 128 ≡ true → uleb_at table p ≡ Some (n, 1)
byte-number table p n h small =
    uleb-both (n ∷ []) table (n ∷ []) 0 p n 1 (record { was = record { behind = []; is = refl; inside = omega arith }; is = h }) (short-number n small) (omega arith)

-- the end of the sequence, and of the program
end-there : (number : ℕ) (h : LineHeader) (table : List ℕ) (p : ℕ) → h.opcode_base ≡ 13 → StandsAt table (0 ∷ 1 ∷ DW_LNE_end_sequence ∷ []) p → p + 3 ≡ length table
    → Opcodes number h table p []
end-there number h table p base stands ends =
    let byte : slice_index table p ≡ 0 = ap (slice_index table) (zero-right p) ∙ byte-there table (0 ∷ 1 ∷ DW_LNE_end_sequence ∷ []) p 0 stands (omega arith) in
    let code : slice_index table (p + 1 + 1) ≡ 1 = ap (slice_index table) (two p) ∙ byte-there table (0 ∷ 1 ∷ DW_LNE_end_sequence ∷ []) p 2 stands (omega arith) in
    let size = byte-number table (p + 1) 1 (stands-first table (1 ∷ []) (DW_LNE_end_sequence ∷ []) (p + 1) (stands-second table (0 ∷ []) (1 ∷ DW_LNE_end_sequence ∷ []) p stands)) refl in
    one_opcode p (record { next = p + 1 + 1 + 1; file = None }) [] (lt-ltb p (length table) (omega (arith, ends)))
    (extended-there number h table p 0 1 base byte size (omega (arith, ends)) code (end-operands number (take (p + 1 + 1 + 1) table) (p + 1 + 1 + 1)))
    (program_over (p + 1 + 1 + 1) (le-ltb (p + 1 + 1 + 1) (length table) (omega (arith, ends))))
  where
    zero-right : (p : ℕ) → p ≡ p + 0
    zero-right p = omega arith

    two : (p : ℕ) → p + 1 + 1 ≡ p + 2
    two p = omega arith

-- special opcodes in front of it
specials-there : (number : ℕ) (h : LineHeader) (table : List ℕ) (count p : ℕ) → h.opcode_base ≡ 13 → h.line_range ≡ 14
    → StandsAt table (replicate count 33 ++ (0 ∷ 1 ∷ DW_LNE_end_sequence ∷ [])) p → p + count + 3 ≡ length table → Opcodes number h table p []
specials-there number h table zero p base range stands ends = end-there number h table p base stands (omega (arith, ends))
specials-there number h table (suc count) p base range stands ends =
    let byte : slice_index table p ≡ 33 = ap (slice_index table) (zero-right p) ∙ byte-there table (replicate (suc count) 33 ++ (0 ∷ 1 ∷ DW_LNE_end_sequence ∷ [])) p 0 stands (omega arith) in
    one_opcode p (record { next = p + 1; file = None }) [] (lt-ltb p (length table) (omega (arith, ends)))
    (special-at number h table p base range byte)
    (specials-there number h table count (p + 1) base range
    (stands-second table (33 ∷ []) (replicate count 33 ++ (0 ∷ 1 ∷ DW_LNE_end_sequence ∷ [])) p stands) (omega (arith, ends)))
  where
    zero-right : (p : ℕ) → p ≡ p + 0
    zero-right p = omega arith

-- the whole program
pub program-there : (number : ℕ) (h : LineHeader) (table : List ℕ) (unit count p : ℕ) → h.opcode_base ≡ 13 → h.line_range ≡ 14
    → StandsAt table (line_program unit count) p → p + length (line_program unit count) ≡ length table → Opcodes number h table p []
unfolding line_program
program-there number h table unit count p base range stands ends =
    let address : List ℕ = number_bytes Little 8 (4096 * (unit + 1)) in
    let rest : List ℕ = replicate count 33 ++ (0 ∷ 1 ∷ DW_LNE_end_sequence ∷ []) in
    let eight : length address ≡ 8 = length-number_bytes Little 8 (4096 * (unit + 1)) in
    let rows : length {A = ℕ} (replicate count 33) ≡ count = length-replicate {A = ℕ} count 33 in
    let tail = length-append (replicate count 33) (0 ∷ 1 ∷ DW_LNE_end_sequence ∷ []) in
    let all = length-append address rest in
    let byte : slice_index table p ≡ 0 = ap (slice_index table) (zero-right p) ∙ byte-there table (0 ∷ 9 ∷ DW_LNE_set_address ∷ (address ++ rest)) p 0 stands (omega arith) in
    let code : slice_index table (p + 1 + 1) ≡ 2 = ap (slice_index table) (two p) ∙ byte-there table (0 ∷ 9 ∷ DW_LNE_set_address ∷ (address ++ rest)) p 2 stands (omega arith) in
    let size = byte-number table (p + 1) 9 (stands-first table (9 ∷ []) (DW_LNE_set_address ∷ (address ++ rest)) (p + 1) (stands-second table (0 ∷ []) (9 ∷ DW_LNE_set_address ∷ (address ++ rest)) p stands)) refl in
    let behind : StandsAt table rest (p + 1 + 1 + 9) =
    stands-at _ _ _ (p + 1 + 1 + 9) (stands-second table address rest (p + 3) (stands-second table (0 ∷ 9 ∷ DW_LNE_set_address ∷ []) (address ++ rest) p stands)) (omega (arith, eight)) in
    let inside : p + 1 + 1 + 9 ≤ length table = omega (arith, ends, eight, rows, tail, all) in
    one_opcode p (record { next = p + 1 + 1 + 9; file = None }) [] (lt-ltb p (length table) (omega (arith, inside)))
    (extended-there number h table p 8 2 base byte size inside code
    (address-operands number (take (p + 1 + 1 + 9) table) (p + 1 + 1 + 1) (length-take-le (p + 1 + 1 + 9) table inside ∙ omega arith)))
    (specials-there number h table count (p + 1 + 1 + 9) base range behind (omega (arith, ends, eight, rows, tail, all)))
  where
    zero-right : (p : ℕ) → p ≡ p + 0
    zero-right p = omega arith

    two : (p : ℕ) → p + 1 + 1 ≡ p + 2
    two p = omega arith
