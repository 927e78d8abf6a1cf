-- An extended opcode that sets the discriminator to a number of one byte: it defines no file.
use Rattle.std.proofs.Common.{◌≡◌, ℕ, ◌+◌, ◌<◌, ◌≤◌, List, length, take, slice_index, Some, None, refl, ap, ◌∙◌, arith}
use Rattle.std.proofs.lemmas.List.{get_or-take, length-take-le}
use Rattle.dw_base.specs.Lebs.{uleb_at}
use Rattle.dw_base.specs.LinePrograms.{extended_at, extended_in, extended_operands, opcode_at}
use Rattle.dw_base.specs.declared.line_tables.LineHeader.{LineHeader}
use Rattle.dw_lines.specs.PlainOpcodes.{IsPlain}
use Rattle.dw_lines.proofs.PlainLaws.{at-most, more-than}
use Rattle.dw_lines.proofs.ShortLaws.{unsigned-one}

operand-read : (section : ℕ) (table : List ℕ) (place : ℕ) → place + 4 ≤ length table → slice_index table (place + 3) < 128
    → extended_operands section (take (place + 4) table) 4 (place + 3) ≡ Some None
unfolding extended_operands
operand-read section table place room low =
    let size = length-take-le (place + 4) table room in
    let byte : slice_index (take (place + 4) table) (place + 3) ≡ slice_index table (place + 3) = get_or-take (place + 4) table (place + 3) 0 (omega arith) in
    rw (unsigned-one (take (place + 4) table) (place + 3) (omega (arith, size)) (omega (arith, byte, low))) refl

extended-read : (section : ℕ) (table : List ℕ) (place : ℕ) → place + 4 ≤ length table → slice_index table (place + 2) ≡ 4 → slice_index table (place + 3) < 128
    → extended_in section table (place + 2) 2 ≡ Some (record { next = place + 4; file = None })
unfolding extended_in
extended-read section table place room code low =
    let behind : place + 2 + 2 ≡ place + 4 = omega arith in
    let operands : place + 2 + 1 ≡ place + 3 = omega arith in
    rw (behind, operands, at-most (place + 4) (length table) room, code, operand-read section table place room low) refl

size-read : (table : List ℕ) (place : ℕ) → place + 4 ≤ length table → slice_index table (place + 1) ≡ 2 → uleb_at table (place + 1) ≡ Some (2, 1)
size-read table place room two =
    unsigned-one table (place + 1) (omega (arith, room)) (omega (arith, two)) ∙ ap (λ (n : ℕ). Some (n, 1)) two

pub discriminator-plain : (h : LineHeader) (table : List ℕ) (place : ℕ) → slice_index table place ≡ 0 → 0 < h.opcode_base → place + 4 ≤ length table
    → slice_index table (place + 1) ≡ 2 → slice_index table (place + 2) ≡ 4 → slice_index table (place + 3) < 128 → IsPlain h table place (place + 4)
unfolding opcode_at extended_at
discriminator-plain h table place zero_here some room two code low =
    let first : place + 1 + 1 ≡ place + 2 = omega arith in
    record {
      each = λ (section : ℕ).
          rw (zero_here, more-than h.opcode_base 0 some, size-read table place room two, first, extended-read section table place room code low) refl;
    }

pub ruleset discriminator_laws = (discriminator-plain)
