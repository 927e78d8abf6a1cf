-- A record that is put where it stands: the table is as it was.
use Rattle.std.proofs.Common.{true, false, ◌≡◌, ℕ, Bool, ◌+◌, ◌*◌, ◌<◌, ◌≤◌, if◌then◌else◌, List, length, slice_index, Some, None, ap, ◌∙◌, arith}
use Rattle.std.specs.Int.{cast_signed, cast_unsigned}
use Rattle.std.proofs.lemmas.Int.{of_z-to_z}
use Rattle.dw_base.specs.Elf.{word_size}
use Rattle.dw_base.specs.Numbers.{spelled, with_number}
use Rattle.dw_base.specs.RelocChanges.{with_reloc}
use Rattle.dw_base.specs.Relocs.{addend_place, r_addend, r_offset, reloc_size, word_width}
use Rattle.dw_base.specs.declared.shared.Class.{Class}
use Rattle.dw_base.specs.declared.shared.Class.TheVariants.{C32, C64}
use Rattle.dw_base.specs.declared.shared.Order.{Order}
use Rattle.dw_base.proofs.NumberLaws.{spelled-lt}
use Rattle.dw_base.proofs.ReadsBackLaws.{with_number-same}

-- the words of a record
word-same : (class : Class) (o : Order) (table : List ℕ) (place : ℕ) → ((k : ℕ) → slice_index table k < 256) → place + word_size class ≤ length table
    → with_number o table place (word_size class) (cast_unsigned (word_width class) (cast_signed (word_width class) (spelled o table place (word_size class)))) ≡ table
word-same C32 o table place small inside =
    ap (with_number o table place 4) (of_z-to_z (word_width C32) (spelled o table place 4) (spelled-lt o table place 4 small)) ∙ with_number-same o table place 4 small inside
word-same C64 o table place small inside =
    ap (with_number o table place 8) (of_z-to_z (word_width C64) (spelled o table place 8) (spelled-lt o table place 8 small)) ∙ with_number-same o table place 8 small inside

-- and its place and its addend
record-room : (class : Class) (rela : Bool) (index n : ℕ) → index * reloc_size class rela + reloc_size class rela ≤ n → index * reloc_size class rela + word_size class ≤ n
record-room C32 true index n le = omega (arith, le)
record-room C32 false index n le = omega (arith, le)
record-room C64 true index n le = omega (arith, le)
record-room C64 false index n le = omega (arith, le)

addend-room : (class : Class) (index n : ℕ) → index * reloc_size class true + reloc_size class true ≤ n → addend_place class (index * reloc_size class true) + word_size class ≤ n
addend-room C32 index n le = omega (arith, le)
addend-room C64 index n le = omega (arith, le)

pub put-same : (class : Class) (o : Order) (rela : Bool) (table : List ℕ) (index : ℕ) → ((k : ℕ) → slice_index table k < 256) → index * reloc_size class rela + reloc_size class rela ≤ length table
    → with_reloc class o rela table index (r_offset class o table (index * reloc_size class rela))
    (if rela then Some (r_addend class o table (index * reloc_size class rela)) else None) ≡ table
unfolding with_reloc
put-same class o true table index small inside =
    ap (λ (bs : List ℕ). with_number o bs (addend_place class (index * reloc_size class true)) (word_size class)
    (cast_unsigned (word_width class) (r_addend class o table (index * reloc_size class true))))
    (with_number-same o table (index * reloc_size class true) (word_size class) small (record-room class true index (length table) inside))
    ∙ word-same class o table (addend_place class (index * reloc_size class true)) small (addend-room class index (length table) inside)
put-same class o false table index small inside =
    with_number-same o table (index * reloc_size class false) (word_size class) small (record-room class false index (length table) inside)
