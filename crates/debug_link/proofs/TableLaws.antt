-- Laws of the table: each entry that is put is the defined one.
use Rattle.std.proofs.Common.{◌≡◌, ℕ, ◌+◌, ◌-◌, ◌*◌, ◌/◌, ◌%◌, ◌<◌, ◌≤◌, inl, inr, List, length, set, slice_index, sym, ap, ◌∙◌, arith, bit_xor}
use Rattle.std.proofs.lemmas.List.{get_or-set_same, get_or-set_other}
use Rattle.std.proofs.lemmas.Bool.{cases_eq}
use Rattle.std.proofs.lemmas.Nat.{xor_comm}
use Rattle.debug_link.specs.Tables.{times, entry, IsTable}
use Rattle.debug_link.proofs.XorLaws.{times-add}
use Rattle.debug_link.proofs.SumLaws.{byte-entry, entry-first}

-- no entry stands yet
pub table-none : (table : List ℕ) → IsTable 0 table
table-none table = record { entries = λ i below. absurd (omega (arith, below)) }

-- one more stands
pub table-more : (n : ℕ) (table : List ℕ) (v : ℕ) → n < length table → IsTable n table → v ≡ entry n → IsTable (n + 1) (set table n v)
table-more n table v inside t e = record {
  entries = λ i below. elim (cases_eq n i) [
    | inl same ↦ ap (λ (k : ℕ). slice_index (set table n v) k) (sym same) ∙ get_or-set_same table n v 0 inside ∙ e ∙ ap entry same
    | inr other ↦ get_or-set_other table n i v 0 (λ e2. other (sym e2)) ∙ t.entries i (between n i below other)
  ];
}
  where
    between : (n i : ℕ) → i < n + 1 → (n ≡ i → ⊥) → i < n
    between n i below other = omega (arith, below, other)

pub table-first : (n : ℕ) (table : List ℕ) (v : ℕ) → n < length table → n < 256 → IsTable n table → v ≡ times 8 n → IsTable (n + 1) (set table n v)
table-first n table v inside small t e = table-more n table v inside t (e ∙ sym (entry-first n small))

-- with one byte more behind it, an entry is times x to the power of 8
entry-behind : (i : ℕ) → 256 ≤ i → entry i ≡ times 8 (entry (i - 256))
entry-behind i enough =
    let low : i % 256 ≡ (i - 256) % 256 = omega (arith, enough) in
    let high : 8 * (i / 256 + 1) ≡ 8 * ((i - 256) / 256 + 1) + 8 = omega (arith, enough) in
    ap (λ (n : ℕ). times n (i % 256)) high ∙ ap (times (8 * ((i - 256) / 256 + 1) + 8)) low ∙ times-add (8 * ((i - 256) / 256 + 1)) 8 ((i - 256) % 256)

pub table-next : (n before : ℕ) (table : List ℕ) (v : ℕ) → n < length table → 256 ≤ n → IsTable n table → before ≡ slice_index table (n - 256)
    → v ≡ bit_xor (before / 256) (slice_index table (before % 256)) → IsTable (n + 1) (set table n v)
table-next n before table v inside enough t before_is e =
    let there : before ≡ entry (n - 256) = before_is ∙ t.entries (n - 256) (omega (arith, enough)) in
    let made : v ≡ times 8 before = e ∙ xor_comm (before / 256) (slice_index table (before % 256)) ∙ byte-entry n table before enough t in
    table-more n table v inside t (made ∙ ap (times 8) there ∙ sym (entry-behind n enough))

pub ruleset first_rules = (table-none, table-first)

pub ruleset other_rules = (table-next)
