-- Laws on the texts of lines.
use Rattle.std.proofs.Common.{◌≡◌, ◌≢◌, ℕ, refl, zero, suc, []}
use Rattle.std.specs.Prelude.{codes}
use Rattle.dbg_ends.specs.Ends.{field_text}

-- each field of a key by its number, and that there are no others
pub field_0 : (n : ℕ) → n ≡ 0 → codes "base-dir" ≡ field_text n
unfolding field_text
field_0 n is = rw is refl

pub field_1 : (n : ℕ) → n ≡ 1 → codes "dest-dir" ≡ field_text n
unfolding field_text
field_1 n is = rw is refl

pub field_2 : (n : ℕ) → n ≡ 2 → codes "build-id" ≡ field_text n
unfolding field_text
field_2 n is = rw is refl

pub field_3 : (n : ℕ) → n ≡ 3 → codes "seed" ≡ field_text n
unfolding field_text
field_3 n is = rw is refl

pub field_4 : (n : ℕ) → n ≡ 4 → codes "skip-refused" ≡ field_text n
unfolding field_text
field_4 n is = rw is refl

pub field_5 : (n : ℕ) → n ≡ 5 → codes "max-file" ≡ field_text n
unfolding field_text
field_5 n is = rw is refl

pub field_6 : (n : ℕ) → n ≡ 6 → codes "more-maps" ≡ field_text n
unfolding field_text
field_6 n is = rw is refl

pub no_field : (n : ℕ) → n ≢ 0 → n ≢ 1 → n ≢ 2 → n ≢ 3 → n ≢ 4 → n ≢ 5 → n ≢ 6 → [] ≡ field_text n
unfolding field_text
no_field zero a b c d e f g = absurd (a refl)
no_field (suc zero) a b c d e f g = absurd (b refl)
no_field (suc (suc zero)) a b c d e f g = absurd (c refl)
no_field (suc (suc (suc zero))) a b c d e f g = absurd (d refl)
no_field (suc (suc (suc (suc zero)))) a b c d e f g = absurd (e refl)
no_field (suc (suc (suc (suc (suc zero))))) a b c d e f g = absurd (f refl)
no_field (suc (suc (suc (suc (suc (suc zero)))))) a b c d e f g = absurd (g refl)
no_field (suc (suc (suc (suc (suc (suc (suc n))))))) a b c d e f g = refl

pub ruleset field_rules = (field_0, field_1, field_2, field_3, field_4, field_5, field_6, no_field)
