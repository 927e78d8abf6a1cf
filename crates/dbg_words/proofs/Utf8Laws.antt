-- Bytes that are UTF-8.
use Rattle.std.proofs.Common.{◌≡◌, ℕ, Bool, true, false, List, refl}
use Rattle.std.specs.Str.{IsUtf8, is_utf8}
use Rattle.std.proofs.lemmas.Str.{IsUtf8-from_is_utf8, is_utf8-from_IsUtf8}

not_utf8-cases : (bs : List ℕ) (test : Bool) → is_utf8 bs ≡ test → ¬ (IsUtf8 bs) → test ≡ false
not_utf8-cases bs true e h = absurd (h (IsUtf8-from_is_utf8 bs e))
not_utf8-cases bs false e h = refl

pub not_utf8 : (bs : List ℕ) → ¬ (IsUtf8 bs) → is_utf8 bs ≡ false
not_utf8 bs h = not_utf8-cases bs (is_utf8 bs) refl h

pub ruleset utf8_rules = (not_utf8, is_utf8-from_IsUtf8)
