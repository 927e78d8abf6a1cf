-- Laws of the bytes before a NUL.
use Rattle.std.proofs.Common.{◌≡◌, ◌≢◌, ℕ, ◌+◌, ◌<◌, List, [], ◌∷◌, length, drop, slice_index, refl, arith}
use Rattle.std.proofs.lemmas.List.{drop_more}
use Rattle.dw_base.specs.Texts.{text}

-- one byte more of a text
pub text-more : (xs : List ℕ) (i : ℕ) → i < length xs → slice_index xs i ≢ 0 → text (drop i xs) ≡ slice_index xs i ∷ text (drop (i + 1) xs)
text-more xs i lt other = rw (drop_more xs i 0 lt) (grind arith)

-- a text ends at a NUL
pub text-nul : (xs : List ℕ) (i : ℕ) → i < length xs → slice_index xs i ≡ 0 → text (drop i xs) ≡ []
text-nul xs i lt nul = rw (drop_more xs i 0 lt, nul) refl

pub ruleset text_laws = (text-more, text-nul)
