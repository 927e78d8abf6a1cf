-- Laws of string tables: texts that are there stay, and each that was added stands at its place.
use Rattle.std.proofs.Common.{◌≡◌, ℕ, ◌+◌, Bool, true, false, Some, None, if◌then◌else◌, List, [], ◌∷◌, ◌++◌, length, refl}
use Rattle.dw_base.specs.Paths.{PathMap}
use Rattle.dw_base.specs.Texts.{has_nul, text_in, is_in}
use Rattle.dw_base.specs.StringTables.{Mention, new_text, with_mention, texts_after, place_in, TextTable, table_bytes, text_place}
use Rattle.dw_base.proofs.TextLaws.{is_in-with_text, is_in-with_text_kept, text_in-place_in}

-- texts after mentions, and after more of them
pub texts_after-append : (m : PathMap) (ts : List (List ℕ)) (xs ys : List Mention) → texts_after m ts (xs ++ ys) ≡ texts_after m (texts_after m ts xs) ys
texts_after-append m ts [] ys = refl
texts_after-append m ts (x ∷ xs) ys = texts_after-append m (with_mention m ts x) xs ys

-- more texts: those that are there stay
pub is_in-texts_after : (m : PathMap) (ts : List (List ℕ)) (xs : List Mention) (u : List ℕ) → is_in ts u ≡ true → is_in (texts_after m ts xs) u ≡ true
is_in-texts_after m ts [] u e = e
is_in-texts_after m ts (x ∷ xs) u e =
    is_in-texts_after m (with_mention m ts x) xs u (is_in-with_text_kept ts (new_text m x) u e)

-- the new text of a mention is among those after it, and after more of them
pub is_in-mentioned : (m : PathMap) (ts : List (List ℕ)) (x : Mention) (xs : List Mention) → is_in (texts_after m ts (x ∷ xs)) (new_text m x) ≡ true
is_in-mentioned m ts x xs = is_in-texts_after m (with_mention m ts x) xs (new_text m x) (is_in-with_text ts (new_text m x))

-- a place is that of a text of the table
pub text_place-is_in : (table : TextTable) (t : List ℕ) (p : ℕ) → text_place table t ≡ Some p → (is_in table.texts t ≡ true) × (p ≡ length table.kept + place_in table.texts t)
text_place-is_in table t p e = cases (is_in table.texts t) (length table.kept + place_in table.texts t) p e
  where
    cases : (test : Bool) (n p : ℕ) → (if test then Some n else None) ≡ Some p → (test ≡ true) × (p ≡ n)
    cases true n p e = (refl, cc)
    cases false n p e = cc

-- at its place the table has the text, with its NUL
pub text_in-text_place : (table : TextTable) (t : List ℕ) (p : ℕ) → text_place table t ≡ Some p → has_nul t ≡ false → text_in (table_bytes table) p ≡ t
text_in-text_place table t p e bare =
    let parts = text_place-is_in table t p e in
    rw parts.1 (text_in-place_in table.kept table.texts t parts.0 bare)
