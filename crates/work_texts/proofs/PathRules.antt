-- Texts that are UTF-8, and the last of some texts.
use Rattle.std.proofs.Common.{◌≡◌, ℕ, ◌-◌, Bool, true, false, List, length, map, Option, Some, None, refl, sym, ap, ◌∙◌}
use Rattle.std.specs.Prelude.{option_map}
use Rattle.std.specs.List.{slice_get}
use Rattle.std.specs.Global.{Vec}
use Rattle.std.specs.Str.{IsUtf8, is_utf8}
use Rattle.std.proofs.lemmas.Str.{IsUtf8-from_is_utf8, is_utf8-from_IsUtf8}
use Rattle.std.proofs.lemmas.Option.{slice_get-map}
use Rattle.std.proofs.lemmas.List.{length-map}
use Rattle.work_texts.specs.Lists.{bytes_of}
use Rattle.work_texts.specs.Reading.{last_text, itself}

not_utf8-cases : (bs : List ℕ) (test : Bool) → is_utf8 bs ≡ test → ¬ (IsUtf8 bs) → test ≡ false
not_utf8-cases bs true e h = absurd (h (IsUtf8-from_is_utf8 bs e))
not_utf8-cases bs false e h = refl

pub not_utf8 : (bs : List ℕ) → ¬ (IsUtf8 bs) → is_utf8 bs ≡ false
not_utf8 bs h = not_utf8-cases bs (is_utf8 bs) refl h

pub ruleset utf8_rules = (not_utf8, is_utf8-from_IsUtf8)

map_last : (xs : List (Vec ℕ)) → last_text itself (map bytes_of xs) ≡ option_map bytes_of (slice_get xs (length xs - 1))
map_last xs =
    let len : length (map bytes_of xs) ≡ length xs = length-map xs bytes_of in
    ap (λ (n : ℕ). option_map itself (slice_get (map bytes_of xs) (n - 1))) len
    ∙ ap (option_map itself) (slice_get-map bytes_of xs (length xs - 1))
    ∙ again (slice_get xs (length xs - 1))
  where
    again : (o : Option (Vec ℕ)) → option_map itself (option_map bytes_of o) ≡ option_map bytes_of o
    again None = refl
    again (Some v) = refl

pub last_rules_none : (xs : List (Vec ℕ)) → None ≡ slice_get xs (length xs - 1) → last_text itself (map bytes_of xs) ≡ None
last_rules_none xs e = map_last xs ∙ ap (option_map bytes_of) (sym e)

pub last_rules_some : (xs : List (Vec ℕ)) (v : Vec ℕ) → Some v ≡ slice_get xs (length xs - 1) → last_text itself (map bytes_of xs) ≡ Some v.items
last_rules_some xs v e = map_last xs ∙ ap (option_map bytes_of) (sym e)

pub ruleset last_rules = (last_rules_none, last_rules_some)
