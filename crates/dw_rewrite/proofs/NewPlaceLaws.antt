-- The new place of what lies at an old place of a section, of a path or of another text.
use Rattle.std.proofs.Common.{Bool, false, ◌≡◌, ◌≢◌, ℕ, Option, refl, sym, ap, ◌∙◌}
use Rattle.dw_base.specs.declared.debug_sections.DebugSection.{DebugSection}
use Rattle.dw_base.specs.declared.debug_sections.DebugSection.TheVariants.{Info, Types, Abbrev, Str, LineStr, StrOffsets, Line, Macro, Names}
use Rattle.dw_lines.specs.NewTexts.{texts_known}
use Rattle.dw_rewrite.specs.NewPlaces.{AllPlaces, places_known}
use Rattle.dw_rewrite.specs.NewStarts.{known_starts}

-- that of a line table, and of a text
pub line-place : (p : AllPlaces) (s : DebugSection) (path : Bool) (old : ℕ) (o : Option ℕ) → s ≡ Line → o ≡ known_starts p.starts false old → o ≡ places_known p s path old
line-place p s path old o is e = e ∙ sym (ap (λ (x : DebugSection). places_known p x path old) is)

text-known : (p : AllPlaces) (s : DebugSection) (path : Bool) (old : ℕ) → s ≢ Line → texts_known p.texts s path old ≡ places_known p s path old
text-known p Info path old other = refl
text-known p Types path old other = refl
text-known p Abbrev path old other = refl
text-known p Str path old other = refl
text-known p LineStr path old other = refl
text-known p StrOffsets path old other = refl
text-known p Macro path old other = refl
text-known p Names path old other = refl
text-known p Line path old other = absurd (other refl)

pub text-place : (p : AllPlaces) (s : DebugSection) (path : Bool) (old : ℕ) (o : Option ℕ) → s ≢ Line → o ≡ texts_known p.texts s path old
    → o ≡ places_known p s path old
text-place p s path old o other e = e ∙ text-known p s path old other

pub ruleset get_rules = (line-place, text-place)
