-- Changes one after another, as they are written: a state is the bytes so far, and the place behind what they stand for.
use Rattle.std.specs.Prelude.{Bool, true, ◌≡◌, ℕ, ◌+◌, ◌^◌, ◌==◌, nat_lt, if◌then◌else◌, List, [], ◌∷◌, ◌++◌, length, All, Option, Some, None}
use Rattle.dw_base.specs.Forms.{width_size}
use Rattle.dw_base.specs.declared.shared.Width.{Width}
use Rattle.dw_base.specs.declared.line_tables.LineText.{LineText}
use Rattle.dw_base.specs.declared.line_tables.TextPlace.{TextPlace}
use Rattle.dw_base.specs.WrittenLines.{Change, part}

abbrev pub after_change : List ℕ → List ℕ × ℕ → Change → List ℕ × ℕ
after_change bytes s c = (s.0 ++ (part bytes s.1 c.at ++ c.new), c.at + length c.old)

abbrev pub after_changes : List ℕ → List ℕ × ℕ → List Change → List ℕ × ℕ
after_changes bytes s [] = s
after_changes bytes s (c ∷ cs) = after_changes bytes (after_change bytes s c) cs

-- a new offset, where there is one, fits its field
abbrev pub fits_width : Width → Option ℕ → Bool
fits_width width None = true
fits_width width (Some place) = nat_lt place (256 ^ width_size width)

-- the text stands in the section of a number, or its new offset fits its field
abbrev pub offset_fits : ℕ → Width → Option ℕ → TextPlace → Bool
offset_fits section width place x = if x.section == section then true else fits_width width place

-- so it is with each text
abbrev pub OffsetsFit : ℕ → Width → (LineText → Option ℕ) → List LineText → Type 0
OffsetsFit section width places xs = All (λ x. offset_fits section width (places x) x.place ≡ true) xs
