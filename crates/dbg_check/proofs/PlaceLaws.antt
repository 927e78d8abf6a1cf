-- A section that a view hasn't has no text.
use Rattle.std.proofs.Common.{◌≡◌, ℕ, zero, suc, ◌≤◌, List, [], ◌∷◌, length, take, drop, refl, ap, sym, ◌∙◌, arith}
use Rattle.std.proofs.lemmas.List.{drop_all, take_all}
use Rattle.dw_base.specs.FileViews.{View, ViewSection, contents_in, section_bytes}
use Rattle.dw_base.specs.declared.line_tables.TextPlace.{TextPlace}
use Rattle.dw_macros.specs.EventMeanings.{text_bytes}

contents-beyond : (ss : List ViewSection) (i : ℕ) → length ss ≤ i → contents_in ss i ≡ []
contents-beyond [] i beyond = refl
contents-beyond (s ∷ ss) zero beyond = absurd (omega (arith, beyond))
contents-beyond (s ∷ ss) (suc i) beyond = contents-beyond ss i (omega (arith, beyond))

nothing-there : (n k : ℕ) → ◌≡◌ {A = List ℕ} (take n (drop k [])) []
nothing-there n k = ap (take n) (drop_all k [] (omega arith)) ∙ take_all n [] (omega arith)

bytes-beyond : (v : View) (i : ℕ) → length v.sections ≤ i → section_bytes v i ≡ []
unfolding section_bytes
bytes-beyond v i beyond = contents-beyond v.sections i beyond

pub place-beyond : (v : View) (t : TextPlace) → length v.sections ≤ t.section → [] ≡ text_bytes v t
place-beyond v t beyond = sym (ap (λ (bs : List ℕ). take t.len (drop t.at bs)) (bytes-beyond v t.section beyond) ∙ nothing-there t.len t.at)

pub ruleset place_laws = (place-beyond)
