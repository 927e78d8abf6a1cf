-- Laws of the layout: the rows of its refusals, and the record of where a file can be written, exclude one another.
use Rattle.std.proofs.Common.{◌≡◌, ℕ, Bool, true, false, List, length, refl, sym, ◌∙◌, arith}
use Rattle.std.proofs.lemmas.Bool.{true≢false}
use Rattle.std.proofs.lemmas.Slice.Eq.{bytes_eq-Decides}
use Rattle.std.specs.Str.{bytes_eq}
use Rattle.dw_base.specs.Elf.{contents_of}
use Rattle.dw_base.specs.Layout.{output_limit, with_bodies}
use Rattle.dw_base.specs.LayoutFails.{LayoutFails, LayoutFits}
use Rattle.dw_base.specs.LayoutFails.TooLong.{long}
use Rattle.dw_base.specs.LayoutFails.SectionStays.{changed, across, in_header}
use Rattle.dw_base.specs.LayoutFails.LayoutFails.{section, large}
use Rattle.dw_base.specs.declared.fault.Refusal.{Refusal}
use Rattle.dw_base.proofs.ElfReadsLaws.{at_most}

-- where a file with these bodies can be written, no row of the layout holds
pub layout_excludes : (b : List ℕ) (bodies : ℕ → List ℕ) (r : Refusal) → LayoutFits b bodies → LayoutFails b bodies r → ⊥
layout_excludes b bodies r ok (section i lt (changed h)) = h.body (ok.stays i lt h.stays)
layout_excludes b bodies r ok (section i lt (across h)) = ok.across i lt h
layout_excludes b bodies r ok (section i lt (in_header h)) = ok.in_header i lt h
layout_excludes b bodies r ok (large (long h)) = let le = ok.small in omega arith

-- bytes that aren't others are the same
pub not_other : (t u : List ℕ) → ((t ≡ u → ⊥) → ⊥) → t ≡ u
not_other t u h = choice (bytes_eq t u) refl
  where
    choice : (test : Bool) → bytes_eq t u ≡ test → t ≡ u
    choice true e = (bytes_eq-Decides t u).0 e
    choice false e = absurd (h (λ (same : t ≡ u). true≢false (sym ((bytes_eq-Decides t u).1 same) ∙ e)))

-- where no row of the layout holds, the file can be written
pub layout_fits : (b : List ℕ) (bodies : ℕ → List ℕ) → ((r : Refusal) → LayoutFails b bodies r → ⊥) → LayoutFits b bodies
layout_fits b bodies none = record {
  stays = λ i lt fixed. not_other (bodies i) (contents_of b i)
      (λ differ. none _ (section i lt (changed (record { stays = fixed; body = differ }))));
  across = λ i lt h. none _ (section i lt (across h));
  in_header = λ i lt h. none _ (section i lt (in_header h));
  small = at_most output_limit (length (with_bodies b bodies)) (λ lt. none _ (large (long lt)));
}
