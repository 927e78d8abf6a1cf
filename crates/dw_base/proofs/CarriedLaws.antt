-- Where no relocation of a carried section leads into a table of texts, no row says that one does.
use Rattle.std.proofs.Common.{ℕ, List, sym, ◌∙◌}
use Rattle.std.proofs.lemmas.Bool.{true≢false}
use Rattle.dw_base.specs.CarriedRelocations.{CarriedFails, into_texts, CarriedRead}
use Rattle.dw_base.specs.declared.fault.Refusal.{Refusal}

pub carried-excludes : (contents : ℕ → List ℕ) (b : List ℕ) (r : Refusal) → CarriedRead contents b → CarriedFails contents b r → ⊥
carried-excludes contents b r reads (into_texts i k x is lies) = true≢false (sym lies ∙ reads.apart i k x is)
