-- A file has a view, or a condition holds that keeps it from one.
use Rattle.std.proofs.Common.{ℕ, List}
use Rattle.dw_base.specs.Elf.{contents_of}
use Rattle.dw_base.specs.ViewFails.{ViewFails, ViewReads, sections, relocations}
use Rattle.refusal_laws.specs.Decided.{Decided}
use Rattle.refusal_laws.proofs.Decisions.{decided-among, decided-both, decided-by}
use Rattle.refusal_laws.proofs.RelocationDecisions.{relocations-handled}
use Rattle.refusal_laws.proofs.SectionDecisions.{sections-handled}

pub view-decided : (b : List ℕ) → Decided (ViewReads b) (ViewFails b)
view-decided b =
    decided-by (λ p. record { sections = p.first; relocations = p.second })
    (decided-both (decided-among (λ r f. sections f) (sections-handled b)) (λ p.
    decided-among (λ r f. relocations f) (relocations-handled (contents_of b) b)))
