-- Where a file has a view, none of the rows that refuse it holds.
use Rattle.std.proofs.Common.{ℕ, List}
use Rattle.dw_base.specs.Elf.{contents_of}
use Rattle.dw_base.specs.ViewFails.{ViewFails, ViewReads}
use Rattle.dw_base.specs.ViewFails.ViewFails.{sections, relocations}
use Rattle.dw_base.specs.declared.fault.Refusal.{Refusal}
use Rattle.dw_base.proofs.DebugSectionFailsLaws.{debug_sections_exclude}
use Rattle.dw_base.proofs.RelocationSectionLaws.{relocations_exclude}

pub view_excludes : (b : List ℕ) (r : Refusal) → ViewReads b → ViewFails b r → ⊥
view_excludes b r h (sections f) = debug_sections_exclude b r h.sections f
view_excludes b r h (relocations f) = relocations_exclude (contents_of b) b r h.relocations f
