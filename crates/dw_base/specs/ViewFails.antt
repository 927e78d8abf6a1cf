-- Why a file has no view: its type and the names and flags of its sections, and the relocations of those that are read. And what holds
-- where none of it does.
use Rattle.std.specs.Prelude.{ℕ, List}
use Rattle.dw_base.specs.DebugSectionFails.{DebugSectionsFail, DebugSectionsRead}
use Rattle.dw_base.specs.Elf.{contents_of}
use Rattle.dw_base.specs.RelocationSectionFails.{RelocationSectionsFail, RelocationSectionsRead}
use Rattle.dw_base.specs.declared.fault.Refusal.{Refusal}

pub data ViewFails (b : List ℕ) : Refusal → Type 0 where
  sections : {r : Refusal} → DebugSectionsFail b r → ViewFails b r
  relocations : {r : Refusal} → RelocationSectionsFail (contents_of b) b r → ViewFails b r

pub record ViewReads (b : List ℕ) : Type 0 where
  pub sections : DebugSectionsRead b
  pub relocations : RelocationSectionsRead (contents_of b) b
