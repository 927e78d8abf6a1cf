-- Laws on the view of what is shown: what refuses it.
use Rattle.std.proofs.Common.{◌≡◌, ℕ, List, subst}
use Rattle.dw_base.specs.DebugSectionFails.{DebugSectionsRead}
use Rattle.dw_base.specs.Elf.{contents_of}
use Rattle.dw_base.specs.ElfFails.{DebugReads, ElfReads}
use Rattle.dw_base.specs.Refusals.{Blames}
use Rattle.dw_base.specs.RelocationSectionFails.{RelocationSectionsRead}
use Rattle.dw_base.specs.ViewFails.{ViewFails}
use Rattle.dw_base.specs.ViewFails.ViewFails.{relocations}
use Rattle.dw_base.specs.declared.fault.Fault.{Fault}
use Rattle.dw_base.specs.declared.fault.Fault.TheVariants.{Refused}
use Rattle.dw_base.proofs.RelocationSectionLaws.{relocations_read}
use Rattle.dw_view.specs.Pairs.{IsPaired, Mismatches, PairBlames, PairRefused, PairedFails}
use Rattle.dw_view.specs.declared.mismatch.Mismatch.{Mismatch}
use Rattle.dw_view.specs.declared.mismatch.PairErr.{PairErr}
use Rattle.dw_view.specs.declared.mismatch.PairErr.TheVariants.{NotAPair, Stripped, Debug}
use Rattle.dbg_ends.specs.declared.end.End.{End}
use Rattle.dbg_ends.specs.declared.end.End.TheVariants as end
use Rattle.dbg_ends.specs.Steps.{FaultEnds}
use Rattle.dbg_ends.specs.Steps.{FaultEnds as fault_ends}
use Rattle.dbg_run.specs.Shows.{IsSeen, Unseen, base_name, of_file, of_pair}
use Rattle.dbg_run.specs.Shows.{ShowFails as fails, Unseen as unseen}

-- ### One file

pub file_fails : (file b : List ℕ) (f : Fault) (e : End) → ElfReads b → Blames (ViewFails b) f → FaultEnds file f e → Unseen (of_file file b) e
file_fails file b f e elf blames fault_ends.refused = unseen.fails (fails.file_taking elf blames)
file_fails file b f e elf blames fault_ends.memory = unseen.memory

pub file_seen : (file b : List ℕ) → ElfReads b → DebugSectionsRead b → RelocationSectionsRead (contents_of b) b → IsSeen (of_file file b)
file_seen file b elf sections related = record { elf = elf; linked = tt; taken = record { sections = sections; relocations = related } }

pub ruleset file_laws = (file_fails, file_seen)

-- ### Two files

pub pair_mismatch : (stripped s debug d name : List ℕ) (m : Mismatch) → ElfReads s → DebugReads d → name ≡ base_name debug → PairBlames s d name (NotAPair m)
    → Unseen (of_pair stripped s debug d) (end.NotAPair m)
pair_mismatch stripped s debug d name m elf other is row = unseen.fails (fails.no_pair elf other (subst (λ (x : List ℕ). Mismatches s d x m) is row))

pub pair_stripped : (stripped s debug d name : List ℕ) (f : Fault) (e : End) → ElfReads s → DebugReads d → name ≡ base_name debug → PairBlames s d name (Stripped f)
    → FaultEnds stripped f e → Unseen (of_pair stripped s debug d) e
pair_stripped stripped s debug d name f e elf other is row (fault_ends.refused {r = r}) =
    unseen.fails (fails.stripped_taking elf other (subst (λ (x : List ℕ). PairedFails s d x s r) is row))
pair_stripped stripped s debug d name f e elf other is row fault_ends.memory = unseen.memory

pub pair_debug : (stripped s debug d name : List ℕ) (f : Fault) (e : End) → ElfReads s → DebugReads d → name ≡ base_name debug → PairBlames s d name (Debug f)
    → FaultEnds debug f e → Unseen (of_pair stripped s debug d) e
pair_debug stripped s debug d name f e elf other is row (fault_ends.refused {r = r}) =
    unseen.fails (fails.debug_taking elf other (subst (λ (x : List ℕ). PairedFails s d x d r) is row))
pair_debug stripped s debug d name f e elf other is row fault_ends.memory = unseen.memory

pub pair_seen : (stripped s debug d name : List ℕ) → ElfReads s → DebugReads d → name ≡ base_name debug → IsPaired s d name → DebugSectionsRead s → DebugSectionsRead d
    → RelocationSectionsRead (contents_of d) d → ((e : PairErr) → PairRefused s d name e → ⊥) → IsSeen (of_pair stripped s debug d)
pair_seen stripped s debug d name elf other is paired sections also related none = record {
  elf = (elf, other);
  linked = subst (IsPaired s d) is paired;
  taken = (
    record {
      sections = sections;
      relocations = relocations_read (contents_of s) s (λ r f. none (Stripped (Refused r)) (record { paired = paired; fails = relocations f }));
    },
    record { sections = also; relocations = related },
  );
}

pub ruleset pair_laws = (pair_mismatch, pair_stripped, pair_debug)
