-- The one output is that of the bytes that were read.
use Rattle.std.proofs.Common.{◌≡◌, ℕ, List, IfOk, subst}
use Rattle.dw_meaning.specs.FileMeanings.{IsOutput}
use Rattle.dw_rewrite.proofs.file.rewrite.Goals as goal

pub returns-clause-only : goal.returns-clause-only
returns-clause-only c =
    subst (λ (b : List ℕ). IfOk c.rewrite_elf.result (λ out. (o : List ℕ) → IsOutput c.args.maps.now b o → o ≡ out.file))
    c.in_ok-elf.ensures.bytes c.rewrite_elf.ensures.only
