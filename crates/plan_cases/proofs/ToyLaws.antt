-- The judge of the tests refuses only a file of which it says nothing, and an edited file is one byte longer.
use Rattle.std.proofs.Common.{◌≡◌, ◌≤◌, ℕ, List, [], ◌∷◌, ◌++◌, length, ap, arith, Option, Some, None, Result, Ok, Err, refl}
use Rattle.std.specs.Prelude.{IfErr, IsOkUnless}
use Rattle.dw_base.specs.declared.fault.Fault.{Fault}
use Rattle.dw_base.specs.declared.fault.Fault.TheVariants as fault
use Rattle.std.proofs.lemmas.List.{length-append}
use Rattle.dw_base.specs.Layout.{file_limit, output_limit}
use Rattle.dw_base.specs.Refusals.{Blames}
use Rattle.job_types.specs.declared.outcome.Verdict.{Verdict}

pub said_whole : {X : Type 0} (r : Result X Fault) (o : Option Verdict) → IfErr r (Blames (λ q. o ≡ None)) → (x : Verdict) → o ≡ Some x → IsOkUnless r fault.NoMemory
said_whole {X} (Ok y) o bad x e = tt
said_whole {X} (Err fault.NoMemory) o bad x e = refl
said_whole {X} (Err (fault.Refused q)) None bad x e = cc
said_whole {X} (Err (fault.Refused q)) (Some y) bad x e = cc

-- an edited file is within the limit on what is written
pub edited_small : (bytes file : List ℕ) → file ≡ bytes ++ 101 ∷ [] → length bytes ≤ file_limit → length file ≤ output_limit
edited_small bytes file is small = omega (arith, small, ap length is, length-append bytes (101 ∷ []))

pub ruleset toy_rules = (said_whole, edited_small)
