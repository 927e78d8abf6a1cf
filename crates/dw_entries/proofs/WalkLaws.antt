-- A step of the walk over values, as the iterator gives it.
use Rattle.std.proofs.Common.{◌≡◌, ℕ, List, [], ◌∷◌, refl}
use Rattle.dw_base.specs.FormFails.{FormFails}
use Rattle.dw_base.specs.declared.fault.Refusal.{Refusal}
use Rattle.dw_base.specs.declared.shared.Params.{Params}
use Rattle.dw_base.specs.declared.values.Spec.{Spec}
use Rattle.dw_entries.specs.ValueWalks.{GivesFault}

-- a value that can't be read
pub gives-fault : (params : Params) (section place : ℕ) (bytes : List ℕ) (left rest : List Spec) (x : Spec) (r : Refusal) → left ≡ x ∷ rest
    → FormFails params x bytes section place r
    → GivesFault (record { params = params; section = section; bytes = bytes; left = left; place = place }) r
    (record { params = params; section = section; bytes = bytes; left = []; place = place })
gives-fault params section place bytes left rest x r is f = record { attribute = x; rest = rest; next = is; fails = f; same = refl }
