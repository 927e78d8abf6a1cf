-- A file that an edit takes isn't refused, and its output is within the limit; and the map of an exercise is one.
use Rattle.std.proofs.Common.{true, ◌≡◌, ℕ, ◌≤◌, List, [], ◌∷◌, length, refl, sym, ap, ◌∙◌, subst}
use Rattle.dw_base.specs.Layout.{output_limit}
use Rattle.dw_base.specs.Paths.{IsPathMap, PathMap, is_prefix, path_map}
use Rattle.dw_base.specs.Refusals.{Blames}
use Rattle.dw_base.specs.declared.fault.Fault.{Fault}
use Rattle.dw_base.specs.declared.fault.Fault.TheVariants.{Refused}
use Rattle.dw_base.specs.declared.fault.Refusal.{Refusal}
use Rattle.dw_base.proofs.PathLaws.{IsPathMap-made}
use Rattle.dw_meaning.specs.EditRows.{EditFails, IsAccepted}
use Rattle.dw_meaning.specs.FileMeanings.{IsOutput, file_data, output_of}
use Rattle.dw_meaning.proofs.DataOneLaws.{data-one}
use Rattle.dw_meaning.proofs.EditRowLaws.{edit-excludes}
use Rattle.dbg_exercise.specs.Exercises.{exercise_map}

-- both words, as bytes, may be prefixes
pub base-fits : is_prefix (47 ∷ 98 ∷ 117 ∷ 105 ∷ 108 ∷ 100 ∷ 47 ∷ 112 ∷ []) ≡ true
unfolding is_prefix
base-fits = refl

pub dest-fits : is_prefix (47 ∷ 117 ∷ 115 ∷ 114 ∷ 47 ∷ 115 ∷ 114 ∷ 99 ∷ 47 ∷ 100 ∷ 101 ∷ 98 ∷ 117 ∷ 103 ∷ 47 ∷ 112 ∷ []) ≡ true
unfolding is_prefix
dest-fits = refl

pub map-fits : IsPathMap exercise_map
map-fits = IsPathMap-made (47 ∷ 98 ∷ 117 ∷ 105 ∷ 108 ∷ 100 ∷ 47 ∷ 112 ∷ []) (47 ∷ 117 ∷ 115 ∷ 114 ∷ 47 ∷ 115 ∷ 114 ∷ 99 ∷ 47 ∷ 100 ∷ 101 ∷ 98 ∷ 117 ∷ 103 ∷ 47 ∷ 112 ∷ []) base-fits dest-fits

pub map-is : (m : PathMap) → m ≡ path_map (47 ∷ 98 ∷ 117 ∷ 105 ∷ 108 ∷ 100 ∷ 47 ∷ 112 ∷ []) (47 ∷ 117 ∷ 115 ∷ 114 ∷ 47 ∷ 115 ∷ 114 ∷ 99 ∷ 47 ∷ 100 ∷ 101 ∷ 98 ∷ 117 ∷ 103 ∷ 47 ∷ 112 ∷ []) → m ≡ exercise_map
map-is m is = is

-- the file isn't refused
pub edit-taken : (m : PathMap) (b : List ℕ) (f : Fault) (r : Refusal) → Blames (EditFails m b) f → f ≡ Refused r → IsAccepted m b → ⊥
edit-taken m b f r blamed is accepted = edit-excludes m b r accepted (subst (λ (x : Fault). Blames (EditFails m b) x) is blamed)

-- nor is what is written too long
out-small : (m : PathMap) (b out : List ℕ) → IsAccepted m b → IsOutput m b out → length out ≤ output_limit
unfolding output_of
out-small m b out a o =
    let same : o.readings ≡ a.readings = data-one (file_data b) o.readings a.readings o.reads a.reads.data_reads in
    subst (λ (x : List ℕ). length x ≤ output_limit) (sym (o.is ∙ ap (output_of m b) same)) a.written.small

pub joined-small : (m : PathMap) (b out new : List ℕ) → IsAccepted m b → IsOutput m b out → new ≡ out → length new ≤ output_limit
joined-small m b out new a o same = subst (λ (x : List ℕ). length x ≤ output_limit) (sym same) (out-small m b out a o)

pub ruleset map_laws = (base-fits, dest-fits, map-is)

pub ruleset taken_laws = (edit-taken, joined-small)
