-- The bodies behind the tables of texts: string offsets, line tables, name tables, macro units, and units.
use Rattle.std.proofs.Common.{Bool, ◌≡◌, ℕ, ◌<◌, List, [], ◌∷◌, ◌++◌, length, Option, ap, ◌∙◌, arith, append_assoc}
use Rattle.dw_meaning.specs.DataOutput.{Body}
use Rattle.dw_base.specs.FileViews.{View}
use Rattle.dw_base.specs.Paths.{PathMap}
use Rattle.dw_rewrite.specs.NewTables.{bodies_known}
use Rattle.dw_rewrite.specs.PushedBodies.{one_body, pushed_bodies}
use Rattle.dw_read.specs.AllFields.{Fields}
use Rattle.dw_unit_fields.specs.SectionFields.{SectionFields}

-- one section, or none
pub one-none : (m : PathMap) (v : View) (ks kl kt : Bool → ℕ → Option ℕ) (us : List SectionFields) (old new : List Body) (x : Body) → length us ≡ 0 → x ≡ record { number = 0; bytes = [] }
    → new ≡ old ++ x ∷ [] → new ≡ old ++ one_body (bodies_known m v ks kl kt us)
one-none m v ks kl kt [] old new x none is e = e ∙ ap (λ (b : Body). old ++ b ∷ []) is
one-none m v ks kl kt (u ∷ us) old new x none is e = absurd (omega (arith, none))

pub one-some : (m : PathMap) (v : View) (ks kl kt : Bool → ℕ → Option ℕ) (us : List SectionFields) (old new : List Body) → 0 < length us
    → new ≡ old ++ bodies_known m v ks kl kt us → new ≡ old ++ one_body (bodies_known m v ks kl kt us)
one-some m v ks kl kt [] old new some e = absurd (omega (arith, some))
one-some m v ks kl kt (u ∷ us) old new some e = e

pub ruleset one_rules = (one-none, one-some)

-- one after another
all-joined : (old slots names macros units first with_lines second third fourth : List Body) (lines : Body) → first ≡ old ++ slots → with_lines ≡ first ++ lines ∷ []
    → second ≡ with_lines ++ names → third ≡ second ++ macros → fourth ≡ third ++ units → fourth ≡ old ++ (slots ++ lines ∷ (names ++ (macros ++ units)))
all-joined old slots names macros units first with_lines second third fourth lines x w y z last =
    last ∙ ap (λ (bs : List Body). bs ++ units) z ∙ append_assoc second macros units ∙ ap (λ (bs : List Body). bs ++ (macros ++ units)) y
    ∙ append_assoc with_lines names (macros ++ units) ∙ ap (λ (bs : List Body). bs ++ (names ++ (macros ++ units))) w
    ∙ append_assoc first (lines ∷ []) (names ++ (macros ++ units)) ∙ ap (λ (bs : List Body). bs ++ lines ∷ (names ++ (macros ++ units))) x
    ∙ append_assoc old slots (lines ∷ (names ++ (macros ++ units)))

pub all-pushed : (m : PathMap) (v : View) (ks kl kt : Bool → ℕ → Option ℕ) (us : Fields) (slots names macros units : List SectionFields) (lines : Body)
    (old first with_lines second third fourth : List Body) → slots ≡ us.slots → names ≡ us.names → macros ≡ us.macros → units ≡ us.units
    → first ≡ old ++ one_body (bodies_known m v ks kl kt slots) → with_lines ≡ first ++ lines ∷ [] → second ≡ with_lines ++ one_body (bodies_known m v ks kl kt names)
    → third ≡ second ++ bodies_known m v ks kl kt macros → fourth ≡ third ++ bodies_known m v ks kl kt units → fourth ≡ old ++ pushed_bodies m v ks kl kt lines us
all-pushed m v ks kl kt us slots names macros units lines old first with_lines second third fourth slots_are names_are macros_are units_are x w y z last =
    all-joined old (one_body (bodies_known m v ks kl kt us.slots)) (one_body (bodies_known m v ks kl kt us.names)) (bodies_known m v ks kl kt us.macros)
    (bodies_known m v ks kl kt us.units) first with_lines second third fourth lines
    (x ∙ ap (λ (xs : List SectionFields). old ++ one_body (bodies_known m v ks kl kt xs)) slots_are) w
    (y ∙ ap (λ (xs : List SectionFields). with_lines ++ one_body (bodies_known m v ks kl kt xs)) names_are)
    (z ∙ ap (λ (xs : List SectionFields). second ++ bodies_known m v ks kl kt xs) macros_are)
    (last ∙ ap (λ (xs : List SectionFields). third ++ bodies_known m v ks kl kt xs) units_are)
