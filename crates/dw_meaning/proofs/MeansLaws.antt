-- What can be read means what it says: the bytes of its units spell the forests that it says.
use Rattle.std.proofs.Common.{◌≡◌, ℕ, List, refl, ap, subst}
use Rattle.dw_base.specs.DebugData.{DataReadings, DebugData, around_of}
use Rattle.dw_base.specs.FileViews.{View, view_of}
use Rattle.dw_base.specs.UnitMeanings.{UnitMeaning, units_of}
use Rattle.dw_base.specs.ViewData.{Meaning, debug_data, meaning_of}
use Rattle.dw_base.specs.declared.debug_sections.DebugSection.TheVariants.{Info}
use Rattle.dw_meaning.specs.DataOutput.{DataReads}
use Rattle.dw_meaning.specs.FileMeanings.{FileReads, Means, ViewMeans, file_data}
use Rattle.dw_meaning.specs.SpelledUnits.{AllSpelled}
use Rattle.dw_meaning.proofs.SpelledLaws.{all-spelled}

data-spelled : (d : DebugData) (r : DataReadings) (us : List UnitMeaning) → DataReads d r → units_of d r ≡ us → AllSpelled (around_of d r) r.units us
unfolding units_of
data-spelled d r us w is = subst (AllSpelled (around_of d r) r.units) is (all-spelled d.base (around_of d r) 0 (d.found Info) r.units refl w.units)

-- of a file
pub means-made : (b : List ℕ) (r : DataReadings) (x : Meaning) → FileReads b r → meaning_of (view_of b) r ≡ x → Means b x
unfolding meaning_of
means-made b r x reads says =
    record { readings = r; reads = reads; says = says; spells = data-spelled (file_data b) r x.units reads.data_reads (ap (λ (y : Meaning). y.units) says) }

-- of a view
pub view-means-made : (v : View) (r : DataReadings) (x : Meaning) → DataReads (debug_data v) r → meaning_of v r ≡ x → ViewMeans v x
unfolding meaning_of
view-means-made v r x reads says =
    record { readings = r; reads = reads; says = says; spells = data-spelled (debug_data v) r x.units reads (ap (λ (y : Meaning). y.units) says) }
