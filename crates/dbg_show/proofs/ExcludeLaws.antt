-- Debug data that can be shown exclude the refusals of what is read of them.
use Rattle.dw_base.specs.FileViews.{View}
use Rattle.dw_base.specs.declared.fault.Refusal.{Refusal}
use Rattle.dw_read.proofs.ReadDataLaws.{data_read-excludes}
use Rattle.dbg_show.specs.Shows.{ShowReads, ShowRefuses, unreadable}

pub show-excludes : (v : View) (r : Refusal) → ShowReads v → ShowRefuses v r → ⊥
show-excludes v r reads (unreadable f) = data_read-excludes v reads.readings r reads.reads reads.relocations f
