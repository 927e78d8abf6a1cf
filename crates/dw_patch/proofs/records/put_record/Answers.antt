-- The other records stay where one is put in.
use Rattle.std.proofs.Common.{◌≡◌, ◌≢◌, ◌↔◌, ℕ, List, true, subst}
use Rattle.std.specs.Bool.{MatchBool, ⊤}
use Rattle.dw_base.specs.RelocChanges.{RelocFits}
use Rattle.dw_base.specs.SectionRelocations.{RelocationSource}
use Rattle.dw_patch.specs.RecordMoves.{record_at}
use Rattle.dw_patch.proofs.RecordMoveLaws.{put-others}
use Rattle.dw_patch.proofs.records.put_record.Goals as goal

pub returns-clause-others : goal.returns-clause-others
returns-clause-others c =
    let put = c.set_reloc-put in
    let old : List ℕ = c.args.out.now in
    let new : List ℕ = put.new.table in
    put-others c.args.source.now c.args.index c.place_by-place.result _ c.addend_after-addend.result _ old new put.result
    c.requires.there c.requires.long c.place_by-place.ensures.place c.addend_after-addend.ensures.addend c.requires.place c.addend_after-addend.ensures.fits
    (subst (λ (g : RelocationSource). (put.result ≡ true) ↔ RelocFits g.class g.rela old c.args.index c.place_by-place.result c.addend_after-addend.result)
    c.source.view_is put.ensures.fits)
    (λ k. subst (λ (g : RelocationSource). MatchBool put.result (k ≢ c.args.index → record_at g new k ≡ record_at g old k) ⊤) c.source.view_is (put.ensures.others k))
