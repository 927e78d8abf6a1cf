-- What an edited file keeps, by all options: its meaning, what is loaded of it, its sections, that no text is left in it, and that nothing is wrong with its
-- build-id.
use Rattle.std.proofs.Common.{Bool, true, false, ◌≡◌, ℕ, ◌≤◌, List, length, refl, sym, ap, ◌∙◌, subst, arith}
use Rattle.dw_base.specs.Layout.{output_limit}
use Rattle.dw_base.specs.Paths.{PathMap}
use Rattle.dw_meaning.specs.FileMeanings.{MeaningKept, file_data}
use Rattle.dw_meaning.specs.Leavings.{NoLeavings}
use Rattle.dw_meaning.specs.Loaded.{LoadedKept}
use Rattle.job_types.specs.Settings.{Settings}
use Rattle.dbg_job.specs.EditedFiles.{IsEditOf, IsMapped}
use Rattle.dbg_job.specs.NewIds.{IdFits, with_new_id}
use Rattle.dbg_job.specs.SameSections.{SameSections}
use Rattle.dbg_job.proofs.EditedLaws.{anew-finished, anew-fits, anew-leavings, anew-loaded, anew-means, anew-sections, mapped-is, plain-finished}
use Rattle.dbg_job.proofs.FixedEndLaws.{output-sections}
use Rattle.dbg_job.proofs.IdKeptLaws.{output-id}
use Rattle.dbg_job.proofs.MappedKeptLaws.{mapped-leavings, mapped-loaded, mapped-means}
use Rattle.dbg_job.proofs.NewIdLaws.{new-long}
use Rattle.dbg_job.proofs.OutputLaws.{output-small}

pub record IsKept (m : PathMap) (b file : List ℕ) : Type 0 where
  pub meaning : MeaningKept m b file
  pub loaded : LoadedKept b file
  pub leavings : NoLeavings (file_data file)
  pub sections : SameSections b file
  pub small : length file ≤ output_limit
  pub fits : IdFits b → IdFits file

mapped-kept : (m : PathMap) (b out : List ℕ) → IsMapped m b out → IsKept m b out
mapped-kept m b out w = record {
  meaning = mapped-means m b out w;
  loaded = mapped-loaded m b out w;
  leavings = mapped-leavings m b out w;
  sections = output-sections m b out w;
  small = output-small m b out w;
  fits = output-id m b out w;
}

-- with a new build-id
anew-kept : (m : PathMap) (seed b out file : List ℕ) → IsMapped m b out → IdFits b → IsKept m b out → file ≡ with_new_id seed out → IsKept m b file
anew-kept m seed b out file w fits kept is =
    let long : length file ≡ length out = ap length is ∙ new-long seed out kept.meaning.new.reads.elf (kept.fits fits) in
    record {
      meaning = anew-means m b out seed file w fits kept.meaning is long;
      loaded = anew-loaded m b out seed file w fits kept.meaning kept.loaded is long;
      leavings = anew-leavings m b out seed file w fits kept.meaning kept.leavings is long;
      sections = anew-sections m b out seed file w fits kept.meaning is long;
      small = omega (arith, long, kept.small);
      fits = λ _. anew-fits m b out seed file w fits kept.meaning is long;
    }

mapped-of : (s : Settings) (b file : List ℕ) (e : IsEditOf s b file) → IsMapped s.maps b e.edited.mapped
mapped-of s b file e = mapped-is s.maps b e.edited.mapped e.map e.editable.accepted e.edited.output e.bytes

pub edit-kept : (s : Settings) (b file : List ℕ) → IsEditOf s b file → IsKept s.maps b file
edit-kept s b file e = by_id s.build_id refl
  where
    by_id : (t : Bool) → s.build_id ≡ t → IsKept s.maps b file
    by_id true anew =
        anew-kept s.maps s.seed b e.edited.mapped file (mapped-of s b file e) (e.editable.id anew) (mapped-kept s.maps b e.edited.mapped (mapped-of s b file e))
        (e.edited.is ∙ anew-finished s e.edited.mapped anew)
    by_id false plain =
        subst (IsKept s.maps b) (sym (e.edited.is ∙ plain-finished s e.edited.mapped plain)) (mapped-kept s.maps b e.edited.mapped (mapped-of s b file e))
