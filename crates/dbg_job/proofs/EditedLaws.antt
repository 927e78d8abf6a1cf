-- What the steps of an edit give is the edited file, and what they refuse has a row.
use Rattle.std.proofs.Common.{Bool, true, false, ◌≡◌, ℕ, ◌<◌, ◌≤◌, List, length, sym, ap, ◌∙◌, refl, subst, arith}
use Rattle.std.specs.Prelude.{slice_index}
use Rattle.dw_base.specs.ElfFails.{ElfFails, ElfReads}
use Rattle.dw_base.specs.Layout.{output_limit}
use Rattle.dw_base.specs.Paths.{IsPathMap, PathMap}
use Rattle.dw_base.specs.Refusals.{Blames}
use Rattle.dw_base.specs.declared.fault.Fault.{Fault}
use Rattle.dw_base.specs.declared.fault.Fault.TheVariants.{NoMemory, Refused}
use Rattle.dw_base.specs.declared.fault.Refusal.{Refusal}
use Rattle.dw_meaning.specs.EditRows.{EditFails, IsAccepted}
use Rattle.dw_meaning.specs.EditRows.EditFails.{file}
use Rattle.dw_meaning.specs.FileFails.FileFails.{elf as elf_row}
use Rattle.dw_meaning.specs.FileMeanings.{IsOutput, MeaningKept, file_data}
use Rattle.dw_meaning.specs.Leavings.{NoLeavings}
use Rattle.dw_meaning.specs.Loaded.{LoadedKept}
use Rattle.dw_meaning.proofs.EditRowLaws.{edit-excludes}
use Rattle.build_ident.specs.IdFails.{IdFails}
use Rattle.job_types.specs.Settings.{Settings}
use Rattle.dbg_job.specs.EditedFiles.{EditedFails, IdRefuses, IsAnew, IsEditOf, IsEditable, IsEdited, IsMapped, finished}
use Rattle.dbg_job.specs.EditedFiles.EditedFails.{edit, id}
use Rattle.dbg_job.specs.EditedFiles.IdRefuses.{elf as elf_refuses, id as id_refuses}
use Rattle.dbg_job.specs.NewIds.{IdFits, with_new_id}
use Rattle.dbg_job.specs.SameSections.{SameSections}
use Rattle.dbg_job.proofs.FixedEndLaws.{new-sections}
use Rattle.dbg_job.proofs.IdKeptLaws.{output-id}
use Rattle.dbg_job.proofs.NewIdLaws.{fits-new, leavings-new, loaded-kept, meaning-new, new-id}
use Rattle.dbg_job.proofs.OutputLaws.{output-small}

-- ### The output

pub mapped-is : (m : PathMap) (b out : List ℕ) → IsPathMap m → IsAccepted m b → IsOutput m b out → ((k : ℕ) → slice_index b k < 256) → IsMapped m b out
mapped-is m b out map accepted output bytes = record { map = map; accepted = accepted; output = output; bytes = bytes }

pub ruleset mapped_rules = (mapped-is)

-- ### Its build-id

pub refused-elf : (b : List ℕ) (f : Fault) → Blames (ElfFails b) f → Blames (IdRefuses b) f
refused-elf b NoMemory h = tt
refused-elf b (Refused r) h = elf_refuses h

pub refused-id : (b : List ℕ) (r : Refusal) → ElfReads b → IdFails b r → IdRefuses b r
refused-id b r reads fails = id_refuses reads fails

pub ruleset id_rules = (refused-elf, refused-id)

-- can be put in the output, whose records can be read,
pub output-reads : (m : PathMap) (b out : List ℕ) → MeaningKept m b out → ElfReads out
output-reads m b out kept = kept.new.reads.elf

-- and keeps what it means and what is loaded
pub anew-is : (m : PathMap) (seed b out new : List ℕ) → IsMapped m b out → ((o : List ℕ) → IsOutput m b o → o ≡ out) → new ≡ with_new_id seed out
    → length new ≡ length out → IsAnew m seed b new
anew-is m seed b out new w only is long = record { mapped = out; output = w; only = only; is = is; long = long }

pub anew-means : (m : PathMap) (b out seed new : List ℕ) → IsMapped m b out → IdFits b → MeaningKept m b out → new ≡ with_new_id seed out → length new ≡ length out
    → MeaningKept m b new
anew-means m b out seed new w fits kept is long =
    meaning-new m b out new (new-id m b out seed new w kept.new.reads.elf (output-id m b out w fits) is long) kept

pub anew-loaded : (m : PathMap) (b out seed new : List ℕ) → IsMapped m b out → IdFits b → MeaningKept m b out → LoadedKept b out → new ≡ with_new_id seed out
    → length new ≡ length out → LoadedKept b new
anew-loaded m b out seed new w fits kept loaded is long =
    loaded-kept b out new (new-id m b out seed new w kept.new.reads.elf (output-id m b out w fits) is long) loaded

pub anew-leavings : (m : PathMap) (b out seed new : List ℕ) → IsMapped m b out → IdFits b → MeaningKept m b out → NoLeavings (file_data out)
    → new ≡ with_new_id seed out → length new ≡ length out → NoLeavings (file_data new)
anew-leavings m b out seed new w fits kept none is long =
    leavings-new out new (new-id m b out seed new w kept.new.reads.elf (output-id m b out w fits) is long) none

pub anew-fits : (m : PathMap) (b out seed new : List ℕ) → IsMapped m b out → IdFits b → MeaningKept m b out → new ≡ with_new_id seed out → length new ≡ length out
    → IdFits new
anew-fits m b out seed new w fits kept is long =
    fits-new out new (new-id m b out seed new w kept.new.reads.elf (output-id m b out w fits) is long) (output-id m b out w fits)

pub anew-sections : (m : PathMap) (b out seed new : List ℕ) → IsMapped m b out → IdFits b → MeaningKept m b out → new ≡ with_new_id seed out → length new ≡ length out
    → SameSections b new
anew-sections m b out seed new w fits kept is long =
    new-sections m b out new w (new-id m b out seed new w kept.new.reads.elf (output-id m b out w fits) is long)

pub ruleset anew_rules = (output-reads, anew-is)

-- ### The edited file

pub refused-edit : (s : Settings) (b : List ℕ) (f : Fault) → Blames (EditFails s.maps b) f → Blames (EditedFails s b) f
refused-edit s b NoMemory h = tt
refused-edit s b (Refused r) h = edit h

pub refused-anew : (s : Settings) (b : List ℕ) (f : Fault) → s.build_id ≡ true → Blames (IdRefuses b) f → Blames (EditedFails s b) f
refused-anew s b NoMemory anew h = tt
refused-anew s b (Refused r) anew (elf_refuses h) = edit (file (elf_row h))
refused-anew s b (Refused r) anew (id_refuses reads h) = id anew reads h

-- a file that is taken isn't refused
pub editable-excludes : (s : Settings) (b : List ℕ) (r : Refusal) → IsEditable s b → EditedFails s b r → ⊥
editable-excludes s b r w (edit fails) = edit-excludes s.maps b r w.accepted fails
editable-excludes s b r w (id anew reads fails) = (w.id anew).none r fails

-- with the build-id as it is
pub plain-finished : (s : Settings) (out : List ℕ) → s.build_id ≡ false → finished s out ≡ out
plain-finished s out plain = rw plain refl

pub editable-plain : (s : Settings) (b out : List ℕ) → s.build_id ≡ false → IsMapped s.maps b out → IsEditable s b
editable-plain s b out plain w = record { accepted = w.accepted; id = λ anew. absurd (differ s.build_id plain anew) }
  where
    differ : (t : Bool) → t ≡ false → t ≡ true → ⊥
    differ true e f = cc
    differ false e f = cc

pub edited-plain : (s : Settings) (b out : List ℕ) → s.build_id ≡ false → IsMapped s.maps b out → IsEdited s b out
edited-plain s b out plain w = record { mapped = out; output = w.output; is = sym (plain-finished s out plain) }

pub edit-plain : (s : Settings) (b out : List ℕ) → s.build_id ≡ false → IsMapped s.maps b out → IsEditOf s b out
edit-plain s b out plain w = record { map = w.map; bytes = w.bytes; editable = editable-plain s b out plain w; edited = edited-plain s b out plain w }

pub only-plain : (s : Settings) (m : PathMap) (b out : List ℕ) → s.build_id ≡ false → m ≡ s.maps → ((o : List ℕ) → IsOutput m b o → o ≡ out)
    → (o : List ℕ) → IsEdited s b o → o ≡ out
only-plain s m b out plain maps only o is =
    is.is ∙ plain-finished s is.mapped plain ∙ only is.mapped (subst (λ (x : PathMap). IsOutput x b is.mapped) (sym maps) is.output)

pub ruleset plain_rules = (refused-edit, editable-plain, edited-plain, edit-plain, editable-excludes)

-- and with a new one
pub anew-finished : (s : Settings) (out : List ℕ) → s.build_id ≡ true → finished s out ≡ with_new_id s.seed out
anew-finished s out anew = rw anew refl

pub editable-anew : (s : Settings) (b new : List ℕ) → IsAnew s.maps s.seed b new → IdFits b → IsEditable s b
editable-anew s b new w fits = record { accepted = w.output.accepted; id = λ anew. fits }

pub edited-anew : (s : Settings) (b new : List ℕ) → s.build_id ≡ true → IsAnew s.maps s.seed b new → IsEdited s b new
edited-anew s b new anew w = record { mapped = w.mapped; output = w.output.output; is = w.is ∙ sym (anew-finished s w.mapped anew) }

pub edit-anew : (s : Settings) (b new : List ℕ) → s.build_id ≡ true → IsAnew s.maps s.seed b new → IdFits b → IsEditOf s b new
edit-anew s b new anew w fits =
    record { map = w.output.map; bytes = w.output.bytes; editable = editable-anew s b new w fits; edited = edited-anew s b new anew w }

pub only-anew : (s : Settings) (m : PathMap) (seed b new : List ℕ) → s.build_id ≡ true → m ≡ s.maps → seed ≡ s.seed → IsAnew m seed b new
    → (o : List ℕ) → IsEdited s b o → o ≡ new
only-anew s m seed b new anew maps seeds w o is =
    is.is ∙ anew-finished s is.mapped anew ∙ ap (λ (x : List ℕ). with_new_id x is.mapped) (sym seeds)
    ∙ ap (λ (x : List ℕ). with_new_id seed x) (w.only is.mapped (subst (λ (x : PathMap). IsOutput x b is.mapped) (sym maps) is.output)) ∙ sym w.is

pub anew-small : (m : PathMap) (seed b new : List ℕ) → IsAnew m seed b new → length new ≤ output_limit
anew-small m seed b new w = omega (arith, w.long, output-small m b w.mapped w.output)

pub fits-always : (b new : List ℕ) → IdFits new → IdFits b → IdFits new
fits-always b new fits old = fits

pub ruleset edited_rules = (refused-edit, refused-anew, editable-anew, edited-anew, edit-anew, editable-excludes, anew-small, fits-always)
