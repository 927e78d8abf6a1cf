-- What the work folder holds, by its name and the key of the words.
use Rattle.std.proofs.Common.{◌∙◌, refl}
use Rattle.root_run.proofs.FirstLaws.{err-row}
use Rattle.src_gather.specs.Starts.{FolderEnds as folder}
use Rattle.src_gather.proofs.FirstLaws.{folder-is, folder-looked}
use Rattle.src_gather.proofs.starting.open_folder.Goals as goal

pub returns-in_err-work-clause-ends : goal.returns-in_err-work-clause-ends
returns-in_err-work-clause-ends g c = err-row _ _ _ c.from_residual.ensures.1 (folder.no_memory refl)

pub returns-in_err-key-clause-ends : goal.returns-in_err-key-clause-ends
returns-in_err-key-clause-ends g c = err-row _ _ _ c.from_residual-in_err-key.ensures.1 (folder.no_memory refl)

pub returns-in_err-opened-clause-ends : goal.returns-in_err-opened-clause-ends
returns-in_err-opened-clause-ends g c = err-row _ _ _ c.from_residual-in_err-opened.ensures.1
    (folder.opening (folder-is _ _ _ _ _ _ _ _ c.in_err-opened.was
    (folder-looked _ _ _ _ _ _ _ _ _ (c.as_str.ensures.value ∙ c.in_ok-work.ensures.value) c.in_ok-key.ensures.value c.open_work.ensures.opens c.open_work.ensures.looked)))

pub returns-clause-opened : goal.returns-clause-opened
returns-clause-opened g c =
    folder-is _ _ _ _ _ _ _ _ c.in_ok-opened.was
    (folder-looked _ _ _ _ _ _ _ _ _ (c.as_str.ensures.value ∙ c.in_ok-work.ensures.value) c.in_ok-key.ensures.value c.open_work.ensures.opens c.open_work.ensures.looked)
