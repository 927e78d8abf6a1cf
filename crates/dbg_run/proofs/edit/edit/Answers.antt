-- What the end of the steps says of the whole, whose limit is that of the options.
use Rattle.std.proofs.Common.{ap}
use Rattle.job_types.specs.Settings.{Settings}
use Rattle.dbg_run.specs.Edits.{EditEnds as edits}
use Rattle.dbg_run.proofs.EditEndLaws.{edit_answers, edit_ended, edit_fault, edit_kept, edit_known, edit_others, edit_silent, edit_within}
use Rattle.dbg_run.proofs.edit.edit.Goals as goal

pub returns-in-Ok-clause-ends : goal.returns-in-Ok-clause-ends
returns-in-Ok-clause-ends g c = edit_within _ _ _ _ _ _ _ _ (ap (λ (s : Settings). s.max_file) c.options.view_is) (edits.done c.in-Ok.ensures.done)

pub returns-in-Ok-clause-done : goal.returns-in-Ok-clause-done
returns-in-Ok-clause-done g c = edit_ended _ _ _ _ _ _ _ (edit_within _ _ _ _ _ _ _ _ (ap (λ (s : Settings). s.max_file) c.options.view_is) (edits.done c.in-Ok.ensures.done))

pub returns-in-Ok-clause-due : goal.returns-in-Ok-clause-due
returns-in-Ok-clause-due g c = edit_answers _ _ _ _ _ _ _ (edit_within _ _ _ _ _ _ _ _ (ap (λ (s : Settings). s.max_file) c.options.view_is) (edits.done c.in-Ok.ensures.done))

pub returns-in-Ok-clause-not_usage : goal.returns-in-Ok-clause-not_usage
returns-in-Ok-clause-not_usage g c = edit_known _ _ _ _ _ _ _ (edit_within _ _ _ _ _ _ _ _ (ap (λ (s : Settings). s.max_file) c.options.view_is) (edits.done c.in-Ok.ensures.done))

pub returns-in-Ok-clause-not_output : goal.returns-in-Ok-clause-not_output
returns-in-Ok-clause-not_output g c = edit_silent _ _ _ _ _ _ _ (edit_within _ _ _ _ _ _ _ _ (ap (λ (s : Settings). s.max_file) c.options.view_is) (edits.done c.in-Ok.ensures.done))

pub returns-in-Ok-clause-fault : goal.returns-in-Ok-clause-fault
returns-in-Ok-clause-fault g c = edit_fault _ _ _ _ _ _ _ (edit_within _ _ _ _ _ _ _ _ (ap (λ (s : Settings). s.max_file) c.options.view_is) (edits.done c.in-Ok.ensures.done))

pub returns-in-Ok-clause-kept : goal.returns-in-Ok-clause-kept
returns-in-Ok-clause-kept g c = edit_kept _ _ _ _ _ _ _ (edit_within _ _ _ _ _ _ _ _ (ap (λ (s : Settings). s.max_file) c.options.view_is) (edits.done c.in-Ok.ensures.done))

pub returns-in-Ok-clause-others : goal.returns-in-Ok-clause-others
returns-in-Ok-clause-others g c = edit_others _ _ _ _ _ _ _ (edit_within _ _ _ _ _ _ _ _ (ap (λ (s : Settings). s.max_file) c.options.view_is) (edits.done c.in-Ok.ensures.done))

pub returns-in-Err-clause-ends : goal.returns-in-Err-clause-ends
returns-in-Err-clause-ends g c = edit_within _ _ _ _ _ _ _ _ (ap (λ (s : Settings). s.max_file) c.options.view_is) c.in-Err.ensures.ends

pub returns-in-Err-clause-done : goal.returns-in-Err-clause-done
returns-in-Err-clause-done g c = edit_ended _ _ _ _ _ _ _ (edit_within _ _ _ _ _ _ _ _ (ap (λ (s : Settings). s.max_file) c.options.view_is) c.in-Err.ensures.ends)

pub returns-in-Err-clause-due : goal.returns-in-Err-clause-due
returns-in-Err-clause-due g c = edit_answers _ _ _ _ _ _ _ (edit_within _ _ _ _ _ _ _ _ (ap (λ (s : Settings). s.max_file) c.options.view_is) c.in-Err.ensures.ends)

pub returns-in-Err-clause-not_usage : goal.returns-in-Err-clause-not_usage
returns-in-Err-clause-not_usage g c = edit_known _ _ _ _ _ _ _ (edit_within _ _ _ _ _ _ _ _ (ap (λ (s : Settings). s.max_file) c.options.view_is) c.in-Err.ensures.ends)

pub returns-in-Err-clause-not_output : goal.returns-in-Err-clause-not_output
returns-in-Err-clause-not_output g c = edit_silent _ _ _ _ _ _ _ (edit_within _ _ _ _ _ _ _ _ (ap (λ (s : Settings). s.max_file) c.options.view_is) c.in-Err.ensures.ends)

pub returns-in-Err-clause-fault : goal.returns-in-Err-clause-fault
returns-in-Err-clause-fault g c = edit_fault _ _ _ _ _ _ _ (edit_within _ _ _ _ _ _ _ _ (ap (λ (s : Settings). s.max_file) c.options.view_is) c.in-Err.ensures.ends)

pub returns-in-Err-clause-kept : goal.returns-in-Err-clause-kept
returns-in-Err-clause-kept g c = edit_kept _ _ _ _ _ _ _ (edit_within _ _ _ _ _ _ _ _ (ap (λ (s : Settings). s.max_file) c.options.view_is) c.in-Err.ensures.ends)

pub returns-in-Err-clause-others : goal.returns-in-Err-clause-others
returns-in-Err-clause-others g c = edit_others _ _ _ _ _ _ _ (edit_within _ _ _ _ _ _ _ _ (ap (λ (s : Settings). s.max_file) c.options.view_is) c.in-Err.ensures.ends)
