-- What the end of the steps says of the whole, whose limit is that of the options.
use Rattle.std.proofs.Common.{ap}
use Rattle.job_types.specs.Settings.{Settings}
use Rattle.dbg_run.specs.Edits.{ListedEnds as listed}
use Rattle.dbg_run.proofs.EditEndLaws.{listed_answers, listed_ended, listed_fault, listed_kept, listed_known, listed_others, listed_silent, listed_within}
use Rattle.dbg_run.proofs.edit.edit_listed.Goals as goal

pub returns-in-Ok-clause-ends : goal.returns-in-Ok-clause-ends
returns-in-Ok-clause-ends g c = listed_within _ _ _ _ _ _ _ _ _ (ap (λ (s : Settings). s.max_file) c.options.view_is) (listed.done c.in-Ok.ensures.done)

pub returns-in-Ok-clause-done : goal.returns-in-Ok-clause-done
returns-in-Ok-clause-done g c = listed_ended _ _ _ _ _ _ _ _ (listed_within _ _ _ _ _ _ _ _ _ (ap (λ (s : Settings). s.max_file) c.options.view_is) (listed.done c.in-Ok.ensures.done))

pub returns-in-Ok-clause-due : goal.returns-in-Ok-clause-due
returns-in-Ok-clause-due g c = listed_answers _ _ _ _ _ _ _ _ (listed_within _ _ _ _ _ _ _ _ _ (ap (λ (s : Settings). s.max_file) c.options.view_is) (listed.done c.in-Ok.ensures.done))

pub returns-in-Ok-clause-not_usage : goal.returns-in-Ok-clause-not_usage
returns-in-Ok-clause-not_usage g c = listed_known _ _ _ _ _ _ _ _ (listed_within _ _ _ _ _ _ _ _ _ (ap (λ (s : Settings). s.max_file) c.options.view_is) (listed.done c.in-Ok.ensures.done))

pub returns-in-Ok-clause-not_output : goal.returns-in-Ok-clause-not_output
returns-in-Ok-clause-not_output g c = listed_silent _ _ _ _ _ _ _ _ (listed_within _ _ _ _ _ _ _ _ _ (ap (λ (s : Settings). s.max_file) c.options.view_is) (listed.done c.in-Ok.ensures.done))

pub returns-in-Ok-clause-fault : goal.returns-in-Ok-clause-fault
returns-in-Ok-clause-fault g c = listed_fault _ _ _ _ _ _ _ _ (listed_within _ _ _ _ _ _ _ _ _ (ap (λ (s : Settings). s.max_file) c.options.view_is) (listed.done c.in-Ok.ensures.done))

pub returns-in-Ok-clause-kept : goal.returns-in-Ok-clause-kept
returns-in-Ok-clause-kept g c = listed_kept _ _ _ _ _ _ _ _ (listed_within _ _ _ _ _ _ _ _ _ (ap (λ (s : Settings). s.max_file) c.options.view_is) (listed.done c.in-Ok.ensures.done))

pub returns-in-Ok-clause-others : goal.returns-in-Ok-clause-others
returns-in-Ok-clause-others g c = listed_others _ _ _ _ _ _ _ _ (listed_within _ _ _ _ _ _ _ _ _ (ap (λ (s : Settings). s.max_file) c.options.view_is) (listed.done c.in-Ok.ensures.done))

pub returns-in-Err-clause-ends : goal.returns-in-Err-clause-ends
returns-in-Err-clause-ends g c = listed_within _ _ _ _ _ _ _ _ _ (ap (λ (s : Settings). s.max_file) c.options.view_is) c.in-Err.ensures.ends

pub returns-in-Err-clause-done : goal.returns-in-Err-clause-done
returns-in-Err-clause-done g c = listed_ended _ _ _ _ _ _ _ _ (listed_within _ _ _ _ _ _ _ _ _ (ap (λ (s : Settings). s.max_file) c.options.view_is) c.in-Err.ensures.ends)

pub returns-in-Err-clause-due : goal.returns-in-Err-clause-due
returns-in-Err-clause-due g c = listed_answers _ _ _ _ _ _ _ _ (listed_within _ _ _ _ _ _ _ _ _ (ap (λ (s : Settings). s.max_file) c.options.view_is) c.in-Err.ensures.ends)

pub returns-in-Err-clause-not_usage : goal.returns-in-Err-clause-not_usage
returns-in-Err-clause-not_usage g c = listed_known _ _ _ _ _ _ _ _ (listed_within _ _ _ _ _ _ _ _ _ (ap (λ (s : Settings). s.max_file) c.options.view_is) c.in-Err.ensures.ends)

pub returns-in-Err-clause-not_output : goal.returns-in-Err-clause-not_output
returns-in-Err-clause-not_output g c = listed_silent _ _ _ _ _ _ _ _ (listed_within _ _ _ _ _ _ _ _ _ (ap (λ (s : Settings). s.max_file) c.options.view_is) c.in-Err.ensures.ends)

pub returns-in-Err-clause-fault : goal.returns-in-Err-clause-fault
returns-in-Err-clause-fault g c = listed_fault _ _ _ _ _ _ _ _ (listed_within _ _ _ _ _ _ _ _ _ (ap (λ (s : Settings). s.max_file) c.options.view_is) c.in-Err.ensures.ends)

pub returns-in-Err-clause-kept : goal.returns-in-Err-clause-kept
returns-in-Err-clause-kept g c = listed_kept _ _ _ _ _ _ _ _ (listed_within _ _ _ _ _ _ _ _ _ (ap (λ (s : Settings). s.max_file) c.options.view_is) c.in-Err.ensures.ends)

pub returns-in-Err-clause-others : goal.returns-in-Err-clause-others
returns-in-Err-clause-others g c = listed_others _ _ _ _ _ _ _ _ (listed_within _ _ _ _ _ _ _ _ _ (ap (λ (s : Settings). s.max_file) c.options.view_is) c.in-Err.ensures.ends)
