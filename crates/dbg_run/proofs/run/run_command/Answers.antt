-- The edit, the split, the showing, the joining, the run, the gather and the exercise of the words, and that no other command is carried out.
use Rattle.std.proofs.Common.{◌≡◌, ℕ, List, false, Some, sym, ap, ◌∙◌, subst}
use Rattle.dw_base.specs.Texts.{has_nul}
use Rattle.dbg_words.specs.declared.command.Command.{Command}
use Rattle.dbg_words.specs.Words.{texts}
use Rattle.dbg_run.specs.Shows.{base_name}
use Rattle.dbg_run.proofs.BareLaws.{debug-name-bare}
use Rattle.dbg_run.proofs.BuiltLaws.{built_these}
use Rattle.dbg_run.proofs.RootWordLaws.{exercise-words-fit, gather-words-fit, run-words-fit}
use Rattle.dbg_run.proofs.RunLaws.{edit_ends, exercise_ends, exercise_told_due, gather_due, gather_ends, run_due, run_ends, show_ends, split_ends, unstrip_ends}
use Rattle.dbg_run.proofs.StartLaws.{edit_starts, exercise_starts, gather_starts, run_starts, show_starts, split_starts, unstrip_starts}
use Rattle.dbg_run.proofs.run.run_command.Goals as goal

pub returns-clause-ends : goal.returns-clause-ends
returns-clause-ends g c =
    absurd (built_these (texts c.args.words.now) c.in-Some.command (sym c.in-Some.is ∙ c.in-Ok.ensures.command) c.in_default-command.not-Edit c.in_default-command.not-Split c.in_default-command.not-Show c.in_default-command.not-Unstrip c.in_default-command.not-Run c.in_default-command.not-Gather c.in_default-command.not-Exercise)

pub returns-clause-usage : goal.returns-clause-usage
returns-clause-usage g c =
    absurd (built_these (texts c.args.words.now) c.in-Some.command (sym c.in-Some.is ∙ c.in-Ok.ensures.command) c.in_default-command.not-Edit c.in_default-command.not-Split c.in_default-command.not-Show c.in_default-command.not-Unstrip c.in_default-command.not-Run c.in_default-command.not-Gather c.in_default-command.not-Exercise)

pub returns-in-Run-clause-due : goal.returns-in-Run-clause-due
returns-in-Run-clause-due g c =
    run_due _ (g.T.Tree.seen c.args.tree.now) _ c.in-Run.root c.in-Run.options c.in-Run.jobs (sym c.in-Ok.ensures.command ∙ c.in-Some.is ∙ ap (λ (k : Command). Some k) c.in-Run.is)
    c.run_over.ensures.due

pub returns-in-Edit-clause-ends : goal.returns-in-Edit-clause-ends
returns-in-Edit-clause-ends g c =
    edit_ends (texts c.args.words.now) _ _ _ _ c.in-Edit.input c.in-Edit.output _ _ c.in-Edit.options c.in-Edit.list
    (sym c.in-Ok.ensures.command ∙ c.in-Some.is ∙ ap (λ (k : Command). Some k) c.in-Edit.is) c.as_str.ensures.value c.as_str-in-Edit.ensures.value
    c.edit_command.ensures.ends

pub split-requires : goal.split-requires
split-requires g c = record {
  plain = subst (λ (x : List ℕ). has_nul (base_name x) ≡ false) (sym c.as_str-in-Split-3.ensures.value)
      (debug-name-bare (texts c.args.words.now) c.in-Split.input c.in-Split.stripped c.in-Split.debug
      (sym c.in-Ok.ensures.command ∙ c.in-Some.is ∙ ap (λ (k : Command). Some k) c.in-Split.is));
}

pub returns-in-Split-clause-ends : goal.returns-in-Split-clause-ends
returns-in-Split-clause-ends g c =
    split_ends (texts c.args.words.now) _ _ _ _ c.in-Split.input c.in-Split.stripped c.in-Split.debug _ _ _
    (sym c.in-Ok.ensures.command ∙ c.in-Some.is ∙ ap (λ (k : Command). Some k) c.in-Split.is) c.as_str-in-Split.ensures.value c.as_str-in-Split-2.ensures.value
    c.as_str-in-Split-3.ensures.value c.split.ensures.ends

pub returns-in-Show-clause-ends : goal.returns-in-Show-clause-ends
returns-in-Show-clause-ends g c =
    show_ends (texts c.args.words.now) _ _ _ _ _ c.in-Show.file _ c.in-Show.debug
    (sym c.in-Ok.ensures.command ∙ c.in-Some.is ∙ ap (λ (k : Command). Some k) c.in-Show.is) c.as_str-in-Show.ensures.value c.show.ensures.ends

pub returns-in-Unstrip-clause-ends : goal.returns-in-Unstrip-clause-ends
returns-in-Unstrip-clause-ends g c =
    unstrip_ends (texts c.args.words.now) _ _ _ _ c.in-Unstrip.stripped c.in-Unstrip.debug c.in-Unstrip.output _ _ _
    (sym c.in-Ok.ensures.command ∙ c.in-Some.is ∙ ap (λ (k : Command). Some k) c.in-Unstrip.is) c.as_str-in-Unstrip.ensures.value c.as_str-in-Unstrip-2.ensures.value
    c.as_str-in-Unstrip-3.ensures.value c.unstrip.ensures.ends

pub run_over-requires : goal.run_over-requires
run_over-requires g c =
    let fit = run-words-fit (texts c.args.words.now) c.in-Run.root c.in-Run.options c.in-Run.jobs
    (sym c.in-Ok.ensures.command ∙ c.in-Some.is ∙ ap (λ (k : Command). Some k) c.in-Run.is) in
    record { some = fit.0; most = fit.1; key = fit.2 }

pub returns-in-Run-clause-ends : goal.returns-in-Run-clause-ends
returns-in-Run-clause-ends g c =
    run_ends (texts c.args.words.now) _ _ _ _ _ c.in-Run.root c.in-Run.options c.in-Run.jobs
    (sym c.in-Ok.ensures.command ∙ c.in-Some.is ∙ ap (λ (k : Command). Some k) c.in-Run.is) c.run_over.ensures.ends

pub returns-in-Run-clause-starts : goal.returns-in-Run-clause-starts
returns-in-Run-clause-starts g c =
    run_starts _ _ _ _ _ _ c.in-Run.root c.in-Run.options c.in-Run.jobs
    (sym c.in-Ok.ensures.command ∙ c.in-Some.is ∙ ap (λ (k : Command). Some k) c.in-Run.is) c.run_over.ensures.starts

pub returns-in-Edit-clause-starts : goal.returns-in-Edit-clause-starts
returns-in-Edit-clause-starts g c =
    edit_starts _ _ _ _ _ _ c.in-Edit.input c.in-Edit.output c.in-Edit.options c.in-Edit.list (sym c.in-Ok.ensures.command ∙ c.in-Some.is ∙ ap (λ (k : Command). Some k) c.in-Edit.is)

pub returns-in-Split-clause-starts : goal.returns-in-Split-clause-starts
returns-in-Split-clause-starts g c =
    split_starts _ _ _ _ _ _ c.in-Split.input c.in-Split.stripped c.in-Split.debug (sym c.in-Ok.ensures.command ∙ c.in-Some.is ∙ ap (λ (k : Command). Some k) c.in-Split.is)

pub returns-in-Show-clause-starts : goal.returns-in-Show-clause-starts
returns-in-Show-clause-starts g c = show_starts _ _ _ _ _ _ c.in-Show.file c.in-Show.debug (sym c.in-Ok.ensures.command ∙ c.in-Some.is ∙ ap (λ (k : Command). Some k) c.in-Show.is)

pub returns-in-Unstrip-clause-starts : goal.returns-in-Unstrip-clause-starts
returns-in-Unstrip-clause-starts g c =
    unstrip_starts _ _ _ _ _ _ c.in-Unstrip.stripped c.in-Unstrip.debug c.in-Unstrip.output
    (sym c.in-Ok.ensures.command ∙ c.in-Some.is ∙ ap (λ (k : Command). Some k) c.in-Unstrip.is)

pub gather_into-requires : goal.gather_into-requires
gather_into-requires g c =
    let fit = gather-words-fit (texts c.args.words.now) c.in-Gather.root c.in-Gather.from c.in-Gather.dest c.in-Gather.jobs
    (sym c.in-Ok.ensures.command ∙ c.in-Some.is ∙ ap (λ (k : Command). Some k) c.in-Gather.is) in
    record { some = fit.0; most = fit.1; asked = fit.2 }

pub returns-in-Gather-clause-ends : goal.returns-in-Gather-clause-ends
returns-in-Gather-clause-ends g c =
    gather_ends (texts c.args.words.now) _ _ _ _ _ c.in-Gather.root c.in-Gather.from c.in-Gather.dest c.in-Gather.jobs
    (sym c.in-Ok.ensures.command ∙ c.in-Some.is ∙ ap (λ (k : Command). Some k) c.in-Gather.is) c.gather_into.ensures.ends

pub returns-in-Gather-clause-due : goal.returns-in-Gather-clause-due
returns-in-Gather-clause-due g c =
    gather_due _ (g.T.Tree.seen c.args.tree.now) _ c.in-Gather.root c.in-Gather.from c.in-Gather.dest c.in-Gather.jobs
    (sym c.in-Ok.ensures.command ∙ c.in-Some.is ∙ ap (λ (k : Command). Some k) c.in-Gather.is) c.gather_into.ensures.due

pub returns-in-Gather-clause-starts : goal.returns-in-Gather-clause-starts
returns-in-Gather-clause-starts g c =
    gather_starts _ _ _ _ _ _ c.in-Gather.root c.in-Gather.from c.in-Gather.dest c.in-Gather.jobs
    (sym c.in-Ok.ensures.command ∙ c.in-Some.is ∙ ap (λ (k : Command). Some k) c.in-Gather.is) c.gather_into.ensures.starts

pub exercise-requires : goal.exercise-requires
exercise-requires g c =
    let fit = exercise-words-fit (texts c.args.words.now) c.in-Exercise.seed c.in-Exercise.units
    (sym c.in-Ok.ensures.command ∙ c.in-Some.is ∙ ap (λ (k : Command). Some k) c.in-Exercise.is) in
    record { some = fit.0; few = fit.1 }

pub returns-in-Exercise-clause-ends : goal.returns-in-Exercise-clause-ends
returns-in-Exercise-clause-ends g c =
    exercise_ends (texts c.args.words.now) _ _ _ _ c.in-Exercise.seed c.in-Exercise.units
    (sym c.in-Ok.ensures.command ∙ c.in-Some.is ∙ ap (λ (k : Command). Some k) c.in-Exercise.is) c.exercise.ensures.ends

pub returns-in-Exercise-clause-due : goal.returns-in-Exercise-clause-due
returns-in-Exercise-clause-due g c =
    exercise_told_due _ (g.T.Tree.seen c.args.tree.now) _ c.in-Exercise.seed c.in-Exercise.units
    (sym c.in-Ok.ensures.command ∙ c.in-Some.is ∙ ap (λ (k : Command). Some k) c.in-Exercise.is) c.exercise.ensures.due

pub returns-in-Exercise-clause-starts : goal.returns-in-Exercise-clause-starts
returns-in-Exercise-clause-starts g c =
    exercise_starts _ _ _ _ _ _ c.in-Exercise.seed c.in-Exercise.units
    (sym c.in-Ok.ensures.command ∙ c.in-Some.is ∙ ap (λ (k : Command). Some k) c.in-Exercise.is)
