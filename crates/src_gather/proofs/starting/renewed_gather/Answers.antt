-- A finished gather whose text is put anew, or for whose text memory is wanting.
use Rattle.std.proofs.Common.{refl, ap, ◌∙◌, List, ℕ}
use Rattle.root_run.proofs.FirstLaws.{err-is}
use Rattle.root_run.proofs.OldLaws.{renewed-ran}
use Rattle.root_run.specs.Starts.{end_text}
use Rattle.src_gather.specs.Starts.ClearEnded.{no_text, renewed}
use Rattle.src_gather.proofs.starting.renewed_gather.Goals as goal

pub returns-in_err-text : goal.returns-in_err-text
returns-in_err-text g c = record { ended = no_text refl (err-is _ _ c.from_residual.ensures.1) }

pub returns : goal.returns
returns g c = record {
  ended = renewed c.renew_finished-renewed.result
      (renewed-ran _ c.args.key.now c.args.report _ _ _ _ _ c.deref.ensures.value
      (c.in_ok-text.ensures.value ∙ ap (λ (t : List ℕ). end_text c.args.key.now t) c.as_slice.ensures.value) c.renew_finished-renewed.ensures.ran)
      c.report_end.ensures.value;
}
