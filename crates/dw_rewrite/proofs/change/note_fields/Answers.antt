-- No path is noted yet, one more, and all; a table that is too long at a field is too long at the end.
use Rattle.std.proofs.Common.{◌≡◌, ◌+◌, ◌∙◌, List, ℕ, ap, arith, drop, length, refl, subst, sym}
use Rattle.std.proofs.lemmas.List.{drop_all, get_or_default}
use Rattle.std.proofs.lemmas.Result.{err_from_is_err_and}
use Rattle.dw_offsets.specs.declared.fields.OffsetField.{OffsetField}
use Rattle.dw_lines.specs.NewTexts.{known_by}
use Rattle.dw_rewrite.specs.Changes.{AreNoted, texts_at}
use Rattle.dw_rewrite.proofs.NewOffsetLaws.{remembers_all}
use Rattle.dw_rewrite.proofs.ChangedLaws.{noted_start, noted_step, path_there, refused_at, remembers_on, texts_step}
use Rattle.dw_rewrite.proofs.change.note_fields.Goals as goal

pub returns-in_err-note_field-clause-refused : goal.returns-in_err-note_field-clause-refused
returns-in_err-note_field-clause-refused c =
    let p = err_from_is_err_and c.from_residual.result c.from_residual.ensures.1 in
    rw (p.1, p.2) (refused_at c.args.maps.now c.args.source.now c.loop-at.pool.texts c.args.pool.now.texts c.args.fields.now c.loop-at.at-index _ c.in_err-note_field.field-0.0 (omega arith)
    (get_or_default c.args.fields.now c.loop-at.at-index _ _ (omega arith)) c.loop-at.invariant.texts c.in_err-note_field.ensures.refused)

pub note_field-requires-clause-field : goal.note_field-requires-clause-field
note_field-requires-clause-field c = path_there c.args.source.now c.args.fields.now c.loop-at.at-index _ c.requires.texts c.loop-at-test.true (get_or_default c.args.fields.now c.loop-at.at-index _ _ c.loop-at-test.true)

pub loop-at-init : goal.loop-at-init
loop-at-init c = record {
  kept = c.requires.kept;
  small = c.requires.small;
  texts = refl;
  knows = c.requires.knows;
  noted = noted_start c.args.source.now c.args.fields.now (known_by c.args.known.now);
  remembers = remembers_all (known_by c.args.known.now);
}

pub loop-at-preserved : goal.loop-at-preserved
loop-at-preserved c = record {
  kept = c.in_ok-note_field.ensures.kept;
  small = c.in_ok-note_field.ensures.small;
  texts = ap (λ (ts : List (List ℕ)). texts_at c.args.maps.now c.args.source.now ts (drop (c.loop-at.at-index + 1) c.args.fields.now)) c.in_ok-note_field.ensures.texts
      ∙ texts_step c.args.maps.now c.args.source.now c.loop-at.pool.texts c.args.fields.now c.loop-at.at-index _ c.loop-at-test.true
      (get_or_default c.args.fields.now c.loop-at.at-index _ _ c.loop-at-test.true) ∙ c.loop-at.invariant.texts;
  knows = c.in_ok-note_field.ensures.knows;
  noted = noted_step c.args.source.now c.args.fields.now c.loop-at.at-index _ (known_by c.loop-at.known) (known_by c.note_field.new.known)
      (get_or_default c.args.fields.now c.loop-at.at-index _ _ c.loop-at-test.true) c.loop-at.invariant.noted c.in_ok-note_field.ensures.remembers c.in_ok-note_field.ensures.noted;
  remembers = remembers_on (known_by c.args.known.now) (known_by c.loop-at.known) (known_by c.note_field.new.known) c.loop-at.invariant.remembers
      c.in_ok-note_field.ensures.remembers;
}

pub returns-clause-texts : goal.returns-clause-texts
returns-clause-texts c =
    ap (λ (fs : List OffsetField). texts_at c.args.maps.now c.args.source.now c.loop-at.pool.texts fs) (sym (drop_all c.loop-at.at-index c.args.fields.now c.loop-at-test.false))
    ∙ c.loop-at.invariant.texts

pub returns-clause-noted : goal.returns-clause-noted
returns-clause-noted c =
    let over : c.loop-at.at-index ≡ length c.args.fields.now = omega arith in
    subst (λ (n : ℕ). AreNoted c.args.source.now c.args.fields.now n (known_by c.loop-at.known)) over c.loop-at.invariant.noted
