-- One differs, or all agree.
use Rattle.std.proofs.Common.{rules, ◌≡◌, true, false, arith}
use Rattle.dbg_check.proofs.ListLaws.{far-more, far-no, far-yes}
use Rattle.dbg_check.proofs.ValueLaws.{not-told}
use Rattle.dbg_check.specs.Tables.{FileAgrees, file_said}
use Rattle.dbg_check.proofs.lines.all_files.Goals as goal

pub returns-then-not-file_agrees : goal.returns-then-not-file_agrees
returns-then-not-file_agrees c =
    let differs : c.file_agrees.result ≡ false = search rules in
    record { value = far-no (FileAgrees c.args.maps.now) (file_said c.args.old.now) (file_said c.args.new.now) c.args.files.now c.args.others.now c.loop-number.number _ _ c.loop-number.invariant (omega arith) (not-told c.file_agrees.result _ c.file_agrees.ensures.value differs) }

pub loop-number-preserved : goal.loop-number-preserved
loop-number-preserved c =
    let same : c.file_agrees.result ≡ true = search rules in
    far-more (FileAgrees c.args.maps.now) (file_said c.args.old.now) (file_said c.args.new.now) c.args.files.now c.args.others.now c.loop-number.number _ _ c.loop-number.invariant (omega arith)
    (c.file_agrees.ensures.value.0 same)

pub returns : goal.returns
returns c =
    record { value = far-yes (FileAgrees c.args.maps.now) (file_said c.args.old.now) (file_said c.args.new.now) c.args.files.now c.args.others.now c.loop-number.number c.loop-number.invariant (omega arith) }
