-- One differs, or all agree.
use Rattle.std.proofs.Common.{rules, ◌≡◌, true, false, arith}
use Rattle.dw_macros.specs.EventMeanings.{text_bytes}
use Rattle.dbg_check.proofs.ListLaws.{far-more, far-no, far-yes}
use Rattle.dbg_check.proofs.ValueLaws.{not-told}
use Rattle.dbg_check.specs.Tables.{PathAgrees}
use Rattle.dbg_check.proofs.lines.all_dirs.Goals as goal

pub returns-then-not-path_agrees : goal.returns-then-not-path_agrees
returns-then-not-path_agrees c =
    let differs : c.path_agrees.result ≡ false = search rules in
    record { value = far-no (PathAgrees c.args.maps.now) (text_bytes c.args.old.now) (text_bytes c.args.new.now) c.args.dirs.now c.args.others.now c.loop-number.number _ _ c.loop-number.invariant (omega arith) (not-told c.path_agrees.result _ c.path_agrees.ensures.value differs) }

pub loop-number-preserved : goal.loop-number-preserved
loop-number-preserved c =
    let same : c.path_agrees.result ≡ true = search rules in
    far-more (PathAgrees c.args.maps.now) (text_bytes c.args.old.now) (text_bytes c.args.new.now) c.args.dirs.now c.args.others.now c.loop-number.number _ _ c.loop-number.invariant (omega arith)
    (c.path_agrees.ensures.value.0 same)

pub returns : goal.returns
returns c =
    record { value = far-yes (PathAgrees c.args.maps.now) (text_bytes c.args.old.now) (text_bytes c.args.new.now) c.args.dirs.now c.args.others.now c.loop-number.number c.loop-number.invariant (omega arith) }
