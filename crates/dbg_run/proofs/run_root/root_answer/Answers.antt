-- What the run over the root promises, of the judge that the options make.
use Rattle.std.proofs.Common.{◌≡◌}
use Rattle.dbg_run.proofs.AnswerLaws.{answered_ran}
use Rattle.dbg_run.proofs.StartLaws.{only_below}
use Rattle.dbg_run.proofs.run_root.root_answer.Goals as goal

pub returns : goal.returns
returns g c =
    let ran = c.run_root.ensures in
    let value = c.new-judge.ensures.value in
    let same : c.new-judge.result.options.now ≡ c.args.options.now = cc in
    record {
      ran = answered_ran _ _ _ _ _ _ _ same (record {
        images = ran.images;
        done = ran.done;
        steps = ran.steps;
        settles = ran.settles;
        mild = ran.mild c.requires.key;
        refused = ran.refused;
        ends = ran.ends;
        fault = ran.fault;
        due = ran.due;
        exact = ran.exact;
        completes = ran.completes c.requires.key;
        below = only_below c.args.root.now (g.T.Tree.seen c.args.tree.now) (g.T.Tree.seen c.run_root.new.tree) ran.tells ran.below;
        tells = ran.tells;
      });
    }
