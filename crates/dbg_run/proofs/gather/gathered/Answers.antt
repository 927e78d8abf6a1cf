-- What the gather promises, by the texts that the words name.
use Rattle.dbg_run.proofs.GatherLaws.{asked_at, gathered_at, result_completes, result_ended, result_fault}
use Rattle.dbg_run.proofs.StartLaws.{only_below}
use Rattle.dbg_run.proofs.gather.gathered.Goals as goal

pub gather-requires : goal.gather-requires
gather-requires g c = record {
  some = c.requires.some;
  most = c.requires.most;
  asked = asked_at _ _ _ _ _ _ c.as_str.ensures.value c.as_str-2.ensures.value c.as_str-3.ensures.value c.requires.asked;
}

pub returns : goal.returns
returns g c =
    let ran = c.gather.ensures in
    record {
      ran = gathered_at _ _ _ _ _ _ _ _ _ _ c.as_str.ensures.value c.as_str-2.ensures.value c.as_str-3.ensures.value (record {
        images = ran.images;
        ended = result_ended _ _ _ (g.T.Tree.seen c.args.tree.now) (g.T.Tree.seen c.gather.new.tree) c.gather.result ran.done;
        steps = ran.steps;
        settles = ran.settles;
        mild = ran.mild;
        ends = ran.ends;
        due = ran.due;
        exact = ran.exact;
        fault = result_fault _ _ _ (g.T.Tree.seen c.args.tree.now) (g.T.Tree.seen c.gather.new.tree) c.gather.result ran.ends;
        completes = λ u calm. result_completes c.gather.result (ran.completes u.start u.underway u.unopposed calm);
        below = only_below _ (g.T.Tree.seen c.args.tree.now) (g.T.Tree.seen c.gather.new.tree) ran.tells ran.below;
        tells = ran.tells;
      });
    }
