-- A plan is carried out with its own texts and lists.
use Rattle.std.proofs.Common.{ap, map, ◌∙◌}
use Rattle.std.specs.String.{string_bytes}
use Rattle.journal_core.specs.Cores.{core_of}
use Rattle.work_texts.specs.Lists.{bytes_of}
use Rattle.src_gather.specs.Starts.{report_of}
use Rattle.src_gather.specs.Starts.CopyWent.{started}
use Rattle.src_gather.proofs.CarriedLaws.{carried}
use Rattle.src_gather.proofs.starting.carry_out.Goals as goal

pub finish-ended-requires : goal.finish-ended-requires
finish-ended-requires g c = record { some = c.requires.some; most = c.requires.most; start = c.requires.start }

pub returns : goal.returns
returns g c = record {
  went = started c.finish-ended.result
      (carried c.args.work.now c.args.jobs (g.T.Tree.seen c.args.tree.now) (g.T.Tree.seen c.finish-ended.new.tree) c.finish-ended.result
      (string_bytes c.args.maker.folder) (string_bytes c.args.maker.from) c.args.maker.plan (core_of c.args.core)
      c.args.texts.plan.items c.args.texts.finished.items c.deref.result.now c.args.texts.report (map bytes_of c.args.lists)
      c.requires.texts c.deref.ensures.value c.requires.lists
      (record { ran = c.finish-ended.ensures.ran; cleared = c.finish-ended.ensures.cleared; blame = c.finish-ended.ensures.blame; stays = c.finish-ended.ensures.stays; mild = c.finish-ended.ensures.mild }))
      (c.report_end.ensures.value ∙ ap (report_of c.finish-ended.result) c.requires.texts.report_is);
}
