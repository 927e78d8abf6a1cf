-- A plan is carried out by a maker of its own.
use Rattle.std.proofs.Common.{◌∙◌, ap, map, refl}
use Rattle.std.specs.String.{string_bytes}
use Rattle.journal_core.specs.Cores.{core_of}
use Rattle.root_run.proofs.CarriedLaws.{texts-made}
use Rattle.root_run.proofs.FirstLaws.{err-is}
use Rattle.src_gather.specs.Starts.CopyWent.{no_start}
use Rattle.src_gather.proofs.CarriedLaws.{went-made}
use Rattle.src_gather.proofs.starting.run_plan.Goals as goal

pub returns-in_err-texts : goal.returns-in_err-texts
returns-in_err-texts g c = record { went = no_start refl (err-is _ _ c.from_residual.ensures.1) }

pub returns-in_err-folder : goal.returns-in_err-folder
returns-in_err-folder g c = record { went = no_start refl (err-is _ _ c.from_residual-in_err-folder.ensures.1) }

pub returns-in_err-maker : goal.returns-in_err-maker
returns-in_err-maker g c = record { went = no_start refl (err-is _ _ c.from_residual-in_err-maker.ensures.1) }

pub returns-in_err-lists : goal.returns-in_err-lists
returns-in_err-lists g c = record { went = no_start refl (err-is _ _ c.from_residual-in_err-lists.ensures.1) }

pub returns-in_err-core : goal.returns-in_err-core
returns-in_err-core g c = record { went = no_start refl (err-is _ _ c.from_residual-in_err-core.ensures.1) }

pub carry_out-requires : goal.carry_out-requires
carry_out-requires g c = record {
  some = c.requires.some;
  most = c.requires.most;
  start = c.in_ok-core.ensures.start;
  texts = texts-made _ _ _ _ _ c.in_ok-maker.ensures.plan c.in_ok-texts.ensures.are;
  lists = c.in_ok-lists.ensures.value;
}

pub returns : goal.returns
returns g c = record {
  went = went-made c.args.work.now c.args.jobs (g.T.Tree.seen c.args.tree.now) (g.T.Tree.seen c.carry_out.new.tree) c.carry_out.result
      (string_bytes c.in_ok-maker.maker.folder) _ (string_bytes c.in_ok-maker.maker.from) c.args.from.now c.in_ok-maker.maker.plan c.args.plan (core_of c.in_ok-core.core)
      c.args.fresh (map string_bytes c.args.present.now)
      (ap (λ s. string_bytes s) c.in_ok-maker.ensures.folder ∙ c.in_ok-folder.ensures.value) c.in_ok-maker.ensures.from c.in_ok-maker.ensures.plan c.in_ok-core.ensures.core
      c.carry_out.ensures.went;
}
