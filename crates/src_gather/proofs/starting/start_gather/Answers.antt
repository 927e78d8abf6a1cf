-- A start ends early, or goes on by what it found.
use Rattle.root_run.proofs.EnteredLaws.{few-opened}
use Rattle.root_run.proofs.FirstLaws.{err-is}
use Rattle.src_gather.specs.Starts.StartRan.{early}
use Rattle.src_gather.proofs.CarriedLaws.{entered-by}
use Rattle.src_gather.proofs.starting.start_gather.Goals as goal

pub returns-in_err-found : goal.returns-in_err-found
returns-in_err-found g c = record { ran = early _ c.in_err-found.ensures.early.early c.in_err-found.ensures.early.ends (err-is _ _ c.from_residual.ensures.1) }

pub go_on-requires : goal.go_on-requires
go_on-requires g c = record {
  some = c.requires.some;
  most = c.requires.most;
  dest = c.requires.dest;
  few = few-opened _ _ _ _ _ c.in_ok-found.ensures.opened.opens;
  key = c.in_ok-found.ensures.key;
}

pub returns : goal.returns
returns g c = record { ran = entered-by _ _ _ _ _ _ _ _ _ _ _ c.in_ok-found.ensures.work c.in_ok-found.ensures.opened c.go_on.ensures.went }
