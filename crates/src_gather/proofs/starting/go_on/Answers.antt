-- Each way on.
use Rattle.std.proofs.Common.{ap, map, refl}
use Rattle.std.specs.String.{string_bytes}
use Rattle.root_run.proofs.EnteredLaws.{few-resumed}
use Rattle.src_gather.proofs.CarriedLaws.{go-empty, go-finished, go-resumed}
use Rattle.src_gather.proofs.starting.go_on.Goals as goal

pub returns-in-Finished : goal.returns-in-Finished
returns-in-Finished g c = record {
  went = go-finished _ _ _ _ _ _ _ _ _ _ _ _ c.as_str-work.ensures.value refl _ _ _ c.requires.key c.in-Finished.is c.finished_gather.ensures.ended;
}

pub returns-in-Resumed : goal.returns-in-Resumed
returns-in-Resumed g c = record {
  went = go-resumed _ _ _ _ _ _ _ _ _ _ _ _ c.as_str-work.ensures.value (ap (map string_bytes) c.deref.ensures.value) _ c.in-Resumed.is c.run_plan.ensures.went;
}

pub returns : goal.returns
returns g c = record {
  went = go-empty _ _ _ _ _ _ _ _ _ _ _ _ c.as_str-work.ensures.value (ap (map string_bytes) c.deref-in-Empty.ensures.value) c.in-Empty.is c.new_gather.ensures.went;
}

pub run_plan-requires : goal.run_plan-requires
run_plan-requires g c = record { some = c.requires.some; most = c.requires.most; few = few-resumed _ _ c.in-Resumed.is c.requires.few }
