-- Each way on.
use Rattle.std.proofs.Common.{ap, map, refl}
use Rattle.std.specs.String.{string_bytes}
use Rattle.root_run.proofs.EnteredLaws.{go-finished, go-resumed, go-empty, few-resumed}
use Rattle.root_run.proofs.running.go_on.Goals as goal

pub returns-in-Finished : goal.returns-in-Finished
returns-in-Finished g c = record { went = go-finished _ _ _ _ _ _ _ _ _ _ _ _ _ _ _ c.as_str-work.ensures.value refl _ _ c.in-Finished.is c.finished_run.ensures.ended }

pub returns-in-Resumed : goal.returns-in-Resumed
returns-in-Resumed g c = record {
  went = go-resumed _ _ _ _ _ _ _ _ _ _ _ _ _ _ _ c.as_str-work.ensures.value (ap (map string_bytes) c.deref.ensures.value) _ c.in-Resumed.is c.run_plan.ensures.went;
}

pub returns-in-Empty : goal.returns-in-Empty
returns-in-Empty g c = record {
  went = go-empty _ _ _ _ _ _ _ _ _ _ _ _ _ _ _ c.as_str-work.ensures.value (ap (map string_bytes) c.deref-in-Empty.ensures.value) c.in-Empty.is c.new_run.ensures.went;
}

pub run_plan-requires : goal.run_plan-requires
run_plan-requires g c = record { some = c.requires.some; most = c.requires.most; few = few-resumed _ _ c.in-Resumed.is c.requires.few }
