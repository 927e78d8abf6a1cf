-- The laws, each by its lemma.
use Rattle.dbg_job.proofs.MadeLaws.{made-excludes, made-ids, made-is, made-keeps}
use Rattle.dbg_job.proofs.OutcomeOneLaws.{edited-one, outcome-one}
use Rattle.dbg_job.proofs.RisingNameLaws.{made-names, made-texts}
use Rattle.dbg_job.proofs.laws.outcome_laws.Goals as goal

pub returns-clause-edited : goal.returns-clause-edited
returns-clause-edited c = edited-one

pub returns-clause-one : goal.returns-clause-one
returns-clause-one c = outcome-one

pub returns-clause-made : goal.returns-clause-made
returns-clause-made c = made-is

pub returns-clause-keeps : goal.returns-clause-keeps
returns-clause-keeps c = made-keeps

pub returns-clause-excludes : goal.returns-clause-excludes
returns-clause-excludes c = made-excludes

pub returns-clause-ids : goal.returns-clause-ids
returns-clause-ids c = made-ids

pub returns-clause-names : goal.returns-clause-names
returns-clause-names c = made-names

pub returns-clause-texts : goal.returns-clause-texts
returns-clause-texts c = made-texts
