-- The laws, each by its lemma.
use Rattle.file_judge.specs.FileMakes.{file_makes}
use Rattle.file_judge.proofs.DebugNameLaws.{debug_name-bare, job_path-bare}
use Rattle.file_judge.proofs.KeptNodeLaws.{nodes-keep}
use Rattle.file_judge.proofs.laws.judge_laws.Goals as goal

pub returns-clause-judge : goal.returns-clause-judge
returns-clause-judge c = file_makes

pub returns-clause-keeps : goal.returns-clause-keeps
returns-clause-keeps c = nodes-keep

pub returns-clause-names : goal.returns-clause-names
returns-clause-names c = debug_name-bare

pub returns-clause-paths : goal.returns-clause-paths
returns-clause-paths c = job_path-bare
