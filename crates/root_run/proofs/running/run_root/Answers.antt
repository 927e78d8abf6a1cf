-- Each clause is a law on what a start did.
use Rattle.std.proofs.Common.{rules}
use Rattle.std.proofs.lemmas.Result.{IfErr-weaker}
use Rattle.root_plan.specs.Verdicts.{IsJudge}
use Rattle.root_run.proofs.CauseLaws.{start-kept}
use Rattle.root_run.proofs.EnteredLaws.{limit-few}
use Rattle.root_run.proofs.RunLaws.{ran-leaves, ran-done, ran-leads, ran-settles, ran-mild, ran-completes}
use Rattle.root_run.proofs.StartEndsLaws.{start-ends, start-due, start-exact}
use Rattle.root_run.proofs.StatusLaws.{status-fault, status-same, status-refused, status-changed}
use Rattle.root_run.proofs.running.run_root.Goals as goal

pub returns-clause-images : goal.returns-clause-images
returns-clause-images g c = λ start u.
    let judge : IsJudge (g.J.Judge.view c.args.judge) = search rules in
    ran-leaves start c.args.root.now c.args.options.now _ _ _ _ judge _ _ _ u c.use_options.ensures.map c.use_options.ensures.within _ c.start_run.ensures.ran

pub returns-clause-done : goal.returns-clause-done
returns-clause-done g c = λ start u.
    let judge : IsJudge (g.J.Judge.view c.args.judge) = search rules in
    ran-done start c.args.root.now c.args.options.now _ _ _ _ judge _ _ _ u c.use_options.ensures.map c.use_options.ensures.within _ c.start_run.ensures.ran

pub returns-clause-steps : goal.returns-clause-steps
returns-clause-steps g c = λ start u core shown.
    let judge : IsJudge (g.J.Judge.view c.args.judge) = search rules in
    ran-leads start c.args.root.now c.args.options.now _ _ _ _ judge _ _ _ u c.use_options.ensures.map c.use_options.ensures.within _ c.start_run.ensures.ran core shown

pub returns-clause-settles : goal.returns-clause-settles
returns-clause-settles g c = λ start u.
    let judge : IsJudge (g.J.Judge.view c.args.judge) = search rules in
    ran-settles start c.args.root.now c.args.options.now _ _ _ _ judge _ _ _ u c.use_options.ensures.map c.use_options.ensures.within _ c.start_run.ensures.ran

pub returns-clause-mild : goal.returns-clause-mild
returns-clause-mild g c = λ seed start u.
    let judge : IsJudge (g.J.Judge.view c.args.judge) = search rules in
    ran-mild start c.args.root.now c.args.options.now _ _ _ _ judge _ _ _ u c.use_options.ensures.map c.use_options.ensures.within _ c.start_run.ensures.ran seed

pub returns-clause-ends : goal.returns-clause-ends
returns-clause-ends g c =
    let judge : IsJudge (g.J.Judge.view c.args.judge) = search rules in
    start-ends c.args.root.now c.args.options.now _ _ _ _ _ judge (limit-few _ c.use_options.ensures.within) _ _ _ c.start_run.ensures.ran

pub returns-clause-due : goal.returns-clause-due
returns-clause-due g c = λ t here.
    let judge : IsJudge (g.J.Judge.view c.args.judge) = search rules in
    start-due c.args.root.now c.args.options.now _ _ _ _ _ judge (limit-few _ c.use_options.ensures.within) _ _ _ c.start_run.ensures.ran t here

pub returns-clause-exact : goal.returns-clause-exact
returns-clause-exact g c = λ t n here asked.
    let judge : IsJudge (g.J.Judge.view c.args.judge) = search rules in
    start-exact c.args.root.now c.args.options.now _ _ _ _ _ judge (limit-few _ c.use_options.ensures.within) _ _ _ c.start_run.ensures.ran t n here asked

pub returns-clause-fault : goal.returns-clause-fault
returns-clause-fault g c =
    let judge : IsJudge (g.J.Judge.view c.args.judge) = search rules in
    IfErr-weaker _ _ _ (status-fault c.args.root.now _ c.args.options.now _ _ _ _ _ _)
    (start-ends c.args.root.now c.args.options.now _ _ _ _ _ judge (limit-few _ c.use_options.ensures.within) _ _ _ c.start_run.ensures.ran)

pub returns-clause-kept : goal.returns-clause-kept
returns-clause-kept g c =
    let judge : IsJudge (g.J.Judge.view c.args.judge) = search rules in
    IfErr-weaker _ _ _ (status-same c.args.root.now _ c.args.options.now _ _ _ _ _ _)
    (start-ends c.args.root.now c.args.options.now _ _ _ _ _ judge (limit-few _ c.use_options.ensures.within) _ _ _ c.start_run.ensures.ran)

pub returns-clause-refused : goal.returns-clause-refused
returns-clause-refused g c = λ t here.
    let judge : IsJudge (g.J.Judge.view c.args.judge) = search rules in
    IfErr-weaker _ _ _ (status-refused c.args.root.now _ c.args.options.now _ _ _ _ _ _ t here)
    (start-ends c.args.root.now c.args.options.now _ _ _ _ _ judge (limit-few _ c.use_options.ensures.within) _ _ _ c.start_run.ensures.ran)

pub returns-clause-changed : goal.returns-clause-changed
returns-clause-changed g c = λ t here.
    let judge : IsJudge (g.J.Judge.view c.args.judge) = search rules in
    IfErr-weaker _ _ _ (status-changed c.args.root.now _ c.args.options.now _ _ _ _ _ _ t here)
    (start-ends c.args.root.now c.args.options.now _ _ _ _ _ judge (limit-few _ c.use_options.ensures.within) _ _ _ c.start_run.ensures.ran)

pub returns-clause-completes : goal.returns-clause-completes
returns-clause-completes g c = λ seed start u unopposed calm.
    let judge : IsJudge (g.J.Judge.view c.args.judge) = search rules in
    ran-completes start c.args.root.now c.args.options.now _ _ _ _ judge _ _ _ u c.use_options.ensures.map c.use_options.ensures.within _ c.start_run.ensures.ran
    (limit-few _ c.use_options.ensures.within) seed unopposed calm

pub returns-clause-tells : goal.returns-clause-tells
returns-clause-tells g c = (start-kept c.args.root.now c.args.options.now _ _ _ _ _ _ _ _ c.start_run.ensures.ran).tells

pub returns-clause-later : goal.returns-clause-later
returns-clause-later g c = (start-kept c.args.root.now c.args.options.now _ _ _ _ _ _ _ _ c.start_run.ensures.ran).later

pub returns-clause-below : goal.returns-clause-below
returns-clause-below g c = (start-kept c.args.root.now c.args.options.now _ _ _ _ _ _ _ _ c.start_run.ensures.ran).others
