-- Each clause is a law on what a start did.
use Rattle.std.proofs.lemmas.Result.{IfErr-weaker}
use Rattle.src_gather.proofs.CompleteLaws.{start-completes}
use Rattle.src_gather.proofs.CoreLaws.{start-leads, start-settles}
use Rattle.src_gather.proofs.EndsLaws.{ends-fault, ends-kept, ends-never, start-ends}
use Rattle.src_gather.proofs.ExactLaws.{start-due, start-exact}
use Rattle.src_gather.proofs.KeptLaws.{start-kept}
use Rattle.src_gather.proofs.StartLaws.{start-done, start-mild, start-stays}
use Rattle.src_gather.proofs.gathering.gather.Goals as goal

pub start_gather-requires : goal.start_gather-requires
start_gather-requires g c = record { some = c.requires.some; most = c.requires.most; dest = c.requires.asked.is_dest.prefix }

pub returns-clause-images : goal.returns-clause-images
returns-clause-images g c = λ start u. start-stays start c.args.root.now c.args.from.now c.args.dest.now c.requires.asked u.clean _ _ _ u _ c.start_gather.ensures.ran

pub returns-clause-done : goal.returns-clause-done
returns-clause-done g c = λ start u. start-done start c.args.root.now c.args.from.now c.args.dest.now c.requires.asked u.clean _ _ _ u _ c.start_gather.ensures.ran

pub returns-clause-steps : goal.returns-clause-steps
returns-clause-steps g c = λ start u core shown. start-leads start c.args.root.now c.args.from.now c.args.dest.now c.requires.asked _ _ _ u _ c.start_gather.ensures.ran core shown

pub returns-clause-settles : goal.returns-clause-settles
returns-clause-settles g c = λ start u. start-settles start c.args.root.now c.args.from.now c.args.dest.now c.requires.asked _ _ _ u _ c.start_gather.ensures.ran

pub returns-clause-mild : goal.returns-clause-mild
returns-clause-mild g c = λ start u. start-mild start c.args.root.now c.args.from.now c.args.dest.now c.requires.asked u.clean _ _ _ u _ c.start_gather.ensures.ran

pub returns-clause-ends : goal.returns-clause-ends
returns-clause-ends g c = start-ends c.args.root.now c.args.from.now c.args.dest.now c.requires.asked _ _ _ _ c.start_gather.ensures.ran

pub returns-clause-due : goal.returns-clause-due
returns-clause-due g c = start-due c.args.root.now c.args.from.now c.args.dest.now c.requires.asked _ _ _ _ c.start_gather.ensures.ran

pub returns-clause-exact : goal.returns-clause-exact
returns-clause-exact g c = start-exact c.args.root.now c.args.from.now c.args.dest.now c.requires.asked _ _ _ _ c.start_gather.ensures.ran

pub returns-clause-never : goal.returns-clause-never
returns-clause-never g c =
    IfErr-weaker _ _ _ (ends-never c.args.root.now c.args.from.now c.args.dest.now _ _) (start-ends c.args.root.now c.args.from.now c.args.dest.now c.requires.asked _ _ _ _ c.start_gather.ensures.ran)

pub returns-clause-fault : goal.returns-clause-fault
returns-clause-fault g c =
    IfErr-weaker _ _ _ (ends-fault c.args.root.now c.args.from.now c.args.dest.now _ _) (start-ends c.args.root.now c.args.from.now c.args.dest.now c.requires.asked _ _ _ _ c.start_gather.ensures.ran)

pub returns-clause-kept : goal.returns-clause-kept
returns-clause-kept g c =
    IfErr-weaker _ _ _ (ends-kept c.args.root.now c.args.from.now c.args.dest.now _ _) (start-ends c.args.root.now c.args.from.now c.args.dest.now c.requires.asked _ _ _ _ c.start_gather.ensures.ran)

pub returns-clause-completes : goal.returns-clause-completes
returns-clause-completes g c =
    λ start u free calm. start-completes start c.args.root.now c.args.from.now c.args.dest.now c.requires.asked _ _ _ u free calm _ c.start_gather.ensures.ran

pub returns-clause-tells : goal.returns-clause-tells
returns-clause-tells g c = (start-kept c.args.root.now c.args.from.now c.args.dest.now c.requires.asked.is_dest _ _ _ _ c.start_gather.ensures.ran).tells

pub returns-clause-later : goal.returns-clause-later
returns-clause-later g c = (start-kept c.args.root.now c.args.from.now c.args.dest.now c.requires.asked.is_dest _ _ _ _ c.start_gather.ensures.ran).later

pub returns-clause-below : goal.returns-clause-below
returns-clause-below g c = (start-kept c.args.root.now c.args.from.now c.args.dest.now c.requires.asked.is_dest _ _ _ _ c.start_gather.ensures.ran).others
