-- The path at the place, as it is compared.
use Rattle.std.proofs.Common.{ap, ◌∙◌}
use Rattle.std.specs.String.{string_eq}
use Rattle.root_paths.proofs.PlaceLaws.{is_there, is_other}
use Rattle.root_paths.proofs.taken.is_at.Goals as goal

pub returns-clause-there : goal.returns-clause-there
returns-clause-there c t =
    is_there c.args.paths.now c.args.at c.index-paths-at.result c.args.path.now c.eq.result c.if-at-paths.false
    (c.eq.ensures ∙ ap (λ s. string_eq s c.args.path.now) c.index-paths-at.is) t

pub returns-clause-not : goal.returns-clause-not
returns-clause-not c f =
    is_other c.args.paths.now c.args.at c.index-paths-at.result c.args.path.now c.eq.result
    (c.eq.ensures ∙ ap (λ s. string_eq s c.args.path.now) c.index-paths-at.is) f
