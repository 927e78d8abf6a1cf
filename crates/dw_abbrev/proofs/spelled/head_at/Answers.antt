-- The tag passes the end, or the flag behind it.
use Rattle.std.proofs.Common.{sym}
use Rattle.dw_base.specs.AbbreviationFails.DeclarationFails.{tag_passes, flag_passes}
use Rattle.dw_abbrev.proofs.spelled.head_at.Goals as goal

pub returns-in_default-clause-none : goal.returns-in_default-clause-none
returns-in_default-clause-none c = tag_passes c.args.code c.args.size c.requires.code c.requires.declares (sym c.in_default.ensures.value)

pub returns-then-place-bytes-clause-none : goal.returns-then-place-bytes-clause-none
returns-then-place-bytes-clause-none c =
    flag_passes c.args.code c.args.size c.in-Some.tag c.in-Some.tag_size c.requires.code c.requires.declares (sym c.in-Some.ensures.value) c.if-place-bytes.true
