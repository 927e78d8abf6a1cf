-- A value that can't be read is a refusal of the walk.
use Rattle.dw_entries.proofs.WalkLaws.{gives-fault}
use Rattle.dw_entries.proofs.values.EntryValuesIterator.next.Goals as goal

pub returns-in-Err-clause-steps : goal.returns-in-Err-clause-steps
returns-in-Err-clause-steps c =
    rw (← c.self.view_is)
    (gives-fault c.self.inside.params c.self.inside.section c.self.inside.place c.self.inside.bytes.now c.self.inside.left.now c.in_ok-spec.rest.now
    c.in_ok-spec.spec.now c.in-Err.refusal c.in_ok-spec.ensures.cases.0 c.in-Err.ensures.refused)
