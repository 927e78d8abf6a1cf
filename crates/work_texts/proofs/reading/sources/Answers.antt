use Rattle.std.proofs.Common.{◌≡◌, ◌++◌, ◌∷◌, [], None, map}
use Rattle.std.proofs.lemmas.List.{map_push}
use Rattle.std.proofs.lemmas.Result.{err_from_is_err_and}
use Rattle.work_texts.specs.Lists.{bytes_of}
use Rattle.work_texts.specs.Reading.{source_at, many_at, itself}
use Rattle.work_texts.proofs.Loops.{goes_on, ends, is_done}
use Rattle.work_texts.proofs.reading.sources.Goals as goal

pub returns-in_err-name : goal.returns-in_err-name
returns-in_err-name c =
    let p = err_from_is_err_and c.from_residual.result c.from_residual.ensures.1 in
    let read = rw c.deref.ensures.value at c.in_err-name.ensures.value in
    record { value = rw (p.1, p.2) (ends c.in_err-name.field-0.0 source_at itself (map bytes_of c.names.names.items) c.args.count c.names.counter c.names.rest.now (many_at source_at itself c.args.count None c.args.bytes.now) c.names-test.true read c.names.invariant) }

pub names-preserved : goal.names-preserved
names-preserved c =
    let name = c.in_ok-name.name in
    let read = rw c.deref.ensures.value at c.in_ok-name.ensures.value in
    let e : map bytes_of c.push.new.self.items ≡ map bytes_of c.names.names.items ++ bytes_of name ∷ [] = rw c.in_ok-push.ensures.items (map_push bytes_of c.names.names.items name) in
    rw e (goes_on source_at itself (map bytes_of c.names.names.items) c.args.count c.names.counter c.names.rest.now (bytes_of name) c.in_ok-name.after.now (many_at source_at itself c.args.count None c.args.bytes.now) c.names-test.true read c.names.invariant)

pub returns : goal.returns
returns c = record { value = is_done source_at itself (map bytes_of c.names.names.items) c.args.count c.names.counter c.names.rest.now (many_at source_at itself c.args.count None c.args.bytes.now) c.names-test.false c.names.invariant }
