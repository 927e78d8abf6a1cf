-- The buffer goes out.
use Rattle.std.specs.String.{string_bytes}
use Rattle.dbg_show.proofs.CallLaws.{buffer-unwritten, buffer-written}
use Rattle.dbg_show.proofs.printing.write_all.Goals as goal

pub returns-then-is_err-clause-cut : goal.returns-then-is_err-clause-cut
returns-then-is_err-clause-cut g c =
    buffer-unwritten c.write.result c.is_err.result c.as_bytes.result.now (string_bytes c.args.text.now) (g.O.Sink.heard c.args.out.now) (g.O.Sink.heard c.write.new.self)
    c.is_err.ensures.value c.if-is_err.true c.as_bytes.ensures.value c.write.ensures.cause c.write.ensures.said

pub returns-clause-done : goal.returns-clause-done
returns-clause-done g c =
    buffer-written c.write.result c.is_err.result c.as_bytes.result.now (string_bytes c.args.text.now) (string_bytes c.clear.new.self) (g.O.Sink.heard c.args.out.now)
    (g.O.Sink.heard c.write.new.self) c.is_err.ensures.value c.if-is_err.false c.as_bytes.ensures.value c.write.ensures.done c.write.ensures.said c.clear.ensures.bytes

pub returns-clause-none : goal.returns-clause-none
returns-clause-none g c = c.clear.ensures.bytes
