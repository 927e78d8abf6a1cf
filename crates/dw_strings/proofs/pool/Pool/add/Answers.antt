-- The text is there, or it begins where the bytes ended; at its place it reads back.
use Rattle.std.proofs.Common.{sym}
use Rattle.dw_base.proofs.TableLaws.{text_in-text_place}
use Rattle.dw_strings.proofs.PoolLaws.{text_place-added, text_place-absent, text_in-added}
use Rattle.dw_strings.proofs.pool.Pool.add.Goals as goal

pub returns-in-Some-clause-reads : goal.returns-in-Some-clause-reads
returns-in-Some-clause-reads c =
    text_in-text_place c.args.self.now c.args.text.now c.in-Some.place (sym c.in-Some.ensures.value) c.requires.no_nul

pub returns-in-None-clause-place : goal.returns-in-None-clause-place
returns-in-None-clause-place c =
    text_place-added c.add_new.result c.args.self.now c.add_new.new.self c.args.text.now
    (text_place-absent c.args.self.now c.args.text.now c.in-None.ensures.value) c.add_new.ensures.table c.add_new.ensures.place

pub returns-in-None-clause-reads : goal.returns-in-None-clause-reads
returns-in-None-clause-reads c =
    text_in-added c.add_new.result c.add_new.new.self c.args.text.now c.requires.no_nul (returns-in-None-clause-place c)
