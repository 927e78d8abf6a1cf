-- The text that went out is that of the view.
use Rattle.dbg_show.proofs.ReadLaws.{is-shown}
use Rattle.dbg_show.proofs.view_text.write_shown.Goals as goal

pub returns-in-Ok-clause-shown : goal.returns-in-Ok-clause-shown
returns-in-Ok-clause-shown g c =
    is-shown c.args.view.now c.args.tables.now c.args.units.now c.args.macros.now (g.O.Sink.heard c.args.out.now) (g.O.Sink.heard c.write_view.new.out) c.requires.sources c.in-Ok.ensures.done
