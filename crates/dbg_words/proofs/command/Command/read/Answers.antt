-- The command of the first word.
use Rattle.std.proofs.Common.{sym, ◌∙◌}
use Rattle.dbg_words.proofs.WordLaws.{command_some}
use Rattle.dbg_words.proofs.command.Command.read.Goals as goal

pub returns-in-Some : goal.returns-in-Some
returns-in-Some c = record {
  command = command_some c.args.words.now c.name-item.result c.as_str.result.now c.in-Some.line c.command_named.result c.in-len1-up.len_at_least c.name-item.is
      c.as_str.ensures.value (sym c.if-have_nul.false ∙ c.have_nul.ensures.value) (sym c.in-Some.is ∙ c.in_ok-read_line.ensures.value) c.command_named.ensures.value;
}
