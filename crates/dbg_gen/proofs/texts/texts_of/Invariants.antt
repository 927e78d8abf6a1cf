-- The texts of the units so far were added.
use Rattle.std.proofs.Common.{◌≡◌, []}
use Rattle.dbg_gen.specs.GeneratedTexts.{each_once, mentions_of}
use Rattle.dbg_gen.proofs.texts.texts_of.Given as goal

abbrev pub invariant-loop-unit : goal.invariant-loop-unit
invariant-loop-unit l = l.texts ≡ record { kept = []; texts = each_once [] (mentions_of l.counts l.unit) }
