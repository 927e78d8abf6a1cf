-- Which sections are dropped.
use Rattle.std.proofs.lemmas.List.Folds.{list_any_at, list_any_more}

pub ruleset any_laws = (list_any_at, list_any_more)
