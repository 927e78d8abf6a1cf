-- What is known of the path, by the tests that were made of it.
use Rattle.std.proofs.Common.{sym}
use Rattle.root_paths.proofs.NameLaws.{answered_apart, answered_front, answered_below}
use Rattle.root_paths.proofs.names.Root.candidate.Goals as goal

pub returns-then-not-is_apart : goal.returns-then-not-is_apart
returns-then-not-is_apart c = record {
  value = answered_apart _ _ _ _ _ _ _ _ (sym c.self.view_is) c.self.invariant c.as_str.ensures.value c.as_str-2.ensures.value c.if-not-is_apart.ensures.value;
}

pub returns-in_err-below : goal.returns-in_err-below
returns-in_err-below c = record {
  value = rw c.from_residual.ensures (answered_front _ _ _ _ _ _ _ (sym c.self.view_is) c.self.invariant c.as_str-3.ensures.value c.in_err-below.ensures.value);
}

pub returns : goal.returns
returns c = record {
  value = answered_below _ _ _ _ _ _ _ _ _ _ (sym c.self.view_is) c.self.invariant c.as_str-3.ensures.value c.as_str.ensures.value c.as_str-2.ensures.value
      c.if-not-is_apart.ensures.value c.in_ok-below.ensures.value;
}
