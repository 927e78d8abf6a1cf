-- Numbers of names tell them apart.
use Rattle.std.proofs.Common.{◌∙◌, ℕ, List, ap, refl}
use Rattle.dw_base.specs.Elf.{section_count}
use Rattle.dw_base.specs.Lists.{tabulate}
use Rattle.dw_view.specs.Standing.{stand_by}
use Rattle.dw_view.proofs.StandLaws.{stands-over}
use Rattle.dw_view.proofs.standing.stands_of.Goals as goal

pub returns : goal.returns
returns c =
    let stripped = c.args.stripped.now.bytes.now in
    let debug = c.args.debug.now.bytes.now in
    let numbers = c.in_ok-numbers.numbers in
    record {
      stands =
          stands-over debug stripped numbers.stripped.items numbers.debug.items c.in_ok-stands.stands.items (section_count debug) c.in_ok-numbers.ensures.names refl
          (c.in_ok-stands.ensures.stands
          ∙ ap (λ (names : List ℕ). tabulate (stand_by debug stripped names c.as_slice-2.result.now) (section_count debug)) c.as_slice.ensures.value
          ∙ ap (λ (others : List ℕ). tabulate (stand_by debug stripped numbers.stripped.items others) (section_count debug)) c.as_slice-2.ensures.value);
    }
