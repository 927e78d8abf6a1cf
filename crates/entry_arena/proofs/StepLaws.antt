-- What a step of a walk gives.
use Rattle.std.proofs.Common.{◌≡◌, ℕ, ◌+◌, ◌≤◌, ◌^◌, List, length, Option, Some, None, refl, sym, ap, ◌∙◌, subst, arith}
use Rattle.entry_arena.specs.Walks.{GivesNoStep, GivesOne, GivesStep, IsDue, StepsFit, WalkFits, WalkState, next_number}
use Rattle.entry_arena.specs.declared.arena.EntryNode.{EntryNode}
use Rattle.entry_arena.specs.declared.walking.WalkStep.{WalkStep}
use Rattle.entry_arena.proofs.WalkLaws.{due-depth, due-inside}

abbrev state_of : List EntryNode → ℕ → WalkState
state_of nodes number = record { nodes = nodes; number = number }

pub gives-step : (nodes : List EntryNode) (next : Option WalkStep) (x : WalkStep) (number : ℕ) → StepsFit nodes next → next ≡ Some x → number ≡ x.number + 1
    → GivesStep (state_of nodes (next_number (length nodes) next)) x (state_of nodes number)
gives-step nodes next x number fits is behind =
    let due : IsDue nodes x = subst (WalkFits nodes) is fits.fits in
    let here : next_number (length nodes) next ≡ x.number = ap (next_number (length nodes)) is in
    record {
      number = sym here;
      inside = (let lt = due-inside nodes x due in omega (arith, lt, here));
      depth = due-depth nodes x due;
      same = ap (state_of nodes) (behind ∙ ap (λ (n : ℕ). n + 1) (sym here));
    }

pub given-step : (nodes : List EntryNode) (next : Option WalkStep) (x : WalkStep) (number : ℕ) (s : WalkState) → StepsFit nodes next → next ≡ Some x → number ≡ x.number + 1
    → state_of nodes (next_number (length nodes) next) ≡ s → GivesStep s x (state_of nodes number)
given-step nodes next x number s fits is behind view_is =
    subst (λ (t : WalkState). GivesStep t x (state_of nodes number)) view_is (gives-step nodes next x number fits is behind)

pub gives-none : (nodes : List EntryNode) (next : Option WalkStep) → None ≡ next
    → GivesNoStep (state_of nodes (next_number (length nodes) next)) (state_of nodes (next_number (length nodes) next))
gives-none nodes next is = record { all = ap (next_number (length nodes)) (sym is); same = refl }

pub steps-fit : (nodes : List EntryNode) (next : Option WalkStep) → length nodes ≤ 2 ^ 31 → WalkFits nodes next → StepsFit nodes next
steps-fit nodes next small fits = record { small = small; fits = fits }

pub step-due : (nodes : List EntryNode) (next : Option WalkStep) (x : WalkStep) → StepsFit nodes next → next ≡ Some x → IsDue nodes x
step-due nodes next x fits is = subst (WalkFits nodes) is fits.fits

pub ruleset step_laws = (gives-step, gives-none, steps-fit, step-due)

pub gives-number : (s t : WalkState) (x : WalkStep) → GivesStep s x t → GivesOne s x.number t
gives-number s t x g = record { number = g.number; inside = g.inside; same = g.same }

pub ruleset number_laws = (gives-number)
