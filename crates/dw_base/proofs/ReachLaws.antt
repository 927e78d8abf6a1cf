-- What is reached by steps, each of which is determined: of two states that are reached one leads to the other, and where no
-- step goes on there is one state.
use Rattle.std.proofs.Common.{◌≡◌, ◌⊎◌, inl, inr, refl, sym, subst}

-- a state is reached from another by steps
pub data Reaches {S : Type 0} (N : S → S → Type 0) : S → S → Type 0 where
  here : (s : S) → Reaches N s s
  on : (s t u : S) → N s t → Reaches N t u → Reaches N s u

-- and by one more
pub reach-more : {S : Type 0} (N : S → S → Type 0) (s t u : S) → Reaches N s t → N t u → Reaches N s u
reach-more N s t u (here r) n = on s u u n (here u)
reach-more N s t u (on a b c first rest) n = on s b u first (reach-more N b t u rest n)

-- each step is determined
abbrev pub Determined : {S : Type 0} → (S → S → Type 0) → Type 0
Determined {S} N = (s t u : S) → N s t → N s u → t ≡ u

-- of two states one leads to the other
pub reach-total : {S : Type 0} (N : S → S → Type 0) → Determined N → (s a b : S) → Reaches N s a → Reaches N s b → Reaches N a b ⊎ Reaches N b a
reach-total N one s a b (here r) g = inl g
reach-total N one s a b (on p t c n f) (here r) = inr (on s t a n f)
reach-total {S} N one s a b (on p t c n f) (on q u d m g) =
    let same : u ≡ t = one s u t m n in
    reach-total N one t a b f (subst (λ (x : S). Reaches N x b) same g)

-- no step goes on from a state
abbrev pub Stops : {S : Type 0} → (S → S → Type 0) → S → Type 0
Stops {S} N s = (t : S) → N s t → ⊥

stops-here : {S : Type 0} (N : S → S → Type 0) (a b : S) → Stops N a → Reaches N a b → a ≡ b
stops-here N a b stop (here r) = refl
stops-here N a b stop (on p t c n f) = absurd (stop t n)

-- where two states that are reached stop, they are one
pub stops-one : {S : Type 0} (N : S → S → Type 0) → Determined N → (s a b : S) → Reaches N s a → Reaches N s b → Stops N a → Stops N b → a ≡ b
stops-one {S} N one s a b f g stop_a stop_b = by_order (reach-total N one s a b f g)
  where
    by_order : Reaches N a b ⊎ Reaches N b a → a ≡ b
    by_order (inl r) = stops-here N a b stop_a r
    by_order (inr r) = sym (stops-here N b a stop_b r)
