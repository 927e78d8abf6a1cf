-- Texts of which each is above the one before it are in order.
use Rattle.std.specs.Prelude.{◌⊎◌}
use Rattle.std.proofs.Common.{inl, inr, ◌≡◌, ℕ, zero, suc, ◌+◌, ◌-◌, ◌<◌, ◌≤◌, List, [], map, length, get_or, sym, ap, ◌∙◌, arith}
use Rattle.std.proofs.lemmas.List.{get_or-map, length-map}
use Rattle.std.proofs.lemmas.Map.Keys.{sorted_from_all_adjacent}
use Rattle.std.specs.Prelude.{String}
use Rattle.std.specs.declared.alloc.Global.{Global}
use Rattle.std.specs.declared.cmp.Ordering.TheVariants.{Less}
use Rattle.std.specs.String.{string_bytes}
use Rattle.std.specs.Ordering.{nat_cmp}
use Rattle.std.specs.Cmp.Lexicographic.{slice_cmp, nat_list_cmp_total}
use Rattle.file_tree.specs.Causes.{AreInOrder}

abbrev pub Texts : Type 0
Texts = List (String Global)

abbrev pub bytes_at : Texts → ℕ → List ℕ
bytes_at texts k = get_or (map string_bytes texts) k []

-- of the first n texts, each is above the one before it
pub record RisesBelow (texts : Texts) (n : ℕ) : Type 0 where
  pub adjacent : (k : ℕ) → k + 1 < n → slice_cmp nat_cmp (bytes_at texts k) (bytes_at texts (k + 1)) ≡ Less

pub rises_first : (texts : Texts) → RisesBelow texts 1
rises_first texts = record { adjacent = λ k h. absurd (omega arith) }

below_or_not : (a b : ℕ) → (a < b) ⊎ (b ≤ a)
below_or_not a zero = inr (omega arith)
below_or_not zero (suc b) = inl (omega arith)
below_or_not (suc a) (suc b) = elim (below_or_not a b) [ inl h ↦ inl (omega arith) | inr h ↦ inr (omega arith) ]

pub rises_more : (texts : Texts) (i : ℕ) (a b : String Global) → RisesBelow texts i → 1 ≤ i → i < length texts → a ≡ get_or texts (i - 1) a → b ≡ get_or texts i b
    → slice_cmp nat_cmp (string_bytes a) (string_bytes b) ≡ Less → RisesBelow texts (i + 1)
rises_more texts i a b so first inside is_a is_b less = record {
  adjacent = λ k h. step k h (below_or_not (k + 1) i);
} where
  here : slice_cmp nat_cmp (bytes_at texts (i - 1)) (bytes_at texts i) ≡ Less
  here =
      let below : i - 1 < length texts = omega arith in
      let at_a : bytes_at texts (i - 1) ≡ string_bytes a = get_or-map string_bytes texts (i - 1) a [] below ∙ ap (λ (s : String Global). string_bytes s) (sym is_a) in
      let at_b : bytes_at texts i ≡ string_bytes b = get_or-map string_bytes texts i b [] inside ∙ ap (λ (s : String Global). string_bytes s) (sym is_b) in
      rw (at_a, at_b) less

  step : (k : ℕ) → k + 1 < i + 1 → (k + 1 < i) ⊎ (i ≤ k + 1) → slice_cmp nat_cmp (bytes_at texts k) (bytes_at texts (k + 1)) ≡ Less
  step k h (inl below) = so.adjacent k below
  step k h (inr at) =
      let low : k ≡ i - 1 = omega arith in
      let high : k + 1 ≡ i = omega arith in
      rw (high, low) here

pub rises_all : (texts : Texts) (n : ℕ) → RisesBelow texts n → length texts ≤ n → AreInOrder (map string_bytes texts)
rises_all texts n so long = sorted_from_all_adjacent nat_list_cmp_total (map string_bytes texts) [] (λ k h. so.adjacent k (omega (arith, length-map texts string_bytes)))

pub ruleset rising_laws = (rises_first, rises_more, rises_all)
