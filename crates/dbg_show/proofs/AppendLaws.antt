-- Pieces that are appended one after another.
use Rattle.std.proofs.Common.{◌≡◌, List, [], ◌++◌, ℕ, sym, ap, ◌∙◌, append-nil, append_assoc}

pub two : (old new m a b : List ℕ) → new ≡ m ++ b → m ≡ old ++ a → new ≡ old ++ (a ++ b)
two old new m a b n e = n ∙ ap (λ (x : List ℕ). x ++ b) e ∙ append_assoc old a b

pub three : (old new m n a b c : List ℕ) → new ≡ n ++ c → n ≡ m ++ b → m ≡ old ++ a → new ≡ old ++ (a ++ (b ++ c))
three old new m n a b c e f g = two old new m a (b ++ c) (two m new n b c e f) g

pub five : (old new m n k l a b c d e : List ℕ) → new ≡ l ++ e → l ≡ k ++ d → k ≡ n ++ c → n ≡ m ++ b → m ≡ old ++ a → new ≡ old ++ (a ++ (b ++ (c ++ (d ++ e))))
five old new m n k l a b c d e p q r s t = two old new m a (b ++ (c ++ (d ++ e))) (two m new n b (c ++ (d ++ e)) (three n new k l c d e p q r) s) t

pub none-more : (old : List ℕ) → old ≡ old ++ []
none-more old = sym (append-nil old)

pub ruleset none_laws = (none-more)
