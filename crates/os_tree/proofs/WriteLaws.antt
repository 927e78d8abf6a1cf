-- A piece that a writer takes part by part.
use Rattle.std.proofs.Common.{◌≡◌, ℕ, ◌+◌, ◌-◌, List, [], ◌∷◌, refl, ◌++◌, length, take, drop, sym, ap, ◌∙◌, subst, append_assoc, append-nil, take-append-drop, arith}
use Rattle.std.specs.Prelude.{Option, None, Some}
use Rattle.std.proofs.lemmas.List.{take_rest}
use Rattle.std.specs.Io.KnownBytes.{Appends, Keeps}
use Rattle.os_tree.specs.Written.{WroteTo, WroteFront}

grew-nil : (a : Option (List ℕ)) → Appends a a []
grew-nil None = tt
grew-nil (Some x) = sym (append-nil x)

grew-more : (a b c : Option (List ℕ)) (bs cs : List ℕ) → Appends a b bs → Appends b c cs → Appends a c (bs ++ cs)
grew-more None b c bs cs p q = tt
grew-more (Some x) None c bs cs p q = absurd p
grew-more (Some x) (Some y) None bs cs p q = absurd q
grew-more (Some x) (Some y) (Some z) bs cs p q = q ∙ ap (λ l. l ++ cs) p ∙ append_assoc x bs cs

grew-kept : (a b c : Option (List ℕ)) (bs : List ℕ) → Appends a b bs → Keeps b c → Appends a c bs
grew-kept None b c bs p q = tt
grew-kept (Some x) None c bs p q = absurd p
grew-kept (Some x) (Some y) None bs p q = absurd q
grew-kept (Some x) (Some y) (Some z) bs p q = q ∙ p

pub wrote-none : (piece : List ℕ) (a : Option (List ℕ)) → WroteTo piece piece a a
wrote-none piece a = record { front = []; split = refl; grew = grew-nil a }

pub wrote-more : (piece rest : List ℕ) (a b c : Option (List ℕ)) (n : ℕ) → WroteTo piece rest a b → Appends b c (take n rest)
    → WroteTo piece (take (length rest - n) (drop n rest)) a c
wrote-more piece rest a b c n so more = record {
  front = so.front ++ take n rest;
  split = so.split ∙ ap (λ l. so.front ++ l) (sym (take-append-drop n rest)) ∙ sym (append_assoc so.front (take n rest) (drop n rest))
      ∙ ap (λ l. (so.front ++ take n rest) ++ l) (sym (take_rest rest n));
  grew = grew-more a b c so.front (take n rest) so.grew more;
}

pub wrote-same : (piece rest : List ℕ) (a b c : Option (List ℕ)) → WroteTo piece rest a b → Keeps b c → WroteTo piece rest a c
wrote-same piece rest a b c so same = record { front = so.front; split = so.split; grew = grew-kept a b c so.front so.grew same }

pub wrote-front : (piece rest : List ℕ) (a b : Option (List ℕ)) → WroteTo piece rest a b → WroteFront piece a b
wrote-front piece rest a b so = record { rest = rest; wrote = so }

empty : (rest : List ℕ) → length rest ≡ 0 → rest ≡ []
empty [] e = refl
empty (x ∷ xs) e = absurd (omega (arith, e))

pub wrote-whole : (piece rest : List ℕ) (a b : Option (List ℕ)) → WroteTo piece rest a b → length rest ≡ 0 → Appends a b piece
wrote-whole piece rest a b so none =
    subst (Appends a b) (sym (so.split ∙ ap (λ l. so.front ++ l) (empty rest none) ∙ append-nil so.front)) so.grew

pub ruleset write_laws = (wrote-none, wrote-more, wrote-same, wrote-front, wrote-whole)
