-- What a word looks like, in the words of the parser.
use Rattle.std.proofs.Common.{◌≡◌, ℕ, Bool, true, false, cond, List, [], ◌∷◌, Option, Some, None, codes, refl, sym, subst, inl, inr}
use Rattle.std.specs.Str.{bytes_eq}
use Rattle.std.proofs.lemmas.Bool.Decides.{eqb_tells}
use Rattle.clap.specs.Lexer.{long_of, short_of}
use Rattle.dbg_words.specs.CommandLines.{Look, look_of, look_behind_one, look_behind_two, begins_with_dash, plain, ending, optional, short}

-- what the parser sees in a word that looks so
pub data Seen (word : List ℕ) : Look → Type 0 where
  bare : bytes_eq word (codes "--") ≡ false → long_of word ≡ None → short_of word ≡ None → begins_with_dash word ≡ false
      → bytes_eq word (codes "-") ≡ false → Seen word plain
  alone : bytes_eq word (codes "--") ≡ false → long_of word ≡ None → short_of word ≡ None → begins_with_dash word ≡ true
      → bytes_eq word (codes "-") ≡ true → Seen word plain
  ends : bytes_eq word (codes "--") ≡ true → begins_with_dash word ≡ true → Seen word ending
  names : {name : List ℕ} {v : Option (List ℕ)} → bytes_eq word (codes "--") ≡ false → long_of word ≡ Some (name, v) → begins_with_dash word ≡ true
      → Seen word (optional name v)
  one : bytes_eq word (codes "--") ≡ false → begins_with_dash word ≡ true → Seen word short

behind_two : (cs : List ℕ) → Seen (45 ∷ 45 ∷ cs) (look_of (45 ∷ 45 ∷ cs))
behind_two [] = Seen.ends refl refl
behind_two (d ∷ ds) = Seen.names refl refl refl

behind_one : (bs : List ℕ) → Seen (45 ∷ bs) (look_of (45 ∷ bs))
behind_one [] = Seen.alone refl refl refl refl refl
behind_one (c ∷ cs) =
    elim (eqb_tells c 45) [
      | inl h ↦ let P : ℕ → Type 0 = λ n. Seen (45 ∷ n ∷ cs) (look_of (45 ∷ n ∷ cs)) in subst P (sym h.1) (behind_two cs)
      | inr h ↦
          let P : Bool → Type 0 = λ t. Seen (45 ∷ c ∷ cs) (cond t (look_behind_two cs) short) in
          subst P (sym h.0) (Seen.one (rw h.0 refl) refl)
    ]

pub seen : (word : List ℕ) → Seen word (look_of word)
seen [] = Seen.bare refl refl refl refl refl
seen (b ∷ bs) =
    elim (eqb_tells b 45) [
      | inl h ↦ let P : ℕ → Type 0 = λ n. Seen (n ∷ bs) (look_of (n ∷ bs)) in subst P (sym h.1) (behind_one bs)
      | inr h ↦
          let P : Bool → Type 0 = λ t. Seen (b ∷ bs) (cond t (look_behind_one bs) plain) in
          subst P (sym h.0) (Seen.bare (rw h.0 refl) (rw h.0 refl) (rw h.0 refl) h.0 (rw h.0 refl))
    ]
