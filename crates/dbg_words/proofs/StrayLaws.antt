-- The loop that looks for stray dashes, word by word.
use Rattle.std.proofs.Common.{◌≡◌, ℕ, ◌+◌, ◌<◌, ◌≤◌, Bool, true, false, ◌||◌, List, ◌∷◌, drop, length, get_or, refl, sym, ap, subst, ◌∙◌, drop_of_length-le}
use Rattle.std.specs.Prelude.{String}
use Rattle.std.specs.declared.alloc.Global.{Global}
use Rattle.std.specs.String.{string_bytes}
use Rattle.dbg_words.specs.CommandLines.{look_of}
use Rattle.dbg_words.specs.Dashes.{awaits, ends_options, has_stray_dash, is_lone, is_short}
use Rattle.dbg_words.specs.Words.{texts}
use Rattle.dbg_words.proofs.ListLaws.{drop_here}

or_true : (a : Bool) → (a || true) ≡ true
or_true true = refl
or_true false = refl

module _ (words : List (String Global)) (i : ℕ) (waits all : Bool) (so_far : has_stray_dash waits (texts (drop i words)) ≡ all) where
  pub stray_none : length words ≤ i → false ≡ all
  unfolding has_stray_dash
  stray_none past =
      let P : List (String Global) → Type 0 = λ ws. has_stray_dash waits (texts ws) ≡ all in
      subst P (drop_of_length-le words past) so_far

  module _ (w : String Global) (lt : i < length words) (at : w ≡ get_or words i w) where
    here : has_stray_dash waits (string_bytes w ∷ texts (drop (i + 1) words)) ≡ all
    here =
        let P : List (String Global) → Type 0 = λ ws. has_stray_dash waits (texts ws) ≡ all in
        subst P (drop_here words i w lt at) so_far

    pub stray_ends : ends_options (string_bytes w) ≡ true → false ≡ all
    unfolding has_stray_dash
    stray_ends e = rw e at here

    pub stray_short : ends_options (string_bytes w) ≡ false → is_short (look_of (string_bytes w)) ≡ true → true ≡ all
    unfolding has_stray_dash
    stray_short e f = rw (e, f) at here

    pub stray_lone : ends_options (string_bytes w) ≡ false → is_lone waits (string_bytes w) ≡ true → true ≡ all
    unfolding has_stray_dash
    stray_lone e f = rw (e, f, or_true (is_short (look_of (string_bytes w)))) at here

    pub stray_more : (next : Bool) → ends_options (string_bytes w) ≡ false → is_short (look_of (string_bytes w)) ≡ false
        → is_lone waits (string_bytes w) ≡ false → next ≡ awaits (look_of (string_bytes w)) → has_stray_dash next (texts (drop (i + 1) words)) ≡ all
    unfolding has_stray_dash
    stray_more next e f g is =
        let behind : has_stray_dash (awaits (look_of (string_bytes w))) (texts (drop (i + 1) words)) ≡ all = rw (e, f, g) at here in
        ap (λ t. has_stray_dash t (texts (drop (i + 1) words))) is ∙ behind

-- a test of the bytes of a word, as the code makes it
pub told : {text real : List ℕ} {t b : Bool} (test : List ℕ → Bool) → text ≡ real → t ≡ test text → t ≡ b → test real ≡ b
told test is e f = ap test (sym is) ∙ sym e ∙ f
