-- Dashes, as the code tests them.
use Rattle.std.proofs.Common.{◌≡◌, ℕ, ◌==◌, Bool, true, false, not, cond, ◌||◌, if◌then◌else◌, List, [], ◌∷◌, Option, Some, None, take, suc, ◌+◌, arith, is_some, length, refl, sym, ap, ◌∙◌}
use Rattle.std.specs.List.{list_any, list_all, before_first, after_first, position_or_len}
use Rattle.std.specs.Str.{bytes_eq}
use Rattle.std.proofs.lemmas.Slice.Eq.{bytes_eq-Decides}
use Rattle.dw_base.specs.Texts.{is_in}
use Rattle.dbg_words.specs.CommandLines.{dash, look_of, look_behind_one, look_behind_two, plain, optional, short, valued_options, equals_sign, attached}
use Rattle.dbg_words.specs.Dashes.{awaits, behind_dash, is_short}
use Rattle.dbg_words.proofs.BoolLaws.{and_left, and_right, not_true}

abbrev has_equals : List ℕ → Bool
has_equals text = list_any (λ b. b == equals_sign) text

-- a text with an equals sign is none of these without
not_among : (names : List (List ℕ)) (text : List ℕ) → list_all (λ n. not (has_equals n)) names ≡ true → has_equals text ≡ true
    → is_in names text ≡ false
not_among [] text none has = refl
not_among (n ∷ ns) text none has =
    elim (bytes_eq n text) as (λ t. bytes_eq n text ≡ t → cond t true (is_in ns text) ≡ false) [
      | true ↦ λ e.
          let same : has_equals n ≡ true = ap has_equals ((bytes_eq-Decides n text).0 e) ∙ has in
          let lacks : has_equals n ≡ false = not_true _ (and_left _ _ none) in
          cc
      | false ↦ λ e. not_among ns text (and_right _ _ none) has
    ] refl

-- without an equals sign the whole text stands before the first
before-none : (text : List ℕ) → has_equals text ≡ false → before_first (λ b. b == equals_sign) text ≡ text
before-none [] e = refl
before-none (b ∷ bs) e =
    elim (b == equals_sign) as (λ t. b == equals_sign ≡ t → (t || has_equals bs) ≡ false → before_first (λ c. c == equals_sign) (b ∷ bs) ≡ b ∷ bs) [
      | true ↦ λ is f. cc
      | false ↦ λ is f. rw is (
          let k : ℕ = position_or_len (λ c. c == equals_sign) bs in
          let one : 1 + k ≡ suc k = omega arith in
          ap (λ (n : ℕ). take n (b ∷ bs)) one ∙ ap (λ cs. b ∷ cs) (before-none bs f)
          )
    ] refl e

-- an option's name behind two dashes, as the look of the word has it
named_so : (text : List ℕ) → is_in valued_options text ≡ awaits (optional (before_first (λ c. c == equals_sign) text) (attached text))
named_so text =
    elim (has_equals text) as (λ t. has_equals text ≡ t
    → is_in valued_options text ≡ awaits (optional (before_first (λ c. c == equals_sign) text) (cond t (Some (after_first (λ b. b == equals_sign) text)) None))) [
      | true ↦ λ e. not_among valued_options text refl e
      | false ↦ λ e. ap (is_in valued_options) (sym (before-none text e))
    ] refl

behind-two : (text : List ℕ) → is_in valued_options text ≡ awaits (look_behind_two text)
behind-two [] = refl
behind-two (b ∷ bs) = named_so (b ∷ bs)

-- the tests of a word by what stands behind its dashes
abbrev awaits_by : Option (List ℕ) → Bool
awaits_by None = false
awaits_by (Some name) = is_in valued_options name

awaits_one : (bs : List ℕ) → awaits_by (behind_dash bs) ≡ awaits (look_behind_one bs)
awaits_one [] = refl
awaits_one (c ∷ cs) =
    elim (c == dash) as (λ t. awaits_by (if t then Some cs else None) ≡ awaits (if t then look_behind_two cs else short)) [ true ↦ behind-two cs | false ↦ refl ]

short_two : (cs : List ℕ) → false ≡ is_short (look_behind_two cs)
short_two [] = refl
short_two (d ∷ ds) = refl

short_one : (bs : List ℕ) → (length bs == 0) ≡ false → not (is_some (behind_dash bs)) ≡ is_short (look_behind_one bs)
short_one [] some = cc
short_one (c ∷ cs) some =
    elim (c == dash) as (λ t. not (is_some (if t then Some cs else None)) ≡ is_short (if t then look_behind_two cs else short)) [ true ↦ short_two cs | false ↦ refl ]

look_behind : (word bs : List ℕ) → Some bs ≡ behind_dash word → look_of word ≡ look_behind_one bs
look_behind [] bs e = cc
look_behind (b ∷ cs) bs e =
    elim (b == dash) as (λ t. Some bs ≡ (if t then Some cs else None) → (if t then look_behind_one cs else plain) ≡ look_behind_one bs) [
      | true ↦ λ f. let same : cs ≡ bs = cc in ap look_behind_one same
      | false ↦ λ f. cc
    ] e

look_none : (word : List ℕ) → None ≡ behind_dash word → look_of word ≡ plain
look_none [] e = refl
look_none (b ∷ cs) e =
    elim (b == dash) as (λ t. None ≡ (if t then Some cs else None) → (if t then look_behind_one cs else plain) ≡ plain) [ true ↦ λ f. cc | false ↦ λ f. refl ] e

-- no dash in front
pub no_dash_awaits : (word : List ℕ) → None ≡ behind_dash word → false ≡ awaits (look_of word)
no_dash_awaits word e = sym (ap awaits (look_none word e))

pub no_dash_short : (word : List ℕ) → None ≡ behind_dash word → false ≡ is_short (look_of word)
no_dash_short word e = sym (ap is_short (look_none word e))

-- one dash, and what follows it
pub one_dash_awaits : (word bs : List ℕ) → Some bs ≡ behind_dash word → None ≡ behind_dash bs → false ≡ awaits (look_of word)
one_dash_awaits word bs e f = ap awaits_by f ∙ awaits_one bs ∙ sym (ap awaits (look_behind word bs e))

pub two_dashes_await : (word bs name : List ℕ) (t : Bool) → Some bs ≡ behind_dash word → Some name ≡ behind_dash bs → t ≡ is_in valued_options name
    → t ≡ awaits (look_of word)
two_dashes_await word bs name t e f is = is ∙ ap awaits_by f ∙ awaits_one bs ∙ sym (ap awaits (look_behind word bs e))

pub dash_alone_short : (word bs : List ℕ) → Some bs ≡ behind_dash word → length bs ≡ 0 → false ≡ is_short (look_of word)
dash_alone_short word [] e none = sym (ap is_short (look_behind word [] e))
dash_alone_short word (c ∷ cs) e none = absurd (omega arith)

pub one_dash_short : (word bs : List ℕ) (o : Option (List ℕ)) → Some bs ≡ behind_dash word → (length bs == 0) ≡ false → o ≡ behind_dash bs
    → not (is_some o) ≡ is_short (look_of word)
one_dash_short word bs o e some is = ap (λ p. not (is_some p)) is ∙ short_one bs some ∙ sym (ap is_short (look_behind word bs e))

pub ruleset dash_laws = (no_dash_awaits, no_dash_short, one_dash_awaits, two_dashes_await, dash_alone_short, one_dash_short)
