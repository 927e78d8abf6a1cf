-- What stands at two places reads alike at both: numbers, texts and values of a line table.
use Rattle.std.proofs.Common.{Bool, true, false, ◌≡◌, ◌||◌, ℕ, ℤ, zero, suc, ◌+◌, ◌-◌, ◌<◌, ◌≤◌, ◌==◌, List, [], ◌∷◌, ◌++◌, length, take, drop, Option, Some, None, refl, sym, ap, ◌∙◌, subst, arith, if◌then◌else◌}
use Rattle.std.specs.Prelude.{option_and_then, option_map}
use Rattle.std.proofs.lemmas.Bool.{le-leb}
use Rattle.std.proofs.lemmas.List.{length-drop, take-append-drop, take-append-le, drop-append-le, drop-drop}
use Rattle.dw_base.specs.Lebs.{uleb_at, sleb_at}
use Rattle.dw_base.specs.LineTexts.{inline_text, skip_lebs, file_numbers}
use Rattle.dw_base.specs.Numbers.{number_at, spelled}
use Rattle.dw_base.specs.Texts.{text, has_nul, ends_in, text_in}
use Rattle.dw_base.specs.declared.line_tables.TextPlace.{TextPlace}
use Rattle.dw_base.specs.declared.shared.Order.{Order}
use Rattle.dw_base.proofs.ContributionBackLaws.{StandsAt, spelled-there}
use Rattle.dw_base.proofs.LebLaws.{uleb_at-append, uleb_at-drop, sleb_at-append, sleb_at-drop}
use Rattle.dw_base.proofs.NumberBytes.{number-cut, signed-cut}
use Rattle.dw_base.proofs.TextLaws.{has_nul-append_true, text-append}

-- a text without a NUL is as long as its bytes
text-past : (ys rest : List ℕ) → has_nul ys ≡ false → length ys ≤ length (text (ys ++ rest))
text-past [] rest e = omega arith
text-past (y ∷ ys) rest e = by_first (y == 0) refl e (text-past ys rest)
  where
    by_first : (t : Bool) → (y == 0) ≡ t → (t || has_nul ys) ≡ false → (has_nul ys ≡ false → length ys ≤ length (text (ys ++ rest)))
        → length (y ∷ ys) ≤ length (if t then [] else y ∷ text (ys ++ rest))
    by_first true is f rec = absurd cc
    by_first false is f rec = omega (arith, rec f)

-- the same bytes stand at a place of each of two lists
pub record Both (old new xs : List ℕ) (p q : ℕ) : Type 0 where
  pub was : StandsAt old xs p
  pub is : StandsAt new xs q

-- and behind so many of them
pub stands-behind : (bs xs : List ℕ) (p k : ℕ) → StandsAt bs xs p → k ≤ length xs → StandsAt bs (drop k xs) (p + k)
stands-behind bs xs p k h le =
    let inside = h.inside in
    record {
      behind = h.behind;
      is = sym (drop-drop k p bs) ∙ ap (drop k) h.is ∙ drop-append-le k xs h.behind le;
      inside = omega (arith, inside, le, length-drop k xs);
    }

pub both-behind : (old new xs : List ℕ) (p q k : ℕ) → Both old new xs p q → k ≤ length xs → Both old new (drop k xs) (p + k) (q + k)
both-behind old new xs p q k b le = record { was = stands-behind old xs p k b.was le; is = stands-behind new xs q k b.is le }

-- the first of them
pub first-stand : (bs xs : List ℕ) (p k : ℕ) → StandsAt bs xs p → k ≤ length xs → take k (drop p bs) ≡ take k xs
first-stand bs xs p k h le = ap (take k) h.is ∙ take-append-le k xs h.behind le

-- a number in LEB128
uleb-there : (bs xs : List ℕ) (q v n : ℕ) → StandsAt bs xs q → uleb_at xs 0 ≡ Some (v, n) → uleb_at bs q ≡ Some (v, n)
uleb-there bs xs q v n h e =
    let zero_ : q ≡ q + 0 = omega arith in
    ap (uleb_at bs) zero_ ∙ sym (uleb_at-drop bs q 0) ∙ ap (λ (x : List ℕ). uleb_at x 0) h.is ∙ uleb_at-append xs h.behind 0 (v, n) (omega arith) e

uleb-own : (bs xs : List ℕ) (p v n : ℕ) → StandsAt bs xs p → uleb_at bs p ≡ Some (v, n) → n ≤ length xs → uleb_at xs 0 ≡ Some (v, n)
uleb-own bs xs p v n h e le =
    let cut : uleb_at (take n xs) 0 ≡ Some (v, n) = ap (λ (x : List ℕ). uleb_at x 0) (sym (first-stand bs xs p n h le)) ∙ (number-cut bs p v n e).0 in
    ap (λ (x : List ℕ). uleb_at x 0) (sym (take-append-drop n xs)) ∙ uleb_at-append (take n xs) (drop n xs) 0 (v, n) (omega arith) cut

pub uleb-both : (old new xs : List ℕ) (p q v n : ℕ) → Both old new xs p q → uleb_at old p ≡ Some (v, n) → n ≤ length xs → uleb_at new q ≡ Some (v, n)
uleb-both old new xs p q v n b e le = uleb-there new xs q v n b.is (uleb-own old xs p v n b.was e le)

pub sleb-both : (old new xs : List ℕ) (p q : ℕ) (v : ℤ) (n : ℕ) → Both old new xs p q → sleb_at old p ≡ Some (v, n) → n ≤ length xs → sleb_at new q ≡ Some (v, n)
sleb-both old new xs p q v n b e le =
    let cut : sleb_at (take n xs) 0 ≡ Some (v, n) = ap (λ (x : List ℕ). sleb_at x 0) (sym (first-stand old xs p n b.was le)) ∙ (signed-cut old p v n e).0 in
    let own : sleb_at xs 0 ≡ Some (v, n) =
    ap (λ (x : List ℕ). sleb_at x 0) (sym (take-append-drop n xs)) ∙ sleb_at-append (take n xs) (drop n xs) 0 (v, n) (omega arith) cut in
    let zero_ : q ≡ q + 0 = omega arith in
    ap (sleb_at new) zero_ ∙ sym (sleb_at-drop new q 0) ∙ ap (λ (x : List ℕ). sleb_at x 0) b.is.is ∙ sleb_at-append xs b.is.behind 0 (v, n) (omega arith) own

-- a number of so many bytes
pub spelled-both : (o : Order) (old new xs : List ℕ) (p q n : ℕ) → Both old new xs p q → n ≤ length xs → spelled o new q n ≡ spelled o old p n
spelled-both o old new xs p q n b le =
    let first_q : q ≡ q + 0 = omega arith in
    let first_p : p ≡ p + 0 = omega arith in
    ap (λ (k : ℕ). spelled o new k n) first_q ∙ spelled-there o new xs q 0 n b.is (omega (arith, le))
    ∙ sym (ap (λ (k : ℕ). spelled o old k n) first_p ∙ spelled-there o old xs p 0 n b.was (omega (arith, le)))

pub number-both-at : (o : Order) (old new xs : List ℕ) (p q n : ℕ) → Both old new xs p q → n ≤ length xs → number_at o new q n ≡ number_at o old p n
unfolding number_at
number-both-at o old new xs p q n b le =
    let was = b.was.inside in
    let is = b.is.inside in
    rw (le-leb (q + n) (length new) (omega (arith, is, le)), le-leb (p + n) (length old) (omega (arith, was, le))) (ap (λ (k : ℕ). Some k) (spelled-both o old new xs p q n b le))

-- of what was read step by step, the first and the rest
pub record Bound {X Y : Type 0} (f : X → Option Y) (o : Option X) (y : Y) : Type 0 where
  pub first : X
  pub is : o ≡ Some first
  pub rest : f first ≡ Some y

pub bound : {X Y : Type 0} (f : X → Option Y) (o : Option X) (y : Y) → option_and_then f o ≡ Some y → Bound f o y
bound f None y e = absurd cc
bound f (Some x) y e = record { first = x; is = refl; rest = e }

pub record Made {X Y : Type 0} (f : X → Y) (o : Option X) (y : Y) : Type 0 where
  pub first : X
  pub is : o ≡ Some first
  pub same : f first ≡ y

pub made : {X Y : Type 0} (f : X → Y) (o : Option X) (y : Y) → option_map f o ≡ Some y → Made f o y
made f None y e = absurd cc
made f (Some x) y e = record { first = x; is = refl; same = cc }

-- what was read where a test held
pub if-some : {Y : Type 0} (b : Bool) (o : Option Y) (y : Y) → (if b then o else None) ≡ Some y → (b ≡ true) × (o ≡ Some y)
if-some true o y e = (refl, e)
if-some false o y e = absurd cc

pub some-same : {Y : Type 0} (x y : Y) → Some x ≡ Some y → x ≡ y
some-same x y e = cc

-- more numbers in LEB128, one after another
pub skip-behind : (m : ℕ) (bs : List ℕ) (p e : ℕ) → skip_lebs m bs p ≡ Some e → p ≤ e
skip-behind zero bs p e is = omega (arith, some-same p e is)
skip-behind (suc m) bs p e is =
    let first = bound (λ (value : ℕ × ℕ). skip_lebs m bs (p + value.1)) (uleb_at bs p) e is in
    omega (arith, skip-behind m bs (p + first.first.1) e first.rest)

pub skip-both : (m : ℕ) (old new xs : List ℕ) (p q e : ℕ) → Both old new xs p q → skip_lebs m old p ≡ Some e → e ≤ p + length xs
    → skip_lebs m new q ≡ Some (q + (e - p))
skip-both zero old new xs p q e b is le = ap (λ (k : ℕ). Some k) (omega (arith, some-same p e is))
skip-both (suc m) old new xs p q e b is le =
    let first = bound (λ (value : ℕ × ℕ). skip_lebs m old (p + value.1)) (uleb_at old p) e is in
    let n : ℕ = first.first.1 in
    let behind : p + first.first.1 ≤ e = skip-behind m old (p + first.first.1) e first.rest in
    let here : uleb_at new q ≡ Some first.first = uleb-both old new xs p q first.first.0 first.first.1 b first.is (omega (arith, behind, le)) in
    let rest = skip-both m old new (drop first.first.1 xs) (p + first.first.1) (q + first.first.1) e
    (both-behind old new xs p q first.first.1 b (omega (arith, behind, le))) first.rest (omega (arith, behind, le, length-drop first.first.1 xs)) in
    let place : q + first.first.1 + (e - (p + first.first.1)) ≡ q + (e - p) = omega (arith, behind) in
    rw here (rest ∙ ap (λ (k : ℕ). Some k) place)

-- the numbers behind the name of a file
pub file_numbers-both : (old new xs : List ℕ) (p q : ℕ) (n : ℕ × ℕ) → Both old new xs p q → file_numbers old p ≡ Some n → n.1 ≤ p + length xs
    → (p ≤ n.1) × (file_numbers new q ≡ Some (n.0, q + (n.1 - p)))
unfolding file_numbers
file_numbers-both old new xs p q n b is le =
    let first = bound (λ (dir : ℕ × ℕ). option_map (λ (next : ℕ). (dir.0, next)) (skip_lebs 2 old (p + dir.1))) (uleb_at old p) n is in
    let rest = made (λ (next : ℕ). (first.first.0, next)) (skip_lebs 2 old (p + first.first.1)) n first.rest in
    let behind : p + first.first.1 ≤ rest.first = skip-behind 2 old (p + first.first.1) rest.first rest.is in
    let end : rest.first ≡ n.1 = ap (λ (x : ℕ × ℕ). x.1) rest.same in
    let dir : first.first.0 ≡ n.0 = ap (λ (x : ℕ × ℕ). x.0) rest.same in
    let here : uleb_at new q ≡ Some first.first = uleb-both old new xs p q first.first.0 first.first.1 b first.is (omega (arith, behind, end, le)) in
    let more = skip-both 2 old new (drop first.first.1 xs) (p + first.first.1) (q + first.first.1) rest.first
    (both-behind old new xs p q first.first.1 b (omega (arith, behind, end, le))) rest.is (omega (arith, behind, end, le, length-drop first.first.1 xs)) in
    let place : q + first.first.1 + (rest.first - (p + first.first.1)) ≡ q + (n.1 - p) = omega (arith, behind, end) in (
      omega (arith, behind, end),
      rw here (ap (λ (o : Option ℕ). option_map (λ (next : ℕ). (first.first.0, next)) o) (more ∙ ap (λ (k : ℕ). Some k) place)
          ∙ ap (λ (d : ℕ). Some (d, q + (n.1 - p))) dir),
    )

-- a text, and its NUL
pub text-both : (old new xs : List ℕ) (p q : ℕ) → Both old new xs p q → ends_in old p ≡ true → length (text_in old p) < length xs
    → (ends_in new q ≡ true) × (text_in new q ≡ text_in old p)
unfolding ends_in text_in
text-both old new xs p q b ends lt =
    let own : has_nul xs ≡ true = short-nul xs b.was.behind (sym (ap has_nul b.was.is) ∙ ends) (subst (λ (x : List ℕ). length (text x) < length xs) b.was.is lt) in (
      ap has_nul b.is.is ∙ has_nul-append_true xs b.is.behind own,
      ap text b.is.is ∙ text-append xs b.is.behind own ∙ sym (ap text b.was.is ∙ text-append xs b.was.behind own),
    )
  where
    short-nul : (ys rest : List ℕ) → has_nul (ys ++ rest) ≡ true → length (text (ys ++ rest)) < length ys → has_nul ys ≡ true
    short-nul ys rest nul short = by_nul (has_nul ys) refl
      where
        by_nul : (t : Bool) → has_nul ys ≡ t → t ≡ true
        by_nul true e = refl
        by_nul false e = absurd (omega (arith, short, text-past ys rest e))

-- inline
pub inline-inside : (section : ℕ) (bs : List ℕ) (p : ℕ) (t : TextPlace) → inline_text section bs p ≡ Some t
    → (ends_in bs p ≡ true) × (t ≡ record { section = section; at = p; len = length (text_in bs p); field = p })
unfolding inline_text
inline-inside section bs p t e =
    let both = if-some (ends_in bs p) (Some (record { section = section; at = p; len = length (text_in bs p); field = p })) t e in
    (both.0, sym (some-same (record { section = section; at = p; len = length (text_in bs p); field = p }) t both.1))

pub inline-here : (section : ℕ) (bs : List ℕ) (p : ℕ) → ends_in bs p ≡ true
    → inline_text section bs p ≡ Some (record { section = section; at = p; len = length (text_in bs p); field = p })
unfolding inline_text
inline-here section bs p e = rw e refl
