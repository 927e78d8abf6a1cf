-- The copy of a table of abbreviations, one number after another: a number's bytes are copied, or those of another form stand in their place;
-- and what stands in bytes whose rest is known.
use Rattle.std.proofs.Common.{Bool, true, false, ◌≡◌, ℕ, ◌+◌, ◌<◌, nat_lt, ℤ, List, [], ◌∷◌, ◌++◌, length, take, drop, slice_index, get_or, Option, Some, refl, sym, ap, ◌∙◌, arith, if◌then◌else◌, append_assoc}
use Rattle.std.proofs.lemmas.List.{drop_at, drop-drop, get_or-drop, length-drop, length-take-le}
use Rattle.dw_base.specs.AbbreviationBytes.{TablePlace, code_next, tag_next, flag_next, name_next, form_next, number_next, ended, broken, TableState, after_bytes, after_byte, at_place, after_number, if_number, if_signed}
use Rattle.dw_base.specs.AbbreviationTables.{Abbreviation}
use Rattle.dw_base.specs.Lebs.{sleb, sleb_at, sleb_within, uleb, uleb_at, uleb_within}
use Rattle.dw_base.proofs.LebLaws.{sleb_at-append, uleb_at-append}
use Rattle.dw_base.proofs.NumberBytes.{is_none, is_whole, number-cut, signed-cut, signed_within-some, sleb-front_of, split-front, takes_number, takes_unsigned, uleb-front_of, unfinished, unsigned-after, within-some}
use Rattle.inline_lift.specs.GrowingPaths.{Fate, stays, grown}
use Rattle.inline_lift.specs.LiftedTables.{copied, copied_byte, is_ended, lifted_form, next_fate}

-- what a number becomes whose bytes are these
abbrev pub copied_number : Fate → List ℕ → List ℕ
copied_number stays bs = bs
copied_number (grown r) bs = lifted_form r

-- a byte of a number, by whether it is the last
abbrev copied_low : Fate → Bool → ℕ → List ℕ
copied_low stays low b = b ∷ []
copied_low (grown r) low b = if low then lifted_form r else []

copied-low : (f : Fate) (b : ℕ) → copied_byte f b ≡ copied_low f (nat_lt b 128) b
copied-low stays b = refl
copied-low (grown r) b = refl

abbrev state_low : TablePlace → List ℕ → List Abbreviation → Bool → TableState
state_low p t list low = if low then after_bytes p t list else unfinished p t list

-- where a number stands, the table hasn't ended, and the next byte belongs to the number
pub record Takes (p : TablePlace) : Type 0 where
  pub begun : is_ended p ≡ false
  pub byte : (t : List ℕ) (list : List Abbreviation) (b : ℕ) → after_byte p t list b ≡ state_low p (t ++ b ∷ []) list (nat_lt b 128)

number-takes : (p : TablePlace) → takes_number p ≡ true → Takes p
number-takes (flag_next code tag) e = absurd cc
number-takes ended e = absurd cc
number-takes broken e = absurd cc
number-takes code_next e = record { begun = refl; byte = λ t list b. refl }
number-takes (tag_next code) e = record { begun = refl; byte = λ t list b. refl }
number-takes (name_next a) e = record { begun = refl; byte = λ t list b. refl }
number-takes (form_next a name) e = record { begun = refl; byte = λ t list b. refl }
number-takes (number_next a name) e = record { begun = refl; byte = λ t list b. refl }

-- the bytes of a number
copied-whole : (code : ℕ) (fs : List Fate) (p : TablePlace) (t : List ℕ) (list : List Abbreviation) (front rest : List ℕ) → Takes p → is_whole front ≡ true
    → copied code fs (unfinished p t list) (front ++ rest)
    ≡ copied_number (next_fate code fs p) front ++ copied code fs (after_bytes p (t ++ front) list) rest
copied-whole code fs p t list [] rest takes w = absurd cc
copied-whole code fs p t list (b ∷ bs) rest takes w =
    let f : Fate = next_fate code fs p in
    ap (λ (e : Bool). if e then [] else copied_byte f b ++ copied code fs (after_byte p t list b) (bs ++ rest)) takes.begun
    ∙ ap (λ (s : TableState). copied_byte f b ++ copied code fs s (bs ++ rest)) (takes.byte t list b)
    ∙ ap (λ (c : List ℕ). c ++ copied code fs (state_low p (t ++ b ∷ []) list (nat_lt b 128)) (bs ++ rest)) (copied-low f b)
    ∙ by_low f (nat_lt b 128) bs w (λ v. copied-whole code fs p (t ++ b ∷ []) list bs rest takes v)
  where
    by_low : (f : Fate) (low : Bool) (cs : List ℕ) → (if low then is_none cs else is_whole cs) ≡ true
        → (is_whole cs ≡ true → copied code fs (unfinished p (t ++ b ∷ []) list) (cs ++ rest)
        ≡ copied_number f cs ++ copied code fs (after_bytes p ((t ++ b ∷ []) ++ cs) list) rest)
        → copied_low f low b ++ copied code fs (state_low p (t ++ b ∷ []) list low) (cs ++ rest)
        ≡ copied_number f (b ∷ cs) ++ copied code fs (after_bytes p (t ++ b ∷ cs) list) rest
    by_low stays true [] v step = refl
    by_low (grown r) true [] v step = refl
    by_low f true (c ∷ cs) v step = absurd cc
    by_low stays false cs v step =
        ap (λ (u : List ℕ). b ∷ u) (step v) ∙ ap (λ (u : List ℕ). b ∷ (cs ++ copied code fs (after_bytes p u list) rest)) (append_assoc t (b ∷ []) cs)
    by_low (grown r) false cs v step =
        step v ∙ ap (λ (u : List ℕ). lifted_form r ++ copied code fs (after_bytes p u list) rest) (append_assoc t (b ∷ []) cs)

unsigned-whole : (bytes : List ℕ) (at v n : ℕ) → uleb_at bytes at ≡ Some (v, n) → is_whole (take n (drop at bytes)) ≡ true
unfolding uleb_at
unsigned-whole bytes at v n e = (uleb-front_of (drop at bytes) (v, n) (within-some (uleb (drop at bytes)) (v, n) e)).whole

signed-whole : (bytes : List ℕ) (at : ℕ) (v : ℤ) (n : ℕ) → sleb_at bytes at ≡ Some (v, n) → is_whole (take n (drop at bytes)) ≡ true
unfolding sleb_at
signed-whole bytes at v n e = (sleb-front_of (drop at bytes) (v, n) (signed_within-some (sleb (drop at bytes)) (v, n) e)).whole

-- the copy from a place on, where this comes next
abbrev pub copied_from : ℕ → List Fate → TablePlace → List Abbreviation → List ℕ → ℕ → List ℕ
copied_from code fs p list bytes at = copied code fs (at_place p list) (drop at bytes)

-- the places of unsigned numbers
unsigned-takes : (p : TablePlace) → takes_unsigned p ≡ true → Takes p
unsigned-takes (flag_next code tag) e = absurd cc
unsigned-takes (number_next a name) e = absurd cc
unsigned-takes ended e = absurd cc
unsigned-takes broken e = absurd cc
unsigned-takes code_next e = number-takes code_next refl
unsigned-takes (tag_next code) e = number-takes (tag_next code) refl
unsigned-takes (name_next a) e = number-takes (name_next a) refl
unsigned-takes (form_next a name) e = number-takes (form_next a name) refl

-- an unsigned number that stands at a place
pub unsigned-copied : (code : ℕ) (fs : List Fate) (p : TablePlace) (list : List Abbreviation) (bytes : List ℕ) (at v n : ℕ) → takes_unsigned p ≡ true
    → uleb_at bytes at ≡ Some (v, n)
    → copied_from code fs p list bytes at
    ≡ copied_number (next_fate code fs p) (take n (drop at bytes)) ++ copied code fs (after_number p v list) (drop (at + n) bytes)
unfolding uleb_at
unsigned-copied code fs p list bytes at v n takes e =
    let read : uleb_within (uleb (take n (drop at bytes))) ≡ Some (v, n) = (number-cut bytes at v n e).0 in
    ap (copied code fs (at_place p list)) (split-front n at bytes)
    ∙ copied-whole code fs p [] list (take n (drop at bytes)) (drop (at + n) bytes) (unsigned-takes p takes) (unsigned-whole bytes at v n e)
    ∙ ap (λ (s : TableState). copied_number (next_fate code fs p) (take n (drop at bytes)) ++ copied code fs s (drop (at + n) bytes))
    (unsigned-after p (take n (drop at bytes)) list takes ∙ ap (if_number p list) read)

-- the signed number of an attribute
pub signed-copied : (code : ℕ) (fs : List Fate) (a : Abbreviation) (name : ℕ) (list : List Abbreviation) (bytes : List ℕ) (at : ℕ) (v : ℤ) (n : ℕ)
    → sleb_at bytes at ≡ Some (v, n)
    → copied_from code fs (number_next a name) list bytes at
    ≡ take n (drop at bytes) ++ copied code fs (if_signed a name list (Some (v, n))) (drop (at + n) bytes)
unfolding sleb_at
signed-copied code fs a name list bytes at v n e =
    let read : sleb_within (sleb (take n (drop at bytes))) ≡ Some (v, n) = (signed-cut bytes at v n e).0 in
    ap (copied code fs (at_place (number_next a name) list)) (split-front n at bytes)
    ∙ copied-whole code fs (number_next a name) [] list (take n (drop at bytes)) (drop (at + n) bytes) (number-takes (number_next a name) refl)
    (signed-whole bytes at v n e)
    ∙ ap (λ (o : Option (ℤ × ℕ)). take n (drop at bytes) ++ copied code fs (if_signed a name list o) (drop (at + n) bytes)) read

-- what stands in bytes whose rest from a place on is known: the rest behind a front
pub rest-behind : (out : List ℕ) (k : ℕ) (front rest : List ℕ) (n : ℕ) → drop k out ≡ front ++ rest → length front ≡ n → drop (k + n) out ≡ rest
rest-behind out k front rest n e size = sym (drop-drop n k out) ∙ ap (drop n) e ∙ drop_at front rest n size

-- an unsigned number, and a signed one
pub number-there : (out : List ℕ) (k : ℕ) (front rest : List ℕ) (v : ℕ × ℕ) → drop k out ≡ front ++ rest → uleb_at front 0 ≡ Some v → uleb_at out k ≡ Some v
unfolding uleb_at
number-there out k front rest v e read =
    let more : uleb_at (front ++ rest) 0 ≡ Some v = uleb_at-append front rest 0 v (omega arith) read in
    ap (λ (bs : List ℕ). uleb_within (uleb bs)) e ∙ more

pub signed-there : (out : List ℕ) (k : ℕ) (front rest : List ℕ) (v : ℤ × ℕ) → drop k out ≡ front ++ rest → sleb_at front 0 ≡ Some v → sleb_at out k ≡ Some v
unfolding sleb_at
signed-there out k front rest v e read =
    let more : sleb_at (front ++ rest) 0 ≡ Some v = sleb_at-append front rest 0 v (omega arith) read in
    ap (λ (bs : List ℕ). sleb_within (sleb bs)) e ∙ more

-- a byte
pub byte-there : (out : List ℕ) (k b : ℕ) (rest : List ℕ) → drop k out ≡ b ∷ rest → (k < length out) × (slice_index out k ≡ b)
byte-there out k b rest e =
    let size : length (drop k out) ≡ length (b ∷ rest) = ap length e in
    let place : k + 0 ≡ k = omega arith in (
      omega (arith, size, length-drop k out),
      ap (slice_index out) (sym place) ∙ sym (get_or-drop k out 0 0) ∙ ap (λ (bs : List ℕ). get_or bs 0 0) e,
    )

-- the length of what was read
pub number-size : (bytes : List ℕ) (at v n : ℕ) → uleb_at bytes at ≡ Some (v, n) → length (take n (drop at bytes)) ≡ n
number-size bytes at v n e = length-take-le n (drop at bytes) (number-cut bytes at v n e).1

pub signed-size : (bytes : List ℕ) (at : ℕ) (v : ℤ) (n : ℕ) → sleb_at bytes at ≡ Some (v, n) → length (take n (drop at bytes)) ≡ n
signed-size bytes at v n e = length-take-le n (drop at bytes) (signed-cut bytes at v n e).1
