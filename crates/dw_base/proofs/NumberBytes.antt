-- The bytes of a table of abbreviations, one number after another: the last byte of a number is the first below 128.
use Rattle.std.proofs.Common.{Bool, true, false, ◌≡◌, ℕ, suc, ◌+◌, ◌≤◌, ◌%◌, ◌*◌, nat_lt, List, [], ◌∷◌, ◌++◌, length, take, Option, Some, None, refl, ap, ◌∙◌, subst, arith, if◌then◌else◌, append_assoc, add-one, ◌+ℤ◌, ◌*ℤ◌, ◌^◌, ℤ, drop, sym, pos, take-append-drop, drop-drop, ◌≢◌}
use Rattle.dw_base.specs.AbbreviationBytes.{TablePlace, code_next, tag_next, flag_next, name_next, form_next, number_next, ended, broken, TableState, after_bytes, after_byte, after_all, at_place, after_number, if_number, if_signed}
use Rattle.dw_base.specs.AbbreviationTables.{Abbreviation}
use Rattle.dw_base.specs.Lebs.{uleb, uleb_more, uleb_at, uleb_within, sleb_last, sleb_within, sleb, sleb_more, fits_i64, sleb_at}

-- the bytes are one number: each but the last is 128 or more
abbrev pub is_none : List ℕ → Bool
is_none [] = true
is_none (b ∷ bs) = false

abbrev pub is_whole : List ℕ → Bool
is_whole [] = false
is_whole (b ∷ bs) = if nat_lt b 128 then is_none bs else is_whole bs

-- the places at which a number stands
abbrev pub takes_number : TablePlace → Bool
takes_number (flag_next code tag) = false
takes_number ended = false
takes_number broken = false
takes_number p = true

abbrev pub unfinished : TablePlace → List ℕ → List Abbreviation → TableState
unfinished p t list = record { place = p; number = t; list = list }

-- after a byte of a number
number-byte : (p : TablePlace) (t : List ℕ) (list : List Abbreviation) (b : ℕ) → takes_number p ≡ true
    → after_byte p t list b ≡ (if nat_lt b 128 then after_bytes p (t ++ b ∷ []) list else unfinished p (t ++ b ∷ []) list)
number-byte (flag_next code tag) t list b e = absurd cc
number-byte ended t list b e = absurd cc
number-byte broken t list b e = absurd cc
number-byte code_next t list b e = refl
number-byte (tag_next code) t list b e = refl
number-byte (name_next a) t list b e = refl
number-byte (form_next a name) t list b e = refl
number-byte (number_next a name) t list b e = refl

-- after the bytes of a number
pub after_all-whole : (p : TablePlace) (t : List ℕ) (list : List Abbreviation) (front rest : List ℕ) → takes_number p ≡ true → is_whole front ≡ true
    → after_all (unfinished p t list) (front ++ rest) ≡ after_all (after_bytes p (t ++ front) list) rest
after_all-whole p t list [] rest takes w = absurd cc
after_all-whole p t list (b ∷ bs) rest takes w =
    ap (λ (s : TableState). after_all s (bs ++ rest)) (number-byte p t list b takes) ∙ by_low (nat_lt b 128) bs w (λ v. after_all-whole p (t ++ b ∷ []) list bs rest takes v)
  where
    by_low : (low : Bool) (cs : List ℕ) → (if low then is_none cs else is_whole cs) ≡ true
        → (is_whole cs ≡ true → after_all (unfinished p (t ++ b ∷ []) list) (cs ++ rest) ≡ after_all (after_bytes p ((t ++ b ∷ []) ++ cs) list) rest)
        → after_all (if low then after_bytes p (t ++ b ∷ []) list else unfinished p (t ++ b ∷ []) list) (cs ++ rest)
        ≡ after_all (after_bytes p (t ++ b ∷ cs) list) rest
    by_low true [] v step = refl
    by_low true (c ∷ cs) v step = absurd cc
    by_low false cs v step = step v ∙ ap (λ (u : List ℕ). after_all (after_bytes p u list) rest) (append_assoc t (b ∷ []) cs)

-- the front of bytes at which a number was read
pub record Front (bs : List ℕ) (v : ℕ × ℕ) : Type 0 where
  pub whole : is_whole (take v.1 bs) ≡ true
  pub reads : uleb (take v.1 bs) ≡ Some v
  pub within : v.1 ≤ length bs

some-same : {X : Type 0} (x y : X) → Some x ≡ Some y → x ≡ y
some-same x y e = cc

front-last : (b : ℕ) (bs : List ℕ) (v : ℕ × ℕ) → nat_lt b 128 ≡ true → Some (b, 1) ≡ Some v → Front (b ∷ bs) v
front-last b bs v low e =
    let f : Front (b ∷ bs) (b, 1) = record { whole = rw low refl; reads = rw low refl; within = omega arith } in
    subst (λ (w : ℕ × ℕ). Front (b ∷ bs) w) (some-same _ _ e) f

front-more : (b : ℕ) (bs : List ℕ) (w v : ℕ × ℕ) → nat_lt b 128 ≡ false → Front bs w → Some (b % 128 + 128 * w.0, w.1 + 1) ≡ Some v
    → Front (b ∷ bs) v
front-more b bs w v high g e =
    let within : w.1 ≤ length bs = g.within in
    let f : Front (b ∷ bs) (b % 128 + 128 * w.0, suc w.1) = record { whole = rw high g.whole; reads = rw (high, g.reads) (rw add-one refl); within = omega arith } in
    let f_one : Front (b ∷ bs) (b % 128 + 128 * w.0, w.1 + 1) = rw add-one f in
    subst (λ (u : ℕ × ℕ). Front (b ∷ bs) u) (some-same _ _ e) f_one

-- the bytes of a number that was read
pub uleb-front_of : (bs : List ℕ) (v : ℕ × ℕ) → uleb bs ≡ Some v → Front bs v
uleb-front_of [] v e = absurd cc
uleb-front_of (b ∷ bs) v e = by_low (nat_lt b 128) (uleb bs) refl (λ w f. uleb-front_of bs w f) e
  where
    by_low : (low : Bool) (o : Option (ℕ × ℕ)) → nat_lt b 128 ≡ low → ((w : ℕ × ℕ) → o ≡ Some w → Front bs w)
        → (if low then Some (b, 1) else uleb_more b o) ≡ Some v → Front (b ∷ bs) v
    by_low true o is g e = front-last b bs v is e
    by_low false None is g e = absurd cc
    by_low false (Some w) is g e = front-more b bs w v is (g w refl) e

-- the same of a signed number
pub record SignedFront (bs : List ℕ) (v : ℤ × ℕ) : Type 0 where
  pub whole : is_whole (take v.1 bs) ≡ true
  pub reads : sleb (take v.1 bs) ≡ Some v
  pub within : v.1 ≤ length bs

signed-last : (b : ℕ) (bs : List ℕ) (v : ℤ × ℕ) → nat_lt b 128 ≡ true → Some (sleb_last b, 1) ≡ Some v → SignedFront (b ∷ bs) v
signed-last b bs v low e =
    let f : SignedFront (b ∷ bs) (sleb_last b, 1) = record { whole = rw low refl; reads = rw low refl; within = omega arith } in
    subst (λ (w : ℤ × ℕ). SignedFront (b ∷ bs) w) (some-same _ _ e) f

signed-more : (b : ℕ) (bs : List ℕ) (w v : ℤ × ℕ) → nat_lt b 128 ≡ false → SignedFront bs w
    → Some (pos (b % 128) +ℤ pos 128 *ℤ w.0, w.1 + 1) ≡ Some v → SignedFront (b ∷ bs) v
signed-more b bs w v high g e =
    let within : w.1 ≤ length bs = g.within in
    let f : SignedFront (b ∷ bs) (pos (b % 128) +ℤ pos 128 *ℤ w.0, suc w.1) =
    record { whole = rw high g.whole; reads = rw (high, g.reads) (rw add-one refl); within = omega arith } in
    let f_one : SignedFront (b ∷ bs) (pos (b % 128) +ℤ pos 128 *ℤ w.0, w.1 + 1) = rw add-one f in
    subst (λ (u : ℤ × ℕ). SignedFront (b ∷ bs) u) (some-same _ _ e) f_one

pub sleb-front_of : (bs : List ℕ) (v : ℤ × ℕ) → sleb bs ≡ Some v → SignedFront bs v
sleb-front_of [] v e = absurd cc
sleb-front_of (b ∷ bs) v e = by_low (nat_lt b 128) (sleb bs) refl (λ w f. sleb-front_of bs w f) e
  where
    by_low : (low : Bool) (o : Option (ℤ × ℕ)) → nat_lt b 128 ≡ low → ((w : ℤ × ℕ) → o ≡ Some w → SignedFront bs w)
        → (if low then Some (sleb_last b, 1) else sleb_more b o) ≡ Some v → SignedFront (b ∷ bs) v
    by_low true o is g e = signed-last b bs v is e
    by_low false None is g e = absurd cc
    by_low false (Some w) is g e = signed-more b bs w v is (g w refl) e

-- a number is read of its own bytes
pub within-some : (o : Option (ℕ × ℕ)) (v : ℕ × ℕ) → uleb_within o ≡ Some v → o ≡ Some v
within-some None v e = absurd cc
within-some (Some w) v e = by_fits (nat_lt w.0 (2 ^ 64)) e
  where
    by_fits : (b : Bool) → (if b then Some w else None) ≡ Some v → Some w ≡ Some v
    by_fits true e = e
    by_fits false e = absurd cc

pub signed_within-some : (o : Option (ℤ × ℕ)) (v : ℤ × ℕ) → sleb_within o ≡ Some v → o ≡ Some v
signed_within-some None v e = absurd cc
signed_within-some (Some w) v e = by_fits (fits_i64 w.0) e
  where
    by_fits : (b : Bool) → (if b then Some w else None) ≡ Some v → Some w ≡ Some v
    by_fits true e = e
    by_fits false e = absurd cc

-- the bytes behind a front of them
pub split-front : (n at : ℕ) (bytes : List ℕ) → drop at bytes ≡ take n (drop at bytes) ++ drop (at + n) bytes
split-front n at bytes =
    sym (take-append-drop n (drop at bytes)) ∙ ap (λ (bs : List ℕ). take n (drop at bytes) ++ bs) (drop-drop n at bytes)

-- after a number that stands at a place
pub number-read : (p : TablePlace) (list : List Abbreviation) (bytes : List ℕ) (at : ℕ) (v n : ℕ) → takes_number p ≡ true
    → uleb_at bytes at ≡ Some (v, n) → uleb_at (take n (drop at bytes)) 0 ≡ Some (v, n)
    × (after_all (at_place p list) (drop at bytes) ≡ after_all (after_bytes p (take n (drop at bytes)) list) (drop (at + n) bytes))
unfolding uleb_at
number-read p list bytes at v n takes e =
    let f : Front (drop at bytes) (v, n) = uleb-front_of (drop at bytes) (v, n) (within-some (uleb (drop at bytes)) (v, n) e) in
    let whole : is_whole (take n (drop at bytes)) ≡ true = f.whole in
    let fits : uleb_within (uleb (take n (drop at bytes))) ≡ Some (v, n) =
    ap uleb_within f.reads ∙ sym (ap uleb_within (within-some (uleb (drop at bytes)) (v, n) e)) ∙ e in (
      fits,
      ap (after_all (at_place p list)) (split-front n at bytes)
          ∙ after_all-whole p [] list (take n (drop at bytes)) (drop (at + n) bytes) takes whole,
    )

-- the places of unsigned numbers
abbrev pub takes_unsigned : TablePlace → Bool
takes_unsigned (flag_next code tag) = false
takes_unsigned (number_next a name) = false
takes_unsigned ended = false
takes_unsigned broken = false
takes_unsigned p = true

unsigned-takes : (p : TablePlace) → takes_unsigned p ≡ true → takes_number p ≡ true
unsigned-takes (flag_next code tag) e = absurd cc
unsigned-takes (number_next a name) e = absurd cc
unsigned-takes ended e = absurd cc
unsigned-takes broken e = absurd cc
unsigned-takes code_next e = refl
unsigned-takes (tag_next code) e = refl
unsigned-takes (name_next a) e = refl
unsigned-takes (form_next a name) e = refl

pub unsigned-after : (p : TablePlace) (t : List ℕ) (list : List Abbreviation) → takes_unsigned p ≡ true
    → after_bytes p t list ≡ if_number p list (uleb_within (uleb t))
unsigned-after (flag_next code tag) t list e = absurd cc
unsigned-after (number_next a name) t list e = absurd cc
unsigned-after ended t list e = absurd cc
unsigned-after broken t list e = absurd cc
unsigned-after code_next t list e = refl
unsigned-after (tag_next code) t list e = refl
unsigned-after (name_next a) t list e = refl
unsigned-after (form_next a name) t list e = refl

-- after an unsigned number that stands at a place
pub unsigned-read : (p : TablePlace) (list : List Abbreviation) (bytes : List ℕ) (at v n : ℕ) → takes_unsigned p ≡ true
    → uleb_at bytes at ≡ Some (v, n)
    → after_all (at_place p list) (drop at bytes) ≡ after_all (after_number p v list) (drop (at + n) bytes)
unfolding uleb_at
unsigned-read p list bytes at v n takes e =
    let r = number-read p list bytes at v n (unsigned-takes p takes) e in
    let front : uleb_within (uleb (take n (drop at bytes))) ≡ Some (v, n) = r.0 in
    r.1 ∙ ap (λ (s : TableState). after_all s (drop (at + n) bytes))
    (unsigned-after p (take n (drop at bytes)) list takes ∙ ap (if_number p list) front)

-- after the signed number of an attribute
pub signed-read : (a : Abbreviation) (name : ℕ) (list : List Abbreviation) (bytes : List ℕ) (at : ℕ) (v : ℤ) (n : ℕ)
    → sleb_at bytes at ≡ Some (v, n)
    → after_all (at_place (number_next a name) list) (drop at bytes) ≡ after_all (if_signed a name list (Some (v, n))) (drop (at + n) bytes)
unfolding sleb_at
signed-read a name list bytes at v n e =
    let f : SignedFront (drop at bytes) (v, n) = sleb-front_of (drop at bytes) (v, n) (signed_within-some (sleb (drop at bytes)) (v, n) e) in
    let whole : is_whole (take n (drop at bytes)) ≡ true = f.whole in
    let fits : sleb_within (sleb (take n (drop at bytes))) ≡ Some (v, n) =
    ap sleb_within f.reads ∙ sym (ap sleb_within (signed_within-some (sleb (drop at bytes)) (v, n) e)) ∙ e in
    ap (after_all (at_place (number_next a name) list)) (split-front n at bytes)
    ∙ after_all-whole (number_next a name) [] list (take n (drop at bytes)) (drop (at + n) bytes) refl whole
    ∙ ap (λ (o : Option (ℤ × ℕ)). after_all (if_signed a name list o) (drop (at + n) bytes)) fits

-- a table that is broken stays so
pub broken-stays : (list : List Abbreviation) (bs : List ℕ) → (after_all (at_place broken list) bs).place ≡ broken
broken-stays list [] = refl
broken-stays list (b ∷ bs) = broken-stays list bs

ends-otherwise : (s : TableState) → s.place ≡ broken → s.place ≢ ended
ends-otherwise s e f = cc

number-other : (p : TablePlace) → takes_number p ≡ true → p ≢ ended
number-other p takes e = by_place p takes e
  where
    by_place : (p : TablePlace) → takes_number p ≡ true → p ≡ ended → ⊥
    by_place ended takes e = cc
    by_place p takes e = cc

-- where no number ends, none is read
no-last : (p : TablePlace) (t : List ℕ) (list : List Abbreviation) (bs : List ℕ) → takes_number p ≡ true → uleb bs ≡ None
    → (after_all (unfinished p t list) bs).place ≡ p
no-last p t list [] takes e = refl
no-last p t list (b ∷ bs) takes e =
    ap (λ (s : TableState). (after_all s bs).place) (number-byte p t list b takes)
    ∙ by_low (nat_lt b 128) (uleb bs) (λ f. no-last p (t ++ b ∷ []) list bs takes f) e
  where
    by_low : (low : Bool) (o : Option (ℕ × ℕ)) → (o ≡ None → (after_all (unfinished p (t ++ b ∷ []) list) bs).place ≡ p)
        → (if low then Some (b, 1) else uleb_more b o) ≡ None
        → (after_all (if low then after_bytes p (t ++ b ∷ []) list else unfinished p (t ++ b ∷ []) list) bs).place ≡ p
    by_low true o step e = absurd cc
    by_low false None step e = step refl
    by_low false (Some w) step e = absurd cc

-- nor where a number is too large
pub number-breaks : (p : TablePlace) (list : List Abbreviation) (bytes : List ℕ) (at : ℕ) → takes_unsigned p ≡ true
    → uleb_at bytes at ≡ None → (after_all (at_place p list) (drop at bytes)).place ≢ ended
unfolding uleb_at
number-breaks p list bytes at takes e = by_read (uleb (drop at bytes)) refl e
  where
    by_read : (o : Option (ℕ × ℕ)) → uleb (drop at bytes) ≡ o → uleb_within o ≡ None
        → (after_all (at_place p list) (drop at bytes)).place ≢ ended
    by_read None is e =
        let kept : (after_all (at_place p list) (drop at bytes)).place ≡ p = no-last p [] list (drop at bytes) (unsigned-takes p takes) is in
        subst (λ (q : TablePlace). q ≢ ended) (sym kept) (number-other p (unsigned-takes p takes))
    by_read (Some v) is e =
        let f : Front (drop at bytes) v = uleb-front_of (drop at bytes) v is in
        let none : uleb_within (uleb (take v.1 (drop at bytes))) ≡ None = ap uleb_within f.reads ∙ e in
        let same : after_all (at_place p list) (drop at bytes) ≡ after_all (at_place broken list) (drop (at + v.1) bytes) =
        ap (after_all (at_place p list)) (split-front v.1 at bytes)
        ∙ after_all-whole p [] list (take v.1 (drop at bytes)) (drop (at + v.1) bytes) (unsigned-takes p takes) f.whole
        ∙ ap (λ (s : TableState). after_all s (drop (at + v.1) bytes))
        (unsigned-after p (take v.1 (drop at bytes)) list takes ∙ ap (if_number p list) none) in
        ends-otherwise (after_all (at_place p list) (drop at bytes))
        (ap (λ (s : TableState). s.place) same ∙ broken-stays list (drop (at + v.1) bytes))

none-both : (bs : List ℕ) → sleb bs ≡ None → uleb bs ≡ None
none-both [] e = refl
none-both (b ∷ bs) e = by_low (nat_lt b 128) (sleb bs) (uleb bs) (λ f. none-both bs f) e
  where
    by_low : (low : Bool) (o : Option (ℤ × ℕ)) (q : Option (ℕ × ℕ)) → (o ≡ None → q ≡ None)
        → (if low then Some (sleb_last b, 1) else sleb_more b o) ≡ None → (if low then Some (b, 1) else uleb_more b q) ≡ None
    by_low true o q step e = absurd cc
    by_low false None q step e = rw (step refl) refl
    by_low false (Some w) q step e = absurd cc

-- the same of a signed number
pub signed-breaks : (a : Abbreviation) (name : ℕ) (list : List Abbreviation) (bytes : List ℕ) (at : ℕ) → sleb_at bytes at ≡ None
    → (after_all (at_place (number_next a name) list) (drop at bytes)).place ≢ ended
unfolding sleb_at
signed-breaks a name list bytes at e = by_read (sleb (drop at bytes)) refl e
  where
    by_read : (o : Option (ℤ × ℕ)) → sleb (drop at bytes) ≡ o → sleb_within o ≡ None
        → (after_all (at_place (number_next a name) list) (drop at bytes)).place ≢ ended
    by_read None is e =
        let kept : (after_all (at_place (number_next a name) list) (drop at bytes)).place ≡ number_next a name =
        no-last (number_next a name) [] list (drop at bytes) refl (none-both (drop at bytes) is) in
        subst (λ (q : TablePlace). q ≢ ended) (sym kept) (number-other (number_next a name) refl)
    by_read (Some v) is e =
        let f : SignedFront (drop at bytes) v = sleb-front_of (drop at bytes) v is in
        let none : sleb_within (sleb (take v.1 (drop at bytes))) ≡ None = ap sleb_within f.reads ∙ e in
        let same : after_all (at_place (number_next a name) list) (drop at bytes) ≡ after_all (at_place broken list) (drop (at + v.1) bytes) =
        ap (after_all (at_place (number_next a name) list)) (split-front v.1 at bytes)
        ∙ after_all-whole (number_next a name) [] list (take v.1 (drop at bytes)) (drop (at + v.1) bytes) refl f.whole
        ∙ ap (λ (o : Option (ℤ × ℕ)). after_all (if_signed a name list o) (drop (at + v.1) bytes)) none in
        ends-otherwise (after_all (at_place (number_next a name) list) (drop at bytes))
        (ap (λ (s : TableState). s.place) same ∙ broken-stays list (drop (at + v.1) bytes))

-- a signed number is read of its own bytes
pub signed-cut : (bytes : List ℕ) (at : ℕ) (v : ℤ) (n : ℕ) → sleb_at bytes at ≡ Some (v, n)
    → (sleb_at (take n (drop at bytes)) 0 ≡ Some (v, n)) × (n ≤ length (drop at bytes))
unfolding sleb_at
signed-cut bytes at v n e =
    let f : SignedFront (drop at bytes) (v, n) = sleb-front_of (drop at bytes) (v, n) (signed_within-some (sleb (drop at bytes)) (v, n) e) in
    (ap sleb_within f.reads ∙ sym (ap sleb_within (signed_within-some (sleb (drop at bytes)) (v, n) e)) ∙ e, f.within)

-- and so is an unsigned one
pub number-cut : (bytes : List ℕ) (at v n : ℕ) → uleb_at bytes at ≡ Some (v, n)
    → (uleb_at (take n (drop at bytes)) 0 ≡ Some (v, n)) × (n ≤ length (drop at bytes))
unfolding uleb_at
number-cut bytes at v n e =
    let f : Front (drop at bytes) (v, n) = uleb-front_of (drop at bytes) (v, n) (within-some (uleb (drop at bytes)) (v, n) e) in
    (ap uleb_within f.reads ∙ sym (ap uleb_within (within-some (uleb (drop at bytes)) (v, n) e)) ∙ e, f.within)
