-- Many items, each judged by those before it, are read exactly where one is.
use Rattle.std.proofs.Common.{◌≡◌, ℕ, zero, suc, List, [], ◌∷◌, ◌++◌, length, Ok, refl, ap, subst, ◌∙◌, arith}
use Rattle.std.specs.List.{flat_map}
use Rattle.std.proofs.lemmas.List.{append-nil}
use Rattle.work_texts.specs.Fields.{Field}
use Rattle.work_texts.specs.Reading.{Reading, ◌>>=◌, each_at}
use Rattle.work_texts.proofs.Formats.{IsReader, then_reader, nothing_reader, same_reader}

-- each item fits behind what those before it leave
abbrev pub AllAfter : {S A : Type 0} → (S → A → Type 0) → (S → A → S) → S → List A → Type 0
AllAfter After next state [] = Unit {0}
AllAfter After next state (a ∷ bs) = After state a × AllAfter After next (next state a) bs

pub record AreMany {S A : Type 0} (After : S → A → Type 0) (next : S → A → S) (n : ℕ) (state : S) (items : List A) : Type 0 where
  pub count : length items ≡ n
  pub all : AllAfter After next state items

-- how one item is read, behind what leaves room for so many more
pub record IsItem {S A : Type 0} (item_fields : A → List Field) (After : S → A → Type 0) (next : S → A → S) (Good : ℕ → S → Type 0) (read : S → List ℕ → Reading A) : Type 0 where
  pub reader : (n : ℕ) (state : S) → Good (suc n) state → IsReader item_fields (After state) (read state)
  pub good : (n : ℕ) (state : S) (a : A) → Good (suc n) state → After state a → Good n (next state a)
  pub some : A

abbrev first_of : {A : Type 0} → A → List A → A
first_of d [] = d
first_of d (a ∷ bs) = a

abbrev others_of : {A : Type 0} → List A → List A
others_of [] = []
others_of (a ∷ bs) = bs

none_fields : {A : Type 0} (item_fields : A → List Field) (items : List A) → length items ≡ 0 → [] ≡ flat_map item_fields items
none_fields item_fields [] e = refl
none_fields item_fields (a ∷ bs) e = absurd (omega arith)

no_items : {A : Type 0} (items : List A) → length items ≡ 0 → items ≡ []
no_items [] e = refl
no_items (a ∷ bs) e = absurd (omega arith)

first_after : {S A : Type 0} (After : S → A → Type 0) (next : S → A → S) (d : A) (n : ℕ) (state : S) (items : List A) → AreMany After next (suc n) state items → After state (first_of d items)
first_after After next d n state [] m = let e : 0 ≡ suc n = m.count in absurd (omega arith)
first_after After next d n state (a ∷ bs) m = m.all.0

others_after : {S A : Type 0} (After : S → A → Type 0) (next : S → A → S) (d : A) (n : ℕ) (state : S) (items : List A) → AreMany After next (suc n) state items → AreMany After next n (next state (first_of d items)) (others_of items)
others_after After next d n state [] m = let e : 0 ≡ suc n = m.count in absurd (omega arith)
others_after After next d n state (a ∷ bs) m =
    let e : suc (length bs) ≡ suc n = m.count in
    record { count = omega arith; all = m.all.1 }

cons_fields : {A : Type 0} (item_fields : A → List Field) (d : A) (n : ℕ) (items : List A) → length items ≡ suc n → item_fields (first_of d items) ++ (flat_map item_fields (others_of items) ++ []) ≡ flat_map item_fields items
cons_fields item_fields d n [] e = absurd (omega arith)
cons_fields item_fields d n (a ∷ bs) e = ap (λ (fs : List Field). item_fields a ++ fs) (append-nil (flat_map item_fields bs))

cons_is : {A : Type 0} (d : A) (n : ℕ) (items : List A) → length items ≡ suc n → items ≡ first_of d items ∷ others_of items
cons_is d n [] e = absurd (omega arith)
cons_is d n (a ∷ bs) e = refl

-- the items that fit what was read so far
abbrev g1 : {S A : Type 0} → (S → A → Type 0) → (S → A → S) → A → ℕ → S → A → List A → Type 0
g1 After next d n state a items = AreMany After next (suc n) state items × (first_of d items ≡ a)

abbrev g2 : {S A : Type 0} → (S → A → Type 0) → (S → A → S) → A → ℕ → S → A → List A → List A → Type 0
g2 After next d n state a bs items = g1 After next d n state a items × (others_of items ≡ bs)

end_reader : {S A : Type 0} (After : S → A → Type 0) (next : S → A → S) (d : A) (n : ℕ) (state : S) (a : A) (bs : List A) → After state a → AreMany After next n (next state a) bs
    → IsReader (λ _. []) (g2 After next d n state a bs) (λ bytes. Ok (a ∷ bs, bytes))
end_reader After next d n state a bs one more =
    let all : AreMany After next (suc n) state (a ∷ bs) = record { count = ap suc more.count; all = (one, more.all) } in
    nothing_reader (g2 After next d n state a bs) (a ∷ bs) ((all, refl), refl)
    (λ items g. cons_is d n items g.0.0.count ∙ rw (g.0.1, g.1) refl)

abbrev k1 : {A : Type 0} → A → List A → List ℕ → Reading (List A)
k1 a bs bytes = Ok (a ∷ bs, bytes)

abbrev k0 : {S A : Type 0} → (S → List ℕ → Reading A) → (S → A → S) → ℕ → S → A → List ℕ → Reading (List A)
k0 read next n state a bytes = each_at read next n (next state a) bytes >>= λ bs. k1 a bs.0 bs.1

more_reader : {S A : Type 0} (item_fields : A → List Field) (After : S → A → Type 0) (next : S → A → S) (Good : ℕ → S → Type 0) (read : S → List ℕ → Reading A) → (p : IsItem item_fields After next Good read)
    → (n : ℕ) (state : S) (a : A) → After state a → IsReader (flat_map item_fields) (AreMany After next n (next state a)) (each_at read next n (next state a))
    → IsReader (λ items. flat_map item_fields (others_of items) ++ []) (g1 After next p.some n state a) (k0 read next n state a)
more_reader item_fields After next Good read p n state a one r =
    then_reader (flat_map item_fields) (AreMany After next n (next state a)) others_of (λ _. []) (g1 After next p.some n state a) (each_at read next n (next state a)) (k1 a)
    (record {
      reader = r;
      has = λ items g. subst (λ (b : _). AreMany After next n (next state b) (others_of items)) g.1 (others_after After next p.some n state items g.0);
      next = λ bs more. end_reader After next p.some n state a bs one more;
    })

pub each_reader : {S A : Type 0} (item_fields : A → List Field) (After : S → A → Type 0) (next : S → A → S) (Good : ℕ → S → Type 0) (read : S → List ℕ → Reading A) → IsItem item_fields After next Good read
    → (n : ℕ) (state : S) → Good n state → IsReader (flat_map item_fields) (AreMany After next n state) (each_at read next n state)
unfolding each_at
each_reader item_fields After next Good read p zero state h =
    let nothing : AreMany After next 0 state [] = record { count = refl; all = tt } in
    same_reader (λ _. []) (flat_map item_fields) (AreMany After next 0 state) (λ bytes. Ok ([], bytes)) (λ items m. none_fields item_fields items m.count)
    (nothing_reader (AreMany After next 0 state) [] nothing (λ items m. no_items items m.count))
each_reader item_fields After next Good read p (suc n) state h =
    same_reader (λ items. item_fields (first_of p.some items) ++ (flat_map item_fields (others_of items) ++ [])) (flat_map item_fields) (AreMany After next (suc n) state) (λ bytes. read state bytes >>= λ a. k0 read next n state a.0 a.1)
    (λ items m. cons_fields item_fields p.some n items m.count)
    (then_reader item_fields (After state) (first_of p.some) (λ items. flat_map item_fields (others_of items) ++ []) (AreMany After next (suc n) state) (read state) (k0 read next n state)
    (record {
      reader = p.reader n state h;
      has = λ items m. first_after After next p.some n state items m;
      next = λ a one. more_reader item_fields After next Good read p n state a one (each_reader item_fields After next Good read p n (next state a) (p.good n state a h one));
    }))
