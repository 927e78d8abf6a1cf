-- The items that are given for the sections of a file, from bodies that are taken one by one from the last on.
use Rattle.std.proofs.Common.{◌≡◌, ◌≢◌, ℕ, zero, suc, ◌+◌, ◌<◌, ◌⊎◌, inl, inr, ◌==◌, Bool, false, if◌then◌else◌, List, [], ◌∷◌, ◌++◌, length, take, drop, replicate, slice_set, Option, Some, None, refl, sym, ap, ◌∙◌, arith, subst, length-append}
use Rattle.std.proofs.lemmas.Bool.{eq-eqb, ne_eqb, cases_eq}
use Rattle.std.proofs.lemmas.List.{append-nil, drop_all, take_all, get_or-replicate, get_or-set_other, get_or-set_same, length-replicate, length-set}
use Rattle.dw_meaning.specs.DataOutput.{Body}
use Rattle.dw_base.specs.Elf.{section_count}
use Rattle.elf_layout.specs.Given.{NewBody, body_bytes, item_of}
use Rattle.dw_rewrite.specs.Rewritten.{AllStand, AreGiven, IsGiven, Stands, is_of, item_bytes}

abbrev Items : Type 0
Items = List (Option NewBody)

-- A body of no section is given to none.
of_none : (x : Body) (i : ℕ) → x.number ≡ 0 → is_of x i ≡ false
of_none x i none = rw none refl

pub given-none : (old new : Items) (x : Body) → new ≡ old → x.number ≡ 0 → IsGiven old new x
given-none old new x same none = record {
  size = ap (λ (l : Items). length l) same;
  given = λ i lt. ap (λ (l : Items). item_bytes (item_of l i)) same
      ∙ ap (λ (t : Bool). if t then Some x.bytes else item_bytes (item_of old i)) (sym (of_none x i none));
}

-- One of a section is given to that section alone.
of_some : (x : Body) (i : ℕ) → x.number ≢ 0 → is_of x i ≡ (i == x.number)
of_some x i some = rw (ne_eqb x.number 0 some) refl

pub given-some : (old new : Items) (x : Body) (v : NewBody) → new ≡ slice_set old x.number (Some v) → body_bytes v ≡ x.bytes → x.number ≢ 0
    → x.number < length old → IsGiven old new x
given-some old new x v is bytes some lt = record {
  size = ap (λ (l : Items). length l) is ∙ length-set old x.number (Some v);
  given = λ i below. ap (λ (l : Items). item_bytes (item_of l i)) is ∙ by_number i (cases_eq i x.number);
}
  where
    by_number : (i : ℕ) → (i ≡ x.number) ⊎ (i ≡ x.number → ⊥)
        → item_bytes (item_of (slice_set old x.number (Some v)) i) ≡ (if is_of x i then Some x.bytes else item_bytes (item_of old i))
    by_number i (inl same) =
        ap (λ (k : ℕ). item_bytes (item_of (slice_set old x.number (Some v)) k)) same
        ∙ ap item_bytes (get_or-set_same old x.number (Some v) None lt) ∙ ap (λ (bs : List ℕ). Some bs) bytes
        ∙ ap (λ (t : Bool). if t then Some x.bytes else item_bytes (item_of old i)) (sym (of_some x i some ∙ eq-eqb i x.number same))
    by_number i (inr other) =
        ap item_bytes (get_or-set_other old x.number i (Some v) None other)
        ∙ ap (λ (t : Bool). if t then Some x.bytes else item_bytes (item_of old i)) (sym (of_some x i some ∙ ne_eqb i x.number other))

pub ruleset give_rules = (given-none, given-some)

-- At first none is given.
pub none-given : (b : List ℕ) (items : Items) (n : ℕ) → items ≡ replicate n None → n ≡ section_count b → AreGiven b items []
none-given b items n is count = record {
  each = ap (λ (l : Items). length l) is ∙ length-replicate n None ∙ count;
  given = λ i lt. ap (λ (l : Items). item_bytes (item_of l i)) is ∙ ap item_bytes (get_or-replicate n i None None (omega (arith, count)));
}

none-next : (n : ℕ) → ◌≡◌ {A = Items} (replicate n None ++ None ∷ []) (replicate (suc n) None)
none-next zero = refl
none-next (suc n) = ap (λ (l : Items). None ∷ l) (none-next n)

pub none-more : (items more : Items) (i : ℕ) → items ≡ replicate i None → more ≡ items ++ None ∷ [] → more ≡ replicate (i + 1) None
none-more items more i is more_is =
    let next : i + 1 ≡ suc i = omega arith in
    subst (λ (n : ℕ). more ≡ replicate n None) (sym next) (more_is ∙ ap (λ (l : Items). l ++ None ∷ []) is ∙ none-next i)

pub ruleset none_rules = (none-given)

-- The last of a list.
split_last : (all ys : List Body) (y : Body) → take (suc (length ys)) all ≡ ys ++ y ∷ []
    → (take (length ys) all ≡ ys) × (drop (length ys) all ≡ y ∷ drop (suc (length ys)) all)
split_last [] [] y e = cc
split_last (x ∷ all) [] y e = (refl, cc)
split_last [] (z ∷ ys) y e = cc
split_last (x ∷ all) (z ∷ ys) y e =
    let head : x ≡ z = cc in
    let rest : take (suc (length ys)) all ≡ ys ++ y ∷ [] = cc in
    let found = split_last all ys y rest in
    (rw (head, found.0) refl, found.1)

take_whole : (xs : List Body) → take (length xs) xs ≡ xs
take_whole [] = refl
take_whole (x ∷ xs) = ap (λ ys. x ∷ ys) (take_whole xs)

drop_whole : (xs : List Body) → drop (length xs) xs ≡ []
drop_whole [] = refl
drop_whole (x ∷ xs) = drop_whole xs

stands-last : (b : List ℕ) (xs : List Body) (x : Body) → AllStand b (xs ++ x ∷ []) → AllStand b xs × Stands b x
stands-last b [] x h = (tt, h.0)
stands-last b (y ∷ ys) x h =
    let rest = stands-last b ys x h.1 in
    ((h.0, rest.0), rest.1)

-- where bodies are given: those that are left stand in the file, and the others are given
pub record Giving (b : List ℕ) (all left : List Body) (items : Items) : Type 0 where
  pub front : take (length left) all ≡ left
  pub stand : AllStand b left
  pub given : AreGiven b items (drop (length left) all)

pub giving-start : (b : List ℕ) (all : List Body) (items : Items) → AllStand b all → AreGiven b items [] → Giving b all all items
giving-start b all items stand given = record { front = take_whole all; stand = stand; given = subst (AreGiven b items) (sym (drop_whole all)) given }

pub giving-there : (b : List ℕ) (all old new : List Body) (items : Items) (x : Body) → Giving b all old items → old ≡ new ++ x ∷ []
    → x.number ≢ 0 → x.number < length items
giving-there b all old new items x g last some =
    let within : x.number < section_count b = (stands-last b new x (subst (AllStand b) last g.stand)).1.within some in
    omega (arith, within, g.given.each)

pub giving-more : (b : List ℕ) (all old new : List Body) (items more : Items) (x : Body) → Giving b all old items → old ≡ new ++ x ∷ []
    → IsGiven items more x → Giving b all new more
giving-more b all old new items more x g last is =
    let long : length old ≡ suc (length new) = ap (λ (l : List Body). length l) last ∙ simp length-append (omega arith) in
    let parts = split_last all new x (rw (← long) (g.front ∙ last)) in
    record {
      front = parts.0;
      stand = (stands-last b new x (subst (AllStand b) last g.stand)).0;
      given = subst (AreGiven b more) (sym (parts.1 ∙ ap (λ (n : ℕ). x ∷ drop n all) (sym long))) (record {
        each = is.size ∙ g.given.each;
        given = λ i lt. is.given i (omega (arith, g.given.each))
            ∙ ap (λ (o : Option (List ℕ)). if is_of x i then Some x.bytes else o) (g.given.given i lt);
      });
    }

-- the same of items that were lent
put_back : (more old : Items) (n : ℕ) → length more ≡ length old → length old ≡ n → take n (more ++ drop (length more) old) ≡ more
put_back more old n size is =
    rw (size, drop_all (length old) old (omega arith), append-nil more) (take_all n more (omega (arith, size, is)))

pub giving-back : (b : List ℕ) (all old new : List Body) (items now more : Items) (n : ℕ) (x : Body) → Giving b all old items → old ≡ new ++ x ∷ []
    → now ≡ items → IsGiven now more x → length now ≡ n → Giving b all new (take n (more ++ drop (length more) items))
giving-back b all old new items now more n x g last same is size =
    let given : IsGiven items more x = subst (λ (l : Items). IsGiven l more x) same is in
    let long : length items ≡ n = sym (ap (λ (l : Items). length l) same) ∙ size in
    subst (Giving b all new) (sym (put_back more items n given.size long)) (giving-more b all old new items more x g last given)

pub giving-end : (b : List ℕ) (all : List Body) (items : Items) → Giving b all [] items → AreGiven b items all
giving-end b all items g = g.given

pub ruleset given_rules = (giving-start, giving-there, giving-back, giving-end)
