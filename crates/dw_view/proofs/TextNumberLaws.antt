-- Texts have one number exactly where they are the same.
use Rattle.std.proofs.Common.{◌≡◌, ◌≢◌, ℕ, zero, suc, ◌+◌, ◌<◌, ◌==◌, ◌⊎◌, Bool, true, false, if◌then◌else◌, List, [], ◌∷◌, ◌++◌, length, drop, get_or, replicate, Option, Some, None, refl, sym, ap, ◌∙◌, subst, arith, inl, inr}
use Rattle.std.proofs.lemmas.Bool.{cases_Bool, cases_eq, eq-eqb, ne_eqb}
use Rattle.std.proofs.lemmas.Bool.Decides.{nat_tests}
use Rattle.std.proofs.Math.ListN.{set}
use Rattle.std.proofs.lemmas.List.{drop_all, drop_more, get_or-set_same, get_or-set_other, length-replicate, length-set}
use Rattle.dw_base.specs.Elf.{contents_of, name_index, name_table, nth_section, section_count, section_name}
use Rattle.dw_base.specs.ElfFails.{DebugReads}
use Rattle.dw_base.specs.Texts.{same_text, text, text_in}
use Rattle.dw_base.specs.declared.records.Section.{Section}
use Rattle.dw_base.proofs.TextLaws.{same_text-from, same_text-true}
use Rattle.dw_view.specs.TextNumbers.{AreNamesNumbered, AreNumbered, HasNumber, KeepsNumbers, NamesNumbered, PlacesNumbered, TellNames, byte_before, front_key, no_byte}
use Rattle.dw_view.proofs.FrontLaws.{name_index-there, name_table-none, name_table-read}

-- a text has one number
some-one : (n m : ℕ) → Some n ≡ Some m → n ≡ m
some-one n m e = cc

number-one : (kept : ℕ → Option ℕ) (t : List ℕ) (n m : ℕ) → HasNumber kept t n → HasNumber kept t m → n ≡ m
number-one kept t n m no_byte no_byte = refl
number-one kept t n m (byte_before b rest _ bs lt h k) (byte_before c other _ cs less g l) =
    let same : rest ≡ other = number-one kept bs rest other h g in
    some-one n m (sym k ∙ ap (λ (r : ℕ). kept (front_key r b)) same ∙ l)

-- and a number is that of one text
key-parts : (rest other b c : ℕ) → b < 256 → c < 256 → front_key rest b ≡ front_key other c → (rest ≡ other) × (b ≡ c)
key-parts rest other b c lt less e = (omega (arith, lt, less, e), omega (arith, lt, less, e))

text-one : (kept : ℕ → Option ℕ) (free : ℕ) (t u : List ℕ) (n : ℕ) → AreNumbered kept free → HasNumber kept t n → HasNumber kept u n → t ≡ u
text-one kept free t u n are no_byte no_byte = refl
text-one kept free t u n are no_byte (byte_before b rest _ bs lt h k) =
    let some = are.some (front_key rest b) 0 k in
    absurd (omega (arith, some))
text-one kept free t u n are (byte_before b rest _ bs lt h k) no_byte =
    let some = are.some (front_key rest b) 0 k in
    absurd (omega (arith, some))
text-one kept free t u n are (byte_before b rest _ bs lt h k) (byte_before c other _ cs less g l) =
    let parts = key-parts rest other b c lt less (are.once (front_key rest b) (front_key other c) n k l) in
    let rests : bs ≡ cs = text-one kept free bs cs rest are h (subst (HasNumber kept cs) (sym parts.0) g) in
    ap (λ (x : ℕ). x ∷ bs) parts.1 ∙ ap (λ (xs : List ℕ). c ∷ xs) rests

-- numbers that are kept stay
number-kept : (old new : ℕ → Option ℕ) (t : List ℕ) (n : ℕ) → KeepsNumbers old new → HasNumber old t n → HasNumber new t n
number-kept old new t n keeps no_byte = no_byte
number-kept old new t n keeps (byte_before b rest _ bs lt h k) =
    byte_before b rest n bs lt (number-kept old new bs rest keeps h) (keeps.each (front_key rest b) n k)

pub keeps-none : (kept : ℕ → Option ℕ) → KeepsNumbers kept kept
keeps-none kept = record { each = λ k n e. e }

pub keeps-twice : (old mid new : ℕ → Option ℕ) → KeepsNumbers old mid → KeepsNumbers mid new → KeepsNumbers old new
keeps-twice old mid new a b = record { each = λ k n e. b.each k n (a.each k n e) }

-- none is kept yet
pub numbered-none : (kept : ℕ → Option ℕ) → ((k : ℕ) → kept k ≡ None) → AreNumbered kept 1
numbered-none kept none = record {
  some = λ k n e. (let gone : None ≡ Some n = sym (none k) ∙ e in absurd cc);
  below = λ k n e. (let gone : None ≡ Some n = sym (none k) ∙ e in absurd cc);
  once = λ k l n e f. (let gone : None ≡ Some n = sym (none k) ∙ e in absurd cc);
  first = omega arith;
}

pub ruleset none_laws = (numbered-none)

-- one more is kept
kept-parts : (old new : ℕ → Option ℕ) (key free k n : ℕ) → ((o : ℕ) → new o ≡ (if key == o then Some free else old o)) → new k ≡ Some n
    → ((key ≡ k) × (free ≡ n)) ⊎ (old k ≡ Some n)
kept-parts old new key free k n more e = by_key (key == k) refl (sym (more k) ∙ e)
  where
    by_key : (b : Bool) → (key == k) ≡ b → (if b then Some free else old k) ≡ Some n → ((key ≡ k) × (free ≡ n)) ⊎ (old k ≡ Some n)
    by_key true test same =
        let own : key ≡ k = grind (arith, nat_tests) in
        inl (own, some-one free n same)
    by_key false test same = inr same

pub numbered-more : (old new : ℕ → Option ℕ) (key free next : ℕ) → AreNumbered old free → old key ≡ None → next ≡ free + 1
    → ((o : ℕ) → new o ≡ (if key == o then Some free else old o)) → AreNumbered new next
numbered-more old new key free next are none next_is more = record {
  some = λ k n e. elim (kept-parts old new key free k n more e) [
    | inl here ↦ (let is = here.1 in let first = are.first in omega (arith, is, first))
    | inr before ↦ are.some k n before
  ];
  below = λ k n e. elim (kept-parts old new key free k n more e) [
    | inl here ↦ (let is = here.1 in omega (arith, is, next_is))
    | inr before ↦ (let less = are.below k n before in omega (arith, less, next_is))
  ];
  once = λ k l n e f. elim (kept-parts old new key free k n more e) [
    | inl here ↦ elim (kept-parts old new key free l n more f) [
      | inl there ↦ sym here.0 ∙ there.0
      | inr before ↦ (let is = here.1 in let less = are.below l n before in absurd (omega (arith, is, less)))
    ]
    | inr before ↦ elim (kept-parts old new key free l n more f) [
      | inl there ↦ (let is = there.1 in let less = are.below k n before in absurd (omega (arith, is, less)))
      | inr other ↦ are.once k l n before other
    ]
  ];
  first = omega (arith, next_is);
}

pub keeps-more : (old new : ℕ → Option ℕ) (key free : ℕ) → old key ≡ None → ((o : ℕ) → new o ≡ (if key == o then Some free else old o)) → KeepsNumbers old new
keeps-more old new key free none more = record {
  each = λ k n e. more k ∙ ap (λ (b : Bool). if b then Some free else old k)
      (ne_eqb key k (λ (same : key ≡ k). (let gone : None ≡ Some n = sym none ∙ ap old same ∙ e in absurd cc))) ∙ e;
}

pub number-there : (old new : ℕ → Option ℕ) (key free : ℕ) → ((o : ℕ) → new o ≡ (if key == o then Some free else old o)) → new key ≡ Some free
number-there old new key free more = more key ∙ ap (λ (b : Bool). if b then Some free else old key) (eq-eqb key key refl)

pub ruleset keep_laws = (numbered-more, keeps-more, number-there)

pub ruleset front_laws = (keeps-none)

-- the text at a place
byte-there : (table : List ℕ) (place : ℕ) → place < length table → (get_or table place 0 == 0) ≡ false
    → text (drop place table) ≡ get_or table place 0 ∷ text (drop (place + 1) table)
byte-there table place lt some = rw (drop_more table place 0 lt, some) refl

pub text-none : (kept : ℕ → Option ℕ) (table : List ℕ) (place : ℕ) → place < length table → get_or table place 0 ≡ 0 → HasNumber kept (text (drop place table)) 0
text-none kept table place lt nul =
    let none : text (drop place table) ≡ [] = rw (drop_more table place 0 lt, eq-eqb (get_or table place 0) 0 nul) refl in
    subst (λ (t : List ℕ). HasNumber kept t 0) (sym none) no_byte

pub text-front : (old new : ℕ → Option ℕ) (table : List ℕ) (place rest n : ℕ) → place < length table → get_or table place 0 ≢ 0 → get_or table place 0 < 256
    → HasNumber old (text (drop (place + 1) table)) rest → KeepsNumbers old new → new (front_key rest (get_or table place 0)) ≡ Some n
    → HasNumber new (text (drop place table)) n
text-front old new table place rest n lt some byte h keeps k =
    subst (λ (t : List ℕ). HasNumber new t n) (sym (byte-there table place lt (ne_eqb (get_or table place 0) 0 some)))
    (byte_before (get_or table place 0) rest n (text (drop (place + 1) table)) byte (number-kept old new (text (drop (place + 1) table)) rest keeps h) k)

pub ruleset place_laws = (text-none, text-front, keeps-none)

-- the texts at all places
noughts-size : (n x : ℕ) → length (replicate n x) ≡ n
noughts-size n x = length-replicate n x

all-noughts : (n p x : ℕ) → get_or (replicate n x) p x ≡ x
all-noughts zero p x = refl
all-noughts (suc n) zero x = refl
all-noughts (suc n) (suc p) x = all-noughts n p x

pub places-none : (kept : ℕ → Option ℕ) (table items : List ℕ) (from : ℕ) → from ≡ length table → items ≡ replicate (length table + 1) 0 → PlacesNumbered kept table from items
places-none kept table items from from_is is = record {
  size = ap (λ (xs : List ℕ). length xs) is ∙ noughts-size (length table + 1) 0;
  each = λ p le.
      let none : text (drop p table) ≡ [] = rw (drop_all p table (omega (arith, le, from_is))) refl in
      let nought : get_or items p 0 ≡ 0 = ap (λ (xs : List ℕ). get_or xs p 0) is ∙ all-noughts (length table + 1) p 0 in
      subst (λ (t : List ℕ). HasNumber kept t (get_or items p 0)) (sym none) (subst (HasNumber kept []) (sym nought) no_byte);
}

pub places-more : (old new : ℕ → Option ℕ) (table items : List ℕ) (place n : ℕ) → place < length table → PlacesNumbered old table (place + 1) items → KeepsNumbers old new
    → HasNumber new (text (drop place table)) n → PlacesNumbered new table place (set items place n)
places-more old new table items place n lt places keeps h =
    let size = places.size in
    record {
      size = length-set items place n ∙ size;
      each = λ p le. elim (cases_eq p place) [
        | inl same ↦
            subst (λ (q : ℕ). HasNumber new (text (drop q table)) (get_or (set items place n) q 0)) (sym same)
            (subst (HasNumber new (text (drop place table))) (sym (get_or-set_same items place n 0 (omega (arith, lt, size)))) h)
        | inr other ↦
            subst (HasNumber new (text (drop p table))) (sym (get_or-set_other items place p n 0 other))
            (number-kept old new (text (drop p table)) (get_or items p 0) keeps (places.each p (omega (arith, le, other))))
      ];
    }

-- the rest of a text stands at the next place
pub places-next : (kept : ℕ → Option ℕ) (table items : List ℕ) (place rest x : ℕ) → place < length table → PlacesNumbered kept table (place + 1) items
    → rest ≡ get_or items (place + 1) x → HasNumber kept (text (drop (place + 1) table)) rest
places-next kept table items place rest x lt places is =
    let size = places.size in
    subst (HasNumber kept (text (drop (place + 1) table))) (sym (is ∙ same-item items (place + 1) x 0 (omega (arith, lt, size)))) (places.each (place + 1) (omega arith))
  where
    same-item : (xs : List ℕ) (i x y : ℕ) → i < length xs → get_or xs i x ≡ get_or xs i y
    same-item [] i x y less = absurd (omega (arith, less))
    same-item (o ∷ os) zero x y less = refl
    same-item (o ∷ os) (suc i) x y less = same-item os i x y (omega (arith, less))

pub ruleset places_laws = (places-next, places-more, keeps-twice)

-- the table of names
pub table-none : (b : List ℕ) (count : ℕ) → count ≡ section_count b → count ≡ 0 → name_index b ≡ 0 → [] ≡ name_table b
table-none b count is none index = sym (name_table-none b index)

pub table-some : (b table : List ℕ) (i : ℕ) → DebugReads b → i < section_count b → table ≡ contents_of b (name_index b) → table ≡ name_table b
table-some b table i reads lt is = is ∙ sym (name_table-read b i reads lt)

pub ruleset table_laws = (name_index-there, table-none, table-some)

-- the names of sections
pub names-none : (kept : ℕ → Option ℕ) (b : List ℕ) → NamesNumbered kept b 0 []
names-none kept b = record { size = refl; each = λ i lt. absurd (omega (arith, lt)) }

pub names-more : (kept : ℕ → Option ℕ) (b table places names more : List ℕ) (i n : ℕ) (s : Section) → i < section_count b → table ≡ name_table b → PlacesNumbered kept table 0 places
    → s ≡ nth_section b i → n ≡ get_or places s.name 0 → NamesNumbered kept b i names → more ≡ names ++ n ∷ [] → NamesNumbered kept b (i + 1) more
unfolding section_name text_in
names-more kept b table places names more i n s lt table_is placed s_is n_is named more_is = record {
  size = ap length more_is ∙ size-more names n ∙ ap (λ (k : ℕ). k + 1) named.size;
  each = λ j less. elim (cases_eq j i) [
    | inl same ↦
        subst (λ (k : ℕ). HasNumber kept (section_name b k) (get_or more k 0)) (sym same)
        (subst (HasNumber kept (section_name b i)) (sym (ap (λ (xs : List ℕ). get_or xs i 0) more_is ∙ last-item names i n named.size))
        (subst (λ (t : List ℕ). HasNumber kept t n)
        (ap (λ (x : List ℕ). text (drop s.name x)) table_is ∙ ap (λ (x : Section). text (drop x.name (name_table b))) s_is)
        (subst (HasNumber kept (text (drop s.name table))) (sym n_is) (placed.each s.name (omega arith)))))
    | inr other ↦
        subst (HasNumber kept (section_name b j)) (sym (ap (λ (xs : List ℕ). get_or xs j 0) more_is ∙ front-item names j n (omega (arith, less, other, named.size))))
        (named.each j (omega (arith, less, other)))
  ];
}
  where
    size-more : (xs : List ℕ) (x : ℕ) → length (xs ++ x ∷ []) ≡ length xs + 1
    size-more [] x = refl
    size-more (y ∷ ys) x =
        let further : suc (length ys + 1) ≡ suc (length ys) + 1 = omega arith in
        ap suc (size-more ys x) ∙ further

    last-item : (xs : List ℕ) (k x : ℕ) → length xs ≡ k → get_or (xs ++ x ∷ []) k 0 ≡ x
    last-item [] k x e = subst (λ (m : ℕ). get_or (x ∷ []) m 0 ≡ x) e refl
    last-item (y ∷ ys) zero x e = absurd (omega (arith, e))
    last-item (y ∷ ys) (suc k) x e = last-item ys k x (omega (arith, e))

    front-item : (xs : List ℕ) (k x : ℕ) → k < length xs → get_or (xs ++ x ∷ []) k 0 ≡ get_or xs k 0
    front-item [] k x less = absurd (omega (arith, less))
    front-item (y ∷ ys) zero x less = refl
    front-item (y ∷ ys) (suc k) x less = front-item ys k x (omega (arith, less))

pub ruleset name_laws = (keeps-none, keeps-twice)

-- names with numbers are told by them
names-kept : (old new : ℕ → Option ℕ) (b names : List ℕ) (count : ℕ) → KeepsNumbers old new → NamesNumbered old b count names → NamesNumbered new b count names
names-kept old new b names count keeps named = record {
  size = named.size;
  each = λ i lt. number-kept old new (section_name b i) (get_or names i 0) keeps (named.each i lt);
}

names-tell : (kept : ℕ → Option ℕ) (free : ℕ) (b c numbers others : List ℕ) → AreNumbered kept free → NamesNumbered kept b (section_count b) numbers
    → NamesNumbered kept c (section_count c) others → TellNames b c numbers others
names-tell kept free b c numbers others are named called = record {
  tell = λ i j lt less. elim (cases_eq (get_or numbers i 0) (get_or others j 0)) [
    | inl same ↦
        let texts : section_name b i ≡ section_name c j = text-one kept free (section_name b i) (section_name c j) (get_or numbers i 0) are (named.each i lt)
        (subst (HasNumber kept (section_name c j)) (sym same) (called.each j less)) in
        eq-eqb (get_or numbers i 0) (get_or others j 0) same ∙ sym (same_text-from (section_name b i) (section_name c j) texts)
    | inr other ↦
        ne_eqb (get_or numbers i 0) (get_or others j 0) other
        ∙ sym (told-apart (section_name b i) (section_name c j) (λ (texts : section_name b i ≡ section_name c j).
        other (number-one kept (section_name c j) (get_or numbers i 0) (get_or others j 0)
        (subst (λ (t : List ℕ). HasNumber kept t (get_or numbers i 0)) texts (named.each i lt)) (called.each j less))))
  ];
}
  where
    told-apart : (t u : List ℕ) → (t ≡ u → ⊥) → same_text t u ≡ false
    told-apart t u other = elim (cases_Bool (same_text t u)) [
      | inl same ↦ absurd (other (same_text-true t u same))
      | inr differ ↦ differ
    ]

pub pair-numbered : (mid kept : ℕ → Option ℕ) (free : ℕ) (s d numbers others : List ℕ) → AreNumbered kept free → KeepsNumbers mid kept
    → NamesNumbered mid s (section_count s) numbers → NamesNumbered kept d (section_count d) others → AreNamesNumbered s d numbers others
pair-numbered mid kept free s d numbers others are keeps named called =
    let own : NamesNumbered kept s (section_count s) numbers = names-kept mid kept s numbers (section_count s) keeps named in
    record {
      size = named.size;
      others_size = called.size;
      own = names-tell kept free d d others others are called called;
      between = names-tell kept free s d numbers others are own called;
    }

pub ruleset pair_laws = (pair-numbered)
