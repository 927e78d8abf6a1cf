-- Formats: what a reader has to do to read texts of some fields exactly, and that readers one after
-- another do it where each does.
use Rattle.std.proofs.Common.{◌≡◌, ℕ, List, [], ◌∷◌, ◌++◌, length, Result, Ok, Err, refl, sym, ap, subst, ◌∙◌, append_assoc}
use Rattle.std.specs.List.{AllByRecursion}
use Rattle.std.proofs.Common.{false}
use Rattle.dw_base.specs.Texts.{has_nul}
use Rattle.dw_base.proofs.TextLaws.{laid_texts-append}
use Rattle.work_texts.specs.Fields.{Field, text_of}
use Rattle.work_texts.specs.BadFields.{Begins}
use Rattle.work_texts.specs.Reading.{Reading, ◌>>=◌}

-- the value of a step that did not fail
pub bind_ok : {A B : Type 0} (r : Result A ℕ) (f : A → Result B ℕ) (y : B) → (r >>= f) ≡ Ok y → (x : A) × (r ≡ Ok x) × (f x ≡ Ok y)
bind_ok (Ok x) f y e = (x, refl, e)
bind_ok (Err d) f y e = absurd cc

-- a step that failed, or the one behind it
pub data FailsIn {A B : Type 0} (r : Result A ℕ) (f : A → Result B ℕ) (d : ℕ) : Type 0 where
  fails_first : r ≡ Err d → FailsIn r f d
  fails_second : (x : A) → r ≡ Ok x → f x ≡ Err d → FailsIn r f d

pub bind_err : {A B : Type 0} (r : Result A ℕ) (f : A → Result B ℕ) (d : ℕ) → (r >>= f) ≡ Err d → FailsIn r f d
bind_err (Ok x) f d e = fails_second x refl e
bind_err (Err c) f d e = fails_first cc

abbrev done : {A : Type 0} → A → Result A ℕ
done x = Ok x

pub ok_is : {A : Type 0} (x y : A) → done x ≡ done y → x ≡ y
ok_is x y e = cc

-- the first bad field of what stands in front of some bytes
pub record BadField {X : Type 0} (fields : X → List Field) (Fits : X → Type 0) (bytes : List ℕ) (left : ℕ) : Type 0 where
  pub good : List Field
  pub bad : List ℕ
  pub parts : bytes ≡ text_of good ++ bad
  pub left_is : left ≡ length bad
  pub begins : Begins fields Fits good
  pub no_field : (f : Field) (behind : List ℕ) → bad ≡ f ++ 0 ∷ behind → (x : X) (more : List Field) → Fits x → fields x ≡ good ++ f ∷ more → ⊥

-- no field has a NUL
abbrev pub AllBare : List Field → Type 0
AllBare fs = AllByRecursion (λ f. has_nul f ≡ false) fs

bare_append : (fs gs : List Field) → AllBare fs → AllBare gs → AllBare (fs ++ gs)
bare_append [] gs a b = b
bare_append (f ∷ fs) gs a b = (a.0, bare_append fs gs a.1 b)

-- what is read is spelled so, what is spelled so is read, and else the first bad field is found
pub record IsReader {X : Type 0} (fields : X → List Field) (Fits : X → Type 0) (read : List ℕ → Reading X) : Type 0 where
  pub takes : (bytes : List ℕ) (x : X) (rest : List ℕ) → read bytes ≡ Ok (x, rest) → (bytes ≡ text_of (fields x) ++ rest) × Fits x
  pub again : (x : X) (rest : List ℕ) → Fits x → read (text_of (fields x) ++ rest) ≡ Ok (x, rest)
  pub bad : (bytes : List ℕ) (left : ℕ) → read bytes ≡ Err left → BadField fields Fits bytes left
  pub bare : (x : X) → Fits x → AllBare (fields x)
  pub sample : X
  pub fits : Fits sample

-- two texts one after another
pub text_of-append : (fs gs : List Field) (rest : List ℕ) → text_of (fs ++ gs) ++ rest ≡ text_of fs ++ (text_of gs ++ rest)
text_of-append fs gs rest = ap (λ (t : List ℕ). t ++ rest) (laid_texts-append fs gs) ∙ append_assoc (text_of fs) (text_of gs) rest

-- what stands in front of equal lists can be taken off
pub append-cancel : {A : Type 0} (a b c : List A) → a ++ b ≡ a ++ c → b ≡ c
append-cancel [] b c e = e
append-cancel (x ∷ a) b c e = append-cancel a b c (let t : a ++ b ≡ a ++ c = cc in t)

-- ---- nothing more is read

pub nothing_reader : {X : Type 0} (Fits : X → Type 0) (x : X) → Fits x → ((y : X) → Fits y → y ≡ x) → IsReader (λ _. []) Fits (λ bytes. Ok (x, bytes))
nothing_reader {X} Fits x fits only = record {
  takes = λ bytes y rest e.
      let p = ok_is (x, bytes) (y, rest) e in
      let is : x ≡ y = ap (λ (r : X × List ℕ). r.0) p in
      let left : bytes ≡ rest = ap (λ (r : X × List ℕ). r.1) p in
      (left, subst Fits is fits);
  again = λ y rest f. ap (λ (z : X). Ok (z, rest)) (sym (only y f));
  bad = λ bytes left e. absurd cc;
  bare = λ y f. tt;
  sample = x;
  fits = fits;
}

-- ---- the same fields, and the same values

pub same_reader : {X : Type 0} (fields other : X → List Field) (Fits : X → Type 0) (read : List ℕ → Reading X)
    → ((x : X) → Fits x → fields x ≡ other x) → IsReader fields Fits read → IsReader other Fits read
same_reader {X} fields other Fits read same r = record {
  takes = λ bytes x rest e. let t = r.takes bytes x rest e in (rw (← same x t.1) t.0, t.1);
  again = λ x rest f. rw (← same x f) (r.again x rest f);
  bad = λ bytes left e.
      let b = r.bad bytes left e in
      let g = b.begins in
      record {
        good = b.good;
        bad = b.bad;
        parts = b.parts;
        left_is = b.left_is;
        begins = (g.0, g.1, g.2, sym (same g.0 g.2) ∙ g.3);
        no_field = λ f behind h x more fit e. b.no_field f behind h x more fit (same x fit ∙ e);
      };
  bare = λ x f. subst AllBare (same x f) (r.bare x f);
  sample = r.sample;
  fits = r.fits;
}

pub refit_reader : {X : Type 0} (fields : X → List Field) (Fits Other : X → Type 0) (read : List ℕ → Reading X)
    → ((x : X) → Fits x → Other x) → ((x : X) → Other x → Fits x) → IsReader fields Fits read → IsReader fields Other read
refit_reader fields Fits Other read to from r = record {
  takes = λ bytes x rest e. let t = r.takes bytes x rest e in (t.0, to x t.1);
  again = λ x rest f. r.again x rest (from x f);
  bad = λ bytes left e.
      let b = r.bad bytes left e in
      let g = b.begins in
      record {
        good = b.good;
        bad = b.bad;
        parts = b.parts;
        left_is = b.left_is;
        begins = (g.0, g.1, to g.0 g.2, g.3);
        no_field = λ f behind h x more fit e. b.no_field f behind h x more (from x fit) e;
      };
  bare = λ x f. r.bare x (from x f);
  sample = r.sample;
  fits = to r.sample r.fits;
}

-- ---- one after another

-- of two lists that agree, the front of one reaches behind an element of the other, or not up to it
data Reaches {A : Type 0} (a c : List A) (f : A) : Type 0 where
  reaches_behind : (m : List A) → a ≡ c ++ f ∷ m → Reaches a c f
  reaches_short : (d : List A) → c ≡ a ++ d → Reaches a c f

reaches-cons : {A : Type 0} (y z : A) (a c : List A) (f : A) → y ≡ z → Reaches a c f → Reaches (y ∷ a) (z ∷ c) f
reaches-cons y z a c f e (reaches_behind m h) = reaches_behind m cc
reaches-cons y z a c f e (reaches_short d h) = reaches_short d cc

reaches : {A : Type 0} (a b c : List A) (f : A) (m : List A) → a ++ b ≡ c ++ f ∷ m → Reaches a c f
reaches [] b c f m e = reaches_short c refl
reaches (y ∷ a) b [] f m e = reaches_behind a cc
reaches (y ∷ a) b (z ∷ c) f m e =
    let head : y ≡ z = cc in
    let tail : a ++ b ≡ c ++ f ∷ m = cc in
    reaches-cons y z a c f head (reaches a b c f m tail)

-- the parts of a value that is read first and then in full
pub record IsThen {A X : Type 0} (fa : A → List Field) (FA : A → Type 0) (first : X → A) (rest : X → List Field) (Fits : X → Type 0) (read : List ℕ → Reading A) (k : A → List ℕ → Reading X) : Type 0 where
  pub reader : IsReader fa FA read
  pub has : (x : X) → Fits x → FA (first x)
  pub next : (a : A) → FA a → IsReader rest (λ x. Fits x × (first x ≡ a)) (k a)

abbrev both_of : {A X : Type 0} (fa : A → List Field) (first : X → A) (rest : X → List Field) → X → List Field
both_of fa first rest x = fa (first x) ++ rest x

then_takes : {A X : Type 0} (fa : A → List Field) (FA : A → Type 0) (first : X → A) (rest : X → List Field) (Fits : X → Type 0) (read : List ℕ → Reading A) (k : A → List ℕ → Reading X) → IsThen fa FA first rest Fits read k
    → (bytes : List ℕ) (x : X) (r : List ℕ) → (read bytes >>= λ a. k a.0 a.1) ≡ Ok (x, r) → (bytes ≡ text_of (fa (first x) ++ rest x) ++ r) × Fits x
then_takes {A} {X} fa FA first rest Fits read k p bytes x r e =
    let b = bind_ok (read bytes) (λ a. k a.0 a.1) (x, r) e in
    let t = p.reader.takes bytes b.0.0 b.0.1 b.1 in
    let c = (p.next b.0.0 t.1).takes b.0.1 x r b.2 in
    (t.0 ∙ ap (λ (u : List ℕ). text_of (fa b.0.0) ++ u) c.0 ∙ ap (λ (a : A). text_of (fa a) ++ (text_of (rest x) ++ r)) (sym c.1.1) ∙ sym (text_of-append (fa (first x)) (rest x) r), c.1.0)

then_again : {A X : Type 0} (fa : A → List Field) (FA : A → Type 0) (first : X → A) (rest : X → List Field) (Fits : X → Type 0) (read : List ℕ → Reading A) (k : A → List ℕ → Reading X) → IsThen fa FA first rest Fits read k
    → (x : X) (r : List ℕ) → Fits x → (read (text_of (fa (first x) ++ rest x) ++ r) >>= λ a. k a.0 a.1) ≡ Ok (x, r)
then_again {A} {X} fa FA first rest Fits read k p x r f =
    let one : read (text_of (fa (first x) ++ rest x) ++ r) ≡ Ok (first x, text_of (rest x) ++ r) = ap read (text_of-append (fa (first x)) (rest x) r) ∙ p.reader.again (first x) (text_of (rest x) ++ r) (p.has x f) in
    ap (λ (m : Reading A). m >>= λ a. k a.0 a.1) one ∙ (p.next (first x) (p.has x f)).again x r (f, refl)

then_first_stays : {A X : Type 0} (fa : A → List Field) (FA : A → Type 0) (first : X → A) (rest : X → List Field) (Fits : X → Type 0) (read : List ℕ → Reading A) (k : A → List ℕ → Reading X) → IsThen fa FA first rest Fits read k
    → (bytes : List ℕ) (left : ℕ) → read bytes ≡ Err left → (b : BadField fa FA bytes left) → (f : Field) (later : List ℕ) → b.bad ≡ f ++ 0 ∷ later → (x : X) → Fits x → Reaches (fa (first x)) b.good f → ⊥
then_first_stays fa FA first rest Fits read k p bytes left h b f later g x fit (reaches_behind m e) = b.no_field f later g (first x) m (p.has x fit) e
then_first_stays {A} fa FA first rest Fits read k p bytes left h b f later g x fit (reaches_short d e) =
    let whole : bytes ≡ text_of (fa (first x)) ++ (text_of d ++ b.bad) = b.parts ∙ ap (λ (fs : List Field). text_of fs ++ b.bad) e ∙ text_of-append (fa (first x)) d b.bad in
    let reads : read bytes ≡ Ok (first x, text_of d ++ b.bad) = ap read whole ∙ p.reader.again (first x) (text_of d ++ b.bad) (p.has x fit) in
    let never : Err left ≡ Ok (first x, text_of d ++ b.bad) = sym h ∙ reads in
    absurd (cc never)

then_first : {A X : Type 0} (fa : A → List Field) (FA : A → Type 0) (first : X → A) (rest : X → List Field) (Fits : X → Type 0) (read : List ℕ → Reading A) (k : A → List ℕ → Reading X) → IsThen fa FA first rest Fits read k
    → (bytes : List ℕ) (left : ℕ) → read bytes ≡ Err left → BadField (both_of fa first rest) Fits bytes left
then_first {A} {X} fa FA first rest Fits read k p bytes left h =
    let b = p.reader.bad bytes left h in
    let g = b.begins in
    let s = p.next g.0 g.2 in
    let x = s.sample in
    let fx = s.fits in
    let same : fa (first x) ++ rest x ≡ b.good ++ (g.1 ++ rest x) = ap (λ (a : A). fa a ++ rest x) fx.1 ∙ ap (λ (t : List Field). t ++ rest x) g.3 ∙ append_assoc b.good g.1 (rest x) in
    record {
      good = b.good;
      bad = b.bad;
      parts = b.parts;
      left_is = b.left_is;
      begins = (x, g.1 ++ rest x, fx.0, same);
      no_field = λ f later e y more fit e2. then_first_stays fa FA first rest Fits read k p bytes left h b f later e y fit (reaches (fa (first y)) (rest y) b.good f more e2);
    }

then_same_first : {A X : Type 0} (fa : A → List Field) (FA : A → Type 0) (first : X → A) (rest : X → List Field) (Fits : X → Type 0) (read : List ℕ → Reading A) (k : A → List ℕ → Reading X) → IsThen fa FA first rest Fits read k
    → (a : A) → FA a → (x : X) → Fits x → (more : List Field) → fa (first x) ++ rest x ≡ fa a ++ more → first x ≡ a
then_same_first {A} {X} fa FA first rest Fits read k p a fit x fitx more e =
    let one = p.reader.again (first x) (text_of (rest x)) (p.has x fitx) in
    let two = p.reader.again a (text_of more) fit in
    let same : text_of (fa (first x)) ++ text_of (rest x) ≡ text_of (fa a) ++ text_of more = sym (laid_texts-append (fa (first x)) (rest x)) ∙ ap text_of e ∙ laid_texts-append (fa a) more in
    ap (λ (r : A × List ℕ). r.0) (ok_is (first x, text_of (rest x)) (a, text_of more) (sym one ∙ ap read same ∙ two))

then_second : {A X : Type 0} (fa : A → List Field) (FA : A → Type 0) (first : X → A) (rest : X → List Field) (Fits : X → Type 0) (read : List ℕ → Reading A) (k : A → List ℕ → Reading X) → IsThen fa FA first rest Fits read k
    → (bytes : List ℕ) (left : ℕ) (a : A × List ℕ) → read bytes ≡ Ok a → k a.0 a.1 ≡ Err left → BadField (both_of fa first rest) Fits bytes left
then_second {A} {X} fa FA first rest Fits read k p bytes left a h g =
    let t = p.reader.takes bytes a.0 a.1 h in
    let b = (p.next a.0 t.1).bad a.1 left g in
    let q = b.begins in
    let whole : bytes ≡ text_of (fa a.0 ++ b.good) ++ b.bad = t.0 ∙ ap (λ (u : List ℕ). text_of (fa a.0) ++ u) b.parts ∙ sym (text_of-append (fa a.0) b.good b.bad) in
    let same : fa (first q.0) ++ rest q.0 ≡ (fa a.0 ++ b.good) ++ q.1 = ap (λ (y : A). fa y ++ rest q.0) q.2.1 ∙ ap (λ (t : List Field). fa a.0 ++ t) q.3 ∙ sym (append_assoc (fa a.0) b.good q.1) in
    record {
      good = fa a.0 ++ b.good;
      bad = b.bad;
      parts = whole;
      left_is = b.left_is;
      begins = (q.0, q.1, q.2.0, same);
      no_field = λ f later e y more fit e2.
          let e3 : fa (first y) ++ rest y ≡ fa a.0 ++ (b.good ++ f ∷ more) = e2 ∙ append_assoc (fa a.0) b.good (f ∷ more) in
          let one = then_same_first fa FA first rest Fits read k p a.0 t.1 y fit (b.good ++ f ∷ more) e3 in
          let e4 : fa a.0 ++ rest y ≡ fa a.0 ++ (b.good ++ f ∷ more) = ap (λ (z : A). fa z ++ rest y) (sym one) ∙ e3 in
          b.no_field f later e y more (fit, one) (append-cancel (fa a.0) (rest y) (b.good ++ f ∷ more) e4);
    }

then_bad : {A X : Type 0} (fa : A → List Field) (FA : A → Type 0) (first : X → A) (rest : X → List Field) (Fits : X → Type 0) (read : List ℕ → Reading A) (k : A → List ℕ → Reading X) → IsThen fa FA first rest Fits read k
    → (bytes : List ℕ) (left : ℕ) → FailsIn (read bytes) (λ a. k a.0 a.1) left → BadField (both_of fa first rest) Fits bytes left
then_bad fa FA first rest Fits read k p bytes left (fails_first h) = then_first fa FA first rest Fits read k p bytes left h
then_bad fa FA first rest Fits read k p bytes left (fails_second a h g) = then_second fa FA first rest Fits read k p bytes left a h g

-- a reader, and the reader of the rest that goes by what it read
pub then_reader : {A X : Type 0} (fa : A → List Field) (FA : A → Type 0) (first : X → A) (rest : X → List Field) (Fits : X → Type 0) (read : List ℕ → Reading A) (k : A → List ℕ → Reading X) → IsThen fa FA first rest Fits read k
    → IsReader (λ x. fa (first x) ++ rest x) Fits (λ bytes. read bytes >>= λ a. k a.0 a.1)
then_reader {A} {X} fa FA first rest Fits read k p =
    let start = p.reader.sample in
    let s = p.next start p.reader.fits in
    record {
      takes = λ bytes x r e. then_takes fa FA first rest Fits read k p bytes x r e;
      again = λ x r f. then_again fa FA first rest Fits read k p x r f;
      bad = λ bytes left e. then_bad fa FA first rest Fits read k p bytes left (bind_err (read bytes) (λ a. k a.0 a.1) left e);
      bare = λ x f. bare_append (fa (first x)) (rest x) (p.reader.bare (first x) (p.has x f)) ((p.next (first x) (p.has x f)).bare x (f, refl));
      sample = s.sample;
      fits = s.fits.0;
    }
