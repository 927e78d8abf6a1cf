-- A text as a whole: nothing stands behind its last field.
use Rattle.std.proofs.Common.{◌≡◌, ℕ, ◌+◌, ◌≤◌, Bool, true, false, ◌==◌, ◌⊎◌, inl, inr, if◌then◌else◌, List, [], ◌∷◌, ◌++◌, length, Result, Ok, Err, refl, sym, ap, subst, ◌∙◌, append_assoc, arith}
use Rattle.std.specs.Prelude.{IfOk, IfErr}
use Rattle.std.proofs.lemmas.List.{append-nil, length-append, nil_from_length}
use Rattle.std.proofs.lemmas.Bool.{eqb-true, eqb-false}
use Rattle.dw_base.proofs.TextLaws.{laid_texts-append}
use Rattle.work_texts.specs.declared.journal_err.JournalErr.{JournalErr}
use Rattle.work_texts.specs.declared.journal_err.JournalErr.TheVariants as err
use Rattle.work_texts.specs.declared.stop.Stop.{Stop}
use Rattle.work_texts.specs.declared.stop.Stop.TheVariants as stop
use Rattle.work_texts.specs.declared.plan.PlanData.{PlanData}
use Rattle.work_texts.specs.declared.plan.VersionedPlan.{VersionedPlan}
use Rattle.work_texts.specs.Fields.{Field, text_of, plan_text_fields}
use Rattle.work_texts.specs.Rules.{IsVersionedPlan, IsPlanText, text_limit}
use Rattle.work_texts.specs.Reading.{Reading, ◌>>=◌, Stops, Gives, ended}
use Rattle.work_texts.specs.Whole.{IsWhole, Stopped, StopBlames}
use Rattle.work_texts.proofs.Formats.{IsReader, FailsIn, fails_first, fails_second, bind_ok, bind_err, ok_is}

-- ---- what is read, and what is read again

abbrev end_of : {X : Type 0} → Bool → X → List ℕ → Result X ℕ
end_of test x rest = if test then Ok x else Err (length rest)

ended_ok : {X : Type 0} (test : Bool) (y : X) (rest : List ℕ) (x : X) → (length rest == 0) ≡ test → end_of test y rest ≡ Ok x → (rest ≡ []) × (y ≡ x)
ended_ok true y rest x h e = (nil_from_length rest (eqb-true (length rest) 0 h), ok_is y x e)
ended_ok false y rest x h e = absurd cc

ended_err : {X : Type 0} (test : Bool) (y : X) (rest : List ℕ) (left : ℕ) → (length rest == 0) ≡ test → end_of test y rest ≡ Err left → (left ≡ length rest) × (length rest ≡ 0 → ⊥)
ended_err true y rest left h e = absurd cc
ended_err false y rest left h e = (cc, eqb-false (length rest) 0 h)

whole_takes : {X : Type 0} (fields : X → List Field) (Fits : X → Type 0) (read : List ℕ → Reading X) → IsReader fields Fits read
    → (bytes : List ℕ) (x : X) → (read bytes >>= ended) ≡ Ok x → IsWhole fields Fits bytes x
whole_takes fields Fits read r bytes x e =
    let b = bind_ok (read bytes) ended x e in
    let q = ended_ok (length b.0.1 == 0) b.0.0 b.0.1 x refl b.2 in
    let t = r.takes bytes b.0.0 b.0.1 b.1 in
    record {
      fits = subst Fits q.1 t.1;
      text = t.0 ∙ ap (λ (rest : List ℕ). text_of (fields b.0.0) ++ rest) q.0 ∙ append-nil (text_of (fields b.0.0)) ∙ ap (λ (y : _). text_of (fields y)) q.1;
    }

reads_whole : {X : Type 0} (fields : X → List Field) (Fits : X → Type 0) (read : List ℕ → Reading X) → IsReader fields Fits read
    → (bytes : List ℕ) (x : X) → Fits x → bytes ≡ text_of (fields x) → read bytes ≡ Ok (x, [])
reads_whole fields Fits read r bytes x fit e = ap read (e ∙ sym (append-nil (text_of (fields x)))) ∙ r.again x [] fit

whole_again : {X : Type 0} (fields : X → List Field) (Fits : X → Type 0) (read : List ℕ → Reading X) → IsReader fields Fits read
    → (bytes : List ℕ) (x : X) → IsWhole fields Fits bytes x → (read bytes >>= ended) ≡ Ok x
whole_again {X} fields Fits read r bytes x w = ap (λ (m : Reading X). m >>= ended) (reads_whole fields Fits read r bytes x w.fits w.text)

-- a text has one value
pub one_value : {X : Type 0} (fields : X → List Field) (Fits : X → Type 0) (read : List ℕ → Reading X) → IsReader fields Fits read
    → (bytes : List ℕ) (x y : X) → IsWhole fields Fits bytes x → IsWhole fields Fits bytes y → x ≡ y
one_value fields Fits read r bytes x y a b = ok_is x y (sym (whole_again fields Fits read r bytes x a) ∙ whole_again fields Fits read r bytes y b)

-- ---- the first bad field

bad_first : {X : Type 0} (fields : X → List Field) (Fits : X → Type 0) (read : List ℕ → Reading X) → IsReader fields Fits read
    → (bytes : List ℕ) (left : ℕ) → read bytes ≡ Err left → Stopped fields Fits bytes left
bad_first fields Fits read r bytes left h =
    let b = r.bad bytes left h in
    let size : length bytes ≡ length (text_of b.good) + length b.bad = ap length b.parts ∙ length-append (text_of b.good) b.bad in
    let is : left ≡ length b.bad = b.left_is in
    record {
      within = omega arith;
      bad = record {
        good = b.good;
        bad = b.bad;
        parts = b.parts;
        place = omega arith;
        begins = b.begins;
        unwhole = λ x fit e.
            let never : Err left ≡ Ok (x, []) = sym h ∙ reads_whole fields Fits read r bytes x fit e in
            absurd (cc never);
        no_field = λ f behind e g. b.no_field f behind e g.0 g.1 g.2 (g.3 ∙ append_assoc b.good (f ∷ []) g.1);
      };
    }

bad_end : {X : Type 0} (fields : X → List Field) (Fits : X → Type 0) (read : List ℕ → Reading X) → IsReader fields Fits read
    → (bytes : List ℕ) (left : ℕ) (a : X × List ℕ) → read bytes ≡ Ok a → ended a ≡ Err left → Stopped fields Fits bytes left
bad_end {X} fields Fits read r bytes left a h g =
    let t = r.takes bytes a.0 a.1 h in
    let q = ended_err (length a.1 == 0) a.0 a.1 left refl g in
    let is : left ≡ length a.1 = q.0 in
    let size : length bytes ≡ length (text_of (fields a.0)) + length a.1 = ap length t.0 ∙ length-append (text_of (fields a.0)) a.1 in
    record {
      within = omega arith;
      bad = record {
        good = fields a.0;
        bad = a.1;
        parts = t.0;
        place = omega arith;
        begins = (a.0, [], t.1, sym (append-nil (fields a.0)));
        unwhole = λ y fit e.
            let same = ok_is a (y, []) (sym h ∙ reads_whole fields Fits read r bytes y fit e) in
            let none : a.1 ≡ [] = ap (λ (p : X × List ℕ). p.1) same in
            q.1 (ap length none);
        no_field = λ f behind e y.
            let whole : fields y.0 ≡ fields a.0 ++ (f ∷ y.1) = y.3 ∙ append_assoc (fields a.0) (f ∷ []) y.1 in
            let text : text_of (fields y.0) ≡ text_of (fields a.0) ++ text_of (f ∷ y.1) = ap text_of whole ∙ laid_texts-append (fields a.0) (f ∷ y.1) in
            let one = reads_whole fields Fits read r (text_of (fields y.0)) y.0 y.2 refl in
            let two = ap read text ∙ r.again a.0 (text_of (f ∷ y.1)) t.1 in
            let same = ok_is (y.0, []) (a.0, text_of (f ∷ y.1)) (sym one ∙ two) in
            let none : [] ≡ text_of (f ∷ y.1) = ap (λ (p : X × List ℕ). p.1) same in
            let len : 0 ≡ length (text_of (f ∷ y.1)) = ap length none in
            absurd (omega (arith, length-append f (0 ∷ text_of y.1)));
      };
    }

bad_cases : {X : Type 0} (fields : X → List Field) (Fits : X → Type 0) (read : List ℕ → Reading X) → IsReader fields Fits read
    → (bytes : List ℕ) (left : ℕ) → FailsIn (read bytes) ended left → Stopped fields Fits bytes left
bad_cases fields Fits read r bytes left (fails_first h) = bad_first fields Fits read r bytes left h
bad_cases fields Fits read r bytes left (fails_second a h g) = bad_end fields Fits read r bytes left a h g

-- ---- the text of a plan is one of a version

pub plan_found : (bytes : List ℕ) (v : VersionedPlan) → length bytes ≤ text_limit → IsWhole plan_text_fields IsVersionedPlan bytes v → IsPlanText bytes v.plan
plan_found bytes v within w = record { old = v.old; plan = w.fits.plan; one = w.fits.one; text = w.text; within = within }

pub plan_whole : (bytes : List ℕ) (p : PlanData) → (t : IsPlanText bytes p) → IsWhole plan_text_fields IsVersionedPlan bytes (record { old = t.old; plan = p })
plan_whole bytes p t = record { fits = record { plan = t.plan; one = t.one }; text = t.text }

abbrev pub plan_of : Result VersionedPlan Stop → Result PlanData Stop
plan_of (Ok v) = Ok v.plan
plan_of (Err e) = Err e

-- an answer that is this text's or want of memory is so of its plan
pub plan_only : (result : Result VersionedPlan Stop) (v : VersionedPlan) → (result ≡ Ok v) ⊎ (result ≡ Err stop.NoMemory) → (plan_of result ≡ Ok v.plan) ⊎ (plan_of result ≡ Err stop.NoMemory)
plan_only result v (inl e) = inl (ap plan_of e)
plan_only result v (inr e) = inr (ap plan_of e)

-- and so it is of what is told of the file
abbrev IsOnly : {E : Type 0} → Result PlanData E → PlanData → E → Type 0
IsOnly result plan e = (result ≡ Ok plan) ⊎ (result ≡ Err e)

abbrev told : Result PlanData Stop → Result PlanData JournalErr
told (Ok p) = Ok p
told (Err e) = Err err.NoMemory

pub read_only : (x plan : PlanData) → IsOnly {E = Stop} (Ok x) plan stop.NoMemory → IsOnly {E = JournalErr} (Ok x) plan err.NoMemory
read_only x plan (inl e) = inl (ap told e)
read_only x plan (inr e) = absurd (cc e)

pub never_bad : (left : ℕ) (plan : PlanData) → IsOnly {E = Stop} (Err (stop.Field left)) plan stop.NoMemory → ⊥
never_bad left plan (inl e) = cc e
never_bad left plan (inr e) = cc e

-- ---- what a function that gives the reading ensures

pub is_found : {X : Type 0} (fields : X → List Field) (Fits : X → Type 0) (read : List ℕ → Reading X) → IsReader fields Fits read
    → (bytes : List ℕ) (result : Result X Stop) → Gives (λ x. x) result (read bytes >>= ended) → IfOk result (IsWhole fields Fits bytes)
is_found fields Fits read r bytes (Ok x) given = whole_takes fields Fits read r bytes x given
is_found fields Fits read r bytes (Err e) given = tt

only_err : {X : Type 0} (e : Stop) (reading : Result X ℕ) (x : X) → Stops e reading → reading ≡ Ok x → e ≡ stop.NoMemory
only_err stop.NoMemory reading x given h = refl
only_err {X} (stop.Field left) reading x given h =
    let never : Err left ≡ Ok x = sym given ∙ h in
    absurd (cc never)

only_cases : {X : Type 0} (result : Result X Stop) (reading : Result X ℕ) (x : X) → Gives (λ x. x) result reading → reading ≡ Ok x → (result ≡ Ok x) ⊎ (result ≡ Err stop.NoMemory)
only_cases (Ok y) reading x given h = inl (ap Ok (ok_is y x (sym given ∙ h)))
only_cases (Err e) reading x given h = inr (ap Err (only_err e reading x given h))

pub is_only : {X : Type 0} (fields : X → List Field) (Fits : X → Type 0) (read : List ℕ → Reading X) → IsReader fields Fits read
    → (bytes : List ℕ) (result : Result X Stop) → Gives (λ x. x) result (read bytes >>= ended) → (x : X) → IsWhole fields Fits bytes x → (result ≡ Ok x) ⊎ (result ≡ Err stop.NoMemory)
is_only fields Fits read r bytes result given x w = only_cases result (read bytes >>= ended) x given (whole_again fields Fits read r bytes x w)

pub is_bad : {X : Type 0} (fields : X → List Field) (Fits : X → Type 0) (read : List ℕ → Reading X) → IsReader fields Fits read
    → (bytes : List ℕ) (result : Result X Stop) → Gives (λ x. x) result (read bytes >>= ended) → IfErr result (StopBlames fields Fits bytes)
is_bad fields Fits read r bytes (Ok x) given = tt
is_bad fields Fits read r bytes (Err stop.NoMemory) given = tt
is_bad fields Fits read r bytes (Err (stop.Field left)) given = bad_cases fields Fits read r bytes left (bind_err (read bytes) ended left given)
