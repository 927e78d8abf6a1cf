-- Many items, read one after another in a loop.
use Rattle.std.proofs.Common.{◌≡◌, ℕ, suc, ◌-◌, ◌+◌, ◌≤◌, ◌<◌, List, [], ◌∷◌, ◌++◌, length, Option, Some, Ok, Err, refl, sym, ap, ◌∙◌, append_assoc, arith}
use Rattle.std.specs.Prelude.{option_map}
use Rattle.std.specs.List.{slice_get}
use Rattle.std.proofs.lemmas.List.{append-nil, length-append}
use Rattle.work_texts.specs.declared.stop.Stop.{Stop}
use Rattle.work_texts.specs.declared.stop.Stop.TheVariants as stop
use Rattle.work_texts.specs.Reading.{Reading, ◌>>=◌, Stops, each_at, many_at, last_text}

-- what was read before, and what is still read
abbrev pub with_front : {A : Type 0} → List A → Reading (List A) → Reading (List A)
with_front front read = read >>= λ x. Ok (front ++ x.0, x.1)

-- what is left of so many items behind those that were read
abbrev pub left_at : {A : Type 0} → (Option (List ℕ) → List ℕ → Reading A) → (A → List ℕ) → List A → ℕ → List ℕ → Reading (List A)
left_at read item_text items n bytes = with_front items (many_at read item_text n (last_text item_text items) bytes)

last_of_append : {A : Type 0} (items : List A) (a : A) → slice_get (items ++ a ∷ []) (length items) ≡ Some a
last_of_append [] a = refl
last_of_append (x ∷ xs) a = last_of_append xs a

pub last_push : {A : Type 0} (item_text : A → List ℕ) (items : List A) (a : A) → last_text item_text (items ++ a ∷ []) ≡ Some (item_text a)
last_push {A} item_text items a =
    let len : length (items ++ a ∷ []) - 1 ≡ length items = omega (arith, length-append items (a ∷ [])) in
    ap (λ (n : ℕ). option_map item_text (slice_get (items ++ a ∷ []) n)) len ∙ ap (option_map item_text) (last_of_append items a)

regroup : {A : Type 0} (front : List A) (a : A) (read : Reading (List A)) → with_front front (read >>= λ x. Ok (a ∷ x.0, x.1)) ≡ with_front (front ++ a ∷ []) read
regroup {A} front a (Ok x) = ap (λ (items : List A). Ok (items, x.1)) (sym (append_assoc front (a ∷ []) x.0))
regroup front a (Err e) = refl

pub goes_on : {A : Type 0} (read : Option (List ℕ) → List ℕ → Reading A) (item_text : A → List ℕ) (items : List A) (count i : ℕ) (bytes : List ℕ) (a : A) (after : List ℕ) (whole : Reading (List A)) → i < count → read (last_text item_text items) bytes ≡ Ok (a, after)
    → left_at read item_text items (count - i) bytes ≡ whole → left_at read item_text (items ++ a ∷ []) (count - (i + 1)) after ≡ whole
unfolding each_at
goes_on {A} read item_text items count i bytes a after whole lt h so_far =
    let k : count - i ≡ suc (count - (i + 1)) = omega arith in
    let last : last_text item_text (items ++ a ∷ []) ≡ Some (item_text a) = last_push item_text items a in
    let one : left_at read item_text items (count - i) bytes ≡ with_front (items ++ a ∷ []) (many_at read item_text (count - (i + 1)) (Some (item_text a)) after) =
    rw (k, h) (regroup items a (many_at read item_text (count - (i + 1)) (Some (item_text a)) after)) in
    ap (λ (o : Option (List ℕ)). with_front (items ++ a ∷ []) (many_at read item_text (count - (i + 1)) o after)) last ∙ sym one ∙ so_far

pub ends : {A : Type 0} (e : Stop) (read : Option (List ℕ) → List ℕ → Reading A) (item_text : A → List ℕ) (items : List A) (count i : ℕ) (bytes : List ℕ) (whole : Reading (List A)) → i < count → Stops e (read (last_text item_text items) bytes)
    → left_at read item_text items (count - i) bytes ≡ whole → Stops e whole
unfolding each_at
ends stop.NoMemory read item_text items count i bytes whole lt h so_far = tt
ends (stop.Field left) read item_text items count i bytes whole lt h so_far =
    let k : count - i ≡ suc (count - (i + 1)) = omega arith in
    let one : left_at read item_text items (count - i) bytes ≡ Err left = rw (k, h) refl in
    sym so_far ∙ one

pub is_done : {A : Type 0} (read : Option (List ℕ) → List ℕ → Reading A) (item_text : A → List ℕ) (items : List A) (count i : ℕ) (bytes : List ℕ) (whole : Reading (List A)) → count ≤ i
    → left_at read item_text items (count - i) bytes ≡ whole → whole ≡ Ok (items, bytes)
unfolding each_at
is_done {A} read item_text items count i bytes whole le so_far =
    let k : count - i ≡ 0 = omega arith in
    let one : left_at read item_text items (count - i) bytes ≡ Ok (items, bytes) = rw k (ap (λ (xs : List A). Ok (xs, bytes)) (append-nil items)) in
    sym so_far ∙ one
