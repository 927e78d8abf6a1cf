-- Build-ids are counted as jobs have them.
use Rattle.std.proofs.Common.{◌≡◌, ◌≢◌, ℕ, ◌+◌, ◌<◌, Bool, true, false, if◌then◌else◌, cond, List, [], ◌∷◌, ◌++◌, length, Option, Some, Vec, refl, sym, ap, ◌∙◌, arith}
use Rattle.std.specs.Prelude.{◌==◌}
use Rattle.std.specs.declared.alloc.Global.{Global}
use Rattle.std.specs.Option.{unwrap_or}
use Rattle.std.specs.Map.{lookup}
use Rattle.std.specs.Str.{bytes_eq}
use Rattle.std.proofs.lemmas.List.Sums.{sum_by_push, count_by-le-length}
use Rattle.std.proofs.lemmas.Bool.{true≢false, eqb-false}
use Rattle.indexmap.specs.IndexMap.{insert_entry}
use Rattle.dw_base.specs.Texts.{same_text}
use Rattle.dw_base.proofs.TextLaws.{same_text-true, same_text-from}
use Rattle.work_texts.specs.declared.plan.JobLine.{JobLine}
use Rattle.root_plan.specs.Tallies.{count_of_id, next_number, edited_job}
use Rattle.root_plan.specs.Counted.{count_in, AreCounted, CountsOneMore}

abbrev Entry : Type 0
Entry = Vec ℕ Global × ℕ

-- what is looked up once a value is set: that value at its key, and what was there elsewhere
same-key : (q k x : List ℕ) (b c : Bool) → bytes_eq q k ≡ b → bytes_eq q x ≡ c → k ≡ x → b ≡ c
same-key q k x b c e f same = sym e ∙ ap (bytes_eq q) same ∙ f

set-here : (b c : Bool) (v w : ℕ) (rest : Option ℕ) → b ≡ c → cond c (Some v) rest ≡ cond b (Some v) (cond c (Some w) rest)
set-here true true v w rest e = refl
set-here true false v w rest e = cc
set-here false true v w rest e = cc
set-here false false v w rest e = refl

set-there : (b c : Bool) (v w : ℕ) (rest more : Option ℕ) → (b ≡ true → c ≡ true → ⊥) → more ≡ cond b (Some v) rest → cond c (Some w) more ≡ cond b (Some v) (cond c (Some w) rest)
set-there true true v w rest more apart e = absurd (apart refl refl)
set-there true false v w rest more apart e = e
set-there false true v w rest more apart e = refl
set-there false false v w rest more apart e = e

abbrev same_key : Vec ℕ Global → Vec ℕ Global → Bool
same_key k l = bytes_eq k.items l.items

abbrev find : List ℕ → List Entry → Option ℕ
find q es = lookup (λ k. bytes_eq q k.items) es

find-inserted : (es : List Entry) (k : Vec ℕ Global) (v : ℕ) (q : List ℕ) → find q (insert_entry same_key es k v) ≡ cond (bytes_eq q k.items) (Some v) (find q es)
find-inserted [] k v q = refl
find-inserted (x ∷ xs) k v q = by_test (bytes_eq k.items x.0.items) refl (find-inserted xs k v q)
  where
    by_test : (t : Bool) → bytes_eq k.items x.0.items ≡ t → find q (insert_entry same_key xs k v) ≡ cond (bytes_eq q k.items) (Some v) (find q xs)
        → find q (cond t ((x.0, v) ∷ xs) (x ∷ insert_entry same_key xs k v)) ≡ cond (bytes_eq q k.items) (Some v) (find q (x ∷ xs))
    by_test true t e =
        set-here (bytes_eq q k.items) (bytes_eq q x.0.items) v x.1 (find q xs) (same-key q k.items x.0.items _ _ refl refl (same_text-true k.items x.0.items t))
    by_test false t e =
        set-there (bytes_eq q k.items) (bytes_eq q x.0.items) v x.1 (find q xs) (find q (insert_entry same_key xs k v))
        (λ a b. true≢false (sym (same_text-from k.items x.0.items (sym (same_text-true q k.items a) ∙ same_text-true q x.0.items b)) ∙ t)) e

more-by : (q id : List ℕ) (b : Bool) → same_text q id ≡ b → (count : ℕ) (es : List Entry) → count ≡ count_in es id
    → unwrap_or (cond b (Some (count + 1)) (find q es)) 0 ≡ count_in es q + (if b then 1 else 0)
more-by q id true same count es is =
    let e : count ≡ count_in es q = is ∙ ap (count_in es) (sym (same_text-true q id same)) in
    let g : count + 1 ≡ count_in es q + 1 = omega (arith, e) in g
more-by q id false same count es is = omega arith

pub counts_more : (old new : List Entry) (id : List ℕ) (key : Vec ℕ Global) (count : ℕ) → new ≡ insert_entry same_key old key (count + 1) → key.items ≡ id
    → count ≡ count_in old id → CountsOneMore old new id
counts_more old new id key count made is at = record {
  counts = λ q some. ap (λ (es : List Entry). count_in es q) made ∙ ap (λ (o : Option ℕ). unwrap_or o 0) (find-inserted old key (count + 1) q)
      ∙ ap (λ (k : List ℕ). unwrap_or (cond (bytes_eq q k) (Some (count + 1)) (find q old)) 0) is ∙ more-by q id (same_text q id) refl count old at;
}

pub same_counts : (es : List Entry) (id : List ℕ) → length id ≡ 0 → CountsOneMore es es id
same_counts es [] none = record { counts = λ q some. by_empty q some }
  where
    by_empty : (q : List ℕ) → length q ≢ 0 → count_in es q ≡ count_in es q + (if same_text q [] then 1 else 0)
    by_empty [] some = absurd (some refl)
    by_empty (x ∷ xs) some = omega arith
same_counts es (x ∷ xs) none = cc

-- ### Jobs

counted-more : (old new : List Entry) (jobs : List JobLine) (job : JobLine) → AreCounted old jobs → CountsOneMore old new job.id → AreCounted new (jobs ++ job ∷ [])
counted-more old new jobs job are more = record {
  counted = λ q some. more.counts q some ∙ ap (λ (n : ℕ). n + (if same_text q job.id then 1 else 0)) (are.counted q some) ∙ sym (sum_by_push _ jobs job);
}

pub counted-split : (old new : List Entry) (jobs : List JobLine) (path digest id : List ℕ) (number : ℕ) → AreCounted old jobs → CountsOneMore old new id
    → AreCounted new (jobs ++ (record { split = true; path = path; digest = digest; id = id; number = number }) ∷ [])
counted-split old new jobs path digest id number are more = counted-more old new jobs (record { split = true; path = path; digest = digest; id = id; number = number }) are more

pub counted-edited : (es : List Entry) (jobs : List JobLine) (path bytes : List ℕ) → AreCounted es jobs → AreCounted es (jobs ++ edited_job path bytes ∷ [])
counted-edited es jobs path bytes are = counted-more es es jobs (edited_job path bytes) are (same_counts es [] refl)

number-by : (id : List ℕ) (b : Bool) → (length id == 0) ≡ b → (es : List Entry) (jobs : List JobLine) → AreCounted es jobs
    → (if b then 0 else count_in es id) ≡ (if b then 0 else count_of_id jobs id)
number-by id true e es jobs are = refl
number-by id false e es jobs are = are.counted id (eqb-false (length id) 0 e)

pub number-is : (es : List Entry) (jobs : List JobLine) (id : List ℕ) (number : ℕ) → AreCounted es jobs → number ≡ (if length id == 0 then 0 else count_in es id)
    → number ≡ next_number jobs id
number-is es jobs id number are e = e ∙ number-by id (length id == 0) refl es jobs are

-- the count stays below the number of jobs
pub count-few : (es : List Entry) (jobs : List JobLine) (id : List ℕ) (n : ℕ) → AreCounted es jobs → length id ≢ 0 → length jobs < n → count_in es id < n
count-few es jobs id n are some l = omega (arith, are.counted id some, count_by-le-length (λ (j : JobLine). same_text id j.id) jobs)

pub none_counted : AreCounted [] []
none_counted = record { counted = λ id some. refl }

pub ruleset count_rules = (counts_more, same_counts)

pub ruleset job_rules = (counted-split, counted-edited, number-is, count-few)
