-- Two keys part by part.
use Rattle.std.proofs.Common.{◌≡◌, ℕ, zero, suc, ◌^◌, ◌<◌, Bool, true, false, List, [], ◌∷◌, drop, get_or, refl, sym, ap, ◌∙◌, arith}
use Rattle.std.specs.Fmt.{decimal}
use Rattle.std.proofs.lemmas.Fmt.{decimal_injective}
use Rattle.dw_base.specs.Paths.{IsPathMap, MapPair, first_pair}
use Rattle.dw_base.proofs.PathLaws.{same-maps, same-pair}
use Rattle.work_texts.specs.declared.key.RunKey.{RunKey}
use Rattle.work_texts.specs.declared.journal_err.JournalErr.{JournalErr}
use Rattle.work_texts.specs.Fields.{Field, flag_field, more_pairs, pair_fields, text_of}
use Rattle.work_texts.specs.Keys.{key_part, IsOtherRun, KeyBlames}

differs : (m n : ℕ) → m ≡ 48 → n ≡ 49 → m ≡ n → ⊥
differs m n a b e = omega arith

flag_same : (a b : Bool) → flag_field a ≡ flag_field b → a ≡ b
flag_same true true e = refl
flag_same false false e = refl
flag_same true false e = absurd (differs 48 49 refl refl (sym (ap (λ (xs : List ℕ). get_or xs 0 0) e)))
flag_same false true e = absurd (differs 48 49 refl refl (ap (λ (xs : List ℕ). get_or xs 0 0) e))

-- a field alone
one : (a b : Field) → a ≡ b → a ∷ [] ≡ b ∷ []
one a b e = ap (λ (x : Field). x ∷ []) e

alone : (a b : Field) → a ∷ [] ≡ b ∷ [] → a ≡ b
alone a b e = ap (λ (xs : List Field). get_or xs 0 []) e

-- pairs whose fields are the same
pairs_same : (ps qs : List MapPair) → pair_fields ps ≡ pair_fields qs → ps ≡ qs
pairs_same [] [] e = refl
pairs_same [] (q ∷ qs) e = absurd cc
pairs_same (p ∷ ps) [] e = absurd cc
pairs_same (p ∷ ps) (q ∷ qs) e =
    let base : p.base ≡ q.base = ap (λ (xs : List Field). get_or xs 0 []) e in
    let dest : p.dest ≡ q.dest = ap (λ (xs : List Field). get_or xs 1 []) e in
    let rest : ps ≡ qs = pairs_same ps qs (ap (λ (xs : List Field). drop 2 xs) e) in
    ap (λ (x : MapPair). x ∷ ps) (same-pair p q base dest) ∙ ap (λ (rs : List MapPair). q ∷ rs) rest

-- how many parts are the same
abbrev Same : ℕ → RunKey → RunKey → Type 0
Same n k g = (i : ℕ) → i < n → key_part k i ≡ key_part g i

abbrev SameBase : RunKey → RunKey → Type 0
SameBase k g = (first_pair k.maps).base ≡ (first_pair g.maps).base

abbrev SameDest : RunKey → RunKey → Type 0
SameDest k g = (first_pair k.maps).dest ≡ (first_pair g.maps).dest

same0 : (k g : RunKey) → Same 0 k g
same0 k g i lt = absurd (omega arith)

same1 : (k g : RunKey) → SameBase k g → Same 1 k g
same1 k g a zero lt = one (first_pair k.maps).base (first_pair g.maps).base a
same1 k g a (suc i) lt = absurd (omega arith)

same2 : (k g : RunKey) → SameBase k g → SameDest k g → Same 2 k g
same2 k g a b zero lt = one (first_pair k.maps).base (first_pair g.maps).base a
same2 k g a b (suc zero) lt = one (first_pair k.maps).dest (first_pair g.maps).dest b
same2 k g a b (suc (suc i)) lt = absurd (omega arith)

same3 : (k g : RunKey) → SameBase k g → SameDest k g → k.build_id ≡ g.build_id → Same 3 k g
same3 k g a b c zero lt = one (first_pair k.maps).base (first_pair g.maps).base a
same3 k g a b c (suc zero) lt = one (first_pair k.maps).dest (first_pair g.maps).dest b
same3 k g a b c (suc (suc zero)) lt = one (flag_field k.build_id) (flag_field g.build_id) (ap flag_field c)
same3 k g a b c (suc (suc (suc i))) lt = absurd (omega arith)

same4 : (k g : RunKey) → SameBase k g → SameDest k g → k.build_id ≡ g.build_id → k.seed ≡ g.seed → Same 4 k g
same4 k g a b c d zero lt = one (first_pair k.maps).base (first_pair g.maps).base a
same4 k g a b c d (suc zero) lt = one (first_pair k.maps).dest (first_pair g.maps).dest b
same4 k g a b c d (suc (suc zero)) lt = one (flag_field k.build_id) (flag_field g.build_id) (ap flag_field c)
same4 k g a b c d (suc (suc (suc zero))) lt = one k.seed g.seed d
same4 k g a b c d (suc (suc (suc (suc i)))) lt = absurd (omega arith)

same5 : (k g : RunKey) → SameBase k g → SameDest k g → k.build_id ≡ g.build_id → k.seed ≡ g.seed → k.skip ≡ g.skip → Same 5 k g
same5 k g a b c d e zero lt = one (first_pair k.maps).base (first_pair g.maps).base a
same5 k g a b c d e (suc zero) lt = one (first_pair k.maps).dest (first_pair g.maps).dest b
same5 k g a b c d e (suc (suc zero)) lt = one (flag_field k.build_id) (flag_field g.build_id) (ap flag_field c)
same5 k g a b c d e (suc (suc (suc zero))) lt = one k.seed g.seed d
same5 k g a b c d e (suc (suc (suc (suc zero)))) lt = one (flag_field k.skip) (flag_field g.skip) (ap flag_field e)
same5 k g a b c d e (suc (suc (suc (suc (suc i))))) lt = absurd (omega arith)

same6 : (k g : RunKey) → SameBase k g → SameDest k g → k.build_id ≡ g.build_id → k.seed ≡ g.seed → k.skip ≡ g.skip → k.max_file ≡ g.max_file → Same 6 k g
same6 k g a b c d e f zero lt = one (first_pair k.maps).base (first_pair g.maps).base a
same6 k g a b c d e f (suc zero) lt = one (first_pair k.maps).dest (first_pair g.maps).dest b
same6 k g a b c d e f (suc (suc zero)) lt = one (flag_field k.build_id) (flag_field g.build_id) (ap flag_field c)
same6 k g a b c d e f (suc (suc (suc zero))) lt = one k.seed g.seed d
same6 k g a b c d e f (suc (suc (suc (suc zero)))) lt = one (flag_field k.skip) (flag_field g.skip) (ap flag_field e)
same6 k g a b c d e f (suc (suc (suc (suc (suc zero))))) lt = one (decimal k.max_file) (decimal g.max_file) (ap decimal f)
same6 k g a b c d e f (suc (suc (suc (suc (suc (suc i)))))) lt = absurd (omega arith)

pub blame0 : (k g : RunKey) (r : JournalErr) → IsOtherRun 0 (first_pair k.maps).base (first_pair g.maps).base r → (SameBase k g → ⊥) → KeyBlames k g r
blame0 k g r h other = (0, record { within = omega arith; here = λ x. other (alone (first_pair k.maps).base (first_pair g.maps).base x); before = same0 k g }, h)

pub blame1 : (k g : RunKey) (r : JournalErr) → IsOtherRun 1 (first_pair k.maps).dest (first_pair g.maps).dest r → SameBase k g → (SameDest k g → ⊥) → KeyBlames k g r
blame1 k g r h a other = (1, record { within = omega arith; here = λ x. other (alone (first_pair k.maps).dest (first_pair g.maps).dest x); before = same1 k g a }, h)

pub blame2 : (k g : RunKey) (r : JournalErr) → IsOtherRun 2 (flag_field k.build_id) (flag_field g.build_id) r → SameBase k g → SameDest k g → (k.build_id ≡ g.build_id → ⊥) → KeyBlames k g r
blame2 k g r h a b other = (2, record { within = omega arith; here = λ x. other (flag_same k.build_id g.build_id (alone (flag_field k.build_id) (flag_field g.build_id) x)); before = same2 k g a b }, h)

pub blame3 : (k g : RunKey) (r : JournalErr) → IsOtherRun 3 k.seed g.seed r → SameBase k g → SameDest k g → k.build_id ≡ g.build_id → (k.seed ≡ g.seed → ⊥) → KeyBlames k g r
blame3 k g r h a b c other = (3, record { within = omega arith; here = λ x. other (alone k.seed g.seed x); before = same3 k g a b c }, h)

pub blame4 : (k g : RunKey) (r : JournalErr) → IsOtherRun 4 (flag_field k.skip) (flag_field g.skip) r → SameBase k g → SameDest k g → k.build_id ≡ g.build_id → k.seed ≡ g.seed → (k.skip ≡ g.skip → ⊥) → KeyBlames k g r
blame4 k g r h a b c d other = (4, record { within = omega arith; here = λ x. other (flag_same k.skip g.skip (alone (flag_field k.skip) (flag_field g.skip) x)); before = same4 k g a b c d }, h)

pub blame5 : (k g : RunKey) (r : JournalErr) → IsOtherRun 5 (decimal k.max_file) (decimal g.max_file) r → SameBase k g → SameDest k g → k.build_id ≡ g.build_id → k.seed ≡ g.seed → k.skip ≡ g.skip → k.max_file < 2 ^ 64 → g.max_file < 2 ^ 64 → (k.max_file ≡ g.max_file → ⊥) → KeyBlames k g r
blame5 k g r h a b c d e small small_too other = (5, record { within = omega arith; here = λ x. other (decimal_injective k.max_file g.max_file small small_too (alone (decimal k.max_file) (decimal g.max_file) x)); before = same5 k g a b c d e }, h)

pub blame6 : (k g : RunKey) (r : JournalErr) → IsOtherRun 6 (text_of (pair_fields (more_pairs k))) (text_of (pair_fields (more_pairs g))) r → SameBase k g → SameDest k g → k.build_id ≡ g.build_id → k.seed ≡ g.seed → k.skip ≡ g.skip → k.max_file ≡ g.max_file → (more_pairs k ≡ more_pairs g → ⊥) → KeyBlames k g r
blame6 k g r h a b c d e f other = (6, record { within = omega arith; here = λ x. other (pairs_same (more_pairs k) (more_pairs g) x); before = same6 k g a b c d e f }, h)

pub one_key : (k g : RunKey) → SameBase k g → SameDest k g → k.build_id ≡ g.build_id → k.seed ≡ g.seed → k.skip ≡ g.skip → k.max_file ≡ g.max_file
    → more_pairs k ≡ more_pairs g → IsPathMap k.maps → IsPathMap g.maps → k ≡ g
one_key k g a b c d e f more first second =
    let maps : k.maps ≡ g.maps = same-maps k.maps g.maps first second a b more in
    let made : RunKey = record { maps = k.maps; build_id = k.build_id; seed = k.seed; skip = k.skip; max_file = k.max_file } in
    let other : RunKey = record { maps = g.maps; build_id = g.build_id; seed = g.seed; skip = g.skip; max_file = g.max_file } in
    let all : made ≡ other = rw (maps, c, d, e, f) refl in
    all

pub ruleset key_rules = (blame0, blame1, blame2, blame3, blame4, blame5, blame6, one_key)
