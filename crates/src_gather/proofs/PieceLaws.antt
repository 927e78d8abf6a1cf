-- The pieces of a list as a set: they rise, and are those of the list without the empty one.
use Rattle.std.proofs.Common.{◌≡◌, ◌≢◌, ◌⊎◌, ℕ, zero, suc, ◌+◌, ◌<◌, ◌≤◌, Bool, true, false, ◌&&◌, List, [], ◌∷◌, length, map, drop, get_or, inl, inr, refl, sym, ap, ◌∙◌, subst, arith, drop-cons, add-one, Bor, Vec}
use Rattle.std.specs.Prelude.{Contains, ◌==◌}
use Rattle.std.specs.declared.alloc.Global.{Global}
use Rattle.std.specs.declared.cmp.Ordering.{Ordering}
use Rattle.std.specs.declared.cmp.Ordering.TheVariants.{Less, Equal, Greater}
use Rattle.std.specs.Cmp.Lexicographic.{slice_cmp}
use Rattle.std.specs.BTreeSet.{insert_key}
use Rattle.std.specs.List.{AllByRecursion}
use Rattle.std.specs.List.Sorted.{IsStrictlySortedBy}
use Rattle.std.specs.Ordering.{nat_cmp, ordering_reverse}
use Rattle.std.specs.Str.{IsUtf8, is_utf8}
use Rattle.std.proofs.lemmas.Bool.{eqb-true}
use Rattle.std.proofs.lemmas.Cmp.{nat_list_cmp_total}
use Rattle.std.proofs.lemmas.List.{drop_all}
use Rattle.std.proofs.lemmas.Str.{IsUtf8-from_is_utf8, is_utf8-from_IsUtf8}
use Rattle.dw_paths.specs.PlainPaths.{is_plain}
use Rattle.file_tree.specs.Causes.{AreInOrder}
use Rattle.work_texts.specs.Lists.{bytes_of}
use Rattle.work_texts.specs.Rules.{is_job_path}
use Rattle.root_paths.proofs.PlaceLaws.{compared, same_path}
use Rattle.root_plan.specs.Tallies.{placed_by, with_source}
use Rattle.root_plan.proofs.SourceLaws.{inserted-is}
use Rattle.src_gather.specs.Listed.{AreNames, pieces, with_piece, with_pieces}

-- ### One piece

abbrev Key : Type 0
Key = Vec ℕ Global

piece_none : (names : List (List ℕ)) (piece : List ℕ) → (length piece == 0) ≡ true → names ≡ with_piece names piece
piece_none names [] e = refl
piece_none names (b ∷ bs) e = absurd (omega (arith, eqb-true (length (b ∷ bs)) 0 e))

piece_some : (names new : List (List ℕ)) (piece : List ℕ) → (length piece == 0) ≡ false → new ≡ with_source names piece → new ≡ with_piece names piece
piece_some names new [] e is = cc
piece_some names new (b ∷ bs) e is = is

pub piece-skipped : (keys : List Key) (piece : List ℕ) → (length piece == 0) ≡ true → map bytes_of keys ≡ with_piece (map bytes_of keys) piece
piece-skipped keys piece e = piece_none (map bytes_of keys) piece e

abbrev key_order : Key → Key → Ordering
key_order x y = slice_cmp nat_cmp x.items y.items

pub piece-put : (keys new : List Key) (k : Key) (piece : List ℕ) → (length piece == 0) ≡ false → k.items ≡ piece → new ≡ insert_key key_order keys k
    → map bytes_of new ≡ with_piece (map bytes_of keys) piece
piece-put keys new k piece e is put = piece_some (map bytes_of keys) (map bytes_of new) piece e (inserted-is keys new k put ∙ ap (with_source (map bytes_of keys)) is)

-- ### The set

placed-all : (P : List ℕ → Type 0) (o : Ordering) (name x : List ℕ) (xs rest : List (List ℕ)) → P name → P x → AllByRecursion P xs → AllByRecursion P rest → AllByRecursion P (placed_by o name x xs rest)
placed-all P Less name x xs rest n f a r = (n, (f, a))
placed-all P Equal name x xs rest n f a r = (f, a)
placed-all P Greater name x xs rest n f a r = (f, r)

source-all : (P : List ℕ → Type 0) (xs : List (List ℕ)) (name : List ℕ) → P name → AllByRecursion P xs → AllByRecursion P (with_source xs name)
source-all P [] name n a = (n, tt)
source-all P (x ∷ xs) name n a = placed-all P (compared name x) name x xs (with_source xs name) n a.0 a.1 (source-all P xs name n a.1)

-- what is less than another is less than all above that one
above : (name x : List ℕ) (xs : List (List ℕ)) → compared name x ≡ Less → AllByRecursion (λ y. compared x y ≡ Less) xs → AllByRecursion (λ y. compared name y ≡ Less) xs
above name x [] l a = tt
above name x (y ∷ ys) l a = (nat_list_cmp_total.trans name x y l a.0, above name x ys l a.1)

greater-turned : (name x : List ℕ) → compared name x ≡ Greater → compared x name ≡ Less
greater-turned name x e = nat_list_cmp_total.antisymm x name ∙ ap ordering_reverse e

placed-order : (o : Ordering) (name x : List ℕ) (xs rest : List (List ℕ)) → compared name x ≡ o → AreInOrder (x ∷ xs) → AreInOrder rest
    → (compared x name ≡ Less → AllByRecursion (λ y. compared x y ≡ Less) rest) → AreInOrder (placed_by o name x xs rest)
unfolding IsStrictlySortedBy
placed-order Less name x xs rest e s r all = ((e, above name x xs e s.0), s)
placed-order Equal name x xs rest e s r all = s
placed-order Greater name x xs rest e s r all = (all (greater-turned name x e), r)

source-order : (xs : List (List ℕ)) (name : List ℕ) → AreInOrder xs → AreInOrder (with_source xs name)
unfolding IsStrictlySortedBy
source-order [] name s = (tt, tt)
source-order (x ∷ xs) name s =
    placed-order (compared name x) name x xs (with_source xs name) refl s (source-order xs name s.1) (λ l. source-all (λ y. compared x y ≡ Less) xs name l s.0)

piece-order : (xs : List (List ℕ)) (piece : List ℕ) → AreInOrder xs → AreInOrder (with_piece xs piece)
piece-order xs [] s = s
piece-order xs (b ∷ bs) s = source-order xs (b ∷ bs) s

pieces-order : (xs rest : List (List ℕ)) → AreInOrder xs → AreInOrder (with_pieces xs rest)
pieces-order xs [] s = s
pieces-order xs (p ∷ ps) s = pieces-order (with_piece xs p) ps (piece-order xs p s)

-- ### Members

pub here : (x : List ℕ) (xs : List (List ℕ)) → Contains (x ∷ xs) x
here x xs = (0, omega arith, refl)

pub there : (y x : List ℕ) (xs : List (List ℕ)) → Contains xs x → Contains (y ∷ xs) x
there y x xs c = (suc c.0, omega (arith, c.1), c.2)

pub cases : (y x : List ℕ) (xs : List (List ℕ)) → Contains (y ∷ xs) x → (y ≡ x) ⊎ Contains xs x
cases y x xs (zero, l, e) = inl e
cases y x xs (suc i, l, e) = inr (i, omega (arith, l), e)

pub never : (x : List ℕ) → Contains [] x → ⊥
never x (i, l, e) = omega (arith, l)

-- what has one member more has the old ones and it, and no other
record Grows (old new : List (List ℕ)) (name : List ℕ) : Type 0 where
  kept : (q : List ℕ) → Contains old q → Contains new q
  added : Contains new name
  only : (q : List ℕ) → Contains new q → (name ≡ q) ⊎ Contains old q

grows-behind : (x name : List ℕ) (xs rest : List (List ℕ)) → Grows xs rest name → Grows (x ∷ xs) (x ∷ rest) name
grows-behind x name xs rest g = record {
  kept = λ q c. kept-by q (cases x q xs c);
  added = there x name rest g.added;
  only = λ q c. only-by q (cases x q rest c);
}
  where
    kept-by : (q : List ℕ) → (x ≡ q) ⊎ Contains xs q → Contains (x ∷ rest) q
    kept-by q (inl e) = subst (λ (p : List ℕ). Contains (x ∷ rest) p) e (here x rest)
    kept-by q (inr c) = there x q rest (g.kept q c)

    later : (q : List ℕ) → (name ≡ q) ⊎ Contains xs q → (name ≡ q) ⊎ Contains (x ∷ xs) q
    later q (inl e) = inl e
    later q (inr c) = inr (there x q xs c)

    only-by : (q : List ℕ) → (x ≡ q) ⊎ Contains rest q → (name ≡ q) ⊎ Contains (x ∷ xs) q
    only-by q (inl e) = inr (subst (λ (p : List ℕ). Contains (x ∷ xs) p) e (here x xs))
    only-by q (inr c) = later q (g.only q c)

grows-front : (name : List ℕ) (xs : List (List ℕ)) → Grows xs (name ∷ xs) name
grows-front name xs = record { kept = λ q c. there name q xs c; added = here name xs; only = λ q c. cases name q xs c }

grows-same : (name : List ℕ) (xs : List (List ℕ)) → Contains xs name → Grows xs xs name
grows-same name xs c = record { kept = λ q d. d; added = c; only = λ q d. inr d }

placed-grows : (o : Ordering) (name x : List ℕ) (xs rest : List (List ℕ)) → compared name x ≡ o → Grows xs rest name → Grows (x ∷ xs) (placed_by o name x xs rest) name
placed-grows Less name x xs rest e g = grows-front name (x ∷ xs)
placed-grows Equal name x xs rest e g = grows-same name (x ∷ xs) (subst (λ (p : List ℕ). Contains (x ∷ xs) p) (sym (same_path name x e)) (here x xs))
placed-grows Greater name x xs rest e g = grows-behind x name xs rest g

source-grows : (xs : List (List ℕ)) (name : List ℕ) → Grows xs (with_source xs name) name
source-grows [] name = grows-front name []
source-grows (x ∷ xs) name = placed-grows (compared name x) name x xs (with_source xs name) refl (source-grows xs name)

-- what has pieces more has the old members and the pieces that aren't empty, and no other
record Joins (old pieces new : List (List ℕ)) : Type 0 where
  kept : (q : List ℕ) → Contains old q → Contains new q
  added : (q : List ℕ) → Contains pieces q → q ≢ [] → Contains new q
  only : (q : List ℕ) → Contains new q → Contains old q ⊎ (Contains pieces q × (q ≢ []))

joins-none : (old : List (List ℕ)) → Joins old [] old
joins-none old = record { kept = λ q c. c; added = λ q c some. absurd (never q c); only = λ q c. inl c }

joins-empty : (old rest new : List (List ℕ)) → Joins old rest new → Joins old ([] ∷ rest) new
joins-empty old rest new j = record {
  kept = j.kept;
  added = λ q c some. added-by q some (cases [] q rest c);
  only = λ q c. only-by q (j.only q c);
}
  where
    added-by : (q : List ℕ) → q ≢ [] → ([] ≡ q) ⊎ Contains rest q → Contains new q
    added-by q some (inl e) = absurd (some (sym e))
    added-by q some (inr c) = j.added q c some

    only-by : (q : List ℕ) → Contains old q ⊎ (Contains rest q × (q ≢ [])) → Contains old q ⊎ (Contains ([] ∷ rest) q × (q ≢ []))
    only-by q (inl c) = inl c
    only-by q (inr d) = inr (there [] q rest d.0, d.1)

joins-more : (old mid rest new : List (List ℕ)) (piece : List ℕ) → piece ≢ [] → Grows old mid piece → Joins mid rest new → Joins old (piece ∷ rest) new
joins-more old mid rest new piece some g j = record {
  kept = λ q c. j.kept q (g.kept q c);
  added = λ q c more. added-by q more (cases piece q rest c);
  only = λ q c. only-by q (j.only q c);
}
  where
    added-by : (q : List ℕ) → q ≢ [] → (piece ≡ q) ⊎ Contains rest q → Contains new q
    added-by q more (inl e) = j.kept q (subst (λ (p : List ℕ). Contains mid p) e g.added)
    added-by q more (inr c) = j.added q c more

    first-by : (q : List ℕ) → (piece ≡ q) ⊎ Contains old q → Contains old q ⊎ (Contains (piece ∷ rest) q × (q ≢ []))
    first-by q (inl e) = inr (subst (λ (p : List ℕ). Contains (piece ∷ rest) p × (p ≢ [])) e (here piece rest, some))
    first-by q (inr c) = inl c

    only-by : (q : List ℕ) → Contains mid q ⊎ (Contains rest q × (q ≢ [])) → Contains old q ⊎ (Contains (piece ∷ rest) q × (q ≢ []))
    only-by q (inl c) = first-by q (g.only q c)
    only-by q (inr d) = inr (there piece q rest d.0, d.1)

cons-some : (b : ℕ) (bs : List ℕ) → (b ∷ bs) ≢ []
cons-some b bs e = cc

joins-piece : (old rest new : List (List ℕ)) (piece : List ℕ) → Joins (with_piece old piece) rest new → Joins old (piece ∷ rest) new
joins-piece old rest new [] j = joins-empty old rest new j
joins-piece old rest new (b ∷ bs) j = joins-more old (with_source old (b ∷ bs)) rest new (b ∷ bs) (cons-some b bs) (source-grows old (b ∷ bs)) j

joins-all : (old rest : List (List ℕ)) → Joins old rest (with_pieces old rest)
joins-all old [] = joins-none old
joins-all old (p ∷ ps) = joins-piece old ps (with_pieces (with_piece old p) ps) p (joins-all (with_piece old p) ps)

none-left : (rest : List (List ℕ)) (q : List ℕ) → Contains [] q ⊎ (Contains rest q × (q ≢ [])) → Contains rest q × (q ≢ [])
none-left rest q (inl c) = absurd (never q c)
none-left rest q (inr d) = d

nothing-in-order : AreInOrder []
unfolding IsStrictlySortedBy
nothing-in-order = tt

-- all pieces of a list come to its names
pub names-are : (bytes : List ℕ) → AreNames bytes (with_pieces [] (pieces bytes))
names-are bytes =
    let j : Joins [] (pieces bytes) (with_pieces [] (pieces bytes)) = joins-all [] (pieces bytes) in
    record {
      in_order = pieces-order [] (pieces bytes) nothing-in-order;
      listed = λ q c. (none-left (pieces bytes) q (j.only q c)).0;
      some = λ q c. (none-left (pieces bytes) q (j.only q c)).1;
      all = j.added;
    }

pub names-made : (bytes : List ℕ) (parts names : List (List ℕ)) → parts ≡ pieces bytes → names ≡ with_pieces [] parts → AreNames bytes names
names-made bytes parts names p n = subst (λ (ns : List (List ℕ)). AreNames bytes ns) (sym (n ∙ ap (with_pieces []) p)) (names-are bytes)

-- ### A loop over the pieces

pub pieces-more : (xs : List (Bor (List ℕ))) (i : ℕ) (x d : Bor (List ℕ)) (names new whole : List (List ℕ)) → i < length xs → x ≡ get_or xs i d → new ≡ with_piece names x.now
    → with_pieces names (map (λ p. p.now) (drop i xs)) ≡ whole → with_pieces new (map (λ p. p.now) (drop (i + 1) xs)) ≡ whole
pieces-more xs i x d names new whole l is e so_far =
    ap (λ (ns : List (List ℕ)). with_pieces ns (map (λ p. p.now) (drop (i + 1) xs))) e
    ∙ ap (λ (ps : List (List ℕ)). with_pieces names ps) (sym (ap (map (λ p. p.now)) (next d is))) ∙ so_far
  where
    next : (d : Bor (List ℕ)) → x ≡ get_or xs i d → drop i xs ≡ x ∷ drop (i + 1) xs
    next d is = drop-cons xs i d l ∙ rw (← is, add-one) refl

pub pieces-done : (xs : List (Bor (List ℕ))) (i : ℕ) (names whole : List (List ℕ)) → length xs ≤ i → with_pieces names (map (λ p. p.now) (drop i xs)) ≡ whole → names ≡ whole
pieces-done xs i names whole le so_far = sym (ap (λ (ys : List (Bor (List ℕ))). with_pieces names (map (λ p. p.now) ys)) (drop_all i xs le)) ∙ so_far

pub ruleset loop_rules = (pieces-more, pieces-done)

-- ### Fit names

no-both : (a b : Bool) → a ≡ false → (a && b) ≡ false
no-both true b e = cc
no-both false b e = refl

no-other : (a b : Bool) → b ≡ false → (a && b) ≡ false
no-other true b e = e
no-other false b e = refl

both-of : (a b : Bool) → a ≡ true → b ≡ true → (a && b) ≡ true
both-of true b e f = f
both-of false b e f = e

pub unfit-path : (name : List ℕ) → is_plain name ≡ false → is_job_path name ≡ false
unfit-path name e = no-both (is_plain name) (is_utf8 name) e

utf8-by : (bs : List ℕ) (t : Bool) → is_utf8 bs ≡ t → (IsUtf8 bs → ⊥) → t ≡ false
utf8-by bs true e h = absurd (h (IsUtf8-from_is_utf8 bs e))
utf8-by bs false e h = refl

pub unfit-text : (name : List ℕ) → (IsUtf8 name → ⊥) → is_job_path name ≡ false
unfit-text name h = no-other (is_plain name) (is_utf8 name) (utf8-by name (is_utf8 name) refl h)

pub fit-name : (name : List ℕ) → is_plain name ≡ true → IsUtf8 name → is_job_path name ≡ true
fit-name name p u = both-of (is_plain name) (is_utf8 name) p (is_utf8-from_IsUtf8 name u)

pub ruleset fit_rules = (unfit-path, unfit-text, fit-name)

pub ruleset piece_rules = (piece-skipped, piece-put)
