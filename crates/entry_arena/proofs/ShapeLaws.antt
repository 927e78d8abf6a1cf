-- Nodes that are linked by their depths spell each shape that has these depths.
use Rattle.std.proofs.Common.{Bool, ◌≡◌, ℕ, zero, suc, ◌+◌, ◌<◌, ◌≤◌, List, [], ◌∷◌, ◌++◌, length, take, Option, Some, None, refl, sym, ap, ◌∙◌, subst, arith, if◌then◌else◌, append_assoc, append-nil}
use Rattle.std.specs.Prelude.{nat_lt, ⊤}
use Rattle.std.proofs.lemmas.Bool.{eq-eqb, le-ltb, lt-ltb, ne_eqb}
use Rattle.std.proofs.lemmas.List.{length-append, length-take-le}
use Rattle.entry_arena.specs.Shapes.{Shape, no_nodes, node, size, preorder, numbers, root, depths_in, NodesSpell}
use Rattle.entry_arena.specs.LinkedNodes.{AreLinked, last_of, next_at}
use Rattle.entry_arena.specs.declared.arena.EntryNode.{EntryNode}

-- numbers one after another
numbers-append : (k a b : ℕ) → numbers k (a + b) ≡ numbers k a ++ numbers (k + a) b
numbers-append k zero b =
    let here : 0 + b ≡ b = omega arith in
    let place : k ≡ k + 0 = omega arith in
    ap (λ (n : ℕ). numbers k n) here ∙ ap (λ (i : ℕ). numbers i b) place
numbers-append k (suc a) b =
    let count : suc a + b ≡ suc (a + b) = omega arith in
    let place : suc k + a ≡ k + suc a = omega arith in
    ap (λ (n : ℕ). numbers k n) count ∙ ap (λ (ns : List ℕ). k ∷ ns) (numbers-append (suc k) a b ∙ ap (λ (i : ℕ). numbers (suc k) a ++ numbers i b) place)

-- the preorder of a shape is the order of its numbers
pub preorder-numbers : (k : ℕ) (s : Shape) → preorder k s ≡ numbers k (size s)
preorder-numbers k no_nodes = refl
preorder-numbers k (node c t) =
    ap (λ (ns : List ℕ). k ∷ (ns ++ preorder (suc k + size c) t)) (preorder-numbers (suc k) c)
    ∙ ap (λ (ns : List ℕ). k ∷ (numbers (suc k) (size c) ++ ns)) (preorder-numbers (suc k + size c) t)
    ∙ sym (ap (λ (ns : List ℕ). k ∷ ns) (numbers-append (suc k) (size c) (size t)))

-- depths that end a list of siblings of a depth: nothing follows, or a node that is less deep
abbrev pub Ends : ℕ → List ℕ → Type 0
Ends d [] = ⊤
Ends d (e ∷ es) = e < d

-- the first node of a depth behind deeper ones
skips : (e d k : ℕ) (s : Shape) (rest : List ℕ) → e < d → next_at e k (depths_in d s ++ rest) ≡ next_at e (k + size s) rest
skips e d k no_nodes rest lt =
    let place : k ≡ k + 0 = omega arith in
    ap (λ (n : ℕ). next_at e n rest) place
skips e d k (node c t) rest lt =
    let more : e < suc d = omega (arith, lt) in
    let place : suc k + size c + size t ≡ k + suc (size c + size t) = omega arith in
    ap (λ (b : Bool). if b then Some k else (if nat_lt d e then None else next_at e (suc k) ((depths_in (suc d) c ++ depths_in d t) ++ rest))) (ne_eqb d e (λ q. omega (arith, q, lt)))
    ∙ ap (λ (b : Bool). if b then None else next_at e (suc k) ((depths_in (suc d) c ++ depths_in d t) ++ rest)) (le-ltb d e (omega (arith, lt)))
    ∙ ap (next_at e (suc k)) (append_assoc (depths_in (suc d) c) (depths_in d t) rest)
    ∙ skips e (suc d) (suc k) c (depths_in d t ++ rest) more
    ∙ skips e d (suc k + size c) t rest lt
    ∙ ap (λ (n : ℕ). next_at e n rest) place

-- the first of siblings
next-here : (d k : ℕ) (s : Shape) (rest : List ℕ) → Ends d rest → next_at d k (depths_in d s ++ rest) ≡ root k s
next-here d k no_nodes [] ends = refl
next-here d k no_nodes (e ∷ es) ends =
    ap (λ (b : Bool). if b then Some k else (if nat_lt e d then None else next_at d (suc k) es)) (ne_eqb e d (λ q. omega (arith, q, ends)))
    ∙ ap (λ (b : Bool). if b then None else next_at d (suc k) es) (lt-ltb e d ends)
next-here d k (node c t) rest ends =
    ap (λ (b : Bool). if b then Some k else (if nat_lt d d then None else next_at d (suc k) ((depths_in (suc d) c ++ depths_in d t) ++ rest))) (eq-eqb d d refl)

ends-deeper : (d : ℕ) (s : Shape) (rest : List ℕ) → Ends d rest → Ends (suc d) (depths_in d s ++ rest)
ends-deeper d no_nodes [] ends = tt
ends-deeper d no_nodes (e ∷ es) ends = omega (arith, ends)
ends-deeper d (node c t) rest ends = omega arith

last-more : (xs : List ℕ) (k : ℕ) → last_of (xs ++ k ∷ []) ≡ Some k
last-more [] k = refl
last-more (x ∷ []) k = refl
last-more (x ∷ (y ∷ ys)) k = last-more (y ∷ ys) k

take-append : (d : ℕ) (xs ys : List ℕ) → length xs ≡ d → take d (xs ++ ys) ≡ xs
take-append zero [] ys e = refl
take-append zero (x ∷ xs) ys e = absurd (omega (arith, e))
take-append (suc d) [] ys e = absurd (omega (arith, e))
take-append (suc d) (x ∷ xs) ys e = ap (λ (zs : List ℕ). x ∷ zs) (take-append d xs ys (omega (arith, e)))

take-all : (xs : List ℕ) → take (length xs) xs ≡ xs
take-all [] = refl
take-all (x ∷ xs) = ap (λ (zs : List ℕ). x ∷ zs) (take-all xs)

-- nodes of a shape are linked as it is; behind them stand, above the next, the same nodes as before up to their depth
pub record Passed (at : ℕ → EntryNode) (above : List ℕ) (k d : ℕ) (s : Shape) (rest : List ℕ) : Type 0 where
  pub spells : NodesSpell at (last_of (take d above)) k s
  pub behind : List ℕ
  pub same : take d behind ≡ take d above
  pub long : d ≤ length behind
  pub left : AreLinked at behind (k + size s) rest

pub shape-passed : (at : ℕ → EntryNode) (above : List ℕ) (k d : ℕ) (s : Shape) (rest : List ℕ) → d ≤ length above → Ends d rest
    → AreLinked at above k (depths_in d s ++ rest) → Passed at above k d s rest
shape-passed at above k d no_nodes rest long ends links =
    let place : k ≡ k + 0 = omega arith in
    record { spells = tt; behind = above; same = refl; long = long; left = subst (λ (n : ℕ). AreLinked at above n rest) place links }
shape-passed at above k d (node c t) rest long ends links =
    let cut : length (take d above) ≡ d = length-take-le d above long in
    let inner : List ℕ = take d above ++ k ∷ [] in
    let inner_long : length (take d above ++ k ∷ []) ≡ suc d = omega (arith, cut, length-append (take d above) (k ∷ [])) in
    let deep : suc d ≤ length (take d above ++ k ∷ []) = omega (arith, inner_long) in
    let own : AreLinked at (take d above ++ k ∷ []) (suc k) (depths_in (suc d) c ++ (depths_in d t ++ rest)) =
    subst (λ (ds : List ℕ). AreLinked at (take d above ++ k ∷ []) (suc k) ds) (append_assoc (depths_in (suc d) c) (depths_in d t) rest) links.3 in
    let p : Passed at (take d above ++ k ∷ []) (suc k) (suc d) c (depths_in d t ++ rest) =
    shape-passed at (take d above ++ k ∷ []) (suc k) (suc d) c (depths_in d t ++ rest) deep (ends-deeper d t rest ends) own in
    let all_inner : take (suc d) (take d above ++ k ∷ []) ≡ take d above ++ k ∷ [] =
    ap (λ (n : ℕ). take n (take d above ++ k ∷ [])) (sym inner_long) ∙ take-all (take d above ++ k ∷ []) in
    let parent : last_of (take (suc d) (take d above ++ k ∷ [])) ≡ Some k = ap last_of all_inner ∙ last-more (take d above) k in
    let short : take d p.behind ≡ take d (take (suc d) p.behind) = sym (cut-twice d p.behind) in
    let same : take d p.behind ≡ take d above =
    short ∙ ap (take d) (p.same ∙ all_inner) ∙ take-append d (take d above) (k ∷ []) cut in
    let q : Passed at p.behind (suc k + size c) d t rest = shape-passed at p.behind (suc k + size c) d t rest (let l = p.long in omega (arith, l)) ends p.left in
    let place : suc k + size c + size t ≡ k + suc (size c + size t) = omega arith in
    let first : next_at (suc d) (suc k) ((depths_in (suc d) c ++ depths_in d t) ++ rest) ≡ root (suc k) c =
    ap (next_at (suc d) (suc k)) (append_assoc (depths_in (suc d) c) (depths_in d t) rest)
    ∙ next-here (suc d) (suc k) c (depths_in d t ++ rest) (ends-deeper d t rest ends) in
    let next : next_at d (suc k) ((depths_in (suc d) c ++ depths_in d t) ++ rest) ≡ root (suc k + size c) t =
    ap (next_at d (suc k)) (append_assoc (depths_in (suc d) c) (depths_in d t) rest)
    ∙ skips d (suc d) (suc k) c (depths_in d t ++ rest) (omega arith) ∙ next-here d (suc k + size c) t rest ends in
    record {
      spells = (
        links.0,
        links.1 ∙ first,
        links.2 ∙ next,
        subst (λ (o : Option ℕ). NodesSpell at o (suc k) c) parent p.spells,
        subst (λ (xs : List ℕ). NodesSpell at (last_of xs) (suc k + size c) t) same q.spells,
      );
      behind = q.behind;
      same = q.same ∙ same;
      long = q.long;
      left = subst (λ (n : ℕ). AreLinked at q.behind n rest) place q.left;
    }
  where
    cut-twice : (d : ℕ) (xs : List ℕ) → take d (take (suc d) xs) ≡ take d xs
    cut-twice zero [] = refl
    cut-twice zero (x ∷ xs) = refl
    cut-twice (suc d) [] = refl
    cut-twice (suc d) (x ∷ xs) = ap (λ (ys : List ℕ). x ∷ ys) (cut-twice d xs)

-- so do nodes that are linked by all depths of a shape
pub all-spell : (at : ℕ → EntryNode) (s : Shape) → AreLinked at [] 0 (depths_in 0 s) → NodesSpell at None 0 s
all-spell at s links =
    (shape-passed at [] 0 0 s [] (omega arith) tt (subst (λ (ds : List ℕ). AreLinked at [] 0 ds) (sym (append-nil (depths_in 0 s))) links)).spells

-- one shape has these depths
record Same (s t : Shape) (xs ys : List ℕ) : Type 0 where
  shape : s ≡ t
  rest : xs ≡ ys

same-from : (d : ℕ) (s t : Shape) (xs ys : List ℕ) → Ends d xs → Ends d ys → depths_in d s ++ xs ≡ depths_in d t ++ ys → Same s t xs ys
same-from d no_nodes no_nodes xs ys p q e = record { shape = refl; rest = e }
same-from d no_nodes (node c t) [] ys p q e = absurd cc
same-from d no_nodes (node c t) (x ∷ xs) ys p q e =
    let head : x ≡ d = cc in
    absurd (omega (arith, head, p))
same-from d (node c t) no_nodes xs [] p q e = absurd cc
same-from d (node c t) no_nodes xs (y ∷ ys) p q e =
    let head : d ≡ y = cc in
    absurd (omega (arith, head, q))
same-from d (node c t) (node b u) xs ys p q e =
    let tail : (depths_in (suc d) c ++ depths_in d t) ++ xs ≡ (depths_in (suc d) b ++ depths_in d u) ++ ys = cc in
    let parts : depths_in (suc d) c ++ (depths_in d t ++ xs) ≡ depths_in (suc d) b ++ (depths_in d u ++ ys) =
    sym (append_assoc (depths_in (suc d) c) (depths_in d t) xs) ∙ tail ∙ append_assoc (depths_in (suc d) b) (depths_in d u) ys in
    let below : Same c b (depths_in d t ++ xs) (depths_in d u ++ ys) =
    same-from (suc d) c b (depths_in d t ++ xs) (depths_in d u ++ ys) (ends-deeper d t xs p) (ends-deeper d u ys q) parts in
    let behind : Same t u xs ys = same-from d t u xs ys p q below.rest in
    record { shape = ap (λ (x : Shape). node x t) below.shape ∙ ap (node b) behind.shape; rest = behind.rest }

pub same-shape : (s t : Shape) → depths_in 0 s ≡ depths_in 0 t → s ≡ t
same-shape s t e = (same-from 0 s t [] [] tt tt (ap (λ (ds : List ℕ). ds ++ []) e)).shape

pub ruleset shape_laws = (all-spell, preorder-numbers, same-shape)
