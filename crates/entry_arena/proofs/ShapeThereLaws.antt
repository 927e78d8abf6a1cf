-- Each list of depths that begins with 0 and rises by at most one is that of a shape: the lists that are open are built from the last depth to the first.
use Rattle.std.proofs.Common.{◌≡◌, ℕ, zero, suc, ◌+◌, ◌≤◌, List, [], ◌∷◌, ◌++◌, length, refl, ap, ◌∙◌, subst, arith, append_assoc}
use Rattle.entry_arena.specs.Shapes.{Shape, no_nodes, node, size, depths_in}
use Rattle.entry_arena.specs.UnitArenas.{Climb}

-- the innermost of the lists that are open, and the others
abbrev innermost : List Shape → Shape
innermost [] = no_nodes
innermost (s ∷ ss) = s

abbrev outer : List Shape → List Shape
outer [] = []
outer (s ∷ ss) = ss

-- depths of lists that are open, the innermost of a depth
abbrev open_depths : ℕ → List Shape → List ℕ
open_depths zero ss = depths_in 0 (innermost ss)
open_depths (suc d) ss = depths_in (suc d) (innermost ss) ++ open_depths d (outer ss)

-- depths that climb from one are those of open lists
record Opened (b : ℕ) (ds : List ℕ) : Type 0 where
  lists : List Shape
  are : open_depths b lists ≡ ds

none-opened : (b : ℕ) → open_depths b [] ≡ []
none-opened zero = refl
none-opened (suc b) = none-opened b

-- with no node in the innermost
further-opened : (n e : ℕ) (ds : List ℕ) → Opened e ds → Opened (n + e) ds
further-opened zero e ds o =
    let same : e ≡ 0 + e = omega arith in
    subst (λ (b : ℕ). Opened b ds) same o
further-opened (suc n) e ds o =
    let p : Opened (n + e) ds = further-opened n e ds o in
    let same : suc (n + e) ≡ suc n + e = omega arith in
    subst (λ (b : ℕ). Opened b ds) same (record { lists = no_nodes ∷ p.lists; are = p.are })

-- with a node in front, which has what stands deeper below it
node-opened : (e : ℕ) (ds : List ℕ) → Opened (suc e) ds → Opened e (e ∷ ds)
node-opened zero ds o = record {
  lists = node (innermost o.lists) (innermost (outer o.lists)) ∷ [];
  are = ap (λ (xs : List ℕ). 0 ∷ xs) o.are;
}
node-opened (suc e) ds o = record {
  lists = node (innermost o.lists) (innermost (outer o.lists)) ∷ outer (outer o.lists);
  are = ap (λ (xs : List ℕ). suc e ∷ xs)
      (append_assoc (depths_in (suc (suc e)) (innermost o.lists)) (depths_in (suc e) (innermost (outer o.lists))) (open_depths e (outer (outer o.lists))) ∙ o.are);
}

all-opened : (b : ℕ) (ds : List ℕ) → Climb b ds → Opened b ds
all-opened b [] c = record { lists = []; are = none-opened b }
all-opened b (e ∷ es) c = up (sub b e c.0) (node-opened e es (all-opened (suc e) es c.1))
  where
    sub : (b e : ℕ) → e ≤ b → (n : ℕ) × (n + e ≡ b)
    sub b zero le = (b, omega arith)
    sub zero (suc e) le = absurd (omega (arith, le))
    sub (suc b) (suc e) le =
        let p = sub b e (omega (arith, le)) in
        let q = p.1 in
        (p.0, omega (arith, q))

    up : (n : ℕ) × (n + e ≡ b) → Opened e (e ∷ es) → Opened b (e ∷ es)
    up p o = subst (λ (m : ℕ). Opened m (e ∷ es)) p.1 (further-opened p.0 e (e ∷ es) o)

-- the shape of these depths
pub record HasShape (ds : List ℕ) : Type 0 where
  pub shape : Shape
  pub is : depths_in 0 shape ≡ ds

pub shape-there : (ds : List ℕ) → Climb 0 ds → HasShape ds
shape-there ds c =
    let o : Opened 0 ds = all-opened 0 ds c in
    record { shape = innermost o.lists; is = o.are }

-- a shape has as many nodes as depths
pub length-depths : (d : ℕ) (s : Shape) → length (depths_in d s) ≡ size s
length-depths d no_nodes = refl
length-depths d (node c t) =
    let one = length-depths (suc d) c in
    let two = length-depths d t in
    let both = length-append-of (depths_in (suc d) c) (depths_in d t) in
    omega (arith, one, two, both)
  where
    length-append-of : (xs ys : List ℕ) → length (xs ++ ys) ≡ length xs + length ys
    length-append-of [] ys = omega arith
    length-append-of (x ∷ xs) ys =
        let rest = length-append-of xs ys in
        omega (arith, rest)

pub ruleset there_laws = (shape-there, length-depths)
