-- A tree that tells has one plan of a gather, and one end in its place; and where it has an end, nothing else comes.
use Rattle.std.proofs.Common.{◌≡◌, ◌⊎◌, ℕ, ◌<◌, ◌≤◌, Bool, true, false, List, [], ◌∷◌, ◌++◌, length, take, get_or, Some, inl, inr, refl, sym, ap, ◌∙◌, subst, arith}
use Rattle.std.specs.Prelude.{Contains}
use Rattle.std.specs.declared.cmp.Ordering.TheVariants.{Less, Equal}
use Rattle.std.specs.List.{AllByRecursion}
use Rattle.std.specs.List.Sorted.{IsStrictlySortedBy}
use Rattle.std.proofs.lemmas.Bool.{cases_lt}
use Rattle.std.proofs.lemmas.Cmp.{nat_list_cmp_total}
use Rattle.std.proofs.lemmas.List.{get_or-take, get_or_append_left, length-take, length_push, same_from_push}
use Rattle.std.proofs.Math.Seq.{get_or-append_seam}
use Rattle.file_tree.specs.declared.node.Found.{Found}
use Rattle.file_tree.specs.declared.node.Found.TheVariants as found
use Rattle.file_tree.specs.Causes.{AreInOrder, Stood}
use Rattle.file_tree.specs.Trees.{TreeMap, stands_at}
use Rattle.work_texts.specs.declared.plan.PlanData.{PlanData}
use Rattle.work_texts.specs.Rules.{text_limit}
use Rattle.root_paths.specs.Roots.{in_root}
use Rattle.root_paths.specs.NewPaths.{CanBeMade, IsTaken}
use Rattle.root_paths.proofs.PlaceLaws.{compared, own_equal}
use Rattle.src_gather.specs.declared.gather_err.GatherErr.{GatherErr}
use Rattle.src_gather.specs.declared.gather_err.GatherErr.TheVariants as err
use Rattle.src_gather.specs.Errors.{AreSameEnds}
use Rattle.src_gather.specs.Errors.{AreSameEnds as same}
use Rattle.src_gather.specs.Listed.{AreNames, IsFileAt, IsLarge, IsListOf, IsNoFileAt, IsRead, end_path, is_fit, is_no_file, list_path}
use Rattle.src_gather.specs.Gathering.{Gathering, Gathers, IsGathering, IsGatherPlan, Noted, copy_paths, plan_length, plan_of, with_copy}
use Rattle.src_gather.specs.Gathering.{Gathers as gathers, Noted as note}
use Rattle.src_gather.specs.GatherEnds.{ListEnds, NameEnds, NamesEnd, NamingEnds, PlanEnds}
use Rattle.src_gather.specs.GatherEnds.{ListEnds as list_end, NameEnds as name_end, NamesEnd as names_end, NamingEnds as naming_end, PlanEnds as plan_end}
use Rattle.src_gather.proofs.BeforeLaws.{none-limits}
use Rattle.src_gather.proofs.PieceLaws.{cases, here, never, there}

-- ### Lists in order with the same members are one

never-less : (x : List ℕ) → compared x x ≡ Less → ⊥
never-less x e = apart (sym e ∙ own_equal x)
  where
    apart : Less ≡ Equal → ⊥
    apart f = cc

less-in : (x : List ℕ) (xs : List (List ℕ)) (q : List ℕ) → AllByRecursion (λ z. compared x z ≡ Less) xs → Contains xs q → compared x q ≡ Less
less-in x [] q a c = absurd (never q c)
less-in x (y ∷ ys) q a c = by (cases y q ys c) (λ d. less-in x ys q a.1 d)
  where
    by : (y ≡ q) ⊎ Contains ys q → (Contains ys q → compared x q ≡ Less) → compared x q ≡ Less
    by (inl e) later = subst (λ (z : List ℕ). compared x z ≡ Less) e a.0
    by (inr d) later = later d

heads-same : (x y : List ℕ) (xs ys : List (List ℕ)) → AllByRecursion (λ z. compared x z ≡ Less) xs → AllByRecursion (λ z. compared y z ≡ Less) ys → Contains (y ∷ ys) x → Contains (x ∷ xs) y → x ≡ y
heads-same x y xs ys a b c d = by (cases y x ys c) (cases x y xs d)
  where
    by : (y ≡ x) ⊎ Contains ys x → (x ≡ y) ⊎ Contains xs y → x ≡ y
    by (inl e) f = sym e
    by (inr m) (inl e) = e
    by (inr m) (inr n) = absurd (never-less x (nat_list_cmp_total.trans x y x (less-in x xs y a n) (less-in y ys x b m)))

rest-in : (x y : List ℕ) (xs ys : List (List ℕ)) (q : List ℕ) → x ≡ y → AllByRecursion (λ z. compared x z ≡ Less) xs → Contains xs q → Contains (y ∷ ys) q → Contains ys q
rest-in x y xs ys q e a c d = by (cases y q ys d)
  where
    by : (y ≡ q) ⊎ Contains ys q → Contains ys q
    by (inl f) = absurd (never-less x (subst (λ (z : List ℕ). compared x z ≡ Less) (sym (e ∙ f)) (less-in x xs q a c)))
    by (inr m) = m

pub order-same : (xs ys : List (List ℕ)) → AreInOrder xs → AreInOrder ys → ((q : List ℕ) → Contains xs q → Contains ys q) → ((q : List ℕ) → Contains ys q → Contains xs q) → xs ≡ ys
unfolding IsStrictlySortedBy
order-same [] [] s r f g = refl
order-same [] (y ∷ ys) s r f g = absurd (never y (g y (here y ys)))
order-same (x ∷ xs) [] s r f g = absurd (never x (f x (here x xs)))
order-same (x ∷ xs) (y ∷ ys) s r f g =
    let head : x ≡ y = heads-same x y xs ys s.0 r.0 (f x (here x xs)) (g y (here y ys)) in
    let rest : xs ≡ ys = order-same xs ys s.1 r.1 (λ q c. rest-in x y xs ys q head s.0 c (f q (there x q xs c))) (λ q c. rest-in y x ys xs q (sym head) r.0 c (g q (there y q ys c))) in
    ap (λ (z : List ℕ). z ∷ xs) head ∙ ap (λ (zs : List (List ℕ)). y ∷ zs) rest

pub names-one : (bytes : List ℕ) (xs ys : List (List ℕ)) → AreNames bytes xs → AreNames bytes ys → xs ≡ ys
names-one bytes xs ys a b =
    order-same xs ys a.in_order b.in_order (λ q c. b.all q (a.listed q c) (a.some q c)) (λ q c. a.all q (b.listed q c) (b.some q c))

-- ### What stands at a path is one thing

both-never : (b : Bool) → b ≡ true → b ≡ false → ⊥
both-never true e f = cc
both-never false e f = cc

file-bytes : (a b : List ℕ) (m n : ℕ) → found.File a m ≡ found.File b n → a ≡ b
file-bytes a b m n e = cc

large-size : (m n : ℕ) → found.TooLarge m ≡ found.TooLarge n → m ≡ n
large-size m n e = cc

file-large : (a : List ℕ) (m n : ℕ) → found.File a m ≡ found.TooLarge n → ⊥
file-large a m n e = cc

module _ (t : TreeMap) where
  told : (path : List ℕ) (limit : ℕ) (what : Found) → Stood (Some t) path limit what → stands_at t path limit ≡ what
  told path limit what stood = stood.is t refl

  read-one : (path a b : List ℕ) → IsRead (Some t) path a → IsRead (Some t) path b → a ≡ b
  read-one path a b x y = file-bytes a b x.mode y.mode (sym (told path text_limit _ x.stood) ∙ told path text_limit _ y.stood)

  large-one : (path : List ℕ) (m n : ℕ) → IsLarge (Some t) path m → IsLarge (Some t) path n → m ≡ n
  large-one path m n x y = large-size m n (sym (told path text_limit _ x.stood) ∙ told path text_limit _ y.stood)

  read-large : (path a : List ℕ) (n : ℕ) → IsRead (Some t) path a → IsLarge (Some t) path n → ⊥
  read-large path a n x y = file-large a x.mode n (sym (told path text_limit _ x.stood) ∙ told path text_limit _ y.stood)

  -- a file stands there or not
  file-not : (path : List ℕ) → IsFileAt (Some t) path → IsNoFileAt (Some t) path → ⊥
  file-not path x y =
      both-never (is_no_file (stands_at t path y.limit)) (ap is_no_file (told path y.limit y.what y.stood) ∙ y.is)
      (none-limits t path y.limit x.limit ∙ ap is_no_file (told path x.limit x.what x.stood) ∙ x.is)

  read-file : (path bytes : List ℕ) → IsRead (Some t) path bytes → IsFileAt (Some t) path
  read-file path bytes x = record { limit = text_limit; what = found.File bytes x.mode; stood = x.stood; is = refl }

  large-file : (path : List ℕ) (size : ℕ) → IsLarge (Some t) path size → IsFileAt (Some t) path
  large-file path size x = record { limit = text_limit; what = found.TooLarge size; stood = x.stood; is = refl }

  -- ### What names come to is one thing

  module _ (root from dest : List ℕ) where
    noted-one : (name : List ℕ) (g h k : Gathering) → Noted (Some t) root from dest name g h → Noted (Some t) root from dest name g k → h ≡ k
    noted-one name g h k (note.unfit unfit) (note.unfit also) = refl
    noted-one name g h k (note.unfit unfit) (note.no_file fit short none) = absurd (both-never (is_fit name) fit unfit)
    noted-one name g h k (note.unfit unfit) (note.gathered fit short read) = absurd (both-never (is_fit name) fit unfit)
    noted-one name g h k (note.no_file fit short none) (note.unfit unfit) = absurd (both-never (is_fit name) fit unfit)
    noted-one name g h k (note.no_file fit short none) (note.no_file fit2 short2 none2) = refl
    noted-one name g h k (note.no_file fit short none) (note.gathered {bytes} fit2 short2 read) = absurd (file-not (in_root from name) (read-file (in_root from name) bytes read) none)
    noted-one name g h k (note.gathered fit short read) (note.unfit unfit) = absurd (both-never (is_fit name) fit unfit)
    noted-one name g h k (note.gathered {bytes} fit short read) (note.no_file fit2 short2 none) = absurd (file-not (in_root from name) (read-file (in_root from name) bytes read) none)
    noted-one name g h k (note.gathered {bytes = a} fit short read) (note.gathered {bytes = b} fit2 short2 read2) = ap (with_copy g name) (read-one (in_root from name) a b read read2)

    never-more : (names : List (List ℕ)) (name : List ℕ) → [] ≡ names ++ name ∷ [] → ⊥
    never-more names name e =
        let size : 0 ≡ length (names ++ name ∷ []) = ap (λ (ns : List (List ℕ)). length ns) e in
        omega (arith, size, length_push names name)

    gathers-by : (ms ns : List (List ℕ)) (g h : Gathering) → Gathers (Some t) root from dest ms g → Gathers (Some t) root from dest ns h → ms ≡ ns → g ≡ h
    gathers-by ms ns g h gathers.none gathers.none e = refl
    gathers-by ms ns g h gathers.none (gathers.more {names = ys} {name = b} gs y) e = absurd (never-more ys b e)
    gathers-by ms ns g h (gathers.more {names = xs} {name = a} gs x) gathers.none e = absurd (never-more xs a (sym e))
    gathers-by ms ns g h (gathers.more {names = xs} {name = a} {g = g0} gs x) (gathers.more {names = ys} {name = b} {g = h0} hs y) e =
        let same : (xs ≡ ys) × (a ≡ b) = same_from_push xs ys a b e in
        noted-one a g0 g h x
        (subst (λ (k : Gathering). Noted (Some t) root from dest a k h) (sym (gathers-by xs ys g0 h0 gs hs same.0)) (subst (λ (n : List ℕ). Noted (Some t) root from dest n h0 h) (sym same.1) y))

    list-one : (xs ys : List (List ℕ)) → IsListOf (Some t) root xs → IsListOf (Some t) root ys → xs ≡ ys
    list-one xs ys x y =
        names-one y.bytes xs ys (subst (λ (b : List ℕ). AreNames b xs) (read-one (list_path root) x.bytes y.bytes x.text.list y.text.list) x.are) y.are

    -- a root has one gathering
    pub gathering-one : (g h : Gathering) → IsGathering (Some t) root from dest g → IsGathering (Some t) root from dest h → g ≡ h
    gathering-one g h x y = gathers-by x.names y.names g h x.gathers y.gathers (list-one x.names y.names x.list y.list)

    -- ### Ends

    two-names : (name : List ℕ) (e f : GatherErr) → NameEnds (Some t) root from dest name e → NameEnds (Some t) root from dest name f → AreSameEnds e f
    two-names name e f (name_end.long_source fit l) (name_end.long_source fit2 l2) = same.same_paths
    two-names name e f (name_end.long_source fit l) (name_end.long_copy fit2 l2) = same.same_paths
    two-names name e f (name_end.long_source fit l) (name_end.too_large fit2 short large) = absurd (omega (arith, l, short.source))
    two-names name e f (name_end.long_copy fit l) (name_end.long_source fit2 l2) = same.same_paths
    two-names name e f (name_end.long_copy fit l) (name_end.long_copy fit2 l2) = same.same_paths
    two-names name e f (name_end.long_copy fit l) (name_end.too_large fit2 short large) = absurd (omega (arith, l, short.copy))
    two-names name e f (name_end.too_large fit short large) (name_end.long_source fit2 l2) = absurd (omega (arith, l2, short.source))
    two-names name e f (name_end.too_large fit short large) (name_end.long_copy fit2 l2) = absurd (omega (arith, l2, short.copy))
    two-names name e f (name_end.too_large {size = m} fit short large) (name_end.too_large {size = n} fit2 short2 large2) =
        subst (λ (k : ℕ). AreSameEnds (err.FileTooLarge (in_root from name) m) (err.FileTooLarge (in_root from name) k)) (large-one (in_root from name) m n large large2) same.same_file

    -- a name that is passed ends nothing
    name-passed : (name : List ℕ) (g h : Gathering) (e : GatherErr) → Noted (Some t) root from dest name g h → NameEnds (Some t) root from dest name e → ⊥
    name-passed name g h e (note.unfit unfit) (name_end.long_source fit l) = both-never (is_fit name) fit unfit
    name-passed name g h e (note.unfit unfit) (name_end.long_copy fit l) = both-never (is_fit name) fit unfit
    name-passed name g h e (note.unfit unfit) (name_end.too_large fit short large) = both-never (is_fit name) fit unfit
    name-passed name g h e (note.no_file fit short none) (name_end.long_source fit2 l) = absurd (omega (arith, l, short.source))
    name-passed name g h e (note.no_file fit short none) (name_end.long_copy fit2 l) = absurd (omega (arith, l, short.copy))
    name-passed name g h e (note.no_file fit short none) (name_end.too_large {size} fit2 short2 large) = file-not (in_root from name) (large-file (in_root from name) size large) none
    name-passed name g h e (note.gathered fit short read) (name_end.long_source fit2 l) = absurd (omega (arith, l, short.source))
    name-passed name g h e (note.gathered fit short read) (name_end.long_copy fit2 l) = absurd (omega (arith, l, short.copy))
    name-passed name g h e (note.gathered {bytes} fit short read) (name_end.too_large {size} fit2 short2 large) = read-large (in_root from name) bytes size read large

    names-passed : (names : List (List ℕ)) (g : Gathering) (n : ℕ) (e : GatherErr) → Gathers (Some t) root from dest names g → n < length names
        → NameEnds (Some t) root from dest (get_or names n []) e → ⊥
    names-passed names g n e gathers.none l ended = absurd (omega (arith, l))
    names-passed names h n e (gathers.more {names = ns} {name = a} {g = g0} gs noted) l ended =
        elim (cases_lt n (length ns)) [
          | inl below ↦ names-passed ns g0 n e gs below (subst (λ (q : List ℕ). NameEnds (Some t) root from dest q e) (get_or_append_left ns (a ∷ []) [] n below) ended)
          | inr above ↦ name-passed a g0 h e noted (subst (λ (q : List ℕ). NameEnds (Some t) root from dest q e) (last-at n (omega (arith, above, l, length_push ns a))) ended)
        ]
      where
        last-at : (n : ℕ) → n ≡ length ns → get_or (ns ++ a ∷ []) n [] ≡ a
        last-at n is = ap (λ (k : ℕ). get_or (ns ++ a ∷ []) k []) is ∙ get_or-append_seam ns a [] []

    passed-before : (names : List (List ℕ)) (m n : ℕ) (g : Gathering) (e : GatherErr) → Gathers (Some t) root from dest (take m names) g → n < m → m < length names
        → NameEnds (Some t) root from dest (get_or names n []) e → ⊥
    passed-before names m n g e gs l within ended =
        names-passed (take m names) g n e gs (omega (arith, l, within, length-take m names))
        (subst (λ (q : List ℕ). NameEnds (Some t) root from dest q e) (sym (get_or-take m names n [] l)) ended)

    two-at : (names : List (List ℕ)) (m n : ℕ) (g h : Gathering) (e f : GatherErr) → Gathers (Some t) root from dest (take n names) g → Gathers (Some t) root from dest (take m names) h
        → n < length names → m < length names → NameEnds (Some t) root from dest (get_or names n []) e → NameEnds (Some t) root from dest (get_or names m []) f → AreSameEnds e f
    two-at names m n g h e f gs hs l k x y =
        elim (cases_lt n m) [
          | inl below ↦ absurd (passed-before names m n h e hs below k x)
          | inr above ↦ elim (cases_lt m n) [
            | inl under ↦ absurd (passed-before names n m g f gs under l y)
            | inr over ↦
                let at : m ≡ n = omega (arith, above, over) in
                two-names (get_or names n []) e f x (subst (λ (k : ℕ). NameEnds (Some t) root from dest (get_or names k []) f) at y)
          ]
        ]

    two-ends : (xs ys : List (List ℕ)) (e f : GatherErr) → xs ≡ ys → NamesEnd (Some t) root from dest xs e → NamesEnd (Some t) root from dest ys f → AreSameEnds e f
    two-ends xs ys e f at (names_end.at_name {g} n l gs x) (names_end.at_name {g = h} m k hs y) =
        two-at ys m n g h e f (subst (λ (zs : List (List ℕ)). Gathers (Some t) root from dest (take n zs) g) at gs) hs (subst (λ (zs : List (List ℕ)). n < length zs) at l) k
        (subst (λ (zs : List (List ℕ)). NameEnds (Some t) root from dest (get_or zs n []) e) at x) y

    -- a list that ends a gather isn't read by another
    list-not : (names : List (List ℕ)) (e : GatherErr) → IsListOf (Some t) root names → ListEnds (Some t) root e → ⊥
    list-not names e is (list_end.no_end none) = file-not (end_path root) is.text.done none
    list-not names e is (list_end.no_list there none) = file-not (list_path root) (read-file (list_path root) is.bytes is.text.list) none
    list-not names e is (list_end.large_list {size} there large) = read-large (list_path root) is.bytes size is.text.list large

    two-lists : (e f : GatherErr) → ListEnds (Some t) root e → ListEnds (Some t) root f → AreSameEnds e f
    two-lists e f (list_end.no_end none) (list_end.no_end none2) = same.same_absent
    two-lists e f (list_end.no_end none) (list_end.no_list there none2) = absurd (file-not (end_path root) there none)
    two-lists e f (list_end.no_end none) (list_end.large_list there large) = absurd (file-not (end_path root) there none)
    two-lists e f (list_end.no_list there none) (list_end.no_end none2) = absurd (file-not (end_path root) there none2)
    two-lists e f (list_end.no_list there none) (list_end.no_list there2 none2) = same.same_absent
    two-lists e f (list_end.no_list there none) (list_end.large_list {size} there2 large) = absurd (file-not (list_path root) (large-file (list_path root) size large) none)
    two-lists e f (list_end.large_list there large) (list_end.no_end none) = absurd (file-not (end_path root) there none)
    two-lists e f (list_end.large_list {size} there large) (list_end.no_list there2 none) = absurd (file-not (list_path root) (large-file (list_path root) size large) none)
    two-lists e f (list_end.large_list {size = m} there large) (list_end.large_list {size = n} there2 large2) =
        subst (λ (k : ℕ). AreSameEnds (err.FileTooLarge (list_path root) m) (err.FileTooLarge (list_path root) k)) (large-one (list_path root) m n large large2) same.same_file

    two-namings : (e f : GatherErr) → NamingEnds (Some t) root from dest e → NamingEnds (Some t) root from dest f → AreSameEnds e f
    two-namings e f (naming_end.listing x) (naming_end.listing y) = two-lists e f x y
    two-namings e f (naming_end.listing x) (naming_end.naming {names = ys} is y) = absurd (list-not ys e is x)
    two-namings e f (naming_end.naming {names = xs} is x) (naming_end.listing y) = absurd (list-not xs f is y)
    two-namings e f (naming_end.naming {names = xs} is x) (naming_end.naming {names = ys} also y) = two-ends xs ys e f (list-one xs ys is also) x y

    -- a gathering isn't ended by its list
    gathering-not : (g : Gathering) (e : GatherErr) → IsGathering (Some t) root from dest g → NamingEnds (Some t) root from dest e → ⊥
    gathering-not g e is (naming_end.listing x) = list-not is.names e is.list x
    gathering-not g e is (naming_end.naming {names = xs} also (names_end.at_name n l gs x)) =
        names-passed xs g n e (subst (λ (ns : List (List ℕ)). Gathers (Some t) root from dest ns g) (list-one is.names xs is.list also) is.gathers) l x

    module _ (present : List (List ℕ)) (order : AreInOrder present) where
      -- copies that can be made for one gathering can be made for the other, which is the same
      taken-not : (g h : Gathering) (path : List ℕ) → IsGathering (Some t) root from dest g → IsGathering (Some t) root from dest h → IsTaken present (copy_paths root dest g.jobs) path
          → CanBeMade present (copy_paths root dest h.jobs) → ⊥
      taken-not g h path x y taken can =
          (can.free order).free path (subst (λ (k : Gathering). IsTaken present (copy_paths root dest k.jobs) path) (gathering-one g h x y) taken)

      -- two ends of a root are one
      pub plan-ends-one : (e f : GatherErr) → PlanEnds (Some t) root from dest present e → PlanEnds (Some t) root from dest present f → AreSameEnds e f
      plan-ends-one e f (plan_end.naming x) (plan_end.naming y) = two-namings e f x y
      plan-ends-one e f (plan_end.naming x) (plan_end.taken {g} is taken) = absurd (gathering-not g e is x)
      plan-ends-one e f (plan_end.naming x) (plan_end.at_text {g} is can long) = absurd (gathering-not g e is x)
      plan-ends-one e f (plan_end.taken {g} is taken) (plan_end.naming y) = absurd (gathering-not g f is y)
      plan-ends-one e f (plan_end.taken is taken) (plan_end.taken also taken2) = same.same_taken
      plan-ends-one e f (plan_end.taken {g} {path} is taken) (plan_end.at_text {g = h} also can long) = absurd (taken-not g h path is also taken can)
      plan-ends-one e f (plan_end.at_text {g} is can long) (plan_end.naming y) = absurd (gathering-not g f is y)
      plan-ends-one e f (plan_end.at_text {g = h} is can long) (plan_end.taken {g} {path} also taken) = absurd (taken-not g h path also is taken can)
      plan-ends-one e f (plan_end.at_text is can long) (plan_end.at_text also can2 long2) = same.same_text

      -- and beside a plan there is none
      pub plan-not : (p : PlanData) (e : GatherErr) → IsGatherPlan (Some t) root from dest present p → PlanEnds (Some t) root from dest present e → ⊥
      plan-not p e is (plan_end.naming x) = gathering-not is.gathering e is.gathers x
      plan-not p e is (plan_end.taken {g} {path} also taken) = taken-not g is.gathering path also is.gathers taken is.can
      plan-not p e is (plan_end.at_text {g} also can long) =
          absurd (omega (arith, long, subst (λ (q : PlanData). plan_length q ≤ text_limit) (is.is ∙ ap (plan_of from dest) (gathering-one is.gathering g is.gathers also)) is.within))
