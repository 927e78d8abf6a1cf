-- The jobs of what was gathered rise in byte order, as the names of the list do.
use Rattle.std.proofs.Common.{◌≡◌, ℕ, Bool, true, ◌&&◌, List, [], ◌∷◌, ◌++◌, Option, Some, None, refl, sym, ap, ◌∙◌, subst}
use Rattle.std.specs.declared.cmp.Ordering.TheVariants.{Less}
use Rattle.std.specs.List.{AllByRecursion}
use Rattle.std.specs.List.Sorted.{IsStrictlySortedBy}
use Rattle.std.specs.Ordering.{is_lt}
use Rattle.std.proofs.lemmas.List.{map-append}
use Rattle.file_tree.specs.Causes.{AreInOrder}
use Rattle.file_tree.specs.Trees.{TreeMap}
use Rattle.work_texts.specs.declared.plan.JobLine.{JobLine}
use Rattle.work_texts.specs.Rules.{rise_after}
use Rattle.root_paths.proofs.PlaceLaws.{compared}
use Rattle.root_plan.specs.Tallies.{edited_job}
use Rattle.src_gather.specs.Gathering.{Gathering, Noted, Gathers, names_of}
use Rattle.src_gather.specs.Gathering.{Noted as note, Gathers as gathers}

-- ### A list with one more at its end

all-front : (P : List ℕ → Type 0) (xs : List (List ℕ)) (y : List ℕ) → AllByRecursion P (xs ++ y ∷ []) → AllByRecursion P xs
all-front P [] y a = tt
all-front P (x ∷ xs) y a = (a.0, all-front P xs y a.1)

all-last : (P : List ℕ → Type 0) (xs : List (List ℕ)) (y : List ℕ) → AllByRecursion P (xs ++ y ∷ []) → P y
all-last P [] y a = a.0
all-last P (x ∷ xs) y a = all-last P xs y a.1

all-push : (P : List ℕ → Type 0) (xs : List (List ℕ)) (y : List ℕ) → AllByRecursion P xs → P y → AllByRecursion P (xs ++ y ∷ [])
all-push P [] y a p = (p, tt)
all-push P (x ∷ xs) y a p = (a.0, all-push P xs y a.1 p)

abbrev IsBefore : List ℕ → List ℕ → Type 0
IsBefore y x = compared x y ≡ Less

order-front : (xs : List (List ℕ)) (y : List ℕ) → AreInOrder (xs ++ y ∷ []) → AreInOrder xs
unfolding IsStrictlySortedBy
order-front [] y s = tt
order-front (x ∷ xs) y s = (all-front (λ z. compared x z ≡ Less) xs y s.0, order-front xs y s.1)

order-last : (xs : List (List ℕ)) (y : List ℕ) → AreInOrder (xs ++ y ∷ []) → AllByRecursion (IsBefore y) xs
unfolding IsStrictlySortedBy
order-last [] y s = tt
order-last (x ∷ xs) y s = (all-last (λ z. compared x z ≡ Less) xs y s.0, order-last xs y s.1)

order-push : (xs : List (List ℕ)) (y : List ℕ) → AreInOrder xs → AllByRecursion (IsBefore y) xs → AreInOrder (xs ++ y ∷ [])
unfolding IsStrictlySortedBy
order-push [] y s a = (tt, tt)
order-push (x ∷ xs) y s a = (all-push (λ z. compared x z ≡ Less) xs y s.0 a.0, order-push xs y s.1 a.1)

-- ### The names of the jobs are some of the list's

names-push : (jobs : List JobLine) (name bytes : List ℕ) → names_of (jobs ++ edited_job name bytes ∷ []) ≡ names_of jobs ++ name ∷ []
names-push jobs name bytes = map-append (λ (job : JobLine). job.path) jobs (edited_job name bytes ∷ [])

module _ (old : Option TreeMap) (root from dest : List ℕ) where
  noted-all : (P : List ℕ → Type 0) (name : List ℕ) (g h : Gathering) → Noted old root from dest name g h → AllByRecursion P (names_of g.jobs) → P name → AllByRecursion P (names_of h.jobs)
  noted-all P name g h (note.unfit unfit) a p = a
  noted-all P name g h (note.no_file fit short none) a p = a
  noted-all P name g h (note.gathered {bytes} fit short read) a p = subst (AllByRecursion P) (sym (names-push g.jobs name bytes)) (all-push P (names_of g.jobs) name a p)

  -- what holds of each name of the list holds of each job's
  pub jobs-all : (P : List ℕ → Type 0) (names : List (List ℕ)) (g : Gathering) → Gathers old root from dest names g → AllByRecursion P names → AllByRecursion P (names_of g.jobs)
  jobs-all P names g gathers.none a = tt
  jobs-all P names h (gathers.more {names = ns} {name} {g} gs noted) a = noted-all P name g h noted (jobs-all P ns g gs (all-front P ns name a)) (all-last P ns name a)

  noted-order : (name : List ℕ) (g h : Gathering) → Noted old root from dest name g h → AreInOrder (names_of g.jobs) → AllByRecursion (IsBefore name) (names_of g.jobs) → AreInOrder (names_of h.jobs)
  noted-order name g h (note.unfit unfit) s a = s
  noted-order name g h (note.no_file fit short none) s a = s
  noted-order name g h (note.gathered {bytes} fit short read) s a = subst AreInOrder (sym (names-push g.jobs name bytes)) (order-push (names_of g.jobs) name s a)

  none-order : AreInOrder []
  unfolding IsStrictlySortedBy
  none-order = tt

  pub jobs-order : (names : List (List ℕ)) (g : Gathering) → Gathers old root from dest names g → AreInOrder names → AreInOrder (names_of g.jobs)
  jobs-order names g gathers.none s = none-order
  jobs-order names h (gathers.more {names = ns} {name} {g} gs noted) s =
      noted-order name g h noted (jobs-order ns g gs (order-front ns name s)) (jobs-all (IsBefore name) ns g gs (order-last ns name s))

-- ### As the texts say it

abbrev AreAbove : Option (List ℕ) → List (List ℕ) → Type 0
AreAbove None names = Unit {0}
AreAbove (Some last) names = AllByRecursion (λ name. compared last name ≡ Less) names

rises : (o : Option (List ℕ)) (names : List (List ℕ)) → AreAbove o names → AreInOrder names → rise_after o names ≡ true
unfolding IsStrictlySortedBy
rises o [] above order = refl
rises None (x ∷ xs) above order = rises (Some x) xs order.0 order.1
rises (Some last) (x ∷ xs) above order = ap (λ (b : Bool). b && rise_after (Some x) xs) (ap is_lt above.0) ∙ rises (Some x) xs order.0 order.1

pub order-rises : (names : List (List ℕ)) → AreInOrder names → rise_after None names ≡ true
order-rises names order = rises None names tt order
