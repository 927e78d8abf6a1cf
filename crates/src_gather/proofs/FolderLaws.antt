-- Paths below two folders, neither of which lies below the other, differ: so no copy is a source, and no source is in the work folder.
use Rattle.std.proofs.Common.{◌≡◌, ℕ, Bool, true, false, ◌&&◌, ◌||◌, List, [], ◌∷◌, ◌++◌, length, drop, nat_eq, refl, sym, ap, ◌∙◌, subst, append_assoc}
use Rattle.std.specs.Prelude.{IsTrue, ◌==◌, codes, slice_index}
use Rattle.std.specs.List.{starts_with}
use Rattle.std.proofs.lemmas.Bool.{eq-eqb, eqb-true}
use Rattle.dw_base.specs.Paths.{lies_under, slash}
use Rattle.dw_base.proofs.PathLaws.{is_prefix-parts}
use Rattle.file_tree.specs.Trees.{is_below}
use Rattle.journal_core.specs.Names.{Name}
use Rattle.work_texts.specs.declared.plan.JobLine.{JobLine}
use Rattle.work_journal.specs.Planned.{AreSourcesApart}
use Rattle.work_journal.specs.Work.{name_text, work_path}
use Rattle.root_paths.specs.Roots.{has_slash, in_root}
use Rattle.root_paths.proofs.SearchLaws.{same_begins}
use Rattle.root_plan.specs.Makers.{job_at}
use Rattle.root_run.proofs.KeysLaws.{front-same, in-root-below}
use Rattle.src_gather.specs.Asked.{AreFoldersApart, IsAsked, IsDest}
use Rattle.src_gather.specs.Listed.{copy_folder}
use Rattle.src_gather.specs.Makers.{copy_view, gather_folder}

-- ### Two folders of one path

-- one is the other, or one lies below the other
pub data AreNested (a b : List ℕ) : Type 0 where
  one : a ≡ b → AreNested a b
  first_below : is_below a b ≡ true → AreNested a b
  other_below : is_below b a ≡ true → AreNested a b

begins-more : (x : ℕ) (front path : List ℕ) → starts_with nat_eq path front ≡ true → starts_with nat_eq (x ∷ path) (x ∷ front) ≡ true
begins-more x front path e = rw (eq-eqb x x refl) e

nested-more : (x : ℕ) (a b : List ℕ) → AreNested a b → AreNested (x ∷ a) (x ∷ b)
nested-more x a b (one e) = one (ap (λ (l : List ℕ). x ∷ l) e)
nested-more x a b (first_below e) = first_below (begins-more x (a ++ 47 ∷ []) b e)
nested-more x a b (other_below e) = other_below (begins-more x (b ++ 47 ∷ []) a e)

slash-front : (y : ℕ) (ys : List ℕ) → y ≡ 47 → is_below [] (y ∷ ys) ≡ true
slash-front y ys e = rw e refl

first-of : (x y : ℕ) (xs ys : List ℕ) → x ∷ xs ≡ y ∷ ys → x ≡ y
first-of x y xs ys e = cc

rest-of : (x y : ℕ) (xs ys : List ℕ) → x ∷ xs ≡ y ∷ ys → xs ≡ ys
rest-of x y xs ys e = cc

pub are-nested : (a b p q : List ℕ) → in_root a p ≡ in_root b q → AreNested a b
are-nested [] [] p q e = one refl
are-nested [] (y ∷ ys) p q e = first_below (slash-front y ys (sym (first-of 47 y p (in_root ys q) e)))
are-nested (x ∷ xs) [] p q e = other_below (slash-front x xs (first-of x 47 (in_root xs p) q e))
are-nested (x ∷ xs) (y ∷ ys) p q e =
    subst (λ (z : ℕ). AreNested (x ∷ xs) (z ∷ ys)) (first-of x y (in_root xs p) (in_root ys q) e)
    (nested-more x xs ys (are-nested xs ys p q (rest-of x y (in_root xs p) (in_root ys q) e)))

never : (b : Bool) → b ≡ true → b ≡ false → ⊥
never true e f = cc
never false e f = cc

nested-never : (root from : List ℕ) → AreFoldersApart root from → AreNested from root → ⊥
nested-never root from apart (one e) = apart.differ (sym e)
nested-never root from apart (first_below e) = never (is_below from root) e apart.not_above
nested-never root from apart (other_below e) = never (is_below root from) e apart.not_below

-- a path below the folder of sources is none below the root
pub paths-apart : (root from p q : List ℕ) → AreFoldersApart root from → in_root from p ≡ in_root root q → ⊥
paths-apart root from p q apart e = nested-never root from apart (are-nested from root p q e)

-- ### The folder of the copies

-- a word that begins with a slash is that slash and the rest
pub slash-by : (word : List ℕ) → starts_with nat_eq word (slash ∷ []) ≡ true → word ≡ 47 ∷ drop 1 word
slash-by [] e = cc
slash-by (b ∷ bs) e = ap (λ (x : ℕ). x ∷ bs) (sym (eqb-true 47 b (front-of (47 == b) (starts_with nat_eq bs []) e)))
  where
    front-of : (a r : Bool) → (a && r) ≡ true → a ≡ true
    front-of true r e = refl
    front-of false r e = cc

dest-slash : (dest : List ℕ) → IsDest dest → dest ≡ 47 ∷ drop 1 dest
dest-slash dest is = slash-by dest (is_prefix-parts dest is.prefix).begins

-- a copy lies below the root
pub copy-in : (root dest path : List ℕ) → IsDest dest → in_root (copy_folder root dest) path ≡ in_root root (drop 1 dest ++ 47 ∷ path)
copy-in root dest path is = append_assoc root dest (47 ∷ path) ∙ ap (λ (d : List ℕ). root ++ (d ++ 47 ∷ path)) (dest-slash dest is)

-- and so do the names of the work folder
pub work-in : (root : List ℕ) (n : Name) → work_path (gather_folder root) n ≡ in_root root (codes ".dbgsrc" ++ 47 ∷ name_text n)
unfolding gather_folder work_path
work-in root n = append_assoc root (47 ∷ codes ".dbgsrc") (47 ∷ name_text n)

pub copy-below : (root dest path : List ℕ) → IsDest dest → is_below root (in_root (copy_folder root dest) path) ≡ true
copy-below root dest path is = ap (is_below root) (copy-in root dest path is) ∙ in-root-below root (drop 1 dest ++ 47 ∷ path)

-- a destination that a path begins with, as it does with a name and a slash, is this name, or begins with it and a slash
data Fronted (name d : List ℕ) : Type 0 where
  whole : d ≡ name → Fronted name d
  more : (rest : List ℕ) → d ≡ name ++ 47 ∷ rest → Fronted name d

both-of : (a r : Bool) → (a && r) ≡ true → (a ≡ true) × (r ≡ true)
both-of true r e = (refl, e)
both-of false r e = cc

or-none : (a r : Bool) → (a || r) ≡ false → (a ≡ false) × (r ≡ false)
or-none true r e = cc
or-none false r e = (refl, e)

fronted-more : (c x : ℕ) (cs xs : List ℕ) → c ≡ x → Fronted cs xs → Fronted (c ∷ cs) (x ∷ xs)
fronted-more c x cs xs same (whole e) = whole (ap (λ (y : ℕ). y ∷ xs) (sym same) ∙ ap (λ (l : List ℕ). c ∷ l) e)
fronted-more c x cs xs same (more rest e) = more rest (ap (λ (y : ℕ). y ∷ xs) (sym same) ∙ ap (λ (l : List ℕ). c ∷ l) e)

fronted : (name d path : List ℕ) → has_slash name ≡ false → starts_with nat_eq (d ++ 47 ∷ path) (name ++ 47 ∷ []) ≡ true → Fronted name d
fronted [] [] path bare e = whole refl
fronted [] (x ∷ xs) path bare e = more xs (ap (λ (y : ℕ). y ∷ xs) (sym (eqb-true 47 x (both-of (47 == x) (starts_with nat_eq (xs ++ 47 ∷ path) []) e).0)))
fronted (c ∷ cs) [] path bare e =
    absurd (never (c == 47) (both-of (c == 47) (starts_with nat_eq path (cs ++ 47 ∷ [])) e).0 (or-none (c == 47) (has_slash cs) bare).0)
fronted (c ∷ cs) (x ∷ xs) path bare e =
    let p = both-of (c == x) (starts_with nat_eq (xs ++ 47 ∷ path) (cs ++ 47 ∷ [])) e in
    fronted-more c x cs xs (eqb-true c x p.0) (fronted cs xs path (or-none (c == 47) (has_slash cs) bare).1 p.1)

slash-at : (name rest : List ℕ) → slice_index (name ++ 47 ∷ rest) (length name) ≡ 47
slash-at [] rest = refl
slash-at (c ∷ cs) rest = slash-at cs rest

or-first : (a b c : Bool) → a ≡ true → b ≡ true → (a && (b || c)) ≡ true
or-first true true c e f = refl
or-first true false c e f = cc
or-first false b c e f = cc

or-second : (a b c : Bool) → a ≡ true → c ≡ true → (a && (b || c)) ≡ true
or-second true true c e f = refl
or-second true false c e f = f
or-second false b c e f = cc

begins-with : (name rest : List ℕ) → starts_with nat_eq (name ++ rest) name ≡ true
begins-with [] rest = refl
begins-with (c ∷ cs) rest = rw (eq-eqb c c refl) (begins-with cs rest)

lies-by : (name d : List ℕ) → Fronted name d → lies_under name d ≡ true
unfolding lies_under
lies-by name d (whole e) =
    or-first (starts_with nat_eq d name) (length d == length name) (slice_index d (length name) == slash) (ap (λ (x : List ℕ). starts_with nat_eq x name) e ∙ same_begins name)
    (eq-eqb (length d) (length name) (ap (λ (x : List ℕ). length x) e))
lies-by name d (more rest e) =
    or-second (starts_with nat_eq d name) (length d == length name) (slice_index d (length name) == slash)
    (ap (λ (x : List ℕ). starts_with nat_eq x name) e ∙ begins-with name (47 ∷ rest))
    (eq-eqb (slice_index d (length name)) 47 (ap (λ (x : List ℕ). slice_index x (length name)) e ∙ slash-at name rest))

-- so no copy lies in the work folder
pub copy-outside : (root dest path : List ℕ) → IsDest dest → IsTrue (is_below (gather_folder root) (in_root (copy_folder root dest) path)) → ⊥
unfolding gather_folder
copy-outside root dest path is below =
    never (lies_under (codes ".dbgsrc") (drop 1 dest))
    (lies-by (codes ".dbgsrc") (drop 1 dest) (fronted (codes ".dbgsrc") (drop 1 dest) path refl
    (sym (front-same root (47 ∷ (drop 1 dest ++ 47 ∷ path)) (47 ∷ (codes ".dbgsrc" ++ 47 ∷ [])))
    ∙ ap (λ (front : List ℕ). starts_with nat_eq (root ++ 47 ∷ (drop 1 dest ++ 47 ∷ path)) front) (sym (append_assoc root (47 ∷ codes ".dbgsrc") (47 ∷ [])))
    ∙ ap (λ (q : List ℕ). is_below (root ++ 47 ∷ codes ".dbgsrc") q) (sym (copy-in root dest path is)) ∙ below))) is.other

-- a list that begins with a front is the front and a rest
record Behind (front q : List ℕ) : Type 0 where
  rest : List ℕ
  is : q ≡ front ++ rest

behind : (front q : List ℕ) → starts_with nat_eq q front ≡ true → Behind front q
behind [] q e = record { rest = q; is = refl }
behind (f ∷ front) [] e = cc
behind (f ∷ front) (b ∷ q) e =
    let p = both-of (f == b) (starts_with nat_eq q front) e in
    let u = behind front q p.1 in
    record { rest = u.rest; is = ap (λ (x : ℕ). x ∷ q) (sym (eqb-true f b p.0)) ∙ ap (λ (l : List ℕ). f ∷ l) u.is }

-- what lies in the work folder, as a path of the root
work-behind : (root rest : List ℕ) → (gather_folder root ++ 47 ∷ []) ++ rest ≡ in_root root (codes ".dbgsrc" ++ 47 ∷ rest)
unfolding gather_folder
work-behind root rest = append_assoc (root ++ 47 ∷ codes ".dbgsrc") (47 ∷ []) rest ∙ append_assoc root (47 ∷ codes ".dbgsrc") (47 ∷ rest)

-- what lies in the work folder lies below the root
pub work-below : (root q : List ℕ) → IsTrue (is_below (gather_folder root) q) → is_below root q ≡ true
work-below root q below =
    let b = behind (gather_folder root ++ 47 ∷ []) q below in
    ap (is_below root) (b.is ∙ work-behind root b.rest) ∙ in-root-below root (codes ".dbgsrc" ++ 47 ∷ b.rest)

-- ### Folders of words that don't lie under each other

pub not-true : (b : Bool) → (b ≡ true → ⊥) → b ≡ false
not-true true f = absurd (f refl)
not-true false f = refl

below-lies : (folder path : List ℕ) → is_below folder path ≡ true → lies_under folder path ≡ true
below-lies folder path e =
    let b = behind (folder ++ 47 ∷ []) path e in
    lies-by folder path (more b.rest (b.is ∙ append_assoc folder (47 ∷ []) b.rest))

pub folders-apart : (root from : List ℕ) → lies_under root from ≡ false → lies_under from root ≡ false → AreFoldersApart root from
folders-apart root from a b = record {
  differ = λ e. never (lies_under root from) (lies-by root from (whole (sym e))) a;
  not_below = not-true (is_below root from) (λ below. never (lies_under root from) (below-lies root from below) a);
  not_above = not-true (is_below from root) (λ below. never (lies_under from root) (below-lies from root below) b);
}

-- ### Sources

module _ (root from dest : List ℕ) (asked : IsAsked root from dest) where
  -- a source is no copy
  pub source-copy : (p q : List ℕ) → in_root from p ≡ in_root (copy_folder root dest) q → ⊥
  source-copy p q e = paths-apart root from p (drop 1 dest ++ 47 ∷ q) asked.apart (e ∙ copy-in root dest q asked.is_dest)

  -- nor any name of the work folder
  pub source-work : (p : List ℕ) (n : Name) → in_root from p ≡ work_path (gather_folder root) n → ⊥
  source-work p n e = paths-apart root from p (codes ".dbgsrc" ++ 47 ∷ name_text n) asked.apart (e ∙ work-in root n)

  -- nor does it lie in it
  source-outside : (p : List ℕ) → IsTrue (is_below (gather_folder root) (in_root from p)) → ⊥
  source-outside p below =
      let b = behind (gather_folder root ++ 47 ∷ []) (in_root from p) below in
      paths-apart root from p (codes ".dbgsrc" ++ 47 ∷ b.rest) asked.apart (b.is ∙ work-behind root b.rest)

  pub sources-apart : (jobs : List JobLine) → AreSourcesApart (gather_folder root) (copy_view (copy_folder root dest) from jobs)
  sources-apart jobs = record {
    outside = λ i l below. source-outside (job_at jobs i).path below;
    others = λ i j k l step same. absurd (source-copy (job_at jobs i).path (job_at jobs j).path (sym same));
  }
