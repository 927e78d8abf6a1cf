-- Values agree exactly where they are of one kind, and what they say is the same, with the map applied to a path.
use Rattle.std.proofs.Common.{Bool, true, false, ◌≡◌, ◌==◌, ℕ, ℤ, ◌+◌, ◌≤◌, List, [], length, refl, ap, sym, subst, ◌∙◌, arith}
use Rattle.std.proofs.lemmas.Bool.{and_parts, eqb-false}
use Rattle.std.specs.Cmp.Derive.{both_true}
use Rattle.std.specs.Prelude.{◌↔◌, IsTrue}
use Rattle.dw_base.proofs.TextLaws.{same_text-from, same_text-true}
use Rattle.dw_base.specs.Cells.{Cell}
use Rattle.dw_base.specs.FileViews.{View, section_bytes, view_cells}
use Rattle.dw_base.specs.InlinePaths.{inline_fits, mapped_inline}
use Rattle.dw_base.specs.MappedUnits.{mapped_value}
use Rattle.dw_base.specs.Paths.{PathMap, mapped_path}
use Rattle.dw_base.specs.Texts.{same_text}
use Rattle.dw_base.specs.ValueMeanings.{TextForm, inline, by_offset, by_slot, ValueMeaning, string, entry_of, stray, table_number, macro_number, raw, signed_number, of_class}
use Rattle.dw_base.specs.declared.values.ValueClass.{ValueClass}
use Rattle.dw_base.specs.declared.values.ValueClass.TheVariants as class
use Rattle.dw_base.specs.declared.view_fields.Field.{Field}
use Rattle.dw_base.specs.declared.view_fields.Field.TheVariants.{Num}
use Rattle.dbg_check.proofs.CellLaws.{run-length, view-inside}
use Rattle.dbg_check.specs.CellRuns.{RunsAgree}
use Rattle.dbg_check.specs.Entries.{ValueAgrees}
use Rattle.dbg_check.specs.MeantValues.{CellsStand, cells_meant, text_agrees}
use Rattle.dbg_check.specs.declared.values.CellRun.{CellRun}

-- what is told by a test, and follows from something that follows from it
pub told-by : (b : Bool) (A B : Type 0) → (IsTrue b ↔ A) → (A → B) → (B → A) → IsTrue b ↔ B
told-by b A B is to from = ((λ (e : b ≡ true). to (is.0 e)), (λ (x : B). is.1 (from x)))

-- what can't be is told by no
pub told-no : (B : Type 0) → (B → ⊥) → IsTrue false ↔ B
told-no B none = ((λ (e : false ≡ true). let no : false ≡ true = e in cc), (λ (x : B). absurd (none x)))

-- what a failed test tells isn't so
pub not-told : (b : Bool) (A : Type 0) → (IsTrue b ↔ A) → b ≡ false → A → ⊥
not-told b A is not_ x = let no : false ≡ true = sym not_ ∙ is.1 x in cc

pub truth : (b : Bool) → (b ≡ false → ⊥) → b ≡ true
truth true none = refl
truth false none = absurd (none refl)

-- ### Of two kinds

-- which kind a value is of
abbrev kind_of : ValueMeaning → ℕ
kind_of (string path f t) = 0
kind_of (entry_of unit number) = 1
kind_of (stray offset) = 2
kind_of (table_number number) = 3
kind_of (macro_number number) = 4
kind_of (raw cells) = 5
kind_of (signed_number number) = 6
kind_of (of_class class field) = 7

kind-kept : (m : PathMap) (v : ValueMeaning) → kind_of (mapped_value m v) ≡ kind_of v
kind-kept m (string true f t) = refl
kind-kept m (string false f t) = refl
kind-kept m (entry_of unit number) = refl
kind-kept m (stray offset) = refl
kind-kept m (table_number number) = refl
kind-kept m (macro_number number) = refl
kind-kept m (raw cells) = refl
kind-kept m (signed_number number) = refl
kind-kept m (of_class class field) = refl

pub values-apart : (m : PathMap) (v w : ValueMeaning) → (kind_of v == kind_of w) ≡ false → IsTrue false ↔ ValueAgrees m v w
values-apart m v w apart = told-no (ValueAgrees m v w) none
  where
    none : ValueAgrees m v w → ⊥
    none agree =
        let same : kind_of v ≡ kind_of w = sym (kind-kept m v) ∙ ap kind_of agree.1 in
        eqb-false (kind_of v) (kind_of w) apart same

pub ruleset apart_laws = (values-apart)

-- ### Texts

abbrev text_said : ValueMeaning → List ℕ
text_said (string path f t) = t
text_said v = []

abbrev path_said : ValueMeaning → Bool
path_said (string path f t) = path
path_said v = false

abbrev form_said : ValueMeaning → TextForm
form_said (string path f t) = f
form_said v = inline

agree-from : (m : PathMap) (p : Bool) (f : TextForm) (t u : List ℕ) → text_agrees m p f t u ≡ true → ValueAgrees m (string p f t) (string p f u)
agree-from m false f t u e = (tt, ap (λ (x : List ℕ). string false f x) (same_text-true t u e))
agree-from m true inline t u e =
    let parts = and_parts (inline_fits m t) (same_text (mapped_inline m t) u) e in
    (parts.0, ap (λ (x : List ℕ). string true inline x) (same_text-true (mapped_inline m t) u parts.1))
agree-from m true by_offset t u e = (tt, ap (λ (x : List ℕ). string true by_offset x) (same_text-true (mapped_path m t) u e))
agree-from m true (by_slot n) t u e = (tt, ap (λ (x : List ℕ). string true (by_slot n) x) (same_text-true (mapped_path m t) u e))

agree-to : (m : PathMap) (p q : Bool) (f g : TextForm) (t u : List ℕ) → ValueAgrees m (string p f t) (string q g u) → text_agrees m p f t u ≡ true
agree-to m false q f g t u a = same_text-from t u (ap text_said a.1)
agree-to m true q inline g t u a =
    both_true a.0 (same_text-from (mapped_inline m t) u (ap text_said a.1))
agree-to m true q by_offset g t u a = same_text-from (mapped_path m t) u (ap text_said a.1)
agree-to m true q (by_slot n) g t u a = same_text-from (mapped_path m t) u (ap text_said a.1)

-- the mapped value is a path where the value is, and is held in the same way
path-kept : (m : PathMap) (p q : Bool) (f g : TextForm) (t u : List ℕ) → ValueAgrees m (string p f t) (string q g u) → p ≡ q
path-kept m false q f g t u a = ap path_said a.1
path-kept m true q f g t u a = ap path_said a.1

form-kept : (m : PathMap) (p q : Bool) (f g : TextForm) (t u : List ℕ) → ValueAgrees m (string p f t) (string q g u) → f ≡ g
form-kept m false q f g t u a = ap form_said a.1
form-kept m true q f g t u a = ap form_said a.1

pub text-other : (m : PathMap) (p : Bool) (f g : TextForm) (t u : List ℕ) (b : Bool) → (IsTrue b ↔ (f ≡ g)) → b ≡ false
    → IsTrue false ↔ ValueAgrees m (string p f t) (string p g u)
text-other m p f g t u b is not_ =
    told-no (ValueAgrees m (string p f t) (string p g u)) (λ a. not-told b (f ≡ g) is not_ (form-kept m p p f g t u a))

pub text-told : (m : PathMap) (p : Bool) (f g : TextForm) (t u : List ℕ) (b r : Bool) → (IsTrue b ↔ (f ≡ g)) → b ≡ true → r ≡ text_agrees m p f t u
    → IsTrue r ↔ ValueAgrees m (string p f t) (string p g u)
text-told m p f g t u b r is yes_ told = (
  (λ (e : r ≡ true). subst (λ (h : TextForm). ValueAgrees m (string p f t) (string p h u)) (is.0 yes_) (agree-from m p f t u (sym told ∙ e))),
  (λ (a : ValueAgrees m (string p f t) (string p g u)). told ∙ agree-to m p p f g t u a),
)

pub ruleset text_laws = (text-other, text-told)

pub path-other : (m : PathMap) (p q : Bool) (f g : TextForm) (t u : List ℕ) → (p ≡ q → ⊥) → IsTrue false ↔ ValueAgrees m (string p f t) (string q g u)
path-other m p q f g t u apart = told-no (ValueAgrees m (string p f t) (string q g u)) (λ a. apart (path-kept m p q f g t u a))

pub path-told : (m : PathMap) (p q : Bool) (f g : TextForm) (t u : List ℕ) (r : Bool) → p ≡ q → (IsTrue r ↔ ValueAgrees m (string p f t) (string p g u))
    → IsTrue r ↔ ValueAgrees m (string p f t) (string q g u)
path-told m p q f g t u r same is = subst (λ (x : Bool). IsTrue r ↔ ValueAgrees m (string p f t) (string x g u)) same is

pub ruleset path_laws = (path-other, path-told)

-- ### Numbers and cells

abbrev number_said : ValueMeaning → ℕ
number_said (entry_of unit number) = number
number_said (stray offset) = offset
number_said (table_number number) = number
number_said (macro_number number) = number
number_said v = 0

abbrev unit_said : ValueMeaning → ℕ
unit_said (entry_of unit number) = unit
unit_said v = 0

pub entry-other : (m : PathMap) (u n v k : ℕ) (b : Bool) → (IsTrue b ↔ (u ≡ v)) → b ≡ false → IsTrue false ↔ ValueAgrees m (entry_of u n) (entry_of v k)
entry-other m u n v k b is not_ =
    told-no (ValueAgrees m (entry_of u n) (entry_of v k)) (λ a. not-told b (u ≡ v) is not_ (ap unit_said a.1))

pub entry-told : (m : PathMap) (u n v k : ℕ) (b r : Bool) → (IsTrue b ↔ (u ≡ v)) → b ≡ true → (IsTrue r ↔ (n ≡ k)) → IsTrue r ↔ ValueAgrees m (entry_of u n) (entry_of v k)
entry-told m u n v k b r is yes_ told =
    told-by r (n ≡ k) (ValueAgrees m (entry_of u n) (entry_of v k)) told
    (λ (e : n ≡ k). (tt, λ i. entry_of (is.0 yes_ i) (e i)))
    (λ (a : ValueAgrees m (entry_of u n) (entry_of v k)). ap number_said a.1)

pub ruleset entry_laws = (entry-other, entry-told)

pub stray-told : (m : PathMap) (n k : ℕ) (b : Bool) → (IsTrue b ↔ (n ≡ k)) → IsTrue b ↔ ValueAgrees m (stray n) (stray k)
stray-told m n k b is = told-by b (n ≡ k) (ValueAgrees m (stray n) (stray k)) is (λ (e : n ≡ k). (tt, ap stray e)) (λ (a : ValueAgrees m (stray n) (stray k)). ap number_said a.1)

pub lines-told : (m : PathMap) (n k : ℕ) (b : Bool) → (IsTrue b ↔ (n ≡ k)) → IsTrue b ↔ ValueAgrees m (table_number n) (table_number k)
lines-told m n k b is =
    told-by b (n ≡ k) (ValueAgrees m (table_number n) (table_number k)) is (λ (e : n ≡ k). (tt, ap table_number e))
    (λ (a : ValueAgrees m (table_number n) (table_number k)). ap number_said a.1)

pub macros-told : (m : PathMap) (n k : ℕ) (b : Bool) → (IsTrue b ↔ (n ≡ k)) → IsTrue b ↔ ValueAgrees m (macro_number n) (macro_number k)
macros-told m n k b is =
    told-by b (n ≡ k) (ValueAgrees m (macro_number n) (macro_number k)) is (λ (e : n ≡ k). (tt, ap macro_number e))
    (λ (a : ValueAgrees m (macro_number n) (macro_number k)). ap number_said a.1)

abbrev signed_said : ℤ → ValueMeaning → ℤ
signed_said z (signed_number n) = n
signed_said z v = z

pub signed-told : (m : PathMap) (n k : ℤ) (b : Bool) → (IsTrue b ↔ (n ≡ k)) → IsTrue b ↔ ValueAgrees m (signed_number n) (signed_number k)
signed-told m n k b is =
    told-by b (n ≡ k) (ValueAgrees m (signed_number n) (signed_number k)) is (λ (e : n ≡ k). (tt, ap signed_number e))
    (λ (a : ValueAgrees m (signed_number n) (signed_number k)). ap (signed_said n) a.1)

abbrev cells_said : ValueMeaning → List Cell
cells_said (raw cells) = cells
cells_said v = []

pub cells-told : (m : PathMap) (xs ys : List Cell) (b : Bool) → (IsTrue b ↔ (xs ≡ ys)) → IsTrue b ↔ ValueAgrees m (raw xs) (raw ys)
cells-told m xs ys b is =
    told-by b (xs ≡ ys) (ValueAgrees m (raw xs) (raw ys)) is (λ (e : xs ≡ ys). (tt, ap raw e)) (λ (a : ValueAgrees m (raw xs) (raw ys)). ap cells_said a.1)

pub ruleset told_laws = (stray-told, lines-told, macros-told, signed-told, cells-told)

-- ### Runs of cells

run-size : (v : View) (r : CellRun) → CellsStand v r → length (cells_meant v r) ≡ r.len
run-size v r stands = run-length (view_cells v r.place.section) r.place.at r.len (view-inside v r.place.section r.place.at r.len stands.inside)

pub run-long : (v w : View) (r s : CellRun) → CellsStand v r → CellsStand w s → (r.len ≡ s.len → ⊥) → IsTrue false ↔ (cells_meant v r ≡ cells_meant w s)
run-long v w r s one two apart =
    told-no (cells_meant v r ≡ cells_meant w s) (λ (e : cells_meant v r ≡ cells_meant w s). apart (sym (run-size v r one) ∙ ap (λ (cs : List Cell). length cs) e ∙ run-size w s two))

run-carried : (v w : View) (r s : CellRun) → r.len ≡ s.len → RunsAgree v w r.place s.place r.len ≡ (cells_meant v r ≡ cells_meant w s)
run-carried v w r s same = ap (λ (n : ℕ). cells_meant v r ≡ cells_meant w (record { place = s.place; len = n })) same

pub run-told : (v w : View) (r s : CellRun) (b : Bool) → r.len ≡ s.len → (IsTrue b → RunsAgree v w r.place s.place r.len) → (b ≡ false → RunsAgree v w r.place s.place r.len → ⊥)
    → IsTrue b ↔ (cells_meant v r ≡ cells_meant w s)
run-told v w r s b same yes_ no_ = (
  (λ (e : b ≡ true). subst (λ (X : Type 0). X) (run-carried v w r s same) (yes_ e)),
  (λ (e : cells_meant v r ≡ cells_meant w s). truth b (λ (not_ : b ≡ false). no_ not_ (subst (λ (X : Type 0). X) (sym (run-carried v w r s same)) e))),
)

pub run-inside : (w : View) (s : CellRun) (n : ℕ) → CellsStand w s → n ≡ s.len → s.place.at + n ≤ length (section_bytes w s.place.section)
run-inside w s n stands same = omega (arith, stands.inside, same)

pub ruleset run_laws = (run-long, run-told, run-inside)

-- ### Fields

abbrev class_said : ValueMeaning → ValueClass
class_said (of_class class field) = class
class_said v = class.Address

abbrev field_said : ValueMeaning → Field
field_said (of_class class field) = field
field_said v = Num 0

pub class-other : (m : PathMap) (c d : ValueClass) (f g : Field) (b : Bool) → (IsTrue b ↔ (c ≡ d)) → b ≡ false → IsTrue false ↔ ValueAgrees m (of_class c f) (of_class d g)
class-other m c d f g b is not_ = told-no (ValueAgrees m (of_class c f) (of_class d g)) (λ a. not-told b (c ≡ d) is not_ (ap class_said a.1))

pub class-told : (m : PathMap) (c d : ValueClass) (f g : Field) (b r : Bool) → (IsTrue b ↔ (c ≡ d)) → b ≡ true → (IsTrue r ↔ (f ≡ g))
    → IsTrue r ↔ ValueAgrees m (of_class c f) (of_class d g)
class-told m c d f g b r is yes_ told =
    told-by r (f ≡ g) (ValueAgrees m (of_class c f) (of_class d g)) told (λ (e : f ≡ g). (tt, λ i. of_class (is.0 yes_ i) (e i)))
    (λ (a : ValueAgrees m (of_class c f) (of_class d g)). ap field_said a.1)

pub ruleset class_laws = (class-other, class-told)
