-- The type of a file, by its three tests.
use Rattle.std.proofs.Common.{◌≡◌, ℕ, ◌==◌, Bool, true, false, cond, ◌||◌, List, refl, sym, ap, ◌∙◌, subst}
use Rattle.std.proofs.lemmas.Bool.{eq-eqb}
use Rattle.dw_base.specs.DebugSectionFails.{DebugSectionsFail}
use Rattle.dw_base.specs.DebugSectionFails.DebugSectionsFail.{file_type}
use Rattle.dw_base.specs.Elf.{e_type, file_kind}
use Rattle.dw_base.specs.Layout.{is_loaded_kind}
use Rattle.dw_base.specs.Refusals.{at}
use Rattle.dw_base.specs.declared.elf_numbers.TheConstants.{ET_DYN, ET_EXEC, ET_REL}
use Rattle.dw_base.specs.declared.fault.Kind.TheVariants.{FileType}
use Rattle.dw_base.specs.declared.fault.Refusal.{Refusal}
use Rattle.dw_base.specs.declared.records.FileKind.{FileKind}
use Rattle.dw_base.specs.declared.records.FileKind.TheVariants.{Dyn, Exec, Other, Rel}

abbrev kind_by : Bool → Bool → Bool → ℕ → FileKind
kind_by t x d n = cond t Rel (cond x Exec (cond d Dyn (Other n)))

rel_by : (t x d : Bool) (n : ℕ) → kind_by t x d n ≡ Rel → t ≡ true
rel_by true x d n e = refl
rel_by false true d n e = absurd cc
rel_by false false true n e = absurd cc
rel_by false false false n e = absurd cc

exec_by : (t x d : Bool) (n : ℕ) → kind_by t x d n ≡ Exec → (t ≡ false) × (x ≡ true)
exec_by true x d n e = absurd cc
exec_by false true d n e = (refl, refl)
exec_by false false true n e = absurd cc
exec_by false false false n e = absurd cc

dyn_by : (t x d : Bool) (n : ℕ) → kind_by t x d n ≡ Dyn → (t ≡ false) × (d ≡ true)
dyn_by true x d n e = absurd cc
dyn_by false true d n e = absurd cc
dyn_by false false true n e = (refl, refl)
dyn_by false false false n e = absurd cc

other_by : (t x d : Bool) (n m : ℕ) → kind_by t x d n ≡ Other m → (t ≡ false) × ((x || d) ≡ false)
other_by true x d n m e = absurd cc
other_by false true d n m e = absurd cc
other_by false false true n m e = absurd cc
other_by false false false n m e = (refl, refl)

or-right : (x y : Bool) → y ≡ true → (x || y) ≡ true
or-right true y e = refl
or-right false y e = e

or-left : (x y : Bool) → x ≡ true → (x || y) ≡ true
or-left x y e = ap (λ (z : Bool). z || y) e

-- the test of each type
pub relocatable-is : (b : List ℕ) (k : FileKind) → k ≡ file_kind b → k ≡ Rel → (e_type b == ET_REL) ≡ true
unfolding file_kind
relocatable-is b k is rel = rel_by (e_type b == ET_REL) (e_type b == ET_EXEC) (e_type b == ET_DYN) (e_type b) (sym is ∙ rel)

pub relocatable-exec : (b : List ℕ) (k : FileKind) → k ≡ file_kind b → k ≡ Exec → (e_type b == ET_REL) ≡ false
unfolding file_kind
relocatable-exec b k is exec = (exec_by (e_type b == ET_REL) (e_type b == ET_EXEC) (e_type b == ET_DYN) (e_type b) (sym is ∙ exec)).0

pub relocatable-dyn : (b : List ℕ) (k : FileKind) → k ≡ file_kind b → k ≡ Dyn → (e_type b == ET_REL) ≡ false
unfolding file_kind
relocatable-dyn b k is dyn = (dyn_by (e_type b == ET_REL) (e_type b == ET_EXEC) (e_type b == ET_DYN) (e_type b) (sym is ∙ dyn)).0

pub relocatable-other : (b : List ℕ) (k : FileKind) (n : ℕ) → k ≡ file_kind b → k ≡ Other n → (e_type b == ET_REL) ≡ false
unfolding file_kind
relocatable-other b k n is other =
    (other_by (e_type b == ET_REL) (e_type b == ET_EXEC) (e_type b == ET_DYN) (e_type b) n (sym is ∙ other)).0

-- a type that is handled
pub handled-rel : (b : List ℕ) (k : FileKind) → k ≡ file_kind b → k ≡ Rel → (e_type b == ET_REL || is_loaded_kind b) ≡ true
handled-rel b k is rel = or-left (e_type b == ET_REL) (is_loaded_kind b) (relocatable-is b k is rel)

pub handled-exec : (b : List ℕ) (k : FileKind) → k ≡ file_kind b → k ≡ Exec → (e_type b == ET_REL || is_loaded_kind b) ≡ true
unfolding file_kind
handled-exec b k is exec =
    or-right (e_type b == ET_REL) (is_loaded_kind b)
    (or-left (e_type b == ET_EXEC) (e_type b == ET_DYN)
    (exec_by (e_type b == ET_REL) (e_type b == ET_EXEC) (e_type b == ET_DYN) (e_type b) (sym is ∙ exec)).1)

pub handled-dyn : (b : List ℕ) (k : FileKind) → k ≡ file_kind b → k ≡ Dyn → (e_type b == ET_REL || is_loaded_kind b) ≡ true
unfolding file_kind
handled-dyn b k is dyn =
    or-right (e_type b == ET_REL) (is_loaded_kind b)
    (or-right (e_type b == ET_EXEC) (e_type b == ET_DYN)
    (dyn_by (e_type b == ET_REL) (e_type b == ET_EXEC) (e_type b == ET_DYN) (e_type b) (sym is ∙ dyn)).1)

-- another is refused
pub refused_type : (b : List ℕ) (k : FileKind) (n : ℕ) (r : Refusal) → k ≡ file_kind b → k ≡ Other n → r ≡ at FileType 0 16 → DebugSectionsFail b r
unfolding file_kind
refused_type b k n r is other r_is =
    let tests = other_by (e_type b == ET_REL) (e_type b == ET_EXEC) (e_type b == ET_DYN) (e_type b) n (sym is ∙ other) in
    subst (DebugSectionsFail b) (sym r_is)
    (file_type (λ e. (let yes : (e_type b == ET_REL) ≡ true = eq-eqb (e_type b) ET_REL e in
    let no_ : (e_type b == ET_REL) ≡ false = tests.0 in cc)) tests.1)

pub ruleset kind_laws = (relocatable-is, relocatable-exec, relocatable-dyn, relocatable-other, handled-rel, handled-exec, handled-dyn, refused_type)
