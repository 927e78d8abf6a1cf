-- What the code reads at the front of a unit, in the words of its section.
use Rattle.std.proofs.Common.{Bool, true, false, ◌≡◌, ℕ, ◌+◌, ◌-◌, ◌≤◌, ◌<◌, ◌==◌, if◌then◌else◌, List, length, Option, Some, None, refl, sym, ap, ◌∙◌, arith}
use Rattle.std.specs.Prelude.{nat_lt}
use Rattle.dw_base.specs.FileViews.{View}
use Rattle.dw_base.specs.Lebs.{initial_length, initial_length_at, long_length}
use Rattle.dw_base.specs.Numbers.{number_at, spelled}
use Rattle.dw_base.specs.Refusals.{at}
use Rattle.dw_base.specs.UnitFails.{bytes_from}
use Rattle.dw_base.specs.UnitHeaders.{UnitSection, SectionKind, is_version, unit_type}
use Rattle.dw_base.specs.ViewData.{debug_data}
use Rattle.dw_base.specs.declared.fault.Kind.{Kind}
use Rattle.dw_base.specs.declared.fault.Refusal.{Refusal}
use Rattle.dw_base.specs.declared.shared.Order.{Order}
use Rattle.dw_base.specs.declared.shared.Width.{Width}
use Rattle.dw_base.specs.declared.shared.Width.TheVariants.{W32, W64}
use Rattle.dw_entries.specs.Fronts.{IsOfView}
use Rattle.dw_entries.specs.ViewUnits.{unit_base}

-- what all units are read by has the order of the view
pub base-order : (v : View) (order : Order) → order ≡ v.order → order ≡ (unit_base v).order
unfolding debug_data
base-order v order e = e

-- a refusal at the section's number
pub at-section : (v : View) (i start : ℕ) (z : UnitSection) (kind : Kind) (r : Refusal) → IsOfView v i z → r ≡ at kind i start → r ≡ at kind z.number start
at-section v i start z kind r is e = e ∙ ap (λ (n : ℕ). at kind n start) (sym is.number)

-- the length that was read
pub length-read : (v : View) (z : UnitSection) (start : ℕ) (order : Order) (rest : List ℕ) (o : Option (Width × ℕ × ℕ)) → order ≡ v.order
    → rest ≡ bytes_from z start → o ≡ initial_length_at order rest 0 → initial_length_at (unit_base v).order (bytes_from z start) 0 ≡ o
length-read v z start order rest o e f is =
    ap (λ (x : Order). initial_length_at x (bytes_from z start) 0) (sym (base-order v order e))
    ∙ ap (λ (bs : List ℕ). initial_length_at order bs 0) (sym f) ∙ sym is

-- a number that was read
pub number-read : (v : View) (z : UnitSection) (start place n x : ℕ) (order : Order) (rest : List ℕ) → order ≡ v.order
    → rest ≡ bytes_from z start → x ≡ spelled order rest place n → x ≡ spelled (unit_base v).order (bytes_from z start) place n
number-read v z start place n x order rest e f is =
    is ∙ ap (λ (o : Order). spelled o rest place n) (base-order v order e) ∙ ap (λ (bs : List ℕ). spelled (unit_base v).order bs place n) f

-- the unit type that was read
pub type-read : (v : View) (z : UnitSection) (start version place x : ℕ) (order : Order) (kind : SectionKind) (rest : List ℕ) → order ≡ v.order
    → rest ≡ bytes_from z start → kind ≡ z.kind → x ≡ unit_type order kind rest version place
    → x ≡ unit_type (unit_base v).order z.kind (bytes_from z start) version place
type-read v z start version place x order kind rest e f k is =
    is ∙ ap (λ (o : Order). unit_type o kind rest version place) (base-order v order e)
    ∙ ap (λ (s : SectionKind). unit_type (unit_base v).order s rest version place) k
    ∙ ap (λ (bs : List ℕ). unit_type (unit_base v).order z.kind bs version place) f

-- a length takes 12 bytes at most
size-of : (x y : Width × ℕ × ℕ) → Some x ≡ Some y → x.2 ≡ y.2
size-of x y e = ap size_in e
  where
    size_in : Option (Width × ℕ × ℕ) → ℕ
    size_in None = 0
    size_in (Some z) = z.2

long-small : (o : Option ℕ) (x : Width × ℕ × ℕ) → long_length o ≡ Some x → x.2 ≤ 12
long-small None x e = absurd cc
long-small (Some n) x e = let same : 12 ≡ x.2 = size-of (W64, n, 12) x e in omega (arith, same)

initial-small : (word behind : Option ℕ) (x : Width × ℕ × ℕ) → initial_length word behind ≡ Some x → x.2 ≤ 12
initial-small None behind x e = absurd cc
initial-small (Some w) behind x e = by_word (nat_lt w 0xffff_fff0) (w == 0xffff_ffff) e
  where
    by_word : (short wide : Bool) → (if short then Some (W32, w, 4) else (if wide then long_length behind else None)) ≡ Some x → x.2 ≤ 12
    by_word true wide e = let same : 4 ≡ x.2 = size-of (W32, w, 4) x e in omega (arith, same)
    by_word false true e = long-small behind x e
    by_word false false e = absurd cc

pub length-small : (order : Order) (bytes : List ℕ) (place : ℕ) (x : Width × ℕ × ℕ) → Some x ≡ initial_length_at order bytes place → x.2 ≤ 12
unfolding initial_length_at
length-small order bytes place x e = initial-small (number_at order bytes place 4) (number_at order bytes (place + 4) 8) x (sym e)

-- a version that was tested
pub kind-known : (z : UnitSection) (kind : SectionKind) (version : ℕ) (test : Bool) → kind ≡ z.kind → test ≡ is_version kind version → test ≡ is_version z.kind version
kind-known z kind version test k t = t ∙ ap (λ (s : SectionKind). is_version s version) k

-- fewer bytes are left than are wanted, or as many
pub few-left : (rest bytes : List ℕ) (place n : ℕ) → rest ≡ bytes → 0 + place ≤ length rest → length rest - place < n → length bytes < place + n
few-left rest bytes place n is inside few = let size = ap length is in omega (arith, size)

pub enough-left : (rest bytes : List ℕ) (place n : ℕ) → rest ≡ bytes → 0 + place ≤ length rest → n ≤ length rest - place → place + n ≤ length bytes
enough-left rest bytes place n is inside many = let size = ap length is in omega (arith, size)

pub sum-of : {a b m n : ℕ} → a ≡ m → b ≡ n → a + b ≡ m + n
sum-of e f = rw (e, f) refl

pub ruleset front_rules = (base-order)
