-- What cells need so that an offset into a section can be put into them: where a relocation begins at them, it is of their size, its symbol
-- is defined in that section, and its addend can make the offset. What reads has such fields.
use Rattle.std.proofs.Common.{Bool, true, false, ◌≡◌, ℕ, zero, suc, ◌^◌, ◌<◌, ◌≤◌, ◌==◌, ◌||◌, if◌then◌else◌, List, [], ◌∷◌, ◌++◌, length, drop, Option, None, Some, refl, ap, ◌∙◌, subst, arith}
use Rattle.std.specs.Bool.{⊤}
use Rattle.std.specs.Prelude.{pos, ℤ, ◌+ℤ◌}
use Rattle.std.proofs.lemmas.Bool.{eqb-true}
use Rattle.dw_base.specs.Cells.{Cell, Located, Relocation, addend_of, bytes_of, field_by, field_of, first_relocation, is_placed, offset_into, offset_of, relocated, symbol_field, targeted, with_bytes, wrapped}
use Rattle.dw_base.specs.Forms.{width_size}
use Rattle.dw_base.specs.Numbers.{number_bytes, spelled}
use Rattle.dw_base.specs.NewOffsets.{by_addend, moved_addend, moved_relocation, symbol_value, with_offset, with_offset_by, with_relocation}
use Rattle.dw_base.specs.declared.shared.Order.{Order}
use Rattle.dw_base.specs.declared.shared.Width.{Width}
use Rattle.dw_base.specs.declared.shared.Width.TheVariants.{W32, W64}
use Rattle.dw_base.specs.declared.view_fields.Field.{Field}
use Rattle.dw_base.specs.declared.view_fields.Field.TheVariants.{Into, Num, Sym}
use Rattle.dw_base.proofs.OffsetPutLaws.{AddendFits, PutsBy, length-with_bytes, offset-put-any}
use Rattle.dw_meaning.specs.NewAddends.{AddendMakes, Makes}

pub record PlacesIn (r : Relocation) (section size : ℕ) : Type 0 where
  pub value : ℕ
  pub own : r.size ≡ Some size
  pub target : r.target ≡ Some (section, value)

abbrev pub PlacesBy : Option Relocation → ℕ → ℕ → Type 0
PlacesBy None section size = ⊤
PlacesBy (Some r) section size = PlacesIn r section size

pub record IsPlace (section : ℕ) (p : List Cell) : Type 0 where
  pub by_relocation : PlacesBy (first_relocation p) section (length p)

-- an offset that was put is read back
pub makes-addend : (r : Relocation) (o : Option ℤ) (section value size n : ℕ) → r.target ≡ Some (section, value) → AddendMakes o r size n → AddendFits o r value size n
makes-addend r None section value size n target makes = tt
makes-addend r (Some a) section value size n target makes =
    subst (λ (t : Option (ℕ × ℕ)). wrapped (pos (symbol_value t) +ℤ moved_addend r n) size ≡ n) target makes

pub place-put : (order : Order) (z : Located) (p : List Cell) (n : ℕ) → IsPlace z.number p → 0 < length p → n < 256 ^ length p → Makes (first_relocation p) (length p) n
    → offset_of order z (with_offset order p n) ≡ n
place-put order z p n h some fits makes =
    offset-put-any order z p n (record { some = some; fits = fits; by_relocation = puts (first_relocation p) h.by_relocation makes })
  where
    puts : (o : Option Relocation) → PlacesBy o z.number (length p) → Makes o (length p) n → PutsBy o z (length p) n
    puts None t m = tt
    puts (Some r) t m =
        record { value = t.value; own = t.own; target = t.target; addend = makes-addend r r.addend z.number t.value (length p) n t.target m }

-- A field that reads as an offset which lies in its section is such a place.
pub place-read : (order : Order) (z : Located) (p : List Cell) → is_placed (field_of order p) ≡ true → offset_of order z p < length z.bytes
    → IsPlace z.number p
unfolding offset_of field_of
place-read order z p placed below =
    record { by_relocation = by_first (first_relocation p) (spelled order (bytes_of p) 0 (length p)) placed below }
  where
    by_section : (r : Relocation) (section value size n : ℕ) (b : Bool) → r.size ≡ Some size → r.target ≡ Some (section, value) → (section == z.number) ≡ b → (if b then n else length z.bytes) < length z.bytes → PlacesIn r z.number size
    by_section r section value size n false own target same below = absurd (omega (arith, below))
    by_section r section value size n true own target same below = record {
      value = value;
      own = own;
      target = target ∙ ap (λ (k : ℕ). Some (k, value)) (eqb-true section z.number same);
    }

    by_target : (r : Relocation) (t : Option (ℕ × ℕ)) (size n : ℕ) → r.size ≡ Some size → r.target ≡ t → is_placed (targeted t r size n) ≡ true → offset_into z (targeted t r size n) < length z.bytes → PlacesIn r z.number size
    by_target r None size n own target placed below = absurd cc
    by_target r (Some (section, value)) size n own target placed below =
        by_section r section value size (wrapped (pos value +ℤ addend_of r.addend n) size) (section == z.number) own target refl below

    by_own : (r : Relocation) (k size n : ℕ) (b : Bool) → r.size ≡ Some k → (k == size) ≡ b
        → is_placed (if b then targeted r.target r size n else symbol_field r n) ≡ true
        → offset_into z (if b then targeted r.target r size n else symbol_field r n) < length z.bytes → PlacesIn r z.number size
    by_own r k size n false own same placed below = absurd cc
    by_own r k size n true own same placed below = by_target r r.target size n (own ∙ ap (λ (m : ℕ). Some m) (eqb-true k size same)) refl placed below

    by_size : (r : Relocation) (s : Option ℕ) (size n : ℕ) → r.size ≡ s → is_placed (relocated s r size n) ≡ true
        → offset_into z (relocated s r size n) < length z.bytes → PlacesIn r z.number size
    by_size r None size n own placed below = absurd cc
    by_size r (Some k) size n own placed below = by_own r k size n (k == size) own refl placed below

    by_first : (o : Option Relocation) (n : ℕ) → is_placed (field_by o (length p) n) ≡ true → offset_into z (field_by o (length p) n) < length z.bytes
        → PlacesBy o z.number (length p)
    by_first None n placed below = tt
    by_first (Some r) n placed below = by_size r r.size (length p) n refl placed below

-- an offset that lies in its section is no symbol
placed-inside : (z : Located) (f : Field) → offset_into z f < length z.bytes → is_placed f ≡ true
placed-inside z (Num n) lt = refl
placed-inside z (Into s n) lt = refl
placed-inside z (Sym s k a) lt = absurd (omega (arith, lt))

pub place-inside : (order : Order) (z : Located) (p : List Cell) → offset_of order z p < length z.bytes → IsPlace z.number p
unfolding offset_of
place-inside order z p below = place-read order z p (placed-inside z (field_of order p) below) below

-- a field keeps its size
moved-length : (p : List Cell) (q : Relocation) → length (with_relocation p q) ≡ length p
moved-length [] q = refl
moved-length (c ∷ cs) q = refl

pub length-put : (order : Order) (p : List Cell) (n : ℕ) → length (with_offset order p n) ≡ length p
unfolding with_offset
length-put order p n = by_first (first_relocation p)
  where
    by_same : (r : Relocation) (b : Bool) → length (if b then p else with_relocation p (moved_relocation r n)) ≡ length p
    by_same r true = refl
    by_same r false = moved-length p (moved_relocation r n)

    by_record : (r : Relocation) (a : Option ℤ) → length (by_addend a order r p n) ≡ length p
    by_record r None = length-with_bytes p _
    by_record r (Some a) = by_same r (wrapped (pos (symbol_value r.target) +ℤ a) (length p) == n)

    by_first : (o : Option Relocation) → length (with_offset_by o order p n) ≡ length p
    by_first None = length-with_bytes p (number_bytes order (length p) n)
    by_first (Some r) = by_record r r.addend

-- other bytes at the front of cells
pub front-bytes : (p : List Cell) (bs : List ℕ) → length bs ≤ length p → bytes_of (with_bytes p bs) ≡ bs ++ drop (length bs) (bytes_of p)
front-bytes [] [] le = refl
front-bytes [] (b ∷ bs) le = absurd (omega (arith, le))
front-bytes (c ∷ cs) [] le = refl
front-bytes (c ∷ cs) (b ∷ bs) le = ap (λ (l : List ℕ). b ∷ l) (front-bytes cs bs (omega (arith, le)))

-- an offset has a byte
pub width-some : (w : Width) → 0 < width_size w
width-some W32 = omega arith
width-some W64 = omega arith

pub sized-some : (n : ℕ) → (n == 4 || n == 8) ≡ true → 0 < n
sized-some zero e = absurd cc
sized-some (suc n) e = omega arith
