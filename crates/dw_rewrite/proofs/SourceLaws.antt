-- The offsets that fields of a section hold, and the numbers with which they say others.
use Rattle.std.proofs.Common.{Bool, true, ◌≡◌, ◌≢◌, ◌⊎◌, inl, inr, ℕ, ℤ, pos, ◌+ℤ◌, ◌-ℤ◌, ◌+◌, ◌%◌, ◌/◌, ◌^◌, ◌<◌, ◌≤◌, ◌==◌, [], ◌∷◌, length, Option, Some, None, refl, sym, ap, ◌∙◌, subst, arith}
use Rattle.std.specs.Bool.{OnFalse, OnTrue}
use Rattle.std.specs.Int.{cast_signed}
use Rattle.std.specs.Prelude.{option_map}
use Rattle.std.proofs.lemmas.Bool.{OnFalse_from, OnTrue_from, eqb-false, eqb-true}
use Rattle.dw_base.specs.Cells.{Located, Relocation as CellRelocation, bytes_of, cells_at, offset_into, offset_of, wrapped}
use Rattle.dw_base.specs.Elf.{word_size}
use Rattle.dw_base.specs.FileViews.{View, field_at, section_bytes, view_cells}
use Rattle.dw_base.specs.NewOffsets.{moved_addend, symbol_value, with_offset}
use Rattle.dw_base.specs.Numbers.{number_bytes}
use Rattle.dw_base.specs.Relocs.{word_width}
use Rattle.dw_base.specs.declared.view_fields.Field.{Field}
use Rattle.dw_base.specs.declared.shared.Order.{Order}
use Rattle.dw_base.specs.declared.shared.Order.TheVariants.{Little, Big}
use Rattle.dw_base.proofs.ViewCellLaws.{length-view_cells}
use Rattle.dw_unit_fields.proofs.FieldOffsetLaws.{field-inside, offset-cells, offset-few, offset-some}
use Rattle.dw_meaning.specs.NewAddends.{AddendMakes, Makes, Misses}
use Rattle.dw_view.specs.Relocations.{relocation_value}
use Rattle.dw_view.specs.declared.fields.Relocation.{Relocation}

-- the offset that a field holds
pub offset-by : (v : View) (section place n offset : ℕ) (z : Located) (f : Field) → (n ≡ 4) ⊎ (n ≡ 8) → place + n ≤ length (view_cells v section)
    → f ≡ field_at v section place n → offset ≡ offset_into z f → offset ≡ offset_of v.order z (cells_at (view_cells v section) place n)
offset-by v section place n offset z f sized inside f_is is = offset-cells v section place n offset z sized inside (is ∙ ap (offset_into z) f_is)

pub ruleset offset_rules = (offset-some, offset-few, field-inside, offset-by)

-- what so many bytes hold of a number
list-four : (a b c d e f g h : ℕ) → a ≡ e → b ≡ f → c ≡ g → d ≡ h → a ∷ b ∷ c ∷ d ∷ [] ≡ e ∷ f ∷ g ∷ h ∷ []
list-four a b c d e f g h i j k l = rw (i, j, k, l) refl

low-four : (o : Order) (x : ℕ) → number_bytes o 4 (x % 4294967296) ≡ number_bytes o 4 x
low-four o x = by_order o
  where
    first : x % 4294967296 % 256 ≡ x % 256
    first = omega arith

    second : x % 4294967296 / 256 % 256 ≡ x / 256 % 256
    second = omega arith

    third : x % 4294967296 / 65536 % 256 ≡ x / 65536 % 256
    third = omega arith

    fourth : x % 4294967296 / 16777216 % 256 ≡ x / 16777216 % 256
    fourth = omega arith

    by_order : (p : Order) → number_bytes p 4 (x % 4294967296) ≡ number_bytes p 4 x
    by_order Little = list-four _ _ _ _ _ _ _ _ first second third fourth
    by_order Big = list-four _ _ _ _ _ _ _ _ fourth third second first

pub low-same : (o : Order) (size x y : ℕ) → size ≡ 4 → y ≡ x % 4294967296 → number_bytes o size y ≡ number_bytes o size x
low-same o size x y four is = rw (four, is) (low-four o x)

pub low-fits : (size x y : ℕ) → size ≡ 4 → y ≡ x % 4294967296 → y < 256 ^ size
low-fits size x y four is = rw (four, is) (omega arith)

pub whole-fits : (size x : ℕ) → (size ≡ 4) ⊎ (size ≡ 8) → (size ≡ 4 → ⊥) → x < 2 ^ 64 → x < 256 ^ size
whole-fits size x (inl four) other lt = absurd (other four)
whole-fits size x (inr eight) other lt = rw eight (omega (arith, lt))

pub ruleset low_rules = (low-same, low-fits, whole-fits)

-- the number with which a field says another offset
pub number-says : (v : View) (section place n number low offset : ℕ) → ((o : Order) → number_bytes o n low ≡ number_bytes o n number)
    → number_bytes v.order n number ≡ bytes_of (with_offset v.order (cells_at (view_cells v section) place n) offset)
    → number_bytes v.order n low ≡ bytes_of (with_offset v.order (cells_at (view_cells v section) place n) offset)
number-says v section place n number low offset same is = same v.order ∙ is

pub ruleset number_rules = (field-inside, number-says)

-- whether a field can say an offset
pub begins-before : (v : View) (section place n : ℕ) → (n ≡ 4) ⊎ (n ≡ 8) → place + n ≤ length (view_cells v section) → place < length (section_bytes v section)
begins-before v section place n sized inside =
    let size : length (view_cells v section) ≡ length (section_bytes v section) = length-view_cells v section in
    let some : 0 < n = offset-some n sized in
    omega (arith, inside, size, some)

pub addend-makes : (r : Relocation) (a : ℤ) (value size n : ℕ) (t : Bool) → r.addend ≡ Some a → value ≡ symbol_value r.target
    → t ≡ (wrapped (pos value +ℤ cast_signed (word_width r.class) (wrapped (pos n -ℤ pos value) (word_size r.class))) size == n) → OnTrue t (Makes (Some (relocation_value r)) size n)
addend-makes r a value size n t own value_is is = OnTrue_from t (Makes (Some (relocation_value r)) size n) (λ e. by_addend r.addend own (same e))
  where
    same : t ≡ true → wrapped (pos (symbol_value r.target) +ℤ moved_addend (relocation_value r) n) size ≡ n
    same e =
        subst (λ (x : ℕ). wrapped (pos x +ℤ cast_signed (word_width r.class) (wrapped (pos n -ℤ pos x) (word_size r.class))) size ≡ n) value_is
        (eqb-true (wrapped (pos value +ℤ cast_signed (word_width r.class) (wrapped (pos n -ℤ pos value) (word_size r.class))) size) n (sym is ∙ e))

    by_addend : (o : Option ℤ) → o ≡ Some a → wrapped (pos (symbol_value r.target) +ℤ moved_addend (relocation_value r) n) size ≡ n → AddendMakes o (relocation_value r) size n
    by_addend None e h = tt
    by_addend (Some b) e h = h

pub addend-misses : (r : Relocation) (a : ℤ) (value size n : ℕ) (t : Bool) → r.addend ≡ Some a → value ≡ symbol_value r.target
    → t ≡ (wrapped (pos value +ℤ cast_signed (word_width r.class) (wrapped (pos n -ℤ pos value) (word_size r.class))) size == n) → OnFalse t (Misses (Some (relocation_value r)) size n)
addend-misses r a value size n t own value_is is = OnFalse_from t (Misses (Some (relocation_value r)) size n) (λ e. record {
  relocation = relocation_value r;
  addend = a;
  begins = refl;
  own = own;
  other = subst (λ (x : ℕ). wrapped (pos x +ℤ cast_signed (word_width r.class) (wrapped (pos n -ℤ pos x) (word_size r.class))) size ≢ n) value_is
      (eqb-false (wrapped (pos value +ℤ cast_signed (word_width r.class) (wrapped (pos n -ℤ pos value) (word_size r.class))) size) n (sym is ∙ e));
})

pub none-makes : (r : Relocation) (size n : ℕ) → r.addend ≡ None → Makes (Some (relocation_value r)) size n
none-makes r size n none = by_addend r.addend none
  where
    by_addend : (o : Option ℤ) → o ≡ None → AddendMakes o (relocation_value r) size n
    by_addend None e = tt
    by_addend (Some b) e = absurd cc

pub ruleset addend_rules = (addend-makes, addend-misses, none-makes)

pub place-makes : (o : Option CellRelocation) (r : Relocation) (x : Option Relocation) (size n : ℕ) (t : Bool) → option_map relocation_value x ≡ o → x ≡ Some r
    → OnTrue t (Makes (Some (relocation_value r)) size n) → OnTrue t (Makes o size n)
place-makes o r x size n t is some h = subst (λ (y : Option CellRelocation). OnTrue t (Makes y size n)) (sym (ap (option_map relocation_value) some) ∙ is) h

pub place-misses : (o : Option CellRelocation) (r : Relocation) (x : Option Relocation) (size n : ℕ) (t : Bool) → option_map relocation_value x ≡ o → x ≡ Some r
    → OnFalse t (Misses (Some (relocation_value r)) size n) → OnFalse t (Misses o size n)
place-misses o r x size n t is some h = subst (λ (y : Option CellRelocation). OnFalse t (Misses y size n)) (sym (ap (option_map relocation_value) some) ∙ is) h

pub nothing-makes : (o : Option CellRelocation) (x : Option Relocation) (size n : ℕ) → option_map relocation_value x ≡ o → x ≡ None → Makes o size n
nothing-makes o x size n is none = subst (λ (y : Option CellRelocation). Makes y size n) (sym (ap (option_map relocation_value) none) ∙ is) tt

pub ruleset makes_rules = (place-makes, place-misses, nothing-makes)
