-- What an edit makes of cells has the relocations of the cells, each at its byte, with other addends alone: so the records of a section's
-- relocations can be written behind an edit that keeps its length.
use Rattle.std.proofs.Common.{Bool, true, false, ◌≡◌, ℕ, ℤ, zero, suc, pos, negsuc, ◌-◌, ◌^◌, ◌<◌, ◌==◌, nat_lt, if◌then◌else◌, List, [], ◌∷◌, ◌++◌, length, Option, None, Some, refl, sym, ap, subst, arith}
use Rattle.std.specs.Bool.{⊤}
use Rattle.std.specs.Prelude.{IfSome, ◌+ℤ◌, ◌-ℤ◌}
use Rattle.std.specs.Int.{cast_signed, w32, w64}
use Rattle.std.specs.Int.RustNames.{FitsSigned}
use Rattle.std.proofs.lemmas.Bool.{ltb-false, ltb-true}
use native.Mathlib.Nat.{mod-lt}
use Rattle.dw_base.specs.Cells.{Cell, Relocation, first_relocation, with_bytes, wrapped}
use Rattle.dw_base.specs.DebugData.{Around, line_table}
use Rattle.dw_base.specs.Elf.{word_size}
use Rattle.dw_base.specs.LineReadings.{starts_from}
use Rattle.dw_base.specs.Numbers.{number_bytes}
use Rattle.dw_base.specs.Pieces.{Piece, joined}
use Rattle.dw_base.specs.RelocChanges.{written}
use Rattle.dw_base.specs.RelocationFields.{relocation_at}
use Rattle.dw_base.specs.Relocs.{word_width}
use Rattle.dw_base.specs.Roles.{Role, fixed, inline_path, line_start, offset, role_of}
use Rattle.dw_base.specs.SectionRelocations.{RelocationSource}
use Rattle.dw_base.specs.SectionTexts.{edited_with}
use Rattle.dw_base.specs.NewOffsets.{by_addend, moved_addend, moved_relocation, symbol_value, with_offset, with_offset_by, with_relocation}
use Rattle.dw_base.specs.StringTables.{new_place}
use Rattle.dw_base.specs.TextChanges.{TableChanges, change_of, edited_all, edited_by, mention_at, moved_start}
use Rattle.dw_base.specs.UnitStates.{UnitState}
use Rattle.dw_base.specs.declared.debug_sections.DebugSection.TheVariants.{Line}
use Rattle.dw_base.specs.declared.shared.Class.{Class}
use Rattle.dw_base.specs.declared.shared.Class.TheVariants.{C32, C64}
use Rattle.dw_base.specs.declared.shared.Order.{Order}
use Rattle.dw_meaning.proofs.RecordMoveLaws.{AddendKept, Readdends, Stays}

-- a relocation of the class of its records, whose addend fits a word
abbrev pub FitsWord : RelocationSource → Option Relocation → Type 0
FitsWord g None = ⊤
FitsWord g (Some r) = (r.class ≡ g.class) × IfSome (written g.rela r.addend) (FitsSigned (word_width g.class))

abbrev pub AllFit : RelocationSource → List Cell → Type 0
AllFit g [] = ⊤
AllFit g (c ∷ cs) = FitsWord g c.relocation × AllFit g cs

-- cell by cell, a relocation stays at its byte
abbrev pub AllStay : RelocationSource → List Cell → List Cell → Type 0
AllStay g [] [] = ⊤
AllStay g [] (d ∷ ds) = ⊥
AllStay g (c ∷ cs) [] = ⊥
AllStay g (c ∷ cs) (d ∷ ds) = Stays g c.relocation d.relocation × AllStay g cs ds

-- so it is at each place, and there are as many cells
pub stay-at : (g : RelocationSource) (xs ys : List Cell) (p : ℕ) → AllStay g xs ys → Stays g (relocation_at xs p) (relocation_at ys p)
stay-at g [] [] zero h = refl
stay-at g [] [] (suc p) h = refl
stay-at g [] (y ∷ ys) p h = absurd h
stay-at g (x ∷ xs) [] p h = absurd h
stay-at g (x ∷ xs) (y ∷ ys) zero h = h.0
stay-at g (x ∷ xs) (y ∷ ys) (suc p) h = stay-at g xs ys p h.1

pub stay-length : (g : RelocationSource) (xs ys : List Cell) → AllStay g xs ys → length ys ≡ length xs
stay-length g [] [] h = refl
stay-length g [] (y ∷ ys) h = absurd h
stay-length g (x ∷ xs) [] h = absurd h
stay-length g (x ∷ xs) (y ∷ ys) h = ap suc (stay-length g xs ys h.1)

stay-append : (g : RelocationSource) (xs ys us vs : List Cell) → AllStay g xs ys → AllStay g us vs → AllStay g (xs ++ us) (ys ++ vs)
stay-append g [] [] us vs h k = k
stay-append g [] (y ∷ ys) us vs h k = absurd h
stay-append g (x ∷ xs) [] us vs h k = absurd h
stay-append g (x ∷ xs) (y ∷ ys) us vs h k = (h.0, stay-append g xs ys us vs h.1 k)

pub fit-parts : (g : RelocationSource) (xs ys : List Cell) → AllFit g (xs ++ ys) → AllFit g xs × AllFit g ys
fit-parts g [] ys h = (tt, h)
fit-parts g (x ∷ xs) ys h = let both = fit-parts g xs ys h.1 in ((h.0, both.0), both.1)

-- cells that stay as they are, or have other bytes
kept-self : (a : Option ℤ) → AddendKept a a
kept-self None = refl
kept-self (Some a) = tt

stays-self : (g : RelocationSource) (o : Option Relocation) → FitsWord g o → Stays g o o
stays-self g None h = refl
stays-self g (Some r) h = record { relocation = r; is = refl; same = refl; kept = kept-self r.addend; fits = h.1 }

pub all-self : (g : RelocationSource) (xs : List Cell) → AllFit g xs → AllStay g xs xs
all-self g [] h = tt
all-self g (x ∷ xs) h = (stays-self g x.relocation h.0, all-self g xs h.1)

all-bytes : (g : RelocationSource) (xs : List Cell) (bs : List ℕ) → AllFit g xs → AllStay g xs (with_bytes xs bs)
all-bytes g [] bs h = tt
all-bytes g (x ∷ xs) [] h = all-self g (x ∷ xs) h
all-bytes g (x ∷ xs) (b ∷ bs) h = (stays-self g x.relocation h.0, all-bytes g xs bs h.1)

-- a new addend fits its word
wrapped-lt : (z : ℤ) (size : ℕ) → 0 < 256 ^ size → wrapped z size < 256 ^ size
wrapped-lt (pos n) size some = mod-lt n some
wrapped-lt (negsuc n) size some = omega arith

cast-four : (x : ℕ) → x < 256 ^ 4 → FitsSigned w32 (cast_signed w32 x)
cast-four x lt = own (nat_lt x (2 ^ 31)) refl
  where
    own : (t : Bool) → nat_lt x (2 ^ 31) ≡ t → FitsSigned w32 (if t then pos x else negsuc (2 ^ 32 - suc x))
    own true e = record { sfits = ltb-true x (2 ^ 31) e }
    own false e = let le = ltb-false x (2 ^ 31) e in record { sfits = omega (arith, le, lt) }

cast-eight : (x : ℕ) → x < 256 ^ 8 → FitsSigned w64 (cast_signed w64 x)
cast-eight x lt = own (nat_lt x (2 ^ 63)) refl
  where
    own : (t : Bool) → nat_lt x (2 ^ 63) ≡ t → FitsSigned w64 (if t then pos x else negsuc (2 ^ 64 - suc x))
    own true e = record { sfits = ltb-true x (2 ^ 63) e }
    own false e = let le = ltb-false x (2 ^ 63) e in record { sfits = omega (arith, le, lt) }

pub word-fits : (c : Class) (x : ℕ) → x < 256 ^ word_size c → FitsSigned (word_width c) (cast_signed (word_width c) x)
word-fits C32 x lt = cast-four x lt
word-fits C64 x lt = cast-eight x lt

word-some : (c : Class) → 0 < 256 ^ word_size c
word-some C32 = omega arith
word-some C64 = omega arith

addend-fits-by : (c : Class) (z : ℤ) → FitsSigned (word_width c) (cast_signed (word_width c) (wrapped z (word_size c)))
addend-fits-by c z = word-fits c (wrapped z (word_size c)) (wrapped-lt z (word_size c) (word-some c))

addend-written : (g : RelocationSource) (r : Relocation) (n : ℕ) → r.class ≡ g.class
    → IfSome (written g.rela (Some (moved_addend r n))) (FitsSigned (word_width g.class))
addend-written g r n same = by_rela g.rela
  where
    by_rela : (rela : Bool) → IfSome (written rela (Some (moved_addend r n))) (FitsSigned (word_width g.class))
    by_rela false = tt
    by_rela true =
        subst (λ (c : Class). FitsSigned (word_width c) (moved_addend r n)) same (addend-fits-by r.class (pos n -ℤ pos (symbol_value r.target)))

-- a field with another offset
moved-stays : (g : RelocationSource) (p : List Cell) (r : Relocation) (a : ℤ) (n : ℕ) → first_relocation p ≡ Some r → r.addend ≡ Some a → AllFit g p
    → AllStay g p (with_relocation p (moved_relocation r n))
moved-stays g [] r a n first own h = absurd cc
moved-stays g (c ∷ cs) r a n first own h =
    let fits : FitsWord g (Some r) = subst (FitsWord g) first h.0 in
    let moved : Readdends g r (Some (moved_relocation r n)) = record {
      relocation = moved_relocation r n;
      is = refl;
      same = refl;
      kept = subst (λ (o : Option ℤ). AddendKept o (Some (moved_addend r n))) (sym own) tt;
      fits = addend-written g r n fits.0;
    } in
    (subst (λ (o : Option Relocation). Stays g o (Some (moved_relocation r n))) (sym first) moved, all-self g cs h.1)

pub put-stays : (g : RelocationSource) (order : Order) (p : List Cell) (n : ℕ) → AllFit g p → AllStay g p (with_offset order p n)
unfolding with_offset
put-stays g order p n h = by_first (first_relocation p) refl
  where
    by_same : (r : Relocation) (a : ℤ) (b : Bool) → first_relocation p ≡ Some r → r.addend ≡ Some a
        → AllStay g p (if b then p else with_relocation p (moved_relocation r n))
    by_same r a true first own = all-self g p h
    by_same r a false first own = moved-stays g p r a n first own h

    by_record : (r : Relocation) (o : Option ℤ) → first_relocation p ≡ Some r → r.addend ≡ o → AllStay g p (by_addend o order r p n)
    by_record r None first own = all-bytes g p _ h
    by_record r (Some a) first own = by_same r a (wrapped (pos (symbol_value r.target) +ℤ a) (length p) == n) first own

    by_first : (o : Option Relocation) → first_relocation p ≡ o → AllStay g p (with_offset_by o order p n)
    by_first None first = all-bytes g p (number_bytes order (length p) n) h
    by_first (Some r) first = by_record r r.addend first refl

-- what becomes of cells of a role
pub edited-stays : (r : Role) (g : RelocationSource) (c : TableChanges) (around : Around) (p : List Cell) → AllFit g p → AllStay g p (edited_by r c around p)
edited-stays fixed g c around p h = all-self g p h
edited-stays (offset table path) g c around p h =
    put-stays g around.lasting.base.order p (new_place c.map (change_of c table) (mention_at around table path p)) h
edited-stays inline_path g c around p h = all-bytes g p _ h
edited-stays line_start g c around p h = by_table (line_table around p)
  where
    by_table : (o : Option ℕ) → AllStay g p (moved_start (starts_from 0 (c.new Line)) around.lasting.base.order o p)
    by_table None = all-self g p h
    by_table (Some k) = put-stays g around.lasting.base.order p _ h

-- the pieces of a section of units, and of one of roles
pub units-stay : (g : RelocationSource) (c : TableChanges) (around : Around) (xs : List (Piece UnitState)) → AllFit g (joined xs)
    → AllStay g (joined xs) (joined (edited_all c around xs))
units-stay g c around [] h = tt
units-stay g c around (x ∷ xs) h =
    let both = fit-parts g x.cells (joined xs) h in
    stay-append g x.cells (edited_by (role_of x) c around x.cells) (joined xs) (joined (edited_all c around xs))
    (edited-stays (role_of x) g c around x.cells both.0) (units-stay g c around xs both.1)

pub roles-stay : {S : Type 0} (role : S → Role) (g : RelocationSource) (c : TableChanges) (around : Around) (xs : List (Piece S)) → AllFit g (joined xs)
    → AllStay g (joined xs) (joined (edited_with role c around xs))
roles-stay role g c around [] h = tt
roles-stay role g c around (x ∷ xs) h =
    let both = fit-parts g x.cells (joined xs) h in
    stay-append g x.cells (edited_by (role x.state) c around x.cells) (joined xs) (joined (edited_with role c around xs))
    (edited-stays (role x.state) g c around x.cells both.0) (roles-stay role g c around xs both.1)
