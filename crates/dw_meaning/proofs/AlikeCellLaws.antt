-- What an edit makes of cells has the relocations of the cells but for their addends; so what reads of relocations stays, field by field.
use Rattle.std.specs.Bool.{⊤}
use Rattle.std.proofs.Common.{Bool, true, false, ◌≡◌, ℕ, ℤ, zero, suc, pos, ◌+◌, ◌<◌, ◌==◌, if◌then◌else◌, List, [], ◌∷◌, ◌++◌, drop, length, take, Option, None, Some, refl, sym, ap, ◌∙◌, subst}
use Rattle.std.specs.Prelude.{◌+ℤ◌, unwrap_or}
use Rattle.dw_base.specs.Cells.{Cell, Relocation, bytes_of, cells_at, field_by, field_of, first_relocation, is_placed, relocated, symbol_field, targeted, with_bytes, wrapped}
use Rattle.dw_base.specs.DebugData.{Around, line_table}
use Rattle.dw_base.specs.LineReadings.{starts_from}
use Rattle.dw_base.specs.NewOffsets.{by_addend, moved_relocation, symbol_value, with_offset, with_offset_by, with_relocation}
use Rattle.dw_base.specs.Numbers.{number_bytes, spelled}
use Rattle.dw_base.specs.Pieces.{Piece, joined}
use Rattle.dw_base.specs.RelocationFields.{relocation_at}
use Rattle.dw_base.specs.RelocationRows.{FieldPlace, FieldsRead, OffsetReads, lies_in}
use Rattle.dw_base.specs.Roles.{Role, fixed, inline_path, line_start, offset, role_of}
use Rattle.dw_base.specs.SectionTexts.{edited_with}
use Rattle.dw_base.specs.StringTables.{new_place}
use Rattle.dw_base.specs.TextChanges.{TableChanges, change_of, edited_all, edited_by, mention_at, moved_start}
use Rattle.dw_base.specs.UnitStates.{UnitState}
use Rattle.dw_base.specs.declared.debug_sections.DebugSection.TheVariants.{Line}
use Rattle.dw_base.specs.declared.shared.Order.{Order}

-- a relocation that has another addend alone
pub record SameButAddend (r : Relocation) (o : Option Relocation) : Type 0 where
  pub relocation : Relocation
  pub is : o ≡ Some relocation
  pub same : relocation ≡ record r { addend = relocation.addend }

abbrev pub Alike : Option Relocation → Option Relocation → Type 0
Alike None o = o ≡ None
Alike (Some r) o = SameButAddend r o

-- cell by cell
abbrev pub AllAlike : List Cell → List Cell → Type 0
AllAlike [] [] = ⊤
AllAlike [] (d ∷ ds) = ⊥
AllAlike (c ∷ cs) [] = ⊥
AllAlike (c ∷ cs) (d ∷ ds) = Alike c.relocation d.relocation × AllAlike cs ds

pub alike-append : (xs ys us vs : List Cell) → AllAlike xs ys → AllAlike us vs → AllAlike (xs ++ us) (ys ++ vs)
alike-append [] [] us vs h k = k
alike-append [] (y ∷ ys) us vs h k = absurd h
alike-append (x ∷ xs) [] us vs h k = absurd h
alike-append (x ∷ xs) (y ∷ ys) us vs h k = (h.0, alike-append xs ys us vs h.1 k)

self-alike : (o : Option Relocation) → Alike o o
self-alike None = refl
self-alike (Some r) = record { relocation = r; is = refl; same = refl }

pub alike-self : (xs : List Cell) → AllAlike xs xs
alike-self [] = tt
alike-self (x ∷ xs) = (self-alike x.relocation, alike-self xs)

alike-bytes : (xs : List Cell) (bs : List ℕ) → AllAlike xs (with_bytes xs bs)
alike-bytes [] bs = tt
alike-bytes (x ∷ xs) [] = alike-self (x ∷ xs)
alike-bytes (x ∷ xs) (b ∷ bs) = (self-alike x.relocation, alike-bytes xs bs)

alike-moved : (p : List Cell) (r : Relocation) (n : ℕ) → first_relocation p ≡ Some r → AllAlike p (with_relocation p (moved_relocation r n))
alike-moved [] r n first = absurd cc
alike-moved (c ∷ cs) r n first =
    let moved : SameButAddend r (Some (moved_relocation r n)) = record { relocation = moved_relocation r n; is = refl; same = refl } in
    (subst (λ (o : Option Relocation). Alike o (Some (moved_relocation r n))) (sym first) moved, alike-self cs)

pub alike-put : (order : Order) (p : List Cell) (n : ℕ) → AllAlike p (with_offset order p n)
unfolding with_offset
alike-put order p n = by_first (first_relocation p) refl
  where
    by_same : (r : Relocation) (b : Bool) → first_relocation p ≡ Some r → AllAlike p (if b then p else with_relocation p (moved_relocation r n))
    by_same r true first = alike-self p
    by_same r false first = alike-moved p r n first

    by_record : (r : Relocation) (o : Option ℤ) → first_relocation p ≡ Some r → AllAlike p (by_addend o order r p n)
    by_record r None first = alike-bytes p _
    by_record r (Some a) first = by_same r (wrapped (pos (symbol_value r.target) +ℤ a) (length p) == n) first

    by_first : (o : Option Relocation) → first_relocation p ≡ o → AllAlike p (with_offset_by o order p n)
    by_first None first = alike-bytes p (number_bytes order (length p) n)
    by_first (Some r) first = by_record r r.addend first

edited-alike : (r : Role) (c : TableChanges) (around : Around) (p : List Cell) → AllAlike p (edited_by r c around p)
edited-alike fixed c around p = alike-self p
edited-alike (offset table path) c around p = alike-put around.lasting.base.order p (new_place c.map (change_of c table) (mention_at around table path p))
edited-alike inline_path c around p = alike-bytes p _
edited-alike line_start c around p = by_table (line_table around p)
  where
    by_table : (o : Option ℕ) → AllAlike p (moved_start (starts_from 0 (c.new Line)) around.lasting.base.order o p)
    by_table None = alike-self p
    by_table (Some k) = alike-put around.lasting.base.order p _

pub units-alike : (c : TableChanges) (around : Around) (xs : List (Piece UnitState)) → AllAlike (joined xs) (joined (edited_all c around xs))
units-alike c around [] = tt
units-alike c around (x ∷ xs) =
    alike-append x.cells (edited_by (role_of x) c around x.cells) (joined xs) (joined (edited_all c around xs)) (edited-alike (role_of x) c around x.cells)
    (units-alike c around xs)

pub roles-alike : {S : Type 0} (role : S → Role) (c : TableChanges) (around : Around) (xs : List (Piece S)) → AllAlike (joined xs) (joined (edited_with role c around xs))
roles-alike role c around [] = tt
roles-alike role c around (x ∷ xs) =
    alike-append x.cells (edited_by (role x.state) c around x.cells) (joined xs) (joined (edited_with role c around xs)) (edited-alike (role x.state) c around x.cells)
    (roles-alike role c around xs)

-- at each place, behind it, and up to it
pub alike-at : (xs ys : List Cell) (p : ℕ) → AllAlike xs ys → Alike (relocation_at xs p) (relocation_at ys p)
alike-at [] [] zero h = refl
alike-at [] [] (suc p) h = refl
alike-at [] (y ∷ ys) p h = absurd h
alike-at (x ∷ xs) [] p h = absurd h
alike-at (x ∷ xs) (y ∷ ys) zero h = h.0
alike-at (x ∷ xs) (y ∷ ys) (suc p) h = alike-at xs ys p h.1

alike-drop : (n : ℕ) (xs ys : List Cell) → AllAlike xs ys → AllAlike (drop n xs) (drop n ys)
alike-drop zero xs ys h = h
alike-drop (suc n) [] [] h = tt
alike-drop (suc n) [] (y ∷ ys) h = absurd h
alike-drop (suc n) (x ∷ xs) [] h = absurd h
alike-drop (suc n) (x ∷ xs) (y ∷ ys) h = alike-drop n xs ys h.1

alike-take : (n : ℕ) (xs ys : List Cell) → AllAlike xs ys → AllAlike (take n xs) (take n ys)
alike-take zero xs ys h = tt
alike-take (suc n) [] [] h = tt
alike-take (suc n) [] (y ∷ ys) h = absurd h
alike-take (suc n) (x ∷ xs) [] h = absurd h
alike-take (suc n) (x ∷ xs) (y ∷ ys) h = (h.0, alike-take n xs ys h.1)

pub alike-length : (xs ys : List Cell) → AllAlike xs ys → length ys ≡ length xs
alike-length [] [] h = refl
alike-length [] (y ∷ ys) h = absurd h
alike-length (x ∷ xs) [] h = absurd h
alike-length (x ∷ xs) (y ∷ ys) h = ap suc (alike-length xs ys h.1)

-- a field is a place as it was
placed-same : (r : Relocation) (a : Option ℤ) (n x y : ℕ) → is_placed (field_by (Some r) n x) ≡ true → is_placed (field_by (Some (record r { addend = a })) n y) ≡ true
placed-same r a n x y placed = by_size r.size placed
  where
    by_target : (t : Option (ℕ × ℕ)) → is_placed (targeted t r n x) ≡ true → is_placed (targeted t (record r { addend = a }) n y) ≡ true
    by_target None e = absurd cc
    by_target (Some t) e = refl

    by_test : (b : Bool) → is_placed (if b then targeted r.target r n x else symbol_field r x) ≡ true
        → is_placed (if b then targeted r.target (record r { addend = a }) n y else symbol_field (record r { addend = a }) y) ≡ true
    by_test true e = by_target r.target e
    by_test false e = absurd cc

    by_size : (s : Option ℕ) → is_placed (relocated s r n x) ≡ true → is_placed (relocated s (record r { addend = a }) n y) ≡ true
    by_size None e = absurd cc
    by_size (Some k) e = by_test (k == n) e

by-alike : (o q : Option Relocation) (n x y : ℕ) → Alike o q → is_placed (field_by o n x) ≡ true → is_placed (field_by q n y) ≡ true
by-alike None q n x y h placed = ap (λ (f : Option Relocation). is_placed (field_by f n y)) h
by-alike (Some r) q n x y h placed =
    ap (λ (f : Option Relocation). is_placed (field_by f n y)) (h.is ∙ ap (λ (k : Relocation). Some k) h.same)
    ∙ placed-same r h.relocation.addend n x y placed

first-alike : (p q : List Cell) → AllAlike p q → Alike (first_relocation p) (first_relocation q)
first-alike [] [] h = refl
first-alike [] (d ∷ ds) h = absurd h
first-alike (c ∷ cs) [] h = absurd h
first-alike (c ∷ cs) (d ∷ ds) h = h.0

placed-alike : (order : Order) (p q : List Cell) → AllAlike p q → is_placed (field_of order p) ≡ true → is_placed (field_of order q) ≡ true
unfolding field_of
placed-alike order p q h placed =
    ap (λ (n : ℕ). is_placed (field_by (first_relocation q) n (spelled order (bytes_of q) 0 n))) (alike-length p q h)
    ∙ by-alike (first_relocation p) (first_relocation q) (length p) (spelled order (bytes_of p) 0 (length p)) (spelled order (bytes_of q) 0 (length p)) (first-alike p q h) placed

-- a relocation in the new cells is one of the old
record Was (xs : List Cell) (p : ℕ) (r : Relocation) : Type 0 where
  relocation : Relocation
  is : relocation_at xs p ≡ Some relocation
  size : r.size ≡ relocation.size
  target : r.target ≡ relocation.target

was-there : (xs ys : List Cell) (p : ℕ) (r : Relocation) → AllAlike xs ys → relocation_at ys p ≡ Some r → Was xs p r
was-there xs ys p r h e = by_old (relocation_at xs p) refl (alike-at xs ys p h)
  where
    by_old : (o : Option Relocation) → relocation_at xs p ≡ o → Alike o (relocation_at ys p) → Was xs p r
    by_old None is a = absurd cc
    by_old (Some q) is a =
        let same : a.relocation ≡ r = some-once a.relocation r (sym a.is ∙ e) in
        record {
          relocation = q;
          is = is;
          size = ap (λ (k : Relocation). k.size) (sym same) ∙ ap (λ (k : Relocation). k.size) a.same;
          target = ap (λ (k : Relocation). k.target) (sym same) ∙ ap (λ (k : Relocation). k.target) a.same;
        }
      where
        some-once : (x y : Relocation) → Some x ≡ Some y → x ≡ y
        some-once x y e = cc

-- so what reads of relocations does so again
pub offset-alike : (order : Order) (xs ys : List Cell) (f : FieldPlace) → AllAlike xs ys → OffsetReads order xs f → OffsetReads order ys f
offset-alike order xs ys f h reads = record {
  whole = λ p lies.
      let w : Was xs p lies.relocation = was-there xs ys p lies.relocation h lies.begins in
      reads.whole p (record {
        relocation = w.relocation;
        begins = w.is;
        before = lies.before;
        behind = subst (λ (n : Option ℕ). f.place < p + unwrap_or n 1) w.size lies.behind;
        other = lies.other;
      });
  placed = placed-alike order (cells_at xs f.place f.size) (cells_at ys f.place f.size)
      (alike-take f.size (drop f.place xs) (drop f.place ys) (alike-drop f.place xs ys h)) reads.placed;
}

pub fields-alike : (order : Order) (xs ys : List Cell) (moving : List ℕ) (fs : List FieldPlace) → AllAlike xs ys → FieldsRead order xs moving fs → FieldsRead order ys moving fs
fields-alike order xs ys moving fs h reads = record {
  offsets = λ f is own. offset-alike order xs ys f h (reads.offsets f is own);
  numbers = λ f p r is own begins before behind.
      let w : Was xs p r = was-there xs ys p r h begins in
      reads.numbers f p w.relocation is own w.is before behind;
  kept = λ p r begins lies.
      let w : Was xs p r = was-there xs ys p r h begins in
      reads.kept p w.relocation w.is (ap (lies_in moving) (sym w.target) ∙ lies);
}
