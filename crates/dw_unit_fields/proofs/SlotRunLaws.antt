-- Values by index go to the slots one after another: each marks its slot, or is the first that names none.
use Rattle.std.proofs.Common.{Bool, true, false, ◌≡◌, ℕ, suc, ◌+◌, ◌*◌, ◌<◌, ◌≤◌, ◌==◌, ◌&&◌, ◌||◌, List, [], ◌∷◌, ◌++◌, length, take, get_or, cond, Option, Some, None, refl, sym, ap, ◌∙◌, subst, arith}
use Rattle.std.proofs.Math.Seq.{take-suc}
use Rattle.std.proofs.lemmas.Bool.{leb-true}
use Rattle.std.proofs.lemmas.List.{take_all}
use Rattle.dw_base.specs.Cells.{Located}
use Rattle.dw_base.specs.Forms.{width_size}
use Rattle.dw_base.specs.StringOffsets.{has_slot, slot_in, slot_place, AreContributions, ContributionsUpTo, no_contributions, more_contributions}
use Rattle.dw_base.specs.declared.fault.Refusal.{Refusal}
use Rattle.dw_base.specs.declared.shared.Order.{Order}
use Rattle.dw_base.specs.declared.shared.Width.{Width}
use Rattle.dw_base.specs.declared.shared.Width.TheVariants.{W32, W64}
use Rattle.dw_base.specs.declared.string_offsets.Contribution.{Contribution}
use Rattle.dw_offsets.specs.NamedPlaces.{place_by, is_place, is_kind}
use Rattle.dw_offsets.specs.SlotMarks.{marked, IsMarked}
use Rattle.dw_unit_fields.specs.NamedSlots.{Slots, LieWithin, names_slot, name_slot, first_refusal, missing_at, missing_in, TakesIndexes, units_name, units_missing, TakesUnits}
use Rattle.dw_unit_fields.specs.TextPlaces.{AllBasesPlaced, BaseSource, UnitSays, indexes_in, unit_base_placed, unit_number}
use Rattle.dw_unit_fields.specs.declared.fields.TextIndex.{TextIndex}

-- contributions that can be read lie in their section
lie-more : (list : List Contribution) (c : Contribution) (n : ℕ) → LieWithin list n → c.end ≤ n → LieWithin (list ++ c ∷ []) n
lie-more [] c n all one = (one, tt)
lie-more (x ∷ xs) c n all one = (all.0, lie-more xs c n all.1 one)

lie-upto : (order : Order) (bytes : List ℕ) (list : List Contribution) (place : ℕ) → ContributionsUpTo order bytes list place → LieWithin list (length bytes)
lie-upto order bytes list place no_contributions = tt
lie-upto order bytes all end (more_contributions list c start before is) = lie-more list c (length bytes) (lie-upto order bytes list start before) is.within

pub contributions-lie : (order : Order) (z : Located) (list : List Contribution) (n : ℕ) → AreContributions order z list → n ≡ length z.bytes → LieWithin list n
contributions-lie order z list n are size = subst (LieWithin list) (sym size) (lie-upto order z.bytes list (length z.bytes) are)

-- so a slot of theirs lies there
slot-inside : (w : Width) (base index end n place : ℕ) → base + (index + 1) * width_size w ≤ end → end ≤ n → base + index * width_size w ≡ place → place < n
slot-inside W32 base index end n place fits within is = omega (arith, fits, within, is)
slot-inside W64 base index end n place fits within is = omega (arith, fits, within, is)

pub place-inside : (list : List Contribution) (base index n place : ℕ) → LieWithin list n → slot_place list base index ≡ Some place → place < n
unfolding slot_in
place-inside [] base index n place all e = absurd cc
place-inside (c ∷ cs) base index n place all e = by_base (c.base == base) (λ f. place-inside cs base index n place all.1 f) e
  where
    some-same : (a b : ℕ) → Some a ≡ Some b → a ≡ b
    some-same a b e = cc

    by_slot : (b : Bool) → has_slot c index ≡ b → cond b (Some (c.base + index * width_size c.width)) None ≡ Some place → place < n
    by_slot true has e =
        slot-inside c.width c.base index c.end n place (leb-true _ _ has) all.0 (some-same (c.base + index * width_size c.width) place e)
    by_slot false has e = absurd cc

    by_base : (b : Bool) → (slot_place cs base index ≡ Some place → place < n) → cond b (slot_in c index) (slot_place cs base index) ≡ Some place → place < n
    by_base true rest e = by_slot (has_slot c index) refl e
    by_base false rest e = rest e

by-inside : (list : List Contribution) (base : Option ℕ) (index n place : ℕ) → LieWithin list n → place_by base list index ≡ Some place → place < n
by-inside list None index n place all e = absurd cc
by-inside list (Some b) index n place all e = place-inside list b index n place all e

pub mark-inside : (list : List Contribution) (base : Option ℕ) (index n place : ℕ) (o : Option ℕ) → LieWithin list n → o ≡ place_by base list index → o ≡ Some place → place < n
mark-inside list base index n place o all is e = by-inside list base index n place all (sym is ∙ e)

-- a value that names a slot
or-none : (a b : Bool) → (a || (b || false)) ≡ (a || b)
or-none true b = refl
or-none false true = refl
or-none false false = refl

first-none : (o : Option Refusal) → o ≡ first_refusal o None
first-none None = refl
first-none (Some r) = refl

named-at : (path kind : Bool) (place at : ℕ) (o : Option ℕ) → o ≡ Some at → (is_kind kind path && at == place) ≡ (is_kind kind path && is_place o place)
named-at path kind place at o e = ap (λ (x : Option ℕ). is_kind kind path && is_place x place) (sym e)

not-named : (kind path : Bool) (place : ℕ) (o : Option ℕ) → o ≡ None → (is_kind kind path && is_place o place) ≡ false
not-named kind path place o e = ap (λ (x : Option ℕ). is_kind kind path && is_place x place) e ∙ never (is_kind kind path)
  where
    never : (b : Bool) → (b && false) ≡ false
    never true = refl
    never false = refl

pub one-named : (list : List Contribution) (old new : List ℕ) (missing : Option Refusal) (section : ℕ) (base : Option ℕ) (x : TextIndex) (o : Option ℕ) (place : ℕ)
    → o ≡ place_by base list x.index → o ≡ Some place → IsMarked old new x.path place
    → TakesIndexes section base (x ∷ []) (record { list = list; marks = old; missing = missing }) (record { list = list; marks = new; missing = missing })
one-named list old new missing section base x o place is some m =
    let named : place_by base list x.index ≡ Some place = sym is ∙ some in
    record {
      list_is = refl;
      marks = λ (kind : Bool) (at : ℕ). m.each kind at
          ∙ ap (λ (b : Bool). marked kind old at || b) (named-at x.path kind at place (place_by base list x.index) named)
          ∙ sym (or-none (marked kind old at) (names_slot kind base list x at));
      missing = first-none missing ∙ ap (first_refusal missing) (sym (ap (λ (y : Option ℕ). first_refusal (missing_at section x.place y) None) named));
    }

pub one-size : (old new : List ℕ) (path : Bool) (place : ℕ) → IsMarked old new path place → length new ≡ length old
one-size old new path place m = m.size

-- one that names none
first-some : (a : Option Refusal) (r : Refusal) → first_refusal a (first_refusal (Some r) None) ≡ first_refusal a (Some r)
first-some None r = refl
first-some (Some q) r = refl

pub one-missing : (list : List Contribution) (marks : List ℕ) (old new : Option Refusal) (section : ℕ) (base : Option ℕ) (x : TextIndex) (o : Option ℕ) (r : Refusal)
    → o ≡ place_by base list x.index → o ≡ None → missing_at section x.place None ≡ Some r → new ≡ first_refusal old (Some r)
    → TakesIndexes section base (x ∷ []) (record { list = list; marks = marks; missing = old }) (record { list = list; marks = marks; missing = new })
one-missing list marks old new section base x o r is none same kept =
    let absent : place_by base list x.index ≡ None = sym is ∙ none in
    record {
      list_is = refl;
      marks = λ (kind : Bool) (at : ℕ). by_mark (marked kind marks at) (names_slot kind base list x at) (not-named kind x.path at (place_by base list x.index) absent);
      missing =
          kept ∙ sym (first-some old r)
          ∙ ap (λ (y : Option Refusal). first_refusal old (first_refusal y None)) (sym (ap (missing_at section x.place) absent ∙ same));
    }
  where
    by_mark : (a b : Bool) → b ≡ false → a ≡ (a || (b || false))
    by_mark true b e = refl
    by_mark false true e = sym e
    by_mark false false e = refl

pub ruleset one_rules = (mark-inside, one-named, one-size, one-missing)

-- no value, and one more
or-false : (a : Bool) → a ≡ (a || false)
or-false true = refl
or-false false = refl

or-assoc : (a b c : Bool) → ((a || b) || c) ≡ (a || (b || c))
or-assoc true b c = refl
or-assoc false b c = refl

first-assoc : (a b c : Option Refusal) → first_refusal (first_refusal a b) c ≡ first_refusal a (first_refusal b c)
first-assoc None b c = refl
first-assoc (Some r) b c = refl

name_slot-append : (kind : Bool) (base : Option ℕ) (list : List Contribution) (xs ys : List TextIndex) (place : ℕ)
    → name_slot kind base list (xs ++ ys) place ≡ (name_slot kind base list xs place || name_slot kind base list ys place)
name_slot-append kind base list [] ys place = refl
name_slot-append kind base list (x ∷ xs) ys place =
    ap (λ (b : Bool). names_slot kind base list x place || b) (name_slot-append kind base list xs ys place)
    ∙ sym (or-assoc (names_slot kind base list x place) (name_slot kind base list xs place) (name_slot kind base list ys place))

missing_in-append : (section : ℕ) (base : Option ℕ) (list : List Contribution) (xs ys : List TextIndex)
    → missing_in section base list (xs ++ ys) ≡ first_refusal (missing_in section base list xs) (missing_in section base list ys)
missing_in-append section base list [] ys = refl
missing_in-append section base list (x ∷ xs) ys =
    ap (first_refusal (missing_at section x.place (place_by base list x.index))) (missing_in-append section base list xs ys)
    ∙ sym (first-assoc (missing_at section x.place (place_by base list x.index)) (missing_in section base list xs) (missing_in section base list ys))

pub indexes-none : (section : ℕ) (base : Option ℕ) (s : Slots) → TakesIndexes section base [] s s
indexes-none section base s = record { list_is = refl; marks = λ kind place. or-false (marked kind s.marks place); missing = first-none s.missing }

pub indexes-more : (section : ℕ) (base : Option ℕ) (xs ys : List TextIndex) (a b c : Slots) → TakesIndexes section base xs a b → TakesIndexes section base ys b c
    → TakesIndexes section base (xs ++ ys) a c
indexes-more section base xs ys a b c m n = record {
  list_is = n.list_is ∙ m.list_is;
  marks = λ (kind : Bool) (place : ℕ).
      n.marks kind place ∙ ap (λ (y : Bool). y || name_slot kind base b.list ys place) (m.marks kind place)
      ∙ ap (λ (list : List Contribution). (marked kind a.marks place || name_slot kind base a.list xs place) || name_slot kind base list ys place) m.list_is
      ∙ or-assoc (marked kind a.marks place) (name_slot kind base a.list xs place) (name_slot kind base a.list ys place)
      ∙ ap (λ (y : Bool). marked kind a.marks place || y) (sym (name_slot-append kind base a.list xs ys place));
  missing =
      n.missing ∙ ap (λ (y : Option Refusal). first_refusal y (missing_in section base b.list ys)) m.missing
      ∙ ap (λ (list : List Contribution). first_refusal (first_refusal a.missing (missing_in section base a.list xs)) (missing_in section base list ys)) m.list_is
      ∙ first-assoc a.missing (missing_in section base a.list xs) (missing_in section base a.list ys)
      ∙ ap (first_refusal a.missing) (sym (missing_in-append section base a.list xs ys));
}

-- the values of a list so far
pub indexes-step : (section : ℕ) (base : Option ℕ) (xs : List TextIndex) (i : ℕ) (x : TextIndex) (a b c : Slots) → i < length xs → x ≡ get_or xs i x
    → TakesIndexes section base (take i xs) a b → TakesIndexes section base (x ∷ []) b c → TakesIndexes section base (take (i + 1) xs) a c
indexes-step section base xs i x a b c lt is m n =
    let next : i + 1 ≡ suc i = omega arith in
    let more : take (i + 1) xs ≡ take i xs ++ x ∷ [] =
    ap (λ (k : ℕ). take k xs) next ∙ take-suc xs i x lt ∙ ap (λ (y : TextIndex). take i xs ++ y ∷ []) (sym is) in
    subst (λ (ys : List TextIndex). TakesIndexes section base ys a c) (sym more) (indexes-more section base (take i xs) (x ∷ []) a b c m n)

pub indexes-all : (section : ℕ) (base : Option ℕ) (xs : List TextIndex) (i : ℕ) (a b : Slots) → length xs ≤ i → TakesIndexes section base (take i xs) a b
    → TakesIndexes section base xs a b
indexes-all section base xs i a b end m = subst (λ (ys : List TextIndex). TakesIndexes section base ys a b) (take_all i xs end) m

pub ruleset all_rules = (indexes-none, indexes-step, indexes-all)

-- no unit, one unit, and more units
pub units-none : (g : BaseSource) (s : Slots) → TakesUnits g [] s s
units-none g s = record { placed = tt; list_is = refl; marks = λ kind place. or-false (marked kind s.marks place); missing = first-none s.missing }

pub units-one : (g : BaseSource) (u : UnitSays) (a b : Slots) → unit_base_placed g u ≡ true → TakesIndexes u.section (unit_number g u) (indexes_in u.places) a b → TakesUnits g (u ∷ []) a b
units-one g u a b placed t = record {
  placed = (placed, tt);
  list_is = t.list_is;
  marks = λ (kind : Bool) (place : ℕ).
      t.marks kind place ∙ sym (or-none (marked kind a.marks place) (name_slot kind (unit_number g u) a.list (indexes_in u.places) place));
  missing = t.missing ∙ ap (first_refusal a.missing) (first-none (missing_in u.section (unit_number g u) a.list (indexes_in u.places)));
}

units_name-append : (g : BaseSource) (kind : Bool) (list : List Contribution) (us vs : List UnitSays) (place : ℕ)
    → units_name g kind list (us ++ vs) place ≡ (units_name g kind list us place || units_name g kind list vs place)
units_name-append g kind list [] vs place = refl
units_name-append g kind list (u ∷ us) vs place =
    ap (λ (b : Bool). name_slot kind (unit_number g u) list (indexes_in u.places) place || b) (units_name-append g kind list us vs place)
    ∙ sym (or-assoc (name_slot kind (unit_number g u) list (indexes_in u.places) place) (units_name g kind list us place) (units_name g kind list vs place))

units_missing-append : (g : BaseSource) (list : List Contribution) (us vs : List UnitSays) → units_missing g list (us ++ vs) ≡ first_refusal (units_missing g list us) (units_missing g list vs)
units_missing-append g list [] vs = refl
units_missing-append g list (u ∷ us) vs =
    ap (first_refusal (missing_in u.section (unit_number g u) list (indexes_in u.places))) (units_missing-append g list us vs)
    ∙ sym (first-assoc (missing_in u.section (unit_number g u) list (indexes_in u.places)) (units_missing g list us) (units_missing g list vs))

placed-append : (g : BaseSource) (us vs : List UnitSays) → AllBasesPlaced g us → AllBasesPlaced g vs → AllBasesPlaced g (us ++ vs)
placed-append g [] vs all more = more
placed-append g (u ∷ us) vs all more = (all.0, placed-append g us vs all.1 more)

pub units-more : (g : BaseSource) (us vs : List UnitSays) (a b c : Slots) → TakesUnits g us a b → TakesUnits g vs b c → TakesUnits g (us ++ vs) a c
units-more g us vs a b c m n = record {
  placed = placed-append g us vs m.placed n.placed;
  list_is = n.list_is ∙ m.list_is;
  marks = λ (kind : Bool) (place : ℕ).
      n.marks kind place ∙ ap (λ (y : Bool). y || units_name g kind b.list vs place) (m.marks kind place)
      ∙ ap (λ (list : List Contribution). (marked kind a.marks place || units_name g kind a.list us place) || units_name g kind list vs place) m.list_is
      ∙ or-assoc (marked kind a.marks place) (units_name g kind a.list us place) (units_name g kind a.list vs place)
      ∙ ap (λ (y : Bool). marked kind a.marks place || y) (sym (units_name-append g kind a.list us vs place));
  missing =
      n.missing ∙ ap (λ (y : Option Refusal). first_refusal y (units_missing g b.list vs)) m.missing
      ∙ ap (λ (list : List Contribution). first_refusal (first_refusal a.missing (units_missing g a.list us)) (units_missing g list vs)) m.list_is
      ∙ first-assoc a.missing (units_missing g a.list us) (units_missing g a.list vs)
      ∙ ap (first_refusal a.missing) (sym (units_missing-append g a.list us vs));
}
