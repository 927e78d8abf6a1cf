-- What the units of debug data say by index, from the pass over them to the pieces: the slots that their values name, and the first
-- value that names none.
use Rattle.std.proofs.Common.{Bool, true, false, ◌≡◌, ◌≢◌, ℕ, ◌+◌, ◌<◌, ◌≤◌, ◌&&◌, ◌||◌, List, [], ◌∷◌, ◌++◌, length, replicate, Option, Some, None, refl, sym, ap, ◌∙◌, subst, arith, append_assoc}
use Rattle.std.proofs.lemmas.Bool.{eq-eqb, ne_eqb}
use Rattle.dw_base.specs.Cells.{Cell, Located, located_cells}
use Rattle.dw_base.specs.DebugData.{DebugData, ReadsAll, units_in}
use Rattle.dw_base.specs.FileViews.{View}
use Rattle.dw_base.specs.IndexFails.{no_slot}
use Rattle.dw_base.specs.Readings.{Readings}
use Rattle.dw_base.specs.Refusals.{Blames, at as refusal_at}
use Rattle.dw_base.specs.TextIndexes.{SaidBase, IndexUse, Indexing, EachUse, NamesSlot, all_bases, base_of, first_by, index_uses, placed_of, slot_of}
use Rattle.dw_base.specs.UnitHeaders.{UnitSection}
use Rattle.dw_base.specs.ViewData.{debug_data}
use Rattle.dw_base.specs.declared.debug_sections.DebugSection.TheVariants.{Info, StrOffsets}
use Rattle.dw_base.specs.declared.fault.Fault.{Fault}
use Rattle.dw_base.specs.declared.fault.Fault.TheVariants.{NoMemory, Refused}
use Rattle.dw_base.specs.declared.fault.Kind.TheVariants.{StringTable}
use Rattle.dw_base.specs.declared.fault.Refusal.{Refusal}
use Rattle.dw_base.specs.declared.string_offsets.Contribution.{Contribution}
use Rattle.dw_meaning.proofs.DataOneLaws.{readings-one}
use Rattle.dw_offsets.specs.NamedPlaces.{place_by, use_place, is_place, is_kind, names_place}
use Rattle.dw_offsets.specs.SlotMarks.{marked}
use Rattle.dw_offsets.proofs.NamedSlotLaws.{named-slot, no-slot}
use Rattle.dw_offsets.proofs.SlotMarkLaws.{marks-none}
use Rattle.dw_unit_fields.specs.IndexedTexts.{indexing_with, SlotsMarked, TextsIndexed, TextsRefuse, units, index, starts}
use Rattle.dw_unit_fields.specs.StartRows.{StartsRefuse, reads_none, says_none}
use Rattle.dw_unit_fields.specs.NamedSlots.{Slots, no_slots, name_slot, first_refusal, missing_at, missing_in, units_name, units_missing}
use Rattle.dw_unit_fields.specs.TextPlaces.{AllBasesPlaced, TextPlace, BaseSource, Indexed, base_number, base_offset, base_source, number_placed, number_said, said_placed, unit_base_placed, unit_number, no_index, no_start, unit_start, unit_base, text_index, UnitSays, SectionSays, base_or, base_in, base_at, bases_among, index_at, indexes_in, use_at, uses_among, numbered_uses, numbered_bases}
use Rattle.dw_unit_fields.specs.SectionFields.{SectionFields}
use Rattle.dw_unit_fields.specs.declared.fields.TextBase.{TextBase}
use Rattle.dw_unit_fields.specs.UnitTexts.{AllTaken, AllIndexed, UnitsRefuse, relocation_fails, units_taken}
use Rattle.dw_unit_fields.proofs.SectionRunLaws.{PlacedPieces, section-placed, sourced}

-- units that are numbered on
numbered_uses-append : (n : ℕ) (us vs : List UnitSays) → numbered_uses n (us ++ vs) ≡ numbered_uses n us ++ numbered_uses (n + length us) vs
numbered_uses-append n [] vs = ap (λ (k : ℕ). numbered_uses k vs) (omega arith)
numbered_uses-append n (u ∷ us) vs =
    ap (λ (xs : List IndexUse). uses_among u.section n u.places ++ xs)
    (numbered_uses-append (n + 1) us vs ∙ ap (λ (k : ℕ). numbered_uses (n + 1) us ++ numbered_uses k vs) (omega arith))
    ∙ sym (append_assoc (uses_among u.section n u.places) (numbered_uses (n + 1) us) (numbered_uses (n + length (u ∷ us)) vs))

numbered_bases-append : (g : BaseSource) (n : ℕ) (us vs : List UnitSays) → numbered_bases g n (us ++ vs) ≡ numbered_bases g n us ++ numbered_bases g (n + length us) vs
numbered_bases-append g n [] vs = ap (λ (k : ℕ). numbered_bases g k vs) (omega arith)
numbered_bases-append g n (u ∷ us) vs =
    ap (λ (xs : List SaidBase). bases_among g u.cells n u.places ++ xs)
    (numbered_bases-append g (n + 1) us vs ∙ ap (λ (k : ℕ). numbered_bases g (n + 1) us ++ numbered_bases g k vs) (omega arith))
    ∙ sym (append_assoc (bases_among g u.cells n u.places) (numbered_bases g (n + 1) us) (numbered_bases g (n + length (u ∷ us)) vs))

-- the readings of unit sections, with what their units say by index
record SaidReadings (d : DebugData) (first : ℕ) (zs : List UnitSection) (said : List UnitSays) : Type 0 where
  readings : Readings
  reads : ReadsAll d.base first zs readings
  uses : index_uses d.base.order readings ≡ numbered_uses first said
  bases : (y : Located) → all_bases d.base.order y readings ≡ numbered_bases (sourced d.base y) first said

said-readings : (d : DebugData) (first : ℕ) (zs : List UnitSection) (us : List SectionFields) → (all : AllTaken d zs us)
    → SaidReadings d first zs (units_taken d zs us all)
said-readings d first [] [] all = record { readings = []; reads = tt; uses = refl; bases = λ y. refl }
said-readings d first [] (u ∷ us) all = absurd all
said-readings d first (z ∷ zs) [] all = absurd all
said-readings d first (z ∷ zs) (u ∷ us) all =
    let s : SectionSays d z u = all.0.says in
    let p : PlacedPieces d.base z first s.places s.section.units = section-placed d.base z first s.section.list s.places s.section.units s.section.placed in
    let rest : SaidReadings d (first + units_in p.pieces) zs (units_taken d zs us all.1) = said-readings d (first + units_in p.pieces) zs us all.1 in
    let number : first + units_in p.pieces ≡ first + length s.section.units = ap (λ (n : ℕ). first + n) p.count in
    record {
      readings = record { number = z.number; pieces = p.pieces } ∷ rest.readings;
      reads = (refl, p.reads, rest.reads);
      uses =
          ap (λ (xs : List IndexUse). xs ++ index_uses d.base.order rest.readings) p.uses
          ∙ ap (λ (xs : List IndexUse). numbered_uses first s.section.units ++ xs)
          (rest.uses ∙ ap (λ (n : ℕ). numbered_uses n (units_taken d zs us all.1)) number)
          ∙ sym (numbered_uses-append first s.section.units (units_taken d zs us all.1));
      bases = λ (y : Located).
          ap (λ (xs : List SaidBase). xs ++ all_bases d.base.order y rest.readings) (p.bases y)
          ∙ ap (λ (xs : List SaidBase). numbered_bases (sourced d.base y) first s.section.units ++ xs)
          (rest.bases y ∙ ap (λ (n : ℕ). numbered_bases (sourced d.base y) n (units_taken d zs us all.1)) number)
          ∙ sym (numbered_bases-append (sourced d.base y) first s.section.units (units_taken d zs us all.1));
    }

-- what is asked of the base of a unit: of what its own values say, since those of others have other numbers
abbrev base_with : BaseSource → List Cell → ℕ → TextBase → SaidBase
base_with g cells n b = record { unit = n; base = base_number g cells b; placed = number_placed g cells b }

abbrev or_base : {X : Type 0} → (SaidBase → X) → BaseSource → List Cell → ℕ → Option TextBase → X → X
or_base ask g cells n None rest = rest
or_base ask g cells n (Some b) rest = ask (base_with g cells n b)

own-base : {X : Type 0} (ask : SaidBase → X) (none : X) (g : BaseSource) (cells : List Cell) (n : ℕ) (ts : List TextPlace) (rest : List SaidBase)
    → first_by ask none (bases_among g cells n ts ++ rest) n ≡ or_base ask g cells n (base_in ts) (first_by ask none rest n)
own-base ask none g cells n [] rest = refl
own-base ask none g cells n (t ∷ ts) rest =
    ap (λ (xs : List SaidBase). first_by ask none xs n) (append_assoc (base_at g cells n t.at t.len t.says) (bases_among g cells n ts) rest)
    ∙ by_says t.says (own-base ask none g cells n ts rest)
  where
    by_says : (i : Indexed) → first_by ask none (bases_among g cells n ts ++ rest) n ≡ or_base ask g cells n (base_in ts) (first_by ask none rest n)
        → first_by ask none (base_at g cells n t.at t.len i ++ (bases_among g cells n ts ++ rest)) n
        ≡ or_base ask g cells n (base_or t.at t.len i (base_in ts)) (first_by ask none rest n)
    by_says no_index e = e
    by_says no_start e = e
    by_says unit_start e = e
    by_says (text_index path x) e = e
    by_says (unit_base b) e = rw (eq-eqb n n refl) refl
    by_says base_offset e = rw (eq-eqb n n refl) refl

other-base : {X : Type 0} (ask : SaidBase → X) (none : X) (g : BaseSource) (cells : List Cell) (n m : ℕ) (ts : List TextPlace) (rest : List SaidBase) → n ≢ m
    → first_by ask none (bases_among g cells n ts ++ rest) m ≡ first_by ask none rest m
other-base ask none g cells n m [] rest other = refl
other-base ask none g cells n m (t ∷ ts) rest other =
    ap (λ (xs : List SaidBase). first_by ask none xs m) (append_assoc (base_at g cells n t.at t.len t.says) (bases_among g cells n ts) rest)
    ∙ by_says t.says (other-base ask none g cells n m ts rest other)
  where
    by_says : (i : Indexed) → first_by ask none (bases_among g cells n ts ++ rest) m ≡ first_by ask none rest m
        → first_by ask none (base_at g cells n t.at t.len i ++ (bases_among g cells n ts ++ rest)) m ≡ first_by ask none rest m
    by_says no_index e = e
    by_says no_start e = e
    by_says unit_start e = e
    by_says (text_index path x) e = e
    by_says (unit_base b) e = rw (ne_eqb n m other) e
    by_says base_offset e = rw (ne_eqb n m other) e

no-base : {X : Type 0} (ask : SaidBase → X) (none : X) (g : BaseSource) (n m : ℕ) (us : List UnitSays) → m < n → first_by ask none (numbered_bases g n us) m ≡ none
no-base ask none g n m [] lt = refl
no-base ask none g n m (u ∷ us) lt =
    other-base ask none g u.cells n m u.places (numbered_bases g (n + 1) us) (λ e. omega (arith, e, lt)) ∙ no-base ask none g (n + 1) m us (omega (arith, lt))

first-base : {X : Type 0} (ask : SaidBase → X) (none : X) (g : BaseSource) (n : ℕ) (u : UnitSays) (us : List UnitSays)
    → first_by ask none (numbered_bases g n (u ∷ us)) n ≡ or_base ask g u.cells n (base_in u.places) none
first-base ask none g n u us =
    own-base ask none g u.cells n u.places (numbered_bases g (n + 1) us) ∙ ap (or_base ask g u.cells n (base_in u.places)) (no-base ask none g (n + 1) n us (omega arith))

-- the bases that values go by are those of these units, from a number on
record BasesAre (g : BaseSource) (bs : List SaidBase) (n : ℕ) (us : List UnitSays) : Type 0 where
  each : (m : ℕ) → n ≤ m → base_of bs m ≡ base_of (numbered_bases g n us) m
  placed : (m : ℕ) → n ≤ m → placed_of bs m ≡ placed_of (numbered_bases g n us) m

bases-first : (g : BaseSource) (bs : List SaidBase) (n : ℕ) (u : UnitSays) (us : List UnitSays) → BasesAre g bs n (u ∷ us) → base_of bs n ≡ unit_number g u
bases-first g bs n u us b = b.each n (omega arith) ∙ first-base (λ (x : SaidBase). Some x.base) None g n u us ∙ by_base (base_in u.places)
  where
    by_base : (o : Option TextBase) → or_base (λ (x : SaidBase). Some x.base) g u.cells n o None ≡ number_said g u.cells o
    by_base None = refl
    by_base (Some t) = refl

placed-first : (g : BaseSource) (bs : List SaidBase) (n : ℕ) (u : UnitSays) (us : List UnitSays) → BasesAre g bs n (u ∷ us) → placed_of bs n ≡ unit_base_placed g u
placed-first g bs n u us b = b.placed n (omega arith) ∙ first-base (λ (x : SaidBase). x.placed) true g n u us ∙ by_base (base_in u.places)
  where
    by_base : (o : Option TextBase) → or_base (λ (x : SaidBase). x.placed) g u.cells n o true ≡ said_placed g u.cells o
    by_base None = refl
    by_base (Some t) = refl

bases-rest : (g : BaseSource) (bs : List SaidBase) (n : ℕ) (u : UnitSays) (us : List UnitSays) → BasesAre g bs n (u ∷ us) → BasesAre g bs (n + 1) us
bases-rest g bs n u us b = record {
  each = λ (m : ℕ) (le : n + 1 ≤ m).
      b.each m (omega (arith, le)) ∙ other-base (λ (x : SaidBase). Some x.base) None g u.cells n m u.places (numbered_bases g (n + 1) us) (λ (e : n ≡ m). omega (arith, e, le));
  placed = λ (m : ℕ) (le : n + 1 ≤ m).
      b.placed m (omega (arith, le)) ∙ other-base (λ (x : SaidBase). x.placed) true g u.cells n m u.places (numbered_bases g (n + 1) us) (λ (e : n ≡ m). omega (arith, e, le));
}

-- the slots that the values of a unit name
or-assoc : (a b c : Bool) → (a || (b || c)) ≡ ((a || b) || c)
or-assoc true b c = refl
or-assoc false b c = refl

unit-names : (kind : Bool) (g : Indexing) (section n : ℕ) (b : Option ℕ) (ts : List TextPlace) (rest : List IndexUse) (place : ℕ) → base_of g.bases n ≡ b
    → names_place kind g (uses_among section n ts ++ rest) place ≡ (name_slot kind b g.contributions (indexes_in ts) place || names_place kind g rest place)
unit-names kind g section n b [] rest place is = refl
unit-names kind g section n b (t ∷ ts) rest place is =
    ap (λ (xs : List IndexUse). names_place kind g xs place) (append_assoc (use_at section n t.at t.says) (uses_among section n ts) rest)
    ∙ by_says t.says (unit-names kind g section n b ts rest place is)
  where
    by_says : (i : Indexed)
        → names_place kind g (uses_among section n ts ++ rest) place ≡ (name_slot kind b g.contributions (indexes_in ts) place || names_place kind g rest place)
        → names_place kind g (use_at section n t.at i ++ (uses_among section n ts ++ rest)) place
        ≡ (name_slot kind b g.contributions (index_at t.at i ++ indexes_in ts) place || names_place kind g rest place)
    by_says no_index e = e
    by_says no_start e = e
    by_says unit_start e = e
    by_says (unit_base x) e = e
    by_says base_offset e = e
    by_says (text_index path x) e =
        ap (λ (y : Option ℕ). (is_kind kind path && is_place (place_by y g.contributions x) place) || names_place kind g (uses_among section n ts ++ rest) place) is
        ∙ ap (λ (y : Bool). (is_kind kind path && is_place (place_by b g.contributions x) place) || y) e
        ∙ or-assoc (is_kind kind path && is_place (place_by b g.contributions x) place) (name_slot kind b g.contributions (indexes_in ts) place) (names_place kind g rest place)

units-names : (o : BaseSource) (kind : Bool) (g : Indexing) (n : ℕ) (us : List UnitSays) (place : ℕ) → BasesAre o g.bases n us
    → names_place kind g (numbered_uses n us) place ≡ units_name o kind g.contributions us place
units-names o kind g n [] place b = refl
units-names o kind g n (u ∷ us) place b =
    unit-names kind g u.section n (unit_number o u) u.places (numbered_uses (n + 1) us) place (bases-first o g.bases n u us b)
    ∙ ap (λ (y : Bool). name_slot kind (unit_number o u) g.contributions (indexes_in u.places) place || y)
    (units-names o kind g (n + 1) us place (bases-rest o g.bases n u us b))

-- where none is missing, each names a slot
first-left : (a b : Option Refusal) → first_refusal a b ≡ None → a ≡ None
first-left None b e = refl
first-left (Some r) b e = e

first-right : (a b : Option Refusal) → first_refusal a b ≡ None → b ≡ None
first-right None b e = e
first-right (Some r) b e = absurd cc

none-missing : (section place : ℕ) (o : Option ℕ) → missing_at section place o ≡ None → (g : Indexing) (u : IndexUse) → use_place g u ≡ o → NamesSlot g u
none-missing section place None e g u is = absurd cc
none-missing section place (Some p) e g u is = named-slot g u p is

unit-named : (g : Indexing) (section n : ℕ) (b : Option ℕ) (ts : List TextPlace) (rest : List IndexUse) → base_of g.bases n ≡ b
    → missing_in section b g.contributions (indexes_in ts) ≡ None → EachUse (NamesSlot g) rest → EachUse (NamesSlot g) (uses_among section n ts ++ rest)
unit-named g section n b [] rest is none each = each
unit-named g section n b (t ∷ ts) rest is none each =
    subst (EachUse (NamesSlot g)) (sym (append_assoc (use_at section n t.at t.says) (uses_among section n ts) rest))
    (by_says t.says none (λ e. unit-named g section n b ts rest is e each))
  where
    by_says : (i : Indexed) → missing_in section b g.contributions (index_at t.at i ++ indexes_in ts) ≡ None
        → (missing_in section b g.contributions (indexes_in ts) ≡ None → EachUse (NamesSlot g) (uses_among section n ts ++ rest))
        → EachUse (NamesSlot g) (use_at section n t.at i ++ (uses_among section n ts ++ rest))
    by_says no_index e next = next e
    by_says no_start e next = next e
    by_says unit_start e next = next e
    by_says (unit_base x) e next = next e
    by_says base_offset e next = next e
    by_says (text_index path x) e next = (
      none-missing section t.at (place_by b g.contributions x)
          (first-left (missing_at section t.at (place_by b g.contributions x)) (missing_in section b g.contributions (indexes_in ts)) e)
          g (record { section = section; place = t.at; unit = n; path = path; index = x }) (ap (λ (y : Option ℕ). place_by y g.contributions x) is),
      next (first-right (missing_at section t.at (place_by b g.contributions x)) (missing_in section b g.contributions (indexes_in ts)) e),
    )

units-named : (o : BaseSource) (g : Indexing) (n : ℕ) (us : List UnitSays) → BasesAre o g.bases n us → units_missing o g.contributions us ≡ None → EachUse (NamesSlot g) (numbered_uses n us)
units-named o g n [] b none = tt
units-named o g n (u ∷ us) b none =
    let own : Option Refusal = missing_in u.section (unit_number o u) g.contributions (indexes_in u.places) in
    unit-named g u.section n (unit_number o u) u.places (numbered_uses (n + 1) us) (bases-first o g.bases n u us b)
    (first-left own (units_missing o g.contributions us) none)
    (units-named o g (n + 1) us (bases-rest o g.bases n u us b) (first-right own (units_missing o g.contributions us) none))

-- else the first that names none refuses
record FirstMissing (g : Indexing) (uses : List IndexUse) (r : Refusal) : Type 0 where
  before : List IndexUse
  behind : List IndexUse
  one : IndexUse
  split : uses ≡ before ++ one ∷ behind
  placed : placed_of g.bases one.unit ≡ true
  none : slot_of g one.unit one.index ≡ None
  is : r ≡ refusal_at StringTable one.section one.place

missing-behind : (g : Indexing) (xs uses : List IndexUse) (r : Refusal) → FirstMissing g uses r → FirstMissing g (xs ++ uses) r
missing-behind g xs uses r f = record {
  before = xs ++ f.before;
  behind = f.behind;
  one = f.one;
  split = ap (λ (ys : List IndexUse). xs ++ ys) f.split ∙ sym (append_assoc xs f.before (f.one ∷ f.behind));
  placed = f.placed;
  none = f.none;
  is = f.is;
}

missing-here : (g : Indexing) (uses : List IndexUse) (u : IndexUse) (o : Option ℕ) (r : Refusal) (other : Option Refusal) → placed_of g.bases u.unit ≡ true → use_place g u ≡ o
    → first_refusal (missing_at u.section u.place o) other ≡ Some r → (other ≡ Some r → FirstMissing g uses r) → FirstMissing g (u ∷ uses) r
missing-here g uses u None r other placed is e next =
    record { before = []; behind = uses; one = u; split = refl; placed = placed; none = no-slot g u is; is = same (refusal_at StringTable u.section u.place) r e }
  where
    same : (a b : Refusal) → Some a ≡ Some b → b ≡ a
    same a b e = cc
missing-here g uses u (Some p) r other placed is e next = missing-behind g (u ∷ []) uses r (next e)

unit-missing : (g : Indexing) (section n : ℕ) (b : Option ℕ) (ts : List TextPlace) (rest : List IndexUse) (r : Refusal) (other : Option Refusal) → placed_of g.bases n ≡ true
    → base_of g.bases n ≡ b → first_refusal (missing_in section b g.contributions (indexes_in ts)) other ≡ Some r → (other ≡ Some r → FirstMissing g rest r)
    → FirstMissing g (uses_among section n ts ++ rest) r
unit-missing g section n b [] rest r other placed is e next = next e
unit-missing g section n b (t ∷ ts) rest r other placed is e next =
    subst (λ (xs : List IndexUse). FirstMissing g xs r) (sym (append_assoc (use_at section n t.at t.says) (uses_among section n ts) rest))
    (by_says t.says e (λ f. unit-missing g section n b ts rest r other placed is f next))
  where
    first-assoc : (a c d : Option Refusal) → first_refusal (first_refusal a c) d ≡ first_refusal a (first_refusal c d)
    first-assoc None c d = refl
    first-assoc (Some q) c d = refl

    by_says : (i : Indexed) → first_refusal (missing_in section b g.contributions (index_at t.at i ++ indexes_in ts)) other ≡ Some r
        → (first_refusal (missing_in section b g.contributions (indexes_in ts)) other ≡ Some r → FirstMissing g (uses_among section n ts ++ rest) r)
        → FirstMissing g (use_at section n t.at i ++ (uses_among section n ts ++ rest)) r
    by_says no_index e more = more e
    by_says no_start e more = more e
    by_says unit_start e more = more e
    by_says (unit_base x) e more = more e
    by_says base_offset e more = more e
    by_says (text_index path x) e more =
        missing-here g (uses_among section n ts ++ rest) (record { section = section; place = t.at; unit = n; path = path; index = x }) (place_by b g.contributions x) r
        (first_refusal (missing_in section b g.contributions (indexes_in ts)) other) placed (ap (λ (y : Option ℕ). place_by y g.contributions x) is)
        (sym (first-assoc (missing_at section t.at (place_by b g.contributions x)) (missing_in section b g.contributions (indexes_in ts)) other) ∙ e) more

none-some : (r : Refusal) → None ≡ Some r → ⊥
none-some r e = cc

units-missing : (o : BaseSource) (g : Indexing) (n : ℕ) (us : List UnitSays) (r : Refusal) → BasesAre o g.bases n us → AllBasesPlaced o us → units_missing o g.contributions us ≡ Some r
    → FirstMissing g (numbered_uses n us) r
units-missing o g n [] r b placed e = absurd (none-some r e)
units-missing o g n (u ∷ us) r b placed e =
    unit-missing g u.section n (unit_number o u) u.places (numbered_uses (n + 1) us) r (units_missing o g.contributions us)
    (placed-first o g.bases n u us b ∙ placed.0) (bases-first o g.bases n u us b) e (λ f. units-missing o g (n + 1) us r (bases-rest o g.bases n u us b) placed.1 f)

-- the units of debug data that were read are these pieces, and go by these bases
record Said (d : DebugData) (list : List Contribution) (said : List UnitSays) (r : Readings) : Type 0 where
  uses : (indexing_with d list r).uses ≡ numbered_uses 0 said
  bases : BasesAre (base_source d) (indexing_with d list r).bases 0 said

said-by : (d : DebugData) (list : List Contribution) (us : List SectionFields) (r : Readings) → (all : AllTaken d (d.found Info) us) → ReadsAll d.base 0 (d.found Info) r
    → Said d list (units_taken d (d.found Info) us all) r
said-by d list us r all reads =
    let f : SaidReadings d 0 (d.found Info) (units_taken d (d.found Info) us all) = said-readings d 0 (d.found Info) us all in
    subst (Said d list (units_taken d (d.found Info) us all)) (readings-one d.base 0 (d.found Info) f.readings r f.reads reads) (record {
      uses = f.uses;
      bases = record {
        each = λ (m : ℕ) (le : 0 ≤ m). ap (λ (xs : List SaidBase). base_of xs m) (f.bases (located_cells (d.found StrOffsets)));
        placed = λ (m : ℕ) (le : 0 ≤ m). ap (λ (xs : List SaidBase). placed_of xs m) (f.bases (located_cells (d.found StrOffsets)));
      };
    })

-- nothing was marked at first
start-marks : (n : ℕ) (kind : Bool) (place : ℕ) (g : Indexing) → marked kind (replicate n 0) place ≡ false
start-marks n kind place g = (marks-none n g).each kind place

-- all slots are marked, where none was missing
marked-all : (d : DebugData) (list : List Contribution) (n : ℕ) (us : List SectionFields) (now : Slots)
    → AllIndexed d (d.found Info) us (no_slots list n) now → now.missing ≡ None → TextsIndexed d list now.marks
marked-all d list n us now all none = record {
  each = λ (r : Readings) (reads : ReadsAll d.base 0 (d.found Info) r). one r reads (said-by d list us r all.taken reads);
}
  where
    one : (r : Readings) → ReadsAll d.base 0 (d.found Info) r → Said d list (units_taken d (d.found Info) us all.taken) r → SlotsMarked (indexing_with d list r) now.marks
    one r reads s =
        let g : Indexing = indexing_with d list r in
        let said : List UnitSays = units_taken d (d.found Info) us all.taken in
        let missing : units_missing (base_source d) list said ≡ None = sym all.slots.missing ∙ none in
        record {
          named = subst (EachUse (NamesSlot g)) (sym s.uses) (units-named (base_source d) g 0 said s.bases missing);
          slots = record {
            each = λ (kind : Bool) (place : ℕ).
                all.slots.marks kind place
                ∙ ap (λ (b : Bool). b || units_name (base_source d) kind list said place) (start-marks n kind place g)
                ∙ sym (units-names (base_source d) kind g 0 said place s.bases)
                ∙ ap (λ (xs : List IndexUse). names_place kind g xs place) (sym s.uses);
          };
        }

-- and where one was, that is the row
missing-row : (d : DebugData) (list : List Contribution) (n : ℕ) (us : List SectionFields) (now : Slots) (r : Refusal)
    → AllIndexed d (d.found Info) us (no_slots list n) now → now.missing ≡ Some r → TextsRefuse d list r
missing-row d list n us now r all some =
    let said : List UnitSays = units_taken d (d.found Info) us all.taken in
    let f : SaidReadings d 0 (d.found Info) (units_taken d (d.found Info) us all.taken) = said-readings d 0 (d.found Info) us all.taken in
    let g : Indexing = indexing_with d list f.readings in
    let s : Said d list (units_taken d (d.found Info) us all.taken) f.readings = said-by d list us f.readings all.taken f.reads in
    let m : FirstMissing g (numbered_uses 0 said) r = units-missing (base_source d) g 0 said r s.bases all.slots.placed (sym all.slots.missing ∙ some) in
    subst (TextsRefuse d list) (sym m.is) (index f.readings f.reads (no_slot m.before m.behind m.one (s.uses ∙ m.split) m.placed m.none))

-- the same of the debug data of a view
pub whole-taken : (d : DebugData) (us : List SectionFields) (old now : Slots) → AllIndexed d (d.found Info) us old now → AllTaken d (d.found Info) us
whole-taken d us old now all = all.taken

pub whole-marked : (v : View) (us : List SectionFields) (old now : Slots) → AllIndexed (debug_data v) ((debug_data v).found Info) us old now
    → old ≡ no_slots old.list (length old.marks) → now.missing ≡ None → TextsIndexed (debug_data v) old.list now.marks
whole-marked v us old now all start none =
    marked-all (debug_data v) old.list (length old.marks) us now
    (subst (λ (s : Slots). AllIndexed (debug_data v) ((debug_data v).found Info) us s now) start all) none

pub whole-row : (v : View) (us : List SectionFields) (old now : Slots) (r : Refusal) → AllIndexed (debug_data v) ((debug_data v).found Info) us old now
    → old ≡ no_slots old.list (length old.marks) → now.missing ≡ Some r → TextsRefuse (debug_data v) old.list r
whole-row v us old now r all start some =
    missing-row (debug_data v) old.list (length old.marks) us now r
    (subst (λ (s : Slots). AllIndexed (debug_data v) ((debug_data v).found Info) us s now) start all) some

pub whole-refused : (d : DebugData) (list : List Contribution) (f : Fault) → Blames (UnitsRefuse d) f → Blames (TextsRefuse d list) f
whole-refused d list NoMemory b = tt
whole-refused d list (Refused r) b = units b

pub whole-strays : (d : DebugData) (list : List Contribution) (r : Refusal) → StartsRefuse d r → TextsRefuse d list r
whole-strays d list r (says_none f) = starts f
whole-strays d list r (reads_none f) = units (relocation_fails f)

pub ruleset whole_rules = (whole-taken, whole-marked, whole-row, whole-refused, whole-strays)
