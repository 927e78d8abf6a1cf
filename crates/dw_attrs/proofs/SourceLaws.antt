-- What units are read by again: texts, slots, tables and entries that values name.
use Rattle.std.proofs.Common.{Bool, true, false, zero, suc, ◌≡◌, ◌≢◌, ◌⊎◌, inl, inr, ℕ, ◌+◌, ◌-◌, ◌<◌, ◌≤◌, ◌^◌, List, [], ◌∷◌, length, drop, get_or, nat_le, nat_lt, Option, Some, None, refl, sym, ap, ◌∙◌, subst, arith, if◌then◌else◌}
use Rattle.std.specs.Prelude.{◌==◌, ◌&&◌, ◌||◌}
use Rattle.std.proofs.lemmas.Bool.{ne_eqb, eq-eqb, leb-true}
use Rattle.dw_base.specs.AbbreviationTables.{Abbreviation}
use Rattle.dw_base.specs.DebugData.{start_number}
use Rattle.dw_base.specs.FileViews.{View, field_at, section_bytes}
use Rattle.dw_base.specs.Forms.{width_size}
use Rattle.dw_base.specs.LineMeanings.{item_at}
use Rattle.dw_base.specs.Texts.{text, has_nul, text_in, ends_in}
use Rattle.dw_base.specs.declared.string_offsets.Contribution.{Contribution}
use Rattle.dw_base.specs.declared.view_fields.Field.TheVariants.{Num}
use Rattle.dw_starts.specs.LineStarts.{Rises}
use Rattle.dw_starts.specs.UnitPlaces.{place_key}
use Rattle.dw_offsets.specs.SlotSearch.{BasesRise, HasBase, IsBaseGap, base_at}
use Rattle.dw_attrs.specs.EntryIndexes.{AreBefore, EachRises, entries_at, unit_number, unit_offsets, unit_starts}
use Rattle.dw_attrs.specs.UnitValues.{UnitSource, lies_in, named_in, number_in, or_behind, slot_in, slot_size}
use Rattle.dw_attrs.specs.UnitReads.{EachReads, AllCanRead, SourceFits}
use Rattle.dw_units.specs.declared.listed_unit.ListedUnit.{ListedUnit}
use Rattle.dw_attrs.proofs.IndexEntryLaws.{each-rises, tabled-number}
use Rattle.dw_attrs.proofs.IndexUnitLaws.{here_at, named-first, named-last, starts-length, unit-starts-rise}

-- bytes without a NUL are a text
whole-text : (bs : List ℕ) → has_nul bs ≡ false → text bs ≡ bs
whole-text [] e = refl
whole-text (b ∷ bs) e = by_nul (b == 0) (whole-text bs) e
  where
    by_nul : (z : Bool) → (has_nul bs ≡ false → text bs ≡ bs) → (z || has_nul bs) ≡ false → (if z then [] else b ∷ text bs) ≡ b ∷ bs
    by_nul true step e = absurd cc
    by_nul false step e = ap (λ (xs : List ℕ). b ∷ xs) (step e)

pub text-unended : (bytes rest : List ℕ) (at : ℕ) → rest ≡ drop at bytes → ends_in bytes at ≡ false → rest ≡ text_in bytes at
unfolding text_in ends_in
text-unended bytes rest at r e = r ∙ sym (whole-text (drop at bytes) e)

pub ruleset text_laws = (text-unended)

-- the size of the slots of a base
size-found : (list : List Contribution) (base i : ℕ) (d : Contribution) → i < length list → base_at list i ≡ base → ((k : ℕ) → k < i → base_at list k ≢ base)
    → width_size (get_or list i d).width ≡ slot_size list base
size-found [] base i d lt e none = absurd (omega (arith, lt))
size-found (c ∷ cs) base zero d lt e none = sym (ap (λ (b : Bool). if b then width_size c.width else slot_size cs base) (eq-eqb c.base base e))
size-found (c ∷ cs) base (suc i) d lt e none =
    size-found cs base i d (omega (arith, lt)) e (λ k below. none (suc k) (omega (arith, below)))
    ∙ sym (ap (λ (b : Bool). if b then width_size c.width else slot_size cs base) (ne_eqb c.base base (none 0 (omega arith))))

size-absent : (list : List Contribution) (base : ℕ) → ((k : ℕ) → k < length list → base_at list k ≢ base) → 4 ≡ slot_size list base
size-absent [] base none = refl
size-absent (c ∷ cs) base none =
    size-absent cs base (λ k below. none (suc k) (omega (arith, below)))
    ∙ sym (ap (λ (b : Bool). if b then width_size c.width else slot_size cs base) (ne_eqb c.base base (none 0 (omega arith))))

pub size-there : (list : List Contribution) (base i : ℕ) (d : Contribution) → BasesRise list → HasBase list base i → width_size (get_or list i d).width ≡ slot_size list base
size-there list base i d rising has = size-found list base i d has.inside has.base_is (λ k lt same. omega (arith, rising.rise k i lt has.inside, has.base_is, same))

other-base : (list : List Contribution) (base i k : ℕ) → IsBaseGap list base i → k < length list → base_at list k ≢ base
other-base list base i k gap lt same = by_side (arith-split k i)
  where
    arith-split : (k i : ℕ) → (k < i) ⊎ (i ≤ k)
    arith-split k zero = inr (omega arith)
    arith-split zero (suc i) = inl (omega arith)
    arith-split (suc k) (suc i) = step (arith-split k i)
      where
        step : (k < i) ⊎ (i ≤ k) → (suc k < suc i) ⊎ (suc i ≤ suc k)
        step (inl h) = inl (omega (arith, h))
        step (inr h) = inr (omega (arith, h))

    by_side : (k < i) ⊎ (i ≤ k) → ⊥
    by_side (inl below) = omega (arith, gap.before k below, same)
    by_side (inr above) = omega (arith, gap.behind k above lt, same)

pub size-missing : (list : List Contribution) (base i : ℕ) → IsBaseGap list base i → 4 ≡ slot_size list base
size-missing list base i gap = size-absent list base (λ k lt. other-base list base i k gap lt)

pub ruleset size_laws = (size-there, size-missing)

-- units, one after another
pub each-reads : (v : View) (tables : List (List Abbreviation)) (us : List ListedUnit) (i : ℕ) (d : ListedUnit) → AllCanRead v tables us → i < length us → EachReads v tables (get_or us i d)
each-reads v tables [] i d all lt = absurd (omega (arith, lt))
each-reads v tables (u ∷ us) zero d all lt = all.0
each-reads v tables (u ∷ us) (suc i) d all lt = each-reads v tables us i d all.1 (omega (arith, lt))

-- no unit ends so far behind
pub past-none : (v : View) (tables : List (List Abbreviation)) (unit section place : ℕ) (us : List ListedUnit) → AllCanRead v tables us → 2 ^ 31 ≤ place
    → named_in v tables unit us section place ≡ None
past-none v tables unit section place [] all le = refl
past-none v tables unit section place (u ∷ us) all le =
    let short = all.0.short in
    let past : nat_lt place u.header.end ≡ false = not-below place u.header.end (omega (arith, short, le)) in
    ap (λ (b : Bool). or_behind unit (if u.header.section == section && nat_le u.header.start place && b then number_in v u.header place (item_at tables u.table) else None)
    (named_in v tables (unit + 1) us section place)) past
    ∙ ap (λ (b : Bool). or_behind unit (if b then number_in v u.header place (item_at tables u.table) else None) (named_in v tables (unit + 1) us section place))
    (and-false (u.header.section == section && nat_le u.header.start place))
    ∙ past-none v tables (unit + 1) section place us all.1 le
  where
    and-false : (b : Bool) → (b && false) ≡ false
    and-false true = refl
    and-false false = refl

    not-below : (x y : ℕ) → y ≤ x → nat_lt x y ≡ false
    not-below x y h = grind (arith, h)

-- the index of the units
pub index-rises : (g : UnitSource) → SourceFits g → Rises g.index.starts
index-rises g fits = subst Rises (sym fits.index.starts) (unit-starts-rise g.units fits.apart.end fits.apart.apart)

pub index-entries : (g : UnitSource) → SourceFits g → EachRises g.index.entries
index-entries g fits = subst EachRises (sym fits.index.entries) (each-rises g.view g.tables g.units fits.units)

pub before-is : (g : UnitSource) (key n : ℕ) → SourceFits g → AreBefore g.index.starts key n → AreBefore (unit_starts g.units) key n
before-is g key n fits b = subst (λ (xs : List ℕ). AreBefore xs key n) fits.index.starts b

pub before-inside : (g : UnitSource) (key n : ℕ) → SourceFits g → AreBefore g.index.starts key n → n ≤ length g.units
before-inside g key n fits b =
    let few = (before-is g key n fits b).inside in
    omega (arith, few, starts-length g.units)

pub ruleset before_laws = (index-rises, before-is, before-inside)

offsets-length : (v : View) (tables : List (List Abbreviation)) (us : List ListedUnit) → length (unit_offsets v tables us) ≡ length us
offsets-length v tables [] = refl
offsets-length v tables (u ∷ us) = ap suc (offsets-length v tables us)

pub entries-inside : (g : UnitSource) (k : ℕ) → SourceFits g → k < length g.units → k < length g.index.entries
entries-inside g k fits lt = omega (arith, lt, ap length fits.index.entries, offsets-length g.view g.tables g.units)

numbers-are : (v : View) (tables : List (List Abbreviation)) (us : List ListedUnit) (k place : ℕ) → start_number 0 (entries_at (unit_offsets v tables us) k) place ≡ unit_number v tables us k place
numbers-are v tables [] k place = refl
numbers-are v tables (u ∷ us) zero place = tabled-number v u.header place (item_at tables u.table)
numbers-are v tables (u ∷ us) (suc k) place = numbers-are v tables us k place

pub number-is : (g : UnitSource) (k place : ℕ) (o : Option ℕ) → SourceFits g → o ≡ start_number 0 (entries_at g.index.entries k) place → o ≡ unit_number g.view g.tables g.units k place
number-is g k place o fits e = e ∙ ap (λ (es : List (List ℕ)). start_number 0 (entries_at es k) place) fits.index.entries ∙ numbers-are g.view g.tables g.units k place

pub ruleset number_laws = (index-entries, entries-inside, number-is)

-- the entry that a place names
here-outside : (v : View) (tables : List (List Abbreviation)) (us : List ListedUnit) (k section place : ℕ) (d : ListedUnit) → k < length us
    → lies_in (get_or us k d).header section place ≡ false → here_at v tables us k section place ≡ None
here-outside v tables [] k section place d lt e = refl
here-outside v tables (u ∷ us) zero section place d lt e = ap (λ (b : Bool). if b then number_in v u.header place (item_at tables u.table) else None) e
here-outside v tables (u ∷ us) (suc k) section place d lt e = here-outside v tables us k section place d (omega (arith, lt)) e

here-inside : (v : View) (tables : List (List Abbreviation)) (us : List ListedUnit) (k section place : ℕ) (d : ListedUnit) → k < length us
    → lies_in (get_or us k d).header section place ≡ true → here_at v tables us k section place ≡ unit_number v tables us k place
here-inside v tables [] k section place d lt e = refl
here-inside v tables (u ∷ us) zero section place d lt e = ap (λ (b : Bool). if b then number_in v u.header place (item_at tables u.table) else None) e
here-inside v tables (u ∷ us) (suc k) section place d lt e = here-inside v tables us k section place d (omega (arith, lt)) e

pub named-far : (g : UnitSource) (section place : ℕ) → SourceFits g → 2 ^ 32 ≤ place → None ≡ named_in g.view g.tables 0 g.units section place
named-far g section place fits le = sym (past-none g.view g.tables 0 section place g.units fits.units (omega (arith, le)))

pub named-front : (g : UnitSource) (section place n : ℕ) → AreBefore (unit_starts g.units) (place_key section place) n → n ≡ 0 → None ≡ named_in g.view g.tables 0 g.units section place
named-front g section place n b e =
    sym (named-first g.view g.tables g.units section place (subst (AreBefore (unit_starts g.units) (place_key section place)) e b))

named-by : (g : UnitSource) (section place n : ℕ) (o : Option ℕ) → SourceFits g → AreBefore (unit_starts g.units) (place_key section place) n → 0 < n
    → here_at g.view g.tables g.units (n - 1) section place ≡ o → or_behind (n - 1) o None ≡ named_in g.view g.tables 0 g.units section place
named-by g section place n o fits b some e =
    sym (named-last g.view g.tables g.units fits.apart.end n section place fits.apart.apart b some ∙ ap (λ (x : Option ℕ). or_behind (n - 1) x None) e)

pub named-outside : (g : UnitSource) (section place n : ℕ) (d : ListedUnit) → SourceFits g → AreBefore (unit_starts g.units) (place_key section place) n → 0 < n → n ≤ length g.units
    → lies_in (get_or g.units (n - 1) d).header section place ≡ false → None ≡ named_in g.view g.tables 0 g.units section place
named-outside g section place n d fits b some le e =
    named-by g section place n None fits b some (here-outside g.view g.tables g.units (n - 1) section place d (omega (arith, some, le)) e)

pub named-none : (g : UnitSource) (section place n : ℕ) (d : ListedUnit) → SourceFits g → AreBefore (unit_starts g.units) (place_key section place) n → 0 < n → n ≤ length g.units
    → lies_in (get_or g.units (n - 1) d).header section place ≡ true → None ≡ unit_number g.view g.tables g.units (n - 1) place → None ≡ named_in g.view g.tables 0 g.units section place
named-none g section place n d fits b some le e is =
    named-by g section place n None fits b some (here-inside g.view g.tables g.units (n - 1) section place d (omega (arith, some, le)) e ∙ sym is)

pub named-some : (g : UnitSource) (section place n k : ℕ) (d : ListedUnit) → SourceFits g → AreBefore (unit_starts g.units) (place_key section place) n → 0 < n → n ≤ length g.units
    → lies_in (get_or g.units (n - 1) d).header section place ≡ true → Some k ≡ unit_number g.view g.tables g.units (n - 1) place
    → Some (n - 1, k) ≡ named_in g.view g.tables 0 g.units section place
named-some g section place n k d fits b some le e is =
    named-by g section place n (Some k) fits b some (here-inside g.view g.tables g.units (n - 1) section place d (omega (arith, some, le)) e ∙ sym is)

pub ruleset named_laws = (named-far, named-front, named-outside, named-none, named-some)

-- what a slot reads as
pub slot-none : (v : View) (section place size : ℕ) (bs : List ℕ) → bs ≡ section_bytes v section → false ≡ nat_le (place + size) (length bs) → Num 0 ≡ slot_in v section place size
slot-none v section place size bs is past =
    ap (λ (b : Bool). if b then field_at v section place size else Num 0) past ∙ ap (λ (xs : List ℕ). if nat_le (place + size) (length xs) then field_at v section place size else Num 0) is

pub slot-some : (v : View) (section place size : ℕ) (bs : List ℕ) → bs ≡ section_bytes v section → true ≡ nat_le (place + size) (length bs)
    → field_at v section place size ≡ slot_in v section place size
slot-some v section place size bs is room =
    ap (λ (b : Bool). if b then field_at v section place size else Num 0) room ∙ ap (λ (xs : List ℕ). if nat_le (place + size) (length xs) then field_at v section place size else Num 0) is

pub slot-inside : (v : View) (section place size : ℕ) (bs : List ℕ) → bs ≡ section_bytes v section → true ≡ nat_le (place + size) (length bs)
    → place + size ≤ length (section_bytes v section)
slot-inside v section place size bs is room =
    let inside = leb-true (place + size) (length bs) (sym room) in
    let same : length bs ≡ length (section_bytes v section) = ap length is in
    omega (arith, inside, same)

pub ruleset slot_laws = (slot-none, slot-some, slot-inside)
