-- Where the entries of a unit start: the places rise, and the number of the entry that starts at one is its number among them.
use Rattle.std.proofs.Common.{◌≡◌, ◌⊎◌, inl, inr, ℕ, zero, suc, ◌+◌, ◌<◌, ◌≤◌, ◌^◌, List, [], ◌∷◌, ◌++◌, length, take, get_or, Option, Some, None, refl, sym, ap, ◌∙◌, subst, arith, if◌then◌else◌}
use Rattle.std.specs.Bool.{⊤}
use Rattle.std.specs.Prelude.{◌==◌}
use Rattle.std.proofs.lemmas.List.{take_all, take_more}
use Rattle.dw_base.specs.AbbreviationTables.{Abbreviation}
use Rattle.dw_base.specs.DebugData.{start_number}
use Rattle.dw_base.specs.EntryScans.{Scans, starts, null, entry, scanned}
use Rattle.dw_base.specs.FileViews.{View}
use Rattle.dw_base.specs.LineMeanings.{item_at}
use Rattle.dw_base.specs.ViewData.{debug_data}
use Rattle.dw_base.specs.declared.units.Scanned.{Scanned}
use Rattle.dw_base.specs.declared.units.UnitHeader.{UnitHeader}
use Rattle.dw_entries.specs.ScanStates.{ScanState, GivesEntry, GivesNothing, scan_start}
use Rattle.dw_entries.specs.ViewUnits.{unit_section_at}
use Rattle.dw_starts.specs.LineStarts.{HasStart, IsStartGap, Rises}
use Rattle.dw_attrs.specs.EntryIndexes.{AreBefore, EachRises, IsIndexed, entries_at, offsets_of, start_key, tabled_offsets, unit_offsets, unit_starts}
use Rattle.dw_attrs.specs.UnitValues.{EntryIndex, entry_number, number_in, unit_bytes, unit_entries}
use Rattle.dw_attrs.specs.UnitReads.{AllCanRead, CanRead, EachReads}
use Rattle.dw_units.specs.declared.listed_unit.ListedUnit.{ListedUnit}
use Rattle.dw_attrs.proofs.EntryListLaws.{PassAt, entries-are, pass-ends, pass-first, pass-more, pass-scans, spells-after}
use Rattle.dw_attrs.proofs.EntryPlaceLaws.{AllInside, entries-inside}
use Rattle.dw_attrs.proofs.EntryPassLaws.{bytes-short}
use Rattle.dw_attrs.proofs.IndexUnitLaws.{Climbs, climbs-rise}
use Rattle.dw_attrs.proofs.UnitStartLaws.{unit-some}
use Rattle.dw_base.proofs.LebLaws.{uleb-some}
use Rattle.dw_units.specs.UnitLists.{IsTableOf, Units}
use Rattle.dw_units.proofs.UnitTableLaws.{unit-table}

-- the number of an entry is that of its place
pub number-offset : (n place : ℕ) (es : List Scanned) → start_number n (offsets_of es) place ≡ entry_number n place es
number-offset n place [] = refl
number-offset n place (e ∷ es) = ap (λ (o : Option ℕ). if e.offset == place then Some n else o) (number-offset (n + 1) place es)

-- the places of entries rise
offsets-more : (es : List Scanned) (e : Scanned) → offsets_of (es ++ e ∷ []) ≡ offsets_of es ++ e.offset ∷ []
offsets-more [] e = refl
offsets-more (x ∷ xs) e = ap (λ (os : List ℕ). x.offset ∷ os) (offsets-more xs e)

abbrev AllBelow : ℕ → List ℕ → Type 0
AllBelow p [] = ⊤
AllBelow p (x ∷ xs) = (x < p) × AllBelow p xs

below-raise : (p q : ℕ) (xs : List ℕ) → AllBelow p xs → p ≤ q → AllBelow q xs
below-raise p q [] all le = tt
below-raise p q (x ∷ xs) all le =
    let lt = all.0 in
    (omega (arith, lt, le), below-raise p q xs all.1 le)

below-more : (p : ℕ) (xs : List ℕ) (x : ℕ) → AllBelow p xs → x < p → AllBelow p (xs ++ x ∷ [])
below-more p [] x all lt = (lt, tt)
below-more p (y ∷ ys) x all lt = (all.0, below-more p ys x all.1 lt)

climbs-more : (p : ℕ) (xs : List ℕ) (x : ℕ) → Climbs p xs → AllBelow x xs → p ≤ x → Climbs p (xs ++ x ∷ [])
climbs-more p [] x c all le = (le, tt)
climbs-more p (y ∷ ys) x c all le =
    let lt = all.0 in
    (c.0, climbs-more (suc y) ys x c.1 all.1 (omega (arith, lt)))

record OffsetsTo (items : List Scanned) (place : ℕ) : Type 0 where
  climbs : Climbs 0 (offsets_of items)
  below : AllBelow place (offsets_of items)

scans-offsets : (h : UnitHeader) (table : List Abbreviation) (bytes : List ℕ) (items : List Scanned) (place depth : ℕ) → Scans h table bytes items place depth → OffsetsTo items place
scans-offsets h table bytes items place depth starts = record { climbs = tt; below = tt }
scans-offsets h table bytes all z d (null items place depth size s is) =
    let o : OffsetsTo items place = scans-offsets h table bytes items place depth s in
    record { climbs = o.climbs; below = below-raise place (place + size) (offsets_of items) o.below (omega arith) }
scans-offsets h table bytes all z d (entry items place depth after a s is root) =
    let o : OffsetsTo items place = scans-offsets h table bytes items place depth s in
    let some : 0 < is.size = uleb-some bytes place is.code is.size is.spells in
    let values : place + is.size ≤ after = spells-after h.params bytes (place + is.size) a.specs after is.values in
    let more : offsets_of (items ++ scanned place depth a after ∷ []) ≡ offsets_of items ++ place ∷ [] = offsets-more items (scanned place depth a after) in
    record {
      climbs = subst (Climbs 0) (sym more) (climbs-more 0 (offsets_of items) place o.climbs o.below (omega arith));
      below = subst (AllBelow after) (sym more)
          (below-more after (offsets_of items) place (below-raise place after (offsets_of items) o.below (omega (arith, values))) (omega (arith, some, values)));
    }

pub offsets-rise : (v : View) (h : UnitHeader) (table : List Abbreviation) → CanRead v h table → Rises (offsets_of (unit_entries h table (unit_bytes v h)))
offsets-rise v h table c =
    subst (λ (es : List Scanned). Rises (offsets_of es)) (sym (entries-are h table (unit_bytes v h) c.items (bytes-short v h) c.entries))
    (climbs-rise 0 (offsets_of c.items) (scans-offsets h table (unit_bytes v h) c.items h.end 0 c.entries).climbs)

none-rise : Rises []
none-rise = climbs-rise 0 [] tt

tabled-rise : (v : View) (tables : List (List Abbreviation)) (u : ListedUnit) (o : Option (List Abbreviation)) → item_at tables u.table ≡ o → EachReads v tables u
    → Rises (tabled_offsets v u.header o)
tabled-rise v tables u None e reads = none-rise
tabled-rise v tables u (Some table) e reads = offsets-rise v u.header table (reads.reads table e)

pub each-rises : (v : View) (tables : List (List Abbreviation)) (us : List ListedUnit) → AllCanRead v tables us → EachRises (unit_offsets v tables us)
each-rises v tables [] all = tt
each-rises v tables (u ∷ us) all = (tabled-rise v tables u (item_at tables u.table) refl all.0, each-rises v tables us all.1)

-- a pass that has kept the places of the entries that it met
pub record Kept (v : View) (h : UnitHeader) (table : List Abbreviation) (s : ScanState) (places : List ℕ) : Type 0 where
  pub number : ℕ
  pub pass : PassAt h table (unit_bytes v h) s number
  pub are : places ≡ offsets_of pass.items

pub kept-starts : (v : View) (h : UnitHeader) (table : List Abbreviation) (s : ScanState) (places : List ℕ) → s ≡ scan_start h table (unit_bytes v h) → places ≡ [] → Kept v h table s places
unfolding pass-first
kept-starts v h table s places e none =
    subst (λ (t : ScanState). Kept v h table t places) (sym e) (record { number = 0; pass = pass-first h table (unit_bytes v h); are = none })

pub kept-more : (v : View) (h : UnitHeader) (table : List Abbreviation) (s u : ScanState) (places more : List ℕ) (e : Scanned) (x : ℕ) → Kept v h table s places → GivesEntry s e u
    → x ≡ e.offset → more ≡ places ++ x ∷ [] → Kept v h table u more
unfolding pass-more
kept-more v h table s u places more e x k g same is = record {
  number = k.number + 1;
  pass = pass-more h table (unit_bytes v h) s u k.number e k.pass g;
  are = is ∙ ap (λ (y : ℕ). places ++ y ∷ []) same ∙ ap (λ (ps : List ℕ). ps ++ e.offset ∷ []) k.are ∙ sym (offsets-more k.pass.items e);
}

pub kept-over : (v : View) (h : UnitHeader) (table : List Abbreviation) (s u : ScanState) (places : List ℕ) → Kept v h table s places → GivesNothing s u
    → places ≡ offsets_of (unit_entries h table (unit_bytes v h))
kept-over v h table s u places k g = k.are ∙ ap offsets_of (sym (pass-ends h table (unit_bytes v h) s u k.number k.pass g (bytes-short v h)))

-- each place is small
last-inside : (first end : ℕ) (items : List Scanned) (e : Scanned) → AllInside first end (items ++ e ∷ []) → e.offset < end
last-inside first end [] e all = all.1
last-inside first end (x ∷ xs) e all = last-inside first end xs e all.2

pub entry-small : (v : View) (h : UnitHeader) (table : List Abbreviation) (s u : ScanState) (places : List ℕ) (e : Scanned) → Kept v h table s places → GivesEntry s e u → CanRead v h table
    → e.offset < 2 ^ 31
unfolding pass-more
entry-small v h table s u places e k g c =
    let p : PassAt h table (unit_bytes v h) u (k.number + 1) = pass-more h table (unit_bytes v h) s u k.number e k.pass g in
    let all : AllInside h.first (length (unit_bytes v h)) (k.pass.items ++ e ∷ []) =
    entries-inside h table (unit_bytes v h) (k.pass.items ++ e ∷ []) u.place u.depth (pass-scans h table (unit_bytes v h) u (k.pass.items ++ e ∷ []) p.unit_is p.table_is p.bytes_are p.given) in
    let lt = last-inside h.first (length (unit_bytes v h)) k.pass.items e all in
    omega (arith, lt, bytes-short v h, c.short)

-- the entries of units, one after another
pub entries-there : (es : List (List ℕ)) (k : ℕ) (d : List ℕ) → k < length es → get_or es k d ≡ entries_at es k
entries-there [] k d lt = absurd (omega (arith, lt))
entries-there (e ∷ es) zero d lt = refl
entries-there (e ∷ es) (suc k) d lt = entries-there es k d (omega (arith, lt))

pub entries-rise : (es : List (List ℕ)) (k : ℕ) (d : List ℕ) → k < length es → EachRises es → Rises (get_or es k d)
entries-rise [] k d lt all = absurd (omega (arith, lt))
entries-rise (e ∷ es) zero d lt all = all.0
entries-rise (e ∷ es) (suc k) d lt all = entries-rise es k d (omega (arith, lt)) all.1

pub tabled-number : (v : View) (h : UnitHeader) (place : ℕ) (o : Option (List Abbreviation)) → start_number 0 (tabled_offsets v h o) place ≡ number_in v h place o
tabled-number v h place None = refl
tabled-number v h place (Some table) = number-offset 0 place (unit_entries h table (unit_bytes v h))

pub ruleset kept_laws = (kept-starts, kept-more, kept-over, entry-small)

-- those of a unit with its own table
pub listed-offsets : (v : View) (us : Units) (n : ℕ) (u : ListedUnit) (t s : List Abbreviation) → IsTableOf us n t → item_at us.units n ≡ Some u → s ≡ t
    → offsets_of (unit_entries u.header s (unit_bytes v u.header)) ≡ tabled_offsets v u.header (item_at us.tables u.table)
listed-offsets v us n u t s of there same = ap (tabled_offsets v u.header) (sym (unit-table us n u t s of there same))

-- a unit starts in a section
pub start-small : (v : View) (tables : List (List Abbreviation)) (u : ListedUnit) → EachReads v tables u → u.header.start < 2 ^ 32
start-small v tables u reads =
    let short = reads.short in
    let some = unit-some (debug_data v).base (unit_section_at v u.header.section) reads.unit.start u.header reads.unit.is.header in
    omega (arith, short, some)

-- starts that a search found
pub count-found : (keys : List ℕ) (key at n : ℕ) → Rises keys → HasStart keys key at → n ≡ at + 1 → AreBefore keys key n
count-found keys key at n rises has e =
    subst (AreBefore keys key) (sym e) (record {
      inside = omega (arith, has.inside);
      before = λ k lt. at-most k (nat-split k at) lt;
      behind = λ k le lt. (let up = rises.rise at k (omega (arith, le)) lt in omega (arith, up, has.is));
    })
  where
    nat-split : (k m : ℕ) → (k < m) ⊎ (m ≤ k)
    nat-split k zero = inr (omega arith)
    nat-split zero (suc m) = inl (omega arith)
    nat-split (suc k) (suc m) = step (nat-split k m)
      where
        step : (k < m) ⊎ (m ≤ k) → (suc k < suc m) ⊎ (suc m ≤ suc k)
        step (inl h) = inl (omega (arith, h))
        step (inr h) = inr (omega (arith, h))

    at-most : (k : ℕ) → (k < at) ⊎ (at ≤ k) → k < at + 1 → get_or keys k 0 ≤ key
    at-most k (inl below) lt =
        let up = rises.rise k at below has.inside in
        omega (arith, up, has.is)
    at-most k (inr above) lt =
        let same : k ≡ at = omega (arith, above, lt) in
        let is : get_or keys k 0 ≡ get_or keys at 0 = ap (λ (i : ℕ). get_or keys i 0) same in
        omega (arith, is, has.is)

pub count-gap : (keys : List ℕ) (key n : ℕ) → IsStartGap keys key n → AreBefore keys key n
count-gap keys key n gap = record {
  inside = gap.inside;
  before = λ k lt. (let below = gap.before k lt in omega (arith, below));
  behind = λ k le lt. gap.behind k le lt;
}

pub ruleset count_laws = (count-found, count-gap)

-- the index of the units so far
pub index-start : (v : View) (tables : List (List Abbreviation)) (us : List ListedUnit) → IsIndexed v tables (take 0 us) (record { starts = []; entries = [] })
index-start v tables us = record { starts = refl; entries = refl }

starts-more : (us : List ListedUnit) (u : ListedUnit) → unit_starts (us ++ u ∷ []) ≡ unit_starts us ++ start_key u.header ∷ []
starts-more [] u = refl
starts-more (x ∷ xs) u = ap (λ (ks : List ℕ). start_key x.header ∷ ks) (starts-more xs u)

entries-more : (v : View) (tables : List (List Abbreviation)) (us : List ListedUnit) (u : ListedUnit)
    → unit_offsets v tables (us ++ u ∷ []) ≡ unit_offsets v tables us ++ tabled_offsets v u.header (item_at tables u.table) ∷ []
entries-more v tables [] u = refl
entries-more v tables (x ∷ xs) u = ap (λ (es : List (List ℕ)). tabled_offsets v x.header (item_at tables x.table) ∷ es) (entries-more v tables xs u)

pub index-more : (v : View) (tables : List (List Abbreviation)) (us : List ListedUnit) (i key : ℕ) (d : ListedUnit) (keys new_starts places : List ℕ) (entries new_entries : List (List ℕ))
    → IsIndexed v tables (take i us) (record { starts = keys; entries = entries }) → i < length us → key ≡ start_key (get_or us i d).header
    → places ≡ tabled_offsets v (get_or us i d).header (item_at tables (get_or us i d).table) → new_starts ≡ keys ++ key ∷ [] → new_entries ≡ entries ++ places ∷ []
    → IsIndexed v tables (take (i + 1) us) (record { starts = new_starts; entries = new_entries })
index-more v tables us i key d keys new_starts places entries new_entries x lt k p s e = record {
  starts = s ∙ ap (λ (n : ℕ). keys ++ n ∷ []) k ∙ ap (λ (ks : List ℕ). ks ++ start_key (get_or us i d).header ∷ []) x.starts
      ∙ sym (starts-more (take i us) (get_or us i d)) ∙ ap unit_starts (sym (take_more us i d lt));
  entries = e ∙ ap (λ (ps : List ℕ). entries ++ ps ∷ []) p
      ∙ ap (λ (es : List (List ℕ)). es ++ tabled_offsets v (get_or us i d).header (item_at tables (get_or us i d).table) ∷ []) x.entries
      ∙ sym (entries-more v tables (take i us) (get_or us i d)) ∙ ap (unit_offsets v tables) (sym (take_more us i d lt));
}

pub index-over : (v : View) (tables : List (List Abbreviation)) (us : List ListedUnit) (x : EntryIndex) → IsIndexed v tables (take (length us) us) x → IsIndexed v tables us x
index-over v tables us x i = subst (λ (ws : List ListedUnit). IsIndexed v tables ws x) (take_all (length us) us (omega arith)) i

pub index-reads : (v : View) (tables : List (List Abbreviation)) (us : List ListedUnit) (i : ℕ) (d : ListedUnit) → AllCanRead v tables us → i < length us → EachReads v tables (get_or us i d)
index-reads v tables [] i d all lt = absurd (omega (arith, lt))
index-reads v tables (u ∷ us) zero d all lt = all.0
index-reads v tables (u ∷ us) (suc i) d all lt = index-reads v tables us i d all.1 (omega (arith, lt))

pub ruleset index_laws = (index-start, index-more, index-over, index-reads)

pub entry-there : (es : List (List ℕ)) (k place : ℕ) (d : List ℕ) (o : Option ℕ) → k < length es → o ≡ start_number 0 (get_or es k d) place → o ≡ start_number 0 (entries_at es k) place
entry-there es k place d o lt e = e ∙ ap (λ (xs : List ℕ). start_number 0 xs place) (entries-there es k d lt)

pub ruleset there_laws = (entries-rise, entry-there)

-- how many entries a unit has
pub count-there : (es : List (List ℕ)) (k n : ℕ) (d : List ℕ) → k < length es → n ≡ length (get_or es k d) → n ≡ length (entries_at es k)
count-there es k n d lt is = is ∙ ap length (entries-there es k d lt)

pub count-past : (es : List (List ℕ)) (k : ℕ) → length es ≤ k → 0 ≡ length (entries_at es k)
count-past [] k le = refl
count-past (e ∷ es) zero le = absurd (omega (arith, le))
count-past (e ∷ es) (suc k) le = count-past es k (omega (arith, le))

pub ruleset counted_laws = (count-there, count-past)
