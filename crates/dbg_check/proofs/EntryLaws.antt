-- Units agree exactly where their entries do, one by one, each with its depth.
use Rattle.std.proofs.Common.{◌≡◌, ℕ, suc, ◌<◌, List, [], ◌∷◌, drop, map, refl, ap, sym, subst, ◌∙◌, arith}
use Rattle.dw_base.specs.Forests.{AttributeMeaning, Forest, no_entries, entry}
use Rattle.dw_base.specs.MappedUnits.{AttributesFit, ForestFits, mapped_attributes, mapped_forest}
use Rattle.dw_base.specs.Paths.{PathMap}
use Rattle.dw_base.specs.UnitMeanings.{UnitMeaning}
use Rattle.dbg_check.specs.Entries.{EntryMeaning, entries_before, all_entries, AttributeAgrees, EntryAgrees, EntriesAgree}
use Rattle.dbg_check.specs.Parts.{AgreeAll, UnitAgrees}

-- ### A forest is told by its entries

-- what stands behind a forest is nothing, or an entry that is less deep
abbrev pub Behind : ℕ → List EntryMeaning → Type 0
Behind d [] = Unit {0}
Behind d (x ∷ xs) = x.depth < d

abbrev front : List EntryMeaning → EntryMeaning
front [] = record { depth = 0; tag = 0; attributes = [] }
front (y ∷ ys) = y

behind-deeper : (d : ℕ) (r : List EntryMeaning) → Behind d r → Behind (suc d) r
behind-deeper d [] h = tt
behind-deeper d (x ∷ r) h = omega (arith, h)

-- behind the children of an entry stand its siblings
behind-children : (d : ℕ) (f : Forest) (r : List EntryMeaning) → Behind d r → Behind (suc d) (entries_before d f r)
behind-children d no_entries r h = behind-deeper d r h
behind-children d (entry tag attributes children siblings) r h = omega arith

-- equal lists of entries are those of one forest, with the same behind it
pub one-forest : (d : ℕ) (f g : Forest) (r s : List EntryMeaning) → Behind d r → Behind d s → entries_before d f r ≡ entries_before d g s → (f ≡ g) × (r ≡ s)
one-forest d no_entries no_entries r s h k e = (refl, e)
one-forest d no_entries (entry tag attributes children siblings) [] s h k e = cc
one-forest d no_entries (entry tag attributes children siblings) (x ∷ r) s h k e =
    let same : x.depth ≡ d = ap (λ (ms : List EntryMeaning). (front ms).depth) e in absurd (omega (arith, h, same))
one-forest d (entry tag attributes children siblings) no_entries r [] h k e = cc
one-forest d (entry tag attributes children siblings) no_entries r (x ∷ s) h k e =
    let same : d ≡ x.depth = ap (λ (ms : List EntryMeaning). (front ms).depth) e in absurd (omega (arith, k, same))
one-forest d (entry a xs c f) (entry b bs k g) r s h l e =
    let tags : a ≡ b = ap (λ (ms : List EntryMeaning). (front ms).tag) e in
    let attributes : xs ≡ bs = ap (λ (ms : List EntryMeaning). (front ms).attributes) e in
    let rest : entries_before (suc d) c (entries_before d f r) ≡ entries_before (suc d) k (entries_before d g s) = ap (λ (ms : List EntryMeaning). drop 1 ms) e in
    let inner = one-forest (suc d) c k (entries_before d f r) (entries_before d g s) (behind-children d f r h) (behind-children d g s l) rest in
    let outer = one-forest d f g r s h l inner.1 in
    (λ i. entry (tags i) (attributes i) (inner.0 i) (outer.0 i), outer.1)

pub forest-told : (f g : Forest) → all_entries f ≡ all_entries g → f ≡ g
forest-told f g e = (one-forest 0 f g [] [] tt tt e).0

-- ### Attributes, one by one

attributes-fit : (m : PathMap) (xs ys : List AttributeMeaning) → AgreeAll (AttributeAgrees m) xs ys → AttributesFit m xs
attributes-fit m [] [] all = tt
attributes-fit m [] (y ∷ ys) all = absurd all
attributes-fit m (x ∷ xs) [] all = absurd all
attributes-fit m (x ∷ xs) (y ∷ ys) all = (all.0.value.0, attributes-fit m xs ys all.1)

attributes-same : (m : PathMap) (xs ys : List AttributeMeaning) → AgreeAll (AttributeAgrees m) xs ys → mapped_attributes m xs ≡ ys
attributes-same m [] [] all = refl
attributes-same m [] (y ∷ ys) all = absurd all
attributes-same m (x ∷ xs) [] all = absurd all
attributes-same m (x ∷ xs) (y ∷ ys) all = λ i. record { name = all.0.name i; value = all.0.value.1 i } ∷ attributes-same m xs ys all.1 i

attributes-agree : (m : PathMap) (xs : List AttributeMeaning) → AttributesFit m xs → AgreeAll (AttributeAgrees m) xs (mapped_attributes m xs)
attributes-agree m [] fits = tt
attributes-agree m (x ∷ xs) fits = (record { name = refl; value = (fits.0, refl) }, attributes-agree m xs fits.1)

-- ### Entries, one by one

abbrev mapped_one : PathMap → EntryMeaning → EntryMeaning
mapped_one m x = record x { attributes = mapped_attributes m x.attributes }

abbrev EntriesFit : PathMap → List EntryMeaning → Type 0
EntriesFit m [] = Unit {0}
EntriesFit m (x ∷ xs) = AttributesFit m x.attributes × EntriesFit m xs

entries-mapped : (m : PathMap) (d : ℕ) (f : Forest) (r : List EntryMeaning) → entries_before d (mapped_forest m f) (map (mapped_one m) r) ≡ map (mapped_one m) (entries_before d f r)
entries-mapped m d no_entries r = refl
entries-mapped m d (entry tag attributes children siblings) r =
    ap (λ (xs : List EntryMeaning). record { depth = d; tag = tag; attributes = mapped_attributes m attributes } ∷ xs)
    (ap (entries_before (suc d) (mapped_forest m children)) (entries-mapped m d siblings r) ∙ entries-mapped m (suc d) children (entries_before d siblings r))

entries-fit : (m : PathMap) (d : ℕ) (f : Forest) (r : List EntryMeaning) → EntriesFit m (entries_before d f r) → ForestFits m f × EntriesFit m r
entries-fit m d no_entries r fits = (tt, fits)
entries-fit m d (entry tag attributes children siblings) r fits =
    let inner = entries-fit m (suc d) children (entries_before d siblings r) fits.1 in
    let outer = entries-fit m d siblings r inner.1 in
    ((fits.0, inner.0, outer.0), outer.1)

fit-entries : (m : PathMap) (d : ℕ) (f : Forest) (r : List EntryMeaning) → ForestFits m f → EntriesFit m r → EntriesFit m (entries_before d f r)
fit-entries m d no_entries r fits rest = rest
fit-entries m d (entry tag attributes children siblings) r fits rest =
    (fits.0, fit-entries m (suc d) children (entries_before d siblings r) fits.1 (fit-entries m d siblings r fits.2 rest))

agreed-fit : (m : PathMap) (xs ys : List EntryMeaning) → AgreeAll (EntryAgrees m) xs ys → EntriesFit m xs
agreed-fit m [] [] all = tt
agreed-fit m [] (y ∷ ys) all = absurd all
agreed-fit m (x ∷ xs) [] all = absurd all
agreed-fit m (x ∷ xs) (y ∷ ys) all = (attributes-fit m x.attributes y.attributes all.0.attributes, agreed-fit m xs ys all.1)

agreed-same : (m : PathMap) (xs ys : List EntryMeaning) → AgreeAll (EntryAgrees m) xs ys → map (mapped_one m) xs ≡ ys
agreed-same m [] [] all = refl
agreed-same m [] (y ∷ ys) all = absurd all
agreed-same m (x ∷ xs) [] all = absurd all
agreed-same m (x ∷ xs) (y ∷ ys) all = λ i.
    record { depth = all.0.depth i; tag = all.0.tag i; attributes = attributes-same m x.attributes y.attributes all.0.attributes i } ∷ agreed-same m xs ys all.1 i

fit-agree : (m : PathMap) (xs : List EntryMeaning) → EntriesFit m xs → AgreeAll (EntryAgrees m) xs (map (mapped_one m) xs)
fit-agree m [] fits = tt
fit-agree m (x ∷ xs) fits = (record { depth = refl; tag = refl; attributes = attributes-agree m x.attributes fits.0 }, fit-agree m xs fits.1)

-- ### Units

-- entries that agree one by one are those of units that agree
pub entries-agree : (m : PathMap) (u w : UnitMeaning) → EntriesAgree m u w → UnitAgrees m u w
entries-agree m u w agree =
    let fits = entries-fit m 0 u.entries [] (agreed-fit m (all_entries u.entries) (all_entries w.entries) agree.entries) in
    let same : mapped_forest m u.entries ≡ w.entries = forest-told (mapped_forest m u.entries) w.entries
    (entries-mapped m 0 u.entries [] ∙ agreed-same m (all_entries u.entries) (all_entries w.entries) agree.entries) in
    (fits.0, λ i. record { section = agree.section i; head = agree.head i; entries = same i })

-- and units that agree have such entries
pub agree-entries : (m : PathMap) (u w : UnitMeaning) → UnitAgrees m u w → EntriesAgree m u w
agree-entries m u w agree =
    let one : AgreeAll (EntryAgrees m) (all_entries u.entries) (map (mapped_one m) (all_entries u.entries)) =
    fit-agree m (all_entries u.entries) (fit-entries m 0 u.entries [] agree.0 tt) in
    let same : map (mapped_one m) (all_entries u.entries) ≡ all_entries w.entries =
    sym (entries-mapped m 0 u.entries []) ∙ ap (λ (x : UnitMeaning). all_entries x.entries) agree.1 in
    record {
      section = ap (λ (x : UnitMeaning). x.section) agree.1;
      head = ap (λ (x : UnitMeaning). x.head) agree.1;
      entries = subst (AgreeAll (EntryAgrees m) (all_entries u.entries)) same one;
    }
