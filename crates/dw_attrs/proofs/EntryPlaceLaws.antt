-- Where the entries of units start, by their numbers, and which entry starts at a place.
use Rattle.std.proofs.Common.{Bool, true, false, ◌≡◌, ◌≢◌, ℕ, suc, ◌+◌, ◌<◌, ◌≤◌, List, [], ◌∷◌, ◌++◌, length, nat_le, nat_lt, Option, Some, None, refl, sym, ap, ◌∙◌, arith, if◌then◌else◌}
use Rattle.std.specs.Prelude.{◌==◌, ◌&&◌}
use Rattle.std.specs.Bool.{⊤}
use Rattle.std.proofs.lemmas.Bool.{ne_eqb, eq-eqb}
use Rattle.dw_base.specs.AbbreviationTables.{Abbreviation}
use Rattle.dw_base.specs.Cells.{Cell}
use Rattle.dw_base.specs.DebugData.{EntryPlace, place_by, entry_places}
use Rattle.dw_base.specs.EntryScans.{Scans, starts, null, entry, scanned}
use Rattle.dw_base.specs.Pieces.{Piece}
use Rattle.dw_base.specs.UnitStates.{UnitState}
use Rattle.dw_base.specs.ValueMeanings.{ValueMeaning, entry_of, found_entry}
use Rattle.dw_base.specs.declared.shared.Params.{Params}
use Rattle.dw_base.specs.declared.units.Scanned.{Scanned}
use Rattle.dw_base.specs.declared.units.UnitHeader.{UnitHeader}
use Rattle.dw_base.specs.declared.values.Spec.{Spec}
use Rattle.dw_base.specs.declared.values.Value.{Value}
use Rattle.dw_base.specs.Values.{value_at}
use Rattle.dw_attrs.specs.UnitValues.{entry_number}
use Rattle.dw_attrs.proofs.EntryListLaws.{spells-after}
use Rattle.dw_base.proofs.LebLaws.{uleb-inside, uleb-some}
use Rattle.dw_meaning.proofs.UnitRunLaws.{UnitSays, entries_out-more, entry_out-is}
use Rattle.dw_meaning.specs.PieceRuns.{all_of, entry_out, entries_out, value_out, values_out, any_piece}

-- where a piece starts an entry
abbrev pub places_of : Piece UnitState → List EntryPlace
places_of x = place_by x.state.mode x.state x.cells

pub all-places : (xs : List (Piece UnitState)) → entry_places xs ≡ all_of places_of xs
all-places [] = refl
all-places (x ∷ xs) = ap (λ (es : List EntryPlace). place_by x.state.mode x.state x.cells ++ es) (all-places xs)

abbrev pub one_place : ℕ → ℕ → ℕ → ℕ → ℕ → Abbreviation → List EntryPlace
one_place section unit number place depth a = record { section = section; place = place; unit = unit; number = number } ∷ []

abbrev pub no_place : ℕ → ℕ → Spec → ℕ → Value → List EntryPlace
no_place number tag x place v = []

pub places-said : (cells : List Cell) (s : UnitState) → UnitSays any_piece places_of cells s (one_place s.section s.unit) no_place
places-said cells s = record {
  holds = λ m place e d k. tt;
  nulls = λ place e d p zero_. ap (λ (b : Bool). if b then [] else one_place s.section s.unit e place d (record { code = 0; tag = 0; children = false; specs = [] })) (eq-eqb _ 0 zero_);
  codes = λ place e d a p some listed. ap (λ (b : Bool). if b then [] else one_place s.section s.unit e place d a) (ne_eqb _ 0 some);
  forms = λ place e d n tag x xs p front. refl;
  owns = λ place e d n tag x xs v other is. refl;
  chosen = λ place e d n tag x xs v front c. refl;
}

-- the entries of a unit, numbered on
abbrev pub listed_places : ℕ → ℕ → ℕ → List Scanned → List EntryPlace
listed_places section unit number [] = []
listed_places section unit number (e ∷ es) = record { section = section; place = e.offset; unit = unit; number = number } ∷ listed_places section unit (number + 1) es

listed-more : (section unit n : ℕ) (items : List Scanned) (e : Scanned)
    → listed_places section unit n (items ++ e ∷ []) ≡ listed_places section unit n items ++ record { section = section; place = e.offset; unit = unit; number = n + length items } ∷ []
listed-more section unit n [] e =
    let same : n ≡ n + 0 = omega arith in
    ap (λ (k : ℕ). record { section = section; place = e.offset; unit = unit; number = k } ∷ []) same
listed-more section unit n (x ∷ xs) e =
    let same : n + 1 + length xs ≡ n + suc (length xs) = omega arith in
    ap (λ (ps : List EntryPlace). record { section = section; place = x.offset; unit = unit; number = n } ∷ ps)
    (listed-more section unit (n + 1) xs e
    ∙ ap (λ (k : ℕ). listed_places section unit (n + 1) xs ++ record { section = section; place = e.offset; unit = unit; number = k } ∷ []) same)

no-values : (params : Params) (bytes : List ℕ) (n tag : ℕ) (xs : List Spec) (place : ℕ) → values_out no_place params bytes n tag xs place ≡ []
no-values params bytes n tag [] place = refl
no-values params bytes n tag (x ∷ xs) place = by_value (value_at params x bytes place) (λ p. no-values params bytes n tag xs p)
  where
    by_value : (o : Option Value) → ((p : ℕ) → values_out no_place params bytes n tag xs p ≡ []) → value_out no_place (λ p. values_out no_place params bytes n tag xs p) n tag x place o ≡ []
    by_value None rest = refl
    by_value (Some v) rest = rest (place + v.size)

pub places-out : (h : UnitHeader) (table : List Abbreviation) (bytes : List ℕ) (section unit : ℕ) (items : List Scanned) (place depth : ℕ) → Scans h table bytes items place depth
    → entries_out (one_place section unit) no_place h.params table bytes 0 items ≡ listed_places section unit 0 items
places-out h table bytes section unit items place depth starts = refl
places-out h table bytes section unit all z d (null items place depth size s is) = places-out h table bytes section unit items place depth s
places-out h table bytes section unit all z d (entry items place depth after a s is root) =
    let here : entry_out (one_place section unit) no_place h.params table bytes (0 + length items) (scanned place depth a after)
    ≡ record { section = section; place = place; unit = unit; number = 0 + length items } ∷ [] =
    entry_out-is (one_place section unit) no_place h.params table bytes (0 + length items) place depth after a is
    ∙ ap (λ (ps : List EntryPlace). record { section = section; place = place; unit = unit; number = 0 + length items } ∷ ps)
    (no-values h.params bytes (0 + length items) a.tag a.specs (place + is.size)) in
    entries_out-more (one_place section unit) no_place h.params table bytes 0 items (scanned place depth a after)
    ∙ ap (λ (ps : List EntryPlace). ps ++ entry_out (one_place section unit) no_place h.params table bytes (0 + length items) (scanned place depth a after))
    (places-out h table bytes section unit items place depth s)
    ∙ ap (λ (ps : List EntryPlace). listed_places section unit 0 items ++ ps) here
    ∙ sym (listed-more section unit 0 items (scanned place depth a after))

-- an entry among those of a unit, or of those behind it
abbrev pub found_or : Option ℕ → ℕ → ValueMeaning → ValueMeaning
found_or None unit rest = rest
found_or (Some k) unit rest = entry_of unit k

pub found-listed : (section unit n place off s : ℕ) (items : List Scanned) (rest : List EntryPlace) → section ≡ s
    → found_entry (listed_places section unit n items ++ rest) s place off ≡ found_or (entry_number n place items) unit (found_entry rest s place off)
found-listed section unit n place off s [] rest e = refl
found-listed section unit n place off s (x ∷ xs) rest e =
    ap (λ (b : Bool). if b && x.offset == place then entry_of unit n else found_entry (listed_places section unit (n + 1) xs ++ rest) s place off) (eq-eqb section s e)
    ∙ by_test (x.offset == place) (found-listed section unit (n + 1) place off s xs rest e)
  where
    by_test : (b : Bool)
        → found_entry (listed_places section unit (n + 1) xs ++ rest) s place off ≡ found_or (entry_number (n + 1) place xs) unit (found_entry rest s place off)
        → (if true && b then entry_of unit n else found_entry (listed_places section unit (n + 1) xs ++ rest) s place off)
        ≡ found_or (if b then Some n else entry_number (n + 1) place xs) unit (found_entry rest s place off)
    by_test true step = refl
    by_test false step = step

pub found-elsewhere : (section unit n place off s : ℕ) (items : List Scanned) (rest : List EntryPlace) → (section == s) ≡ false
    → found_entry (listed_places section unit n items ++ rest) s place off ≡ found_entry rest s place off
found-elsewhere section unit n place off s [] rest e = refl
found-elsewhere section unit n place off s (x ∷ xs) rest e =
    ap (λ (b : Bool). if b && x.offset == place then entry_of unit n else found_entry (listed_places section unit (n + 1) xs ++ rest) s place off) e
    ∙ found-elsewhere section unit (n + 1) place off s xs rest e

-- entries lie in their unit
abbrev pub AllInside : ℕ → ℕ → List Scanned → Type 0
AllInside first end [] = ⊤
AllInside first end (e ∷ es) = (first ≤ e.offset) × (e.offset < end) × AllInside first end es

inside-more : (first end : ℕ) (items : List Scanned) (e : Scanned) → AllInside first end items → first ≤ e.offset → e.offset < end → AllInside first end (items ++ e ∷ [])
inside-more first end [] e all le lt = (le, lt, tt)
inside-more first end (x ∷ xs) e all le lt = (all.0, all.1, inside-more first end xs e all.2 le lt)

record Inside (h : UnitHeader) (bytes : List ℕ) (items : List Scanned) (place : ℕ) : Type 0 where
  reached : h.first ≤ place
  all : AllInside h.first (length bytes) items

scans-inside : (h : UnitHeader) (table : List Abbreviation) (bytes : List ℕ) (items : List Scanned) (place depth : ℕ) → Scans h table bytes items place depth → Inside h bytes items place
scans-inside h table bytes items place depth starts = record { reached = omega arith; all = tt }
scans-inside h table bytes all z d (null items place depth size s is) =
    let i : Inside h bytes items place = scans-inside h table bytes items place depth s in
    let reached = i.reached in
    record { reached = omega (arith, reached); all = i.all }
scans-inside h table bytes all z d (entry items place depth after a s is root) =
    let i : Inside h bytes items place = scans-inside h table bytes items place depth s in
    let reached = i.reached in
    let room : place + is.size ≤ length bytes = uleb-inside bytes place is.code is.size is.spells in
    let some : 0 < is.size = uleb-some bytes place is.code is.size is.spells in
    let values : place + is.size ≤ after = spells-after h.params bytes (place + is.size) a.specs after is.values in
    record {
      reached = omega (arith, reached, some, values);
      all = inside-more h.first (length bytes) items (scanned place depth a after) i.all reached (omega (arith, room, some));
    }

pub entries-inside : (h : UnitHeader) (table : List Abbreviation) (bytes : List ℕ) (items : List Scanned) (place depth : ℕ) → Scans h table bytes items place depth
    → AllInside h.first (length bytes) items
entries-inside h table bytes items place depth s = (scans-inside h table bytes items place depth s).all

-- no entry starts outside of its unit
number-before : (n place first end : ℕ) (items : List Scanned) → AllInside first end items → place < first → entry_number n place items ≡ None
number-before n place first end [] all lt = refl
number-before n place first end (x ∷ xs) all lt =
    let le = all.0 in
    let other : x.offset ≢ place = λ e. omega (arith, le, e, lt) in
    ap (λ (b : Bool). if b then Some n else entry_number (n + 1) place xs) (ne_eqb x.offset place other) ∙ number-before (n + 1) place first end xs all.2 lt

number-behind : (n place first end : ℕ) (items : List Scanned) → AllInside first end items → end ≤ place → entry_number n place items ≡ None
number-behind n place first end [] all le = refl
number-behind n place first end (x ∷ xs) all le =
    let lt = all.1 in
    let other : x.offset ≢ place = λ e. omega (arith, lt, e, le) in
    ap (λ (b : Bool). if b then Some n else entry_number (n + 1) place xs) (ne_eqb x.offset place other) ∙ number-behind (n + 1) place first end xs all.2 le

pub number-lies : (h : UnitHeader) (place end : ℕ) (items : List Scanned) → AllInside h.first end items → h.start ≤ h.first → end ≤ h.end
    → (if nat_le h.start place && nat_lt place h.end then entry_number 0 place items else None) ≡ entry_number 0 place items
number-lies h place end items all first short = by_start (nat_le h.start place) refl (nat_lt place h.end) refl
  where
    by_start : (a : Bool) → nat_le h.start place ≡ a → (b : Bool) → nat_lt place h.end ≡ b → (if a && b then entry_number 0 place items else None) ≡ entry_number 0 place items
    by_start false e b f =
        let lt : place < h.start = grind (arith, e) in
        sym (number-before 0 place h.first end items all (omega (arith, lt, first)))
    by_start true e false f =
        let le : h.end ≤ place = grind (arith, f) in
        sym (number-behind 0 place h.first end items all (omega (arith, le, short)))
    by_start true e true f = refl
