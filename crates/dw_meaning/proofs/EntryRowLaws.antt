-- The entries of a unit are read in one way, and a refusal excludes them.
use Rattle.std.proofs.Common.{true, false, ◌≡◌, ◌≢◌, ℕ, ◌+◌, ◌-◌, ◌≤◌, List, [], ◌∷◌, ◌++◌, length, Option, Some, None, refl, sym, ap, ◌∙◌, subst, arith}
use Rattle.std.proofs.lemmas.List.{drop_all}
use Rattle.dw_base.specs.AbbreviationTables.{Abbreviation, abbreviation_of}
use Rattle.dw_base.specs.EntryScans.{SpellsValues, no_values, more_values, is_split_root, IsEntry, depth_behind, scanned, Scans, starts, null, entry, AreEntries, ValuesFail, value, EntryFails, code_passes, no_code, split, values, open_list}
use Rattle.dw_base.specs.Lebs.{uleb_at}
use Rattle.dw_base.specs.Values.{value_at}
use Rattle.dw_base.specs.declared.fault.Refusal.{Refusal}
use Rattle.dw_base.specs.declared.shared.Params.{Params}
use Rattle.dw_base.specs.declared.units.Scanned.{Scanned}
use Rattle.dw_base.specs.declared.units.UnitHeader.{UnitHeader}
use Rattle.dw_base.specs.declared.values.Spec.{Spec}
use Rattle.dw_base.specs.declared.values.Value.{Value}
use Rattle.dw_base.proofs.FormLaws.{form_fails-none}
use Rattle.dw_base.proofs.ReachLaws.{Reaches, here, reach-more, Determined, Stops, stops-one}
use Rattle.dw_meaning.specs.PieceRuns.{end_behind, values_end}

-- where more values end
pub values_end-append : (params : Params) (bytes : List ℕ) (xs ys : List Spec) (start place : ℕ) → values_end params bytes xs start ≡ Some place
    → values_end params bytes (xs ++ ys) start ≡ values_end params bytes ys place
values_end-append params bytes [] ys start place e = ap (values_end params bytes ys) (some-same start place e)
  where
    some-same : (a b : ℕ) → Some a ≡ Some b → a ≡ b
    some-same a b e = cc
values_end-append params bytes (x ∷ xs) ys start place e = by_value (value_at params x bytes start) (λ p f. values_end-append params bytes xs ys p place f) e
  where
    by_value : (o : Option Value) → ((p : ℕ) → values_end params bytes xs p ≡ Some place → values_end params bytes (xs ++ ys) p ≡ values_end params bytes ys place)
        → end_behind (λ p. values_end params bytes xs p) start o ≡ Some place
        → end_behind (λ p. values_end params bytes (xs ++ ys) p) start o ≡ values_end params bytes ys place
    by_value None step e = absurd cc
    by_value (Some v) step e = step (start + v.size) e

-- values that stand one after another end there
pub spells-end : (params : Params) (bytes : List ℕ) (start : ℕ) (xs : List Spec) (place : ℕ) → SpellsValues params bytes start xs place
    → values_end params bytes xs start ≡ Some place
spells-end params bytes start xs place no_values = refl
spells-end params bytes start xs z (more_values ys y place v s e) =
    values_end-append params bytes ys (y ∷ []) start place (spells-end params bytes start ys place s)
    ∙ ap (end_behind (λ p. Some p) place) e

-- so in one place
pub values-one : (params : Params) (bytes : List ℕ) (start : ℕ) (xs : List Spec) (p q : ℕ) → SpellsValues params bytes start xs p
    → SpellsValues params bytes start xs q → p ≡ q
values-one params bytes start xs p q a b =
    let left : values_end params bytes xs start ≡ Some p = spells-end params bytes start xs p a in
    let right : values_end params bytes xs start ≡ Some q = spells-end params bytes start xs q b in
    cc

-- values that can't be read don't end
pub values-exclude : (params : Params) (bytes : List ℕ) (section start : ℕ) (xs : List Spec) (place : ℕ) (r : Refusal)
    → SpellsValues params bytes start xs place → ValuesFail params bytes section start xs r → ⊥
values-exclude params bytes section start xs place r s (value before behind x at cut front f) =
    let none : value_at params x bytes at ≡ None = form_fails-none params x bytes section at r f in
    let all : values_end params bytes xs start ≡ Some place = spells-end params bytes start xs place s in
    let there : values_end params bytes before start ≡ Some at = spells-end params bytes start before at front in
    let rest : values_end params bytes (before ++ x ∷ behind) start ≡ values_end params bytes (x ∷ behind) at =
    values_end-append params bytes before (x ∷ behind) start at there in
    let stuck : values_end params bytes (x ∷ behind) at ≡ None = ap (end_behind (λ p. values_end params bytes behind p) at) none in
    let clash : values_end params bytes xs start ≡ None = ap (λ (ys : List Spec). values_end params bytes ys start) cut ∙ rest ∙ stuck in
    cc

-- entries that were read, up to a place, with so many lists open
record EntriesRead : Type 0 where
  items : List Scanned
  place : ℕ
  depth : ℕ

abbrev read_to : List Scanned → ℕ → ℕ → EntriesRead
read_to items place depth = record { items = items; place = place; depth = depth }

-- one more null, or entry
data NextEntry (h : UnitHeader) (table : List Abbreviation) (bytes : List ℕ) (s t : EntriesRead) : Type 0 where
  by_null : (size : ℕ) → uleb_at bytes s.place ≡ Some (0, size) → t ≡ read_to s.items (s.place + size) (s.depth - 1) → NextEntry h table bytes s t
  by_entry : (a : Abbreviation) (after : ℕ) → IsEntry h.params table bytes s.place a after → is_split_root (length s.items) a ≡ false
      → t ≡ read_to (s.items ++ scanned s.place s.depth a after ∷ []) after (depth_behind a s.depth) → NextEntry h table bytes s t

read-same : (a b : ℕ × ℕ) (o : Option (ℕ × ℕ)) → o ≡ Some a → o ≡ Some b → a ≡ b
read-same a b o e f = cc

listed-same : (a b : Abbreviation) (o : Option Abbreviation) → o ≡ Some a → o ≡ Some b → a ≡ b
listed-same a b o e f = cc

-- the abbreviation of an entry at a place, and where its values end
abbreviation-same : (params : Params) (table : List Abbreviation) (bytes : List ℕ) (place : ℕ) (a b : Abbreviation) (p q : ℕ)
    → IsEntry params table bytes place a p → IsEntry params table bytes place b q → a ≡ b
abbreviation-same params table bytes place a b p q m n =
    let code : (m.code, m.size) ≡ (n.code, n.size) = read-same (m.code, m.size) (n.code, n.size) (uleb_at bytes place) m.spells n.spells in
    let listed : abbreviation_of table m.code ≡ Some b = ap (λ (v : ℕ × ℕ). abbreviation_of table v.0) code ∙ n.listed in
    listed-same a b (abbreviation_of table m.code) m.listed listed

after-same : (params : Params) (table : List Abbreviation) (bytes : List ℕ) (place : ℕ) (a b : Abbreviation) (p q : ℕ)
    → IsEntry params table bytes place a p → IsEntry params table bytes place b q → p ≡ q
after-same params table bytes place a b p q m n =
    let code : (m.code, m.size) ≡ (n.code, n.size) = read-same (m.code, m.size) (n.code, n.size) (uleb_at bytes place) m.spells n.spells in
    let same : a ≡ b = abbreviation-same params table bytes place a b p q m n in
    let front : SpellsValues params bytes (place + m.size) b.specs p =
    subst (λ (x : Abbreviation). SpellsValues params bytes (place + m.size) x.specs p) same m.values in
    let back : SpellsValues params bytes (place + m.size) b.specs q =
    subst (λ (v : ℕ × ℕ). SpellsValues params bytes (place + v.1) b.specs q) (sym code) n.values in
    values-one params bytes (place + m.size) b.specs p q front back

next-determined : (h : UnitHeader) (table : List Abbreviation) (bytes : List ℕ) → Determined (NextEntry h table bytes)
next-determined h table bytes s t u (by_null m e f) (by_null n g k) =
    let same : (0, m) ≡ (0, n) = read-same (0, m) (0, n) (uleb_at bytes s.place) e g in
    f ∙ ap (λ (v : ℕ × ℕ). read_to s.items (s.place + v.1) (s.depth - 1)) same ∙ sym k
next-determined h table bytes s t u (by_null m e f) (by_entry a after is root k) =
    absurd (is.some (sym (ap (λ (v : ℕ × ℕ). v.0) (read-same (0, m) (is.code, is.size) (uleb_at bytes s.place) e is.spells))))
next-determined h table bytes s t u (by_entry a after is root k) (by_null m e f) =
    absurd (is.some (sym (ap (λ (v : ℕ × ℕ). v.0) (read-same (0, m) (is.code, is.size) (uleb_at bytes s.place) e is.spells))))
next-determined h table bytes s t u (by_entry a p m root f) (by_entry b q n root_b k) =
    let same : a ≡ b = abbreviation-same h.params table bytes s.place a b p q m n in
    let place : p ≡ q = after-same h.params table bytes s.place a b p q m n in
    f
    ∙ ap (λ (x : Abbreviation). read_to (s.items ++ scanned s.place s.depth x p ∷ []) p (depth_behind x s.depth)) same
    ∙ ap (λ (x : ℕ). read_to (s.items ++ scanned s.place s.depth b x ∷ []) x (depth_behind b s.depth)) place
    ∙ sym k

abbrev first_place : UnitHeader → EntriesRead
first_place h = read_to [] h.first 0

entries-reach : (h : UnitHeader) (table : List Abbreviation) (bytes : List ℕ) (items : List Scanned) (place depth : ℕ) → Scans h table bytes items place depth
    → Reaches (NextEntry h table bytes) (first_place h) (read_to items place depth)
entries-reach h table bytes items place depth starts = here (first_place h)
entries-reach h table bytes all z d (null items place depth size s e) =
    reach-more (NextEntry h table bytes) (first_place h) (read_to items place depth) (read_to items (place + size) (depth - 1))
    (entries-reach h table bytes items place depth s) (by_null size e refl)
entries-reach h table bytes all z d (entry items place depth after a s is root) =
    reach-more (NextEntry h table bytes) (first_place h) (read_to items place depth)
    (read_to (items ++ scanned place depth a after ∷ []) after (depth_behind a depth)) (entries-reach h table bytes items place depth s) (by_entry a after is root refl)

-- no number stands behind the bytes
pub past-number : (bytes : List ℕ) (place : ℕ) → length bytes ≤ place → uleb_at bytes place ≡ None
unfolding uleb_at
past-number bytes place past = rw (drop_all place bytes past) refl

no-number-stops : (h : UnitHeader) (table : List Abbreviation) (bytes : List ℕ) (s : EntriesRead) → uleb_at bytes s.place ≡ None → Stops (NextEntry h table bytes) s
no-number-stops h table bytes s none t (by_null n e f) = cc
no-number-stops h table bytes s none t (by_entry a after is root f) =
    let some : uleb_at bytes s.place ≡ Some (is.code, is.size) = is.spells in
    cc

end-stops : (h : UnitHeader) (table : List Abbreviation) (bytes : List ℕ) (items : List Scanned) (depth : ℕ) → length bytes ≤ h.end
    → Stops (NextEntry h table bytes) (read_to items h.end depth)
end-stops h table bytes items depth short = no-number-stops h table bytes (read_to items h.end depth) (past-number bytes h.end short)

-- the entries of a unit are one list
pub entries-one : (h : UnitHeader) (table : List Abbreviation) (bytes : List ℕ) (xs ys : List Scanned) → length bytes ≤ h.end
    → AreEntries h table bytes xs → AreEntries h table bytes ys → xs ≡ ys
entries-one h table bytes xs ys short a b =
    ap (λ (s : EntriesRead). s.items)
    (stops-one (NextEntry h table bytes) (next-determined h table bytes) (first_place h) (read_to xs h.end 0) (read_to ys h.end 0)
    (entries-reach h table bytes xs h.end 0 a) (entries-reach h table bytes ys h.end 0 b) (end-stops h table bytes xs 0 short) (end-stops h table bytes ys 0 short))

-- entries that were read up to a place from which no step goes on are all that can be
all-read : (h : UnitHeader) (table : List Abbreviation) (bytes : List ℕ) (xs items : List Scanned) (place depth : ℕ) → length bytes ≤ h.end
    → AreEntries h table bytes xs → Scans h table bytes items place depth → Stops (NextEntry h table bytes) (read_to items place depth)
    → read_to items place depth ≡ read_to xs h.end 0
all-read h table bytes xs items place depth short a s stop =
    stops-one (NextEntry h table bytes) (next-determined h table bytes) (first_place h) (read_to items place depth) (read_to xs h.end 0)
    (entries-reach h table bytes items place depth s) (entries-reach h table bytes xs h.end 0 a) stop (end-stops h table bytes xs 0 short)

-- a code at the unit's end is none
at_end-none : (bytes : List ℕ) (place end code size : ℕ) → length bytes ≤ end → place ≡ end → uleb_at bytes place ≡ Some (code, size) → ⊥
at_end-none bytes place end code size short e f =
    let none : uleb_at bytes place ≡ None = past-number bytes place (omega (arith, short, e)) in
    cc

-- an entry whose code has no abbreviation, is a split root, or whose values fail, is no step
code-stops : (h : UnitHeader) (table : List Abbreviation) (bytes : List ℕ) (s : EntriesRead) (code size : ℕ) → uleb_at bytes s.place ≡ Some (code, size)
    → code ≢ 0
    → ((a : Abbreviation) (after : ℕ) → abbreviation_of table code ≡ Some a → SpellsValues h.params bytes (s.place + size) a.specs after
    → is_split_root (length s.items) a ≡ false → ⊥)
    → Stops (NextEntry h table bytes) s
code-stops h table bytes s code size e some never t (by_null n f g) =
    some (ap (λ (v : ℕ × ℕ). v.0) (read-same (code, size) (0, n) (uleb_at bytes s.place) e f))
code-stops h table bytes s code size e some never t (by_entry a after is root g) =
    let same : (is.code, is.size) ≡ (code, size) = read-same (is.code, is.size) (code, size) (uleb_at bytes s.place) is.spells e in
    never a after (subst (λ (v : ℕ × ℕ). abbreviation_of table v.0 ≡ Some a) same is.listed)
    (subst (λ (v : ℕ × ℕ). SpellsValues h.params bytes (s.place + v.1) a.specs after) same is.values) root

-- the entries of a unit exclude its refusals
pub entries-exclude : (h : UnitHeader) (table : List Abbreviation) (bytes : List ℕ) (xs : List Scanned) (r : Refusal) → length bytes ≤ h.end
    → AreEntries h table bytes xs → EntryFails h table bytes r → ⊥
entries-exclude h table bytes xs r short a (code_passes items place depth s other e) =
    let same = all-read h table bytes xs items place depth short a s (no-number-stops h table bytes (read_to items place depth) e) in
    other (ap (λ (t : EntriesRead). t.place) same)
entries-exclude h table bytes xs r short a (no_code items place depth code size s e some none) =
    let stop : Stops (NextEntry h table bytes) (read_to items place depth) =
    code-stops h table bytes (read_to items place depth) code size e some (λ b after f v root. clash b f) in
    at_end-none bytes place h.end code size short (ap (λ (t : EntriesRead). t.place) (all-read h table bytes xs items place depth short a s stop)) e
  where
    clash : (b : Abbreviation) → abbreviation_of table code ≡ Some b → ⊥
    clash b f = cc
entries-exclude h table bytes xs r short a (split items place depth code size b s e some listed root) =
    let stop : Stops (NextEntry h table bytes) (read_to items place depth) =
    code-stops h table bytes (read_to items place depth) code size e some (λ d after f v other. clash d f other) in
    at_end-none bytes place h.end code size short (ap (λ (t : EntriesRead). t.place) (all-read h table bytes xs items place depth short a s stop)) e
  where
    clash : (d : Abbreviation) → abbreviation_of table code ≡ Some d → is_split_root (length items) d ≡ false → ⊥
    clash d f other =
        let same : b ≡ d = listed-same b d (abbreviation_of table code) listed f in
        let is : is_split_root (length items) d ≡ true = subst (λ (x : Abbreviation). is_split_root (length items) x ≡ true) same root in
        cc
entries-exclude h table bytes xs r short a (values items place depth code size b s e some listed f) =
    let stop : Stops (NextEntry h table bytes) (read_to items place depth) =
    code-stops h table bytes (read_to items place depth) code size e some (λ d after g v root. clash d after g v) in
    at_end-none bytes place h.end code size short (ap (λ (t : EntriesRead). t.place) (all-read h table bytes xs items place depth short a s stop)) e
  where
    clash : (d : Abbreviation) (after : ℕ) → abbreviation_of table code ≡ Some d → SpellsValues h.params bytes (place + size) d.specs after → ⊥
    clash d after g v =
        let same : d ≡ b = listed-same d b (abbreviation_of table code) g listed in
        values-exclude h.params bytes h.section (place + size) b.specs after r
        (subst (λ (x : Abbreviation). SpellsValues h.params bytes (place + size) x.specs after) same v) f
entries-exclude h table bytes xs r short a (open_list items depth s open_) =
    let same = all-read h table bytes xs items h.end depth short a s (end-stops h table bytes items depth short) in
    open_ (ap (λ (t : EntriesRead). t.depth) same)
