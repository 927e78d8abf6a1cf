-- The entries of a unit can be read, or a condition holds (DWARF 5, 7.5.2 and 7.5.3).
use Rattle.std.proofs.Common.{true, false, ◌≡◌, ◌≢◌, ◌⊎◌, inl, inr, ℕ, zero, suc, ◌+◌, ◌-◌, ◌<◌, ◌≤◌, List, [], ◌∷◌, ◌++◌, length, Option, Some, None, refl, subst, arith}
use Rattle.std.proofs.lemmas.Bool.{cases_Bool, cases_eq}
use Rattle.dw_base.specs.AbbreviationTables.{Abbreviation, abbreviation_of}
use Rattle.dw_base.specs.EntryScans.{EntryFails, Scans, SpellsValues, ValuesFail, code_passes, depth_behind, entry, is_split_root, more_values, no_code, no_values, null, open_list, scanned, split, starts}
use Rattle.dw_base.specs.EntryScans.EntryFails.{values as values_fail}
use Rattle.dw_base.specs.Lebs.{uleb_at}
use Rattle.dw_base.specs.Refusals.{at}
use Rattle.dw_base.specs.declared.fault.Kind.TheVariants.{Entry, SplitDwarf}
use Rattle.dw_base.specs.declared.fault.Refusal.{Refusal}
use Rattle.dw_base.specs.declared.shared.Params.{Params}
use Rattle.dw_base.specs.declared.units.Scanned.{Scanned}
use Rattle.dw_base.specs.declared.units.UnitHeader.{UnitHeader}
use Rattle.dw_base.specs.declared.values.Spec.{Spec}
use Rattle.dw_base.proofs.LebLaws.{uleb-inside, uleb-some}
use Rattle.refusal_laws.specs.Decided.{Decided, refused, taken}
use Rattle.refusal_laws.specs.Readable.{HasEntries, HasValues}
use Rattle.refusal_laws.proofs.ValueDecisions.{values-decided}

-- values end where they start, or behind
values-forward : (params : Params) (bytes : List ℕ) (start : ℕ) (specs : List Spec) (end : ℕ) → SpellsValues params bytes start specs end → start ≤ end
values-forward params bytes start specs end no_values = omega arith
values-forward params bytes start all end (more_values specs x place v s e) =
    let before : start ≤ place = values-forward params bytes start specs place s in
    omega (arith, before)

-- one step of a pass over a unit: to a further place, or a condition holds
data StepIs (h : UnitHeader) (table : List Abbreviation) (bytes : List ℕ) (place : ℕ) : Type 0 where
  goes : (items : List Scanned) (next depth : ℕ) → Scans h table bytes items next depth → place < next → place < length bytes → StepIs h table bytes place
  step_fails : (r : Refusal) → EntryFails h table bytes r → StepIs h table bytes place

-- an entry whose abbreviation is found
entry-known : (h : UnitHeader) (table : List Abbreviation) (bytes : List ℕ) (items : List Scanned) (place depth code size : ℕ) (a : Abbreviation)
    → Scans h table bytes items place depth → uleb_at bytes place ≡ Some (code, size) → code ≢ 0 → abbreviation_of table code ≡ Some a → StepIs h table bytes place
entry-known h table bytes items place depth code size a s e some listed =
    by (cases_Bool (is_split_root (length items) a)) (values-decided h.params bytes h.section (place + size) a.specs)
  where
    by : (is_split_root (length items) a ≡ true) ⊎ (is_split_root (length items) a ≡ false)
        → Decided (HasValues h.params bytes (place + size) a.specs) (ValuesFail h.params bytes h.section (place + size) a.specs) → StepIs h table bytes place
    by (inl splits) v = step_fails (at SplitDwarf h.section place) (split items place depth code size a s e some listed splits)
    by (inr whole) (refused r f) = step_fails r (values_fail items place depth code size a s e some listed f)
    by (inr whole) (taken v) =
        let bytes_some : 0 < size = uleb-some bytes place code size e in
        let inside : place + size ≤ length bytes = uleb-inside bytes place code size e in
        let forward : place + size ≤ v.end = values-forward h.params bytes (place + size) a.specs v.end v.are in
        goes (items ++ scanned place depth a v.end ∷ []) v.end (depth_behind a depth)
        (entry items place depth v.end a s (record { code = code; size = size; spells = e; some = some; listed = listed; values = v.are }) whole)
        (omega (arith, bytes_some, forward)) (omega (arith, bytes_some, inside))

code-known : (h : UnitHeader) (table : List Abbreviation) (bytes : List ℕ) (items : List Scanned) (place depth code size : ℕ)
    → Scans h table bytes items place depth → uleb_at bytes place ≡ Some (code, size) → StepIs h table bytes place
code-known h table bytes items place depth code size s e = by (cases_eq code 0) (abbreviation_of table code) refl
  where
    by : (code ≡ 0) ⊎ (code ≢ 0) → (o : Option Abbreviation) → abbreviation_of table code ≡ o → StepIs h table bytes place
    by (inl none) o f =
        let some : 0 < size = uleb-some bytes place code size e in
        let inside : place + size ≤ length bytes = uleb-inside bytes place code size e in
        goes items (place + size) (depth - 1) (null items place depth size s (subst (λ (n : ℕ). uleb_at bytes place ≡ Some (n, size)) none e))
        (omega (arith, some)) (omega (arith, some, inside))
    by (inr some) None f = step_fails (at Entry h.section place) (no_code items place depth code size s e some f)
    by (inr some) (Some a) f = entry-known h table bytes items place depth code size a s e some f

step-known : (h : UnitHeader) (table : List Abbreviation) (bytes : List ℕ) (items : List Scanned) (place depth : ℕ) → Scans h table bytes items place depth → place ≢ h.end
    → StepIs h table bytes place
step-known h table bytes items place depth s before = by (uleb_at bytes place) refl
  where
    by : (o : Option (ℕ × ℕ)) → uleb_at bytes place ≡ o → StepIs h table bytes place
    by None e = step_fails (at Entry h.section place) (code_passes items place depth s before e)
    by (Some (code, size)) e = code-known h table bytes items place depth code size s e

-- at the unit's end no list of children is open, or one is
end-known : (h : UnitHeader) (table : List Abbreviation) (bytes : List ℕ) (items : List Scanned) (place depth : ℕ) → Scans h table bytes items place depth → place ≡ h.end
    → Decided (HasEntries h table bytes) (EntryFails h table bytes)
end-known h table bytes items place depth s end =
    by (cases_eq depth 0) (subst (λ (n : ℕ). Scans h table bytes items n depth) end s)
  where
    by : (depth ≡ 0) ⊎ (depth ≢ 0) → Scans h table bytes items h.end depth → Decided (HasEntries h table bytes) (EntryFails h table bytes)
    by (inl closed) u = taken (record { items = items; are = subst (λ (n : ℕ). Scans h table bytes items h.end n) closed u })
    by (inr open_) u = refused (at Entry h.section h.end) (open_list items depth u open_)

-- from a place on, with as many steps as there are bytes
entries-from : (h : UnitHeader) (table : List Abbreviation) (bytes : List ℕ) (steps : ℕ) (items : List Scanned) (place depth : ℕ) → length bytes ≤ place + steps
    → Scans h table bytes items place depth → Decided (HasEntries h table bytes) (EntryFails h table bytes)
entries-from h table bytes zero items place depth enough s = by (cases_eq place h.end)
  where
    by_step : StepIs h table bytes place → Decided (HasEntries h table bytes) (EntryFails h table bytes)
    by_step (goes more next deep t behind there) = absurd (omega (arith, enough, there))
    by_step (step_fails r f) = refused r f

    by : (place ≡ h.end) ⊎ (place ≢ h.end) → Decided (HasEntries h table bytes) (EntryFails h table bytes)
    by (inl end) = end-known h table bytes items place depth s end
    by (inr before) = by_step (step-known h table bytes items place depth s before)
entries-from h table bytes (suc steps) items place depth enough s =
    by (cases_eq place h.end)
    (λ (more : List Scanned) (next deep : ℕ) (t : Scans h table bytes more next deep) (behind : place < next).
    entries-from h table bytes steps more next deep (omega (arith, enough, behind)) t)
  where
    by_step : StepIs h table bytes place
        → ((more : List Scanned) (next deep : ℕ) → Scans h table bytes more next deep → place < next → Decided (HasEntries h table bytes) (EntryFails h table bytes))
        → Decided (HasEntries h table bytes) (EntryFails h table bytes)
    by_step (goes more next deep t behind there) go = go more next deep t behind
    by_step (step_fails r f) go = refused r f

    by : (place ≡ h.end) ⊎ (place ≢ h.end)
        → ((more : List Scanned) (next deep : ℕ) → Scans h table bytes more next deep → place < next → Decided (HasEntries h table bytes) (EntryFails h table bytes))
        → Decided (HasEntries h table bytes) (EntryFails h table bytes)
    by (inl end) go = end-known h table bytes items place depth s end
    by (inr before) go = by_step (step-known h table bytes items place depth s before) go

pub entries-decided : (h : UnitHeader) (table : List Abbreviation) (bytes : List ℕ) → Decided (HasEntries h table bytes) (EntryFails h table bytes)
entries-decided h table bytes = entries-from h table bytes (length bytes) [] h.first 0 (omega arith) starts
