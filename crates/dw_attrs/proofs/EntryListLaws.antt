-- The entries of a unit, found from its first place on, are those that a pass over the unit meets.
use Rattle.std.proofs.Common.{Bool, false, zero, suc, ◌≡◌, ℕ, ◌+◌, ◌-◌, ◌<◌, ◌≤◌, List, [], ◌∷◌, ◌++◌, length, Option, Some, None, Result, Ok, Err, refl, sym, ap, ◌∙◌, subst, arith, if◌then◌else◌, append_assoc, append-nil, length-append}
use Rattle.std.proofs.lemmas.Bool.{ne_eqb}
use Rattle.dw_base.specs.AbbreviationTables.{Abbreviation, abbreviation_of}
use Rattle.dw_base.specs.EntryScans.{SpellsValues, no_values, more_values, IsEntry, depth_behind, scanned, Scans, starts, null, entry, AreEntries, EntryFails}
use Rattle.dw_base.specs.Lebs.{uleb_at}
use Rattle.dw_base.specs.declared.fault.Refusal.{Refusal}
use Rattle.dw_base.specs.declared.shared.Params.{Params}
use Rattle.dw_base.specs.declared.units.Scanned.{Scanned}
use Rattle.dw_base.specs.declared.units.UnitHeader.{UnitHeader}
use Rattle.dw_base.specs.declared.values.Spec.{Spec}
use Rattle.dw_base.proofs.LebLaws.{uleb-inside}
use Rattle.dw_entries.specs.ScanStates.{ScanState, HasGiven, GivesEntry, GivesRefusal, GivesNothing, Gives, scan_start}
use Rattle.dw_meaning.proofs.EntryRowLaws.{entries-exclude, spells-end}
use Rattle.dw_attrs.specs.UnitValues.{entry_ended, entry_met, code_met, entries_left, unit_entries}
use Rattle.dw_base.proofs.LebLaws.{uleb-some}

-- the entries from a place on, behind those that were met
record Left (h : UnitHeader) (table : List Abbreviation) (bytes : List ℕ) (items : List Scanned) (place depth : ℕ) : Type 0 where
  more : ℕ
  enough : length bytes + 1 ≤ more + place
  is : unit_entries h table bytes ≡ items ++ entries_left more h.params table bytes place depth

null-left : (more : ℕ) (params : Params) (table : List Abbreviation) (bytes : List ℕ) (place depth size : ℕ) → uleb_at bytes place ≡ Some (0, size)
    → entries_left (suc more) params table bytes place depth ≡ entries_left more params table bytes (place + size) (depth - 1)
null-left more params table bytes place depth size is =
    ap (code_met (λ p d. entries_left more params table bytes p d) params table bytes place depth) is

entry-left : (more : ℕ) (params : Params) (table : List Abbreviation) (bytes : List ℕ) (place depth after : ℕ) (a : Abbreviation) → IsEntry params table bytes place a after
    → entries_left (suc more) params table bytes place depth ≡ scanned place depth a after ∷ entries_left more params table bytes after (depth_behind a depth)
entry-left more params table bytes place depth after a is =
    ap (code_met (λ p d. entries_left more params table bytes p d) params table bytes place depth) is.spells
    ∙ ap (λ (b : Bool). if b then entries_left more params table bytes (place + is.size) (depth - 1)
    else entry_met (λ p d. entries_left more params table bytes p d) params bytes place depth (place + is.size) (abbreviation_of table is.code)) (ne_eqb is.code 0 is.some)
    ∙ ap (entry_met (λ p d. entries_left more params table bytes p d) params bytes place depth (place + is.size)) is.listed
    ∙ ap (entry_ended (λ p d. entries_left more params table bytes p d) place depth a) (spells-end params bytes (place + is.size) a.specs after is.values)

pub spells-after : (params : Params) (bytes : List ℕ) (start : ℕ) (xs : List Spec) (place : ℕ) → SpellsValues params bytes start xs place → start ≤ place
spells-after params bytes start xs place no_values = omega arith
spells-after params bytes start xs z (more_values ys y place v s is) =
    let before = spells-after params bytes start ys place s in
    omega (arith, before)

scans-left : (h : UnitHeader) (table : List Abbreviation) (bytes : List ℕ) (items : List Scanned) (place depth : ℕ) → Scans h table bytes items place depth
    → Left h table bytes items place depth
unfolding unit_entries
scans-left h table bytes items place depth starts = record { more = length bytes + 1; enough = omega arith; is = refl }
scans-left h table bytes items z d (null its place depth size s is) =
    let l : Left h table bytes items place depth = scans-left h table bytes items place depth s in
    let enough = l.enough in
    let room : place + size ≤ length bytes = uleb-inside bytes place 0 size is in
    let some : 0 < size = uleb-some bytes place 0 size is in
    let next : l.more ≡ suc (l.more - 1) = omega (arith, enough, room, some) in
    record {
      more = l.more - 1;
      enough = omega (arith, enough, room, some);
      is = l.is ∙ ap (λ (n : ℕ). items ++ entries_left n h.params table bytes place depth) next
          ∙ ap (λ (es : List Scanned). items ++ es) (null-left (l.more - 1) h.params table bytes place depth size is);
    }
scans-left h table bytes all z d (entry items place depth after a s is root) =
    let l : Left h table bytes items place depth = scans-left h table bytes items place depth s in
    let enough = l.enough in
    let room : place + is.size ≤ length bytes = uleb-inside bytes place is.code is.size is.spells in
    let some : 0 < is.size = uleb-some bytes place is.code is.size is.spells in
    let values : place + is.size ≤ after = spells-after h.params bytes (place + is.size) a.specs after is.values in
    let next : l.more ≡ suc (l.more - 1) = omega (arith, enough, room, some) in
    record {
      more = l.more - 1;
      enough = omega (arith, enough, room, some, values);
      is = l.is ∙ ap (λ (n : ℕ). items ++ entries_left n h.params table bytes place depth) next
          ∙ ap (λ (es : List Scanned). items ++ es) (entry-left (l.more - 1) h.params table bytes place depth after a is)
          ∙ sym (append_assoc items (scanned place depth a after ∷ []) (entries_left (l.more - 1) h.params table bytes after (depth_behind a depth)));
    }

-- none are left at the end of the bytes
end-none : (more : ℕ) (params : Params) (table : List Abbreviation) (bytes : List ℕ) (place depth : ℕ) → length bytes ≤ place
    → entries_left more params table bytes place depth ≡ []
end-none zero params table bytes place depth le = refl
end-none (suc more) params table bytes place depth le =
    ap (code_met (λ p d. entries_left more params table bytes p d) params table bytes place depth) (none (uleb_at bytes place) refl)
  where
    none : (o : Option (ℕ × ℕ)) → uleb_at bytes place ≡ o → uleb_at bytes place ≡ None
    none None e = e
    none (Some (code, size)) e =
        let room : place + size ≤ length bytes = uleb-inside bytes place code size e in
        let some : 0 < size = uleb-some bytes place code size e in
        absurd (omega (arith, le, room, some))

-- these are the entries up to a place of the unit
pub record Fronts (h : UnitHeader) (table : List Abbreviation) (bytes : List ℕ) (items : List Scanned) : Type 0 where
  pub rest : List Scanned
  pub is : unit_entries h table bytes ≡ items ++ rest

pub scans-front : (h : UnitHeader) (table : List Abbreviation) (bytes : List ℕ) (items : List Scanned) (place depth : ℕ) → Scans h table bytes items place depth
    → Fronts h table bytes items
scans-front h table bytes items place depth s =
    let l : Left h table bytes items place depth = scans-left h table bytes items place depth s in
    record { rest = entries_left l.more h.params table bytes place depth; is = l.is }

pub entries-are : (h : UnitHeader) (table : List Abbreviation) (bytes : List ℕ) (items : List Scanned) → length bytes ≤ h.end → AreEntries h table bytes items
    → unit_entries h table bytes ≡ items
entries-are h table bytes items short are =
    let l : Left h table bytes items h.end 0 = scans-left h table bytes items h.end 0 are in
    l.is ∙ ap (λ (es : List Scanned). items ++ es) (end-none l.more h.params table bytes h.end 0 short) ∙ append-nil items

-- where a pass stands: it gave these entries
pub record PassAt (h : UnitHeader) (table : List Abbreviation) (bytes : List ℕ) (s : ScanState) (number : ℕ) : Type 0 where
  pub items : List Scanned
  pub given : HasGiven s items
  pub unit_is : s.unit ≡ h
  pub table_is : s.table ≡ table
  pub bytes_are : s.bytes ≡ bytes
  pub running : s.over ≡ false
  pub count : number ≡ length items

unfoldable pub pass-first : (h : UnitHeader) (table : List Abbreviation) (bytes : List ℕ) → PassAt h table bytes (scan_start h table bytes) 0
pass-first h table bytes = record {
  items = [];
  given = record { scans = starts; count = refl };
  unit_is = refl;
  table_is = refl;
  bytes_are = refl;
  running = refl;
  count = refl;
}

pub pass-starts : (h : UnitHeader) (table : List Abbreviation) (bytes : List ℕ) (s : ScanState) → s ≡ scan_start h table bytes → PassAt h table bytes s 0
pass-starts h table bytes s e = subst (λ (t : ScanState). PassAt h table bytes t 0) (sym e) (pass-first h table bytes)

pub pass-scans : (h : UnitHeader) (table : List Abbreviation) (bytes : List ℕ) (s : ScanState) (items : List Scanned) → s.unit ≡ h → s.table ≡ table → s.bytes ≡ bytes → HasGiven s items
    → Scans h table bytes items s.place s.depth
pass-scans h table bytes s items u t b g =
    subst (λ (x : UnitHeader). Scans x table bytes items s.place s.depth) u
    (subst (λ (x : List Abbreviation). Scans s.unit x bytes items s.place s.depth) t
    (subst (λ (x : List ℕ). Scans s.unit s.table x items s.place s.depth) b g.scans))

unfoldable pub pass-more : (h : UnitHeader) (table : List Abbreviation) (bytes : List ℕ) (s u : ScanState) (number : ℕ) (e : Scanned) → PassAt h table bytes s number → GivesEntry s e u
    → PassAt h table bytes u (number + 1)
pass-more h table bytes s u number e p g = record {
  items = p.items ++ e ∷ [];
  given = g.more p.items p.given;
  unit_is = ap (λ (x : ScanState). x.unit) g.same ∙ p.unit_is;
  table_is = ap (λ (x : ScanState). x.table) g.same ∙ p.table_is;
  bytes_are = ap (λ (x : ScanState). x.bytes) g.same ∙ p.bytes_are;
  running = ap (λ (x : ScanState). x.over) g.same ∙ p.running;
  count = (let before = p.count in omega (arith, before, length-append p.items (e ∷ [])));
}

-- so these entries and the one that it gives stand in front of the others
pub pass-front : (h : UnitHeader) (table : List Abbreviation) (bytes : List ℕ) (s u : ScanState) (number : ℕ) (e : Scanned) → (p : PassAt h table bytes s number) → GivesEntry s e u
    → Fronts h table bytes (p.items ++ e ∷ [])
pass-front h table bytes s u number e p g =
    let q : PassAt h table bytes u (number + 1) = pass-more h table bytes s u number e p g in
    scans-front h table bytes (p.items ++ e ∷ []) u.place u.depth
    (pass-scans h table bytes u (p.items ++ e ∷ []) (ap (λ (x : ScanState). x.unit) g.same ∙ p.unit_is) (ap (λ (x : ScanState). x.table) g.same ∙ p.table_is)
    (ap (λ (x : ScanState). x.bytes) g.same ∙ p.bytes_are) (g.more p.items p.given))

-- at its end it gave all
pub pass-ends : (h : UnitHeader) (table : List Abbreviation) (bytes : List ℕ) (s u : ScanState) (number : ℕ) → (p : PassAt h table bytes s number) → GivesNothing s u
    → length bytes ≤ h.end → unit_entries h table bytes ≡ p.items
pass-ends h table bytes s u number p g short =
    entries-are h table bytes p.items short
    (subst (λ (x : UnitHeader). AreEntries x table bytes p.items) p.unit_is
    (subst (λ (x : List Abbreviation). AreEntries s.unit x bytes p.items) p.table_is
    (subst (λ (x : List ℕ). AreEntries s.unit s.table x p.items) p.bytes_are (g.whole p.running p.items p.given))))

-- and it gives no refusal of a unit that can be read
pub pass-reads : (h : UnitHeader) (table : List Abbreviation) (bytes : List ℕ) (s u : ScanState) (number : ℕ) (r : Refusal) (items : List Scanned) → PassAt h table bytes s number
    → GivesRefusal s r u → length bytes ≤ h.end → AreEntries h table bytes items → ⊥
pass-reads h table bytes s u number r items p g short are =
    entries-exclude h table bytes items r short are
    (subst (λ (x : UnitHeader). EntryFails x table bytes r) p.unit_is
    (subst (λ (x : List Abbreviation). EntryFails s.unit x bytes r) p.table_is
    (subst (λ (x : List ℕ). EntryFails s.unit s.table x r) p.bytes_are (g.fails p.items p.given))))

pub gave-entry : (s u : ScanState) (r : Result Scanned Refusal) (e : Scanned) → Gives s (Some r) u → r ≡ Ok e → GivesEntry s e u
gave-entry s u r e g is = subst (λ (x : Result Scanned Refusal). Gives s (Some x) u) is g

pub gave-refusal : (s u : ScanState) (x : Result Scanned Refusal) (r : Refusal) → Gives s (Some x) u → x ≡ Err r → GivesRefusal s r u
gave-refusal s u x r g is = subst (λ (y : Result Scanned Refusal). Gives s (Some y) u) is g
