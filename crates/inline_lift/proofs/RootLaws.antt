-- Whether a unit has a table of its own, and what that declares, by the first entry that its pieces have.
use Rattle.std.proofs.Common.{Bool, true, false, ◌≡◌, ◌⊎◌, inl, inr, ℕ, ◌+◌, ◌-◌, ◌≤◌, ◌==◌, not, List, [], ◌∷◌, ◌++◌, length, drop, Option, Some, None, refl, sym, ap, ◌∙◌, subst, arith, if◌then◌else◌, append_assoc}
use Rattle.std.specs.Prelude.{◌&&◌}
use Rattle.std.proofs.lemmas.Bool.{eq-eqb}
use Rattle.std.proofs.lemmas.List.{drop_at, length-append}
use Rattle.dw_base.specs.AbbreviationTables.{Abbreviation, IsTable, abbreviation_of}
use Rattle.dw_base.specs.Cells.{Cell}
use Rattle.dw_base.specs.EntryScans.{depth_behind}
use Rattle.dw_base.specs.Paths.{PathMap}
use Rattle.dw_base.specs.Pieces.{Chain, Piece}
use Rattle.dw_base.specs.UnitHeaders.{UnitBase}
use Rattle.dw_base.specs.UnitPieces.{FitsMode, unit_grammar}
use Rattle.dw_base.specs.UnitStates.{Mode, at_header, at_code, stuck, UnitState, after_code, after_entry, before_unit, between, code_value, in_unit, past}
use Rattle.inline_lift.specs.GrowingPaths.{Fate, any_grown, fates}
use Rattle.inline_lift.specs.Lifted.{Lift, lifted_abbrevs, own_table}
use Rattle.inline_lift.specs.LiftedTables.{Copy, copies_at, copies_if, copies_in, copy_bytes, copy_place, lifted_table, table_copy}
use Rattle.inline_lift.proofs.CopiedTableLaws.{table-copied}
use Rattle.inline_lift.proofs.CopyPlaceLaws.{AllBelow, AllFrom, below-place, bound, copies-from, copy_bytes-append, entry-above, from-append, from-none, from-weaker}
use Rattle.inline_lift.proofs.FateLaws.{FatesFit, fates-fit}
use Rattle.inline_lift.proofs.OwnTableLaws.{table-can}

-- the first entry of a unit: its code, and the fates of its attributes
pub record Root : Type 0 where
  pub code : ℕ
  pub fates : List Fate

abbrev pub root_by : Mode → List Cell → List Fate → Option Root → Option Root
root_by at_code p fs rest = if code_value p == 0 then rest else Some (record { code = code_value p; fates = fs })
root_by m p fs rest = None

-- the one that pieces of a unit have, in front of it
abbrev pub root_ahead : PathMap → List (Piece UnitState) → Option Root
root_ahead m [] = None
root_ahead m (x ∷ xs) = root_by x.state.mode x.cells (fates m xs) (root_ahead m xs)

-- the unit has a copy, which declares these abbreviations with the attributes of the first entry lifted
pub record OwnTable (l : Lift) (unit : ℕ) (list : List Abbreviation) (r : Root) : Type 0 where
  pub table : ℕ
  pub own : own_table l unit ≡ Some table
  pub small : table ≤ length (lifted_abbrevs l)
  pub stands : IsTable (lifted_abbrevs l) table (lifted_table r.code r.fates list)
  pub copy : Copy
  pub before : List Copy
  pub behind : List Copy
  pub among : l.copies ≡ before ++ copy ∷ behind
  pub below : AllBelow unit before
  pub unit_is : copy.unit ≡ unit
  pub code_is : copy.code ≡ r.code

-- where a path grows in its first entry the unit has one, and else it has none
abbrev pub Known : Lift → ℕ → List Abbreviation → Option Root → Type 0
Known l unit list None = own_table l unit ≡ None
Known l unit list (Some r) = ((any_grown r.fates ≡ false) × (own_table l unit ≡ None)) ⊎ ((any_grown r.fates ≡ true) × OwnTable l unit list r)

-- copies of a lift: those before a place, from there on, and behind
pub record Between (l : Lift) (before now after : List Copy) : Type 0 where
  pub among : l.copies ≡ before ++ (now ++ after)

-- a unit whose copy doesn't stand among them
no-table : (l : Lift) (unit : ℕ) (before now after : List Copy) → Between l before now after → AllBelow unit before → AllFrom (unit + 1) now → AllFrom (unit + 1) after
    → own_table l unit ≡ None
no-table l unit before now after b below here behind =
    ap (λ (cs : List Copy). copy_place (length l.base.abbrevs.bytes) cs unit) b.among
    ∙ below-place (length l.base.abbrevs.bytes) unit before (now ++ after) below
    ∙ from-none (length l.base.abbrevs.bytes + length (copy_bytes before)) unit (now ++ after) (from-append (unit + 1) now after here behind)

-- and one whose copy does
own-place : (l : Lift) (unit : ℕ) (before behind : List Copy) (c : Copy) → l.copies ≡ before ++ c ∷ behind → AllBelow unit before → c.unit ≡ unit
    → own_table l unit ≡ Some (length l.base.abbrevs.bytes + length (copy_bytes before))
own-place l unit before behind c among below is =
    ap (λ (cs : List Copy). copy_place (length l.base.abbrevs.bytes) cs unit) among
    ∙ below-place (length l.base.abbrevs.bytes) unit before (c ∷ behind) below
    ∙ ap (λ (b : Bool). if b then Some (length l.base.abbrevs.bytes + length (copy_bytes before))
    else copy_place (length l.base.abbrevs.bytes + length (copy_bytes before) + length c.bytes) behind unit) (eq-eqb c.unit unit is)

place-bytes : (l : Lift) (before behind : List Copy) (c : Copy) → l.copies ≡ before ++ c ∷ behind
    → (drop (length l.base.abbrevs.bytes + length (copy_bytes before)) (lifted_abbrevs l) ≡ c.bytes ++ copy_bytes behind)
    × (length l.base.abbrevs.bytes + length (copy_bytes before) ≤ length (lifted_abbrevs l))
place-bytes l before behind c among =
    let whole : lifted_abbrevs l ≡ (l.base.abbrevs.bytes ++ copy_bytes before) ++ (c.bytes ++ copy_bytes behind) =
    ap (λ (cs : List Copy). l.base.abbrevs.bytes ++ copy_bytes cs) among
    ∙ ap (λ (bs : List ℕ). l.base.abbrevs.bytes ++ bs) (copy_bytes-append before (c ∷ behind))
    ∙ sym (append_assoc l.base.abbrevs.bytes (copy_bytes before) (c.bytes ++ copy_bytes behind)) in
    let front : length (l.base.abbrevs.bytes ++ copy_bytes before) ≡ length l.base.abbrevs.bytes + length (copy_bytes before) = length-append l.base.abbrevs.bytes (copy_bytes before) in (
      ap (drop (length l.base.abbrevs.bytes + length (copy_bytes before))) whole
          ∙ drop_at (l.base.abbrevs.bytes ++ copy_bytes before) (c.bytes ++ copy_bytes behind) (length l.base.abbrevs.bytes + length (copy_bytes before)) front,
      omega (arith, ap length whole, front, length-append (l.base.abbrevs.bytes ++ copy_bytes before) (c.bytes ++ copy_bytes behind)),
    )

-- a state in front of a code, in a unit whose first entry hasn't come yet
abbrev pub fresh : UnitState → UnitState
fresh s = record s { entry = 0; mode = at_code }

-- no pieces follow where nothing could come
pub stuck-none : (base : UnitBase) (t : UnitState) (xs : List (Piece UnitState)) → t.mode ≡ stuck → Chain (unit_grammar base) t xs → ⊥
stuck-none base t [] e c = let none : stuck ≡ at_header = sym e ∙ c.mode in cc
stuck-none base t (x ∷ xs) e c = subst (λ (k : Mode). FitsMode k base x.state x.cells) (ap (λ (u : UnitState). u.mode) c.0 ∙ e) c.1

-- at the code of the first entry
root-known : (l : Lift) (s : UnitState) (p : List Cell) (xs : List (Piece UnitState)) (before after : List Copy)
    → (code_value p == 0) ≡ false → Chain (unit_grammar l.base) (after_entry (fresh s) (s.place + length p) (abbreviation_of s.table (code_value p))) xs
    → IsTable l.base.abbrevs.bytes s.header.abbrevs s.table
    → Between l before (copies_at l.base.abbrevs.bytes (record { state = fresh s; cells = p }) (fates l.map xs) ++ copies_in l.map l.base.abbrevs.bytes xs) after
    → AllBelow s.unit before → AllFrom (s.unit + 1) after
    → Known l s.unit s.table (Some (record { code = code_value p; fates = fates l.map xs }))
root-known l s p xs before after some c t b below behind = by_grown (any_grown (fates l.map xs)) refl
  where
    fs : List Fate
    fs = fates l.map xs

    rest : List Copy
    rest = copies_in l.map l.base.abbrevs.bytes xs

    above : (o : Option Abbreviation) → Chain (unit_grammar l.base) (after_entry (fresh s) (s.place + length p) o) xs → AllFrom (s.unit + 1) rest
    above None d = absurd (stuck-none l.base (after_entry (fresh s) (s.place + length p) None) xs refl d)
    above (Some a) d = from-weaker (s.unit + 1) (bound (after_entry (fresh s) (s.place + length p) (Some a))) rest (entry-above (fresh s) (s.place + length p) a)
        (copies-from l.map l.base.abbrevs.bytes l.base (after_entry (fresh s) (s.place + length p) (Some a)) xs d)

    others : AllFrom (s.unit + 1) rest
    others = above (abbreviation_of s.table (code_value p)) c

    first : copies_at l.base.abbrevs.bytes (record { state = fresh s; cells = p }) fs ≡ copies_if (any_grown fs) s.unit (code_value p) (table_copy l.base.abbrevs.bytes s.header.abbrevs (code_value p) fs)
    first = ap (λ (z : Bool). copies_if (not z && any_grown fs) s.unit (code_value p) (table_copy l.base.abbrevs.bytes s.header.abbrevs (code_value p) fs)) some

    fit : (a : Abbreviation) → abbreviation_of s.table (code_value p) ≡ Some a → FatesFit fs a.specs
    fit a e = fates-fit l.map l.base (fresh s) (s.place + length p) 1 (depth_behind a s.depth) 0 a.tag a.specs xs
        (subst (λ (o : Option Abbreviation). Chain (unit_grammar l.base) (after_entry (fresh s) (s.place + length p) o) xs) e c)

    by_grown : (g : Bool) → any_grown fs ≡ g → Known l s.unit s.table (Some (record { code = code_value p; fates = fs }))
    by_grown false e =
        let none : copies_at l.base.abbrevs.bytes (record { state = fresh s; cells = p }) fs ≡ [] =
        first ∙ ap (λ (g : Bool). copies_if g s.unit (code_value p) (table_copy l.base.abbrevs.bytes s.header.abbrevs (code_value p) fs)) e in
        let among : Between l before rest after = record { among = b.among ∙ ap (λ (cs : List Copy). before ++ ((cs ++ rest) ++ after)) none } in
        inl (e, no-table l s.unit before rest after among below others behind)
    by_grown true e =
        let one : copies_at l.base.abbrevs.bytes (record { state = fresh s; cells = p }) fs ≡ record { unit = s.unit; code = code_value p; bytes = table_copy l.base.abbrevs.bytes s.header.abbrevs (code_value p) fs } ∷ [] =
        first ∙ ap (λ (g : Bool). copies_if g s.unit (code_value p) (table_copy l.base.abbrevs.bytes s.header.abbrevs (code_value p) fs)) e in
        let among : l.copies ≡ before ++ record { unit = s.unit; code = code_value p; bytes = table_copy l.base.abbrevs.bytes s.header.abbrevs (code_value p) fs } ∷ (rest ++ after) =
        b.among ∙ ap (λ (cs : List Copy). before ++ ((cs ++ rest) ++ after)) one in
        let place = place-bytes l before (rest ++ after) (record { unit = s.unit; code = code_value p; bytes = table_copy l.base.abbrevs.bytes s.header.abbrevs (code_value p) fs }) among in
        inr (
          e,
          record {
            table = length l.base.abbrevs.bytes + length (copy_bytes before);
            own = own-place l s.unit before (rest ++ after) (record { unit = s.unit; code = code_value p; bytes = table_copy l.base.abbrevs.bytes s.header.abbrevs (code_value p) fs }) among below refl;
            small = place.1;
            stands = table-copied (code_value p) fs l.base.abbrevs.bytes s.header.abbrevs s.table (lifted_abbrevs l) (length l.base.abbrevs.bytes + length (copy_bytes before)) (copy_bytes (rest ++ after)) t
                (table-can l.base.abbrevs.bytes s.header.abbrevs s.table t.last (code_value p) fs t.declares fit) place.0;
            copy = record { unit = s.unit; code = code_value p; bytes = table_copy l.base.abbrevs.bytes s.header.abbrevs (code_value p) fs };
            before = before;
            behind = rest ++ after;
            among = among;
            below = below;
            unit_is = refl;
            code_is = refl;
          },
        )

-- behind the last entry of a unit another unit comes
header-none : (m : PathMap) (base : UnitBase) (t : UnitState) (xs : List (Piece UnitState)) → t.mode ≡ at_header → Chain (unit_grammar base) t xs → root_ahead m xs ≡ None
header-none m base t [] e c = refl
header-none m base t (x ∷ xs) e c =
    ap (λ (k : Mode). root_by k x.cells (fates m xs) (root_ahead m xs)) (ap (λ (u : UnitState). u.mode) c.0 ∙ e)

-- in front of a code
abbrev pub NextKnown : Lift → UnitState → List Copy → List Copy → List (Piece UnitState) → Type 0
NextKnown l s before after xs =
    (place depth : ℕ) → Chain (unit_grammar l.base) (fresh (record s { place = place; depth = depth })) xs
    → Between l before (copies_in l.map l.base.abbrevs.bytes xs) after → Known l s.unit s.table (root_ahead l.map xs)

pub null-known : (l : Lift) (s : UnitState) (place depth : ℕ) (xs : List (Piece UnitState)) (before after : List Copy)
    → Chain (unit_grammar l.base) (between (fresh s) place 0 depth) xs → Between l before (copies_in l.map l.base.abbrevs.bytes xs) after
    → AllBelow s.unit before → AllFrom (s.unit + 1) after → NextKnown l s before after xs → Known l s.unit s.table (root_ahead l.map xs)
unfolding between
null-known l s place depth xs before after c b below behind next = by_end (place == s.header.end) (depth == 0) c
  where
    by_end : (e z : Bool) → Chain (unit_grammar l.base) (if e then (if z then before_unit s.section s.kind s.whole place (s.unit + 1) else in_unit (fresh s) place 0 depth stuck) else in_unit (fresh s) place 0 depth at_code) xs
        → Known l s.unit s.table (root_ahead l.map xs)
    by_end true true d =
        subst (Known l s.unit s.table) (sym (header-none l.map l.base (before_unit s.section s.kind s.whole place (s.unit + 1)) xs refl d))
        (no-table l s.unit before (copies_in l.map l.base.abbrevs.bytes xs) after b below
        (copies-from l.map l.base.abbrevs.bytes l.base (before_unit s.section s.kind s.whole place (s.unit + 1)) xs d) behind)
    by_end true false d = absurd (stuck-none l.base (in_unit (fresh s) place 0 depth stuck) xs refl d)
    by_end false z d = next place depth d b

code-known : (l : Lift) (s : UnitState) (p : List Cell) (xs : List (Piece UnitState)) (before after : List Copy)
    → Chain (unit_grammar l.base) (after_code (fresh s) (s.place + length p) (code_value p)) xs → IsTable l.base.abbrevs.bytes s.header.abbrevs s.table
    → Between l before (copies_in l.map l.base.abbrevs.bytes (record { state = fresh s; cells = p } ∷ xs)) after
    → AllBelow s.unit before → AllFrom (s.unit + 1) after → NextKnown l s before after xs
    → Known l s.unit s.table (root_ahead l.map (record { state = fresh s; cells = p } ∷ xs))
unfolding after_code
code-known l s p xs before after c t b below behind next = by_zero (code_value p == 0) refl c
  where
    here : List Copy
    here = copies_at l.base.abbrevs.bytes (record { state = fresh s; cells = p }) (fates l.map xs)

    by_zero : (z : Bool) → (code_value p == 0) ≡ z
        → Chain (unit_grammar l.base) (if z then between (fresh s) (s.place + length p) 0 (s.depth - 1) else after_entry (fresh s) (s.place + length p) (abbreviation_of s.table (code_value p))) xs
        → Known l s.unit s.table (if z then root_ahead l.map xs else Some (record { code = code_value p; fates = fates l.map xs }))
    by_zero true e d =
        let none : here ≡ [] = ap (λ (z : Bool). copies_if (not z && any_grown (fates l.map xs)) s.unit (code_value p) (table_copy l.base.abbrevs.bytes s.header.abbrevs (code_value p) (fates l.map xs))) e in
        let among : Between l before (copies_in l.map l.base.abbrevs.bytes xs) after =
        record { among = b.among ∙ ap (λ (cs : List Copy). before ++ ((cs ++ copies_in l.map l.base.abbrevs.bytes xs) ++ after)) none } in
        null-known l s (s.place + length p) (s.depth - 1) xs before after d among below behind next
    by_zero false e d = root-known l s p xs before after e d t b below behind

-- so what is known of a unit is known in front of its entries
pub fresh-known : (l : Lift) (s : UnitState) (xs : List (Piece UnitState)) (before after : List Copy) → Chain (unit_grammar l.base) (fresh s) xs
    → IsTable l.base.abbrevs.bytes s.header.abbrevs s.table → Between l before (copies_in l.map l.base.abbrevs.bytes xs) after
    → AllBelow s.unit before → AllFrom (s.unit + 1) after → Known l s.unit s.table (root_ahead l.map xs)
fresh-known l s [] before after c t b below behind = let none : at_code ≡ at_header = c.mode in absurd cc
fresh-known l s (x ∷ xs) before after c t b below behind =
    subst (λ (u : UnitState). Chain (unit_grammar l.base) (past u.mode l.base u x.cells) xs
    → Between l before (copies_in l.map l.base.abbrevs.bytes (record { state = u; cells = x.cells } ∷ xs)) after
    → Known l s.unit s.table (root_ahead l.map (record { state = u; cells = x.cells } ∷ xs))) (sym c.0)
    (λ d e. code-known l s x.cells xs before after d t e below behind
    (λ place depth f g. fresh-known l (record s { place = place; depth = depth }) xs before after f t g below behind))
    c.2 b
