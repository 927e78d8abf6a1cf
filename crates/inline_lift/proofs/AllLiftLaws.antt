-- What is asked of the pieces of lifted units holds of all pieces of a section.
use Rattle.std.proofs.Common.{Bool, true, false, ◌≡◌, ◌≢◌, ◌⊎◌, inl, inr, ℕ, ◌+◌, ◌-◌, ◌^◌, ◌<◌, ◌==◌, List, [], ◌∷◌, length, Option, Some, None, refl, sym, ap, ◌∙◌, subst, arith, if◌then◌else◌}
use Rattle.std.proofs.lemmas.Bool.{eqb-true, ne_eqb}
use Rattle.dw_base.specs.AbbreviationBytes.{abbreviations_at}
use Rattle.dw_base.specs.AbbreviationTables.{Abbreviation, IsTable, abbreviation_of}
use Rattle.dw_base.specs.Cells.{Cell}
use Rattle.dw_base.specs.EntryScans.{depth_behind}
use Rattle.dw_base.specs.Forms.{ValueKind, form_in_front, kind_in}
use Rattle.dw_base.specs.Pieces.{Chain, Piece}
use Rattle.dw_base.specs.UnitHeaders.{UnitBase}
use Rattle.dw_base.specs.UnitPieces.{FitsMode, IsHeader, unit_grammar}
use Rattle.dw_base.specs.UnitStates.{Mode, at_header, at_code, at_values, at_chosen, stuck, UnitState, after_code, after_entry, after_header, after_value, before_unit, between, code_value, headed, in_unit, inside, past}
use Rattle.dw_base.specs.declared.units.UnitHeader.{UnitHeader}
use Rattle.dw_base.specs.declared.values.Spec.{Spec}
use Rattle.dw_base.proofs.AbbreviationLaws.{table-found}
use Rattle.inline_lift.specs.GrowingPaths.{Fate, any_grown, fate_if, fate_of, fates, grows, is_grown, room_left}
use Rattle.inline_lift.specs.LiftFails.{CodeLifts, ValueLifts}
use Rattle.inline_lift.specs.Lifted.{Lift, lifted_abbrevs, own_table}
use Rattle.inline_lift.specs.LiftedTables.{Copy, copies_in, lifted_specs, lifted_table}
use Rattle.inline_lift.proofs.CopyPlaceLaws.{AllBelow, AllFrom}
use Rattle.inline_lift.proofs.FateLaws.{AllStay, NotFirst, all-stay, inside-other, specs-stay}
use Rattle.inline_lift.proofs.LiftedSpecLaws.{abbreviation-lifted, lifted_found}
use Rattle.inline_lift.proofs.PieceLiftLaws.{EntryLifts, TableLifts, TextLifts, in_mode}
use Rattle.inline_lift.proofs.RootLaws.{Between, Known, OwnTable, Root, fresh, fresh-known, null-known, root_ahead}
use Rattle.inline_lift.proofs.StateLiftLaws.{entry_lifted, inside-anywhere}
use Rattle.inline_lift.proofs.UnitLiftLaws.{PieceLifts}

-- the copy of a unit's table, read
of_place : (a b : ℕ) → Some a ≡ Some b → a ≡ b
of_place a b e = cc

pub own-lifts : (l : Lift) (unit table : ℕ) (list : List Abbreviation) (r : Root) → OwnTable l unit list r → own_table l unit ≡ Some table → length (lifted_abbrevs l) < 2 ^ 32
    → TableLifts l table × (abbreviations_at (lifted_abbrevs l) table ≡ lifted_table r.code r.fates list)
own-lifts l unit table list r o e small =
    let same : o.table ≡ table = of_place o.table table (sym o.own ∙ e) in
    let stands : IsTable (lifted_abbrevs l) table (lifted_table r.code r.fates list) = subst (λ (n : ℕ). IsTable (lifted_abbrevs l) n (lifted_table r.code r.fates list)) same o.stands in
    let read : abbreviations_at (lifted_abbrevs l) table ≡ lifted_table r.code r.fates list = table-found (lifted_abbrevs l) table (lifted_table r.code r.fates list) stands in (
      record {
        small = omega (arith, o.small, same, small);
        stands = subst (λ (xs : List Abbreviation). IsTable (lifted_abbrevs l) table xs) (sym read) stands;
      },
      read,
    )

pub none-own : (l : Lift) (unit table : ℕ) → own_table l unit ≡ None → own_table l unit ≡ Some table → ⊥
none-own l unit table none some = let both : None ≡ Some table = sym none ∙ some in cc

-- the abbreviation of the first entry is lifted, and every other stays
pub found-code : (xs : List Abbreviation) (code : ℕ) (a : Abbreviation) → abbreviation_of xs code ≡ Some a → (a.code == code) ≡ true
found-code [] code a e = absurd cc
found-code (x ∷ xs) code a e = by_code (x.code == code) refl (found-code xs code a) e
  where
    by_code : (t : Bool) → (x.code == code) ≡ t → (abbreviation_of xs code ≡ Some a → (a.code == code) ≡ true)
        → (if t then Some x else abbreviation_of xs code) ≡ Some a → (a.code == code) ≡ true
    by_code true is rest e = let same : x ≡ a = cc in subst (λ (b : Abbreviation). (b.code == code) ≡ true) same is
    by_code false is rest e = rest e

first-found : (list : List Abbreviation) (code : ℕ) (fs : List Fate) → lifted_found code fs (abbreviation_of list code) ≡ entry_lifted fs (abbreviation_of list code)
first-found list code fs = by_found (abbreviation_of list code) refl
  where
    by_found : (o : Option Abbreviation) → abbreviation_of list code ≡ o → lifted_found code fs o ≡ entry_lifted fs o
    by_found None e = refl
    by_found (Some a) e = ap (λ (b : Bool). Some (if b then record a { specs = lifted_specs fs a.specs } else a)) (found-code list code a e)

other-found : (list : List Abbreviation) (code n : ℕ) (fs gs : List Fate) → code ≢ n → AllStay gs → lifted_found code fs (abbreviation_of list n) ≡ entry_lifted gs (abbreviation_of list n)
other-found list code n fs gs other all = by_found (abbreviation_of list n) refl
  where
    by_found : (o : Option Abbreviation) → abbreviation_of list n ≡ o → lifted_found code fs o ≡ entry_lifted gs o
    by_found None e = refl
    by_found (Some a) e =
        let is : a.code ≡ n = eqb-true a.code n (found-code list n a e) in
        ap (λ (b : Bool). Some (if b then record a { specs = lifted_specs fs a.specs } else a)) (ne_eqb a.code code (λ f. other (sym f ∙ is)))
        ∙ ap (λ (xs : List Spec). Some (record a { specs = xs })) (sym (specs-stay gs a.specs all))

-- what is asked of each piece
pub record CanLift (l : Lift) (x : Piece UnitState) : Type 0 where
  pub value : ValueLifts l.map x
  pub short : length x.cells < 2 ^ 32

-- the unit of a state was read with its table
pub record Inside (l : Lift) (s : UnitState) : Type 0 where
  pub order : s.header.params.order ≡ l.base.order
  pub table : IsTable l.base.abbrevs.bytes s.header.abbrevs s.table

-- where pieces stand: in front of a unit; in front of its entries; or behind the code of its first entry, of which nothing more grows where the unit
-- has no table of its own, and whose code is known where a path grows in it
pub data Stage (l : Lift) (o : Option ℕ) (xs : List (Piece UnitState)) (s : UnitState) : Type 0 where
  at_unit : s.mode ≡ at_header → Stage l o xs s
  before_first : (t : UnitState) → s ≡ fresh t → Inside l s → Known l s.unit s.table (root_ahead l.map xs) → Stage l o xs s
  behind_first : (r : Root) → s.entry ≢ 0 → s.mode ≢ at_header → Inside l s → Known l s.unit s.table (Some r) → (any_grown r.fates ≡ true → o ≡ Some r.code)
      → (own_table l s.unit ≡ None → any_grown (fates l.map xs) ≡ false) → Stage l o xs s

-- a state behind another in the same unit, behind its first entry's code
pub record Inner (s t : UnitState) : Type 0 where
  pub header : t.header ≡ s.header
  pub table : t.table ≡ s.table
  pub unit : t.unit ≡ s.unit
  pub entry : t.entry ≢ 0
  pub mode : t.mode ≢ at_header

abbrev pub GoesOn : UnitState → UnitState → Type 0
GoesOn s t = (t.mode ≡ at_header) ⊎ Inner s t

between-inner : (s : UnitState) (place entry depth : ℕ) → entry ≢ 0 → GoesOn s (between s place entry depth)
unfolding between
between-inner s place entry depth some = by_end (place == s.header.end) (depth == 0)
  where
    by_end : (a b : Bool) → GoesOn s (if a then (if b then before_unit s.section s.kind s.whole place (s.unit + 1) else in_unit s place entry depth stuck) else in_unit s place entry depth at_code)
    by_end true true = inl refl
    by_end true false = inr (record { header = refl; table = refl; unit = refl; entry = some; mode = λ e. cc })
    by_end false b = inr (record { header = refl; table = refl; unit = refl; entry = some; mode = λ e. cc })

inside-inner : (s : UnitState) (place entry depth number tag : ℕ) (xs : List Spec) → entry ≢ 0 → GoesOn s (inside s place entry depth number tag xs)
inside-inner s place entry depth number tag [] some = between-inner s place entry depth some
inside-inner s place entry depth number tag (x ∷ xs) some = inr (record { header = refl; table = refl; unit = refl; entry = some; mode = λ e. cc })

next-some : (n : ℕ) → n + 1 ≢ 0
next-some n e = omega (arith, e)

pub entry-inner : (s : UnitState) (place : ℕ) (a : Abbreviation) → GoesOn s (after_entry s place (Some a))
entry-inner s place a = inside-inner s place (s.entry + 1) (depth_behind a s.depth) s.entry a.tag a.specs (next-some s.entry)

absent-inner : (s : UnitState) (place : ℕ) (o : Option Abbreviation) → s.entry ≢ 0 → GoesOn s (after_entry s place o)
absent-inner s place None some = inr (record { header = refl; table = refl; unit = refl; entry = some; mode = λ e. cc })
absent-inner s place (Some a) some = entry-inner s place a

code-inner : (s : UnitState) (place n : ℕ) → s.entry ≢ 0 → GoesOn s (after_code s place n)
unfolding after_code
code-inner s place n some = by_zero (n == 0)
  where
    by_zero : (z : Bool) → GoesOn s (if z then between s place s.entry (s.depth - 1) else after_entry s place (abbreviation_of s.table n))
    by_zero true = between-inner s place s.entry (s.depth - 1) some
    by_zero false = absent-inner s place (abbreviation_of s.table n) some

value-inner : (k : ValueKind) (s : UnitState) (place form number tag : ℕ) (x : Spec) (xs : List Spec) → s.entry ≢ 0 → GoesOn s (after_value k s place form number tag x xs)
value-inner form_in_front s place form number tag x xs some = inr (record { header = refl; table = refl; unit = refl; entry = some; mode = λ e. cc })
value-inner k s place form number tag x xs some = inside-inner s place s.entry s.depth number tag xs some

pub past-inner : (k : Mode) (base : UnitBase) (s : UnitState) (p : List Cell) → k ≢ at_header → s.entry ≢ 0 → FitsMode k base s p → GoesOn s (past k base s p)
past-inner at_header base s p other some f = absurd (other refl)
past-inner at_code base s p other some f = code-inner s (s.place + length p) (code_value p) some
past-inner (at_values number tag []) base s p other some f = absurd f
past-inner (at_values number tag (x ∷ xs)) base s p other some f = value-inner (kind_in s.header.params x.form) s (s.place + length p) (code_value p) number tag x xs some
past-inner (at_chosen number tag start x xs) base s p other some f = inside-inner s (s.place + length p) s.entry s.depth number tag xs some
past-inner stuck base s p other some f = absurd f

-- so what is known of the unit stays
pub inner-stage : (l : Lift) (o : Option ℕ) (xs : List (Piece UnitState)) (s t : UnitState) (r : Root) → Inside l s → Known l s.unit s.table (Some r)
    → (any_grown r.fates ≡ true → o ≡ Some r.code) → (own_table l s.unit ≡ None → any_grown (fates l.map xs) ≡ false) → GoesOn s t → Stage l o xs t
inner-stage l o xs s t r i known rooted quiet (inl e) = at_unit e
inner-stage l o xs s t r i known rooted quiet (inr g) =
    behind_first r g.entry g.mode
    (record {
      order = ap (λ (h : UnitHeader). h.params.order) g.header ∙ i.order;
      table = subst (λ (h : UnitHeader). IsTable l.base.abbrevs.bytes h.abbrevs t.table) (sym g.header) (subst (λ (list : List Abbreviation). IsTable l.base.abbrevs.bytes s.header.abbrevs list) (sym g.table) i.table);
    })
    (subst (λ (n : ℕ). Known l n t.table (Some r)) (sym g.unit) (subst (λ (list : List Abbreviation). Known l s.unit list (Some r)) (sym g.table) known))
    rooted (λ none. quiet (ap (own_table l) (sym g.unit) ∙ none))

-- what is known behind a header
pub header-known : (l : Lift) (s : UnitState) (h : UnitHeader) (place : ℕ) (xs : List (Piece UnitState)) (before after : List Copy)
    → Chain (unit_grammar l.base) (between (headed l.base s h) place 0 0) xs → IsTable l.base.abbrevs.bytes h.abbrevs (headed l.base s h).table
    → Between l before (copies_in l.map l.base.abbrevs.bytes xs) after → AllBelow s.unit before → AllFrom (s.unit + 1) after
    → Known l s.unit (headed l.base s h).table (root_ahead l.map xs)
header-known l s h place xs before after c t b below behind =
    let same : between (fresh (headed l.base s h)) place 0 0 ≡ between (headed l.base s h) place 0 0 = inside-anywhere (headed l.base s h) (headed l.base s h).place 0 0 at_code place 0 0 0 0 [] in
    null-known l (headed l.base s h) place 0 xs before after (subst (λ (u : UnitState). Chain (unit_grammar l.base) u xs) (sym same) c) b below behind
    (λ place depth d e. fresh-known l (record (headed l.base s h) { place = place; depth = depth }) xs before after d t e below behind)

-- from what is known to the table of a unit that has one
known-own : (l : Lift) (unit table : ℕ) (list : List Abbreviation) (o : Option Root) → Known l unit list o → own_table l unit ≡ Some table
    → (r : Root) × (o ≡ Some r) × OwnTable l unit list r
known-own l unit table list None known e = absurd (none-own l unit table known e)
known-own l unit table list (Some r) (inl p) e = absurd (none-own l unit table p.1 e)
known-own l unit table list (Some r) (inr p) e = (r, refl, p.1)

-- in front of a unit
pub header-lifts : (l : Lift) (table : ℕ) (s : UnitState) (p : List Cell) (xs : List (Piece UnitState)) (before after : List Copy) → IsHeader l.base s p
    → Chain (unit_grammar l.base) (past at_header l.base s p) xs → length (lifted_abbrevs l) < 2 ^ 32
    → Between l before (copies_in l.map l.base.abbrevs.bytes xs) after → AllBelow s.unit before → AllFrom (s.unit + 1) after
    → own_table l s.unit ≡ Some table → TableLifts l table
header-lifts l table s p xs before after f c small b below behind e =
    let chain : Chain (unit_grammar l.base) (between (headed l.base s f.header) (s.place + length p) 0 0) xs =
    subst (λ (o : Option UnitHeader). Chain (unit_grammar l.base) (after_header l.base s (s.place + length p) o) xs) f.is c in
    let known = header-known l s f.header (s.place + length p) xs before after chain f.table.is b below behind in
    let own = known-own l s.unit table (headed l.base s f.header).table (root_ahead l.map xs) known e in
    (own-lifts l s.unit table (headed l.base s f.header).table own.0 own.2 e small).0

-- at the code of a unit's first entry, and of any other
pub first-lifts : (l : Lift) (table : ℕ) (s : UnitState) (p : List Cell) (xs : List (Piece UnitState)) → length (lifted_abbrevs l) < 2 ^ 32
    → Known l s.unit s.table (root_ahead l.map (record { state = fresh s; cells = p } ∷ xs)) → own_table l s.unit ≡ Some table → EntryLifts l table (fates l.map xs) s p
first-lifts l table s p xs small known e some =
    let code : (code_value p == 0) ≡ false = ne_eqb (code_value p) 0 some in
    let first : root_ahead l.map (record { state = fresh s; cells = p } ∷ xs) ≡ Some (record { code = code_value p; fates = fates l.map xs }) =
    ap (λ (b : Bool). if b then root_ahead l.map xs else Some (record { code = code_value p; fates = fates l.map xs })) code in
    by_known (subst (Known l s.unit s.table) first known)
  where
    by_known : Known l s.unit s.table (Some (record { code = code_value p; fates = fates l.map xs }))
        → abbreviation_of (abbreviations_at (lifted_abbrevs l) table) (code_value p) ≡ entry_lifted (fates l.map xs) (abbreviation_of s.table (code_value p))
    by_known (inl k) = absurd (none-own l s.unit table k.1 e)
    by_known (inr k) =
        let own = own-lifts l s.unit table s.table (record { code = code_value p; fates = fates l.map xs }) k.1 e small in
        ap (λ (list : List Abbreviation). abbreviation_of list (code_value p)) own.1
        ∙ abbreviation-lifted (code_value p) (fates l.map xs) s.table (code_value p)
        ∙ first-found s.table (code_value p) (fates l.map xs)

other-lifts : (l : Lift) (table : ℕ) (s : UnitState) (p : List Cell) (gs : List Fate) (r : Root) → length (lifted_abbrevs l) < 2 ^ 32
    → Known l s.unit s.table (Some r) → own_table l s.unit ≡ Some table → (any_grown r.fates ≡ true → r.code ≢ code_value p) → AllStay gs → EntryLifts l table gs s p
other-lifts l table s p gs r small (inl k) e codes all some = absurd (none-own l s.unit table k.1 e)
other-lifts l table s p gs r small (inr k) e codes all some =
    let own = own-lifts l s.unit table s.table r k.1 e small in
    ap (λ (list : List Abbreviation). abbreviation_of list (code_value p)) own.1
    ∙ abbreviation-lifted r.code r.fates s.table (code_value p)
    ∙ other-found s.table r.code (code_value p) r.fates gs (codes k.0) all

-- a value whose text grows
grown-is : (b : Bool) (r : ℕ) → is_grown (fate_if b r) ≡ true → b ≡ true
grown-is true r e = refl
grown-is false r e = absurd cc

value-lifts : (l : Lift) (x : Piece UnitState) → CanLift l x → Inside l x.state → is_grown (fate_of l.map x) ≡ true → TextLifts l x.state x.cells
value-lifts l x can i e = record {
  room = can.value.room (grown-is (grows l.map x) (room_left x.state x.cells) e);
  small = can.short;
  order = i.order;
}

-- the code of an entry behind the first leads to no path of the unit
pub between-after : (s : UnitState) (place n : ℕ) → s.entry ≢ 0 → NotFirst (after_code s place n).mode
unfolding after_code
between-after s place n some = by_zero (n == 0)
  where
    by_entry : (o : Option Abbreviation) → NotFirst (after_entry s place o).mode
    by_entry None = tt
    by_entry (Some a) = inside-other s place (s.entry + 1) (depth_behind a s.depth) s.entry a.tag a.specs some

    by_zero : (z : Bool) → NotFirst (if z then between s place s.entry (s.depth - 1) else after_entry s place (abbreviation_of s.table n)).mode
    by_zero true = inside-other s place s.entry (s.depth - 1) 1 0 [] (λ e. omega (arith, e))
    by_zero false = by_entry (abbreviation_of s.table n)

pub behind-lifts : (k : Mode) (l : Lift) (o : Option ℕ) (table : ℕ) (s : UnitState) (p : List Cell) (xs : List (Piece UnitState)) (r : Root) → CanLift l (record { state = in_mode s k; cells = p })
    → CodeLifts k o (in_mode s k) p → (any_grown r.fates ≡ true → o ≡ Some r.code) → k ≢ at_header → Chain (unit_grammar l.base) (past k l.base (in_mode s k) p) xs → length (lifted_abbrevs l) < 2 ^ 32 → s.entry ≢ 0 → Inside l (in_mode s k)
    → Known l s.unit s.table (Some r) → own_table l s.unit ≡ Some table
    → PieceLifts k l table (fates l.map xs) (fate_of l.map (record { state = in_mode s k; cells = p })) (in_mode s k) p
behind-lifts at_header l o table s p xs r can codes rooted other c small some i known e = absurd (other refl)
behind-lifts at_code l o table s p xs r can codes rooted other c small some i known e =
    other-lifts l table s p (fates l.map xs) r small known e (λ grown. subst (λ (q : Option ℕ). CodeLifts at_code q (in_mode s at_code) p) (rooted grown) codes some)
    (all-stay l.map l.base (after_code (in_mode s at_code) (s.place + length p) (code_value p)) xs c (between-after (in_mode s at_code) (s.place + length p) (code_value p) some))
behind-lifts (at_values number tag ys) l o table s p xs r can codes rooted other c small some i known e =
    value-lifts l (record { state = in_mode s (at_values number tag ys); cells = p }) can i
behind-lifts (at_chosen number tag start y ys) l o table s p xs r can codes rooted other c small some i known e = tt
behind-lifts stuck l o table s p xs r can codes rooted other c small some i known e = tt
