-- All pieces of unit sections that can be lifted are so.
use Rattle.std.proofs.Common.{Bool, true, false, ◌≡◌, ℕ, ◌+◌, ◌^◌, ◌<◌, List, [], ◌∷◌, ◌++◌, length, Option, Some, None, refl, sym, ap, ◌∙◌, subst}
use Rattle.std.specs.Prelude.{◌&&◌, ⊤}
use Rattle.dw_base.specs.DebugData.{ReadsAll, units_in}
use Rattle.dw_base.specs.Paths.{PathMap}
use Rattle.dw_base.specs.Pieces.{Chain, EachPiece, Piece}
use Rattle.dw_base.specs.Readings.{EachReading, Readings}
use Rattle.dw_base.specs.UnitHeaders.{UnitSection}
use Rattle.dw_base.specs.UnitPieces.{FitsMode, IsHeader, unit_grammar}
use Rattle.dw_base.specs.UnitStates.{Mode, at_header, UnitState, before_unit, code_value, past}
use Rattle.inline_lift.specs.GrowingPaths.{Fate, any_grown, fate_of, fates, grows}
use Rattle.inline_lift.specs.LiftFails.{CodeLifts, ValueLifts, is_chosen}
use Rattle.inline_lift.specs.Lifted.{Lift, lifted_abbrevs, own_table}
use Rattle.inline_lift.specs.LiftedTables.{Copy, copies_at, copies_if, copies_in, is_first_code, table_copy}
use Rattle.inline_lift.proofs.AllLiftLaws.{CanLift, Stage, at_unit, before_first, behind_first, behind-lifts, first-lifts, header-lifts}
use Rattle.inline_lift.proofs.CopyPlaceLaws.{AllBelow, AllFrom, bound, bound_by}
use Rattle.inline_lift.proofs.QuietLaws.{none-here, quiet-mode}
use Rattle.inline_lift.proofs.RootLaws.{Between, Known, fresh, root_ahead}
use Rattle.inline_lift.proofs.SectionLiftLaws.{EachLifts}
use Rattle.inline_lift.proofs.StageLaws.{AllStaged, EachStaged, Staged}
use Rattle.inline_lift.proofs.UnitLiftLaws.{AllLift, LiftsIf, PieceLifts}

-- a piece of a unit is lifted where its unit has a table of its own
lifts-here : (l : Lift) (root : Option ℕ) (x : Piece UnitState) (xs : List (Piece UnitState)) (before after : List Copy) (o : Option ℕ) → CanLift l x
    → CodeLifts x.state.mode root x.state x.cells
    → FitsMode x.state.mode l.base x.state x.cells → Chain (unit_grammar l.base) (past x.state.mode l.base x.state x.cells) xs → length (lifted_abbrevs l) < 2 ^ 32
    → Between l before (copies_in l.map l.base.abbrevs.bytes (x ∷ xs)) after → AllBelow (bound x.state) before → (x.state.mode ≡ at_header → AllFrom (x.state.unit + 1) after)
    → Stage l root (x ∷ xs) x.state → own_table l x.state.unit ≡ o → LiftsIf o l (fates l.map xs) x
lifts-here l root x xs before after None can codes f c small b below behind stage e = tt
lifts-here l root x xs before after (Some table) can codes f c small b below behind (at_unit is) e =
    let header : IsHeader l.base x.state x.cells = subst (λ (k : Mode). FitsMode k l.base x.state x.cells) is f in
    let chain : Chain (unit_grammar l.base) (past at_header l.base x.state x.cells) xs = subst (λ (k : Mode). Chain (unit_grammar l.base) (past k l.base x.state x.cells) xs) is c in
    let none : copies_at l.base.abbrevs.bytes x (fates l.map xs) ≡ [] =
    ap (λ (k : Mode). copies_if (is_first_code k x.state x.cells && any_grown (fates l.map xs)) x.state.unit (code_value x.cells)
    (table_copy l.base.abbrevs.bytes x.state.header.abbrevs (code_value x.cells) (fates l.map xs))) is in
    let among : Between l before (copies_in l.map l.base.abbrevs.bytes xs) after =
    record { among = b.among ∙ ap (λ (cs : List Copy). before ++ ((cs ++ copies_in l.map l.base.abbrevs.bytes xs) ++ after)) none } in
    let low : AllBelow x.state.unit before = subst (λ (k : Mode). AllBelow (bound_by k x.state) before) is below in
    subst (λ (k : Mode). PieceLifts k l table (fates l.map xs) (fate_of l.map x) x.state x.cells) (sym is)
    (header-lifts l table x.state x.cells xs before after header chain small among low (behind is) e)
lifts-here l root x xs before after (Some table) can codes f c small b below behind (before_first t is i known) e =
    let here : Known l t.unit t.table (root_ahead l.map (record { state = fresh t; cells = x.cells } ∷ xs)) =
    subst (λ (u : UnitState). Known l u.unit u.table (root_ahead l.map (record { state = u; cells = x.cells } ∷ xs))) is known in
    let own : own_table l t.unit ≡ Some table = ap (λ (u : UnitState). own_table l u.unit) (sym is) ∙ e in
    subst (λ (u : UnitState). PieceLifts u.mode l table (fates l.map xs) (fate_of l.map x) u x.cells) (sym is)
    (first-lifts l table t x.cells xs small here own)
lifts-here l root x xs before after (Some table) can codes f c small b below behind (behind_first r some other i known rooted quiet) e =
    behind-lifts x.state.mode l root table x.state x.cells xs r can codes rooted other c small some i known e

-- what is known of a piece: it is lifted where its unit has a table of its own, and else no path grows in it; nor does one whose form stands in front
-- of it
pub record Lifting (l : Lift) (gs : List Fate) (x : Piece UnitState) : Type 0 where
  pub lifts : LiftsIf (own_table l x.state.unit) l gs x
  pub quiet : own_table l x.state.unit ≡ None → grows l.map x ≡ false
  pub own : is_chosen x.state.mode ≡ true → grows l.map x ≡ false

abbrev pub AllLifting : Lift → List (Piece UnitState) → Type 0
AllLifting l [] = ⊤
AllLifting l (x ∷ xs) = Lifting l (fates l.map xs) x × AllLifting l xs

never-both : (a b : Bool) → (a ≡ true → b ≡ false) → b ≡ true → a ≡ false
never-both true b h e = let both : true ≡ false = sym e ∙ h refl in absurd cc
never-both false b h e = refl

-- no path grows behind its form, nor in a unit without a table of its own
own-quiet : (m : PathMap) (x : Piece UnitState) → ValueLifts m x → is_chosen x.state.mode ≡ true → grows m x ≡ false
own-quiet m x v e = never-both (grows m x) (is_chosen x.state.mode) v.own_form e

pub staged-quiet : (l : Lift) (x : Piece UnitState) (xs : List (Piece UnitState)) → ValueLifts l.map x → Staged l x xs → own_table l x.state.unit ≡ None → grows l.map x ≡ false
staged-quiet l x xs v here none = quiet-mode x.state.mode l.map x.state x.cells xs (none-here l here.root x xs here.stage none) (own-quiet l.map x v)

pub all-lifting : (l : Lift) (s : UnitState) (xs : List (Piece UnitState)) → Chain (unit_grammar l.base) s xs → EachPiece (CanLift l) xs → length (lifted_abbrevs l) < 2 ^ 32 → AllStaged l xs
    → AllLifting l xs
all-lifting l s [] c can small at = tt
all-lifting l s (x ∷ xs) c can small at =
    let here : Staged l x xs = at.0 in (
      record {
        lifts = lifts-here l here.root x xs here.before here.after (own_table l x.state.unit) can.0 here.codes c.1 c.2 small here.among here.below here.behind here.stage refl;
        quiet = staged-quiet l x xs can.0.value here;
        own = own-quiet l.map x can.0.value;
      },
      all-lifting l (past x.state.mode l.base x.state x.cells) xs c.2 can.1 small at.1,
    )

-- so it is lifted
pub all-lift : (l : Lift) (xs : List (Piece UnitState)) → AllLifting l xs → AllLift l xs
all-lift l [] all = tt
all-lift l (x ∷ xs) all = (all.0.lifts, all-lift l xs all.1)

-- so this is known of all pieces of all sections that can be lifted
abbrev pub EachLifting : Lift → Readings → Type 0
EachLifting l [] = ⊤
EachLifting l (r ∷ rs) = AllLifting l r.pieces × EachLifting l rs

pub each-lifting : (l : Lift) (first : ℕ) (zs : List UnitSection) (rs : Readings) → ReadsAll l.base first zs rs → EachReading (CanLift l) rs → length (lifted_abbrevs l) < 2 ^ 32 → EachStaged l rs
    → EachLifting l rs
each-lifting l first [] [] reads can small at = tt
each-lifting l first [] (r ∷ rs) reads can small at = absurd reads
each-lifting l first (z ∷ zs) [] reads can small at = absurd reads
each-lifting l first (z ∷ zs) (r ∷ rs) reads can small at = (
  all-lifting l (before_unit z.number z.kind (length z.contents) 0 first) r.pieces reads.1.chain can.0 small at.0,
  each-lifting l (first + units_in r.pieces) zs rs reads.2 can.1 small at.1,
)

pub each-lift : (l : Lift) (rs : Readings) → EachLifting l rs → EachLifts l rs
each-lift l [] all = tt
each-lift l (r ∷ rs) all = (all-lift l r.pieces all.0, each-lift l rs all.1)
