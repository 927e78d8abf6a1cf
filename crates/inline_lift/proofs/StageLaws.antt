-- Where each piece of unit sections stands, and which copies are before it and behind it: one piece after another.
use Rattle.std.proofs.Common.{Bool, true, false, ◌≡◌, ◌≢◌, ℕ, ◌+◌, ◌-◌, ◌<◌, ◌≤◌, ◌==◌, not, List, [], ◌∷◌, ◌++◌, length, Option, Some, None, refl, sym, ap, ◌∙◌, subst, arith, if◌then◌else◌, append_assoc}
use Rattle.std.specs.Prelude.{◌&&◌, ⊤}
use Rattle.std.proofs.lemmas.Bool.{and_parts, ne_eqb}
use Rattle.dw_base.specs.AbbreviationTables.{Abbreviation, abbreviation_of}
use Rattle.dw_base.specs.Cells.{Cell}
use Rattle.dw_base.specs.DebugData.{ReadsAll, begins_by, units_in}
use Rattle.dw_base.specs.EntryScans.{depth_behind}
use Rattle.dw_base.specs.Forms.{ValueKind, form_in_front, kind_in}
use Rattle.dw_base.specs.Paths.{PathMap}
use Rattle.dw_base.specs.Pieces.{Chain, Piece}
use Rattle.dw_base.specs.Readings.{Readings}
use Rattle.dw_base.specs.UnitHeaders.{UnitBase, UnitSection}
use Rattle.dw_base.specs.UnitPieces.{FitsMode, IsHeader, unit_grammar}
use Rattle.dw_base.specs.UnitStates.{Mode, at_header, at_code, at_values, at_chosen, stuck, UnitState, after_code, after_entry, after_header, after_value, before_unit, between, code_value, headed, in_unit, inside, past, piece_header}
use Rattle.dw_base.specs.declared.units.UnitHeader.{UnitHeader}
use Rattle.dw_base.specs.declared.values.Spec.{Spec}
use Rattle.inline_lift.specs.GrowingPaths.{Fate, any_grown, fates}
use Rattle.inline_lift.specs.LiftFails.{AllCodesLift, CodeLifts, CodesLift, root_behind, root_if}
use Rattle.inline_lift.specs.Lifted.{Lift}
use Rattle.inline_lift.specs.LiftedTables.{Copy, all_copies, copies_at, copies_if, copies_in, is_first_code, table_copy}
use Rattle.inline_lift.proofs.AllLiftLaws.{Inside, Stage, at_unit, before_first, behind_first, entry-inner, header-known, inner-stage, past-inner}
use Rattle.inline_lift.proofs.CopyPlaceLaws.{AllBelow, AllFrom, below-append, below-weaker, bound, bound_by, copies-from, entry-above, from-append, from-weaker, past-bound}
use Rattle.inline_lift.proofs.OwnTableLaws.{order-read}
use Rattle.inline_lift.proofs.QuietLaws.{later-quiet, none-grown}
use Rattle.inline_lift.proofs.RootLaws.{Between, Known, fresh, root_ahead, stuck-none}

-- the stage behind a piece
between-stage : (l : Lift) (o : Option ℕ) (s : UnitState) (place depth : ℕ) (xs : List (Piece UnitState)) → Inside l s → Known l s.unit s.table (root_ahead l.map xs)
    → Chain (unit_grammar l.base) (between s place 0 depth) xs → Stage l o xs (between s place 0 depth)
unfolding between
between-stage l o s place depth xs i known c = by_end (place == s.header.end) (depth == 0) c
  where
    by_end : (a b : Bool) → Chain (unit_grammar l.base) (if a then (if b then before_unit s.section s.kind s.whole place (s.unit + 1) else in_unit s place 0 depth stuck) else in_unit s place 0 depth at_code) xs
        → Stage l o xs (if a then (if b then before_unit s.section s.kind s.whole place (s.unit + 1) else in_unit s place 0 depth stuck) else in_unit s place 0 depth at_code)
    by_end true true d = at_unit refl
    by_end true false d = absurd (stuck-none l.base (in_unit s place 0 depth stuck) xs refl d)
    by_end false b d = before_first (in_unit s place 0 depth at_code) refl (record { order = i.order; table = i.table }) known

header-stage : (l : Lift) (o : Option ℕ) (s : UnitState) (p : List Cell) (xs : List (Piece UnitState)) (before after : List Copy) → IsHeader l.base s p
    → Chain (unit_grammar l.base) (past at_header l.base s p) xs → Between l before (copies_in l.map l.base.abbrevs.bytes xs) after → AllBelow s.unit before
    → AllFrom (s.unit + 1) after → Stage l o xs (past at_header l.base s p)
header-stage l o s p xs before after f c b below behind =
    let chain : Chain (unit_grammar l.base) (between (headed l.base s f.header) (s.place + length p) 0 0) xs =
    subst (λ (o : Option UnitHeader). Chain (unit_grammar l.base) (after_header l.base s (s.place + length p) o) xs) f.is c in
    let i : Inside l (headed l.base s f.header) = record { order = order-read l.base s.kind s.section s.place p f.header f.is; table = f.table.is } in
    subst (λ (q : Option UnitHeader). Stage l o xs (after_header l.base s (s.place + length p) q)) (sym f.is)
    (between-stage l o (headed l.base s f.header) (s.place + length p) 0 xs i (header-known l s f.header (s.place + length p) xs before after chain f.table.is b below behind) chain)

first-stage : (l : Lift) (o : Option ℕ) (t : UnitState) (p : List Cell) (xs : List (Piece UnitState)) → Inside l (fresh t) → Known l t.unit t.table (root_ahead l.map (record { state = fresh t; cells = p } ∷ xs))
    → Chain (unit_grammar l.base) (after_code (fresh t) (t.place + length p) (code_value p)) xs
    → Stage l (root_behind at_code o (fresh t) p (fates l.map xs)) xs (after_code (fresh t) (t.place + length p) (code_value p))
unfolding after_code
first-stage l o t p xs i known c = by_zero (code_value p == 0) known c
  where
    root_by : Bool → Option ℕ
    root_by z = if not z then root_if (any_grown (fates l.map xs)) (code_value p) else o

    by_entry : (a : Option Abbreviation) → Known l t.unit t.table (Some (record { code = code_value p; fates = fates l.map xs }))
        → Chain (unit_grammar l.base) (after_entry (fresh t) (t.place + length p) a) xs → Stage l (root_by false) xs (after_entry (fresh t) (t.place + length p) a)
    by_entry None k d = absurd (stuck-none l.base (after_entry (fresh t) (t.place + length p) None) xs refl d)
    by_entry (Some a) k d =
        inner-stage l (root_by false) xs (fresh t) (after_entry (fresh t) (t.place + length p) (Some a)) (record { code = code_value p; fates = fates l.map xs }) i k
        (λ grown. ap (λ (b : Bool). root_if b (code_value p)) grown)
        (λ none. none-grown l t.unit t.table (record { code = code_value p; fates = fates l.map xs }) none k) (entry-inner (fresh t) (t.place + length p) a)

    by_zero : (z : Bool) → Known l t.unit t.table (if z then root_ahead l.map xs else Some (record { code = code_value p; fates = fates l.map xs }))
        → Chain (unit_grammar l.base) (if z then between (fresh t) (t.place + length p) 0 (t.depth - 1) else after_entry (fresh t) (t.place + length p) (abbreviation_of t.table (code_value p))) xs
        → Stage l (root_by z) xs (if z then between (fresh t) (t.place + length p) 0 (t.depth - 1) else after_entry (fresh t) (t.place + length p) (abbreviation_of t.table (code_value p)))
    by_zero true k d = between-stage l (root_by true) (fresh t) (t.place + length p) (t.depth - 1) xs i k d
    by_zero false k d = by_entry (abbreviation_of t.table (code_value p)) k d

-- behind the first entry its code stays known
root-stays : (k : Mode) (o : Option ℕ) (s : UnitState) (p : List Cell) (fs : List Fate) → k ≢ at_header → s.entry ≢ 0 → root_behind k o s p fs ≡ o
root-stays at_header o s p fs other some = absurd (other refl)
root-stays at_code o s p fs other some =
    ap (λ (b : Bool). if b && not (code_value p == 0) then root_if (any_grown fs) (code_value p) else o) (ne_eqb s.entry 0 some)
root-stays (at_values number tag xs) o s p fs other some = refl
root-stays (at_chosen number tag start x xs) o s p fs other some = refl
root-stays stuck o s p fs other some = refl

next-stage : (l : Lift) (o : Option ℕ) (x : Piece UnitState) (xs : List (Piece UnitState)) (before after : List Copy)
    → FitsMode x.state.mode l.base x.state x.cells → Chain (unit_grammar l.base) (past x.state.mode l.base x.state x.cells) xs
    → Between l before (copies_in l.map l.base.abbrevs.bytes (x ∷ xs)) after → AllBelow (bound x.state) before → (x.state.mode ≡ at_header → AllFrom (x.state.unit + 1) after)
    → Stage l o (x ∷ xs) x.state → Stage l (root_behind x.state.mode o x.state x.cells (fates l.map xs)) xs (past x.state.mode l.base x.state x.cells)
next-stage l o x xs before after f c b below behind (at_unit is) =
    let header : IsHeader l.base x.state x.cells = subst (λ (k : Mode). FitsMode k l.base x.state x.cells) is f in
    let chain : Chain (unit_grammar l.base) (past at_header l.base x.state x.cells) xs = subst (λ (k : Mode). Chain (unit_grammar l.base) (past k l.base x.state x.cells) xs) is c in
    let none : copies_at l.base.abbrevs.bytes x (fates l.map xs) ≡ [] =
    ap (λ (k : Mode). copies_if (is_first_code k x.state x.cells && any_grown (fates l.map xs)) x.state.unit (code_value x.cells)
    (table_copy l.base.abbrevs.bytes x.state.header.abbrevs (code_value x.cells) (fates l.map xs))) is in
    let among : Between l before (copies_in l.map l.base.abbrevs.bytes xs) after =
    record { among = b.among ∙ ap (λ (cs : List Copy). before ++ ((cs ++ copies_in l.map l.base.abbrevs.bytes xs) ++ after)) none } in
    let low : AllBelow x.state.unit before = subst (λ (k : Mode). AllBelow (bound_by k x.state) before) is below in
    subst (λ (k : Mode). Stage l (root_behind k o x.state x.cells (fates l.map xs)) xs (past k l.base x.state x.cells)) (sym is) (header-stage l None x.state x.cells xs before after header chain among low (behind is))
next-stage l o x xs before after f c b below behind (before_first t is i known) =
    let here : Known l t.unit t.table (root_ahead l.map (record { state = fresh t; cells = x.cells } ∷ xs)) =
    subst (λ (u : UnitState). Known l u.unit u.table (root_ahead l.map (record { state = u; cells = x.cells } ∷ xs))) is known in
    subst (λ (u : UnitState). Stage l (root_behind u.mode o u x.cells (fates l.map xs)) xs (past u.mode l.base u x.cells)) (sym is)
    (first-stage l o t x.cells xs (subst (Inside l) is i) here (subst (λ (u : UnitState). Chain (unit_grammar l.base) (past u.mode l.base u x.cells) xs) is c))
next-stage l o x xs before after f c b below behind (behind_first r some other i known rooted quiet) =
    inner-stage l (root_behind x.state.mode o x.state x.cells (fates l.map xs)) xs x.state (past x.state.mode l.base x.state x.cells) r i known
    (λ grown. root-stays x.state.mode o x.state x.cells (fates l.map xs) other some ∙ rooted grown)
    (λ none. later-quiet x.state.mode l.map l.base x.state x.cells xs other some f c (quiet none)) (past-inner x.state.mode l.base x.state x.cells other some f)

-- the number of the unit behind the section's last, from a state with so many units behind it
abbrev pub ends_by : Mode → UnitState → ℕ → ℕ
ends_by at_header s n = s.unit + n
ends_by m s n = s.unit + 1 + n

between-ends : (s : UnitState) (place entry depth n : ℕ) → ends_by (between s place entry depth).mode (between s place entry depth) n ≡ s.unit + 1 + n
unfolding between
between-ends s place entry depth n = by_end (place == s.header.end) (depth == 0)
  where
    end_by : Bool → Bool → UnitState
    end_by a b = if a then (if b then before_unit s.section s.kind s.whole place (s.unit + 1) else in_unit s place entry depth stuck) else in_unit s place entry depth at_code

    by_end : (a b : Bool) → ends_by (end_by a b).mode (end_by a b) n ≡ s.unit + 1 + n
    by_end true true = refl
    by_end true false = refl
    by_end false b = refl

inside-ends : (s : UnitState) (place entry depth number tag : ℕ) (xs : List Spec) (n : ℕ)
    → ends_by (inside s place entry depth number tag xs).mode (inside s place entry depth number tag xs) n ≡ s.unit + 1 + n
inside-ends s place entry depth number tag [] n = between-ends s place entry depth n
inside-ends s place entry depth number tag (x ∷ xs) n = refl

header-ends : (base : UnitBase) (s : UnitState) (place : ℕ) (o : Option UnitHeader) (n : ℕ) → ends_by (after_header base s place o).mode (after_header base s place o) n ≡ s.unit + 1 + n
header-ends base s place None n = refl
header-ends base s place (Some h) n = between-ends (headed base s h) place 0 0 n

entry-ends : (s : UnitState) (place : ℕ) (o : Option Abbreviation) (n : ℕ) → ends_by (after_entry s place o).mode (after_entry s place o) n ≡ s.unit + 1 + n
entry-ends s place None n = refl
entry-ends s place (Some a) n = inside-ends s place (s.entry + 1) (depth_behind a s.depth) s.entry a.tag a.specs n

code-ends : (s : UnitState) (place code n : ℕ) → ends_by (after_code s place code).mode (after_code s place code) n ≡ s.unit + 1 + n
unfolding after_code
code-ends s place code n = by_zero (code == 0)
  where
    code_by : Bool → UnitState
    code_by z = if z then between s place s.entry (s.depth - 1) else after_entry s place (abbreviation_of s.table code)

    by_zero : (z : Bool) → ends_by (code_by z).mode (code_by z) n ≡ s.unit + 1 + n
    by_zero true = between-ends s place s.entry (s.depth - 1) n
    by_zero false = entry-ends s place (abbreviation_of s.table code) n

value-ends : (k : ValueKind) (s : UnitState) (place form number tag : ℕ) (x : Spec) (xs : List Spec) (n : ℕ)
    → ends_by (after_value k s place form number tag x xs).mode (after_value k s place form number tag x xs) n ≡ s.unit + 1 + n
value-ends form_in_front s place form number tag x xs n = refl
value-ends k s place form number tag x xs n = inside-ends s place s.entry s.depth number tag xs n

one-more : (a n : ℕ) → a + 1 + n ≡ a + 1 + (0 + n)
one-more a n = omega arith

past-ends : (k : Mode) (base : UnitBase) (s : UnitState) (p : List Cell) (n : ℕ) → FitsMode k base s p
    → ends_by (past k base s p).mode (past k base s p) n ≡ ends_by k s (begins_by k + n)
past-ends at_header base s p n f = let same : s.unit + 1 + n ≡ s.unit + (1 + n) = omega arith in header-ends base s (s.place + length p) (piece_header base s p) n ∙ same
past-ends at_code base s p n f = code-ends s (s.place + length p) (code_value p) n ∙ one-more s.unit n
past-ends (at_values number tag []) base s p n f = absurd f
past-ends (at_values number tag (x ∷ xs)) base s p n f = value-ends (kind_in s.header.params x.form) s (s.place + length p) (code_value p) number tag x xs n ∙ one-more s.unit n
past-ends (at_chosen number tag start x xs) base s p n f = inside-ends s (s.place + length p) s.entry s.depth number tag xs n ∙ one-more s.unit n
past-ends stuck base s p n f = absurd f

-- the copy of a unit is before those of later units
first-above : (k : Mode) (base : UnitBase) (s : UnitState) (p : List Cell) (xs : List (Piece UnitState)) → is_first_code k s p ≡ true
    → Chain (unit_grammar base) (past k base s p) xs → s.unit + 1 ≤ bound (past k base s p)
unfolding after_code
first-above at_header base s p xs e c = absurd cc
first-above (at_values number tag ys) base s p xs e c = absurd cc
first-above (at_chosen number tag start y ys) base s p xs e c = absurd cc
first-above stuck base s p xs e c = absurd cc
first-above at_code base s p xs e c = by_zero (code_value p == 0) ((and_parts (s.entry == 0) (not (code_value p == 0)) e).1) c
  where
    by_entry : (o : Option Abbreviation) → Chain (unit_grammar base) (after_entry s (s.place + length p) o) xs → s.unit + 1 ≤ bound (after_entry s (s.place + length p) o)
    by_entry None d = absurd (stuck-none base (after_entry s (s.place + length p) None) xs refl d)
    by_entry (Some a) d = entry-above s (s.place + length p) a

    by_zero : (z : Bool) → not z ≡ true → Chain (unit_grammar base) (if z then between s (s.place + length p) s.entry (s.depth - 1) else after_entry s (s.place + length p) (abbreviation_of s.table (code_value p))) xs
        → s.unit + 1 ≤ bound (if z then between s (s.place + length p) s.entry (s.depth - 1) else after_entry s (s.place + length p) (abbreviation_of s.table (code_value p)))
    by_zero true f d = absurd cc
    by_zero false f d = by_entry (abbreviation_of s.table (code_value p)) d

if-below : (b : Bool) (n unit code : ℕ) (bytes : List ℕ) → (b ≡ true → unit < n) → AllBelow n (copies_if b unit code bytes)
if-below true n unit code bytes h = (h refl, tt)
if-below false n unit code bytes h = tt

copies-below : (abbrevs : List ℕ) (base : UnitBase) (x : Piece UnitState) (xs : List (Piece UnitState)) (fs : List Fate) → Chain (unit_grammar base) (past x.state.mode base x.state x.cells) xs
    → AllBelow (bound (past x.state.mode base x.state x.cells)) (copies_at abbrevs x fs)
copies-below abbrevs base x xs fs c =
    if-below (is_first_code x.state.mode x.state x.cells && any_grown fs) (bound (past x.state.mode base x.state x.cells)) x.state.unit (code_value x.cells)
    (table_copy abbrevs x.state.header.abbrevs (code_value x.cells) fs)
    (λ e. omega (arith, first-above x.state.mode base x.state x.cells xs (and_parts (is_first_code x.state.mode x.state x.cells) (any_grown fs) e).0 c))

-- one piece further
further : (l : Lift) (x : Piece UnitState) (xs : List (Piece UnitState)) (before after : List Copy) → Between l before (copies_in l.map l.base.abbrevs.bytes (x ∷ xs)) after
    → Between l (before ++ copies_at l.base.abbrevs.bytes x (fates l.map xs)) (copies_in l.map l.base.abbrevs.bytes xs) after
further l x xs before after b =
    record {
      among = b.among
          ∙ ap (λ (cs : List Copy). before ++ cs) (append_assoc (copies_at l.base.abbrevs.bytes x (fates l.map xs)) (copies_in l.map l.base.abbrevs.bytes xs) after)
          ∙ sym (append_assoc before (copies_at l.base.abbrevs.bytes x (fates l.map xs)) (copies_in l.map l.base.abbrevs.bytes xs ++ after));
    }

header-least : (k : Mode) (s : UnitState) (n top : ℕ) → k ≡ at_header → ends_by k s (begins_by k + n) ≤ top → s.unit + 1 ≤ top
header-least k s n top e h =
    let at : s.unit + (1 + n) ≤ top = subst (λ (m : Mode). ends_by m s (begins_by m + n) ≤ top) e h in
    omega (arith, at)

-- where a piece stands in front of others: its stage, the copies before it and behind it, and what is asked of its code
pub record Staged (l : Lift) (x : Piece UnitState) (xs : List (Piece UnitState)) : Type 0 where
  pub root : Option ℕ
  pub before : List Copy
  pub after : List Copy
  pub stage : Stage l root (x ∷ xs) x.state
  pub codes : CodeLifts x.state.mode root x.state x.cells
  pub among : Between l before (copies_in l.map l.base.abbrevs.bytes (x ∷ xs)) after
  pub below : AllBelow (bound x.state) before
  pub behind : x.state.mode ≡ at_header → AllFrom (x.state.unit + 1) after

abbrev pub AllStaged : Lift → List (Piece UnitState) → Type 0
AllStaged l [] = ⊤
AllStaged l (x ∷ xs) = Staged l x xs × AllStaged l xs

pub all-staged : (l : Lift) (o : Option ℕ) (s : UnitState) (xs : List (Piece UnitState)) (before after : List Copy) (top : ℕ) → Chain (unit_grammar l.base) s xs → CodesLift l.map o xs
    → Between l before (copies_in l.map l.base.abbrevs.bytes xs) after → AllBelow (bound s) before → AllFrom top after
    → ends_by s.mode s (units_in xs) ≤ top → Stage l o xs s → AllStaged l xs
all-staged l o s [] before after top c codes b below behind ends stage = tt
all-staged l o s (x ∷ xs) before after top c codes b below behind ends stage =
    let here : Stage l o (x ∷ xs) x.state = subst (Stage l o (x ∷ xs)) (sym c.0) stage in
    let low : AllBelow (bound x.state) before = subst (λ (u : UnitState). AllBelow (bound u) before) (sym c.0) below in
    let last : ends_by x.state.mode x.state (begins_by x.state.mode + units_in xs) ≤ top =
    subst (λ (u : UnitState). ends_by u.mode u (begins_by x.state.mode + units_in xs) ≤ top) (sym c.0) ends in
    let later : x.state.mode ≡ at_header → AllFrom (x.state.unit + 1) after =
    λ e. from-weaker (x.state.unit + 1) top after (header-least x.state.mode x.state (units_in xs) top e last) behind in
    let ends_next = past-ends x.state.mode l.base x.state x.cells (units_in xs) c.1 in
    let next_before : AllBelow (bound (past x.state.mode l.base x.state x.cells)) (before ++ copies_at l.base.abbrevs.bytes x (fates l.map xs)) =
    below-append (bound (past x.state.mode l.base x.state x.cells)) before (copies_at l.base.abbrevs.bytes x (fates l.map xs))
    (below-weaker (bound x.state) (bound (past x.state.mode l.base x.state x.cells)) before (past-bound l.base x.state x.cells c.1) low)
    (copies-below l.base.abbrevs.bytes l.base x xs (fates l.map xs) c.2) in (
      record { root = o; before = before; after = after; stage = here; codes = codes.0; among = b; below = low; behind = later },
      all-staged l (root_behind x.state.mode o x.state x.cells (fates l.map xs)) (past x.state.mode l.base x.state x.cells) xs (before ++ copies_at l.base.abbrevs.bytes x (fates l.map xs)) after top c.2 codes.1
          (further l x xs before after b) next_before behind (omega (arith, ends_next, last)) (next-stage l o x xs before after c.1 c.2 b low later here),
    )

-- the copies of a section are before those of later sections
section-below : (m : PathMap) (abbrevs : List ℕ) (base : UnitBase) (s : UnitState) (xs : List (Piece UnitState)) → Chain (unit_grammar base) s xs
    → AllBelow (ends_by s.mode s (units_in xs)) (copies_in m abbrevs xs)
section-below m abbrevs base s [] c = tt
section-below m abbrevs base s (x ∷ xs) c =
    let rest = section-below m abbrevs base (past x.state.mode base x.state x.cells) xs c.2 in
    let ends_next = past-ends x.state.mode base x.state x.cells (units_in xs) c.1 in
    subst (λ (u : UnitState). AllBelow (ends_by u.mode u (begins_by x.state.mode + units_in xs)) (copies_in m abbrevs (x ∷ xs))) c.0
    (below-append (ends_by x.state.mode x.state (begins_by x.state.mode + units_in xs)) (copies_at abbrevs x (fates m xs)) (copies_in m abbrevs xs)
    (if-below (is_first_code x.state.mode x.state x.cells && any_grown (fates m xs)) (ends_by x.state.mode x.state (begins_by x.state.mode + units_in xs)) x.state.unit (code_value x.cells)
    (table_copy abbrevs x.state.header.abbrevs (code_value x.cells) (fates m xs))
    (λ e. own-least x.state.mode x.state x.cells (begins_by x.state.mode + units_in xs) (and_parts (is_first_code x.state.mode x.state x.cells) (any_grown (fates m xs)) e).0))
    (subst (λ (n : ℕ). AllBelow n (copies_in m abbrevs xs)) ends_next rest))
  where
    own-least : (k : Mode) (s : UnitState) (p : List Cell) (n : ℕ) → is_first_code k s p ≡ true → s.unit < ends_by k s n
    own-least at_header s p n e = absurd cc
    own-least (at_values number tag ys) s p n e = absurd cc
    own-least (at_chosen number tag start y ys) s p n e = absurd cc
    own-least stuck s p n e = absurd cc
    own-least at_code s p n e = omega arith

-- and those of sections from a unit's number on are of units from there on
all-from : (m : PathMap) (abbrevs : List ℕ) (base : UnitBase) (first : ℕ) (zs : List UnitSection) (rs : Readings) → ReadsAll base first zs rs → AllFrom first (all_copies m abbrevs rs)
all-from m abbrevs base first [] [] reads = tt
all-from m abbrevs base first [] (r ∷ rs) reads = absurd reads
all-from m abbrevs base first (z ∷ zs) [] reads = absurd reads
all-from m abbrevs base first (z ∷ zs) (r ∷ rs) reads =
    from-append first (copies_in m abbrevs r.pieces) (all_copies m abbrevs rs)
    (copies-from m abbrevs base (before_unit z.number z.kind (length z.contents) 0 first) r.pieces reads.1.chain)
    (from-weaker first (first + units_in r.pieces) (all_copies m abbrevs rs) (omega arith) (all-from m abbrevs base (first + units_in r.pieces) zs rs reads.2))

-- so it is of all sections that can be lifted
abbrev pub EachStaged : Lift → Readings → Type 0
EachStaged l [] = ⊤
EachStaged l (r ∷ rs) = AllStaged l r.pieces × EachStaged l rs

pub each-staged : (l : Lift) (first : ℕ) (zs : List UnitSection) (rs : Readings) (before : List Copy) → ReadsAll l.base first zs rs → AllCodesLift l.map rs
    → l.copies ≡ before ++ all_copies l.map l.base.abbrevs.bytes rs → AllBelow first before → EachStaged l rs
each-staged l first [] [] before reads codes among below = tt
each-staged l first [] (r ∷ rs) before reads codes among below = absurd reads
each-staged l first (z ∷ zs) [] before reads codes among below = absurd reads
each-staged l first (z ∷ zs) (r ∷ rs) before reads codes among below =
    let next : l.copies ≡ (before ++ copies_in l.map l.base.abbrevs.bytes r.pieces) ++ all_copies l.map l.base.abbrevs.bytes rs =
    among ∙ sym (append_assoc before (copies_in l.map l.base.abbrevs.bytes r.pieces) (all_copies l.map l.base.abbrevs.bytes rs)) in (
      all-staged l None (before_unit z.number z.kind (length z.contents) 0 first) r.pieces before (all_copies l.map l.base.abbrevs.bytes rs) (first + units_in r.pieces) reads.1.chain codes.0
          (record { among = among }) below (all-from l.map l.base.abbrevs.bytes l.base (first + units_in r.pieces) zs rs reads.2) (omega arith) (at_unit refl),
      each-staged l (first + units_in r.pieces) zs rs (before ++ copies_in l.map l.base.abbrevs.bytes r.pieces) reads.2 codes.1 next
          (below-append (first + units_in r.pieces) before (copies_in l.map l.base.abbrevs.bytes r.pieces)
          (below-weaker first (first + units_in r.pieces) before (omega arith) below)
          (section-below l.map l.base.abbrevs.bytes l.base (before_unit z.number z.kind (length z.contents) 0 first) r.pieces reads.1.chain)),
    )
