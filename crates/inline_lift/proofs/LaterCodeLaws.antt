-- Where a file can be lifted, no entry behind the first one of a unit in which a path grows has the first one's code. So none of the rows of paths holds.
use Rattle.std.proofs.Common.{Bool, true, false, ◌≡◌, ◌≢◌, inl, inr, ℕ, ◌+◌, ◌<◌, ◌==◌, List, [], ◌∷◌, ◌++◌, length, Option, Some, None, refl, sym, ap, ◌∙◌, subst, arith, if◌then◌else◌, length-append}
use Rattle.std.specs.Prelude.{⊤}
use Rattle.std.proofs.lemmas.Bool.{eq-eqb, eqb-true, ne_eqb}
use Rattle.dw_base.specs.AbbreviationBytes.{abbreviations_at}
use Rattle.dw_base.specs.AbbreviationTables.{Abbreviation, abbreviation_of}
use Rattle.dw_base.specs.Cells.{Cell}
use Rattle.dw_base.specs.DebugData.{DebugData, DataReadings, ReadsAll}
use Rattle.dw_base.specs.EntryScans.{IsEntry, Scans, entry, is_split_root, null, scanned, starts}
use Rattle.dw_base.specs.EntryValues.{bytes_up_to}
use Rattle.dw_base.specs.Paths.{PathMap}
use Rattle.dw_base.specs.Pieces.{EachPiece, Piece}
use Rattle.dw_base.specs.Readings.{EachReading, Readings}
use Rattle.dw_base.specs.UnitHeaders.{UnitSection}
use Rattle.dw_base.specs.UnitStates.{Mode, at_header, at_code, at_values, at_chosen, stuck, UnitState, code_value}
use Rattle.dw_base.specs.declared.debug_sections.DebugSection.TheVariants.{Info}
use Rattle.dw_base.specs.declared.fault.Refusal.{Refusal}
use Rattle.dw_base.specs.declared.units.Scanned.{Scanned}
use Rattle.dw_base.specs.declared.units.UnitHeader.{UnitHeader}
use Rattle.dw_base.specs.declared.values.Spec.{Spec}
use Rattle.dw_base.specs.declared.values.Value.{Value}
use Rattle.dw_base.proofs.AbbreviationLaws.{table-found}
use Rattle.dw_meaning.proofs.DataRowLaws.{SectionRead, WholeUnit, unit-whole}
use Rattle.dw_meaning.specs.FileMeanings.{file_data}
use Rattle.inline_lift.specs.GrowingPaths.{any_grown, fates, grows}
use Rattle.inline_lift.specs.LiftFails.{CodeLifts, HasGrowing, LiftFails, UnitsLift, ValueLifts, code_again, form_before, hindered, no_texts, relocatable, short}
use Rattle.inline_lift.specs.Lifted.{Lift, lift_of, own_table}
use Rattle.inline_lift.specs.LiftedTables.{Copy}
use Rattle.inline_lift.proofs.AllLiftLaws.{Stage, at_unit, before_first, behind_first, found-code, none-own}
use Rattle.inline_lift.proofs.CopyPlaceLaws.{AllBelow}
use Rattle.inline_lift.proofs.LiftedBodyLaws.{file_lift}
use Rattle.inline_lift.proofs.LiftedFileLaws.{FileLifts}
use Rattle.inline_lift.proofs.LiftedUnitLaws.{units-staged}
use Rattle.inline_lift.proofs.LiftingLaws.{staged-quiet}
use Rattle.inline_lift.proofs.MetGrowingLaws.{MetGrowing, grown-met}
use Rattle.inline_lift.proofs.MetPieceLaws.{code-met, section-met, to-entry, unsplit}
use Rattle.inline_lift.proofs.RootLaws.{Known, Root, fresh, root_ahead}
use Rattle.inline_lift.proofs.StageLaws.{AllStaged, EachStaged}
use Rattle.inline_lift.proofs.UnhinderedLaws.{lifts-unhindered}

-- the code for which the copy of a unit's table was made
abbrev copy_code : List Copy → ℕ → Option ℕ
copy_code [] unit = None
copy_code (c ∷ cs) unit = if c.unit == unit then Some c.code else copy_code cs unit

code-behind : (unit : ℕ) (before behind : List Copy) (c : Copy) → AllBelow unit before → c.unit ≡ unit → copy_code (before ++ c ∷ behind) unit ≡ Some c.code
code-behind unit [] behind c below is = ap (λ (b : Bool). if b then Some c.code else copy_code behind unit) (eq-eqb c.unit unit is)
code-behind unit (x ∷ xs) behind c below is =
    ap (λ (b : Bool). if b then Some x.code else copy_code (xs ++ c ∷ behind) unit) (ne_eqb x.unit unit (λ e. let under = below.0 in omega (arith, under, e)))
    ∙ code-behind unit xs behind c below.1 is

known-code : (l : Lift) (unit table : ℕ) (list : List Abbreviation) (r : Root) → Known l unit list (Some r) → own_table l unit ≡ Some table
    → (copy_code l.copies unit ≡ Some r.code) × (any_grown r.fates ≡ true)
known-code l unit table list r (inl k) e = absurd (none-own l unit table k.1 e)
known-code l unit table list r (inr k) e = (
  ap (λ (cs : List Copy). copy_code cs unit) k.1.among ∙ code-behind unit k.1.before k.1.behind k.1.copy k.1.below k.1.unit_is ∙ ap (λ (n : ℕ). Some n) k.1.code_is,
  k.0,
)

of_some : (a b : ℕ) → Some a ≡ Some b → a ≡ b
of_some a b e = cc

-- in a unit with a table of its own, the code of the first entry is the copy's, and no later entry has it
abbrev CodeKept : Mode → Lift → UnitState → List Cell → Type 0
CodeKept at_code l s p = (table : ℕ) → own_table l s.unit ≡ Some table
    → (s.entry ≡ 0 → code_value p ≢ 0 → copy_code l.copies s.unit ≡ Some (code_value p)) × (s.entry ≢ 0 → copy_code l.copies s.unit ≢ Some (code_value p))
CodeKept m l s p = ⊤

first-code : (l : Lift) (t : UnitState) (p : List Cell) (xs : List (Piece UnitState)) → Known l t.unit t.table (root_ahead l.map (record { state = fresh t; cells = p } ∷ xs)) → CodeKept at_code l (fresh t) p
first-code l t p xs known = λ table e. ((λ first some. by_code table e some), (λ other. absurd (other refl)))
  where
    by_code : (table : ℕ) → own_table l t.unit ≡ Some table → code_value p ≢ 0 → copy_code l.copies t.unit ≡ Some (code_value p)
    by_code table e some =
        let code : (code_value p == 0) ≡ false = ne_eqb (code_value p) 0 some in
        let first : root_ahead l.map (record { state = fresh t; cells = p } ∷ xs) ≡ Some (record { code = code_value p; fates = fates l.map xs }) =
        ap (λ (b : Bool). if b then root_ahead l.map xs else Some (record { code = code_value p; fates = fates l.map xs })) code in
        (known-code l t.unit table t.table (record { code = code_value p; fates = fates l.map xs }) (subst (Known l t.unit t.table) first known) e).0

later-code : (k : Mode) (l : Lift) (o : Option ℕ) (s : UnitState) (p : List Cell) (r : Root) → CodeLifts k o s p → s.entry ≢ 0 → Known l s.unit s.table (Some r)
    → (any_grown r.fates ≡ true → o ≡ Some r.code) → CodeKept k l s p
later-code at_header l o s p r codes some known rooted = tt
later-code at_code l o s p r codes some known rooted = λ table e. ((λ first. absurd (some first)), (λ other same. by_known table e same))
  where
    by_known : (table : ℕ) → own_table l s.unit ≡ Some table → copy_code l.copies s.unit ≡ Some (code_value p) → ⊥
    by_known table e same =
        let k = known-code l s.unit table s.table r known e in
        let root : CodeLifts at_code (Some r.code) s p = subst (λ (q : Option ℕ). CodeLifts at_code q s p) (rooted k.1) codes in
        root some (of_some r.code (code_value p) (sym k.0 ∙ same))
later-code (at_values number tag xs) l o s p r codes some known rooted = tt
later-code (at_chosen number tag start x xs) l o s p r codes some known rooted = tt
later-code stuck l o s p r codes some known rooted = tt

staged-code : (l : Lift) (x : Piece UnitState) (xs : List (Piece UnitState)) (o : Option ℕ) → CodeLifts x.state.mode o x.state x.cells → Stage l o (x ∷ xs) x.state
    → CodeKept x.state.mode l x.state x.cells
staged-code l x xs o codes (at_unit is) = subst (λ (k : Mode). CodeKept k l x.state x.cells) (sym is) tt
staged-code l x xs o codes (before_first t is i known) =
    let here : Known l t.unit t.table (root_ahead l.map (record { state = fresh t; cells = x.cells } ∷ xs)) =
    subst (λ (u : UnitState). Known l u.unit u.table (root_ahead l.map (record { state = u; cells = x.cells } ∷ xs))) is known in
    subst (λ (u : UnitState). CodeKept u.mode l u x.cells) (sym is) (first-code l t x.cells xs here)
staged-code l x xs o codes (behind_first r some other i known rooted quiet) = later-code x.state.mode l o x.state x.cells r codes some known rooted

-- what is known of each piece: in a unit without a table of its own no path grows
record Kept (l : Lift) (x : Piece UnitState) : Type 0 where
  quiet : own_table l x.state.unit ≡ None → grows l.map x ≡ false
  code : CodeKept x.state.mode l x.state x.cells

all-kept : (l : Lift) (xs : List (Piece UnitState)) → EachPiece (ValueLifts l.map) xs → AllStaged l xs → EachPiece (Kept l) xs
all-kept l [] values staged = tt
all-kept l (x ∷ xs) values staged =
    (record { quiet = staged-quiet l x xs values.0 staged.0; code = staged-code l x xs staged.0.root staged.0.codes staged.0.stage }, all-kept l xs values.1 staged.1)

each-kept : (l : Lift) (rs : Readings) → EachReading (ValueLifts l.map) rs → EachStaged l rs → EachReading (Kept l) rs
each-kept l [] values staged = tt
each-kept l (r ∷ rs) values staged = (all-kept l r.pieces values.0 staged.0, each-kept l rs values.1 staged.1)

units-kept : (m : PathMap) (d : DebugData) (r : DataReadings) → ReadsAll d.base 0 (d.found Info) r.units → UnitsLift m r → EachReading (Kept (lift_of m d r)) r.units
units-kept m d r reads can = each-kept (lift_of m d r) r.units can.values (units-staged m d r reads can)

-- the last of entries that are scanned
abbrev last_of : Scanned → List Scanned → Scanned
last_of d [] = d
last_of d (x ∷ xs) = last_of x xs

last-is : (d x : Scanned) (xs : List Scanned) → last_of d (xs ++ x ∷ []) ≡ x
last-is d x [] = refl
last-is d x (y ∷ ys) = last-is y x ys

record LastEntry (h : UnitHeader) (table : List Abbreviation) (bytes : List ℕ) (items : List Scanned) (last : Scanned) : Type 0 where
  before : List Scanned
  start : ℕ
  depth : ℕ
  after : ℕ
  a : Abbreviation
  scans : Scans h table bytes before start depth
  is : IsEntry h.params table bytes start a after
  root : is_split_root (length before) a ≡ false
  count : length before ≡ length items
  code : last.code ≡ a.code

last-entry : (h : UnitHeader) (table : List Abbreviation) (bytes : List ℕ) (all : List Scanned) (place depth : ℕ) (items : List Scanned) (last : Scanned) → Scans h table bytes all place depth
    → all ≡ items ++ last ∷ [] → LastEntry h table bytes items last
last-entry h table bytes all place depth items last starts same = absurd (omega (arith, ap length same, length-append items (last ∷ [])))
last-entry h table bytes all p d items last (null before place depth size scans is) same = last-entry h table bytes before place depth items last scans same
last-entry h table bytes all p d items last (entry before place depth after a scans is root) same =
    let one : last ≡ scanned place depth a after =
    sym (last-is last last items) ∙ sym (ap (last_of last) same) ∙ last-is last (scanned place depth a after) before in
    record {
      before = before;
      start = place;
      depth = depth;
      after = after;
      a = a;
      scans = scans;
      is = is;
      root = root;
      count = omega (arith, ap length same, length-append before (scanned place depth a after ∷ []), length-append items (last ∷ []));
      code = ap (λ (s : Scanned). s.code) one;
    }

-- so a later entry has another code
pub later-apart : (m : PathMap) (b : List ℕ) (r : DataReadings) (z : UnitSection) (h : UnitHeader) (list : List Abbreviation) (a : Abbreviation) (x : Spec) (v : Value) (items : List Scanned)
    (last : Scanned) (place depth : ℕ) → FileLifts m b r → HasGrowing m (file_data b) z h list a x v → Scans h list (bytes_up_to z h) (items ++ last ∷ []) place depth → 0 < length items
    → last.code ≢ a.code
later-apart m b r z h list a x v items last place depth w g scans some same = by_own (own_table (file_lift m b r) unit) refl
  where
    s : SectionRead (file_data b).base z (Kept (file_lift m b r))
    s =
        section-met (file_data b) r z h list (Kept (file_lift m b r)) w.grows.reads.data_reads g.table
        (units-kept m (file_data b) r w.grows.reads.data_reads.units w.can)

    whole : WholeUnit (file_data b).base z g.table.unit.start h
    whole = unit-whole (file_data b) r z h w.grows.reads.data_reads g.table.unit

    unit : ℕ
    unit = s.first + length whole.list

    found : abbreviations_at (file_data b).base.abbrevs.bytes h.abbrevs ≡ list
    found = table-found (file_data b).base.abbrevs.bytes h.abbrevs list g.table.declares.is

    -- the path grows
    growing : own_table (file_lift m b r) unit ≡ None → ⊥
    growing none =
        let met : MetGrowing m (Kept (file_lift m b r)) h x v unit =
        grown-met m (file_data b) r z h list a x v (Kept (file_lift m b r)) s w.grows.reads.data_reads g whole in
        let no : true ≡ false = sym met.grown ∙ met.holds.quiet (ap (own_table (file_lift m b r)) met.unit_is ∙ none) in
        absurd cc

    -- the code of the first entry, and of the later one
    first : (table : ℕ) → own_table (file_lift m b r) unit ≡ Some table → copy_code (file_lift m b r).copies unit ≡ Some a.code
    first table e =
        let y = g.value in
        let met = code-met (file_data b).base z (Kept (file_lift m b r)) s h g.table.unit.start unit y.start (length y.items) y.depth y.code y.size a
        (to-entry (file_data b) z h list s.first y.items y.start y.depth g.table whole y.scans) y.spells y.some
        (ap (λ (xs : List Abbreviation). abbreviation_of xs y.code) found ∙ y.listed)
        (unsplit (file_data b) r z h list 0 a x g.place v w.grows.reads.data_reads g.table y) in
        let code : a.code ≡ y.code = eqb-true a.code y.code (found-code list y.code a y.listed) in
        (met.0.code table e).0 y.nth (λ zero_. y.some (sym met.1 ∙ zero_)) ∙ ap (λ (n : ℕ). Some n) (met.1 ∙ sym code)

    later : (table : ℕ) → own_table (file_lift m b r) unit ≡ Some table → copy_code (file_lift m b r).copies unit ≢ Some a.code
    later table e is =
        let y : LastEntry h list (bytes_up_to z h) items last = last-entry h list (bytes_up_to z h) (items ++ last ∷ []) place depth items last scans refl in
        let met = code-met (file_data b).base z (Kept (file_lift m b r)) s h g.table.unit.start unit y.start (length y.before) y.depth y.is.code y.is.size y.a
        (to-entry (file_data b) z h list s.first y.before y.start y.depth g.table whole y.scans) y.is.spells y.is.some
        (ap (λ (xs : List Abbreviation). abbreviation_of xs y.is.code) found ∙ y.is.listed) y.root in
        let code : y.a.code ≡ y.is.code = eqb-true y.a.code y.is.code (found-code list y.is.code y.a y.is.listed) in
        let behind : length y.before ≢ 0 = λ (none : length y.before ≡ 0). omega (arith, none, y.count, some) in
        (met.0.code table e).1 behind (is ∙ ap (λ (n : ℕ). Some n) (sym same ∙ y.code ∙ code ∙ sym met.1))

    by_own : (o : Option ℕ) → own_table (file_lift m b r) unit ≡ o → ⊥
    by_own None e = growing e
    by_own (Some table) e = later table e (first table e)

-- no row of paths holds of a file that can be lifted
pub paths-exclude : (m : PathMap) (b : List ℕ) (r : DataReadings) (q : Refusal) → FileLifts m b r → LiftFails m b q → ⊥
paths-exclude m b r q w (hindered z h list a x v g (relocatable e)) = (lifts-unhindered m b r z h list a x v w g).loaded e
paths-exclude m b r q w (hindered z h list a x v g (no_texts e)) = (lifts-unhindered m b r z h list a x v w g).texts e
paths-exclude m b r q w (hindered z h list a x v g (short less)) =
    let room = (lifts-unhindered m b r z h list a x v w g).room in
    omega (arith, room, less)
paths-exclude m b r q w (hindered z h list a x v g (form_before front)) = (lifts-unhindered m b r z h list a x v w g).own_form front
paths-exclude m b r q w (hindered z h list a x v g (code_again items last place depth scans some same)) = later-apart m b r z h list a x v items last place depth w g scans some same
