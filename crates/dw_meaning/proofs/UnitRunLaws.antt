-- From units and entries that are read in order to the pieces of a unit section, and what these say, for anything that a piece says.
use Rattle.std.proofs.Common.{true, false, ◌≡◌, ◌≢◌, ◌⊎◌, inl, inr, ℕ, ◌+◌, ◌-◌, ◌≤◌, List, [], ◌∷◌, ◌++◌, length, take, drop, Option, Some, None, refl, sym, ap, ◌∙◌, subst, arith, append_assoc, append-nil}
use Rattle.std.proofs.lemmas.Bool.{ne_eqb}
use Rattle.std.proofs.lemmas.List.{length-append, length-take}
use Rattle.dw_base.specs.AbbreviationTables.{Abbreviation, abbreviation_of}
use Rattle.dw_base.specs.Cells.{Cell, bytes_of}
use Rattle.dw_base.specs.EntryScans.{SpellsValues, no_values, more_values, is_split_root, IsEntry, depth_behind, scanned, Scans, starts, null, entry}
use Rattle.dw_base.specs.Forms.{ValueKind, form_in_front, in_abbreviation, kind_in}
use Rattle.dw_base.specs.Lebs.{uleb_at}
use Rattle.dw_base.specs.Pieces.{Piece}
use Rattle.dw_base.specs.UnitHeaders.{UnitBase}
use Rattle.dw_base.specs.UnitPieces.{IsValue, IsFrontForm, FitsKind, IsCode, may_stand, unit_grammar}
use Rattle.dw_base.specs.UnitStates.{Mode, at_code, at_values, at_chosen, UnitState, in_unit, between, inside, after_value, after_code, of_chosen, code_value}
use Rattle.dw_base.specs.Values.{value_of, value_at}
use Rattle.dw_base.specs.declared.shared.Params.{Params}
use Rattle.dw_base.specs.declared.units.Scanned.{Scanned}
use Rattle.dw_base.specs.declared.values.Spec.{Spec}
use Rattle.dw_base.specs.declared.values.Value.{Value}
use Rattle.dw_base.proofs.FormLaws.{value_by-own}
use Rattle.dw_meaning.proofs.EntryRowLaws.{past-number, spells-end}
use Rattle.dw_meaning.proofs.ScanPieceLaws.{Chosen, chosen-read, part-length, inside-same, is_front, after-own, unit_bytes, value-piece, NumberPiece, number-piece}
use Rattle.dw_meaning.proofs.TextEditLaws.{chosen-fits}
use Rattle.dw_meaning.proofs.ValueCutLaws.{value_of-own}
use Rattle.dw_meaning.specs.PieceRuns.{coded_out, end_behind, entries_out, entry_out, listed_out, value_out, values_end, values_out}
use Rattle.dw_meaning.proofs.RunLaws.{PieceRun, run-more, run-none, run-one}

-- what the pieces of a unit say: nulls and forms nothing, a code as its entry, and a value as it stands
pub record UnitSays {T : Type 0} (P : Piece UnitState → Type 0) (F : Piece UnitState → List T) (cells : List Cell) (s : UnitState) (E : ℕ → ℕ → ℕ → Abbreviation → List T) (V : ℕ → ℕ → Spec → ℕ → Value → List T) : Type 0 where
  pub holds : (m : Mode) (place e d k : ℕ) → P (record { state = in_unit s place e d m; cells = take k (drop place cells) })
  pub nulls : (place e d : ℕ) (p : List Cell) → code_value p ≡ 0 → F (record { state = in_unit s place e d at_code; cells = p }) ≡ []
  pub codes : (place e d : ℕ) (a : Abbreviation) (p : List Cell) → code_value p ≢ 0 → abbreviation_of s.table (code_value p) ≡ Some a
      → F (record { state = in_unit s place e d at_code; cells = p }) ≡ E e place d a
  pub forms : (place e d n tag : ℕ) (x : Spec) (xs : List Spec) (p : List Cell) → kind_in s.header.params x.form ≡ form_in_front
      → F (record { state = in_unit s place e d (at_values n tag (x ∷ xs)); cells = p }) ≡ []
  pub owns : (place e d n tag : ℕ) (x : Spec) (xs : List Spec) (v : Value) → kind_in s.header.params x.form ≢ form_in_front
      → value_of (kind_in s.header.params x.form) s.header.params.order (unit_bytes s cells) place x.implicit ≡ Some v
      → F (record { state = in_unit s place e d (at_values n tag (x ∷ xs)); cells = take v.size (drop place cells) }) ≡ V n tag x place v
  pub chosen : (place e d n tag : ℕ) (x : Spec) (xs : List Spec) (v : Value) → kind_in s.header.params x.form ≡ form_in_front
      → (c : Chosen s.header.params x (unit_bytes s cells) place v)
      → F (record { state = in_unit s (place + c.size) e d (at_chosen n tag place (of_chosen x c.form) xs); cells = take c.value.size (drop (place + c.size) cells) })
      ≡ V n tag x place v

-- a value by its own form
own-run : {T : Type 0} (P : Piece UnitState → Type 0) (F : Piece UnitState → List T) (E : ℕ → ℕ → ℕ → Abbreviation → List T) (V : ℕ → ℕ → Spec → ℕ → Value → List T) (base : UnitBase) (cells : List Cell) (s : UnitState)
    (place e d n tag : ℕ) (x : Spec) (xs : List Spec) (v : Value) → UnitSays P F cells s E V
    → kind_in s.header.params x.form ≢ form_in_front
    → value_of (kind_in s.header.params x.form) s.header.params.order (unit_bytes s cells) place x.implicit ≡ Some v
    → PieceRun (unit_grammar base) P F cells (in_unit s place e d (at_values n tag (x ∷ xs))) (inside s (place + v.size) e d n tag xs) place (place + v.size) (V n tag x place v)
own-run P F E V base cells s place e d n tag x xs v says other is =
    let f : IsValue (in_unit s place e d (at_values n tag (x ∷ xs))) x (kind_in s.header.params x.form) (take v.size (drop place cells)) =
    value-piece s x (kind_in s.header.params x.form) cells place e d (at_values n tag (x ∷ xs)) v is in
    let inside_ : place + v.size ≤ length (unit_bytes s cells) =
    (value_of-own (kind_in s.header.params x.form) s.header.params.order (unit_bytes s cells) place x.implicit v is).inside in
    let size : length (take v.size (drop place cells)) ≡ v.size = part-length v.size place s.header.end cells inside_ in
    run-one (unit_grammar base) P F cells (in_unit s place e d (at_values n tag (x ∷ xs))) (inside s (place + v.size) e d n tag xs) place v.size (V n tag x place v)
    (chosen-fits (kind_in s.header.params x.form) (in_unit s place e d (at_values n tag (x ∷ xs))) x (take v.size (drop place cells)) f)
    (after-own (kind_in s.header.params x.form) (in_unit s place e d (at_values n tag (x ∷ xs))) (place + length (take v.size (drop place cells)))
    (code_value (take v.size (drop place cells))) n tag x xs other
    ∙ inside-same s place e d (at_values n tag (x ∷ xs)) (place + length (take v.size (drop place cells))) e d n tag xs
    ∙ ap (λ (m : ℕ). inside s (place + m) e d n tag xs) size)
    (says.owns place e d n tag x xs v other is)
    (says.holds (at_values n tag (x ∷ xs)) place e d v.size)

-- a form in front of a value
front-run : {T : Type 0} (P : Piece UnitState → Type 0) (F : Piece UnitState → List T) (E : ℕ → ℕ → ℕ → Abbreviation → List T) (V : ℕ → ℕ → Spec → ℕ → Value → List T) (base : UnitBase) (cells : List Cell) (s : UnitState)
    (place e d n tag form size : ℕ) (x : Spec) (xs : List Spec) → UnitSays P F cells s E V
    → kind_in s.header.params x.form ≡ form_in_front → uleb_at (unit_bytes s cells) place ≡ Some (form, size)
    → kind_in s.header.params form ≢ form_in_front → kind_in s.header.params form ≢ in_abbreviation
    → PieceRun (unit_grammar base) P F cells (in_unit s place e d (at_values n tag (x ∷ xs))) (in_unit s (place + size) e d (at_chosen n tag place (of_chosen x form) xs)) place (place + size) []
front-run P F E V base cells s place e d n tag form size x xs says front is other own =
    let c : NumberPiece s cells place form size = number-piece s cells place form size is in
    let fits : IsFrontForm (in_unit s place e d (at_values n tag (x ∷ xs))) (take size (drop place cells)) =
    record {
      spells = c.spells ∙ ap (λ (v : ℕ). Some (v, length (take size (drop place cells)))) (sym c.value);
      before = subst (λ (m : ℕ). place + m ≤ s.header.end) (sym c.size) c.before;
      other = λ f. other (ap (kind_in s.header.params) (sym c.value) ∙ f);
      own = λ f. own (ap (kind_in s.header.params) (sym c.value) ∙ f);
    } in
    run-one (unit_grammar base) P F cells (in_unit s place e d (at_values n tag (x ∷ xs))) (in_unit s (place + size) e d (at_chosen n tag place (of_chosen x form) xs)) place size []
    (subst (λ (k : ValueKind). FitsKind k (in_unit s place e d (at_values n tag (x ∷ xs))) x (take size (drop place cells))) (sym front) fits)
    (ap (λ (k : ValueKind). after_value k (in_unit s place e d (at_values n tag (x ∷ xs))) (place + length (take size (drop place cells)))
    (code_value (take size (drop place cells))) n tag x xs) front
    ∙ ap (λ (m : ℕ). in_unit s (place + m) e d (at_chosen n tag place (of_chosen x (code_value (take size (drop place cells)))) xs)) c.size
    ∙ ap (λ (f : ℕ). in_unit s (place + size) e d (at_chosen n tag place (of_chosen x f) xs)) c.value)
    (says.forms place e d n tag x xs (take size (drop place cells)) front)
    (says.holds (at_values n tag (x ∷ xs)) place e d size)

-- and the value behind it
behind-run : {T : Type 0} (P : Piece UnitState → Type 0) (F : Piece UnitState → List T) (E : ℕ → ℕ → ℕ → Abbreviation → List T) (V : ℕ → ℕ → Spec → ℕ → Value → List T) (base : UnitBase) (cells : List Cell) (s : UnitState)
    (place e d n tag : ℕ) (x : Spec) (xs : List Spec) (v : Value) → UnitSays P F cells s E V → kind_in s.header.params x.form ≡ form_in_front
    → (c : Chosen s.header.params x (unit_bytes s cells) place v)
    → PieceRun (unit_grammar base) P F cells (in_unit s (place + c.size) e d (at_chosen n tag place (of_chosen x c.form) xs)) (inside s (place + c.size + c.value.size) e d n tag xs)
    (place + c.size) (place + c.size + c.value.size) (V n tag x place v)
behind-run P F E V base cells s place e d n tag x xs v says front c =
    let inside_ : place + c.size + c.value.size ≤ length (unit_bytes s cells) =
    (value_of-own (kind_in s.header.params c.form) s.header.params.order (unit_bytes s cells) (place + c.size) x.implicit c.value c.is).inside in
    let size : length (take c.value.size (drop (place + c.size) cells)) ≡ c.value.size = part-length c.value.size (place + c.size) s.header.end cells inside_ in
    run-one (unit_grammar base) P F cells (in_unit s (place + c.size) e d (at_chosen n tag place (of_chosen x c.form) xs)) (inside s (place + c.size + c.value.size) e d n tag xs)
    (place + c.size) c.value.size (V n tag x place v)
    (value-piece s (of_chosen x c.form) (kind_in s.header.params c.form) cells (place + c.size) e d (at_chosen n tag place (of_chosen x c.form) xs) c.value c.is)
    (inside-same s (place + c.size) e d (at_chosen n tag place (of_chosen x c.form) xs) (place + c.size + length (take c.value.size (drop (place + c.size) cells))) e d n tag xs
    ∙ ap (λ (m : ℕ). inside s (place + c.size + m) e d n tag xs) size)
    (says.chosen place e d n tag x xs v front c)
    (says.holds (at_chosen n tag place (of_chosen x c.form) xs) (place + c.size) e d c.value.size)

-- a value is one piece or two
value-run : {T : Type 0} (P : Piece UnitState → Type 0) (F : Piece UnitState → List T) (E : ℕ → ℕ → ℕ → Abbreviation → List T) (V : ℕ → ℕ → Spec → ℕ → Value → List T) (base : UnitBase) (cells : List Cell) (s : UnitState)
    (place e d n tag : ℕ) (x : Spec) (xs : List Spec) (v : Value) → UnitSays P F cells s E V → value_at s.header.params x (unit_bytes s cells) place ≡ Some v
    → PieceRun (unit_grammar base) P F cells (in_unit s place e d (at_values n tag (x ∷ xs))) (inside s (place + v.size) e d n tag xs) place (place + v.size) (V n tag x place v)
unfolding value_at
value-run P F E V base cells s place e d n tag x xs v says is = by_front (is_front (kind_in s.header.params x.form))
  where
    by_front : (kind_in s.header.params x.form ≡ form_in_front) ⊎ (kind_in s.header.params x.form ≡ form_in_front → ⊥)
        → PieceRun (unit_grammar base) P F cells (in_unit s place e d (at_values n tag (x ∷ xs))) (inside s (place + v.size) e d n tag xs) place (place + v.size) (V n tag x place v)
    by_front (inl front) =
        let c : Chosen s.header.params x (unit_bytes s cells) place v = chosen-read s.header.params x (unit_bytes s cells) place v front is in
        let whole : place + c.size + c.value.size ≡ place + v.size = omega (arith, c.whole) in
        subst (λ (m : ℕ). PieceRun (unit_grammar base) P F cells (in_unit s place e d (at_values n tag (x ∷ xs))) (inside s m e d n tag xs) place m (V n tag x place v)) whole
        (run-more (unit_grammar base) P F cells (in_unit s place e d (at_values n tag (x ∷ xs))) (in_unit s (place + c.size) e d (at_chosen n tag place (of_chosen x c.form) xs))
        (inside s (place + c.size + c.value.size) e d n tag xs) place (place + c.size) (place + c.size + c.value.size) [] (V n tag x place v)
        (front-run P F E V base cells s place e d n tag c.form c.size x xs says front c.spells c.other c.own)
        (behind-run P F E V base cells s place e d n tag x xs v says front c))
    by_front (inr other) = own-run P F E V base cells s place e d n tag x xs v says other (sym (value_by-own (kind_in s.header.params x.form) s.header.params x (unit_bytes s cells) place other) ∙ is)

-- what values say, and one more
values_out-append : {T : Type 0} (V : ℕ → ℕ → Spec → ℕ → Value → List T) (params : Params) (bytes : List ℕ) (n tag : ℕ) (xs ys : List Spec) (start place : ℕ) → values_end params bytes xs start ≡ Some place
    → values_out V params bytes n tag (xs ++ ys) start ≡ values_out V params bytes n tag xs start ++ values_out V params bytes n tag ys place
values_out-append V params bytes n tag [] ys start place e = ap (values_out V params bytes n tag ys) (some-same start place e)
  where
    some-same : (a b : ℕ) → Some a ≡ Some b → a ≡ b
    some-same a b e = cc
values_out-append {T} V params bytes n tag (x ∷ xs) ys start place e = by_value (value_at params x bytes start) (λ p f. values_out-append V params bytes n tag xs ys p place f) e
  where
    by_value : (o : Option Value)
        → ((p : ℕ) → values_end params bytes xs p ≡ Some place → values_out V params bytes n tag (xs ++ ys) p ≡ values_out V params bytes n tag xs p ++ values_out V params bytes n tag ys place)
        → end_behind (λ p. values_end params bytes xs p) start o ≡ Some place
        → value_out V (λ p. values_out V params bytes n tag (xs ++ ys) p) n tag x start o
        ≡ value_out V (λ p. values_out V params bytes n tag xs p) n tag x start o ++ values_out V params bytes n tag ys place
    by_value None step e = absurd cc
    by_value (Some v) step e =
        ap (λ (t : List T). V n tag x start v ++ t) (step (start + v.size) e)
        ∙ sym (append_assoc (V n tag x start v) (values_out V params bytes n tag xs (start + v.size)) (values_out V params bytes n tag ys place))

values_out-more : {T : Type 0} (V : ℕ → ℕ → Spec → ℕ → Value → List T) (params : Params) (bytes : List ℕ) (n tag start place : ℕ) (xs : List Spec) (y : Spec) (v : Value)
    → SpellsValues params bytes start xs place → value_at params y bytes place ≡ Some v
    → values_out V params bytes n tag (xs ++ y ∷ []) start ≡ values_out V params bytes n tag xs start ++ V n tag y place v
values_out-more {T} V params bytes n tag start place xs y v s e =
    values_out-append V params bytes n tag xs (y ∷ []) start place (spells-end params bytes start xs place s)
    ∙ ap (λ (t : List T). values_out V params bytes n tag xs start ++ t) (ap (value_out V (λ p. []) n tag y place) e ∙ append-nil (V n tag y place v))

-- values, one after another
pub values-run : {T : Type 0} (P : Piece UnitState → Type 0) (F : Piece UnitState → List T) (E : ℕ → ℕ → ℕ → Abbreviation → List T) (V : ℕ → ℕ → Spec → ℕ → Value → List T) (base : UnitBase) (cells : List Cell) (s : UnitState)
    (start e d n tag : ℕ) (xs rest : List Spec) (place : ℕ) → UnitSays P F cells s E V → SpellsValues s.header.params (unit_bytes s cells) start xs place
    → PieceRun (unit_grammar base) P F cells (inside s start e d n tag (xs ++ rest)) (inside s place e d n tag rest) start place (values_out V s.header.params (unit_bytes s cells) n tag xs start)
values-run P F E V base cells s start e d n tag xs rest place says no_values = run-none (unit_grammar base) P F cells (inside s start e d n tag rest) (inside s start e d n tag rest) start refl
values-run {T} P F E V base cells s start e d n tag xs rest z says (more_values ys y place v spells is) =
    let front = values-run P F E V base cells s start e d n tag ys (y ∷ rest) place says spells in
    let all = run-more (unit_grammar base) P F cells (inside s start e d n tag (ys ++ y ∷ rest)) (inside s place e d n tag (y ∷ rest)) (inside s (place + v.size) e d n tag rest)
    start place (place + v.size) (values_out V s.header.params (unit_bytes s cells) n tag ys start) (V n tag y place v)
    front (value-run P F E V base cells s place e d n tag y rest v says is) in
    let said = subst (λ (ts : List T). PieceRun (unit_grammar base) P F cells (inside s start e d n tag (ys ++ y ∷ rest)) (inside s (place + v.size) e d n tag rest) start (place + v.size) ts)
    (sym (values_out-more V s.header.params (unit_bytes s cells) n tag start place ys y v spells is)) all in
    subst (λ (zs : List Spec). PieceRun (unit_grammar base) P F cells (inside s start e d n tag zs) (inside s (place + v.size) e d n tag rest) start (place + v.size)
    (values_out V s.header.params (unit_bytes s cells) n tag (ys ++ y ∷ []) start))
    (sym (append_assoc ys (y ∷ []) rest)) said

-- between entries, in the unit
between-code : (s : UnitState) (place e d : ℕ) → place ≢ s.header.end → between s place e d ≡ in_unit s place e d at_code
unfolding between
between-code s place e d other = rw (ne_eqb place s.header.end other) refl

between-same : (s : UnitState) (p e d : ℕ) (m : Mode) (q f g : ℕ) → between (in_unit s p e d m) q f g ≡ between s q f g
unfolding between
between-same s p e d m q f g = refl

-- a number in a unit isn't at its end
not_end : (s : UnitState) (cells : List Cell) (place code size : ℕ) → uleb_at (unit_bytes s cells) place ≡ Some (code, size) → place ≢ s.header.end
not_end s cells place code size e end =
    let none : uleb_at (unit_bytes s cells) place ≡ None =
    past-number (unit_bytes s cells) place (omega (arith, end, length-take s.header.end (bytes_of cells))) in
    cc

-- a null
null-run : {T : Type 0} (P : Piece UnitState → Type 0) (F : Piece UnitState → List T) (E : ℕ → ℕ → ℕ → Abbreviation → List T) (V : ℕ → ℕ → Spec → ℕ → Value → List T) (base : UnitBase) (cells : List Cell) (s : UnitState)
    (place e d size : ℕ) → UnitSays P F cells s E V → uleb_at (unit_bytes s cells) place ≡ Some (0, size)
    → PieceRun (unit_grammar base) P F cells (between s place e d) (between s (place + size) e (d - 1)) place (place + size) []
unfolding after_code
null-run P F E V base cells s place e d size says is =
    let c : NumberPiece s cells place 0 size = number-piece s cells place 0 size is in
    let fits : IsCode (in_unit s place e d at_code) (take size (drop place cells)) =
    record {
      spells = c.spells ∙ ap (λ (v : ℕ). Some (v, length (take size (drop place cells)))) (sym c.value);
      before = subst (λ (m : ℕ). place + m ≤ s.header.end) (sym c.size) c.before;
      listed = λ some. absurd (some c.value);
    } in
    let next : after_code (in_unit s place e d at_code) (place + length (take size (drop place cells))) (code_value (take size (drop place cells)))
    ≡ between s (place + size) e (d - 1) =
    ap (after_code (in_unit s place e d at_code) (place + length (take size (drop place cells)))) c.value
    ∙ between-same s place e d at_code (place + length (take size (drop place cells))) e (d - 1)
    ∙ ap (λ (m : ℕ). between s (place + m) e (d - 1)) c.size in
    subst (λ (t : UnitState). PieceRun (unit_grammar base) P F cells t (between s (place + size) e (d - 1)) place (place + size) []) (sym (between-code s place e d (not_end s cells place 0 size is)))
    (run-one (unit_grammar base) P F cells (in_unit s place e d at_code) (between s (place + size) e (d - 1)) place size [] fits next (says.nulls place e d (take size (drop place cells)) c.value) (says.holds at_code place e d size))

-- the code of an entry
pub code-run : {T : Type 0} (P : Piece UnitState → Type 0) (F : Piece UnitState → List T) (E : ℕ → ℕ → ℕ → Abbreviation → List T) (V : ℕ → ℕ → Spec → ℕ → Value → List T) (base : UnitBase) (cells : List Cell) (s : UnitState)
    (place e d code size : ℕ) (a : Abbreviation) → UnitSays P F cells s E V
    → uleb_at (unit_bytes s cells) place ≡ Some (code, size) → code ≢ 0 → abbreviation_of s.table code ≡ Some a → is_split_root e a ≡ false
    → PieceRun (unit_grammar base) P F cells (between s place e d) (inside s (place + size) (e + 1) (depth_behind a d) e a.tag a.specs) place (place + size) (E e place d a)
unfolding after_code
code-run P F E V base cells s place e d code size a says is some listed root =
    let c : NumberPiece s cells place code size = number-piece s cells place code size is in
    let stands : may_stand e (abbreviation_of s.table code) ≡ true = rw (listed, root) refl in
    let fits : IsCode (in_unit s place e d at_code) (take size (drop place cells)) =
    record {
      spells = c.spells ∙ ap (λ (v : ℕ). Some (v, length (take size (drop place cells)))) (sym c.value);
      before = subst (λ (m : ℕ). place + m ≤ s.header.end) (sym c.size) c.before;
      listed = λ other. ap (λ (v : ℕ). may_stand e (abbreviation_of s.table v)) c.value ∙ stands;
    } in
    let entry_next : after_code (in_unit s place e d at_code) (place + length (take size (drop place cells))) code
    ≡ inside (in_unit s place e d at_code) (place + length (take size (drop place cells))) (e + 1) (depth_behind a d) e a.tag a.specs =
    rw (ne_eqb code 0 some, listed) refl in
    let next : after_code (in_unit s place e d at_code) (place + length (take size (drop place cells))) (code_value (take size (drop place cells)))
    ≡ inside s (place + size) (e + 1) (depth_behind a d) e a.tag a.specs =
    ap (after_code (in_unit s place e d at_code) (place + length (take size (drop place cells)))) c.value
    ∙ entry_next
    ∙ inside-same s place e d at_code (place + length (take size (drop place cells))) (e + 1) (depth_behind a d) e a.tag a.specs
    ∙ ap (λ (m : ℕ). inside s (place + m) (e + 1) (depth_behind a d) e a.tag a.specs) c.size in
    subst (λ (u : UnitState). PieceRun (unit_grammar base) P F cells u (inside s (place + size) (e + 1) (depth_behind a d) e a.tag a.specs) place (place + size) (E e place d a))
    (sym (between-code s place e d (not_end s cells place code size is)))
    (run-one (unit_grammar base) P F cells (in_unit s place e d at_code) (inside s (place + size) (e + 1) (depth_behind a d) e a.tag a.specs) place size (E e place d a) fits next
    (says.codes place e d a (take size (drop place cells)) (λ zero_. some (sym c.value ∙ zero_)) (ap (abbreviation_of s.table) c.value ∙ listed)) (says.holds at_code place e d size))

pub entry_out-is : {T : Type 0} (E : ℕ → ℕ → ℕ → Abbreviation → List T) (V : ℕ → ℕ → Spec → ℕ → Value → List T) (params : Params) (table : List Abbreviation) (bytes : List ℕ) (n place depth after : ℕ)
    (a : Abbreviation) → (is : IsEntry params table bytes place a after)
    → entry_out E V params table bytes n (scanned place depth a after) ≡ E n place depth a ++ values_out V params bytes n a.tag a.specs (place + is.size)
entry_out-is E V params table bytes n place depth after a is =
    ap (coded_out E V params table bytes n (scanned place depth a after)) is.spells
    ∙ ap (listed_out E V params bytes n (scanned place depth a after) (place + is.size)) is.listed

-- an entry
entry-run : {T : Type 0} (P : Piece UnitState → Type 0) (F : Piece UnitState → List T) (E : ℕ → ℕ → ℕ → Abbreviation → List T) (V : ℕ → ℕ → Spec → ℕ → Value → List T) (base : UnitBase) (cells : List Cell) (s : UnitState)
    (place e d after : ℕ) (a : Abbreviation) → UnitSays P F cells s E V → IsEntry s.header.params s.table (unit_bytes s cells) place a after → is_split_root e a ≡ false
    → PieceRun (unit_grammar base) P F cells (between s place e d) (between s after (e + 1) (depth_behind a d)) place after (entry_out E V s.header.params s.table (unit_bytes s cells) e (scanned place d a after))
entry-run {T} P F E V base cells s place e d after a says is root =
    let back : PieceRun (unit_grammar base) P F cells (inside s (place + is.size) (e + 1) (depth_behind a d) e a.tag a.specs) (between s after (e + 1) (depth_behind a d)) (place + is.size) after
    (values_out V s.header.params (unit_bytes s cells) e a.tag a.specs (place + is.size)) =
    subst (λ (zs : List Spec). PieceRun (unit_grammar base) P F cells (inside s (place + is.size) (e + 1) (depth_behind a d) e a.tag zs) (between s after (e + 1) (depth_behind a d)) (place + is.size) after
    (values_out V s.header.params (unit_bytes s cells) e a.tag a.specs (place + is.size)))
    (append-nil a.specs) (values-run P F E V base cells s (place + is.size) (e + 1) (depth_behind a d) e a.tag a.specs [] after says is.values) in
    subst (λ (us : List T). PieceRun (unit_grammar base) P F cells (between s place e d) (between s after (e + 1) (depth_behind a d)) place after us)
    (sym (entry_out-is E V s.header.params s.table (unit_bytes s cells) e place d after a is))
    (run-more (unit_grammar base) P F cells (between s place e d) (inside s (place + is.size) (e + 1) (depth_behind a d) e a.tag a.specs) (between s after (e + 1) (depth_behind a d))
    place (place + is.size) after (E e place d a) (values_out V s.header.params (unit_bytes s cells) e a.tag a.specs (place + is.size))
    (code-run P F E V base cells s place e d is.code is.size a says is.spells is.some is.listed root) back)

pub entries_out-more : {T : Type 0} (E : ℕ → ℕ → ℕ → Abbreviation → List T) (V : ℕ → ℕ → Spec → ℕ → Value → List T) (params : Params) (table : List Abbreviation) (bytes : List ℕ) (n : ℕ)
    (items : List Scanned) (x : Scanned) → entries_out E V params table bytes n (items ++ x ∷ []) ≡ entries_out E V params table bytes n items ++ entry_out E V params table bytes (n + length items) x
entries_out-more E V params table bytes n [] x =
    let same : n ≡ n + 0 = omega arith in
    append-nil (entry_out E V params table bytes n x) ∙ ap (λ (k : ℕ). entry_out E V params table bytes k x) same
entries_out-more {T} E V params table bytes n (y ∷ ys) x =
    let same : n + 1 + length ys ≡ n + length (y ∷ ys) = omega arith in
    ap (λ (ts : List T). entry_out E V params table bytes n y ++ ts)
    (entries_out-more E V params table bytes (n + 1) ys x
    ∙ ap (λ (k : ℕ). entries_out E V params table bytes (n + 1) ys ++ entry_out E V params table bytes k x) same)
    ∙ sym (append_assoc (entry_out E V params table bytes n y) (entries_out E V params table bytes (n + 1) ys) (entry_out E V params table bytes (n + length (y ∷ ys)) x))

-- entries, one after another
pub scan-run : {T : Type 0} (P : Piece UnitState → Type 0) (F : Piece UnitState → List T) (E : ℕ → ℕ → ℕ → Abbreviation → List T) (V : ℕ → ℕ → Spec → ℕ → Value → List T) (base : UnitBase) (cells : List Cell) (s : UnitState)
    (items : List Scanned) (place depth : ℕ) → UnitSays P F cells s E V → Scans s.header s.table (unit_bytes s cells) items place depth
    → PieceRun (unit_grammar base) P F cells (between s s.header.first 0 0) (between s place (length items) depth) s.header.first place
    (entries_out E V s.header.params s.table (unit_bytes s cells) 0 items)
scan-run P F E V base cells s items place depth says starts = run-none (unit_grammar base) P F cells (between s s.header.first 0 0) (between s s.header.first 0 0) s.header.first refl
scan-run {T} P F E V base cells s all z y says (null items place depth size scans is) =
    subst (λ (us : List T). PieceRun (unit_grammar base) P F cells (between s s.header.first 0 0) (between s (place + size) (length all) (depth - 1)) s.header.first (place + size) us)
    (append-nil (entries_out E V s.header.params s.table (unit_bytes s cells) 0 all))
    (run-more (unit_grammar base) P F cells (between s s.header.first 0 0) (between s place (length items) depth) (between s (place + size) (length items) (depth - 1))
    s.header.first place (place + size) (entries_out E V s.header.params s.table (unit_bytes s cells) 0 items) [] (scan-run P F E V base cells s items place depth says scans)
    (null-run P F E V base cells s place (length items) depth size says is))
scan-run {T} P F E V base cells s all z y says (entry items place depth after a scans is root) =
    let x : Scanned = scanned place depth a after in
    let count : length (items ++ scanned place depth a after ∷ []) ≡ length items + 1 = length-append items (scanned place depth a after ∷ []) in
    let number : 0 + length items ≡ length items = omega arith in
    let run = run-more (unit_grammar base) P F cells (between s s.header.first 0 0) (between s place (length items) depth) (between s after (length items + 1) (depth_behind a depth))
    s.header.first place after (entries_out E V s.header.params s.table (unit_bytes s cells) 0 items)
    (entry_out E V s.header.params s.table (unit_bytes s cells) (length items) (scanned place depth a after))
    (scan-run P F E V base cells s items place depth says scans) (entry-run P F E V base cells s place (length items) depth after a says is root) in
    subst (λ (us : List T). PieceRun (unit_grammar base) P F cells (between s s.header.first 0 0) (between s after (length (items ++ scanned place depth a after ∷ [])) (depth_behind a depth)) s.header.first after us)
    (sym (entries_out-more E V s.header.params s.table (unit_bytes s cells) 0 items (scanned place depth a after)
    ∙ ap (λ (n : ℕ). entries_out E V s.header.params s.table (unit_bytes s cells) 0 items ++ entry_out E V s.header.params s.table (unit_bytes s cells) n (scanned place depth a after)) number))
    (subst (λ (n : ℕ). PieceRun (unit_grammar base) P F cells (between s s.header.first 0 0) (between s after n (depth_behind a depth)) s.header.first after
    (entries_out E V s.header.params s.table (unit_bytes s cells) 0 items ++ entry_out E V s.header.params s.table (unit_bytes s cells) (length items) (scanned place depth a after)))
    (sym count) run)
