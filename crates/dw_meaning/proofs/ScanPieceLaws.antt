-- From entries that a pass over a unit meets to the pieces of the unit: the values of an entry.
use Rattle.std.proofs.Common.{zero, suc, ◌≡◌, ◌≢◌, ◌⊎◌, inl, inr, ℕ, ◌+◌, ◌-◌, ◌≤◌, List, [], ◌∷◌, ◌++◌, length, take, drop, Option, Some, None, refl, sym, ap, ◌∙◌, subst, arith, append_assoc}
use Rattle.std.proofs.lemmas.List.{length-drop, length-take, length-take-le, take-append-drop, take-take, drop-take, drop-drop}
use Rattle.dw_base.specs.Cells.{Cell, bytes_of}
use Rattle.dw_base.specs.Forms.{ValueKind, number_of, leb_number, signed_leb, block_of, counted, counted_leb, inline_text, text_offset, present, in_abbreviation, form_in_front, supplementary, unlisted, kind_in}
use Rattle.dw_base.specs.Lebs.{uleb_at}
use Rattle.dw_base.specs.Pieces.{Piece, joined, Leads}
use Rattle.dw_base.specs.UnitHeaders.{UnitBase}
use Rattle.dw_base.specs.UnitPieces.{IsValue, IsFrontForm, FitsKind, FitsMode, unit_grammar}
use Rattle.dw_base.specs.UnitStates.{Mode, at_values, at_chosen, UnitState, in_unit, between, inside, after_value, of_chosen, code_value, read_value, past}
use Rattle.dw_base.specs.Values.{value_of, value_at, value_by, chosen_value, indirect_value, behind}
use Rattle.dw_base.specs.declared.shared.Params.{Params}
use Rattle.dw_base.specs.declared.values.Spec.{Spec}
use Rattle.dw_base.specs.declared.values.Value.{Value}
use Rattle.dw_base.proofs.FormLaws.{value_by-own, chosen_value-own}
use Rattle.dw_base.proofs.LebLaws.{uleb-inside}
use Rattle.dw_base.proofs.NumberBytes.{number-cut}
use Rattle.dw_meaning.proofs.PieceLaws.{leads-more, joined-append}
use Rattle.dw_meaning.proofs.TextEditLaws.{chosen-fits}
use Rattle.dw_base.proofs.UnitEditLaws.{length-bytes_of}
use Rattle.dw_meaning.proofs.ValueCutLaws.{IsCut, value_of-own}

-- pieces that lead from one state to another, whose cells stand from one place of some cells to another
pub record Run (base : UnitBase) (cells : List Cell) (s t : UnitState) (a b : ℕ) : Type 0 where
  pub pieces : List (Piece UnitState)
  pub leads : Leads (unit_grammar base) s pieces t
  pub covers : joined pieces ++ drop b cells ≡ drop a cells

-- one after another
unfoldable pub run-more : (base : UnitBase) (cells : List Cell) (s t u : UnitState) (a b c : ℕ) → Run base cells s t a b → Run base cells t u b c → Run base cells s u a c
run-more base cells s t u a b c m n = record {
  pieces = m.pieces ++ n.pieces;
  leads = leads-more (unit_grammar base) s t u m.pieces n.pieces m.leads n.leads;
  covers =
      ap (λ (x : List Cell). x ++ drop c cells) (joined-append m.pieces n.pieces) ∙ append_assoc (joined m.pieces) (joined n.pieces) (drop c cells)
      ∙ ap (λ (x : List Cell). joined m.pieces ++ x) n.covers ∙ m.covers;
}

pub run-none : (base : UnitBase) (cells : List Cell) (s t : UnitState) (a : ℕ) → s ≡ t → Run base cells s t a a
run-none base cells s t a e = record { pieces = []; leads = e; covers = refl }

-- a piece of so many cells
unfoldable pub run-one : (base : UnitBase) (cells : List Cell) (s t : UnitState) (a n : ℕ) → FitsMode s.mode base s (take n (drop a cells))
    → past s.mode base s (take n (drop a cells)) ≡ t → Run base cells s t a (a + n)
run-one base cells s t a n fits next = record {
  pieces = record { state = s; cells = take n (drop a cells) } ∷ [];
  leads = (refl, fits, next);
  covers =
      append_assoc (take n (drop a cells)) [] (drop (a + n) cells)
      ∙ ap (λ (x : List Cell). take n (drop a cells) ++ x) (sym (drop-drop n a cells)) ∙ take-append-drop n (drop a cells);
}

-- bytes of parts
pub bytes_of-take : (n : ℕ) (p : List Cell) → bytes_of (take n p) ≡ take n (bytes_of p)
bytes_of-take zero p = refl
bytes_of-take (suc n) [] = refl
bytes_of-take (suc n) (c ∷ cs) = ap (λ (bs : List ℕ). c.byte ∷ bs) (bytes_of-take n cs)

pub bytes_of-drop : (n : ℕ) (p : List Cell) → bytes_of (drop n p) ≡ drop n (bytes_of p)
bytes_of-drop zero p = refl
bytes_of-drop (suc n) [] = refl
bytes_of-drop (suc n) (c ∷ cs) = bytes_of-drop n cs

-- bytes of a part that lies before an end are the same without the end
part-before : (n a end : ℕ) (bs : List ℕ) → a + n ≤ end → take n (drop a (take end bs)) ≡ take n (drop a bs)
part-before n a end bs h =
    let split : end ≡ a + (end - a) = omega arith in
    ap (λ (m : ℕ). take n (drop a (take m bs))) split ∙ ap (take n) (drop-take a (end - a) bs) ∙ take-take n (end - a) (drop a bs) (omega arith)

pub part-bytes : (n a end : ℕ) (cells : List Cell) → a + n ≤ end → take n (drop a (take end (bytes_of cells))) ≡ bytes_of (take n (drop a cells))
part-bytes n a end cells h =
    part-before n a end (bytes_of cells) h ∙ ap (take n) (sym (bytes_of-drop a cells)) ∙ sym (bytes_of-take n (drop a cells))

-- what lies in the bytes up to an end lies before it, and in the cells
pub before-end : (m end : ℕ) (bs : List ℕ) → m ≤ length (take end bs) → m ≤ end
before-end m end bs h = omega (arith, h, length-take end bs)

pub part-length : (n a end : ℕ) (cells : List Cell) → a + n ≤ length (take end (bytes_of cells)) → length (take n (drop a cells)) ≡ n
part-length n a end cells h =
    length-take-le n (drop a cells) (omega (arith, h, length-take end (bytes_of cells), length-bytes_of cells, length-drop a cells))

-- a state of the same unit
pub inside-same : (s : UnitState) (p e d : ℕ) (m : Mode) (q f g n tag : ℕ) (xs : List Spec) → inside (in_unit s p e d m) q f g n tag xs ≡ inside s q f g n tag xs
unfolding between
inside-same s p e d m q f g n tag [] = refl
inside-same s p e d m q f g n tag (x ∷ xs) = refl

-- the state behind a value that isn't a form
pub after-own : (k : ValueKind) (s : UnitState) (p form n tag : ℕ) (x : Spec) (xs : List Spec) → k ≢ form_in_front
    → after_value k s p form n tag x xs ≡ inside s p s.entry s.depth n tag xs
after-own form_in_front s p form n tag x xs other = absurd (other refl)
after-own k s p form n tag x xs other = refl

pub is_front : (k : ValueKind) → (k ≡ form_in_front) ⊎ (k ≡ form_in_front → ⊥)
is_front form_in_front = inl refl
is_front (number_of class n) = inr (λ e. cc)
is_front (leb_number class) = inr (λ e. cc)
is_front signed_leb = inr (λ e. cc)
is_front (block_of n) = inr (λ e. cc)
is_front (counted n) = inr (λ e. cc)
is_front counted_leb = inr (λ e. cc)
is_front inline_text = inr (λ e. cc)
is_front (text_offset table n) = inr (λ e. cc)
is_front present = inr (λ e. cc)
is_front in_abbreviation = inr (λ e. cc)
is_front supplementary = inr (λ e. cc)
is_front unlisted = inr (λ e. cc)

-- the bytes of a section up to the end of a state's unit
abbrev pub unit_bytes : UnitState → List Cell → List ℕ
unit_bytes s cells = take s.header.end (bytes_of cells)

-- a value of a kind at a place is a piece
pub value-piece : (s : UnitState) (x : Spec) (k : ValueKind) (cells : List Cell) (place e d : ℕ) (m : Mode) (v : Value)
    → value_of k s.header.params.order (unit_bytes s cells) place x.implicit ≡ Some v
    → IsValue (in_unit s place e d m) x k (take v.size (drop place cells))
value-piece s x k cells place e d m v is =
    let c : IsCut k s.header.params.order (unit_bytes s cells) place x.implicit v.size = value_of-own k s.header.params.order (unit_bytes s cells) place x.implicit v is in
    let inside_ : place + v.size ≤ length (unit_bytes s cells) = c.inside in
    let before : place + v.size ≤ s.header.end = before-end (place + v.size) s.header.end (bytes_of cells) c.inside in
    let size : length (take v.size (drop place cells)) ≡ v.size = part-length v.size place s.header.end cells c.inside in
    record {
      value = c.value;
      is = ap (λ (bs : List ℕ). value_of k s.header.params.order bs 0 x.implicit) (sym (part-bytes v.size place s.header.end cells before)) ∙ c.is;
      size = c.same ∙ sym size;
      before = omega (arith, before, size);
    }

-- so a value of an attribute that isn't behind a form is one
unfoldable pub own-run : (base : UnitBase) (cells : List Cell) (s : UnitState) (place e d n tag : ℕ) (x : Spec) (xs : List Spec) (v : Value)
    → kind_in s.header.params x.form ≢ form_in_front
    → value_of (kind_in s.header.params x.form) s.header.params.order (unit_bytes s cells) place x.implicit ≡ Some v
    → Run base cells (in_unit s place e d (at_values n tag (x ∷ xs))) (inside s (place + v.size) e d n tag xs) place (place + v.size)
own-run base cells s place e d n tag x xs v other is =
    let t : UnitState = in_unit s place e d (at_values n tag (x ∷ xs)) in
    let k : ValueKind = kind_in s.header.params x.form in
    let p : List Cell = take v.size (drop place cells) in
    let f : IsValue (in_unit s place e d (at_values n tag (x ∷ xs))) x (kind_in s.header.params x.form) (take v.size (drop place cells)) =
    value-piece s x (kind_in s.header.params x.form) cells place e d (at_values n tag (x ∷ xs)) v is in
    let size : length (take v.size (drop place cells)) ≡ v.size =
    part-length v.size place s.header.end cells (value_of-own (kind_in s.header.params x.form) s.header.params.order (unit_bytes s cells) place x.implicit v is).inside in
    run-one base cells (in_unit s place e d (at_values n tag (x ∷ xs))) (inside s (place + v.size) e d n tag xs) place v.size
    (chosen-fits (kind_in s.header.params x.form) (in_unit s place e d (at_values n tag (x ∷ xs))) x (take v.size (drop place cells)) f)
    (after-own (kind_in s.header.params x.form) (in_unit s place e d (at_values n tag (x ∷ xs))) (place + length (take v.size (drop place cells)))
    (code_value (take v.size (drop place cells))) n tag x xs other
    ∙ inside-same s place e d (at_values n tag (x ∷ xs)) (place + length (take v.size (drop place cells))) e d n tag xs
    ∙ ap (λ (m : ℕ). inside s (place + m) e d n tag xs) size)

-- the cells of a number that stands at a place of a unit
pub record NumberPiece (s : UnitState) (cells : List Cell) (place v n : ℕ) : Type 0 where
  pub spells : uleb_at (bytes_of (take n (drop place cells))) 0 ≡ Some (v, length (take n (drop place cells)))
  pub value : code_value (take n (drop place cells)) ≡ v
  pub size : length (take n (drop place cells)) ≡ n
  pub before : place + n ≤ s.header.end

pub number-piece : (s : UnitState) (cells : List Cell) (place v n : ℕ) → uleb_at (unit_bytes s cells) place ≡ Some (v, n) → NumberPiece s cells place v n
number-piece s cells place v n e =
    let room : place + n ≤ length (unit_bytes s cells) = uleb-inside (unit_bytes s cells) place v n e in
    let before : place + n ≤ s.header.end = before-end (place + n) s.header.end (bytes_of cells) room in
    let size : length (take n (drop place cells)) ≡ n = part-length n place s.header.end cells room in
    let spells : uleb_at (bytes_of (take n (drop place cells))) 0 ≡ Some (v, n) =
    ap (λ (bs : List ℕ). uleb_at bs 0) (sym (part-bytes n place s.header.end cells before)) ∙ (number-cut (unit_bytes s cells) place v n e).0 in
    record {
      spells = spells ∙ ap (λ (m : ℕ). Some (v, m)) (sym size);
      value = ap read_value spells;
      size = size;
      before = before;
    }

-- a value behind a form: the form's number, and the value that was read behind it
pub record Chosen (params : Params) (x : Spec) (bytes : List ℕ) (place : ℕ) (v : Value) : Type 0 where
  pub form : ℕ
  pub size : ℕ
  pub spells : uleb_at bytes place ≡ Some (form, size)
  pub value : Value
  pub is : value_of (kind_in params form) params.order bytes (place + size) x.implicit ≡ Some value
  pub own : kind_in params form ≢ in_abbreviation
  pub other : kind_in params form ≢ form_in_front
  pub whole : v.size ≡ size + value.size
  pub parts : v ≡ record value { size = size + value.size }
  pub class_is : v.class ≡ value.class
  pub at_is : v.at ≡ value.at
  pub len_is : v.len ≡ value.len
  pub number_is : v.number ≡ value.number

-- what was chosen has a kind of its own
chosen-kind : (k : ValueKind) (params : Params) (x : Spec) (bytes : List ℕ) (place : ℕ) (w : Value) → chosen_value k params.order bytes place x.implicit ≡ Some w
    → (k ≢ in_abbreviation) × (k ≢ form_in_front)
unfolding value_of
chosen-kind k params x bytes place w e = (λ f. first f, λ f. second f)
  where
    first : k ≡ in_abbreviation → ⊥
    first f =
        let none : chosen_value k params.order bytes place x.implicit ≡ None = rw f refl in
        cc

    second : k ≡ form_in_front → ⊥
    second f =
        let none : chosen_value k params.order bytes place x.implicit ≡ None = rw f refl in
        cc

some-once : (v w : Value) → Some v ≡ Some w → v ≡ w
some-once v w e = cc

-- the size of a value that was read, 0 where none was
abbrev size_read : Option Value → ℕ
size_read None = 0
size_read (Some w) = w.size

pub chosen-read : (params : Params) (x : Spec) (bytes : List ℕ) (place : ℕ) (v : Value) → kind_in params x.form ≡ form_in_front
    → value_at params x bytes place ≡ Some v → Chosen params x bytes place v
unfolding value_at
chosen-read params x bytes place v front e = by_read (uleb_at bytes place) refl (sym (ap (λ (k : ValueKind). value_by k params x bytes place) front) ∙ e)
  where
    by_value : (form size : ℕ) (o : Option Value) → uleb_at bytes place ≡ Some (form, size)
        → chosen_value (kind_in params form) params.order bytes (place + size) x.implicit ≡ o → behind size o ≡ Some v → Chosen params x bytes place v
    by_value form size None is same e = absurd cc
    by_value form size (Some w) is same e =
        let kinds = chosen-kind (kind_in params form) params x bytes (place + size) w same in
        let parts : v ≡ record w { size = size + w.size } = some-once v (record w { size = size + w.size }) (sym e) in
        record {
          form = form;
          size = size;
          spells = is;
          value = w;
          is = sym (chosen_value-own (kind_in params form) params x bytes (place + size) kinds.0) ∙ same;
          own = kinds.0;
          other = kinds.1;
          whole = sym (ap size_read e);
          parts = parts;
          class_is = ap (λ (y : Value). y.class) parts;
          at_is = ap (λ (y : Value). y.at) parts;
          len_is = ap (λ (y : Value). y.len) parts;
          number_is = ap (λ (y : Value). y.number) parts;
        }

    by_read : (o : Option (ℕ × ℕ)) → uleb_at bytes place ≡ o → indirect_value params x bytes place o ≡ Some v → Chosen params x bytes place v
    by_read None is e = absurd cc
    by_read (Some (form, size)) is e = by_value form size (chosen_value (kind_in params form) params.order bytes (place + size) x.implicit) is refl e

-- the form in front of a value is a piece
pub front-run : (base : UnitBase) (cells : List Cell) (s : UnitState) (place e d n tag form size : ℕ) (x : Spec) (xs : List Spec)
    → kind_in s.header.params x.form ≡ form_in_front → uleb_at (unit_bytes s cells) place ≡ Some (form, size)
    → kind_in s.header.params form ≢ form_in_front → kind_in s.header.params form ≢ in_abbreviation
    → Run base cells (in_unit s place e d (at_values n tag (x ∷ xs))) (in_unit s (place + size) e d (at_chosen n tag place (of_chosen x form) xs)) place (place + size)
front-run base cells s place e d n tag form size x xs front is other own =
    let t : UnitState = in_unit s place e d (at_values n tag (x ∷ xs)) in
    let p : List Cell = take size (drop place cells) in
    let c : NumberPiece s cells place form size = number-piece s cells place form size is in
    let before : place + size ≤ s.header.end = c.before in
    let fits : IsFrontForm (in_unit s place e d (at_values n tag (x ∷ xs))) (take size (drop place cells)) =
    record {
      spells = c.spells ∙ ap (λ (v : ℕ). Some (v, length (take size (drop place cells)))) (sym c.value);
      before = subst (λ (m : ℕ). place + m ≤ s.header.end) (sym c.size) c.before;
      other = λ f. other (ap (kind_in s.header.params) (sym c.value) ∙ f);
      own = λ f. own (ap (kind_in s.header.params) (sym c.value) ∙ f);
    } in
    run-one base cells (in_unit s place e d (at_values n tag (x ∷ xs))) (in_unit s (place + size) e d (at_chosen n tag place (of_chosen x form) xs)) place size
    (subst (λ (k : ValueKind). FitsKind k (in_unit s place e d (at_values n tag (x ∷ xs))) x (take size (drop place cells))) (sym front) fits)
    (ap (λ (k : ValueKind). after_value k (in_unit s place e d (at_values n tag (x ∷ xs))) (place + length (take size (drop place cells)))
    (code_value (take size (drop place cells))) n tag x xs) front
    ∙ ap (λ (m : ℕ). in_unit s (place + m) e d (at_chosen n tag place (of_chosen x (code_value (take size (drop place cells)))) xs)) c.size
    ∙ ap (λ (f : ℕ). in_unit s (place + size) e d (at_chosen n tag place (of_chosen x f) xs)) c.value)

-- and the value behind it
unfoldable pub chosen-run : (base : UnitBase) (cells : List Cell) (s : UnitState) (place e d n tag start form : ℕ) (x : Spec) (xs : List Spec) (v : Value)
    → value_of (kind_in s.header.params form) s.header.params.order (unit_bytes s cells) place x.implicit ≡ Some v
    → Run base cells (in_unit s place e d (at_chosen n tag start (of_chosen x form) xs)) (inside s (place + v.size) e d n tag xs) place (place + v.size)
chosen-run base cells s place e d n tag start form x xs v is =
    let size : length (take v.size (drop place cells)) ≡ v.size =
    part-length v.size place s.header.end cells (value_of-own (kind_in s.header.params form) s.header.params.order (unit_bytes s cells) place x.implicit v is).inside in
    run-one base cells (in_unit s place e d (at_chosen n tag start (of_chosen x form) xs)) (inside s (place + v.size) e d n tag xs) place v.size
    (value-piece s (of_chosen x form) (kind_in s.header.params form) cells place e d (at_chosen n tag start (of_chosen x form) xs) v is)
    (inside-same s place e d (at_chosen n tag start (of_chosen x form) xs) (place + length (take v.size (drop place cells))) e d n tag xs
    ∙ ap (λ (m : ℕ). inside s (place + m) e d n tag xs) size)

-- a value of an attribute is one piece or two
pub value-run : (base : UnitBase) (cells : List Cell) (s : UnitState) (place e d n tag : ℕ) (x : Spec) (xs : List Spec) (v : Value)
    → value_at s.header.params x (unit_bytes s cells) place ≡ Some v
    → Run base cells (in_unit s place e d (at_values n tag (x ∷ xs))) (inside s (place + v.size) e d n tag xs) place (place + v.size)
unfolding value_at
value-run base cells s place e d n tag x xs v is = by_front (is_front (kind_in s.header.params x.form))
  where
    by_front : (kind_in s.header.params x.form ≡ form_in_front) ⊎ (kind_in s.header.params x.form ≡ form_in_front → ⊥)
        → Run base cells (in_unit s place e d (at_values n tag (x ∷ xs))) (inside s (place + v.size) e d n tag xs) place (place + v.size)
    by_front (inl front) =
        let c : Chosen s.header.params x (unit_bytes s cells) place v = chosen-read s.header.params x (unit_bytes s cells) place v front is in
        let both = run-more base cells (in_unit s place e d (at_values n tag (x ∷ xs))) (in_unit s (place + c.size) e d (at_chosen n tag place (of_chosen x c.form) xs))
        (inside s (place + c.size + c.value.size) e d n tag xs) place (place + c.size) (place + c.size + c.value.size)
        (front-run base cells s place e d n tag c.form c.size x xs front c.spells c.other c.own)
        (chosen-run base cells s (place + c.size) e d n tag place c.form x xs c.value c.is) in
        let whole : place + c.size + c.value.size ≡ place + v.size = omega (arith, c.whole) in
        subst (λ (m : ℕ). Run base cells (in_unit s place e d (at_values n tag (x ∷ xs))) (inside s m e d n tag xs) place m) whole both
    by_front (inr other) = own-run base cells s place e d n tag x xs v other (sym (value_by-own (kind_in s.header.params x.form) s.header.params x (unit_bytes s cells) place other) ∙ is)
