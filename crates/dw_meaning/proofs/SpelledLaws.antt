-- The pieces of a unit section spell its units.
use Rattle.std.proofs.Common.{Bool, true, false, zero, suc, ◌≡◌, ◌≢◌, ◌⊎◌, inl, inr, ℕ, ◌+◌, ◌-◌, ◌≤◌, List, [], ◌∷◌, ◌++◌, length, Option, Some, None, IsTrue, refl, sym, ap, ◌∙◌, subst, arith, if◌then◌else◌, append_assoc}
use Rattle.std.specs.Bool.{⊤}
use Rattle.std.specs.Prelude.{◌==◌}
use Rattle.std.proofs.lemmas.Bool.{eqb-true, eqb-false}
use Rattle.std.proofs.lemmas.List.{length-append}
use Rattle.dw_base.specs.AbbreviationTables.{Abbreviation, abbreviation_of}
use Rattle.dw_base.specs.Cells.{Cell}
use Rattle.dw_base.specs.DebugData.{Around, ReadsAll, units_in}
use Rattle.dw_base.specs.EntryScans.{depth_behind}
use Rattle.dw_base.specs.Forests.{AttributeMeaning, Forest, no_entries, entry, Mark, begins, opens, attribute, null, no_mark, HasAttributes, no_attributes, form_first, one_more, Spells, no_marks, padding, lone, parent, SpellsChildren, closed, lone_child, parent_child}
use Rattle.dw_base.specs.Forms.{ValueKind, form_in_front, kind_in}
use Rattle.dw_base.specs.Pieces.{Piece, Chain}
use Rattle.dw_base.specs.Readings.{Readings}
use Rattle.dw_base.specs.Roles.{use_of}
use Rattle.dw_meaning.specs.SpelledUnits.{marks_of, SpelledUnits, no_units, more_units, AllSpelled, no_sections, more_sections}
use Rattle.dw_base.specs.UnitHeaders.{UnitBase, UnitSection}
use Rattle.dw_base.specs.UnitMeanings.{UnitMeaning, head_meaning, head_mark, entry_mark, code_mark, value_mark, mark_by, mark_of, unit_meanings, units_read}
use Rattle.dw_base.specs.UnitPieces.{IsHeader, IsCode, may_stand, FitsMode, ReadsUnits, unit_grammar}
use Rattle.dw_base.specs.UnitStates.{Mode, at_header, at_code, at_values, at_chosen, stuck, UnitState, before_unit, in_unit, between, inside, headed, after_header, after_entry, after_code, code_value, of_chosen, after_value, piece_header, past}
use Rattle.dw_base.specs.ValueMeanings.{meaning_of_value}
use Rattle.dw_base.specs.declared.values.Spec.{Spec}
use Rattle.dw_meaning.proofs.ForestLaws.{spelled-units}
use Rattle.dw_meaning.proofs.ScanPieceLaws.{is_front, after-own}

-- marks that end so many lists of children, and then spell a forest
data SpellsLevels : ℕ → List Mark → Type 0 where
  at_top : (ms : List Mark) (f : Forest) → Spells ms f → SpellsLevels 0 ms
  in_list : (d : ℕ) (ks ms : List Mark) (k : Forest) → SpellsChildren ks k → SpellsLevels d ms → SpellsLevels (suc d) (ks ++ ms)

-- where the unit of a state ends
abbrev behind_unit : UnitState → UnitState
behind_unit s = before_unit s.section s.kind s.whole s.header.end (s.unit + 1)

-- pieces from a place between entries: the rest of the unit, which with marks in front ends so many lists, and what follows the unit
record RestAt (base : UnitBase) (around : Around) (s : UnitState) (d : ℕ) (front : List Mark) (xs : List (Piece UnitState)) : Type 0 where
  own : List (Piece UnitState)
  others : List (Piece UnitState)
  split : xs ≡ own ++ others
  chain : Chain (unit_grammar base) (behind_unit s) others
  levels : SpellsLevels d (front ++ marks_of around own)

-- from a place in an entry: the attributes that are left come first
record RestIn (base : UnitBase) (around : Around) (s : UnitState) (d : ℕ) (front : List Mark) (xs : List (Piece UnitState)) : Type 0 where
  own : List (Piece UnitState)
  others : List (Piece UnitState)
  split : xs ≡ own ++ others
  chain : Chain (unit_grammar base) (behind_unit s) others
  vs : List Mark
  ms : List Mark
  attributes : List AttributeMeaning
  marks : front ++ marks_of around own ≡ vs ++ ms
  has : HasAttributes vs attributes
  levels : SpellsLevels d ms

abbrev RestBy : Mode → UnitBase → Around → UnitState → List Mark → List (Piece UnitState) → Type 0
RestBy at_code base around s front xs = RestAt base around s s.depth front xs
RestBy (at_values n tag specs) base around s front xs = RestIn base around s s.depth front xs
RestBy (at_chosen n tag start x specs) base around s front xs = RestIn base around s s.depth front xs
RestBy at_header base around s front xs = ⊤
RestBy stuck base around s front xs = ⊤

-- what is known of shorter lists of pieces
abbrev Known : UnitBase → Around → List (Piece UnitState) → Type 0
Known base around xs = (t : UnitState) → Chain (unit_grammar base) t xs → RestBy t.mode base around t [] xs

-- no pieces follow where nothing can
stuck-fits : (m : Mode) (base : UnitBase) (s : UnitState) (p : List Cell) → m ≡ stuck → FitsMode m base s p → ⊥
stuck-fits stuck base s p e f = f
stuck-fits at_header base s p e f = cc
stuck-fits at_code base s p e f = cc
stuck-fits (at_values n tag xs) base s p e f = cc
stuck-fits (at_chosen n tag start x xs) base s p e f = cc

pub stuck-none : (base : UnitBase) (s : UnitState) (xs : List (Piece UnitState)) → s.mode ≡ stuck → Chain (unit_grammar base) s xs → ⊥
stuck-none base s [] e c = other s.mode e c.mode
  where
    other : (m : Mode) → m ≡ stuck → m ≡ at_header → ⊥
    other m e f = cc
stuck-none base s (x ∷ xs) e c = stuck-fits x.state.mode base x.state x.cells (ap (λ (t : UnitState). t.mode) c.0 ∙ e) c.1

-- between entries
between-rest : (base : UnitBase) (around : Around) (s : UnitState) (place e d : ℕ) (xs : List (Piece UnitState)) → Chain (unit_grammar base) (between s place e d) xs
    → Known base around xs → RestAt base around s d [] xs
unfolding between
between-rest base around s place e d xs c known = by_end (place == s.header.end) refl c
  where
    by_depth : (t : Bool) → (d == 0) ≡ t → place ≡ s.header.end
        → Chain (unit_grammar base) (if t then before_unit s.section s.kind s.whole place (s.unit + 1) else in_unit s place e d stuck) xs → RestAt base around s d [] xs
    by_depth true is end c =
        let zero_ : 0 ≡ d = sym (eqb-true d 0 is) in
        record {
          own = [];
          others = xs;
          split = refl;
          chain = subst (λ (n : ℕ). Chain (unit_grammar base) (before_unit s.section s.kind s.whole n (s.unit + 1)) xs) end c;
          levels = subst (λ (n : ℕ). SpellsLevels n []) zero_ (at_top [] no_entries no_marks);
        }
    by_depth false is end c = absurd (stuck-none base (in_unit s place e d stuck) xs refl c)

    by_end : (t : Bool) → (place == s.header.end) ≡ t
        → Chain (unit_grammar base) (if t then (if d == 0 then before_unit s.section s.kind s.whole place (s.unit + 1) else in_unit s place e d stuck) else in_unit s place e d at_code) xs
        → RestAt base around s d [] xs
    by_end true is c = by_depth (d == 0) refl (eqb-true place s.header.end is) c
    by_end false is c =
        let r : RestAt base around (in_unit s place e d at_code) d [] xs = known (in_unit s place e d at_code) c in
        record { own = r.own; others = r.others; split = r.split; chain = r.chain; levels = r.levels }

-- in an entry
inside-rest : (base : UnitBase) (around : Around) (s : UnitState) (place e d n tag : ℕ) (specs : List Spec) (xs : List (Piece UnitState))
    → Chain (unit_grammar base) (inside s place e d n tag specs) xs → Known base around xs → RestIn base around s d [] xs
inside-rest base around s place e d n tag [] xs c known =
    let r : RestAt base around s d [] xs = between-rest base around s place e d xs c known in
    record {
      own = r.own;
      others = r.others;
      split = r.split;
      chain = r.chain;
      vs = [];
      ms = marks_of around r.own;
      attributes = [];
      marks = refl;
      has = no_attributes;
      levels = r.levels;
    }
inside-rest base around s place e d n tag (y ∷ ys) xs c known =
    let r : RestIn base around (in_unit s place e d (at_values n tag (y ∷ ys))) d [] xs = known (in_unit s place e d (at_values n tag (y ∷ ys))) c in
    record {
      own = r.own;
      others = r.others;
      split = r.split;
      chain = r.chain;
      vs = r.vs;
      ms = r.ms;
      attributes = r.attributes;
      marks = r.marks;
      has = r.has;
      levels = r.levels;
    }

-- a null in front
null-levels : (d : ℕ) (ms : List Mark) → SpellsLevels (d - 1) ms → SpellsLevels d (null ∷ ms)
null-levels zero ms h = top_padding ms h
  where
    top_padding : (ms : List Mark) → SpellsLevels 0 ms → SpellsLevels 0 (null ∷ ms)
    top_padding ms (at_top ns f s) = at_top (null ∷ ns) f (padding ns f s)
null-levels (suc d) ms h =
    let same : suc d - 1 ≡ d = omega arith in
    in_list d (null ∷ []) ms no_entries closed (subst (λ (n : ℕ). SpellsLevels n ms) same h)

-- an entry in front, without children
lone-levels : (d tag : ℕ) (vs ms : List Mark) (attributes : List AttributeMeaning) → HasAttributes vs attributes → SpellsLevels d ms
    → SpellsLevels d (opens tag false ∷ vs ++ ms)
lone-levels d tag vs ms attributes h (at_top ns f s) = at_top (opens tag false ∷ vs ++ ns) (entry tag attributes no_entries f) (lone tag attributes vs ns f h s)
lone-levels d tag vs ms attributes h (in_list e ks ns k s rest) =
    subst (λ (xs : List Mark). SpellsLevels (suc e) (opens tag false ∷ xs)) (append_assoc vs ks ns)
    (in_list e (opens tag false ∷ vs ++ ks) ns (entry tag attributes no_entries k) (lone_child tag attributes vs ks k h s) rest)

-- and with children
parent-levels : (d tag : ℕ) (vs ms : List Mark) (attributes : List AttributeMeaning) → HasAttributes vs attributes → SpellsLevels (suc d) ms
    → SpellsLevels d (opens tag true ∷ vs ++ ms)
parent-levels d tag vs ms attributes h (in_list e ks ns k s rest) = outer_list d ns s rest
  where
    outer_list : (d : ℕ) (ns : List Mark) → SpellsChildren ks k → SpellsLevels d ns → SpellsLevels d (opens tag true ∷ vs ++ (ks ++ ns))
    outer_list d ns s (at_top os f t) = at_top (opens tag true ∷ vs ++ (ks ++ os)) (entry tag attributes k f) (parent tag attributes vs ks os k f h s t)
    outer_list d ns s (in_list e js os j t rest) =
        subst (λ (xs : List Mark). SpellsLevels (suc e) (opens tag true ∷ xs)) (append_assoc vs (ks ++ js) os ∙ ap (λ (xs : List Mark). vs ++ xs) (append_assoc ks js os))
        (in_list e (opens tag true ∷ vs ++ (ks ++ js)) os (entry tag attributes k j) (parent_child tag attributes vs ks js k j h s t) rest)

-- the code of an entry, or a null
code-rest : (base : UnitBase) (around : Around) (s : UnitState) (p : List Cell) (xs : List (Piece UnitState)) → IsCode s p
    → Chain (unit_grammar base) (after_code s (s.place + length p) (code_value p)) xs → Known base around xs
    → RestAt base around s s.depth (code_mark s.table (code_value p) ∷ []) xs
unfolding after_code
code-rest base around s p xs fits c known = by_null (code_value p == 0) refl c
  where
    entry_rest : (a : Abbreviation) (b : Bool) → a.children ≡ b → RestIn base around s (if b then s.depth + 1 else s.depth) [] xs
        → RestAt base around s s.depth (opens a.tag b ∷ []) xs
    entry_rest a true is r = record {
      own = r.own;
      others = r.others;
      split = r.split;
      chain = r.chain;
      levels =
          let deep : s.depth + 1 ≡ suc s.depth = omega arith in
          subst (λ (ms : List Mark). SpellsLevels s.depth (opens a.tag true ∷ ms)) (sym r.marks)
          (parent-levels s.depth a.tag r.vs r.ms r.attributes r.has (subst (λ (n : ℕ). SpellsLevels n r.ms) deep r.levels));
    }
    entry_rest a false is r = record {
      own = r.own;
      others = r.others;
      split = r.split;
      chain = r.chain;
      levels = subst (λ (ms : List Mark). SpellsLevels s.depth (opens a.tag false ∷ ms)) (sym r.marks)
          (lone-levels s.depth a.tag r.vs r.ms r.attributes r.has r.levels);
    }

    by_entry : (o : Option Abbreviation) → (code_value p ≢ 0 → IsTrue (may_stand s.entry o)) → code_value p ≢ 0
        → Chain (unit_grammar base) (after_entry s (s.place + length p) o) xs → RestAt base around s s.depth (entry_mark o ∷ []) xs
    by_entry None listed some c =
        let no : false ≡ true = listed some in
        absurd cc
    by_entry (Some a) listed some c =
        entry_rest a a.children refl
        (inside-rest base around s (s.place + length p) (s.entry + 1) (depth_behind a s.depth) s.entry a.tag a.specs xs c known)

    by_null : (t : Bool) → (code_value p == 0) ≡ t
        → Chain (unit_grammar base) (if t then between s (s.place + length p) s.entry (s.depth - 1) else after_entry s (s.place + length p) (abbreviation_of s.table (code_value p))) xs
        → RestAt base around s s.depth ((if t then null else entry_mark (abbreviation_of s.table (code_value p))) ∷ []) xs
    by_null true is c =
        let r : RestAt base around s (s.depth - 1) [] xs = between-rest base around s (s.place + length p) s.entry (s.depth - 1) xs c known in
        record { own = r.own; others = r.others; split = r.split; chain = r.chain; levels = null-levels s.depth (marks_of around r.own) r.levels }
    by_null false is c = by_entry (abbreviation_of s.table (code_value p)) fits.listed (eqb-false (code_value p) 0 is) c

-- a value of a kind that isn't a form has a mark
value_mark-own : (k : ValueKind) (around : Around) (s : UnitState) (n tag : ℕ) (x : Spec) (p : List Cell) → k ≢ form_in_front
    → value_mark k around s n tag x p ≡ attribute (record { name = x.name; value = meaning_of_value around s (use_of n tag x.name) x k p })
value_mark-own form_in_front around s n tag x p other = absurd (other refl)
value_mark-own k around s n tag x p other = refl

with-attribute : (base : UnitBase) (around : Around) (s : UnitState) (d : ℕ) (a : AttributeMeaning) (m : Mark) (xs : List (Piece UnitState)) → m ≡ attribute a
    → RestIn base around s d [] xs → RestIn base around s d (m ∷ []) xs
with-attribute base around s d a m xs e r = record {
  own = r.own;
  others = r.others;
  split = r.split;
  chain = r.chain;
  vs = attribute a ∷ r.vs;
  ms = r.ms;
  attributes = a ∷ r.attributes;
  marks = ap (λ (y : Mark). y ∷ marks_of around r.own) e ∙ ap (λ (ys : List Mark). attribute a ∷ ys) r.marks;
  has = one_more a r.vs r.attributes r.has;
  levels = r.levels;
}

with-form : (base : UnitBase) (around : Around) (s : UnitState) (d : ℕ) (m : Mark) (xs : List (Piece UnitState)) → m ≡ no_mark
    → RestIn base around s d [] xs → RestIn base around s d (m ∷ []) xs
with-form base around s d m xs e r = record {
  own = r.own;
  others = r.others;
  split = r.split;
  chain = r.chain;
  vs = no_mark ∷ r.vs;
  ms = r.ms;
  attributes = r.attributes;
  marks = ap (λ (y : Mark). y ∷ marks_of around r.own) e ∙ ap (λ (ys : List Mark). no_mark ∷ ys) r.marks;
  has = form_first r.vs r.attributes r.has;
  levels = r.levels;
}

-- a value, or a form in front of one
value-rest : (base : UnitBase) (around : Around) (s : UnitState) (n tag : ℕ) (x : Spec) (ys : List Spec) (p : List Cell) (xs : List (Piece UnitState))
    → Chain (unit_grammar base) (after_value (kind_in s.header.params x.form) s (s.place + length p) (code_value p) n tag x ys) xs → Known base around xs
    → RestIn base around s s.depth (value_mark (kind_in s.header.params x.form) around s n tag x p ∷ []) xs
value-rest base around s n tag x ys p xs c known = by_front (is_front (kind_in s.header.params x.form))
  where
    by_front : (kind_in s.header.params x.form ≡ form_in_front) ⊎ (kind_in s.header.params x.form ≡ form_in_front → ⊥)
        → RestIn base around s s.depth (value_mark (kind_in s.header.params x.form) around s n tag x p ∷ []) xs
    by_front (inl front) =
        let t : UnitState = in_unit s (s.place + length p) s.entry s.depth (at_chosen n tag s.place (of_chosen x (code_value p)) ys) in
        let own : Chain (unit_grammar base) (in_unit s (s.place + length p) s.entry s.depth (at_chosen n tag s.place (of_chosen x (code_value p)) ys)) xs =
        subst (λ (k : ValueKind). Chain (unit_grammar base) (after_value k s (s.place + length p) (code_value p) n tag x ys) xs) front c in
        let r : RestIn base around (in_unit s (s.place + length p) s.entry s.depth (at_chosen n tag s.place (of_chosen x (code_value p)) ys)) s.depth [] xs =
        known (in_unit s (s.place + length p) s.entry s.depth (at_chosen n tag s.place (of_chosen x (code_value p)) ys)) own in
        with-form base around s s.depth (value_mark (kind_in s.header.params x.form) around s n tag x p) xs
        (ap (λ (k : ValueKind). value_mark k around s n tag x p) front)
        (record { own = r.own; others = r.others; split = r.split; chain = r.chain; vs = r.vs; ms = r.ms; attributes = r.attributes; marks = r.marks; has = r.has; levels = r.levels })
    by_front (inr other) =
        with-attribute base around s s.depth (record { name = x.name; value = meaning_of_value around s (use_of n tag x.name) x (kind_in s.header.params x.form) p })
        (value_mark (kind_in s.header.params x.form) around s n tag x p) xs (value_mark-own (kind_in s.header.params x.form) around s n tag x p other)
        (inside-rest base around s (s.place + length p) s.entry s.depth n tag ys xs
        (subst (λ (t : UnitState). Chain (unit_grammar base) t xs) (after-own (kind_in s.header.params x.form) s (s.place + length p) (code_value p) n tag x ys other) c) known)

-- a value whose form was read
chosen-rest : (base : UnitBase) (around : Around) (s : UnitState) (n tag : ℕ) (x : Spec) (ys : List Spec) (p : List Cell) (xs : List (Piece UnitState))
    → Chain (unit_grammar base) (inside s (s.place + length p) s.entry s.depth n tag ys) xs → Known base around xs
    → RestIn base around s s.depth (value_mark (kind_in s.header.params x.form) around s n tag x p ∷ []) xs
chosen-rest base around s n tag x ys p xs c known = by_front (is_front (kind_in s.header.params x.form))
  where
    rest : RestIn base around s s.depth [] xs
    rest = inside-rest base around s (s.place + length p) s.entry s.depth n tag ys xs c known

    by_front : (kind_in s.header.params x.form ≡ form_in_front) ⊎ (kind_in s.header.params x.form ≡ form_in_front → ⊥)
        → RestIn base around s s.depth (value_mark (kind_in s.header.params x.form) around s n tag x p ∷ []) xs
    by_front (inl front) =
        with-form base around s s.depth (value_mark (kind_in s.header.params x.form) around s n tag x p) xs (ap (λ (k : ValueKind). value_mark k around s n tag x p) front) rest
    by_front (inr other) =
        with-attribute base around s s.depth (record { name = x.name; value = meaning_of_value around s (use_of n tag x.name) x (kind_in s.header.params x.form) p })
        (value_mark (kind_in s.header.params x.form) around s n tag x p) xs (value_mark-own (kind_in s.header.params x.form) around s n tag x p other) rest

-- a piece and what follows it
piece-rest : (m : Mode) (base : UnitBase) (around : Around) (s : UnitState) (p : List Cell) (xs : List (Piece UnitState)) → m ≡ s.mode → FitsMode m base s p
    → Chain (unit_grammar base) (past m base s p) xs → Known base around xs → RestBy m base around s (mark_by m around s p ∷ []) xs
piece-rest at_header base around s p xs e fits c known = tt
piece-rest stuck base around s p xs e fits c known = tt
piece-rest at_code base around s p xs e fits c known = code-rest base around s p xs fits c known
piece-rest (at_values n tag []) base around s p xs e fits c known = absurd fits
piece-rest (at_values n tag (x ∷ ys)) base around s p xs e fits c known = value-rest base around s n tag x ys p xs c known
piece-rest (at_chosen n tag start x ys) base around s p xs e fits c known = chosen-rest base around s n tag x ys p xs c known

-- the piece itself is the first of the rest
with-piece : (m : Mode) (base : UnitBase) (around : Around) (x : Piece UnitState) (xs : List (Piece UnitState)) → m ≡ x.state.mode
    → RestBy m base around x.state (mark_of around x ∷ []) xs → RestBy m base around x.state [] (x ∷ xs)
with-piece at_header base around x xs e r = tt
with-piece stuck base around x xs e r = tt
with-piece at_code base around x xs e r =
    record { own = x ∷ r.own; others = r.others; split = ap (λ (ys : List (Piece UnitState)). x ∷ ys) r.split; chain = r.chain; levels = r.levels }
with-piece (at_values n tag specs) base around x xs e r =
    record {
      own = x ∷ r.own;
      others = r.others;
      split = ap (λ (ys : List (Piece UnitState)). x ∷ ys) r.split;
      chain = r.chain;
      vs = r.vs;
      ms = r.ms;
      attributes = r.attributes;
      marks = r.marks;
      has = r.has;
      levels = r.levels;
    }
with-piece (at_chosen n tag start y specs) base around x xs e r =
    record {
      own = x ∷ r.own;
      others = r.others;
      split = ap (λ (ys : List (Piece UnitState)). x ∷ ys) r.split;
      chain = r.chain;
      vs = r.vs;
      ms = r.ms;
      attributes = r.attributes;
      marks = r.marks;
      has = r.has;
      levels = r.levels;
    }

-- no piece is left only where a section ends
none-rest : (m : Mode) (base : UnitBase) (around : Around) (s : UnitState) → m ≡ at_header → RestBy m base around s [] []
none-rest at_header base around s e = tt
none-rest stuck base around s e = tt
none-rest at_code base around s e = absurd cc
none-rest (at_values n tag specs) base around s e = absurd cc
none-rest (at_chosen n tag start x specs) base around s e = absurd cc

-- so it is of all pieces
all-rest : (base : UnitBase) (around : Around) (xs : List (Piece UnitState)) → Known base around xs
all-rest base around [] = λ t c. none-rest t.mode base around t c.mode
all-rest base around (x ∷ xs) = λ t c.
    subst (λ (s : UnitState). RestBy s.mode base around s [] (x ∷ xs)) c.0
    (with-piece x.state.mode base around x xs refl
    (piece-rest x.state.mode base around x.state x.cells xs refl c.1 c.2 (all-rest base around xs)))

-- a unit's header, and the unit behind it
record Spelled (around : Around) (section : ℕ) (xs : List (Piece UnitState)) : Type 0 where
  units : List UnitMeaning
  spelled : SpelledUnits around section xs units

top-spells : (ms : List Mark) → SpellsLevels 0 ms → (f : Forest) × Spells ms f
top-spells ms (at_top ns f s) = (f, s)

header-fits : (m : Mode) (base : UnitBase) (s : UnitState) (p : List Cell) → m ≡ at_header → FitsMode m base s p → IsHeader base s p
header-fits at_header base s p e f = f
header-fits at_code base s p e f = absurd cc
header-fits (at_values n tag xs) base s p e f = absurd cc
header-fits (at_chosen n tag start x xs) base s p e f = absurd cc
header-fits stuck base s p e f = absurd f

header-next : (m : Mode) (base : UnitBase) (s : UnitState) (p : List Cell) → m ≡ at_header → past m base s p ≡ after_header base s (s.place + length p) (piece_header base s p)
header-next m base s p e = ap (λ (k : Mode). past k base s p) e

header-mark : (m : Mode) (around : Around) (s : UnitState) (p : List Cell) → m ≡ at_header → mark_by m around s p ≡ head_mark around.lasting (piece_header around.lasting.base s p)
header-mark m around s p e = ap (λ (k : Mode). mark_by k around s p) e

-- the pieces behind units that are read spell the units that are left; `n` bounds how many pieces there are
spelled-from : (n : ℕ) (base : UnitBase) (around : Around) (section : ℕ) (s : UnitState) (xs : List (Piece UnitState)) → around.lasting.base ≡ base
    → s.mode ≡ at_header → length xs ≤ n → Chain (unit_grammar base) s xs → Spelled around section xs
spelled-from n base around section s [] same mode bound c = record { units = []; spelled = no_units }
spelled-from zero base around section s (x ∷ xs) same mode bound c = absurd (omega arith)
spelled-from (suc n) base around section s (x ∷ xs) same mode bound c =
    let at : x.state.mode ≡ at_header = ap (λ (t : UnitState). t.mode) c.0 ∙ mode in
    let h : IsHeader base x.state x.cells = header-fits x.state.mode base x.state x.cells at c.1 in
    let next : past x.state.mode base x.state x.cells ≡ between (headed base x.state h.header) (x.state.place + length x.cells) 0 0 =
    header-next x.state.mode base x.state x.cells at ∙ ap (after_header base x.state (x.state.place + length x.cells)) h.is in
    let chain : Chain (unit_grammar base) (between (headed base x.state h.header) (x.state.place + length x.cells) 0 0) xs =
    subst (λ (t : UnitState). Chain (unit_grammar base) t xs) next c.2 in
    let r : RestAt base around (headed base x.state h.header) 0 [] xs =
    between-rest base around (headed base x.state h.header) (x.state.place + length x.cells) 0 0 xs chain (all-rest base around xs) in
    let f = top-spells (marks_of around r.own) r.levels in
    let mark : mark_of around x ≡ begins (head_meaning around.lasting h.header) =
    header-mark x.state.mode around x.state x.cells at
    ∙ ap (λ (b : UnitBase). head_mark around.lasting (piece_header b x.state x.cells)) same ∙ ap (head_mark around.lasting) h.is in
    let size : length xs ≡ length r.own + length r.others = ap length r.split ∙ length-append r.own r.others in
    let rest : Spelled around section r.others =
    spelled-from n base around section (behind_unit (headed base x.state h.header)) r.others same refl (omega (arith, bound, size)) r.chain in
    record {
      units = record { section = section; head = head_meaning around.lasting h.header; entries = f.0 } ∷ rest.units;
      spelled = subst (λ (ys : List (Piece UnitState)). SpelledUnits around section (x ∷ ys) (record { section = section; head = head_meaning around.lasting h.header; entries = f.0 } ∷ rest.units)) (sym r.split)
          (more_units x r.own r.others (head_meaning around.lasting h.header) f.0 rest.units mark f.1 rest.spelled);
    }

-- the pieces of a section spell the units that they mean
pub section-spelled : (base : UnitBase) (around : Around) (z : UnitSection) (first : ℕ) (xs : List (Piece UnitState)) → around.lasting.base ≡ base → ReadsUnits base z first xs
    → SpelledUnits around z.number xs (unit_meanings z.number around xs)
section-spelled base around z first xs same r =
    let s : Spelled around z.number xs =
    spelled-from (length xs) base around z.number (before_unit z.number z.kind (length z.contents) 0 first) xs same refl (omega arith) r.chain in
    subst (λ (us : List UnitMeaning). SpelledUnits around z.number xs us) (sym (spelled-units around z.number xs s.units s.spelled)) s.spelled

-- and those of all sections
pub all-spelled : (base : UnitBase) (around : Around) (first : ℕ) (zs : List UnitSection) (rs : Readings) → around.lasting.base ≡ base → ReadsAll base first zs rs
    → AllSpelled around rs (units_read around rs)
all-spelled base around first [] [] same reads = no_sections
all-spelled base around first [] (r ∷ rs) same reads = absurd reads
all-spelled base around first (z ∷ zs) [] same reads = absurd reads
all-spelled base around first (z ∷ zs) (r ∷ rs) same reads =
    let own : SpelledUnits around r.number r.pieces (unit_meanings r.number around r.pieces) =
    subst (λ (n : ℕ). SpelledUnits around n r.pieces (unit_meanings n around r.pieces)) (sym reads.0) (section-spelled base around z first r.pieces same reads.1) in
    more_sections r rs (unit_meanings r.number around r.pieces) (units_read around rs) own (all-spelled base around (first + units_in r.pieces) zs rs same reads.2)
