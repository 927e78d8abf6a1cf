-- How deep the entries of a forest stand, with their tags: as the marks that spell it say, and as the pieces of a section say.
use Rattle.std.proofs.Common.{Bool, true, false, ◌≡◌, ◌==◌, ◌⊎◌, inl, inr, ℕ, suc, ◌+◌, ◌-◌, List, [], ◌∷◌, ◌++◌, length, Option, Some, None, refl, sym, ap, ◌∙◌, arith, if◌then◌else◌, append_assoc}
use Rattle.std.proofs.lemmas.Bool.{eqb-true}
use Rattle.dw_base.specs.AbbreviationTables.{Abbreviation, abbreviation_of}
use Rattle.dw_base.specs.Cells.{Cell}
use Rattle.dw_base.specs.DebugData.{Around}
use Rattle.dw_base.specs.EntryScans.{depth_behind}
use Rattle.dw_base.specs.Forests.{AttributeMeaning, Forest, no_entries, entry, Mark, begins, opens, attribute, null, no_mark, HasAttributes, no_attributes, form_first, one_more, Spells, no_marks, padding, lone, parent, SpellsChildren, closed, lone_child, parent_child}
use Rattle.dw_base.specs.Forms.{ValueKind, form_in_front, kind_in}
use Rattle.dw_base.specs.Pieces.{Piece, Chain}
use Rattle.dw_base.specs.UnitHeaders.{UnitBase}
use Rattle.dw_base.specs.UnitMeanings.{UnitMeaning, head_mark, entry_mark, code_mark, value_mark, mark_by, mark_of}
use Rattle.dw_base.specs.UnitPieces.{FitsMode, unit_grammar}
use Rattle.dw_base.specs.UnitStates.{Mode, at_header, at_code, at_values, at_chosen, stuck, UnitState, before_unit, in_unit, between, inside, headed, after_header, after_entry, after_code, code_value, after_value, piece_header, past}
use Rattle.dw_base.specs.declared.units.UnitHeader.{UnitHeader}
use Rattle.dw_base.specs.declared.values.Spec.{Spec}
use Rattle.dw_meaning.specs.PieceRuns.{all_of}
use Rattle.dw_meaning.specs.SpelledUnits.{SpelledUnits, no_units, more_units, marks_of}
use Rattle.dw_meaning.proofs.ScanPieceLaws.{is_front, after-own}
use Rattle.dw_meaning.proofs.SpelledLaws.{stuck-none}

-- a depth with a tag, or a unit's beginning
abbrev pub Row : Type 0
Row = ℕ × ℕ

abbrev pub some_rows : List Row → List (Option Row)
some_rows [] = []
some_rows (r ∷ rs) = Some r ∷ some_rows rs

pub some-append : (xs ys : List Row) → some_rows (xs ++ ys) ≡ some_rows xs ++ some_rows ys
some-append [] ys = refl
some-append (x ∷ xs) ys = ap (λ (rs : List (Option Row)). Some x ∷ rs) (some-append xs ys)

-- those of a forest
abbrev pub rows_in : ℕ → Forest → List Row
rows_in d no_entries = []
rows_in d (entry tag attributes children siblings) = (d, tag) ∷ (rows_in (suc d) children ++ rows_in d siblings)

abbrev pub unit_rows : List UnitMeaning → List (Option Row)
unit_rows [] = []
unit_rows (u ∷ us) = None ∷ (some_rows (rows_in 0 u.entries) ++ unit_rows us)

-- those that marks say, from a depth on
abbrev pub mark_rows : ℕ → List Mark → List (Option Row)
mark_rows d [] = []
mark_rows d (begins head ∷ ms) = None ∷ mark_rows 0 ms
mark_rows d (opens tag children ∷ ms) = Some (d, tag) ∷ mark_rows (if children then d + 1 else d) ms
mark_rows d (attribute a ∷ ms) = mark_rows d ms
mark_rows d (null ∷ ms) = mark_rows (d - 1) ms
mark_rows d (no_mark ∷ ms) = mark_rows d ms

attribute-rows : (d : ℕ) (vs ms : List Mark) (ats : List AttributeMeaning) → HasAttributes vs ats → mark_rows d (vs ++ ms) ≡ mark_rows d ms
attribute-rows d vs ms ats no_attributes = refl
attribute-rows d vs ms ats (form_first ws rest has) = attribute-rows d ws ms rest has
attribute-rows d vs ms ats (one_more a ws rest has) = attribute-rows d ws ms rest has

-- an entry's row in front
one-front : (d tag : ℕ) (xs ys : List Row) (more : List (Option Row))
    → Some (d, tag) ∷ (some_rows xs ++ (some_rows ys ++ more)) ≡ some_rows ((d, tag) ∷ (xs ++ ys)) ++ more
one-front d tag xs ys more =
    ap (λ (rs : List (Option Row)). Some (d, tag) ∷ rs)
    (sym (append_assoc (some_rows xs) (some_rows ys) more) ∙ ap (λ (rs : List (Option Row)). rs ++ more) (sym (some-append xs ys)))

children-rows : (d : ℕ) (ms : List Mark) (f : Forest) (rest : List Mark) → SpellsChildren ms f
    → mark_rows (suc d) (ms ++ rest) ≡ some_rows (rows_in (suc d) f) ++ mark_rows d rest
children-rows d ms f rest closed =
    let up : suc d - 1 ≡ d = omega arith in
    ap (λ (k : ℕ). mark_rows k rest) up
children-rows d all z rest (lone_child tag ats vs ms f has s) =
    ap (λ (xs : List Mark). Some (suc d, tag) ∷ mark_rows (suc d) xs) (append_assoc vs ms rest)
    ∙ ap (λ (rs : List (Option Row)). Some (suc d, tag) ∷ rs) (attribute-rows (suc d) vs (ms ++ rest) ats has ∙ children-rows d ms f rest s)
children-rows d all z rest (parent_child tag ats vs ks ms k f has s t) =
    let down : suc d + 1 ≡ suc (suc d) = omega arith in
    ap (λ (xs : List Mark). Some (suc d, tag) ∷ mark_rows (suc d + 1) xs) (append_assoc vs (ks ++ ms) rest ∙ ap (λ (xs : List Mark). vs ++ xs) (append_assoc ks ms rest))
    ∙ ap (λ (i : ℕ). Some (suc d, tag) ∷ mark_rows i (vs ++ (ks ++ (ms ++ rest)))) down
    ∙ ap (λ (rs : List (Option Row)). Some (suc d, tag) ∷ rs)
    (attribute-rows (suc (suc d)) vs (ks ++ (ms ++ rest)) ats has ∙ children-rows (suc d) ks k (ms ++ rest) s
    ∙ ap (λ (rs : List (Option Row)). some_rows (rows_in (suc (suc d)) k) ++ rs) (children-rows d ms f rest t))
    ∙ one-front (suc d) tag (rows_in (suc (suc d)) k) (rows_in (suc d) f) (mark_rows d rest)

forest-rows : (ms : List Mark) (f : Forest) (rest : List Mark) → Spells ms f → mark_rows 0 (ms ++ rest) ≡ some_rows (rows_in 0 f) ++ mark_rows 0 rest
forest-rows ms f rest no_marks = refl
forest-rows all f rest (padding ms g s) =
    let none : 0 - 1 ≡ 0 = omega arith in
    ap (λ (k : ℕ). mark_rows k (ms ++ rest)) none ∙ forest-rows ms g rest s
forest-rows all z rest (lone tag ats vs ms f has s) =
    ap (λ (xs : List Mark). Some (0, tag) ∷ mark_rows 0 xs) (append_assoc vs ms rest)
    ∙ ap (λ (rs : List (Option Row)). Some (0, tag) ∷ rs) (attribute-rows 0 vs (ms ++ rest) ats has ∙ forest-rows ms f rest s)
forest-rows all z rest (parent tag ats vs ks ms k f has s t) =
    let down : 0 + 1 ≡ suc 0 = omega arith in
    ap (λ (xs : List Mark). Some (0, tag) ∷ mark_rows (0 + 1) xs) (append_assoc vs (ks ++ ms) rest ∙ ap (λ (xs : List Mark). vs ++ xs) (append_assoc ks ms rest))
    ∙ ap (λ (i : ℕ). Some (0, tag) ∷ mark_rows i (vs ++ (ks ++ (ms ++ rest)))) down
    ∙ ap (λ (rs : List (Option Row)). Some (0, tag) ∷ rs)
    (attribute-rows (suc 0) vs (ks ++ (ms ++ rest)) ats has ∙ children-rows 0 ks k (ms ++ rest) s
    ∙ ap (λ (rs : List (Option Row)). some_rows (rows_in (suc 0) k) ++ rs) (forest-rows ms f rest t))
    ∙ one-front 0 tag (rows_in (suc 0) k) (rows_in 0 f) (mark_rows 0 rest)

-- units
marks-append : (around : Around) (xs ys : List (Piece UnitState)) → marks_of around (xs ++ ys) ≡ marks_of around xs ++ marks_of around ys
marks-append around [] ys = refl
marks-append around (x ∷ xs) ys = ap (λ (ms : List Mark). mark_of around x ∷ ms) (marks-append around xs ys)

pub spelled-rows : (around : Around) (section d : ℕ) (xs : List (Piece UnitState)) (us : List UnitMeaning) → SpelledUnits around section xs us
    → mark_rows d (marks_of around xs) ≡ unit_rows us
spelled-rows around section d xs us no_units = refl
spelled-rows around section d all vs (more_units x xs rest head f us mark spells s) =
    ap (λ (m : Mark). mark_rows d (m ∷ marks_of around (xs ++ rest))) mark
    ∙ ap (λ (ms : List Mark). None ∷ mark_rows 0 ms) (marks-append around xs rest)
    ∙ ap (λ (rs : List (Option Row)). None ∷ rs) (forest-rows (marks_of around xs) f (marks_of around rest) spells)
    ∙ ap (λ (rs : List (Option Row)). None ∷ (some_rows (rows_in 0 f) ++ rs)) (spelled-rows around section 0 rest us s)

-- those of a piece
abbrev pub entry_row : ℕ → Option Abbreviation → List (Option Row)
entry_row d None = []
entry_row d (Some a) = Some (d, a.tag) ∷ []

abbrev pub mode_rows : Mode → UnitState → List Cell → List (Option Row)
mode_rows at_header s p = None ∷ []
mode_rows at_code s p = if code_value p == 0 then [] else entry_row s.depth (abbreviation_of s.table (code_value p))
mode_rows m s p = []

abbrev pub piece_rows : Piece UnitState → List (Option Row)
piece_rows x = mode_rows x.state.mode x.state x.cells

-- how deep the next state is
between-depth : (s : UnitState) (p n d : ℕ) → (between s p n d).depth ≡ d
unfolding between
between-depth s p n d = by_end (p == s.header.end)
  where
    by_depth : (t : Bool) → (d == 0) ≡ t → (if t then before_unit s.section s.kind s.whole p (s.unit + 1) else in_unit s p n d stuck).depth ≡ d
    by_depth true is = sym (eqb-true d 0 is)
    by_depth false is = refl

    by_end : (t : Bool) → (if t then (if d == 0 then before_unit s.section s.kind s.whole p (s.unit + 1) else in_unit s p n d stuck) else in_unit s p n d at_code).depth ≡ d
    by_end true = by_depth (d == 0) refl
    by_end false = refl

inside-depth : (s : UnitState) (p n d number tag : ℕ) (xs : List Spec) → (inside s p n d number tag xs).depth ≡ d
inside-depth s p n d number tag [] = between-depth s p n d
inside-depth s p n d number tag (x ∷ xs) = refl

-- a piece in front of others
header-leads : (base : UnitBase) (around : Around) (s : UnitState) (p : List Cell) (place : ℕ) (h : UnitHeader) (ms : List Mark) (o : Option UnitHeader) → o ≡ Some h
    → (None ∷ []) ++ mark_rows (after_header base s place o).depth ms ≡ mark_rows s.depth (head_mark around.lasting o ∷ ms)
header-leads base around s p place h ms None e = absurd cc
header-leads base around s p place h ms (Some g) e = ap (λ (d : ℕ). None ∷ mark_rows d ms) (between-depth (headed base s g) place 0 0)

code-leads : (base : UnitBase) (s : UnitState) (place v : ℕ) (xs : List (Piece UnitState)) (ms : List Mark) → Chain (unit_grammar base) (after_code s place v) xs
    → (if v == 0 then [] else entry_row s.depth (abbreviation_of s.table v)) ++ mark_rows (after_code s place v).depth ms ≡ mark_rows s.depth (code_mark s.table v ∷ ms)
unfolding after_code
code-leads base s place v xs ms c = by_null (v == 0) c
  where
    by_entry : (o : Option Abbreviation) → Chain (unit_grammar base) (after_entry s place o) xs
        → entry_row s.depth o ++ mark_rows (after_entry s place o).depth ms ≡ mark_rows s.depth (entry_mark o ∷ ms)
    by_entry None c = absurd (stuck-none base (in_unit s place s.entry s.depth stuck) xs refl c)
    by_entry (Some a) c = ap (λ (d : ℕ). Some (s.depth, a.tag) ∷ mark_rows d ms) (inside-depth s place (s.entry + 1) (depth_behind a s.depth) s.entry a.tag a.specs)

    by_null : (b : Bool) → Chain (unit_grammar base) (if b then between s place s.entry (s.depth - 1) else after_entry s place (abbreviation_of s.table v)) xs
        → (if b then [] else entry_row s.depth (abbreviation_of s.table v))
        ++ mark_rows (if b then between s place s.entry (s.depth - 1) else after_entry s place (abbreviation_of s.table v)).depth ms
        ≡ mark_rows s.depth ((if b then null else entry_mark (abbreviation_of s.table v)) ∷ ms)
    by_null true c = ap (λ (d : ℕ). mark_rows d ms) (between-depth s place s.entry (s.depth - 1))
    by_null false c = by_entry (abbreviation_of s.table v) c

-- the mark of a value says no row
value-mark-rows : (k : ValueKind) (around : Around) (s : UnitState) (n tag : ℕ) (x : Spec) (p : List Cell) (d : ℕ) (ms : List Mark)
    → mark_rows d (value_mark k around s n tag x p ∷ ms) ≡ mark_rows d ms
value-mark-rows form_in_front around s n tag x p d ms = refl
value-mark-rows k around s n tag x p d ms = refl

value-leads : (around : Around) (s : UnitState) (place form n tag : ℕ) (x : Spec) (xs : List Spec) (p : List Cell) (ms : List Mark) (k : ValueKind)
    → mark_rows (after_value k s place form n tag x xs).depth ms ≡ mark_rows s.depth (value_mark k around s n tag x p ∷ ms)
value-leads around s place form n tag x xs p ms k = by_front (is_front k)
  where
    by_front : (k ≡ form_in_front) ⊎ (k ≡ form_in_front → ⊥) → mark_rows (after_value k s place form n tag x xs).depth ms ≡ mark_rows s.depth (value_mark k around s n tag x p ∷ ms)
    by_front (inl front) =
        ap (λ (j : ValueKind). mark_rows (after_value j s place form n tag x xs).depth ms) front ∙ sym (value-mark-rows k around s n tag x p s.depth ms)
    by_front (inr other) =
        ap (λ (t : UnitState). mark_rows t.depth ms) (after-own k s place form n tag x xs other)
        ∙ ap (λ (d : ℕ). mark_rows d ms) (inside-depth s place s.entry s.depth n tag xs) ∙ sym (value-mark-rows k around s n tag x p s.depth ms)

piece-leads : (m : Mode) (base : UnitBase) (around : Around) (s : UnitState) (p : List Cell) (xs : List (Piece UnitState)) (ms : List Mark) → around.lasting.base ≡ base
    → FitsMode m base s p → Chain (unit_grammar base) (past m base s p) xs
    → mode_rows m s p ++ mark_rows (past m base s p).depth ms ≡ mark_rows s.depth (mark_by m around s p ∷ ms)
piece-leads at_header base around s p xs ms e fits c =
    header-leads base around s p (s.place + length p) fits.header ms (piece_header base s p) fits.is
    ∙ ap (λ (b : UnitBase). mark_rows s.depth (head_mark around.lasting (piece_header b s p) ∷ ms)) (sym e)
piece-leads at_code base around s p xs ms e fits c = code-leads base s (s.place + length p) (code_value p) xs ms c
piece-leads (at_values n tag []) base around s p xs ms e fits c = absurd fits
piece-leads (at_values n tag (x ∷ specs)) base around s p xs ms e fits c =
    value-leads around s (s.place + length p) (code_value p) n tag x specs p ms (kind_in s.header.params x.form)
piece-leads (at_chosen n tag start x specs) base around s p xs ms e fits c =
    ap (λ (d : ℕ). mark_rows d ms) (inside-depth s (s.place + length p) s.entry s.depth n tag specs)
    ∙ sym (value-mark-rows (kind_in s.header.params x.form) around s n tag x p s.depth ms)
piece-leads stuck base around s p xs ms e fits c = absurd fits

-- what pieces say is what their marks say
pub chain-rows : (base : UnitBase) (around : Around) (s : UnitState) (xs : List (Piece UnitState)) → around.lasting.base ≡ base → Chain (unit_grammar base) s xs
    → all_of piece_rows xs ≡ mark_rows s.depth (marks_of around xs)
chain-rows base around s [] e c = refl
chain-rows base around s (x ∷ xs) e c =
    ap (λ (rs : List (Option Row)). piece_rows x ++ rs) (chain-rows base around (past x.state.mode base x.state x.cells) xs e c.2)
    ∙ piece-leads x.state.mode base around x.state x.cells xs (marks_of around xs) e c.1 c.2
    ∙ ap (λ (t : UnitState). mark_rows t.depth (mark_of around x ∷ marks_of around xs)) c.0
