-- How many units begin and how many entries open among the marks of pieces: as many as there are in the units that the marks spell.
use Rattle.std.proofs.Common.{◌≡◌, ℕ, ◌+◌, true, false, List, [], ◌∷◌, ◌++◌, length, refl, ap, ◌∙◌, arith, length-append}
use Rattle.dw_base.specs.DebugData.{Around}
use Rattle.dw_base.specs.Forests.{AttributeMeaning, Forest, no_entries, entry, Mark, begins, opens, attribute, null, no_mark, HasAttributes, no_attributes, form_first, one_more, Spells, no_marks, padding, lone, parent, SpellsChildren, closed, lone_child, parent_child}
use Rattle.dw_base.specs.Pieces.{Piece}
use Rattle.dw_base.specs.Readings.{Readings}
use Rattle.dw_base.specs.UnitMeanings.{UnitMeaning, mark_of}
use Rattle.dw_base.specs.UnitStates.{UnitState}
use Rattle.dw_meaning.specs.PieceRuns.{all_of}
use Rattle.dw_meaning.specs.SpelledUnits.{marks_of, SpelledUnits, no_units, more_units, AllSpelled, no_sections, more_sections}
use Rattle.dw_meaning.proofs.RunLaws.{all-append}
use Rattle.gen_laws.specs.Counts.{entries_of, entries_in}
use Rattle.dw_attrs.proofs.AllRunLaws.{all_pieces}

-- what a mark gives to a list: `b` where a unit begins, `o` where an entry opens
abbrev pub given : List ℕ → List ℕ → Mark → List ℕ
given b o (begins head) = b
given b o (opens tag children) = o
given b o (attribute a) = []
given b o null = []
given b o no_mark = []

-- and what a piece gives
abbrev pub piece_given : List ℕ → List ℕ → Around → Piece UnitState → List ℕ
piece_given b o around x = given b o (mark_of around x)

-- marks one after another
abbrev marks_given : List ℕ → List ℕ → List Mark → List ℕ
marks_given b o [] = []
marks_given b o (m ∷ ms) = given b o m ++ marks_given b o ms

marks-size : (b o : List ℕ) (m : Mark) (ms : List Mark) → length (marks_given b o (m ∷ ms)) ≡ length (given b o m) + length (marks_given b o ms)
marks-size b o m ms = length-append (given b o m) (marks_given b o ms)

marks-both : (b o : List ℕ) (ms ns : List Mark) → length (marks_given b o (ms ++ ns)) ≡ length (marks_given b o ms) + length (marks_given b o ns)
marks-both b o [] ns = omega arith
marks-both b o (m ∷ ms) ns = omega (arith, marks-size b o m (ms ++ ns), marks-size b o m ms, marks-both b o ms ns)

pieces-given : (b o : List ℕ) (around : Around) (xs : List (Piece UnitState)) → all_of (piece_given b o around) xs ≡ marks_given b o (marks_of around xs)
pieces-given b o around [] = refl
pieces-given b o around (x ∷ xs) = ap (λ (t : List ℕ). given b o (mark_of around x) ++ t) (pieces-given b o around xs)

-- so much for each entry of a forest, and for each unit
abbrev pub forest_sum : ℕ → Forest → ℕ
forest_sum n no_entries = 0
forest_sum n (entry tag attributes children siblings) = n + forest_sum n children + forest_sum n siblings

abbrev pub units_sum : ℕ → ℕ → List UnitMeaning → ℕ
units_sum m n [] = 0
units_sum m n (u ∷ us) = m + forest_sum n u.entries + units_sum m n us

-- attributes give nothing
attributes-none : (b o : List ℕ) (vs : List Mark) (attributes : List AttributeMeaning) → HasAttributes vs attributes → length (marks_given b o vs) ≡ 0
attributes-none b o vs attributes no_attributes = refl
attributes-none b o vs attributes (form_first ms rest h) = attributes-none b o ms rest h
attributes-none b o vs attributes (one_more a ms rest h) = attributes-none b o ms rest h

children-sum : (b o : List ℕ) (ks : List Mark) (k : Forest) → SpellsChildren ks k → length (marks_given b o ks) ≡ forest_sum (length o) k
children-sum b o ks k closed = refl
children-sum b o ks k (lone_child tag attributes vs ms f h rest) =
    omega (arith, marks-size b o (opens tag false) (vs ++ ms), marks-both b o vs ms, attributes-none b o vs attributes h, children-sum b o ms f rest)
children-sum b o ks k (parent_child tag attributes vs cs ms c f h own rest) =
    omega (
      arith,
      marks-size b o (opens tag true) (vs ++ (cs ++ ms)),
      marks-both b o vs (cs ++ ms),
      marks-both b o cs ms,
      attributes-none b o vs attributes h,
      children-sum b o cs c own,
      children-sum b o ms f rest,
    )

forest-sum : (b o : List ℕ) (ms : List Mark) (f : Forest) → Spells ms f → length (marks_given b o ms) ≡ forest_sum (length o) f
forest-sum b o ms f no_marks = refl
forest-sum b o ms f (padding ns g h) = forest-sum b o ns g h
forest-sum b o ms f (lone tag attributes vs ns g h rest) =
    omega (arith, marks-size b o (opens tag false) (vs ++ ns), marks-both b o vs ns, attributes-none b o vs attributes h, forest-sum b o ns g rest)
forest-sum b o ms f (parent tag attributes vs ks ns k g h own rest) =
    omega (
      arith,
      marks-size b o (opens tag true) (vs ++ (ks ++ ns)),
      marks-both b o vs (ks ++ ns),
      marks-both b o ks ns,
      attributes-none b o vs attributes h,
      children-sum b o ks k own,
      forest-sum b o ns g rest,
    )

-- the units of a section
spelled-sum : (b o : List ℕ) (around : Around) (section : ℕ) (xs : List (Piece UnitState)) (units : List UnitMeaning) → SpelledUnits around section xs units
    → length (all_of (piece_given b o around) xs) ≡ units_sum (length b) (length o) units
spelled-sum b o around section xs units no_units = refl
spelled-sum b o around section all units (more_units x xs rest head f behind mark spells others) =
    let first : length (piece_given b o around x) ≡ length b = ap (λ (m : Mark). length (given b o m)) mark in
    let whole = length-append (piece_given b o around x) (all_of (piece_given b o around) (xs ++ rest)) in
    let parts = ap length (all-append (piece_given b o around) xs rest) in
    let both = length-append (all_of (piece_given b o around) xs) (all_of (piece_given b o around) rest) in
    let own = ap length (pieces-given b o around xs) in
    omega (arith, first, whole, parts, both, own, forest-sum b o (marks_of around xs) f spells, spelled-sum b o around section rest behind others)

sum-both : (m n : ℕ) (us vs : List UnitMeaning) → units_sum m n (us ++ vs) ≡ units_sum m n us + units_sum m n vs
sum-both m n [] vs = omega arith
sum-both m n (u ∷ us) vs = omega (arith, sum-both m n us vs)

-- and of all sections
pub all-sum : (b o : List ℕ) (around : Around) (rs : Readings) (units : List UnitMeaning) → AllSpelled around rs units
    → length (all_pieces (λ k. piece_given b o around) rs) ≡ units_sum (length b) (length o) units
all-sum b o around rs units no_sections = refl
all-sum b o around all units (more_sections r rs own others spelled rest) =
    let both = length-append (all_of (piece_given b o around) r.pieces) (all_pieces (λ k. piece_given b o around) rs) in
    omega (arith, both, spelled-sum b o around r.number r.pieces own spelled, all-sum b o around rs others rest, sum-both (length b) (length o) own others)

-- one for each unit, or one for each entry
forest-none : (f : Forest) → forest_sum 0 f ≡ 0
forest-none no_entries = refl
forest-none (entry tag attributes children siblings) = omega (arith, forest-none children, forest-none siblings)

pub units-alone : (us : List UnitMeaning) → units_sum 1 0 us ≡ length us
units-alone [] = refl
units-alone (u ∷ us) = omega (arith, forest-none u.entries, units-alone us)

forest-entries : (f : Forest) → forest_sum 1 f ≡ entries_of f
forest-entries no_entries = refl
forest-entries (entry tag attributes children siblings) = omega (arith, forest-entries children, forest-entries siblings)

pub entries-alone : (us : List UnitMeaning) → units_sum 0 1 us ≡ entries_in us
entries-alone [] = refl
entries-alone (u ∷ us) = omega (arith, forest-entries u.entries, entries-alone us)
