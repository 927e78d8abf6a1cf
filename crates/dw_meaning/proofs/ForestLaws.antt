-- The forest that is found from the last mark to the first is the one that the grammar spells.
use Rattle.std.proofs.Common.{true, false, ◌≡◌, ℕ, List, [], ◌∷◌, ◌++◌, refl, sym, ap, ◌∙◌}
use Rattle.dw_base.specs.DebugData.{Around}
use Rattle.dw_base.specs.Forests.{AttributeMeaning, Forest, no_entries, entry, Mark, begins, opens, attribute, HasAttributes, no_attributes, form_first, one_more, Spells, no_marks, padding, lone, parent, SpellsChildren, closed, lone_child, parent_child, all_entries, innermost, outer, with_entry}
use Rattle.dw_base.specs.Pieces.{Piece}
use Rattle.dw_meaning.specs.SpelledUnits.{marks_of, SpelledUnits, no_units, more_units}
use Rattle.dw_base.specs.UnitMeanings.{UnitMeaning, Following, with_mark, following, unit_meanings, mark_of}
use Rattle.dw_base.specs.UnitStates.{UnitState}

-- what marks are that stand before something
abbrev before : ℕ → List Mark → Following → Following
before section [] r = r
before section (m ∷ ms) r = with_mark section m (before section ms r)

before-append : (section : ℕ) (ms ns : List Mark) (r : Following) → before section (ms ++ ns) r ≡ before section ms (before section ns r)
before-append section [] ns r = refl
before-append section (m ∷ ms) ns r = ap (with_mark section m) (before-append section ms ns r)

-- what follows a list of levels
abbrev at_levels : Following → List AttributeMeaning → List Forest → Following
at_levels r attributes levels = record { attributes = attributes; levels = levels; units = r.units }

-- the attributes of an entry
attributes-before : (section : ℕ) (vs : List Mark) (attributes : List AttributeMeaning) (r : Following) → HasAttributes vs attributes → r.attributes ≡ []
    → before section vs r ≡ at_levels r attributes r.levels
attributes-before section vs attributes r no_attributes none = ap (λ (x : List AttributeMeaning). at_levels r x r.levels) none
attributes-before section vs attributes r (form_first ms rest h) none = attributes-before section ms rest r h none
attributes-before section vs attributes r (one_more a ms rest h) none = ap (with_mark section (attribute a)) (attributes-before section ms rest r h none)

-- an entry without children before its siblings
lone-before : (section tag : ℕ) (vs : List Mark) (attributes : List AttributeMeaning) (r : Following) → HasAttributes vs attributes → r.attributes ≡ []
    → before section (opens tag false ∷ vs) r ≡ at_levels r [] (with_entry tag false attributes r.levels)
lone-before section tag vs attributes r h none = ap (with_mark section (opens tag false)) (attributes-before section vs attributes r h none)

parent-before : (section tag : ℕ) (vs : List Mark) (attributes : List AttributeMeaning) (r : Following) → HasAttributes vs attributes → r.attributes ≡ []
    → before section (opens tag true ∷ vs) r ≡ at_levels r [] (with_entry tag true attributes r.levels)
parent-before section tag vs attributes r h none = ap (with_mark section (opens tag true)) (attributes-before section vs attributes r h none)

-- a list of children before something
children-before : (section : ℕ) (ks : List Mark) (k : Forest) (r : Following) → SpellsChildren ks k → before section ks r ≡ at_levels r [] (k ∷ r.levels)
children-before section ks k r closed = refl
children-before section ks k r (lone_child tag attributes vs ms f h rest) =
    let behind : before section ms r ≡ at_levels r [] (f ∷ r.levels) = children-before section ms f r rest in
    ap (with_mark section (opens tag false)) (before-append section vs ms r)
    ∙ ap (λ (x : Following). before section (opens tag false ∷ vs) x) behind
    ∙ lone-before section tag vs attributes (at_levels r [] (f ∷ r.levels)) h refl
children-before section ks k r (parent_child tag attributes vs cs ms c f h own rest) =
    let behind : before section ms r ≡ at_levels r [] (f ∷ r.levels) = children-before section ms f r rest in
    let inner : before section cs (at_levels r [] (f ∷ r.levels)) ≡ at_levels r [] (c ∷ f ∷ r.levels) = children-before section cs c (at_levels r [] (f ∷ r.levels)) own in
    ap (with_mark section (opens tag true)) (before-append section vs (cs ++ ms) r)
    ∙ ap (λ (x : Following). before section (opens tag true ∷ vs) x) (before-append section cs ms r ∙ ap (before section cs) behind ∙ inner)
    ∙ parent-before section tag vs attributes (at_levels r [] (c ∷ f ∷ r.levels)) h refl

-- an entry in front of levels is in front of all their entries
entry-front : (tag : ℕ) (attributes : List AttributeMeaning) (k : Forest) (levels : List Forest)
    → all_entries (entry tag attributes k (innermost levels) ∷ outer levels) ≡ entry tag attributes k (all_entries levels)
entry-front tag attributes k [] = refl
entry-front tag attributes k (f ∷ fs) = refl

-- marks of a forest, before a unit or the section's end: no attributes are left over, and all entries are the forest
record ForestBefore (r s : Following) (f : Forest) : Type 0 where
  attributes : r.attributes ≡ []
  entries : all_entries r.levels ≡ f
  units : r.units ≡ s.units

forest-before : (section : ℕ) (ms : List Mark) (f : Forest) (r : Following) → Spells ms f → r.attributes ≡ [] → r.levels ≡ []
    → ForestBefore (before section ms r) r f
forest-before section ms f r no_marks none empty = record { attributes = none; entries = ap all_entries empty; units = refl }
forest-before section ms f r (padding ns g h) none empty =
    let rest : ForestBefore (before section ns r) r g = forest-before section ns g r h none empty in
    record { attributes = refl; entries = rest.entries; units = rest.units }
forest-before section ms f r (lone tag attributes vs ns g h rest_spells) none empty =
    let rest : ForestBefore (before section ns r) r g = forest-before section ns g r rest_spells none empty in
    let all : before section (opens tag false ∷ vs ++ ns) r ≡ at_levels (before section ns r) [] (with_entry tag false attributes (before section ns r).levels) =
    ap (with_mark section (opens tag false)) (before-append section vs ns r) ∙ lone-before section tag vs attributes (before section ns r) h rest.attributes in
    record {
      attributes = ap (λ (x : Following). x.attributes) all;
      entries = ap (λ (x : Following). all_entries x.levels) all ∙ entry-front tag attributes no_entries (before section ns r).levels
          ∙ ap (entry tag attributes no_entries) rest.entries;
      units = ap (λ (x : Following). x.units) all ∙ rest.units;
    }
forest-before section ms f r (parent tag attributes vs ks ns k g h own rest_spells) none empty =
    let rest : ForestBefore (before section ns r) r g = forest-before section ns g r rest_spells none empty in
    let inner : before section ks (before section ns r) ≡ at_levels (before section ns r) [] (k ∷ (before section ns r).levels) =
    children-before section ks k (before section ns r) own in
    let all : before section (opens tag true ∷ vs ++ (ks ++ ns)) r ≡ at_levels (before section ns r) [] (with_entry tag true attributes (k ∷ (before section ns r).levels)) =
    ap (with_mark section (opens tag true)) (before-append section vs (ks ++ ns) r)
    ∙ ap (λ (x : Following). before section (opens tag true ∷ vs) x) (before-append section ks ns r ∙ inner)
    ∙ parent-before section tag vs attributes (at_levels (before section ns r) [] (k ∷ (before section ns r).levels)) h refl in
    record {
      attributes = ap (λ (x : Following). x.attributes) all;
      entries = ap (λ (x : Following). all_entries x.levels) all ∙ entry-front tag attributes k (before section ns r).levels
          ∙ ap (entry tag attributes k) rest.entries;
      units = ap (λ (x : Following). x.units) all ∙ rest.units;
    }

-- pieces by their marks
following-before : (section : ℕ) (around : Around) (xs ys : List (Piece UnitState))
    → following section around (xs ++ ys) ≡ before section (marks_of around xs) (following section around ys)
following-before section around [] ys = refl
following-before section around (x ∷ xs) ys = ap (with_mark section (mark_of around x)) (following-before section around xs ys)

-- units that are spelled are the units that are found; and no entry is left over in front of them
record Found (r : Following) (units : List UnitMeaning) : Type 0 where
  attributes : r.attributes ≡ []
  levels : r.levels ≡ []
  found : r.units ≡ units

spelled-all : (around : Around) (section : ℕ) (xs : List (Piece UnitState)) (units : List UnitMeaning) → SpelledUnits around section xs units
    → Found (following section around xs) units
spelled-all around section xs units no_units = record { attributes = refl; levels = refl; found = refl }
spelled-all around section all units (more_units x xs rest head f behind mark spells others) =
    let r : Following = following section around rest in
    let tail : Found (following section around rest) behind = spelled-all around section rest behind others in
    let forest : ForestBefore (before section (marks_of around xs) (following section around rest)) (following section around rest) f =
    forest-before section (marks_of around xs) f (following section around rest) spells tail.attributes tail.levels in
    let whole : following section around (x ∷ xs ++ rest) ≡ with_mark section (begins head) (before section (marks_of around xs) (following section around rest)) =
    ap (λ (m : Mark). with_mark section m (following section around (xs ++ rest))) mark
    ∙ ap (with_mark section (begins head)) (following-before section around xs rest) in
    record {
      attributes = ap (λ (y : Following). y.attributes) whole;
      levels = ap (λ (y : Following). y.levels) whole;
      found =
          ap (λ (y : Following). y.units) whole
          ∙ ap (λ (g : Forest). record { section = section; head = head; entries = g } ∷ (before section (marks_of around xs) (following section around rest)).units) forest.entries
          ∙ ap (λ (us : List UnitMeaning). record { section = section; head = head; entries = f } ∷ us) (forest.units ∙ tail.found);
    }

-- so units that the grammar spells are what the pieces mean
pub spelled-units : (around : Around) (section : ℕ) (xs : List (Piece UnitState)) (units : List UnitMeaning) → SpelledUnits around section xs units
    → unit_meanings section around xs ≡ units
spelled-units around section xs units h = (spelled-all around section xs units h).found

-- and a forest that marks spell is one
pub spells-one : (ms : List Mark) (f g : Forest) → Spells ms f → Spells ms g → f ≡ g
spells-one ms f g a b =
    let r : Following = record { attributes = []; levels = []; units = [] } in
    sym (forest-before 0 ms f (record { attributes = []; levels = []; units = [] }) a refl refl).entries
    ∙ (forest-before 0 ms g (record { attributes = []; levels = []; units = [] }) b refl refl).entries
