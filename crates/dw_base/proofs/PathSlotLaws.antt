-- The slots that stand with a path in a forest are those of its marks, in order.
use Rattle.std.proofs.Common.{◌≡◌, ℕ, List, [], ◌∷◌, ◌++◌, refl, sym, ap, ◌∙◌, append_assoc}
use Rattle.dw_base.specs.Forests.{AttributeMeaning, Forest, Mark, attribute, HasAttributes, no_attributes, form_first, one_more, Spells, no_marks, padding, lone, parent, SpellsChildren, closed, lone_child, parent_child}
use Rattle.dw_base.specs.MappedSlots.{path_slot, path_slots_of, forest_slots}

-- the slots of paths among marks
abbrev pub mark_slots : Mark → List ℕ
mark_slots (attribute a) = path_slot a.value
mark_slots m = []

abbrev pub marks_slots : List Mark → List ℕ
marks_slots [] = []
marks_slots (m ∷ ms) = mark_slots m ++ marks_slots ms

pub marks_slots-append : (xs ys : List Mark) → marks_slots (xs ++ ys) ≡ marks_slots xs ++ marks_slots ys
marks_slots-append [] ys = refl
marks_slots-append (x ∷ xs) ys =
    ap (λ (ns : List ℕ). mark_slots x ++ ns) (marks_slots-append xs ys) ∙ sym (append_assoc (mark_slots x) (marks_slots xs) (marks_slots ys))

attributes-slots : (vs : List Mark) (attributes : List AttributeMeaning) → HasAttributes vs attributes → path_slots_of attributes ≡ marks_slots vs
attributes-slots vs attributes no_attributes = refl
attributes-slots vs attributes (form_first ms rest h) = attributes-slots ms rest h
attributes-slots vs attributes (one_more a ms rest h) = ap (λ (ns : List ℕ). path_slot a.value ++ ns) (attributes-slots ms rest h)

-- an entry's attributes, and what follows
after-attributes : (vs ms : List Mark) (attributes : List AttributeMeaning) (rest : List ℕ) → HasAttributes vs attributes → rest ≡ marks_slots ms
    → path_slots_of attributes ++ rest ≡ marks_slots (vs ++ ms)
after-attributes vs ms attributes rest h e =
    ap (λ (ns : List ℕ). ns ++ rest) (attributes-slots vs attributes h) ∙ ap (λ (ns : List ℕ). marks_slots vs ++ ns) e ∙ sym (marks_slots-append vs ms)

both : (ks ms : List Mark) (xs ys : List ℕ) → xs ≡ marks_slots ks → ys ≡ marks_slots ms → xs ++ ys ≡ marks_slots (ks ++ ms)
both ks ms xs ys e f = ap (λ (ns : List ℕ). ns ++ ys) e ∙ ap (λ (ns : List ℕ). marks_slots ks ++ ns) f ∙ sym (marks_slots-append ks ms)

children-slots : (ks : List Mark) (k : Forest) → SpellsChildren ks k → forest_slots k ≡ marks_slots ks
children-slots ks k closed = refl
children-slots ks k (lone_child tag attributes vs ms f h g) =
    after-attributes vs ms attributes (forest_slots f) h (children-slots ms f g)
children-slots ks k (parent_child tag attributes vs qs ms q f h c g) =
    after-attributes vs (qs ++ ms) attributes (forest_slots q ++ forest_slots f) h
    (both qs ms (forest_slots q) (forest_slots f) (children-slots qs q c) (children-slots ms f g))

pub forest-slots : (ms : List Mark) (f : Forest) → Spells ms f → forest_slots f ≡ marks_slots ms
forest-slots ms f no_marks = refl
forest-slots ms f (padding rest g h) = forest-slots rest g h
forest-slots ms f (lone tag attributes vs rest g h s) =
    after-attributes vs rest attributes (forest_slots g) h (forest-slots rest g s)
forest-slots ms f (parent tag attributes vs ks rest k g h c s) =
    after-attributes vs (ks ++ rest) attributes (forest_slots k ++ forest_slots g) h
    (both ks rest (forest_slots k) (forest_slots g) (children-slots ks k c) (forest-slots rest g s))
