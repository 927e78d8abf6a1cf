-- Fields that are written one after another.
use Rattle.std.proofs.Common.{◌≡◌, ℕ, List, [], ◌∷◌, ◌++◌, refl, sym, ap, ◌∙◌, append_assoc, ◌+◌, ◌<◌, ◌≤◌, length, drop, get_or, map, drop-cons, add-one}
use Rattle.std.specs.List.{flat_map}
use Rattle.std.specs.Global.{Vec}
use Rattle.std.proofs.lemmas.List.{append-nil, drop_all}
use Rattle.work_texts.specs.Lists.{bytes_of}
use Rattle.dw_base.proofs.TextLaws.{laid_texts-append}
use Rattle.work_texts.specs.Fields.{Field, text_of}

-- what is written so far, and some fields more
pub put-more : (out new : List ℕ) (start : List ℕ) (fs gs : List Field) → out ≡ start ++ text_of fs → new ≡ out ++ text_of gs → new ≡ start ++ text_of (fs ++ gs)
put-more out new start fs gs e f = f ∙ ap (λ (t : List ℕ). t ++ text_of gs) e ∙ append_assoc start (text_of fs) (text_of gs) ∙ ap (λ (t : List ℕ). start ++ t) (sym (laid_texts-append fs gs))

-- one item more, of those that are left
pub put-item : {A : Type 0} (f : A → List Field) (xs : List A) (i : ℕ) (x : A) (out new whole : List ℕ) → i < length xs → x ≡ get_or xs i x → new ≡ out ++ text_of (f x)
    → out ++ text_of (flat_map f (drop i xs)) ≡ whole → new ++ text_of (flat_map f (drop (i + 1) xs)) ≡ whole
put-item {A} f xs i x out new whole lt is e so_far =
    let next : drop i xs ≡ x ∷ drop (i + 1) xs = drop-cons xs i x lt ∙ rw (← is, add-one) refl in
    let parts : text_of (flat_map f (drop i xs)) ≡ text_of (f x) ++ text_of (flat_map f (drop (i + 1) xs)) = ap (λ (ys : List A). text_of (flat_map f ys)) next ∙ laid_texts-append (f x) (flat_map f (drop (i + 1) xs)) in
    ap (λ (t : List ℕ). t ++ text_of (flat_map f (drop (i + 1) xs))) e ∙ append_assoc out (text_of (f x)) (text_of (flat_map f (drop (i + 1) xs))) ∙ ap (λ (t : List ℕ). out ++ t) (sym parts) ∙ so_far

-- none is left
pub put-done : {A : Type 0} (f : A → List Field) (xs : List A) (i : ℕ) (out whole : List ℕ) → length xs ≤ i → out ++ text_of (flat_map f (drop i xs)) ≡ whole → out ≡ whole
put-done {A} f xs i out whole le so_far =
    let none : drop i xs ≡ [] = drop_all i xs le in
    sym (append-nil out) ∙ ap (λ (ys : List A). out ++ text_of (flat_map f ys)) (sym none) ∙ so_far

pub lone_names : (vs : List (Vec ℕ)) → flat_map (λ v. bytes_of v ∷ []) vs ≡ map bytes_of vs
lone_names [] = refl
lone_names (v ∷ vs) = ap (λ (fs : List Field). bytes_of v ∷ fs) (lone_names vs)

pub regroup : (a b c d : List Field) → ((a ++ b) ++ c) ++ d ≡ a ++ (b ++ (c ++ d))
regroup a b c d = append_assoc (a ++ b) c d ∙ append_assoc a b (c ++ d)

pub ruleset write_rules = (put-more)

pub ruleset loop_rules = (put-item, put-done, lone_names)
