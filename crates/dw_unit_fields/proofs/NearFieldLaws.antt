-- Lists of fields in two parts, and items that are put behind others.
use Rattle.std.proofs.Common.{Bool, true, ◌≡◌, ℕ, suc, ◌==◌, ◌+◌, ◌<◌, ◌≤◌, List, [], ◌∷◌, ◌++◌, drop, drop-cons, get_or, length, refl, sym, ap, ◌∙◌, append-nil, append_assoc, arith}
use Rattle.std.proofs.lemmas.Bool.{ne_eqb, true≢false}
use Rattle.std.proofs.lemmas.List.{drop_all}
use Rattle.dw_offsets.specs.declared.fields.OffsetField.{OffsetField}

-- one more in the second part, or in the first where the second is empty
pub behind-others : (near others new : List OffsetField) (f : OffsetField) → new ≡ others ++ f ∷ [] → near ++ new ≡ (near ++ others) ++ f ∷ []
behind-others near others new f is = ap (λ (l : List OffsetField). near ++ l) is ∙ sym (append_assoc near others (f ∷ []))

pub behind-near : (near others slice new : List OffsetField) (f x : OffsetField) → new ≡ near ++ x ∷ [] → x ≡ f → slice ≡ others → slice ≡ []
    → new ++ others ≡ (near ++ others) ++ f ∷ []
behind-near near others slice new f x is same lent none =
    let empty : others ≡ [] = sym lent ∙ none in
    ap (λ (l : List OffsetField). new ++ l) empty ∙ append-nil new ∙ is ∙ ap (λ (y : OffsetField). near ++ y ∷ []) same
    ∙ ap (λ (l : List OffsetField). l ++ f ∷ []) (sym (append-nil near) ∙ ap (λ (l : List OffsetField). near ++ l) (sym empty))

pub ruleset push_rules = (behind-others, behind-near)

-- a list without items
none-long : (fs : List OffsetField) → (length fs == 0) ≡ true → fs ≡ []
none-long [] e = refl
none-long (f ∷ fs) e = absurd (true≢false (sym e ∙ ne_eqb (length (f ∷ fs)) 0 (λ (same : length (f ∷ fs) ≡ 0). omega (arith, same))))

pub none-fields : (fs : List OffsetField) (t : Bool) → t ≡ (length fs == 0) → t ≡ true → fs ≡ []
none-fields fs t is holds = none-long fs (sym is ∙ holds)

pub ruleset none_rules = (none-fields)

-- both parts, one behind the other
pub both-parts : (near others none first all : List OffsetField) → all ≡ first ++ others → first ≡ none ++ near → none ≡ [] → all ≡ near ++ others
both-parts near others none first all is more empty =
    is ∙ ap (λ (l : List OffsetField). l ++ others) (more ∙ ap (λ (l : List OffsetField). l ++ near) empty)

pub ruleset both_rules = (both-parts)

-- items that are put behind others, one after another
pub items-more : {X : Type 0} (all : List X) (y : X) (i : ℕ) (x : X) (old new before : List X) → i < length all → y ≡ get_or all i y → x ≡ y → old ++ drop i all ≡ before
    → new ≡ old ++ x ∷ [] → new ++ drop (i + 1) all ≡ before
items-more {X} all y i x old new before lt is same so_far pushed =
    let next : suc i ≡ i + 1 = omega arith in
    ap (λ (l : List X). l ++ drop (i + 1) all) pushed ∙ append_assoc old (x ∷ []) (drop (i + 1) all)
    ∙ ap (λ (z : X). old ++ z ∷ drop (i + 1) all) (same ∙ is) ∙ ap (λ (n : ℕ). old ++ get_or all i y ∷ drop n all) (sym next)
    ∙ ap (λ (l : List X). old ++ l) (sym (drop-cons all i y lt)) ∙ so_far

pub items-over : {X : Type 0} (all : List X) (i : ℕ) (new before : List X) → new ++ drop i all ≡ before → length all ≤ i → new ≡ before
items-over {X} all i new before so_far past = sym (append-nil new) ∙ ap (λ (l : List X). new ++ l) (sym (drop_all i all past)) ∙ so_far

pub ruleset item_rules = (items-more, items-over)
