-- Which files are left: searches among sections, and the rules in their order.
use Rattle.std.proofs.Common.{Bool, true, false, ◌≡◌, ℕ, zero, suc, ◌+◌, ◌-◌, ◌<◌, ◌||◌, List, [], ◌∷◌, ◌++◌, sym, ap, ◌∙◌, refl, arith, add-one}
use Rattle.std.proofs.lemmas.List.Folds.{list_any_at, list_any_more}
use Rattle.std.specs.List.{list_any}
use Rattle.dw_base.specs.Elf.{section_count}
use Rattle.dw_base.specs.ElfFails.{ElfReads}
use Rattle.dw_base.specs.LayoutReads.{is_known_kind}
use Rattle.dw_base.specs.Lists.{tabulate}
use Rattle.dbg_split.specs.Droppable.{is_droppable}
use Rattle.dbg_split.specs.SplitFails.{is_link}
use Rattle.job_types.specs.declared.outcome.LeftWhy.TheVariants.{OtherType, AlreadyLinked, NothingToStrip}
use Rattle.dbg_job.specs.Leaving.{IsLeft, IsTaken, has_link, has_work, is_debug_named, some_below}
use Rattle.dbg_job.specs.Leaving.IsLeft.{other_type, linked, nothing}

-- ### Searches

pub some-start : (f : ℕ → Bool) → some_below f 0 ≡ false
some-start f = refl

or-none : (p q : Bool) → p ≡ false → q ≡ false → (p || q) ≡ false
or-none p q e g = rw (e, g) refl

or-right : (p q : Bool) → q ≡ true → (p || q) ≡ true
or-right true q e = refl
or-right false q e = e

or-left : (p q : Bool) → p ≡ true → (p || q) ≡ true
or-left p q e = rw e refl

pub some-more : (f : ℕ → Bool) (i : ℕ) (t : Bool) → t ≡ f i → t ≡ false → some_below f i ≡ false → some_below f (i + 1) ≡ false
some-more f i t is other before = ap (some_below f) (add-one i) ∙ or-none (some_below f i) (f i) before (sym is ∙ other)

some-later : (f : ℕ → Bool) (k m : ℕ) → some_below f m ≡ true → some_below f (k + m) ≡ true
some-later f zero m e = let same : 0 + m ≡ m = omega arith in ap (some_below f) same ∙ e
some-later f (suc k) m e =
    let same : suc k + m ≡ suc (k + m) = omega arith in
    ap (some_below f) same ∙ or-left (some_below f (k + m)) (f (k + m)) (some-later f k m e)

some-found : (f : ℕ → Bool) (n i : ℕ) (t : Bool) → t ≡ f i → t ≡ true → i < n → some_below f n ≡ true
some-found f n i t is passes lt =
    let size : n ≡ (n - suc i) + suc i = omega (arith, lt) in
    ap (some_below f) size ∙ some-later f (n - suc i) (suc i) (or-right (some_below f i) (f i) (sym is ∙ passes))

-- a link
pub link-found : (b : List ℕ) (i : ℕ) (t : Bool) → t ≡ is_link b i → t ≡ true → i < section_count b → true ≡ has_link b
unfolding has_link
link-found b i t is passes lt = sym (some-found (is_link b) (section_count b) i t is passes lt)

pub link-none : (b : List ℕ) (n : ℕ) → n ≡ section_count b → some_below (is_link b) n ≡ false → false ≡ has_link b
unfolding has_link
link-none b n is none = sym (ap (some_below (is_link b)) (sym is) ∙ none)

pub ruleset link_rules = (some-start, some-more, link-found, link-none)

-- a name of debug data
pub named-found : (b : List ℕ) (i : ℕ) (t : Bool) → t ≡ is_debug_named b i → t ≡ true → i < section_count b → true ≡ some_below (is_debug_named b) (section_count b)
named-found b i t is passes lt = sym (some-found (is_debug_named b) (section_count b) i t is passes lt)

pub named-none : (b : List ℕ) (n : ℕ) → n ≡ section_count b → some_below (is_debug_named b) n ≡ false → false ≡ some_below (is_debug_named b) (section_count b)
named-none b n is none = sym (ap (some_below (is_debug_named b)) (sym is) ∙ none)

pub ruleset named_rules = (some-start, some-more, named-found, named-none)

-- a droppable section
pub ruleset any_rules = (list_any_at, list_any_more)

any-behind : (xs : List Bool) (t : Bool) → list_any (λ x. x) (xs ++ t ∷ []) ≡ (list_any (λ x. x) xs || t)
any-behind [] true = refl
any-behind [] false = refl
any-behind (true ∷ xs) t = refl
any-behind (false ∷ xs) t = any-behind xs t

any-below : (f : ℕ → Bool) (n : ℕ) → list_any (λ x. x) (tabulate f n) ≡ some_below f n
any-below f zero = refl
any-below f (suc n) = any-behind (tabulate f n) (f n) ∙ ap (λ (t : Bool). t || f n) (any-below f n)

pub drops-some : (b : List ℕ) (items now : List Bool) (t : Bool) → items ≡ tabulate (is_droppable b) (section_count b) → now ≡ items → t ≡ list_any (λ x. x) now
    → t ≡ some_below (is_droppable b) (section_count b)
drops-some b items now t is same any = any ∙ ap (list_any (λ x. x)) (same ∙ is) ∙ any-below (is_droppable b) (section_count b)

pub ruleset drop_rules = (drops-some)

-- ### The rules

pub left-type : (b : List ℕ) (t : Bool) → ElfReads b → t ≡ is_known_kind b → t ≡ false → IsLeft b OtherType
left-type b t reads is other = other_type reads (sym is ∙ other)

pub left-linked : (b : List ℕ) (t u : Bool) → ElfReads b → t ≡ is_known_kind b → t ≡ true → u ≡ has_link b → u ≡ true → IsLeft b AlreadyLinked
left-linked b t u reads is known link passes = linked reads (sym is ∙ known) (sym link ∙ passes)

pub left-nothing : (b : List ℕ) (t u w : Bool) → ElfReads b → t ≡ is_known_kind b → t ≡ true → u ≡ has_link b → u ≡ false → w ≡ has_work b → w ≡ false → IsLeft b NothingToStrip
left-nothing b t u w reads is known link no_link work no_work = nothing reads (sym is ∙ known) (sym link ∙ no_link) (sym work ∙ no_work)

pub taken-is : (b : List ℕ) (t u w : Bool) → ElfReads b → t ≡ is_known_kind b → t ≡ true → u ≡ has_link b → u ≡ false → w ≡ has_work b → w ≡ true → IsTaken b
taken-is b t u w reads is known link no_link work passes = record { reads = reads; kind = sym is ∙ known; unlinked = sym link ∙ no_link; work = sym work ∙ passes }

pub ruleset left_rules = (left-type, left-linked, left-nothing, taken-is)
