-- Whether two files are a pair.
use Rattle.std.proofs.Common.{◌≡◌, ◌≢◌, ℕ, zero, suc, ◌+◌, ◌<◌, Bool, true, false, if◌then◌else◌, List, [], ◌∷◌, length, take, refl, sym, ap, ◌∙◌, arith, inl, inr, subst}
use Rattle.std.proofs.lemmas.Bool.{cases_lt}
use Rattle.dw_base.specs.Elf.{contents_of, order_of, section_count, section_name}
use Rattle.dw_base.specs.Lists.{tabulate}
use Rattle.dw_base.specs.Refusals.{Blames}
use Rattle.dw_base.specs.SectionNames.{contents_called, index_in, names_of, section_called}
use Rattle.dw_base.specs.Texts.{same_text, text}
use Rattle.dw_base.specs.ViewFails.{ViewFails}
use Rattle.dw_base.specs.declared.fault.Fault.{Fault}
use Rattle.dw_base.specs.declared.fault.Fault.TheVariants.{NoMemory, Refused}
use Rattle.dw_base.specs.declared.fault.Refusal.{Refusal}
use Rattle.dw_base.specs.declared.shared.Order.{Order}
use Rattle.dw_base.proofs.DebugSectionLaws.{index_in-front, index_in-behind}
use Rattle.dw_base.proofs.ListLaws.{length-tabulate}
use Rattle.dw_base.proofs.SectionLaws.{contents_called-none, contents_called-there}
use Rattle.debug_link.specs.Links.{IsLink, holds_link}
use Rattle.debug_link.specs.Sums.{crc32}
use Rattle.dw_view.specs.Pairs.{IsPaired, Mismatches, NamesOther, PairBlames, PairRefused, link_in}
use Rattle.dw_view.specs.declared.mismatch.Mismatch.{Mismatch}
use Rattle.dw_view.specs.declared.mismatch.Mismatch.TheVariants.{NoLink, Name, Sum}
use Rattle.dw_view.specs.declared.mismatch.PairErr.{PairErr}
use Rattle.dw_view.specs.declared.mismatch.PairErr.TheVariants.{NotAPair, Stripped, Debug}
use Rattle.dw_view.proofs.FrontLaws.{same_text-take}

-- a section's name, by one byte more than the given one has
pub named-front : (b name front : List ℕ) (i : ℕ) (e : Bool) → front ≡ take (length name + 1) (section_name b i) → e ≡ same_text front name
    → e ≡ same_text (section_name b i) name
named-front b name front i e front_is e_is =
    e_is ∙ ap (λ (f : List ℕ). same_text f name) front_is ∙ same_text-take (length name + 1) (section_name b i) name (omega arith)

pub ruleset named_laws = (named-front)

-- the place of a text in a list from a function
place-behind : (f : ℕ → List ℕ) (name : List ℕ) (n : ℕ) (t : Bool) → index_in (tabulate f n) name ≡ n → same_text (f n) name ≡ t
    → index_in (tabulate f (suc n)) name ≡ n + (if t then 0 else 1)
place-behind f name n t none is =
    let size = length-tabulate f n in
    index_in-behind (tabulate f n) (f n ∷ []) name (omega (arith, none))
    ∙ ap (λ (m : ℕ). m + index_in (f n ∷ []) name) size
    ∙ ap (λ (x : Bool). n + (if x then 0 else 1)) is

place-none : (f : ℕ → List ℕ) (name : List ℕ) (n : ℕ) → ((k : ℕ) → k < n → same_text (f k) name ≡ false) → index_in (tabulate f n) name ≡ n
place-none f name zero none = refl
place-none f name (suc n) none =
    place-behind f name n false (place-none f name n (λ k lt. none k (omega arith))) (none n (omega arith)) ∙ omega arith

place-first : (f : ℕ → List ℕ) (name : List ℕ) (n i : ℕ) → i < n → ((k : ℕ) → k < i → same_text (f k) name ≡ false) → same_text (f i) name ≡ true
    → index_in (tabulate f n) name ≡ i
place-first f name zero i lt none here = absurd (omega arith)
place-first f name (suc n) i lt none here =
    elim (cases_lt i n) [
      | inl below ↦
          let before = place-first f name n i below none here in
          index_in-front (tabulate f n) (f n ∷ []) name (omega (arith, before, length-tabulate f n)) ∙ before
      | inr past ↦
          let e : i ≡ n = omega arith in
          place-behind f name n true (place-none f name n (λ k less. none k (omega arith))) (ap (λ (m : ℕ). same_text (f m) name) (sym e) ∙ here)
          ∙ omega arith
    ]

called-is : (b name : List ℕ) → section_called b name ≡ index_in (tabulate (section_name b) (section_count b)) name
unfolding section_called names_of
called-is b name = refl

-- the first section of a name
pub called-first : (b name bytes : List ℕ) (i : ℕ) (e : Bool) → i < section_count b → ((k : ℕ) → k < i → same_text (section_name b k) name ≡ false)
    → e ≡ same_text (section_name b i) name → e ≡ true → bytes ≡ contents_of b i → bytes ≡ contents_called b name
called-first b name bytes i e lt none e_is here is =
    let place : section_called b name ≡ i = called-is b name ∙ place-first (section_name b) name (section_count b) i lt none (sym e_is ∙ here) in
    is ∙ ap (contents_of b) (sym place) ∙ sym (contents_called-there b name (omega (arith, place)))

pub called-none : (b name : List ℕ) (n : ℕ) → n ≡ section_count b → ((k : ℕ) → k < n → same_text (section_name b k) name ≡ false) → [] ≡ contents_called b name
called-none b name n n_is none =
    let place : section_called b name ≡ section_count b =
    called-is b name ∙ place-none (section_name b) name (section_count b) (λ k lt. none k (omega (arith, n_is))) in
    sym (contents_called-none b name (omega (arith, place)))

pub none-yet : (b name : List ℕ) (k : ℕ) → k < 0 → same_text (section_name b k) name ≡ false
none-yet b name k lt = absurd (omega arith)

pub none-here : (b name : List ℕ) (i : ℕ) (e : Bool) → ((k : ℕ) → k < i → same_text (section_name b k) name ≡ false) → e ≡ same_text (section_name b i) name → e ≡ false
    → (k : ℕ) → k < i + 1 → same_text (section_name b k) name ≡ false
none-here b name i e none e_is fails k lt =
    elim (cases_lt k i) [
      | inl below ↦ none k below
      | inr past ↦
          let same : i ≡ k = omega arith in
          subst (λ (m : ℕ). same_text (section_name b m) name ≡ false) same (sym e_is ∙ fails)
    ]

pub ruleset called_laws = (called-first, called-none, none-yet, none-here)

-- what is known where the two aren't a pair
pub link-none : (s d name link : List ℕ) → link ≡ link_in s → holds_link link ≡ false → PairBlames s d name (NotAPair NoLink)
link-none s d name link is none = record { none = ap (λ (l : List ℕ). holds_link l) (sym is) ∙ none }

pub link-other : (s d name link named : List ℕ) (sum : ℕ) (o : Order) (e : PairErr) → o ≡ order_of s → link ≡ link_in s → IsLink o link named sum → named ≢ name → NamesOther named name e
    → PairBlames s d name e
link-other s d name link named sum o (NotAPair NoLink) o_is is read differs other = absurd other
link-other s d name link named sum o (NotAPair (Name x y)) o_is is read differs other = record {
  holds = ap (λ (l : List ℕ). holds_link l) (sym is) ∙ read.holds;
  named_is = other.0 ∙ read.name_is ∙ ap (λ (l : List ℕ). text l) is;
  found_is = other.1;
  differs = λ same. differs (sym other.0 ∙ same ∙ other.1);
}
link-other s d name link named sum o (NotAPair (Sum x y)) o_is is read differs other = absurd other
link-other s d name link named sum o (Stripped NoMemory) o_is is read differs other = tt
link-other s d name link named sum o (Stripped (Refused r)) o_is is read differs other = absurd other
link-other s d name link named sum o (Debug fault) o_is is read differs other = absurd other

link-is : (s name link named : List ℕ) (sum : ℕ) (o : Order) → o ≡ order_of s → link ≡ link_in s → IsLink o link named sum → named ≡ name → IsLink (order_of s) (link_in s) name sum
link-is s name link named sum o o_is is read same =
    subst (λ (x : Order). IsLink x (link_in s) name sum) o_is
    (subst (λ (l : List ℕ). IsLink o l name sum) is (subst (λ (n : List ℕ). IsLink o link n sum) same read))

pub link-sum : (s d name link named : List ℕ) (sum found : ℕ) (o : Order) → o ≡ order_of s → link ≡ link_in s → IsLink o link named sum → named ≡ name → found ≡ crc32 d
    → sum ≢ found → PairBlames s d name (NotAPair (Sum sum found))
link-sum s d name link named sum found o o_is is read same found_is differs = record {
  link = link-is s name link named sum o o_is is read same;
  found_is = found_is;
  differs = differs;
}

pub link-paired : (s d name link named : List ℕ) (sum found : ℕ) (o : Order) → o ≡ order_of s → link ≡ link_in s → IsLink o link named sum → named ≡ name → found ≡ crc32 d
    → sum ≡ found → IsPaired s d name
link-paired s d name link named sum found o o_is is read same found_is sums = record {
  link = subst (λ (n : ℕ). IsLink (order_of s) (link_in s) name n) (sums ∙ found_is) (link-is s name link named sum o o_is is read same);
}

pub ruleset paired_laws = (link-none, link-other, link-sum, link-paired)

-- a pair is no other
mismatch-excludes : (s d name : List ℕ) (m : Mismatch) → IsPaired s d name → Mismatches s d name m → ⊥
mismatch-excludes s d name NoLink p h = let no : true ≡ false = sym p.link.holds ∙ h.none in absurd cc
mismatch-excludes s d name (Name x y) p h = h.differs (h.named_is ∙ sym p.link.name_is ∙ sym h.found_is)
mismatch-excludes s d name (Sum x y) p h = h.differs (h.link.sum_is ∙ sym p.link.sum_is ∙ sym h.found_is)

pub pair-excludes : (s d name : List ℕ) (e : PairErr) → IsPaired s d name → ((r : Refusal) → ViewFails s r → ⊥) → ((r : Refusal) → ViewFails d r → ⊥)
    → PairRefused s d name e → ⊥
pair-excludes s d name (NotAPair m) p rs rd h = mismatch-excludes s d name m p h
pair-excludes s d name (Stripped NoMemory) p rs rd h = h
pair-excludes s d name (Stripped (Refused r)) p rs rd h = rs r h.fails
pair-excludes s d name (Debug NoMemory) p rs rd h = h
pair-excludes s d name (Debug (Refused r)) p rs rd h = rd r h.fails

pub stripped-fails : (s d name : List ℕ) (f : Fault) → IsPaired s d name → Blames (ViewFails s) f → PairBlames s d name (Stripped f)
stripped-fails s d name NoMemory p fails = fails
stripped-fails s d name (Refused r) p fails = record { paired = p; fails = fails }

pub debug-fails : (s d name : List ℕ) (f : Fault) → IsPaired s d name → Blames (ViewFails d) f → PairBlames s d name (Debug f)
debug-fails s d name NoMemory p fails = fails
debug-fails s d name (Refused r) p fails = record { paired = p; fails = fails }

pub ruleset pair_laws = (pair-excludes, stripped-fails, debug-fails)
