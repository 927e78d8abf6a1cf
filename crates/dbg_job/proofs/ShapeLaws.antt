-- An edited file has the sections of the file but for place, size and contents, so the same sections of both are droppable.
use Rattle.std.proofs.Common.{Bool, true, false, ◌≡◌, ◌⊎◌, inl, inr, ℕ, zero, suc, ◌<◌, ◌≤◌, ◌&&◌, ◌||◌, nat_lt, List, [], ◌∷◌, ◌++◌, sym, ap, ◌∙◌, refl, arith}
use Rattle.std.proofs.lemmas.Bool.{cases_lt}
use Rattle.std.proofs.lemmas.Bool.Decides.{nat_tests}
use Rattle.std.specs.List.{list_any}
use Rattle.dw_base.specs.Elf.{is_empty_kind, nth_section, section_count, sections_of}
use Rattle.dw_base.specs.Layout.{is_alloc, is_loaded_kind}
use Rattle.dw_base.specs.LayoutReads.{SameButPlace}
use Rattle.dw_base.specs.Lists.{tabulate}
use Rattle.dw_base.specs.declared.records.Section.{Section}
use Rattle.dbg_split.specs.Droppable.{drops_along, drops_itself, is_droppable, links_symbols, names_dropped, names_symbols}
use Rattle.dbg_job.specs.SameSections.{SameShape}
use Rattle.dbg_split.specs.SplitFails.{drops_before, is_link, is_loaded_behind, is_loaded_data}

pub loaded-same : (b c : List ℕ) → SameShape b c → is_loaded_kind c ≡ is_loaded_kind b
loaded-same b c s = rw s.kind refl

pub alloc-same : (b c : List ℕ) (i : ℕ) → SameShape b c → i < section_count b → is_alloc (nth_section c i) ≡ is_alloc (nth_section b i)
alloc-same b c i s lt = rw (s.heads i lt).flags refl

pub empty-same : (b c : List ℕ) (i : ℕ) → SameShape b c → i < section_count b → is_empty_kind (nth_section c i) ≡ is_empty_kind (nth_section b i)
empty-same b c i s lt = rw (s.heads i lt).kind refl

-- ### Droppable sections

any-push : (p : Section → Bool) (xs : List Section) (x : Section) → list_any p (xs ++ x ∷ []) ≡ (list_any p xs || p x)
any-push p [] x = by_test (p x)
  where
    by_test : (t : Bool) → (t || false) ≡ (false || t)
    by_test true = refl
    by_test false = refl
any-push p (y ∷ xs) x = ap (λ (t : Bool). p y || t) (any-push p xs x) ∙ by_test (p y) (list_any p xs) (p x)
  where
    by_test : (t u w : Bool) → (t || (u || w)) ≡ (t || u || w)
    by_test true u w = refl
    by_test false u w = refl

any-same : (p : Section → Bool) (f g : ℕ → Section) (n : ℕ) → ((k : ℕ) → k < n → p (f k) ≡ p (g k)) → list_any p (tabulate f n) ≡ list_any p (tabulate g n)
any-same p f g zero each = refl
any-same p f g (suc n) each =
    any-push p (tabulate f n) (f n)
    ∙ ap (λ (t : Bool). t || p (f n)) (any-same p f g n (λ k lt. each k (omega (arith, lt))))
    ∙ ap (λ (t : Bool). list_any p (tabulate g n) || t) (each n (omega arith))
    ∙ sym (any-push p (tabulate g n) (g n))

links-same : (i : ℕ) (s t : Section) → SameButPlace s t → links_symbols i t ≡ links_symbols i s
links-same i s t h = rw (h.kind, h.link) refl

symbols-same : (b c : List ℕ) (i : ℕ) → SameShape b c → names_symbols c i ≡ names_symbols b i
unfolding names_symbols sections_of
symbols-same b c i s =
    ap (λ (n : ℕ). list_any (links_symbols i) (tabulate (nth_section c) n)) s.count
    ∙ any-same (links_symbols i) (nth_section c) (nth_section b) (section_count b) (λ k lt. links-same i (nth_section b k) (nth_section c k) (s.heads k lt))

itself-same : (b c : List ℕ) (i : ℕ) → SameShape b c → i < section_count b → drops_itself c i ≡ drops_itself b i
unfolding drops_itself
itself-same b c i s lt = rw ((s.heads i lt).flags, s.index, s.names i lt, (s.heads i lt).kind, symbols-same b c i s) refl

named-same : (b c : List ℕ) (n : ℕ) → SameShape b c → names_dropped c n ≡ names_dropped b n
unfolding names_dropped
named-same b c n s = ap (λ (k : ℕ). nat_lt n k && drops_itself c n) s.count ∙ by_place (cases_lt n (section_count b))
  where
    not-lt : (m k : ℕ) → k ≤ m → nat_lt m k ≡ false
    not-lt m k le = grind (arith, nat_tests)

    by_place : (n < section_count b) ⊎ (section_count b ≤ n) → (nat_lt n (section_count b) && drops_itself c n) ≡ (nat_lt n (section_count b) && drops_itself b n)
    by_place (inl lt) = ap (λ (t : Bool). nat_lt n (section_count b) && t) (itself-same b c n s lt)
    by_place (inr past) = rw (not-lt n (section_count b) past) refl

along-same : (b c : List ℕ) (i : ℕ) → SameShape b c → i < section_count b → drops_along c i ≡ drops_along b i
unfolding drops_along
along-same b c i s lt =
    rw (
      (s.heads i lt).flags,
      s.index,
      (s.heads i lt).kind,
      (s.heads i lt).link,
      (s.heads i lt).info,
      named-same b c (nth_section b i).link s,
      named-same b c (nth_section b i).info s,
    ) refl

pub droppable-same : (b c : List ℕ) (i : ℕ) → SameShape b c → i < section_count b → is_droppable c i ≡ is_droppable b i
unfolding is_droppable
droppable-same b c i s lt = rw (s.kind, itself-same b c i s lt, along-same b c i s lt) refl

-- ### What keeps a section from being split

before-same : (b c : List ℕ) (n : ℕ) → SameShape b c → n ≤ section_count b → drops_before c n ≡ drops_before b n
before-same b c zero s le = refl
before-same b c (suc n) s le = rw (before-same b c n s (omega (arith, le)), droppable-same b c n s (omega (arith, le))) refl

pub data-same : (b c : List ℕ) (i : ℕ) → SameShape b c → i < section_count b → is_loaded_data c i ≡ is_loaded_data b i
data-same b c i s lt = rw ((s.heads i lt).flags, (s.heads i lt).kind, s.names i lt) refl

pub behind-same : (b c : List ℕ) (i : ℕ) → SameShape b c → i < section_count b → is_loaded_behind c i ≡ is_loaded_behind b i
behind-same b c i s lt = rw ((s.heads i lt).flags, before-same b c i s (omega (arith, lt))) refl

pub link-same : (b c : List ℕ) (i : ℕ) → SameShape b c → i < section_count b → is_link c i ≡ is_link b i
unfolding is_link
link-same b c i s lt = rw (s.names i lt) refl
