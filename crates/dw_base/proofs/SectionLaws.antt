-- Laws of sections by name: the one section of a name is the first of it, and has its bytes.
use Rattle.std.proofs.Common.{◌≡◌, ◌≢◌, ℕ, zero, suc, ◌<◌, ◌≤◌, Bool, true, false, cond, List, [], ◌∷◌, length, get_or, take, drop, refl, sym, ◌∙◌, arith}
use Rattle.std.proofs.lemmas.Bool.{false_from_ne_true}
use Rattle.std.proofs.lemmas.List.{length-take, length-drop}
use Rattle.dw_base.specs.Elf.{contents_of, contents_at, is_empty_kind, nth_section, section_count, section_name}
use Rattle.dw_base.specs.SectionNames.{contents_called, index_in, names_of, section_called}
use Rattle.dw_base.specs.Texts.{is_in, same_text}
use Rattle.dw_base.proofs.ListLaws.{get_or-tabulate, length-tabulate}
use Rattle.dw_base.proofs.TextLaws.{same_text-from, same_text-true}

-- two texts are not the same
pub same_text-other : (t u : List ℕ) → t ≢ u → same_text t u ≡ false
same_text-other t u other = false_from_ne_true (same_text t u) (λ e. other (same_text-true t u e))

is_in-found : (us : List (List ℕ)) (i : ℕ) (t d : List ℕ) → i < length us → get_or us i d ≡ t → is_in us t ≡ true
is_in-found [] i t d lt e = absurd (omega arith)
is_in-found (u ∷ us) zero t d lt e = rw (same_text-from u t e) refl
is_in-found (u ∷ us) (suc i) t d lt e = in_rest (same_text u t) (is_in us t) (is_in-found us i t d (omega arith) e)
  where
    in_rest : (here rest : Bool) → rest ≡ true → cond here true rest ≡ true
    in_rest true rest h = refl
    in_rest false rest h = h

-- the names, by number
length-names_of : (b : List ℕ) → length (names_of b) ≡ section_count b
unfolding names_of
length-names_of b = length-tabulate (section_name b) (section_count b)

get_or-names_of : (b : List ℕ) (i : ℕ) → i < section_count b → get_or (names_of b) i [] ≡ section_name b i
unfolding names_of
get_or-names_of b i lt = get_or-tabulate (section_name b) (section_count b) i [] lt

-- the bytes of a section are no more than those of the file
pub length-contents : (b : List ℕ) (i : ℕ) → length (contents_of b i) ≤ length b
unfolding contents_of contents_at
length-contents b i = by_kind (is_empty_kind (nth_section b i))
  where
    by_kind : (e : Bool) → length (cond e [] (take (nth_section b i).size (drop (nth_section b i).offset b))) ≤ length b
    by_kind true = omega arith
    by_kind false =
        let rest : ℕ = length (drop (nth_section b i).offset b) in
        omega (arith, length-take (nth_section b i).size (drop (nth_section b i).offset b), length-drop (nth_section b i).offset b)

-- a place in the list holds the text, and behind its end there is none
index_in-named : (us : List (List ℕ)) (t : List ℕ) → index_in us t < length us → get_or us (index_in us t) [] ≡ t
index_in-named [] t lt = absurd (omega arith)
index_in-named (u ∷ us) t lt = by_test (same_text u t) refl lt (index_in-named us t)
  where
    by_test : (test : Bool) → same_text u t ≡ test → cond test 0 (suc (index_in us t)) < suc (length us) → (index_in us t < length us → get_or us (index_in us t) [] ≡ t)
        → get_or (u ∷ us) (cond test 0 (suc (index_in us t))) [] ≡ t
    by_test true is lt rest = same_text-true u t is
    by_test false is lt rest = rest (omega arith)

index_in-past : (us : List (List ℕ)) (t : List ℕ) → length us ≤ index_in us t → is_in us t ≡ false
index_in-past [] t le = refl
index_in-past (u ∷ us) t le = by_test (same_text u t) le (index_in-past us t)
  where
    by_test : (test : Bool) → suc (length us) ≤ cond test 0 (suc (index_in us t)) → (length us ≤ index_in us t → is_in us t ≡ false) → cond test true (is_in us t) ≡ false
    by_test true le rest = absurd (omega arith)
    by_test false le rest = rest (omega arith)

-- the first section of a name that there is has the name, and its bytes are those of the name
pub section_called-named : (b name : List ℕ) → section_called b name < section_count b → section_name b (section_called b name) ≡ name
unfolding section_called
section_called-named b name lt =
    sym (get_or-names_of b (index_in (names_of b) name) lt) ∙ index_in-named (names_of b) name (omega (arith, length-names_of b, lt))

pub contents_called-there : (b name : List ℕ) → section_called b name < section_count b → contents_called b name ≡ contents_of b (section_called b name)
unfolding contents_called
contents_called-there b name lt =
    rw (is_in-found (names_of b) (section_called b name) name [] (omega (arith, length-names_of b, lt))
    (get_or-names_of b (section_called b name) lt ∙ section_called-named b name lt)) refl

-- a name that there isn't has no section and no bytes
section_called-is : (b name : List ℕ) → section_called b name ≡ index_in (names_of b) name
unfolding section_called
section_called-is b name = refl

pub contents_called-none : (b name : List ℕ) → section_count b ≤ section_called b name → contents_called b name ≡ []
unfolding contents_called
contents_called-none b name le =
    rw (index_in-past (names_of b) name (omega (arith, length-names_of b, section_called-is b name, le))) refl
