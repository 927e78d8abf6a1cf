-- What is loaded of a file with other bytes in the place of its build-id is what was loaded of it, since these bytes are left out.
use Rattle.std.proofs.Common.{Bool, true, false, ◌≡◌, ◌⊎◌, inl, inr, ℕ, zero, suc, ◌+◌, ◌<◌, ◌≤◌, ◌==◌, ◌&&◌, ◌||◌, if◌then◌else◌, length, List, [], ◌∷◌, ◌++◌, Option, Some, sym, ap, ◌∙◌, refl, subst, arith}
use Rattle.std.proofs.lemmas.Bool.{cases_eq, cases_lt, le-leb, lt-ltb}
use Rattle.std.proofs.lemmas.Bool.Decides.{nat_tests}
use Rattle.std.specs.Bool.{⊤}
use Rattle.std.specs.Prelude.{filter, map, slice_index}
use Rattle.dw_base.specs.Elf.{class_of, contents_of, section_count, segments_of, shnum_place, shoff_place, shstrndx_place, word_size}
use Rattle.dw_base.specs.Layout.{is_alloc, is_loaded_kind}
use Rattle.dw_base.specs.Lists.{tabulate}
use Rattle.dw_base.specs.Notes.{BuildId, Descriptor, build_id_of}
use Rattle.dw_base.specs.declared.records.Section.{Section}
use Rattle.dw_base.specs.declared.records.Segment.{Segment}
use Rattle.dw_base.specs.declared.shared.Class.{Class}
use Rattle.dw_base.proofs.ReadsBackLaws.{tabulate-ext}
use Rattle.dw_meaning.specs.Loaded.{in_id_at, in_own_id, in_section_field, is_alloc_number, is_load, lies_within, loaded_byte, loaded_bytes, section_image, segment_image, unless_left_out}
use Rattle.build_ident.specs.IdFails.{id_place}
use Rattle.dbg_job.proofs.IdPlaceLaws.{id-is}
use Rattle.dbg_job.proofs.OtherIdLaws.{IdApart, OtherId, Outside, class-new, contents-new, count-new, own-differs, section-new, segments-new, type-new}
use Rattle.dbg_job.proofs.OtherIdMeaningLaws.{build_id-new}
use Rattle.dbg_job.proofs.OtherIdRelocationLaws.{contents-long}

unless-same : (left : Bool) (x y : ℕ) → (left ≡ false → x ≡ y) → unless_left_out left x ≡ unless_left_out left y
unless-same true x y same = refl
unless-same false x y same = ap (λ (n : ℕ). Some n) (same refl)

or-right : (p q : Bool) → (p || q) ≡ false → q ≡ false
or-right true q h = let no : true ≡ false = h in cc
or-right false q h = h

outside : (place n k : ℕ) → lies_within place n k ≡ false → Outside place n k
outside place n k none = by_place (cases_lt k place)
  where
    by_end : place ≤ k → (k < place + n) ⊎ (place + n ≤ k) → Outside place n k
    by_end from (inr past) = inr past
    by_end from (inl below) =
        let inside : lies_within place n k ≡ true = rw (le-leb place k from, lt-ltb k (place + n) below) refl in
        absurd cc

    by_place : (k < place) ⊎ (place ≤ k) → Outside place n k
    by_place (inl before) = inl before
    by_place (inr from) = by_end from (cases_lt k (place + n))

field-same : (b new : List ℕ) (k : ℕ) → class_of new ≡ class_of b → in_section_field new k ≡ in_section_field b k
field-same b new k same =
    ap (λ (c : Class). lies_within (shoff_place c) (word_size c) k || lies_within (shnum_place c) 2 k || lies_within (shstrndx_place c) 2 k) same

id-same : (b new : List ℕ) (i : ℕ) (d : Descriptor) (k : ℕ) → IdApart b i d → OtherId b new i d → in_id_at new (build_id_of new) k ≡ lies_within (id_place b i d) d.size k
id-same b new i d k w s =
    ap (λ (o : Option BuildId). in_id_at new o k) (build_id-new b new i d w s ∙ id-is b i d w.is)
    ∙ ap (λ (x : Section). lies_within (x.offset + d.place) d.size k) (section-new b new i d i w s)

id-old : (b : List ℕ) (i : ℕ) (d : Descriptor) (k : ℕ) → IdApart b i d → in_id_at b (build_id_of b) k ≡ lies_within (id_place b i d) d.size k
id-old b i d k w = ap (λ (o : Option BuildId). in_id_at b o k) (id-is b i d w.is)

byte-same : (b new : List ℕ) (i : ℕ) (d : Descriptor) (k : ℕ) → IdApart b i d → OtherId b new i d → loaded_byte new k ≡ loaded_byte b k
unfolding loaded_byte
byte-same b new i d k w s =
    rw (field-same b new k (class-new b new i d w s), id-same b new i d k w s, id-old b i d k w)
    (unless-same (in_section_field b k || lies_within (id_place b i d) d.size k) (slice_index new k) (slice_index b k)
    (λ none. s.same k (outside (id_place b i d) d.size k (or-right (in_section_field b k) (lies_within (id_place b i d) d.size k) none))))

image-same : (b new : List ℕ) (i : ℕ) (d : Descriptor) (x : Segment) → IdApart b i d → OtherId b new i d → segment_image new x ≡ segment_image b x
unfolding segment_image
image-same b new i d x w s =
    tabulate-ext (λ k. loaded_byte new (x.offset + k)) (λ k. loaded_byte b (x.offset + k)) x.filesz (λ k lt. byte-same b new i d (x.offset + k) w s)

images-same : (b new : List ℕ) (i : ℕ) (d : Descriptor) (ss : List Segment) → IdApart b i d → OtherId b new i d → map (segment_image new) ss ≡ map (segment_image b) ss
images-same b new i d [] w s = refl
images-same b new i d (x ∷ ss) w s =
    ap (λ (y : List (Option ℕ)). y ∷ map (segment_image new) ss) (image-same b new i d x w s)
    ∙ ap (λ (ys : List (List (Option ℕ))). segment_image b x ∷ ys) (images-same b new i d ss w s)

loaded-is : (b : List ℕ) → is_loaded_kind b ≡ true → loaded_bytes b ≡ record { segments = segments_of b; images = map (segment_image b) (filter is_load (segments_of b)) }
unfolding loaded_bytes
loaded-is b kind = rw kind refl

-- ### Of a relocatable file, the bytes of its sections

own-left : (i : ℕ) (d : Descriptor) (k : ℕ) → in_own_id i (Some (record { section = i; descriptor = d })) k ≡ lies_within d.place d.size k
own-left i d k = ap (λ (t : Bool). t && lies_within d.place d.size k) (eq-self i)
  where
    eq-self : (n : ℕ) → (n == n) ≡ true
    eq-self n = grind (arith, nat_tests)

own-byte : (b new : List ℕ) (i : ℕ) (d : Descriptor) (k : ℕ) → IdApart b i d → OtherId b new i d
    → unless_left_out (in_own_id i (build_id_of new) k) (slice_index (contents_of new i) k) ≡ unless_left_out (in_own_id i (build_id_of b) k) (slice_index (contents_of b i) k)
own-byte b new i d k w s =
    let old : in_own_id i (build_id_of b) k ≡ lies_within d.place d.size k = ap (λ (o : Option BuildId). in_own_id i o k) (id-is b i d w.is) ∙ own-left i d k in
    let now : in_own_id i (build_id_of new) k ≡ lies_within d.place d.size k = ap (λ (o : Option BuildId). in_own_id i o k) (build_id-new b new i d w s) ∙ old in
    rw (now, old)
    (unless-same (lies_within d.place d.size k) (slice_index (contents_of new i) k) (slice_index (contents_of b i) k)
    (λ none. (own-differs b new i d w s).same k (outside d.place d.size k none)))

section-byte : (b new : List ℕ) (i : ℕ) (d : Descriptor) (j k : ℕ) → IdApart b i d → OtherId b new i d → j < section_count b
    → unless_left_out (in_own_id j (build_id_of new) k) (slice_index (contents_of new j) k) ≡ unless_left_out (in_own_id j (build_id_of b) k) (slice_index (contents_of b j) k)
section-byte b new i d j k w s lt = by_number (cases_eq j i)
  where
    by_number : (j ≡ i) ⊎ (j ≡ i → ⊥)
        → unless_left_out (in_own_id j (build_id_of new) k) (slice_index (contents_of new j) k) ≡ unless_left_out (in_own_id j (build_id_of b) k) (slice_index (contents_of b j) k)
    by_number (inl same) =
        subst (λ (n : ℕ). unless_left_out (in_own_id n (build_id_of new) k) (slice_index (contents_of new n) k) ≡ unless_left_out (in_own_id n (build_id_of b) k) (slice_index (contents_of b n) k))
        (sym same) (own-byte b new i d k w s)
    by_number (inr other) =
        ap (λ (o : Option BuildId). unless_left_out (in_own_id j o k) (slice_index (contents_of new j) k)) (build_id-new b new i d w s)
        ∙ ap (λ (bs : List ℕ). unless_left_out (in_own_id j (build_id_of b) k) (slice_index bs k)) (contents-new b new i j d w s lt other)

section-same : (b new : List ℕ) (i : ℕ) (d : Descriptor) (j : ℕ) → IdApart b i d → OtherId b new i d → j < section_count b → section_image new j ≡ section_image b j
unfolding section_image
section-same b new i d j w s lt =
    ap (tabulate (λ k. unless_left_out (in_own_id j (build_id_of new) k) (slice_index (contents_of new j) k))) (contents-long b new i j d w s lt)
    ∙ tabulate-ext (λ k. unless_left_out (in_own_id j (build_id_of new) k) (slice_index (contents_of new j) k))
    (λ k. unless_left_out (in_own_id j (build_id_of b) k) (slice_index (contents_of b j) k)) (length (contents_of b j)) (λ k below. section-byte b new i d j k w s lt)

-- numbers below a bound
abbrev AllUnder : ℕ → List ℕ → Type 0
AllUnder n [] = ⊤
AllUnder n (x ∷ xs) = (x < n) × AllUnder n xs

under-push : (n x : ℕ) (xs : List ℕ) → AllUnder n xs → x < n → AllUnder n (xs ++ x ∷ [])
under-push n x [] all lt = (lt, tt)
under-push n x (y ∷ xs) all lt = (all.0, under-push n x xs all.1 lt)

numbers-under : (n m : ℕ) → m ≤ n → AllUnder n (tabulate (λ i. i) m)
numbers-under n zero le = tt
numbers-under n (suc m) le = under-push n m (tabulate (λ i. i) m) (numbers-under n m (omega (arith, le))) (omega (arith, le))

filter-under : (n : ℕ) (p : ℕ → Bool) (xs : List ℕ) → AllUnder n xs → AllUnder n (filter p xs)
filter-under n p [] all = tt
filter-under n p (x ∷ xs) all = by_test (p x) (filter-under n p xs all.1)
  where
    by_test : (t : Bool) → AllUnder n (filter p xs) → AllUnder n (if t then x ∷ filter p xs else filter p xs)
    by_test true rest = (all.0, rest)
    by_test false rest = rest

filter-same : (p q : ℕ → Bool) (xs : List ℕ) → ((j : ℕ) → p j ≡ q j) → filter p xs ≡ filter q xs
filter-same p q [] same = refl
filter-same p q (x ∷ xs) same =
    ap (λ (t : Bool). if t then x ∷ filter p xs else filter p xs) (same x)
    ∙ ap (λ (l : List ℕ). if q x then x ∷ l else l) (filter-same p q xs same)

sections-same : (b new : List ℕ) (i : ℕ) (d : Descriptor) (js : List ℕ) → IdApart b i d → OtherId b new i d → AllUnder (section_count b) js
    → map (section_image new) js ≡ map (section_image b) js
sections-same b new i d [] w s all = refl
sections-same b new i d (j ∷ js) w s all =
    ap (λ (y : List (Option ℕ)). y ∷ map (section_image new) js) (section-same b new i d j w s all.0)
    ∙ ap (λ (ys : List (List (Option ℕ))). section_image b j ∷ ys) (sections-same b new i d js w s all.1)

unloaded-is : (b : List ℕ) → is_loaded_kind b ≡ false
    → loaded_bytes b ≡ record { segments = []; images = map (section_image b) (filter (is_alloc_number b) (tabulate (λ i. i) (section_count b))) }
unfolding loaded_bytes
unloaded-is b kind = rw kind refl

numbers-new : (b new : List ℕ) (i : ℕ) (d : Descriptor) → IdApart b i d → OtherId b new i d
    → filter (is_alloc_number new) (tabulate (λ i. i) (section_count new)) ≡ filter (is_alloc_number b) (tabulate (λ i. i) (section_count b))
numbers-new b new i d w s =
    ap (λ (n : ℕ). filter (is_alloc_number new) (tabulate (λ i. i) n)) (count-new b new i d w s)
    ∙ filter-same (is_alloc_number new) (is_alloc_number b) (tabulate (λ i. i) (section_count b)) (λ j. ap is_alloc (section-new b new i d j w s))

-- ### So all that is loaded is the same

pub loaded-new : (b new : List ℕ) (i : ℕ) (d : Descriptor) → IdApart b i d → OtherId b new i d → loaded_bytes new ≡ loaded_bytes b
loaded-new b new i d w s = by_kind (is_loaded_kind b) refl
  where
    kind : is_loaded_kind new ≡ is_loaded_kind b
    kind = rw (type-new b new i d w s) refl

    by_kind : (t : Bool) → is_loaded_kind b ≡ t → loaded_bytes new ≡ loaded_bytes b
    by_kind true is =
        loaded-is new (kind ∙ is)
        ∙ ap (λ (ss : List Segment). record { segments = ss; images = map (segment_image new) (filter is_load ss) }) (segments-new b new i d w s)
        ∙ ap (λ (xs : List (List (Option ℕ))). record { segments = segments_of b; images = xs }) (images-same b new i d (filter is_load (segments_of b)) w s)
        ∙ sym (loaded-is b is)
    by_kind false is =
        let numbers = filter (is_alloc_number b) (tabulate (λ i. i) (section_count b)) in
        unloaded-is new (kind ∙ is)
        ∙ ap (λ (js : List ℕ). record { segments = []; images = map (section_image new) js }) (numbers-new b new i d w s)
        ∙ ap (λ (xs : List (List (Option ℕ))). record { segments = []; images = xs })
        (sections-same b new i d numbers w s (filter-under (section_count b) (is_alloc_number b) (tabulate (λ i. i) (section_count b)) (numbers-under (section_count b) (section_count b) (omega arith))))
        ∙ sym (unloaded-is b is)
