-- What is loaded of two files is the same exactly where their segments and images are, or their ALLOC sections.
use Rattle.std.proofs.Common.{Bool, true, false, ◌≡◌, ◌≢◌, ℕ, ◌+◌, List, [], ◌∷◌, length, map, filter, refl, ap, sym, ◌∙◌}
use Rattle.std.specs.Prelude.{Option}
use Rattle.dw_base.specs.Elf.{segments_of}
use Rattle.dw_base.specs.Layout.{is_loaded_kind}
use Rattle.dw_base.specs.declared.records.Segment.{Segment}
use Rattle.dw_meaning.specs.Loaded.{Loaded, is_load, loaded_bytes, section_image, segment_image}
use Rattle.dbg_check.specs.Loads.{AllocsAgree, AreOfTwoKinds, LoadsAgree, allocs_from, nothing}

-- what is loaded of files of both kinds
pub loaded-as : (b : List ℕ) → is_loaded_kind b ≡ true → loaded_bytes b ≡ record { segments = segments_of b; images = map (segment_image b) (filter is_load (segments_of b)) }
unfolding loaded_bytes
loaded-as b kind = rw kind refl

pub allocs-as : (b : List ℕ) → is_loaded_kind b ≡ false → loaded_bytes b ≡ record { segments = []; images = allocs_from b 0 }
unfolding loaded_bytes
allocs-as b kind = rw kind refl

-- ### Nothing

no-segment : (b : List ℕ) → is_loaded_kind b ≡ true → segments_of b ≡ [] → loaded_bytes b ≡ nothing
no-segment b kind none =
    loaded-as b kind ∙ ap (λ (xs : List Segment). record { segments = xs; images = map (segment_image b) (filter is_load xs) }) none

empty-list : (ss : List Segment) → length ss ≡ 0 → ss ≡ []
empty-list [] none = refl
empty-list (s ∷ ss) none = absurd cc

pub nothing-loaded : (b : List ℕ) (ss : List Segment) (k : Bool) → k ≡ is_loaded_kind b → k ≡ true → ss ≡ segments_of b → length ss ≡ 0 → loaded_bytes b ≡ nothing
nothing-loaded b ss k kind is are none = no-segment b (sym kind ∙ is) (sym are ∙ empty-list ss none)

pub some-loaded : (b : List ℕ) (ss : List Segment) (k : Bool) → k ≡ is_loaded_kind b → k ≡ true → ss ≡ segments_of b → length ss ≢ 0 → loaded_bytes b ≡ nothing → ⊥
some-loaded b ss k kind is are some e =
    some (ap (λ (xs : List Segment). length xs) (are ∙ ap (λ (x : Loaded). x.segments) (sym (loaded-as b (sym kind ∙ is)) ∙ e)))

pub nothing-alloc : (b : List ℕ) (k : Bool) → k ≡ is_loaded_kind b → k ≡ false → allocs_from b 0 ≡ [] → loaded_bytes b ≡ nothing
nothing-alloc b k kind is none =
    allocs-as b (sym kind ∙ is) ∙ ap (λ (xs : List (List (Option ℕ))). record { segments = []; images = xs }) none

pub some-alloc : (b : List ℕ) (n : ℕ) (k : Bool) → k ≡ is_loaded_kind b → k ≡ false → allocs_from b 0 ≡ section_image b n ∷ allocs_from b (n + 1) → loaded_bytes b ≡ nothing → ⊥
some-alloc b n k kind is next e =
    let never : section_image b n ∷ allocs_from b (n + 1) ≡ [] = sym next ∙ ap (λ (x : Loaded). x.images) (sym (allocs-as b (sym kind ∙ is)) ∙ e) in
    cc

pub ruleset nothing_laws = (nothing-loaded, some-loaded, nothing-alloc, some-alloc)

-- ### Files of two kinds

-- a file that is loaded as it stands, and has no segments, loads nothing
bare-loaded : (b : List ℕ) → is_loaded_kind b ≡ true → (loaded_bytes b).segments ≡ [] → loaded_bytes b ≡ nothing
bare-loaded b kind none = no-segment b kind (ap (λ (x : Loaded). x.segments) (sym (loaded-as b kind)) ∙ none)

no-segments : (b : List ℕ) → is_loaded_kind b ≡ false → (loaded_bytes b).segments ≡ []
no-segments b kind = ap (λ (x : Loaded). x.segments) (allocs-as b kind)

two-kinds : (b c : List ℕ) (k l : Bool) → is_loaded_kind b ≡ k → is_loaded_kind c ≡ l → (k ≡ l → ⊥) → loaded_bytes c ≡ loaded_bytes b → loaded_bytes b ≡ nothing
two-kinds b c true true kind there other e = absurd (other refl)
two-kinds b c false false kind there other e = absurd (other refl)
two-kinds b c true false kind there other e = bare-loaded b kind (ap (λ (x : Loaded). x.segments) (sym e) ∙ no-segments c there)
two-kinds b c false true kind there other e = sym e ∙ bare-loaded c there (ap (λ (x : Loaded). x.segments) e ∙ no-segments b kind)

pub kinds-nothing : (b c : List ℕ) → AreOfTwoKinds b c → loaded_bytes c ≡ loaded_bytes b → loaded_bytes b ≡ nothing
kinds-nothing b c kinds e = two-kinds b c (is_loaded_kind b) (is_loaded_kind c) refl refl kinds.other e

pub kinds-other : (b c : List ℕ) → AreOfTwoKinds b c → (loaded_bytes b ≡ nothing → ⊥) → loaded_bytes c ≡ loaded_bytes b → ⊥
kinds-other b c kinds some e = some (kinds-nothing b c kinds e)

pub kinds-same : (b c : List ℕ) → loaded_bytes b ≡ nothing → loaded_bytes c ≡ nothing → loaded_bytes c ≡ loaded_bytes b
kinds-same b c one other = other ∙ sym one

pub kinds-there : (b c : List ℕ) → AreOfTwoKinds b c → (loaded_bytes c ≡ nothing → ⊥) → loaded_bytes c ≡ loaded_bytes b → ⊥
kinds-there b c kinds some e = some (e ∙ kinds-nothing b c kinds e)

pub ruleset kinds_laws = (kinds-other, kinds-same, kinds-there)

-- ### Files of one kind

pub images-same : (b c : List ℕ) (ss : List Segment) → is_loaded_kind b ≡ true → is_loaded_kind c ≡ true → ss ≡ segments_of b → ss ≡ segments_of c → LoadsAgree b c ss
    → loaded_bytes c ≡ loaded_bytes b
images-same b c ss kind there are are_there agree =
    loaded-as c there ∙ ap (λ (xs : List Segment). record { segments = xs; images = map (segment_image c) (filter is_load xs) }) (sym are_there)
    ∙ ap (λ (is : List (List (Option ℕ))). record { segments = ss; images = is }) agree
    ∙ ap (λ (xs : List Segment). record { segments = xs; images = map (segment_image b) (filter is_load xs) }) are ∙ sym (loaded-as b kind)

-- where what is loaded is the same, so are the segments and the images
pub segments-one : (b c : List ℕ) (ss ts : List Segment) → is_loaded_kind b ≡ true → is_loaded_kind c ≡ true → ss ≡ segments_of b → ts ≡ segments_of c → (ss ≡ ts → ⊥)
    → loaded_bytes c ≡ loaded_bytes b → ⊥
segments-one b c ss ts kind there are are_there differ e =
    differ (are ∙ ap (λ (x : Loaded). x.segments) (sym (loaded-as b kind) ∙ sym e ∙ loaded-as c there) ∙ sym are_there)

pub images-one : (b c : List ℕ) (ss : List Segment) → is_loaded_kind b ≡ true → is_loaded_kind c ≡ true → ss ≡ segments_of b → ss ≡ segments_of c → (LoadsAgree b c ss → ⊥)
    → loaded_bytes c ≡ loaded_bytes b → ⊥
images-one b c ss kind there are are_there differ e =
    differ
    (ap (λ (xs : List Segment). map (segment_image c) (filter is_load xs)) are_there
    ∙ ap (λ (x : Loaded). x.images) (sym (loaded-as c there) ∙ e ∙ loaded-as b kind)
    ∙ ap (λ (xs : List Segment). map (segment_image b) (filter is_load xs)) (sym are))

pub ruleset image_laws = (images-same, segments-one, images-one)

pub sections-same : (b c : List ℕ) → is_loaded_kind b ≡ false → is_loaded_kind c ≡ false → AllocsAgree b c 0 0 → loaded_bytes c ≡ loaded_bytes b
sections-same b c kind there agree =
    allocs-as c there ∙ ap (λ (is : List (List (Option ℕ))). record { segments = []; images = is }) agree ∙ sym (allocs-as b kind)

pub sections-one : (b c : List ℕ) → is_loaded_kind b ≡ false → is_loaded_kind c ≡ false → (AllocsAgree b c 0 0 → ⊥) → loaded_bytes c ≡ loaded_bytes b → ⊥
sections-one b c kind there differ e = differ (ap (λ (x : Loaded). x.images) (sym (allocs-as c there) ∙ e ∙ allocs-as b kind))

pub ruleset section_laws = (sections-same, sections-one)

-- ### Kinds, as the code has them

pub first-loaded : (b c : List ℕ) (k l : Bool) → k ≡ is_loaded_kind b → l ≡ is_loaded_kind c → k ≡ true → l ≡ false → AreOfTwoKinds b c
first-loaded b c k l one there is other = record { other = λ e. let never : true ≡ false = sym is ∙ one ∙ e ∙ sym there ∙ other in cc }

pub second-loaded : (b c : List ℕ) (k l : Bool) → k ≡ is_loaded_kind b → l ≡ is_loaded_kind c → k ≡ false → l ≡ true → AreOfTwoKinds b c
second-loaded b c k l one there is other = record { other = λ e. let never : false ≡ true = sym is ∙ one ∙ e ∙ sym there ∙ other in cc }

pub kind-is : (b : List ℕ) (k : Bool) → k ≡ is_loaded_kind b → k ≡ true → is_loaded_kind b ≡ true
kind-is b k one is = sym one ∙ is

pub kind-not : (b : List ℕ) (k : Bool) → k ≡ is_loaded_kind b → k ≡ false → is_loaded_kind b ≡ false
kind-not b k one is = sym one ∙ is

pub ruleset loaded_laws = (first-loaded, second-loaded, kind-is, kind-not)
