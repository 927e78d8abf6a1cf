-- Laws of the sections of a view, of one file or of a pair.
use Rattle.std.proofs.Common.{◌≡◌, ℕ, zero, suc, ◌<◌, ◌≤◌, ◌==◌, ◌&&◌, not, Bool, true, false, if◌then◌else◌, List, [], ◌∷◌, length, get_or, take, drop, refl, sym, ap, ◌∙◌, arith, inl, inr, subst}
use Rattle.std.proofs.lemmas.Bool.{cases_Bool}
use Rattle.std.proofs.lemmas.Bool.Decides.{nat_tests}
use Rattle.std.proofs.lemmas.List.{length-take, length-drop}
use Rattle.std.specs.Prelude.{Option, Some, None, option_map}
use Rattle.dw_base.specs.Elf.{contents_at, contents_of, is_empty_kind, nth_section, order_of, section_count, section_name}
use Rattle.dw_base.specs.FileViews.{View, ViewSection, bytes_in, contents_in, is_name_section, relocations_there, section_bytes, view_of, view_relocations, view_section}
use Rattle.dw_base.specs.Layout.{is_alloc}
use Rattle.dw_base.specs.SectionRelocations.{relocations_of}
use Rattle.dw_base.specs.declared.elf_numbers.TheConstants.{SHT_NOBITS}
use Rattle.dw_base.specs.declared.records.Section.{Section}
use Rattle.dw_base.proofs.FileViewLaws.{get_or-view_of, length-view_of, order-view_of, section_bytes-view_of}
use Rattle.dw_base.proofs.ListLaws.{get_or-tabulate, length-tabulate}
use Rattle.dw_base.proofs.WrittenContents.{contents-empty}
use Rattle.dw_view.specs.PairViews.{found_bytes, found_contents, is_elsewhere, joined_section, pair_section, pair_view, stands_for}
use Rattle.dw_view.specs.SectionParts.{IsPlace, StandsAre, no_section, section_at, stand_of, stands_of, view_by}
use Rattle.dw_view.proofs.CountLaws.{nth-found}

-- the sections of a pair
order-pair : (d s : List ℕ) → (pair_view d s).order ≡ order_of d
unfolding pair_view
order-pair d s = refl

pub length-pair : (d s : List ℕ) → length (pair_view d s).sections ≡ section_count d
unfolding pair_view
length-pair d s = length-tabulate (pair_section d s) (section_count d)

get_or-pair : (d s : List ℕ) (i : ℕ) (x : ViewSection) → i < section_count d → get_or (pair_view d s).sections i x ≡ pair_section d s i
unfolding pair_view
get_or-pair d s i x lt = get_or-tabulate (pair_section d s) (section_count d) i x lt

-- of one file or of a pair
pub order-by : (b : List ℕ) (o : Option (List ℕ)) → order_of b ≡ (view_by b o).order
order-by b None = sym (order-view_of b)
order-by b (Some s) = sym (order-pair b s)

pub length-by : (b : List ℕ) (o : Option (List ℕ)) → length (view_by b o).sections ≡ section_count b
length-by b None = length-view_of b
length-by b (Some s) = length-pair b s

pub section_at-is : (v : View) (i : ℕ) → section_at v i ≡ get_or v.sections i no_section
unfolding section_at
section_at-is v i = refl

section_at-one : (b : List ℕ) (i : ℕ) → i < section_count b → section_at (view_of b) i ≡ view_section b i
section_at-one b i lt = section_at-is (view_of b) i ∙ get_or-view_of b i no_section lt

section_at-pair : (d s : List ℕ) (i : ℕ) → i < section_count d → section_at (pair_view d s) i ≡ pair_section d s i
section_at-pair d s i lt = section_at-is (pair_view d s) i ∙ get_or-pair d s i no_section lt

-- names
name-one : (b : List ℕ) (i : ℕ) → (view_section b i).name ≡ section_name b i
unfolding view_section
name-one b i = refl

name-pair : (d s : List ℕ) (i : ℕ) → (pair_section d s i).name ≡ section_name d i
unfolding pair_section
name-pair d s i = by_test (is_elsewhere d i)
  where
    by_test : (t : Bool) → (if t then joined_section d s i else view_section d i).name ≡ section_name d i
    by_test true = refl
    by_test false = name-one d i

pub name-by : (b : List ℕ) (o : Option (List ℕ)) (i : ℕ) → i < section_count b → (section_at (view_by b o) i).name ≡ section_name b i
name-by b None i lt = ap (λ (x : ViewSection). x.name) (section_at-one b i lt) ∙ name-one b i
name-by b (Some s) i lt = ap (λ (x : ViewSection). x.name) (section_at-pair b s i lt) ∙ name-pair b s i

pub front-by : (b front : List ℕ) (o : Option (List ℕ)) (i size : ℕ) → i < section_count b → front ≡ take size (section_name b i)
    → front ≡ take size (section_at (view_by b o) i).name
front-by b front o i size lt is = is ∙ ap (take size) (sym (name-by b o i lt))

-- bytes
contents_in-at : (ss : List ViewSection) (i : ℕ) (x : ViewSection) → i < length ss → contents_in ss i ≡ (get_or ss i x).contents
contents_in-at [] i x lt = absurd (omega arith)
contents_in-at (s ∷ ss) zero x lt = refl
contents_in-at (s ∷ ss) (suc i) x lt = contents_in-at ss i x (omega arith)

pub bytes-at : (v : View) (i : ℕ) → i < length v.sections → section_bytes v i ≡ bytes_in (section_at v i).contents
unfolding section_bytes section_at
bytes-at v i lt = ap bytes_in (contents_in-at v.sections i no_section lt)

has-one : (b : List ℕ) (i : ℕ) → (view_section b i).has_bytes ≡ not (is_empty_kind (nth_section b i))
unfolding view_section
has-one b i = refl

pub place-one : (b : List ℕ) (i : ℕ) → i < section_count b → IsPlace (view_of b) i b i
place-one b i lt = record {
  has_bytes = ap (λ (x : ViewSection). x.has_bytes) (section_at-one b i lt) ∙ has-one b i;
  bytes = section_bytes-view_of b i lt;
}

-- a section of a pair has its bytes in one of the two
stand-by : (d s : List ℕ) (i : ℕ) (t : Bool) → is_elsewhere d i ≡ t → stand_of d s i ≡ (if t then stands_for d s i else None)
unfolding stand_of
stand-by d s i t is = ap (λ (x : Bool). if x then stands_for d s i else None) is

section-by : (d s : List ℕ) (i : ℕ) (t : Bool) → is_elsewhere d i ≡ t → pair_section d s i ≡ (if t then joined_section d s i else view_section d i)
unfolding pair_section
section-by d s i t is = ap (λ (x : Bool). if x then joined_section d s i else view_section d i) is

pair-bytes : (d s : List ℕ) (i : ℕ) (x : ViewSection) → i < section_count d → pair_section d s i ≡ x → section_bytes (pair_view d s) i ≡ bytes_in x.contents
pair-bytes d s i x lt is =
    let size = length-pair d s in
    bytes-at (pair_view d s) i (omega arith) ∙ ap (λ (y : ViewSection). bytes_in y.contents) (section_at-pair d s i lt ∙ is)

pair-has : (d s : List ℕ) (i : ℕ) (x : ViewSection) → i < section_count d → pair_section d s i ≡ x → (section_at (pair_view d s) i).has_bytes ≡ x.has_bytes
pair-has d s i x lt is = ap (λ (y : ViewSection). y.has_bytes) (section_at-pair d s i lt ∙ is)

view-contents : (b : List ℕ) (i : ℕ) → bytes_in (view_section b i).contents ≡ contents_of b i
unfolding view_section
view-contents b i = refl

pub place-view : (d s : List ℕ) (i : ℕ) → i < section_count d → is_elsewhere d i ≡ false → IsPlace (pair_view d s) i d i
place-view d s i lt here =
    let is = section-by d s i false here in
    record {
      has_bytes = pair-has d s i (view_section d i) lt is ∙ has-one d i;
      bytes = pair-bytes d s i (view_section d i) lt is ∙ view-contents d i;
    }

eq-is : (m n : ℕ) → (m == n) ≡ true → m ≡ n
eq-is m n h = grind (arith, nat_tests)

and-first : (x y z : Bool) → ((x && y) && z) ≡ true → x ≡ true
and-first true y z h = refl
and-first false y z h = let no : false ≡ true = h in cc

elsewhere-kind : (d : List ℕ) (i : ℕ) → is_elsewhere d i ≡ true → (nth_section d i).kind ≡ SHT_NOBITS
elsewhere-kind d i h =
    eq-is (nth_section d i).kind SHT_NOBITS
    (and-first ((nth_section d i).kind == SHT_NOBITS) (not (is_alloc (nth_section d i))) (not (is_name_section d i)) h)

nobits-empty : (s : Section) → s.kind ≡ SHT_NOBITS → is_empty_kind s ≡ true
nobits-empty s is = rw is refl

no-contents : (b : List ℕ) (i : ℕ) → is_empty_kind (nth_section b i) ≡ true → contents_of b i ≡ []
unfolding contents_of
no-contents b i empty = contents-empty b (nth_section b i) empty

joined-with : (d s : List ℕ) (i : ℕ) (o : Option ℕ) → stands_for d s i ≡ o
    → (bytes_in (joined_section d s i).contents ≡ found_contents s o) × ((joined_section d s i).has_bytes ≡ found_bytes s o)
joined-with d s i o is = (ap (found_contents s) is, ap (found_bytes s) is)

place-none : (d s : List ℕ) (i : ℕ) → i < section_count d → is_elsewhere d i ≡ true → stands_for d s i ≡ None → IsPlace (pair_view d s) i d i
place-none d s i lt elsewhere none =
    let is = section-by d s i true elsewhere in
    let joined = joined-with d s i None none in
    let empty = nobits-empty (nth_section d i) (elsewhere-kind d i elsewhere) in
    record {
      has_bytes = pair-has d s i (joined_section d s i) lt is ∙ joined.1 ∙ sym (ap not empty);
      bytes = pair-bytes d s i (joined_section d s i) lt is ∙ joined.0 ∙ sym (no-contents d i empty);
    }

pub place-own : (d s : List ℕ) (i : ℕ) → i < section_count d → stand_of d s i ≡ None → IsPlace (pair_view d s) i d i
place-own d s i lt none =
    elim (cases_Bool (is_elsewhere d i)) [
      | inl elsewhere ↦ place-none d s i lt elsewhere (sym (stand-by d s i true elsewhere) ∙ none)
      | inr here ↦ place-view d s i lt here
    ]

stands-some : (d s : List ℕ) (i j : ℕ) → stand_of d s i ≡ Some j → (is_elsewhere d i ≡ true) × (stands_for d s i ≡ Some j)
stands-some d s i j some =
    elim (cases_Bool (is_elsewhere d i)) [
      | inl elsewhere ↦ (elsewhere, sym (stand-by d s i true elsewhere) ∙ some)
      | inr here ↦ (let no : None ≡ Some j = sym (stand-by d s i false here) ∙ some in absurd cc)
    ]

pub place-stand : (d s : List ℕ) (i j : ℕ) → i < section_count d → stand_of d s i ≡ Some j → IsPlace (pair_view d s) i s j
place-stand d s i j lt some =
    let parts = stands-some d s i j some in
    let is = section-by d s i true parts.0 in
    let joined = joined-with d s i (Some j) parts.1 in
    record {
      has_bytes = pair-has d s i (joined_section d s i) lt is ∙ joined.1;
      bytes = pair-bytes d s i (joined_section d s i) lt is ∙ joined.0;
    }

pub stand-there : (d s : List ℕ) (i j : ℕ) → stand_of d s i ≡ Some j → j < section_count s
unfolding stands_for
stand-there d s i j some = (nth-found _ _ (section_count s) j (stands-some d s i j some).1).below

-- what is kept says which
kept-stand : (d s : List ℕ) (stands : List (Option ℕ)) (i : ℕ) (x o : Option ℕ) → stands ≡ stands_of d s → i < section_count d → o ≡ get_or stands i x → stand_of d s i ≡ o
kept-stand d s stands i x o are lt is = sym (is ∙ ap (λ (os : List (Option ℕ)). get_or os i x) are ∙ get_or-tabulate (stand_of d s) (section_count d) i x lt)

pub kept-place : (d s : List ℕ) (stands : List (Option ℕ)) (i : ℕ) (x o : Option ℕ) → stands ≡ stands_of d s → i < section_count d → o ≡ get_or stands i x → o ≡ None
    → IsPlace (pair_view d s) i d i
kept-place d s stands i x o are lt is none = place-own d s i lt (kept-stand d s stands i x o are lt is ∙ none)

pub kept-stand-place : (d s : List ℕ) (stands : List (Option ℕ)) (i j : ℕ) (x o : Option ℕ) → stands ≡ stands_of d s → i < section_count d → o ≡ get_or stands i x
    → o ≡ Some j → IsPlace (pair_view d s) i s j
kept-stand-place d s stands i j x o are lt is some = place-stand d s i j lt (kept-stand d s stands i x o are lt is ∙ some)

pub kept-stand-there : (d s : List ℕ) (stands : List (Option ℕ)) (i j : ℕ) (x o : Option ℕ) → stands ≡ stands_of d s → i < section_count d → o ≡ get_or stands i x
    → o ≡ Some j → j < section_count s
kept-stand-there d s stands i j x o are lt is some = stand-there d s i j (kept-stand d s stands i x o are lt is ∙ some)

pub stands-length : (d s : List ℕ) (stands : List (Option ℕ)) (i : ℕ) → stands ≡ stands_of d s → i < section_count d → i < length stands
stands-length d s stands i are lt =
    let size = ap (λ (os : List (Option ℕ)). length os) are ∙ length-tabulate (stand_of d s) (section_count d) in
    omega arith

-- relocations are those of the debug file, whose sections have no more bytes
relocations-at : (ss : List ViewSection) (i : ℕ) (x : ViewSection) → i < length ss → relocations_there ss i ≡ (get_or ss i x).relocations
relocations-at [] i x lt = absurd (omega (arith, lt))
relocations-at (s ∷ ss) zero x lt = refl
relocations-at (s ∷ ss) (suc i) x lt = relocations-at ss i x (omega (arith, lt))

own-relocations : (d s : List ℕ) (i : ℕ) → (pair_section d s i).relocations ≡ relocations_of (contents_of d) d i
unfolding pair_section view_section
own-relocations d s i = by_test (is_elsewhere d i)
  where
    by_test : (t : Bool) → (if t then joined_section d s i else view_section d i).relocations ≡ relocations_of (contents_of d) d i
    by_test true = refl
    by_test false = refl

pub pair-relocations : (d s : List ℕ) (i : ℕ) → i < section_count d → view_relocations (pair_view d s) i ≡ relocations_of (contents_of d) d i
unfolding view_relocations
pair-relocations d s i lt =
    let size = length-pair d s in
    relocations-at (pair_view d s).sections i no_section (omega (arith, lt, size))
    ∙ ap (λ (x : ViewSection). x.relocations) (get_or-pair d s i no_section lt) ∙ own-relocations d s i

pub pair-room : (d s : List ℕ) (i : ℕ) → i < section_count d → length (contents_of d i) ≤ length (section_bytes (pair_view d s) i)
pair-room d s i lt = elim (cases_Bool (is_elsewhere d i)) [
  | inl elsewhere ↦
      let empty = ap length (no-contents d i (nobits-empty (nth_section d i) (elsewhere-kind d i elsewhere))) in
      omega (arith, empty)
  | inr here ↦ let same = ap length ((place-view d s i lt here).bytes) in omega (arith, same)
]

-- no section is longer than the file
contents-by : (b rest : List ℕ) (size : ℕ) (t : Bool) → length rest ≤ length b → length (if t then [] else take size rest) ≤ length b
contents-by b rest size true le = omega arith
contents-by b rest size false le = let e = length-take size rest in omega (arith, e)

pub contents-small : (b : List ℕ) (i m : ℕ) → length b ≤ m → length (contents_of b i) ≤ m
unfolding contents_of contents_at
contents-small b i m small =
    let rest : length (drop (nth_section b i).offset b) ≤ length b = omega (arith, length-drop (nth_section b i).offset b) in
    let le = contents-by b (drop (nth_section b i).offset b) (nth_section b i).size (is_empty_kind (nth_section b i)) rest in
    omega arith

-- the code's own
pub stands-one : (b : List ℕ) (stands : List (Option ℕ)) → stands ≡ [] → StandsAre b None stands
stands-one b stands are = record { are = are }

pub stands-pair : (b s : List ℕ) (stands : List (Option ℕ)) → stands ≡ stands_of b s → StandsAre b (Some s) stands
stands-pair b s stands are = record { are = are }

pub ruleset one_laws = (stands-one)

pub ruleset pair_laws = (stands-pair)

pub ruleset order_laws = (order-by)

pub ruleset count_laws = (length-by)

pub ruleset name_laws = (length-by, front-by)

pub ruleset place_laws = (stands-length, kept-place, kept-stand-place, kept-stand-there)

pub ruleset own_laws = (place-one, length-by)

-- one file has all of its sections
pub place-alone : {E : Type 0} (v : View) (b : List ℕ) (f : E → List ℕ) (x : Option E) (i : ℕ) → v ≡ view_by b (option_map f x) → x ≡ None → i < length v.sections
    → IsPlace v i b i
place-alone v b f x i v_is none lt =
    let is : v ≡ view_of b = v_is ∙ ap (λ y. view_by b (option_map f y)) none in
    let here : i < section_count b = subst (λ (n : ℕ). i < n) (ap (λ (w : View). length w.sections) is ∙ length-view_of b) lt in
    subst (λ (w : View). IsPlace w i b i) (sym is) (place-one b i here)

-- a section's bytes, where they are
pub has-place : (v : View) (i j : ℕ) (b : List ℕ) (s : Section) (t : Bool) → IsPlace v i b j → s ≡ nth_section b j → t ≡ is_empty_kind s → not t ≡ (section_at v i).has_bytes
has-place v i j b s t place s_is t_is = ap not (t_is ∙ ap (λ (x : Section). is_empty_kind x) s_is) ∙ sym place.has_bytes

pub bytes-place : (v : View) (i j : ℕ) (b bytes : List ℕ) → IsPlace v i b j → bytes ≡ contents_of b j → bytes ≡ section_bytes v i
bytes-place v i j b bytes place is = is ∙ sym place.bytes

pub bytes-small : (b bytes : List ℕ) (j m : ℕ) → bytes ≡ contents_of b j → length b ≤ m → length bytes ≤ m
bytes-small b bytes j m is small = subst (λ (xs : List ℕ). length xs ≤ m) (sym is) (contents-small b j m small)

pub ruleset byte_laws = (has-place, bytes-place, bytes-small)
