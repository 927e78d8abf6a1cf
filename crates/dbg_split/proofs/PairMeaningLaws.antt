-- A pair means what the file meant that was split.
use Rattle.std.proofs.Common.{◌≡◌, ℕ, zero, suc, ◌+◌, ◌<◌, ◌&&◌, ◌||◌, not, Bool, true, false, List, [], ◌∷◌, get_or, if◌then◌else◌, refl, sym, ap, ◌∙◌, inl, inr, subst}
use Rattle.std.proofs.lemmas.Bool.{cases_Bool}
use Rattle.std.specs.Prelude.{Option, Some, None}
use Rattle.dw_base.specs.DebugData.{DebugData, DataReadings}
use Rattle.dw_base.specs.DebugSections.{debug_section, name_of, read_sections, section_in}
use Rattle.dw_base.specs.Elf.{is_empty_kind, nth_section, order_of, section_count, section_name}
use Rattle.dw_base.specs.FileViews.{View, ViewSection, bytes_in, plain_contents, view_of, view_section}
use Rattle.dw_base.specs.Layout.{is_alloc}
use Rattle.dw_base.specs.Lists.{tabulate}
use Rattle.dw_base.specs.Notes.{BuildId, build_id_of, zeroed}
use Rattle.dw_base.specs.RelocationRows.{moving_from, moving_sections}
use Rattle.dw_base.specs.RelocationSectionFails.{moves}
use Rattle.dw_base.specs.SectionNames.{debug_link}
use Rattle.dw_base.specs.Texts.{same_text}
use Rattle.dw_base.specs.ViewData.{NamedBytes, debug_data, is_other, is_read, meaning_of, other_sections, without_id, zeroed_at}
use Rattle.dw_base.specs.declared.debug_sections.DebugSection.{DebugSection}
use Rattle.dw_base.specs.declared.debug_sections.DebugSection.TheVariants.{Str}
use Rattle.dw_base.proofs.FileViewLaws.{get_or-view_of}
use Rattle.dw_meaning.specs.DataOutput.{DataReads}
use Rattle.dw_meaning.proofs.DataOneLaws.{data-one}
use Rattle.dw_meaning.proofs.FileBackLaws.{AllAt, tabulate-at}
use Rattle.dw_meaning.proofs.ReadAlikeLaws.{AllReadAlike, ReadAlike, data-alike, located-alike, meaning-alike}
use Rattle.dw_meaning.proofs.ReadAlikeLaws.ReadAlike.{equal, unread}
use Rattle.dw_meaning.proofs.MeansLaws.{view-means-made}
use Rattle.dbg_split.specs.PairMeanings.{MeansAsOne}
use Rattle.dw_view.specs.PairViews.{pair_section, pair_view}
use Rattle.dbg_split.specs.PairViews.{JoinsTo, SameSection}
use Rattle.dbg_split.specs.ReadNames.{is_one_of, is_read_name}
use Rattle.dbg_split.specs.SplitFails.SectionBars.{loaded}
use Rattle.dbg_split.proofs.JoinLaws.{IsPair, never, pair-joins}
use Rattle.dbg_split.proofs.PairIdLaws.{IdMoves, same_id, unloaded_id, id-moves}
use Rattle.dbg_split.proofs.StrippedFitLaws.{IsSplit}

-- a name that isn't read is that of no section that is
not-one : (ss : List DebugSection) (name : List ℕ) → is_one_of ss name ≡ false → section_in ss name ≡ None
not-one [] name none = refl
not-one (s ∷ ss) name none = by_name (same_text name (name_of s)) none (not-one ss name)
  where
    by_name : (t : Bool) → (if t then true else is_one_of ss name) ≡ false → (is_one_of ss name ≡ false → section_in ss name ≡ None)
        → (if t then Some s else section_in ss name) ≡ None
    by_name true h rest = let no : true ≡ false = h in cc
    by_name false h rest = rest h

unread-none : (name : List ℕ) → is_read_name name ≡ false → debug_section name ≡ None
unfolding is_read_name debug_section
unread-none name none = not-one read_sections name none

all-three : (x y z : Bool) → x ≡ true → y ≡ false → z ≡ true → (x && not y && z) ≡ true
all-three x y z one two three = rw (one, two, three) refl

-- a section of a file that is split which is loaded, and has bytes, isn't read
loaded-unread : (b : List ℕ) (i : ℕ) → IsSplit b → i < section_count b → is_alloc (nth_section b i) ≡ true → is_empty_kind (nth_section b i) ≡ false
    → debug_section (section_name b i) ≡ None
loaded-unread b i w lt alloc full =
    unread-none (section_name b i)
    (never (is_read_name (section_name b i))
    (λ read. w.free i _ lt (loaded (all-three (is_alloc (nth_section b i)) (is_empty_kind (nth_section b i)) (is_read_name (section_name b i)) alloc full read))))

-- the parts of a file's view
view-name : (b : List ℕ) (i : ℕ) → (view_section b i).name ≡ section_name b i
unfolding view_section
view-name b i = refl

view-sections : (b : List ℕ) → (view_of b).sections ≡ tabulate (view_section b) (section_count b)
unfolding view_of
view-sections b = refl

view-order : (b : List ℕ) → (view_of b).order ≡ order_of b
unfolding view_of
view-order b = refl

view-id : (b : List ℕ) → (view_of b).id ≡ build_id_of b
unfolding view_of
view-id b = refl

-- two sections of views: the same one, or two that are loaded, of one name that isn't read
data Joined (new old : ViewSection) : Type 0 where
  entire : new ≡ old → Joined new old
  name_alone : SameSection new old → old.alloc ≡ true → debug_section old.name ≡ None → Joined new old

view-alloc : (b : List ℕ) (i : ℕ) → (view_section b i).alloc ≡ is_alloc (nth_section b i)
unfolding view_section
view-alloc b i = refl

section-joined : (b d s : List ℕ) (i : ℕ) → IsSplit b → JoinsTo b d s → i < section_count b → Joined (pair_section d s i) (view_section b i)
section-joined b d s i w j lt =
    elim (cases_Bool (is_alloc (nth_section b i))) [
      | inl alloc ↦
          elim (cases_Bool (is_empty_kind (nth_section b i))) [
            | inl empty ↦ entire (j.empty i lt empty)
            | inr full ↦
                name_alone (j.named i lt) (view-alloc b i ∙ alloc)
                (ap debug_section (view-name b i) ∙ loaded-unread b i w lt alloc full)
          ]
      | inr plain ↦ entire (j.sections i lt plain)
    ]

-- the sections of both views
abbrev AllJoined : ℕ → List ViewSection → List ViewSection → Type 0
AllJoined k ss ts = AllAt (λ (i : ℕ) (s t : ViewSection). Joined s t) k ss ts

pair-sections : (d s : List ℕ) → (pair_view d s).sections ≡ tabulate (pair_section d s) (section_count d)
unfolding pair_view
pair-sections d s = refl

sections-joined : (b d s : List ℕ) → IsSplit b → JoinsTo b d s → AllJoined 0 (pair_view d s).sections (view_of b).sections
sections-joined b d s w j =
    subst (λ (ss : List ViewSection). AllJoined 0 ss (view_of b).sections)
    (sym (pair-sections d s ∙ ap (λ (n : ℕ). tabulate (pair_section d s) n) j.count))
    (subst (λ (ts : List ViewSection). AllJoined 0 (tabulate (pair_section d s) (section_count b)) ts) (sym (view-sections b))
    (tabulate-at (λ (i : ℕ) (x y : ViewSection). Joined x y) (pair_section d s) (view_section b) (section_count b) (λ i lt. section-joined b d s i w j lt)))

joined-alike : (s t : ViewSection) → Joined s t → ReadAlike s t
joined-alike s t (entire e) = equal e
joined-alike s t (name_alone same alloc none) = unread same.name none

all-alike : (k : ℕ) (ss ts : List ViewSection) → AllJoined k ss ts → AllReadAlike k ss ts
all-alike k [] [] all = tt
all-alike k [] (t ∷ ts) all = absurd all
all-alike k (s ∷ ss) [] all = absurd all
all-alike k (s ∷ ss) (t ∷ ts) all = (joined-alike s t all.0, all-alike (suc k) ss ts all.1)

-- so the sections whose places change have the same numbers
joined-name : (s t : ViewSection) → Joined s t → s.name ≡ t.name
joined-name s t (entire e) = ap (λ (x : ViewSection). x.name) e
joined-name s t (name_alone same alloc none) = same.name

moving-joined : (i k : ℕ) (ss ts : List ViewSection) → AllJoined k ss ts → moving_from i ss ≡ moving_from i ts
moving-joined i k [] [] all = refl
moving-joined i k [] (t ∷ ts) all = absurd all
moving-joined i k (s ∷ ss) [] all = absurd all
moving-joined i k (s ∷ ss) (t ∷ ts) all =
    ap (λ (n : List ℕ). if moves (debug_section n) then i ∷ moving_from (i + 1) ss else moving_from (i + 1) ss) (joined-name s t all.0)
    ∙ ap (λ (l : List ℕ). if moves (debug_section t.name) then i ∷ l else l) (moving-joined (i + 1) (suc k) ss ts all.1)

moving-is : (v : View) → moving_sections v ≡ moving_from 0 v.sections
unfolding moving_sections
moving-is v = refl

-- the sections that are meant as they stand
record Meant (new old : ViewSection) : Type 0 where
  pub same : SameSection new old
  pub contents : old.alloc ≡ false → new.contents ≡ old.contents

abbrev AllMeant : ℕ → List ViewSection → List ViewSection → Type 0
AllMeant k ss ts = AllAt (λ (i : ℕ) (s t : ViewSection). Meant s t) k ss ts

same-equal : (s t : ViewSection) → s ≡ t → SameSection s t
same-equal s t e = record {
  name = ap (λ (x : ViewSection). x.name) e;
  alloc = ap (λ (x : ViewSection). x.alloc) e;
  is_name_table = ap (λ (x : ViewSection). x.is_name_table) e;
  relocates_read = ap (λ (x : ViewSection). x.relocates_read) e;
}

joined-meant : (s t : ViewSection) → Joined s t → Meant s t
joined-meant s t (entire e) = record { same = same-equal s t e; contents = λ plain. ap (λ (x : ViewSection). x.contents) e }
joined-meant s t (name_alone same alloc none) = record { same = same; contents = λ plain. (let no : true ≡ false = sym alloc ∙ plain in absurd cc) }

all-meant : (k : ℕ) (ss ts : List ViewSection) → AllJoined k ss ts → AllMeant k ss ts
all-meant k [] [] all = tt
all-meant k [] (t ∷ ts) all = absurd all
all-meant k (s ∷ ss) [] all = absurd all
all-meant k (s ∷ ss) (t ∷ ts) all = (joined-meant s t all.0, all-meant (suc k) ss ts all.1)

-- with the bytes of a build-id as zeros in both, or in a section of the second that is loaded
zeroed-meant : (id : BuildId) (s t : ViewSection) → Meant s t
    → Meant (record s { contents = plain_contents (zeroed id.descriptor (bytes_in s.contents)) }) (record t { contents = plain_contents (zeroed id.descriptor (bytes_in t.contents)) })
zeroed-meant id s t h = record {
  same = record { name = h.same.name; alloc = h.same.alloc; is_name_table = h.same.is_name_table; relocates_read = h.same.relocates_read };
  contents = λ plain. ap (zeroed id.descriptor) (h.contents plain);
}

zeroed-all : (i k : ℕ) (id : BuildId) (ss ts : List ViewSection) → AllMeant k ss ts → AllMeant k (zeroed_at i id ss) (zeroed_at i id ts)
zeroed-all i k id [] [] all = tt
zeroed-all i k id [] (t ∷ ts) all = absurd all
zeroed-all i k id (s ∷ ss) [] all = absurd all
zeroed-all zero k id (s ∷ ss) (t ∷ ts) all = (zeroed-meant id s t all.0, all.1)
zeroed-all (suc i) k id (s ∷ ss) (t ∷ ts) all = (all.0, zeroed-all i (suc k) id ss ts all.1)

without-all : (id : Option BuildId) (ss ts : List ViewSection) → AllMeant 0 ss ts → AllMeant 0 (without_id id ss) (without_id id ts)
without-all None ss ts all = all
without-all (Some id) ss ts all = zeroed-all id.section 0 id ss ts all

loaded-meant : (id : BuildId) (s t : ViewSection) → t.alloc ≡ true → Meant s t
    → Meant s (record t { contents = plain_contents (zeroed id.descriptor (bytes_in t.contents)) })
loaded-meant id s t alloc h = record {
  same = record { name = h.same.name; alloc = h.same.alloc; is_name_table = h.same.is_name_table; relocates_read = h.same.relocates_read };
  contents = λ plain. (let no : true ≡ false = sym alloc ∙ plain in absurd cc);
}

zeroed-loaded : (i k : ℕ) (id : BuildId) (x : ViewSection) (ss ts : List ViewSection) → (get_or ts i x).alloc ≡ true → AllMeant k ss ts → AllMeant k ss (zeroed_at i id ts)
zeroed-loaded i k id x [] [] alloc all = tt
zeroed-loaded i k id x [] (t ∷ ts) alloc all = absurd all
zeroed-loaded i k id x (s ∷ ss) [] alloc all = absurd all
zeroed-loaded zero k id x (s ∷ ss) (t ∷ ts) alloc all = (loaded-meant id s t alloc all.0, all.1)
zeroed-loaded (suc i) k id x (s ∷ ss) (t ∷ ts) alloc all = (all.0, zeroed-loaded i (suc k) id x ss ts alloc all.1)

-- they are the same
other-same : (s t : ViewSection) → SameSection s t → is_other s ≡ is_other t
other-same s t h = rw (h.name, h.alloc, h.is_name_table, h.relocates_read) refl

other-plain : (t : ViewSection) → is_other t ≡ true → t.alloc ≡ false
other-plain t is = by_alloc t.alloc (t.is_name_table) (is_read (debug_section t.name)) (same_text t.name debug_link) t.relocates_read is
  where
    by_alloc : (a n r l h : Bool) → not (a || n || r || l || h) ≡ true → a ≡ false
    by_alloc true n r l h e = let no : false ≡ true = e in cc
    by_alloc false n r l h e = refl

abbrev under_name : ViewSection → NamedBytes
under_name s = record { name = s.name; bytes = bytes_in s.contents }

under-same : (s t : ViewSection) (os : List NamedBytes) (x : Bool) → Meant s t → is_other t ≡ x
    → (if x then under_name s ∷ os else os) ≡ (if x then under_name t ∷ os else os)
under-same s t os true h is =
    ap (λ (n : List ℕ). record { name = n; bytes = bytes_in s.contents } ∷ os) h.same.name
    ∙ ap (λ (p : List ℕ). record { name = t.name; bytes = p } ∷ os) (h.contents (other-plain t is))
under-same s t os false h is = refl

others-meant : (k : ℕ) (ss ts : List ViewSection) → AllMeant k ss ts → other_sections ss ≡ other_sections ts
others-meant k [] [] all = refl
others-meant k [] (t ∷ ts) all = absurd all
others-meant k (s ∷ ss) [] all = absurd all
others-meant k (s ∷ ss) (t ∷ ts) all =
    ap (λ (x : Bool). if x then under_name s ∷ other_sections ss else other_sections ss) (other-same s t all.0.same)
    ∙ ap (λ (os : List NamedBytes). if is_other t then under_name s ∷ os else os) (others-meant (suc k) ss ts all.1)
    ∙ under-same s t (other_sections ts) (is_other t) all.0 refl

others-alike : (b d s : List ℕ) → AllMeant 0 (pair_view d s).sections (view_of b).sections → IdMoves b d s
    → other_sections (without_id (pair_view d s).id (pair_view d s).sections) ≡ other_sections (without_id (view_of b).id (view_of b).sections)
others-alike b d s all (same_id is) =
    ap (λ (id : Option BuildId). other_sections (without_id id (pair_view d s).sections)) (is ∙ sym (view-id b))
    ∙ others-meant 0 (without_id (view_of b).id (pair_view d s).sections) (without_id (view_of b).id (view_of b).sections)
    (without-all (view_of b).id (pair_view d s).sections (view_of b).sections all)
others-alike b d s all (unloaded_id id old new lt alloc) =
    let x = view_section b id.section in
    let here : (get_or (view_of b).sections id.section x).alloc ≡ true =
    ap (λ (t : ViewSection). t.alloc) (get_or-view_of b id.section x lt) ∙ view-alloc b id.section ∙ alloc in
    ap (λ (o : Option BuildId). other_sections (without_id o (pair_view d s).sections)) new
    ∙ others-meant 0 (pair_view d s).sections (zeroed_at id.section id (view_of b).sections)
    (zeroed-loaded id.section 0 id x (pair_view d s).sections (view_of b).sections here all)
    ∙ sym (ap (λ (o : Option BuildId). other_sections (without_id o (view_of b).sections)) (view-id b ∙ old))

-- so both mean the same
pair-order : (d s : List ℕ) → (pair_view d s).order ≡ order_of d
unfolding pair_view
pair-order d s = refl

pub means-as-one : (b name d s : List ℕ) → IsPair b name d s → MeansAsOne b d s
means-as-one b name d s p =
    let v = pair_view d s in
    let w = view_of b in
    let joins = pair-joins b name d s p in
    let joined = sections-joined b d s p.split joins in
    let all = all-alike 0 v.sections w.sections joined in
    let order : v.order ≡ w.order = pair-order d s ∙ joins.order_is ∙ sym (view-order b) in
    let data_same : debug_data v ≡ debug_data w = data-alike v w order all in
    let others = others-alike b d s (all-meant 0 v.sections w.sections joined) (id-moves b name d s p) in
    let same : (r : DataReadings) → meaning_of v r ≡ meaning_of w r =
    λ r. meaning-alike v w r order data_same (located-alike v w Str all) others in
    record {
      same_data = data_same;
      same_moving = moving-is v ∙ moving-joined 0 0 v.sections w.sections joined ∙ sym (moving-is w);
      same_meaning = same;
      means = λ x is.
          view-means-made v is.readings x (subst (λ (g : DebugData). DataReads g is.readings) (sym data_same) is.reads.data_reads) (same is.readings ∙ is.says);
      one = λ x y is found.
          let readings : found.readings ≡ is.readings =
          data-one (debug_data w) found.readings is.readings (subst (λ (g : DebugData). DataReads g found.readings) data_same found.reads) is.reads.data_reads in
          sym found.says ∙ same found.readings ∙ ap (λ (r : DataReadings). meaning_of w r) readings ∙ is.says;
    }
