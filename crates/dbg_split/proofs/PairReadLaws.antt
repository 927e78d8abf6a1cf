-- The two files of a split are a pair, and can be read for their sections where the file can.
use Rattle.std.proofs.Common.{◌≡◌, ◌≢◌, ℕ, zero, suc, ◌<◌, ◌≤◌, ◌^◌, ◌==◌, ◌&&◌, not, Bool, true, false, List, if◌then◌else◌, bit_and, refl, sym, ap, ◌∙◌, arith, inl, inr, subst}
use Rattle.std.proofs.lemmas.Bool.{cases_Bool, cases_lt}
use Rattle.dw_base.specs.DebugSectionFails.{DebugSectionsRead, IsSecond, NameReads, is_active, repeats_by}
use Rattle.dw_base.specs.DebugSections.{debug_section, is_listed}
use Rattle.dw_base.specs.Elf.{contents_of, e_type, name_index, nth_section, order_of, section_count, section_name}
use Rattle.dw_base.specs.SectionNames.{debug_link}
use Rattle.dw_base.specs.Texts.{has_nul, same_text}
use Rattle.dw_base.specs.declared.elf_numbers.TheConstants.{ET_REL, SHF_COMPRESSED, SHT_NOBITS, SHT_NULL}
use Rattle.dw_base.specs.declared.records.Section.{Section}
use Rattle.dw_base.specs.declared.shared.Order.{Order}
use Rattle.dw_base.proofs.TextLaws.{same_text-from}
use Rattle.debug_link.specs.Links.{IsLink, link_of}
use Rattle.debug_link.specs.Sums.{crc32}
use Rattle.debug_link.proofs.LinkLaws.{link-read_back}
use Rattle.dw_view.specs.Pairs.{IsPaired, link_in}
use Rattle.dw_view.proofs.PairingLaws.{called-first}
use Rattle.dbg_split.specs.DebugFile.{becomes_nobits, debug_file}
use Rattle.dbg_split.specs.Droppable.{is_droppable}
use Rattle.dbg_split.specs.SplitFails.{is_link}
use Rattle.dbg_split.specs.SplitFails.SectionBars.{linked}
use Rattle.dbg_split.specs.StrippedFile.{kept_before}
use Rattle.dbg_split.specs.StrippedReads.{IsKept, ReadsStripped}
use Rattle.dbg_split.proofs.JoinLaws.{IsPair, eq-false, head-flags, kind-debug, never, nobits-full}
use Rattle.dbg_split.proofs.SplitLoadedLaws.{next-number, same-number}
use Rattle.dbg_split.proofs.StrippedFitLaws.{IsSplit, names-kept}

-- each number below that of the link is that of a kept section
record IsNumber (b : List ℕ) (n j : ℕ) : Type 0 where
  pub old : ℕ
  pub below : old < n
  pub kept : is_droppable b old ≡ false
  pub is : kept_before b old ≡ j

number-of : (b : List ℕ) (n j : ℕ) → j < kept_before b n → IsNumber b n j
number-of b zero j lt = absurd (omega arith)
number-of b (suc n) j lt =
    elim (cases_Bool (is_droppable b n)) [
      | inl dropped ↦
          let same = same-number b n dropped in
          further b n j (number-of b n j (omega arith))
      | inr kept ↦
          let next = next-number b n kept in
          elim (cases_lt j (kept_before b n)) [
            | inl below ↦ further b n j (number-of b n j below)
            | inr past ↦ record { old = n; below = omega arith; kept = kept; is = omega arith }
          ]
    ]
  where
    further : (b : List ℕ) (n j : ℕ) → IsNumber b n j → IsNumber b (suc n) j
    further b n j h = let below = h.below in record { old = h.old; below = omega arith; kept = h.kept; is = h.is }

-- a number is less than another where its section stands before
before-most : (b : List ℕ) (m n : ℕ) → m ≤ n → kept_before b m ≤ kept_before b n
before-most b m zero le = let e : m ≡ zero = omega arith in subst (λ (k : ℕ). kept_before b k ≤ kept_before b zero) (sym e) (omega arith)
before-most b m (suc n) le =
    elim (cases_lt n m) [
      | inl above ↦ (let e : m ≡ suc n = omega arith in subst (λ (k : ℕ). kept_before b k ≤ kept_before b (suc n)) (sym e) (omega arith))
      | inr below ↦
          let before = before-most b m n below in
          elim (cases_Bool (is_droppable b n)) [
            | inl dropped ↦ omega (arith, same-number b n dropped)
            | inr kept ↦ omega (arith, next-number b n kept)
          ]
    ]

numbers-order : (b : List ℕ) (m n : ℕ) → kept_before b m < kept_before b n → m < n
numbers-order b m n lt =
    elim (cases_lt m n) [
      | inl below ↦ below
      | inr past ↦ absurd (omega (arith, before-most b n m past))
    ]

-- no kept section is a link, so the link is the first of its name
link-no : (b : List ℕ) (i : ℕ) → is_link b i ≡ same_text (section_name b i) debug_link
unfolding is_link
link-no b i = refl

no-link : (b : List ℕ) (i : ℕ) → IsSplit b → i < section_count b → same_text (section_name b i) debug_link ≡ false
no-link b i w lt = sym (link-no b i) ∙ never (is_link b i) (λ is. w.free i _ lt (linked is))

no-link-before : (b name s : List ℕ) (j : ℕ) → IsSplit b → ReadsStripped b name s → j < kept_before b (section_count b) → same_text (section_name s j) debug_link ≡ false
no-link-before b name s j w r lt =
    let of : IsNumber b (section_count b) j = number-of b (section_count b) j lt in
    ap (λ (k : ℕ). same_text (section_name s k) debug_link) (sym of.is)
    ∙ ap (λ (t : List ℕ). same_text t debug_link) (r.names of.old (record { there = of.below; kept = of.kept }))
    ∙ no-link b of.old w of.below

link-found : (b name s : List ℕ) → IsSplit b → ReadsStripped b name s → link_in s ≡ link_of (order_of b) name (crc32 (debug_file b))
unfolding link_in
link-found b name s w r =
    let last = kept_before b (section_count b) in
    let count = r.count in
    let here : same_text (section_name s last) debug_link ≡ true = same_text-from (section_name s last) debug_link r.link_name in
    sym (called-first s debug_link (contents_of s last) last true (omega arith) (λ k lt. no-link-before b name s k w r lt) (sym here) refl refl) ∙ r.link

sum-small : (bytes : List ℕ) → crc32 bytes < 2 ^ 32
unfolding crc32
sum-small bytes = omega arith

pub is-paired : (b name d s : List ℕ) → IsPair b name d s → d ≡ debug_file b → has_nul name ≡ false → IsPaired s d name
is-paired b name d s p d_is plain =
    let link = link-found b name s p.split p.stripped in
    record {
      link =
          subst (λ (o : Order). IsLink o (link_in s) name (crc32 d)) (sym p.stripped.order_is)
          (subst (λ (x : List ℕ). IsLink (order_of b) (link_in s) name (crc32 x)) (sym d_is)
          (link-read_back (order_of b) name (link_in s) (crc32 (debug_file b)) link (sum-small (debug_file b)) plain));
    }

-- a section of a file that was made of another is one of that, or the link
data Carried (b out : List ℕ) (rank : ℕ → ℕ) (j : ℕ) : Type 0 where
  old : (i : ℕ) → i < section_count b → rank i ≡ j → section_name out j ≡ section_name b i → (nth_section out j).flags ≡ (nth_section b i).flags
      → (is_active (nth_section out j) ≡ true → is_active (nth_section b i) ≡ true) → Carried b out rank j
  added : section_name out j ≡ debug_link → Carried b out rank j

link-reads : (name : List ℕ) (s : Section) → name ≡ debug_link → NameReads name s
link-reads name s is = subst (λ (n : List ℕ). NameReads n s) (sym is) (record {
  plain = λ named. (let no : false ≡ true = named in absurd cc);
  not_zdebug = refl;
  not_supplementary = refl;
  not_split = refl;
  listed = λ named. (let no : false ≡ true = named in absurd cc);
})

link-unlisted : is_listed debug_link ≡ false
unfolding is_listed
link-unlisted = refl

name-carried : (out b : List ℕ) (j i : ℕ) → section_name out j ≡ section_name b i → (nth_section out j).flags ≡ (nth_section b i).flags
    → NameReads (section_name b i) (nth_section b i) → NameReads (section_name out j) (nth_section out j)
name-carried out b j i name flags r = subst (λ (n : List ℕ). NameReads n (nth_section out j)) (sym name) (record {
  plain = λ named. ap (λ (f : ℕ). bit_and f SHF_COMPRESSED) flags ∙ r.plain named;
  not_zdebug = r.not_zdebug;
  not_supplementary = r.not_supplementary;
  not_split = r.not_split;
  listed = r.listed;
})

named-carried : (b out : List ℕ) (rank : ℕ → ℕ) (j : ℕ) → Carried b out rank j → DebugSectionsRead b → is_active (nth_section out j) ≡ true
    → NameReads (section_name out j) (nth_section out j)
named-carried b out rank j (old i lt is name flags active) r now = name-carried out b j i name flags (r.named i lt (active now))
named-carried b out rank j (added name) r now = link-reads (section_name out j) (nth_section out j) name

once-carried : (b out : List ℕ) (rank : ℕ → ℕ) (i j : ℕ) → e_type out ≡ e_type b → ((m n : ℕ) → rank m < rank n → m < n) → Carried b out rank i → Carried b out rank j
    → DebugSectionsRead b → IsSecond out i j → ⊥
once-carried b out rank i j type order first (added name) r second =
    let no : true ≡ false = sym second.listed ∙ ap is_listed name ∙ link-unlisted in
    absurd cc
once-carried b out rank i j type order (added name) (old n lt is called flags active) r second =
    let no : true ≡ false = sym second.listed ∙ ap is_listed (sym second.same ∙ name) ∙ link-unlisted in
    absurd cc
once-carried b out rank i j type order (old m m_lt m_is m_called m_flags m_active) (old n n_lt n_is n_called n_flags n_active) r second =
    let before = second.before in
    r.once m n n_lt (record {
      before = order m n (omega (arith, m_is, n_is));
      first_active = m_active second.first_active;
      active = n_active second.active;
      same = sym m_called ∙ second.same ∙ n_called;
      listed = ap is_listed (sym n_called) ∙ second.listed;
      single =
          ap (λ (t : ℕ). t == ET_REL && repeats_by (debug_section (section_name b n))) (sym type)
          ∙ ap (λ (x : List ℕ). e_type out == ET_REL && repeats_by (debug_section x)) (sym n_called) ∙ second.single;
    })

sections-carried : (b out : List ℕ) (rank : ℕ → ℕ) → e_type out ≡ e_type b → ((m n : ℕ) → rank m < rank n → m < n)
    → ((j : ℕ) → j < section_count out → Carried b out rank j) → section_name out (name_index out) ≡ section_name b (name_index b) → name_index b ≢ 0
    → DebugSectionsRead b → DebugSectionsRead out
sections-carried b out rank type order each names some r = record {
  file_type = rw type r.file_type;
  named = λ j lt active. named-carried b out rank j (each j lt) r active;
  once = λ i j lt second.
      let before = second.before in
      once-carried b out rank i j type order (each i (omega arith)) (each j lt) r second;
  apart = λ named. ap is_listed names ∙ r.apart some;
}

-- the debug file
active-debug : (b name d s : List ℕ) (j : ℕ) → IsPair b name d s → j < section_count b → is_active (nth_section d j) ≡ true → is_active (nth_section b j) ≡ true
active-debug b name d s j p lt active =
    elim (cases_Bool (becomes_nobits b j)) [
      | inl nobits ↦ ap not (eq-false (nth_section b j).kind SHT_NULL (nobits-full b j nobits))
      | inr stays ↦
          let kind : (nth_section d j).kind ≡ (nth_section b j).kind =
          kind-debug b name d s j p lt ∙ ap (λ (t : Bool). if t then SHT_NOBITS else (nth_section b j).kind) stays in
          ap (λ (k : ℕ). not (k == SHT_NULL)) (sym kind) ∙ active
    ]

pub debug-sections : (b name d s : List ℕ) → IsPair b name d s → e_type d ≡ e_type b → DebugSectionsRead b → DebugSectionsRead d
debug-sections b name d s p type r =
    let there = p.split.reads.debug.index.there p.split.named in
    sections-carried b d (λ i. i) type (λ m n lt. lt)
    (λ j lt.
    let here : j < section_count b = subst (λ (k : ℕ). j < k) p.debug.count lt in
    old j here refl (p.debug.names j here) ((p.debug.heads j here).flags ∙ head-flags b j) (λ active. active-debug b name d s j p here active))
    (ap (section_name d) p.debug.named ∙ p.debug.names (name_index b) there) p.split.named r

-- the stripped file
carried-stripped : (b name d s : List ℕ) (j : ℕ) → IsPair b name d s → j < section_count s → Carried b s (kept_before b) j
carried-stripped b name d s j p lt =
    let count = p.stripped.count in
    elim (cases_lt j (kept_before b (section_count b))) [
      | inl below ↦
          let of : IsNumber b (section_count b) j = number-of b (section_count b) j below in
          let is : IsKept b of.old = record { there = of.below; kept = of.kept } in
          let head = p.stripped.heads of.old is in
          old of.old of.below of.is
          (ap (section_name s) (sym of.is) ∙ p.stripped.names of.old is)
          (ap (λ (k : ℕ). (nth_section s k).flags) (sym of.is) ∙ head.flags)
          (λ active. ap (λ (k : ℕ). not (k == SHT_NULL)) (sym head.kind) ∙ ap (λ (k : ℕ). is_active (nth_section s k)) of.is ∙ active)
      | inr past ↦
          let last : j ≡ kept_before b (section_count b) = omega arith in
          added (ap (section_name s) last ∙ p.stripped.link_name)
    ]

pub stripped-sections : (b name d s : List ℕ) → IsPair b name d s → e_type s ≡ e_type b → DebugSectionsRead b → DebugSectionsRead s
stripped-sections b name d s p type r =
    sections-carried b s (kept_before b) type (numbers-order b) (λ j lt. carried-stripped b name d s j p lt)
    (ap (section_name s) p.stripped.named ∙ p.stripped.names (name_index b) (names-kept b p.split)) p.split.named r
