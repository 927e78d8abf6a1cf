-- Where the build-id of a file lies in the part that stays, its output has it at the same place.
use Rattle.std.proofs.Common.{Bool, true, false, ◌≡◌, ◌≢◌, ◌⊎◌, inl, inr, ℕ, ◌+◌, ◌<◌, ◌≤◌, ◌||◌, nat_le, List, length, ap, ◌∙◌, refl, subst, arith}
use Rattle.std.specs.Prelude.{None}
use Rattle.std.proofs.lemmas.Bool.{cases_Bool, cases_lt}
use Rattle.std.proofs.lemmas.Bool.Decides.{nat_tests}
use Rattle.dw_base.specs.Elf.{class_of, ehdr_size, nth_section}
use Rattle.dw_base.specs.ElfFails.{ElfReads}
use Rattle.dw_base.specs.Layout.{fixed_end, is_alloc, is_fixed, is_loaded_kind}
use Rattle.dw_base.specs.Notes.{Descriptor}
use Rattle.dw_base.specs.Paths.{PathMap}
use Rattle.dw_base.specs.declared.records.Section.{Section}
use Rattle.build_ident.specs.IdFails.{IsId, IsIdPlace, IsOwn, id_place, id_section}
use Rattle.build_ident.specs.IdFails.IsIdPlace.{id}
use Rattle.dbg_job.specs.EditedFiles.{IsMapped}
use Rattle.dbg_job.specs.NewIds.{IdFits, KeepsId, with_new_id}
use Rattle.dbg_job.proofs.FixedEndLaws.{output-fixed}
use Rattle.dbg_job.proofs.IdKeptLaws.{id-forth, id-lies, output-id, section-same}
use Rattle.dbg_job.proofs.IdPlaceLaws.{no-new}
use Rattle.dbg_job.proofs.NewIdLaws.{own-is}
use Rattle.dbg_job.proofs.OutputLaws.{bodies_of, output-back, output-fits}

pub old-reads : (m : PathMap) (b out : List ℕ) → IsMapped m b out → ElfReads b
old-reads m b out w = w.accepted.reads.elf

-- a file that isn't loaded as it stands keeps its file header alone
unloaded-end : (b : List ℕ) → is_loaded_kind b ≡ false → fixed_end b ≡ ehdr_size (class_of b)
unfolding fixed_end
unloaded-end b free = rw free refl

-- a section stays that begins in the part that stays, and doesn't lie across its end
fixed-by : (b : List ℕ) (s : Section) → is_loaded_kind b ≡ true → (is_alloc s || nat_le (s.offset + s.size) (fixed_end b)) ≡ true → is_fixed b s ≡ true
unfolding is_fixed
fixed-by b s loaded either = rw (loaded, either) refl

fixed-id : (m : PathMap) (b out : List ℕ) (i : ℕ) (d : Descriptor) → IsMapped m b out → IsId b i d → IsOwn b i d → id_place b i d < fixed_end b
    → is_fixed b (nth_section b i) ≡ true
fixed-id m b out i d w is own below = by_kind (cases_Bool (is_loaded_kind b))
  where
    either-first : (p q : Bool) → p ≡ true → (p || q) ≡ true
    either-first p q e = rw e refl

    either-second : (p q : Bool) → p ≡ false → q ≡ true → (p || q) ≡ true
    either-second p q e f = rw (e, f) refl

    le-is : (n k : ℕ) → n ≤ k → nat_le n k ≡ true
    le-is n k le = grind (arith, nat_tests)

    by_alloc : (is_alloc (nth_section b i) ≡ true) ⊎ (is_alloc (nth_section b i) ≡ false)
        → (is_alloc (nth_section b i) || nat_le ((nth_section b i).offset + (nth_section b i).size) (fixed_end b)) ≡ true
    by_alloc (inl alloc) = either-first (is_alloc (nth_section b i)) (nat_le ((nth_section b i).offset + (nth_section b i).size) (fixed_end b)) alloc
    by_alloc (inr free) = elim (cases_lt (fixed_end b) ((nth_section b i).offset + (nth_section b i).size)) [
      | inl across ↦
          let lies = id-lies b i d is in
          let begins : (nth_section b i).offset < fixed_end b = omega (arith, below) in
          absurd ((output-fits m b out w).across i lies.within (record { bytes = lies.full; alloc = free; begins = begins; ends = across }))
      | inr within ↦
          either-second (is_alloc (nth_section b i)) (nat_le ((nth_section b i).offset + (nth_section b i).size) (fixed_end b)) free
          (le-is ((nth_section b i).offset + (nth_section b i).size) (fixed_end b) within)
    ]

    by_kind : (is_loaded_kind b ≡ true) ⊎ (is_loaded_kind b ≡ false) → is_fixed b (nth_section b i) ≡ true
    by_kind (inl loaded) = fixed-by b (nth_section b i) loaded (by_alloc (cases_Bool (is_alloc (nth_section b i))))
    by_kind (inr free) = let end = unloaded-end b free in absurd (omega (arith, own.header, below, end))

id-stays : (m : PathMap) (b out : List ℕ) (place n : ℕ) → IsMapped m b out → IdFits b → IsIdPlace b place n → place < fixed_end b → IsIdPlace out place n
id-stays m b out _ _ w fits (id i d is own) below =
    let lies = id-lies b i d is in
    let new : IsId out i d = id-forth b out (bodies_of m b out w) i d (output-back m b out w) is in
    let same : nth_section out i ≡ nth_section b i = (output-fixed m b out w).stays i lies.within (fixed-id m b out i d w is own below) in
    let there : id_place out i d ≡ id_place b i d = ap (λ (s : Section). s.offset + d.place) same in
    subst (λ (k : ℕ). IsIdPlace out k d.size) there (id i d new (own-is out i d (output-id m b out w fits) new))

pub output-keeps : (m : PathMap) (b out : List ℕ) → IsMapped m b out → IdFits b → KeepsId b out
output-keeps m b out w fits = record {
  none = λ e. section-same b out (bodies_of m b out w) (output-back m b out w) ∙ e;
  stays = λ place n is below. id-stays m b out place n w fits is below;
}

-- what is kept, as the code asks for it
pub kept-stays : (b out : List ℕ) (place n end : ℕ) → KeepsId b out → IsIdPlace b place n → end ≡ fixed_end b → place < end → IsIdPlace out place n
kept-stays b out place n end kept is end_is below = kept.stays place n is (omega (arith, below, end_is))

pub kept-none : (b out seed : List ℕ) → KeepsId b out → id_section b ≡ None → out ≡ with_new_id seed out
kept-none b out seed kept none = no-new out seed (kept.none none)

pub ruleset kept_rules = (kept-stays, kept-none)

-- the place lies in the file
pub id-inside : (b : List ℕ) (place n : ℕ) → ElfReads b → IsIdPlace b place n → place + n ≤ length b
id-inside b _ _ reads (id i d is own) =
    let lies = id-lies b i d is in
    let some : (nth_section b i).size ≢ 0 = λ none. omega (arith, none, lies.ends, lies.some) in
    omega (arith, (reads.debug.sections.all i lies.within).place.lies lies.full some, lies.ends)

pub ruleset place_rules = (id-inside)
