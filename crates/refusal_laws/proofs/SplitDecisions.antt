-- A file can be split, or a condition holds that keeps it from that; and both don't hold at once.
use Rattle.std.proofs.Common.{true, false, ◌≡◌, ◌≢◌, ◌⊎◌, inl, inr, ℕ, ◌+◌, ◌<◌, ◌≤◌, List, length, arith}
use Rattle.std.proofs.lemmas.Bool.{cases_Bool, cases_eq, cases_lt}
use Rattle.dw_base.specs.Elf.{class_of, ehdr_size, is_empty_kind, name_index, nth_section, section_count, shstrndx_place}
use Rattle.dw_base.specs.Layout.{fixed_end, is_alloc, is_fixed, is_loaded_kind, output_limit}
use Rattle.dw_base.specs.LayoutFails.{BeginsInHeader, LiesAcross, TooLong}
use Rattle.dw_base.specs.LayoutFails.TooLong.{long}
use Rattle.dw_base.specs.Refusals.{at}
use Rattle.dw_base.specs.declared.fault.Kind.TheVariants.{FileType, Fixed, Header, TooLarge, Twice}
use Rattle.dw_base.specs.declared.fault.Refusal.{Refusal}
use Rattle.dw_base.specs.declared.records.Section.{Section}
use Rattle.dbg_split.specs.DebugFile.{debug_file}
use Rattle.dbg_split.specs.SplitFails.{SectionBars, SplitFails, Unsplittable, is_link, is_loaded_behind, is_loaded_data}
use Rattle.dbg_split.specs.SplitFails.SectionBars.{across, in_header, loaded, behind, linked}
use Rattle.dbg_split.specs.SplitFails.SplitFails.{elf, shape, long_debug, long_stripped}
use Rattle.dbg_split.specs.SplitFails.Unsplittable.{file_type, unnamed, names_stay, section}
use Rattle.dbg_split.specs.StrippedFile.{stripped_file}
use Rattle.dbg_split.proofs.Rows.{section_bars_excludes, split_excludes, unsplittable_excludes}
use Rattle.refusal_laws.specs.CanSplit.{CanDivide, CanSplit, LetsSplit}
use Rattle.refusal_laws.specs.Decided.{Decided, SomeFails, some_fails}
use Rattle.refusal_laws.proofs.Decisions.{clash, decided-against, decided-among, decided-both, decided-by, decided-each, decided-false, decided-most, decided-other, decided-true}
use Rattle.refusal_laws.proofs.ElfDecisions.{elf-decided}

-- a section lies across the end of what stays, or not
pub across-known : (b : List ℕ) (s : Section) → LiesAcross b s ⊎ (LiesAcross b s → ⊥)
across-known b s = by (cases_Bool (is_empty_kind s)) (cases_Bool (is_alloc s)) (cases_lt s.offset (fixed_end b)) (cases_lt (fixed_end b) (s.offset + s.size))
  where
    by : (is_empty_kind s ≡ true) ⊎ (is_empty_kind s ≡ false) → (is_alloc s ≡ true) ⊎ (is_alloc s ≡ false)
        → (s.offset < fixed_end b) ⊎ (fixed_end b ≤ s.offset) → (fixed_end b < s.offset + s.size) ⊎ (s.offset + s.size ≤ fixed_end b)
        → LiesAcross b s ⊎ (LiesAcross b s → ⊥)
    by (inl empty) a p q = inr (λ (x : LiesAcross b s). clash empty x.bytes)
    by (inr bytes) (inl on) p q = inr (λ (x : LiesAcross b s). clash on x.alloc)
    by (inr bytes) (inr off) (inr past) q = inr (λ (x : LiesAcross b s). let begins = x.begins in omega (arith, past, begins))
    by (inr bytes) (inr off) (inl begins) (inr within) = inr (λ (x : LiesAcross b s). let ends = x.ends in omega (arith, within, ends))
    by (inr bytes) (inr off) (inl begins) (inl ends) = inl (record { bytes = bytes; alloc = off; begins = begins; ends = ends })

-- a section begins in the file header, or not
pub header-known : (b : List ℕ) (s : Section) → BeginsInHeader b s ⊎ (BeginsInHeader b s → ⊥)
header-known b s = by (cases_Bool (is_loaded_kind b)) (cases_Bool (is_empty_kind s)) (cases_eq s.size 0) (cases_lt s.offset (ehdr_size (class_of b)))
  where
    by : (is_loaded_kind b ≡ true) ⊎ (is_loaded_kind b ≡ false) → (is_empty_kind s ≡ true) ⊎ (is_empty_kind s ≡ false)
        → (s.size ≡ 0) ⊎ (s.size ≢ 0) → (s.offset < ehdr_size (class_of b)) ⊎ (ehdr_size (class_of b) ≤ s.offset)
        → BeginsInHeader b s ⊎ (BeginsInHeader b s → ⊥)
    by (inr other) e z p = inr (λ (x : BeginsInHeader b s). clash x.loaded other)
    by (inl kind) (inl empty) z p = inr (λ (x : BeginsInHeader b s). clash empty x.bytes)
    by (inl kind) (inr bytes) (inl none) p = inr (λ (x : BeginsInHeader b s). x.some none)
    by (inl kind) (inr bytes) (inr some) (inr past) = inr (λ (x : BeginsInHeader b s). let begins = x.begins in omega (arith, past, begins))
    by (inl kind) (inr bytes) (inr some) (inl begins) = inl (record { loaded = kind; bytes = bytes; some = some; begins = begins })

lets-decided : (b : List ℕ) (i : ℕ) → Decided (LetsSplit b i) (SectionBars b i)
lets-decided b i =
    decided-by (λ p. record { across = p.first; in_header = p.second.first; unloaded = p.second.second.first; not_behind = p.second.second.second.first; unlinked = p.second.second.second.second })
    (decided-both (decided-against (across-known b (nth_section b i)) (at Fixed i 0) across) (λ p.
    decided-both (decided-against (header-known b (nth_section b i)) (at Fixed i 0) in_header) (λ q.
    decided-both (decided-false (is_loaded_data b i) (at Fixed i 0) loaded) (λ s.
    decided-both (decided-false (is_loaded_behind b i) (at Fixed i 0) behind) (λ t.
    decided-false (is_link b i) (at Twice i 0) linked)))))

some-bars : (b : List ℕ) (r : Refusal) → SomeFails (section_count b) (λ i. SectionBars b i) r → Unsplittable b r
some-bars b r (some_fails i lt h) = section i lt h

divide-decided : (b : List ℕ) → Decided (CanDivide b) (Unsplittable b)
divide-decided b =
    decided-by (λ p. record { loaded = p.first; named = p.second.first; names_move = p.second.second.first; sections = p.second.second.second })
    (decided-both (decided-true (is_loaded_kind b) (at FileType 0 16) file_type) (λ p.
    decided-both (decided-other (name_index b) 0 (at Header 0 (shstrndx_place (class_of b))) unnamed) (λ named.
    decided-both (decided-false (is_fixed b (nth_section b (name_index b))) (at Fixed (name_index b) 0) (names_stay named)) (λ q.
    decided-among (some-bars b)
    (decided-each {P = λ (i : ℕ). LetsSplit b i} {F = λ (i : ℕ). SectionBars b i} (section_count b) (λ i lt. lets-decided b i))))))

-- a file can be split, or it has a row that says why it can't
pub split-decided : (b name : List ℕ) → Decided (CanSplit b name) (SplitFails b name)
split-decided b name =
    decided-by (λ p. record { reads = p.first; divides = p.second.first; debug_fits = p.second.second.first; stripped_fits = p.second.second.second })
    (decided-both (decided-among (λ r f. elf f) (elf-decided b)) (λ reads.
    decided-both (decided-among (λ r f. shape reads f) (divide-decided b)) (λ p.
    decided-both (decided-most (length (debug_file b)) output_limit (at TooLarge 0 0) (λ past. long_debug reads (long past))) (λ q.
    decided-most (length (stripped_file b name)) output_limit (at TooLarge 0 0) (λ past. long_stripped reads (long past))))))

-- and one that can be split has none
pub split-excludes : (b name : List ℕ) (r : Refusal) → CanSplit b name → SplitFails b name r → ⊥
split-excludes b name r can fails =
    split_excludes b name r can.reads
    (λ x bars. unsplittable_excludes b x can.divides.loaded can.divides.named can.divides.names_move
    (λ i y lt bar. let lets = can.divides.sections i lt in section_bars_excludes b i y lets.across lets.in_header lets.unloaded lets.not_behind lets.unlinked bar) bars)
    (λ x past. short (length (debug_file b)) x can.debug_fits past)
    (λ x past. short (length (stripped_file b name)) x can.stripped_fits past)
    fails
  where
    short : (n : ℕ) (x : Refusal) → n ≤ output_limit → TooLong n x → ⊥
    short n x within (long past) = omega (arith, within, past)
