-- The rows of the refusals, for the check's search.
use Rattle.std.proofs.Common.{length, ◌≡◌, ◌≢◌, ◌∙◌, ℕ, ◌+◌, ◌<◌, ◌||◌, Bool, true, false, List, add-one, ap, refl, subst, sym}
use Rattle.dw_base.specs.Elf.{e_shoff, nth_section, order_of, section_count, name_index}
use Rattle.dw_base.specs.ElfFails.{ElfReads}
use Rattle.dw_base.specs.Layout.{is_fixed, is_loaded_kind}
use Rattle.dw_base.specs.LayoutFails.{BeginsInHeader, LiesAcross, TooLong}
use Rattle.dw_base.specs.Refusals.{Blames}
use Rattle.dw_base.specs.declared.fault.Fault.{Fault}
use Rattle.dw_base.specs.declared.fault.Fault.TheVariants.{NoMemory, Refused}
use Rattle.dw_base.specs.declared.fault.Refusal.{Refusal}
use Rattle.dw_base.specs.declared.shared.Order.{Order}
use Rattle.debug_link.specs.Links.{link_of}
use Rattle.debug_link.specs.Sums.{crc32}
use Rattle.dw_base.proofs.ListLaws.{get_or-tabulate, length-tabulate}
use Rattle.dw_base.proofs.ElfLaws.{elf_excludes}
use Rattle.dw_base.proofs.LayoutLaws.{fixed_end-within}
use Rattle.dbg_split.specs.DebugFile.{debug_file}
use Rattle.dbg_split.specs.StrippedFile.{stripped_file, stripped_with}
use Rattle.dbg_split.specs.SplitFails.{SplitFails}
use Rattle.dbg_split.specs.SplitFails.SplitFails.{elf, shape, long_debug, long_stripped}
use Rattle.dbg_split.specs.Droppable.{is_droppable}
use Rattle.dbg_split.specs.SplitFails.{SectionBars, Unsplittable, drops_before, is_link, is_loaded_behind, is_loaded_data}
use Rattle.dbg_split.specs.SplitFails.SectionBars.{across, in_header, loaded, behind, linked}
use Rattle.dbg_split.specs.SplitFails.Unsplittable.{file_type, unnamed, names_stay, section}
use Rattle.dbg_split.proofs.NameLaws.{name_index-there}

-- where none of the rows holds, the section doesn't bar
pub section_bars_excludes : (b : List ℕ) (i : ℕ) (r : Refusal) → (LiesAcross b (nth_section b i) → ⊥) → (BeginsInHeader b (nth_section b i) → ⊥)
    → is_loaded_data b i ≡ false → is_loaded_behind b i ≡ false → is_link b i ≡ false → SectionBars b i r → ⊥
section_bars_excludes b i r not_across not_in_header no_data not_behind name (across h) = not_across h
section_bars_excludes b i r not_across not_in_header no_data not_behind name (in_header h) = not_in_header h
section_bars_excludes b i r not_across not_in_header no_data not_behind name (loaded h) = cc
section_bars_excludes b i r not_across not_in_header no_data not_behind name (behind h) = cc
section_bars_excludes b i r not_across not_in_header no_data not_behind name (linked h) = cc

pub ruleset bar_rows = (across, in_header, loaded, behind, linked, section_bars_excludes)

-- one section more may be droppable
pub drops_before-next : (b : List ℕ) (i : ℕ) (so_far here next : Bool) → so_far ≡ drops_before b i → here ≡ is_droppable b i
    → next ≡ (so_far || here) → next ≡ drops_before b (i + 1)
drops_before-next b i so_far here next so_far_is here_is is = rw (is, so_far_is, here_is, add-one) refl

pub ruleset section_rows = (section, get_or-tabulate, length-tabulate, drops_before-next)

-- where none of the rows holds, the file can be split
pub unsplittable_excludes : (b : List ℕ) (r : Refusal) → is_loaded_kind b ≡ true → name_index b ≢ 0
    → is_fixed b (nth_section b (name_index b)) ≡ false
    → ((i : ℕ) (x : Refusal) → i < section_count b → SectionBars b i x → ⊥) → Unsplittable b r → ⊥
unsplittable_excludes b r kind named moves sections (file_type h) = cc
unsplittable_excludes b r kind named moves sections (unnamed h) = named h
unsplittable_excludes b r kind named moves sections (names_stay h fixed) = cc
unsplittable_excludes b r kind named moves sections (section i lt bars) = sections i r lt bars

pub ruleset whole_rows = (file_type, unnamed, names_stay, unsplittable_excludes, name_index-there)

-- there is a section header table where there is a name table
pub table-named : (b : List ℕ) → name_index b ≢ 0 → e_shoff b ≢ 0
unfolding name_index
table-named b some none = some (rw none refl)

-- where none of the rows holds, the file is split
pub split_excludes : (b name : List ℕ) (r : Refusal) → ElfReads b → ((x : Refusal) → Unsplittable b x → ⊥)
    → ((x : Refusal) → TooLong (length (debug_file b)) x → ⊥) → ((x : Refusal) → TooLong (length (stripped_file b name)) x → ⊥)
    → SplitFails b name r → ⊥
split_excludes b name r reads can debug_short stripped_short (elf fails) = elf_excludes b r reads fails
split_excludes b name r reads can debug_short stripped_short (shape read bars) = can r bars
split_excludes b name r reads can debug_short stripped_short (long_debug read past) = debug_short r past
split_excludes b name r reads can debug_short stripped_short (long_stripped read past) = stripped_short r past

-- what is written is the stripped file
pub stripped-is : (b name link out debug : List ℕ) (o : Order) (sum : ℕ) → o ≡ order_of b → debug ≡ debug_file b → sum ≡ crc32 debug → link ≡ link_of o name sum
    → out ≡ stripped_with b link → out ≡ stripped_file b name
unfolding stripped_file
stripped-is b name link out debug o sum o_is debug_is sum_is link_is out_is =
    out_is
    ∙ ap (stripped_with b)
    (link_is ∙ ap (λ (p : Order). link_of p name sum) o_is ∙ ap (link_of (order_of b) name) (sum_is ∙ ap (λ (l : List ℕ). crc32 l) debug_is))

-- it is refused where what would be written is too long, and only there
pub stripped-long : (b name link debug : List ℕ) (o : Order) (sum : ℕ) (f : Fault) → ElfReads b → o ≡ order_of b → debug ≡ debug_file b → sum ≡ crc32 debug
    → link ≡ link_of o name sum → Blames (TooLong (length (stripped_with b link))) f → Blames (SplitFails b name) f
stripped-long b name link debug o sum NoMemory reads o_is debug_is sum_is link_is long = tt
stripped-long b name link debug o sum (Refused r) reads o_is debug_is sum_is link_is long =
    long_stripped reads
    (subst (λ (out : List ℕ). TooLong (length out) r) (stripped-is b name link (stripped_with b link) debug o sum o_is debug_is sum_is link_is refl) long)

pub split_free : (b name link debug : List ℕ) (o : Order) (sum : ℕ) (r : Refusal) → ElfReads b → o ≡ order_of b → debug ≡ debug_file b → sum ≡ crc32 debug
    → link ≡ link_of o name sum → ((x : Refusal) → Unsplittable b x → ⊥) → ((x : Refusal) → TooLong (length (debug_file b)) x → ⊥)
    → ((x : Refusal) → TooLong (length (stripped_with b link)) x → ⊥) → SplitFails b name r → ⊥
split_free b name link debug o sum r reads o_is debug_is sum_is link_is can debug_short short fails =
    let whole : stripped_with b link ≡ stripped_file b name = stripped-is b name link (stripped_with b link) debug o sum o_is debug_is sum_is link_is refl in
    split_excludes b name r reads can debug_short (λ x long. short x (subst (λ (out : List ℕ). TooLong (length out) x) (sym whole) long)) fails

pub shape-row : (b name : List ℕ) (f : Fault) → ElfReads b → Blames (Unsplittable b) f → Blames (SplitFails b name) f
shape-row b name NoMemory reads bars = tt
shape-row b name (Refused r) reads bars = shape reads bars

pub debug-long : (b name : List ℕ) (f : Fault) → ElfReads b → Blames (TooLong (length (debug_file b))) f → Blames (SplitFails b name) f
debug-long b name NoMemory reads long = tt
debug-long b name (Refused r) reads long = long_debug reads long

pub ruleset shape_rows = (table-named, fixed_end-within)

pub ruleset split_rows = (elf, shape, long_debug, long_stripped, table-named, split_excludes, fixed_end-within)
