-- The rows of files and sections that don't match, for the check's search.
use Rattle.std.proofs.Common.{◌≡◌, ◌≢◌, ℕ, ◌<◌, Bool, true, false, List, sym, ap, ◌∙◌, arith}
use Rattle.dw_base.specs.Elf.{class_of, order_of, e_type, e_machine, name_index, nth_section, section_count, section_name}
use Rattle.dw_base.specs.SectionNames.{debug_link}
use Rattle.dw_base.specs.Texts.{same_text}
use Rattle.dw_base.proofs.TextLaws.{same_text-true, same_text-from}
use Rattle.dbg_unstrip.specs.Matching.{Differ, DifferFirst, DontMatch, FilesDiffer, HidesHeader, InHeader, OtherKind, SectionsDiffer, link_number}
use Rattle.dbg_unstrip.specs.Matching.DontMatch.{files, sections}
use Rattle.dbg_unstrip.specs.Matching.FilesDiffer.{kind, no_sections, no_link, in_header}
use Rattle.dbg_unstrip.specs.Matching.HidesHeader.{one}
use Rattle.dbg_unstrip.specs.Matching.OtherKind.{class, order, type, machine}
use Rattle.dbg_unstrip.specs.Matching.SectionsDiffer.{name, flags, addr, size}

-- the two are of one kind
pub kinds-same : (s d : List ℕ) → class_of s ≡ class_of d → order_of s ≡ order_of d → e_type s ≡ e_type d → e_machine s ≡ e_machine d → OtherKind s d → ⊥
kinds-same s d class_is order_is type_is machine_is (class differ) = differ class_is
kinds-same s d class_is order_is type_is machine_is (order differ) = differ order_is
kinds-same s d class_is order_is type_is machine_is (type differ) = differ type_is
kinds-same s d class_is order_is type_is machine_is (machine differ) = differ machine_is

pub machine-other : (s d : List ℕ) (x y : ℕ) → x ≡ e_machine s → y ≡ e_machine d → x ≢ y → OtherKind s d
machine-other s d x y x_is y_is differ = machine (λ e. differ (x_is ∙ e ∙ sym y_is))

pub type-other : (s d : List ℕ) (x y : ℕ) → x ≡ e_type s → y ≡ e_type d → x ≢ y → OtherKind s d
type-other s d x y x_is y_is differ = type (λ e. differ (x_is ∙ e ∙ sym y_is))

pub ruleset kind_rows = (class, order, type-other, machine-other, kinds-same)

-- the last section is the link
pub link-there : (s : List ℕ) (n : ℕ) → n ≡ link_number s → section_count s ≢ 0 → n < section_count s
unfolding link_number
link-there s n is some = omega (arith, is, some)

pub name-link : (s : List ℕ) (n : ℕ) (t : Bool) → n ≡ link_number s → t ≡ same_text (section_name s n) debug_link → t ≡ true → section_name s (link_number s) ≡ debug_link
name-link s n t is t_is yes_ = ap (section_name s) (sym is) ∙ same_text-true (section_name s n) debug_link (sym t_is ∙ yes_)

pub name-other : (s : List ℕ) (n : ℕ) (t : Bool) → n ≡ link_number s → t ≡ same_text (section_name s n) debug_link → t ≡ false → section_name s (link_number s) ≢ debug_link
name-other s n t is t_is no_ e =
    let yes_ : t ≡ true = t_is ∙ same_text-from (section_name s n) debug_link (ap (section_name s) is ∙ e) in
    let no : true ≡ false = sym yes_ ∙ no_ in
    cc

pub ruleset link_rows = (link-there, name-link, name-other)

-- no section begins in the file header
pub none-hides : (b : List ℕ) (n : ℕ) → n ≡ section_count b → ((j : ℕ) → j < n → InHeader b (nth_section b j) → ⊥) → HidesHeader b → ⊥
none-hides b n n_is none (one j lt here) = none j (omega (arith, n_is, lt)) here

pub ruleset header_rows = (one, none-hides)

-- the files match as a whole
pub files-same : (s d : List ℕ) (n : ℕ) → (OtherKind s d → ⊥) → n ≡ section_count d → n ≢ 0 → section_name s (link_number s) ≡ debug_link → (HidesHeader s → ⊥)
    → FilesDiffer s d → ⊥
files-same s d n kinds n_is some named free (kind h) = kinds h
files-same s d n kinds n_is some named free (no_sections h) = some (n_is ∙ h)
files-same s d n kinds n_is some named free (no_link h) = h named
files-same s d n kinds n_is some named free (in_header h) = free h

pub ruleset file_rows = (kind, no_sections, no_link, in_header, files-same)

-- two sections match
pub sections-same : (s d : List ℕ) (j i : ℕ) → section_name s j ≡ section_name d i → (nth_section s j).flags ≡ (nth_section d i).flags
    → (nth_section s j).addr ≡ (nth_section d i).addr → (i ≢ name_index d → (nth_section s j).size ≡ (nth_section d i).size) → SectionsDiffer s d j i → ⊥
sections-same s d j i named flagged placed sized (name h) = h named
sections-same s d j i named flagged placed sized (flags h) = h flagged
sections-same s d j i named flagged placed sized (addr h) = h placed
sections-same s d j i named flagged placed sized (size other h) = h (sized other)

pub ruleset section_rows = (name, flags, addr, size, sections-same)

-- the two match
pub all-same : (s d : List ℕ) (k : ℕ) → (FilesDiffer s d → ⊥) → ((n : ℕ) → Differ s d n → ⊥) → DontMatch s d k → ⊥
all-same s d k whole lists (files h) = whole h
all-same s d k whole lists (sections n apart h) = lists n h.differ

pub ruleset whole_rows = (files, all-same)
