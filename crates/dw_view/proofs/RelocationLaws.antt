-- Laws of the relocations of all sections of a file: what is kept of each, and which aren't handled.
use Rattle.std.proofs.Common.{◌≡◌, ◌≢◌, ℕ, zero, suc, ◌+◌, ◌<◌, ◌≤◌, ◌==◌, ◌&&◌, Bool, true, false, nat_lt, List, [], ◌∷◌, ◌++◌, length, get_or, Option, Some, None, refl, sym, ap, ◌∙◌, arith, subst, inl, inr}
use Rattle.std.specs.Prelude.{is_some}
use Rattle.std.proofs.lemmas.Bool.{cases_lt, eqb-true, le-ltb, lt-ltb}
use Rattle.std.proofs.lemmas.List.{get_or_append_left, get_or_default, get_or_push, length_push}
use Rattle.dw_base.specs.Cells.{Relocation as CellRelocation}
use Rattle.dw_base.specs.DebugSections.{debug_section}
use Rattle.dw_base.specs.Elf.{contents_of, e_type, nth_section, section_count, section_name}
use Rattle.dw_base.specs.Refusals.{at}
use Rattle.dw_base.specs.RelocationSectionFails.{RelocationSectionsFail, RelocationSectionsRead, SectionReads, TableReads, holds_texts, is_own_kind, is_read_section, lies_in_moving, moves}
use Rattle.dw_base.specs.RelocationSectionFails.RelocationSectionsFail.{one as section_row}
use Rattle.dw_base.specs.RelocationSectionFails.SectionFails.{own_kind, table}
use Rattle.dw_base.specs.RelocationSectionFails.TableFails.{no_symbols}
use Rattle.dw_base.specs.SectionRelocations.{RelocationSource, is_symbol_table, records_in, relocates, relocation_of, relocation_section, relocation_source, relocations_by, relocations_in, relocations_of}
use Rattle.dw_base.specs.declared.debug_sections.DebugSection.{DebugSection}
use Rattle.dw_base.specs.declared.debug_sections.DebugSection.TheVariants.{Abbrev}
use Rattle.dw_base.specs.declared.elf_numbers.TheConstants.{ET_REL}
use Rattle.dw_base.specs.declared.fault.Kind.TheVariants.{Relocation as RelocationKind}
use Rattle.dw_base.specs.declared.fault.Refusal.{Refusal}
use Rattle.dw_base.specs.declared.records.Section.{Section}
use Rattle.dw_base.proofs.RelocationFieldLaws.{first_below-passes}
use Rattle.dw_base.proofs.SectionRelocationLaws.{first_below-none}
use Rattle.dw_view.specs.Firsts.{AreFirsts, AreSingle}
use Rattle.dw_view.specs.Places.{Lists, PlacesRise, PlacesWithin, index_of, place_at, record_of, relocation_at_number}
use Rattle.dw_view.specs.Relocations.{FileKeeps, HasText, IsKept, Keeps, KeepsAll, KeepsAt, KeepsUpTo, KeptRelocations, ListFails, NoTexts, NoneMoves, NoneMovesUpTo, OneMoves, ReadUpTo, ReadsIf, is_moving, kept_of, relocation_moves, relocation_value}
use Rattle.dw_view.specs.Relocations.AbbrevMoves.{abbrev_moves}
use Rattle.dw_view.specs.Relocations.HasText.{first as first_text}
use Rattle.dw_view.specs.Relocations.ListFails.{places, texts, abbrevs}
use Rattle.dw_view.specs.Relocations.OneMoves.{one as one_moves}
use Rattle.dw_view.specs.declared.fields.Relocation.{Relocation}
use Rattle.dw_view.specs.declared.places.PlacedRecord.{PlacedRecord}
use Rattle.dw_view.proofs.FirstLaws.{read-there}
use Rattle.dw_view.proofs.KeptLaws.{made-listed, made-unread}
use Rattle.dw_view.proofs.PartlyLaws.{item-there}
use Rattle.dw_view.proofs.TableLaws.{list-fails, list-reads}

-- sections whose places change
pub moving-there : (b : List ℕ) (i n : ℕ) (o : Option DebugSection) (t : Bool) → n ≡ section_count b → i < n → o ≡ debug_section (section_name b i) → t ≡ moves o
    → t ≡ is_moving b i
moving-there b i n o t n_is lt o_is t_is =
    t_is ∙ ap (λ (x : Option DebugSection). moves x) o_is
    ∙ ap (λ (x : Bool). x && moves (debug_section (section_name b i))) (sym (lt-ltb i (section_count b) (omega (arith, lt, n_is))))

pub moving-past : (b : List ℕ) (i n : ℕ) → n ≡ section_count b → n ≤ i → false ≡ is_moving b i
moving-past b i n n_is le =
    ap (λ (x : Bool). x && moves (debug_section (section_name b i))) (sym (le-ltb i (section_count b) (omega (arith, le, n_is))))

pub ruleset moving_rules = (moving-there, moving-past)

-- the relocation of an item
pub moves-there : (g : RelocationSource) (list : List PlacedRecord) (i x : ℕ) → Lists g list → i < length list → x ≡ index_of list i → x < length (records_in g)
moves-there g list i x h lt is = subst (λ (n : ℕ). n < length (records_in g)) (sym is) (item-there g list i h lt)

pub moves-is : (b : List ℕ) (g : RelocationSource) (list : List PlacedRecord) (i x : ℕ) (r : Relocation) (t : Bool) → x ≡ index_of list i
    → relocation_value r ≡ relocation_of g (record_of g x) → t ≡ lies_in_moving b r.target → t ≡ relocation_moves b g list i
moves-is b g list i x r t x_is is t_is =
    let here : relocation_value r ≡ relocation_at_number g list i = is ∙ ap (λ (n : ℕ). relocation_of g (record_of g n)) x_is in
    t_is ∙ ap (λ (q : CellRelocation). lies_in_moving b q.target) here

pub ruleset move_rules = (moves-there, moves-is)

-- a table of texts
pub text-other : (kind : DebugSection) (list : List PlacedRecord) (t : Bool) → t ≡ holds_texts (Some kind) → t ≡ false → NoTexts kind list
text-other kind list t t_is no_ = record { none = λ holds. absurd cc }

pub text-none : (kind : DebugSection) (list : List PlacedRecord) → length list ≡ 0 → NoTexts kind list
text-none kind list none = record { none = λ holds. none }

pub text-first : (i p : ℕ) (kind : DebugSection) (list : List PlacedRecord) (t : Bool) (r : Refusal) → t ≡ holds_texts (Some kind) → t ≡ true → length list ≢ 0
    → p ≡ place_at list 0 → r ≡ at RelocationKind i p → HasText i kind list r
text-first i p kind list t r t_is yes_ some p_is is =
    subst (HasText i kind list) (ap (at RelocationKind i) (sym p_is) ∙ sym is) (first_text (above (length list) some) (sym t_is ∙ yes_))
  where
    above : (n : ℕ) → n ≢ 0 → 0 < n
    above zero other = absurd (other refl)
    above (suc n) other = omega arith

pub ruleset text_rules = (text-other, text-none, text-first)

-- abbreviations
pub moves-none : (b : List ℕ) (g : RelocationSource) (list : List PlacedRecord) → NoneMovesUpTo b g 0 list
moves-none b g list = record { none = λ k lt. absurd (omega (arith, lt)) }

pub moves-more : (b : List ℕ) (g : RelocationSource) (i : ℕ) (list : List PlacedRecord) (t : Bool) → t ≡ relocation_moves b g list i → t ≡ false
    → NoneMovesUpTo b g i list → NoneMovesUpTo b g (i + 1) list
moves-more b g i list t t_is no_ h = record {
  none = λ k lt. elim (cases_lt k i) [
    | inl under ↦ h.none k under
    | inr over ↦ let same : k ≡ i = omega (arith, lt, over) in ap (relocation_moves b g list) same ∙ sym t_is ∙ no_
  ];
}

pub moves-one : (b : List ℕ) (g : RelocationSource) (s i p : ℕ) (list : List PlacedRecord) (t : Bool) (r : Refusal) → i < length list
    → t ≡ relocation_moves b g list i → t ≡ true → p ≡ place_at list i → r ≡ at RelocationKind s p → OneMoves b g s list r
moves-one b g s i p list t r lt t_is yes_ p_is is =
    subst (OneMoves b g s list) (ap (at RelocationKind s) (sym p_is) ∙ sym is) (one_moves i lt (sym t_is ∙ yes_))

pub moves-done : (b : List ℕ) (g : RelocationSource) (n m : ℕ) (list : List PlacedRecord) → NoneMovesUpTo b g n list → m ≤ n → NoneMovesUpTo b g m list
moves-done b g n m list h le = record { none = λ k lt. h.none k (omega (arith, lt, le)) }

pub abbrev-other : (b : List ℕ) (g : RelocationSource) (kind : DebugSection) (list : List PlacedRecord) → kind ≢ Abbrev → NoneMoves b g kind list
abbrev-other b g kind list other = record { none = λ is k lt. absurd (other is) }

pub abbrev-none : (b : List ℕ) (g : RelocationSource) (kind : DebugSection) (list : List PlacedRecord) → NoneMovesUpTo b g (length list) list → NoneMoves b g kind list
abbrev-none b g kind list h = record { none = λ is k lt. h.none k lt }

pub ruleset abbrev_rules = (abbrev-other, abbrev-none, abbrev_moves)

pub ruleset list_rules = (places, texts, abbrevs)

-- which section holds the relocations of one
holder-of : (b : List ℕ) (holders : List (Option ℕ)) (i : ℕ) (d o : Option ℕ) → AreFirsts (relocates b) (section_count b) (section_count b) holders → i < section_count b
    → o ≡ get_or holders i d → relocation_section b i ≡ o
unfolding relocation_section
holder-of b holders i d o h lt is = let size = h.size in sym (h.are i lt) ∙ get_or_default holders i None d (omega (arith, lt, size)) ∙ sym is

pub holder-is : (b : List ℕ) (holders : List (Option ℕ)) (i k : ℕ) (d o : Option ℕ) → AreFirsts (relocates b) (section_count b) (section_count b) holders → i < section_count b
    → o ≡ get_or holders i d → o ≡ Some k → relocation_section b i ≡ Some k
holder-is b holders i k d o h lt is some = holder-of b holders i d o h lt is ∙ some

pub holder-there : (b : List ℕ) (holders : List (Option ℕ)) (i k : ℕ) (d o : Option ℕ) → AreFirsts (relocates b) (section_count b) (section_count b) holders
    → i < section_count b → o ≡ get_or holders i d → o ≡ Some k → k < section_count b
unfolding relocation_section
holder-there b holders i k d o h lt is some =
    (first_below-passes (relocates b i) (section_count b) k (holder-of b holders i d o h lt is ∙ some)).0

pub first_there : (b : List ℕ) (i k : ℕ) → relocation_section b i ≡ Some k → k < section_count b
unfolding relocation_section
first_there b i k is = (first_below-passes (relocates b i) (section_count b) k is).0

pub holder-room : (b : List ℕ) (holders : List (Option ℕ)) (i : ℕ) → AreFirsts (relocates b) (section_count b) (section_count b) holders → i < section_count b
    → i < length holders
holder-room b holders i h lt = let size = h.size in omega (arith, lt, size)

relocations-by : (b : List ℕ) (i : ℕ) (o : Option ℕ) → relocation_section b i ≡ o → relocations_of (contents_of b) b i ≡ relocations_by (contents_of b) b o
unfolding relocations_of
relocations-by b i o is = ap (relocations_by (contents_of b) b) is

pub none-keeps : (b : List ℕ) (holders : List (Option ℕ)) (i : ℕ) (d o : Option ℕ) → AreFirsts (relocates b) (section_count b) (section_count b) holders
    → i < section_count b → o ≡ get_or holders i d → o ≡ None → relocations_of (contents_of b) b i ≡ []
none-keeps b holders i d o h lt is none = relocations-by b i None (holder-of b holders i d o h lt is ∙ none)

pub some-keeps : (b : List ℕ) (i k size : ℕ) (read : Bool) (g : RelocationSource) (list : List PlacedRecord) (x : KeptRelocations) → relocation_section b i ≡ Some k
    → g ≡ relocation_source (contents_of b) b k → x ≡ kept_of g read list → PlacesWithin size list → IsKept (kept_of g read list) → Keeps (relocations_of (contents_of b) b i) read size x
some-keeps b i k size read g list x held g_is x_is within kept =
    subst (Keeps (relocations_of (contents_of b) b i) read size) (sym x_is) (record {
      relocations = ap (λ (s : RelocationSource). relocations_in s) g_is ∙ sym (relocations-by b i (Some k) held);
      read_is = refl;
      within = within;
      kept = kept;
    })

pub listed-keeps : (b : List ℕ) (i k size : ℕ) (g : RelocationSource) (list now : List PlacedRecord) (x : KeptRelocations) → relocation_section b i ≡ Some k
    → g ≡ relocation_source (contents_of b) b k → x ≡ kept_of g true list → Lists g list → now ≡ list → PlacesRise now → PlacesWithin size now
    → Keeps (relocations_of (contents_of b) b i) true size x
listed-keeps b i k size g list now x held g_is x_is h same rise within =
    let up = subst PlacesRise same rise in
    some-keeps b i k size true g list x held g_is x_is (subst (PlacesWithin size) same within) (made-listed g list h up)

-- a table that is refused, and one that reads
is_read : (b : List ℕ) (i : ℕ) (kind : DebugSection) → i < section_count b → debug_section (section_name b i) ≡ Some kind → is_read_section b i ≡ true
is_read b i kind lt named = rw (lt-ltb i (section_count b) lt, named) refl

pub no-symbols : (b : List ℕ) (i k : ℕ) (kind : DebugSection) (s : Section) (t : Bool) (r : Refusal) → i < section_count b
    → debug_section (section_name b i) ≡ Some kind → relocation_section b i ≡ Some k → s ≡ nth_section b k → t ≡ is_symbol_table b s.link → t ≡ false
    → r ≡ at RelocationKind i 0 → RelocationSectionsFail (contents_of b) b r
no-symbols b i k kind s t r lt named held s_is t_is no_ is =
    subst (RelocationSectionsFail (contents_of b) b) (sym is) (section_row i (is_read b i kind lt named)
    (table k held (no_symbols (ap (λ (x : Section). is_symbol_table b x.link) (sym s_is) ∙ sym t_is ∙ no_))))

pub list-refused : (b : List ℕ) (i k : ℕ) (kind : DebugSection) (g : RelocationSource) (list : List PlacedRecord) (r : Refusal) → i < section_count b
    → debug_section (section_name b i) ≡ Some kind → relocation_section b i ≡ Some k → g ≡ relocation_source (contents_of b) b k → Lists g list
    → ListFails b g i (length (contents_of b i)) kind list r → RelocationSectionsFail (contents_of b) b r
list-refused b i k kind g list r lt named held g_is h fails =
    section_row i (is_read b i kind lt named) (table k held
    (list-fails (contents_of b) b i k (length (contents_of b i)) kind list r (subst (λ (x : RelocationSource). Lists x list) g_is h) named refl
    (subst (λ (x : RelocationSource). ListFails b x i (length (contents_of b i)) kind list r) g_is fails)))

pub table-reads : (b : List ℕ) (i k : ℕ) (kind : DebugSection) (g : RelocationSource) (list now : List PlacedRecord) (s : Section) (t : Bool)
    → debug_section (section_name b i) ≡ Some kind → s ≡ nth_section b k → t ≡ is_symbol_table b s.link → t ≡ true → g ≡ relocation_source (contents_of b) b k
    → Lists g list → now ≡ list → PlacesRise now → PlacesWithin (length (contents_of b i)) now → NoTexts kind now → NoneMoves b g kind now
    → TableReads (contents_of b) b i k
table-reads b i k kind g list now s t named s_is t_is yes_ g_is h same rise within text moved =
    list-reads (contents_of b) b i k (length (contents_of b i)) kind list (subst (λ (x : RelocationSource). Lists x list) g_is h) named refl
    (ap (λ (x : Section). is_symbol_table b x.link) (sym s_is) ∙ sym t_is ∙ yes_) (subst PlacesRise same rise)
    (subst (PlacesWithin (length (contents_of b i))) same within) (subst (NoTexts kind) same text)
    (subst (λ (x : RelocationSource). NoneMoves b x kind list) g_is (subst (NoneMoves b g kind) same moved))

pub ruleset table_rules = (no-symbols, list-refused)

-- a section that is read
pub own-refused : (b : List ℕ) (i : ℕ) (kind : DebugSection) (s : Section) (t : Bool) (r : Refusal) → i < section_count b → e_type b ≡ ET_REL
    → debug_section (section_name b i) ≡ Some kind → s ≡ nth_section b i → t ≡ is_own_kind s → t ≡ true → r ≡ at RelocationKind i 0
    → RelocationSectionsFail (contents_of b) b r
own-refused b i kind s t r lt rel named s_is t_is yes_ is =
    subst (RelocationSectionsFail (contents_of b) b) (sym is)
    (section_row i (is_read b i kind lt named) (own_kind rel (ap (λ (x : Section). is_own_kind x) (sym s_is) ∙ sym t_is ∙ yes_)))

pub section-reads : (b : List ℕ) (i k : ℕ) (kind : DebugSection) (holders : List (Option ℕ)) (d o : Option ℕ) (s : Section) (t : Bool) → i < section_count b
    → debug_section (section_name b i) ≡ Some kind → s ≡ nth_section b i → t ≡ is_own_kind s → t ≡ false → AreSingle b (section_count b)
    → AreFirsts (relocates b) (section_count b) (section_count b) holders → o ≡ get_or holders i d → o ≡ Some k → TableReads (contents_of b) b i k
    → SectionReads (contents_of b) b i
section-reads b i k kind holders d o s t lt named s_is t_is no_ single h o_is some reads = record {
  plain_kind = λ rel. ap (λ (x : Section). is_own_kind x) (sym s_is) ∙ sym t_is ∙ no_;
  single = λ j m below inside first other. single.single i j m (is_read b i kind lt named) below inside first other;
  tables = λ m held.
      let own : Some m ≡ Some k = sym held ∙ holder-is b holders i k d o h lt o_is some in
      let same : k ≡ m = cc in
      subst (TableReads (contents_of b) b i) same reads;
}

pub section-reads-none : (b : List ℕ) (i : ℕ) (kind : DebugSection) (holders : List (Option ℕ)) (d o : Option ℕ) (s : Section) (t : Bool) → i < section_count b
    → debug_section (section_name b i) ≡ Some kind → s ≡ nth_section b i → t ≡ is_own_kind s → t ≡ false → AreSingle b (section_count b)
    → AreFirsts (relocates b) (section_count b) (section_count b) holders → o ≡ get_or holders i d → o ≡ None → SectionReads (contents_of b) b i
section-reads-none b i kind holders d o s t lt named s_is t_is no_ single h o_is none = record {
  plain_kind = λ rel. ap (λ (x : Section). is_own_kind x) (sym s_is) ∙ sym t_is ∙ no_;
  single = λ j m below inside first other. single.single i j m (is_read b i kind lt named) below inside first other;
  tables = λ m held. let own : Some m ≡ None = sym held ∙ holder-of b holders i d o h lt o_is ∙ none in absurd cc;
}

pub ruleset read_rules = (holder-is, holder-there, holder-room, none-keeps, own-refused, section-reads, section-reads-none)

-- one that isn't
pub within-none : (size : ℕ) (list : List PlacedRecord) → list ≡ [] → PlacesWithin size list
within-none size list none = record {
  below = λ i lt. let size_is : length list ≡ 0 = ap (λ (l : List PlacedRecord). length l) none in absurd (omega (arith, lt, size_is));
}

pub other-keeps : (b : List ℕ) (holders : List (Option ℕ)) (i k size : ℕ) (d o : Option ℕ) (g : RelocationSource) (x : KeptRelocations)
    → AreFirsts (relocates b) (section_count b) (section_count b) holders → i < section_count b → o ≡ get_or holders i d → o ≡ Some k
    → g ≡ relocation_source (contents_of b) b k → x ≡ kept_of g false [] → Keeps (relocations_of (contents_of b) b i) false size x
other-keeps b holders i k size d o g x h lt is some g_is x_is =
    some-keeps b i k size false g [] x (holder-is b holders i k d o h lt is some) g_is x_is (within-none size [] refl) (made-unread g [] refl)

pub ruleset other_rules = (holder-there, holder-room, none-keeps, other-keeps)

-- either
pub keeps-read : (b : List ℕ) (i : ℕ) (kind : DebugSection) (n : Option DebugSection) (o : Option KeptRelocations) → n ≡ debug_section (section_name b i) → n ≡ Some kind
    → KeepsAll (relocations_of (contents_of b) b i) true (length (contents_of b i)) o → KeepsAt b i o
keeps-read b i kind n o n_is some keeps =
    subst (λ (t : Bool). KeepsAll (relocations_of (contents_of b) b i) t (length (contents_of b i)) o) (ap is_some (sym some ∙ n_is)) keeps

pub keeps-other : (b : List ℕ) (i : ℕ) (n : Option DebugSection) (o : Option KeptRelocations) → n ≡ debug_section (section_name b i) → n ≡ None
    → KeepsAll (relocations_of (contents_of b) b i) false (length (contents_of b i)) o → KeepsAt b i o
keeps-other b i n o n_is none keeps =
    subst (λ (t : Bool). KeepsAll (relocations_of (contents_of b) b i) t (length (contents_of b i)) o) (ap is_some (sym none ∙ n_is)) keeps

pub kind-some : (b : List ℕ) (i : ℕ) (kind : DebugSection) (n : Option DebugSection) → n ≡ debug_section (section_name b i) → n ≡ Some kind
    → debug_section (section_name b i) ≡ Some kind
kind-some b i kind n n_is some = sym n_is ∙ some

pub reads-if : (b : List ℕ) (i : ℕ) → SectionReads (contents_of b) b i → ReadsIf b i
reads-if b i h = record { reads = λ read. h }

pub reads-other : (b : List ℕ) (i : ℕ) (n : Option DebugSection) → n ≡ debug_section (section_name b i) → n ≡ None → ReadsIf b i
reads-other b i n n_is none = record { reads = λ read. absurd (unread read) }
  where
    by_kind : (t : Bool) → (t && false) ≡ false
    by_kind true = refl
    by_kind false = refl

    unread : is_read_section b i ≡ true → ⊥
    unread read =
        let fails : is_read_section b i ≡ false =
        ap (λ (k : Option DebugSection). nat_lt i (section_count b) && is_some k) (sym n_is ∙ none) ∙ by_kind (nat_lt i (section_count b)) in
        cc

pub ruleset keep_rules = (kind-some, keeps-read, keeps-other, reads-if, reads-other)

-- all of them
pub upto-none : (b : List ℕ) (list : List (Option KeptRelocations)) → list ≡ [] → KeepsUpTo b 0 list
upto-none b list none = record { size = ap (λ (l : List (Option KeptRelocations)). length l) none; each = λ i lt. absurd (omega (arith, lt)) }

pub upto-more : (b : List ℕ) (n : ℕ) (old new : List (Option KeptRelocations)) (o : Option KeptRelocations) → KeepsAt b n o → new ≡ old ++ o ∷ [] → KeepsUpTo b n old
    → KeepsUpTo b (n + 1) new
upto-more b n old new o keeps is h = record {
  size = ap (λ (l : List (Option KeptRelocations)). length l) is ∙ length_push old o ∙ ap (λ (k : ℕ). k + 1) h.size;
  each = λ i lt. elim (cases_lt i n) [
    | inl under ↦
        let size = h.size in
        subst (KeepsAt b i) (sym (ap (λ (l : List (Option KeptRelocations)). get_or l i None) is ∙ get_or_append_left old (o ∷ []) None i (omega (arith, under, size))))
        (h.each i under)
    | inr over ↦
        let same : i ≡ n = omega (arith, lt, over) in
        subst (KeepsAt b i) (sym (ap (λ (l : List (Option KeptRelocations)). get_or l i None) is ∙ get_or_push old o None i (h.size ∙ sym same)))
        (subst (λ (k : ℕ). KeepsAt b k o) (sym same) keeps)
  ];
}

pub upto-done : (b : List ℕ) (n m : ℕ) (list : List (Option KeptRelocations)) → KeepsUpTo b n list → m ≡ section_count b → m ≤ n → FileKeeps b list
upto-done b n m list h m_is le = record { each = λ i lt. h.each i (omega (arith, lt, m_is, le)) }

pub read-none : (b : List ℕ) → ReadUpTo b 0
read-none b = record { reads = λ i lt. absurd (omega (arith, lt)) }

pub read-more : (b : List ℕ) (n : ℕ) → ReadsIf b n → ReadUpTo b n → ReadUpTo b (n + 1)
read-more b n here h = record {
  reads = λ i lt. elim (cases_lt i n) [
    | inl under ↦ h.reads i under
    | inr over ↦ let same : n ≡ i = omega (arith, lt, over) in subst (ReadsIf b) same here
  ];
}

pub read-done : (b : List ℕ) (n m : ℕ) → ReadUpTo b n → m ≡ section_count b → m ≤ n → RelocationSectionsRead (contents_of b) b
read-done b n m h m_is le = record { all = λ i read. let lt = read-there b i read in (h.reads i (omega (arith, lt, m_is, le))).reads read }

-- a file that isn't relocatable
no-rel : (b : List ℕ) (t i : ℕ) → (e_type b == ET_REL) ≡ false → relocates b t i ≡ false
unfolding relocates
no-rel b t i other = rw other refl

pub no-holder : (b : List ℕ) (i : ℕ) → (e_type b == ET_REL) ≡ false → relocation_section b i ≡ None
unfolding relocation_section
no-holder b i other = first_below-none (relocates b i) (section_count b) (λ k lt. no-rel b i k other)

pub other-file : (b : List ℕ) (x : Bool) (list : List (Option KeptRelocations)) → x ≡ (e_type b == ET_REL) → x ≡ false → list ≡ [] → FileKeeps b list
other-file b x list x_is no_ none = record {
  each = λ i lt. subst (KeepsAt b i) (sym (ap (λ (l : List (Option KeptRelocations)). get_or l i None) none))
      (relocations-by b i None (no-holder b i (sym x_is ∙ no_)));
}

pub other-reads : (b : List ℕ) (x : Bool) → x ≡ (e_type b == ET_REL) → x ≡ false → RelocationSectionsRead (contents_of b) b
other-reads b x x_is no_ = record {
  all = λ i read. record {
    plain_kind = λ rel. let yes_ : (e_type b == ET_REL) ≡ true = rw rel refl in absurd cc;
    single = λ j k below lt first second. let fails = no-rel b i j (sym x_is ∙ no_) in cc;
    tables = λ k held. let none = no-holder b i (sym x_is ∙ no_) in absurd cc;
  };
}

pub rel-is : (b : List ℕ) (x : Bool) → x ≡ (e_type b == ET_REL) → x ≡ true → e_type b ≡ ET_REL
rel-is b x x_is yes_ = eqb-true (e_type b) ET_REL (sym x_is ∙ yes_)

pub ruleset file_rules = (other-file, other-reads, rel-is)
