-- A generated file reads back: its records read, and it has six sections, each with its name, its type and its contents.
use Rattle.std.proofs.Common.{◌≡◌, ◌≢◌, ℕ, zero, suc, ◌≤◌, ◌<◌, true, false, List, [], ◌∷◌, length, get_or, refl, sym, ap, ◌∙◌, arith, subst}
use Rattle.std.specs.Prelude.{codes, ⊤}
use Rattle.std.specs.Int.{is_power_of_two}
use Rattle.std.proofs.lemmas.Bool.{true≢false}
use Rattle.dw_base.specs.Elf.{class_of, order_of, e_type, e_phoff, e_phnum, e_shoff, e_shnum, e_shentsize, e_phentsize, e_shstrndx, nth_section, section_count, name_index, name_table, section_name, contents_at, contents_of, is_empty_kind}
use Rattle.dw_base.specs.ElfFails.{ElfReads}
use Rattle.dw_base.specs.Fields.{FieldsFit}
use Rattle.dw_base.specs.Layout.{Part, before_table, laid_out, output_limit, shdr_fields, with_table}
use Rattle.dw_base.specs.Numbers.{spelled, with_number}
use Rattle.dw_base.specs.Parts.{FitParts, FrontReads, PartsRead, PartsReadBack, numbered_front, parts_file, part_contents}
use Rattle.dw_base.specs.Texts.{ends_in, text_in}
use Rattle.dw_base.specs.declared.shared.Class.TheVariants.{C64}
use Rattle.dw_base.specs.declared.shared.Order.TheVariants.{Little}
use Rattle.dw_base.proofs.PartsAgainLaws.{Full, parts_read_back}
use Rattle.dbg_gen.specs.GeneratedFiles.{file_header, file_with, head_of, name_bytes, null_part, parts_with, section_part}
use Rattle.dbg_gen.specs.GeneratedUnits.{abbreviations}

-- the file header with some place of the section headers: the layout puts another
abbrev front : List ℕ
front = with_number Little file_header 40 8 64

front-file : (units texts lines : List ℕ) → parts_file C64 Little front (parts_with units texts lines) 5 ≡ file_with units texts lines
unfolding parts_file file_with numbered_front laid_out with_table before_table with_number
front-file units texts lines = refl

-- what holds of each of a list of parts holds of the part of a number
abbrev EachPart : (Part → Type 0) → List Part → Type 0
EachPart P [] = ⊤
EachPart P (p ∷ ps) = P p × EachPart P ps

part-at : (P : Part → Type 0) (ps : List Part) → EachPart P ps → (i : ℕ) (d : Part) → i < length ps → P (get_or ps i d)
part-at P [] all i d lt = absurd (omega arith)
part-at P (p ∷ ps) all zero d lt = all.0
part-at P (p ∷ ps) all (suc i) d lt = part-at P ps all.1 i d (omega arith)

-- a part that stays takes no room, and one that moves is of a kind that takes some
record TakesRoom (p : Part) : Type 0 where
  pub none : p.moves ≡ false → is_empty_kind p.head ≡ false → ⊥
  pub full : p.moves ≡ true → is_empty_kind p.head ≡ false

moving : (p : Part) → p.moves ≡ true → is_empty_kind p.head ≡ false → TakesRoom p
moving p moves full = record { none = λ stays f. absurd (true≢false (sym moves ∙ stays)); full = λ e. full }

rooms : (units texts lines : List ℕ) → EachPart TakesRoom (parts_with units texts lines)
rooms units texts lines = (
  record { none = λ stays full. true≢false full; full = λ e. absurd (true≢false (sym e)) },
  (moving _ refl refl, (moving _ refl refl, (moving _ refl refl, (moving _ refl refl, (moving _ refl refl, tt))))),
)

fit : (kind name align : ℕ) → kind < 256 → name < 256 → align < 256 → FieldsFit (shdr_fields C64 (head_of kind name align))
fit kind name align a b c =
    (omega arith, (omega arith, (omega arith, (omega arith, (omega arith, (omega arith, (omega arith, (omega arith, (omega arith, (omega arith, tt))))))))))

fields : (units texts lines : List ℕ) → EachPart (λ p. FieldsFit (shdr_fields C64 p.head)) (parts_with units texts lines)
fields units texts lines = (
  fit 0 0 0 (omega arith) (omega arith) (omega arith),
  (
    fit 1 1 1 (omega arith) (omega arith) (omega arith),
    (
      fit 1 13 1 (omega arith) (omega arith) (omega arith),
      (fit 1 27 1 (omega arith) (omega arith) (omega arith), (fit 1 38 1 (omega arith) (omega arith) (omega arith), (fit 3 50 1 (omega arith) (omega arith) (omega arith), tt))),
    ),
  ),
)

fit-parts : (units texts lines : List ℕ) → FitParts C64 Little front (parts_with units texts lines) 5
unfolding class_of order_of spelled with_number
fit-parts units texts lines = record {
  header = omega arith;
  class_is = refl;
  order_is = refl;
  named = omega arith;
  null = λ d. refl;
  fields = λ i d lt. part-at (λ p. FieldsFit (shdr_fields C64 p.head)) (parts_with units texts lines) (fields units texts lines) i d lt;
  behind = λ i d lt stays full some. absurd ((part-at TakesRoom (parts_with units texts lines) (rooms units texts lines) i d lt).none stays full);
  lie = λ i d lt stays full some. absurd ((part-at TakesRoom (parts_with units texts lines) (rooms units texts lines) i d lt).none stays full);
}

full-parts : (units texts lines : List ℕ) → Full (parts_with units texts lines)
full-parts units texts lines i d lt = (part-at TakesRoom (parts_with units texts lines) (rooms units texts lines) i d lt).full

front-reads : FrontReads front
unfolding class_of order_of e_type e_phoff e_phnum e_shoff e_shnum e_shentsize e_phentsize e_shstrndx spelled with_number
front-reads = record {
  header = record { whole = omega arith; magic = refl; class = refl; order = refl; version = refl };
  sections = λ e. omega (arith, e);
  shape = record {
    shentsize = λ some. refl;
    phentsize = λ some. absurd (some refl);
    phoff = λ a some. absurd (some refl);
    many = λ e. omega (arith, e);
    rel = λ e. refl;
  };
  segment_table = record { lies = λ some. absurd (some refl) };
  segments = record { all = λ i lt. absurd (omega (arith, lt)) };
}

aligns : (units texts lines : List ℕ) → EachPart (λ p. p.head.align ≢ 0 → is_power_of_two p.head.align ≡ true) (parts_with units texts lines)
unfolding lib.Count.ones
aligns units texts lines =
    (λ some. absurd (some refl), (λ some. refl, (λ some. refl, (λ some. refl, (λ some. refl, (λ some. refl, tt))))))

name-ends : (units texts lines : List ℕ) → EachPart (λ p. ends_in name_bytes p.head.name ≡ true) (parts_with units texts lines)
unfolding ends_in
name-ends units texts lines = (refl, (refl, (refl, (refl, (refl, (refl, tt))))))

parts-read : (units texts lines : List ℕ) → PartsRead front (parts_with units texts lines) 5
unfolding part_contents
parts-read units texts lines = record {
  align = part-at (λ p. p.head.align ≢ 0 → is_power_of_two p.head.align ≡ true) (parts_with units texts lines) (aligns units texts lines);
  strings = λ d some. refl;
  ends = λ i d lt some. part-at (λ p. ends_in name_bytes p.head.name ≡ true) (parts_with units texts lines) (name-ends units texts lines) i d lt;
}

-- the file has the parts as sections
abbrev pub HasParts : List ℕ → List ℕ → List ℕ → List ℕ → Type 0
HasParts units texts lines b = PartsReadBack C64 Little front (parts_with units texts lines) 5 b

pub parts-back : (units texts lines : List ℕ) → length (file_with units texts lines) ≤ output_limit → HasParts units texts lines (file_with units texts lines)
parts-back units texts lines small =
    subst (λ (out : List ℕ). HasParts units texts lines out) (front-file units texts lines)
    (parts_read_back C64 Little front (parts_with units texts lines) 5 (fit-parts units texts lines)
    (subst (λ (out : List ℕ). length out ≤ output_limit) (sym (front-file units texts lines)) small) (full-parts units texts lines) null_part)

pub file-elf : (units texts lines b : List ℕ) → HasParts units texts lines b → ElfReads b
file-elf units texts lines b back = back.reads front-reads (parts-read units texts lines)

-- the section of a number: its name, its type, and its contents; it isn't loaded, and it stands behind the file header
pub record HasSection (b : List ℕ) (i : ℕ) (name : List ℕ) (kind : ℕ) (body : List ℕ) : Type 0 where
  pub name_is : section_name b i ≡ name
  pub kind_is : (nth_section b i).kind ≡ kind
  pub flags_are : (nth_section b i).flags ≡ 0
  pub contents_are : contents_of b i ≡ body
  pub size_is : (nth_section b i).size ≡ length body
  pub align_is : (nth_section b i).align ≡ 1
  pub behind : 64 ≤ (nth_section b i).offset

table-is : (units texts lines b : List ℕ) → HasParts units texts lines b → name_table b ≡ name_bytes
unfolding name_table part_contents
table-is units texts lines b back = rw back.named (back.contents 5 null_part (omega arith))

name-by : (b table name : List ℕ) (i place : ℕ) → name_table b ≡ table → (nth_section b i).name ≡ place → text_in table place ≡ name → section_name b i ≡ name
unfolding section_name
name-by b table name i place t at is = rw (t, at) is

has-section : (units texts lines b name : List ℕ) (i : ℕ) (p : Part) → HasParts units texts lines b → i < 6 → get_or (parts_with units texts lines) i null_part ≡ p
    → p.moves ≡ true → p.head.flags ≡ 0 → p.head.align ≡ 1 → text_in name_bytes p.head.name ≡ name → HasSection b i name p.head.kind p.body
unfolding part_contents with_number
has-section units texts lines b name i p back lt is moves flags align named =
    let head = back.heads i null_part lt in
    let moving : (get_or (parts_with units texts lines) i null_part).moves ≡ true = ap (λ (q : Part). q.moves) is ∙ moves in
    let size = back.size i null_part lt moving in
    let behind = back.behind i null_part lt moving in
    let contents = back.contents i null_part lt in
    record {
      name_is = name-by b name_bytes name i p.head.name (table-is units texts lines b back) (head.name ∙ ap (λ (q : Part). q.head.name) is) named;
      kind_is = head.kind ∙ ap (λ (q : Part). q.head.kind) is;
      flags_are = head.flags ∙ ap (λ (q : Part). q.head.flags) is ∙ flags;
      contents_are = contents ∙ ap (λ (q : Part). part_contents front q) is ∙ rw moves refl;
      size_is = size ∙ ap (λ (q : Part). length q.body) is;
      align_is = head.align ∙ ap (λ (q : Part). q.head.align) is ∙ align;
      behind = behind;
    }

-- its sections
pub record HasSections (units texts lines b : List ℕ) : Type 0 where
  pub count : section_count b ≡ 6
  pub named : name_index b ≡ 5
  pub null : (nth_section b 0).kind ≡ 0
  pub null_name : section_name b 0 ≡ []
  pub null_flags : (nth_section b 0).flags ≡ 0
  pub null_align : (nth_section b 0).align ≡ 0
  pub null_contents : contents_of b 0 ≡ []
  pub info : HasSection b 1 (codes ".debug_info") 1 units
  pub abbrev_ : HasSection b 2 (codes ".debug_abbrev") 1 abbreviations
  pub str : HasSection b 3 (codes ".debug_str") 1 texts
  pub line : HasSection b 4 (codes ".debug_line") 1 lines
  pub names : HasSection b 5 (codes ".shstrtab") 3 name_bytes

pub has-sections : (units texts lines b : List ℕ) → HasParts units texts lines b → HasSections units texts lines b
unfolding text_in part_contents contents_at
has-sections units texts lines b back = record {
  count = back.count;
  named = back.named;
  null = (back.heads 0 null_part (omega arith)).kind;
  null_name = name-by b name_bytes [] 0 0 (table-is units texts lines b back) (back.heads 0 null_part (omega arith)).name refl;
  null_flags = (back.heads 0 null_part (omega arith)).flags;
  null_align = (back.heads 0 null_part (omega arith)).align;
  null_contents = back.contents 0 null_part (omega arith);
  info = has-section units texts lines b (codes ".debug_info") 1 (section_part 1 (codes ".debug_info") units) back (omega arith) refl refl refl refl refl;
  abbrev_ = has-section units texts lines b (codes ".debug_abbrev") 2 (section_part 1 (codes ".debug_abbrev") abbreviations) back (omega arith) refl refl refl refl refl;
  str = has-section units texts lines b (codes ".debug_str") 3 (section_part 1 (codes ".debug_str") texts) back (omega arith) refl refl refl refl refl;
  line = has-section units texts lines b (codes ".debug_line") 4 (section_part 1 (codes ".debug_line") lines) back (omega arith) refl refl refl refl refl;
  names = has-section units texts lines b (codes ".shstrtab") 5 (section_part 3 (codes ".shstrtab") name_bytes) back (omega arith) refl refl refl refl refl;
}

-- the file is of type EXEC
pub file-kind : (units texts lines : List ℕ) → e_type (file_with units texts lines) ≡ 2
unfolding e_type class_of order_of spelled file_with laid_out with_table before_table with_number
file-kind units texts lines = refl

-- and has no program headers
pub file-segments : (units texts lines : List ℕ) → e_phnum (file_with units texts lines) ≡ 0
unfolding e_phnum class_of order_of spelled file_with laid_out with_table before_table with_number
file-segments units texts lines = refl
