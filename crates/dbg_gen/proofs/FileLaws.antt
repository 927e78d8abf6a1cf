-- The file header reads as that of a file without sections, and the file of the parts is the one that is laid out.
use Rattle.std.proofs.Common.{◌≡◌, ℕ, ◌≤◌, List, [], ◌∷◌, length, get_or, refl, ap, ◌∙◌, arith, subst}
use Rattle.dw_base.specs.Elf.{class_of, order_of, e_type, e_phoff, e_phnum, e_shoff, e_shnum, e_shentsize, e_phentsize, e_shstrndx, section_count, name_index}
use Rattle.dw_base.specs.ElfFails.{ElfReads, ElfFails}
use Rattle.dw_base.specs.Layout.{Part, laid_out, output_limit}
use Rattle.dw_base.specs.LayoutFails.{TooLong}
use Rattle.dw_base.specs.LayoutFails.TooLong.{long}
use Rattle.dw_base.specs.Numbers.{spelled, with_number}
use Rattle.dw_base.specs.Parts.{numbered_front, parts_file}
use Rattle.dw_base.specs.Refusals.{Blames}
use Rattle.dw_base.specs.declared.fault.Fault.{Fault}
use Rattle.dw_base.specs.declared.fault.Fault.TheVariants.{Refused}
use Rattle.dw_base.specs.declared.fault.Refusal.{Refusal}
use Rattle.dw_base.specs.declared.shared.Class.{Class}
use Rattle.dw_base.specs.declared.shared.Class.TheVariants.{C64}
use Rattle.dw_base.specs.declared.shared.Order.{Order}
use Rattle.dw_base.specs.declared.shared.Order.TheVariants.{Little}
use Rattle.dw_base.proofs.ElfLaws.{elf_excludes}
use Rattle.elf_layout.specs.PartsGiven.{ArePartsFor, parts_given}
use Rattle.elf_layout.specs.declared.part.Part.{Part as GivenPart}
use Rattle.dbg_gen.specs.GeneratedFiles.{file_header, file_with, null_part, parts_with}

pub header-reads : ElfReads file_header
unfolding class_of order_of e_type e_phoff e_phnum e_shoff e_shnum e_shentsize e_phentsize e_shstrndx section_count name_index spelled
header-reads = record {
  debug = record {
    header = record { whole = omega arith; magic = refl; class = refl; order = refl; version = refl };
    shape = record {
      shentsize = λ some. absurd (some refl);
      phentsize = λ some. absurd (some refl);
      phoff = λ some. absurd (some refl);
      many = λ e. omega (arith, e);
      rel = λ e. refl;
    };
    segment_table = record { lies = λ some. absurd (some refl) };
    table = record { first = λ some. absurd (some refl); lies = λ some. absurd (some refl) };
    index = record {
      some = λ some. absurd (some refl);
      null = λ some. absurd (some refl);
      there = λ some. absurd (some refl);
      strings = λ some. absurd (some refl);
    };
    sections = record { all = λ i lt. absurd (omega (arith, lt)) };
  };
  segments = record { all = λ i lt. absurd (omega (arith, lt)) };
}

-- so it isn't refused
pub header-taken : (b : List ℕ) (x : Fault) (r : Refusal) → b ≡ file_header → x ≡ Refused r → Blames (ElfFails b) x → ⊥
header-taken b x r is refused blamed =
    elf_excludes file_header r header-reads (subst (λ (h : List ℕ). ElfFails h r) is (subst (λ (f : Fault). Blames (ElfFails b) f) refused blamed))

-- a file within the limit isn't refused
long-excluded : (n : ℕ) (r : Refusal) → n ≤ output_limit → TooLong n r → ⊥
long-excluded n r small (long over) = omega arith

-- the numbers of sections and of the section name table stand in the header already
front-is : numbered_front C64 Little file_header 6 5 ≡ file_header
unfolding numbered_front with_number
front-is = refl

pub parts-file : (units texts lines : List ℕ) → parts_file C64 Little file_header (parts_with units texts lines) 5 ≡ file_with units texts lines
unfolding parts_file file_with
parts-file units texts lines = ap (λ (front : List ℕ). laid_out C64 Little front (parts_with units texts lines)) front-is

-- its class and its order
pub header-class : (b : List ℕ) (c : Class) → b ≡ file_header → c ≡ class_of b → c ≡ C64
unfolding class_of spelled
header-class b c is e = e ∙ ap class_of is

pub header-order : (b : List ℕ) (o : Order) → b ≡ file_header → o ≡ order_of b → o ≡ Little
unfolding order_of spelled
header-order b o is e = e ∙ ap order_of is

-- parts that are these can be written
pub parts-for : (ps : List GivenPart) (units texts lines : List ℕ) → parts_given ps ≡ parts_with units texts lines → ArePartsFor C64 file_header ps
parts-for [] units texts lines e = cc
parts-for (p ∷ ps) units texts lines e = record {
  header = omega arith;
  some = omega arith;
  null = λ d. ap (λ (qs : List Part). (get_or qs 0 null_part).head.kind) e;
}

-- what is written of them is the file
pub file-written : (c : Class) (o : Order) (front : List ℕ) (ps : List Part) (units texts lines : List ℕ) → c ≡ C64 → o ≡ Little → front ≡ file_header
    → ps ≡ parts_with units texts lines → parts_file c o front ps 5 ≡ file_with units texts lines
file-written c o front ps units texts lines class order header parts = rw (class, order, header, parts) (parts-file units texts lines)

-- and a file of them within the limit isn't refused
pub file-taken : (c : Class) (o : Order) (front : List ℕ) (ps : List Part) (units texts lines : List ℕ) (x : Fault) (r : Refusal)
    → Blames (TooLong (length (parts_file c o front ps 5))) x → x ≡ Refused r → c ≡ C64 → o ≡ Little → front ≡ file_header → ps ≡ parts_with units texts lines
    → length (file_with units texts lines) ≤ output_limit → ⊥
file-taken c o front ps units texts lines x r blamed refused class order header parts small =
    let same = ap length (file-written c o front ps units texts lines class order header parts) in
    long-excluded (length (parts_file c o front ps 5)) r (omega arith)
    (subst (λ (f : Fault). Blames (TooLong (length (parts_file c o front ps 5))) f) refused blamed)

pub ruleset header_laws = (header-taken, header-class, header-order)

pub ruleset file_laws = (parts-for, file-written)
