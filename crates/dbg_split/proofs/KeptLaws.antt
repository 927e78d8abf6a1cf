-- The stripped file keeps what is loaded.
use Rattle.std.proofs.Common.{◌≡◌, ℕ, ◌<◌, ◌≤◌, List, length, take, slice_index, sym, ◌∙◌, subst, arith}
use Rattle.std.proofs.lemmas.List.{get_or-take, length-take-le}
use Rattle.dw_base.specs.Elf.{class_of, order_of, ehdr_size, name_index, shnum_place, shstrndx_place}
use Rattle.dw_base.specs.ElfFails.{ElfReads}
use Rattle.dw_base.specs.Layout.{fixed_end, laid, laid_out, new_heads}
use Rattle.dw_base.specs.Numbers.{with_number}
use Rattle.dw_base.specs.Parts.{in_header, numbered_first, numbered_front, parts_file}
use Rattle.dw_base.specs.declared.elf_numbers.TheConstants.{SHN_XINDEX}
use Rattle.dw_base.specs.declared.shared.Class.{Class}
use Rattle.dw_base.specs.declared.shared.Order.{Order}
use Rattle.dw_base.proofs.LayoutLaws.{fixed_end-header, fixed_end-within, laid-longer}
use Rattle.dw_base.proofs.NumberLaws.{length-with_number}
use Rattle.dw_base.proofs.PartsLaws.{front-kept, number_places}
use Rattle.dw_base.proofs.WrittenLaws.{laid-kept, with_table-front}
use Rattle.dbg_split.specs.KeptFront.{IsOutside, KeepsFront}
use Rattle.dbg_split.specs.StrippedFile.{new_number, stripped_file, stripped_parts, stripped_with}
use Rattle.debug_link.specs.Links.{link_of}
use Rattle.debug_link.specs.Sums.{crc32}
use Rattle.dbg_split.specs.DebugFile.{debug_file}

-- a front keeps its length
pub front-length : (c : Class) (o : Order) (front : List ℕ) (count names : ℕ) → ehdr_size c ≤ length front → length (numbered_front c o front count names) ≡ length front
unfolding numbered_front
front-length c o front count names header =
    let places = number_places c in
    let first = length-with_number o front (shnum_place c) 2 (in_header 0 count) (omega arith) in
    length-with_number o (with_number o front (shnum_place c) 2 (in_header 0 count)) (shstrndx_place c) 2 (in_header SHN_XINDEX names) (omega arith) ∙ first

kept-at : (b link : List ℕ) (k : ℕ) → ElfReads b → k < fixed_end b → IsOutside b k → slice_index (stripped_with b link) k ≡ slice_index b k
unfolding stripped_with parts_file laid_out
kept-at b link k reads lt outside =
    let c = class_of b in
    let o = order_of b in
    let front = take (fixed_end b) b in
    let parts = stripped_parts b link in
    let names = new_number b (name_index b) in
    let new = numbered_front c o front (length parts) names in
    let all = numbered_first (length parts) names parts in
    let size : length front ≡ fixed_end b = length-take-le (fixed_end b) b (fixed_end-within b reads.debug reads.segments) in
    let least = fixed_end-header b in
    let header : ehdr_size c ≤ length front = omega (arith, size, least) in
    let same : length new ≡ length front = front-length c o front (length parts) names header in
    let longer = laid-longer new all in
    with_table-front c o (laid new all) (new_heads new all) k (omega (arith, header, same, longer)) (omega (arith, lt, size, same, longer)) outside.shoff
    ∙ laid-kept new all k (omega (arith, lt, size, same))
    ∙ front-kept c o front (length parts) names k header outside.numbers
    ∙ get_or-take (fixed_end b) b k 0 lt

pub front-kept_by : (b name out : List ℕ) → ElfReads b → out ≡ stripped_file b name → KeepsFront b out
unfolding stripped_file
front-kept_by b name out reads is =
    subst (λ (f : List ℕ). KeepsFront b f) (sym is)
    (record { bytes = λ k lt outside. kept-at b (link_of (order_of b) name (crc32 (debug_file b))) k reads lt outside })

pub ruleset kept_rules = (front-kept_by)
