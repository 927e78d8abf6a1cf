-- Laws of the header of a name table: what the code reads of it is what stands there, or why nothing can be read.
use Rattle.std.proofs.Common.{◌≡◌, ◌≢◌, ℕ, ◌+◌, ◌-◌, ◌*◌, ◌<◌, ◌≤◌, ◌^◌, List, length, Some, None, refl, sym, ap, ◌∙◌, subst, arith}
use Rattle.dw_base.specs.Forms.{width_size}
use Rattle.dw_base.specs.Lebs.{initial_length_at}
use Rattle.dw_base.specs.Numbers.{spelled}
use Rattle.dw_base.specs.Refusals.{at}
use Rattle.dw_base.specs.declared.fault.Kind.TheVariants.{NameTable as NameTableKind}
use Rattle.dw_base.specs.declared.shared.Order.{Order}
use Rattle.dw_base.specs.declared.shared.Width.{Width}
use Rattle.dw_base.specs.declared.shared.Width.TheVariants.{W32, W64}
use Rattle.dw_base.specs.NameTables.{IsNameTable}
use Rattle.dw_base.specs.NameHeaders.{name_counts, before_strings, from_strings, CountsFit}
use Rattle.dw_base.specs.NameTableFails.{TableFails, no_length, passes, no_counts, other_version, no_room}
use Rattle.dw_base.specs.declared.name_tables.NameCounts.{NameCounts}

-- counts of 4 bytes each
pub counts-fit : (n : NameCounts) → n.units < 256 ^ 4 → n.local < 256 ^ 4 → n.foreign < 256 ^ 4 → n.buckets < 256 ^ 4 → n.names < 256 ^ 4 → n.abbrevs < 256 ^ 4
    → n.augmentation < 256 ^ 4 → CountsFit n
counts-fit n a b c d e f g = record { units = a; local = b; foreign = c; buckets = d; names = e; abbrevs = f; augmentation = g }

pub ruleset count_laws = (counts-fit)

-- offsets of a width
pub size-narrow : (width : Width) (count : ℕ) → width ≡ W32 → count * 4 ≡ count * width_size width
size-narrow width count w = rw w refl

pub size-wide : (width : Width) (count : ℕ) → width ≡ W64 → count * 8 ≡ count * width_size width
size-wide width count w = rw w refl

pub ruleset width_laws = (size-narrow, size-wide)

-- what was read at a place, or why nothing was
pub at-no_length : (order : Order) (bytes : List ℕ) (section start : ℕ) → None ≡ initial_length_at order bytes start
    → TableFails order bytes section start (at NameTableKind section start)
at-no_length order bytes section start e = no_length (sym e)

pub at-passes : (order : Order) (bytes : List ℕ) (section start extent size : ℕ) (width : Width) → Some (width, extent, size) ≡ initial_length_at order bytes start
    → start + size ≤ length bytes → length bytes - start - size < extent → TableFails order bytes section start (at NameTableKind section start)
at-passes order bytes section start extent size width e inside far = passes (width, extent, size) (sym e) (omega (arith, inside, far))

pub at-no_counts : (order : Order) (bytes : List ℕ) (section start extent size : ℕ) (width : Width) → Some (width, extent, size) ≡ initial_length_at order bytes start
    → extent < 32 → TableFails order bytes section start (at NameTableKind section start)
at-no_counts order bytes section start extent size width e short = no_counts (width, extent, size) (sym e) short

pub at-other_version : (order : Order) (bytes : List ℕ) (section start extent size version : ℕ) (width : Width) → Some (width, extent, size) ≡ initial_length_at order bytes start
    → start + size ≤ length bytes → extent ≤ length bytes - start - size → 32 ≤ extent → version ≡ spelled order bytes (start + size) 2 → version ≢ 5
    → TableFails order bytes section start (at NameTableKind section start)
at-other_version order bytes section start extent size version width e inside within some is other =
    other_version (width, extent, size) (sym e) (omega (arith, inside, within, some)) (λ same. other (is ∙ same))

pub at-no_room : (order : Order) (bytes : List ℕ) (section start extent size before behind : ℕ) (width : Width) (counts : NameCounts)
    → Some (width, extent, size) ≡ initial_length_at order bytes start → start + size ≤ length bytes → extent ≤ length bytes - start - size → 32 ≤ extent
    → counts ≡ name_counts order bytes (start + size) → before ≡ before_strings width counts → behind ≡ from_strings width counts → extent < 32 + before + behind
    → TableFails order bytes section start (at NameTableKind section start)
at-no_room order bytes section start extent size before behind width counts e inside within some c b f short =
    no_room (width, extent, size) (sym e) (omega (arith, inside, within, some))
    (subst (λ (n : NameCounts). extent < 32 + before_strings width n + from_strings width n) c (omega (arith, short, b, f)))

pub at-table : (order : Order) (bytes : List ℕ) (start extent size before behind version : ℕ) (width : Width) (counts : NameCounts)
    → Some (width, extent, size) ≡ initial_length_at order bytes start → start + size ≤ length bytes → extent ≤ length bytes - start - size → 32 ≤ extent
    → version ≡ spelled order bytes (start + size) 2 → version ≡ 5 → counts ≡ name_counts order bytes (start + size) → before ≡ before_strings width counts
    → behind ≡ from_strings width counts → 32 + before + behind ≤ extent
    → IsNameTable order bytes start (record { start = start; end = start + size + extent; width = width; names = counts.names; strings = start + size + 32 + before })
at-table order bytes start extent size before behind version width counts e inside within some is five c b f fits = record {
  lengths = (width, extent, size);
  length_is = sym e;
  is = rw (b, c) refl;
  within = omega (arith, inside, within);
  header = omega (arith, some);
  version = sym is ∙ five;
  parts =
      let behind_is : behind ≡ from_strings width (name_counts order bytes (start + size)) = f ∙ ap (from_strings width) c in
      omega (arith, fits, behind_is);
}

-- the string offsets lie in the table
pub strings-inside : (start extent size before behind : ℕ) (width : Width) (counts : NameCounts) → behind ≡ from_strings width counts → 32 + before + behind ≤ extent
    → start + size + 32 + before + counts.names * width_size width ≤ start + size + extent
unfolding from_strings
strings-inside start extent size before behind width counts f fits =
    let twice : 2 * counts.names * width_size width ≡ counts.names * width_size width + counts.names * width_size width = omega arith in
    omega (arith, f, fits, twice)

pub ruleset table_laws = (at-no_length, at-passes, at-no_counts, at-other_version, at-no_room, at-table, strings-inside)
