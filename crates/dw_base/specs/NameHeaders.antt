-- The header of a name table (DWARF 5, 6.1.1.4.1): the seven counts of 4 bytes behind its version, and the sizes of the parts that
-- they count.
use Rattle.std.specs.Prelude.{ℕ, ◌+◌, ◌*◌, ◌/◌, ◌^◌, ◌<◌, ◌==◌, if◌then◌else◌, List}
use Rattle.dw_base.specs.Forms.{width_size}
use Rattle.dw_base.specs.Numbers.{spelled}
use Rattle.dw_base.specs.declared.name_tables.NameCounts.{NameCounts}
use Rattle.dw_base.specs.declared.shared.Order.{Order}
use Rattle.dw_base.specs.declared.shared.Width.{Width}

-- the counts behind the version and the padding, which stand at a place
unfoldable pub name_counts : Order → List ℕ → ℕ → NameCounts
name_counts order bytes place = record {
  units = spelled order bytes (place + 4) 4;
  local = spelled order bytes (place + 8) 4;
  foreign = spelled order bytes (place + 12) 4;
  buckets = spelled order bytes (place + 16) 4;
  names = spelled order bytes (place + 20) 4;
  abbrevs = spelled order bytes (place + 24) 4;
  augmentation = spelled order bytes (place + 28) 4;
}

-- each is a number of 4 bytes
pub record CountsFit (n : NameCounts) : Type 0 where
  pub units : n.units < 2 ^ 32
  pub local : n.local < 2 ^ 32
  pub foreign : n.foreign < 2 ^ 32
  pub buckets : n.buckets < 2 ^ 32
  pub names : n.names < 2 ^ 32
  pub abbrevs : n.abbrevs < 2 ^ 32
  pub augmentation : n.augmentation < 2 ^ 32

-- a size that is padded to 4 bytes
abbrev pub padded : ℕ → ℕ
padded size = (size + 3) / 4 * 4

-- the hashes, of 4 bytes a name: there are none where there are no buckets
abbrev pub hashes_size : NameCounts → ℕ
hashes_size n = if n.buckets == 0 then 0 else 4 * n.names

-- how many bytes stand between the counts and the string offsets: the augmentation, the offsets of units and local type
-- units, the signatures of foreign type units, the buckets, and the hashes
unfoldable pub before_strings : Width → NameCounts → ℕ
before_strings width n =
    padded n.augmentation + (n.units + n.local) * width_size width + 8 * n.foreign + 4 * n.buckets + hashes_size n

-- how many bytes the parts from the string offsets on have: the string offsets and the offsets of entries, one each a name, and
-- the abbreviations. The entries fill the rest of the table.
unfoldable pub from_strings : Width → NameCounts → ℕ
from_strings width n = 2 * n.names * width_size width + n.abbrevs
