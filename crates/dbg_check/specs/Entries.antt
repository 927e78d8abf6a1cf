-- The entries of a unit in order, each with its depth, and when two units agree entry by entry, so that no forest need be built
-- (DWARF 5, 2.3 and 7.5).
use Rattle.std.specs.Prelude.{◌≡◌, ℕ, suc, List, [], ◌∷◌}
use Rattle.dw_base.specs.Forests.{AttributeMeaning, Forest, no_entries, entry}
use Rattle.dw_base.specs.MappedUnits.{ValueFits, mapped_value}
use Rattle.dw_base.specs.Paths.{PathMap}
use Rattle.dw_base.specs.UnitMeanings.{UnitMeaning}
use Rattle.dw_base.specs.ValueMeanings.{ValueMeaning}
use Rattle.dbg_check.specs.Parts.{AgreeAll}

-- an entry: how many entries it lies below, its tag, and its attributes
pub record EntryMeaning : Type 0 where
  pub depth : ℕ
  pub tag : ℕ
  pub attributes : List AttributeMeaning

-- the entries of a forest at a depth, in order, and those behind it
abbrev pub entries_before : ℕ → Forest → List EntryMeaning → List EntryMeaning
entries_before depth no_entries rest = rest
entries_before depth (entry tag attributes children siblings) rest =
    record { depth = depth; tag = tag; attributes = attributes }
    ∷ entries_before (suc depth) children (entries_before depth siblings rest)

-- all entries of a forest
abbrev pub all_entries : Forest → List EntryMeaning
all_entries f = entries_before 0 f []

-- a value agrees with another: a path that stands in it fits the room when it is mapped, and the mapped value is the other
abbrev pub ValueAgrees : PathMap → ValueMeaning → ValueMeaning → Type 0
ValueAgrees m v w = ValueFits m v × (mapped_value m v ≡ w)

-- an attribute has the name of another, and a value that agrees
pub record AttributeAgrees (m : PathMap) (a b : AttributeMeaning) : Type 0 where
  pub name : a.name ≡ b.name
  pub value : ValueAgrees m a.value b.value

-- an entry stands as deep as another, has the same tag, and attributes that agree one by one
pub record EntryAgrees (m : PathMap) (x y : EntryMeaning) : Type 0 where
  pub depth : x.depth ≡ y.depth
  pub tag : x.tag ≡ y.tag
  pub attributes : AgreeAll (AttributeAgrees m) x.attributes y.attributes

-- a unit stands in the section of the number of another's, has the same head, and entries that agree one by one
pub record EntriesAgree (m : PathMap) (u w : UnitMeaning) : Type 0 where
  pub section : u.section ≡ w.section
  pub head : u.head ≡ w.head
  pub entries : AgreeAll (EntryAgrees m) (all_entries u.entries) (all_entries w.entries)
