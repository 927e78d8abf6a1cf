-- The pair of a stripped file and its debug file has the sections of the file that was split.
use Rattle.std.specs.Prelude.{true, false, ◌≡◌, ℕ, ◌<◌, List}
use Rattle.dw_base.specs.Elf.{order_of, nth_section, section_count, is_empty_kind}
use Rattle.dw_base.specs.FileViews.{ViewSection, view_section}
use Rattle.dw_base.specs.Layout.{is_alloc}
use Rattle.dw_view.specs.PairViews.{pair_section}

-- two sections have the same name, and the same place among loaded sections, names, and relocations of what is read
pub record SameSection (new old : ViewSection) : Type 0 where
  pub name : new.name ≡ old.name
  pub alloc : new.alloc ≡ old.alloc
  pub is_name_table : new.is_name_table ≡ old.is_name_table
  pub relocates_read : new.relocates_read ≡ old.relocates_read

-- the pair has the sections of the file `b` by number, each as that has it; of ALLOC sections that have bytes, the name alone
pub record JoinsTo (b debug stripped : List ℕ) : Type 0 where
  pub order_is : order_of debug ≡ order_of b
  pub count : section_count debug ≡ section_count b
  pub named : (i : ℕ) → i < section_count b → SameSection (pair_section debug stripped i) (view_section b i)
  pub sections : (i : ℕ) → i < section_count b → is_alloc (nth_section b i) ≡ false → pair_section debug stripped i ≡ view_section b i
  pub empty : (i : ℕ) → i < section_count b → is_empty_kind (nth_section b i) ≡ true → pair_section debug stripped i ≡ view_section b i
