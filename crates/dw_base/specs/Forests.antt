-- The forest of a unit's entries (DWARF 5, 7.5.2 and 7.5.3): said of the marks that its pieces make, by the standard's cases,
-- and found from the last mark to the first.
use Rattle.std.specs.Prelude.{Bool, true, false, ℕ, List, [], ◌∷◌, ◌++◌, Option}
use Rattle.dw_base.specs.ValueMeanings.{ValueMeaning}
use Rattle.dw_base.specs.declared.shared.Width.{Width}

-- an attribute: its name (DWARF 5, table 7.5), and what its value means
pub record AttributeMeaning : Type 0 where
  pub name : ℕ
  pub value : ValueMeaning

-- entries in order, each with its tag (DWARF 5, table 7.3), its attributes in order, and the forest of its children; its
-- siblings follow
pub data Forest : Type 0 where
  no_entries : Forest
  entry : ℕ → List AttributeMeaning → Forest → Forest → Forest

-- the head of a unit: the parameters of its header, its unit type, and of a unit of a type the signature and the entry
pub record HeadMeaning : Type 0 where
  pub version : ℕ
  pub width : Width
  pub address : ℕ
  pub kind : ℕ
  pub signature : ℕ
  pub type_entry : Option ValueMeaning

-- what a piece of a unit section is: a unit's beginning; an entry's, with its tag and whether children follow; an attribute
-- of the entry; a null; or a form in front of a value, which is nothing by itself
pub data Mark : Type 0 where
  begins : HeadMeaning → Mark
  opens : ℕ → Bool → Mark
  attribute : AttributeMeaning → Mark
  null : Mark
  no_mark : Mark

-- the marks of an entry's values are these attributes
pub data HasAttributes : List Mark → List AttributeMeaning → Type 0 where
  no_attributes : HasAttributes [] []
  form_first : (ms : List Mark) (rest : List AttributeMeaning) → HasAttributes ms rest → HasAttributes (no_mark ∷ ms) rest
  one_more : (a : AttributeMeaning) (ms : List Mark) (rest : List AttributeMeaning) → HasAttributes ms rest
      → HasAttributes (attribute a ∷ ms) (a ∷ rest)

mutual
  -- marks spell a forest: no marks spell none; a null is padding; an entry stands before the rest, with its attributes, and
  -- where its abbreviation says so with the list of its children
  pub data Spells : List Mark → Forest → Type 0 where
    no_marks : Spells [] no_entries
    padding : (ms : List Mark) (f : Forest) → Spells ms f → Spells (null ∷ ms) f
    lone : (tag : ℕ) (attributes : List AttributeMeaning) (vs ms : List Mark) (f : Forest) → HasAttributes vs attributes
        → Spells ms f → Spells (opens tag false ∷ vs ++ ms) (entry tag attributes no_entries f)
    parent : (tag : ℕ) (attributes : List AttributeMeaning) (vs ks ms : List Mark) (k f : Forest) → HasAttributes vs attributes
        → SpellsChildren ks k → Spells ms f → Spells (opens tag true ∷ vs ++ (ks ++ ms)) (entry tag attributes k f)

  -- marks spell a list of children: the null that ends it, or an entry and the rest of the list
  pub data SpellsChildren : List Mark → Forest → Type 0 where
    closed : SpellsChildren (null ∷ []) no_entries
    lone_child : (tag : ℕ) (attributes : List AttributeMeaning) (vs ms : List Mark) (f : Forest) → HasAttributes vs attributes
        → SpellsChildren ms f → SpellsChildren (opens tag false ∷ vs ++ ms) (entry tag attributes no_entries f)
    parent_child : (tag : ℕ) (attributes : List AttributeMeaning) (vs ks ms : List Mark) (k f : Forest) → HasAttributes vs attributes
        → SpellsChildren ks k → SpellsChildren ms f
        → SpellsChildren (opens tag true ∷ vs ++ (ks ++ ms)) (entry tag attributes k f)

-- the entries of one forest, and then those of another
abbrev pub followed_by : Forest → Forest → Forest
followed_by no_entries rest = rest
followed_by (entry tag attributes children siblings) rest = entry tag attributes children (followed_by siblings rest)

-- forests one after another
abbrev pub all_entries : List Forest → Forest
all_entries [] = no_entries
all_entries (f ∷ fs) = followed_by f (all_entries fs)

-- the innermost list, and the others
abbrev pub innermost : List Forest → Forest
innermost [] = no_entries
innermost (f ∷ fs) = f

abbrev pub outer : List Forest → List Forest
outer [] = []
outer (f ∷ fs) = fs

-- the lists with an entry in front of its siblings; where it has children, they are the innermost list
abbrev pub with_entry : ℕ → Bool → List AttributeMeaning → List Forest → List Forest
with_entry tag true attributes levels =
    entry tag attributes (innermost levels) (innermost (outer levels)) ∷ outer (outer levels)
with_entry tag false attributes levels = entry tag attributes no_entries (innermost levels) ∷ outer levels
