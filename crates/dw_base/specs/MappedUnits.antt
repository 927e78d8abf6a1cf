-- Units with a prefix map applied: once to each source path, and to nothing else. A path that stands in its value is mapped
-- in the room of the old one; where it doesn't fit that, the mapped units are not defined.
use Rattle.std.specs.Prelude.{true, ℕ, List, [], ◌∷◌, IsTrue, ⊤}
use Rattle.dw_base.specs.Forests.{AttributeMeaning, Forest, no_entries, entry}
use Rattle.dw_base.specs.InlinePaths.{inline_fits, mapped_inline}
use Rattle.dw_base.specs.Paths.{PathMap, mapped_path}
use Rattle.dw_base.specs.UnitMeanings.{UnitMeaning}
use Rattle.dw_base.specs.ValueMeanings.{TextForm, inline, ValueMeaning, string}

-- a path that is held so, mapped
abbrev pub mapped_text : PathMap → TextForm → List ℕ → List ℕ
mapped_text m inline t = mapped_inline m t
mapped_text m f t = mapped_path m t

-- a string that is a path is mapped, and all else stays
abbrev pub mapped_value : PathMap → ValueMeaning → ValueMeaning
mapped_value m (string true f t) = string true f (mapped_text m f t)
mapped_value m v = v

abbrev pub mapped_attribute : PathMap → AttributeMeaning → AttributeMeaning
mapped_attribute m a = record a { value = mapped_value m a.value }

abbrev pub mapped_attributes : PathMap → List AttributeMeaning → List AttributeMeaning
mapped_attributes m [] = []
mapped_attributes m (a ∷ rest) = mapped_attribute m a ∷ mapped_attributes m rest

abbrev pub mapped_forest : PathMap → Forest → Forest
mapped_forest m no_entries = no_entries
mapped_forest m (entry tag attributes children siblings) =
    entry tag (mapped_attributes m attributes) (mapped_forest m children) (mapped_forest m siblings)

abbrev pub mapped_unit : PathMap → UnitMeaning → UnitMeaning
mapped_unit m u = record u { entries = mapped_forest m u.entries }

abbrev pub mapped_units : PathMap → List UnitMeaning → List UnitMeaning
mapped_units m [] = []
mapped_units m (u ∷ rest) = mapped_unit m u ∷ mapped_units m rest

-- the mapped units are defined: each path that stands in its value fits the room when it is mapped
abbrev pub ValueFits : PathMap → ValueMeaning → Type 0
ValueFits m (string true inline t) = IsTrue (inline_fits m t)
ValueFits m v = ⊤

abbrev pub AttributesFit : PathMap → List AttributeMeaning → Type 0
AttributesFit m [] = ⊤
AttributesFit m (a ∷ rest) = ValueFits m a.value × AttributesFit m rest

abbrev pub ForestFits : PathMap → Forest → Type 0
ForestFits m no_entries = ⊤
ForestFits m (entry tag attributes children siblings) = AttributesFit m attributes × ForestFits m children × ForestFits m siblings

abbrev pub UnitsFit : PathMap → List UnitMeaning → Type 0
UnitsFit m [] = ⊤
UnitsFit m (u ∷ rest) = ForestFits m u.entries × UnitsFit m rest
