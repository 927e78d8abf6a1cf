-- Line tables with mapped paths, from new places by old ones; and why one can't be written (DWARF 5, 6.2.4).
use Rattle.std.specs.Prelude.{Bool, ◌≡◌, ℕ, ◌<◌, List, [], ◌∷◌, ◌++◌, length, Option, ⊤}
use Rattle.dw_base.specs.Layout.{output_limit}
use Rattle.dw_base.specs.LineReadings.{all_lines, starts_from}
use Rattle.dw_base.specs.LineSources.{LineSource}
use Rattle.dw_base.specs.LineTables.{LineTable, IsLineTable}
use Rattle.dw_base.specs.TextWriteFails.{CanWriteTexts, TextWriteFails}
use Rattle.dw_base.specs.Paths.{PathMap}
use Rattle.dw_base.specs.Refusals.{at}
use Rattle.dw_base.specs.TextLineChanges.{table_by_texts}
use Rattle.dw_base.specs.declared.fault.Kind.TheVariants.{TooLarge}
use Rattle.dw_base.specs.declared.fault.Refusal.{Refusal}
use Rattle.dw_lines.specs.NewTexts.{text_known}

-- each table stands in the section of line tables, where it starts
pub record StandsIn (g : LineSource) (t : LineTable) : Type 0 where
  pub section : t.section ≡ g.number
  pub is : IsLineTable g t.start t

abbrev pub AllStandIn : LineSource → List LineTable → Type 0
AllStandIn g [] = ⊤
AllStandIn g (t ∷ ts) = StandsIn g t × AllStandIn g ts

-- the new tables, from the new places that are known in each table of texts
abbrev pub lines_known : PathMap → LineSource → (Bool → ℕ → Option ℕ) → (Bool → ℕ → Option ℕ) → List LineTable → List (List ℕ)
lines_known m g ks kl [] = []
lines_known m g ks kl (t ∷ ts) = table_by_texts g m (text_known g ks kl) t ∷ lines_known m g ks kl ts

-- each of them can be written
abbrev pub AllCanWrite : PathMap → LineSource → (Bool → ℕ → Option ℕ) → (Bool → ℕ → Option ℕ) → List LineTable → Type 0
AllCanWrite m g ks kl [] = ⊤
AllCanWrite m g ks kl (t ∷ ts) = CanWriteTexts g m (text_known g ks kl) t × AllCanWrite m g ks kl ts

-- these are their bytes, and where they start
pub record LinesWritten (m : PathMap) (g : LineSource) (ks kl : Bool → ℕ → Option ℕ) (ts : List LineTable) (bs ns : List ℕ) : Type 0 where
  pub bytes : bs ≡ all_lines (lines_known m g ks kl ts)
  pub starts : ns ≡ starts_from 0 (lines_known m g ks kl ts)
  pub can : AllCanWrite m g ks kl ts

-- one of them can't
pub data LinesRefuse (m : PathMap) (g : LineSource) (ks kl : Bool → ℕ → Option ℕ) (ts : List LineTable) : Refusal → Type 0 where
  table_fails : (before behind : List LineTable) (t : LineTable) {r : Refusal} → ts ≡ before ++ t ∷ behind → TextWriteFails g m (text_known g ks kl) t r
      → LinesRefuse m g ks kl ts r

-- or all together would be longer than a file that is written
pub data LinesFail (m : PathMap) (g : LineSource) (ks kl : Bool → ℕ → Option ℕ) (ts : List LineTable) : Refusal → Type 0 where
  one_fails : {r : Refusal} → LinesRefuse m g ks kl ts r → LinesFail m g ks kl ts r
  all_too_long : output_limit < length (all_lines (lines_known m g ks kl ts)) → LinesFail m g ks kl ts (at TooLarge g.number 0)
