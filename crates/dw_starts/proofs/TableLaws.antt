-- The tables of texts of a view.
use Rattle.std.proofs.Common.{◌≡◌, ℕ, List}
use Rattle.dw_base.specs.FileViews.{View}
use Rattle.dw_base.specs.ViewData.{debug_data, located}
use Rattle.dw_base.specs.declared.texts.TextSection.{TextSection}
use Rattle.dw_base.specs.declared.texts.TextSection.TheVariants.{InStr, InLineStr}
use Rattle.dw_starts.specs.StringTables.{section_of, offsets_in, table_number}

-- where a table of texts is, and its bytes
pub number-there : (v : View) (t : TextSection) (n : ℕ) → n ≡ (located v (section_of t)).number → n ≡ table_number (debug_data v) t
unfolding debug_data
number-there v InStr n is = is
number-there v InLineStr n is = is

pub bytes-there : (v : View) (t : TextSection) (bytes : List ℕ) → bytes ≡ (located v (section_of t)).bytes → bytes ≡ (offsets_in v t).bytes
unfolding debug_data
bytes-there v InStr bytes is = is
bytes-there v InLineStr bytes is = is

pub ruleset located_rules = (number-there, bytes-there)
