-- Units and entries that are read in order are pieces, whatever these say.
use Rattle.std.proofs.Common.{false, ◌≡◌, ◌≢◌, ℕ, ◌+◌, List, [], ◌++◌, length, refl, Some}
use Rattle.dw_base.specs.AbbreviationTables.{Abbreviation, abbreviation_of}
use Rattle.dw_base.specs.Cells.{Cell}
use Rattle.dw_base.specs.EntryScans.{Scans, SpellsValues, depth_behind, is_split_root}
use Rattle.dw_base.specs.Lebs.{uleb_at}
use Rattle.dw_base.specs.Pieces.{Piece}
use Rattle.dw_base.specs.UnitHeaders.{UnitBase}
use Rattle.dw_base.specs.UnitStates.{UnitState, between, inside}
use Rattle.dw_base.specs.declared.units.Scanned.{Scanned}
use Rattle.dw_base.specs.declared.values.Spec.{Spec}
use Rattle.dw_base.specs.declared.values.Value.{Value}
use Rattle.dw_meaning.proofs.ScanPieceLaws.{Run, unit_bytes}
use Rattle.dw_meaning.specs.PieceRuns.{any_piece}
use Rattle.dw_meaning.proofs.UnitRunLaws.{UnitSays, scan-run as scan-said, code-run as code-said, values-run as values-said}

abbrev nothing : Piece UnitState → List ℕ
nothing x = []

abbrev of_entry : ℕ → ℕ → ℕ → Abbreviation → List ℕ
of_entry number place depth a = []

abbrev of_value : ℕ → ℕ → Spec → ℕ → Value → List ℕ
of_value number tag x place v = []

says-nothing : (cells : List Cell) (s : UnitState) → UnitSays any_piece nothing cells s of_entry of_value
says-nothing cells s = record {
  holds = λ m place e d k. tt;
  nulls = λ place e d p zero_. refl;
  codes = λ place e d a p some listed. refl;
  forms = λ place e d n tag x xs p front. refl;
  owns = λ place e d n tag x xs v other is. refl;
  chosen = λ place e d n tag x xs v front c. refl;
}

-- values, one after another
pub values-run : (base : UnitBase) (cells : List Cell) (s : UnitState) (start e d n tag : ℕ) (xs rest : List Spec) (place : ℕ)
    → SpellsValues s.header.params (unit_bytes s cells) start xs place
    → Run base cells (inside s start e d n tag (xs ++ rest)) (inside s place e d n tag rest) start place
values-run base cells s start e d n tag xs rest place spells =
    let r = values-said any_piece nothing of_entry of_value base cells s start e d n tag xs rest place (says-nothing cells s) spells in
    record { pieces = r.pieces; leads = r.leads; covers = r.covers }

-- the code of an entry
pub code-run : (base : UnitBase) (cells : List Cell) (s : UnitState) (place e d code size : ℕ) (a : Abbreviation)
    → uleb_at (unit_bytes s cells) place ≡ Some (code, size) → code ≢ 0 → abbreviation_of s.table code ≡ Some a → is_split_root e a ≡ false
    → Run base cells (between s place e d) (inside s (place + size) (e + 1) (depth_behind a d) e a.tag a.specs) place (place + size)
code-run base cells s place e d code size a is some listed root =
    let r = code-said any_piece nothing of_entry of_value base cells s place e d code size a (says-nothing cells s) is some listed root in
    record { pieces = r.pieces; leads = r.leads; covers = r.covers }

-- entries, one after another
pub scan-run : (base : UnitBase) (cells : List Cell) (s : UnitState) (items : List Scanned) (place depth : ℕ)
    → Scans s.header s.table (unit_bytes s cells) items place depth
    → Run base cells (between s s.header.first 0 0) (between s place (length items) depth) s.header.first place
scan-run base cells s items place depth scans =
    let r = scan-said any_piece nothing of_entry of_value base cells s items place depth (says-nothing cells s) scans in
    record { pieces = r.pieces; leads = r.leads; covers = r.covers }
