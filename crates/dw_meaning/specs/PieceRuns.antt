-- What pieces of a unit section say one after another, for anything that a piece says; and the same by the places of values and entries.
use Rattle.std.specs.Prelude.{ℕ, ◌+◌, List, [], ◌∷◌, ◌++◌, Option, Some, None, ⊤}
use Rattle.dw_base.specs.AbbreviationTables.{Abbreviation, abbreviation_of}
use Rattle.dw_base.specs.Lebs.{uleb_at}
use Rattle.dw_base.specs.Pieces.{Piece}
use Rattle.dw_base.specs.UnitStates.{UnitState}
use Rattle.dw_base.specs.Values.{value_at}
use Rattle.dw_base.specs.declared.shared.Params.{Params}
use Rattle.dw_base.specs.declared.units.Scanned.{Scanned}
use Rattle.dw_base.specs.declared.values.Spec.{Spec}
use Rattle.dw_base.specs.declared.values.Value.{Value}

-- nothing is asked of a piece
abbrev pub any_piece : Piece UnitState → Type 0
any_piece x = ⊤

-- of pieces one after another
abbrev pub all_of : {S : Type 0} → {T : Type 0} → (Piece S → List T) → List (Piece S) → List T
all_of F [] = []
all_of F (x ∷ xs) = F x ++ all_of F xs

-- where the values of attributes end, from a place on
abbrev pub end_behind : (ℕ → Option ℕ) → ℕ → Option Value → Option ℕ
end_behind f place None = None
end_behind f place (Some v) = f (place + v.size)

abbrev pub values_end : Params → List ℕ → List Spec → ℕ → Option ℕ
values_end params bytes [] place = Some place
values_end params bytes (x ∷ xs) place = end_behind (λ p. values_end params bytes xs p) place (value_at params x bytes place)

-- of values that stand one behind another, of entry `number`, whose tag is `tag`
abbrev pub value_out : {T : Type 0} → (ℕ → ℕ → Spec → ℕ → Value → List T) → (ℕ → List T) → ℕ → ℕ → Spec → ℕ → Option Value → List T
value_out V rest number tag x place None = []
value_out V rest number tag x place (Some v) = V number tag x place v ++ rest (place + v.size)

abbrev pub values_out : {T : Type 0} → (ℕ → ℕ → Spec → ℕ → Value → List T) → Params → List ℕ → ℕ → ℕ → List Spec → ℕ → List T
values_out V params bytes number tag [] place = []
values_out V params bytes number tag (x ∷ xs) place =
    value_out V (λ p. values_out V params bytes number tag xs p) number tag x place (value_at params x bytes place)

-- of an entry, with its values
abbrev pub listed_out : {T : Type 0} → (ℕ → ℕ → ℕ → Abbreviation → List T) → (ℕ → ℕ → Spec → ℕ → Value → List T) → Params → List ℕ → ℕ → Scanned → ℕ → Option Abbreviation → List T
listed_out E V params bytes number e from None = []
listed_out E V params bytes number e from (Some a) = E number e.offset e.depth a ++ values_out V params bytes number a.tag a.specs from

abbrev pub coded_out : {T : Type 0} → (ℕ → ℕ → ℕ → Abbreviation → List T) → (ℕ → ℕ → Spec → ℕ → Value → List T) → Params → List Abbreviation → List ℕ → ℕ → Scanned → Option (ℕ × ℕ) → List T
coded_out E V params table bytes number e None = []
coded_out E V params table bytes number e (Some (code, size)) = listed_out E V params bytes number e (e.offset + size) (abbreviation_of table code)

abbrev pub entry_out : {T : Type 0} → (ℕ → ℕ → ℕ → Abbreviation → List T) → (ℕ → ℕ → Spec → ℕ → Value → List T) → Params → List Abbreviation → List ℕ → ℕ → Scanned → List T
entry_out E V params table bytes number e = coded_out E V params table bytes number e (uleb_at bytes e.offset)

-- of entries, numbered on
abbrev pub entries_out : {T : Type 0} → (ℕ → ℕ → ℕ → Abbreviation → List T) → (ℕ → ℕ → Spec → ℕ → Value → List T) → Params → List Abbreviation → List ℕ → ℕ → List Scanned → List T
entries_out E V params table bytes number [] = []
entries_out E V params table bytes number (e ∷ es) = entry_out E V params table bytes number e ++ entries_out E V params table bytes (number + 1) es
