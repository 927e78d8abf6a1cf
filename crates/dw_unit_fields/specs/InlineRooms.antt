-- Paths that stand in their values: their rooms in a section, and why one can't be mapped there.
use Rattle.std.specs.Prelude.{false, ◌≡◌, ℕ, ◌+◌, ◌<◌, ◌≤◌, List, length, get_or, IsTrue}
use Rattle.dw_base.specs.InlinePaths.{inline_fits}
use Rattle.dw_base.specs.Paths.{PathMap}
use Rattle.dw_base.specs.Refusals.{at}
use Rattle.dw_base.specs.declared.fault.Kind.TheVariants.{InlineGrows}
use Rattle.dw_base.specs.declared.fault.Refusal.{Refusal}
use Rattle.dw_unit_fields.specs.SectionFields.{inline_text}
use Rattle.dw_unit_fields.specs.declared.fields.InlinePath.{InlinePath}

-- the rooms of paths lie in the section
pub record AreRooms (info : List ℕ) (paths : List InlinePath) : Type 0 where
  pub each : (k : ℕ) (d : InlinePath) → k < length paths → (get_or paths k d).at + (get_or paths k d).len ≤ length info

-- a mapped path fits its room
abbrev pub RoomFits : PathMap → List ℕ → InlinePath → Type 0
RoomFits m info p = IsTrue (inline_fits m (inline_text info p))

-- why it can't be mapped there: it would be longer
pub data GrowsOne (m : PathMap) (section : ℕ) (info : List ℕ) (p : InlinePath) : Refusal → Type 0 where
  grows : inline_fits m (inline_text info p) ≡ false → GrowsOne m section info p (at InlineGrows section p.at)

-- why paths can't be: one of them would be
pub data Grows (m : PathMap) (section : ℕ) (info : List ℕ) (paths : List InlinePath) : Refusal → Type 0 where
  one : (k : ℕ) (p : InlinePath) {r : Refusal} → k < length paths → p ≡ get_or paths k p → GrowsOne m section info p r
      → Grows m section info paths r
