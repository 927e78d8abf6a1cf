-- Where a file can be lifted, a path that grows by its place can be an offset: it stands in its own form and has room for one, the file isn't relocatable, and
-- it has a .debug_str.
use Rattle.std.proofs.Common.{true, false, ◌≡◌, ◌≢◌, ℕ, ◌+◌, ◌<◌, ◌≤◌, ◌==◌, List, length, ap, subst, arith}
use Rattle.std.specs.Prelude.{◌||◌}
use Rattle.dw_base.specs.AbbreviationTables.{Abbreviation}
use Rattle.dw_base.specs.DebugData.{DataReadings}
use Rattle.dw_base.specs.Elf.{e_type}
use Rattle.dw_base.specs.Forms.{form_in_front, kind_in, width_size}
use Rattle.dw_base.specs.Paths.{PathMap}
use Rattle.dw_base.specs.UnitHeaders.{UnitSection}
use Rattle.dw_base.specs.declared.debug_sections.DebugSection.TheVariants.{Str}
use Rattle.dw_base.specs.declared.elf_numbers.TheConstants.{ET_DYN, ET_EXEC, ET_REL}
use Rattle.dw_base.specs.declared.units.UnitHeader.{UnitHeader}
use Rattle.dw_base.specs.declared.values.Spec.{Spec}
use Rattle.dw_base.specs.declared.values.Value.{Value}
use Rattle.dw_meaning.proofs.DataRowLaws.{SectionRead, WholeUnit, unit-whole}
use Rattle.dw_meaning.specs.FileMeanings.{file_data}
use Rattle.inline_lift.specs.LiftFails.{HasGrowing, ValueLifts}
use Rattle.inline_lift.proofs.LiftedFileLaws.{FileLifts}
use Rattle.inline_lift.proofs.MetGrowingLaws.{MetGrowing, grown-met}
use Rattle.inline_lift.proofs.MetPieceLaws.{section-met}

-- so it can be an offset
pub record Unhindered (b : List ℕ) (h : UnitHeader) (x : Spec) (v : Value) : Type 0 where
  pub loaded : e_type b ≢ ET_REL
  pub texts : ((file_data b).found Str).number ≢ 0
  pub room : width_size h.params.width ≤ v.len + 1
  pub own_form : kind_in h.params x.form ≢ form_in_front

value-unhindered : (m : PathMap) (b : List ℕ) (r : DataReadings) (z : UnitSection) (h : UnitHeader) (list : List Abbreviation) (a : Abbreviation) (x : Spec) (v : Value) → FileLifts m b r
    → HasGrowing m (file_data b) z h list a x v → (width_size h.params.width ≤ v.len + 1) × (kind_in h.params x.form ≢ form_in_front)
value-unhindered m b r z h list a x v w g =
    let s : SectionRead (file_data b).base z (ValueLifts m) = section-met (file_data b) r z h list (ValueLifts m) w.grows.reads.data_reads g.table w.can.values in
    let unit : WholeUnit (file_data b).base z g.table.unit.start h = unit-whole (file_data b) r z h w.grows.reads.data_reads g.table.unit in
    let met : MetGrowing m (ValueLifts m) h x v (s.first + length unit.list) = grown-met m (file_data b) r z h list a x v (ValueLifts m) s w.grows.reads.data_reads g unit in
    let room : width_size met.piece.state.header.params.width ≤ length met.piece.cells = met.holds.room met.grown in
    (omega (arith, room, ap (λ (k : UnitHeader). width_size k.params.width) met.header, met.len), met.own (met.holds.own_form met.grown))

not-relocatable : (b : List ℕ) → (e_type b == ET_EXEC || e_type b == ET_DYN) ≡ true → e_type b ≢ ET_REL
not-relocatable b loaded rel =
    let no : false ≡ true = subst (λ (t : ℕ). (t == ET_EXEC || t == ET_DYN) ≡ true) rel loaded in
    cc

pub lifts-unhindered : (m : PathMap) (b : List ℕ) (r : DataReadings) (z : UnitSection) (h : UnitHeader) (list : List Abbreviation) (a : Abbreviation) (x : Spec) (v : Value) → FileLifts m b r
    → HasGrowing m (file_data b) z h list a x v → Unhindered b h x v
lifts-unhindered m b r z h list a x v w g =
    let value = value-unhindered m b r z h list a x v w g in
    record {
      loaded = not-relocatable b w.loaded;
      texts = λ none. let some : 0 < ((file_data b).found Str).number = w.grows.texts in omega (arith, none, some);
      room = value.0;
      own_form = value.1;
    }
