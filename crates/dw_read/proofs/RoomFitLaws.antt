-- Paths that stand in their values are tested against their rooms, one after another.
use Rattle.std.proofs.Common.{false, ◌≡◌, ℕ, ◌≤◌, ◌<◌, List, [], length, drop, get_or, refl, sym, ap, subst}
use Rattle.std.specs.Prelude.{nat_le}
use Rattle.std.proofs.lemmas.List.{drop_all}
use Rattle.dw_base.specs.FileViews.{View}
use Rattle.dw_base.specs.InlinePaths.{inline_fits}
use Rattle.dw_base.specs.Paths.{PathMap, mapped_path}
use Rattle.dw_base.specs.Refusals.{at}
use Rattle.dw_base.specs.ViewData.{debug_data}
use Rattle.dw_base.specs.declared.debug_sections.DebugSection.TheVariants.{Info}
use Rattle.dw_base.specs.declared.fault.Kind.TheVariants.{InlineGrows}
use Rattle.dw_base.specs.declared.fault.Refusal.{Refusal}
use Rattle.dw_unit_fields.specs.InlineRooms.{AreRooms, grows, Grows, one}
use Rattle.dw_unit_fields.specs.ViewFields.{HasPlaces, info_of}
use Rattle.dw_unit_fields.specs.TextPlaces.{InlinesFit, AllFitRooms, AllPlaced}
use Rattle.dw_unit_fields.specs.SectionFields.{SectionFields, inline_text}
use Rattle.dw_unit_fields.specs.declared.fields.InlinePath.{InlinePath}
use Rattle.dw_unit_fields.proofs.PlaceValueLaws.{EachOf}
use Rattle.dw_unit_fields.proofs.SectionFactLaws.{FitsIn, all-fit}

pub fits-same : (m : PathMap) (info : List ℕ) (p : InlinePath) (t : List ℕ) → t ≡ inline_text info p → nat_le (length (mapped_path m t)) (length t) ≡ inline_fits m (inline_text info p)
fits-same m info p t is = ap (inline_fits m) is

pub ruleset one_rules = (fits-same)

-- if the paths that are left fit, all do
pub record FitPassed (m : PathMap) (info : List ℕ) (paths : List InlinePath) (i : ℕ) : Type 0 where
  pub fits : InlinesFit m info (drop i paths) → InlinesFit m info paths

pub fit-none : (m : PathMap) (info : List ℕ) (paths : List InlinePath) → FitPassed m info paths 0
fit-none m info paths = record { fits = λ h. h }

pub fit-all : (m : PathMap) (info : List ℕ) (paths : List InlinePath) (i : ℕ) → length paths ≤ i → FitPassed m info paths i → InlinesFit m info paths
fit-all m info paths i end passed = passed.fits (subst (InlinesFit m info) (sym (drop_all i paths end)) tt)

pub ruleset rooms_rules = (fit-none, fit-all)

-- the same of sections
pub record AllFitPassed (m : PathMap) (v : View) (us : List SectionFields) (i : ℕ) : Type 0 where
  pub fits : EachOf (FitsIn m v) (drop i us) → EachOf (FitsIn m v) us

pub all-none : (m : PathMap) (v : View) (us : List SectionFields) → AllFitPassed m v us 0
all-none m v us = record { fits = λ h. h }

pub all-end : (m : PathMap) (v : View) (us : List SectionFields) (i : ℕ) → AllPlaced (debug_data v) ((debug_data v).found Info) us → length us ≤ i → AllFitPassed m v us i
    → AllFitRooms m ((debug_data v).found Info) us
all-end m v us i placed end passed =
    all-fit m v [] ((debug_data v).found Info) us refl placed (passed.fits (subst (EachOf (FitsIn m v)) (sym (drop_all i us end)) tt))

pub ruleset all_rules = (all-none)

-- what is known of a section
pub paths-there : (v : View) (u : SectionFields) → HasPlaces v u → u.number < length v.sections
paths-there v u h = h.there

pub paths-rooms : (v : View) (u : SectionFields) (info : List ℕ) → HasPlaces v u → info ≡ info_of v u → AreRooms info u.inline
paths-rooms v u info h is = subst (λ (bs : List ℕ). AreRooms bs u.inline) (sym is) h.rooms

pub ruleset section_rules = (paths-there, paths-rooms)

-- a path that would be longer
pub rooms-refused : (m : PathMap) (section : ℕ) (info : List ℕ) (paths : List InlinePath) (i : ℕ) (p : InlinePath) (r : Refusal) → i < length paths → p ≡ get_or paths i p
    → inline_fits m (inline_text info p) ≡ false → r ≡ at InlineGrows section p.at → Grows m section info paths r
rooms-refused m section info paths i p r lt is over same = subst (Grows m section info paths) (sym same) (one i p lt is (grows over))
