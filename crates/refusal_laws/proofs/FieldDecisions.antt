-- The relocations on fields of a section may stand where they do, or a condition holds (gABI ch. 4 "Relocation").
use Rattle.std.proofs.Common.{true, false, ◌≡◌, ◌⊎◌, inl, inr, ℕ, ◌+◌, ◌<◌, ◌≤◌, List, length, Option, Some, None, refl, sym, ap, ◌∙◌, subst, arith}
use Rattle.std.proofs.lemmas.Bool.{cases_Bool, cases_lt}
use Rattle.std.proofs.lemmas.List.{drop_all}
use Rattle.dw_base.specs.Cells.{Cell, Relocation, cells_at, field_of, first_relocation, is_placed}
use Rattle.dw_base.specs.Refusals.{at}
use Rattle.dw_base.specs.RelocationFields.{LiesPartly, partly_at, reach_of, relocation_at}
use Rattle.dw_base.specs.RelocationRows.{FieldPlace, FieldUse, FieldsFail, FieldsRead, HeaderFails, HeaderReads, OffsetFails, OffsetReads, has_offset_at, lies_in, offset_field, plain_field}
use Rattle.dw_base.specs.RelocationRows.FieldsFail.{elsewhere, inside, offset}
use Rattle.dw_base.specs.RelocationRows.HeaderFails.{other_field, reaches}
use Rattle.dw_base.specs.RelocationRows.OffsetFails.{no_place, partly}
use Rattle.dw_base.specs.declared.fault.Kind.TheVariants.{Relocation as RelocationKind}
use Rattle.dw_base.specs.declared.shared.Order.{Order}
use Rattle.dw_base.proofs.RelocationFieldLaws.{partly-lies, partly-none}
use Rattle.refusal_laws.specs.Decided.{Both, Decided, refused, taken}
use Rattle.refusal_laws.proofs.Decisions.{clash, decided-among, decided-both, decided-by, decided-true}
use Rattle.refusal_laws.proofs.ListDecisions.{Among, Each, decided-all, decided-list, each-among}

-- ### An offset

whole-known : (order : Order) (section : ℕ) (cells : List Cell) (f : FieldPlace)
    → Decided ((p : ℕ) → LiesPartly cells f.place f.size p → ⊥) (OffsetFails order section cells f)
whole-known order section cells f = by (partly_at cells f.place f.size) refl
  where
    by : (o : Option ℕ) → partly_at cells f.place f.size ≡ o → Decided ((p : ℕ) → LiesPartly cells f.place f.size p → ⊥) (OffsetFails order section cells f)
    by None e = taken (λ (p : ℕ) (lies : LiesPartly cells f.place f.size p). partly-none cells f.place f.size p e lies)
    by (Some p) e = refused (at RelocationKind section p) (partly p (partly-lies cells f.place f.size p e))

pub offset-decided : (order : Order) (section : ℕ) (cells : List Cell) (f : FieldPlace) → Decided (OffsetReads order cells f) (OffsetFails order section cells f)
offset-decided order section cells f =
    decided-by
    (λ (b : Both ((p : ℕ) → LiesPartly cells f.place f.size p → ⊥) (is_placed (field_of order (cells_at cells f.place f.size)) ≡ true)).
    record { whole = b.first; placed = b.second })
    (decided-both (whole-known order section cells f) (λ w.
    decided-true (is_placed (field_of order (cells_at cells f.place f.size))) (at RelocationKind section f.place) no_place))

-- ### All fields of a section

-- a relocation begins in the contents
begins-before : (cells : List Cell) (p : ℕ) (r : Relocation) → relocation_at cells p ≡ Some r → p < length cells
begins-before cells p r e = by (cases_lt p (length cells))
  where
    none-there : length cells ≤ p → relocation_at cells p ≡ None
    none-there far = ap first_relocation (drop_all p cells far)

    neither : relocation_at cells p ≡ None → ⊥
    neither n = cc

    by : (p < length cells) ⊎ (length cells ≤ p) → p < length cells
    by (inl lt) = lt
    by (inr far) = absurd (neither (none-there far))

two-uses : plain_field ≡ offset_field → ⊥
two-uses e = cc

-- an offset reads, where the field is one
abbrev ReadsIf : Order → List Cell → FieldPlace → Type 0
ReadsIf order cells f = f.use_is ≡ offset_field → OffsetReads order cells f

offset-known : (order : Order) (section : ℕ) (cells : List Cell) (moving : List ℕ) (fs : List FieldPlace) (f : FieldPlace) → Among fs f
    → Decided (ReadsIf order cells f) (FieldsFail order section cells moving fs)
offset-known order section cells moving fs f a = by f.use_is refl
  where
    by : (u : FieldUse) → f.use_is ≡ u → Decided (ReadsIf order cells f) (FieldsFail order section cells moving fs)
    by plain_field e = taken (λ (is : f.use_is ≡ offset_field). absurd (two-uses (sym e ∙ is)))
    by offset_field e =
        decided-by (λ (h : OffsetReads order cells f). λ (is : f.use_is ≡ offset_field). h)
        (decided-among (λ r h. offset f (record { before = a.before; behind = a.behind; is = a.is }) e h) (offset-decided order section cells f))

-- no relocation begins inside a number
abbrev ClearAt : List Cell → FieldPlace → ℕ → Type 0
ClearAt cells f p = (r : Relocation) → f.use_is ≡ plain_field → relocation_at cells p ≡ Some r → f.place < p → p < f.place + f.size → ⊥

abbrev Clear : List Cell → FieldPlace → Type 0
Clear cells f = (p : ℕ) → p < length cells → ClearAt cells f p

place-known : (order : Order) (section : ℕ) (cells : List Cell) (moving : List ℕ) (fs : List FieldPlace) (f : FieldPlace) (p : ℕ) → Among fs f
    → Decided (ClearAt cells f p) (FieldsFail order section cells moving fs)
place-known order section cells moving fs f p a = by f.use_is refl (relocation_at cells p) refl (cases_lt f.place p) (cases_lt p (f.place + f.size))
  where
    by : (u : FieldUse) → f.use_is ≡ u → (o : Option Relocation) → relocation_at cells p ≡ o → (f.place < p) ⊎ (p ≤ f.place) → (p < f.place + f.size) ⊎ (f.place + f.size ≤ p)
        → Decided (ClearAt cells f p) (FieldsFail order section cells moving fs)
    by offset_field e o is first last = taken (λ (r : Relocation) (plain : f.use_is ≡ plain_field) begins front behind. absurd (two-uses (sym plain ∙ e)))
    by plain_field e None is first last = taken (λ (r : Relocation) (plain : f.use_is ≡ plain_field) begins front behind. absurd (never r begins is))
      where
        never : (r : Relocation) → relocation_at cells p ≡ Some r → relocation_at cells p ≡ None → ⊥
        never r b n = cc
    by plain_field e (Some r) is (inr far) last = taken (λ (s : Relocation) (plain : f.use_is ≡ plain_field) begins front behind. omega (arith, far, front))
    by plain_field e (Some r) is (inl front) (inr far) = taken (λ (s : Relocation) (plain : f.use_is ≡ plain_field) begins before behind. omega (arith, far, behind))
    by plain_field e (Some r) is (inl front) (inl behind) =
        refused (at RelocationKind section p) (inside f p r (record { before = a.before; behind = a.behind; is = a.is }) e is front behind)

-- a relocation that names a place in a section whose places change stands on an offset
abbrev KeptAt : List Cell → List ℕ → List FieldPlace → ℕ → Type 0
KeptAt cells moving fs p = (r : Relocation) → relocation_at cells p ≡ Some r → lies_in moving r.target ≡ true → has_offset_at fs p ≡ true

kept-known : (order : Order) (section : ℕ) (cells : List Cell) (moving : List ℕ) (fs : List FieldPlace) (p : ℕ)
    → Decided (KeptAt cells moving fs p) (FieldsFail order section cells moving fs)
kept-known order section cells moving fs p = by (cases_Bool (has_offset_at fs p)) (relocation_at cells p) refl
  where
    never : (r : Relocation) → relocation_at cells p ≡ Some r → relocation_at cells p ≡ None → ⊥
    never r b n = cc

    once : (r s : Relocation) → relocation_at cells p ≡ Some r → relocation_at cells p ≡ Some s → r ≡ s
    once r s e f = cc

    by_target : (r : Relocation) → relocation_at cells p ≡ Some r → has_offset_at fs p ≡ false → (lies_in moving r.target ≡ true) ⊎ (lies_in moving r.target ≡ false)
        → Decided (KeptAt cells moving fs p) (FieldsFail order section cells moving fs)
    by_target r is none (inl lies) = refused (at RelocationKind section p) (elsewhere p r is lies none)
    by_target r is none (inr apart) =
        taken (λ (s : Relocation) begins lies.
        absurd (clash lies (subst (λ (t : Relocation). lies_in moving t.target ≡ false) (once r s is begins) apart)))

    by : (has_offset_at fs p ≡ true) ⊎ (has_offset_at fs p ≡ false) → (o : Option Relocation) → relocation_at cells p ≡ o
        → Decided (KeptAt cells moving fs p) (FieldsFail order section cells moving fs)
    by (inl has) o is = taken (λ (r : Relocation) begins lies. has)
    by (inr none) None is = taken (λ (r : Relocation) begins lies. absurd (never r begins is))
    by (inr none) (Some r) is = by_target r is none (cases_Bool (lies_in moving r.target))

pub fields-decided : (order : Order) (section : ℕ) (cells : List Cell) (moving : List ℕ) (fs : List FieldPlace)
    → Decided (FieldsRead order cells moving fs) (FieldsFail order section cells moving fs)
fields-decided order section cells moving fs =
    decided-by
    (λ (b : Both (Each (ReadsIf order cells) fs) (Both (Each (Clear cells) fs) ((p : ℕ) → p < length cells → KeptAt cells moving fs p))).
    record {
      offsets = λ f is own. each-among (ReadsIf order cells) fs f (record { before = is.before; behind = is.behind; is = is.is }) b.first own;
      numbers = λ f p r is plain begins front behind.
          each-among (Clear cells) fs f (record { before = is.before; behind = is.behind; is = is.is }) b.second.first p (begins-before cells p r begins) r plain begins front behind;
      kept = λ p r begins lies. b.second.second p (begins-before cells p r begins) r begins lies;
    })
    (decided-both (decided-list {P = ReadsIf order cells} {F = FieldsFail order section cells moving fs} fs (offset-known order section cells moving fs)) (λ o.
    decided-both (decided-list {P = Clear cells} {F = FieldsFail order section cells moving fs} fs
    (λ (f : FieldPlace) (a : Among fs f).
    decided-all {P = ClearAt cells f} {F = FieldsFail order section cells moving fs} (length cells) (λ p lt. place-known order section cells moving fs f p a))) (λ n.
    decided-all {P = KeptAt cells moving fs} {F = FieldsFail order section cells moving fs} (length cells) (λ p lt. kept-known order section cells moving fs p))))

-- ### The header of a line table

abbrev OwnAt : ℕ → ℕ → List Cell → List FieldPlace → ℕ → Type 0
OwnAt start behind cells fs p = (r : Relocation) → relocation_at cells p ≡ Some r → start ≤ p → p < behind → has_offset_at fs p ≡ true

own-known : (section start behind : ℕ) (cells : List Cell) (fs : List FieldPlace) (p : ℕ) → Decided (OwnAt start behind cells fs p) (HeaderFails section start behind cells fs)
own-known section start behind cells fs p = by (cases_Bool (has_offset_at fs p)) (relocation_at cells p) refl (cases_lt p start) (cases_lt p behind)
  where
    never : (r : Relocation) → relocation_at cells p ≡ Some r → relocation_at cells p ≡ None → ⊥
    never r b n = cc

    by : (has_offset_at fs p ≡ true) ⊎ (has_offset_at fs p ≡ false) → (o : Option Relocation) → relocation_at cells p ≡ o → (p < start) ⊎ (start ≤ p) → (p < behind) ⊎ (behind ≤ p)
        → Decided (OwnAt start behind cells fs p) (HeaderFails section start behind cells fs)
    by (inl has) o is first last = taken (λ (r : Relocation) begins from below. has)
    by (inr none) None is first last = taken (λ (r : Relocation) begins from below. absurd (never r begins is))
    by (inr none) (Some r) is (inl before) last = taken (λ (s : Relocation) begins from below. absurd (omega (arith, before, from)))
    by (inr none) (Some r) is (inr from) (inr far) = taken (λ (s : Relocation) begins again below. absurd (omega (arith, far, below)))
    by (inr none) (Some r) is (inr from) (inl below) = refused (at RelocationKind section p) (other_field p r is from below none)

abbrev ApartAt : ℕ → List Cell → ℕ → Type 0
ApartAt start cells p = (r : Relocation) → relocation_at cells p ≡ Some r → p < start → p + reach_of r ≤ start

apart-known : (section start behind : ℕ) (cells : List Cell) (fs : List FieldPlace) (p : ℕ) → Decided (ApartAt start cells p) (HeaderFails section start behind cells fs)
apart-known section start behind cells fs p = by (relocation_at cells p) refl (cases_lt p start)
  where
    never : (r : Relocation) → relocation_at cells p ≡ Some r → relocation_at cells p ≡ None → ⊥
    never r b n = cc

    once : (r s : Relocation) → relocation_at cells p ≡ Some r → relocation_at cells p ≡ Some s → r ≡ s
    once r s e f = cc

    by_reach : (r : Relocation) → relocation_at cells p ≡ Some r → p < start → (start < p + reach_of r) ⊎ (p + reach_of r ≤ start)
        → Decided (ApartAt start cells p) (HeaderFails section start behind cells fs)
    by_reach r is before (inl far) = refused (at RelocationKind section p) (reaches p r is before far)
    by_reach r is before (inr within) = taken (λ (s : Relocation) begins again. subst (λ (t : Relocation). p + reach_of t ≤ start) (once r s is begins) within)

    by : (o : Option Relocation) → relocation_at cells p ≡ o → (p < start) ⊎ (start ≤ p) → Decided (ApartAt start cells p) (HeaderFails section start behind cells fs)
    by None is first = taken (λ (r : Relocation) begins before. absurd (never r begins is))
    by (Some r) is (inr from) = taken (λ (s : Relocation) begins before. absurd (omega (arith, from, before)))
    by (Some r) is (inl before) = by_reach r is before (cases_lt start (p + reach_of r))

pub header-decided : (section start behind : ℕ) (cells : List Cell) (fs : List FieldPlace) → Decided (HeaderReads start behind cells fs) (HeaderFails section start behind cells fs)
header-decided section start behind cells fs =
    decided-by
    (λ (b : Both ((p : ℕ) → p < length cells → OwnAt start behind cells fs p) ((p : ℕ) → p < length cells → ApartAt start cells p)).
    record {
      own = λ p r begins from below. b.first p (begins-before cells p r begins) r begins from below;
      apart = λ p r begins before. b.second p (begins-before cells p r begins) r begins before;
    })
    (decided-both (decided-all {P = OwnAt start behind cells fs} {F = HeaderFails section start behind cells fs} (length cells) (λ p lt. own-known section start behind cells fs p)) (λ o.
    decided-all {P = ApartAt start cells} {F = HeaderFails section start behind cells fs} (length cells) (λ p lt. apart-known section start behind cells fs p)))
