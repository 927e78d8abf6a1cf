-- Of a file and a pair that can be read exactly one thing is said.
use Rattle.std.proofs.Common.{◌≡◌, ℕ, zero, suc, ◌<◌, ◌⊎◌, inl, inr, List, [], ◌∷◌, length, refl, ap, subst, arith}
use Rattle.std.proofs.lemmas.Bool.{cases_eq}
use Rattle.dw_base.specs.DebugData.{DataReadings}
use Rattle.dw_base.specs.FileViews.{View, view_of}
use Rattle.dw_base.specs.LineMeanings.{mapped_line}
use Rattle.dw_base.specs.MappedSlots.{mapped_slots, unit_slots}
use Rattle.dw_base.specs.Paths.{PathMap}
use Rattle.dw_base.specs.ViewData.{Meaning, NamedBytes, bytes_named, meaning_of, other_sections, without_id}
use Rattle.dw_meaning.proofs.DataOneLaws.{means-one, view-means-one}
use Rattle.dw_view.specs.PairViews.{pair_view}
use Rattle.dbg_check.proofs.FirstLaws.{PlaceKnown, SomeFirst, first-excludes, first-or-all, firsts-one, part_at}
use Rattle.dbg_check.proofs.KnownLaws.{Known}
use Rattle.dbg_check.proofs.KnownPartLaws.{told_line, told_loaded, told_macro, told_names, told_texts}
use Rattle.dbg_check.proofs.KnownValueLaws.{unit-known}
use Rattle.dbg_check.proofs.OtherLaws.{Named, others-known}
use Rattle.dbg_check.proofs.PartLaws.{all-fit, all-same, parts-agree}
use Rattle.dbg_check.specs.Parts.{AgreeAt, Compared, IsFirst, LineAgrees, MacroAgrees, PartAgrees, UnitAgrees}
use Rattle.dbg_check.specs.Verdicts.{Agrees, BothMean, Differs, IsVerdict, compared}
use Rattle.dbg_check.specs.declared.verdict.Part.{Part}
use Rattle.dbg_check.specs.declared.verdict.Part.TheVariants as part
use Rattle.dbg_check.specs.declared.verdict.Verdict.{Verdict}
use Rattle.dbg_check.specs.declared.verdict.Verdict.TheVariants.{Agree, Differ}

-- ### One thing at most

-- what is compared of a file and a pair, however they are read
both-old : (b stripped debug : List ℕ) (x y : BothMean b stripped debug) → x.old ≡ y.old
both-old b stripped debug x y = means-one b x.old y.old x.means y.means

both-new : (b stripped debug : List ℕ) (x y : BothMean b stripped debug) → x.new ≡ y.new
both-new b stripped debug x y = view-means-one (pair_view debug stripped) x.new y.new x.pair_means y.pair_means

first-again : (m : PathMap) (b stripped debug : List ℕ) (x y : BothMean b stripped debug) (p : Part) → IsFirst m (compared x.old b) (compared x.new stripped) p
    → IsFirst m (compared y.old b) (compared y.new stripped) p
first-again m b stripped debug x y p first =
    subst (λ (new : Meaning). IsFirst m (compared y.old b) (compared new stripped) p) (both-new b stripped debug x y)
    (subst (λ (old : Meaning). IsFirst m (compared old b) (compared x.new stripped) p) (both-old b stripped debug x y) first)

-- all parts of what agrees agree
agrees-parts : (m : PathMap) (b stripped debug : List ℕ) (a : Agrees m b stripped debug) (p : Part) → PartAgrees m (compared a.both.old b) (compared a.both.new stripped) p
agrees-parts m b stripped debug a p = parts-agree m (compared a.both.old b) (compared a.both.new stripped) a.fits a.same a.loaded.same p

-- that a pair agrees excludes that a part is the first that differs
pub agrees-excludes : (m : PathMap) (b stripped debug : List ℕ) (p : Part) → Agrees m b stripped debug → Differs m b stripped debug p → ⊥
agrees-excludes m b stripped debug p a d =
    first-excludes m (compared a.both.old b) (compared a.both.new stripped) p (agrees-parts m b stripped debug a)
    (first-again m b stripped debug d.both a.both p d.first)

pub verdict-one : (m : PathMap) (b stripped debug : List ℕ) (v w : Verdict) → IsVerdict m b stripped debug v → IsVerdict m b stripped debug w → v ≡ w
verdict-one m b stripped debug Agree Agree one other = refl
verdict-one m b stripped debug Agree (Differ q) one other = absurd (agrees-excludes m b stripped debug q one other)
verdict-one m b stripped debug (Differ p) Agree one other = absurd (agrees-excludes m b stripped debug p other one)
verdict-one m b stripped debug (Differ p) (Differ q) one other =
    ap (λ (x : Part). Differ x)
    (firsts-one m (compared other.both.old b) (compared other.both.new stripped) p q (first-again m b stripped debug one.both other.both p one.first) other.first)

-- ### One thing at least

-- the items of two lists agree at all numbers, or a number is the first at which they don't
pub record FirstItem {A : Type 0} (R : A → A → Type 0) (xs ys : List A) : Type 0 where
  pub number : ℕ
  pub differs : AgreeAt R xs ys number → ⊥
  pub before : (k : ℕ) → k < number → AgreeAt R xs ys k

items-known : {A : Type 0} (R : A → A → Type 0) → ((x y : A) → Known (R x y)) → (xs ys : List A) → ((n : ℕ) → AgreeAt R xs ys n) ⊎ FirstItem R xs ys
items-known {A} R known [] ys = inl (λ (n : ℕ). tt)
items-known {A} R known (x ∷ xs) [] = inl (λ (n : ℕ). tt)
items-known {A} R known (x ∷ xs) (y ∷ ys) = by_front (known x y) (items-known R known xs ys)
  where
    all : R x y → ((n : ℕ) → AgreeAt R xs ys n) → (n : ℕ) → AgreeAt R (x ∷ xs) (y ∷ ys) n
    all here rest zero = here
    all here rest (suc n) = rest n

    before : R x y → (n : ℕ) → ((k : ℕ) → k < n → AgreeAt R xs ys k) → (k : ℕ) → k < suc n → AgreeAt R (x ∷ xs) (y ∷ ys) k
    before here n rest zero lt = here
    before here n rest (suc k) lt = rest k (omega (arith, lt))

    by_front : Known (R x y) → ((n : ℕ) → AgreeAt R xs ys n) ⊎ FirstItem R xs ys → ((n : ℕ) → AgreeAt R (x ∷ xs) (y ∷ ys) n) ⊎ FirstItem R (x ∷ xs) (y ∷ ys)
    by_front (inr fails) rest = inr (record { number = 0; differs = fails; before = λ (k : ℕ) (lt : k < 0). absurd (omega (arith, lt)) })
    by_front (inl here) (inl rest) = inl (all here rest)
    by_front (inl here) (inr found) = inr (record { number = suc found.number; differs = found.differs; before = before here found.number found.before })

-- of a place that has one part
lone-known : (m : PathMap) (old new : Compared) (r : ℕ) → ((n : ℕ) → PartAgrees m old new (part_at r 0) → PartAgrees m old new (part_at r n)) → Known (PartAgrees m old new (part_at r 0))
    → PlaceKnown m old new r
lone-known m old new r same (inl holds) = inl (λ (n : ℕ). same n holds)
lone-known m old new r same (inr fails) = inr (record { number = 0; differs = fails; before = λ (k : ℕ) (lt : k < 0). absurd (omega (arith, lt)) })

-- of each place it is known, where it is known of the other sections
place-known : (m : PathMap) (old new : Compared) → Known ((name : List ℕ) → old.meaning.others name ≡ new.meaning.others name) → (r : ℕ) → PlaceKnown m old new r
place-known m old new others zero =
    lone-known m old new 0 (λ (n : ℕ) (h : length old.meaning.units ≡ length new.meaning.units). h) (cases_eq (length old.meaning.units) (length new.meaning.units))
place-known m old new others (suc zero) = by (items-known (UnitAgrees m) (unit-known m) old.meaning.units new.meaning.units)
  where
    by : ((n : ℕ) → AgreeAt (UnitAgrees m) old.meaning.units new.meaning.units n) ⊎ FirstItem (UnitAgrees m) old.meaning.units new.meaning.units → PlaceKnown m old new 1
    by (inl all) = inl all
    by (inr found) = inr (record { number = found.number; differs = found.differs; before = found.before })
place-known m old new others (suc (suc zero)) =
    lone-known m old new 2 (λ (n : ℕ) (h : length old.meaning.lines ≡ length new.meaning.lines). h) (cases_eq (length old.meaning.lines) (length new.meaning.lines))
place-known m old new others (suc (suc (suc zero))) =
    by (items-known (LineAgrees m) (λ t w. told_line (mapped_line m t) w) old.meaning.lines new.meaning.lines)
  where
    by : ((n : ℕ) → AgreeAt (LineAgrees m) old.meaning.lines new.meaning.lines n) ⊎ FirstItem (LineAgrees m) old.meaning.lines new.meaning.lines → PlaceKnown m old new 3
    by (inl all) = inl all
    by (inr found) = inr (record { number = found.number; differs = found.differs; before = found.before })
place-known m old new others (suc (suc (suc (suc zero)))) =
    lone-known m old new 4 (λ (n : ℕ) (h : length old.meaning.macros ≡ length new.meaning.macros). h) (cases_eq (length old.meaning.macros) (length new.meaning.macros))
place-known m old new others (suc (suc (suc (suc (suc zero))))) = by (items-known MacroAgrees told_macro old.meaning.macros new.meaning.macros)
  where
    by : ((n : ℕ) → AgreeAt MacroAgrees old.meaning.macros new.meaning.macros n) ⊎ FirstItem MacroAgrees old.meaning.macros new.meaning.macros → PlaceKnown m old new 5
    by (inl all) = inl all
    by (inr found) = inr (record { number = found.number; differs = found.differs; before = found.before })
place-known m old new others (suc (suc (suc (suc (suc (suc zero)))))) =
    lone-known m old new 6 (λ (n : ℕ) (h : mapped_slots m (unit_slots old.meaning.units) 0 old.meaning.slots ≡ new.meaning.slots). h)
    (told_texts (mapped_slots m (unit_slots old.meaning.units) 0 old.meaning.slots) new.meaning.slots)
place-known m old new others (suc (suc (suc (suc (suc (suc (suc zero))))))) =
    lone-known m old new 7 (λ (n : ℕ) (h : old.meaning.names ≡ new.meaning.names). h) (told_names old.meaning.names new.meaning.names)
place-known m old new others (suc (suc (suc (suc (suc (suc (suc (suc zero)))))))) =
    lone-known m old new 8 (λ (n : ℕ) (h : (name : List ℕ) → old.meaning.others name ≡ new.meaning.others name). h) others
place-known m old new others (suc (suc (suc (suc (suc (suc (suc (suc (suc r))))))))) =
    lone-known m old new (suc (suc (suc (suc (suc (suc (suc (suc (suc r))))))))) (λ (n : ℕ) (h : new.loaded ≡ old.loaded). h) (told_loaded new.loaded old.loaded)

-- where it is known of the other sections, all parts agree, or one is the first that doesn't
pub agree-or-first : (m : PathMap) (old new : Compared) → Known ((name : List ℕ) → old.meaning.others name ≡ new.meaning.others name)
    → ((p : Part) → PartAgrees m old new p) ⊎ SomeFirst m old new
agree-or-first m old new others = first-or-all m old new (place-known m old new others)

-- what a reading of a view says of the other sections is a list of sections by their names
others-listed : (f g : Named) (xs ys : List NamedBytes) → bytes_named xs ≡ f → bytes_named ys ≡ g → Known ((name : List ℕ) → f name ≡ g name)
others-listed f g xs ys one other =
    subst (λ (k : Named). Known ((name : List ℕ) → f name ≡ k name)) other
    (subst (λ (k : Named). Known ((name : List ℕ) → k name ≡ bytes_named ys name)) one (others-known xs ys))

abbrev others_in : View → List NamedBytes
others_in v = other_sections (without_id v.id v.sections)

others-meant : (v : View) (r : DataReadings) (x : Meaning) → meaning_of v r ≡ x → bytes_named (others_in v) ≡ x.others
unfolding meaning_of
others-meant v r x says = ap (λ (y : Meaning). y.others) says

pub record SomeVerdict (m : PathMap) (b stripped debug : List ℕ) : Type 0 where
  pub verdict : Verdict
  pub is : IsVerdict m b stripped debug verdict

-- where a file and a pair can be read something is said of them
pub verdict-some : (m : PathMap) (b stripped debug : List ℕ) → BothMean b stripped debug → SomeVerdict m b stripped debug
verdict-some m b stripped debug both = by (agree-or-first m (compared both.old b) (compared both.new stripped) others)
  where
    others : Known ((name : List ℕ) → both.old.others name ≡ both.new.others name)
    others = others-listed both.old.others both.new.others (others_in (view_of b)) (others_in (pair_view debug stripped))
        (others-meant (view_of b) both.means.readings both.old both.means.says)
        (others-meant (pair_view debug stripped) both.pair_means.readings both.new both.pair_means.says)

    by : ((p : Part) → PartAgrees m (compared both.old b) (compared both.new stripped) p) ⊎ SomeFirst m (compared both.old b) (compared both.new stripped) → SomeVerdict m b stripped debug
    by (inl all) = record {
      verdict = Agree;
      is = record {
        both = both;
        fits = all-fit m (compared both.old b) (compared both.new stripped) all;
        same = all-same m (compared both.old b) (compared both.new stripped) all;
        loaded = record { same = all part.Loaded };
      };
    }
    by (inr found) = record { verdict = Differ found.part_is; is = record { both = both; first = found.first } }
