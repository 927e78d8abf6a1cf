-- Line tables are read in one way.
use Rattle.std.proofs.Common.{◌≡◌, ℕ, ◌≤◌, List, [], ◌∷◌, Option, sym, ap, ◌∙◌, refl, subst, arith}
use Rattle.std.specs.Prelude.{Result, Ok}
use Rattle.dw_base.specs.LineEntries.{entries_at}
use Rattle.dw_base.specs.LineReadings.{LineReading, ReadsTable, TablesTo}
use Rattle.dw_base.specs.LineSources.{LineSource}
use Rattle.dw_base.specs.LineTables.{table_bytes, texts_of, HasLists, old_lists, new_lists}
use Rattle.dw_base.specs.Walks.{Step, goes, ends, ComesTo}
use Rattle.dw_base.specs.OldLineLists.{next_dir, next_file}
use Rattle.dw_base.specs.LinePrograms.{next_opcode}
use Rattle.dw_base.specs.declared.line_tables.FilePlace.{FilePlace}
use Rattle.dw_base.specs.declared.line_tables.LineHeader.{LineHeader}
use Rattle.dw_base.specs.declared.line_tables.TextPlace.{TextPlace}
use Rattle.dw_meaning.proofs.LineReadLaws.{some-same}
use Rattle.dw_meaning.proofs.LineSectionLaws.{some-bytes}
use Rattle.dw_meaning.proofs.LineWalkLaws.{Runs, at_end, further, runs-of}

-- a walk comes to one thing
runs-one : {S X : Type 0} (step : S → Option (Step S X)) (s : S) (x y : X) → Runs step s x → Runs step s y → x ≡ y
runs-one {S} {X} step s x y (at_end s1 x1 e) (at_end s2 y2 f) = ends-one x y (some-same (ends x) (ends y) (sym e ∙ f))
  where
    ends-one : (a b : X) → ◌≡◌ {A = Step S X} (ends a) (ends b) → a ≡ b
    ends-one a b e = cc
runs-one {S} {X} step s x y (at_end s1 x1 e) (further s2 t y2 f w) = absurd (clash x t (some-same (ends x) (goes t) (sym e ∙ f)))
  where
    clash : (a : X) (b : S) → ◌≡◌ {A = Step S X} (ends a) (goes b) → ⊥
    clash a b e = cc
runs-one {S} {X} step s x y (further s1 t x1 e v) (at_end s2 y2 f) = absurd (clash t y (some-same (goes t) (ends y) (sym e ∙ f)))
  where
    clash : (a : S) (b : X) → ◌≡◌ {A = Step S X} (goes a) (ends b) → ⊥
    clash a b e = cc
runs-one {S} {X} step s x y (further s1 t x1 e v) (further s2 u y2 f w) =
    runs-one step t x y v (subst (λ (a : S). Runs step a y) (goes-one u t (some-same (goes u) (goes t) (sym f ∙ e))) w)
  where
    goes-one : (a b : S) → ◌≡◌ {A = Step S X} (goes a) (goes b) → a ≡ b
    goes-one a b e = cc

pub comes-one : {S X : Type 0} (step : S → Option (Step S X)) (s : S) (x y : X) → ComesTo step s x → ComesTo step s y → x ≡ y
comes-one step s x y a b = runs-one step s x y (runs-of step s x a) (runs-of step s y b)

ok-one : {Y E : Type 0} (a b : Y) → ◌≡◌ {A = Result Y E} (Ok a) (Ok b) → a ≡ b
ok-one a b e = cc

-- the lists
pub record SameLists (ds es : List TextPlace) (fs us : List FilePlace) (e k : ℕ) : Type 0 where
  pub dirs : ds ≡ es
  pub files : fs ≡ us
  pub behind : e ≡ k

pub lists-one : (g : LineSource) (h : LineHeader) (table : List ℕ) (dirs ds : List TextPlace) (files fs : List FilePlace) (behind e : ℕ) → HasLists g h table dirs files behind
    → HasLists g h table ds fs e → SameLists dirs ds files fs behind e
lists-one g h table dirs ds files fs behind e (old_lists dirs1 files1 p behind1 other d f) (old_lists ds1 fs1 q e1 not5 d2 f2) =
    let a : ◌≡◌ {A = List TextPlace × ℕ} (dirs, p) (ds, q) = comes-one (next_dir g.number table) ([], h.lists) (dirs, p) (ds, q) d d2 in
    let place : q ≡ p = ap (λ (x : List TextPlace × ℕ). x.1) (sym a) in
    let b : ◌≡◌ {A = List FilePlace × ℕ} (files, behind) (fs, e) =
    comes-one (next_file g.number table) ([], p) (files, behind) (fs, e) f (subst (λ (i : ℕ). ComesTo (next_file g.number table) ([], i) (fs, e)) place f2) in
    record { dirs = ap (λ (x : List TextPlace × ℕ). x.0) a; files = ap (λ (x : List FilePlace × ℕ). x.0) b; behind = ap (λ (x : List FilePlace × ℕ). x.1) b }
lists-one g h table dirs ds files fs behind e (old_lists dirs1 files1 p behind1 other d f) (new_lists us fs1 q e1 five d2 f2) = absurd (other five)
lists-one g h table dirs ds files fs behind e (new_lists us files1 p behind1 five d f) (old_lists ds1 fs1 q e1 other d2 f2) = absurd (other five)
lists-one g h table dirs ds files fs behind e (new_lists us files1 p behind1 five d f) (new_lists vs fs1 q e1 six d2 f2) =
    let a : ◌≡◌ {A = List FilePlace × ℕ} (us, p) (vs, q) = ok-one (us, p) (vs, q) (sym d ∙ d2) in
    let place : q ≡ p = ap (λ (x : List FilePlace × ℕ). x.1) (sym a) in
    let b : ◌≡◌ {A = List FilePlace × ℕ} (files, behind) (fs, e) = ok-one (files, behind) (fs, e) (sym f ∙ ap (entries_at g h table) (sym place) ∙ f2) in
    record {
      dirs = ap (λ (x : List FilePlace × ℕ). texts_of x.0) a;
      files = ap (λ (x : List FilePlace × ℕ). x.0) b;
      behind = ap (λ (x : List FilePlace × ℕ). x.1) b;
    }

-- a reading by its parts
abbrev reading_with : LineHeader → List TextPlace → List FilePlace → List FilePlace → ℕ → LineReading
reading_with h ds fs us e = record { header = h; dirs = ds; files = fs; defined = us; behind = e }

same-reading : (h k : LineHeader) (ds es : List TextPlace) (fs us : List FilePlace) (xs ys : List FilePlace) (a b : ℕ) → h ≡ k → ds ≡ es → fs ≡ us → xs ≡ ys → a ≡ b
    → reading_with h ds fs xs a ≡ reading_with k es us ys b
same-reading h k ds es fs us xs ys a b e1 e2 e3 e4 e5 =
    ap (λ (z : LineHeader). reading_with z ds fs xs a) e1 ∙ ap (λ (z : List TextPlace). reading_with k z fs xs a) e2 ∙ ap (λ (z : List FilePlace). reading_with k es z xs a) e3
    ∙ ap (λ (z : List FilePlace). reading_with k es us z a) e4 ∙ ap (reading_with k es us ys) e5

pub table-one : (g : LineSource) (p : ℕ) (r q : LineReading) → ReadsTable g p r → ReadsTable g p q → r ≡ q
table-one g p r q a b =
    let h : r.header ≡ q.header = some-same r.header q.header (sym a.header ∙ b.header) in
    let lists : HasLists g r.header (table_bytes g r.header) q.dirs q.files q.behind = subst (λ (x : LineHeader). HasLists g x (table_bytes g x) q.dirs q.files q.behind) (sym h) b.lists in
    let program : ComesTo (next_opcode g.number r.header (table_bytes g r.header)) ([], r.header.program) q.defined =
    subst (λ (x : LineHeader). ComesTo (next_opcode g.number x (table_bytes g x)) ([], x.program) q.defined) (sym h) b.program in
    let same = lists-one g r.header (table_bytes g r.header) r.dirs q.dirs r.files q.files r.behind q.behind a.lists lists in
    same-reading r.header q.header r.dirs q.dirs r.files q.files r.defined q.defined r.behind q.behind h same.dirs same.files
    (comes-one (next_opcode g.number r.header (table_bytes g r.header)) ([], r.header.program) r.defined q.defined a.program program) same.behind

-- tables end behind where they start
pub tables-behind : (g : LineSource) (p e : ℕ) (rs : List LineReading) → TablesTo g p rs e → p ≤ e
tables-behind g p e [] reads = omega (arith, reads)
tables-behind g p e (r ∷ rs) reads =
    let here = (some-bytes g p r reads.0).0 in
    let rest = tables-behind g r.header.end e rs reads.1 in
    omega (arith, here, rest)

pub tables-one : (g : LineSource) (p e : ℕ) (rs qs : List LineReading) → TablesTo g p rs e → TablesTo g p qs e → rs ≡ qs
tables-one g p e [] [] a b = refl
tables-one g p e [] (q ∷ qs) a b =
    let here = (some-bytes g p q b.0).0 in
    let rest = tables-behind g q.header.end e qs b.1 in
    absurd (omega (arith, a, here, rest))
tables-one g p e (r ∷ rs) [] a b =
    let here = (some-bytes g p r a.0).0 in
    let rest = tables-behind g r.header.end e rs a.1 in
    absurd (omega (arith, b, here, rest))
tables-one g p e (r ∷ rs) (q ∷ qs) a b =
    let same : r ≡ q = table-one g p r q a.0 b.0 in
    ap (λ (x : LineReading). x ∷ rs) same
    ∙ ap (λ (xs : List LineReading). q ∷ xs) (tables-one g r.header.end e rs qs a.1 (subst (λ (x : LineReading). TablesTo g x.header.end qs e) (sym same) b.1))
