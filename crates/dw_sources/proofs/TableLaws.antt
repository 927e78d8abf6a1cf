-- The line tables of a view, by the places where they start: each starts behind those before it.
use Rattle.std.proofs.Common.{Bool, true, false, ◌≡◌, ℕ, ◌<◌, ◌==◌, if◌then◌else◌, List, [], ◌∷◌, length, Option, Some, None, refl, ap, ◌∙◌, arith}
use Rattle.std.proofs.lemmas.Bool.{ne_eqb}
use Rattle.std.proofs.lemmas.Bool.Decides.{nat_tests}
use Rattle.dw_base.specs.DebugData.{line_source}
use Rattle.dw_base.specs.FileViews.{View}
use Rattle.dw_base.specs.LineReadings.{LineReading, TablesTo, table_read}
use Rattle.dw_base.specs.LineSources.{LineSource}
use Rattle.dw_base.specs.LineTables.{LineTable}
use Rattle.dw_base.specs.ViewData.{debug_data}
use Rattle.dw_lines.specs.ViewTables.{TablesFound, tables_read}
use Rattle.dw_meaning.proofs.LineHeaderLaws.{header-is}
use Rattle.dw_meaning.proofs.LineSectionLaws.{some-bytes}
use Rattle.dw_meaning.proofs.LineTableLaws.{header-places}
use Rattle.dw_sources.specs.Sources.{AreKept, KeepsOne, KeepsRest, kept_with}
use Rattle.dw_sources.specs.UnitPaths.{started_table}

-- a map with one more
pub keeps-one : (old new : ℕ → Option LineTable) (at : ℕ) (t : LineTable) → ((n : ℕ) → new n ≡ (if n == at then Some t else old n)) → KeepsOne old new at t
keeps-one old new at t more = record { more = more }

pub ruleset keep_rules = (keeps-one)

-- maps that are the same at each place are so with more tables
kept-same : (old new : ℕ → Option LineTable) (ts : List LineTable) → ((n : ℕ) → old n ≡ new n) → (n : ℕ) → kept_with old ts n ≡ kept_with new ts n
kept-same old new [] same n = same n
kept-same old new (t ∷ ts) same n =
    kept-same (λ k. if k == t.start then Some t else old k) (λ k. if k == t.start then Some t else new k) ts
    (λ k. ap (λ (o : Option LineTable). if k == t.start then Some t else o) (same k)) n

-- no tables yet, and one more
pub rest-start : (ts : List LineTable) (now : ℕ → Option LineTable) → ((n : ℕ) → now n ≡ None) → KeepsRest ts now ts
rest-start ts now none = record { same = kept-same now (λ k. None) ts none }

pub rest-more : (ts rest : List LineTable) (t : LineTable) (start : ℕ) (old new : ℕ → Option LineTable) → KeepsRest ts old (t ∷ rest) → start ≡ t.start
    → KeepsOne old new start t → KeepsRest ts new rest
rest-more ts rest t start old new p is one = record {
  same = λ (n : ℕ). kept-same new (λ k. if k == t.start then Some t else old k) rest
      (λ (k : ℕ). one.more k ∙ ap (λ (m : ℕ). if k == m then Some t else old k) is) n ∙ p.same n;
}

pub ruleset start_rules = (rest-start, rest-more)

-- a table starts where those before it end, and ends behind that
begins : (g : LineSource) (p e : ℕ) (r : LineReading) (rs : List LineReading) → TablesTo g p (r ∷ rs) e → r.header.start ≡ p
begins g p e r rs to = (header-places g p r.header (header-is g.order g.bytes p r.header to.0.header)).0

started-behind : (g : LineSource) (p e : ℕ) (rs : List LineReading) (n : ℕ) → TablesTo g p rs e → n < p → started_table g rs n ≡ None
started-behind g p e [] n to lt = refl
started-behind g p e (r ∷ rs) n to lt =
    let start : r.header.start ≡ p = begins g p e r rs to in
    let further = (some-bytes g p r to.0).0 in
    rw (ne_eqb r.header.start n (λ same. omega (arith, same, start, lt))) (started-behind g r.header.end e rs n to.1 (omega (arith, lt, further)))

-- so of tables that are kept one after another each is found where it starts
abbrev or_old : Option LineTable → Option LineTable → Option LineTable
or_old (Some t) o = Some t
or_old None o = o

or-none : (o : Option LineTable) → or_old o None ≡ o
or-none (Some t) = refl
or-none None = refl

started-with : (g : LineSource) (p e : ℕ) (rs : List LineReading) (old : ℕ → Option LineTable) (n : ℕ) → TablesTo g p rs e
    → kept_with old (tables_read g rs) n ≡ or_old (started_table g rs n) (old n)
started-with g p e [] old n to = refl
started-with g p e (r ∷ rs) old n to =
    started-with g r.header.end e rs (λ k. if k == r.header.start then Some (table_read g r) else old k) n to.1
    ∙ by_start (n == r.header.start) (r.header.start == n) refl refl
  where
    by_start : (a b : Bool) → (n == r.header.start) ≡ a → (r.header.start == n) ≡ b
        → or_old (started_table g rs n) (if a then Some (table_read g r) else old n)
        ≡ or_old (if b then Some (table_read g r) else started_table g rs n) (old n)
    by_start true true at is =
        let same : n ≡ r.header.start = grind (arith, nat_tests) in
        let start : r.header.start ≡ p = begins g p e r rs to in
        let further = (some-bytes g p r to.0).0 in
        ap (λ (o : Option LineTable). or_old o (Some (table_read g r))) (started-behind g r.header.end e rs n to.1 (omega (arith, same, start, further)))
    by_start true false at is = absurd (differ at is)
      where
        differ : (n == r.header.start) ≡ true → (r.header.start == n) ≡ false → ⊥
        differ a b = grind (arith, nat_tests)
    by_start false true at is = absurd (differ at is)
      where
        differ : (n == r.header.start) ≡ false → (r.header.start == n) ≡ true → ⊥
        differ a b = grind (arith, nat_tests)
    by_start false false at is = refl

pub are-kept : (v : View) (ts : List LineTable) (tables : ℕ → Option LineTable) → TablesFound v ts → KeepsRest ts tables [] → AreKept (debug_data v) tables
are-kept v ts tables found keeps = record {
  readings = found.readings;
  reads = found.reads;
  kept = λ (n : ℕ). keeps.same n ∙ ap (λ (xs : List LineTable). kept_with (λ k. None) xs n) found.is
      ∙ started-with (line_source (debug_data v)) 0 (length (line_source (debug_data v)).bytes) found.readings (λ k. None) n found.reads
      ∙ or-none (started_table (line_source (debug_data v)) found.readings n);
}

pub ruleset kept_rules = (are-kept)
