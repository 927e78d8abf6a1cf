-- Where line tables start, one after another.
use Rattle.std.proofs.Common.{◌≡◌, ℕ, suc, ◌+◌, ◌<◌, ◌≤◌, List, [], ◌∷◌, ◌++◌, length, get_or, drop, refl, sym, ap, ◌∙◌, arith, append_assoc, append-nil}
use Rattle.std.proofs.Math.Seq.{drop-cons}
use Rattle.std.proofs.lemmas.List.{drop_all}
use Rattle.dw_base.specs.LineReadings.{LineReading, table_starts}
use Rattle.dw_base.specs.LineSources.{LineSource}
use Rattle.dw_base.specs.LineTables.{LineTable}
use Rattle.dw_lines.specs.ViewTables.{tables_read}
use Rattle.dw_starts.specs.LineStarts.{starts_of}

-- where tables start
starts-more : (ts : List LineTable) (t : LineTable) (i : ℕ) → i < length ts → t ≡ get_or ts i t → starts_of (drop i ts) ≡ t.start ∷ starts_of (drop (i + 1) ts)
starts-more ts t i lt is =
    let next : suc i ≡ i + 1 = omega arith in
    ap starts_of (drop-cons ts i t lt) ∙ ap (λ (x : LineTable). x.start ∷ starts_of (drop (suc i) ts)) (sym is)
    ∙ ap (λ (n : ℕ). t.start ∷ starts_of (drop n ts)) next

pub starts-pushed : (ts : List LineTable) (t : LineTable) (i n : ℕ) (old new : List ℕ) → i < length ts → t ≡ get_or ts i t → n ≡ t.start
    → old ++ starts_of (drop i ts) ≡ starts_of ts → new ≡ old ++ n ∷ [] → new ++ starts_of (drop (i + 1) ts) ≡ starts_of ts
starts-pushed ts t i n old new lt is start before more =
    ap (λ (ns : List ℕ). ns ++ starts_of (drop (i + 1) ts)) more ∙ append_assoc old (n ∷ []) (starts_of (drop (i + 1) ts))
    ∙ ap (λ (k : ℕ). old ++ k ∷ starts_of (drop (i + 1) ts)) start ∙ ap (λ (ns : List ℕ). old ++ ns) (sym (starts-more ts t i lt is)) ∙ before

pub starts-all : (ts : List LineTable) (i : ℕ) (starts : List ℕ) → length ts ≤ i → starts ++ starts_of (drop i ts) ≡ starts_of ts → starts ≡ starts_of ts
starts-all ts i starts end is =
    sym (append-nil starts) ∙ ap (λ (xs : List LineTable). starts ++ starts_of xs) (sym (drop_all i ts end)) ∙ is

pub ruleset start_rules = (starts-pushed, starts-all)

-- the starts of readings are those of their tables
pub read-starts : (g : LineSource) (rs : List LineReading) → starts_of (tables_read g rs) ≡ table_starts rs
read-starts g [] = refl
read-starts g (r ∷ rs) = ap (λ (ns : List ℕ). r.header.start ∷ ns) (read-starts g rs)
