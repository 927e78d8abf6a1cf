-- Pairs of a line table and a folder whose files are joined: they stay so, and their files add nothing.
use Rattle.std.proofs.Common.{Bool, true, false, not, ◌≡◌, ℕ, ◌||◌, List, [], ◌∷◌, Option, Some, refl, sym, ap, ◌∙◌, subst}
use Rattle.std.proofs.lemmas.Map.Lookups.{exact_bytes, exact_unsigned}
use Rattle.std.specs.BTreeSet.{insert_key}
use Rattle.std.specs.Cmp.Lexicographic.{slice_cmp}
use Rattle.std.specs.Global.{Vec}
use Rattle.std.specs.Ordering.{is_eq, match_ordering, nat_cmp, ordering_then}
use Rattle.std.specs.declared.cmp.Ordering.{Ordering}
use Rattle.std.specs.declared.cmp.Ordering.TheVariants.{Less, Equal, Greater}
use Rattle.dw_base.specs.DebugData.{DebugData, line_source}
use Rattle.dw_base.specs.LineTables.{LineTable}
use Rattle.dw_sources.specs.JoinedFiles.{AreJoined, EachJoined, EachStands, Marks, Pair, has_pair, pair_order}
use Rattle.dw_sources.specs.KeptNames.{bytes_of, with_paths}
use Rattle.dw_sources.specs.UnitPaths.{files_paths, lines_paths, table_paths}
use Rattle.dw_sources.proofs.StandLaws.{paths-stand, paths-stay, stand-same}

-- the pair of a start and a folder is put among pairs
pub pair-put : (old new : List Pair) (start : ℕ) (v : Vec ℕ) (folder : List ℕ) (fresh : Bool) → bytes_of v ≡ folder → new ≡ insert_key pair_order old (start, v)
    → fresh ≡ not (has_pair old (start, v)) → Marks old new start folder fresh
pair-put old new start v folder fresh same put is = record { pair = (start, v); starts = refl; in_folder = same; put = put; is_new = is }

pub ruleset mark_rules = (pair-put)

-- no pairs at first
pub none-joined : (d : DebugData) (tables : ℕ → Option LineTable) (fronts : List (List ℕ)) (names : List (List ℕ)) (pairs : List Pair) → pairs ≡ []
    → AreJoined d tables fronts names pairs
none-joined d tables fronts names pairs none = record { each = subst (EachJoined d tables fronts names) (sym none) tt }

-- joined pairs stay so when paths are added
each-stays : (d : DebugData) (tables : ℕ → Option LineTable) (fronts : List (List ℕ)) (names ps : List (List ℕ)) (pairs : List Pair) → EachJoined d tables fronts names pairs
    → EachJoined d tables fronts (with_paths fronts names ps) pairs
each-stays d tables fronts names ps [] each = tt
each-stays d tables fronts names ps (x ∷ xs) each =
    (paths-stay fronts names (lines_paths (line_source d) tables (bytes_of x.1) (Some x.0)) ps each.0, each-stays d tables fronts names ps xs each.1)

pub joined-stays : (d : DebugData) (tables : ℕ → Option LineTable) (fronts : List (List ℕ)) (names new ps : List (List ℕ)) (pairs : List Pair)
    → AreJoined d tables fronts names pairs → new ≡ with_paths fronts names ps → AreJoined d tables fronts new pairs
joined-stays d tables fronts names new ps pairs are e = record {
  each = subst (λ (ns : List (List ℕ)). EachJoined d tables fronts ns pairs) (sym e) (each-stays d tables fronts names ps pairs are.each);
}

-- one more pair
each-put : (d : DebugData) (tables : ℕ → Option LineTable) (fronts : List (List ℕ)) (names : List (List ℕ)) (pairs : List Pair) (x : Pair) → EachJoined d tables fronts names pairs
    → EachStands fronts names (lines_paths (line_source d) tables (bytes_of x.1) (Some x.0)) → EachJoined d tables fronts names (insert_key pair_order pairs x)
each-put d tables fronts names [] x each own = (own, tt)
each-put d tables fronts names (y ∷ ys) x each own = by_order (pair_order x y) (each-put d tables fronts names ys x each.1 own)
  where
    by_order : (o : Ordering) → EachJoined d tables fronts names (insert_key pair_order ys x)
        → EachJoined d tables fronts names (match_ordering o (x ∷ y ∷ ys) (y ∷ ys) (y ∷ insert_key pair_order ys x))
    by_order Less more = (own, each)
    by_order Equal more = each
    by_order Greater more = (each.0, more)

-- pairs of one order are the same
then-equal : (o p : Ordering) → is_eq (ordering_then o p) ≡ true → (o ≡ Equal) × (p ≡ Equal)
then-equal Less p e = absurd cc
then-equal Equal Less e = absurd cc
then-equal Equal Equal e = (refl, refl)
then-equal Equal Greater e = absurd cc
then-equal Greater p e = absurd cc

-- a pair that is among joined ones
each-found : (d : DebugData) (tables : ℕ → Option LineTable) (fronts : List (List ℕ)) (names : List (List ℕ)) (pairs : List Pair) (x : Pair) → EachJoined d tables fronts names pairs
    → has_pair pairs x ≡ true → EachStands fronts names (lines_paths (line_source d) tables (bytes_of x.1) (Some x.0))
each-found d tables fronts names [] x each has = absurd cc
each-found d tables fronts names (y ∷ ys) x each has = by_first (is_eq (pair_order x y)) refl has (each-found d tables fronts names ys x each.1)
  where
    by_first : (b : Bool) → is_eq (pair_order x y) ≡ b → (b || has_pair ys x) ≡ true
        → (has_pair ys x ≡ true → EachStands fronts names (lines_paths (line_source d) tables (bytes_of x.1) (Some x.0)))
        → EachStands fronts names (lines_paths (line_source d) tables (bytes_of x.1) (Some x.0))
    by_first true same h rest =
        let both = then-equal (nat_cmp x.0 y.0) (slice_cmp nat_cmp (bytes_of x.1) (bytes_of y.1)) same in
        subst (λ (n : ℕ). EachStands fronts names (lines_paths (line_source d) tables (bytes_of x.1) (Some n))) (sym (exact_unsigned x.0 y.0 both.0))
        (subst (λ (f : List ℕ). EachStands fronts names (lines_paths (line_source d) tables f (Some y.0))) (sym (exact_bytes (bytes_of x.1) (bytes_of y.1) both.1)) each.0)
    by_first false other h rest = rest h

is-there : (fresh has : Bool) → fresh ≡ not has → fresh ≡ false → has ≡ true
is-there fresh true e is = refl
is-there fresh false e is = absurd cc

-- a pair that isn't new: nothing changes
pub known-same : (d : DebugData) (tables : ℕ → Option LineTable) (fronts : List (List ℕ)) (folder : List ℕ) (names : List (List ℕ)) (old new : List Pair) (start : ℕ) (t : LineTable) (fresh : Bool)
    → AreJoined d tables fronts names old → Marks old new start folder fresh → fresh ≡ false → Some t ≡ tables start
    → names ≡ with_paths fronts names (files_paths (line_source d) folder t t.files)
known-same d tables fronts folder names old new start t fresh are m is found =
    let own = each-found d tables fronts names old m.pair are.each (is-there fresh (has_pair old m.pair) m.is_new is) in
    stand-same fronts names (lines_paths (line_source d) tables (bytes_of m.pair.1) (Some m.pair.0)) own
    ∙ ap (λ (n : ℕ). with_paths fronts names (lines_paths (line_source d) tables (bytes_of m.pair.1) (Some n))) m.starts
    ∙ ap (λ (f : List ℕ). with_paths fronts names (lines_paths (line_source d) tables f (Some start))) m.in_folder
    ∙ ap (λ (o : Option LineTable). with_paths fronts names (table_paths (line_source d) folder o)) (sym found)

pub known-joined : (d : DebugData) (tables : ℕ → Option LineTable) (fronts : List (List ℕ)) (folder : List ℕ) (names : List (List ℕ)) (old new : List Pair) (start : ℕ) (fresh : Bool)
    → AreJoined d tables fronts names old → Marks old new start folder fresh → fresh ≡ false → AreJoined d tables fronts names new
known-joined d tables fronts folder names old new start fresh are m is = record {
  each = subst (EachJoined d tables fronts names) (sym m.put)
      (each-put d tables fronts names old m.pair are.each (each-found d tables fronts names old m.pair are.each (is-there fresh (has_pair old m.pair) m.is_new is)));
}

-- a new pair, whose files are added
pub new-joined : (d : DebugData) (tables : ℕ → Option LineTable) (fronts : List (List ℕ)) (folder : List ℕ) (names now : List (List ℕ)) (old new : List Pair) (start : ℕ) (t : LineTable) (fresh : Bool)
    → AreJoined d tables fronts names old → Marks old new start folder fresh → Some t ≡ tables start
    → now ≡ with_paths fronts names (files_paths (line_source d) folder t t.files) → AreJoined d tables fronts now new
new-joined d tables fronts folder names now old new start t fresh are m found e =
    let more : now ≡ with_paths fronts names (lines_paths (line_source d) tables (bytes_of m.pair.1) (Some m.pair.0)) =
    e ∙ ap (λ (o : Option LineTable). with_paths fronts names (table_paths (line_source d) folder o)) found
    ∙ ap (λ (f : List ℕ). with_paths fronts names (lines_paths (line_source d) tables f (Some start))) (sym m.in_folder)
    ∙ ap (λ (n : ℕ). with_paths fronts names (lines_paths (line_source d) tables (bytes_of m.pair.1) (Some n))) (sym m.starts) in
    record {
      each = subst (λ (ns : List (List ℕ)). EachJoined d tables fronts ns new) (sym more)
          (subst (EachJoined d tables fronts (with_paths fronts names (lines_paths (line_source d) tables (bytes_of m.pair.1) (Some m.pair.0)))) (sym m.put)
          (each-put d tables fronts (with_paths fronts names (lines_paths (line_source d) tables (bytes_of m.pair.1) (Some m.pair.0))) old m.pair
          (each-stays d tables fronts names (lines_paths (line_source d) tables (bytes_of m.pair.1) (Some m.pair.0)) old are.each)
          (paths-stand fronts names (lines_paths (line_source d) tables (bytes_of m.pair.1) (Some m.pair.0)))));
    }

pub ruleset lines_rules = (known-same, known-joined, new-joined)
