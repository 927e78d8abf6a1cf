-- Line tables written one after another: the bytes so far and those of the rest are those of all.
use Rattle.std.proofs.Common.{Bool, ◌≡◌, ℕ, zero, suc, ◌+◌, ◌<◌, ◌≤◌, List, [], ◌∷◌, ◌++◌, length, get_or, take, drop, Option, Some, None, sym, ap, ◌∙◌, subst, arith, append_assoc, append-nil}
use Rattle.std.proofs.Math.Seq.{drop-cons}
use Rattle.std.proofs.lemmas.List.{drop_all, length-append, take-append-drop}
use Rattle.dw_base.specs.DebugData.{line_source}
use Rattle.dw_base.specs.DebugSections.{name_of}
use Rattle.dw_base.specs.FileViews.{View, section_named}
use Rattle.dw_base.specs.Layout.{output_limit}
use Rattle.dw_base.specs.LineReadings.{all_lines, starts_from}
use Rattle.dw_base.specs.LineSources.{LineSource}
use Rattle.dw_base.specs.LineTables.{IsLineTable, LineTable}
use Rattle.dw_base.specs.TextWriteFails.{CanWriteTexts, TextWriteFails}
use Rattle.dw_base.specs.Paths.{PathMap}
use Rattle.dw_base.specs.Refusals.{Blames, at}
use Rattle.dw_base.specs.ViewData.{debug_data}
use Rattle.dw_base.specs.TextLineChanges.{table_by_texts}
use Rattle.dw_base.specs.declared.debug_sections.DebugSection.TheVariants.{Line}
use Rattle.dw_base.specs.declared.fault.Fault.{Fault}
use Rattle.dw_base.specs.declared.fault.Fault.TheVariants.{NoMemory, Refused}
use Rattle.dw_base.specs.declared.fault.Kind.TheVariants.{TooLarge}
use Rattle.dw_base.specs.declared.fault.Refusal.{Refusal}
use Rattle.dw_lines.specs.NewTexts.{text_known}
use Rattle.dw_lines.specs.ViewSources.{view_source}
use Rattle.dw_lines.specs.ViewTables.{TablesFound, tables_read}
use Rattle.dw_lines.proofs.ViewTableLaws.{source-none}
use Rattle.dw_lines.proofs.ReadingLaws.{source-is}
use Rattle.dw_meaning.proofs.LineSectionLaws.{no-tables}
use Rattle.dw_rewrite.specs.NewLines.{AllCanWrite, AllStandIn, LinesFail, LinesRefuse, LinesWritten, StandsIn, all_too_long, lines_known, one_fails, table_fails}
use Rattle.dw_rewrite.proofs.LineReadLaws.{all-stand}

-- a table that stands in a section of a number, by its own number
pub stands-there : (v : View) (i : ℕ) (t : LineTable) → i < length v.sections → StandsIn (view_source v i) t → t.section < length v.sections
stands-there v i t there s = subst (λ (n : ℕ). n < length v.sections) (sym s.section) there

pub stands-own : (v : View) (i : ℕ) (t : LineTable) → StandsIn (view_source v i) t → IsLineTable (view_source v t.section) t.start t
stands-own v i t s = subst (λ (n : ℕ). IsLineTable (view_source v n) t.start t) (sym s.section) s.is

pub written-there : (m : PathMap) (v : View) (i : ℕ) (t : LineTable) (ks kl : Bool → ℕ → Option ℕ) (old new bytes slice : List ℕ) → StandsIn (view_source v i) t
    → bytes ≡ table_by_texts (view_source v t.section) m (text_known (view_source v t.section) ks kl) t → slice ≡ bytes → new ≡ old ++ slice
    → new ≡ old ++ table_by_texts (view_source v i) m (text_known (view_source v i) ks kl) t
written-there m v i t ks kl old new bytes slice s is same more =
    more ∙ ap (λ (bs : List ℕ). old ++ bs) (same ∙ is) ∙ ap (λ (n : ℕ). old ++ table_by_texts (view_source v n) m (text_known (view_source v n) ks kl) t) s.section

pub can-there : (m : PathMap) (v : View) (i : ℕ) (t : LineTable) (ks kl : Bool → ℕ → Option ℕ) → StandsIn (view_source v i) t
    → CanWriteTexts (view_source v t.section) m (text_known (view_source v t.section) ks kl) t → CanWriteTexts (view_source v i) m (text_known (view_source v i) ks kl) t
can-there m v i t ks kl s can = subst (λ (n : ℕ). CanWriteTexts (view_source v n) m (text_known (view_source v n) ks kl) t) s.section can

pub fault-there : (m : PathMap) (v : View) (i : ℕ) (t : LineTable) (ks kl : Bool → ℕ → Option ℕ) (f : Fault) → StandsIn (view_source v i) t
    → Blames (TextWriteFails (view_source v t.section) m (text_known (view_source v t.section) ks kl) t) f → Blames (TextWriteFails (view_source v i) m (text_known (view_source v i) ks kl) t) f
fault-there m v i t ks kl f s b = subst (λ (n : ℕ). Blames (TextWriteFails (view_source v n) m (text_known (view_source v n) ks kl) t) f) s.section b

pub ruleset table_rules = (stands-there, stands-own, written-there, can-there, fault-there)

-- where a pass over tables stands
pub record WritePass (m : PathMap) (g : LineSource) (ks kl : Bool → ℕ → Option ℕ) (ts : List LineTable) (bs ns : List ℕ) (i : ℕ) : Type 0 where
  pub bytes : bs ++ all_lines (lines_known m g ks kl (drop i ts)) ≡ all_lines (lines_known m g ks kl ts)
  pub starts : ns ++ starts_from (length bs) (lines_known m g ks kl (drop i ts)) ≡ starts_from 0 (lines_known m g ks kl ts)
  pub can : AllCanWrite m g ks kl (drop i ts) → AllCanWrite m g ks kl ts

pub pass-starts : (m : PathMap) (g : LineSource) (ks kl : Bool → ℕ → Option ℕ) (ts : List LineTable) (bs starts_ : List ℕ) → bs ≡ [] → starts_ ≡ [] → WritePass m g ks kl ts bs starts_ 0
pass-starts m g ks kl ts bs starts_ b s = record {
  bytes = ap (λ (xs : List ℕ). xs ++ all_lines (lines_known m g ks kl ts)) b;
  starts = ap (λ (xs : List ℕ). starts_ ++ starts_from (length xs) (lines_known m g ks kl ts)) b ∙ ap (λ (xs : List ℕ). xs ++ starts_from 0 (lines_known m g ks kl ts)) s;
  can = λ all. all;
}

-- one table more of a list
pub front : (ts : List LineTable) (t : LineTable) (i : ℕ) → i < length ts → t ≡ get_or ts i t → drop i ts ≡ t ∷ drop (i + 1) ts
front ts t i lt is =
    let next : suc i ≡ i + 1 = omega arith in
    drop-cons ts i t lt ∙ ap (λ (x : LineTable). x ∷ drop (suc i) ts) (sym is) ∙ ap (λ (n : ℕ). t ∷ drop n ts) next

pub pass-more : (m : PathMap) (g : LineSource) (ks kl : Bool → ℕ → Option ℕ) (ts : List LineTable) (i n : ℕ) (t : LineTable) (old new starts_ pushed : List ℕ) → i < length ts
    → t ≡ get_or ts i t → WritePass m g ks kl ts old starts_ i → n ≡ length old → pushed ≡ starts_ ++ n ∷ [] → new ≡ old ++ table_by_texts g m (text_known g ks kl) t
    → CanWriteTexts g m (text_known g ks kl) t → WritePass m g ks kl ts new pushed (i + 1)
pass-more m g ks kl ts i n t old new starts_ pushed lt is p at more_starts more can =
    let w : List ℕ = table_by_texts g m (text_known g ks kl) t in
    let rest : List (List ℕ) = lines_known m g ks kl (drop (i + 1) ts) in
    let here : drop i ts ≡ t ∷ drop (i + 1) ts = front ts t i lt is in
    let size : length new ≡ length old + length (table_by_texts g m (text_known g ks kl) t) = ap (λ (xs : List ℕ). length xs) more ∙ length-append old w in
    record {
      bytes = ap (λ (xs : List ℕ). xs ++ all_lines (lines_known m g ks kl (drop (i + 1) ts))) more
          ∙ append_assoc old (table_by_texts g m (text_known g ks kl) t) (all_lines (lines_known m g ks kl (drop (i + 1) ts)))
          ∙ ap (λ (us : List LineTable). old ++ all_lines (lines_known m g ks kl us)) (sym here) ∙ p.bytes;
      starts = ap (λ (k : ℕ). pushed ++ starts_from k (lines_known m g ks kl (drop (i + 1) ts))) size
          ∙ ap (λ (xs : List ℕ). xs ++ starts_from (length old + length (table_by_texts g m (text_known g ks kl) t)) (lines_known m g ks kl (drop (i + 1) ts))) more_starts
          ∙ append_assoc starts_ (n ∷ []) (starts_from (length old + length (table_by_texts g m (text_known g ks kl) t)) (lines_known m g ks kl (drop (i + 1) ts)))
          ∙ ap (λ (k : ℕ). starts_ ++ k ∷ starts_from (length old + length (table_by_texts g m (text_known g ks kl) t)) (lines_known m g ks kl (drop (i + 1) ts))) at
          ∙ ap (λ (us : List LineTable). starts_ ++ starts_from (length old) (lines_known m g ks kl us)) (sym here) ∙ p.starts;
      can = λ all. p.can (subst (AllCanWrite m g ks kl) (sym here) (can, all));
    }

pub pass-ends : (m : PathMap) (g : LineSource) (ks kl : Bool → ℕ → Option ℕ) (ts : List LineTable) (i : ℕ) (bs starts_ : List ℕ) → length ts ≤ i → WritePass m g ks kl ts bs starts_ i
    → LinesWritten m g ks kl ts bs starts_
pass-ends m g ks kl ts i bs starts_ end p = record {
  bytes = sym (append-nil bs) ∙ ap (λ (us : List LineTable). bs ++ all_lines (lines_known m g ks kl us)) (sym (drop_all i ts end)) ∙ p.bytes;
  starts = sym (append-nil starts_) ∙ ap (λ (us : List LineTable). starts_ ++ starts_from (length bs) (lines_known m g ks kl us)) (sym (drop_all i ts end)) ∙ p.starts;
  can = p.can (subst (AllCanWrite m g ks kl) (sym (drop_all i ts end)) tt);
}

-- a table that can't be written, among all
pub tables-fault : (m : PathMap) (g : LineSource) (ks kl : Bool → ℕ → Option ℕ) (ts : List LineTable) (i : ℕ) (t : LineTable) (f : Fault) → i < length ts → t ≡ get_or ts i t
    → Blames (TextWriteFails g m (text_known g ks kl) t) f → Blames (LinesRefuse m g ks kl ts) f
tables-fault m g ks kl ts i t NoMemory lt is b = tt
tables-fault m g ks kl ts i t (Refused r) lt is b =
    table_fails (take i ts) (drop (i + 1) ts) t (sym (take-append-drop i ts) ∙ ap (λ (us : List LineTable). take i ts ++ us) (front ts t i lt is)) b

-- one of them stands
pub stand-at : (g : LineSource) (ts : List LineTable) (i : ℕ) (t : LineTable) → AllStandIn g ts → i < length ts → t ≡ get_or ts i t → StandsIn g t
stand-at g ts i t all lt is = subst (StandsIn g) (sym is) (by ts i lt all)
  where
    by : (us : List LineTable) (k : ℕ) → k < length us → AllStandIn g us → StandsIn g (get_or us k t)
    by [] k lt all = absurd (omega (arith, lt))
    by (u ∷ us) zero lt all = all.0
    by (u ∷ us) (suc k) lt all = by us k (omega (arith, lt)) all.1

-- those of a view
pub view-stand : (v : View) (i : ℕ) (ts : List LineTable) → Some i ≡ section_named v (name_of Line) → TablesFound v ts → AllStandIn (view_source v i) ts
view-stand v i ts e found =
    subst (λ (g : LineSource). AllStandIn g ts) (source-is v i e) (all-stand (line_source (debug_data v)) ts (length (line_source (debug_data v)).bytes) found)

pub view-written : (m : PathMap) (v : View) (i : ℕ) (ks kl : Bool → ℕ → Option ℕ) (ts : List LineTable) (bs ns : List ℕ) → Some i ≡ section_named v (name_of Line)
    → LinesWritten m (view_source v i) ks kl ts bs ns → LinesWritten m (line_source (debug_data v)) ks kl ts bs ns
view-written m v i ks kl ts bs ns e w = subst (λ (g : LineSource). LinesWritten m g ks kl ts bs ns) (sym (source-is v i e)) w

pub none-written : (m : PathMap) (v : View) (ks kl : Bool → ℕ → Option ℕ) (ts : List LineTable) (bs ns : List ℕ) → None ≡ section_named v (name_of Line) → TablesFound v ts → bs ≡ [] → ns ≡ []
    → LinesWritten m (line_source (debug_data v)) ks kl ts bs ns
none-written m v ks kl ts bs ns e found b n =
    let none : found.readings ≡ [] = no-tables (line_source (debug_data v)) found.readings (source-none v e) found.reads in
    let empty : ts ≡ [] = found.is ∙ ap (tables_read (line_source (debug_data v))) none in
    subst (λ (us : List LineTable). LinesWritten m (line_source (debug_data v)) ks kl us bs ns) (sym empty) (record { bytes = b; starts = n; can = tt })

pub view-fault : (m : PathMap) (v : View) (i : ℕ) (ks kl : Bool → ℕ → Option ℕ) (ts : List LineTable) (f : Fault) → Some i ≡ section_named v (name_of Line)
    → Blames (LinesRefuse m (view_source v i) ks kl ts) f → Blames (LinesRefuse m (line_source (debug_data v)) ks kl ts) f
view-fault m v i ks kl ts f e b = subst (λ (g : LineSource). Blames (LinesRefuse m g ks kl ts) f) (sym (source-is v i e)) b

pub ruleset view_rules = (view-stand, view-written, none-written, view-fault)

-- there are none where one can't be written, or all would be too long
pub one-fault : (m : PathMap) (g : LineSource) (ks kl : Bool → ℕ → Option ℕ) (ts : List LineTable) (f : Fault) → Blames (LinesRefuse m g ks kl ts) f → Blames (LinesFail m g ks kl ts) f
one-fault m g ks kl ts NoMemory b = tt
one-fault m g ks kl ts (Refused r) b = one_fails b

pub long-fault : (m : PathMap) (g : LineSource) (ks kl : Bool → ℕ → Option ℕ) (ts : List LineTable) (bs ns : List ℕ) (r : Refusal) → LinesWritten m g ks kl ts bs ns → output_limit < length bs
    → r ≡ at TooLarge g.number 0 → LinesFail m g ks kl ts r
long-fault m g ks kl ts bs ns r w over is = subst (LinesFail m g ks kl ts) (sym is) (all_too_long (subst (λ (x : List ℕ). output_limit < length x) w.bytes over))
