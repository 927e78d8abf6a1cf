-- The names of sources rise in byte order, none stands twice, and none has a NUL.
use Rattle.std.proofs.Common.{◌≡◌, ℕ, List, [], ◌∷◌, Option, Some, None, refl, sym, ap, ◌∙◌, subst}
use Rattle.std.proofs.lemmas.Cmp.{nat_list_cmp_total}
use Rattle.std.specs.Cmp.Lexicographic.{slice_cmp}
use Rattle.std.specs.List.{AllByRecursion}
use Rattle.std.specs.List.Sorted.{IsStrictlySortedBy}
use Rattle.std.specs.Ordering.{nat_cmp, ordering_reverse}
use Rattle.std.specs.declared.cmp.Ordering.{Ordering}
use Rattle.std.specs.declared.cmp.Ordering.TheVariants.{Less, Equal, Greater}
use Rattle.dw_base.specs.DebugData.{DebugData, line_source}
use Rattle.dw_base.specs.declared.debug_sections.DebugSection.TheVariants.{Info}
use Rattle.dw_base.specs.FileViews.{view_of}
use Rattle.dw_base.specs.Paths.{PathMap}
use Rattle.dw_sources.specs.KeptNames.{HaveNoNul, fronts_of, kept_name, placed_by, with_kept, with_name, with_paths}
use Rattle.dw_sources.specs.Sources.{AreSources, sections_paths, sources_of}
use Rattle.dw_sources.specs.UnitPaths.{started_table}
use Rattle.dw_sources.proofs.NoNulLaws.{sources-none}
use Rattle.file_tree.specs.Causes.{AreInOrder}
use Rattle.job_types.specs.Settings.{Settings}
use Rattle.job_types.specs.declared.outcome.Outcome.{Outcome}
use Rattle.dw_meaning.specs.FileMeanings.{file_data}
use Rattle.dbg_job.specs.Outcomes.{IsMade, names_of}
use Rattle.dbg_job.specs.Outcomes.IsMade.{left as made_left, edited as made_edited, split as made_split}

abbrev order : List ℕ → List ℕ → Ordering
order = slice_cmp nat_cmp

abbrev AllAbove : List ℕ → List (List ℕ) → Type 0
AllAbove k xs = AllByRecursion (λ q. order k q ≡ Less) xs

-- what is above a name is above those below it
above-all : (k x : List ℕ) (xs : List (List ℕ)) → order k x ≡ Less → AllAbove x xs → AllAbove k xs
above-all k x [] e a = tt
above-all k x (q ∷ qs) e a = (nat_list_cmp_total.trans k x q e a.0, above-all k x qs e a.1)

above-with : (k : List ℕ) (xs : List (List ℕ)) (name : List ℕ) → order k name ≡ Less → AllAbove k xs → AllAbove k (with_name xs name)
above-with k [] name e a = (e, tt)
above-with k (x ∷ xs) name e a = by_place (order name x) (above-with k xs name e a.1)
  where
    by_place : (o : Ordering) → AllAbove k (with_name xs name) → AllAbove k (placed_by o name x xs (with_name xs name))
    by_place Less rest = (e, a)
    by_place Equal rest = a
    by_place Greater rest = (a.0, rest)

rises-with : (xs : List (List ℕ)) (name : List ℕ) → AreInOrder xs → AreInOrder (with_name xs name)
unfolding IsStrictlySortedBy
rises-with [] name s = (tt, tt)
rises-with (x ∷ xs) name s = by_place (order name x) refl (rises-with xs name s.1)
  where
    by_place : (o : Ordering) → order name x ≡ o → AreInOrder (with_name xs name) → AreInOrder (placed_by o name x xs (with_name xs name))
    by_place Less e rest = ((e, above-all name x xs e s.0), s)
    by_place Equal e rest = s
    by_place Greater e rest = (above-with x xs name (nat_list_cmp_total.antisymm x name ∙ ap ordering_reverse e) s.0, rest)

rises-kept : (names : List (List ℕ)) (o : Option (List ℕ)) → AreInOrder names → AreInOrder (with_kept names o)
rises-kept names None s = s
rises-kept names (Some name) s = rises-with names name s

rises-paths : (fronts : List (List ℕ)) (names ps : List (List ℕ)) → AreInOrder names → AreInOrder (with_paths fronts names ps)
rises-paths fronts names [] s = s
rises-paths fronts names (p ∷ ps) s = rises-paths fronts (with_kept names (kept_name fronts p)) ps (rises-kept names (kept_name fronts p) s)

none-rise : AreInOrder []
unfolding IsStrictlySortedBy
none-rise = tt

pub sources-rise : (d : DebugData) (m : PathMap) (names : List (List ℕ)) → AreSources d m names → AreInOrder names
unfolding sources_of
sources-rise d m names are =
    subst AreInOrder (sym are.is)
    (rises-paths (fronts_of m) []
    (sections_paths d are.readings.contributions (started_table (line_source d) are.readings.lines) (d.found Info) are.readings.headers) none-rise)

pub made-names : (s : Settings) (b name : List ℕ) (o : Outcome) → IsMade s b name o → AreInOrder (names_of o)
made-names s b name _ (made_left why) = none-rise
made-names s b name _ (made_edited {names = names} taken free is sources) = sources-rise (file_data b) s.maps names sources
made-names s b name _ (made_split {names = names} taken loaded fits is parts sources) = sources-rise (file_data b) s.maps names sources

pub made-texts : (s : Settings) (b name : List ℕ) (o : Outcome) → IsMade s b name o → HaveNoNul (names_of o)
made-texts s b name _ (made_left why) = tt
made-texts s b name _ (made_edited {names = names} taken free is sources) = sources-none (view_of b) s.maps names sources
made-texts s b name _ (made_split {names = names} taken loaded fits is parts sources) = sources-none (view_of b) s.maps names sources
