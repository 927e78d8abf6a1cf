-- The text of a list of names.
use Rattle.std.proofs.Common.{◌≡◌, ℕ, ◌≤◌, ◌<◌, ◌+◌, add-one, List, [], ◌∷◌, ◌++◌, length, drop, map, Vec, get_or, drop-cons, refl, sym, ap, ◌∙◌, subst}
use Rattle.std.specs.declared.alloc.Global.{Global}
use Rattle.std.specs.List.{flat_map}
use Rattle.std.proofs.lemmas.List.{append_assoc, append-nil, drop_all}
use Rattle.dw_base.specs.FileViews.{view_of}
use Rattle.dw_base.specs.LineTables.{LineTable}
use Rattle.dw_base.specs.Paths.{PathMap}
use Rattle.dw_base.specs.Texts.{laid_texts}
use Rattle.dw_lines.specs.ViewTables.{TablesFound}
use Rattle.dw_meaning.specs.FileMeanings.{file_data}
use Rattle.dw_sources.specs.KeptNames.{bytes_of}
use Rattle.dw_sources.specs.Sources.{AreSources}
use Rattle.dbg_run.specs.Edits.{IsListText}

-- ### The text, name by name

abbrev pub ended_name : Vec ℕ Global → List ℕ
ended_name v = v.items ++ 0 ∷ []

names_all : (names : List (Vec ℕ Global)) → flat_map ended_name names ≡ laid_texts (map bytes_of names)
names_all [] = refl
names_all (n ∷ ns) = append_assoc n.items (0 ∷ []) (flat_map ended_name ns) ∙ ap (λ (r : List ℕ). n.items ++ 0 ∷ r) (names_all ns)

pub name_more : (xs : List (Vec ℕ Global)) (i : ℕ) (x : Vec ℕ Global) (out new whole : List ℕ) → i < length xs → x ≡ get_or xs i x
    → new ≡ out ++ ended_name x → out ++ flat_map ended_name (drop i xs) ≡ whole → new ++ flat_map ended_name (drop (i + 1) xs) ≡ whole
name_more xs i x out new whole l is e so_far =
    let next : drop i xs ≡ x ∷ drop (i + 1) xs = drop-cons xs i x l ∙ rw (← is, add-one) refl in
    ap (λ (t : List ℕ). t ++ flat_map ended_name (drop (i + 1) xs)) e ∙ append_assoc out (ended_name x) (flat_map ended_name (drop (i + 1) xs))
    ∙ ap (λ (ys : List (Vec ℕ Global)). out ++ flat_map ended_name ys) (sym next) ∙ so_far

pub names_done : (names : List (Vec ℕ Global)) (i : ℕ) (out : List ℕ) → length names ≤ i → out ++ flat_map ended_name (drop i names) ≡ flat_map ended_name names
    → out ≡ laid_texts (map bytes_of names)
names_done names i out le e =
    sym (append-nil out) ∙ ap (λ (ys : List (Vec ℕ Global)). out ++ flat_map ended_name ys) (sym (drop_all i names le)) ∙ e ∙ names_all names

pub ruleset text_rules = (name_more, names_done)

pub listed : (m : PathMap) (b c text : List ℕ) (names : List (List ℕ)) → c ≡ b → AreSources (file_data c) m names → text ≡ laid_texts names → IsListText m b text
listed m b c text names same are is =
    record { names = names; sources = subst (λ (x : List ℕ). AreSources (file_data x) m names) same are; is = is }

-- line tables of the same bytes
pub tables_same : (b c : List ℕ) (ts : List LineTable) → c ≡ b → TablesFound (view_of b) ts → TablesFound (view_of c) ts
tables_same b c ts same found = subst (λ (x : List ℕ). TablesFound (view_of x) ts) (sym same) found

pub ruleset list_rules = (listed, tables_same)
