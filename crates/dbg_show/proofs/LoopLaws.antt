-- Directories, files and rows are printed one after another.
use Rattle.std.proofs.Common.{◌≡◌, ℕ, suc, ◌+◌, ◌<◌, ◌≤◌, List, [], ◌∷◌, ◌++◌, length, drop, drop-cons, get_or, refl, sym, ap, ◌∙◌, subst, arith}
use Rattle.std.proofs.lemmas.List.{drop_all}
use Rattle.dw_base.specs.LineMeanings.{place_text, dir_texts, file_text, file_texts}
use Rattle.dw_base.specs.LineSources.{LineSource}
use Rattle.dw_base.specs.declared.line_rows.Row.{Row}
use Rattle.dw_base.specs.declared.line_tables.FilePlace.{FilePlace}
use Rattle.dw_base.specs.declared.line_tables.TextPlace.{TextPlace}
use Rattle.file_tree.specs.Heard.{Heard}
use Rattle.dbg_show.specs.LineTexts.{dir_line, dirs_text, file_front, file_line, files_text, path_line}
use Rattle.dbg_show.specs.Printing.{Printed, Cut, Goes}
use Rattle.dbg_show.specs.Rows.{row_text, rows_text}
use Rattle.dbg_show.specs.TableLists.{TableLists, listed_row, listed_rows}
use Rattle.dbg_show.specs.declared.show_err.ShowErr.{ShowErr}
use Rattle.dbg_show.proofs.PrintingLaws.{goes-start, goes-more, goes-over, goes-cut}

-- one item more of a list
pub drop-front : {X : Type 0} (xs : List X) (i : ℕ) (d : X) → i < length xs → drop i xs ≡ get_or xs i d ∷ drop (i + 1) xs
drop-front xs i d lt =
    let next : suc i ≡ i + 1 = omega arith in
    drop-cons xs i d lt ∙ ap (λ (n : ℕ). get_or xs i d ∷ drop n xs) next

-- directories
abbrev dirs_left : LineSource → List TextPlace → ℕ → ℕ → List ℕ
dirs_left g xs first i = dirs_text (first + i) (dir_texts g (drop i xs))

dirs-first : (g : LineSource) (xs : List TextPlace) (first : ℕ) → dirs_text first (dir_texts g xs) ≡ dirs_left g xs first 0
dirs-first g xs first =
    let none : first ≡ first + 0 = omega arith in
    ap (λ (n : ℕ). dirs_text n (dir_texts g xs)) none

dirs-one : (g : LineSource) (xs : List TextPlace) (first i : ℕ) (d : TextPlace) → i < length xs
    → dirs_left g xs first i ≡ dir_line (first + i) (place_text g (get_or xs i d)) ++ dirs_left g xs first (i + 1)
dirs-one g xs first i d lt =
    let next : suc (first + i) ≡ first + (i + 1) = omega arith in
    ap (λ (ys : List TextPlace). dirs_text (first + i) (dir_texts g ys)) (drop-front xs i d lt)
    ∙ ap (λ (n : ℕ). dir_line (first + i) (place_text g (get_or xs i d)) ++ dirs_text n (dir_texts g (drop (i + 1) xs))) next

dirs-none : (g : LineSource) (xs : List TextPlace) (first i : ℕ) → length xs ≤ i → dirs_left g xs first i ≡ []
dirs-none g xs first i past = ap (λ (ys : List TextPlace). dirs_text (first + i) (dir_texts g ys)) (drop_all i xs past)

pub dirs-start : (g : LineSource) (xs : List TextPlace) (first n : ℕ) (before : List ℕ) (h : Heard) → first ≡ n
    → Goes (dirs_text n (dir_texts g xs)) (dirs_text (first + 0) (dir_texts g (drop 0 xs))) before h h before
dirs-start g xs first n before h e =
    subst (λ (m : ℕ). Goes (dirs_text m (dir_texts g xs)) (dirs_text (first + 0) (dir_texts g (drop 0 xs))) before h h before) e
    (subst (λ (rest : List ℕ). Goes (dirs_text first (dir_texts g xs)) rest before h h before) (dirs-first g xs first) (goes-start (dirs_text first (dir_texts g xs)) before h))

pub dirs-more : (g : LineSource) (xs : List TextPlace) (first i : ℕ) (d : TextPlace) (total before between behind : List ℕ) (old mid new : Heard)
    → Goes total (dirs_text (first + i) (dir_texts g (drop i xs))) before old mid between → i < length xs
    → Printed (dir_line (first + i) (place_text g (get_or xs i d))) between mid new behind
    → Goes total (dirs_text (first + (i + 1)) (dir_texts g (drop (i + 1) xs))) before old new behind
dirs-more g xs first i d total before between behind old mid new goes lt p =
    goes-more total (dir_line (first + i) (place_text g (get_or xs i d))) (dirs_left g xs first (i + 1)) before between behind old mid new
    (subst (λ (rest : List ℕ). Goes total rest before old mid between) (dirs-one g xs first i d lt) goes) p

-- the lists are those that the loop goes over
pub dirs-over : (t u : TableLists) (first n i : ℕ) (before behind : List ℕ) (old new : Heard) → u ≡ t
    → Goes (dirs_text n (dir_texts t.source t.dirs)) (dirs_text (first + i) (dir_texts t.source (drop i t.dirs))) before old new behind → length u.dirs ≤ i
    → Printed (dirs_text n (dir_texts t.source t.dirs)) before old new behind
dirs-over t u first n i before behind old new is goes past =
    let same : length u.dirs ≡ length t.dirs = ap (λ (x : TableLists). length x.dirs) is in
    goes-over (dirs_text n (dir_texts t.source t.dirs)) before behind old new
    (subst (λ (rest : List ℕ). Goes (dirs_text n (dir_texts t.source t.dirs)) rest before old new behind) (dirs-none t.source t.dirs first i (omega (arith, same, past))) goes)

pub dirs-cut : (t u : TableLists) (first n i : ℕ) (d : TextPlace) (path before between : List ℕ) (old mid new : Heard) (e : ShowErr) → u ≡ t
    → Goes (dirs_text n (dir_texts t.source t.dirs)) (dirs_text (first + i) (dir_texts t.source (drop i t.dirs))) before old mid between → i < length u.dirs
    → path ≡ place_text u.source (get_or u.dirs i d)
    → Cut (between ++ dir_line (first + i) path) mid new e → Cut (before ++ dirs_text n (dir_texts t.source t.dirs)) old new e
dirs-cut t u first n i d path before between old mid new e is goes lt p c =
    let same : length u.dirs ≡ length t.dirs = ap (λ (x : TableLists). length x.dirs) is in
    let own : path ≡ place_text t.source (get_or t.dirs i d) = p ∙ ap (λ (x : TableLists). place_text x.source (get_or x.dirs i d)) is in
    goes-cut (dirs_text n (dir_texts t.source t.dirs)) (dir_line (first + i) path) (dirs_left t.source t.dirs first (i + 1)) before between old mid new e
    (subst (λ (rest : List ℕ). Goes (dirs_text n (dir_texts t.source t.dirs)) rest before old mid between)
    (dirs-one t.source t.dirs first i d (omega (arith, same, lt)) ∙ ap (λ (x : List ℕ). dir_line (first + i) x ++ dirs_left t.source t.dirs first (i + 1)) (sym own)) goes) c

pub ruleset dir_laws = (dirs-start, dirs-more)

-- files
abbrev files_left : LineSource → List FilePlace → ℕ → ℕ → List ℕ
files_left g xs first i = files_text (first + i) (file_texts g (drop i xs))

files-first : (g : LineSource) (xs : List FilePlace) (first : ℕ) → files_text first (file_texts g xs) ≡ files_left g xs first 0
files-first g xs first =
    let none : first ≡ first + 0 = omega arith in
    ap (λ (n : ℕ). files_text n (file_texts g xs)) none

files-one : (g : LineSource) (xs : List FilePlace) (first i : ℕ) (d : FilePlace) → i < length xs
    → files_left g xs first i ≡ file_line (first + i) (file_text g (get_or xs i d)) ++ files_left g xs first (i + 1)
files-one g xs first i d lt =
    let next : suc (first + i) ≡ first + (i + 1) = omega arith in
    ap (λ (ys : List FilePlace). files_text (first + i) (file_texts g ys)) (drop-front xs i d lt)
    ∙ ap (λ (n : ℕ). file_line (first + i) (file_text g (get_or xs i d)) ++ files_text n (file_texts g (drop (i + 1) xs))) next

files-none : (g : LineSource) (xs : List FilePlace) (first i : ℕ) → length xs ≤ i → files_left g xs first i ≡ []
files-none g xs first i past = ap (λ (ys : List FilePlace). files_text (first + i) (file_texts g ys)) (drop_all i xs past)

pub files-start : (g : LineSource) (xs : List FilePlace) (first n : ℕ) (before : List ℕ) (h : Heard) → first ≡ n
    → Goes (files_text n (file_texts g xs)) (files_text (first + 0) (file_texts g (drop 0 xs))) before h h before
files-start g xs first n before h e =
    subst (λ (m : ℕ). Goes (files_text m (file_texts g xs)) (files_text (first + 0) (file_texts g (drop 0 xs))) before h h before) e
    (subst (λ (rest : List ℕ). Goes (files_text first (file_texts g xs)) rest before h h before) (files-first g xs first) (goes-start (files_text first (file_texts g xs)) before h))

pub files-more : (g : LineSource) (xs : List FilePlace) (first i : ℕ) (d : FilePlace) (total before between behind : List ℕ) (old mid new : Heard)
    → Goes total (files_text (first + i) (file_texts g (drop i xs))) before old mid between → i < length xs
    → Printed (file_line (first + i) (file_text g (get_or xs i d))) between mid new behind
    → Goes total (files_text (first + (i + 1)) (file_texts g (drop (i + 1) xs))) before old new behind
files-more g xs first i d total before between behind old mid new goes lt p =
    goes-more total (file_line (first + i) (file_text g (get_or xs i d))) (files_left g xs first (i + 1)) before between behind old mid new
    (subst (λ (rest : List ℕ). Goes total rest before old mid between) (files-one g xs first i d lt) goes) p

-- the lists are those that the loop goes over
pub files-over : (t u : TableLists) (first n i : ℕ) (before behind : List ℕ) (old new : Heard) → u ≡ t
    → Goes (files_text n (file_texts t.source t.files)) (files_text (first + i) (file_texts t.source (drop i t.files))) before old new behind → length u.files ≤ i
    → Printed (files_text n (file_texts t.source t.files)) before old new behind
files-over t u first n i before behind old new is goes past =
    let same : length u.files ≡ length t.files = ap (λ (x : TableLists). length x.files) is in
    goes-over (files_text n (file_texts t.source t.files)) before behind old new
    (subst (λ (rest : List ℕ). Goes (files_text n (file_texts t.source t.files)) rest before old new behind) (files-none t.source t.files first i (omega (arith, same, past))) goes)

pub files-cut : (t u : TableLists) (first n i dir : ℕ) (d : FilePlace) (path before between : List ℕ) (old mid new : Heard) (e : ShowErr) → u ≡ t
    → Goes (files_text n (file_texts t.source t.files)) (files_text (first + i) (file_texts t.source (drop i t.files))) before old mid between → i < length u.files
    → path ≡ place_text u.source (get_or u.files i d).text → dir ≡ (get_or u.files i d).dir
    → Cut (between ++ (file_front (first + i) dir ++ path_line path)) mid new e → Cut (before ++ files_text n (file_texts t.source t.files)) old new e
files-cut t u first n i dir d path before between old mid new e is goes lt p q c =
    let same : length u.files ≡ length t.files = ap (λ (x : TableLists). length x.files) is in
    let own : path ≡ place_text t.source (get_or t.files i d).text = p ∙ ap (λ (x : TableLists). place_text x.source (get_or x.files i d).text) is in
    let number : dir ≡ (get_or t.files i d).dir = q ∙ ap (λ (x : TableLists). (get_or x.files i d).dir) is in
    goes-cut (files_text n (file_texts t.source t.files)) (file_front (first + i) dir ++ path_line path) (files_left t.source t.files first (i + 1)) before between old mid new e
    (subst (λ (rest : List ℕ). Goes (files_text n (file_texts t.source t.files)) rest before old mid between)
    (files-one t.source t.files first i d (omega (arith, same, lt))
    ∙ ap (λ (x : List ℕ). (file_front (first + i) (get_or t.files i d).dir ++ path_line x) ++ files_left t.source t.files first (i + 1)) (sym own)
    ∙ ap (λ (x : ℕ). (file_front (first + i) x ++ path_line path) ++ files_left t.source t.files first (i + 1)) (sym number)) goes) c

pub ruleset file_laws = (files-start, files-more)

-- rows, by those that are left
rows-one : (t : TableLists) (r : Row) (rest : List Row) → rows_text (listed_rows t (r ∷ rest)) ≡ row_text (listed_row t r) ++ rows_text (listed_rows t rest)
unfolding listed_row
rows-one t r rest = refl

pub rows-start : (total before : List ℕ) (h : Heard) → Goes total total before h h before
rows-start total before h = goes-start total before h

pub rows-more : (t : TableLists) (r : Row) (left rest : List Row) (total before between behind : List ℕ) (old mid new : Heard)
    → Goes total (rows_text (listed_rows t left)) before old mid between → left ≡ r ∷ rest
    → Printed (row_text (listed_row t r)) between mid new behind → Goes total (rows_text (listed_rows t rest)) before old new behind
rows-more t r left rest total before between behind old mid new goes e p =
    goes-more total (row_text (listed_row t r)) (rows_text (listed_rows t rest)) before between behind old mid new
    (subst (λ (x : List ℕ). Goes total x before old mid between) (ap (λ (rs : List Row). rows_text (listed_rows t rs)) e ∙ rows-one t r rest) goes) p

pub rows-over : (t : TableLists) (all left : List Row) (before behind : List ℕ) (old new : Heard)
    → Goes (rows_text (listed_rows t all)) (rows_text (listed_rows t left)) before old new behind → left ≡ []
    → Printed (rows_text (listed_rows t all)) before old new behind
rows-over t all left before behind old new goes e =
    goes-over (rows_text (listed_rows t all)) before behind old new
    (subst (λ (rs : List Row). Goes (rows_text (listed_rows t all)) (rows_text (listed_rows t rs)) before old new behind) e goes)

pub rows-cut : (t : TableLists) (r : Row) (all left rest : List Row) (before between : List ℕ) (old mid new : Heard) (e : ShowErr)
    → Goes (rows_text (listed_rows t all)) (rows_text (listed_rows t left)) before old mid between → left ≡ r ∷ rest
    → Cut (between ++ row_text (listed_row t r)) mid new e → Cut (before ++ rows_text (listed_rows t all)) old new e
rows-cut t r all left rest before between old mid new e goes is c =
    goes-cut (rows_text (listed_rows t all)) (row_text (listed_row t r)) (rows_text (listed_rows t rest)) before between old mid new e
    (subst (λ (x : List ℕ). Goes (rows_text (listed_rows t all)) x before old mid between) (ap (λ (rs : List Row). rows_text (listed_rows t rs)) is ∙ rows-one t r rest) goes) c

pub ruleset row_laws = (rows-start, rows-more)
