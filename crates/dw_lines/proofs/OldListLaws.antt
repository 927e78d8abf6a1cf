-- Laws of the lists before version 5, item by item.
use Rattle.std.proofs.Common.{◌≡◌, ◌≢◌, ℕ, ◌+◌, List, [], ◌∷◌, ◌++◌, Some, None, refl, ap, ◌∙◌, arith}
use Rattle.std.proofs.lemmas.Bool.{eq-eqb, ne_eqb}
use Rattle.dw_base.specs.declared.fault.Refusal.{Refusal}
use Rattle.dw_base.specs.LineTexts.{inline_text, file_numbers}
use Rattle.dw_base.specs.OldLineLists.{next_dir, next_file}
use Rattle.dw_base.specs.Walks.{goes, ends, Walks, no_step, one_more, ComesTo, Breaks, Since}
use Rattle.dw_base.specs.declared.line_tables.FilePlace.{FilePlace}
use Rattle.dw_base.specs.declared.line_tables.TextPlace.{TextPlace}

-- directories
dir-over : (section : ℕ) (table : List ℕ) (dirs : List TextPlace) (place : ℕ) (t : TextPlace) → Some t ≡ inline_text section table place → t.len ≡ 0
    → next_dir section table (dirs, place) ≡ Some (ends (dirs, place + 1))
unfolding next_dir
dir-over section table dirs place t e none = rw (← e, eq-eqb t.len 0 none) refl

dir-more : (section : ℕ) (table : List ℕ) (dirs : List TextPlace) (place : ℕ) (t : TextPlace) → Some t ≡ inline_text section table place → t.len ≢ 0
    → next_dir section table (dirs, place) ≡ Some (goes (dirs ++ t ∷ [], place + t.len + 1))
unfolding next_dir
dir-more section table dirs place t e some = rw (← e, ne_eqb t.len 0 some) refl

dir-none : (section : ℕ) (table : List ℕ) (dirs : List TextPlace) (place : ℕ) → None ≡ inline_text section table place
    → next_dir section table (dirs, place) ≡ None
unfolding next_dir
dir-none section table dirs place e = rw (← e) refl

-- what was read so far stands from a place up to another
pub record DirsUpTo (section : ℕ) (table : List ℕ) (start : ℕ) (dirs : List TextPlace) (place : ℕ) : Type 0 where
  pub walks : Walks (next_dir section table) ([], start) (dirs, place)

pub dirs-start : (section : ℕ) (table : List ℕ) (start : ℕ) → DirsUpTo section table start [] start
dirs-start section table start = record { walks = no_step }

pub dirs-more : (section : ℕ) (table : List ℕ) (start place next : ℕ) (dirs more : List TextPlace) (t : TextPlace) → DirsUpTo section table start dirs place
    → Some t ≡ inline_text section table place → t.len ≢ 0 → next ≡ place + t.len + 1 → more ≡ dirs ++ t ∷ [] → DirsUpTo section table start more next
dirs-more section table start place next dirs more t d e some n m =
    rw (n, m) (record { walks = one_more (dirs, place) (dirs ++ t ∷ [], place + t.len + 1) d.walks (dir-more section table dirs place t e some) })

pub dirs-over : (section : ℕ) (table : List ℕ) (start place next : ℕ) (dirs : List TextPlace) (t : TextPlace) → DirsUpTo section table start dirs place
    → Some t ≡ inline_text section table place → t.len ≡ 0 → next ≡ place + t.len + 1 → ComesTo (next_dir section table) ([], start) (dirs, next)
dirs-over section table start place next dirs t d e none n =
    let here : next ≡ place + 1 = n ∙ ap (λ (k : ℕ). place + k + 1) none ∙ omega arith in
    rw here (record { last = (dirs, place); walks = d.walks; over = dir-over section table dirs place t e none })

pub dirs-fail : (section : ℕ) (table : List ℕ) (start place : ℕ) (dirs : List TextPlace) (refusal : Refusal) → DirsUpTo section table start dirs place
    → None ≡ inline_text section table place → Since refusal (Breaks (next_dir section table) ([], start)) refusal
dirs-fail section table start place dirs refusal d e =
    record { same = refl; why = record { last = (dirs, place); walks = d.walks; none = dir-none section table dirs place e } }

pub ruleset dir_laws = (dirs-start, dirs-more, dirs-over, dirs-fail)

-- files
file-over : (section : ℕ) (table : List ℕ) (files : List FilePlace) (place : ℕ) (t : TextPlace) → Some t ≡ inline_text section table place → t.len ≡ 0
    → next_file section table (files, place) ≡ Some (ends (files, place + 1))
unfolding next_file
file-over section table files place t e none = rw (← e, eq-eqb t.len 0 none) refl

file-more : (section : ℕ) (table : List ℕ) (files : List FilePlace) (place dir behind : ℕ) (t : TextPlace) → Some t ≡ inline_text section table place → t.len ≢ 0
    → Some (dir, behind) ≡ file_numbers table (place + t.len + 1)
    → next_file section table (files, place) ≡ Some (goes (files ++ record { text = t; dir = dir } ∷ [], behind))
unfolding next_file
file-more section table files place dir behind t e some n = rw (← e, ne_eqb t.len 0 some, ← n) refl

file-none : (section : ℕ) (table : List ℕ) (files : List FilePlace) (place : ℕ) → None ≡ inline_text section table place
    → next_file section table (files, place) ≡ None
unfolding next_file
file-none section table files place e = rw (← e) refl

file-cut : (section : ℕ) (table : List ℕ) (files : List FilePlace) (place : ℕ) (t : TextPlace) → Some t ≡ inline_text section table place → t.len ≢ 0
    → None ≡ file_numbers table (place + t.len + 1) → next_file section table (files, place) ≡ None
unfolding next_file
file-cut section table files place t e some n = rw (← e, ne_eqb t.len 0 some, ← n) refl

pub record FilesUpTo (section : ℕ) (table : List ℕ) (start : ℕ) (files : List FilePlace) (place : ℕ) : Type 0 where
  pub walks : Walks (next_file section table) ([], start) (files, place)

pub files-start : (section : ℕ) (table : List ℕ) (start : ℕ) → FilesUpTo section table start [] start
files-start section table start = record { walks = no_step }

pub files-more : (section : ℕ) (table : List ℕ) (start place next dir behind : ℕ) (files more : List FilePlace) (t : TextPlace)
    → FilesUpTo section table start files place → Some t ≡ inline_text section table place → t.len ≢ 0 → next ≡ place + t.len + 1
    → Some (dir, behind) ≡ file_numbers table next → more ≡ files ++ record { text = t; dir = dir } ∷ [] → FilesUpTo section table start more behind
files-more section table start place next dir behind files more t f e some n numbers m =
    let here : Some (dir, behind) ≡ file_numbers table (place + t.len + 1) = numbers ∙ ap (file_numbers table) n in
    rw m (record { walks = one_more (files, place) (files ++ record { text = t; dir = dir } ∷ [], behind) f.walks (file-more section table files place dir behind t e some here) })

pub files-over : (section : ℕ) (table : List ℕ) (start place next : ℕ) (files : List FilePlace) (t : TextPlace) → FilesUpTo section table start files place
    → Some t ≡ inline_text section table place → t.len ≡ 0 → next ≡ place + t.len + 1 → ComesTo (next_file section table) ([], start) (files, next)
files-over section table start place next files t f e none n =
    let here : next ≡ place + 1 = n ∙ ap (λ (k : ℕ). place + k + 1) none ∙ omega arith in
    rw here (record { last = (files, place); walks = f.walks; over = file-over section table files place t e none })

pub files-fail : (section : ℕ) (table : List ℕ) (start place : ℕ) (files : List FilePlace) (refusal : Refusal) → FilesUpTo section table start files place
    → None ≡ inline_text section table place → Since refusal (Breaks (next_file section table) ([], start)) refusal
files-fail section table start place files refusal f e =
    record { same = refl; why = record { last = (files, place); walks = f.walks; none = file-none section table files place e } }

pub files-cut : (section : ℕ) (table : List ℕ) (start place next : ℕ) (files : List FilePlace) (t : TextPlace) (refusal : Refusal)
    → FilesUpTo section table start files place → Some t ≡ inline_text section table place → t.len ≢ 0 → next ≡ place + t.len + 1
    → None ≡ file_numbers table next → Since refusal (Breaks (next_file section table) ([], start)) refusal
files-cut section table start place next files t refusal f e some n numbers =
    let here : None ≡ file_numbers table (place + t.len + 1) = numbers ∙ ap (file_numbers table) n in
    record { same = refl; why = record { last = (files, place); walks = f.walks; none = file-cut section table files place t e some here } }

pub ruleset file_laws = (files-start, files-more, files-over, files-fail, files-cut)
