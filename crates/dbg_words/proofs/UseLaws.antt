-- Parts that are used one after another: when they pass, and which rows they leave.
use Rattle.std.proofs.Common.{◌≡◌, Bool, true, false, not, cond, ◌&&◌, ◌||◌, List, [], ◌∷◌, ◌++◌, length, nat_lt, Option, Some, None, is_some, codes, refl, sym, ap, subst, ◌∙◌, append-nil, append_assoc}
use Rattle.std.specs.Prelude.{find, if◌then◌else◌, option_and_then, option_map, slice_get, unwrap_or}
use Rattle.std.specs.List.{list_all}
use Rattle.std.specs.Str.{bytes_eq}
use Rattle.std.proofs.lemmas.Slice.Eq.{bytes_eq-Decides}
use Rattle.clap.specs.Walk.{Row, Text, all_of, at_row, has_row, more_values}
use Rattle.clap.specs.declared.builder.value_parser.Reading.TheVariants.{AsWritten}
use Rattle.clap.specs.declared.parser.matches.ValueSource.TheVariants.{CommandLine as command_line}
use Rattle.dw_base.specs.Texts.{is_in}
use Rattle.dbg_words.specs.CommandLines.{Part, are_fit, flags, is_given, paths_of, valued_options, value_of}
use Rattle.dbg_words.specs.CommandLines.{Part as part}
use Rattle.dbg_words.proofs.BoolLaws.{and_false, and_left, and_right, and_true, not_true}
use Rattle.dbg_words.proofs.ReadLaws.{after_parts, parts_pass}
use Rattle.dbg_words.proofs.WalkLaws.{after_use, is_typed, use_passes}

-- the row of an id
abbrev pub found : Text → List Row → Option Row
found id rows = find (λ r. bytes_eq r.id id) rows

pub has_row-found : (id : Text) (rows : List Row) → has_row id rows ≡ is_some (found id rows)
has_row-found id [] = refl
has_row-found id (r ∷ rs) =
    elim (bytes_eq r.id id) as (λ t. (t || has_row id rs) ≡ is_some (cond t (Some r) (found id rs))) [ true ↦ refl | false ↦ has_row-found id rs ]

-- the first of two that is there
abbrev pub or_first : Option Row → Option Row → Option Row
or_first None b = b
or_first (Some r) b = Some r

pub or_first-none : (a : Option Row) → or_first a None ≡ a
or_first-none None = refl
or_first-none (Some r) = refl

pub found-append : (id : Text) (rows : List Row) (row : Row) → found id (rows ++ row ∷ []) ≡ or_first (found id rows) (if bytes_eq row.id id then Some row else None)
found-append id [] row = refl
found-append id (r ∷ rs) row =
    elim (bytes_eq r.id id) as (λ t. cond t (Some r) (found id (rs ++ row ∷ [])) ≡ or_first (cond t (Some r) (found id rs)) (if bytes_eq row.id id then Some row else None)) [
      | true ↦ refl
      | false ↦ found-append id rs row
    ]

-- where an id has no row, one more joins at the end
pub at_end : (id : Text) (change : Row → List Row) (missing rows : List Row) → has_row id rows ≡ false → at_row id change missing rows ≡ rows ++ missing
at_end id change missing [] e = refl
at_end id change missing (r ∷ rs) e =
    elim (bytes_eq r.id id) as (λ t. (t || has_row id rs) ≡ false → (if t then change r ++ rs else r ∷ at_row id change missing rs) ≡ r ∷ (rs ++ missing)) [
      | true ↦ λ f. cc
      | false ↦ λ f. ap (λ xs. r ∷ xs) (at_end id change missing rs f)
    ] e

-- the rows of an option with a value, and of a flag that is set
abbrev pub value_row : Text → Text → Row
value_row name text = record { id = name; values = text ∷ []; count = None; source = Some command_line; reading = AsWritten }

abbrev pub flag_row : Text → Row
flag_row name = value_row name (codes "true")

use_value : (name text : Text) (rows : List Row) → use_passes (part.value name text) rows ≡ (not (has_row name rows) && nat_lt 0 (length text))
use_value name text rows = go (has_row name rows) (nat_lt 0 (length text)) refl refl
  where
    go : (h b : Bool) → has_row name rows ≡ h → nat_lt 0 (length text) ≡ b → use_passes (part.value name text) rows ≡ (not h && b)
    go true b e f = rw e refl
    go false true e f = rw (e, f) refl
    go false false e f = rw (e, f) refl

use_flag : (name : Text) (rows : List Row) → use_passes (part.flag name) rows ≡ not (has_row name rows)
use_flag name rows = go (has_row name rows) refl
  where
    go : (h : Bool) → has_row name rows ≡ h → use_passes (part.flag name) rows ≡ not h
    go true e = rw e refl
    go false e = rw e refl

pub after_value : (name text : Text) (rows : List Row) → has_row name rows ≡ false → after_use (part.value name text) rows ≡ rows ++ value_row name text ∷ []
after_value name text rows e =
    ap (at_row name (more_values command_line (text ∷ [])) (value_row name text ∷ [])) (at_end name (λ _. []) [] rows e ∙ append-nil rows)
    ∙ at_end name (more_values command_line (text ∷ [])) (value_row name text ∷ []) rows e

pub after_flag : (name : Text) (rows : List Row) → has_row name rows ≡ false → after_use (part.flag name) rows ≡ rows ++ flag_row name ∷ []
after_flag name rows e =
    ap (at_row name (more_values command_line (codes "true" ∷ [])) (flag_row name ∷ [])) (at_end name (λ _. []) [] rows e ∙ append-nil rows)
    ∙ at_end name (more_values command_line (codes "true" ∷ [])) (flag_row name ∷ []) rows e

-- ---- paths

abbrev path_id : Text
path_id = codes "path"

abbrev more_path : Text → List Row → List Row
more_path word rows = at_row path_id (more_values command_line (word ∷ [])) (value_row path_id word ∷ []) rows

-- a path changes no other row
pub found_beside_path : (id word : Text) (rows : List Row) → bytes_eq path_id id ≡ false → found id (after_use (part.path word) rows) ≡ found id rows
found_beside_path id word [] e = rw e refl
found_beside_path id word (r ∷ rs) e =
    elim (bytes_eq r.id path_id) as (λ t. bytes_eq r.id path_id ≡ t → found id (if t then more_values command_line (word ∷ []) r ++ rs else r ∷ more_path word rs) ≡ found id (r ∷ rs)) [
      | true ↦ λ f.
          let other : bytes_eq r.id id ≡ false = ap (λ (x : Text). bytes_eq x id) ((bytes_eq-Decides r.id path_id).0 f) ∙ e in
          rw other refl
      | false ↦ λ f. ap (λ o. cond (bytes_eq r.id id) (Some r) o) (found_beside_path id word rs e)
    ] refl

-- the paths that the rows have
abbrev pub path_values : List Row → List Text
path_values rows = unwrap_or (all_of path_id rows) []

pub paths_more : (word : Text) (rows : List Row) → path_values (after_use (part.path word) rows) ≡ path_values rows ++ word ∷ []
paths_more word [] = refl
paths_more word (r ∷ rs) =
    elim (bytes_eq r.id path_id) as (λ t. bytes_eq r.id path_id ≡ t → path_values (if t then more_values command_line (word ∷ []) r ++ rs else r ∷ more_path word rs)
    ≡ unwrap_or (option_map (λ (x : Row). x.values) (cond t (Some r) (found path_id rs))) [] ++ word ∷ []) [
      | true ↦ λ f. rw f refl
      | false ↦ λ f. rw f (paths_more word rs)
    ] refl

-- ---- typed parts

-- no option is named as the paths are
not_path : (names : List Text) (n : Text) → is_in names path_id ≡ false → is_in names n ≡ true → bytes_eq path_id n ≡ false
not_path names n none known =
    elim (bytes_eq path_id n) as (λ t. bytes_eq path_id n ≡ t → t ≡ false) [
      | true ↦ λ e.
          let is : is_in names path_id ≡ true = ap (is_in names) ((bytes_eq-Decides path_id n).0 e) ∙ known in
          cc
      | false ↦ λ e. refl
    ] refl

-- no flag takes a value
flag_or_value : (n : Text) → is_in flags n ≡ true → is_in valued_options n ≡ true → true ≡ false
flag_or_value n flag known =
    by_name (codes "build-id") (codes "skip-refused" ∷ codes "grow-inline" ∷ []) refl
    (by_name (codes "skip-refused") (codes "grow-inline" ∷ []) refl (by_name (codes "grow-inline") [] refl (λ h. sym h))) flag
  where
    by_name : (name : Text) (names : List Text) → is_in valued_options name ≡ false → (is_in names n ≡ true → true ≡ false)
        → (if bytes_eq name n then true else is_in names n) ≡ true → true ≡ false
    by_name name names other rest =
        elim (bytes_eq name n) as (λ t. bytes_eq name n ≡ t → (if t then true else is_in names n) ≡ true → true ≡ false) [
          | true ↦ λ e f. let is : false ≡ true = sym other ∙ (ap (is_in valued_options) ((bytes_eq-Decides name n).0 e) ∙ known) in sym is
          | false ↦ λ e f. rest f
        ] refl

-- ---- which parts pass

-- no part is of an option that has a row
abbrev clashes : List Row → Part → Bool
clashes rows (part.path word) = false
clashes rows (part.value name text) = has_row name rows
clashes rows (part.flag name) = has_row name rows

abbrev are_apart : List Row → List Part → Bool
are_apart rows ps = list_all (λ p. not (clashes rows p)) ps

apart_none : (ps : List Part) → are_apart [] ps ≡ true
apart_none [] = refl
apart_none (part.path word ∷ ps) = apart_none ps
apart_none (part.value name text ∷ ps) = apart_none ps
apart_none (part.flag name ∷ ps) = apart_none ps

has_row_beside_path : (id word : Text) (rows : List Row) → bytes_eq path_id id ≡ false → has_row id (after_use (part.path word) rows) ≡ has_row id rows
has_row_beside_path id word rows e =
    has_row-found id (after_use (part.path word) rows) ∙ ap (λ (o : Option Row). is_some o) (found_beside_path id word rows e) ∙ sym (has_row-found id rows)

apart_beside_path : (word : Text) (rows : List Row) (ps : List Part) → list_all is_typed ps ≡ true
    → are_apart (after_use (part.path word) rows) ps ≡ are_apart rows ps
apart_beside_path word rows [] typed = refl
apart_beside_path word rows (part.path w ∷ ps) typed = apart_beside_path word rows ps typed
apart_beside_path word rows (part.value name text ∷ ps) typed =
    let same : has_row name (after_use (part.path word) rows) ≡ has_row name rows =
    has_row_beside_path name word rows (not_path valued_options name refl (and_left _ _ typed)) in
    ap (λ t. not t && are_apart (after_use (part.path word) rows) ps) same
    ∙ ap (λ t. not (has_row name rows) && t) (apart_beside_path word rows ps (and_right _ _ typed))
apart_beside_path word rows (part.flag name ∷ ps) typed =
    let same : has_row name (after_use (part.path word) rows) ≡ has_row name rows =
    has_row_beside_path name word rows (not_path flags name refl (and_left _ _ typed)) in
    ap (λ t. not t && are_apart (after_use (part.path word) rows) ps) same
    ∙ ap (λ t. not (has_row name rows) && t) (apart_beside_path word rows ps (and_right _ _ typed))

-- one row more
has_row-append : (id : Text) (rows : List Row) (row : Row) → has_row id (rows ++ row ∷ []) ≡ (has_row id rows || bytes_eq row.id id)
has_row-append id [] row = elim (bytes_eq row.id id) as (λ t. (t || false) ≡ t) [ true ↦ refl | false ↦ refl ]
has_row-append id (r ∷ rs) row =
    elim (bytes_eq r.id id) as (λ t. (t || has_row id (rs ++ row ∷ [])) ≡ ((t || has_row id rs) || bytes_eq row.id id)) [ true ↦ refl | false ↦ has_row-append id rs row ]

same_either : (a b : Text) → bytes_eq a b ≡ bytes_eq b a
same_either a b =
    elim (bytes_eq a b) as (λ t. bytes_eq a b ≡ t → t ≡ bytes_eq b a) [
      | true ↦ λ e. sym ((bytes_eq-Decides b a).1 (sym ((bytes_eq-Decides a b).0 e)))
      | false ↦ λ e.
          elim (bytes_eq b a) as (λ t. bytes_eq b a ≡ t → false ≡ t) [
            | true ↦ λ f. sym e ∙ (bytes_eq-Decides a b).1 (sym ((bytes_eq-Decides b a).0 f))
            | false ↦ λ f. refl
          ] refl
    ] refl

-- tests in another order
join_apart : (h x a g : Bool) → (not (h || x) && (a && not g)) ≡ ((not h && a) && not (x || g))
join_apart true x a g = refl
join_apart false true a g = sym (and_false a)
join_apart false false a g = refl

apart_more : (rows : List Row) (row : Row) (ps : List Part) → are_apart (rows ++ row ∷ []) ps ≡ (are_apart rows ps && not (is_given row.id ps))
apart_more rows row [] = refl
apart_more rows row (part.path word ∷ ps) = apart_more rows row ps
apart_more rows row (part.value name text ∷ ps) =
    ap (λ t. not t && are_apart (rows ++ row ∷ []) ps) (has_row-append name rows row ∙ ap (λ t. has_row name rows || t) (same_either row.id name))
    ∙ ap (λ t. not (has_row name rows || bytes_eq name row.id) && t) (apart_more rows row ps)
    ∙ join_apart (has_row name rows) (bytes_eq name row.id) (are_apart rows ps) (is_given row.id ps)
apart_more rows row (part.flag name ∷ ps) =
    ap (λ t. not t && are_apart (rows ++ row ∷ []) ps) (has_row-append name rows row ∙ ap (λ t. has_row name rows || t) (same_either row.id name))
    ∙ ap (λ t. not (has_row name rows || bytes_eq name row.id) && t) (apart_more rows row ps)
    ∙ join_apart (has_row name rows) (bytes_eq name row.id) (are_apart rows ps) (is_given row.id ps)

fit_value : (b fit a g : Bool) → (b && (fit && (a && not g))) ≡ (((not g && b) && fit) && a)
fit_value true true true true = refl
fit_value true true true false = refl
fit_value true true false true = refl
fit_value true true false false = refl
fit_value true false true true = refl
fit_value true false true false = refl
fit_value true false false true = refl
fit_value true false false false = refl
fit_value false fit a true = refl
fit_value false fit a false = refl

fit_flag : (fit a g : Bool) → (fit && (a && not g)) ≡ ((not g && fit) && a)
fit_flag true true true = refl
fit_flag true true false = refl
fit_flag true false true = refl
fit_flag true false false = refl
fit_flag false a true = refl
fit_flag false a false = refl

-- parts pass exactly where they are fit and none has a row
pub passes_fit : (ps : List Part) (rows : List Row) → list_all is_typed ps ≡ true → parts_pass rows ps ≡ (are_fit ps && are_apart rows ps)
passes_fit [] rows typed = refl
passes_fit (part.path word ∷ ps) rows typed =
    passes_fit ps (after_use (part.path word) rows) typed ∙ ap (λ t. are_fit ps && t) (apart_beside_path word rows ps typed)
passes_fit (part.value name text ∷ ps) rows typed =
    ap (λ t. t && parts_pass (after_use (part.value name text) rows) ps) (use_value name text rows)
    ∙ go (has_row name rows) refl (passes_fit ps (rows ++ value_row name text ∷ []) (and_right _ _ typed))
  where
    go : (h : Bool) → has_row name rows ≡ h
        → parts_pass (rows ++ value_row name text ∷ []) ps ≡ (are_fit ps && are_apart (rows ++ value_row name text ∷ []) ps)
        → ((not h && nat_lt 0 (length text)) && parts_pass (after_use (part.value name text) rows) ps)
        ≡ (((not (is_given name ps) && nat_lt 0 (length text)) && are_fit ps) && (not h && are_apart rows ps))
    go true e behind = sym (and_false _)
    go false e behind =
        let P : List Row → Type 0 = λ v. (nat_lt 0 (length text) && parts_pass v ps) ≡ (((not (is_given name ps) && nat_lt 0 (length text)) && are_fit ps) && are_apart rows ps) in
        subst P (sym (after_value name text rows e)) (
        ap (λ t. nat_lt 0 (length text) && t) (behind ∙ ap (λ t. are_fit ps && t) (apart_more rows (value_row name text) ps))
        ∙ fit_value (nat_lt 0 (length text)) (are_fit ps) (are_apart rows ps) (is_given name ps)
        )
passes_fit (part.flag name ∷ ps) rows typed =
    ap (λ t. t && parts_pass (after_use (part.flag name) rows) ps) (use_flag name rows)
    ∙ go (has_row name rows) refl (passes_fit ps (rows ++ flag_row name ∷ []) (and_right _ _ typed))
  where
    go : (h : Bool) → has_row name rows ≡ h → parts_pass (rows ++ flag_row name ∷ []) ps ≡ (are_fit ps && are_apart (rows ++ flag_row name ∷ []) ps)
        → (not h && parts_pass (after_use (part.flag name) rows) ps) ≡ ((not (is_given name ps) && are_fit ps) && (not h && are_apart rows ps))
    go true e behind = sym (and_false _)
    go false e behind =
        let P : List Row → Type 0 = λ v. parts_pass v ps ≡ ((not (is_given name ps) && are_fit ps) && are_apart rows ps) in
        subst P (sym (after_flag name rows e)) (
        behind ∙ ap (λ t. are_fit ps && t) (apart_more rows (flag_row name) ps) ∙ fit_flag (are_fit ps) (are_apart rows ps) (is_given name ps)
        )

pub passes_first : (ps : List Part) → list_all is_typed ps ≡ true → parts_pass [] ps ≡ are_fit ps
passes_first ps typed = passes_fit ps [] typed ∙ ap (λ t. are_fit ps && t) (apart_none ps) ∙ and_true (are_fit ps)

-- ---- what the rows say of an option

abbrev pub given_row : Text → List Part → Option Row
given_row id [] = None
given_row id (part.path word ∷ ps) = given_row id ps
given_row id (part.value name text ∷ ps) = if bytes_eq name id then Some (value_row name text) else given_row id ps
given_row id (part.flag name ∷ ps) = if bytes_eq name id then Some (flag_row name) else given_row id ps

first_of_two : (o : Option Row) (t : Bool) (row : Row) (rest : Option Row) → or_first (or_first o (if t then Some row else None)) rest ≡ or_first o (if t then Some row else rest)
first_of_two None true row rest = refl
first_of_two None false row rest = refl
first_of_two (Some r) t row rest = refl

pub found_given : (id : Text) → bytes_eq path_id id ≡ false → (ps : List Part) (rows : List Row) → parts_pass rows ps ≡ true
    → found id (after_parts rows ps) ≡ or_first (found id rows) (given_row id ps)
found_given id other [] rows passes = sym (or_first-none (found id rows))
found_given id other (part.path word ∷ ps) rows passes =
    found_given id other ps (after_use (part.path word) rows) passes ∙ ap (λ o. or_first o (given_row id ps)) (found_beside_path id word rows other)
found_given id other (part.value name text ∷ ps) rows passes =
    let free : has_row name rows ≡ false = not_true _ (and_left _ _ (sym (use_value name text rows) ∙ and_left _ _ passes)) in
    found_given id other ps (after_use (part.value name text) rows) (and_right _ _ passes)
    ∙ ap (λ o. or_first o (given_row id ps)) (ap (found id) (after_value name text rows free) ∙ found-append id rows (value_row name text))
    ∙ first_of_two (found id rows) (bytes_eq name id) (value_row name text) (given_row id ps)
found_given id other (part.flag name ∷ ps) rows passes =
    let free : has_row name rows ≡ false = not_true _ (sym (use_flag name rows) ∙ and_left _ _ passes) in
    found_given id other ps (after_use (part.flag name) rows) (and_right _ _ passes)
    ∙ ap (λ o. or_first o (given_row id ps)) (ap (found id) (after_flag name rows free) ∙ found-append id rows (flag_row name))
    ∙ first_of_two (found id rows) (bytes_eq name id) (flag_row name) (given_row id ps)

-- the first value of a row
abbrev pub first_text : Option Row → Option Text
first_text o = option_and_then (λ (r : Row). slice_get r.values 0) o

pub value_given : (id : Text) → is_in valued_options id ≡ true → (ps : List Part) → list_all is_typed ps ≡ true → first_text (given_row id ps) ≡ value_of id ps
value_given id known [] typed = refl
value_given id known (part.path word ∷ ps) typed = value_given id known ps typed
value_given id known (part.value name text ∷ ps) typed =
    elim (bytes_eq name id) as (λ t. first_text (if t then Some (value_row name text) else given_row id ps) ≡ (if t then Some text else value_of id ps)) [
      | true ↦ refl
      | false ↦ value_given id known ps (and_right _ _ typed)
    ]
value_given id known (part.flag name ∷ ps) typed =
    elim (bytes_eq name id) as (λ t. bytes_eq name id ≡ t → first_text (if t then Some (flag_row name) else given_row id ps) ≡ value_of id ps) [
      | true ↦ λ e.
          let flag : is_in flags id ≡ true = ap (is_in flags) (sym ((bytes_eq-Decides name id).0 e)) ∙ and_left _ _ typed in
          let never : true ≡ false = flag_or_value id flag known in
          cc
      | false ↦ λ e. value_given id known ps (and_right _ _ typed)
    ] refl

-- a flag's text, where it isn't given
abbrev pub text_or_off : Option Row → Option Row → Option Text
text_or_off off o = first_text (or_first o off)

pub flag_given : (id : Text) (off : Row) → is_in flags id ≡ true → (ps : List Part) → list_all is_typed ps ≡ true
    → text_or_off (Some off) (given_row id ps) ≡ (if is_given id ps then Some (codes "true") else first_text (Some off))
flag_given id off known [] typed = refl
flag_given id off known (part.path word ∷ ps) typed = flag_given id off known ps typed
flag_given id off known (part.value name text ∷ ps) typed =
    elim (bytes_eq name id) as (λ t. bytes_eq name id ≡ t → text_or_off (Some off) (if t then Some (value_row name text) else given_row id ps)
    ≡ (if (t || is_given id ps) then Some (codes "true") else first_text (Some off))) [
      | true ↦ λ e.
          let valued : is_in valued_options id ≡ true = ap (is_in valued_options) (sym ((bytes_eq-Decides name id).0 e)) ∙ and_left _ _ typed in
          let never : true ≡ false = flag_or_value id known valued in
          cc
      | false ↦ λ e. flag_given id off known ps (and_right _ _ typed)
    ] refl
flag_given id off known (part.flag name ∷ ps) typed =
    elim (bytes_eq name id) as (λ t. text_or_off (Some off) (if t then Some (flag_row name) else given_row id ps)
    ≡ (if (t || is_given id ps) then Some (codes "true") else first_text (Some off))) [
      | true ↦ refl
      | false ↦ flag_given id off known ps (and_right _ _ typed)
    ]

-- ---- what the rows say of the paths

values_append : (rows : List Row) (row : Row) → bytes_eq row.id path_id ≡ false → path_values (rows ++ row ∷ []) ≡ path_values rows
values_append rows row other =
    ap (λ o. unwrap_or (option_map (λ (r : Row). r.values) o) []) (
    found-append path_id rows row ∙ ap (λ t. or_first (found path_id rows) (if t then Some row else None)) other ∙ or_first-none (found path_id rows)
    )

pub paths_given : (ps : List Part) (rows : List Row) → list_all is_typed ps ≡ true → parts_pass rows ps ≡ true
    → path_values (after_parts rows ps) ≡ path_values rows ++ paths_of ps
paths_given [] rows typed passes = sym (append-nil (path_values rows))
paths_given (part.path word ∷ ps) rows typed passes =
    paths_given ps (after_use (part.path word) rows) typed passes ∙ ap (λ vs. vs ++ paths_of ps) (paths_more word rows)
    ∙ append_assoc (path_values rows) (word ∷ []) (paths_of ps)
paths_given (part.value name text ∷ ps) rows typed passes =
    let free : has_row name rows ≡ false = not_true _ (and_left _ _ (sym (use_value name text rows) ∙ and_left _ _ passes)) in
    let other : bytes_eq name path_id ≡ false = same_either name path_id ∙ not_path valued_options name refl (and_left _ _ typed) in
    paths_given ps (after_use (part.value name text) rows) (and_right _ _ typed) (and_right _ _ passes)
    ∙ ap (λ vs. vs ++ paths_of ps) (ap path_values (after_value name text rows free) ∙ values_append rows (value_row name text) other)
paths_given (part.flag name ∷ ps) rows typed passes =
    let free : has_row name rows ≡ false = not_true _ (sym (use_flag name rows) ∙ and_left _ _ passes) in
    let other : bytes_eq name path_id ≡ false = same_either name path_id ∙ not_path flags name refl (and_left _ _ typed) in
    paths_given ps (after_use (part.flag name) rows) (and_right _ _ typed) (and_right _ _ passes)
    ∙ ap (λ vs. vs ++ paths_of ps) (ap path_values (after_flag name rows free) ∙ values_append rows (flag_row name) other)
