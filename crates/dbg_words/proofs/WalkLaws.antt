-- The parser's walk over words, word by word.
use Rattle.std.proofs.Common.{◌≡◌, Bool, true, false, ◌&&◌, List, [], ◌∷◌, Option, Some, None, codes, refl, sym, ap, subst, ◌∙◌}
use Rattle.std.specs.Prelude.{fold}
use Rattle.std.specs.Str.{bytes_eq}
use Rattle.std.proofs.lemmas.Slice.Eq.{bytes_eq-Decides}
use Rattle.clap.specs.Kinds.{Kinds, or_else}
use Rattle.clap.specs.Lexer.{long_of, short_of}
use Rattle.clap.specs.Walk.{Held, Row, Text, Waiting, Walk, idle, is_pending, option, positional, settled_rows, subcommand_met, used, walked}
use Rattle.clap.specs.Faults.{settle_fault, turn_fault, use_fault, walk_fault}
use Rattle.dw_base.specs.Texts.{is_in}
use Rattle.dbg_words.specs.CommandLines.{Part, flags, valued_options}
use Rattle.dbg_words.specs.CommandLines.{Part as part}
use Rattle.dbg_words.proofs.BoolLaws.{and_assoc, and_false, and_true}
use Rattle.dbg_words.proofs.ParserLaws.{by_id, by_index, by_long, by_path, flag_rule, path_rule, rules, shape, valued_rule}

-- nothing fails
abbrev pub is_none : Kinds → Bool
is_none [] = true
is_none (k ∷ ks) = false

pub or_else-is_none : (a b : Kinds) → is_none (or_else a b) ≡ (is_none a && is_none b)
or_else-is_none [] b = refl
or_else-is_none (k ∷ ks) b = refl

-- where a part is used, whether that fails, and what it leaves
abbrev pub use_passes : Part → List Row → Bool
use_passes (part.path word) rows = is_none (use_fault false path_rule (word ∷ []) rows)
use_passes (part.value name text) rows = is_none (use_fault false (valued_rule name) (text ∷ []) rows)
use_passes (part.flag name) rows = is_none (use_fault false (flag_rule name) [] rows)

abbrev pub after_use : Part → List Row → List Row
after_use (part.path word) rows = used path_rule (word ∷ []) rows
after_use (part.value name text) rows = used (valued_rule name) (text ∷ []) rows
after_use (part.flag name) rows = used (flag_rule name) [] rows

-- a part that is read and isn't used yet
abbrev pub pending_of : Option Part → Option (Text × List Text)
pending_of None = None
pending_of (Some (part.path word)) = Some (codes "path", word ∷ [])
pending_of (Some (part.value name text)) = Some (name, text ∷ [])
pending_of (Some (part.flag name)) = None

abbrev pub pending_passes : Option Part → List Row → Bool
pending_passes None rows = true
pending_passes (Some (part.path word)) rows = use_passes (part.path word) rows
pending_passes (Some (part.value name text)) rows = use_passes (part.value name text) rows
pending_passes (Some (part.flag name)) rows = true

abbrev pub after_pending : Option Part → List Row → List Row
after_pending None rows = rows
after_pending (Some (part.path word)) rows = after_use (part.path word) rows
after_pending (Some (part.value name text)) rows = after_use (part.value name text) rows
after_pending (Some (part.flag name)) rows = rows

-- the options of parts are the program's
abbrev pub is_typed : Part → Bool
is_typed (part.path word) = true
is_typed (part.value name text) = is_in valued_options name
is_typed (part.flag name) = is_in flags name

abbrev pub is_typed_pending : Option Part → Bool
is_typed_pending None = true
is_typed_pending (Some p) = is_typed p

-- where the walk stands
abbrev pub holding : List Row → Option (Text × List Text) → Held
holding rows pending = record { rows = rows; pending = pending; skip = 0 }

abbrev pub walk_at : List Row → Option (Text × List Text) → Waiting → Bool → Walk
walk_at rows pending waiting trailing =
    record { held = holding rows pending; waiting = waiting; position = 1; is_trailing = trailing; stopped = None }

-- no option waits for its value
pub data Free : Waiting → Type 0 where
  at_start : Free idle
  behind_path : Free positional

no_subcommand : (w : Waiting) (word : Text) → subcommand_met [] w word ≡ None
no_subcommand idle word = refl
no_subcommand (option id) word = refl
no_subcommand positional word = refl

-- what is pending is used
pub settles : (p : Option Part) (rows : List Row) → is_typed_pending p ≡ true
    → is_none (settle_fault rules false (holding rows (pending_of p))) ≡ pending_passes p rows
settles None rows typed = refl
settles (Some (part.path word)) rows typed = rw by_path refl
settles (Some (part.value name text)) rows typed = rw (by_id name typed) refl
settles (Some (part.flag name)) rows typed = refl

pub settled_is : (p : Option Part) (rows : List Row) → is_typed_pending p ≡ true → settled_rows rules (pending_of p) rows ≡ after_pending p rows
settled_is None rows typed = refl
settled_is (Some (part.path word)) rows typed = rw by_path refl
settled_is (Some (part.value name text)) rows typed = rw (by_id name typed) refl
settled_is (Some (part.flag name)) rows typed = refl

-- one word: whether it fails, and where the walk stands behind it
pub record Turn (w : Walk) (word : Text) (passes : Bool) (behind : Walk) : Type 0 where
  pub fault : is_none (turn_fault shape [] w word) ≡ passes
  pub next : walked rules [] w word ≡ behind

abbrev pub settle_passes : List Row → Option (Text × List Text) → Bool
settle_passes rows q = is_none (settle_fault rules false (holding rows q))

abbrev pub path_behind : List Row → Option (Text × List Text) → Text → Bool → Walk
path_behind rows q word trailing = walk_at (settled_rows rules q rows) (Some (codes "path", word ∷ [])) positional trailing

abbrev pub dashes : Text
dashes = codes "--"

pub turn_path : (word : Text) (rows : List Row) (q : Option (Text × List Text)) (wt : Waiting) → bytes_eq word dashes ≡ false → long_of word ≡ None
    → short_of word ≡ None → Free wt → Turn (walk_at rows q wt false) word (settle_passes rows q) (path_behind rows q word false)
unfolding walked
turn_path word rows q idle dd lo so at_start = record {
  fault = rw (dd, lo, so, by_index, and_false (is_pending path_rule q)) refl;
  next = rw (dd, lo, so, by_index, and_false (is_pending path_rule q)) refl;
}
turn_path word rows q positional dd lo so behind_path = record {
  fault = rw (dd, lo, so, by_index, and_false (is_pending path_rule q)) refl;
  next = rw (dd, lo, so, by_index, and_false (is_pending path_rule q)) refl;
}
turn_path word rows q (option id) dd lo so free = elim free [ ]

pub turn_trailing : (word : Text) (rows : List Row) (q : Option (Text × List Text)) (wt : Waiting)
    → Turn (walk_at rows q wt true) word (settle_passes rows q) (path_behind rows q word true)
unfolding walked
turn_trailing word rows q wt = record {
  fault = rw (by_index, and_false (is_pending path_rule q)) refl;
  next = rw (by_index, and_false (is_pending path_rule q)) refl;
}

pub turn_ends : (word : Text) (rows : List Row) (q : Option (Text × List Text)) (wt : Waiting) → bytes_eq word dashes ≡ true
    → Turn (walk_at rows q wt false) word true (walk_at rows q wt true)
unfolding walked
turn_ends word rows q wt dd = record {
  fault = rw (no_subcommand wt word, dd) refl;
  next = rw (no_subcommand wt word, dd) refl;
}

-- two steps, of which the second can't fail
or_nil : (a : Kinds) → is_none (or_else a []) ≡ is_none a
or_nil a = or_else-is_none a [] ∙ and_true (is_none a)

abbrev pub value_behind : List Row → Option (Text × List Text) → Text → Text → Walk
value_behind rows q name text = walk_at (after_use (part.value name text) (settled_rows rules q rows)) None idle false

pub turn_value : (word name text : Text) (rows : List Row) (q : Option (Text × List Text)) (wt : Waiting) → bytes_eq word dashes ≡ false
    → long_of word ≡ Some (name, Some text) → is_in valued_options name ≡ true
    → Turn (walk_at rows q wt false) word (settle_passes rows q && use_passes (part.value name text) (settled_rows rules q rows)) (value_behind rows q name text)
unfolding walked
turn_value word name text rows q wt dd lo known = record {
  fault = rw (no_subcommand wt word, dd, lo, by_long name, known) (or_nil _ ∙ or_else-is_none _ _);
  next = rw (no_subcommand wt word, dd, lo, by_long name, known) refl;
}

abbrev pub flag_behind : List Row → Option (Text × List Text) → Text → Walk
flag_behind rows q name = walk_at (after_use (part.flag name) (settled_rows rules q rows)) None idle false

pub turn_flag : (word name : Text) (rows : List Row) (q : Option (Text × List Text)) (wt : Waiting) → bytes_eq word dashes ≡ false
    → long_of word ≡ Some (name, None) → is_in valued_options name ≡ false → is_in flags name ≡ true
    → Turn (walk_at rows q wt false) word (settle_passes rows q && use_passes (part.flag name) (settled_rows rules q rows)) (flag_behind rows q name)
unfolding walked
turn_flag word name rows q wt dd lo other known = record {
  fault = rw (no_subcommand wt word, dd, lo, by_long name, other, known) (or_nil _ ∙ or_else-is_none _ _);
  next = rw (no_subcommand wt word, dd, lo, by_long name, other, known) refl;
}

-- an option that waits for its value
abbrev pub awaiting : List Row → Text → Walk
awaiting rows name = walk_at rows (Some (name, [])) (option name) false

pub turn_awaits : (word name : Text) (rows : List Row) (q : Option (Text × List Text)) (wt : Waiting) → bytes_eq word dashes ≡ false
    → long_of word ≡ Some (name, None) → is_in valued_options name ≡ true
    → Turn (walk_at rows q wt false) word (settle_passes rows q) (awaiting (settled_rows rules q rows) name)
unfolding walked
turn_awaits word name rows q wt dd lo known = record {
  fault = rw (no_subcommand wt word, dd, lo, by_long name, known) (or_nil _);
  next = rw (no_subcommand wt word, dd, lo, by_long name, known) refl;
}

abbrev pub fails : Walk → Text → Type 0
fails w word = is_none (turn_fault shape [] w word) ≡ false

-- a flag with a value, and an option that isn't there
pub fails_with_value : (word name text : Text) (rows : List Row) (q : Option (Text × List Text)) (wt : Waiting) → bytes_eq word dashes ≡ false
    → long_of word ≡ Some (name, Some text) → is_in valued_options name ≡ false → fails (walk_at rows q wt false) word
fails_with_value word name text rows q wt dd lo other = go (is_in flags name) refl
  where
    go : (t : Bool) → is_in flags name ≡ t → fails (walk_at rows q wt false) word
    go true e = rw (no_subcommand wt word, dd, lo, by_long name, other, e) refl
    go false e = rw (no_subcommand wt word, dd, lo, by_long name, other, e) refl

pub fails_unknown : (word name : Text) (rows : List Row) (q : Option (Text × List Text)) (wt : Waiting) → bytes_eq word dashes ≡ false
    → long_of word ≡ Some (name, None) → is_in valued_options name ≡ false → is_in flags name ≡ false → fails (walk_at rows q wt false) word
fails_unknown word name rows q wt dd lo other none = rw (no_subcommand wt word, dd, lo, by_long name, other, none) refl

-- an option that waits fails where it gets no value
pub awaiting_fails : (rows : List Row) (name : Text) → is_in valued_options name ≡ true → settle_passes rows (Some (name, [])) ≡ false
awaiting_fails rows name known = rw (by_id name known) refl

-- and a word that is no option is its value
pub turn_pushed : (word name : Text) (rows : List Row) → is_in valued_options name ≡ true → bytes_eq word dashes ≡ false → long_of word ≡ None
    → short_of word ≡ None → Turn (awaiting rows name) word true (walk_at rows (Some (name, word ∷ [])) idle false)
unfolding walked
turn_pushed word name rows known dd lo so =
    let self : bytes_eq name name ≡ true = (bytes_eq-Decides name name).1 refl in
    record {
      fault = rw (dd, lo, so) refl;
      next = rw (dd, lo, so, by_id name known, self) refl;
    }

-- ---- all words

-- the walk over words passes, and so does what is pending at its end
abbrev pub walk_passes : Walk → List Text → Bool
walk_passes w words =
    is_none (walk_fault shape [] w words) && is_none (settle_fault rules false (fold (walked rules []) w words).held)

pub passes_more : (w behind : Walk) (word : Text) (words : List Text) (ok : Bool) → Turn w word ok behind
    → walk_passes w (word ∷ words) ≡ (ok && walk_passes behind words)
unfolding walk_fault
passes_more w behind word words ok turn =
    let P : Walk → Type 0 = λ v. (is_none (or_else (turn_fault shape [] w word) (walk_fault shape [] v words)) && is_none (settle_fault rules false (fold (walked rules []) v words).held))
    ≡ (ok && walk_passes behind words) in
    subst P (sym turn.next) (
    ap (λ t. t && is_none (settle_fault rules false (fold (walked rules []) behind words).held))
    (or_else-is_none (turn_fault shape [] w word) (walk_fault shape [] behind words) ∙ ap (λ t. t && is_none (walk_fault shape [] behind words)) turn.fault)
    ∙ and_assoc ok _ _
    )

pub fails_here : (w : Walk) (word : Text) (words : List Text) → fails w word → walk_passes w (word ∷ words) ≡ false
unfolding walk_fault
fails_here w word words bad =
    ap (λ t. t && is_none (settle_fault rules false (fold (walked rules []) (walked rules [] w word) words).held))
    (or_else-is_none (turn_fault shape [] w word) (walk_fault shape [] (walked rules [] w word) words)
    ∙ ap (λ t. t && is_none (walk_fault shape [] (walked rules [] w word) words)) bad)
