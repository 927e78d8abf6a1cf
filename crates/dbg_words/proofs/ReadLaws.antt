-- The parser's walk over words, and the parts of a command line.
use Rattle.std.proofs.Common.{◌≡◌, Bool, true, false, not, ◌&&◌, ◌||◌, List, [], ◌∷◌, map, Option, Some, None, codes, refl, sym, ap, subst, ◌∙◌}
use Rattle.std.specs.Prelude.{IfSome, if◌then◌else◌, fold}
use Rattle.std.specs.List.{list_all}
use Rattle.std.specs.Str.{bytes_eq}
use Rattle.clap.specs.Walk.{Row, Text, Waiting, Walk, idle, option, positional, walked, settled_rows}
use Rattle.clap.specs.Faults.{walk_fault}
use Rattle.dw_base.specs.Texts.{is_in}
use Rattle.dbg_words.specs.CommandLines.{Look, Part, begins_with_dash, flags, look_of, option_parts, parts_of, valued_options, with_part, word_parts}
use Rattle.dbg_words.specs.CommandLines.{Part as part}
use Rattle.dbg_words.specs.CommandLines.{Look as look}
use Rattle.dbg_words.specs.Dashes.{awaits, has_stray_dash, is_short}
use Rattle.dbg_words.proofs.BoolLaws.{and_assoc, and_both, and_false, and_true, false_and}
use Rattle.dbg_words.proofs.LookLaws.{Seen, seen}
use Rattle.dbg_words.proofs.ParserLaws.{rules}
use Rattle.dbg_words.proofs.WalkLaws.{Free, Turn, after_pending, after_use, awaiting, awaiting_fails, fails_here, fails_unknown, fails_with_value, is_typed, is_typed_pending, passes_more, pending_of, pending_passes, settle_passes, settled_is, settles, turn_awaits, turn_ends, turn_flag, turn_path, turn_pushed, turn_trailing, turn_value, use_passes, walk_at, walk_passes}

-- whether parts pass one after another, and what they leave
abbrev pub parts_pass : List Row → List Part → Bool
parts_pass rows [] = true
parts_pass rows (p ∷ ps) = use_passes p rows && parts_pass (after_use p rows) ps

abbrev pub after_parts : List Row → List Part → List Row
after_parts rows [] = rows
after_parts rows (p ∷ ps) = after_parts (after_use p rows) ps

abbrev pub read_passes : List Row → Option (List Part) → Bool
read_passes rows None = false
read_passes rows (Some ps) = parts_pass rows ps

-- the walk ends here, and with what is pending it leaves these rows
pub record Ending (w : Walk) (rows : List Row) : Type 0 where
  pub held : List Row
  pub pending : Option Part
  pub waiting : Waiting
  pub trailing : Bool
  pub typed : is_typed_pending pending ≡ true
  pub is : w ≡ walk_at held (pending_of pending) waiting trailing
  pub leaves : after_pending pending held ≡ rows

-- the walk over words from w passes, where no dash is a stray one, exactly where it is `ok` and the parts pass from these rows;
-- and it leaves what they leave
pub record Reads (w : Walk) (words : List Text) (stray ok : Bool) (rows : List Row) (parts : Option (List Part)) : Type 0 where
  pub passes : (walk_passes w words && not stray) ≡ (ok && read_passes rows parts)
  pub ends : IfSome parts (λ ps. Ending (fold (walked rules []) w words) (after_parts rows ps))
  pub typed : IfSome parts (λ ps. list_all is_typed ps ≡ true)

-- one word more
reads_more : (w behind : Walk) (word : Text) (words : List Text) (stray ok more : Bool) (rows : List Row) (parts : Option (List Part))
    → Turn w word ok behind → Reads behind words stray more rows parts → Reads w (word ∷ words) stray (ok && more) rows parts
reads_more w behind word words stray ok more rows parts turn reads = record {
  passes =
      ap (λ t. t && not stray) (passes_more w behind word words ok turn) ∙ and_assoc ok _ _ ∙ ap (λ t. ok && t) reads.passes
      ∙ sym (and_assoc ok _ _);
  ends =
      let P : Walk → Type 0 = λ v. IfSome parts (λ ps. Ending (fold (walked rules []) v words) (after_parts rows ps)) in
      subst P (sym turn.next) reads.ends;
  typed = reads.typed;
}

-- the first part is used before the others
reads_part : (w : Walk) (words : List Text) (stray ok : Bool) (rows : List Row) (p : Part) (parts : Option (List Part)) → is_typed p ≡ true
    → Reads w words stray (ok && use_passes p rows) (after_use p rows) parts → Reads w words stray ok rows (with_part p parts)
reads_part w words stray ok rows p None typed reads = record {
  passes = reads.passes ∙ and_false _ ∙ sym (and_false ok);
  ends = tt;
  typed = tt;
}
reads_part w words stray ok rows p (Some ps) typed reads = record {
  passes = reads.passes ∙ and_assoc ok _ _;
  ends = reads.ends;
  typed = and_both _ _ typed reads.typed;
}

reads_none : (w : Walk) (words : List Text) (stray ok : Bool) (rows : List Row) → (walk_passes w words && not stray) ≡ false
    → Reads w words stray ok rows None
reads_none w words stray ok rows fails = record { passes = fails ∙ sym (and_false ok); ends = tt; typed = tt }

reads_as : (w : Walk) (words : List Text) (stray ok also : Bool) (rows : List Row) (parts : Option (List Part)) → ok ≡ also
    → Reads w words stray ok rows parts → Reads w words stray also rows parts
reads_as w words stray ok also rows parts same reads = let P : Bool → Type 0 = λ t. Reads w words stray t rows parts in subst P same reads

-- one word more, at which what is pending is used
reads_settled : (w : Walk) (word : Text) (words : List Text) (stray more : Bool) (held : List Row) (p : Option Part) (q : Option (Text × List Text))
    (waiting : Waiting) (trailing : Bool) (rows : List Row) (parts : Option (List Part)) → is_typed_pending p ≡ true
    → Turn w word (settle_passes held (pending_of p)) (walk_at (settled_rows rules (pending_of p) held) q waiting trailing)
    → Reads (walk_at (after_pending p held) q waiting trailing) words stray more rows parts
    → Reads w (word ∷ words) stray (pending_passes p held && more) rows parts
reads_settled w word words stray more held p q waiting trailing rows parts typed turn reads =
    let P : List Row → Type 0 = λ v. Reads (walk_at v q waiting trailing) words stray more rows parts in
    reads_as w (word ∷ words) stray _ _ rows parts (ap (λ t. t && more) (settles p held typed))
    (reads_more w _ word words stray _ more rows parts turn (subst P (sym (settled_is p held typed)) reads))

-- and at which an option is used too
reads_used : (w : Walk) (word : Text) (words : List Text) (stray : Bool) (held : List Row) (p : Option Part) (given : Part) (parts : Option (List Part))
    → is_typed_pending p ≡ true → is_typed given ≡ true
    → Turn w word (settle_passes held (pending_of p) && use_passes given (settled_rows rules (pending_of p) held))
    (walk_at (after_use given (settled_rows rules (pending_of p) held)) None idle false)
    → Reads (walk_at (after_use given (after_pending p held)) None idle false) words stray true (after_use given (after_pending p held)) parts
    → Reads w (word ∷ words) stray (pending_passes p held) (after_pending p held) (with_part given parts)
reads_used w word words stray held p given parts typed known turn reads =
    let rows : List Row = after_pending p held in
    let P : List Row → Type 0 = λ v. Turn w word (settle_passes held (pending_of p) && use_passes given v) (walk_at (after_use given v) None idle false) in
    let settled : Turn w word (settle_passes held (pending_of p) && use_passes given rows) (walk_at (after_use given rows) None idle false) =
    subst P (settled_is p held typed) turn in
    reads_part w (word ∷ words) stray (pending_passes p held) rows given parts known
    (reads_as w (word ∷ words) stray _ _ _ parts (and_true _ ∙ ap (λ t. t && use_passes given rows) (settles p held typed))
    (reads_more w _ word words stray _ true _ parts settled reads))

-- behind two dashes alone
reads_trailing : (words : List Text) (held : List Row) (p : Option Part) (waiting : Waiting) → is_typed_pending p ≡ true
    → Reads (walk_at held (pending_of p) waiting true) words false (pending_passes p held) (after_pending p held) (Some (map part.path words))
unfolding walk_fault
reads_trailing [] held p waiting typed = record {
  passes = and_true _ ∙ settles p held typed ∙ sym (and_true _);
  ends = record { held = held; pending = p; waiting = waiting; trailing = true; typed = typed; is = refl; leaves = refl };
  typed = refl;
}
reads_trailing (w ∷ ws) held p waiting typed =
    reads_part _ (w ∷ ws) false (pending_passes p held) (after_pending p held) (part.path w) (Some (map part.path ws)) refl
    (reads_settled _ w ws false _ held p _ positional true _ _ typed (turn_trailing w held (pending_of p) waiting)
    (reads_trailing ws (after_pending p held) (Some (part.path w)) positional refl))

-- what is read of the words, where no option waits for its value, and where one does
pub record Laws (words : List Text) : Type 0 where
  pub free : (held : List Row) (p : Option Part) (waiting : Waiting) → Free waiting → is_typed_pending p ≡ true
      → Reads (walk_at held (pending_of p) waiting false) words (has_stray_dash false words) (pending_passes p held) (after_pending p held) (parts_of words None)
  pub waits : (held : List Row) (name : Text) → is_in valued_options name ≡ true
      → Reads (awaiting held name) words (has_stray_dash true words) true held (parts_of words (Some name))

-- whether a dash is stray in a word that looks so, or behind it
abbrev stray_in : Text → Look → Bool → Bool → Bool
stray_in word l waits behind = if bytes_eq word (codes "--") then false else ((is_short l || (waits && bytes_eq word (codes "-"))) || behind)

free_named : (w : Text) (ws : List Text) (name : Text) (v : Option Text) (held : List Row) (p : Option Part) (waiting : Waiting) → Laws ws
    → bytes_eq w (codes "--") ≡ false → Rattle.clap.specs.Lexer.long_of w ≡ Some (name, v) → is_typed_pending p ≡ true
    → Reads (walk_at held (pending_of p) waiting false) (w ∷ ws) (has_stray_dash (awaits (look.optional name v)) ws) (pending_passes p held) (after_pending p held)
    (option_parts name v (parts_of ws))
free_named w ws name (Some text) held p waiting laws dd lo typed = go (is_in valued_options name) refl
  where
    go : (t : Bool) → is_in valued_options name ≡ t
        → Reads (walk_at held (pending_of p) waiting false) (w ∷ ws) (has_stray_dash false ws) (pending_passes p held) (after_pending p held)
        (if t then with_part (part.value name text) (parts_of ws None) else None)
    go true e =
        reads_used _ w ws _ held p (part.value name text) _ typed e (turn_value w name text held (pending_of p) waiting dd lo e)
        (laws.free (after_use (part.value name text) (after_pending p held)) None idle Free.at_start refl)
    go false e =
        reads_none _ (w ∷ ws) _ (pending_passes p held) (after_pending p held)
        (ap (λ t. t && not (has_stray_dash false ws)) (fails_here _ w ws (fails_with_value w name text held (pending_of p) waiting dd lo e)))
free_named w ws name None held p waiting laws dd lo typed = go (is_in valued_options name) refl
  where
    flag_or_none : (t : Bool) → is_in flags name ≡ t → is_in valued_options name ≡ false
        → Reads (walk_at held (pending_of p) waiting false) (w ∷ ws) (has_stray_dash false ws) (pending_passes p held) (after_pending p held)
        (if t then with_part (part.flag name) (parts_of ws None) else None)
    flag_or_none true e other =
        reads_used _ w ws _ held p (part.flag name) _ typed e (turn_flag w name held (pending_of p) waiting dd lo other e)
        (laws.free (after_use (part.flag name) (after_pending p held)) None idle Free.at_start refl)
    flag_or_none false e other =
        reads_none _ (w ∷ ws) _ (pending_passes p held) (after_pending p held)
        (ap (λ t. t && not (has_stray_dash false ws)) (fails_here _ w ws (fails_unknown w name held (pending_of p) waiting dd lo other e)))

    go : (t : Bool) → is_in valued_options name ≡ t
        → Reads (walk_at held (pending_of p) waiting false) (w ∷ ws) (has_stray_dash t ws) (pending_passes p held) (after_pending p held)
        (if t then parts_of ws (Some name) else (if is_in flags name then with_part (part.flag name) (parts_of ws None) else None))
    go true e =
        reads_as _ (w ∷ ws) _ _ _ _ _ (and_true _)
        (reads_settled _ w ws _ true held p _ _ _ (after_pending p held) _ typed (turn_awaits w name held (pending_of p) waiting dd lo e)
        (laws.waits (after_pending p held) name e))
    go false e = flag_or_none (is_in flags name) refl e

free_path : (w : Text) (ws : List Text) (held : List Row) (p : Option Part) (waiting : Waiting) → Laws ws → bytes_eq w (codes "--") ≡ false
    → Rattle.clap.specs.Lexer.long_of w ≡ None → Rattle.clap.specs.Lexer.short_of w ≡ None → Free waiting → is_typed_pending p ≡ true
    → Reads (walk_at held (pending_of p) waiting false) (w ∷ ws) (has_stray_dash false ws) (pending_passes p held) (after_pending p held)
    (with_part (part.path w) (parts_of ws None))
free_path w ws held p waiting laws dd lo so free typed =
    reads_part _ (w ∷ ws) _ (pending_passes p held) (after_pending p held) (part.path w) _ refl
    (reads_settled _ w ws _ _ held p _ positional false _ _ typed (turn_path w held (pending_of p) waiting dd lo so free)
    (laws.free (after_pending p held) (Some (part.path w)) positional Free.behind_path refl))

free_word : (w : Text) (ws : List Text) (l : Look) (held : List Row) (p : Option Part) (waiting : Waiting) → Laws ws → Seen w l → Free waiting
    → is_typed_pending p ≡ true
    → Reads (walk_at held (pending_of p) waiting false) (w ∷ ws) (stray_in w l false (has_stray_dash (awaits l) ws)) (pending_passes p held) (after_pending p held)
    (word_parts l w ws (parts_of ws))
free_word w ws look.plain held p waiting laws (Seen.bare dd lo so dash one) free typed = rw dd (free_path w ws held p waiting laws dd lo so free typed)
free_word w ws look.plain held p waiting laws (Seen.alone dd lo so dash one) free typed = rw dd (free_path w ws held p waiting laws dd lo so free typed)
free_word w ws look.ending held p waiting laws (Seen.ends dd dash) free typed =
    rw dd (reads_more _ _ w ws false true _ _ _ (turn_ends w held (pending_of p) waiting dd) (reads_trailing ws held p waiting typed))
free_word w ws (look.optional name v) held p waiting laws (Seen.names dd lo dash) free typed = rw dd (free_named w ws name v held p waiting laws dd lo typed)
free_word w ws look.short held p waiting laws (Seen.one dd dash) free typed =
    rw dd (reads_none _ (w ∷ ws) true (pending_passes p held) (after_pending p held) (and_false _))

-- ---- where an option waits for its value

passes_not : (w behind : Walk) (word : Text) (words : List Text) (ok : Bool) → Turn w word ok behind → ok ≡ false → walk_passes w (word ∷ words) ≡ false
passes_not w behind word words ok turn e = passes_more w behind word words ok turn ∙ false_and ok _ e

bad_trailing : (ws : List Text) (held : List Row) (name : Text) (waiting : Waiting) → is_in valued_options name ≡ true
    → walk_passes (walk_at held (Some (name, [])) waiting true) ws ≡ false
unfolding walk_fault
bad_trailing [] held name waiting known = awaiting_fails held name known
bad_trailing (w ∷ ws) held name waiting known =
    passes_not _ _ w ws _ (turn_trailing w held (Some (name, [])) waiting) (awaiting_fails held name known)

-- an option in place of the value
bad_named : (w : Text) (ws : List Text) (name other : Text) (v : Option Text) (held : List Row) → is_in valued_options name ≡ true
    → bytes_eq w (codes "--") ≡ false → Rattle.clap.specs.Lexer.long_of w ≡ Some (other, v) → walk_passes (awaiting held name) (w ∷ ws) ≡ false
bad_named w ws name other (Some text) held known dd lo = go (is_in valued_options other) refl
  where
    go : (t : Bool) → is_in valued_options other ≡ t → walk_passes (awaiting held name) (w ∷ ws) ≡ false
    go true e =
        passes_not _ _ w ws _ (turn_value w other text held (Some (name, [])) (option name) dd lo e) (false_and _ _ (awaiting_fails held name known))
    go false e = fails_here _ w ws (fails_with_value w other text held (Some (name, [])) (option name) dd lo e)
bad_named w ws name other None held known dd lo = go (is_in valued_options other) refl (is_in flags other) refl
  where
    go : (t : Bool) → is_in valued_options other ≡ t → (u : Bool) → is_in flags other ≡ u → walk_passes (awaiting held name) (w ∷ ws) ≡ false
    go true e u f =
        passes_not _ _ w ws _ (turn_awaits w other held (Some (name, [])) (option name) dd lo e) (awaiting_fails held name known)
    go false e true f =
        passes_not _ _ w ws _ (turn_flag w other held (Some (name, [])) (option name) dd lo e f) (false_and _ _ (awaiting_fails held name known))
    go false e false f = fails_here _ w ws (fails_unknown w other held (Some (name, [])) (option name) dd lo e f)

waiting_word : (w : Text) (ws : List Text) (l : Look) (held : List Row) (name : Text) → Laws ws → Seen w l → is_in valued_options name ≡ true
    → Reads (awaiting held name) (w ∷ ws) (stray_in w l true (has_stray_dash (awaits l) ws)) true held
    (if begins_with_dash w then None else with_part (part.value name w) (parts_of ws None))
waiting_word w ws look.plain held name laws (Seen.bare dd lo so dash one) known =
    rw (dd, one, dash) (
    reads_part _ (w ∷ ws) _ true held (part.value name w) _ known
    (reads_more _ _ w ws _ true _ _ _ (turn_pushed w name held known dd lo so) (laws.free held (Some (part.value name w)) idle Free.at_start known))
    )
waiting_word w ws look.plain held name laws (Seen.alone dd lo so dash one) known =
    rw (dd, one, dash) (reads_none _ (w ∷ ws) true true held (and_false _))
waiting_word w ws look.ending held name laws (Seen.ends dd dash) known =
    rw (dd, dash) (
    reads_none _ (w ∷ ws) false true held (
    and_true _ ∙ passes_more _ _ w ws _ (turn_ends w held (Some (name, [])) (option name) dd) ∙ bad_trailing ws held name (option name) known
    )
    )
waiting_word w ws (look.optional other v) held name laws (Seen.names dd lo dash) known =
    rw (dd, dash) (reads_none _ (w ∷ ws) _ true held (false_and _ _ (bad_named w ws name other v held known dd lo)))
waiting_word w ws look.short held name laws (Seen.one dd dash) known = rw (dd, dash) (reads_none _ (w ∷ ws) true true held (and_false _))

pub laws_of : (words : List Text) → Laws words
unfolding has_stray_dash parts_of walk_fault
laws_of [] = record {
  free = λ held p waiting free typed. record {
    passes = and_true _ ∙ settles p held typed ∙ sym (and_true _);
    ends = record { held = held; pending = p; waiting = waiting; trailing = false; typed = typed; is = refl; leaves = refl };
    typed = refl;
  };
  waits = λ held name known. reads_none _ [] false true held (and_true _ ∙ awaiting_fails held name known);
}
laws_of (w ∷ ws) =
    let behind = laws_of ws in
    record {
      free = λ held p waiting free typed. free_word w ws (look_of w) held p waiting behind (seen w) free typed;
      waits = λ held name known. waiting_word w ws (look_of w) held name behind (seen w) known;
    }
