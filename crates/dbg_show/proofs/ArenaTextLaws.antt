-- The entries of a unit are printed in the order of a walk over their arena.
use Rattle.std.proofs.Common.{◌≡◌, ℕ, zero, suc, ◌+◌, ◌-◌, ◌<◌, ◌≤◌, ◌⊎◌, inl, inr, List, [], ◌∷◌, ◌++◌, length, take, drop, get_or, Option, Some, None, refl, sym, ap, ◌∙◌, subst, arith}
use Rattle.std.proofs.lemmas.Bool.{cases_lt}
use Rattle.std.proofs.lemmas.List.{get_or_append_left, get_or-append-add, length-take-le, take-append-drop, take_all, take_more}
use Rattle.dw_base.specs.AbbreviationTables.{Abbreviation, abbreviation_of}
use Rattle.dw_base.specs.Lebs.{uleb_at}
use Rattle.dw_base.specs.declared.units.Scanned.{Scanned}
use Rattle.dw_base.specs.declared.units.UnitHeader.{UnitHeader}
use Rattle.entry_arena.specs.Shapes.{HasDepth, NodesSpell, Shape, below, depths_in, no_nodes, node, node_at, outermost, size}
use Rattle.entry_arena.specs.UnitArenas.{IsArenaOf, depths_of}
use Rattle.entry_arena.specs.Walks.{GivesNoStep, GivesStep, WalkState}
use Rattle.entry_arena.specs.declared.arena.EntryNode.{EntryNode}
use Rattle.entry_arena.specs.declared.walking.WalkStep.{WalkStep}
use Rattle.entry_arena.proofs.ShapeThereLaws.{length-depths}
use Rattle.file_tree.specs.Heard.{Heard}
use Rattle.dw_attrs.specs.ArenaEntries.{node_entry}
use Rattle.dbg_show.specs.Printing.{Cut, Printed}
use Rattle.dw_attrs.specs.UnitValues.{SaidUnit, unit_entries}
use Rattle.dbg_show.specs.ShownUnits.{entries_text, entry_coded, entry_listed, entry_text}
use Rattle.dbg_show.specs.declared.show_err.ShowErr.{ShowErr}
use Rattle.dw_attrs.proofs.EntryListLaws.{entries-are}
use Rattle.dbg_show.proofs.PrintingLaws.{cut-more, cut-then, printed-then}
use Rattle.dbg_show.proofs.ShownLaws.{entries-append, entries-one, nothing-printed}
use Rattle.dw_attrs.proofs.ArenaCountLaws.{count-of, offset-of}

-- each node of a shape stands as deep as its depths say
depth-at : (at : ℕ → EntryNode) (p : Option ℕ) (k d : ℕ) (s : Shape) → NodesSpell at p k s → ((j : ℕ) → (at j).parent ≡ p → HasDepth at j d) → (i : ℕ) → i < size s
    → HasDepth at (k + i) (get_or (depths_in d s) i 0)
depth-at at p k d no_nodes n above i lt = absurd (omega (arith, lt))
depth-at at p k d (node c t) n above zero lt =
    let place : k ≡ k + 0 = omega arith in
    subst (λ (j : ℕ). HasDepth at j d) place (above k n.0)
depth-at at p k d (node c t) n above (suc i) lt =
    by_place (cases_lt i (size c)) (λ h. depth-at at (Some k) (suc k) (suc d) c n.3 (λ j e. below j k d e (above k n.0)) i h)
    (λ m h. depth-at at p (suc k + size c) d t n.4 above m h)
  where
    by_place : (i < size c) ⊎ (size c ≤ i) → (i < size c → HasDepth at (suc k + i) (get_or (depths_in (suc d) c) i 0))
        → ((m : ℕ) → m < size t → HasDepth at (suc k + size c + m) (get_or (depths_in d t) m 0)) → HasDepth at (k + suc i) (get_or (depths_in (suc d) c ++ depths_in d t) i 0)
    by_place (inl less) child next =
        let place : suc k + i ≡ k + suc i = omega arith in
        let inside : i < length (depths_in (suc d) c) = (let size_is = length-depths (suc d) c in omega (arith, less, size_is)) in
        subst (λ (j : ℕ). HasDepth at j (get_or (depths_in (suc d) c ++ depths_in d t) i 0)) place
        (subst (HasDepth at (suc k + i)) (sym (get_or_append_left (depths_in (suc d) c) (depths_in d t) 0 i inside)) (child less))
    by_place (inr le) child next =
        let size_is = length-depths (suc d) c in
        let spot : length (depths_in (suc d) c) + (i - size c) ≡ i = omega (arith, le, size_is) in
        let place : suc k + size c + (i - size c) ≡ k + suc i = omega (arith, le) in
        let same : get_or (depths_in (suc d) c ++ depths_in d t) i 0 ≡ get_or (depths_in d t) (i - size c) 0 =
        sym (ap (λ (j : ℕ). get_or (depths_in (suc d) c ++ depths_in d t) j 0) spot) ∙ get_or-append-add (depths_in (suc d) c) (depths_in d t) (i - size c) 0 in
        subst (λ (j : ℕ). HasDepth at j (get_or (depths_in (suc d) c ++ depths_in d t) i 0)) place
        (subst (HasDepth at (suc k + size c + (i - size c))) (sym same) (next (i - size c) (omega (arith, le, lt))))

-- a node has one depth
some-same : (p q : ℕ) → Some p ≡ Some q → p ≡ q
some-same p q e = cc

depth-one : (at : ℕ → EntryNode) (k d e : ℕ) → HasDepth at k d → HasDepth at k e → d ≡ e
depth-one at k d e (outermost _ a) (outermost _ b) = refl
depth-one at k d e (outermost _ a) (below _ q f b h) =
    let no : None ≡ Some q = sym a ∙ b in
    absurd cc
depth-one at k d e (below _ p c a g) (outermost _ b) =
    let no : None ≡ Some p = sym b ∙ a in
    absurd cc
depth-one at k d e (below _ p c a g) (below _ q f b h) =
    let same : p ≡ q = some-same p q (sym a ∙ b) in
    ap suc (depth-one at p c f g (subst (λ (j : ℕ). HasDepth at j f) (sym same) h))

-- entries of an arena, by their numbers
depth-of : (es : List Scanned) (k : ℕ) (x : Scanned) → k < length es → get_or (depths_of es) k 0 ≡ (get_or es k x).depth
depth-of [] k x lt = absurd (omega (arith, lt))
depth-of (e ∷ es) zero x lt = refl
depth-of (e ∷ es) (suc k) x lt = depth-of es k x (omega (arith, lt))

entry-depth : (h : UnitHeader) (table : List Abbreviation) (bytes : List ℕ) (nodes : List EntryNode) (a : IsArenaOf h table bytes nodes) (k d : ℕ) (x : Scanned) → k < length nodes
    → HasDepth (node_at nodes) k d → d ≡ (get_or a.entries k x).depth
entry-depth h table bytes nodes a k d x lt has =
    let size_is = a.linked.size_is in
    let count = count-of table nodes a.entries a.nodes_are in
    let own : HasDepth (node_at nodes) (0 + k) (get_or (depths_in 0 a.shape) k 0) =
    depth-at (node_at nodes) None 0 0 a.shape a.linked.spells (λ j e. outermost j e) k (omega (arith, lt, size_is)) in
    let place : 0 + k ≡ k = omega arith in
    depth-one (node_at nodes) k d (get_or (depths_in 0 a.shape) k 0) has (subst (λ (j : ℕ). HasDepth (node_at nodes) j (get_or (depths_in 0 a.shape) k 0)) place own)
    ∙ ap (λ (ds : List ℕ). get_or ds k 0) a.depths ∙ depth-of a.entries k x (omega (arith, lt, count))

-- an entry's text goes by its place and its depth
entry-same : (u : SaidUnit) (n : ℕ) (e f : Scanned) → e.offset ≡ f.offset → e.depth ≡ f.depth → entry_text u n e ≡ entry_text u n f
unfolding entry_text
entry-same u n e f place depth = ap (λ (p : ℕ). entry_coded u n e (uleb_at u.bytes p)) place ∙ by_code (uleb_at u.bytes f.offset)
  where
    by_entry : (from : ℕ) (o : Option Abbreviation) → entry_listed u n e from o ≡ entry_listed u n f from o
    by_entry from None = refl
    by_entry from (Some a) = ap (λ (d : ℕ). entry_listed u n (record f { depth = d }) from (Some a)) depth

    by_code : (o : Option (ℕ × ℕ)) → entry_coded u n e o ≡ entry_coded u n f o
    by_code None = refl
    by_code (Some (code, size)) =
        ap (λ (p : ℕ). entry_listed u n e (p + size) (abbreviation_of u.table code)) place ∙ by_entry (f.offset + size) (abbreviation_of u.table code)

-- where a walk stands: the entries of the numbers that it gave were printed
pub record WalkGoes (u : SaidUnit) (nodes : List EntryNode) (items : List Scanned) (s : WalkState) (before : List ℕ) (old new : Heard) (behind : List ℕ) : Type 0 where
  pub nodes_are : s.nodes ≡ nodes
  pub printed : Printed (entries_text u 0 (take s.number items)) before old new behind

pub walk-start : (u : SaidUnit) (nodes : List EntryNode) (items : List Scanned) (s : WalkState) (before : List ℕ) (h : Heard) → s ≡ record { nodes = nodes; number = 0 }
    → WalkGoes u nodes items s before h h before
walk-start u nodes items s before h is =
    subst (λ (t : WalkState). WalkGoes u nodes items t before h h before) (sym is) (record {
      nodes_are = refl;
      printed = subst (λ (xs : List Scanned). Printed (entries_text u 0 xs) before h h before) (none items) (nothing-printed before h);
    })
  where
    none : (xs : List Scanned) → [] ≡ take 0 xs
    none [] = refl
    none (x ∷ xs) = refl

-- a step within the nodes
pub step-inside : (u : SaidUnit) (nodes : List EntryNode) (items : List Scanned) (s t : WalkState) (x : WalkStep) (before behind : List ℕ) (old new : Heard)
    → WalkGoes u nodes items s before old new behind → GivesStep s x t → x.number < length nodes
step-inside u nodes items s t x before behind old new goes g =
    let inside = g.inside in
    let number = g.number in
    let same = ap (λ (ns : List EntryNode). length ns) goes.nodes_are in
    omega (arith, inside, number, same)

-- the text of the next entry is that of the node
step-text : (u : SaidUnit) (nodes : List EntryNode) (a : IsArenaOf u.header u.table u.bytes nodes) (s t : WalkState) (x : WalkStep) (before behind : List ℕ) (old new : Heard)
    → WalkGoes u nodes a.entries s before old new behind → GivesStep s x t
    → entries_text u 0 (take (s.number + 1) a.entries) ≡ entries_text u 0 (take s.number a.entries) ++ entry_text u x.number (node_entry (node_at nodes x.number) x.depth)
step-text u nodes a s t x before behind old new goes g =
    let lt : x.number < length nodes = step-inside u nodes a.entries s t x before behind old new goes g in
    let number = g.number in
    let count = count-of u.table nodes a.entries a.nodes_are in
    let inside : s.number < length a.entries = omega (arith, lt, number, count) in
    let e : Scanned = node_entry (node_at nodes x.number) x.depth in
    let size : x.number ≡ length (take s.number a.entries) = (let cut = length-take-le s.number a.entries (omega (arith, inside)) in omega (arith, cut, number)) in
    let depth : HasDepth (node_at nodes) x.number x.depth = subst (λ (ns : List EntryNode). HasDepth (node_at ns) x.number x.depth) goes.nodes_are g.depth in
    let item : get_or a.entries s.number (node_entry (node_at nodes x.number) x.depth) ≡ get_or a.entries x.number (node_entry (node_at nodes x.number) x.depth) =
    ap (λ (k : ℕ). get_or a.entries k (node_entry (node_at nodes x.number) x.depth)) (sym number) in
    ap (entries_text u 0) (take_more a.entries s.number (node_entry (node_at nodes x.number) x.depth) inside)
    ∙ entries-one u x.number (take s.number a.entries) (get_or a.entries s.number (node_entry (node_at nodes x.number) x.depth)) size
    ∙ ap (λ (f : Scanned). entries_text u 0 (take s.number a.entries) ++ entry_text u x.number f) item
    ∙ ap (λ (xs : List ℕ). entries_text u 0 (take s.number a.entries) ++ xs)
    (sym (entry-same u x.number (node_entry (node_at nodes x.number) x.depth) (get_or a.entries x.number (node_entry (node_at nodes x.number) x.depth))
    (offset-of u.table nodes a.entries x.number (node_entry (node_at nodes x.number) x.depth) a.nodes_are lt)
    (entry-depth u.header u.table u.bytes nodes a x.number x.depth (node_entry (node_at nodes x.number) x.depth) lt depth)))

pub walk-more : (u : SaidUnit) (nodes : List EntryNode) (a : IsArenaOf u.header u.table u.bytes nodes) (s t : WalkState) (x : WalkStep) (n : EntryNode)
    (before between behind : List ℕ) (old mid new : Heard) → WalkGoes u nodes a.entries s before old mid between → GivesStep s x t → n ≡ node_at nodes x.number
    → Printed (entry_text u x.number (node_entry n x.depth)) between mid new behind → WalkGoes u nodes a.entries t before old new behind
walk-more u nodes a s t x n before between behind old mid new goes g is p =
    subst (λ (w : WalkState). WalkGoes u nodes a.entries w before old new behind) (sym g.same) (record {
      nodes_are = goes.nodes_are;
      printed = subst (λ (xs : List ℕ). Printed xs before old new behind) (sym (step-text u nodes a s t x before between old mid goes g))
          (printed-then (entries_text u 0 (take s.number a.entries)) (entry_text u x.number (node_entry (node_at nodes x.number) x.depth)) before between behind old mid new goes.printed
          (subst (λ (m : EntryNode). Printed (entry_text u x.number (node_entry m x.depth)) between mid new behind) is p));
    })

pub walk-over : (u : SaidUnit) (nodes : List EntryNode) (a : IsArenaOf u.header u.table u.bytes nodes) (s t : WalkState) (before behind : List ℕ) (old new : Heard)
    → WalkGoes u nodes a.entries s before old new behind → GivesNoStep s t → length u.bytes ≤ u.header.end
    → Printed (entries_text u 0 (unit_entries u.header u.table u.bytes)) before old new behind
walk-over u nodes a s t before behind old new goes g short =
    let same = ap (λ (ns : List EntryNode). length ns) goes.nodes_are in
    let all = g.all in
    let count = count-of u.table nodes a.entries a.nodes_are in
    let whole : take s.number a.entries ≡ a.entries = take_all s.number a.entries (omega (arith, same, all, count)) in
    subst (λ (xs : List Scanned). Printed (entries_text u 0 xs) before old new behind)
    (whole ∙ sym (entries-are u.header u.table u.bytes a.entries short a.are)) goes.printed

pub walk-cut : (u : SaidUnit) (nodes : List EntryNode) (a : IsArenaOf u.header u.table u.bytes nodes) (s t : WalkState) (x : WalkStep) (n : EntryNode) (before between : List ℕ)
    (old mid new : Heard) (err : ShowErr) → WalkGoes u nodes a.entries s before old mid between → GivesStep s x t → n ≡ node_at nodes x.number → length u.bytes ≤ u.header.end
    → Cut (between ++ entry_text u x.number (node_entry n x.depth)) mid new err → Cut (before ++ entries_text u 0 (unit_entries u.header u.table u.bytes)) old new err
walk-cut u nodes a s t x n before between old mid new err goes g is short c =
    let rest : List ℕ = entries_text u (0 + length (take (s.number + 1) a.entries)) (drop (s.number + 1) a.entries) in
    let whole : entries_text u 0 (unit_entries u.header u.table u.bytes)
    ≡ (entries_text u 0 (take s.number a.entries) ++ entry_text u x.number (node_entry (node_at nodes x.number) x.depth))
    ++ entries_text u (0 + length (take (s.number + 1) a.entries)) (drop (s.number + 1) a.entries) =
    ap (entries_text u 0) (entries-are u.header u.table u.bytes a.entries short a.are ∙ sym (take-append-drop (s.number + 1) a.entries))
    ∙ entries-append u 0 (take (s.number + 1) a.entries) (drop (s.number + 1) a.entries)
    ∙ ap (λ (xs : List ℕ). xs ++ entries_text u (0 + length (take (s.number + 1) a.entries)) (drop (s.number + 1) a.entries))
    (step-text u nodes a s t x before between old mid goes g) in
    subst (λ (xs : List ℕ). Cut (before ++ xs) old new err) (sym whole)
    (cut-more (entries_text u 0 (take s.number a.entries) ++ entry_text u x.number (node_entry (node_at nodes x.number) x.depth))
    (entries_text u (0 + length (take (s.number + 1) a.entries)) (drop (s.number + 1) a.entries)) before old new err
    (cut-then (entries_text u 0 (take s.number a.entries)) (entry_text u x.number (node_entry (node_at nodes x.number) x.depth)) before between old mid new err goes.printed
    (subst (λ (m : EntryNode). Cut (between ++ entry_text u x.number (node_entry m x.depth)) mid new err) is c)))

-- the same, of the entries of the unit
unit-same : (u : SaidUnit) (nodes : List EntryNode) (a : IsArenaOf u.header u.table u.bytes nodes) → length u.bytes ≤ u.header.end
    → unit_entries u.header u.table u.bytes ≡ a.entries
unit-same u nodes a short = entries-are u.header u.table u.bytes a.entries short a.are

pub go-more : (u : SaidUnit) (nodes : List EntryNode) (s t : WalkState) (x : WalkStep) (n : EntryNode) (before between behind : List ℕ) (old mid new : Heard)
    → IsArenaOf u.header u.table u.bytes nodes → length u.bytes ≤ u.header.end → WalkGoes u nodes (unit_entries u.header u.table u.bytes) s before old mid between
    → GivesStep s x t → n ≡ node_at nodes x.number → Printed (entry_text u x.number (node_entry n x.depth)) between mid new behind
    → WalkGoes u nodes (unit_entries u.header u.table u.bytes) t before old new behind
go-more u nodes s t x n before between behind old mid new a short goes g is p =
    subst (λ (es : List Scanned). WalkGoes u nodes es t before old new behind) (sym (unit-same u nodes a short))
    (walk-more u nodes a s t x n before between behind old mid new
    (subst (λ (es : List Scanned). WalkGoes u nodes es s before old mid between) (unit-same u nodes a short) goes) g is p)

pub go-over : (u : SaidUnit) (nodes : List EntryNode) (s t : WalkState) (before behind : List ℕ) (old new : Heard)
    → IsArenaOf u.header u.table u.bytes nodes → length u.bytes ≤ u.header.end → WalkGoes u nodes (unit_entries u.header u.table u.bytes) s before old new behind → GivesNoStep s t
    → Printed (entries_text u 0 (unit_entries u.header u.table u.bytes)) before old new behind
go-over u nodes s t before behind old new a short goes g =
    walk-over u nodes a s t before behind old new (subst (λ (es : List Scanned). WalkGoes u nodes es s before old new behind) (unit-same u nodes a short) goes) g short

pub go-cut : (u : SaidUnit) (nodes : List EntryNode) (s t : WalkState) (x : WalkStep) (n : EntryNode) (before between : List ℕ) (old mid new : Heard) (err : ShowErr)
    → IsArenaOf u.header u.table u.bytes nodes → length u.bytes ≤ u.header.end → WalkGoes u nodes (unit_entries u.header u.table u.bytes) s before old mid between
    → GivesStep s x t → n ≡ node_at nodes x.number → Cut (between ++ entry_text u x.number (node_entry n x.depth)) mid new err
    → Cut (before ++ entries_text u 0 (unit_entries u.header u.table u.bytes)) old new err
go-cut u nodes s t x n before between old mid new err a short goes g is c =
    walk-cut u nodes a s t x n before between old mid new err
    (subst (λ (es : List Scanned). WalkGoes u nodes es s before old mid between) (unit-same u nodes a short) goes) g is short c

pub ruleset walk_loop = (walk-start, step-inside)
