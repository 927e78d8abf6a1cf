-- A past with one call more: the map that it leads to, and the same of calls and effects side by side.
use Rattle.std.proofs.Common.{◌≡◌, ℕ, List, [], ◌∷◌, ◌++◌, length, refl, sym, ap, ◌∙◌, arith, true}
use Rattle.std.specs.Prelude.{count_by}
use Rattle.std.specs.FinMap as fin
use Rattle.file_tree.specs.declared.node.Node.{Node}
use Rattle.file_tree.specs.declared.call.Call.{Call}
use Rattle.file_tree.specs.declared.call.Effect.{Effect}
use Rattle.file_tree.specs.Trees.{TreeMap}
use Rattle.file_tree.specs.Seen.{Happened, Past, adds, after_effect, after_all, map_now, calls_of, is_settle, settles_of}
use Rattle.file_tree.specs.Logs.{Place, happened, past_with, tree_of, entries_of, are_sorted}
use Rattle.file_tree.proofs.TreeLaws.{entries_tree}

pub after_all-push : (t : TreeMap) (hs : List Happened) (h : Happened) → after_all t (hs ++ h ∷ []) ≡ after_effect (after_all t hs) h.effect
after_all-push t [] h = refl
after_all-push t (g ∷ hs) h = after_all-push (after_effect t g.effect) hs h

pub now_more : (p : Past) (c : Call) (e : Effect) → map_now (adds p c e) ≡ after_effect (map_now p) e
unfolding map_now
now_more p c e = after_all-push p.first p.log (record { call = c; effect = e })

pub happened-push : (cs : List Call) (es : List Effect) (c : Call) (e : Effect) → length cs ≡ length es
    → happened (cs ++ c ∷ []) (es ++ e ∷ []) ≡ happened cs es ++ (record { call = c; effect = e }) ∷ []
happened-push [] [] c e even = refl
happened-push [] (f ∷ es) c e even = absurd (omega arith)
happened-push (d ∷ cs) [] c e even = absurd (omega arith)
happened-push (d ∷ cs) (f ∷ es) c e even = ap (λ hs. (record { call = d; effect = f }) ∷ hs) (happened-push cs es c e (omega arith))

pub past_more : (first : List Place) (cs ds : List Call) (es fs : List Effect) (c : Call) (e : Effect) → length cs ≡ length es → ds ≡ cs ++ c ∷ [] → fs ≡ es ++ e ∷ []
    → past_with first ds fs ≡ adds (past_with first cs es) c e
past_more first cs ds es fs c e even calls effects = rw (calls, effects, happened-push cs es c e even) refl

pub now_with : (first : List Place) (cs ds : List Call) (es fs : List Effect) (c : Call) (e : Effect) → length cs ≡ length es → ds ≡ cs ++ c ∷ [] → fs ≡ es ++ e ∷ []
    → map_now (past_with first ds fs) ≡ after_effect (map_now (past_with first cs es)) e
now_with first cs ds es fs c e even calls effects = ap map_now (past_more first cs ds es fs c e even calls effects) ∙ now_more (past_with first cs es) c e

-- the entries of places in order are those of the map that they are
pub entries_now : (ps : List Place) (t : TreeMap) → are_sorted ps ≡ true → tree_of ps ≡ t → entries_of ps ≡ fin.entries t
entries_now ps t sorted is = sym (entries_tree ps sorted) ∙ ap fin.entries is

pub calls_happened : (first : List Place) (cs : List Call) (es : List Effect) → length cs ≡ length es → calls_of (past_with first cs es) ≡ cs
calls_happened first [] es even = refl
calls_happened first (c ∷ cs) [] even = absurd (omega arith)
calls_happened first (c ∷ cs) (e ∷ es) even = ap (λ ds. c ∷ ds) (calls_happened first cs es (omega arith))

pub settles_happened : (first : List Place) (cs : List Call) (es : List Effect) → length cs ≡ length es → settles_of (past_with first cs es) ≡ count_by is_settle cs
settles_happened first cs es even = ap (count_by is_settle) (calls_happened first cs es even)

-- a tree with no calls is the one that it began with
tree_at : List (List ℕ × Node) → TreeMap
tree_at es = fin.from_entries es

no_calls : (first places : List Place) → entries_of first ≡ entries_of places → tree_of places ≡ map_now (past_with first [] [])
unfolding tree_of map_now tree_at
no_calls first places same = sym (ap tree_at same)

pub same_first : (first places : List Place) → entries_of first ≡ entries_of places → tree_of first ≡ tree_of places
unfolding tree_of tree_at
same_first first places same = ap tree_at same

pub now_first : (first places : List Place) (cs : List Call) (es : List Effect) → entries_of first ≡ entries_of places → cs ≡ [] → tree_of places ≡ map_now (past_with first cs es)
now_first first places cs es same calls = rw calls (no_calls first places same)

pub past_first : (first places : List Place) (cs : List Call) (es : List Effect) → entries_of first ≡ entries_of places → cs ≡ [] → past_with first cs es ≡ record { first = tree_of places; log = [] }
past_first first places cs es same calls = rw (calls, same_first first places same) refl
