-- Where a run ends, and how a stopped one is taken up.
use Rattle.std.proofs.Common.{◌≡◌, ℕ, Bool, List, [], refl, sym, subst, arith, take_all}
use Rattle.std.specs.Prelude.{Option, Some, None}
use Rattle.file_tree.specs.declared.node.Node.{Node}
use Rattle.file_tree.specs.declared.call.Change.{Change}
use Rattle.file_tree.specs.Trees.{TreeMap}
use Rattle.file_tree.specs.Images.{settled_state, Full, Image}
use Rattle.file_tree.specs.Images.Full.{none as full_none}
use Rattle.journal_core.specs.declared.event.Phase.TheVariants.{Empty, Closed}
use Rattle.journal_core.specs.Names.{temp, final, target}
use Rattle.journal_core.specs.Table.{CoreState}
use Rattle.journal_core.specs.Marks.{Mark, Marking, absent, first, whole, any, earlier, is_any, is_whole}
use Rattle.journal_core.specs.Shapes.{IsFinished}
use Rattle.journal_core.specs.Relation.{Shows, empty, proposed, settled, running, finishing, closing, closed, renewing}
use Rattle.journal_core.specs.Starts.{shown_core}
use Rattle.journal_core.proofs.Starts.{shape_shown}
use Rattle.journal_core.proofs.Ends.{shown_shows}
use Rattle.work_journal.specs.Wanted.{MarkHas, IsPartway}
use Rattle.work_journal.specs.Keeps.{Agrees}
use Rattle.work_journal.specs.Laws.{EveryEndWhole, EveryStartKeeps}

whole_has : (x : Mark) (was : Option Node) (n : Node) (old is : Option Node) → x ≡ whole → MarkHas x was n old is → is ≡ Some n
whole_has absent was n old is e h = let d : absent ≡ whole = e in cc
whole_has first was n old is e h = let d : first ≡ whole = e in cc
whole_has whole was n old is e h = h
whole_has any was n old is e h = let d : any ≡ whole = e in cc
whole_has earlier was n old is e h = let d : earlier ≡ whole = e in cc

absent_has : (x : Mark) (was : Option Node) (n : Node) (old is : Option Node) → x ≡ absent → MarkHas x was n old is → is ≡ None
absent_has absent was n old is e h = h
absent_has first was n old is e h = let d : first ≡ absent = e in cc
absent_has whole was n old is e h = let d : whole ≡ absent = e in cc
absent_has any was n old is e h = let d : any ≡ absent = e in cc
absent_has earlier was n old is e h = let d : earlier ≡ absent = e in cc

finished : (p : Mark → Bool) (steps : List ℕ) (c : CoreState) (m : Marking) → c.phase ≡ Closed → Shows p steps c m → IsFinished steps m
finished p steps c m e (empty h l) = let d : Empty ≡ Closed = e in cc
finished p steps c m e (proposed h l) = absurd (cc)
finished p steps c m e (settled h l) = absurd (cc)
finished p steps c m e (running h) = absurd (cc)
finished p steps c m e (finishing h) = absurd (cc)
finished p steps c m e (closing h) = absurd (cc)
finished p steps c m e (closed d h) = h
finished p steps c m e (renewing d h l q) = absurd (cc)

pub end_whole : EveryEndWhole
end_whole w c s k e =
    let has = k.exact.has in
    let h = finished is_whole w.steps c k.exact.marking e k.exact.shows in
    record {
      outputs = λ j i st. whole_has _ _ _ _ _ (h.target j i st) (has.named (target j i) st);
      texts = λ i l. whole_has _ _ _ _ _ (h.final i l) (has.named (final i) l);
      temps = λ j i st. absent_has _ _ _ _ _ (h.temp j i st) (has.named (temp j i) st);
      others = has.others;
    }

-- of a tree at which all is stored nothing else is left
only_full : (t u : TreeMap) → Full t [] u → u ≡ t
only_full t u full_none = refl

only_image : (t u : TreeMap) → Image (settled_state t) u → u ≡ t
only_image t u image = only_full t u (subst (λ (l : List Change). Full t l u) (take_all image.kept [] (omega arith)) image.full)

pub start_keeps : EveryStartKeeps
start_keeps w apart t p =
    let shown = (shape_shown w.steps p.marking p.shape).shown in
    let agrees : (q : Mark → Bool) → Agrees w q (shown_core w.steps p.marking) t = λ (q : Mark → Bool). record { marking = p.marking; shows = shown_shows q w.steps p.marking (shown_core w.steps p.marking) apart.some shown; has = p.has } in
    record {
      exact = agrees is_whole;
      torn = λ u f. subst (λ (x : TreeMap). Agrees w is_any (shown_core w.steps p.marking) x) (sym (only_full t u f)) (agrees is_any);
      images = record { each = λ u image. subst (λ (x : TreeMap). IsPartway w x) (sym (only_image t u image)) p };
    }
