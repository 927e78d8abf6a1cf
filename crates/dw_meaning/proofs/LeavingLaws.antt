-- What the fields of an output name is what those of its file name, mapped: so nothing is left in a table that is built from what fields name.
use Rattle.std.proofs.Common.{◌≡◌, List, [], ◌∷◌, ◌++◌, refl, sym, ap, ◌∙◌}
use Rattle.dw_base.specs.DebugData.{Around, DataReadings, DebugData, around_of, path_slots, source_around}
use Rattle.dw_base.specs.TextLineChanges.{all_texts_mentions}
use Rattle.dw_base.specs.MacroReadings.{MacroReading}
use Rattle.dw_base.specs.Paths.{PathMap}
use Rattle.dw_base.specs.Readings.{Readings}
use Rattle.dw_base.specs.SectionTexts.{slot_role, name_role, macro_role, mentions_with, macro_mentions, file_mentions}
use Rattle.dw_base.specs.StringTables.{Mention}
use Rattle.dw_base.specs.TextChanges.{TableChanges, mentions_of, all_mentions}
use Rattle.dw_base.specs.declared.texts.TextSection.{TextSection}
use Rattle.dw_base.proofs.UnitEditLaws.{Shift}
use Rattle.dw_meaning.specs.DataOutput.{changes_of, offsets_after, macros_after, names_after}
use Rattle.dw_meaning.specs.RebuiltTables.{all_after}
use Rattle.dw_meaning.proofs.DataKeptLaws.{AllReadingsChanged, DataMoves, after_reads, around-edited, data_shift, edited_data, edited_readings, lines-data, macros-changed-all, names-changed-all, offsets-changed, units-changed-all}
use Rattle.dw_meaning.proofs.MacroEditLaws.{AllMacrosChanged}
use Rattle.dw_meaning.proofs.MentionLaws.{after-append, units-after, with-after}

readings-after : (table : TextSection) (c : Shift) (rs qs : Readings) → AllReadingsChanged c rs qs → all_mentions table c.new qs ≡ all_after c.map (all_mentions table c.old rs)
readings-after table c [] [] h = refl
readings-after table c [] (q ∷ qs) h = absurd h
readings-after table c (r ∷ rs) [] h = absurd h
readings-after table c (r ∷ rs) (q ∷ qs) h =
    ap (λ (ms : List Mention). ms ++ all_mentions table c.new qs) (units-after table c r.pieces q.pieces h.1)
    ∙ ap (λ (ms : List Mention). all_after c.map (mentions_of table c.old r.pieces) ++ ms) (readings-after table c rs qs h.2)
    ∙ sym (after-append c.map (mentions_of table c.old r.pieces) (all_mentions table c.old rs))

macros-after : (table : TextSection) (c : Shift) (rs qs : List MacroReading) → AllMacrosChanged c rs qs → macro_mentions table c.new qs ≡ all_after c.map (macro_mentions table c.old rs)
macros-after table c [] [] h = refl
macros-after table c [] (q ∷ qs) h = absurd h
macros-after table c (r ∷ rs) [] h = absurd h
macros-after table c (r ∷ rs) (q ∷ qs) h =
    ap (λ (ms : List Mention). ms ++ macro_mentions table c.new qs) (with-after macro_role table c r.pieces q.pieces h.1)
    ∙ ap (λ (ms : List Mention). all_after c.map (mentions_with macro_role table c.old r.pieces) ++ ms) (macros-after table c rs qs h.2)
    ∙ sym (after-append c.map (mentions_with macro_role table c.old r.pieces) (macro_mentions table c.old rs))

-- five lists of mentions, one behind another
five : (m : PathMap) (a b c d e as_ bs cs ds es : List Mention) → as_ ≡ all_after m a → bs ≡ all_after m b → cs ≡ all_after m c → ds ≡ all_after m d → es ≡ all_after m e
    → as_ ++ (bs ++ (cs ++ (ds ++ es))) ≡ all_after m (a ++ (b ++ (c ++ (d ++ e))))
five m a b c d e as_ bs cs ds es f g h i j =
    rw (f, g, h, i, j) (sym (after-append m a (b ++ (c ++ (d ++ e))) ∙ ap (λ (ms : List Mention). all_after m a ++ ms)
    (after-append m b (c ++ (d ++ e)) ∙ ap (λ (ms : List Mention). all_after m b ++ ms)
    (after-append m c (d ++ e) ∙ ap (λ (ms : List Mention). all_after m c ++ ms) (after-append m d e)))))

-- what a file names after an edit
pub file-after : (m : PathMap) (d : DebugData) (r : DataReadings) (w : DataMoves m d r) (table : TextSection)
    → file_mentions table (around_of (edited_data (changes_of m (around_of d r) r) d r) (after_reads m d r w)) (after_reads m d r w) ≡ all_after m (file_mentions table (around_of d r) r)
file-after m d r w table =
    let c : TableChanges = changes_of m (around_of d r) r in
    let s : Shift = data_shift m d r in
    ap (λ (a : Around). file_mentions table a (after_reads m d r w)) (around-edited m d r w)
    ∙ five m (all_mentions table (around_of d r) r.units) (mentions_with (slot_role (path_slots (around_of d r))) table (around_of d r) r.offsets)
    (all_texts_mentions (source_around (around_of d r)) table r.lines) (macro_mentions table (around_of d r) r.macros) (mentions_with name_role table (around_of d r) r.names)
    (all_mentions table s.new (edited_readings c (around_of d r) r.units)) (mentions_with (slot_role (path_slots s.new)) table s.new (offsets_after c (around_of d r) r))
    (all_texts_mentions (source_around s.new) table (lines-data m d r w).readings) (macro_mentions table s.new (macros_after c (around_of d r) r))
    (mentions_with name_role table s.new (names_after c (around_of d r) r))
    (readings-after table s r.units (edited_readings c (around_of d r) r.units) (units-changed-all m d r w))
    (with-after (slot_role (path_slots (around_of d r))) table s r.offsets (offsets_after c (around_of d r) r) (offsets-changed m d r w))
    (ap (λ (a : Around). all_texts_mentions (source_around a) table (lines-data m d r w).readings) (sym (around-edited m d r w)) ∙ (lines-data m d r w).mentions table)
    (macros-after table s r.macros (macros_after c (around_of d r) r) (macros-changed-all m d r w))
    (with-after name_role table s r.names (names_after c (around_of d r) r) (names-changed-all m d r w))
