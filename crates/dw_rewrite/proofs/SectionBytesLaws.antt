-- The new bytes of unit sections, from the new places that are known.
use Rattle.std.proofs.Common.{Bool, true, ◌==◌, ◌≡◌, ℕ, zero, suc, ◌+◌, ◌≤◌, ◌<◌, List, [], ◌∷◌, ◌++◌, length, drop, get_or, Option, IsTrue, refl, sym, ap, ◌∙◌, subst, arith, append_assoc, append-nil}
use Rattle.std.proofs.lemmas.Bool.{ne_eqb, true≢false}
use Rattle.std.proofs.lemmas.List.{drop_all}
use Rattle.dw_meaning.specs.DataOutput.{Body}
use Rattle.dw_base.specs.Elf.{contents_of, section_count}
use Rattle.dw_base.specs.FileViews.{View, section_bytes, view_cells, view_of}
use Rattle.dw_base.specs.InlinePaths.{inline_fits}
use Rattle.dw_base.specs.Paths.{PathMap}
use Rattle.dw_base.specs.Refusals.{Blames}
use Rattle.dw_base.specs.declared.fault.Fault.{Fault}
use Rattle.dw_base.specs.declared.fault.Fault.TheVariants.{NoMemory, Refused}
use Rattle.dw_base.specs.declared.fault.Refusal.{Refusal}
use Rattle.dw_base.specs.declared.shared.Order.{Order}
use Rattle.dw_patch.specs.Patching.{PatchList, no_patches}
use Rattle.elf_layout.specs.Patched.{with_patches}
use Rattle.elf_layout.specs.declared.patch.Patch.{Patch}
use Rattle.dw_unit_fields.specs.Fields.{AllApart, AreOffsetFields, IsStartField}
use Rattle.dw_rewrite.specs.Changes.{AreFieldsOf, AreFree, AreSet, FieldSource}
use Rattle.dw_unit_fields.specs.InlineRooms.{grows, Grows, one}
use Rattle.dw_unit_fields.specs.ViewFields.{AllRoomsFit, HasOffsets, HasPlaces, info_of}
use Rattle.dw_rewrite.specs.NewTables.{bodies_known, body_known, fields_known, section_known, source_in, source_into, starts_in}
use Rattle.dw_unit_fields.specs.TextPlaces.{InlinesFit}
use Rattle.dw_unit_fields.specs.SectionFields.{SectionFields, inline_text, fields_into}
use Rattle.dw_rewrite.specs.UnitsAfter.{inlined}
use Rattle.dw_unit_fields.specs.declared.fields.InlinePath.{InlinePath}
use Rattle.dw_base.proofs.FileViewLaws.{length-view_of, section_bytes-view_of}
use Rattle.dw_base.proofs.ViewCellLaws.{length-view_cells}
use Rattle.dw_base.specs.declared.debug_sections.DebugSection.{DebugSection}
use Rattle.dw_base.specs.declared.debug_sections.DebugSection.TheVariants.{Str, LineStr, Line}
use Rattle.dw_offsets.specs.declared.fields.OffsetField.{OffsetField}
use Rattle.dw_base.specs.declared.texts.TextSection.TheVariants.{InStr, InLineStr}
use Rattle.dw_rewrite.proofs.FieldSetLaws.{all-put, apart-behind, apart-front, apart-skip, free-behind, free-first}
use Rattle.dw_unit_fields.proofs.PlaceValueLaws.{EachOf, each-get}
use Rattle.dw_unit_fields.proofs.SectionFactLaws.{FitsIn}

-- fields of line tables are fields of the cells
pub start-fields : (v : View) (u : SectionFields) → HasPlaces v u → AreFieldsOf (starts_in v u.number) (fields_into u Line)
start-fields v u h = record {
  each = λ (k : ℕ) (d : OffsetField) (lt : k < length (fields_into u Line)).
      let one : IsStartField (info_of v u) (get_or (fields_into u Line) k d) = h.starts.each k d lt in
      let inside : (get_or (fields_into u Line) k d).at + (get_or (fields_into u Line) k d).size ≤ length (info_of v u) = one.inside in
      let size : length (view_cells v u.number) ≡ length (info_of v u) = length-view_cells v u.number in
      record { sized = one.sized; inside = omega (arith, inside, size) };
}

-- and so are those of the tables of texts
offsets-fields : (s : FieldSource) (fields : List OffsetField) → AreOffsetFields s.order s.table s.cells fields → AreFieldsOf s fields
offsets-fields s fields h = record { each = λ k d lt. record { sized = (h.each k d lt).sized; inside = (h.each k d lt).inside } }

pub str-fields : (v : View) (u : SectionFields) → HasOffsets v u → AreFieldsOf (source_in v u.number InStr) (fields_into u Str)
str-fields v u h = offsets-fields (source_in v u.number InStr) (fields_into u Str) h.str

pub line_str-fields : (v : View) (u : SectionFields) → HasOffsets v u → AreFieldsOf (source_in v u.number InLineStr) (fields_into u LineStr)
line_str-fields v u h = offsets-fields (source_in v u.number InLineStr) (fields_into u LineStr) h.line_str

-- as many cells as bytes
pub size-into : (v : View) (u : SectionFields) (into : DebugSection) (n : ℕ) (s : FieldSource) → n ≡ length (info_of v u) → s ≡ source_into v u.number into → n ≡ length s.cells
size-into v u into n s is e = is ∙ sym (length-view_cells v u.number) ∙ ap (λ (x : FieldSource). length x.cells) (sym e)

-- they have no byte in common
pub str-apart : (v : View) (u : SectionFields) → HasPlaces v u → AllApart (fields_into u Str)
str-apart v u h = apart-front (fields_into u Str) (fields_into u LineStr ++ fields_into u Line) h.apart

pub line_str-apart : (v : View) (u : SectionFields) → HasPlaces v u → AllApart (fields_into u LineStr)
line_str-apart v u h = apart-front (fields_into u LineStr) (fields_into u Line) (apart-behind (fields_into u Str) (fields_into u LineStr ++ fields_into u Line) h.apart)

pub starts-apart : (v : View) (u : SectionFields) → HasPlaces v u → AllApart (fields_into u Line)
starts-apart v u h = apart-behind (fields_into u LineStr) (fields_into u Line) (apart-behind (fields_into u Str) (fields_into u LineStr ++ fields_into u Line) h.apart)

apart-both : (u : SectionFields) → AllApart (fields_into u Str ++ (fields_into u LineStr ++ fields_into u Line)) → AllApart ((fields_into u Str ++ fields_into u LineStr) ++ fields_into u Line)
apart-both u h = subst AllApart (sym (append_assoc (fields_into u Str) (fields_into u LineStr) (fields_into u Line))) h

-- those of both tables, one after the other
pub none-free : (v : View) (u : SectionFields) (p : PatchList) (n size : ℕ) → p ≡ no_patches v.order n size → AreFree p.list (fields_into u Str)
none-free v u p n size is = rw is (free-first (fields_into u Str))

pub line-free : (v : View) (u : SectionFields) (p q : PatchList) (known : Bool → ℕ → Option ℕ) (n size : ℕ) → HasPlaces v u → p ≡ no_patches v.order n size
    → AreSet (source_in v u.number InStr) known (fields_into u Str) p q → AreFree q.list (fields_into u LineStr)
line-free v u p q known n size h is s =
    let list : q.list ≡ s.more = s.list ∙ ap (λ (x : PatchList). x.list ++ s.more) is in
    subst (λ (ps : List Patch). AreFree ps (fields_into u LineStr)) (sym list)
    (free-behind (source_in v u.number InStr) known [] s.more (fields_into u Str) (fields_into u LineStr) s.said (apart-front (fields_into u Str ++ fields_into u LineStr) (fields_into u Line) (apart-both u h.apart)) (free-first (fields_into u LineStr)))

pub start-free : (v : View) (u : SectionFields) (p q r : PatchList) (ks kl : Bool → ℕ → Option ℕ) (n size : ℕ) → HasPlaces v u → p ≡ no_patches v.order n size
    → AreSet (source_in v u.number InStr) ks (fields_into u Str) p q → AreSet (source_in v u.number InLineStr) kl (fields_into u LineStr) q r → AreFree r.list (fields_into u Line)
start-free v u p q r ks kl n size h is s l =
    let list : r.list ≡ s.more ++ l.more =
    l.list ∙ ap (λ (ps : List Patch). ps ++ l.more) (s.list ∙ ap (λ (x : PatchList). x.list ++ s.more) is) in
    let behind : AllApart (fields_into u LineStr ++ fields_into u Line) = apart-behind (fields_into u Str) (fields_into u LineStr ++ fields_into u Line) h.apart in
    let first : AreFree s.more (fields_into u Line) =
    free-behind (source_in v u.number InStr) ks [] s.more (fields_into u Str) (fields_into u Line) s.said (apart-skip (fields_into u Str) (fields_into u LineStr) (fields_into u Line) h.apart) (free-first (fields_into u Line)) in
    subst (λ (ps : List Patch). AreFree ps (fields_into u Line)) (sym list)
    (free-behind (source_in v u.number InLineStr) kl s.more l.more (fields_into u LineStr) (fields_into u Line) l.said behind first)

pub fields-put : (v : View) (u : SectionFields) (ks kl kt : Bool → ℕ → Option ℕ) (out new : List ℕ) (p q r w : PatchList) (n size : ℕ) → p ≡ no_patches v.order n size
    → AreSet (source_in v u.number InStr) ks (fields_into u Str) p q → AreSet (source_in v u.number InLineStr) kl (fields_into u LineStr) q r
    → AreSet (starts_in v u.number) kt (fields_into u Line) r w → new ≡ with_patches w.order out w.list → new ≡ fields_known v ks kl kt u out
fields-put v u ks kl kt out new p q r w n size is first second third put =
    all-put (source_in v u.number InStr) (source_in v u.number InLineStr) (starts_in v u.number) out new ks kl kt (fields_into u Str) (fields_into u LineStr) (fields_into u Line) p q r w
    (ap (λ (x : PatchList). x.order) is) refl refl (ap (λ (x : PatchList). x.list) is) first second third put

-- a section whose paths all fit isn't refused
fits-at : (m : PathMap) (info : List ℕ) (ps : List InlinePath) (k : ℕ) (d : InlinePath) → k < length ps → InlinesFit m info ps → IsTrue (inline_fits m (inline_text info (get_or ps k d)))
fits-at m info [] k d lt fits = absurd (omega arith)
fits-at m info (p ∷ ps) zero d lt fits = fits.0
fits-at m info (p ∷ ps) (suc k) d lt fits = fits-at m info ps k d (omega arith) fits.1

grows-never : (m : PathMap) (section : ℕ) (info : List ℕ) (ps : List InlinePath) (r : Refusal) → InlinesFit m info ps → Grows m section info ps r → ⊥
grows-never m section info ps r fits (one k p lt is (grows over)) =
    let fit : inline_fits m (inline_text info p) ≡ true = subst (λ (q : InlinePath). IsTrue (inline_fits m (inline_text info q))) (sym is) (fits-at m info ps k p lt fits) in
    cc

pub memory-only : (m : PathMap) (v : View) (u : SectionFields) (f : Fault) → FitsIn m v u → Blames (Grows m u.number (info_of v u) u.inline) f → f ≡ NoMemory
memory-only m v u NoMemory fits b = refl
memory-only m v u (Refused r) fits b = absurd (grows-never m u.number (info_of v u) u.inline r fits b)

fit-each : (m : PathMap) (v : View) (us : List SectionFields) → AllRoomsFit m v us → EachOf (FitsIn m v) us
fit-each m v [] fits = tt
fit-each m v (u ∷ us) fits = (fits.0, fit-each m v us fits.1)

pub fit-at : (m : PathMap) (v : View) (us : List SectionFields) (i : ℕ) (u : SectionFields) → AllRoomsFit m v us → i < length us → u ≡ get_or us i u → FitsIn m v u
fit-at m v us i u fits lt is = subst (FitsIn m v) (sym is) (each-get (FitsIn m v) us i u lt (fit-each m v us fits))

-- what is written into the bytes of a section
pub room-written : (m : PathMap) (info here out second third : List ℕ) (ps qs : List InlinePath) (o : Order) (list : List Patch) → here ≡ info → out ≡ info
    → second ≡ with_patches o out list → third ≡ inlined m here second qs → qs ≡ ps → third ≡ inlined m info (with_patches o info list) ps
room-written m info here out second third ps qs o list here_is out_is put is same =
    is ∙ ap (λ (bs : List ℕ). inlined m bs second qs) here_is ∙ ap (λ (bs : List ℕ). inlined m info bs qs) (put ∙ ap (λ (bs : List ℕ). with_patches o bs list) out_is)
    ∙ ap (inlined m info (with_patches o info list)) same

-- are its new bytes
pub section-written : (m : PathMap) (v : View) (ks kl kt : Bool → ℕ → Option ℕ) (u : SectionFields) (o : Order) (list : List Patch) (new : List ℕ)
    → with_patches o (info_of v u) list ≡ fields_known v ks kl kt u (info_of v u) → new ≡ inlined m (info_of v u) (with_patches o (info_of v u) list) u.inline
    → new ≡ section_known m v ks kl kt u
unfolding section_known
section-written m v ks kl kt u o list new put is = is ∙ ap (λ (bs : List ℕ). inlined m (info_of v u) bs u.inline) put

-- where no path stands in its value, the numbers of the fields are all that is new
pub body-patched : (m : PathMap) (v : View) (ks kl kt : Bool → ℕ → Option ℕ) (u : SectionFields) (n : ℕ) (o : Order) (list : List Patch) (old : List ℕ) (b : Body)
    → b ≡ record { number = n; bytes = with_patches o old list } → n ≡ u.number → old ≡ info_of v u
    → with_patches o (info_of v u) list ≡ fields_known v ks kl kt u (info_of v u) → u.inline ≡ [] → b ≡ body_known m v ks kl kt u
unfolding section_known
body-patched m v ks kl kt u n o list old b is number same put none =
    is ∙ ap (λ (k : ℕ). record { number = k; bytes = with_patches o old list }) number
    ∙ ap (λ (bs : List ℕ). record { number = u.number; bytes = bs })
    (ap (λ (bs : List ℕ). with_patches o bs list) same ∙ put ∙ sym (ap (inlined m (info_of v u) (fields_known v ks kl kt u (info_of v u))) none))

-- no path stands in its value
none-long : (ps : List InlinePath) → (length ps == 0) ≡ true → ps ≡ []
none-long [] e = refl
none-long (p ∷ ps) e = absurd (true≢false (sym e ∙ ne_eqb (length (p ∷ ps)) 0 (λ (same : length (p ∷ ps) ≡ 0). omega (arith, same))))

pub no-rooms : (u : SectionFields) (ps : List InlinePath) (t : Bool) → t ≡ (length ps == 0) → ps ≡ u.inline → t ≡ true → u.inline ≡ []
no-rooms u ps t is same holds = sym same ∙ none-long ps (sym is ∙ holds)

pub ruleset room_rules = (no-rooms)

-- the section with those bytes
pub body-is : (m : PathMap) (v : View) (ks kl kt : Bool → ℕ → Option ℕ) (u : SectionFields) (n : ℕ) (bytes new : List ℕ) → n ≡ u.number → bytes ≡ new → new ≡ section_known m v ks kl kt u
    → record { number = n; bytes = bytes } ≡ body_known m v ks kl kt u
body-is m v ks kl kt u n bytes new number same is =
    ap (λ (k : ℕ). record { number = k; bytes = bytes }) number ∙ ap (λ (bs : List ℕ). record { number = u.number; bytes = bs }) (same ∙ is)

pub places-there : (v : View) (u : SectionFields) → HasPlaces v u → u.number < length v.sections
places-there v u h = h.there

-- it is one of the file, which lends its bytes
pub file-there : (v : View) (b : List ℕ) (u : SectionFields) (n : ℕ) → v ≡ view_of b → HasPlaces v u → n ≡ u.number → n < length (view_of b).sections
file-there v b u n same h is = subst (λ (x : View). n < length x.sections) same (omega (arith, h.there, is))

pub ruleset one_rules = (places-there, file-there, str-fields, line_str-fields, start-fields, str-apart, line_str-apart, starts-apart)

pub lent-there : (b : List ℕ) (i : ℕ) → i < length (view_of b).sections → i < section_count b
lent-there b i lt = omega (arith, lt, length-view_of b)

pub lent-bytes : (b bytes : List ℕ) (i : ℕ) → i < length (view_of b).sections → bytes ≡ contents_of b i → bytes ≡ section_bytes (view_of b) i
lent-bytes b bytes i lt is = is ∙ sym (section_bytes-view_of b i (lent-there b i lt))

pub ruleset lent_rules = (lent-there, lent-bytes)

pub bodies-end : (m : PathMap) (v : View) (ks kl kt : Bool → ℕ → Option ℕ) (us : List SectionFields) (i : ℕ) (bodies front : List Body) → length us ≤ i
    → bodies ++ bodies_known m v ks kl kt (drop i us) ≡ front ++ bodies_known m v ks kl kt us → bodies ≡ front ++ bodies_known m v ks kl kt us
bodies-end m v ks kl kt us i bodies front end e =
    sym (append-nil bodies) ∙ sym (ap (λ (xs : List SectionFields). bodies ++ bodies_known m v ks kl kt xs) (drop_all i us end)) ∙ e

pub ruleset all_rules = (bodies-end)
