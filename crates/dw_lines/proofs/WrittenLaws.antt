-- Laws of a table that is written: its parts, and what refuses it.
use Rattle.std.proofs.Common.{Bool, true, false, ◌≡◌, ℕ, ◌+◌, ◌<◌, ◌≤◌, ◌^◌, List, [], ◌++◌, length, Option, Some, None, refl, sym, ap, ◌∙◌, subst, arith}
use Rattle.std.specs.Prelude.{IsSome, nat_lt, ◌==◌, if◌then◌else◌}
use Rattle.std.proofs.lemmas.Bool.Decides.{nat_tests}
use Rattle.std.proofs.lemmas.List.{append_assoc, length-append}
use Rattle.dw_base.specs.FileViews.{View, section_bytes}
use Rattle.dw_base.specs.Forms.{width_size}
use Rattle.dw_base.specs.Numbers.{number_bytes}
use Rattle.dw_base.specs.Paths.{PathMap}
use Rattle.dw_base.specs.Refusals.{at, Blames}
use Rattle.dw_base.specs.declared.fault.Fault.{Fault}
use Rattle.dw_base.specs.declared.fault.Fault.TheVariants.{NoMemory, Refused}
use Rattle.dw_base.specs.declared.fault.Kind.TheVariants.{TooWide}
use Rattle.dw_base.specs.declared.fault.Refusal.{Refusal}
use Rattle.dw_base.specs.declared.shared.Order.{Order}
use Rattle.dw_base.specs.declared.shared.Width.{Width}
use Rattle.dw_base.specs.declared.shared.Width.TheVariants.{W32, W64}
use Rattle.dw_base.specs.declared.line_tables.LineText.{LineText}
use Rattle.dw_base.specs.declared.line_tables.TextPlace.{TextPlace}
use Rattle.dw_lines.specs.ChangeSteps.{after_changes, OffsetsFit, offset_fits}
use Rattle.dw_base.specs.LineHeaders.{line_header}
use Rattle.dw_base.specs.LineSources.{LineSource}
use Rattle.dw_lines.specs.OffsetRooms.{AllHaveRoom}
use Rattle.dw_lines.specs.ViewSources.{view_source}
use Rattle.dw_lines.proofs.RoomLaws.{table-room}
use Rattle.dw_base.specs.LineTables.{LineTable, IsLineTable, table_bytes, table_made, table_with}
use Rattle.dw_base.specs.LinePrograms.{next_opcode}
use Rattle.dw_base.specs.Walks.{ComesTo, Since}
use Rattle.dw_base.specs.LineWriteFails.{ProgramFails, length_field, length_limit}
use Rattle.dw_base.specs.TextLineChanges.{front_by_texts, header_by_texts, program_by_texts, rest_by_texts, table_by_texts, texts_changes}
use Rattle.dw_base.specs.TextWriteFails.{TextWriteFails, WideText, text_header, text_offset, text_program, text_table, wide_text}
use Rattle.dw_base.specs.WrittenLines.{Change, behind_lengths, changed, header_length_place, length_bytes, length_size, part, with_header_length, with_program}
use Rattle.dw_base.specs.declared.line_tables.LineHeader.{LineHeader}
use Rattle.dw_base.specs.declared.line_tables.FilePlace.{FilePlace}
use Rattle.dw_lines.proofs.ChangeLaws.{changes-done}

-- the header from behind its length
pub header-done : (bytes here : List ℕ) (start version first end place p n : ℕ) (width : Width) (cs : List Change) (none out more : List ℕ) → none ≡ [] → here ≡ bytes
    → p ≡ header_length_place start width version → n ≡ width_size width → first ≡ p + n
    → ◌≡◌ {A = List ℕ × ℕ} (out, place) (after_changes bytes (none, first) cs) → more ≡ out ++ part here place end → more ≡ changed bytes (behind_lengths start width version) end cs
header-done bytes here start version first end place p n width cs none out more e h hp hn f s m =
    m ∙ ap (λ (xs : List ℕ). out ++ part xs place end) h
    ∙ ap (λ (t : List ℕ × ℕ). t.0 ++ part bytes t.1 end) (s ∙ ap (λ (xs : List ℕ). after_changes bytes (xs, first) cs) e)
    ∙ changes-done bytes end ([], first) cs
    ∙ ap (λ (k : ℕ). changed bytes k end cs) (f ∙ ap (λ (k : ℕ). k + n) hp ∙ ap (λ (k : ℕ). header_length_place start width version + k) hn)

pub ruleset header_laws = (header-done)

-- three parts, one after another
pub three-parts : (none a b c x y z : List ℕ) → none ≡ [] → a ≡ none ++ x → b ≡ a ++ y → c ≡ b ++ z → c ≡ x ++ (y ++ z)
three-parts none a b c x y z e f g h =
    h ∙ ap (λ (xs : List ℕ). xs ++ z) (g ∙ ap (λ (xs : List ℕ). xs ++ y) (f ∙ ap (λ (xs : List ℕ). xs ++ x) e)) ∙ append_assoc x y z

pub ruleset front_laws = (three-parts)

pub whole-done : (order : Order) (width : Width) (none a b c front tail : List ℕ) (len : ℕ) → none ≡ [] → a ≡ none ++ length_bytes order width len → b ≡ a ++ front → c ≡ b ++ tail
    → len ≡ length front + length tail → c ≡ length_bytes order width (length (front ++ tail)) ++ (front ++ tail)
whole-done order width none a b c front tail len e f g h l =
    three-parts none a b c (length_bytes order width len) front tail e f g h
    ∙ ap (λ (n : ℕ). length_bytes order width n ++ (front ++ tail)) (l ∙ sym (length-append front tail))

pub ruleset whole_laws = (whole-done)

-- a header that is there
pub header-absent : (order o : Order) (bytes b : List ℕ) (start : ℕ) → o ≡ order → b ≡ bytes → IsSome (line_header order bytes start) → None ≡ line_header o b start → ⊥
header-absent order o bytes b start eo eb some e = absurd (by_kind (line_header order bytes start) some (e ∙ ap (λ (x : Order). line_header x b start) eo ∙ ap (λ (bs : List ℕ). line_header order bs start) eb))
  where
    by_kind : (x : Option LineHeader) → IsSome x → None ≡ x → ⊥
    by_kind x some e = cc

pub ruleset there_laws = (header-absent)

-- what is written of a table that was read: its header is the one that stands there
header-once : (a b : LineHeader) (x : Option LineHeader) → x ≡ Some a → x ≡ Some b → a ≡ b
header-once a b x e f = ap (header_or a) (sym e ∙ f)
  where
    header_or : LineHeader → Option LineHeader → LineHeader
    header_or d None = d
    header_or d (Some h) = h

pub table-there : (v : View) (section start : ℕ) (t : LineTable) → IsLineTable (view_source v t.section) t.start t → section ≡ t.section → start ≡ t.start
    → IsSome (line_header v.order (section_bytes v section) start)
table-there v section start t is s p =
    subst (λ (x : ℕ). IsSome (line_header v.order (section_bytes v x) start)) (sym s)
    (subst (λ (x : ℕ). IsSome (line_header v.order (section_bytes v t.section) x)) (sym p) (subst (λ x. IsSome x) (sym is.header_is) refl))

-- a table that stands at its own place in its own section stands where these are
pub table-here : (v : View) (section start : ℕ) (t : LineTable) → IsLineTable (view_source v t.section) t.start t → section ≡ t.section → start ≡ t.start
    → IsLineTable (view_source v section) start t
table-here v section start t is s p =
    subst (λ (n : ℕ). IsLineTable (view_source v n) start t) (sym s) (subst (λ (n : ℕ). IsLineTable (view_source v t.section) n t) (sym p) is)

pub same-table : (g : LineSource) (start : ℕ) (t : LineTable) (h : LineHeader) → IsLineTable g start t → Some h ≡ line_header g.order g.bytes start
    → t ≡ table_with g h t.dirs t.files t.defined
same-table g start t h is e =
    let same : is.header ≡ h = header-once is.header h (line_header g.order g.bytes start) is.header_is (sym e) in
    by_parts is.dirs is.files is.defined (is.is ∙ ap (λ (x : LineHeader). table_with g x is.dirs is.files is.defined) same)
  where
    by_parts : (ds : List TextPlace) (fs es : List FilePlace) → t ≡ table_with g h ds fs es → t ≡ table_with g h t.dirs t.files t.defined
    by_parts ds fs es q =
        q ∙ ap (λ (x : List TextPlace). table_with g h x fs es) (sym (ap (λ (x : LineTable). x.dirs) q))
        ∙ ap (λ (x : List FilePlace). table_with g h t.dirs x es) (sym (ap (λ (x : LineTable). x.files) q))
        ∙ ap (λ (x : List FilePlace). table_with g h t.dirs t.files x) (sym (ap (λ (x : LineTable). x.defined) q))

-- and the files that it defines are those that its program does
pub same-defined : (v : View) (section start : ℕ) (t : LineTable) (h : LineHeader) (files : List FilePlace) → IsLineTable (view_source v t.section) t.start t → section ≡ t.section
    → start ≡ t.start → files ≡ t.defined → Some h ≡ line_header v.order (section_bytes v section) start
    → ComesTo (next_opcode section h (table_bytes (view_source v section) h)) ([], h.program) files
same-defined v section start t h files own s p d e =
    let is = table-here v section start t own s p in
    let same : is.header ≡ h = header-once is.header h (line_header v.order (section_bytes v section) start) is.header_is (sym e) in
    let all : is.defined ≡ files = sym (ap (λ (x : LineTable). x.defined) is.is) ∙ sym d in
    subst (λ (x : List FilePlace). ComesTo (next_opcode section h (table_bytes (view_source v section) h)) ([], h.program) x) all
    (subst (λ (x : LineHeader). ComesTo (next_opcode section x (table_bytes (view_source v section) x)) ([], x.program) is.defined) same is.program)

width-is : (g : LineSource) (h : LineHeader) (dirs : List TextPlace) (files defined : List FilePlace) (t : LineTable) → t ≡ table_with g h dirs files defined → h.width ≡ t.width
width-is g h dirs files defined t e = sym (ap (λ (x : LineTable). x.width) e)

-- the offsets of its texts lie in the section
pub texts-room : (g : LineSource) (start : ℕ) (t : LineTable) (h : LineHeader) (xs : List LineText) → IsLineTable g start t
    → t ≡ table_with g h t.dirs t.files t.defined → xs ≡ t.texts → AllHaveRoom g.number h.width (length g.bytes) xs
texts-room g start t h xs is e p =
    subst (AllHaveRoom g.number h.width (length g.bytes)) (sym p)
    (subst (λ (w : Width). AllHaveRoom g.number w (length g.bytes) t.texts) (sym (width-is g h t.dirs t.files t.defined t e)) (table-room g start t is))

-- its parts
pub lists-are : (g : LineSource) (m : PathMap) (places : LineText → Option ℕ) (h : LineHeader) (dirs : List TextPlace) (files defined : List FilePlace) (t : LineTable) (xs : List LineText)
    (lists : List ℕ) → t ≡ table_with g h dirs files defined → xs ≡ t.texts
    → lists ≡ changed g.bytes (behind_lengths h.start h.width h.version) h.program (texts_changes g m places h.width xs) → lists ≡ header_by_texts g m places t
unfolding header_by_texts
lists-are g m places h dirs files defined t xs lists e p l =
    l ∙ ap (λ (ys : List LineText). changed g.bytes (behind_lengths h.start h.width h.version) h.program (texts_changes g m places h.width ys)) p
    ∙ sym (ap (λ (x : LineTable). changed g.bytes (behind_lengths x.start x.width x.version) x.program (texts_changes g m places x.width t.texts)) e)

pub front-is : (g : LineSource) (m : PathMap) (places : LineText → Option ℕ) (h : LineHeader) (dirs : List TextPlace) (files defined : List FilePlace) (t : LineTable) (lists front : List ℕ)
    → t ≡ table_with g h dirs files defined → lists ≡ header_by_texts g m places t → front ≡ with_header_length g (table_made g.number h [] [] [] []) lists
    → front ≡ front_by_texts g m places t
front-is g m places h dirs files defined t lists front e l f =
    f ∙ subst (λ (x : LineTable). with_header_length g (table_made g.number h [] [] [] []) lists ≡ with_header_length g x lists) (sym e) refl
    ∙ ap (with_header_length g t) l

rest-is : (g : LineSource) (m : PathMap) (places : LineText → Option ℕ) (h : LineHeader) (dirs : List TextPlace) (files defined : List FilePlace) (t : LineTable) (front : List ℕ)
    → t ≡ table_with g h dirs files defined → front ≡ front_by_texts g m places t → with_program g (table_made g.number h [] [] [] []) front ≡ rest_by_texts g m places t
rest-is g m places h dirs files defined t front e f =
    subst (λ (x : LineTable). with_program g (table_made g.number h [] [] [] []) front ≡ with_program g x front) (sym e) refl ∙ ap (with_program g t) f

pub table-is : (g : LineSource) (m : PathMap) (places : LineText → Option ℕ) (h : LineHeader) (dirs : List TextPlace) (files defined : List FilePlace) (t : LineTable) (front bytes : List ℕ)
    → t ≡ table_with g h dirs files defined → front ≡ front_by_texts g m places t
    → bytes ≡ length_bytes g.order h.width (length (with_program g (table_made g.number h [] [] [] []) front)) ++ with_program g (table_made g.number h [] [] [] []) front
    → bytes ≡ table_by_texts g m places t
unfolding table_by_texts
table-is g m places h dirs files defined t front bytes e f b =
    b ∙ ap (λ (xs : List ℕ). length_bytes g.order h.width (length xs) ++ xs) (rest-is g m places h dirs files defined t front e f)
    ∙ ap (λ (x : Width). length_bytes g.order x (length (rest_by_texts g m places t)) ++ rest_by_texts g m places t) (width-is g h dirs files defined t e)

pub program-is : (g : LineSource) (m : PathMap) (places : LineText → Option ℕ) (h : LineHeader) (dirs : List TextPlace) (files defined : List FilePlace) (t : LineTable) (front : List ℕ) (p : ℕ)
    → t ≡ table_with g h dirs files defined → front ≡ front_by_texts g m places t → p ≡ length_size h.width + length front → p ≡ program_by_texts g m places t
unfolding program_by_texts
program-is g m places h dirs files defined t front p e f b =
    b ∙ ap (λ (xs : List ℕ). length_size h.width + length xs) f
    ∙ ap (λ (x : Width). length_size x + length (front_by_texts g m places t)) (width-is g h dirs files defined t e)

-- what refuses it
pub wide-fails : (g : LineSource) (m : PathMap) (places : LineText → Option ℕ) (h : LineHeader) (dirs : List TextPlace) (files defined : List FilePlace) (t : LineTable) (front : List ℕ) (f : Fault)
    → t ≡ table_with g h dirs files defined → front ≡ front_by_texts g m places t
    → Blames (Since (at TooWide g.number (length_field h.start h.width)) (length_limit h.width ≤ length (with_program g (table_made g.number h [] [] [] []) front))) f
    → Blames (TextWriteFails g m places t) f
wide-fails g m places h dirs files defined t front NoMemory e f b = tt
wide-fails g m places h dirs files defined t front (Refused r) e f b =
    let rest = rest-is g m places h dirs files defined t front e f in
    let far : length_limit t.width ≤ length (rest_by_texts g m places t) =
    subst (λ (x : Width). length_limit x ≤ length (rest_by_texts g m places t)) (width-is g h dirs files defined t e)
    (subst (λ (xs : List ℕ). length_limit h.width ≤ length xs) rest b.why) in
    let place : r ≡ at TooWide g.number (length_field t.start t.width) = b.same ∙ sym (ap (λ (x : LineTable). at TooWide g.number (length_field x.start x.width)) e) in
    rw place (text_table far)

pub offset-fails : (g : LineSource) (m : PathMap) (places : LineText → Option ℕ) (h : LineHeader) (dirs : List TextPlace) (files defined : List FilePlace) (t : LineTable) (xs : List LineText)
    (r : Refusal) → t ≡ table_with g h dirs files defined → xs ≡ t.texts → WideText g.number h.width places xs r → TextWriteFails g m places t r
offset-fails g m places h dirs files defined t xs r e p w =
    text_offset (subst (λ (ys : List LineText). WideText g.number t.width places ys r) p
    (subst (λ (w_ : Width). WideText g.number w_ places xs r) (width-is g h dirs files defined t e) w))

-- what refuses a table of a section refuses it in its own
pub own-fails : (v : View) (m : PathMap) (places : LineText → Option ℕ) (section : ℕ) (t : LineTable) (f : Fault) → section ≡ t.section
    → Blames (TextWriteFails (view_source v section) m places t) f → Blames (TextWriteFails (view_source v t.section) m places t) f
own-fails v m places section t f s b = subst (λ (n : ℕ). Blames (TextWriteFails (view_source v n) m places t) f) s b

pub program-fails : (v : View) (m : PathMap) (places : LineText → Option ℕ) (s start : ℕ) (h : LineHeader) (t : LineTable) (f : Fault) → s ≡ t.section → start ≡ t.start
    → Some h ≡ line_header v.order (section_bytes v s) start → Blames (ProgramFails m s h (table_bytes (view_source v s) h)) f
    → Blames (TextWriteFails (view_source v t.section) m places t) f
program-fails v m places s start h t NoMemory is p e b = tt
program-fails v m places s start h t (Refused r) is p e b =
    own-fails v m places s t (Refused r) is (text_program h (sym (e ∙ ap (λ (x : ℕ). line_header v.order (section_bytes v s) x) p)) b)

-- one excludes the other
limit-below : (width : Width) → length_limit width ≤ 256 ^ width_size width
limit-below W32 = omega arith
limit-below W64 = omega arith

fit-excludes : (s : ℕ) (width : Width) (places : LineText → Option ℕ) (xs : List LineText) (r : Refusal) → OffsetsFit s width places xs → WideText s width places xs r → ⊥
fit-excludes s width places xs r fit (wide_text x place c other p far) =
    let fits : offset_fits s width (places x) x.place ≡ true =
    subst (λ (y : LineText). offset_fits s width (places y) y.place ≡ true) c.2 (fit c.0 x c.1) in
    by_test (x.place.section == s) refl (subst (λ (o : Option ℕ). offset_fits s width o x.place ≡ true) p fits)
  where
    by_test : (same : Bool) → (x.place.section == s) ≡ same → (if same then true else nat_lt place (256 ^ width_size width)) ≡ true → ⊥
    by_test true e h = other (grind (arith, nat_tests))
    by_test false e h = grind (arith, nat_tests)

pub write-excludes : (g : LineSource) (m : PathMap) (places : LineText → Option ℕ) (start : ℕ) (h : LineHeader) (dirs : List TextPlace) (files defined : List FilePlace) (t : LineTable)
    (xs : List LineText) (lists front : List ℕ) (r : Refusal) → t ≡ table_with g h dirs files defined → start ≡ t.start → Some h ≡ line_header g.order g.bytes start
    → xs ≡ t.texts → lists ≡ header_by_texts g m places t → front ≡ front_by_texts g m places t
    → ((q : Refusal) → ProgramFails m g.number h (table_bytes g h) q → ⊥) → OffsetsFit g.number h.width places xs
    → length (with_program g (table_made g.number h [] [] [] []) front) < length_limit h.width → TextWriteFails g m places t r → ⊥
write-excludes g m places start h dirs files defined t xs lists front r e ps he p l f none fit lt (text_table far) =
    let rest = ap length (rest-is g m places h dirs files defined t front e f) in
    let far : length_limit h.width ≤ length (rest_by_texts g m places t) =
    subst (λ (x : Width). length_limit x ≤ length (rest_by_texts g m places t)) (sym (width-is g h dirs files defined t e)) far in
    absurd (omega (arith, rest, far, lt))
write-excludes g m places start h dirs files defined t xs lists front r e ps he p l f none fit lt (text_header far) =
    let rest = ap length (rest-is g m places h dirs files defined t front e f) in
    let far : 256 ^ width_size h.width ≤ length (header_by_texts g m places t) =
    subst (λ (x : Width). 256 ^ width_size x ≤ length (header_by_texts g m places t)) (sym (width-is g h dirs files defined t e)) far in
    let limit = limit-below h.width in
    let inside = header-inside t (header_by_texts g m places t) in
    absurd (omega (arith, rest, far, lt, limit, inside))
  where
    header-inside : (t : LineTable) (xs : List ℕ) → length xs ≤ length (with_program g t (with_header_length g t xs))
    header-inside t xs =
        omega (
          arith,
          length-append (with_header_length g t xs) (part g.bytes t.program t.end),
          length-append (part g.bytes (t.start + length_size t.width) (header_length_place t.start t.width t.version))
              (number_bytes g.order (width_size t.width) (length xs) ++ xs),
          length-append (number_bytes g.order (width_size t.width) (length xs)) xs,
        )
write-excludes g m places start h dirs files defined t xs lists front r e ps he p l f none fit lt (text_offset w) =
    fit-excludes g.number h.width places xs r fit
    (subst (λ (ys : List LineText). WideText g.number h.width places ys r) (sym p)
    (subst (λ (w_ : Width). WideText g.number w_ places t.texts r) (sym (width-is g h dirs files defined t e)) w))
write-excludes g m places start h dirs files defined t xs lists front r e ps he p l f none fit lt (text_program k ke b) =
    let here : line_header g.order g.bytes t.start ≡ Some h = sym (he ∙ ap (λ (x : ℕ). line_header g.order g.bytes x) ps) in
    let same : k ≡ h = header-once k h (line_header g.order g.bytes t.start) ke here in
    none r (subst (λ (x : LineHeader). ProgramFails m g.number x (table_bytes g x) r) same b)

pub ruleset write_laws = (table-there, program-fails, same-defined)
