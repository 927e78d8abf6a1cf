-- Of the sections whose fields are set where they stand: what holds of all holds of each kind, and what is made of each kind is made of all.
use Rattle.std.proofs.Common.{Bool, ◌≡◌, ℕ, ◌+◌, List, [], ◌∷◌, ◌++◌, length, Option, sym, ap, ◌∙◌, subst, arith, append_assoc}
use Rattle.std.proofs.lemmas.List.{get_or_append_left, get_or-append-add, length-append}
use Rattle.dw_base.specs.FileViews.{View}
use Rattle.dw_base.specs.Paths.{PathMap}
use Rattle.dw_base.specs.Refusals.{Blames}
use Rattle.dw_base.specs.declared.fault.Fault.{Fault}
use Rattle.dw_base.specs.declared.fault.Fault.TheVariants.{NoMemory, Refused}
use Rattle.dw_base.specs.declared.fault.Refusal.{Refusal}
use Rattle.dw_meaning.specs.DataOutput.{Body}
use Rattle.dw_read.specs.AllFields.{Fields, standing}
use Rattle.dw_unit_fields.specs.SectionFields.{SectionFields}
use Rattle.dw_unit_fields.specs.ViewFields.{AllHaveOffsets, AllHavePlaces, AllRoomsFit}
use Rattle.dw_rewrite.specs.NewOffsets.{records_known}
use Rattle.dw_rewrite.specs.OffsetAddends.{AllMake, AllMiss, one_section}
use Rattle.dw_rewrite.proofs.HeldRecordLaws.{records-append}
use Rattle.dw_rewrite.proofs.SectionMakeLaws.{offsets-parts, places-parts}

-- offsets of each kind
pub units-offsets : (v : View) (us : Fields) (xs : List SectionFields) → xs ≡ us.units → AllHaveOffsets v (standing us) → AllHaveOffsets v xs
units-offsets v us xs is h = subst (AllHaveOffsets v) (sym is) (offsets-parts v us.units us.slots (offsets-parts v (us.units ++ us.slots) us.macros (offsets-parts v ((us.units ++ us.slots) ++ us.macros) us.names h).0).0).0

pub slots-offsets : (v : View) (us : Fields) (xs : List SectionFields) → xs ≡ us.slots → AllHaveOffsets v (standing us) → AllHaveOffsets v xs
slots-offsets v us xs is h = subst (AllHaveOffsets v) (sym is) (offsets-parts v us.units us.slots (offsets-parts v (us.units ++ us.slots) us.macros (offsets-parts v ((us.units ++ us.slots) ++ us.macros) us.names h).0).0).1

pub macros-offsets : (v : View) (us : Fields) (xs : List SectionFields) → xs ≡ us.macros → AllHaveOffsets v (standing us) → AllHaveOffsets v xs
macros-offsets v us xs is h = subst (AllHaveOffsets v) (sym is) (offsets-parts v (us.units ++ us.slots) us.macros (offsets-parts v ((us.units ++ us.slots) ++ us.macros) us.names h).0).1

pub names-offsets : (v : View) (us : Fields) (xs : List SectionFields) → xs ≡ us.names → AllHaveOffsets v (standing us) → AllHaveOffsets v xs
names-offsets v us xs is h = subst (AllHaveOffsets v) (sym is) (offsets-parts v ((us.units ++ us.slots) ++ us.macros) us.names h).1

-- places
pub units-places : (v : View) (us : Fields) (xs : List SectionFields) → xs ≡ us.units → AllHavePlaces v (standing us) → AllHavePlaces v xs
units-places v us xs is h = subst (AllHavePlaces v) (sym is) (places-parts v us.units us.slots (places-parts v (us.units ++ us.slots) us.macros (places-parts v ((us.units ++ us.slots) ++ us.macros) us.names h).0).0).0

pub slots-places : (v : View) (us : Fields) (xs : List SectionFields) → xs ≡ us.slots → AllHavePlaces v (standing us) → AllHavePlaces v xs
slots-places v us xs is h = subst (AllHavePlaces v) (sym is) (places-parts v us.units us.slots (places-parts v (us.units ++ us.slots) us.macros (places-parts v ((us.units ++ us.slots) ++ us.macros) us.names h).0).0).1

pub macros-places : (v : View) (us : Fields) (xs : List SectionFields) → xs ≡ us.macros → AllHavePlaces v (standing us) → AllHavePlaces v xs
macros-places v us xs is h = subst (AllHavePlaces v) (sym is) (places-parts v (us.units ++ us.slots) us.macros (places-parts v ((us.units ++ us.slots) ++ us.macros) us.names h).0).1

pub names-places : (v : View) (us : Fields) (xs : List SectionFields) → xs ≡ us.names → AllHavePlaces v (standing us) → AllHavePlaces v xs
names-places v us xs is h = subst (AllHavePlaces v) (sym is) (places-parts v ((us.units ++ us.slots) ++ us.macros) us.names h).1

-- rooms
rooms-parts : (m : PathMap) (v : View) (xs ys : List SectionFields) → AllRoomsFit m v (xs ++ ys) → AllRoomsFit m v xs × AllRoomsFit m v ys
rooms-parts m v [] ys h = (tt, h)
rooms-parts m v (x ∷ xs) ys h = let rest = rooms-parts m v xs ys h.1 in ((h.0, rest.0), rest.1)

pub units-rooms : (m : PathMap) (v : View) (us : Fields) (xs : List SectionFields) → xs ≡ us.units → AllRoomsFit m v (standing us) → AllRoomsFit m v xs
units-rooms m v us xs is h = subst (AllRoomsFit m v) (sym is) (rooms-parts m v us.units us.slots (rooms-parts m v (us.units ++ us.slots) us.macros (rooms-parts m v ((us.units ++ us.slots) ++ us.macros) us.names h).0).0).0

pub slots-rooms : (m : PathMap) (v : View) (us : Fields) (xs : List SectionFields) → xs ≡ us.slots → AllRoomsFit m v (standing us) → AllRoomsFit m v xs
slots-rooms m v us xs is h = subst (AllRoomsFit m v) (sym is) (rooms-parts m v us.units us.slots (rooms-parts m v (us.units ++ us.slots) us.macros (rooms-parts m v ((us.units ++ us.slots) ++ us.macros) us.names h).0).0).1

pub macros-rooms : (m : PathMap) (v : View) (us : Fields) (xs : List SectionFields) → xs ≡ us.macros → AllRoomsFit m v (standing us) → AllRoomsFit m v xs
macros-rooms m v us xs is h = subst (AllRoomsFit m v) (sym is) (rooms-parts m v (us.units ++ us.slots) us.macros (rooms-parts m v ((us.units ++ us.slots) ++ us.macros) us.names h).0).1

pub names-rooms : (m : PathMap) (v : View) (us : Fields) (xs : List SectionFields) → xs ≡ us.names → AllRoomsFit m v (standing us) → AllRoomsFit m v xs
names-rooms m v us xs is h = subst (AllRoomsFit m v) (sym is) (rooms-parts m v ((us.units ++ us.slots) ++ us.macros) us.names h).1

pub ruleset part_rules = (units-offsets, slots-offsets, macros-offsets, names-offsets, units-places, slots-places, macros-places, names-places, units-rooms, slots-rooms, macros-rooms, names-rooms)

-- the sections that hold relocations of each kind are those of all
front-pushed : (b : List ℕ) (v : View) (ks kl kt : Bool → ℕ → Option ℕ) (us : Fields) (xs ys zs : List SectionFields) (old one two three : List Body) → xs ≡ us.units → ys ≡ us.slots
    → zs ≡ us.macros → one ≡ old ++ records_known b v ks kl kt xs → two ≡ one ++ records_known b v ks kl kt ys → three ≡ two ++ records_known b v ks kl kt zs
    → three ≡ old ++ records_known b v ks kl kt ((us.units ++ us.slots) ++ us.macros)
front-pushed b v ks kl kt us xs ys zs old one two three units_are slots_are macros_are x y z =
    let us_ : List Body = records_known b v ks kl kt us.units in
    let ss : List Body = records_known b v ks kl kt us.slots in
    let ms : List Body = records_known b v ks kl kt us.macros in
    let first : one ≡ old ++ records_known b v ks kl kt us.units = x ∙ ap (λ (ws : List SectionFields). old ++ records_known b v ks kl kt ws) units_are in
    let second : two ≡ one ++ records_known b v ks kl kt us.slots = y ∙ ap (λ (ws : List SectionFields). one ++ records_known b v ks kl kt ws) slots_are in
    let third : three ≡ two ++ records_known b v ks kl kt us.macros = z ∙ ap (λ (ws : List SectionFields). two ++ records_known b v ks kl kt ws) macros_are in
    third ∙ ap (λ (bs : List Body). bs ++ ms) (second ∙ ap (λ (bs : List Body). bs ++ ss) first)
    ∙ ap (λ (bs : List Body). bs ++ ms) (append_assoc old us_ ss) ∙ append_assoc old (us_ ++ ss) ms
    ∙ ap (λ (bs : List Body). old ++ bs) (ap (λ (bs : List Body). bs ++ ms) (sym (records-append b v ks kl kt us.units us.slots))
    ∙ sym (records-append b v ks kl kt (us.units ++ us.slots) us.macros))

pub standing-pushed : (b : List ℕ) (v : View) (ks kl kt : Bool → ℕ → Option ℕ) (us : Fields) (xs ys zs ws : List SectionFields) (old one two three four : List Body) → xs ≡ us.units
    → ys ≡ us.slots → zs ≡ us.macros → ws ≡ us.names → one ≡ old ++ records_known b v ks kl kt xs → two ≡ one ++ records_known b v ks kl kt ys
    → three ≡ two ++ records_known b v ks kl kt zs → four ≡ three ++ records_known b v ks kl kt ws → four ≡ old ++ records_known b v ks kl kt (standing us)
standing-pushed b v ks kl kt us xs ys zs ws old one two three four units_are slots_are macros_are names_are x y z w =
    let ns : List Body = records_known b v ks kl kt us.names in
    let last : four ≡ three ++ records_known b v ks kl kt us.names = w ∙ ap (λ (ss : List SectionFields). three ++ records_known b v ks kl kt ss) names_are in
    last ∙ ap (λ (bs : List Body). bs ++ ns) (front-pushed b v ks kl kt us xs ys zs old one two three units_are slots_are macros_are x y z)
    ∙ append_assoc old (records_known b v ks kl kt ((us.units ++ us.slots) ++ us.macros)) ns
    ∙ ap (λ (bs : List Body). old ++ bs) (sym (records-append b v ks kl kt ((us.units ++ us.slots) ++ us.macros) us.names))

-- so do their addends make the offsets,
make-append : (v : View) (ks kl kt : Bool → ℕ → Option ℕ) (xs ys : List SectionFields) → AllMake v ks kl kt xs → AllMake v ks kl kt ys → AllMake v ks kl kt (xs ++ ys)
make-append v ks kl kt [] ys h k = k
make-append v ks kl kt (x ∷ xs) ys h k = (h.0, make-append v ks kl kt xs ys h.1 k)

pub standing-make : (v : View) (ks kl kt : Bool → ℕ → Option ℕ) (us : Fields) (xs ys zs ws : List SectionFields) → xs ≡ us.units → ys ≡ us.slots → zs ≡ us.macros → ws ≡ us.names
    → AllMake v ks kl kt xs → AllMake v ks kl kt ys → AllMake v ks kl kt zs → AllMake v ks kl kt ws → AllMake v ks kl kt (standing us)
standing-make v ks kl kt us xs ys zs ws units_are slots_are macros_are names_are x y z w =
    make-append v ks kl kt ((us.units ++ us.slots) ++ us.macros) us.names
    (make-append v ks kl kt (us.units ++ us.slots) us.macros
    (make-append v ks kl kt us.units us.slots (subst (AllMake v ks kl kt) units_are x) (subst (AllMake v ks kl kt) slots_are y)) (subst (AllMake v ks kl kt) macros_are z))
    (subst (AllMake v ks kl kt) names_are w)

-- and one that doesn't is one of all
miss-left : (v : View) (ks kl kt : Bool → ℕ → Option ℕ) (xs ys : List SectionFields) (r : Refusal) → AllMiss v ks kl kt xs r → AllMiss v ks kl kt (xs ++ ys) r
miss-left v ks kl kt xs ys r (one_section i u lt is h) = one_section i u (omega (arith, lt, length-append xs ys)) (is ∙ sym (get_or_append_left xs ys u i lt)) h

miss-right : (v : View) (ks kl kt : Bool → ℕ → Option ℕ) (xs ys : List SectionFields) (r : Refusal) → AllMiss v ks kl kt ys r → AllMiss v ks kl kt (xs ++ ys) r
miss-right v ks kl kt xs ys r (one_section i u lt is h) =
    one_section (length xs + i) u (omega (arith, lt, length-append xs ys)) (is ∙ sym (get_or-append-add xs ys i u)) h

pub units-fault : (v : View) (ks kl kt : Bool → ℕ → Option ℕ) (us : Fields) (xs : List SectionFields) (f : Fault) → xs ≡ us.units → Blames (AllMiss v ks kl kt xs) f
    → Blames (AllMiss v ks kl kt (standing us)) f
units-fault v ks kl kt us xs NoMemory is h = tt
units-fault v ks kl kt us xs (Refused r) is h =
    miss-left v ks kl kt ((us.units ++ us.slots) ++ us.macros) us.names r
    (miss-left v ks kl kt (us.units ++ us.slots) us.macros r (miss-left v ks kl kt us.units us.slots r (subst (λ (ws : List SectionFields). AllMiss v ks kl kt ws r) is h)))

pub slots-fault : (v : View) (ks kl kt : Bool → ℕ → Option ℕ) (us : Fields) (xs : List SectionFields) (f : Fault) → xs ≡ us.slots → Blames (AllMiss v ks kl kt xs) f
    → Blames (AllMiss v ks kl kt (standing us)) f
slots-fault v ks kl kt us xs NoMemory is h = tt
slots-fault v ks kl kt us xs (Refused r) is h =
    miss-left v ks kl kt ((us.units ++ us.slots) ++ us.macros) us.names r
    (miss-left v ks kl kt (us.units ++ us.slots) us.macros r (miss-right v ks kl kt us.units us.slots r (subst (λ (ws : List SectionFields). AllMiss v ks kl kt ws r) is h)))

pub macros-fault : (v : View) (ks kl kt : Bool → ℕ → Option ℕ) (us : Fields) (xs : List SectionFields) (f : Fault) → xs ≡ us.macros → Blames (AllMiss v ks kl kt xs) f
    → Blames (AllMiss v ks kl kt (standing us)) f
macros-fault v ks kl kt us xs NoMemory is h = tt
macros-fault v ks kl kt us xs (Refused r) is h =
    miss-left v ks kl kt ((us.units ++ us.slots) ++ us.macros) us.names r
    (miss-right v ks kl kt (us.units ++ us.slots) us.macros r (subst (λ (ws : List SectionFields). AllMiss v ks kl kt ws r) is h))

pub names-fault : (v : View) (ks kl kt : Bool → ℕ → Option ℕ) (us : Fields) (xs : List SectionFields) (f : Fault) → xs ≡ us.names → Blames (AllMiss v ks kl kt xs) f
    → Blames (AllMiss v ks kl kt (standing us)) f
names-fault v ks kl kt us xs NoMemory is h = tt
names-fault v ks kl kt us xs (Refused r) is h =
    miss-right v ks kl kt ((us.units ++ us.slots) ++ us.macros) us.names r (subst (λ (ws : List SectionFields). AllMiss v ks kl kt ws r) is h)
