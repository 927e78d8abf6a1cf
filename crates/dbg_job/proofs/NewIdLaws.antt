-- A new build-id in the output of a file: its bytes belong to nothing else there, so the output means what it meant, and what is loaded of
-- it is as it was.
use Rattle.std.proofs.Common.{Bool, true, false, ◌≡◌, ◌≢◌, ◌⊎◌, inl, inr, ℕ, zero, suc, ◌+◌, ◌-◌, ◌*◌, ◌/◌, ◌<◌, ◌≤◌, List, ◌++◌, length, take, drop, Option, Some, None, sym, ap, ◌∙◌, refl, subst, arith}
use Rattle.std.proofs.lemmas.Bool.{cases_lt}
use Rattle.std.proofs.lemmas.List.{get_or-append-add, get_or-drop, get_or-take, get_or_append_left, length-append, length-drop, length-take-le}
use Rattle.std.specs.Prelude.{slice_index}
use Rattle.dw_base.specs.Elf.{class_of, contents_of, e_phnum, e_phoff, e_shoff, ehdr_size, is_empty_kind, nth_section, order_of, phdr_size, section_count}
use Rattle.dw_base.specs.ElfFails.{ElfReads}
use Rattle.std.specs.Int.{w32, to_be_bytes}
use Rattle.sha1.specs.Sha1.{digest_bytes, hash_after, padded_message, sha1}
use Rattle.dw_base.specs.Notes.{Descriptor, id_in, zeroed}
use Rattle.dw_base.specs.Paths.{PathMap}
use Rattle.dw_base.specs.ViewData.{mapped}
use Rattle.dw_base.specs.declared.records.Section.{Section}
use Rattle.dw_meaning.specs.FileMeanings.{MeaningKept, file_data}
use Rattle.dw_meaning.specs.Leavings.{NoLeavings}
use Rattle.dw_meaning.specs.Loaded.{LoadedKept}
use Rattle.dw_meaning.proofs.DataOneLaws.{means-one}
use Rattle.build_ident.specs.IdFails.{IsId, IsOwn, id_place, id_section, overlap, shares}
use Rattle.build_ident.specs.IdFails.IdFails.{unfit, header, segments, section}
use Rattle.build_ident.specs.Ids.{id_of, with_id}
use Rattle.build_ident.proofs.IdLaws.{own-excludes}
use Rattle.dbg_job.specs.NewIds.{IdFits, new_id_in, with_new_id}
use Rattle.dbg_job.proofs.IdKeptLaws.{IdLies, IsLaid, id-lies, kind-same, laid-is}
use Rattle.dbg_job.proofs.IdPlaceLaws.{id-is, no-id}
use Rattle.dbg_job.proofs.OtherIdLaws.{DiffersAt, IdApart, OtherId, Outside, class-new, count-new, phnum-new, phoff-new, section-new}
use Rattle.dbg_job.proofs.OtherIdLoadedLaws.{loaded-new}
use Rattle.dbg_job.proofs.OtherIdMeaningLaws.{data-same, id-new, means-same}
use Rattle.dbg_job.specs.EditedFiles.{IsMapped}
use Rattle.dbg_job.proofs.OutputLaws.{output-back}
use Rattle.dbg_job.proofs.PlaceLaws.{before-headers}

never : (t : Bool) → (t ≡ true → ⊥) → t ≡ false
never true other = absurd (other refl)
never false other = refl

-- ### Nothing else has the bytes of an id with which nothing is wrong

pub own-is : (b : List ℕ) (i : ℕ) (d : Descriptor) → IdFits b → IsId b i d → IsOwn b i d
own-is b i d fits is = record {
  header = by_header (cases_lt (id_place b i d) (ehdr_size (class_of b)));
  segments = λ some. never (overlap (id_place b i d) d.size (e_phoff b) (e_phnum b * phdr_size (class_of b))) (λ over. fits.none _ (segments i d is some over));
  sections = λ j lt other. never (shares b i d j) (λ shared. fits.none _ (section i d j is (record { within = lt; other = other; shares = shared })));
}
  where
    by_header : (id_place b i d < ehdr_size (class_of b)) ⊎ (ehdr_size (class_of b) ≤ id_place b i d) → ehdr_size (class_of b) ≤ id_place b i d
    by_header (inl below) = absurd (fits.none _ (header i d is below))
    by_header (inr behind) = behind

-- a file with whose build-id nothing is wrong has none, or one
pub data HasId (b : List ℕ) : Type 0 where
  without : id_section b ≡ None → HasId b
  with : (i : ℕ) (d : Descriptor) → IsId b i d → HasId b

pub has-id : (b : List ℕ) → IdFits b → HasId b
has-id b fits = by_section (id_section b) refl
  where
    by_note : (i : ℕ) → id_section b ≡ Some i → (o : Option Descriptor) → id_in (order_of b) (contents_of b i) ≡ o → HasId b
    by_note i there None none = absurd (fits.none _ (unfit i there none))
    by_note i there (Some d) is = with i d (record { section = there; descriptor = is })

    by_section : (o : Option ℕ) → id_section b ≡ o → HasId b
    by_section None none = without none
    by_section (Some i) there = by_note i there (id_in (order_of b) (contents_of b i)) refl

-- ### In the output of a file it lies before the section headers

id-before : (m : PathMap) (b out : List ℕ) (l : IsLaid m b out) (i : ℕ) (d : Descriptor) → IdLies out i d → id_place out i d + d.size ≤ e_shoff out
id-before m b out l i d lies =
    let lt : i < section_count b = rw l.back.back.count at lies.within in
    let full : is_empty_kind (nth_section b i) ≡ false = sym (kind-same b out l.bodies i l.back lt) ∙ lies.full in
    let some : (nth_section out i).size ≢ 0 = λ none. omega (arith, none, lies.ends, lies.some) in
    let before : (nth_section out i).offset + (nth_section out i).size ≤ e_shoff out =
    subst (λ (x : List ℕ). (nth_section x i).size ≢ 0 → (nth_section x i).offset + (nth_section x i).size ≤ e_shoff x) (sym l.is)
    (before-headers b l.bodies i l.written lt full) some in
    omega (arith, before, lies.ends)

pub id-apart : (m : PathMap) (b out : List ℕ) (i : ℕ) (d : Descriptor) → IsMapped m b out → ElfReads out → IdFits out → IsId out i d → IdApart out i d
id-apart m b out i d w reads fits is =
    let lies = id-lies out i d is in
    let back = output-back m b out w in
    let some : section_count b ≢ 0 = λ none. omega (arith, none, lies.within, back.back.count) in
    record {
      reads = reads;
      is = is;
      own = own-is out i d fits is;
      lies = lies;
      table = id-before m b out (laid-is m b out w some) i d lies;
    }

-- ### The new id

pub id-within : (b : List ℕ) (i : ℕ) (d : Descriptor) → ElfReads b → IdLies b i d → id_place b i d + d.size ≤ length b
id-within b i d reads lies =
    let some : (nth_section b i).size ≢ 0 = λ none. omega (arith, none, lies.ends, lies.some) in
    omega (arith, (reads.debug.sections.all i lies.within).place.lies lies.full some, lies.ends)

id-inside : (b : List ℕ) (i : ℕ) (d : Descriptor) → IdApart b i d → id_place b i d + d.size ≤ length b
id-inside b i d w = id-within b i d w.reads w.lies

put-differs : (seed b : List ℕ) (at n : ℕ) → at + n ≤ length b → length (with_id seed b at n) ≡ length b → DiffersAt at n b (with_id seed b at n)
unfolding with_id
put-differs seed b at n inside long =
    let front = length-take-le at b (omega (arith, inside)) in
    let rest = length-drop (at + n) b in
    let one = length-append (take at b) (id_of seed b at n) in
    let two = length-append (take at b ++ id_of seed b at n) (drop (at + n) b) in
    let both : length (take at b ++ id_of seed b at n) ≡ at + n = omega (arith, front, rest, one, two, long, inside) in
    record { long = long; same = λ k out. by_place k out both }
  where
    by_place : (k : ℕ) → Outside at n k → length (take at b ++ id_of seed b at n) ≡ at + n → slice_index (take at b ++ id_of seed b at n ++ drop (at + n) b) k ≡ slice_index b k
    by_place k (inl before) both =
        let front = length-take-le at b (omega (arith, inside)) in
        get_or_append_left (take at b ++ id_of seed b at n) (drop (at + n) b) 0 k (omega (arith, before, both))
        ∙ get_or_append_left (take at b) (id_of seed b at n) 0 k (omega (arith, before, front))
        ∙ get_or-take at b k 0 before
    by_place k (inr behind) both =
        let split : k ≡ length (take at b ++ id_of seed b at n) + (k - (at + n)) = omega (arith, behind, both) in
        let back : at + n + (k - (at + n)) ≡ k = omega (arith, behind) in
        ap (λ (j : ℕ). slice_index (take at b ++ id_of seed b at n ++ drop (at + n) b) j) split
        ∙ get_or-append-add (take at b ++ id_of seed b at n) (drop (at + n) b) (k - (at + n)) 0
        ∙ get_or-drop (at + n) b (k - (at + n)) 0
        ∙ ap (λ (j : ℕ). slice_index b j) back

new-id-is : (seed b : List ℕ) (i : ℕ) (d : Descriptor) → IsId b i d → with_new_id seed b ≡ with_id seed b (id_place b i d) d.size
unfolding with_new_id
new-id-is seed b i d is = ap (new_id_in seed b) (id-is b i d is)

none-is : (seed b : List ℕ) → id_section b ≡ None → with_new_id seed b ≡ b
unfolding with_new_id
none-is seed b none = ap (new_id_in seed b) (no-id b none)

-- it is as long as the one before: a digest has 20 bytes (FIPS 180-4)
word-long : (n : ℕ) → length (to_be_bytes w32 n) ≡ 4
word-long n = refl

digest-long : (h : List ℕ) (n : ℕ) → length (digest_bytes h n) ≡ n * 4
unfolding digest_bytes
digest-long h zero = refl
digest-long h (suc n) =
    omega (arith, length-append (digest_bytes h n) (to_be_bytes w32 (slice_index h n)), digest-long h n, word-long (slice_index h n))

sha1-long : (xs : List ℕ) → length (sha1 xs) ≡ 20
unfolding sha1
sha1-long xs = digest-long (hash_after (padded_message xs) (length (padded_message xs) / 64)) 5

id-long : (seed b : List ℕ) (at n : ℕ) → n ≤ 20 → length (id_of seed b at n) ≡ n
unfolding id_of
id-long seed b at n wide =
    let whole = sha1-long (seed ++ zeroed (record { place = at; size = n }) b) in
    length-take-le n (sha1 (seed ++ zeroed (record { place = at; size = n }) b)) (omega (arith, whole, wide))

put-long : (seed b : List ℕ) (at n : ℕ) → at + n ≤ length b → n ≤ 20 → length (with_id seed b at n) ≡ length b
unfolding with_id
put-long seed b at n inside wide =
    omega (
      arith,
      length-append (take at b ++ id_of seed b at n) (drop (at + n) b),
      length-append (take at b) (id_of seed b at n),
      length-take-le at b (omega (arith, inside)),
      id-long seed b at n wide,
      length-drop (at + n) b,
      inside,
    )

pub new-long : (seed b : List ℕ) → ElfReads b → IdFits b → length (with_new_id seed b) ≡ length b
new-long seed b reads fits = by_id (has-id b fits)
  where
    by_id : HasId b → length (with_new_id seed b) ≡ length b
    by_id (without none) = ap length (none-is seed b none)
    by_id (with i d there) =
        let lies = id-lies b i d there in
        ap length (new-id-is seed b i d there) ∙ put-long seed b (id_place b i d) d.size (id-within b i d reads lies) lies.wide

-- the file with its new id is the file with other bytes in its place, or the file itself
pub data NewId (b new : List ℕ) : Type 0 where
  same : new ≡ b → NewId b new
  other : (i : ℕ) (d : Descriptor) → IdApart b i d → OtherId b new i d → NewId b new

pub new-id : (m : PathMap) (b out seed new : List ℕ) → IsMapped m b out → ElfReads out → IdFits out → new ≡ with_new_id seed out → length new ≡ length out → NewId out new
new-id m b out seed new w reads fits is long = by_id (has-id out fits)
  where
    by_id : HasId out → NewId out new
    by_id (without none) = same (is ∙ none-is seed out none)
    by_id (with i d there) =
        let apart = id-apart m b out i d w reads fits there in
        let made : new ≡ with_id seed out (id_place out i d) d.size = is ∙ new-id-is seed out i d there in
        other i d apart
        (subst (λ (x : List ℕ). DiffersAt (id_place out i d) d.size out x) (sym made)
        (put-differs seed out (id_place out i d) d.size (id-inside out i d apart) (subst (λ (x : List ℕ). length x ≡ length out) made long)))

-- so it means the same, and what is loaded is the same
pub meaning-new : (m : PathMap) (b out new : List ℕ) → NewId out new → MeaningKept m b out → MeaningKept m b new
meaning-new m b out new (same is) kept = subst (MeaningKept m b) (sym is) kept
meaning-new m b out new (other i d apart differs) kept = record {
  meaning = kept.meaning;
  old = kept.old;
  new = means-same out new i d (mapped m kept.meaning) apart differs kept.new;
  old_one = kept.old_one;
  new_one = λ x is. means-one new x (mapped m kept.meaning) is (means-same out new i d (mapped m kept.meaning) apart differs kept.new);
}

pub loaded-kept : (b out new : List ℕ) → NewId out new → LoadedKept b out → LoadedKept b new
loaded-kept b out new (same is) kept = subst (LoadedKept b) (sym is) kept
loaded-kept b out new (other i d apart differs) kept = record { same = loaded-new out new i d apart differs ∙ kept.same }

-- no text is left in it that none of its fields names, where none was
pub leavings-new : (out new : List ℕ) → NewId out new → NoLeavings (file_data out) → NoLeavings (file_data new)
leavings-new out new (same is) none = subst (λ (b : List ℕ). NoLeavings (file_data b)) (sym is) none
leavings-new out new (other i d apart differs) none = subst NoLeavings (sym (data-same out new i d apart differs)) none

-- and nothing is wrong with it
own-new : (b new : List ℕ) (i : ℕ) (d : Descriptor) → IdApart b i d → OtherId b new i d → IsOwn new i d
own-new b new i d w s =
    let place : id_place new i d ≡ id_place b i d = ap (λ (x : Section). x.offset + d.place) (section-new b new i d i w s) in
    record {
      header = rw (class-new b new i d w s, place) w.own.header;
      segments = λ some. rw (place, phoff-new b new i d w s, phnum-new b new i d w s, class-new b new i d w s) (w.own.segments (λ none. some (phnum-new b new i d w s ∙ none)));
      sections = λ j lt other. rw (section-new b new i d j w s, place) (w.own.sections j (rw (count-new b new i d w s) at lt) other);
    }

pub fits-new : (b new : List ℕ) → NewId b new → IdFits b → IdFits new
fits-new b new (same is) fits = subst IdFits (sym is) fits
fits-new b new (other i d apart differs) fits = record { none = own-excludes new i d (id-new b new i d apart differs) (own-new b new i d apart differs) }
