-- The place of the build-id of a file, as it is found and as it is defined.
use Rattle.std.proofs.Common.{◌≡◌, ℕ, ◌+◌, ◌≤◌, List, [], ◌++◌, length, replicate, take, drop, sym, ap, ◌∙◌, refl, arith}
use Rattle.std.specs.Prelude.{Some, None}
use Rattle.std.proofs.lemmas.List.{append_assoc, append-nil, drop_at, length-append, length-drop, length-replicate, length-take-le, take_at}
use Rattle.sha1.specs.Sha1.{sha1}
use Rattle.dw_base.specs.Notes.{BuildId, Descriptor, build_id_at, build_id_in, build_id_of, zeroed}
use Rattle.dw_base.specs.declared.fault.Refusal.{Refusal}
use Rattle.build_ident.specs.IdFails.{IdFails, IsId, IsIdPlace, id_section}
use Rattle.build_ident.specs.IdFails.IsIdPlace.{id}
use Rattle.build_ident.specs.Ids.{id_of, with_id}
use Rattle.elf_layout.specs.Patched.{put_at}
use Rattle.dbg_job.specs.NewIds.{IdFits, id_bytes, id_bytes_in, new_id_in, with_new_id}

-- nothing is wrong
pub fits-is : (b : List ℕ) → ((r : Refusal) → IdFails b r → ⊥) → IdFits b
fits-is b none = record { none = none }

pub ruleset fit_rules = (fits-is)

pub fits-none : (b : List ℕ) (r : Refusal) → IdFits b → IdFails b r → ⊥
fits-none b r fits fails = fits.none r fails

pub ruleset place_rules = (fits-none)

-- the build-id by its section
id-of : (b : List ℕ) → build_id_of b ≡ build_id_in b (id_section b)
unfolding build_id_of id_section
id-of b = refl

-- a file without a section for the note has none
pub no-id : (b : List ℕ) → id_section b ≡ None → build_id_of b ≡ None
no-id b none = id-of b ∙ ap (build_id_in b) none

-- and one with the note has that of the note
abbrev pub id_by : ℕ → Descriptor → BuildId
id_by i d = record { section = i; descriptor = d }

pub id-is : (b : List ℕ) (i : ℕ) (d : Descriptor) → IsId b i d → build_id_of b ≡ Some (id_by i d)
id-is b i d is = id-of b ∙ ap (build_id_in b) is.section ∙ ap (build_id_at i) is.descriptor

-- the file with its new id
pub no-new : (b seed : List ℕ) → id_section b ≡ None → b ≡ with_new_id seed b
unfolding with_new_id
no-new b seed none = sym (ap (new_id_in seed b) (no-id b none))

pub new-is : (b seed out : List ℕ) (at n : ℕ) → IsIdPlace b at n → out ≡ with_id seed b at n → out ≡ with_new_id seed b
unfolding with_new_id
new-is b seed out _ _ (id i d is own) made = made ∙ sym (ap (new_id_in seed b) (id-is b i d is))

pub ruleset new_id_rules = (no-new, new-is)

-- which is put into its pieces: first zeros, then the digest
pub zeros-put : (b zeros one : List ℕ) (at n : ℕ) → zeros ≡ replicate n 0 → one ≡ put_at at zeros b → one ≡ zeroed (record { place = at; size = n }) b
zeros-put b zeros one at n zeros_is is =
    is ∙ ap (λ (xs : List ℕ). put_at at xs b) zeros_is
    ∙ ap (λ (k : ℕ). take at b ++ replicate n 0 ++ drop (at + k) b) (length-replicate {A = ℕ} n 0)

zeros-front : (b : List ℕ) (at n : ℕ) → at + n ≤ length b → take at (zeroed (record { place = at; size = n }) b) ≡ take at b
zeros-front b at n inside =
    ap (take at) (append_assoc (take at b) (replicate n 0) (drop (at + n) b))
    ∙ take_at (take at b) (replicate n 0 ++ drop (at + n) b) at (length-take-le at b (omega (arith, inside)))

zeros-back : (b : List ℕ) (at n : ℕ) → at + n ≤ length b → drop (at + n) (zeroed (record { place = at; size = n }) b) ≡ drop (at + n) b
zeros-back b at n inside =
    drop_at (take at b ++ replicate n 0) (drop (at + n) b) (at + n)
    (omega (arith, length-append (take at b) (replicate n 0), length-take-le at b (omega (arith, inside)), length-replicate {A = ℕ} n 0))

pub zeros-long : (b zeros one : List ℕ) (at n : ℕ) → at + n ≤ length b → zeros ≡ replicate n 0 → one ≡ put_at at zeros b → length one ≡ length b
zeros-long b zeros one at n inside zeros_is is =
    let whole : one ≡ zeroed (record { place = at; size = n }) b = zeros-put b zeros one at n zeros_is is in
    omega (
      arith,
      ap length whole,
      length-append (take at b ++ replicate n 0) (drop (at + n) b),
      length-append (take at b) (replicate n 0),
      length-take-le at b (omega (arith, inside)),
      length-replicate {A = ℕ} n 0,
      length-drop (at + n) b,
      inside,
    )

digest-made : (seed b one digest own two : List ℕ) (at n : ℕ) → at + n ≤ length b → one ≡ zeroed (record { place = at; size = n }) b → digest ≡ sha1 (seed ++ one)
    → own ≡ take n digest → length own ≡ n → two ≡ put_at at own one → two ≡ with_id seed b at n
unfolding with_id id_of
digest-made seed b one digest own two at n inside whole digest_is own_is long is =
    is ∙ ap (λ (k : ℕ). take at one ++ own ++ drop (at + k) one) long
    ∙ ap (λ (xs : List ℕ). take at xs ++ own ++ drop (at + n) xs) whole
    ∙ ap (λ (xs : List ℕ). xs ++ own ++ drop (at + n) (zeroed (record { place = at; size = n }) b)) (zeros-front b at n inside)
    ∙ ap (λ (xs : List ℕ). take at b ++ own ++ xs) (zeros-back b at n inside)
    ∙ ap (λ (xs : List ℕ). take at b ++ xs ++ drop (at + n) b) (own_is ∙ ap (take n) (digest_is ∙ ap (λ (xs : List ℕ). sha1 (seed ++ xs)) whole))

pub digest-put : (seed b zeros one digest own two : List ℕ) (at n : ℕ) → IsIdPlace b at n → at + n ≤ length b → zeros ≡ replicate n 0 → one ≡ put_at at zeros b
    → digest ≡ sha1 (seed ++ one) → own ≡ take n digest → length own ≡ n → two ≡ put_at at own one → two ≡ with_new_id seed b
digest-put seed b zeros one digest own two at n place inside zeros_is one_is digest_is own_is long is =
    new-is b seed two at n place
    (digest-made seed b one digest own two at n inside (zeros-put b zeros one at n zeros_is one_is) digest_is own_is long is)

pub digest-long : (one own two : List ℕ) (at n : ℕ) → at + n ≤ length one → length own ≡ n → two ≡ put_at at own one → length two ≡ length one
digest-long one own two at n inside long is =
    omega (
      arith,
      ap length is,
      length-append (take at one ++ own) (drop (at + length own) one),
      length-append (take at one) own,
      length-take-le at one (omega (arith, inside)),
      length-drop (at + length own) one,
      long,
      inside,
    )

pub ruleset piece_rules = (zeros-long, digest-put, digest-long)

-- or into its bytes, which are one piece then
pub joined-is : (seed b bytes new pieces : List ℕ) → bytes ≡ b → new ≡ with_new_id seed bytes → pieces ≡ [] ++ (new ++ []) → pieces ≡ with_new_id seed b
joined-is seed b bytes new pieces same is made = made ∙ append-nil new ∙ is ∙ ap (with_new_id seed) same

pub joined-long : (b bytes new pieces : List ℕ) → bytes ≡ b → length new ≡ length bytes → pieces ≡ [] ++ (new ++ []) → length pieces ≡ length b
joined-long b bytes new pieces same long made = ap length (made ∙ append-nil new) ∙ long ∙ ap length same

pub ruleset joined_rules = (joined-is, joined-long)

-- its bytes
pub no-bytes : (b : List ℕ) → id_section b ≡ None → None ≡ id_bytes b
unfolding id_bytes
no-bytes b none = sym (ap (id_bytes_in b) (no-id b none))

pub bytes-are : (b xs : List ℕ) (at n : ℕ) → IsIdPlace b at n → xs ≡ take n (drop at b) → Some xs ≡ id_bytes b
unfolding id_bytes
bytes-are b xs _ _ (id i d is own) made = ap (λ (ys : List ℕ). Some ys) made ∙ sym (ap (id_bytes_in b) (id-is b i d is))

pub ruleset bytes_rules = (no-bytes, bytes-are)
