-- The fields of a key are read exactly.
use Rattle.std.proofs.Common.{◌≡◌, ℕ, Bool, false, List, [], ◌∷◌, ◌++◌, drop, Option, Ok, refl, arith}
use Rattle.std.proofs.lemmas.List.{append-nil}
use Rattle.std.specs.Prelude.{codes}
use Rattle.std.specs.Fmt.{decimal}
use Rattle.dw_base.specs.Texts.{has_nul}
use Rattle.dw_base.specs.Paths.{PathMap, first_pair, path_map}
use Rattle.dw_base.proofs.PathLaws.{first-fit}
use Rattle.work_texts.specs.declared.key.RunKey.{RunKey}
use Rattle.work_texts.specs.Fields.{Field, flag_field, keyed_fields, more_fields, more_pairs}
use Rattle.work_texts.specs.Rules.{IsKeyIn, text_limit}
use Rattle.work_texts.specs.Reading.{Reading, ◌>>=◌, value_at, side_in, choice_in, text_in, number_in, maps_at, key_at}
use Rattle.work_texts.proofs.Formats.{IsReader, then_reader, nothing_reader, same_reader}
use Rattle.work_texts.proofs.OneField.{IsSpelling}
use Rattle.work_texts.proofs.ThenValue.{then_value}
use Rattle.work_texts.proofs.MapReader.{IsMapsOf, maps_reader}
use Rattle.work_texts.proofs.Words.{IsSide, side_spelling, text_spelling, choice_spelling}
use Rattle.work_texts.proofs.Numerals.{IsWithin, number_spelling}

abbrev flag_in : Field → Option Bool
flag_in f = choice_in (codes "0") (codes "1") f

flag_spelling : IsSpelling flag_in flag_field (λ _. Unit {0})
flag_spelling = choice_spelling (codes "0") (codes "1") refl refl refl

-- the steps that are left behind each field
abbrev k6 : Bool → List ℕ → Bool → ℕ → PathMap → List ℕ → Reading RunKey
k6 build_id seed skip max_file maps bytes = Ok (record { maps = maps; build_id = build_id; seed = seed; skip = skip; max_file = max_file }, bytes)

abbrev k5 : Bool → List ℕ → List ℕ → Bool → List ℕ → Bool → ℕ → List ℕ → Reading RunKey
k5 old base dest build_id seed skip max_file bytes = maps_at old (path_map base dest) bytes >>= λ a. k6 build_id seed skip max_file a.0 a.1

abbrev k4 : Bool → List ℕ → List ℕ → Bool → List ℕ → Bool → List ℕ → Reading RunKey
k4 old base dest build_id seed skip bytes = value_at (number_in 1 text_limit) bytes >>= λ a. k5 old base dest build_id seed skip a.0 a.1

abbrev k3 : Bool → List ℕ → List ℕ → Bool → List ℕ → List ℕ → Reading RunKey
k3 old base dest build_id seed bytes = value_at flag_in bytes >>= λ a. k4 old base dest build_id seed a.0 a.1

abbrev k2 : Bool → List ℕ → List ℕ → Bool → List ℕ → Reading RunKey
k2 old base dest build_id bytes = value_at text_in bytes >>= λ a. k3 old base dest build_id a.0 a.1

abbrev k1 : Bool → List ℕ → List ℕ → List ℕ → Reading RunKey
k1 old base dest bytes = value_at flag_in bytes >>= λ a. k2 old base dest a.0 a.1

abbrev k0 : Bool → List ℕ → List ℕ → Reading RunKey
k0 old base bytes = value_at side_in bytes >>= λ a. k1 old base a.0 a.1

-- the keys that fit what was read so far
abbrev f0 : Bool → List ℕ → RunKey → Type 0
f0 old base k = IsKeyIn old k × ((first_pair k.maps).base ≡ base)

abbrev f1 : Bool → List ℕ → List ℕ → RunKey → Type 0
f1 old base dest k = f0 old base k × ((first_pair k.maps).dest ≡ dest)

abbrev f2 : Bool → List ℕ → List ℕ → Bool → RunKey → Type 0
f2 old base dest build_id k = f1 old base dest k × (k.build_id ≡ build_id)

abbrev f3 : Bool → List ℕ → List ℕ → Bool → List ℕ → RunKey → Type 0
f3 old base dest build_id seed k = f2 old base dest build_id k × (k.seed ≡ seed)

abbrev f4 : Bool → List ℕ → List ℕ → Bool → List ℕ → Bool → RunKey → Type 0
f4 old base dest build_id seed skip k = f3 old base dest build_id seed k × (k.skip ≡ skip)

abbrev f5 : Bool → List ℕ → List ℕ → Bool → List ℕ → Bool → ℕ → RunKey → Type 0
f5 old base dest build_id seed skip max_file k = f4 old base dest build_id seed skip k × (k.max_file ≡ max_file)

abbrev f6 : Bool → List ℕ → List ℕ → Bool → List ℕ → Bool → ℕ → PathMap → RunKey → Type 0
f6 old base dest build_id seed skip max_file maps k = f5 old base dest build_id seed skip max_file k × (k.maps ≡ maps)

same_key : (old : Bool) (k : RunKey) (base dest : List ℕ) (build_id : Bool) (seed : List ℕ) (skip : Bool) (max_file : ℕ) (maps : PathMap)
    → f6 old base dest build_id seed skip max_file maps k → k ≡ record { maps = maps; build_id = build_id; seed = seed; skip = skip; max_file = max_file }
same_key old k base dest build_id seed skip max_file maps f =
    let a : k.maps ≡ maps = f.1 in
    let c : k.build_id ≡ build_id = f.0.0.0.0.1 in
    let d : k.seed ≡ seed = f.0.0.0.1 in
    let e : k.skip ≡ skip = f.0.0.1 in
    let g : k.max_file ≡ max_file = f.0.1 in
    let made : RunKey = record { maps = k.maps; build_id = k.build_id; seed = k.seed; skip = k.skip; max_file = k.max_file } in
    let all : made ≡ record { maps = maps; build_id = build_id; seed = seed; skip = skip; max_file = max_file } = rw (a, c, d, e, g) refl in
    all

r6 : (old : Bool) (base dest : List ℕ) (build_id : Bool) (seed : List ℕ) (skip : Bool) (max_file : ℕ) (maps : PathMap) → has_nul seed ≡ false → IsWithin 1 text_limit max_file → IsMapsOf old base dest maps
    → IsReader (λ _. []) (f6 old base dest build_id seed skip max_file maps) (k6 build_id seed skip max_file maps)
r6 old base dest build_id seed skip max_file maps s m p =
    let made : RunKey = record { maps = maps; build_id = build_id; seed = seed; skip = skip; max_file = max_file } in
    let key : IsKeyIn old made = record { key = record { map = p.map; seed = s; low = m.above; high = m.below }; one = p.one } in
    nothing_reader (f6 old base dest build_id seed skip max_file maps) made (((((((key, p.base_is), p.dest_is), refl), refl), refl), refl), refl) (λ k f. same_key old k base dest build_id seed skip max_file maps f)

r5 : (old : Bool) (base dest : List ℕ) (build_id : Bool) (seed : List ℕ) (skip : Bool) (max_file : ℕ) → IsSide base → IsSide dest → has_nul seed ≡ false → IsWithin 1 text_limit max_file
    → IsReader (λ k. more_fields old (more_pairs k)) (f5 old base dest build_id seed skip max_file) (k5 old base dest build_id seed skip max_file)
r5 old base dest build_id seed skip max_file b d s m =
    same_reader (λ k. more_fields old (more_pairs k) ++ []) (λ k. more_fields old (more_pairs k)) (f5 old base dest build_id seed skip max_file) (k5 old base dest build_id seed skip max_file) (λ k f. append-nil (more_fields old (more_pairs k)))
    (then_reader (λ maps. more_fields old (drop 1 maps.pairs)) (IsMapsOf old base dest) (λ k. k.maps) (λ _. []) (f5 old base dest build_id seed skip max_file) (maps_at old (path_map base dest)) (k6 build_id seed skip max_file)
    (record {
      reader = maps_reader old base dest b d;
      has = λ k f. let key : IsKeyIn old k = f.0.0.0.0.0.0 in record { map = key.key.map; base_is = f.0.0.0.0.0.1; dest_is = f.0.0.0.0.1; one = key.one };
      next = λ maps p. r6 old base dest build_id seed skip max_file maps s m p;
    }))

r4 : (old : Bool) (base dest : List ℕ) (build_id : Bool) (seed : List ℕ) (skip : Bool) → IsSide base → IsSide dest → has_nul seed ≡ false
    → IsReader (λ k. decimal k.max_file ∷ more_fields old (more_pairs k)) (f4 old base dest build_id seed skip) (k4 old base dest build_id seed skip)
r4 old base dest build_id seed skip b d s =
    then_value (number_in 1 text_limit) decimal (IsWithin 1 text_limit) (number_spelling 1 text_limit (omega arith) (omega arith)) (λ k. k.max_file) (λ k. more_fields old (more_pairs k)) (f4 old base dest build_id seed skip) (k5 old base dest build_id seed skip)
    (λ k f. let key : IsKeyIn old k = f.0.0.0.0.0 in record { above = key.key.low; below = key.key.high })
    (λ a m. r5 old base dest build_id seed skip a b d s m)

r3 : (old : Bool) (base dest : List ℕ) (build_id : Bool) (seed : List ℕ) → IsSide base → IsSide dest → has_nul seed ≡ false
    → IsReader (λ k. flag_field k.skip ∷ decimal k.max_file ∷ more_fields old (more_pairs k)) (f3 old base dest build_id seed) (k3 old base dest build_id seed)
r3 old base dest build_id seed b d s =
    then_value flag_in flag_field (λ _. Unit {0}) flag_spelling (λ k. k.skip) (λ k. decimal k.max_file ∷ more_fields old (more_pairs k)) (f3 old base dest build_id seed) (k4 old base dest build_id seed)
    (λ k f. tt) (λ a m. r4 old base dest build_id seed a b d s)

r2 : (old : Bool) (base dest : List ℕ) (build_id : Bool) → IsSide base → IsSide dest
    → IsReader (λ k. k.seed ∷ flag_field k.skip ∷ decimal k.max_file ∷ more_fields old (more_pairs k)) (f2 old base dest build_id) (k2 old base dest build_id)
r2 old base dest build_id b d =
    then_value text_in (λ f. f) (λ f. has_nul f ≡ false) text_spelling (λ k. k.seed) (λ k. flag_field k.skip ∷ decimal k.max_file ∷ more_fields old (more_pairs k)) (f2 old base dest build_id) (k3 old base dest build_id)
    (λ k f. let key : IsKeyIn old k = f.0.0.0 in key.key.seed) (λ a m. r3 old base dest build_id a b d m)

r1 : (old : Bool) (base dest : List ℕ) → IsSide base → IsSide dest
    → IsReader (λ k. flag_field k.build_id ∷ k.seed ∷ flag_field k.skip ∷ decimal k.max_file ∷ more_fields old (more_pairs k)) (f1 old base dest) (k1 old base dest)
r1 old base dest b d =
    then_value flag_in flag_field (λ _. Unit {0}) flag_spelling (λ k. k.build_id) (λ k. k.seed ∷ flag_field k.skip ∷ decimal k.max_file ∷ more_fields old (more_pairs k)) (f1 old base dest) (k2 old base dest)
    (λ k f. tt) (λ a m. r2 old base dest a b d)

r0 : (old : Bool) (base : List ℕ) → IsSide base
    → IsReader (λ k. (first_pair k.maps).dest ∷ flag_field k.build_id ∷ k.seed ∷ flag_field k.skip ∷ decimal k.max_file ∷ more_fields old (more_pairs k)) (f0 old base) (k0 old base)
r0 old base b =
    then_value side_in (λ f. f) IsSide side_spelling (λ k. (first_pair k.maps).dest) (λ k. flag_field k.build_id ∷ k.seed ∷ flag_field k.skip ∷ decimal k.max_file ∷ more_fields old (more_pairs k)) (f0 old base) (k1 old base)
    (λ k f. let key : IsKeyIn old k = f.0 in record { is = (first-fit k.maps key.key.map).dest; cut = (first-fit k.maps key.key.map).dest_cut }) (λ a m. r1 old base a b m)

pub key_reader : (old : Bool) → IsReader (keyed_fields old) (IsKeyIn old) (key_at old)
unfolding key_at
key_reader old =
    then_value side_in (λ f. f) IsSide side_spelling (λ k. (first_pair k.maps).base) (λ k. (first_pair k.maps).dest ∷ flag_field k.build_id ∷ k.seed ∷ flag_field k.skip ∷ decimal k.max_file ∷ more_fields old (more_pairs k)) (IsKeyIn old) (k0 old)
    (λ k f. record { is = (first-fit k.maps f.key.map).base; cut = (first-fit k.maps f.key.map).base_cut }) (λ a m. r0 old a m)
