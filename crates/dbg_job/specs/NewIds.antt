-- A file with its build-id made anew (gABI ch. 5 "Note Section"; the GNU build-id note). What an id is made of is this
-- project's profile: a seed, and the whole file with the bytes of the id as zeros.
use Rattle.std.specs.Prelude.{◌≡◌, ℕ, ◌+◌, ◌<◌, List, take, drop, Option, Some, None}
use Rattle.dw_base.specs.Elf.{nth_section}
use Rattle.dw_base.specs.Layout.{fixed_end}
use Rattle.dw_base.specs.Notes.{BuildId, build_id_of}
use Rattle.dw_base.specs.declared.fault.Refusal.{Refusal}
use Rattle.build_ident.specs.IdFails.{IdFails, IsIdPlace, id_section}
use Rattle.build_ident.specs.Ids.{with_id}

-- where the build-id of a file begins in it
abbrev pub id_start : List ℕ → BuildId → ℕ
id_start b id = (nth_section b id.section).offset + id.descriptor.place

-- the file with a new id of a seed in place of the one that it has; one that has none stays as it is
abbrev pub new_id_in : List ℕ → List ℕ → Option BuildId → List ℕ
new_id_in seed b None = b
new_id_in seed b (Some id) = with_id seed b (id_start b id) id.descriptor.size

unfoldable pub with_new_id : List ℕ → List ℕ → List ℕ
with_new_id seed b = new_id_in seed b (build_id_of b)

-- the bytes of the build-id of a file, where it has one
abbrev pub id_bytes_in : List ℕ → Option BuildId → Option (List ℕ)
id_bytes_in b None = None
id_bytes_in b (Some id) = Some (take id.descriptor.size (drop (id_start b id) b))

unfoldable pub id_bytes : List ℕ → Option (List ℕ)
id_bytes b = id_bytes_in b (build_id_of b)

-- nothing is wrong with the build-id of a file: it has no section for the note, or the note fits, has the size of an id,
-- and its bytes belong to nothing else
pub record IdFits (b : List ℕ) : Type 0 where
  pub none : (r : Refusal) → IdFails b r → ⊥

-- another file has a build-id where this one does: none where this one has none, and at the same place where it lies in the part that stays
pub record KeepsId (b out : List ℕ) : Type 0 where
  pub none : id_section b ≡ None → id_section out ≡ None
  pub stays : (place n : ℕ) → IsIdPlace b place n → place < fixed_end b → IsIdPlace out place n
