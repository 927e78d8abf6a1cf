-- Paths of directories and files agree exactly where the texts at their places do.
use Rattle.std.proofs.Common.{Bool, true, false, ◌≡◌, List, ℕ, ap, sym, ◌∙◌}
use Rattle.std.specs.Prelude.{◌↔◌, IsTrue}
use Rattle.dw_base.proofs.TextLaws.{same_text-from, same_text-true}
use Rattle.dw_base.specs.LineMeanings.{FileText}
use Rattle.dw_base.specs.Paths.{PathMap, mapped_path}
use Rattle.dw_base.specs.Texts.{same_text}
use Rattle.dbg_check.proofs.ValueLaws.{told-by, told-no}
use Rattle.dbg_check.specs.Tables.{FileAgrees, PathAgrees}

pub path-told : (m : PathMap) (t u xs ys : List ℕ) (b : Bool) → b ≡ same_text (mapped_path m xs) ys → xs ≡ t → ys ≡ u → IsTrue b ↔ (mapped_path m t ≡ u)
path-told m t u xs ys b told one two = (
  (λ (e : b ≡ true). ap (mapped_path m) (sym one) ∙ same_text-true (mapped_path m xs) ys (sym told ∙ e) ∙ two),
  (λ (e : mapped_path m t ≡ u). told ∙ same_text-from (mapped_path m xs) ys (ap (mapped_path m) one ∙ e ∙ sym two)),
)

pub ruleset path_laws = (path-told)

pub file-other : (m : PathMap) (f h : FileText) → (f.dir ≡ h.dir → ⊥) → IsTrue false ↔ FileAgrees m f h
file-other m f h apart = told-no (FileAgrees m f h) (λ agree. apart agree.dir)

pub file-told : (m : PathMap) (f h : FileText) (b : Bool) → (IsTrue b ↔ PathAgrees m f.path h.path) → f.dir ≡ h.dir → IsTrue b ↔ FileAgrees m f h
file-told m f h b told dir =
    told-by b (PathAgrees m f.path h.path) (FileAgrees m f h) told (λ path. record { path = path; dir = dir }) (λ agree. agree.path)

pub ruleset file_laws = (file-other, file-told)
