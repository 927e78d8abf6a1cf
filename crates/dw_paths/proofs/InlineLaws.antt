-- Laws of the inline map: the path that is made has the room's length, and no NUL that the path hasn't.
use Rattle.std.proofs.Common.{◌≡◌, ℕ, false, IsTrue, List, length}
use Rattle.dw_base.specs.InlinePaths.{inline_fits, mapped_inline}
use Rattle.dw_base.specs.Paths.{PathMap, IsPathMap}
use Rattle.dw_base.specs.Texts.{has_nul}
use Rattle.dw_base.proofs.InlineLaws.{has_nul-mapped_inline, length-mapped_inline}

pub inline-bare : (m : PathMap) (t path : List ℕ) → path ≡ mapped_inline m t → IsPathMap m → has_nul t ≡ false → has_nul path ≡ false
inline-bare m t path e p bare = rw e (has_nul-mapped_inline m t p bare)

pub inline-room : (m : PathMap) (t path : List ℕ) → path ≡ mapped_inline m t → IsTrue (inline_fits m t) → length path ≡ length t
inline-room m t path e fits = rw e (length-mapped_inline m t fits)
