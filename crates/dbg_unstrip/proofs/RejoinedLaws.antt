-- A file that was split comes back.
use Rattle.std.proofs.Common.{ℕ, ◌<◌, ◌≤◌, List, length, slice_index, sym, subst}
use Rattle.dw_base.specs.Layout.{output_limit}
use Rattle.dbg_split.proofs.PairReadLaws.{is-paired}
use Rattle.dbg_split.proofs.StrippedFitLaws.{names-there}
use Rattle.dbg_unstrip.specs.Joined.{joined}
use Rattle.dbg_unstrip.specs.Rejoined.{IsRejoined, WasSplit}
use Rattle.dbg_unstrip.specs.UnstripFails.{AreMatched}
use Rattle.dbg_unstrip.proofs.FixedAgainLaws.{stripped-loaded}
use Rattle.dbg_unstrip.proofs.JoinedBackLaws.{contents-back, count-back, machine-same, named-back, names-back, reads-back, same-front, type-same}
use Rattle.dbg_unstrip.proofs.JoinedLoadedLaws.{loaded-same}
use Rattle.dbg_unstrip.proofs.JoinedReadLaws.{AreJoined, class-back, heads-back, joined-is, order-back, out_of}
use Rattle.dbg_unstrip.proofs.JoinedViewLaws.{SameSections, means-one, means-same, view-same}
use Rattle.dbg_unstrip.proofs.MatchAgainLaws.{all-match}
use Rattle.dbg_unstrip.proofs.SplitPairLaws.{pair-of}

same-sections : (b name d s : List ℕ) → AreJoined b name d s → SameSections b (out_of s d)
same-sections b name d s j = record {
  loaded = j.of.pair.split.loaded;
  order_is = order-back b name d s j;
  type_is = type-same b (out_of s d) (same-front b name d s j);
  count = count-back b name d s j;
  named = named-back b name d s j;
  heads = λ i lt. heads-back b name d s i j lt;
  names = λ i lt. names-back b name d s i j lt;
  contents = λ i lt. contents-back b name d s i j lt;
}

rejoined : (b name d s : List ℕ) → AreJoined b name d s → IsRejoined b (out_of s d)
rejoined b name d s j =
    let w = same-sections b name d s j in
    let split = j.of.pair.split in
    let elf = reads-back b name d s j in
    record {
      reads = elf;
      class_is = class-back b name d s j;
      order_is = order-back b name d s j;
      type_is = type-same b (out_of s d) (same-front b name d s j);
      machine_is = machine-same b (out_of s d) (same-front b name d s j);
      count = w.count;
      named = w.named;
      heads = w.heads;
      names = w.names;
      contents = w.contents;
      view = view-same b (out_of s d) w;
      means = λ x m. means-same b (out_of s d) x w elf split.named (names-there b split) m;
      one = λ x y m found. means-one b (out_of s d) x y w m found;
      loaded = loaded-same b name d s j w;
    }

-- the file of both
pub comes-back : (b name s d : List ℕ) → length s ≤ output_limit → length d ≤ output_limit → ((k : ℕ) → slice_index s k < 256) → ((k : ℕ) → slice_index d k < 256)
    → WasSplit b name s d → length (joined s d) ≤ output_limit → IsRejoined b (joined s d)
comes-back b name s d s_small d_small s_bytes d_bytes was small =
    subst (λ (f : List ℕ). IsRejoined b f) (sym (joined-is s d))
    (rejoined b name d s (record {
      of = pair-of b name s d was s_small d_small;
      s_bytes = s_bytes;
      d_bytes = d_bytes;
      small = subst (λ (f : List ℕ). length f ≤ output_limit) (joined-is s d) small;
    }))

-- nothing but want of room keeps the two files of a split from being joined
pub split-matches : (b name s d : List ℕ) → length s ≤ output_limit → length d ≤ output_limit → WasSplit b name s d → AreMatched s d name
split-matches b name s d s_small d_small was =
    let p = pair-of b name s d was s_small d_small in
    record {
      can = record { paired = is-paired b name d s p.pair was.debug was.plain; loaded = stripped-loaded b name d s p };
      matched = λ place h. all-match b name d s place p h;
    }
