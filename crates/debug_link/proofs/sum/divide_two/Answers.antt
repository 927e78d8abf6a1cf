use Rattle.std.proofs.Common.{◌≡◌, ℕ, ◌<◌, take, drop, slice_index, ap, ◌∙◌, bit_xor}
use Rattle.debug_link.proofs.SumLaws.{two-words}
use Rattle.debug_link.specs.Tables.{little, times}
use Rattle.debug_link.proofs.sum.divide_two.Goals as goal

pub returns : goal.returns
returns c =
    let first : c.word_in.result ≡ little (take 8 c.args.words.now) = c.word_in.ensures.value ∙ ap little c.split_at.ensures.front in
    let second : c.word_in-2.result ≡ little (drop 8 c.args.words.now) = c.word_in-2.ensures.value ∙ ap little c.split_at.ensures.back in
    let front : c.times_x128.result ≡ times 128 (bit_xor c.args.rest (little (take 8 c.args.words.now))) =
    c.times_x128.ensures.value ∙ ap (λ (r : ℕ). times 128 (bit_xor r c.word_in.result)) c.from.ensures ∙ ap (λ (w : ℕ). times 128 (bit_xor c.args.rest w)) first in
    let back : c.times_x64.result ≡ times 64 (little (drop 8 c.args.words.now)) = c.times_x64.ensures.value ∙ ap (times 64) second in
    let small : (k : ℕ) → slice_index c.args.words.now k < 256 = λ k. (c.type_inv.words k).fits in
    record {
      value = ap (λ (x : ℕ). bit_xor x c.times_x64.result) front
          ∙ ap (bit_xor (times 128 (bit_xor c.args.rest (little (take 8 c.args.words.now))))) back
          ∙ two-words c.args.words.now c.args.rest c.requires.two small;
    }
