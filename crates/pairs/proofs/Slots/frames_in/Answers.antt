-- `frames_in`: at each turn `total` frames of the range are in the first i slots.
use mathlib.Core.Path.{◌≡◌, ap, ◌∙◌}
use Prim.Native.Nat.{◌+◌, ◌*◌, ◌≤◌, min, max}
use lib.ListN.{get_or}
use Rattle.memory_structs.specs.Range.{size, common, top}
use Rattle.memory_structs.specs.declared.range.FrameRange.{FrameRange}
use Rattle.model.proofs.Ruled.{tidy_is}
use Rattle.pairs.specs.Frames.{frames_in}
use Rattle.tables.specs.Words.{pair_at}
use Rattle.pairs.proofs.Pairs.{pair_low}
use Rattle.pairs.proofs.Turns.{frames_turn, none_left, few_common}
use native.Mathlib.Omega.{arith}
use Rattle.pairs.proofs.Slots.frames_in.Goals as goal

-- the pair at i is empty, or ends at the top or below
low : (c : goal.After-common) → get_or c.args.self.words.now (2 * c.loop-i.i) 0 ≤ get_or c.args.self.words.now (2 * c.loop-i.i + 1) 0 → get_or c.args.self.words.now (2 * c.loop-i.i + 1) 0 ≤ top
low c l = pair_low 32 c.loop-i.i c.args.self.words.now (tidy_is _ _ c.requires).shape.sound (omega arith) l

-- the frames that it has in common with the range
shared : (c : goal.After-common) → c.common.result ≡ common c.args.range (pair_at c.args.self.words.now c.loop-i.i)
shared c = c.common.ensures ∙ ap (common c.args.range) c.entry.ensures

added : (c : goal.After-size-total) → c.size-total.result ≡ size (common c.args.range (pair_at c.args.self.words.now c.loop-i.i))
added c = c.size-total.ensures ∙ ap size (shared c.before)

few : (c : goal.After-size-total) → c.size-total.result ≤ top + 1
few c = few_common c.args.range.start c.args.range.end _ _ (low c.before) (added c)

pub size-total-requires : goal.size-total-requires
size-total-requires c l =
    let start : c.common.result.start ≡ max c.args.range.start (get_or c.args.self.words.now (2 * c.loop-i.i) 0) = ap (λ (r : FrameRange). r.start) (shared c) in
    let end : c.common.result.end ≡ min c.args.range.end (get_or c.args.self.words.now (2 * c.loop-i.i + 1) 0) = ap (λ (r : FrameRange). r.end) (shared c) in
    omega (arith, start, end, low c (omega (arith, start, end)))

pub overflow_add-total : goal.overflow_add-total
overflow_add-total c = omega (arith, few c)

pub loop-i-preserved : goal.loop-i-preserved
loop-i-preserved c = let a = c.args in
    omega (arith, few c, added c, frames_turn a.self.words.now c.loop-i.i (omega arith) a.range)

pub returns : goal.returns
unfolding frames_in
returns c = let a = c.args in
    omega (arith, ap (frames_in a.range) (none_left a.self.words.now c.loop-i.i (omega arith)))
