-- `write_runs`: at each turn a region is done with, or a chunk.
use Prim.Native.Nat.{ℕ, ◌<◌}
use native.Mathlib.Omega.{arith}
use mathlib.Core.Path.{◌≡◌, sym, ◌∙◌}
use Rattle.std.specs.Prelude.{Some}
use Rattle.tables.proofs.Sums.{tidy_pair}
use Rattle.tables.proofs.Search.{pair_at}
use Rattle.query_held.specs.Runs.{next_start}
use Rattle.query_held.proofs.Walk.{walk_start, walk_ends, walk_length, walk_room, chunk_there, region_done, chunk_done}
use Rattle.query_held.proofs.write_runs.Goals.{in_default-via-in-Some+else-chunk-last, in_default-via-in_default}
use Rattle.query_held.proofs.write_runs.Goals as goal

pub loop-i-init : goal.loop-i-init
loop-i-init c = walk_start _ _ _ _ _ c.requires.regions_value c.requires.chunks_value c.requires.buffer_len

pub put_frames-runs-requires : goal.put_frames-runs-requires
put_frames-runs-requires c = let w = c.loop-i.invariant in
    omega (arith, walk_length w, walk_room w c.loop-i-test.true)

pub bounds-chunks-j : goal.bounds-chunks-j
bounds-chunks-j c = omega (arith, (chunk_there c.loop-i.invariant c.loop-i-test.true (sym c.in-Some.is ∙ c.next_start.ensures)).0)

pub overflow_add-chunks : goal.overflow_add-chunks
overflow_add-chunks c = let a = c.args in
    let k = chunk_there c.loop-i.invariant c.loop-i-test.true (sym c.in-Some.is ∙ c.next_start.ensures) in
    let p = tidy_pair a.chunks.len a.chunks.words.now c.requires.chunks_value c.loop-i.j k.0 in
    omega (arith, p.filled, p.low)

pub loop-i-smaller-then-chunk-last : goal.loop-i-smaller-then-chunk-last
loop-i-smaller-then-chunk-last c = omega (arith, (chunk_there c.loop-i.invariant c.loop-i-test.true (sym c.in-Some.is ∙ c.next_start.ensures)).0)

pub loop-i-preserved-then-chunk-last : goal.loop-i-preserved-then-chunk-last
loop-i-preserved-then-chunk-last c = chunk_done c.loop-i.invariant c.loop-i-test.true (sym c.in-Some.is ∙ c.next_start.ensures) c.if-chunk-last.true c.max-first.ensures c.max-from.ensures c.put_frames-runs.ensures

pub put_frames-runs-requires-in_default : goal.put_frames-runs-requires-in_default
put_frames-runs-requires-in_default c = let w = c.loop-i.invariant in
    omega (arith, walk_length w, walk_room w c.loop-i-test.true)

pub loop-i-preserved : goal.loop-i-preserved
loop-i-preserved c =
    let above : (x : ℕ) → next_start c.args.chunks.len c.args.chunks.words.now c.loop-i.j ≡ Some x → (pair_at c.args.regions.words.now c.loop-i.i).end < x =
    λ x e. elim c.in_default.branch [
      | in_default-via-in-Some+else-chunk-last w ↦ (let same : w.in-Some.chunk ≡ x = cc (sym w.in-Some.is ∙ c.next_start.ensures ∙ e) in omega (arith, w.if-chunk-last.false, same))
      | in_default-via-in_default w ↦ absurd (cc (sym w.in_default.is ∙ c.next_start.ensures ∙ e))
    ] in
    region_done c.loop-i.invariant c.loop-i-test.true above c.max-first.ensures c.max-from-in_default.ensures c.put_frames-runs-in_default.ensures

pub returns : goal.returns
returns c = walk_ends c.loop-i.invariant c.loop-i-test.false
