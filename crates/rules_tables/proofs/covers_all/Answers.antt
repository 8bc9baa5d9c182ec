-- `covers_all`: at each turn a region that is done with is passed, or a chunk that lies in regions.
use native.Mathlib.Omega.{arith}
use Rattle.tables.proofs.Sums.{tidy_pair}
use Rattle.rules_tables.proofs.Walks.{reached_start, covered_ends, no_region, region_below, in_gap, chunk_in, chunk_on}
use Rattle.rules_tables.proofs.covers_all.Goals as goal

pub loop-i-init : goal.loop-i-init
loop-i-init c = reached_start _ _ _ _ c.requires.chunks_value c.requires.regions_value

pub returns-then-regions-j : goal.returns-then-regions-j
returns-then-regions-j c = no_region c.loop-i.invariant (omega arith) c.if-regions-j.true

pub loop-i-preserved-then-regions-j-2 : goal.loop-i-preserved-then-regions-j-2
loop-i-preserved-then-regions-j-2 c = region_below c.loop-i.invariant (omega arith) (omega arith) (omega (arith, c.max-first.ensures))

pub returns-then-first-regions : goal.returns-then-first-regions
returns-then-first-regions c = in_gap c.loop-i.invariant (omega arith) (omega arith) (omega (arith, c.max-first.ensures))

pub loop-i-preserved-then-chunks-i : goal.loop-i-preserved-then-chunks-i
loop-i-preserved-then-chunks-i c = chunk_in c.loop-i.invariant (omega arith) (omega arith) (omega (arith, c.max-first.ensures)) c.if-chunks-i.true

pub overflow_add-from-else-chunks-i : goal.overflow_add-from-else-chunks-i
overflow_add-from-else-chunks-i c = let a = c.args in
    omega (arith, (tidy_pair a.regions.len a.regions.words.now c.requires.regions_value c.loop-i.j (omega arith)).low)

pub loop-i-preserved : goal.loop-i-preserved
loop-i-preserved c = chunk_on c.loop-i.invariant (omega arith) (omega arith) (omega (arith, c.max-first.ensures)) (omega (arith, c.max-first.ensures)) c.if-chunks-i.false

pub returns : goal.returns
returns c = covered_ends c.loop-i.invariant c.loop-i-test.false
