-- `first_slot`: at each turn none of the first i slots passes.
use native.Mathlib.Omega.{arith}
use mathlib.Core.Path.{◌≡◌, ap, ◌∙◌}
use Rattle.memory_structs.specs.declared.range.FrameRange.{FrameRange}
use Rattle.pairs.specs.Pairs.{pair_slots, range_slot}
use Rattle.pairs.proofs.First.{first_starts}
use Rattle.pairs.proofs.Turns.{pair_of, search_stops, search_passes, search_ends}
use Rattle.pairs.proofs.Slots.first_slot.Goals as goal

pub loop-i-init : goal.loop-i-init
loop-i-init g c = (omega arith, λ p e. first_starts p (pair_slots 32 c.args.self.words.now))

-- the words of a slot fit, by the type of the range that `entry` gives
pub returns-then-test : goal.returns-then-test
returns-then-test g c = λ p e.
    let here : c.test.result ≡ p (pair_of c.args.self.words.now c.loop-i.i)
    = e c.entry.result c.test.result c.entry.type_inv.1.1.0.1 c.entry.type_inv.1.1.1.0.1 c.test.ensures
    ∙ ap (λ (r : FrameRange). p (range_slot r)) c.entry.ensures in
    search_stops p c.args.self.words.now c.loop-i.i (c.loop-i.invariant.1 p e) c.loop-i-test.true here c.if-test.true

pub loop-i-preserved : goal.loop-i-preserved
loop-i-preserved g c = (
  omega arith,
  λ p e.
      let here : c.test.result ≡ p (pair_of c.args.self.words.now c.loop-i.i)
      = e c.entry.result c.test.result c.entry.type_inv.1.1.0.1 c.entry.type_inv.1.1.1.0.1 c.test.ensures
      ∙ ap (λ (r : FrameRange). p (range_slot r)) c.entry.ensures in
      search_passes p c.args.self.words.now c.loop-i.i (c.loop-i.invariant.1 p e) c.loop-i-test.true here c.if-test.false,
)

pub returns : goal.returns
returns g c = λ p e. search_ends p c.args.self.words.now c.loop-i.i (c.loop-i.invariant.1 p e) (omega arith)
