-- `contains_any`: at each turn none of the slots before i meets the range.
use mathlib.Core.Path.{sym, ap, ◌∙◌}
use mathlib.Core.Bool.{Bool, ◌||◌}
use Prim.Native.Nat.{◌+◌}
use Rattle.memory_structs.specs.Range.{meets}
use Rattle.model.specs.Lists.{any_of}
use Rattle.pairs.proofs.Turns.{left, any_turn, none_left}
use native.Mathlib.Omega.{arith}
use Rattle.pairs.proofs.Slots.contains_any.Goals as goal

pub returns-then-meets : goal.returns-then-meets
returns-then-meets c = let r = c.args.range in
    sym (c.loop-i.invariant ∙ any_turn c.args.self.words.now c.loop-i.i (omega arith) r ∙ ap (λ (b : Bool). b || any_of (meets r) (left (c.loop-i.i + 1) c.args.self.words.now)) (ap (meets r) (sym c.entry.ensures) ∙ sym c.meets.ensures ∙ c.if-meets.true))

pub loop-i-preserved : goal.loop-i-preserved
loop-i-preserved c = let r = c.args.range in
    c.loop-i.invariant ∙ any_turn c.args.self.words.now c.loop-i.i (omega arith) r ∙ ap (λ (b : Bool). b || any_of (meets r) (left (c.loop-i.i + 1) c.args.self.words.now)) (ap (meets r) (sym c.entry.ensures) ∙ sym c.meets.ensures ∙ c.if-meets.false)

pub returns : goal.returns
unfolding any_of
returns c = sym (c.loop-i.invariant ∙ ap (any_of (meets c.args.range)) (none_left c.args.self.words.now c.loop-i.i (omega arith)))
