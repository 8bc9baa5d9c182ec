-- `covers`: one slot that has the range whole, or slots that have no frame twice and as many frames of the range as there are.
use mathlib.Core.Path.{sym, ap, ◌∙◌}
use Prim.Native.Nat.{ℕ, ◌-◌}
use lib.Dec.{ltb}
use Rattle.model.proofs.Ruled.{tidy_is}
use Rattle.pairs.proofs.Covered.{counted, one_holds}
use Rattle.pairs.specs.Pairs.{pair_slots}
use Rattle.pairs.proofs.Slots.covers.Goals as goal

pub returns-then-is_some : goal.returns-then-is_some
returns-then-is_some c = let a = c.args in
    c.if-is_some.true ∙ one_holds a.range (pair_slots 32 a.self.words.now) c.requires.start_le_end c.first_holding.ensures (sym c.is_some.ensures ∙ c.if-is_some.true)

pub returns-else-is_some : goal.returns-else-is_some
returns-else-is_some c = let a = c.args in
    ap (λ (n : ℕ). ltb (a.range.end - a.range.start) n) c.frames_in.ensures
    ∙ counted (pair_slots 32 a.self.words.now) (tidy_is _ _ c.requires.tidy).once a.range.start a.range.end c.requires.start_le_end
