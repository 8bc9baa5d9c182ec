-- `take_apart`: the header, and in early form the slots.
use mathlib.Core.Path.{sym, ◌∙◌}
use mathlib.Core.Bool.{true≢false}
use Rattle.lists.proofs.packing.take_apart.Goals as goal

pub returns-then-header : goal.returns-then-header
returns-then-header c = record { header = c.header_of-header.ensures; slots = λ e. absurd (true≢false (sym c.if-header.true ∙ (λ i. (c.header_of-header.ensures i).sorted) ∙ e)) }
