-- `push`: the places after the new range stay empty.
use Rattle.std.proofs.Common.{ℕ, ◌<◌, length, sym, subst}
use Rattle.boot_carving.specs.Listed.{Ranges, counted}
use Rattle.boot_carving.proofs.Listing.{one_more}
use Rattle.boot_carving.proofs.range_list.RangeList.push.Goals as goal

pub invariant_of-self : goal.invariant_of-self
invariant_of-self c =
    let room = subst (λ (l : Ranges). length l.items < 32) (sym c.self.view_is) c.requires in
    one_more c.args.range c.self.invariant (subst (λ (n : ℕ). n < 32) (counted c.self.invariant) room)
