-- `push`: the places after the new area stay blank.
use Rattle.std.proofs.Common.{ℕ, ◌<◌, length, sym, subst}
use Rattle.boot_carving.specs.Listed.{counted}
use Rattle.boot_carving.proofs.Listing.{one_more}
use Rattle.bench_areas.specs.Listed.{AreaList}
use Rattle.bench_areas.proofs.area_list.Areas.push.Goals as goal

pub invariant_of-self : goal.invariant_of-self
invariant_of-self c =
    let room = subst (λ (l : AreaList). length l.items < 128) (sym c.self.view_is) c.requires in
    one_more c.args.area c.self.invariant (subst (λ (n : ℕ). n < 128) (counted c.self.invariant) room)
