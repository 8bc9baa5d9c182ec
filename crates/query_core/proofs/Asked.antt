-- What the questions answer, test by test.
use mathlib.Core.Path.{◌≡◌, refl}
use mathlib.Core.Bool.{true, false}
use Rattle.memory_structs.specs.Range.{meets, is_empty, above_top}
use Rattle.memory_structs.specs.declared.range.FrameRange.{FrameRange}
use Rattle.model.specs.Lists.{Lists, entries, any_of, sum}
use Rattle.model.specs.Requests.{without_frames, refused, counted}
use Rattle.model.specs.Queries.{kind_of, total}
use Rattle.model.specs.declared.Kind.{Kind}
use Rattle.model.specs.declared.Kind.TheVariants.{General, Reserved}
use Rattle.lists.proofs.Meeting.{none_met}
use Rattle.lists.specs.Whole.{slots_at}
use Rattle.query_core.specs.Kinds.{free_list}

module _ (r : FrameRange) (l : Lists) where
  pub kind_above : above_top r ≡ true → without_frames 2 0 ≡ (kind_of r l).answer
  unfolding kind_of refused
  kind_above e = rw e

  pub kind_reserved : above_top r ≡ false → any_of (meets r) (entries l.reserved_regions) ≡ true → without_frames 0 1 ≡ (kind_of r l).answer
  unfolding kind_of counted
  kind_reserved e h = rw (e, h)

  pub kind_general : above_top r ≡ false → any_of (meets r) (entries l.reserved_regions) ≡ false → without_frames 0 0 ≡ (kind_of r l).answer
  unfolding kind_of counted
  kind_general e h = rw (e, h)

  pub kind_empty : above_top r ≡ false → is_empty r ≡ true → without_frames 0 0 ≡ (kind_of r l).answer
  kind_empty e h = kind_general e (none_met r h (entries l.reserved_regions))

pub total_is : (k : Kind) (l : Lists) → without_frames 0 (sum (entries (slots_at (free_list k) l))) ≡ (total k l).answer
unfolding total counted slots_at
total_is General l = refl
total_is Reserved l = refl
