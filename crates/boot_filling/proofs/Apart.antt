-- The turns of the test that nothing meets: the first piece that is left, and those after it.
use Rattle.std.proofs.Common.{◌≡◌, Bool, true, false, not, ◌&&◌, ◌||◌, List, [], ◌∷◌, ◌++◌, refl, ap, ◌∙◌}
use Rattle.std.specs.List.{list_any}
use Rattle.memory_structs.specs.Range.{meets}
use Rattle.memory_structs.specs.declared.range.FrameRange.{FrameRange}
use Rattle.model.specs.Lists.{any_of, disjoint}

any_in : (p : FrameRange → Bool) (rs : List FrameRange) → any_of p rs ≡ list_any p rs
unfolding any_of
any_in p [] = refl
any_in p (r ∷ rs) = ap (λ (b : Bool). p r || b) (any_in p rs)

-- a range of one list or of the other
any_joined : (p : FrameRange → Bool) (xs ys : List FrameRange) → any_of p (xs ++ ys) ≡ (list_any p xs || list_any p ys)
unfolding any_of
any_joined p [] ys = any_in p ys
any_joined p (x ∷ xs) ys = ap (λ (b : Bool). p x || b) (any_joined p xs ys) ∙ or_assoc (p x) (list_any p xs) (list_any p ys)
  where
    or_assoc : (a b c : Bool) → (a || (b || c)) ≡ ((a || b) || c)
    or_assoc true b c = refl
    or_assoc false b c = refl

module _ (left : List FrameRange) (piece : FrameRange) (later reserved : List FrameRange) (is : left ≡ piece ∷ later) where
  parts : disjoint (left ++ reserved) ≡ (not (list_any (meets piece) later || list_any (meets piece) reserved) && disjoint (later ++ reserved))
  unfolding disjoint
  parts = rw (is, any_joined (meets piece) later reserved)

  pub meets_piece : list_any (meets piece) later ≡ true → disjoint (left ++ reserved) ≡ false
  meets_piece p = parts ∙ rw p

  module _ (p : list_any (meets piece) later ≡ false) where
    pub meets_reserved : list_any (meets piece) reserved ≡ true → disjoint (left ++ reserved) ≡ false
    meets_reserved q = parts ∙ rw (p, q)

    pub meets_none : list_any (meets piece) reserved ≡ false → disjoint (left ++ reserved) ≡ disjoint (later ++ reserved)
    meets_none q = parts ∙ rw (p, q)
