-- The areas read so far, and one more: what is known of them.
use Rattle.std.proofs.Common.{◌≡◌, ℕ, ◌+◌, ◌≤◌, ◌<◌, Bool, true, false, ◌||◌, List, [], ◌∷◌, ◌++◌, length, take, refl, sym, ap, subst, ◌∙◌, arith, length-append, length-take, take_all, Ok, Err, min}
use Rattle.std.proofs.lemmas.List.{take-append-le}
use mathlib.Core.Bool.{or-false}
use borrow.Author.Tests.{lt-ltb, le-ltb, ltb-false}
use Rattle.std.specs.Prelude.{ltb}
use Rattle.memory_structs.specs.Range.{is_empty}
use Rattle.memory_structs.specs.declared.range.FrameRange.{FrameRange}
use Rattle.model.specs.Lists.{any_of}
use Rattle.model.specs.Boot.{marked, reserved_of}
use Rattle.model.specs.declared.Kind.{Kind}
use Rattle.model.specs.declared.Kind.TheVariants.{General, Reserved}
use Rattle.model.specs.declared.refusals.Refusal.TheVariants.{TooManyReservedAreas, EmptyReservedArea, OutOfBounds}
use Rattle.boot_carving.specs.Listed.{Ranges}
use Rattle.boot_areas.specs.declared.BootArea.{BootArea}
use Rattle.boot_areas.specs.declared.Collected.{Collected}
use Rattle.boot_areas.specs.Areas.{extents, any_outside, reserved_in, collected}
use Rattle.boot_areas.specs.Surveys.{Surveys}

or_assoc : (a b c : Bool) → (a || (b || c)) ≡ ((a || b) || c)
or_assoc true b c = refl
or_assoc false b c = refl

any_last : (p : FrameRange → Bool) (rs : List FrameRange) (r : FrameRange) → any_of p (rs ++ r ∷ []) ≡ (any_of p rs || p r)
unfolding any_of
any_last p [] r = or-false (p r)
any_last p (x ∷ rs) r = ap (λ (b : Bool). p x || b) (any_last p rs r) ∙ or_assoc (p x) (any_of p rs) (p r)

outside_last : (xs : List BootArea) (a : BootArea) → any_outside (xs ++ a ∷ []) ≡ (any_outside xs || a.outside)
unfolding any_outside
outside_last [] a = or-false a.outside
outside_last (x ∷ xs) a = ap (λ (b : Bool). x.outside || b) (outside_last xs a) ∙ or_assoc x.outside (any_outside xs) a.outside

general_last : (xs : List BootArea) (a : BootArea) → a.kind ≡ General → reserved_in (xs ++ a ∷ []) ≡ reserved_in xs
unfolding extents marked reserved_of
general_last [] a k = rw k refl
general_last (x ∷ xs) a k = go x.kind (general_last xs a k)
  where
    go : (y : Kind) → reserved_in (xs ++ a ∷ []) ≡ reserved_in xs → reserved_of (marked y x.frames ∷ extents (xs ++ a ∷ [])) ≡ reserved_of (marked y x.frames ∷ extents xs)
    go General e = e
    go Reserved e = ap (λ (rs : List FrameRange). x.frames ∷ rs) e

reserved_last : (xs : List BootArea) (a : BootArea) → a.kind ≡ Reserved → reserved_in (xs ++ a ∷ []) ≡ reserved_in xs ++ a.frames ∷ []
unfolding extents marked reserved_of
reserved_last [] a k = rw k refl
reserved_last (x ∷ xs) a k = go x.kind (reserved_last xs a k)
  where
    go : (y : Kind) → reserved_in (xs ++ a ∷ []) ≡ reserved_in xs ++ a.frames ∷ [] → reserved_of (marked y x.frames ∷ extents (xs ++ a ∷ [])) ≡ reserved_of (marked y x.frames ∷ extents xs) ++ a.frames ∷ []
    go General e = e
    go Reserved e = ap (λ (rs : List FrameRange). x.frames ∷ rs) e

-- no area read yet
pub none_surveyed : (c : Collected) → c.reserved.items ≡ [] → c.any_more ≡ false → c.any_empty ≡ false → c.any_outside ≡ false → Surveys [] c
unfolding extents reserved_of any_of any_outside
none_surveyed c r m e o = record { reserved_are = r; more_is = m; empty_is = e; outside_is = o }

module _ (xs : List BootArea) (a : BootArea) (old new : Collected) (s : Surveys xs old) (outside : new.any_outside ≡ (old.any_outside || a.outside)) where
  outside_now : new.any_outside ≡ any_outside (xs ++ a ∷ [])
  outside_now = outside ∙ ap (λ (b : Bool). b || a.outside) s.outside_is ∙ sym (outside_last xs a)

  pub general_more : a.kind ≡ General → new.reserved ≡ old.reserved → new.any_more ≡ old.any_more → new.any_empty ≡ old.any_empty → Surveys (xs ++ a ∷ []) new
  general_more k r m e =
      let same = sym (general_last xs a k) in
      record {
        reserved_are = ap (λ (l : Ranges). l.items) r ∙ s.reserved_are ∙ ap (take 32) same;
        more_is = m ∙ s.more_is ∙ ap (λ (rs : List FrameRange). ltb 32 (length rs)) same;
        empty_is = e ∙ s.empty_is ∙ ap (any_of is_empty) same;
        outside_is = outside_now;
      }

  module _ (k : a.kind ≡ Reserved) (empty : new.any_empty ≡ (old.any_empty || is_empty a.frames)) where
    abbrev rs : List FrameRange
    rs = reserved_in xs

    longer : reserved_in (xs ++ a ∷ []) ≡ rs ++ a.frames ∷ []
    longer = reserved_last xs a k

    empty_now : new.any_empty ≡ any_of is_empty (reserved_in (xs ++ a ∷ []))
    empty_now = empty ∙ ap (λ (b : Bool). b || is_empty a.frames) s.empty_is ∙ sym (any_last is_empty rs a.frames) ∙ ap (any_of is_empty) (sym longer)

    held : length old.reserved.items ≡ min 32 (length rs)
    held = ap length s.reserved_are ∙ length-take 32 rs

    many : length (reserved_in (xs ++ a ∷ [])) ≡ length rs + 1
    many = ap length longer ∙ length-append rs (a.frames ∷ [])

    -- it has a place
    pub reserved_more : length old.reserved.items < 32 → new.reserved.items ≡ old.reserved.items ++ a.frames ∷ [] → new.any_more ≡ old.any_more → Surveys (xs ++ a ∷ []) new
    reserved_more room r m =
        let few : length rs < 32 = omega (arith, held) in
        let all : take 32 rs ≡ rs = take_all 32 rs (omega arith) in
        record {
          reserved_are =
              r ∙ ap (λ (l : List FrameRange). l ++ a.frames ∷ []) (s.reserved_are ∙ all) ∙ sym longer
              ∙ sym (take_all 32 (reserved_in (xs ++ a ∷ [])) (omega (arith, many)));
          more_is = m ∙ s.more_is ∙ le-ltb 32 (length rs) (omega arith) ∙ sym (le-ltb 32 (length (reserved_in (xs ++ a ∷ []))) (omega (arith, many)));
          empty_is = empty_now;
          outside_is = outside_now;
        }

    -- it has none
    pub reserved_full : length old.reserved.items ≡ 32 → new.reserved ≡ old.reserved → new.any_more ≡ true → Surveys (xs ++ a ∷ []) new
    reserved_full full r m =
        let enough : 32 ≤ length rs = omega (arith, held) in
        record {
          reserved_are = ap (λ (l : Ranges). l.items) r ∙ s.reserved_are ∙ sym (ap (take 32) longer ∙ take-append-le 32 rs (a.frames ∷ []) enough);
          more_is = m ∙ sym (lt-ltb 32 (length (reserved_in (xs ++ a ∷ []))) (omega (arith, many)));
          empty_is = empty_now;
          outside_is = outside_now;
        }

-- a walk over the areas, those before i so far
module _ (xs : List BootArea) (i : ℕ) where
  pub all_surveyed : (c : Collected) → length xs ≤ i → Surveys (take i xs) c → Surveys xs c
  all_surveyed c h s = subst (λ (ys : List BootArea). Surveys ys c) (take_all i xs h) s

-- which of 5, 4 and 2 comes first
module _ (xs : List BootArea) (c : Collected) (s : Surveys xs c) where
  pub five : c.any_more ≡ true → Err TooManyReservedAreas ≡ collected xs
  unfolding collected
  five m = rw (sym s.more_is ∙ m) refl

  module _ (m : c.any_more ≡ false) where
    pub four : c.any_empty ≡ true → Err EmptyReservedArea ≡ collected xs
    unfolding collected
    four e = rw (sym s.more_is ∙ m, sym s.empty_is ∙ e) refl

    module _ (e : c.any_empty ≡ false) where
      pub two : c.any_outside ≡ true → Err OutOfBounds ≡ collected xs
      unfolding collected
      two o = rw (sym s.more_is ∙ m, sym s.empty_is ∙ e, sym s.outside_is ∙ o) refl

      pub all_collected : c.any_outside ≡ false → Ok c.reserved ≡ collected xs
      unfolding collected
      all_collected o =
          let few : length (reserved_in xs) ≤ 32 = ltb-false 32 (length (reserved_in xs)) (sym s.more_is ∙ m) in
          let whole : c.reserved ≡ record { items = reserved_in xs } = ap (λ (rs : List FrameRange). record { items = rs }) (s.reserved_are ∙ take_all 32 (reserved_in xs) few) in
          ap Ok whole ∙ rw (sym s.more_is ∙ m, sym s.empty_is ∙ e, sym s.outside_is ∙ o) refl
