-- The numbers that refuse a boot on empty lists, in their order.
use Prim.Native.Nat.{ℕ, ◌≤◌, ◌<◌, max}
use native.Mathlib.Omega.{arith}
use mathlib.Core.Path.{◌≡◌, refl, sym, ap, ◌∙◌}
use mathlib.Core.Bool.{Bool, true, false}
use mathlib.Core.List.{List, [], ◌∷◌, ◌++◌}
use lib.ListN.{length}
use lib.Dec.{leb, ltb}
use borrow.Author.Tests.{ltb-false, lt-ltb, le-ltb, le-leb}
use Rattle.std.specs.Prelude.{if◌then◌else◌, Result, Ok, Err}
use Rattle.boot_carving.specs.Listed.{Ranges}
use Rattle.memory_structs.specs.Range.{is_empty, above_top, top}
use Rattle.memory_structs.specs.declared.range.FrameRange.{FrameRange}
use Rattle.memory_structs.proofs.Bools.{neither_first, neither_second}
use Rattle.model.specs.Lists.{any_of, all_of, disjoint}
use Rattle.model.specs.Boot.{Extent, general, reserved, reserved_of, range_of, ranges, join, booted}
use Rattle.model.specs.Boot as model
use Rattle.model.specs.Refusals as refusals
use Rattle.model.specs.Refusals.{refused_by}
use Rattle.model.specs.declared.refusals.Refusal.{Refusal}
use Rattle.model.specs.declared.refusals.Refusal.TheVariants.{TooManyReservedAreas, EmptyReservedArea, OutOfBounds}
use Rattle.model.specs.Store.{record_of}
use Rattle.model.proofs.Joined.{join_apart}
use Rattle.boot_carving.specs.Ranges.{Carvable}
use Rattle.boot_areas.specs.declared.BootArea.{BootArea}
use Rattle.boot_areas.specs.Areas.{extents, any_outside, reserved_in, pieces_in, collected}
use Rattle.boot_areas.specs.Boots.{Bounded}
use Rattle.boot_filling.specs.Filled.{filled_record}

-- an area that passes 2 ends at or below the top
reserved_low : (xs : List Extent) → any_of above_top (ranges xs) ≡ false → all_of (λ r. leb r.end top) (reserved_of xs) ≡ true
unfolding any_of all_of ranges range_of reserved_of
reserved_low [] e = refl
reserved_low (general r ∷ xs) e = reserved_low xs (neither_second (above_top r) (any_of above_top (ranges xs)) e)
reserved_low (reserved r ∷ xs) e =
    let low : r.end ≤ top = omega (arith, ltb-false top (max r.start r.end) (neither_first (above_top r) (any_of above_top (ranges xs)) e)) in
    rw (le-leb r.end top low) (reserved_low xs (neither_second (above_top r) (any_of above_top (ranges xs)) e))

-- joined areas do not meet
pub joined_apart : (areas joined : List FrameRange) → joined ≡ join areas → disjoint joined ≡ true
joined_apart areas joined e = rw e (join_apart areas)

-- the numbers of the model, test by test: 5, 4 and 2, then 7 and 6
module _ (xs : List BootArea) where
  abbrev rs : List FrameRange
  rs = reserved_in xs

  abbrev ps : List FrameRange
  ps = pieces_in rs xs

  abbrev number : ℕ
  number = model.refusal (any_outside xs) (extents xs)

  -- the number after 5, 4 and 2
  abbrev last : ℕ
  last = if ltb 32 (length ps) then 7 else if disjoint (ps ++ join rs) then 0 else 6

  pub first_refusals : (r : Refusal) → Err r ≡ collected xs → refusals.number r ≡ number
  unfolding collected model.refusal
  first_refusals r e = go (ltb 32 (length rs)) (any_of is_empty rs) (any_outside xs) last e
    where
      go : (x y o : Bool) (n : ℕ) → ◌≡◌ {A = Result Ranges Refusal} (Err r) (if x then Err TooManyReservedAreas else if y then Err EmptyReservedArea else if o then Err OutOfBounds else Ok (record { items = rs })) →
          refusals.number r ≡ (if x then 5 else if y then 4 else if o then 2 else n)
      go true y o n p = ap refused_by p
      go false true o n p = ap refused_by p
      go false false true n p = ap refused_by p
      go false false false n p = cc

  -- what is known once the reserved areas are collected
  record Passed (reserved : List FrameRange) : Type 0 where
    is : reserved ≡ rs
    filled : any_of is_empty rs ≡ false
    inside : any_outside xs ≡ false
    to_last : number ≡ last

  passed : (v : Ranges) → Ok v ≡ collected xs → Passed v.items
  unfolding collected model.refusal
  passed v e = go (ltb 32 (length rs)) (any_of is_empty rs) (any_outside xs) refl refl refl e
    where
      go : (x y o : Bool) → ltb 32 (length rs) ≡ x → any_of is_empty rs ≡ y → any_outside xs ≡ o →
          ◌≡◌ {A = Result Ranges Refusal} (Ok v) (if x then Err TooManyReservedAreas else if y then Err EmptyReservedArea else if o then Err OutOfBounds else Ok (record { items = rs })) → Passed v.items
      go true y o a b c p = cc
      go false true o a b c p = cc
      go false false true a b c p = cc
      go false false false a b c p =
          let w : v ≡ record { items = rs } = cc in
          record { is = ap (λ (x : Ranges). x.items) w; filled = b; inside = c; to_last = rw (a, b, c) }

  module _ (v : Ranges) (collected_is : Ok v ≡ collected xs) where
    p : Passed v.items
    p = passed v collected_is

    pub may_carve : Bounded xs → Carvable v.items
    may_carve low = rw p.is (record { filled = p.filled; low = reserved_low (extents xs) (low p.inside) })

    pub seven : 32 < length (pieces_in v.items xs) → 7 ≡ number
    seven many = sym (p.to_last ∙ rw (lt-ltb 32 (length ps) (rw p.is at many)))

    module _ (pieces joined : List FrameRange) (pieces_are : pieces ≡ pieces_in v.items xs) (joined_are : joined ≡ join v.items) where
      carved : pieces ++ joined ≡ ps ++ join rs
      carved = rw (pieces_are, joined_are, p.is)

      module _ (few : length pieces ≤ 32) where
        after_7 : number ≡ (if disjoint (pieces ++ joined) then 0 else 6)
        after_7 =
            let fits : length ps ≤ 32 = rw (pieces_are, p.is) at few in
            p.to_last ∙ rw (le-ltb 32 (length ps) fits, carved)

        pub six : disjoint (pieces ++ joined) ≡ false → 6 ≡ number
        six e = sym (after_7 ∙ rw e)

        pub fills : disjoint (pieces ++ joined) ≡ true → 0 ≡ number
        fills e = sym (after_7 ∙ rw e)

      pub filled : filled_record pieces joined ≡ record_of (booted (extents xs))
      unfolding booted
      filled = rw (pieces_are, joined_are, p.is)
