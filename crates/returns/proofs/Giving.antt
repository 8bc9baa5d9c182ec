-- A return, test by test.
use native.Mathlib.Omega.{arith}
use Prim.Native.Nat.{ℕ, ◌+◌, ◌-◌, ◌≤◌, max}
use mathlib.Core.Path.{◌≡◌, refl, sym, ap, subst, ◌∙◌}
use mathlib.Core.Bool.{Bool, true, false}
use mathlib.Core.List.{List}
use lib.ListN.{take, drop}
use borrow.Rule.Slice.PartMut.{put_mid}
use Rattle.std.specs.Prelude.{Option, None, Some}
use borrow.Author.Tests.{ltb-false}
use Rattle.memory_structs.specs.Range.{is_empty, above_top, meets, top}
use Rattle.memory_structs.specs.declared.range.FrameRange.{FrameRange}
use Rattle.memory_structs.proofs.Bools.{if_cases}
use Rattle.model.specs.Lists.{Lists, Slot, entries, any_of, in_union}
use Rattle.model.specs.Requests.{Result, without_frames, refused, counted}
use Rattle.model.specs.Returns.{given, no_place, give_general, give_reserved, give_back}
use Rattle.lists.specs.declared.Part.{Part}
use Rattle.lists.specs.declared.header.WhichList.{WhichList}
use Rattle.lists.specs.declared.header.WhichList.TheVariants.{GeneralFree, ReservedFree}
use Rattle.lists.specs.declared.header.Header.{Header}
use Rattle.lists.specs.declared.header.HandedBack.{HandedBack}
use Rattle.lists.specs.Part.{width, part_slots}
use Rattle.lists.specs.Whole.{part_of, part_in, with_length, lists_in, slots_at, with_slots, Ruled, Does, handed_with}
use Rattle.lists.proofs.Whole.{lent_from, lent_back, same_part, does_refuse}
use Rattle.return_joining.specs.Rejoins.{GoesBack}
use Rattle.returns.specs.Given.{any_free, given_to}

module _ (r : FrameRange) (l : Lists) where
  -- to the general list and to the reserved one, as the model has it
  pub general_given : given_to GeneralFree r l ≡ give_general r l
  unfolding given_to give_general slots_at with_slots
  general_given = refl

  pub reserved_given : given_to ReservedFree r l ≡ give_reserved r l
  unfolding given_to give_reserved slots_at with_slots
  reserved_given = refl

  -- "a returned frame is free": in the general list, or else in the reserved one
  module _ {t : Bool} (e : t ≡ any_of (meets r) (entries l.general_free)) where
    pub general_free : t ≡ true → true ≡ any_free r l
    general_free h = rw (sym e ∙ h)

    pub reserved_free : t ≡ false → {u : Bool} → u ≡ any_of (meets r) (entries l.reserved_free) → u ≡ any_free r l
    reserved_free h p = rw (sym e ∙ h) p

  -- "returns: empty, 2, 19, 18"; x, y, z and t are what the code's tests say
  pub nothing_given : {t : Bool} → t ≡ is_empty r → t ≡ true → give_back r l ≡ counted 0 l
  unfolding give_back
  nothing_given e h = rw (sym e ∙ h)

  module _ {x : Bool} (filled : x ≡ is_empty r) (some : x ≡ false) where
    pub in_order : r.start ≤ r.end
    in_order = ltb-false _ _ (sym filled ∙ some)

    pub above_top_holds : {t : Bool} → t ≡ above_top r → t ≡ true → give_back r l ≡ refused 2 l
    unfolding give_back
    above_top_holds e h = rw (sym filled ∙ some, sym e ∙ h)

    module _ {y : Bool} (inside : y ≡ above_top r) (low : y ≡ false) where
      pub below_top : r.end ≤ top
      below_top = omega (arith, ltb-false top (max r.start r.end) (sym inside ∙ low))

      pub free_before : {t : Bool} → t ≡ any_free r l → t ≡ true → give_back r l ≡ refused 19 l
      unfolding give_back
      free_before e h = rw (sym filled ∙ some, sym inside ∙ low, sym e ∙ h)

      module _ {z : Bool} (free : z ≡ any_free r l) (held : z ≡ false) {g : Bool} (e : g ≡ in_union (entries l.general_regions) r) where
        pub in_general_holds : g ≡ true → give_back r l ≡ given_to GeneralFree r l
        unfolding give_back
        in_general_holds h = rw (sym filled ∙ some, sym inside ∙ low, sym free ∙ held, sym e ∙ h) (sym general_given)

        module _ (h : g ≡ false) {v : Bool} (p : v ≡ in_union (entries l.reserved_regions) r) where
          pub in_reserved_holds : v ≡ true → give_back r l ≡ given_to ReservedFree r l
          unfolding give_back
          in_reserved_holds q = rw (sym filled ∙ some, sym inside ∙ low, sym free ∙ held, sym e ∙ h, sym p ∙ q) (sym reserved_given)

          pub in_neither : v ≡ false → give_back r l ≡ refused 19 l
          unfolding give_back
          in_neither q = rw (sym filled ∙ some, sym inside ∙ low, sym free ∙ held, sym e ∙ h, sym p ∙ q)

-- a return keeps the form
pub same_form : (r : FrameRange) (l : Lists) → (give_back r l).lists.sorted ≡ l.sorted
unfolding give_back give_general give_reserved refused counted
same_form r l =
    let P : Result → Type 0 = λ o. o.lists.sorted ≡ l.sorted in
    if_cases P (is_empty r) (λ _. refl) (λ _.
    if_cases P (above_top r) (λ _. refl) (λ _.
    if_cases P (any_free r l) (λ _. refl) (λ _.
    if_cases P (in_union (entries l.general_regions) r) (λ _. if_cases P (no_place l.sorted r l.general_free) (λ _. refl) (λ _. refl)) (λ _.
    if_cases P (in_union (entries l.reserved_regions) r) (λ _. if_cases P (no_place l.sorted r l.reserved_free) (λ _. refl) (λ _. refl)) (λ _. refl)))))

-- a return to one list, in its own part, with a place and without one
module _ (r : FrameRange) (h : Header) (ws : List ℕ) (u : Ruled h ws) (w : WhichList) {p : Part} {from to : ℕ} (q : p ≡ part_in w h) (f : from ≡ part_of (width h.sorted) w) (t : to ≡ part_of (width h.sorted) w + width h.sorted) where
  abbrev lent : List ℕ
  lent = take (to - from) (drop from ws)

  abbrev slots : List Slot
  slots = slots_at w (lists_in h ws)

  module _ (g : Option ℕ) (after : List ℕ) (x : GoesBack p.sorted r (part_slots p lent) lent g after) where
    here : GoesBack h.sorted r slots lent g after
    here = lent_from h ws u w q f t (λ b s. GoesBack b r s lent g after) x

    pub no_place_holds : g ≡ None → Does (given_to w r (lists_in h ws)) ws (handed_with (without_frames 18 0) h) (put_mid from (to - from) ws after)
    unfolding given_to lists_in
    no_place_holds e =
        let z = subst (λ (o : Option ℕ). GoesBack h.sorted r slots lent o after) e here in
        subst (Does (given_to w r (lists_in h ws)) ws (handed_with (without_frames 18 0) h)) (sym (ap (put_mid from (to - from) ws) z.1 ∙ same_part from (to - from) ws))
        (does_refuse h ws u 18 _ (rw z.0))

    pub a_place : (n : ℕ) → g ≡ Some n → (d : HandedBack) → d ≡ handed_with (without_frames 0 0) (with_length w h n) → Does (given_to w r (lists_in h ws)) ws d (put_mid from (to - from) ws after)
    unfolding given_to lists_in counted
    a_place n e d y =
        let z = subst (λ (o : Option ℕ). GoesBack h.sorted r slots lent o after) e here in
        let b = lent_back h ws u w f t (given h.sorted r slots) n after z.1 in
        rw (y, z.0) (record { answers = refl; header = b.0; words = b.1 })
