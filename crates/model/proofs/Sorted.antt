-- Sorting changes no rule: four lists of 32 slots keep the rules just where the sorted ones do (`sorted_rules`). So one set of walks tests
-- both forms.
use Prim.Native.Nat.{◌≤◌}
use native.Mathlib.Omega.{arith}
use mathlib.Core.Path.{◌≡◌, refl, sym}
use mathlib.Core.Bool.{Bool, true, false}
use mathlib.Core.List.{List, [], ◌∷◌}
use lib.ListN.{length}
use lib.Dec.{ltb}
use Rattle.std.specs.Prelude.{if◌then◌else◌}
use Rattle.memory_structs.specs.declared.range.FrameRange.{FrameRange}
use Rattle.model.specs.Lists.{Lists, Slot, unused, used, entries, insert_sorted, bound}
use Rattle.model.specs.Requests.{counted}
use Rattle.model.specs.Returns.{sorted_of, sort}
use Rattle.model.specs.Rules.{rules}
use Rattle.model.proofs.Cover.{count}
use Rattle.model.proofs.Lawful.{Sound, AllSound, Shape}
use Rattle.model.proofs.Ruled.{rules_lawful, lawful_rules}
use Rattle.model.proofs.Returns.{sorts, sort_step}
use Rattle.model.proofs.Plainly.{fewer_entries}

-- what goes in is sound where the list after it is
inserted_sound : (r : FrameRange) (s : List Slot) → AllSound (insert_sorted r s) → Sound r × AllSound s
unfolding insert_sorted AllSound
inserted_sound r [] h = h
inserted_sound r (unused ∷ s) h = inserted_sound r s h
inserted_sound r (used x ∷ s) h = go (ltb r.start x.start) h (inserted_sound r s)
  where
    go : (b : Bool) → AllSound (if b then used r ∷ used x ∷ s else used x ∷ insert_sorted r s) → (AllSound (insert_sorted r s) → Sound r × AllSound s) → Sound r × AllSound (used x ∷ s)
    go true a more = a
    go false a more = let rest = more a.1 in (rest.0, (a.0, rest.1))

unsorted_sound : (s : List Slot) → AllSound (sorted_of (entries s)) → AllSound s
unfolding sorted_of entries AllSound
unsorted_sound [] h = tt
unsorted_sound (unused ∷ s) h = unsorted_sound s h
unsorted_sound (used r ∷ s) h = let rest = inserted_sound r (sorted_of (entries s)) h in (rest.0, unsorted_sound s rest.1)

-- one list of 32 slots, by what the sorted one is
unsorted_shape : (s : List Slot) → length s ≡ 32 → AllSound (sorted_of (entries s)) → Shape false s
unsorted_shape s n h = record { slots = n; sound = unsorted_sound s h }

few_slots : (s : List Slot) → length s ≡ 32 → count s ≤ bound false
unfolding bound
few_slots s n = omega (arith, fewer_entries s)

both_ways : (b c : Bool) → (b ≡ true → c ≡ true) → (c ≡ true → b ≡ true) → b ≡ c
both_ways true c f g = sym (f refl)
both_ways false true f g = g refl
both_ways false false f g = refl

module _ (gf rf gr rr : List Slot) where
  abbrev early : Lists
  early = record { sorted = false; general_free = gf; reserved_free = rf; general_regions = gr; reserved_regions = rr }

  pub sorted_rules : length gf ≡ 32 → length rf ≡ 32 → length gr ≡ 32 → length rr ≡ 32 → rules (sort early).lists ≡ rules early
  unfolding sort counted
  sorted_rules n₀ n₁ n₂ n₃ = both_ways (rules (sort early).lists) (rules early) back (λ e. lawful_rules (sort early).lists (sort_step early (rules_lawful early e)).lawful)
    where
      back : rules (sort early).lists ≡ true → rules early ≡ true
      back e =
          let m = rules_lawful (sort early).lists e in
          let p₀ = sorts gf (unsorted_sound gf m.shape_gf.sound) in
          let p₁ = sorts rf (unsorted_sound rf m.shape_rf.sound) in
          let p₂ = sorts gr (unsorted_sound gr m.shape_gr.sound) in
          let p₃ = sorts rr (unsorted_sound rr m.shape_rr.sound) in
          lawful_rules early (record {
            general = λ f. omega (arith, p₀.same f, p₂.same f, m.general f);
            reserved = λ f. omega (arith, p₁.same f, p₃.same f, m.reserved f);
            apart = λ f. omega (arith, p₂.same f, p₃.same f, m.apart f);
            shape_gf = unsorted_shape gf n₀ m.shape_gf.sound;
            shape_rf = unsorted_shape rf n₁ m.shape_rf.sound;
            shape_gr = unsorted_shape gr n₂ m.shape_gr.sound;
            shape_rr = unsorted_shape rr n₃ m.shape_rr.sound;
            few_gf = few_slots gf n₀;
            few_rf = few_slots rf n₁;
            few_gr = few_slots gr n₂;
            few_rr = few_slots rr n₃;
          })
