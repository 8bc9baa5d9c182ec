-- The slots as they are filled: the first ranges, and unused slots after them.
use Rattle.std.proofs.Common.{◌≡◌, ℕ, suc, ◌+◌, ◌-◌, ◌<◌, ◌≤◌, List, [], ◌∷◌, ◌++◌, length, take, get_or, replicate, refl, sym, ap, ◌∙◌, arith, length-append}
use lib.ListN.{set, length-take}
use Rattle.std.proofs.lemmas.List.{map-set, take_more}
use Rattle.memory_structs.specs.Range.{range}
use Rattle.memory_structs.specs.declared.range.FrameRange.{FrameRange}
use Rattle.model.specs.Lists.{Slot, unused, used}
use Rattle.model.specs.Boot.{used_slots, early}
use Rattle.model.specs.Store.{early_of, range_in, flag_in}
use Rattle.model.specs.declared.EarlyList.{EarlyList}

-- the slot after the ranges takes the next one
next_slot : (rs : List FrameRange) (r : FrameRange) (n : ℕ) → set (used_slots rs ++ replicate (suc n) unused) (length rs) (used r) ≡ used_slots (rs ++ r ∷ []) ++ replicate n unused
unfolding used_slots
next_slot [] r n = refl
next_slot (x ∷ rs) r n = ap (λ (s : List Slot). used x ∷ s) (next_slot rs r n)

next_early : (rs : List FrameRange) (r : FrameRange) → length rs < 32 → set (early rs) (length rs) (used r) ≡ early (rs ++ r ∷ [])
unfolding early
next_early rs r h =
    let n : 32 - length rs ≡ suc (32 - length (rs ++ r ∷ [])) = omega (arith, length-append rs (r ∷ [])) in
    ap (λ (k : ℕ). set (used_slots rs ++ replicate k unused) (length rs) (used r)) n ∙ next_slot rs r (32 - length (rs ++ r ∷ []))

-- the slot at i takes the range, array by array
abbrev pub stored : EarlyList → ℕ → FrameRange → EarlyList
stored e i r = record { starts = set e.starts i r.start; ends = set e.ends i r.end; used = set e.used i 1 }

stored_slot : (s : List Slot) (i : ℕ) (r : FrameRange) → stored (early_of s) i r ≡ early_of (set s i (used r))
unfolding early_of
stored_slot s i r =
    let starts = map-set (λ (x : Slot). (range_in x).start) s i (used r) in
    let ends = map-set (λ (x : Slot). (range_in x).end) s i (used r) in
    let used_are = map-set flag_in s i (used r) in
    λ k. record { starts = sym starts k; ends = sym ends k; used = sym used_are k }

module _ (rs : List FrameRange) (few : length rs ≤ 32) (i : ℕ) (h : i < length rs) (e : EarlyList) (is : e ≡ early_of (early (take i rs))) where
  pub filled_next : stored e i (get_or rs i (range 0 0)) ≡ early_of (early (take (i + 1) rs))
  filled_next =
      let r = get_or rs i (range 0 0) in
      let n : length (take i rs) ≡ i = omega (arith, length-take i rs) in
      ap (λ (x : EarlyList). stored x i r) is ∙ stored_slot (early (take i rs)) i r
      ∙ ap early_of
      (ap (λ (k : ℕ). set (early (take i rs)) k (used r)) (sym n)
      ∙ next_early (take i rs) r (omega arith)
      ∙ ap early (sym (take_more rs i (range 0 0) h)))

pub filled_start : (e : EarlyList) → e ≡ early_of (replicate 32 unused) → e ≡ early_of (early [])
unfolding early used_slots
filled_start e q = q
