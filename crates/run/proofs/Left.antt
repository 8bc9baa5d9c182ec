-- The calls that are left, and how the run will end, after so many calls.
use Prim.Native.Nat.{ℕ, suc, ◌+◌, ◌*◌, ◌-◌, ◌≤◌, ◌<◌}
use native.Mathlib.Omega.{arith}
use mathlib.Core.Path.{◌≡◌, ap, ◌∙◌}
use mathlib.Core.List.{List, [], ◌∷◌}
use lib.ListN.{length, take, drop, get_or}
use lib.Seq.{take-nil}
use Rattle.model.specs.Calls.{Call}
use Rattle.boot_areas.proofs.Read.{next_three, none_left}
use Rattle.run_calls.specs.Commands.{decoded, call_in}
use Rattle.run_calls.specs.declared.RunCall.{RunCall}
use Rattle.std.specs.Prelude.{Option, Some, None}
use Rattle.run.specs.declared.RunEnd.{RunEnd}
use Rattle.run.specs.declared.RunEnd.TheVariants as end
use Rattle.run.specs.Runs.{decoded_in, calls_in, end_of}

module _ (areas calls : List ℕ) where
  -- the words of the next call
  abbrev pub decoded_at : ℕ → Option RunCall
  decoded_at i = decoded (length areas) (get_or calls i 0) (get_or calls (i + 1) 0) (get_or calls (i + 2) 0)

  decoded_next : (made : ℕ) → 3 * made + 3 ≤ length calls → decoded_in areas (drop (3 * made) calls) ≡ decoded_at (3 * made) ∷ decoded_in areas (drop (3 * (made + 1)) calls)
  decoded_next made h =
      let e1 : suc (3 * made) ≡ 3 * made + 1 = omega arith in
      let e2 : suc (suc (3 * made)) ≡ 3 * made + 2 = omega arith in
      let e3 : suc (suc (suc (3 * made))) ≡ 3 * (made + 1) = omega arith in
      next_three (decoded (length areas)) calls (3 * made) h
      ∙ (λ i. decoded (length areas) (get_or calls (3 * made) 0) (get_or calls (e1 i) 0) (get_or calls (e2 i) 0) ∷ decoded_in areas (drop (e3 i) calls))

  module _ (buffer room : ℕ) where
    unfoldable pub left : ℕ → List Call
    left made = take (room - made) (calls_in areas buffer (decoded_in areas (drop (3 * made) calls)))

    unfoldable pub end_left : ℕ → RunEnd
    end_left made = end_of (room - made) (decoded_in areas (drop (3 * made) calls))

    module _ (made : ℕ) where
      -- no whole call is left
      module _ (h : length calls < 3 * made + 3) where
        pub left_done : left made ≡ []
        unfolding left calls_in
        left_done = ap (λ (ds : List (Option RunCall)). take (room - made) (calls_in areas buffer ds)) (none_left (decoded (length areas)) calls (3 * made) h) ∙ take-nil (room - made)

        pub end_done : end_left made ≡ end.Done
        unfolding end_left end_of
        end_done = ap (end_of (room - made)) (none_left (decoded (length areas)) calls (3 * made) h)

      module _ (h : 3 * made + 3 ≤ length calls) where
        abbrev rest : List (Option RunCall)
        rest = decoded_in areas (drop (3 * (made + 1)) calls)

        -- the next is damaged
        module _ (e : decoded_at (3 * made) ≡ None) where
          heads : decoded_in areas (drop (3 * made) calls) ≡ None ∷ rest
          heads = decoded_next made h ∙ ap (λ (d : Option RunCall). d ∷ rest) e

          pub left_damaged : left made ≡ []
          unfolding left calls_in
          left_damaged = ap (λ (ds : List (Option RunCall)). take (room - made) (calls_in areas buffer ds)) heads ∙ take-nil (room - made)

          pub end_damaged : end_left made ≡ end.Damaged
          unfolding end_left end_of
          end_damaged = ap (end_of (room - made)) heads

        module _ (c : RunCall) (e : decoded_at (3 * made) ≡ Some c) where
          begins : decoded_in areas (drop (3 * made) calls) ≡ Some c ∷ rest
          begins = decoded_next made h ∙ ap (λ (d : Option RunCall). d ∷ rest) e

          -- there is no room for its answer
          module _ (full : room ≤ made) where
            pub left_full : left made ≡ []
            unfolding left
            left_full =
                let z : room - made ≡ 0 = omega arith in
                ap (λ (n : ℕ). take n (calls_in areas buffer (decoded_in areas (drop (3 * made) calls)))) z

            pub end_full : end_left made ≡ end.NoRoom
            unfolding end_left end_of
            end_full =
                let z : room - made ≡ 0 = omega arith in
                (λ i. end_of (z i) (begins i))

          -- there is
          module _ (more : made < room) where
            pub left_next : left made ≡ call_in areas buffer c ∷ left (made + 1)
            unfolding left calls_in
            left_next =
                let z : room - made ≡ suc (room - (made + 1)) = omega arith in
                (λ i. take (z i) (calls_in areas buffer (begins i)))

            pub end_next : end_left made ≡ end_left (made + 1)
            unfolding end_left end_of
            end_next =
                let z : room - made ≡ suc (room - (made + 1)) = omega arith in
                (λ i. end_of (z i) (begins i))
