-- Requests, test by test and by what the searches find.
use Prim.Native.Nat.{ℕ, ◌+◌, ◌-◌, ◌/◌, ◌%◌, ◌≤◌, ◌<◌}
use native.Mathlib.Omega.{arith}
use mathlib.Core.Path.{◌≡◌, refl, ap, subst}
use mathlib.Core.Bool.{Bool, true, false}
use mathlib.Core.List.{List}
use lib.Dec.{ltb, eqb}
use borrow.Author.Tests.{eq-eqb, ne_eqb, eqb-false, ltb-false, lt-ltb, le-ltb, le-leb, lt-leb}
use Rattle.std.specs.Prelude.{if◌then◌else◌}
use Rattle.std.specs.Prelude.{Ok, Err}
use Rattle.std.specs.Prelude.{Result as Outcome}
use Rattle.memory_structs.specs.Range.{range, top, address_limit, frame_size}
use Rattle.memory_structs.specs.declared.range.FrameRange.{FrameRange}
use Rattle.model.specs.Lists.{Lists}
use Rattle.model.specs.Requests.{Result, find, refused, refused_missing, frames_of, in_reserved, by_address, by_address_bytes, only_general, by_address_general}
use Rattle.model.specs.declared.refusals.Refusal.{Refusal}
use Rattle.model.specs.declared.refusals.Refusal.TheVariants.{NoFrames, OutOfBounds, Missing}
use Rattle.lists.specs.declared.header.Header.{Header}
use Rattle.lists.specs.Whole.{lists_in, answered_by, Ruled, Does}
use Rattle.lists.proofs.Whole.{does_refuse, does_leave}
use Rattle.requests.specs.Asks.{asked_range}

-- 1 and 2
module _ (f n : ℕ) where
  pub one : n ≡ 0 → Err NoFrames ≡ asked_range f n
  unfolding asked_range
  one e = rw (eq-eqb n 0 e)

  module _ (k : n ≡ 0 → ⊥) where
    pub two : top < f + n - 1 → Err OutOfBounds ≡ asked_range f n
    unfolding asked_range
    two h = rw (ne_eqb n 0 k, lt-ltb top (f + n - 1) h)

    pub in_bounds : f + n - 1 ≤ top → (end : ℕ) → end ≡ f + (n - 1) → Ok (range f end) ≡ asked_range f n
    unfolding asked_range
    in_bounds h end e =
        let same : end ≡ f + n - 1 = omega (arith, k) in
        rw (ne_eqb n 0 k, le-ltb top (f + n - 1) h, same)

  -- what it says of the frames
  pub record Asked (r : FrameRange) : Type 0 where
    pub some : n ≡ 0 → ⊥
    pub low : f + n - 1 ≤ top
    pub is : r ≡ range f (f + n - 1)

  abbrev check : Bool → Bool → Outcome FrameRange Refusal
  check x y = if x then Err NoFrames else if y then Err OutOfBounds else Ok (range f (f + n - 1))

  pub asked : (r : FrameRange) → asked_range f n ≡ Ok r → Asked r
  unfolding asked_range
  asked r e = go (eqb n 0) (ltb top (f + n - 1)) refl refl e
    where
      go : (x y : Bool) → eqb n 0 ≡ x → ltb top (f + n - 1) ≡ y → check x y ≡ Ok r → Asked r
      go true y p q h = absurd (cc)
      go false true p q h = absurd (cc)
      go false false p q h = record { some = eqb-false n 0 p; low = ltb-false top (f + n - 1) q; is = cc }

  pub some_frames : (r : FrameRange) → asked_range f n ≡ Ok r → r.start ≤ r.end
  some_frames r e = let k = asked r e in omega (arith, k.some, ap (λ (x : FrameRange). x.start) k.is, ap (λ (x : FrameRange). x.end) k.is)

  module _ (h : Header) (ws : List ℕ) (u : Ruled h ws) (e : Refusal) (k : asked_range f n ≡ Err e) where
    refused_by : (o : Result) → Does (if eqb n 0 then refused 1 (lists_in h ws) else if ltb top (f + n - 1) then refused 2 (lists_in h ws) else o) ws (answered_by h (Err e)) ws
    unfolding asked_range
    refused_by o = go (eqb n 0) (ltb top (f + n - 1)) k
      where
        go : (x y : Bool) → check x y ≡ Err e → Does (if x then refused 1 (lists_in h ws) else if y then refused 2 (lists_in h ws) else o) ws (answered_by h (Err e)) ws
        go true y p = let q : NoFrames ≡ e = cc in subst (λ (x : Refusal). Does (refused 1 (lists_in h ws)) ws (answered_by h (Err x)) ws) q (does_refuse h ws u 1 _ refl)
        go false true p = let q : OutOfBounds ≡ e = cc in subst (λ (x : Refusal). Does (refused 2 (lists_in h ws)) ws (answered_by h (Err x)) ws) q (does_refuse h ws u 2 _ refl)
        go false false p = absurd (cc)

    pub address_refused : Does (by_address f n (lists_in h ws)) ws (answered_by h (Err e)) ws
    unfolding by_address
    address_refused = refused_by _

    pub general_refused : Does (by_address_general f n (lists_in h ws)) ws (answered_by h (Err e)) ws
    unfolding by_address_general
    general_refused = refused_by _

  -- the frames from f to the end
  module _ (l : Lists) (r : FrameRange) (e : asked_range f n ≡ Ok r) where
    pub address_on : by_address f n l ≡ in_reserved l r (find l.sorted r l.reserved_free)
    unfolding by_address
    address_on = let k = asked r e in rw (ne_eqb n 0 k.some, le-ltb top (f + n - 1) k.low, k.is) refl

    pub general_on : by_address_general f n l ≡ only_general l r (find l.sorted r l.general_free)
    unfolding by_address_general
    general_on = let k = asked r e in rw (ne_eqb n 0 k.some, le-ltb top (f + n - 1) k.low, k.is) refl

-- in bytes
module _ (x b : ℕ) (l : Lists) where
  pub address_over : address_limit ≤ x → by_address_bytes x b l ≡ refused 2 l
  unfolding by_address_bytes
  address_over h = rw (le-leb address_limit x h)

  pub address_bytes_over : x < address_limit → address_limit < b → by_address_bytes x b l ≡ refused 2 l
  unfolding by_address_bytes
  address_bytes_over h k = rw (lt-leb address_limit x h, lt-ltb address_limit b k)

  pub address_bytes_on : x < address_limit → b ≤ address_limit → (n : ℕ) → n ≡ frames_of (b + x % frame_size) → by_address (x / frame_size) n l ≡ by_address_bytes x b l
  unfolding by_address_bytes
  address_bytes_on h k n e = rw (lt-leb address_limit x h, le-ltb address_limit b k, e) refl

-- 15 leaves the lists
pub does_miss : (h : Header) (ws : List ℕ) → Ruled h ws → (f n : ℕ) (r : Result) → r ≡ refused_missing f n (lists_in h ws) → Does r ws (answered_by h (Err (Missing f n))) ws
unfolding refused_missing
does_miss h ws u f n r p = does_leave h ws u _ r p
