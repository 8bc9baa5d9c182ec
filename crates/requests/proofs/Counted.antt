-- Requests by count, test by test.
use Prim.Native.Nat.{ℕ, ◌+◌, ◌-◌, ◌≤◌, ◌<◌}
use native.Mathlib.Omega.{arith}
use mathlib.Core.Path.{◌≡◌, refl, sym, ap, subst, ◌∙◌}
use mathlib.Core.Bool.{Bool, true}
use mathlib.Core.List.{List}
use borrow.Author.Tests.{eq-eqb, ne_eqb, lt-ltb, le-ltb}
use Rattle.memory_structs.specs.Range.{range, top, address_limit}
use Rattle.model.specs.Lists.{Lists, Slot, range_at}
use Rattle.std.specs.Prelude.{Option}
use Rattle.std.specs.Prelude.{None, Some}
use Rattle.model.specs.Requests.{refused, take_general, from_place, large_enough, by_count, frames_of, by_bytes}
use Rattle.model.specs.Rules.{tidy}
use Rattle.lists.specs.declared.header.WhichList.TheVariants.{GeneralFree}
use Rattle.request_search.specs.declared.Chosen.{Chosen}
use Rattle.request_grants.specs.Grants.{Chooses}
use Rattle.request_grants.proofs.Chosen.{place_chooses, place_low}
use Rattle.request_search.specs.Searches.{one_chunk}
use Rattle.request_taking.specs.Takes.{taken}
use Rattle.request_taking.proofs.Taken.{general_taken}

-- by count
module _ (n : ℕ) (l : Lists) where
  pub count_none : n ≡ 0 → by_count n l ≡ refused 1 l
  unfolding by_count
  count_none e = rw (eq-eqb n 0 e)

  pub count_on : (n ≡ 0 → ⊥) → (q : Option ℕ) → large_enough l.sorted n l.general_free ≡ q → by_count n l ≡ from_place l n q
  unfolding by_count
  count_on k q e = rw (ne_eqb n 0 k) (ap (from_place l n) e)

  pub no_chunk : from_place l n None ≡ refused 14 l
  unfolding from_place
  no_chunk = refl

-- in bytes
pub bytes_over : (b : ℕ) (l : Lists) → address_limit < b → by_bytes b l ≡ refused 2 l
unfolding by_bytes
bytes_over b l h = rw (lt-ltb address_limit b h)

pub bytes_on : (b n : ℕ) (l : Lists) → b ≤ address_limit → n ≡ frames_of b → by_count n l ≡ by_bytes b l
unfolding by_bytes
bytes_on b n l h e = rw (le-ltb address_limit b h, e) refl

-- the beginning of the chunk at i
pub place_taken : (l : Lists) (n i : ℕ) (c : Chosen) (end : ℕ) → 0 < n → c ≡ one_chunk i (range_at l.general_free i) → end ≡ c.range.start + (n - 1) → from_place l n (Some i) ≡ taken GeneralFree c (range c.range.start end) l
unfolding from_place
place_taken l n i c end h e d =
    let k : (range_at l.general_free i).start + n - 1 ≡ end = omega (arith, ap (λ (x : Chosen). x.range.start) e) in
    let e' : one_chunk i (range_at l.general_free i) ≡ c = sym e in
    (λ j. take_general l (e' j).first (e' j).many (e' j).range (range (e' j).range.start (k j)))
    ∙ sym (general_taken c (range c.range.start end) l)

-- it may be granted from, and its frames end at or below the top
module _ (sorted : Bool) (s : List Slot) (n i : ℕ) (some : 0 < n) (e : large_enough sorted n s ≡ Some i) (c : Chosen) (p : c ≡ one_chunk i (range_at s i)) where
  pub beginning_chosen : Chooses sorted s c (range c.range.start (c.range.start + (n - 1)))
  beginning_chosen =
      let same : (range_at s i).start + n - 1 ≡ (range_at s i).start + (n - 1) = omega arith in
      subst (λ (x : Chosen). Chooses sorted s x (range x.range.start (x.range.start + (n - 1)))) (sym p)
      (subst (λ (m : ℕ). Chooses sorted s (one_chunk i (range_at s i)) (range (range_at s i).start m)) same (place_chooses sorted s n i some e))

  pub beginning_low : tidy sorted s ≡ true → c.range.start + n - 1 ≤ top
  beginning_low t = subst (λ (x : Chosen). x.range.start + n - 1 ≤ top) (sym p) (place_low sorted s n i some e t)
