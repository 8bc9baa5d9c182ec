-- The turns of joining: of the first area over the others, of a pass over the areas, and of the passes.
use Rattle.std.proofs.Common.{◌≡◌, ℕ, zero, suc, ◌+◌, ◌≤◌, ◌<◌, Bool, true, false, List, [], ◌∷◌, ◌++◌, length, get_or, drop, refl, sym, ap, ◌∙◌, arith, add-one, drop-cons, length-append}
use Rattle.std.specs.Prelude.{if◌then◌else◌}
use mathlib.Core.Path.{ap₂}
use mathlib.Core.List.{append_assoc, append-nil}
use lib.ListN.{drop_of_length-le}
use borrow.Author.Tests.{eq-eqb, ne_eqb}
use Rattle.memory_structs.specs.Range.{range, meets, hull}
use Rattle.memory_structs.specs.declared.range.FrameRange.{FrameRange}
use Rattle.model.specs.Boot.{grown, left, pass, join}
use Rattle.model.proofs.Boots.{left_length, pass_length}
use Rattle.model.proofs.Joined.{one_pass, pass_step, join_step}

-- what the first area, as it has grown, and the others from k on make
pub record Absorbing (first : FrameRange) (others : List FrameRange) (area : FrameRange) (rest : List FrameRange) (k : ℕ) : Type 0 where
  pub few : length rest ≤ k
  pub grows : grown first others ≡ grown area (drop k others)
  pub leaves : left first others ≡ rest ++ left area (drop k others)

module _ (first : FrameRange) (others : List FrameRange) where
  pub absorb_start : Absorbing first others first [] 0
  absorb_start = record { few = omega arith; grows = refl; leaves = refl }

  module _ (area : FrameRange) (rest : List FrameRange) (k : ℕ) (a : Absorbing first others area rest k) where
    module _ (h : length others ≤ k) where
      none : drop k others ≡ []
      none = drop_of_length-le others {i = k} h

      pub absorb_area : area ≡ grown first others
      unfolding grown
      absorb_area = sym (a.grows ∙ ap (grown area) none)

      pub absorb_rest : rest ≡ left first others
      unfolding left
      absorb_rest = sym (a.leaves ∙ ap (λ (x : List FrameRange). rest ++ left area x) none ∙ append-nil rest)

    module _ (h : k < length others) where
      abbrev other : FrameRange
      other = get_or others k (range 0 0)

      here : drop k others ≡ other ∷ drop (k + 1) others
      here = drop-cons others k (range 0 0) h ∙ rw add-one

      pub absorb_met : meets area other ≡ true → Absorbing first others (hull area other) rest (k + 1)
      unfolding grown left
      absorb_met m = record {
        few = omega (arith, a.few);
        grows = a.grows ∙ ap (grown area) here ∙ rw (grown, m);
        leaves = a.leaves ∙ ap (λ (x : List FrameRange). rest ++ left area x) here ∙ rw m;
      }

      pub absorb_not : meets area other ≡ false → (next : List FrameRange) → next ≡ rest ++ other ∷ [] → Absorbing first others area next (k + 1)
      unfolding grown left
      absorb_not m next e = record {
        few = omega (arith, a.few, ap length e, length-append rest (other ∷ []));
        grows = a.grows ∙ ap (grown area) here ∙ rw (grown, m);
        leaves = a.leaves ∙ ap (λ (x : List FrameRange). rest ++ left area x) here ∙ rw (m, e)
            (sym (append_assoc rest (other ∷ []) (left area (drop (k + 1) others))));
      }

-- the areas joined, and those left
pub record Passing (rs joined todo : List FrameRange) : Type 0 where
  pub few : length joined + length todo ≤ 32
  pub whole : one_pass rs ≡ joined ++ one_pass todo

module _ (rs joined todo : List FrameRange) (p : Passing rs joined todo) where
  pub passing_end : length todo ≡ 0 → joined ≡ one_pass rs
  unfolding pass
  passing_end h = sym (p.whole ∙ go todo h)
    where
      go : (l : List FrameRange) → length l ≡ 0 → joined ++ one_pass l ≡ joined
      go [] e = append-nil joined
      go (r ∷ l) e = absurd (omega arith)

  module _ (c : FrameRange) (os : List FrameRange) (is : todo ≡ c ∷ os) (rest : List FrameRange) (l : rest ≡ left c os) where
    pub passing_smaller : length rest < length todo
    passing_smaller = omega (arith, left_length c os, ap length is, ap length l)

    pub passing_more : (area : FrameRange) (next : List FrameRange) → area ≡ grown c os → next ≡ joined ++ area ∷ [] → Passing rs next rest
    passing_more area next g e = record {
      few = omega (arith, p.few, passing_smaller, ap length e, length-append joined (area ∷ []));
      whole =
          p.whole ∙ ap (λ (x : List FrameRange). joined ++ one_pass x) is
          ∙ ap (λ (x : List FrameRange). joined ++ x) (pass_step c os ∙ ap (λ (x : FrameRange). x ∷ one_pass (left c os)) (sym g))
          ∙ sym (append_assoc joined (area ∷ []) (one_pass (left c os))) ∙ rw (e, l);
    }

-- a pass that joins nothing changes nothing
left_same : (c : FrameRange) (os : List FrameRange) → length (left c os) ≡ length os → (left c os ≡ os) × (grown c os ≡ c)
unfolding left grown
left_same c [] h = (refl, refl)
left_same c (o ∷ os) h = go (meets c o) (left_length (hull c o) os) (left_same c os) h
  where
    go : (b : Bool) → length (left (hull c o) os) ≤ length os → (length (left c os) ≡ length os → (left c os ≡ os) × (grown c os ≡ c)) →
        length (if b then left (hull c o) os else o ∷ left c os) ≡ suc (length os) →
        ((if b then left (hull c o) os else o ∷ left c os) ≡ o ∷ os) × (grown (if b then hull c o else c) os ≡ c)
    go true l ih h = absurd (omega arith)
    go false l ih h = let k : length (left c os) ≡ length os = omega arith in (ap (λ (x : List FrameRange). o ∷ x) (ih k).0, (ih k).1)

pass_same : (n : ℕ) (rs : List FrameRange) → length (pass n rs) ≡ length rs → pass n rs ≡ rs
unfolding pass
pass_same zero rs e = refl
pass_same (suc n) [] e = refl
pass_same (suc n) (r ∷ rs) e =
    let k : length (left r rs) ≡ length rs = omega (arith, left_length r rs, pass_length n (left r rs)) in
    let same = left_same r rs k in
    ap₂ ◌∷◌ same.1 (pass_same n (left r rs) (omega arith) ∙ same.0)

-- passes until one joins nothing
module _ (rs next : List FrameRange) (e : next ≡ one_pass rs) where
  pub join_ends : length next ≡ length rs → next ≡ join rs
  join_ends h =
      let same : length (one_pass rs) ≡ length rs = omega (arith, ap length e) in
      e ∙ pass_same (length rs) rs same ∙ sym (join_step rs ∙ rw (eq-eqb (length (one_pass rs)) (length rs) same))

  pub join_again : (length next ≡ length rs → ⊥) → join rs ≡ join next
  join_again h = join_step rs ∙ rw (ne_eqb (length (one_pass rs)) (length rs) (λ q. h (ap length e ∙ q))) (ap join (sym e))

  pub join_smaller : (length next ≡ length rs → ⊥) → length next < length rs
  join_smaller h = omega (arith, pass_length (length rs) rs, ap length e)
