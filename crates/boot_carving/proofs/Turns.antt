-- The turns of carving: an area is carved by the reserved ones passed, and what is left of it by those to come.
use Rattle.std.proofs.Common.{◌≡◌, ℕ, zero, suc, ◌+◌, ◌-◌, ◌≤◌, ◌<◌, Bool, true, false, List, [], ◌∷◌, ◌++◌, length, get_or, take, drop, sym, ap, ◌∙◌, arith, add-one, drop-cons, length-append}
use Rattle.std.proofs.lemmas.List.{take-append-le}
use mathlib.Core.List.{append_assoc}
use lib.ListN.{drop_of_length-le}
use lib.Dec.{leb}
use borrow.Author.Tests.{le-leb, lt-leb, leb-true, ltb-false}
use Rattle.memory_structs.specs.Range.{range, is_empty, top}
use Rattle.memory_structs.specs.declared.range.FrameRange.{FrameRange}
use Rattle.memory_structs.proofs.Bools.{both_first, both_second, neither_first, neither_second}
use Rattle.model.specs.Lists.{any_of, all_of}
use Rattle.model.specs.Carving.{piece, past, walk, pieces}
use Rattle.model.proofs.Boots.{past_from}
use Rattle.model.proofs.Carved.{pieces_walk}
use Rattle.boot_carving.specs.Ranges.{Carvable}

-- where an area starts in the piece after that, the piece starts below it
pub below_start : (r : FrameRange) (s : ℕ) → r.start ≤ r.end → past r s ≤ r.start → past r s < r.start
unfolding past
below_start r s h p = grind arith

any_at : (p : FrameRange → Bool) (i : ℕ) (rs ts : List FrameRange) (r : FrameRange) → any_of p rs ≡ false → drop i rs ≡ r ∷ ts → p r ≡ false
unfolding any_of
any_at p zero rs ts r h e = neither_first (p r) (any_of p ts) (ap (any_of p) (sym e) ∙ h)
any_at p (suc i) [] ts r h e = absurd (let w : ◌≡◌ {A = ℕ} 0 1 = cc in omega arith)
any_at p (suc i) (x ∷ rs) ts r h e = any_at p i rs ts r (neither_second (p x) (any_of p rs) h) e

all_at : (p : FrameRange → Bool) (i : ℕ) (rs ts : List FrameRange) (r : FrameRange) → all_of p rs ≡ true → drop i rs ≡ r ∷ ts → p r ≡ true
unfolding all_of
all_at p zero rs ts r h e = both_first (p r) (all_of p ts) (ap (all_of p) (sym e) ∙ h)
all_at p (suc i) [] ts r h e = absurd (let w : ◌≡◌ {A = ℕ} 0 1 = cc in omega arith)
all_at p (suc i) (x ∷ rs) ts r h e = all_at p i rs ts r (both_second (p x) (all_of p rs) h) e

-- the pieces that were there, those added, and what is still to be carved
pub record Turn (rs : List FrameRange) (a : FrameRange) (p₀ p : List FrameRange) (s e i : ℕ) : Type 0 where
  pub low : a.start ≤ s
  pub high : e ≤ a.end
  pub left : p₀ ++ pieces rs a ≡ p ++ walk (λ x y. pieces rs (range x y)) (drop i rs) s e

module _ (rs : List FrameRange) (ok : Carvable rs) where
  abbrev above : ℕ → ℕ → List FrameRange
  above x y = pieces rs (range x y)

  abbrev at : ℕ → FrameRange
  at i = get_or rs i (range 0 0)

  pub turn_start : (a : FrameRange) (p : List FrameRange) → Turn rs a p p a.start a.end 0
  turn_start a p = record {
    low = omega arith;
    high = omega arith;
    left = ap (λ (l : List FrameRange). p ++ l) (pieces_walk rs ok.filled a);
  }

  module _ (i : ℕ) (h : i < length rs) where
    here : drop i rs ≡ at i ∷ drop (i + 1) rs
    here = drop-cons rs i (range 0 0) h ∙ rw add-one

    pub area_filled : (at i).start ≤ (at i).end
    area_filled = ltb-false _ _ (any_at is_empty i rs (drop (i + 1) rs) (at i) ok.filled here)

    pub area_low : (at i).end ≤ top
    area_low = leb-true _ _ (all_at (λ x. leb x.end top) i rs (drop (i + 1) rs) (at i) ok.low here)

  module _ (a : FrameRange) (p₀ p : List FrameRange) (s e i : ℕ) (t : Turn rs a p₀ p s e i) where
    -- the areas have been passed
    pub carved_end : length rs ≤ i → p₀ ++ pieces rs a ≡ p ++ piece s e
    unfolding walk
    carved_end h = t.left ∙ ap (λ (l : List FrameRange). p ++ walk above l s e) (drop_of_length-le rs {i = i} h)

    pub end_first : length rs ≤ i → take 32 (p ++ piece s e) ≡ take 32 (p₀ ++ pieces rs a)
    end_first h = sym (ap (take 32) (carved_end h))

    module _ (h : i < length rs) where
      abbrev r : FrameRange
      r = at i

      -- what the area at i makes of what is left
      step : p₀ ++ pieces rs a ≡ p ++ walk above (r ∷ drop (i + 1) rs) s e
      step = t.left ∙ ap (λ (l : List FrameRange). p ++ walk above l s e) (here i h)

      -- it starts outside the piece
      pub area_below : r.start < past r s → Turn rs a p₀ p (past r s) e (i + 1)
      unfolding walk
      area_below c = record {
        low = omega (arith, t.low, past_from r s);
        high = t.high;
        left = step ∙ rw (lt-leb (past r s) r.start c);
      }

      pub area_above : past r s ≤ r.start → e < r.start → Turn rs a p₀ p (past r s) e (i + 1)
      unfolding walk
      area_above b c = record {
        low = omega (arith, t.low, past_from r s);
        high = t.high;
        left = step ∙ rw (le-leb (past r s) r.start b, lt-leb r.start e c);
      }

      module _ (b : past r s ≤ r.start) (c : r.start ≤ e) where
        pub starts_above : past r s < r.start
        starts_above = below_start r s (area_filled i h) b

        -- the part above it has fewer frames than the area
        pub part_smaller : (e + 1) - (r.end + 1) < (a.end + 1) - a.start
        part_smaller = omega (arith, t.low, t.high, past_from r s, area_filled i h)

        -- it reaches the piece's end
        pub carved_stop : e ≤ r.end → p₀ ++ pieces rs a ≡ p ++ piece (past r s) (r.start - 1)
        unfolding walk
        carved_stop d = step ∙ rw (le-leb (past r s) r.start b, le-leb r.start e c, le-leb e r.end d)

        pub stop_first : e ≤ r.end → take 32 (p ++ piece (past r s) (r.start - 1)) ≡ take 32 (p₀ ++ pieces rs a)
        stop_first d = sym (ap (take 32) (carved_stop d))

        module _ (d : r.end < e) where
          -- the part above it is to be carved
          pub part : p₀ ++ pieces rs a ≡ (p ++ above (r.end + 1) e) ++ walk above (drop (i + 1) rs) (past r s) (r.start - 1)
          unfolding walk
          part = step ∙ rw (le-leb (past r s) r.start b, le-leb r.start e c, lt-leb e r.end d)
              (sym (append_assoc p (above (r.end + 1) e) (walk above (drop (i + 1) rs) (past r s) (r.start - 1))))

          -- and is carved
          pub part_above : (q : List FrameRange) → q ≡ p ++ above (r.end + 1) e → Turn rs a p₀ q (past r s) (r.start - 1) (i + 1)
          part_above q f = record {
            low = omega (arith, t.low, past_from r s);
            high = omega (arith, t.high);
            left = part ∙ ap (λ (l : List FrameRange). l ++ walk above (drop (i + 1) rs) (past r s) (r.start - 1)) (sym f);
          }

          -- or has too many pieces
          pub part_many : 32 < length (p ++ above (r.end + 1) e) → 32 < length (p₀ ++ pieces rs a)
          part_many m = omega (arith, ap length part, length-append (p ++ above (r.end + 1) e) (walk above (drop (i + 1) rs) (past r s) (r.start - 1)))

          -- and the first 32 of them are the first 32 of all
          pub part_first : 32 < length (p ++ above (r.end + 1) e) → take 32 (p ++ above (r.end + 1) e) ≡ take 32 (p₀ ++ pieces rs a)
          part_first m = sym (ap (take 32) part ∙ take-append-le 32 (p ++ above (r.end + 1) e) (walk above (drop (i + 1) rs) (past r s) (r.start - 1)) (omega (arith, m)))
