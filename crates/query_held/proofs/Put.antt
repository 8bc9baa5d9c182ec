-- The words of the runs: what `put_words` does to them is what `put_run` does to the stack.
use Prim.Native.Nat.{ℕ, ◌+◌, ◌-◌, ◌*◌, ◌≤◌}
use native.Mathlib.Omega.{arith}
use native.Mathlib.Numerals.{add-one}
use mathlib.Core.Path.{◌≡◌, refl, sym, ap, ◌∙◌}
use mathlib.Core.Bool.{Bool, true, false}
use mathlib.Core.List.{List, [], ◌∷◌, ◌++◌, append_assoc}
use lib.ListN.{length, get_or, drop, set, length-append, length-drop}
use lib.Seq.{take_at, drop_at, drop-drop, set_at, get_or_at, sets-eq}
use lib.Dec.{leb, eqb}
use borrow.Author.Tests.{ne_eqb}
use Rattle.std.specs.Prelude.{if◌then◌else◌}
use Rattle.memory_structs.specs.Range.{range}
use Rattle.memory_structs.specs.declared.range.FrameRange.{FrameRange}
use Rattle.model.specs.Queries.{pairs, written}
use Rattle.query_held.specs.Runs.{touches, put_count, put_words}
use Rattle.model.proofs.HeldCount.{pairs_length}
use Rattle.query_held.proofs.Stack.{join_run, put_run, up, length_up}

pairs_snoc : (rs : List FrameRange) (r : FrameRange) → pairs (rs ++ r ∷ []) ≡ pairs rs ++ r.start ∷ r.end ∷ []
unfolding pairs
pairs_snoc [] r = refl
pairs_snoc (q ∷ rs) r = ap (λ (ws : List ℕ). q.start ∷ q.end ∷ ws) (pairs_snoc rs r)

-- the words of the stack, oldest first
abbrev words : List FrameRange → List ℕ
words rs = pairs (up rs)

words_cons : (r : FrameRange) (rs : List FrameRange) → words (r ∷ rs) ≡ words rs ++ r.start ∷ r.end ∷ []
unfolding up
words_cons r rs = pairs_snoc (up rs) r

words_length : (rs : List FrameRange) → length (words rs) ≡ 2 * length rs
words_length rs = omega (arith, pairs_length (up rs), length_up rs)

-- a buffer that held `base` before
unfoldable pub stacked : List FrameRange → List ℕ → List ℕ
stacked rs base = written (up rs) base

module _ (base : List ℕ) where
  stacked_is : (rs : List FrameRange) → stacked rs base ≡ words rs ++ drop (2 * length rs) base
  unfolding stacked written
  stacked_is rs = ap (λ (n : ℕ). words rs ++ drop n base) (words_length rs)

  pub stacked_length : (rs : List FrameRange) → 2 * length rs ≤ length base → length (stacked rs base) ≡ length base
  stacked_length rs h = ap length (stacked_is rs) ∙ omega (arith, length-append (words rs) (drop (2 * length rs) base), length-drop (2 * length rs) base, words_length rs)

  stacked_cons : (r : FrameRange) (rs : List FrameRange) → stacked (r ∷ rs) base ≡ (words rs ++ r.start ∷ []) ++ r.end ∷ drop (2 * length rs + 2) base
  stacked_cons r rs =
      let n : 2 * length (r ∷ rs) ≡ 2 * length rs + 2 = omega arith in
      stacked_is (r ∷ rs) ∙ ap (λ (ws : List ℕ). ws ++ drop (2 * length (r ∷ rs)) base) (words_cons r rs)
      ∙ ap (λ (k : ℕ). (words rs ++ r.start ∷ r.end ∷ []) ++ drop k base) n
      ∙ append_assoc (words rs) (r.start ∷ r.end ∷ []) (drop (2 * length rs + 2) base)
      ∙ sym (append_assoc (words rs) (r.start ∷ []) (r.end ∷ drop (2 * length rs + 2) base))

  head_length : (r : FrameRange) (rs : List FrameRange) → length (words rs ++ r.start ∷ []) ≡ 2 * length (r ∷ rs) - 1
  head_length r rs = omega (arith, length-append (words rs) (r.start ∷ []), words_length rs)

  -- the newest run
  last_end : (r : FrameRange) (rs : List FrameRange) → get_or (stacked (r ∷ rs) base) (2 * length (r ∷ rs) - 1) 0 ≡ r.end
  last_end r rs =
      ap (λ (ws : List ℕ). get_or ws (2 * length (r ∷ rs) - 1) 0) (stacked_cons r rs)
      ∙ get_or_at (words rs ++ r.start ∷ []) r.end (drop (2 * length rs + 2) base) 0 (2 * length (r ∷ rs) - 1) (head_length r rs)

  longer : (r : FrameRange) (rs : List FrameRange) (x : ℕ) → set (stacked (r ∷ rs) base) (2 * length (r ∷ rs) - 1) x ≡ stacked (range r.start x ∷ rs) base
  longer r rs x =
      ap (λ (ws : List ℕ). set ws (2 * length (r ∷ rs) - 1) x) (stacked_cons r rs)
      ∙ set_at (words rs ++ r.start ∷ []) r.end (drop (2 * length rs + 2) base) x (2 * length (r ∷ rs) - 1) (head_length r rs)
      ∙ sym (stacked_cons (range r.start x) rs)

  -- another run
  one_more : (rs : List FrameRange) (s x : ℕ) → 2 * length rs + 2 ≤ length base → set (set (stacked rs base) (2 * length rs) s) (2 * length rs + 1) x ≡ stacked (range s x ∷ rs) base
  one_more rs s x h =
      let n : ℕ = 2 * length rs in
      let l : List ℕ = words rs ++ drop n base in
      let fits : n + 2 ≤ length l = omega (arith, length-append (words rs) (drop n base), length-drop n base, words_length rs) in
      let same : 2 * length (range s x ∷ rs) ≡ n + 2 = omega arith in
      ap (λ (ws : List ℕ). set (set ws n s) (n + 1) x) (stacked_is rs)
      ∙ ap (λ (k : ℕ). set (set l n s) k x) (add-one n)
      ∙ sets-eq (s ∷ x ∷ []) l n fits
      ∙ ap (λ (ws : List ℕ). (ws ++ s ∷ x ∷ []) ++ drop (n + 2) l) (take_at (words rs) (drop n base) n (words_length rs))
      ∙ ap (λ (ws : List ℕ). (words rs ++ s ∷ x ∷ []) ++ ws) (sym (drop-drop 2 n l) ∙ ap (drop 2) (drop_at (words rs) (drop n base) n (words_length rs)) ∙ drop-drop 2 n base)
      ∙ ap (λ (ws : List ℕ). ws ++ drop (n + 2) base) (sym (words_cons (range s x) rs))
      ∙ ap (λ (k : ℕ). words (range s x ∷ rs) ++ drop k base) (sym same)
      ∙ sym (stacked_is (range s x ∷ rs))

  module _ (s e : ℕ) where
    touches_newest : (r : FrameRange) (rs : List FrameRange) → touches (length (r ∷ rs)) s (stacked (r ∷ rs) base) ≡ eqb (r.end + 1) s
    unfolding touches
    touches_newest r rs = rw (ne_eqb (length (r ∷ rs)) 0 (λ k. omega (arith, k)), last_end r rs) refl

    touches_none : touches 0 s (stacked [] base) ≡ false
    unfolding touches
    touches_none = refl

    joined_words : (rs : List FrameRange) → 2 * length rs + 2 ≤ length base →
        (if touches (length rs) s (stacked rs base) then set (stacked rs base) (2 * length rs - 1) (e - 1) else set (set (stacked rs base) (2 * length rs) s) (2 * length rs + 1) (e - 1)) ≡ stacked (join_run s e rs) base
    unfolding join_run
    joined_words [] h = rw touches_none (one_more [] s (e - 1) h)
    joined_words (r ∷ rs) h = rw (touches_newest r rs) (go (eqb (r.end + 1) s))
      where
        go : (b : Bool) → (if b then set (stacked (r ∷ rs) base) (2 * length (r ∷ rs) - 1) (e - 1) else set (set (stacked (r ∷ rs) base) (2 * length (r ∷ rs)) s) (2 * length (r ∷ rs) + 1) (e - 1))
            ≡ stacked (if b then range r.start (e - 1) ∷ rs else range s (e - 1) ∷ r ∷ rs) base
        go true = longer r rs (e - 1)
        go false = one_more (r ∷ rs) s (e - 1) h

    joined_count : (rs : List FrameRange) → (if touches (length rs) s (stacked rs base) then length rs else length rs + 1) ≡ length (join_run s e rs)
    unfolding join_run
    joined_count [] = rw touches_none refl
    joined_count (r ∷ rs) = rw (touches_newest r rs) (go (eqb (r.end + 1) s))
      where
        go : (b : Bool) → (if b then length (r ∷ rs) else length (r ∷ rs) + 1) ≡ length (if b then range r.start (e - 1) ∷ rs else range s (e - 1) ∷ r ∷ rs)
        go true = refl
        go false = omega arith

    pub put_words_holds : (rs : List FrameRange) → 2 * length rs + 2 ≤ length base → put_words (length rs) s e (stacked rs base) ≡ stacked (put_run s e rs) base
    unfolding put_words put_run
    put_words_holds rs h = go (leb e s)
      where
        go : (b : Bool) → (if b then stacked rs base else (if touches (length rs) s (stacked rs base) then set (stacked rs base) (2 * length rs - 1) (e - 1) else set (set (stacked rs base) (2 * length rs) s) (2 * length rs + 1) (e - 1))) ≡ stacked (if b then rs else join_run s e rs) base
        go true = refl
        go false = joined_words rs h

    pub put_count_holds : (rs : List FrameRange) → put_count (length rs) s e (stacked rs base) ≡ length (put_run s e rs)
    unfolding put_count put_run
    put_count_holds rs = go (leb e s)
      where
        go : (b : Bool) → (if b then length rs else (if touches (length rs) s (stacked rs base) then length rs else length rs + 1)) ≡ length (if b then rs else join_run s e rs)
        go true = refl
        go false = joined_count rs
