-- Laws of words, and of putting their numbers in places.
use native.Mathlib.Omega.{arith}
use Prim.Native.Nat.{ℕ, ◌+◌, ◌%◌, ◌≤◌, ◌<◌}
use mathlib.Core.Path.{◌≡◌, refl, sym, ap, ◌∙◌}
use mathlib.Core.List.{List, [], ◌∷◌}
use lib.Dec.{eqb}
use lib.ListN.{length, set, drop}
use borrow.Author.Tests.{lt-ltb, le-ltb, eq-eqb, ne_eqb}
use Rattle.lines.specs.Words.{Filled, filled, words_of_line, words_left, number_at, put_number, put_all, read_after, whole_areas, outcome, Reads}
use Rattle.std.specs.Prelude.{Result, Ok, Err}
use Rattle.lines.specs.declared.Unread.{Unread}
use denote.Ref.{Bor}
use Rattle.lines.specs.declared.Layout.{Layout}
use mathlib.Core.Bool.{Bool, true, false, ◌&&◌}
use Rattle.std.proofs.Common.{map, ◌++◌, Some, None}

-- what follows a name, where something does
pub after_space : (t : List ℕ) → 1 ≤ length t → words_left t ≡ words_of_line (drop 1 t)
unfolding words_left
after_space [] some = absurd (omega arith)
after_space (b ∷ t) some = refl

module _ (l : Layout) where
  pub nothing_after : (t ws : List ℕ) → length t < 1 → Reads (read_after l t ws) (Ok 0) ws
  unfolding words_left put_all
  nothing_after [] ws none = record { count = refl; numbers = refl }
  nothing_after (b ∷ t) ws none = absurd (omega arith)

  -- one word more
  put_more : (ts : List (Bor (List ℕ))) (t : Bor (List ℕ)) (p q : Filled) →
      q ≡ put_all l (map (λ x. x.now) ts) p → put_number (number_at l q.len t.now) q ≡ put_all l (map (λ x. x.now) (ts ++ (t ∷ []))) p
  unfolding put_all
  put_more [] t p q so_far = ap (λ (f : Filled). put_number (number_at l f.len t.now) f) so_far
  put_more (x ∷ ts) t p q so_far = put_more ts t (put_number (number_at l p.len x.now) p) q so_far

  module _ (ts : List (Bor (List ℕ))) (t : Bor (List ℕ)) (p : Filled) (len : ℕ) (v : Bool) (ws : List ℕ) (so_far : filled len v ws ≡ put_all l (map (λ x. x.now) ts) p) where
    -- a word that is a number and has a place, one that has no place, and one that is no number
    pub put_one : (n : ℕ) → Some n ≡ number_at l len t.now → len < length ws → filled (len + 1) v (set ws len n) ≡ put_all l (map (λ x. x.now) (ts ++ (t ∷ []))) p
    unfolding put_number
    put_one n is room = rw (← is, lt-ltb len (length ws) room) at (put_more ts t p (filled len v ws) so_far)

    pub put_nowhere : (n : ℕ) → Some n ≡ number_at l len t.now → length ws ≤ len → filled len false ws ≡ put_all l (map (λ x. x.now) (ts ++ (t ∷ []))) p
    unfolding put_number
    put_nowhere n is full = rw (← is, le-ltb len (length ws) full) at (put_more ts t p (filled len v ws) so_far)

    pub put_none : None ≡ number_at l len t.now → filled len false ws ≡ put_all l (map (λ x. x.now) (ts ++ (t ∷ []))) p
    unfolding put_number
    put_none is = rw (← is) at (put_more ts t p (filled len v ws) so_far)

  -- what was put of the words in the end
  pub reads : (text before ws : List ℕ) (ts : List (List ℕ)) (len : ℕ) (v : Bool) (r : Result ℕ Unread) → 1 ≤ length text → ts ≡ words_of_line (drop 1 text) →
      filled len v ws ≡ put_all l ts (filled 0 true before) → r ≡ outcome v len → Reads (read_after l text before) r ws
  reads text before ws ts len v r some all so_far is =
      let end = so_far ∙ ap (λ (xs : List (List ℕ)). put_all l xs (filled 0 true before)) (all ∙ sym (after_space text some)) in
      record { count = is ∙ ap (λ (p : Filled). outcome p.valid p.len) end; numbers = ap (λ (p : Filled). p.numbers) end }

-- areas that are whole, that are not, and words that are none
whole : (v : Bool) (n len : ℕ) → Ok len ≡ outcome v n → len % 3 ≡ 0 → Ok len ≡ outcome (v && eqb (n % 3) 0) n
whole true n len is three = let same : len ≡ n = cc in rw (eq-eqb (n % 3) 0 (ap (λ (k : ℕ). k % 3) (sym same) ∙ three)) is
whole false n len is three = absurd (cc)

not_whole : (v : Bool) (n len : ℕ) → Ok len ≡ outcome v n → (len % 3 ≡ 0 → ⊥) → ◌≡◌ {A = Result ℕ Unread} (Err (record { put = len })) (outcome (v && eqb (n % 3) 0) n)
not_whole true n len is other =
    let same : len ≡ n = cc in
    rw (ne_eqb (n % 3) 0 (λ e. other (ap (λ (k : ℕ). k % 3) same ∙ e))) (ap (λ (k : ℕ). Err (record { put = k })) same)
not_whole false n len is other = absurd (cc)

no_words : (v : Bool) (n : ℕ) (e : Unread) → Err e ≡ outcome v n → Err e ≡ outcome (v && eqb (n % 3) 0) n
no_words true n e is = absurd (cc)
no_words false n e is = is

module _ {p : Filled} {r : Result ℕ Unread} {ws : List ℕ} (h : Reads p r ws) where
  pub areas_whole : (len : ℕ) → r ≡ Ok len → len % 3 ≡ 0 → Reads (whole_areas p) (Ok len) ws
  areas_whole len is three = record { count = whole p.valid p.len len (sym is ∙ h.count) three; numbers = h.numbers }

  pub areas_not_whole : (len : ℕ) → r ≡ Ok len → (len % 3 ≡ 0 → ⊥) → Reads (whole_areas p) (Err (record { put = len })) ws
  areas_not_whole len is other = record { count = not_whole p.valid p.len len (sym is ∙ h.count) other; numbers = h.numbers }

  pub areas_none : (e : Unread) → r ≡ Err e → Reads (whole_areas p) (Err e) ws
  areas_none e is = record { count = no_words p.valid p.len e (sym is ∙ h.count); numbers = h.numbers }
