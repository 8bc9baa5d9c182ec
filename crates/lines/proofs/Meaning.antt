-- What the definitions mean: digits make up a number one after another, and a space ends a word.
use native.Mathlib.Omega.{arith}
use Prim.Native.Nat.{ℕ, ◌+◌, ◌-◌, ◌*◌, ◌^◌, ◌≤◌, ◌<◌}
use mathlib.Core.Path.{◌≡◌, refl}
use mathlib.Core.Bool.{Bool, true, false, cond, ◌&&◌}
use mathlib.Core.List.{List, [], ◌∷◌, ◌++◌}
use lib.ListN.{length, length-append}
use lib.Dec.{ltb}
use borrow.Author.Tests.{lt-ltb, le-leb}
use Rattle.std.specs.Char.{is_ascii_digit}
use Rattle.std.specs.Str.{all_ascii_digits}
use Rattle.std.proofs.Common.{Some, None, All, ◌==◌}
use Rattle.std.proofs.lemmas.List.Splits.{slice_split_at, slice_split_none}
use Rattle.lines.specs.Words.{value_after, decimal_of, words_of_line}

value_more : (n : ℕ) (bs : List ℕ) (b : ℕ) → value_after n (bs ++ (b ∷ [])) ≡ value_after n bs * 10 + (b - 48)
unfolding value_after
value_more n [] b = refl
value_more n (x ∷ bs) b = value_more (n * 10 + (x - 48)) bs b

digit : (d : ℕ) → d ≤ 9 → is_ascii_digit (48 + d) ≡ true
digit d low = rw (le-leb 48 (48 + d) (omega arith), le-leb (48 + d) 57 (omega arith))

digits_more : (bs : List ℕ) (d : ℕ) → d ≤ 9 → all_ascii_digits bs ≡ true → all_ascii_digits (bs ++ ((48 + d) ∷ [])) ≡ true
digits_more [] d low all = rw (digit d low)
digits_more (b ∷ bs) d low all = go (is_ascii_digit b) (digits_more bs d low) all
  where
    go : (t : Bool) → (all_ascii_digits bs ≡ true → all_ascii_digits (bs ++ ((48 + d) ∷ [])) ≡ true) →
        (t && all_ascii_digits bs) ≡ true → (t && all_ascii_digits (bs ++ ((48 + d) ∷ []))) ≡ true
    go true more all = more all
    go false more all = cc

number : (bs : List ℕ) (n : ℕ) → all_ascii_digits bs ≡ true → 0 < length bs → value_after 0 bs ≡ n → n < 2 ^ 64 → decimal_of bs ≡ Some n
unfolding decimal_of
number bs n digits some is small = rw (digits, lt-ltb 0 (length bs) some, is, lt-ltb n (2 ^ 64) small)

-- a digit is its number
pub one_digit : (d : ℕ) → d ≤ 9 → decimal_of ((48 + d) ∷ []) ≡ Some d
unfolding value_after
one_digit d low = number ((48 + d) ∷ []) d (digits_more [] d low refl) (omega arith) (omega arith) (omega arith)

-- what a number's text is
digits_of : (bs : List ℕ) (n : ℕ) → decimal_of bs ≡ Some n → (all_ascii_digits bs ≡ true) × (value_after 0 bs ≡ n)
unfolding decimal_of
digits_of bs n = go (all_ascii_digits bs) (ltb 0 (length bs)) (ltb (value_after 0 bs) (2 ^ 64)) refl
  where
    go : (d s l : Bool) → all_ascii_digits bs ≡ d → cond (d && (s && l)) (Some (value_after 0 bs)) None ≡ Some n → (all_ascii_digits bs ≡ true) × (value_after 0 bs ≡ n)
    go true true true d e = (d, cc)
    go true true false d e = cc
    go true false l d e = cc
    go false s l d e = cc

-- the number of a text, and of the text with one more digit
pub next_digit : (bs : List ℕ) (n d : ℕ) → d ≤ 9 → n * 10 + d < 2 ^ 64 → decimal_of bs ≡ Some n → decimal_of (bs ++ ((48 + d) ∷ [])) ≡ Some (n * 10 + d)
next_digit bs n d low small e =
    let was = digits_of bs n e in
    number (bs ++ ((48 + d) ∷ [])) (n * 10 + d) (digits_more bs d low was.0) (omega (arith, length-append bs ((48 + d) ∷ []))) (omega (arith, value_more 0 bs (48 + d), was.1)) small

-- no byte is a space
abbrev pub Spaceless : List ℕ → Type 0
Spaceless w = All (λ b. (b == 32) ≡ false) w

-- a space ends a word that has none
pub word_ends : (w rest : List ℕ) → Spaceless w → words_of_line (w ++ (32 ∷ rest)) ≡ w ∷ words_of_line rest
word_ends w rest none = slice_split_at (λ b. b == 32) w 32 rest none refl

-- a text that has none is one word
pub one_word : (w : List ℕ) → Spaceless w → words_of_line w ≡ w ∷ []
one_word w none = slice_split_none (λ b. b == 32) w none
