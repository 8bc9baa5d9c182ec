-- Numbers in decimal: the digits that `io::decimal` puts are `decimal_text`, and reading them gives the number back.
use native.Mathlib.Omega.{arith}
use Prim.Native.Nat.{ℕ, zero, suc, ◌+◌, ◌-◌, ◌*◌, ◌/◌, ◌%◌, ◌^◌, ◌≤◌, ◌<◌}
use native.Mathlib.Nat.{pow-succ', one-le-pow, pow-le-pow_right, div-add-mod'}
use mathlib.Core.Path.{◌≡◌, refl, ap, subst, subst⁻¹, ◌∙◌}
use mathlib.Core.Bool.{Bool, true, false, cond}
use mathlib.Core.List.{List, [], ◌∷◌, ◌++◌}
use lib.ListN.{length, length-append}
use lib.Dec.{leb, ltb}
use borrow.Author.Tests.{leb-true, leb-false, lt-ltb, le-ltb, ltb-true, ltb-false}
use Rattle.memory_structs.specs.declared.range.FrameRange.{FrameRange}
use Rattle.io.specs.Digits.{hex_digit_ascii, last_digits, IsDigitCount}
use Rattle.lines.specs.Words.{decimal_of}
use Rattle.std.proofs.Common.{Some}
use Rattle.lines.proofs.Meaning.{one_digit, next_digit}
use Rattle.bench_texts.specs.Texts.{digits_text, decimal_text, range_text}

last_digit : (n : ℕ) → hex_digit_ascii (n % 10) ≡ 48 + n % 10
last_digit n = rw (lt-ltb (n % 10) 10 (omega arith))

-- the fewest digits that hold the number, as the library counts them
pub as_digits : (k r n : ℕ) → r ≤ k → IsDigitCount 10 1 n r → last_digits 10 r n ≡ digits_text k n
unfolding digits_text
as_digits k zero n few f = absurd (omega (arith, f.0))
as_digits zero (suc r) n few f = absurd (omega arith)
as_digits (suc k) (suc zero) n few f =
    let small : n < 10 = omega (arith, f.1) in
    let itself : n % 10 ≡ n = omega arith in
    rw (last_digit n, itself, lt-ltb n 10 small)
as_digits (suc k) (suc (suc r)) n few f =
    let p : 10 ^ suc (suc r) ≡ 10 * 10 ^ suc r = pow-succ' 10 (suc r) in
    let q : 10 ^ suc r ≡ 10 * 10 ^ r = pow-succ' 10 r in
    let one : 1 ≤ 10 ^ r = one-le-pow r 10 (omega arith) in
    let before : suc (suc r) - 1 ≡ suc r = omega arith in
    let least : 10 ^ suc r ≤ n = subst (λ (m : ℕ). 10 ^ m ≤ n) before (f.2 (omega arith)) in
    let large : 10 ≤ n = omega arith in
    let one_less : suc r - 1 ≡ r = omega arith in
    let again : IsDigitCount 10 1 (n / 10) (suc r) = (omega arith, omega (arith, f.1), λ more. subst⁻¹ (λ (m : ℕ). 10 ^ m ≤ n / 10) one_less (omega arith)) in
    rw (last_digit n, as_digits k (suc r) (n / 10) (omega arith) again, le-ltb n 10 large)

-- 20 digits hold every number below 2^64
pub enough : (n r : ℕ) → n < 2 ^ 64 → IsDigitCount 10 1 n r → r ≤ 20
enough n r small f = go (leb r 20) refl
  where
    go : (t : Bool) → leb r 20 ≡ t → r ≤ 20
    go true e = leb-true r 20 e
    go false e =
        let more : 20 < r = leb-false r 20 e in
        let large : 10 ^ 20 ≤ 10 ^ (r - 1) = pow-le-pow_right {n = 10} (omega arith) {i = 20} {j = r - 1} (omega arith) in
        absurd (omega (arith, f.2 (omega arith)))

-- no more than so many
at_most : (k n : ℕ) → length (digits_text k n) ≤ k
unfolding digits_text
at_most zero n = omega arith
at_most (suc k) n = go (ltb n 10) (at_most k (n / 10))
  where
    go : (t : Bool) → length (digits_text k (n / 10)) ≤ k → length (cond t ((48 + n) ∷ []) (digits_text k (n / 10) ++ ((48 + n % 10) ∷ []))) ≤ suc k
    go true tenth = omega arith
    go false tenth = omega (arith, length-append (digits_text k (n / 10)) ((48 + n % 10) ∷ []))

-- the digits that were written are the text
pub digits_are : (n r : ℕ) → n < 2 ^ 64 → IsDigitCount 10 1 n r → last_digits 10 r n ≡ decimal_text n
digits_are n r small f = as_digits 20 r n (enough n r small f) f

-- how much is there after a text, and after a number
pub after_text : (text before : List ℕ) {after : List ℕ} → after ≡ before ++ text → length after ≡ length before + length text
after_text text before is = ap length is ∙ length-append before text

pub after_number : (n : ℕ) (before : List ℕ) {after : List ℕ} → after ≡ before ++ decimal_text n → length after ≤ length before + 20
after_number n before is = omega (arith, after_text (decimal_text n) before is, at_most 20 n)

-- and a range two numbers and a space
pub range_length : (opening closing : List ℕ) (r : FrameRange) → length (range_text opening r closing) ≤ length opening + length closing + 41
unfolding range_text
range_length opening closing r =
    simp length-append (omega (arith, at_most 20 r.start, at_most 20 r.end))

-- one digit, or the tenth part's digits and one more
one_or_more : (k n : ℕ) → n < 2 ^ 64 → (10 ≤ n → decimal_of (digits_text k (n / 10)) ≡ Some (n / 10)) → decimal_of (digits_text (suc k) n) ≡ Some n
unfolding digits_text
one_or_more k n small tenth = go (ltb n 10) refl
  where
    go : (t : Bool) → ltb n 10 ≡ t → decimal_of (cond t ((48 + n) ∷ []) (digits_text k (n / 10) ++ ((48 + n % 10) ∷ []))) ≡ Some n
    go true e = one_digit n (omega (arith, ltb-true n 10 e))
    go false e =
        let large : 10 ≤ n = ltb-false n 10 e in
        next_digit (digits_text k (n / 10)) (n / 10) (n % 10) (omega arith) (omega arith) (tenth large)
        ∙ ap (λ (m : ℕ). Some m) (div-add-mod' n 10)

digits_back : (k n : ℕ) → n < 10 ^ suc k → n < 2 ^ 64 → decimal_of (digits_text (suc k) n) ≡ Some n
digits_back zero n fits small = one_or_more zero n small (λ large. absurd (omega arith))
digits_back (suc k) n fits small =
    let p : 10 ^ suc (suc k) ≡ 10 * 10 ^ suc k = pow-succ' 10 (suc k) in
    one_or_more (suc k) n small (λ large. digits_back k (n / 10) (omega arith) (omega arith))

-- what is written of a number below 2^64 is read as this number
pub read_back : (n : ℕ) → n < 2 ^ 64 → decimal_of (decimal_text n) ≡ Some n
read_back n small = digits_back 19 n (omega arith) small
