-- Numbers in decimal: what `parse` reads is `decimal_of`.
use native.Mathlib.Omega.{arith}
use Prim.Native.Nat.{ℕ, ◌^◌, ◌≤◌}
use mathlib.Core.Path.{◌≡◌, refl, ap, ◌∙◌}
use mathlib.Core.Bool.{Bool, true, false, cond, ◌&&◌}
use mathlib.Core.List.{List, [], ◌∷◌}
use lib.ListN.{length, get_or}
use lib.Dec.{ltb}
use borrow.Author.Tests.{lt-ltb, ltb-true}
use denote.Ref.{Bor}
use Rattle.std.specs.Str.{all_ascii_digits, IsUtf8}
use Rattle.std.specs.Str.Parse.{ParsesUnsigned}
use Rattle.std.specs.Result.{result_ok}
use Rattle.std.proofs.lemmas.Fmt.{IsAscii-from_digits}
use Rattle.std.proofs.lemmas.Str.{IsUtf8-from_ascii}
use Rattle.std.proofs.lemmas.Str.Parse.{IsNumeralModel, numerals_by_fold, tells_all_ascii_digits, parse_plain}
use Rattle.std.proofs.Common.{Some, None, Result, Ok, Err, MatchResult, ◌≢◌, rules}
use Rattle.lines.specs.Words.{value_after, decimal_of}

own : IsNumeralModel (λ ds. all_ascii_digits ds ≡ true) (value_after 0)
unfolding value_after
own = numerals_by_fold _ tells_all_ascii_digits value_after (search rules)

-- a number begins with no sign
pub signed : (bs : List ℕ) → (1 ≤ length bs → get_or bs 0 0 ≡ 43) → None ≡ decimal_of bs
unfolding decimal_of
signed [] sign = refl
signed (b ∷ bs) sign = rw (sign (omega arith))

not_text : (bs : List ℕ) → ¬ (IsUtf8 bs) → None ≡ decimal_of bs
unfolding decimal_of
not_text bs other = go (all_ascii_digits bs) refl
  where
    go : (t : Bool) → all_ascii_digits bs ≡ t → None ≡ cond (t && (ltb 0 (length bs) && ltb (value_after 0 bs) (2 ^ 64))) (Some (value_after 0 bs)) None
    go true e = absurd (other (IsUtf8-from_ascii bs (IsAscii-from_digits bs (own.to bs e))))
    go false e = refl

module _ {E : Type 0} where
  -- what is no text
  pub no_text : (U : Type 0) (Q : E → Type 0) (bs : List ℕ) (r : Result (Bor (List ℕ)) E) →
      MatchResult r (λ s. (s.now ≡ bs) × U) (λ e. ¬ (IsUtf8 bs) × Q e) → result_ok r ≡ None → None ≡ decimal_of bs
  no_text U Q bs (Ok s) h e = cc
  no_text U Q bs (Err x) h e = not_text bs h.0

  pub is_text : (U : Type 0) (Q : E → Type 0) (bs : List ℕ) (r : Result (Bor (List ℕ)) E) (s : Bor (List ℕ)) →
      MatchResult r (λ t. (t.now ≡ bs) × U) Q → Some s ≡ result_ok r → s.now ≡ bs
  is_text U Q bs (Ok t) s h e = let is : s ≡ t = cc in ap (λ (x : Bor (List ℕ)). x.now) is ∙ h.0
  is_text U Q bs (Err x) s h e = cc

  -- a text with no sign
  pub parsed : (bs : List ℕ) (r : Result ℕ E) → get_or bs 0 0 ≢ 43 → ParsesUnsigned 64 10 bs r → result_ok r ≡ decimal_of bs
  unfolding decimal_of
  parsed bs (Ok x) plain h =
      let p = parse_plain own {E = E} 64 bs (Ok x) h plain in
      rw (p.0.0, lt-ltb 0 (length bs) p.0.1, lt-ltb (value_after 0 bs) (2 ^ 64) p.0.2) (ap (λ (n : ℕ). Some n) p.1)
  parsed bs (Err e) plain h = go (all_ascii_digits bs) (ltb 0 (length bs)) (ltb (value_after 0 bs) (2 ^ 64)) refl refl refl
    where
      go : (d s l : Bool) → all_ascii_digits bs ≡ d → ltb 0 (length bs) ≡ s → ltb (value_after 0 bs) (2 ^ 64) ≡ l → None ≡ cond (d && (s && l)) (Some (value_after 0 bs)) None
      go true true true d s l = absurd (parse_plain own {E = E} 64 bs (Err e) h plain (d, ltb-true 0 (length bs) s, ltb-true (value_after 0 bs) (2 ^ 64) l))
      go true true false d s l = refl
      go true false l d s e = refl
      go false s l d e f = refl
