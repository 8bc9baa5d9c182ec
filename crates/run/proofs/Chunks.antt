-- A list of calls as threes of words: the words of the call at i.
use Prim.Native.Nat.{ℕ, zero, suc, ◌+◌, ◌*◌, ◌/◌, ◌≤◌, ◌<◌}
use native.Mathlib.Omega.{arith}
use mathlib.Core.Path.{◌≡◌, refl, ap, ◌∙◌}
use mathlib.Core.List.{List, [], ◌∷◌}
use lib.ListN.{length, get_or}
use Rattle.std.specs.Prelude.{Option}
use Rattle.std.specs.Simd.{first_chunks}
use Rattle.run_calls.specs.Commands.{decoded}
use Rattle.run_calls.specs.declared.RunCall.{RunCall}
use Rattle.run.proofs.Left.{decoded_at}

pub word_at : (ws : List ℕ) (n i : ℕ) (e : List ℕ) → i < n → n ≤ length ws / 3 → (k : ℕ) → k < 3 → get_or (get_or (first_chunks 3 n ws) i e) k 0 ≡ get_or ws (3 * i + k) 0
word_at ws zero i e h l k m = absurd (omega arith)
word_at [] (suc n) i e h l k m = absurd (omega arith)
word_at (x ∷ []) (suc n) i e h l k m = absurd (omega arith)
word_at (x ∷ y ∷ []) (suc n) i e h l k m = absurd (omega arith)
word_at (x ∷ y ∷ z ∷ ws) (suc n) zero e h l zero m = refl
word_at (x ∷ y ∷ z ∷ ws) (suc n) zero e h l (suc zero) m = refl
word_at (x ∷ y ∷ z ∷ ws) (suc n) zero e h l (suc (suc zero)) m = refl
word_at (x ∷ y ∷ z ∷ ws) (suc n) zero e h l (suc (suc (suc k))) m = absurd (omega arith)
word_at (x ∷ y ∷ z ∷ ws) (suc n) (suc i) e h l k m =
    let past : suc (suc (suc (3 * i + k))) ≡ 3 * suc i + k = omega arith in
    word_at ws n i e (omega arith) (omega arith) k m ∙ ap (λ (j : ℕ). get_or (x ∷ y ∷ z ∷ ws) j 0) past

pub chunk_decoded : (areas calls : List ℕ) (made : ℕ) (cs : List (List ℕ)) → cs ≡ first_chunks 3 (length calls / 3) calls → made < length calls / 3 → {d : Option RunCall}
    → d ≡ decoded (length areas) (get_or (get_or cs made []) 0 0) (get_or (get_or cs made []) 1 0) (get_or (get_or cs made []) 2 0) → d ≡ decoded_at areas calls (3 * made)
chunk_decoded areas calls made cs e h {d} p =
    let word : (k : ℕ) → k < 3 → get_or (get_or cs made []) k 0 ≡ get_or calls (3 * made + k) 0
    = λ k. λ m. ap (λ (x : List (List ℕ)). get_or (get_or x made []) k 0) e ∙ word_at calls (length calls / 3) made [] h (omega arith) k m in
    let first : 3 * made + 0 ≡ 3 * made = omega arith in
    p ∙ (λ i. decoded (length areas) ((word 0 (omega arith) ∙ ap (λ (j : ℕ). get_or calls j 0) first) i) (word 1 (omega arith) i) (word 2 (omega arith) i))
