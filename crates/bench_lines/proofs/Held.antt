-- A line that comes in parts, of which the first 129 bytes are held.
use native.Mathlib.Omega.{arith}
use Prim.Native.Nat.{ℕ, zero, suc, ◌+◌, ◌<◌, min}
use mathlib.Core.Path.{◌≡◌, refl, sym, ap, ◌∙◌}
use mathlib.Core.Bool.{Bool, true, false, true≢false}
use mathlib.Core.List.{List, [], ◌∷◌, ◌++◌, append-nil}
use lib.ListN.{length, take, length-append, length-take}
use lib.Seq.{take_all, take-append-add}
use lib.Dec.{leb}
use borrow.Author.Tests.{leb-true, leb-false}
use Rattle.std.specs.Prelude.{Result, Ok, Err, IsOk, OnOk}
use Rattle.std.proofs.lemmas.List.{take_min}
use Rattle.bench_lines.specs.Commands.{command_of}
use Rattle.bench_lines.proofs.Reading.{too_long}

-- n of the bytes that come are put behind those that are held: all of them, or as many as have room
pub as_many : {size : ℕ} (line more : List ℕ) (room n : ℕ) → room + length line ≡ size → n ≡ min (length more) room → line ++ take n more ≡ take size (line ++ more)
as_many {size} line more room n all is =
    let same : min room (length more) ≡ n = omega (arith, is) in
    let whole : length line + room ≡ size = omega (arith, all) in
    ap (λ (k : ℕ). line ++ take k more) (sym same) ∙ ap (λ (t : List ℕ). line ++ t) (take_min room more)
    ∙ sym (take-append-add line more room) ∙ ap (λ (k : ℕ). take k (line ++ more)) whole

-- a call that succeeds did what it says
pub done : {T E P : Type 0} (r : Result T E) → IsOk r → OnOk r P → P
done (Ok x) ok p = p
done (Err e) ok p = absurd (true≢false (sym ok))

take_again : (n : ℕ) (a b : List ℕ) → take n (take n a ++ b) ≡ take n (a ++ b)
take_again zero a b = refl
take_again (suc n) [] b = refl
take_again (suc n) (x ∷ a) b = ap (◌∷◌ x) (take_again n a b)

-- a line may come in any parts: what is held after the next part is what is held of the whole, however many bytes have room
pub held_on : (room : ℕ) (came more : List ℕ) → take room (take room came ++ more) ≡ take room (came ++ more)
held_on room came more = take_again room came more

-- room for more than 128 bytes decides what a line is, whatever follows
pub held_decides_on : (room : ℕ) → 128 < room → (came more : List ℕ) → command_of (take room came ++ more) ≡ command_of (came ++ more)
held_decides_on room wide came more = by_length (leb (length came) 128) refl
  where
    by_length : (t : Bool) → leb (length came) 128 ≡ t → command_of (take room came ++ more) ≡ command_of (came ++ more)
    by_length true e = ap (λ (t : List ℕ). command_of (t ++ more)) (take_all room came (omega (arith, leb-true (length came) 128 e)))
    by_length false e =
        let long : 128 < length came = leb-false (length came) 128 e in
        sym (too_long (take room came ++ more) (simp (length-append, length-take) (omega arith)))
        ∙ too_long (came ++ more) (simp length-append (omega arith))

-- what is held is the command that the line is
pub held_decides : (room : ℕ) → 128 < room → (came : List ℕ) → command_of (take room came) ≡ command_of came
held_decides room wide came = ap command_of (sym (append-nil (take room came))) ∙ held_decides_on room (omega (arith, wide)) came [] ∙ ap command_of (append-nil came)
