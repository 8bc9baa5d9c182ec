-- A call that is decoded can be made.
use Prim.Native.Nat.{ℕ}
use Rattle.std.specs.Prelude.{Option, Some, None}
use mathlib.Core.Path.{◌≡◌, sym, subst}
use lib.Dec.{eqb}
use Rattle.memory_structs.proofs.Bools.{if_cases}
use Rattle.run_calls.specs.declared.RunCall.{RunCall}
use Rattle.run_calls.specs.declared.RunCall.TheVariants.{Change}
use Rattle.run_calls.specs.declared.FormCall.{FormCall}
use Rattle.run_calls.specs.Commands.{are_listed, decoded_boot, decoded, AreasListed, InList}

unfoldable Sound : ℕ → Option RunCall → Type 0
Sound n (Some c) = InList n c
Sound n None = Unit {0}

sound : (n what x y : ℕ) → Sound n (decoded n what x y)
unfolding decoded decoded_boot Sound InList AreasListed
sound n what x y =
    if_cases (Sound n) (eqb what 0) (λ e. if_cases (Sound n) (are_listed n x y) (λ l. l) (λ l. tt))
    (λ e. if_cases (Sound n) (eqb what 1) (λ e. if_cases (Sound n) (are_listed n x y) (λ l. l) (λ l. tt))
    (λ e. if_cases (Sound n) (eqb what 2) (λ e. tt)
    (λ e. if_cases (Sound n) (eqb what 3) (λ e. tt)
    (λ e. if_cases (Sound n) (eqb what 4) (λ e. tt)
    (λ e. if_cases (Sound n) (eqb what 5) (λ e. tt)
    (λ e. if_cases (Sound n) (eqb what 6) (λ e. tt)
    (λ e. if_cases (Sound n) (eqb what 7) (λ e. tt)
    (λ e. if_cases (Sound n) (eqb what 8) (λ e. tt)
    (λ e. if_cases (Sound n) (eqb what 9) (λ e. tt)
    (λ e. if_cases (Sound n) (eqb what 10) (λ e. tt)
    (λ e. if_cases (Sound n) (eqb what 11) (λ e. tt) (λ e. tt))))))))))))

pub decoded_in_list : (n what x y : ℕ) (c : RunCall) → Some c ≡ decoded n what x y → InList n c
unfolding Sound
decoded_in_list n what x y c e = subst (Sound n) (sym e) (sound n what x y)

-- and what is decoded as a call that may change the form has its areas in the list
pub form_in_list : (n what x y : ℕ) (c : FormCall) → Some (Change c) ≡ decoded n what x y → AreasListed n c
unfolding InList
form_in_list n what x y c e = decoded_in_list n what x y (Change c) e
