-- What a boot gives: a boot of a record that keeps the rules goes by its number.
use Prim.Native.Nat.{ℕ}
use mathlib.Core.Path.{◌≡◌, refl, sym, ap, subst, ◌∙◌}
use mathlib.Core.Bool.{Bool, true, false, not}
use native.Mathlib.Omega.{arith}
use mathlib.Core.List.{List}
use lib.Dec.{eqb}
use borrow.Author.Tests.{ne_eqb}
use Rattle.std.specs.Prelude.{if◌then◌else◌, Ok, Err}
use Rattle.model.specs.Lists.{Lists}
use Rattle.model.specs.Boot as model
use Rattle.model.specs.Boot.{booted}
use Rattle.model.specs.Requests.{Result, refused, counted, without_frames}
use Rattle.model.specs.Store.{load, record_of}
use Rattle.model.specs.Calls.{Call, Gives, answer, boot, no_entries}
use Rattle.model.specs.declared.FrameAllocator.{FrameAllocator}
use Rattle.model.specs.declared.Answer.{Answer}
use Rattle.model.specs.Refusals.{number, refused_by}
use Rattle.model.specs.declared.refusals.Refusal.{Refusal}
use Rattle.model.proofs.Whole.{early_words}
use Rattle.rules.specs.Check.{Verdict, verdict, answered_with, refused_with, accepted_with, RuledRecord}
use Rattle.rules.proofs.Lasting.{ruled_checked}
use Rattle.rules.proofs.Refusals.{numbered, without_15}
use Rattle.rules.proofs.Numbers.{gives_stored, gives_unchanged, gives_refused, verdict_ruled}
use Rattle.boot_areas.specs.declared.BootArea.{BootArea}
use Rattle.boot_areas.specs.Areas.{extents, any_outside}
use Rattle.boot_areas.specs.Boots.{IsBoot}
use Rattle.boot.specs.Boots.{boot_number}

-- 10, and the number after it
pub ten : (l : Lists) (xs : List BootArea) → no_entries l ≡ false → 10 ≡ boot_number l xs
unfolding boot_number
ten l xs e = rw e

pub after_10 : (l : Lists) (xs : List BootArea) → no_entries l ≡ true → boot_number l xs ≡ model.refusal (any_outside xs) (extents xs)
unfolding boot_number
after_10 l xs e = rw e

-- no boot is refused by 15
not_15 : (l : Lists) (xs : List BootArea) → boot_number l xs ≡ 15 → ⊥
unfolding boot_number model.refusal
not_15 l xs = go _ _ _ _ _ _
  where
    go : (n x y o p q : Bool) → ◌≡◌ {A = ℕ} (if n then (if x then 5 else if y then 4 else if o then 2 else if p then 7 else if q then 0 else 6) else 10) 15 → ⊥
    go true true y o p q e = absurd (omega arith)
    go true false true o p q e = absurd (omega arith)
    go true false false true p q e = absurd (omega arith)
    go true false false false true q e = absurd (omega arith)
    go true false false false false true e = absurd (omega arith)
    go true false false false false false e = absurd (omega arith)
    go false x y o p q e = absurd (omega arith)

-- on lists
module _ (c : Call) (xs : List BootArea) (is : IsBoot c xs) (l : Lists) where
  refuses : (n : ℕ) → n ≡ boot_number l xs → (n ≡ 0 → ⊥) → answer c l ≡ refused n l
  unfolding boot boot_number
  refuses n e z = is.answers l ∙ go (no_entries l) e
    where
      number : ℕ
      number = model.refusal (any_outside xs) (extents xs)

      go : (t : Bool) → n ≡ (if t then number else 10) → (if not t then refused 10 l else if eqb number 0 then counted 0 (booted (extents xs)) else refused number l) ≡ refused n l
      go true p = rw (← p, ne_eqb n 0 z)
      go false p = rw p

  accepts : 0 ≡ boot_number l xs → answer c l ≡ counted 0 (booted (extents xs))
  unfolding boot boot_number
  accepts e = is.answers l ∙ go (no_entries l) e
    where
      number : ℕ
      number = model.refusal (any_outside xs) (extents xs)

      go : (t : Bool) → ◌≡◌ {A = ℕ} 0 (if t then number else 10) → (if not t then refused 10 l else if eqb number 0 then counted 0 (booted (extents xs)) else refused number l) ≡ counted 0 (booted (extents xs))
      go true p = rw (← p)
      go false p = absurd (omega arith)

-- on a record and its words
module _ (c : Call) (xs : List BootArea) (is : IsBoot c xs) (a : FrameAllocator) (ws : List ℕ) (u : RuledRecord a ws) where
  gives_number : (n : ℕ) → n ≡ boot_number (load a ws) xs → (n ≡ 0 → ⊥) → Gives c a ws (answered_with (without_frames n 0) a) ws
  unfolding refused
  gives_number n e z =
      let r = refuses c xs is (load a ws) n e z in
      gives_unchanged c a ws is.no_buffer (ruled_checked a ws u) (without_frames n 0) (sym (ap (λ (x : Result). x.answer) r)) (ap (λ (x : Result). x.lists) r)

  gives_refusal : (r : Refusal) → number r ≡ boot_number (load a ws) xs → Gives c a ws (refused_with r a) ws
  gives_refusal r e =
      let answers = without_15 r (λ p. not_15 (load a ws) xs (sym e ∙ p)) in
      subst (λ (x : Answer). Gives c a ws (answered_with x a) ws) (sym answers) (gives_number (number r) e (numbered r))

  -- the lists filled; the words stay as they are
  gives_filled : 0 ≡ boot_number (load a ws) xs → Gives c a ws (accepted_with 0 (record_of (booted (extents xs)))) ws
  unfolding counted booted
  gives_filled e =
      let r = accepts c xs is (load a ws) e in
      gives_stored c a ws is.no_buffer (ruled_checked a ws u) (accepted_with 0 (record_of (booted (extents xs)))) ws (sym (ap (λ (x : Result). x.answer) r))
      (sym (ap (λ (x : Result). record_of x.lists) r)) (sym (early_words (answer c (load a ws)).lists (ap (λ (x : Result). x.lists.sorted) r) ws))

-- of a record whose test is known: refused by it, or by the boot's number; else filled
module _ (c : Call) (xs : List BootArea) (is : IsBoot c xs) (a : FrameAllocator) (ws : List ℕ) (t : Verdict) (known : t ≡ verdict a ws) (filled : Verdict)
    (by_test : (r : Refusal) → t ≡ Err r → filled ≡ Err r) (by_number : t ≡ Ok tt → refused_by filled ≡ boot_number (load a ws) xs) where
  passes : t ≡ Ok tt → RuledRecord a ws
  passes e = verdict_ruled a ws (sym known ∙ e)

  pub tested_refuses : (r : Refusal) → filled ≡ Err r → Gives c a ws (refused_with r a) ws
  tested_refuses r e = go t refl
    where
      go : (v : Verdict) → t ≡ v → Gives c a ws (refused_with r a) ws
      go (Ok u) p = gives_refusal c xs is a ws (passes p) r (sym (ap refused_by e) ∙ by_number p)
      go (Err x) p =
          let same : x ≡ r = cc (by_test x p, e) in
          gives_refused c a ws is.no_buffer r (sym known ∙ p ∙ ap Err same)

  pub tested_fills : filled ≡ Ok tt → Gives c a ws (accepted_with 0 (record_of (booted (extents xs)))) ws
  tested_fills e = go t refl
    where
      go : (v : Verdict) → t ≡ v → Gives c a ws (accepted_with 0 (record_of (booted (extents xs)))) ws
      go (Ok u) p = gives_filled c xs is a ws (passes p) (sym (ap refused_by e) ∙ by_number p)
      go (Err x) p = let w : ◌≡◌ {A = ℕ} 0 1 = cc (by_test x p, e) in absurd (omega arith)
