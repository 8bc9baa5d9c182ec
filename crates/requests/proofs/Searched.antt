-- What a request comes to, by what the searches find.
use Prim.Native.Nat.{ℕ, ◌+◌, ◌-◌}
use native.Mathlib.Omega.{arith}
use mathlib.Core.Path.{◌≡◌, refl, sym, ap, subst, ◌∙◌}
use mathlib.Core.Bool.{Bool, true}
use mathlib.Core.List.{List}
use Rattle.std.specs.Prelude.{Ok, Err}
use Rattle.memory_structs.specs.Range.{range}
use Rattle.memory_structs.specs.declared.range.FrameRange.{FrameRange}
use Rattle.model.specs.Lists.{Lists, Slot}
use Rattle.model.specs.Requests.{Found, not_found, missing, too_short, chunks, find, refused, refused_missing, grow, in_general, in_reserved, only_general}
use Rattle.model.specs.Rules.{tidy}
use Rattle.model.specs.declared.refusals.Refusal.{Refusal}
use Rattle.model.specs.declared.refusals.Refusal.TheVariants.{NotFound, Missing, TooShort}
use Rattle.model.proofs.Lawful.{Fit, find_fit}
use Rattle.model.proofs.Ruled.{tidy_is}
use Rattle.lists.specs.declared.header.Header.{Header}
use Rattle.lists.specs.Whole.{lists_in, answered_by, Ruled, Does}
use Rattle.lists.proofs.Whole.{does_refuse}
use Rattle.lists.specs.declared.header.WhichList.TheVariants.{GeneralFree, ReservedFree}
use Rattle.request_search.specs.Searches.{answer_of}
use Rattle.request_search.specs.declared.Chosen.{Chosen}
use Rattle.request_taking.specs.Takes.{taken}
use Rattle.request_taking.proofs.Taken.{general_taken, reserved_taken}
use Rattle.requests.proofs.Asked.{does_miss}

-- the count that is missing goes to the end of the request
pub missing_count : (sorted : Bool) (r : FrameRange) (s : List Slot) (f n : ℕ) → tidy sorted s ≡ true → find sorted r s ≡ missing f n → (n ≡ (r.end + 1) - f) × (f + n - 1 ≡ r.end)
unfolding Fit
missing_count sorted r s f n t e =
    let fit = subst (Fit sorted r s) e (find_fit sorted r s (tidy_is sorted s t).shape) in
    (omega (arith, fit.2, fit.3), omega (arith, fit.2, fit.3))

-- what an answer says of what was found
pub said_not : (f : Found) → Err NotFound ≡ answer_of f → f ≡ not_found
unfolding answer_of
said_not not_found e = refl
said_not (missing a n) e = absurd (cc)
said_not too_short e = absurd (cc)
said_not (chunks i k c) e = absurd (cc)

pub said_missing : (a n : ℕ) (f : Found) → Err (Missing a n) ≡ answer_of f → f ≡ missing a n
unfolding answer_of
said_missing a n not_found e = absurd (cc)
said_missing a n (missing b m) e = cc
said_missing a n too_short e = absurd (cc)
said_missing a n (chunks i k c) e = absurd (cc)

pub said_short : (x : Refusal) (f : Found) → Err x ≡ answer_of f → (x ≡ NotFound → ⊥) → ((a n : ℕ) → x ≡ Missing a n → ⊥) → (x ≡ TooShort) × (f ≡ too_short)
unfolding answer_of
said_short x not_found e p q = absurd (p (cc))
said_short x (missing a n) e p q = absurd (q a n (cc))
said_short x too_short e p q = (cc, refl)
said_short x (chunks i k c) e p q = absurd (cc)

pub said_chunks : (c : Chosen) (f : Found) → Ok c ≡ answer_of f → f ≡ chunks c.first c.many c.range
unfolding answer_of
said_chunks c not_found e = absurd (cc)
said_chunks c (missing a n) e = absurd (cc)
said_chunks c too_short e = absurd (cc)
said_chunks c (chunks i k d) e =
    let same : record { first = i; many = k; range = d } ≡ c = cc in
    ap (λ (x : Chosen). chunks x.first x.many x.range) same

module _ (l : Lists) (r : FrameRange) where
  abbrev inside : Found
  inside = find l.sorted r l.general_free

  -- in the general list
  pub general_not : inside ≡ not_found → in_reserved l r not_found ≡ grow l r r
  unfolding in_reserved in_general
  general_not e = ap (in_general l r) e

  pub general_missing : (f n : ℕ) → inside ≡ missing f n → in_reserved l r not_found ≡ refused 12 l
  unfolding in_reserved in_general
  general_missing f n e = ap (in_general l r) e

  pub general_short : inside ≡ too_short → in_reserved l r not_found ≡ refused 17 l
  unfolding in_reserved in_general
  general_short e = ap (in_general l r) e

  pub general_chunks : (c : Chosen) → inside ≡ chunks c.first c.many c.range → in_reserved l r not_found ≡ taken GeneralFree c r l
  unfolding in_reserved in_general
  general_chunks c e = ap (in_general l r) e ∙ sym (general_taken c r l)

  -- in the general list alone
  pub only_chunks : (c : Chosen) → Ok c ≡ answer_of inside → only_general l r inside ≡ taken GeneralFree c r l
  unfolding only_general
  only_chunks c e = ap (only_general l r) (said_chunks c inside e) ∙ sym (general_taken c r l)

  -- in the reserved list
  abbrev outside : Found
  outside = find l.sorted r l.reserved_free

  pub reserved_not : outside ≡ not_found → in_reserved l r outside ≡ in_reserved l r not_found
  reserved_not e = ap (in_reserved l r) e

  pub reserved_missing : (f n : ℕ) → outside ≡ missing f n → f + n - 1 ≡ r.end → in_reserved l r outside ≡ grow l (range f r.end) r
  unfolding in_reserved
  reserved_missing f n e d = ap (in_reserved l r) e ∙ ap (λ (x : ℕ). grow l (range f x) r) d

  pub reserved_short : outside ≡ too_short → in_reserved l r outside ≡ refused 17 l
  unfolding in_reserved
  reserved_short e = ap (in_reserved l r) e

  pub reserved_chunks : (c : Chosen) → outside ≡ chunks c.first c.many c.range → in_reserved l r outside ≡ taken ReservedFree c r l
  unfolding in_reserved
  reserved_chunks c e = ap (in_reserved l r) e ∙ sym (reserved_taken c r l)

-- where the general list alone does not give the frames, the search says why
pub only_refused : (h : Header) (ws : List ℕ) → Ruled h ws → (r : FrameRange) (x : Refusal) (f : Found) → Err x ≡ answer_of f → Does (only_general (lists_in h ws) r f) ws (answered_by h (Err x)) ws
unfolding answer_of only_general
only_refused h ws u r x not_found e = let q : NotFound ≡ x = cc in subst (λ (y : Refusal). Does (refused 12 (lists_in h ws)) ws (answered_by h (Err y)) ws) q (does_refuse h ws u 12 _ refl)
only_refused h ws u r x (missing f n) e = let q : Missing f n ≡ x = cc in subst (λ (y : Refusal). Does (refused_missing f n (lists_in h ws)) ws (answered_by h (Err y)) ws) q (does_miss h ws u f n _ refl)
only_refused h ws u r x too_short e = let q : TooShort ≡ x = cc in subst (λ (y : Refusal). Does (refused 17 (lists_in h ws)) ws (answered_by h (Err y)) ws) q (does_refuse h ws u 17 _ refl)
only_refused h ws u r x (chunks i k c) e = absurd (cc)
