-- The held list and demand 3: after any calls it has the general frames that a grant holds, once each, and no others.
use Prim.Native.Nat.{ℕ, ◌+◌, ◌-◌, ◌<◌}
use native.Mathlib.Omega.{arith}
use mathlib.Core.Path.{◌≡◌, refl, sym, ap, ◌∙◌}
use mathlib.Core.Bool.{Bool, true, false, ◌&&◌}
use mathlib.Core.List.{List, [], ◌∷◌}
use lib.ListN.{length}
use Rattle.std.specs.Prelude.{if◌then◌else◌}
use Rattle.model.specs.Lists.{Lists, times}
use Rattle.model.specs.Boot.{Extent, all_pieces, reserved_of, booted, early}
use Rattle.model.specs.Queries.{is_held, held_list}
use Rattle.model.specs.Store.{load}
use Rattle.model.specs.Calls.{Call, answer, call, fresh_record}
use Rattle.model.specs.History.{Event, held, history, record_after, words_after, is_general, Boots}
use Rattle.model.specs.declared.FrameAllocator.{FrameAllocator}
use Rattle.model.proofs.Boots.{Accepted, any_bit, early_tally, booted_lawful}
use Rattle.model.proofs.Carried.{Stands, loads, ran}
use Rattle.model.proofs.Carved.{accepted_cover}
use Rattle.model.proofs.Claimed.{told_after, boot_leaves}
use Rattle.model.proofs.Cover.{tally, count}
use Rattle.model.proofs.Held.{held_list_is}
use Rattle.model.proofs.HeldCount.{held_bit}
use Rattle.model.proofs.Lawful.{Lawful}
use Rattle.model.proofs.Returns.{step}
use Rattle.model.proofs.Ruled.{lawful_rules}
use Rattle.model.proofs.Runs.{after}
use Rattle.model.proofs.Steps.{free, regions}
use Rattle.model.proofs.Trace.{Told, bit}

-- no call moves a general region
general_kept : (cs : List Call) (l : Lists) → Lawful l → 0 < count l.general_regions → (f : ℕ) → tally f (after cs l).general_regions ≡ tally f l.general_regions
unfolding after
general_kept [] l a some f = refl
general_kept (c ∷ cs) l a some f =
    let t = step c l a some in general_kept cs (answer c l).lists t.lawful (omega (arith, some, t.number)) f ∙ t.general f

-- what boot makes general
general_booted : (xs : List Extent) → Accepted xs → (f : ℕ) → tally f (booted xs).general_regions ≡ bit (is_general xs f)
unfolding booted early
general_booted xs ok f =
    let ps = all_pieces (reserved_of xs) xs in
    omega (
      arith,
      (booted_lawful xs ok).apart f,
      early_tally ps (32 - length ps) f,
      any_bit ps f,
      ap bit (accepted_cover xs ok f),
    )

-- where the lists agree with the events, a frame is held by both or by neither
held_told : (first : ℕ → Bool) (l : Lists) (es : List Event) → Told first l es → (f : ℕ) (general : Bool) → tally f l.general_regions ≡ bit general → is_held l f ≡ (general && held es f)
held_told first l es t f general e = go (is_held l f) general (held es f) (held_bit t.lawful f) e (t.out f)
  where
    go : (x y z : Bool) → bit x + tally f l.general_free ≡ tally f l.general_regions → tally f l.general_regions ≡ bit y → free l f + bit z ≡ regions l f → x ≡ (y && z)
    go true true true p q r = refl
    go true true false p q r = absurd (omega (arith, t.lawful.apart f, t.lawful.reserved f))
    go true false z p q r = absurd (omega arith)
    go false true true p q r = absurd (omega (arith, t.lawful.apart f))
    go false true false p q r = refl
    go false false z p q r = refl

-- a general frame stands in the held list once where a grant of these calls holds it, and no other frame does
unfoldable pub HoldsGranted : List Extent → List Call → FrameAllocator → List ℕ → Type 0
HoldsGranted xs cs a ws = (f : ℕ) → times f (held_list (load (record_after cs a ws) (words_after cs a ws))) ≡ (if is_general xs f && held (history cs a ws []) f then 1 else 0)

after_boot : (xs : List Extent) (cs : List Call) → Accepted xs → 0 < count (booted xs).general_regions → (a : FrameAllocator) (ws : List ℕ) → Stands (booted xs) a ws → HoldsGranted xs cs a ws
unfolding HoldsGranted
after_boot xs cs ok some a ws s f =
    let r = ran cs (booted xs) a ws [] s some in
    let t = told_after xs ok some cs in
    let l = after cs (booted xs) in
    let general = general_kept cs (booted xs) (booted_lawful xs ok) some f ∙ general_booted xs ok f in
    ap (λ (m : Lists). times f (held_list m)) (loads _ _ _ r.stands) ∙ (held_list_is l (lawful_rules l t.lawful)).once f
    ∙ ap bit (held_told _ l _ t f (is_general xs f) general) ∙ ap (λ (es : List Event). bit (is_general xs f && held es f)) (sym r.history_is)

-- of any list of calls that demand 3 speaks of
pub held_list_grants : (b : Call) (xs : List Extent) → Boots b xs → (ws : List ℕ) → (call b fresh_record ws).answer.number ≡ 0 → (f : ℕ) → is_general xs f ≡ true → (cs : List Call) →
    HoldsGranted xs cs (call b fresh_record ws).allocator (call b fresh_record ws).words
held_list_grants b xs boots ws number f general cs = boot_leaves (HoldsGranted xs cs) b xs boots (after_boot xs cs) ws number f general
