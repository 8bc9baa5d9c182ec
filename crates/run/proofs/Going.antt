-- The turns of a run whose record stands open.
use Prim.Native.Nat.{ℕ, ◌+◌, ◌*◌, ◌≤◌}
use mathlib.Core.Path.{◌≡◌, refl, sym, ap, subst, ◌∙◌}
use mathlib.Core.Bool.{◌&&◌}
use mathlib.Core.List.{List, ◌++◌}
use lib.ListN.{length, take, drop}
use Rattle.model.specs.Store.{is_set}
use Rattle.model.specs.Calls.{Gives}
use Rattle.model.specs.declared.Called.{Called}
use Rattle.model.specs.declared.FrameAllocator.{FrameAllocator}
use Rattle.rules.specs.Check.{verdict, Verdict}
use Rattle.lists.specs.Whole.{Ruled}
use Rattle.lists.specs.declared.header.Header.{Header}
use Rattle.lists.specs.declared.header.HandedBack.{HandedBack}
use Rattle.lists.specs.Packed.{Apart, Closable}
use Rattle.rules.specs.Check.{Opens}
use Rattle.lists.specs.Open.{lent}
use Rattle.rules.specs.declared.Opened.{Opened}
use Rattle.run_calls.specs.declared.RunCall.{RunCall}
use Rattle.run_calls.specs.declared.RunCall.TheVariants.{Change, Keep}
use Rattle.run_calls.specs.declared.FormCall.{FormCall}
use Rattle.run_calls.specs.declared.OpenCall.{OpenCall}
use Rattle.std.specs.Prelude.{Option, Some, Ok}
use Rattle.run_calls.specs.Commands.{form_call, open_call, call_in}
use Rattle.run_calls.specs.Made.{Made, MadeOpen}
use Rattle.run_calls.proofs.Making.{form_keeps, made_gives}
use Rattle.run.specs.Runs.{record_now}
use Rattle.model.specs.Words.{answer_words}
use Rattle.run.proofs.Left.{decoded_at}
use Rattle.run.proofs.Turns.{Reached, reached_start, reached_next}
use Rattle.run.proofs.Opened.{Standing, standing_closes, standing_ruled, apart_standing, apart_record, made_standing, made_record}

pub record Going (areas calls : List ℕ) (first : FrameAllocator) (ws₀ answers₀ held₀ : List ℕ) (test : Verdict) (made : ℕ) (a : FrameAllocator) (h : Header) (es ws answers held : List ℕ) : Type 0 where
  pub reached : Reached areas calls first ws₀ answers₀ held₀ test made (record_now test a h es) ws answers held
  pub stands : test ≡ Ok tt → Standing a h es ws
  pub size : length es ≡ 256

-- what was taken apart goes on
apart_goes : {areas calls : List ℕ} {first : FrameAllocator} {ws₀ answers₀ held₀ : List ℕ} {test : Verdict} {made : ℕ} {a : FrameAllocator} {h : Header} {es ws answers held : List ℕ} →
    Reached areas calls first ws₀ answers₀ held₀ test made a ws answers held → Apart a h es → length es ≡ 256 → Going areas calls first ws₀ answers₀ held₀ test made a h es ws answers held
apart_goes {areas} {calls} {first} {ws₀} {answers₀} {held₀} {test} {made} {a} {h} {es} {ws} {answers} {held} s p n = record {
  reached = subst (λ (r : FrameAllocator). Reached areas calls first ws₀ answers₀ held₀ test made r ws answers held) (sym (apart_record test a ws s.tested p)) s;
  stands = apart_standing test a ws s.tested p;
  size = n;
}

pub going_start : (areas calls : List ℕ) (a : FrameAllocator) (ws answers held : List ℕ) {es : List ℕ} (o : Opened) → Opens a ws o es → length es ≡ 256 → Going areas calls a ws answers held o.tested 0 a o.header es ws answers held
going_start areas calls a ws answers held o p n = apart_goes (reached_start areas calls a ws answers held o.tested p.tested) p.apart n

module _ {areas calls : List ℕ} {first : FrameAllocator} {ws₀ answers₀ held₀ : List ℕ} {test : Verdict} {made : ℕ} {a : FrameAllocator} {h : Header} {es ws answers held : List ℕ} (s : Going areas calls first ws₀ answers₀ held₀ test made a h es ws answers held) where
  pub going_closes : test ≡ Ok tt → Closable (is_set a.sorted && h.sorted) es
  going_closes z = standing_closes (s.stands z)

  pub going_ruled : test ≡ Ok tt → Ruled h (lent h.sorted es ws)
  going_ruled z = standing_ruled (s.stands z)

  pub going_tested : (b : FrameAllocator) → b ≡ record_now test a h es → test ≡ verdict b ws
  going_tested b e = s.reached.tested ∙ ap (λ (x : FrameAllocator). verdict x ws) (sym e)

  module _ (more : 3 * made + 3 ≤ length calls) (command : RunCall) (d : Option RunCall) (p : d ≡ decoded_at areas calls (3 * made)) (q : d ≡ Some command) (room : 5 * made + 5 ≤ length answers) where
    -- a call that keeps the form
    pub going_kept : {c : OpenCall} → command ≡ Keep c → {x : HandedBack} {es-after ws-after held_after : List ℕ} → MadeOpen (open_call (length held) c) test h es ws held x es-after ws-after held_after →
        (answers-after : List ℕ) → answers-after ≡ take (5 * made) answers ++ answer_words x.answer ++ drop (5 * made + 5) answers →
        length ws-after ≡ length ws → length answers-after ≡ length answers → length held_after ≡ length held → length es-after ≡ 256 →
        Going areas calls first ws₀ answers₀ held₀ test (made + 1) a x.header es-after ws-after answers-after held_after
    unfolding call_in
    going_kept {c} e {x} m answers-after w nw na nh ne = record {
      reached = reached_next s.reached more (Keep c) d p (q ∙ ap Some e) room (made_record c test a h es ws held s.reached.tested s.stands m) answers-after w nw na nh;
      stands = made_standing c test a h es ws held s.reached.tested s.stands m;
      size = ne;
    }

    -- and one that may change it
    pub going_changed : {c : FormCall} → command ≡ Change c → (b : FrameAllocator) → b ≡ record_now test a h es → {called : Called} {ws-after : List ℕ} → Gives (form_call areas c) b ws called ws-after →
        (answers-after : List ℕ) → answers-after ≡ take (5 * made) answers ++ answer_words called.answer ++ drop (5 * made + 5) answers →
        length ws-after ≡ length ws → length answers-after ≡ length answers →
        {h-after : Header} {es-after : List ℕ} → Apart called.allocator h-after es-after → length es-after ≡ 256 →
        Going areas calls first ws₀ answers₀ held₀ test (made + 1) called.allocator h-after es-after ws-after answers-after held
    unfolding call_in
    going_changed {c} e b k {called} {ws-after} g answers-after w nw na {h-after} {es-after} t ne =
        let g' : Gives (form_call areas c) (record_now test a h es) ws called ws-after = subst (λ (r : FrameAllocator). Gives (form_call areas c) r ws called ws-after) k g in
        let m : Made (form_call areas c) (record_now test a h es) ws held called ws-after held = made_gives (form_call areas c) (record_now test a h es) ws held (form_keeps areas c) g' in
        apart_goes (reached_next s.reached more (Change c) d p (q ∙ ap Some e) room m answers-after w nw na refl) t ne
