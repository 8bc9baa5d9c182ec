-- The turns of a run: what holds after so many calls, one call more, and the three ways to end.
use Prim.Native.Nat.{ℕ, ◌+◌, ◌*◌, ◌-◌, ◌≤◌, ◌<◌, ◌/◌}
use native.Mathlib.Omega.{arith}
use mathlib.Core.Path.{◌≡◌, refl, sym, ap, subst, ◌∙◌}
use mathlib.Core.List.{List, [], ◌∷◌, ◌++◌}
use lib.ListN.{length, take, drop}
use Rattle.model.specs.Calls.{Call}
use Rattle.model.specs.declared.Called.{Called}
use Rattle.model.specs.declared.FrameAllocator.{FrameAllocator}
use Rattle.rules.specs.Check.{verdict, Verdict}
use Rattle.run_calls.specs.Commands.{call_in}
use Rattle.run_calls.specs.Made.{Made}
use Rattle.run_calls.specs.declared.RunCall.{RunCall}
use Rattle.std.specs.Prelude.{Option, Some, None}
use Rattle.rules.proofs.Lasting.{verdict_lasts}
use Rattle.run.specs.declared.Ran.{Ran}
use Rattle.run.specs.declared.RunEnd.{RunEnd}
use Rattle.run.specs.declared.RunEnd.TheVariants as ends
use Rattle.run.specs.Runs.{decoded_in, calls_in, calls_made, end_of, ran_to, Runs}
use Rattle.model.specs.Words.{answer_words}
use Rattle.run.proofs.Along.{Along, along_start, along_next, along_end, demanded}
use Rattle.run.proofs.Left.{decoded_at, left, end_left, left_done, end_done, left_damaged, end_damaged, left_full, end_full, left_next, end_next}

pub record Reached (areas calls : List ℕ) (first : FrameAllocator) (ws₀ answers₀ held₀ : List ℕ) (test : Verdict) (made : ℕ) (a : FrameAllocator) (ws answers held : List ℕ) : Type 0 where
  pub along : Along (calls_made areas calls answers₀ held₀) first ws₀ answers₀ held₀ made (left areas calls (length held₀) (length answers₀ / 5) made) a ws answers held
  pub ends : end_of (length answers₀ / 5) (decoded_in areas calls) ≡ end_left areas calls (length held₀) (length answers₀ / 5) made
  pub tested : test ≡ verdict a ws
  pub read : 3 * made ≤ length calls
  pub written : 5 * made ≤ length answers₀
  pub words_length : length ws ≡ length ws₀
  pub answers_length : length answers ≡ length answers₀
  pub held_length : length held ≡ length held₀

pub reached_start : (areas calls : List ℕ) (a : FrameAllocator) (ws answers held : List ℕ) (test : Verdict) → test ≡ verdict a ws → Reached areas calls a ws answers held test 0 a ws answers held
unfolding left end_left
reached_start areas calls a ws answers held test e =
    let all : length answers / 5 ≡ length answers / 5 - 0 = omega arith in
    record {
      along =
          subst (λ (n : ℕ). Along (calls_made areas calls answers held) a ws answers held 0 (take n (calls_in areas (length held) (decoded_in areas calls))) a ws answers held) all
          (along_start (calls_made areas calls answers held) a ws answers held);
      ends = ap (λ (n : ℕ). end_of n (decoded_in areas calls)) all;
      tested = e;
      read = omega arith;
      written = omega arith;
      words_length = refl;
      answers_length = refl;
      held_length = refl;
    }

module _ {areas calls : List ℕ} {first : FrameAllocator} {ws₀ answers₀ held₀ : List ℕ} {test : Verdict} {made : ℕ} {a : FrameAllocator} {ws answers held : List ℕ} (s : Reached areas calls first ws₀ answers₀ held₀ test made a ws answers held) where
  -- no call is left
  stops : left areas calls (length held₀) (length answers₀ / 5) made ≡ [] → (end : RunEnd) → end_left areas calls (length held₀) (length answers₀ / 5) made ≡ end → (r : Ran) → r ≡ ran_to a made end →
      Runs areas calls first ws₀ answers₀ held₀ r ws answers held
  stops e end re r k =
      let n = s.answers_length in
      let w = s.written in
      subst (λ (x : Ran). Runs areas calls first ws₀ answers₀ held₀ x ws answers held) (sym k)
      (record {
        runs = along_end (subst (λ (cs : List Call). Along (calls_made areas calls answers₀ held₀) first ws₀ answers₀ held₀ made cs a ws answers held) e s.along) (omega arith) end;
        ends = sym (s.ends ∙ re);
        demand = demanded (calls_made areas calls answers₀ held₀) first ws₀;
      })

  pub stops_done : length calls < 3 * made + 3 → (r : Ran) → r ≡ ran_to a made ends.Done → Runs areas calls first ws₀ answers₀ held₀ r ws answers held
  stops_done h r k =
      stops (left_done areas calls (length held₀) (length answers₀ / 5) made h) ends.Done (end_done areas calls (length held₀) (length answers₀ / 5) made h) r k

  module _ (h : 3 * made + 3 ≤ length calls) where
    pub stops_damaged : (d : Option RunCall) → d ≡ decoded_at areas calls (3 * made) → d ≡ None → (r : Ran) → r ≡ ran_to a made ends.Damaged → Runs areas calls first ws₀ answers₀ held₀ r ws answers held
    stops_damaged d p q r k =
        let e = sym p ∙ q in
        stops (left_damaged areas calls (length held₀) (length answers₀ / 5) made h e) ends.Damaged (end_damaged areas calls (length held₀) (length answers₀ / 5) made h e) r k

    module _ (c : RunCall) (d : Option RunCall) (p : d ≡ decoded_at areas calls (3 * made)) (q : d ≡ Some c) where
      next_is : decoded_at areas calls (3 * made) ≡ Some c
      next_is = sym p ∙ q

      pub stops_full : length answers < 5 * made + 5 → (r : Ran) → r ≡ ran_to a made ends.NoRoom → Runs areas calls first ws₀ answers₀ held₀ r ws answers held
      stops_full f r k =
          let n = s.answers_length in
          let full : length answers₀ / 5 ≤ made = omega arith in
          stops (left_full areas calls (length held₀) (length answers₀ / 5) made h c next_is full) ends.NoRoom (end_full areas calls (length held₀) (length answers₀ / 5) made h c next_is full) r k

      -- the test's test lasts, whatever the call
      lasts : {made-call : Call} {called : Called} {words-after held_after : List ℕ} → Made made-call a ws held called words-after held_after → test ≡ verdict called.allocator words-after
      lasts {made-call = made-call} m = s.tested ∙ sym (verdict_lasts made-call a ws) ∙ (λ i. verdict (sym m.gives.records i) (sym m.gives.words i))

      pub reached_next : 5 * made + 5 ≤ length answers → {called : Called} {words-after held_after : List ℕ} → Made (call_in areas (length held) c) a ws held called words-after held_after →
          (answers-after : List ℕ) → answers-after ≡ take (5 * made) answers ++ answer_words called.answer ++ drop (5 * made + 5) answers →
          length words-after ≡ length ws → length answers-after ≡ length answers → length held_after ≡ length held →
          Reached areas calls first ws₀ answers₀ held₀ test (made + 1) called.allocator words-after answers-after held_after
      reached_next room {called = called} {words-after = words-after} {held_after = held_after} m answers-after w nw na nh =
          let n = s.answers_length in
          let more : made < length answers₀ / 5 = omega arith in
          let known : Made (call_in areas (length held₀) c) a ws held called words-after held_after =
          subst (λ (k : ℕ). Made (call_in areas k c) a ws held called words-after held_after) s.held_length m in
          let here : Along (calls_made areas calls answers₀ held₀) first ws₀ answers₀ held₀ made (call_in areas (length held₀) c ∷ left areas calls (length held₀) (length answers₀ / 5) (made + 1)) a ws answers held =
          subst (λ (cs : List Call). Along (calls_made areas calls answers₀ held₀) first ws₀ answers₀ held₀ made cs a ws answers held)
          (left_next areas calls (length held₀) (length answers₀ / 5) made h c next_is more) s.along in
          record {
            along = along_next here room known answers-after w;
            ends = s.ends ∙ end_next areas calls (length held₀) (length answers₀ / 5) made h c next_is more;
            tested = lasts m;
            read = omega arith;
            written = omega arith;
            words_length = nw ∙ s.words_length;
            answers_length = na ∙ s.answers_length;
            held_length = nh ∙ s.held_length;
          }
