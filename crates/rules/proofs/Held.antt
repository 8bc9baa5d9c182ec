-- A question of a record that keeps the rules: it is answered as its lists say, and a held list is written.
use Prim.Native.Nat.{ℕ, ◌≤◌}
use mathlib.Core.Path.{◌≡◌, sym, ap, ◌∙◌}
use mathlib.Core.Bool.{false}
use mathlib.Core.List.{List}
use lib.ListN.{length}
use borrow.Author.Tests.{le-ltb}
use Rattle.model.specs.Queries.{held_list, held_runs, written}
use Rattle.model.specs.Store.{load}
use Rattle.model.specs.Calls.{Call, held_call, Outcome, answer, short_buffer, stored, Answers, held_buffer, ListsHeld}
use Rattle.model.specs.declared.Answer.{Answer}
use Rattle.model.specs.declared.FrameAllocator.{FrameAllocator}
use Rattle.model.proofs.Unchanged.{going_left}
use Rattle.rules.specs.Check.{checked}
use Rattle.rules.proofs.Numbers.{accepted_call}

module _ (a : FrameAllocator) (ws : List ℕ) (z : checked a ws ≡ 0) where
  pub answers_going : (c : Call) → short_buffer c ≡ false → {x : Answer} → x ≡ (answer c (load a ws)).answer → Answers c a ws x
  unfolding stored
  answers_going c e r = r ∙ sym (ap (λ (o : Outcome). o.answer) (accepted_call c a ws e z))

  module _ (before : List ℕ) (h : 2048 ≤ length before) where
    abbrev listing : Call
    listing = held_call (length before)

    long : short_buffer listing ≡ false
    unfolding short_buffer
    long = le-ltb (length before) 2048 h

    pub held_going : {x : Answer} {after : List ℕ} → x ≡ (held_runs (load a ws)).answer → after ≡ written (held_list (load a ws)) before → ListsHeld a ws before x after
    unfolding answer held_buffer
    held_going is words =
        record { answers = answers_going listing long is; buffer = words ∙ sym (going_left listing a ws before (accepted_call listing a ws long z)) }
