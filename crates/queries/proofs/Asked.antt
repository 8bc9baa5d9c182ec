-- A question goes by the number of the test, the held list by the length of its buffer before that.
use Prim.Native.Nat.{ℕ, ◌≤◌, ◌<◌}
use mathlib.Core.Path.{◌≡◌, sym, ap, subst, ◌∙◌}
use mathlib.Core.Bool.{false}
use mathlib.Core.List.{List}
use lib.ListN.{length}
use borrow.Author.Tests.{lt-ltb, le-ltb}
use Rattle.model.specs.Lists.{Lists}
use Rattle.model.specs.Store.{load}
use Rattle.model.specs.Calls.{Call, held_call, Outcome, answer, short_buffer, unchanged, call, Answers, ListsHeld}
use Rattle.model.specs.declared.Answer.{Answer}
use Rattle.model.specs.declared.FrameAllocator.{FrameAllocator}
use Rattle.model.specs.declared.refusals.Refusal.{Refusal}
use Rattle.model.specs.declared.refusals.Refusal.TheVariants.{TooFewWords}
use Rattle.model.specs.Refusals.{number, refused_answer}
use Rattle.model.proofs.Unchanged.{refused_left}
use Rattle.rules.proofs.Refusals.{numbered, answers_number}
use Rattle.std.specs.Prelude.{Ok, Err}
use Rattle.rules.specs.Check.{verdict}
use Rattle.rules.proofs.Held.{answers_going, held_going}
use Rattle.rules.proofs.Numbers.{short_call, gives_refused, passed_number, verdict_ruled}
use Rattle.lists.specs.Listed.{lists_of}
use Rattle.lists.specs.declared.four_lists.FourLists.{FourLists}
use Rattle.lists.specs.Whole.{lists_in, Ruled}
use Rattle.rules.specs.Check.{Opens}
use Rattle.lists.specs.Open.{lent}
use Rattle.rules.specs.declared.Opened.{Opened}
use Rattle.rules.proofs.OpenAs.{OpenAs, apart_as, open_ruled, open_lists}
use Rattle.query_core.specs.Listed.{Listed}
use Rattle.queries.specs.Asked.{MayRead}

module _ (c : Call) (a : FrameAllocator) (ws : List ℕ) (e : short_buffer c ≡ false) where
  -- the test refuses it
  pub answers_refused : (r : Refusal) → verdict a ws ≡ Err r → {x : Answer} → x ≡ refused_answer r → Answers c a ws x
  answers_refused r p q = q ∙ (gives_refused c a ws e r p).answers

  -- or lets it read
  pub answers_read : (l : FourLists) → MayRead a ws l → {x : Answer} → x ≡ (answer c (lists_of l)).answer → Answers c a ws x
  answers_read l m r = answers_going a ws (passed_number a ws m.passes) c e (r ∙ ap (λ (y : Lists). (answer c y).answer) m.loads)

module _ (a : FrameAllocator) (ws before : List ℕ) where
  abbrev listing : Call
  listing = held_call (length before)

  -- a refusal keeps the buffer
  kept : (r : Refusal) → {x : Answer} → x ≡ refused_answer r → Answers listing a ws x → ListsHeld a ws before x before
  kept r e k =
      let same : (call listing a ws).answer.number ≡ number r = sym (ap (λ (y : Answer). y.number) k) ∙ ap (λ (y : Answer). y.number) e ∙ answers_number r in
      record { answers = k; buffer = sym (refused_left listing a ws before (λ h. numbered r (sym same ∙ h))) }

  pub held_short : length before < 2048 → {x : Answer} → x ≡ refused_answer TooFewWords → ListsHeld a ws before x before
  unfolding short_buffer unchanged
  held_short h r =
      kept TooFewWords r (r ∙ sym (ap (λ (o : Outcome). o.answer) (short_call listing a ws (lt-ltb (length before) 2048 h))))

  module _ (h : 2048 ≤ length before) where
    long : short_buffer listing ≡ false
    unfolding short_buffer
    long = le-ltb (length before) 2048 h

    pub held_refused : (r : Refusal) → verdict a ws ≡ Err r → {x : Answer} → x ≡ refused_answer r → ListsHeld a ws before x before
    held_refused r p e = kept r e (answers_refused listing a ws long r p e)

    pub held_read : (l : FourLists) → MayRead a ws l → {x : Answer} {after : List ℕ} → Listed (lists_of l) before x after → ListsHeld a ws before x after
    held_read l m {x} {after} listed =
        let d : Listed (load a ws) before x after = subst (λ (y : Lists). Listed y before x after) m.loads listed in
        held_going a ws (passed_number a ws m.passes) before h d.answers d.buffer

-- a record that the test let go on, opened
module _ {a : FrameAllocator} {ws : List ℕ} {o : Opened} {es : List ℕ} (p : Opens a ws o es) (z : o.tested ≡ Ok tt) where
  stands : OpenAs (load a ws) o.header es ws
  stands = apart_as a ws p.apart (verdict_ruled a ws (sym p.tested ∙ z))

  pub may_ask : Ruled o.header (lent o.header.sorted es ws)
  may_ask = open_ruled stands

  pub may_read : (l : FourLists) → l.header ≡ o.header → l.entries.now ≡ lent o.header.sorted es ws → MayRead a ws l
  may_read l h e = record { passes = sym p.tested ∙ z; loads = (λ i. lists_in (h i) (e i)) ∙ open_lists stands }
