-- The record of a run stands open: what holds of it from call to call.
use Prim.Native.Nat.{ℕ}
use native.Mathlib.Omega.{arith}
use mathlib.Core.Path.{◌≡◌, refl, sym, ap, subst, ◌∙◌}
use mathlib.Core.Bool.{true, false, ◌&&◌, true≢false, false≢true}
use mathlib.Core.List.{List}
use lib.ListN.{length}
use Rattle.model.specs.Lists.{Lists}
use Rattle.model.specs.Calls.{Call, answer, held_buffer}
use Rattle.model.specs.Store.{is_set, load, record_of}
use Rattle.model.specs.declared.FrameAllocator.{FrameAllocator}
use Rattle.std.specs.Prelude.{Ok, Err}
use Rattle.std.specs.Result.{is_ok}
use Rattle.model.proofs.Carried.{Stands, loads}
use Rattle.model.proofs.Each.{same_form}
use Rattle.model.proofs.Lasting.{answer_lawful}
use Rattle.model.proofs.Lawful.{Lawful}
use Rattle.model.proofs.Unchanged.{going_left}
use Rattle.rules.specs.Check as whole
use Rattle.rules.specs.Check.{verdict, Verdict}
use Rattle.rules.proofs.Going.{ruled_stands, gives_does}
use Rattle.rules.proofs.Numbers.{accepted_call, passed_number, verdict_ruled}
use Rattle.lists.specs.Whole.{lists_in, Ruled}
use Rattle.lists.specs.declared.header.Header.{Header}
use Rattle.lists.specs.declared.header.HandedBack.{HandedBack}
use Rattle.lists.specs.Packed.{Apart, Closable, closed}
use Rattle.lists.specs.Open.{lent, DoesOpen}
use Rattle.rules.proofs.OpenAs.{OpenAs, apart_as, open_ruled, open_lists, open_answers, open_words, open_after, close_can, close_is}
use Rattle.run_calls.specs.declared.OpenCall.{OpenCall}
use Rattle.run_calls.specs.Commands.{open_call}
use Rattle.run_calls.specs.Made.{verdict_for, Made, MadeOpen, refused, done}
use Rattle.run_calls.proofs.Making.{goes_long, goes_on, made_refused, open_keeps}
use Rattle.run.specs.Runs.{record_now}

-- a record in its form, and the lists that stand open beside it
pub record Standing (a : FrameAllocator) (h : Header) (es ws : List ℕ) : Type 0 where
  pub lists : Lists
  pub opens : OpenAs lists h es ws
  pub before : List ℕ
  pub ruled : whole.RuledRecord a before
  pub form : is_set a.sorted ≡ lists.sorted

pub passed_is : (t : Verdict) → t ≡ Ok tt → (a : FrameAllocator) (h : Header) (es : List ℕ) → record_now t a h es ≡ closed a h es
unfolding record_now
passed_is (Ok u) e a h es = refl
passed_is (Err r) e a h es = let w : ◌≡◌ {A = ℕ} 0 1 = cc in absurd (omega arith)

pub refused_is : (t : Verdict) → is_ok t ≡ false → (a : FrameAllocator) (h : Header) (es : List ℕ) → record_now t a h es ≡ a
unfolding record_now
refused_is (Ok u) e a h es = absurd (true≢false e)
refused_is (Err r) e a h es = refl

pub passed : (t : Verdict) → is_ok t ≡ true → t ≡ Ok tt
passed (Ok u) e = refl
passed (Err r) e = absurd (false≢true e)

module _ {a : FrameAllocator} {h : Header} {es ws : List ℕ} (s : Standing a h es ws) where
  pub standing_closes : Closable (is_set a.sorted && h.sorted) es
  standing_closes = close_can s.opens a s.before s.ruled s.form

  pub standing_record : closed a h es ≡ record_of s.lists
  standing_record = close_is s.opens a s.before s.ruled s.form

  pub standing_ruled : Ruled h (lent h.sorted es ws)
  standing_ruled = open_ruled s.opens

  standing_stands : Stands s.lists (closed a h es) ws
  standing_stands = record { lawful = s.opens.lawful; records = standing_record; words = s.opens.words; enough = s.opens.enough }

  standing_loads : load (closed a h es) ws ≡ s.lists
  standing_loads = loads s.lists (closed a h es) ws standing_stands

-- a record taken apart is itself
module _ (test : Verdict) (a : FrameAllocator) (ws : List ℕ) (e : test ≡ verdict a ws) {h : Header} {es : List ℕ} (p : Apart a h es) where
  pub apart_standing : test ≡ Ok tt → Standing a h es ws
  unfolding load
  apart_standing z =
      let u = verdict_ruled a ws (sym e ∙ z) in
      record { lists = load a ws; opens = apart_as a ws p u; before = ws; ruled = u; form = refl }

  same_form_kept : is_set a.sorted ≡ (load a ws).sorted
  unfolding load
  same_form_kept = refl

  pub apart_record : record_now test a h es ≡ a
  apart_record = go test refl
    where
      go : (t : Verdict) → test ≡ t → record_now test a h es ≡ a
      go (Ok t) z =
          let u = verdict_ruled a ws (sym e ∙ z) in
          passed_is test z a h es ∙ close_is (apart_as a ws p u) a ws u same_form_kept ∙ sym (ruled_stands a ws u).records
      go (Err r) z = refused_is test (ap is_ok z) a h es

-- a call on what stands open is the call on the record
module _ (c : OpenCall) (test : Verdict) (a : FrameAllocator) (h : Header) (es ws before : List ℕ) (tested : test ≡ verdict (record_now test a h es) ws) (stands : test ≡ Ok tt → Standing a h es ws) where
  abbrev it : Call
  it = open_call (length before) c

  done_standing : (z : verdict_for it test ≡ Ok tt) {d : HandedBack} {es-after ws-after : List ℕ} → DoesOpen (answer it) h es ws d es-after ws-after → Standing a d.header es-after ws-after
  done_standing z x =
      let s = stands (goes_on it test z) in
      let form = same_form it s.lists (open_keeps (length before) c) in
      record {
        lists = (answer it s.lists).lists;
        opens = open_after s.opens (answer it) (answer_lawful it s.lists s.opens.lawful) form x;
        before = s.before;
        ruled = s.ruled;
        form = s.form ∙ sym form;
      }

  pub made_standing : {d : HandedBack} {es-after ws-after after : List ℕ} → MadeOpen it test h es ws before d es-after ws-after after → test ≡ Ok tt → Standing a d.header es-after ws-after
  made_standing (refused r q e) z = subst (λ (y : Header). Standing a y es ws) (sym (ap (λ (y : HandedBack). y.header) e)) (stands z)
  made_standing (done y x left) z = done_standing y x

  done_made : (z : verdict_for it test ≡ Ok tt) {d : HandedBack} {es-after ws-after after : List ℕ} → DoesOpen (answer it) h es ws d es-after ws-after → after ≡ held_buffer it (lists_in h (lent h.sorted es ws)) before
      → Made it (closed a h es) ws before (record { answer = d.answer; allocator = closed a d.header es-after }) ws-after after
  done_made z {d} {es-after} {ws-after} {after} x left =
      let s = stands (goes_on it test z) in
      let l = s.lists in
      let keeps : Lawful (answer it l).lists = answer_lawful it l s.opens.lawful in
      let form = same_form it l (open_keeps (length before) c) in
      let y = passed_number (closed a h es) ws (ap (λ (r : FrameAllocator). verdict r ws) (sym (passed_is test (goes_on it test z) a h es)) ∙ sym tested ∙ goes_on it test z) in
      let same = standing_loads s in
      record {
        gives = gives_does it (closed a h es) ws (goes_long it test z) y _ ws-after
            (subst (λ (m : Lists). whole.DoesCall (answer it m) ws (record { answer = d.answer; allocator = closed a d.header es-after }) ws-after) (sym same) (record {
              answers = open_answers s.opens (answer it) keeps form x;
              records = close_is (open_after s.opens (answer it) keeps form x) a s.before s.ruled (s.form ∙ sym form);
              words = open_words s.opens (answer it) keeps form x;
            }));
        buffer =
            left ∙ ap (λ (m : Lists). held_buffer it m before) (open_lists s.opens ∙ sym same)
            ∙ sym (going_left it (closed a h es) ws before (accepted_call it (closed a h es) ws (goes_long it test z) y));
      }

  pub made_record : {d : HandedBack} {es-after ws-after after : List ℕ} → MadeOpen it test h es ws before d es-after ws-after after
      → Made it (record_now test a h es) ws before (record { answer = d.answer; allocator = record_now test a d.header es-after }) ws-after after
  made_record {d} (refused r q e) =
      made_refused it (record_now test a h es) ws before test tested r q _
      (λ i. record { answer = (e i).answer; allocator = record_now test a (e i).header es })
  made_record {d} {es-after} {ws-after} {after} (done y x left) =
      let z = goes_on it test y in
      subst (λ (r : FrameAllocator). Made it r ws before (record { answer = d.answer; allocator = record_now test a d.header es-after }) ws-after after) (sym (passed_is test z a h es))
      (subst (λ (r : FrameAllocator). Made it (closed a h es) ws before (record { answer = d.answer; allocator = r }) ws-after after) (sym (passed_is test z a d.header es-after)) (done_made y x left))
