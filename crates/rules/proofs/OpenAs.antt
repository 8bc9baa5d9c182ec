-- Calls on an allocator that stands open, one after the other, and from them to the record: what holds of every call that keeps the form.
use mathlib.Core.Path.{◌≡◌, refl, sym, ap, subst, ◌∙◌}
use mathlib.Core.Bool.{Bool, true, false, false≢true, not, ◌&&◌}
use mathlib.Core.List.{List}
use Prim.Native.Nat.{ℕ, ◌≤◌}
use native.Mathlib.Omega.{arith}
use lib.ListN.{length}
use Rattle.model.specs.Lists.{Lists}
use Rattle.model.specs.Requests.{Result}
use Rattle.model.specs.Calls.{Call, Gives, answer, short_buffer}
use Rattle.model.specs.Store.{is_set, load, record_of, words_of}
use Rattle.model.specs.declared.FrameAllocator.{FrameAllocator}
use Rattle.model.proofs.Lasting.{answer_lawful}
use Rattle.model.proofs.Lawful.{Lawful}
use Rattle.model.proofs.Whole.{early_words}
use Rattle.rules.specs.Check as whole
use Rattle.rules.proofs.Going.{ruled_stands, stored_stands, gives_does, ruled_tested}
use Rattle.rules.proofs.Numbers.{checked_ruled}
use Rattle.lists.specs.Part.{width}
use Rattle.lists.specs.Whole.{lists_in, header_of, four, entries_of, Ruled, Does}
use Rattle.lists.specs.declared.header.Header.{Header}
use Rattle.lists.specs.declared.header.HandedBack.{HandedBack}
use Rattle.lists.proofs.Again.{lists_again, ruled_again}
use Rattle.lists.specs.Packed.{packed_lists, Unpackable, Apart, Closable, closed}
use Rattle.lists.specs.Open.{lent, DoesOpen}
use Rattle.rules.specs.declared.Opened.{Opened}
use Rattle.lists.proofs.Closing.{can_unpack, no_unpack}
use Rattle.std.proofs.Math.Bool.{and-false}
use Rattle.lists.proofs.Packed.{packed_length, unpackable, entries_packed, close_lists, sorted_words, header_lists, pack_lists, close_sorted}

-- the lists stand open in a header, slots and words
pub record OpenAs (l : Lists) (h : Header) (es ws : List ℕ) : Type 0 where
  pub lawful : Lawful l
  pub header : h ≡ header_of l
  pub slots : l.sorted ≡ false → es ≡ packed_lists l
  pub words : ws ≡ words_of l ws
  pub enough : 4096 ≤ length ws

-- a record that keeps the rules, taken apart
pub apart_as : (a : FrameAllocator) (ws : List ℕ) {h : Header} {es : List ℕ} → Apart a h es → whole.RuledRecord a ws → OpenAs (load a ws) h es ws
unfolding load
apart_as a ws p u =
    let s = ruled_stands a ws u in
    record {
      lawful = s.lawful;
      header = p.header ∙ header_lists a ws (ruled_tested a ws u);
      slots = λ e. p.slots e ∙ pack_lists a ws (ruled_tested a ws u) e;
      words = s.words;
      enough = s.enough;
    }

module _ {l : Lists} {h : Header} {es ws : List ℕ} (o : OpenAs l h es ws) where
  form_is : h.sorted ≡ l.sorted
  unfolding header_of
  form_is = ap (λ (x : Header). x.sorted) o.header

  -- the entries store the lists
  entries_are : lent l.sorted es ws ≡ entries_of l (lent l.sorted es ws)
  unfolding lent
  entries_are = go l.sorted refl
    where
      go : (b : Bool) → l.sorted ≡ b → lent b es ws ≡ entries_of l (lent b es ws)
      go true e = o.words ∙ sym (sorted_words l e ws)
      go false e = o.slots e ∙ sym (entries_packed l o.lawful e es (ap length (o.slots e) ∙ packed_length l o.lawful e))

  entries_long : four (width l.sorted) ≤ length (lent l.sorted es ws)
  unfolding lent width
  entries_long = go l.sorted refl
    where
      go : (b : Bool) → l.sorted ≡ b → four (width b) ≤ length (lent b es ws)
      go true e = o.enough
      go false e = omega (arith, ap length (o.slots e), packed_length l o.lawful e)

  lent_is : lent h.sorted es ws ≡ entries_of l (lent l.sorted es ws)
  lent_is = ap (λ (b : Bool). lent b es ws) form_is ∙ entries_are

  -- so a call may go on
  pub open_ruled : Ruled h (lent h.sorted es ws)
  open_ruled =
      subst (λ (x : Header). Ruled x (lent h.sorted es ws)) (sym o.header)
      (subst (Ruled (header_of l)) (sym lent_is) (ruled_again l o.lawful (lent l.sorted es ws) entries_long))

  pub open_lists : lists_in h (lent h.sorted es ws) ≡ l
  open_lists = (λ i. lists_in (o.header i) (lent_is i)) ∙ lists_again l o.lawful (lent l.sorted es ws)

  -- what it does, it does to the lists, and these stand open after it
  module _ (f : Lists → Result) (keeps : Lawful (f l).lists) (form : (f l).lists.sorted ≡ l.sorted) {d : HandedBack} {es-after ws-after : List ℕ} (x : DoesOpen f h es ws d es-after ws-after) where
    done : Does (f l) (lent l.sorted es ws) d (lent l.sorted es-after ws-after)
    done =
        subst (λ (b : Bool). Does (f l) (lent b es ws) d (lent b es-after ws-after)) form_is
        (subst (λ (y : Lists). Does (f y) (lent h.sorted es ws) d (lent h.sorted es-after ws-after)) open_lists x.does)

    others : lent (not l.sorted) es-after ws-after ≡ lent (not l.sorted) es ws
    others = subst (λ (b : Bool). lent (not b) es-after ws-after ≡ lent (not b) es ws) form_is x.kept

    pub open_answers : d.answer ≡ (f l).answer
    open_answers = done.answers

    pub open_words : ws-after ≡ words_of (f l).lists ws
    unfolding lent
    open_words = go l.sorted refl done.words others
      where
        go : (b : Bool) → l.sorted ≡ b → lent b es-after ws-after ≡ entries_of (f l).lists (lent b es ws) → lent (not b) es-after ws-after ≡ lent (not b) es ws → ws-after ≡ words_of (f l).lists ws
        go true e p q = p ∙ sorted_words (f l).lists (form ∙ e) ws
        go false e p q = q ∙ sym (early_words (f l).lists (form ∙ e) ws)

    open_slots : (f l).lists.sorted ≡ false → es-after ≡ packed_lists (f l).lists
    unfolding lent
    open_slots e = go l.sorted refl done.words
      where
        go : (b : Bool) → l.sorted ≡ b → lent b es-after ws-after ≡ entries_of (f l).lists (lent b es ws) → es-after ≡ packed_lists (f l).lists
        go true g p = absurd (false≢true (sym e ∙ form ∙ g))
        go false g p = p ∙ entries_packed (f l).lists keeps e es (ap length (o.slots g) ∙ packed_length l o.lawful g)

    pub open_after : OpenAs (f l).lists d.header es-after ws-after
    open_after =
        let s = stored_stands (f l).lists ws o.enough keeps (record_of (f l).lists) ws-after refl open_words in
        record { lawful = keeps; header = done.header; slots = open_slots; words = s.words; enough = s.enough }

  -- closed, they are the record that stores them
  module _ (a : FrameAllocator) (vs : List ℕ) (u : whole.RuledRecord a vs) (same : is_set a.sorted ≡ l.sorted) where
    pub close_can : Closable (is_set a.sorted && h.sorted) es
    close_can = go l.sorted refl
      where
        go : (b : Bool) → l.sorted ≡ b → Closable (is_set a.sorted && h.sorted) es
        go true e = no_unpack es (λ i. (same ∙ e) i && (form_is ∙ e) i)
        go false e = can_unpack ((λ i. is_set a.sorted && (form_is ∙ e) i) ∙ and-false (is_set a.sorted)) (subst Unpackable (sym (o.slots e)) (unpackable l o.lawful e))

    pub close_is : closed a h es ≡ record_of l
    close_is = go l.sorted refl
      where
        go : (b : Bool) → l.sorted ≡ b → closed a h es ≡ record_of l
        go true e = ap (λ (x : Header). closed a x es) o.header ∙ close_sorted a vs (ruled_tested a vs u) (same ∙ e) l e es
        go false e = (λ i. closed a (o.header i) (o.slots e i)) ∙ close_lists l o.lawful e a

-- From a public call by value to the lists, once for every call that keeps the form: opened, the call, closed.
module _ (c : Call) (a : FrameAllocator) (ws : List ℕ) (long : short_buffer c ≡ false) (form : (answer c (load a ws)).lists.sorted ≡ (load a ws).sorted) (z : whole.checked a ws ≡ 0) {o : Opened} {es : List ℕ} (p : whole.Opens a ws o es) where
  stands : OpenAs (load a ws) o.header es ws
  stands = apart_as a ws p.apart (checked_ruled a ws z)

  pub call_may : Ruled o.header (lent o.header.sorted es ws)
  call_may = open_ruled stands

  module _ {d : HandedBack} {es-after ws-after : List ℕ} (x : DoesOpen (answer c) o.header es ws d es-after ws-after) where
    kept : Lawful (answer c (load a ws)).lists
    kept = answer_lawful c (load a ws) stands.lawful

    after : OpenAs (answer c (load a ws)).lists d.header es-after ws-after
    after = open_after stands (answer c) kept form x

    same_record : is_set a.sorted ≡ (answer c (load a ws)).lists.sorted
    unfolding load
    same_record = sym form

    pub call_closes : Closable (is_set a.sorted && d.header.sorted) es-after
    call_closes = close_can after a ws (checked_ruled a ws z) same_record

    pub call_gives : (b : FrameAllocator) → b ≡ closed a d.header es-after → Gives c a ws (whole.answered_with d.answer b) ws-after
    call_gives b e =
        gives_does c a ws long z (whole.answered_with d.answer b) ws-after (record {
          answers = open_answers stands (answer c) kept form x;
          records = e ∙ close_is after a ws (checked_ruled a ws z) same_record;
          words = open_words stands (answer c) kept form x;
        })
