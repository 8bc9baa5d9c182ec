-- One call, made by the verdict of the test.
use Prim.Native.Nat.{ℕ, ◌+◌, ◌*◌, ◌-◌, ◌≤◌, ◌<◌}
use native.Mathlib.Omega.{arith}
use mathlib.Core.Path.{◌≡◌, refl, sym, ap, subst, ◌∙◌}
use mathlib.Core.Bool.{Bool, true, false}
use mathlib.Core.List.{List}
use lib.ListN.{length, take, drop}
use borrow.Author.Tests.{leb-true, lt-ltb, le-ltb, ltb-false}
use Rattle.std.specs.Prelude.{if◌then◌else◌, Ok, Err}
use Rattle.memory_structs.specs.Range.{above_top}
use Rattle.memory_structs.proofs.Bools.{if_cases}
use Rattle.model.specs.Lists.{Lists}
use Rattle.model.specs.Requests.{Result, refused, counted}
use Rattle.model.specs.Queries.{kind_of, total, held_runs}
use Rattle.model.specs.Calls.{Call, held_call, total_call, kind_call, return_call, sort_call, Outcome, answer, short_buffer, unchanged, call, Gives, held_buffer}
use Rattle.model.specs.declared.Answer.{Answer}
use Rattle.model.specs.declared.Called.{Called}
use Rattle.model.specs.declared.Kind.{Kind}
use Rattle.model.specs.declared.Kind.TheVariants.{General, Reserved}
use Rattle.model.specs.declared.FrameAllocator.{FrameAllocator}
use Rattle.model.specs.declared.refusals.Refusal.{Refusal}
use Rattle.model.specs.declared.refusals.Refusal.TheVariants.{TooFewWords}
use Rattle.model.specs.Refusals.{number}
use Rattle.memory_structs.specs.declared.range.FrameRange.{FrameRange}
use Rattle.model.proofs.Each.{changes_form}
use Rattle.model.proofs.Unchanged.{refused_left, kept_left}
use Rattle.rules.specs.Check.{verdict, Verdict, refused_with}
use Rattle.rules.proofs.Numbers.{short_call, gives_refused}
use Rattle.rules.proofs.Refusals.{numbered, answers_number}
use Rattle.boot_areas.specs.Boots.{boot_call_of}
use Rattle.boot_areas.specs.declared.AreaUnit.{AreaUnit}
use Rattle.boot_areas.specs.declared.AreaUnit.TheVariants as unit
use Rattle.query_core.specs.Listed as query
use Rattle.lists.specs.Whole.{lists_in, Ruled}
use Rattle.lists.specs.Whole as whole
use Rattle.lists.specs.declared.header.Header.{Header}
use Rattle.lists.specs.declared.header.HandedBack.{HandedBack}
use Rattle.lists.proofs.Whole.{header_kept, words_kept}
use Rattle.lists.specs.Open.{lent, DoesOpen}
use Rattle.requests.specs.Asked as asked
use Rattle.requests.specs.declared.Request.{Request}
use Rattle.requests.specs.declared.Request.TheVariants.{Frames, Bytes, FramesAt, BytesAt, GeneralFramesAt}
use Rattle.run_calls.specs.declared.FormCall.{FormCall}
use Rattle.run_calls.specs.declared.FormCall.TheVariants.{Boot, Sort}
use Rattle.run_calls.specs.declared.OpenCall.{OpenCall}
use Rattle.run_calls.specs.declared.OpenCall.TheVariants.{Allocate, Return, KindOf, FreeTotal, HeldList}
use Rattle.run_calls.specs.Commands.{are_listed, AreasListed, areas_at, form_call, open_call}
use Rattle.run_calls.specs.Made.{verdict_for, Made, MadeOpen, done}

-- ---- a boot's areas: the part of the list from one word to another

pub boot_in_list : (n first count : ℕ) (u : AreaUnit) (c : FormCall) → c ≡ Boot u first count → AreasListed n c → are_listed n first count ≡ true
unfolding AreasListed
boot_in_list n first count u c e h = subst (λ (x : FormCall). AreasListed n x) e h

module _ (n first count : ℕ) (e : are_listed n first count ≡ true) where
  pub areas_end : 3 * first + 3 * count ≤ n
  unfolding are_listed
  areas_end = omega (arith, leb-true (3 * (first + count)) n e)

pub areas_part : (first count : ℕ) (areas : List ℕ) → take (3 * first + 3 * count - 3 * first) (drop (3 * first) areas) ≡ areas_at first count areas
unfolding areas_at
areas_part first count areas =
    let e : 3 * first + 3 * count - 3 * first ≡ 3 * count = omega arith in
    ap (λ (n : ℕ). take n (drop (3 * first) areas)) e

pub form_keeps : (areas : List ℕ) (c : FormCall) (l : Lists) (buffer : List ℕ) → held_buffer (form_call areas c) l buffer ≡ buffer
unfolding form_call boot_call_of held_buffer
form_keeps areas (Boot unit.Frames first count) l buffer = refl
form_keeps areas (Boot unit.Bytes first count) l buffer = refl
form_keeps areas Sort l buffer = refl

-- ---- the verdict that decides

-- only a held list has a buffer
pub other_verdict : (buffer : ℕ) (t : Verdict) (c : OpenCall) → (c ≡ HeldList → ⊥) → t ≡ verdict_for (open_call buffer c) t
unfolding verdict_for open_call short_buffer
other_verdict buffer t (Allocate (Frames m)) q = refl
other_verdict buffer t (Allocate (Bytes b)) q = refl
other_verdict buffer t (Allocate (FramesAt f m)) q = refl
other_verdict buffer t (Allocate (BytesAt x b)) q = refl
other_verdict buffer t (Allocate (GeneralFramesAt f m)) q = refl
other_verdict buffer t (Return r) q = refl
other_verdict buffer t (KindOf r) q = refl
other_verdict buffer t (FreeTotal k) q = refl
other_verdict buffer t HeldList q = absurd (q refl)

module _ (buffer : ℕ) (t : Verdict) (c : OpenCall) (e : c ≡ HeldList) where
  pub short_verdict : buffer < 2048 → Err TooFewWords ≡ verdict_for (open_call buffer c) t
  unfolding verdict_for open_call short_buffer
  short_verdict h = rw (e, lt-ltb buffer 2048 h)

  pub long_verdict : 2048 ≤ buffer → t ≡ verdict_for (open_call buffer c) t
  unfolding verdict_for open_call short_buffer
  long_verdict h = rw (e, le-ltb buffer 2048 h)

-- a call that goes on: no short buffer, and the rules are kept
module _ (c : Call) (t : Verdict) (z : verdict_for c t ≡ Ok tt) where
  goes : (b : Bool) → short_buffer c ≡ b → ◌≡◌ {A = Verdict} (if b then Err TooFewWords else t) (Ok tt) → (short_buffer c ≡ false) × (t ≡ Ok tt)
  goes true e h = let w : ◌≡◌ {A = ℕ} 0 1 = cc in absurd (omega arith)
  goes false e h = (e, h)

  pub goes_long : short_buffer c ≡ false
  unfolding verdict_for
  goes_long = (goes (short_buffer c) refl z).0

  pub goes_on : t ≡ Ok tt
  unfolding verdict_for
  goes_on = (goes (short_buffer c) refl z).1

-- and one that is refused
gives_refusal : (c : Call) (a : FrameAllocator) (ws : List ℕ) (t : Verdict) → t ≡ verdict a ws → (r : Refusal) → verdict_for c t ≡ Err r → Gives c a ws (refused_with r a) ws
unfolding verdict_for unchanged
gives_refusal c a ws t p r q = go (short_buffer c) refl q
  where
    go : (b : Bool) → short_buffer c ≡ b → ◌≡◌ {A = Verdict} (if b then Err TooFewWords else t) (Err r) → Gives c a ws (refused_with r a) ws
    go true e q =
        let k = short_call c a ws e in
        let three : TooFewWords ≡ r = cc in
        subst (λ (x : Refusal). Gives c a ws (refused_with x a) ws) three (record {
          answers = sym (ap (λ (o : Outcome). o.answer) k);
          records = sym (ap (λ (o : Outcome). o.allocator) k);
          words = sym (ap (λ (o : Outcome). o.words) k);
        })
    go false e q = gives_refused c a ws e r (sym p ∙ q)

-- ---- the call made

module _ (c : Call) (a : FrameAllocator) (ws before : List ℕ) where
  -- a refusal keeps the buffer, and so does every call but a held list
  pub made_refused : (t : Verdict) → t ≡ verdict a ws → (r : Refusal) → verdict_for c t ≡ Err r → (called : Called) → called ≡ refused_with r a → Made c a ws before called ws before
  made_refused t p r q called e =
      let g : Gives c a ws (refused_with r a) ws = gives_refusal c a ws t p r q in
      let same : (call c a ws).answer.number ≡ number r = sym (ap (λ (x : Answer). x.number) g.answers) ∙ answers_number r in
      record {
        gives = subst (λ (x : Called). Gives c a ws x ws) (sym e) g;
        buffer = sym (refused_left c a ws before (λ z. numbered r (sym same ∙ z)));
      }

  pub made_gives : ((l : Lists) (buffer : List ℕ) → held_buffer c l buffer ≡ buffer) → {called : Called} {after : List ℕ} → Gives c a ws called after → Made c a ws before called after before
  made_gives keeps g = record { gives = g; buffer = sym (kept_left c keeps a ws before) }

-- ---- a call on an allocator that stands open

pub made_as : {tested : Verdict} {h : Header} {es ws before : List ℕ} {d : HandedBack} {es-after ws-after after : List ℕ} (n : ℕ) {c known : OpenCall} → c ≡ known →
    MadeOpen (open_call n known) tested h es ws before d es-after ws-after after → MadeOpen (open_call n c) tested h es ws before d es-after ws-after after
made_as {tested} {h} {es} {ws} {before} {d} {es-after} {ws-after} {after} n e m = subst (λ (x : OpenCall). MadeOpen (open_call n x) tested h es ws before d es-after ws-after after) (sym e) m

-- no request writes to the held list's buffer
request_keeps : (r : Request) (l : Lists) (buffer : List ℕ) → held_buffer (asked.call_of r) l buffer ≡ buffer
unfolding held_buffer
request_keeps (Frames m) l buffer = refl
request_keeps (Bytes b) l buffer = refl
request_keeps (FramesAt f m) l buffer = refl
request_keeps (BytesAt x b) l buffer = refl
request_keeps (GeneralFramesAt f m) l buffer = refl

-- a question leaves the lists
pub kind_keeps : (r : FrameRange) (l : Lists) → (answer (kind_call r) l).lists ≡ l
unfolding answer kind_of refused counted
kind_keeps r l = if_cases (λ (o : Result). o.lists ≡ l) (above_top r) (λ e. refl) (λ e. refl)

pub total_keeps : (k : Kind) (l : Lists) → (answer (total_call k) l).lists ≡ l
unfolding answer total counted
total_keeps General l = refl
total_keeps Reserved l = refl

pub held_keeps : (n : ℕ) (l : Lists) → (answer (held_call n) l).lists ≡ l
unfolding answer held_runs counted
held_keeps n l = refl

pub asks_open : (c : Call) (h : Header) (es ws : List ℕ) → Ruled h (lent h.sorted es ws) → (answer c (lists_in h (lent h.sorted es ws))).lists ≡ lists_in h (lent h.sorted es ws)
    → {x : Answer} → x ≡ (answer c (lists_in h (lent h.sorted es ws))).answer → {d : HandedBack} → d ≡ whole.handed_with x h → DoesOpen (answer c) h es ws d es ws
asks_open c h es ws u same {x} e {d} p = record {
  does = record {
    answers = ap (λ (y : HandedBack). y.answer) p ∙ e;
    header = ap (λ (y : HandedBack). y.header) p ∙ header_kept h _ u ∙ ap whole.header_of (sym same);
    words = words_kept h _ u ∙ ap (λ (l : Lists). whole.entries_of l (lent h.sorted es ws)) (sym same);
  };
  kept = refl;
}

pub long_held : (n : ℕ) → short_buffer (held_call n) ≡ false → 2048 ≤ n
unfolding short_buffer
long_held n e = ltb-false n 2048 e

-- it keeps the form
pub open_keeps : (n : ℕ) (c : OpenCall) → changes_form (open_call n c) ≡ false
unfolding open_call changes_form
open_keeps n (Allocate (Frames m)) = refl
open_keeps n (Allocate (Bytes b)) = refl
open_keeps n (Allocate (FramesAt f m)) = refl
open_keeps n (Allocate (BytesAt x b)) = refl
open_keeps n (Allocate (GeneralFramesAt f m)) = refl
open_keeps n (Return r) = refl
open_keeps n (KindOf r) = refl
open_keeps n (FreeTotal k) = refl
open_keeps n HeldList = refl

-- ---- each call, made

module _ (areas : List ℕ) {c : FormCall} {a : FrameAllocator} {ws after : List ℕ} {called : Called} where
  form_as : {known : FormCall} → c ≡ known → Gives (form_call areas known) a ws called after → Gives (form_call areas c) a ws called after
  form_as e g = subst (λ (x : FormCall). Gives (form_call areas x) a ws called after) (sym e) g

  pub boot_gives : {u : AreaUnit} {first count : ℕ} → c ≡ Boot u first count → Gives (boot_call_of u (areas_at first count areas)) a ws called after → Gives (form_call areas c) a ws called after
  unfolding form_call
  boot_gives e g = form_as e g

  pub sort_gives : c ≡ Sort → Gives sort_call a ws called after → Gives (form_call areas c) a ws called after
  unfolding form_call
  sort_gives e g = form_as e g

-- v is what the test of the call says
module _ (c : OpenCall) (tested : Verdict) (before : List ℕ) {v : Verdict} (is : v ≡ verdict_for (open_call (length before) c) tested) (z : v ≡ Ok tt) where
  known_verdict : {known : OpenCall} → c ≡ known → verdict_for (open_call (length before) known) tested ≡ Ok tt
  known_verdict e = subst (λ (x : OpenCall). verdict_for (open_call (length before) x) tested ≡ Ok tt) e (sym is ∙ z)

  pub goes_ruled : {h : Header} (es ws : List ℕ) → (tested ≡ Ok tt → Ruled h (lent h.sorted es ws)) → Ruled h (lent h.sorted es ws)
  goes_ruled es ws keeps = keeps (goes_on (open_call (length before) c) tested (sym is ∙ z))

  -- a held list that goes on has a long buffer
  pub goes_long_held : c ≡ HeldList → 2048 ≤ length before
  unfolding open_call
  goes_long_held e = long_held (length before) (goes_long (held_call (length before)) tested (known_verdict e))

  module _ {h : Header} {es ws : List ℕ} {d : HandedBack} where
    pub request_made : {r : Request} {es-after ws-after : List ℕ} → c ≡ Allocate r → DoesOpen (answer (asked.call_of r)) h es ws d es-after ws-after → MadeOpen (open_call (length before) c) tested h es ws before d es-after ws-after before
    unfolding open_call
    request_made {r} e x = made_as (length before) e (done (known_verdict e) x (sym (request_keeps r _ before)))

    pub return_made : {r : FrameRange} {es-after ws-after : List ℕ} → c ≡ Return r → DoesOpen (answer (return_call r)) h es ws d es-after ws-after → MadeOpen (open_call (length before) c) tested h es ws before d es-after ws-after before
    unfolding open_call held_buffer
    return_made e x = made_as (length before) e (done (known_verdict e) x refl)

    module _ (keeps : tested ≡ Ok tt → Ruled h (lent h.sorted es ws)) {x : Answer} (p : d ≡ whole.handed_with x h) where
      pub kind_made : {r : FrameRange} → c ≡ KindOf r → x ≡ (kind_of r (lists_in h (lent h.sorted es ws))).answer → MadeOpen (open_call (length before) c) tested h es ws before d es ws before
      unfolding open_call answer held_buffer
      kind_made {r} e k = made_as (length before) e (done (known_verdict e) (asks_open (kind_call r) h es ws (goes_ruled es ws keeps) (kind_keeps r _) k p) refl)

      pub total_made : {k : Kind} → c ≡ FreeTotal k → x ≡ (total k (lists_in h (lent h.sorted es ws))).answer → MadeOpen (open_call (length before) c) tested h es ws before d es ws before
      unfolding open_call answer held_buffer
      total_made {k} e q = made_as (length before) e (done (known_verdict e) (asks_open (total_call k) h es ws (goes_ruled es ws keeps) (total_keeps k _) q p) refl)

      pub held_made : {after : List ℕ} → c ≡ HeldList → query.Listed (lists_in h (lent h.sorted es ws)) before x after → MadeOpen (open_call (length before) c) tested h es ws before d es ws after
      unfolding open_call answer held_buffer
      held_made {after} e t =
          made_as (length before) e (done (known_verdict e) (asks_open (held_call (length before)) h es ws (goes_ruled es ws keeps) (held_keeps (length before) _) t.answers p) t.buffer)
