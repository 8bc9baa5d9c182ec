-- What a line leaves: the state that it should, and the bench ready for the next line.
use native.Mathlib.Omega.{arith}
use Prim.Native.Nat.{ℕ, ◌≤◌, ◌<◌}
use mathlib.Core.Path.{◌≡◌, refl, ap, subst⁻¹, ◌∙◌}
use mathlib.Core.List.{List, [], ◌∷◌, ◌++◌}
use lib.ListN.{length}
use borrow.Author.Tests.{lt-ltb, le-ltb}
use Rattle.model.specs.Calls.{Call, Gives}
use Rattle.model.specs.declared.Area.{Area}
use Rattle.model.specs.declared.Called.{Called}
use Rattle.model.specs.declared.FrameAllocator.{FrameAllocator}
use Rattle.rules.specs.Check.{RuledRecord}
use Rattle.rules.proofs.Lasting.{fresh_ruled, gives_ruled}
use Rattle.bench_areas.specs.Listed.{AreaList}
use Rattle.bench_areas.specs.Areas.{Few, how_many}
use Rattle.bench_texts.specs.Texts.{bad_line, answer_line}
use Rattle.bench_answers.specs.declared.Bench.{Bench}
use Rattle.bench_answers.specs.Answered.{saying, collecting, calling, first_state}
use Rattle.bench_answers.specs.Replies.{Ready, Replies, First, Gathers, state_of, with_record}

few_none : Few []
unfolding how_many
few_none k = omega arith

-- before the first line
module _ {b : Bench} (f : First b) where
  pub first_state_holds : (ws : List ℕ) → state_of b ws ≡ first_state ws
  unfolding first_state
  first_state_holds ws = λ i. record { areas = f.none i; allocator = f.fresh i; words = ws }

  pub first_ready : {words : List ℕ} → 4096 ≤ length words → Ready b words
  first_ready {words} enough = record {
    collecting = subst⁻¹ Few f.none few_none;
    ruled = subst⁻¹ (λ (a : FrameAllocator). RuledRecord a words) f.fresh (fresh_ruled words enough);
  }

-- a text put where there is none is all that is there
pub alone : (text : List ℕ) {none after : List ℕ} → none ≡ [] → after ≡ none ++ text → after ≡ text
alone text empty put = put ∙ ap (λ (t : List ℕ). t ++ text) empty

module _ (b : Bench) {out : List ℕ} where
  -- a text alone
  pub says : {t ws : List ℕ} → Ready b ws → out ≡ t → Replies (saying t (state_of b ws)) b out ws
  says ready p = record { state = refl; text = p; ready = ready }

  -- a call, whose record the bench goes on with
  pub tells : {c : Call} {ws after : List ℕ} {called : Called} → Ready b ws → Gives c b.allocator ws called after →
      out ≡ answer_line called.answer → Replies (calling c (state_of b ws)) (with_record called.allocator b) out after
  unfolding calling
  tells ready g p = record {
    state = λ i. record { areas = b.areas.items; allocator = g.records i; words = g.words i };
    text = p ∙ ap answer_line g.answers;
    ready = record { collecting = ready.collecting; ruled = gives_ruled g ready.ruled };
  }

module _ (b : Bench) {out : List ℕ} (a : Area) {after : AreaList} (few : Few after.items) where
  -- an area more
  pub taken : how_many a.kind b.areas.items < 64 → after.items ≡ b.areas.items ++ (a ∷ []) → out ≡ [] → Gathers a b (record { allocator = b.allocator; areas = after }) out
  unfolding collecting
  taken under more p ws ruled =
      rw (lt-ltb (how_many a.kind b.areas.items) 64 under) (record {
        state = ap (λ (xs : List Area). record { areas = xs; allocator = b.allocator; words = ws }) more;
        text = p;
        ready = record { collecting = few; ruled = ruled };
      })

  -- "the 65th of a kind is `(bad)`"
  pub full : how_many a.kind b.areas.items ≡ 64 → after ≡ b.areas → out ≡ bad_line → Gathers a b (record { allocator = b.allocator; areas = after }) out
  unfolding collecting
  full all kept p ws ruled =
      let many : 64 ≤ how_many a.kind b.areas.items = omega (arith, all) in
      rw (le-ltb (how_many a.kind b.areas.items) 64 many) (record {
        state = ap (λ (xs : AreaList). record { areas = xs.items; allocator = b.allocator; words = ws }) kept;
        text = p;
        ready = record { collecting = few; ruled = ruled };
      })
