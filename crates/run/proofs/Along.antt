-- The calls of a run, made one after the other: what those made so far left is where those still to be made start.
use Prim.Native.Nat.{ℕ, ◌+◌, ◌*◌, ◌≤◌}
use native.Mathlib.Omega.{arith}
use mathlib.Core.Path.{◌≡◌, refl, sym, ap, subst, ◌∙◌}
use mathlib.Core.List.{List, [], ◌∷◌, ◌++◌, append_assoc, append-nil}
use lib.ListN.{length, take, drop, length-append, take-append-drop}
use lib.Seq.{length-take-le, take_at, drop_at, drop-drop}
use Rattle.model.specs.Calls.{Call, call, buffer_left}
use Rattle.model.specs.History.{outcomes, record_after, words_after, buffer_after, Demand3, Holds}
use Rattle.model.specs.declared.Answer.{Answer}
use Rattle.model.specs.declared.Called.{Called}
use Rattle.model.specs.declared.FrameAllocator.{FrameAllocator}
use Rattle.model.proofs.Claimed.{demand_3}
use Rattle.run_calls.specs.Made.{Made}
use Rattle.run.specs.declared.RunEnd.{RunEnd}
use Rattle.run.specs.Runs.{ran_to, all_answers, RunsCalls, Demanded}
use Rattle.model.specs.Words.{answer_words}

-- ---- one answer

-- the answers before it stand, with it, before the words that are as they were
module _ (s : List ℕ) (made : ℕ) (x : Answer) (h : 5 * made + 5 ≤ length s) (after : List ℕ) (e : after ≡ take (5 * made) s ++ answer_words x ++ drop (5 * made + 5) s) where
  front_length : length (take (5 * made) s ++ answer_words x) ≡ 5 * (made + 1)
  unfolding answer_words
  front_length = length-append (take (5 * made) s) (answer_words x) ∙ omega (arith, length-take-le (5 * made) s (omega arith))

  front : take (5 * (made + 1)) after ≡ take (5 * made) s ++ answer_words x
  front = ap (take (5 * (made + 1))) e ∙ take_at (take (5 * made) s ++ answer_words x) (drop (5 * made + 5) s) (5 * (made + 1)) front_length

  back : (old : List ℕ) → drop (5 * made) s ≡ drop (5 * made) old → drop (5 * (made + 1)) after ≡ drop (5 * (made + 1)) old
  back old b =
      let k : 5 * made + 5 ≡ 5 * (made + 1) = omega arith in
      ap (drop (5 * (made + 1))) e ∙ drop_at (take (5 * made) s ++ answer_words x) (drop (5 * made + 5) s) (5 * (made + 1)) front_length
      ∙ sym (drop-drop 5 (5 * made) s) ∙ ap (drop 5) b ∙ drop-drop 5 (5 * made) old ∙ ap (λ (n : ℕ). drop n old) k

-- ---- the calls made, and those left

pub record Along (all : List Call) (first : FrameAllocator) (ws₀ answers₀ held₀ : List ℕ) (made : ℕ) (rest : List Call) (a : FrameAllocator) (ws answers held : List ℕ) : Type 0 where
  pub counted : length all ≡ made + length rest
  pub records : record_after all first ws₀ ≡ record_after rest a ws
  pub words : words_after all first ws₀ ≡ words_after rest a ws
  pub answered : all_answers (outcomes all first ws₀) ≡ take (5 * made) answers ++ all_answers (outcomes rest a ws)
  pub beyond : drop (5 * made) answers ≡ drop (5 * made) answers₀
  pub buffer : buffer_after all first ws₀ held₀ ≡ buffer_after rest a ws held

pub along_start : (cs : List Call) (a : FrameAllocator) (ws answers held : List ℕ) → Along cs a ws answers held 0 cs a ws answers held
along_start cs a ws answers held =
    record { counted = omega arith; records = refl; words = refl; answered = refl; beyond = refl; buffer = refl }

module _ {all : List Call} {first : FrameAllocator} {ws₀ answers₀ held₀ : List ℕ} {made : ℕ} where
  module _ {c : Call} {rest : List Call} {a : FrameAllocator} {ws answers held : List ℕ} (s : Along all first ws₀ answers₀ held₀ made (c ∷ rest) a ws answers held) (h : 5 * made + 5 ≤ length answers) where
    called_next : (x : Answer) → x ≡ (call c a ws).answer → (held_after answers-after : List ℕ) → answers-after ≡ take (5 * made) answers ++ answer_words x ++ drop (5 * made + 5) answers →
        held_after ≡ buffer_left c a ws held →
        Along all first ws₀ answers₀ held₀ (made + 1) rest (call c a ws).allocator (call c a ws).words answers-after held_after
    unfolding record_after words_after buffer_after outcomes all_answers
    called_next x k held_after answers-after e b =
        let os = outcomes rest (call c a ws).allocator (call c a ws).words in
        record {
          counted = omega (arith, s.counted);
          records = s.records;
          words = s.words;
          answered =
              s.answered
              ∙ ap (λ (y : Answer). take (5 * made) answers ++ (answer_words y ++ all_answers os)) (sym k)
              ∙ sym (append_assoc (take (5 * made) answers) (answer_words x) (all_answers os))
              ∙ ap (λ (l : List ℕ). l ++ all_answers os) (sym (front answers made x h answers-after e));
          beyond = back answers made x h answers-after e answers₀ s.beyond;
          buffer = s.buffer ∙ ap (buffer_after rest (call c a ws).allocator (call c a ws).words) (sym b);
        }

    -- one call more
    pub along_next : {called : Called} {words-after held_after : List ℕ} → Made c a ws held called words-after held_after → (answers-after : List ℕ) →
        answers-after ≡ take (5 * made) answers ++ answer_words called.answer ++ drop (5 * made + 5) answers →
        Along all first ws₀ answers₀ held₀ (made + 1) rest called.allocator words-after answers-after held_after
    along_next {called = called} {words-after = words-after} {held_after = held_after} m answers-after e =
        let n = called_next called.answer m.gives.answers held_after answers-after e m.buffer in
        subst (λ (l : List ℕ). Along all first ws₀ answers₀ held₀ (made + 1) rest called.allocator l answers-after held_after) (sym m.gives.words)
        (subst (λ (y : FrameAllocator). Along all first ws₀ answers₀ held₀ (made + 1) rest y (call c a ws).words answers-after held_after) (sym m.gives.records) n)

  -- none is left
  pub along_end : {a : FrameAllocator} {ws answers held : List ℕ} → Along all first ws₀ answers₀ held₀ made [] a ws answers held → 5 * made ≤ length answers → (end : RunEnd) → RunsCalls all first ws₀ answers₀ held₀ (ran_to a made end) ws answers held
  unfolding record_after words_after buffer_after outcomes all_answers
  along_end {a = a} {ws = ws} {answers = answers} {held = held} s h end =
      let written : all_answers (outcomes all first ws₀) ≡ take (5 * made) answers = s.answered ∙ append-nil (take (5 * made) answers) in
      let n : length (all_answers (outcomes all first ws₀)) ≡ 5 * made = ap length written ∙ length-take-le (5 * made) answers h in
      record {
        made = omega (arith, s.counted);
        records = sym s.records;
        words = sym s.words;
        answered =
            sym (take-append-drop (5 * made) answers)
            ∙ ap (λ (l : List ℕ). take (5 * made) answers ++ l) s.beyond
            ∙ (λ i. sym written i ++ drop (sym n i) answers₀);
        buffer = sym s.buffer;
      }

-- ---- demand 3, of whatever calls are made

pub demanded : (cs : List Call) (a : FrameAllocator) (ws : List ℕ) → Demanded cs a ws
unfolding Demanded Demand3
demanded [] a ws = tt
demanded (b ∷ cs) a ws = λ xs boots fresh number f general.
    subst (λ (y : FrameAllocator). Holds xs (call b y ws).allocator (call b y ws).words cs) (sym fresh)
    (demand_3 b xs boots ws (ap (λ (y : FrameAllocator). (call b y ws).answer.number) (sym fresh) ∙ number) f general cs)
