-- The lists of a record that keeps the rules, taken apart: they may be listed, and they are those of the record.
use Prim.Native.Nat.{ℕ}
use mathlib.Core.Path.{◌≡◌, ap, ◌∙◌}
use mathlib.Core.List.{List}
use Rattle.model.specs.Store.{load}
use Rattle.model.specs.declared.FrameAllocator.{FrameAllocator}
use Rattle.rules.specs.Check as rules
use Rattle.rules.proofs.OpenAs.{OpenAs, apart_as, open_ruled, open_lists}
use Rattle.lists.specs.Listed.{lists_of}
use Rattle.lists.specs.Whole.{lists_in, Ruled}
use Rattle.lists.specs.declared.four_lists.FourLists.{FourLists}
use Rattle.lists.specs.declared.header.Header.{Header}
use Rattle.lists.specs.Open.{lent}
use Rattle.lists.specs.Packed.{Apart}
use Rattle.bench_answers.specs.Answered.{four_lines}

module _ (a : FrameAllocator) (ws : List ℕ) (u : rules.RuledRecord a ws) {h : Header} {es : List ℕ} (p : Apart a h es) where
  stands : OpenAs (load a ws) h es ws
  stands = apart_as a ws p u

  pub listed_ruled : Ruled h (lent h.sorted es ws)
  listed_ruled = open_ruled stands

  module _ (l : FourLists) (q : l.header ≡ h) (e : l.entries.now ≡ lent h.sorted es ws) where
    listed_is : lists_of l ≡ load a ws
    listed_is = (λ i. lists_in (q i) (e i)) ∙ open_lists stands

    pub listed_text : four_lines (lists_of l) ≡ four_lines (load a ws)
    listed_text = ap four_lines listed_is
