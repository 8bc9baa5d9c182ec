-- `insert`: by where the first slot that is not used stands.
use native.Mathlib.Omega.{arith}
use mathlib.Core.Path.{◌≡◌, refl, sym, ap, ◌∙◌}
use mathlib.Core.Bool.{true, false, true≢false}
use lib.Dec.{ltb}
use lib.ListN.{length}
use Rattle.std.specs.Prelude.{None, Some, is_some}
use Rattle.model.specs.Lists.{entries}
use Rattle.model.specs.Store.{slot_words}
use Rattle.pairs.specs.Searches.{first_unused}
use Rattle.pairs.proofs.First.{insert_at_holds, insert_full, unused_bound, unused_left}
use Rattle.pairs.specs.Pairs.{pair_slots}
use Rattle.pairs.proofs.Pairs.{pairs_length}
use Rattle.pairs.proofs.insert.Goals as goal

pub fill-requires : goal.fill-requires
fill-requires c =
    let place : first_unused (pair_slots 32 c.args.t.now) ≡ Some c.in-Some.i = sym (c.first_unused.ensures ∙ ap first_unused c.new.ensures) ∙ c.in-Some.is in record {
      pairs = c.requires;
      i_bound = omega (arith, unused_bound _ _ place, pairs_length 32 c.args.t.now);
    }

pub returns : goal.returns
returns c =
    let a = c.args in
    let place : first_unused (pair_slots 32 a.t.now) ≡ Some c.in-Some.i = sym (c.first_unused.ensures ∙ ap first_unused c.new.ensures) ∙ c.in-Some.is in
    let left : true ≡ ltb (length (entries (pair_slots 32 a.t.now))) 32 = sym (ap is_some place) ∙ unused_left (pair_slots 32 a.t.now) ∙ ap (ltb (length (entries (pair_slots 32 a.t.now)))) (pairs_length 32 a.t.now) in
    record { slots = c.fill.ensures ∙ sym (ap slot_words (insert_at_holds a.range (pair_slots 32 a.t.now) _ place)); place = left; full = λ z. absurd (true≢false z) }

pub returns-in_default : goal.returns-in_default
returns-in_default c =
    let a = c.args in
    let e : first_unused (pair_slots 32 a.t.now) ≡ None = sym (c.first_unused.ensures ∙ ap first_unused c.new.ensures) ∙ c.in_default.is in
    let left : false ≡ ltb (length (entries (pair_slots 32 a.t.now))) 32 = sym (ap is_some e) ∙ unused_left (pair_slots 32 a.t.now) ∙ ap (ltb (length (entries (pair_slots 32 a.t.now)))) (pairs_length 32 a.t.now) in
    record { slots = sym c.requires.plain ∙ sym (ap slot_words (insert_full a.range (pair_slots 32 a.t.now) e)); place = left; full = λ z. refl }
